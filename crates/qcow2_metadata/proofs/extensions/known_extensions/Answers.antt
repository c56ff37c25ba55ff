use Rattle.std.proofs.Common.{◌≡◌, ◌+◌, ◌-◌, ◌/◌, ◌≤◌, ◌∙◌, ap, arith, length, Ok, Some}
use Rattle.std.specs.Option.{option_copied, option_map}
use Rattle.std.proofs.lemmas.Result.{err_from_is_err_and}
use Rattle.qcow2_types.specs.Bytes.{bytes_of}
use Rattle.qcow2_types.specs.Header.{extension_at, extensions_at}
use Rattle.qcow2_metadata.specs.Extensions.{Known, seen_extension, known_of}
use Rattle.qcow2_metadata.proofs.ExtensionLemmas.{with_rest-nothing, known-err, goes_on, ends_none, ends_err, is_done}
use Rattle.qcow2_metadata.proofs.extensions.known_extensions.Goals as goal
use Rattle.qcow2_metadata.proofs.extensions.known_extensions.Goals.{else-loop-test, then-loop-test+in_ok-extension+in_default}

pub loop-init : goal.loop-init
loop-init c =
    let all = extensions_at (length c.args.bytes.now / 8) (bytes_of c.args.bytes.now) c.args.area_end c.args.start in
    let none : length c.args.bytes.now / 8 - 0 ≡ length c.args.bytes.now / 8 = omega arith in
    (rw none (with_rest-nothing all), omega arith)

pub returns-in_err-extension-clause-err : goal.returns-in_err-extension-clause-err
returns-in_err-extension-clause-err c =
    let p = err_from_is_err_and c.from_residual.result c.from_residual.ensures.1 in
    let f = bytes_of c.args.bytes.now in
    let limit = length c.args.bytes.now / 8 in
    let all = extensions_at limit f c.args.area_end c.args.start in
    let known : Known = record { backing_format = option_copied c.loop.backing_format; data_file_name = option_copied c.loop.external_data_filename; feature_names = option_copied c.loop.feature_names } in
    rw (p.1, p.2) (known-err all _ (ends_err f c.args.area_end known (known_of all) limit c.loop.counter c.loop.at c.loop.invariant.0 _ c.loop-test.true c.in_err-extension.ensures.err))

pub loop-preserved : goal.loop-preserved
loop-preserved c =
    let f = bytes_of c.args.bytes.now in
    let limit = length c.args.bytes.now / 8 in
    let x = c.in-Some.extension in
    let known : Known = record { backing_format = option_copied c.loop.backing_format; data_file_name = option_copied c.loop.external_data_filename; feature_names = option_copied c.loop.feature_names } in
    let here : extension_at f c.args.area_end c.loop.at ≡ Ok (Some (seen_extension x)) = c.in_ok-extension.ensures.ok ∙ ap (λ o. Ok (option_map seen_extension o)) c.in-Some.is in
    let within : c.loop.at + 8 + length x.bytes.now ≤ c.args.area_end = rw c.in-Some.is at c.in_ok-extension.ensures.within in (
      rw (c.bytes_or-backing_format.ensures, c.bytes_or-external_data_filename.ensures, c.bytes_or-feature_names.ensures)
          (goes_on f c.args.area_end known _ limit c.loop.counter c.loop.at c.loop.invariant.0 c.loop-test.true (seen_extension x) here),
      omega arith,
    )

pub returns-clause-ok : goal.returns-clause-ok
returns-clause-ok c =
    let f = bytes_of c.args.bytes.now in
    let limit = length c.args.bytes.now / 8 in
    let known : Known = record { backing_format = option_copied c.loop.backing_format; data_file_name = option_copied c.loop.external_data_filename; feature_names = option_copied c.loop.feature_names } in
    elim c.loop-test.branch [
      | else-loop-test w ↦ is_done f c.args.area_end known _ limit c.loop.counter c.loop.at c.loop.invariant.0 w.loop-test.false
      | then-loop-test+in_ok-extension+in_default w ↦
          ends_none f c.args.area_end known _ limit c.loop.counter c.loop.at c.loop.invariant.0 w.loop-test.true
          (w.in_ok-extension.ensures.ok ∙ ap (λ o. Ok (option_map seen_extension o)) w.in_default.is)
    ]
