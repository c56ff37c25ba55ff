use Rattle.std.proofs.Common.{arith, get_or, length, ◌<◌}
use Rattle.std.specs.Prelude.{map}
use Rattle.imago_storage.specs.Calls.{IsFaultless}
use Rattle.imago_access.specs.Files.{UnchangedButMoreFaults}
use Rattle.imago_access.proofs.FilePairs.{kept_all_same, faultless_all_same}
use Rattle.imago_access.proofs.Answers.{handed_on}
use Rattle.imago_formats.proofs.StorageLemmas.{pairs_at, stopped_at, faultless_step, kept_step}
use Rattle.imago_formats.proofs.vmdk.storages.keep_files.Goals as goal

pub loop-i-init : goal.loop-i-init
loop-i-init g c = record { kept = kept_all_same (map g.S.Storage.state c.args.files.now); faultless = faultless_all_same (map g.S.Storage.state c.args.files.now) }

pub returns-in_err-keep_one-clause-unchanged_but_faults : goal.returns-in_err-keep_one-clause-unchanged_but_faults
returns-in_err-keep_one-clause-unchanged_but_faults g c =
    let state = g.S.Storage.state in
    let inside : c.loop-i.i < length c.loop-i.files = omega (arith, c.loop-i-test.true, c.loop-i.auto.files) in
    pairs_at state UnchangedButMoreFaults (map state c.args.files.now) c.loop-i.files c.loop-i.i c.index-files-i.result c.keep_one.new.storage inside
    (kept_step (state (get_or c.loop-i.files c.loop-i.i c.index-files-i.result)) (state c.keep_one.new.storage) c.keep_one.ensures.unchanged_but_faults) c.loop-i.invariant.kept

pub returns-in_err-keep_one-clause-err : goal.returns-in_err-keep_one-clause-err
returns-in_err-keep_one-clause-err g c =
    let state = g.S.Storage.state in
    let inside : c.loop-i.i < length c.loop-i.files = omega (arith, c.loop-i-test.true, c.loop-i.auto.files) in
    rw (handed_on _ _ c.from_residual.ensures.1) (stopped_at state (map state c.args.files.now) c.loop-i.files c.loop-i.i c.index-files-i.result c.keep_one.new.storage c.in_err-keep_one.field-0.0 inside
    c.in_err-keep_one.ensures.err c.loop-i.invariant.faultless)

pub loop-i-preserved : goal.loop-i-preserved
loop-i-preserved g c =
    let state = g.S.Storage.state in
    let inside : c.loop-i.i < length c.loop-i.files = omega (arith, c.loop-i-test.true, c.loop-i.auto.files) in record {
      kept = pairs_at state UnchangedButMoreFaults (map state c.args.files.now) c.loop-i.files c.loop-i.i c.index-files-i.result c.keep_one.new.storage inside
          (kept_step (state (get_or c.loop-i.files c.loop-i.i c.index-files-i.result)) (state c.keep_one.new.storage) c.keep_one.ensures.unchanged_but_faults) c.loop-i.invariant.kept;
      faultless = pairs_at state IsFaultless (map state c.args.files.now) c.loop-i.files c.loop-i.i c.index-files-i.result c.keep_one.new.storage inside
          (faultless_step (state (get_or c.loop-i.files c.loop-i.i c.index-files-i.result)) (state c.keep_one.new.storage) c.in_ok-keep_one.ensures.ok) c.loop-i.invariant.faultless;
    }
