use Rattle.std.proofs.Common.{◌≡◌, ◌∷◌, ℕ, cond, length, [], refl, sym, ap, length-append, arith}
use Rattle.imago_access.proofs.Answers.{handed_on}
use Rattle.imago_formats.specs.DescriptorView.{kept_names}
use Rattle.imago_formats.specs.VmdkLayer.{has_file}
use Rattle.imago_formats.proofs.ExtentLemmas.{asked_more}
use Rattle.imago_formats.proofs.OpeningLemmas.{name_at, opens_here, stops_here}
use Rattle.imago_formats.proofs.vmdk.opening.open_files.Goals as goal

pub returns-in_err-open_file-clause-err : goal.returns-in_err-open_file-clause-err
returns-in_err-open_file-clause-err g c =
    let loop = c.loop-extent in
    let next = name_at c.args.extents.now loop.extent-index loop.number c.extent-item.result c.in-Some.name.now
    c.loop-extent-test.true c.extent-item.is c.in-Some.ensures.name loop.invariant.asked in
    let full : length loop.files.items ≡ loop.number = omega (arith, loop.invariant.there, c.if-number-len.false, c.len.ensures) in
    rw (handed_on _ _ c.from_residual.ensures.1) (stops_here g.G.ImplicitOpenGate.answers (kept_names c.args.extents.now) _ loop.files.items c.open_file.new.files.items
    loop.gate c.open_file.new.gate loop.number c.in-Some.name.now c.in_err-open_file.field-0.0 loop.invariant.opens
    (c.in_err-open_file.ensures.unchanged_on_error refl) full next c.in_err-open_file.ensures.err)

pub loop-extent-preserved : goal.loop-extent-preserved
loop-extent-preserved g c =
    let loop = c.loop-extent in
    let next = name_at c.args.extents.now loop.extent-index loop.number c.extent-item.result c.in-Some.name.now
    c.loop-extent-test.true c.extent-item.is c.in-Some.ensures.name loop.invariant.asked in
    let full : length loop.files.items ≡ loop.number = omega (arith, loop.invariant.there, c.if-number-len.false, c.len.ensures) in
    let more = c.in_ok-open_file.ensures.ok in
    let one : ◌≡◌ {A = ℕ} (cond (has_file c.extent-item.result) 1 0) 1 = ap (λ t. cond t 1 0) (sym c.in-Some.ensures.some_if_file) in record {
      asked = omega (
        arith,
        loop.invariant.asked,
        one,
        asked_more c.args.extents.now loop.extent-index c.extent-item.result c.loop-extent-test.true c.extent-item.is,
      );
      there = omega (arith, full, ap length more.1, length-append loop.files.items (more.0 ∷ []));
      opens = opens_here g.G.ImplicitOpenGate.answers (kept_names c.args.extents.now) _ loop.files.items c.open_file.new.files.items
          loop.gate c.open_file.new.gate loop.number c.in-Some.name.now loop.invariant.opens full next more;
    }
