use Rattle.std.proofs.Common.{◌≡◌, ℕ, ◌+◌, ◌-◌, ◌≤◌, length, refl, arith, subst, take, drop, length-take, length-drop, ap, sym}
use Rattle.imago_access.proofs.Answers.{handed_on}
use Rattle.qcow2_types.specs.Bytes.{Bytes}
use Rattle.qcow2_metadata.specs.Loading.{file}
use Rattle.qimg_core.specs.Plain.{NotShown, image_value}
use Rattle.qimg_core.proofs.Calls.{kept-file}
use Rattle.qimg_core.proofs.PlainReads.Pieces.{shown-short}
use Rattle.qimg_core.proofs.plain.pieces.read_tables.Goals as goal

pub returns-in_err-read_table-clause-err : goal.returns-in_err-read_table-clause-err
returns-in_err-read_table-clause-err g c =
    let old = g.S.Storage.state c.args.image.now in
    let now = g.S.Storage.state c.loop-done.image in
    let new = g.S.Storage.state c.read_table.new.image in
    let h = c.args.header.now.fields in
    let place : ℕ = c.args.at + c.loop-done.done in
    let most : c.loop-done.done + c.in_table-n.result ≤ length c.args.buf.now = omega (arith, c.in_table-n.ensures.most, c.loop-done.auto.buf) in
    let long : length (take (c.loop-done.done + c.in_table-n.result - c.loop-done.done) (drop c.loop-done.done c.loop-done.buf)) ≡ c.in_table-n.result =
    omega (arith, length-take (c.loop-done.done + c.in_table-n.result - c.loop-done.done) (drop c.loop-done.done c.loop-done.buf), length-drop c.loop-done.done c.loop-done.buf, c.in_table-n.ensures.most) in
    rw (handed_on _ _ c.from_residual.ensures.1) (shown-short (image_value (file old) h) (image_value (file now) h) old now new c.args.at c.loop-done.done c.in_table-n.result place (length c.args.buf.now) c.loop-done.buf c.in_err-read_table.field-0.0 c.loop-done.invariant most refl
    (λ i lt. ap (λ (f : Bytes). image_value f h (place + i)) (sym (kept-file old now c.loop-done.invariant.kept)))
    (subst (λ k. NotShown (image_value (file now) h) now new place k c.in_err-read_table.field-0.0) long c.in_err-read_table.ensures.err))
