-- The cell is incremented in place, and the other bytes are unchanged.
use Rattle.std.proofs.Common.{◌≡◌, ◌+◌, ◌-◌, ◌≤◌, ◌∙◌, length, drop, arith}
use Rattle.std.proofs.lemmas.List.{length-take-le, length-drop}
use Rattle.std.proofs.lemmas.Grind.{common_steps}
use Rattle.std.proofs.lemmas.Result.{on_ok_weaker}
use Rattle.qcow2_metadata.specs.Cells.{cell_bytes}
use Rattle.qcow2_metadata.proofs.CellLaws.{on_ok_where, raised_counter, raised_others}
use Rattle.qcow2_metadata.proofs.Raised.{raised_in_place}
use Rattle.qcow2_metadata.proofs.counter.increment.Goals as goal

pub returns-clause-raised : goal.returns-clause-raised
returns-clause-raised c =
    let a = c.first_byte-start.result in
    let k = a + c.cell_len.result - a in
    let len : k ≡ cell_bytes c.args.order = omega (arith, c.cell_len.ensures) in
    let inside : a + k ≤ length c.args.bytes.now = omega (arith, c.first_byte-start.ensures, c.requires.inside, len) in
    let same : length c.raise.new.cell ≡ k =
    c.raise.auto.cell ∙ length-take-le k (drop a c.args.bytes.now) (omega (arith, length-drop a c.args.bytes.now, inside)) in
    on_ok_weaker c.raise.result
    (λ number. raised_in_place c.args.order 1 c.args.index a k c.first_bit.result c.args.bytes.now c.raise.new.cell c.first_byte-start.ensures len c.first_bit.ensures.bit inside same (omega (arith, number)))
    c.raise.ensures.raised

pub returns-clause-possible : goal.returns-clause-possible
returns-clause-possible c = grind (arith, common_steps)

pub returns-clause-step : goal.returns-clause-step
returns-clause-step c =
    on_ok_where c.raise.result (returns-clause-possible c) (returns-clause-raised c) (λ room r. raised_counter _ _ _ _ _ r room)

pub returns-clause-others : goal.returns-clause-others
returns-clause-others c =
    on_ok_where c.raise.result (returns-clause-possible c) (returns-clause-raised c) (λ room r. raised_others _ _ _ _ _ r room)
