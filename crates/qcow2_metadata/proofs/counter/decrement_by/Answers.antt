-- The cell is lowered in place, and the other bytes are unchanged.
use Rattle.std.proofs.Common.{sym, ◌≡◌, ◌+◌, ◌-◌, ◌≤◌, ◌∙◌, length, drop, arith}
use Rattle.std.proofs.lemmas.List.{length-take-le, length-drop}
use Rattle.std.proofs.lemmas.Grind.{common_steps}
use Rattle.std.proofs.lemmas.Result.{on_ok_weaker}
use Rattle.qcow2_metadata.specs.Cells.{cell_bytes}
use Rattle.qcow2_metadata.proofs.CellLaws.{lowered_counter, on_ok_where, raised_counter, raised_others}
use Rattle.qcow2_metadata.proofs.Raised.{lowered_in_place}
use Rattle.qcow2_metadata.proofs.counter.decrement_by.Goals as goal

pub returns-clause-lowered : goal.returns-clause-lowered
returns-clause-lowered c =
    let a = c.first_byte-start.result in
    let k = a + c.cell_len.result - a in
    let len : k ≡ cell_bytes c.args.order = omega (arith, c.cell_len.ensures) in
    let inside : a + k ≤ length c.args.bytes.now = omega (arith, c.first_byte-start.ensures, c.requires.inside, len) in
    let same : length c.lower.new.cell ≡ k =
    c.lower.auto.cell ∙ length-take-le k (drop a c.args.bytes.now) (omega (arith, length-drop a c.args.bytes.now, inside)) in
    on_ok_weaker c.lower.result
    (λ number. lowered_in_place c.args.order c.args.by c.args.index a k c.first_bit.result c.args.bytes.now c.lower.new.cell c.first_byte-start.ensures len c.first_bit.ensures.bit inside same number)
    c.lower.ensures.lowered

pub returns-clause-possible : goal.returns-clause-possible
returns-clause-possible c = grind (arith, common_steps)

pub returns-clause-step : goal.returns-clause-step
returns-clause-step c =
    on_ok_where c.lower.result (returns-clause-possible c) (returns-clause-lowered c)
    (λ some r. sym (raised_counter _ _ _ _ _ r (lowered_counter _ _ _ _ _ r some)))

pub returns-clause-others : goal.returns-clause-others
returns-clause-others c =
    on_ok_where c.lower.result (returns-clause-possible c) (returns-clause-lowered c)
    (λ some r j ne. sym (raised_others _ _ _ _ _ r (lowered_counter _ _ _ _ _ r some) j ne))
