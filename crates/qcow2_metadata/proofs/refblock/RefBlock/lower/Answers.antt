use Rattle.std.proofs.Common.{◌≡◌, ℕ, List, ◌-◌, ◌∙◌, ap, length, arith, true}
use Rattle.std.proofs.lemmas.List.{with_items_is, get_or-set_same}
use Rattle.std.specs.Vec.{with_items}
use Rattle.qcow2_metadata.specs.Cells.{counters_of}
use Rattle.qcow2_metadata.specs.Blocks.{Block, block_of, with_counter}
use Rattle.std.specs.Prelude.{slice_index}
use Rattle.qcow2_metadata.proofs.Blocks.{has_counter, seen_at, seen_bound, seen_changed}
use Rattle.qcow2_metadata.proofs.HandingOn.{handed_on}
use Rattle.qcow2_metadata.proofs.refblock.RefBlock.lower.Goals as goal

pub decrement_by-requires-clause-inside : goal.decrement_by-requires-clause-inside
decrement_by-requires-clause-inside c =
    let s = c.self.inside in
    rw c.deref_mut.ensures.value (has_counter s.refcount_order c.args.index s.bytes.items (seen_bound s c.args.self.now c.args.index c.self.view_is c.requires))

pub returns-clause-possible : goal.returns-clause-possible
returns-clause-possible c =
    let s = c.self.inside in
    let at = seen_at s c.args.self.now c.args.index c.self.view_is c.requires in
    let h = rw c.deref_mut.ensures.value at c.in_ok-decrement_by.ensures.possible in
    rw at h

pub returns-in_err-decrement_by-clause-possible : goal.returns-in_err-decrement_by-clause-possible
returns-in_err-decrement_by-clause-possible c =
    let s = c.self.inside in
    let at = seen_at s c.args.self.now c.args.index c.self.view_is c.requires in
    let h = rw c.deref_mut.ensures.value at c.in_err-decrement_by.ensures.possible in
    rw (handed_on _ _ c.from_residual.ensures.1) (rw at h)

pub returns-clause-lowered : goal.returns-clause-lowered
returns-clause-lowered c =
    let s = c.self.inside in
    let new = c.decrement_by.new.bytes in
    let n : ℕ = slice_index c.args.self.now.counters c.args.index - c.args.by in
    let whole : (with_items s.bytes new).items ≡ new =
    with_items_is s.bytes new (omega (arith, c.decrement_by.auto.bytes, c.deref_mut.ensures.len)) in
    let is : block_of s.cluster_bits s.refcount_order (counters_of s.refcount_order (with_items s.bytes new).items) s.cluster true ≡ with_counter c.args.self.now c.args.index n =
    ap (λ (bs : List ℕ). block_of s.cluster_bits s.refcount_order (counters_of s.refcount_order bs) s.cluster true) whole
    ∙ seen_changed s c.args.self.now c.args.index c.self.view_is (λ (x : ℕ). x - c.args.by) new c.requires
    (c.decrement_by.auto.bytes ∙ ap length c.deref_mut.ensures.value)
    (omega (arith, rw c.deref_mut.ensures.value at c.in_ok-decrement_by.ensures.step))
    (rw c.deref_mut.ensures.value at c.in_ok-decrement_by.ensures.others) in
    (c.get.ensures ∙ (ap (λ (b : Block). slice_index b.counters c.args.index) is ∙ get_or-set_same c.args.self.now.counters c.args.index n 0 c.requires), is)
