use Rattle.std.proofs.Common.{◌≡◌, ℕ, List, ◌+◌, ◌∙◌, ap, length, arith, true}
use Rattle.std.proofs.lemmas.List.{with_items_is, get_or-set_same}
use Rattle.std.specs.Vec.{with_items}
use Rattle.qcow2_metadata.specs.Cells.{counters_of}
use Rattle.qcow2_metadata.specs.Blocks.{Block, block_of, with_counter}
use Rattle.std.specs.Prelude.{slice_index}
use Rattle.qcow2_metadata.proofs.Blocks.{has_counter, seen_at, seen_bound, seen_changed, seen_order}
use Rattle.qcow2_metadata.proofs.HandingOn.{handed_on}
use Rattle.qcow2_metadata.proofs.refblock.RefBlock.raise.Goals as goal

pub increment-requires-clause-inside : goal.increment-requires-clause-inside
increment-requires-clause-inside c =
    let s = c.self.inside in
    rw c.deref_mut.ensures.value (has_counter s.refcount_order c.args.index s.bytes.items (seen_bound s c.args.self.now c.args.index c.self.view_is c.requires))

pub returns-clause-possible : goal.returns-clause-possible
returns-clause-possible c =
    let s = c.self.inside in
    let at = seen_at s c.args.self.now c.args.index c.self.view_is c.requires in
    let order = seen_order s c.args.self.now c.args.index c.self.view_is in
    let h = rw c.deref_mut.ensures.value at c.in_ok-increment.ensures.possible in
    rw at (rw order h)

pub returns-in_err-increment-clause-possible : goal.returns-in_err-increment-clause-possible
returns-in_err-increment-clause-possible c =
    let s = c.self.inside in
    let at = seen_at s c.args.self.now c.args.index c.self.view_is c.requires in
    let order = seen_order s c.args.self.now c.args.index c.self.view_is in
    let h = rw c.deref_mut.ensures.value at c.in_err-increment.ensures.possible in
    rw (handed_on _ _ c.from_residual.ensures.1) (rw at (rw order h))

pub returns-clause-raised : goal.returns-clause-raised
returns-clause-raised c =
    let s = c.self.inside in
    let new = c.increment.new.bytes in
    let n : ℕ = slice_index c.args.self.now.counters c.args.index + 1 in
    let whole : (with_items s.bytes new).items ≡ new =
    with_items_is s.bytes new (omega (arith, c.increment.auto.bytes, c.deref_mut.ensures.len)) in
    let is : block_of s.cluster_bits s.refcount_order (counters_of s.refcount_order (with_items s.bytes new).items) s.cluster true ≡ with_counter c.args.self.now c.args.index n =
    ap (λ (bs : List ℕ). block_of s.cluster_bits s.refcount_order (counters_of s.refcount_order bs) s.cluster true) whole
    ∙ seen_changed s c.args.self.now c.args.index c.self.view_is (λ (x : ℕ). x + 1) new c.requires
    (c.increment.auto.bytes ∙ ap length c.deref_mut.ensures.value)
    (rw c.deref_mut.ensures.value at c.in_ok-increment.ensures.step)
    (rw c.deref_mut.ensures.value at c.in_ok-increment.ensures.others) in
    (c.get.ensures ∙ (ap (λ (b : Block). slice_index b.counters c.args.index) is ∙ get_or-set_same c.args.self.now.counters c.args.index n 0 c.requires), is)
