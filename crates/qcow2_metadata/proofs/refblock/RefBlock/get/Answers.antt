use Rattle.std.proofs.Common.{ℕ, List, ◌∙◌, ap, sym}
use Rattle.qcow2_metadata.specs.Cells.{counter}
use Rattle.qcow2_metadata.proofs.Blocks.{has_counter, seen_at, seen_bound}
use Rattle.qcow2_metadata.proofs.refblock.RefBlock.get.Goals as goal

pub get-requires-clause-inside : goal.get-requires-clause-inside
get-requires-clause-inside c =
    let s = c.self.inside in
    rw c.deref.ensures.value (has_counter s.refcount_order c.args.index s.bytes.items (seen_bound s c.args.self.now c.args.index c.self.view_is c.requires))

pub returns : goal.returns
returns c =
    let s = c.self.inside in
    c.get.ensures
    ∙ ap (λ (bs : List ℕ). counter s.refcount_order bs c.args.index) c.deref.ensures.value
    ∙ sym (seen_at s c.args.self.now c.args.index c.self.view_is c.requires)
