use Rattle.std.proofs.Common.{◌≡◌, ◌+◌, ◌-◌, ◌<◌, ◌≤◌, ◌^◌, arith, sym, subst, ◌∙◌}
use Rattle.std.specs.Prelude.{slice_index}
use Rattle.std.proofs.lemmas.Nat.{pow_pos}
use Rattle.std.proofs.Math.Nat.{pow-le-pow_right}
use Rattle.qcow2_metadata.specs.Blocks.{Block}
use Rattle.qcow2_alloc.proofs.Blocks.RunCounts.{covers-behind}
use Rattle.qcow2_alloc.proofs.allocation.making_blocks.count_row.Goals as goal

-- A counter has at least one bit, and this one is still 0.
pub unreachable-requires : goal.unreachable-requires
unreachable-requires c =
    let bits = pow_pos c.loop-index.block.order in
    let room : 2 ^ 1 ≤ 2 ^ 2 ^ c.loop-index.block.order = pow-le-pow_right (omega arith) bits in
    let from = c.loop-index.invariant.0 in
    let zero : slice_index c.loop-index.block.counters c.loop-index.index ≡ 0 =
    c.loop-index.invariant.4 c.loop-index.index ∙ covers-behind c.loop-index.index c.args.from (c.loop-index.index - c.args.from) (omega (arith, from)) in
    let fits = subst (λ (b : Block). slice_index b.counters c.loop-index.index + 1 < 2 ^ 2 ^ b.order) (sym c.lock_write.ensures.value) (omega (arith, zero, room)) in
    let no = c.in-Err.ensures.possible.1 fits in
    absurd (cc)
