use Rattle.std.proofs.Common.{◌≡◌, ◌+◌, ◌^◌, ◌<◌, ◌≤◌, arith, sym, subst}
use Rattle.std.specs.Prelude.{slice_index}
use Rattle.std.proofs.lemmas.Bool.{eqb-true}
use Rattle.std.proofs.lemmas.Nat.{pow_pos}
use Rattle.std.proofs.Math.Nat.{pow-le-pow_right}
use Rattle.qcow2_metadata.specs.Blocks.{Block}
use Rattle.qcow2_alloc.proofs.allocation.counting.increment_counter.Goals as goal

-- A counter has at least one bit.
pub returns-in_err-_value : goal.returns-in_err-_value
returns-in_err-_value c =
    let bits = pow_pos c.args.block.now.order in
    let room : 2 ^ 1 ≤ 2 ^ 2 ^ c.args.block.now.order = pow-le-pow_right (omega arith) bits in
    let is = c.if-not-is_zero.ensures in
    let zero : slice_index c.args.block.now.counters c.args.index ≡ 0 = eqb-true (slice_index c.args.block.now.counters c.args.index) 0 (sym is) in
    let fits = subst (λ (b : Block). slice_index b.counters c.args.index + 1 < 2 ^ 2 ^ b.order) (sym c.lock_write.ensures.value) (omega (arith, zero, room)) in
    let no = c.in_err-_value.ensures.possible.1 fits in
    absurd (cc)
