use Rattle.std.proofs.Common.{ℕ, ◌<◌, ◌^◌, ap, sym, ◌∙◌, arith, replicate}
use Rattle.std.proofs.lemmas.Nat.{pow_pos}
use Rattle.std.proofs.Math.Pow.{pow-lt}
use Rattle.qcow2_metadata.specs.Blocks.{Block}
use Rattle.qcow2_alloc.proofs.Blocks.NewBlocks.{ClearedAt, cleared-at}
use Rattle.qcow2_alloc.proofs.allocation.making_blocks.own_block.Goals as goal

pub increment-requires : goal.increment-requires
increment-requires c =
    (cleared-at c.lock_write.result.block.now.counters c.rt_rb_indices-rb_index.result.1 (2 ^ c.rb_bits.result) c.args.place
    (ap (λ (b : Block). b.counters) (c.lock_write.ensures.value ∙ c.in_ok-block.ensures.ok) ∙ ap (λ n. replicate n 0) (sym c.rb_bits.ensures.entries)) (pow_pos c.rb_bits.result) (ap (λ (p : ℕ × ℕ). p.1) c.rt_rb_indices-rb_index.ensures)).inside

pub unreachable-requires : goal.unreachable-requires
unreachable-requires c =
    let cleared : ClearedAt c.lock_write.result.block.now.counters c.rt_rb_indices-rb_index.result.1 =
    cleared-at c.lock_write.result.block.now.counters c.rt_rb_indices-rb_index.result.1 (2 ^ c.rb_bits.result) c.args.place
    (ap (λ (b : Block). b.counters) (c.lock_write.ensures.value ∙ c.in_ok-block.ensures.ok) ∙ ap (λ n. replicate n 0) (sym c.rb_bits.ensures.entries)) (pow_pos c.rb_bits.result) (ap (λ (p : ℕ × ℕ). p.1) c.rt_rb_indices-rb_index.ensures) in
    let wide : 0 < 2 ^ c.lock_write.result.block.now.order = pow_pos c.lock_write.result.block.now.order in
    let more : 2 ^ 0 < 2 ^ 2 ^ c.lock_write.result.block.now.order = pow-lt wide in
    let zero = cleared.zero in
    let no = c.in-Err.ensures.possible.1 (omega (arith, zero, more)) in
    cc no
