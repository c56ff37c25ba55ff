use Rattle.std.proofs.Common.{◌≡◌, ◌*◌, ◌^◌, ap, arith}
use Rattle.std.proofs.lemmas.Nat.{pow_pos}
use Rattle.qcow2_alloc.proofs.cache.RefBlockCacheBackendAsyncLruCacheBackend.load.Goals as goal

pub prove-unreachable-requires : goal.prove-unreachable-requires
prove-unreachable-requires g c =
    let block = c.in_ok-block.block in
    let some = pow_pos block.cluster_bits in
    let none : c.entries.result * 2 ^ block.order ≡ 0 * 2 ^ block.order = ap (λ n. n * 2 ^ block.order) (omega (arith, c.if-prove.true)) in
    omega (arith, some, none, c.entries.ensures.whole)
