use Rattle.std.proofs.Common.{◌≡◌, ℕ, ◌+◌, ◌-◌, ◌*◌, ◌^◌, ◌≤◌, arith, length, refl, replicate}
use Rattle.std.proofs.Math.Nat.{mul-le-mul_right}
use Rattle.std.proofs.Math.Pow.{pow_mono}
use Rattle.std.proofs.lemmas.List.{length-replicate}
use Rattle.imago_storage.proofs.Once.{put-below}
use Rattle.qcow2_types.specs.Header.{cluster_size}
use Rattle.qcow2_clusters.proofs.FileEnds.{ends-at, ends-low, reached-before, zeroes-reach}
use Rattle.qcow2_clusters.proofs.storing.reach_end.Goals as goal

pub offset-requires-clause-fits : goal.offset-requires-clause-fits
offset-requires-clause-fits g c =
    let h = c.args.file.now.header.fields in
    let most : 2 ^ h.cluster_bits ≤ 2 ^ 21 = pow_mono c.cluster_bits.ensures.shaped.high in
    let low = ends-low c.args.first c.args.count h.cluster_bits c.requires.any most c.requires.reach in
    let same : c.add.result * 2 ^ c.cluster_bits.result ≡ (c.args.first + c.args.count) * 2 ^ h.cluster_bits = cc in
    omega (arith, low, same)

pub returns-then-end-long : goal.returns-then-end-long
returns-then-end-long g c =
    let h = c.args.file.now.header.fields in
    let end : c.end.inside.0 ≡ (c.args.first + c.args.count) * cluster_size h = cc in
    let long = c.size-long.ensures.value in
    let there = c.if-end-long.true in
    reached-before g.S.Storage.state c.args.first c.args.count c.args.file.now (omega (arith, end, long, there))

pub returns : goal.returns
returns g c =
    let h = c.args.file.now.header.fields in
    let x = c.args.first in
    let n = c.args.count in
    let w = c.write_zeroes in
    let before = g.S.Storage.state c.args.file.now.image in
    let after = g.S.Storage.state w.new.self in
    let from : ℕ = c.max-from.result in
    let most : 2 ^ h.cluster_bits ≤ 2 ^ 21 = pow_mono c.cluster_bits.ensures.shaped.high in
    let low = ends-low x n h.cluster_bits c.requires.any most c.requires.reach in
    let whole = ends-at x n (cluster_size h) c.requires.any in
    let first : x * cluster_size h ≤ (x + (n - 1)) * cluster_size h =
    mul-le-mul_right (cluster_size h) (let le : x ≤ x + (n - 1) = omega arith in le) in
    let end : c.end.inside.0 ≡ (x + n) * cluster_size h = cc in
    let size = c.cluster_size-size.ensures.value in
    let some = c.cluster_size-size.ensures.bounds.0 in
    let long = c.size-long.ensures.value in
    let short = c.if-end-long.false in
    let last = c.saturating_sub.ensures in
    let most-from = c.max-from.ensures in
    let count : ℕ = c.end.inside.0 - c.max-from.result in
    let zeroes : length (replicate {A = ℕ} (c.end.inside.0 - c.max-from.result) 0) ≡ c.end.inside.0 - c.max-from.result =
    length-replicate {A = ℕ} (c.end.inside.0 - c.max-from.result) 0 in
    let put = put-below w.result before after from (replicate (c.end.inside.0 - c.max-from.result) 0) w.ensures.unit
    (omega (arith, low, end, zeroes, short, long, last, most-from)) w.ensures.ok w.ensures.err w.ensures.crash_images w.ensures.shape w.ensures.counts_not_fallen in
    zeroes-reach g.S.Storage.state x n c.args.file.now w.result _ from count (omega (arith, first, whole, end, size, last, most-from))
    (omega (arith, long, most-from)) (omega (arith, short, last, most-from, some)) (omega (arith, end, short, last, most-from)) refl
    w.ensures.unit w.ensures.ok put
