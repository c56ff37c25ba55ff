use Rattle.std.proofs.Common.{rules, ℕ, ◌+◌, ◌^◌, ◌≤◌, length, get_or, arith, Fits, w8}
use Rattle.imago_storage.proofs.Once.{put-at-once}
use Rattle.qcow2_metadata.proofs.clusters.write_cluster.Goals as goal

pub returns-clause-put : goal.returns-clause-put
returns-clause-put g c =
    let w = c.write in
    let low : c.args.offset + length c.args.bytes.now ≤ 2 ^ 63 = omega (arith, c.requires.fits, c.requires.size) in
    put-at-once w.result _ _ c.args.offset c.args.cluster_bits c.args.bytes.now w.ensures.unit low c.requires.size c.requires.whole w.ensures.ok w.ensures.err w.ensures.single_request w.ensures.crash_images w.ensures.shape w.ensures.counts_not_fallen

pub returns-clause-fit : goal.returns-clause-fit
returns-clause-fit g c =
    let fits : (k : ℕ) → Fits w8 (get_or c.args.bytes.now k 0) = search rules in
    λ k. (fits k).fits
