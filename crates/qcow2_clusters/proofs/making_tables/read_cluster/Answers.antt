use Rattle.std.proofs.Common.{◌≡◌, ◌+◌, ◌*◌, ◌^◌, ◌≤◌, ap, arith, length, ◌∙◌}
use Rattle.std.proofs.Math.Pow.{pow_mono}
use Rattle.std.proofs.lemmas.List.{length-replicate}
use Rattle.imago_storage.proofs.Once.{read-below}
use Rattle.qcow2_types.specs.Header.{cluster_size}
use Rattle.qcow2_alloc.proofs.Faults.{handed-on}
use Rattle.qcow2_clusters.proofs.making_tables.read_cluster.Goals as goal

pub returns-in_err-read-clause-faults : goal.returns-in_err-read-clause-faults
returns-in_err-read-clause-faults g c = rw (handed-on _ _ c.from_residual-in_err-read.ensures.1) (
    let h = c.args.file.now.header.fields in
    let before = g.S.Storage.state c.args.file.now.image in
    let after = g.S.Storage.state c.read.new.self in
    let most : 2 ^ h.cluster_bits ≤ 2 ^ 21 = pow_mono c.cluster_bits.ensures.shaped.high in
    let reach = c.requires.reach in
    let at : c.place.inside.0 ≡ c.args.cluster * cluster_size h = cc in
    let long : length c.deref_mut.result.now ≡ cluster_size h =
    ap length (c.deref_mut.ensures.value ∙ c.in_ok-bytes.ensures.ok) ∙ length-replicate (cluster_size h) 0 in
    let low : c.place.inside.0 + length c.deref_mut.result.now ≤ 2 ^ 63 = omega (arith, most, reach, long, at) in
    read-below before after c.place.inside.0 (length c.deref_mut.result.now) c.in_err-read.field-0.0 c.read.ensures.unit low
    c.in_err-read.ensures.err)
