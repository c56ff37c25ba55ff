use Rattle.std.proofs.Common.{◌≡◌, ◌+◌, ◌-◌, ◌*◌, refl, subst}
use Rattle.imago_storage.specs.State.{StorageState}
use Rattle.qcow2_types.specs.Header.{cluster_size}
use Rattle.qcow2_clusters.proofs.Settlement.{done_so, refused_so}
use Rattle.qcow2_clusters.proofs.ZeroRuns.{Zeroed, left-as, not-zeroed, run-zeroed}
use Rattle.qcow2_clusters.proofs.storing.zero_run.Goals as goal

pub returns-in-None : goal.returns-in-None
returns-in-None g c =
    let h = c.args.file.now.header.fields in
    let w = c.write_zeroes in
    let start : c.start.inside.0 ≡ c.args.first * cluster_size h = cc in
    let end : c.length.inside.0 ≡ (c.args.first + c.args.count) * cluster_size h = cc in
    run-zeroed g.S.Storage.state c.args.first c.args.count c.args.file.now w.result _ c.start.inside.0 c.length.inside.0 c.requires.any
    c.cluster_bits-cluster_bits.ensures.shaped.high c.requires.reach start end refl
    (w.ensures.ok, w.ensures.err, w.ensures.crash_images, w.ensures.shape, w.ensures.counts_not_fallen, w.ensures.unit)

pub returns-in-Ok : goal.returns-in-Ok
returns-in-Ok g c =
    let h = c.args.file.now.header.fields in
    let w = c.write_allocated_zeroes in
    let start : c.start.inside.0 ≡ c.args.first * cluster_size h = cc in
    let end : c.length.inside.0 ≡ (c.args.first + c.args.count) * cluster_size h = cc in
    run-zeroed g.S.Storage.state c.args.first c.args.count c.args.file.now done_so _ c.start.inside.0 c.length.inside.0 c.requires.any
    c.cluster_bits-cluster_bits.ensures.shaped.high c.requires.reach start end refl
    (c.in-Ok.ensures.ok, tt, w.ensures.crash_images, w.ensures.shape, w.ensures.counts_not_fallen, w.ensures.unit)

-- Nothing has changed when the storage says that it can't keep zeroes allocated.
pub returns-in-Unsupported : goal.returns-in-Unsupported
returns-in-Unsupported g c =
    let state = g.S.Storage.state in
    let h = c.args.file.now.header.fields in
    let w = c.write_full_zeroes in
    let start : c.start.inside.0 ≡ c.args.first * cluster_size h = cc in
    let end : c.length.inside.0 ≡ (c.args.first + c.args.count) * cluster_size h = cc in
    let same = left-as (state c.args.file.now.image) (state c.write_allocated_zeroes.new.self) c.start.inside.0
    (c.length.inside.0 - c.start.inside.0) c.in-Err.fault c.in-Unsupported.is c.in-Err.ensures.err in
    run-zeroed state c.args.first c.args.count c.args.file.now w.result _ c.start.inside.0 c.length.inside.0 c.requires.any
    c.cluster_bits-cluster_bits.ensures.shaped.high c.requires.reach start end refl
    (subst (λ (s : StorageState). Zeroed w.result s (state w.new.storage) c.start.inside.0 (c.length.inside.0 - c.start.inside.0)) same
    (w.ensures.ok, w.ensures.err, w.ensures.crash_images, w.ensures.shape, w.ensures.counts_not_fallen, w.ensures.unit))

pub returns-in_default : goal.returns-in_default
returns-in_default g c =
    let state = g.S.Storage.state in
    let h = c.args.file.now.header.fields in
    let w = c.write_allocated_zeroes in
    let start : c.start.inside.0 ≡ c.args.first * cluster_size h = cc in
    let end : c.length.inside.0 ≡ (c.args.first + c.args.count) * cluster_size h = cc in
    run-zeroed state c.args.first c.args.count c.args.file.now (refused_so c.in-Err.fault) _ c.start.inside.0 c.length.inside.0 c.requires.any
    c.cluster_bits-cluster_bits.ensures.shaped.high c.requires.reach start end refl (
      tt,
      not-zeroed (state c.args.file.now.image) (state w.new.self) c.start.inside.0 (c.length.inside.0 - c.start.inside.0) c.in-Err.fault
          c.in_default.not-Unsupported c.in-Err.ensures.err,
      w.ensures.crash_images,
      w.ensures.shape,
      w.ensures.counts_not_fallen,
      w.ensures.unit,
    )

pub returns-in-WriteData : goal.returns-in-WriteData
returns-in-WriteData g c =
    let h = c.args.file.now.header.fields in
    let w = c.write_full_zeroes-in-WriteData in
    let start : c.start.inside.0 ≡ c.args.first * cluster_size h = cc in
    let end : c.length.inside.0 ≡ (c.args.first + c.args.count) * cluster_size h = cc in
    run-zeroed g.S.Storage.state c.args.first c.args.count c.args.file.now w.result _ c.start.inside.0 c.length.inside.0 c.requires.any
    c.cluster_bits-cluster_bits.ensures.shaped.high c.requires.reach start end refl
    (w.ensures.ok, w.ensures.err, w.ensures.crash_images, w.ensures.shape, w.ensures.counts_not_fallen, w.ensures.unit)
