use Rattle.std.proofs.Common.{ap, refl}
use Rattle.qcow2_alloc.specs.Memory.{Cached}
use Rattle.qcow2_clusters.specs.Flushed.{clusters_state}
use Rattle.qcow2_clusters.proofs.LeaksAtRest.{leaks-lowered}
use Rattle.qcow2_clusters.proofs.StartsAtRest.{freed-unpinned}
use Rattle.qcow2_clusters.proofs.lowering.lower_leaks.Goals as goal

pub lower_each-lowered-requires : goal.lower_each-lowered-requires
lower_each-lowered-requires g c = ap (λ (cached : Cached). cached.tables) c.requires.caches_empty

pub write_back-requires : goal.write_back-requires
write_back-requires g c =
    let lowered = c.lower_each-lowered in
    let does = (lowered.ensures.lowers c.args.space.now.to_free.entries).does in
    record { unpinned = freed-unpinned c.args.caches.now lowered.new.caches c.requires.caches_empty does.room does.pins }

pub returns : goal.returns
returns g c =
    let lowered = c.lower_each-lowered in
    let state = g.S.Storage.state in
    let old = clusters_state c.args.file.now c.args.caches.now c.args.space.now in
    let mid = clusters_state lowered.new.file lowered.new.caches (record { allocator = lowered.new.allocator; to_free = c.args.space.now.to_free }) in
    leaks-lowered state c.args.pairs.now old c.requires.caches_empty c.requires.room mid lowered.result (lowered.ensures.lowers c.args.space.now.to_free.entries)
    c.write_back.result c.write_back.new.file c.write_back.new.caches c.write_back.ensures refl
