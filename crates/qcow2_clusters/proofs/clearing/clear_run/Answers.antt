use Rattle.std.proofs.Common.{ap, refl, subst}
use Rattle.qcow2_alloc.specs.Memory.{Cached}
use Rattle.qcow2_clusters.specs.Clearing.{AreUnder}
use Rattle.qcow2_clusters.specs.Flushed.{clusters_state, flushed_metadata}
use Rattle.qcow2_clusters.specs.WritingBack.{WritesBack, without_tables}
use Rattle.qcow2_clusters.proofs.ClearsAtRest.{clears-by, clears-keep}
use Rattle.qcow2_clusters.proofs.SettingAtRest.{leaves-none}
use Rattle.qcow2_clusters.proofs.Settlement.{done_so, refused_so, without-none}
use Rattle.qcow2_clusters.proofs.clearing.clear_run.Goals as goal

pub returns-in-Ok-clause-clears : goal.returns-in-Ok-clause-clears
returns-in-Ok-clause-clears g c =
    let called = c.clear_in_table-cleared in
    clears-by g.S.Storage.state c.args.clearing c.args.table c.args.guest c.args.count (clusters_state c.args.file.now c.args.caches.now c.args.space.now)
    (clusters_state c.write_back_keeping_tables.new.file (without_tables c.write_back_keeping_tables.new.caches) (record { allocator = c.args.space.now.allocator; to_free = called.new.to_free }))
    called.new.caches called.new.file done_so c.write_back_keeping_tables.result c.requires.caches_empty c.requires.room c.requires.any c.requires.possible
    c.requires.row refl c.in-Ok.ensures.held c.write_back_keeping_tables.ensures.settles c.in-Ok.ensures.cleared

pub returns-in-Ok-clause-leaves : goal.returns-in-Ok-clause-leaves
returns-in-Ok-clause-leaves g c =
    let called = c.clear_in_table-cleared in
    clears-keep g.S.Storage.state c.args.clearing c.args.table c.args.guest c.args.count (clusters_state c.args.file.now c.args.caches.now c.args.space.now)
    (clusters_state c.write_back_keeping_tables.new.file (without_tables c.write_back_keeping_tables.new.caches) (record { allocator = c.args.space.now.allocator; to_free = called.new.to_free }))
    called.new.caches called.new.file done_so c.write_back_keeping_tables.result c.requires.caches_empty c.requires.room c.requires.any c.requires.possible
    c.requires.row refl c.in-Ok.ensures.held c.write_back_keeping_tables.ensures.settles c.write_back_keeping_tables.new.caches
    c.write_back_keeping_tables.ensures.keeps_tables c.in-Ok.ensures.cleared

pub returns-in-Err-clause-clears : goal.returns-in-Err-clause-clears
returns-in-Err-clause-clears g c =
    let called = c.clear_in_table-cleared in
    let new = c.write_back.new.caches in
    let refused = refused_so c.in-Err.fault in
    clears-by g.S.Storage.state c.args.clearing c.args.table c.args.guest c.args.count (clusters_state c.args.file.now c.args.caches.now c.args.space.now)
    (clusters_state c.write_back.new.file (without_tables new) (record { allocator = c.args.space.now.allocator; to_free = called.new.to_free }))
    called.new.caches called.new.file refused c.write_back.result c.requires.caches_empty c.requires.room c.requires.any c.requires.possible
    c.requires.row refl c.in-Err.ensures.held
    (subst (WritesBack g.S.Storage.state refused called.new.file called.new.caches c.write_back.result c.write_back.new.file)
    (without-none new (ap (λ (k : Cached). k.tables) c.write_back.ensures.empty)) c.write_back.ensures) c.in-Err.ensures.cleared

pub returns-in-Err-clause-leaves : goal.returns-in-Err-clause-leaves
returns-in-Err-clause-leaves g c =
    let old = clusters_state c.args.file.now c.args.caches.now c.args.space.now in
    leaves-none g.S.Storage.state c.args.table (AreUnder c.args.count (flushed_metadata g.S.Storage.state old) c.args.table c.args.guest) old
    c.in-Err.fault c.write_back.result _ c.write_back.ensures.ok c.write_back.ensures.empty
