use Rattle.std.proofs.Common.{ap, arith, refl, subst}
use Rattle.qcow2_alloc.specs.Memory.{Cached}
use Rattle.qcow2_clusters.specs.Flushed.{clusters_state}
use Rattle.qcow2_clusters.specs.WritingBack.{WritesBack, without_tables}
use Rattle.qcow2_clusters.proofs.NamesAtRest.{keeps-by, leaves-none, names-by}
use Rattle.qcow2_clusters.proofs.RunNames.{near-each}
use Rattle.qcow2_clusters.proofs.Settlement.{done_so, refused_so, without-none}
use Rattle.qcow2_clusters.proofs.linking.link_run.Goals as goal

pub returns-in-Ok-clause-names : goal.returns-in-Ok-clause-names
returns-in-Ok-clause-names g c =
    let called = c.link_in_table-named in
    let some = c.requires.cluster_nonzero in
    names-by g.S.Storage.state c.args.table c.args.guest c.args.cluster c.args.count (clusters_state c.args.file.now c.args.caches.now c.args.space.now)
    (clusters_state c.write_back_keeping_tables.new.file (without_tables c.write_back_keeping_tables.new.caches) (record { allocator = c.args.space.now.allocator; to_free = called.new.to_free }))
    called.new.caches called.new.file done_so c.write_back_keeping_tables.result c.requires.caches_empty c.requires.room c.requires.any (omega (arith, some))
    (near-each c.args.file.now.header.fields.cluster_bits c.args.cluster c.args.count c.requires.reach) c.requires.row refl c.in-Ok.ensures.held
    c.write_back_keeping_tables.ensures.settles c.in-Ok.ensures.named

pub returns-in-Ok-clause-leaves : goal.returns-in-Ok-clause-leaves
returns-in-Ok-clause-leaves g c =
    let called = c.link_in_table-named in
    let some = c.requires.cluster_nonzero in
    keeps-by g.S.Storage.state c.args.table c.args.guest c.args.cluster c.args.count (clusters_state c.args.file.now c.args.caches.now c.args.space.now)
    (clusters_state c.write_back_keeping_tables.new.file (without_tables c.write_back_keeping_tables.new.caches) (record { allocator = c.args.space.now.allocator; to_free = called.new.to_free }))
    called.new.caches called.new.file done_so c.write_back_keeping_tables.result c.requires.caches_empty c.requires.room c.requires.any (omega (arith, some))
    (near-each c.args.file.now.header.fields.cluster_bits c.args.cluster c.args.count c.requires.reach) c.requires.row refl c.in-Ok.ensures.held
    c.write_back_keeping_tables.ensures.settles c.write_back_keeping_tables.new.caches c.write_back_keeping_tables.ensures.keeps_tables c.in-Ok.ensures.named

pub returns-in-Err-clause-names : goal.returns-in-Err-clause-names
returns-in-Err-clause-names g c =
    let called = c.link_in_table-named in
    let some = c.requires.cluster_nonzero in
    let new = c.write_back.new.caches in
    let refused = refused_so c.in-Err.fault in
    names-by g.S.Storage.state c.args.table c.args.guest c.args.cluster c.args.count (clusters_state c.args.file.now c.args.caches.now c.args.space.now)
    (clusters_state c.write_back.new.file (without_tables new) (record { allocator = c.args.space.now.allocator; to_free = called.new.to_free }))
    called.new.caches called.new.file refused c.write_back.result c.requires.caches_empty c.requires.room c.requires.any (omega (arith, some))
    (near-each c.args.file.now.header.fields.cluster_bits c.args.cluster c.args.count c.requires.reach) c.requires.row refl c.in-Err.ensures.held
    (subst (WritesBack g.S.Storage.state refused called.new.file called.new.caches c.write_back.result c.write_back.new.file)
    (without-none new (ap (λ (k : Cached). k.tables) c.write_back.ensures.empty)) c.write_back.ensures) c.in-Err.ensures.named

pub returns-in-Err-clause-leaves : goal.returns-in-Err-clause-leaves
returns-in-Err-clause-leaves g c =
    leaves-none g.S.Storage.state c.args.table c.args.guest c.args.cluster c.args.count (clusters_state c.args.file.now c.args.caches.now c.args.space.now)
    c.in-Err.fault c.write_back.result _ c.write_back.ensures.ok c.write_back.ensures.empty
