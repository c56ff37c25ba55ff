use Rattle.std.proofs.Common.{refl, sym, ◌∙◌, Ok, Err}
use Rattle.qcow2_clusters.specs.Flushed.{clusters_state}
use Rattle.qcow2_image.proofs.Commits.{named-clean, named-loose, names-by}
use Rattle.qcow2_image.proofs.committing.link_host.Goals as goal

pub invariant_of-tables-in-Ok : goal.invariant_of-tables-in-Ok
invariant_of-tables-in-Ok g c =
    let named = c.link_run-named.new in
    let r = c.args.clusters in
    let lends = clusters_state c.args.tables.now.file c.drop_cached-dropped.new.caches c.in-Some.space in
    let names = c.in-Ok.ensures.names in
    let kept = c.in-Ok.ensures.leaves in
    record {
      clean = named-clean g.S.Storage.state lends (Ok tt) named.file named.caches named.space names.rests kept.clean kept.unpinned;
      unpinned = named-loose g.S.Storage.state lends (Ok tt) named.file named.caches named.space names.rests kept.clean kept.unpinned
          c.args.tables.now.caches c.drop_cached-dropped.ensures.room c.args.tables.now.unpinned;
    }

pub invariant_of-tables-in-Err : goal.invariant_of-tables-in-Err
invariant_of-tables-in-Err g c =
    let named = c.link_run-named.new in
    let r = c.args.clusters in
    let lends = clusters_state c.args.tables.now.file c.drop_cached-dropped.new.caches c.in-Some.space in
    let fault = c.in-Err.fault in
    let names = c.in-Err.ensures.names in
    let kept = c.in-Err.ensures.leaves in
    record {
      clean = named-clean g.S.Storage.state lends (Err fault) named.file named.caches named.space names.rests kept.clean kept.unpinned;
      unpinned = named-loose g.S.Storage.state lends (Err fault) named.file named.caches named.space names.rests kept.clean kept.unpinned
          c.args.tables.now.caches c.drop_cached-dropped.ensures.room c.args.tables.now.unpinned;
    }

pub returns-in-Ok : goal.returns-in-Ok
returns-in-Ok g c =
    names-by g.S.Storage c.args.clusters c.args.guest c.args.tables.now _ (Ok tt) c.in-Some.space c.drop_cached-dropped.new.caches
    c.link_run-named.new.space (record c.link_run-named.new.space { to_free = c.let_go.new.to_free }) (sym c.take.ensures.value ∙ c.in-Some.is) c.in-Ok.ensures.names
    c.in-Ok.ensures.leaves refl refl refl c.let_go.ensures.entries c.let_go.ensures.held

pub returns-in-Err : goal.returns-in-Err
returns-in-Err g c =
    names-by g.S.Storage c.args.clusters c.args.guest c.args.tables.now _ (Err c.in-Err.fault) c.in-Some.space c.drop_cached-dropped.new.caches
    c.link_run-named.new.space c.link_run-named.new.space (sym c.take.ensures.value ∙ c.in-Some.is) c.in-Err.ensures.names c.in-Err.ensures.leaves refl refl refl refl tt
