use Rattle.std.proofs.Common.{refl, sym, ap, ◌∙◌, Some, Err}
use Rattle.qcow2_clusters.specs.Flushed.{clusters_state}
use Rattle.qcow2_image.proofs.Clearings.TableClears.{clears-by, unreserved-clears}
use Rattle.qcow2_image.proofs.Commits.{named-clean, named-loose}
use Rattle.qcow2_image.proofs.ImageLoans.{space-lent}
use Rattle.qcow2_image.proofs.clearing.clear_tables.Goals as goal

pub returns-in_default-clause-begins : goal.returns-in_default-clause-begins
returns-in_default-clause-begins g c = λ unbegun. (
  unbegun,
  space-lent c.args.tables.now _ _ _ (c.take.ensures.after ∙ sym (sym c.take.ensures.value ∙ c.in_default.is)),
)

pub returns-in-Err-clause-clears : goal.returns-in-Err-clause-clears
returns-in-Err-clause-clears g c = rw c.in-Err.ensures.err
    (unreserved-clears g.S.Storage c.args.clearing c.args.table c.args.guest c.args.count c.args.tables.now _
    (space-lent c.args.tables.now _ _ _
    (ap (λ l. Some (record c.in-Some.space { to_free = l })) c.in-Err.ensures.unchanged ∙ sym (sym c.take.ensures.value ∙ c.in-Some.is))))

pub returns-in-Err-clause-begins : goal.returns-in-Err-clause-begins
returns-in-Err-clause-begins g c = λ unbegun. (
  unbegun,
  space-lent c.args.tables.now _ _ _
      (ap (λ l. Some (record c.in-Some.space { to_free = l })) c.in-Err.ensures.unchanged ∙ sym (sym c.take.ensures.value ∙ c.in-Some.is)),
)

pub invariant_of-tables-2 : goal.invariant_of-tables-2
invariant_of-tables-2 g c =
    let run = c.clear_run-cleared in
    let space = record c.in-Some.space { to_free = c.reserve.new.self } in
    let lends = clusters_state c.args.tables.now.file c.drop_cached-dropped.new.caches space in
    let clears = run.ensures.clears in
    let kept = run.ensures.leaves in
    record {
      clean = named-clean g.S.Storage.state lends run.result run.new.file run.new.caches run.new.space clears.rests kept.clean kept.unpinned;
      unpinned = named-loose g.S.Storage.state lends run.result run.new.file run.new.caches run.new.space clears.rests kept.clean kept.unpinned
          c.args.tables.now.caches c.drop_cached-dropped.ensures.room c.args.tables.now.unpinned;
    }

pub returns-clause-clears : goal.returns-clause-clears
returns-clause-clears g c =
    let run = c.clear_run-cleared in
    clears-by g.S.Storage c.args.clearing c.args.table c.args.guest c.args.count c.args.tables.now _ run.result c.in-Some.space
    (record c.in-Some.space { to_free = c.reserve.new.self }) run.new.space
    (ap (λ l. record c.in-Some.space { to_free = l }) c.reserve.ensures.unchanged) c.drop_cached-dropped.new.caches
    (sym c.take.ensures.value ∙ c.in-Some.is) run.ensures.clears run.ensures.leaves refl refl
