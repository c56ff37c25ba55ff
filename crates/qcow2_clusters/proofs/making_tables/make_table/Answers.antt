use Rattle.std.proofs.Common.{◌∙◌, ◌-◌, ℕ, arith, sym, subst, List, Ok, Err}
use Rattle.std.specs.Prelude.{replicate}
use Rattle.imago_storage.specs.declared.fault.Fault.{Fault}
use Rattle.qcow2_types.specs.Header.{cluster_size}
use Rattle.qcow2_alloc.specs.FreeList.{FreeList}
use Rattle.qcow2_clusters.specs.MakingTables.{MakesTable, PlacesTable}
use Rattle.qcow2_clusters.specs.Flushed.{clusters_state}
use Rattle.qcow2_clusters.proofs.EarlyRefusals.{nothing-begun, words-same}
use Rattle.qcow2_clusters.proofs.TableCopies.{made, not-filled, not-made}
use Rattle.qcow2_alloc.proofs.Faults.{handed-on}
use Rattle.qcow2_clusters.proofs.making_tables.make_table.Goals as goal

pub returns-in_err-content-clause-makes : goal.returns-in_err-content-clause-makes
returns-in_err-content-clause-makes g c = rw (handed-on _ _ c.from_residual.ensures.1) (
    let old = clusters_state c.args.file.now c.args.caches.now c.args.space.now in
    subst (λ (fault : Fault). MakesTable g.S.Storage.state c.args.l1.now c.args.index old (Err fault) c.args.l1.now old)
    (sym c.in_err-content.ensures.err) (not-filled g.S.Storage.state c.args.l1.now c.args.index old c.requires.caches_empty))

pub returns-clause-makes : goal.returns-clause-makes
returns-clause-makes g c =
    let state = g.S.Storage.state in
    let old = clusters_state c.args.file.now c.args.caches.now c.args.space.now in
    let new = c.place_table.new in
    let t = c.cluster.inside.cluster in
    let places : PlacesTable state (replicate (cluster_size c.args.file.now.header.fields) 0) c.args.l1.now c.args.index old
    (Ok t) new.l1 (clusters_state new.file new.caches new.space) =
    subst (λ (l : List ℕ). PlacesTable state l c.args.l1.now c.args.index old (Ok t) new.l1
    (clusters_state new.file new.caches new.space)) (c.deref.ensures.value ∙ c.in_ok-content.ensures.ok)
    (subst (λ (n : ℕ). PlacesTable state c.deref.result.now c.args.l1.now c.args.index old (Ok n) new.l1
    (clusters_state new.file new.caches new.space)) (sym c.cluster.view_is) c.in_ok-cluster.ensures.places) in
    let more = places.held in
    subst (λ (l : FreeList). MakesTable state c.args.l1.now c.args.index old (Ok t) new.l1
    (clusters_state new.file new.caches (record { allocator = new.space.allocator; to_free = l }))) (sym c.release.ensures)
    (made state c.args.l1.now c.args.index old t new.l1 (clusters_state new.file new.caches new.space)
    (new.space.to_free.held - 1) (omega (arith, more)) places)

pub returns-in_err-cluster-clause-makes : goal.returns-in_err-cluster-clause-makes
returns-in_err-cluster-clause-makes g c = rw (handed-on _ _ c.from_residual-in_err-cluster.ensures.1) (
    let state = g.S.Storage.state in
    let old = clusters_state c.args.file.now c.args.caches.now c.args.space.now in
    let new = c.place_table.new in
    not-made state c.args.l1.now c.args.index old c.in_err-cluster.field-0.0 new.l1 (clusters_state new.file new.caches new.space)
    (subst (λ (l : List ℕ). PlacesTable state l c.args.l1.now c.args.index old (Err c.in_err-cluster.field-0.0) new.l1
    (clusters_state new.file new.caches new.space)) (c.deref.ensures.value ∙ c.in_ok-content.ensures.ok) c.in_err-cluster.ensures.places))

pub returns-in_err-content-clause-untouched_unless_begun : goal.returns-in_err-content-clause-untouched_unless_begun
returns-in_err-content-clause-untouched_unless_begun g c = rw (handed-on _ _ c.from_residual.ensures.1) (λ not. (
  nothing-begun g.S.Storage.state c.args.begun.now (clusters_state c.args.file.now c.args.caches.now c.args.space.now) c.in_err-content.field-0.0 not,
  words-same c.args.l1.now,
))

pub returns-clause-untouched_unless_begun : goal.returns-clause-untouched_unless_begun
returns-clause-untouched_unless_begun g c = λ not. absurd (c.in_ok-cluster.ensures.untouched_unless_begun not).0.refused

pub returns-in_err-cluster-clause-untouched_unless_begun : goal.returns-in_err-cluster-clause-untouched_unless_begun
returns-in_err-cluster-clause-untouched_unless_begun g c = rw (handed-on _ _ c.from_residual-in_err-cluster.ensures.1) c.in_err-cluster.ensures.untouched_unless_begun
