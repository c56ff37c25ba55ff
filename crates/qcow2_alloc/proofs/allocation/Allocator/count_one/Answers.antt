use Rattle.std.proofs.Common.{ℕ, sym, subst, ◌∙◌, ap}
use Rattle.std.proofs.lemmas.Bool.{eqb-true, eqb-false}
use Rattle.std.proofs.Common.{Some, false}
use Rattle.qcow2_types.specs.Pending.{FreeEntry}
use Rattle.qcow2_alloc.specs.Allocating.{IncrementsCluster}
use Rattle.qcow2_alloc.specs.Allocators.{table_of}
use Rattle.qcow2_alloc.specs.Caches.{cached_file}
use Rattle.qcow2_alloc.specs.State.{image_state}
use Rattle.qcow2_alloc.proofs.Blocks.ClusterCounts.{succeeded}
use Rattle.qcow2_alloc.proofs.Freeing.EntryFrees.{failed}
use Rattle.qcow2_alloc.proofs.Handing.SingleCounts.{first-uncounted, raised-one, unraised-one}
use Rattle.qcow2_alloc.proofs.Faults.{handed-on}
use Rattle.qcow2_alloc.proofs.allocation.Allocator.count_one.Goals as goal

pub returns-then-eq-clause-counts : goal.returns-then-eq-clause-counts
returns-then-eq-clause-counts g c = λ pending. first-uncounted g.S.Storage.state (image_state (table_of c.args.self.now) c.args.caches.now c.args.file.now pending) c.args.cluster (eqb-true c.args.cluster 0 (sym c.eq.ensures ∙ c.if-eq.true))

pub returns-clause-counts : goal.returns-clause-counts
returns-clause-counts g c = λ pending.
    let entry : ℕ → FreeEntry = λ n. record { first = n; count = 1; metadata = false } in
    raised-one g.S.Storage.state (image_state (table_of c.args.self.now) c.args.caches.now c.args.file.now pending) c.args.cluster c.count_cluster.new.caches c.count_cluster.new.file
    (λ none. eqb-false c.args.cluster 0 (sym c.eq.ensures ∙ c.if-eq.false) none) _ (ap (λ (e : FreeEntry). Some e) (c.new.ensures ∙ c.data-entry.ensures ∙ ap entry c.cluster.view_is))
    (subst (λ (n : ℕ). IncrementsCluster g.S.Storage.state (table_of c.args.self.now) n (cached_file c.args.caches.now c.args.file.now) succeeded (cached_file c.count_cluster.new.caches c.count_cluster.new.file)) c.cluster.view_is c.in_ok-count_cluster.ensures)

pub returns-in_err-count_cluster-clause-counts : goal.returns-in_err-count_cluster-clause-counts
returns-in_err-count_cluster-clause-counts g c = rw (handed-on _ _ c.from_residual.ensures.1) (λ pending.
    unraised-one g.S.Storage.state (image_state (table_of c.args.self.now) c.args.caches.now c.args.file.now pending) c.args.cluster c.count_cluster.new.caches c.count_cluster.new.file c.in_err-count_cluster.field-0.0
    (subst (λ (n : ℕ). IncrementsCluster g.S.Storage.state (table_of c.args.self.now) n (cached_file c.args.caches.now c.args.file.now) (failed c.in_err-count_cluster.field-0.0) (cached_file c.count_cluster.new.caches c.count_cluster.new.file)) c.cluster.view_is c.in_err-count_cluster.ensures))
