use Rattle.std.proofs.Common.{◌≡◌, ◌∙◌, ◌*◌, ◌^◌, ℕ, refl, ap, arith, sym, subst, Option, Ok, Some, true, inl, inr}
use Rattle.std.proofs.lemmas.Nat.{pow_pos}
use Rattle.qcow2_types.specs.Header.{Fields, cluster_size, layout_of}
use Rattle.qcow2_types.specs.Words.{Layout}
use Rattle.qcow2_metadata.specs.Tables.{CanBeReferenced, TableValue, table_start}
use Rattle.qcow2_alloc.specs.FreeList.{FreeList}
use Rattle.qcow2_alloc.proofs.Memory.Patches.{place-there}
use Rattle.qcow2_clusters.specs.declared.space.Space.{Space}
use Rattle.qcow2_clusters.specs.Flushed.{clusters_state}
use Rattle.qcow2_clusters.specs.Storing.{Stores}
use Rattle.qcow2_clusters.proofs.EarlyRefusals.{nothing-begun}
use Rattle.qcow2_clusters.proofs.TableCreation.{entered-so, not-entered, not-placed, not-stored}
use Rattle.qcow2_alloc.proofs.Faults.{handed-on}
use Rattle.qcow2_clusters.proofs.making_tables.place_table.Goals as goal

pub returns-in_err-place_l1-clause-places : goal.returns-in_err-place_l1-clause-places
returns-in_err-place_l1-clause-places g c = rw (handed-on _ _ c.from_residual.ensures.1) (
    not-placed g.S.Storage.state c.args.content.now c.args.l1.now c.args.index
    (clusters_state c.args.file.now c.args.caches.now c.args.space.now) c.in_err-place_l1.field-0.0 c.place_l1.new.l1 c.requires.caches_empty
    (inr (cc c.in_err-place_l1.ensures.err, c.in_err-place_l1.ensures.cause)))

pub returns-in_err-table-clause-places : goal.returns-in_err-table-clause-places
returns-in_err-table-clause-places g c = rw (handed-on _ _ c.from_residual-in_err-table.ensures.1) (
    not-placed g.S.Storage.state c.args.content.now c.args.l1.now c.args.index
    (clusters_state c.args.file.now c.args.caches.now c.args.space.now) c.in_err-table.field-0.0 c.place_l1.new.l1 c.requires.caches_empty
    (inl c.in_err-table.ensures.err))

pub returns-in_err-cluster-clause-places : goal.returns-in_err-cluster-clause-places
returns-in_err-cluster-clause-places g c = rw (handed-on _ _ c.from_residual-in_err-cluster.ensures.1) (
    let new = c.store.new in
    not-stored g.S.Storage.state c.args.content.now c.args.l1.now c.args.index
    (clusters_state c.args.file.now c.args.caches.now c.args.space.now) c.in_err-cluster.field-0.0 c.place_l1.new.l1
    (clusters_state new.file new.caches new.space) c.place_l1.ensures.same c.in_err-cluster.ensures.stores)

-- The table starts at the cluster.
begins : (h : Fields) (table table' : TableValue) (cluster : ℕ) → table.layout ≡ layout_of h
    → table' ≡ record { layout = table.layout; raw_entries = table.raw_entries; cluster = Some cluster; modified = true }
    → table_start table' ≡ cluster * cluster_size h
begins h table table' cluster layout is = ap table_start is ∙ ap (λ (l : Layout). cluster * 2 ^ l.cluster_bits) layout

pub enter_table-requires-clause-can_be_referenced : goal.enter_table-requires-clause-can_be_referenced
enter_table-requires-clause-can_be_referenced g c =
    let h = c.args.file.now.header.fields in
    let t = c.cluster.inside.cluster in
    let stores = subst (λ (n : ℕ). Stores g.S.Storage.state c.args.content.now (clusters_state c.args.file.now c.args.caches.now c.args.space.now) (Ok n)
    (clusters_state c.store.new.file c.store.new.caches c.store.new.space)) (sym c.cluster.view_is) c.in_ok-cluster.ensures.stores in
    let named = stores.named in
    let bits : c.place_l1.new.l1.layout.cluster_bits ≡ h.cluster_bits =
    ap (λ (l : Layout). l.cluster_bits) c.place_l1.ensures.same.layout ∙ c.in_ok-place_l1.ensures.bits in
    let there = place-there (2 ^ h.cluster_bits) t (pow_pos h.cluster_bits) named.0 in
    subst (λ (o : Option ℕ). CanBeReferenced c.place_l1.new.l1.layout.cluster_bits o) (sym (ap (λ (table : TableValue). table.cluster) c.set_cluster.ensures))
    (subst (λ b. CanBeReferenced b (Some t)) (sym bits) record { placed = named.1; cluster_nonzero = omega (arith, there) })

pub returns-in-Ok-clause-places : goal.returns-in-Ok-clause-places
returns-in-Ok-clause-places g c =
    let h = c.args.file.now.header.fields in
    let old = clusters_state c.args.file.now c.args.caches.now c.args.space.now in
    let mid = clusters_state c.store.new.file c.store.new.caches c.store.new.space in
    let new = clusters_state c.enter_table.new.file c.store.new.caches c.store.new.space in
    let t = c.cluster.inside.cluster in
    let stores = subst (λ (n : ℕ). Stores g.S.Storage.state c.args.content.now (clusters_state c.args.file.now c.args.caches.now c.args.space.now) (Ok n)
    (clusters_state c.store.new.file c.store.new.caches c.store.new.space)) (sym c.cluster.view_is) c.in_ok-cluster.ensures.stores in
    entered-so g.S.Storage.state c.args.content.now c.args.l1.now c.args.index old t mid c.requires.whole stores
    c.place_l1.new.l1 c.enter_table.new.l1 c.set_cluster.new.self c.enter_table.result new
    c.place_l1.ensures.same c.in_ok-place_l1.ensures.place
    (begins h c.in_ok-table.table c.set_cluster.new.self t (ap (λ (table : TableValue). table.layout) c.in_ok-table.ensures.ok)
    c.set_cluster.ensures)
    record { header = c.enter_table.ensures.header; caches = refl; allocator = refl; entries = refl }
    c.enter_table.ensures c.in-Ok.is refl

pub returns-clause-places : goal.returns-clause-places
returns-clause-places g c =
    let h = c.args.file.now.header.fields in
    let old = clusters_state c.args.file.now c.args.caches.now c.args.space.now in
    let mid = clusters_state c.store.new.file c.store.new.caches c.store.new.space in
    let space : Space = record { allocator = c.store.new.space.allocator; to_free = c.release.new.self } in
    let new = clusters_state c.enter_table.new.file c.store.new.caches space in
    let t = c.cluster.inside.cluster in
    let stores = subst (λ (n : ℕ). Stores g.S.Storage.state c.args.content.now (clusters_state c.args.file.now c.args.caches.now c.args.space.now) (Ok n)
    (clusters_state c.store.new.file c.store.new.caches c.store.new.space)) (sym c.cluster.view_is) c.in_ok-cluster.ensures.stores in
    let less = ap (λ (l : FreeList). l.held) c.release.ensures in
    let more = stores.held in
    not-entered g.S.Storage.state c.args.content.now c.args.l1.now c.args.index old t mid c.requires.whole stores
    c.place_l1.new.l1 c.enter_table.new.l1 c.set_cluster.new.self c.enter_table.result new
    c.place_l1.ensures.same c.in_ok-place_l1.ensures.place
    (begins h c.in_ok-table.table c.set_cluster.new.self t (ap (λ (table : TableValue). table.layout) c.in_ok-table.ensures.ok)
    c.set_cluster.ensures)
    record {
      header = c.enter_table.ensures.header;
      caches = refl;
      allocator = refl;
      entries = ap (λ (l : FreeList). l.entries) c.release.ensures;
    } c.enter_table.ensures c.in-Err.fault c.in-Err.is (omega (arith, less, more))

pub returns-in_err-place_l1-clause-untouched_unless_begun : goal.returns-in_err-place_l1-clause-untouched_unless_begun
returns-in_err-place_l1-clause-untouched_unless_begun g c = rw (handed-on _ _ c.from_residual.ensures.1) (λ not. (
  nothing-begun g.S.Storage.state c.args.begun.now (clusters_state c.args.file.now c.args.caches.now c.args.space.now) c.in_err-place_l1.field-0.0 not,
  c.place_l1.ensures.same,
))

pub returns-in_err-table-clause-untouched_unless_begun : goal.returns-in_err-table-clause-untouched_unless_begun
returns-in_err-table-clause-untouched_unless_begun g c = rw (handed-on _ _ c.from_residual-in_err-table.ensures.1) (λ not. (
  nothing-begun g.S.Storage.state c.args.begun.now (clusters_state c.args.file.now c.args.caches.now c.args.space.now) c.in_err-table.field-0.0 not,
  c.place_l1.ensures.same,
))

pub returns-in_err-cluster-clause-untouched_unless_begun : goal.returns-in_err-cluster-clause-untouched_unless_begun
returns-in_err-cluster-clause-untouched_unless_begun g c = rw (handed-on _ _ c.from_residual-in_err-cluster.ensures.1)
    (λ not. (c.in_err-cluster.ensures.untouched_unless_begun not, c.place_l1.ensures.same))

-- The call has begun once the content is stored.
pub returns-in-Ok-clause-untouched_unless_begun : goal.returns-in-Ok-clause-untouched_unless_begun
returns-in-Ok-clause-untouched_unless_begun g c = λ not. absurd (c.in_ok-cluster.ensures.untouched_unless_begun not).refused

pub returns-clause-untouched_unless_begun : goal.returns-clause-untouched_unless_begun
returns-clause-untouched_unless_begun g c = λ not. absurd (c.in_ok-cluster.ensures.untouched_unless_begun not).refused
