use Rattle.std.proofs.Common.{◌≡◌, ◌≢◌, ◌/◌, ◌^◌, ◌∙◌, ◌++◌, ◌∷◌, ℕ, ap, sym, subst, refl, Ok, Err, List, [], true}
use Rattle.std.proofs.lemmas.Bool.{ne_eqb}
use Rattle.imago_storage.specs.declared.fault.Fault.TheVariants.{DamagedTable}
use Rattle.qcow2_types.specs.Pending.{FreeEntry}
use Rattle.qcow2_types.specs.Header.{Fields, cluster_size}
use Rattle.qcow2_alloc.specs.Allocators.{table_of}
use Rattle.qcow2_alloc.specs.FreeList.{FreeList}
use Rattle.qcow2_alloc.specs.GrowingTables.{table_run}
use Rattle.qcow2_alloc.specs.MakingRoom.{run_of}
use Rattle.qcow2_alloc.specs.MovingTables.{FillsFreeArea, WasSound}
use Rattle.qcow2_alloc.specs.State.{image_state, seen}
use Rattle.qcow2_alloc.proofs.Growth.RoomFills.{some-clusters}
use Rattle.qcow2_alloc.proofs.Freeing.EntryFrees.{failed}
use Rattle.qcow2_alloc.proofs.Growth.FillRefusals.{not-begun}
use Rattle.qcow2_alloc.proofs.allocation.Allocator.enter_free_area.Goals as goal

pub returns-then-clusters-eq0-clause-fills : goal.returns-then-clusters-eq0-clause-fills
returns-then-clusters-eq0-clause-fills g c = λ before file free.
    let state = g.S.Storage.state in
    let table = table_of c.args.self.now in
    let known = WasSound g.S.Storage.state (seen c.args.self.now before file c.args.list.now) in
    subst (λ (es : List FreeEntry). FillsFreeArea state known c.args.room c.args.table (image_state table c.args.caches.now c.args.file.now c.args.list.now.entries) (failed DamagedTable) (image_state table c.args.caches.now c.args.file.now es))
    (sym (ap (λ (l : FreeList). l.entries) c.release.ensures))
    (not-begun state known table c.args.list.now.entries c.args.room c.args.table c.args.caches.now c.args.file.now DamagedTable
    (λ all. some-clusters _ all.2 (sym c.reftable_clusters-clusters.ensures ∙ sym c.clusters.view_is ∙ c.if-clusters-eq0.true)))

-- The clusters of the old table as a free-list entry.
run-is : (h : Fields) (clusters first : ℕ) (e : FreeEntry) → clusters ≢ 0 → clusters ≡ h.refcount_table_clusters → first ≡ h.refcount_table_offset / cluster_size h → e ≡ record { first = first; count = clusters; metadata = true } → e ∷ [] ≡ table_run h
run-is h clusters first e some is at made =
    let there : h.refcount_table_clusters ≢ 0 = λ none. some (is ∙ none) in
    let entry : e ≡ run_of (h.refcount_table_offset / cluster_size h) h.refcount_table_clusters = made ∙ ap (λ n. record { first = n; count = clusters; metadata = true }) at ∙ ap (λ n. run_of (h.refcount_table_offset / cluster_size h) n) is in
    ap (λ (x : FreeEntry). x ∷ []) entry ∙ sym (rw (ne_eqb h.refcount_table_clusters 0 there) refl)

pub returns-in-Ok-clause-fills : goal.returns-in-Ok-clause-fills
returns-in-Ok-clause-fills g c = λ before file free.
    let state = g.S.Storage.state in
    let table = table_of c.args.self.now in
    let known = WasSound g.S.Storage.state (seen c.args.self.now before file c.args.list.now) in
    let h = c.args.file.now.header.fields in
    let new = c.fill_free_area.new in
    let pending = c.args.list.now.entries in
    let clusters = c.reftable_clusters-clusters.result in
    let some : clusters ≢ 0 = λ none. c.if-clusters-eq0.false (c.clusters.view_is ∙ none) in
    let first : c.cluster-first.result ≡ h.refcount_table_offset / cluster_size h =
    c.cluster-first.ensures ∙ ap (λ b. c.reftable_offset-offset.result / 2 ^ b) c.cluster_bits.ensures.value ∙ ap (λ o. o / cluster_size h) c.reftable_offset-offset.ensures in
    let entry = run-is h clusters c.cluster-first.result c.new.result some c.reftable_clusters-clusters.ensures first (c.new.ensures ∙ c.metadata-old.ensures) in
    let entries : c.give_back.new.self.entries ≡ pending ++ table_run h =
    ap (λ (l : FreeList). l.entries) c.give_back.ensures ∙ ap (λ (l : List FreeEntry). pending ++ l) entry in
    subst (λ (l : List FreeEntry). FillsFreeArea state known c.args.room c.args.table (image_state table c.args.caches.now c.args.file.now pending) (Ok tt) (image_state (table_of new.self) new.caches new.file l)) (sym entries)
    (c.in-Ok.ensures.fills pending before file free)

pub returns-in-Err-clause-fills : goal.returns-in-Err-clause-fills
returns-in-Err-clause-fills g c = λ before file free.
    let state = g.S.Storage.state in
    let table = table_of c.args.self.now in
    let known = WasSound g.S.Storage.state (seen c.args.self.now before file c.args.list.now) in
    let new = c.fill_free_area.new in
    let pending = c.args.list.now.entries in
    let entries : c.release-in-Err.new.self.entries ≡ pending = ap (λ (l : FreeList). l.entries) c.release-in-Err.ensures in
    subst (λ (l : List FreeEntry). FillsFreeArea state known c.args.room c.args.table (image_state table c.args.caches.now c.args.file.now pending) (Err c.in-Err.fault) (image_state (table_of new.self) new.caches new.file l)) (sym entries)
    (c.in-Err.ensures.fills pending before file free)
