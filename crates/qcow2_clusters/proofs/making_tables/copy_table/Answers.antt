use Rattle.std.proofs.Common.{ℕ, ◌∙◌, ◌-◌, ◌++◌, ◌∷◌, [], refl, ap, arith, sym, subst, Ok, Err}
use Rattle.std.specs.Prelude.{slice_index}
use Rattle.imago_storage.proofs.Composing.{kept_same}
use Rattle.imago_storage.specs.declared.fault.Fault.TheVariants.{DamagedTable}
use Rattle.qcow2_types.specs.Pending.{FreeEntry}
use Rattle.qcow2_alloc.specs.FreeList.{FreeList}
use Rattle.qcow2_clusters.specs.MakingTables.{CopiesTable, FindsTable, IsClusterOf, PlacesTable}
use Rattle.qcow2_clusters.specs.Flushed.{clusters_state}
use Rattle.qcow2_clusters.proofs.EarlyRefusals.{nothing-begun, spared-behind, words-same}
use Rattle.qcow2_clusters.proofs.TableCopies.{content-behind, copied-so, found-behind, none-found, not-copied, not-found, not-read, read-before}
use Rattle.qcow2_alloc.proofs.Faults.{handed-on}
use Rattle.qcow2_clusters.proofs.making_tables.copy_table.Goals as goal

pub returns-in_default-clause-copies : goal.returns-in_default-clause-copies
returns-in_default-clause-copies g c =
    not-found g.S.Storage.state c.args.l1.now c.args.index (clusters_state c.args.file.now c.args.caches.now c.args.space.now) c.requires.caches_empty
    (subst (FindsTable c.args.file.now.header.fields.cluster_bits (slice_index c.args.l1.now.raw_entries c.args.index))
    (none-found c.table_at.result c.in_default.not-Some) c.table_at.ensures)

pub returns-in_err-content-clause-copies : goal.returns-in_err-content-clause-copies
returns-in_err-content-clause-copies g c = rw (handed-on _ _ c.from_residual.ensures.1) (
    let read = c.read_cluster.ensures in
    not-read g.S.Storage.state c.args.l1.now c.args.index (clusters_state c.args.file.now c.args.caches.now c.args.space.now)
    c.in_err-content.field-0.0
    (clusters_state c.read_cluster.new.file c.args.caches.now c.args.space.now) c.requires.caches_empty
    record { kept = read.unchanged_but_faults; counts_not_fallen = read.counts_not_fallen; header = read.header; caches = refl } refl c.in_err-content.ensures.faults)

-- The list with an entry in the reserved slot.
abbrev given_back : FreeList → FreeEntry → FreeList
given_back list entry = record { entries = list.entries ++ entry ∷ []; held = list.held - 1 }

pub returns-clause-copies : goal.returns-clause-copies
returns-clause-copies g c =
    let state = g.S.Storage.state in
    let old = clusters_state c.args.file.now c.args.caches.now c.args.space.now in
    let read = c.read_cluster.ensures in
    let file = c.read_cluster.new.file in
    let image = kept_same (state c.args.file.now.image) (state file.image) read.unchanged_but_faults c.in_ok-content.ensures.faults in
    let mid = clusters_state file c.args.caches.now c.args.space.now in
    let new = c.place_table.new in
    let l1 = c.args.l1.now in
    let t = c.cluster.inside.cluster in
    let places = subst (λ (n : ℕ). PlacesTable state c.deref.result.now l1 c.args.index mid (Ok n) new.l1 (clusters_state new.file new.caches new.space))
    (sym c.cluster.view_is) c.in_ok-cluster.ensures.places in
    let finds = found-behind state old file image read.header l1 c.args.index c.in-Some.old c.in-Some.ensures in
    let is = content-behind state old file image read.header l1 c.args.index c.in-Some.old c.deref.result.now
    (subst (IsClusterOf (state c.args.file.now.image).bytes c.args.file.now.header.fields c.in-Some.old) (sym c.deref.ensures.value)
    c.in_ok-content.ensures.ok) in
    let more = places.held in
    subst (λ (r : FreeList). CopiesTable state l1 c.args.index old (Ok t) new.l1
    (clusters_state new.file new.caches (record { allocator = new.space.allocator; to_free = r })))
    (sym (c.give_back.ensures ∙ ap (given_back new.space.to_free) (c.new.ensures ∙ c.metadata-entry.ensures)))
    (read-before state old file image read.header l1 c.args.index (Ok t) new.l1 _
    (copied-so state l1 c.args.index mid c.in-Some.old c.deref.result.now finds is t new.l1 (clusters_state new.file new.caches new.space) places
    (new.space.to_free.held - 1) (omega (arith, more))))

pub returns-in_err-cluster-clause-copies : goal.returns-in_err-cluster-clause-copies
returns-in_err-cluster-clause-copies g c = rw (handed-on _ _ c.from_residual-in_err-cluster.ensures.1) (
    let state = g.S.Storage.state in
    let old = clusters_state c.args.file.now c.args.caches.now c.args.space.now in
    let read = c.read_cluster.ensures in
    let file = c.read_cluster.new.file in
    let image = kept_same (state c.args.file.now.image) (state file.image) read.unchanged_but_faults c.in_ok-content.ensures.faults in
    let new = c.place_table.new in
    let l1 = c.args.l1.now in
    let finds = found-behind state old file image read.header l1 c.args.index c.in-Some.old c.in-Some.ensures in
    let is = content-behind state old file image read.header l1 c.args.index c.in-Some.old c.deref.result.now
    (subst (IsClusterOf (state c.args.file.now.image).bytes c.args.file.now.header.fields c.in-Some.old) (sym c.deref.ensures.value)
    c.in_ok-content.ensures.ok) in
    let fault = c.in_err-cluster.field-0.0 in
    read-before state old file image read.header l1 c.args.index (Err fault) new.l1 (clusters_state new.file new.caches new.space)
    (not-copied state l1 c.args.index (clusters_state file c.args.caches.now c.args.space.now) c.in-Some.old c.deref.result.now finds is fault new.l1
    (clusters_state new.file new.caches new.space) c.in_err-cluster.ensures.places))

pub returns-in_default-clause-untouched_unless_begun : goal.returns-in_default-clause-untouched_unless_begun
returns-in_default-clause-untouched_unless_begun g c = λ not. (
  nothing-begun g.S.Storage.state c.args.begun.now (clusters_state c.args.file.now c.args.caches.now c.args.space.now) DamagedTable not,
  words-same c.args.l1.now,
)

pub returns-in_err-content-clause-untouched_unless_begun : goal.returns-in_err-content-clause-untouched_unless_begun
returns-in_err-content-clause-untouched_unless_begun g c = rw (handed-on _ _ c.from_residual.ensures.1) (λ not.
    let read = c.read_cluster.ensures in
    (record { unbegun = not; refused = tt; unchanged_but_faults = read.unchanged_but_faults; header = read.header; space = refl }, words-same c.args.l1.now))

pub returns-clause-untouched_unless_begun : goal.returns-clause-untouched_unless_begun
returns-clause-untouched_unless_begun g c = λ not. absurd (c.in_ok-cluster.ensures.untouched_unless_begun not).0.refused

pub returns-in_err-cluster-clause-untouched_unless_begun : goal.returns-in_err-cluster-clause-untouched_unless_begun
returns-in_err-cluster-clause-untouched_unless_begun g c = rw (handed-on _ _ c.from_residual-in_err-cluster.ensures.1) (λ not.
    let spared = c.in_err-cluster.ensures.untouched_unless_begun not in
    let read = c.read_cluster.ensures in
    let new = c.place_table.new in (
      spared-behind g.S.Storage.state c.args.begun.now new.begun (clusters_state c.args.file.now c.args.caches.now c.args.space.now)
          (clusters_state c.read_cluster.new.file c.args.caches.now c.args.space.now) (clusters_state new.file new.caches new.space) c.in_err-cluster.field-0.0
          read.unchanged_but_faults read.header refl spared.0,
      spared.1,
    ))
