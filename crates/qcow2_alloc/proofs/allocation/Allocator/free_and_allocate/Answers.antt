use Rattle.std.proofs.Common.{◌≡◌, ◌∙◌, [], ◌∷◌, List, true, refl, arith, ap, sym, subst, length}
use Rattle.std.specs.Prelude.{◌==◌}
use Rattle.std.proofs.lemmas.Bool.{eqb-true}
use Rattle.imago_storage.specs.State.{StorageState}
use Rattle.imago_storage.specs.Calls.{UnchangedButFaults}
use Rattle.qcow2_types.specs.Pending.{FreeEntry}
use Rattle.qcow2_metadata.specs.Tables.{TableValue}
use Rattle.qcow2_alloc.specs.declared.cache.MetadataCaches.{MetadataCaches}
use Rattle.qcow2_alloc.specs.declared.file.ImageFile.{ImageFile}
use Rattle.qcow2_alloc.specs.Allocators.{table_of, first_free_of}
use Rattle.qcow2_alloc.specs.Caches.{cached_file, cached_in}
use Rattle.qcow2_alloc.specs.Freeing.{Frees}
use Rattle.qcow2_alloc.specs.HandingOut.{AllocatesClusters}
use Rattle.qcow2_alloc.specs.ReadyingRuns.{Allocates}
use Rattle.qcow2_alloc.specs.WellFormedness.{AreBlocksClean, AreTablesClean}
use Rattle.qcow2_alloc.specs.SearchingClusters.{KeepsClean}
use Rattle.qcow2_alloc.specs.State.{image_state, with_first_free, allocator_state}
use Rattle.qcow2_alloc.proofs.Handing.BlocksBeforeTables.{announced}
use Rattle.qcow2_alloc.proofs.Blocks.ClusterCounts.{succeeded}
use Rattle.qcow2_alloc.proofs.Freeing.EntryFrees.{failed}
use Rattle.qcow2_alloc.proofs.Handing.AllocationsInOrder.{refused_run, run-not-freed, run-not-announced, run-announced}
use Rattle.qcow2_alloc.proofs.Searching.SearchSequences.{clean-then}
use Rattle.qcow2_alloc.proofs.Faults.{handed-on}
use Rattle.qcow2_alloc.proofs.allocation.Allocator.free_and_allocate.Goals as goal
use Rattle.qcow2_alloc.proofs.allocation.Allocator.free_and_allocate.Goals.{then-not-is_empty, else-not-is_empty}

pub returns-in_err-process_clusters_to_free-clause-allocates : goal.returns-in_err-process_clusters_to_free-clause-allocates
returns-in_err-process_clusters_to_free-clause-allocates g c = rw (handed-on _ _ c.from_residual.ensures.1) (
    let state = g.S.Storage.state in
    let t = table_of c.args.self.now in
    let f = c.process_clusters_to_free.new in
    subst (λ (v : TableValue). AllocatesClusters state c.args.count c.args.metadata (allocator_state c.args.self.now c.args.caches.now c.args.file.now c.args.list.now) (refused_run c.in_err-process_clusters_to_free.field-0.0) (with_first_free (image_state v f.caches f.file f.list.entries) (first_free_of f.self)))
    (sym c.in_err-process_clusters_to_free.ensures.table)
    (run-not-freed state c.args.count c.args.metadata (allocator_state c.args.self.now c.args.caches.now c.args.file.now c.args.list.now) c.in_err-process_clusters_to_free.field-0.0 (first_free_of f.self) f.caches f.file f.list.entries
    (subst (λ (v : TableValue). Frees state (allocator_state c.args.self.now c.args.caches.now c.args.file.now c.args.list.now) (failed c.in_err-process_clusters_to_free.field-0.0) (with_first_free (image_state v f.caches f.file f.list.entries) (first_free_of f.self))) c.in_err-process_clusters_to_free.ensures.table c.in_err-process_clusters_to_free.ensures.frees)
    c.in_err-process_clusters_to_free.ensures.left))

pub returns-clause-allocates : goal.returns-clause-allocates
returns-clause-allocates g c =
    let state = g.S.Storage.state in
    let t = table_of c.args.self.now in
    let f = c.process_clusters_to_free.new in
    let a = c.l2_depends_on_rb.new in
    let new = c.allocate.new in
    let s' = allocator_state new.self new.caches new.file new.list in
    let empty = c.in_ok-process_clusters_to_free.ensures.ok in
    let done = c.in_ok-l2_depends_on_rb.ensures in
    let frees = subst (λ (v : TableValue). Frees state (allocator_state c.args.self.now c.args.caches.now c.args.file.now c.args.list.now) succeeded (with_first_free (image_state v f.caches f.file []) (first_free_of f.self))) c.process_clusters_to_free.ensures.table
    (subst (λ (l : List FreeEntry). Frees state (allocator_state c.args.self.now c.args.caches.now c.args.file.now c.args.list.now) succeeded (with_first_free (image_state (table_of f.self) f.caches f.file l) (first_free_of f.self))) empty c.in_ok-process_clusters_to_free.ensures.frees) in
    let second = announced state (image_state t f.caches f.file []) a.self a.file done.written_value_unchanged done.blocks done.header done.room succeeded done.writes_back_cached done.announced done.well_formed done.cause done.faults in
    let third = subst (λ (v : TableValue). Allocates state c.args.count c.args.metadata (with_first_free (image_state v a.self a.file []) (first_free_of f.self)) c.allocate.result s') c.process_clusters_to_free.ensures.table
    (subst (λ (l : List FreeEntry). Allocates state c.args.count c.args.metadata (with_first_free (image_state (table_of f.self) a.self a.file l) (first_free_of f.self)) c.allocate.result s') empty c.allocate.ensures.allocates) in
    run-announced state c.args.count c.args.metadata (allocator_state c.args.self.now c.args.caches.now c.args.file.now c.args.list.now) (first_free_of f.self) f.caches f.file frees a.self a.file second c.allocate.result s' third

pub returns-in_err-l2_depends_on_rb-clause-allocates : goal.returns-in_err-l2_depends_on_rb-clause-allocates
returns-in_err-l2_depends_on_rb-clause-allocates g c = rw (handed-on _ _ c.from_residual-in_err-l2_depends_on_rb.ensures.1) (
    let state = g.S.Storage.state in
    let t = table_of c.args.self.now in
    let f = c.process_clusters_to_free.new in
    let a = c.l2_depends_on_rb.new in
    let empty = c.in_ok-process_clusters_to_free.ensures.ok in
    let done = c.in_err-l2_depends_on_rb.ensures in
    let frees = subst (λ (v : TableValue). Frees state (allocator_state c.args.self.now c.args.caches.now c.args.file.now c.args.list.now) succeeded (with_first_free (image_state v f.caches f.file []) (first_free_of f.self))) c.process_clusters_to_free.ensures.table
    (subst (λ (l : List FreeEntry). Frees state (allocator_state c.args.self.now c.args.caches.now c.args.file.now c.args.list.now) succeeded (with_first_free (image_state (table_of f.self) f.caches f.file l) (first_free_of f.self))) empty c.in_ok-process_clusters_to_free.ensures.frees) in
    let second = announced state (image_state t f.caches f.file []) a.self a.file done.written_value_unchanged done.blocks done.header done.room (failed c.in_err-l2_depends_on_rb.field-0.0) done.writes_back_cached tt tt done.cause done.faults in
    subst (λ (v : TableValue). AllocatesClusters state c.args.count c.args.metadata (allocator_state c.args.self.now c.args.caches.now c.args.file.now c.args.list.now) (refused_run c.in_err-l2_depends_on_rb.field-0.0) (with_first_free (image_state v a.self a.file f.list.entries) (first_free_of f.self)))
    (sym c.process_clusters_to_free.ensures.table)
    (subst (λ (l : List FreeEntry). AllocatesClusters state c.args.count c.args.metadata (allocator_state c.args.self.now c.args.caches.now c.args.file.now c.args.list.now) (refused_run c.in_err-l2_depends_on_rb.field-0.0) (with_first_free (image_state t a.self a.file l) (first_free_of f.self)))
    (sym empty)
    (run-not-announced state c.args.count c.args.metadata (allocator_state c.args.self.now c.args.caches.now c.args.file.now c.args.list.now) (first_free_of f.self) f.caches f.file frees a.self a.file c.in_err-l2_depends_on_rb.field-0.0 second)))

none-waits : (l : List FreeEntry) → (length l == 0) ≡ true → l ≡ []
none-waits [] is = refl
none-waits (e ∷ l) is = let none : length (e ∷ l) ≡ 0 = eqb-true (length (e ∷ l)) 0 is in absurd (omega (arith, none))

-- If the free list was empty, setting the order is all that was done.
still-clean : {S : Type 0} (state : S → StorageState) (old mid new : MetadataCaches S) (before between after : ImageFile S) → mid ≡ old
    → between ≡ before
    → (AreTablesClean (cached_in mid) → AreBlocksClean (cached_in mid)
    → UnchangedButFaults (state between.image) (state after.image) × AreTablesClean (cached_in new) × AreBlocksClean (cached_in new))
    → KeepsClean state (cached_file old before) (cached_file new after)
still-clean {S} state old mid new before between after caches file has_no_dirty_data = λ tables blocks.
    let s = has_no_dirty_data (subst (λ (c : MetadataCaches S). AreTablesClean (cached_in c)) (sym caches) tables)
    (subst (λ (c : MetadataCaches S). AreBlocksClean (cached_in c)) (sym caches) blocks) in
    record { unchanged_but_faults = subst (λ (f : ImageFile S). UnchangedButFaults (state f.image) (state after.image)) file s.0; tables = s.1; blocks = s.2 }

pub returns-in_err-process_clusters_to_free-clause-untouched_unless_begun : goal.returns-in_err-process_clusters_to_free-clause-untouched_unless_begun
returns-in_err-process_clusters_to_free-clause-untouched_unless_begun g c = λ not. elim c.if-not-is_empty.branch [
  | then-not-is_empty w ↦ let never = sym w.begun-is ∙ not in absurd (cc never)
  | else-not-is_empty w ↦
      let none = none-waits c.args.list.now.entries (sym c.is_empty.ensures ∙ w.if-not-is_empty.false) in
      let never = (c.in_err-process_clusters_to_free.ensures.idle none).0 in
      absurd (cc never)
]

pub returns-in_err-l2_depends_on_rb-clause-untouched_unless_begun : goal.returns-in_err-l2_depends_on_rb-clause-untouched_unless_begun
returns-in_err-l2_depends_on_rb-clause-untouched_unless_begun g c = λ not. elim c.if-not-is_empty.branch [
  | then-not-is_empty w ↦ let never = sym w.begun-is ∙ not in absurd (cc never)
  | else-not-is_empty w ↦
      let none = none-waits c.args.list.now.entries (sym c.is_empty.ensures ∙ w.if-not-is_empty.false) in
      let f = c.process_clusters_to_free.new in
      let a = c.l2_depends_on_rb.new in
      let idle = c.in_ok-process_clusters_to_free.ensures.idle none in
      let done = c.in_err-l2_depends_on_rb.ensures in (
        sym w.begun-is ∙ not,
        idle.3,
        c.in_ok-process_clusters_to_free.ensures.ok ∙ sym none,
        done.header ∙ ap (λ file. file.header) idle.2,
        still-clean g.S.Storage.state c.args.caches.now f.caches a.self c.args.file.now f.file a.file idle.1 idle.2 done.has_no_dirty_data,
      )
]

pub returns-clause-untouched_unless_begun : goal.returns-clause-untouched_unless_begun
returns-clause-untouched_unless_begun g c = λ not.
    let spared = c.allocate.ensures.untouched_unless_begun not in elim c.if-not-is_empty.branch [
      | then-not-is_empty w ↦ let never = sym w.begun-is ∙ spared.0 in absurd (cc never)
      | else-not-is_empty w ↦
          let none = none-waits c.args.list.now.entries (sym c.is_empty.ensures ∙ w.if-not-is_empty.false) in
          let f = c.process_clusters_to_free.new in
          let a = c.l2_depends_on_rb.new in
          let new = c.allocate.new in
          let idle = c.in_ok-process_clusters_to_free.ensures.idle none in
          let done = c.in_ok-l2_depends_on_rb.ensures in (
            sym w.begun-is ∙ spared.0,
            spared.1 ∙ idle.3,
            spared.2 ∙ c.in_ok-process_clusters_to_free.ensures.ok ∙ sym none,
            spared.3 ∙ done.header ∙ ap (λ file. file.header) idle.2,
            clean-then g.S.Storage.state c.args.caches.now c.args.file.now a.self a.file new.caches new.file
                (still-clean g.S.Storage.state c.args.caches.now f.caches a.self c.args.file.now f.file a.file idle.1 idle.2 done.has_no_dirty_data) spared.4,
          )
    ]
