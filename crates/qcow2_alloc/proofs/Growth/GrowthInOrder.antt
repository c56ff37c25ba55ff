-- Growing the refcount table, after the write order is set.
use Rattle.std.proofs.Common.{inl, ◌≡◌, ℕ, ◌++◌, refl, ap, subst, ◌∙◌, length, Result, Ok, Err, Bool, true}
use Rattle.std.specs.Prelude.{IsTrue, OnOk, IfErr}
use Rattle.imago_storage.specs.State.{StorageState}
use Rattle.imago_storage.specs.declared.fault.Fault.{Fault}
use Rattle.qcow2_types.specs.Header.{Header, entries_of_cluster}
use Rattle.qcow2_types.specs.Counts.{counters_of_block}
use Rattle.qcow2_types.specs.Words.{Layout}
use Rattle.qcow2_metadata.specs.Tables.{IsGrownLength}
use Rattle.qcow2_alloc.specs.declared.cache.CacheDependency.TheVariants.{L2DependsOnRb}
use Rattle.qcow2_alloc.specs.declared.cache.MetadataCaches.{MetadataCaches}
use Rattle.qcow2_alloc.specs.declared.file.ImageFile.{ImageFile}
use Rattle.qcow2_alloc.specs.Allocating.{MovedTable}
use Rattle.qcow2_alloc.specs.Allocators.{metadata_of}
use Rattle.qcow2_alloc.specs.Caches.{order_of, KeepsTables}
use Rattle.qcow2_alloc.specs.Causes.{HasCause}
use Rattle.qcow2_alloc.specs.Freeing.{HasUnpinnedRoom}
use Rattle.qcow2_alloc.specs.Going.{IsNotResourceError, HadNoResourceError}
use Rattle.qcow2_alloc.specs.GrowingTables.{GrowsTable, TableGrown, table_run}
use Rattle.qcow2_alloc.specs.HandingOut.{GrowsReftable, StaysInShape}
use Rattle.qcow2_alloc.specs.MovingTables.{growing_causes}
use Rattle.qcow2_alloc.specs.GuestView.{Metadata, IsSound}
use Rattle.qcow2_alloc.specs.State.{ImageState, image_state, metadata, with_first_free, AllocatorState}
use Rattle.qcow2_alloc.proofs.Causes.{bare-weaker, cause-weaker, fails-weaker}
use Rattle.qcow2_alloc.proofs.Blocks.BlockCreationCalls.{freeing-allocates}
use Rattle.qcow2_alloc.proofs.Handing.CountSequences.{moved-none}
use Rattle.qcow2_alloc.proofs.Handing.BlocksBeforeTables.{Announced, no-place-as, grown-as, quiet-behind, sound-behind, raised-behind, allocates-behind}
use Rattle.qcow2_alloc.proofs.Flushing.FaultlessCalls.{faultless-then}
use Rattle.qcow2_alloc.proofs.Freeing.EntryFrees.{failed}
use Rattle.qcow2_alloc.proofs.Caching.UnpinnedCaches.{loose-all}
use Rattle.qcow2_alloc.proofs.GuestView.QuietFlushes.{memory-quietly, quiet-none}
use Rattle.qcow2_alloc.proofs.Blocks.RunProvision.{leaks-none}

module _ {S : Type 0} (state : S → StorageState) (at : ℕ) (s : AllocatorState S) (mid : MetadataCaches S) (between : ImageFile S) where
  abbrev Start : Metadata
  Start = metadata state s.image

  abbrev Mid : Metadata
  Mid = metadata_of state between mid s.table s.pending

  -- The caches keep their capacities and `HasUnpinnedRoom`.
  pub shape-behind : (result : Result Unit Fault) (s' : ImageState S) → Announced state s.image result (image_state s.table mid between s.pending) → MovedTable between.header s'.file.header → ((any : Bool) → HasUnpinnedRoom s.table mid any → HasUnpinnedRoom s'.table s'.caches any) → KeepsTables mid s'.caches
      → StaysInShape s.image s'
  shape-behind result s' first moved loose room = record {
    moved = subst (λ (H : Header). MovedTable H s'.file.header) first.header moved;
    keeps_unpinned_room = λ any all. loose any (first.loose any all);
    room = record { tables = room.tables ∙ first.room.tables; blocks = room.blocks ∙ first.room.blocks; entries = room.entries ∙ first.room.entries };
  }

  -- Making the copy fails: nothing has changed.
  pub not-copied : (fault : Fault) → HasCause (growing_causes s.file.header.fields s.table at) fault → GrowsReftable state at s (failed fault) s
  not-copied fault why = record {
    leaked = λ _. 0;
    leaks = leaks-none _ _ (failed fault);
    faults = λ whole. (refl, refl);
    guest_unchanged = memory-quietly (HadNoResourceError (failed fault)) (λ _. 0) (λ _. 0) (state s.file.image) Start Start (λ sound whole. (sound, quiet-none Start sound));
    raised = λ keeps sound whole c. inl refl;
    grown = λ keeps sound. tt;
    enough = tt;
    order = tt;
    mark = refl;
    shape = record { moved = moved-none s.file.header s.file.header refl; keeps_unpinned_room = λ any loose. loose; room = record { tables = refl; blocks = refl; entries = refl } };
    waits = tt;
    unchanged_on_error = refl;
    stays = λ not_resource_error. (refl, refl);
    cause = bare-weaker _ (λ apart known. apart (ap (λ (l : Layout). l.cluster_bits) known.1.table.layout)) (λ number long. ((λ keeps sound. inl long), refl)) fault why;
  }

  -- Setting the order fails: the table doesn't grow.
  pub not-announced : (fault : Fault) → Announced state s.image (failed fault) (image_state s.table mid between s.pending) → GrowsReftable state at s (failed fault) (with_first_free (image_state s.table mid between s.pending) s.mark)
  not-announced fault first = record {
    leaked = λ _. 0;
    leaks = leaks-none _ _ (failed fault);
    faults = first.faults;
    guest_unchanged = first.guest_unchanged;
    raised = λ keeps sound whole c. inl (first.counts keeps sound whole c);
    grown = λ keeps sound. tt;
    enough = tt;
    order = tt;
    mark = refl;
    shape = shape-behind (failed fault) (image_state s.table mid between s.pending) first (moved-none between.header between.header refl) (λ any loose. loose) (record { tables = refl; blocks = refl; entries = refl });
    waits = tt;
    unchanged_on_error = refl;
    stays = λ not_resource_error. (refl, first.header);
    cause = cause-weaker (freeing-allocates (λ holds. holds) (λ u. loose-all s.table s.caches u.0 u.2) refl) fault first.cause;
  }

  -- The order is set, and the table grows under it.
  module _ (first : Announced state s.image (Ok tt) (image_state s.table mid between s.pending)) (result : Result Unit Fault) (s' : AllocatorState S)
      (grows : GrowsTable state at (with_first_free (image_state s.table mid between s.pending) s.mark) result s') where
    abbrev End : Metadata
    End = metadata state s'.image

    grown : (r : Result Unit Fault) → IsTrue (state s.file.image).shape.keeps → IsSound Start → OnOk r (TableGrown s.mark at Mid End) → OnOk r (TableGrown s.mark at Start End)
    grown (Ok done) keeps sound is = grown-as Start Mid first.header refl (first.counts keeps sound tt) s.mark at End is
    grown (Err fault) keeps sound is = tt

    enough : (r : Result Unit Fault) → OnOk r (IsGrownLength (entries_of_cluster between.header.fields) (counters_of_block between.header.fields) at (length s'.table.raw_entries))
        → OnOk r (IsGrownLength (entries_of_cluster s.file.header.fields) (counters_of_block s.file.header.fields) at (length s'.table.raw_entries))
    enough (Ok done) is = subst (λ (H : Header). IsGrownLength (entries_of_cluster H.fields) (counters_of_block H.fields) at (length s'.table.raw_entries)) first.header is
    enough (Err fault) is = tt

    ordered : (r : Result Unit Fault) → OnOk r (order_of s'.caches ≡ L2DependsOnRb)
    ordered (Ok done) = grows.step.order ∙ first.order
    ordered (Err fault) = tt

    waits : (r : Result Unit Fault) → OnOk r (s'.pending ≡ s.pending ++ table_run between.header.fields) → OnOk r (s'.pending ≡ s.pending ++ table_run s.file.header.fields)
    waits (Ok done) is = subst (λ (H : Header). s'.pending ≡ s.pending ++ table_run H.fields) first.header is
    waits (Err fault) is = tt

    stays : (r : Result Unit Fault) → IfErr r (λ fault. IsNotResourceError fault → (s'.table ≡ s.table) × (s'.file.header ≡ between.header)) → IfErr r (λ fault. IsNotResourceError fault → (s'.table ≡ s.table) × (s'.file.header ≡ s.file.header))
    stays (Ok done) is = tt
    stays (Err fault) is = λ not_resource_error. let both = is not_resource_error in (both.0, both.1 ∙ first.header)

    pub announced-grows : GrowsReftable state at s result s'
    announced-grows = record {
      leaked = grows.leaked;
      leaks = record { none = grows.leaks.none; pinned = λ holds loose. let has_no_dirty_data = sound-behind state s.image mid between first holds.0 holds.1 in grows.leaks.pinned (has_no_dirty_data.0, first.order, has_no_dirty_data.1) (first.loose true loose) };
      faults = λ whole. faultless-then (first.faults tt) (grows.step.faults whole);
      guest_unchanged = quiet-behind state s.image mid between first (HadNoResourceError result) grows.leaked (state s'.file.image) End grows.step.guest_unchanged;
      raised = λ keeps sound whole. let has_no_dirty_data = sound-behind state s.image mid between first keeps sound in
          raised-behind state s.image mid between first End keeps sound (grows.step.raised first.order has_no_dirty_data.0 has_no_dirty_data.1 whole);
      grown = λ keeps sound. let has_no_dirty_data = sound-behind state s.image mid between first keeps sound in grown result keeps sound (grows.grown first.order has_no_dirty_data.0 has_no_dirty_data.1);
      enough = enough result grows.enough;
      order = ordered result;
      mark = grows.mark;
      shape = shape-behind (Ok tt) s'.image first grows.step.moved grows.step.keeps_unpinned_room grows.step.room;
      waits = waits result grows.waits;
      unchanged_on_error = grows.unchanged_on_error;
      stays = stays result grows.stays;
      cause = fails-weaker _ _ (allocates-behind state s.image mid between first (λ number full keeps sound. let has_no_dirty_data = sound-behind state s.image mid between first keeps sound in no-place-as Start Mid first.header refl (first.counts keeps sound tt) s.mark at number (full first.order has_no_dirty_data.0 has_no_dirty_data.1)))
          (λ same. same ∙ first.cause) result grows.cause;
    }
