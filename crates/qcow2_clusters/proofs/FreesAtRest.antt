-- The clusters on the free list are freed, and the changed metadata is written.
use Rattle.std.proofs.Common.{◌≡◌, [], refl, arith, subst, ◌∙◌, inl, inr, Result, Ok, Err}
use Rattle.std.specs.Prelude.{IfErr, OnOk}
use Rattle.imago_storage.specs.State.{StorageState}
use Rattle.imago_storage.specs.declared.fault.Fault.{Fault}
use Rattle.imago_storage.proofs.Composing.{keeps_on}
use Rattle.qcow2_alloc.specs.declared.cache.MetadataCaches.{MetadataCaches}
use Rattle.qcow2_alloc.specs.declared.file.ImageFile.{ImageFile}
use Rattle.qcow2_alloc.specs.Allocators.{table_of}
use Rattle.qcow2_alloc.specs.Caches.{cached_in}
use Rattle.qcow2_alloc.specs.Causes.{HasCause, FailsFor}
use Rattle.qcow2_alloc.specs.Freeing.{Frees, HasUnpinnedSlot, NoErrorOrNoChangeRefused, NoneFreeBefore, freeing_causes}
use Rattle.qcow2_alloc.specs.Going.{AreBlocksAddressable, AreTablesAddressable, HadNoResourceError, writing_causes}
use Rattle.qcow2_alloc.specs.GuestView.{PreservesGuest}
use Rattle.qcow2_alloc.specs.State.{KeepsWritesAndSound}
use Rattle.qcow2_alloc.proofs.Flushing.FlushRefusals.{writing-implies}
use Rattle.qcow2_alloc.proofs.Causes.{cause-weaker}
use Rattle.qcow2_alloc.proofs.Memory.SafeLaws.{safe-reach}
use Rattle.qcow2_alloc.proofs.GuestView.QuietFlushes.{quietly-weaker}
use Rattle.qcow2_clusters.specs.Freeing.{FreesPendingClusters, releasing_causes}
use Rattle.qcow2_clusters.specs.Flushed.{AreEmpty, Clusters, HasEntries, IsReady, changed, clusters_state, flushed_metadata, storage}
use Rattle.qcow2_clusters.specs.WritingBack.{WritesBack}
use Rattle.qcow2_clusters.specs.Room.{first_free_in}
use Rattle.qcow2_clusters.proofs.ProgressSums.{quiet-progresses}
use Rattle.qcow2_clusters.proofs.EndsAtRest.{begun, begun-then, ready-kept, settled-cause, settled-faultless, settled-ok, settled-quietly, settled-cases, lent_by}
use Rattle.qcow2_clusters.proofs.StartsAtRest.{empty-loose, l1-kept, begun-counts}
use Rattle.qcow2_clusters.proofs.RoomAfterAllocations.{marked-as}

module _ {S : Type 0} (state : S → StorageState) (c : Clusters S) (empty : AreEmpty c.caches) (room : HasEntries c.caches) (mid : Clusters S)
    (freed : Result Unit Fault) (frees : Frees state (lent_by c) freed (lent_by mid))
    (result : Result Unit Fault) (after : ImageFile S) (new : MetadataCaches S) (settles : WritesBack state freed mid.file mid.caches result after new) where
  abbrev c' : Clusters S
  c' = clusters_state after new mid.space

  freed-quietly : PreservesGuest (HadNoResourceError freed) (λ _. 0) (λ _. 0) (storage state c) (flushed_metadata state c) (storage state mid) (changed state mid)
  freed-quietly =
      begun-then state c empty (HadNoResourceError freed) (λ _. 0) (storage state mid) (changed state mid)
      (quietly-weaker (NoErrorOrNoChangeRefused freed (storage state c) (storage state mid)) (HadNoResourceError freed) (λ _. 0) (λ _. 0) (storage state c) (changed state c) (storage state mid) (changed state mid)
      (λ sound whole. inl whole) frees.guest_unchanged)

  all-quietly : PreservesGuest (HadNoResourceError result) (λ _. 0) (λ _. 0) (storage state c) (flushed_metadata state c) (storage state c') (flushed_metadata state c')
  all-quietly = settled-quietly state freed mid.file mid.caches result after new settles (table_of mid.space.allocator) mid.space.to_free.entries (storage state c) (flushed_metadata state c) (λ _. 0) freed-quietly

  -- If no cluster before the first-free hint was free, none is free there afterwards.
  marked-there : IsReady state c → HadNoResourceError result → NoneFreeBefore (flushed_metadata state c) (first_free_in c) → NoneFreeBefore (flushed_metadata state c') (first_free_in mid)
  marked-there ready done marked =
      let kept = ready-kept state c empty ready in
      let whole : HadNoResourceError freed = elim (settled-cases state freed mid.file mid.caches result after new settles) [
        | inl same ↦ subst (λ (r : Result Unit Fault). HadNoResourceError r) same done
        | inr refused ↦ refused.0
      ] in
      marked-as (changed state mid) (flushed_metadata state c') (first_free_in mid)
      (settles.counts (table_of mid.space.allocator) mid.space.to_free.entries (keeps_on (storage state c) (storage state mid) freed-quietly.shape ready.keeps)
      (freed-quietly.holds ready.keeps ready.sound whole).0 done)
      (frees.marked kept.0 kept.1 (inl whole) (marked-as (flushed_metadata state c) (changed state c) (first_free_in c) (begun-counts state c empty) marked))

  first-cause : (r : Result Unit Fault) → FailsFor (freeing_causes (KeepsWritesAndSound state (begun c)) (HasUnpinnedSlot c.caches) (storage state c).faults (storage state mid).faults) r
      → IfErr r (HasCause (releasing_causes (IsReady state c) (storage state c).faults (storage state mid).faults))
  first-cause (Ok done) counts = tt
  first-cause (Err fault) counts = cause-weaker (record {
    before = omega arith;
    after = omega arith;
    damaged = λ wrong ready. wrong (ready-kept state c empty ready);
    counter = λ wrong ready. wrong (ready-kept state c empty ready);
    full = λ none. none (empty-loose (table_of c.space.allocator) c.caches empty room).room;
    limit = λ number. absurd;
  }) fault counts

  flush-cause : HadNoResourceError freed → (fault : Fault)
      → HasCause (writing_causes (AreTablesAddressable (cached_in mid.caches) × AreBlocksAddressable (cached_in mid.caches)) (storage state mid).faults (state after.image).faults) fault
      → HasCause (releasing_causes (IsReady state c) (storage state c).faults (state after.image).faults) fault
  flush-cause whole fault why =
      cause-weaker (writing-implies _ frees.guest_unchanged.counts_not_fallen.faults (omega arith)
      (λ far ready. far (safe-reach (changed state mid).file mid.file.header (cached_in mid.caches) mid.caches.order (freed-quietly.holds ready.keeps ready.sound whole).0.well_formed))) fault why

  pub frees-waiting : OnOk freed (mid.space.to_free.entries ≡ []) → mid.space.to_free.held ≡ c.space.to_free.held → FreesPendingClusters state c result c'
  frees-waiting emptied held = record {
    progress = quiet-progresses (HadNoResourceError result) (λ _. 0) (λ _. 0) (storage state c) (flushed_metadata state c) (storage state c') (flushed_metadata state c') (λ sound k some. refl) all-quietly;
    rests = record {
      empty = settles.empty;
      room = record { tables = settles.room.tables ∙ frees.room.tables; blocks = settles.room.blocks ∙ frees.room.blocks };
      header = (c.file.header.fields.refcount_table_offset, c.file.header.fields.refcount_table_clusters, settles.header ∙ frees.header);
      shape = all-quietly.shape;
      counts_not_fallen = all-quietly.counts_not_fallen;
      faults = settled-faultless state freed mid.file mid.caches result after new settles (storage state c) frees.faults;
    };
    held = held;
    l1 = l1-kept state c result c' (λ _. 0) (λ _. 0) all-quietly;
    emptied = settled-ok state freed mid.file mid.caches result after new settles (mid.space.to_free.entries ≡ []) emptied;
    header = settles.header ∙ frees.header;
    no_shorter = let first = frees.no_shorter in let second = settles.no_shorter in omega (arith, first, second);
    marked = marked-there;
    cause = settled-cause state freed mid.file mid.caches result after new settles (λ count. HasCause (releasing_causes (IsReady state c) (storage state c).faults count)) (first-cause freed frees.cause) flush-cause;
  }
