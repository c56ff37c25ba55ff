-- Refcounts that are too high are lowered, and the changed metadata is written.
use Rattle.std.proofs.Common.{◌≡◌, ℕ, ◌+◌, ◌<◌, refl, arith, sym, subst, ◌∙◌, inl, inr, List, length, take, Result, Ok, Err}
use Rattle.std.specs.Prelude.{IfErr, IsTrue, ⊤}
use Rattle.imago_storage.specs.Calls.{CountsNotFallen}
use Rattle.imago_storage.specs.State.{StorageState}
use Rattle.imago_storage.specs.declared.fault.Fault.{Fault}
use Rattle.imago_storage.proofs.Composing.{keeps_on, later_both}
use Rattle.qcow2_types.specs.Bytes.{bytes_of, raw_entry}
use Rattle.qcow2_types.specs.Header.{Header}
use Rattle.qcow2_alloc.specs.declared.cache.MetadataCaches.{MetadataCaches}
use Rattle.qcow2_alloc.specs.declared.file.ImageFile.{ImageFile}
use Rattle.qcow2_alloc.specs.Allocators.{table_of}
use Rattle.qcow2_alloc.specs.Caches.{cached_in}
use Rattle.qcow2_alloc.specs.Causes.{HasCause, FailsFor}
use Rattle.qcow2_alloc.specs.Freeing.{HasUnpinnedSlot, NoneFreeBefore, freeing_causes}
use Rattle.qcow2_alloc.specs.Going.{AreBlocksAddressable, AreTablesAddressable, HadNoResourceError, writing_causes}
use Rattle.qcow2_alloc.specs.GuestView.{IsSound, Metadata, counted}
use Rattle.qcow2_alloc.specs.Memory.{Cached}
use Rattle.qcow2_alloc.specs.State.{KeepsWritesAndSound}
use Rattle.qcow2_alloc.proofs.Causes.{cause-weaker}
use Rattle.qcow2_alloc.proofs.Flushing.FlushRefusals.{writing-implies}
use Rattle.qcow2_alloc.proofs.Memory.SafeLaws.{safe-reach}
use Rattle.qcow2_clusters.specs.Flushed.{AreEmpty, Clusters, HasEntries, IsReady, KeepsL1, changed, clusters_state, flushed_metadata, storage}
use Rattle.qcow2_clusters.specs.Freeing.{releasing_causes}
use Rattle.qcow2_clusters.specs.Lowering.{AreLeaks, ArePositive, HaveExcess, LowersEach, LowersLeaks, lowered_in}
use Rattle.qcow2_clusters.specs.Progress.{Kind, Progresses, both, handing}
use Rattle.qcow2_clusters.specs.Room.{first_free_in}
use Rattle.qcow2_clusters.specs.WritingBack.{WritesBack}
use Rattle.qcow2_clusters.proofs.EndsAtRest.{begun, ready-kept, settled-cases, settled-cause, settled-faultless, settled-ok, settled-progresses, lent_by}
use Rattle.qcow2_clusters.proofs.ProgressSums.{progresses-then, progresses-weaker, quiet-progresses, wider-both, wider-handing, wider-same}
use Rattle.qcow2_clusters.proofs.RoomAfterAllocations.{marked-as}
use Rattle.qcow2_clusters.proofs.StartsAtRest.{begun-counts, begun-quietly, empty-loose, l1-stays}

-- The storage keeps writes, and the image is consistent before the call.
progresses-given : (ok : Type 0) (kind : Kind) (s : StorageState) (m : Metadata) (s' : StorageState) (m' : Metadata) → s'.shape ≡ s.shape → CountsNotFallen s s' → (IsTrue s.shape.keeps → IsSound m → Progresses ok kind s m s' m') → Progresses ok kind s m s' m'
progresses-given ok kind s m s' m' shape later progress = record {
  shape = shape;
  counts_not_fallen = later;
  passes = λ keeps sound. (progress keeps sound).passes keeps sound;
  holds = λ keeps sound. (progress keeps sound).holds keeps sound;
}

module _ {S : Type 0} (state : S → StorageState) (pairs : List (ℕ × ℕ)) (c : Clusters S) (empty : AreEmpty c.caches) (room : HasEntries c.caches) (mid : Clusters S)
    (lowered : Result Unit Fault) (lowers : LowersEach state pairs (lent_by c) lowered (lent_by mid))
    (result : Result Unit Fault) (after : ImageFile S) (new : MetadataCaches S) (settles : WritesBack state lowered mid.file mid.caches result after new) where
  abbrev c' : Clusters S
  c' = clusters_state after new mid.space

  abbrev kind : Kind
  kind = handing (λ _. 0) (lowered_in (take lowers.part pairs))

  shape : (storage state c').shape ≡ (storage state c).shape
  shape = (settles.guest_unchanged (table_of mid.space.allocator) mid.space.to_free.entries).shape ∙ lowers.does.shape

  later : CountsNotFallen (storage state c) (storage state c')
  later = later_both (storage state c) (storage state mid) (storage state c') lowers.does.counts_not_fallen (settles.guest_unchanged (table_of mid.space.allocator) mid.space.to_free.entries).counts_not_fallen

  leaks : HaveExcess (flushed_metadata state c) pairs → AreLeaks state pairs (lent_by c)
  leaks excess keeps sound = subst (λ (cached : Cached). HaveExcess (record (flushed_metadata state c) { cached = cached }) pairs) (sym empty) excess

  -- The image while the changed blocks are cached.
  lowered-progress : HaveExcess (flushed_metadata state c) pairs → Progresses (HadNoResourceError lowered) kind (storage state c) (flushed_metadata state c) (storage state mid) (changed state mid)
  lowered-progress excess =
      progresses-weaker (HadNoResourceError lowered) (HadNoResourceError lowered) (both (handing (λ _. 0) (λ _. 0)) kind) kind (storage state c) (flushed_metadata state c) (storage state mid) (changed state mid)
      (wider-both (handing (λ _. 0) (λ _. 0)) kind kind (wider-handing (λ _. 0) (λ _. 0) kind) (wider-same kind)) (λ done. done) (λ d. omega arith) (λ d. omega arith)
      (progresses-then (HadNoResourceError lowered) ⊤ (handing (λ _. 0) (λ _. 0)) kind (storage state c) (flushed_metadata state c) (storage state c) (changed state c) (storage state mid) (changed state mid) tt
      (quiet-progresses ⊤ (λ _. 0) (λ _. 0) (storage state c) (flushed_metadata state c) (storage state c) (changed state c) (λ sound d some. refl) (begun-quietly ⊤ (storage state c) (changed state c) empty))
      (lowers.does.progress (leaks excess)))

  all-progress : HaveExcess (flushed_metadata state c) pairs → Progresses (HadNoResourceError result) kind (storage state c) (flushed_metadata state c) (storage state c') (flushed_metadata state c')
  all-progress excess = settled-progresses state lowered mid.file mid.caches result after new settles (table_of mid.space.allocator) mid.space.to_free.entries (storage state c) (flushed_metadata state c) kind (lowered-progress excess)

  whole-before : HadNoResourceError result → HadNoResourceError lowered
  whole-before done = elim (settled-cases state lowered mid.file mid.caches result after new settles) [
    | inl same ↦ subst (λ (r : Result Unit Fault). HadNoResourceError r) same done
    | inr refused ↦ refused.0
  ]

  keeps-there : IsReady state c → IsTrue (storage state mid).shape.keeps
  keeps-there ready = keeps_on (storage state c) (storage state mid) lowers.does.shape ready.keeps

  sound-there : IsReady state c → HaveExcess (flushed_metadata state c) pairs → HadNoResourceError lowered → IsSound (changed state mid)
  sound-there ready excess whole = ((lowered-progress excess).holds ready.keeps ready.sound whole).sound

  -- The refcounts stay as they are when the blocks are written.
  written-counts : IsReady state c → HaveExcess (flushed_metadata state c) pairs → HadNoResourceError result → (d : ℕ) → counted (flushed_metadata state c') d ≡ counted (changed state mid) d
  written-counts ready excess done = settles.counts (table_of mid.space.allocator) mid.space.to_free.entries (keeps-there ready) (sound-there ready excess (whole-before done)) done

  counts-there : IsReady state c → HaveExcess (flushed_metadata state c) pairs → HadNoResourceError result
      → (d : ℕ) → counted (flushed_metadata state c') d + lowered_in (take lowers.part pairs) d ≡ counted (flushed_metadata state c) d
  counts-there ready excess done d =
      let kept = ready-kept state c empty ready in
      let first = lowers.does.counts (leaks excess) kept.0 kept.1 (whole-before done) d in
      let written = written-counts ready excess done d in
      let begin = begun-counts state c empty d in
      omega (arith, first, written, begin)

  marked-there : HaveExcess (flushed_metadata state c) pairs → IsReady state c → HadNoResourceError result → NoneFreeBefore (flushed_metadata state c) (first_free_in c) → NoneFreeBefore (flushed_metadata state c') (first_free_in mid)
  marked-there excess ready done marked =
      let kept = ready-kept state c empty ready in
      marked-as (changed state mid) (flushed_metadata state c') (first_free_in mid) (written-counts ready excess done)
      (lowers.does.marked (leaks excess) kept.0 kept.1 (whole-before done) (marked-as (flushed_metadata state c) (changed state c) (first_free_in c) (begun-counts state c empty) marked))

  l1-there : HaveExcess (flushed_metadata state c) pairs → KeepsL1 state c result c'
  l1-there excess ready done l1 of =
      let kept = ready-kept state c empty ready in
      let whole = whole-before done in
      let settled = (settles.guest_unchanged (table_of mid.space.allocator) mid.space.to_free.entries).holds (keeps-there ready) (sound-there ready excess whole) done in
      l1-stays (flushed_metadata state c).file (flushed_metadata state c').file c.file.header c'.file.header l1
      (c.file.header.fields.refcount_table_offset, c.file.header.fields.refcount_table_clusters, settles.header ∙ lowers.does.header)
      (λ i under.
      subst (λ (H : Header). i < H.fields.l1_entries → raw_entry (flushed_metadata state c').file H.fields.l1_offset i ≡ raw_entry (bytes_of (storage state mid).bytes) H.fields.l1_offset i) lowers.does.header (settled.1.shows.l1 i) under
      ∙ lowers.does.l1 (leaks excess) kept.0 kept.1 whole i under) of

  abbrev Premise : Type 0
  Premise = IsReady state c × HaveExcess (flushed_metadata state c) pairs × ArePositive pairs

  first-cause : (r : Result Unit Fault)
      → FailsFor (freeing_causes (KeepsWritesAndSound state (begun c) × AreLeaks state pairs (lent_by c) × ArePositive pairs) (HasUnpinnedSlot c.caches) (storage state c).faults (storage state mid).faults) r
      → IfErr r (HasCause (releasing_causes Premise (storage state c).faults (storage state mid).faults))
  first-cause (Ok done) counts = tt
  first-cause (Err fault) counts = cause-weaker (record {
    before = omega arith;
    after = omega arith;
    damaged = λ wrong given. wrong (ready-kept state c empty given.0, leaks given.1, given.2);
    counter = λ wrong given. wrong (ready-kept state c empty given.0, leaks given.1, given.2);
    full = λ none. none (empty-loose (table_of c.space.allocator) c.caches empty room).room;
    limit = λ number. absurd;
  }) fault counts

  flush-cause : HadNoResourceError lowered → (fault : Fault)
      → HasCause (writing_causes (AreTablesAddressable (cached_in mid.caches) × AreBlocksAddressable (cached_in mid.caches)) (storage state mid).faults (state after.image).faults) fault
      → HasCause (releasing_causes Premise (storage state c).faults (state after.image).faults) fault
  flush-cause whole fault why =
      cause-weaker (writing-implies _ lowers.does.counts_not_fallen.faults (omega arith)
      (λ far given. far (safe-reach (changed state mid).file mid.file.header (cached_in mid.caches) mid.caches.order (sound-there given.0 given.1 whole).well_formed))) fault why

  pub leaks-lowered : mid.space.to_free ≡ c.space.to_free → LowersLeaks state pairs c result c'
  leaks-lowered to_free = record {
    part = lowers.part;
    whole = settled-ok state lowered mid.file mid.caches result after new settles (lowers.part ≡ length pairs) lowers.whole;
    progress = λ given. progresses-given (HadNoResourceError result) kind (storage state c) (flushed_metadata state c) (storage state c') (flushed_metadata state c') shape later
        (λ keeps sound. all-progress (given (record { keeps = keeps; sound = sound })));
    counts = counts-there;
    rests = record {
      empty = settles.empty;
      room = record { tables = settles.room.tables ∙ lowers.does.room.tables; blocks = settles.room.blocks ∙ lowers.does.room.blocks };
      header = (c.file.header.fields.refcount_table_offset, c.file.header.fields.refcount_table_clusters, settles.header ∙ lowers.does.header);
      shape = shape;
      counts_not_fallen = later;
      faults = settled-faultless state lowered mid.file mid.caches result after new settles (storage state c) lowers.does.faults;
    };
    to_free = to_free;
    table = lowers.does.table;
    l1 = l1-there;
    header = settles.header ∙ lowers.does.header;
    no_shorter = let first = lowers.does.no_shorter in let second = settles.no_shorter in omega (arith, first, second);
    marked = marked-there;
    cause = settled-cause state lowered mid.file mid.caches result after new settles (λ count. HasCause (releasing_causes Premise (storage state c).faults count)) (first-cause lowered lowers.cause) flush-cause;
  }
