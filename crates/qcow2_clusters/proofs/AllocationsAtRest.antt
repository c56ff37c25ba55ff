-- Consecutive clusters are allocated in a flushed image.
use Rattle.std.proofs.Common.{◌≡◌, ◌≢◌, ℕ, ◌+◌, ◌-◌, ◌<◌, ◌≤◌, refl, arith, ap, sym, subst, Result, Ok, Err, Bool, List, false}
use Rattle.std.specs.Prelude.{⊤}
use Rattle.imago_storage.specs.State.{StorageState}
use Rattle.imago_storage.specs.declared.fault.Fault.{Fault}
use Rattle.imago_storage.specs.declared.fault.Fault.TheVariants.{CacheFull, Limit}
use Rattle.qcow2_types.specs.Header.{Header, cluster_size}
use Rattle.qcow2_types.specs.Pending.{FreeEntry}
use Rattle.qcow2_metadata.specs.Places.{IsAddressable}
use Rattle.qcow2_alloc.specs.Allocating.{allocating_causes}
use Rattle.qcow2_alloc.specs.Allocators.{table_of}
use Rattle.qcow2_alloc.specs.Caches.{HasRoomOf}
use Rattle.qcow2_alloc.specs.Causes.{HasCause}
use Rattle.qcow2_alloc.specs.Crowding.{IsCrowded, room_for, space}
use Rattle.qcow2_alloc.specs.Freeing.{HasUnpinnedRoom}
use Rattle.qcow2_alloc.specs.Going.{IsNotResourceError, HadNoResourceError}
use Rattle.qcow2_alloc.specs.HandingOut.{AllocatesClusters}
use Rattle.qcow2_alloc.specs.MakingRoom.{run_of}
use Rattle.qcow2_alloc.specs.FreeList.{covers}
use Rattle.qcow2_alloc.specs.GuestView.{IsUsed, PreservesGuest, counted}
use Rattle.qcow2_alloc.specs.ReadyingRuns.{IsRunTold}
use Rattle.qcow2_alloc.specs.ReadyingRuns.{allocated_by as handed_out}
use Rattle.qcow2_alloc.specs.State.{metadata_with_first_free, KeepsWritesAndSound, WhereKept}
use Rattle.qcow2_alloc.specs.Freeing.{NoneFreeBefore}
use Rattle.qcow2_alloc.proofs.Causes.{cause-weaker, cause-told}
use Rattle.qcow2_alloc.proofs.Handing.ClustersHandedOut.{unnamed-used}
use Rattle.qcow2_alloc.proofs.GuestView.QuietSequences.{quietly-otherwise, used-then}
use Rattle.qcow2_clusters.specs.Flushed.{AreEmpty, Clusters, HasEntries, IsReady, changed, flushed_metadata, storage}
use Rattle.qcow2_clusters.specs.Room.{IsFull, LeavesRoom, first_free_in}
use Rattle.qcow2_clusters.specs.WritingBack.{AreUnpinned}
use Rattle.qcow2_clusters.specs.Storing.{AreReserved, StoresRunUnsettled}
use Rattle.qcow2_clusters.proofs.EndsAtRest.{begun, begun-then, ready-kept, lent_by}
use Rattle.qcow2_clusters.proofs.RoomAfterAllocations.{allocation-leaves, crowded-there, marked-as}
use Rattle.qcow2_clusters.proofs.StartsAtRest.{begun-counts, begun-quiet, empty-loose, loose-unpinned}

-- The fault isn't that the cache is full.
why-full : (sound : Type 0) (loose : Bool → Type 0) (full : ℕ → Type 0) → loose false → (before after : ℕ) (fault : Fault) → fault ≡ CacheFull
    → HasCause (allocating_causes sound loose full before after) fault → ⊥
why-full sound loose full room before after fault is why =
    subst (λ (f : Fault). HasCause (allocating_causes sound loose full before after) f) is why (false, (λ e. absurd (cc e)), room)

module _ {S : Type 0} (state : S → StorageState) (c : Clusters S) (empty : AreEmpty c.caches) (room : HasEntries c.caches) (n : ℕ) (mid : Clusters S) where
  loose : HasUnpinnedRoom (table_of c.space.allocator) c.caches false
  loose = empty-loose (table_of c.space.allocator) c.caches empty room

  module _ (result : Result FreeEntry Fault) (a : AllocatesClusters state n false (lent_by c) result (lent_by mid)) where
    -- Nothing is pinned after the allocation.
    pub run-unpinned : AreUnpinned mid.caches
    run-unpinned = loose-unpinned (table_of mid.space.allocator) c.caches mid.caches empty a.shape.room (a.shape.keeps_unpinned_room false loose)

    -- The caches have as much space, and clusters have the same size.
    pub run-room : HasRoomOf c.caches mid.caches
    run-room = record { tables = a.shape.room.tables; blocks = a.shape.room.blocks }

    pub run-size : cluster_size mid.file.header.fields ≡ cluster_size c.file.header.fields
    run-size = ap (λ (H : Header). cluster_size H.fields) a.shape.moved.2

    pub run-bits : mid.file.header.fields.cluster_bits ≡ c.file.header.fields.cluster_bits
    run-bits = ap (λ (H : Header). H.fields.cluster_bits) a.shape.moved.2

    -- If no cluster before the first-free hint was free, none is free there afterwards.
    pub run-marked : IsReady state c → HadNoResourceError result → NoneFreeBefore (flushed_metadata state c) (first_free_in c) → NoneFreeBefore (changed state mid) (first_free_in mid)
    run-marked ready whole marked =
        let kept = ready-kept state c empty ready in
        a.marked kept.0 kept.1 whole (marked-as (flushed_metadata state c) (changed state c) (first_free_in c) (begun-counts state c empty) marked)

    handed-quietly : PreservesGuest (HadNoResourceError result) (handed_out result a.leaked) (λ _. 0) (storage state c) (flushed_metadata state c) (storage state mid) (changed state mid)
    handed-quietly = begun-then state c empty (HadNoResourceError result) (handed_out result a.leaked) (storage state mid) (changed state mid) a.guest_unchanged

  -- If the allocation fails, nothing is newly allocated.
  module _ (fault : Fault) (a : AllocatesClusters state n false (lent_by c) (Err fault) (lent_by mid)) where
    never-full : fault ≡ CacheFull → ⊥
    never-full is =
        why-full (KeepsWritesAndSound state (begun c)) (HasUnpinnedRoom (table_of c.space.allocator) c.caches)
        (λ number. WhereKept state (begun c) (IsCrowded a.mid.image a.mid.mark n × IsRunTold (changed state mid) a.mid.mark n number)) loose
        (storage state c).faults (storage state mid).faults fault is a.cause

    leaked-none : (k : ℕ) → a.leaked k ≡ 0
    leaked-none = a.leaks.none (λ e. never-full (cc e))

    abbrev asked-full : ℕ → Type 0
    asked-full number = WhereKept state (begun c) (IsCrowded a.mid.image a.mid.mark n × IsRunTold (changed state mid) a.mid.mark n number)

    -- Then no run is long enough, and a number says why.
    full-there : (number : ℕ) → fault ≡ Limit number → IsReady state c → asked-full number → IsFull n (flushed_metadata state c) (first_free_in c) (changed state mid) (first_free_in mid) number
    full-there number is ready full =
        let kept = ready-kept state c empty ready in
        let why = full kept.0 kept.1 in
        record {
          crowded = crowded-there (flushed_metadata state c) (metadata_with_first_free state (lent_by c)) a.mid n refl (begun-counts state c empty) (a.freed kept.0 kept.1 (subst (λ (f : Fault). IsNotResourceError f) (sym is) tt)) why.0;
          told = subst (λ k. IsRunTold (changed state mid) k n number) (sym a.stays) why.1;
        }

    pub run-refused : (content : List ℕ) → mid.space.to_free.held ≡ c.space.to_free.held → StoresRunUnsettled state n content c (Err fault) mid
    run-refused content held = record {
      guest_unchanged = quietly-otherwise (IsNotResourceError fault) a.leaked (λ _. 0) (λ _. 0) (λ _. 0) (storage state c) (flushed_metadata state c) (storage state mid) (changed state mid)
          (λ sound k. let none = leaked-none k in omega (arith, none)) (λ sound k used none. refl) (handed-quietly (Err fault) a);
      unpinned = run-unpinned (Err fault) a;
      room = run-room (Err fault) a;
      header = a.shape.moved;
      faults = a.faults;
      held = held;
      named = tt;
      unused = λ ready. tt;
      reserved = λ ready. tt;
      stored = λ ready. tt;
      leaves = λ ready. tt;
      marked = run-marked (Err fault) a;
      cause = cause-weaker (record {
        before = omega arith;
        after = omega arith;
        damaged = λ wrong ready. wrong (ready-kept state c empty ready);
        counter = λ wrong ready. wrong (ready-kept state c empty ready);
        full = λ none. none (false, (λ e. absurd (cc e)), loose);
        limit = λ number at ready. full-there number at.0 ready at.1.0;
      }) fault (cause-told _ fault a.cause);
    }

  -- The allocation succeeds.
  module _ (entry : FreeEntry) (a : AllocatesClusters state n false (lent_by c) (Ok entry) (lent_by mid)) where
    -- These clusters are newly allocated.
    covers-run : (d : ℕ) → covers d (run_of entry.first n) ≡ covers d entry
    covers-run d = rw (sym a.run.0) refl

    pub run-quietly-handed : PreservesGuest ⊤ (λ d. covers d (run_of entry.first n)) (λ _. 0) (storage state c) (flushed_metadata state c) (storage state mid) (changed state mid)
    run-quietly-handed =
        quietly-otherwise ⊤ (handed_out (Ok entry) a.leaked) (λ _. 0) (λ d. covers d (run_of entry.first n)) (λ _. 0) (storage state c) (flushed_metadata state c) (storage state mid) (changed state mid)
        (λ sound d. let same = covers-run d in omega (arith, same)) (λ sound d used none. refl) (handed-quietly (Ok entry) a)

    -- They are addressable.
    pub run-named : 0 < n → (entry.first ≢ 0) × IsAddressable c.file.header.fields.cluster_bits (entry.first + (n - 1))
    run-named some = a.run.2 some

    -- They weren't in use.
    pub run-unused : IsReady state c → (d : ℕ) → entry.first ≤ d → d < entry.first + n → IsUsed (flushed_metadata state c) d → ⊥
    run-unused ready d from to used =
        let kept = ready-kept state c empty ready in
        let first = begun-quiet (changed state c) empty ready.sound in
        let freed = a.freed kept.0 kept.1 tt in
        let here = used-then (flushed_metadata state c) (changed state c) (λ _. 0) (λ _. 0) first.1 ready.sound first.0 d used refl in
        let there = used-then (changed state c) a.mid.image (λ _. 0) (λ _. 0) freed.guest_unchanged first.0 freed.sound d here refl in
        let zero : counted a.mid.image d ≡ 0 = a.fresh kept.0 kept.1 d from to in
        let more = there.taken in
        omega (arith, zero, more)

    -- The free space after the allocation.
    pub run-leaves : IsReady state c → LeavesRoom (room_for c.file.header.fields n) (flushed_metadata state c) (first_free_in c) (changed state mid) (first_free_in mid)
    run-leaves ready =
        let kept = ready-kept state c empty ready in
        allocation-leaves (flushed_metadata state c) (metadata_with_first_free state (lent_by c)) a.mid n refl (begun-counts state c empty) (a.freed kept.0 kept.1 tt)
        (changed state mid) (first_free_in mid) entry (ap (λ (H : Header). space H.fields) a.shape.moved.2)
        (a.little kept.0 kept.1) (a.taken kept.0 kept.1) a.further

    -- They are reserved.
    pub run-reserved : IsReady state c → AreReserved n (changed state mid) entry.first
    run-reserved ready d from to =
        let kept = ready-kept state c empty ready in
        let none = a.not_referenced kept.0 kept.1 d from (let long = a.run.0 in omega (arith, long, to)) in
        let once : counted (changed state mid) d ≡ 1 = (a.taken kept.0 kept.1).once d from to in
        let free = none.1 in
        record { used = unnamed-used (changed state mid) d (omega (arith, once, free)) none.0; not_referenced = none.0; waits = none.1 }
