-- Allocating clusters, after the write order is set.
use Rattle.std.proofs.Common.{◌≡◌, ◌≢◌, ℕ, ◌+◌, ◌-◌, ◌/◌, ◌<◌, ◌≤◌, [], Bool, refl, arith, ap, subst, ◌∙◌, inl, inr, List, length, Option, None, Some, Result, Ok, Err, true}
use Rattle.std.specs.Prelude.{⊤, IsTrue, OnOk, IfOk}
use Rattle.std.proofs.lemmas.Bool.{le-leb, lt-ltb}
use Rattle.imago_storage.specs.State.{StorageState}
use Rattle.imago_storage.specs.declared.fault.Fault.{Fault}
use Rattle.imago_storage.specs.declared.fault.Fault.TheVariants.{Memory, Limit}
use Rattle.imago_storage.proofs.Composing.{keeps_on}
use Rattle.qcow2_types.specs.Counts.{counters_of_block}
use Rattle.qcow2_types.specs.Header.{Header}
use Rattle.qcow2_types.specs.Pending.{FreeEntry}
use Rattle.qcow2_metadata.specs.Places.{IsAddressable}
use Rattle.qcow2_alloc.specs.declared.cache.CacheDependency.TheVariants.{L2DependsOnRb}
use Rattle.qcow2_alloc.specs.declared.cache.MetadataCaches.{MetadataCaches}
use Rattle.qcow2_alloc.specs.declared.file.ImageFile.{ImageFile}
use Rattle.qcow2_alloc.specs.Allocating.{MovedTable, allocating_causes}
use Rattle.qcow2_alloc.specs.Allocators.{metadata_of}
use Rattle.qcow2_alloc.specs.Caches.{order_of}
use Rattle.qcow2_alloc.specs.Causes.{HasCause}
use Rattle.qcow2_alloc.specs.Crowding.{IsCrowded}
use Rattle.qcow2_alloc.specs.Freeing.{Frees, HasUnpinnedSlot, HasUnpinnedRoom, NoneFreeBefore, IsRestInTurn, freeing_causes}
use Rattle.qcow2_alloc.specs.FreeList.{covers}
use Rattle.qcow2_alloc.specs.Going.{HadNoResourceError}
use Rattle.qcow2_alloc.specs.GrowingTables.{IsInFreeAreaToGrow, IsLengthenedByTable, IsFreeAreaToGrow, IsTakenFor, NoPlaceToGrow}
use Rattle.qcow2_alloc.specs.HandingOut.{AllocatesClusterAt, AllocatesClusters, AreUnreferenced, IsBarred, IsFreed, IsAllocatedAt, IsOneAt, IsSearched, StaysInShape, handed_at}
use Rattle.qcow2_alloc.specs.HandingOutOne.{AllocatesAt}
use Rattle.qcow2_alloc.specs.GuestView.{Metadata, IsSound, PreservesGuest, counted}
use Rattle.qcow2_alloc.specs.ReadyingRuns.{Allocates, IsRunCounted, IsRunTold, allocated_by}
use Rattle.qcow2_alloc.specs.State.{image_state, metadata, KeepsWritesAndSound, with_first_free, AllocatorState, metadata_with_first_free}
use Rattle.qcow2_alloc.proofs.Causes.{cause-weaker, fails-weaker}
use Rattle.qcow2_alloc.proofs.Blocks.BlockCreationCalls.{freeing-allocates, allocating-weaker}
use Rattle.qcow2_alloc.proofs.Handing.CountSequences.{moved-none}
use Rattle.qcow2_alloc.proofs.Handing.BlocksBeforeTables.{Announced, no-place-as, room-as, quiet-behind, sound-behind, raised-behind, marked-behind, allocates-behind}
use Rattle.qcow2_alloc.proofs.Handing.SingleCounts.{not_handed}
use Rattle.qcow2_alloc.proofs.Flushing.FaultlessCalls.{faultless-then}
use Rattle.qcow2_alloc.proofs.Freeing.EntryFrees.{failed}
use Rattle.qcow2_alloc.proofs.Freeing.ListRemainders.{rest-all, rest-none}
use Rattle.qcow2_alloc.proofs.Growth.GrowthInOrder.{shape-behind}
use Rattle.qcow2_alloc.proofs.Handing.ClustersHandedOut.{handed-unnamed}
use Rattle.qcow2_alloc.proofs.Caching.UnpinnedCaches.{loose-on, loose-all}
use Rattle.qcow2_alloc.proofs.GuestView.QuietFlushes.{memory-quietly, quiet-none, quietly-weaker}
use Rattle.qcow2_alloc.proofs.GuestView.QuietSequences.{fewer-counted, quietly-then, quietly-otherwise}
use Rattle.qcow2_alloc.proofs.Blocks.RunProvision.{leaks-none}

module _ {S : Type 0} (state : S → StorageState) (cluster : ℕ) (s : AllocatorState S) (mid : MetadataCaches S) (between : ImageFile S) where
  abbrev Start : Metadata
  Start = metadata state s.image

  abbrev Mid : Metadata
  Mid = metadata_of state between mid s.table s.pending

  -- Setting the order fails, and the cluster isn't allocated.
  pub at-not-announced : (fault : Fault) → Announced state s.image (failed fault) (image_state s.table mid between s.pending) → AllocatesClusterAt state cluster s (not_handed fault) (with_first_free (image_state s.table mid between s.pending) s.mark)
  at-not-announced fault first = record {
    leaked = λ _. 0;
    leaks = leaks-none _ _ (not_handed fault);
    faults = first.faults;
    guest_unchanged = first.guest_unchanged;
    raised = λ keeps sound whole c. inl (first.counts keeps sound whole c);
    one = tt;
    answer = λ keeps sound. tt;
    taken_up_to_cluster = λ keeps sound. tt;
    further = tt;
    stays = refl;
    marked = λ keeps sound whole marked c below. let same = first.counts keeps sound whole c in let was = marked c below in omega (arith, same, was);
    order = tt;
    shape = shape-behind state cluster s mid between (failed fault) (image_state s.table mid between s.pending) first (moved-none between.header between.header refl) (λ any loose. loose) (record { tables = refl; blocks = refl; entries = refl });
    list = inl refl;
    cause = cause-weaker (freeing-allocates (λ holds. holds) (λ u. loose-all s.table s.caches u.0 u.2) refl) fault first.cause;
  }

  -- The order is set, and the cluster is allocated under it.
  module _ (first : Announced state s.image (Ok tt) (image_state s.table mid between s.pending)) (result : Result (Option FreeEntry) Fault) (s' : AllocatorState S)
      (at : AllocatesAt state (λ m. IsBarred m s.mark cluster) cluster (with_first_free (image_state s.table mid between s.pending) s.mark) result s') where
    abbrev End : Metadata
    End = metadata state s'.image

    answered : (r : Result (Option FreeEntry) Fault) → IsTrue (state s.file.image).shape.keeps → IsSound Start → IfOk r (IsAllocatedAt (IsBarred Mid s.mark cluster) cluster Mid End) → IfOk r (IsAllocatedAt (IsBarred Start s.mark cluster) cluster Start End)
    answered (Ok (Some entry)) keeps sound (zero, is, not_referenced, free) = (let same = first.counts keeps sound tt cluster in omega (arith, same, zero), is, not_referenced, free)
    answered (Ok None) keeps sound (inl more) = inl (let same = first.counts keeps sound tt cluster in omega (arith, same, more))
    answered (Ok None) keeps sound (inr (inl stands)) = inr (inl stands)
    answered (Ok None) keeps sound (inr (inr (inl far))) = inr (inr (inl (subst (λ (H : Header). IsAddressable H.fields.cluster_bits cluster → ⊥) first.header far)))
    answered (Ok None) keeps sound (inr (inr (inr (past, number, none)))) = inr (inr (inr (
      subst (λ (H : Header). length s.table.raw_entries ≤ cluster / counters_of_block H.fields) first.header past,
      number,
      no-place-as Start Mid first.header refl (first.counts keeps sound tt) s.mark (cluster / counters_of_block s.file.header.fields) number (subst (λ (H : Header). NoPlaceToGrow Mid s.mark (cluster / counters_of_block H.fields) number) first.header none),
    )))
    answered (Err fault) keeps sound said = tt

    room-there : IsTrue (state s.file.image).shape.keeps → IsSound Start → (c : ℕ) → IsInFreeAreaToGrow Mid s.mark (cluster / counters_of_block between.header.fields) c → IsInFreeAreaToGrow Start s.mark (cluster / counters_of_block s.file.header.fields) c
    room-there keeps sound c (past, begin, total, clusters, room, from, to) = (
      subst (λ (H : Header). length s.table.raw_entries ≤ cluster / counters_of_block H.fields) first.header past,
      begin,
      total,
      clusters,
      room-as Start Mid first.header refl (first.counts keeps sound tt) s.mark (cluster / counters_of_block s.file.header.fields) begin total clusters (subst (λ (H : Header). IsFreeAreaToGrow Mid s.mark (cluster / counters_of_block H.fields) begin total clusters) first.header room),
      from,
      to,
    )

    nearby : (r : Result (Option FreeEntry) Fault) → IsTrue (state s.file.image).shape.keeps → IsSound Start → IfOk r (λ _. IsTakenFor s.mark cluster Mid End) → IfOk r (λ _. IsTakenFor s.mark cluster Start End)
    nearby (Err fault) keeps sound said = tt
    nearby (Ok found) keeps sound said = λ c none more. elim (said c (let same = first.counts keeps sound tt c in omega (arith, same, none)) more) [ inl le ↦ inl le | inr room ↦ inr (room-there keeps sound c room) ]

    ordered : (r : Result (Option FreeEntry) Fault) → OnOk r (order_of s'.caches ≡ L2DependsOnRb)
    ordered (Ok found) = at.did.step.order ∙ first.order
    ordered (Err fault) = tt

    pub at-announced : AllocatesClusterAt state cluster s result s'
    at-announced = record {
      leaked = at.did.leaked;
      leaks = record { none = at.did.leaks.none; pinned = λ holds loose. let has_no_dirty_data = sound-behind state s.image mid between first holds.0 holds.1 in at.did.leaks.pinned (has_no_dirty_data.0, first.order, has_no_dirty_data.1) (first.loose true loose) };
      faults = λ whole. faultless-then (first.faults tt) (at.did.step.faults whole);
      guest_unchanged = quiet-behind state s.image mid between first (HadNoResourceError result) (handed_at result at.did.leaked) (state s'.file.image) End at.did.step.guest_unchanged;
      raised = λ keeps sound whole. let has_no_dirty_data = sound-behind state s.image mid between first keeps sound in
          raised-behind state s.image mid between first End keeps sound (at.did.step.raised first.order has_no_dirty_data.0 has_no_dirty_data.1 whole);
      one = subst (λ (H : Header). IfOk result (IsOneAt cluster H.fields.cluster_bits)) first.header at.one;
      answer = λ keeps sound. let has_no_dirty_data = sound-behind state s.image mid between first keeps sound in answered result keeps sound (at.answer first.order has_no_dirty_data.0 has_no_dirty_data.1);
      taken_up_to_cluster = λ keeps sound. let has_no_dirty_data = sound-behind state s.image mid between first keeps sound in nearby result keeps sound (at.taken_up_to_cluster first.order has_no_dirty_data.0 has_no_dirty_data.1);
      further = at.further;
      stays = at.stays;
      marked = λ keeps sound whole marked. let has_no_dirty_data = sound-behind state s.image mid between first keeps sound in
          at.marked first.order has_no_dirty_data.0 has_no_dirty_data.1 whole (marked-behind state s.image mid between first s.mark keeps sound marked);
      order = ordered result;
      shape = shape-behind state cluster s mid between (Ok tt) s'.image first at.did.step.moved at.did.step.keeps_unpinned_room at.did.step.room;
      list = subst (λ (H : Header). IsLengthenedByTable H.fields s.table s'.table s.pending s'.pending) first.header at.did.list;
      cause = fails-weaker _ _ (allocates-behind state s.image mid between first (λ n full. full)) (λ same. same ∙ first.cause) result at.did.cause;
    }

-- Memory runs out before anything is freed: nothing changes.
memory-unfreed : {S : Type 0} (state : S → StorageState) (s : AllocatorState S) → Frees state s (failed Memory) s
memory-unfreed state s =
    let m = metadata state s.image in
    record {
      faults = λ whole. absurd whole;
      guest_unchanged = memory-quietly _ (λ _. 0) (λ _. 0) (state s.file.image) m m (λ sound whole. (sound, quiet-none m sound));
      marked = λ keeps sound whole marked. marked;
      lower = omega arith;
      fallen = inl refl;
      header = refl;
      no_shorter = omega arith;
      pins = omega arith;
      room = record { tables = refl; blocks = refl; entries = refl };
      less = λ c. omega arith;
      fewer = omega arith;
      cause = tt;
    }

abbrev pub run_so : FreeEntry → Result FreeEntry Fault
run_so entry = Ok entry

abbrev pub refused_run : Fault → Result FreeEntry Fault
refused_run fault = Err fault

covers-inside : (c : ℕ) (e : FreeEntry) → e.first ≤ c → c < e.first + e.count → covers c e ≡ 1
covers-inside c e above below = rw (le-leb e.first c above, lt-ltb c (e.first + e.count) below) refl

-- Allocating a run. The free list is processed first.
module _ {S : Type 0} (state : S → StorageState) (n : ℕ) (is_metadata : Bool) (start : AllocatorState S) where
  abbrev First : Metadata
  First = metadata state start.image

  -- Processing the list fails.
  module _ (fault : Fault) (mark1 : ℕ) (A : MetadataCaches S) (fA : ImageFile S) (pA : List FreeEntry) (frees : Frees state start (failed fault) (with_first_free (image_state start.table A fA pA) mark1)) (rest : IsRestInTurn start.pending pA) where
    abbrev Rest : Metadata
    Rest = metadata_of state fA A start.table pA

    not-limited : IsSearched (refused_run fault) → HasCause (freeing_causes (KeepsWritesAndSound state start.image) (HasUnpinnedSlot start.caches) (state start.file.image).faults (state fA.image).faults) fault → ⊥
    not-limited searched why = by-fault fault searched why
      where
        by-fault : (f : Fault) → IsSearched (refused_run f) → HasCause (freeing_causes (KeepsWritesAndSound state start.image) (HasUnpinnedSlot start.caches) (state start.file.image).faults (state fA.image).faults) f → ⊥
        by-fault (Limit number) searched why = why
        by-fault f searched why = searched

    pub run-not-freed : AllocatesClusters state n is_metadata start (refused_run fault) (with_first_free (image_state start.table A fA pA) mark1)
    run-not-freed = record {
      leaked = λ _. 0;
      leaks = leaks-none _ _ (refused_run fault);
      faults = frees.faults;
      guest_unchanged = quietly-weaker _ (HadNoResourceError (refused_run fault)) (λ _. 0) (λ _. 0) (state start.file.image) First (state fA.image) Rest (λ sound whole. inl whole) frees.guest_unchanged;
      run = tt;
      not_referenced = λ keeps sound. tt;
      answer = failed fault;
      between = A;
      at = fA;
      left = pA;
      frees = frees;
      remains_in_turn = rest;
      halted = λ other is. (ap (λ f. refused_run f) (let e = is in let same : fault ≡ other = cc in same), refl, refl, refl, refl);
      mid = record { image = Rest; mark = mark1 };
      mid_left = refl;
      freed = λ keeps sound whole. let held = frees.guest_unchanged.holds keeps sound (inl whole) in record {
        sound = held.0;
        guest_unchanged = held.1;
        header = frees.header;
        table = refl;
        fewer = fewer-counted First Rest (λ _. 0) (λ _. 0) held.1 sound held.0 frees.header refl (λ c. refl) frees.less;
        lower = frees.lower;
        marked = frees.marked keeps sound (inl whole);
      };
      emptied = tt;
      searched = λ searched. absurd (not-limited searched frees.cause);
      fresh = λ keeps sound. tt;
      taken = λ keeps sound. tt;
      little = λ keeps sound. tt;
      raised = λ keeps sound whole c. inl refl;
      marked = λ keeps sound whole. frees.marked keeps sound (inl whole);
      further = tt;
      stays = refl;
      order = tt;
      shape = record { moved = moved-none start.file.header fA.header frees.header; keeps_unpinned_room = loose-on start.table start.caches A frees.pins frees.room.blocks; room = frees.room };
      list = inl refl;
      cause = cause-weaker (freeing-allocates (λ holds. holds) (λ u. u.2.room) refl) fault frees.cause;
    }

  -- Processing doesn't begin, since memory runs out.
  pub run-not-held : AllocatesClusters state n is_metadata start (refused_run Memory) start
  run-not-held = run-not-freed Memory start.mark start.caches start.file start.pending (memory-unfreed state start) (rest-all start.pending)

  -- The list is now empty.
  module _ (mark1 : ℕ) (A : MetadataCaches S) (fA : ImageFile S) (frees : Frees state start (Ok tt) (with_first_free (image_state start.table A fA []) mark1)) (B : MetadataCaches S) (fB : ImageFile S) where
    abbrev Freed : Metadata
    Freed = metadata_of state fA A start.table []

    abbrev Ready : Metadata
    Ready = metadata_of state fB B start.table []

    freed-loose : (any : Bool) → HasUnpinnedRoom start.table start.caches any → HasUnpinnedRoom start.table A any
    freed-loose = loose-on start.table start.caches A frees.pins frees.room.blocks

    still-sound : IsTrue (state start.file.image).shape.keeps → IsSound First → IsTrue (state fA.image).shape.keeps × IsSound Freed
    still-sound keeps sound = (keeps_on (state start.file.image) (state fA.image) frees.guest_unchanged.shape keeps, (frees.guest_unchanged.holds keeps sound (inl tt)).0)

    quiet-on : (ok : Type 0) (handed : ℕ → ℕ) (s : StorageState) (m : Metadata) → PreservesGuest ok handed (λ _. 0) (state fA.image) Freed s m → PreservesGuest ok handed (λ _. 0) (state start.file.image) First s m
    quiet-on ok handed s m second =
        quietly-otherwise ok (λ c. 0 + handed c) (λ c. 0 + 0) handed (λ _. 0) (state start.file.image) First s m (λ sound c. omega arith) (λ sound c used none. omega arith)
        (quietly-then _ ok (λ _. 0) (λ _. 0) handed (λ _. 0) (state start.file.image) First (state fA.image) Freed s m (inl tt) (λ sound c some. refl) frees.guest_unchanged second)

    -- Setting the order fails.
    pub run-not-announced : (fault : Fault) → Announced state (image_state start.table A fA []) (failed fault) (image_state start.table B fB []) → AllocatesClusters state n is_metadata start (refused_run fault) (with_first_free (image_state start.table B fB []) mark1)
    run-not-announced fault second = record {
      leaked = λ _. 0;
      leaks = leaks-none _ _ (refused_run fault);
      faults = λ not_resource_error. faultless-then (frees.faults tt) (second.faults not_resource_error);
      guest_unchanged = guest_unchanged;
      run = tt;
      not_referenced = λ keeps sound. tt;
      answer = Ok tt;
      between = A;
      at = fA;
      left = [];
      frees = frees;
      remains_in_turn = rest-none start.pending;
      halted = λ other is. let e = is in absurd (cc e);
      mid = record { image = Ready; mark = mark1 };
      mid_left = refl;
      freed = λ keeps sound whole. let held = guest_unchanged.holds keeps sound whole in record {
        sound = held.0;
        guest_unchanged = held.1;
        header = second.header ∙ frees.header;
        table = refl;
        fewer = fewer-counted First Ready (λ _. 0) (λ _. 0) held.1 sound held.0 (second.header ∙ frees.header) refl (λ c. refl) frees.less;
        lower = frees.lower;
        marked = marked keeps sound whole;
      };
      emptied = refl;
      searched = λ searched. absurd (never fault searched second.cause);
      fresh = λ keeps sound. tt;
      taken = λ keeps sound. tt;
      little = λ keeps sound. tt;
      raised = λ keeps sound whole c. inl refl;
      marked = marked;
      further = tt;
      stays = refl;
      order = tt;
      shape = record {
        moved = moved-none start.file.header fB.header (second.header ∙ frees.header);
        keeps_unpinned_room = λ any loose. second.loose any (freed-loose any loose);
        room = record { tables = second.room.tables ∙ frees.room.tables; blocks = second.room.blocks ∙ frees.room.blocks; entries = second.room.entries ∙ frees.room.entries };
      };
      list = inl refl;
      cause = cause-weaker (freeing-allocates (λ holds. still-sound holds.0 holds.1) (λ u. loose-all start.table A u.0 (freed-loose u.0 u.2)) frees.cause) fault second.cause;
    }
      where
        guest_unchanged : PreservesGuest (HadNoResourceError (refused_run fault)) (λ _. 0) (λ _. 0) (state start.file.image) First (state fB.image) Ready
        guest_unchanged = quiet-on (HadNoResourceError (refused_run fault)) (λ _. 0) (state fB.image) Ready second.guest_unchanged

        marked : IsTrue (state start.file.image).shape.keeps → IsSound First → HadNoResourceError (refused_run fault) → NoneFreeBefore First start.mark → NoneFreeBefore Ready mark1
        marked keeps sound whole was c below =
            let has_no_dirty_data = still-sound keeps sound in
            let same = second.counts has_no_dirty_data.0 has_no_dirty_data.1 whole c in
            let more = frees.marked keeps sound (inl tt) was c below in
            omega (arith, same, more)

        never : (f : Fault) → IsSearched (refused_run f) → HasCause (freeing_causes (IsTrue (state fA.image).shape.keeps × IsSound Freed) (HasUnpinnedRoom start.table A true) (state fA.image).faults (state fB.image).faults) f → ⊥
        never (Limit number) searched why = why
        never f searched why = searched

    -- A run is searched for.
    module _ (second : Announced state (image_state start.table A fA []) (Ok tt) (image_state start.table B fB [])) (result : Result FreeEntry Fault) (s' : AllocatorState S)
        (third : Allocates state n is_metadata (with_first_free (image_state start.table B fB []) mark1) result s') where
      abbrev Last : Metadata
      Last = metadata state s'.image

      ready-sound : IsTrue (state start.file.image).shape.keeps → IsSound First → IsTrue (state fB.image).shape.keeps × IsSound Ready
      ready-sound keeps sound = let has_no_dirty_data = still-sound keeps sound in sound-behind state (image_state start.table A fA []) B fB second has_no_dirty_data.0 has_no_dirty_data.1

      ready-marked : IsTrue (state start.file.image).shape.keeps → IsSound First → NoneFreeBefore First start.mark → NoneFreeBefore Ready mark1
      ready-marked keeps sound marked = let has_no_dirty_data = still-sound keeps sound in marked-behind state (image_state start.table A fA []) B fB second mark1 has_no_dirty_data.0 has_no_dirty_data.1 (frees.marked keeps sound (inl tt) marked)

      is-freed : IsTrue (state start.file.image).shape.keeps → IsSound First → IsFreed (metadata_with_first_free state start) (record { image = Ready; mark = mark1 })
      is-freed keeps sound = let guest_unchanged = ((quiet-on ⊤ (λ _. 0) (state fB.image) Ready second.guest_unchanged).holds keeps sound tt).1 in record {
        sound = (ready-sound keeps sound).1;
        guest_unchanged = guest_unchanged;
        header = second.header ∙ frees.header;
        table = refl;
        fewer = fewer-counted First Ready (λ _. 0) (λ _. 0) guest_unchanged sound (ready-sound keeps sound).1 (second.header ∙ frees.header) refl (λ c. refl) frees.less;
        lower = frees.lower;
        marked = ready-marked keeps sound;
      }

      same-shape : StaysInShape start.image s'.image
      same-shape = record {
        moved = subst (λ (H : Header). MovedTable H s'.file.header) (second.header ∙ frees.header) third.step.moved;
        keeps_unpinned_room = λ any loose. third.step.keeps_unpinned_room any (second.loose any (freed-loose any loose));
        room = record { tables = third.step.room.tables ∙ second.room.tables ∙ frees.room.tables; blocks = third.step.room.blocks ∙ second.room.blocks ∙ frees.room.blocks; entries = third.step.room.entries ∙ second.room.entries ∙ frees.room.entries };
      }

      abbrev RunIs : ℕ → FreeEntry → Type 0
      RunIs bits entry = (entry.count ≡ n) × (entry.metadata ≡ is_metadata) × (0 < n → (entry.first ≢ 0) × IsAddressable bits (entry.first + (n - 1)))

      runs : IfOk result (RunIs start.file.header.fields.cluster_bits)
      runs = subst (λ (H : Header). IfOk result (RunIs H.fields.cluster_bits)) (second.header ∙ frees.header) third.run

      unnamed-run : IsTrue (state start.file.image).shape.keeps → IsSound First → (r : Result FreeEntry Fault) → result ≡ r → IfOk r (RunIs start.file.header.fields.cluster_bits) → IfOk r (IsRunCounted mark1 n Last)
          → IfOk r (λ entry. (c : ℕ) → entry.first ≤ c → c < entry.first + n → counted Ready c ≡ 0) → IfOk r (AreUnreferenced Last)
      unnamed-run keeps sound (Err fault) is run taken fresh = tt
      unnamed-run keeps sound (Ok entry) is run taken fresh = λ c above below.
          let has_no_dirty_data = ready-sound keeps sound in
          let guest_unchanged : PreservesGuest (HadNoResourceError (run_so entry)) (allocated_by (run_so entry) third.leaked) (λ _. 0) (state fB.image) Ready (state s'.file.image) Last =
          subst (λ (r : Result FreeEntry Fault). PreservesGuest (HadNoResourceError r) (allocated_by r third.leaked) (λ _. 0) (state fB.image) Ready (state s'.file.image) Last) is (third.step.guest_unchanged second.order) in
          let held = guest_unchanged.holds has_no_dirty_data.0 has_no_dirty_data.1 tt in
          let length-is = run.0 in
          let inside : c < entry.first + n = omega (arith, below, length-is) in
          handed-unnamed Ready Last (λ d. covers d entry) c has_no_dirty_data.1 held.0 second.order held.1 (fresh c above inside) (taken.once c above inside) (covers-inside c entry above below)

      run-ordered : (r : Result FreeEntry Fault) → OnOk r (order_of s'.caches ≡ L2DependsOnRb)
      run-ordered (Ok entry) = third.step.order ∙ second.order
      run-ordered (Err fault) = tt

      pub run-announced : AllocatesClusters state n is_metadata start result s'
      run-announced = record {
        leaked = third.leaked;
        leaks = record { none = third.leaks.none; pinned = λ holds loose. let has_no_dirty_data = ready-sound holds.0 holds.1 in third.leaks.pinned (has_no_dirty_data.0, second.order, has_no_dirty_data.1) (second.loose true (freed-loose true loose)) };
        faults = λ whole. faultless-then (frees.faults tt) (faultless-then (second.faults tt) (third.step.faults whole));
        guest_unchanged = quiet-on (HadNoResourceError result) (allocated_by result third.leaked) (state s'.file.image) Last
            (quiet-behind state (image_state start.table A fA []) B fB second (HadNoResourceError result) (allocated_by result third.leaked) (state s'.file.image) Last third.step.guest_unchanged);
        run = runs;
        not_referenced = λ keeps sound. let has_no_dirty_data = ready-sound keeps sound in unnamed-run keeps sound result refl runs (third.taken second.order has_no_dirty_data.0 has_no_dirty_data.1) (third.fresh second.order has_no_dirty_data.0 has_no_dirty_data.1);
        answer = Ok tt;
        between = A;
        at = fA;
        left = [];
        frees = frees;
        remains_in_turn = rest-none start.pending;
        halted = λ other is. let e = is in absurd (cc e);
        mid = record { image = Ready; mark = mark1 };
        mid_left = refl;
        freed = λ keeps sound whole. is-freed keeps sound;
        emptied = refl;
        searched = λ searched. (refl, second.order);
        fresh = λ keeps sound. let has_no_dirty_data = ready-sound keeps sound in third.fresh second.order has_no_dirty_data.0 has_no_dirty_data.1;
        taken = λ keeps sound. let has_no_dirty_data = ready-sound keeps sound in third.taken second.order has_no_dirty_data.0 has_no_dirty_data.1;
        little = λ keeps sound. let has_no_dirty_data = ready-sound keeps sound in third.little second.order has_no_dirty_data.0 has_no_dirty_data.1;
        raised = λ keeps sound whole. let has_no_dirty_data = ready-sound keeps sound in third.step.raised second.order has_no_dirty_data.0 has_no_dirty_data.1 whole;
        marked = λ keeps sound whole marked. let has_no_dirty_data = ready-sound keeps sound in third.marked second.order has_no_dirty_data.0 has_no_dirty_data.1 whole (ready-marked keeps sound marked);
        further = third.moved;
        stays = third.stays;
        order = run-ordered result;
        shape = same-shape;
        list = subst (λ (H : Header). IsLengthenedByTable H.fields start.table s'.table [] s'.pending) (second.header ∙ frees.header) third.list;
        cause = fails-weaker _ _ (allocating-weaker (λ holds. still-sound holds.0 holds.1) freed-loose (λ n full keeps sound. let has_no_dirty_data = still-sound keeps sound in full has_no_dirty_data.0 has_no_dirty_data.1) frees.cause) (λ same. same ∙ frees.cause) result
            (fails-weaker _ (allocating_causes (KeepsWritesAndSound state (image_state start.table A fA [])) (HasUnpinnedRoom start.table A) (λ number. IsTrue (state fA.image).shape.keeps → IsSound Freed → IsCrowded Ready mark1 n × IsRunTold Last mark1 n number) (state fA.image).faults (state s'.file.image).faults)
            (allocates-behind state (image_state start.table A fA []) B fB second (λ n full keeps sound. let has_no_dirty_data = sound-behind state (image_state start.table A fA []) B fB second keeps sound in full second.order has_no_dirty_data.0 has_no_dirty_data.1)) (λ same. same ∙ second.cause) result third.cause);
      }
