-- Setting the order to blocks before tables, before clusters are counted.
use Rattle.std.proofs.Common.{◌≡◌, ℕ, ◌+◌, ◌*◌, ◌<◌, ◌≤◌, true, Some, ◌-◌, ◌^◌, refl, arith, ap, sym, subst, length, Result, Ok, Err, inl, inr, Bool}
use Rattle.std.specs.Prelude.{⊤, IsTrue, OnOk, min, slice_index}
use Rattle.imago_storage.specs.Calls.{IsFaultless}
use Rattle.imago_storage.specs.State.{StorageState}
use Rattle.imago_storage.specs.declared.fault.Fault.{Fault}
use Rattle.imago_storage.specs.declared.fault.Fault.TheVariants.{Memory}
use Rattle.imago_storage.proofs.Composing.{keeps_on}
use Rattle.qcow2_types.specs.Bytes.{Bytes, bytes_of}
use Rattle.qcow2_types.specs.Header.{Header, cluster_size, entries_of_cluster}
use Rattle.qcow2_types.specs.Words.{block_offset}
use Rattle.qcow2_types.specs.Counts.{count, counters_of_block}
use Rattle.qcow2_metadata.specs.Tables.{IsEnough, IsGrownLength, TableValue}
use Rattle.qcow2_metadata.specs.Places.{IsAddressable}
use Rattle.qcow2_alloc.specs.declared.cache.CacheDependency.{CacheDependency}
use Rattle.qcow2_alloc.specs.declared.cache.CacheDependency.TheVariants.{L2DependsOnRb}
use Rattle.qcow2_alloc.specs.declared.cache.MetadataCaches.{MetadataCaches}
use Rattle.qcow2_alloc.specs.declared.file.ImageFile.{ImageFile}
use Rattle.qcow2_alloc.specs.Allocating.{OnlyIncremented, allocating_causes}
use Rattle.qcow2_alloc.specs.Allocators.{metadata_of}
use Rattle.qcow2_alloc.specs.Caches.{cached_in, order_of, HasRoomOf, KeepsTables}
use Rattle.qcow2_alloc.specs.Causes.{FailsFor}
use Rattle.qcow2_alloc.specs.Freeing.{HasUnpinnedRoom, NoneFreeBefore, freeing_causes}
use Rattle.qcow2_alloc.specs.Going.{WritesBackCached, Always, HadNoResourceError, AreTablesAddressable, writing_causes}
use Rattle.qcow2_alloc.specs.Growing.{IsFirstFreeArea, lacks, lacking}
use Rattle.qcow2_alloc.specs.GrowingTables.{IsFreeAreaToGrow, IsAreaAddressable, NoPlaceToGrow, TableGrown}
use Rattle.qcow2_alloc.specs.MakingRoom.{rank}
use Rattle.qcow2_alloc.specs.Memory.{memory, written}
use Rattle.qcow2_alloc.specs.GuestView.{Metadata, IsSound, PreservesGuest, counted}
use Rattle.qcow2_alloc.specs.WellFormedness.{WellFormed}
use Rattle.qcow2_alloc.specs.State.{ImageState, image_state, metadata, KeepsWritesAndSound}
use Rattle.qcow2_alloc.proofs.Flushing.FlushRefusals.{never-refused, writing-implies}
use Rattle.qcow2_alloc.proofs.Causes.{cause-weaker, Implies}
use Rattle.qcow2_alloc.proofs.Blocks.BlockCreationCalls.{allocating-weaker}
use Rattle.qcow2_alloc.proofs.Caching.UnpinnedCaches.{kept-tables, loose-on}
use Rattle.qcow2_alloc.proofs.Caching.Pins.{pins-none}
use Rattle.qcow2_alloc.proofs.GuestView.QuietAnnouncements.{announced-quietly, whole-quietly}
use Rattle.qcow2_alloc.proofs.GuestView.QuietFlushes.{memory-quietly}
use Rattle.qcow2_alloc.proofs.GuestView.QuietSequences.{quietly-then, quietly-otherwise}
use Rattle.qcow2_alloc.proofs.Memory.SafeLaws.{safe-reach}

-- The outcome of setting the order. The guest and the refcounts are unchanged.
pub record Announced {S : Type 0} (state : S → StorageState) (s : ImageState S) (result : Result Unit Fault) (s' : ImageState S) : Type 0 where
  pub faults : HadNoResourceError result → IsFaultless (state s.file.image) (state s'.file.image)
  pub guest_unchanged : PreservesGuest (HadNoResourceError result) (λ _. 0) (λ _. 0) (state s.file.image) (metadata state s) (state s'.file.image) (metadata state s')
  pub counts : IsTrue (state s.file.image).shape.keeps → IsSound (metadata state s) → HadNoResourceError result → (c : ℕ) → counted (metadata state s') c ≡ counted (metadata state s) c
  pub order : OnOk result (order_of s'.caches ≡ L2DependsOnRb)
  pub header : s'.file.header ≡ s.file.header
  pub loose : (any : Bool) → HasUnpinnedRoom s.table s.caches any → HasUnpinnedRoom s.table s'.caches any
  pub room : KeepsTables s.caches s'.caches
  pub cause : FailsFor (freeing_causes (KeepsWritesAndSound state s) (HasUnpinnedRoom s.table s.caches true) (state s.file.image).faults (state s'.file.image).faults) result

-- Memory runs out before the order is set: nothing changes.
pub not-begun : {S : Type 0} (state : S → StorageState) (s : ImageState S) → Announced state s (Err Memory) s
not-begun state s =
    let m = metadata state s in
    record {
      faults = λ whole. absurd whole;
      guest_unchanged = memory-quietly (HadNoResourceError {T = Unit {0}} (Err Memory)) (λ _. 0) (λ _. 0) (state s.file.image) m m (λ sound whole. absurd whole);
      counts = λ keeps sound whole. absurd whole;
      order = tt;
      header = refl;
      loose = λ any loose. loose;
      room = record { tables = refl; blocks = refl; entries = refl };
      cause = tt;
    }

module _ {S : Type 0} (state : S → StorageState) (s : ImageState S) (new : MetadataCaches S) (after : ImageFile S)
    (kept : written (cached_in new) ≡ written (cached_in s.caches)) (blocks : new.rb ≡ s.caches.rb) (header : after.header ≡ s.file.header) (room : HasRoomOf s.caches new) where
  abbrev Old : Metadata
  Old = metadata state s

  abbrev Goes : Result Unit Fault → Type 0
  Goes result = WritesBackCached s.file.header (order_of s.caches) Always (result ≡ Ok tt) (state s.file.image) (cached_in s.caches) (state after.image) (cached_in new)

  loose-still : (any : Bool) → HasUnpinnedRoom s.table s.caches any → HasUnpinnedRoom s.table new any
  loose-still = loose-on s.table s.caches new (pins-none (cached_in s.caches).blocks (cached_in new).blocks (ap (λ l. l.slots.entries) blocks)) room.blocks

  pub announced : (result : Result Unit Fault) → Goes result → OnOk result (order_of new ≡ L2DependsOnRb) → OnOk result ((f : Bytes) (H : Header) → WellFormed f H (cached_in new) (order_of s.caches) → WellFormed f H (cached_in new) L2DependsOnRb)
      → FailsFor (writing_causes (AreTablesAddressable (cached_in s.caches)) (state s.file.image).faults (state after.image).faults) result → (HadNoResourceError result → IsFaultless (state s.file.image) (state after.image)) → Announced state s result (image_state s.table new after s.pending)
  announced (Ok done) going order well_formed counts faultless =
      let announces = announced-quietly Old L2DependsOnRb (Ok tt) (state s.file.image) (state after.image) (cached_in new) refl going well_formed in
      let guest_unchanged = whole-quietly Old (AreTablesAddressable (cached_in s.caches)) (state s.file.image).faults (state after.image).faults (Ok tt) (λ _. 0) (λ _. 0) (state s.file.image) (state after.image) _ (λ reach. reach.0) counts announces in
      record {
        faults = faultless;
        guest_unchanged = subst (λ (h : Header). PreservesGuest ⊤ (λ _. 0) (λ _. 0) (state s.file.image) Old (state after.image) (record Old { file = bytes_of (state after.image).bytes; header = h; cached = cached_in new; order = order_of new })) (sym header)
            (subst (λ (o : CacheDependency). PreservesGuest ⊤ (λ _. 0) (λ _. 0) (state s.file.image) Old (state after.image) (record Old { file = bytes_of (state after.image).bytes; cached = cached_in new; order = o })) (sym order) guest_unchanged);
        counts = λ keeps sound whole c.
            let settled = going.holds keeps sound.well_formed tt (inl refl) in
            subst (λ (h : Header). count (memory (bytes_of (state after.image).bytes) h.fields (cached_in new)) h.fields c ≡ counted Old c) (sym header) (ap (λ (g : Bytes). count g s.file.header.fields c) settled.memory_same);
        order = order;
        header = header;
        loose = loose-still;
        room = kept-tables s.caches new kept room;
        cause = counts;
      }
  announced (Err fault) going order well_formed why faultless = record {
    faults = faultless;
    guest_unchanged = record {
      shape = going.shape;
      counts_not_fallen = going.counts_not_fallen;
      passes = (whole-quietly Old (AreTablesAddressable (cached_in s.caches)) (state s.file.image).faults (state after.image).faults (Err fault) (λ _. 0) (λ _. 0) (state s.file.image) (state after.image) _ (λ reach. reach.0) why (announced-quietly Old L2DependsOnRb (Err fault) (state s.file.image) (state after.image) (cached_in new) refl going tt)).passes;
      holds = λ keeps sound not_resource_error. absurd (never-refused _ _ _ fault (safe-reach _ _ _ _ sound.well_formed).0 not_resource_error why);
    };
    counts = λ keeps sound not_resource_error. absurd (never-refused _ _ _ fault (safe-reach _ _ _ _ sound.well_formed).0 not_resource_error why);
    order = tt;
    header = header;
    loose = loose-still;
    room = kept-tables s.caches new kept room;
    cause = cause-weaker (writing-implies _ (omega arith) (omega arith) (λ far holds. far (safe-reach _ _ _ _ holds.1.well_formed).0)) fault why;
  }

-- The table grows alike in two images with the same header, refcount table and refcounts.
module _ (m m1 : Metadata) (header : m1.header ≡ m.header) (table : m1.table ≡ m.table) (same : (c : ℕ) → counted m1 c ≡ counted m c) where
  everywhere : counted m1 ≡ counted m
  everywhere = λ i c. same c i

  pub room-as : (mark at first total clusters : ℕ) → IsFreeAreaToGrow m1 mark at first total clusters → IsFreeAreaToGrow m mark at first total clusters
  room-as mark at first total clusters room = record {
    long = subst (λ (H : Header). IsGrownLength (entries_of_cluster H.fields) (counters_of_block H.fields) at (clusters * entries_of_cluster H.fields)) header room.long;
    room = subst (λ (f : ℕ → ℕ). IsFirstFreeArea m.table (counters_of_block m.header.fields) f (min mark (length m.table.raw_entries * counters_of_block m.header.fields)) clusters first total) everywhere
        (subst (λ (t : TableValue). IsFirstFreeArea t (counters_of_block m.header.fields) (counted m1) (min mark (length t.raw_entries * counters_of_block m.header.fields)) clusters first total) table
        (subst (λ (H : Header). IsFirstFreeArea m1.table (counters_of_block H.fields) (counted m1) (min mark (length m1.table.raw_entries * counters_of_block H.fields)) clusters first total) header room.room));
  }

  reach-as : (first total clusters : ℕ) → IsAreaAddressable m1 first total clusters → IsAreaAddressable m first total clusters
  reach-as first total clusters reach = record {
    reach = subst (λ (H : Header). IsAddressable H.fields.cluster_bits (first + (total - 1))) header reach.reach;
    inside = subst (λ (H : Header). first + total ≤ clusters * entries_of_cluster H.fields * counters_of_block H.fields) header reach.inside;
  }

  reach-back : (first total clusters : ℕ) → IsAreaAddressable m first total clusters → IsAreaAddressable m1 first total clusters
  reach-back first total clusters reach = record {
    reach = subst (λ (H : Header). IsAddressable H.fields.cluster_bits (first + (total - 1))) (sym header) reach.reach;
    inside = subst (λ (H : Header). first + total ≤ clusters * entries_of_cluster H.fields * counters_of_block H.fields) (sym header) reach.inside;
  }

  pub no-place-as : (mark at number : ℕ) → NoPlaceToGrow m1 mark at number → NoPlaceToGrow m mark at number
  no-place-as mark at number (inl long) = inl (subst (λ (H : Header). ((n : ℕ) → IsEnough (entries_of_cluster H.fields) (counters_of_block H.fields) at n → 2 ^ 20 < n) × (number ≡ 2 ^ 20 + entries_of_cluster H.fields)) header long)
  no-place-as mark at number (inr (first, total, clusters, room, far, is)) = inr (first, total, clusters, room-as mark at first total clusters room, λ near. far (reach-back first total clusters near), is)

  pub grown-as : (mark at : ℕ) (m' : Metadata) → TableGrown mark at m1 m' → TableGrown mark at m m'
  grown-as mark at m' grown = record {
    first = grown.first;
    total = grown.total;
    clusters = grown.clusters;
    room = room-as mark at grown.first grown.total grown.clusters grown.room;
    reach = reach-as grown.first grown.total grown.clusters grown.reach;
    long = subst (λ (H : Header). length m'.table.raw_entries ≡ grown.clusters * entries_of_cluster H.fields) header grown.long;
    placed = both (λ t H. m'.table.cluster ≡ Some (grown.first + lacking t (counters_of_block H.fields) grown.first grown.total)) grown.placed;
    news = both (λ t H. (i : ℕ) → lacks t (counters_of_block H.fields) grown.first grown.total i ≡ true
        → block_offset (slice_index m'.table.raw_entries i) ≡ (grown.first + rank (lacks t (counters_of_block H.fields) grown.first grown.total) i) * cluster_size H.fields) grown.news;
    olds = both (λ t H. (i : ℕ) → (lacks t (counters_of_block H.fields) grown.first grown.total i ≡ true → ⊥) → block_offset (slice_index m'.table.raw_entries i) ≡ block_offset (slice_index t.raw_entries i)) grown.olds;
    counts = λ c. let is = same c in let more = grown.counts c in omega (arith, is, more);
  }
    where
      both : (P : TableValue → Header → Type 0) → P m1.table m1.header → P m.table m.header
      both P p = subst (λ (t : TableValue). P t m.header) table (subst (λ (H : Header). P m1.table H) header p)

-- The order is set, then a call is made under it.
module _ {S : Type 0} (state : S → StorageState) (start : ImageState S) (mid : MetadataCaches S) (between : ImageFile S)
    (first : Announced state start (Ok tt) (image_state start.table mid between start.pending)) where
  abbrev Start : Metadata
  Start = metadata state start

  abbrev Mid : Metadata
  Mid = metadata_of state between mid start.table start.pending

  pub quiet-behind : (ok : Type 0) (handed : ℕ → ℕ) (s : StorageState) (m : Metadata) → (order_of mid ≡ L2DependsOnRb → PreservesGuest ok handed (λ _. 0) (state between.image) Mid s m) → PreservesGuest ok handed (λ _. 0) (state start.file.image) Start s m
  quiet-behind ok handed s m second =
      quietly-otherwise ok (λ c. 0 + handed c) (λ c. 0 + 0) handed (λ _. 0) (state start.file.image) Start s m (λ sound c. omega arith) (λ sound c used none. omega arith)
      (quietly-then ⊤ ok (λ _. 0) (λ _. 0) handed (λ _. 0) (state start.file.image) Start (state between.image) Mid s m tt (λ sound c some. refl) first.guest_unchanged (second first.order))

  -- The premises on the storage and the image still hold.
  pub sound-behind : IsTrue (state start.file.image).shape.keeps → IsSound Start → IsTrue (state between.image).shape.keeps × IsSound Mid
  sound-behind keeps sound = (keeps_on (state start.file.image) (state between.image) first.guest_unchanged.shape keeps, (first.guest_unchanged.holds keeps sound tt).0)

  pub raised-behind : (m : Metadata) → IsTrue (state start.file.image).shape.keeps → IsSound Start → OnlyIncremented Mid m → OnlyIncremented Start m
  raised-behind m keeps sound raised c =
      let same = first.counts keeps sound tt c in
      elim (raised c) [ inl has_no_dirty_data ↦ inl (omega (arith, same, has_no_dirty_data)) | inr up ↦ inr (let zero = up.0 in omega (arith, same, zero), up.1) ]

  pub marked-behind : (mark : ℕ) → IsTrue (state start.file.image).shape.keeps → IsSound Start → NoneFreeBefore Start mark → NoneFreeBefore Mid mark
  marked-behind mark keeps sound marked c below = let same = first.counts keeps sound tt c in let was = marked c below in omega (arith, same, was)

  -- A failure keeps its cause.
  pub allocates-behind : {full full' : ℕ → Type 0} {after : ℕ} → ((n : ℕ) → full n → full' n)
      → Implies (allocating_causes (IsTrue (state between.image).shape.keeps × (order_of mid ≡ L2DependsOnRb) × IsSound Mid) (HasUnpinnedRoom start.table mid) full (state between.image).faults after)
      (allocating_causes (KeepsWritesAndSound state start) (HasUnpinnedRoom start.table start.caches) full' (state start.file.image).faults after)
  allocates-behind to = allocating-weaker (λ holds. let has_no_dirty_data = sound-behind holds.0 holds.1 in (has_no_dirty_data.0, first.order, has_no_dirty_data.1)) first.loose to first.cause
