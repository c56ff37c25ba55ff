-- Growing the refcount table: the whole call.
use Rattle.std.proofs.Common.{◌≡◌, ◌≢◌, ℕ, ◌+◌, ◌-◌, ◌*◌, ◌/◌, ◌^◌, ◌≤◌, ◌++◌, refl, arith, ap, sym, subst, ◌∙◌, length, inl, inr, Result, Ok, Err, false, true}
use Rattle.std.specs.Prelude.{⊤, IsTrue, OnOk, OnErr, IfErr, min, slice_index}
use Rattle.std.proofs.lemmas.Bool.{cases_Bool}
use Rattle.imago_storage.specs.State.{StorageState}
use Rattle.imago_storage.specs.declared.fault.Fault.{Fault}
use Rattle.imago_storage.specs.declared.fault.Fault.TheVariants.{Limit}
use Rattle.imago_storage.proofs.Composing.{keeps_on, later_both}
use Rattle.qcow2_types.specs.Counts.{counters_of_block}
use Rattle.qcow2_types.specs.Header.{Fields, Header, entries_of_cluster}
use Rattle.qcow2_types.specs.Words.{Layout, block_offset}
use Rattle.qcow2_metadata.specs.Tables.{IsGrownLength, TableValue}
use Rattle.qcow2_alloc.specs.declared.allocation.searching.Run.{Run}
use Rattle.qcow2_alloc.specs.declared.cache.CacheDependency.TheVariants.{L2DependsOnRb}
use Rattle.qcow2_alloc.specs.declared.cache.MetadataCaches.{MetadataCaches}
use Rattle.qcow2_alloc.specs.declared.file.ImageFile.{ImageFile}
use Rattle.qcow2_alloc.specs.Allocating.{Allocating, MovedTable, allocating_causes}
use Rattle.qcow2_alloc.specs.Allocators.{metadata_of}
use Rattle.qcow2_alloc.specs.Caches.{order_of, cached_file}
use Rattle.qcow2_alloc.specs.Causes.{HasCause, FailsFor}
use Rattle.qcow2_alloc.specs.FreeList.{covers}
use Rattle.qcow2_alloc.specs.Freeing.{HasUnpinnedRoom, counting_causes}
use Rattle.qcow2_alloc.specs.Going.{HadNoResourceError, IsNotResourceError}
use Rattle.qcow2_alloc.specs.Growing.{lacks, IsFirstFreeArea, LooksForFreeArea}
use Rattle.qcow2_alloc.specs.GrowingTables.{GrowsTable, TableGrown, IsFreeAreaToGrow, IsAreaAddressable, NoPlaceToGrow, free_area_from, table_run}
use Rattle.qcow2_alloc.specs.MakingRoom.{run_of}
use Rattle.qcow2_alloc.specs.MovingTables.{clusters_of, IsPlan, growing_causes, placing_causes, IsFreeIn, WasSound, FillsFreeArea, EntersFree}
use Rattle.qcow2_alloc.specs.GuestView.{Metadata, counted, IsSound}
use Rattle.qcow2_alloc.specs.SearchingClusters.{IsSafeWith, Looked}
use Rattle.qcow2_alloc.specs.State.{image_state, metadata, with_first_free, AllocatorState}
use Rattle.qcow2_alloc.proofs.Causes.{bare-weaker, cause-weaker, fails-weaker}
use Rattle.qcow2_alloc.proofs.Handing.CountSequences.{allocating-none, allocating-as}
use Rattle.qcow2_alloc.proofs.Flushing.FaultlessCalls.{faultless-then}
use Rattle.qcow2_alloc.proofs.Searching.SearchesBeforeCounts.{counts-looked, looked-allocates}
use Rattle.qcow2_alloc.proofs.Freeing.EntryFrees.{failed}
use Rattle.qcow2_alloc.proofs.Caching.UnpinnedCaches.{loose-all}
use Rattle.qcow2_alloc.proofs.Blocks.BlockCreationCalls.{first-counted, can-name, counting-allocates, freeing-allocates}
use Rattle.qcow2_alloc.proofs.GuestView.QuietPremises.{quietly-given, quietly-then-given}
use Rattle.qcow2_alloc.proofs.GuestView.QuietSequences.{quietly-otherwise}

module _ {S : Type 0} (state : S → StorageState) (at : ℕ) (s : AllocatorState S) where
  abbrev start : Metadata
  start = metadata state s.image

  abbrev Keeps : Type 0
  Keeps = IsTrue (state s.file.image).shape.keeps

  abbrev Sound : Type 0
  Sound = Keeps × (order_of s.caches ≡ L2DependsOnRb) × IsSound start

  abbrev Full : ℕ → Type 0
  Full number = order_of s.caches ≡ L2DependsOnRb → Keeps → IsSound start → NoPlaceToGrow start s.mark at number

  safe-with : Keeps → IsSound start → IsSafeWith state s.table s.caches s.file
  safe-with keeps sound = record { keeps = keeps; well_formed = sound.well_formed; table_of_file = sound.table }

  -- The growth fails, and nothing was counted.
  not-grown : (fault : Fault) (C : MetadataCaches S) (fC : ImageFile S) → Allocating state (IsNotResourceError fault) (λ _. 0) s.image (image_state s.table C fC s.pending) → fC.header ≡ s.file.header
      → (Keeps → IsSound start → (number : ℕ) → fault ≡ Limit number → (c : ℕ) → counted (metadata_of state fC C s.table s.pending) c ≡ counted start c)
      → HasCause (allocating_causes Sound (HasUnpinnedRoom s.table s.caches) Full (state s.file.image).faults (state fC.image).faults) fault → GrowsTable state at s (failed fault) (with_first_free (image_state s.table C fC s.pending) s.mark)
  not-grown fault C fC step header same why = record {
    leaked = λ _. 0;
    leaks = record { none = λ not c. refl; pinned = λ holds loose c. refl };
    step = step;
    grown = λ order keeps sound. tt;
    barred = λ order keeps sound number is. same keeps sound number (let e = is in cc e);
    enough = tt;
    mark = refl;
    waits = tt;
    unchanged_on_error = refl;
    stays = λ not_resource_error. (refl, header);
    cause = why;
  }

  -- The copy can't be made.
  pub no-copy : (fault : Fault) → HasCause (growing_causes s.file.header.fields s.table at) fault → GrowsTable state at s (failed fault) s
  no-copy fault why = not-grown fault s.caches s.file (allocating-as state ⊤ (IsNotResourceError fault) (λ _. 0) (λ _. 0) s.image s.image (λ not_resource_error. tt) (λ c. refl) (allocating-none state s.image)) refl (λ keeps sound number is c. refl)
      (bare-weaker _ (λ apart known. apart (ap (λ (l : Layout). l.cluster_bits) known.2.table.layout)) (λ number long. ((λ order keeps sound. inl long), refl)) fault why)

  -- The search for a free area fails.
  pub no-room : (fault : Fault) (C : MetadataCaches S) (fC : ImageFile S) → Looked state {T = Run} s.table (cached_file s.caches s.file) (Err fault) (cached_file C fC) → GrowsTable state at s (failed fault) (with_first_free (image_state s.table C fC s.pending) s.mark)
  no-room fault C fC looked =
      not-grown fault C fC (looked-allocates state s.image Run (Err fault) C fC looked) looked.header
      (λ keeps sound number is. counts-looked state s.image Run (Err fault) C fC looked keeps sound (subst (λ (f : Fault). HadNoResourceError {T = Run} (Err f)) (sym is) tt))
      (cause-weaker (freeing-allocates (λ known. safe-with known.0 known.2) (λ u. loose-all s.table s.caches u.0 u.2) refl) fault looked.cause)

  -- A free area is found for a copy.
  module _ (room : Run) (copy : TableValue) (from n : ℕ) (C : MetadataCaches S) (fC : ImageFile S) (looks : LooksForFreeArea state s.table from n (cached_file s.caches s.file) (Ok room) (cached_file C fC)) (from_is : from ≡ min s.mark (length s.table.raw_entries * counters_of_block s.file.header.fields))
      (n_is : n ≡ clusters_of copy s.file.header.fields.cluster_bits) (long : IsGrownLength (entries_of_cluster s.file.header.fields) (counters_of_block s.file.header.fields) at (length copy.raw_entries))
      (whole : clusters_of copy s.file.header.fields.cluster_bits * entries_of_cluster s.file.header.fields ≡ length copy.raw_entries) where
    abbrev h : Fields
    h = s.file.header.fields

    abbrev clusters : ℕ
    clusters = clusters_of copy s.file.header.fields.cluster_bits

    there : MetadataCaches S → Metadata
    there caches = metadata_of state fC caches s.table s.pending

    found : Sound → IsFirstFreeArea s.table (counters_of_block h) (counted start) (free_area_from start s.mark) clusters room.first room.len
    found known =
        subst (λ (k : ℕ). IsFirstFreeArea s.table (counters_of_block h) (counted start) (free_area_from start s.mark) k room.first room.len) n_is
        (subst (λ (f : ℕ). IsFirstFreeArea s.table (counters_of_block h) (counted start) f n room.first room.len) from_is (looks.found (safe-with known.0 known.2)))

    room-to-grow : Sound → IsFreeAreaToGrow start s.mark at room.first room.len clusters
    room-to-grow known = record { long = subst (λ (l : ℕ). IsGrownLength (entries_of_cluster h) (counters_of_block h) at l) (sym whole) long; room = found known }

    -- The copy can't be put there.
    pub no-place : (fault : Fault) → 1 ≤ room.len → HasCause (placing_causes fC.header.fields s.table room copy) fault → GrowsTable state at s (failed fault) (with_first_free (image_state s.table C fC s.pending) s.mark)
    no-place fault some why =
        not-grown fault C fC (allocating-as state ⊤ (IsNotResourceError fault) (λ _. 0) (λ _. 0) s.image (image_state s.table C fC s.pending) (λ not_resource_error. tt) (λ c. refl) (looked-allocates state s.image Run (Ok room) C fC looks.looked)) looks.looked.header
        (λ keeps sound number is. counts-looked state s.image Run (Ok room) C fC looks.looked keeps sound tt)
        (bare-weaker _ (λ cannot known. cannot (behind known, can-name start known.2 (room.first + (room.len - 1)) (λ none. behind known (omega (arith, none)))))
        (λ number far. (
          λ order keeps sound. inr (
            room.first,
            room.len,
            clusters,
            room-to-grow (keeps, order, sound),
            λ (near : IsAreaAddressable start room.first room.len clusters). far.0 (near.reach, subst (λ (w : ℕ). room.first + room.len ≤ w * counters_of_block h) whole near.inside),
            far.1,
          ),
          looks.looked.cause,
        )) fault (subst (λ (H : Header). HasCause (placing_causes H.fields s.table room copy) fault) looks.looked.header why))
      where
        behind : Sound → room.first ≢ 0
        behind known none =
            let zero = (found known).room.free room.first (omega arith) (omega (arith, some)) in
            let first : counted start 0 ≡ 0 = subst (λ c. counted start c ≡ 0) none zero in
            let one = first-counted start known.2 in
            omega (arith, first, one)

    -- The copy is put there, as planned.
    module _ (placed : TableValue) (plan_there : IsPlan fC.header.fields s.table room placed) (same : length placed.raw_entries ≡ length copy.raw_entries)
        (result : Result Unit Fault) (sD : AllocatorState S) (fills : EntersFree state room placed (image_state s.table C fC s.pending) result sD.image)
        (waits : OnOk result (sD.pending ≡ s.pending ++ table_run fC.header.fields)) (kept : OnErr result (sD.pending ≡ s.pending)) (has_no_dirty_data : sD.mark ≡ s.mark) where
      abbrev mid : Metadata
      mid = metadata_of state fC C s.table s.pending

      abbrev end : Metadata
      end = metadata state sD.image

      abbrev looked : Looked state s.table (cached_file s.caches s.file) (Ok room) (cached_file C fC)
      looked = looks.looked

      plan : IsPlan h s.table room placed
      plan = subst (λ (H : Header). IsPlan H.fields s.table room placed) looked.header plan_there

      abbrev Was : Type 0
      Was = WasSound state s.image

      free : Was → IsFreeIn state room (image_state s.table C fC s.pending)
      free known = (
        looked.order ∙ known.0,
        λ c above below. counts-looked state s.image Run (Ok room) C fC looked known.1 known.2 tt c ∙ (found (known.1, known.0, known.2)).room.free c above below,
      )

      abbrev filled : FillsFreeArea state Was room placed (image_state s.table C fC s.pending) result sD.image
      filled = fills s.caches s.file free

      abbrev one : Allocating state ⊤ (λ _. 0) s.image (image_state s.table C fC s.pending)
      one = looked-allocates state s.image Run (Ok room) C fC looked

      on : Keeps → IsTrue (state fC.image).shape.keeps
      on keeps = keeps_on (state s.file.image) (state fC.image) looked.writes_back_cached.shape keeps

      mid-sound : order_of s.caches ≡ L2DependsOnRb → Keeps → IsSound start → IsSound mid
      mid-sound order keeps sound = ((one.guest_unchanged order).holds keeps sound tt).0

      mid-counts : Keeps → IsSound start → (c : ℕ) → counted mid c ≡ counted start c
      mid-counts keeps sound = counts-looked state s.image Run (Ok room) C fC looked keeps sound tt

      from-ok : (r : Result Unit Fault) {X : Type 0} → r ≡ Ok tt → OnOk r X → X
      from-ok (Ok done) is x = x
      from-ok (Err fault) is x = absurd (cc is)

      on-ok : (r : Result Unit Fault) {X : Type 0} → (r ≡ Ok tt → X) → OnOk r X
      on-ok (Ok done) x = x refl
      on-ok (Err fault) x = tt

      clusters-same : clusters_of placed h.cluster_bits ≡ clusters
      clusters-same = ap (λ l. (8 * l + (2 ^ h.cluster_bits - 1)) / 2 ^ h.cluster_bits) same

      table-grown : order_of s.caches ≡ L2DependsOnRb → Keeps → IsSound start → result ≡ Ok tt → TableGrown s.mark at start end
      table-grown order keeps sound done =
          let is : sD.table ≡ record placed { modified = false } = from-ok result done filled.table_is in
          let raw_entries : (i : ℕ) → slice_index sD.table.raw_entries i ≡ slice_index placed.raw_entries i = λ i. ap (λ (t : TableValue). slice_index t.raw_entries i) is in
          record {
            first = room.first;
            total = room.len;
            clusters = clusters;
            room = room-to-grow (keeps, order, sound);
            reach = record { reach = plan.room.reach; inside = subst (λ (k : ℕ). room.first + room.len ≤ k * entries_of_cluster h * counters_of_block h) clusters-same plan.room.inside };
            long = ap (λ (t : TableValue). length t.raw_entries) is ∙ plan.grown.long ∙ ap (λ k. k * entries_of_cluster h) clusters-same;
            placed = ap (λ (t : TableValue). t.cluster) is ∙ plan.grown.placed;
            news = λ i lack. ap block_offset (raw_entries i) ∙ plan.grown.news i lack;
            olds = λ i not. ap block_offset (raw_entries i) ∙ plan.grown.olds i (elim (cases_Bool (lacks s.table (counters_of_block h) room.first room.len i)) [ inl lack ↦ absurd (not lack) | inr off ↦ off ]);
            counts = λ c. from-ok result done (filled.counts (order, keeps, sound) (on keeps) (mid-sound order keeps sound)) c ∙ ap (λ k. k + covers c (run_of room.first room.len)) (mid-counts keeps sound c);
          }

      pub grows : GrowsTable state at s result sD
      grows = record {
        leaked = filled.leaked;
        leaks = record { none = filled.leaks.none; pinned = λ holds loose. filled.leaks.pinned (was-on holds) (looked.keeps_unpinned_room true loose) };
        step = record {
          faults = λ whole. faultless-then (one.faults tt) (filled.faults whole);
          guest_unchanged = λ order. quietly-given (HadNoResourceError result) filled.leaked (λ _. 0) (state s.file.image) start (state sD.file.image) end (filled.shape ∙ looked.writes_back_cached.shape) (later_both _ _ _ looked.writes_back_cached.counts_not_fallen filled.counts_not_fallen) (λ keeps sound.
              quietly-otherwise (HadNoResourceError result) (λ c. 0 + filled.leaked c) (λ c. 0 + 0) filled.leaked (λ _. 0) (state s.file.image) start (state sD.file.image) end (λ sound' c. omega arith) (λ sound' c used none. refl)
              (quietly-then-given ⊤ (HadNoResourceError result) (λ _. 0) (λ _. 0) filled.leaked (λ _. 0) (state s.file.image) start (state fC.image) mid (state sD.file.image) end tt (λ sound' c some. refl) (one.guest_unchanged order) filled.shape filled.counts_not_fallen
              (λ keeps' sound' there guest_unchanged. filled.guest_unchanged (order, keeps, sound))));
          raised = λ order keeps sound ok c. elim (filled.raised (order, keeps, sound) (on keeps) (mid-sound order keeps sound) ok c) [
            | inl stays ↦ inl (stays ∙ mid-counts keeps sound c)
            | inr up ↦ inr (sym (mid-counts keeps sound c) ∙ up.0, up.1)
          ];
          order = filled.order ∙ looked.order;
          moved = subst (λ (H : Header). MovedTable H sD.file.header) looked.header filled.moved;
          longer = filled.longer;
          keeps_unpinned_room = λ any loose. filled.keeps_unpinned_room any (looked.keeps_unpinned_room any loose);
          room = record { tables = filled.room.tables ∙ looked.room.tables; blocks = filled.room.blocks ∙ looked.room.blocks; entries = filled.room.entries ∙ looked.room.entries };
        };
        grown = λ order keeps sound. on-ok result (table-grown order keeps sound);
        barred = λ order keeps sound number is. absurd (never result number is filled.cause);
        enough = on-ok result (λ done. subst (λ (l : ℕ). IsGrownLength (entries_of_cluster h) (counters_of_block h) at l) (sym (ap (λ (t : TableValue). length t.raw_entries) (from-ok result done filled.table_is) ∙ same)) long);
        mark = has_no_dirty_data;
        waits = subst (λ (H : Header). OnOk result (sD.pending ≡ s.pending ++ table_run H.fields)) looked.header waits;
        unchanged_on_error = kept;
        stays = subst (λ (H : Header). IfErr result (λ fault. IsNotResourceError fault → (sD.table ≡ s.table) × (sD.file.header ≡ H))) looked.header filled.stays;
        cause = fails-weaker _ _ (counting-allocates was-on looked.keeps_unpinned_room looked.cause) (λ same. same ∙ looked.cause) result filled.cause;
      }
        where
          was-on : Sound → Was × IsTrue (state fC.image).shape.keeps × IsSound mid
          was-on known = ((known.1, known.0, known.2), on known.0, mid-sound known.1 known.0 known.2)

          never : (r : Result Unit Fault) (number : ℕ) → r ≡ Err (Limit number) → FailsFor (counting_causes (Was × IsTrue (state fC.image).shape.keeps × IsSound mid) (HasUnpinnedRoom s.table C) (state fC.image).faults (state sD.file.image).faults) r → ⊥
          never r number is why = subst (λ (x : Result Unit Fault). FailsFor (counting_causes (Was × IsTrue (state fC.image).shape.keeps × IsSound mid) (HasUnpinnedRoom s.table C) (state fC.image).faults (state sD.file.image).faults) x) is why
