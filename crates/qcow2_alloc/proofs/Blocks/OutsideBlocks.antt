-- Making a refcount block in a cluster that another block counts. The cluster is counted and flushed before the new block is linked.
use Rattle.std.proofs.Common.{◌≡◌, ◌≢◌, ℕ, ◌+◌, ◌*◌, ◌/◌, ◌<◌, ◌≤◌, refl, arith, ap, sym, subst, ◌∙◌, List, [], ◌∷◌, length, inl, inr, Ok, Err, None, Some, true, false, Result}
use Rattle.std.specs.Prelude.{⊤, nat_eq, slice_index, replicate, IsTrue, map}
use Rattle.std.specs.Map.{lookup}
use Rattle.std.proofs.lemmas.Bool.{cases_eq, cases_Bool}
use Rattle.std.proofs.lemmas.List.{length-replicate}
use Rattle.std.proofs.Math.Nat.{div-mul-le_self}
use Rattle.imago_storage.specs.State.{StorageState}
use Rattle.imago_storage.specs.Calls.{IsFaultless}
use Rattle.imago_storage.specs.declared.fault.Fault.{Fault}
use Rattle.imago_storage.proofs.Composing.{keeps_on, later_same}
use Rattle.qcow2_types.specs.Bytes.{bytes_of}
use Rattle.qcow2_types.specs.Counts.{counters_of_block}
use Rattle.qcow2_types.specs.Header.{Header, refcount_table_entries}
use Rattle.qcow2_types.specs.Words.{block_offset}
use Rattle.qcow2_metadata.specs.Blocks.{Block, block_of}
use Rattle.qcow2_metadata.specs.Places.{IsAddressable}
use Rattle.qcow2_metadata.specs.Tables.{TableValue}
use Rattle.qcow2_alloc.specs.declared.async_lru_cache.Slot.{Slot}
use Rattle.qcow2_alloc.specs.declared.cache.CacheDependency.{CacheDependency}
use Rattle.qcow2_alloc.specs.declared.cache.CacheDependency.TheVariants.{L2DependsOnRb}
use Rattle.qcow2_alloc.specs.declared.cache.MetadataCaches.{MetadataCaches}
use Rattle.qcow2_alloc.specs.declared.file.ImageFile.{ImageFile}
use Rattle.qcow2_alloc.specs.Allocating.{MakesBlock, OnlyIncremented, IncrementsCluster, CountsRun}
use Rattle.qcow2_alloc.specs.Allocators.{metadata_of}
use Rattle.qcow2_alloc.specs.Caches.{cached_in, order_of, HasRoomOf, cached_file}
use Rattle.qcow2_alloc.specs.Causes.{FailsFor}
use Rattle.qcow2_alloc.specs.FreeList.{covers}
use Rattle.qcow2_alloc.specs.Going.{WritesBackCached, Always, HadNoResourceError, AreTablesAddressable, AreBlocksAddressable, IsNotResourceError, writing_causes}
use Rattle.qcow2_alloc.specs.MakingBlocks.{Begins, LinksWritten, IsFreePlace}
use Rattle.qcow2_alloc.specs.MakingRoom.{run_of}
use Rattle.qcow2_alloc.specs.Memory.{Cached, written, written_block}
use Rattle.qcow2_alloc.specs.GuestView.{Metadata, counted, referenced_at_all, waiting, one_at, IsUsed, IsSound, PreservesGuest}
use Rattle.qcow2_alloc.specs.WellFormedness.{AreBlocksClean}
use Rattle.qcow2_alloc.specs.State.{ImageState, image_state, metadata}
use Rattle.qcow2_alloc.proofs.Flushing.FlushRefusals.{writing-implies}
use Rattle.qcow2_alloc.proofs.Causes.{cause-weaker}
use Rattle.qcow2_alloc.proofs.Blocks.BareClusters.{counted-apart}
use Rattle.qcow2_alloc.proofs.Blocks.ClusterCounts.{succeeded, done_of, one-counted}
use Rattle.qcow2_alloc.proofs.Caching.BlockDrops.{forgotten-counts, forgotten-quiet, removed-apart}
use Rattle.qcow2_alloc.proofs.Searching.FreeClusters.{uncounted-free, flushes-count}
use Rattle.qcow2_alloc.proofs.Freeing.EntryFrees.{failed}
use Rattle.qcow2_alloc.proofs.Memory.FreeClusterWrites.{block-quietly}
use Rattle.qcow2_alloc.proofs.Freeing.ClusterOccurrences.{covers-none, covers-one}
use Rattle.qcow2_alloc.proofs.Caching.UnpinnedCaches.{kept-tables, loose-on}
use Rattle.qcow2_alloc.proofs.Blocks.BlockCreationCalls.{Follows, B, begins-then, begins-refused, ends, made, counting-allocates}
use Rattle.qcow2_alloc.proofs.Blocks.BlockCreation.{other-block-made, other-block-raises}
use Rattle.qcow2_alloc.proofs.Blocks.OwnBlocks.{without}
use Rattle.qcow2_alloc.proofs.GuestView.QuietSequences.{used-then}
use Rattle.qcow2_alloc.proofs.Caching.Pins.{pins-removed, pins-written}
use Rattle.qcow2_alloc.proofs.GuestView.QuietAnnouncements.{whole-quietly, written-whole}
use Rattle.qcow2_alloc.proofs.GuestView.QuietCounters.{here-one, away-none}
use Rattle.qcow2_alloc.proofs.GuestView.QuietFlushes.{going-quietly, memory-quietly}
use Rattle.qcow2_alloc.proofs.Memory.SafeLaws.{safe-reach}

-- Flushing doesn't add keys.
none-written : {V : Type 0} (c : ℕ) (put : ℕ × Slot V → ℕ × Slot V) → ((e : ℕ × Slot V) → (put e).0 ≡ e.0) → (xs ys : List (ℕ × Slot V)) → map put xs ≡ map put ys → lookup (nat_eq c) ys ≡ None → lookup (nat_eq c) xs ≡ None
none-written c put keys [] ys same none = refl
none-written c put keys (x ∷ xs) [] same none = absurd (cc)
none-written c put keys (x ∷ xs) (y ∷ ys) same none =
    let head : put x ≡ put y = (let e = same in cc) in
    let tail : map put xs ≡ map put ys = (let e = same in cc) in
    let key : x.0 ≡ y.0 = sym (keys x) ∙ ap (λ (e : ℕ × Slot _). e.0) head ∙ keys y in
    elim (cases_Bool (nat_eq c y.0)) [
      | inl t ↦ absurd (let found = rw t at none in cc)
      | inr t ↦ let f : nat_eq c x.0 ≡ false = ap (nat_eq c) key ∙ t in rw f (none-written c put keys xs ys tail (rw t at none))
    ]

module _ {S : Type 0} (state : S → StorageState) (image : ImageState S) (i d : ℕ) (A : MetadataCaches S) (fA : ImageFile S) (begun : Begins state image (λ _. 0) (image_state image.table A fA image.pending))
    (free : order_of image.caches ≡ L2DependsOnRb → IsTrue (state image.file.image).shape.keeps → IsSound (metadata state image) → IsFreePlace (metadata_of state fA A image.table image.pending) i d) where
  abbrev At : MetadataCaches S → ImageFile S → Metadata
  At caches file = metadata_of state file caches image.table image.pending

  abbrev m0 : Metadata
  m0 = At image.caches image.file

  abbrev mA : Metadata
  mA = At A fA

  abbrev C1 : MetadataCaches S
  C1 = without state (image_state image.table A fA image.pending) d

  abbrev m1 : Metadata
  m1 = At C1 fA

  abbrev Keeps : Type 0
  Keeps = IsTrue (state image.file.image).shape.keeps

  sound-then : order_of image.caches ≡ L2DependsOnRb → Keeps → IsSound m0 → IsSound mA
  sound-then order keeps sound = ((begun.guest_unchanged order).holds keeps sound tt).0

  -- Nothing references the cluster, and its cached block is dropped.
  unused : order_of image.caches ≡ L2DependsOnRb → Keeps → IsSound m0 → (referenced_at_all mA d ≡ 0) × (waiting mA d ≡ 0) × (IsUsed mA d → ⊥)
  unused order keeps sound = uncounted-free mA (sound-then order keeps sound) (begun.order ∙ order) d (free order keeps sound).uncounted

  begin : Begins state image (λ _. 0) (image_state image.table C1 fA image.pending)
  begin =
      begins-then state i image (λ _. 0) (λ _. 0) A fA C1 fA begun (λ _. 0) (λ c. omega arith)
      (record {
        shape = refl;
        counts_not_fallen = later_same (state fA.image);
        faults = λ done. (refl, refl);
        guest_unchanged = λ order keeps sound s. memory-quietly ⊤ (λ _. 0) (λ _. 0) (state fA.image) mA m1 (λ s' done. forgotten-quiet mA d s' (unused order keeps sound).0);
        raised = λ order keeps sound s done c. inl (forgotten-counts mA d s (unused order keeps sound).0 c);
        stays = record {
          header = refl;
          order = refl;
          loose = loose-on image.table A C1 (pins-removed (nat_eq d) (cached_in A).blocks) refl;
          room = record { tables = refl; blocks = refl; entries = refl };
        };
      })

  zero1 : order_of image.caches ≡ L2DependsOnRb → Keeps → IsSound m0 → counted m1 d ≡ 0
  zero1 order keeps sound = forgotten-counts mA d (sound-then order keeps sound) (unused order keeps sound).0 d ∙ (free order keeps sound).uncounted

  on : Keeps → IsTrue (state fA.image).shape.keeps
  on keeps = keeps_on (state image.file.image) (state fA.image) begun.shape keeps

  -- The cluster's refcount is incremented.
  module _ (result : Result Unit Fault) (C : MetadataCaches S) (fC : ImageFile S) (raises : IncrementsCluster state image.table d (cached_file C1 fA) result (cached_file C fC)) where
    abbrev run : CountsRun state d 1 (image_state image.table C1 fA image.pending) result (image_state image.table C fC image.pending)
    run = (one-counted state image.table image.pending d C1 fA result C fC raises).0

    part-is : run.part ≡ done_of result
    part-is = (one-counted state image.table image.pending d C1 fA result C fC raises).1

    abbrev more : ℕ → ℕ
    more c = covers c (run_of d run.part)

    more-none : run.part ≡ 0 → (c : ℕ) → more c ≡ 0
    more-none none c = ap (λ n. covers c (run_of d n)) none ∙ covers-none c (run_of d 0) refl

    more-one : run.part ≡ 1 → (c : ℕ) → more c ≡ one_at d c
    more-one one c = ap (λ n. covers c (run_of d n)) one ∙ covers-one c (run_of d 1) refl

    all-zero : order_of image.caches ≡ L2DependsOnRb → Keeps → IsSound m0 → (c : ℕ) → d ≤ c → c < d + 1 → counted m1 c ≡ 0
    all-zero order keeps sound c ge lt = let same : d ≡ c = omega (arith, ge, lt) in subst (λ n. counted m1 n ≡ 0) same (zero1 order keeps sound)

    only-one : order_of image.caches ≡ L2DependsOnRb → Keeps → IsSound m0 → IsSound m1 → HadNoResourceError result → OnlyIncremented m1 (At C fC)
    only-one order keeps sound sound1 whole c =
        let is = run.raised (begin.order ∙ order) (on keeps) sound1 (all-zero order keeps sound) whole c in
        elim (cases_eq run.part 0) [
          | inl none ↦ inl (let zero = more-none none c in omega (arith, is, zero))
          | inr some ↦
              let few = run.inside in
              let one = more-one (omega (arith, few, some)) c in
              elim (cases_eq c d) [
                | inr away ↦ inl (let none = away-none d c away in omega (arith, is, one, none))
                | inl same ↦
                    let at : one_at d c ≡ 1 = ap (one_at d) same ∙ here-one d in
                    let was : counted m1 c ≡ 0 = subst (λ n. counted m1 n ≡ 0) (sym same) (zero1 order keeps sound) in
                    inr (was, omega (arith, is, one, at, was))
              ]
        ]

    counting : Follows state i image (HadNoResourceError result) more C1 fA C fC
    counting = record {
      shape = run.shape;
      counts_not_fallen = run.counts_not_fallen;
      faults = run.faults;
      guest_unchanged = λ order keeps sound sound1. run.guest_unchanged (begin.order ∙ order) (λ s. all-zero order keeps sound);
      raised = only-one;
      stays = record { header = run.header; order = run.order; loose = run.keeps_unpinned_room; room = run.room };
    }

  pub uncounted-made : (fault : Fault) (C : MetadataCaches S) (fC : ImageFile S) → IncrementsCluster state image.table d (cached_file C1 fA) (Err fault) (cached_file C fC) → MakesBlock state i image (Err fault) (image_state image.table C fC image.pending)
  uncounted-made fault C fC raises =
      begins-refused state i image (λ _. 0) (more (Err fault) C fC raises) C1 fA C fC begin fault (counting (Err fault) C fC raises)
      (λ order keeps sound whole c. let none = more-none (Err fault) C fC raises (part-is (Err fault) C fC raises) c in omega (arith, none))
      (cause-weaker (counting-allocates (λ holds. (
        on holds.0,
        begin.order ∙ holds.1,
        ((begin.guest_unchanged holds.1).holds holds.0 holds.2 tt).0,
        λ c ge lt. (all-zero (Err fault) C fC raises holds.1 holds.0 holds.2 c ge lt, subst (λ n. block_offset (slice_index image.table.raw_entries (n / counters_of_block fA.header.fields)) ≢ 0) (let same : d ≡ c = omega (arith, ge, lt) in same) (free holds.1 holds.0 holds.2).block_exists),
      )) begin.keeps_unpinned_room begin.faults.0) fault (run (Err fault) C fC raises).cause)

  module _ (C : MetadataCaches S) (fC : ImageFile S) (raises : IncrementsCluster state image.table d (cached_file C1 fA) succeeded (cached_file C fC)) where
    abbrev m2 : Metadata
    m2 = At C fC

    taken : Begins state image (one_at d) (image_state image.table C fC image.pending)
    taken =
        begins-then state i image (λ _. 0) (more succeeded C fC raises) C1 fA C fC begin (one_at d) (λ c. let one = more-one succeeded C fC raises (part-is succeeded C fC raises) c in omega (arith, one)) (counting succeeded C fC raises)

    -- The block that counts the cluster is flushed.
    module _ (result : Result Unit Fault) (D : MetadataCaches S) (fD : ImageFile S) (going : WritesBackCached fC.header (order_of C) Always (result ≡ Ok tt) (state fC.image) (cached_in C) (state fD.image) (cached_in D)) (kept : written (cached_in D) ≡ written (cached_in C))
        (others : (D.order ≡ C.order) × (fD.header ≡ fC.header)) (room : HasRoomOf C D) (cause : FailsFor (writing_causes (AreTablesAddressable (cached_in C) × AreBlocksAddressable (cached_in C)) (state fC.image).faults (state fD.image).faults) result) where
      abbrev m3 : Metadata
      m3 = At D fD

      moved : (P : Metadata → Type 0) → P (record m2 { file = bytes_of (state fD.image).bytes; cached = cached_in D }) → P m3
      moved P p =
          subst (λ (h : Header). P (record m2 { file = bytes_of (state fD.image).bytes; cached = cached_in D; header = h; order = order_of D })) (sym others.1)
          (subst (λ (o : CacheDependency). P (record m2 { file = bytes_of (state fD.image).bytes; cached = cached_in D; order = o })) (sym others.0) p)

      sound2 : order_of image.caches ≡ L2DependsOnRb → Keeps → IsSound m0 → IsSound m2
      sound2 order keeps sound = ((taken.guest_unchanged order).holds keeps sound tt).0

      done-so : IsSound m2 → HadNoResourceError result → result ≡ Ok tt
      done-so sound whole = written-whole _ _ _ result cause (safe-reach m2.file m2.header m2.cached m2.order sound.well_formed) whole

      same : Keeps → IsSound m2 → result ≡ Ok tt → (c : ℕ) → (counted m3 c ≡ counted m2 c) × (referenced_at_all m3 c ≤ referenced_at_all m2 c)
      same keeps sound done c =
          moved (λ m. (counted m c ≡ counted m2 c) × (referenced_at_all m c ≤ referenced_at_all m2 c))
          (flushes-count m2 (state fC.image).bytes (state fD.image).bytes (cached_in D) refl (going.holds (keeps_on (state image.file.image) (state fC.image) taken.shape keeps) sound.well_formed tt (inl done)) c)

      flushing : (HadNoResourceError result → IsFaultless (state fC.image) (state fD.image)) → Follows state i image (HadNoResourceError result) (λ _. 0) C fC D fD
      flushing faultless = record {
        shape = going.shape;
        counts_not_fallen = going.counts_not_fallen;
        faults = faultless;
        guest_unchanged = λ order keeps sound s. moved (λ m. PreservesGuest (HadNoResourceError result) (λ _. 0) (λ _. 0) (state fC.image) m2 (state fD.image) m)
            (whole-quietly m2 _ _ _ result (λ _. 0) (λ _. 0) (state fC.image) (state fD.image) _ (λ reach. reach) cause (going-quietly m2 (result ≡ Ok tt) (state fC.image) (state fD.image) (cached_in D) refl going));
        raised = λ order keeps sound s whole c. inl (same keeps s (done-so s whole) c).0;
        stays = record {
          header = others.1;
          order = others.0;
          loose = loose-on image.table C D (pins-written written_block (λ e. e.0) (λ e. e.1.pins) (λ e. (refl, refl)) (cached_in C).blocks (cached_in D).blocks (ap (λ (c : Cached). c.blocks) kept)) room.blocks;
          room = kept-tables C D kept room;
        };
      }

    pub unwritten-made : (fault : Fault) (D : MetadataCaches S) (fD : ImageFile S) → WritesBackCached fC.header (order_of C) Always (failed fault ≡ Ok tt) (state fC.image) (cached_in C) (state fD.image) (cached_in D) → written (cached_in D) ≡ written (cached_in C)
        → (D.order ≡ C.order) × (fD.header ≡ fC.header) → HasRoomOf C D → FailsFor (writing_causes (AreTablesAddressable (cached_in C) × AreBlocksAddressable (cached_in C)) (state fC.image).faults (state fD.image).faults) (failed fault) → (IsNotResourceError fault → IsFaultless (state fC.image) (state fD.image))
        → MakesBlock state i image (Err fault) (image_state image.table D fD image.pending)
    unwritten-made fault D fD going kept others room cause faultless =
        begins-refused state i image (one_at d) (λ _. 0) C fC D fD taken fault (flushing (failed fault) D fD going kept others room cause faultless)
        (λ order keeps sound whole c. absurd (let no = done-so (failed fault) D fD going kept others room cause (sound2 (failed fault) D fD going kept others room cause order keeps sound) whole in cc no))
        (let same = taken.faults.0 in cause-weaker (writing-implies _ (omega (arith, same)) (omega arith) (λ far holds. let s = sound2 (failed fault) D fD going kept others room cause holds.1 holds.0 holds.2 in far (safe-reach m2.file m2.header m2.cached m2.order s.well_formed))) fault cause)

    -- The new block is written and linked.
    module _ (D : MetadataCaches S) (fD : ImageFile S) (going : WritesBackCached fC.header (order_of C) Always (succeeded ≡ Ok tt) (state fC.image) (cached_in C) (state fD.image) (cached_in D)) (kept : written (cached_in D) ≡ written (cached_in C))
        (others : (D.order ≡ C.order) × (fD.header ≡ fC.header)) (room : HasRoomOf C D) (faults : (state fD.image).faults ≡ (state fC.image).faults) (clean : AreBlocksClean (cached_in D)) where
      abbrev m4 : Metadata
      m4 = At D fD

      record Ready : Type 0 where
        pub inside : i < refcount_table_entries fD.header.fields
        pub uncached : lookup (nat_eq d) (cached_in D).blocks ≡ None
        pub not_referenced : referenced_at_all m4 d ≡ 0
        pub unlisted : waiting m4 d ≡ 0
        pub counts : 1 ≤ counted m4 d

      ready : order_of image.caches ≡ L2DependsOnRb → Keeps → IsSound m0 → i < length image.table.raw_entries → IsSound m4 → Ready
      ready order keeps sound inside sound4 =
          let s1 = ((begin.guest_unchanged order).holds keeps sound tt).0 in
          let s2 = sound2 succeeded D fD going kept others room faults order keeps sound in
          let apart = counted-apart state image.table image.pending d C1 fA C fC (on keeps) (begin.order ∙ order) s1 (zero1 order keeps sound) (removed-apart d (cached_in A).blocks (sound-then order keeps sound).well_formed.blocks_apart).0 raises in
          let zero = zero1 order keeps sound in
          let is = (run succeeded C fC raises).raised (begin.order ∙ order) (on keeps) s1 (all-zero succeeded C fC raises order keeps sound) tt d in
          let one = more-one succeeded C fC raises (part-is succeeded C fC raises) d in
          let here = here-one d in
          let after = same succeeded D fD going kept others room faults keeps s2 refl d in
          let less = apart.0 in
          let counts = after.0 in
          let names = after.1 in
          record {
            inside = let long = sound4.table.long in omega (arith, inside, long);
            uncached = none-written d written_block (λ e. refl) (cached_in D).blocks (cached_in C).blocks (ap (λ (c : Cached). c.blocks) kept) apart.1;
            not_referenced = omega (arith, less, names);
            unlisted = (unused order keeps sound).1;
            counts = omega (arith, is, one, here, zero, counts);
          }

      abbrev counters : List ℕ
      counters = replicate (counters_of_block fD.header.fields) 0

      pub taken-made : i < length image.table.raw_entries → block_offset (slice_index image.table.raw_entries i) ≡ 0 → 9 ≤ fD.header.fields.cluster_bits → d ≢ 0 → IsAddressable fD.header.fields.cluster_bits d → d / counters_of_block fD.header.fields ≢ i
          → (result : Result Unit Fault) (table' : TableValue) (after : ImageFile S) → after.header ≡ fD.header
          → LinksWritten image.table i (B state i d counters (image_state image.table D fD image.pending)) (state fD.image) result table' (state after.image) → MakesBlock state i image result (image_state table' D after image.pending)
      taken-made inside empty low some reach other result table' after header names =
          made state i image (one_at d) Ready d counters D fD
          (begins-then state i image (one_at d) (λ _. 0) C fC D fD taken (one_at d) (λ c. omega arith) (flushing succeeded D fD going kept others room faults (λ whole. going.faults refl)))
          (λ order keeps sound c used. elim (cases_eq c d) [
            | inr away ↦ away-none d c away
            | inl same ↦ absurd ((unused order keeps sound).2 (used-then m0 mA (λ _. 0) (λ _. 0) ((begun.guest_unchanged order).holds keeps sound tt).1 sound (sound-then order keeps sound) d (subst (λ n. IsUsed m0 n) same used) refl))
          ])
          (λ order keeps sound sound4. ready order keeps sound inside sound4)
          empty result table' after header
          (ends state i d counters (image_state image.table D fD image.pending) Ready (one_at d) inside low some reach
          (λ r mid done put. block-quietly m4 d (B state i d counters (image_state image.table D fD image.pending)) (state fD.image) mid refl refl (length-replicate {A = ℕ} (counters_of_block fD.header.fields) 0) (one_at d)
          (λ s. (r.not_referenced, λ used. let one = here-one d in omega (arith, one))) done put)
          (λ r modified mid new done ok put answer named. (
            other-block-made m4 i d (B state i d counters (image_state image.table D fD image.pending)) modified (state fD.image) mid new refl refl refl clean r.inside empty other some reach r.uncached (λ s. (r.not_referenced, r.unlisted, r.counts)) done ok put answer named,
            λ keeps s is. other-block-raises m4 i d (B state i d counters (image_state image.table D fD image.pending)) modified (state fD.image) mid new refl refl refl clean r.inside empty other some reach r.uncached (λ s'. (r.not_referenced, r.unlisted, r.counts)) done ok put keeps s answer named is,
          ))
          result table' (state after.image) names)

      -- Like `taken-made`, with the header from before the increment.
      pub taken-made-so : i < length image.table.raw_entries → block_offset (slice_index image.table.raw_entries i) ≡ 0 → 9 ≤ fA.header.fields.cluster_bits → d ≢ 0 → IsAddressable fA.header.fields.cluster_bits d → d < i * counters_of_block fA.header.fields
          → (block : Block) → block ≡ block_of fA.header.fields.cluster_bits fA.header.fields.refcount_order (replicate (counters_of_block fA.header.fields) 0) (Some d) true
          → (result : Result Unit Fault) (table' : TableValue) (after : ImageFile S) → after.header ≡ fD.header
          → LinksWritten image.table i block (state fD.image) result table' (state after.image) → MakesBlock state i image result (image_state table' D after image.pending)
      taken-made-so inside empty low some reach below block is result table' after header names =
          let same : fA.header ≡ fD.header = sym (others.1 ∙ (run succeeded C fC raises).header) in
          taken-made inside empty (subst (λ (h : Header). 9 ≤ h.fields.cluster_bits) same low) some (subst (λ (h : Header). IsAddressable h.fields.cluster_bits d) same reach)
          (subst (λ (h : Header). d / counters_of_block h.fields ≢ i) same (λ own. let le = div-mul-le_self d (counters_of_block fA.header.fields) in let at = ap (λ n. n * counters_of_block fA.header.fields) own in omega (arith, le, at, below)))
          result table' after header
          (subst (λ (b : Block). LinksWritten image.table i b (state fD.image) result table' (state after.image))
          (is ∙ ap (λ (h : Header). block_of h.fields.cluster_bits h.fields.refcount_order (replicate (counters_of_block h.fields) 0) (Some d) true) same) names)
