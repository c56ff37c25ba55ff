-- Taking the free area for a refcount table: its clusters are counted, flushed, dropped from the cache and written, step by step.
use Rattle.std.proofs.Common.{◌≡◌, ℕ, ◌+◌, ◌*◌, ◌<◌, ◌≤◌, refl, arith, ap, sym, subst, ◌∙◌, inl, inr, Result, Ok, Err, None}
use Rattle.std.specs.Prelude.{⊤, IsTrue, OnOk, IfErr, nat_eq}
use Rattle.std.specs.Map.{lookup}
use Rattle.std.proofs.lemmas.Bool.{cases_lt}
use Rattle.imago_storage.specs.State.{StorageState}
use Rattle.imago_storage.specs.Calls.{CountsNotFallen, IsFaultless}
use Rattle.imago_storage.specs.declared.fault.Fault.{Fault}
use Rattle.imago_storage.specs.declared.fault.Fault.TheVariants.{CacheFull}
use Rattle.imago_storage.proofs.Composing.{keeps_on, later_both, later_same}
use Rattle.qcow2_types.specs.Bytes.{bytes_of}
use Rattle.qcow2_types.specs.Counts.{count, counters_of_block}
use Rattle.qcow2_types.specs.Header.{Header}
use Rattle.qcow2_alloc.specs.declared.allocation.searching.Run.{Run}
use Rattle.qcow2_alloc.specs.declared.cache.CacheDependency.{CacheDependency}
use Rattle.qcow2_alloc.specs.declared.cache.CacheDependency.TheVariants.{L2DependsOnRb}
use Rattle.qcow2_alloc.specs.declared.cache.MetadataCaches.{MetadataCaches}
use Rattle.qcow2_alloc.specs.declared.file.ImageFile.{ImageFile}
use Rattle.qcow2_alloc.specs.Allocating.{CountsReferenced, named_part}
use Rattle.qcow2_alloc.specs.Allocators.{metadata_of}
use Rattle.qcow2_alloc.specs.Caches.{cached_in, order_of, HasRoomOf, KeepsTables}
use Rattle.qcow2_alloc.specs.Causes.{HasCause, FailsFor}
use Rattle.qcow2_alloc.specs.Finding.{PinsNothing}
use Rattle.qcow2_alloc.specs.FreeList.{covers}
use Rattle.qcow2_alloc.specs.Freeing.{HasUnpinnedRoom, counting_causes}
use Rattle.qcow2_alloc.specs.Going.{WritesBackCached, Always, HadNoResourceError, AreTablesAddressable, AreBlocksAddressable, writing_causes}
use Rattle.qcow2_alloc.specs.Growing.{lacks, lacking}
use Rattle.qcow2_alloc.specs.MakingRoom.{run_of, rank}
use Rattle.qcow2_alloc.specs.Memory.{Cached, written, written_block}
use Rattle.qcow2_alloc.specs.MovingTables.{ForgetsRun, IsPinnedWithin, StaysInMemory, TakesFreeArea, IsTaken, IsUncounted}
use Rattle.qcow2_alloc.specs.NewBlocks.{MayWrite, WritesLacking}
use Rattle.qcow2_alloc.specs.GuestView.{Metadata, counted, referenced_at_all, IsUsed, IsSound, PreservesGuest}
use Rattle.qcow2_alloc.specs.WellFormedness.{AreBlocksClean}
use Rattle.qcow2_alloc.specs.State.{ImageState, image_state}
use Rattle.qcow2_alloc.proofs.Flushing.FlushRefusals.{writing-implies}
use Rattle.qcow2_alloc.proofs.Causes.{fails-weaker, storage-fails}
use Rattle.qcow2_alloc.proofs.Blocks.ClusterCounts.{succeeded}
use Rattle.qcow2_alloc.proofs.Blocks.RunCounts.{covers-behind}
use Rattle.qcow2_alloc.proofs.Flushing.FaultlessCalls.{faultless-then}
use Rattle.qcow2_alloc.proofs.Caching.BlockDrops.{never-unnamed}
use Rattle.qcow2_alloc.proofs.Caching.BlockRunDrops.{memory-counts}
use Rattle.qcow2_alloc.proofs.Searching.FreeClusters.{uncounted-free, flushes-count, clean-counts}
use Rattle.qcow2_alloc.proofs.Freeing.EntryFrees.{failed, counting-weaker}
use Rattle.qcow2_alloc.proofs.Growth.LongerReftables.{covers-inside, covers-before}
use Rattle.qcow2_alloc.proofs.Caching.UnpinnedCaches.{kept-tables, StaysLoose, loose-on}
use Rattle.qcow2_alloc.proofs.Blocks.NewBlockNames.{rank-before}
use Rattle.qcow2_alloc.proofs.Growth.FirstRooms.{lacks-inside}
use Rattle.qcow2_alloc.proofs.Caching.Pins.{pins-written}
use Rattle.qcow2_alloc.proofs.GuestView.QuietAnnouncements.{whole-quietly, written-whole}
use Rattle.qcow2_alloc.proofs.GuestView.QuietFlushes.{going-quietly, memory-quietly}
use Rattle.qcow2_alloc.proofs.GuestView.QuietPremises.{quietly-then-given, quietly-given}
use Rattle.qcow2_alloc.proofs.GuestView.QuietNames.{quiet-names}
use Rattle.qcow2_alloc.proofs.GuestView.QuietSequences.{quietly-otherwise}
use Rattle.qcow2_alloc.proofs.Memory.SafeLaws.{safe-reach}
use Rattle.std.proofs.Math.Nat.{mul-le-mul}

module _ {S : Type 0} (state : S → StorageState) (start : ImageState S) (run : Run) where
  abbrev At : MetadataCaches S → ImageFile S → Metadata
  At caches file = metadata_of state file caches start.table start.pending

  abbrev m0 : Metadata
  m0 = At start.caches start.file

  abbrev Keeps : Type 0
  Keeps = IsTrue (state start.file.image).shape.keeps

  -- The facts about the image before the call.
  abbrev pub Given : Type 0
  Given = Keeps × (order_of start.caches ≡ L2DependsOnRb) × IsSound m0 × IsUncounted m0 run

  abbrev Counts : Result Unit Fault → MetadataCaches S → ImageFile S → Type 0
  Counts result new after = CountsReferenced state run.first run.len start result (image_state start.table new after start.pending)

  -- The clusters of the run.
  abbrev pub ours : ℕ → ℕ
  ours c = covers c (run_of run.first run.len)

  pub ours-unused : IsUncounted m0 run → (c : ℕ) → IsUsed m0 c → ours c ≡ 0
  ours-unused zero c used = elim (cases_lt c run.first) [
    | inl lt ↦ covers-before c run.first run.len lt
    | inr from ↦ elim (cases_lt c (run.first + run.len)) [
      | inl to ↦ let none = zero c from to in let some = used.taken in absurd (omega (arith, none, some))
      | inr le ↦ covers-behind c run.first run.len le
    ]
  ]

  -- The outcome of the next step. Refcounts don't change, and of the used clusters only those of the run may change.
  pub record Next (ok : Type 0) (C : MetadataCaches S) (fC : ImageFile S) (D : MetadataCaches S) (fD : ImageFile S) : Type 0 where
    pub shape : (state fD.image).shape ≡ (state fC.image).shape
    pub counts_not_fallen : CountsNotFallen (state fC.image) (state fD.image)
    pub faults : ok → IsFaultless (state fC.image) (state fD.image)
    pub guest_unchanged : Given → IsSound (At C fC) → PreservesGuest ok ours ours (state fC.image) (At C fC) (state fD.image) (At D fD)
    pub same : Given → IsSound (At C fC) → ok → (c : ℕ) → counted (At D fD) c ≡ counted (At C fC) c
    pub stays : StaysLoose start.table C fC D fD

  module _ (C : MetadataCaches S) (fC : ImageFile S) (counts : Counts succeeded C fC) where
    on : Keeps → IsTrue (state fC.image).shape.keeps
    on keeps = keeps_on (state start.file.image) (state fC.image) counts.shape keeps

    pub sound-then : Given → IsSound (At C fC)
    sound-then given = ((counts.guest_unchanged given.1 (λ s. given.3)).holds given.0 given.2 tt).0

    pub unnamed-then : Given → (c : ℕ) → run.first ≤ c → c < run.first + run.len → referenced_at_all (At C fC) c ≡ 0
    unnamed-then given c from to =
        let held = (counts.guest_unchanged given.1 (λ s. given.3)).holds given.0 given.2 tt in
        let less = quiet-names m0 (At C fC) (named_part start.table (counters_of_block start.file.header.fields) run.first counts.part) (λ _. 0) given.2 held.0 held.1 counts.header refl c in
        let none = (uncounted-free m0 given.2 given.1 c (given.3 c from to)).0 in
        omega (arith, less, none)

    -- A further step after the count.
    pub counts-then : (result : Result Unit Fault) (D : MetadataCaches S) (fD : ImageFile S) → Next (HadNoResourceError result) C fC D fD
        → FailsFor (counting_causes (Given × IsSound (At C fC)) (HasUnpinnedRoom start.table C) (state fC.image).faults (state fD.image).faults) result → Counts result D fD
    counts-then result D fD next cause =
        let part = counts.part in
        let handed = named_part start.table (counters_of_block start.file.header.fields) run.first counts.part in
        record {
          part = counts.part;
          inside = counts.inside;
          whole = on-ok result counts.whole;
          shape = next.shape ∙ counts.shape;
          counts_not_fallen = later_both _ _ _ counts.counts_not_fallen next.counts_not_fallen;
          faults = λ whole. faultless-then (counts.faults tt) (next.faults whole);
          guest_unchanged = λ order free.
              quietly-given (HadNoResourceError result) handed (λ _. 0) (state start.file.image) m0 (state fD.image) (At D fD) (next.shape ∙ counts.shape) (later_both _ _ _ counts.counts_not_fallen next.counts_not_fallen) (λ keeps sound.
              let given : Given = (keeps, order, sound, free sound) in
              quietly-otherwise (HadNoResourceError result) (λ c. handed c + ours c) (λ c. 0 + ours c) handed (λ _. 0) (state start.file.image) m0 (state fD.image) (At D fD) (λ s c. omega arith)
              (λ s c used none. let off = ours-unused (free s) c used in omega (arith, off))
              (quietly-then-given (HadNoResourceError succeeded) (HadNoResourceError result) handed (λ _. 0) ours ours (state start.file.image) m0 (state fC.image) (At C fC) (state fD.image) (At D fD) tt (λ s c some. refl) (counts.guest_unchanged order free) next.shape next.counts_not_fallen
              (λ k s s1 guest_unchanged. next.guest_unchanged given s1)));
          raised = λ order keeps sound free whole c.
              let given : Given = (keeps, order, sound, free) in
              next.same given (sound-then given) whole c ∙ counts.raised order keeps sound free tt c;
          order = next.stays.order ∙ counts.order;
          header = next.stays.header ∙ counts.header;
          keeps_unpinned_room = λ any loose. next.stays.loose any (counts.keeps_unpinned_room any loose);
          room = record { tables = next.stays.room.tables ∙ counts.room.tables; blocks = next.stays.room.blocks ∙ counts.room.blocks; entries = next.stays.room.entries ∙ counts.room.entries };
          cause = fails-weaker _ _ (counting-weaker from counts.keeps_unpinned_room counts.cause) (λ same. same ∙ counts.cause) result cause;
        }
      where
        on-ok : (r : Result Unit Fault) → counts.part ≡ run.len → OnOk r (counts.part ≡ run.len)
        on-ok (Ok done) is = is
        on-ok (Err fault) is = tt

        from : Keeps × (order_of start.caches ≡ L2DependsOnRb) × IsSound m0 × ((c : ℕ) → run.first ≤ c → c < run.first + run.len → (counted m0 c ≡ 0) × ⊤) → Given × IsSound (At C fC)
        from holds = let given : Given = (holds.0, holds.1, holds.2, λ c above below. (holds.3 c above below).0) in (given, sound-then given)

    -- Blocks are flushed.
    module _ (result : Result Unit Fault) (D : MetadataCaches S) (fD : ImageFile S) (going : WritesBackCached fC.header (order_of C) Always (result ≡ Ok tt) (state fC.image) (cached_in C) (state fD.image) (cached_in D)) (kept : written (cached_in D) ≡ written (cached_in C))
        (others : (D.order ≡ C.order) × (fD.header ≡ fC.header)) (room : HasRoomOf C D) (cause : FailsFor (writing_causes (AreTablesAddressable (cached_in C) × AreBlocksAddressable (cached_in C)) (state fC.image).faults (state fD.image).faults) result) where
      moved : (P : Metadata → Type 0) → P (record (At C fC) { file = bytes_of (state fD.image).bytes; cached = cached_in D }) → P (At D fD)
      moved P p =
          subst (λ (h : Header). P (record (At C fC) { file = bytes_of (state fD.image).bytes; cached = cached_in D; header = h; order = order_of D })) (sym others.1)
          (subst (λ (o : CacheDependency). P (record (At C fC) { file = bytes_of (state fD.image).bytes; cached = cached_in D; order = o })) (sym others.0) p)

      done-so : IsSound (At C fC) → HadNoResourceError result → result ≡ Ok tt
      done-so sound whole = written-whole _ _ _ result cause (safe-reach (At C fC).file (At C fC).header (At C fC).cached (At C fC).order sound.well_formed) whole

      flushing : (HadNoResourceError result → IsFaultless (state fC.image) (state fD.image)) → Next (HadNoResourceError result) C fC D fD
      flushing faultless = record {
        shape = going.shape;
        counts_not_fallen = going.counts_not_fallen;
        faults = faultless;
        guest_unchanged = λ given sound. moved (λ m. PreservesGuest (HadNoResourceError result) ours ours (state fC.image) (At C fC) (state fD.image) m)
            (quietly-otherwise (HadNoResourceError result) (λ _. 0) (λ _. 0) ours ours (state fC.image) (At C fC) (state fD.image) _ (λ s c. omega arith) (λ s c used none. refl)
            (whole-quietly (At C fC) _ _ _ result (λ _. 0) (λ _. 0) (state fC.image) (state fD.image) _ (λ reach. reach) cause (going-quietly (At C fC) (result ≡ Ok tt) (state fC.image) (state fD.image) (cached_in D) refl going)));
        same = λ given sound whole c. moved (λ m. counted m c ≡ counted (At C fC) c)
            (flushes-count (At C fC) (state fC.image).bytes (state fD.image).bytes (cached_in D) refl (going.holds (on given.0) sound.well_formed tt (inl (done-so sound whole))) c).0;
        stays = record {
          header = others.1;
          order = others.0;
          loose = loose-on start.table C D (pins-written written_block (λ e. e.0) (λ e. e.1.pins) (λ e. (refl, refl)) (cached_in C).blocks (cached_in D).blocks (ap (λ (c : Cached). c.blocks) kept)) room.blocks;
          room = kept-tables C D kept room;
        };
      }

      pub flushed-then : (HadNoResourceError result → IsFaultless (state fC.image) (state fD.image)) → Counts result D fD
      flushed-then faultless = counts-then result D fD (flushing faultless)
          (fails-weaker _ _ (writing-implies _ (omega arith) (omega arith) (λ far holds. far (safe-reach (At C fC).file (At C fC).header (At C fC).cached (At C fC).order holds.1.well_formed))) (λ same. same) result cause)

    -- Cached blocks are dropped.
    module _ (result : Result Unit Fault) (D : MetadataCaches S) (n : ℕ) (few : n ≤ run.len) (forgets : ForgetsRun run.first n (cached_in C) result (cached_in D)) (order : D.order ≡ C.order) (pins : PinsNothing (cached_in C).blocks (cached_in D).blocks) (room : KeepsTables C D)
        (cause : IfErr result (λ fault. (fault ≡ CacheFull) × IsPinnedWithin run.first n C)) where
      there : (P : Metadata → Type 0) → P (record (At C fC) { cached = cached_in D }) → P (At D fC)
      there P p = subst (λ (o : CacheDependency). P (record (At C fC) { cached = cached_in D; order = o })) (sym order) p

      pub forgotten-there : Given → StaysInMemory (At C fC) (record (At C fC) { cached = cached_in D }) × OnOk result ((d : ℕ) → run.first ≤ d → d < run.first + n → lookup (nat_eq d) (cached_in D).blocks ≡ None)
      forgotten-there given = forgets.stays (At C fC) (sound-then given) (λ d from to. unnamed-then given d from (omega (arith, to, few)))

      pub forgotten-same : Given → (c : ℕ) → counted (At D fC) c ≡ counted (At C fC) c
      forgotten-same given c = there (λ m. counted m c ≡ counted (At C fC) c) (memory-counts (At C fC) (cached_in D) (forgotten-there given).0 c)

      forgetting : Next (HadNoResourceError result) C fC D fC
      forgetting = record {
        shape = refl;
        counts_not_fallen = later_same (state fC.image);
        faults = λ whole. (refl, refl);
        guest_unchanged = λ given sound. there (λ m. PreservesGuest (HadNoResourceError result) ours ours (state fC.image) (At C fC) (state fC.image) m)
            (quietly-otherwise (HadNoResourceError result) (λ _. 0) (λ _. 0) ours ours (state fC.image) (At C fC) (state fC.image) _ (λ s c. omega arith) (λ s c used none. refl)
            (memory-quietly (HadNoResourceError result) (λ _. 0) (λ _. 0) (state fC.image) (At C fC) _ (λ s whole. let stays = (forgotten-there given).0 in (stays.sound, stays.guest_unchanged))));
        same = λ given sound whole. forgotten-same given;
        stays = record { header = refl; order = order; loose = loose-on start.table C D pins room.blocks; room = room };
      }

      -- A block that is pinned in the run isn't one that the table references.
      why-full : (r : Result Unit Fault) → IfErr r (λ fault. (fault ≡ CacheFull) × IsPinnedWithin run.first n C)
          → FailsFor (counting_causes (Given × IsSound (At C fC)) (HasUnpinnedRoom start.table C) (state fC.image).faults (state fC.image).faults) r
      why-full (Ok done) none = refl
      why-full (Err fault) (is, (d, from, to, pinned)) = subst (λ (f : Fault). HasCause (counting_causes (Given × IsSound (At C fC)) (HasUnpinnedRoom start.table C) (state fC.image).faults (state fC.image).faults) f) (sym is)
          (λ u. let there = u.2.named d pinned in let holds = u.1 there.0 in never-unnamed (At C fC) holds.1 d (unnamed-then holds.0 d from (omega (arith, to, few))) there.1)

      pub forgotten-then : Counts result D fC
      forgotten-then = counts-then result D fC forgetting (why-full result cause)

    -- New blocks are written.
    module _ (result : Result Unit Fault) (fD : ImageFile S) (header : fD.header ≡ fC.header) (writes : WritesLacking fC.header start.table run (state fC.image) result (state fD.image)) where
      with-header : (P : Metadata → Type 0) → P (record (At C fC) { file = bytes_of (state fD.image).bytes }) → P (At C fD)
      with-header P p = subst (λ (h : Header). P (record (At C fC) { file = bytes_of (state fD.image).bytes; header = h })) (sym header) p

      may : Given → MayWrite fC.header run.first run.len ours (state fC.image) (At C fC)
      may given = record {
        file = refl;
        header = refl;
        free = λ sound d from to. (unnamed-then given d from to, λ used. let one = covers-inside d run.first run.len from to in omega (arith, one));
      }

      writing : Next (HadNoResourceError result) C fC C fD
      writing = record {
        shape = writes.writes.shape;
        counts_not_fallen = writes.writes.counts_not_fallen;
        faults = writes.writes.faults;
        guest_unchanged = λ given sound. with-header (λ m. PreservesGuest (HadNoResourceError result) ours ours (state fC.image) (At C fC) (state fD.image) m) (writes.writes.guest_unchanged (At C fC) ours (may given));
        same = λ given sound whole c. with-header (λ m. counted m c ≡ counted (At C fC) c) ((writes.writes.counts (At C fC) ours (may given) (on given.0) sound (writes.writes.whole whole)).memory c);
        stays = record { header = header; order = refl; loose = λ any loose. loose; room = record { tables = refl; blocks = refl; entries = refl } };
      }

      pub written-then : Counts result C fD
      written-then = counts-then result C fD writing (storage-fails _ _ _ (omega arith) (omega arith) (λ same. same) result writes.writes.cause)

      -- The run is taken.
      pub run-taken : (Given → (c : ℕ) → count (At C fC).file (At C fC).header.fields c ≡ counted (At C fC) c) → (0 < counters_of_block fC.header.fields)
          → lacking start.table (counters_of_block fC.header.fields) run.first run.len ≤ run.len
          → (Given → (d : ℕ) → run.first ≤ d → d < run.first + lacking start.table (counters_of_block fC.header.fields) run.first run.len → lookup (nat_eq d) (cached_in C).blocks ≡ None)
          → result ≡ Ok tt → Given → IsTaken (At C fD) run
      run-taken flushed some few uncached done given =
          let sound = sound-then given in
          let counts-same = writes.writes.counts (At C fC) ours (may given) (on given.0) sound done in
          with-header (λ m. IsTaken m run) (record {
            free = λ c from to. counts-same.names c ∙ unnamed-then given c from to;
            counters = writes.counters (At C fC) ours (may given) (on given.0) sound done;
            written = λ c. counts-same.file c ∙ flushed given c ∙ sym (counts-same.memory c);
            uncached = λ i is.
                let to = (lacks-inside start.table (counters_of_block fC.header.fields) run.first run.len i is).1 in
                let le : i * 1 ≤ i * counters_of_block fC.header.fields = mul-le-mul (omega arith) some in
                let behind = rank-before fC.header.fields start.table run i (run.first + run.len) (omega (arith, to, le)) is in
                uncached given (run.first + rank (lacks start.table (counters_of_block fC.header.fields) run.first run.len) i) (omega arith) (omega (arith, behind));
          })

-- All steps, if the flush and the drop succeed.
module _ {S : Type 0} (state : S → StorageState) (image : ImageState S) (run : Run) (C : MetadataCaches S) (fC : ImageFile S) (counts : CountsReferenced state run.first run.len image succeeded (image_state image.table C fC image.pending))
    (D : MetadataCaches S) (fD : ImageFile S) (going : WritesBackCached fC.header (order_of C) Always (succeeded ≡ Ok tt) (state fC.image) (cached_in C) (state fD.image) (cached_in D)) (kept : written (cached_in D) ≡ written (cached_in C))
    (others : (D.order ≡ C.order) × (fD.header ≡ fC.header)) (room : HasRoomOf C D) (cause : (state fD.image).faults ≡ (state fC.image).faults) (clean : AreBlocksClean (cached_in D)) (n : ℕ) (few : n ≤ run.len) where
  pub counts-flushed : CountsReferenced state run.first run.len image succeeded (image_state image.table D fD image.pending)
  counts-flushed = flushed-then state image run C fC counts succeeded D fD going kept others room cause (λ whole. going.faults refl)

  pub room-not-forgotten : (fault : Fault) (E : MetadataCaches S) → ForgetsRun run.first n (cached_in D) (failed fault) (cached_in E) → E.order ≡ D.order → PinsNothing (cached_in D).blocks (cached_in E).blocks → KeepsTables D E → (fault ≡ CacheFull) × IsPinnedWithin run.first n D
      → TakesFreeArea state run image (Err fault) (image_state image.table E fD image.pending)
  room-not-forgotten fault E forgets order pins space why = record {
    counts = forgotten-then state image run D fD counts-flushed (failed fault) E n few forgets order pins space why;
    taken = λ o k s z. tt;
  }

  module _ (E : MetadataCaches S) (forgets : ForgetsRun run.first n (cached_in D) succeeded (cached_in E)) (order : E.order ≡ D.order) (pins : PinsNothing (cached_in D).blocks (cached_in E).blocks) (space : KeepsTables D E) where
    counts-forgotten : CountsReferenced state run.first run.len image succeeded (image_state image.table E fD image.pending)
    counts-forgotten = forgotten-then state image run D fD counts-flushed succeeded E n few forgets order pins space tt

    pub room-taken : n ≡ lacking image.table (counters_of_block fD.header.fields) run.first run.len → 0 < counters_of_block fD.header.fields → (result : Result Unit Fault) (fE : ImageFile S) → fE.header ≡ fD.header
        → WritesLacking fD.header image.table run (state fD.image) result (state fE.image) → TakesFreeArea state run image result (image_state image.table E fE image.pending)
    room-taken all some result fE header writes = record {
      counts = written-then state image run E fD counts-forgotten result fE header writes;
      taken = λ o k s z. on-ok result (λ done. run-taken state image run E fD counts-forgotten result fE header writes
          (λ given c. sym (forgotten-same state image run D fD counts-flushed succeeded E n few forgets order pins space tt given c
          ∙ clean-counts (metadata_of state fD D image.table image.pending) (sound-then state image run D fD counts-flushed given) clean c))
          some (subst (λ m. m ≤ run.len) all few)
          (λ given d from to. (forgotten-there state image run D fD counts-flushed succeeded E n few forgets order pins space tt given).1 d from (subst (λ m. d < run.first + m) (sym all) to))
          done (k, o, s, z));
    }
      where
        on-ok : (r : Result Unit Fault) {P : Type 0} → (r ≡ Ok tt → P) → OnOk r P
        on-ok (Ok done) p = p refl
        on-ok (Err fault) p = tt
