-- Filling a free area with a copy of the refcount table, which becomes the image's table: the whole call.
use Rattle.std.proofs.Common.{◌≡◌, ◌≢◌, ℕ, ◌+◌, ◌*◌, ◌/◌, ◌<◌, ◌≤◌, refl, arith, ap, sym, subst, ◌∙◌, List, [], ◌∷◌, ◌++◌, length, inl, inr, Result, Ok, Err, None, false}
use Rattle.std.specs.Prelude.{Some, ⊤, ◌⊎◌, ◌==◌, if◌then◌else◌, IsTrue, OnOk, OnErr, slice_index}
use Rattle.std.proofs.lemmas.Bool.{cases_eq, cases_lt, ne_eqb}
use Rattle.imago_storage.specs.State.{StorageState}
use Rattle.imago_storage.specs.Calls.{Cause, CountsNotFallen}
use Rattle.imago_storage.specs.Through.{WriteOutcome, AtomicWriteOutcome}
use Rattle.imago_storage.specs.declared.fault.Fault.{Fault}
use Rattle.imago_storage.proofs.Composing.{keeps_on, later_both}
use Rattle.qcow2_types.specs.Bytes.{bytes_of}
use Rattle.qcow2_types.specs.Counts.{block_at, counters_of_block}
use Rattle.qcow2_types.specs.Header.{Fields, Header, first_fault, rules_of_size, cluster_size, entries_of_cluster}
use Rattle.qcow2_types.specs.HeaderBytes.{first_bytes}
use Rattle.qcow2_types.specs.HeaderSwitch.{FirstFieldsFit}
use Rattle.qcow2_types.specs.Pending.{FreeEntry}
use Rattle.qcow2_types.specs.References.{meets}
use Rattle.qcow2_types.specs.Switched.{with_refcount_table}
use Rattle.qcow2_types.specs.TableBytes.{table_bytes}
use Rattle.qcow2_types.specs.Words.{Layout, block_offset}
use Rattle.qcow2_metadata.specs.Tables.{TableValue, table_start}
use Rattle.qcow2_alloc.specs.declared.allocation.searching.Run.{Run}
use Rattle.qcow2_alloc.specs.declared.cache.CacheDependency.TheVariants.{L2DependsOnRb}
use Rattle.qcow2_alloc.specs.declared.cache.MetadataCaches.{MetadataCaches}
use Rattle.qcow2_alloc.specs.declared.file.ImageFile.{ImageFile}
use Rattle.qcow2_alloc.specs.Allocating.{CountsReferenced, MovedTable, named_part}
use Rattle.qcow2_alloc.specs.Allocators.{metadata_of, referenced_block}
use Rattle.qcow2_alloc.specs.Caches.{cached_in, order_of}
use Rattle.qcow2_alloc.specs.Freeing.{HasUnpinnedRoom}
use Rattle.qcow2_alloc.specs.FreeList.{covers}
use Rattle.qcow2_alloc.specs.Going.{IsNotResourceError, HadNoResourceError}
use Rattle.qcow2_alloc.specs.Growing.{lacks}
use Rattle.qcow2_alloc.specs.GrowingTables.{table_run}
use Rattle.qcow2_alloc.specs.MakingRoom.{run_of, rank, formerly, newly_counted, with_table}
use Rattle.qcow2_alloc.specs.MovingTables.{waiting_then, clusters_of, naming_table, MovesTable, IsPlan, IsTaken, IsUncounted, TakesFreeArea, FillsFreeArea}
use Rattle.qcow2_alloc.specs.GuestView.{Metadata, in_memory, counted, waiting, IsUsed, IsSound, PreservesGuest}
use Rattle.qcow2_alloc.specs.State.{ImageState, image_state, metadata}
use Rattle.qcow2_alloc.proofs.Causes.{storage-cause}
use Rattle.qcow2_alloc.proofs.Blocks.ClusterCounts.{succeeded}
use Rattle.qcow2_alloc.proofs.Blocks.RunCounts.{covers-behind}
use Rattle.qcow2_alloc.proofs.Searching.FreeClusters.{uncounted-free}
use Rattle.qcow2_alloc.proofs.Freeing.EntryFrees.{failed}
use Rattle.qcow2_alloc.proofs.Growth.LongerReftables.{covers-inside, covers-before}
use Rattle.qcow2_alloc.proofs.GuestView.QuietPremises.{quietly-given}
use Rattle.qcow2_alloc.proofs.GuestView.QuietSequences.{quietly-then, quietly-otherwise}
use Rattle.qcow2_alloc.proofs.Flushing.FaultlessCalls.{never-mild, faultless-then, put-faultless}
use Rattle.qcow2_alloc.proofs.Blocks.BlockCreationCalls.{first-counted}
use Rattle.qcow2_alloc.proofs.Caching.UnpinnedCaches.{loose-named, name-kept}
use Rattle.qcow2_alloc.proofs.Memory.MemoryWords.{places-in-memory}
use Rattle.qcow2_alloc.proofs.Blocks.BlockNames.{count-none}
use Rattle.qcow2_alloc.proofs.GuestView.QuietFlushes.{quietly-weaker}
use Rattle.qcow2_alloc.proofs.Growth.RoomSwitches.{part_named, old_run, old-run-is, old-run-unused, part-is, header-is, pointer-quietly, waits-quietly, counts-filled}
use Rattle.qcow2_types.proofs.Counting.Parts.{block-inside}
use Rattle.qcow2_alloc.proofs.Memory.Patches.{shaped-in}
use Rattle.qcow2_alloc.proofs.Growth.RoomAcquisition.{Given, ours, ours-unused, sound-then}
use Rattle.qcow2_alloc.proofs.Growth.FillRefusals.{not-filled}
use Rattle.qcow2_alloc.proofs.Growth.CopyWrites.{table-written}

pub some-clusters : (m : Metadata) → IsSound m → m.header.fields.refcount_table_clusters ≢ 0
some-clusters m sound none =
    let some = first-counted m sound in
    let places = places-in-memory m.file m.header sound.well_formed.consistent m.cached sound.well_formed.tables sound.well_formed.blocks in
    elim (cases_eq (block_at m.file m.header.fields (0 / counters_of_block m.header.fields)) 0) [
      | inl empty ↦
          let zero = count-none (in_memory m) m.header.fields 0 (places.blocks (0 / counters_of_block m.header.fields) ∙ empty) in
          omega (arith, some, zero)
      | inr there ↦
          let inside = block-inside m.file m.header.fields (0 / counters_of_block m.header.fields) there in
          let zero : m.header.fields.refcount_table_clusters * entries_of_cluster m.header.fields ≡ 0 * entries_of_cluster m.header.fields = ap (λ c. c * entries_of_cluster m.header.fields) none in
          omega (arith, inside, zero)
    ]

table-run-is : (h h' : Fields) → h' ≡ h → h'.refcount_table_clusters ≢ 0 → table_run h ≡ run_of (h'.refcount_table_offset / cluster_size h') h'.refcount_table_clusters ∷ []
table-run-is h h' same some = ap (λ (x : Fields). table_run x) (sym same) ∙ rw (ne_eqb h'.refcount_table_clusters 0 some) refl

module _ {S : Type 0} (state : S → StorageState) (image : ImageState S) (run : Run) (copy : TableValue)
    (known : Type 0) (free : known → (order_of image.caches ≡ L2DependsOnRb) × IsUncounted (metadata state image) run)
    (C : MetadataCaches S) (fC : ImageFile S) (takes : TakesFreeArea state run image succeeded (image_state image.table C fC image.pending)) (plan : IsPlan fC.header.fields image.table run copy)
    (mid : S) (put : WriteOutcome {T = Unit {0}} (state fC.image) (state mid) (table_start copy) (table_bytes copy.raw_entries) (Ok tt))
    (fit : FirstFieldsFit (naming_table fC.header copy).fields) (sizes : first_fault (rules_of_size fC.header.fields) ≡ None → first_fault (rules_of_size (naming_table fC.header copy).fields) ≡ None)
    (after : ImageFile S) (result : Result Unit Fault) (pointed : AtomicWriteOutcome (state mid) (state after.image) 0 (first_bytes (naming_table fC.header copy).fields) result) where
  abbrev between : ImageFile S
  between = record { image = mid; header = fC.header }

  abbrev m0 : Metadata
  m0 = metadata state image

  abbrev m4 : Metadata
  m4 = metadata_of state fC C image.table image.pending

  abbrev m5 : Metadata
  m5 = metadata_of state between C image.table image.pending

  abbrev Known : Type 0
  Known = Given state image run

  abbrev n : ℕ
  n = clusters_of copy fC.header.fields.cluster_bits

  abbrev mine : ℕ → ℕ
  mine = ours state image run

  abbrev copied : TableValue
  copied = record copy { modified = false }

  abbrev place : ℕ
  place = run.first + rank (lacks image.table (counters_of_block fC.header.fields) run.first run.len) (length copy.raw_entries)

  abbrev at5 : CountsReferenced state run.first run.len image succeeded (image_state image.table C between image.pending)
  at5 = table-written state image run copy C fC takes plan mid succeeded put

  abbrev handed : ℕ → ℕ
  handed = named_part image.table (counters_of_block image.file.header.fields) run.first at5.part

  sound4 : Known → IsSound m4
  sound4 = sound-then state image run C fC takes.counts

  taken4 : Known → IsTaken m4 run
  taken4 given = takes.taken given.1 given.0 given.2 given.3

  keeps4 : Known → IsTrue (state fC.image).shape.keeps
  keeps4 given = keeps_on (state image.file.image) (state fC.image) takes.counts.shape given.0

  low4 : Known → 9 ≤ fC.header.fields.cluster_bits
  low4 given = (shaped-in m4.file m4.header (sound4 given).well_formed.consistent).low

  used4 : (c : ℕ) → run.first ≤ c → c < run.first + run.len → 0 < mine c
  used4 c from to = let one = covers-inside c run.first run.len from to in omega (arith, one)

  unlisted4 : Known → (c : ℕ) → run.first ≤ c → c < run.first + run.len → waiting m4 c ≡ 0
  unlisted4 given c from to = (uncounted-free m0 given.2 given.1 c (given.3 c from to)).1

  -- The allocated part of the run, once all of it is counted.
  part-whole : (part : ℕ) → part ≡ run.len → (c : ℕ) → named_part image.table (counters_of_block image.file.header.fields) run.first part c ≡ part_named image.table (counters_of_block fC.header.fields) run c
  part-whole part all c =
      ap (λ p. named_part image.table (counters_of_block image.file.header.fields) run.first p c) all
      ∙ ap (λ (h : Header). part_named image.table (counters_of_block h.fields) run c) (sym takes.counts.header)

  counts4 : Known → (c : ℕ) → counted m4 c ≡ counted m0 c + part_named image.table (counters_of_block fC.header.fields) run c
  counts4 given c = takes.counts.raised given.1 given.0 given.2 given.3 tt c ∙ ap (λ p. counted m0 c + p) (part-whole takes.counts.part takes.counts.whole c)

  pointer : (given : Known) → PreservesGuest (result ≡ Ok tt) (formerly m5) (newly_counted m5 place n) (state mid) m5 (state after.image) (with_table m5 copied place n (bytes_of (state after.image).bytes))
  pointer given =
      pointer-quietly m4 run n copy (sound4 given) (low4 given) plan.grown plan.room (taken4 given) (state fC.image) (state mid) refl (keeps4 given) put mine used4 (unlisted4 given) (counted m0) (counts4 given) given.3
      fit refl sizes (state after.image) result pointed

  names-kept : (i key : ℕ) → referenced_block image.table i ≡ Some key → referenced_block copied i ≡ Some key
  names-kept i key = name-kept image.table copied i key (ap (λ (l : Layout). l.cluster_bits) plan.grown.layout ∙ sym plan.bits) (λ some. plan.grown.olds i (rw (ne_eqb (block_offset (slice_index image.table.raw_entries i)) 0 some) refl))

  shape5 : (state after.image).shape ≡ (state image.file.image).shape
  shape5 = pointed.put.shape ∙ at5.shape

  later5 : CountsNotFallen (state image.file.image) (state after.image)
  later5 = later_both _ _ _ at5.counts_not_fallen pointed.put.counts_not_fallen

  faults5 : (state mid).faults ≡ (state image.file.image).faults
  faults5 = at5.cause

  -- Writing the header's pointer fails, with a resource error.
  pub not-pointed : (fault : Fault) → result ≡ Err fault → (table' : TableValue) → table' ≡ image.table → MovedTable fC.header after.header → FillsFreeArea state known run copy image (failed fault) (image_state table' C after image.pending)
  not-pointed fault is table' same moved =
      let cause : Cause (state mid).faults (state after.image).faults fault = put-refused (state mid) (state after.image) 0 (first_bytes (naming_table fC.header copy).fields) result pointed.put fault is in
      record {
        leaked = λ _. 0;
        leaks = record { none = λ not c. refl; pinned = λ sound loose c. refl };
        shape = shape5;
        counts_not_fallen = later5;
        faults = λ not_resource_error. absurd (never-mild _ _ fault cause not_resource_error);
        guest_unchanged = λ e. quietly-given (IsNotResourceError fault) (λ _. 0) (λ _. 0) (state image.file.image) m0 (state after.image) (metadata_of state after C table' image.pending) shape5 later5 (λ keeps sound.
            let given : Known = (keeps, (free e).0, sound, (free e).1) in
            let q = quietly-then ⊤ (result ≡ Ok tt) handed (λ _. 0) (formerly m5) (newly_counted m5 place n) (state image.file.image) m0 (state mid) m5 (state after.image) (with_table m5 copied place n (bytes_of (state after.image).bytes)) tt
            (λ s c some. refl) (at5.guest_unchanged (free e).0 (λ s. (free e).1)) (pointer given) in
            record { shape = shape5; counts_not_fallen = later5; passes = q.passes; holds = λ k s not_resource_error. absurd (never-mild _ _ fault cause not_resource_error) });
        raised = λ e keeps sound not_resource_error. absurd (never-mild _ _ fault cause not_resource_error);
        order = takes.counts.order;
        moved = subst (λ (h : Header). MovedTable h after.header) takes.counts.header moved;
        longer = subst (λ (t : TableValue). length image.table.raw_entries ≤ length t.raw_entries) (sym same) (omega arith);
        keeps_unpinned_room = λ any loose. subst (λ (t : TableValue). HasUnpinnedRoom t C any) (sym same) (takes.counts.keeps_unpinned_room any loose);
        room = takes.counts.room;
        counts = λ e keeps sound. tt;
        table_is = tt;
        stays = λ not_resource_error. absurd (never-mild _ _ fault cause not_resource_error);
        cause = storage-cause _ _ _ (omega (arith, faults5)) (omega arith) fault cause;
      }
    where
      put-refused : (a b : StorageState) (at : ℕ) (bytes : List ℕ) (r : Result Unit Fault) → WriteOutcome a b at bytes r → (fault : Fault) → r ≡ Err fault → Cause a.faults b.faults fault
      put-refused a b at bytes (Ok v) put fault is = absurd (cc is)
      put-refused a b at bytes (Err other) put fault is = subst (λ (f : Fault). Cause a.faults b.faults f) (let e = is in cc) put.answer.cause

  -- The pointer is written: the copy is now the image's table.
  module _ (done : result ≡ Ok tt) (table' : TableValue) (same : table' ≡ copied) (header : after.header ≡ naming_table fC.header copy) where
    abbrev then_waits : List FreeEntry
    then_waits = image.pending ++ table_run image.file.header.fields

    abbrev M : Metadata
    M = metadata_of state after C table' then_waits

    abbrev m7 : Metadata
    m7 = record (with_table m5 copied place n (bytes_of (state after.image).bytes)) { pending = image.pending ++ old_run m4 ∷ [] }

    to-after : Known → (P : Metadata → Type 0) → P m7 → P M
    to-after given P p =
        let there : after.header ≡ with_refcount_table fC.header (place * cluster_size fC.header.fields) n =
        header ∙ header-is m4 run n copy (sound4 given) (low4 given) plan.grown plan.room (taken4 given) (state fC.image) (state mid) refl (keeps4 given) put mine used4 (unlisted4 given) (counted m0) (counts4 given) given.3
        fit refl sizes (state after.image) result pointed in
        let waits : table_run image.file.header.fields ≡ old_run m4 ∷ [] = table-run-is image.file.header.fields fC.header.fields (ap (λ (h : Header). h.fields) takes.counts.header) (some-clusters m4 (sound4 given)) in
        subst (λ (l : List FreeEntry). P (metadata_of state after C table' (image.pending ++ l))) (sym waits)
        (subst (λ (t : TableValue). P (metadata_of state after C t (image.pending ++ old_run m4 ∷ []))) (sym same)
        (subst (λ (h : Header). P (record { file = bytes_of (state after.image).bytes; header = h; cached = cached_in C; order = order_of C; table = copied; pending = image.pending ++ old_run m4 ∷ [] })) (sym there) p))

    sound5 : Known → IsSound m5
    sound5 given = sound-then state image run C between at5 given

    same5 : Known → (c : ℕ) → counted m5 c ≡ counted m4 c
    same5 given c =
        at5.raised given.1 given.0 given.2 given.3 tt c ∙ ap (λ p. counted m0 c + p) (part-whole at5.part at5.whole c) ∙ sym (counts4 given c)

    keeps5 : Known → IsTrue (state mid).shape.keeps
    keeps5 given = keeps_on (state image.file.image) (state mid) at5.shape given.0

    pub counts-all : Known → (c : ℕ) → counted M c ≡ counted m0 c + covers c (run_of run.first run.len)
    counts-all given c = to-after given (λ m. counted m c ≡ counted m0 c + covers c (run_of run.first run.len))
        (counts-filled m4 run n copy (sound4 given) (low4 given) plan.grown plan.room (taken4 given) (state fC.image) (state mid) refl (keeps4 given) put mine used4 (unlisted4 given) (counted m0) (counts4 given) given.3
        fit refl sizes (state after.image) result pointed (keeps5 given) (sound5 given) done (same5 given) c)

    handed-is : Known → (c : ℕ) → handed c ≡ newly_counted m5 place n c
    handed-is given c =
        part-whole at5.part at5.whole c
        ∙ sym (part-is m4 run n copy (sound4 given) (low4 given) plan.grown plan.room (taken4 given) (state fC.image) (state mid) refl (keeps4 given) put mine used4 (unlisted4 given) (counted m0) (counts4 given) given.3 (sound5 given) c)

    formerly-is : Known → (c : ℕ) → covers c (old_run m4) ≡ formerly m5 c
    formerly-is given c = old-run-is m4 (sound4 given) c

    unused : (given : Known) → (c : ℕ) → IsUsed m0 c → (newly_counted m5 place n c ≡ 0) × (covers c (old_run m4) ≡ 0)
    unused given c used = (
      (let is = handed-is given c in let whole = part-whole at5.part at5.whole c in let mine_none = ours-unused state image run given.3 c used in
          let few = part-few (block_offset (slice_index image.table.raw_entries (c / counters_of_block fC.header.fields))) (covers c (run_of run.first run.len)) in omega (arith, is, whole, mine_none, few)),
      (let off = old-run-unused m0 c used in
          let there : formerly m5 c ≡ formerly m0 c = ap (λ (h : Header). meets h.fields c h.fields.refcount_table_offset (h.fields.refcount_table_clusters * cluster_size h.fields)) takes.counts.header in
          let is = formerly-is given c in omega (arith, off, there, is)),
    )
      where
        part-few : (w x : ℕ) → (if w == 0 then 0 else x) ≤ x
        part-few w x = elim (cases_eq w 0) [
          | inl none ↦ rw none (omega arith)
          | inr some ↦ rw (ne_eqb w 0 some) (omega arith)
        ]

    quiet-all : known → PreservesGuest ⊤ (λ _. 0) (λ _. 0) (state image.file.image) m0 (state after.image) M
    quiet-all e =
        quietly-given ⊤ (λ _. 0) (λ _. 0) (state image.file.image) m0 (state after.image) M shape5 later5 (λ keeps sound.
        let given : Known = (keeps, (free e).0, sound, (free e).1) in
        let last = waits-quietly m4 run n copy (sound4 given) (low4 given) plan.grown plan.room (taken4 given) (state fC.image) (state mid) refl (keeps4 given) put mine used4 (unlisted4 given) (counted m0) (counts4 given) given.3
        fit refl sizes (state after.image) result pointed in
        let so : PreservesGuest ⊤ (formerly m5) (λ c. newly_counted m5 place n c + covers c (old_run m4)) (state mid) m5 (state after.image) m7 = quietly-weaker (result ≡ Ok tt) ⊤ _ _ _ _ _ _ (λ s v. done) last in
        to-after given (λ m. PreservesGuest ⊤ (λ _. 0) (λ _. 0) (state image.file.image) m0 (state after.image) m)
        (quietly-otherwise ⊤ (λ c. handed c + formerly m5 c) (λ c. 0 + (newly_counted m5 place n c + covers c (old_run m4))) (λ _. 0) (λ _. 0) (state image.file.image) m0 (state after.image) m7
        (λ s c. let is = handed-is given c in let was = formerly-is given c in omega (arith, is, was))
        (λ s c used none. let off = unused given c used in omega (arith, off.0, off.1))
        (quietly-then ⊤ ⊤ handed (λ _. 0) (formerly m5) (λ c. newly_counted m5 place n c + covers c (old_run m4)) (state image.file.image) m0 (state mid) m5 (state after.image) m7 tt (λ s c some. refl) (at5.guest_unchanged (free e).0 (λ s. (free e).1)) so)))

    pub filled : FillsFreeArea state known run copy image succeeded (image_state table' C after then_waits)
    filled = record {
      leaked = λ _. 0;
      leaks = record { none = λ not c. refl; pinned = λ sound loose c. refl };
      shape = shape5;
      counts_not_fallen = later5;
      faults = λ whole. faultless-then (at5.faults tt) (put-faultless (state mid) (state after.image) _ _ result pointed.put (subst (λ (r : Result Unit Fault). HadNoResourceError r) (sym done) tt));
      guest_unchanged = quiet-all;
      raised = λ e keeps sound whole c.
          let given : Known = (keeps, (free e).0, sound, (free e).1) in
          run-raised (counted m0 c) (counted M c) run.first run.len c (λ from to. given.3 c from to) (counts-all given c);
      order = takes.counts.order;
      moved = subst (λ (h : Header). MovedTable h after.header) takes.counts.header (table_start copy, n, header);
      longer = subst (λ (t : TableValue). length image.table.raw_entries ≤ length t.raw_entries) (sym same) plan.grown.longer;
      keeps_unpinned_room = λ any loose. subst (λ (t : TableValue). HasUnpinnedRoom t C any) (sym same) (loose-named image.table copied C names-kept any (takes.counts.keeps_unpinned_room any loose));
      room = takes.counts.room;
      counts = λ e keeps sound. counts-all (keeps, (free e).0, sound, (free e).1);
      table_is = same;
      stays = tt;
      cause = faults-on (state mid) (state after.image) result pointed.put done ∙ faults5;
    }
      where
        faults-on : (a b : StorageState) (r : Result Unit Fault) {at : ℕ} {bytes : List ℕ} → WriteOutcome a b at bytes r → r ≡ Ok tt → b.faults ≡ a.faults
        faults-on a b (Ok v) put is = put.answer.faults
        faults-on a b (Err fault) put is = absurd (cc is)

        run-raised : (a b first len c : ℕ) → (first ≤ c → c < first + len → a ≡ 0) → b ≡ a + covers c (run_of first len) → (b ≡ a) ⊎ ((a ≡ 0) × (b ≡ 1))
        run-raised a b first len c zero is = elim (cases_lt c first) [
          | inl lt ↦ inl (let none = covers-before c first len lt in omega (arith, is, none))
          | inr from ↦ elim (cases_lt c (first + len)) [
            | inl to ↦ let one = covers-inside c first len from to in let was = zero from to in inr (was, omega (arith, is, one, was))
            | inr past ↦ inl (let none = covers-behind c first len past in omega (arith, is, none))
          ]
        ]

-- The whole call: the free area is taken, then the table moves.
pub room-filled : {S : Type 0} (state : S → StorageState) (s : ImageState S) (run : Run) (copy : TableValue)
    (known : Type 0) (free : known → (order_of s.caches ≡ L2DependsOnRb) × IsUncounted (metadata state s) run)
    (C : MetadataCaches S) (fC : ImageFile S) (takes : TakesFreeArea state run s succeeded (image_state s.table C fC s.pending)) (plan : IsPlan fC.header.fields s.table run copy)
    (result : Result Unit Fault) (table' : TableValue) (after : ImageFile S) → MovesTable state copy s.table fC result table' after → FillsFreeArea state known run copy s result (image_state table' C after (waiting_then result s.file.header.fields s.pending))
room-filled {S} state s run copy known free C fC takes plan result table' after moves = by-done moves.done refl
  where
    put-as : (d : Result Unit Fault) → moves.done ≡ d → WriteOutcome (state fC.image) (state moves.mid) (table_start copy) (table_bytes copy.raw_entries) d
    put-as d is = subst (λ (r : Result Unit Fault). WriteOutcome (state fC.image) (state moves.mid) (table_start copy) (table_bytes copy.raw_entries) r) is moves.put

    by-result : (r : Result Unit Fault) → result ≡ r → moves.done ≡ Ok tt → FillsFreeArea state known run copy s result (image_state table' C after (waiting_then result s.file.header.fields s.pending))
    by-result (Ok v) is done =
        let both = subst (λ (r : Result Unit Fault). OnOk r ((table' ≡ record copy { modified = false }) × (after.header ≡ naming_table fC.header copy))) is moves.ok in
        subst (λ (r : Result Unit Fault). FillsFreeArea state known run copy s r (image_state table' C after (waiting_then r s.file.header.fields s.pending))) (sym is)
        (filled state s run copy known free C fC takes plan moves.mid (put-as (Ok tt) done) (moves.fit done) (moves.sizes done) after result (moves.pointed done) is table' both.0 both.1)
    by-result (Err fault) is done =
        let both = subst (λ (r : Result Unit Fault). OnErr r ((table' ≡ s.table) × MovedTable fC.header after.header)) is moves.err in
        subst (λ (r : Result Unit Fault). FillsFreeArea state known run copy s r (image_state table' C after (waiting_then r s.file.header.fields s.pending))) (sym is)
        (not-pointed state s run copy known free C fC takes plan moves.mid (put-as (Ok tt) done) (moves.fit done) (moves.sizes done) after result (moves.pointed done) fault is table' both.0 both.1)

    by-done : (d : Result Unit Fault) → moves.done ≡ d → FillsFreeArea state known run copy s result (image_state table' C after (waiting_then result s.file.header.fields s.pending))
    by-done (Ok v) is = by-result result refl is
    by-done (Err fault) is =
        let stop = moves.stopped fault is in
        let both = subst (λ (r : Result Unit Fault). OnErr r ((table' ≡ s.table) × MovedTable fC.header after.header)) stop.0 moves.err in
        subst (λ (r : Result Unit Fault). FillsFreeArea state known run copy s r (image_state table' C after (waiting_then r s.file.header.fields s.pending))) (sym stop.0)
        (subst (λ (t : TableValue). FillsFreeArea state known run copy s (failed fault) (image_state t C after s.pending)) (sym both.0)
        (subst (λ (f : ImageFile S). FillsFreeArea state known run copy s (failed fault) (image_state s.table C f s.pending)) (sym stop.1)
        (not-filled state s run copy known free fault C (record { image = moves.mid; header = fC.header }) (table-written state s run copy C fC takes plan moves.mid (failed fault) (put-as (failed fault) is)))))
