-- Incrementing the refcounts of consecutive clusters, in order.
use Rattle.std.proofs.Common.{◌≡◌, ◌≢◌, ℕ, ◌+◌, ◌/◌, ◌<◌, ◌≤◌, refl, arith, ap, sym, subst, ◌∙◌, List, Result, Ok, Err, Bool, true, false, inl, inr}
use Rattle.std.specs.Prelude.{⊤, ◌==◌, if◌then◌else◌, IsTrue, slice_index, OnOk}
use Rattle.std.proofs.lemmas.Bool.{cases_eq, ne_eqb}
use Rattle.std.proofs.lemmas.Bool.Decides.{nat_tests}
use Rattle.imago_storage.specs.State.{StorageState}
use Rattle.imago_storage.specs.declared.fault.Fault.{Fault}
use Rattle.imago_storage.proofs.Composing.{keeps_on, later_both, later_same}
use Rattle.qcow2_types.specs.Header.{Header}
use Rattle.qcow2_types.specs.Words.{block_offset}
use Rattle.qcow2_types.specs.Counts.{counters_of_block}
use Rattle.qcow2_types.specs.Pending.{FreeEntry}
use Rattle.qcow2_metadata.specs.Tables.{TableValue}
use Rattle.qcow2_alloc.specs.declared.cache.CacheDependency.TheVariants.{L2DependsOnRb}
use Rattle.qcow2_alloc.specs.declared.cache.MetadataCaches.{MetadataCaches}
use Rattle.qcow2_alloc.specs.declared.file.ImageFile.{ImageFile}
use Rattle.qcow2_alloc.specs.Allocating.{CountsPart, CountsRun, CountsReferenced, named_part}
use Rattle.qcow2_alloc.specs.Allocators.{metadata_of}
use Rattle.qcow2_alloc.specs.Caches.{order_of}
use Rattle.qcow2_alloc.specs.FreeList.{covers}
use Rattle.qcow2_alloc.specs.Going.{HadNoResourceError}
use Rattle.qcow2_alloc.specs.MakingRoom.{run_of}
use Rattle.qcow2_alloc.specs.GuestView.{Metadata, IsSound, counted}
use Rattle.qcow2_alloc.specs.State.{image_state}
use Rattle.qcow2_alloc.proofs.Causes.{cause-weaker, fails-weaker}
use Rattle.qcow2_alloc.proofs.Blocks.ClusterCounts.{succeeded}
use Rattle.qcow2_alloc.proofs.Flushing.FaultlessCalls.{faultless-then}
use Rattle.qcow2_alloc.proofs.Freeing.EntryFrees.{failed, counting-weaker}
use Rattle.qcow2_alloc.proofs.Freeing.ClusterOccurrences.{covers-none}
use Rattle.qcow2_alloc.proofs.GuestView.QuietFlushes.{memory-quietly, quiet-none}
use Rattle.qcow2_alloc.proofs.GuestView.QuietPremises.{quietly-then-given}
use Rattle.qcow2_alloc.proofs.GuestView.QuietSequences.{quietly-otherwise, quiet-otherwise}

pub covers-join : (c first n k : ℕ) → covers c (run_of first n) + covers c (run_of (first + n) k) ≡ covers c (run_of first (n + k))
covers-join c first n k = grind (arith, nat_tests)

pub covers-behind : (c first n : ℕ) → first + n ≤ c → covers c (run_of first n) ≡ 0
covers-behind c first n le = grind (arith, nat_tests)

-- 1 if cluster `c` is among the first `part` clusters from `first` on and isn't skipped, else 0.
abbrev pub part_of : (ℕ → Bool) → ℕ → ℕ → ℕ → ℕ
part_of passed first part c = if passed c then 0 else covers c (run_of first part)

part-none : (b : Bool) (c first : ℕ) → (if b then 0 else covers c (run_of first 0)) ≡ 0
part-none true c first = refl
part-none false c first = covers-none c (run_of first 0) refl

part-join : (b : Bool) (c first n k : ℕ) → (if b then 0 else covers c (run_of first n)) + (if b then 0 else covers c (run_of (first + n) k)) ≡ (if b then 0 else covers c (run_of first (n + k)))
part-join true c first n k = refl
part-join false c first n k = covers-join c first n k

part-behind : (b : Bool) (c first n : ℕ) → first + n ≤ c → (if b then 0 else covers c (run_of first n)) ≡ 0
part-behind true c first n le = refl
part-behind false c first n le = covers-behind c first n le

part-away : (b : Bool) (c d n : ℕ) → n ≤ 1 → d ≢ c → (if b then 0 else covers d (run_of c n)) ≡ 0
part-away true c d n le apart = refl
part-away false c d n le apart = grind (arith, nat_tests)

unnamed-part : (w n : ℕ) → w ≡ 0 → (if w == 0 then 0 else n) ≡ 0
unnamed-part w n none = rw none refl

named-part : (w n : ℕ) → w ≢ 0 → n ≡ (if w == 0 then 0 else n)
named-part w n some = rw (ne_eqb w 0 some) refl

-- Counting a run in which the clusters of `passed` are skipped. `ready` is a further fact about each counted cluster.
module _ {S : Type 0} (state : S → StorageState) (table : TableValue) (pending : List FreeEntry) (passed : ℕ → Bool) (ready : ℕ → Type 0) (first : ℕ) where
  abbrev At : MetadataCaches S → ImageFile S → Metadata
  At caches file = metadata_of state file caches table pending

  abbrev Keeps : ImageFile S → Type 0
  Keeps file = IsTrue (state file.image).shape.keeps

  -- The first `n` clusters of the run have refcount 0.
  abbrev Free : MetadataCaches S → ImageFile S → ℕ → Type 0
  Free caches file n = (d : ℕ) → first ≤ d → d < first + n → counted (At caches file) d ≡ 0

  -- `IsSound` holds, and the `k` clusters from `from` on have refcount 0 and are ready.
  abbrev Holds : ℕ → ℕ → MetadataCaches S → ImageFile S → Type 0
  Holds from k caches file = Keeps file × (order_of caches ≡ L2DependsOnRb) × IsSound (At caches file)
      × ((d : ℕ) → from ≤ d → d < from + k → (counted (At caches file) d ≡ 0) × ready d)

  -- Counting the `n` clusters from `from` on.
  abbrev Counts : ℕ → ℕ → MetadataCaches S → ImageFile S → Result Unit Fault → MetadataCaches S → ImageFile S → Type 0
  Counts from n old before result new after = CountsPart state (part_of passed from) ready from n (image_state table old before pending) result (image_state table new after pending)

  parts-still : (n part : ℕ) → part ≤ n → part ≡ n → ((d : ℕ) → part_of passed first part d ≡ 0) → (old : MetadataCaches S) (before : ImageFile S) → Counts first n old before succeeded old before
  parts-still n part inside whole none old before = record {
    part = part;
    inside = inside;
    whole = whole;
    shape = refl;
    counts_not_fallen = later_same (state before.image);
    faults = λ whole. (refl, refl);
    guest_unchanged = λ order free. memory-quietly (HadNoResourceError succeeded) (part_of passed first part) (λ _. 0) (state before.image) (At old before) (At old before) (λ sound whole. (
      sound,
      quiet-otherwise (At old before) (At old before) (λ _. 0) (λ _. 0) (part_of passed first part) (λ _. 0) (λ d. let zero = none d in omega (arith, zero)) (λ d used zero. zero) (quiet-none (At old before) sound),
    ));
    raised = λ order keeps sound free whole d. let zero = none d in omega (arith, zero);
    order = refl;
    header = refl;
    keeps_unpinned_room = λ any loose. loose;
    room = record { tables = refl; blocks = refl; entries = refl };
    cause = refl;
  }

  parts-none : (old : MetadataCaches S) (before : ImageFile S) → Counts first 0 old before succeeded old before
  parts-none old before = parts-still 0 0 (omega arith) refl (λ d. part-none (passed d) d first) old before

  parts-then : (n : ℕ) (A : MetadataCaches S) (fA : ImageFile S) (B : MetadataCaches S) (fB : ImageFile S) (result : Result Unit Fault) (C : MetadataCaches S) (fC : ImageFile S)
      → Counts first n A fA succeeded B fB → Counts (first + n) 1 B fB result C fC → Counts first (n + 1) A fA result C fC
  parts-then n A fA B fB result C fC one two =
      let all : one.part ≡ n = one.whole in
      let on : Keeps fA → Keeps fB = keeps_on (state fA.image) (state fB.image) one.shape in
      let le = two.inside in
      let within : Free A fA (n + 1) → Free A fA n = λ free d above below. free d above (omega (arith, below)) in
      let next : order_of A ≡ L2DependsOnRb → Keeps fA → IsSound (At A fA) → Free A fA (n + 1) → (d : ℕ) → first + n ≤ d → d < first + n + 1 → counted (At B fB) d ≡ 0 = λ order keeps sound free d above below.
      let was = free d (omega (arith, above)) (omega (arith, below)) in
      let more = one.raised order keeps sound (within free) tt d in
      let none = part-behind (passed d) d first one.part (omega (arith, all, above)) in
      omega (arith, was, more, none) in
      let joined : (d : ℕ) → part_of passed first one.part d + part_of passed (first + n) two.part d ≡ part_of passed first (n + two.part) d = λ d.
      subst (λ k. part_of passed first k d + part_of passed (first + n) two.part d ≡ part_of passed first (n + two.part) d) (sym all) (part-join (passed d) d first n two.part) in
      record {
        part = n + two.part;
        inside = omega (arith, le);
        whole = ended result two.part two.whole;
        shape = two.shape ∙ one.shape;
        counts_not_fallen = later_both (state fA.image) (state fB.image) (state fC.image) one.counts_not_fallen two.counts_not_fallen;
        faults = λ whole. faultless-then (one.faults tt) (two.faults whole);
        guest_unchanged = λ order free.
            quietly-otherwise (HadNoResourceError result) (λ d. part_of passed first one.part d + part_of passed (first + n) two.part d) (λ d. 0 + 0) (part_of passed first (n + two.part)) (λ _. 0)
            (state fA.image) (At A fA) (state fC.image) (At C fC) (λ sound d. let same = joined d in omega (arith, same)) (λ sound d used none. omega arith)
            (quietly-then-given (HadNoResourceError succeeded) (HadNoResourceError result) (part_of passed first one.part) (λ _. 0) (part_of passed (first + n) two.part) (λ _. 0)
            (state fA.image) (At A fA) (state fB.image) (At B fB) (state fC.image) (At C fC) tt (λ sound d some. refl) (one.guest_unchanged order (λ sound. within (free sound))) two.shape two.counts_not_fallen (λ keeps sound sound1 guest_unchanged.
            two.guest_unchanged (one.order ∙ order) (λ again. next order keeps sound (free sound))));
        raised = λ order keeps sound free whole d.
            let more = one.raised order keeps sound (within free) tt d in
            let mid = ((one.guest_unchanged order (λ s. within free)).holds keeps sound tt).0 in
            let last = two.raised (one.order ∙ order) (on keeps) mid (next order keeps sound free) whole d in
            let same = joined d in
            omega (arith, more, last, same);
        order = two.order ∙ one.order;
        header = two.header ∙ one.header;
        keeps_unpinned_room = λ any loose. two.keeps_unpinned_room any (one.keeps_unpinned_room any loose);
        room = record { tables = two.room.tables ∙ one.room.tables; blocks = two.room.blocks ∙ one.room.blocks; entries = two.room.entries ∙ one.room.entries };
        cause = fails-weaker _ _ (counting-weaker from one.keeps_unpinned_room one.cause) (λ same. same ∙ one.cause) result two.cause;
      }
    where
      ended : (r : Result Unit Fault) (k : ℕ) → OnOk r (k ≡ 1) → OnOk r (n + k ≡ n + 1)
      ended (Ok done) k is = ap (λ m. n + m) is
      ended (Err fault) k is = tt

      from : Holds first (n + 1) A fA → Holds (first + n) 1 B fB
      from holds =
          let mid = ((one.guest_unchanged holds.1 (λ s d above below. (holds.3 d above (omega (arith, below))).0)).holds holds.0 holds.2 tt).0 in (
            keeps_on (state fA.image) (state fB.image) one.shape holds.0,
            one.order ∙ holds.1,
            mid,
            λ d above below.
                let was = holds.3 d (omega (arith, above)) (omega (arith, below)) in
                let all : one.part ≡ n = one.whole in
                let more = one.raised holds.1 holds.0 holds.2 (λ e above' below'. (holds.3 e above' (omega (arith, below'))).0) tt d in
                let none = part-behind (passed d) d first one.part (omega (arith, all, above)) in
                let zero = was.0 in (
                  omega (arith, zero, more, none),
                  was.1,
                ),
          )

  -- A failure within a prefix is a failure of the longer run.
  parts-within : (n N : ℕ) → n ≤ N → (A : MetadataCaches S) (fA : ImageFile S) (fault : Fault) (B : MetadataCaches S) (fB : ImageFile S) → Counts first n A fA (failed fault) B fB → Counts first N A fA (failed fault) B fB
  parts-within n N le A fA fault B fB part =
      let few = part.inside in
      let within : Free A fA N → Free A fA n = λ free d above below. free d above (omega (arith, below, le)) in
      record {
        part = part.part;
        inside = omega (arith, few, le);
        whole = tt;
        shape = part.shape;
        counts_not_fallen = part.counts_not_fallen;
        faults = part.faults;
        guest_unchanged = λ order free. part.guest_unchanged order (λ sound. within (free sound));
        raised = λ order keeps sound free whole d. part.raised order keeps sound (within free) whole d;
        order = part.order;
        header = part.header;
        keeps_unpinned_room = part.keeps_unpinned_room;
        room = part.room;
        cause = cause-weaker (counting-weaker (λ holds. (holds.0, holds.1, holds.2, λ d above below. holds.3 d above (omega (arith, below, le)))) (λ any loose. loose) refl) fault part.cause;
      }

-- No cluster is skipped.
module _ {S : Type 0} (state : S → StorageState) (table : TableValue) (pending : List FreeEntry) (first : ℕ) where
  abbrev named_in : Header → ℕ → Type 0
  named_in h c = block_offset (slice_index table.raw_entries (c / counters_of_block h.fields)) ≢ 0

  pub run-none : (old : MetadataCaches S) (before : ImageFile S) → CountsRun state first 0 (image_state table old before pending) succeeded (image_state table old before pending)
  run-none old before = parts-none state table pending (λ c. false) (named_in before.header) first old before

  pub run-then : (n : ℕ) (A : MetadataCaches S) (fA : ImageFile S) (B : MetadataCaches S) (fB : ImageFile S) (result : Result Unit Fault) (C : MetadataCaches S) (fC : ImageFile S)
      → CountsRun state first n (image_state table A fA pending) succeeded (image_state table B fB pending) → CountsRun state (first + n) 1 (image_state table B fB pending) result (image_state table C fC pending) → CountsRun state first (n + 1) (image_state table A fA pending) result (image_state table C fC pending)
  run-then n A fA B fB result C fC one two =
      parts-then state table pending (λ c. false) (named_in fA.header) first n A fA B fB result C fC one
      (subst (λ (h : Header). CountsPart state (part_of (λ c. false) (first + n)) (named_in h) (first + n) 1 (image_state table B fB pending) result (image_state table C fC pending)) one.header two)

  pub run-within : (n N : ℕ) → n ≤ N → (A : MetadataCaches S) (fA : ImageFile S) (fault : Fault) (B : MetadataCaches S) (fB : ImageFile S) → CountsRun state first n (image_state table A fA pending) (failed fault) (image_state table B fB pending) → CountsRun state first N (image_state table A fA pending) (failed fault) (image_state table B fB pending)
  run-within n N le A fA = parts-within state table pending (λ c. false) (named_in fA.header) first n N le A fA

-- Clusters without a block are skipped.
module _ {S : Type 0} (state : S → StorageState) (table : TableValue) (pending : List FreeEntry) where
  abbrev unnamed_in : Header → ℕ → Bool
  unnamed_in h c = block_offset (slice_index table.raw_entries (c / counters_of_block h.fields)) == 0

  pub named-run-none : (first : ℕ) (old : MetadataCaches S) (before : ImageFile S) → CountsReferenced state first 0 (image_state table old before pending) succeeded (image_state table old before pending)
  named-run-none first old before = parts-none state table pending (unnamed_in before.header) (λ c. ⊤) first old before

  pub named-run-then : (first n : ℕ) (A : MetadataCaches S) (fA : ImageFile S) (B : MetadataCaches S) (fB : ImageFile S) (result : Result Unit Fault) (C : MetadataCaches S) (fC : ImageFile S)
      → CountsReferenced state first n (image_state table A fA pending) succeeded (image_state table B fB pending) → CountsReferenced state (first + n) 1 (image_state table B fB pending) result (image_state table C fC pending) → CountsReferenced state first (n + 1) (image_state table A fA pending) result (image_state table C fC pending)
  named-run-then first n A fA B fB result C fC one two =
      parts-then state table pending (unnamed_in fA.header) (λ c. ⊤) first n A fA B fB result C fC one
      (subst (λ (h : Header). CountsPart state (part_of (unnamed_in h) (first + n)) (λ c. ⊤) (first + n) 1 (image_state table B fB pending) result (image_state table C fC pending)) one.header two)

  pub named-run-within : (first n N : ℕ) → n ≤ N → (A : MetadataCaches S) (fA : ImageFile S) (fault : Fault) (B : MetadataCaches S) (fB : ImageFile S) → CountsReferenced state first n (image_state table A fA pending) (failed fault) (image_state table B fB pending) → CountsReferenced state first N (image_state table A fA pending) (failed fault) (image_state table B fB pending)
  named-run-within first n N le A fA = parts-within state table pending (unnamed_in fA.header) (λ c. ⊤) first n N le A fA

  pub passed-over : (c : ℕ) (old : MetadataCaches S) (before : ImageFile S) → block_offset (slice_index table.raw_entries (c / counters_of_block before.header.fields)) ≡ 0 → CountsReferenced state c 1 (image_state table old before pending) succeeded (image_state table old before pending)
  passed-over c old before none =
      let nothing : (d : ℕ) → named_part table (counters_of_block before.header.fields) c 1 d ≡ 0 = λ d. elim (cases_eq d c) [
        | inl same ↦ subst (λ n. named_part table (counters_of_block before.header.fields) c 1 n ≡ 0) (sym same) (unnamed-part _ (covers c (run_of c 1)) none)
        | inr apart ↦ part-away (unnamed_in before.header d) c d 1 (omega arith) apart
      ] in
      parts-still state table pending (unnamed_in before.header) (λ e. ⊤) c 1 1 (omega arith) refl nothing old before

  -- A cluster with a block is counted.
  module _ (c : ℕ) (old : MetadataCaches S) (before : ImageFile S) where
    abbrev Named : ℕ → Type 0
    Named d = block_offset (slice_index table.raw_entries (d / counters_of_block before.header.fields)) ≢ 0

    abbrev Could : (ℕ → Type 0) → Type 0
    Could ready = IsTrue (state before.image).shape.keeps × (order_of old ≡ L2DependsOnRb) × IsSound (metadata_of state before old table pending)
        × ((d : ℕ) → c ≤ d → d < c + 1 → (counted (metadata_of state before old table pending) d ≡ 0) × ready d)

    only : (d : ℕ) → c ≤ d → d < c + 1 → c ≡ d
    only d above below = omega (arith, above, below)

    named-ready : Named c → Could (λ d. ⊤) → Could Named
    named-ready some holds = (holds.0, holds.1, holds.2, λ d above below. ((holds.3 d above below).0, subst Named (only d above below) some))

    pub counted-named : (result : Result Unit Fault) (new : MetadataCaches S) (after : ImageFile S) → Named c → CountsRun state c 1 (image_state table old before pending) result (image_state table new after pending) → CountsReferenced state c 1 (image_state table old before pending) result (image_state table new after pending)
    counted-named result new after some run =
        let le = run.inside in
        let same : (d : ℕ) → covers d (run_of c run.part) ≡ named_part table (counters_of_block before.header.fields) c run.part d = λ d. elim (cases_eq d c) [
          | inl same ↦ subst (λ n. covers n (run_of c run.part) ≡ named_part table (counters_of_block before.header.fields) c run.part n) (sym same) (named-part _ (covers c (run_of c run.part)) some)
          | inr apart ↦ part-away false c d run.part le apart ∙ sym (part-away (unnamed_in before.header d) c d run.part le apart)
        ] in
        record {
          part = run.part;
          inside = run.inside;
          whole = run.whole;
          shape = run.shape;
          counts_not_fallen = run.counts_not_fallen;
          faults = run.faults;
          guest_unchanged = λ order free.
              quietly-otherwise (HadNoResourceError result) (λ d. covers d (run_of c run.part)) (λ _. 0) (named_part table (counters_of_block before.header.fields) c run.part) (λ _. 0)
              (state before.image) (metadata_of state before old table pending) (state after.image) (metadata_of state after new table pending) (λ sound d. let is = same d in omega (arith, is)) (λ sound d used none. none) (run.guest_unchanged order free);
          raised = λ order keeps sound free whole d. let is = same d in let more = run.raised order keeps sound free whole d in omega (arith, is, more);
          order = run.order;
          header = run.header;
          keeps_unpinned_room = run.keeps_unpinned_room;
          room = run.room;
          cause = fails-weaker _ _ (counting-weaker (named-ready some) (λ any loose. loose) refl) (λ same. same) result run.cause;
        }
