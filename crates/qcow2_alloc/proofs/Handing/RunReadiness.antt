-- Searching for a run of clusters and readying it, turn by turn.
use Rattle.std.proofs.Common.{◌≡◌, ◌≢◌, ℕ, ◌+◌, ◌-◌, ◌*◌, ◌/◌, ◌^◌, ◌<◌, ◌≤◌, refl, arith, ap, sym, subst, ◌∙◌, ◌++◌, List, length, true, Result, Ok, Err, inl, inr}
use Rattle.std.specs.Prelude.{⊤, ◌⊎◌, min, IsTrue, slice_index, ◌==◌}
use Rattle.std.proofs.lemmas.Bool.{cases_lt}
use Rattle.std.proofs.lemmas.List.Sums.{count_by-le-length}
use Rattle.std.proofs.lemmas.Nat.{le-div}
use Rattle.std.proofs.Math.Nat.{div-mul-le_self, mul-le-mul, mul-le-mul_right}
use Rattle.imago_storage.specs.State.{StorageState}
use Rattle.imago_storage.specs.declared.fault.Fault.{Fault}
use Rattle.imago_storage.specs.declared.fault.Fault.TheVariants.{Limit}
use Rattle.imago_storage.proofs.Composing.{keeps_on}
use Rattle.qcow2_types.specs.Counts.{counters_of_block}
use Rattle.qcow2_types.specs.Header.{Header, cluster_size}
use Rattle.qcow2_types.specs.Pending.{FreeEntry}
use Rattle.qcow2_types.specs.Words.{block_offset}
use Rattle.qcow2_types.proofs.Fields.HeaderLimits.{header-limited}
use Rattle.qcow2_metadata.specs.Places.{IsAddressable}
use Rattle.qcow2_metadata.specs.Tables.{TableValue}
use Rattle.qcow2_alloc.specs.declared.allocation.readying_runs.Provision.{Provision}
use Rattle.qcow2_alloc.specs.declared.allocation.readying_runs.Provision.TheVariants.{Complete, Extended}
use Rattle.qcow2_alloc.specs.declared.cache.CacheDependency.TheVariants.{L2DependsOnRb}
use Rattle.qcow2_alloc.specs.declared.cache.MetadataCaches.{MetadataCaches}
use Rattle.qcow2_alloc.specs.declared.file.ImageFile.{ImageFile}
use Rattle.qcow2_alloc.specs.Allocating.{Allocating, MovedTable, missing}
use Rattle.qcow2_alloc.specs.Allocators.{metadata_of}
use Rattle.qcow2_alloc.specs.Caches.{order_of, cached_file}
use Rattle.qcow2_alloc.specs.Causes.{HasCause}
use Rattle.qcow2_alloc.specs.GrowingTables.{IsLengthenedByTable, NoPlaceToGrow, table_run}
use Rattle.qcow2_alloc.specs.Going.{HadNoResourceError}
use Rattle.qcow2_alloc.specs.GuestView.{Metadata, IsSound, counted}
use Rattle.qcow2_alloc.specs.ReadyingBlocks.{CountsAsBefore, HasMore, NoneCanBeMade, ReadiesBlocks, fitting_causes, last_number}
use Rattle.qcow2_alloc.specs.ReadyingRuns.{IsRunTold, ReadiesRun}
use Rattle.qcow2_alloc.specs.SearchingClusters.{IsFirstRun, IsSafeWith, LooksForRun, counts_in}
use Rattle.qcow2_alloc.proofs.Freeing.EntryFrees.{unbarred-still}
use Rattle.qcow2_alloc.proofs.Causes.{bare-weaker, cause-weaker, cause-told}
use Rattle.qcow2_alloc.proofs.Handing.CountSequences.{allocating-none, allocating-then, allocating-as}
use Rattle.qcow2_alloc.proofs.Handing.BlocksBeforeTables.{no-place-as}
use Rattle.qcow2_alloc.proofs.Growth.RoomSearches.{first-run-same}
use Rattle.qcow2_alloc.proofs.Searching.SearchSequences.{counts-still}
use Rattle.qcow2_alloc.proofs.Searching.SearchesBeforeCounts.{looked-allocates, counts-looked}
use Rattle.qcow2_alloc.specs.Crowding.{IsCrowded, IsGapless, IsRoomy, TakesLittle, room_for}
use Rattle.qcow2_alloc.specs.State.{ImageState, image_state, metadata, IsGuarded, with_first_free, AllocatorState}
use Rattle.qcow2_alloc.proofs.Space.GaplessRuns.{gapless-same, gapless-then, made-gapless}
use Rattle.qcow2_alloc.proofs.Caching.UnpinnedCaches.{loose-all}
use Rattle.qcow2_alloc.proofs.Space.RoomyRuns.{RoomStays, stays-start, stays-searched, room-left, run-counted, run-early, run-fits, can-make, stays-made}
use Rattle.qcow2_alloc.proofs.Blocks.BlockCreationCalls.{first-counted, freeing-allocates}
use Rattle.qcow2_alloc.proofs.Blocks.RunProvision.{leaks-none, leaks-on, leaks-ok}

-- The list, the header and the table's length are unchanged. Or the table became longer, and its old clusters were added to the list.
abbrev pub IsLengthenedOnce : Header → Header → TableValue → TableValue → List FreeEntry → List FreeEntry → Type 0
IsLengthenedOnce H H' table table' old new = ((new ≡ old) × (H' ≡ H) × (length table'.raw_entries ≡ length table.raw_entries)) ⊎ ((length table.raw_entries < length table'.raw_entries) × (new ≡ old ++ table_run H.fields))

by-table : (H H' : Header) (table table' : TableValue) (old new : List FreeEntry) → IsLengthenedOnce H H' table table' old new → IsLengthenedByTable H.fields table table' old new
by-table H H' table table' old new (inl same) = inl same.0
by-table H H' table table' old new (inr longer) = inr longer

-- The state of a call that has counted clusters and allocated none of them, before any failure.
pub record Readying {S : Type 0} (state : S → StorageState) (s s' : ImageState S) : Type 0 where
  pub step : Allocating state ⊤ (λ _. 0) s s'
  pub list : IsLengthenedOnce s.file.header s'.file.header s.table s'.table s.pending s'.pending
  pub faults : (state s'.file.image).faults ≡ (state s.file.image).faults

between-blocks : (k first n c : ℕ) → 0 < k → first ≤ c → c < first + n → (first / k ≤ c / k) × (c / k ≤ (first + (n - 1)) / k)
between-blocks k first n c some above below =
    let low = div-mul-le_self first k in
    let high = div-mul-le_self c k in (
      le-div (first / k) c k some (omega (arith, low, above)),
      le-div (c / k) (first + (n - 1)) k some (omega (arith, high, below)),
    )

-- The first cluster of a block is addressable if a later cluster is.
block-near : (H : Header) (z n i : ℕ) → i ≤ (z + (n - 1)) / counters_of_block H.fields → IsAddressable H.fields.cluster_bits (z + (n - 1)) → IsAddressable H.fields.cluster_bits (i * counters_of_block H.fields)
block-near H z n i below near =
    let le = mul-le-mul_right (counters_of_block H.fields) below in
    let under = div-mul-le_self (z + (n - 1)) (counters_of_block H.fields) in
    let more : i * counters_of_block H.fields * cluster_size H.fields ≤ (z + (n - 1)) * cluster_size H.fields = mul-le-mul_right (cluster_size H.fields) (omega (arith, le, under)) in
    omega (arith, near, more)

-- A reason why the table can't grow for a run is one why the run can't be readied, as long as refcounts are unchanged.
making-told : (mark n z : ℕ) (m m' : Metadata) → CountsAsBefore m m' → IsFirstRun (counted m) mark n z → (number : ℕ)
    → NoPlaceToGrow m mark ((z + (n - 1)) / counters_of_block m.header.fields + (n / counters_of_block m.header.fields + 2)) number → IsRunTold m' mark n number
making-told mark n z m m' same run number none = record {
  first = z;
  run = first-run-same (counted m) (counted m') mark n z same.counts run;
  told = inr (subst (λ (H : Header). NoPlaceToGrow m' mark ((z + (n - 1)) / counters_of_block H.fields + (n / counters_of_block H.fields + 2)) number) (sym same.header)
      (no-place-as m' m (sym same.header) (sym same.table) (λ c. sym (same.counts c)) mark ((z + (n - 1)) / counters_of_block m.header.fields + (n / counters_of_block m.header.fields + 2)) number none));
}

-- The space that an allocation leaves, turn by turn.
pub record StaysRoomy (mark n : ℕ) (m0 m : Metadata) : Type 0 where
  pub room : (roomy : IsRoomy m0 mark n) → RoomStays mark n m0 m roomy
  pub gapless : n ≤ 1 → IsGapless mark m0 m

module _ {S : Type 0} (state : S → StorageState) (s : ImageState S) where
  pub readying-none : Readying state s s
  readying-none = record { step = allocating-none state s; list = inl (refl, refl, refl); faults = refl }

  abbrev Start : Metadata
  Start = metadata state s

  -- If `n` clusters had enough space, they still have. If `n` is 1, no gap is left.
  abbrev pub Stays : (mark n : ℕ) → ImageState S → Type 0
  Stays mark n now = IsGuarded state s → StaysRoomy mark n (metadata state s) (metadata state now)

  pub stays-none : (mark n : ℕ) → 1 ≤ n → Stays mark n s
  stays-none mark n some holds =
      let m = metadata state s in
      record { room = λ roomy. stays-start mark n some m holds.2 roomy; gapless = λ one. gapless-same mark m m (λ c. refl) }

  module _ (sA : ImageState S) (so_far : Readying state s sA) where
    holds-on : IsGuarded state s → IsGuarded state sA
    holds-on holds = let guest_unchanged = so_far.step.guest_unchanged holds.1 in (keeps_on (state s.file.image) (state sA.file.image) guest_unchanged.shape holds.0, so_far.step.order ∙ holds.1, (guest_unchanged.holds holds.0 holds.2 tt).0)

    safe-with : IsGuarded state s → IsSafeWith state sA.table sA.caches sA.file
    safe-with holds = let there = holds-on holds in record { keeps = there.0; well_formed = there.2.well_formed; table_of_file = there.2.table }

    step-on : {T : Type 0} (result : Result T Fault) (leaked : ℕ → ℕ) (sB : ImageState S) → Allocating state (HadNoResourceError result) leaked sA sB → Allocating state (HadNoResourceError result) leaked s sB
    step-on result leaked sB step =
        allocating-as state (HadNoResourceError result) (HadNoResourceError result) (λ c. 0 + leaked c) leaked s sB (λ whole. whole) (λ c. omega arith)
        (allocating-then state ⊤ (HadNoResourceError result) (λ _. 0) leaked s sA sB tt so_far.step step)

    -- The call continues with a search.
    pub readying-searched : (mark n z : ℕ) (B : MetadataCaches S) (fB : ImageFile S) → LooksForRun state sA.table mark n (cached_file sA.caches sA.file) (Ok z) (cached_file B fB) → Readying state s (image_state sA.table B fB sA.pending)
    readying-searched mark n z B fB looks = record {
      step = step-on {T = ℕ} (Ok z) (λ _. 0) (image_state sA.table B fB sA.pending) (looked-allocates state sA ℕ (Ok z) B fB looks.looked);
      list = elim so_far.list [ inl same ↦ inl (same.0, looks.looked.header ∙ same.1, same.2) | inr longer ↦ inr longer ];
      faults = looks.looked.cause ∙ so_far.faults;
    }

    -- The call continues with new blocks or a longer table.
    pub readying-made : (mark at first last : ℕ) (made : Provision) (sB : AllocatorState S) → ReadiesBlocks state at first last (with_first_free sA mark) (Ok made) sB → (length s.table.raw_entries < length sA.table.raw_entries → last < length sA.table.raw_entries) → Readying state s sB.image
    readying-made mark at first last made sB makes covers = record {
      step = step-on {T = Provision} (Ok made) (λ _. 0) sB.image
          (allocating-as state ⊤ ⊤ makes.leaked (λ _. 0) sA sB.image (λ whole. whole) (leaks-ok _ _ made makes.leaked makes.leaks) makes.step);
      list = elim (cases_lt last (length sA.table.raw_entries)) [
        | inl inside ↦ let has_no_dirty_data = makes.once inside in elim so_far.list [
          | inl same ↦ inl (has_no_dirty_data.0 ∙ same.0, has_no_dirty_data.1 ∙ same.1, has_no_dirty_data.2 ∙ same.2)
          | inr longer ↦ inr (let more = longer.0 in let long = has_no_dirty_data.2 in omega (arith, more, long), has_no_dirty_data.0 ∙ longer.1)
        ]
        | inr past ↦ let grew = makes.grew past in elim so_far.list [
          | inl same ↦ inr (let more = grew.0 in let long = same.2 in omega (arith, more, long), grew.1 ∙ ap (λ es. es ++ table_run sA.file.header.fields) same.0 ∙ ap (λ (H : Header). s.pending ++ table_run H.fields) same.1)
          | inr longer ↦ absurd (let inside = covers longer.0 in omega (arith, inside, past))
        ]
      ];
      faults = makes.cause ∙ so_far.faults;
    }

    -- The space for the run is still there.
    pub stays-found : (mark n z : ℕ) → 1 ≤ n → (B : MetadataCaches S) (fB : ImageFile S) → LooksForRun state sA.table mark n (cached_file sA.caches sA.file) (Ok z) (cached_file B fB) → Stays mark n sA → Stays mark n (image_state sA.table B fB sA.pending)
    stays-found mark n z some B fB looks stays holds =
        let there = holds-on holds in
        let m = metadata state s in
        let same = counts-looked state sA ℕ (Ok z) B fB looks.looked there.0 there.2 tt in
        record {
          room = λ roomy. stays-searched mark n some m holds.2 roomy (metadata state sA) ((stays holds).room roomy) (metadata_of state fB B sA.table sA.pending) refl same;
          gapless = λ one. gapless-then mark m (metadata state sA) (metadata_of state fB B sA.table sA.pending) ((stays holds).gapless one) (λ c. inl (same c)) (gapless-same mark (metadata state sA) (metadata_of state fB B sA.table sA.pending) same);
        }

    pub stays-on : (mark n z first last : ℕ) → 1 ≤ n → (IsGuarded state s → IsFirstRun (counted (metadata state sA)) mark n z) → first ≡ z / counters_of_block sA.file.header.fields → last ≡ (z + (n - 1)) / counters_of_block sA.file.header.fields
        → Stays mark n sA → (sB : AllocatorState S) → ReadiesBlocks state (last + (n / counters_of_block sA.file.header.fields + 2)) first last (with_first_free sA mark) (Ok Extended) sB → Stays mark n sB.image
    stays-on mark n z first last some run first-is last-is stays sB makes holds =
        let there = holds-on holds in
        let m0 = metadata state s in
        let m = metadata state sA in
        let m' = metadata state sB.image in
        let made = makes.made there.1 there.0 there.2 refl in
        let raised = makes.step.raised there.1 there.0 there.2 tt in
        record {
          room = λ roomy. stays-made mark n some m0 holds.2 roomy m ((stays holds).room roomy) so_far.step.moved (so_far.step.raised holds.1 holds.0 holds.2 tt) there.2 z (run holds) first last first-is last-is m' made;
          gapless = λ one. gapless-then mark m0 m m' ((stays holds).gapless one) raised
              (made-gapless mark m m' there.2 raised z (subst (λ x. IsFirstRun (counted m) mark x z) (let is : n ≡ 1 = omega (arith, some, one) in is) (run holds)) (last + (n / counters_of_block sA.file.header.fields + 2)) first last first-is
              (last-is ∙ ap (λ x. x / counters_of_block sA.file.header.fields) (let is : z + (n - 1) ≡ z = omega (arith, one) in is)) made);
        }

    -- The search fails.
    pub search-refused : (mark n : ℕ) (fault : Fault) (B : MetadataCaches S) (fB : ImageFile S) → LooksForRun state sA.table mark n (cached_file sA.caches sA.file) (Err fault) (cached_file B fB) → ReadiesRun state n (with_first_free s mark) (Err fault) (with_first_free (image_state sA.table B fB sA.pending) mark)
    search-refused mark n fault B fB looks = record {
      leaked = λ _. 0;
      leaks = leaks-none _ _ (Err fault);
      step = step-on {T = ℕ} (Err fault) (λ _. 0) (image_state sA.table B fB sA.pending) (looked-allocates state sA ℕ (Err fault) B fB looks.looked);
      found = λ order keeps sound. tt;
      little = λ order keeps sound. tt;
      ready = tt;
      reach = tt;
      start_nonzero = tt;
      mark = refl;
      list = by-table s.file.header sA.file.header s.table sA.table s.pending sA.pending so_far.list;
      cause = cause-weaker (freeing-allocates safe-with (λ u. loose-all sA.table sA.caches u.0 (so_far.step.keeps_unpinned_room u.0 u.2)) so_far.faults) fault looks.looked.cause;
    }

    -- Making blocks or growing the table fails.
    pub making-refused : (mark n z first last : ℕ) → 1 ≤ n → (IsGuarded state s → IsFirstRun (counted (metadata state sA)) mark n z) → first ≡ z / counters_of_block sA.file.header.fields → last ≡ (z + (n - 1)) / counters_of_block sA.file.header.fields
        → IsAddressable sA.file.header.fields.cluster_bits (z + (n - 1)) → Stays mark n sA → (fault : Fault) (sB : AllocatorState S) → ReadiesBlocks state (last + (n / counters_of_block sA.file.header.fields + 2)) first last (with_first_free sA mark) (Err fault) sB → (length s.table.raw_entries < length sA.table.raw_entries → last < length sA.table.raw_entries) → ReadiesRun state n (with_first_free s mark) (Err fault) sB
    making-refused mark n z first last positive run first-is last-is near stays fault sB makes covers = record {
      leaked = makes.leaked;
      leaks = leaks-on _ _ _ _ fault makes.leaked holds-on so_far.step.keeps_unpinned_room makes.leaks;
      step = step-on {T = ℕ} (Err fault) makes.leaked sB.image makes.step;
      found = λ order keeps sound. tt;
      little = λ order keeps sound. tt;
      ready = tt;
      reach = tt;
      start_nonzero = tt;
      mark = makes.mark;
      list = elim (cases_lt last (length sA.table.raw_entries)) [
        | inl inside ↦ let has_no_dirty_data = makes.once inside in elim so_far.list [
          | inl same ↦ inl (has_no_dirty_data.0 ∙ same.0)
          | inr longer ↦ inr (let more = longer.0 in let long = has_no_dirty_data.2 in omega (arith, more, long), has_no_dirty_data.0 ∙ longer.1)
        ]
        | inr past ↦ elim so_far.list [
          | inl same ↦ inl (makes.unchanged_on_error past ∙ same.0)
          | inr longer ↦ absurd (let inside = covers longer.0 in omega (arith, inside, past))
        ]
      ];
      cause = let same = so_far.faults in cause-weaker (record {
        before = omega (arith, same);
        after = omega arith;
        damaged = λ wrong holds. wrong (holds-on holds);
        counter = λ wrong holds. wrong (holds-on holds);
        full = λ none u. none (unbarred-still holds-on so_far.step.keeps_unpinned_room u);
        limit = λ number at. (
          λ order keeps sound.
              let holds : IsGuarded state s = (keeps, order, sound) in
              let there = holds-on holds in
              let why = at.1.0 there.1 there.0 there.2 in
              (crowded number holds why, told number at.0 holds why),
          at.1.1 ∙ same,
        );
      }) fault (cause-told _ fault makes.cause);
    }
      where
        mA : Metadata
        mA = metadata state sA

        CanNot : ℕ → Type 0
        CanNot number = NoneCanBeMade mark (last + (n / counters_of_block sA.file.header.fields + 2)) first last number mA

        crowded : (number : ℕ) → IsGuarded state s → CanNot number → IsCrowded Start mark n
        crowded number holds none roomy =
            let there = holds-on holds in
            can-make mark n positive Start holds.2 roomy mA ((stays holds).room roomy) so_far.step.moved (so_far.step.raised holds.1 holds.0 holds.2 tt) there.2 z (run holds) first last first-is last-is number none

        told : (number : ℕ) → fault ≡ Limit number → IsGuarded state s → CanNot number → IsRunTold (metadata state sB.image) mark n number
        told number is holds (inl far) = absurd (far (λ i above below. block-near sA.file.header z n i (omega (arith, below, last-is)) near))
        told number is holds (inr (past, none)) =
            let there = holds-on holds in
            making-told mark n z mA (metadata state sB.image) (makes.barred past there.1 there.0 there.2 number (ap (λ (f : Fault). Err f) is)) (run holds) number
            (subst (λ (l : ℕ). NoPlaceToGrow mA mark (l + (n / counters_of_block sA.file.header.fields + 2)) number) last-is none)

    module _ (mark n z : ℕ) (some : 1 ≤ n) (B : MetadataCaches S) (fB : ImageFile S) (looks : LooksForRun state sA.table mark n (cached_file sA.caches sA.file) (Ok z) (cached_file B fB)) where
      pub found-run : IsGuarded state s → IsFirstRun (counts_in state B fB) mark n z
      found-run holds =
          let well_formed = safe-with holds in
          first-run-same (counts_in state sA.caches sA.file) (counts_in state B fB) mark n z (counts-still state sA.table sA.caches sA.file z B fB looks.looked well_formed) (looks.found well_formed)

      -- The call fails, since no run that can be counted begins there.
      pub unfit-refused : (fault : Fault) → HasCause (fitting_causes fB.header.fields n z) fault → Stays mark n sA → ReadiesRun state n (with_first_free s mark) (Err fault) (with_first_free (image_state sA.table B fB sA.pending) mark)
      unfit-refused fault why stays =
          let searched = readying-searched mark n z B fB looks in record {
            leaked = λ _. 0;
            leaks = leaks-none _ _ (Err fault);
            step = allocating-as state ⊤ (HadNoResourceError {T = ℕ} (Err fault)) (λ _. 0) (λ _. 0) s (image_state sA.table B fB sA.pending) (λ whole. tt) (λ c. refl) searched.step;
            found = λ order keeps sound. tt;
            little = λ order keeps sound. tt;
            ready = tt;
            reach = tt;
            start_nonzero = tt;
            mark = refl;
            list = by-table s.file.header sA.file.header s.table sA.table s.pending sA.pending so_far.list;
            cause = bare-weaker _ never (λ number far. ((λ order keeps sound. (crowded far.1 order keeps sound, told number far (keeps, order, sound))), looks.looked.cause ∙ so_far.faults)) fault why;
          }
        where
          never : z ≡ 0 → IsGuarded state s → ⊥
          never is holds =
              let there = holds-on holds in
              let run = (looks.found (safe-with holds)).free z (omega arith) (omega (arith, some)) in
              let counts : 0 < counted (metadata state sA) 0 = first-counted (metadata state sA) there.2 in
              let none : counted (metadata state sA) 0 ≡ 0 = subst (λ c. counted (metadata state sA) c ≡ 0) is run in
              omega (arith, counts, none)

          told : (number : ℕ) → HasCause (fitting_causes fB.header.fields n z) (Limit number) → IsGuarded state s → IsRunTold (metadata_of state fB B sA.table sA.pending) mark n number
          told number why holds =
              let there = holds-on holds in
              let long = there.2.table.long in
              let few = (header-limited true _ sA.file.header there.2.well_formed.consistent.readable.loads).refcount_entries in
              record { first = z; run = found-run holds; told = inl (why.0, λ near. let far = why.1 near in omega (arith, long, few, far)) }

          crowded : (IsAddressable fB.header.fields.cluster_bits (z + (n - 1)) → 2 ^ 20 ≤ (z + (n - 1)) / counters_of_block fB.header.fields) → order_of s.caches ≡ L2DependsOnRb → IsTrue (state s.file.image).shape.keeps → IsSound (metadata state s) → IsCrowded (metadata state s) mark n
          crowded far order keeps sound roomy =
              let holds : IsGuarded state s = (keeps, order, sound) in
              let there = holds-on holds in
              run-fits mark n some (metadata state s) sound roomy (metadata state sA) ((stays holds).room roomy) so_far.step.moved (so_far.step.raised order keeps sound tt) there.2 z (looks.found (safe-with holds))
              (subst (λ (H : Header). IsAddressable H.fields.cluster_bits (z + (n - 1)) → 2 ^ 20 ≤ (z + (n - 1)) / counters_of_block H.fields) looks.looked.header far)

      -- Little of the space is taken.
      little-found : Stays mark n sA → order_of s.caches ≡ L2DependsOnRb → IsTrue (state s.file.image).shape.keeps → IsSound Start → TakesLittle mark n Start (metadata_of state fB B sA.table sA.pending) × ((roomy : IsRoomy Start mark n) → z + n ≤ roomy.first + room_for s.file.header.fields n)
      little-found stays order keeps sound =
          let holds : IsGuarded state s = (keeps, order, sound) in
          let kept = stays-found mark n z some B fB looks stays holds in
          let m = metadata_of state fB B sA.table sA.pending in (
            record { early = λ roomy. room-left mark n some Start sound roomy m (kept.room roomy); gapless = kept.gapless },
            λ roomy. run-early mark n some Start sound roomy m (kept.room roomy) z (found-run holds),
          )

      -- The call fails, since the table has grown and still has no entry for the run.
      pub grown-refused : (number : ℕ) → number ≡ last_number z n → length s.table.raw_entries < length sA.table.raw_entries → length sA.table.raw_entries ≤ (z + (n - 1)) / counters_of_block fB.header.fields → Stays mark n sA → ReadiesRun state n (with_first_free s mark) (Err (Limit number)) (with_first_free (image_state sA.table B fB sA.pending) mark)
      grown-refused number is longer past stays =
          let searched = readying-searched mark n z B fB looks in record {
            leaked = λ _. 0;
            leaks = leaks-none _ _ (Err (Limit number));
            step = allocating-as state ⊤ (HadNoResourceError {T = ℕ} (Err (Limit number))) (λ _. 0) (λ _. 0) s (image_state sA.table B fB sA.pending) (λ whole. tt) (λ c. refl) searched.step;
            found = λ order keeps sound. tt;
            little = λ order keeps sound. tt;
            ready = tt;
            reach = tt;
            start_nonzero = tt;
            mark = refl;
            list = by-table s.file.header sA.file.header s.table sA.table s.pending sA.pending so_far.list;
            cause = ((λ order keeps sound. (crowded order keeps sound, record { first = z; run = found-run (keeps, order, sound); told = inl (is, λ near. past) })), looks.looked.cause ∙ so_far.faults);
          }
        where
          crowded : order_of s.caches ≡ L2DependsOnRb → IsTrue (state s.file.image).shape.keeps → IsSound (metadata state s) → IsCrowded (metadata state s) mark n
          crowded order keeps sound roomy =
              let holds : IsGuarded state s = (keeps, order, sound) in
              let there = holds-on holds in
              let inside = run-counted mark n some (metadata state s) sound roomy (metadata state sA) ((stays holds).room roomy) so_far.step.moved (so_far.step.raised order keeps sound tt) there.2 z (looks.found (safe-with holds)) longer in
              let past' : length sA.table.raw_entries ≤ (z + (n - 1)) / counters_of_block sA.file.header.fields = subst (λ (H : Header). length sA.table.raw_entries ≤ (z + (n - 1)) / counters_of_block H.fields) looks.looked.header past in
              omega (arith, inside, past')

      -- The call ends, since each cluster of the run has a block.
      module _ (sC : AllocatorState S) (k last : ℕ) (size : counters_of_block fB.header.fields ≡ k) (at : ℕ) (made : ReadiesBlocks state at (z / k) last (with_first_free (image_state sA.table B fB sA.pending) mark) (Ok Complete) sC)
          (done : Readying state s sC.image) where
        pub run-ready : Stays mark n sA → 0 < k → z ≢ 0 → IsAddressable fB.header.fields.cluster_bits (z + (n - 1)) → last ≡ (z + (n - 1)) / k → ReadiesRun state n (with_first_free s mark) (Ok z) sC
        run-ready stays wide apart reach at = record {
          leaked = λ _. 0;
          leaks = leaks-none _ _ (Ok z);
          step = done.step;
          found = λ order keeps sound.
              subst (λ (ca : MetadataCaches S). IsFirstRun (counts_in state ca sC.file) mark n z) (sym (made.idle refl).1)
              (subst (λ (f : ImageFile S). IsFirstRun (counts_in state B f) mark n z) (sym (made.idle refl).2) (found-run (keeps, order, sound)));
          little = λ order keeps sound.
              subst (λ (ca : MetadataCaches S). Little (metadata_of state sC.file ca sC.table sC.pending)) (sym (made.idle refl).1)
              (subst (λ (f : ImageFile S). Little (metadata_of state f B sC.table sC.pending)) (sym (made.idle refl).2) (there (little-found stays order keeps sound)));
          ready = λ c above below.
              let both = between-blocks k z n c wide above below in
              let le = both.1 in
              subst (λ b. block_offset (slice_index sC.table.raw_entries (c / b)) ≢ 0) (sym size ∙ ap (λ (H : Header). counters_of_block H.fields) moved.2) (made.ready refl (c / k) both.0 (omega (arith, le, at)));
          reach = subst (λ (H : Header). IsAddressable H.fields.cluster_bits (z + (n - 1))) moved.2 reach;
          start_nonzero = apart;
          mark = made.mark;
          list = by-table s.file.header sC.file.header s.table sC.table s.pending sC.pending done.list;
          cause = done.faults;
        }
          where
            Little : Metadata → Type 0
            Little m = TakesLittle mark n Start m × ((roomy : IsRoomy Start mark n) → z + n ≤ roomy.first + room_for s.file.header.fields n)

            there : Little (metadata_of state fB B sA.table sA.pending) → Little (metadata_of state fB B sC.table sC.pending)
            there little = (record { early = little.0.early; gapless = little.0.gapless }, little.1)

            moved : MovedTable s.file.header fB.header
            moved = (readying-searched mark n z B fB looks).step.moved

-- The measure of the loop: each turn makes the refcount table longer, or links more blocks of a table of the same length.
abbrev pub turns_left : TableValue → ℕ
turns_left table = (2 ^ 20 + 1 - length table.raw_entries) * (2 ^ 20 + 1) + min (2 ^ 20) (missing table)

pub turns-fewer : (table table' : TableValue) → length table.raw_entries ≤ 2 ^ 20 → HasMore table table' → turns_left table' < turns_left table
turns-fewer table table' short more = elim more [
  | inl longer ↦
      let step : (2 ^ 20 + 1 - length table'.raw_entries + 1) * (2 ^ 20 + 1) ≤ (2 ^ 20 + 1 - length table.raw_entries) * (2 ^ 20 + 1) = mul-le-mul (omega (arith, short, longer)) (omega arith) in
      omega (arith, step)
  | inr both ↦
      let same = both.0 in
      let fewer = both.1 in
      let few : missing table ≤ length table.raw_entries = count_by-le-length (λ w. block_offset w == 0) table.raw_entries in
      omega (arith, same, fewer, few, short)
]
