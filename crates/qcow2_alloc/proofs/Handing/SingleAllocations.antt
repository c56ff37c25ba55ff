-- Allocating one cluster, after a search found it free.
use Rattle.std.proofs.Common.{◌≡◌, ◌≢◌, true, ℕ, ◌+◌, ◌*◌, ◌/◌, ◌<◌, ◌≤◌, false, refl, arith, ap, sym, subst, ◌∙◌, inl, inr, Option, Some, None, Result, Ok, Err}
use Rattle.std.specs.Prelude.{⊤, not, nat_eq, IsTrue, IfOk, OnOk, OnErr, slice_index, ◌⊎◌, ◌==◌, if◌then◌else◌}
use Rattle.std.specs.Option.{option_eq}
use Rattle.std.proofs.lemmas.Bool.{cases_eq, cases_lt, ne_eqb, eq-eqb}
use Rattle.imago_storage.specs.State.{StorageState}
use Rattle.imago_storage.specs.declared.fault.Fault.{Fault}
use Rattle.imago_storage.proofs.Composing.{keeps_on}
use Rattle.qcow2_types.specs.Counts.{counters_of_block}
use Rattle.qcow2_types.specs.Header.{Header}
use Rattle.qcow2_types.specs.Pending.{FreeEntry}
use Rattle.qcow2_types.specs.Words.{block_offset}
use Rattle.qcow2_metadata.specs.Places.{IsAddressable}
use Rattle.qcow2_alloc.specs.declared.cache.CacheDependency.TheVariants.{L2DependsOnRb}
use Rattle.qcow2_alloc.specs.declared.cache.MetadataCaches.{MetadataCaches}
use Rattle.qcow2_alloc.specs.declared.file.ImageFile.{ImageFile}
use Rattle.qcow2_alloc.specs.Allocating.{Allocating, OnlyIncremented}
use Rattle.qcow2_alloc.specs.Allocators.{metadata_of}
use Rattle.qcow2_alloc.specs.Caches.{order_of, cached_file}
use Rattle.qcow2_alloc.specs.Causes.{FailsFor}
use Rattle.qcow2_alloc.specs.Freeing.{HasUnpinnedRoom, NoneFreeBefore, counting_causes}
use Rattle.qcow2_alloc.specs.FreeList.{covers}
use Rattle.qcow2_alloc.specs.Going.{HadNoResourceError}
use Rattle.qcow2_alloc.specs.HandingOut.{first_free_past}
use Rattle.qcow2_alloc.specs.HandingOutOne.{AllocatesAt, CountsOne, counting_of}
use Rattle.qcow2_alloc.specs.MakingRoom.{run_of}
use Rattle.qcow2_alloc.specs.GuestView.{Metadata, IsSound, PreservesGuest, counted, one_at}
use Rattle.qcow2_alloc.specs.SearchingClusters.{LooksForFree}
use Rattle.qcow2_alloc.specs.State.{image_state, metadata, IsGuarded, with_first_free, AllocatorState}
use Rattle.qcow2_alloc.proofs.Causes.{cause-weaker}
use Rattle.qcow2_alloc.proofs.Blocks.BlockCreationCalls.{counting-allocates, freeing-allocates}
use Rattle.qcow2_alloc.proofs.Flushing.FaultlessCalls.{faultless-then}
use Rattle.qcow2_alloc.proofs.Space.RoomConsumption.{covered-inside}
use Rattle.qcow2_alloc.proofs.Handing.CountSequences.{moved-none}
use Rattle.qcow2_alloc.proofs.Blocks.ClusterCounts.{one-run}
use Rattle.qcow2_alloc.proofs.Handing.SingleCounts.{handed_so, not_handed}
use Rattle.qcow2_alloc.proofs.Handing.ClustersHandedOut.{handed-unnamed}
use Rattle.qcow2_alloc.proofs.Freeing.ClusterOccurrences.{covers-none}
use Rattle.qcow2_alloc.proofs.Searching.SearchesBeforeCounts.{sound-safe, counts-looked, looked-allocates, counted-found, free-found}
use Rattle.qcow2_alloc.proofs.Caching.UnpinnedCaches.{loose-all}
use Rattle.qcow2_alloc.proofs.GuestView.QuietCounters.{here-one, away-none}
use Rattle.qcow2_alloc.proofs.GuestView.QuietFlushes.{quietly-weaker}
use Rattle.qcow2_alloc.proofs.GuestView.QuietPremises.{quietly-then-given}
use Rattle.qcow2_alloc.proofs.GuestView.QuietSequences.{quietly-otherwise}
use Rattle.qcow2_alloc.proofs.Blocks.RunProvision.{leaks-none}

pub other-place : (found : Option ℕ) (c : ℕ) → not (option_eq nat_eq found (Some c)) ≡ true → found ≢ Some c
other-place None c test is = cc is
other-place (Some d) c test is = let same : d ≡ c = (let e = is in cc) in let equal = eq-eqb d c same in let no : not (nat_eq d c) ≡ false = rw equal refl in let both = sym test ∙ no in cc

pub same-place : (found : Option ℕ) (c : ℕ) → not (option_eq nat_eq found (Some c)) ≡ false → found ≡ Some c
same-place None c test = cc test
same-place (Some d) c test = elim (cases_eq d c) [
  | inl same ↦ ap (λ (n : ℕ). Some n) same
  | inr apart ↦ absurd (let unequal = ne_eqb d c apart in let yes : not (nat_eq d c) ≡ true = rw unequal refl in let both = sym test ∙ yes in cc)
]

module _ {S : Type 0} (state : S → StorageState) (cluster : ℕ) (s : AllocatorState S) where
  abbrev Old : Metadata
  Old = metadata state s.image

  abbrev k : ℕ
  k = counters_of_block s.file.header.fields

  abbrev Looks : Result (Option ℕ) Fault → MetadataCaches S → ImageFile S → Type 0
  Looks result mid between = LooksForFree state s.table cluster ((cluster / k + 1) * k) (cached_file s.caches s.file) result (cached_file mid between)

  -- The search fails.
  pub search-refused : (fault : Fault) (mid : MetadataCaches S) (between : ImageFile S) → Looks (Err fault) mid between → AllocatesAt state (λ _. ⊥) cluster s (not_handed fault) (with_first_free (image_state s.table mid between s.pending) s.mark)
  search-refused fault mid between looks = record {
    did = record {
      leaked = λ _. 0;
      leaks = leaks-none _ _ (not_handed fault);
      step = looked-allocates state s.image (Option ℕ) (Err fault) mid between looks.looked;
      list = inl refl;
      cause = cause-weaker (freeing-allocates (λ holds. sound-safe state s.image holds.0 holds.2) (λ u. loose-all s.table s.caches u.0 u.2) refl) fault looks.looked.cause;
    };
    one = tt;
    answer = λ order keeps sound. tt;
    taken_up_to_cluster = λ order keeps sound. tt;
    further = tt;
    stays = refl;
    marked = λ order keeps sound whole marked c below.
        let same = counts-looked state s.image (Option ℕ) (Err fault) mid between looks.looked keeps sound whole c in
        let was = marked c below in
        omega (arith, same, was);
  }

  module _ (some : block_offset (slice_index s.table.raw_entries (cluster / k)) ≢ 0) (found : Option ℕ) (mid : MetadataCaches S) (between : ImageFile S) (looks : Looks (Ok found) mid between) where
    abbrev Mid : Metadata
    Mid = metadata_of state between mid s.table s.pending

    counts-same : IsTrue (state s.file.image).shape.keeps → IsSound Old → (c : ℕ) → counted Mid c ≡ counted Old c
    counts-same keeps sound c = counts-looked state s.image (Option ℕ) (Ok found) mid between looks.looked keeps sound tt c

    -- The cluster is counted already.
    pub counted-already : found ≢ Some cluster → AllocatesAt state (λ _. ⊥) cluster s (handed_so None) (with_first_free (image_state s.table mid between s.pending) s.mark)
    counted-already other = record {
      did = record {
        leaked = λ _. 0;
        leaks = leaks-none _ _ (handed_so None);
        step = looked-allocates state s.image (Option ℕ) (Ok found) mid between looks.looked;
        list = inl refl;
        cause = looks.looked.cause;
      };
      one = tt;
      answer = λ order keeps sound.
          let same = counts-same keeps sound cluster in
          let more = counted-found state s.image cluster some found mid between looks keeps sound other in
          inl (omega (arith, same, more));
      taken_up_to_cluster = λ order keeps sound c none some'. absurd (let same = counts-same keeps sound c in omega (arith, same, none, some'));
      further = refl;
      stays = tt;
      marked = λ order keeps sound whole marked c below. let same = counts-same keeps sound c in let was = marked c below in omega (arith, same, was);
    }

    module _ (is : found ≡ Some cluster) (reach : IsAddressable s.file.header.fields.cluster_bits cluster) (result : Result (Option FreeEntry) Fault) (new : MetadataCaches S) (after : ImageFile S) (mark' : ℕ) (counted_one : CountsOne state cluster (image_state s.table mid between s.pending) result (image_state s.table new after s.pending))
        (further : IfOk result (λ o. mark' ≡ first_free_past s.mark cluster o)) (stays : OnErr result (mark' ≡ s.mark)) where
      abbrev New : Metadata
      New = metadata_of state after new s.table s.pending

      free : IsTrue (state s.file.image).shape.keeps → IsSound Old → counted Mid cluster ≡ 0
      free keeps sound = free-found state s.image cluster some found mid between looks keeps sound is

      was-free : IsTrue (state s.file.image).shape.keeps → IsSound Old → counted Old cluster ≡ 0
      was-free keeps sound = let same = counts-same keeps sound cluster in let zero = free keeps sound in omega (arith, same, zero)

      looked-step : Allocating state ⊤ (λ _. 0) s.image (image_state s.table mid between s.pending)
      looked-step = looked-allocates state s.image (Option ℕ) (Ok found) mid between looks.looked

      abbrev given : ℕ → ℕ
      given d = covers d (run_of cluster counted_one.counts.part)

      whole-as : (r : Result (Option FreeEntry) Fault) → HadNoResourceError r → HadNoResourceError (counting_of r)
      whole-as (Ok o) whole = tt
      whole-as (Err fault) whole = whole

      only-here : IsTrue (state s.file.image).shape.keeps → IsSound Old → (c : ℕ) → cluster ≤ c → c < cluster + 1 → counted Mid c ≡ 0
      only-here keeps sound c le lt = let here : c ≡ cluster = omega (arith, le, lt) in subst (λ d. counted Mid d ≡ 0) (sym here) (free keeps sound)

      counts-more : order_of s.caches ≡ L2DependsOnRb → IsTrue (state s.file.image).shape.keeps → IsSound Old → HadNoResourceError result → (c : ℕ) → counted New c ≡ counted Old c + given c
      counts-more order keeps sound whole c =
          let first = looked-step.guest_unchanged order in
          let up = counted_one.counts.raised (looked-step.order ∙ order) (keeps_on (state s.file.image) (state between.image) first.shape keeps) (first.holds keeps sound tt).0 (only-here keeps sound) (whole-as result whole) c in
          let same = counts-same keeps sound c in
          omega (arith, up, same)

      quietly : order_of s.caches ≡ L2DependsOnRb → PreservesGuest (HadNoResourceError result) given (λ _. 0) (state s.file.image) Old (state after.image) New
      quietly order =
          let first = looked-step.guest_unchanged order in
          quietly-otherwise (HadNoResourceError result) (λ c. 0 + given c) (λ c. 0 + 0) given (λ _. 0) (state s.file.image) Old (state after.image) New (λ sound c. omega arith) (λ sound c used none. omega arith)
          (quietly-then-given ⊤ (HadNoResourceError result) (λ _. 0) (λ _. 0) given (λ _. 0) (state s.file.image) Old (state between.image) Mid (state after.image) New tt (λ sound c more. refl) first counted_one.counts.shape counted_one.counts.counts_not_fallen
          (λ keeps sound sound' guest_unchanged. quietly-weaker (HadNoResourceError (counting_of result)) (HadNoResourceError result) given (λ _. 0) (state between.image) Mid (state after.image) New (λ s. whole-as result)
          (counted_one.counts.guest_unchanged (looked-step.order ∙ order) (λ s. only-here keeps sound))))

      given-none : counted_one.counts.part ≡ 0 → (c : ℕ) → given c ≡ 0
      given-none none c = covers-none c (run_of cluster counted_one.counts.part) none

      given-one : counted_one.counts.part ≡ 1 → (c : ℕ) → given c ≡ one_at cluster c
      given-one one c = ap (λ n. covers c (run_of cluster n)) one ∙ one-run cluster c

      raised : order_of s.caches ≡ L2DependsOnRb → IsTrue (state s.file.image).shape.keeps → IsSound Old → HadNoResourceError result → OnlyIncremented Old New
      raised order keeps sound whole c =
          let up = counts-more order keeps sound whole c in
          let le = counted_one.counts.inside in
          elim (cases_eq counted_one.counts.part 0) [
            | inl none ↦ let no = given-none none c in inl (omega (arith, up, no))
            | inr some' ↦
                let yes = given-one (omega (arith, some', le)) c in
                elim (cases_eq c cluster) [
                  | inl here ↦
                      let own : one_at cluster c ≡ 1 = subst (λ d. one_at cluster d ≡ 1) (sym here) (here-one cluster) in
                      let zero : counted Old c ≡ 0 = subst (λ d. counted Old d ≡ 0) (sym here) (was-free keeps sound) in
                      inr (zero, omega (arith, up, zero, yes, own))
                  | inr apart ↦ let away = away-none cluster c apart in inl (omega (arith, up, yes, away))
                ]
          ]

      step : (handed : ℕ → ℕ) → ((c : ℕ) → given c ≡ handed c) → Allocating state (HadNoResourceError result) handed s.image (image_state s.table new after s.pending)
      step handed same = record {
        faults = λ whole. faultless-then (looked-step.faults tt) (counted_one.counts.faults (whole-as result whole));
        guest_unchanged = λ order. quietly-otherwise (HadNoResourceError result) given (λ _. 0) handed (λ _. 0) (state s.file.image) Old (state after.image) New (λ sound c. let is' = same c in omega (arith, is')) (λ sound c used none. none) (quietly order);
        raised = raised;
        order = counted_one.counts.order ∙ looked-step.order;
        moved = moved-none s.file.header after.header (counted_one.counts.header ∙ looks.looked.header);
        longer = omega arith;
        keeps_unpinned_room = λ any loose. counted_one.counts.keeps_unpinned_room any (looked-step.keeps_unpinned_room any loose);
        room = record { tables = counted_one.counts.room.tables ∙ looked-step.room.tables; blocks = counted_one.counts.room.blocks ∙ looked-step.room.blocks; entries = counted_one.counts.room.entries ∙ looked-step.room.entries };
      }

      caused : FailsFor (counting_causes (IsTrue (state between.image).shape.keeps × (order_of mid ≡ L2DependsOnRb) × IsSound Mid × ((c : ℕ) → cluster ≤ c → c < cluster + 1 → (counted Mid c ≡ 0) × (block_offset (slice_index s.table.raw_entries (c / counters_of_block between.header.fields)) ≢ 0)))
          (HasUnpinnedRoom s.table mid) (state between.image).faults (state after.image).faults) (counting_of result)
      caused = counted_one.counts.cause

      knows : IsGuarded state s.image → IsTrue (state between.image).shape.keeps × (order_of mid ≡ L2DependsOnRb) × IsSound Mid
          × ((c : ℕ) → cluster ≤ c → c < cluster + 1 → (counted Mid c ≡ 0) × (block_offset (slice_index s.table.raw_entries (c / counters_of_block between.header.fields)) ≢ 0))
      knows holds =
          let first = looked-step.guest_unchanged holds.1 in (
            keeps_on (state s.file.image) (state between.image) first.shape holds.0,
            looked-step.order ∙ holds.1,
            (first.holds holds.0 holds.2 tt).0,
            λ c le lt. (
              only-here holds.0 holds.2 c le lt,
              let here : c ≡ cluster = omega (arith, le, lt) in
                  subst (λ d. block_offset (slice_index s.table.raw_entries (d / counters_of_block between.header.fields)) ≢ 0) (sym here)
                  (subst (λ (h : Header). block_offset (slice_index s.table.raw_entries (cluster / counters_of_block h.fields)) ≢ 0) (sym looks.looked.header) some),
            ),
          )

      further-marked : (mark'' : ℕ) → (mark'' ≤ s.mark) ⊎ ((mark'' ≡ cluster + 1) × (s.mark ≡ cluster) × (counted_one.counts.part ≡ 1)) → order_of s.caches ≡ L2DependsOnRb → IsTrue (state s.file.image).shape.keeps → IsSound Old → HadNoResourceError result → NoneFreeBefore Old s.mark → NoneFreeBefore New mark''
      further-marked mark'' near order keeps sound whole marked c below =
          let up = counts-more order keeps sound whole c in
          elim (cases_lt c s.mark) [
            | inl earlier ↦ let was = marked c earlier in omega (arith, up, was)
            | inr past ↦ elim near [
              | inl le ↦ absurd (omega (arith, below, le, past))
              | inr (at, here, one) ↦
                  let c-is : c ≡ cluster = omega (arith, below, at, past, here) in
                  let yes = given-one one c in
                  let own : one_at cluster c ≡ 1 = subst (λ d. one_at cluster d ≡ 1) (sym c-is) (here-one cluster) in
                  omega (arith, up, yes, own)
            ]
          ]

      -- Counting the cluster fails.
      pub refused-one : (fault : Fault) → result ≡ Err fault → AllocatesAt state (λ _. ⊥) cluster s result (with_first_free (image_state s.table new after s.pending) mark')
      refused-one fault refused = subst (λ (r : Result (Option FreeEntry) Fault). AllocatesAt state (λ _. ⊥) cluster s r (with_first_free (image_state s.table new after s.pending) mark')) (sym refused) record {
        did = record {
          leaked = λ _. 0;
          leaks = leaks-none _ _ (not_handed fault);
          step = subst (λ (r : Result (Option FreeEntry) Fault). Allocating state (HadNoResourceError r) (λ _. 0) s.image (image_state s.table new after s.pending)) refused (step (λ _. 0) (given-none none));
          list = inl refl;
          cause = cause-weaker (counting-allocates knows looked-step.keeps_unpinned_room looks.looked.cause) fault
              (subst (λ (r : Result (Option FreeEntry) Fault). FailsFor (counting_causes (IsTrue (state between.image).shape.keeps × (order_of mid ≡ L2DependsOnRb) × IsSound Mid × ((c : ℕ) → cluster ≤ c → c < cluster + 1 → (counted Mid c ≡ 0) × (block_offset (slice_index s.table.raw_entries (c / counters_of_block between.header.fields)) ≢ 0)))
              (HasUnpinnedRoom s.table mid) (state between.image).faults (state after.image).faults) (counting_of r)) refused caused);
        };
        one = tt;
        answer = λ order keeps sound. tt;
        taken_up_to_cluster = λ order keeps sound. tt;
        further = tt;
        stays = mark-is;
        marked = λ order keeps sound whole.
            let whole' : HadNoResourceError result = subst (λ (r : Result (Option FreeEntry) Fault). HadNoResourceError r) (sym refused) whole in
            further-marked mark' (inl (let is' = mark-is in omega (arith, is'))) order keeps sound whole';
      }
        where
          none : counted_one.counts.part ≡ 0
          none = subst (λ (r : Result (Option FreeEntry) Fault). OnErr r (counted_one.counts.part ≡ 0)) refused counted_one.exact

          mark-is : mark' ≡ s.mark
          mark-is = subst (λ (r : Result (Option FreeEntry) Fault). OnErr r (mark' ≡ s.mark)) refused stays

      abbrev itself : FreeEntry
      itself = record { first = cluster; count = 1; metadata = false }

      -- Counting the cluster succeeds.
      pub handed-one : (entry : Option FreeEntry) → result ≡ Ok entry → AllocatesAt state (λ _. ⊥) cluster s result (with_first_free (image_state s.table new after s.pending) mark')
      handed-one entry ok = subst (λ (r : Result (Option FreeEntry) Fault). AllocatesAt state (λ _. ⊥) cluster s r (with_first_free (image_state s.table new after s.pending) mark')) (sym (ok ∙ ap (λ (o : Option FreeEntry). Ok o) entry-is)) record {
        did = record {
          leaked = λ _. 0;
          leaks = leaks-none _ _ (handed_so (Some itself));
          step = subst (λ (r : Result (Option FreeEntry) Fault). Allocating state (HadNoResourceError r) (one_at cluster) s.image (image_state s.table new after s.pending)) ok (step (one_at cluster) (given-one one));
          list = inl refl;
          cause = faults ∙ looks.looked.cause;
        };
        one = (refl, some-place, reach);
        answer = λ order keeps sound.
            let whole : HadNoResourceError result = subst (λ (r : Result (Option FreeEntry) Fault). HadNoResourceError r) (sym ok) tt in
            let zero = was-free keeps sound in
            let up = counts-more order keeps sound whole cluster in
            let yes = given-one one cluster in
            let own = here-one cluster in
            let is' : counted New cluster ≡ 1 = omega (arith, up, zero, yes, own) in
            let all = (step (one_at cluster) (given-one one)).guest_unchanged order in
            let held = all.holds keeps sound whole in
            let not_referenced = handed-unnamed Old New (one_at cluster) cluster sound held.0 order held.1 zero is' own in
            (zero, is', not_referenced.0, not_referenced.1);
        taken_up_to_cluster = λ order keeps sound c none more.
            let whole : HadNoResourceError result = subst (λ (r : Result (Option FreeEntry) Fault). HadNoResourceError r) (sym ok) tt in
            let up = counts-more order keeps sound whole c in
            let inside = covered-inside c cluster counted_one.counts.part (omega (arith, up, none, more)) in
            let ends = inside.1 in
            let few = counted_one.counts.inside in
            inl (omega (arith, ends, few));
        further = mark-is;
        stays = tt;
        marked = λ order keeps sound whole.
            let whole' : HadNoResourceError result = subst (λ (r : Result (Option FreeEntry) Fault). HadNoResourceError r) (sym ok) tt in
            further-marked mark' near order keeps sound whole';
      }
        where
          entry-is : entry ≡ Some itself
          entry-is = subst (λ (r : Result (Option FreeEntry) Fault). IfOk r (λ o. o ≡ Some itself)) ok counted_one.entry

          some-place : cluster ≢ 0
          some-place = subst (λ (r : Result (Option FreeEntry) Fault). OnOk r (cluster ≢ 0)) ok counted_one.cluster_nonzero

          one : counted_one.counts.part ≡ 1
          one = subst (λ (r : Result (Option FreeEntry) Fault). OnOk (counting_of r) (counted_one.counts.part ≡ 1)) ok counted_one.counts.whole

          faults : (state after.image).faults ≡ (state between.image).faults
          faults = subst (λ (r : Result (Option FreeEntry) Fault). FailsFor (counting_causes (IsTrue (state between.image).shape.keeps × (order_of mid ≡ L2DependsOnRb) × IsSound Mid × ((c : ℕ) → cluster ≤ c → c < cluster + 1 → (counted Mid c ≡ 0) × (block_offset (slice_index s.table.raw_entries (c / counters_of_block between.header.fields)) ≢ 0)))
              (HasUnpinnedRoom s.table mid) (state between.image).faults (state after.image).faults) (counting_of r)) ok caused

          mark-is : mark' ≡ (if cluster == s.mark then cluster + 1 else s.mark)
          mark-is = subst (λ (o : Option FreeEntry). mark' ≡ first_free_past s.mark cluster o) entry-is (subst (λ (r : Result (Option FreeEntry) Fault). IfOk r (λ o. mark' ≡ first_free_past s.mark cluster o)) ok further)

          near : (mark' ≤ s.mark) ⊎ ((mark' ≡ cluster + 1) × (s.mark ≡ cluster) × (counted_one.counts.part ≡ 1))
          near = elim (cases_eq cluster s.mark) [
            | inl here ↦ inr (mark-is ∙ rw (eq-eqb cluster s.mark here) refl, sym here, one)
            | inr apart ↦ inl (let is' : mark' ≡ s.mark = mark-is ∙ rw (ne_eqb cluster s.mark apart) refl in omega (arith, is'))
          ]

      pub counted-or-not : AllocatesAt state (λ _. ⊥) cluster s result (with_first_free (image_state s.table new after s.pending) mark')
      counted-or-not = by-result result refl
        where
          by-result : (r : Result (Option FreeEntry) Fault) → result ≡ r → AllocatesAt state (λ _. ⊥) cluster s result (with_first_free (image_state s.table new after s.pending) mark')
          by-result (Ok entry) ok = handed-one entry ok
          by-result (Err fault) refused = refused-one fault refused
