-- Counting a run that is ready, and allocating it.
use Rattle.std.proofs.Common.{◌≡◌, ◌≢◌, ℕ, ◌+◌, ◌/◌, ◌<◌, ◌≤◌, refl, arith, ap, sym, subst, ◌∙◌, List, Bool, Result, Ok, Err, inl, inr, true}
use Rattle.std.specs.Prelude.{⊤, IsTrue, slice_index}
use Rattle.std.proofs.lemmas.Bool.{cases_eq, cases_lt}
use Rattle.std.proofs.lemmas.Bool.Decides.{nat_tests}
use Rattle.imago_storage.specs.State.{StorageState}
use Rattle.imago_storage.specs.declared.fault.Fault.{Fault}
use Rattle.imago_storage.specs.declared.fault.Fault.TheVariants.{Memory, Storage, DamagedTable, CacheFull, Counter}
use Rattle.imago_storage.proofs.Composing.{keeps_on}
use Rattle.qcow2_types.specs.Counts.{counters_of_block}
use Rattle.qcow2_types.specs.Header.{Header}
use Rattle.qcow2_types.specs.Pending.{FreeEntry}
use Rattle.qcow2_types.specs.Words.{block_offset}
use Rattle.qcow2_metadata.specs.Tables.{TableValue}
use Rattle.qcow2_alloc.specs.declared.cache.CacheDependency.TheVariants.{L2DependsOnRb}
use Rattle.qcow2_alloc.specs.declared.cache.MetadataCaches.{MetadataCaches}
use Rattle.qcow2_alloc.specs.declared.file.ImageFile.{ImageFile}
use Rattle.qcow2_alloc.specs.Allocating.{Allocating, CountsRun, MovedTable, OnlyIncremented}
use Rattle.qcow2_alloc.specs.Allocators.{metadata_of}
use Rattle.qcow2_alloc.specs.Caches.{order_of}
use Rattle.qcow2_alloc.specs.Causes.{HasCause}
use Rattle.qcow2_alloc.specs.Crowding.{IsGapless, IsRoomy, room_for}
use Rattle.qcow2_alloc.specs.FreeList.{covers}
use Rattle.qcow2_alloc.specs.Freeing.{HasUnpinnedRoom, NoneFreeBefore, counting_causes}
use Rattle.qcow2_alloc.specs.Going.{HadNoResourceError}
use Rattle.qcow2_alloc.specs.MakingRoom.{run_of}
use Rattle.qcow2_alloc.specs.GuestView.{Metadata, IsSound, counted}
use Rattle.qcow2_alloc.specs.ReadyingRuns.{Allocates, IsRunCounted, ReadiesRun, allocated_by, first_free_after}
use Rattle.qcow2_alloc.specs.State.{ImageState, image_state, metadata, with_first_free, AllocatorState}
use Rattle.qcow2_alloc.proofs.Causes.{cause-weaker}
use Rattle.qcow2_alloc.proofs.Blocks.BlockCreationCalls.{counting-allocates}
use Rattle.qcow2_alloc.proofs.Handing.CountSequences.{allocating-none, allocating-as, raised-then}
use Rattle.qcow2_alloc.proofs.Flushing.FaultlessCalls.{faultless-then}
use Rattle.qcow2_alloc.proofs.Space.GaplessRuns.{gapless-same}
use Rattle.qcow2_alloc.proofs.Growth.LongerReftables.{covers-inside}
use Rattle.qcow2_alloc.proofs.Space.RoomConsumption.{covered-inside}
use Rattle.qcow2_alloc.proofs.GuestView.QuietPremises.{quietly-then-given}
use Rattle.qcow2_alloc.proofs.GuestView.QuietSequences.{quietly-otherwise}
use Rattle.qcow2_alloc.proofs.Blocks.RunProvision.{leaks-on, leaks-ok}

covers-outside : (c first n : ℕ) → (first ≤ c → c < first + n → ⊥) → covers c (run_of first n) ≡ 0
covers-outside c first n away = elim (cases_lt c first) [
  | inl before ↦ grind (arith, nat_tests)
  | inr from ↦ elim (cases_lt c (first + n)) [ inl below ↦ absurd (away from below) | inr past ↦ grind (arith, nat_tests) ]
]

-- The first-free hint moves past a run that begins at it, and past a single cluster that was the first free one. Otherwise it stays.
behind-here : (mark n first : ℕ) → first ≡ mark → first_free_after mark n first ≡ first + n
behind-here mark n first same = grind (arith, nat_tests)

behind-one : (mark n first : ℕ) → first ≢ mark → n ≡ 1 → first_free_after mark n first ≡ first + 1
behind-one mark n first apart one = grind (arith, nat_tests)

behind-not : (mark n first : ℕ) → first ≢ mark → n ≢ 1 → first_free_after mark n first ≡ mark
behind-not mark n first apart more = grind (arith, nat_tests)

marked-on : (m m' : Metadata) (mark : ℕ) → OnlyIncremented m m' → NoneFreeBefore m mark → NoneFreeBefore m' mark
marked-on m m' mark raised marked c below = elim (raised c) [
  | inl same ↦ let some = marked c below in omega (arith, same, some)
  | inr up ↦ let one = up.1 in omega (arith, one)
]

-- The run was the first one from the hint on, so no cluster before the new hint is free.
marked-behind : (m m' : Metadata) (mark n : ℕ) (entry : FreeEntry) → OnlyIncremented m m' → IsRunCounted mark n m' entry → NoneFreeBefore m mark → NoneFreeBefore m' (first_free_after mark n entry.first)
marked-behind m m' mark n entry raised taken marked c below =
    let first = entry.first in
    let old : c < mark → 0 < counted m' c = marked-on m m' mark raised marked c in
    let own : first ≤ c → c < first + n → 0 < counted m' c = λ above under. let one = taken.once c above under in omega (arith, one) in
    elim (cases_lt c mark) [
      | inl before ↦ old before
      | inr from ↦ elim (cases_eq first mark) [
        | inl same ↦ let is = behind-here mark n first same in own (omega (arith, from, same)) (omega (arith, below, is))
        | inr apart ↦ elim (cases_eq n 1) [
          | inl one ↦
              let is = behind-one mark n first apart one in
              elim (cases_lt c first) [
                | inl less ↦
                    let met = taken.least c from less in
                    let above = met.1 in
                    let under = met.2 in
                    let here : met.0 ≡ c = omega (arith, above, under, one) in
                    subst (λ d. 0 < counted m' d) here met.4
                | inr more ↦ own more (omega (arith, below, is, one))
              ]
          | inr more ↦ let is = behind-not mark n first apart more in absurd (omega (arith, from, below, is))
        ]
      ]
    ]

-- The clusters that are lost if counting a run fails: the counted part after `CacheFull`, otherwise none.
abbrev pub lost : Fault → ℕ → ℕ → ℕ → ℕ
lost CacheFull first part c = covers c (run_of first part)
lost fault first part c = 0

abbrev pub refusal : Fault → Result FreeEntry Fault
refusal fault = Err fault

lost-none : (fault : Fault) (first part : ℕ) → (refusal fault ≡ Err CacheFull → ⊥) → (c : ℕ) → lost fault first part c ≡ 0
lost-none CacheFull first part other c = absurd (other refl)
lost-none fault first part other c = refl

lost-pinned : (sound : Type 0) (loose : Bool → Type 0) (a b : ℕ) (fault : Fault) (first part : ℕ) → HasCause (counting_causes sound loose a b) fault → sound → loose true → (c : ℕ) → lost fault first part c ≡ 0
lost-pinned sound loose a b CacheFull first part why holds all c = absurd (why (true, λ is. holds, all))
lost-pinned sound loose a b fault first part why holds all c = refl

module _ {S : Type 0} (state : S → StorageState) (n : ℕ) (is_metadata : Bool) (s : AllocatorState S) where
  abbrev mA : Metadata
  mA = metadata state s.image

  abbrev Keeps : Type 0
  Keeps = IsTrue (state s.file.image).shape.keeps

  abbrev Handing : Result FreeEntry Fault → TableValue → MetadataCaches S → ImageFile S → List FreeEntry → ℕ → Type 0
  Handing result table' new after pending' mark' = Allocates state n is_metadata s result (with_first_free (image_state table' new after pending') mark')

  -- If success is impossible, any clusters may be called allocated.
  allocating-never : (ok : Type 0) (h h' : ℕ → ℕ) (s' : ImageState S) → (order_of s.caches ≡ L2DependsOnRb → Keeps → IsSound mA → ok → ⊥)
      → Allocating state ok h s.image s' → Allocating state ok h' s.image s'
  allocating-never ok h h' s' never step = record {
    faults = step.faults;
    guest_unchanged = λ order. let guest_unchanged = step.guest_unchanged order in record { shape = guest_unchanged.shape; counts_not_fallen = guest_unchanged.counts_not_fallen; passes = guest_unchanged.passes; holds = λ keeps sound done. absurd (never order keeps sound done) };
    raised = step.raised;
    order = step.order;
    moved = step.moved;
    longer = step.longer;
    keeps_unpinned_room = step.keeps_unpinned_room;
    room = step.room;
  }

  -- A run of no clusters is allocated at the first-free hint.
  pub none-allocated : n ≡ 0 → Handing (Ok (record { first = s.mark; count = n; metadata = is_metadata })) s.table s.caches s.file s.pending s.mark
  none-allocated zero = record {
    leaked = λ _. 0;
    leaks = record { none = λ other c. refl; pinned = λ holds all c. refl };
    step = allocating-as state ⊤ ⊤ (λ _. 0) (λ c. covers c (run_of s.mark n)) s.image s.image (λ whole. whole) (λ c. sym (covers-outside c s.mark n (λ above below. omega (arith, above, below, zero))))
        (allocating-none state s.image);
    run = (refl, refl, λ some. absurd (omega (arith, some, zero)));
    taken = λ order keeps sound. record {
      not_before_start = omega arith;
      once = λ c above below. absurd (omega (arith, above, below, zero));
      least = λ z above below. absurd (omega (arith, above, below));
    };
    fresh = λ order keeps sound c above below. absurd (omega (arith, above, below, zero));
    little = λ order keeps sound. record { early = λ roomy c above below. roomy.free c (omega (arith, above)) below; gapless = λ one. gapless-same s.mark mA mA (λ c. refl) };
    moved = sym (behind-here s.mark n s.mark refl ∙ omega (arith, zero));
    stays = tt;
    marked = λ order keeps sound whole marked. marked;
    list = inl refl;
    cause = refl;
  }

  module _ (sB : AllocatorState S) where
    abbrev mB : Metadata
    mB = metadata state sB.image

    -- Readying the run fails.
    pub run-refused : (fault : Fault) → ReadiesRun state n s (Err fault) sB → Handing (Err fault) sB.table sB.caches sB.file sB.pending sB.mark
    run-refused fault ready = record {
      leaked = ready.leaked;
      leaks = leaks-on _ _ _ _ fault ready.leaked (λ holds. holds) (λ any loose. loose) ready.leaks;
      step = allocating-as state (HadNoResourceError {T = ℕ} (Err fault)) (HadNoResourceError {T = FreeEntry} (Err fault)) ready.leaked (allocated_by (Err fault) ready.leaked) s.image sB.image (λ whole. whole) (λ c. refl) ready.step;
      run = tt;
      taken = λ order keeps sound. tt;
      fresh = λ order keeps sound. tt;
      little = λ order keeps sound. tt;
      moved = tt;
      stays = ready.mark;
      marked = λ order keeps sound whole marked c below. marked-on mA mB s.mark (ready.step.raised order keeps sound whole) marked c (let same = ready.mark in omega (arith, same, below));
      list = ready.list;
      cause = ready.cause;
    }

    module _ (first : ℕ) (ready : ReadiesRun state n s (Ok first) sB) where
      -- Nothing is allocated up to this point.
      begun : Allocating state ⊤ (λ _. 0) s.image sB.image
      begun = allocating-as state ⊤ ⊤ ready.leaked (λ _. 0) s.image sB.image (λ whole. whole) (leaks-ok _ _ first ready.leaked ready.leaks) ready.step

      free : order_of s.caches ≡ L2DependsOnRb → Keeps → IsSound mA → (c : ℕ) → first ≤ c → c < first + n → counted mB c ≡ 0
      free order keeps sound = (ready.found order keeps sound).free

      -- Each cluster of the run can be counted.
      abbrev CanCount : Type 0
      CanCount = IsTrue (state sB.file.image).shape.keeps × (order_of sB.caches ≡ L2DependsOnRb) × IsSound mB
          × ((c : ℕ) → first ≤ c → c < first + n → (counted mB c ≡ 0) × (block_offset (slice_index sB.table.raw_entries (c / counters_of_block sB.file.header.fields)) ≢ 0))

      holds-on : Keeps × (order_of s.caches ≡ L2DependsOnRb) × IsSound mA → CanCount
      holds-on holds =
          let guest_unchanged = begun.guest_unchanged holds.1 in (
            keeps_on (state s.file.image) (state sB.file.image) guest_unchanged.shape holds.0,
            begun.order ∙ holds.1,
            (guest_unchanged.holds holds.0 holds.2 tt).0,
            λ c above below. (
              free holds.1 holds.0 holds.2 c above below,
              subst (λ k. block_offset (slice_index sB.table.raw_entries (c / k)) ≢ 0) (sym (ap (λ (H : Header). counters_of_block H.fields) moved.2)) (ready.ready c above below),
            ),
          )
        where
          moved : MovedTable s.file.header sB.file.header
          moved = begun.moved

      module _ (C : MetadataCaches S) (fC : ImageFile S) where
        abbrev mC : Metadata
        mC = metadata_of state fC C sB.table sB.pending

        -- Each cluster of the counted part is counted once.
        counted-more : (result : Result Unit Fault) (counts : CountsRun state first n sB.image result (image_state sB.table C fC sB.pending)) → order_of s.caches ≡ L2DependsOnRb → Keeps → IsSound mA → HadNoResourceError result → (c : ℕ) → counted mC c ≡ counted mB c + covers c (run_of first counts.part)
        counted-more result counts order keeps sound whole =
            let there = holds-on (keeps, order, sound) in
            counts.raised there.1 there.0 there.2 (free order keeps sound) whole

        part-raised : (result : Result Unit Fault) → CountsRun state first n sB.image result (image_state sB.table C fC sB.pending) → order_of s.caches ≡ L2DependsOnRb → Keeps → IsSound mA → HadNoResourceError result → OnlyIncremented mB mC
        part-raised result counts order keeps sound whole c =
            let more = counted-more result counts order keeps sound whole c in
            let le = counts.inside in
            elim (cases_lt c first) [
              | inl less ↦ let none = covers-outside c first counts.part (λ above below. omega (arith, above, less)) in inl (omega (arith, more, none))
              | inr from ↦ elim (cases_lt c (first + counts.part)) [
                | inl below ↦ let none = free order keeps sound c from (omega (arith, below, le)) in let one = covers-inside c first counts.part from below in inr (none, omega (arith, more, none, one))
                | inr past ↦ let none = covers-outside c first counts.part (λ above below. omega (arith, past, below)) in inl (omega (arith, more, none))
              ]
            ]

        part-allocates : (result : Result Unit Fault) (counts : CountsRun state first n sB.image result (image_state sB.table C fC sB.pending)) → Allocating state (HadNoResourceError result) (λ c. covers c (run_of first counts.part)) s.image (image_state sB.table C fC sB.pending)
        part-allocates result counts =
            let part : ℕ → ℕ = λ c. covers c (run_of first counts.part) in record {
              faults = λ whole. faultless-then (begun.faults tt) (counts.faults whole);
              guest_unchanged = λ order. quietly-otherwise (HadNoResourceError result) (λ c. 0 + part c) (λ c. 0 + 0) part (λ _. 0) (state s.file.image) mA (state fC.image) mC (λ sound c. omega arith) (λ sound c used none. omega arith)
                  (quietly-then-given ⊤ (HadNoResourceError result) (λ _. 0) (λ _. 0) part (λ _. 0) (state s.file.image) mA (state sB.file.image) mB (state fC.image) mC tt (λ sound c some. refl) (begun.guest_unchanged order) counts.shape counts.counts_not_fallen
                  (λ keeps sound there guest_unchanged. counts.guest_unchanged (begun.order ∙ order) (λ again. free order keeps sound)));
              raised = λ order keeps sound whole. raised-then mA mB mC (begun.raised order keeps sound tt) (part-raised result counts order keeps sound whole);
              order = counts.order ∙ begun.order;
              moved = subst (λ (H : Header). MovedTable s.file.header H) (sym counts.header) begun.moved;
              longer = begun.longer;
              keeps_unpinned_room = λ any loose. counts.keeps_unpinned_room any (begun.keeps_unpinned_room any loose);
              room = record { tables = counts.room.tables ∙ begun.room.tables; blocks = counts.room.blocks ∙ begun.room.blocks; entries = counts.room.entries ∙ begun.room.entries };
            }

        abbrev Stopped : Fault → (ℕ → ℕ) → Type 0
        Stopped f h = Allocating state (HadNoResourceError {T = FreeEntry} (Err f)) h s.image (image_state sB.table C fC sB.pending)

        -- Counting fails.
        pub count-refused : (fault : Fault) → CountsRun state first n sB.image (Err fault) (image_state sB.table C fC sB.pending) → Handing (Err fault) sB.table C fC sB.pending sB.mark
        count-refused fault counts = record {
          leaked = lost fault first counts.part;
          leaks = record { none = lost-none fault first counts.part; pinned = λ holds all. lost-pinned CanCount (HasUnpinnedRoom sB.table sB.caches) _ _ fault first counts.part counts.cause (holds-on holds) (begun.keeps_unpinned_room true all) };
          step = stopped fault counts.cause (part-allocates (Err fault) counts);
          run = tt;
          taken = λ order keeps sound. tt;
          fresh = λ order keeps sound. tt;
          little = λ order keeps sound. tt;
          moved = tt;
          stays = ready.mark;
          marked = λ order keeps sound whole marked c below.
              marked-on mA mC s.mark ((part-allocates (Err fault) counts).raised order keeps sound whole) marked c (let same = ready.mark in omega (arith, same, below));
          list = ready.list;
          cause = cause-weaker (counting-allocates holds-on begun.keeps_unpinned_room ready.cause) fault counts.cause;
        }
          where
            stopped : (f : Fault) → HasCause (counting_causes CanCount (HasUnpinnedRoom sB.table sB.caches) (state sB.file.image).faults (state fC.image).faults) f → Stopped f (λ c. covers c (run_of first counts.part)) → Stopped f (allocated_by (Err f) (lost f first counts.part))
            stopped CacheFull why step = allocating-as state (HadNoResourceError {T = FreeEntry} (Err CacheFull)) (HadNoResourceError {T = FreeEntry} (Err CacheFull)) _ _ s.image (image_state sB.table C fC sB.pending) (λ whole. whole) (λ c. refl) step
            stopped Memory why step = allocating-never _ _ _ (image_state sB.table C fC sB.pending) (λ order keeps sound whole. whole) step
            stopped Storage why step = allocating-never _ _ _ (image_state sB.table C fC sB.pending) (λ order keeps sound whole. whole) step
            stopped DamagedTable why step = allocating-never _ _ _ (image_state sB.table C fC sB.pending) (λ order keeps sound whole. why (holds-on (keeps, order, sound))) step
            stopped Counter why step = allocating-never _ _ _ (image_state sB.table C fC sB.pending) (λ order keeps sound whole. why (holds-on (keeps, order, sound))) step
            stopped other why step = absurd why

        -- All clusters are counted.
        module _ (counts : CountsRun state first n sB.image (Ok tt) (image_state sB.table C fC sB.pending)) where
          abbrev entry : FreeEntry
          entry = record { first = first; count = n; metadata = is_metadata }

          once : order_of s.caches ≡ L2DependsOnRb → Keeps → IsSound mA → (c : ℕ) → counted mC c ≡ counted mB c + covers c (run_of first n)
          once order keeps sound c = subst (λ k. counted mC c ≡ counted mB c + covers c (run_of first k)) counts.whole (counted-more (Ok tt) counts order keeps sound tt c)

          run-counted : order_of s.caches ≡ L2DependsOnRb → Keeps → IsSound mA → IsRunCounted s.mark n mC entry
          run-counted order keeps sound =
              let found = ready.found order keeps sound in record {
                not_before_start = found.not_before_start;
                once = λ c above below. let none = found.free c above below in let one = covers-inside c first n above below in let more = once order keeps sound c in omega (arith, none, one, more);
                least = λ z above below.
                    let met = found.least z above below in
                    let some = met.3 in
                    let more = once order keeps sound met.0 in (
                      met.0,
                      met.1,
                      met.2,
                      covers-outside met.0 first n (λ from under. let none = found.free met.0 from under in omega (arith, none, some)),
                      omega (arith, some, more),
                    );
              }

          -- No cluster after the first `room_for` clusters of the space is counted.
          run-early : order_of s.caches ≡ L2DependsOnRb → Keeps → IsSound mA → (roomy : IsRoomy mA s.mark n) (c : ℕ) → roomy.first + room_for mA.header.fields n ≤ c → c < roomy.first + roomy.total → counted mC c ≡ 0
          run-early order keeps sound roomy c above below =
              let made = ready.little order keeps sound in
              let none = made.0.early roomy c above below in
              let ends = made.1 roomy in
              let apart = covers-outside c first n (λ from to. omega (arith, to, ends, above)) in
              let more = once order keeps sound c in
              omega (arith, none, apart, more)

          run-gapless : order_of s.caches ≡ L2DependsOnRb → Keeps → IsSound mA → n ≤ 1 → IsGapless s.mark mA mC
          run-gapless order keeps sound one c none some d from to =
              let more = once order keeps sound c in
              let has_no_dirty_data : 0 < counted mB d → 0 < counted mC d = (λ was. let more' = once order keeps sound d in omega (arith, was, more')) in
              elim (cases_eq (counted mB c) 0) [
                | inr made ↦ has_no_dirty_data ((ready.little order keeps sound).0.gapless one c none (omega (arith, made)) d from to)
                | inl free' ↦
                    let inside = covered-inside c first n (omega (arith, more, free', some)) in
                    let ends = inside.1 in
                    let met = (ready.found order keeps sound).least d from (omega (arith, to, ends, one)) in
                    let above = met.1 in
                    let below = met.2 in
                    let here : met.0 ≡ d = omega (arith, above, below, one) in
                    has_no_dirty_data (subst (λ x. 0 < counted mB x) here met.3)
              ]

          pub run-allocated : Handing (Ok entry) sB.table C fC sB.pending (first_free_after s.mark n first)
          run-allocated = record {
            leaked = λ _. 0;
            leaks = record { none = λ other c. refl; pinned = λ holds all c. refl };
            step = allocating-as state ⊤ ⊤ (λ c. covers c (run_of first counts.part)) (allocated_by (Ok entry) (λ _. 0)) s.image (image_state sB.table C fC sB.pending) (λ whole. whole)
                (λ c. ap (λ k. covers c (run_of first k)) counts.whole) (part-allocates (Ok tt) counts);
            run = (refl, refl, λ some. (ready.start_nonzero, ready.reach));
            taken = run-counted;
            fresh = λ order keeps sound c above below. elim (begun.raised order keeps sound tt c) [
              | inl same ↦ let none = free order keeps sound c above below in omega (arith, same, none)
              | inr up ↦ up.0
            ];
            little = λ order keeps sound. record { early = run-early order keeps sound; gapless = run-gapless order keeps sound };
            moved = refl;
            stays = tt;
            marked = λ order keeps sound whole. marked-behind mA mC s.mark n entry ((part-allocates (Ok tt) counts).raised order keeps sound tt) (run-counted order keeps sound);
            list = ready.list;
            cause = counts.cause ∙ ready.cause;
          }
