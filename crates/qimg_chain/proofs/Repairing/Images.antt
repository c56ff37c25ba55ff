-- The repair of a qcow2 image: each of its calls is a step, and together they repair all leaks.
use Rattle.std.proofs.Common.{◌≡◌, ◌∙◌, refl, ap, sym, subst, inl, inr, ℕ, ◌-◌, ◌<◌, List, [], arith, true, false, Option, None, Result, Ok, Err}
use Rattle.std.specs.Prelude.{⊤, Bool, ◌||◌, Vec, IsTrue, IfSome, OnOk, IfErr}
use Rattle.std.specs.Borrow.{RattleType}
use Rattle.std.specs.Global.{Global}
use Rattle.imago_storage.specs.Calls.{UnchangedButFaults}
use Rattle.imago_storage.specs.State.{HasRisen, StorageState}
use Rattle.imago_storage.specs.declared.fault.Fault.{Fault}
use Rattle.imago_storage.specs.declared.fault.Fault.TheVariants.{Counter, DamagedTable, Failed, Limit, Memory, ReadOnly, Storage}
use Rattle.imago_storage.specs.declared.storage.Storage.{Ghosts}
use Rattle.imago_access.specs.declared.driver_model.DriverModel.{Ghosts as SeenGhosts}
use Rattle.imago_access.specs.Failing.{Fails}
use Rattle.imago_access.specs.Files.{HadNoResourceError, files}
use Rattle.imago_access.specs.Going.{IsMarkedFailed, KeepsExcessRefcounts}
use Rattle.imago_access.specs.Layer.{IsFree, KeepsLayerState, Layer}
use Rattle.imago_access.specs.Parts.{PlainCause}
use Rattle.imago_access.specs.RunCalls.{DriverMarksFailed}
use Rattle.imago_access.specs.Stops.{GivesNone, IsCounted, IsWritten, Left}
use Rattle.imago_access.proofs.Marking.{alone_plain}
use Rattle.imago_access.proofs.Stopping.{passes_none}
use Rattle.qcow2_types.specs.Bytes.{bytes_of}
use Rattle.qcow2_types.specs.Consistency.{IsVerdict}
use Rattle.qcow2_types.specs.Counts.{counters_of_block}
use Rattle.qcow2_types.proofs.Counting.Consistent.{consistent-shaped}
use Rattle.qcow2_types.proofs.Counting.Counters.{some-counters}
use Rattle.qcow2_types.proofs.Counting.OneVerdict.{verdict-unique}
use Rattle.qcow2_alloc.specs.Caches.{cached_in}
use Rattle.qcow2_alloc.specs.Memory.{memory}
use Rattle.qcow2_clusters.specs.Lowering.{lowered_in}
use Rattle.qcow2_clusters.specs.declared.space.Space.{Space}
use Rattle.qcow2_image.specs.Allocating.{waits_in}
use Rattle.qcow2_image.specs.HeldHomes.{none-held, none-unspent}
use Rattle.qcow2_image.specs.KeepsDisk.{KeepsDisk}
use Rattle.qcow2_image.specs.Leaking.{counts_in, excess_refcount_of, leaks_of, names_in, pending}
use Rattle.qcow2_image.specs.Preparing.{LeavesMarkedFailed}
use Rattle.qcow2_image.specs.Repairing.{HasExcessFor, LowersCounts, WhyNotLowered}
use Rattle.qcow2_image.specs.Rooms.{IsCoherent, IsUntouched, IsWellFormed, is_sound, was_well_formed}
use Rattle.qcow2_image.specs.Seen.{file_of, layer_of, memory_of, with_image}
use Rattle.qcow2_image.specs.Unspent.{holding_in}
use Rattle.qcow2_image.specs.contracts.qcow2.Qcow2DriverModel.TheImpl.{ghosts}
use Rattle.qcow2_image.specs.declared.qcow2.PreparedMappingState.{PreparedMappingState}
use Rattle.qcow2_image.specs.declared.qcow2.Qcow2.{Qcow2}
use Rattle.qcow2_image.specs.declared.unspent.Unspent.{Unspent}
use Rattle.qcow2_image.proofs.ClusterSteps.{idle-waits}
use Rattle.qcow2_image.proofs.DiskEffects.{keeps-disk-both, keeps-disk-same, keeps-disk-then}
use Rattle.qcow2_image.proofs.ImageFlushes.{fixed-kept, like-kept, requested}
use Rattle.qcow2_image.proofs.LeakChanges.ListedLeaks.{lowered-listed}
use Rattle.qcow2_image.proofs.LeakChanges.LoweredCounts.{listed-has, listed-positive, waits-none}
use Rattle.qcow2_image.proofs.LeaksByFile.{leaks-same, surplus-kept}
use Rattle.qcow2_image.proofs.LeaksWithNothingPending.{none-pending}
use Rattle.qcow2_image.proofs.Steps.{layer-by, marks-kept}
use Rattle.qimg_calls.specs.Repairing.{ListsExcess, RepairsLeaksOf, repair_refusal}
use Rattle.qimg_chain.specs.Repairing.{ListsLeaks, WhyNotListed}
use Rattle.qimg_chain.proofs.Repairing.ListedExcess.{lists-excess}
use Rattle.qimg_chain.proofs.Repairing.Steps.{RepairStep, if-err, steps-both, whole-repair}

module _ (R : RattleType) (st : Ghosts R.Denot) (sd : mir.Syntax.Dict) (dd : mir.Syntax.Dict) where
  abbrev Image : Type 0
  Image = Qcow2 R.Denot st

  abbrev driver : SeenGhosts Image PreparedMappingState
  driver = ghosts R st sd dd

  pub coherent-whole : (d : Image) → IsWellFormed st d → IsCoherent st d
  coherent-whole d well_formed = record { seen = well_formed.seen; sure = inr (was_well_formed st d well_formed) }

  -- A call that keeps the disk is a step.
  disk-step : {T : Type 0} (old new : Image) (result : Result T Fault) → KeepsDisk st (HadNoResourceError result) old new → IfErr result (Fails driver old new)
      → IfErr result (DriverMarksFailed driver old new) → (IsWellFormed st old → IfErr result (PlainCause (layer_of st old) (files driver old) (files driver new)))
      → RepairStep driver old result new
  disk-step old new result k failed marks cause = record {
    same = λ well_formed whole. k.layer well_formed whole;
    crash_images = λ well_formed below. k.crash_images well_formed below;
    keeps_layer_state = like-kept R st sd dd old new (HadNoResourceError result) k;
    reloading_call = record {
      fixed = fixed-kept R st sd dd old new (HadNoResourceError result) k;
      failed = k.failed;
      counts_not_fallen = ((k.shape, k.counts_not_fallen), tt);
      faults = λ whole. (k.faults whole, tt);
      safely = λ whole well_formed. k.safely well_formed whole;
      stays_stable = λ stable. stable;
    };
    failed = failed;
    marks_failed = marks;
    cause = cause;
  }

  -- After a flush nothing is pending, if no mapping is prepared.
  pub flushed-untouched : (old new : Image) → IsFree (layer_of st old) → KeepsLayerState (layer_of st old) (layer_of st new)
      → waits_in new.tables.space ≡ false → IsUntouched st new
  flushed-untouched old new free keeps none = (
    none-unspent st new.unspent (none-held (holding_in st new.unspent) (keeps.unspent ∙ free)),
    waits-none new.tables.space none,
  )

  -- The storage failed while the leaks were listed, and then the image was set to failed.
  pub marked-list : (old new : Image) (w : R.Denot) → IsMarkedFailed driver (with_image old w) new
      → UnchangedButFaults (st.state old.tables.file.image) (st.state w) → HasRisen (st.state old.tables.file.image).faults (st.state w).faults
      → ListsLeaks st old (Err Storage) new
  marked-list old new w marked kept rose = record {
    rest = tt;
    unchanged_but_faults = subst (UnchangedButFaults (st.state old.tables.file.image)) (sym marked.unasked.0) kept;
    faults = λ whole. absurd whole;
    verdict = tt;
    cause = (
      marked.layer ∙ (λ i. record (same i) { failed = or_true (same i).failed i }),
      subst (λ (s : StorageState). HasRisen (st.state old.tables.file.image).faults s.faults) (sym marked.unasked.0) rose,
    );
  } where
    or_true : (b : Bool) → (b || true) ≡ true
    or_true true = refl
    or_true false = refl

    same : layer_of st (with_image old w) ≡ layer_of st old
    same = layer-by (st.state old.tables.file.image) (st.state w) (memory_of st old.tables) (memory_of st (with_image old w).tables)
        old.tables.file.header.fields old.tables.file.header.fields old.mode old.mode old.number old.number old.failed old.failed
        (holding_in st old.unspent) (holding_in st old.unspent) kept.shape kept.bytes
        (ap (λ (bytes : List ℕ). memory (bytes_of bytes) old.tables.file.header.fields (cached_in old.tables.caches)) kept.bytes) refl refl refl refl refl

  -- The leaks of the file are listed.
  module _ (old new : Image) (result : Result (Vec (ℕ × ℕ) Global) Fault) (l : ListsLeaks st old result new) where
    abbrev before : StorageState
    before = st.state old.tables.file.image

    abbrev after : StorageState
    after = st.state new.tables.file.image

    abbrev kept : UnchangedButFaults before after
    kept = l.unchanged_but_faults

    abbrev OnlyFile : Type 0
    OnlyFile = new ≡ with_image old new.tables.file.image

    silent : after.faults ≡ before.faults → OnlyFile → KeepsDisk st ⊤ old new
    silent same rest =
        requested st old new after l.unchanged_but_faults
        (record { faults = omega (arith, same); refusals = let none = l.unchanged_but_faults.refusals in omega (arith, none) }) refl
        (ap (λ (d : Image). d.tables.file.header) rest) (ap (λ (d : Image). d.tables.l1) rest) (ap (λ (d : Image). d.tables.caches) rest)
        (ap (λ (d : Image). d.tables.space) rest) (ap (λ (d : Image). d.mode) rest) (ap (λ (d : Image). d.number) rest)
        (ap (λ (d : Image). d.unspent) rest) (Ok tt) same (ap (λ (d : Image). d.failed) rest)

    -- The storage failed: only fault counts changed, and the image has failed.
    failed-list : layer_of st new ≡ record (layer_of st old) { failed = true } → HasRisen before.faults after.faults
        → RepairStep {T = Vec (ℕ × ℕ) Global} driver old (Err Storage) new
    failed-list layer rose = record {
      same = λ well_formed whole. absurd whole;
      crash_images = λ well_formed below.
          passes_none (Left below (layer_of st old) before.bytes is_sound (layer_of st old).size (layer_of st old).size GivesNone) before after
          kept.shape (kept.crash_image, kept.past_crash_images, kept.bytes, kept.refusals);
      keeps_layer_state = record {
        fixed = ap (λ (x : Layer). x.fixed) layer;
        size = ap (λ (x : Layer). x.size) layer;
        unspent = ap (λ (x : Layer). x.unspent) layer;
        failed = λ was. ap (λ (x : Layer). x.failed) layer;
      };
      reloading_call = record {
        fixed = ap (λ (x : Layer). x.fixed) layer;
        failed = λ was. ap (λ (x : Layer). x.failed) layer;
        counts_not_fallen = ((kept.shape, record { faults = rose.not_fallen; refusals = let none = kept.refusals in omega (arith, none) }), tt);
        faults = λ whole. absurd whole;
        safely = λ whole well_formed. absurd whole;
        stays_stable = λ stable. stable;
      };
      failed = inl rose;
      marks_failed = λ marks. ap (λ (x : Layer). x.failed) layer;
      cause = λ well_formed. inl rose;
    }

    stepped : (r : Result (Vec (ℕ × ℕ) Global) Fault) → (HadNoResourceError r → after.faults ≡ before.faults) → OnOk r OnlyFile → IfErr r (WhyNotListed st old new)
        → RepairStep driver old r new
    stepped (Ok pairs) faults rest why = disk-step old new (Ok pairs) (silent (faults tt) rest) tt tt (λ well_formed. tt)
    stepped (Err Memory) faults rest why = disk-step old new (Err Memory) (keeps-disk-both st ⊤ ⊥ old new new tt (silent why.1 why.0) (keeps-disk-same st ⊥ new))
        tt (λ marks. inr (λ well_formed. (silent why.1 why.0).safely well_formed tt)) (λ well_formed. tt)
    stepped (Err Storage) faults rest why = failed-list why.0 why.1
    stepped (Err DamagedTable) faults rest why = disk-step old new (Err DamagedTable) (silent (faults tt) why.0) tt tt
        (λ well_formed. absurd (why.1 (old.tables.file.header, well_formed.consistent)))
    stepped (Err e) faults rest why = absurd why

    pub list-step : RepairStep driver old result new
    list-step = stepped result l.faults l.rest l.cause

  module _ (old new : Image) (pairs : Vec (ℕ × ℕ) Global) (l : ListsLeaks st old (Ok pairs) new) where
    pub listed-untouched : IsUntouched st old → IsUntouched st new
    listed-untouched untouched = (
      ap (λ (d : Image). d.unspent) l.rest ∙ untouched.0,
      subst (λ (o : Option Space). IfSome o (λ space. space.to_free.entries ≡ [])) (sym (ap (λ (d : Image). d.tables.space) l.rest)) untouched.1,
    )

    pub listed-writable : IsTrue old.mode.writable → IsTrue new.mode.writable
    listed-writable is = ap (λ (d : Image). d.mode.writable) l.rest ∙ is

    -- The pairs are the leaks of a well-formed image.
    pub listed-leaks : IsWellFormed st new → pairs.items ≡ leaks_of st new
    listed-leaks well_formed =
        let now : IsVerdict (file_of st new.tables) (Ok pairs.items) =
        subst (λ (bytes : List ℕ). IsVerdict (bytes_of bytes) (Ok pairs.items)) (sym l.unchanged_but_faults.bytes) l.verdict in
        let both : Ok pairs.items ≡ Ok (leaks_of st new) =
        verdict-unique (file_of st new.tables) (Ok pairs.items) (Ok (leaks_of st new)) now (new.tables.file.header, well_formed.consistent, refl) in
        cc both

    pub listed-excess : (c : ℕ) → excess_refcount_of st new c ≡ excess_refcount_of st old c
    listed-excess = surplus-kept st old new (leaks-same st old new (ap bytes_of l.unchanged_but_faults.bytes) (ap (λ (d : Image). d.tables.file.header) l.rest)
        (λ c. ap (λ (d : Image). pending st d c) l.rest))

  -- The refcounts of the leaks are lowered.
  module _ (pairs : List (ℕ × ℕ)) (old new : Image) (result : Result Unit Fault) (l : LowersCounts st pairs old result new) (untouched : IsUntouched st old)
      (writable : IsTrue old.mode.writable) (are : IsWellFormed st old → pairs ≡ leaks_of st old) where
    abbrev has : IsWellFormed st old → HasExcessFor st pairs old
    has well_formed = listed-has st pairs old well_formed untouched (are well_formed)

    lowered-keeps : KeepsDisk st (HadNoResourceError result) old new
    lowered-keeps = keeps-disk-then st (IsWellFormed st old) (IsWellFormed st old) (HasExcessFor st pairs old) ⊤ (HadNoResourceError result) old old new tt
        (λ well_formed. well_formed) has (keeps-disk-same st ⊤ old) l.keeps

    lowered-fails : (e : Fault) → WhyNotLowered st pairs old new e → Fails driver old new e
    lowered-fails Failed why = tt
    lowered-fails ReadOnly why = tt
    lowered-fails Memory why = tt
    lowered-fails Storage why = inl why
    lowered-fails DamagedTable why = tt
    lowered-fails Counter why = tt
    lowered-fails (Limit n) why = tt
    lowered-fails e why = absurd why

    lowered-marks : (e : Fault) → LeavesMarkedFailed st old new e → DriverMarksFailed driver old new e
    lowered-marks Storage marked = λ marks. marked
    lowered-marks Memory marked = elim marked [
      | inl failed ↦ λ marks. inl failed
      | inr kept ↦ alone_plain driver old new Memory (marks-kept R st sd dd {T = Unit} old new (Err Memory) kept)
    ]
    lowered-marks e marked = tt

    lowered-cause : IsWellFormed st old → (e : Fault) → WhyNotLowered st pairs old new e → PlainCause (layer_of st old) (files driver old) (files driver new) e
    lowered-cause well_formed Failed why = absurd (let bad : true ≡ false = sym why ∙ well_formed.runs in cc bad)
    lowered-cause well_formed ReadOnly why = absurd (let bad : true ≡ false = sym writable ∙ why.1 in cc bad)
    lowered-cause well_formed Memory why = tt
    lowered-cause well_formed Storage why = inl why
    lowered-cause well_formed DamagedTable why = absurd (why (has well_formed, listed-positive st pairs old (are well_formed)))
    lowered-cause well_formed Counter why = absurd (why (has well_formed, listed-positive st pairs old (are well_formed)))
    lowered-cause well_formed (Limit n) why = absurd (why (has well_formed, listed-positive st pairs old (are well_formed)))
    lowered-cause well_formed e why = absurd why

    pub lower-step : RepairStep driver old result new
    lower-step = disk-step old new result lowered-keeps
        (if-err result (WhyNotLowered st pairs old new) (Fails driver old new) lowered-fails l.cause)
        (if-err result (LeavesMarkedFailed st old new) (DriverMarksFailed driver old new) lowered-marks l.marked)
        (λ well_formed. if-err result (WhyNotLowered st pairs old new) (PlainCause (layer_of st old) (files driver old) (files driver new)) (lowered-cause well_formed) l.cause)

    some-counters-in : (d : Image) → IsWellFormed st d → 0 < counters_of_block d.tables.file.header.fields
    some-counters-in d well_formed = some-counters d.tables.file.header.fields (consistent-shaped (file_of st d.tables) d.tables.file.header well_formed.consistent)

    -- The pairs list the excess refcounts, as nothing is pending.
    pub pairs-excess : (excess : ℕ → ℕ) → ((c : ℕ) → excess_refcount_of st old c ≡ excess c) → IsWellFormed st old → ListsExcess excess pairs
    pairs-excess excess same well_formed =
        subst (ListsExcess excess) (sym (are well_formed))
        (lists-excess (file_of st old.tables) old.tables.file.header.fields excess
        (λ c.
        let idle = none-pending st old (idle-waits old.tables.space untouched.1) (ap (λ (u : Option (Unspent R.Denot st)). (layer_of st (record old { unspent = u })).unspent) untouched.0) c in
        let at = same c in
        omega (arith, idle, at))
        (some-counters-in old well_formed))

    -- No cluster has an excess refcount afterwards.
    pub none-excess : IsWellFormed st old → IsWellFormed st new → result ≡ Ok tt → (c : ℕ) → excess_refcount_of st new c ≡ 0
    none-excess well_formed now ok c =
        let none : leaks_of st new ≡ [] = subst (λ (r : Result Unit Fault). OnOk r (leaks_of st new ≡ [])) ok (l.repaired well_formed untouched (are well_formed)) in
        let all : lowered_in (leaks_of st new) c ≡ counts_in st new c - names_in st new c =
        lowered-listed (file_of st new.tables) new.tables.file.header.fields (some-counters-in new now) c in
        let zero : lowered_in (leaks_of st new) c ≡ 0 = ap (λ (ps : List (ℕ × ℕ)). lowered_in ps c) none in
        omega (arith, all, zero)

  -- The leaks are listed, and then the refcounts are lowered.
  module _ (one two three : Image) (pairs : Vec (ℕ × ℕ) Global) (result : Result Unit Fault) (untouched : IsUntouched st one) (writable : IsTrue one.mode.writable)
      (lists : ListsLeaks st one (Ok pairs) two) (lowers : LowersCounts st pairs.items two result three) where
    abbrev idle : IsUntouched st two
    idle = listed-untouched one two pairs lists untouched

    abbrev still : IsTrue two.mode.writable
    still = listed-writable one two pairs lists writable

    abbrev are : IsWellFormed st two → pairs.items ≡ leaks_of st two
    are = listed-leaks one two pairs lists

    pub lowered-after : RepairStep driver one result three
    lowered-after = steps-both driver one two three pairs result (list-step one two (Ok pairs) lists) (lower-step pairs.items two three result lowers idle still are)

    after-list : IsWellFormed st one → IsWellFormed st two
    after-list well_formed = (list-step one two (Ok pairs) lists).reloading_call.safely tt well_formed

    pub lists-those : (excess : ℕ → ℕ) → ((c : ℕ) → excess_refcount_of st one c ≡ excess c) → IsWellFormed st one → ListsExcess excess pairs.items
    lists-those excess same well_formed = pairs-excess pairs.items two three result lowers idle still are excess
        (λ c. listed-excess one two pairs lists c ∙ same c) (after-list well_formed)

    pub none-there : IsWellFormed st one → IsWellFormed st three → result ≡ Ok tt → (c : ℕ) → excess_refcount_of st three c ≡ 0
    none-there well_formed now ok = none-excess pairs.items two three result lowers idle still are (after-list well_formed) now ok

  -- All calls succeeded.
  module _ (old one two three new : Image) (pairs : Vec (ℕ × ℕ) Global) (unrefused : repair_refusal (layer_of st old) ≡ None) (untouched : IsUntouched st one)
      (writable : IsTrue one.mode.writable) (lists : ListsLeaks st one (Ok pairs) two) (lowers : LowersCounts st pairs.items two (Ok tt) three)
      (first : RepairStep {T = Unit} driver old (Ok tt) one) (last : RepairStep {T = Unit} driver three (Ok tt) new)
      (excess_first : IsWellFormed st old → KeepsExcessRefcounts driver old one) (written_first : IsWellFormed st old → IsWritten driver one)
      (counted_first : IsWellFormed st old → IsCounted driver one)
      (excess_last : IsWellFormed st three → KeepsExcessRefcounts driver three new) (written_last : IsWellFormed st three → IsWritten driver new)
      (counted_last : IsWellFormed st three → IsCounted driver new) where
    lowered : RepairStep {T = Unit} driver one (Ok tt) three
    lowered = lowered-after one two three pairs (Ok tt) untouched writable lists lowers

    later : RepairStep {T = Unit} driver one (Ok tt) new
    later = steps-both {T = Unit} {U = Unit} driver one three new tt (Ok tt) lowered last

    after-first : IsWellFormed st old → IsWellFormed st one
    after-first well_formed = first.reloading_call.safely tt well_formed

    after-lowered : IsWellFormed st old → IsWellFormed st three
    after-lowered well_formed = lowered.reloading_call.safely tt (after-first well_formed)

    pub repaired-image : RepairsLeaksOf driver old (Ok pairs) new
    repaired-image = whole-repair driver old new unrefused {T = Unit} tt pairs (steps-both {T = Unit} {U = Unit} driver old one new tt (Ok tt) first later)
        (λ well_formed. lists-those one two three pairs (Ok tt) untouched writable lists lowers (excess_refcount_of st old) (excess_first well_formed) (after-first well_formed))
        (λ well_formed c. excess_last (after-lowered well_formed) c
        ∙ none-there one two three pairs (Ok tt) untouched writable lists lowers (after-first well_formed) (after-lowered well_formed) refl c)
        (λ well_formed. written_last (after-lowered well_formed)) (λ well_formed. counted_last (after-lowered well_formed))
        (λ well_formed. record {
          mid = one;
          layer = first.same well_formed tt;
          written = written_first well_formed;
          counted = counted_first well_formed;
          excess_refcount = excess_first well_formed;
          flush = λ below. first.crash_images well_formed below;
          crash_images = λ below. later.crash_images (after-first well_formed) below;
        })
