-- Lemmas on an image whose refcounts that were too high are lowered.
use Rattle.std.proofs.Common.{◌≡◌, ℕ, ◌+◌, ◌-◌, ◌<◌, refl, arith, ap, sym, subst, ◌∙◌, inl, List, [], ◌∷◌, length, take, true, false, Option, Some, None, Result, Ok, Err}
use Rattle.std.proofs.lemmas.Bool.{ne_eqb}
use Rattle.std.proofs.lemmas.List.{take_all}
use Rattle.std.proofs.lemmas.List.Sums.{sum_by-take-le}
use Rattle.std.specs.Prelude.{⊤, not, ◌==◌, IsSome, IfSome, IfErr, OnOk, IsTrue, IsFalse}
use Rattle.imago_storage.specs.declared.fault.Fault.{Fault}
use Rattle.imago_storage.specs.declared.fault.Fault.TheVariants.{DamagedTable, Failed, Memory, ReadOnly, Storage}
use Rattle.imago_storage.specs.declared.storage.Storage.{Ghosts}
use Rattle.imago_access.specs.Files.{HadNoResourceError, IsNotResourceError}
use Rattle.qcow2_types.specs.Bytes.{Bytes}
use Rattle.qcow2_types.specs.Counts.{count, counters_of_block}
use Rattle.qcow2_types.specs.Pending.{FreeEntry}
use Rattle.qcow2_types.specs.References.{refs}
use Rattle.qcow2_types.specs.Versions.{references_in_either}
use Rattle.qcow2_types.proofs.Counting.Consistent.{consistent-shaped}
use Rattle.qcow2_types.proofs.Counting.Counters.{some-counters}
use Rattle.qcow2_types.proofs.Counting.Either.{named-clean}
use Rattle.qcow2_alloc.specs.Causes.{HasCause}
use Rattle.qcow2_alloc.specs.FreeList.{listed}
use Rattle.qcow2_alloc.specs.GuestView.{counted, many_at, referenced, referenced_at_all}
use Rattle.qcow2_alloc.specs.Opening.{IsL1Of}
use Rattle.qcow2_alloc.specs.declared.cache.MetadataCaches.{MetadataCaches}
use Rattle.qcow2_alloc.proofs.Causes.{cause-weaker}
use Rattle.qcow2_clusters.specs.Flushed.{IsReady, clusters_state}
use Rattle.qcow2_clusters.specs.Freeing.{releasing_causes}
use Rattle.qcow2_clusters.specs.Lowering.{ArePositive, HaveExcess, LowersLeaks, lowered_in}
use Rattle.qcow2_clusters.specs.Progress.{Kind, handing}
use Rattle.qcow2_clusters.specs.declared.space.Space.{Space}
use Rattle.qcow2_image.specs.Allocating.{LoadsSpace, failed_by_resource_error, waits_in}
use Rattle.qcow2_image.specs.Holding.{mapping_id_held}
use Rattle.qcow2_image.specs.KeepsDisk.{KeepsDisk, KeepsDiskWhere}
use Rattle.qcow2_image.specs.Leaking.{counts_in, excess_refcount_of, leaks_of, names_in, pending, waiting_in}
use Rattle.qcow2_image.specs.Preparing.{LeavesMarkedFailed}
use Rattle.qcow2_image.specs.Repairing.{HasExcessFor, LowersCounts, LowersPairs, WhyNotLowered, lowering_causes}
use Rattle.qcow2_image.specs.Rooms.{IsUntouched, IsWellFormed, rest_of}
use Rattle.qcow2_image.specs.Seen.{file_of}
use Rattle.qcow2_image.specs.Unspent.{holding_in}
use Rattle.qcow2_image.specs.declared.qcow2.Qcow2.{Qcow2}
use Rattle.qcow2_image.specs.declared.tables.Tables.{Tables}
use Rattle.qcow2_image.proofs.CallStarts.{quiet-marked}
use Rattle.qcow2_image.proofs.ClusterSteps.{advanced-by, idle-waits, none-spared, ready}
use Rattle.qcow2_image.proofs.DiskEffects.{LeavesUntouched, keeps-disk-same, keeps-disk-then, rest-memory, safe-sound, whole-below}
use Rattle.qcow2_image.proofs.LeakChanges.ListedLeaks.{lowered-listed, none-listed, positive-listed}
use Rattle.qcow2_image.proofs.LeaksByFile.{surplus-kept}
use Rattle.qcow2_image.proofs.LeaksWithNothingPending.{none-pending}
use Rattle.qcow2_image.proofs.Preparations.Reservations.{why-loaded}

if-err : (r : Result Unit Fault) (P Q : Fault → Type 0) → ((e : Fault) → P e → Q e) → IfErr r P → IfErr r Q
if-err (Ok done) P Q each holds = tt
if-err (Err e) P Q each holds = each e holds

-- If no cluster is pending, the free list is empty.
pub waits-none : (o : Option Space) → waits_in o ≡ false → IfSome o (λ space. space.to_free.entries ≡ [])
waits-none None none = tt
waits-none (Some space) none = empty space.to_free.entries none where
  empty : (entries : List FreeEntry) → not (length entries == 0) ≡ false → entries ≡ []
  empty [] none = refl
  empty (e ∷ entries) none =
      let some : (length (e ∷ entries) == 0) ≡ false = ne_eqb (length (e ∷ entries)) 0 (λ is. omega (arith, is)) in
      let bad : true ≡ false = sym (ap not some) ∙ none in
      absurd (cc bad)

-- The refcounts of the pairs were lowered.
module _ {S : Type 0} (g : Ghosts S) (pairs : List (ℕ × ℕ)) (old : Qcow2 S g) (mid : Tables S g) (space space' : Space) (caches : MetadataCaches S)
    (result : Result Unit Fault) (there : old.tables.space ≡ Some space) (there' : mid.space ≡ Some space') (l1 : mid.l1 ≡ old.tables.l1)
    (free : old.unspent ≡ None)
    (lowers : LowersLeaks g.state pairs (clusters_state old.tables.file caches space) result (clusters_state mid.file mid.caches space')) where
  abbrev lowered_now : Qcow2 S g
  lowered_now = record old { tables = mid; failed = failed_by_resource_error result true old.failed }

  abbrev kind : Kind
  kind = handing (λ _. 0) (lowered_in (take lowers.part pairs))

  lowered-ready : IsWellFormed g old → IsReady g.state (clusters_state old.tables.file caches space)
  lowered-ready = ready g old true mid space space' caches result there there' lowers.rests

  excess-there : HasExcessFor g pairs old → HaveExcess (rest_of g old.tables space) pairs
  excess-there has c =
      let f = file_of g old.tables in
      let h = old.tables.file.header.fields in
      let covered = (safe-sound g old space there has.well_formed).covered c in
      let counts : counted (rest_of g old.tables space) c ≡ count f h c = ap (λ (b : Bytes). count b h c) (rest-memory g old.tables space) in
      let names : referenced (rest_of g old.tables space) c ≡ refs f h c = ap (λ (b : Bytes). refs b h c) (rest-memory g old.tables space) in
      let all : referenced_at_all (rest_of g old.tables space) c ≡ refs f h c =
      ap (λ (b : Bytes). references_in_either f b h c) (rest-memory g old.tables space) ∙ named-clean f f h c (λ i j live. refl) in
      let waits : waiting_in old.tables.space c ≡ listed space.to_free.entries c = ap (λ o. waiting_in o c) there in
      let less = has.excess c in
      omega (arith, covered, counts, names, all, waits, less)

  l1-lowered : HasExcessFor g pairs old → HadNoResourceError result → IsL1Of (file_of g mid) mid.file.header.fields mid.l1
  l1-lowered has whole = subst (IsL1Of (file_of g mid) mid.file.header.fields) (sym l1)
      (lowers.l1 (excess-there has) (lowered-ready has.well_formed) (whole-below result whole) old.tables.l1 has.well_formed.seen.l1)

  lowered-leaks : HasExcessFor g pairs old → HadNoResourceError result → (c : ℕ)
      → counts_in g lowered_now c + names_in g old c + pending g old c + lowered_in (take lowers.part pairs) c ≡ counts_in g old c + names_in g lowered_now c + pending g lowered_now c
  lowered-leaks has whole c =
      let was = file_of g old.tables in
      let now = file_of g mid in
      let h = old.tables.file.header.fields in
      let h' = mid.file.header.fields in
      let progress = lowers.progress (λ ready. excess-there has) in
      let law = (progress.holds has.well_formed.keeps (safe-sound g old space there has.well_formed) (whole-below result whole)).law c in
      let counts : counted (rest_of g old.tables space) c ≡ count was h c = ap (λ (b : Bytes). count b h c) (rest-memory g old.tables space) in
      let counts' : counted (rest_of g mid space') c ≡ count now h' c = ap (λ (b : Bytes). count b h' c) (rest-memory g mid space') in
      let names : referenced (rest_of g old.tables space) c ≡ refs was h c = ap (λ (b : Bytes). refs b h c) (rest-memory g old.tables space) in
      let names' : referenced (rest_of g mid space') c ≡ refs now h' c = ap (λ (b : Bytes). refs b h' c) (rest-memory g mid space') in
      let waits : waiting_in old.tables.space c ≡ listed space.to_free.entries c = ap (λ o. waiting_in o c) there in
      let waits' : waiting_in mid.space c ≡ listed space'.to_free.entries c = ap (λ o. waiting_in o c) there' in
      omega (arith, law, counts, counts', names, names', waits, waits')

  pub pairs-lowered : LowersPairs g pairs old result lowered_now
  pairs-lowered = record {
    part = lowers.part;
    whole = lowers.whole;
    keeps = advanced-by g old true mid space space' caches result there there' lowers.rests (HasExcessFor g pairs old) kind (λ has. has.well_formed)
        (λ p v gave. gave) (λ guest is. is)
        (none-spared g old (LeavesUntouched g (HadNoResourceError result) kind old lowered_now space space') free) l1-lowered
        (λ has. lowers.marked (excess-there has)) (λ has. lowers.progress (λ ready. excess-there has));
    leaks = lowered-leaks;
    idle = λ untouched. (
      untouched.0,
      subst (λ (o : Option Space). IfSome o (λ x. x.to_free.entries ≡ [])) (sym there')
          (ap (λ l. l.entries) lowers.to_free ∙ subst (λ (o : Option Space). IfSome o (λ x. x.to_free.entries ≡ [])) there untouched.1),
    );
    header = lowers.header;
    marks_failed = refl;
    cause = if-err result _ _ (λ e. cause-weaker (record {
      before = omega arith;
      after = omega arith;
      damaged = λ wrong given. wrong (lowered-ready given.0.well_formed, excess-there given.0, given.1);
      counter = λ wrong given. wrong (lowered-ready given.0.well_formed, excess-there given.0, given.1);
      full = absurd;
      limit = λ number. absurd;
    }) e) lowers.cause;
  }

module _ {S : Type 0} (g : Ghosts S) (pairs : List (ℕ × ℕ)) where
  sure-keeps : (ok : Type 0) (old new : Qcow2 S g) → KeepsDisk g ok old new → KeepsDiskWhere g (HasExcessFor g pairs old) ok old new
  sure-keeps ok old new k =
      keeps-disk-then g (HasExcessFor g pairs old) (IsWellFormed g old) (IsWellFormed g old) ⊤ ok old old new tt (λ has. has.well_formed) (λ has. has.well_formed) (keeps-disk-same g ⊤ old) k

  -- Nothing is done without the free space.
  spaceless-same : (d : Qcow2 S g) → d.tables.space ≡ None → LowersPairs g pairs d (Err DamagedTable) d
  spaceless-same d none = record {
    part = 0;
    whole = tt;
    keeps = sure-keeps (HadNoResourceError {T = Unit} (Err DamagedTable)) d d (keeps-disk-same g _ d);
    leaks = λ has whole c. omega arith;
    idle = λ untouched. untouched;
    header = refl;
    marks_failed = refl;
    cause = λ given. spaceless d.tables.space none given.2;
  } where
    spaceless : (o : Option Space) → o ≡ None → IsSome o → ⊥
    spaceless None is some = absurd (cc some)
    spaceless (Some space) is some = absurd (cc is)

  pub pairs-spaceless : (d : Qcow2 S g) (t : Tables S g) → d.tables.space ≡ None → t ≡ d.tables → LowersPairs g pairs d (Err DamagedTable) (record d { tables = t })
  pairs-spaceless d t none is = subst (λ (x : Tables S g). LowersPairs g pairs d (Err DamagedTable) (record d { tables = x })) (sym is) (spaceless-same d none)

  -- The leaks of the file are excess refcounts if nothing is pending.
  idle-pending : (d : Qcow2 S g) → IsUntouched g d → (c : ℕ) → pending g d c ≡ 0
  idle-pending d untouched = none-pending g d (idle-waits d.tables.space untouched.1) (ap (λ u. mapping_id_held (holding_in g u)) untouched.0)

  some-counters-of : (d : Qcow2 S g) → IsWellFormed g d → 0 < counters_of_block d.tables.file.header.fields
  some-counters-of d well_formed = some-counters d.tables.file.header.fields (consistent-shaped (file_of g d.tables) d.tables.file.header well_formed.consistent)

  pub listed-has : (d : Qcow2 S g) → IsWellFormed g d → IsUntouched g d → pairs ≡ leaks_of g d → HasExcessFor g pairs d
  listed-has d well_formed untouched is = record {
    well_formed = well_formed;
    excess = λ c.
        let every : lowered_in pairs c ≡ counts_in g d c - names_in g d c =
        ap (λ (ps : List (ℕ × ℕ)). lowered_in ps c) is ∙ lowered-listed (file_of g d.tables) d.tables.file.header.fields (some-counters-of d well_formed) c in
        let none = idle-pending d untouched c in
        omega (arith, every, none);
  }

  pub listed-positive : (d : Qcow2 S g) → pairs ≡ leaks_of g d → ArePositive pairs
  listed-positive d is = subst ArePositive (sym is) (positive-listed (file_of g d.tables) d.tables.file.header.fields)

  why-by : (old new : Qcow2 S g) (e : Fault) → HasCause (lowering_causes g pairs old new) e → WhyNotLowered g pairs old new e
  why-by old new Failed why = absurd why
  why-by old new ReadOnly why = absurd why
  why-by old new e why = why

  -- The call refuses a failed image, and then a read-only one.
  refused-same : (d : Qcow2 S g) (e : Fault) → (IsTrue d.failed → e ≡ Failed) → (d.failed ≡ false → IsFalse d.mode.writable → e ≡ ReadOnly)
      → LeavesMarkedFailed g d d e → WhyNotLowered g pairs d d e → LowersCounts g pairs d (Err e) d
  refused-same d e failed closed marked why = record {
    part = 0;
    whole = tt;
    keeps = sure-keeps (HadNoResourceError {T = Unit} (Err e)) d d (keeps-disk-same g _ d);
    excess = λ has whole c. omega arith;
    repaired = λ well_formed untouched is. tt;
    idle = λ untouched. untouched;
    header = refl;
    failed = λ is. (ap Err (failed is), refl);
    read_only = λ runs is. (ap Err (closed runs is), refl);
    marked = marked;
    cause = why;
  }

  pub lower-failed : (d : Qcow2 S g) → IsTrue d.failed → LowersCounts g pairs d (Err Failed) d
  lower-failed d is = refused-same d Failed (λ _. refl) (λ runs closed. absurd (cc (sym is ∙ runs))) tt is

  pub lower-closed : (d : Qcow2 S g) → d.failed ≡ false → IsFalse d.mode.writable → LowersCounts g pairs d (Err ReadOnly) d
  lower-closed d runs closed = refused-same d ReadOnly (λ is. absurd (cc (sym is ∙ runs))) (λ _ _. refl) tt (runs, closed)

  module _ (old : Qcow2 S g) (runs : old.failed ≡ false) (writable : IsTrue old.mode.writable) where
    abbrev Given : Type 0
    Given = HasExcessFor g pairs old × ArePositive pairs

    still-runs : {A : Type 0} → IsTrue old.failed → A
    still-runs is = absurd (cc (sym is ∙ runs))

    still-open : {A : Type 0} → old.failed ≡ false → IsFalse old.mode.writable → A
    still-open was closed = absurd (cc (sym writable ∙ closed))

    -- The free space isn't loaded.
    pub lower-unloaded : (new : Qcow2 S g) (e : Fault) → LoadsSpace g old (Err e) new → LowersCounts g pairs old (Err e) new
    lower-unloaded new e l = record {
      part = 0;
      whole = tt;
      keeps = sure-keeps (IsNotResourceError e) old new l.keeps;
      excess = λ has whole c. let same = surplus-kept g old new l.leaks c in omega (arith, same);
      repaired = λ well_formed untouched is. tt;
      idle = l.idle;
      header = l.same.tables.header;
      failed = still-runs;
      read_only = still-open;
      marked = quiet-marked g {T = Unit} old new e l.same;
      cause = why-by old new e (cause-weaker (record {
        before = omega arith;
        after = omega arith;
        damaged = λ wrong given. wrong given.0.well_formed;
        counter = λ wrong given. wrong given.0.well_formed;
        full = absurd;
        limit = λ number none given. none given.0.well_formed;
      }) e (why-loaded g (λ number. ⊥) old new e l.cause l.known_cause));
    }

    -- The free space is loaded, and then the refcounts are lowered.
    module _ (mid new : Qcow2 S g) (result : Result Unit Fault) (l : LoadsSpace g old (Ok tt) mid) (lowers : LowersPairs g pairs mid result new) where
      has-there : HasExcessFor g pairs old → HasExcessFor g pairs mid
      has-there has = record {
        well_formed = l.keeps.safely has.well_formed tt;
        excess = λ c. let same = surplus-kept g old mid l.leaks c in let less = has.excess c in omega (arith, same, less);
      }

      excess-fallen : HasExcessFor g pairs old → HadNoResourceError result
          → (c : ℕ) → excess_refcount_of g new c + lowered_in (take lowers.part pairs) c ≡ excess_refcount_of g old c
      excess-fallen has whole c =
          let same = surplus-kept g old mid l.leaks c in
          let less = (has-there has).excess c in
          let part = sum_by-take-le (λ (p : ℕ × ℕ). many_at p.0 p.1 c) pairs lowers.part in
          let law = lowers.leaks (has-there has) whole c in
          omega (arith, same, less, part, law)

      untouched-there : IsUntouched g old → IsUntouched g new
      untouched-there untouched = lowers.idle (l.idle untouched)

      repaired-there : IsWellFormed g old → IsUntouched g old → pairs ≡ leaks_of g old → (r : Result Unit Fault) → result ≡ r → OnOk r (leaks_of g new ≡ [])
      repaired-there well_formed untouched is (Err e) by = tt
      repaired-there well_formed untouched is (Ok done) by = none-listed (file_of g new.tables) new.tables.file.header.fields (λ c.
          let all : take lowers.part pairs ≡ pairs = take_all lowers.part pairs (let whole = subst (λ (r : Result Unit Fault). OnOk r (lowers.part ≡ length pairs)) by lowers.whole in omega (arith, whole)) in
          let fallen = excess-fallen (listed-has old well_formed untouched is) (subst (λ (r : Result Unit Fault). HadNoResourceError r) (sym by) tt) c in
          let every : lowered_in (take lowers.part pairs) c ≡ counts_in g old c - names_in g old c =
          ap (λ (ps : List (ℕ × ℕ)). lowered_in ps c) (all ∙ is) ∙ lowered-listed (file_of g old.tables) old.tables.file.header.fields (some-counters-of old well_formed) c in
          let before = idle-pending old untouched c in
          let after = idle-pending new (untouched-there untouched) c in
          omega (arith, fallen, every, before, after))

      why-there : (e : Fault) → result ≡ Err e → WhyNotLowered g pairs old new e
      why-there e by = why-by old new e (cause-weaker (record {
        before = (let same = (l.keeps.faults tt).0 in omega (arith, same));
        after = omega arith;
        damaged = λ wrong given. wrong (has-there given.0, given.1, l.known);
        counter = λ wrong given. wrong (has-there given.0, given.1, l.known);
        full = absurd;
        limit = λ number. absurd;
      }) e (subst (λ (r : Result Unit Fault). IfErr r (HasCause (releasing_causes (HasExcessFor g pairs mid × ArePositive pairs × IsSome mid.tables.space)
          (g.state mid.tables.file.image).faults (g.state new.tables.file.image).faults))) by lowers.cause))

      marked-there : (e : Fault) → result ≡ Err e → LeavesMarkedFailed g old new e
      marked-there e by = cut e (lowers.marks_failed ∙ ap (λ (r : Result Unit Fault). failed_by_resource_error r true mid.failed) by) where
        cut : (f : Fault) → new.failed ≡ failed_by_resource_error {T = Unit} (Err f) true mid.failed → LeavesMarkedFailed g old new f
        cut Storage is = is
        cut Memory is = inl is
        cut f is = tt

      on-err : (r : Result Unit Fault) (P : Fault → Type 0) → ((e : Fault) → r ≡ Err e → P e) → IfErr r P
      on-err (Ok done) P each = tt
      on-err (Err e) P each = each e refl

      pub lower-loaded : LowersCounts g pairs old result new
      lower-loaded = record {
        part = lowers.part;
        whole = lowers.whole;
        keeps = keeps-disk-then g (HasExcessFor g pairs old) (IsWellFormed g old) (HasExcessFor g pairs mid) ⊤ (HadNoResourceError result) old mid new tt
            (λ has. has.well_formed) has-there l.keeps lowers.keeps;
        excess = excess-fallen;
        repaired = λ well_formed untouched is. repaired-there well_formed untouched is result refl;
        idle = untouched-there;
        header = lowers.header ∙ header-on l.top;
        failed = still-runs;
        read_only = still-open;
        marked = on-err result (LeavesMarkedFailed g old new) marked-there;
        cause = on-err result (WhyNotLowered g pairs old new) why-there;
      } where
        header-on : (mid.tables.l1 ≡ old.tables.l1) × (mid.tables.file.header ≡ old.tables.file.header) → mid.tables.file.header ≡ old.tables.file.header
        header-on top = top.1
