-- Lemmas on copies of shared L2 tables: of none, of one guest cluster's, and two steps in sequence.
use Rattle.std.proofs.Common.{◌≡◌, ℕ, ◌+◌, ◌/◌, ◌≤◌, refl, arith, ap, sym, subst, ◌∙◌, inl, inr, Bool, true, None, Result, Ok, Err}
use Rattle.std.specs.Prelude.{⊤, IsTrue, IsSome, IfErr}
use Rattle.std.proofs.lemmas.Bool.{cases_Bool}
use Rattle.imago_storage.specs.declared.fault.Fault.{Fault}
use Rattle.imago_storage.specs.declared.fault.Fault.TheVariants.{Limit, Memory, Storage}
use Rattle.imago_storage.specs.declared.storage.Storage.{Ghosts}
use Rattle.imago_access.specs.Files.{HadNoResourceError, IsNotResourceError}
use Rattle.qcow2_alloc.specs.Causes.{HasCause}
use Rattle.qcow2_alloc.specs.Crowding.{space}
use Rattle.qcow2_alloc.proofs.Causes.{Implies, cause-told, cause-weaker}
use Rattle.qcow2_types.specs.Header.{entries_of_cluster}
use Rattle.qcow2_image.specs.Allocating.{Begins, EnsuresTable, TellsShown, allocation_causes, failed_by_resource_error}
use Rattle.qcow2_image.specs.FreeSpace.{HasNoPlace, IsForTable, LacksPlaceForTable, enough_for_one}
use Rattle.qcow2_image.specs.KeepsDisk.{KeepsDisk}
use Rattle.qcow2_image.specs.Leaking.{KeepsLeaks}
use Rattle.qcow2_image.specs.Looking.{place_of_table}
use Rattle.qcow2_image.specs.Resizing.{LacksSomeTable, OwnsTables, SharesNone}
use Rattle.qcow2_image.specs.Rooms.{IsWellFormed}
use Rattle.qcow2_image.specs.Seen.{file_of}
use Rattle.qcow2_image.specs.Steps.{KeepsImage, failed_after, failed_by}
use Rattle.qcow2_image.specs.declared.allocating.Shown.{Shown}
use Rattle.qcow2_image.specs.declared.qcow2.Qcow2.{Qcow2}
use Rattle.qcow2_image.proofs.CallStarts.{still-cut, unbegun-cut, whole-cut}
use Rattle.qcow2_image.proofs.ClusterSteps.{table-none}
use Rattle.qcow2_image.proofs.DiskEffects.{keeps-disk-both, keeps-disk-same, keeps-image-disk, kept-disk}
use Rattle.qcow2_image.proofs.FreeRuns.{full-more, quarter-enough, words-some}
use Rattle.qcow2_image.proofs.Leaks.{leaks-both}
use Rattle.qcow2_image.proofs.LeaksByFile.{leaks-kept}
use Rattle.qcow2_image.proofs.Preparations.ContentCopies.{why-looked}
use Rattle.qcow2_image.proofs.Steps.{still-marked, unmarked}

-- An image that is set to failed twice is as one that is set once.
marked-twice : {T : Type 0} (r : Result T Fault) (f : Bool) → failed_after failed_by r (failed_after failed_by r f) ≡ failed_after failed_by r f
marked-twice (Ok v) f = refl
marked-twice (Err Storage) f = refl
marked-twice (Err fault) f = refl

marked-then : {T : Type 0} (r : Result T Fault) (f : Bool) → failed_by_resource_error r true (failed_after failed_by r f) ≡ failed_by_resource_error r true f
marked-then (Ok v) f = refl
marked-then (Err Memory) f = refl
marked-then (Err Storage) f = refl
marked-then (Err fault) f = refl

-- The image after a call with this result. A resource error sets it to failed, if the change had begun.
abbrev pub after_call : {S T : Type 0} (g : Ghosts S) → (was : Bool) → Qcow2 S g → Result T Fault → Qcow2 S g
after_call g was d r = record d { failed = failed_by_resource_error r was d.failed }

-- A lookup within a change.
module _ {S T : Type 0} (g : Ghosts S) (was : Bool) (old mid : Qcow2 S g) (r : Result T Fault) (k : KeepsImage g old r mid) where
  abbrev looked : Qcow2 S g
  looked = after_call g was mid r

  whole-looked : HadNoResourceError r → looked.failed ≡ old.failed
  whole-looked whole = whole-cut r was mid.failed whole ∙ k.failed ∙ unmarked r old.failed whole

  pub looked-disk : KeepsDisk g (HadNoResourceError r) old looked
  looked-disk =
      kept-disk g (HadNoResourceError r) old looked k.tables.unchanged_but_faults k.tables.counts_not_fallen k.tables.header k.mode k.number k.unspent
      (λ set. still-cut r was mid.failed (subst IsTrue (sym k.failed) (still-marked r old.failed set))) whole-looked k.tables.faults
      (λ well_formed whole. subst (λ f. IsWellFormed g (record mid { failed = f })) (sym (whole-cut r was mid.failed whole))
      ((keeps-image-disk {T = T} g old mid r k).safely well_formed whole))

  pub looked-begins : Begins g was old r was looked
  looked-begins = record {
    left_untouched = λ not. (
      not,
      record {
        tables = k.tables;
        mode = k.mode;
        number = k.number;
        unspent = k.unspent;
        failed = ap (λ b. failed_by_resource_error r b mid.failed) not ∙ unbegun-cut r mid.failed ∙ ap (failed_after failed_by r) k.failed
            ∙ marked-twice r old.failed;
      },
    );
    marked = λ is. ap (λ b. failed_by_resource_error r b mid.failed) is ∙ ap (failed_by_resource_error r true) k.failed ∙ marked-then r old.failed;
  }

-- A call without a resource error doesn't set the image to failed.
pub begins-unfailed : {S T : Type 0} (g : Ghosts S) (was now : Bool) (old new : Qcow2 S g) (r : Result T Fault) → HadNoResourceError r
    → Begins g was old r now new → new.failed ≡ old.failed
begins-unfailed g was now old new r whole b = elim (cases_Bool now) [
  | inl begun ↦ b.marked begun ∙ whole-cut r true old.failed whole
  | inr not ↦ (b.left_untouched not).1.failed ∙ unmarked r old.failed whole
]

module _ {S : Type 0} (g : Ghosts S) where
  pub owns-none : (first last : ℕ) (d : Qcow2 S g) → OwnsTables g first last d (Ok tt) d
  owns-none first last d = record {
    keeps = keeps-disk-same g ⊤ d;
    leaks = λ well_formed whole c. refl;
    known = λ some. some;
    cause = tt;
  }

  -- The L2 table of one guest cluster.
  module _ (guest : ℕ) (was : Bool) (old mid : Qcow2 S g) where
    -- The lookup failed.
    unseen : (e : Fault) → TellsShown g guest old (Err e) mid
        → OwnsTables g guest (guest + 1) old (Err e) (after_call {T = Shown} g was mid (Err e))
    unseen e t = record {
      keeps = looked-disk {T = Shown} g was old mid (Err e) t.keeps;
      leaks = λ well_formed whole. leaks-kept g {T = Shown} old mid (Err e) t.keeps;
      known = λ some. subst IsSome (sym t.keeps.tables.space) some;
      cause = cause-weaker (record {
        before = omega arith;
        after = omega arith;
        damaged = λ wrong known. wrong known.0;
        counter = λ wrong known. wrong known.0;
        full = absurd;
        limit = λ number none well_formed. absurd (none well_formed);
      }) e (why-looked g (λ number. ⊥) old mid guest e t.known_cause t.cause);
    }

    module _ (looked-up : Result Shown Fault) (d : Qcow2 S g) (after : d ≡ after_call g was mid looked-up)
        (t : TellsShown g guest old looked-up mid) where
      pub owns-unseen : (e : Fault) → looked-up ≡ Err e → OwnsTables g guest (guest + 1) old (Err e) d
      owns-unseen e is = subst (OwnsTables g guest (guest + 1) old (Err e)) (sym (after ∙ ap (after_call g was mid) is))
          (unseen e (subst (λ (r : Result Shown Fault). TellsShown g guest old r mid) is t))

      pub seen-after : (shown : Shown) → looked-up ≡ Ok shown → TellsShown g guest old (Ok shown) d
      seen-after shown is = subst (TellsShown g guest old (Ok shown)) (sym (after ∙ ap (after_call g was mid) is))
          (subst (λ (r : Result Shown Fault). TellsShown g guest old r mid) is t)

      pub begins-after : Begins g was old looked-up was d
      begins-after = subst (Begins g was old looked-up was) (sym after) (looked-begins {T = Shown} g was old mid looked-up t.keeps)

  module _ (guest : ℕ) (old mid : Qcow2 S g) where
    module _ (shown : Shown) (t : TellsShown g guest old (Ok shown) mid) where
      seen : KeepsDisk g ⊤ old mid
      seen = keeps-image-disk {T = Shown} g old mid (Ok shown) t.keeps

      seen-leaks : KeepsLeaks g old mid
      seen-leaks = leaks-kept g {T = Shown} old mid (Ok shown) t.keeps

      seen-known : IsSome old.tables.space → IsSome mid.tables.space
      seen-known = subst IsSome (sym t.keeps.tables.space)

      -- There is no table.
      pub owns-tableless : OwnsTables g guest (guest + 1) old (Ok tt) mid
      owns-tableless = record {
        keeps = seen;
        leaks = λ well_formed whole. seen-leaks;
        known = seen-known;
        cause = tt;
      }

      pub none-shared : place_of_table mid.tables.l1.raw_entries mid.tables.file.header.fields.cluster_bits guest ≡ None → IsWellFormed g old
          → SharesNone g guest mid.tables
      none-shared none well_formed =
          inl (table-none (file_of g mid.tables) mid.tables.file.header.fields mid.tables.l1 (seen.safely well_formed tt).seen.l1 guest none)

      -- The table isn't shared.
      pub one-owned : (table : ℕ) (new : Qcow2 S g) → EnsuresTable g (enough_for_one mid.tables) guest mid (Ok table) new
          → IsWellFormed g old → IsSome old.tables.space → SharesNone g guest new.tables
      one-owned table new e well_formed some = inr (e.own (seen.safely well_formed tt) (seen-known some))

      pub owns-one : (table : ℕ) (new : Qcow2 S g) → EnsuresTable g (enough_for_one mid.tables) guest mid (Ok table) new
          → OwnsTables g guest (guest + 1) old (Ok tt) new
      owns-one table new e = record {
        keeps = keeps-disk-both g ⊤ ⊤ old mid new tt seen e.keeps;
        leaks = λ well_formed whole. leaks-both g old mid new seen-leaks (e.leaks (seen.safely well_formed tt) whole);
        known = λ some. e.known (seen-known some);
        cause = tt;
      }

      -- The table isn't copied. A quarter of the space is more than is needed.
      lacks-one : (number : ℕ) (new : Qcow2 S g) → IsWellFormed g mid
          → HasNoPlace g (IsForTable g guest mid.tables) (guest / entries_of_cluster mid.tables.file.header.fields) (enough_for_one mid.tables)
          mid.tables new.tables number
          → LacksPlaceForTable g guest mid.tables new.tables number
      lacks-one number new well_formed (asked, what, inl far) = (asked, what, inl far)
      lacks-one number new well_formed (asked, what, inr (near, full)) = (
        asked,
        what,
        inr (
          near,
          (let enough = quarter-enough g mid guest 1 well_formed (words-some g mid well_formed) near in
              full-more g asked (enough_for_one mid.tables) (space mid.tables.file.header.fields / 4) number mid.tables new.tables
              (omega (arith, enough)) full),
        ),
      )

      pub owns-refused : (e : Fault) (new : Qcow2 S g) → EnsuresTable g (enough_for_one mid.tables) guest mid (Err e) new
          → OwnsTables g guest (guest + 1) old (Err e) new
      owns-refused e new refused = record {
        keeps = keeps-disk-both g ⊤ (IsNotResourceError e) old mid new tt seen refused.keeps;
        leaks = λ well_formed whole. leaks-both g old mid new seen-leaks (refused.leaks (seen.safely well_formed tt) whole);
        known = λ some. refused.known (seen-known some);
        cause = cause-weaker (let same = (seen.faults tt).0 in record {
          before = omega (arith, same);
          after = omega arith;
          damaged = λ wrong known. wrong (seen.safely known.0 tt, seen-known known.1);
          counter = λ wrong known. wrong (seen.safely known.0 tt, seen-known known.1);
          full = absurd;
          limit = λ number at well_formed. lacks number at.0 (seen.safely well_formed tt) (at.1 (seen.safely well_formed tt));
        }) e (cause-told _ e refused.cause);
      } where
        lacks : (number : ℕ) → e ≡ Limit number → IsWellFormed g mid
            → HasNoPlace g (IsForTable g guest mid.tables) (guest / entries_of_cluster mid.tables.file.header.fields) (enough_for_one mid.tables)
            mid.tables new.tables number
            → LacksSomeTable g guest (guest + 1) old number
        lacks number is well_formed none =
            let whole : IsNotResourceError e = subst IsNotResourceError (sym is) tt in record {
              guest = guest;
              from = omega arith;
              to = omega arith;
              before = mid;
              kept = seen;
              kept_leaks = seen-leaks;
              left = new;
              left_kept = subst (λ (f : Fault). KeepsDisk g (IsNotResourceError f) mid new) is refused.keeps;
              left_leaks = refused.leaks well_formed whole;
              lacks = lacks-one number new well_formed none;
            }

-- Two steps in sequence.
module _ {S : Type 0} (g : Ghosts S) (first last guest end : ℕ) (a b c : Qcow2 S g) (from : first ≤ guest) (to : end ≤ last)
    (one : OwnsTables g first last a (Ok tt) b) (result : Result Unit Fault) (two : OwnsTables g guest end b result c) where
  lacks-before : (number : ℕ) → LacksSomeTable g guest end b number → IsWellFormed g a → LacksSomeTable g first last a number
  lacks-before number l well_formed = record {
    guest = l.guest;
    from = omega (arith, from, l.from);
    to = omega (arith, to, l.to);
    before = l.before;
    kept = keeps-disk-both g ⊤ ⊤ a b l.before tt one.keeps l.kept;
    kept_leaks = leaks-both g a b l.before (one.leaks well_formed tt) l.kept_leaks;
    left = l.left;
    left_kept = l.left_kept;
    left_leaks = l.left_leaks;
    lacks = l.lacks;
  }

  implies : Implies (allocation_causes g (LacksSomeTable g guest end b) b c) (allocation_causes g (LacksSomeTable g first last a) a c)
  implies = let same = (one.keeps.faults tt).0 in record {
    before = omega (arith, same);
    after = omega arith;
    damaged = λ wrong known. wrong (one.keeps.safely known.0 tt, one.known known.1);
    counter = λ wrong known. wrong (one.keeps.safely known.0 tt, one.known known.1);
    full = absurd;
    limit = λ number at well_formed. lacks-before number (at (one.keeps.safely well_formed tt)) well_formed;
  }

  refused-by : (r : Result Unit Fault) → IfErr r (HasCause (allocation_causes g (LacksSomeTable g guest end b) b c))
      → IfErr r (HasCause (allocation_causes g (LacksSomeTable g first last a) a c))
  refused-by (Ok done) why = tt
  refused-by (Err e) why = cause-weaker implies e why

  pub owns-both : OwnsTables g first last a result c
  owns-both = record {
    keeps = keeps-disk-both g ⊤ (HadNoResourceError result) a b c tt one.keeps two.keeps;
    leaks = λ well_formed whole. leaks-both g a b c (one.leaks well_formed tt) (two.leaks (one.keeps.safely well_formed tt) whole);
    known = λ some. two.known (one.known some);
    cause = refused-by result two.cause;
  }
