-- A repair of leaks as consecutive steps. Each step keeps the disk.
use Rattle.std.proofs.Common.{◌≡◌, ◌∙◌, refl, ap, sym, subst, inl, inr, ℕ, List, ◌∷◌, Bool, true, false, arith, Option, Some, None, Result, Ok, Err}
use Rattle.std.specs.Prelude.{Vec, IsTrue, IsFalse, IsSome, OnOk, IfErr, if◌then◌else◌, is_some, not}
use Rattle.std.specs.Global.{Global}
use Rattle.imago_storage.specs.Passing.{UnrefusedCrashImages}
use Rattle.imago_storage.specs.State.{StorageState}
use Rattle.imago_storage.specs.declared.fault.Fault.{Fault}
use Rattle.imago_storage.specs.declared.fault.Fault.TheVariants.{Failed, Memory, MissingData, ReadOnly, Storage, Unsupported}
use Rattle.imago_access.specs.declared.driver_model.DriverModel.{Ghosts}
use Rattle.imago_access.specs.Chain.{at}
use Rattle.imago_access.specs.Failing.{Fails, RefusesFlush}
use Rattle.imago_access.specs.Files.{HadNoResourceError, ImageCause, IsLater, IsNotResourceError, Pairs, files}
use Rattle.imago_access.specs.Going.{EarlyOutcome, MarksFailed, MutatingCall, ReloadingCall}
use Rattle.imago_access.specs.Layer.{KeepsLayerState, Layer}
use Rattle.imago_access.specs.Parts.{PlainCause}
use Rattle.imago_access.specs.Refusals.{unusable_fault}
use Rattle.imago_access.specs.RunCalls.{DriverMarksFailed}
use Rattle.imago_access.specs.Stops.{GivesNone, IsCounted, IsWritten, KeepsCrashImages, Left}
use Rattle.imago_access.proofs.FilePairs.{faultless_all_both, faultless_all_same, later_all_both, later_all_same, some_rose_behind}
use Rattle.imago_access.proofs.ImageCauses.{failed_after}
use Rattle.imago_access.proofs.Marking.{alone_behind, alone_mild, alone_plain}
use Rattle.imago_access.proofs.Stopping.{passes_none, then_left}
use Rattle.imago_access.proofs.Untouched.{unchanged_same}
use Rattle.qimg_calls.specs.Repairing.{FlushesFirst, HasNoExcess, ListsExcess, RepairCause, RepairsLeaksOf, has_refcounts, repair_refusal}

-- A step of a repair, or several: the disk stays the same, also in crash images.
pub record RepairStep {D St T : Type 0} (g : Ghosts D St) (old : D) (result : Result T Fault) (new : D) : Type 0 where
  pub same : g.well_formed old → HadNoResourceError result → g.layer new ≡ g.layer old
  pub crash_images : g.well_formed old → (below : List Layer) → KeepsCrashImages g below GivesNone old new
  pub keeps_layer_state : KeepsLayerState (g.layer old) (g.layer new)
  pub reloading_call : ReloadingCall g (HadNoResourceError result) (HadNoResourceError result) old new
  pub failed : IfErr result (Fails g old new)
  pub marks_failed : IfErr result (DriverMarksFailed g old new)
  pub cause : g.well_formed old → IfErr result (PlainCause (g.layer old) (files g old) (files g new))

pub if-err : {T E : Type 0} (result : Result T E) (P Q : E → Type 0) → ((e : E) → P e → Q e) → IfErr result P → IfErr result Q
if-err (Ok x) P Q each holds = tt
if-err (Err e) P Q each holds = each e holds

plain-after : (layer mid : Layer) (olds mids news : List StorageState) → mid ≡ layer → Pairs IsLater olds mids → (e : Fault) → PlainCause mid mids news e → PlainCause layer olds news e
plain-after layer mid olds mids news same later Failed why = subst (λ (l : Layer). unusable_fault l ≡ Some Failed) same why
plain-after layer mid olds mids news same later MissingData why = subst (λ (l : Layer). unusable_fault l ≡ Some MissingData) same why
plain-after layer mid olds mids news same later Memory why = tt
plain-after layer mid olds mids news same later Storage why = some_rose_behind olds mids news later why
plain-after layer mid olds mids news same later e why = absurd why

-- Two consecutive steps.
module _ {D St T U : Type 0} (g : Ghosts D St) (a b c : D) (x : T) (result : Result U Fault) (first : RepairStep g a (Ok x) b) (second : RepairStep g b result c) where
  abbrev safe-between : g.well_formed a → g.well_formed b
  safe-between well_formed = first.reloading_call.safely tt well_formed

  images-both : g.well_formed a → (below : List Layer) → KeepsCrashImages g below GivesNone a c
  images-both well_formed below =
      let same = first.same well_formed tt in
      let size : (g.layer b).size ≡ (g.layer a).size = ap (λ (l : Layer). l.size) same in
      let n = (g.layer a).size in
      then_left below g.sound (g.layer a) (g.layer b) n n GivesNone GivesNone (g.image a) (g.image b) (g.image c)
      first.reloading_call.counts_not_fallen.0 second.reloading_call.counts_not_fallen.0 first.keeps_layer_state.fixed size (omega arith) (omega arith)
      (λ p inside. inr (inl (same-disk p)))
      (λ p v inside gave. absurd gave) (first.crash_images well_formed below)
      (subst (λ (m : ℕ). UnrefusedCrashImages (Left below (g.layer b) (g.image b).bytes g.sound m m GivesNone) (g.image b) (g.image c)) size (second.crash_images (safe-between well_formed) below))
    where
      same-disk : (p : ℕ) → at (g.layer b ∷ below) p ≡ at (g.layer a ∷ below) p
      same-disk p = ap (λ (l : Layer). at (l ∷ below) p) (first.same well_formed tt)

  pub steps-both : RepairStep g a result c
  steps-both = record {
    same = λ well_formed whole. second.same (safe-between well_formed) whole ∙ first.same well_formed tt;
    crash_images = images-both;
    keeps_layer_state = record {
      fixed = second.keeps_layer_state.fixed ∙ first.keeps_layer_state.fixed;
      size = second.keeps_layer_state.size ∙ first.keeps_layer_state.size;
      unspent = second.keeps_layer_state.unspent ∙ first.keeps_layer_state.unspent;
      failed = λ was. second.keeps_layer_state.failed (first.keeps_layer_state.failed was);
    };
    reloading_call = record {
      fixed = second.reloading_call.fixed ∙ first.reloading_call.fixed;
      failed = λ was. second.reloading_call.failed (first.reloading_call.failed was);
      counts_not_fallen = later_all_both (files g a) (files g b) (files g c) first.reloading_call.counts_not_fallen second.reloading_call.counts_not_fallen;
      faults = λ whole. faultless_all_both (files g a) (files g b) (files g c) (first.reloading_call.faults tt) (second.reloading_call.faults whole);
      safely = λ whole well_formed. second.reloading_call.safely whole (safe-between well_formed);
      stays_stable = λ stable. second.reloading_call.stays_stable (first.reloading_call.stays_stable stable);
    };
    failed = if-err result (Fails g b c) (Fails g a c) (λ e. failed_after (files g a) (files g b) (files g c) e first.reloading_call.counts_not_fallen) second.failed;
    marks_failed = if-err result (DriverMarksFailed g b c) (DriverMarksFailed g a c) (λ e. alone_behind g a b c e first.keeps_layer_state.fixed safe-between) second.marks_failed;
    cause = λ well_formed. if-err result _ _ (plain-after (g.layer a) (g.layer b) (files g a) (files g b) (files g c) (first.same well_formed tt) first.reloading_call.counts_not_fallen)
        (second.cause (safe-between well_formed));
  }

-- A flush is a step.
module _ {D St : Type 0} (g : Ghosts D St) (is_coherent : (d : D) → g.well_formed d → g.coherent d) (old new : D) (result : Result Unit Fault)
    (coherent : g.coherent old → OnOk result ((g.layer new ≡ g.layer old) × g.coherent new))
    (crash_images : g.well_formed old → (below : List Layer) → KeepsCrashImages g below GivesNone old new)
    (early : EarlyOutcome g (unusable_fault (g.layer old)) ⊥ result old new) (keeps : KeepsLayerState (g.layer old) (g.layer new))
    (mutating : MutatingCall g (HadNoResourceError result) (HadNoResourceError result) old new)
    (failed : IfErr result (Fails g old new)) (marks : IfErr result (MarksFailed g old new))
    (cause : g.well_formed old → IfErr result (RefusesFlush g old new)) where
  early-same : (e : Fault) → unusable_fault (g.layer old) ≡ Some e → g.layer new ≡ g.layer old
  early-same e is = (early.unchanged (inr (subst IsSome (sym is) refl))).layer

  flushed-same : g.well_formed old → (r : Result Unit Fault) → HadNoResourceError r
      → OnOk r ((g.layer new ≡ g.layer old) × g.coherent new) → IfErr r (RefusesFlush g old new) → g.layer new ≡ g.layer old
  flushed-same well_formed (Ok done) whole sees why = sees.0
  flushed-same well_formed (Err Failed) whole sees why = early-same Failed why
  flushed-same well_formed (Err MissingData) whole sees why = early-same MissingData why
  flushed-same well_formed (Err Memory) whole sees why = absurd whole
  flushed-same well_formed (Err Storage) whole sees why = absurd whole
  flushed-same well_formed (Err e) whole sees why = absurd why

  pub flush-step : RepairStep g old result new
  flush-step = record {
    same = λ well_formed whole. flushed-same well_formed result whole (coherent (is_coherent old well_formed)) (cause well_formed);
    crash_images = crash_images;
    keeps_layer_state = keeps;
    reloading_call = record {
      fixed = mutating.fixed;
      failed = mutating.failed;
      counts_not_fallen = mutating.counts_not_fallen;
      faults = mutating.faults;
      safely = mutating.safely;
      stays_stable = mutating.stays_stable;
    };
    failed = failed;
    marks_failed = if-err result (MarksFailed g old new) (DriverMarksFailed g old new) (alone_plain g old new) marks;
    cause = cause;
  }

-- The early error of a repair is one of four faults.
abbrev refusal_by : (failed missing refcounts writable : Bool) → Option Fault
refusal_by failed missing refcounts writable =
    let unusable : Option Fault = if failed then Some Failed else if missing then Some MissingData else None in
    if is_some unusable then unusable else if not refcounts then Some Unsupported else if not writable then Some ReadOnly else None

one-of : (P : Fault → Type 0) → P Failed → P MissingData → P Unsupported → P ReadOnly
    → (failed missing refcounts writable : Bool) (e : Fault) → refusal_by failed missing refcounts writable ≡ Some e → P e
one-of P p q r s true missing refcounts writable e is = let same : Failed ≡ e = cc is in subst P same p
one-of P p q r s false true refcounts writable e is = let same : MissingData ≡ e = cc is in subst P same q
one-of P p q r s false false false writable e is = let same : Unsupported ≡ e = cc is in subst P same r
one-of P p q r s false false true false e is = let same : ReadOnly ≡ e = cc is in subst P same s
one-of P p q r s false false true true e is = absurd (cc is)

unrefused : (failed missing refcounts writable : Bool) → refusal_by failed missing refcounts writable ≡ None
    → (if failed then Some Failed else if missing then Some MissingData else None) ≡ None
unrefused true missing refcounts writable is = absurd (cc is)
unrefused false true refcounts writable is = absurd (cc is)
unrefused false false refcounts writable is = refl

pub usable-unrefused : (layer : Layer) → repair_refusal layer ≡ None → unusable_fault layer ≡ None
usable-unrefused layer none = unrefused layer.failed layer.fixed.missing (has_refcounts layer.fixed.format) layer.fixed.writable none

-- An image that can't be used, one without refcounts, and a read-only one are refused.
pub unusable-refusal : (layer : Layer) (e : Fault) → unusable_fault layer ≡ Some e → repair_refusal layer ≡ Some e
unusable-refusal layer e is = by layer.failed layer.fixed.missing (has_refcounts layer.fixed.format) layer.fixed.writable is where
  by : (failed missing refcounts writable : Bool) → (if failed then Some Failed else if missing then Some MissingData else None) ≡ Some e → refusal_by failed missing refcounts writable ≡ Some e
  by true missing refcounts writable is = is
  by false true refcounts writable is = is
  by false false refcounts writable is = absurd (cc is)

pub uncounted-refusal : (layer : Layer) → unusable_fault layer ≡ None → IsFalse (has_refcounts layer.fixed.format) → repair_refusal layer ≡ Some Unsupported
uncounted-refusal layer usable none = by layer.failed layer.fixed.missing (has_refcounts layer.fixed.format) layer.fixed.writable usable none where
  by : (failed missing refcounts writable : Bool) → (if failed then Some Failed else if missing then Some MissingData else None) ≡ None → IsFalse refcounts
      → refusal_by failed missing refcounts writable ≡ Some Unsupported
  by true missing refcounts writable is none = absurd (cc is)
  by false true refcounts writable is none = absurd (cc is)
  by false false false writable is none = refl
  by false false true writable is none = absurd (cc none)

-- A usable image that has refcounts is refused only if it is read-only.
module _ (layer : Layer) (usable : unusable_fault layer ≡ None) (has : IsTrue (has_refcounts layer.fixed.format)) where
  by-mode : (failed missing refcounts writable : Bool) → (if failed then Some Failed else if missing then Some MissingData else None) ≡ None → IsTrue refcounts
      → refusal_by failed missing refcounts writable ≡ (if not writable then Some ReadOnly else None)
  by-mode true missing refcounts writable is has = absurd (cc is)
  by-mode false true refcounts writable is has = absurd (cc is)
  by-mode false false false writable is has = absurd (cc has)
  by-mode false false true writable is has = refl

  by-its-mode : repair_refusal layer ≡ (if not layer.fixed.writable then Some ReadOnly else None)
  by-its-mode = by-mode layer.failed layer.fixed.missing (has_refcounts layer.fixed.format) layer.fixed.writable usable has

  pub read-only-refusal : layer.fixed.writable ≡ false → repair_refusal layer ≡ Some ReadOnly
  read-only-refusal closed = by-its-mode ∙ ap (λ (w : Bool). if not w then Some ReadOnly else None) closed

  pub writable-refusal : layer.fixed.writable ≡ true → repair_refusal layer ≡ None
  writable-refusal writable = by-its-mode ∙ ap (λ (w : Bool). if not w then Some ReadOnly else None) writable

abbrev Answer : Type 0
Answer = Result (Vec (ℕ × ℕ) Global) Fault

module _ {D St : Type 0} (g : Ghosts D St) where
  -- An early error changes nothing.
  pub refused-repair : (d : D) (e : Fault) → repair_refusal (g.layer d) ≡ Some e → RepairsLeaksOf g d (Err e) d
  refused-repair d e is = record {
    listed = λ well_formed. tt;
    repaired = λ well_formed ok. absurd (cc ok);
    written = λ well_formed ok. absurd (cc ok);
    counted = λ well_formed ok. absurd (cc ok);
    same = λ well_formed whole. refl;
    crash_images = λ well_formed below. passes_none (Left below (g.layer d) (g.image d).bytes g.sound (g.layer d).size (g.layer d).size GivesNone) (g.image d) (g.image d) refl (refl, refl, refl, refl);
    flushes_first = λ well_formed ok. absurd (cc ok);
    early_outcome = record {
      refused = λ f why. let same : Some e ≡ Some f = sym is ∙ why in ap Err (let one : e ≡ f = cc same in one);
      idle = λ none usable. absurd none;
      unchanged = λ why. unchanged_same g d;
    };
    keeps_layer_state = record { fixed = refl; size = refl; unspent = refl; failed = λ was. was };
    reloading_call = record {
      fixed = refl;
      failed = λ was. was;
      counts_not_fallen = later_all_same (files g d);
      faults = λ whole. faultless_all_same (files g d);
      safely = λ whole well_formed. well_formed;
      stays_stable = λ stable. stable;
    };
    failed = of (λ (f : Fault). ImageCause (files g d) (files g d) f) tt tt tt tt;
    marks_failed = alone_mild g d d e (of IsNotResourceError tt tt tt tt);
    cause = λ well_formed. of (λ (f : Fault). repair_refusal (g.layer d) ≡ Some f → RepairCause (g.layer d) (files g d) (files g d) f) (λ why. why) (λ why. why) (λ why. why) (λ why. why) is;
  } where
    of : (P : Fault → Type 0) → P Failed → P MissingData → P Unsupported → P ReadOnly → P e
    of P p q r s = one-of P p q r s (g.layer d).failed (g.layer d).fixed.missing (has_refcounts (g.layer d).fixed.format) (g.layer d).fixed.writable e is

  module _ (old new : D) (none : repair_refusal (g.layer old) ≡ None) where
    not-early : {A : Type 0} (e : Fault) → repair_refusal (g.layer old) ≡ Some e → A
    not-early e is = let bad : None ≡ Some e = sym none ∙ is in absurd (cc bad)

    not-unusable : {A : Type 0} (e : Fault) → unusable_fault (g.layer old) ≡ Some e → A
    not-unusable e is = let bad : None ≡ Some e = sym (usable-unrefused (g.layer old) none) ∙ is in absurd (cc bad)

    plain-cause : (e : Fault) → PlainCause (g.layer old) (files g old) (files g new) e → RepairCause (g.layer old) (files g old) (files g new) e
    plain-cause Failed why = not-unusable Failed why
    plain-cause MissingData why = not-unusable MissingData why
    plain-cause Memory why = tt
    plain-cause Storage why = why
    plain-cause e why = absurd why

    -- A step failed, after others.
    pub failed-repair : {T : Type 0} (e : Fault) → RepairStep {T = T} g old (Err e) new → RepairsLeaksOf g old (Err e) new
    failed-repair e step = record {
      listed = λ well_formed. tt;
      repaired = λ well_formed ok. absurd (cc ok);
      written = λ well_formed ok. absurd (cc ok);
      counted = λ well_formed ok. absurd (cc ok);
      same = step.same;
      crash_images = step.crash_images;
      flushes_first = λ well_formed ok. absurd (cc ok);
      early_outcome = record {
        refused = λ f is. not-early f is;
        idle = λ nothing usable. absurd nothing;
        unchanged = λ why. elim why [ inl nothing ↦ absurd nothing | inr some ↦ absurd (cc (rw none at some)) ];
      };
      keeps_layer_state = step.keeps_layer_state;
      reloading_call = step.reloading_call;
      failed = step.failed;
      marks_failed = step.marks_failed;
      cause = λ well_formed. plain-cause e (step.cause well_formed);
    }

    -- All steps succeeded.
    pub whole-repair : {T : Type 0} (x : T) (pairs : Vec (ℕ × ℕ) Global) → RepairStep g old (Ok x) new
        → (g.well_formed old → ListsExcess (g.excess_refcount old) pairs.items) → (g.well_formed old → HasNoExcess g new)
        → (g.well_formed old → IsWritten g new) → (g.well_formed old → IsCounted g new) → (g.well_formed old → FlushesFirst g old new)
        → RepairsLeaksOf g old (Ok pairs) new
    whole-repair x pairs step listed repaired written counted first = record {
      listed = listed;
      repaired = λ well_formed ok. repaired well_formed;
      written = λ well_formed ok. written well_formed;
      counted = λ well_formed ok. counted well_formed;
      same = step.same;
      crash_images = step.crash_images;
      flushes_first = λ well_formed ok. first well_formed;
      early_outcome = record {
        refused = λ f is. not-early f is;
        idle = λ nothing usable. absurd nothing;
        unchanged = λ why. elim why [ inl nothing ↦ absurd nothing | inr some ↦ absurd (cc (rw none at some)) ];
      };
      keeps_layer_state = step.keeps_layer_state;
      reloading_call = step.reloading_call;
      failed = tt;
      marks_failed = tt;
      cause = λ well_formed. tt;
    }
