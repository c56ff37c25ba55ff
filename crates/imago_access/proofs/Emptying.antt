-- Flushes, and discards of a whole top image.
use Rattle.std.proofs.Common.{rules, false, ◌≡◌, ◌⊎◌, inl, inr, ℕ, List, [], ◌∷◌, arith, sym, ◌∙◌, ap, subst, map}
use Rattle.std.specs.Prelude.{⊤, IsTrue, IsSome, None, Some, Option, Result, Ok, Err, OnOk, IfErr}
use Rattle.std.proofs.lemmas.Result.{IfErr-weaker}
use Rattle.imago_storage.specs.State.{StorageState}
use Rattle.imago_storage.specs.Disk.{Value}
use Rattle.imago_storage.specs.Steps.{discard_to_backing, Call}
use Rattle.imago_storage.specs.declared.fault.Fault.{Fault}
use Rattle.imago_storage.specs.declared.fault.Fault.TheVariants.{ReadOnly, PastEnd, RangeOverflow, Unsupported, VersionLimit, Foreign, Outdated, Counter, Failed, MissingData, Memory, Storage}
use Rattle.imago_access.specs.declared.driver_model.DriverModel.{Ghosts}
use Rattle.imago_access.specs.declared.access.discarding.Discarding.TheVariants.{ToBacking}
use Rattle.imago_access.specs.Layer.{Layer, Fixed, IsFree, KeepsLayerState, loose}
use Rattle.imago_access.specs.Chain.{at}
use Rattle.imago_access.specs.Committing.{CopiesDown, OwnReadCause, EmptiesTop, EmptyCause, TakesOwnTo, IsSettled, IsResourceError, IsFailedOrSound, Vacates, GivesOwn}
use Rattle.imago_access.specs.ChainCalls.{ChainFails}
use Rattle.imago_access.specs.Layers.{chain}
use Rattle.imago_access.specs.Failing.{Fails, RefusesFlush}
use Rattle.imago_access.specs.Files.{ImageCause, IsNotResourceError, HadNoResourceError, files, files_of}
use Rattle.imago_access.specs.Going.{MutatingCall, MarksFailed, EarlyOutcome}
use Rattle.imago_access.specs.PartCalls.{discards_to_backing}
use Rattle.imago_access.specs.Parts.{PartCause, PlainCause}
use Rattle.imago_access.specs.Refusals.{unusable_fault}
use Rattle.imago_access.specs.Room.{IsGivenUp, IsUndeclined}
use Rattle.imago_access.specs.RunCalls.{DiscardsAlone, DiscardCrashImages, GivesUnitsUpAlone, RangeRefused}
use Rattle.imago_access.specs.Running.{IsIntactChain, ChainRangeChange, below_ghosts}
use Rattle.imago_access.specs.Stops.{GivesNone, GivesBelow, KeepsCrashImages, IsWritten, IsCounted}
use Rattle.imago_access.proofs.Answers.{if_err_with}
use Rattle.imago_access.proofs.ChangeCauses.{barrier_on}
use Rattle.imago_access.proofs.Committing.{went_both, chains_later, may_on}
use Rattle.imago_access.proofs.FilePairs.{later_all_same}
use Rattle.imago_access.proofs.Discarding.{chain_ran, like_both}
use Rattle.imago_access.proofs.ImageCauses.{failed_after, failed_left, failed_right}
use Rattle.imago_access.proofs.Looking.{looked_weaker}
use Rattle.imago_access.proofs.Running.{ran_both, ran_weaker}
use Rattle.imago_access.proofs.Untouched.{ran_kept}

-- The promises of a driver's flush.
pub record Flushes {D St : Type 0} (g : Ghosts D St) (result : Result (Unit {0}) Fault) (old new : D) : Type 0 where
  pub coherent : g.coherent old → OnOk result ((g.layer new ≡ g.layer old) × g.coherent new)
  pub has_no_dirty_data : OnOk result (g.has_no_dirty_data new)
  pub written : g.well_formed old → IsFree (g.layer old) → OnOk result (IsWritten g new)
  pub counted : g.well_formed old → IsFree (g.layer old) → OnOk result (IsCounted g new)
  pub crash_images : g.well_formed old → (below : List Layer) → KeepsCrashImages g below GivesNone old new
  pub early_outcome : EarlyOutcome g (unusable_fault (g.layer old)) ⊥ result old new
  pub keeps_layer_state : KeepsLayerState (g.layer old) (g.layer new)
  pub mutating_call : MutatingCall g (HadNoResourceError result) (HadNoResourceError result) old new
  pub failed : IfErr result (Fails g old new)
  pub marks_failed : IfErr result (MarksFailed g old new)
  pub cause : g.well_formed old → IfErr result (RefusesFlush g old new)

-- A flush of an image that can be used fails only with a resource error.
pub flush_resource : (layer : Layer) (olds news : List StorageState) (e : Fault) → unusable_fault layer ≡ None → PlainCause layer olds news e → IsResourceError e
flush_resource layer olds news Failed none h = absurd (cc (none, h))
flush_resource layer olds news MissingData none h = absurd (cc (none, h))
flush_resource layer olds news Memory none h = λ m. m
flush_resource layer olds news Storage none h = λ m. m
flush_resource layer olds news _ none h = absurd h

-- The error of a flush, seen from an earlier moment.
flush_read_cause : (layer mid : Layer) (olds news : List StorageState) (e : Fault) → unusable_fault mid ≡ unusable_fault layer → PlainCause mid olds news e → OwnReadCause layer e
flush_read_cause layer mid olds news Failed same h = sym same ∙ h
flush_read_cause layer mid olds news MissingData same h = sym same ∙ h
flush_read_cause layer mid olds news Memory same h = tt
flush_read_cause layer mid olds news Storage same h = tt
flush_read_cause layer mid olds news _ same h = absurd h

-- A resource error can be that of a read.
pub resource_read : (layer : Layer) (e : Fault) → IsResourceError e → OwnReadCause layer e
resource_read layer Memory resource = tt
resource_read layer Storage resource = tt
resource_read layer _ resource = absurd (resource tt)

-- An error other than a resource error doesn't depend on the files.
failed_mild : (olds news laters : List StorageState) (e : Fault) → IsNotResourceError e → ImageCause olds news e → ImageCause olds laters e
failed_mild olds news laters Storage mild h = absurd mild
failed_mild olds news laters _ mild h = h

some_of : (o : Option Fault) (f : Fault) → o ≡ Some f → IsSome o
some_of None f is = absurd (cc is)
some_of (Some x) f is = search (rules)

-- The error of the discard of the whole disk.
pub empty_cause : (layer : Layer) (own : List Layer → Fault → Type 0) (olds news : List StorageState) (below : List Layer) (e : Fault) → IsTrue layer.fixed.writable
    → ((under : List Layer) → PartCause under layer 0 layer.size (own under) olds news e) → IsResourceError e ⊎ (OwnReadCause layer e ⊎ own below e)
empty_cause layer own olds news below ReadOnly writable cause = absurd (cc (writable, (cause []).1))
empty_cause layer own olds news below PastEnd writable cause = absurd (omega (arith, (cause []).1))
empty_cause layer own olds news below RangeOverflow writable cause = inr (inl (cause []))
empty_cause layer own olds news below Outdated writable cause = absurd (cause [])
empty_cause layer own olds news below Foreign writable cause = absurd (cause [])
empty_cause layer own olds news below Counter writable cause = absurd (cause [])
empty_cause layer own olds news below Unsupported writable cause = absurd (cause [])
empty_cause layer own olds news below VersionLimit writable cause = absurd (cause [])
empty_cause layer own olds news below Failed writable cause = elim (cause []) [ inl here ↦ inr (inl here) | inr none ↦ absurd none ]
empty_cause layer own olds news below MissingData writable cause = elim (cause []) [ inl here ↦ inr (inl here) | inr none ↦ absurd none ]
empty_cause layer own olds news below Memory writable cause = inl (λ m. m)
empty_cause layer own olds news below Storage writable cause = inl (λ m. m)
empty_cause layer own olds news below _ writable cause = inr (inr (cause below))

module _ {D St : Type 0} (g : Ghosts D St) (well_formed_is_coherent : (d : D) → g.well_formed d → g.coherent d) where
  -- A flush of a well-formed image without a resource error keeps the layer.
  pub flush_same : (result : Result (Unit {0}) Fault) (a b : D) → Flushes g result a b → HadNoResourceError result → g.well_formed a → g.layer b ≡ g.layer a
  flush_same (Ok v) a b f whole sound = (f.coherent (well_formed_is_coherent a sound)).0
  flush_same (Err Failed) a b f whole sound = (f.early_outcome.unchanged (inr (some_of (unusable_fault (g.layer a)) Failed (f.cause sound)))).layer
  flush_same (Err MissingData) a b f whole sound = (f.early_outcome.unchanged (inr (some_of (unusable_fault (g.layer a)) MissingData (f.cause sound)))).layer
  flush_same (Err Memory) a b f whole sound = absurd whole
  flush_same (Err Storage) a b f whole sound = absurd whole
  flush_same (Err e) a b f whole sound = absurd (f.cause sound)

  pub ran_flush : (result : Result (Unit {0}) Fault) (a b : D) (ds : List D) → Flushes g result a b → ChainRangeChange g (HadNoResourceError result) GivesNone (a, ds) (b, ds)
  ran_flush result a b ds f = ran_kept g (below_ghosts g) (HadNoResourceError result) GivesNone a b ds f.keeps_layer_state.size f.mutating_call
      (λ w i. flush_same result a b f w i.is_well_formed) (λ i. f.crash_images i.is_well_formed (map g.layer ds))

  -- After a flush the image has failed or is well-formed, if its format marks failures.
  pub sound_flushed : (result : Result (Unit {0}) Fault) (a b : D) → Flushes g result a b → IsTrue (g.layer a).fixed.marks_failed → IsTrue (g.layer b).failed ⊎ (g.well_formed a → g.well_formed b)
  sound_flushed (Ok v) a b f marks = inr (f.mutating_call.safely tt)
  sound_flushed (Err Memory) a b f marks = elim (f.marks_failed marks) [ inl failed ↦ inl failed | inr spared ↦ inr spared.known.safely ]
  sound_flushed (Err Storage) a b f marks = inl (f.marks_failed marks)
  sound_flushed (Err e) a b f marks = inr (f.mutating_call.safely tt)

  -- The next layer is flushed after a copy that had no resource error.
  usable_flushed : (result : Result (Unit {0}) Fault) (x y : D × List D) (c : D) → (g.layer y.0).fixed ≡ (g.layer x.0).fixed → (IsIntactChain g x → g.well_formed y.0) → Flushes g result y.0 c → IsFailedOrSound g x (c, y.1)
  usable_flushed result x y c fixed sound f marks = elim (sound_flushed result y.0 c f (subst (λ (s : Fixed). IsTrue s.marks_failed) (sym fixed) marks)) [ inl failed ↦ inl failed | inr on ↦ inr (λ i. on (sound i)) ]

  pub ran_flushed : (whole : Type 0) (result : Result (Unit {0}) Fault) (gives : ℕ → Value → Type 0) (x y : D × List D) (c : D) → (whole → HadNoResourceError result) → ChainRangeChange g ⊤ gives x y → Flushes g result y.0 c → ChainRangeChange g whole gives x (c, y.1)
  ran_flushed whole result gives x y c from first f =
      ran_both g (below_ghosts g) whole gives GivesNone gives x.0 y.0 c x.1 y.1 y.1 (λ p v gave. gave) (λ p v none. absurd none) first
      (ran_weaker g (below_ghosts g) (HadNoResourceError result) whole GivesNone y.0 c y.1 y.1 from (ran_flush result y.0 c y.1 f))

  pub copies_flushed : {T : Type 0} (copied : Result T Fault) (v : Unit {0}) (a b : D) (x y : D × List D) (c : D) → HadNoResourceError copied → CopiesDown g copied a b x y → Flushes g (Ok v) y.0 c → CopiesDown g copied a b x (c, y.1)
  copies_flushed copied v a b x y c whole first f = record {
    top = first.top;
    next = ran_flushed (HadNoResourceError copied) (Ok v) (GivesOwn g a) x y c (λ h. tt) (ran_weaker g (below_ghosts g) (HadNoResourceError copied) ⊤ (GivesOwn g a) x.0 y.0 x.1 y.1 (λ h. whole) first.next) f;
    keeps_layer_state = like_both (g.layer x.0) (g.layer y.0) (g.layer c) first.keeps_layer_state f.keeps_layer_state;
    usable = usable_flushed (Ok v) x y c first.keeps_layer_state.fixed (λ i. (first.next.intact whole i).is_well_formed) f;
    failed = if_err_with copied (ChainFails g (a, chain x) (b, chain y)) (ChainFails g (a, chain x) (b, c ∷ y.1)) (λ e is h. failed_mild (files_of g (a ∷ chain x)) (files_of g (b ∷ chain y)) (files_of g (b ∷ (c ∷ y.1))) e (subst (λ (r : Result _ Fault). HadNoResourceError r) is whole) h) first.failed;
    cause = first.cause;
  }

  -- The next layer still reads as the values that the top has of its own.
  pub taken_flushed : {T : Type 0} (copied : Result T Fault) (v : Unit {0}) (end : ℕ) (a b : D) (x y : D × List D) (c : D) → CopiesDown g copied a b x y → Flushes g (Ok v) y.0 c
      → OnOk copied (TakesOwnTo g end a x y) → OnOk copied (TakesOwnTo g end a x (c, y.1))
  taken_flushed (Ok w) v end a b x y c first f taken = λ may p value low is.
      let same = flush_same (Ok v) y.0 c f tt (first.next.intact tt may.next).is_well_formed in
      ap (λ (l : Layer). at (l ∷ map g.layer y.1) p) same ∙ taken may p value low is
  taken_flushed (Err e) v end a b x y c first f taken = tt

  module _ (well_formed_is_usable : (d : D) → g.well_formed d → (g.layer d).failed ≡ false) where
    pub copies_unflushed : {S T : Type 0} (copied : Result S Fault) (e : Fault) (a b : D) (x y : D × List D) (c : D) → HadNoResourceError copied → CopiesDown g copied a b x y → Flushes g (Err e) y.0 c → CopiesDown {T = T} g (Err e) a b x (c, y.1)
    copies_unflushed copied e a b x y c whole first f = record {
      top = looked_weaker g (HadNoResourceError copied) (IsNotResourceError e) a b (λ h. whole) first.top;
      next = ran_flushed (IsNotResourceError e) (Err e) (GivesOwn g a) x y c (λ h. h) (ran_weaker g (below_ghosts g) (HadNoResourceError copied) ⊤ (GivesOwn g a) x.0 y.0 x.1 y.1 (λ h. whole) first.next) f;
      keeps_layer_state = like_both (g.layer x.0) (g.layer y.0) (g.layer c) first.keeps_layer_state f.keeps_layer_state;
      usable = usable_flushed (Err e) x y c first.keeps_layer_state.fixed (λ i. (first.next.intact whole i).is_well_formed) f;
      failed = failed_after (files_of g (a ∷ chain x)) (files_of g (b ∷ chain y)) (files_of g (b ∷ (c ∷ y.1))) e (chains_later g a b x y first.top.counts_not_fallen first.next.mutating_call.counts_not_fallen first.next.lookup_call.counts_not_fallen)
          (failed_right (files g b) (files g b) (files_of g (chain y)) (files_of g (c ∷ y.1)) e (later_all_same (files g b)) (failed_left (files g y.0) (files g c) (files_of g y.1) (files_of g y.1) e f.failed));
      cause = λ may.
          let on = may_on g well_formed_is_coherent well_formed_is_usable copied a b x y whole first may in
          inl (resource_read (g.layer a) e (flush_resource (g.layer y.0) (files g y.0) (files g c) e on.usable (f.cause on.next.is_well_formed)));
    }

    -- The next layer is settled after the flush.
    pub settled_behind : {T : Type 0} (copied : Result T Fault) (flushed : Result (Unit {0}) Fault) (a b : D) (x y : D × List D) (c : D) → HadNoResourceError copied → CopiesDown g copied a b x y → IsFree (g.layer x.0) → Flushes g flushed y.0 c
        → IsIntactChain g x → unusable_fault (g.layer x.0) ≡ None → HadNoResourceError flushed → IsSettled g c
    settled_behind copied (Ok v) a b x y c whole first free f i none mild =
        let sound = (first.next.intact whole i).is_well_formed in
        let is_free = first.keeps_layer_state.unspent ∙ free in
        record { has_no_dirty_data = f.has_no_dirty_data; written = f.written sound is_free; counted = f.counted sound is_free }
    settled_behind copied (Err e) a b x y c whole first free f i none mild =
        let sound = (first.next.intact whole i).is_well_formed in
        let usable = barrier_on (g.layer x.0) (g.layer y.0) first.keeps_layer_state.fixed (well_formed_is_usable x.0 i.is_well_formed) (well_formed_is_usable y.0 sound) ∙ none in
        absurd (flush_resource (g.layer y.0) (files g y.0) (files g c) e usable (f.cause sound) mild)

module _ {D St : Type 0} (g : Ghosts D St) (free_loose : (d : D) → IsFree (g.layer d) → (p : ℕ) → (g.layer d).held p ≡ loose) (well_formed_is_coherent : (d : D) → g.well_formed d → g.coherent d) where
  is_flushed : (flushed : Result (Unit {0}) Fault) (b c : D) → Flushes g flushed b c → g.well_formed b → IsFree (g.layer b) → OnOk flushed (IsSettled g c)
  is_flushed (Ok v) b c f sound free = record { has_no_dirty_data = f.has_no_dirty_data; written = f.written sound free; counted = f.counted sound free }
  is_flushed (Err e) b c f sound free = tt

  vacated : (flushed : Result (Unit {0}) Fault) (a b c : D) (ds : List D) → Flushes g flushed b c → g.well_formed b
      → (IsUndeclined (g.own_cause a (map g.layer ds) (discard_to_backing 0 (g.layer a).size)) → IsGivenUp (g.unallocated b) (g.layer a).fixed.unit (g.layer a).size 0 (g.layer a).size)
      → OnOk flushed (Vacates g (a, ds) c)
  vacated (Ok v) a b c ds f sound given = record { emptied = b; same = flush_same g well_formed_is_coherent (Ok v) b c f tt sound; given_up = given }
  vacated (Err e) a b c ds f sound given = tt

  -- The discard of the whole disk failed.
  pub emptied_err : (e : Fault) (a b : D) → IsFree (g.layer a) → DiscardsAlone {T = Unit {0}} g ToBacking 0 (g.layer a).size (Err e) a b → KeepsLayerState (g.layer a) (g.layer b) → MutatingCall g (IsNotResourceError e) (IsNotResourceError e) a b
      → DiscardCrashImages g ToBacking 0 (g.layer a).size a b → Fails g a b e → RangeRefused {T = Unit {0}} discards_to_backing g 0 (g.layer a).size (Err e) a b
      → ((d : D) (call : Call) → g.began d call d) → EmptiesTop g (Err e) a b
  emptied_err e a b free values like went stops failed cause begins = record {
    keeps_layer_state = like;
    mutating_call = went;
    range_change = λ ds. chain_ran g free_loose a b ds ToBacking 0 (g.layer a).size free like (Err e) values went stops;
    flushed = λ w. tt;
    vacates = λ w ds. tt;
    failed = failed;
    cause = λ w writable ds. empty_cause (g.layer a) (λ under. g.own_cause a under (discard_to_backing 0 (g.layer a).size)) (files g a) (files g b) (map g.layer ds) e writable
        (λ under. cause w under a (discard_to_backing 0 (g.layer a).size) (begins a (discard_to_backing 0 (g.layer a).size)) (record { start = omega arith; end = omega arith }) tt);
  }

  -- The discard succeeded, and the top is flushed.
  pub emptied_ok : (v : Unit {0}) (flushed : Result (Unit {0}) Fault) (a b c : D) → IsFree (g.layer a) → DiscardsAlone g ToBacking 0 (g.layer a).size (Ok v) a b → KeepsLayerState (g.layer a) (g.layer b) → MutatingCall g ⊤ ⊤ a b
      → DiscardCrashImages g ToBacking 0 (g.layer a).size a b → GivesUnitsUpAlone g ToBacking 0 (g.layer a).size (Ok v) a b
      → ((d : D) (call : Call) → g.began d call d) → ((d : D) → g.well_formed d → (g.layer d).failed ≡ false) → Flushes g flushed b c → EmptiesTop g flushed a c
  emptied_ok v flushed a b c free values like went stops given begins well_formed_is_usable f = record {
    keeps_layer_state = like_both (g.layer a) (g.layer b) (g.layer c) like f.keeps_layer_state;
    mutating_call = went_both g (HadNoResourceError flushed) a b c went f.mutating_call;
    range_change = λ ds. ran_flushed g well_formed_is_coherent (HadNoResourceError flushed) flushed (GivesBelow (map g.layer ds) 0 (g.layer a).size) (a, ds) (b, ds) c (λ h. h)
        (chain_ran g free_loose a b ds ToBacking 0 (g.layer a).size free like (Ok v) values went stops) f;
    flushed = λ w.
        let sound = went.safely tt w in
        is_flushed flushed b c f sound (like.unspent ∙ free);
    vacates = λ w ds. vacated flushed a b c ds f (went.safely tt w)
        (λ undeclined. given w (map g.layer ds) a (discard_to_backing 0 (g.layer a).size) (begins a (discard_to_backing 0 (g.layer a).size)) (record { start = omega arith; end = omega arith }) tt undeclined);
    failed = IfErr-weaker flushed (Fails g b c) (Fails g a c) (λ e h. failed_after (files g a) (files g b) (files g c) e went.counts_not_fallen h) f.failed;
    cause = λ w writable ds.
        let sound = went.safely tt w in
        IfErr-weaker flushed (RefusesFlush g b c) (EmptyCause g a (map g.layer ds)) (λ e h. inr (inl (flush_read_cause (g.layer a) (g.layer b) (files g b) (files g c) e (barrier_on (g.layer a) (g.layer b) went.fixed (well_formed_is_usable a w) (well_formed_is_usable b sound)) h))) (f.cause sound);
  }
