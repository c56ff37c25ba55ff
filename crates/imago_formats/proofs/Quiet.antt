-- Calls of a driver that change nothing except fault counts.
use Rattle.std.proofs.Common.{◌≡◌, ℕ, ◌<◌, ◌≤◌, Bool, true, false, List, [], ◌∷◌, Result, Ok, Err, refl, sym, ap, ◌∙◌, subst, inl, inr, arith}
use Rattle.std.specs.Prelude.{⊤, max, ◌-◌, length, MatchResult, IsOk, IsErrAnd, Option, Some, None, IsTrue, IsFalse, IfErr, OnOk, if◌then◌else◌, eqb}
use Rattle.imago_storage.specs.State.{StorageState}
use Rattle.imago_storage.specs.Calls.{IsFaultless}
use Rattle.imago_storage.specs.Steps.{IsIn}
use Rattle.imago_storage.specs.declared.fault.Fault.{Fault}
use Rattle.imago_storage.specs.declared.fault.Fault.TheVariants.{ReadOnly, MissingData, Failed, Memory, Storage}
use Rattle.imago_access.specs.declared.driver_model.DriverModel.{Ghosts}
use Rattle.imago_access.specs.Layer.{Layer, Held, IsFree, KeepsLayerState, loose, unit_of_layer}
use Rattle.imago_access.specs.Files.{ImageCause, Pairs, UnchangedButMoreFaults, IsLater, IsNotResourceError, IsStale, files}
use Rattle.imago_access.specs.Going.{EarlyOutcome, IsUnchanged, LookupCall, MarksFailed, MutatingCall}
use Rattle.imago_access.specs.Parts.{PlainCause}
use Rattle.imago_access.specs.Refusals.{InvalidateCause, unusable_fault, own_refusal, range_refusal}
use Rattle.imago_access.specs.Room.{IsWholeUnit, Takes}
use Rattle.imago_access.specs.Stops.{Left, KeepsCrashImages, KeepsCrashImagesTo, GivesNone, GivesBytes, GivesPast, GivesBelowPast, GivesSettled}
use Rattle.imago_storage.specs.Disk.{Value}
use Rattle.imago_access.specs.declared.driver_model.LayersBelowModel.{Ghosts as GhostsBelow}
use Rattle.imago_access.specs.declared.format.PreallocateMode.{PreallocateMode}
use Rattle.imago_access.specs.declared.mapping.PreparedDataMapping.{PreparedDataMapping}
use Rattle.imago_access.specs.Chain.{at}
use Rattle.imago_access.specs.Changes.{Asked, IsHolding, Committed}
use Rattle.imago_access.specs.PreparingCalls.{Prepares, RunRefused, WritesMapped, WritingRefused, Commits}
use Rattle.imago_access.specs.ResizeCalls.{Grows, GrowthRefused, Resizes, ShrinkRefused, Shrinks}
use Rattle.imago_access.specs.Spending.{Spends, IsMine, mapping_id_of}
use Rattle.imago_access.specs.PartCalls.{PartCall, ensures_zero, LeavesPart, DoesPart, PartRefused, PartGives}
use Rattle.imago_access.proofs.Answers.{handed_on}
use Rattle.imago_access.proofs.FilePairs.{kept_all_same, later_all_same, faultless_all_same}
use Rattle.imago_access.proofs.Stopping.{passes_none}
use Rattle.imago_formats.specs.VmdkFiles.{Keeps, Refuses}
use borrow.Author.Tests.{ne_eqb}

kept_later : (xs ys : List StorageState) → Pairs UnchangedButMoreFaults xs ys → Pairs IsLater xs ys
kept_later [] [] kept = tt
kept_later [] (y ∷ ys) kept = absurd kept
kept_later (x ∷ xs) [] kept = absurd kept
kept_later (x ∷ xs) (y ∷ ys) kept =
    ((kept.0.0.shape, record { faults = kept.0.1; refusals = omega (arith, kept.0.0.refusals) }), kept_later xs ys kept.1)

pub like_same : (l l' : Layer) → l' ≡ l → KeepsLayerState l l'
like_same l l' e = record {
  fixed = ap (λ (x : Layer). x.fixed) e;
  size = ap (λ (x : Layer). x.size) e;
  unspent = ap (λ (x : Layer). x.unspent) e;
  failed = λ f. subst (λ (x : Layer). IsTrue x.failed) (sym e) f;
}

module _ {D St : Type 0} (g : Ghosts D St) where
  pub quiet_looked : (whole : Type 0) (old new : D) → Keeps g old new → (whole → Pairs IsFaultless (files g old) (files g new)) → LookupCall g whole old new
  quiet_looked whole old new keeps sound = record {
    keeps_layer_state = like_same (g.layer old) (g.layer new) keeps.layer;
    counts_not_fallen = kept_later (files g old) (files g new) keeps.unchanged_but_faults;
    faults = sound;
    stays = λ w see. (keeps.layer, keeps.coherent see);
    safely = λ w s. keeps.safely s;
    cut = inr (record { seen = λ see. (keeps.layer, keeps.coherent see); safely = keeps.safely });
    stays_stable = keeps.stays_stable;
    excess_refcount = λ w. keeps.excess_refcount;
    unchanged_but_faults = λ s. (keeps.unchanged_but_faults, keeps.stilled s);
    crash_images = λ s below. let k = keeps.unchanged_but_faults.0.0 in
        passes_none (Left below (g.layer old) (g.image old).bytes g.sound (g.layer old).size (g.layer old).size GivesNone) (g.image old) (g.image new) k.shape (k.crash_image, k.past_crash_images, k.bytes, k.refusals);
  }

  pub quiet_went : (ok whole : Type 0) (old new : D) → Keeps g old new → (ok → Pairs IsFaultless (files g old) (files g new)) → MutatingCall g ok whole old new
  quiet_went ok whole old new keeps sound = record {
    fixed = ap (λ (x : Layer). x.fixed) keeps.layer;
    failed = λ f. subst (λ (x : Layer). IsTrue x.failed) (sym keeps.layer) f;
    counts_not_fallen = kept_later (files g old) (files g new) keeps.unchanged_but_faults;
    faults = sound;
    safely = λ w s. keeps.safely s;
    stays_stable = keeps.stays_stable;
    excess_refcount = λ w. keeps.excess_refcount;
  }

  stops_to : (below : List Layer) (least most : ℕ) (gives : ℕ → Value → Type 0) (d : D) → KeepsCrashImagesTo g below least most gives d d
  stops_to below least most gives d = passes_none (Left below (g.layer d) (g.image d).bytes g.sound least most gives) (g.image d) (g.image d) refl (refl, refl, refl, refl)

  pub went_same : (ok whole : Type 0) (d : D) → MutatingCall g ok whole d d
  went_same ok whole d = record { fixed = refl; failed = λ f. f; counts_not_fallen = later_all_same (files g d); faults = λ h. faultless_all_same (files g d); safely = λ h s. s; stays_stable = λ l. l; excess_refcount = λ h s c. refl }

  takes_same : (d : D) → Takes g (λ _. ⊤) d d
  takes_same d = record { stays_allocated = λ p l h. h; free = λ p s h. h; zeroes = λ p l s h. h }

  -- A call that changes nothing.
  pub unchanged_same : (d : D) → IsUnchanged g d d
  unchanged_same d = record {
    layer = refl;
    unasked = (refl, refl);
    seen = λ s. s;
    safely = λ s. s;
    stilled = λ s. s;
    stays_stable = λ l. l;
    excess_refcount = λ s c. refl;
    room = λ well_formed. takes_same d;
    stays_begun = λ x call b. b;
  }

  pub keeps_same : (d : D) → Keeps g d d
  keeps_same d = record {
    layer = refl;
    unchanged_but_faults = kept_all_same (files g d);
    coherent = λ s. s;
    safely = λ s. s;
    stilled = λ s. s;
    stays_stable = λ l. l;
    excess_refcount = λ s c. refl;
  }

  leaves_same : (call : PartCall) (offset n : ℕ) (d : D) → LeavesPart call g offset n d d
  leaves_same ensures_zero offset n d = record { stays_allocated = λ p l h. h; free = λ p s h. h; zeroes = λ p l s h. h }
  leaves_same call offset n d = record { stays_allocated = λ p l h. h; free = λ p s h. h; zeroes = λ p l s h. h }

  stops_same : (below : List Layer) (gives : ℕ → Value → Type 0) (d : D) → KeepsCrashImages g below gives d d
  stops_same below gives d = passes_none (Left below (g.layer d) (g.image d).bytes g.sound (g.layer d).size (g.layer d).size gives) (g.image d) (g.image d) refl (refl, refl, refl, refl)

  none_in : (offset p : ℕ) → IsIn offset 0 p → ⊥
  none_in offset p inside = omega (arith, inside.0, inside.1)

  -- An empty range contains no whole unit.
  none_whole : (size offset u : ℕ) → IsWholeUnit 1 size offset 0 u → ⊥
  none_whole size offset u w = omega (arith, w.start, w.on_disk, w.end)

  -- A part call on an empty range has no effect.
  pub does_nothing : (call : PartCall) (offset n : ℕ) (d : D) → n ≡ 0 → (g.layer d).fixed.unit ≡ 1 → DoesPart call g offset n (Ok (offset, 0)) d d
  does_nothing call offset n d none unit = record {
    ok = λ well_formed. record { keeps_layer_state = like_same (g.layer d) (g.layer d) refl; range = λ p inside. absurd (none_in offset p inside); others = λ p out. refl };
    err = λ well_formed. tt;
    reach = λ well_formed. record {
      none_before = λ u w. absurd (whole_none u w);
      nonempty = λ u w. absurd (whole_none u w);
      none_cut = λ u w low. absurd (whole_none u w);
    };
    given = λ well_formed p inside. absurd (none_in offset p inside);
    room = λ well_formed w. leaves_same call offset n d;
    keeps_layer_state = like_same (g.layer d) (g.layer d) refl;
    mutating_call = went_same ⊤ ⊤ d;
    stays_begun = λ x whole b part kind w. b;
    crash_images = λ well_formed below told. stops_same below (PartGives call below offset n) d;
  }
    where
      whole_none : (u : ℕ) → IsWholeUnit (g.layer d).fixed.unit (g.layer d).size offset n u → ⊥
      whole_none u w = none_whole (g.layer d).size offset u
          (subst (λ (m : ℕ). IsWholeUnit 1 (g.layer d).size offset m u) none (subst (λ (m : ℕ). IsWholeUnit m (g.layer d).size offset n u) unit w))

  -- A part call that fails.
  pub does_refused : (call : PartCall) (offset n : ℕ) (e : Fault) (d : D) → DoesPart call g offset n (Err e) d d
  does_refused call offset n e d = record {
    ok = λ well_formed. tt;
    err = λ well_formed not_resource_error. record { keeps_layer_state = like_same (g.layer d) (g.layer d) refl; range = λ p inside. inl refl; others = λ p out. refl };
    reach = λ well_formed. tt;
    given = λ well_formed. tt;
    room = λ well_formed w. leaves_same call offset n d;
    keeps_layer_state = like_same (g.layer d) (g.layer d) refl;
    mutating_call = went_same (IsNotResourceError e) (IsNotResourceError e) d;
    stays_begun = λ x whole b part kind w. b;
    crash_images = λ well_formed below told. stops_same below (PartGives call below offset n) d;
  }

  pub part_refused : (call : PartCall) (offset n : ℕ) (e : Fault) (d : D) → IsFalse (g.layer d).fixed.writable → Refuses (g.layer d) n e → PartRefused call g offset n (Err e) d d
  part_refused call offset n MissingData d closed why = record { failed = tt; marks_failed = tt; cause = λ well_formed below x whole b part is_for. inl why }
  part_refused call offset n ReadOnly d closed why = record { failed = tt; marks_failed = tt; cause = λ well_formed below x whole b part is_for. (why.1, closed) }
  part_refused call offset n e d closed why = absurd why

-- ---- Calls without a range.

module _ (layer : Layer) (olds news : List StorageState) where
  pub plain_fails : (e : Fault) → PlainCause layer olds news e → ImageCause olds news e
  plain_fails Failed cause = tt
  plain_fails MissingData cause = tt
  plain_fails Memory cause = tt
  plain_fails Storage cause = cause
  plain_fails e cause = absurd cause

  pub plain_reload : (e : Fault) → PlainCause layer olds news e → InvalidateCause (layer ∷ []) olds news e
  plain_reload Failed cause = inl cause
  plain_reload MissingData cause = inl cause
  plain_reload Memory cause = tt
  plain_reload Storage cause = cause
  plain_reload e cause = absurd cause

  pub plain_fresh : (e : Fault) → PlainCause layer olds news e → IsStale e → ⊥
  plain_fresh Failed cause stale = stale
  plain_fresh MissingData cause stale = stale
  plain_fresh Memory cause stale = stale
  plain_fresh Storage cause stale = stale
  plain_fresh e cause stale = absurd cause

-- ---- Early errors.

-- In a usable image the early errors are those of the range.
behind_barrier : (f m : Bool) (rest : Option Fault) → (if f then Some Failed else (if m then Some MissingData else None)) ≡ None →
    (if f then Some Failed else (if m then Some MissingData else rest)) ≡ rest
behind_barrier true m rest e = absurd cc
behind_barrier false true rest e = absurd cc
behind_barrier false false rest e = refl

at_barrier : (f m : Bool) (rest : Option Fault) (x : Fault) → (if f then Some Failed else (if m then Some MissingData else None)) ≡ Some x →
    (if f then Some Failed else (if m then Some MissingData else rest)) ≡ Some x
at_barrier true m rest x e = e
at_barrier false true rest x e = e
at_barrier false false rest x e = absurd cc

-- An empty range has no early error.
pub refuses_none : (layer : Layer) (offset n : ℕ) → unusable_fault layer ≡ None → n ≡ 0 → own_refusal layer offset n ≡ None
refuses_none layer offset n runs none =
    behind_barrier layer.failed layer.fixed.missing (range_refusal layer.fixed.writable (unit_of_layer layer) layer.size offset n) runs ∙ rw none refl

pub refuses_some : (layer : Layer) (offset n : ℕ) (e : Fault) → layer.fixed.writable ≡ false → Refuses layer n e → own_refusal layer offset n ≡ Some e
refuses_some layer offset n MissingData closed why =
    at_barrier layer.failed layer.fixed.missing (range_refusal layer.fixed.writable (unit_of_layer layer) layer.size offset n) MissingData why
refuses_some layer offset n ReadOnly closed why =
    behind_barrier layer.failed layer.fixed.missing (range_refusal layer.fixed.writable (unit_of_layer layer) layer.size offset n) why.0
    ∙ (let some : eqb n 0 ≡ false = ne_eqb _ _ (omega (arith, why.1)) in rw (some, closed) refl)
refuses_some layer offset n e closed why = absurd why

module _ {D St T : Type 0} (g : Ghosts D St) where
  -- The format doesn't mark images failed.
  pub unmarked : (r : Result T Fault) (old new : D) → IsFalse (g.layer old).fixed.marks_failed → IfErr r (MarksFailed g old new)
  unmarked (Ok v) old new never_marks = tt
  unmarked (Err Storage) old new never_marks = λ marks. absurd (cc (marks, never_marks))
  unmarked (Err Memory) old new never_marks = λ marks. absurd (cc (marks, never_marks))
  unmarked (Err e) old new never_marks = tt

  -- A call of a usable image, and a call of an unusable one.
  pub at_once_runs : (nothing : Type 0) (r : Result T Fault) (old new : D) → unusable_fault (g.layer old) ≡ None →
      (nothing → IsOk r × IsUnchanged g old new) → EarlyOutcome g (unusable_fault (g.layer old)) nothing r old new
  at_once_runs nothing r old new runs idle = record {
    refused = λ f is. absurd (cc (runs, is));
    idle = λ none b. (idle none).0;
    unchanged = λ h. elim h [ inl none ↦ (idle none).1 | inr is ↦ absurd (cc (runs, is)) ];
  }

  pub at_once_unusable : (nothing : Type 0) (e : Fault) (d : D) → unusable_fault (g.layer d) ≡ Some e →
      EarlyOutcome {T = T} g (unusable_fault (g.layer d)) nothing (Err e) d d
  at_once_unusable nothing e d barred = record {
    refused = λ f is. let same : Some e ≡ Some f = sym barred ∙ is in cc same;
    idle = λ none runs. absurd (cc (runs, barred));
    unchanged = λ h. unchanged_same g d;
  }

  -- The same for the error that `?` returns.
  pub at_once_handed : (nothing : Type 0) (result : Result T Fault) (e : Fault) (d : D) → IsErrAnd result (λ x. x ≡ e) → unusable_fault (g.layer d) ≡ Some e →
      EarlyOutcome g (unusable_fault (g.layer d)) nothing result d d
  at_once_handed nothing result e d is_err barred =
      subst (λ (r : Result T Fault). EarlyOutcome g (unusable_fault (g.layer d)) nothing r d d) (sym (handed_on result e is_err)) (at_once_unusable nothing e d barred)

  pub at_once_none : (offset n : ℕ) (v : T) (d : D) → unusable_fault (g.layer d) ≡ None → n ≡ 0 → EarlyOutcome g (own_refusal (g.layer d) offset n) (n ≡ 0) (Ok v) d d
  at_once_none offset n v d runs none = record {
    refused = λ f is. let no = refuses_none (g.layer d) offset n runs none in absurd (cc (is, no));
    idle = λ z b. refl;
    unchanged = λ h. unchanged_same g d;
  }

  pub at_once_some : (offset n : ℕ) (e : Fault) (d : D) → (g.layer d).fixed.writable ≡ false → Refuses (g.layer d) n e →
      EarlyOutcome {T = T} g (own_refusal (g.layer d) offset n) (n ≡ 0) (Err e) d d
  at_once_some offset n e d closed why = let some = refuses_some (g.layer d) offset n e closed why in record {
    refused = λ f is. let same : Some e ≡ Some f = sym some ∙ is in cc same;
    idle = λ z b. let none = refuses_none (g.layer d) offset n b z in absurd (cc (some, none));
    unchanged = λ h. unchanged_same g d;
  }

  pub at_once_same : (offset n : ℕ) (r : Result T Fault) (d : D) → (g.layer d).fixed.writable ≡ false →
      OnOk r ((unusable_fault (g.layer d) ≡ None) × (n ≡ 0)) → IfErr r (Refuses (g.layer d) n) →
      EarlyOutcome g (own_refusal (g.layer d) offset n) (n ≡ 0) r d d
  at_once_same offset n (Ok v) d closed done why = at_once_none offset n v d done.0 done.1
  at_once_same offset n (Err e) d closed done why = at_once_some offset n e d closed why

-- ---- Mappings and resizes of a layer that is never written.

module _ {D St B : Type 0} (g : Ghosts D St) (u : GhostsBelow B) where
  pub prepares_none : (asked : Asked) (m : PreparedDataMapping St) (d : D) (b : B) → asked.length ≡ 0 → m.length ≡ 0 → m.state ≡ None →
      (g.layer d).fixed.unit ≡ 1 → (g.layer d).unspent ≡ None → ((p : ℕ) → (g.layer d).held p ≡ loose) → Prepares g u asked (Ok m) (d, b) (d, b)
  prepares_none asked m d b none short stateless unit free held = record {
    ok = λ well_formed see. record {
      fixed = refl;
      size = refl;
      cell = refl;
      writable_location = λ i low. let bad : i < 0 = subst (λ (k : ℕ). i < k) short low in absurd (omega (arith, bad));
      unspent = free ∙ sym (ap (mapping_id_of g.mapping_id) stateless);
      holds = λ p. subst (λ (h : Held). IsHolding (at (u.layers_below b)) (g.layer d) asked.offset m.length asked.overwrite p h) (sym (held p)) tt;
      some_held = λ c is. let bad : None ≡ Some c = sym (ap (mapping_id_of g.mapping_id) stateless) ∙ is in absurd (cc bad);
    };
    err = λ well_formed see. tt;
    uncut = λ well_formed see k w. absurd (none_whole g (g.layer d).size asked.offset k
        (subst (λ (n : ℕ). IsWholeUnit 1 (g.layer d).size asked.offset n k) none (subst (λ (n : ℕ). IsWholeUnit n (g.layer d).size asked.offset asked.length k) unit w)));
    no_range_overflow = λ well_formed see p apart. held p;
    room = λ well_formed see w. takes_same g d;
    crash_images = λ well_formed see. stops_same g (u.layers_below b) GivesNone d;
    mutating_call = went_same g ⊤ (⊤ × u.coherent_below b) d;
    stays_begun = λ x call begun part w. begun;
    refused = record { failed = tt; marks_failed = tt; cause = λ well_formed see x call begun part over. tt };
  }

  run_refused : (asked : Asked) (e : Fault) (d : D) (b : B) → IsFalse (g.layer d).fixed.writable → Refuses (g.layer d) asked.length e →
      RunRefused {T = PreparedDataMapping St} g u asked (Err e) (d, b) (d, b)
  run_refused asked MissingData d b closed why = record { failed = tt; marks_failed = tt; cause = λ well_formed see x call begun part over. inl why }
  run_refused asked ReadOnly d b closed why = record { failed = tt; marks_failed = tt; cause = λ well_formed see x call begun part over. (why.1, closed) }
  run_refused asked e d b closed why = absurd why

  pub prepares_refused : (asked : Asked) (e : Fault) (d : D) (b : B) → IsFalse (g.layer d).fixed.writable → Refuses (g.layer d) asked.length e →
      Prepares g u asked (Err e) (d, b) (d, b)
  prepares_refused asked e d b closed why = record {
    ok = λ well_formed see. tt;
    err = λ well_formed see not_resource_error. record { keeps_layer_state = like_same (g.layer d) (g.layer d) refl; cell = refl; held = refl };
    uncut = λ well_formed see. tt;
    no_range_overflow = λ well_formed see. tt;
    room = λ well_formed see w. takes_same g d;
    crash_images = λ well_formed see. stops_same g (u.layers_below b) GivesNone d;
    mutating_call = went_same g (IsNotResourceError e) (IsNotResourceError e × u.coherent_below b) d;
    stays_begun = λ x call begun part w. begun;
    refused = run_refused asked e d b closed why;
  }

  pub grows_none : (size : ℕ) (mode : PreallocateMode) (d : D) (b : B) → size ≤ (g.layer d).size → Grows g u size mode (Ok tt) (d, b) (d, b)
  grows_none size mode d b low = record {
    ok = λ well_formed see high. absurd (omega (arith, low, high));
    err = λ well_formed see. tt;
    crash_images = λ well_formed see. stops_to g (u.layers_below b) (g.layer d).size (max (g.layer d).size size) (GivesPast (g.layer d).size) d;
    mutating_call = went_same g ⊤ (⊤ × u.coherent_below b) d;
  }

  pub grows_refused : (size : ℕ) (mode : PreallocateMode) (e : Fault) (d : D) (b : B) → Grows g u size mode (Err e) (d, b) (d, b)
  grows_refused size mode e d b = record {
    ok = λ well_formed see high. tt;
    err = λ well_formed see not_resource_error. record { keeps_layer_state = like_same (g.layer d) (g.layer d) refl; data_unchanged = λ p low. refl };
    crash_images = λ well_formed see. stops_to g (u.layers_below b) (g.layer d).size (max (g.layer d).size size) (GivesPast (g.layer d).size) d;
    mutating_call = went_same g (IsNotResourceError e) (IsNotResourceError e × u.coherent_below b) d;
  }

  -- A growth by `n` bytes, which only succeeds if `n` is 0.
  pub grows_same : (size n : ℕ) (mode : PreallocateMode) (r : Result Unit Fault) (d : D) (b : B) → n ≡ size - (g.layer d).size →
      OnOk r ((unusable_fault (g.layer d) ≡ None) × (n ≡ 0)) → Grows g u size mode r (d, b) (d, b)
  grows_same size n mode (Ok v) d b more done = grows_none size mode d b (omega (arith, more, done.1))
  grows_same size n mode (Err e) d b more done = grows_refused size mode e d b

  pub growth_refused : (size n : ℕ) (mode : PreallocateMode) (r : Result Unit Fault) (d : D) (b : B) → n ≡ size - (g.layer d).size →
      IsFalse (g.layer d).fixed.writable → IfErr r (Refuses (g.layer d) n) → GrowthRefused g u size mode r (d, b) (d, b)
  growth_refused size n mode (Ok v) d b more closed why = record { failed = tt; marks_failed = tt; cause = λ well_formed see. tt }
  growth_refused size n mode (Err MissingData) d b more closed why = record { failed = tt; marks_failed = tt; cause = λ well_formed see. inl why }
  growth_refused size n mode (Err ReadOnly) d b more closed why =
      record { failed = tt; marks_failed = tt; cause = λ well_formed see. (omega (arith, more, why.1), closed) }
  growth_refused size n mode (Err e) d b more closed why = absurd why

module _ {D St : Type 0} (g : Ghosts D St) where
  pub shrinks_none : (size : ℕ) (d : D) → (g.layer d).size ≤ size → Shrinks g size (Ok tt) d d
  shrinks_none size d high = record {
    ok = λ well_formed low. absurd (omega (arith, low, high));
    err = λ well_formed. tt;
    crash_images = λ well_formed below backed. stops_to g below size (g.layer d).size (GivesBelowPast below size) d;
    mutating_call = went_same g ⊤ ⊤ d;
  }

  pub shrinks_refused : (size : ℕ) (e : Fault) (d : D) → Shrinks g size (Err e) d d
  shrinks_refused size e d = record {
    ok = λ well_formed low. tt;
    err = λ well_formed not_resource_error. record { keeps_layer_state = like_same (g.layer d) (g.layer d) refl; data_unchanged = λ p low. refl };
    crash_images = λ well_formed below backed. stops_to g below size (g.layer d).size (GivesBelowPast below size) d;
    mutating_call = went_same g (IsNotResourceError e) (IsNotResourceError e) d;
  }

  -- A shrink by `n` bytes, which only succeeds if `n` is 0.
  pub shrinks_same : (size n : ℕ) (r : Result Unit Fault) (d : D) → n ≡ (g.layer d).size - size →
      OnOk r ((unusable_fault (g.layer d) ≡ None) × (n ≡ 0)) → Shrinks g size r d d
  shrinks_same size n (Ok v) d less done = shrinks_none size d (omega (arith, less, done.1))
  shrinks_same size n (Err e) d less done = shrinks_refused size e d

  pub shrink_refused : (size n : ℕ) (r : Result Unit Fault) (d : D) → n ≡ (g.layer d).size - size → IsFalse (g.layer d).fixed.writable →
      IfErr r (Refuses (g.layer d) n) → ShrinkRefused g size r d d
  shrink_refused size n (Ok v) d less closed why = record { failed = tt; marks_failed = tt; cause = λ well_formed below. tt }
  shrink_refused size n (Err MissingData) d less closed why = record { failed = tt; marks_failed = tt; cause = λ well_formed below. inl why }
  shrink_refused size n (Err ReadOnly) d less closed why =
      record { failed = tt; marks_failed = tt; cause = λ well_formed below. (omega (arith, less, why.1), closed) }
  shrink_refused size n (Err e) d less closed why = absurd why

  -- The early outcome of either resize.
  pub resizes_same : (first second n : ℕ) (r : Result Unit Fault) (d : D) → n ≡ first - second → IsFree (g.layer d) →
      OnOk r ((unusable_fault (g.layer d) ≡ None) × (n ≡ 0)) → IfErr r (Refuses (g.layer d) n) → Resizes g first second r d d
  resizes_same first second n (Ok v) d apart free done why = record {
    nothing = λ le. refl;
    free = free;
    early_outcome = record { refused = λ f is. absurd (cc (done.0, is)); idle = λ le runs. refl; unchanged = λ h. unchanged_same g d };
    read_only = λ runs lt closed. absurd (omega (arith, apart, done.1, lt));
  }
  resizes_same first second n (Err MissingData) d apart free done why = record {
    nothing = λ le. tt;
    free = free;
    early_outcome = at_once_unusable g (first ≤ second) MissingData d why;
    read_only = λ runs lt closed. absurd (cc (runs, why));
  }
  resizes_same first second n (Err ReadOnly) d apart free done why = record {
    nothing = λ le. tt;
    free = free;
    early_outcome = record {
      refused = λ f is. absurd (cc (why.0, is));
      idle = λ le runs. absurd (omega (arith, apart, why.1, le));
      unchanged = λ h. unchanged_same g d;
    };
    read_only = λ runs lt closed. (refl, unchanged_same g d);
  }
  resizes_same first second n (Err e) d apart free done why = absurd why

  pub writes_none : (guest place : ℕ) (bytes : List ℕ) (d : D) → length bytes ≡ 0 → WritesMapped g guest place bytes (Ok tt) d d
  writes_none guest place bytes d none = record {
    mapped = λ see some. absurd (omega (arith, some, none));
    empty = λ z. refl;
    keeps_layer_state = like_same (g.layer d) (g.layer d) refl;
    ok = λ well_formed. record {
      keeps_layer_state = like_same (g.layer d) (g.layer d) refl;
      writable_location = refl;
      range = λ i low. absurd (omega (arith, low, none));
      others = λ p out. (refl, refl);
    };
    err = λ well_formed. tt;
    room = λ well_formed w. takes_same g d;
    crash_images = λ well_formed below. stops_same g below (GivesBytes guest bytes) d;
    mutating_call = went_same g ⊤ ⊤ d;
    stays_begun = λ x call begun. begun;
  }

  pub writes_refused : (guest place : ℕ) (bytes : List ℕ) (e : Fault) (d : D) → WritesMapped g guest place bytes (Err e) d d
  writes_refused guest place bytes e d = record {
    mapped = λ see. tt;
    empty = λ z. refl;
    keeps_layer_state = like_same (g.layer d) (g.layer d) refl;
    ok = λ well_formed. tt;
    err = λ well_formed not_resource_error. refl;
    room = λ well_formed w. takes_same g d;
    crash_images = λ well_formed below. stops_same g below (GivesBytes guest bytes) d;
    mutating_call = went_same g (IsNotResourceError e) (IsNotResourceError e) d;
    stays_begun = λ x call begun. tt;
  }

  pub writing_refused : (guest place n : ℕ) (e : Fault) (d : D) → IsFalse (g.layer d).fixed.writable → Refuses (g.layer d) n e → WritingRefused g guest place n (Err e) d d
  writing_refused guest place n MissingData d closed why = record { failed = tt; marks_failed = tt; cause = λ well_formed. inl why }
  writing_refused guest place n ReadOnly d closed why = record { failed = tt; marks_failed = tt; cause = λ well_formed. (why.1, closed) }
  writing_refused guest place n e d closed why = absurd why

  pub writes_same : (guest place : ℕ) (bytes : List ℕ) (r : Result Unit Fault) (d : D) →
      OnOk r ((unusable_fault (g.layer d) ≡ None) × (length bytes ≡ 0)) → WritesMapped g guest place bytes r d d
  writes_same guest place bytes (Ok v) d done = writes_none guest place bytes d done.1
  writes_same guest place bytes (Err e) d done = writes_refused guest place bytes e d

  pub writing_same : (guest place n : ℕ) (r : Result Unit Fault) (d : D) → IsFalse (g.layer d).fixed.writable →
      IfErr r (Refuses (g.layer d) n) → WritingRefused g guest place n r d d
  writing_same guest place n (Ok v) d closed why = record { failed = tt; marks_failed = tt; cause = λ well_formed. tt }
  writing_same guest place n (Err e) d closed why = writing_refused guest place n e d closed why

  -- A commit that returns its mapping, or has nothing to commit.
  pub commits_same : (state : Option St) (result : Result Unit (Fault × Option (PreparedDataMapping St))) (d : D) →
      OnOk result (Spends g state (g.layer d) (g.layer d) (IsFree (g.layer d) × (g.well_formed d → Committed (g.layer d) (g.layer d)))) → Commits g state result d d
  commits_same state result d spends = record {
    ok = spends;
    size = refl;
    room = λ well_formed mine. on_ok result (Takes g (λ p. (g.layer d).held p ≡ loose) d d) (record { stays_allocated = λ p l h. h; free = λ p s h. h; zeroes = λ p l s h. h });
    crash_images = λ well_formed mine below. stops_same g below (GivesSettled below (g.layer d)) d;
    mutating_call = went_same g (MatchResult result (λ _. ⊤) (λ e. IsNotResourceError e.0)) (IsOk result × IsMine g state (g.layer d)) d;
    coherent = λ none see. see;
    stays_begun = λ x call begun mine. on_ok result (g.began x call d) begun;
  }
    where
      on_ok : {T E : Type 0} (r : Result T E) (P : Type 0) → P → OnOk r P
      on_ok (Ok v) P holds = holds
      on_ok (Err e) P holds = tt
