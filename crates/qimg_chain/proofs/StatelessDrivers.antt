-- Commits and cancels of mappings by an image that prepares none with state.
use Rattle.std.proofs.Common.{◌≡◌, ◌⊎◌, ◌∙◌, refl, sym, subst, ap, inl, inr}
use Rattle.std.specs.Prelude.{◌≢◌, Bool, true, false, not, eqb, Option, Some, None, IsSome, IfSome, IsTrue, IsFalse, IsOk, Result, Ok, Err, OnOk, IfErr, if◌then◌else◌}
use Rattle.imago_storage.specs.declared.fault.Fault.{Fault}
use Rattle.imago_storage.specs.declared.fault.Fault.TheVariants.{ReadOnly, Foreign, Failed, MissingData}
use Rattle.imago_access.specs.declared.driver_model.DriverModel.{Ghosts}
use Rattle.imago_access.specs.declared.mapping.PreparedDataMapping.{PreparedDataMapping}
use Rattle.imago_access.specs.Changes.{Cancelled, Committed}
use Rattle.imago_access.specs.Files.{ImageCause, files}
use Rattle.imago_access.specs.Going.{IsUnchanged}
use Rattle.imago_access.specs.Layer.{IsFree}
use Rattle.imago_access.specs.PreparingCalls.{Commits, CommitRefused, Cancels}
use Rattle.imago_access.specs.Refusals.{unusable_fault}
use Rattle.imago_access.specs.Spending.{CommitCheck, GivenBack, IsForeignTo, Spends, commit_refusal}
use Rattle.imago_formats.proofs.Quiet.{commits_same, unchanged_same}
use Rattle.qcow2_image.specs.declared.qcow2.PreparedMappingState.{PreparedMappingState}
use Rattle.qimg_chain.specs.ImageDrivers.{IsSpent, IsGivenBack, IsOwn, IsOthers}
use Rattle.std.proofs.lemmas.Bool.{eq-eqb, ne_eqb}

-- The image prepares no mapping with state, has the number 0, and reports whether it is ready and was opened for writing.
pub record IsStateless {E : Type 0} (h : Ghosts E PreparedMappingState) (d : E) (ready : Result Unit Fault) (writable : Bool) : Type 0 where
  pub tags : (s : PreparedMappingState) → h.tag s ≡ s.number
  pub numbered : (h.layer d).fixed.number ≡ 0
  pub free : (h.layer d).unspent ≡ None
  pub writes : writable ≡ (h.layer d).fixed.writable
  pub can : OnOk ready (unusable_fault (h.layer d) ≡ None)
  pub cannot : IfErr ready (λ e. unusable_fault (h.layer d) ≡ Some e)

-- The faults that bar an image from every call.
bars : (failed missing : Bool) (e : Fault) → (if failed then Some Failed else if missing then Some MissingData else None) ≡ Some e → (e ≡ Failed) ⊎ (e ≡ MissingData)
bars true missing e is = inl cc
bars false true e is = inr cc
bars false false e is = absurd (cc is)

module _ {E : Type 0} (h : Ghosts E PreparedMappingState) (d : E) where
  -- ---- Cancelling a mapping.

  pub cancels : (m : PreparedDataMapping PreparedMappingState) (result : Result Unit (Fault × PreparedDataMapping PreparedMappingState))
      → ((s : PreparedMappingState) → h.tag s ≡ s.number) → (h.layer d).fixed.number ≡ 0 → (h.layer d).unspent ≡ None
      → OnOk result (IsOwn m.state) → IfErr result (λ e. (e.1 ≡ m) × (e.0 ≡ Foreign) × IsOthers m.state) → Cancels h m result d d
  cancels m result tags numbered free ok back = record {
    ok = owned m.state result ok;
    back = given result back;
    unchanged = λ none. unchanged_same h d;
    fixed = refl;
    size = refl;
    failed = refl;
    none = (refl, refl);
    stable = λ l. l;
    excess_refcount = λ mine s c. refl;
    coherent = λ s. s;
    well_formed = λ mine s. s;
    room = λ well_formed mine. record { stays_allocated = λ p l r. r; free = λ p l r. r; zeroes = λ p l s r. r };
    stays_begun = λ x call b. b;
  }
    where
      owned : (state : Option PreparedMappingState) (r : Result Unit (Fault × PreparedDataMapping PreparedMappingState)) → OnOk r (IsOwn state)
          → OnOk r (Spends h state (h.layer d) (h.layer d) (Cancelled (h.layer d) (h.layer d)))
      owned state (Err e) own = tt
      owned None (Ok v) own = refl
      owned (Some s) (Ok v) own = (tags s ∙ own ∙ sym numbered, λ mine. let clash : None ≡ Some (h.mapping_id s) = sym free ∙ mine in absurd (cc clash))

      others : (state : Option PreparedMappingState) → IsOthers state → IsForeignTo h.tag state (h.layer d)
      others None other = other
      others (Some s) other = λ same. other (sym (tags s) ∙ same ∙ numbered)

      given : (r : Result Unit (Fault × PreparedDataMapping PreparedMappingState)) → IfErr r (λ e. (e.1 ≡ m) × (e.0 ≡ Foreign) × IsOthers m.state)
          → IfErr r (λ e. (e.1 ≡ m) × (e.0 ≡ Foreign) × IsForeignTo h.tag m.state (h.layer d) × IsUnchanged h d d)
      given (Ok v) b = tt
      given (Err e) b = (b.0, b.1, others m.state b.2, unchanged_same h d)

-- ---- Committing a mapping.

-- A barred image fails before any other check.
at_bar : (failed missing : Bool) (rest : Option Fault) (e : Fault) → (if failed then Some Failed else if missing then Some MissingData else None) ≡ Some e
    → (if failed then Some Failed else if missing then Some MissingData else rest) ≡ Some e
at_bar true missing rest e is = is
at_bar false true rest e is = is
at_bar false false rest e is = absurd (cc is)

behind_bar : (failed missing : Bool) (rest : Option Fault) → (if failed then Some Failed else if missing then Some MissingData else None) ≡ None
    → (if failed then Some Failed else if missing then Some MissingData else rest) ≡ rest
behind_bar true missing rest is = absurd (cc is)
behind_bar false true rest is = absurd (cc is)
behind_bar false false rest is = refl

module _ {E : Type 0} (h : Ghosts E PreparedMappingState) (d : E) (ready : Result Unit Fault) (writable : Bool) (is : IsStateless h d ready writable) where
  abbrev rest_of : PreparedMappingState → Option Fault
  rest_of s = if not (h.layer d).fixed.writable then Some ReadOnly else if not (eqb (h.tag s) (h.layer d).fixed.number) then Some Foreign else None

  foreign : (s : PreparedMappingState) → s.number ≢ 0 → h.tag s ≢ (h.layer d).fixed.number
  foreign s other same = other (sym (is.tags s) ∙ same ∙ is.numbered)

  own_number : (s : PreparedMappingState) → s.number ≡ 0 → h.tag s ≡ (h.layer d).fixed.number
  own_number s own = is.tags s ∙ own ∙ sym is.numbered

  -- The first cause why the mapping is returned.
  refused_by : (state : Option PreparedMappingState) (e : Fault) → IsGivenBack ready writable state e → commit_refusal h state (h.layer d) ≡ Some e
  refused_by None e why = let bar = subst (λ (r : Result Unit Fault). IfErr r (λ x. unusable_fault (h.layer d) ≡ Some x)) why is.cannot in bar
  refused_by (Some s) e why = from ready is.can is.cannot why where
    closed : IsFalse writable → rest_of s ≡ Some ReadOnly
    closed shut = let clash : (h.layer d).fixed.writable ≡ false = sym is.writes ∙ shut in rw clash refl

    another : IsTrue writable → s.number ≢ 0 → rest_of s ≡ Some Foreign
    another may other =
        let wide : (h.layer d).fixed.writable ≡ true = sym is.writes ∙ may in
        let ne : eqb (h.tag s) (h.layer d).fixed.number ≡ false = ne_eqb _ _ (foreign s other) in
        rw (wide, ne) refl

    from : (r : Result Unit Fault) → OnOk r (unusable_fault (h.layer d) ≡ None) → IfErr r (λ x. unusable_fault (h.layer d) ≡ Some x) → CommitCheck r writable 0 s.number e → commit_refusal h (Some s) (h.layer d) ≡ Some e
    from (Err f) can cannot same = at_bar (h.layer d).failed (h.layer d).fixed.missing (rest_of s) e (cannot ∙ ap Some (sym same))
    from (Ok v) can cannot (inl shut) = behind_bar (h.layer d).failed (h.layer d).fixed.missing (rest_of s) can ∙ closed shut.0 ∙ ap Some (sym shut.1)
    from (Ok v) can cannot (inr other) = behind_bar (h.layer d).failed (h.layer d).fixed.missing (rest_of s) can ∙ another other.0 other.1 ∙ ap Some (sym other.2)

  -- A mapping that is consumed has no such cause.
  refused_by_none : (state : Option PreparedMappingState) → IsSpent ready writable state → commit_refusal h state (h.layer d) ≡ None
  refused_by_none None ok = from ready is.can ok where
    from : (r : Result Unit Fault) → OnOk r (unusable_fault (h.layer d) ≡ None) → IsOk r → unusable_fault (h.layer d) ≡ None
    from (Ok v) can runs = can
    from (Err f) can runs = absurd (cc runs)
  refused_by_none (Some s) ok = from ready is.can ok.0 where
    none_left : rest_of s ≡ None
    none_left =
        let wide : (h.layer d).fixed.writable ≡ true = sym is.writes ∙ ok.1 in
        let same : eqb (h.tag s) (h.layer d).fixed.number ≡ true = eq-eqb _ _ (own_number s ok.2) in
        rw (wide, same) refl

    from : (r : Result Unit Fault) → OnOk r (unusable_fault (h.layer d) ≡ None) → IsOk r → commit_refusal h (Some s) (h.layer d) ≡ None
    from (Ok v) can runs = behind_bar (h.layer d).failed (h.layer d).fixed.missing (rest_of s) can ∙ none_left
    from (Err f) can runs = absurd (cc runs)

  -- The reason why the mapping is returned, as the driver states it. No call of an image fails for another reason.
  given_back : (state : Option PreparedMappingState) (e : Fault) → IsGivenBack ready writable state e → GivenBack h.tag state (h.layer d) e × ImageCause (files h d) (files h d) e
  given_back None e why = let bar = subst (λ (r : Result Unit Fault). IfErr r (λ x. unusable_fault (h.layer d) ≡ Some x)) why is.cannot in
      elim (bars (h.layer d).failed (h.layer d).fixed.missing e bar) [
        | inl one ↦ subst (λ (x : Fault). GivenBack h.tag None (h.layer d) x × ImageCause (files h d) (files h d) x) (sym one) (bar ∙ ap Some one, tt)
        | inr other ↦ subst (λ (x : Fault). GivenBack h.tag None (h.layer d) x × ImageCause (files h d) (files h d) x) (sym other) (bar ∙ ap Some other, tt)
      ]
  given_back (Some s) e why = from ready is.cannot why where
    from : (r : Result Unit Fault) → IfErr r (λ x. unusable_fault (h.layer d) ≡ Some x) → CommitCheck r writable 0 s.number e → GivenBack h.tag (Some s) (h.layer d) e × ImageCause (files h d) (files h d) e
    from (Err f) cannot same = let bar : unusable_fault (h.layer d) ≡ Some e = cannot ∙ ap Some (sym same) in
        elim (bars (h.layer d).failed (h.layer d).fixed.missing e bar) [
          | inl one ↦ subst (λ (x : Fault). GivenBack h.tag (Some s) (h.layer d) x × ImageCause (files h d) (files h d) x) (sym one) (bar ∙ ap Some one, tt)
          | inr other ↦ subst (λ (x : Fault). GivenBack h.tag (Some s) (h.layer d) x × ImageCause (files h d) (files h d) x) (sym other) (bar ∙ ap Some other, tt)
        ]
    from (Ok v) cannot (inl shut) =
        subst (λ (x : Fault). GivenBack h.tag (Some s) (h.layer d) x × ImageCause (files h d) (files h d) x) (sym shut.1) (sym is.writes ∙ shut.0, tt)
    from (Ok v) cannot (inr other) =
        subst (λ (x : Fault). GivenBack h.tag (Some s) (h.layer d) x × ImageCause (files h d) (files h d) x) (sym other.2) (foreign s other.1, tt)

  pub commits : (state : Option PreparedMappingState) (result : Result Unit (Fault × Option (PreparedDataMapping PreparedMappingState))) → OnOk result (IsSpent ready writable state) → Commits h state result d d
  commits state result ok = commits_same h state result d (spends state result ok) where
    spends : (state : Option PreparedMappingState) (r : Result Unit (Fault × Option (PreparedDataMapping PreparedMappingState))) → OnOk r (IsSpent ready writable state)
        → OnOk r (Spends h state (h.layer d) (h.layer d) (IsFree (h.layer d) × (h.well_formed d → Committed (h.layer d) (h.layer d))))
    spends state (Err e) ok = tt
    spends None (Ok v) ok = refl
    spends (Some s) (Ok v) ok = (own_number s ok.2, λ mine. let clash : None ≡ Some (h.mapping_id s) = sym is.free ∙ mine in absurd (cc clash))

  pub commit_refused : (m : PreparedDataMapping PreparedMappingState) (result : Result Unit (Fault × Option (PreparedDataMapping PreparedMappingState))) → OnOk result (IsSpent ready writable m.state)
      → IfErr result (λ e. e.1 ≡ Some m) → IfErr result (λ e. IsGivenBack ready writable m.state e.0) → CommitRefused h m result d d
  commit_refused m (Ok v) ok back cause = record {
    early_outcome = λ f why. let clash : None ≡ Some f = sym (refused_by_none m.state ok) ∙ why in absurd (cc clash);
    unchanged = λ why. unchanged_same h d;
    back = tt;
    spent = tt;
    failed = tt;
  }
  commit_refused m (Err e) ok back cause = let given = given_back m.state e.0 cause in record {
    early_outcome = λ f why. let same : Some e.0 ≡ Some f = sym (refused_by m.state e.0 cause) ∙ why in (cc same, subst (λ (o : Option (PreparedDataMapping PreparedMappingState)). IsSome o) (sym back) refl);
    unchanged = λ why. unchanged_same h d;
    back = subst (λ (o : Option (PreparedDataMapping PreparedMappingState)). IfSome o (λ n. (n ≡ m) × GivenBack h.tag m.state (h.layer d) e.0 × IsUnchanged h d d)) (sym back) (refl, given.0, unchanged_same h d);
    spent = λ none. let clash : None ≡ Some m = sym none ∙ back in absurd (cc clash);
    failed = given.1;
  }
