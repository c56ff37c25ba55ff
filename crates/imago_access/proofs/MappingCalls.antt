-- A chain's calls on mappings, from the effects on its driver.
use Rattle.std.proofs.Common.{◌≡◌, ◌⊎◌, refl, inl, inr, ℕ, ◌+◌, ◌<◌, ◌≤◌, Bool, true, false, Option, Some, None, List, ◌∷◌, ◌++◌, length, map, arith, sym, ◌∙◌, ap, subst}
use Rattle.std.specs.Prelude.{Result, OnOk, IfErr, is_some}
use Rattle.std.proofs.lemmas.Bool.{cases_lt}
use Rattle.std.proofs.lemmas.Result.{IfErr-weaker}
use Rattle.imago_storage.specs.State.{StorageState, IsAlignment}
use Rattle.imago_storage.specs.Disk.{Value, free, held}
use Rattle.imago_storage.specs.Steps.{Step, Stays, IsIn, prepare, prepared, write_mapped}
use Rattle.imago_storage.specs.declared.fault.Fault.{Fault}
use Rattle.imago_storage.specs.declared.fault.Fault.TheVariants.{ReadOnly, PastEnd, RangeOverflow, Foreign, MissingData, Failed, Outdated, Memory, Storage}
use Rattle.imago_access.specs.Layer.{Layer, Cell, through, Held, loose, beside, inside, hold_of, KeepsLayerState, unit_of_layer}
use Rattle.imago_access.specs.Chain.{at, disk_of, unit_of_chain}
use Rattle.imago_access.specs.Changes.{asking, run_at, IsHolding, Prepared, NotPrepared, Wrote}
use Rattle.imago_access.specs.Files.{IsNotResourceError, HadNoResourceError}
use Rattle.imago_access.specs.Going.{MutatingCall}
use Rattle.imago_access.specs.Parts.{IsMappedAt, MappedCause}
use Rattle.imago_access.specs.Refusals.{ChangeCause}
use Rattle.imago_access.specs.Running.{HoldsTrue, IsBetween, RangeChange}
use Rattle.imago_access.specs.Spending.{mapping_id_of}
use Rattle.imago_access.specs.Stops.{KeepsCrashImages, GivesBytes}
use Rattle.imago_access.proofs.Answers.{whole_holds, both_on_ok}
use Rattle.imago_access.proofs.FilePairs.{some_rose_left}
use Rattle.imago_access.proofs.Holding.{at_alike, truly_wrote, between_wrote}
use Rattle.imago_access.proofs.Running.{ran_driver}
use Rattle.imago_access.proofs.Units.{overflows_more, layer_aligned, unit_aligned}
use Rattle.imago_access.specs.declared.driver_model.DriverModel.{Ghosts}
use Rattle.imago_access.specs.declared.driver_model.LayersBelowModel.{Ghosts as GhostsBelow}

-- Writes to a mapped range.

pub write_mapped_cause : {D : Type 0} (layer : D → Layer) (aligned : (d : D) → IsAlignment (layer d).fixed.req_align × IsAlignment (layer d).fixed.mem_align) (d : D) (ds : List D) (guest place : ℕ) (bytes : List ℕ) (olds news us vs : List StorageState) (e : Fault)
    → MappedCause (layer d) guest place (length bytes) olds news e
    → ChangeCause (map layer ds) (layer d) (write_mapped guest bytes) (λ f. (f ≡ Outdated) × (0 < length bytes) × (IsMappedAt (layer d) guest place (length bytes) → ⊥)) (olds ++ us) (news ++ vs) e
write_mapped_cause layer aligned d ds guest place bytes olds news us vs Outdated h = (refl, h.0, h.1)
write_mapped_cause layer aligned d ds guest place bytes olds news us vs ReadOnly h = h
write_mapped_cause layer aligned d ds guest place bytes olds news us vs PastEnd h = (h.0, h.1)
write_mapped_cause layer aligned d ds guest place bytes olds news us vs RangeOverflow h =
    let le : unit_of_layer (layer d) ≤ unit_of_chain (map layer (d ∷ ds)) = omega arith in
    overflows_more (unit_of_layer (layer d)) (unit_of_chain (map layer (d ∷ ds))) guest (length bytes) (layer_aligned layer aligned d) (unit_aligned layer aligned (d ∷ ds)) le h
write_mapped_cause layer aligned d ds guest place bytes olds news us vs Foreign h = absurd h
write_mapped_cause layer aligned d ds guest place bytes olds news us vs Failed h = elim h [ inl top ↦ inl top | inr none ↦ absurd none ]
write_mapped_cause layer aligned d ds guest place bytes olds news us vs MissingData h = elim h [ inl top ↦ inl top | inr none ↦ absurd none ]
write_mapped_cause layer aligned d ds guest place bytes olds news us vs Memory h = h
write_mapped_cause layer aligned d ds guest place bytes olds news us vs Storage h = some_rose_left olds news us vs h
write_mapped_cause layer aligned d ds guest place bytes olds news us vs _ h = absurd h

-- Preparation.

pub not_prepared_stays : (below below' : List Layer) (old new : Layer) → below' ≡ below → NotPrepared old new → Stays (disk_of below old) (disk_of below' new)
not_prepared_stays below below' old new same refused = rw same (record {
  size = refused.keeps_layer_state.size;
  value = λ p low. at_alike old new below p refused.keeps_layer_state.size (ap (λ (c : ℕ → Cell). through (c p) (at below p)) refused.cell);
  hold = λ p low. ap (λ (h : ℕ → Held). hold_of (h p)) refused.held;
})

holds_or_free : (below : ℕ → Value) (layer : Layer) (offset n : ℕ) (overwrite : Bool) (p : ℕ) (h : Held) → IsHolding below layer offset n overwrite p h → (hold_of h ≡ free) ⊎ (IsIn offset n p × (hold_of h ≡ held None overwrite))
holds_or_free below layer offset n overwrite p loose holding = inl refl
holds_or_free below layer offset n overwrite p (beside b) holding = inl refl
holds_or_free below layer offset n overwrite p (inside (Some b) written announced) holding = inr (holding.0, rw (holding.1, holding.2) refl)
holds_or_free below layer offset n overwrite p (inside None written announced) holding = inr (holding.0, rw (holding.1, holding.2) refl)

-- The state of a mapping, by `is_some`.
pub stateless_is : {S : Type 0} (state : Option S) → is_some state ≡ false → state ≡ None
stateless_is None h = refl
stateless_is (Some s) h = absurd (cc h)

pub stateful_claims : {S : Type 0} (mapping_id : S → ℕ) (state : Option S) → is_some state ≡ true → (c : ℕ) × (mapping_id_of mapping_id state ≡ Some c)
stateful_claims mapping_id None h = absurd (cc h)
stateful_claims mapping_id (Some s) h = (mapping_id s, refl)

pub prepared_step : (below below' : List Layer) (old new : Layer) (offset asked : ℕ) (overwrite : Bool) (storage place n : ℕ) (mapping_id : Option ℕ) (state : Bool) → below' ≡ below
    → ((p : ℕ) → old.held p ≡ loose) → Prepared (at below) old new (asking offset asked overwrite) (run_at storage place n mapping_id) → n ≤ asked → (0 < asked → 0 < n) → (0 < asked → offset + n ≤ old.size)
    → (state ≡ false → (p : ℕ) → new.held p ≡ loose) → (state ≡ true → (c : ℕ) × (mapping_id ≡ Some c)) → (asked ≡ 0 → state ≡ false)
    → Step (at below) (disk_of below old) (prepare offset asked overwrite) (prepared n state) (disk_of below' new)
prepared_step below below' old new offset asked overwrite storage place n mapping_id state same was_loose done most some in_disk stateless stateful empty =
    let value : (p : ℕ) → at (new ∷ below) p ≡ at (old ∷ below) p = λ p. at_alike old new below p done.size (ap (λ (c : ℕ → Cell). through (c p) (at below p)) done.cell) in
    rw same (elim (cases_lt 0 asked) [
      | inl positive ↦ inr (
        λ none. absurd (omega (arith, positive, none)),
        record {
          was_free = λ p low. ap hold_of (was_loose p);
          values = record { size = done.size; value = λ p low. value p };
          nonempty = some positive;
          most = most;
          inside = in_disk positive;
          holds = λ p low. holds_or_free (at below) new offset n overwrite p (new.held p) (done.holds p);
          stateless = λ is p low. ap hold_of (stateless is p);
          stateful = λ is.
              let it = done.some_held (stateful is).0 (stateful is).1 in
              (it.0, it.2, ap hold_of it.3);
        },
      )
      | inr none ↦ let zero : asked ≡ 0 = omega (arith, none) in inl (
        zero,
        (
          record {
            size = done.size;
            value = λ p low. value p;
            hold = λ p low. ap hold_of (stateless (empty zero) p ∙ sym (was_loose p));
          },
          omega (arith, zero, most),
          empty zero,
        ),
      )
    ])

module _ {D St B : Type 0} (g : Ghosts D St) (u : GhostsBelow B) where
  -- A write to a mapped range, by its result.
  pub ran_mapped : {T : Type 0} (r : Result T Fault) (a b : D) (x : B) (guest place : ℕ) (bytes : List ℕ) → KeepsLayerState (g.layer a) (g.layer b) → MutatingCall g (HadNoResourceError r) (HadNoResourceError r) a b
      → (g.well_formed a → OnOk r (Wrote (g.layer a) (g.layer b) guest bytes)) → (g.well_formed a → OnOk r (0 < length bytes → IsMappedAt (g.layer a) guest place (length bytes)))
      → (g.well_formed a → IfErr r (λ e. IsNotResourceError e → g.layer b ≡ g.layer a))
      → (g.well_formed a → (below : List Layer) → KeepsCrashImages g below (GivesBytes guest bytes) a b)
      → RangeChange g u (HadNoResourceError r) (GivesBytes guest bytes) (a, x) (b, x)
  ran_mapped r a b x guest place bytes like mutating_call wrote mapped refused stops =
      let Done = Wrote (g.layer a) (g.layer b) guest bytes × (0 < length bytes → IsMappedAt (g.layer a) guest place (length bytes)) in
      ran_driver g u (HadNoResourceError r) (GivesBytes guest bytes) a b x like.size mutating_call
      (λ w i. whole_holds r (λ _. Done) (HoldsTrue (at (u.layers_below x)) (g.layer b)) w (λ v is h. truly_wrote (at (u.layers_below x)) (g.layer a) (g.layer b) guest place bytes h.1 h.0 i.held)
      (both_on_ok r (Wrote (g.layer a) (g.layer b) guest bytes) (0 < length bytes → IsMappedAt (g.layer a) guest place (length bytes)) (wrote i.is_well_formed) (mapped i.is_well_formed))
      (IfErr-weaker r (λ e. IsNotResourceError e → g.layer b ≡ g.layer a) (λ e. IsNotResourceError e → HoldsTrue (at (u.layers_below x)) (g.layer b)) (λ e same not_resource_error. subst (HoldsTrue (at (u.layers_below x))) (sym (same not_resource_error)) i.held) (refused i.is_well_formed)))
      (λ w i. whole_holds r (λ _. Wrote (g.layer a) (g.layer b) guest bytes) (IsBetween (GivesBytes guest bytes) (u.layers_below x) (g.layer a) (g.layer b)) w (λ v is h. between_wrote (u.layers_below x) (g.layer a) (g.layer b) guest bytes h)
      (wrote i.is_well_formed)
      (IfErr-weaker r (λ e. IsNotResourceError e → g.layer b ≡ g.layer a) (λ e. IsNotResourceError e → IsBetween (GivesBytes guest bytes) (u.layers_below x) (g.layer a) (g.layer b)) (λ e same not_resource_error p low. inl (ap (λ (l : Layer). at (l ∷ u.layers_below x) p) (same not_resource_error))) (refused i.is_well_formed)))
      (λ i. stops i.is_well_formed (u.layers_below x))
