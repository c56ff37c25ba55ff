-- The effect of a prepared mapping on a chain: its preparation, the writes to it, and its commit or cancel.
use Rattle.std.proofs.Common.{◌≡◌, refl, ◌⊎◌, inl, inr, ℕ, ◌<◌, ◌≤◌, Bool, true, Option, None, List, ◌∷◌, length, take, slice_index, arith, sym, ◌∙◌, ap, subst, ◌+◌}
use Rattle.std.specs.Prelude.{⊤, Result, Ok, IfOk, IfErr}
use Rattle.std.proofs.lemmas.Grind.{common_steps}
use Rattle.std.proofs.lemmas.Result.{IfErr-weaker}
use Rattle.imago_storage.specs.Disk.{Value, byte}
use Rattle.imago_storage.specs.declared.fault.Fault.{Fault}
use Rattle.imago_access.specs.Layer.{Layer, Cell, Held, loose, through, IsFree, KeepsLayerState, beside, inside, own}
use Rattle.imago_access.specs.Chain.{at}
use Rattle.imago_access.specs.Changes.{asking, run_at, Prepared, NotPrepared, Wrote, Committed, Cancelled, IsHolding, TakesByte, CommitsPlace}
use Rattle.imago_access.specs.Files.{IsNotResourceError, HadNoResourceError}
use Rattle.imago_access.specs.Going.{KeepsExcessRefcounts, LookupCallBelow, MutatingCall}
use Rattle.imago_access.specs.Parts.{IsMappedAt}
use Rattle.imago_access.specs.Running.{IsTruly, HoldsTrue, IsIntact, RangeChange, DriverRangeChange, alone_ghosts}
use Rattle.imago_access.specs.Spending.{mapping_id_of, IsMine, Spends}
use Rattle.imago_access.specs.Stops.{KeepsCrashImages, Left, GivesNone, GivesBytes, GivesHeld, GivesSettled}
use Rattle.imago_access.specs.declared.mapping.PreparedDataMapping.{PreparedDataMapping}
use Rattle.imago_access.proofs.Answers.{whole_holds}
use Rattle.imago_access.proofs.Holding.{at_alike, held_written, truly_prepared, truly_wrote, between_wrote, between_settled, settled_given, spent_settles, given_up_failed, given_up_fixed, given_up_size, given_up_cell, given_up_free, at_inside}
use Rattle.imago_access.proofs.Running.{holds_loose, went_weaker, went_then, ran_both, ran_over, ran_driver, ran_gives_intact}
use Rattle.imago_access.proofs.Stopping.{passes_on, passes_weaker, left_weaker}
use Rattle.imago_access.specs.declared.driver_model.DriverModel.{Ghosts}
use Rattle.imago_access.specs.declared.driver_model.LayersBelowModel.{Ghosts as GhostsBelow}

pub gives_prefix : (offset n : ℕ) (bytes : List ℕ) → n ≤ length bytes → (p : ℕ) (v : Value) → GivesBytes offset (take n bytes) p v → GivesBytes offset bytes p v
gives_prefix offset n bytes most p v gives =
    let long : length (take n bytes) ≡ n = grind (arith, common_steps) in
    let lt : gives.0 < n = omega (arith, gives.1, long) in
    let same : slice_index (take n bytes) gives.0 ≡ slice_index bytes gives.0 = grind (arith, common_steps) in
    (gives.0, omega (arith, lt, most), gives.2, gives.3 ∙ ap byte same)

-- The bytes that a commit may give are the written bytes of the run.
pub held_run : (below : ℕ → Value) (old mid new : Layer) (offset asked : ℕ) (overwrite : Bool) (storage place n : ℕ) (bytes : List ℕ) (mapping_id : Option ℕ) → n ≤ length bytes
    → Prepared below old mid (asking offset asked overwrite) (run_at storage place n mapping_id) → Wrote mid new offset (take n bytes) → (p : ℕ) (v : Value) → GivesHeld new p v → GivesBytes offset (take n bytes) p v
held_run below old mid new offset asked overwrite storage place n bytes mapping_id most prepared =
    let long : length (take n bytes) ≡ n = grind (arith, common_steps) in
    held_written below old mid new offset asked overwrite storage place (take n bytes) mapping_id (subst (λ (k : ℕ). Prepared below old mid (asking offset asked overwrite) (run_at storage place k mapping_id)) (sym long) prepared)

pub prepared_mapped : (below : ℕ → Value) (old mid : Layer) (offset asked : ℕ) (overwrite : Bool) (storage place n : ℕ) (bytes : List ℕ) (mapping_id : Option ℕ) → n ≤ length bytes
    → Prepared below old mid (asking offset asked overwrite) (run_at storage place n mapping_id) → IsMappedAt mid offset place (length (take n bytes))
prepared_mapped below old mid offset asked overwrite storage place n bytes mapping_id most prepared =
    let long : length (take n bytes) ≡ n = grind (arith, common_steps) in
    (storage, λ i lt. prepared.writable_location i (omega (arith, lt, long)))

settles_byte : (b : ℕ) (was_held : Held) (was : Cell) (held : Held) (mid new : Cell) → ((copied : ℕ) → was_held ≡ beside copied → ⊥) → TakesByte b was_held was held mid → CommitsPlace held mid new → new ≡ own (byte b)
settles_byte b loose was held mid new inside_run takes settles = subst (λ (h : Held). CommitsPlace h mid new) takes.1 settles ∙ takes.0
settles_byte b (beside copied) was held mid new inside_run takes settles = absurd (inside_run copied refl)
settles_byte b (inside copied written announced) was held mid new inside_run takes settles = subst (λ (h : Held). CommitsPlace h mid new) takes.1 settles

-- The run reads as written, once it is prepared, written and spent.
pub run_shows : {D St : Type 0} (g : Ghosts D St) (state : Option St) (below : List Layer) (old mid wrote_to new : Layer) (offset asked : ℕ) (overwrite : Bool) (storage place n : ℕ) (bytes : List ℕ) (mapping_id : Option ℕ)
    → n ≤ length bytes → offset + n ≤ new.size
    → Prepared (at below) old mid (asking offset asked overwrite) (run_at storage place n mapping_id) → Wrote mid wrote_to offset (take n bytes)
    → IsMine g state wrote_to → (state ≡ None → (p : ℕ) → wrote_to.held p ≡ loose) → Spends g state wrote_to new (Committed wrote_to new)
    → (i : ℕ) → i < n → at (new ∷ below) (offset + i) ≡ byte (slice_index bytes i)
run_shows g state below old mid wrote_to new offset asked overwrite storage place n bytes mapping_id most in_disk prepared wrote mine stateless spends i lt =
    let p = offset + i in
    let long : length (take n bytes) ≡ n = grind (arith, common_steps) in
    let same : slice_index (take n bytes) i ≡ slice_index bytes i = grind (arith, common_steps) in
    let not_beside : (copied : ℕ) → mid.held p ≡ beside copied → ⊥ = λ copied is. (subst (IsHolding (at below) mid offset n overwrite p) is (prepared.holds p)).0 (omega arith, omega (arith, lt)) in
    at_inside new below p (omega (arith, in_disk, lt))
    ∙ ap (λ (c : Cell). through c (at below p)) (settles_byte (slice_index (take n bytes) i) (mid.held p) (mid.cell p) (wrote_to.held p) (wrote_to.cell p) (new.cell p) not_beside (wrote.range i (omega (arith, long, lt))) (spent_settles g state wrote_to new mine stateless spends p))
    ∙ ap byte same

pub held_stops : {D St : Type 0} (g : Ghosts D St) (below : List Layer) (old new : D) → HoldsTrue (at below) (g.layer old) → KeepsCrashImages g below (GivesSettled below (g.layer old)) old new → KeepsCrashImages g below (GivesHeld (g.layer old)) old new
held_stops g below old new holds =
    let layer = g.layer old in
    let file = (g.image old).bytes in
    passes_weaker (Left below layer file g.sound layer.size layer.size (GivesSettled below layer)) (Left below layer file g.sound layer.size layer.size (GivesHeld layer)) (g.image old) (g.image new)
    (left_weaker below g.sound layer file layer.size layer.size (GivesSettled below layer) (GivesHeld layer)
    (λ p v lt gives. elim (settled_given below layer holds p v lt gives) [ inl same ↦ inr (inl same) | inr gave ↦ inr (inr gave) ]))

module _ {D St B : Type 0} (g : Ghosts D St) (u : GhostsBelow B) where
  -- A preparation changes no value, whether it succeeds or fails.
  pub ran_prepared : (r : Result (PreparedDataMapping St) Fault) (a b : D) (x y : B) (offset asked : ℕ) (overwrite : Bool) → ((p : ℕ) → (g.layer a).held p ≡ loose) → (g.layer b).size ≡ (g.layer a).size
      → MutatingCall g (HadNoResourceError r) (HadNoResourceError r × u.coherent_below x) a b → LookupCallBelow u (HadNoResourceError r) x y
      → (g.well_formed a → u.coherent_below x → IfOk r (λ m. Prepared (at (u.layers_below x)) (g.layer a) (g.layer b) (asking offset asked overwrite) (run_at m.storage m.offset m.length (mapping_id_of g.mapping_id m.state))))
      → (g.well_formed a → u.coherent_below x → IfErr r (λ e. IsNotResourceError e → NotPrepared (g.layer a) (g.layer b)))
      → (g.well_formed a → u.coherent_below x → KeepsCrashImages g (u.layers_below x) GivesNone a b)
      → RangeChange g u (HadNoResourceError r) GivesNone (a, x) (b, y)
  ran_prepared r a b x y offset asked overwrite was_loose size mutating_call looked done refused stops =
      let held_on : HadNoResourceError r → IsIntact g u a x → HoldsTrue (at (u.layers_below x)) (g.layer b) × ((g.layer b).cell ≡ (g.layer a).cell) = λ w i.
      whole_holds r (λ m. Prepared (at (u.layers_below x)) (g.layer a) (g.layer b) (asking offset asked overwrite) (run_at m.storage m.offset m.length (mapping_id_of g.mapping_id m.state))) (HoldsTrue (at (u.layers_below x)) (g.layer b) × ((g.layer b).cell ≡ (g.layer a).cell)) w
      (λ m is made. (truly_prepared (at (u.layers_below x)) (g.layer a) (g.layer b) offset asked overwrite m.storage m.offset m.length (mapping_id_of g.mapping_id m.state) made, made.cell)) (done i.is_well_formed i.is_coherent)
      (IfErr-weaker r (λ e. IsNotResourceError e → NotPrepared (g.layer a) (g.layer b)) (λ e. IsNotResourceError e → HoldsTrue (at (u.layers_below x)) (g.layer b) × ((g.layer b).cell ≡ (g.layer a).cell))
      (λ e not not_resource_error. (λ p. subst (IsTruly (at (u.layers_below x)) (g.layer b) p) (sym (ap (λ (h : ℕ → Held). h p) (not not_resource_error).held ∙ was_loose p)) tt, (not not_resource_error).cell)) (refused i.is_well_formed i.is_coherent)) in
      ran_over g u (HadNoResourceError r) GivesNone a b x y size mutating_call looked
      (λ w i. (held_on w i).0)
      (λ w i p lt. inl (at_alike (g.layer a) (g.layer b) (u.layers_below x) p size (ap (λ (c : ℕ → Cell). through (c p) (at (u.layers_below x) p)) (held_on w i).1)))
      (λ i. stops i.is_well_formed i.is_coherent)

  -- The preparation of a run has succeeded.
  pub ran_mapped : (state : Option St) (a b : D) (x y : B) (offset asked : ℕ) (overwrite : Bool) (storage place n : ℕ) → ((p : ℕ) → (g.layer a).held p ≡ loose) → (g.layer b).size ≡ (g.layer a).size
      → MutatingCall g ⊤ (⊤ × u.coherent_below x) a b → LookupCallBelow u ⊤ x y
      → (g.well_formed a → u.coherent_below x → Prepared (at (u.layers_below x)) (g.layer a) (g.layer b) (asking offset asked overwrite) (run_at storage place n (mapping_id_of g.mapping_id state)))
      → (g.well_formed a → u.coherent_below x → KeepsCrashImages g (u.layers_below x) GivesNone a b)
      → RangeChange g u ⊤ GivesNone (a, x) (b, y)
  ran_mapped state a b x y offset asked overwrite storage place n was_loose size mutating_call looked made stops =
      let mapping : PreparedDataMapping St = record { storage = storage; offset = place; length = n; state = state } in
      ran_prepared (Ok mapping) a b x y offset asked overwrite was_loose size mutating_call looked made (λ safely see. tt) stops

  -- A write to a mapped range.
  pub ran_wrote : (whole : Type 0) (a b : D) (x : B) (guest place : ℕ) (bytes : List ℕ) → KeepsLayerState (g.layer a) (g.layer b) → MutatingCall g whole whole a b
      → (whole → g.well_formed a → 0 < length bytes → IsMappedAt (g.layer a) guest place (length bytes))
      → (whole → g.well_formed a → Wrote (g.layer a) (g.layer b) guest bytes)
      → (g.well_formed a → (below : List Layer) → KeepsCrashImages g below (GivesBytes guest bytes) a b)
      → RangeChange g u whole (GivesBytes guest bytes) (a, x) (b, x)
  ran_wrote whole a b x guest place bytes like mutating_call mapped wrote stops =
      ran_driver g u whole (GivesBytes guest bytes) a b x like.size mutating_call
      (λ w i. truly_wrote (at (u.layers_below x)) (g.layer a) (g.layer b) guest place bytes (mapped w i.is_well_formed) (wrote w i.is_well_formed) i.held)
      (λ w i. between_wrote (u.layers_below x) (g.layer a) (g.layer b) guest bytes (wrote w i.is_well_formed))
      (λ i. stops i.is_well_formed (u.layers_below x))

  -- The call failed. Nothing has changed, unless it was a resource error.
  pub ran_refused : (whole : Type 0) (gives : ℕ → Value → Type 0) (a b : D) (x : B) → KeepsLayerState (g.layer a) (g.layer b) → MutatingCall g whole whole a b
      → (whole → g.well_formed a → g.layer b ≡ g.layer a)
      → (g.well_formed a → (below : List Layer) → KeepsCrashImages g below gives a b)
      → RangeChange g u whole gives (a, x) (b, x)
  ran_refused whole gives a b x like mutating_call stayed stops =
      ran_driver g u whole gives a b x like.size mutating_call
      (λ w i. subst (HoldsTrue (at (u.layers_below x))) (sym (stayed w i.is_well_formed)) i.held)
      (λ w i p lt. inl (ap (λ (l : Layer). at (l ∷ u.layers_below x) p) (stayed w i.is_well_formed)))
      (λ i. stops i.is_well_formed (u.layers_below x))

  -- The mapping is committed, and no mapping is prepared then.
  pub ran_settled : (state : Option St) (whole : Type 0) (a b : D) (x : B) → (free_loose : (d : D) → IsFree (g.layer d) → (p : ℕ) → (g.layer d).held p ≡ loose)
      → (g.layer b).size ≡ (g.layer a).size → MutatingCall g whole whole a b → IsMine g state (g.layer a) → (state ≡ None → IsFree (g.layer a)) → IsFree (g.layer b)
      → (whole → g.well_formed a → Spends g state (g.layer a) (g.layer b) (Committed (g.layer a) (g.layer b)))
      → (g.well_formed a → (below : List Layer) → KeepsCrashImages g below (GivesSettled below (g.layer a)) a b)
      → RangeChange g u whole (GivesHeld (g.layer a)) (a, x) (b, x)
  ran_settled state whole a b x free_loose size mutating_call mine stateless free spends stops =
      ran_driver g u whole (GivesHeld (g.layer a)) a b x size mutating_call
      (λ w i. holds_loose (at (u.layers_below x)) (g.layer b) (free_loose b free))
      (λ w i. between_settled (u.layers_below x) (g.layer a) (g.layer b) size i.held (spent_settles g state (g.layer a) (g.layer b) mine (λ none. free_loose a (stateless none)) (spends w i.is_well_formed)))
      (λ i. held_stops g (u.layers_below x) a b i.held (stops i.is_well_formed (u.layers_below x)))

  -- The commit failed, and the mapping is cancelled.
  pub ran_unsettled : (state : Option St) (whole : Type 0) (a b : D) (x : B) → (free_loose : (d : D) → IsFree (g.layer d) → (p : ℕ) → (g.layer d).held p ≡ loose)
      → (g.layer b).size ≡ (g.layer a).size → MutatingCall g whole whole a b → IsMine g state (g.layer a) → IsFree (g.layer b)
      → (whole → g.well_formed a → Spends g state (g.layer a) (g.layer b) (Cancelled (g.layer a) (g.layer b)))
      → (g.well_formed a → (below : List Layer) → KeepsCrashImages g below (GivesSettled below (g.layer a)) a b)
      → RangeChange g u whole (GivesHeld (g.layer a)) (a, x) (b, x)
  ran_unsettled state whole a b x free_loose size mutating_call mine free spends stops =
      ran_driver g u whole (GivesHeld (g.layer a)) a b x size mutating_call
      (λ w i. holds_loose (at (u.layers_below x)) (g.layer b) (free_loose b free))
      (λ w i p lt. inl (at_alike (g.layer a) (g.layer b) (u.layers_below x) p size (ap (λ (c : ℕ → Cell). through (c p) (at (u.layers_below x) p)) (given_up_cell g state (g.layer a) (g.layer b) mine (spends w i.is_well_formed)))))
      (λ i. held_stops g (u.layers_below x) a b i.held (stops i.is_well_formed (u.layers_below x)))

  -- A write to the mapping failed, and the mapping is cancelled.
  pub ran_given_up : (state : Option St) (whole : Type 0) (gives : ℕ → Value → Type 0) (a b c : D) (x : B) → (free_loose : (d : D) → IsFree (g.layer d) → (p : ℕ) → (g.layer d).held p ≡ loose)
      → KeepsLayerState (g.layer a) (g.layer b) → MutatingCall g whole whole a b → IsMine g state (g.layer b) → (state ≡ None → IsFree (g.layer b))
      → (whole → g.well_formed a → g.layer b ≡ g.layer a)
      → Spends g state (g.layer b) (g.layer c) (Cancelled (g.layer b) (g.layer c)) → (g.well_formed b → g.well_formed c) → (g.stable b → g.stable c) → (g.well_formed b → KeepsExcessRefcounts g b c) → g.image c ≡ g.image b → g.extras c ≡ g.extras b
      → (g.well_formed a → (below : List Layer) → KeepsCrashImages g below gives a b)
      → RangeChange g u whole gives (a, x) (c, x)
  ran_given_up state whole gives a b c x free_loose like mutating_call mine stateless stayed spends safely lasting excess_refcount same same' stops =
      let size : (g.layer c).size ≡ (g.layer a).size = given_up_size g state (g.layer b) (g.layer c) mine spends ∙ like.size in
      ran_driver g u whole gives a c x size (went_then g whole whole a b c (given_up_fixed g state (g.layer b) (g.layer c) mine spends) (given_up_failed g state (g.layer b) (g.layer c) mine spends) same same' safely lasting excess_refcount mutating_call)
      (λ w i. holds_loose (at (u.layers_below x)) (g.layer c) (free_loose c (given_up_free g state (g.layer b) (g.layer c) mine stateless spends)))
      (λ w i p lt. inl (at_alike (g.layer a) (g.layer c) (u.layers_below x) p size
      (ap (λ (f : ℕ → Cell). through (f p) (at (u.layers_below x) p)) (given_up_cell g state (g.layer b) (g.layer c) mine spends ∙ ap (λ (l : Layer). l.cell) (stayed w i.is_well_formed)))))
      (λ i. passes_on (Left (u.layers_below x) (g.layer a) (g.image a).bytes g.sound (g.layer a).size (g.layer a).size gives) (g.image a) (g.image b) (g.image c) same (stops i.is_well_formed (u.layers_below x)))

  -- Writes to a mapping that is then cancelled.
  pub ran_abandoned : (state : Option St) (whole : Type 0) (gives : ℕ → Value → Type 0) (a b c : D) (x : B) → (free_loose : (d : D) → IsFree (g.layer d) → (p : ℕ) → (g.layer d).held p ≡ loose)
      → IsMine g state (g.layer b) → (state ≡ None → IsFree (g.layer b)) → Spends g state (g.layer b) (g.layer c) (Cancelled (g.layer b) (g.layer c)) → (g.well_formed b → g.well_formed c) → (g.stable b → g.stable c) → (g.well_formed b → KeepsExcessRefcounts g b c) → g.image c ≡ g.image b → g.extras c ≡ g.extras b
      → RangeChange g u whole gives (a, x) (b, x) → RangeChange g u whole gives (a, x) (c, x)
  ran_abandoned state whole gives a b c x free_loose mine stateless spends safely lasting excess_refcount same same' ran =
      let size : (g.layer c).size ≡ (g.layer b).size = given_up_size g state (g.layer b) (g.layer c) mine spends in
      let alike : (p : ℕ) → at (g.layer c ∷ u.layers_below x) p ≡ at (g.layer b ∷ u.layers_below x) p = λ p.
      at_alike (g.layer b) (g.layer c) (u.layers_below x) p size (ap (λ (f : ℕ → Cell). through (f p) (at (u.layers_below x) p)) (given_up_cell g state (g.layer b) (g.layer c) mine spends)) in
      ran_over g u whole gives a c x x (size ∙ ran.size)
      (went_then g whole (whole × u.coherent_below x) a b c (given_up_fixed g state (g.layer b) (g.layer c) mine spends) (given_up_failed g state (g.layer b) (g.layer c) mine spends) same same' safely lasting excess_refcount ran.mutating_call) ran.lookup_call
      (λ w i. holds_loose (at (u.layers_below x)) (g.layer c) (free_loose c (given_up_free g state (g.layer b) (g.layer c) mine stateless spends)))
      (λ w i p lt. elim (ran.values w i p lt) [ inl was ↦ inl (alike p ∙ was) | inr gave ↦ inr (subst (gives p) (sym (alike p)) gave) ])
      (λ i. passes_on (Left (u.layers_below x) (g.layer a) (g.image a).bytes g.sound (g.layer a).size (g.layer a).size gives) (g.image a) (g.image b) (g.image c) same (ran.crash_images i))

  pub ran_seen_over : (whole : Type 0) (gives : ℕ → Value → Type 0) (a b : D) (x : B) → DriverRangeChange g whole gives (u.layers_below x) a b
      → RangeChange g u whole gives (a, x) (b, x)
  ran_seen_over whole gives a b x ran =
      let alone : IsIntact g u a x → IsIntact g alone_ghosts a (u.layers_below x) = λ i. record { is_well_formed = i.is_well_formed; is_coherent = tt; backed = i.backed; held = i.held } in
      ran_driver g u whole gives a b x ran.size (went_weaker g whole (whole × ⊤) whole whole a b (λ h. h) (λ w. (w, tt)) ran.mutating_call)
      (λ w i. (ran.intact w (alone i)).held)
      (λ w i. ran.values w (alone i))
      (λ i. ran.crash_images (alone i))

  -- A run is prepared, written and spent.
  pub ran_run : (whole : Type 0) (a b c e : D) (x y : B) (offset n : ℕ) (bytes : List ℕ) → n ≤ length bytes
      → (IsIntact g u a x → (p : ℕ) (v : Value) → GivesHeld (g.layer c) p v → GivesBytes offset (take n bytes) p v)
      → RangeChange g u ⊤ GivesNone (a, x) (b, y)
      → RangeChange g u ⊤ (GivesBytes offset (take n bytes)) (b, y) (c, y)
      → RangeChange g u whole (GivesHeld (g.layer c)) (c, y) (e, y)
      → RangeChange g u whole (GivesBytes offset bytes) (a, x) (e, y)
  ran_run whole a b c e x y offset n bytes most held first second third =
      ran_gives_intact g u whole (λ p v. GivesBytes offset (take n bytes) p v ⊎ GivesHeld (g.layer c) p v) (GivesBytes offset bytes) a e x y
      (λ i p v gives. gives_prefix offset n bytes most p v (elim gives [ inl gave ↦ gave | inr gave ↦ held i p v gave ]))
      (ran_both g u whole (GivesBytes offset (take n bytes)) (GivesHeld (g.layer c)) (λ p v. GivesBytes offset (take n bytes) p v ⊎ GivesHeld (g.layer c) p v) a c e x y y (λ p v gave. inl gave) (λ p v gave. inr gave)
      (ran_both g u ⊤ GivesNone (GivesBytes offset (take n bytes)) (GivesBytes offset (take n bytes)) a b c x y y (λ p v none. absurd none) (λ p v gave. gave) first second)
      third)

  -- Like `ran_run`, for a run that takes the first `n` bytes of a longer write.
  pub ran_spent : (state : Option St) (whole : Type 0) (a b c e : D) (x y : B) (offset asked storage place n : ℕ) (bytes : List ℕ) → n ≤ length bytes
      → ((p : ℕ) → (g.layer a).held p ≡ loose) → (g.layer b).size ≡ (g.layer a).size
      → MutatingCall g ⊤ (⊤ × u.coherent_below x) a b → LookupCallBelow u ⊤ x y
      → (g.well_formed a → u.coherent_below x → Prepared (at (u.layers_below x)) (g.layer a) (g.layer b) (asking offset asked true) (run_at storage place n (mapping_id_of g.mapping_id state)))
      → (g.well_formed a → u.coherent_below x → KeepsCrashImages g (u.layers_below x) GivesNone a b)
      → (g.well_formed b → Wrote (g.layer b) (g.layer c) offset (take n bytes))
      → RangeChange g u ⊤ (GivesBytes offset (take n bytes)) (b, y) (c, y)
      → RangeChange g u whole (GivesHeld (g.layer c)) (c, y) (e, y)
      → RangeChange g u whole (GivesBytes offset bytes) (a, x) (e, y)
  ran_spent state whole a b c e x y offset asked storage place n bytes most was_loose size mutating_call looked made stops wrote second third =
      ran_run whole a b c e x y offset n bytes most
      (λ i. held_run (at (u.layers_below x)) (g.layer a) (g.layer b) (g.layer c) offset asked true storage place n bytes (mapping_id_of g.mapping_id state) most (made i.is_well_formed i.is_coherent)
      (wrote (mutating_call.safely (tt, i.is_coherent) i.is_well_formed)))
      (ran_mapped state a b x y offset asked true storage place n was_loose size mutating_call looked made stops)
      second
      third
