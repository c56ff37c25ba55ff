-- Consecutive reads and lookups, in one layer and in a chain.
use Rattle.std.proofs.Common.{◌≡◌, refl, ℕ, List, [], ◌∷◌, arith, ◌∙◌, ap, subst, inl, inr}
use Rattle.std.specs.Prelude.{⊤, drop, map, ◌⊎◌}
use Rattle.imago_storage.specs.Calls.{IsFaultless}
use Rattle.imago_access.specs.Layer.{Layer}
use Rattle.imago_access.specs.Chain.{at, Each, OfFirst, KeepLayerStates}
use Rattle.imago_access.specs.Files.{Pairs, UnchangedButMoreFaults, IsLater, files_of, files}
use Rattle.imago_access.specs.Going.{LookupCall, LookupCallBelow, IsKnownUnder}
use Rattle.imago_access.specs.Refusals.{SomeFailed}
use Rattle.imago_access.specs.Running.{below_ghosts}
use Rattle.imago_access.specs.Stops.{KeepsCrashImagesTo, GivesNone, Left}
use Rattle.imago_access.proofs.FilePairs.{pairs_append, kept_all_same, kept_all_both, later_all_same, later_all_both, faultless_all_same, faultless_all_both}
use Rattle.imago_access.proofs.Stopping.{then_left, passes_none}
use Rattle.imago_access.proofs.Units.{likes_same, likes_both}
use Rattle.imago_access.specs.declared.driver_model.DriverModel.{Ghosts}
use Rattle.imago_access.specs.declared.driver_model.LayersBelowModel.{Ghosts as GhostsBelow}

module _ {D St : Type 0} (g : Ghosts D St) where
  pub looked_same : (whole : Type 0) (d : D) → LookupCall g whole d d
  looked_same whole d = record {
    keeps_layer_state = record { fixed = refl; size = refl; unspent = refl; failed = λ f. f };
    counts_not_fallen = later_all_same (files g d);
    faults = λ h. faultless_all_same (files g d);
    stays = λ h see. (refl, see);
    safely = λ h s. s;
    cut = inr (record { seen = λ see. (refl, see); safely = λ s. s });
    stays_stable = λ l. l;
    excess_refcount = λ h s c. refl;
    unchanged_but_faults = λ s. (kept_all_same (files g d), s);
    crash_images = λ s below. passes_none (Left below (g.layer d) (g.image d).bytes g.sound (g.layer d).size (g.layer d).size GivesNone) (g.image d) (g.image d) refl (refl, refl, refl, refl);
  }

  pub looked_weaker : (whole whole' : Type 0) (a b : D) → (whole' → whole) → LookupCall g whole a b → LookupCall g whole' a b
  looked_weaker whole whole' a b from h = record {
    keeps_layer_state = h.keeps_layer_state;
    counts_not_fallen = h.counts_not_fallen;
    faults = λ x. h.faults (from x);
    stays = λ x. h.stays (from x);
    safely = λ x. h.safely (from x);
    cut = h.cut;
    stays_stable = h.stays_stable;
    excess_refcount = λ x. h.excess_refcount (from x);
    unchanged_but_faults = h.unchanged_but_faults;
    crash_images = h.crash_images;
  }

  module _ (well_formed_is_coherent : (d : D) → g.well_formed d → g.coherent d) where
    pub looked_both : (whole : Type 0) (a b c : D) → LookupCall g ⊤ a b → LookupCall g whole b c → LookupCall g whole a c
    looked_both whole a b c first second = record {
      keeps_layer_state = record {
        fixed = second.keeps_layer_state.fixed ∙ first.keeps_layer_state.fixed;
        size = second.keeps_layer_state.size ∙ first.keeps_layer_state.size;
        unspent = second.keeps_layer_state.unspent ∙ first.keeps_layer_state.unspent;
        failed = λ f. second.keeps_layer_state.failed (first.keeps_layer_state.failed f);
      };
      counts_not_fallen = later_all_both (files g a) (files g b) (files g c) first.counts_not_fallen second.counts_not_fallen;
      faults = λ h. faultless_all_both (files g a) (files g b) (files g c) (first.faults tt) (second.faults h);
      stays = λ h see.
          let one = first.stays tt see in
          let two = second.stays h one.1 in
          (two.0 ∙ one.0, two.1);
      safely = λ h s. second.safely h (first.safely tt s);
      cut = elim second.cut [
        | inl failed ↦ inl failed
        | inr known ↦ inr (record {
          seen = λ see.
              let one = first.stays tt see in
              let two = known.seen one.1 in
              (two.0 ∙ one.0, two.1);
          safely = λ s. known.safely (first.safely tt s);
        })
      ];
      stays_stable = λ l. second.stays_stable (first.stays_stable l);
      excess_refcount = λ h s n. second.excess_refcount h (first.safely tt s) n ∙ first.excess_refcount tt s n;
      unchanged_but_faults = λ s.
          let one = first.unchanged_but_faults s in
          let two = second.unchanged_but_faults one.1 in
          (kept_all_both (files g a) (files g b) (files g c) one.0 two.0, two.1);
      crash_images = λ s below.
          let same : g.layer b ≡ g.layer a = (first.stays tt (well_formed_is_coherent a s)).0 in
          then_left below g.sound (g.layer a) (g.layer b) (g.layer a).size (g.layer a).size GivesNone GivesNone (g.image a) (g.image b) (g.image c) first.counts_not_fallen.0 second.counts_not_fallen.0 first.keeps_layer_state.fixed first.keeps_layer_state.size (omega arith) (omega arith)
          (λ p inside. inr (inl (ap (λ (l : Layer). at (l ∷ below) p) same)))
          (λ p v inside none. absurd none)
          (first.crash_images s below)
          (subst (λ (n : ℕ). KeepsCrashImagesTo g below n n GivesNone b c) first.keeps_layer_state.size (second.crash_images (first.safely tt s) below));
    }

  pub all_looked_same : (whole : Type 0) (ds : List D) → Pairs (LookupCall g whole) ds ds
  all_looked_same whole [] = tt
  all_looked_same whole (d ∷ ds) = (looked_same whole d, all_looked_same whole ds)

  pub all_looked_weaker : (whole whole' : Type 0) (xs ys : List D) → (whole' → whole) → Pairs (LookupCall g whole) xs ys → Pairs (LookupCall g whole') xs ys
  all_looked_weaker whole whole' [] [] from h = tt
  all_looked_weaker whole whole' (x ∷ xs) (y ∷ ys) from h = (looked_weaker whole whole' x y from h.0, all_looked_weaker whole whole' xs ys from h.1)
  all_looked_weaker whole whole' [] (y ∷ ys) from h = absurd h
  all_looked_weaker whole whole' (x ∷ xs) [] from h = absurd h

  pub all_looked_both : (well_formed_is_coherent : (d : D) → g.well_formed d → g.coherent d) (whole : Type 0) (xs ys zs : List D) → Pairs (LookupCall g ⊤) xs ys → Pairs (LookupCall g whole) ys zs → Pairs (LookupCall g whole) xs zs
  all_looked_both well_formed_is_coherent whole [] [] [] first second = tt
  all_looked_both well_formed_is_coherent whole (x ∷ xs) (y ∷ ys) (z ∷ zs) first second = (looked_both well_formed_is_coherent whole x y z first.0 second.0, all_looked_both well_formed_is_coherent whole xs ys zs first.1 second.1)
  all_looked_both well_formed_is_coherent whole [] (y ∷ ys) zs first second = absurd first
  all_looked_both well_formed_is_coherent whole [] [] (z ∷ zs) first second = absurd second
  all_looked_both well_formed_is_coherent whole (x ∷ xs) [] zs first second = absurd first
  all_looked_both well_formed_is_coherent whole (x ∷ xs) (y ∷ ys) [] first second = absurd second

  -- Consequences for a chain.
  pub chain_like : (whole : Type 0) (xs ys : List D) → Pairs (LookupCall g whole) xs ys → KeepLayerStates (map g.layer xs) (map g.layer ys)
  chain_like whole [] [] h = tt
  chain_like whole (x ∷ xs) (y ∷ ys) h = (h.0.keeps_layer_state, chain_like whole xs ys h.1)
  chain_like whole [] (y ∷ ys) h = absurd h
  chain_like whole (x ∷ xs) [] h = absurd h

  pub chain_later : (whole : Type 0) (xs ys : List D) → Pairs (LookupCall g whole) xs ys → Pairs IsLater (files_of g xs) (files_of g ys)
  chain_later whole [] [] h = tt
  chain_later whole (x ∷ xs) (y ∷ ys) h = pairs_append IsLater (files g x) (files g y) (files_of g xs) (files_of g ys) h.0.counts_not_fallen (chain_later whole xs ys h.1)
  chain_later whole [] (y ∷ ys) h = absurd h
  chain_later whole (x ∷ xs) [] h = absurd h

  pub chain_faults : (whole : Type 0) (xs ys : List D) → whole → Pairs (LookupCall g whole) xs ys → Pairs IsFaultless (files_of g xs) (files_of g ys)
  chain_faults whole [] [] good h = tt
  chain_faults whole (x ∷ xs) (y ∷ ys) good h = pairs_append IsFaultless (files g x) (files g y) (files_of g xs) (files_of g ys) (h.0.faults good) (chain_faults whole xs ys good h.1)
  chain_faults whole [] (y ∷ ys) good h = absurd h
  chain_faults whole (x ∷ xs) [] good h = absurd h

  pub chain_same : (whole : Type 0) (xs ys : List D) → whole → Each g.coherent xs → Pairs (LookupCall g whole) xs ys → map g.layer ys ≡ map g.layer xs
  chain_same whole [] [] good see h = refl
  chain_same whole (x ∷ xs) (y ∷ ys) good see h = rw ((h.0.stays good see.0).0, chain_same whole xs ys good see.1 h.1) refl
  chain_same whole [] (y ∷ ys) good see h = absurd h
  chain_same whole (x ∷ xs) [] good see h = absurd h

  pub chain_sees : (whole : Type 0) (xs ys : List D) → whole → Each g.coherent xs → Pairs (LookupCall g whole) xs ys → Each g.coherent ys
  chain_sees whole [] [] good see h = tt
  chain_sees whole (x ∷ xs) (y ∷ ys) good see h = ((h.0.stays good see.0).1, chain_sees whole xs ys good see.1 h.1)
  chain_sees whole [] (y ∷ ys) good see h = absurd h
  chain_sees whole (x ∷ xs) [] good see h = absurd h

  pub chain_safe : (whole : Type 0) (xs ys : List D) → whole → OfFirst g.well_formed xs → Pairs (LookupCall g whole) xs ys → OfFirst g.well_formed ys
  chain_safe whole [] [] good sound_first h = tt
  chain_safe whole (x ∷ xs) (y ∷ ys) good sound_first h = h.0.safely good sound_first
  chain_safe whole [] (y ∷ ys) good sound_first h = absurd h
  chain_safe whole (x ∷ xs) [] good sound_first h = absurd h

  pub chain_lasts : (whole : Type 0) (xs ys : List D) → Each g.stable xs → Pairs (LookupCall g whole) xs ys → Each g.stable ys
  chain_lasts whole [] [] l h = tt
  chain_lasts whole (x ∷ xs) (y ∷ ys) l h = (h.0.stays_stable l.0, chain_lasts whole xs ys l.1 h.1)
  chain_lasts whole [] (y ∷ ys) l h = absurd h
  chain_lasts whole (x ∷ xs) [] l h = absurd h

  pub chain_kept : (whole : Type 0) (xs ys : List D) → Each g.has_no_dirty_data xs → Pairs (LookupCall g whole) xs ys → Pairs UnchangedButMoreFaults (files_of g xs) (files_of g ys) × Each g.has_no_dirty_data ys
  chain_kept whole [] [] guest_unchanged h = (tt, tt)
  chain_kept whole (x ∷ xs) (y ∷ ys) guest_unchanged h =
      let one = h.0.unchanged_but_faults guest_unchanged.0 in
      let rest = chain_kept whole xs ys guest_unchanged.1 h.1 in
      (pairs_append UnchangedButMoreFaults (files g x) (files g y) (files_of g xs) (files_of g ys) one.0 rest.0, (one.1, rest.1))
  chain_kept whole [] (y ∷ ys) guest_unchanged h = absurd h
  chain_kept whole (x ∷ xs) [] guest_unchanged h = absurd h

  pub chain_cut : (whole : Type 0) (xs ys : List D) → Pairs (LookupCall g whole) xs ys → SomeFailed (map g.layer ys) ⊎ IsKnownUnder (below_ghosts g) xs ys
  chain_cut whole [] [] h = inr (record { seen = λ see. (refl, tt); safely = λ s. tt })
  chain_cut whole (x ∷ xs) (y ∷ ys) h = elim h.0.cut [
    | inl failed ↦ inl (inl failed)
    | inr top ↦ elim (chain_cut whole xs ys h.1) [
      | inl failed ↦ inl (inr failed)
      | inr rest ↦ inr (record {
        seen = λ see.
            let one = top.seen see.0 in
            let two = rest.seen see.1 in
            (rw (one.0, two.0) refl, (one.1, two.1));
        safely = λ s. top.safely s;
      })
    ]
  ]
  chain_cut whole [] (y ∷ ys) h = absurd h
  chain_cut whole (x ∷ xs) [] h = absurd h

  -- The layers below the highest one.
  pub chain_deeper : (whole : Type 0) (xs ys : List D) → Each g.has_no_dirty_data (drop 1 xs) → Pairs (LookupCall g whole) xs ys → Pairs UnchangedButMoreFaults (files_of g (drop 1 xs)) (files_of g (drop 1 ys)) × Each g.has_no_dirty_data (drop 1 ys)
  chain_deeper whole [] [] clean h = (tt, tt)
  chain_deeper whole (x ∷ xs) (y ∷ ys) clean h = chain_kept whole xs ys clean h.1
  chain_deeper whole [] (y ∷ ys) clean h = absurd h
  chain_deeper whole (x ∷ xs) [] clean h = absurd h

-- The layers below, through a function to another type.
abbrev pub seen_by : {B C : Type 0} → (B → C) → GhostsBelow C → GhostsBelow B
seen_by f u = record {
  layers_below = λ b. u.layers_below (f b);
  files_of_layers_below = λ b. u.files_of_layers_below (f b);
  coherent_below = λ b. u.coherent_below (f b);
  well_formed_below = λ b. u.well_formed_below (f b);
  have_no_dirty_data_below = λ b. u.have_no_dirty_data_below (f b);
  deeper_files = λ b. u.deeper_files (f b);
  deeper_have_no_dirty_data = λ b. u.deeper_have_no_dirty_data (f b);
  stable_below = λ b. u.stable_below (f b);
}

-- Reads and lookups in the layers below.
module _ {B : Type 0} (u : GhostsBelow B) where
  pub looked_under_same : (whole : Type 0) (b : B) → LookupCallBelow u whole b b
  looked_under_same whole b = record {
    keeps_layer_state = likes_same (u.layers_below b);
    counts_not_fallen = later_all_same (u.files_of_layers_below b);
    faults = λ h. faultless_all_same (u.files_of_layers_below b);
    stays = λ h see. (refl, see);
    safely = λ h s. s;
    cut = inr (record { seen = λ see. (refl, see); safely = λ s. s });
    stays_stable = λ l. l;
    unchanged_but_faults = λ s. (kept_all_same (u.files_of_layers_below b), s);
    deeper = λ s. (kept_all_same (u.deeper_files b), s);
  }

  pub looked_under_weaker : (whole whole' : Type 0) (a b : B) → (whole' → whole) → LookupCallBelow u whole a b → LookupCallBelow u whole' a b
  looked_under_weaker whole whole' a b from h = record {
    keeps_layer_state = h.keeps_layer_state;
    counts_not_fallen = h.counts_not_fallen;
    faults = λ x. h.faults (from x);
    stays = λ x. h.stays (from x);
    safely = λ x. h.safely (from x);
    cut = h.cut;
    stays_stable = h.stays_stable;
    unchanged_but_faults = h.unchanged_but_faults;
    deeper = h.deeper;
  }

  pub looked_under_both : (whole : Type 0) (a b c : B) → LookupCallBelow u ⊤ a b → LookupCallBelow u whole b c → LookupCallBelow u whole a c
  looked_under_both whole a b c first second = record {
    keeps_layer_state = likes_both (u.layers_below a) (u.layers_below b) (u.layers_below c) first.keeps_layer_state second.keeps_layer_state;
    counts_not_fallen = later_all_both (u.files_of_layers_below a) (u.files_of_layers_below b) (u.files_of_layers_below c) first.counts_not_fallen second.counts_not_fallen;
    faults = λ h. faultless_all_both (u.files_of_layers_below a) (u.files_of_layers_below b) (u.files_of_layers_below c) (first.faults tt) (second.faults h);
    stays = λ h see.
        let one = first.stays tt see in
        let two = second.stays h one.1 in
        (two.0 ∙ one.0, two.1);
    safely = λ h s. second.safely h (first.safely tt s);
    cut = elim second.cut [
      | inl failed ↦ inl failed
      | inr known ↦ inr (record {
        seen = λ see.
            let one = first.stays tt see in
            let two = known.seen one.1 in
            (two.0 ∙ one.0, two.1);
        safely = λ s. known.safely (first.safely tt s);
      })
    ];
    stays_stable = λ l. second.stays_stable (first.stays_stable l);
    unchanged_but_faults = λ s.
        let one = first.unchanged_but_faults s in
        let two = second.unchanged_but_faults one.1 in
        (kept_all_both (u.files_of_layers_below a) (u.files_of_layers_below b) (u.files_of_layers_below c) one.0 two.0, two.1);
    deeper = λ s.
        let one = first.deeper s in
        let two = second.deeper one.1 in
        (kept_all_both (u.deeper_files a) (u.deeper_files b) (u.deeper_files c) one.0 two.0, two.1);
  }
