-- Consecutive calls that change a chain.
use Rattle.std.proofs.Common.{◌≡◌, refl, ℕ, List, [], ◌∷◌, arith, sym, ◌∙◌, ap, subst, inl, inr}
use Rattle.std.specs.Prelude.{⊤, IsTrue}
use Rattle.imago_storage.specs.Disk.{Value}
use Rattle.imago_access.specs.Layer.{Layer, Fixed, loose, IsFree}
use Rattle.imago_access.specs.Chain.{at, IsBacked}
use Rattle.imago_access.specs.Going.{KeepsExcessRefcounts, MutatingCall, ReloadingCall, LookupCallBelow}
use Rattle.imago_access.specs.Stops.{KeepsCrashImages, KeepsCrashImagesTo, Left}
use Rattle.imago_access.specs.Running.{IsTruly, HoldsTrue, IsIntact, IsBetween, RangeChange}
use Rattle.imago_access.proofs.FilePairs.{later_all_same, later_all_both, faultless_all_same, faultless_all_both}
use Rattle.imago_access.proofs.Looking.{seen_by, looked_under_same, looked_under_weaker, looked_under_both}
use Rattle.imago_access.proofs.Stopping.{then_left, passes_none, passes_weaker, left_weaker}
use Rattle.imago_access.specs.Files.{files}
use Rattle.imago_access.specs.declared.driver_model.DriverModel.{Ghosts}
use Rattle.imago_access.specs.declared.driver_model.LayersBelowModel.{Ghosts as GhostsBelow}

pub backed_on : (below : List Layer) (old new : Layer) → new.fixed ≡ old.fixed → IsBacked below old → IsBacked below new
backed_on [] old new fixed backed = tt
backed_on (next ∷ below) old new fixed backed = ap (λ (x : Fixed). x.blank) fixed ∙ backed

pub holds_loose : (below : ℕ → Value) (layer : Layer) → ((p : ℕ) → layer.held p ≡ loose) → HoldsTrue below layer
holds_loose below layer none p = subst (IsTruly below layer p) (sym (none p)) tt

pub intact_free : {D : Type 0} (layer : D → Layer) (free_loose : (d : D) → IsFree (layer d) → (p : ℕ) → (layer d).held p ≡ loose) (below : ℕ → Value) (d : D) → IsFree (layer d) → HoldsTrue below (layer d)
intact_free layer free_loose below d free = holds_loose below (layer d) (free_loose d free)

pub between_both : (gives gives' more : ℕ → Value → Type 0) (below : List Layer) (a b c : Layer) → b.size ≡ a.size → ((p : ℕ) (v : Value) → gives p v → more p v) → ((p : ℕ) (v : Value) → gives' p v → more p v)
    → IsBetween gives below a b → IsBetween gives' below b c → IsBetween more below a c
between_both gives gives' more below a b c size from from' first second p inside = elim (second p (rw size inside)) [
  | inl same ↦ elim (first p inside) [
    | inl was ↦ inl (same ∙ was)
    | inr gave ↦ inr (from p (at (c ∷ below) p) (subst (gives p) (sym same) gave))
  ]
  | inr gave ↦ inr (from' p (at (c ∷ below) p) gave)
]

module _ {D St : Type 0} (g : Ghosts D St) where
  pub went_same : (ok whole : Type 0) (d : D) → MutatingCall g ok whole d d
  went_same ok whole d = record {
    fixed = refl;
    failed = λ f. f;
    counts_not_fallen = later_all_same (files g d);
    faults = λ h. faultless_all_same (files g d);
    safely = λ h s. s;
    stays_stable = λ l. l;
    excess_refcount = λ h s c. refl;
  }

  pub went_anew : (ok whole : Type 0) (a b : D) → MutatingCall g ok whole a b → ReloadingCall g ok whole a b
  went_anew ok whole a b h = record { fixed = h.fixed; failed = h.failed; counts_not_fallen = h.counts_not_fallen; faults = h.faults; safely = h.safely; stays_stable = h.stays_stable }

  pub went_weaker : (ok whole ok' whole' : Type 0) (a b : D) → (ok' → ok) → (whole' → whole) → MutatingCall g ok whole a b → MutatingCall g ok' whole' a b
  went_weaker ok whole ok' whole' a b from from' h = record {
    fixed = h.fixed;
    failed = h.failed;
    counts_not_fallen = h.counts_not_fallen;
    faults = λ x. h.faults (from x);
    safely = λ x. h.safely (from' x);
    stays_stable = h.stays_stable;
    excess_refcount = λ x. h.excess_refcount (from' x);
  }

  -- A call, and then one that makes no request.
  pub went_then : (ok whole : Type 0) (a b c : D) → (g.layer c).fixed ≡ (g.layer b).fixed → (IsTrue (g.layer b).failed → IsTrue (g.layer c).failed) → g.image c ≡ g.image b → g.extras c ≡ g.extras b → (g.well_formed b → g.well_formed c) → (g.stable b → g.stable c) → (g.well_formed b → KeepsExcessRefcounts g b c) → MutatingCall g ok whole a b → MutatingCall g ok whole a c
  went_then ok whole a b c fixed failing same same' safely lasting excess_refcount h = record {
    fixed = fixed ∙ h.fixed;
    failed = λ f. failing (h.failed f);
    counts_not_fallen = rw (same, same') h.counts_not_fallen;
    faults = λ good. rw (same, same') (h.faults good);
    safely = λ w s. safely (h.safely w s);
    stays_stable = λ l. lasting (h.stays_stable l);
    excess_refcount = λ w s n. excess_refcount (h.safely w s) n ∙ h.excess_refcount w s n;
  }

module _ {D St B : Type 0} (g : Ghosts D St) (u : GhostsBelow B) where
  pub ran_same : (whole : Type 0) (gives : ℕ → Value → Type 0) (d : D) (b : B) → RangeChange g u whole gives (d, b) (d, b)
  ran_same whole gives d b = record {
    size = refl;
    mutating_call = went_same g whole (whole × u.coherent_below b) d;
    lookup_call = looked_under_same u whole b;
    intact = λ w i. i;
    values = λ w i p inside. inl refl;
    crash_images = λ i. passes_none (Left (u.layers_below b) (g.layer d) (g.image d).bytes g.sound (g.layer d).size (g.layer d).size gives) (g.image d) (g.image d) refl (refl, refl, refl, refl);
  }

  pub ran_weaker : (whole whole' : Type 0) (gives : ℕ → Value → Type 0) (a b : D) (x y : B) → (whole' → whole)
      → RangeChange g u whole gives (a, x) (b, y) → RangeChange g u whole' gives (a, x) (b, y)
  ran_weaker whole whole' gives a b x y from h = record {
    size = h.size;
    mutating_call = went_weaker g whole (whole × u.coherent_below x) whole' (whole' × u.coherent_below x) a b from (λ w. (from w.0, w.1)) h.mutating_call;
    lookup_call = looked_under_weaker u whole whole' x y from h.lookup_call;
    intact = λ w. h.intact (from w);
    values = λ w. h.values (from w);
    crash_images = h.crash_images;
  }

  -- The values that a call gives can be weakened, by facts of a well-formed chain.
  pub ran_gives_intact : (whole : Type 0) (gives more : ℕ → Value → Type 0) (a b : D) (x y : B) → (IsIntact g u a x → (p : ℕ) (v : Value) → gives p v → more p v)
      → RangeChange g u whole gives (a, x) (b, y) → RangeChange g u whole more (a, x) (b, y)
  ran_gives_intact whole gives more a b x y from h = record {
    size = h.size;
    mutating_call = h.mutating_call;
    lookup_call = h.lookup_call;
    intact = h.intact;
    values = λ w i p inside. elim (h.values w i p inside) [ inl same ↦ inl same | inr gave ↦ inr (from i p (at (g.layer b ∷ u.layers_below x) p) gave) ];
    crash_images = λ i. passes_weaker (Left (u.layers_below x) (g.layer a) (g.image a).bytes g.sound (g.layer a).size (g.layer a).size gives) (Left (u.layers_below x) (g.layer a) (g.image a).bytes g.sound (g.layer a).size (g.layer a).size more) (g.image a) (g.image b)
        (left_weaker (u.layers_below x) g.sound (g.layer a) (g.image a).bytes (g.layer a).size (g.layer a).size gives more (λ p v inside gave. inr (inr (from i p v gave)))) (h.crash_images i);
  }

  pub ran_gives : (whole : Type 0) (gives more : ℕ → Value → Type 0) (a b : D) (x y : B) → ((p : ℕ) (v : Value) → gives p v → more p v)
      → RangeChange g u whole gives (a, x) (b, y) → RangeChange g u whole more (a, x) (b, y)
  ran_gives whole gives more a b x y from = ran_gives_intact whole gives more a b x y (λ i. from)

  -- Two consecutive calls.
  pub ran_both : (whole : Type 0) (gives gives' more : ℕ → Value → Type 0) (a b c : D) (x y z : B) → ((p : ℕ) (v : Value) → gives p v → more p v) → ((p : ℕ) (v : Value) → gives' p v → more p v)
      → RangeChange g u ⊤ gives (a, x) (b, y) → RangeChange g u whole gives' (b, y) (c, z)
      → RangeChange g u whole more (a, x) (c, z)
  ran_both whole gives gives' more a b c x y z from from' first second = record {
    size = second.size ∙ first.size;
    mutating_call = record {
      fixed = second.mutating_call.fixed ∙ first.mutating_call.fixed;
      failed = λ f. second.mutating_call.failed (first.mutating_call.failed f);
      counts_not_fallen = later_all_both (files g a) (files g b) (files g c) first.mutating_call.counts_not_fallen second.mutating_call.counts_not_fallen;
      faults = λ h. faultless_all_both (files g a) (files g b) (files g c) (first.mutating_call.faults tt) (second.mutating_call.faults h);
      stays_stable = λ l. second.mutating_call.stays_stable (first.mutating_call.stays_stable l);
      excess_refcount = λ h s n. second.mutating_call.excess_refcount (h.0, (first.lookup_call.stays tt h.1).1) (first.mutating_call.safely (tt, h.1) s) n ∙ first.mutating_call.excess_refcount (tt, h.1) s n;
      safely = λ h s. second.mutating_call.safely (h.0, (first.lookup_call.stays tt h.1).1) (first.mutating_call.safely (tt, h.1) s);
    };
    lookup_call = looked_under_both u whole x y z first.lookup_call second.lookup_call;
    intact = λ w i. second.intact w (first.intact tt i);
    values = λ w i.
        let same : u.layers_below y ≡ u.layers_below x = (first.lookup_call.stays tt i.is_coherent).0 in
        between_both gives gives' more (u.layers_below x) (g.layer a) (g.layer b) (g.layer c) first.size from from' (first.values tt i) (subst (λ (below : List Layer). IsBetween gives' below (g.layer b) (g.layer c)) same (second.values w (first.intact tt i)));
    crash_images = λ i.
        let same : u.layers_below y ≡ u.layers_below x = (first.lookup_call.stays tt i.is_coherent).0 in
        let later : KeepsCrashImages g (u.layers_below x) gives' b c = subst (λ (below : List Layer). KeepsCrashImages g below gives' b c) same (second.crash_images (first.intact tt i)) in
        then_left (u.layers_below x) g.sound (g.layer a) (g.layer b) (g.layer a).size (g.layer a).size more gives' (g.image a) (g.image b) (g.image c) first.mutating_call.counts_not_fallen.0 second.mutating_call.counts_not_fallen.0 first.mutating_call.fixed first.size (omega arith) (omega arith)
        (λ p inside. elim (first.values tt i p inside) [ inl was ↦ inr (inl was) | inr gave ↦ inr (inr (from p (at (g.layer b ∷ u.layers_below x) p) gave)) ])
        (λ p v inside gave. inr (inr (from' p v gave)))
        (passes_weaker (Left (u.layers_below x) (g.layer a) (g.image a).bytes g.sound (g.layer a).size (g.layer a).size gives) (Left (u.layers_below x) (g.layer a) (g.image a).bytes g.sound (g.layer a).size (g.layer a).size more) (g.image a) (g.image b)
        (left_weaker (u.layers_below x) g.sound (g.layer a) (g.image a).bytes (g.layer a).size (g.layer a).size gives more (λ p v inside gave. inr (inr (from p v gave)))) (first.crash_images i))
        (subst (λ (n : ℕ). KeepsCrashImagesTo g (u.layers_below x) n n gives' b c) first.size later);
  }

  -- A call that reads the layers below.
  pub ran_over : (whole : Type 0) (gives : ℕ → Value → Type 0) (a b : D) (x y : B) → (g.layer b).size ≡ (g.layer a).size → MutatingCall g whole (whole × u.coherent_below x) a b → LookupCallBelow u whole x y
      → (whole → IsIntact g u a x → HoldsTrue (at (u.layers_below x)) (g.layer b))
      → (whole → IsIntact g u a x → IsBetween gives (u.layers_below x) (g.layer a) (g.layer b))
      → (IsIntact g u a x → KeepsCrashImages g (u.layers_below x) gives a b)
      → RangeChange g u whole gives (a, x) (b, y)
  ran_over whole gives a b x y size mutating_call looked held values stops = record {
    size = size;
    mutating_call = mutating_call;
    lookup_call = looked;
    intact = λ w i.
        let stays = looked.stays w i.is_coherent in
        record {
          is_well_formed = mutating_call.safely (w, i.is_coherent) i.is_well_formed;
          is_coherent = stays.1;
          backed = subst (λ (below : List Layer). IsBacked below (g.layer b)) (sym stays.0) (backed_on (u.layers_below x) (g.layer a) (g.layer b) mutating_call.fixed i.backed);
          held = subst (λ (below : List Layer). HoldsTrue (at below) (g.layer b)) (sym stays.0) (held w i);
        };
    values = values;
    crash_images = stops;
  }

  -- A call of the driver itself.
  pub ran_driver : (whole : Type 0) (gives : ℕ → Value → Type 0) (a b : D) (x : B) → (g.layer b).size ≡ (g.layer a).size → MutatingCall g whole whole a b
      → (whole → IsIntact g u a x → HoldsTrue (at (u.layers_below x)) (g.layer b))
      → (whole → IsIntact g u a x → IsBetween gives (u.layers_below x) (g.layer a) (g.layer b))
      → (IsIntact g u a x → KeepsCrashImages g (u.layers_below x) gives a b)
      → RangeChange g u whole gives (a, x) (b, x)
  ran_driver whole gives a b x size mutating_call held values stops =
      ran_over whole gives a b x x size (went_weaker g whole whole whole (whole × u.coherent_below x) a b (λ h. h) (λ h. h.0) mutating_call) (looked_under_same u whole x) held values stops

-- The same layers below, through a function to another type.
module _ {D St B C : Type 0} (f : B → C) (g : Ghosts D St) (u : GhostsBelow C) where
  pub intact_seen : (a : D) (x : B) → IsIntact g (seen_by f u) a x → IsIntact g u a (f x)
  intact_seen a x i = record { is_well_formed = i.is_well_formed; is_coherent = i.is_coherent; backed = i.backed; held = i.held }

  pub intact_by : (a : D) (x : B) → IsIntact g u a (f x) → IsIntact g (seen_by f u) a x
  intact_by a x i = record { is_well_formed = i.is_well_formed; is_coherent = i.is_coherent; backed = i.backed; held = i.held }

  pub ran_seen : (whole : Type 0) (gives : ℕ → Value → Type 0) (a b : D) (x y : B) → RangeChange g (seen_by f u) whole gives (a, x) (b, y) → RangeChange g u whole gives (a, f x) (b, f y)
  ran_seen whole gives a b x y h = record {
    size = h.size;
    mutating_call = h.mutating_call;
    lookup_call = record { keeps_layer_state = h.lookup_call.keeps_layer_state; counts_not_fallen = h.lookup_call.counts_not_fallen; faults = h.lookup_call.faults; stays = h.lookup_call.stays; safely = h.lookup_call.safely; cut = elim h.lookup_call.cut [ inl failed ↦ inl failed | inr known ↦ inr (record { seen = known.seen; safely = known.safely }) ]; stays_stable = h.lookup_call.stays_stable; unchanged_but_faults = h.lookup_call.unchanged_but_faults; deeper = h.lookup_call.deeper };
    intact = λ w i. intact_seen b y (h.intact w (intact_by a x i));
    values = λ w i. h.values w (intact_by a x i);
    crash_images = λ i. h.crash_images (intact_by a x i);
  }
