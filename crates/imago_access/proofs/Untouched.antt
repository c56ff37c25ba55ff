-- Layers that a call doesn't change.
use Rattle.std.proofs.Common.{◌≡◌, refl, sym, ap, subst, inl, ℕ, List, [], ◌∷◌, ◌∙◌}
use Rattle.std.specs.Prelude.{⊤}
use Rattle.imago_storage.specs.Disk.{Value}
use Rattle.imago_access.specs.Layer.{Layer}
use Rattle.imago_access.specs.Chain.{at}
use Rattle.imago_access.specs.Files.{Pairs}
use Rattle.imago_access.specs.Going.{IsUnchanged, MutatingCall, ReloadingCall}
use Rattle.imago_access.specs.Running.{HoldsTrue, IsIntact, RangeChange}
use Rattle.imago_access.specs.Stops.{KeepsCrashImages}
use Rattle.imago_access.proofs.Room.{room_same, takes_both}
use Rattle.imago_access.proofs.Running.{went_anew, went_same, ran_driver}
use Rattle.imago_access.specs.declared.driver_model.DriverModel.{Ghosts}
use Rattle.imago_access.specs.declared.driver_model.LayersBelowModel.{Ghosts as GhostsBelow}

-- Nothing has changed: after no call, and after two calls.
pub unchanged_same : {D St : Type 0} (g : Ghosts D St) (d : D) → IsUnchanged g d d
unchanged_same g d = record {
  layer = refl;
  unasked = (refl, refl);
  seen = λ s. s;
  safely = λ s. s;
  stilled = λ s. s;
  stays_stable = λ l. l;
  excess_refcount = λ s c. refl;
  room = λ s. room_same g (λ _. ⊤) (λ _. ⊤) d;
  stays_begun = λ x call begun. begun;
}

pub unchanged_both : {D St : Type 0} (g : Ghosts D St) (a b c : D) → IsUnchanged g a b → IsUnchanged g b c → IsUnchanged g a c
unchanged_both g a b c first second = record {
  layer = second.layer ∙ first.layer;
  unasked = (second.unasked.0 ∙ first.unasked.0, second.unasked.1 ∙ first.unasked.1);
  seen = λ s. second.seen (first.seen s);
  safely = λ s. second.safely (first.safely s);
  stilled = λ s. second.stilled (first.stilled s);
  stays_stable = λ l. second.stays_stable (first.stays_stable l);
  excess_refcount = λ s n. second.excess_refcount (first.safely s) n ∙ first.excess_refcount s n;
  room = λ s. takes_both g (λ _. ⊤) (λ _. ⊤) (λ _. ⊤) a b c (λ p there. (tt, tt)) (first.room s) (second.room (first.safely s));
  stays_begun = λ x call begun. second.stays_begun x call (first.stays_begun x call begun);
}

pub all_went_same : {D St : Type 0} (g : Ghosts D St) (whole : Type 0) (ds : List D) → Pairs (ReloadingCall g whole whole) ds ds
all_went_same g whole [] = tt
all_went_same g whole (d ∷ ds) = (went_anew g whole whole d d (went_same g whole whole d), all_went_same g whole ds)

-- A call of the driver itself that leaves the layer unchanged.
pub ran_kept : {D St B : Type 0} (g : Ghosts D St) (u : GhostsBelow B)
    (whole : Type 0) (gives : ℕ → Value → Type 0) (a b : D) (x : B) → (g.layer b).size ≡ (g.layer a).size → MutatingCall g whole whole a b
    → (whole → IsIntact g u a x → g.layer b ≡ g.layer a)
    → (IsIntact g u a x → KeepsCrashImages g (u.layers_below x) gives a b)
    → RangeChange g u whole gives (a, x) (b, x)
ran_kept g u whole gives a b x size mutating_call same stops =
    ran_driver g u whole gives a b x size mutating_call
    (λ w i. subst (HoldsTrue (at (u.layers_below x))) (sym (same w i)) i.held)
    (λ w i p inside. inl (ap (λ (l : Layer). at (l ∷ u.layers_below x) p) (same w i)))
    stops
