-- The invariant of a chain of images (it is well-formed), and the effect of a call that changes a range run by run. `RangeChange` holds of
-- one run, and also of consecutive runs together.
use Rattle.std.specs.Prelude.{◌≡◌, ◌⊎◌, ⊤, ℕ, ◌<◌, [], ◌∷◌, Some, None, List, drop, map}
use Rattle.imago_access.specs.declared.driver_model.DriverModel.{Ghosts}
use Rattle.imago_access.specs.declared.driver_model.LayersBelowModel.{Ghosts as GhostsBelow}
use Rattle.imago_storage.specs.Disk.{Value, Disk}
use Rattle.imago_access.specs.Layer.{Layer, Held, loose, beside, inside}
use Rattle.imago_access.specs.Chain.{at, disk_of, Each, OfFirst, IsBacked}
use Rattle.imago_access.specs.Changes.{IsCopied}
use Rattle.imago_access.specs.Files.{files_of}
use Rattle.imago_access.specs.Going.{MutatingCall, LookupCallBelow}
use Rattle.imago_access.specs.Stops.{KeepsCrashImages}

-- The byte that the prepared mapping has copied is the byte that the disk reads at `p`. A byte that was copied next to the run can't be
-- written in place.
abbrev pub IsTruly : (ℕ → Value) → Layer → ℕ → Held → Type 0
IsTruly below layer p loose = ⊤
IsTruly below layer p (beside b) = IsCopied below layer p b × (layer.writable_location p ≡ None)
IsTruly below layer p (inside (Some b) written announced) = IsCopied below layer p b
IsTruly below layer p (inside None written announced) = ⊤

abbrev pub HoldsTrue : (ℕ → Value) → Layer → Type 0
HoldsTrue below layer = (p : ℕ) → IsTruly below layer p (layer.held p)

-- A list of drivers as the layers below another one.
abbrev pub below_ghosts : {D St : Type 0} → Ghosts D St → GhostsBelow (List D)
below_ghosts g = record {
  layers_below = map g.layer;
  files_of_layers_below = files_of g;
  coherent_below = Each g.coherent;
  well_formed_below = OfFirst g.well_formed;
  have_no_dirty_data_below = Each g.has_no_dirty_data;
  deeper_files = λ ds. files_of g (drop 1 ds);
  deeper_have_no_dirty_data = λ ds. Each g.has_no_dirty_data (drop 1 ds);
  stable_below = Each g.stable;
}

-- A list of layers as the layers below a driver, with no other facts.
abbrev pub alone_ghosts : GhostsBelow (List Layer)
alone_ghosts = record {
  layers_below = λ x. x;
  files_of_layers_below = λ x. [];
  coherent_below = λ x. ⊤;
  well_formed_below = λ x. ⊤;
  have_no_dirty_data_below = λ x. ⊤;
  deeper_files = λ x. [];
  deeper_have_no_dirty_data = λ x. ⊤;
  stable_below = λ x. ⊤;
}

-- The chain is well-formed: the top driver is well-formed, lookups below agree with the files, and the top reads through to the layers
-- below if it has any. The bytes that its prepared mapping has copied are those that the disk reads at their offsets.
pub record IsIntact {D St B : Type 0} (g : Ghosts D St) (u : GhostsBelow B) (top : D) (below : B) : Type 0 where
  pub is_well_formed : g.well_formed top
  pub is_coherent : u.coherent_below below
  pub backed : IsBacked (u.layers_below below) (g.layer top)
  pub held : HoldsTrue (at (u.layers_below below)) (g.layer top)

-- Each byte reads as before, or as a value that the call gives.
abbrev pub IsBetween : (ℕ → Value → Type 0) → List Layer → Layer → Layer → Type 0
IsBetween gives below old new = (p : ℕ) → p < old.size → (at (new ∷ below) p ≡ at (old ∷ below) p) ⊎ gives p (at (new ∷ below) p)

-- The effect of a call that changes a range, on a driver and the layers below it. If `whole` holds, the call had no resource error.
pub record RangeChange {D St B : Type 0} (g : Ghosts D St) (u : GhostsBelow B) (whole : Type 0) (gives : ℕ → Value → Type 0)
    (old new : D × B) : Type 0 where
  pub size : (g.layer new.0).size ≡ (g.layer old.0).size
  pub mutating_call : MutatingCall g whole (whole × u.coherent_below old.1) old.0 new.0
  pub lookup_call : LookupCallBelow u whole old.1 new.1
  pub intact : whole → IsIntact g u old.0 old.1 → IsIntact g u new.0 new.1
  pub values : whole → IsIntact g u old.0 old.1 → IsBetween gives (u.layers_below old.1) (g.layer old.0) (g.layer new.0)
  pub crash_images : IsIntact g u old.0 old.1 → KeepsCrashImages g (u.layers_below old.1) gives old.0 new.0

-- The chain is well-formed. `ChainRangeChange` is `RangeChange` for a chain.
abbrev pub IsIntactChain : {D St : Type 0} → Ghosts D St → D × List D → Type 0
IsIntactChain g c = IsIntact g (below_ghosts g) c.0 c.1

abbrev pub ChainRangeChange : {D St : Type 0} → Ghosts D St → Type 0 → (ℕ → Value → Type 0) → D × List D → D × List D → Type 0
ChainRangeChange g = RangeChange g (below_ghosts g)

-- `RangeChange` for a call of the driver itself, with these layers below.
abbrev pub DriverRangeChange : {D St : Type 0} → Ghosts D St → Type 0 → (ℕ → Value → Type 0) → List Layer → D → D → Type 0
DriverRangeChange g whole gives below old new = RangeChange g alone_ghosts whole gives (old, below) (new, below)

-- The disk of a chain.
abbrev pub chain_disk : {D : Type 0} → (D → Layer) → D × List D → Disk
chain_disk layer c = disk_of (map layer c.1) (layer c.0)

-- The values of the layers below the top.
abbrev pub below_of : {D : Type 0} → (D → Layer) → D × List D → ℕ → Value
below_of layer c = at (map layer c.1)
