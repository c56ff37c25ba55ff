-- The errors of a driver's calls, in terms of its own storages and those of the layers below it (the backing chain).
use Rattle.std.specs.Prelude.{◌++◌, ℕ, [], ◌∷◌}
use Rattle.imago_storage.specs.declared.fault.Fault.{Fault}
use Rattle.imago_access.specs.declared.driver_model.DriverModel.{Ghosts}
use Rattle.imago_access.specs.declared.driver_model.LayersBelowModel.{Ghosts as GhostsBelow}
use Rattle.imago_access.specs.Chain.{at, unit_of_chain}
use Rattle.imago_access.specs.Files.{ImageCause, files}
use Rattle.imago_access.specs.Parts.{PlainCause}
use Rattle.imago_access.specs.Refusals.{LookCause, ReadMappedCause, ReadCause, InvalidateCause}

-- The errors of any image, by its own storages.
abbrev pub Fails : {D St : Type 0} → Ghosts D St → D → D → Fault → Type 0
Fails g old new = ImageCause (files g old) (files g new)

-- The errors of any image for a call that also reads the layers below.
abbrev pub FailsOver : {D St B : Type 0} → Ghosts D St → GhostsBelow B → D × B → D × B → Fault → Type 0
FailsOver g u old new = ImageCause (files g old.0 ++ u.files_of_layers_below old.1) (files g new.0 ++ u.files_of_layers_below new.1)

-- The errors of a lookup. The definitions below are for a read of a storage, a read of the layers below, a flush or sync, and a reload.
abbrev pub RefusesLookup : {D St : Type 0} → Ghosts D St → ℕ → ℕ → D → D → Fault → Type 0
RefusesLookup g offset n old new = LookCause (g.layer old) offset n (files g old) (files g new)

abbrev pub RefusesRead : {D St : Type 0} → Ghosts D St → ℕ → ℕ → D → D → Fault → Type 0
RefusesRead g place n old new = ReadMappedCause (g.layer old) place n (files g old) (files g new)

abbrev pub RefusesReads : {B : Type 0} → GhostsBelow B → ℕ → ℕ → B → B → Fault → Type 0
RefusesReads u offset n old new =
    ReadCause (u.layers_below old) (at (u.layers_below old)) (unit_of_chain (u.layers_below old)) offset n (u.files_of_layers_below old) (u.files_of_layers_below new)

abbrev pub RefusesFlush : {D St : Type 0} → Ghosts D St → D → D → Fault → Type 0
RefusesFlush g old new = PlainCause (g.layer old) (files g old) (files g new)

abbrev pub RefusesReload : {D St : Type 0} → Ghosts D St → D → D → Fault → Type 0
RefusesReload g old new = InvalidateCause (g.layer old ∷ []) (files g old) (files g new)
