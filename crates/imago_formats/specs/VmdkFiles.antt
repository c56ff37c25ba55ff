-- The effect of calls on the storages of a VMDK image: the descriptor's file, and the files of the extents.
use Rattle.std.specs.Prelude.{map, ⊤, ◌≡◌, ◌<◌, Some, None, ℕ, max, List, [], ◌∷◌}
use Rattle.imago_storage.specs.State.{StorageState}
use Rattle.imago_storage.specs.declared.fault.Fault.{Fault}
use Rattle.imago_storage.specs.declared.fault.Fault.TheVariants.{Memory, Storage, MissingData, ReadOnly}
use Rattle.imago_access.specs.Layer.{Layer}
use Rattle.imago_access.specs.Going.{KeepsExcessRefcounts}
use Rattle.imago_access.specs.Refusals.{unusable_fault}
use Rattle.imago_access.specs.Files.{UnchangedButMoreFaults, Pairs, SomeRose, files, greatest}
use Rattle.imago_access.specs.declared.driver_model.DriverModel.{Ghosts}

-- The states of the image file and of the other files.
abbrev pub states : {A : Type 0} → (A → StorageState) → A → List A → List StorageState
states state image files = state image ∷ map state files

-- The error of a call over several storages: memory ran out, or one of them failed.
abbrev pub IsStopped : List StorageState → List StorageState → Fault → Type 0
IsStopped olds news Memory = ⊤
IsStopped olds news Storage = SomeRose olds news
IsStopped olds news fault = ⊥

-- The unit of requests that fits all of several storages.
abbrev pub unit_of_all : List StorageState → ℕ
unit_of_all [] = 0
unit_of_all (s ∷ ss) = max (greatest (λ t. t.shape.req_align) s ss) (greatest (λ t. t.shape.mem_align) s ss)

-- The error of a change of a layer that is never written: a file is missing, or there is something to change.
abbrev pub Refuses : Layer → ℕ → Fault → Type 0
Refuses layer n MissingData = unusable_fault layer ≡ Some MissingData
Refuses layer n ReadOnly = (unusable_fault layer ≡ None) × (0 < n)
Refuses layer n fault = ⊥

-- The properties that a call preserves if it changes only fault counts.
pub record Keeps {D St : Type 0} (g : Ghosts D St) (old new : D) : Type 0 where
  pub layer : g.layer new ≡ g.layer old
  pub unchanged_but_faults : Pairs UnchangedButMoreFaults (files g old) (files g new)
  pub coherent : g.coherent old → g.coherent new
  pub safely : g.well_formed old → g.well_formed new
  pub stilled : g.has_no_dirty_data old → g.has_no_dirty_data new
  pub stays_stable : g.stable old → g.stable new
  pub excess_refcount : g.well_formed old → KeepsExcessRefcounts g old new
