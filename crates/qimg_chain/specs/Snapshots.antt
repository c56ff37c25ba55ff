-- Specifies copies of the current files of a chain (an image and its backing chain).
use Rattle.std.specs.Prelude.{ℕ, suc, List, [], ◌∷◌, map}
use Rattle.std.specs.String.{string_bytes}
use Rattle.imago_storage.specs.State.{StorageState}
use Rattle.imago_storage.specs.Calls.{IsFaultless}
use Rattle.imago_storage.specs.declared.fault.Fault.{Fault}
use Rattle.imago_storage.specs.declared.fault.Fault.TheVariants.{Memory, Storage}
use Rattle.imago_access.specs.FileReads.{file_bytes_in}
use Rattle.imago_access.specs.Files.{Pairs, SomeRose}
use Rattle.imago_access.specs.declared.format.Format.{Format}
use Rattle.imago_access.specs.declared.driver_model.DriverModel.{Ghosts}
use Rattle.qimg_chain.specs.FileMeanings.{FileBytes, with_names}
use Rattle.qimg_chain.specs.declared.chain.snapshots.LayerNames.{LayerNames}

-- A layer's format, and the names of its further files (VMDK extents).
pub record Names : Type 0 where
  pub format : Format
  pub further : List (List ℕ)

-- The names that the code keeps of a layer, and those of a driver's files.
abbrev pub said_names : LayerNames → Names
said_names layer = record { format = layer.format; further = map string_bytes layer.names.items }

abbrev pub names_of : {D St : Type 0} → Ghosts D St → (D → ℕ → List ℕ) → D → Names
names_of g names d = record { format = (g.layer d).fixed.format; further = map (λ file. file.0) (with_names (names d) 0 (g.extras d)) }

-- Names, with the bytes of the storages from index `number` on.
abbrev pub with_bytes : List (List ℕ) → ℕ → List StorageState → List (List ℕ × List ℕ)
with_bytes [] number files = []
with_bytes (name ∷ names) number files = (name, file_bytes_in files number) ∷ with_bytes names (suc number) files

-- The files of a layer with these names. The image file is the first storage, and the further files follow.
abbrev pub filled : Names → List StorageState → FileBytes
filled names files = record { format = names.format; bytes = file_bytes_in files 0; extras = with_bytes names.further 1 files }

-- The reason why files aren't copied: memory ran out and no storage failed, or a storage failed.
abbrev pub WhyNotCopied : List StorageState → List StorageState → Fault → Type 0
WhyNotCopied olds news Memory = Pairs IsFaultless olds news
WhyNotCopied olds news Storage = SomeRose olds news
WhyNotCopied olds news fault = ⊥
