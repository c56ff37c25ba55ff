-- Defines chains (an image and its backing chain) over image files: when drivers are the layers (images) of these files.
use Rattle.std.specs.Prelude.{◌≡◌, ◌≢◌, ⊤, ℕ, Bool, true, false, List, [], ◌∷◌, All, IsTrue, Option, Some, None}
use Rattle.imago_storage.specs.State.{StorageState}
use Rattle.imago_access.specs.Building.{IsOpened}
use Rattle.imago_access.specs.Layer.{Layer, unmapped}
use Rattle.imago_access.specs.declared.format.Format.{Format}
use Rattle.imago_access.specs.declared.format.Format.TheVariants.{Qcow2}
use Rattle.imago_access.specs.declared.driver_model.DriverModel.{Ghosts}
use Rattle.qcow2_types.specs.Bytes.{bytes_of}
use Rattle.qcow2_types.specs.Consistency.{Consistent}
use Rattle.qimg_core.specs.declared.plain.ChainFile.{ChainFile}
use Rattle.qimg_chain.specs.FileLayers.{IsLayer, shows_below}

-- The number of an image. Images of other formats than qcow2 have the number 0.
abbrev pub number_for : Format → ℕ → ℕ
number_for Qcow2 number = number
number_for format number = 0

-- A driver was just opened over a file. It reads unallocated bytes from the layer below if the file refers to one, and its further files
-- are those that the file refers to.
pub record IsLayerOf {S D St : Type 0} (g : Ghosts D St) (state : S → StorageState) (writable : Bool) (number : ℕ)
    (file : ChainFile S) (d : D) : Type 0 where
  pub opened : IsOpened g file.format writable (number_for file.format number) (state file.image) d
  pub layer : IsLayer state writable file (shows_below (g.layer d)) (g.extras d)

-- The arguments of an opening: whether the top is writable, the number of the top, and the number of the next layer (the layer below the top)
-- if that is writable, too. All other layers are read-only and have the number 0.
pub record OpenMode : Type 0 where
  pub writable : Bool
  pub number : ℕ
  pub next : Option ℕ

abbrev pub mode : Bool → ℕ → OpenMode
mode writable number = record { writable = writable; number = number; next = None }

abbrev pub for_commit : ℕ → ℕ → OpenMode
for_commit number below_number = record { writable = true; number = number; next = Some below_number }

-- The same for the layers below the top.
abbrev pub mode_of_next : Option ℕ → OpenMode
mode_of_next None = mode false 0
mode_of_next (Some number) = mode true number

abbrev pub mode_below : OpenMode → OpenMode
mode_below m = mode_of_next m.next

-- The layers are those of the files, in their order, opened in this mode.
abbrev pub AreLayers : {S D St : Type 0} → Ghosts D St → (S → StorageState) → OpenMode → List (ChainFile S) → List D → Type 0
AreLayers g state m [] [] = ⊤
AreLayers g state m (file ∷ files) (d ∷ ds) = IsLayerOf g state m.writable m.number file d × AreLayers g state (mode_below m) files ds
AreLayers g state m files ds = ⊥

-- A layer above another reads its unallocated bytes from the layers below it, and the last layer doesn't.
abbrev pub IsInPlace : List Layer → Layer → Type 0
IsInPlace [] layer = layer.fixed.blank ≢ unmapped
IsInPlace (next ∷ below) layer = layer.fixed.blank ≡ unmapped

-- Each of the layers, the top first, satisfies `IsInPlace`.
abbrev pub AreInPlace : List Layer → Type 0
AreInPlace [] = ⊤
AreInPlace (layer ∷ below) = IsInPlace below layer × AreInPlace below

-- The file is consistent as an image of a format. A file of another format than qcow2 always is.
abbrev pub IsSoundAs : Format → List ℕ → Type 0
IsSoundAs Qcow2 bytes = Consistent (bytes_of bytes)
IsSoundAs format bytes = ⊤

-- The file can be the top of a chain for calls that change it: it is consistent, and its storages keep what is written.
pub record IsFit {S : Type 0} (state : S → StorageState) (file : ChainFile S) : Type 0 where
  pub sound : IsSoundAs file.format (state file.image).bytes
  pub keeps : IsTrue (state file.image).shape.keeps
  pub others : All (λ other. IsTrue (state other.1).shape.keeps) file.extras.items

-- `P` holds for the first of the files, the top.
abbrev pub OfTop : {S : Type 0} → (ChainFile S → Type 0) → List (ChainFile S) → Type 0
OfTop P [] = ⊥
OfTop P (file ∷ below) = P file

-- `P` holds for the second of the files, that of the next layer.
abbrev pub OfSecond : {S : Type 0} → (ChainFile S → Type 0) → List (ChainFile S) → Type 0
OfSecond P [] = ⊥
OfSecond P (file ∷ below) = OfTop P below

-- `P` holds for the top, or the list of files is empty.
abbrev pub AllOfTop : {S : Type 0} → (ChainFile S → Type 0) → List (ChainFile S) → Type 0
AllOfTop P [] = ⊤
AllOfTop P (file ∷ below) = P file
