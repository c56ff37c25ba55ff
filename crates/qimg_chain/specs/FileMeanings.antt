-- Defines the disk that the files of a chain mean, from their bytes only: each file by itself, and all of them together.
use Rattle.std.specs.Prelude.{◌≡◌, ◌⊎◌, ◌<◌, ℕ, zero, suc, List, [], ◌∷◌, map, if◌then◌else◌, ltb, Result, Ok, Err, slice_index}
use Rattle.std.specs.Str.{bytes_eq}
use Rattle.std.specs.String.{string_bytes}
use Rattle.std.specs.declared.string.String.{String}
use Rattle.std.specs.declared.alloc.Global.{Global}
use Rattle.imago_storage.specs.Disk.{Disk, Value, byte}
use Rattle.imago_storage.specs.State.{StorageState}
use Rattle.imago_storage.specs.declared.fault.Fault.{Fault}
use Rattle.imago_access.specs.Layer.{Layer, Meaning, through, unmapped}
use Rattle.imago_access.specs.declared.format.Format.{Format}
use Rattle.imago_access.specs.declared.format.Format.TheVariants.{Raw, Qcow2, Vmdk}
use Rattle.imago_access.specs.declared.driver_model.DriverModel.{Ghosts}
use Rattle.imago_formats.specs.Descriptor.{descriptor_of}
use Rattle.imago_formats.specs.RawLayer.{raw_meaning}
use Rattle.imago_formats.specs.VmdkLayer.{file_names, meaning_of}
use Rattle.imago_formats.specs.declared.vmdk.descriptor.Extent.{Extent}
use Rattle.qcow2_image.specs.ImageLayer.{qcow2_meaning}
use Rattle.qimg_core.specs.declared.plain.ChainFile.{ChainFile}

-- A file of a chain: its format, its bytes, and the names and bytes of the further files that are supplied for it.
pub record FileBytes : Type 0 where
  pub format : Format
  pub bytes : List ℕ
  pub extras : List (List ℕ × List ℕ)

-- The bytes of the first of these files with a name, or none if no file has the name.
abbrev pub first_named : List ℕ → List (List ℕ × List ℕ) → List ℕ
first_named name [] = []
first_named name (file ∷ files) = if bytes_eq file.0 name then file.1 else first_named name files

-- These files without the first one with the name.
abbrev pub without_first : List ℕ → List (List ℕ × List ℕ) → List (List ℕ × List ℕ)
without_first name [] = []
without_first name (file ∷ files) = if bytes_eq file.0 name then files else file ∷ without_first name files

-- The bytes of the files for a list of names, in order. For each name it's the first file with that name that isn't taken yet.
abbrev pub taken_for : List (List ℕ) → List (List ℕ × List ℕ) → List (List ℕ)
taken_for [] files = []
taken_for (name ∷ names) files = first_named name files ∷ taken_for names (without_first name files)

-- The byte at an offset of the file with this number. It is 0 past the end of the file, and if no file has the number.
abbrev pub byte_at : List (List ℕ) → ℕ → ℕ → ℕ
byte_at [] number place = 0
byte_at (bytes ∷ files) zero place = slice_index bytes place
byte_at (bytes ∷ files) (suc number) place = byte_at files number place

-- The names of the files of a descriptor's extents, in order.
abbrev pub names_said : Result (List (Extent (List ℕ))) Fault → List (List ℕ)
names_said (Ok extents) = file_names extents
names_said (Err fault) = []

-- The meaning of a file as an image of a format. A raw image means the bytes of the file, a VMDK image the extents of its descriptor, and a
-- qcow2 image what its tables say. Unmapped bytes of a qcow2 image are those of the layers below.
abbrev pub meaning_as : Format → List ℕ → List (List ℕ × List ℕ) → Meaning
meaning_as Raw bytes extras = raw_meaning bytes
meaning_as Vmdk bytes extras =
    let said = descriptor_of bytes in meaning_of said (byte_at (bytes ∷ taken_for (names_said said) extras))
meaning_as Qcow2 bytes extras = qcow2_meaning unmapped bytes

abbrev pub file_meaning : FileBytes → Meaning
file_meaning file = meaning_as file.format file.bytes file.extras

-- The value at guest offset `p` of the disk of these files, the top first. It is 0 past a file's own size, and below the last file.
abbrev pub value_of : List FileBytes → ℕ → Value
value_of [] p = byte 0
value_of (file ∷ below) p = if ltb p (file_meaning file).size then through ((file_meaning file).cell p) (value_of below p) else byte 0

-- The size in bytes of the disk of these files.
abbrev pub size_of : List FileBytes → ℕ
size_of [] = 0
size_of (file ∷ below) = (file_meaning file).size

-- ---- The files of a chain, as their bytes.

-- A further file, with its name.
abbrev pub extra_bytes : {S : Type 0} → (S → StorageState) → String Global × S → List ℕ × List ℕ
extra_bytes state extra = (string_bytes extra.0, (state extra.1).bytes)

-- A file of a chain and its supplied further files, as bytes.
abbrev pub file_bytes : {S : Type 0} → (S → StorageState) → ChainFile S → FileBytes
file_bytes state file =
    record { format = file.format; bytes = (state file.image).bytes; extras = map (extra_bytes state) file.extras.items }

abbrev pub files_bytes : {S : Type 0} → (S → StorageState) → List (ChainFile S) → List FileBytes
files_bytes state files = map (file_bytes state) files

-- Storages with the names that belong to their indices, from index `k` on.
abbrev pub with_names : (ℕ → List ℕ) → ℕ → List StorageState → List (List ℕ × List ℕ)
with_names name k [] = []
with_names name k (s ∷ ss) = (name k, s.bytes) ∷ with_names name (suc k) ss

-- The files of a driver, with the names of its further files.
abbrev pub driver_bytes : {D St : Type 0} → Ghosts D St → (D → ℕ → List ℕ) → D → FileBytes
driver_bytes g names d =
    record { format = (g.layer d).fixed.format; bytes = (g.image d).bytes; extras = with_names (names d) 0 (g.extras d) }

-- ---- Layers, and the meanings of files.

-- The layer reads as the file means. If the layer reads nothing from the layers below, the bytes that the file leaves to them are 0.
pub record ShowsFile (layer : Layer) (file : FileBytes) : Type 0 where
  pub size : layer.size ≡ (file_meaning file).size
  pub cell : (p : ℕ) (below : Value) → p < layer.size → (layer.fixed.blank ≡ unmapped) ⊎ (below ≡ byte 0)
      → through (layer.cell p) below ≡ through ((file_meaning file).cell p) below

-- For the layer, these bytes of its own file mean what `file` means. If the layer reads nothing from the layers below, the bytes that the
-- file leaves to them are 0.
pub record MeansFile (layer : Layer) (bytes : List ℕ) (file : FileBytes) : Type 0 where
  pub size : (layer.fixed.means bytes).size ≡ (file_meaning file).size
  pub cell : (p : ℕ) (below : Value) → (layer.fixed.blank ≡ unmapped) ⊎ (below ≡ byte 0)
      → through ((layer.fixed.means bytes).cell p) below ≡ through ((file_meaning file).cell p) below

-- For a driver, its image file means what it means with the further files that are found by these names.
abbrev pub FindsByNames : {D St : Type 0} → Ghosts D St → (D → ℕ → List ℕ) → D → Type 0
FindsByNames g names d = MeansFile (g.layer d) (g.image d).bytes (driver_bytes g names d)

-- The disk has the size and the values of the files' disk.
pub record IsDiskOf (disk : Disk) (files : List FileBytes) : Type 0 where
  pub size : disk.size ≡ size_of files
  pub value : (p : ℕ) → disk.value p ≡ value_of files p
