-- Specifies how the files of a VMDK image's extents are opened by a gate (the value that opens files by name), and the errors.
use Rattle.std.specs.Prelude.{map, ◌≡◌, ◌⊎◌, ℕ, ◌+◌, ◌<◌, ◌≤◌, Bool, true, false, List, [], ◌∷◌, ◌++◌, length, slice_index_or, Result, Ok, Err}
use Rattle.std.specs.declared.string.String.{String}
use Rattle.std.specs.declared.alloc.Global.{Global}
use Rattle.imago_storage.specs.State.{MayFail, StorageState}
use Rattle.imago_storage.specs.declared.fault.Fault.{Fault}
use Rattle.imago_storage.specs.declared.fault.Fault.TheVariants.{Memory, Storage, DamagedDescriptor, Unsupported}
use Rattle.imago_formats.specs.Descriptor.{descriptor_of}
use Rattle.imago_formats.specs.DescriptorView.{RefusesOpening, kept_extents, kept_names}
use Rattle.imago_formats.specs.VmdkLayer.{ReadsReach, files_asked}
use Rattle.imago_formats.specs.declared.vmdk.descriptor.Extent.{Extent}

-- The gate opened these files for the names from the `k`th on, one file a name. Its state is then `now`.
abbrev pub Opens : {G S : Type 0} → (G → List ℕ → Result S Fault → G → Type 0) → List (List ℕ) → ℕ → G → List S → G → Type 0
Opens answers names k gate [] now = now ≡ gate
Opens {G} answers names k gate (file ∷ files) now =
    (mid : G) × (k < length names) × answers gate (slice_index_or names k []) (Ok file) mid × Opens answers names (k + 1) mid files now

-- The files and the gate after some files were opened. The new files are those that the gate opened for the next names, in order.
pub record OpensNext {G S : Type 0} (answers : G → List ℕ → Result S Fault → G → Type 0) (names : List (List ℕ))
    (old new : List S × G) : Type 0 where
  pub opened : List S
  pub appended : new.0 ≡ old.0 ++ opened
  pub given : Opens answers names (length old.0) old.1 opened new.1

-- The file of the `k`th name isn't opened. Memory ran out and the gate wasn't called, or the gate failed.
abbrev pub NotGiven : {G S : Type 0} → (G → List ℕ → Result S Fault → G → Type 0) → List (List ℕ) → ℕ → G → G → Fault → Type 0
NotGiven answers names k gate now fault =
    ((fault ≡ Memory) × (now ≡ gate)) ⊎ answers gate (slice_index_or names k []) (Err fault) now

-- Files are opened up to a name with a file that can't be opened.
pub record StopsOpening {G S : Type 0} (answers : G → List ℕ → Result S Fault → G → Type 0) (names : List (List ℕ))
    (old new : List S × G) (fault : Fault) : Type 0 where
  pub before : G
  pub opens : OpensNext answers names old (new.0, before)
  pub left : length new.0 < length names
  pub cause : NotGiven {S = S} answers names (length new.0) before new.1 fault

-- All files are opened, but reads can't reach the end of an extent.
pub record Overreaches {G S : Type 0} (answers : G → List ℕ → Result S Fault → G → Type 0) (names : List (List ℕ)) (Reach : Type 0)
    (old new : List S × G) (fault : Fault) : Type 0 where
  pub fault_is : fault ≡ DamagedDescriptor
  pub opens : OpensNext answers names old new
  pub all : length names ≤ length new.0
  pub beyond : Reach → ⊥

-- The errors of opening the files of an image.
abbrev pub NotAllOpened : {G S : Type 0} → (G → List ℕ → Result S Fault → G → Type 0) → List (List ℕ) → Type 0
    → List S × G → List S × G → Fault → Type 0
NotAllOpened answers names Reach old new fault = StopsOpening answers names old new fault ⊎ Overreaches answers names Reach old new fault

-- The errors of reading the descriptor. A builder for writing fails with `Unsupported`.
abbrev pub Unread : {S : Type 0} → (S → StorageState) → Bool → Result (List (Extent (List ℕ))) Fault → Fault → Type 0
Unread state true said fault = fault ≡ Unsupported
Unread state false said fault = RefusesOpening state said fault

-- The descriptor is valid, but a file of an extent can't be opened, or reads can't reach the end of an extent.
pub record FilesRefused {G S : Type 0} (state : S → StorageState) (answers : G → List ℕ → Result S Fault → G → Type 0)
    (image : StorageState) (gate now : G) (fault : Fault) : Type 0 where
  pub extents : List (Extent (String Global))
  pub files : List S
  pub said : descriptor_of image.bytes ≡ Ok (kept_extents extents)
  pub cause : NotAllOpened answers (kept_names extents) (ReadsReach extents image (map state files)) ([], gate) (files, now) fault

-- The errors of a builder: the descriptor isn't read and the gate isn't called, or opening the files fails.
abbrev pub NotBuilt : {G S : Type 0} → (S → StorageState) → (G → List ℕ → Result S Fault → G → Type 0) → Bool → StorageState
    → G → G → Fault → Type 0
NotBuilt state answers writable image gate now fault =
    ((now ≡ gate) × Unread state writable (descriptor_of image.bytes) fault)
    ⊎ ((writable ≡ false) × FilesRefused state answers image gate now fault)

-- The errors of opening an image, with any gate. If the descriptor is valid and needs no file, only `Memory` is left, and `Storage` if the
-- storage may fail.
abbrev pub MayRefuse : {S N : Type 0} → (S → StorageState) → Bool → Result (List (Extent N)) Fault → Fault → Type 0
MayRefuse state true said fault = fault ≡ Unsupported
MayRefuse state false (Err e) fault = (fault ≡ e) ⊎ ((fault ≡ Memory) ⊎ ((fault ≡ Storage) × MayFail state))
MayRefuse state false (Ok xs) fault = (0 < files_asked xs) ⊎ ((fault ≡ Memory) ⊎ ((fault ≡ Storage) × MayFail state))
