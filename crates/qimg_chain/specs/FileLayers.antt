-- Defines when an image file can be a layer (an image of a chain), and the reasons why it can't.
use Rattle.std.specs.Prelude.{◌≡◌, ◌⊎◌, ℕ, Bool, true, false, List, is_some, Result, Ok, Err}
use Rattle.std.specs.declared.string.String.{String}
use Rattle.std.specs.declared.alloc.Global.{Global}
use Rattle.imago_storage.specs.State.{StorageState}
use Rattle.imago_storage.specs.declared.fault.Fault.{Fault}
use Rattle.imago_storage.specs.declared.fault.Fault.TheVariants.{Unsupported}
use Rattle.imago_access.specs.Layer.{Cell, Layer, own, unmapped}
use Rattle.imago_access.specs.declared.format.Format.{Format}
use Rattle.imago_access.specs.declared.format.Format.TheVariants.{Qcow2, Raw, Vmdk}
use Rattle.imago_formats.specs.Descriptor.{descriptor_of}
use Rattle.qcow2_types.specs.Bytes.{bytes_of}
use Rattle.qcow2_image.specs.Opening.{header_for}
use Rattle.qimg_core.specs.declared.plain.ChainFile.{ChainFile}
use Rattle.qimg_chain.specs.FurtherFiles.{HasFurther, WhyNotFurther}

-- A test of what was read, or the fault with which it wasn't read.
abbrev pub asked_of : {A : Type 0} → (A → Bool) → Result A Fault → Result Bool Fault
asked_of asks (Ok x) = Ok (asks x)
asked_of asks (Err fault) = Err fault

-- True if the file's own bytes refer to a backing file, or the fault with which the file isn't opened. A VMDK image isn't opened for
-- writing, and only a qcow2 image refers to a backing file.
abbrev pub said_of : Format → Bool → List ℕ → Result Bool Fault
said_of Raw writable bytes = Ok false
said_of Vmdk true bytes = Err Unsupported
said_of Vmdk false bytes = asked_of (λ _. false) (descriptor_of bytes)
said_of Qcow2 writable bytes = asked_of (λ H. is_some H.backing_name) (header_for writable (bytes_of bytes))

-- True for the cell of a byte that is read from the layer below. A layer reads unallocated bytes there if `fixed.blank` is such a cell.
abbrev pub is_unmapped : Cell → Bool
is_unmapped (own value) = false
is_unmapped unmapped = true

abbrev pub shows_below : Layer → Bool
shows_below layer = is_unmapped layer.fixed.blank

-- A file with the supplied files is a layer in this format, for reading or for writing. Its bytes say whether it refers to a backing file,
-- and `further` are its further files.
pub record IsLayerAs {S : Type 0} (state : S → StorageState) (format : Format) (writable : Bool) (image : StorageState)
    (handed : List (String Global × S)) (named : Bool) (further : List StorageState) : Type 0 where
  pub says : said_of format writable image.bytes ≡ Ok named
  pub has : HasFurther state format image handed further

-- The reason why the file can't be a layer in this format: its own bytes, or else its further files.
abbrev pub WhyNotAs : {S : Type 0} → (S → StorageState) → Format → Bool → StorageState → List (String Global × S) → Fault → Type 0
WhyNotAs state format writable image handed fault = (said_of format writable image.bytes ≡ Err fault)
    ⊎ (((named : Bool) × (said_of format writable image.bytes ≡ Ok named)) × WhyNotFurther state format image handed fault)

-- Like `IsLayerAs` and `WhyNotAs`, for a file of a chain.
abbrev pub IsLayer : {S : Type 0} → (S → StorageState) → Bool → ChainFile S → Bool → List StorageState → Type 0
IsLayer state writable file named further = IsLayerAs state file.format writable (state file.image) file.extras.items named further

abbrev pub WhyNotLayer : {S : Type 0} → (S → StorageState) → Bool → ChainFile S → Fault → Type 0
WhyNotLayer state writable file fault = WhyNotAs state file.format writable (state file.image) file.extras.items fault
