-- Specifies the further files of a layer (an image of a chain): those of the extents of a VMDK image.
use Rattle.std.specs.Prelude.{◌≡◌, ◌⊎◌, ℕ, List, [], map, Ok}
use Rattle.std.specs.declared.string.String.{String}
use Rattle.std.specs.declared.alloc.Global.{Global}
use Rattle.imago_storage.specs.State.{StorageState}
use Rattle.imago_storage.specs.declared.fault.Fault.{Fault}
use Rattle.imago_storage.specs.declared.fault.Fault.TheVariants.{DamagedDescriptor, MissingData}
use Rattle.imago_access.specs.declared.format.Format.{Format}
use Rattle.imago_access.specs.declared.format.Format.TheVariants.{Vmdk}
use Rattle.imago_formats.specs.Descriptor.{descriptor_of}
use Rattle.imago_formats.specs.VmdkLayer.{ReadsReach, file_names}
use Rattle.imago_formats.specs.declared.vmdk.descriptor.Extent.{Extent}
use Rattle.qimg_chain.specs.Extras.{LacksOne, TakesEach}

-- A file is taken for each name in these extents, in order, and reads reach the end of each extent.
pub record HasFiles {S : Type 0} (state : S → StorageState) (image : StorageState) (handed : List (String Global × S))
    (extents : List (Extent (List ℕ))) (files : List S) : Type 0 where
  pub taken : TakesEach handed (file_names extents) files
  pub reach : ReadsReach extents image (map state files)

-- The reason why the extents don't have their files: a name without a file, or else an extent whose end reads don't reach.
abbrev pub WhyNotFiles : {S : Type 0} → (S → StorageState) → StorageState → List (String Global × S) → List (Extent (List ℕ))
    → Fault → Type 0
WhyNotFiles {S} state image handed extents fault =
    ((fault ≡ MissingData) × LacksOne handed (file_names extents))
    ⊎ ((fault ≡ DamagedDescriptor) × ((files : List S) × TakesEach handed (file_names extents) files
    × (ReadsReach extents image (map state files) → ⊥)))

-- `further` are the further files of an image of this format. A VMDK image has those of its descriptor, and other images have none.
abbrev pub HasFurther : {S : Type 0} → (S → StorageState) → Format → StorageState → List (String Global × S) → List StorageState → Type 0
HasFurther {S} state Vmdk image handed further = (extents : List (Extent (List ℕ))) × (descriptor_of image.bytes ≡ Ok extents)
    × ((files : List S) × HasFiles state image handed extents files × (further ≡ map state files))
HasFurther state format image handed further = further ≡ []

-- The reason why the image doesn't have its further files.
abbrev pub WhyNotFurther : {S : Type 0} → (S → StorageState) → Format → StorageState → List (String Global × S) → Fault → Type 0
WhyNotFurther state Vmdk image handed fault =
    (extents : List (Extent (List ℕ))) × (descriptor_of image.bytes ≡ Ok extents) × WhyNotFiles state image handed extents fault
WhyNotFurther state format image handed fault = ⊥
