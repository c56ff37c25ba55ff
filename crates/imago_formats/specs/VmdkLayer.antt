-- A VMDK image as a layer (one image of a backing chain): its extents one after another, over their files.
use Rattle.std.specs.Prelude.{⊤, ◌⊎◌, ℕ, ◌+◌, ◌-◌, ◌*◌, ◌<◌, ◌≤◌, ◌^◌, ◌≡◌, min, Bool, true, false, Option, Some, None, List, [], ◌∷◌, ◌++◌, length, take, if◌then◌else◌, ltb, codes, Result, Ok, Err, IsTrue}
use Rattle.std.specs.List.{count_by}
use Rattle.imago_storage.specs.State.{StorageState}
use Rattle.imago_storage.specs.Through.{round_up}
use Rattle.imago_storage.specs.Disk.{byte, barred}
use Rattle.imago_storage.specs.declared.fault.Fault.{Fault}
use Rattle.imago_access.specs.Layer.{Layer, Fixed, Meaning, Cell, own, loose, unit_of_layer}
use Rattle.imago_access.specs.Files.{byte_in, greatest, keep_all}
use Rattle.imago_access.specs.declared.format.Format.TheVariants as format
use Rattle.imago_access.specs.declared.mapping.ShallowMapping.{ShallowMapping}
use Rattle.imago_access.specs.declared.mapping.ShallowMapping.TheVariants as shallow
use Rattle.imago_formats.specs.Descriptor.{descriptor_of, size_of}
use Rattle.imago_formats.specs.declared.vmdk.descriptor.Access.{Access}
use Rattle.imago_formats.specs.declared.vmdk.descriptor.Access.TheVariants.{NoAccess}
use Rattle.imago_formats.specs.declared.vmdk.descriptor.Source.{Source}
use Rattle.imago_formats.specs.declared.vmdk.descriptor.Source.TheVariants.{Flat, Zero}
use Rattle.imago_formats.specs.declared.vmdk.descriptor.Extent.{Extent}

-- The extent needs a file.
abbrev pub asks_file : {N : Type 0} → Access → Source N → Bool
asks_file NoAccess source = false
asks_file _ (Flat name sector) = true
asks_file _ Zero = false

abbrev pub has_file : {N : Type 0} → Extent N → Bool
has_file x = asks_file x.access x.source

-- The number of files that extents need.
abbrev pub files_asked : {N : Type 0} → List (Extent N) → ℕ
files_asked xs = count_by has_file xs

-- The name of the file that an extent needs, if any.
abbrev pub name_in : {N : Type 0} → Access → Source N → List N
name_in NoAccess source = []
name_in _ (Flat name sector) = name ∷ []
name_in _ Zero = []

abbrev pub file_names : {N : Type 0} → List (Extent N) → List N
file_names [] = []
file_names (x ∷ xs) = name_in x.access x.source ++ file_names xs

-- The value of an extent's byte, from the bytes of its file. An extent without access can't be read.
abbrev pub in_source : {N : Type 0} → Access → Source N → (ℕ → ℕ) → ℕ → Cell
in_source NoAccess source file p = own barred
in_source _ (Flat name sector) file p = own (byte (file (512 * sector + p)))
in_source _ Zero file p = own (byte 0)

-- The value of a byte in consecutive extents. Those that need a file are numbered from `k` on, in order.
abbrev pub in_extents : {N : Type 0} → (ℕ → ℕ → ℕ) → List (Extent N) → ℕ → ℕ → Cell
in_extents files [] k p = own (byte 0)
in_extents files (x ∷ xs) k p = let later = in_extents files xs (if has_file x then k + 1 else k) (p - 512 * x.sectors) in
    if ltb p (512 * x.sectors) then in_source x.access x.source (files k) p else later

-- The descriptor says that the byte is 0, independent of the contents of the files.
abbrev pub IsZeroByDescriptor : {N : Type 0} → List (Extent N) → ℕ → Type 0
IsZeroByDescriptor extents p = (files : ℕ → ℕ → ℕ) → in_extents files extents 1 p ≡ own (byte 0)

-- The end of an extent in its file, in bytes, or 0 if it has no file.
abbrev pub end_in_file : {N : Type 0} → Access → Source N → ℕ → ℕ
end_in_file NoAccess source sectors = 0
end_in_file _ (Flat name sector) sectors = 512 * (sector + sectors)
end_in_file _ Zero sectors = 0

-- Padded reads can reach the end of each extent in its file.
abbrev pub AreInReach : {N : Type 0} → ℕ → List (Extent N) → Type 0
AreInReach unit [] = ⊤
AreInReach unit (x ∷ xs) = (round_up unit (end_in_file x.access x.source x.sectors) < 2 ^ 64) × AreInReach unit xs

-- The disk that a descriptor over these files means.
abbrev pub meaning_of : Result (List (Extent (List ℕ))) Fault → (ℕ → ℕ → ℕ) → Meaning
meaning_of (Ok xs) files = record { size = size_of xs; cell = in_extents files xs 1; backed = false }
meaning_of (Err e) files = record { size = 0; cell = λ p. own (byte 0); backed = false }

-- The fixed properties of the image.
abbrev pub vmdk_fixed : {N : Type 0} → List (Extent N) → StorageState → List StorageState → Fixed
vmdk_fixed extents image files = record {
  format = format.Vmdk;
  writable = false;
  lets_through = false;
  keeps = keep_all image files;
  missing = ltb (length files) (files_asked extents);
  number = 0;
  blank = own (byte 0);
  req_align = greatest (λ s. s.shape.req_align) image files;
  mem_align = greatest (λ s. s.shape.mem_align) image files;
  granularity = None;
  kind = 0;
  means = λ f. meaning_of (descriptor_of f) (byte_in (image ∷ files));
  leaks = λ f c. 0;
  exact = true;
  marks_failed = false;
  reports_allocation = false;
  unit = 1;
}

-- An image of these extents, over its descriptor's file and the files of the extents.
abbrev pub vmdk_layer : {N : Type 0} → List (Extent N) → StorageState → List StorageState → Layer
vmdk_layer extents image files = record {
  fixed = vmdk_fixed extents image files;
  size = size_of extents;
  failed = false;
  cell = in_extents (byte_in (image ∷ files)) extents 1;
  writable_location = λ p. None;
  held = λ p. loose;
  unspent = None;
}

-- Reads of these files can reach the end of each extent.
abbrev pub ReadsReach : {N : Type 0} → List (Extent N) → StorageState → List StorageState → Type 0
ReadsReach extents image files = AreInReach (unit_of_layer (vmdk_layer extents image files)) extents

-- The mapping of an offset that is `within` bytes after the start of its extent. The extent's file has the number `k`.
abbrev pub mapping_of : {N : Type 0} → Access → Source N → (k offset within : ℕ) → ShallowMapping
mapping_of NoAccess source k offset within = shallow.Special offset
mapping_of _ (Flat name sector) k offset within = shallow.Raw k (min (min (512 * sector) (2 ^ 64 - 1) + within) (2 ^ 64 - 1)) false
mapping_of _ Zero k offset within = shallow.Zero true

-- The text that the image is printed as.
abbrev pub vmdk_text : Option (List ℕ) → List ℕ
vmdk_text None = codes "vmdk[]"
vmdk_text (Some name) = codes "vmdk[" ++ name ++ codes "]"

-- A run of `n` bytes covers the part of the range inside the disk, or ends where an extent ends.
abbrev pub IsWholeRun : {N : Type 0} → List (Extent N) → (offset asked n : ℕ) → Type 0
IsWholeRun extents offset asked n =
    (n ≡ min asked (size_of extents - offset)) ⊎ ((i : ℕ) × (offset + n ≡ size_of (take i extents)))

-- The extent at an offset of the disk, with its start and the number of its file.
pub record IsExtentAt {N : Type 0} (extents : List (Extent N)) (p : ℕ) (x : Extent N) (start k : ℕ) : Type 0 where
  pub low : start ≤ p
  pub high : p < start + 512 * x.sectors
  pub end : start + 512 * x.sectors ≤ size_of extents
  pub last : (i : ℕ) × (start + 512 * x.sectors ≡ size_of (take i extents))
  pub number_nonzero : 0 < k
  pub file_exists : IsTrue (has_file x) → k ≤ files_asked extents
  pub shows : (files : ℕ → ℕ → ℕ) (q : ℕ) → q < 512 * x.sectors
      → in_extents files extents 1 (start + q) ≡ in_source x.access x.source (files k) q
  pub reach : (unit : ℕ) → AreInReach unit extents → round_up unit (end_in_file x.access x.source x.sectors) < 2 ^ 64
