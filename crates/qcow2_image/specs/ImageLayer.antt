-- A qcow2 image as a layer of a chain (an image and its backing chain): what its entries and bytes say of each byte of the disk.
use Rattle.std.proofs.Common.{inl, inr, refl}
use Rattle.std.specs.Prelude.{◌≡◌, ◌⊎◌, ℕ, ◌+◌, ◌-◌, ◌*◌, ◌/◌, ◌%◌, ◌^◌, Bool, true, false, Option, Some, None, is_some, List, Result, Ok, Err, if◌then◌else◌, ltb, ◌&&◌, codes, ◌++◌}
use Rattle.imago_storage.specs.State.{Shape, StorageState}
use Rattle.imago_storage.specs.Disk.{byte, barred, damaged_place}
use Rattle.imago_storage.specs.declared.fault.Fault.{Fault}
use Rattle.imago_access.specs.Layer.{Cell, own, unmapped, Layer, Fixed, Meaning}
use Rattle.imago_access.specs.declared.format.Format.TheVariants as format
use Rattle.imago_access.specs.declared.mapping.ShallowMapping.{ShallowMapping}
use Rattle.imago_access.specs.declared.mapping.ShallowMapping.TheVariants as shallow
use Rattle.qcow2_types.specs.Bytes.{Bytes, bytes_of}
use Rattle.qcow2_types.specs.Counts.{count}
use Rattle.qcow2_types.specs.Header.{Fields, Header, header_of, cluster_size}
use Rattle.qcow2_types.specs.References.{refs}
use Rattle.qcow2_types.specs.Words.{Mapping, data_at, zeroes, packed, damaged}
use Rattle.qcow2_types.specs.Words as mappings
use Rattle.qcow2_types.specs.Entries.{entry}
use Rattle.qcow2_image.specs.Holding.{PreparedMappingRun, mapping_id_held, held_with, writable_locations_with}
use Rattle.qcow2_image.specs.declared.mode.OpenMode.{OpenMode}

-- The cell of an unallocated byte: a gap if the image has layers below, which fill it, and otherwise 0.
abbrev pub blank_of : Bool → Cell
blank_of true = unmapped
blank_of false = own (byte 0)

-- The cell of a byte by the mapping of its guest cluster, if the data is in this file.
abbrev pub cell_by : Cell → Bytes → Fields → ℕ → Mapping → Cell
cell_by blank file h p (data_at cluster copied) = own (byte (file (cluster * cluster_size h + p % cluster_size h)))
cell_by blank file h p (zeroes cluster copied) = own (byte 0)
cell_by blank file h p (packed offset length) = own barred
cell_by blank file h p mappings.unmapped = blank
cell_by blank file h p damaged = own damaged_place

-- The cells of an image, by the entries in memory and the bytes of its file. After the end of the disk they are 0.
abbrev pub cells : Cell → Bytes → Bytes → Fields → ℕ → Cell
cells blank memory file h p = if ltb p h.size then cell_by blank file h p (entry memory h (p / cluster_size h)) else own (byte 0)

-- The meaning of a file by itself, by its header.
abbrev pub meaning_of : Cell → Bytes → Result Header Fault → Meaning
meaning_of blank file (Ok H) = record { size = H.fields.size; cell = cells blank file file H.fields; backed = is_some H.backing_name }
meaning_of blank file (Err fault) = record { size = 0; cell = λ p. own damaged_place; backed = false }

abbrev pub qcow2_meaning : Cell → List ℕ → Meaning
qcow2_meaning blank bytes = meaning_of blank (bytes_of bytes) (header_of false (bytes_of bytes))

-- The excess refcount of each cluster of a file, by its header, with nothing pending.
abbrev pub excess_refcount_in : Bytes → Result Header Fault → ℕ → ℕ
excess_refcount_in file (Ok H) c = count file H.fields c - refs file H.fields c
excess_refcount_in file (Err fault) c = 0

abbrev pub qcow2_leaks : List ℕ → ℕ → ℕ
qcow2_leaks bytes = excess_refcount_in (bytes_of bytes) (header_of false (bytes_of bytes))

-- The alignment in bytes of the ranges that the image can zero by itself.
abbrev pub granularity_of : Fields → Option ℕ
granularity_of h = if ltb 2 h.version then Some (cluster_size h) else None

-- The constants of an open image, by the shape of its storage, its mode and its number.
abbrev pub qcow2_fixed : Shape → Fields → OpenMode → ℕ → Fixed
qcow2_fixed shape h mode number = record {
  format = format.Qcow2;
  writable = mode.writable;
  lets_through = false;
  keeps = shape.keeps;
  missing = false;
  number = number;
  blank = blank_of mode.backing;
  req_align = shape.req_align;
  mem_align = shape.mem_align;
  granularity = granularity_of h;
  kind = 1;
  means = qcow2_meaning (blank_of mode.backing);
  leaks = qcow2_leaks;
  exact = true;
  marks_failed = true;
  reports_allocation = true;
  unit = cluster_size h;
}

-- The location where a byte can be written in place: in the data cluster of a mapping with the COPIED flag.
abbrev pub writable_location_by : Fields → ℕ → Mapping → Option (ℕ × ℕ)
writable_location_by h p (data_at cluster true) = Some (0, cluster * cluster_size h + p % cluster_size h)
writable_location_by h p mapping = None

-- The locations where the bytes of an image can be written in place, by the entries in memory, if it is writable.
abbrev pub writable_locations : Bool → Bytes → Fields → ℕ → Option (ℕ × ℕ)
writable_locations writable memory h p = if writable && ltb p h.size then writable_location_by h p (entry memory h (p / cluster_size h)) else None

-- The layer of an image, by the entries in memory and the prepared mapping, if any.
abbrev pub qcow2_layer : StorageState → Bytes → Fields → OpenMode → ℕ → Bool → Option PreparedMappingRun → Layer
qcow2_layer state memory h mode number failed hold = record {
  fixed = qcow2_fixed state.shape h mode number;
  size = h.size;
  failed = failed;
  cell = cells (blank_of mode.backing) memory (bytes_of state.bytes) h;
  writable_location = writable_locations_with hold (writable_locations mode.writable memory h);
  held = held_with h (bytes_of state.bytes) hold;
  unspent = mapping_id_held hold;
}

-- The text that describes an image: `qcow2[NAME]`, or `qcow2[]` for an image without a name.
abbrev pub qcow2_text : Option (List ℕ) → List ℕ
qcow2_text None = codes "qcow2[]"
qcow2_text (Some name) = codes "qcow2[" ++ name ++ codes "]"

-- The answer of a lookup of an unallocated byte, for an image with or without layers below.
abbrev pub unmapped_answer : Bool → ℕ → ShallowMapping
unmapped_answer true offset = shallow.Indirect offset false
unmapped_answer false offset = shallow.Zero false

-- The answer of a lookup by a mapping. The byte is `within` bytes after the start of its cluster.
abbrev pub shallow_of : OpenMode → ℕ → ℕ → ℕ → Mapping → ShallowMapping
shallow_of mode cluster_bits offset within (data_at cluster copied) =
    shallow.Raw 0 (cluster * 2 ^ cluster_bits + within) (mode.writable && copied)
shallow_of mode cluster_bits offset within mappings.unmapped = unmapped_answer mode.backing offset
shallow_of mode cluster_bits offset within (zeroes cluster copied) = shallow.Zero true
shallow_of mode cluster_bits offset within mapping = shallow.Special offset

pub blanks : (backed : Bool) → (blank_of backed ≡ unmapped) ⊎ (blank_of backed ≡ own (byte 0))
blanks true = inl refl
blanks false = inr refl
