-- A raw image as a layer (one image of a backing chain): each byte of the disk is a byte of the storage.
use Rattle.std.specs.Prelude.{⊤, ℕ, max, Bool, false, ◌&&◌, Option, Some, None, List, length, slice_index, if◌then◌else◌, ltb, codes, ◌++◌}
use Rattle.imago_storage.specs.State.{Shape, StorageState, unit_of}
use Rattle.imago_storage.specs.Disk.{byte}
use Rattle.imago_storage.specs.Steps.{Call, shrink}
use Rattle.imago_storage.specs.declared.fault.Fault.{Fault}
use Rattle.imago_storage.specs.declared.fault.Fault.TheVariants.{Unsupported}
use Rattle.imago_access.specs.Layer.{Layer, Fixed, Meaning, own, loose}
use Rattle.imago_access.specs.declared.format.Format.TheVariants as format

-- The disk that a file means as a raw image: its bytes.
abbrev pub raw_meaning : List ℕ → Meaning
raw_meaning f = record { size = length f; cell = λ p. own (byte (slice_index f p)); backed = false }

-- The fixed properties of a raw image over a storage.
abbrev pub raw_fixed : Shape → Bool → Fixed
raw_fixed shape writable = record {
  format = format.Raw;
  writable = writable;
  lets_through = false;
  keeps = shape.keeps;
  missing = false;
  number = 0;
  blank = own (byte 0);
  req_align = shape.req_align;
  mem_align = shape.mem_align;
  granularity = Some (max (unit_of shape) shape.zero_align);
  kind = 0;
  means = raw_meaning;
  leaks = λ f c. 0;
  exact = false;
  marks_failed = false;
  reports_allocation = false;
  unit = 1;
}

-- A raw image over a storage, with its size in bytes. `writable` is set if it was opened for writing.
abbrev pub raw_layer : StorageState → ℕ → Bool → Layer
raw_layer state size writable = record {
  fixed = raw_fixed state.shape writable;
  size = size;
  failed = false;
  cell = λ p. own (byte (slice_index state.bytes p));
  writable_location = λ p. if ltb p size && writable then Some (0, p) else None;
  held = λ p. loose;
  unspent = None;
}

-- The driver's own errors for a change: the storage can't be truncated.
abbrev pub RawCause : Call → Fault → Type 0
RawCause (shrink size) Unsupported = ⊤
RawCause call fault = ⊥

-- The text that a raw image is printed as.
abbrev pub raw_text : Option (List ℕ) → List ℕ
raw_text None = codes "raw[]"
raw_text (Some name) = codes "raw[" ++ name ++ codes "]"
