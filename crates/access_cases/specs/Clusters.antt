-- The one-cluster image of `clusters.rt` as contracts see it: a layer of a chain (an image without its backing files). Nothing of the image
-- is mapped, and its file is empty, until the first prepared mapping is committed.
use Rattle.std.specs.Prelude.{◌≡◌, ◌⊎◌, ⊤, ℕ, ◌<◌, ◌≤◌, max, length, ◌&&◌, Bool, true, false, Option, Some, None, List, [], ◌∷◌, IsTrue, if◌then◌else◌, ltb, leb, slice_index, slice_index_or}
use Rattle.imago_storage.specs.State.{Shape, StorageState}
use Rattle.imago_storage.specs.Disk.{byte, barred}
use Rattle.imago_storage.specs.declared.fault.Fault.{Fault}
use Rattle.imago_storage.specs.declared.fault.Fault.TheVariants.{Unsupported, Limit, Memory, Storage}
use Rattle.imago_access.specs.Layer.{Cell, own, unmapped, Held, loose, beside, inside, Fixed, Layer}
use Rattle.imago_access.specs.declared.format.Format.TheVariants as format
use Rattle.access_cases.specs.declared.clusters.Content.{Content}
use Rattle.access_cases.specs.declared.clusters.Content.TheVariants.{Unmapped, Zeroed, Barred, Prepared, Mapped}
use Rattle.access_cases.specs.declared.clusters.OneCluster.{OneCluster}

-- The cell (a value, or nothing) of an unmapped byte, with or without layers below.
abbrev pub blank_of : Bool → Cell
blank_of true = unmapped
blank_of false = own (byte 0)

-- The cell that file `f` gives at `p`: `blank` if the file is empty, else its byte.
abbrev pub cell_of : Cell → List ℕ → ℕ → Cell
cell_of blank [] p = blank
cell_of blank (first ∷ bytes) p = own (byte (slice_index (first ∷ bytes) p))

-- The cell at `p` if the image's file were `f`. A zeroed or barred image has the same cell everywhere, for every file.
abbrev pub meant_by : Content → Cell → List ℕ → ℕ → Cell
meant_by Zeroed blank f p = own (byte 0)
meant_by Barred blank f p = own barred
meant_by Unmapped blank f p = cell_of blank f p
meant_by (Prepared run) blank f p = cell_of blank f p
meant_by Mapped blank f p = cell_of blank f p

-- The cell of the image at `p`, with file `f`.
abbrev pub says : Content → Cell → List ℕ → ℕ → Cell
says Zeroed blank f p = own (byte 0)
says Barred blank f p = own barred
says Unmapped blank f p = blank
says (Prepared run) blank f p = blank
says Mapped blank f p = own (byte (slice_index f p))

-- The fixed properties of the image over a storage of shape `shape`. Its single cluster is as long as the disk.
abbrev pub cluster_fixed : {S : Type 0} → Shape → OneCluster S → Fixed
cluster_fixed shape d = record {
  format = format.Qcow2;
  writable = d.writable;
  lets_through = d.writable && d.through;
  keeps = shape.keeps;
  missing = d.missing;
  number = d.number;
  blank = blank_of d.backed;
  req_align = shape.req_align;
  mem_align = shape.mem_align;
  granularity = None;
  kind = 0;
  means = λ f. record { size = d.size; cell = meant_by d.content (blank_of d.backed) f; backed = d.backed };
  leaks = λ f c. 0;
  exact = false;
  marks_failed = true;
  reports_allocation = true;
  unit = max d.size 1;
}

-- The bytes from `start` up to `end` can be written, each at its own offset.
abbrev pub home_in : ℕ → ℕ → ℕ → Option (ℕ × ℕ)
home_in start end p = if leb start p && ltb p end then Some (0, p) else None

-- The state of a byte outside the prepared run. The bytes of the disk are copied into the cluster, and all copied bytes are 0.
abbrev pub beside_in : ℕ → ℕ → Held
beside_in size p = if ltb p size then beside 0 else loose

-- The bytes of the prepared run are held until a commit, with what was written to them.
abbrev pub held_in : ℕ → ℕ → ℕ → Bool → List (Option ℕ) → ℕ → Held
held_in size start end announced written p =
    if leb start p && ltb p end then inside None (slice_index_or written p None) announced else beside_in size p

-- The writable location of a byte: in a prepared run, or below `size` if the disk is mapped.
abbrev pub home_of : Content → ℕ → ℕ → Option (ℕ × ℕ)
home_of (Prepared run) size p = home_in run.start run.end p
home_of Mapped size p = home_in 0 size p
home_of content size p = None

-- The state of a byte in the prepared run, on a disk of `size` bytes.
abbrev pub held_of : Content → ℕ → ℕ → Held
held_of (Prepared run) size p = held_in size run.start run.end run.overwrite run.written.items p
held_of content size p = loose

abbrev pub unspent_of : Content → Option ℕ
unspent_of (Prepared run) = Some run.mapping_id
unspent_of content = None

-- The image as a layer, with its file in state `state`.
abbrev pub cluster_layer : {S : Type 0} → StorageState → OneCluster S → Layer
cluster_layer state d = record {
  fixed = cluster_fixed state.shape d;
  size = d.size;
  failed = d.failed;
  cell = says d.content (blank_of d.backed) state.bytes;
  writable_location = home_of d.content (if d.writable then d.size else 0);
  held = held_of d.content d.size;
  unspent = unspent_of d.content;
}

-- Nothing is allocated for the cluster, and it isn't read. A zeroed image stores no zeroes, and a prepared run is allocated by its commit.
-- A barred cluster (its bytes can't be read) is allocated, and isn't the image's own.
abbrev pub TakesNone : Content → Type 0
TakesNone Unmapped = ⊤
TakesNone Zeroed = ⊤
TakesNone Barred = ⊥
TakesNone (Prepared run) = ⊤
TakesNone Mapped = ⊥

-- The byte at `p` is past the end of the disk, or nothing is allocated for it.
abbrev pub IsBare : Content → ℕ → ℕ → Type 0
IsBare content size p = (size ≤ p) ⊎ TakesNone content

-- The image has allocated space for the byte.
abbrev pub HasRoom : Content → ℕ → ℕ → Type 0
HasRoom Mapped size p = p < size
HasRoom content size p = ⊥

-- A run prepared in a cluster without layers below. It is inside the disk, and nothing is written to bytes outside it.
pub record IsRunOf (size : ℕ) (backed : Bool) (start end : ℕ) (written : List (Option ℕ)) : Type 0 where
  pub all : length written ≡ size
  pub inside : end ≤ size
  pub alone : backed ≡ false
  pub others : (p : ℕ) → (p < start) ⊎ (end ≤ p) → slice_index_or written p None ≡ None

-- The content fits file `f`: an empty file until a mapping is committed, and at least as long as the disk afterwards.
abbrev pub IsHeldIn : ℕ → Bool → List ℕ → Content → Type 0
IsHeldIn size backed f Unmapped = f ≡ []
IsHeldIn size backed f Zeroed = ⊤
IsHeldIn size backed f Barred = ⊤
IsHeldIn size backed f (Prepared run) = (f ≡ []) × IsRunOf size backed run.start run.end run.written.items
IsHeldIn size backed f Mapped = size ≤ length f

-- The image hasn't failed, its file keeps what is written, and its content fits the file.
pub record IsWellFormed {S : Type 0} (state : StorageState) (d : OneCluster S) : Type 0 where
  pub runs : d.failed ≡ false
  pub keeps : IsTrue state.shape.keeps
  pub fits : IsHeldIn d.size d.backed state.bytes d.content

-- The image's own faults for a change. It can't zero or discard by itself, and prepares nothing if a copy would be needed.
abbrev pub cluster_cause : Fault → Type 0
cluster_cause Unsupported = ⊤
cluster_cause (Limit bound) = bound ≡ 0
cluster_cause fault = ⊥

-- A resource error (`Fault::Memory`, `Fault::Storage`) of the file sets the image to failed.
abbrev pub failed_by : Fault → Bool → Bool
failed_by Memory failed = true
failed_by Storage failed = true
failed_by fault failed = failed
