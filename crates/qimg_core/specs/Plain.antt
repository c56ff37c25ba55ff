-- The disk that the bytes of an image file mean, and the results of the plain reader, which reads the disk without a driver.
use Rattle.std.specs.Prelude.{◌≡◌, ◌⊎◌, ℕ, ◌+◌, ◌-◌, ◌*◌, ◌/◌, ◌%◌, ◌^◌, ◌<◌, ◌≤◌, min, false, not, nat_le, List, [], ◌∷◌, length, slice_index, map, Option, Some, None, Result, Ok, Err, MatchResult}
use Rattle.std.specs.Option.{is_some}
use Rattle.imago_storage.specs.State.{StorageState, HasRisen}
use Rattle.imago_storage.specs.Calls.{UnchangedButFaults}
use Rattle.imago_storage.specs.Disk.{Value, byte, barred, damaged_place}
use Rattle.imago_storage.specs.declared.fault.Fault.{Fault}
use Rattle.imago_storage.specs.declared.fault.Fault.TheVariants.{RangeOverflow, DamagedTable, Unsupported, Barred, MissingBelow, Memory, Storage}
use Rattle.qcow2_types.specs.Bytes.{Bytes}
use Rattle.qcow2_types.specs.Words.{Mapping, mapping_of, table_offset}
use Rattle.qcow2_types.specs.Header.{Fields, Header, Rule, header_of, first_fault, has_external_data}
use Rattle.qcow2_types.specs.Entries.{l2_table, l1_table_sound, l2_entries}
use Rattle.qcow2_types.specs.Disk.{Layer, qcow2, at, shown, shown_by, chain_size}
use Rattle.qcow2_metadata.specs.Tables.{TableValue}
use Rattle.std.specs.Prelude.{Vec, String}
use Rattle.std.specs.declared.alloc.Global.{Global}
use Rattle.imago_access.specs.declared.format.Format.{Format}
use Rattle.imago_access.specs.declared.format.Format.TheVariants.{Raw, Qcow2, Vmdk}
use Rattle.qimg_core.specs.declared.plain.ChainFile.{ChainFile}
-- The bytes of a storage by their offset.
pub use Rattle.qcow2_metadata.specs.Loading.{file}

-- The chain of one image file as a list of layers, and the values of its disk.
abbrev pub chain_of : Bytes → List Layer
chain_of f = qcow2 f (λ _. 0) ∷ []

unfoldable pub value_at : Bytes → ℕ → Value
value_at f p = at (chain_of f) p

-- The fault with which a value can't be read, if any.
abbrev pub value_fault : Value → Option Fault
value_fault (byte n) = None
value_fault barred = Some Barred
value_fault damaged_place = Some DamagedTable

-- The first of the `n` values from `offset` on that can't be read has this fault.
pub record IsFirstFault (value : ℕ → Value) (offset n : ℕ) (fault : Fault) : Type 0 where
  pub place : ℕ
  pub inside : place < n
  pub faulty : value_fault (value (offset + place)) ≡ Some fault
  pub before : (i : ℕ) → i < place → value_fault (value (offset + i)) ≡ None

-- The fault is a reason why `n` values aren't read: memory, the storage, or the first value that can't be read.
abbrev pub NotShown : (ℕ → Value) → StorageState → StorageState → ℕ → ℕ → Fault → Type 0
NotShown value old new offset n Memory = new.faults ≡ old.faults
NotShown value old new offset n Storage = HasRisen old.faults new.faults
NotShown value old new offset n fault = IsFirstFault value offset n fault × (new.faults ≡ old.faults)

-- The value at guest offset `p` of a guest cluster with this mapping. The image has clusters of 2^bits bytes, no external data file and no
-- layers below.
abbrev pub mapped_value : Bytes → ℕ → Mapping → ℕ → Value
mapped_value f bits mapping p = shown_by mapping (λ cluster. byte (f (cluster * 2 ^ bits + p % 2 ^ bits))) (byte 0)

-- The value at guest offset `p`, by this table's entry for the guest cluster.
abbrev pub table_value : Bytes → TableValue → ℕ → Value
table_value f table p =
    let bits = table.layout.cluster_bits in
    mapped_value f bits (mapping_of table.layout (slice_index table.raw_entries (p / 2 ^ bits % l2_entries bits))) p

-- The value at guest offset `p` of an image whose header has these fields, without layers below.
unfoldable pub image_value : Bytes → Fields → ℕ → Value
image_value f h p = shown f (λ _. 0) h p (byte 0)

-- The raw entries reference the L2 tables of the image. Entries that are missing at the end are 0.
pub record NamesTables (f : Bytes) (h : Fields) (raw_entries : List ℕ) : Type 0 where
  pub each : (i : ℕ) → l2_table f h i ≡ table_offset (slice_index raw_entries i)

-- The fault is a reason why the L1 table isn't loaded: memory, the storage, or an invalid entry.
abbrev pub NoL1 : StorageState → StorageState → Fields → Fault → Type 0
NoL1 old new h Memory = new.faults ≡ old.faults
NoL1 old new h Storage = HasRisen old.faults new.faults
NoL1 old new h DamagedTable = (l1_table_sound (file old) h ≡ false) × (new.faults ≡ old.faults)
NoL1 old new h fault = ⊥

-- The fault of the first broken rule about other files: an external data file, or a backing file.
abbrev pub alone_fault : Header → Option Fault
alone_fault H = first_fault ((has_external_data H.fields, Unsupported) ∷ (is_some H.backing_name, MissingBelow) ∷ [])

-- The rules for a read, in order: a valid L1 table, no external data file, no backing file, and the end of the range.
abbrev pub rules_of_reading : Bytes → Header → ℕ → ℕ → List Rule
rules_of_reading f H offset n =
    (not (l1_table_sound f H.fields), DamagedTable)
    ∷ (has_external_data H.fields, Unsupported)
    ∷ (is_some H.backing_name, MissingBelow)
    ∷ (nat_le (2 ^ 64) (offset + n), RangeOverflow)
    ∷ []

-- The fault of the first rule that a read of `n` bytes at `offset` breaks. It doesn't depend on the values of the disk.
abbrev pub loaded_fault : Bytes → Result Header Fault → ℕ → ℕ → Option Fault
loaded_fault f (Err fault) offset n = Some fault
loaded_fault f (Ok H) offset n = first_fault (rules_of_reading f H offset n)

abbrev pub image_fault : Bytes → ℕ → ℕ → Option Fault
image_fault f offset n = loaded_fault f (header_of false f) offset n

-- The number of bytes of a range that are below the size of the disk.
abbrev pub below_size : ℕ → ℕ → ℕ → ℕ
below_size size offset n = min (size - offset) n

-- A read of the image fails with this fault: that of the first broken rule, or else that of the first value that can't be read.
abbrev pub ImageRefuses : Bytes → ℕ → ℕ → Fault → Type 0
ImageRefuses f offset n fault =
    (image_fault f offset n ≡ Some fault)
    ⊎ ((image_fault f offset n ≡ None) × IsFirstFault (value_at f) offset (below_size (chain_size (chain_of f)) offset n) fault)

-- The buffer holds the bytes of the disk below `size`, and then 0.
pub record ShowsRange (f : Bytes) (size offset : ℕ) (buffer : List ℕ) : Type 0 where
  pub below : (i : ℕ) → i < length buffer → offset + i < size → value_at f (offset + i) ≡ byte (slice_index buffer i)
  pub past : (i : ℕ) → i < length buffer → size ≤ offset + i → slice_index buffer i ≡ 0

-- No rule is broken, and the buffer holds the bytes of the disk from `offset` on, and 0 past its size.
pub record IsImageRead (f : Bytes) (offset : ℕ) (buffer : List ℕ) : Type 0 where
  pub passed : image_fault f offset (length buffer) ≡ None
  pub shows : ShowsRange f (chain_size (chain_of f)) offset buffer

-- The fault is a reason why the image isn't read: memory, the storage, or as in `ImageRefuses`.
abbrev pub NotImageRead : StorageState → StorageState → ℕ → ℕ → Fault → Type 0
NotImageRead old new offset n Memory = new.faults ≡ old.faults
NotImageRead old new offset n Storage = HasRisen old.faults new.faults
NotImageRead old new offset n fault = ImageRefuses (file old) offset n fault × (new.faults ≡ old.faults)

-- A file of a chain, as contracts see it.
pub record SeenFile : Type 0 where
  pub format : Format
  pub state : StorageState

unfoldable pub seen_files : {S : Type 0} → (S → StorageState) → List (ChainFile S) → List SeenFile
seen_files state files = map (λ x. record { format = x.format; state = state x.image }) files

-- The further files of each file.
unfoldable pub extras_of : {S : Type 0} → List (ChainFile S) → List (Vec (String Global × S) Global)
extras_of files = map (λ x. x.extras) files

-- The files are unchanged, except for the storages' fault counts.
abbrev pub FilesKept : List SeenFile → List SeenFile → Type 0
FilesKept [] [] = Unit {0}
FilesKept (x ∷ xs) (y ∷ ys) = (y.format ≡ x.format) × UnchangedButFaults x.state y.state × FilesKept xs ys
FilesKept _ _ = ⊥

-- The fault counts of the storages.
abbrev pub faults_of : List SeenFile → List ℕ
faults_of files = map (λ x. x.state.faults) files

-- The fault count of one of the storages has risen.
abbrev pub OneRose : List SeenFile → List SeenFile → Type 0
OneRose (x ∷ xs) (y ∷ ys) = HasRisen x.state.faults y.state.faults ⊎ OneRose xs ys
OneRose _ _ = ⊥

-- The buffer holds what one file means. Only a qcow2 file can be read.
abbrev pub IsFileRead : Format → Bytes → ℕ → List ℕ → Type 0
IsFileRead Qcow2 f offset buffer = IsImageRead f offset buffer
IsFileRead Raw f offset buffer = ⊥
IsFileRead Vmdk f offset buffer = ⊥

-- A read of one file fails with this fault.
abbrev pub FileRefuses : Format → Bytes → ℕ → ℕ → Fault → Type 0
FileRefuses Qcow2 f offset n fault = ImageRefuses f offset n fault
FileRefuses Raw f offset n fault = fault ≡ Unsupported
FileRefuses Vmdk f offset n fault = fault ≡ Unsupported

-- The buffer holds what a list of files means. Only one file can be read.
abbrev pub IsPlainRead : List SeenFile → ℕ → List ℕ → Type 0
IsPlainRead [] offset buffer = ⊥
IsPlainRead (x ∷ []) offset buffer = IsFileRead x.format (file x.state) offset buffer
IsPlainRead (x ∷ y ∷ rest) offset buffer = ⊥

-- A read of a list of files fails with this fault.
abbrev pub Refuses : List SeenFile → ℕ → ℕ → Fault → Type 0
Refuses [] offset n fault = fault ≡ MissingBelow
Refuses (x ∷ []) offset n fault = FileRefuses x.format (file x.state) offset n fault
Refuses (x ∷ y ∷ rest) offset n fault = fault ≡ Unsupported

-- The fault is a reason why the files aren't read: memory, a storage, or as in `Refuses`.
abbrev pub NotPlainRead : List SeenFile → List SeenFile → ℕ → ℕ → Fault → Type 0
NotPlainRead old new offset n Memory = faults_of new ≡ faults_of old
NotPlainRead old new offset n Storage = OneRose old new
NotPlainRead old new offset n fault = Refuses old offset n fault × (faults_of new ≡ faults_of old)

-- The call fails with this fault, unless memory runs out or a storage fails.
abbrev pub MustRefuse : Result (Unit {0}) Fault → Fault → Type 0
MustRefuse result fault = MatchResult result (λ _. ⊥) (λ found. (found ≡ fault) ⊎ ((found ≡ Memory) ⊎ (found ≡ Storage)))
