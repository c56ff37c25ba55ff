-- The header of an image: its fields, and the rules under which it loads. A broken rule is reported in the order of the rules here.
use Rattle.std.specs.Prelude.{IsTrue, ℕ, ◌<◌, ◌≤◌, zero, suc, ◌+◌, ◌-◌, ◌*◌, ◌/◌, ◌^◌, Bool, true, false, ◌&&◌, ◌||◌, not, ◌==◌, nat_lt, nat_le, if◌then◌else◌, List, [], ◌∷◌, ◌++◌, length, take, drop, take_while, Option, Some, None, Result, Ok, Err}
use Rattle.std.specs.Str.{is_utf8}
use Rattle.qcow2_types.specs.Bytes.{Bytes, be, run}
use Rattle.qcow2_types.specs.Words.{Layout, has_bit, is_cluster_offset}
use Rattle.imago_storage.specs.declared.fault.Fault.{Fault}
use Rattle.imago_storage.specs.declared.fault.Fault.TheVariants.{DamagedHeader, Unsupported, Limit}

-- a feature name: its type (0 incompatible, 1 compatible, 2 autoclear), its bit, and its text
pub record Feature : Type 0 where
  pub kind : ℕ
  pub bit : ℕ
  pub name : List ℕ

-- the header fields of fixed size
pub record Fields : Type 0 where
  pub version : ℕ
  pub backing_offset : ℕ
  pub backing_length : ℕ
  pub cluster_bits : ℕ
  pub size : ℕ
  pub crypt_method : ℕ
  pub l1_entries : ℕ
  pub l1_offset : ℕ
  pub refcount_table_offset : ℕ
  pub refcount_table_clusters : ℕ
  pub snapshots : ℕ
  pub snapshots_offset : ℕ
  pub incompatible : ℕ
  pub compatible : ℕ
  pub autoclear : ℕ
  pub refcount_order : ℕ
  pub header_length : ℕ

-- the whole header
pub record Header : Type 0 where
  pub fields : Fields
  pub backing_name : Option (List ℕ)
  pub backing_format : Option (List ℕ)
  pub data_file_name : Option (List ℕ)
  pub features : List Feature

-- the bounds on refcount width and cluster size of every header that loads
pub record Shaped (h : Fields) : Type 0 where
  pub order : h.refcount_order ≤ 6
  pub low : 9 ≤ h.cluster_bits
  pub high : h.cluster_bits ≤ 21

-- The fields in the file. Version 2 has no field after byte 71: its refcounts have 16 bits, and every feature bit is 0.
unfoldable pub fields_of : Bytes → Fields
fields_of f =
    let newer = be f 4 4 == 3 in
    record {
      version = be f 4 4;
      backing_offset = be f 8 8;
      backing_length = be f 16 4;
      cluster_bits = be f 20 4;
      size = be f 24 8;
      crypt_method = be f 32 4;
      l1_entries = be f 36 4;
      l1_offset = be f 40 8;
      refcount_table_offset = be f 48 8;
      refcount_table_clusters = be f 56 4;
      snapshots = be f 60 4;
      snapshots_offset = be f 64 8;
      incompatible = if newer then be f 72 8 else 0;
      compatible = if newer then be f 80 8 else 0;
      autoclear = if newer then be f 88 8 else 0;
      refcount_order = if newer then be f 96 4 else 4;
      header_length = if newer then be f 100 4 else 72;
    }

-- the cluster size, in bytes
abbrev pub cluster_size : Fields → ℕ
cluster_size h = 2 ^ h.cluster_bits

-- the number of entries of a table of one cluster
abbrev pub entries_of_cluster : Fields → ℕ
entries_of_cluster h = cluster_size h / 8

-- the number of entries of the refcount table
abbrev pub refcount_table_entries : Fields → ℕ
refcount_table_entries h = h.refcount_table_clusters * entries_of_cluster h

-- The header has version 3.
abbrev pub is_version_3 : Fields → Bool
is_version_3 h = h.version == 3

-- The guest's data is in an external data file.
abbrev pub has_external_data : Fields → Bool
has_external_data h = has_bit h.incompatible 2

-- the fields that the meaning of entries depends on
abbrev pub layout_of : Fields → Layout
layout_of h = record { cluster_bits = h.cluster_bits; version = h.version; external_data = has_external_data h }

-- the bounds on sizes and offsets of every header that loads
pub record Limited (h : Fields) : Type 0 where
  pub size : h.size < 2 ^ 63
  pub l1_entries : h.l1_entries ≤ 2 ^ 22
  pub refcount_entries : refcount_table_entries h ≤ 2 ^ 20
  pub l1_place : IsTrue (is_cluster_offset h.cluster_bits h.l1_offset)
  pub refcount_place : IsTrue (is_cluster_offset h.cluster_bits h.refcount_table_offset)

-- A rule: true if it is broken, and the fault of a broken rule.
abbrev pub Rule : Type 0
Rule = Bool × Fault

-- the fault of the first broken rule
abbrev pub first_fault : List Rule → Option Fault
first_fault [] = None
first_fault (rule ∷ rules) = if rule.0 then Some rule.1 else first_fault rules

infixr 10 ◌and-then◌
-- the fault if there was one, otherwise what follows
abbrev pub ◌and-then◌ : {A : Type 0} → Option Fault → Result A Fault → Result A Fault
None and-then r = r
(Some e) and-then r = Err e

-- The rules on the magic number and the version.
abbrev pub rules_of_kind : Bytes → List Rule
rules_of_kind f =
    (not (be f 0 4 == 0x5146_49fb), DamagedHeader)
    ∷ (not ((be f 4 4 == 2) || (be f 4 4 == 3)), Unsupported)
    ∷ []

-- The rules on sizes of clusters and refcounts, the header's length, encryption and features.
abbrev pub rules_of_shape : Fields → List Rule
rules_of_shape h =
    (nat_lt h.cluster_bits 9 || nat_lt 21 h.cluster_bits, DamagedHeader)
    ∷ (nat_lt 6 h.refcount_order, DamagedHeader)
    ∷ (is_version_3 h && (nat_lt h.header_length 104 || nat_lt (cluster_size h) h.header_length), DamagedHeader)
    ∷ (not (h.crypt_method == 0), Unsupported)
    ∷ (nat_lt 15 h.incompatible, Unsupported)
    ∷ []

-- The rules on the sizes of the disk and the tables, and on the tables' offsets.
abbrev pub rules_of_size : Fields → List Rule
rules_of_size h =
    (nat_lt (2 ^ 63 - 1) h.size, Limit h.size)
    ∷ (nat_lt (2 ^ 22) h.l1_entries, Limit h.l1_entries)
    ∷ (nat_lt (2 ^ 20) (refcount_table_entries h), Limit (refcount_table_entries h))
    ∷ (not (is_cluster_offset h.cluster_bits h.l1_offset), DamagedHeader)
    ∷ (not (is_cluster_offset h.cluster_bits h.refcount_table_offset), DamagedHeader)
    ∷ []

-- The image has no backing file name if the name's offset or its length is 0.
abbrev pub has_backing_name : Fields → Bool
has_backing_name h = not (h.backing_offset == 0) && not (h.backing_length == 0)

-- The rules for writing, on the dirty bit, the corrupt bit, the autoclear bits and the backing name. The name can't start in bytes 0 to
-- 63: these bytes are written as a whole when the size or a table's offset changes.
abbrev pub rules_of_writing : Bool → Fields → List Rule
rules_of_writing for_writing h =
    (for_writing && (has_bit h.incompatible 0 || has_bit h.incompatible 1 || not (h.autoclear == 0)), Unsupported)
    ∷ (for_writing && has_backing_name h && nat_lt h.backing_offset 64, Unsupported)
    ∷ []

-- The bytes of the backing file's name.
abbrev pub backing_name_of : Bytes → Fields → List ℕ
backing_name_of f h = let name = run f h.backing_offset h.backing_length in name

-- the backing file's name, if any, or the fault: it has at most 1,023 bytes, is inside the first cluster, and is UTF-8
abbrev pub backing_name_read : Bytes → Fields → Result (Option (List ℕ)) Fault
backing_name_read f h =
    let bytes = backing_name_of f h in
    elim (has_backing_name h) [
      | false ↦ Ok None
      | true ↦ elim (nat_lt 1023 h.backing_length || nat_lt (cluster_size h) (h.backing_offset + h.backing_length)) [
        | true ↦ Err DamagedHeader
        | false ↦ if is_utf8 bytes then Ok (Some bytes) else Err DamagedHeader
      ]
    ]

-- a header extension: its type and its data
abbrev pub Extension : Type 0
Extension = ℕ × List ℕ

-- the list with one more extension at the front
abbrev pub with_front : Extension → Result (List Extension) Fault → Result (List Extension) Fault
with_front x (Ok xs) = Ok (x ∷ xs)
with_front x (Err e) = Err e

-- The extensions end at the backing file's name if that is after the header, otherwise at the end of the cluster.
abbrev pub extensions_end : Fields → ℕ
extensions_end h = if has_backing_name h && nat_le h.header_length h.backing_offset then h.backing_offset else cluster_size h

-- the extension at this offset, or a fault if its data ends after the extensions' end
abbrev pub extension_data : Bytes → ℕ → ℕ → Result (Option Extension) Fault
extension_data f end at =
    if nat_lt end (at + 8 + be f (at + 4) 4) then Err DamagedHeader else Ok (Some (be f at 4, run f (at + 8) (be f (at + 4) 4)))

-- The extension at this offset, or none: type 0, or fewer than 8 bytes left, ends the extensions.
unfoldable pub extension_at : Bytes → ℕ → ℕ → Result (Option Extension) Fault
extension_at f end at = if nat_lt end (at + 8) || (be f at 4 == 0) then Ok None else extension_data f end at

-- The next extension follows the data, padded to a multiple of 8 bytes.
abbrev pub after : ℕ → Extension → ℕ
after at x = at + 8 + (length x.1 + 7) / 8 * 8

-- the extension found, and those after it
abbrev pub and_more : (Extension → Result (List Extension) Fault) → Option Extension → Result (List Extension) Fault
and_more more None = Ok []
and_more more (Some x) = with_front x (more x)

-- applies a function to a result, unless the result is a fault
infixl 10 ◌>>=◌
abbrev pub ◌>>=◌ : {A B : Type 0} → Result A Fault → (A → Result B Fault) → Result B Fault
(Ok x) >>= f = f x
(Err e) >>= f = Err e

-- the extensions from this offset on, at most n
unfoldable pub extensions_at : ℕ → Bytes → ℕ → ℕ → Result (List Extension) Fault
extensions_at zero f end at = Ok []
extensions_at (suc n) f end at = extension_at f end at >>= and_more (λ x. extensions_at n f end (after at x))

-- the data of the last extension of this type
abbrev pub last_of : ℕ → List Extension → Option (List ℕ)
last_of kind [] = None
last_of kind (x ∷ xs) = elim (last_of kind xs) [ Some found ↦ Some found | None ↦ if x.0 == kind then Some x.1 else None ]

-- The text must be UTF-8 if the extension exists.
abbrev pub text_read : Option (List ℕ) → Result (Option (List ℕ)) Fault
text_read None = Ok None
text_read (Some bytes) = if is_utf8 bytes then Ok (Some bytes) else Err DamagedHeader

-- A feature name has 48 bytes: the type, the bit, and 46 bytes of text that ends at the first 0. An entry with another type, or with a
-- text that isn't UTF-8, is skipped.
abbrev pub feature_in : List ℕ → List Feature
feature_in (kind ∷ bit ∷ rest) =
    let name = take_while (λ x. not (x == 0)) rest in
    if nat_lt kind 3 && is_utf8 name then record { kind = kind; bit = bit; name = name } ∷ [] else []
feature_in _ = []

-- the features of at most n entries of 48 bytes
abbrev pub features_of : ℕ → List ℕ → List Feature
features_of zero bytes = []
features_of (suc n) bytes = feature_in (take 48 bytes) ++ features_of n (drop 48 bytes)

-- A header lists its feature names by increasing type, and within a type by increasing bit.
abbrev pub comes_before : Feature → Feature → Bool
comes_before x y = nat_lt x.kind y.kind || ((x.kind == y.kind) && nat_lt x.bit y.bit)

-- the names with one more, which replaces a name of the same type and bit
abbrev pub with_name : Feature → List Feature → List Feature
with_name x [] = x ∷ []
with_name x (y ∷ ys) = if comes_before y x then y ∷ with_name x ys else if comes_before x y then x ∷ y ∷ ys else x ∷ ys

-- the names with several more, added one after another: of two with the same type and bit, the last counts
abbrev pub with_names : List Feature → List Feature → List Feature
with_names known [] = known
with_names known (x ∷ xs) = with_names (with_name x known) xs

-- the features of the extension, if any; a rest of less than 48 bytes is skipped
abbrev pub features_read : Option (List ℕ) → List Feature
features_read None = []
features_read (Some bytes) = with_names [] (features_of (length bytes / 48) bytes)

-- Only version 3 has extensions.
abbrev pub extensions_read : Bytes → Fields → Result (List Extension) Fault
extensions_read f h =
    let found = extensions_at (cluster_size h / 8) f (extensions_end h) h.header_length in
    elim (is_version_3 h) [ true ↦ found | false ↦ Ok [] ]

-- the header with its parts of variable length
unfoldable pub texts_of : Bytes → Fields → Result Header Fault
texts_of f h = do
  backing ← backing_name_read f h
  extensions ← extensions_read f h
  format ← text_read (last_of 0xE279_2ACA extensions)
  data_file ← text_read (last_of 0x4441_5441 extensions)
  Ok (record {
    fields = h;
    backing_name = backing;
    backing_format = format;
    data_file_name = data_file;
    features = features_read (last_of 0x6803_F857 extensions);
  })

-- The header of a file, for reading or for writing, or the first fault.
unfoldable pub header_of : Bool → Bytes → Result Header Fault
header_of for_writing f =
    let h = fields_of f in
    let texts = texts_of f h in
    let last = texts >>= λ header. first_fault (rules_of_writing for_writing h) and-then Ok header in
    let sizes = first_fault (rules_of_size h) and-then last in
    let shape = first_fault (rules_of_shape h) and-then sizes in
    first_fault (rules_of_kind f) and-then shape
