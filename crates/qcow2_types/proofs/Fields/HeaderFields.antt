-- The fields of `V2Header` and `V3HeaderBase` as numbers in a file that has their bytes at offsets 0 and 72.
use Rattle.std.proofs.Common.{◌≡◌, ℕ, ◌+◌, ◌<◌, ◌≤◌, ◌^◌, refl, arith, ap, sym, ◌∙◌, List, length, take, drop, get_or}
use Rattle.std.specs.Prelude.{slice_index}
use Rattle.std.specs.Int.{w32, w64, to_be_bytes, from_be_bytes}
use Rattle.std.proofs.lemmas.List.{get_or-take, get_or-drop}
use Rattle.std.proofs.lemmas.Nat.{from_be_bytes-to_be_bytes_4, from_be_bytes-to_be_bytes_8}
use Rattle.qcow2_types.specs.Bytes.{Bytes, bytes_of, be}
use Rattle.qcow2_types.specs.OnDisk.{v2_bytes, v3_bytes, Holds}
use Rattle.qcow2_types.specs.declared.on_disk.V2Header.{V2Header}
use Rattle.qcow2_types.specs.declared.on_disk.V3HeaderBase.{V3HeaderBase}
use Rattle.qcow2_types.proofs.Numbers.Splices.{be-same, be-of-bytes}

pub be-of-bytes_4 : (bytes : List ℕ) → be (bytes_of bytes) 0 4 ≡ from_be_bytes w32 bytes
unfolding be
be-of-bytes_4 bytes = omega arith

-- a list of bytes holds itself at offset 0
pub holds-itself : (bytes : List ℕ) → Holds (bytes_of bytes) 0 bytes
holds-itself bytes k inside = let same : 0 + k ≡ k = omega arith in rw same refl

pub holds-same : (bytes same : List ℕ) → same ≡ bytes → Holds (bytes_of bytes) 0 same
holds-same bytes same e = rw e (holds-itself bytes)

-- the number in a part of the bytes that a file holds
pub part-number : (f : Bytes) (at : ℕ) (bytes part : List ℕ) (i n : ℕ) → Holds f at bytes → i + n ≤ length bytes → take n (drop i bytes) ≡ part
    → be f (at + i) n ≡ be (bytes_of part) 0 n
part-number f at bytes part i n held inside is = be-same f (bytes_of part) (at + i) 0 n (λ k lt.
    let place : at + i + k ≡ at + (i + k) = omega arith in
    let first : 0 + k ≡ k = omega arith in
    let here : f (at + (i + k)) ≡ slice_index bytes (i + k) = held (i + k) (omega arith) in
    let there : get_or (take n (drop i bytes)) k 0 ≡ get_or bytes (i + k) 0 = get_or-take n (drop i bytes) k 0 lt ∙ get_or-drop i bytes k 0 in
    rw (place, first) (here ∙ sym there ∙ ap (λ l. get_or l k 0) is))

-- the number in 4 bytes, or in 8 bytes
pub number-there_4 : (f : Bytes) (at : ℕ) (bytes : List ℕ) (i v : ℕ) → Holds f at bytes → i + 4 ≤ length bytes → take 4 (drop i bytes) ≡ to_be_bytes w32 v
    → v < 2 ^ 32 → be f (at + i) 4 ≡ v
number-there_4 f at bytes i v held inside is fits =
    part-number f at bytes (to_be_bytes w32 v) i 4 held inside is ∙ be-of-bytes_4 (to_be_bytes w32 v) ∙ from_be_bytes-to_be_bytes_4 v fits

pub number-there_8 : (f : Bytes) (at : ℕ) (bytes : List ℕ) (i v : ℕ) → Holds f at bytes → i + 8 ≤ length bytes → take 8 (drop i bytes) ≡ to_be_bytes w64 v
    → v < 2 ^ 64 → be f (at + i) 8 ≡ v
number-there_8 f at bytes i v held inside is fits =
    part-number f at bytes (to_be_bytes w64 v) i 8 held inside is ∙ be-of-bytes (to_be_bytes w64 v) ∙ from_be_bytes-to_be_bytes_8 v fits

pub length-v2_bytes : (h : V2Header) → length (v2_bytes h) ≡ 72
unfolding v2_bytes
length-v2_bytes h = refl

pub length-v3_bytes : (h : V3HeaderBase) → length (v3_bytes h) ≡ 32
unfolding v3_bytes
length-v3_bytes h = refl

module _ (f : Bytes) (h : V2Header) (held : Holds f 0 (v2_bytes h)) where
  pub v2-magic : h.magic < 2 ^ 32 → be f 0 4 ≡ h.magic
  unfolding v2_bytes
  v2-magic = number-there_4 f 0 (v2_bytes h) 0 h.magic held (omega arith) refl

  pub v2-version : h.version < 2 ^ 32 → be f 4 4 ≡ h.version
  unfolding v2_bytes
  v2-version = number-there_4 f 0 (v2_bytes h) 4 h.version held (omega arith) refl

  pub v2-backing_filename_offset : h.backing_filename_offset < 2 ^ 64 → be f 8 8 ≡ h.backing_filename_offset
  unfolding v2_bytes
  v2-backing_filename_offset = number-there_8 f 0 (v2_bytes h) 8 h.backing_filename_offset held (omega arith) refl

  pub v2-backing_filename_size : h.backing_filename_size < 2 ^ 32 → be f 16 4 ≡ h.backing_filename_size
  unfolding v2_bytes
  v2-backing_filename_size = number-there_4 f 0 (v2_bytes h) 16 h.backing_filename_size held (omega arith) refl

  pub v2-cluster_bits : h.cluster_bits < 2 ^ 32 → be f 20 4 ≡ h.cluster_bits
  unfolding v2_bytes
  v2-cluster_bits = number-there_4 f 0 (v2_bytes h) 20 h.cluster_bits held (omega arith) refl

  pub v2-size : h.size < 2 ^ 64 → be f 24 8 ≡ h.size
  unfolding v2_bytes
  v2-size = number-there_8 f 0 (v2_bytes h) 24 h.size held (omega arith) refl

  pub v2-crypt_method : h.crypt_method < 2 ^ 32 → be f 32 4 ≡ h.crypt_method
  unfolding v2_bytes
  v2-crypt_method = number-there_4 f 0 (v2_bytes h) 32 h.crypt_method held (omega arith) refl

  pub v2-l1_size : h.l1_size < 2 ^ 32 → be f 36 4 ≡ h.l1_size
  unfolding v2_bytes
  v2-l1_size = number-there_4 f 0 (v2_bytes h) 36 h.l1_size held (omega arith) refl

  pub v2-l1_table_offset : h.l1_table_offset < 2 ^ 64 → be f 40 8 ≡ h.l1_table_offset
  unfolding v2_bytes
  v2-l1_table_offset = number-there_8 f 0 (v2_bytes h) 40 h.l1_table_offset held (omega arith) refl

  pub v2-refcount_table_offset : h.refcount_table_offset < 2 ^ 64 → be f 48 8 ≡ h.refcount_table_offset
  unfolding v2_bytes
  v2-refcount_table_offset = number-there_8 f 0 (v2_bytes h) 48 h.refcount_table_offset held (omega arith) refl

  pub v2-refcount_table_clusters : h.refcount_table_clusters < 2 ^ 32 → be f 56 4 ≡ h.refcount_table_clusters
  unfolding v2_bytes
  v2-refcount_table_clusters = number-there_4 f 0 (v2_bytes h) 56 h.refcount_table_clusters held (omega arith) refl

  pub v2-nb_snapshots : h.nb_snapshots < 2 ^ 32 → be f 60 4 ≡ h.nb_snapshots
  unfolding v2_bytes
  v2-nb_snapshots = number-there_4 f 0 (v2_bytes h) 60 h.nb_snapshots held (omega arith) refl

  pub v2-snapshots_offset : h.snapshots_offset < 2 ^ 64 → be f 64 8 ≡ h.snapshots_offset
  unfolding v2_bytes
  v2-snapshots_offset = number-there_8 f 0 (v2_bytes h) 64 h.snapshots_offset held (omega arith) refl

module _ (f : Bytes) (h : V3HeaderBase) (held : Holds f 72 (v3_bytes h)) where
  pub v3-incompatible_features : h.incompatible_features < 2 ^ 64 → be f 72 8 ≡ h.incompatible_features
  unfolding v3_bytes
  v3-incompatible_features = number-there_8 f 72 (v3_bytes h) 0 h.incompatible_features held (omega arith) refl

  pub v3-compatible_features : h.compatible_features < 2 ^ 64 → be f 80 8 ≡ h.compatible_features
  unfolding v3_bytes
  v3-compatible_features = number-there_8 f 72 (v3_bytes h) 8 h.compatible_features held (omega arith) refl

  pub v3-autoclear_features : h.autoclear_features < 2 ^ 64 → be f 88 8 ≡ h.autoclear_features
  unfolding v3_bytes
  v3-autoclear_features = number-there_8 f 72 (v3_bytes h) 16 h.autoclear_features held (omega arith) refl

  pub v3-refcount_order : h.refcount_order < 2 ^ 32 → be f 96 4 ≡ h.refcount_order
  unfolding v3_bytes
  v3-refcount_order = number-there_4 f 72 (v3_bytes h) 24 h.refcount_order held (omega arith) refl

  pub v3-header_length : h.header_length < 2 ^ 32 → be f 100 4 ≡ h.header_length
  unfolding v3_bytes
  v3-header_length = number-there_4 f 72 (v3_bytes h) 28 h.header_length held (omega arith) refl
