-- The fields of a header, from its two parts.
use Rattle.std.proofs.Common.{◌≡◌, ℕ, ◌+◌, ◌-◌, ◌≤◌, refl, arith, ap, sym, ◌∙◌, List, length, length-drop, take, drop}
use Rattle.std.proofs.Math.Seq.{take-length}
use Rattle.std.specs.Prelude.{true, false, ◌==◌}
use Rattle.std.proofs.lemmas.List.{get_or-take, get_or-drop}
use Rattle.std.proofs.lemmas.Bool.Decides.{nat_tests}
use Rattle.qcow2_types.specs.Bytes.{bytes_of, be}
use Rattle.qcow2_types.specs.Header.{fields_of}
use Rattle.qcow2_types.proofs.Numbers.Splices.{be-same}
use Rattle.qcow2_types.specs.declared.on_disk.V2Header.{V2Header}
use Rattle.qcow2_types.specs.declared.on_disk.V3HeaderBase.{V3HeaderBase}
use Rattle.qcow2_metadata.specs.Parts.{IsV2At, IsV3At}
use Rattle.qcow2_metadata.specs.FieldsView.{seen_fields, older_base}

pub be-take : (s : List ℕ) (m i n : ℕ) → i + n ≤ m → be (bytes_of (take m s)) i n ≡ be (bytes_of s) i n
be-take s m i n le = be-same (bytes_of (take m s)) (bytes_of s) i i n (λ k lt. get_or-take m s (i + k) 0 (omega arith))

pub be-drop : (s : List ℕ) (m i n : ℕ) → be (bytes_of (drop m s)) i n ≡ be (bytes_of s) (m + i) n
be-drop s m i n = be-same (bytes_of (drop m s)) (bytes_of s) i (m + i) n (λ k lt. let place : m + (i + k) ≡ m + i + k = omega arith in rw (← place) (get_or-drop m s (i + k) 0))

pub rest-taken : (s : List ℕ) (m : ℕ) → take (length s - m) (drop m s) ≡ drop m s
rest-taken s m = ap (λ n. take n (drop m s)) (sym (length-drop m s)) ∙ take-length (drop m s)

pub v2-at-start : (s : List ℕ) (h : V2Header) → IsV2At (bytes_of (take 72 s)) h → IsV2At (bytes_of s) h
v2-at-start s h part = record {
  magic = part.magic ∙ be-take s 72 0 4 (omega arith);
  version = part.version ∙ be-take s 72 4 4 (omega arith);
  backing_filename_offset = part.backing_filename_offset ∙ be-take s 72 8 8 (omega arith);
  backing_filename_size = part.backing_filename_size ∙ be-take s 72 16 4 (omega arith);
  cluster_bits = part.cluster_bits ∙ be-take s 72 20 4 (omega arith);
  size = part.size ∙ be-take s 72 24 8 (omega arith);
  crypt_method = part.crypt_method ∙ be-take s 72 32 4 (omega arith);
  l1_size = part.l1_size ∙ be-take s 72 36 4 (omega arith);
  l1_table_offset = part.l1_table_offset ∙ be-take s 72 40 8 (omega arith);
  refcount_table_offset = part.refcount_table_offset ∙ be-take s 72 48 8 (omega arith);
  refcount_table_clusters = part.refcount_table_clusters ∙ be-take s 72 56 4 (omega arith);
  nb_snapshots = part.nb_snapshots ∙ be-take s 72 60 4 (omega arith);
  snapshots_offset = part.snapshots_offset ∙ be-take s 72 64 8 (omega arith);
}

-- The fields of version 3, from the two parts.
pub newer-fields : (s : List ℕ) (v2 : V2Header) (v3 : V3HeaderBase) → IsV2At (bytes_of s) v2 → IsV3At (bytes_of (drop 72 s)) v3 → v2.version ≡ 3 → seen_fields v2 v3 ≡ fields_of (bytes_of s)
unfolding fields_of
newer-fields s v2 v3 first second newer =
    let test : (be (bytes_of s) 4 4 == 3) ≡ true = let e : be (bytes_of s) 4 4 ≡ 3 = sym first.version ∙ newer in grind (arith, nat_tests) in
    rw (
      test,
      first.version,
      first.backing_filename_offset,
      first.backing_filename_size,
      first.cluster_bits,
      first.size,
      first.crypt_method,
      first.l1_size,
      first.l1_table_offset,
      first.refcount_table_offset,
      first.refcount_table_clusters,
      first.nb_snapshots,
      first.snapshots_offset,
      second.incompatible_features ∙ be-drop s 72 0 8,
      second.compatible_features ∙ be-drop s 72 8 8,
      second.autoclear_features ∙ be-drop s 72 16 8,
      second.refcount_order ∙ be-drop s 72 24 4,
      second.header_length ∙ be-drop s 72 28 4,
    ) refl

-- The fields of another version.
pub older-fields : (s : List ℕ) (v2 : V2Header) → IsV2At (bytes_of s) v2 → (v2.version == 3) ≡ false → seen_fields v2 older_base ≡ fields_of (bytes_of s)
unfolding fields_of
older-fields s v2 first older =
    let test : (be (bytes_of s) 4 4 == 3) ≡ false = rw (← first.version) older in
    rw (
      test,
      first.version,
      first.backing_filename_offset,
      first.backing_filename_size,
      first.cluster_bits,
      first.size,
      first.crypt_method,
      first.l1_size,
      first.l1_table_offset,
      first.refcount_table_offset,
      first.refcount_table_clusters,
      first.nb_snapshots,
      first.snapshots_offset,
    ) refl
