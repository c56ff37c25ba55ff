-- A new header that fits its first cluster can be written, and loads again.
use Rattle.std.proofs.Common.{◌≡◌, ◌≢◌, ℕ, ◌+◌, ◌*◌, ◌/◌, ◌%◌, ◌^◌, ◌<◌, ◌≤◌, refl, arith, List, [], length, inr, None, Some}
use Rattle.std.specs.Prelude.{Bool, true, false, not, ◌&&◌, ◌==◌, if◌then◌else◌, nat_lt, nat_le, IsTrue, Option, is_some}
use Rattle.std.specs.List.{list_all}
use Rattle.std.specs.Str.{is_utf8, chars}
use Rattle.std.specs.Char.{encode_utf8}
use Rattle.std.proofs.lemmas.Bool.Decides.{nat_tests}
use Rattle.std.proofs.Math.Nat.{pow-le-pow_right, zero-mod}
use Rattle.qcow2_types.specs.Words.{has_bit}
use Rattle.qcow2_types.specs.Header.{first_fault, rules_of_shape, rules_of_size, rules_of_writing}
use Rattle.qcow2_types.specs.HeaderBytes.{new_header, first_features, written_fields, name_bytes, backing_name_offset, extensions_bytes, header_bytes, fits_first_cluster}
use Rattle.qcow2_types.specs.HeaderSwitch.{FirstFieldsFit}
use Rattle.qcow2_metadata.specs.Reloading.{is_plain_name, is_text, IsReloadable}
use Rattle.qcow2_metadata.proofs.Written.{length-header_bytes}

both : (a b : Bool) → (a && b) ≡ true → (a ≡ true) × (b ≡ true)
both true true e = (refl, refl)
both true false e = absurd cc
both false b e = absurd cc

at-most : (m n : ℕ) → nat_le m n ≡ true → m ≤ n
at-most m n e = grind (arith, nat_tests)

module _ (bits order : ℕ) (name format data_file : Option (List ℕ)) (low : 9 ≤ bits) (high : bits ≤ 21) (narrow : order ≤ 6)
    (fits : IsTrue (fits_first_cluster (new_header bits order name format data_file))) where
  cluster : 512 ≤ 2 ^ bits
  cluster = let le : 2 ^ 9 ≤ 2 ^ bits = pow-le-pow_right (omega arith) low in omega arith

  small : 2 ^ bits ≤ 2_097_152
  small = let le : 2 ^ bits ≤ 2 ^ 21 = pow-le-pow_right (omega arith) high in omega arith

  within : length (header_bytes (new_header bits order name format data_file)) ≤ 2 ^ bits
  within = at-most _ _ (both _ _ fits).0

  short : length (name_bytes name) ≤ 1023
  short = at-most _ _ (both _ _ fits).1

  -- The name starts after the fields, or there is no name.
  behind : 104 + length (extensions_bytes (new_header bits order name format data_file)) ≤ 2_097_152
  behind = omega (arith, within, small, length-header_bytes (new_header bits order name format data_file))

  place-low : (t : Option (List ℕ)) → backing_name_offset (new_header bits order name format data_file) t ≤ 2_097_152
  place-low None = omega arith
  place-low (Some x) = behind

  place-behind : (t : Option (List ℕ)) → (not (backing_name_offset (new_header bits order name format data_file) t == 0) && not (length (name_bytes t) == 0) && nat_lt (backing_name_offset (new_header bits order name format data_file) t) 64) ≡ false
  place-behind None = refl
  place-behind (Some x) = last (not (104 + length (extensions_bytes (new_header bits order name format data_file)) == 0)) (not (length x == 0)) (nat_lt (104 + length (extensions_bytes (new_header bits order name format data_file))) 64) (grind (arith, nat_tests))
    where
      last : (a b c : Bool) → c ≡ false → (a && b && c) ≡ false
      last true true c e = e
      last true false c e = refl
      last false b c e = refl

  features : (d : Bool) → nat_lt 15 (if d then 4 else 0) ≡ false
  features true = refl
  features false = refl

  shape : first_fault (rules_of_shape (written_fields (new_header bits order name format data_file))) ≡ None
  unfolding written_fields
  shape =
      let a : nat_lt bits 9 ≡ false = grind (arith, nat_tests) in
      let b : nat_lt 21 bits ≡ false = grind (arith, nat_tests) in
      let c : nat_lt 6 order ≡ false = grind (arith, nat_tests) in
      let d : nat_lt (2 ^ bits) 104 ≡ false = grind (arith, nat_tests, cluster) in
      rw (a, b, c, d, features (is_some data_file)) refl

  sizes : first_fault (rules_of_size (written_fields (new_header bits order name format data_file))) ≡ None
  unfolding written_fields
  sizes =
      let none : 0 * (2 ^ bits / 8) ≡ 0 = omega arith in
      let start : 0 % 2 ^ bits ≡ 0 = zero-mod (2 ^ bits) in
      rw (none, start) refl

  unmarked : (d : Bool) → (has_bit (if d then 4 else 0) 0 ≡ false) × (has_bit (if d then 4 else 0) 1 ≡ false)
  unmarked true = (refl, refl)
  unmarked false = (refl, refl)

  allowed : (writing : Bool) → first_fault (rules_of_writing writing (written_fields (new_header bits order name format data_file))) ≡ None
  unfolding written_fields
  allowed false = refl
  allowed true = rw ((unmarked (is_some data_file)).0, (unmarked (is_some data_file)).1, place-behind name) refl

  names : list_all is_plain_name first_features ≡ true
  unfolding is_utf8 chars encode_utf8
  names = refl

  feature-number : (d : Bool) → (if d then 4 else 0) < 2 ^ 64
  feature-number true = omega arith
  feature-number false = omega arith

  first : FirstFieldsFit (written_fields (new_header bits order name format data_file))
  unfolding written_fields
  first = record {
    version = omega arith;
    backing_offset = omega (arith, place-low name);
    backing_length = omega (arith, short);
    cluster_bits = omega arith;
    size = omega arith;
    crypt_method = omega arith;
    l1_entries = omega arith;
    l1_offset = omega arith;
    refcount_table_offset = omega arith;
    refcount_table_clusters = omega arith;
    snapshots = omega arith;
  }

  pub new-reloadable : name ≢ Some [] → IsTrue (is_text name) → IsTrue (is_text format) → IsTrue (is_text data_file) → (writing : Bool) → IsReloadable writing (new_header bits order name format data_file)
  new-reloadable some text_of_name text_of_format text_of_data writing = record {
    version = inr refl;
    older = λ e. absurd (omega (arith, e));
    first = first;
    later = record { snapshots_offset = omega arith; incompatible = feature-number (is_some data_file); compatible = omega arith; autoclear = omega arith; refcount_order = omega arith };
    shape = shape;
    sizes = sizes;
    allowed = allowed writing;
    fits = fits;
    named = some;
    backing_name = text_of_name;
    backing_format = text_of_format;
    data_file_name = text_of_data;
    names = names;
    ordered = refl;
  }
