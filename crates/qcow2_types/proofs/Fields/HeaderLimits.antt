-- The limits that every header that loads keeps.
use Rattle.std.proofs.Common.{◌≡◌, ℕ, ◌-◌, ◌/◌, ◌%◌, ◌^◌, ◌<◌, ◌≤◌, refl, arith, sym, subst, Ok, List, [], ◌∷◌}
use Rattle.std.specs.Prelude.{Bool, true, false, not, ◌==◌, ◌||◌, None, nat_lt, drop}
use Rattle.std.proofs.lemmas.Bool.{le-ltb}
use Rattle.std.proofs.lemmas.Bool.Decides.{nat_tests}
use Rattle.std.proofs.lemmas.Nat.{mod_below, pow_pos}
use Rattle.std.proofs.Math.Nat.{pow-le-pow_right}
use Rattle.imago_storage.specs.declared.fault.Fault.{Fault}
use Rattle.imago_storage.specs.declared.fault.Fault.TheVariants.{DamagedHeader, Unsupported, Limit}
use Rattle.qcow2_types.specs.Bytes.{Bytes, be}
use Rattle.qcow2_types.specs.Words.{table_offset, is_cluster_offset}
use Rattle.qcow2_types.specs.Header.{Fields, Header, Shaped, Limited, Rule, header_of, fields_of, cluster_size, refcount_table_entries, first_fault, rules_of_kind, rules_of_shape, rules_of_size}
use Rattle.qcow2_types.specs.Counts.{counter_bits}
use Rattle.qcow2_types.proofs.Fields.HeaderFrame.{header-fields, header-shaped, and-then-ok, and-then-none, two-passed}

pub fields-shaped : (writing : Bool) (f : Bytes) (H : Header) → header_of writing f ≡ Ok H → Shaped H.fields
fields-shaped writing f H loads = subst Shaped (sym (header-fields writing f H loads)) (header-shaped writing f H loads)

pub header-magic : (writing : Bool) (f : Bytes) (H : Header) → header_of writing f ≡ Ok H → be f 0 4 ≡ 0x5146_49fb
unfolding header_of
header-magic writing f H loads =
    let passed : first_fault (rules_of_kind f) ≡ None = and-then-none (first_fault (rules_of_kind f)) _ H loads in
    let tests = two-passed (not (be f 0 4 == 0x5146_49fb)) (not ((be f 4 4 == 2) || (be f 4 4 == 3))) DamagedHeader Unsupported [] passed in
    let here : not (be f 0 4 == 0x5146_49fb) ≡ false = tests.0 in
    grind (arith, nat_tests)

pub least-cluster : (writing : Bool) (f : Bytes) (H : Header) → header_of writing f ≡ Ok H → 512 ≤ cluster_size H.fields
least-cluster writing f H loads =
    let shaped : Shaped H.fields = fields-shaped writing f H loads in
    let le : 2 ^ 9 ≤ 2 ^ H.fields.cluster_bits = pow-le-pow_right (omega arith) shaped.low in
    omega arith

pub greatest-cluster : (writing : Bool) (f : Bytes) (H : Header) → header_of writing f ≡ Ok H → cluster_size H.fields ≤ 2_097_152
greatest-cluster writing f H loads =
    let shaped : Shaped H.fields = fields-shaped writing f H loads in
    let le : 2 ^ H.fields.cluster_bits ≤ 2 ^ 21 = pow-le-pow_right (omega arith) shaped.high in
    omega arith

pub least-width : (writing : Bool) (f : Bytes) (H : Header) → header_of writing f ≡ Ok H → 1 ≤ counter_bits H.fields
least-width writing f H loads = let some : 0 < 2 ^ H.fields.refcount_order = pow_pos H.fields.refcount_order in omega arith

pub greatest-width : (writing : Bool) (f : Bytes) (H : Header) → header_of writing f ≡ Ok H → counter_bits H.fields ≤ 64
greatest-width writing f H loads =
    let shaped : Shaped H.fields = fields-shaped writing f H loads in
    let le : 2 ^ H.fields.refcount_order ≤ 2 ^ 6 = pow-le-pow_right (omega arith) shaped.order in
    omega arith

-- the offset of an L1 entry or a standard L2 entry is at most the largest
pub place-low : (w : ℕ) → table_offset w ≤ 0x00ff_ffff_ffff_fe00
place-low w = let few : w / 2 ^ 9 % 2 ^ 47 < 2 ^ 47 = mod_below (w / 2 ^ 9) (2 ^ 47) (pow_pos 47) in omega arith

-- If no rule is broken, neither the first one nor a later one is.
passed-first : (broken : Bool) (refusal : Fault) (rest : List Rule) → first_fault ((broken, refusal) ∷ rest) ≡ None → (broken ≡ false) × (first_fault rest ≡ None)
passed-first true refusal rest none = absurd cc
passed-first false refusal rest none = (refl, none)

-- Fields that pass the rules on sizes are within the limits, and the reverse.
pub fields-limited : (h : Fields) → first_fault (rules_of_size h) ≡ None → Limited h
fields-limited h passed =
    let a = passed-first (nat_lt (2 ^ 63 - 1) h.size) (Limit h.size) (drop 1 (rules_of_size h)) passed in
    let b = passed-first (nat_lt (2 ^ 22) h.l1_entries) (Limit h.l1_entries) (drop 2 (rules_of_size h)) a.1 in
    let c = passed-first (nat_lt (2 ^ 20) (refcount_table_entries h)) (Limit (refcount_table_entries h)) (drop 3 (rules_of_size h)) b.1 in
    let d = passed-first (not (is_cluster_offset h.cluster_bits h.l1_offset)) DamagedHeader (drop 4 (rules_of_size h)) c.1 in
    let e = passed-first (not (is_cluster_offset h.cluster_bits h.refcount_table_offset)) DamagedHeader (drop 5 (rules_of_size h)) d.1 in
    let size : h.size ≤ 2 ^ 63 - 1 = at-most (2 ^ 63 - 1) h.size a.0 in
    record {
      size = omega arith;
      l1_entries = at-most (2 ^ 22) h.l1_entries b.0;
      refcount_entries = at-most (2 ^ 20) (refcount_table_entries h) c.0;
      l1_place = not-not (is_cluster_offset h.cluster_bits h.l1_offset) d.0;
      refcount_place = not-not (is_cluster_offset h.cluster_bits h.refcount_table_offset) e.0;
    }
  where
    not-not : (b : Bool) → not b ≡ false → b ≡ true
    not-not true e = refl
    not-not false e = cc

    at-most : (m n : ℕ) → nat_lt m n ≡ false → n ≤ m
    at-most m n e = grind (arith, nat_tests)

pub limited-fields : (h : Fields) → Limited h → first_fault (rules_of_size h) ≡ None
limited-fields h limited =
    let n : h.size < 2 ^ 63 = limited.size in
    let size : nat_lt (2 ^ 63 - 1) h.size ≡ false = le-ltb (2 ^ 63 - 1) h.size (omega arith) in
    let l1 : nat_lt (2 ^ 22) h.l1_entries ≡ false = le-ltb (2 ^ 22) h.l1_entries limited.l1_entries in
    let counts : nat_lt (2 ^ 20) (refcount_table_entries h) ≡ false = le-ltb (2 ^ 20) (refcount_table_entries h) limited.refcount_entries in
    rw (size, l1, counts, limited.l1_place, limited.refcount_place) refl

pub header-limited : (writing : Bool) (f : Bytes) (H : Header) → header_of writing f ≡ Ok H → Limited H.fields
unfolding header_of
header-limited writing f H loads = subst Limited (sym (header-fields writing f H loads)) limited
  where
    limited : Limited (fields_of f)
    limited =
        let shape = and-then-ok (first_fault (rules_of_kind f)) _ H loads in
        let sizes = and-then-ok (first_fault (rules_of_shape (fields_of f))) _ H shape in
        let passed : first_fault (rules_of_size (fields_of f)) ≡ None = and-then-none (first_fault (rules_of_size (fields_of f))) _ H sizes in
        fields-limited (fields_of f) passed
