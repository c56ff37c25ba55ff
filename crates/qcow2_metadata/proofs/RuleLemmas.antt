-- The rules on the fields of a header, one after another.
use Rattle.std.proofs.Common.{◌≡◌, refl, arith, sym, subst, [], Some, None}
use Rattle.std.specs.Prelude.{Bool, true, false, not, ◌==◌, ◌||◌, nat_lt, drop, IsTrue, Option}
use Rattle.std.proofs.lemmas.Bool.Decides.{nat_tests}
use Rattle.imago_storage.specs.declared.fault.Fault.{Fault}
use Rattle.imago_storage.specs.declared.fault.Fault.TheVariants.{DamagedHeader, Unsupported}
use Rattle.qcow2_types.specs.Bytes.{Bytes, be}
use Rattle.qcow2_types.specs.Header.{Fields, Shaped, fields_of, first_fault, rules_of_kind, rules_of_shape, rules_of_size}
use Rattle.qcow2_types.proofs.Fields.HeaderFrame.{two-passed}
use Rattle.qcow2_metadata.specs.Loading.{fields_fault}

-- The rules on the magic number and the version are kept.
pub kind-passed : (f : Bytes) → None ≡ first_fault (rules_of_kind f) → (be f 0 4 ≡ 0x5146_49fb) × IsTrue ((be f 4 4 == 2) || (be f 4 4 == 3))
kind-passed f passed =
    let tests = two-passed (not (be f 0 4 == 0x5146_49fb)) (not ((be f 4 4 == 2) || (be f 4 4 == 3))) DamagedHeader Unsupported [] (sym passed) in
    let magic : not (be f 0 4 == 0x5146_49fb) ≡ false = tests.0 in
    (grind (arith, nat_tests), not-not _ tests.1)
  where
    not-not : (b : Bool) → not b ≡ false → IsTrue b
    not-not true e = refl
    not-not false e = cc

-- The rules on widths are kept.
pub shape-passed : (h : Fields) → None ≡ first_fault (rules_of_shape h) → Shaped h
shape-passed h passed =
    let tests = two-passed (nat_lt h.cluster_bits 9 || nat_lt 21 h.cluster_bits) (nat_lt 6 h.refcount_order) DamagedHeader DamagedHeader (drop 2 (rules_of_shape h)) (sym passed) in
    let b : (nat_lt h.cluster_bits 9 || nat_lt 21 h.cluster_bits) ≡ false = tests.0 in
    let o : nat_lt 6 h.refcount_order ≡ false = tests.1 in
    record { order = grind (arith, nat_tests); low = grind (arith, nat_tests); high = grind (arith, nat_tests) }

-- The first broken rule is one on the magic number and the version,
pub fault-kind : (f : Bytes) (e : Fault) → Some e ≡ first_fault (rules_of_kind f) → Some e ≡ fields_fault f
unfolding fields_fault
fault-kind f e kind = rw (← kind) refl

-- one on the widths,
pub fault-shape : (f : Bytes) (h : Fields) (e : Fault) → h ≡ fields_of f → None ≡ first_fault (rules_of_kind f) → Some e ≡ first_fault (rules_of_shape h) → Some e ≡ fields_fault f
unfolding fields_fault
fault-shape f h e same kind shape = let broken : Some e ≡ first_fault (rules_of_shape (fields_of f)) = subst (λ (r : Fields). Some e ≡ first_fault (rules_of_shape r)) same shape in rw (← kind, ← broken) refl

-- or one on the sizes, if any is broken.
pub fault-sizes : (f : Bytes) (h : Fields) (answer : Option Fault) → h ≡ fields_of f → None ≡ first_fault (rules_of_kind f) → None ≡ first_fault (rules_of_shape h) → answer ≡ first_fault (rules_of_size h) → answer ≡ fields_fault f
unfolding fields_fault
fault-sizes f h answer same kind shape sizes =
    let kept : None ≡ first_fault (rules_of_shape (fields_of f)) = subst (λ (r : Fields). None ≡ first_fault (rules_of_shape r)) same shape in
    let last : answer ≡ first_fault (rules_of_size (fields_of f)) = subst (λ (r : Fields). answer ≡ first_fault (rules_of_size r)) same sizes in
    rw (← kind, ← kept) last
