-- The properties of each cluster of a consistent image, and the conditions under which an image is consistent.
use Rattle.std.proofs.Common.{◌≡◌, ◌≢◌, ℕ, ◌+◌, ◌*◌, ◌^◌, ◌<◌, ◌≤◌, refl, arith, subst, inl, inr, Ok}
use Rattle.std.specs.Prelude.{Bool, true, false, not, ◌&&◌, ◌==◌, nat_lt, IsFalse, None}
use Rattle.std.proofs.lemmas.Bool.{cases_eq, cases_lt, le-ltb}
use Rattle.std.proofs.lemmas.Bool.Decides.{nat_tests}
use Rattle.std.proofs.lemmas.Nat.{pow_pos, le-div}
use Rattle.std.proofs.Math.Nat.{pow-le-pow_right, mul-le-mul_right}
use Rattle.qcow2_types.specs.Bytes.{Bytes}
use Rattle.qcow2_types.specs.Header.{Fields, Header, Shaped, header_of, fields_of, texts_of, cluster_size, entries_of_cluster, has_external_data, first_fault, rules_of_kind, rules_of_shape, rules_of_size, rules_of_writing}
use Rattle.qcow2_types.specs.Counts.{count}
use Rattle.qcow2_types.specs.Slots.{ValidEntries}
use Rattle.qcow2_types.specs.Frames.{Same}
use Rattle.qcow2_types.specs.References.{structure, contents, of_mapping, of_copied, meets, refs}
use Rattle.qcow2_types.specs.Consistency.{IsConsistent, shares_structure, is_false_copied, is_under_counted}
use Rattle.qcow2_types.proofs.Counting.Named.{structure-le-refs, copied-le-refs}
use Rattle.qcow2_types.proofs.Fields.HeaderFrame.{header-same, header-fields, and-then-ok, and-then-none, bind-ok}
use Rattle.qcow2_types.proofs.Fields.HeaderLimits.{fields-shaped}
use Rattle.qcow2_types.proofs.Counting.Sound.{words-sound}

-- A header that loads for writing loads for reading.
pub header-reading : (f : Bytes) (H : Header) → header_of true f ≡ Ok H → header_of false f ≡ Ok H
unfolding header_of
header-reading f H loads =
    let shape = and-then-ok (first_fault (rules_of_kind f)) _ H loads in
    let sizes = and-then-ok (first_fault (rules_of_shape (fields_of f))) _ H shape in
    let last = and-then-ok (first_fault (rules_of_size (fields_of f))) _ H sizes in
    let texts = bind-ok (texts_of f (fields_of f)) _ H last in
    let kind' : first_fault (rules_of_kind f) ≡ None = and-then-none (first_fault (rules_of_kind f)) _ H loads in
    let shape' : first_fault (rules_of_shape (fields_of f)) ≡ None = and-then-none (first_fault (rules_of_shape (fields_of f))) _ H shape in
    let sizes' : first_fault (rules_of_size (fields_of f)) ≡ None = and-then-none (first_fault (rules_of_size (fields_of f))) _ H sizes in
    let done : Ok texts.0 ≡ Ok H = and-then-ok (first_fault (rules_of_writing true (fields_of f))) (Ok texts.0) H texts.2 in
    rw (kind', shape', sizes', texts.1) done

-- a header depends only on the first cluster
pub header-kept : (writing : Bool) (f g : Bytes) (H : Header) → header_of writing f ≡ Ok H → Same f g 0 (cluster_size H.fields) → header_of writing g ≡ Ok H
header-kept writing f g H loads same =
    let shaped : Shaped H.fields = fields-shaped writing f H loads in
    let fields : H.fields ≡ fields_of f = header-fields writing f H loads in
    let size : 2 ^ 9 ≤ 2 ^ H.fields.cluster_bits = pow-le-pow_right (omega arith) shaped.low in
    header-same writing f g H loads (subst (λ h. Same f g 0 (cluster_size h)) fields same) (subst (λ h. 104 ≤ cluster_size h) fields (omega arith))

-- a table of one cluster has at least one entry
pub some-words : (h : Fields) → Shaped h → 0 < entries_of_cluster h
some-words h shaped =
    let size : 2 ^ 9 ≤ 2 ^ h.cluster_bits = pow-le-pow_right (omega arith) shaped.low in
    le-div 1 (cluster_size h) 8 (omega arith) (omega arith)

-- The range of a cluster has bytes in this cluster, and in no other.
pub meets-own : (h : Fields) (c : ℕ) → meets h c (c * cluster_size h) (cluster_size h) ≡ 1
meets-own h c = let pos : 0 < cluster_size h = pow_pos h.cluster_bits in grind (arith, nat_tests)

pub meets-other : (h : Fields) (c d : ℕ) → d ≢ c → meets h c (d * cluster_size h) (cluster_size h) ≡ 0
meets-other h c d apart = elim (cases_lt d c) [
  | inl lt ↦
      let lt' : d + 1 ≤ c = omega arith in
      let below : (d + 1) * cluster_size h ≤ c * cluster_size h = mul-le-mul_right (cluster_size h) lt' in
      let test : d * cluster_size h + cluster_size h ≤ c * cluster_size h = omega arith in
      grind (arith, nat_tests)
  | inr le ↦
      let le' : c + 1 ≤ d = omega arith in
      let above : (c + 1) * cluster_size h ≤ d * cluster_size h = mul-le-mul_right (cluster_size h) le' in
      grind (arith, nat_tests)
]

module _ (f : Bytes) (H : Header) (was : IsConsistent f H) where
  pub consistent-shaped : Shaped H.fields
  consistent-shaped = fields-shaped true f H was.readable.loads

  -- a cluster of the structure is referenced once
  pub structure-named-once : (c : ℕ) → 0 < structure f H.fields (meets H.fields c) → refs f H.fields c ≡ 1
  unfolding shares_structure
  structure-named-once c some =
      let apart : (nat_lt 0 (structure f H.fields (meets H.fields c)) && not (refs f H.fields c == 1)) ≡ false = was.structure_apart c in
      grind (arith, nat_tests)

  -- and no mapping references it
  pub structure-unmapped : (c : ℕ) → 0 < structure f H.fields (meets H.fields c) → contents f H.fields (of_mapping H.fields (meets H.fields c)) ≡ 0
  unfolding refs
  structure-unmapped c some =
      let once : structure f H.fields (meets H.fields c) + contents f H.fields (of_mapping H.fields (meets H.fields c)) ≡ 1 = structure-named-once c some in
      omega arith

  -- a COPIED cluster is referenced once
  pub copied-named-once : (c : ℕ) → 0 < contents f H.fields (of_copied H.fields (meets H.fields c)) → refs f H.fields c ≡ 1
  unfolding is_false_copied
  copied-named-once c some =
      let apart : (nat_lt 0 (contents f H.fields (of_copied H.fields (meets H.fields c))) && not (refs f H.fields c == 1)) ≡ false = was.copied_apart c in
      grind (arith, nat_tests)

  -- each refcount covers the references
  pub named-counted : (c : ℕ) → refs f H.fields c ≤ count f H.fields c
  unfolding is_under_counted
  named-counted c =
      let test : nat_lt (count f H.fields c) (refs f H.fields c) ≡ false = was.counted c in
      grind (arith, nat_tests)

-- An image is consistent if these conditions are true of each cluster.
pub consistent-from : (g : Bytes) (H : Header) → header_of true g ≡ Ok H → H.fields.snapshots ≡ 0 → IsFalse (has_external_data H.fields) → ValidEntries g H.fields
    → ((c : ℕ) → 0 < structure g H.fields (meets H.fields c) → refs g H.fields c ≤ 1)
    → ((c : ℕ) → 0 < contents g H.fields (of_copied H.fields (meets H.fields c)) → refs g H.fields c ≤ 1)
    → ((c : ℕ) → refs g H.fields c ≤ count g H.fields c) → IsConsistent g H
unfolding shares_structure is_false_copied is_under_counted
consistent-from g H loads snapshots inside sound apart copied counted = record {
  readable = record { loads = loads; no_snapshots = snapshots; data_inside = inside; tables = words-sound g H.fields sound };
  structure_apart = λ c. alone c;
  copied_apart = λ c. single c;
  counted = λ c. covered c;
}
  where
    alone : (c : ℕ) → IsFalse (shares_structure g H.fields c)
    alone c = elim (cases_eq (structure g H.fields (meets H.fields c)) 0) [
      | inl e ↦ let none : nat_lt 0 (structure g H.fields (meets H.fields c)) ≡ false = le-ltb _ _ (omega arith) in rw none refl
      | inr some ↦
          let there : structure g H.fields (meets H.fields c) ≢ 0 = some in
          let most : refs g H.fields c ≤ 1 = apart c (omega arith) in
          let least : structure g H.fields (meets H.fields c) ≤ refs g H.fields c = structure-le-refs g H.fields c in
          let e : refs g H.fields c ≡ 1 = omega arith in
          grind (arith, nat_tests)
    ]

    single : (c : ℕ) → IsFalse (is_false_copied g H.fields c)
    single c = elim (cases_eq (contents g H.fields (of_copied H.fields (meets H.fields c))) 0) [
      | inl e ↦ let none : nat_lt 0 (contents g H.fields (of_copied H.fields (meets H.fields c))) ≡ false = le-ltb _ _ (omega arith) in rw none refl
      | inr some ↦
          let there : contents g H.fields (of_copied H.fields (meets H.fields c)) ≢ 0 = some in
          let most : refs g H.fields c ≤ 1 = copied c (omega arith) in
          let least : contents g H.fields (of_copied H.fields (meets H.fields c)) ≤ refs g H.fields c = copied-le-refs g H.fields c in
          let e : refs g H.fields c ≡ 1 = omega arith in
          grind (arith, nat_tests)
    ]

    covered : (c : ℕ) → IsFalse (is_under_counted g H.fields c)
    covered c = le-ltb _ _ (counted c)
