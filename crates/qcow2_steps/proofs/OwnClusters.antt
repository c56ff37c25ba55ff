-- A COPIED cluster is referenced by only one entry, in the file and in memory.
use Rattle.std.proofs.Common.{◌≡◌, ◌≢◌, ℕ, ◌+◌, ◌*◌, ◌<◌, ◌≤◌, arith, ap, ◌∙◌, inl, inr}
use Rattle.std.specs.Prelude.{◌⊎◌, max}
use Rattle.std.proofs.Math.Nat.{le-max_left, le-max_right}
use Rattle.std.proofs.lemmas.Bool.{cases_eq}
use Rattle.qcow2_types.specs.Bytes.{Bytes}
use Rattle.qcow2_types.specs.Entries.{l2_table}
use Rattle.qcow2_types.specs.Header.{Fields, entries_of_cluster}
use Rattle.qcow2_types.specs.References.{meets, of_copied, of_mapping, structure}
use Rattle.qcow2_types.specs.Slots.{Live, slot}
use Rattle.qcow2_types.specs.Versions.{copied, references_in_either, of_either}
use Rattle.qcow2_types.proofs.Changes.DataWrites.{alone-slot, alone-structure}
use Rattle.qcow2_types.proofs.Counting.Named.{copied-named}
use Rattle.qcow2_types.proofs.Counting.Slots.{slot-le}
use Rattle.qcow2_alloc.specs.GuestView.{Metadata, IsSound, in_memory, referenced_at_all}
use Rattle.qcow2_steps.specs.Data.{IsReferencedFor}

-- COPIED references of one entry are COPIED references of the image.
copied-by : (f g : Bytes) (h : Fields) (c i j : ℕ) → Live (l2_table f h) h i j → 0 < of_copied h (meets h c) (slot f h i j) + of_copied h (meets h c) (slot g h i j) → 0 < copied f g h c
unfolding copied
copied-by f g h c i j live some =
    let all = slot-le (l2_table f h) h (λ k n. max (of_copied h (meets h c) (slot f h k n)) (of_copied h (meets h c) (slot g h k n))) i j live in
    let left = le-max_left (of_copied h (meets h c) (slot f h i j)) (of_copied h (meets h c) (slot g h i j)) in
    let right = le-max_right (of_copied h (meets h c) (slot f h i j)) (of_copied h (meets h c) (slot g h i j)) in
    omega (arith, all, left, right, some)

-- A COPIED reference is a reference.
either-names : (f g : Bytes) (h : Fields) (c i j : ℕ) → 0 < of_copied h (meets h c) (slot f h i j) + of_copied h (meets h c) (slot g h i j) → 1 ≤ of_either h (meets h c) (slot f h i j) (slot g h i j)
either-names f g h c i j some =
    let one = copied-named h (meets h c) (slot f h i j) in
    let two = copied-named h (meets h c) (slot g h i j) in
    let left = le-max_left (of_mapping h (meets h c) (slot f h i j)) (of_mapping h (meets h c) (slot g h i j)) in
    let right = le-max_right (of_mapping h (meets h c) (slot f h i j)) (of_mapping h (meets h c) (slot g h i j)) in
    omega (arith, one, two, left, right, some)

-- An entry of another guest cluster is another entry.
other-word : (e i j k n : ℕ) → k * e + n ≢ i * e + j → (k ≢ i) ⊎ (n ≢ j)
other-word e i j k n apart = elim (cases_eq k i) [
  | inl row ↦ inr (λ column. apart (ap (λ r. r * e + n) row ∙ ap (λ s. i * e + s) column))
  | inr rows ↦ inl rows
]

pub named-alone : (m : Metadata) (i j c : ℕ) → IsSound m → Live (l2_table m.file m.header.fields) m.header.fields i j
    → 0 < of_copied m.header.fields (meets m.header.fields c) (slot m.file m.header.fields i j) + of_copied m.header.fields (meets m.header.fields c) (slot (in_memory m) m.header.fields i j)
    → IsReferencedFor m (i * entries_of_cluster m.header.fields + j) c × (structure m.file m.header.fields (meets m.header.fields c) ≡ 0)
named-alone m i j c sound live some =
    let marked = copied-by m.file (in_memory m) m.header.fields c i j live some in
    let once : references_in_either m.file (in_memory m) m.header.fields c ≤ 1 = sound.well_formed.apart c (omega (arith, marked)) in
    let here = either-names m.file (in_memory m) m.header.fields c i j some in (
      λ k n live' apart. alone-slot m.file (in_memory m) m.header.fields c i j once live here k n live' (other-word (entries_of_cluster m.header.fields) i j k n apart),
      alone-structure m.file (in_memory m) m.header.fields c i j once live here,
    )

-- If a cluster has no references, no entry references it.
unnamed-slot : (f g : Bytes) (h : Fields) (c : ℕ) → references_in_either f g h c ≡ 0 → ((i j : ℕ) → Live (l2_table f h) h i j → of_either h (meets h c) (slot f h i j) (slot g h i j) ≡ 0) × (structure f h (meets h c) ≡ 0)
unfolding references_in_either
unnamed-slot f g h c none = (
  λ i j live. let all = slot-le (l2_table f h) h (λ k n. of_either h (meets h c) (slot f h k n) (slot g h k n)) i j live in omega (arith, all, none),
  omega (arith, none),
)

pub unnamed-for : (m : Metadata) (guest c : ℕ) → referenced_at_all m c ≡ 0 → IsReferencedFor m guest c × (structure m.file m.header.fields (meets m.header.fields c) ≡ 0)
unnamed-for m guest c none = let both = unnamed-slot m.file (in_memory m) m.header.fields c none in (λ i j live apart. both.0 i j live, both.1)
