-- Each file that flushes leave shows the image.
use Rattle.std.proofs.Common.{◌≡◌, ◌≢◌, ℕ, ◌+◌, ◌-◌, ◌*◌, ◌/◌, ◌<◌, ◌≤◌, refl, arith, sym, subst, ◌∙◌, List, inl, inr}
use Rattle.std.specs.Prelude.{◌⊎◌}
use Rattle.std.specs.List.{AllByRecursion}
use Rattle.std.proofs.lemmas.Bool.{cases_lt}
use Rattle.std.proofs.lemmas.Bool.Decides.{nat_tests}
use Rattle.std.proofs.lemmas.Nat.{pow_pos}
use Rattle.std.proofs.Math.Nat.{div-mul-le_self, lt-div-mul-add, le-max_left, le-max_right}
use Rattle.qcow2_types.specs.Bytes.{Bytes, raw_entry, Patch}
use Rattle.qcow2_types.specs.Words.{Mapping}
use Rattle.qcow2_types.specs.Header.{Fields, Header, cluster_size}
use Rattle.qcow2_types.specs.Entries.{l2_table}
use Rattle.qcow2_types.specs.Consistency.{IsConsistent}
use Rattle.qcow2_types.specs.Frames.{Same, touches}
use Rattle.qcow2_types.specs.References.{Weight, structure, of_mapping, meets}
use Rattle.qcow2_types.specs.Slots.{slot, Live, over_slots}
use Rattle.qcow2_types.specs.Versions.{of_either, references_in_either, ReferencedOnce}
use Rattle.qcow2_types.proofs.Changes.Frames.{touches-cluster, word-same}
use Rattle.qcow2_types.proofs.Counting.Named.{of_mapping-mono}
use Rattle.qcow2_types.proofs.Changes.Over.{IsClear, over-clear}
use Rattle.qcow2_types.proofs.Counting.Parts.{Part, header, l1_table, refcount_table, block_of, table_of, IsPart, one-part}
use Rattle.qcow2_types.proofs.Changes.Patches.{part_place, IsPatch}
use Rattle.qcow2_types.proofs.Counting.Slots.{slot-le}
use Rattle.qcow2_alloc.specs.declared.cache.CacheDependency.{CacheDependency}
use Rattle.qcow2_alloc.specs.Memory.{Cached, patches, memory}
use Rattle.qcow2_alloc.specs.WellFormedness.{WellFormed, IsCrashImage}
use Rattle.qcow2_alloc.specs.GuestView.{Metadata, in_memory, IsSound, ShowsEither}
use Rattle.qcow2_alloc.proofs.Flushing.WriteSequences.{left-same}
use Rattle.qcow2_alloc.proofs.Memory.MemoryImage.{range-stays}
use Rattle.qcow2_alloc.proofs.Memory.Patches.{all-weaker, patches-are}

low : (h : Fields) (p : ℕ) → p / cluster_size h * cluster_size h ≤ p
low h p = div-mul-le_self p (cluster_size h)

high : (h : Fields) (p : ℕ) → p + 1 ≤ (p / cluster_size h + 1) * cluster_size h
high h p = let lt : p < p / cluster_size h * cluster_size h + cluster_size h = lt-div-mul-add (pow_pos h.cluster_bits) in omega (arith, lt)

pub mapping-meets : (h : Fields) (p : ℕ) (m : Mapping) → of_mapping h (touches p 1) m ≤ of_mapping h (meets h (p / cluster_size h)) m
mapping-meets h p m = of_mapping-mono h (touches p 1) (meets h (p / cluster_size h)) (touches-cluster h (p / cluster_size h) p 1 (low h p) (high h p)) m

pub in-cluster : (h : Fields) (f g : Bytes) (p : ℕ) → Same f g (p / cluster_size h * cluster_size h) (cluster_size h) → g p ≡ f p
in-cluster h f g p same =
    let at : p / cluster_size h * cluster_size h + (p - p / cluster_size h * cluster_size h) ≡ p = omega (arith, low h p) in
    subst (λ q. g q ≡ f q) at (same (p - p / cluster_size h * cluster_size h) (omega (arith, low h p, high h p)))

either-weighs : (h : Fields) (w : Weight) (m n x : Mapping) → (x ≡ m) ⊎ (x ≡ n) → of_mapping h w x ≤ of_either h w m n
either-weighs h w m n x (inl e) = rw e (le-max_left (of_mapping h w m) (of_mapping h w n))
either-weighs h w m n x (inr e) = rw e (le-max_right (of_mapping h w m) (of_mapping h w n))

-- A cluster that an L2 entry references isn't in the structure.
pub named-apart : (f g : Bytes) (h : Fields) (c i j : ℕ) (m : Mapping) → ReferencedOnce f g h → Live (l2_table f h) h i j → (m ≡ slot f h i j) ⊎ (m ≡ slot g h i j) → 0 < of_mapping h (meets h c) m → structure f h (meets h c) ≡ 0
unfolding references_in_either
named-apart f g h c i j m apart live is some =
    let one : of_mapping h (meets h c) m ≤ of_either h (meets h c) (slot f h i j) (slot g h i j) = either-weighs h (meets h c) (slot f h i j) (slot g h i j) m is in
    let all : of_either h (meets h c) (slot f h i j) (slot g h i j) ≤ over_slots (l2_table f h) h (λ k n. of_either h (meets h c) (slot f h k n) (slot g h k n)) =
    slot-le (l2_table f h) h (λ k n. of_either h (meets h c) (slot f h k n) (slot g h k n)) i j live in
    elim (cases_lt 0 (structure f h (meets h c))) [
      | inl there ↦ let once = apart c (omega (arith, there)) in absurd (omega (arith, once, there, one, all, some))
      | inr none ↦ omega (arith, none)
    ]

clear-of : (h : Fields) (c place : ℕ) → meets h c place (cluster_size h) ≡ 0 → (place + cluster_size h ≤ c * cluster_size h) ⊎ (c * cluster_size h + cluster_size h ≤ place)
clear-of h c place none =
    let some : 0 < cluster_size h = pow_pos h.cluster_bits in
    elim (cases_lt place (c * cluster_size h + cluster_size h)) [
      | inl before ↦ elim (cases_lt (c * cluster_size h) (place + cluster_size h)) [
        | inl after ↦ let next : (c + 1) * cluster_size h ≡ c * cluster_size h + cluster_size h = omega arith in absurd (grind (arith, nat_tests))
        | inr le ↦ inl le
      ]
      | inr le ↦ inr le
    ]

module _ (f : Bytes) (H : Header) (c : ℕ) (none : structure f H.fields (meets H.fields c) ≡ 0) where
  part-none : (part : Part) → IsPart H.fields part → part_place f H.fields part ≢ 0 → meets H.fields c (part_place f H.fields part) (cluster_size H.fields) ≡ 0
  part-none header inside there = absurd (there refl)
  part-none l1_table inside there = absurd (there refl)
  part-none refcount_table inside there = absurd (there refl)
  part-none (block_of i) inside there = let le = one-part f H.fields (meets H.fields c) (block_of i) inside in grind (arith, nat_tests)
  part-none (table_of i) inside there = let le = one-part f H.fields (meets H.fields c) (table_of i) inside in grind (arith, nat_tests)

  clear-of-patch : (e : Patch) → IsPatch f H.fields e → IsClear (c * cluster_size H.fields) (cluster_size H.fields) e
  clear-of-patch e x =
      let apart : meets H.fields c e.0 (cluster_size H.fields) ≡ 0 = subst (λ p. meets H.fields c p (cluster_size H.fields) ≡ 0) x.place (part-none x.part x.inside (λ z. x.there (sym x.place ∙ z))) in
      elim (clear-of H.fields c e.0 apart) [
        | inl before ↦ inl (omega (arith, before, x.long))
        | inr after ↦ inr after
      ]

  clear-of-all : (es : List Patch) → AllByRecursion (IsPatch f H.fields) es → AllByRecursion (IsClear (c * cluster_size H.fields) (cluster_size H.fields)) es
  clear-of-all es are = all-weaker _ _ clear-of-patch es are

  pub memory-same : IsConsistent f H → (cached : Cached) (order : CacheDependency) → WellFormed f H cached order → Same f (memory f H.fields cached) (c * cluster_size H.fields) (cluster_size H.fields)
  memory-same was cached order well_formed = over-clear f (c * cluster_size H.fields) (cluster_size H.fields) (patches H.fields cached) (clear-of-all (patches H.fields cached) (patches-are f H was cached well_formed.tables well_formed.blocks))

pub left-same-there : (f : Bytes) (H : Header) (cached : Cached) (order : CacheDependency) → WellFormed f H cached order → (x : Bytes) → IsCrashImage f (memory f H.fields cached) H x
    → (c : ℕ) → structure f H.fields (meets H.fields c) ≡ 0 → Same f x (c * cluster_size H.fields) (cluster_size H.fields)
left-same-there f H cached order well_formed x left c none k lt = elim (left.bytes (c * cluster_size H.fields + k)) [
  | inl was ↦ was
  | inr now ↦ now ∙ memory-same f H c none well_formed.consistent cached order well_formed k lt
]

pub from-start : (f x : Bytes) (n p : ℕ) → Same f x 0 n → p < n → x p ≡ f p
from-start f x n p same lt = let place : 0 + p ≡ p = omega arith in subst (λ k. x k ≡ f k) place (same p lt)

left-same-where : (f g : Bytes) (H : Header) (x : Bytes) → IsCrashImage f g H x → (at n : ℕ) → Same f g at n → Same f x at n
left-same-where f g H x left at n same k lt = elim (left.bytes (at + k)) [
  | inl was ↦ was
  | inr now ↦ now ∙ same k lt
]

-- The header's cluster and the L1 table are those of the file.
module _ (f : Bytes) (H : Header) (cached : Cached) (order : CacheDependency) (well_formed : WellFormed f H cached order) (x : Bytes) (left : IsCrashImage f (memory f H.fields cached) H x) where
  header-left : Same f x 0 (cluster_size H.fields)
  header-left = left-same-where f (memory f H.fields cached) H x left 0 (cluster_size H.fields)
      (range-stays f H well_formed.consistent header tt refl 0 (cluster_size H.fields) (λ w. refl) (patches H.fields cached) (patches-are f H well_formed.consistent cached well_formed.tables well_formed.blocks))

  l1-left : (i : ℕ) → i < H.fields.l1_entries → raw_entry x H.fields.l1_offset i ≡ raw_entry f H.fields.l1_offset i
  l1-left i lt = word-same f x H.fields.l1_offset (H.fields.l1_entries * 8) i
      (left-same-where f (memory f H.fields cached) H x left H.fields.l1_offset (H.fields.l1_entries * 8)
      (range-stays f H well_formed.consistent l1_table tt refl H.fields.l1_offset (H.fields.l1_entries * 8) (λ w. refl) (patches H.fields cached) (patches-are f H well_formed.consistent cached well_formed.tables well_formed.blocks)))
      (omega (arith, lt))

pub left-shows : (m : Metadata) (x : Bytes) → IsSound m → IsCrashImage m.file (in_memory m) m.header x → ShowsEither m x m.header
left-shows m x sound left = record {
  consistent = left.consistent;
  moved = (m.header.fields.refcount_table_offset, m.header.fields.refcount_table_clusters, refl);
  header_tail_unchanged = λ p from lt. from-start m.file x (cluster_size m.header.fields) p (header-left m.file m.header m.cached m.order sound.well_formed x left) lt;
  l1 = l1-left m.file m.header m.cached m.order sound.well_formed x left;
  tables = left.raw_entries.places.l1;
  raw_entries = left.raw_entries.slots;
  contents = λ i j live p some.
      let le = mapping-meets m.header.fields p (slot x m.header.fields i j) in
      let none : structure m.file m.header.fields (meets m.header.fields (p / cluster_size m.header.fields)) ≡ 0 =
      named-apart m.file (in_memory m) m.header.fields (p / cluster_size m.header.fields) i j (slot x m.header.fields i j) sound.well_formed.apart live (left.raw_entries.slots i j live) (omega (arith, le, some)) in
      in-cluster m.header.fields m.file x p (left-same-there m.file m.header m.cached m.order sound.well_formed x left (p / cluster_size m.header.fields) none);
}

pub file-shows : (m : Metadata) → IsSound m → ShowsEither m m.file m.header
file-shows m sound = left-shows m m.file sound (left-same m.file (in_memory m) m.header sound.well_formed.consistent)
