-- Written bytes are read only by the guest clusters that the written clusters belong to.
use Rattle.std.proofs.Common.{◌≡◌, ℕ, ◌+◌, ◌-◌, ◌*◌, ◌/◌, ◌%◌, ◌<◌, ◌≤◌, refl, arith, ap, sym, subst, ◌∙◌, Some, Bool, Option, inl, inr}
use Rattle.std.specs.Prelude.{◌⊎◌}
use Rattle.std.proofs.Math.Nat.{le-max_left, le-max_right, mul-le-mul_right}
use Rattle.std.proofs.lemmas.Bool.{cases_eq, cases_lt}
use Rattle.std.proofs.lemmas.Nat.{div-add-mod', mod_below, pow_pos}
use Rattle.imago_storage.specs.Disk.{Value, byte}
use Rattle.qcow2_types.specs.Bytes.{Bytes}
use Rattle.qcow2_types.specs.Consistency.{IsConsistent}
use Rattle.qcow2_types.specs.Entries.{entry, l2_table}
use Rattle.qcow2_types.specs.Header.{Header, cluster_size, entries_of_cluster}
use Rattle.qcow2_types.specs.References.{meets, of_mapping}
use Rattle.qcow2_types.specs.Slots.{Live, slot}
use Rattle.qcow2_types.specs.Versions.{of_either}
use Rattle.qcow2_types.specs.Words.{Mapping, data_at, zeroes, packed, unmapped, damaged}
use Rattle.qcow2_types.proofs.Counting.Consistent.{consistent-shaped, meets-own, some-words}
use Rattle.qcow2_types.proofs.Showing.Shows.{guest-live, guest-slot-none, guest-slot-there}
use Rattle.qcow2_types.proofs.Showing.Values.{entry-slot}
use Rattle.qcow2_alloc.specs.GuestView.{Metadata, IsSound, in_memory}
use Rattle.qcow2_steps.specs.Advancing.{MayBeCrashImage}
use Rattle.qcow2_steps.specs.Data.{AreReferencedFor, GivesData, WritesBeside}
use Rattle.qcow2_steps.specs.Values.{file_value, memory_value, own_value, own_value_by}
use Rattle.qcow2_steps.proofs.DataRuns.{beside-words, stop-writes}
use Rattle.qcow2_steps.proofs.Headers.{header-same}
use Rattle.qcow2_steps.proofs.Values.{places-there, within}

-- The entry of a guest cluster that is mapped to data exists.
pub data-slot : (f : Bytes) (H : Header) → IsConsistent f H → (guest d : ℕ) (copied : Bool) → entry f H.fields guest ≡ data_at d copied
    → Live (l2_table f H.fields) H.fields (guest / entries_of_cluster H.fields) (guest % entries_of_cluster H.fields)
    × (slot f H.fields (guest / entries_of_cluster H.fields) (guest % entries_of_cluster H.fields) ≡ data_at d copied)
data-slot f H was guest d copied is = elim (cases_eq (l2_table f H.fields (guest / entries_of_cluster H.fields)) 0) [
  | inl none ↦ let bad : unmapped ≡ data_at d copied = sym (guest-slot-none f H.fields guest none) ∙ sym (entry-slot f H.fields guest was.readable.tables) ∙ is in absurd cc
  | inr there ↦ (
    guest-live f H.fields guest (some-words H.fields (consistent-shaped f H was)) there,
    sym (guest-slot-there f H.fields guest there) ∙ sym (entry-slot f H.fields guest was.readable.tables) ∙ is,
  )
]

-- A guest byte's distance from guest cluster `first` is its host byte's distance from cluster c.
shifted : (p c d first s r e : ℕ) → p ≡ (first + e) * s + r → c + e ≡ d → p + c * s ≡ d * s + r + first * s
shifted p c d first s r e is there =
    let guests : (first + e) * s ≡ first * s + e * s = omega arith in
    let hosts : (c + e) * s ≡ c * s + e * s = omega arith in
    let same : (c + e) * s ≡ d * s = ap (λ n. n * s) there in
    omega (arith, is, guests, hosts, same)

-- In the entries of w, clusters c to c + k only belong to consecutive guest clusters.
module _ (m : Metadata) (first c k : ℕ) (own : AreReferencedFor m first c k) (w : Bytes) (was : IsConsistent w m.header) (tables : (i : ℕ) → l2_table w m.header.fields i ≡ l2_table m.file m.header.fields i)
    (among : (d i j : ℕ) → of_mapping m.header.fields (meets m.header.fields d) (slot w m.header.fields i j)
    ≤ of_either m.header.fields (meets m.header.fields d) (slot m.file m.header.fields i j) (slot (in_memory m) m.header.fields i j)) where
  -- So a guest cluster with data in one of them is the one that the cluster belongs to.
  pub own-guest : (guest d : ℕ) (copied : Bool) → entry w m.header.fields guest ≡ data_at d copied → c ≤ d → d ≤ c + k → guest ≡ first + (d - c)
  own-guest guest d copied is from upto =
      let there = data-slot w m.header was guest d copied is in
      let behind : c + (d - c) ≡ d = omega (arith, from) in
      let number : guest / entries_of_cluster m.header.fields * entries_of_cluster m.header.fields + guest % entries_of_cluster m.header.fields ≡ guest = div-add-mod' guest (entries_of_cluster m.header.fields) in
      let live : Live (l2_table m.file m.header.fields) m.header.fields (guest / entries_of_cluster m.header.fields) (guest % entries_of_cluster m.header.fields) =
      record { in_l1 = there.0.in_l1; is_there = λ none. there.0.is_there (tables (guest / entries_of_cluster m.header.fields) ∙ none); in_table = there.0.in_table } in
      elim (cases_eq guest (first + (d - c))) [
        | inl same ↦ same
        | inr other ↦ absurd (
            let none = subst (λ e. of_either m.header.fields (meets m.header.fields e) (slot m.file m.header.fields (guest / entries_of_cluster m.header.fields) (guest % entries_of_cluster m.header.fields))
            (slot (in_memory m) m.header.fields (guest / entries_of_cluster m.header.fields) (guest % entries_of_cluster m.header.fields)) ≡ 0) behind
            (own (d - c) (omega (arith, from, upto)) (guest / entries_of_cluster m.header.fields) (guest % entries_of_cluster m.header.fields) live (λ e. other (sym number ∙ e))) in
            let one : of_mapping m.header.fields (meets m.header.fields d) (slot w m.header.fields (guest / entries_of_cluster m.header.fields) (guest % entries_of_cluster m.header.fields)) ≡ 1 =
            ap (of_mapping m.header.fields (meets m.header.fields d)) there.1 ∙ meets-own m.header.fields d in
            let le = among d (guest / entries_of_cluster m.header.fields) (guest % entries_of_cluster m.header.fields) in
            omega (arith, none, one, le))
      ]

  -- A guest byte reads as before, or as the byte that was written for it.
  module _ (at n : ℕ) (x y : Bytes) (writes : WritesBeside m c k at n x) (either : (q : ℕ) → (y q ≡ m.file q) ⊎ (y q ≡ x q)) (p : ℕ) where
    abbrev size : ℕ
    size = cluster_size m.header.fields

    in-run : (d r : ℕ) → r < size → at ≤ d * size + r → d * size + r < at + n → (c ≤ d) × (d ≤ c + k)
    in-run d r less from to = (
      elim (cases_lt d c) [
        | inl before ↦ absurd (
            let next : d + 1 ≤ c = omega (arith, before) in
            let le : (d + 1) * size ≤ c * size = mul-le-mul_right size next in
            let low = writes.low in
            omega (arith, le, low, from, less))
        | inr le ↦ le
      ],
      elim (cases_lt (c + k) d) [
        | inl behind ↦ absurd (
            let next : c + k + 1 ≤ d = omega (arith, behind) in
            let le : (c + k + 1) * size ≤ d * size = mul-le-mul_right size next in
            let high = writes.high in
            omega (arith, le, high, to))
        | inr le ↦ le
      ],
    )

    own-place : (d : ℕ) → c ≤ d → p / size ≡ first + (d - c) → p + c * size ≡ d * size + p % size + first * size
    own-place d from is =
        shifted p c d first size (p % size) (d - c) (sym (div-add-mod' p size) ∙ ap (λ g. g * size + p % size) is) (omega (arith, from))

    by-word : (v : Mapping) → entry w m.header.fields (p / size) ≡ v → (own_value_by y m.header.fields p v ≡ own_value_by m.file m.header.fields p v) ⊎ GivesData m.header.fields first c at n x p (own_value_by y m.header.fields p v)
    by-word (data_at d copied) is = elim (either (d * size + p % size)) [
      | inl was ↦ inl (ap (λ b. Some (byte b)) was)
      | inr now ↦ elim (cases_lt (d * size + p % size) at) [
        | inl before ↦ inl (ap (λ b. Some (byte b)) (now ∙ writes.outside (d * size + p % size) (inl before)))
        | inr from ↦ elim (cases_lt (d * size + p % size) (at + n)) [
          | inl to ↦
              let run = in-run d (p % size) (mod_below p size (pow_pos m.header.fields.cluster_bits)) from to in
              inr (record {
                q = d * size + p % size;
                from = from;
                to = to;
                place = own-place d run.0 (own-guest (p / size) d copied is run.0 run.1);
                value = ap (λ b. Some (byte b)) now;
              })
          | inr past ↦ inl (ap (λ b. Some (byte b)) (now ∙ writes.outside (d * size + p % size) (inr past)))
        ]
      ]
    ]
    by-word (zeroes d copied) is = inl refl
    by-word (packed offset length) is = inl refl
    by-word unmapped is = inl refl
    by-word damaged is = inl refl

module _ (m : Metadata) (first c k at n : ℕ) (x y : Bytes) (sound : IsSound m) (writes : WritesBeside m c k at n x) (own : AreReferencedFor m first c k) (either : (q : ℕ) → (y q ≡ m.file q) ⊎ (y q ≡ x q)) (p : ℕ) where
  abbrev Gives : Option Value → Type 0
  Gives = GivesData m.header.fields first c at n x p

  -- by the entries of the file
  file-written : (own_value y y m.header.fields p ≡ file_value m p) ⊎ Gives (own_value y y m.header.fields p)
  file-written =
      let raw_entries = beside-words m sound c k at n y (stop-writes m c k at n x y writes either) in
      let same : own_value y y m.header.fields p ≡ own_value_by y m.header.fields p (entry m.file m.header.fields (p / cluster_size m.header.fields)) = ap (own_value_by y m.header.fields p) (raw_entries.file_entries (p / cluster_size m.header.fields)) in
      elim (by-word m first c k own m.file sound.well_formed.consistent (λ i. refl) (λ d i j. le-max_left _ _) at n x y writes either p (entry m.file m.header.fields (p / cluster_size m.header.fields)) refl) [
        | inl is ↦ inl (same ∙ is)
        | inr given ↦ inr (subst Gives (sym same) given)
      ]

  -- by the entries in memory
  memory-written : (memory_value (record m { file = y }) p ≡ memory_value m p) ⊎ Gives (memory_value (record m { file = y }) p)
  memory-written =
      let raw_entries = beside-words m sound c k at n y (stop-writes m c k at n x y writes either) in
      let same : memory_value (record m { file = y }) p ≡ own_value_by y m.header.fields p (entry (in_memory m) m.header.fields (p / cluster_size m.header.fields)) = ap (own_value_by y m.header.fields p) (raw_entries.memory_entries (p / cluster_size m.header.fields)) in
      elim (by-word m first c k own (in_memory m) (within m sound) (places-there m sound).l1 (λ d i j. le-max_right _ _) at n x y writes either p (entry (in_memory m) m.header.fields (p / cluster_size m.header.fields)) refl) [
        | inl is ↦ inl (same ∙ is)
        | inr given ↦ inr (subst Gives (sym same) given)
      ]

pub written-memory : (m : Metadata) (first c k at n : ℕ) (x : Bytes) → IsSound m → WritesBeside m c k at n x → AreReferencedFor m first c k → (p : ℕ)
    → (memory_value (record m { file = x }) p ≡ memory_value m p) ⊎ GivesData m.header.fields first c at n x p (memory_value (record m { file = x }) p)
written-memory m first c k at n x sound writes own p = memory-written m first c k at n x x sound writes own (λ q. inr refl) p

pub written-stops : (m : Metadata) (first c k at n : ℕ) (x y : Bytes) → IsSound m → WritesBeside m c k at n x → AreReferencedFor m first c k
    → ((q : ℕ) → (y q ≡ m.file q) ⊎ (y q ≡ x q)) → MayBeCrashImage (GivesData m.header.fields first c at n x) m y m.header
written-stops m first c k at n x y sound writes own either = record {
  consistent = (beside-words m sound c k at n y (stop-writes m c k at n x y writes either)).consistent;
  header = header-same m.header;
  shows = λ p. elim (file-written m first c k at n x y sound writes own either p) [
    | inl same ↦ inl same
    | inr given ↦ inr (inr given)
  ];
}

pub written-there : (m : Metadata) (c k at n p d : ℕ) (copied : Bool) (x : Bytes) → IsSound m → WritesBeside m c k at n x
    → entry (in_memory m) m.header.fields (p / cluster_size m.header.fields) ≡ data_at d copied
    → memory_value (record m { file = x }) p ≡ Some (byte (x (d * cluster_size m.header.fields + p % cluster_size m.header.fields)))
written-there m c k at n p d copied x sound writes is =
    ap (own_value_by x m.header.fields p) ((beside-words m sound c k at n x writes).memory_entries (p / cluster_size m.header.fields) ∙ is)
