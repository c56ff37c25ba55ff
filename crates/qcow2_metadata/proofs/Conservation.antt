-- A change of an entry conserves the references of each host cluster: references and frees after it match the references
-- before it.
use Rattle.std.proofs.Common.{◌≡◌, refl, ℕ, ◌+◌, ◌-◌, ◌*◌, ◌/◌, ◌%◌, ◌^◌, ◌<◌, ◌≤◌, ◌∙◌, ap, sym, arith, inl, inr}
use Rattle.std.specs.Prelude.{Bool, true, false, not, ◌&&◌, ◌||◌, ◌==◌, nat_le, nat_lt, if◌then◌else◌, Option, Some, None, ◌⊎◌}
use Rattle.std.specs.Option.{is_some}
use Rattle.std.proofs.lemmas.Bool.{cases_lt, cases_eq}
use Rattle.std.proofs.lemmas.Bool.Decides.{nat_tests}
use Rattle.std.proofs.Math.Nat.{div-mul-le_self, mul-div_cancel}
use Rattle.std.proofs.lemmas.Nat.{pow_pos, div-add-mod', mod_below, mul-le, div-mul-add, div_below}
use Rattle.qcow2_types.specs.Words.{Layout, Mapping, unmapped, data_at, zeroes, packed, damaged, mapping_of, is_cluster_offset, is_copied, has_bit, bits_at, table_offset, names_cluster, standard_entry_valid, max_offset, compressed_offset, compressed_end}
use Rattle.qcow2_types.specs.Header.{Fields, cluster_size}
use Rattle.qcow2_types.specs.References.{of_mapping, meets}
use Rattle.qcow2_types.proofs.Numbers.WordLemmas.{zero-word}
use Rattle.qcow2_metadata.specs.Places.{IsAddressable}
use Rattle.qcow2_metadata.specs.Tables.{zero_raw_entry}
use Rattle.qcow2_metadata.specs.Allocations.{allocation_of, clusters_of_range, freed, holds, replaced, newly, unkept, kept_for_zero, kept_where, zeroed_raw_entry, Conserves, IsKeptAddressable}
use Rattle.qcow2_metadata.proofs.TableSteps.{cluster_sectors, cluster_place}
use Rattle.qcow2_metadata.proofs.L2Words.{mapped_word, kept_word, kept_unmarked_word}

-- 1 if true, otherwise 0.
abbrev one_if : Bool → ℕ
one_if b = if b then 1 else 0

-- A range that isn't empty meets the clusters from its first byte to its last.
range_holds : (size c o l : ℕ) → 0 < size → 0 < l
    → one_if (nat_lt 0 l && nat_lt o ((c + 1) * size) && nat_lt (c * size) (o + l)) ≡ one_if (nat_le (o / size) c && nat_lt c (o / size + ((o + l - 1) / size - o / size + 1)))
range_holds size c o l some more =
    let first : ℕ = o / size in
    let last : ℕ = (o + l - 1) / size in
    let o_low : o / size * size ≤ o = div-mul-le_self o size in
    let o_high : o < (o / size + 1) * size = omega (arith, div-add-mod' o size, mod_below o size some) in
    let e_low : (o + l - 1) / size * size ≤ o + l - 1 = div-mul-le_self (o + l - 1) size in
    let e_high : o + l - 1 < ((o + l - 1) / size + 1) * size = omega (arith, div-add-mod' (o + l - 1) size, mod_below (o + l - 1) size some) in
    let below : o / size < (o + l - 1) / size + 1 = div_below o size ((o + l - 1) / size + 1) some (omega (arith, e_high)) in
    let rising : o / size ≤ (o + l - 1) / size = omega arith in
    let any : nat_lt 0 l ≡ true = grind (arith, nat_tests) in
    elim (cases_lt c (o / size)) [
      | inl before ↦
          let rows : (c + 1) * size ≤ o / size * size = mul-le (c + 1) size (o / size) size (omega arith) (omega arith) in
          let far : (c + 1) * size ≤ o = omega (arith, rows, o_low) in
          let a : nat_lt o ((c + 1) * size) ≡ false = grind (arith, nat_tests) in
          let b : nat_le (o / size) c ≡ false = grind (arith, nat_tests) in
          rw (any, a, b) refl
      | inr from ↦
          let rows : (o / size + 1) * size ≤ (c + 1) * size = mul-le (o / size + 1) size (c + 1) size (omega arith) (omega arith) in
          let near : o < (c + 1) * size = omega (arith, rows, o_high) in
          let a : nat_lt o ((c + 1) * size) ≡ true = grind (arith, nat_tests) in
          let b : nat_le (o / size) c ≡ true = grind (arith, nat_tests) in
          elim (cases_lt ((o + l - 1) / size) c) [
            | inl past ↦
                let rows2 : ((o + l - 1) / size + 1) * size ≤ c * size = mul-le ((o + l - 1) / size + 1) size c size (omega arith) (omega arith) in
                let far : o + l ≤ c * size = omega (arith, rows2, e_high) in
                let d : nat_lt (c * size) (o + l) ≡ false = grind (arith, nat_tests) in
                let over : o / size + ((o + l - 1) / size - o / size + 1) ≤ c = omega arith in
                let e : nat_lt c (o / size + ((o + l - 1) / size - o / size + 1)) ≡ false = grind (arith, nat_tests) in
                rw (any, a, b, d, e) refl
            | inr inside ↦
                let rows2 : c * size ≤ (o + l - 1) / size * size = mul-le c size ((o + l - 1) / size) size (omega arith) (omega arith) in
                let near2 : c * size < o + l = omega (arith, rows2, e_low) in
                let d : nat_lt (c * size) (o + l) ≡ true = grind (arith, nat_tests) in
                let under : c < o / size + ((o + l - 1) / size - o / size + 1) = omega arith in
                let e : nat_lt c (o / size + ((o + l - 1) / size - o / size + 1)) ≡ true = grind (arith, nat_tests) in
                rw (any, a, b, d, e) refl
          ]
    ]

-- A cluster is one cluster long as a range.
one_cluster : (size k : ℕ) → 0 < size → ((k * size / size ≡ k) × ((k * size + size - 1) / size ≡ k))
one_cluster size k some =
    let split : k * size + size - 1 ≡ k * size + (size - 1) = omega arith in
    (mul-div_cancel k some, ap (λ n. n / size) split ∙ div-mul-add k size (size - 1) (omega arith))

module _ (h : Fields) (c : ℕ) where
  some_size : 0 < cluster_size h
  some_size = pow_pos h.cluster_bits

  packed_holds : (o l : ℕ) → 0 < l → meets h c o l ≡ holds c (freed (Some (clusters_of_range h.cluster_bits o l)))
  packed_holds o l more = range_holds (cluster_size h) c o l some_size more

  cluster_holds : (k : ℕ) → meets h c (k * cluster_size h) (cluster_size h) ≡ holds c (freed (Some (k, 1)))
  cluster_holds k =
      let one = one_cluster (cluster_size h) k some_size in
      let rest : k - k + 1 ≡ 1 = omega arith in
      packed_holds (k * cluster_size h) (cluster_size h) some_size
      ∙ (ap (λ (n : ℕ). one_if (nat_le n c && nat_lt c (n + ((k * cluster_size h + cluster_size h - 1) / cluster_size h - n + 1)))) one.0
      ∙ (ap (λ (n : ℕ). one_if (nat_le k c && nat_lt c (k + (n - k + 1)))) one.1
      ∙ ap (λ (n : ℕ). one_if (nat_le k c && nat_lt c (k + n))) rest))

-- The mapping isn't an empty compressed range.
abbrev IsPacked : Mapping → Type 0
IsPacked (packed offset length) = 0 < length
IsPacked mapping = Unit {0}

is_packed : (c a s z p : Bool) (o l k x : ℕ) (d : Bool) (y : Option ℕ) → 0 < l → IsPacked (if c then (if a then damaged else packed o l) else (if not s then damaged else if z then zeroes y d else if p then data_at k d else unmapped))
is_packed true true s z p o l k x d y some = tt
is_packed true false s z p o l k x d y some = some
is_packed false a false z p o l k x d y some = tt
is_packed false a true true p o l k x d y some = tt
is_packed false a true false true o l k x d y some = tt
is_packed false a true false false o l k x d y some = tt

word_packed : (layout : Layout) (w : ℕ) → IsPacked (mapping_of layout w)
unfolding mapping_of
word_packed layout w =
    let place : ℕ = compressed_offset layout.cluster_bits w in
    let above : compressed_offset layout.cluster_bits w < compressed_end layout.cluster_bits w = omega arith in
    is_packed (has_bit w 62) _ (standard_entry_valid layout w) (has_bit w 0) (names_cluster layout w) _ _ _ 0 _ _ (omega (arith, above))

-- A mapping references exactly the clusters of its allocation.
named_holds : (h : Fields) (c : ℕ) (m : Mapping) → IsPacked m → of_mapping h (meets h c) m ≡ holds c (freed (allocation_of h.cluster_bits m))
named_holds h c (data_at k copied) some = cluster_holds h c k
named_holds h c (zeroes (Some k) copied) some = cluster_holds h c k
named_holds h c (zeroes None copied) some = refl
named_holds h c (packed o l) some = packed_holds h c o l some
named_holds h c unmapped some = refl
named_holds h c damaged some = refl

-- A cluster that replaces an allocation.
just_one : (c cluster : ℕ) → holds c (freed (Some (cluster, 1))) ≡ one_if (c == cluster)
just_one c cluster = elim (cases_eq c cluster) [
  | inl e ↦
      let a : nat_le cluster c ≡ true = grind (arith, nat_tests) in
      let b : nat_lt c (cluster + 1) ≡ true = grind (arith, nat_tests) in
      let d : (c == cluster) ≡ true = grind (arith, nat_tests) in
      rw (a, b, d) refl
  | inr ne ↦ elim (cases_lt c cluster) [
    | inl lt ↦
        let a : nat_le cluster c ≡ false = grind (arith, nat_tests) in
        let d : (c == cluster) ≡ false = grind (arith, nat_tests) in
        rw (a, d) refl
    | inr ge ↦
        let above : cluster + 1 ≤ c = omega arith in
        let a : nat_le cluster c ≡ true = grind (arith, nat_tests) in
        let b : nat_lt c (cluster + 1) ≡ false = grind (arith, nat_tests) in
        let d : (c == cluster) ≡ false = grind (arith, nat_tests) in
        rw (a, b, d) refl
  ]
]

taken : (c cluster : ℕ) (a : Option (ℕ × ℕ)) → one_if (c == cluster) + holds c (freed (replaced cluster a)) ≡ holds c (freed a) + newly cluster a c
taken c cluster None = by_test (c == cluster)
  where
    by_test : (b : Bool) → one_if b + 0 ≡ 0 + one_if (b && true)
    by_test true = refl
    by_test false = refl
taken c cluster (Some x) = elim (cases_eq x.0 cluster) [
  | inl e ↦ elim (cases_eq x.1 1) [
    | inl f ↦
        let a : (x.0 == cluster) ≡ true = grind (arith, nat_tests) in
        let b : (x.1 == 1) ≡ true = grind (arith, nat_tests) in
        let same : holds c (freed (Some x)) ≡ one_if (c == cluster) = ap (λ k. holds c (freed (Some (k, x.1)))) e ∙ (ap (λ n. holds c (freed (Some (cluster, n)))) f ∙ just_one c cluster) in
        rw (a, b) (by_true (c == cluster) (holds c (freed (Some x))) same)
    | inr nf ↦ let b : (x.1 == 1) ≡ false = grind (arith, nat_tests) in rw b (by_false (x.0 == cluster) (c == cluster) x)
  ]
  | inr ne ↦ let a : (x.0 == cluster) ≡ false = grind (arith, nat_tests) in rw a (by_other (c == cluster) x)
]
  where
    by_true : (b : Bool) (n : ℕ) → n ≡ one_if b → one_if b + 0 ≡ n + one_if (b && false)
    by_true true n e = omega arith
    by_true false n e = omega arith

    by_false : (p b : Bool) (x : ℕ × ℕ) → one_if b + holds c (freed (if p && false then None else Some x)) ≡ holds c (freed (Some x)) + one_if (b && not (p && false))
    by_false true true x = omega arith
    by_false true false x = omega arith
    by_false false true x = omega arith
    by_false false false x = omega arith

    by_other : (b : Bool) (x : ℕ × ℕ) → one_if b + holds c (freed (Some x)) ≡ holds c (freed (Some x)) + one_if (b && true)
    by_other true x = omega arith
    by_other false x = omega arith

named_test : (p : ℕ) (b : Bool) → (0 < p) ⊎ (b ≡ true) → (not (p == 0) || (b && true)) ≡ true
named_test p true h = elim (cases_eq p 0) [
  | inl e ↦ let t : (p == 0) ≡ true = grind (arith, nat_tests) in rw t refl
  | inr ne ↦ let t : (p == 0) ≡ false = grind (arith, nat_tests) in rw t refl
]
named_test p false (inl some) = let t : (p == 0) ≡ false = grind (arith, nat_tests) in rw t refl
named_test p false (inr e) = absurd (cc)

-- The entry that references a cluster means its data.
pub mapped_means : (layout : Layout) (cluster : ℕ) → 9 ≤ layout.cluster_bits → IsAddressable layout.cluster_bits cluster → (0 < cluster) ⊎ (layout.external_data ≡ true) → mapping_of layout (2 ^ 63 + cluster * 2 ^ layout.cluster_bits) ≡ data_at cluster true
mapped_means layout cluster low near some =
    let pos : 0 < 2 ^ layout.cluster_bits = pow_pos layout.cluster_bits in
    let named : (0 < cluster * 2 ^ layout.cluster_bits) ⊎ (layout.external_data ≡ true) = elim some [
      | inl s ↦ inl (mul-le 1 1 cluster (2 ^ layout.cluster_bits) s pos)
      | inr e ↦ inr e
    ] in
    mapped_word (cluster * 2 ^ layout.cluster_bits) (cluster_sectors layout.cluster_bits cluster low near) near layout (cluster_place layout.cluster_bits cluster low near)
    ∙ (ap (λ b. if b then data_at (cluster * 2 ^ layout.cluster_bits / 2 ^ layout.cluster_bits) true else unmapped) (named_test (cluster * 2 ^ layout.cluster_bits) layout.external_data named)
    ∙ ap (λ k. data_at k true) (mul-div_cancel cluster pos))

-- An entry that references a cluster replaces another entry.
pub map_conserves : (layout : Layout) (w cluster : ℕ) → 9 ≤ layout.cluster_bits → IsAddressable layout.cluster_bits cluster → (0 < cluster) ⊎ (layout.external_data ≡ true)
    → Conserves layout.cluster_bits (mapping_of layout w) (mapping_of layout (2 ^ 63 + cluster * 2 ^ layout.cluster_bits)) (freed (replaced cluster (allocation_of layout.cluster_bits (mapping_of layout w)))) (newly cluster (allocation_of layout.cluster_bits (mapping_of layout w)))
map_conserves layout w cluster low near some h bits c =
    let means : mapping_of layout (2 ^ 63 + cluster * 2 ^ layout.cluster_bits) ≡ data_at cluster true = mapped_means layout cluster low near some in
    let old : of_mapping h (meets h c) (mapping_of layout w) ≡ holds c (freed (allocation_of layout.cluster_bits (mapping_of layout w))) = named_holds h c (mapping_of layout w) (word_packed layout w) ∙ ap (λ b. holds c (freed (allocation_of b (mapping_of layout w)))) bits in
    let new : of_mapping h (meets h c) (mapping_of layout (2 ^ 63 + cluster * 2 ^ layout.cluster_bits)) ≡ one_if (c == cluster) = ap (of_mapping h (meets h c)) means ∙ (cluster_holds h c cluster ∙ just_one c cluster) in
    omega (arith, old, new, taken c cluster (allocation_of layout.cluster_bits (mapping_of layout w)))

-- An entry of 0 replaces another entry.
pub discard_conserves : (layout : Layout) (w : ℕ) → Conserves layout.cluster_bits (mapping_of layout w) (mapping_of layout 0) (freed (allocation_of layout.cluster_bits (mapping_of layout w))) (λ c. 0)
discard_conserves layout w h bits c =
    let old : of_mapping h (meets h c) (mapping_of layout w) ≡ holds c (freed (allocation_of layout.cluster_bits (mapping_of layout w))) = named_holds h c (mapping_of layout w) (word_packed layout w) ∙ ap (λ b. holds c (freed (allocation_of b (mapping_of layout w)))) bits in
    let new : of_mapping h (meets h c) (mapping_of layout 0) ≡ 0 = ap (of_mapping h (meets h c)) (zero-word layout) in
    omega (arith, old, new)

-- An entry with a kept cluster is a valid standard entry.
kept_pick : (c a s z p : Bool) (o l k : ℕ) (d : Bool) (kept : ℕ × Bool) → kept_for_zero (if c then (if a then damaged else packed o l) else (if not s then damaged else if z then zeroes (if p then Some k else None) d else if p then data_at k d else unmapped)) ≡ Some kept → (s ≡ true) × ((p ≡ true) × ((k, d) ≡ kept))
kept_pick true true s z p o l k d kept e = absurd (cc)
kept_pick true false s z p o l k d kept e = absurd (cc)
kept_pick false a false z p o l k d kept e = absurd (cc)
kept_pick false a true true true o l k d kept e = (refl, (refl, cc))
kept_pick false a true true false o l k d kept e = absurd (cc)
kept_pick false a true false true o l k d kept e = (refl, (refl, cc))
kept_pick false a true false false o l k d kept e = absurd (cc)

last_of_four : (a b c d : Bool) → (a && b && c && d) ≡ true → d ≡ true
last_of_four true true true d e = e
last_of_four true true false d e = absurd (cc)
last_of_four true false c d e = absurd (cc)
last_of_four false b c d e = absurd (cc)

first_of_two : (a b : Bool) → (a && b) ≡ true → a ≡ true
first_of_two true b e = refl
first_of_two false b e = absurd (cc)

-- The offset of the entry is the offset of its cluster.
whole_offset : (bits p : ℕ) → is_cluster_offset bits p ≡ true → p / 2 ^ bits * 2 ^ bits ≡ p
whole_offset bits p place =
    let test : (p % 2 ^ bits == 0) ≡ true = first_of_two (p % 2 ^ bits == 0) (nat_le p max_offset) place in
    let none : p % 2 ^ bits ≡ 0 = grind (arith, nat_tests) in
    omega (arith, div-add-mod' p (2 ^ bits), none)

-- An entry that keeps the cluster of another means zeroes with that cluster.
pub kept_means : (layout : Layout) (w : ℕ) (kept : ℕ × Bool) → 9 ≤ layout.cluster_bits → layout.version ≡ 3 → IsAddressable layout.cluster_bits kept.0 → kept_for_zero (mapping_of layout w) ≡ Some kept → mapping_of layout (zero_raw_entry (kept.0 * 2 ^ layout.cluster_bits) kept.1) ≡ zeroes (Some kept.0) kept.1
unfolding mapping_of
kept_means layout w kept low v near e =
    let size : ℕ = 2 ^ layout.cluster_bits in
    let pos : 0 < 2 ^ layout.cluster_bits = pow_pos layout.cluster_bits in
    let facts = kept_pick (has_bit w 62) (has_bit w 63 || nat_le (2 ^ 56) (compressed_offset layout.cluster_bits w)) (standard_entry_valid layout w) (has_bit w 0) (names_cluster layout w) (compressed_offset layout.cluster_bits w) (compressed_end layout.cluster_bits w - compressed_offset layout.cluster_bits w) (table_offset w / 2 ^ layout.cluster_bits) (is_copied w) kept e in
    let place : is_cluster_offset layout.cluster_bits (table_offset w) ≡ true = last_of_four (bits_at w 1 8 == 0) (bits_at w 56 6 == 0) (not (has_bit w 0) || (layout.version == 3)) (is_cluster_offset layout.cluster_bits (table_offset w)) facts.0 in
    let cluster : table_offset w / 2 ^ layout.cluster_bits ≡ kept.0 = ap (λ (x : ℕ × Bool). x.0) facts.1.1 in
    let mark : is_copied w ≡ kept.1 = ap (λ (x : ℕ × Bool). x.1) facts.1.1 in
    let offset : table_offset w ≡ kept.0 * 2 ^ layout.cluster_bits = sym (whole_offset layout.cluster_bits (table_offset w) place) ∙ ap (λ k. k * 2 ^ layout.cluster_bits) cluster in
    let test : (not (kept.0 * 2 ^ layout.cluster_bits == 0) || (layout.external_data && kept.1)) ≡ true =
    sym (ap (λ (n : ℕ). not (n == 0) || (layout.external_data && kept.1)) offset) ∙ (sym (ap (λ (b : Bool). not (table_offset w == 0) || (layout.external_data && b)) mark) ∙ facts.1.0) in
    kept_word (kept.0 * 2 ^ layout.cluster_bits) (cluster_sectors layout.cluster_bits kept.0 low near) near layout (cluster_place layout.cluster_bits kept.0 low near) kept.1 v
    ∙ (ap (λ (b : Bool). zeroes (if b then Some (kept.0 * 2 ^ layout.cluster_bits / 2 ^ layout.cluster_bits) else None) kept.1) test
    ∙ ap (λ k. zeroes (Some k) kept.1) (mul-div_cancel kept.0 pos))

-- A zeroed entry without a cluster references nothing.
pub zero_means : (layout : Layout) → layout.version ≡ 3 → mapping_of layout 1 ≡ zeroes None false
zero_means layout v = kept_unmarked_word 0 refl (omega arith) layout (place_zero layout.cluster_bits) v ∙ ap (λ (b : Bool). zeroes (if b then Some (0 / 2 ^ layout.cluster_bits) else None) false) (neither layout.external_data)
  where
    place_zero : (bits : ℕ) → is_cluster_offset bits 0 ≡ true
    place_zero bits = let none : 0 % 2 ^ bits ≡ 0 = let some : 0 < 2 ^ bits = pow_pos bits in omega arith in rw none refl

    neither : (b : Bool) → (not (0 == 0) || (b && false)) ≡ false
    neither true = refl
    neither false = refl

kept_weight : (h : Fields) (weight : ℕ → ℕ → ℕ) (m : Mapping) (kept : ℕ × Bool) → kept_for_zero m ≡ Some kept → of_mapping h weight m ≡ weight (kept.0 * cluster_size h) (cluster_size h)
kept_weight h weight (data_at k d) kept e = let same : k ≡ kept.0 = cc in ap (λ n. weight (n * cluster_size h) (cluster_size h)) same
kept_weight h weight (zeroes (Some k) d) kept e = let same : k ≡ kept.0 = cc in ap (λ n. weight (n * cluster_size h) (cluster_size h)) same
kept_weight h weight (zeroes None d) kept e = absurd (cc)
kept_weight h weight (packed o l) kept e = absurd (cc)
kept_weight h weight unmapped kept e = absurd (cc)
kept_weight h weight damaged kept e = absurd (cc)

kept_if : (keep : Bool) (m : Mapping) (kept : ℕ × Bool) → kept_where keep m ≡ Some kept → kept_for_zero m ≡ Some kept
kept_if true m kept e = e
kept_if false m kept e = absurd (cc)

zero_by : (layout : Layout) (w : ℕ) (keep : Bool) (kept : Option (ℕ × Bool)) → kept_where keep (mapping_of layout w) ≡ kept → 9 ≤ layout.cluster_bits → layout.version ≡ 3 → IsKeptAddressable layout.cluster_bits kept
    → Conserves layout.cluster_bits (mapping_of layout w) (mapping_of layout (zeroed_raw_entry layout.cluster_bits kept)) (freed (unkept (is_some kept) (allocation_of layout.cluster_bits (mapping_of layout w)))) (λ c. 0)
zero_by layout w keep None e low v near h bits c =
    let old : of_mapping h (meets h c) (mapping_of layout w) ≡ holds c (freed (allocation_of layout.cluster_bits (mapping_of layout w))) = named_holds h c (mapping_of layout w) (word_packed layout w) ∙ ap (λ b. holds c (freed (allocation_of b (mapping_of layout w)))) bits in
    let new : of_mapping h (meets h c) (mapping_of layout 1) ≡ 0 = ap (of_mapping h (meets h c)) (zero_means layout v) in
    omega (arith, old, new)
zero_by layout w keep (Some kept) e low v near h bits c =
    let found : kept_for_zero (mapping_of layout w) ≡ Some kept = kept_if keep (mapping_of layout w) kept e in
    let old : of_mapping h (meets h c) (mapping_of layout w) ≡ meets h c (kept.0 * cluster_size h) (cluster_size h) = kept_weight h (meets h c) (mapping_of layout w) kept found in
    let new : of_mapping h (meets h c) (mapping_of layout (zero_raw_entry (kept.0 * 2 ^ layout.cluster_bits) kept.1)) ≡ meets h c (kept.0 * cluster_size h) (cluster_size h) = ap (of_mapping h (meets h c)) (kept_means layout w kept low v near found) in
    omega (arith, old, new)

-- A zeroed entry replaces another entry.
pub zero_conserves : (layout : Layout) (w : ℕ) (keep : Bool) → 9 ≤ layout.cluster_bits → layout.version ≡ 3 → IsKeptAddressable layout.cluster_bits (kept_where keep (mapping_of layout w))
    → Conserves layout.cluster_bits (mapping_of layout w) (mapping_of layout (zeroed_raw_entry layout.cluster_bits (kept_where keep (mapping_of layout w)))) (freed (unkept (is_some (kept_where keep (mapping_of layout w))) (allocation_of layout.cluster_bits (mapping_of layout w)))) (λ c. 0)
zero_conserves layout w keep low v near = zero_by layout w keep (kept_where keep (mapping_of layout w)) refl low v near
