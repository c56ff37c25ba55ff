-- Headers with another L1 table or refcount table.
use Rattle.std.proofs.Common.{◌≡◌, ℕ, ◌+◌, ◌-◌, ◌*◌, ◌/◌, ◌%◌, ◌^◌, ◌<◌, ◌≤◌, ◌∙◌, ap, subst, arith}
use Rattle.std.specs.Prelude.{IsTrue, Option, Some, None}
use Rattle.std.proofs.lemmas.Nat.{div-add-mod', div_below, le-div, mul-le, pow_pos, pow-add}
use Rattle.qcow2_types.specs.Words.{is_cluster_offset}
use Rattle.qcow2_types.specs.Header.{Fields, Limited, first_fault, rules_of_size, entries_of_cluster}
use Rattle.qcow2_types.proofs.Fields.HeaderLimits.{fields-limited, limited-fields}
use Rattle.qcow2_metadata.specs.Places.{IsPlaced, place_of}
use Rattle.qcow2_metadata.proofs.TableSteps.{cluster_place}

-- The host offset of an addressable cluster is valid.
pub placed_at : (bits : ℕ) (cluster : Option ℕ) → 9 ≤ bits → IsPlaced bits cluster → IsTrue (is_cluster_offset bits (place_of bits cluster))
placed_at bits None low placed = absurd placed
placed_at bits (Some c) low placed = cluster_place bits c low placed

-- The number of clusters of `n` entries.
abbrev pub clusters_of : ℕ → ℕ → ℕ
clusters_of bits n = (8 * n + (2 ^ bits - 1)) / 2 ^ bits

-- The bytes of a cluster are 8 times its entries.
row : (bits : ℕ) → 9 ≤ bits → 2 ^ bits ≡ 8 * 2 ^ (bits - 3)
row bits low = let split : bits ≡ bits - 3 + 3 = omega arith in ap (λ n. 2 ^ n) split ∙ (pow-add 2 (bits - 3) 3 ∙ omega arith)

words_row : (h : Fields) → 9 ≤ h.cluster_bits → entries_of_cluster h ≡ 2 ^ (h.cluster_bits - 3)
words_row h low = let r : 2 ^ h.cluster_bits ≡ 8 * 2 ^ (h.cluster_bits - 3) = row h.cluster_bits low in omega arith

-- Rounding up to whole clusters doesn't pass a maximum that fills its clusters.
clusters_fit : (w n q : ℕ) → 0 < w → n ≤ q * w → (8 * n + (8 * w - 1)) / (8 * w) * w ≤ q * w
clusters_fit w n q some few =
    let below : 8 * n + (8 * w - 1) < (q + 1) * (8 * w) = omega (arith, few, some) in
    let less : (8 * n + (8 * w - 1)) / (8 * w) < q + 1 = div_below (8 * n + (8 * w - 1)) (8 * w) (q + 1) (omega (arith, some)) below in
    mul-le ((8 * n + (8 * w - 1)) / (8 * w)) w q w (omega (arith, less)) (omega arith)

module _ (h : Fields) (cluster : Option ℕ) (kept : first_fault (rules_of_size h) ≡ None) (low : 9 ≤ h.cluster_bits) (placed : IsPlaced h.cluster_bits cluster) where
  -- With another L1 table.
  pub named_l1 : (n : ℕ) → n ≤ 2 ^ 22 → first_fault (rules_of_size (record h { l1_entries = n; l1_offset = place_of h.cluster_bits cluster })) ≡ None
  named_l1 n few =
      let limited : Limited h = fields-limited h kept in
      limited-fields (record h { l1_entries = n; l1_offset = place_of h.cluster_bits cluster }) record {
        size = limited.size;
        l1_entries = few;
        refcount_entries = limited.refcount_entries;
        l1_place = placed_at h.cluster_bits cluster low placed;
        refcount_place = limited.refcount_place;
      }

  -- With another refcount table.
  pub named_reftable : (n : ℕ) → n ≤ 2 ^ 20 → h.cluster_bits ≤ 21 → first_fault (rules_of_size (record h { refcount_table_offset = place_of h.cluster_bits cluster; refcount_table_clusters = clusters_of h.cluster_bits n })) ≡ None
  named_reftable n few high =
      let limited : Limited h = fields-limited h kept in
      limited-fields (record h { refcount_table_offset = place_of h.cluster_bits cluster; refcount_table_clusters = clusters_of h.cluster_bits n }) record {
        size = limited.size;
        l1_entries = limited.l1_entries;
        refcount_entries = entries;
        l1_place = limited.l1_place;
        refcount_place = placed_at h.cluster_bits cluster low placed;
      }
    where
      most : 2 ^ 20 ≡ 2 ^ (20 - (h.cluster_bits - 3)) * 2 ^ (h.cluster_bits - 3)
      most = let split : 20 ≡ 20 - (h.cluster_bits - 3) + (h.cluster_bits - 3) = omega arith in ap (λ k. 2 ^ k) split ∙ pow-add 2 (20 - (h.cluster_bits - 3)) (h.cluster_bits - 3)

      entries : clusters_of h.cluster_bits n * entries_of_cluster h ≤ 2 ^ 20
      entries =
          let fit = clusters_fit (2 ^ (h.cluster_bits - 3)) n (2 ^ (20 - (h.cluster_bits - 3))) (pow_pos (h.cluster_bits - 3)) (subst (λ m. n ≤ m) most few) in
          rw (words_row h low, row h.cluster_bits low, most) fit

-- Entries that fill their clusters are all the entries of the clusters.
pub whole_entries : (h : Fields) (n : ℕ) → 9 ≤ h.cluster_bits → 8 * n % 2 ^ h.cluster_bits ≡ 0 → clusters_of h.cluster_bits n * entries_of_cluster h ≡ n
whole_entries h n low whole =
    rw (words_row h low, row h.cluster_bits low) (go (2 ^ (h.cluster_bits - 3)) (pow_pos (h.cluster_bits - 3)) (rw (← row h.cluster_bits low) whole))
  where
    go : (w : ℕ) → 0 < w → 8 * n % (8 * w) ≡ 0 → (8 * n + (8 * w - 1)) / (8 * w) * w ≡ n
    go w some none =
        let q : ℕ = 8 * n / (8 * w) in
        let parts : 8 * n ≡ q * (8 * w) = omega (arith, div-add-mod' (8 * n) (8 * w), none) in
        let from : q ≤ (8 * n + (8 * w - 1)) / (8 * w) = le-div q (8 * n + (8 * w - 1)) (8 * w) (omega (arith, some)) (omega (arith, parts)) in
        let upto : (8 * n + (8 * w - 1)) / (8 * w) < q + 1 = div_below (8 * n + (8 * w - 1)) (8 * w) (q + 1) (omega (arith, some)) (omega (arith, parts, some)) in
        let is : (8 * n + (8 * w - 1)) / (8 * w) ≡ q = omega (arith, from, upto) in
        rw is (omega (arith, parts))
