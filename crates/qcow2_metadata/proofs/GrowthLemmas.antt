-- The lengths to which a refcount table can grow.
use Rattle.std.proofs.Common.{◌≡◌, ℕ, ◌+◌, ◌-◌, ◌*◌, ◌/◌, ◌^◌, ◌<◌, ◌≤◌, ◌∙◌, ap, sym, arith, inl, inr, subst}
use Rattle.std.proofs.Math.Nat.{div-mul-le_self, mul-div_cancel, mul-mod_left, pow-le-pow_right}
use Rattle.std.proofs.lemmas.Nat.{div-add-mod', mod_below, div_below, mul-le}
use Rattle.std.proofs.lemmas.Bool.{cases_eq}
use Rattle.qcow2_types.specs.Header.{Fields, Shaped, entries_of_cluster}
use Rattle.qcow2_metadata.specs.Tables.{IsEnough, IsGrownLength}

-- The bounds on the number of entries of a cluster.
pub cluster_words_bounds : (h : Fields) → Shaped h → (64 ≤ entries_of_cluster h) × (entries_of_cluster h ≤ 2 ^ 18)
cluster_words_bounds h shaped =
    let low : 2 ^ 9 ≤ 2 ^ h.cluster_bits = pow-le-pow_right (omega arith) shaped.low in
    let high : 2 ^ h.cluster_bits ≤ 2 ^ 21 = pow-le-pow_right (omega arith) shaped.high in
    (omega arith, omega arith)

module _ (raw_entries : ℕ) (some : 0 < raw_entries) where
  -- Whole clusters of entries up to a maximum.
  pub clusters_fit : (q m : ℕ) → q < m / raw_entries + 1 → q * raw_entries ≤ m
  clusters_fit q m few =
      let rows : q * raw_entries ≤ m / raw_entries * raw_entries = mul-le q raw_entries (m / raw_entries) raw_entries (omega arith) (omega arith) in
      omega (arith, rows, div-mul-le_self m raw_entries)

  -- Whole clusters of entries that reach past an index.
  pub clusters_above : (q at : ℕ) → at / raw_entries + 1 ≤ q → at < q * raw_entries
  clusters_above q at past =
      let rows : (at / raw_entries + 1) * raw_entries ≤ q * raw_entries = mul-le (at / raw_entries + 1) raw_entries q raw_entries past (omega arith) in
      omega (arith, rows, div-add-mod' at raw_entries, mod_below at raw_entries some)

  -- A length that is enough is a multiple of a cluster's entries.
  enough_rows : (counters at n : ℕ) → IsEnough raw_entries counters at n → n ≡ n / raw_entries * raw_entries
  enough_rows counters at n e = omega (arith, div-add-mod' n raw_entries, e.whole)

  pub enough_from : (counters at n : ℕ) → IsEnough raw_entries counters at n → (at / raw_entries + 1) * raw_entries ≤ n
  enough_from counters at n e =
      let rows : n ≡ n / raw_entries * raw_entries = enough_rows counters at n e in
      let below : at < n / raw_entries * raw_entries = let above : at < n = e.above in omega arith in
      let less : at / raw_entries < n / raw_entries = div_below at raw_entries (n / raw_entries) some below in
      let up : (at / raw_entries + 1) * raw_entries ≤ n / raw_entries * raw_entries = mul-le (at / raw_entries + 1) raw_entries (n / raw_entries) raw_entries (omega arith) (omega arith) in
      omega (arith, rows, up)

  -- If `q` clusters aren't enough, at least one more is needed.
  pub enough_next : (counters at q n : ℕ) → (q * raw_entries - at) * (counters - 1) < q → IsEnough raw_entries counters at n → q * raw_entries ≤ n → (q + 1) * raw_entries ≤ n
  enough_next counters at q n short e least =
      let rows : n ≡ n / raw_entries * raw_entries = enough_rows counters at n e in
      elim (cases_eq (n / raw_entries) q) [
        | inl same ↦
            let is : n ≡ q * raw_entries = rows ∙ ap (λ k. k * raw_entries) same in
            let room : n / raw_entries ≤ (n - at) * (counters - 1) = e.room in
            let here : q ≤ (q * raw_entries - at) * (counters - 1) = subst (λ k. k ≤ (q * raw_entries - at) * (counters - 1)) same (subst (λ k. n / raw_entries ≤ (k - at) * (counters - 1)) is room) in
            absurd (omega (arith, here, short))
        | inr other ↦
            let reach : q * raw_entries ≤ n / raw_entries * raw_entries = omega arith in
            let from : q ≤ n / raw_entries = mul-div_cancel-le q (n / raw_entries) reach in
            let up : (q + 1) * raw_entries ≤ n / raw_entries * raw_entries = mul-le (q + 1) raw_entries (n / raw_entries) raw_entries (omega (arith, from, other)) (omega arith) in
            omega (arith, rows, up)
      ]
    where
      mul-div_cancel-le : (a b : ℕ) → a * raw_entries ≤ b * raw_entries → a ≤ b
      mul-div_cancel-le a b le =
          let more : a * raw_entries < (b + 1) * raw_entries = omega (arith, le, some) in
          let less : a * raw_entries / raw_entries < b + 1 = div_below (a * raw_entries) raw_entries (b + 1) some more in
          omega (arith, less, mul-div_cancel a some)

  -- `q` clusters are the least that are enough, if no fewer are.
  pub enough_here : (counters at q : ℕ) → at / raw_entries + 1 ≤ q → q ≤ (q * raw_entries - at) * (counters - 1) → ((n : ℕ) → IsEnough raw_entries counters at n → q * raw_entries ≤ n) → IsGrownLength raw_entries counters at (q * raw_entries)
  enough_here counters at q past room least = record {
    enough = record {
      whole = mul-mod_left q raw_entries;
      above = clusters_above q at past;
      room = subst (λ k. k ≤ (q * raw_entries - at) * (counters - 1)) (sym (mul-div_cancel q some)) room;
    };
    least = least;
  }
