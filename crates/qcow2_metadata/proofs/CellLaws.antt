-- The effect of one raised refcount on the others and on the bytes.
use Rattle.std.proofs.Common.{◌≡◌, ◌≢◌, ℕ, ◌+◌, ◌-◌, ◌*◌, ◌/◌, ◌%◌, ◌<◌, ◌≤◌, ◌^◌, ◌∙◌, inl, inr, List, take, drop, ap, sym, arith, refl}
use Rattle.std.proofs.lemmas.Bool.{cases_order}
use Rattle.std.proofs.lemmas.Nat.{shr_split}
use Rattle.std.proofs.lemmas.List.{take-take, drop-take, drop-drop}
use Rattle.std.specs.Prelude.{◌↔◌, IsOk, OnOk, Result, Ok, Err}
use Rattle.qcow2_metadata.specs.Cells.{big_endian, bit_start, cell, cell_bytes, cell_counters, cell_start, counter, IsRaised}
use Rattle.qcow2_metadata.proofs.Digits.{raised_digit, raised_above, raised_below, lowered_digit}
use Rattle.qcow2_metadata.proofs.Widths.{place_ends}

pub raised_counter : (order by i : ℕ) (low high : List ℕ) → IsRaised order by low i high → counter order low i + by < 2 ^ (2 ^ order) → counter order high i ≡ counter order low i + by
raised_counter order by i low high r room =
    rw r.cell_number (raised_digit (big_endian (cell order low i)) (bit_start order i) (2 ^ order) by room)

pub lowered_counter : (order by i : ℕ) (low high : List ℕ) → IsRaised order by low i high → by ≤ counter order high i → counter order low i + by < 2 ^ (2 ^ order)
lowered_counter order by i low high r some =
    lowered_digit (big_endian (cell order low i)) (bit_start order i) (2 ^ order) by (rw r.cell_number at some)

-- A raised digit doesn't change the digit at another position.
other_digit : (x w p q by : ℕ) → p ≢ q → x / 2 ^ (p * w) % 2 ^ w + by < 2 ^ w → (x + by * 2 ^ (p * w)) / 2 ^ (q * w) % 2 ^ w ≡ x / 2 ^ (q * w) % 2 ^ w
other_digit x w p q by ne room =
    elim (cases_order p q) [
      | inl e ↦ absurd (ne e)
      | inr o ↦ elim o [
        | inl lt ↦ ap (λ (d : ℕ). d % 2 ^ w) (raised_above x (p * w) w (q * w) by room (place_ends p q w lt))
        | inr lt ↦ raised_below x (p * w) w (q * w) by (place_ends q p w lt)
      ]
    ]

-- A part before or after the cell is unchanged.
before_cell : (a s n : ℕ) (low high : List ℕ) → a + n ≤ s → take s high ≡ take s low → take n (drop a high) ≡ take n (drop a low)
before_cell a s n low high h e =
    sym (drop-take a n high)
    ∙ ap (λ (bs : List ℕ). drop a bs) (sym (take-take (a + n) s high h) ∙ ap (λ (bs : List ℕ). take (a + n) bs) e ∙ take-take (a + n) s low h)
    ∙ drop-take a n low

after_cell : (a s n : ℕ) (low high : List ℕ) → s ≤ a → drop s high ≡ drop s low → take n (drop a high) ≡ take n (drop a low)
after_cell a s n low high h e =
    let place : s + (a - s) ≡ a = omega arith in
    let rest : drop a high ≡ drop a low =
    ap (λ (k : ℕ). drop k high) (sym place)
    ∙ sym (drop-drop (a - s) s high)
    ∙ ap (λ (bs : List ℕ). drop (a - s) bs) e
    ∙ drop-drop (a - s) s low
    ∙ ap (λ (k : ℕ). drop k low) place
    in ap (λ (bs : List ℕ). take n bs) rest

-- Every other refcount is unchanged.
pub raised_others : (order by i : ℕ) (low high : List ℕ) → IsRaised order by low i high → counter order low i + by < 2 ^ (2 ^ order) → (j : ℕ) → j ≢ i → counter order high j ≡ counter order low j
raised_others order by i low high r room j ne =
    let m = cell_counters order in
    let n = cell_bytes order in
    elim (cases_order (i / m) (j / m)) [
      | inl same ↦
          let apart : i % m ≢ j % m =
          λ e. ne (omega (arith, shr_split i (3 - order), shr_split j (3 - order), ap (λ (q : ℕ). q * m) same, e)) in
          let number : big_endian (cell order high j) ≡ big_endian (cell order low j) + by * 2 ^ bit_start order i =
          let at : (bs : List ℕ) → cell order bs j ≡ cell order bs i =
          λ bs. ap (λ (q : ℕ). take n (drop (q * n) bs)) (sym same) in
          rw (at high, at low) r.cell_number in
          let own : big_endian (cell order low j) / 2 ^ bit_start order i % 2 ^ (2 ^ order) + by < 2 ^ (2 ^ order) =
          rw (ap (λ (q : ℕ). take n (drop (q * n) low)) (sym same)) room in
          rw number (other_digit (big_endian (cell order low j)) (2 ^ order) (i % m) (j % m) by apart own)
      | inr o ↦ elim o [
        | inl lt ↦
            ap (λ (bs : List ℕ). big_endian bs / 2 ^ bit_start order j % 2 ^ (2 ^ order))
            (after_cell (cell_start order j) (cell_start order i + n) n low high (place_ends (i / m) (j / m) n lt) r.after)
        | inr lt ↦
            ap (λ (bs : List ℕ). big_endian bs / 2 ^ bit_start order j % 2 ^ (2 ^ order))
            (before_cell (cell_start order j) (cell_start order i) n low high (place_ends (j / m) (i / m) n lt) r.before)
      ]
    ]

-- A fact on `Ok`, from the condition of success and its effect.
pub on_ok_where : {T E P Q R : Type 0} (r : Result T E) → (IsOk r ↔ P) → OnOk r Q → (P → Q → R) → OnOk r R
on_ok_where (Ok x) h q f = f (h.0 refl) q
on_ok_where (Err e) h q f = tt
