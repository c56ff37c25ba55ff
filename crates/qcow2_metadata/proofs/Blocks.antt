-- The list of a block's refcounts.
use Rattle.std.proofs.Common.{◌-◌, ◌≡◌, ◌≢◌, ℕ, ◌*◌, ◌/◌, ◌<◌, ◌∙◌, inl, inr, List, length, get_or, set, ap, sym, arith}
use Rattle.std.proofs.lemmas.Bool.{cases_eq}
use Rattle.std.proofs.lemmas.Nat.{div_below, div-add-mod', pow_pos}
use Rattle.std.proofs.lemmas.List.{same_lists, length-set, get_or-set_same, get_or-set_other}
use Rattle.std.proofs.lemmas.List.FromFn.{length-map-range_with_len, get_or-map-range_with_len}
use Rattle.std.proofs.Common.{true}
use Rattle.qcow2_metadata.specs.Cells.{cell_bytes, cell_counters, counter, counter_count, counters_of, HasCounter}
use Rattle.qcow2_metadata.specs.Blocks.{Block, block_of, with_counter}
use Rattle.qcow2_metadata.specs.BlockView.{seen_block}
use Rattle.qcow2_metadata.specs.declared.refblock.RefBlock.TheInside.{Inside}
use Rattle.qcow2_metadata.proofs.Widths.{place_ends}

pub has_counter : (order i : ℕ) (bytes : List ℕ) → i < counter_count order bytes → HasCounter order bytes i
has_counter order i bytes h =
    let n = cell_bytes order in
    let m = cell_counters order in
    let row : i / m < length bytes / n = div_below i m (length bytes / n) (pow_pos (3 - order)) h in
    omega (arith, place_ends (i / m) (length bytes / n) n row, div-add-mod' (length bytes) n)

pub counters_length : (order : ℕ) (bytes : List ℕ) → length (counters_of order bytes) ≡ counter_count order bytes
counters_length order bytes = length-map-range_with_len (counter order bytes) 0 (counter_count order bytes)

pub counters_at : (order i d : ℕ) (bytes : List ℕ) → i < counter_count order bytes → get_or (counters_of order bytes) i d ≡ counter order bytes i
counters_at order i d bytes h =
    get_or-map-range_with_len (counter order bytes) 0 (counter_count order bytes) i i d h (omega arith)

-- The lists differ at one refcount.
pub counters_set : (order i v : ℕ) (low high : List ℕ) → length high ≡ length low → i < counter_count order low → counter order high i ≡ v → ((j : ℕ) → j ≢ i → counter order high j ≡ counter order low j) → counters_of order high ≡ set (counters_of order low) i v
counters_set order i v low high len inside own others =
    let n = cell_bytes order in
    let m = cell_counters order in
    let same : counter_count order high ≡ counter_count order low = ap (λ (k : ℕ). k / n * m) len in
    let lengths : length (counters_of order high) ≡ length (set (counters_of order low) i v) =
    counters_length order high ∙ same ∙ sym (length-set (counters_of order low) i v ∙ counters_length order low) in
    same_lists (counters_of order high) (set (counters_of order low) i v) lengths (
    λ k d h.
    let high_in : k < counter_count order high = omega (arith, counters_length order high, h) in
    let low_in : k < counter_count order low = omega (arith, same, high_in) in
    counters_at order k d high high_in
    ∙ elim (cases_eq k i) [
      | inl e ↦ ap (counter order high) e ∙ own ∙ sym (ap (λ (j : ℕ). get_or (set (counters_of order low) i v) j d) e ∙ get_or-set_same (counters_of order low) i v d (omega (arith, counters_length order low, inside)))
      | inr ne ↦ others k ne ∙ sym (get_or-set_other (counters_of order low) i k v d ne ∙ counters_at order k d low low_in)
    ]
    )

-- The fields of a block, from its value as contracts see it.
module _ (s : Inside) (b : Block) (i : ℕ) (seen : seen_block s ≡ b) where
  abbrev pub low : List ℕ
  low = s.bytes.items

  pub seen_order : b.order ≡ s.refcount_order
  seen_order = ap (λ (v : Block). v.order) (sym seen)

  same_counters : counters_of s.refcount_order low ≡ b.counters
  same_counters = ap (λ (v : Block). v.counters) seen

  pub seen_bound : i < length b.counters → i < counter_count s.refcount_order low
  seen_bound h = omega (arith, counters_length s.refcount_order low, ap length same_counters, h)

  pub seen_at : i < length b.counters → get_or b.counters i 0 ≡ counter s.refcount_order low i
  seen_at h = ap (λ (cs : List ℕ). get_or cs i 0) (sym same_counters) ∙ counters_at s.refcount_order i 0 low (seen_bound h)

  -- The block with one refcount changed.
  pub seen_changed : (f : ℕ → ℕ) (high : List ℕ) → i < length b.counters → length high ≡ length low → counter s.refcount_order high i ≡ f (counter s.refcount_order low i)
      → ((j : ℕ) → j ≢ i → counter s.refcount_order high j ≡ counter s.refcount_order low j)
      → block_of s.cluster_bits s.refcount_order (counters_of s.refcount_order high) s.cluster true ≡ with_counter b i (f (get_or b.counters i 0))
  seen_changed f high h len own others =
      ap (λ (cs : List ℕ). block_of s.cluster_bits s.refcount_order cs s.cluster true) (
      counters_set s.refcount_order i (f (counter s.refcount_order low i)) low high len (seen_bound h) own others
      ∙ ap (λ (x : ℕ). set (counters_of s.refcount_order low) i (f x)) (sym (counters_at s.refcount_order i 0 low (seen_bound h)))
      )
      ∙ ap (λ (v : Block). with_counter v i (f (get_or v.counters i 0))) seen
