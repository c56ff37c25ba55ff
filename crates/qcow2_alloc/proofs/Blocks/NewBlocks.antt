-- The counters of a block that will be linked, and of its cached copy.
use Rattle.std.proofs.Common.{◌≡◌, ◌≢◌, ℕ, ◌+◌, ◌*◌, ◌/◌, ◌%◌, ◌<◌, arith, ap, sym, subst, ◌∙◌, List, [], ◌∷◌, ◌++◌, length, inl, inr, false, Some, None}
use Rattle.std.specs.Prelude.{nat_eq, slice_index, slice_set, replicate}
use Rattle.std.specs.List.{AllByRecursion, IsDistinct}
use Rattle.std.specs.Map.{keys_of, lookup}
use Rattle.std.specs.Option.{option_map}
use Rattle.std.proofs.lemmas.Bool.{cases_eq, eqb-false}
use Rattle.std.proofs.lemmas.List.{get_or-set_same, get_or-set_other, length-replicate, get_or-replicate}
use Rattle.std.proofs.lemmas.List.FromFn.{get_or-map-range_with_len}
use Rattle.std.proofs.lemmas.Nat.{mod_below}
use Rattle.std.proofs.Math.Nat.{div-add-mod}
use Rattle.qcow2_types.specs.Bytes.{Bytes}
use Rattle.qcow2_types.specs.Header.{Fields, cluster_size}
use Rattle.qcow2_types.specs.Counts.{counter, counters_of_block}
use Rattle.qcow2_types.proofs.Counting.Counters.{some-counters}
use Rattle.qcow2_metadata.specs.Blocks.{Block, counters_in}
use Rattle.qcow2_alloc.specs.declared.async_lru_cache.Slot.{Slot}
use Rattle.qcow2_alloc.specs.GuestView.{Metadata, one_at, IsSound}
use Rattle.qcow2_alloc.proofs.Memory.Patches.{all-append, all-weaker, others-before, others-behind, shaped-in}
use Rattle.qcow2_alloc.proofs.Caching.Places.{Place, place-of-key, away-of-all, slot-of}
use Rattle.qcow2_alloc.proofs.GuestView.QuietCounters.{here-one, away-none}

pub counter-read : (f : Bytes) (h : Fields) (place : ℕ) (counters : List ℕ) → counters_in f h place ≡ counters → (j : ℕ) → j < counters_of_block h → counter f h place j ≡ slice_index counters j
counter-read f h place counters is j lt = sym (get_or-map-range_with_len (counter f h place) 0 (counters_of_block h) j j 0 lt (omega arith)) ∙ ap (λ (l : List ℕ). slice_index l j) is

module _ (m : Metadata) (sound : IsSound m) (i d : ℕ) where
  abbrev k : ℕ
  k = counters_of_block m.header.fields

  some : 0 < counters_of_block m.header.fields
  some = some-counters m.header.fields (shaped-in m.file m.header sound.well_formed.consistent)

  zero-at : (j : ℕ) → j < counters_of_block m.header.fields → slice_index (replicate (counters_of_block m.header.fields) 0) j ≡ 0
  zero-at j lt = get_or-replicate (counters_of_block m.header.fields) j 0 0 lt

  -- A block of zeros counts none of its clusters.
  pub zeroes-count : d / k ≢ i → counters_in m.file m.header.fields (d * cluster_size m.header.fields) ≡ replicate (counters_of_block m.header.fields) 0
      → (c : ℕ) → c / k ≡ i → counter m.file m.header.fields (d * cluster_size m.header.fields) (c % k) ≡ one_at d c
  zeroes-count other is c own =
      counter-read m.file m.header.fields (d * cluster_size m.header.fields) (replicate (counters_of_block m.header.fields) 0) is (c % k) (mod_below c k some) ∙ zero-at (c % k) (mod_below c k some)
      ∙ sym (away-none d c (λ same. other (sym (ap (λ x. x / k) same) ∙ own)))

  -- A block that counts itself counts no other cluster.
  pub itself-counts : d / k ≡ i → counters_in m.file m.header.fields (d * cluster_size m.header.fields) ≡ slice_set (replicate (counters_of_block m.header.fields) 0) (d % k) 1
      → (c : ℕ) → c / k ≡ i → counter m.file m.header.fields (d * cluster_size m.header.fields) (c % k) ≡ one_at d c
  itself-counts itself is c own =
      counter-read m.file m.header.fields (d * cluster_size m.header.fields) (slice_set (replicate (counters_of_block m.header.fields) 0) (d % k) 1) is (c % k) (mod_below c k some)
      ∙ elim (cases_eq c d) [
        | inl same ↦
            ap (λ x. slice_index (slice_set (replicate (counters_of_block m.header.fields) 0) (d % k) 1) (x % k)) same
            ∙ get_or-set_same (replicate (counters_of_block m.header.fields) 0) (d % k) 1 0 (let lt = mod_below d k some in let long = length-replicate {A = ℕ} (counters_of_block m.header.fields) 0 in omega (arith, lt, long))
            ∙ sym (ap (one_at d) same ∙ here-one d)
        | inr apart ↦
            get_or-set_other (replicate (counters_of_block m.header.fields) 0) (d % k) (c % k) 1 0 (λ same. apart (whole c d (own ∙ sym itself) same))
            ∙ zero-at (c % k) (mod_below c k some) ∙ sym (away-none d c apart)
      ]
    where
      whole : (a b : ℕ) → a / k ≡ b / k → a % k ≡ b % k → a ≡ b
      whole a b rows columns =
          let x = div-add-mod a k in
          let y = div-add-mod b k in
          sym x ∙ ap (λ q. k * q + a % k) rows ∙ ap (λ r. k * (b / k) + r) columns ∙ y

pub none-cached : (key : ℕ) (es : List (ℕ × Slot Block)) (counters : List ℕ) → lookup (nat_eq key) es ≡ None → AllByRecursion (λ e. e.0 ≡ key → e.1.value.counters ≡ counters) es
none-cached key es counters none = over es (away-of-all key es none)
  where
    over : (es : List (ℕ × Slot Block)) → AllByRecursion (λ y. nat_eq key y ≡ false) (keys_of es) → AllByRecursion (λ e. e.0 ≡ key → e.1.value.counters ≡ counters) es
    over [] away = tt
    over (e ∷ es) away = ((λ same. absurd (eqb-false key e.0 away.0 (sym same))), over es away.1)

pub one-cached : (key : ℕ) (es : List (ℕ × Slot Block)) (block : Block) → IsDistinct nat_eq (keys_of es) → option_map (λ s. s.value) (lookup (nat_eq key) es) ≡ Some block → AllByRecursion (λ e. e.0 ≡ key → e.1.value.counters ≡ block.counters) es
one-cached key es block apart there =
    let found = slot-of (lookup (nat_eq key) es) block there in
    let place : Place key es found.0 = place-of-key key es found.0 found.1 in
    let apart' : IsDistinct nat_eq (keys_of (place.front ++ (key, found.0) ∷ place.back)) = subst (λ (l : List (ℕ × Slot Block)). IsDistinct nat_eq (keys_of l)) place.is apart in
    subst (λ (l : List (ℕ × Slot Block)). AllByRecursion (λ e. e.0 ≡ key → e.1.value.counters ≡ block.counters) l) (sym place.is)
    (all-append _ place.front ((key, found.0) ∷ place.back)
    (all-weaker _ _ (λ e away same. absurd (away (sym same))) place.front (others-before key found.0 place.front place.back apart'))
    ((λ same. ap (λ (b : Block). b.counters) found.2), all-weaker _ _ (λ e away same. absurd (away (sym same))) place.back (others-behind key found.0 place.front place.back apart')))

-- Counter `i` exists and is 0.
pub record ClearedAt (counters : List ℕ) (i : ℕ) : Type 0 where
  pub inside : i < length counters
  pub zero : slice_index counters i ≡ 0

pub cleared-at : (counters : List ℕ) (i k c : ℕ) → counters ≡ replicate k 0 → 0 < k → i ≡ c % k → ClearedAt counters i
cleared-at counters i k c is some at =
    let lt = mod_below c k some in
    let long = ap (λ (l : List ℕ). length l) is ∙ length-replicate {A = ℕ} k 0 in
    record { inside = omega (arith, lt, long, at); zero = ap (λ (l : List ℕ). slice_index l i) is ∙ get_or-replicate k i 0 0 (omega (arith, lt, at)) }
