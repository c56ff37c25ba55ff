-- References and cached entries, if each entry keeps its meaning in the file and in memory, under any refcount table.
use Rattle.std.proofs.Common.{◌≡◌, ℕ, ◌+◌, ◌*◌, ◌≤◌, refl, arith, ap, ◌∙◌, true, false}
use Rattle.std.specs.Prelude.{max, Some, None}
use Rattle.qcow2_types.specs.Bytes.{Bytes}
use Rattle.qcow2_types.specs.Words.{Mapping, data_at, zeroes, packed, unmapped, damaged}
use Rattle.qcow2_types.specs.Header.{Fields, cluster_size}
use Rattle.qcow2_types.specs.Entries.{l2_table}
use Rattle.qcow2_types.specs.Counts.{count, counter}
use Rattle.qcow2_types.specs.References.{Weight, structure, contents, of_mapping, of_copied, meets, refs}
use Rattle.qcow2_types.specs.Slots.{slot, Live, over_slots}
use Rattle.qcow2_types.specs.Switched.{with_reftable}
use Rattle.qcow2_types.specs.Versions.{of_either, references_in_either, copied}
use Rattle.qcow2_types.proofs.Counting.Either.{tables-same}
use Rattle.std.proofs.Math.Nat.{le-max_left}
use Rattle.qcow2_types.proofs.Counting.Slots.{contents-slots, slots-same, slot-le}
use Rattle.qcow2_metadata.specs.Blocks.{Block, counters_in}
use Rattle.qcow2_alloc.specs.declared.cache.CacheDependency.{CacheDependency}
use Rattle.qcow2_alloc.specs.declared.cache.CacheDependency.TheVariants.{Unset, L2DependsOnRb, RbDependsOnL2}
use Rattle.qcow2_alloc.specs.WellFormedness.{IsLiveBlock, IsCachedBlock, IsOrdered}
use Rattle.qcow2_alloc.proofs.GuestView.QuietSequences.{of-moved}

-- COPIED references don't depend on the refcount table.
copied-moved : (h h' : Fields) → cluster_size h' ≡ cluster_size h → (w : Weight) (m : Mapping) → of_copied h' w m ≡ of_copied h w m
copied-moved h h' same w (data_at cluster true) = ap (λ s. w (cluster * s) s) same
copied-moved h h' same w (data_at cluster false) = refl
copied-moved h h' same w (zeroes (Some cluster) true) = ap (λ s. w (cluster * s) s) same
copied-moved h h' same w (zeroes (Some cluster) false) = refl
copied-moved h h' same w (zeroes None copied) = refl
copied-moved h h' same w (packed offset length) = refl
copied-moved h h' same w unmapped = refl
copied-moved h h' same w damaged = refl

-- File `f` with memory `g` becomes file `x` with memory `y`.
module _ (f g x y : Bytes) (h : Fields) (offset clusters : ℕ) (tables : (i : ℕ) → l2_table x (with_reftable h offset clusters) i ≡ l2_table f h i)
    (file : (i j : ℕ) → Live (l2_table f h) h i j → slot x (with_reftable h offset clusters) i j ≡ slot f h i j)
    (cached : (i j : ℕ) → Live (l2_table f h) h i j → slot y (with_reftable h offset clusters) i j ≡ slot g h i j) where
  abbrev h' : Fields
  h' = with_reftable h offset clusters

  slots-moved : (t : ℕ → ℕ) (p : ℕ → ℕ → ℕ) → over_slots t h' p ≡ over_slots t h p
  unfolding over_slots
  slots-moved t p = refl

  weighs-same : (d i j : ℕ) → Live (l2_table f h) h i j → of_either h' (meets h' d) (slot x h' i j) (slot y h' i j) ≡ of_either h (meets h d) (slot f h i j) (slot g h i j)
  weighs-same d i j live =
      ap (λ n. max n (of_mapping h' (meets h' d) (slot y h' i j))) (of-moved h h' refl (meets h d) (slot x h' i j) ∙ ap (of_mapping h (meets h d)) (file i j live))
      ∙ ap (λ n. max (of_mapping h (meets h d) (slot f h i j)) n) (of-moved h h' refl (meets h d) (slot y h' i j) ∙ ap (of_mapping h (meets h d)) (cached i j live))

  marked-same : (d i j : ℕ) → Live (l2_table f h) h i j → max (of_copied h' (meets h' d) (slot x h' i j)) (of_copied h' (meets h' d) (slot y h' i j)) ≡ max (of_copied h (meets h d) (slot f h i j)) (of_copied h (meets h d) (slot g h i j))
  marked-same d i j live =
      ap (λ n. max n (of_copied h' (meets h' d) (slot y h' i j))) (copied-moved h h' refl (meets h d) (slot x h' i j) ∙ ap (of_copied h (meets h d)) (file i j live))
      ∙ ap (λ n. max (of_copied h (meets h d) (slot f h i j)) n) (copied-moved h h' refl (meets h d) (slot y h' i j) ∙ ap (of_copied h (meets h d)) (cached i j live))

  -- All references change as those of the structure do.
  pub named-more : (d old new : ℕ) → structure x h' (meets h' d) + old ≡ structure f h (meets h d) + new → references_in_either x y h' d + old ≡ references_in_either f g h d + new
  unfolding references_in_either
  named-more d old new more =
      let raw_entries = slots-moved (l2_table x h') (λ i j. of_either h' (meets h' d) (slot x h' i j) (slot y h' i j)) ∙ tables-same (l2_table f h) (l2_table x h') h _ tables ∙ slots-same (l2_table f h) h _ _ (weighs-same d) in
      omega (arith, raw_entries, more)

  pub copied-stays : (d : ℕ) → copied x y h' d ≡ copied f g h d
  unfolding copied
  copied-stays d = slots-moved (l2_table x h') (λ i j. max (of_copied h' (meets h' d) (slot x h' i j)) (of_copied h' (meets h' d) (slot y h' i j))) ∙ tables-same (l2_table f h) (l2_table x h') h _ tables ∙ slots-same (l2_table f h) h _ _ (marked-same d)

-- References of one L2 entry, or of the structure, are among all references.
pub word-named : (f g : Bytes) (h : Fields) (d i j : ℕ) → Live (l2_table f h) h i j → of_mapping h (meets h d) (slot f h i j) ≤ references_in_either f g h d
unfolding references_in_either
word-named f g h d i j live =
    let one : of_mapping h (meets h d) (slot f h i j) ≤ of_either h (meets h d) (slot f h i j) (slot g h i j) = le-max_left (of_mapping h (meets h d) (slot f h i j)) (of_mapping h (meets h d) (slot g h i j)) in
    let all = slot-le (l2_table f h) h (λ k n. of_either h (meets h d) (slot f h k n) (slot g h k n)) i j live in
    omega (arith, one, all)

pub word-contents : (f : Bytes) (h : Fields) (d i j : ℕ) → Live (l2_table f h) h i j → of_mapping h (meets h d) (slot f h i j) ≤ contents f h (of_mapping h (meets h d))
word-contents f h d i j live =
    let all = contents-slots f h (of_mapping h (meets h d)) in
    let one = slot-le (l2_table f h) h (λ k n. of_mapping h (meets h d) (slot f h k n)) i j live in
    omega (arith, one, all)

pub structure-named : (f g : Bytes) (h : Fields) (d : ℕ) → structure f h (meets h d) ≤ references_in_either f g h d
unfolding references_in_either
structure-named f g h d = omega arith

-- The write order is kept if refcounts still cover the references.
pub ordered-still : (f g x y : Bytes) (h later : Fields) → ((d : ℕ) → references_in_either f g h d ≤ count g h d → references_in_either x y later d ≤ count y later d) → ((d : ℕ) → references_in_either f g h d ≤ count f h d → references_in_either x y later d ≤ count x later d)
    → ((d : ℕ) → refs x later d ≤ count x later d) → ((d : ℕ) → count g h d ≤ count f h d → count y later d ≤ count x later d) → (o : CacheDependency) → IsOrdered o f g h → IsOrdered o x y later
ordered-still f g x y h later cached file covers lowered Unset both = (
  record { cached = λ d. cached d (both.0.cached d); file = covers },
  record { file = λ d. file d (both.1.file d); lowered = λ d. lowered d (both.1.lowered d) },
)
ordered-still f g x y h later cached file covers lowered L2DependsOnRb first = record { cached = λ d. cached d (first.cached d); file = covers }
ordered-still f g x y h later cached file covers lowered RbDependsOnL2 first = record { file = λ d. file d (first.file d); lowered = λ d. lowered d (first.lowered d) }

-- A cached block fits the file as before.
pub block-fits : (f x : Bytes) (h : Fields) (offset clusters : ℕ) (cluster : ℕ) (b : Block) → (IsLiveBlock f h cluster → IsLiveBlock x (with_reftable h offset clusters) cluster)
    → (b.modified ≡ false → IsLiveBlock x (with_reftable h offset clusters) cluster → b.counters ≡ counters_in x h (cluster * cluster_size h))
    → IsCachedBlock f h cluster b → IsCachedBlock x (with_reftable h offset clusters) cluster b
unfolding counter
block-fits f x h offset clusters cluster b alive clean is = record {
  placed = is.placed;
  cluster_bits = is.cluster_bits;
  order = is.order;
  long = is.long;
  fit = is.fit;
  modified = λ m. alive (is.modified m);
  clean = clean;
}
