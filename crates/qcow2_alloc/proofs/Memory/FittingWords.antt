-- Cached tables and blocks fit a file with the same entries and counters.
use Rattle.std.proofs.Common.{◌≡◌, ◌≢◌, ℕ, ◌+◌, ◌-◌, ◌*◌, ◌<◌, arith, sym, subst, ◌∙◌, List, length, inl, inr}
use Rattle.std.specs.Prelude.{◌⊎◌, slice_index}
use Rattle.std.proofs.lemmas.Bool.{cases_lt}
use Rattle.std.proofs.lemmas.Nat.{pow_pos}
use Rattle.qcow2_types.specs.Bytes.{Bytes, splice, raw_entry}
use Rattle.qcow2_types.specs.Header.{Fields, cluster_size, entries_of_cluster, refcount_table_entries}
use Rattle.qcow2_types.specs.Entries.{l2_table}
use Rattle.qcow2_types.specs.Counts.{block_at, counter, counters_of_block}
use Rattle.qcow2_types.specs.Frames.{Same}
use Rattle.qcow2_types.specs.Slots.{Live}
use Rattle.qcow2_types.specs.Switched.{with_reftable}
use Rattle.qcow2_types.specs.Versions.{SamePlaces}
use Rattle.qcow2_types.proofs.Counting.Counters.{counter-same}
use Rattle.qcow2_types.proofs.Numbers.Splices.{splice-inside, splice-outside}
use Rattle.qcow2_metadata.specs.Tables.{TableValue, raw_entries_in}
use Rattle.qcow2_metadata.specs.Blocks.{Block, counters_in}
use Rattle.qcow2_alloc.specs.WellFormedness.{IsCachedTable, IsCachedBlock}
use Rattle.qcow2_alloc.proofs.Freeing.Lists.{map-same}
use Rattle.qcow2_alloc.proofs.Memory.Patches.{place-there}

pub written-either : (f g : Bytes) (at : ℕ) (bytes : List ℕ) → ((k : ℕ) → k < length bytes → slice_index bytes k ≡ g (at + k)) → (p : ℕ) → (splice f at bytes p ≡ f p) ⊎ (splice f at bytes p ≡ g p)
written-either f g at bytes shown p = elim (cases_lt p at) [
  | inl before ↦ inl (splice-outside f at bytes p (inl before))
  | inr le ↦ elim (cases_lt p (at + length bytes)) [
    | inl inside ↦ inr (
        let place : at + (p - at) ≡ p = omega (arith, le) in
        rw place at (splice-inside f at bytes (p - at) (omega (arith, le, inside)) ∙ shown (p - at) (omega (arith, le, inside))))
    | inr past ↦ inl (splice-outside f at bytes p (inr past))
  ]
]

-- A cached table still fits if its entries are the same, also under another refcount table.
pub table-fits : (f x : Bytes) (h : Fields) (offset clusters : ℕ) → ((i : ℕ) → l2_table x (with_reftable h offset clusters) i ≡ l2_table f h i) → (cluster : ℕ)
    → ((i j : ℕ) → l2_table f h i ≡ cluster * cluster_size h → Live (l2_table f h) h i j → raw_entry x (l2_table f h i) j ≡ raw_entry f (l2_table f h i) j)
    → (t : TableValue) → IsCachedTable f h cluster t → IsCachedTable x (with_reftable h offset clusters) cluster t
table-fits f x h offset clusters tables cluster raw_entries t is = record {
  fits = is.fits;
  placed = is.placed;
  layout = is.layout;
  modified = λ m. let live = is.modified m in (live.0, live.1, tables live.0 ∙ live.2, live.3);
  clean = λ m live.
      let at : l2_table f h live.0 ≡ cluster * cluster_size h = sym (tables live.0) ∙ live.2 in
      let there : l2_table f h live.0 ≢ 0 = λ none. place-there (cluster_size h) cluster (pow_pos h.cluster_bits) live.3 (sym at ∙ none) in
      is.clean m (live.0, live.1, at, live.3)
      ∙ subst (λ p. raw_entries_in f p (entries_of_cluster h) ≡ raw_entries_in x p (entries_of_cluster h)) at
      (map-same (raw_entry f (l2_table f h live.0)) (raw_entry x (l2_table f h live.0)) (entries_of_cluster h)
      (λ j less. sym (raw_entries live.0 j at (record { in_l1 = live.1; is_there = there; in_table = less }))));
}

pub counters-same : (f x : Bytes) (h : Fields) (place : ℕ) → Same f x place (cluster_size h) → counters_in x h place ≡ counters_in f h place
counters-same f x h place same = map-same (counter x h place) (counter f h place) (counters_of_block h) (λ k less. counter-same f x h place same k less)

-- Tables and blocks are at the same offsets.
module _ (f x : Bytes) (h : Fields) (places : SamePlaces f x h) (cluster : ℕ) where
  pub table-still : ((i j : ℕ) → l2_table f h i ≡ cluster * cluster_size h → Live (l2_table f h) h i j → raw_entry x (l2_table f h i) j ≡ raw_entry f (l2_table f h i) j)
      → (t : TableValue) → IsCachedTable f h cluster t → IsCachedTable x h cluster t
  table-still = table-fits f x h h.refcount_table_offset h.refcount_table_clusters places.l1 cluster

  pub block-still : ((i : ℕ) → i < refcount_table_entries h → block_at f h i ≢ 0 → block_at f h i ≡ cluster * cluster_size h → Same f x (block_at f h i) (cluster_size h))
      → (b : Block) → IsCachedBlock f h cluster b → IsCachedBlock x h cluster b
  block-still bytes b is = record {
    placed = is.placed;
    cluster_bits = is.cluster_bits;
    order = is.order;
    long = is.long;
    fit = is.fit;
    modified = λ m. let live = is.modified m in (live.0, live.1, places.blocks live.0 ∙ live.2, live.3);
    clean = λ m live.
        let at : block_at f h live.0 ≡ cluster * cluster_size h = sym (places.blocks live.0) ∙ live.2 in
        let there : block_at f h live.0 ≢ 0 = λ none. place-there (cluster_size h) cluster (pow_pos h.cluster_bits) live.3 (sym at ∙ none) in
        is.clean m (live.0, live.1, at, live.3)
        ∙ subst (λ p. counters_in f h p ≡ counters_in x h p) at (sym (counters-same f x h (block_at f h live.0) (bytes live.0 live.1 there at)));
  }
