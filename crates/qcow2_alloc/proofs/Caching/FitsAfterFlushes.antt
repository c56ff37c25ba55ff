-- A table or block that fits the file still fits after flushes of other entries.
use Rattle.std.proofs.Common.{◌≡◌, ◌≢◌, ℕ, ◌+◌, ◌*◌, sym, ◌∙◌, List, Bool, true, false, inl, inr}
use Rattle.std.specs.List.{AllByRecursion}
use Rattle.std.proofs.lemmas.Bool.{cases_eq}
use Rattle.std.proofs.lemmas.Nat.{pow_pos}
use Rattle.qcow2_types.specs.Bytes.{Bytes}
use Rattle.qcow2_types.specs.Header.{Header, cluster_size}
use Rattle.qcow2_types.specs.Entries.{l2_table}
use Rattle.qcow2_types.specs.Counts.{block_at}
use Rattle.qcow2_types.specs.Frames.{Same}
use Rattle.qcow2_types.proofs.Changes.Frames.{word-same}
use Rattle.qcow2_types.proofs.Counting.Parts.{words-fit}
use Rattle.qcow2_metadata.specs.Tables.{TableValue}
use Rattle.qcow2_metadata.specs.Blocks.{Block}
use Rattle.qcow2_alloc.specs.declared.async_lru_cache.Slot.{Slot}
use Rattle.qcow2_alloc.specs.declared.cache.CacheDependency.{CacheDependency}
use Rattle.qcow2_alloc.specs.Memory.{Cached, memory}
use Rattle.qcow2_alloc.specs.WellFormedness.{WellFormed, IsCrashImage, IsCachedTable, IsCachedBlock}
use Rattle.qcow2_alloc.proofs.Memory.FittingWords.{table-still, block-still}
use Rattle.qcow2_alloc.proofs.Memory.MemoryWords.{table-same, block-same}
use Rattle.qcow2_alloc.proofs.Memory.Patches.{all-weaker, places-differ}

module _ (f : Bytes) (H : Header) (order : CacheDependency) (cached : Cached) (well_formed : WellFormed f H cached order) (x : Bytes) (left : IsCrashImage f (memory f H.fields cached) H x) where
  -- Each crash image has the bytes of the file wherever memory has them.
  same-left : (place : ℕ) → Same f (memory f H.fields cached) place (cluster_size H.fields) → Same f x place (cluster_size H.fields)
  same-left place same k lt = elim (left.bytes (place + k)) [ inl was ↦ was | inr now ↦ now ∙ same k lt ]

  -- The cluster of a clean entry differs from those of all dirty entries.
  apart-from : {V : Type 0} (modified : V → Bool) (key place : ℕ) (es : List (ℕ × V)) → place ≡ key * cluster_size H.fields → AllByRecursion (λ e. e.0 ≡ key → modified e.1 ≡ false) es
      → AllByRecursion (λ e. modified e.1 ≡ true → e.0 * cluster_size H.fields ≢ place) es
  apart-from modified key place es at free = all-weaker _ _ (λ e off on same. elim (cases_eq e.0 key) [
    | inl here ↦ let no = sym (off here) ∙ on in cc
    | inr away ↦ places-differ (cluster_size H.fields) e.0 key (pow_pos H.fields.cluster_bits) away (same ∙ at)
  ]) es free

  pub table-stays : (key : ℕ) (t : TableValue) → AllByRecursion (λ e. e.0 ≡ key → e.1.value.modified ≡ false) cached.tables → IsCachedTable f H.fields key t → IsCachedTable x H.fields key t
  table-stays key t free = table-still f x H.fields left.raw_entries.places key
      (λ i j at live. word-same f x (l2_table f H.fields i) (cluster_size H.fields) j
      (same-left (l2_table f H.fields i) (table-same f H well_formed.consistent cached well_formed.tables well_formed.blocks i live.in_l1 live.is_there (apart-from (λ (s : Slot TableValue). s.value.modified) key (l2_table f H.fields i) cached.tables at free)))
      (words-fit H.fields j live.in_table)) t

  pub block-stays : (key : ℕ) (b : Block) → AllByRecursion (λ e. e.0 ≡ key → e.1.value.modified ≡ false) cached.blocks → IsCachedBlock f H.fields key b → IsCachedBlock x H.fields key b
  block-stays key b free = block-still f x H.fields left.raw_entries.places key
      (λ i inside some at. same-left (block_at f H.fields i)
      (block-same f H well_formed.consistent cached well_formed.tables well_formed.blocks i inside some (apart-from (λ (s : Slot Block). s.value.modified) key (block_at f H.fields i) cached.blocks at free))) b
