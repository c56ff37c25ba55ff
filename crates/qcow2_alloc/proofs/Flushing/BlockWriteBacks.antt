-- Writing a dirty block to its cluster keeps the file consistent and the caches well-formed.
use Rattle.std.proofs.Common.{◌≡◌, ◌≢◌, ℕ, ◌+◌, ◌*◌, ◌/◌, ◌^◌, ◌<◌, ◌≤◌, refl, arith, ap, sym, subst, ◌∙◌, List, length, true, false, inl, inr}
use Rattle.std.specs.Prelude.{Some, ◌⊎◌, slice_index}
use Rattle.std.proofs.lemmas.Bool.{cases_eq}
use Rattle.std.proofs.lemmas.Nat.{pow_pos}
use Rattle.std.proofs.lemmas.Grind.{same_number_lists}
use Rattle.std.proofs.lemmas.List.FromFn.{length-map-range_with_len, get_or-map-range_with_len}
use Rattle.qcow2_types.proofs.Counting.Parts.{block_at-kept}
use Rattle.qcow2_types.specs.Bytes.{Bytes, bytes_of, splice}
use Rattle.qcow2_types.specs.Header.{Header, Shaped, cluster_size, refcount_table_entries}
use Rattle.qcow2_types.specs.Counts.{block_at, count, counter, counter_of, counters_of_block}
use Rattle.qcow2_types.specs.References.{refs}
use Rattle.qcow2_types.specs.TableBytes.{block_bytes}
use Rattle.qcow2_types.specs.Frames.{Same, Outside, SameStructureOutside, block}
use Rattle.qcow2_types.specs.Steps.{BlockWritten}
use Rattle.qcow2_types.specs.Versions.{SamePlaces, IsBetween, KeepsSlots}
use Rattle.qcow2_types.proofs.Changes.BlockSteps.{block-kept, block-written, counters-written}
use Rattle.qcow2_types.proofs.Counting.Counters.{count-same}
use Rattle.qcow2_types.proofs.Counting.Either.{refs-file, refs-kept, between-kept, block-before-tables, block-after-tables, block-without-order}
use Rattle.qcow2_types.proofs.Changes.Frames.{splice-is-outside}
use Rattle.qcow2_types.proofs.Numbers.Splices.{splice-inside}
use Rattle.qcow2_metadata.specs.Tables.{TableValue}
use Rattle.qcow2_metadata.specs.Blocks.{Block, counters_in}
use Rattle.qcow2_alloc.specs.declared.async_lru_cache.Slot.{Slot}
use Rattle.qcow2_alloc.specs.declared.cache.CacheDependency.{CacheDependency}
use Rattle.qcow2_alloc.specs.declared.cache.CacheDependency.TheVariants.{Unset, L2DependsOnRb, RbDependsOnL2}
use Rattle.qcow2_alloc.specs.Memory.{memory}
use Rattle.qcow2_alloc.specs.WellFormedness.{IsCachedTable, IsCachedBlock, IsOrdered, WellFormed, AreTablesClean}
use Rattle.qcow2_alloc.proofs.Memory.Patches.{all-weaker, places-differ, place-there, shaped-in}
use Rattle.qcow2_alloc.proofs.Caching.SingleEntries.{block-kind-laws, entry-fits}
use Rattle.qcow2_alloc.proofs.Flushing.EntryWriteBacks.{EntryWritten, entry-written, fills, shown}
use Rattle.qcow2_alloc.proofs.Memory.EntryKinds.{block_kind, blocks_with}
use Rattle.qcow2_alloc.proofs.Memory.FittingWords.{table-still, block-still}
use Rattle.qcow2_alloc.proofs.Memory.MemoryWords.{places-in-memory, slot-same}

block-number : (i k : ℕ) → block i ≡ block k → i ≡ k
block-number i k same = cc

module _ (f : Bytes) (H : Header) (tables : List (ℕ × Slot TableValue)) (front : List (ℕ × Slot Block)) (key : ℕ) (here : Slot Block) (back : List (ℕ × Slot Block)) (order : CacheDependency)
    (well_formed : WellFormed f H (blocks_with tables front key here back) order) (modified : here.value.modified ≡ true)
    (ready : order ≡ RbDependsOnL2 → AreTablesClean (blocks_with tables front key here back)) where
  abbrev g : Bytes
  g = memory f H.fields (blocks_with tables front key here back)

  this : IsCachedBlock f H.fields key here.value
  this = entry-fits block_kind block-kind-laws f H tables front key here back order well_formed

  abbrev r : ℕ
  r = (this.modified modified).0

  lt : r < refcount_table_entries H.fields
  lt = (this.modified modified).1

  place : block_at f H.fields r ≡ key * cluster_size H.fields
  place = (this.modified modified).2

  there : block_at f H.fields r ≢ 0
  there = λ none. place-there (cluster_size H.fields) key (pow_pos H.fields.cluster_bits) (this.modified modified).3 (sym place ∙ none)

  abbrev bytes : List ℕ
  bytes = block_bytes here.value.order here.value.counters

  fits : Shaped H.fields
  fits = shaped-in f H well_formed.consistent

  all : length bytes ≡ cluster_size H.fields
  all = fills block_kind block-kind-laws f H order tables front key here back well_formed modified (block_at f H.fields r) place

  show : (k : ℕ) → k < cluster_size H.fields → slice_index bytes k ≡ g (block_at f H.fields r + k)
  show = shown block_kind block-kind-laws f H order tables front key here back well_formed modified (block_at f H.fields r) place

  places : SamePlaces f g H.fields
  places = places-in-memory f H well_formed.consistent (blocks_with tables front key here back) well_formed.tables well_formed.blocks

  abbrev x : Bytes
  x = splice f (block_at f H.fields r) bytes

  outside : Outside f x (block_at f H.fields r) (length bytes)
  outside = splice-is-outside f (block_at f H.fields r) bytes

  keeps : SameStructureOutside f x H.fields (block r)
  keeps = let some : 0 < cluster_size H.fields = pow_pos H.fields.cluster_bits in
      block-kept f H well_formed.consistent r there x (block_at f H.fields r) (length bytes) (omega (arith, some, all)) outside (omega arith) (omega (arith, all))

  -- In the file, the clusters of this block now have the refcounts that they have in memory.
  counts-here : (c : ℕ) → c / counters_of_block H.fields ≡ r → (block_at x H.fields r ≡ block_at f H.fields r) → count x H.fields c ≡ count g H.fields c
  counts-here c own kept_place = sym (count-same x g H.fields c fits
      (subst (λ b. block_at g H.fields b ≡ block_at x H.fields b) (sym own) (places.blocks r ∙ sym kept_place))
      (λ some. subst (λ b. Same x g (block_at x H.fields b) (cluster_size H.fields)) (sym own)
      (subst (λ t. Same x g t (cluster_size H.fields)) (sym kept_place) (λ k less. sym (show k less) ∙ sym (splice-inside f (block_at f H.fields r) bytes k (omega (arith, less, all)))))))

  same_place : block_at x H.fields r ≡ block_at f H.fields r
  same_place = block_at-kept f x H.fields (block r) keeps r (λ e. cc)

  -- If all tables are clean, L2 entries mean the same in memory and in the file.
  words-kept : AreTablesClean (blocks_with tables front key here back) → KeepsSlots f g H.fields
  words-kept clean = record {
    places = places;
    slots = λ i j live. slot-same f H well_formed.consistent (blocks_with tables front key here back) well_formed.tables well_formed.blocks i j live
        (all-weaker _ _ (λ e off m. absurd (let both = sym off ∙ m in cc)) tables clean);
  }

  covers-by : (o : CacheDependency) → order ≡ o → IsOrdered o f g H.fields → (c : ℕ) → refs f H.fields c ≤ count g H.fields c
  covers-by Unset is both c = let a = refs-file f g H.fields c in let b = both.0.cached c in omega (arith, a, b)
  covers-by L2DependsOnRb is first c = let a = refs-file f g H.fields c in let b = first.cached c in omega (arith, a, b)
  covers-by RbDependsOnL2 is first c = let a = refs-kept f g H.fields c (words-kept (ready is)) in let b = well_formed.covered c in omega (arith, a, b)

  written : BlockWritten f x H r
  written = block-written f H well_formed.consistent r there x (block_at f H.fields r) (length bytes) outside (omega arith) (omega (arith, all))
      (λ c own. let a = covers-by order refl well_formed.ordered c in let b = counts-here c own same_place in omega (arith, a, b))

  counts : (c : ℕ) → (count x H.fields c ≡ count f H.fields c) ⊎ (count x H.fields c ≡ count g H.fields c)
  counts c = elim (cases_eq (c / counters_of_block H.fields) r) [
    | inl own ↦ inr (counts-here c own same_place)
    | inr other ↦ inl (written.counts c other)
  ]

  ordered-by : (o : CacheDependency) → order ≡ o → IsOrdered o f g H.fields → IsOrdered o x g H.fields
  ordered-by Unset is both = (block-before-tables f x g H.fields both.0 written.keeps counts, block-without-order f x g H.fields both.0 both.1 written.keeps counts)
  ordered-by L2DependsOnRb is first = block-before-tables f x g H.fields first written.keeps counts
  ordered-by RbDependsOnL2 is first = block-after-tables f x g H.fields first (words-kept (ready is)) well_formed.covered written.keeps counts

  between : IsBetween f x g H.fields
  between = between-kept f x g H.fields written.keeps

  -- Cached tables, and blocks at other clusters, fit the file as before.
  table-kept : (cluster : ℕ) (other : TableValue) → IsCachedTable f H.fields cluster other → IsCachedTable x H.fields cluster other
  table-kept cluster other = table-still f x H.fields between.places cluster (λ k j at live. keeps.raw_entries k j live (λ e. cc)) other

  block-kept-at : (cluster : ℕ) (other : Block) → key ≢ cluster → IsCachedBlock f H.fields cluster other → IsCachedBlock x H.fields cluster other
  block-kept-at cluster other apart =
      block-still f x H.fields between.places cluster
      (λ k inside some at. keeps.counters k inside some (λ e. places-differ (cluster_size H.fields) key cluster (pow_pos H.fields.cluster_bits) apart (sym place ∙ ap (block_at f H.fields) (block-number r k e) ∙ at))) other

  module _ (packs : (k : ℕ) → k < length here.value.counters → counter_of (bytes_of bytes) (2 ^ here.value.order) 0 k ≡ slice_index here.value.counters k)
      (settled : Slot Block) (counters_same : settled.value.counters ≡ here.value.counters) (bits_same : settled.value.cluster_bits ≡ here.value.cluster_bits) (order_same : settled.value.order ≡ here.value.order) (clean : settled.value.modified ≡ false) (at_key : settled.value.cluster ≡ Some key) where
    counters-read : counters_in x H.fields (block_at f H.fields r) ≡ here.value.counters
    counters-read =
        same_number_lists (counters_in x H.fields (block_at f H.fields r)) here.value.counters (length-map-range_with_len _ 0 (counters_of_block H.fields) ∙ sym this.long)
        (λ k inside.
        let less : k < counters_of_block H.fields = omega (arith, inside, length-map-range_with_len (counter x H.fields (block_at f H.fields r)) 0 (counters_of_block H.fields)) in
        get_or-map-range_with_len (counter x H.fields (block_at f H.fields r)) 0 (counters_of_block H.fields) k k 0 less (omega arith)
        ∙ counters-written f H.fields (block_at f H.fields r) bytes all k less
        ∙ ap (λ o. counter_of (bytes_of bytes) (2 ^ o) 0 k) (sym this.order)
        ∙ packs k (omega (arith, less, this.long)))

    settled-is : IsCachedBlock x H.fields key settled.value
    settled-is = record {
      placed = at_key;
      cluster_bits = bits_same ∙ this.cluster_bits;
      order = order_same ∙ this.order;
      long = ap (λ (l : List ℕ). length l) counters_same ∙ this.long;
      fit = rw (counters_same, order_same) this.fit;
      modified = λ m. absurd (let both = sym clean ∙ m in cc);
      clean = λ m live. counters_same ∙ sym (subst (λ t. counters_in x H.fields t ≡ here.value.counters) place counters-read);
    }

    pub cached-block-written : EntryWritten f (splice f (key * cluster_size H.fields) (block_bytes here.value.order here.value.counters)) H order (blocks_with tables front key here back) (blocks_with tables front key settled back)
    cached-block-written = entry-written block_kind block-kind-laws f H order tables front key here back well_formed modified (block_at f H.fields r) place
        written.consistent between (ordered-by order refl well_formed.ordered) block-kept-at table-kept settled clean settled-is
