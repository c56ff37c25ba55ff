-- Writing a dirty table to its cluster keeps the file consistent and the caches well-formed.
use Rattle.std.proofs.Common.{◌≡◌, ◌≢◌, ℕ, ◌+◌, ◌*◌, ◌/◌, ◌^◌, ◌<◌, ◌≤◌, refl, arith, ap, sym, subst, ◌∙◌, List, length, true, false, inl, inr}
use Rattle.std.specs.Prelude.{Some, slice_index, IsFalse}
use Rattle.std.proofs.lemmas.Bool.{not-true}
use Rattle.std.proofs.lemmas.Nat.{pow_pos}
use Rattle.std.proofs.Math.Nat.{mul-div_left}
use Rattle.qcow2_types.specs.Bytes.{Bytes, splice, raw_entry}
use Rattle.qcow2_types.specs.Words.{Layout, mapping_of, is_damaged}
use Rattle.qcow2_types.specs.Header.{Header, Shaped, cluster_size, entries_of_cluster, layout_of}
use Rattle.qcow2_types.specs.Entries.{l2_table}
use Rattle.qcow2_types.specs.Counts.{count}
use Rattle.qcow2_types.specs.References.{structure, refs}
use Rattle.qcow2_types.specs.Slots.{Live, slot}
use Rattle.qcow2_types.specs.TableBytes.{table_bytes}
use Rattle.qcow2_types.specs.Consistency.{IsConsistent}
use Rattle.qcow2_types.specs.Frames.{Same, SameStructureOutside, table, touches}
use Rattle.qcow2_types.specs.Versions.{references_in_either, SamePlaces, IsBetween}
use Rattle.qcow2_types.proofs.Changes.Over.{table-over}
use Rattle.qcow2_types.proofs.Changes.Frames.{word-same}
use Rattle.qcow2_types.proofs.Counting.Parts.{words-fit}
use Rattle.qcow2_types.proofs.Counting.Sound.{sound-words, stop-consistent}
use Rattle.qcow2_types.proofs.Numbers.Splices.{splice-inside}
use Rattle.qcow2_types.proofs.Changes.Stops.{write-between, write-counts}
use Rattle.qcow2_types.proofs.Counting.Either.{table-after-blocks, table-before-blocks, table-without-order, refs-between}
use Rattle.qcow2_types.proofs.Changes.WriteBack.{once, kept, loads-still, shaped}
use Rattle.qcow2_metadata.specs.Tables.{TableValue, IsTable, l2_table_kind, raw_entries_in}
use Rattle.qcow2_metadata.specs.Blocks.{Block}
use Rattle.qcow2_alloc.specs.declared.async_lru_cache.Slot.{Slot}
use Rattle.qcow2_alloc.specs.declared.cache.CacheDependency.{CacheDependency}
use Rattle.qcow2_alloc.specs.declared.cache.CacheDependency.TheVariants.{Unset, L2DependsOnRb, RbDependsOnL2}
use Rattle.qcow2_alloc.specs.Memory.{Cached, memory}
use Rattle.qcow2_alloc.specs.WellFormedness.{IsCachedTable, IsCachedBlock, IsOrdered, WellFormed, AreBlocksClean}
use Rattle.qcow2_alloc.proofs.Memory.Patches.{places-differ, table-long, place-there}
use Rattle.qcow2_metadata.proofs.WrittenBack.{read_back}
use Rattle.qcow2_alloc.proofs.Caching.SingleEntries.{table-kind-laws, entry-fits, entry-shows}
use Rattle.qcow2_alloc.proofs.Flushing.EntryWriteBacks.{EntryWritten, entry-written, fills, shown}
use Rattle.qcow2_alloc.proofs.Memory.EntryKinds.{table_kind, tables_with}
use Rattle.qcow2_alloc.proofs.Memory.FittingWords.{table-still, block-still}
use Rattle.qcow2_alloc.proofs.Memory.MemoryWords.{find-table, places-in-memory, slot-same, counts-same}

table-number : (i k : ℕ) → table i ≡ table k → i ≡ k
table-number i k same = cc

-- The entries of a dirty table, in memory.
module _ (f : Bytes) (H : Header) (order : CacheDependency) (front : List (ℕ × Slot TableValue)) (key : ℕ) (here : Slot TableValue) (back : List (ℕ × Slot TableValue)) (blocks : List (ℕ × Slot Block))
    (well_formed : WellFormed f H (tables_with front key here back blocks) order) (modified : here.value.modified ≡ true) where
  this-table : IsCachedTable f H.fields key here.value
  this-table = entry-fits table_kind table-kind-laws f H blocks front key here back order well_formed

  long : length (table_bytes here.value.raw_entries) ≡ cluster_size H.fields
  long = table-long f H well_formed.consistent here.value this-table.fits this-table.layout

  shows : (k : ℕ) → k < cluster_size H.fields → slice_index (table_bytes here.value.raw_entries) k ≡ memory f H.fields (tables_with front key here back blocks) (key * cluster_size H.fields + k)
  shows k lt = sym (entry-shows table_kind table-kind-laws f H blocks front key here back order well_formed modified k (omega (arith, lt, long)))

  word-within : (j : ℕ) → j < entries_of_cluster H.fields → j < length here.value.raw_entries
  word-within j lt =
      let whole : length here.value.raw_entries * 8 ≡ 2 ^ here.value.layout.cluster_bits = this-table.fits.long in
      let bits : 2 ^ here.value.layout.cluster_bits ≡ cluster_size H.fields = ap (λ (l : Layout). 2 ^ l.cluster_bits) this-table.layout in
      let fits : 8 * j + 8 ≤ cluster_size H.fields = words-fit H.fields j lt in
      omega (arith, whole, bits, fits)

  pub word-here : (j : ℕ) → j < entries_of_cluster H.fields → raw_entry (memory f H.fields (tables_with front key here back blocks)) (key * cluster_size H.fields) j ≡ slice_index here.value.raw_entries j
  word-here j lt =
      let g : Bytes = memory f H.fields (tables_with front key here back blocks) in
      let at : ℕ = key * cluster_size H.fields in
      let same : Same (splice f (key * cluster_size H.fields) (table_bytes here.value.raw_entries)) (memory f H.fields (tables_with front key here back blocks)) (key * cluster_size H.fields) (cluster_size H.fields) =
      (λ k less. sym (shows k less) ∙ sym (splice-inside f (key * cluster_size H.fields) (table_bytes here.value.raw_entries) k (omega (arith, less, long)))) in
      word-same (splice f (key * cluster_size H.fields) (table_bytes here.value.raw_entries)) (memory f H.fields (tables_with front key here back blocks)) (key * cluster_size H.fields) (cluster_size H.fields) j same (words-fit H.fields j lt)
      ∙ table-over f (key * cluster_size H.fields) here.value.raw_entries j this-table.fits.fit (word-within j lt)

-- All L2 entries in memory are valid.
module _ (f : Bytes) (H : Header) (order : CacheDependency) where
  sound-here : (front : List (ℕ × Slot TableValue)) (key : ℕ) (here : Slot TableValue) (back : List (ℕ × Slot TableValue)) (blocks : List (ℕ × Slot Block)) → WellFormed f H (tables_with front key here back blocks) order → here.value.modified ≡ true
      → (i j : ℕ) → Live (l2_table f H.fields) H.fields i j → key * cluster_size H.fields ≡ l2_table f H.fields i
      → IsFalse (is_damaged (slot (memory f H.fields (tables_with front key here back blocks)) H.fields i j))
  sound-here front key here back blocks well_formed modified i j live place =
      let this = this-table f H order front key here back blocks well_formed modified in
      let places = places-in-memory f H well_formed.consistent (tables_with front key here back blocks) well_formed.tables well_formed.blocks in
      let means : slot (memory f H.fields (tables_with front key here back blocks)) H.fields i j ≡ mapping_of (layout_of H.fields) (slice_index here.value.raw_entries j) =
      ap (λ t. mapping_of (layout_of H.fields) (raw_entry (memory f H.fields (tables_with front key here back blocks)) t j)) (places.l1 i ∙ sym place)
      ∙ ap (mapping_of (layout_of H.fields)) (word-here f H order front key here back blocks well_formed modified j live.in_table) in
      ap is_damaged means ∙ subst (λ (l : Layout). is_damaged (mapping_of l (slice_index here.value.raw_entries j)) ≡ false) this.layout
      (not-true _ (this.fits.sound j (word-within f H order front key here back blocks well_formed modified j live.in_table)))

  pub memory-sound : (cached : Cached) → WellFormed f H cached order → (i j : ℕ) → Live (l2_table f H.fields) H.fields i j → IsFalse (is_damaged (slot (memory f H.fields cached) H.fields i j))
  memory-sound cached well_formed i j live = elim (find-table (cluster_size H.fields) (l2_table f H.fields i) cached.tables) [
    | inl a ↦
        subst (λ (ts : List (ℕ × Slot TableValue)). IsFalse (is_damaged (slot (memory f H.fields (record { tables = ts; blocks = cached.blocks })) H.fields i j))) (sym a.is)
        (sound-here a.front a.key a.slot a.back cached.blocks
        (subst (λ (ts : List (ℕ × Slot TableValue)). WellFormed f H (record { tables = ts; blocks = cached.blocks }) order) a.is well_formed) a.modified i j live a.place_is)
    | inr none ↦ ap is_damaged (slot-same f H well_formed.consistent cached well_formed.tables well_formed.blocks i j live none) ∙ (sound-words f H.fields well_formed.consistent.readable.tables).slots i j live
  ]

module _ (f : Bytes) (H : Header) (front : List (ℕ × Slot TableValue)) (key : ℕ) (here : Slot TableValue) (back : List (ℕ × Slot TableValue)) (blocks : List (ℕ × Slot Block)) (order : CacheDependency)
    (well_formed : WellFormed f H (tables_with front key here back blocks) order) (modified : here.value.modified ≡ true)
    (ready : order ≡ L2DependsOnRb → AreBlocksClean (tables_with front key here back blocks)) where
  abbrev g : Bytes
  g = memory f H.fields (tables_with front key here back blocks)

  this : IsCachedTable f H.fields key here.value
  this = this-table f H order front key here back blocks well_formed modified

  abbrev i : ℕ
  i = (this.modified modified).0

  lt : i < H.fields.l1_entries
  lt = (this.modified modified).1

  place : l2_table f H.fields i ≡ key * cluster_size H.fields
  place = (this.modified modified).2

  there : l2_table f H.fields i ≢ 0
  there = λ none. place-there (cluster_size H.fields) key (pow_pos H.fields.cluster_bits) (this.modified modified).3 (sym place ∙ none)

  abbrev bytes : List ℕ
  bytes = table_bytes here.value.raw_entries

  all : length bytes ≡ cluster_size H.fields
  all = fills table_kind table-kind-laws f H order blocks front key here back well_formed modified (l2_table f H.fields i) place

  show : (k : ℕ) → k < cluster_size H.fields → slice_index bytes k ≡ g (l2_table f H.fields i + k)
  show = shown table_kind table-kind-laws f H order blocks front key here back well_formed modified (l2_table f H.fields i) place

  places : SamePlaces f g H.fields
  places = places-in-memory f H well_formed.consistent (tables_with front key here back blocks) well_formed.tables well_formed.blocks

  abbrev x : Bytes
  x = splice f (l2_table f H.fields i) bytes

  fits : Shaped H.fields
  fits = shaped f g H i bytes well_formed.consistent lt there all show places

  alone : structure f H.fields (touches (l2_table f H.fields i) (length bytes)) ≤ 1
  alone = once f g H i bytes well_formed.consistent lt there all show places

  keeps : SameStructureOutside f x H.fields (table i)
  keeps = kept f g H i bytes well_formed.consistent lt there all show places

  between : IsBetween f x g H.fields
  between = write-between f g H.fields i bytes fits lt there all show alone places

  counts : (c : ℕ) → count x H.fields c ≡ count f H.fields c
  counts = write-counts f g H.fields i bytes fits lt there all show alone places

  clean : order ≡ L2DependsOnRb → (c : ℕ) → count g H.fields c ≡ count f H.fields c
  clean announced = counts-same f H well_formed.consistent (tables_with front key here back blocks) well_formed.tables well_formed.blocks (ready announced)

  ordered-by : (o : CacheDependency) → order ≡ o → IsOrdered o f g H.fields → IsOrdered o x g H.fields
  ordered-by Unset is both = (table-without-order f x g H.fields both.0 both.1 between counts, table-before-blocks f x g H.fields both.1 between counts)
  ordered-by L2DependsOnRb is first = table-after-blocks f x g H.fields first (clean is) between counts
  ordered-by RbDependsOnL2 is first = table-before-blocks f x g H.fields first between counts

  ordered : IsOrdered order x g H.fields
  ordered = ordered-by order refl well_formed.ordered

  counted-by : (o : CacheDependency) → IsOrdered o x g H.fields → IsOrdered o f g H.fields → (c : ℕ) → refs x H.fields c ≤ count x H.fields c
  counted-by Unset both was c = both.0.file c
  counted-by L2DependsOnRb first was c = first.file c
  counted-by RbDependsOnL2 first was c =
      let less : refs x H.fields c ≤ references_in_either f g H.fields c = refs-between f x g H.fields c between in
      let covers : references_in_either f g H.fields c ≤ count f H.fields c = was.file c in
      omega (arith, less, covers, counts c)

  consistent : IsConsistent x H
  consistent = stop-consistent f x g H well_formed.consistent (loads-still f g H i bytes well_formed.consistent lt there all show places)
      (record { l1 = λ k less. keeps.l1 k less (λ e. cc); blocks = λ k less. keeps.blocks k less (λ e. cc) }) between
      (memory-sound f H order (tables_with front key here back blocks) well_formed) well_formed.apart
      (counted-by order ordered well_formed.ordered)

  -- Cached tables at other clusters, and blocks, fit the file as before.
  table-kept : (cluster : ℕ) (other : TableValue) → key ≢ cluster → IsCachedTable f H.fields cluster other → IsCachedTable x H.fields cluster other
  table-kept cluster other apart =
      table-still f x H.fields between.places cluster
      (λ k j at live. keeps.raw_entries k j live (λ e. places-differ (cluster_size H.fields) key cluster (pow_pos H.fields.cluster_bits) apart (sym place ∙ ap (l2_table f H.fields) (table-number i k e) ∙ at))) other

  block-kept : (cluster : ℕ) (block : Block) → IsCachedBlock f H.fields cluster block → IsCachedBlock x H.fields cluster block
  block-kept cluster block = block-still f x H.fields between.places cluster (λ k inside some at. keeps.counters k inside some (λ e. cc)) block

  module _ (settled : Slot TableValue) (words_same : settled.value.raw_entries ≡ here.value.raw_entries) (layout_same : settled.value.layout ≡ here.value.layout) (written : settled.value.modified ≡ false) (at_key : settled.value.cluster ≡ Some key) where
    settled-fits : IsTable l2_table_kind settled.value
    settled-fits = record {
      low = subst (λ (l : Layout). 9 ≤ l.cluster_bits) (sym layout_same) this.fits.low;
      high = subst (λ (l : Layout). l.cluster_bits ≤ 21) (sym layout_same) this.fits.high;
      long = rw (layout_same, words_same) this.fits.long;
      sound = rw (layout_same, words_same) this.fits.sound;
      fit = rw words_same this.fits.fit;
    }

    settled-is : IsCachedTable x H.fields key settled.value
    settled-is = record {
      fits = settled-fits;
      placed = at_key;
      layout = layout_same ∙ this.layout;
      modified = λ m. absurd (let both = sym written ∙ m in cc);
      clean = λ m live.
          words_same ∙ sym (subst (λ t. raw_entries_in x t (entries_of_cluster H.fields) ≡ here.value.raw_entries) place
          (subst (λ n. raw_entries_in x (l2_table f H.fields i) n ≡ here.value.raw_entries) enough (read_back f (l2_table f H.fields i) here.value.raw_entries this.fits.fit)));
    }
      where
        enough : length here.value.raw_entries ≡ entries_of_cluster H.fields
        enough =
            let whole : length here.value.raw_entries * 8 ≡ 2 ^ here.value.layout.cluster_bits = this.fits.long in
            let bits : 2 ^ here.value.layout.cluster_bits ≡ cluster_size H.fields = ap (λ (l : Layout). 2 ^ l.cluster_bits) this.layout in
            sym (mul-div_left (length here.value.raw_entries) (omega arith)) ∙ ap (λ n. n / 8) (whole ∙ bits)

    pub cached-table-written : EntryWritten f (splice f (key * cluster_size H.fields) (table_bytes here.value.raw_entries)) H order (tables_with front key here back blocks) (tables_with front key settled back blocks)
    cached-table-written = entry-written table_kind table-kind-laws f H order blocks front key here back well_formed modified (l2_table f H.fields i) place
        consistent between ordered table-kept block-kept settled written settled-is
