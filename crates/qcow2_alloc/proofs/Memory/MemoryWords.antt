-- Entries and counters in memory: those of dirty tables and blocks, otherwise those of the file.
use Rattle.std.proofs.Common.{◌≡◌, ◌≢◌, ℕ, ◌*◌, ◌/◌, ◌<◌, refl, ap, sym, ◌∙◌, List, [], ◌∷◌, ◌++◌, true, false, inl, inr}
use Rattle.std.specs.Prelude.{◌⊎◌}
use Rattle.std.specs.List.{AllByRecursion}
use Rattle.std.proofs.lemmas.Bool.{cases_Bool, cases_eq}
use Rattle.qcow2_types.specs.Bytes.{Bytes, raw_entry}
use Rattle.qcow2_types.specs.Words.{mapping_of}
use Rattle.qcow2_types.specs.Header.{Header, cluster_size, layout_of, refcount_table_entries}
use Rattle.qcow2_types.specs.Entries.{l2_table}
use Rattle.qcow2_types.specs.Counts.{block_at, count, counters_of_block}
use Rattle.qcow2_types.specs.Slots.{Live, slot}
use Rattle.qcow2_types.specs.Consistency.{IsConsistent}
use Rattle.qcow2_types.specs.Frames.{Same}
use Rattle.qcow2_types.specs.Versions.{SamePlaces}
use Rattle.qcow2_types.proofs.Changes.Frames.{word-same}
use Rattle.qcow2_types.proofs.Counting.Parts.{block_of, table_of, words-fit, block-inside}
use Rattle.qcow2_types.proofs.Counting.Counters.{count-same}
use Rattle.qcow2_types.proofs.Changes.Patches.{part-same, parts-differ, places-over}
use Rattle.qcow2_metadata.specs.Tables.{TableValue}
use Rattle.qcow2_alloc.specs.declared.async_lru_cache.Slot.{Slot}
use Rattle.qcow2_alloc.specs.Memory.{Cached, patches, memory}
use Rattle.qcow2_alloc.specs.WellFormedness.{IsCachedTable, IsCachedBlock}
use Rattle.qcow2_alloc.proofs.Memory.EntryKinds.{table_kind, block_kind, patches-all}
use Rattle.qcow2_alloc.proofs.Memory.Patches.{all-append, all-weaker, patches-are, table-no-block, shaped-in}

-- A dirty cached table at this offset.
pub record Among (size place : ℕ) (tables : List (ℕ × Slot TableValue)) : Type 0 where
  pub front : List (ℕ × Slot TableValue)
  pub key : ℕ
  pub slot : Slot TableValue
  pub back : List (ℕ × Slot TableValue)
  pub is : tables ≡ front ++ (key, slot) ∷ back
  pub modified : slot.value.modified ≡ true
  pub place_is : key * size ≡ place

-- No dirty table is at this offset.
abbrev pub NoneAt : ℕ → ℕ → List (ℕ × Slot TableValue) → Type 0
NoneAt size place = AllByRecursion (λ e. e.1.value.modified ≡ true → e.0 * size ≢ place)

among-more : (size place : ℕ) (e : ℕ × Slot TableValue) (es : List (ℕ × Slot TableValue)) → Among size place es → Among size place (e ∷ es)
among-more size place e es a = record { front = e ∷ a.front; key = a.key; slot = a.slot; back = a.back; is = ap (λ l. e ∷ l) a.is; modified = a.modified; place_is = a.place_is }

pub find-table : (size place : ℕ) (es : List (ℕ × Slot TableValue)) → Among size place es ⊎ NoneAt size place es
find-table size place [] = inr tt
find-table size place (e ∷ es) = elim (cases_Bool e.1.value.modified) [
  | inl t ↦ elim (cases_eq (e.0 * size) place) [
    | inl here ↦ inl (record { front = []; key = e.0; slot = e.1; back = es; is = refl; modified = t; place_is = here })
    | inr away ↦ elim (find-table size place es) [
      | inl a ↦ inl (among-more size place e es a)
      | inr none ↦ inr ((λ m. away), none)
    ]
  ]
  | inr f ↦ elim (find-table size place es) [
    | inl a ↦ inl (among-more size place e es a)
    | inr none ↦ inr ((λ m. absurd (let both = sym f ∙ m in cc)), none)
  ]
]

module _ (f : Bytes) (H : Header) (was : IsConsistent f H) (cached : Cached)
    (tables : AllByRecursion (λ e. IsCachedTable f H.fields e.0 e.1.value) cached.tables) (blocks : AllByRecursion (λ e. IsCachedBlock f H.fields e.0 e.1.value) cached.blocks) where
  pub places-in-memory : SamePlaces f (memory f H.fields cached) H.fields
  places-in-memory = places-over f H was (patches H.fields cached) (patches-are f H was cached tables blocks)

  -- Without a dirty cached table, the table in memory is that of the file.
  pub table-same : (i : ℕ) → i < H.fields.l1_entries → l2_table f H.fields i ≢ 0 → NoneAt (cluster_size H.fields) (l2_table f H.fields i) cached.tables
      → Same f (memory f H.fields cached) (l2_table f H.fields i) (cluster_size H.fields)
  table-same i lt there none =
      part-same f H was (table_of i) lt there (patches H.fields cached) (patches-are f H was cached tables blocks)
      (all-append (λ e. e.0 ≢ l2_table f H.fields i) _ _
      (patches-all table_kind (λ e. e.0 ≢ l2_table f H.fields i) (cluster_size H.fields) cached.tables none)
      (patches-all block_kind (λ e. e.0 ≢ l2_table f H.fields i) (cluster_size H.fields) cached.blocks
      (all-weaker _ _ (λ e is m same. let live = is.modified m in parts-differ f H was (table_of i) (block_of live.0) lt live.1 there (table-no-block i live.0) (sym (live.2 ∙ same))) cached.blocks blocks)))

  pub slot-same : (i j : ℕ) → Live (l2_table f H.fields) H.fields i j → NoneAt (cluster_size H.fields) (l2_table f H.fields i) cached.tables → slot (memory f H.fields cached) H.fields i j ≡ slot f H.fields i j
  slot-same i j live none =
      ap (λ t. mapping_of (layout_of H.fields) (raw_entry (memory f H.fields cached) t j)) (places-in-memory.l1 i)
      ∙ ap (mapping_of (layout_of H.fields)) (word-same f (memory f H.fields cached) (l2_table f H.fields i) (cluster_size H.fields) j (table-same i live.in_l1 live.is_there none) (words-fit H.fields j live.in_table))

  pub counts-same : AllByRecursion (λ e. e.1.value.modified ≡ false) cached.blocks → (c : ℕ) → count (memory f H.fields cached) H.fields c ≡ count f H.fields c
  counts-same clean c =
      count-same f (memory f H.fields cached) H.fields c (shaped-in f H was) (places-in-memory.blocks (c / counters_of_block H.fields))
      (λ there. let lt = block-inside f H.fields (c / counters_of_block H.fields) there in
      part-same f H was (block_of (c / counters_of_block H.fields)) lt there (patches H.fields cached) (patches-are f H was cached tables blocks)
      (all-append _ _ _
      (patches-all table_kind _ (cluster_size H.fields) cached.tables
      (all-weaker _ _ (λ e is m same. let live = is.modified m in parts-differ f H was (table_of live.0) (block_of (c / counters_of_block H.fields)) live.1 lt (λ z. there (sym same ∙ sym live.2 ∙ z)) (table-no-block live.0 (c / counters_of_block H.fields)) (live.2 ∙ same)) cached.tables tables))
      (patches-all block_kind _ (cluster_size H.fields) cached.blocks (all-weaker _ _ (λ e off m. absurd (let both = sym off ∙ m in cc)) cached.blocks clean))))

  -- Without a dirty cached block, the block in memory is that of the file.
  pub block-same : (i : ℕ) → i < refcount_table_entries H.fields → block_at f H.fields i ≢ 0 → AllByRecursion (λ e. e.1.value.modified ≡ true → e.0 * cluster_size H.fields ≢ block_at f H.fields i) cached.blocks
      → Same f (memory f H.fields cached) (block_at f H.fields i) (cluster_size H.fields)
  block-same i lt there none =
      part-same f H was (block_of i) lt there (patches H.fields cached) (patches-are f H was cached tables blocks)
      (all-append _ _ _
      (patches-all table_kind _ (cluster_size H.fields) cached.tables
      (all-weaker _ _ (λ e is m same. let live = is.modified m in parts-differ f H was (table_of live.0) (block_of i) live.1 lt (λ z. there (sym same ∙ sym live.2 ∙ z)) (table-no-block live.0 i) (live.2 ∙ same)) cached.tables tables))
      (patches-all block_kind _ (cluster_size H.fields) cached.blocks none))
