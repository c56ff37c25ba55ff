-- Facts about every well-formed image, and about clean caches.
use Rattle.std.proofs.Common.{◌≡◌, ℕ, ◌^◌, ◌≤◌, ap, sym, subst, ◌∙◌, List, ◌++◌, true}
use Rattle.std.specs.List.{filter_map}
use Rattle.qcow2_types.specs.Bytes.{Bytes, bytes_of, Patch, over}
use Rattle.qcow2_types.specs.Words.{Layout, max_offset}
use Rattle.qcow2_types.specs.Header.{Fields, Header, cluster_size}
use Rattle.qcow2_types.specs.Entries.{l2_table}
use Rattle.qcow2_types.specs.Counts.{block_at}
use Rattle.qcow2_types.specs.Versions.{references_in_either}
use Rattle.qcow2_types.proofs.Counting.Either.{named-falls}
use Rattle.qcow2_types.proofs.Counting.Sound.{sound-words}
use Rattle.qcow2_types.proofs.Changes.WriteBack.{table-place, place-near}
use Rattle.qcow2_types.proofs.Changes.BlockSteps.{block-place}
use Rattle.qcow2_metadata.specs.Places.{IsAddressable}
use Rattle.qcow2_metadata.specs.Tables.{TableValue}
use Rattle.qcow2_metadata.specs.Blocks.{Block}
use Rattle.qcow2_alloc.specs.declared.cache.CacheDependency.{CacheDependency}
use Rattle.qcow2_alloc.specs.Memory.{Cached, block_patch, memory}
use Rattle.qcow2_alloc.specs.WellFormedness.{WellFormed, IsSettled, IsCachedTable, IsCachedBlock, AreTablesClean, AreBlocksClean}
use Rattle.qcow2_alloc.specs.Going.{AreTablesAddressable, AreBlocksAddressable}
use Rattle.qcow2_alloc.proofs.Memory.EntryKinds.{table_kind, block_kind, no-patches}
use Rattle.qcow2_alloc.proofs.Memory.Patches.{all-weaker}

pub safe-reach : (f : Bytes) (H : Header) (cached : Cached) (order : CacheDependency) → WellFormed f H cached order → AreTablesAddressable cached × AreBlocksAddressable cached
safe-reach f H cached order well_formed = (
  all-weaker _ _ (λ e is modified. table-reach e.0 e.1.value is modified) cached.tables well_formed.tables,
  all-weaker _ _ (λ e is modified. block-reach e.0 e.1.value is modified) cached.blocks well_formed.blocks,
)
  where
    table-reach : (cluster : ℕ) (t : TableValue) → IsCachedTable f H.fields cluster t → t.modified ≡ true → IsAddressable t.layout.cluster_bits cluster
    table-reach cluster t is modified =
        let live = is.modified modified in
        let near : l2_table f H.fields live.0 ≤ max_offset = place-near H.fields.cluster_bits (l2_table f H.fields live.0) (table-place f H.fields live.0 (sound-words f H.fields well_formed.consistent.readable.tables) live.1) in
        let bits : 2 ^ t.layout.cluster_bits ≡ cluster_size H.fields = ap (λ (l : Layout). 2 ^ l.cluster_bits) is.layout in
        rw bits (subst (λ n. n ≤ max_offset) live.2 near)

    block-reach : (cluster : ℕ) (b : Block) → IsCachedBlock f H.fields cluster b → b.modified ≡ true → IsAddressable b.cluster_bits cluster
    block-reach cluster b is modified =
        let live = is.modified modified in
        let near : block_at f H.fields live.0 ≤ max_offset = place-near H.fields.cluster_bits (block_at f H.fields live.0) (block-place f H.fields live.0 (sound-words f H.fields well_formed.consistent.readable.tables) live.1) in
        let bits : 2 ^ b.cluster_bits ≡ cluster_size H.fields = ap (λ n. 2 ^ n) is.cluster_bits in
        rw bits (subst (λ n. n ≤ max_offset) live.2 near)

pub clean-memory : (f : Bytes) (h : Fields) (cached : Cached) → AreTablesClean cached → AreBlocksClean cached → memory f h cached ≡ f
unfolding over
clean-memory f h cached tables blocks =
    ap (λ (l : List Patch). over f (l ++ filter_map (block_patch (cluster_size h)) cached.blocks)) (no-patches table_kind (cluster_size h) cached.tables tables)
    ∙ ap (λ (l : List Patch). over f l) (no-patches block_kind (cluster_size h) cached.blocks blocks)

pub settled-names : (H : Header) (order : CacheDependency) (old new : List ℕ) (cached cached' : Cached) → IsSettled H order old cached new cached'
    → (c : ℕ) → references_in_either (bytes_of new) (memory (bytes_of new) H.fields cached') H.fields c ≤ references_in_either (bytes_of old) (memory (bytes_of old) H.fields cached) H.fields c
settled-names H order old new cached cached' settled c =
    subst (λ (m : Bytes). references_in_either (bytes_of new) m H.fields c ≤ references_in_either (bytes_of old) (memory (bytes_of old) H.fields cached) H.fields c) (sym settled.memory_same)
    (named-falls (bytes_of old) (bytes_of new) (memory (bytes_of old) H.fields cached) H.fields c settled.left.raw_entries)
