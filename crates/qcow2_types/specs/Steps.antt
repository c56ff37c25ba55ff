-- Specifies how the image file g after one write is related to the consistent image file f before the write. The header H doesn't change.
use Rattle.std.specs.Prelude.{Bool, true, Ok, ◌≡◌, ◌≢◌, ℕ, ◌+◌, ◌*◌, ◌/◌, ◌%◌, ◌<◌, ◌⊎◌}
use Rattle.imago_storage.specs.Disk.{Value}
use Rattle.qcow2_types.specs.Bytes.{Bytes, raw_entry, sum_below}
use Rattle.qcow2_types.specs.Words.{Mapping, unmapped, data_at, mapping_without_copied}
use Rattle.qcow2_types.specs.Header.{Fields, Header, header_of, cluster_size, entries_of_cluster}
use Rattle.qcow2_types.specs.Entries.{entry, l2_table, l2_mapping}
use Rattle.qcow2_types.specs.Counts.{block_at, count, counter, counters_of_block}
use Rattle.qcow2_types.specs.References.{Weight, structure as structure_sum, contents as contents_sum, of_cluster, of_mapping, of_table, of_table_or_none, meets, refs}
use Rattle.qcow2_types.specs.Consistency.{IsConsistent}
use Rattle.qcow2_types.specs.Disk.{shown}
use Rattle.qcow2_types.specs.Slots.{slot, Live}
use Rattle.qcow2_types.specs.Frames.{Same, SameStructureOutside, nothing, block, table, l1_word, block_word, ShowsAs}
use Rattle.qcow2_types.specs.Versions.{KeepsSlots, SamePlaces}

-- Each guest cluster whose mapping is the same, apart from the COPIED flag, reads as before.
abbrev pub ShownWithoutCopied : Bytes → Bytes → Header → Type 0
ShownWithoutCopied f g H = (external : Bytes) (p : ℕ) (below : Value)
    → mapping_without_copied (entry g H.fields (p / cluster_size H.fields)) ≡ mapping_without_copied (entry f H.fields (p / cluster_size H.fields))
    → shown g external H.fields p below ≡ shown f external H.fields p below

-- The data cluster of entry j of L2 table i was written: no mapping changes, and other guest clusters read as before.
pub record DataWritten (f g : Bytes) (H : Header) (i j : ℕ) : Type 0 where
  pub consistent : IsConsistent g H
  pub same_structure_outside : SameStructureOutside f g H.fields nothing
  pub keeps : KeepsSlots f g H.fields
  pub references : (c : ℕ) → refs g H.fields c ≡ refs f H.fields c
  pub counts : (c : ℕ) → count g H.fields c ≡ count f H.fields c
  pub entries : (guest : ℕ) → entry g H.fields guest ≡ entry f H.fields guest
  pub elsewhere : (guest : ℕ) → (guest / entries_of_cluster H.fields ≢ i) ⊎ (guest % entries_of_cluster H.fields ≢ j)
      → ShowsAs g f H.fields guest

-- A cluster was written that nothing references, or a preallocated zero cluster: each guest cluster reads as before.
pub record FreeWritten (f g : Bytes) (H : Header) : Type 0 where
  pub consistent : IsConsistent g H
  pub same_structure_outside : SameStructureOutside f g H.fields nothing
  pub keeps : KeepsSlots f g H.fields
  pub references : (c : ℕ) → refs g H.fields c ≡ refs f H.fields c
  pub counts : (c : ℕ) → count g H.fields c ≡ count f H.fields c
  pub shows : (guest : ℕ) → ShowsAs g f H.fields guest

-- Clusters c to c + k, which contain no header, table or refcount block, were written. No mapping changes, and only guest clusters whose
-- data is in one of these clusters read differently.
pub record RunWritten (f g : Bytes) (H : Header) (c k : ℕ) : Type 0 where
  pub consistent : IsConsistent g H
  pub same_structure_outside : SameStructureOutside f g H.fields nothing
  pub keeps : KeepsSlots f g H.fields
  pub references : (d : ℕ) → refs g H.fields d ≡ refs f H.fields d
  pub counts : (d : ℕ) → count g H.fields d ≡ count f H.fields d
  pub entries : (guest : ℕ) → entry g H.fields guest ≡ entry f H.fields guest
  pub elsewhere : (guest : ℕ) → ((d : ℕ) (copied : Bool) → entry f H.fields guest ≡ data_at d copied → (d < c) ⊎ (c + k < d))
      → ShowsAs g f H.fields guest

-- Refcount block b was written: no refcount of another block changes, and each guest cluster reads as before. Clusters that nothing
-- references keep their bytes. So do clusters that L2 entries reference, including preallocated zero clusters.
pub record BlockWritten (f g : Bytes) (H : Header) (b : ℕ) : Type 0 where
  pub consistent : IsConsistent g H
  pub same_structure_outside : SameStructureOutside f g H.fields (block b)
  pub keeps : KeepsSlots f g H.fields
  pub references : (c : ℕ) → refs g H.fields c ≡ refs f H.fields c
  pub counts : (c : ℕ) → c / counters_of_block H.fields ≢ b → count g H.fields c ≡ count f H.fields c
  pub shows : (guest : ℕ) → ShowsAs g f H.fields guest
  pub free : (c : ℕ) → refs f H.fields c ≡ 0 → Same f g (c * cluster_size H.fields) (cluster_size H.fields)
  pub mapped : (c : ℕ) → 0 < contents_sum f H.fields (of_mapping H.fields (meets H.fields c))
      → Same f g (c * cluster_size H.fields) (cluster_size H.fields)

-- The refcount of cluster c was set to `number`: no other refcount changes.
pub record CounterWritten (f g : Bytes) (H : Header) (c number : ℕ) : Type 0 where
  pub block : BlockWritten f g H (c / counters_of_block H.fields)
  pub here : count g H.fields c ≡ number
  pub others : (d : ℕ) → d ≢ c → count g H.fields d ≡ count f H.fields d

-- Entry j of L2 table i was written, and means `new`. No other entry and no refcount changes, and other guest clusters read as before.
-- Clusters that nothing references keep their bytes, and so do clusters that L2 entries reference.
pub record SlotWritten (f g : Bytes) (H : Header) (i j : ℕ) (new : Mapping) : Type 0 where
  pub consistent : IsConsistent g H
  pub same_structure_outside : SameStructureOutside f g H.fields (table i)
  pub places : SamePlaces f g H.fields
  pub here : slot g H.fields i j ≡ new
  pub row : (m : ℕ) → m ≢ j → raw_entry g (l2_table f H.fields i) m ≡ raw_entry f (l2_table f H.fields i) m
  pub others : (k m : ℕ) → Live (l2_table f H.fields) H.fields k m → (k ≢ i) ⊎ (m ≢ j) → slot g H.fields k m ≡ slot f H.fields k m
  pub counts : (c : ℕ) → count g H.fields c ≡ count f H.fields c
  pub entries : (guest : ℕ) → guest / entries_of_cluster H.fields ≡ i → guest % entries_of_cluster H.fields ≡ j → entry g H.fields guest ≡ new
  pub elsewhere : (guest : ℕ) → (guest / entries_of_cluster H.fields ≢ i) ⊎ (guest % entries_of_cluster H.fields ≢ j)
      → ShowsAs g f H.fields guest
  pub free : (c : ℕ) → refs f H.fields c ≡ 0 → Same f g (c * cluster_size H.fields) (cluster_size H.fields)
  pub mapped : (c : ℕ) → 0 < contents_sum f H.fields (of_mapping H.fields (meets H.fields c))
      → Same f g (c * cluster_size H.fields) (cluster_size H.fields)

-- the sum over the mappings of L2 table i
abbrev pub table_sum : Bytes → Fields → (Mapping → ℕ) → ℕ → ℕ
table_sum f h of i = sum_below (entries_of_cluster h) (λ j. of (slot f h i j))

-- L2 table i was written, as a whole or in part: no entry of another table and no refcount changes. References change only by the entries
-- of this table. Clusters that nothing references keep their bytes, and so do clusters that L2 entries reference.
pub record TableWritten (f g : Bytes) (H : Header) (i : ℕ) : Type 0 where
  pub header : header_of true g ≡ Ok H
  pub same_structure_outside : SameStructureOutside f g H.fields (table i)
  pub places : SamePlaces f g H.fields
  pub others : (k m : ℕ) → Live (l2_table f H.fields) H.fields k m → k ≢ i → slot g H.fields k m ≡ slot f H.fields k m
  pub counts : (c : ℕ) → count g H.fields c ≡ count f H.fields c
  pub structure : (weight : Weight) → structure_sum g H.fields weight ≡ structure_sum f H.fields weight
  pub contents : (of : Mapping → ℕ) → contents_sum g H.fields of + table_sum f H.fields of i
      ≡ contents_sum f H.fields of + table_sum g H.fields of i
  pub references : (c : ℕ) → refs g H.fields c + table_sum f H.fields (of_mapping H.fields (meets H.fields c)) i
      ≡ refs f H.fields c + table_sum g H.fields (of_mapping H.fields (meets H.fields c)) i
  pub free : (c : ℕ) → refs f H.fields c ≡ 0 → Same f g (c * cluster_size H.fields) (cluster_size H.fields)
  pub mapped : (c : ℕ) → 0 < contents_sum f H.fields (of_mapping H.fields (meets H.fields c))
      → Same f g (c * cluster_size H.fields) (cluster_size H.fields)

-- Like `TableWritten`, and the image is consistent. Guest clusters of other tables, and those whose entry means the same, read as before.
-- The COPIED flag doesn't affect what the guest reads.
pub record TableRewritten (f g : Bytes) (H : Header) (i : ℕ) : Type 0 where
  pub written : TableWritten f g H i
  pub consistent : IsConsistent g H
  pub entries : (guest : ℕ) → guest / entries_of_cluster H.fields ≡ i
      → entry g H.fields guest ≡ slot g H.fields i (guest % entries_of_cluster H.fields)
  pub elsewhere : (guest : ℕ) → (guest / entries_of_cluster H.fields ≢ i)
      ⊎ (slot g H.fields i (guest % entries_of_cluster H.fields) ≡ slot f H.fields i (guest % entries_of_cluster H.fields))
      → ShowsAs g f H.fields guest
  pub values : ShownWithoutCopied f g H

-- Entry j of L2 table i was set to data in cluster c, with the COPIED flag. Nothing referenced c, and no other references change.
pub record ClusterMapped (f g : Bytes) (H : Header) (i j c : ℕ) : Type 0 where
  pub slot : SlotWritten f g H i j (data_at c true)
  pub named_once : refs g H.fields c ≡ 1
  pub references : (d : ℕ) → d ≢ c → refs g H.fields d ≡ refs f H.fields d

-- L1 entry i, which referenced no table, was set to reference a table of zeroes in cluster c, at offset `place`.
pub record TableEntered (f g : Bytes) (H : Header) (i c place : ℕ) : Type 0 where
  pub consistent : IsConsistent g H
  pub same_structure_outside : SameStructureOutside f g H.fields (l1_word i)
  pub here : l2_table g H.fields i ≡ place
  pub tables : (k : ℕ) → k ≢ i → l2_table g H.fields k ≡ l2_table f H.fields k
  pub blocks : (b : ℕ) → block_at g H.fields b ≡ block_at f H.fields b
  pub zeroes : (j : ℕ) → j < entries_of_cluster H.fields → raw_entry g place j ≡ 0
  pub empty : (j : ℕ) → j < entries_of_cluster H.fields → slot g H.fields i j ≡ unmapped
  pub others : (k m : ℕ) → Live (l2_table f H.fields) H.fields k m → slot g H.fields k m ≡ slot f H.fields k m
  pub counts : (d : ℕ) → count g H.fields d ≡ count f H.fields d
  pub named_once : refs g H.fields c ≡ 1
  pub references : (d : ℕ) → d ≢ c → refs g H.fields d ≡ refs f H.fields d
  pub shows : (guest : ℕ) → ShowsAs g f H.fields guest
  pub free : (d : ℕ) → refs f H.fields d ≡ 0 → Same f g (d * cluster_size H.fields) (cluster_size H.fields)
  pub mapped : (d : ℕ) → 0 < contents_sum f H.fields (of_mapping H.fields (meets H.fields d))
      → Same f g (d * cluster_size H.fields) (cluster_size H.fields)

-- L1 entry i was set to reference the L2 table at offset `place`: no entry of another table and no refcount changes. References change
-- only by the old and the new table and by their entries. Clusters that nothing references keep their bytes, and so do clusters that L2
-- entries reference.
pub record TableReplaced (f g : Bytes) (H : Header) (i place : ℕ) : Type 0 where
  pub header : header_of true g ≡ Ok H
  pub same_structure_outside : SameStructureOutside f g H.fields (l1_word i)
  pub here : l2_table g H.fields i ≡ place
  pub tables : (k : ℕ) → k ≢ i → l2_table g H.fields k ≡ l2_table f H.fields k
  pub blocks : (b : ℕ) → block_at g H.fields b ≡ block_at f H.fields b
  pub raw_entries : (j : ℕ) → j < entries_of_cluster H.fields → raw_entry g place j ≡ raw_entry f place j
  pub others : (k m : ℕ) → Live (l2_table f H.fields) H.fields k m → k ≢ i → slot g H.fields k m ≡ slot f H.fields k m
  pub counts : (d : ℕ) → count g H.fields d ≡ count f H.fields d
  pub structure : (weight : Weight) → structure_sum g H.fields weight + of_cluster H.fields weight (l2_table f H.fields i)
      ≡ structure_sum f H.fields weight + weight place (cluster_size H.fields)
  pub contents : (of : Mapping → ℕ) → contents_sum g H.fields of + of_table_or_none f H.fields of (l2_table f H.fields i)
      ≡ contents_sum f H.fields of + of_table f H.fields of place
  pub references : (d : ℕ) → refs g H.fields d + (of_cluster H.fields (meets H.fields d)
      (l2_table f H.fields i) + of_table_or_none f H.fields (of_mapping H.fields (meets H.fields d)) (l2_table f H.fields i))
      ≡ refs f H.fields d + (meets H.fields d place (cluster_size H.fields) + of_table f H.fields
      (of_mapping H.fields (meets H.fields d)) place)
  pub free : (d : ℕ) → refs f H.fields d ≡ 0 → Same f g (d * cluster_size H.fields) (cluster_size H.fields)
  pub mapped : (d : ℕ) → 0 < contents_sum f H.fields (of_mapping H.fields (meets H.fields d))
      → Same f g (d * cluster_size H.fields) (cluster_size H.fields)

-- Like `TableReplaced`, and the image is consistent. Guest clusters of other tables, and those that the new table maps as before, read as
-- before. The COPIED flag doesn't affect what the guest reads.
pub record TableSwapped (f g : Bytes) (H : Header) (i place : ℕ) : Type 0 where
  pub replaced : TableReplaced f g H i place
  pub consistent : IsConsistent g H
  pub entries : (guest : ℕ) → guest / entries_of_cluster H.fields ≡ i
      → entry g H.fields guest ≡ l2_mapping f H.fields place (guest % entries_of_cluster H.fields)
  pub elsewhere : (guest : ℕ) → (guest / entries_of_cluster H.fields ≢ i)
      ⊎ (l2_mapping f H.fields place (guest % entries_of_cluster H.fields) ≡ entry f H.fields guest) → ShowsAs g f H.fields guest
  pub values : ShownWithoutCopied f g H

-- Refcount table entry i, which referenced no block, was set to reference the block in cluster c, at offset `place`. The block's bytes
-- give the refcounts of its clusters, and c may be one of these.
pub record BlockEntered (f g : Bytes) (H : Header) (i c place : ℕ) : Type 0 where
  pub consistent : IsConsistent g H
  pub same_structure_outside : SameStructureOutside f g H.fields (block_word i)
  pub here : block_at g H.fields i ≡ place
  pub blocks : (b : ℕ) → b ≢ i → block_at g H.fields b ≡ block_at f H.fields b
  pub tables : (k : ℕ) → l2_table g H.fields k ≡ l2_table f H.fields k
  pub slots : (k m : ℕ) → Live (l2_table f H.fields) H.fields k m → slot g H.fields k m ≡ slot f H.fields k m
  pub counts : (d : ℕ) → d / counters_of_block H.fields ≢ i → count g H.fields d ≡ count f H.fields d
  pub new_counts : (d : ℕ) → d / counters_of_block H.fields ≡ i
      → count g H.fields d ≡ counter f H.fields place (d % counters_of_block H.fields)
  pub named_once : refs g H.fields c ≡ 1
  pub structure : (weight : Weight) → structure_sum g H.fields weight
      ≡ structure_sum f H.fields weight + weight place (cluster_size H.fields)
  pub contents : (of : Mapping → ℕ) → contents_sum g H.fields of ≡ contents_sum f H.fields of
  pub references : (d : ℕ) → d ≢ c → refs g H.fields d ≡ refs f H.fields d
  pub shows : (guest : ℕ) → ShowsAs g f H.fields guest
  pub free : (d : ℕ) → refs f H.fields d ≡ 0 → Same f g (d * cluster_size H.fields) (cluster_size H.fields)
  pub mapped : (d : ℕ) → 0 < contents_sum f H.fields (of_mapping H.fields (meets H.fields d))
      → Same f g (d * cluster_size H.fields) (cluster_size H.fields)
