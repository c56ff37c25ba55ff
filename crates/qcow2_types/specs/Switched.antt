-- The image after its header was switched to another L1 table, another refcount table or another disk size: f with header H becomes g.
-- Only the first cluster is written. Clusters that nothing references keep their bytes, and so do clusters that L2 entries reference.
use Rattle.std.specs.Prelude.{◌≡◌, ◌≢◌, ℕ, ◌+◌, ◌*◌, ◌/◌, ◌<◌, ◌==◌, if◌then◌else◌}
use Rattle.imago_storage.specs.Disk.{Value}
use Rattle.qcow2_types.specs.Bytes.{Bytes, raw_entry, sum_below}
use Rattle.qcow2_types.specs.Words.{Mapping}
use Rattle.qcow2_types.specs.Header.{Fields, Header, cluster_size, entries_of_cluster}
use Rattle.qcow2_types.specs.Entries.{entry, l2_table}
use Rattle.qcow2_types.specs.Counts.{block_at, count, counters_of_block}
use Rattle.qcow2_types.specs.References.{Weight, structure as structure_sum, contents as contents_sum, of_cluster, of_mapping, meets, refs}
use Rattle.qcow2_types.specs.Consistency.{IsConsistent, leaks}
use Rattle.qcow2_types.specs.Disk.{shown}
use Rattle.qcow2_types.specs.Frames.{Same, SameStructureOutside, first_cluster}
use Rattle.qcow2_types.specs.Slots.{slot, Live}

-- the fields with another L1 table
abbrev pub with_l1 : Fields → ℕ → ℕ → Fields
with_l1 h offset entries = record {
  version = h.version;
  backing_offset = h.backing_offset;
  backing_length = h.backing_length;
  cluster_bits = h.cluster_bits;
  size = h.size;
  crypt_method = h.crypt_method;
  l1_entries = entries;
  l1_offset = offset;
  refcount_table_offset = h.refcount_table_offset;
  refcount_table_clusters = h.refcount_table_clusters;
  snapshots = h.snapshots;
  snapshots_offset = h.snapshots_offset;
  incompatible = h.incompatible;
  compatible = h.compatible;
  autoclear = h.autoclear;
  refcount_order = h.refcount_order;
  header_length = h.header_length;
}

-- the header with another L1 table
abbrev pub with_l1_table : Header → ℕ → ℕ → Header
with_l1_table H offset entries = record H { fields = with_l1 H.fields offset entries }

-- The L1 table is now at `offset`, and has `more` more entries, which reference no table.
pub record L1Switched (f g : Bytes) (H : Header) (offset more : ℕ) : Type 0 where
  pub consistent : IsConsistent g (with_l1_table H offset (H.fields.l1_entries + more))
  pub same_structure_outside : SameStructureOutside f g H.fields first_cluster
  pub raw_entries : (i : ℕ) → i < H.fields.l1_entries + more → raw_entry g offset i ≡ raw_entry f offset i
  pub tables : (i : ℕ) → l2_table g (with_l1 H.fields offset (H.fields.l1_entries + more)) i ≡ l2_table f H.fields i
  pub slots : (i j : ℕ) → Live (l2_table f H.fields) H.fields i j
      → slot g (with_l1 H.fields offset (H.fields.l1_entries + more)) i j ≡ slot f H.fields i j
  pub blocks : (i : ℕ) → block_at g (with_l1 H.fields offset (H.fields.l1_entries + more)) i ≡ block_at f H.fields i
  pub counts : (d : ℕ) → count g (with_l1 H.fields offset (H.fields.l1_entries + more)) d ≡ count f H.fields d
  -- the new table's clusters are referenced, and the old table's are no longer
  pub structure : (weight : Weight) → structure_sum g
      (with_l1 H.fields offset (H.fields.l1_entries + more)) weight + weight H.fields.l1_offset (H.fields.l1_entries * 8)
      ≡ structure_sum f H.fields weight + weight offset ((H.fields.l1_entries + more) * 8)
  pub contents : (of : Mapping → ℕ) → contents_sum g (with_l1 H.fields offset (H.fields.l1_entries + more)) of ≡ contents_sum f H.fields of
  pub references : (d : ℕ) → refs g (with_l1 H.fields offset (H.fields.l1_entries + more)) d + meets H.fields d H.fields.l1_offset
      (H.fields.l1_entries * 8) ≡ refs f H.fields d + meets H.fields d offset ((H.fields.l1_entries + more) * 8)
  pub entries : (guest : ℕ) → entry g (with_l1 H.fields offset (H.fields.l1_entries + more)) guest ≡ entry f H.fields guest
  pub shows : (external : Bytes) (p : ℕ) (below : Value)
      → shown g external (with_l1 H.fields offset (H.fields.l1_entries + more)) p below ≡ shown f external H.fields p below
  pub free : (d : ℕ) → refs f H.fields d ≡ 0 → Same f g (d * cluster_size H.fields) (cluster_size H.fields)
  pub mapped : (d : ℕ) → 0 < contents_sum f H.fields (of_mapping H.fields (meets H.fields d))
      → Same f g (d * cluster_size H.fields) (cluster_size H.fields)

-- the fields with another refcount table
abbrev pub with_reftable : Fields → ℕ → ℕ → Fields
with_reftable h offset clusters = record h { refcount_table_offset = offset; refcount_table_clusters = clusters }

-- the header with another refcount table
abbrev pub with_refcount_table : Header → ℕ → ℕ → Header
with_refcount_table H offset clusters = record H { fields = with_reftable H.fields offset clusters }

-- The sum of weights over a refcount table of `clusters` clusters at `offset`, and over its blocks where the old table had none.
abbrev pub newly_referenced : Bytes → Fields → ℕ → ℕ → Weight → ℕ
newly_referenced f h offset clusters weight =
    weight offset (clusters * cluster_size h)
    + sum_below (clusters * entries_of_cluster h) (λ i.
    if block_at f h i == 0 then of_cluster h weight (block_at f (with_reftable h offset clusters) i) else 0)

-- The refcount table is now at `offset`, and has `clusters` clusters. Its entries reference the blocks of the old table, and may
-- reference new ones, whose bytes give the refcounts of their clusters.
pub record RefcountTableSwitched (f g : Bytes) (H : Header) (offset clusters : ℕ) : Type 0 where
  pub consistent : IsConsistent g (with_refcount_table H offset clusters)
  pub same_structure_outside : SameStructureOutside f g H.fields first_cluster
  pub raw_entries : (i : ℕ) → i < clusters * entries_of_cluster H.fields → raw_entry g offset i ≡ raw_entry f offset i
  pub tables : (i : ℕ) → l2_table g (with_reftable H.fields offset clusters) i ≡ l2_table f H.fields i
  pub slots : (i j : ℕ) → Live (l2_table f H.fields) H.fields i j
      → slot g (with_reftable H.fields offset clusters) i j ≡ slot f H.fields i j
  pub blocks : (i : ℕ) → block_at g (with_reftable H.fields offset clusters) i ≡ block_at f (with_reftable H.fields offset clusters) i
  pub counts : (d : ℕ) → count g (with_reftable H.fields offset clusters) d ≡ count f (with_reftable H.fields offset clusters) d
  pub old_counts : (d : ℕ) → block_at f H.fields (d / counters_of_block H.fields) ≢ 0
      → count g (with_reftable H.fields offset clusters) d ≡ count f H.fields d
  -- the new table's clusters and the new blocks are referenced, and the old table's clusters are no longer
  pub structure : (weight : Weight) → structure_sum g
      (with_reftable H.fields offset clusters) weight + weight H.fields.refcount_table_offset
      (H.fields.refcount_table_clusters * cluster_size H.fields)
      ≡ structure_sum f H.fields weight + newly_referenced f H.fields offset clusters weight
  pub contents : (of : Mapping → ℕ) → contents_sum g (with_reftable H.fields offset clusters) of ≡ contents_sum f H.fields of
  pub references : (d : ℕ) → refs g (with_reftable H.fields offset clusters) d + meets H.fields d H.fields.refcount_table_offset
      (H.fields.refcount_table_clusters * cluster_size H.fields)
      ≡ refs f H.fields d + newly_referenced f H.fields offset clusters (meets H.fields d)
  pub entries : (guest : ℕ) → entry g (with_reftable H.fields offset clusters) guest ≡ entry f H.fields guest
  pub shows : (external : Bytes) (p : ℕ) (below : Value)
      → shown g external (with_reftable H.fields offset clusters) p below ≡ shown f external H.fields p below
  pub free : (d : ℕ) → refs f H.fields d ≡ 0 → Same f g (d * cluster_size H.fields) (cluster_size H.fields)
  pub mapped : (d : ℕ) → 0 < contents_sum f H.fields (of_mapping H.fields (meets H.fields d))
      → Same f g (d * cluster_size H.fields) (cluster_size H.fields)

-- the fields with another disk size
abbrev pub sized : Fields → ℕ → Fields
sized h n = record h { size = n }

-- the header with another disk size
abbrev pub with_size : Header → ℕ → Header
with_size H n = record H { fields = sized H.fields n }

-- The disk has another size, and each guest byte is the same.
pub record SizeSwitched (f g : Bytes) (H : Header) (n : ℕ) : Type 0 where
  pub consistent : IsConsistent g (with_size H n)
  pub same_structure_outside : SameStructureOutside f g H.fields first_cluster
  pub tables : (i : ℕ) → l2_table g (sized H.fields n) i ≡ l2_table f H.fields i
  pub slots : (i j : ℕ) → Live (l2_table f H.fields) H.fields i j → slot g (sized H.fields n) i j ≡ slot f H.fields i j
  pub blocks : (i : ℕ) → block_at g (sized H.fields n) i ≡ block_at f H.fields i
  pub counts : (d : ℕ) → count g (sized H.fields n) d ≡ count f H.fields d
  pub structure : (weight : Weight) → structure_sum g (sized H.fields n) weight ≡ structure_sum f H.fields weight
  pub contents : (of : Mapping → ℕ) → contents_sum g (sized H.fields n) of ≡ contents_sum f H.fields of
  pub references : (d : ℕ) → refs g (sized H.fields n) d ≡ refs f H.fields d
  pub leaks : leaks g (sized H.fields n) ≡ leaks f H.fields
  pub entries : (guest : ℕ) → entry g (sized H.fields n) guest ≡ entry f H.fields guest
  pub shows : (external : Bytes) (p : ℕ) (below : Value) → shown g external (sized H.fields n) p below ≡ shown f external H.fields p below
  pub free : (d : ℕ) → refs f H.fields d ≡ 0 → Same f g (d * cluster_size H.fields) (cluster_size H.fields)
  pub mapped : (d : ℕ) → 0 < contents_sum f H.fields (of_mapping H.fields (meets H.fields d))
      → Same f g (d * cluster_size H.fields) (cluster_size H.fields)
