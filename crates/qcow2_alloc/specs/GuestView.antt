-- Specifies changes that the guest can't see: flushes of the caches, and all that the allocator does. `IsSound` is the invariant of an
-- image with its caches, its allocator and its free list.
use Rattle.std.specs.Prelude.{◌≡◌, ◌⊎◌, ℕ, ◌+◌, ◌*◌, ◌/◌, ◌<◌, ◌≤◌, ◌==◌, if◌then◌else◌, IsTrue, List, Some, length, slice_index}
use Rattle.std.specs.List.{filter}
use Rattle.imago_storage.specs.State.{StorageState}
use Rattle.imago_storage.specs.Calls.{CountsNotFallen}
use Rattle.imago_storage.specs.Passing.{UnrefusedCrashImages}
use Rattle.qcow2_types.specs.Bytes.{Bytes, bytes_of, raw_entry}
use Rattle.qcow2_types.specs.Header.{Fields, Header, cluster_size, refcount_table_entries, layout_of}
use Rattle.qcow2_types.specs.Words.{block_offset}
use Rattle.qcow2_types.specs.Entries.{l2_table}
use Rattle.qcow2_types.specs.Counts.{block_at, count}
use Rattle.qcow2_types.specs.Frames.{Same, touches}
use Rattle.qcow2_types.specs.References.{structure, meets, of_mapping, refs}
use Rattle.qcow2_types.specs.Slots.{slot, Live}
use Rattle.qcow2_types.specs.Consistency.{IsConsistent}
use Rattle.qcow2_types.specs.Pending.{FreeEntry}
use Rattle.qcow2_types.specs.Switched.{with_refcount_table}
use Rattle.qcow2_types.specs.Versions.{references_in_either}
use Rattle.qcow2_metadata.specs.Tables.{TableValue}
use Rattle.qcow2_alloc.specs.declared.cache.CacheDependency.{CacheDependency}
use Rattle.qcow2_alloc.specs.FreeList.{covers, listed}
use Rattle.qcow2_alloc.specs.Memory.{Cached, memory}
use Rattle.qcow2_alloc.specs.WellFormedness.{WellFormed}

-- The refcount table in memory references the same blocks as the file's.
pub record IsTableOf (f : Bytes) (h : Fields) (table : TableValue) : Type 0 where
  pub layout : table.layout ≡ layout_of h
  pub long : length table.raw_entries ≡ refcount_table_entries h
  pub placed : table.cluster ≡ Some (h.refcount_table_offset / cluster_size h)
  pub names : (i : ℕ) → i < refcount_table_entries h → block_offset (slice_index table.raw_entries i) ≡ block_at f h i

-- The entries of metadata.
abbrev pub metadata_in : List FreeEntry → List FreeEntry
metadata_in entries = filter (λ e. e.metadata) entries

-- 1 if cluster c is one of the entry's and the entry is metadata, else 0.
abbrev pub covers_metadata : ℕ → FreeEntry → ℕ
covers_metadata c e = if e.metadata then covers c e else 0

-- The metadata of an open image: its file and header, its cached entries and their write order, its refcount table in memory, and its free
-- list.
pub record Metadata : Type 0 where
  pub file : Bytes
  pub header : Header
  pub cached : Cached
  pub order : CacheDependency
  pub table : TableValue
  pub pending : List FreeEntry

module _ (m : Metadata) where
  -- The image in memory: the file with the dirty tables and blocks.
  abbrev pub in_memory : Bytes
  in_memory = memory m.file m.header.fields m.cached

  -- The refcount of a cluster in memory.
  abbrev pub counted : ℕ → ℕ
  counted = count in_memory m.header.fields

  -- The number of references to a cluster in memory.
  abbrev pub referenced : ℕ → ℕ
  referenced = refs in_memory m.header.fields

  -- The number of references to a cluster in the file or in memory. An entry that is the same in both counts once.
  abbrev pub referenced_at_all : ℕ → ℕ
  referenced_at_all = references_in_either m.file in_memory m.header.fields

  -- The number of list entries that have a cluster.
  abbrev pub waiting : ℕ → ℕ
  waiting = listed m.pending

  -- The number of list entries of metadata that have a cluster.
  abbrev pub waiting_metadata : ℕ → ℕ
  waiting_metadata = listed (metadata_in m.pending)

  -- A cluster with a refcount greater than its list entries, which holds no table, block or header.
  pub record IsUsed (c : ℕ) : Type 0 where
    pub apart : structure m.file m.header.fields (meets m.header.fields c) ≡ 0
    pub taken : waiting c < counted c

  -- The invariant: the caches are well-formed, and the refcount table is the file's. In memory each refcount covers the references and the
  -- list entries. Nothing references a metadata cluster that is on the list, in the file or in memory.
  pub record IsSound : Type 0 where
    pub well_formed : WellFormed m.file m.header m.cached m.order
    pub table : IsTableOf m.file m.header.fields m.table
    pub covered : (c : ℕ) → referenced c + waiting c ≤ counted c
    pub not_referenced : (c : ℕ) → 0 < waiting_metadata c → referenced_at_all c ≡ 0

  -- File x with header H reads like the image, in its file or in memory. It is consistent, and each of its L2 entries means what it means
  -- in one of the two. The clusters that its L2 entries reference have the same bytes as in the file. Its refcount table may be elsewhere.
  -- The L1 table has the same entries. The header's cluster has the same bytes from offset 64 on. The first 64 bytes hold only numbers.
  pub record ShowsEither (x : Bytes) (H : Header) : Type 0 where
    pub consistent : IsConsistent x H
    pub moved : (offset : ℕ) × (clusters : ℕ) × (H ≡ with_refcount_table m.header offset clusters)
    pub header_tail_unchanged : (p : ℕ) → 64 ≤ p → p < cluster_size m.header.fields → x p ≡ m.file p
    pub l1 : (i : ℕ) → i < m.header.fields.l1_entries → raw_entry x m.header.fields.l1_offset i ≡ raw_entry m.file m.header.fields.l1_offset i
    pub tables : (i : ℕ) → l2_table x H.fields i ≡ l2_table m.file m.header.fields i
    pub raw_entries : (i j : ℕ) → Live (l2_table m.file m.header.fields) m.header.fields i j
        → (slot x H.fields i j ≡ slot m.file m.header.fields i j) ⊎ (slot x H.fields i j ≡ slot in_memory m.header.fields i j)
    pub contents : (i j : ℕ) → Live (l2_table m.file m.header.fields) m.header.fields i j → (p : ℕ)
        → 0 < of_mapping m.header.fields (touches p 1) (slot x H.fields i j) → x p ≡ m.file p

-- The guest is unchanged: in memory each L2 entry means the same, and the file reads as before or as the image in memory.
--
-- A cluster that is used and not taken keeps its bytes, holds no metadata, and gets no more list entries. `handed` is added to a cluster's
-- excess refcount (refcount minus references minus list entries), and `taken` is subtracted: a taken cluster becomes referenced, listed or
-- free.
pub record GuestUnchanged (handed taken : ℕ → ℕ) (old new : Metadata) : Type 0 where
  pub shows : ShowsEither old new.file new.header
  pub raw_entries : (i j : ℕ) → Live (l2_table old.file old.header.fields) old.header.fields i j
      → slot (in_memory new) new.header.fields i j ≡ slot (in_memory old) old.header.fields i j
  pub used_bytes_unchanged : (c : ℕ) → IsUsed old c → taken c ≡ 0
      → Same old.file new.file (c * cluster_size old.header.fields) (cluster_size old.header.fields)
  pub apart : (c : ℕ) → IsUsed old c → taken c ≡ 0 → structure new.file new.header.fields (meets new.header.fields c) ≡ 0
  pub waits : (c : ℕ) → IsUsed old c → taken c ≡ 0 → waiting new c ≤ waiting old c
  pub law : (c : ℕ) → counted new c + referenced old c + waiting old c + taken c
      ≡ counted old c + referenced new c + waiting new c + handed c

-- 1 for cluster c, and 0 for others.
abbrev pub one_at : ℕ → ℕ → ℕ
one_at c d = if d == c then 1 else 0

-- `by` for cluster c, and 0 for others.
abbrev pub many_at : (c by : ℕ) → ℕ → ℕ
many_at c by d = if d == c then by else 0

-- The image's file is the storage's bytes.
abbrev pub IsIn : StorageState → Metadata → Type 0
IsIn s m = m.file ≡ bytes_of s.bytes

-- A call leaves the guest unchanged, if the storage keeps what is written and the image was consistent. Each crash image of the call reads
-- like the image. If `ok` holds, the image is consistent after the call.
pub record PreservesGuest (ok : Type 0) (handed taken : ℕ → ℕ) (old : StorageState) (m : Metadata) (new : StorageState)
    (m' : Metadata) : Type 0 where
  pub shape : new.shape ≡ old.shape
  pub counts_not_fallen : CountsNotFallen old new
  pub passes : IsTrue old.shape.keeps → IsSound m → UnrefusedCrashImages (λ x. (H : Header) × ShowsEither m (bytes_of x) H) old new
  pub holds : IsTrue old.shape.keeps → IsSound m → ok → IsSound m' × GuestUnchanged handed taken m m'
