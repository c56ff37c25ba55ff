-- Specifies how a grown refcount table is written to a run of free clusters (its free area), and becomes the image's table.
use Rattle.std.specs.Prelude.{◌≡◌, ◌≢◌, true, ℕ, ◌+◌, ◌-◌, ◌*◌, ◌/◌, ◌%◌, ◌^◌, ◌<◌, ◌≤◌, ◌++◌, false, IsTrue, List, Some, None, Result, Ok, Err, OnOk, OnErr, IfErr, length, slice_index, nat_eq, Bool}
use Rattle.std.specs.Map.{lookup}
use Rattle.imago_storage.specs.State.{StorageState}
use Rattle.imago_storage.specs.Calls.{CountsNotFallen, IsFaultless}
use Rattle.imago_storage.specs.Through.{WriteOutcome, AtomicWriteOutcome}
use Rattle.imago_storage.specs.declared.fault.Fault.{Fault}
use Rattle.qcow2_types.specs.Counts.{count, counters_of_block}
use Rattle.qcow2_types.specs.Header.{Fields, Header, first_fault, rules_of_size, cluster_size, entries_of_cluster, layout_of}
use Rattle.qcow2_types.specs.HeaderBytes.{first_bytes}
use Rattle.qcow2_types.specs.HeaderSwitch.{FirstFieldsFit}
use Rattle.qcow2_types.specs.Pending.{FreeEntry}
use Rattle.qcow2_types.specs.Switched.{with_refcount_table}
use Rattle.qcow2_types.specs.TableBytes.{AreFit, table_bytes}
use Rattle.qcow2_types.specs.Words.{block_offset, reftable_entry_valid}
use Rattle.qcow2_metadata.specs.Tables.{IsEnough, IsGrownLength, IsTable, TableValue, IsPlacedTable, refcount_table_kind, padded, table_start}
use Rattle.qcow2_metadata.specs.Places.{IsAddressable}
use Rattle.qcow2_alloc.specs.declared.allocation.searching.Run.{Run}
use Rattle.qcow2_alloc.specs.declared.cache.CacheDependency.TheVariants.{L2DependsOnRb}
use Rattle.qcow2_alloc.specs.declared.cache.MetadataCaches.{MetadataCaches}
use Rattle.qcow2_alloc.specs.declared.file.ImageFile.{ImageFile}
use Rattle.qcow2_alloc.specs.Allocating.{CountsReferenced, MovedTable, OnlyIncremented}
use Rattle.qcow2_alloc.specs.Caches.{cached_in, order_of, KeepsTables}
use Rattle.qcow2_alloc.specs.Causes.{Causes, FailsFor, bare_causes}
use Rattle.qcow2_alloc.specs.Finding.{pinned_among}
use Rattle.qcow2_alloc.specs.FreeList.{covers}
use Rattle.qcow2_alloc.specs.Freeing.{HasUnpinnedRoom, counting_causes}
use Rattle.qcow2_alloc.specs.Going.{HadNoResourceError, IsNotResourceError}
use Rattle.qcow2_alloc.specs.Growing.{lacks, lacking}
use Rattle.qcow2_alloc.specs.GrowingTables.{Leaks, table_run}
use Rattle.qcow2_alloc.specs.MakingRoom.{run_of, rank}
use Rattle.qcow2_alloc.specs.MakingBlocks.{CanReference}
use Rattle.qcow2_alloc.specs.Memory.{Cached}
use Rattle.qcow2_alloc.specs.NewBlocks.{HasCountedOwn}
use Rattle.qcow2_alloc.specs.GuestView.{Metadata, in_memory, counted, referenced_at_all, IsSound, GuestUnchanged, PreservesGuest}
use Rattle.qcow2_alloc.specs.State.{ImageState, image_state, metadata, WhereKept, WhereGuarded}

-- The number of clusters that a table's entries take, if a cluster has 2^`cluster_bits` bytes.
abbrev pub clusters_of : TableValue → ℕ → ℕ
clusters_of table cluster_bits = (8 * length table.raw_entries + (2 ^ cluster_bits - 1)) / 2 ^ cluster_bits

-- The header that references another table as its refcount table.
abbrev pub naming_table : Header → TableValue → Header
naming_table H table = with_refcount_table H (table_start table) (clusters_of table H.fields.cluster_bits)

-- A table is written to its clusters, and then the header's reference to it. If a write fails, the image has the old table.
pub record MovesTable {S : Type 0} (state : S → StorageState) (table was : TableValue) (before : ImageFile S) (result : Result Unit Fault)
    (now : TableValue) (after : ImageFile S) : Type 0 where
  pub done : Result Unit Fault
  pub mid : S
  pub put : WriteOutcome (state before.image) (state mid) (table_start table) (table_bytes table.raw_entries) done
  pub stopped : (fault : Fault) → done ≡ Err fault → (result ≡ Err fault) × (after ≡ record { image = mid; header = before.header })
  pub pointed : done ≡ Ok tt → AtomicWriteOutcome (state mid) (state after.image) 0 (first_bytes (naming_table before.header table).fields) result
  pub fit : done ≡ Ok tt → FirstFieldsFit (naming_table before.header table).fields
  pub sizes : done ≡ Ok tt → first_fault (rules_of_size before.header.fields) ≡ None
      → first_fault (rules_of_size (naming_table before.header table).fields) ≡ None
  pub ok : OnOk result ((now ≡ record table { modified = false }) × (after.header ≡ naming_table before.header table))
  pub err : OnErr result ((now ≡ was) × MovedTable before.header after.header)

-- The blocks that are missing for a run are linked: entries of a table reference them in the run's first clusters. Other entries stay the
-- same.
pub record LinksNewBlocks (h : Fields) (was : TableValue) (run : Run) (old new : TableValue) : Type 0 where
  pub layout : new.layout ≡ old.layout
  pub placed : new.cluster ≡ old.cluster
  pub long : length new.raw_entries ≡ length old.raw_entries
  pub news : (i : ℕ) → lacks was (counters_of_block h) run.first run.len i ≡ true
      → block_offset (slice_index new.raw_entries i) ≡ (run.first + rank (lacks was (counters_of_block h) run.first run.len) i) * cluster_size h
  pub olds : (i : ℕ) → lacks was (counters_of_block h) run.first run.len i ≡ false → slice_index new.raw_entries i ≡ slice_index old.raw_entries i
  pub table : IsTable refcount_table_kind old → old.layout.cluster_bits ≡ h.cluster_bits → IsTable refcount_table_kind new

-- A copy of the refcount table, grown to n clusters, is for a run, after the blocks that are missing for it. Its entries reference these,
-- and the same blocks as the old ones.
pub record IsGrownCopy (h : Fields) (table : TableValue) (run : Run) (n : ℕ) (copy : TableValue) : Type 0 where
  pub layout : copy.layout ≡ layout_of h
  pub long : length copy.raw_entries ≡ n * entries_of_cluster h
  pub longer : length table.raw_entries ≤ length copy.raw_entries
  pub table_bounded : length copy.raw_entries ≤ 2 ^ 20
  pub placed : copy.cluster ≡ Some (run.first + lacking table (counters_of_block h) run.first run.len)
  pub sane : (i : ℕ) → i < length copy.raw_entries → IsTrue (reftable_entry_valid h.cluster_bits (slice_index copy.raw_entries i))
  pub fit : AreFit copy.raw_entries
  pub news : (i : ℕ) → lacks table (counters_of_block h) run.first run.len i ≡ true
      → block_offset (slice_index copy.raw_entries i) ≡ (run.first + rank
      (lacks table (counters_of_block h) run.first run.len) i) * cluster_size h
  pub olds : (i : ℕ) → lacks table (counters_of_block h) run.first run.len i ≡ false
      → block_offset (slice_index copy.raw_entries i) ≡ block_offset (slice_index table.raw_entries i)

-- The run has space for the missing blocks and the copy of the table. Its clusters are addressable, and the copy's blocks can count them.
pub record HasFreeAreaFor (h : Fields) (table : TableValue) (run : Run) (n : ℕ) : Type 0 where
  pub start_nonzero : run.first ≢ 0
  pub more : 1 ≤ n
  pub enough : run.len ≡ n + lacking table (counters_of_block h) run.first run.len
  pub reach : IsAddressable h.cluster_bits (run.first + (run.len - 1))
  pub inside : run.first + run.len ≤ n * entries_of_cluster h * counters_of_block h

-- A grown copy of the refcount table may be written to a run, and the header may reference it. The old table's cluster is addressable.
pub record IsPlan (h : Fields) (table : TableValue) (run : Run) (copy : TableValue) : Type 0 where
  pub grown : IsGrownCopy h table run (clusters_of copy h.cluster_bits) copy
  pub room : HasFreeAreaFor h table run (clusters_of copy h.cluster_bits)
  pub placed : IsPlacedTable table
  pub bits : table.layout.cluster_bits ≡ h.cluster_bits

-- The refcount table, grown in memory until it holds an index: new entries are 0, and it has no cluster yet.
pub record IsGrownFor (h : Fields) (table : TableValue) (at : ℕ) (copy : TableValue) : Type 0 where
  pub copied : copy ≡ record { layout = layout_of h; raw_entries = padded table.raw_entries (length copy.raw_entries); cluster = None; modified = true }
  pub long : IsGrownLength (entries_of_cluster h) (counters_of_block h) at (length copy.raw_entries)
  pub bits : table.layout.cluster_bits ≡ h.cluster_bits

-- The causes of a failed growth, apart from `Memory`: the table is another image's, or would be too long.
abbrev pub growing_causes : Fields → TableValue → (at : ℕ) → Causes
growing_causes h table at = bare_causes (table.layout.cluster_bits ≢ h.cluster_bits)
    (λ number. ((n : ℕ) → IsEnough (entries_of_cluster h) (counters_of_block h) at n → 2 ^ 20 < n)
    × (number ≡ 2 ^ 20 + entries_of_cluster h))

-- A copy of the refcount table has grown in memory by whole clusters of empty entries, and a run has space for it.
pub record IsCopyFor (h : Fields) (table : TableValue) (run : Run) (copy : TableValue) : Type 0 where
  pub copied : copy ≡ record { layout = layout_of h; raw_entries = padded table.raw_entries (length copy.raw_entries); cluster = None; modified = true }
  pub whole : length copy.raw_entries % entries_of_cluster h ≡ 0
  pub longer : length table.raw_entries ≤ length copy.raw_entries
  pub more : 1 ≤ clusters_of copy h.cluster_bits
  pub enough : run.len ≡ clusters_of copy h.cluster_bits + lacking table (counters_of_block h) run.first run.len

-- The causes of a failure to use the run for the copy, apart from `Memory`: it starts at cluster 0, the table's entries can't be written,
-- or it isn't addressable.
abbrev pub placing_causes : Fields → TableValue → Run → TableValue → Causes
placing_causes h table run copy =
    bare_causes ((run.first ≢ 0) × CanReference table h.cluster_bits (run.first + (run.len - 1)) → ⊥) (λ number.
    (IsAddressable h.cluster_bits (run.first + (run.len - 1)) × (run.first + run.len ≤ length copy.raw_entries * counters_of_block h) → ⊥)
    × (number ≡ run.first + (run.len - 1)))

-- The guest is unchanged, and the image in memory is the same.
pub record StaysInMemory (m m' : Metadata) : Type 0 where
  pub sound : IsSound m'
  pub guest_unchanged : GuestUnchanged (λ _. 0) (λ _. 0) m m'
  pub memory_same : in_memory m' ≡ in_memory m

abbrev pub with_cached : Metadata → Cached → Metadata
with_cached m cached = record m { cached = cached }

-- Blocks that are cached for a run without references are dropped.
pub record ForgetsRun (first n : ℕ) (old : Cached) (result : Result Unit Fault) (new : Cached) : Type 0 where
  pub stays : (m : Metadata) → IsSound (with_cached m old) → ((d : ℕ) → first ≤ d → d < first + n → referenced_at_all (with_cached m old) d ≡ 0)
      → StaysInMemory (with_cached m old) (with_cached m new)
      × OnOk result ((d : ℕ) → first ≤ d → d < first + n → lookup (nat_eq d) new.blocks ≡ None)

-- A block that is cached for one of n clusters is pinned.
abbrev pub IsPinnedWithin : {S : Type 0} → ℕ → ℕ → MetadataCaches S → Type 0
IsPinnedWithin first n caches = (d : ℕ) × (first ≤ d) × (d < first + n) × (0 < pinned_among (nat_eq d) (cached_in caches).blocks)

-- The run's refcounts are set, and the blocks that are missing for it are in its first clusters. Nothing references it yet.
pub record IsTaken (m : Metadata) (run : Run) : Type 0 where
  pub free : (c : ℕ) → run.first ≤ c → c < run.first + run.len → referenced_at_all m c ≡ 0
  pub counters : (i : ℕ) → lacks m.table (counters_of_block m.header.fields) run.first run.len i ≡ true
      → HasCountedOwn m.file m.header.fields
      (run.first + rank (lacks m.table (counters_of_block m.header.fields) run.first run.len) i) i run
  pub written : (c : ℕ) → count m.file m.header.fields c ≡ counted m c
  pub uncached : (i : ℕ) → lacks m.table (counters_of_block m.header.fields) run.first run.len i ≡ true
      → lookup (nat_eq (run.first + rank (lacks m.table (counters_of_block m.header.fields) run.first run.len) i)) m.cached.blocks ≡ None

-- The run is free.
abbrev pub IsUncounted : Metadata → Run → Type 0
IsUncounted m run = (c : ℕ) → run.first ≤ c → c < run.first + run.len → counted m c ≡ 0

-- The free list after a table has grown: the old table's clusters are added.
abbrev pub waiting_then : Result Unit Fault → Fields → List FreeEntry → List FreeEntry
waiting_then (Ok done) h pending = pending ++ table_run h
waiting_then (Err fault) h pending = pending

module _ {S : Type 0} (state : S → StorageState) where
  -- A free run is taken: refcounts in old blocks are set, and the blocks that are missing for it are written.
  pub record TakesFreeArea (run : Run) (s : ImageState S) (result : Result Unit Fault) (s' : ImageState S) : Type 0 where
    pub counts : CountsReferenced state run.first run.len s result s'
    pub taken : WhereGuarded state s (IsUncounted (metadata state s) run
        → OnOk result (IsTaken (metadata state s') run))

  -- A copy of the refcount table is written to a run and becomes the image's table, and the old one is added to the list. If `known` holds,
  -- the run was free.
  pub record FillsFreeArea (known : Type 0) (run : Run) (copy : TableValue) (s : ImageState S) (result : Result Unit Fault)
      (s' : ImageState S) : Type 0 where
    pub leaked : ℕ → ℕ
    pub leaks : Leaks (known × IsTrue (state s.file.image).shape.keeps × IsSound (metadata state s))
        (HasUnpinnedRoom s.table s.caches) result leaked
    pub shape : (state s'.file.image).shape ≡ (state s.file.image).shape
    pub counts_not_fallen : CountsNotFallen (state s.file.image) (state s'.file.image)
    pub faults : HadNoResourceError result → IsFaultless (state s.file.image) (state s'.file.image)
    pub guest_unchanged : known → PreservesGuest (HadNoResourceError result) leaked (λ _. 0) (state s.file.image) (metadata state s) (state s'.file.image)
        (metadata state s')
    pub raised : known → WhereKept state s (HadNoResourceError result
        → OnlyIncremented (metadata state s) (metadata state s'))
    pub counts : known → WhereKept state s
        (OnOk result ((c : ℕ) → counted (metadata state s') c ≡ counted (metadata state s) c + covers c (run_of run.first run.len)))
    pub order : order_of s'.caches ≡ order_of s.caches
    pub moved : MovedTable s.file.header s'.file.header
    pub longer : length s.table.raw_entries ≤ length s'.table.raw_entries
    pub keeps_unpinned_room : (any : Bool) → HasUnpinnedRoom s.table s.caches any → HasUnpinnedRoom s'.table s'.caches any
    pub room : KeepsTables s.caches s'.caches
    pub table_is : OnOk result (s'.table ≡ record copy { modified = false })
    pub stays : IfErr result (λ fault. IsNotResourceError fault → (s'.table ≡ s.table) × (s'.file.header ≡ s.file.header))
    pub cause : FailsFor (counting_causes (known × IsTrue (state s.file.image).shape.keeps × IsSound (metadata state s))
        (HasUnpinnedRoom s.table s.caches) (state s.file.image).faults (state s'.file.image).faults) result

  -- Blocks are written before tables, and the run is free.
  abbrev pub IsFreeIn : Run → ImageState S → Type 0
  IsFreeIn run s = (order_of s.caches ≡ L2DependsOnRb) × IsUncounted (metadata state s) run

  -- The image was consistent earlier, in a storage that keeps what is written.
  abbrev pub WasSound : ImageState S → Type 0
  WasSound s = (order_of s.caches ≡ L2DependsOnRb) × IsTrue (state s.file.image).shape.keeps × IsSound (metadata state s)

  -- Like `FillsFreeArea`, if the image before a part of the call implies that the run is free.
  abbrev pub EntersFree : Run → TableValue → ImageState S → Result Unit Fault → ImageState S → Type 0
  EntersFree run copy s result s' = (first : MetadataCaches S) (file : ImageFile S)
      → (WasSound (image_state s.table first file s.pending) → IsFreeIn run s)
      → FillsFreeArea (WasSound (image_state s.table first file s.pending)) run copy s result s'
