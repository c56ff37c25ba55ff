-- Specifies how the L2 entries of consecutive guest clusters are linked to consecutive host clusters, which are
-- reserved (allocated, and not yet referenced) or are their preallocated zero clusters.
use Rattle.std.specs.Prelude.{◌≡◌, ◌≢◌, ◌⊎◌, ⊤, ◌+◌, ◌*◌, ◌/◌, ◌%◌, ◌^◌, ◌<◌, ◌≤◌, ℕ, zero, suc, List, [], ◌∷◌, ◌++◌}
use Rattle.std.specs.Prelude.{Option, Some, None, Result, Ok, Err, OnOk, OnErr, IfErr, length, true}
use Rattle.std.specs.List.{AllByRecursion}
use Rattle.imago_storage.specs.State.{StorageState}
use Rattle.imago_storage.specs.declared.fault.Fault.{Fault}
use Rattle.imago_storage.specs.declared.fault.Fault.TheVariants.{DamagedTable, Memory}
use Rattle.qcow2_types.specs.Entries.{entry, l2_table}
use Rattle.qcow2_types.specs.Header.{cluster_size, entries_of_cluster}
use Rattle.qcow2_types.specs.Pending.{FreeEntry}
use Rattle.qcow2_types.specs.Words.{Mapping, data_at, mapping_of, zeroes}
use Rattle.qcow2_types.specs.Words as mappings
use Rattle.qcow2_types.specs.Frames.{Same}
use Rattle.qcow2_metadata.specs.Allocations.{Conserves, allocation_of, freed, holds, newly, replaced}
use Rattle.qcow2_metadata.specs.Tables.{TableValue, mapping_in, with_raw_entry}
use Rattle.qcow2_alloc.specs.Caches.{cached_in}
use Rattle.qcow2_alloc.specs.Causes.{HasCause}
use Rattle.qcow2_alloc.specs.FreeList.{FreeList}
use Rattle.qcow2_alloc.specs.Going.{IsNoShorter, writing_causes}
use Rattle.qcow2_alloc.specs.GuestView.{IsUsed, Metadata}
use Rattle.qcow2_alloc.specs.WellFormedness.{AreTablesClean, IsCachedTable}
use Rattle.qcow2_steps.specs.Data.{IsKeptFor}
use Rattle.qcow2_steps.specs.Words.{GivesEntry, IsOfEntry, IsReserved}
use Rattle.qcow2_clusters.specs.Progress.{Kind, Progresses, both, handing}
use Rattle.qcow2_clusters.specs.Flushed.{Clusters, IsReady, KeepsL1, flushed_metadata, storage}
use Rattle.qcow2_clusters.specs.Storing.{Rests}
use Rattle.qcow2_clusters.specs.Room.{KeepsNoneFreeBefore}

-- The guest cluster has no host cluster.
abbrev pub TakesNone : Mapping → Type 0
TakesNone mappings.unmapped = ⊤
TakesNone (zeroes None copied) = ⊤
TakesNone mapping = ⊥

-- The L2 table of the guest cluster is in this cluster, in a flushed image.
pub record IsUnder (m : Metadata) (table guest : ℕ) : Type 0 where
  pub inside : guest / entries_of_cluster m.header.fields < m.header.fields.l1_entries
  pub table_linked : l2_table m.file m.header.fields (guest / entries_of_cluster m.header.fields) ≡ table * cluster_size m.header.fields
  pub table_nonzero : table ≢ 0

-- The host cluster is reserved, or is the guest cluster's preallocated zero cluster with the COPIED flag.
pub record CanBeLinked (m : Metadata) (table guest x : ℕ) : Type 0 where
  pub in_table : IsUnder m table guest
  pub own : IsReserved m x ⊎ IsKeptFor m guest x

-- Each of `n` consecutive guest clusters can be linked to its own of the host clusters from `x` on.
abbrev pub CanAllBeLinked : ℕ → Metadata → (table guest x : ℕ) → Type 0
CanAllBeLinked n m table guest x = (d : ℕ) → d < n → CanBeLinked m table (guest + d) (x + d)

-- An L2 table, and the list of clusters to free.
pub record Listed : Type 0 where
  pub table : TableValue
  pub list : FreeList

abbrev pub listing : TableValue → FreeList → Listed
listing table list = record { table = table; list = list }

-- The clusters of an entry of the free list, if any, as a list.
abbrev pub listed_of : Option FreeEntry → List FreeEntry
listed_of None = []
listed_of (Some entry) = entry ∷ []

-- The clusters to free when the entry at an index is linked to cluster `x`.
abbrev pub given_in : TableValue → (index x : ℕ) → Option FreeEntry
given_in table index x = freed (replaced x (allocation_of table.layout.cluster_bits (mapping_in table index)))

-- The clusters that an entry referenced, if any, are added to the list, or memory ran out.
abbrev pub DefersFree : Option FreeEntry → FreeList → Result Unit Fault → FreeList → Type 0
DefersFree (Some entry) list result list' = ((result ≡ Ok tt) × (list' ≡ record list { entries = list.entries ++ entry ∷ [] }))
    ⊎ ((result ≡ Err Memory) × (list' ≡ list))
DefersFree None list result list' = (result ≡ Ok tt) × (list' ≡ list)

-- The entry at an index references a cluster, and what it referenced before is on the list of clusters to free.
pub record LinksEntry (index x : ℕ) (old new : Listed) : Type 0 where
  pub set : new.table ≡ with_raw_entry old.table index (2 ^ 63 + x * 2 ^ old.table.layout.cluster_bits)
  pub put : new.list ≡ record old.list { entries = old.list.entries ++ listed_of (given_in old.table index x) }
  pub conserved : Conserves old.table.layout.cluster_bits (mapping_in old.table index)
      (mapping_of old.table.layout (2 ^ 63 + x * 2 ^ old.table.layout.cluster_bits)) (given_in old.table index x)
      (newly x (allocation_of old.table.layout.cluster_bits (mapping_in old.table index)))

-- The `n` entries from an index on reference `n` consecutive clusters.
unfoldable pub LinksEntries : (index x n : ℕ) → Listed → Listed → Type 0
LinksEntries index x zero old new = new ≡ old
LinksEntries index x (suc n) old new = (between : Listed) × LinksEntries index x n old between × LinksEntry (index + n) (x + n) between new

-- The entries are linked, or the table is for another cluster size, or memory ran out.
pub record LinksIn (bits index x n : ℕ) (old : Listed) (result : Result Unit Fault) (new : Listed) : Type 0 where
  pub ok : OnOk result ((old.table.layout.cluster_bits ≡ bits) × LinksEntries index x n old new)
  pub err : IfErr result (λ fault. (fault ≡ Memory) ⊎ ((fault ≡ DamagedTable) × (old.table.layout.cluster_bits ≢ bits)))

-- The clusters that the entry of a guest cluster references.
abbrev pub taken_before : Metadata → (guest : ℕ) → Option (ℕ × ℕ)
taken_before m guest = allocation_of m.header.fields.cluster_bits (entry m.file m.header.fields guest)

-- The clusters to free when the guest cluster is linked to cluster `x`.
abbrev pub given_for : Metadata → (guest x : ℕ) → Option FreeEntry
given_for m guest x = freed (replaced x (taken_before m guest))

-- The kind of a call that links one guest cluster. The excess refcount of the clusters to free grows, as the entry no
-- longer references them. They are taken, as they become pending. A newly linked cluster is taken too. A preallocated
-- cluster isn't, since the entry referenced it before.
abbrev pub linking : Metadata → (guest x : ℕ) → Kind
linking m guest x = let i = guest / entries_of_cluster m.header.fields in let j = guest % entries_of_cluster m.header.fields in record {
  gives = GivesEntry m i j (data_at x true);
  written = λ q. ⊥;
  set = IsOfEntry m.header.fields i j;
  excess_added = λ c. holds c (given_for m guest x);
  taken = λ c. newly x (taken_before m guest) c + holds c (given_for m guest x);
}

-- The clusters to free when `n` consecutive guest clusters are linked to the clusters from `x` on, in this order.
unfoldable pub given_for_run : Metadata → (guest x n : ℕ) → List FreeEntry
given_for_run m guest x zero = []
given_for_run m guest x (suc n) = given_for_run m guest x n ++ listed_of (given_for m (guest + n) (x + n))

-- The kind of a call that links `n` consecutive guest clusters.
unfoldable pub linking_run : Metadata → (guest x n : ℕ) → Kind
linking_run m guest x zero = handing (λ _. 0) (λ _. 0)
linking_run m guest x (suc n) = both (linking_run m guest x n) (linking m (guest + n) (x + n))

-- Each of `n` guest clusters references its own of `n` clusters as data, with the COPIED flag. Clusters in use keep
-- their bytes, also those that become pending. No other entry changes, and the file gets no shorter in any case.
pub record LinksRun {S : Type 0} (state : S → StorageState) (table guest x n : ℕ) (c : Clusters S) (result : Result Unit Fault)
    (c' : Clusters S) : Type 0 where
  pub progress : CanAllBeLinked n (flushed_metadata state c) table guest x → Progresses (result ≡ Ok tt)
      (linking_run (flushed_metadata state c) guest x n) (storage state c) (flushed_metadata state c) (storage state c') (flushed_metadata state c')
  pub rests : Rests state c result c'
  pub header : c'.file.header ≡ c.file.header
  pub no_shorter : IsNoShorter (storage state c) (storage state c')
  pub held : c'.space.to_free.held ≡ c.space.to_free.held
  pub l1 : CanAllBeLinked n (flushed_metadata state c) table guest x → KeepsL1 state c result c'
  pub marked : CanAllBeLinked n (flushed_metadata state c) table guest x → KeepsNoneFreeBefore state c result c'
  pub waits : IsReady state c → CanAllBeLinked n (flushed_metadata state c) table guest x
      → OnOk result (c'.space.to_free.entries ≡ c.space.to_free.entries ++ given_for_run (flushed_metadata state c) guest x n)
  pub named : IsReady state c → CanAllBeLinked n (flushed_metadata state c) table guest x
      → OnOk result ((d : ℕ) → d < n → entry (flushed_metadata state c').file c.file.header.fields (guest + d) ≡ data_at (x + d) true)
  pub bytes : IsReady state c → CanAllBeLinked n (flushed_metadata state c) table guest x
      → OnOk result ((q : ℕ) → x ≤ q / cluster_size c.file.header.fields → q / cluster_size c.file.header.fields < x + n
      → (flushed_metadata state c').file q ≡ (flushed_metadata state c).file q)
  pub used : IsReady state c → CanAllBeLinked n (flushed_metadata state c) table guest x
      → OnOk result ((d : ℕ) → IsUsed (flushed_metadata state c) d → Same (flushed_metadata state c).file (flushed_metadata state c').file
      (d * cluster_size c.file.header.fields) (cluster_size c.file.header.fields))
  pub cause : IfErr result (HasCause (writing_causes (IsReady state c × CanAllBeLinked n (flushed_metadata state c) table guest x)
      (storage state c).faults (storage state c').faults))

-- On success only the table is cached, as the file has it. On error no table is cached.
pub record LeavesTable {S : Type 0} (state : S → StorageState) (table guest x n : ℕ) (c : Clusters S) (result : Result Unit Fault)
    (c' : Clusters S) : Type 0 where
  pub clean : AreTablesClean (cached_in c'.caches)
  pub unpinned : AllByRecursion (λ e. e.1.pins ≡ 0) (cached_in c'.caches).tables
  pub alone : AllByRecursion (λ e. e.0 ≡ table) (cached_in c'.caches).tables
  pub one_table_cached : OnOk result (length (cached_in c'.caches).tables ≡ 1)
  pub none : OnErr result ((cached_in c'.caches).tables ≡ [])
  pub fit : IsReady state c → CanAllBeLinked n (flushed_metadata state c) table guest x → OnOk result
      (AllByRecursion (λ e. IsCachedTable (flushed_metadata state c').file c'.file.header.fields e.0 e.1.value) (cached_in c'.caches).tables)
