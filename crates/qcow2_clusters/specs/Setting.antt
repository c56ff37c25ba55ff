-- Specifies how the entries of consecutive guest clusters of one L2 table are set.
use Rattle.std.specs.Prelude.{◌≡◌, ◌≢◌, ◌+◌, ◌*◌, ◌<◌, ◌++◌, ℕ, List, Result, Ok, OnOk, OnErr, IfErr, ◌∷◌, [], length}
use Rattle.std.specs.List.{AllByRecursion}
use Rattle.qcow2_alloc.specs.Caches.{cached_in}
use Rattle.qcow2_alloc.specs.WellFormedness.{AreTablesClean, IsCachedTable}
use Rattle.imago_storage.specs.State.{StorageState}
use Rattle.imago_storage.specs.declared.fault.Fault.{Fault}
use Rattle.qcow2_types.specs.Entries.{entry}
use Rattle.qcow2_types.specs.Frames.{Same}
use Rattle.qcow2_types.specs.Header.{cluster_size, layout_of}
use Rattle.qcow2_types.specs.Pending.{FreeEntry}
use Rattle.qcow2_types.specs.Words.{Mapping}
use Rattle.qcow2_alloc.specs.Causes.{HasCause}
use Rattle.qcow2_alloc.specs.Going.{IsNoShorter, writing_causes}
use Rattle.qcow2_alloc.specs.GuestView.{IsUsed, Metadata, in_memory}
use Rattle.qcow2_alloc.specs.declared.cache.CacheDependency.{CacheDependency}
use Rattle.qcow2_clusters.specs.Linking.{Listed}
use Rattle.qcow2_clusters.specs.Progress.{Kind, Progresses}
use Rattle.qcow2_clusters.specs.Flushed.{Clusters, IsReady, KeepsL1, flushed_metadata, storage}
use Rattle.qcow2_clusters.specs.Room.{KeepsNoneFreeBefore}
use Rattle.qcow2_clusters.specs.Storing.{Rests}

-- The effect on `n` consecutive guest clusters: the kind of the call, the clusters that become pending, and the new
-- meaning of each entry.
pub record Setting : Type 1 where
  pub kind : Kind
  pub waiting : List FreeEntry
  pub means : ℕ → Mapping

-- If the image is `able`, the entries are set. Clusters in use keep their bytes, and the file gets no shorter in any
-- case.
pub record SetsRun {S : Type 0} (state : S → StorageState) (guest n : ℕ) (able : Type 0) (s : Setting) (c : Clusters S)
    (result : Result Unit Fault) (c' : Clusters S) : Type 0 where
  pub progress : able → Progresses (result ≡ Ok tt) s.kind (storage state c) (flushed_metadata state c) (storage state c') (flushed_metadata state c')
  pub rests : Rests state c result c'
  pub header : c'.file.header ≡ c.file.header
  pub no_shorter : IsNoShorter (storage state c) (storage state c')
  pub held : c'.space.to_free.held ≡ c.space.to_free.held
  pub l1 : able → KeepsL1 state c result c'
  pub marked : able → KeepsNoneFreeBefore state c result c'
  pub waits : IsReady state c → able → OnOk result (c'.space.to_free.entries ≡ c.space.to_free.entries ++ s.waiting)
  pub set : IsReady state c → able
      → OnOk result ((d : ℕ) → d < n → entry (flushed_metadata state c').file c.file.header.fields (guest + d) ≡ s.means d)
  pub used : IsReady state c → able
      → OnOk result ((d : ℕ) → IsUsed (flushed_metadata state c) d → Same (flushed_metadata state c).file (flushed_metadata state c').file
      (d * cluster_size c.file.header.fields) (cluster_size c.file.header.fields))
  pub cause : IfErr result (HasCause (writing_causes (IsReady state c × able) (storage state c).faults (storage state c').faults))

-- The image with only this table cached, and with this free list.
abbrev pub cached_alone : Metadata → CacheDependency → (table : ℕ) → Listed → Metadata
cached_alone m order table s = record m {
  cached = record { tables = (table, record { value = s.table; pins = 0 }) ∷ []; blocks = [] };
  order = order;
  pending = s.list.entries;
}

-- On success only the table is cached, as the file has it. On error no table is cached.
pub record StaysCached {S : Type 0} (state : S → StorageState) (table : ℕ) (able : Type 0) (c : Clusters S) (result : Result Unit Fault)
    (c' : Clusters S) : Type 0 where
  pub clean : AreTablesClean (cached_in c'.caches)
  pub unpinned : AllByRecursion (λ e. e.1.pins ≡ 0) (cached_in c'.caches).tables
  pub alone : AllByRecursion (λ e. e.0 ≡ table) (cached_in c'.caches).tables
  pub one_table_cached : OnOk result (length (cached_in c'.caches).tables ≡ 1)
  pub none : OnErr result ((cached_in c'.caches).tables ≡ [])
  pub fit : IsReady state c → able → OnOk result
      (AllByRecursion (λ e. IsCachedTable (flushed_metadata state c').file c'.file.header.fields e.0 e.1.value) (cached_in c'.caches).tables)
