-- Clearing consecutive guest clusters of a flushed image.
use Rattle.std.proofs.Common.{◌≡◌, ℕ, ◌+◌, ◌*◌, ◌%◌, ◌<◌, ◌≤◌, refl, arith, ap, sym, subst, ◌∙◌, inl, inr, Result, Ok, Err}
use Rattle.std.specs.Prelude.{◌⊎◌}
use Rattle.imago_storage.specs.State.{StorageState}
use Rattle.imago_storage.specs.declared.fault.Fault.{Fault}
use Rattle.imago_storage.specs.declared.fault.Fault.TheVariants.{Memory}
use Rattle.qcow2_types.specs.Header.{layout_of, entries_of_cluster}
use Rattle.qcow2_types.specs.Words.{Layout}
use Rattle.qcow2_metadata.specs.Tables.{TableValue, table_in}
use Rattle.qcow2_alloc.specs.declared.cache.CacheDependency.{CacheDependency}
use Rattle.qcow2_alloc.specs.declared.cache.MetadataCaches.{MetadataCaches}
use Rattle.qcow2_alloc.specs.declared.file.ImageFile.{ImageFile}
use Rattle.qcow2_alloc.specs.Allocators.{UsesTable}
use Rattle.qcow2_alloc.specs.Caches.{cached_file, order_of}
use Rattle.qcow2_alloc.specs.GuestView.{GuestUnchanged, IsSound, Metadata}
use Rattle.qcow2_clusters.specs.Clearing.{AreUnder, ClearsIn, IsPossible, clearing_setting}
use Rattle.qcow2_clusters.specs.Linking.{listing}
use Rattle.qcow2_clusters.specs.Flushed.{AreEmpty, Clusters, HasEntries, clusters_state, flushed_metadata}
use Rattle.qcow2_clusters.specs.Setting.{Setting, SetsRun, StaysCached, cached_alone}
use Rattle.qcow2_clusters.specs.WritingBack.{KeepsCachedTables, WritesBack}
use Rattle.qcow2_clusters.specs.declared.clearing.Clearing.{Clearing}
use Rattle.qcow2_clusters.proofs.ClearedRuns.{Standing, cleared-layout, first-words-of, stands}
use Rattle.qcow2_clusters.proofs.SettingAtRest.{Stood, keeps-by, sets-by}

module _ {S : Type 0} (state : S → StorageState) (how : Clearing) (table guest n : ℕ) (c c' : Clusters S) (mid : MetadataCaches S)
    (between : ImageFile S) (done result : Result Unit Fault) (rest : AreEmpty c.caches) (room : HasEntries c.caches) (any : 0 < n)
    (possible : IsPossible how c.file.header.fields.version)
    (fits : guest % entries_of_cluster c.file.header.fields + n ≤ entries_of_cluster c.file.header.fields) where
  abbrev m0 : Metadata
  m0 = flushed_metadata state c

  abbrev able : Type 0
  able = AreUnder n m0 table guest

  abbrev Does : TableValue → Result Unit Fault → TableValue → Type 0
  Does t r t' = ClearsIn how c.file.header.fields.cluster_bits (guest % entries_of_cluster c.file.header.fields) n (listing t c.space.to_free) r
      (listing t' c'.space.to_free)

  abbrev StoodSo : CacheDependency → TableValue → TableValue → Type 0
  StoodSo = Stood state table guest n c c' mid between done result able (clearing_setting how m0 guest n) (λ under. under)

  refused : (t : TableValue) (fault : Fault) (t' : TableValue) → Does t (Err fault) t' → (fault ≡ Memory) ⊎ (t.layout ≡ layout_of c.file.header.fields → ⊥)
  refused t fault t' does = elim does.err [
    | inl memory ↦ inl memory
    | inr never ↦ inr (λ same. never (ap (λ (l : Layout). l.cluster_bits) same)
        (subst (λ v. IsPossible how v) (sym (ap (λ (l : Layout). l.version) same)) possible))
  ]

  stood-so : (t t' : TableValue) → IsSound m0 → able
      → t ≡ table_in m0.file c.file.header.fields table (entries_of_cluster c.file.header.fields) → Does t (Ok tt) t'
      → let first = cached_alone m0 (order_of c.caches) table (listing t c.space.to_free) in
      IsSound first → GuestUnchanged (λ _. 0) (λ _. 0) m0 first → StoodSo (order_of c.caches) t t'
  stood-so t t' sound under is does start guest_unchanged =
      let stood = stands how m0 table guest n sound possible under (order_of c.caches) t is c.space.to_free fits start
      (first-words-of how m0 table guest n sound possible under (order_of c.caches) t is c.space.to_free fits) n (omega arith)
      (listing t' c'.space.to_free) does.ok.1 in
      record {
        step = stood.step;
        waits = stood.waits;
        named = stood.set;
        layout = stood.layout;
      }

  pub clears-by : c'.space.allocator ≡ c.space.allocator → c'.space.to_free.held ≡ c.space.to_free.held
      → WritesBack state done between mid result c'.file c'.caches
      → UsesTable state table Does (cached_file c.caches c.file) done (cached_file mid between)
      → SetsRun state guest n able (clearing_setting how m0 guest n) c result c'
  clears-by allocator held settles used =
      sets-by state table guest n c c' mid between done result able (clearing_setting how m0 guest n) (λ under. under) rest room any Does refused stood-so
      allocator held settles used

  pub clears-keep : c'.space.allocator ≡ c.space.allocator → c'.space.to_free.held ≡ c.space.to_free.held
      → WritesBack state done between mid result c'.file c'.caches → (new : MetadataCaches S) → KeepsCachedTables state between mid result c'.file new
      → UsesTable state table Does (cached_file c.caches c.file) done (cached_file mid between)
      → StaysCached state table able c result (clusters_state c'.file new c'.space)
  clears-keep allocator held settles new kept used =
      keeps-by state table guest n c c' mid between done result able (clearing_setting how m0 guest n) (λ under. under) rest room any Does refused stood-so
      allocator held settles new kept used
