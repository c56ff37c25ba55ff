-- Linking consecutive guest clusters of a flushed image.
use Rattle.std.proofs.Common.{◌≡◌, ◌≢◌, ℕ, ◌+◌, ◌-◌, ◌*◌, ◌/◌, ◌%◌, ◌<◌, ◌≤◌, refl, arith, ap, subst, inl, inr, true, Result, Ok, Err}
use Rattle.std.specs.Prelude.{◌⊎◌, OnOk}
use Rattle.imago_storage.specs.State.{StorageState}
use Rattle.imago_storage.specs.declared.fault.Fault.{Fault}
use Rattle.imago_storage.specs.declared.fault.Fault.TheVariants.{Memory}
use Rattle.qcow2_types.specs.Frames.{Same}
use Rattle.qcow2_types.specs.Header.{cluster_size, layout_of, entries_of_cluster}
use Rattle.qcow2_types.specs.Words.{Layout, data_at}
use Rattle.qcow2_metadata.specs.Places.{IsAddressable}
use Rattle.qcow2_metadata.specs.Tables.{TableValue, table_in}
use Rattle.qcow2_alloc.specs.declared.cache.CacheDependency.{CacheDependency}
use Rattle.qcow2_alloc.specs.declared.cache.MetadataCaches.{MetadataCaches}
use Rattle.qcow2_alloc.specs.declared.file.ImageFile.{ImageFile}
use Rattle.qcow2_alloc.specs.Allocators.{UsesTable}
use Rattle.qcow2_alloc.specs.Caches.{cached_file, order_of}
use Rattle.qcow2_alloc.specs.GuestView.{GuestUnchanged, IsSound, IsUsed, Metadata}
use Rattle.qcow2_alloc.proofs.GuestView.ShownDisks.{in-cluster}
use Rattle.qcow2_steps.proofs.InvisibleClusters.{kept-used}
use Rattle.qcow2_clusters.specs.Linking.{CanAllBeLinked, CanBeLinked, LeavesTable, LinksIn, LinksRun, given_for_run, listing, linking_run}
use Rattle.qcow2_clusters.specs.Flushed.{AreEmpty, Clusters, HasEntries, clusters_state, flushed_metadata}
use Rattle.qcow2_clusters.specs.Setting.{Setting, SetsRun, StaysCached, cached_alone}
use Rattle.qcow2_clusters.specs.WritingBack.{KeepsCachedTables, WritesBack}
use Rattle.qcow2_clusters.proofs.RunNames.{stands}
use Rattle.qcow2_clusters.proofs.SettingAtRest as set
use Rattle.qcow2_clusters.proofs.SettingAtRest.{Stood, sets-by}

-- A cluster that can be linked is in use.
nameable-used : (m : Metadata) (table guest x : ℕ) → IsSound m → CanBeLinked m table guest x → IsUsed m x
nameable-used m table guest x sound able = elim able.own [
  | inl reserved ↦ reserved.used
  | inr kept ↦ kept-used m guest x sound kept
]

abbrev naming_setting : Metadata → (guest x n : ℕ) → Setting
naming_setting m guest x n = record {
  kind = linking_run m guest x n;
  waiting = given_for_run m guest x n;
  means = λ d. data_at (x + d) true;
}

pub leaves-none : {S : Type 0} (state : S → StorageState) (table guest x n : ℕ) (c : Clusters S) (fault : Fault) (result : Result Unit Fault)
    (c' : Clusters S) → OnOk result (result ≡ Err fault) → AreEmpty c'.caches → LeavesTable state table guest x n c result c'
leaves-none state table guest x n c fault result c' same empty =
    let none = set.leaves-none state table (CanAllBeLinked n (flushed_metadata state c) table guest x) c fault result c' same empty in
    record { clean = none.clean; unpinned = none.unpinned; alone = none.alone; one_table_cached = none.one_table_cached; none = none.none; fit = none.fit }

module _ {S : Type 0} (state : S → StorageState) (table guest x n : ℕ) (c c' : Clusters S) (mid : MetadataCaches S) (between : ImageFile S)
    (done result : Result Unit Fault) (rest : AreEmpty c.caches) (room : HasEntries c.caches) (any : 0 < n) (some : x ≢ 0)
    (near : (d : ℕ) → d < n → IsAddressable c.file.header.fields.cluster_bits (x + d))
    (fits : guest % entries_of_cluster c.file.header.fields + n ≤ entries_of_cluster c.file.header.fields)
    (allocator : c'.space.allocator ≡ c.space.allocator) (held : c'.space.to_free.held ≡ c.space.to_free.held)
    (settles : WritesBack state done between mid result c'.file c'.caches) where
  abbrev m0 : Metadata
  m0 = flushed_metadata state c

  abbrev able : Type 0
  able = CanAllBeLinked n m0 table guest x

  abbrev Does : TableValue → Result Unit Fault → TableValue → Type 0
  Does t r t' = LinksIn c.file.header.fields.cluster_bits (guest % entries_of_cluster c.file.header.fields) x n (listing t c.space.to_free) r
      (listing t' c'.space.to_free)

  refused : (t : TableValue) (fault : Fault) (t' : TableValue) → Does t (Err fault) t' → (fault ≡ Memory) ⊎ (t.layout ≡ layout_of c.file.header.fields → ⊥)
  refused t fault t' does = elim does.err [
    | inl memory ↦ inl memory
    | inr damaged ↦ inr (λ same. damaged.1 (ap (λ (l : Layout). l.cluster_bits) same))
  ]

  stood-so : (t t' : TableValue) → IsSound m0 → able
      → t ≡ table_in m0.file c.file.header.fields table (entries_of_cluster c.file.header.fields) → Does t (Ok tt) t'
      → let first = cached_alone m0 (order_of c.caches) table (listing t c.space.to_free) in
      IsSound first → GuestUnchanged (λ _. 0) (λ _. 0) m0 first
      → Stood state table guest n c c' mid between done result able (naming_setting m0 guest x n) (λ can d less. (can d less).in_table) (order_of c.caches) t t'
  stood-so t t' sound can is does start guest_unchanged =
      let stood = stands m0 table guest x sound some (order_of c.caches) t is c.space.to_free start guest_unchanged n can near fits n (omega arith)
      (listing t' c'.space.to_free) does.ok.1 in
      record { step = stood.step; waits = stood.waits; named = stood.named; layout = stood.layout }

  module _ (used : UsesTable state table Does (cached_file c.caches c.file) done (cached_file mid between)) where
    set-so : SetsRun state guest n able (naming_setting m0 guest x n) c result c'
    set-so = sets-by state table guest n c c' mid between done result able (naming_setting m0 guest x n) (λ can d less. (can d less).in_table) rest room any
        Does refused stood-so allocator held settles used

    -- So its bytes are kept.
    bytes-kept : IsSound m0 → able → (r : Result Unit Fault)
        → OnOk r ((d : ℕ) → IsUsed m0 d → Same m0.file (flushed_metadata state c').file (d * cluster_size c.file.header.fields) (cluster_size c.file.header.fields))
        → OnOk r ((q : ℕ) → x ≤ q / cluster_size c.file.header.fields → q / cluster_size c.file.header.fields < x + n → (flushed_metadata state c').file q ≡ m0.file q)
    bytes-kept sound can (Ok v) kept = λ q low high.
        let k : ℕ = q / cluster_size c.file.header.fields in
        let d : ℕ = k - x in
        let at : x + d ≡ k = omega (arith, low) in
        in-cluster c.file.header.fields m0.file (flushed_metadata state c').file q
        (kept k (subst (IsUsed m0) at (nameable-used m0 table (guest + d) (x + d) sound (can d (omega (arith, low, high))))))
    bytes-kept sound can (Err fault) kept = tt

    pub names-by : LinksRun state table guest x n c result c'
    names-by = record {
      progress = set-so.progress;
      rests = set-so.rests;
      header = set-so.header;
      no_shorter = set-so.no_shorter;
      held = set-so.held;
      l1 = set-so.l1;
      marked = set-so.marked;
      waits = set-so.waits;
      named = set-so.set;
      bytes = λ ready can. bytes-kept ready.sound can result (set-so.used ready can);
      used = set-so.used;
      cause = set-so.cause;
    }

  pub keeps-by : (new : MetadataCaches S) → KeepsCachedTables state between mid result c'.file new
      → UsesTable state table Does (cached_file c.caches c.file) done (cached_file mid between)
      → LeavesTable state table guest x n c result (clusters_state c'.file new c'.space)
  keeps-by new kept used =
      let stays : StaysCached state table able c result (clusters_state c'.file new c'.space) =
      set.keeps-by state table guest n c c' mid between done result able (naming_setting m0 guest x n) (λ can d less. (can d less).in_table) rest room any
      Does refused stood-so allocator held settles new kept used in
      record { clean = stays.clean; unpinned = stays.unpinned; alone = stays.alone; one_table_cached = stays.one_table_cached; none = stays.none; fit = stays.fit }
