-- Setting the entries of consecutive guest clusters to any meaning: the search of their table, the changed entries, and
-- the write.
use Rattle.std.proofs.Common.{◌≡◌, ◌≢◌, ℕ, ◌+◌, ◌-◌, ◌*◌, ◌/◌, ◌%◌, ◌<◌, ◌≤◌, refl, arith, ap, sym, subst, ◌∙◌, true, List, length, Result, Ok, Err, inl, inr}
use Rattle.std.specs.Prelude.{⊤, ◌⊎◌, ◌^◌, false, not, ◌++◌, IfErr, IsTrue, OnOk}
use Rattle.std.specs.List.{AllByRecursion}
use Rattle.imago_storage.specs.State.{StorageState}
use Rattle.imago_storage.specs.Calls.{IsFaultless, CountsNotFallen}
use Rattle.imago_storage.specs.declared.fault.Fault.{Fault}
use Rattle.imago_storage.specs.declared.fault.Fault.TheVariants.{Memory}
use Rattle.imago_storage.proofs.Composing.{keeps_on, later_both}
use Rattle.qcow2_types.specs.Bytes.{Bytes, bytes_of}
use Rattle.qcow2_types.specs.Entries.{entry, l2_mapping, l2_table}
use Rattle.qcow2_types.specs.Header.{Fields, Header, cluster_size, layout_of, entries_of_cluster}
use Rattle.qcow2_types.specs.Pending.{FreeEntry}
use Rattle.qcow2_types.specs.Words.{Layout, is_damaged, max_offset}
use Rattle.qcow2_types.proofs.Counting.Sound.{sound-words}
use Rattle.qcow2_types.proofs.Changes.WriteBack.{place-near, table-place}
use Rattle.qcow2_metadata.proofs.TableFacts.{words_at, words_long}
use Rattle.std.proofs.Math.Nat.{mul-pos}
use Rattle.std.proofs.lemmas.Nat.{pow_pos}
use Rattle.qcow2_alloc.specs.declared.cache.CacheDependency.{CacheDependency}
use Rattle.qcow2_alloc.specs.CachedKinds.{IsTableFine}
use Rattle.qcow2_types.specs.Frames.{Same}
use Rattle.qcow2_types.specs.References.{meets, structure}
use Rattle.qcow2_metadata.specs.Places.{IsAddressable}
use Rattle.qcow2_metadata.specs.Tables.{TableValue, l2_table_kind, table_in, raw_entry_valid}
use Rattle.qcow2_alloc.specs.declared.cache.MetadataCaches.{MetadataCaches}
use Rattle.qcow2_alloc.specs.declared.file.ImageFile.{ImageFile}
use Rattle.qcow2_alloc.specs.Allocators.{TableUsed, UsesTable, metadata_of, table_of, first_free_of}
use Rattle.qcow2_alloc.specs.Caches.{HasRoomOf, cached_in, order_of, cached_file}
use Rattle.qcow2_alloc.specs.Causes.{HasCause}
use Rattle.qcow2_alloc.specs.Finding.{TableFound}
use Rattle.qcow2_alloc.specs.Going.{AreBlocksAddressable, AreTablesAddressable, IsNotResourceError, HadNoResourceError, writing_causes}
use Rattle.qcow2_alloc.specs.Memory.{Cached}
use Rattle.qcow2_alloc.specs.Opening.{IsL1Of}
use Rattle.qcow2_alloc.specs.GuestView.{GuestUnchanged, IsSound, IsUsed, Metadata, PreservesGuest, in_memory, counted}
use Rattle.qcow2_alloc.specs.Freeing.{NoneFreeBefore}
use Rattle.qcow2_alloc.specs.WellFormedness.{AreTablesClean, IsCachedTable}
use Rattle.qcow2_alloc.proofs.Flushing.FlushRefusals.{never-refused, writing-implies}
use Rattle.qcow2_alloc.proofs.Causes.{cause-weaker}
use Rattle.qcow2_alloc.proofs.Memory.SafeLaws.{clean-memory}
use Rattle.qcow2_alloc.proofs.GuestView.QuietFlushes.{going-quietly}
use Rattle.qcow2_alloc.proofs.GuestView.ShownDisks.{in-cluster}
use Rattle.qcow2_alloc.proofs.GuestView.QuietSequences.{quietly-then}
use Rattle.qcow2_alloc.proofs.Searching.FreeClusters.{clean-counts}
use Rattle.qcow2_steps.proofs.QuietValues.{data-used, quiet-entries}
use Rattle.qcow2_clusters.specs.Linking.{IsUnder, Listed, listing}
use Rattle.qcow2_clusters.specs.Setting.{Setting, SetsRun, StaysCached, cached_alone}
use Rattle.qcow2_clusters.specs.Progress.{Kind, Progresses, both, handing}
use Rattle.qcow2_clusters.specs.Flushed.{AreEmpty, Clusters, HasEntries, IsReady, clusters_state, nothing_cached, flushed_metadata, storage}
use Rattle.qcow2_clusters.specs.WritingBack.{KeepsCachedTables, WritesBack}
use Rattle.qcow2_clusters.specs.Room.{first_free_in}
use Rattle.qcow2_clusters.proofs.ProgressSums.{AdvancesBy, progresses-halted, progresses-in-memory, progresses-then, progresses-weaker, quiet-progresses, wider-both, wider-handing, wider-same}
use Rattle.qcow2_clusters.proofs.EndsAtRest.{settled-cause, settled-faultless}
use Rattle.qcow2_clusters.proofs.LoneTables.{found-alone, lone_table, never-full, only-read, refused-empty, used-alone, used-keys, used-one, used-read}
use Rattle.qcow2_clusters.proofs.StartsAtRest.{begun-quietly, l1-stays}
use Rattle.qcow2_clusters.proofs.RoomAfterAllocations.{marked-as}
use Rattle.qcow2_clusters.proofs.FewerWaiting.{fewer-sound}
use Rattle.qcow2_clusters.proofs.Settlement.{kept-count, kept-keys}

-- Progress needs a proof only for a consistent image in a storage that keeps what is written.
progresses-ready : (ok : Type 0) (kind : Kind) (s : StorageState) (m : Metadata) (s' : StorageState) (m' : Metadata) → s'.shape ≡ s.shape → CountsNotFallen s s'
    → (IsTrue s.shape.keeps → IsSound m → Progresses ok kind s m s' m') → Progresses ok kind s m s' m'
progresses-ready ok kind s m s' m' shape later progress = record {
  shape = shape;
  counts_not_fallen = later;
  passes = λ keeps sound. (progress keeps sound).passes keeps sound;
  holds = λ keeps sound. (progress keeps sound).holds keeps sound;
}

-- The call fails with empty caches, so no table stays cached.
pub leaves-none : {S : Type 0} (state : S → StorageState) (table : ℕ) (able : Type 0) (c : Clusters S) (fault : Fault) (result : Result Unit Fault)
    (c' : Clusters S) → OnOk result (result ≡ Err fault) → AreEmpty c'.caches → StaysCached state table able c result c'
leaves-none state table able c fault (Ok done) c' same empty = absurd (let bad : Ok done ≡ Err fault = same in cc)
leaves-none state table able c fault (Err e) c' same empty = record {
  clean = subst AreTablesClean (sym empty) tt;
  unpinned = subst (λ (k : Cached). AllByRecursion (λ e. e.1.pins ≡ 0) k.tables) (sym empty) tt;
  alone = subst (λ (k : Cached). AllByRecursion (λ e. e.0 ≡ table) k.tables) (sym empty) tt;
  one_table_cached = tt;
  none = ap (λ (k : Cached). k.tables) empty;
  fit = λ ready yes. tt;
}

-- The table of a guest cluster in a consistent image is addressable, and each of its entries is valid.
module _ (m : Metadata) (table guest : ℕ) (sound : IsSound m) (under : IsUnder m table guest) where
  abbrev h : Fields
  h = m.header.fields

  abbrev i : ℕ
  i = guest / entries_of_cluster h

  is-there : l2_table m.file h i ≢ 0
  is-there none =
      let long : 0 < cluster_size h = pow_pos h.cluster_bits in
      let apart = under.table_nonzero in
      let some = mul-pos {m = table} (omega (arith, apart)) long in
      let place = under.table_linked in
      omega (arith, some, place, none)

  table-near : IsAddressable h.cluster_bits table
  table-near = subst (λ k. k ≤ max_offset) under.table_linked
      (place-near h.cluster_bits (l2_table m.file h i) (table-place m.file h i (sound-words m.file h sound.well_formed.consistent.readable.tables) under.inside))

  word-fine : (k : ℕ) → k < entries_of_cluster h → is_damaged (l2_mapping m.file h (table * cluster_size h) k) ≡ false
  word-fine k lt =
      subst (λ p. is_damaged (l2_mapping m.file h p k) ≡ false) under.table_linked
      ((sound-words m.file h sound.well_formed.consistent.readable.tables).slots i k (record { in_l1 = under.inside; is_there = is-there; in_table = lt }))

  table-fine : (f : Bytes) → f ≡ m.file → IsTableFine f h table
  table-fine f same = record {
    reach = table-near;
    sound = λ unsound.
        let k = unsound.0 in
        let long = words_long f (table * cluster_size h) (entries_of_cluster h) in
        let lt : k < entries_of_cluster h = let inside = unsound.1 in omega (arith, long, inside) in
        let fine = ap not (ap (λ (b : Bytes). is_damaged (l2_mapping b h (table * cluster_size h) k)) same ∙ word-fine k lt) in
        let not-fine = subst (λ (w : ℕ). raw_entry_valid l2_table_kind (layout_of h) w ≡ false) (words_at f (table * cluster_size h) (entries_of_cluster h) k lt) unsound.2 in
        cc (sym fine ∙ not-fine);
  }

module _ {S : Type 0} (state : S → StorageState) (table guest n : ℕ) (c c' : Clusters S) (mid : MetadataCaches S) (between : ImageFile S)
    (done result : Result Unit Fault) (able : Type 0) (set-as : Setting)
    (under : able → (d : ℕ) → d < n → IsUnder (flushed_metadata state c) table (guest + d)) where
  abbrev Ready : Type 0
  Ready = IsReady state c × able

  abbrev s0 : StorageState
  s0 = storage state c

  abbrev s1 : StorageState
  s1 = state between.image

  abbrev s2 : StorageState
  s2 = storage state c'

  abbrev m0 : Metadata
  m0 = flushed_metadata state c

  abbrev m2 : Metadata
  m2 = flushed_metadata state c'

  -- The change of the table, as the only cached one, has this effect on the image.
  pub record Stood (order : CacheDependency) (t t' : TableValue) : Type 0 where
    pub step : AdvancesBy set-as.kind (cached_alone m0 order table (listing t c.space.to_free)) (cached_alone m0 order table (listing t' c'.space.to_free))
    pub waits : c'.space.to_free.entries ≡ c.space.to_free.entries ++ set-as.waiting
    pub named : (d : ℕ) → d < n → entry (in_memory (cached_alone m0 order table (listing t' c'.space.to_free))) c.file.header.fields (guest + d) ≡ set-as.means d
    pub layout : t'.layout ≡ layout_of c.file.header.fields

  -- The steps before the writes, and their effect on a consistent image.
  pub record Begun : Type 0 where
    pub shape : s1.shape ≡ s0.shape
    pub counts_not_fallen : CountsNotFallen s0 s1
    pub faults : HadNoResourceError done → IsFaultless s0 s1
    pub header : between.header ≡ c.file.header
    pub long : length s1.bytes ≡ length s0.bytes
    pub room : HasRoomOf c.caches mid
    pub held : c'.space.to_free.held ≡ c.space.to_free.held
    pub reach : HadNoResourceError done → Ready → AreTablesAddressable (cached_in mid) × AreBlocksAddressable (cached_in mid)
    pub why : IfErr done (HasCause (writing_causes Ready s0.faults s1.faults))
    pub waits : Ready → result ≡ Ok tt → c'.space.to_free.entries ≡ c.space.to_free.entries ++ set-as.waiting
    pub progress : Ready → Progresses (result ≡ Ok tt) (set-as.kind) s0 m0 s2 m2
    pub l1 : Ready → result ≡ Ok tt → (l1 : TableValue) → IsL1Of m0.file c.file.header.fields l1 → IsL1Of m2.file c'.file.header.fields l1
    pub marked : Ready → result ≡ Ok tt → NoneFreeBefore m0 (first_free_in c) → NoneFreeBefore m2 (first_free_in c')
    pub named : Ready → result ≡ Ok tt → (d : ℕ) → d < n → entry m2.file c.file.header.fields (guest + d) ≡ set-as.means d
    pub used : Ready → result ≡ Ok tt → (d : ℕ) → IsUsed m0 d → Same m0.file m2.file (d * cluster_size c.file.header.fields) (cluster_size c.file.header.fields)

  module _ (settles : WritesBack state done between mid result c'.file c'.caches) where
    behind : CountsNotFallen s1 s2
    behind = (settles.guest_unchanged (table_of c'.space.allocator) c'.space.to_free.entries).counts_not_fallen

    why-refused : Begun → IfErr result (HasCause (writing_causes Ready s0.faults s2.faults))
    why-refused begun = settled-cause state done between mid result c'.file c'.caches settles (λ count. HasCause (writing_causes Ready s0.faults count)) begun.why
        (λ whole fault why. cause-weaker (writing-implies _ begun.counts_not_fallen.faults (omega arith) (λ far ready. far (begun.reach whole ready))) fault why)

    succeeded : Begun → Ready → HadNoResourceError result → result ≡ Ok tt
    succeeded begun ready whole = by result (why-refused begun) whole where
      by : (r : Result Unit Fault) → IfErr r (HasCause (writing_causes Ready s0.faults s2.faults)) → HadNoResourceError r → r ≡ Ok tt
      by (Ok v) why whole = refl
      by (Err fault) why not_resource_error = absurd (never-refused Ready s0.faults s2.faults fault ready not_resource_error why)

    on-ok : (r : Result Unit Fault) (P : Type 0) → (r ≡ Ok tt → P) → OnOk r P
    on-ok (Ok v) P from = from refl
    on-ok (Err fault) P from = tt

    pub sets-begun : Begun → SetsRun state guest n able set-as c result c'
    sets-begun begun = record {
      progress = λ able.
          progresses-ready (result ≡ Ok tt) (set-as.kind) s0 m0 s2 m2 ((settles.guest_unchanged (table_of c'.space.allocator) c'.space.to_free.entries).shape ∙ begun.shape)
          (later_both s0 s1 s2 begun.counts_not_fallen behind) (λ keeps sound. begun.progress (record { keeps = keeps; sound = sound }, able));
      rests = record {
        shape = (settles.guest_unchanged (table_of c'.space.allocator) c'.space.to_free.entries).shape ∙ begun.shape;
        counts_not_fallen = later_both s0 s1 s2 begun.counts_not_fallen behind;
        empty = settles.empty;
        room = record { tables = settles.room.tables ∙ begun.room.tables; blocks = settles.room.blocks ∙ begun.room.blocks };
        header = (c.file.header.fields.refcount_table_offset, c.file.header.fields.refcount_table_clusters, settles.header ∙ begun.header);
        faults = settled-faultless state done between mid result c'.file c'.caches settles s0 begun.faults;
      };
      header = settles.header ∙ begun.header;
      no_shorter = let first = begun.long in let second = settles.no_shorter in omega (arith, first, second);
      held = begun.held;
      l1 = λ able ready whole. begun.l1 (ready, able) (succeeded begun (ready, able) whole);
      marked = λ able ready whole. begun.marked (ready, able) (succeeded begun (ready, able) whole);
      waits = λ ready able. on-ok result _ (begun.waits (ready, able));
      set = λ ready able. on-ok result _ (begun.named (ready, able));
      used = λ ready able. on-ok result _ (begun.used (ready, able));
      cause = why-refused begun;
    }

  module _ (rest : AreEmpty c.caches) (room : HasEntries c.caches) (any : 0 < n) where
    reach-of-none : AreTablesAddressable (cached_in c.caches) × AreBlocksAddressable (cached_in c.caches)
    reach-of-none = subst (λ (k : Cached). AreTablesAddressable k × AreBlocksAddressable k) (sym rest) (tt, tt)

    abbrev awake : Metadata
    awake = record m0 { cached = cached_in c.caches; order = order_of c.caches }

    abbrev found-as : MetadataCaches S → Metadata
    found-as caches = record m0 { file = bytes_of s1.bytes; cached = cached_in caches; order = order_of c.caches }

    -- The search only reads.
    read-long : (answer : Result Unit Fault) (caches : MetadataCaches S) → TableFound state table c.caches c.file answer caches between
        → length s1.bytes ≡ length s0.bytes
    read-long answer caches found = ap (λ (l : List ℕ). length l) (only-read state table c.caches c.file rest answer caches between found).bytes

    -- The search preserves the guest.
    searched : (answer : Result Unit Fault) (caches : MetadataCaches S) → TableFound state table c.caches c.file answer caches between
        → PreservesGuest (HadNoResourceError answer) (λ _. 0) (λ _. 0) s0 m0 s1 (found-as caches)
    searched answer caches found =
        quietly-then ⊤ (HadNoResourceError answer) (λ _. 0) (λ _. 0) (λ _. 0) (λ _. 0) s0 m0 s0 awake s1 (found-as caches) tt (λ sound d named. refl)
        (begun-quietly ⊤ s0 awake rest)
        (going-quietly awake (HadNoResourceError answer) s0 s1 (cached_in caches) refl found.writes_back_cached)

    -- The search fails.
    module _ (fault : Fault) (found : TableFound state table c.caches c.file (Err fault) mid between) (is : done ≡ Err fault)
        (held : c'.space.to_free.held ≡ c.space.to_free.held) (settles : WritesBack state done between mid result c'.file c'.caches) where
      refused-why : HasCause (writing_causes Ready s0.faults s1.faults) fault
      refused-why = cause-weaker (record {
        before = omega arith;
        after = omega arith;
        damaged = λ wrong ready. wrong (
          table-fine m0 table (guest + 0) ready.0.sound (under ready.1 0 any) (bytes_of s1.bytes)
              (ap bytes_of (only-read state table c.caches c.file rest (Err fault) mid between found).bytes),
          reach-of-none.0,
          reach-of-none.1,
        );
        counter = absurd;
        full = λ full. absurd (never-full state table c.caches c.file rest room full);
        limit = λ number. absurd;
      }) fault found.cause

      refused-cut : Ready → (result ≡ done) × (c'.file ≡ between)
      refused-cut ready = settles.cut (λ whole. never-refused Ready s0.faults s1.faults fault ready (subst HadNoResourceError is whole) refused-why)

      refused-never : Ready → result ≡ Ok tt → ⊥
      refused-never ready ok = let bad : Ok tt ≡ Err fault = sym ok ∙ (refused-cut ready).0 ∙ is in absurd cc

      refused-progress : Ready → Progresses (result ≡ Ok tt) (set-as.kind) s0 m0 s2 m2
      refused-progress ready =
          subst (λ (f : ImageFile S). Progresses (result ≡ Ok tt) (set-as.kind) s0 m0 (state f.image) m2) (sym (refused-cut ready).1)
          (progresses-halted (IsNotResourceError fault) (result ≡ Ok tt) (handing (λ _. 0) (λ _. 0)) (set-as.kind) s0 m0 s1 (found-as mid) m2
          (wider-handing (λ _. 0) (λ _. 0) (set-as.kind)) (λ keeps sound ok. refused-never ready ok)
          (quiet-progresses (IsNotResourceError fault) (λ _. 0) (λ _. 0) s0 m0 s1 (found-as mid) (λ sound d named. refl) (searched (Err fault) mid found)))

      refused-begun : Begun
      refused-begun = record {
        shape = found.writes_back_cached.shape;
        counts_not_fallen = found.writes_back_cached.counts_not_fallen;
        faults = λ whole. found.writes_back_cached.faults (subst HadNoResourceError is whole);
        header = found.others.1;
        long = read-long (Err fault) mid found;
        room = record { tables = found.room.0; blocks = found.room.1 };
        held = held;
        reach = λ whole ready. subst (λ (k : Cached). AreTablesAddressable k × AreBlocksAddressable k) (sym (refused-empty state table c.caches c.file rest fault mid between found)) (tt, tt);
        why = subst (λ r. IfErr r (HasCause (writing_causes Ready s0.faults s1.faults))) (sym is) refused-why;
        waits = λ ready ok. absurd (refused-never ready ok);
        progress = refused-progress;
        l1 = λ ready ok. absurd (refused-never ready ok);
        marked = λ ready ok. absurd (refused-never ready ok);
        named = λ ready ok. absurd (refused-never ready ok);
        used = λ ready ok. absurd (refused-never ready ok);
      }

    -- The change of the table that is found, and its effect on the image.
    module _ (Does : TableValue → Result Unit Fault → TableValue → Type 0)
        (does-err : (t : TableValue) (fault : Fault) (t' : TableValue) → Does t (Err fault) t'
        → (fault ≡ Memory) ⊎ (t.layout ≡ layout_of c.file.header.fields → ⊥))
        (stood-by : (t t' : TableValue) → IsSound m0 → able
        → t ≡ table_in m0.file c.file.header.fields table (entries_of_cluster c.file.header.fields)
        → Does t (Ok tt) t'
        → let first = cached_alone m0 (order_of c.caches) table (listing t c.space.to_free) in
        IsSound first → GuestUnchanged (λ _. 0) (λ _. 0) m0 first
        → Stood (order_of c.caches) t t') where
      -- The table is found.
      module _ (answer : Result Unit Fault) (u : TableUsed state table Does (cached_file c.caches c.file) answer (cached_file mid between)) where
        abbrev read : TableValue
        read = table_in (bytes_of s1.bytes) c.file.header.fields table (entries_of_cluster c.file.header.fields)

        bytes-same : bytes_of s1.bytes ≡ bytes_of s0.bytes
        bytes-same = ap bytes_of (only-read state table c.caches c.file rest (Ok tt) u.mid between u.found).bytes

        is-read : u.value ≡ read
        is-read = used-read state table c.caches c.file rest u.mid between u.found u.value u.value_cached

        is-file's : u.value ≡ table_in m0.file c.file.header.fields table (entries_of_cluster c.file.header.fields)
        is-file's = is-read ∙ ap (λ (b : Bytes). table_in b c.file.header.fields table (entries_of_cluster c.file.header.fields)) bytes-same

        left-alone : cached_in mid ≡ lone_table table u.value'
        left-alone = used-alone state table c.caches c.file rest u.mid between u.value' mid u.found u.left

        room-same : HasRoomOf c.caches mid
        room-same = record {
          tables = ap (λ (k : MetadataCaches S). k.l2.slots.cap) u.left ∙ u.found.room.0;
          blocks = ap (λ (k : MetadataCaches S). k.rb.slots.cap) u.left ∙ u.found.room.1;
        }

        -- Memory ran out for the free list.
        module _ (held : c'.space.to_free.held ≡ c.space.to_free.held) (is : done ≡ Err Memory)
            (settles : WritesBack state done between mid result c'.file c'.caches) where
          unput-cut : (result ≡ done) × (c'.file ≡ between)
          unput-cut = settles.cut (λ whole. subst HadNoResourceError is whole)

          unput-never : result ≡ Ok tt → ⊥
          unput-never ok = let bad : Ok tt ≡ Err Memory = sym ok ∙ unput-cut.0 ∙ is in absurd cc

          unput-progress : Progresses (result ≡ Ok tt) (set-as.kind) s0 m0 s2 m2
          unput-progress =
              subst (λ (f : ImageFile S). Progresses (result ≡ Ok tt) (set-as.kind) s0 m0 (state f.image) m2) (sym unput-cut.1)
              (progresses-halted ⊤ (result ≡ Ok tt) (handing (λ _. 0) (λ _. 0)) (set-as.kind) s0 m0 s1 (found-as u.mid) m2
              (wider-handing (λ _. 0) (λ _. 0) (set-as.kind)) (λ keeps sound ok. unput-never ok)
              (quiet-progresses ⊤ (λ _. 0) (λ _. 0) s0 m0 s1 (found-as u.mid) (λ sound d named. refl) (searched (Ok tt) u.mid u.found)))

          unput-begun : Begun
          unput-begun = record {
            shape = u.found.writes_back_cached.shape;
            counts_not_fallen = u.found.writes_back_cached.counts_not_fallen;
            faults = λ whole. u.found.writes_back_cached.faults tt;
            header = u.found.others.1;
            long = read-long (Ok tt) u.mid u.found;
            room = room-same;
            held = held;
            reach = λ whole. absurd (subst HadNoResourceError is whole);
            why = subst (λ r. IfErr r (HasCause (writing_causes Ready s0.faults s1.faults))) (sym is) tt;
            waits = λ ready ok. absurd (unput-never ok);
            progress = λ ready. unput-progress;
            l1 = λ ready ok. absurd (unput-never ok);
            marked = λ ready ok. absurd (unput-never ok);
            named = λ ready ok. absurd (unput-never ok);
            used = λ ready ok. absurd (unput-never ok);
          }

        -- The entries are set.
        module _ (held : c'.space.to_free.held ≡ c.space.to_free.held) (does : Does u.value (Ok tt) u.value')
            (allocator : c'.space.allocator ≡ c.space.allocator) (is : done ≡ Ok tt)
            (settles : WritesBack state done between mid result c'.file c'.caches) where
          module _ (ready : Ready) where
            abbrev m1 : Metadata
            m1 = metadata_of state between mid (table_of c'.space.allocator) c'.space.to_free.entries

            -- The image with only this table cached, and with this free list.
            abbrev cached-as : Listed → Metadata
            cached-as = cached_alone m0 (order_of c.caches) table

            abbrev at-first : Metadata
            at-first = cached-as (listing u.value c.space.to_free)

            abbrev at-last : Metadata
            at-last = cached-as (listing u.value' c'.space.to_free)

            first-same : found-as u.mid ≡ at-first
            first-same =
                let alone : cached_in u.mid ≡ lone_table table u.value =
                found-alone state table c.caches c.file rest u.mid between u.found ∙ ap (lone_table table) (sym is-read) in
                λ k. record m0 { file = bytes-same k; cached = alone k; order = order_of c.caches }

            last-same : at-last ≡ m1
            last-same =
                let header : c.file.header ≡ between.header = sym u.found.others.1 in
                let order : order_of c.caches ≡ order_of mid = sym (ap order_of u.left ∙ u.found.others.0) in
                let refcounts : table_of c.space.allocator ≡ table_of c'.space.allocator = ap table_of (sym allocator) in
                λ k. record {
                  file = sym bytes-same k;
                  header = header k;
                  cached = sym left-alone k;
                  order = order k;
                  table = refcounts k;
                  pending = c'.space.to_free.entries;
                }

            first : IsSound at-first × GuestUnchanged (λ _. 0) (λ _. 0) m0 at-first
            first = subst (λ (z : Metadata). IsSound z × GuestUnchanged (λ _. 0) (λ _. 0) m0 z) first-same
                ((searched (Ok tt) u.mid u.found).holds ready.0.keeps ready.0.sound tt)

            stood : Stood (order_of c.caches) u.value u.value'
            stood = stood-by u.value u.value' ready.0.sound ready.1 is-file's does first.0 first.1

            set-sound : IsSound m1
            set-sound = subst IsSound last-same stood.step.sound

            settled : PreservesGuest (HadNoResourceError result) (λ _. 0) (λ _. 0) s1 m1 s2 m2
            settled = settles.guest_unchanged (table_of c'.space.allocator) c'.space.to_free.entries

            last : result ≡ Ok tt → IsSound m2 × GuestUnchanged (λ _. 0) (λ _. 0) m1 m2
            last ok = settled.holds (keeps_on s0 s1 u.found.writes_back_cached.shape ready.0.keeps) set-sound (subst HadNoResourceError (sym ok) tt)

            -- The search, the changed entries and the write, one after another.
            set-progress : Progresses (result ≡ Ok tt) (set-as.kind) s0 m0 s2 m2
            set-progress =
                let none : Kind = handing (λ _. 0) (λ _. 0) in
                let wide : Kind = set-as.kind in
                let one = subst (λ (z : Metadata). Progresses ⊤ none s0 m0 s1 z) first-same
                (quiet-progresses ⊤ (λ _. 0) (λ _. 0) s0 m0 s1 (found-as u.mid) (λ sound d named. refl) (searched (Ok tt) u.mid u.found)) in
                let two = subst (Progresses ⊤ wide s1 at-first s1) last-same (progresses-in-memory ⊤ wide s1 at-first at-last (λ sound yes. stood.step)) in
                let three = quiet-progresses (HadNoResourceError result) (λ _. 0) (λ _. 0) s1 m1 s2 m2 (λ sound d named. refl) settled in
                let behind = progresses-then (HadNoResourceError result) ⊤ wide none s1 at-first s1 m1 s2 m2 tt two three in
                let all = progresses-then (HadNoResourceError result) ⊤ none (both wide none) s0 m0 s1 at-first s2 m2 tt one behind in
                progresses-weaker (HadNoResourceError result) (result ≡ Ok tt) (both none (both wide none)) wide s0 m0 s2 m2
                (wider-both none (both wide none) wide (wider-handing (λ _. 0) (λ _. 0) wide)
                (wider-both wide none wide (wider-same wide) (wider-handing (λ _. 0) (λ _. 0) wide)))
                (λ ok. subst HadNoResourceError (sym ok) tt) (λ d. omega arith) (λ d. omega arith) all

            set-l1 : result ≡ Ok tt → (l1 : TableValue) → IsL1Of m0.file c.file.header.fields l1 → IsL1Of m2.file c'.file.header.fields l1
            set-l1 ok l1 of =
                let both = last ok in
                l1-stays m1.file m2.file m1.header m2.header l1 both.1.shows.moved both.1.shows.l1
                (subst (λ (m : Metadata). IsL1Of m.file m.header.fields l1) last-same of)

            -- The refcounts are the same as before: no block is cached.
            counts-before : (d : ℕ) → counted m1 d ≡ counted m0 d
            counts-before d = subst (λ (m : Metadata). counted m d ≡ counted m0 d) last-same
                (clean-counts at-last stood.step.sound tt d ∙ sym (clean-counts m0 ready.0.sound tt d))

            set-counts : result ≡ Ok tt → (d : ℕ) → counted m2 d ≡ counted m0 d
            set-counts ok d =
                settles.counts (table_of c'.space.allocator) c'.space.to_free.entries (keeps_on s0 s1 u.found.writes_back_cached.shape ready.0.keeps) set-sound
                (subst HadNoResourceError (sym ok) tt) d
                ∙ counts-before d

            -- The image with the free list of the start. Its write keeps the bytes of clusters in use, so the write of the longer
            -- list does, too.
            abbrev spared : Metadata
            spared = metadata_of state between mid (table_of c'.space.allocator) c.space.to_free.entries

            spared-used : (d : ℕ) → IsUsed m0 d → IsUsed spared d
            spared-used d used = record {
              apart = subst (λ (H : Header). structure (bytes_of s1.bytes) H.fields (meets H.fields d) ≡ 0) (sym u.found.others.1)
                  (subst (λ (b : Bytes). structure b c.file.header.fields (meets c.file.header.fields d) ≡ 0) (sym bytes-same) used.apart);
              taken = let same : counted spared d ≡ counted m0 d = counts-before d in let more = used.taken in omega (arith, same, more);
            }

            set-used : result ≡ Ok tt → (d : ℕ) → IsUsed m0 d → Same m0.file m2.file (d * cluster_size c.file.header.fields) (cluster_size c.file.header.fields)
            set-used ok d used =
                let sound : IsSound spared = fewer-sound m1 c.space.to_free.entries set-as.waiting stood.waits set-sound in
                let guest_unchanged = ((settles.guest_unchanged (table_of c'.space.allocator) c.space.to_free.entries).holds
                (keeps_on s0 s1 u.found.writes_back_cached.shape ready.0.keeps) sound (subst HadNoResourceError (sym ok) tt)).1 in
                subst (λ (b : Bytes). Same b m2.file (d * cluster_size c.file.header.fields) (cluster_size c.file.header.fields)) bytes-same
                (subst (λ (H : Header). Same (bytes_of s1.bytes) m2.file (d * cluster_size H.fields) (cluster_size H.fields)) u.found.others.1
                (guest_unchanged.used_bytes_unchanged d (spared-used d used) refl))

            set-marked : result ≡ Ok tt → NoneFreeBefore m0 (first_free_in c) → NoneFreeBefore m2 (first_free_in c')
            set-marked ok marked = subst (NoneFreeBefore m2) (sym (ap first_free_of allocator)) (marked-as m0 m2 (first_free_in c) (set-counts ok) marked)

            set-named : result ≡ Ok tt → (d : ℕ) → d < n → entry m2.file c.file.header.fields (guest + d) ≡ set-as.means d
            set-named ok d less =
                let both = last ok in
                let same : entry (in_memory m2) m2.header.fields (guest + d) ≡ entry (in_memory m1) m1.header.fields (guest + d) =
                quiet-entries m1 m2 (λ _. 0) (λ _. 0) set-sound both.0 both.1 (guest + d) in
                let clean : in_memory m2 ≡ m2.file = clean-memory m2.file m2.header.fields nothing_cached tt tt in
                ap (λ (b : Bytes). entry b c.file.header.fields (guest + d)) (sym clean)
                ∙ ap (λ (H : Header). entry (in_memory m2) H.fields (guest + d)) (sym (settles.header ∙ u.found.others.1))
                ∙ same
                ∙ ap (λ (m : Metadata). entry (in_memory m) m.header.fields (guest + d)) (sym last-same)
                ∙ stood.named d less

          set-reach : Ready → AreTablesAddressable (cached_in mid) × AreBlocksAddressable (cached_in mid)
          set-reach ready =
              let bits : u.value'.layout.cluster_bits ≡ c.file.header.fields.cluster_bits = ap (λ (l : Layout). l.cluster_bits) (stood ready).layout in
              subst (λ (k : Cached). AreTablesAddressable k × AreBlocksAddressable k) (sym left-alone)
              (((λ modified. subst (λ b. IsAddressable b table) (sym bits) (table-near m0 table (guest + 0) ready.0.sound (under ready.1 0 any))), tt), tt)

          set-begun : Begun
          set-begun = record {
            shape = u.found.writes_back_cached.shape;
            counts_not_fallen = u.found.writes_back_cached.counts_not_fallen;
            faults = λ whole. u.found.writes_back_cached.faults tt;
            header = u.found.others.1;
            long = read-long (Ok tt) u.mid u.found;
            room = room-same;
            held = held;
            reach = λ whole. set-reach;
            why = subst (λ r. IfErr r (HasCause (writing_causes Ready s0.faults s1.faults))) (sym is) tt;
            waits = λ ready ok. (stood ready).waits;
            progress = set-progress;
            l1 = set-l1;
            marked = set-marked;
            named = set-named;
            used = set-used;
          }

      -- Both steps together: the change of the table, and the write.
      module _ (allocator : c'.space.allocator ≡ c.space.allocator) (held : c'.space.to_free.held ≡ c.space.to_free.held)
          (settles : WritesBack state done between mid result c'.file c'.caches) where
        begun-by : (set : Result Unit Fault) → done ≡ set → UsesTable state table Does (cached_file c.caches c.file) set (cached_file mid between) → Begun
        begun-by set is (inl r) = refused-begun r.0 r.2 (is ∙ r.1) held settles
        begun-by (Ok v) is (inr u) = set-begun (Ok v) u held u.used allocator is settles
        begun-by (Err fault) is (inr u) = elim (does-err u.value fault u.value' u.used) [
          | inl memory ↦ unput-begun (Err fault) u held (is ∙ ap (λ e. Err e) memory) settles
          -- The table that is found belongs to this image.
          | inr damaged ↦ absurd (damaged (ap (λ (t : TableValue). t.layout)
              (used-read state table c.caches c.file rest u.mid between u.found u.value u.value_cached)))
        ]

        pub sets-by : UsesTable state table Does (cached_file c.caches c.file) done (cached_file mid between) → SetsRun state guest n able set-as c result c'
        sets-by used = sets-begun settles (begun-by done refl used)

        -- The image before the final write, which is consistent if that succeeds.
        abbrev to-write : Metadata
        to-write = metadata_of state between mid (table_of c'.space.allocator) c'.space.to_free.entries

        sound-so : (named : Result Unit Fault) → done ≡ named → UsesTable state table Does (cached_file c.caches c.file) named (cached_file mid between)
            → Ready → result ≡ Ok tt → IsTrue s1.shape.keeps × IsSound to-write
        sound-so named is (inl r) ready ok = absurd (refused-never r.0 r.2 (is ∙ r.1) held settles ready ok)
        sound-so (Ok v) is (inr u) ready ok = (
          keeps_on s0 s1 u.found.writes_back_cached.shape ready.0.keeps,
          set-sound (Ok v) u held u.used allocator is settles ready,
        )
        sound-so (Err fault) is (inr u) ready ok = elim (does-err u.value fault u.value' u.used) [
          | inl memory ↦ absurd (unput-never (Err fault) u held (is ∙ ap (λ e. Err e) memory) settles ok)
          | inr damaged ↦ absurd (damaged (ap (λ (t : TableValue). t.layout)
              (used-read state table c.caches c.file rest u.mid between u.found u.value u.value_cached)))
        ]

        -- So the table that stays cached is the file's.
        pub keeps-by : (new : MetadataCaches S) → KeepsCachedTables state between mid result c'.file new
            → UsesTable state table Does (cached_file c.caches c.file) done (cached_file mid between)
            → StaysCached state table able c result (clusters_state c'.file new c'.space)
        keeps-by new kept used = record {
          clean = kept.clean;
          unpinned = kept.unpinned;
          alone = kept-keys state between mid c'.file new table result kept (used-keys state table c.caches c.file rest Does done mid between used);
          one_table_cached = on-ok settles result _ (λ ok.
              let whole : Ok tt ≡ done = subst (λ r. OnOk r (r ≡ done)) ok settles.ok in
              let same = subst (λ r. OnOk r (length (cached_in new).tables ≡ length (cached_in mid).tables)) ok
              (kept-count state between mid c'.file new result kept) in
              same ∙ used-one state table c.caches c.file rest Does tt mid between
              (subst (λ r. UsesTable state table Does (cached_file c.caches c.file) r (cached_file mid between)) (sym whole) used));
          none = kept.none;
          fit = λ ready able. on-ok settles result _ (λ ok.
              let both = sound-so done refl used (ready, able) ok in
              subst (λ r. OnOk r (Fitting new)) ok (kept.fit (table_of c'.space.allocator) c'.space.to_free.entries both.0 both.1));
        } where
          Fitting : MetadataCaches S → Type 0
          Fitting caches = AllByRecursion (λ e. IsCachedTable m2.file c'.file.header.fields e.0 e.1.value) (cached_in caches).tables
