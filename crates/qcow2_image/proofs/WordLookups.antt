-- Lemmas on a lookup of L2 entries, after the search of their table in the cache.
use Rattle.std.proofs.Common.{◌≡◌, ℕ, ◌+◌, ◌*◌, ◌/◌, ◌%◌, ◌^◌, ◌<◌, ◌≤◌, refl, arith, ap, sym, subst, ◌∙◌, List, [], ◌∷◌, true, false, Some, None, Result, Ok, Err, inl, inr}
use Rattle.std.specs.Prelude.{⊤, nat_eq, slice_index}
use Rattle.std.specs.List.{AllByRecursion}
use Rattle.std.proofs.lemmas.Nat.{div-mul-add, div-add-mod', mod_below}
use Rattle.imago_storage.specs.State.{StorageState}
use Rattle.imago_storage.specs.Calls.{UnchangedButFaults}
use Rattle.imago_storage.specs.declared.fault.Fault.{Fault}
use Rattle.imago_storage.specs.declared.fault.Fault.TheVariants.{Memory, Storage}
use Rattle.imago_storage.specs.declared.storage.Storage.{Ghosts}
use Rattle.imago_access.specs.Files.{IsNotResourceError}
use Rattle.qcow2_types.specs.Bytes.{bytes_of}
use Rattle.qcow2_types.specs.Header.{Header, entries_of_cluster, cluster_size, layout_of}
use Rattle.qcow2_types.specs.Words.{Layout, damaged, unmapped}
use Rattle.qcow2_types.specs.Entries.{entry}
use Rattle.qcow2_metadata.specs.Tables.{TableValue, IsTable, HasUnsound, l2_table_kind, table_in, raw_entries_in, mapping_in}
use Rattle.qcow2_metadata.specs.Blocks.{Block}
use Rattle.qcow2_metadata.specs.Places.{IsAddressable}
use Rattle.qcow2_metadata.specs.declared.mapping.L2Mapping.{L2Mapping}
use Rattle.qcow2_metadata.specs.declared.mapping.L2Mapping.TheVariants.{Backing}
use Rattle.qcow2_alloc.specs.Cache.{hit}
use Rattle.qcow2_alloc.specs.Caches.{cached_in, cached_file}
use Rattle.qcow2_alloc.specs.CachedKinds.{IsTableFine}
use Rattle.qcow2_alloc.specs.CachesLending.{with_tables}
use Rattle.qcow2_alloc.specs.Finding.{TableFound, IsPinnedFull, Sought, search_causes}
use Rattle.qcow2_alloc.specs.Going as WritesBackCached
use Rattle.qcow2_alloc.specs.Going.{AreTablesAddressable, AreBlocksAddressable}
use Rattle.qcow2_alloc.specs.Allocators.{UsesTable, TableUsed}
use Rattle.qcow2_alloc.specs.Causes.{HasCause}
use Rattle.qcow2_alloc.specs.Memory.{Cached, written_table, written_block}
use Rattle.qcow2_alloc.specs.WellFormedness.{AreTablesClean, AreBlocksClean}
use Rattle.qcow2_alloc.specs.declared.async_lru_cache.Slot.{Slot}
use Rattle.qcow2_alloc.specs.declared.cache.MetadataCaches.{MetadataCaches}
use Rattle.qcow2_alloc.specs.declared.file.ImageFile.{ImageFile}
use Rattle.qcow2_alloc.proofs.Causes.{Implies, cause-weaker}
use Rattle.qcow2_alloc.proofs.Caching.Pins.{pins-hit, pins-written, full-pinned}
use Rattle.qcow2_image.specs.declared.tables.Tables.{Tables}
use Rattle.qcow2_image.specs.Caching.{IsUnpinned}
use Rattle.qcow2_image.specs.Seen.{IsOfFile, IsCacheCoherent, file_of}
use Rattle.qcow2_image.specs.Looking.{cluster_named, place_of_table, ReadsRun, LooksAt, looking_causes}
use Rattle.qcow2_image.proofs.Runs.{run-same}
use Rattle.qcow2_image.proofs.FileWords.{table-named, entry-of-file, entry-of-unsound, entry-of-none, named-in-reach}
use Rattle.qcow2_image.proofs.TableSearches.{all-hit, one-hit, of-search}

-- The cause of a failed lookup. The cache is never full of pinned tables.
looking-found : {fine full damage : Type 0} {a b : ℕ} → ((fine → ⊥) → damage) → (full → ⊥) → Implies (search_causes fine full a b) (looking_causes damage a b)
looking-found broken never = record { before = omega arith; after = omega arith; damaged = broken; counter = absurd; full = λ full. absurd (never full); limit = λ number. absurd }

-- The lookup has the resource errors of the search.
cut-off : (fault : Fault) → IsNotResourceError fault → WritesBackCached.IsNotResourceError fault
cut-off Memory not_resource_error = not_resource_error
cut-off Storage not_resource_error = not_resource_error
cut-off fault not_resource_error = tt

tables-in-reach : (cached : Cached) → AreTablesClean cached → AreTablesAddressable cached
tables-in-reach cached clean = from cached.tables clean where
  from : (es : List (ℕ × Slot TableValue)) → AllByRecursion (λ e. e.1.value.modified ≡ false) es → AllByRecursion (λ e. e.1.value.modified ≡ true → IsAddressable e.1.value.layout.cluster_bits e.0) es
  from [] all = tt
  from (e ∷ es) all = ((λ yes. absurd (cc (sym yes ∙ all.0))), from es all.1)

blocks-in-reach : (cached : Cached) → AreBlocksClean cached → AreBlocksAddressable cached
blocks-in-reach cached clean = from cached.blocks clean where
  from : (es : List (ℕ × Slot Block)) → AllByRecursion (λ e. e.1.value.modified ≡ false) es → AllByRecursion (λ e. e.1.value.modified ≡ true → IsAddressable e.1.value.cluster_bits e.0) es
  from [] all = tt
  from (e ∷ es) all = ((λ yes. absurd (cc (sym yes ∙ all.0))), from es all.1)

-- Guest clusters of one table.
module _ (guest most e k : ℕ) (whole : guest % e + most ≤ e) (lt : k < most) where
  pub one-row : (guest + k) / e ≡ guest / e
  one-row = ap (λ x. x / e) (omega (arith, div-add-mod' guest e)) ∙ div-mul-add (guest / e) e (guest % e + k) (omega (arith, whole, lt))

  pub in-row : (guest + k) % e < e
  in-row = mod_below (guest + k) e (omega (arith, whole, lt))

-- The table that the L1 entry references is searched. The storage only gets reads.
module _ {S : Type 0} (g : Ghosts S) (guest most table : ℕ) (old new : Tables S g) (l1 : new.l1 ≡ old.l1) (space : new.space ≡ old.space) (named : place_of_table old.l1.raw_entries old.file.header.fields.cluster_bits guest ≡ Some table) where
  abbrev H : Header
  H = old.file.header

  module _ (mid : MetadataCaches S) (answer : Result Unit Fault) (found : TableFound g.state table old.caches old.file answer mid new.file) where
    has_no_dirty_data : UnchangedButFaults (g.state old.file.image) (g.state new.file.image) × AreTablesClean (cached_in mid) × AreBlocksClean (cached_in mid)
    has_no_dirty_data = found.has_no_dirty_data old.clean.0 old.clean.1

    tables-found : IsCacheCoherent g old → AllByRecursion (IsOfFile (file_of g old) H.fields) (cached_in mid).tables
    tables-found seen = of-search (file_of g old) H.fields old.caches.l2.slots.cap table (cached_in old.caches).tables (cached_in mid).tables answer
        (table-named (file_of g old) H.fields old.l1 seen.l1 guest table named)
        (subst (λ (b : List ℕ). Sought written_table old.caches.l2.slots.cap table (table_in (bytes_of b) H.fields table (entries_of_cluster H.fields)) (cached_in old.caches).tables answer (cached_in mid).tables) has_no_dirty_data.0.bytes found.sought) seen.tables

    -- Every cached table was cached before or is the file's, so memory stays coherent.
    seen-then : AllByRecursion (IsOfFile (file_of g old) H.fields) (cached_in new.caches).tables → IsCacheCoherent g old → IsCacheCoherent g new
    seen-then tables seen =
        let bytes : file_of g new ≡ file_of g old = ap bytes_of has_no_dirty_data.0.bytes in
        let header : new.file.header ≡ old.file.header = found.others.1 in
        record {
          loads = rw (bytes, header) seen.loads;
          inside = rw header seen.inside;
          l1 = rw (bytes, header, l1) seen.l1;
          tables = rw (bytes, header) tables;
        }

  -- The table is found, and doesn't change.
  module _ {T : Type 0} (does : TableValue → Result T Fault → TableValue → Type 0) (result : Result T Fault) (u : TableUsed g.state table does (cached_file old.caches old.file) result (cached_file new.caches new.file)) (same : u.value' ≡ u.value) where
    left : new.caches ≡ with_tables u.mid (hit (nat_eq table) (cached_in u.mid).tables u.value)
    left = u.left ∙ ap (λ x. with_tables u.mid (hit (nat_eq table) (cached_in u.mid).tables x)) same

    seen-used : IsCacheCoherent g old → IsCacheCoherent g new
    seen-used seen = seen-then u.mid (Ok tt) u.found
        (rw left (all-hit (IsOfFile (file_of g old) H.fields) table (cached_in u.mid).tables u.value u.value_cached (tables-found u.mid (Ok tt) u.found seen)))
        seen

    of-file : IsCacheCoherent g old → (u.value.layout ≡ layout_of H.fields) × (u.value.raw_entries ≡ raw_entries_in (file_of g old) (table * cluster_size H.fields) (entries_of_cluster H.fields))
    of-file seen =
        let one = one-hit (IsOfFile (file_of g old) H.fields) table (cached_in u.mid).tables u.value u.value_cached (tables-found u.mid (Ok tt) u.found seen) in
        (ap (λ (t : TableValue). t.layout) (sym one.2) ∙ one.1.layout, ap (λ (t : TableValue). t.raw_entries) (sym one.2) ∙ one.1.raw_entries)

    -- Its entries are those of the guest clusters.
    words-used : IsTable l2_table_kind u.value → guest % entries_of_cluster H.fields + most ≤ entries_of_cluster H.fields → IsCacheCoherent g old → (k : ℕ) → k < most → mapping_in u.value ((guest + k) % entries_of_cluster H.fields) ≡ entry (file_of g old) H.fields (guest + k)
    words-used fits whole seen k lt =
        let is = of-file seen in
        let row = one-row guest most (entries_of_cluster H.fields) k whole lt in
        let there : place_of_table old.l1.raw_entries H.fields.cluster_bits (guest + k) ≡ Some table = ap (λ x. cluster_named H.fields.cluster_bits (slice_index old.l1.raw_entries x)) row ∙ named in
        entry-of-file (file_of g old) H.fields old.l1 u.value (guest + k) table seen.l1 there fits is.0 is.1 (in-row guest most (entries_of_cluster H.fields) k whole lt)

  looks-found : (run : L2Mapping × ℕ) → guest % entries_of_cluster H.fields + most ≤ entries_of_cluster H.fields → UsesTable g.state table (ReadsRun H.fields.cluster_bits guest most) (cached_file old.caches old.file) (Ok run) (cached_file new.caches new.file) → LooksAt g guest most old (Ok run) new
  looks-found run whole (inl refused) = absurd (cc refused.1)
  looks-found run whole (inr u) =
      let used = u.used.ok in record {
        unchanged_but_faults = (has_no_dirty_data u.mid (Ok tt) u.found).0;
        counts_not_fallen = u.found.writes_back_cached.counts_not_fallen;
        faults = λ ok. u.found.writes_back_cached.faults tt;
        header = u.found.others.1;
        l1 = l1;
        space = space;
        seen = seen-used (ReadsRun H.fields.cluster_bits guest most) (Ok run) u u.used.same;
        says = λ seen. run-same guest most _ _ run (words-used (ReadsRun H.fields.cluster_bits guest most) (Ok run) u u.used.same u.used.fits whole seen) used.0;
        named = (used.1, used.0.nonempty, used.0.length_bounded);
        failed = tt;
        cause = λ seen. tt;
      }

  -- A table that isn't fine is damaged in the file, since what is cached is clean and the L1 table is valid.
  not-fine : UnchangedButFaults (g.state old.file.image) (g.state new.file.image) → IsCacheCoherent g old → (IsTableFine (bytes_of (g.state new.file.image).bytes) H.fields table × AreTablesAddressable (cached_in old.caches) × AreBlocksAddressable (cached_in old.caches) → ⊥) → entry (file_of g old) H.fields guest ≡ damaged
  not-fine kept seen not =
      entry-of-unsound (file_of g old) H.fields old.l1 guest table seen.l1 named (λ sound. not (
        record {
          reach = named-in-reach (file_of g old) H.fields old.l1 seen.l1 guest table named;
          sound = subst (λ (b : List ℕ). HasUnsound l2_table_kind (layout_of H.fields) (raw_entries_in (bytes_of b) (table * cluster_size H.fields) (entries_of_cluster H.fields)) → ⊥) (sym kept.bytes) sound;
        },
        tables-in-reach (cached_in old.caches) old.clean.0,
        blocks-in-reach (cached_in old.caches) old.clean.1,
      ))

  never-full : IsPinnedFull old.caches.l2.slots.cap (cached_in old.caches).tables → ⊥
  never-full full = omega (arith, full-pinned (cached_in old.caches).tables full, old.unpinned.0, old.unpinned.2)

  looks-refused : (fault : Fault) → UsesTable g.state table (ReadsRun H.fields.cluster_bits guest most) (cached_file old.caches old.file) (Err fault) (cached_file new.caches new.file) → LooksAt g guest most old (Err fault) new
  looks-refused fault (inl r) =
      let found : TableFound g.state table old.caches old.file (Err fault) new.caches new.file = subst (λ x. TableFound g.state table old.caches old.file (Err x) new.caches new.file) (sym (cc r.1)) r.2 in
      let kept = (has_no_dirty_data new.caches (Err fault) found).0 in record {
        unchanged_but_faults = kept;
        counts_not_fallen = found.writes_back_cached.counts_not_fallen;
        faults = λ not_resource_error. found.writes_back_cached.faults (cut-off fault not_resource_error);
        header = found.others.1;
        l1 = l1;
        space = space;
        seen = λ seen. seen-then new.caches (Err fault) found (tables-found new.caches (Err fault) found seen) seen;
        says = λ seen. tt;
        named = tt;
        failed = cause-weaker (looking-found (λ x. tt) never-full) fault found.cause;
        cause = λ seen. cause-weaker (looking-found (not-fine kept seen) never-full) fault found.cause;
      }
  looks-refused fault (inr u) =
      let err = u.used.err in record {
        unchanged_but_faults = (has_no_dirty_data u.mid (Ok tt) u.found).0;
        counts_not_fallen = u.found.writes_back_cached.counts_not_fallen;
        faults = λ not_resource_error. u.found.writes_back_cached.faults tt;
        header = u.found.others.1;
        l1 = l1;
        space = space;
        seen = seen-used (ReadsRun H.fields.cluster_bits guest most) (Err fault) u u.used.same;
        says = λ seen. tt;
        named = tt;
        failed = subst (HasCause (looking_causes ⊤ (g.state old.file.image).faults (g.state new.file.image).faults)) (sym err.0) tt;
        cause = λ seen. absurd (err.1 (ap (λ (l : Layout). l.cluster_bits) (of-file (ReadsRun H.fields.cluster_bits guest most) (Err fault) u u.used.same seen).0));
      }

  pub looks-used : (result : Result (L2Mapping × ℕ) Fault) → guest % entries_of_cluster H.fields + most ≤ entries_of_cluster H.fields → UsesTable g.state table (ReadsRun H.fields.cluster_bits guest most) (cached_file old.caches old.file) result (cached_file new.caches new.file) → LooksAt g guest most old result new
  looks-used (Ok run) whole used = looks-found run whole used
  looks-used (Err fault) whole used = looks-refused fault used

-- After a lookup nothing that is cached is dirty.
pub clean-used : {S T : Type 0} (state : S → StorageState) (table : ℕ) (does : TableValue → Result T Fault → TableValue → Type 0) (old : MetadataCaches S) (before : ImageFile S) (result : Result T Fault) (new : MetadataCaches S) (after : ImageFile S)
    → ((t t' : TableValue) (r : Result T Fault) → does t r t' → t' ≡ t) → AreTablesClean (cached_in old) × AreBlocksClean (cached_in old) → UsesTable state table does (cached_file old before) result (cached_file new after) → AreTablesClean (cached_in new) × AreBlocksClean (cached_in new)
clean-used state table does old before result new after stays clean (inl r) = let has_no_dirty_data = r.2.has_no_dirty_data clean.0 clean.1 in (has_no_dirty_data.1, has_no_dirty_data.2)
clean-used state table does old before result new after stays clean (inr u) =
    let has_no_dirty_data = u.found.has_no_dirty_data clean.0 clean.1 in
    let left : new ≡ with_tables u.mid (hit (nat_eq table) (cached_in u.mid).tables u.value) = u.left ∙ ap (λ x. with_tables u.mid (hit (nat_eq table) (cached_in u.mid).tables x)) (stays u.value u.value' result u.used) in
    rw left (all-hit (λ e. e.1.value.modified ≡ false) table (cached_in u.mid).tables u.value u.value_cached has_no_dirty_data.1, has_no_dirty_data.2)

-- After a lookup nothing that is cached is pinned.
module _ {S : Type 0} (state : S → StorageState) (table : ℕ) (old : MetadataCaches S) (before : ImageFile S) where
  loose-found : (answer : Result Unit Fault) (new : MetadataCaches S) (after : ImageFile S) → TableFound state table old before answer new after → IsUnpinned old → IsUnpinned new
  loose-found answer new after found loose = (
    (let less = found.sought.pinned.among (λ _. true) in omega (arith, less, loose.0)),
    (let less = (pins-written written_block (λ e. e.0) (λ e. e.1.pins) (λ e. (refl, refl)) (cached_in old).blocks (cached_in new).blocks found.other_unchanged).among (λ _. true) in omega (arith, less, loose.1)),
    omega (arith, found.room.0, loose.2),
    omega (arith, found.room.1, loose.3),
  )

  pub loose-used : {T : Type 0} (does : TableValue → Result T Fault → TableValue → Type 0) (result : Result T Fault) (new : MetadataCaches S) (after : ImageFile S) → IsUnpinned old → UsesTable state table does (cached_file old before) result (cached_file new after) → IsUnpinned new
  loose-used does result new after loose (inl r) = loose-found (Err r.0) new after r.2 loose
  loose-used does result new after loose (inr u) =
      let mid = loose-found (Ok tt) u.mid after u.found loose in
      let less = (pins-hit table (cached_in u.mid).tables u.value').among (λ _. true) in
      rw u.left (omega (arith, less, mid.0), mid.1, mid.2, mid.3)

-- If the L1 entry references no table, all its guest clusters are unallocated.
pub looks-none : {S : Type 0} (g : Ghosts S) (guest most offset : ℕ) (old : Tables S g) → offset ≡ guest * 2 ^ old.file.header.fields.cluster_bits → 0 < most → guest % entries_of_cluster old.file.header.fields + most ≤ entries_of_cluster old.file.header.fields
    → place_of_table old.l1.raw_entries old.file.header.fields.cluster_bits guest ≡ None → LooksAt g guest most old (Ok (Backing offset, most)) old
looks-none g guest most offset old at some whole none =
    let h = old.file.header.fields in record {
      unchanged_but_faults = record { shape = refl; bytes = refl; refusals = refl; crash_image = refl; past_crash_images = refl };
      counts_not_fallen = record { faults = omega arith; refusals = omega arith };
      faults = λ ok. (refl, refl);
      header = refl;
      l1 = refl;
      space = refl;
      seen = λ seen. seen;
      says = λ seen.
          let each : (k : ℕ) → k < most → entry (file_of g old) h (guest + k) ≡ unmapped = λ k lt. entry-of-none (file_of g old) h old.l1 seen.l1 (guest + k) (ap (λ x. cluster_named h.cluster_bits (slice_index old.l1.raw_entries x)) (one-row guest most (entries_of_cluster h) k whole lt) ∙ none) in
          run-same guest most (λ _. unmapped) (entry (file_of g old) h) (Backing offset, most) (λ k lt. sym (each k lt)) (record { first = refl; nonempty = some; length_bounded = omega arith; each = λ k lt. tt; ends = λ lt. absurd (omega (arith, lt)) });
      named = (tt, some, omega arith);
      failed = tt;
      cause = λ seen. tt;
    }
