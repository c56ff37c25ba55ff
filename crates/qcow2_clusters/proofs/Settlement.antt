-- Dirty metadata is written, and the caches are emptied.
use Rattle.std.proofs.Common.{◌≡◌, ℕ, refl, arith, ap, sym, subst, ◌∙◌, false, List, [], ◌∷◌, Result, Ok, Err, inl, inr}
use Rattle.std.specs.Prelude.{⊤, IsTrue, MatchResult, OnOk, length, map}
use Rattle.std.specs.List.{AllByRecursion}
use Rattle.std.proofs.lemmas.List.{length-map}
use Rattle.imago_storage.specs.Calls.{IsFaultless, UnchangedButFaults}
use Rattle.imago_storage.specs.State.{StorageState}
use Rattle.imago_storage.specs.declared.fault.Fault.{Fault}
use Rattle.imago_storage.proofs.Composing.{later_same, no_stops}
use Rattle.qcow2_types.specs.Bytes.{Bytes, bytes_of, over}
use Rattle.qcow2_types.specs.Counts.{count}
use Rattle.qcow2_types.specs.Header.{Header}
use Rattle.qcow2_types.specs.Pending.{FreeEntry}
use Rattle.qcow2_metadata.specs.Tables.{TableValue}
use Rattle.qcow2_metadata.specs.Blocks.{Block}
use Rattle.qcow2_alloc.specs.declared.async_lru_cache.Slot.{Slot}
use Rattle.qcow2_alloc.specs.declared.cache.CacheDependency.TheVariants.{L2DependsOnRb, Unset}
use Rattle.qcow2_alloc.specs.declared.cache.MetadataCaches.{MetadataCaches}
use Rattle.qcow2_alloc.specs.declared.file.ImageFile.{ImageFile}
use Rattle.qcow2_alloc.specs.Allocators.{metadata_of}
use Rattle.qcow2_alloc.specs.Cache.{kept_pinned}
use Rattle.qcow2_alloc.specs.Caches.{HasRoomOf, cached_in}
use Rattle.qcow2_alloc.specs.CachesLending.{with_tables}
use Rattle.qcow2_alloc.specs.Causes.{HasCause, FailsFor}
use Rattle.qcow2_alloc.specs.Going.{Always, AreBlocksAddressable, AreTablesAddressable, WritesBackCached, InTurn, IsNotResourceError, IsNoShorter, HadNoResourceError, WritesBlocks, WritesTables, writing_causes}
use Rattle.qcow2_alloc.specs.declared.cache.CacheDependency.{CacheDependency}
use Rattle.qcow2_alloc.specs.Memory.{Cached, memory, written, written_block, written_table}
use Rattle.qcow2_alloc.specs.GuestView.{IsIn, GuestUnchanged, IsSound, Metadata, PreservesGuest, counted}
use Rattle.qcow2_alloc.specs.WellFormedness.{AreBlocksClean, AreTablesClean, IsCachedTable, IsCrashImage, IsSettled, WellFormed}
use Rattle.qcow2_alloc.proofs.Caching.EmptyCaches.{empty-safe}
use Rattle.qcow2_alloc.proofs.Caching.Admission.{blocks-none, is-order, tables-none}
use Rattle.qcow2_alloc.proofs.Flushing.WriteSequences.{kept-same}
use Rattle.qcow2_alloc.proofs.Memory.SafeLaws.{clean-memory, safe-reach}
use Rattle.qcow2_alloc.proofs.GuestView.QuietAnnouncements.{written-whole}
use Rattle.qcow2_alloc.proofs.GuestView.QuietFlushes.{going-quietly, quietly-weaker, stays-quiet}
use Rattle.qcow2_clusters.specs.Flushed.{AreEmpty, nothing_cached}
use Rattle.qcow2_clusters.specs.WritingBack.{AreUnpinned, KeepsCachedTables, WritesBack, all_flushed, without_tables}

-- None of these entries is pinned.
abbrev pub Unpinned : {V : Type 0} → List (ℕ × Slot V) → Type 0
Unpinned es = AllByRecursion (λ e. e.1.pins ≡ 0) es

-- So emptying the cache removes them all.
pub unpinned-dropped : {V : Type 0} (es : List (ℕ × Slot V)) → Unpinned es → kept_pinned es ≡ []
unpinned-dropped [] none = refl
unpinned-dropped (e ∷ es) none = rw none.0 (unpinned-dropped es none.1)

-- If each entry had one key before a change, each has it afterwards.
keys-same : (key : ℕ) (xs ys : List (ℕ × Slot TableValue)) → map written_table xs ≡ map written_table ys
    → AllByRecursion (λ e. e.0 ≡ key) ys → AllByRecursion (λ e. e.0 ≡ key) xs
keys-same key [] ys same alone = tt
keys-same key (x ∷ xs) [] same alone = absurd (cc)
keys-same key (x ∷ xs) (y ∷ ys) same alone =
    let head : written_table x ≡ written_table y = (let e = same in cc) in
    let tail : map written_table xs ≡ map written_table ys = (let e = same in cc) in
    (ap (λ (e : ℕ × Slot TableValue). e.0) head ∙ alone.0, keys-same key xs ys tail alone.1)

-- No entry is pinned after the write.
module _ {V Y : Type 0} (f : ℕ × Slot V → Y) (pins : Y → ℕ) (is : (e : ℕ × Slot V) → pins (f e) ≡ e.1.pins) where
  pub unpinned-same : (xs ys : List (ℕ × Slot V)) → map f xs ≡ map f ys → Unpinned ys → Unpinned xs
  unpinned-same [] ys same none = tt
  unpinned-same (x ∷ xs) [] same none = absurd (cc)
  unpinned-same (x ∷ xs) (y ∷ ys) same none =
      let head : f x ≡ f y = (let e = same in cc) in
      let tail : map f xs ≡ map f ys = (let e = same in cc) in
      (sym (is x) ∙ ap pins head ∙ is y ∙ none.0, unpinned-same xs ys tail none.1)

pub unpinned-tables : (xs ys : List (ℕ × Slot TableValue)) → map written_table xs ≡ map written_table ys → Unpinned ys → Unpinned xs
unpinned-tables xs ys = unpinned-same written_table (λ e. e.1.pins) (λ e. refl) xs ys

pub unpinned-blocks : (xs ys : List (ℕ × Slot Block)) → map written_block xs ≡ map written_block ys → Unpinned ys → Unpinned xs
unpinned-blocks xs ys = unpinned-same written_block (λ e. e.1.pins) (λ e. refl) xs ys

-- Nothing is cached after the caches are emptied.
pub dropped-empty : {S : Type 0} (old mid new : MetadataCaches S) → AreUnpinned old → (cached_in mid).tables ≡ kept_pinned (cached_in old).tables
    → (cached_in mid).blocks ≡ (cached_in old).blocks → (cached_in new).blocks ≡ kept_pinned (cached_in mid).blocks
    → (cached_in new).tables ≡ (cached_in mid).tables → AreEmpty new
dropped-empty old mid new loose tables stay blocks stay' =
    let none : (cached_in new).tables ≡ [] = stay' ∙ tables ∙ unpinned-dropped (cached_in old).tables loose.tables in
    let none' : (cached_in new).blocks ≡ [] = blocks ∙ ap (λ (es : List (ℕ × Slot Block)). kept_pinned es) stay ∙ unpinned-dropped (cached_in old).blocks loose.blocks in
    λ i. record { tables = none i; blocks = none' i }

-- After a complete flush the image on file is the one that was in memory.
rest-quiet : (m : Metadata) (old new : List ℕ) (cached' : Cached) → m.file ≡ bytes_of old → IsSound m → IsSettled m.header m.order old m.cached new cached'
    → AreTablesClean cached' → AreBlocksClean cached'
    → IsSound (all_flushed (record m { file = bytes_of new })) × GuestUnchanged (λ _. 0) (λ _. 0) m (all_flushed (record m { file = bytes_of new }))
unfolding over
rest-quiet m old new cached' at sound settled tables blocks =
    stays-quiet m (bytes_of new) nothing_cached Unset sound (empty-safe (bytes_of new) m.header settled.well_formed.consistent)
    (sym (clean-memory (bytes_of new) m.header.fields cached' tables blocks) ∙ settled.memory_same ∙ sym (ap (λ (f : Bytes). memory f m.header.fields m.cached) at))
    (subst (λ (f : Bytes). IsCrashImage f (memory f m.header.fields m.cached) m.header (bytes_of new)) (sym at) settled.left)

-- So a flush without a resource error, and emptying the caches, preserve the guest.
pub rests-quietly : (m : Metadata) (flushed : Result Unit Fault) (old new : StorageState) (cached' : Cached) → IsIn old m
    → WritesBackCached m.header m.order Always (flushed ≡ Ok tt) old m.cached new cached'
    → FailsFor (writing_causes (AreTablesAddressable m.cached × AreBlocksAddressable m.cached) old.faults new.faults) flushed
    → OnOk flushed (AreTablesClean cached') → OnOk flushed (AreBlocksClean cached')
    → PreservesGuest (HadNoResourceError flushed) (λ _. 0) (λ _. 0) old m new (all_flushed (record m { file = bytes_of new.bytes }))
rests-quietly m flushed old new cached' at going counts tables blocks = record {
  shape = going.shape;
  counts_not_fallen = going.counts_not_fallen;
  passes = (going-quietly m (flushed ≡ Ok tt) old new cached' at going).passes;
  holds = λ keeps sound whole.
      let reach = safe-reach m.file m.header m.cached m.order sound.well_formed in
      let done = written-whole (AreTablesAddressable m.cached × AreBlocksAddressable m.cached) old.faults new.faults flushed counts reach whole in
      let well_formed : WellFormed (bytes_of old.bytes) m.header m.cached m.order = subst (λ (f : Bytes). WellFormed f m.header m.cached m.order) at sound.well_formed in
      rest-quiet m old.bytes new.bytes cached' at sound (going.holds keeps well_formed tt (inl done))
      (subst (λ (r : Result Unit Fault). OnOk r (AreTablesClean cached')) done tables) (subst (λ (r : Result Unit Fault). OnOk r (AreBlocksClean cached')) done blocks);
}

-- The refcounts are the same.
counts-kept : (m : Metadata) (old new : List ℕ) (cached' : Cached) → m.file ≡ bytes_of old → IsSettled m.header m.order old m.cached new cached'
    → AreTablesClean cached' → AreBlocksClean cached' → (c : ℕ) → counted (all_flushed (record m { file = bytes_of new })) c ≡ counted m c
unfolding over
counts-kept m old new cached' at settled tables blocks c = ap (λ (g : Bytes). count g m.header.fields c)
    (sym (clean-memory (bytes_of new) m.header.fields cached' tables blocks) ∙ settled.memory_same ∙ sym (ap (λ (f : Bytes). memory f m.header.fields m.cached) at))

pub rests-counting : (m : Metadata) (flushed : Result Unit Fault) (old new : StorageState) (cached' : Cached) → IsIn old m
    → WritesBackCached m.header m.order Always (flushed ≡ Ok tt) old m.cached new cached'
    → FailsFor (writing_causes (AreTablesAddressable m.cached × AreBlocksAddressable m.cached) old.faults new.faults) flushed
    → OnOk flushed (AreTablesClean cached') → OnOk flushed (AreBlocksClean cached')
    → IsTrue old.shape.keeps → IsSound m → HadNoResourceError flushed → (c : ℕ)
    → counted (all_flushed (record m { file = bytes_of new.bytes })) c ≡ counted m c
rests-counting m flushed old new cached' at going counts tables blocks keeps sound whole =
    let reach = safe-reach m.file m.header m.cached m.order sound.well_formed in
    let done = written-whole (AreTablesAddressable m.cached × AreBlocksAddressable m.cached) old.faults new.faults flushed counts reach whole in
    let well_formed : WellFormed (bytes_of old.bytes) m.header m.cached m.order = subst (λ (f : Bytes). WellFormed f m.header m.cached m.order) at sound.well_formed in
    counts-kept m old.bytes new.bytes cached' at (going.holds keeps well_formed tt (inl done))
    (subst (λ (r : Result Unit Fault). OnOk r (AreTablesClean cached')) done tables) (subst (λ (r : Result Unit Fault). OnOk r (AreBlocksClean cached')) done blocks)

-- Nothing was done before the resource error, so no request is made.
pub cut-quietly : (ok : Type 0) (s : StorageState) (m m' : Metadata) → (ok → ⊥) → PreservesGuest ok (λ _. 0) (λ _. 0) s m s m'
cut-quietly ok s m m' never = record {
  shape = refl;
  counts_not_fallen = later_same s;
  passes = λ keeps sound no_change_refused. (λ same. same, no_stops _ s s refl refl);
  holds = λ keeps sound done. absurd (never done);
}

-- A flush without dirty data changes nothing.
pub flushed-still : (order : CacheDependency) (a b : StorageState) (c c' : Cached) (flushed : Result Unit Fault)
    → (order ≡ L2DependsOnRb → InTurn WritesBlocks WritesTables a c flushed b c')
    → ((order ≡ L2DependsOnRb → ⊥) → InTurn WritesTables WritesBlocks a c flushed b c') → AreTablesClean c → AreBlocksClean c → UnchangedButFaults a b
flushed-still order a b c c' flushed blocks_first tables_first tables blocks = elim (is-order order L2DependsOnRb) [
  | inl is ↦
      let t = blocks_first is in
      let first = blocks-none a t.mid c t.between t.answer t.first blocks in
      let second = tables-none t.mid b t.between c' flushed (t.second first.0) (subst AreTablesClean (sym first.2) tables) in
      subst (λ (s : StorageState). UnchangedButFaults a s) (sym (second.1 ∙ first.1)) (kept-same a)
  | inr apart ↦
      let t = tables_first apart in
      let first = tables-none a t.mid c t.between t.answer t.first tables in
      let second = blocks-none t.mid b t.between c' flushed (t.second first.0) (subst AreBlocksClean (sym first.2) blocks) in
      subst (λ (s : StorageState). UnchangedButFaults a s) (sym (second.1 ∙ first.1)) (kept-same a)
]

-- The results of a flush.
abbrev pub done_so : Result Unit Fault
done_so = Ok tt

abbrev pub refused_so : Fault → Result Unit Fault
refused_so fault = Err fault

ok-same : {T : Type 0} (r : Result T Fault) → OnOk r (r ≡ r)
ok-same (Ok v) = refl
ok-same (Err fault) = tt

module _ {S T : Type 0} (state : S → StorageState) (given : Result T Fault) (before : ImageFile S) (old new : MetadataCaches S)
    (empty : AreEmpty new) (room : HasRoomOf old new) where
  -- After a resource error the caches are emptied.
  pub settled-cut : (HadNoResourceError given → ⊥) → WritesBack state given before old given before new
  settled-cut cut = record {
    empty = empty;
    room = room;
    header = refl;
    no_shorter = omega arith;
    guest_unchanged = λ table pending.
        cut-quietly (HadNoResourceError given) (state before.image) (metadata_of state before old table pending) (all_flushed (metadata_of state before old table pending)) cut;
    counts = λ table pending keeps sound whole. absurd (cut whole);
    faults = λ whole. absurd (cut whole);
    has_no_dirty_data = λ tables blocks. kept-same (state before.image);
    cut = λ _. (refl, refl);
    ok = ok-same given;
    answer = inl refl;
  }

  -- Otherwise they are flushed first.
  module _ (whole : HadNoResourceError given) (after : ImageFile S) (cached' : Cached) (header : after.header ≡ before.header)
      (long : IsNoShorter (state before.image) (state after.image))
      (has_no_dirty_data : AreTablesClean (cached_in old) → AreBlocksClean (cached_in old) → UnchangedButFaults (state before.image) (state after.image)) where
    module _ (flushed : Result Unit Fault)
        (going : WritesBackCached before.header old.order Always (flushed ≡ Ok tt) (state before.image) (cached_in old) (state after.image) cached')
        (counts : FailsFor (writing_causes (AreTablesAddressable (cached_in old) × AreBlocksAddressable (cached_in old)) (state before.image).faults (state after.image).faults) flushed)
        (tables : OnOk flushed (AreTablesClean cached')) (blocks : OnOk flushed (AreBlocksClean cached')) where
      quietly-settled : (table : TableValue) (pending : List FreeEntry)
          → PreservesGuest (HadNoResourceError flushed) (λ _. 0) (λ _. 0) (state before.image) (metadata_of state before old table pending) (state after.image) (all_flushed (metadata_of state after old table pending))
      quietly-settled table pending =
          subst (λ (H : Header). PreservesGuest (HadNoResourceError flushed) (λ _. 0) (λ _. 0) (state before.image) (metadata_of state before old table pending) (state after.image)
          (all_flushed (record (metadata_of state after old table pending) { header = H }))) (sym header)
          (rests-quietly (metadata_of state before old table pending) flushed (state before.image) (state after.image) cached' refl going counts tables blocks)

      settled-counts : (table : TableValue) (pending : List FreeEntry) → IsTrue (state before.image).shape.keeps
          → IsSound (metadata_of state before old table pending) → HadNoResourceError flushed → (c : ℕ)
          → counted (all_flushed (metadata_of state after old table pending)) c ≡ counted (metadata_of state before old table pending) c
      settled-counts table pending keeps sound done c =
          subst (λ (H : Header). counted (all_flushed (record (metadata_of state after old table pending) { header = H })) c ≡ counted (metadata_of state before old table pending) c)
          (sym header)
          (rests-counting (metadata_of state before old table pending) flushed (state before.image) (state after.image) cached' refl going counts tables blocks keeps sound done c)

    -- If the flush succeeds, the result stays.
    pub settled-whole : WritesBackCached before.header old.order Always (done_so ≡ done_so) (state before.image) (cached_in old) (state after.image) cached'
        → (state after.image).faults ≡ (state before.image).faults → AreTablesClean cached' → AreBlocksClean cached' → IsFaultless (state before.image) (state after.image)
        → WritesBack state given before old given after new
    settled-whole going counts tables blocks faultless = record {
      empty = empty;
      room = room;
      header = header;
      no_shorter = long;
      guest_unchanged = λ table pending.
          quietly-weaker ⊤ (HadNoResourceError given) (λ _. 0) (λ _. 0) (state before.image) (metadata_of state before old table pending) (state after.image)
          (all_flushed (metadata_of state after old table pending)) (λ sound done. tt) (quietly-settled done_so going counts tables blocks table pending);
      counts = λ table pending keeps sound done. settled-counts done_so going counts tables blocks table pending keeps sound tt;
      faults = λ done. faultless;
      has_no_dirty_data = has_no_dirty_data;
      cut = λ cut. absurd (cut whole);
      ok = ok-same given;
      answer = inl refl;
    }

    -- If the flush fails, its fault is the result.
    pub settled-refused : (fault : Fault) → WritesBackCached before.header old.order Always (refused_so fault ≡ done_so) (state before.image) (cached_in old) (state after.image) cached'
        → HasCause (writing_causes (AreTablesAddressable (cached_in old) × AreBlocksAddressable (cached_in old)) (state before.image).faults (state after.image).faults) fault
        → (IsNotResourceError fault → IsFaultless (state before.image) (state after.image)) → WritesBack state given before old (Err fault) after new
    settled-refused fault going counts faultless = record {
      empty = empty;
      room = room;
      header = header;
      no_shorter = long;
      guest_unchanged = quietly-settled (refused_so fault) going counts tt tt;
      counts = settled-counts (refused_so fault) going counts tt tt;
      faults = faultless;
      has_no_dirty_data = has_no_dirty_data;
      cut = λ cut. absurd (cut whole);
      ok = tt;
      answer = inr (fault, refl, counts);
    }

    -- The result of the flush decides between both.
    pub settled-flushed : (flushed : Result Unit Fault) → WritesBackCached before.header old.order Always (flushed ≡ done_so) (state before.image) (cached_in old) (state after.image) cached'
        → FailsFor (writing_causes (AreTablesAddressable (cached_in old) × AreBlocksAddressable (cached_in old)) (state before.image).faults (state after.image).faults) flushed
        → OnOk flushed (AreTablesClean cached') → OnOk flushed (AreBlocksClean cached') → (HadNoResourceError flushed → IsFaultless (state before.image) (state after.image))
        → MatchResult flushed (λ _. WritesBack state given before old given after new) (λ fault. WritesBack state given before old (Err fault) after new)
    settled-flushed (Ok done) going counts tables blocks faultless = settled-whole going counts tables blocks (faultless tt)
    settled-flushed (Err fault) going counts tables blocks faultless = settled-refused fault going counts faultless

module _ {S : Type 0} where
  -- Nothing is pinned after the flush.
  pub loose-flushed : (old flushed : MetadataCaches S) → written (cached_in flushed) ≡ written (cached_in old) → AreUnpinned old → AreUnpinned flushed
  loose-flushed old flushed kept loose = record {
    tables = unpinned-tables (cached_in flushed).tables (cached_in old).tables (ap (λ (w : Cached). w.tables) kept) loose.tables;
    blocks = unpinned-blocks (cached_in flushed).blocks (cached_in old).blocks (ap (λ (w : Cached). w.blocks) kept) loose.blocks;
  }

  -- So emptying the cache of blocks removes them all.
  pub blocks-dropped : (flushed new : MetadataCaches S) → AreUnpinned flushed → (cached_in new).blocks ≡ kept_pinned (cached_in flushed).blocks
      → (cached_in new).blocks ≡ []
  blocks-dropped flushed new loose dropped = dropped ∙ unpinned-dropped (cached_in flushed).blocks loose.blocks

  -- Without its tables nothing is cached.
  pub without-tables-empty : (new : MetadataCaches S) → (cached_in new).blocks ≡ [] → AreEmpty (without_tables new)
  without-tables-empty new none = ap (λ (es : List (ℕ × Slot Block)). record { tables = []; blocks = es }) none

  -- If no table is cached, the caches are the same without tables.
  pub without-none : (caches : MetadataCaches S) → (cached_in caches).tables ≡ [] → caches ≡ without_tables caches
  without-none caches none = ap (with_tables caches) none

module _ {S : Type 0} (state : S → StorageState) (before : ImageFile S) (old : MetadataCaches S) (after : ImageFile S) (new : MetadataCaches S) where
  -- If nothing is cached, no table is kept.
  pub none-kept : (result : Result Unit Fault) → (result ≡ done_so → ⊥) → AreEmpty new → KeepsCachedTables state before old result after new
  none-kept (Ok done) refused empty = absurd (refused refl)
  none-kept (Err fault) refused empty = record {
    clean = subst AreTablesClean (sym empty) tt;
    unpinned = subst (λ (c : Cached). Unpinned c.tables) (sym empty) tt;
    none = ap (λ (c : Cached). c.tables) empty;
    same = tt;
    fit = λ table pending keeps sound. tt;
  }

  -- No other table is cached than before.
  pub kept-keys : (key : ℕ) (result : Result Unit Fault) → KeepsCachedTables state before old result after new
      → AllByRecursion (λ e. e.0 ≡ key) (cached_in old).tables → AllByRecursion (λ e. e.0 ≡ key) (cached_in new).tables
  kept-keys key (Ok done) kept alone = keys-same key (cached_in new).tables (cached_in old).tables kept.same alone
  kept-keys key (Err fault) kept alone = subst (AllByRecursion (λ e. e.0 ≡ key)) (sym kept.none) tt

  -- On success as many tables are cached.
  pub kept-count : (result : Result Unit Fault) → KeepsCachedTables state before old result after new
      → OnOk result (length (cached_in new).tables ≡ length (cached_in old).tables)
  kept-count (Ok done) kept = sym (length-map (cached_in new).tables written_table)
      ∙ ap (λ (es : List (ℕ × Slot TableValue)). length es) kept.same ∙ length-map (cached_in old).tables written_table
  kept-count (Err fault) kept = tt

  -- If the flush succeeds, the kept tables are those of the file.
  module _ (flushed : MetadataCaches S) (header : after.header ≡ before.header) (loose : AreUnpinned old)
      (written : map written_table (cached_in flushed).tables ≡ map written_table (cached_in old).tables)
      (stay : (cached_in new).tables ≡ (cached_in flushed).tables) (clean : AreTablesClean (cached_in flushed))
      (going : WritesBackCached before.header old.order Always (done_so ≡ done_so) (state before.image) (cached_in old) (state after.image) (cached_in flushed)) where
    abbrev Fit : Header → List (ℕ × Slot TableValue) → Type 0
    Fit H es = AllByRecursion (λ e. IsCachedTable (bytes_of (state after.image).bytes) H.fields e.0 e.1.value) es

    pub tables-kept : KeepsCachedTables state before old done_so after new
    tables-kept = record {
      clean = subst (AllByRecursion (λ e. e.1.value.modified ≡ false)) (sym stay) clean;
      unpinned = subst Unpinned (sym stay) (unpinned-tables (cached_in flushed).tables (cached_in old).tables written loose.tables);
      none = tt;
      same = ap (map written_table) stay ∙ written;
      fit = λ table pending keeps sound.
          subst (λ H. Fit H (cached_in new).tables) (sym header)
          (subst (Fit before.header) (sym stay) (going.holds keeps sound.well_formed tt (inl refl)).well_formed.tables);
    }
