-- The cache of L2 tables as a side, next to the cache of refcount blocks.
use Rattle.std.proofs.Common.{◌≡◌, ℕ, ◌*◌, ◌^◌, ◌≤◌, refl, arith, ap, sym, subst, ◌∙◌, List, inl, inr, length, Some, None, Result, Ok, Err}
use Rattle.std.proofs.lemmas.Bool.{cases_lt}
use Rattle.std.proofs.lemmas.Bool.Decides.{nat_tests}
use Rattle.std.proofs.lemmas.List.FromFn.{length-map-range_with_len}
use Rattle.std.proofs.lemmas.Nat.{le-div}
use Rattle.std.proofs.Math.Nat.{pow-le-pow_right}
use Rattle.std.specs.Prelude.{◌==◌, if◌then◌else◌, OnOk}
use Rattle.imago_storage.specs.State.{StorageState}
use Rattle.imago_storage.specs.Calls.{IsFaultless}
use Rattle.imago_storage.specs.declared.fault.Fault.{Fault}
use Rattle.imago_storage.specs.declared.fault.Fault.TheVariants.{Limit, DamagedTable, Memory, Storage}
use Rattle.qcow2_types.specs.Bytes.{bytes_of}
use Rattle.qcow2_types.specs.Words.{Layout, max_offset}
use Rattle.qcow2_types.specs.Header.{Fields, Shaped, cluster_size, entries_of_cluster, layout_of}
use Rattle.qcow2_metadata.specs.Tables.{TableValue, Kind, WhyNotLoaded, HasUnsound, l2_table_kind, raw_entries_in}
use Rattle.qcow2_alloc.specs.CachedKinds.{IsTableFine, by_tables, table_entries}
use Rattle.qcow2_alloc.specs.declared.cache.CacheDependency.TheVariants.{L2DependsOnRb}
use Rattle.qcow2_alloc.specs.declared.cache.MetadataCaches.{MetadataCaches}
use Rattle.qcow2_alloc.specs.declared.file.ImageFile.{ImageFile}
use Rattle.qcow2_alloc.specs.Backends.{TableLoaded, l2_words_in}
use Rattle.qcow2_alloc.specs.Caches.{HasRoomOf, cached_in, order_of}
use Rattle.qcow2_alloc.specs.Causes.{HasCause, FailsFor}
use Rattle.qcow2_alloc.specs.Finding.{search_causes}
use Rattle.qcow2_alloc.specs.Going.{WritesBackCached, Always, ReadyTables, IsNotResourceError, HadNoResourceError, AreBlocksAddressable, WritesBlocks, writing_causes}
use Rattle.qcow2_alloc.specs.Memory.{Cached, written}
use Rattle.qcow2_alloc.specs.WellFormedness.{IsCachedTable}
use Rattle.qcow2_alloc.proofs.Caching.SingleEntries.{table-kind-laws}
use Rattle.qcow2_alloc.proofs.Caching.Admission.{blocks-idle}
use Rattle.qcow2_alloc.proofs.Caching.Sides.{SideLaws, WrittenFirst}
use Rattle.qcow2_alloc.proofs.Caching.FitsAfterFlushes.{table-stays}
use Rattle.qcow2_alloc.proofs.Flushing.FlushRefusals.{table-counted}
use Rattle.qcow2_alloc.proofs.Flushing.TableFlushes.{table-flushed, flushed-clean}
use Rattle.qcow2_alloc.proofs.Flushing.EntriesAfterWrites.{table-kept}
use Rattle.qcow2_alloc.proofs.Memory.EntryKinds.{table_kind}
use Rattle.qcow2_alloc.proofs.Memory.SafeLaws.{safe-reach}

pub load-counted : (kind : Kind) (layout : Layout) (raw_entries : List ℕ) (old new : ℕ) (fault : Fault) → WhyNotLoaded kind layout raw_entries old new fault → IsNotResourceError fault → new ≡ old
load-counted kind layout raw_entries old new (Limit n) why not_resource_error = why.2
load-counted kind layout raw_entries old new DamagedTable why not_resource_error = why.1
load-counted kind layout raw_entries old new Memory why not_resource_error = absurd not_resource_error
load-counted kind layout raw_entries old new Storage why not_resource_error = absurd not_resource_error
load-counted kind layout raw_entries old new fault why not_resource_error = absurd why

table-load-counted : (h : Fields) (key : ℕ) (old : StorageState) (result : Result TableValue Fault) (new : StorageState) → TableLoaded h key old result new → HadNoResourceError result → new.faults ≡ old.faults
table-load-counted h key old (Ok table) new loaded whole = loaded.faults
table-load-counted h key old (Err fault) new loaded not_resource_error = elim (cases_lt max_offset (key * 2 ^ h.cluster_bits)) [
  | inl far ↦ ap (λ (s : StorageState). s.faults) (loaded.out (λ reach. omega (arith, far, reach))).1
  | inr reach ↦ load-counted l2_table_kind (layout_of h) (l2_words_in old h key) old.faults new.faults fault (loaded.err reach) not_resource_error
]

-- The fault counts and causes of a load.
table-loading : (h : Fields) (key : ℕ) (old : StorageState) (answer : Result TableValue Fault) (new : StorageState) → TableLoaded h key old answer new
    → (old.faults ≤ new.faults) × FailsFor (search_causes (IsTableFine (bytes_of new.bytes) h key) ⊥ old.faults new.faults) answer
table-loading h key old (Ok table) new loaded = (loaded.counts_not_fallen, loaded.faults)
table-loading h key old (Err fault) new loaded = (
  loaded.counts_not_fallen,
  elim (cases_lt max_offset (key * 2 ^ h.cluster_bits)) [
    | inl far ↦
        let out = loaded.out (λ reach. omega (arith, far, reach)) in
        let is : fault ≡ DamagedTable = (let e = out.0 in cc) in
        subst (λ (q : Fault). HasCause (search_causes (IsTableFine (bytes_of new.bytes) h key) ⊥ old.faults new.faults) q) (sym is) (λ fine. let reach = fine.reach in omega (arith, far, reach))
    | inr reach ↦ by-fault fault (loaded.err reach)
  ],
)
  where
    by-fault : (fault : Fault) → WhyNotLoaded l2_table_kind (layout_of h) (raw_entries_in (bytes_of old.bytes) (key * cluster_size h) (entries_of_cluster h)) old.faults new.faults fault
        → HasCause (search_causes (IsTableFine (bytes_of new.bytes) h key) ⊥ old.faults new.faults) fault
    by-fault Memory why = tt
    by-fault Storage why = why
    by-fault DamagedTable why = λ fine. fine.sound (subst (λ (l : List ℕ). HasUnsound l2_table_kind (layout_of h) (raw_entries_in (bytes_of l) (key * cluster_size h) (entries_of_cluster h))) (sym loaded.unchanged_but_faults.bytes) why.0)
    by-fault (Limit n) why =
        let long : length (raw_entries_in (bytes_of old.bytes) (key * cluster_size h) (entries_of_cluster h)) ≡ entries_of_cluster h = length-map-range_with_len _ 0 (entries_of_cluster h) in
        let small : 2 ^ h.cluster_bits ≤ 2 ^ 21 = pow-le-pow_right (omega arith) loaded.narrow in
        let is = why.0 in
        let more = why.1 in
        omega (arith, long, small, is, more)
    by-fault other why = absurd why

loaded-fits : (h : Fields) (key : ℕ) (old : StorageState) (value : TableValue) (new : StorageState) → TableLoaded h key old (Ok value) new → Shaped h → IsCachedTable (bytes_of old.bytes) h key value
loaded-fits h key old value new loaded shaped = record {
  fits = loaded.ok.2;
  placed = ap (λ (t : TableValue). t.cluster) loaded.ok.1 ∙ some-words;
  layout = ap (λ (t : TableValue). t.layout) loaded.ok.1;
  modified = λ m. absurd (let off = ap (λ (t : TableValue). t.modified) loaded.ok.1 in let both = sym off ∙ m in cc);
  clean = λ m live. ap (λ (t : TableValue). t.raw_entries) loaded.ok.1;
}
  where
    some-words : (if entries_of_cluster h == 0 then None else Some key) ≡ Some key
    some-words =
        let large : 2 ^ 9 ≤ 2 ^ h.cluster_bits = pow-le-pow_right (omega arith) shaped.low in
        let some : 1 ≤ entries_of_cluster h = le-div 1 (2 ^ h.cluster_bits) 8 (omega arith) (omega (arith, large)) in
        grind (arith, nat_tests)

module _ {S : Type 0} (state : S → StorageState) where
  pub table-laws : SideLaws (table_entries state)
  table-laws = record {
    parts = record { bytes = table_kind.bytes; OtherFits = table_kind.OtherFits; ahead = table_kind.ahead; behind = table_kind.behind };
    entries = table-kind-laws;
    kept = λ h key a answer b load. load.unchanged_but_faults;
    reads = λ h key a value b load. load.ok.1;
    clean = λ f h key. refl;
    fits = loaded-fits;
    counts = table-loading;
    has_no_dirty_data = table-load-counted;
    keeps = table-kept;
    counted = table-counted;
    cleaned = flushed-clean;
    flushed = λ H order blocks front key slot back a b answer value flush. table-flushed H order front key slot back blocks a b answer value flush;
    stays = λ f H order blocks es well_formed x left key value free. table-stays f H order (record { tables = es; blocks = blocks }) well_formed x left key value free;
    rest_is = λ blocks es. refl;
    near = λ f H order blocks es well_formed. (safe-reach f H (record { tables = es; blocks = blocks }) order well_formed).1;
    lets = λ blocks es es' a b result l. (refl, l);
    idle = blocks-idle;
  }

  module _ (old : MetadataCaches S) (before : ImageFile S) (answer : Result Unit Fault) (mid : MetadataCaches S) (between : ImageFile S) where
    -- Blocks are flushed first, if the write order demands it.
    pub blocks-first : WritesBackCached before.header (order_of old) Always (answer ≡ Ok tt) (state before.image) (cached_in old) (state between.image) (cached_in mid) → written (cached_in mid) ≡ written (cached_in old)
        → OnOk answer (ReadyTables (order_of mid) (cached_in mid)) → ((order_of old ≡ L2DependsOnRb → ⊥) → (answer ≡ Ok tt) × (mid ≡ old) × (between ≡ before))
        → (mid.l2 ≡ old.l2) × (mid.order ≡ old.order) × (between.header ≡ before.header) → HasRoomOf old mid
        → FailsFor (writing_causes (AreBlocksAddressable (cached_in old)) (state before.image).faults (state between.image).faults) answer → (HadNoResourceError answer → IsFaultless (state before.image) (state between.image))
        → (order_of old ≡ L2DependsOnRb → WritesBlocks (state before.image) (cached_in old) answer (state between.image) (cached_in mid)) → WrittenFirst (table_entries state) (by_tables old) before answer (by_tables mid) between
    blocks-first going kept ready idle others room cause faults did = record {
      writes_back_cached = going;
      kept = ap (λ (c : Cached). c.blocks) kept;
      ready = ready;
      idle = λ no. let i = idle no in (i.0, ap by_tables i.1, i.2);
      same = ap (λ l. record (by_tables mid) { own = l }) others.0 ∙ ap (λ o. record (by_tables old) { other = mid.rb; order = o }) others.1;
      header = others.2;
      room = room.blocks;
      cause = cause;
      faults = faults;
      did = did;
    }
