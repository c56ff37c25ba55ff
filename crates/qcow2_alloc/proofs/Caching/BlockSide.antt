-- The cache of refcount blocks as a side, next to the cache of L2 tables.
use Rattle.std.proofs.Common.{◌≡◌, ℕ, ◌*◌, ◌^◌, ◌≤◌, refl, arith, ap, sym, subst, ◌∙◌, inl, inr, length, Result, Ok, Err}
use Rattle.std.proofs.lemmas.Bool.{cases_lt}
use Rattle.std.proofs.lemmas.List.FromFn.{length-map-range_with_len}
use Rattle.std.specs.Prelude.{OnOk}
use Rattle.imago_storage.specs.State.{StorageState}
use Rattle.imago_storage.specs.Calls.{IsFaultless}
use Rattle.imago_storage.specs.declared.fault.Fault.{Fault}
use Rattle.imago_storage.specs.declared.fault.Fault.TheVariants.{DamagedTable}
use Rattle.qcow2_types.specs.Bytes.{bytes_of}
use Rattle.qcow2_types.specs.Counts.{counters_of_block}
use Rattle.qcow2_types.specs.Words.{max_offset}
use Rattle.qcow2_types.specs.Header.{Fields}
use Rattle.qcow2_metadata.specs.Places.{IsAddressable}
use Rattle.qcow2_metadata.specs.Blocks.{Block}
use Rattle.qcow2_alloc.specs.CachedKinds.{block_entries, by_blocks}
use Rattle.qcow2_alloc.specs.declared.cache.CacheDependency.TheVariants.{RbDependsOnL2}
use Rattle.qcow2_alloc.specs.declared.cache.MetadataCaches.{MetadataCaches}
use Rattle.qcow2_alloc.specs.declared.file.ImageFile.{ImageFile}
use Rattle.qcow2_alloc.specs.Backends.{BlockLoaded}
use Rattle.qcow2_alloc.specs.Caches.{HasRoomOf, cached_in, order_of}
use Rattle.qcow2_alloc.specs.Causes.{HasCause, FailsFor}
use Rattle.qcow2_alloc.specs.Finding.{search_causes}
use Rattle.qcow2_alloc.specs.Going.{WritesBackCached, Always, ReadyBlocks, HadNoResourceError, AreTablesAddressable, WritesTables, writing_causes}
use Rattle.qcow2_alloc.specs.Memory.{Cached, written}
use Rattle.qcow2_alloc.specs.WellFormedness.{IsCachedBlock}
use Rattle.qcow2_alloc.proofs.Causes.{storage-cause}
use Rattle.qcow2_alloc.proofs.Caching.SingleEntries.{block-kind-laws}
use Rattle.qcow2_alloc.proofs.Caching.Admission.{tables-idle}
use Rattle.qcow2_alloc.proofs.Caching.Sides.{SideLaws, WrittenFirst}
use Rattle.qcow2_alloc.proofs.Caching.FitsAfterFlushes.{block-stays}
use Rattle.qcow2_alloc.proofs.Flushing.FlushRefusals.{block-counted}
use Rattle.qcow2_alloc.proofs.Flushing.FaultlessCalls.{never-mild}
use Rattle.qcow2_alloc.proofs.Flushing.BlockFlushes.{block-flushed, flushed-clean}
use Rattle.qcow2_alloc.proofs.Flushing.EntriesAfterWrites.{block-kept}
use Rattle.qcow2_alloc.proofs.Memory.EntryKinds.{block_kind}
use Rattle.qcow2_alloc.proofs.Memory.SafeLaws.{safe-reach}

block-load-counted : (h : Fields) (key : ℕ) (old : StorageState) (result : Result Block Fault) (new : StorageState) → BlockLoaded h key old result new → HadNoResourceError result → new.faults ≡ old.faults
block-load-counted h key old (Ok block) new loaded whole = loaded.faults
block-load-counted h key old (Err fault) new loaded not_resource_error = elim (cases_lt max_offset (key * 2 ^ h.cluster_bits)) [
  | inl far ↦ ap (λ (s : StorageState). s.faults) (loaded.out (λ reach. omega (arith, far, reach))).1
  | inr reach ↦ absurd (never-mild old.faults new.faults fault (loaded.err reach) not_resource_error)
]

-- The fault counts and causes of a load.
block-loading : (h : Fields) (key : ℕ) (old : StorageState) (answer : Result Block Fault) (new : StorageState) → BlockLoaded h key old answer new
    → (old.faults ≤ new.faults) × FailsFor (search_causes (IsAddressable h.cluster_bits key) ⊥ old.faults new.faults) answer
block-loading h key old (Ok block) new loaded = (loaded.counts_not_fallen, loaded.faults)
block-loading h key old (Err fault) new loaded = (
  loaded.counts_not_fallen,
  elim (cases_lt max_offset (key * 2 ^ h.cluster_bits)) [
    | inl far ↦
        let out = loaded.out (λ reach. omega (arith, far, reach)) in
        let is : fault ≡ DamagedTable = (let e = out.0 in cc) in
        subst (λ (q : Fault). HasCause (search_causes (IsAddressable h.cluster_bits key) ⊥ old.faults new.faults) q) (sym is) (λ reach. omega (arith, far, reach))
    | inr reach ↦ storage-cause _ _ _ (omega arith) (omega arith) fault (loaded.err reach)
  ],
)

loaded-fits : (h : Fields) (key : ℕ) (old : StorageState) (value : Block) (new : StorageState) → BlockLoaded h key old (Ok value) new → IsCachedBlock (bytes_of old.bytes) h key value
loaded-fits h key old value new loaded = record {
  placed = ap (λ (b : Block). b.cluster) loaded.ok.1;
  cluster_bits = ap (λ (b : Block). b.cluster_bits) loaded.ok.1;
  order = ap (λ (b : Block). b.order) loaded.ok.1;
  long = ap (λ (b : Block). length b.counters) loaded.ok.1 ∙ length-map-range_with_len _ 0 (counters_of_block h);
  fit = loaded.ok.2;
  modified = λ m. absurd (let off = ap (λ (b : Block). b.modified) loaded.ok.1 in let both = sym off ∙ m in cc);
  clean = λ m live. ap (λ (b : Block). b.counters) loaded.ok.1;
}

module _ {S : Type 0} (state : S → StorageState) where
  pub block-laws : SideLaws (block_entries state)
  block-laws = record {
    parts = record { bytes = block_kind.bytes; OtherFits = block_kind.OtherFits; ahead = block_kind.ahead; behind = block_kind.behind };
    entries = block-kind-laws;
    kept = λ h key a answer b load. load.unchanged_but_faults;
    reads = λ h key a value b load. load.ok.1;
    clean = λ f h key. refl;
    fits = λ h key a value b load shaped. loaded-fits h key a value b load;
    counts = block-loading;
    has_no_dirty_data = block-load-counted;
    keeps = block-kept;
    counted = block-counted;
    cleaned = flushed-clean;
    flushed = block-flushed;
    stays = λ f H order tables es well_formed x left key value free. block-stays f H order (record { tables = tables; blocks = es }) well_formed x left key value free;
    rest_is = λ tables es. refl;
    near = λ f H order tables es well_formed. (safe-reach f H (record { tables = tables; blocks = es }) order well_formed).0;
    lets = λ tables es es' a b result l. (refl, l);
    idle = tables-idle;
  }

  module _ (old : MetadataCaches S) (before : ImageFile S) (answer : Result Unit Fault) (mid : MetadataCaches S) (between : ImageFile S) where
    -- Tables are flushed first, if the write order demands it.
    pub tables-first : WritesBackCached before.header (order_of old) Always (answer ≡ Ok tt) (state before.image) (cached_in old) (state between.image) (cached_in mid) → written (cached_in mid) ≡ written (cached_in old)
        → OnOk answer (ReadyBlocks (order_of mid) (cached_in mid)) → ((order_of old ≡ RbDependsOnL2 → ⊥) → (answer ≡ Ok tt) × (mid ≡ old) × (between ≡ before))
        → (mid.rb ≡ old.rb) × (mid.order ≡ old.order) × (between.header ≡ before.header) → HasRoomOf old mid
        → FailsFor (writing_causes (AreTablesAddressable (cached_in old)) (state before.image).faults (state between.image).faults) answer → (HadNoResourceError answer → IsFaultless (state before.image) (state between.image))
        → (order_of old ≡ RbDependsOnL2 → WritesTables (state before.image) (cached_in old) answer (state between.image) (cached_in mid)) → WrittenFirst (block_entries state) (by_blocks old) before answer (by_blocks mid) between
    tables-first going kept ready idle others room cause faults did = record {
      writes_back_cached = going;
      kept = ap (λ (c : Cached). c.tables) kept;
      ready = ready;
      idle = λ no. let i = idle no in (i.0, ap by_blocks i.1, i.2);
      same = ap (λ l. record (by_blocks mid) { own = l }) others.0 ∙ ap (λ o. record (by_blocks old) { other = mid.l2; order = o }) others.1;
      header = others.2;
      room = room.tables;
      cause = cause;
      faults = faults;
      did = did;
    }
