-- Readying the blocks of a run of clusters. If the refcount table is too short, it grows.
use Rattle.std.proofs.Common.{◌≡◌, ◌≢◌, ℕ, ◌+◌, ◌<◌, ◌≤◌, refl, arith, ap, sym, subst, length, Bool, true, Result, Ok, Err, inl, inr}
use Rattle.std.specs.Prelude.{IsTrue, IfOk, OnOk, slice_index, ◌*◌, ◌^◌}
use Rattle.std.proofs.Math.Nat.{mul-le-mul_right}
use Rattle.imago_storage.specs.State.{StorageState}
use Rattle.imago_storage.specs.declared.fault.Fault.{Fault}
use Rattle.imago_storage.specs.declared.fault.Fault.TheVariants.{CacheFull, Limit}
use Rattle.qcow2_types.specs.Counts.{counters_of_block}
use Rattle.qcow2_types.specs.Words.{block_offset}
use Rattle.qcow2_metadata.specs.Places.{IsAddressable}
use Rattle.qcow2_metadata.specs.Tables.{TableValue}
use Rattle.qcow2_alloc.specs.declared.allocation.readying_runs.Provision.{Provision}
use Rattle.qcow2_alloc.specs.declared.allocation.readying_runs.Provision.TheVariants.{Complete, Extended}
use Rattle.qcow2_alloc.specs.declared.cache.CacheDependency.TheVariants.{L2DependsOnRb}
use Rattle.qcow2_alloc.specs.declared.cache.MetadataCaches.{MetadataCaches}
use Rattle.qcow2_alloc.specs.declared.file.ImageFile.{ImageFile}
use Rattle.qcow2_alloc.specs.Allocating.{MakesBlocks, missing}
use Rattle.qcow2_alloc.specs.Allocators.{metadata_of}
use Rattle.qcow2_alloc.specs.Caches.{order_of}
use Rattle.qcow2_alloc.specs.FillingBlocks.{FillsFrom}
use Rattle.qcow2_alloc.specs.Going.{IsNotResourceError}
use Rattle.qcow2_alloc.specs.GrowingTables.{Leaks, GrowsTable}
use Rattle.qcow2_alloc.specs.GuestView.{Metadata, IsSound}
use Rattle.qcow2_alloc.specs.ReadyingBlocks.{HasMade, HasMore, NoneCanBeMade, ReadiesBlocks}
use Rattle.qcow2_alloc.specs.State.{image_state, metadata, with_first_free, AllocatorState}
use Rattle.qcow2_alloc.proofs.Causes.{cause-weaker, fails-weaker}
use Rattle.qcow2_alloc.proofs.Blocks.BlockCreationCalls.{allocating-weaker}
use Rattle.qcow2_alloc.proofs.Blocks.BlockRows.{refused, so}

limit-of : (fault : Fault) (number : ℕ) → refused fault ≡ Err (Limit number) → fault ≡ Limit number
limit-of fault number is = let e = is in cc

pub leaks-none : {T : Type 0} (sound : Type 0) (loose : Bool → Type 0) (result : Result T Fault) → Leaks sound loose result (λ _. 0)
leaks-none sound loose result = record { none = λ other c. refl; pinned = λ holds all c. refl }

-- A fault that is passed on leaks the same clusters.
pub leaks-on : {T U : Type 0} (sound sound' : Type 0) (loose loose' : Bool → Type 0) (fault : Fault) (leaked : ℕ → ℕ) → (sound' → sound) → ((any : Bool) → loose' any → loose any) → Leaks {T = T} sound loose (Err fault) leaked → Leaks {T = U} sound' loose' (Err fault) leaked
leaks-on sound sound' loose loose' fault leaked from from' leaks = record {
  none = λ other c. leaks.none (λ is. other (ap (λ f. Err f) (let e = is in let same : fault ≡ CacheFull = cc in same))) c;
  pinned = λ holds all c. leaks.pinned (from holds) (from' true all) c;
}

pub leaks-ok : {T : Type 0} (sound : Type 0) (loose : Bool → Type 0) (v : T) (leaked : ℕ → ℕ) → Leaks sound loose (Ok v) leaked → (c : ℕ) → leaked c ≡ 0
leaks-ok sound loose v leaked leaks c = leaks.none (λ is. absurd (cc)) c

module _ {S : Type 0} (state : S → StorageState) (at first last : ℕ) (s : AllocatorState S) where
  abbrev Start : Metadata
  Start = metadata state s.image

  abbrev Knows : Type 0 → Type 0
  Knows P = order_of s.caches ≡ L2DependsOnRb → IsTrue (state s.file.image).shape.keeps → IsSound Start → P

  -- The table is long enough: blocks are made.
  pub blocks-ready : last < length s.table.raw_entries → (result : Result Provision Fault) (table' : TableValue) (new : MetadataCaches S) (after : ImageFile S) (mark' : ℕ) → mark' ≡ s.mark → MakesBlocks state first (last + 1) s.image result (image_state table' new after s.pending)
      → Knows (OnOk result (FillsFrom s.mark first (last + 1) Start (metadata_of state after new table' s.pending))) → ReadiesBlocks state at first last s result (with_first_free (image_state table' new after s.pending) mark')
  blocks-ready inside result table' new after mark' has_no_dirty_data makes fills = record {
    leaked = λ _. 0;
    leaks = leaks-none _ _ result;
    step = makes.step;
    mark = has_no_dirty_data;
    idle = makes.idle;
    ready = named result makes.named;
    further = more result makes.fewer;
    made = λ order keeps sound. filled result (fills order keeps sound);
    once = λ inside. (refl, makes.header, makes.long);
    grew = λ past. absurd (omega (arith, past, inside));
    unchanged_on_error = λ past. absurd (omega (arith, past, inside));
    barred = λ past. absurd (omega (arith, past, inside));
    cause = fails-weaker _ _ (allocating-weaker (λ holds. holds) (λ any loose. loose) far-all refl) (λ same. same) result makes.cause;
  }
    where
      filled : (r : Result Provision Fault) → OnOk r (FillsFrom s.mark first (last + 1) Start (metadata_of state after new table' s.pending)) → IfOk r (λ made. made ≡ Extended → HasMade s.mark at first last Start (metadata_of state after new table' s.pending))
      filled (Ok made) is = λ some. inl (inside, makes.long, is)
      filled (Err fault) is = tt

      named : (r : Result Provision Fault) → OnOk r ((i : ℕ) → first ≤ i → i < last + 1 → block_offset (slice_index table'.raw_entries i) ≢ 0) → IfOk r (λ made. made ≡ Complete → (i : ℕ) → first ≤ i → i ≤ last → block_offset (slice_index table'.raw_entries i) ≢ 0)
      named (Ok made) all = λ idle i above below. all i above (omega (arith, below))
      named (Err fault) all = tt

      more : (r : Result Provision Fault) → IfOk r (λ made. made ≡ Extended → missing table' < missing s.table) → IfOk r (λ made. made ≡ Extended → HasMore s.table table')
      more (Ok made) fewer = λ some. inr (makes.long, fewer some)
      more (Err fault) fewer = tt

      far-all : (number : ℕ) → ((i : ℕ) × (first ≤ i) × (i < last + 1) × (number ≤ i * counters_of_block s.file.header.fields) × (IsAddressable s.file.header.fields.cluster_bits number → ⊥)) → Knows (NoneCanBeMade s.mark at first last number Start)
      far-all number (i, above, below, le, far) order keeps sound = inl (λ all.
          let near : IsAddressable s.file.header.fields.cluster_bits (i * counters_of_block s.file.header.fields) = all i above (omega (arith, below)) in
          let more = mul-le-mul_right (2 ^ s.file.header.fields.cluster_bits) le in
          far (omega (arith, near, more)))

  module _ (past : length s.table.raw_entries ≤ last) (s' : AllocatorState S) where
    -- The table is too short: it grows.
    pub table-ready : last ≤ at → GrowsTable state at s (Ok tt) s' → ReadiesBlocks state at first last s (so Extended) s'
    table-ready behind grows = record {
      leaked = grows.leaked;
      leaks = record { none = λ other c. leaks-ok _ _ tt grows.leaked grows.leaks c; pinned = grows.leaks.pinned };
      step = grows.step;
      mark = grows.mark;
      idle = λ none. absurd (cc);
      ready = λ none. absurd (cc);
      further = λ some. inl (let above = grows.enough.enough.above in omega (arith, above, past, behind));
      made = λ order keeps sound some. inr (past, grows.grown order keeps sound);
      once = λ inside. absurd (omega (arith, inside, past));
      grew = λ past. (let above = grows.enough.enough.above in omega (arith, above, past, behind), grows.waits);
      unchanged_on_error = λ past. tt;
      barred = λ past order keeps sound number is. absurd (cc is);
      cause = grows.cause;
    }

    -- Growing the table fails.
    pub table-not-ready : (fault : Fault) → GrowsTable state at s (Err fault) s' → ReadiesBlocks state at first last s (Err fault) s'
    table-not-ready fault grows = record {
      leaked = grows.leaked;
      leaks = leaks-on _ _ _ _ fault grows.leaked (λ holds. holds) (λ any loose. loose) grows.leaks;
      step = grows.step;
      mark = grows.mark;
      idle = tt;
      ready = tt;
      further = tt;
      made = λ order keeps sound. tt;
      once = λ inside. absurd (omega (arith, inside, past));
      grew = λ past. tt;
      unchanged_on_error = λ past. grows.unchanged_on_error;
      barred = λ past order keeps sound number is.
          let not_resource_error : IsNotResourceError fault = subst (λ (f : Fault). IsNotResourceError f) (sym (limit-of fault number is)) tt in
          let has_no_dirty_data = grows.stays not_resource_error in
          record { header = has_no_dirty_data.1; table = has_no_dirty_data.0; counts = grows.barred order keeps sound number (ap (λ (f : Fault). Err f) (limit-of fault number is)) };
      cause = cause-weaker (allocating-weaker (λ holds. holds) (λ any loose. loose) (λ number none order keeps sound. inr (past, none order keeps sound)) refl) fault grows.cause;
    }
