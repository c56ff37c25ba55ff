-- A free area for a refcount table wasn't filled: the image keeps its table.
use Rattle.std.proofs.Common.{◌≡◌, ℕ, ◌+◌, ◌/◌, ◌<◌, ◌≤◌, refl, arith, ◌∙◌, List, inl, inr, Err, Bool, true}
use Rattle.std.specs.Prelude.{⊤, ◌⊎◌, ◌==◌, if◌then◌else◌, IsTrue, slice_index}
use Rattle.std.proofs.lemmas.Bool.{cases_eq, cases_lt, ne_eqb}
use Rattle.imago_storage.specs.State.{StorageState}
use Rattle.imago_storage.specs.declared.fault.Fault.{Fault}
use Rattle.imago_storage.specs.declared.fault.Fault.TheVariants.{Memory, Storage, DamagedTable, CacheFull, Counter}
use Rattle.imago_storage.proofs.Composing.{later_same}
use Rattle.qcow2_types.specs.Counts.{counters_of_block}
use Rattle.qcow2_types.specs.Pending.{FreeEntry}
use Rattle.qcow2_types.specs.Words.{block_offset}
use Rattle.qcow2_metadata.specs.Tables.{TableValue}
use Rattle.qcow2_alloc.specs.declared.allocation.searching.Run.{Run}
use Rattle.qcow2_alloc.specs.declared.cache.CacheDependency.TheVariants.{L2DependsOnRb}
use Rattle.qcow2_alloc.specs.declared.cache.MetadataCaches.{MetadataCaches}
use Rattle.qcow2_alloc.specs.declared.file.ImageFile.{ImageFile}
use Rattle.qcow2_alloc.specs.Allocating.{CountsReferenced, named_part}
use Rattle.qcow2_alloc.specs.Allocators.{metadata_of}
use Rattle.qcow2_alloc.specs.Caches.{order_of}
use Rattle.qcow2_alloc.specs.Causes.{HasCause}
use Rattle.qcow2_alloc.specs.FreeList.{covers}
use Rattle.qcow2_alloc.specs.Freeing.{HasUnpinnedRoom, counting_causes}
use Rattle.qcow2_alloc.specs.Going.{IsNotResourceError}
use Rattle.qcow2_alloc.specs.MakingRoom.{run_of}
use Rattle.qcow2_alloc.specs.MovingTables.{IsUncounted, FillsFreeArea}
use Rattle.qcow2_alloc.specs.GuestView.{Metadata, counted, IsSound}
use Rattle.qcow2_alloc.specs.State.{ImageState, image_state, metadata}
use Rattle.qcow2_alloc.proofs.Causes.{cause-weaker}
use Rattle.qcow2_alloc.proofs.Handing.CountSequences.{moved-none}
use Rattle.qcow2_alloc.proofs.Blocks.RunCounts.{covers-behind}
use Rattle.qcow2_alloc.proofs.Freeing.EntryFrees.{failed, counting-weaker}
use Rattle.qcow2_alloc.proofs.Growth.LongerReftables.{covers-inside, covers-before}
use Rattle.qcow2_alloc.proofs.GuestView.QuietPremises.{quietly-given}
use Rattle.qcow2_alloc.proofs.GuestView.QuietSequences.{quiet-otherwise}
use Rattle.qcow2_alloc.proofs.GuestView.QuietFlushes.{memory-quietly, quiet-none}

-- Counting a part of a run raised each refcount from 0 to 1.
part-raised : (w a b : ℕ) (m m' : ℕ) (first len part c : ℕ) → part ≤ len → ((first ≤ c) → c < first + len → m ≡ 0) → m' ≡ m + (if w == 0 then 0 else covers c (run_of first part)) → (m' ≡ m) ⊎ ((m ≡ 0) × (m' ≡ 1))
part-raised w a b m m' first len part c le zero is = elim (cases_eq w 0) [
  | inl none ↦ inl (is ∙ (let off : (if w == 0 then 0 else covers c (run_of first part)) ≡ 0 = rw none refl in omega (arith, off)))
  | inr some ↦
      let on : (if w == 0 then 0 else covers c (run_of first part)) ≡ covers c (run_of first part) = rw (ne_eqb w 0 some) refl in
      elim (cases_lt c first) [
        | inl lt ↦ inl (let none = covers-before c first part lt in omega (arith, is, on, none))
        | inr from ↦ elim (cases_lt c (first + part)) [
          | inl to ↦ let one = covers-inside c first part from to in let was = zero from (omega (arith, to, le)) in inr (was, omega (arith, is, on, one, was))
          | inr past ↦ inl (let none = covers-behind c first part past in omega (arith, is, on, none))
        ]
      ]
]

-- The clusters that a failed call leaks: those of `handed` after `CacheFull`, otherwise none.
abbrev leaked-by : Fault → (ℕ → ℕ) → ℕ → ℕ
leaked-by CacheFull handed c = handed c
leaked-by fault handed c = 0

leaked-same : (sound : Type 0) (loose : Bool → Type 0) (a b : ℕ) (fault : Fault) (handed : ℕ → ℕ) → IsNotResourceError fault → sound → HasCause (counting_causes sound loose a b) fault → (c : ℕ) → handed c ≡ leaked-by fault handed c
leaked-same sound loose a b Memory handed not_resource_error s why c = absurd not_resource_error
leaked-same sound loose a b Storage handed not_resource_error s why c = absurd not_resource_error
leaked-same sound loose a b DamagedTable handed not_resource_error s why c = absurd (why s)
leaked-same sound loose a b Counter handed not_resource_error s why c = absurd (why s)
leaked-same sound loose a b CacheFull handed not_resource_error s why c = refl
leaked-same sound loose a b other handed not_resource_error s why c = absurd why

leaked-none : (fault : Fault) (handed : ℕ → ℕ) → (failed fault ≡ Err CacheFull → ⊥) → (c : ℕ) → leaked-by fault handed c ≡ 0
leaked-none CacheFull handed not c = absurd (not refl)
leaked-none fault handed not c = refl

leaked-pinned : (sound : Type 0) (loose : Bool → Type 0) (a b : ℕ) (fault : Fault) (handed : ℕ → ℕ) → sound → loose true → HasCause (counting_causes sound loose a b) fault → (c : ℕ) → leaked-by fault handed c ≡ 0
leaked-pinned sound loose a b CacheFull handed s l why c = absurd (why (true, λ is. s, l))
leaked-pinned sound loose a b fault handed s l why c = refl

module _ {S : Type 0} (state : S → StorageState) (was : ImageState S) (run : Run) (copy : TableValue)
    (known : Type 0) (free : known → (order_of was.caches ≡ L2DependsOnRb) × IsUncounted (metadata state was) run) where
  abbrev m0 : Metadata
  m0 = metadata state was

  abbrev Keeps : Type 0
  Keeps = IsTrue (state was.file.image).shape.keeps

  abbrev Sound : Type 0
  Sound = known × Keeps × IsSound m0

  -- Counting failed: the image keeps its table.
  module _ (fault : Fault) (D : MetadataCaches S) (fD : ImageFile S) (counts : CountsReferenced state run.first run.len was (failed fault) (image_state was.table D fD was.pending)) where
    abbrev mD : Metadata
    mD = metadata_of state fD D was.table was.pending

    abbrev handed : ℕ → ℕ
    handed = named_part was.table (counters_of_block was.file.header.fields) run.first counts.part

    all-known : Sound → Keeps × (order_of was.caches ≡ L2DependsOnRb) × IsSound m0 × ((c : ℕ) → run.first ≤ c → c < run.first + run.len → (counted m0 c ≡ 0) × ⊤)
    all-known s = (s.1, (free s.0).0, s.2, λ c from to. ((free s.0).1 c from to, tt))

    why : HasCause (counting_causes Sound (HasUnpinnedRoom was.table was.caches) (state was.file.image).faults (state fD.image).faults) fault
    why = cause-weaker (counting-weaker all-known (λ any loose. loose) refl) fault counts.cause

    pub not-filled : FillsFreeArea state known run copy was (failed fault) (image_state was.table D fD was.pending)
    not-filled = record {
      leaked = leaked-by fault handed;
      leaks = record { none = leaked-none fault handed; pinned = λ sound loose. leaked-pinned Sound (HasUnpinnedRoom was.table was.caches) _ _ fault handed sound loose why };
      shape = counts.shape;
      counts_not_fallen = counts.counts_not_fallen;
      faults = counts.faults;
      guest_unchanged = λ e. quietly-given (IsNotResourceError fault) (leaked-by fault handed) (λ _. 0) (state was.file.image) m0 (state fD.image) mD counts.shape counts.counts_not_fallen (λ keeps sound.
          let q = counts.guest_unchanged (free e).0 (λ s. (free e).1) in
          record {
            shape = q.shape;
            counts_not_fallen = q.counts_not_fallen;
            passes = q.passes;
            holds = λ k s not_resource_error.
                let both = q.holds k s not_resource_error in
                (both.0, quiet-otherwise m0 mD handed (λ _. 0) (leaked-by fault handed) (λ _. 0) (λ c. let is = leaked-same Sound (HasUnpinnedRoom was.table was.caches) _ _ fault handed not_resource_error (e, keeps, sound) why c in omega (arith, is)) (λ c used none. refl) both.1);
          });
      raised = λ e keeps sound not_resource_error c.
          part-raised (block_offset (slice_index was.table.raw_entries (c / counters_of_block was.file.header.fields))) 0 0 (counted m0 c) (counted mD c) run.first run.len counts.part c counts.inside ((free e).1 c)
          (counts.raised (free e).0 keeps sound (free e).1 not_resource_error c);
      order = counts.order;
      moved = moved-none was.file.header fD.header counts.header;
      longer = omega arith;
      keeps_unpinned_room = counts.keeps_unpinned_room;
      room = counts.room;
      counts = λ e keeps sound. tt;
      table_is = tt;
      stays = λ not_resource_error. (refl, counts.header);
      cause = why;
    }

-- The call fails before it does anything.
pub not-begun : {S : Type 0} (state : S → StorageState) (known : Type 0) (table : TableValue) (pending : List FreeEntry) (run : Run) (copy : TableValue) (caches : MetadataCaches S) (file : ImageFile S) (fault : Fault)
    → HasCause (counting_causes (known × IsTrue (state file.image).shape.keeps × IsSound (metadata_of state file caches table pending)) (HasUnpinnedRoom table caches) (state file.image).faults (state file.image).faults) fault
    → FillsFreeArea state known run copy (image_state table caches file pending) (failed fault) (image_state table caches file pending)
not-begun state known table pending run copy caches file fault why = record {
  leaked = λ _. 0;
  leaks = record { none = λ not c. refl; pinned = λ sound loose c. refl };
  shape = refl;
  counts_not_fallen = later_same (state file.image);
  faults = λ not_resource_error. (refl, refl);
  guest_unchanged = λ e. memory-quietly (IsNotResourceError fault) (λ _. 0) (λ _. 0) (state file.image) (metadata_of state file caches table pending) (metadata_of state file caches table pending) (λ sound not_resource_error. (sound, quiet-none (metadata_of state file caches table pending) sound));
  raised = λ e keeps sound not_resource_error c. inl refl;
  counts = λ e keeps sound. tt;
  order = refl;
  moved = moved-none file.header file.header refl;
  longer = omega arith;
  keeps_unpinned_room = λ any loose. loose;
  room = record { tables = refl; blocks = refl; entries = refl };
  table_is = tt;
  stays = λ not_resource_error. (refl, refl);
  cause = why;
}
