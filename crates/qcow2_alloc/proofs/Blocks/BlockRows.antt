-- Making several refcount blocks, in order.
use Rattle.std.proofs.Common.{◌≡◌, ◌≢◌, ℕ, ◌+◌, ◌*◌, ◌<◌, ◌≤◌, refl, arith, ap, sym, subst, ◌∙◌, List, length, Result, Ok, Err, inl, inr}
use Rattle.std.specs.Prelude.{IsTrue, IfOk, OnOk, slice_index, slice_set, ◌==◌, if◌then◌else◌}
use Rattle.std.specs.List.{sum_by}
use Rattle.std.proofs.lemmas.Bool.{cases_eq, ne_eqb}
use Rattle.std.proofs.lemmas.List.{ext_get_or, get_or-set_same, get_or-set_other, length-set}
use Rattle.std.proofs.lemmas.List.Sums.{sum_by-set}
use Rattle.imago_storage.specs.State.{StorageState}
use Rattle.imago_storage.specs.declared.fault.Fault.{Fault}
use Rattle.imago_storage.proofs.Composing.{keeps_on}
use Rattle.qcow2_types.specs.Words.{block_offset}
use Rattle.qcow2_types.specs.Header.{Header}
use Rattle.qcow2_types.specs.Counts.{counters_of_block}
use Rattle.qcow2_types.specs.Pending.{FreeEntry}
use Rattle.qcow2_metadata.specs.Places.{IsAddressable}
use Rattle.qcow2_metadata.specs.Tables.{TableValue}
use Rattle.qcow2_alloc.specs.declared.allocation.readying_runs.Provision.{Provision}
use Rattle.qcow2_alloc.specs.declared.allocation.readying_runs.Provision.TheVariants.{Complete, Extended}
use Rattle.qcow2_alloc.specs.declared.cache.CacheDependency.TheVariants.{L2DependsOnRb}
use Rattle.qcow2_alloc.specs.declared.cache.MetadataCaches.{MetadataCaches}
use Rattle.qcow2_alloc.specs.declared.file.ImageFile.{ImageFile}
use Rattle.qcow2_alloc.specs.Allocating.{Allocating, MakesBlock, MakesBlocks, missing, allocating_causes}
use Rattle.qcow2_alloc.specs.Allocators.{metadata_of}
use Rattle.qcow2_alloc.specs.Caches.{order_of}
use Rattle.qcow2_alloc.specs.Causes.{FailsFor}
use Rattle.qcow2_alloc.specs.Freeing.{HasUnpinnedRoom}
use Rattle.qcow2_alloc.specs.Going.{HadNoResourceError}
use Rattle.qcow2_alloc.specs.GuestView.{IsSound}
use Rattle.qcow2_alloc.specs.State.{image_state}
use Rattle.qcow2_alloc.proofs.Causes.{cause-weaker}
use Rattle.qcow2_alloc.proofs.Blocks.BlockCreationCalls.{allocating-weaker}
use Rattle.qcow2_alloc.proofs.Handing.CountSequences.{allocating-none, allocating-then}

abbrev pub so : Provision → Result Provision Fault
so made = Ok made

abbrev pub refused : Fault → Result Provision Fault
refused fault = Err fault

-- The result after one more block, from the result of making that block.
abbrev pub made_by : Result Unit Fault → Result Provision Fault
made_by (Ok done) = Ok Extended
made_by (Err fault) = Err fault

fewer-missing : (table table' : TableValue) (index : ℕ) → index < length table.raw_entries → length table'.raw_entries ≡ length table.raw_entries → block_offset (slice_index table.raw_entries index) ≡ 0 → block_offset (slice_index table'.raw_entries index) ≢ 0
    → ((i : ℕ) → i ≢ index → slice_index table'.raw_entries i ≡ slice_index table.raw_entries i) → missing table' < missing table
fewer-missing table table' index inside long none some others =
    let f : ℕ → ℕ = λ w. if block_offset w == 0 then 1 else 0 in
    let w : ℕ = slice_index table'.raw_entries index in
    let set : table'.raw_entries ≡ slice_set table.raw_entries index w = ext_get_or 0 table'.raw_entries (slice_set table.raw_entries index w) (long ∙ sym (length-set table.raw_entries index w)) (λ i lt. elim (cases_eq i index) [
      | inl same ↦ subst (λ k. slice_index table'.raw_entries k ≡ slice_index (slice_set table.raw_entries index w) k) (sym same) (sym (get_or-set_same table.raw_entries index w 0 inside))
      | inr apart ↦ others i apart ∙ sym (get_or-set_other table.raw_entries index i w 0 apart)
    ]) in
    let sums : sum_by f (slice_set table.raw_entries index w) + f (slice_index table.raw_entries index) ≡ sum_by f table.raw_entries + f w = sum_by-set f table.raw_entries index w 0 inside in
    let new : missing table' ≡ sum_by f (slice_set table.raw_entries index w) = ap (λ (l : List ℕ). sum_by f l) set in
    let was : f (slice_index table.raw_entries index) ≡ 1 = rw none refl in
    let is : f w ≡ 0 = rw (ne_eqb (block_offset w) 0 some) refl in
    omega (arith, sums, new, was, is)

module _ {S : Type 0} (state : S → StorageState) (pending : List FreeEntry) (first : ℕ) where
  pub blocks-none : (table : TableValue) (old : MetadataCaches S) (before : ImageFile S) → MakesBlocks state first first (image_state table old before pending) (so Complete) (image_state table old before pending)
  blocks-none table old before = record {
    step = allocating-none state (image_state table old before pending);
    named = λ i above below. omega (arith, above, below);
    entries_unchanged = λ i some. refl;
    idle = λ none. (refl, refl, refl);
    fewer = λ some. absurd (cc);
    long = refl;
    layout = refl;
    placed = refl;
    header = refl;
    cause = refl;
  }

  module _ (c : ℕ) (tA : TableValue) (A : MetadataCaches S) (fA : ImageFile S) (made : Provision) (tB : TableValue) (B : MetadataCaches S) (fB : ImageFile S) (one : MakesBlocks state first c (image_state tA A fA pending) (so made) (image_state tB B fB pending)) where
    pub blocks-there : block_offset (slice_index tB.raw_entries c) ≢ 0 → MakesBlocks state first (c + 1) (image_state tA A fA pending) (so made) (image_state tB B fB pending)
    blocks-there there = record {
      step = one.step;
      named = λ i above below. elim (cases_eq i c) [
        | inl same ↦ subst (λ k. block_offset (slice_index tB.raw_entries k) ≢ 0) (sym same) there
        | inr apart ↦ one.named i above (omega (arith, below, apart))
      ];
      entries_unchanged = one.entries_unchanged;
      idle = one.idle;
      fewer = one.fewer;
      long = one.long;
      layout = one.layout;
      placed = one.placed;
      header = one.header;
      cause = one.cause;
    }

    pub blocks-then : c < length tA.raw_entries → block_offset (slice_index tB.raw_entries c) ≡ 0 → first ≤ c → (result : Result Unit Fault) (tC : TableValue) (C : MetadataCaches S) (fC : ImageFile S) → MakesBlock state c (image_state tB B fB pending) result (image_state tC C fC pending)
        → MakesBlocks state first (c + 1) (image_state tA A fA pending) (made_by result) (image_state tC C fC pending)
    blocks-then inside none above result tC C fC two = record {
      step = step result two.step;
      named = named result two.named;
      entries_unchanged = λ i some. kept i some;
      idle = idle result;
      fewer = fewer result two.named;
      long = two.long ∙ one.long;
      layout = two.layout ∙ one.layout;
      placed = two.placed ∙ one.placed;
      header = two.header ∙ one.header;
      cause = caused result two.cause;
    }
      where
        step : (r : Result Unit Fault) → Allocating state (HadNoResourceError r) (λ _. 0) (image_state tB B fB pending) (image_state tC C fC pending) → Allocating state (HadNoResourceError (made_by r)) (λ _. 0) (image_state tA A fA pending) (image_state tC C fC pending)
        step (Ok done) more = allocating-then state (HadNoResourceError (so made)) (HadNoResourceError (so Extended)) (λ _. 0) (λ _. 0) (image_state tA A fA pending) (image_state tB B fB pending) (image_state tC C fC pending) tt one.step more
        step (Err fault) more = allocating-then state (HadNoResourceError (so made)) (HadNoResourceError (made_by (Err fault))) (λ _. 0) (λ _. 0) (image_state tA A fA pending) (image_state tB B fB pending) (image_state tC C fC pending) tt one.step more

        others : (i : ℕ) → i ≢ c → slice_index tC.raw_entries i ≡ slice_index tB.raw_entries i
        others = two.others

        named : (r : Result Unit Fault) → OnOk r (block_offset (slice_index tC.raw_entries c) ≢ 0) → OnOk (made_by r) ((i : ℕ) → first ≤ i → i < c + 1 → block_offset (slice_index tC.raw_entries i) ≢ 0)
        named (Ok done) there = λ i above' below. elim (cases_eq i c) [
          | inl same ↦ subst (λ k. block_offset (slice_index tC.raw_entries k) ≢ 0) (sym same) there
          | inr apart ↦ subst (λ w. block_offset w ≢ 0) (sym (others i apart)) (one.named i above' (omega (arith, below, apart)))
        ]
        named (Err fault) there = tt

        kept : (i : ℕ) → block_offset (slice_index tA.raw_entries i) ≢ 0 → slice_index tC.raw_entries i ≡ slice_index tA.raw_entries i
        kept i some =
            let same = one.entries_unchanged i some in
            others i (λ at. some (ap (λ w. block_offset w) (sym same) ∙ subst (λ k. block_offset (slice_index tB.raw_entries k) ≡ 0) (sym at) none)) ∙ same

        idle : (r : Result Unit Fault) → IfOk (made_by r) (λ made'. made' ≡ Complete → (tC ≡ tA) × (C ≡ A) × (fC ≡ fA))
        idle (Ok done) = λ none. absurd (cc)
        idle (Err fault) = tt

        before-fewer : (b : Provision) → (b ≡ Complete → (tB ≡ tA) × (B ≡ A) × (fB ≡ fA)) → (b ≡ Extended → missing tB < missing tA) → missing tB ≤ missing tA
        before-fewer Extended same less = let lt = less refl in omega (arith, lt)
        before-fewer Complete same less = let is = ap (λ (t : TableValue). missing t) (same refl).0 in omega (arith, is)

        fewer : (r : Result Unit Fault) → OnOk r (block_offset (slice_index tC.raw_entries c) ≢ 0) → IfOk (made_by r) (λ made'. made' ≡ Extended → missing tC < missing tA)
        fewer (Ok done) there = λ some.
            let same = one.long in
            let lt = fewer-missing tB tC c (omega (arith, inside, same)) two.long none there others in
            let le = before-fewer made one.idle one.fewer in
            omega (arith, lt, le)
        fewer (Err fault) there = tt

        caused : (r : Result Unit Fault)
            → FailsFor (allocating_causes (IsTrue (state fB.image).shape.keeps × (order_of B ≡ L2DependsOnRb) × IsSound (metadata_of state fB B tB pending)) (HasUnpinnedRoom tB B) (λ number. (number ≤ c * counters_of_block fB.header.fields) × (IsAddressable fB.header.fields.cluster_bits number → ⊥)) (state fB.image).faults (state fC.image).faults) r
            → FailsFor (allocating_causes (IsTrue (state fA.image).shape.keeps × (order_of A ≡ L2DependsOnRb) × IsSound (metadata_of state fA A tA pending)) (HasUnpinnedRoom tA A)
            (λ number. (i : ℕ) × (first ≤ i) × (i < c + 1) × (number ≤ i * counters_of_block fA.header.fields) × (IsAddressable fA.header.fields.cluster_bits number → ⊥)) (state fA.image).faults (state fC.image).faults) (made_by r)
        caused (Ok done) same = same ∙ one.cause
        caused (Err fault) why = cause-weaker (allocating-weaker (λ holds. let guest_unchanged = one.step.guest_unchanged holds.1 in (keeps_on (state fA.image) (state fB.image) guest_unchanged.shape holds.0, one.step.order ∙ holds.1, (guest_unchanged.holds holds.0 holds.2 tt).0)) one.step.keeps_unpinned_room (λ number far. let at = subst (λ (h : Header). (number ≤ c * counters_of_block h.fields) × (IsAddressable h.fields.cluster_bits number → ⊥)) one.header far in (c, above, omega arith, at.0, at.1)) one.cause) fault why

  -- A failure within a prefix of the indices is a failure for all of them.
  pub blocks-within : (end more : ℕ) → end ≤ more → (tA : TableValue) (A : MetadataCaches S) (fA : ImageFile S) (fault : Fault) (tB : TableValue) (B : MetadataCaches S) (fB : ImageFile S)
      → MakesBlocks state first end (image_state tA A fA pending) (refused fault) (image_state tB B fB pending) → MakesBlocks state first more (image_state tA A fA pending) (refused fault) (image_state tB B fB pending)
  blocks-within end more le tA A fA fault tB B fB part = record {
    step = part.step;
    named = tt;
    entries_unchanged = part.entries_unchanged;
    idle = tt;
    fewer = tt;
    long = part.long;
    layout = part.layout;
    placed = part.placed;
    header = part.header;
    cause = cause-weaker (allocating-weaker (λ holds. holds) (λ any loose. loose) (λ number far. let below = far.2 in (far.0, far.1, omega (arith, below, le), far.3, far.4)) refl) fault part.cause;
  }
