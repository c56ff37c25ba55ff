-- A call that makes a refcount block, from its first step to its last.
use Rattle.std.proofs.Common.{◌≡◌, ◌≢◌, ℕ, ◌+◌, ◌*◌, ◌^◌, ◌<◌, ◌≤◌, refl, arith, ap, sym, subst, ◌∙◌, inl, List, length, Ok, Err, Some, Bool, true, Option, Result}
use Rattle.std.specs.Prelude.{⊤, nat_eq, slice_index, IsTrue, OnOk, IsSomeAnd, MatchResult}
use Rattle.std.specs.Int.{w64, to_be_bytes}
use Rattle.std.specs.Map.{lookup}
use Rattle.std.proofs.lemmas.List.{length-set, get_or-set_same, get_or-set_other}
use Rattle.std.proofs.lemmas.Nat.{pow_pos}
use Rattle.imago_storage.specs.State.{StorageState}
use Rattle.imago_storage.specs.Calls.{Cause, CountsNotFallen, IsFaultless}
use Rattle.imago_storage.specs.Through.{WriteOutcome, AtomicWriteOutcome}
use Rattle.imago_storage.specs.declared.fault.Fault.{Fault}
use Rattle.imago_storage.specs.declared.fault.Fault.TheVariants.{Memory, CacheFull}
use Rattle.imago_storage.proofs.Composing.{keeps_on, later_both, later_same}
use Rattle.qcow2_types.specs.Bytes.{bytes_of}
use Rattle.qcow2_types.specs.Counts.{counters_of_block}
use Rattle.qcow2_types.specs.Header.{Header, cluster_size}
use Rattle.qcow2_types.specs.References.{meets}
use Rattle.qcow2_types.specs.Words.{Layout, block_offset, max_offset}
use Rattle.qcow2_types.proofs.Counting.Consistent.{meets-own}
use Rattle.qcow2_types.proofs.Changes.Frames.{header-part}
use Rattle.qcow2_types.proofs.Fields.HeaderLimits.{header-limited}
use Rattle.qcow2_types.proofs.Counting.Named.{structure-le-refs}
use Rattle.qcow2_types.proofs.Changes.WriteBack.{place-near, place-whole}
use Rattle.qcow2_metadata.specs.Blocks.{Block, BlockPut, block_of}
use Rattle.qcow2_metadata.specs.Places.{IsAddressable, IsPlaced}
use Rattle.qcow2_metadata.specs.Tables.{TableValue, CanBeReferenced, with_raw_entry, table_start}
use Rattle.qcow2_metadata.proofs.TableSteps.{block_named}
use Rattle.qcow2_alloc.specs.declared.cache.CacheDependency.TheVariants.{L2DependsOnRb}
use Rattle.qcow2_alloc.specs.declared.cache.MetadataCaches.{MetadataCaches}
use Rattle.qcow2_alloc.specs.declared.file.ImageFile.{ImageFile}
use Rattle.qcow2_alloc.specs.Allocating.{Allocating, MakesBlock, OnlyIncremented, allocating_causes}
use Rattle.qcow2_alloc.specs.Allocators.{metadata_of, referenced_block}
use Rattle.qcow2_alloc.specs.Caches.{cached_in, order_of}
use Rattle.qcow2_alloc.specs.Causes.{HasCause}
use Rattle.qcow2_alloc.specs.Freeing.{IsUnbarred, HasUnpinnedRoom, freeing_causes, counting_causes}
use Rattle.qcow2_alloc.specs.Going.{HadNoResourceError}
use Rattle.qcow2_alloc.specs.MakingBlocks.{Begins, CanReference, naming_causes, LinksWritten}
use Rattle.qcow2_alloc.specs.MakingRoom.{with_block}
use Rattle.qcow2_alloc.specs.GuestView.{Metadata, in_memory, counted, IsUsed, IsSound, PreservesGuest, referenced_at_all}
use Rattle.qcow2_alloc.specs.State.{ImageState, image_state, metadata, IsGuarded}
use Rattle.qcow2_alloc.proofs.Causes.{Implies, bare-weaker, fails-weaker, storage-fails}
use Rattle.qcow2_alloc.proofs.Handing.CountSequences.{moved-none, raised-then, allocating-then}
use Rattle.qcow2_alloc.proofs.GuestView.SingleRequests.{put-done}
use Rattle.qcow2_alloc.proofs.Flushing.FaultlessCalls.{never-mild, faultless-then, put-faultless}
use Rattle.qcow2_alloc.proofs.Caching.BlockDrops.{never-unnamed}
use Rattle.qcow2_alloc.proofs.Freeing.EntryFrees.{failed, unbarred-still}
use Rattle.qcow2_alloc.proofs.Caching.UnpinnedCaches.{StaysLoose, loose-named, name-kept}
use Rattle.qcow2_alloc.proofs.Memory.Patches.{place-there}
use Rattle.qcow2_alloc.proofs.GuestView.QuietFlushes.{memory-quietly, quiet-none, quietly-weaker}
use Rattle.qcow2_alloc.proofs.GuestView.QuietPremises.{quietly-given, quietly-then-given}
use Rattle.qcow2_alloc.proofs.GuestView.QuietSequences.{quietly-otherwise, quiet-otherwise}
use Rattle.qcow2_alloc.proofs.Caching.Pins.{pinned-there}

module _ (m : Metadata) (sound : IsSound m) where
  pub first-counted : 0 < counted m 0
  first-counted =
      let part = header-part (in_memory m) m.header.fields (meets m.header.fields 0) in
      let at : 0 ≡ 0 * cluster_size m.header.fields = omega arith in
      let one : meets m.header.fields 0 0 (cluster_size m.header.fields) ≡ 1 = ap (λ n. meets m.header.fields 0 n (cluster_size m.header.fields)) at ∙ meets-own m.header.fields 0 in
      let le = structure-le-refs (in_memory m) m.header.fields 0 in
      let covers = sound.covered 0 in
      omega (arith, part, one, le, covers)

  pub can-name : (place : ℕ) → place ≢ 0 → CanReference m.table m.header.fields.cluster_bits place
  can-name place some =
      let bits : m.table.layout.cluster_bits ≡ m.header.fields.cluster_bits = ap (λ (l : Layout). l.cluster_bits) sound.table.layout in
      let limited = header-limited true m.file m.header sound.well_formed.consistent.readable.loads in
      let whole = place-whole m.header.fields.cluster_bits m.header.fields.refcount_table_offset limited.refcount_place in
      let near = place-near m.header.fields.cluster_bits m.header.fields.refcount_table_offset limited.refcount_place in
      record {
        placed = subst (λ (b : ℕ). IsPlaced b m.table.cluster) (sym bits) (subst (λ (c : Option ℕ). IsPlaced m.header.fields.cluster_bits c) (sym sound.table.placed) (subst (λ n. n ≤ max_offset) (sym whole) near));
        bits = bits;
        offset_nonzero = some;
      }

pub namable : (table : TableValue) (bits d : ℕ) → CanReference table bits d → IsAddressable bits d → (cluster : Option ℕ) → cluster ≡ Some d → CanBeReferenced table.layout.cluster_bits cluster
namable table bits d can reach cluster is =
    let place : CanBeReferenced bits (Some d) = record { placed = reach; cluster_nonzero = let there = place-there (2 ^ bits) d (pow_pos bits) can.offset_nonzero in omega (arith, there) } in
    subst (λ (b : ℕ). CanBeReferenced b cluster) (sym can.bits) (subst (λ (c : Option ℕ). CanBeReferenced bits c) (sym is) place)

put-cause : (old new : StorageState) (at : ℕ) (bytes : List ℕ) (done : Result Unit Fault) → WriteOutcome old new at bytes done → (fault : Fault) → done ≡ Err fault → Cause old.faults new.faults fault
put-cause old new at bytes (Ok done) put fault is = absurd (cc is)
put-cause old new at bytes (Err other) put fault is = subst (λ (f : Fault). Cause old.faults new.faults f) (let e = is in cc) put.answer.cause

put-faults : (old new : StorageState) (at : ℕ) (bytes : List ℕ) (done : Result Unit Fault) → WriteOutcome old new at bytes done → done ≡ Ok tt → new.faults ≡ old.faults
put-faults old new at bytes (Ok done) put is = put.answer.faults
put-faults old new at bytes (Err fault) put is = absurd (cc is)

-- Only entry `i` may change; if it does, it references cluster `d`.
pub record NamedAt (table : TableValue) (i d : ℕ) (result : Result Unit Fault) (table' : TableValue) : Type 0 where
  pub named : OnOk result (block_offset (slice_index table'.raw_entries i) ≢ 0)
  pub others : (k : ℕ) → k ≢ i → slice_index table'.raw_entries k ≡ slice_index table.raw_entries k
  pub long : length table'.raw_entries ≡ length table.raw_entries
  pub layout : table'.layout ≡ table.layout
  pub placed : table'.cluster ≡ table.cluster

refused-named : (table : TableValue) (i d : ℕ) (fault : Fault) → NamedAt table i d (Err fault) table
refused-named table i d fault = record { named = tt; others = λ k apart. refl; long = refl; layout = refl; placed = refl }

on-ok : (result : Result Unit Fault) (P : Type 0) → P → OnOk result P
on-ok (Ok done) P p = p
on-ok (Err fault) P p = tt

word-named : (table : TableValue) (i d bits : ℕ) (result : Result Unit Fault) (modified : Bool) → i < length table.raw_entries → 9 ≤ bits → d ≢ 0 → IsAddressable bits d → NamedAt table i d result (record (with_raw_entry table i (d * 2 ^ bits)) { modified = modified })
word-named table i d bits result modified inside low some reach = record {
  named = on-ok result _ (λ none. place-there (2 ^ bits) d (pow_pos bits) some (sym (ap block_offset (get_or-set_same table.raw_entries i (d * 2 ^ bits) 0 inside) ∙ block_named bits d low reach) ∙ none));
  others = λ k apart. get_or-set_other table.raw_entries i k (d * 2 ^ bits) 0 apart;
  long = length-set table.raw_entries i (d * 2 ^ bits);
  layout = refl;
  placed = refl;
}

-- The end of the call: the block is written and linked.
module _ {S : Type 0} (state : S → StorageState) (i d : ℕ) (counters : List ℕ) (sC : ImageState S) where
  abbrev pub B : Block
  B = block_of sC.file.header.fields.cluster_bits sC.file.header.fields.refcount_order counters (Some d) true

  abbrev mC : Metadata
  mC = metadata state sC

  -- The outcome of these two steps, which use the allocated clusters `taken`.
  pub record Ends (ready : Type 0) (taken : ℕ → ℕ) (result : Result Unit Fault) (table' : TableValue) (after : StorageState) : Type 0 where
    pub shape : after.shape ≡ (state sC.file.image).shape
    pub counts_not_fallen : CountsNotFallen (state sC.file.image) after
    pub faults : HadNoResourceError result → IsFaultless (state sC.file.image) after
    pub guest_unchanged : IsTrue (state sC.file.image).shape.keeps → ready → PreservesGuest (HadNoResourceError result) (λ _. 0) taken (state sC.file.image) mC after (record mC { file = bytes_of after.bytes; table = table' })
    pub raised : IsTrue (state sC.file.image).shape.keeps → IsSound mC → ready → HadNoResourceError result → OnlyIncremented mC (record mC { file = bytes_of after.bytes; table = table' })
    pub named : NamedAt sC.table i d result table'
    pub cause : MatchResult result (λ _. after.faults ≡ (state sC.file.image).faults) (Cause (state sC.file.image).faults after.faults)

  module _ (ready : Type 0) (taken : ℕ → ℕ) (inside : i < length sC.table.raw_entries) (low : 9 ≤ sC.file.header.fields.cluster_bits) (some : d ≢ 0) (reach : IsAddressable sC.file.header.fields.cluster_bits d)
      (written : ready → (mid : StorageState) (done : Result Unit Fault) → BlockPut B (d * cluster_size sC.file.header.fields) (state sC.file.image) mid done → PreservesGuest (done ≡ Ok tt) taken taken (state sC.file.image) mC mid (record mC { file = bytes_of mid.bytes }))
      (named : ready → (modified : Bool) (mid new : StorageState) (done : Result Unit Fault) → done ≡ Ok tt → BlockPut B (d * cluster_size sC.file.header.fields) (state sC.file.image) mid done → (result : Result Unit Fault)
      → AtomicWriteOutcome mid new (table_start (with_raw_entry sC.table i (d * cluster_size sC.file.header.fields)) + 8 * i) (to_be_bytes w64 (slice_index (with_raw_entry sC.table i (d * cluster_size sC.file.header.fields)).raw_entries i)) result
      → PreservesGuest (result ≡ Ok tt) (λ _. 0) taken (state sC.file.image) mC new (with_block mC i d modified (bytes_of new.bytes))
      × (IsTrue (state sC.file.image).shape.keeps → IsSound mC → result ≡ Ok tt → OnlyIncremented mC (with_block mC i d modified (bytes_of new.bytes)))) where
    stopped-end : (fault : Fault) (mid : StorageState) (done : Result Unit Fault) → done ≡ Err fault → BlockPut B (d * cluster_size sC.file.header.fields) (state sC.file.image) mid done → Ends ready taken (Err fault) sC.table mid
    stopped-end fault mid done is put =
        let cause = put-cause (state sC.file.image) mid (d * cluster_size sC.file.header.fields) put.bytes done put.put.put fault is in
        record {
          shape = put.put.put.shape;
          counts_not_fallen = put.put.put.counts_not_fallen;
          faults = λ not_resource_error. absurd (never-mild _ _ fault cause not_resource_error);
          guest_unchanged = λ keeps r. let q = written r mid done put in record { shape = q.shape; counts_not_fallen = q.counts_not_fallen; passes = q.passes; holds = λ k sound not_resource_error. absurd (never-mild _ _ fault cause not_resource_error) };
          raised = λ keeps sound r not_resource_error. absurd (never-mild _ _ fault cause not_resource_error);
          named = refused-named sC.table i d fault;
          cause = cause;
        }

    answer-caused : (result : Result Unit Fault) (old mid new : StorageState) (at : ℕ) (bytes : List ℕ) → mid.faults ≡ old.faults → WriteOutcome mid new at bytes result → MatchResult result (λ _. new.faults ≡ old.faults) (Cause old.faults new.faults)
    answer-caused (Ok done) old mid new at bytes same put = put.answer.faults ∙ same
    answer-caused (Err fault) old mid new at bytes same put = subst (λ n. Cause n new.faults fault) same put.answer.cause

    named-end : (modified : Bool) (mid new : StorageState) (done : Result Unit Fault) → done ≡ Ok tt → BlockPut B (d * cluster_size sC.file.header.fields) (state sC.file.image) mid done → (result : Result Unit Fault)
        → AtomicWriteOutcome mid new (table_start (with_raw_entry sC.table i (d * cluster_size sC.file.header.fields)) + 8 * i) (to_be_bytes w64 (slice_index (with_raw_entry sC.table i (d * cluster_size sC.file.header.fields)).raw_entries i)) result
        → Ends ready taken result (record (with_raw_entry sC.table i (d * cluster_size sC.file.header.fields)) { modified = modified }) new
    named-end modified mid new done is put result names =
        let end = λ (whole : HadNoResourceError result). put-done mid new _ _ result names.put whole in
        record {
          shape = names.put.shape ∙ put.put.put.shape;
          counts_not_fallen = later_both (state sC.file.image) mid new put.put.put.counts_not_fallen names.put.counts_not_fallen;
          faults = λ whole. faultless-then (put-faultless (state sC.file.image) mid (d * cluster_size sC.file.header.fields) put.bytes done put.put.put (subst (λ (r : Result Unit Fault). HadNoResourceError r) (sym is) tt)) (put-faultless mid new _ _ result names.put whole);
          guest_unchanged = λ keeps r. quietly-weaker (result ≡ Ok tt) (HadNoResourceError result) (λ _. 0) taken (state sC.file.image) mC new (with_block mC i d modified (bytes_of new.bytes)) (λ sound whole. end whole) (named r modified mid new done is put result names).0;
          raised = λ keeps sound r whole. (named r modified mid new done is put result names).1 keeps sound (end whole);
          named = word-named sC.table i d sC.file.header.fields.cluster_bits result modified inside low some reach;
          cause = answer-caused result (state sC.file.image) mid new _ _ (put-faults (state sC.file.image) mid _ _ done put.put.put is) names.put;
        }

    pub ends : (result : Result Unit Fault) (table' : TableValue) (after : StorageState) → LinksWritten sC.table i B (state sC.file.image) result table' after → Ends ready taken result table' after
    ends result table' after n = by-done n.done refl
      where
        by-done : (done : Result Unit Fault) → n.done ≡ done → Ends ready taken result table' after
        by-done (Err fault) is =
            let all = n.stopped fault is in
            subst (λ (r : Result Unit Fault). Ends ready taken r table' after) (sym all.0)
            (subst (λ (t : TableValue). Ends ready taken (Err fault) t after) (sym all.2)
            (subst (λ (s : StorageState). Ends ready taken (Err fault) sC.table s) (sym all.1) (stopped-end fault n.mid n.done is n.put)))
        by-done (Ok done) is =
            let all = n.named is in
            subst (λ (t : TableValue). Ends ready taken result t after) (sym all.1.1) (named-end all.1.0 n.mid after n.done is n.put result all.0)

-- Each cause of a step (a free, a search, an increment, an allocation) is a cause of the whole allocation.
pub freeing-allocates : {sound sound' loose : Type 0} {loose' : Bool → Type 0} {full : ℕ → Type 0} {a b c : ℕ} → (sound' → sound) → (IsUnbarred sound' loose' → loose) → b ≡ a → Implies (freeing_causes sound loose b c) (allocating_causes sound' loose' full a c)
freeing-allocates from from' same = record { before = omega (arith, same); after = omega arith; damaged = λ wrong s. wrong (from s); counter = λ wrong s. wrong (from s); full = λ none u. none (from' u); limit = λ number. absurd }

pub counting-allocates : {sound sound' : Type 0} {loose loose' : Bool → Type 0} {full : ℕ → Type 0} {a b c : ℕ} → (sound' → sound) → ((any : Bool) → loose' any → loose any) → b ≡ a → Implies (counting_causes sound loose b c) (allocating_causes sound' loose' full a c)
counting-allocates from from' same = freeing-allocates from (unbarred-still from from') same

pub allocating-weaker : {sound sound' : Type 0} {loose loose' : Bool → Type 0} {full full' : ℕ → Type 0} {a b c : ℕ} → (sound' → sound) → ((any : Bool) → loose' any → loose any) → ((number : ℕ) → full number → full' number) → b ≡ a
    → Implies (allocating_causes sound loose full b c) (allocating_causes sound' loose' full' a c)
allocating-weaker from from' on same = record { before = omega (arith, same); after = omega arith; damaged = λ wrong s. wrong (from s); counter = λ wrong s. wrong (from s); full = λ none u. none (unbarred-still from from' u); limit = λ number why. (on number why.0, why.1 ∙ same) }

module _ {S : Type 0} (state : S → StorageState) (i : ℕ) (image : ImageState S) where
  abbrev m0 : Metadata
  m0 = metadata state image

  abbrev pub Holds : Type 0
  Holds = IsGuarded state image

  abbrev pub Full : ℕ → Type 0
  Full number = (number ≤ i * counters_of_block image.file.header.fields) × (IsAddressable image.file.header.fields.cluster_bits number → ⊥)

  pub begins-none : Begins state image (λ _. 0) image
  begins-none = record {
    shape = refl;
    counts_not_fallen = later_same (state image.file.image);
    guest_unchanged = λ order. memory-quietly ⊤ (λ _. 0) (λ _. 0) (state image.file.image) m0 m0 (λ sound done. (sound, quiet-none m0 sound));
    raised = λ order keeps sound c. inl refl;
    faults = (refl, refl);
    header = refl;
    order = refl;
    keeps_unpinned_room = λ any loose. loose;
    room = record { tables = refl; blocks = refl; entries = refl };
  }

  -- The outcome of the next step, which allocates `more` clusters.
  pub record Follows (ok : Type 0) (more : ℕ → ℕ) (C : MetadataCaches S) (fC : ImageFile S) (D : MetadataCaches S) (fD : ImageFile S) : Type 0 where
    pub shape : (state fD.image).shape ≡ (state fC.image).shape
    pub counts_not_fallen : CountsNotFallen (state fC.image) (state fD.image)
    pub faults : ok → IsFaultless (state fC.image) (state fD.image)
    pub guest_unchanged : order_of image.caches ≡ L2DependsOnRb → IsTrue (state image.file.image).shape.keeps → IsSound m0 → IsSound (metadata_of state fC C image.table image.pending)
        → PreservesGuest ok more (λ _. 0) (state fC.image) (metadata_of state fC C image.table image.pending) (state fD.image) (metadata_of state fD D image.table image.pending)
    pub raised : order_of image.caches ≡ L2DependsOnRb → IsTrue (state image.file.image).shape.keeps → IsSound m0 → IsSound (metadata_of state fC C image.table image.pending) → ok → OnlyIncremented (metadata_of state fC C image.table image.pending) (metadata_of state fD D image.table image.pending)
    pub stays : StaysLoose image.table C fC D fD

  module _ (handed more : ℕ → ℕ) (C : MetadataCaches S) (fC : ImageFile S) (D : MetadataCaches S) (fD : ImageFile S) (begins : Begins state image handed (image_state image.table C fC image.pending)) where
    abbrev mB : Metadata
    mB = metadata_of state fC C image.table image.pending

    abbrev mD : Metadata
    mD = metadata_of state fD D image.table image.pending

    both-quietly : (ok : Type 0) → Follows ok more C fC D fD → order_of image.caches ≡ L2DependsOnRb → PreservesGuest ok (λ c. handed c + more c) (λ _. 0 + 0) (state image.file.image) m0 (state fD.image) mD
    both-quietly ok follows order =
        quietly-given ok (λ c. handed c + more c) (λ _. 0 + 0) (state image.file.image) m0 (state fD.image) mD (follows.shape ∙ begins.shape) (later_both _ _ _ begins.counts_not_fallen follows.counts_not_fallen)
        (λ keeps sound. quietly-then-given ⊤ ok handed (λ _. 0) more (λ _. 0) (state image.file.image) m0 (state fC.image) mB (state fD.image) mD tt (λ s c some. refl) (begins.guest_unchanged order) follows.shape follows.counts_not_fallen
        (λ k s s1 guest_unchanged. follows.guest_unchanged order keeps s s1))

    both-raised : (ok : Type 0) → Follows ok more C fC D fD → order_of image.caches ≡ L2DependsOnRb → IsTrue (state image.file.image).shape.keeps → IsSound m0 → ok → OnlyIncremented m0 mD
    both-raised ok follows order keeps sound done =
        raised-then m0 mB mD (begins.raised order keeps sound) (follows.raised order keeps sound ((begins.guest_unchanged order).holds keeps sound tt).0 done)

    pub begins-then : (all : ℕ → ℕ) → ((c : ℕ) → handed c + more c ≡ all c) → Follows ⊤ more C fC D fD → Begins state image all (image_state image.table D fD image.pending)
    begins-then all sum follows = record {
      shape = follows.shape ∙ begins.shape;
      counts_not_fallen = later_both _ _ _ begins.counts_not_fallen follows.counts_not_fallen;
      guest_unchanged = λ order. quietly-otherwise ⊤ (λ c. handed c + more c) (λ _. 0 + 0) all (λ _. 0) (state image.file.image) m0 (state fD.image) mD (λ s c. let is = sum c in omega (arith, is)) (λ s c used none. omega arith) (both-quietly ⊤ follows order);
      raised = λ order keeps sound. both-raised ⊤ follows order keeps sound tt;
      faults = faultless-then begins.faults (follows.faults tt);
      header = follows.stays.header ∙ begins.header;
      order = follows.stays.order ∙ begins.order;
      keeps_unpinned_room = λ any loose. follows.stays.loose any (begins.keeps_unpinned_room any loose);
      room = record { tables = follows.stays.room.tables ∙ begins.room.tables; blocks = follows.stays.room.blocks ∙ begins.room.blocks; entries = follows.stays.room.entries ∙ begins.room.entries };
    }

    -- The next step fails. If that isn't a resource error, nothing is allocated.
    pub begins-refused : (fault : Fault) → Follows (HadNoResourceError (failed fault)) more C fC D fD
        → (order_of image.caches ≡ L2DependsOnRb → IsTrue (state image.file.image).shape.keeps → IsSound m0 → HadNoResourceError (failed fault) → (c : ℕ) → handed c + more c ≡ 0)
        → HasCause (allocating_causes Holds (HasUnpinnedRoom image.table image.caches) Full (state image.file.image).faults (state fD.image).faults) fault → MakesBlock state i image (Err fault) (image_state image.table D fD image.pending)
    begins-refused fault follows none why = record {
      step = record {
        faults = λ whole. faultless-then begins.faults (follows.faults whole);
        guest_unchanged = λ order.
            let q = both-quietly (HadNoResourceError (failed fault)) follows order in
            record {
              shape = q.shape;
              counts_not_fallen = q.counts_not_fallen;
              passes = q.passes;
              holds = λ keeps sound whole.
                  let all = q.holds keeps sound whole in
                  (all.0, quiet-otherwise m0 mD (λ c. handed c + more c) (λ _. 0 + 0) (λ _. 0) (λ _. 0) (λ c. let zero = none order keeps sound whole c in omega (arith, zero)) (λ c used zero. omega arith) all.1);
            };
        raised = λ order keeps sound whole. both-raised (HadNoResourceError (failed fault)) follows order keeps sound whole;
        order = follows.stays.order ∙ begins.order;
        moved = moved-none image.file.header fD.header (follows.stays.header ∙ begins.header);
        longer = omega arith;
        keeps_unpinned_room = λ any loose. follows.stays.loose any (begins.keeps_unpinned_room any loose);
        room = record { tables = follows.stays.room.tables ∙ begins.room.tables; blocks = follows.stays.room.blocks ∙ begins.room.blocks; entries = follows.stays.room.entries ∙ begins.room.entries };
      };
      named = tt;
      others = λ k apart. refl;
      long = refl;
      layout = refl;
      placed = refl;
      header = follows.stays.header ∙ begins.header;
      cause = why;
    }

  -- A failure before anything is allocated changes nothing more.
  module _ (C : MetadataCaches S) (fC : ImageFile S) (begins : Begins state image (λ _. 0) (image_state image.table C fC image.pending)) where
    abbrev mU : Metadata
    mU = metadata_of state fC C image.table image.pending

    pub unmade : (fault : Fault) → HasCause (allocating_causes Holds (HasUnpinnedRoom image.table image.caches) Full (state image.file.image).faults (state image.file.image).faults) fault → MakesBlock state i image (Err fault) (image_state image.table C fC image.pending)
    unmade fault why =
        begins-refused (λ _. 0) (λ _. 0) C fC C fC begins fault
        (record {
          shape = refl;
          counts_not_fallen = later_same (state fC.image);
          faults = λ whole. (refl, refl);
          guest_unchanged = λ order keeps sound s. memory-quietly (HadNoResourceError (failed fault)) (λ _. 0) (λ _. 0) (state fC.image) mU mU (λ s' whole. (s', quiet-none mU s'));
          raised = λ order keeps sound s whole c. inl refl;
          stays = record { header = refl; order = refl; loose = λ any loose. loose; room = record { tables = refl; blocks = refl; entries = refl } };
        })
        (λ order keeps sound whole c. omega arith)
        (subst (λ n. HasCause (allocating_causes Holds (HasUnpinnedRoom image.table image.caches) Full (state image.file.image).faults n) fault) (sym begins.faults.0) why)

    pub unmade-memory : (fault : Fault) → fault ≡ Memory → MakesBlock state i image (Err fault) (image_state image.table C fC image.pending)
    unmade-memory fault is = unmade fault (subst (λ (f : Fault). HasCause (allocating_causes Holds (HasUnpinnedRoom image.table image.caches) Full (state image.file.image).faults (state image.file.image).faults) f) (sym is) tt)

    -- No table entry can reference the cluster.
    pub unmade-place : (d : ℕ) (fault : Fault) → d ≤ i * counters_of_block fC.header.fields → (Holds → d ≢ 0) → HasCause (naming_causes image.table fC.header.fields.cluster_bits d) fault → MakesBlock state i image (Err fault) (image_state image.table C fC image.pending)
    unmade-place d fault low some why = unmade fault (bare-weaker _ (λ cannot holds. cannot (can-name mU ((begins.guest_unchanged holds.1).holds holds.0 holds.2 tt).0 d (some holds)))
        (λ number far. (
          subst (λ (h : Header). (number ≤ i * counters_of_block h.fields) × (IsAddressable h.fields.cluster_bits number → ⊥)) begins.header
              (let is = far.1 in omega (arith, is, low), λ near. far.0 (subst (λ n. IsAddressable fC.header.fields.cluster_bits n) far.1 near)),
          refl,
        )) fault why)

    -- A block is pinned at a cluster that nothing references.
    pub unforgotten : (d : ℕ) (fault : Fault) (new : MetadataCaches S) → (Holds → referenced_at_all mU d ≡ 0) → (fault ≡ CacheFull) × IsSomeAnd (lookup (nat_eq d) (cached_in C).blocks) (λ s. 0 < s.pins) × (new ≡ C) → MakesBlock state i image (Err fault) (image_state image.table new fC image.pending)
    unforgotten d fault new not_referenced (is, pinned, same) =
        subst (λ (c : MetadataCaches S). MakesBlock state i image (Err fault) (image_state image.table c fC image.pending)) (sym same)
        (unmade fault (subst (λ (f : Fault). HasCause (allocating_causes Holds (HasUnpinnedRoom image.table image.caches) Full (state image.file.image).faults (state image.file.image).faults) f) (sym is)
        (λ u. let there = (begins.keeps_unpinned_room u.0 u.2).named d (pinned-there d (cached_in C).blocks pinned) in let holds = u.1 there.0 in
        never-unnamed mU ((begins.guest_unchanged holds.1).holds holds.0 holds.2 tt).0 d (not_referenced holds) there.1)))

  -- If the rest of the call makes the block, so does the whole call.
  pub begins-makes : (C : MetadataCaches S) (fC : ImageFile S) → Begins state image (λ _. 0) (image_state image.table C fC image.pending) → (result : Result Unit Fault) (table' : TableValue) (new : MetadataCaches S) (after : ImageFile S)
      → MakesBlock state i (image_state image.table C fC image.pending) result (image_state table' new after image.pending) → MakesBlock state i image result (image_state table' new after image.pending)
  begins-makes C fC begins result table' new after makes = record {
    step = allocating-then state ⊤ (HadNoResourceError result) (λ _. 0) (λ _. 0) image (image_state image.table C fC image.pending) (image_state table' new after image.pending) tt begun makes.step;
    named = makes.named;
    others = makes.others;
    long = makes.long;
    layout = makes.layout;
    placed = makes.placed;
    header = makes.header ∙ begins.header;
    cause = fails-weaker _ _ (allocating-weaker (λ holds. (keeps_on (state image.file.image) (state fC.image) begins.shape holds.0, begins.order ∙ holds.1, ((begins.guest_unchanged holds.1).holds holds.0 holds.2 tt).0)) begins.keeps_unpinned_room
        (λ number full. subst (λ (h : Header). (number ≤ i * counters_of_block h.fields) × (IsAddressable h.fields.cluster_bits number → ⊥)) begins.header full) begins.faults.0) (λ same. same ∙ begins.faults.0) result makes.cause;
  }
    where
      begun : Allocating state ⊤ (λ _. 0) image (image_state image.table C fC image.pending)
      begun = record {
        faults = λ done. begins.faults;
        guest_unchanged = begins.guest_unchanged;
        raised = λ order keeps sound done. begins.raised order keeps sound;
        order = begins.order;
        moved = moved-none image.file.header fC.header begins.header;
        longer = omega arith;
        keeps_unpinned_room = begins.keeps_unpinned_room;
        room = begins.room;
      }

  -- The beginning of the call, followed by its end.
  module _ (both : ℕ → ℕ) (ready : Type 0) (d : ℕ) (counters : List ℕ) (C : MetadataCaches S) (fC : ImageFile S) (begins : Begins state image both (image_state image.table C fC image.pending))
      (unused : order_of image.caches ≡ L2DependsOnRb → IsTrue (state image.file.image).shape.keeps → IsSound m0 → (c : ℕ) → IsUsed m0 c → both c ≡ 0)
      (from : order_of image.caches ≡ L2DependsOnRb → IsTrue (state image.file.image).shape.keeps → IsSound m0 → IsSound (metadata_of state fC C image.table image.pending) → ready) where
    abbrev m1 : Metadata
    m1 = metadata_of state fC C image.table image.pending

    pub made : block_offset (slice_index image.table.raw_entries i) ≡ 0 → (result : Result Unit Fault) (table' : TableValue) (after : ImageFile S) → after.header ≡ fC.header → Ends state i d counters (image_state image.table C fC image.pending) ready both result table' (state after.image)
        → MakesBlock state i image result (image_state table' C after image.pending)
    made empty result table' after header ends = record {
      step = record {
        faults = λ whole. faultless-then begins.faults (ends.faults whole);
        guest_unchanged = λ order.
            quietly-given (HadNoResourceError result) (λ _. 0) (λ _. 0) (state image.file.image) m0 (state after.image) (metadata_of state after C table' image.pending) (ends.shape ∙ begins.shape) (later_both _ _ _ begins.counts_not_fallen ends.counts_not_fallen) (λ keeps sound.
            quietly-otherwise (HadNoResourceError result) (λ c. both c + 0) (λ c. 0 + both c) (λ _. 0) (λ _. 0) (state image.file.image) m0 (state after.image) (metadata_of state after C table' image.pending) (λ s c. omega arith)
            (λ s c used none. let no = unused order keeps s c used in omega (arith, no))
            (there (λ m. PreservesGuest (HadNoResourceError result) (λ c. both c + 0) (λ c. 0 + both c) (state image.file.image) m0 (state after.image) m)
            (quietly-then-given ⊤ (HadNoResourceError result) both (λ _. 0) (λ _. 0) both (state image.file.image) m0 (state fC.image) m1 (state after.image) (ended m1.header) tt (λ s c some. refl) (begins.guest_unchanged order) ends.shape ends.counts_not_fallen
            (λ k s s1 guest_unchanged. ends.guest_unchanged (on keeps) (from order keeps s s1)))));
        raised = λ order keeps sound whole.
            let s1 = ((begins.guest_unchanged order).holds keeps sound tt).0 in
            there (λ m. OnlyIncremented m0 m) (raised-then m0 m1 (ended m1.header) (begins.raised order keeps sound) (ends.raised (on keeps) s1 (from order keeps sound s1) whole));
        order = begins.order;
        moved = moved-none image.file.header after.header (header ∙ begins.header);
        longer = let long = ends.named.long in omega (arith, long);
        keeps_unpinned_room = λ any loose. loose-named image.table table' C kept any (begins.keeps_unpinned_room any loose);
        room = begins.room;
      };
      named = ends.named.named;
      others = ends.named.others;
      long = ends.named.long;
      layout = ends.named.layout;
      placed = ends.named.placed;
      header = header ∙ begins.header;
      cause = let same = begins.faults.0 in storage-fails _ _ _ (omega (arith, same)) (omega arith) (λ has_no_dirty_data. has_no_dirty_data ∙ same) result ends.cause;
    }
      where
        kept : (k key : ℕ) → referenced_block image.table k ≡ Some key → referenced_block table' k ≡ Some key
        kept k key = name-kept image.table table' k key (ap (λ (l : Layout). l.cluster_bits) ends.named.layout) (λ some. ap block_offset (ends.named.others k (λ here. some (subst (λ n. block_offset (slice_index image.table.raw_entries n) ≡ 0) (sym here) empty))))

        ended : Header → Metadata
        ended h = record { file = bytes_of (state after.image).bytes; header = h; cached = cached_in C; order = order_of C; table = table'; pending = image.pending }

        there : (P : Metadata → Type 0) → P (ended fC.header) → P (metadata_of state after C table' image.pending)
        there P p = subst (λ (h : Header). P (ended h)) (sym header) p

        on : IsTrue (state image.file.image).shape.keeps → IsTrue (state fC.image).shape.keeps
        on keeps = keeps_on (state image.file.image) (state fC.image) begins.shape keeps
