-- Counting one cluster for an allocation.
use Rattle.std.proofs.Common.{false, ◌≡◌, ◌≢◌, ℕ, refl, arith, subst, Option, Some, Result, Ok, Err}
use Rattle.imago_storage.specs.State.{StorageState}
use Rattle.imago_storage.specs.declared.fault.Fault.{Fault}
use Rattle.imago_storage.specs.declared.fault.Fault.TheVariants.{DamagedTable}
use Rattle.imago_storage.proofs.Composing.{later_same}
use Rattle.qcow2_types.specs.Pending.{FreeEntry}
use Rattle.qcow2_alloc.specs.declared.cache.MetadataCaches.{MetadataCaches}
use Rattle.qcow2_alloc.specs.declared.file.ImageFile.{ImageFile}
use Rattle.qcow2_alloc.specs.Allocating.{IncrementsCluster}
use Rattle.qcow2_alloc.specs.Caches.{cached_file}
use Rattle.qcow2_alloc.specs.Causes.{HasCause}
use Rattle.qcow2_alloc.specs.Freeing.{HasUnpinnedRoom, counting_causes}
use Rattle.qcow2_alloc.specs.FreeList.{covers}
use Rattle.qcow2_alloc.specs.HandingOutOne.{CountsOne}
use Rattle.qcow2_alloc.specs.MakingRoom.{run_of}
use Rattle.qcow2_alloc.specs.GuestView.{Metadata, IsSound, counted}
use Rattle.qcow2_alloc.specs.State.{ImageState, image_state, metadata}
use Rattle.qcow2_alloc.proofs.Blocks.ClusterCounts.{one-counted}
use Rattle.qcow2_alloc.proofs.Freeing.ClusterOccurrences.{covers-none}
use Rattle.qcow2_alloc.proofs.Blocks.BlockCreationCalls.{first-counted}
use Rattle.qcow2_alloc.proofs.GuestView.QuietFlushes.{memory-quietly, quiet-none}
use Rattle.qcow2_alloc.proofs.GuestView.QuietSequences.{quietly-otherwise}

abbrev pub handed_so : Option FreeEntry → Result (Option FreeEntry) Fault
handed_so found = Ok found

abbrev pub not_handed : Fault → Result (Option FreeEntry) Fault
not_handed fault = Err fault

module _ {S : Type 0} (state : S → StorageState) (s : ImageState S) (c : ℕ) where
  abbrev Old : Metadata
  Old = metadata state s

  -- Nothing was counted, for a reason that contradicts `IsSound` if the refcount is 0.
  uncounted : (fault : Fault) → ((sound : Type 0) → (sound → IsSound Old × (counted Old c ≡ 0)) → HasCause (counting_causes sound (HasUnpinnedRoom s.table s.caches) (state s.file.image).faults (state s.file.image).faults) fault)
      → CountsOne state c s (not_handed fault) s
  uncounted fault why = record {
    counts = record {
      part = 0;
      inside = omega arith;
      whole = tt;
      shape = refl;
      counts_not_fallen = later_same (state s.file.image);
      faults = λ whole. (refl, refl);
      guest_unchanged = λ order free. quietly-otherwise _ (λ _. 0) (λ _. 0) (λ d. covers d (run_of c 0)) (λ _. 0) (state s.file.image) Old (state s.file.image) Old (λ sound d. let zero = covers-none d (run_of c 0) refl in omega (arith, zero)) (λ sound d used none. omega arith)
          (memory-quietly _ (λ _. 0) (λ _. 0) (state s.file.image) Old Old (λ sound whole. (sound, quiet-none Old sound)));
      raised = λ order keeps sound free whole d. let zero = covers-none d (run_of c 0) refl in omega (arith, zero);
      order = refl;
      header = refl;
      keeps_unpinned_room = λ any loose. loose;
      room = record { tables = refl; blocks = refl; entries = refl };
      cause = why _ (λ holds. (holds.2, (holds.3 c (omega arith) (omega arith)).0));
    };
    exact = refl;
    entry = tt;
    cluster_nonzero = tt;
  }

  -- Cluster 0 is the header's, so its refcount isn't 0.
  pub first-uncounted : c ≡ 0 → CountsOne state c s (not_handed DamagedTable) s
  first-uncounted first = uncounted DamagedTable (λ sound from holds. let both = from holds in let some = first-counted Old both.0 in let zero = subst (λ n. counted Old n ≡ 0) first both.1 in omega (arith, some, zero))

  pub raised-one : (new : MetadataCaches S) (after : ImageFile S) → c ≢ 0 → (found : Option FreeEntry) → found ≡ Some (record { first = c; count = 1; metadata = false }) → IncrementsCluster state s.table c (cached_file s.caches s.file) (Ok tt) (cached_file new after)
      → CountsOne state c s (handed_so found) (image_state s.table new after s.pending)
  raised-one new after some found is raises =
      let one = one-counted state s.table s.pending c s.caches s.file (Ok tt) new after raises in
      record { counts = one.0; exact = tt; entry = is; cluster_nonzero = some }

  pub unraised-one : (new : MetadataCaches S) (after : ImageFile S) (fault : Fault) → IncrementsCluster state s.table c (cached_file s.caches s.file) (Err fault) (cached_file new after) → CountsOne state c s (not_handed fault) (image_state s.table new after s.pending)
  unraised-one new after fault raises =
      let one = one-counted state s.table s.pending c s.caches s.file (Err fault) new after raises in
      record { counts = one.0; exact = one.1; entry = tt; cluster_nonzero = tt }
