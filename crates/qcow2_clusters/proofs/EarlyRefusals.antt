-- Calls that fail before they have begun.
use Rattle.std.proofs.Common.{◌≡◌, ℕ, Bool, refl, sym, subst, ◌∙◌, Err}
use Rattle.imago_storage.specs.State.{StorageState}
use Rattle.imago_storage.specs.Calls.{UnchangedButFaults}
use Rattle.imago_storage.specs.declared.fault.Fault.{Fault}
use Rattle.qcow2_metadata.specs.Tables.{TableValue}
use Rattle.qcow2_alloc.specs.declared.allocation.Allocator.{Allocator}
use Rattle.qcow2_alloc.specs.declared.cache.MetadataCaches.{MetadataCaches}
use Rattle.qcow2_alloc.specs.declared.file.ImageFile.{ImageFile}
use Rattle.qcow2_alloc.specs.FreeList.{FreeList}
use Rattle.qcow2_alloc.specs.Memory.{Cached}
use Rattle.qcow2_alloc.specs.ReadyingRuns as runs
use Rattle.qcow2_alloc.specs.WellFormedness.{AreBlocksClean, AreTablesClean}
use Rattle.qcow2_alloc.specs.State.{seen}
use Rattle.qcow2_alloc.proofs.Flushing.WriteSequences.{kept-same}
use Rattle.qcow2_alloc.proofs.Searching.SearchSequences.{kept-then}
use Rattle.qcow2_clusters.specs.MakingTables.{HasEntriesOf}
use Rattle.qcow2_clusters.specs.Flushed.{AreEmpty, Clusters, clusters_state, storage}
use Rattle.qcow2_clusters.specs.LeftUntouched.{IsLeftUntouched, LeavesUntouched, LeavesUnsettledUntouched}

module _ {S : Type 0} (state : S → StorageState) where
  -- Nothing was done.
  pub nothing-begun : {T : Type 0} (was : Bool) (c : Clusters S) (e : Fault) → LeavesUntouched {T = T} state was c (Err e) was c
  nothing-begun {T} was c e = λ not. record {
    unbegun = not;
    refused = tt;
    unchanged_but_faults = kept-same (storage state c);
    header = refl;
    space = refl;
  }

  -- Only steps were done that change no byte.
  pub spared-behind : {T : Type 0} (was now : Bool) (old mid new : Clusters S) (e : Fault) → UnchangedButFaults (storage state old) (storage state mid)
      → mid.file.header ≡ old.file.header → mid.space ≡ old.space → IsLeftUntouched {T = T} state was mid (Err e) new
      → IsLeftUntouched {T = T} state was old (Err e) new
  spared-behind {T} was now old mid new e kept header space spared = record {
    unbegun = spared.unbegun;
    refused = tt;
    unchanged_but_faults = kept-then (storage state old) (storage state mid) (storage state new) kept spared.unchanged_but_faults;
    header = spared.header ∙ header;
    space = spared.space ∙ space;
  }

  -- No clusters were allocated.
  pub run-spared : (was now : Bool) (c : Clusters S) (e : Fault) (allocator : Allocator) (caches : MetadataCaches S) (file : ImageFile S)
      (list : FreeList) → AreEmpty c.caches
      → runs.LeavesUntouched state was now c.space.allocator (seen c.space.allocator c.caches c.file c.space.to_free) allocator
      (seen allocator caches file list)
      → list.held ≡ c.space.to_free.held
      → LeavesUnsettledUntouched {T = ℕ} state was c (Err e) now (clusters_state file caches (record { allocator = allocator; to_free = list }))
  run-spared was now c e allocator caches file list empty untouched_unless_begun held = λ not.
      let s = untouched_unless_begun not in
      let clean = s.4 (subst (λ (d : Cached). AreTablesClean d) (sym empty) tt) (subst (λ (d : Cached). AreBlocksClean d) (sym empty) tt) in (
        record {
          unbegun = s.0;
          refused = tt;
          unchanged_but_faults = clean.unchanged_but_faults;
          header = s.3;
          space = λ i. record { allocator = s.1 i; to_free = record { entries = s.2 i; held = held i } };
        },
        clean.tables,
        clean.blocks,
      )

-- The table is unchanged.
pub words-same : (top : TableValue) → HasEntriesOf top top
words-same top = record { layout = refl; raw_entries = refl }
