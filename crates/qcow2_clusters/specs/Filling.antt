-- Specifies how the data of a guest cluster is written to its preallocated zero cluster.
use Rattle.std.specs.Prelude.{◌≡◌, ◌+◌, ◌*◌, ◌<◌, ℕ, List, length, slice_index, Result, OnOk, IfErr, IsTrue}
use Rattle.imago_storage.specs.State.{StorageState}
use Rattle.imago_storage.specs.Calls.{Cause}
use Rattle.imago_storage.specs.Steps.{IsIn}
use Rattle.imago_storage.specs.declared.fault.Fault.{Fault}
use Rattle.qcow2_types.specs.Header.{Fields, cluster_size}
use Rattle.qcow2_alloc.specs.declared.cache.MetadataCaches.{MetadataCaches}
use Rattle.qcow2_alloc.specs.declared.file.ImageFile.{ImageFile}
use Rattle.qcow2_alloc.specs.Going.{HadNoResourceError}
use Rattle.qcow2_steps.specs.Data.{IsKeptFor}
use Rattle.qcow2_clusters.specs.Progress.{Kind, Progresses}
use Rattle.qcow2_clusters.specs.Flushed.{AreEmpty, Clusters, IsReady, KeepsL1, clusters_state, flushed_metadata, storage}
use Rattle.qcow2_clusters.specs.Storing.{Rests}
use Rattle.qcow2_clusters.specs.declared.space.Space.{Space}
use Rattle.qcow2_clusters.specs.Room.{KeepsNoneFreeBefore}

-- Only bytes of this cluster are written: nothing is allocated, taken or set.
abbrev pub filling : Fields → ℕ → Kind
filling h x = record {
  gives = λ p v. ⊥;
  written = IsIn (x * cluster_size h) (cluster_size h);
  set = λ guest. ⊥;
  excess_added = λ c. 0;
  taken = λ c. 0;
}

-- The data is written to the preallocated zero cluster, which keeps its COPIED entry. The guest reads the same bytes as
-- before.
pub record Fills {S : Type 0} (state : S → StorageState) (guest x : ℕ) (content : List ℕ) (c : Clusters S) (result : Result Unit Fault)
    (c' : Clusters S) : Type 0 where
  pub progress : IsKeptFor (flushed_metadata state c) guest x → Progresses (HadNoResourceError result) (filling c.file.header.fields x) (storage state c)
      (flushed_metadata state c) (storage state c') (flushed_metadata state c')
  pub rests : Rests state c result c'
  pub header : c'.file.header ≡ c.file.header
  pub l1 : IsKeptFor (flushed_metadata state c) guest x → KeepsL1 state c result c'
  pub marked : IsKeptFor (flushed_metadata state c) guest x → KeepsNoneFreeBefore state c result c'
  pub stays_kept : IsReady state c → IsKeptFor (flushed_metadata state c) guest x → OnOk result (IsKeptFor (flushed_metadata state c') guest x)
  pub stored : IsTrue (storage state c).shape.keeps → OnOk result ((i : ℕ) → i < length content
      → (flushed_metadata state c').file (x * cluster_size c.file.header.fields + i) ≡ slice_index content i)
  pub cause : IfErr result (Cause (storage state c).faults (storage state c').faults)

-- Like `Fills`, for an image file with empty caches and any free space.
abbrev pub FillsFile : {S : Type 0} → (S → StorageState) → (x : ℕ) → List ℕ → ImageFile S → Result Unit Fault → ImageFile S → Type 0
FillsFile {S} state x content before result after = (guest : ℕ) (caches : MetadataCaches S) (space : Space) → AreEmpty caches
    → Fills state guest x content (clusters_state before caches space) result (clusters_state after caches space)
