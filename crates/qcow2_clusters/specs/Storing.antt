-- Specifies how data is stored in newly allocated clusters, which no table references yet.
use Rattle.std.specs.Prelude.{◌≡◌, ◌≢◌, ◌+◌, ◌-◌, ◌*◌, ◌<◌, ◌≤◌, ℕ, List, length, replicate, slice_index, Result, Ok, Err, IfOk, IfErr, IsTrue, OnOk}
use Rattle.imago_storage.specs.State.{StorageState}
use Rattle.imago_storage.specs.Calls.{IsFaultless, CountsNotFallen}
use Rattle.imago_storage.specs.Through.{WriteOutcome}
use Rattle.imago_storage.specs.declared.fault.Fault.{Fault}
use Rattle.qcow2_types.specs.Header.{cluster_size}
use Rattle.qcow2_metadata.specs.Places.{IsAddressable}
use Rattle.qcow2_alloc.specs.declared.file.ImageFile.{ImageFile}
use Rattle.qcow2_alloc.specs.Allocating.{MovedTable}
use Rattle.qcow2_alloc.specs.Caches.{HasRoomOf}
use Rattle.qcow2_alloc.specs.Causes.{HasCause, Causes}
use Rattle.qcow2_alloc.specs.Crowding.{room_for}
use Rattle.qcow2_alloc.specs.FreeList.{covers}
use Rattle.qcow2_alloc.specs.Going.{HadNoResourceError}
use Rattle.qcow2_alloc.specs.MakingRoom.{run_of}
use Rattle.qcow2_alloc.specs.GuestView.{IsUsed, Metadata, PreservesGuest, one_at}
use Rattle.qcow2_alloc.specs.Freeing.{NoneFreeBefore}
use Rattle.qcow2_steps.specs.Words.{IsReserved}
use Rattle.qcow2_clusters.specs.Progress.{Progresses, handing}
use Rattle.qcow2_clusters.specs.Flushed.{Clusters, AreEmpty, IsReady, KeepsL1, changed, flushed_metadata, storage}
use Rattle.qcow2_clusters.specs.Room.{IsFull, KeepsNoneFreeBefore, LeavesRoom, first_free_in}
use Rattle.qcow2_clusters.specs.WritingBack.{AreUnpinned}

-- The faults of a call that allocates, in addition to resource errors. If the image is ready, `full` gives the number of
-- a limit, and there are no damaged tables and no refcounts that can't change.
abbrev pub storing_causes : (ready : Type 0) → (full : ℕ → Type 0) → (before after : ℕ) → Causes
storing_causes ready full before after = record {
  damaged = ready → ⊥;
  counter = ready → ⊥;
  full = ⊥;
  limit = λ number. ready → full number;
  before = before;
  after = after;
}

-- The cluster that a call newly allocates, from its result.
abbrev pub handed_by : Result ℕ Fault → ℕ → ℕ
handed_by (Ok cluster) c = one_at cluster c
handed_by (Err fault) c = 0

-- The number of reserved slots after the call: one more on success.
abbrev pub held_by : Result ℕ Fault → ℕ → ℕ
held_by (Ok cluster) held = held + 1
held_by (Err fault) held = held

-- The outcome of every call that starts and ends with empty caches.
pub record Rests {S T : Type 0} (state : S → StorageState) (c : Clusters S) (result : Result T Fault) (c' : Clusters S) : Type 0 where
  pub empty : AreEmpty c'.caches
  pub room : HasRoomOf c.caches c'.caches
  pub header : MovedTable c.file.header c'.file.header
  pub shape : (storage state c').shape ≡ (storage state c).shape
  pub counts_not_fallen : CountsNotFallen (storage state c) (storage state c')
  pub faults : HadNoResourceError result → IsFaultless (storage state c) (storage state c')

-- The `n` consecutive clusters that a call newly allocates, from its result.
abbrev pub run_handed_by : ℕ → Result ℕ Fault → ℕ → ℕ
run_handed_by n (Ok first) c = covers c (run_of first n)
run_handed_by n (Err fault) c = 0

-- Each of `n` consecutive clusters is reserved.
abbrev pub AreReserved : ℕ → Metadata → ℕ → Type 0
AreReserved n m first = (d : ℕ) → first ≤ d → d < first + n → IsReserved m d

-- None of `n` consecutive clusters is in use.
abbrev pub AreUnused : ℕ → Metadata → ℕ → Type 0
AreUnused n m first = (d : ℕ) → first ≤ d → d < first + n → IsUsed m d → ⊥

-- The data is written to `n` newly allocated clusters, and the metadata of that may still be dirty.
pub record StoresRunUnsettled {S : Type 0} (state : S → StorageState) (n : ℕ) (content : List ℕ) (c : Clusters S)
    (result : Result ℕ Fault) (c' : Clusters S) : Type 0 where
  pub guest_unchanged : PreservesGuest (HadNoResourceError result) (run_handed_by n result) (λ _. 0) (storage state c) (flushed_metadata state c) (storage state c')
      (changed state c')
  pub unpinned : AreUnpinned c'.caches
  pub room : HasRoomOf c.caches c'.caches
  pub header : MovedTable c.file.header c'.file.header
  pub faults : HadNoResourceError result → IsFaultless (storage state c) (storage state c')
  pub held : c'.space.to_free.held ≡ held_by result c.space.to_free.held
  pub named : IfOk result (λ x. (x ≢ 0) × IsAddressable c.file.header.fields.cluster_bits (x + (n - 1)))
  pub unused : IsReady state c → IfOk result (AreUnused n (flushed_metadata state c))
  pub reserved : IsReady state c → IfOk result (AreReserved n (changed state c'))
  pub stored : IsReady state c → IfOk result (λ x. (i : ℕ) → i < length content
      → (changed state c').file (x * cluster_size c.file.header.fields + i) ≡ slice_index content i)
  pub leaves : IsReady state c → OnOk result (LeavesRoom (room_for c.file.header.fields n) (flushed_metadata state c) (first_free_in c) (changed state c')
      (first_free_in c'))
  pub marked : IsReady state c → HadNoResourceError result
      → NoneFreeBefore (flushed_metadata state c) (first_free_in c) → NoneFreeBefore (changed state c') (first_free_in c')
  pub cause : IfErr result (HasCause (storing_causes (IsReady state c)
      (IsFull n (flushed_metadata state c) (first_free_in c) (changed state c') (first_free_in c')) (storage state c).faults (storage state c').faults))

-- Like `StoresRunUnsettled`, with the metadata written: the clusters are reserved, and the guest reads the same bytes as
-- before.
pub record StoresRun {S : Type 0} (state : S → StorageState) (n : ℕ) (content : List ℕ) (c : Clusters S) (result : Result ℕ Fault)
    (c' : Clusters S) : Type 0 where
  pub progress : Progresses (HadNoResourceError result) (handing (run_handed_by n result) (λ _. 0)) (storage state c)
      (flushed_metadata state c) (storage state c') (flushed_metadata state c')
  pub rests : Rests state c result c'
  pub held : c'.space.to_free.held ≡ held_by result c.space.to_free.held
  pub l1 : KeepsL1 state c result c'
  pub named : IfOk result (λ x. (x ≢ 0) × IsAddressable c.file.header.fields.cluster_bits (x + (n - 1)))
  pub unused : IsReady state c → IfOk result (AreUnused n (flushed_metadata state c))
  pub reserved : IsReady state c → IfOk result (AreReserved n (flushed_metadata state c'))
  pub stored : IsReady state c → IfOk result (λ x. (i : ℕ) → i < length content
      → (flushed_metadata state c').file (x * cluster_size c.file.header.fields + i) ≡ slice_index content i)
  pub leaves : IsReady state c → OnOk result (LeavesRoom (room_for c.file.header.fields n) (flushed_metadata state c) (first_free_in c) (flushed_metadata state c')
      (first_free_in c'))
  pub marked : KeepsNoneFreeBefore state c result c'
  pub cause : IfErr result (HasCause (storing_causes (IsReady state c)
      (IsFull n (flushed_metadata state c) (first_free_in c) (flushed_metadata state c') (first_free_in c')) (storage state c).faults (storage state c').faults))

-- Like `StoresRun`, for one cluster.
pub record Stores {S : Type 0} (state : S → StorageState) (content : List ℕ) (c : Clusters S) (result : Result ℕ Fault)
    (c' : Clusters S) : Type 0 where
  pub progress : Progresses (HadNoResourceError result) (handing (handed_by result) (λ _. 0)) (storage state c)
      (flushed_metadata state c) (storage state c') (flushed_metadata state c')
  pub rests : Rests state c result c'
  pub held : c'.space.to_free.held ≡ held_by result c.space.to_free.held
  pub l1 : KeepsL1 state c result c'
  pub named : IfOk result (λ x. (x ≢ 0) × IsAddressable c.file.header.fields.cluster_bits x)
  pub reserved : IsReady state c → IfOk result (IsReserved (flushed_metadata state c'))
  pub stored : IsReady state c → IfOk result (λ x. (i : ℕ) → i < length content
      → (flushed_metadata state c').file (x * cluster_size c.file.header.fields + i) ≡ slice_index content i)
  pub leaves : IsReady state c → OnOk result (LeavesRoom (room_for c.file.header.fields 1) (flushed_metadata state c) (first_free_in c) (flushed_metadata state c')
      (first_free_in c'))
  pub marked : KeepsNoneFreeBefore state c result c'
  pub cause : IfErr result (HasCause (storing_causes (IsReady state c)
      (IsFull 1 (flushed_metadata state c) (first_free_in c) (flushed_metadata state c') (first_free_in c')) (storage state c).faults (storage state c').faults))

-- The file is at least as long as the end of `n` consecutive clusters.
abbrev pub ReachesEnd : {S : Type 0} → (S → StorageState) → (x n : ℕ) → (before after : ImageFile S) → Type 0
ReachesEnd state x n before after = (x + n) * cluster_size before.header.fields ≤ length (state after.image).bytes

-- The file is made long enough. Only bytes in these clusters may be written, and no byte of the file changes.
pub record ReachesRun {S : Type 0} (state : S → StorageState) (x n : ℕ) (before : ImageFile S) (result : Result Unit Fault)
    (after : ImageFile S) : Type 0 where
  pub place : ℕ
  pub bytes : List ℕ
  pub low : x * cluster_size before.header.fields ≤ place
  pub high : place + length bytes ≤ (x + n) * cluster_size before.header.fields
  pub put : WriteOutcome (state before.image) (state after.image) place bytes result
  pub header : after.header ≡ before.header
  pub same : IsTrue (state before.image).shape.keeps
      → OnOk result ((p : ℕ) → slice_index (state after.image).bytes p ≡ slice_index (state before.image).bytes p)
  pub long : OnOk result (ReachesEnd state x n before after)

-- Zeroes are written over `n` consecutive clusters, and the file reaches the end of the last one.
pub record ZeroesRun {S : Type 0} (state : S → StorageState) (x n : ℕ) (before : ImageFile S) (result : Result Unit Fault)
    (after : ImageFile S) : Type 0 where
  pub put : WriteOutcome (state before.image) (state after.image) (x * cluster_size before.header.fields)
      (replicate (n * cluster_size before.header.fields) 0) result
  pub header : after.header ≡ before.header
  pub long : OnOk result (ReachesEnd state x n before after)
