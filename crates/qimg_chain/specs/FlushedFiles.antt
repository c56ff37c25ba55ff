-- Specifies what the files of a chain mean after a flush. Without the open chain, they mean its disk.
use Rattle.std.specs.Prelude.{◌≡◌, ◌≢◌, ◌<◌, ◌≤◌, ◌⊎◌, ◌&&◌, ◌||◌, ◌++◌, ⊤, ℕ, suc, Bool, IsFalse, IsTrue, List, [], ◌∷◌, None, Some}
use Rattle.std.specs.Prelude.{drop, if◌then◌else◌, map, slice_get, take}
use Rattle.imago_storage.specs.Disk.{Disk}
use Rattle.imago_storage.specs.State.{StorageState}
use Rattle.imago_access.specs.Chain.{Each}
use Rattle.imago_access.specs.Committing.{IsCommittable, OfNext}
use Rattle.imago_access.specs.Files.{UnchangedButMoreFaults, Pairs, files_of}
use Rattle.imago_access.specs.Layers.{chain}
use Rattle.imago_access.specs.Running.{chain_disk}
use Rattle.imago_access.specs.declared.format.Format.TheVariants.{Qcow2, Vmdk}
use Rattle.imago_access.specs.declared.driver_model.DriverModel.{Ghosts}
use Rattle.qcow2_types.specs.Bytes.{bytes_of}
use Rattle.qcow2_types.specs.Consistency.{IsConsistent, leaks}
use Rattle.qcow2_types.specs.Header.{Header}
use Rattle.qimg_calls.specs.Calls.{any_commit_down, any_repair}
use Rattle.qimg_calls.specs.CommittingDown.{takes_commits}
use Rattle.qimg_calls.specs.Held.{state_of}
use Rattle.qimg_calls.specs.Runs.{AllGoOn, IsSameChain, Made, Moment, Run}
use Rattle.qimg_calls.specs.declared.call.Answer.{Answer}
use Rattle.qimg_calls.specs.declared.call.Answer.TheVariants as told
use Rattle.qimg_calls.specs.declared.call.Call.{Call}
use Rattle.qimg_calls.specs.declared.call.Call.TheVariants as calls
use Rattle.qimg_core.specs.declared.plain.ChainFile.{ChainFile}
use Rattle.qimg_chain.specs.Chains.{AreInPlace, AreLayers, OpenMode}
use Rattle.qimg_chain.specs.FileMeanings.{FileBytes, FindsByNames, IsDiskOf, driver_bytes, file_bytes, files_bytes, size_of, value_of}

-- The chain `c` was opened over these files. For each layer, its file means what it means with the further files found by the driver's
-- names.
pub record IsChainOf {S D St : Type 0} (g : Ghosts D St) (names : D → ℕ → List ℕ) (state : S → StorageState) (m : OpenMode)
    (files : List (ChainFile S)) (c : D × List D) : Type 0 where
  pub layers : AreLayers g state m files (chain c)
  pub places : AreInPlace (map g.layer (chain c))
  pub named : Each (FindsByNames g names) (chain c)

-- The layers whose files are those below the top now: the layers below at opening. After a commit to the layer below, that layer is the
-- current one.
abbrev pub below_since : {D : Type 0} → (committed : Bool) → (opened now : List D) → List D
below_since committed opened now = if committed then take 1 now ++ drop 1 opened else opened

-- The files of a chain: the current file of the top, and the files below at opening. After a commit to the layer below, that layer's file
-- is the current one.
abbrev pub files_now : {D St : Type 0} → Ghosts D St → (D → ℕ → List ℕ) → (committed : Bool) → D × List D → D × List D → List FileBytes
files_now g names committed opened now = driver_bytes g names now.0 ∷ map (driver_bytes g names) (below_since committed opened.1 now.1)

-- The files mean each byte of the disk. If the top's file states the size of its disk, they mean nothing else. Otherwise their disk may be
-- longer, as writes are padded to whole units (clusters of qcow2, or bytes).
pub record ShowDisk (states_size : Bool) (disk : Disk) (files : List FileBytes) : Type 0 where
  pub size : disk.size ≤ size_of files
  pub value : (p : ℕ) → p < disk.size → disk.value p ≡ value_of files p
  pub exactly : IsTrue states_size → IsDiskOf disk files

-- The drivers of a chain right after it was opened. `repaired` says that its leaks have been repaired since. `committed` says that the
-- top's data has been committed to the layer below since.
pub record Opened (D : Type 0) : Type 0 where
  pub drivers : D × List D
  pub repaired : Bool
  pub committed : Bool

abbrev pub opened_as : {D : Type 0} → D × List D → (repaired committed : Bool) → Opened D
opened_as drivers repaired committed = record { drivers = drivers; repaired = repaired; committed = committed }

-- The same opened chain after these further calls. Unless its top and the layer below were opened for writing, no commit changes it.
abbrev pub after_calls : {D St : Type 0} → Ghosts D St → Opened D → List Call → List Answer → Opened D
after_calls g opened list answers = opened_as opened.drivers (opened.repaired || any_repair list answers)
    (opened.committed || (takes_commits (map g.layer (chain opened.drivers)) && any_commit_down list))

-- The chain is the opened one, after calls without a resource error. After a commit to the layer below, that layer's file says what the
-- layer is, as in `IsCommittable`.
pub record IsOpenedSince {D St : Type 0} (g : Ghosts D St) (opened : Opened D) (now : D × List D) : Type 0 where
  pub same_chain : IsSameChain g opened.repaired opened.committed opened.drivers now
  pub committable : IsTrue opened.committed → IsCommittable g now

-- The layer below the top isn't shorter than the disk, or its file states its size.
abbrev pub NextSpans : {D St : Type 0} → Ghosts D St → D × List D → Type 0
NextSpans g c = OfNext (λ n. ((g.layer c.0).size ≤ (g.layer n.0).size) ⊎ IsTrue (g.layer n.0).fixed.exact) c.1

-- The excess refcount of each cluster in a file: 0 after a repair of leaks, and otherwise the same as in the file at opening.
abbrev pub LeaksSince : (repaired : Bool) → (at_opening now : ℕ → ℕ) → Type 0
LeaksSince repaired at_opening now = (c : ℕ) → now c ≡ if repaired then 0 else at_opening c

-- The files of a chain mean its disk by themselves. Since opening, the files below and the fixed properties of the top are unchanged. So
-- is the excess refcount of each cluster in the top's file, or it is 0 after a repair of leaks. After a commit to the layer below, only the
-- files from the third layer on are unchanged. A raw file may be longer than its layer, so then the layer below must span the disk.
pub record FilesMeanDisk {D St : Type 0} (g : Ghosts D St) (names : D → ℕ → List ℕ) (opened : Opened D) (now : D × List D) : Type 0 where
  pub means : (IsTrue opened.committed → NextSpans g now)
      → ShowDisk (g.layer now.0).fixed.exact (chain_disk g.layer now) (files_now g names opened.committed opened.drivers now)
  pub below : IsFalse opened.committed → Pairs UnchangedButMoreFaults (files_of g opened.drivers.1) (files_of g now.1)
  pub deeper : Pairs UnchangedButMoreFaults (files_of g (drop 1 opened.drivers.1)) (files_of g (drop 1 now.1))
  pub fixed : (g.layer now.0).fixed ≡ (g.layer opened.drivers.0).fixed
  pub leaks : let top = opened.drivers.0 in
      LeaksSince opened.repaired ((g.layer top).fixed.leaks (g.image top).bytes) ((g.layer now.0).fixed.leaks (g.image now.0).bytes)

-- The file of a layer with other bytes.
abbrev pub with_image : FileBytes → List ℕ → FileBytes
with_image file bytes = record file { bytes = bytes }

-- The files that were supplied at opening mean the disk, with the current bytes of the top's file. For a VMDK image, the further files are
-- found by the names in the image.
pub record HandedMeanDisk {S D St : Type 0} (g : Ghosts D St) (names : D → ℕ → List ℕ) (state : S → StorageState)
    (file : ChainFile S) (below : List (ChainFile S)) (now : D × List D) : Type 0 where
  pub named : ShowDisk (g.layer now.0).fixed.exact (chain_disk g.layer now) (driver_bytes g names now.0 ∷ files_bytes state below)
  pub alone : file.format ≢ Vmdk → ShowDisk (g.layer now.0).fixed.exact (chain_disk g.layer now)
      (with_image (file_bytes state file) (g.image now.0).bytes ∷ files_bytes state below)

-- If the chain's files mean its disk, so do the supplied files, unless data was committed to the layer below.
abbrev pub HandedMeanToo : {S D St : Type 0} → Ghosts D St → (D → ℕ → List ℕ) → (S → StorageState) → Type 0
HandedMeanToo {S = S} {D = D} g names state = (m : OpenMode) (file : ChainFile S) (below : List (ChainFile S))
    (opened : Opened D) (now : D × List D) → IsChainOf g names state m (file ∷ below) opened.drivers
    → IsFalse opened.committed → FilesMeanDisk g names opened now → HandedMeanDisk g names state file below now

-- If the files mean the disk, a consistent qcow2 top has the leaks that it had when the chain was opened, or none after a repair of leaks.
abbrev pub LeaksWhatItDid : {D St : Type 0} → Ghosts D St → (D → ℕ → List ℕ) → Type 0
LeaksWhatItDid {D} g names = (opened : Opened D) (now : D × List D) (H K : Header) → let top = opened.drivers.0 in
    FilesMeanDisk g names opened now → (g.layer top).fixed.format ≡ Qcow2 → IsConsistent (bytes_of (g.image top).bytes) H
    → IsConsistent (bytes_of (g.image now.0).bytes) K
    → leaks (bytes_of (g.image now.0).bytes) K.fields ≡ if opened.repaired then [] else leaks (bytes_of (g.image top).bytes) H.fields

-- The call ends with a flush of the top: it is a flush, or a commit to the layer below.
abbrev pub EndsFlushed : Call → Type 0
EndsFlushed calls.Flush = ⊤
EndsFlushed calls.CommitDown = ⊤
EndsFlushed call = ⊥

-- The call at index `place` of a list is a flush, or a commit to the layer below, that succeeded between two moments. If no mapping was
-- prepared, the files mean the disk after it.
pub record FlushesAt {D St : Type 0} (g : Ghosts D St) (names : D → ℕ → List ℕ) (opened : Opened D) (list : List Call)
    (answers : List Answer) (start last : Moment D St) (place : ℕ) : Type 0 where
  pub call : Call
  pub is_call : slice_get list place ≡ Some call
  pub before : Moment D St
  pub moment_after : Moment D St
  pub run : Run g (take place list) (take place answers) start before
  pub made : Made g call told.Done before moment_after
  pub run_after : Run g (drop (suc place) list) (drop (suc place) answers) moment_after last
  pub means : state_of before.now.kept_mapping ≡ None
      → FilesMeanDisk g names (after_calls g opened (take (suc place) list) (take (suc place) answers)) moment_after.now.drivers

-- Each flush of a list that succeeded, and each such commit to the layer below, if no earlier call ended with a resource error.
abbrev pub EachFlushMeans : {D St : Type 0} → Ghosts D St → (D → ℕ → List ℕ) → Opened D → List Call → List Answer → Moment D St
    → Moment D St → Type 0
EachFlushMeans g names opened list answers start last = (place : ℕ) (call : Call) → EndsFlushed call
    → slice_get list place ≡ Some call → slice_get answers place ≡ Some told.Done → AllGoOn (take place answers)
    → FlushesAt g names opened list answers start last place
