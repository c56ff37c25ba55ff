-- Specifies the effect of a call of a list on the disk and on the kept mapping, and the causes of its errors.
use Rattle.std.specs.Prelude.{◌≡◌, ◌⊎◌, true, ◌<◌, ◌≤◌, ◌^◌, ◌&&◌, ⊤, ℕ, Bool, List, Some, None, if◌then◌else◌, is_some, length, ltb, map, not, IsSome, Option}
use Rattle.imago_storage.specs.Steps.{Answer as DiskAnswer, shrink}
use Rattle.imago_storage.specs.declared.fault.Fault.{Fault}
use Rattle.imago_storage.specs.declared.fault.Fault.TheVariants.{ReadOnly, MissingData, Failed}
use Rattle.imago_access.specs.declared.driver_model.DriverModel.{Ghosts}
use Rattle.imago_access.specs.declared.mapping.Mapping.{Mapping}
use Rattle.imago_access.specs.declared.mapping.Mapping.TheVariants as deep
use Rattle.imago_access.specs.declared.mapping.PreparedDataMapping.{PreparedDataMapping}
use Rattle.imago_access.specs.Layer.{Layer, IsFree}
use Rattle.imago_access.specs.Layers.{chain}
use Rattle.imago_access.specs.Chain.{at, unit_of_chain, Each}
use Rattle.imago_access.specs.ChainCalls.{ChainSteps, ChainPartly, ChainStays, chain_refusal, chain_look_refusal, ChainCause, OwnCause, ChainMappedCause, CanWriteRun, KeepsWritableLocations, IsMappedFor}
use Rattle.imago_access.specs.Failing.{RefusesLookup, RefusesFlush}
use Rattle.imago_access.specs.Files.{Pairs, UnchangedButMoreFaults, files, files_of, IsNotResourceError}
use Rattle.imago_access.specs.Mappings.{DeepNames, DeepReportsWritable, DeepNamesWritable, DeepReportsExplicitZero, IsDeepBelow, IsWritableRun, IsOneOf, IsThere, LooksIn, ReportsAllocationIn, ReportsExplicitZero, stored_at}
use Rattle.imago_access.specs.Parts.{GrowthCause, ShrinkCause}
use Rattle.imago_access.specs.PreparingCalls.{nowhere}
use Rattle.imago_access.specs.Refusals.{ReadCause, DeepLookCause, unusable_fault}
use Rattle.imago_access.specs.Running.{IsIntactChain}
use Rattle.imago_access.specs.Spending.{commit_refusal}
use Rattle.imago_access.specs.Stops.{IsCounted, IsWritten}
use Rattle.qimg_calls.specs.declared.call.Call.{Call}
use Rattle.qimg_calls.specs.declared.call.Call.TheVariants as calls
use Rattle.qimg_calls.specs.declared.call.Answer.{Answer}
use Rattle.qimg_calls.specs.declared.call.Answer.TheVariants as told
use Rattle.qimg_calls.specs.Calls.{said}
use Rattle.qimg_calls.specs.CommittingDown.{CommitCallCause, FillsNext, MayBegin, commit_call_refusal}
use Rattle.qimg_calls.specs.Held.{ChainWithMapping, disk_call, state_of}
use Rattle.qimg_calls.specs.Repairing.{ListsExcess, RepairCause, repair_refusal}

-- The top image is unchanged: the values of its bytes, which of them a prepared mapping holds, and its mappings.
abbrev pub TopStays : {D St : Type 0} → Ghosts D St → D × List D → D × List D → Type 0
TopStays g old new = g.layer new.0 ≡ g.layer old.0

-- A lookup's answer has a layer and a storage that exist. It reports a byte as writable if the byte is.
pub record NamesOneThere {D St : Type 0} (g : Ghosts D St) (offset asked : ℕ) (mapping : Mapping) (c : D × List D) : Type 0 where
  pub layer : IsDeepBelow (length (chain c)) mapping
  pub storage : IsThere g (chain c) mapping
  pub writable : DeepNamesWritable (map g.layer (chain c)) offset asked mapping

-- The storage locations in an answer. They are in storages that exist, have the bytes of the run, and are reported as writable if the run
-- is. A shallow lookup only returns locations that the top layer has allocated. A zero is explicit exactly if the top layer itself maps the
-- byte as 0. Reads, lookups, flush and sync leave the top unchanged. After a flush with no mapping prepared, the top's file describes the
-- disk without data from memory, and leaks exactly the excess refcounts (refcounts above the references). A sync writes nothing. After a
-- commit the layers below read as the disk. An empty range that is ensured has length 0, at the start of storage 0.
abbrev pub Names : {D St : Type 0} → Ghosts D St → Call → Answer → D × List D → D × List D → Type 0
Names g (calls.Read offset n) answer old new = TopStays g old new
Names g (calls.GetMapping offset asked) (told.Mapped mapping n) old new =
    DeepNames (map g.layer (chain old)) (at (map g.layer (chain old))) (stored_at g (chain new)) offset n mapping
    × DeepReportsWritable (g.layer old.0) offset asked mapping
    × TopStays g old new
    × NamesOneThere g offset asked mapping old
    × DeepReportsExplicitZero (g.explicit_zero old.0) offset (mapping, n)
Names g (calls.GetShallowMapping offset asked) (told.Shallow mapping n) old new =
    LooksIn g offset asked old.0 new.0 (mapping, n)
    × TopStays g old new
    × IsOneOf (length (files g old.0)) mapping
    × ReportsAllocationIn g offset old.0 (mapping, n)
    × ReportsExplicitZero (g.explicit_zero old.0) offset (mapping, n)
Names g (calls.EnsureDataMapping offset asked overwrite) (told.Mapped mapping n) old new =
    IsWritableRun (g.layer new.0) offset mapping n × (asked ≡ 0 → (mapping ≡ deep.Raw 0 0 0 true) × (n ≡ 0))
Names g (calls.WriteMapped guest place bytes) told.Done old new =
    IsMappedFor (g.layer old.0) guest place (length bytes.items) × ((g.layer new.0).writable_location ≡ (g.layer old.0).writable_location)
Names g calls.CommitDataMapping told.Done old new = KeepsWritableLocations (g.layer old.0) (g.layer new.0)
Names g calls.Flush told.Done old new = TopStays g old new × (IsFree (g.layer old.0) → IsWritten g new.0 × IsCounted g new.0)
Names g calls.RepairLeaks (told.Leaks pairs) old new =
    TopStays g old new × IsWritten g new.0 × IsCounted g new.0 × ListsExcess (g.excess_refcount old.0) pairs.items
Names g calls.CommitDown told.Done old new = FillsNext g old new
Names g calls.Sync told.Done old new = TopStays g old new × Pairs UnchangedButMoreFaults (files g old.0) (files g new.0)
Names g call answer old new = ⊤

-- The mapping `m` has the fields of an answer.
pub record IsTold {St : Type 0} (m : PreparedDataMapping St) (storage place n : ℕ) (state : Bool) : Type 0 where
  pub storage_is : m.storage ≡ storage
  pub place_is : m.offset ≡ place
  pub length_is : m.length ≡ n
  pub state_is : is_some m.state ≡ state

-- The kept mapping after a call. A prepared mapping is kept, and its bytes are writable at its location. A committed or cancelled mapping
-- is gone. Otherwise it is unchanged. The mapping of an empty range has length 0 and no state, at the start of storage 0.
abbrev pub KeepsMapping : {D St : Type 0} → Ghosts D St → Call → Answer → ChainWithMapping D St → ChainWithMapping D St → Type 0
KeepsMapping {D} {St} g (calls.PrepareDataMapping offset asked overwrite) (told.Prepared storage place n state) old new =
    (m : PreparedDataMapping St)
    × (new.kept_mapping ≡ Some m)
    × IsTold m storage place n state
    × CanWriteRun (g.layer new.drivers.0) offset m
    × (asked ≡ 0 → m ≡ nowhere)
KeepsMapping g calls.CommitDataMapping told.Done old new = new.kept_mapping ≡ None
KeepsMapping g calls.Cancel told.Done old new = new.kept_mapping ≡ None
KeepsMapping g call answer old new = new.kept_mapping ≡ old.kept_mapping

-- A successful call has its specified effect on the disk (`Step`).
abbrev pub Does : {D St : Type 0} → Ghosts D St → Call → Answer → ChainWithMapping D St → ChainWithMapping D St → Type 0
Does g call answer old new = (says : DiskAnswer) × (said call answer ≡ Some says)
    × ChainSteps g (disk_call g old call) says old.drivers new.drivers × Names g call answer old.drivers new.drivers

-- The causes for which a call may fail.
abbrev pub Refuses : {D St : Type 0} → Ghosts D St → Call → Fault → ChainWithMapping D St → ChainWithMapping D St → Type 0
Refuses g (calls.Read offset n) fault old new = let layers = map g.layer (chain old.drivers) in
    ReadCause layers (at layers) (unit_of_chain layers) offset n (files_of g (chain old.drivers)) (files_of g (chain new.drivers)) fault
Refuses g (calls.GetMapping offset n) fault old new = let layers = map g.layer (chain old.drivers) in
    DeepLookCause layers (at layers) offset n (files_of g (chain old.drivers)) (files_of g (chain new.drivers)) fault
Refuses g (calls.GetShallowMapping offset n) fault old new = RefusesLookup g offset n old.drivers.0 new.drivers.0 fault
Refuses g calls.Flush fault old new = RefusesFlush g old.drivers.0 new.drivers.0 fault
Refuses g calls.Sync fault old new = RefusesFlush g old.drivers.0 new.drivers.0 fault
Refuses g calls.CommitDataMapping fault old new =
    ChainCause g (disk_call g old calls.CommitDataMapping) (λ _. ⊥) old.drivers new.drivers fault
Refuses g calls.RepairLeaks fault old new =
    RepairCause (g.layer old.drivers.0) (files g old.drivers.0) (files g new.drivers.0) fault
Refuses g calls.CommitDown fault old new = CommitCallCause g old.drivers new.drivers fault
Refuses g calls.Cancel fault old new = ⊥
Refuses g (calls.WriteMapped guest place bytes) fault old new = ChainMappedCause g guest place bytes.items old.drivers new.drivers fault
Refuses g (calls.ResizeGrow size mode) fault old new = let below = map g.layer old.drivers.1 in
    GrowthCause below (g.layer old.drivers.0) size (g.growth_cause old.drivers.0 below size mode)
    (files_of g (chain old.drivers)) (files_of g (chain new.drivers)) fault
Refuses g (calls.ResizeShrink size) fault old new = let below = map g.layer old.drivers.1 in
    ShrinkCause below (g.layer old.drivers.0) size (g.own_cause old.drivers.0 below (shrink size))
    (files_of g (chain old.drivers)) (files_of g (chain new.drivers)) fault
Refuses g call fault old new = OwnCause g (disk_call g old call) old.drivers new.drivers fault

-- The state after an error other than `Memory` and `Storage`. A write, zeroing or discard may be done in part. Any other call leaves the
-- disk unchanged; for a flush and a sync this needs a usable top. A lookup, a read and a `WriteMapped` leave the top unchanged.
abbrev pub Leaves : {D St : Type 0} → Ghosts D St → Call → ChainWithMapping D St → ChainWithMapping D St → Type 0
Leaves g (calls.Write offset bytes) old new = ChainPartly g (disk_call g old (calls.Write offset bytes)) old.drivers new.drivers
Leaves g (calls.WriteZeroes offset n) old new = ChainPartly g (disk_call g old (calls.WriteZeroes offset n)) old.drivers new.drivers
Leaves g (calls.DiscardToZero offset n) old new = ChainPartly g (disk_call g old (calls.DiscardToZero offset n)) old.drivers new.drivers
Leaves g (calls.DiscardToAny offset n) old new = ChainPartly g (disk_call g old (calls.DiscardToAny offset n)) old.drivers new.drivers
Leaves g (calls.DiscardToBacking offset n) old new =
    ChainPartly g (disk_call g old (calls.DiscardToBacking offset n)) old.drivers new.drivers
Leaves g (calls.Read offset n) old new = TopStays g old.drivers new.drivers × ChainStays g old.drivers new.drivers
Leaves g (calls.GetMapping offset n) old new = TopStays g old.drivers new.drivers × ChainStays g old.drivers new.drivers
Leaves g (calls.GetShallowMapping offset n) old new = TopStays g old.drivers new.drivers × ChainStays g old.drivers new.drivers
Leaves g (calls.WriteMapped guest place bytes) old new = TopStays g old.drivers new.drivers × ChainStays g old.drivers new.drivers
Leaves g calls.Flush old new = unusable_fault (g.layer old.drivers.0) ≡ None → ChainStays g old.drivers new.drivers
Leaves g calls.Sync old new = unusable_fault (g.layer old.drivers.0) ≡ None → ChainStays g old.drivers new.drivers
Leaves g call old new = ChainStays g old.drivers new.drivers

-- The effect of a call: it succeeds as `Does` says, or fails for a cause in `Refuses`. After an error other than `Memory` and `Storage`,
-- the state is that of `Leaves`.
abbrev pub CallEffect : {D St : Type 0} → Ghosts D St → Call → Answer → ChainWithMapping D St → ChainWithMapping D St → Type 0
CallEffect g call (told.Refused fault) old new =
    Refuses g call fault old new × (IsNotResourceError fault → Leaves g call old new × KeepsMapping g call (told.Refused fault) old new)
CallEffect g call answer old new = Does g call answer old new × KeepsMapping g call answer old new

-- The condition under which a call has its specified effect. A read or a lookup needs layers that have in memory what their files say, any
-- other call needs a well-formed chain. A commit that doesn't fail early also needs a well-formed next layer, whose
-- file says what its disk is.
abbrev pub RestsOn : {D St : Type 0} → Ghosts D St → Call → D × List D → Type 0
RestsOn g (calls.Read offset n) c = Each g.coherent (chain c)
RestsOn g (calls.GetMapping offset n) c = Each g.coherent (chain c) × (length (chain c) < 2 ^ 64)
RestsOn g (calls.GetShallowMapping offset n) c = Each g.coherent (chain c)
RestsOn g calls.CommitDown c = MayBegin g c
RestsOn g call c = IsIntactChain g c

-- The call has nothing to do: its range is empty, its size doesn't change the disk in its direction, or its mapping has no state.
abbrev pub IsIdle : {D St : Type 0} → Ghosts D St → Call → ChainWithMapping D St → Type 0
IsIdle g (calls.Read offset n) h = n ≡ 0
IsIdle g (calls.Write offset bytes) h = length bytes.items ≡ 0
IsIdle g (calls.WriteZeroes offset n) h = n ≡ 0
IsIdle g (calls.DiscardToZero offset n) h = n ≡ 0
IsIdle g (calls.DiscardToAny offset n) h = n ≡ 0
IsIdle g (calls.DiscardToBacking offset n) h = n ≡ 0
IsIdle g (calls.PrepareDataMapping offset n overwrite) h = n ≡ 0
IsIdle g (calls.EnsureDataMapping offset n overwrite) h = n ≡ 0
IsIdle g (calls.WriteMapped guest place bytes) h = length bytes.items ≡ 0
IsIdle g (calls.GetMapping offset n) h = n ≡ 0
IsIdle g (calls.GetShallowMapping offset n) h = n ≡ 0
IsIdle g (calls.ResizeGrow size mode) h = size ≤ (g.layer h.drivers.0).size
IsIdle g (calls.ResizeShrink size) h = (g.layer h.drivers.0).size ≤ size
IsIdle g calls.CommitDataMapping h = state_of h.kept_mapping ≡ None
IsIdle g call h = ⊥

-- The first cause for which a resize fails before anything is done. `alters` says if it changes the size.
abbrev pub resize_refusal : Layer → Bool → Option Fault
resize_refusal layer alters =
    if layer.failed then Some Failed
    else if layer.fixed.missing then Some MissingData
    else if alters && not layer.fixed.writable then Some ReadOnly
    else None

-- The first cause for which a call fails before anything is done.
abbrev pub refusal_at_once : {D St : Type 0} → Ghosts D St → Call → ChainWithMapping D St → Option Fault
refusal_at_once g (calls.Read offset n) h = chain_look_refusal g h.drivers offset n
refusal_at_once g (calls.Write offset bytes) h = chain_refusal g h.drivers offset (length bytes.items)
refusal_at_once g (calls.WriteZeroes offset n) h = chain_refusal g h.drivers offset n
refusal_at_once g (calls.DiscardToZero offset n) h = chain_refusal g h.drivers offset n
refusal_at_once g (calls.DiscardToAny offset n) h = chain_refusal g h.drivers offset n
refusal_at_once g (calls.DiscardToBacking offset n) h = chain_refusal g h.drivers offset n
refusal_at_once g (calls.PrepareDataMapping offset n overwrite) h = chain_refusal g h.drivers offset n
refusal_at_once g (calls.EnsureDataMapping offset n overwrite) h = chain_refusal g h.drivers offset n
refusal_at_once g (calls.WriteMapped guest place bytes) h = chain_refusal g h.drivers guest (length bytes.items)
refusal_at_once g calls.CommitDataMapping h = commit_refusal g (state_of h.kept_mapping) (g.layer h.drivers.0)
refusal_at_once g calls.RepairLeaks h = repair_refusal (g.layer h.drivers.0)
refusal_at_once g calls.CommitDown h = commit_call_refusal (g.layer h.drivers.0) (map g.layer h.drivers.1)
refusal_at_once g calls.Cancel h = None
refusal_at_once g (calls.ResizeGrow size mode) h = let top = g.layer h.drivers.0 in resize_refusal top (ltb top.size size)
refusal_at_once g (calls.ResizeShrink size) h = let top = g.layer h.drivers.0 in resize_refusal top (ltb size top.size)
refusal_at_once g call h = unusable_fault (g.layer h.drivers.0)

-- The call has nothing to do, or fails before anything is done.
abbrev pub EndsEarly : {D St : Type 0} → Ghosts D St → Call → ChainWithMapping D St → Type 0
EndsEarly g call h = IsIdle g call h ⊎ IsSome (refusal_at_once g call h)
