-- Specifies `commit_down`: the data of the top image goes to the layer below it (its backing file), and the top is emptied. The layer below
-- the top is called the next layer here.
use Rattle.std.specs.Prelude.{◌≡◌, ◌⊎◌, ⊤, ℕ, ◌+◌, ◌<◌, ◌≤◌, not, ◌||◌, Bool, true, false, List, [], ◌∷◌, drop, length, map, slice_index, Option, Some, None, if◌then◌else◌, ltb, Result, Err, OnOk, IfOk, IfErr, IsTrue}
use Rattle.imago_storage.specs.Disk.{Value, byte, barred, damaged_place}
use Rattle.imago_storage.specs.Calls.{IsFaultless}
use Rattle.imago_storage.specs.Passing.{UnrefusedCrashImages}
use Rattle.imago_storage.specs.Steps.{write, discard_to_backing}
use Rattle.imago_storage.specs.Through.{Overflows}
use Rattle.imago_storage.specs.declared.fault.Fault.{Fault}
use Rattle.imago_storage.specs.declared.fault.Fault.TheVariants.{ReadOnly, RangeOverflow, DamagedTable, Barred, MissingBelow, MissingData, BadArgument, Failed, Memory, Storage}
use Rattle.imago_access.specs.declared.driver_model.DriverModel.{Ghosts}
use Rattle.imago_access.specs.Layer.{Layer, Meaning, own, unmapped, through, unit_of_layer, KeepsLayerState}
use Rattle.imago_access.specs.Layers.{chain}
use Rattle.imago_access.specs.Chain.{at, Each}
use Rattle.imago_access.specs.ChainCalls.{ChainFails, ChainStays, OwnCause}
use Rattle.imago_access.specs.Failing.{Fails}
use Rattle.imago_access.specs.Files.{IsLater, Pairs, UnchangedButMoreFaults, IsNotResourceError, HadNoResourceError, files}
use Rattle.imago_access.specs.Going.{IsMarkedFailed, LookupCall, MutatingCall}
use Rattle.imago_access.specs.Mappings.{EachIs}
use Rattle.imago_access.specs.Refusals.{unusable_fault}
use Rattle.imago_access.specs.Room.{IsGivenUp, IsUndeclined}
use Rattle.imago_access.specs.Running.{IsIntactChain, ChainRangeChange}
use Rattle.imago_access.specs.Stops.{Left, KeepsCrashImages, MakesNone, GivesNone, GivesBelow, IsMeant, IsWritten, IsCounted, shown}

-- If there is a next layer, P holds of it and the layers below it. `NextPair` relates the next layers before and after a call.
abbrev pub OfNext : {D : Type 0} → (D × List D → Type 0) → List D → Type 0
OfNext P [] = ⊤
OfNext P (next ∷ rest) = P (next, rest)

abbrev pub NextPair : {D : Type 0} → (D × List D → D × List D → Type 0) → List D → List D → Type 0
NextPair R [] [] = ⊤
NextPair R (old ∷ olds) (new ∷ news) = R (old, olds) (new, news)
NextPair R _ _ = ⊥

-- A layer of the chain has failed.
abbrev pub some_failed : List Layer → Bool
some_failed [] = false
some_failed (layer ∷ below) = layer.failed || some_failed below

-- The first fault, if any.
abbrev pub first_fault : Option Fault → Option Fault → Option Fault
first_fault None other = other
first_fault (Some fault) other = Some fault

-- The early error for the top and the next layer, while no layer has failed.
abbrev pub pair_refusal : Layer → Layer → Option Fault
pair_refusal top next =
    if not top.fixed.writable || not next.fixed.writable then Some ReadOnly
    else if ltb next.size top.size then Some BadArgument
    else first_fault (unusable_fault top) (unusable_fault next)

-- The early error of `commit_down`, if it has one: a layer has failed, no layer is below, the top or the next layer isn't writable, the
-- next layer is smaller, or a file of one of the two is missing.
abbrev pub next_refusal : Layer → List Layer → Option Fault
next_refusal top [] = Some MissingBelow
next_refusal top (next ∷ rest) = pair_refusal top next

abbrev pub commit_down_refusal : Layer → List Layer → Option Fault
commit_down_refusal top below = if some_failed (top ∷ below) then Some Failed else next_refusal top below

-- The top layer has this value of its own at the offset, if its lookups agree with its files.
abbrev pub GivesOwn : {D St : Type 0} → Ghosts D St → D → ℕ → Value → Type 0
GivesOwn g top p v = g.coherent top → (p < (g.layer top).size) × ((g.layer top).cell p ≡ own v)

-- Each value that the layer has of its own below the end is also what these layers read.
abbrev pub TakesOwn : Layer → ℕ → List Layer → Type 0
TakesOwn layer end below = (p : ℕ) (v : Value) → p < end → layer.cell p ≡ own v → at below p ≡ v

-- The layer maps the run itself, and the bytes are those of the run. Otherwise a layer that reads through to a layer below does so in the
-- whole run.
abbrev pub IsOwnRun : Layer → ℕ → List ℕ → ℕ → Bool → Type 0
IsOwnRun layer offset bytes n true = EachIs layer.cell offset n (λ i. own (byte (slice_index bytes i)))
IsOwnRun layer offset bytes n false = layer.fixed.blank ≡ unmapped → EachIs layer.cell offset n (λ i. unmapped)

-- A byte of the layer is this value of its own.
abbrev pub HasOwn : Layer → Value → Type 0
HasOwn layer v = (p : ℕ) × (p < layer.size) × (layer.cell p ≡ own v)

-- The errors of a read of the bytes that a layer maps itself.
abbrev pub OwnReadCause : Layer → Fault → Type 0
OwnReadCause layer Failed = unusable_fault layer ≡ Some Failed
OwnReadCause layer MissingData = unusable_fault layer ≡ Some MissingData
OwnReadCause layer RangeOverflow = Overflows (unit_of_layer layer) 0 layer.size
OwnReadCause layer DamagedTable = HasOwn layer damaged_place
OwnReadCause layer Barred = HasOwn layer barred
OwnReadCause layer Memory = ⊤
OwnReadCause layer Storage = ⊤
OwnReadCause layer fault = ⊥

-- A write of bytes of the top's own to the next layer failed. Only values of the top's own were written to it before.
pub record WriteBelowCause {D St : Type 0} (g : Ghosts D St) (top : D) (next : D × List D) (fault : Fault) : Type 0 where
  pub mid : D × List D
  pub after : D × List D
  pub offset : ℕ
  pub bytes : List ℕ
  pub inside : offset + length bytes ≤ (g.layer top).size
  pub are_own : g.coherent top → IsOwnRun (g.layer top) offset bytes (length bytes) true
  pub before : ChainRangeChange g ⊤ (GivesOwn g top) next mid
  pub cause : OwnCause g (write offset bytes) mid after fault

-- The errors of the copy to the next layer.
abbrev pub CopyDownCause : {D St : Type 0} → Ghosts D St → D → D × List D → Fault → Type 0
CopyDownCause g top next fault = OwnReadCause (g.layer top) fault ⊎ WriteBelowCause g top next fault

-- If the image's format marks failures, the image has failed or is still well-formed.
abbrev pub IsFailedOrSound : {D St : Type 0} → Ghosts D St → D × List D → D × List D → Type 0
IsFailedOrSound g old new = IsTrue (g.layer old.0).fixed.marks_failed
    → IsTrue (g.layer new.0).failed ⊎ (IsIntactChain g old → g.well_formed new.0)

-- The top can be copied to the next layer: lookups in the top agree with its files, and it reads through to the next layer, which isn't
-- smaller. The next layer can be used, and its chain is well-formed.
pub record MayCopyDown {D St : Type 0} (g : Ghosts D St) (driver : D) (under : D × List D) : Type 0 where
  pub is_coherent : g.coherent driver
  pub backed : (g.layer driver).fixed.blank ≡ unmapped
  pub size : (g.layer driver).size ≤ (g.layer under.0).size
  pub usable : unusable_fault (g.layer under.0) ≡ None
  pub next : IsIntactChain g under

-- Bytes of the top were copied to the next layer. The top was only read. The next layer only got values of the top's own, and the layers
-- below it were only read.
pub record CopiesDown {D St T : Type 0} (g : Ghosts D St) (result : Result T Fault)
    (driver new_driver : D) (under new_under : D × List D) : Type 0 where
  pub top : LookupCall g (HadNoResourceError result) driver new_driver
  pub next : ChainRangeChange g (HadNoResourceError result) (GivesOwn g driver) under new_under
  pub keeps_layer_state : KeepsLayerState (g.layer under.0) (g.layer new_under.0)
  pub usable : IsFailedOrSound g under new_under
  pub failed : IfErr result (ChainFails g (driver, chain under) (new_driver, chain new_under))
  pub cause : MayCopyDown g driver under → IfErr result (CopyDownCause g driver under)

-- After success the next layer reads as the values that the top has of its own below the end.
abbrev pub TakesOwnTo : {D St : Type 0} → Ghosts D St → ℕ → D → D × List D → D × List D → Type 0
TakesOwnTo g end top next new_next = MayCopyDown g top next → TakesOwn (g.layer top) end (map g.layer (chain new_next))

-- If the values that the top has of its own before `offset` were taken, so are those of the run that the call has copied.
abbrev pub TakesRun : {D St : Type 0} → Ghosts D St → ℕ → Result ℕ Fault → D → D × List D → D × List D → Type 0
TakesRun g offset result top next new_next = IfOk result (λ n. MayCopyDown g top next
    → TakesOwn (g.layer top) offset (map g.layer (chain next)) → TakesOwn (g.layer top) (offset + n) (map g.layer (chain new_next)))

-- The image file says what the disk is. Nothing is dirty, and nothing is pending (allocated and not yet linked, or to be freed).
pub record IsSettled {D St : Type 0} (g : Ghosts D St) (d : D) : Type 0 where
  pub has_no_dirty_data : g.has_no_dirty_data d
  pub written : IsWritten g d
  pub counted : IsCounted g d

-- The conditions of a commit: the chain is well-formed, and so is the chain of the next layer. The next layer's file says what its disk is.
pub record IsCommittable {D St : Type 0} (g : Ghosts D St) (c : D × List D) : Type 0 where
  pub chain : IsIntactChain g c
  pub next : OfNext (λ n. IsIntactChain g n × IsWritten g n.0) c.1

-- Each offset below the top's size of the layers below reads as the chain's disk did. The other offsets are unchanged.
pub record BelowTakesDisk {D St : Type 0} (g : Ghosts D St) (old new : D × List D) : Type 0 where
  pub taken : (p : ℕ) → p < (g.layer old.0).size → at (map g.layer new.1) p ≡ at (map g.layer (chain old)) p
  pub rest : (p : ℕ) → (g.layer old.0).size ≤ p → at (map g.layer new.1) p ≡ at (map g.layer old.1) p

-- At one moment each unit of the disk was deallocated, unless the driver had a cause of its own to decline the discard of its whole disk.
-- The layer hasn't changed since.
pub record Vacates {D St : Type 0} (g : Ghosts D St) (mid : D × List D) (new : D) : Type 0 where
  pub emptied : D
  pub same : g.layer new ≡ g.layer emptied
  pub given_up : IsUndeclined (g.own_cause mid.0 (map g.layer mid.1) (discard_to_backing 0 (g.layer mid.0).size))
      → IsGivenUp (g.unallocated emptied) (g.layer mid.0).fixed.unit (g.layer mid.0).size 0 (g.layer mid.0).size

-- The value at `p` of file `f` over a layer below that has these values.
abbrev pub shown_over : (ℕ → Value) → (List ℕ → Meaning) → List ℕ → ℕ → Value
shown_over below means f p = if ltb p (means f).size then through ((means f).cell p) (below p) else byte 0

-- `f` is a file that a crash may leave as the image file of a chain's top, in a call that doesn't resize it.
abbrev pub LeftOf : {D St : Type 0} → Ghosts D St → D × List D → (ℕ → Value → Type 0) → List ℕ → Type 0
LeftOf g c gives f = Left (map g.layer c.1) (g.layer c.0) (g.image c.0).bytes g.sound (g.layer c.0).size (g.layer c.0).size gives f

-- `f` is a file that a crash may leave as the next layer's file. It is consistent, and its disk reads as before or as a value of the top's
-- own. The top's file over it reads as the chain's disk.
pub record IsPairBelow {D St : Type 0} (g : Ghosts D St) (old : D × List D) (top_file : List ℕ)
    (next : D × List D) (f : List ℕ) : Type 0 where
  pub left : LeftOf g next (GivesOwn g old.0) f
  pub shows : (p : ℕ) → p < (g.layer old.0).size → shown_over (shown (map g.layer next.1) (g.layer next.0).fixed.means f)
      (g.layer old.0).fixed.means top_file p ≡ at (map g.layer (chain old)) p

-- `f` is a file that a crash may leave as the top's file, when the layers below are those of `mid`. It is consistent. Over these layers it
-- reads as the chain's disk did.
pub record IsPairAbove {D St : Type 0} (g : Ghosts D St) (old mid : D × List D) (f : List ℕ) : Type 0 where
  pub left : LeftOf g mid (GivesBelow (map g.layer mid.1) 0 (g.layer mid.0).size) f
  pub shows : (p : ℕ) → p < (g.layer old.0).size
      → shown (map g.layer mid.1) (g.layer old.0).fixed.means f p ≡ at (map g.layer (chain old)) p

-- The first flush of a commit has succeeded: the top's file says what its disk was, and none of its requests failed.
pub record IsFlushedFirst {D St : Type 0} (g : Ghosts D St) (old flushed : D) : Type 0 where
  pub meant : IsMeant (g.layer old) (g.image flushed).bytes
  pub faults : IsFaultless (g.image old) (g.image flushed)

-- The next layer has all data of the top: the top is the same, and so are the layers from the third on.
pub record IsFilled {D St : Type 0} (g : Ghosts D St) (old mid : D × List D) : Type 0 where
  pub same : g.layer mid.0 ≡ g.layer old.0
  pub deeper : map g.layer (drop 1 mid.1) ≡ map g.layer (drop 1 old.1)

-- The order of a commit, also of one that ends with a resource error. The layers below are unchanged unless the first flush has succeeded.
-- The top's file gets no request that changes it after `mid` unless the next layer has all data of the top.
pub record CommitOrder {D St : Type 0} (g : Ghosts D St) (old new : D × List D) (flushed : D) (mid : D × List D) : Type 0 where
  pub fills : IsFlushedFirst g old.0 flushed ⊎ (mid.1 ≡ old.1)
  pub empties : (IsFlushedFirst g old.0 flushed × IsFilled g old mid) ⊎ MakesNone (g.image mid.0) (g.image new.0)
  pub keeps_layer_state : NextPair (λ n m. KeepsLayerState (g.layer n.0) (g.layer m.0)) old.1 mid.1

-- The pairs of files that a crash may leave. First the top is flushed. From then on to `mid` its files are unchanged, and each crash image
-- of the next layer's file is good below them. From `mid` on the layers below are unchanged, the next layer's file says what its disk is,
-- and each crash image of the top's file is good above it. Or the call ended at `mid`. The counts of the top's file don't fall.
pub record CommitMoments {D St : Type 0} (g : Ghosts D St) (old new : D × List D) (flushed : D) (mid : D × List D) : Type 0 where
  pub flush : KeepsCrashImages g (map g.layer old.1) GivesNone old.0 flushed
  pub top_kept : Pairs UnchangedButMoreFaults (files g flushed) (files g mid.0)
  pub next : NextPair (λ n m. UnrefusedCrashImages (IsPairBelow g old (g.image flushed).bytes n) (g.image n.0) (g.image m.0)) old.1 mid.1
  pub below_kept : new.1 ≡ mid.1
  pub settled : OfNext (λ n. IsSettled g n.0) mid.1 ⊎ MakesNone (g.image mid.0) (g.image new.0)
  pub top : UnrefusedCrashImages (IsPairAbove g old mid) (g.image mid.0) (g.image new.0)
  pub counts_before : IsLater (g.image old.0) (g.image flushed)
  pub counts_after : IsLater (g.image mid.0) (g.image new.0)
  pub order : CommitOrder g old new flushed mid

-- A commit that wasn't refused early and had no resource error began with a flush of the top: the top's file says what its disk was. At
-- `mid` the top is still the same, and the chain reads as the disk did.
pub record FlushesFirst {D St : Type 0} (g : Ghosts D St) (old : D × List D) (flushed : D) (mid : D × List D) : Type 0 where
  pub meant : IsMeant (g.layer old.0) (g.image flushed).bytes
  pub same : g.layer mid.0 ≡ g.layer old.0
  pub reads : (p : ℕ) → p < (g.layer old.0).size → at (map g.layer (chain mid)) p ≡ at (map g.layer (chain old)) p

-- The effect of `commit_down`.
pub record CommitsDown {D St : Type 0} (g : Ghosts D St) (result : Result Unit Fault) (old new : D × List D) : Type 0 where
  pub disk : IsCommittable g old → HadNoResourceError result → ChainStays g old new
  pub below : IsCommittable g old → OnOk result (BelowTakesDisk g old new)
  pub moments : IsCommittable g old
      → (flushed : D) × (mid : D × List D) × CommitMoments g old new flushed mid × OnOk result (Vacates g mid new.0)
      × (commit_down_refusal (g.layer old.0) (map g.layer old.1) ≡ None → HadNoResourceError result → FlushesFirst g old flushed mid)
  pub top : KeepsLayerState (g.layer old.0) (g.layer new.0)
  pub mutating_call : MutatingCall g (HadNoResourceError result) (HadNoResourceError result) old.0 new.0
  pub next : NextPair (ChainRangeChange g (HadNoResourceError result) (GivesOwn g old.0)) old.1 new.1
  pub next_keeps_layer_state : NextPair (λ n m. KeepsLayerState (g.layer n.0) (g.layer m.0)) old.1 new.1
  pub committable : IsCommittable g old → HadNoResourceError result → IsCommittable g new
  pub below_is_clean : IsCommittable g old → HadNoResourceError result → Each g.has_no_dirty_data old.1 → Each g.has_no_dirty_data new.1
  pub flushed : IsCommittable g old → OnOk result (IsSettled g new.0 × OfNext (λ n. IsSettled g n.0) new.1)

abbrev pub IsResourceError : Fault → Type 0
IsResourceError fault = IsNotResourceError fault → ⊥

-- The error of the discard of the top, when it is this driver over these layers below.
abbrev pub EmptyCause : {D St : Type 0} → Ghosts D St → D → List Layer → Fault → Type 0
EmptyCause g top below fault =
    IsResourceError fault ⊎ (OwnReadCause (g.layer top) fault ⊎ g.own_cause top below (discard_to_backing 0 (g.layer top).size) fault)

-- The top was emptied: its whole disk was discarded to the layers below, and then it was flushed. The discard gives values of the layers
-- below, which may be any that the top reads through to.
pub record EmptiesTop {D St : Type 0} (g : Ghosts D St) (result : Result Unit Fault) (old new : D) : Type 0 where
  pub keeps_layer_state : KeepsLayerState (g.layer old) (g.layer new)
  pub mutating_call : MutatingCall g (HadNoResourceError result) (HadNoResourceError result) old new
  pub range_change : (below : List D)
      → ChainRangeChange g (HadNoResourceError result) (GivesBelow (map g.layer below) 0 (g.layer old).size) (old, below) (new, below)
  pub flushed : g.well_formed old → OnOk result (IsSettled g new)
  pub vacates : g.well_formed old → (below : List D) → OnOk result (Vacates g (old, below) new)
  pub failed : IfErr result (Fails g old new)
  pub cause : g.well_formed old → IsTrue (g.layer old).fixed.writable → (below : List D)
      → IfErr result (EmptyCause g old (map g.layer below))

-- The top was emptied as a driver with the layer that it had at entry, over the new layers below. That failed with this error.
pub record EmptiesCause {D St : Type 0} (g : Ghosts D St) (top : D) (news : List D) (fault : Fault) : Type 0 where
  pub mid : D
  pub same : g.layer mid ≡ g.layer top
  pub cause : EmptyCause g mid (map g.layer news) fault

-- The errors of a commit that isn't refused early: memory, a storage, a read of the top's own bytes, a write to the next layer, or the
-- discard of the top.
abbrev pub CommitDownCause : {D St : Type 0} → Ghosts D St → D → D × List D → List D → Fault → Type 0
CommitDownCause g top next news fault = IsResourceError fault ⊎ (CopyDownCause g top next fault ⊎ EmptiesCause g top news fault)

-- The errors of `commit_down` on a well-formed chain. `CommitDownFails` lists those of any chain.
abbrev pub CommitDownRefused : {D St : Type 0} → Ghosts D St → D × List D → D × List D → Fault → Type 0
CommitDownRefused g old new fault = IsResourceError fault
    ⊎ ((commit_down_refusal (g.layer old.0) (map g.layer old.1) ≡ Some fault) ⊎ OfNext (λ n. CommitDownCause g old.0 n new.1 fault) old.1)

abbrev pub CommitDownFails : {D St : Type 0} → Ghosts D St → D × List D → D × List D → Fault → Type 0
CommitDownFails g old new fault = (commit_down_refusal (g.layer old.0) (map g.layer old.1) ≡ Some fault) ⊎ ChainFails g old new fault

-- After `Memory`, if its format marks failures, the top has failed, or the layers below are unchanged and so is the top's disk.
abbrev pub SparesMemory : {D St : Type 0} → Ghosts D St → D × List D → D × List D → Fault → Type 0
SparesMemory g old new fault = fault ≡ Memory → IsTrue (g.layer old.0).fixed.marks_failed → IsTrue (g.layer new.0).failed
    ⊎ ((new.1 ≡ old.1) × (g.well_formed old.0 → g.well_formed new.0 × (g.layer new.0 ≡ g.layer old.0)))

-- The failed state of the top, if its format marks failures. After `Storage` it has failed. `Memory`: see `SparesMemory`.
pub record MarksCommitFailed {D St : Type 0} (g : Ghosts D St) (old new : D × List D) (fault : Fault) : Type 0 where
  pub storage : fault ≡ Storage → IsTrue (g.layer old.0).fixed.marks_failed → IsTrue (g.layer new.0).failed
  pub memory : SparesMemory g old new fault

-- The image is marked failed after `Storage`, and after `Memory` once a change was begun. Otherwise it is unchanged.
abbrev pub MarksAfter : {D St : Type 0} → Ghosts D St → Result Unit Fault → Bool → D → D → Type 0
MarksAfter g (Err Storage) begun old new = IsMarkedFailed g old new
MarksAfter g (Err Memory) true old new = IsMarkedFailed g old new
MarksAfter g result begun old new = new ≡ old

-- The errors of a commit that isn't refused early, if the chain is well-formed.
abbrev pub StepsRefused : {D St : Type 0} → Ghosts D St → Result Unit Fault → D → D × List D → List D → Type 0
StepsRefused g result top next news = IsCommittable g (top, chain next) → IfErr result (CommitDownCause g top next news)
