-- Specifies `flatten`: how the source and the target are related before and after the copy of a chain's disk into another's, and the
-- errors.
use Rattle.std.specs.Prelude.{◌≡◌, ◌⊎◌, ⊤, ℕ, ◌*◌, ◌-◌, ◌<◌, ◌≤◌, min, List, None, Result, Ok, OnOk, IfErr, IsTrue, length, map, slice_index}
use Rattle.imago_storage.specs.Disk.{Value, byte, Disk, Shows}
use Rattle.imago_storage.specs.Steps.{IsIn, IsOut, write}
use Rattle.imago_storage.specs.declared.fault.Fault.{Fault}
use Rattle.imago_access.specs.declared.driver_model.DriverModel.{Ghosts}
use Rattle.imago_access.specs.Layer.{KeepsLayerState}
use Rattle.imago_access.specs.Layers.{chain}
use Rattle.imago_access.specs.Chain.{at, Each, unit_of_chain}
use Rattle.imago_access.specs.ChainCalls.{ChainFails, UnlessResourceError, OwnCause, TakesNear}
use Rattle.imago_access.specs.Files.{IsNotResourceError, Pairs, HadNoResourceError, files_of}
use Rattle.imago_access.specs.Going.{LookupCall, MarksSomeFailed}
use Rattle.imago_access.specs.Refusals.{unusable_fault, ReadCause}
use Rattle.imago_access.specs.RunCalls.{MarksTopFailed}
use Rattle.imago_access.specs.Running.{ChainRangeChange, IsIntactChain, below_ghosts, chain_disk}
use Rattle.qimg_calls.specs.Held.{IsReady}
use Rattle.qimg_calls.specs.Runs.{HoldsSince}
use Rattle.qimg_calls.specs.Since.{Since, begun}

-- The drivers of two chains: the source and the target.
abbrev pub Chains : Type 0 → Type 0 → Type 0
Chains S T = (S × List S) × (T × List T)

-- The source is coherent (it has in memory what its files say). The target's top is well-formed, and the images below it are coherent.
pub record IsSoundPair {S P T Q : Type 0} (g : Ghosts S P) (h : Ghosts T Q) (chains : Chains S T) : Type 0 where
  pub source : Each g.coherent (chain chains.0)
  pub target : IsIntactChain h chains.1

-- The value is a byte, so it can be read.
abbrev pub HasByte : Value → Type 0
HasByte v = (b : ℕ) × (v ≡ byte b)

-- The conditions to copy `n` bytes: both chains are usable, and the target is writable if `n` isn't 0.
pub record MayCopy {S P T Q : Type 0} (g : Ghosts S P) (h : Ghosts T Q) (n : ℕ) (chains : Chains S T) : Type 0 where
  pub source : unusable_fault (g.layer chains.0.0) ≡ None
  pub target : unusable_fault (h.layer chains.1.0) ≡ None
  pub writable : 0 < n → IsTrue (h.layer chains.1.0).fixed.writable

-- The value that a copy may give to a byte. If the source is coherent, it is the source's byte.
abbrev pub GivesRead : {D St : Type 0} → Ghosts D St → D × List D → ℕ → Value → Type 0
GivesRead g source p v = HasByte v × (Each g.coherent (chain source) → v ≡ (chain_disk g.layer source).value p)

-- Each offset of the range has a byte in the source, and the target now reads as that byte. The target is unchanged outside the range.
pub record IsRangeCopied (source old new : Disk) (offset n : ℕ) : Type 0 where
  pub size : new.size ≡ old.size
  pub range : (p : ℕ) → IsIn offset n p → HasByte (source.value p) × (new.value p ≡ source.value p)
  pub others : (p : ℕ) → p < old.size → IsOut offset n p → new.value p ≡ old.value p

-- A range is copied in part: each of its bytes is old or the source's. The target is unchanged outside the range.
pub record IsRangeCopiedInPart (source old new : Disk) (offset n : ℕ) : Type 0 where
  pub size : new.size ≡ old.size
  pub range : (p : ℕ) → p < old.size → IsIn offset n p
      → (new.value p ≡ old.value p) ⊎ (HasByte (source.value p) × (new.value p ≡ source.value p))
  pub others : (p : ℕ) → p < old.size → IsOut offset n p → new.value p ≡ old.value p

abbrev pub CopiesRange : {S P T Q : Type 0} → Ghosts S P → Ghosts T Q → ℕ → ℕ → Chains S T → T × List T → Type 0
CopiesRange g h offset n old new = IsRangeCopied (chain_disk g.layer old.0) (chain_disk h.layer old.1) (chain_disk h.layer new) offset n

abbrev pub CopiesInPart : {S P T Q : Type 0} → Ghosts S P → Ghosts T Q → ℕ → ℕ → Chains S T → T × List T → Type 0
CopiesInPart g h offset n old new =
    IsRangeCopiedInPart (chain_disk g.layer old.0) (chain_disk h.layer old.1) (chain_disk h.layer new) offset n

-- The target has the size of the source, and reads as the source everywhere.
abbrev pub CopiesDisk : {S P T Q : Type 0} → Ghosts S P → Ghosts T Q → Chains S T → T × List T → Type 0
CopiesDisk g h old new = ((h.layer old.1.0).size ≡ (g.layer old.0.0).size) × CopiesRange g h 0 (g.layer old.0.0).size old new

-- A read of the source failed. The target had no resource error (`Memory` or `Storage`).
pub record SourceFails {S P T Q : Type 0} (g : Ghosts S P) (h : Ghosts T Q) (old new : Chains S T) (fault : Fault) : Type 0 where
  pub cause : ChainFails g old.0 new.0 fault
  pub marks_failed : MarksSomeFailed g (chain old.0) (chain new.0) fault
  pub target : ChainRangeChange h ⊤ (GivesRead g old.0) old.1 new.1

-- A write of the target failed. The source had no resource error.
pub record TargetFails {S P T Q : Type 0} (g : Ghosts S P) (h : Ghosts T Q) (old new : Chains S T) (fault : Fault) : Type 0 where
  pub cause : ChainFails h old.1 new.1 fault
  pub marks_failed : MarksTopFailed h (below_ghosts h) old.1 new.1 fault
  pub source : Pairs (LookupCall g ⊤) (chain old.0) (chain new.0)

abbrev pub CopyFails : {S P T Q : Type 0} → Ghosts S P → Ghosts T Q → Chains S T → Chains S T → Fault → Type 0
CopyFails g h old new fault = SourceFails g h old new fault ⊎ TargetFails g h old new fault

-- A range is copied. The source is only read, and bytes of the target become the source's, even if the copy fails. A successful copy has
-- copied the whole range.
pub record Copies {S P T Q : Type 0} (g : Ghosts S P) (h : Ghosts T Q) (offset n : ℕ) (result : Result Unit Fault)
    (old new : Chains S T) : Type 0 where
  pub source : Pairs (LookupCall g (HadNoResourceError result)) (chain old.0) (chain new.0)
  pub range_change : ChainRangeChange h (HadNoResourceError result) (GivesRead g old.0) old.1 new.1
  pub keeps_layer_state : KeepsLayerState (h.layer old.1.0) (h.layer new.1.0)
  pub room : TakesNear h offset n result old.1 new.1
  pub copied : IsSoundPair g h old → OnOk result (CopiesRange g h offset n old new.1)
  pub failed : IfErr result (CopyFails g h old new)

-- The error of a piece: a read of the source failed, or a write of the source's bytes to the target.
abbrev pub PieceUnread : {D St : Type 0} → Ghosts D St → ℕ → ℕ → D × List D → D × List D → Fault → Type 0
PieceUnread g offset n old new = let layers = map g.layer (chain old) in
    ReadCause layers (at layers) (unit_of_chain layers) offset n (files_of g (chain old)) (files_of g (chain new))

pub record PieceUnwritten {D St : Type 0} (h : Ghosts D St) (source : Disk) (offset n : ℕ) (old new : D × List D)
    (fault : Fault) : Type 0 where
  pub bytes : List ℕ
  pub long : length bytes ≡ n
  pub shown : Shows source.value offset bytes
  pub cause : OwnCause h (write offset bytes) old new fault

abbrev pub PieceCause : {S P T Q : Type 0} → Ghosts S P → Ghosts T Q → ℕ → ℕ → Chains S T → Chains S T → Fault → Type 0
PieceCause g h offset n old new fault =
    PieceUnread g offset n old.0 new.0 fault ⊎ PieceUnwritten h (chain_disk g.layer old.0) offset n old.1 new.1 fault

abbrev pub PieceRefused : {S P T Q : Type 0} → Ghosts S P → Ghosts T Q → ℕ → ℕ → Result Unit Fault → Chains S T → Chains S T → Type 0
PieceRefused g h offset n result old new = IsSoundPair g h old → IfErr result (PieceCause g h offset n old new)

-- A piece that fails without a resource error is copied in part.
abbrev pub PieceCrashImages : {S P T Q : Type 0} → Ghosts S P → Ghosts T Q → ℕ → ℕ → Result Unit Fault → Chains S T → T × List T → Type 0
PieceCrashImages g h offset n result old new = IsSoundPair g h old → UnlessResourceError result (CopiesInPart g h offset n old new)

-- A piece of a disk: `n` bytes from a multiple of 65,536 on, or those up to the disk's end.
pub record IsPiece (size offset n : ℕ) : Type 0 where
  pub index : ℕ
  pub start : offset ≡ index * 65536
  pub inside : offset ≤ size
  pub long : n ≡ min 65536 (size - offset)

-- The cause of a failed copy: a piece failed, after all pieces before it were copied. Without a resource error, that piece is copied in
-- part, and no byte after it has changed.
pub record CopyCause {S P T Q : Type 0} (g : Ghosts S P) (h : Ghosts T Q) (old new : Chains S T) (fault : Fault) : Type 0 where
  pub offset : ℕ
  pub n : ℕ
  pub piece : IsPiece (g.layer old.0.0).size offset n
  pub mid : Chains S T
  pub before : Copies g h 0 offset (Ok tt) old mid
  pub cause : PieceCause g h offset n mid new fault
  pub copied_in_part : IsNotResourceError fault → CopiesInPart g h offset n mid new.1

abbrev pub CopyRefused : {S P T Q : Type 0} → Ghosts S P → Ghosts T Q → Result Unit Fault → Chains S T → Chains S T → Type 0
CopyRefused g h result old new = IsSoundPair g h old → IfErr result (CopyCause g h old new)

-- The list has the bytes of a disk. At offsets without a byte it may have any value.
pub record AreBytesOf (disk : Disk) (bytes : List ℕ) : Type 0 where
  pub long : length bytes ≡ disk.size
  pub same : (p b : ℕ) → p < disk.size → disk.value p ≡ byte b → slice_index bytes p ≡ b

-- The state after a copy without a resource error: the target is ready for more calls. Each byte of its file and disk has a value that
-- `Since` allows, as if a write of the source's bytes had begun.
abbrev pub HoldsAfter : {S P T Q : Type 0} → Ghosts S P → Ghosts T Q → Result Unit Fault → Chains S T → T × List T → Type 0
HoldsAfter g h result old new = (since : Since) (bytes : List ℕ) → Each g.coherent (chain old.0)
    → AreBytesOf (chain_disk g.layer old.0) bytes → IsReady h old.1 → HoldsSince h since old.1 → HadNoResourceError result
    → IsReady h new × HoldsSince h (begun since (chain_disk h.layer old.1) (write 0 bytes)) new
