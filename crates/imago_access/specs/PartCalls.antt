-- Specifies the four calls of a driver that zero or discard a part of a range (`ensure_zero_mapping`, `discard_to_zero`, `discard_to_any`,
-- `discard_to_backing`), and how they differ.
use Rattle.std.specs.Prelude.{◌≡◌, ⊤, ◌⊎◌, ℕ, ◌+◌, ◌≤◌, List, Result, IfOk, IfErr}
use Rattle.imago_storage.specs.Disk.{Value}
use Rattle.imago_storage.specs.Steps.{Call, write_zeroes, discard_to_zero, discard_to_any, discard_to_backing, IsIn, IsOut}
use Rattle.imago_storage.specs.declared.fault.Fault.{Fault}
use Rattle.imago_access.specs.declared.driver_model.DriverModel.{Ghosts}
use Rattle.imago_access.specs.Layer.{Layer, Cell, KeepsLayerState}
use Rattle.imago_access.specs.Chain.{IsBacked}
use Rattle.imago_access.specs.Room.{Reaches, Takes, GivesUp}
use Rattle.imago_access.specs.Files.{ImageCause, IsNotResourceError, HadNoResourceError, files}
use Rattle.imago_access.specs.Going.{MutatingCall, MarksFailed}
use Rattle.imago_access.specs.Changes.{Rewrites, PartRewrites, ToZero, ToAny, ToBelow}
use Rattle.imago_access.specs.Parts.{IsPartOf, DeclinableCause}
use Rattle.imago_access.specs.Stops.{KeepsCrashImages, GivesZero, GivesAny, GivesBelow}

pub data PartCall : Type 0 where
  -- zeroes, and keeps what is allocated
  ensures_zero : PartCall
  -- zeroes, and deallocates
  discards_to_zero : PartCall
  -- deallocates, and the bytes may become any bytes
  discards_to_any : PartCall
  -- deallocates, and the bytes read as in the layer below (the backing file)
  discards_to_backing : PartCall

-- The changes of a byte that the call allows.
abbrev pub Becomes : PartCall → Layer → ℕ → Cell → Cell → Type 0
Becomes ensures_zero layer = ToZero
Becomes discards_to_zero layer = ToZero
Becomes discards_to_any layer = ToAny
Becomes discards_to_backing layer = ToBelow layer.fixed.blank

-- The values that the call may give in a crash image.
abbrev pub PartGives : PartCall → List Layer → ℕ → ℕ → ℕ → Value → Type 0
PartGives ensures_zero below = GivesZero
PartGives discards_to_zero below = GivesZero
PartGives discards_to_any below = GivesAny
PartGives discards_to_backing below = GivesBelow below

-- The layers below for which its crash images are specified.
abbrev pub IsToldOver : PartCall → List Layer → Layer → Type 0
IsToldOver discards_to_backing below layer = IsBacked below layer
IsToldOver call below layer = ⊤

-- The effect on allocations. A zeroing that keeps allocations allocates only in its range and deallocates nothing. The other calls allocate
-- nothing and deallocate only in their range.
abbrev pub LeavesPart : {D St : Type 0} → PartCall → Ghosts D St → ℕ → ℕ → D → D → Type 0
LeavesPart ensures_zero g offset n = Takes g (IsOut offset n)
LeavesPart call g offset n = GivesUp g offset n

-- The state of each byte of the part after the call.
abbrev pub IsDone : {D St : Type 0} → PartCall → Ghosts D St → D → ℕ → Type 0
IsDone ensures_zero g = g.zeroed
IsDone call g = g.unallocated

-- The call of a disk that is made of these driver calls.
abbrev pub IsFor : PartCall → Call → Type 0
IsFor ensures_zero (write_zeroes offset n) = ⊤
IsFor discards_to_zero (discard_to_zero offset n) = ⊤
IsFor discards_to_any (discard_to_any offset n) = ⊤
IsFor discards_to_backing (discard_to_backing offset n) = ⊤
IsFor call whole = ⊥

-- The part that the call returns is inside the range, or the part is empty and starts at or after `offset`. For an empty range the part is
-- empty, at the start of the range.
pub record IsPart (offset n : ℕ) (part : ℕ × ℕ) : Type 0 where
  pub inside : (offset ≤ part.0) × ((part.1 ≡ 0) ⊎ (part.0 + part.1 ≤ offset + n))
  pub empty : n ≡ 0 → part ≡ (offset, 0)

-- The effect of the call. Fields that need a well-formed driver say so.
pub record DoesPart {D St : Type 0} (call : PartCall) (g : Ghosts D St) (offset n : ℕ)
    (result : Result (ℕ × ℕ) Fault) (old new : D) : Type 0 where
  pub ok : g.well_formed old → IfOk result (λ r. Rewrites (Becomes call (g.layer old)) (g.layer old) (g.layer new) r.0 r.1)
  pub err : g.well_formed old → IfErr result (λ e. IsNotResourceError e → PartRewrites (Becomes call (g.layer old)) (g.layer old) (g.layer new) offset n)
  pub reach : g.well_formed old → IfOk result (λ r. Reaches (g.layer old).fixed.unit (g.layer old).size offset n r.0 r.1)
  pub given : g.well_formed old → IfOk result (λ r. (p : ℕ) → IsIn r.0 r.1 p → IsDone call g new p)
  pub room : g.well_formed old → HadNoResourceError result → LeavesPart call g offset n old new
  pub keeps_layer_state : KeepsLayerState (g.layer old) (g.layer new)
  pub mutating_call : MutatingCall g (HadNoResourceError result) (HadNoResourceError result) old new
  pub stays_begun : (d : D) (whole : Call) → g.began d whole old → IsPartOf whole offset n → IsFor call whole → HadNoResourceError result
      → g.began d whole new
  pub crash_images : g.well_formed old → (below : List Layer) → IsToldOver call below (g.layer old)
      → KeepsCrashImages g below (PartGives call below offset n) old new

-- The errors of the call, as a part of a call of the disk.
pub record PartRefused {D St : Type 0} (call : PartCall) (g : Ghosts D St) (offset n : ℕ)
    (result : Result (ℕ × ℕ) Fault) (old new : D) : Type 0 where
  pub failed : IfErr result (ImageCause (files g old) (files g new))
  pub marks_failed : IfErr result (MarksFailed g old new)
  pub cause : g.well_formed old → (below : List Layer) (d : D) (whole : Call) → g.began d whole old → IsPartOf whole offset n → IsFor call whole
      → IfErr result (DeclinableCause below (g.layer old) offset n (g.own_cause d below whole) (files g old) (files g new))
