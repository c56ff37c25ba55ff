-- Specifies the calls of `StorageExt`. A call pads its range to whole units, and may make several requests.
use Rattle.std.specs.Prelude.{◌≡◌, ◌⊎◌, ℕ, ◌+◌, ◌-◌, ◌*◌, ◌/◌, ◌%◌, ◌<◌, ◌≤◌, ◌^◌, max, List, ◌∷◌, ◌++◌, length, replicate, All, IsTrue, Result, MatchResult}
use Rattle.imago_storage.specs.State.{StorageState, HasRisen, CrashImageIsBytes, unit_of}
use Rattle.imago_storage.specs.Calls.{Spliced, OldOrNewBytes, Cause, UnchangedButFaults, CountsNotFallen, Discarded, NotDiscarded, SameOutside}
use Rattle.imago_storage.specs.declared.fault.Fault.{Fault}
use Rattle.imago_storage.specs.declared.fault.Fault.TheVariants.{RangeOverflow, Unsupported}
use Rattle.imago_storage.specs.declared.padding.WriteFault.{WriteFault}
use Rattle.imago_storage.specs.declared.padding.WriteFault.TheVariants.{Before, Within}

-- The least multiple of `unit` that isn't below `n`.
unfoldable pub round_up : ℕ → ℕ → ℕ
round_up unit n = (n + (unit - 1)) / unit * unit

-- The greatest multiple of `unit` that isn't above `n`.
unfoldable pub round_down : ℕ → ℕ → ℕ
round_down unit n = n / unit * unit

-- The range contains at least one whole unit, from its first multiple of the unit to its last.
abbrev pub HasWholeUnits : ℕ → ℕ → ℕ → Type 0
HasWholeUnits unit at n = round_up unit at < round_down unit (at + n)

-- The padded end doesn't fit 64 bits.
abbrev pub Overflows : ℕ → ℕ → ℕ → Type 0
Overflows unit at n = (0 < n) × (2 ^ 64 ≤ round_up unit (at + n))

-- The range consists of whole units.
abbrev pub IsUnitAligned : ℕ → ℕ → ℕ → Type 0
IsUnitAligned unit at n = (at % unit ≡ 0) × (n % unit ≡ 0)

-- The range consists of whole units, or is inside one.
abbrev pub FitsOneRequest : ℕ → ℕ → ℕ → Type 0
FitsOneRequest unit at n = IsUnitAligned unit at n ⊎ (at % unit + n ≤ unit)

-- `P` holds for each crash image since `old`, without that of `old` itself. `files` lists these crash images, the newest first.
pub record EachCrashImageIn (P : List ℕ → Type 0) (old new : StorageState) : Type 0 where
  pub files : List (List ℕ)
  pub told : new.crash_image ∷ new.past_crash_images ≡ files ++ (old.crash_image ∷ old.past_crash_images)
  pub each : All P files

-- `P` holds for each crash image since `old`, if the storage exposes its crash images and keeps what is written, and a crash in `old`
-- leaves its bytes.
abbrev pub EachCrashImage : (List ℕ → Type 0) → StorageState → StorageState → Type 0
EachCrashImage P old new = CrashImageIsBytes old → IsTrue old.shape.tells → IsTrue old.shape.keeps → EachCrashImageIn P old new

-- Each crash image since `old` is at least as long as the bytes of `old`.
abbrev pub CrashImagesNoShorter : StorageState → StorageState → Type 0
CrashImagesNoShorter old new = EachCrashImage (λ f. length old.bytes ≤ length f) old new

-- The bytes are written.
pub record PaddedWrite (unit : ℕ) (old new : StorageState) (at : ℕ) (bytes : List ℕ) : Type 0 where
  pub shape : new.shape ≡ old.shape
  pub faults : new.faults ≡ old.faults
  pub refusals : new.refusals ≡ old.refusals
  pub nothing : length bytes ≡ 0 → new ≡ old
  pub content : IsTrue old.shape.keeps → Spliced old.bytes at bytes new.bytes
  pub size : 0 < length bytes → length new.bytes ≡ max (length old.bytes) (round_up unit (at + length bytes))
  pub crash_image_is_bytes : CrashImageIsBytes old → CrashImageIsBytes new
  pub crash_images : EachCrashImage (OldOrNewBytes old.bytes at bytes) old new
  pub as_long : CrashImagesNoShorter old new

-- The storage refused a change. A part of the bytes may have been written.
pub record PaddedWriteFailed (unit : ℕ) (old new : StorageState) (at : ℕ) (bytes : List ℕ) (fault : Fault) : Type 0 where
  pub shape : new.shape ≡ old.shape
  pub cause : Cause old.faults new.faults fault
  pub refusals : HasRisen old.refusals new.refusals
  pub content : IsTrue old.shape.keeps → OldOrNewBytes old.bytes at bytes new.bytes
  pub no_shorter : length old.bytes ≤ length new.bytes
  pub no_longer : length new.bytes ≤ max (length old.bytes) (round_up unit (at + length bytes))
  pub crash_images : EachCrashImage (OldOrNewBytes old.bytes at bytes) old new
  pub as_long : CrashImagesNoShorter old new

-- The call failed before it requested a change. Only the fault count may have risen.
pub record NotBegun (old new : StorageState) (fault : Fault) : Type 0 where
  pub cause : Cause old.faults new.faults fault
  pub unchanged_but_faults : UnchangedButFaults old new

-- A `try_write` with this unit failed. The error says if the write had begun.
abbrev pub RefusedBeforeOrWithin : ℕ → StorageState → StorageState → ℕ → List ℕ → WriteFault → Type 0
RefusedBeforeOrWithin unit old new at bytes (Before fault) = NotBegun old new fault
RefusedBeforeOrWithin unit old new at bytes (Within fault) = PaddedWriteFailed unit old new at bytes fault

-- The call failed. A part of the bytes may have been written.
pub record PaddedWriteRefused (unit : ℕ) (old new : StorageState) (at : ℕ) (bytes : List ℕ) (fault : Fault) : Type 0 where
  pub shape : new.shape ≡ old.shape
  pub cause : Cause old.faults new.faults fault
  -- If no change was refused, none was made. Only the fault count may have risen, and it hasn't if memory ran out.
  pub refused_or_unchanged : HasRisen old.refusals new.refusals ⊎ UnchangedButFaults old new
  pub content : IsTrue old.shape.keeps → OldOrNewBytes old.bytes at bytes new.bytes
  pub no_shorter : length old.bytes ≤ length new.bytes
  pub no_longer : length new.bytes ≤ max (length old.bytes) (round_up unit (at + length bytes))
  pub counts_not_fallen : old.refusals ≤ new.refusals
  -- If no change was refused, the file is still the bytes.
  pub crash_image_is_bytes : HasRisen old.refusals new.refusals ⊎ (CrashImageIsBytes old → CrashImageIsBytes new)
  pub crash_images : EachCrashImage (OldOrNewBytes old.bytes at bytes) old new
  pub as_long : CrashImagesNoShorter old new

-- The bytes are written in one request. An empty range makes none.
pub record OneRequest (unit : ℕ) (old new : StorageState) (at : ℕ) (bytes : List ℕ) : Type 0 where
  pub through : PaddedWrite unit old new at bytes
  pub mark : 0 < length bytes → IsTrue old.shape.tells → new.past_crash_images ≡ old.crash_image ∷ old.past_crash_images

-- No request succeeded, though there were bytes to write.
pub record NoRequest (unit : ℕ) (old new : StorageState) (at : ℕ) (bytes : List ℕ) (fault : Fault) : Type 0 where
  pub nonempty : 0 < length bytes
  pub halted : PaddedWriteFailed unit old new at bytes fault
  pub crash_image : new.crash_image ≡ old.crash_image
  pub past_crash_images : new.past_crash_images ≡ old.past_crash_images

-- `RangeOverflow` occurs only if `P` holds, and changes nothing. `Q` holds for any other fault.
abbrev pub UnlessOverflow : Type 0 → StorageState → StorageState → (Fault → Type 0) → Fault → Type 0
UnlessOverflow P old new Q RangeOverflow = P × (new ≡ old)
UnlessOverflow P old new Q fault = Q fault

-- The call makes one request if it succeeds and has bytes to write, and none if it fails.
abbrev pub RequestsOnce : {T E : Type 0} → StorageState → StorageState → ℕ → Result T E → Type 0
RequestsOnce old new n result =
    MatchResult result (λ _. 0 < n → IsTrue old.shape.tells → new.past_crash_images ≡ old.crash_image ∷ old.past_crash_images)
    (λ _. (new.crash_image ≡ old.crash_image) × (new.past_crash_images ≡ old.past_crash_images))

-- A range of whole units, or one inside a single unit, is written in one request.
abbrev pub WritesInOneRequest : {T E : Type 0} → StorageState → StorageState → (at n : ℕ) → Result T E → Type 0
WritesInOneRequest old new at n result = FitsOneRequest (unit_of old.shape) at n → RequestsOnce old new n result

-- A range of whole units of the larger of the unit and `zero_align` is zeroed in one request.
abbrev pub ZeroesInOneRequest : {T : Type 0} → StorageState → StorageState → (at n : ℕ) → Result T Fault → Type 0
ZeroesInOneRequest old new at n result = IsUnitAligned (max (unit_of old.shape) old.shape.zero_align) at n → RequestsOnce old new n result

-- At most one of three parts has bytes.
abbrev pub IsOnePart : ℕ → ℕ → ℕ → Type 0
IsOnePart head mid tail = ((head ≡ 0) × (mid ≡ 0)) ⊎ (((head ≡ 0) × (tail ≡ 0)) ⊎ ((mid ≡ 0) × (tail ≡ 0)))

-- A range of `n` bytes in three parts: bytes inside one unit, whole units, and bytes inside one unit.
pub record Parts (unit at n head mid : ℕ) : Type 0 where
  pub within : head + mid ≤ n
  pub first : at % unit + head ≤ unit
  -- A range that starts at a unit has no first part. Otherwise the first part ends with its unit or with the range.
  pub edge : ((head ≡ 0) × (at % unit ≡ 0)) ⊎ ((0 < at % unit) × ((at % unit + head ≡ unit) ⊎ (head ≡ n)))
  pub whole : 0 < mid → ((at + head) % unit ≡ 0) × (mid % unit ≡ 0)
  pub last : (at + head + mid) % unit + (n - head - mid) ≤ unit
  pub tail_below_unit : n - head - mid < unit
  pub single_request : FitsOneRequest unit at n → IsOnePart head mid (n - head - mid)

-- The success clause of `write`, with the storage's own unit.
abbrev pub WriteSucceeded : StorageState → StorageState → ℕ → List ℕ → Type 0
WriteSucceeded old new at bytes = PaddedWrite (unit_of old.shape) old new at bytes

-- The error clause of `write`.
abbrev pub WriteFailed : StorageState → StorageState → ℕ → List ℕ → Fault → Type 0
WriteFailed old new at bytes =
    UnlessOverflow (Overflows (unit_of old.shape) at (length bytes)) old new (PaddedWriteRefused (unit_of old.shape) old new at bytes)

-- The error clause of `try_write`, which says if the write had begun.
abbrev pub WriteRefused : StorageState → StorageState → ℕ → List ℕ → WriteFault → Type 0
WriteRefused old new at bytes (Before fault) =
    UnlessOverflow (Overflows (unit_of old.shape) at (length bytes)) old new (NotBegun old new) fault
WriteRefused old new at bytes (Within fault) = PaddedWriteFailed (unit_of old.shape) old new at bytes fault

-- The error clause of `write_allocated_zeroes`. `Unsupported` occurs only if the range has whole units to zero, and changes nothing.
abbrev pub NotZeroed : StorageState → StorageState → ℕ → ℕ → Fault → Type 0
NotZeroed old new at n Unsupported = HasWholeUnits (max (unit_of old.shape) old.shape.zero_align) at n × (new ≡ old)
NotZeroed old new at n fault = WriteFailed old new at (replicate n 0) fault

-- The alignment of the part that a `discard` covers.
abbrev pub discard_unit : StorageState → ℕ
discard_unit s = max (unit_of s.shape) s.shape.discard_align

-- The start and the length in bytes of a range's whole units.
abbrev pub whole_start : StorageState → ℕ → ℕ
whole_start s at = round_up (discard_unit s) at

abbrev pub whole_size : StorageState → ℕ → ℕ → ℕ
whole_size s at n = round_down (discard_unit s) (at + n) - round_up (discard_unit s) at

-- A `discard` succeeded: nothing has changed, or exactly the whole units of the range are discarded.
abbrev pub GivenUp : StorageState → StorageState → ℕ → ℕ → Type 0
GivenUp old new at n = (new ≡ old) ⊎ (HasWholeUnits (discard_unit old) at n × Discarded old new (whole_start old at) (whole_size old at n))

-- A `discard` failed: each byte of the whole units may be discarded, and nothing else.
abbrev pub NotGivenUp : StorageState → StorageState → ℕ → ℕ → Fault → Type 0
NotGivenUp old new at n RangeOverflow = Overflows (unit_of old.shape) at n × (new ≡ old)
NotGivenUp old new at n fault = HasWholeUnits (discard_unit old) at n × NotDiscarded old new (whole_start old at) (whole_size old at n) fault

-- Each crash image of a `discard` is the old file outside the whole units of the range.
abbrev pub CrashImagesOfDiscard : StorageState → StorageState → (at n : ℕ) → Type 0
CrashImagesOfDiscard old new at n = EachCrashImage (SameOutside old.bytes (whole_start old at) (whole_size old at n)) old new

-- The error clause of `read`.
abbrev pub NotRead : StorageState → StorageState → ℕ → ℕ → Fault → Type 0
NotRead old new at n = UnlessOverflow (Overflows (unit_of old.shape) at n) old new (Cause old.faults new.faults)

-- The outcome of a write of a range that can't overflow: the bytes are written, or the call failed. Each crash image has old or new bytes
-- in the range, and old bytes outside.
pub record WriteOutcome {T : Type 0} (old new : StorageState) (at : ℕ) (bytes : List ℕ) (result : Result T Fault) : Type 0 where
  pub answer : MatchResult result (λ _. WriteSucceeded old new at bytes) (PaddedWriteRefused (unit_of old.shape) old new at bytes)
  pub crash_images : EachCrashImage (OldOrNewBytes old.bytes at bytes) old new
  pub shape : new.shape ≡ old.shape
  pub counts_not_fallen : CountsNotFallen old new

-- The outcome of a write in one request, of a range that can't overflow. Each crash image has all old bytes or all new bytes.
pub record AtomicWriteOutcome {T : Type 0} (old new : StorageState) (at : ℕ) (bytes : List ℕ) (result : Result T Fault) : Type 0 where
  pub put : WriteOutcome old new at bytes result
  pub single_request : RequestsOnce old new (length bytes) result
