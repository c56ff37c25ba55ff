-- Specifies the requests of a storage: what a read returns, what a change does, and what an error leaves. Bytes past the end of a file read
-- as 0.
use Rattle.std.specs.Prelude.{◌≡◌, ◌⊎◌, ℕ, ◌+◌, ◌-◌, ◌<◌, ◌≤◌, max, List, ◌∷◌, length, slice_index, replicate, IsTrue, Result, MatchResult}
use Rattle.imago_storage.specs.State.{StorageState, HasRisen, CrashImageIsBytes}
use Rattle.imago_storage.specs.declared.fault.Fault.{Fault}
use Rattle.imago_storage.specs.declared.fault.Fault.TheVariants.{Unsupported, Memory, Storage}

-- `new` is `old` with `bytes` written over it from `at` on.
pub record Spliced (old : List ℕ) (at : ℕ) (bytes new : List ℕ) : Type 0 where
  pub before : (k : ℕ) → k < at → slice_index new k ≡ slice_index old k
  pub inside : (k : ℕ) → at ≤ k → k < at + length bytes → slice_index new k ≡ slice_index bytes (k - at)
  pub after : (k : ℕ) → at + length bytes ≤ k → slice_index new k ≡ slice_index old k

-- `new` is `old`, except that each byte of the range may be old or new.
pub record OldOrNewBytes (old : List ℕ) (at : ℕ) (bytes new : List ℕ) : Type 0 where
  pub before : (k : ℕ) → k < at → slice_index new k ≡ slice_index old k
  pub inside : (k : ℕ) → at ≤ k → k < at + length bytes → (slice_index new k ≡ slice_index old k)
      ⊎ (slice_index new k ≡ slice_index bytes (k - at))
  pub after : (k : ℕ) → at + length bytes ≤ k → slice_index new k ≡ slice_index old k

-- `new` is `old` outside the range.
pub record SameOutside (old : List ℕ) (at n : ℕ) (new : List ℕ) : Type 0 where
  pub before : (k : ℕ) → k < at → slice_index new k ≡ slice_index old k
  pub after : (k : ℕ) → at + n ≤ k → slice_index new k ≡ slice_index old k

-- The buffer `buf` has the bytes from `at` on.
abbrev pub Reads : List ℕ → ℕ → List ℕ → Type 0
Reads bytes at buf = (k : ℕ) → k < length buf → slice_index buf k ≡ slice_index bytes (at + k)

-- The fault count has risen after `Storage`, and is unchanged after `Memory`. A call has no other errors.
abbrev pub Cause : ℕ → ℕ → Fault → Type 0
Cause before after Memory = after ≡ before
Cause before after Storage = HasRisen before after
Cause before after fault = ⊥

-- The fault count is unchanged after success, and fits the fault after an error (`Cause`).
abbrev pub CountsFaults : {T : Type 0} → ℕ → ℕ → Result T Fault → Type 0
CountsFaults before after result = MatchResult result (λ _. after ≡ before) (Cause before after)

-- The call changes nothing except the fault count.
pub record UnchangedButFaults (old new : StorageState) : Type 0 where
  pub shape : new.shape ≡ old.shape
  pub bytes : new.bytes ≡ old.bytes
  pub refusals : new.refusals ≡ old.refusals
  pub crash_image : new.crash_image ≡ old.crash_image
  pub past_crash_images : new.past_crash_images ≡ old.past_crash_images

-- The counts of faults and of refused changes don't fall.
pub record CountsNotFallen (old new : StorageState) : Type 0 where
  pub faults : old.faults ≤ new.faults
  pub refusals : old.refusals ≤ new.refusals

-- No request failed, and no change was refused.
abbrev pub IsFaultless : StorageState → StorageState → Type 0
IsFaultless old new = (new.faults ≡ old.faults) × (new.refusals ≡ old.refusals)

-- The call makes one request if it succeeds, and none if it fails.
abbrev pub RequestsOne : {T : Type 0} → StorageState → StorageState → Result T Fault → Type 0
RequestsOne old new result = MatchResult result (λ _. IsTrue old.shape.tells → new.past_crash_images ≡ old.crash_image ∷ old.past_crash_images) (λ _.
    (new.crash_image ≡ old.crash_image) × (new.past_crash_images ≡ old.past_crash_images))

-- A change succeeded, in one request.
pub record Changed (old new : StorageState) : Type 0 where
  pub shape : new.shape ≡ old.shape
  pub faults : new.faults ≡ old.faults
  pub refusals : new.refusals ≡ old.refusals
  pub mark : IsTrue old.shape.tells → new.past_crash_images ≡ old.crash_image ∷ old.past_crash_images
  pub crash_image_is_bytes : CrashImageIsBytes old → CrashImageIsBytes new

-- A change was refused: no crash image was added.
pub record Refused (old new : StorageState) (fault : Fault) : Type 0 where
  pub shape : new.shape ≡ old.shape
  pub cause : Cause old.faults new.faults fault
  pub refusals : HasRisen old.refusals new.refusals
  pub crash_image : new.crash_image ≡ old.crash_image
  pub past_crash_images : new.past_crash_images ≡ old.past_crash_images

-- The range has the new bytes. If it ends past the old end, the length becomes its end, and a gap before it is 0.
pub record Written (old new : StorageState) (at : ℕ) (bytes : List ℕ) : Type 0 where
  pub changed : Changed old new
  pub content : IsTrue old.shape.keeps → Spliced old.bytes at bytes new.bytes
  pub size : length new.bytes ≡ max (length old.bytes) (at + length bytes)

-- A write was refused: each byte of the range is old or new.
pub record NotWritten (old new : StorageState) (at : ℕ) (bytes : List ℕ) (fault : Fault) : Type 0 where
  pub refused : Refused old new fault
  pub content : IsTrue old.shape.keeps → OldOrNewBytes old.bytes at bytes new.bytes
  pub no_shorter : length old.bytes ≤ length new.bytes
  pub no_longer : length new.bytes ≤ max (length old.bytes) (at + length bytes)

-- The bytes of the range are unspecified, and the length is unchanged.
pub record Discarded (old new : StorageState) (at n : ℕ) : Type 0 where
  pub changed : Changed old new
  pub content : IsTrue old.shape.keeps → SameOutside old.bytes at n new.bytes
  pub size : length new.bytes ≡ length old.bytes

-- A discard was refused: the bytes of the range are unspecified.
pub record NotDiscarded (old new : StorageState) (at n : ℕ) (fault : Fault) : Type 0 where
  pub refused : Refused old new fault
  pub content : IsTrue old.shape.keeps → SameOutside old.bytes at n new.bytes
  pub size : length new.bytes ≡ length old.bytes

-- Bytes below both lengths are unchanged, and new bytes are 0.
pub record Resized (old new : StorageState) (n : ℕ) : Type 0 where
  pub changed : Changed old new
  pub content : IsTrue old.shape.keeps → (k : ℕ) → k < n → slice_index new.bytes k ≡ slice_index old.bytes k
  pub size : length new.bytes ≡ n

-- A resize was refused: the bytes are unchanged.
pub record NotResized (old new : StorageState) (fault : Fault) : Type 0 where
  pub refused : Refused old new fault
  pub bytes : new.bytes ≡ old.bytes

-- `Unsupported` changes nothing and isn't counted. `P` holds for any other fault.
abbrev pub UnlessUnsupported : StorageState → StorageState → (Fault → Type 0) → Fault → Type 0
UnlessUnsupported old new P Unsupported = new ≡ old
UnlessUnsupported old new P fault = P fault

-- The error clause of a zeroing.
abbrev pub ZeroingRefused : StorageState → StorageState → (at n : ℕ) → Fault → Type 0
ZeroingRefused old new at n = UnlessUnsupported old new (NotWritten old new at (replicate n 0))

-- The error clause of a discard.
abbrev pub DiscardRefused : StorageState → StorageState → (at n : ℕ) → Fault → Type 0
DiscardRefused old new at n = UnlessUnsupported old new (NotDiscarded old new at n)

-- The error clause of a resize.
abbrev pub ResizeRefused : StorageState → StorageState → Fault → Type 0
ResizeRefused old new = UnlessUnsupported old new (NotResized old new)

-- The errors of resolving a name: `Unsupported` and `Memory`. The call can't count a fault, so it never returns `Storage`.
abbrev pub NotResolved : Fault → Type 0
NotResolved Unsupported = Unit
NotResolved Memory = Unit
NotResolved fault = ⊥
