-- Specifies each successful call on a guest disk: its result, and the bytes of the disk before and after.
use Rattle.std.specs.Prelude.{◌≡◌, ◌⊎◌, ◌↔◌, ℕ, ◌+◌, ◌-◌, ◌<◌, ◌≤◌, Bool, true, false, Some, None, List, length, slice_index, IsTrue}
use Rattle.imago_storage.specs.Disk.{Value, byte, barred, Hold, free, held, Disk, IsFree}

-- The contents of the new bytes after a growth.
pub data Growth : Type 0 where
  anything : Growth
  zeroes : Growth

-- The calls of a disk, with offsets and lengths in bytes. A commit or a cancel says if the prepared mapping has state (something to
-- commit), and if so, if it was prepared under this chain's number.
pub data Call : Type 0 where
  read : (offset n : ℕ) → Call
  write : (offset : ℕ) (bytes : List ℕ) → Call
  write_zeroes : (offset n : ℕ) → Call
  discard_to_zero : (offset n : ℕ) → Call
  discard_to_any : (offset n : ℕ) → Call
  discard_to_backing : (offset n : ℕ) → Call
  prepare : (offset n : ℕ) (overwrite : Bool) → Call
  commit : (state own : Bool) → Call
  cancel : (state own : Bool) → Call
  ensure : (offset n : ℕ) (overwrite : Bool) → Call
  write_mapped : (offset : ℕ) (bytes : List ℕ) → Call
  lookup : (offset n : ℕ) → Call
  flush : Call
  sync : Call
  grow : (size : ℕ) (fill : Growth) → Call
  shrink : (size : ℕ) → Call

-- The result of a lookup: bytes of a storage, zeroes, a part that can't be read as bytes, the layer below (a backing file), or the end of
-- the disk.
pub data Kind : Type 0 where
  stored : Kind
  zero_run : Kind
  special : Kind
  indirect : Kind
  at_end : Kind

-- The result of a call, as far as it concerns only the disk: the bytes, the length and kind of a run, and if a mapping has state.
pub data Answer : Type 0 where
  done : Answer
  bytes_read : (bytes : List ℕ) → Answer
  run : (n : ℕ) → Answer
  found : (kind : Kind) (n : ℕ) → Answer
  prepared : (n : ℕ) (state : Bool) → Answer

-- `p` is in the range.
abbrev pub IsIn : ℕ → ℕ → ℕ → Type 0
IsIn offset n p = (offset ≤ p) × (p < offset + n)

-- `p` is outside the range.
abbrev pub IsOut : ℕ → ℕ → ℕ → Type 0
IsOut offset n p = (p < offset) ⊎ (offset + n ≤ p)

-- The disk is unchanged.
pub record Stays (old new : Disk) : Type 0 where
  pub size : new.size ≡ old.size
  pub value : (p : ℕ) → p < old.size → new.value p ≡ old.value p
  pub hold : (p : ℕ) → p < old.size → new.hold p ≡ old.hold p

-- The range is inside the disk, and nothing outside it changes. Each byte of it becomes a value that `Becomes` allows for its offset and
-- old value.
pub record Changes (Becomes : ℕ → Value → Value → Type 0) (old new : Disk) (offset n : ℕ) : Type 0 where
  pub inside : offset + n ≤ old.size
  pub size : new.size ≡ old.size
  pub range : (p : ℕ) → IsIn offset n p → Becomes p (old.value p) (new.value p)
  pub others : (p : ℕ) → p < old.size → IsOut offset n p → new.value p ≡ old.value p
  pub hold : (p : ℕ) → p < old.size → new.hold p ≡ old.hold p

-- The value is any byte.
abbrev pub IsByte : Value → Type 0
IsByte v = (b : ℕ) × (b < 256) × (v ≡ byte b)

-- The values that a byte of a range may become.
abbrev pub ToBytes : ℕ → List ℕ → ℕ → Value → Value → Type 0
ToBytes offset bytes p was is = is ≡ byte (slice_index bytes (p - offset))

abbrev pub ToZero : ℕ → Value → Value → Type 0
ToZero p was is = is ≡ byte 0

abbrev pub ToAny : ℕ → Value → Value → Type 0
ToAny p was is = (is ≡ was) ⊎ IsByte is

abbrev pub ToBelow : (ℕ → Value) → ℕ → Value → Value → Type 0
ToBelow below p was is = (is ≡ was) ⊎ (is ≡ below p)

-- The buffer has the bytes of the range below the size, and 0 past the size.
pub record HoldsRange (disk : Disk) (offset : ℕ) (buffer : List ℕ) : Type 0 where
  pub below : (i : ℕ) → i < length buffer → offset + i < disk.size → disk.value (offset + i) ≡ byte (slice_index buffer i)
  pub past_size : (i : ℕ) → i < length buffer → disk.size ≤ offset + i → slice_index buffer i ≡ 0

-- All values are unchanged.
pub record SameValues (old new : Disk) : Type 0 where
  pub size : new.size ≡ old.size
  pub value : (p : ℕ) → p < old.size → new.value p ≡ old.value p

-- A run of `n` bytes from `offset` on is prepared, where `n` is at least 1 and at most `asked`. Values are unchanged. Some bytes of the run
-- become held (they only change at the commit), with nothing written yet. If the mapping has no state, none is held.
pub record Prepares (old new : Disk) (offset asked : ℕ) (overwrite : Bool) (n : ℕ) (state : Bool) : Type 0 where
  pub was_free : IsFree old
  pub values : SameValues old new
  pub nonempty : 0 < n
  pub most : n ≤ asked
  pub inside : offset + n ≤ old.size
  pub holds : (p : ℕ) → p < old.size → (new.hold p ≡ free) ⊎ (IsIn offset n p × (new.hold p ≡ held None overwrite))
  pub stateless : state ≡ false → IsFree new
  pub stateful : state ≡ true → (p : ℕ) × IsIn offset n p × (new.hold p ≡ held None overwrite)

-- The value of a byte after its mapping is committed: the byte written to it, or else its old value. If a write was announced and none was
-- made, it may be any byte.
abbrev pub CommitsValue : Hold → Value → Value → Type 0
CommitsValue free was is = is ≡ was
CommitsValue (held (Some b) announced) was is = is ≡ byte b
CommitsValue (held None true) was is = (is ≡ was) ⊎ IsByte is
CommitsValue (held None false) was is = is ≡ was

pub record Commits (old new : Disk) : Type 0 where
  pub size : new.size ≡ old.size
  pub value : (p : ℕ) → p < old.size → CommitsValue (old.hold p) (old.value p) (new.value p)
  pub is_free : IsFree new

pub record Cancels (old new : Disk) : Type 0 where
  pub values : SameValues old new
  pub is_free : IsFree new

-- A byte is written through a prepared mapping. If the byte is held, the value is noted for the commit. Otherwise the byte becomes the
-- value.
abbrev pub TakesByte : ℕ → Hold → Value → Hold → Value → Type 0
TakesByte b free was hold is = (is ≡ byte b) × (hold ≡ free)
TakesByte b (held written announced) was hold is = (is ≡ was) × (hold ≡ held (Some b) announced)

pub record WritesMapped (old new : Disk) (offset : ℕ) (bytes : List ℕ) : Type 0 where
  pub inside : offset + length bytes ≤ old.size
  pub size : new.size ≡ old.size
  pub range : (i : ℕ) → i < length bytes → TakesByte (slice_index bytes i) (old.hold (offset + i)) (old.value (offset + i))
      (new.hold (offset + i)) (new.value (offset + i))
  pub others : (p : ℕ) → p < old.size → IsOut offset (length bytes) p → (new.value p ≡ old.value p) × (new.hold p ≡ old.hold p)

-- The value of a new byte: 0, or anything.
abbrev pub IsFilled : Growth → Value → Type 0
IsFilled anything v = Unit {0}
IsFilled zeroes v = v ≡ byte 0

pub record Grows (old new : Disk) (size : ℕ) (fill : Growth) : Type 0 where
  pub new_size : new.size ≡ size
  pub prefix_unchanged : (p : ℕ) → p < old.size → new.value p ≡ old.value p
  pub filled : (p : ℕ) → old.size ≤ p → p < size → IsFilled fill (new.value p)
  pub is_free : IsFree new

pub record Shrinks (old new : Disk) (size : ℕ) : Type 0 where
  pub new_size : new.size ≡ size
  pub prefix_unchanged : (p : ℕ) → p < size → new.value p ≡ old.value p
  pub is_free : IsFree new

-- `P` if the call has nothing to do, and `Q` otherwise.
abbrev pub Unless : Type 0 → Type 0 → Type 0 → Type 0
Unless Idle P Q = (Idle × P) ⊎ ((Idle → ⊥) × Q)

-- The value of a byte in a run of this kind.
abbrev pub IsOfKind : (ℕ → Value) → Kind → ℕ → Value → Type 0
IsOfKind below stored p v = (b : ℕ) × (v ≡ byte b)
IsOfKind below zero_run p v = v ≡ byte 0
IsOfKind below special p v = v ≡ barred
IsOfKind below indirect p v = v ≡ below p
IsOfKind below at_end p v = ⊥

-- The run that a lookup returns. It is empty at or past the size. Otherwise it has at least 1 byte, and all bytes have one kind.
pub record IsRun (below : ℕ → Value) (disk : Disk) (offset asked : ℕ) (kind : Kind) (n : ℕ) : Type 0 where
  pub most : n ≤ asked
  pub end : (kind ≡ at_end) ↔ (disk.size ≤ offset)
  pub none : disk.size ≤ offset → n ≡ 0
  pub nonempty : offset < disk.size → 0 < asked → 0 < n
  pub inside : offset < disk.size → offset + n ≤ disk.size
  pub range : (p : ℕ) → IsIn offset n p → IsOfKind below kind p (disk.value p)

-- The effect of each call. Calls of length 0 and calls that only read leave the disk unchanged. The storage locations of a lookup or a
-- prepared run are specified with the layers of a chain.
abbrev pub Step : (ℕ → Value) → Disk → Call → Answer → Disk → Type 0
Step below old (read offset n) (bytes_read buffer) new = (length buffer ≡ n) × HoldsRange old offset buffer × Stays old new
Step below old (write offset bytes) done new = Unless (length bytes ≡ 0) (Stays old new)
    (Changes (ToBytes offset bytes) old new offset (length bytes))
Step below old (write_zeroes offset n) done new = Unless (n ≡ 0) (Stays old new) (Changes ToZero old new offset n)
Step below old (discard_to_zero offset n) done new = Unless (n ≡ 0) (Stays old new) (Changes ToZero old new offset n)
Step below old (discard_to_any offset n) done new = Unless (n ≡ 0) (Stays old new) (Changes ToAny old new offset n)
Step below old (discard_to_backing offset n) done new = Unless (n ≡ 0) (Stays old new) (Changes (ToBelow below) old new offset n)
Step below old (prepare offset asked overwrite) (prepared n state) new = Unless (asked ≡ 0) (Stays old new × (n ≡ 0) × (state ≡ false))
    (Prepares old new offset asked overwrite n state)
Step below old (commit true own) done new = IsTrue own × Commits old new
Step below old (commit false own) done new = Stays old new
Step below old (cancel true own) done new = IsTrue own × Cancels old new
Step below old (cancel false own) done new = Stays old new
Step below old (ensure offset asked overwrite) (run n) new =
    Unless (asked ≡ 0) (Stays old new × (n ≡ 0)) ((mid : Disk) × (state : Bool) × Prepares old mid offset asked overwrite n state
    × Commits mid new)
Step below old (write_mapped offset bytes) done new = Unless (length bytes ≡ 0) (Stays old new) (WritesMapped old new offset bytes)
Step below old (lookup offset asked) (found kind n) new = IsRun below old offset asked kind n × Stays old new
Step below old flush done new = Stays old new
Step below old sync done new = Stays old new
Step below old (grow size fill) done new = Unless (size ≤ old.size) (Stays old new) (Grows old new size fill)
Step below old (shrink size) done new = Unless (old.size ≤ size) (Stays old new) (Shrinks old new size)
Step below old _ _ new = ⊥
