-- Specifies calls on a guest disk that fail: the range of each call, and what its bytes are after an error.
use Rattle.std.specs.Prelude.{◌≡◌, ◌⊎◌, ℕ, ◌<◌, true, length, IsTrue, IsFalse}
use Rattle.imago_storage.specs.Disk.{Value, Disk}
use Rattle.imago_storage.specs.Steps.{Call, read, write, write_zeroes, discard_to_zero, discard_to_any, discard_to_backing, prepare, commit, cancel, ensure, write_mapped, lookup, grow, shrink, IsOut, ToBytes, ToZero, ToAny, ToBelow}

-- The range of a call in bytes. It is empty for calls without a range.
abbrev pub offset_of : Call → ℕ
offset_of (read offset n) = offset
offset_of (write offset bytes) = offset
offset_of (write_zeroes offset n) = offset
offset_of (discard_to_zero offset n) = offset
offset_of (discard_to_any offset n) = offset
offset_of (discard_to_backing offset n) = offset
offset_of (prepare offset n overwrite) = offset
offset_of (ensure offset n overwrite) = offset
offset_of (write_mapped offset bytes) = offset
offset_of (lookup offset n) = offset
offset_of _ = 0

abbrev pub length_of : Call → ℕ
length_of (read offset n) = n
length_of (write offset bytes) = length bytes
length_of (write_zeroes offset n) = n
length_of (discard_to_zero offset n) = n
length_of (discard_to_any offset n) = n
length_of (discard_to_backing offset n) = n
length_of (prepare offset n overwrite) = n
length_of (ensure offset n overwrite) = n
length_of (write_mapped offset bytes) = length bytes
length_of (lookup offset n) = n
length_of _ = 0

-- The call has something to change: its range isn't empty, its prepared mapping has state (something to commit), or its size differs. A
-- call without a change never fails because of the image's state.
abbrev pub Alters : Disk → Call → Type 0
Alters disk (write offset bytes) = 0 < length bytes
Alters disk (write_zeroes offset n) = 0 < n
Alters disk (discard_to_zero offset n) = 0 < n
Alters disk (discard_to_any offset n) = 0 < n
Alters disk (discard_to_backing offset n) = 0 < n
Alters disk (prepare offset n overwrite) = 0 < n
Alters disk (commit state own) = IsTrue state
Alters disk (ensure offset n overwrite) = 0 < n
Alters disk (write_mapped offset bytes) = 0 < length bytes
Alters disk (grow size fill) = disk.size < size
Alters disk (shrink size) = size < disk.size
Alters disk _ = ⊥

-- The call commits or cancels a mapping with state that another chain prepared: the numbers of the chains differ.
abbrev pub IsForeign : Call → Type 0
IsForeign (commit true own) = IsFalse own
IsForeign (cancel true own) = IsFalse own
IsForeign _ = ⊥

-- The value that a write, a zeroing or a discard may give to a byte of its range.
abbrev pub Gives : (ℕ → Value) → Call → ℕ → Value → Value → Type 0
Gives below (write offset bytes) p was is = ToBytes offset bytes p was is
Gives below (write_zeroes offset n) p was is = ToZero p was is
Gives below (discard_to_zero offset n) p was is = ToZero p was is
Gives below (discard_to_any offset n) p was is = ToAny p was is
Gives below (discard_to_backing offset n) p was is = ToBelow below p was is
Gives below call p was is = ⊥

-- A write, zeroing or discard failed with an error other than `Memory` and `Storage`. Each byte of the range is old or as the call sets it,
-- and all other bytes are unchanged.
pub record PartlyDone (below : ℕ → Value) (call : Call) (old new : Disk) : Type 0 where
  pub size : new.size ≡ old.size
  pub value : (p : ℕ) → p < old.size → (new.value p ≡ old.value p) ⊎ Gives below call p (old.value p) (new.value p)
  pub others : (p : ℕ) → p < old.size → IsOut (offset_of call) (length_of call) p → new.value p ≡ old.value p
  pub hold : (p : ℕ) → p < old.size → new.hold p ≡ old.hold p
