-- The contents of a guest disk: the value of each byte, and which bytes a prepared mapping (a run that is written before it is committed)
-- holds.
use Rattle.std.specs.Prelude.{◌≡◌, ℕ, ◌+◌, ◌<◌, Bool, Option, List, length, slice_index}

-- The value at an offset: a byte, `barred` if the data is compressed or inaccessible, or `damaged_place` if a table for the offset is
-- damaged.
pub data Value : Type 0 where
  byte : (value : ℕ) → Value
  barred : Value
  damaged_place : Value

-- Says if a byte belongs to a prepared mapping (`held`) or not (`free`). `written` is the value written to it, if any. `announced` is set
-- if the caller promised to write the byte.
pub data Hold : Type 0 where
  free : Hold
  held : (written : Option ℕ) (announced : Bool) → Hold

-- A size in bytes, and the value and the hold of each byte below it.
pub record Disk : Type 0 where
  pub size : ℕ
  pub value : ℕ → Value
  pub hold : ℕ → Hold

-- No mapping is prepared.
abbrev pub IsFree : Disk → Type 0
IsFree disk = (p : ℕ) → p < disk.size → disk.hold p ≡ free

-- The bytes from `offset` on are `bytes`.
abbrev pub Shows : (ℕ → Value) → ℕ → List ℕ → Type 0
Shows value offset bytes = (i : ℕ) → i < length bytes → value (offset + i) ≡ byte (slice_index bytes i)
