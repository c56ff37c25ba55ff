-- The first and the last unit of a range, if the range covers only a part of them. Such a unit is read, and written back with the new bytes
-- of the range.
use Rattle.std.specs.Prelude.{◌≡◌, ℕ, ◌+◌, ◌-◌, ◌%◌, ◌<◌, ◌≤◌, max, min, List, ◌++◌, length, replicate, slice_index}
use Rattle.imago_storage.specs.State.{IsUnitRange}
use Rattle.imago_storage.specs.Through.{round_up, IsUnitAligned}

-- The buffer for a part of `n` bytes is one unit long, or empty if `n` is 0.
pub record IsEdge (unit n long : ℕ) : Type 0 where
  pub none : n ≡ 0 → long ≡ 0
  pub unit_if_nonempty : 0 < n → long ≡ unit

-- `put`, written at `start`, writes the part at `at` and keeps the bytes around it.
pub record IsPaddedPart (bytes : List ℕ) (at : ℕ) (part : List ℕ) (start : ℕ) (put : List ℕ) : Type 0 where
  pub low : start ≤ at
  pub high : at + length part ≤ start + length put
  pub before : (k : ℕ) → start ≤ k → k < at → slice_index put (k - start) ≡ slice_index bytes k
  pub inside : (k : ℕ) → at ≤ k → k < at + length part → slice_index put (k - start) ≡ slice_index part (k - at)
  pub after : (k : ℕ) → at + length part ≤ k → k < start + length put → slice_index put (k - start) ≡ slice_index bytes k

-- The start of the unit that contains `at`.
abbrev pub unit_start : ℕ → ℕ → ℕ
unit_start unit at = at - at % unit

-- The bytes that zero a range of `n` bytes: a first unit or nothing, `mid` bytes of zeroes, and a last unit or nothing. `zeroes` is long
-- enough to write them in pieces.
pub record ZeroesPrepared (unit : ℕ) (bytes : List ℕ) (at n : ℕ) (first last zeroes : List ℕ) (mid : ℕ) : Type 0 where
  pub first_units : IsUnitRange unit (unit_start unit at) (length first)
  pub mid_units : IsUnitRange unit (unit_start unit at + length first) mid
  pub last_units : IsUnitRange unit (unit_start unit at + length first + mid) (length last)
  pub most : mid ≤ n
  pub pads : IsPaddedPart bytes at (replicate n 0) (unit_start unit at) (first ++ replicate mid 0 ++ last)
  pub end : unit_start unit at + length (first ++ replicate mid 0 ++ last) ≡ round_up unit (at + n)
  -- The middle contains all whole units of the range.
  pub holds : (a b : ℕ) → at ≤ a → a < b → b ≤ at + n → a % unit ≡ 0 → b % unit ≡ 0 → (unit_start unit at + length first ≤ a)
      × (b ≤ unit_start unit at + length first + mid)
  pub alone : IsUnitAligned unit at n → (length first ≡ 0) × ((length last ≡ 0) × (mid ≡ n))
  pub all_zero : (k : ℕ) → slice_index zeroes k ≡ 0
  pub room : min (max unit 65536) n ≤ length zeroes
