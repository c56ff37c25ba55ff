-- Specifies what calls allocate and deallocate in an image, in its units of allocation (clusters in qcow2). Unit `u` is the bytes from
-- `u * unit` to the next unit, or to the end of the disk.
use Rattle.std.specs.Prelude.{⊤, ◌≡◌, ◌⊎◌, ℕ, ◌+◌, ◌*◌, ◌<◌, ◌≤◌, min, None, IsSome}
use Rattle.imago_storage.specs.Steps.{IsOut}
use Rattle.imago_storage.specs.declared.fault.Fault.{Fault}
use Rattle.imago_access.specs.declared.driver_model.DriverModel.{Ghosts}
use Rattle.imago_storage.specs.declared.fault.Fault.TheVariants.{Unsupported, VersionLimit}

-- Unit `u` of the disk is completely in the range: it is a whole unit of the range.
pub record IsWholeUnit (unit size offset n u : ℕ) : Type 0 where
  pub start : offset ≤ u * unit
  pub on_disk : u * unit < size
  pub end : min (u * unit + unit) size ≤ offset + n

-- Byte `p` is in unit `u`.
pub record IsOfUnit (unit size u p : ℕ) : Type 0 where
  pub start : u * unit ≤ p
  pub end : p < u * unit + unit
  pub on_disk : p < size

-- The offset `at` isn't inside a unit that is completely in the range.
abbrev pub IsUncutAt : ℕ → ℕ → ℕ → ℕ → ℕ → Type 0
IsUncutAt unit size offset n at = (u : ℕ) → IsWholeUnit unit size offset n u → (at ≤ u * unit) ⊎ (min (u * unit + unit) size ≤ at)

-- Byte `p` is in a unit that the range doesn't touch.
abbrev pub IsApart : ℕ → ℕ → ℕ → ℕ → Type 0
IsApart unit offset n p = (u : ℕ) × (u * unit ≤ p) × (p < u * unit + unit) × ((u * unit + unit ≤ offset) ⊎ (offset + n ≤ u * unit))

-- A part of a range was done. No whole unit of the range is before the part, and the part ends inside none. It isn't empty if the range has
-- a whole unit.
pub record Reaches (unit size offset n start done : ℕ) : Type 0 where
  pub none_before : (u : ℕ) → IsWholeUnit unit size offset n u → start ≤ u * unit
  pub nonempty : (u : ℕ) → IsWholeUnit unit size offset n u → 0 < done
  pub none_cut : (u : ℕ) → IsWholeUnit unit size offset n u → u * unit < start + done → min (u * unit + unit) size ≤ start + done

-- Each whole unit of the range is deallocated.
abbrev pub IsGivenUp : (ℕ → Type 0) → ℕ → ℕ → ℕ → ℕ → Type 0
IsGivenUp unallocated unit size offset n = (u : ℕ) → IsWholeUnit unit size offset n u → (p : ℕ) → IsOfUnit unit size u p → unallocated p

-- Each whole unit of the range is zeroed.
abbrev pub IsZeroed : (ℕ → Type 0) → ℕ → ℕ → ℕ → ℕ → Type 0
IsZeroed zeroed unit size offset n = (u : ℕ) → IsWholeUnit unit size offset n u → (p : ℕ) → IsOfUnit unit size u p → zeroed p

-- Each whole unit of the range that starts before `at` also ends before it, and is deallocated.
abbrev pub IsGivenUpTo : (ℕ → Type 0) → ℕ → ℕ → ℕ → ℕ → ℕ → Type 0
IsGivenUpTo unallocated unit size offset n at = (u : ℕ) → IsWholeUnit unit size offset n u
    → (at ≤ u * unit) ⊎ ((min (u * unit + unit) size ≤ at) × ((p : ℕ) → IsOfUnit unit size u p → unallocated p))

-- Like `IsGivenUpTo`, if no whole unit of the range starts before `start`.
pub record IsGivenUpBehind (unallocated : ℕ → Type 0) (unit size offset n start at : ℕ) : Type 0 where
  pub none_before : (u : ℕ) → IsWholeUnit unit size offset n u → start ≤ u * unit
  pub given : IsGivenUpTo unallocated unit size offset n at

-- Bytes in `left` that have an allocation keep it. Bytes in `spared` that are unallocated stay unallocated. Zeroed bytes that are in `left`
-- and in `spared` stay zeroed.
pub record LeavesAllocation {D St : Type 0} (g : Ghosts D St) (left spared : ℕ → Type 0) (old new : D) : Type 0 where
  pub stays_allocated : (p : ℕ) → left p → g.has_allocation old p → g.has_allocation new p
  pub free : (p : ℕ) → spared p → g.unallocated old p → g.unallocated new p
  pub zeroes : (p : ℕ) → left p → spared p → g.zeroed old p → g.zeroed new p

-- The call deallocates nothing, and allocates nothing for bytes in `spared`.
abbrev pub Takes : {D St : Type 0} → Ghosts D St → (ℕ → Type 0) → D → D → Type 0
Takes g spared = LeavesAllocation g (λ _. ⊤) spared

-- The call allocates nothing, and deallocates nothing outside the range.
abbrev pub GivesUp : {D St : Type 0} → Ghosts D St → ℕ → ℕ → D → D → Type 0
GivesUp g offset n = LeavesAllocation g (IsOut offset n) (λ _. ⊤)

-- The driver has no cause of its own to decline the call.
abbrev pub IsUndeclined : (Fault → Type 0) → Type 0
IsUndeclined causes = (causes Unsupported → ⊥) × (causes VersionLimit → ⊥)

-- The allocation of a byte fits its writable location. An unallocated or zeroed byte has no writable location, and a byte with a writable
-- location has an allocation.
pub record AllocationOfPlace {D St : Type 0} (g : Ghosts D St) (d : D) (p : ℕ) : Type 0 where
  pub without_writable_location : g.unallocated d p ⊎ g.zeroed d p → (g.layer d).writable_location p ≡ None
  pub housed : IsSome ((g.layer d).writable_location p) → g.has_allocation d p
