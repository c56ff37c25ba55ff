-- Allocations after a call that allocates nothing, and one that only allocates in its range.
use Rattle.std.proofs.Common.{ℕ}
use Rattle.std.specs.Prelude.{⊤}
use Rattle.imago_storage.specs.Steps.{IsOut}
use Rattle.imago_access.specs.declared.driver_model.DriverModel.{Ghosts}
use Rattle.imago_access.specs.Room.{IsApart, LeavesAllocation, Takes}
use Rattle.imago_access.proofs.Room.{apart_out}

pub takes_none : {D St : Type 0} (g : Ghosts D St) (spared : ℕ → Type 0) (a b : D) → Takes g (λ _. ⊤) a b → Takes g spared a b
takes_none g spared a b h = record { stays_allocated = h.stays_allocated; free = λ p s was. h.free p tt was; zeroes = λ p l s was. h.zeroes p l tt was }

pub takes_none_thrice : {D St : Type 0} (g : Ghosts D St) (spared : ℕ → Type 0) (a b c d : D) → Takes g (λ _. ⊤) a b → Takes g (λ _. ⊤) b c → Takes g (λ _. ⊤) c d → Takes g spared a d
takes_none_thrice g spared a b c d first second third = record {
  stays_allocated = λ p l was. third.stays_allocated p tt (second.stays_allocated p tt (first.stays_allocated p tt was));
  free = λ p s was. third.free p tt (second.free p tt (first.free p tt was));
  zeroes = λ p l s was. third.zeroes p tt tt (second.zeroes p tt tt (first.zeroes p tt tt was));
}

pub room_apart : {D St : Type 0} (g : Ghosts D St) (left : ℕ → Type 0) (offset n : ℕ) (a b : D) → LeavesAllocation g left (IsOut offset n) a b → LeavesAllocation g left (IsApart (g.layer a).fixed.unit offset n) a b
room_apart g left offset n a b h = let unit = (g.layer a).fixed.unit in record {
  stays_allocated = h.stays_allocated;
  free = λ p apart was. h.free p (apart_out unit offset n p apart) was;
  zeroes = λ p l apart was. h.zeroes p l (apart_out unit offset n p apart) was;
}
