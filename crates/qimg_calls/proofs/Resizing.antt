-- The effect of resizes on the values of a disk.
use Rattle.std.proofs.lemmas.Bool.{cases_lt}
use Rattle.std.proofs.lemmas.Bool.Decides.{nat_tests}
use Rattle.std.proofs.Common.{◌≡◌, ◌⊎◌, inl, inr, ℕ, ◌<◌, ◌≤◌, arith, refl, subst}
use Rattle.std.specs.Prelude.{Bool, true, false, not, ◌&&◌, if◌then◌else◌, ltb, Some, None, Result, Ok, Err, OnOk, IsErrOf, IsSome, IsTrue, IsFalse}
use Rattle.imago_storage.specs.Disk.{Value, Disk}
use Rattle.imago_storage.specs.Steps.{Step, Stays, Growth, grow, shrink, done}
use Rattle.imago_storage.specs.declared.fault.Fault.{Fault}
use Rattle.imago_storage.specs.declared.fault.Fault.TheVariants.{ReadOnly, MissingData, Failed}
use Rattle.imago_access.specs.declared.driver_model.DriverModel.{Ghosts}
use Rattle.imago_access.specs.ChainCalls.{UnlessResourceError}
use Rattle.imago_access.specs.Going.{IsUnchanged}
use Rattle.imago_access.specs.Layer.{Layer}
use Rattle.imago_access.specs.ResizeCalls.{IsUngrown, Resizes}
use Rattle.qimg_calls.specs.Calls.{GoesOn}
use Rattle.qimg_calls.specs.Making.{done_or_refused}
use Rattle.qimg_calls.specs.Moves.{resize_refusal}
use Rattle.qimg_calls.specs.Since.{Begun}
use Rattle.qimg_calls.proofs.Leading.{ValuesBetween}

-- The early errors of a resize. The top may have failed, miss a file, or be read-only.
refused-then : (failed missing alters writable : Bool) (result : Result Unit Fault) (f : Fault)
    → ((e : Fault) → (if failed then Some Failed else if missing then Some MissingData else None) ≡ Some e → IsErrOf result e)
    → ((if failed then Some Failed else if missing then Some MissingData else None) ≡ None → IsTrue alters → IsFalse writable → IsErrOf result ReadOnly)
    → (if failed then Some Failed else if missing then Some MissingData else if alters && not writable then Some ReadOnly else None) ≡ Some f → IsErrOf result f
refused-then true missing alters writable result f barred locked is = barred f is
refused-then false true alters writable result f barred locked is = barred f is
refused-then false false true false result f barred locked is = subst (IsErrOf result) (cc is) (locked refl refl refl)
refused-then false false true true result f barred locked is = absurd (cc is)
refused-then false false false writable result f barred locked is = absurd (cc is)

below : (first second : ℕ) → IsTrue (ltb second first) → second < first
below first second is = grind (arith, nat_tests)

-- A resize that changes the size, with `second` below `first`.
pub resize-refused : {D St : Type 0} (g : Ghosts D St) (first second : ℕ) (result : Result Unit Fault) (old new : D) (f : Fault) → Resizes g first second result old new
    → resize_refusal (g.layer old) (ltb second first) ≡ Some f → IsErrOf result f
resize-refused g first second result old new f resizes = let layer = g.layer old in
    refused-then layer.failed layer.fixed.missing (ltb second first) layer.fixed.writable result f resizes.early_outcome.refused (λ usable alters locked. (resizes.read_only usable (below first second alters) locked).0)

-- The early outcomes of a resize that leave everything unchanged.
early-by : (failed missing alters writable : Bool) → IsSome (if failed then Some Failed else if missing then Some MissingData else if alters && not writable then Some ReadOnly else None)
    → IsSome (if failed then Some Failed else if missing then Some MissingData else None)
    ⊎ (((if failed then Some Failed else if missing then Some MissingData else None) ≡ None) × IsTrue alters × IsFalse writable)
early-by true missing alters writable some = inl refl
early-by false true alters writable some = inl refl
early-by false false true false some = inr (refl, refl, refl)
early-by false false true true some = absurd (cc some)
early-by false false false writable some = absurd (cc some)

-- A resize that has nothing to do or fails early changes nothing in the top.
pub resize-untouched : {D St : Type 0} (g : Ghosts D St) (first second : ℕ) (result : Result Unit Fault) (old new : D) → Resizes g first second result old new
    → (first ≤ second) ⊎ IsSome (resize_refusal (g.layer old) (ltb second first)) → IsUnchanged g old new
resize-untouched g first second result old new resizes early = let layer = g.layer old in elim early [
  | inl idle ↦ resizes.early_outcome.unchanged (inl idle)
  | inr some ↦ elim (early-by layer.failed layer.fixed.missing (ltb second first) layer.fixed.writable some) [
    | inl unusable ↦ resizes.early_outcome.unchanged (inr unusable)
    | inr locked ↦ (resizes.read_only locked.0 (below first second locked.1) locked.2).1
  ]
]

-- Such a growth reads nothing of the layers below.
pub growth-unread : (layer : Layer) (size : ℕ) → (size ≤ layer.size) ⊎ IsSome (resize_refusal layer (ltb layer.size size)) → IsUngrown layer size
growth-unread layer size early = elim early [
  | inl idle ↦ inl idle
  | inr some ↦ elim (early-by layer.failed layer.fixed.missing (ltb layer.size size) layer.fixed.writable some) [
    | inl unusable ↦ inr (inl unusable)
    | inr locked ↦ inr (inr locked.2)
  ]
]

-- An unchanged disk reads as before.
pub stays-between : (gives : ℕ → Value → Type 0) (old new : Disk) → Stays old new → ValuesBetween gives old new
stays-between gives old new stays p inside = let was : p < old.size = omega (arith, inside, stays.size) in inl (was, stays.value p was)

pub grown-between : (under : ℕ → Value) (below : ℕ → Value) (old new : Disk) (size : ℕ) (fill : Growth) (result : Result Unit Fault) → GoesOn (done_or_refused result)
    → OnOk result (Step under old (grow size fill) done new) → UnlessResourceError result (Stays old new) → ValuesBetween (Begun below old (grow size fill)) old new
grown-between under below old new size fill (Ok unit) on step stays p inside = elim step [
  | inl same ↦ stays-between (Begun below old (grow size fill)) old new same.1 p inside
  | inr more ↦ elim (cases_lt p old.size) [
    | inl lt ↦ inl (lt, more.1.prefix_unchanged p lt)
    | inr ge ↦ inr ge
  ]
]
grown-between under below old new size fill (Err fault) on step stays p inside = stays-between (Begun below old (grow size fill)) old new (stays on) p inside

pub shrunk-between : (under : ℕ → Value) (below : ℕ → Value) (old new : Disk) (size : ℕ) (result : Result Unit Fault) → GoesOn (done_or_refused result)
    → OnOk result (Step under old (shrink size) done new) → UnlessResourceError result (Stays old new) → ValuesBetween (Begun below old (shrink size)) old new
shrunk-between under below old new size (Ok unit) on step stays p inside = elim step [
  | inl same ↦ stays-between (Begun below old (shrink size)) old new same.1 p inside
  | inr less ↦ elim (cases_lt p old.size) [
    | inl lt ↦ inl (lt, less.1.prefix_unchanged p (omega (arith, inside, less.1.new_size)))
    | inr ge ↦ absurd (less.0 (omega (arith, inside, less.1.new_size, ge)))
  ]
]
shrunk-between under below old new size (Err fault) on step stays p inside = stays-between (Begun below old (shrink size)) old new (stays on) p inside
