-- The kept mapping and the disk after a commit or a cancel.
use Rattle.std.proofs.Common.{◌≡◌, ◌⊎◌, inl, inr, ℕ, ◌<◌, arith, refl}
use Rattle.std.specs.Prelude.{Bool, true, false, not, Option, Some, None, is_some, is_none, IsSome}
use Rattle.imago_storage.specs.Disk.{Value, Disk, Hold, free, held}
use Rattle.imago_storage.specs.Steps.{Step, CommitsValue, commit, cancel, done}
use Rattle.imago_storage.specs.declared.fault.Fault.{Fault}
use Rattle.imago_storage.specs.declared.fault.Fault.TheVariants.{Failed, Foreign, MissingData, ReadOnly}
use Rattle.imago_access.specs.declared.driver_model.DriverModel.{Ghosts}
use Rattle.imago_access.specs.Files.{IsNotResourceError}
use Rattle.imago_access.specs.Spending.{GivenBack, IsMine, IsForeignTo, IsSpending, Spends}
use Rattle.imago_access.specs.Refusals.{unusable_fault}
use Rattle.imago_access.specs.Layer.{Layer, Held, loose, beside, inside, hold_of, IsFree}
use Rattle.imago_access.specs.Stops.{MayTake as MayTakeHeld}
use Rattle.qimg_calls.specs.Since.{Begun, MayTake}
use Rattle.qimg_calls.proofs.Leading.{ValuesBetween}

pub some-or-none : {A : Type 0} (x : Option A) → is_some x ≡ not (is_none x)
some-or-none None = refl
some-or-none (Some a) = refl

-- The value that a held byte may take, in terms of the disk.
pub held-gives : (h : Held) (v : Value) → MayTakeHeld h v → MayTake (hold_of h) v
held-gives (inside copied (Some b) announced) v gave = gave
held-gives (inside copied None true) v gave = gave
held-gives (inside copied None false) v gave = absurd gave
held-gives (beside b) v gave = absurd gave
held-gives loose v gave = absurd gave

settled : (h : Hold) (was is : Value) → CommitsValue h was is → (is ≡ was) ⊎ MayTake h is
settled free was is same = inl same
settled (held (Some b) announced) was is byte = inr byte
settled (held None true) was is (inl same) = inl same
settled (held None true) was is (inr byte) = inr byte
settled (held None false) was is same = inl same

-- A commit gives a held byte the value written to it, and leaves any other byte.
pub committed-between : (below under : ℕ → Value) (state own : Bool) (old new : Disk) → Step under old (commit state own) done new
    → ValuesBetween (Begun below old (commit state own)) old new
committed-between below under false own old new step p below_end = let was : p < old.size = omega (arith, below_end, step.size) in inl (was, step.value p was)
committed-between below under true own old new step p below_end =
    let was : p < old.size = omega (arith, below_end, step.1.size) in
    elim (settled (old.hold p) (old.value p) (new.value p) (step.1.value p was)) [ inl same ↦ inl (was, same) | inr taken ↦ inr taken ]

pub cancelled-between : (gives : ℕ → Value → Type 0) (under : ℕ → Value) (state own : Bool) (old new : Disk) → Step under old (cancel state own) done new → ValuesBetween gives old new
cancelled-between gives under false own old new step p below_end = let was : p < old.size = omega (arith, below_end, step.size) in inl (was, step.value p was)
cancelled-between gives under true own old new step p below_end = let was : p < old.size = omega (arith, below_end, step.1.values.size) in inl (was, step.1.values.value p was)

-- After a mapping is consumed, nothing is prepared.
pub free-then : {D St : Type 0} (g : Ghosts D St) (state : Option St) (old new : Layer) → (IsSome state → IsFree new) → (state ≡ None → new ≡ old) → (state ≡ None → IsFree old) → IsFree new
free-then g None old new some none was = rw (none refl) (was refl)
free-then g (Some s) old new some none was = some refl

-- A failed commit of a well-formed image has consumed its mapping only after a resource error.
pub not-spent : {D St : Type 0} (g : Ghosts D St) (state : Option St) (old new : Layer) (well_formed : Type 0) (fault : Fault) → IsMine g state old → well_formed → IsNotResourceError fault
    → IsSome state → Spends g state old new (IsFree new × (well_formed → IsNotResourceError fault → ⊥)) → ⊥
not-spent g None old new well_formed fault mine is not_resource_error some spends = absurd (cc some)
not-spent g (Some s) old new well_formed fault mine is not_resource_error some spends = (spends.1 mine.1).1 is not_resource_error

pub spent-free : {D St : Type 0} (g : Ghosts D St) (state : Option St) (old new : Layer) (P : Type 0) → IsMine g state old → IsSome state → Spends g state old new (IsFree new × P) → IsFree new
spent-free g None old new P mine some spends = absurd (cc some)
spent-free g (Some s) old new P mine some spends = (spends.1 mine.1).0

-- A usable layer doesn't return a mapping without state.
pub not-given-back : {S : Type 0} (tag : S → ℕ) (state : Option S) (layer : Layer) (fault : Fault) → state ≡ None → unusable_fault layer ≡ None → GivenBack tag state layer fault → ⊥
not-given-back tag None layer Failed none usable back = absurd (cc (back, usable))
not-given-back tag None layer MissingData none usable back = absurd (cc (back, usable))
not-given-back tag None layer fault none usable back = back
not-given-back tag (Some s) layer fault none usable back = absurd (cc none)

-- A returned mapping isn't consumed.
pub not-spending : {S : Type 0} (tag : S → ℕ) (state : Option S) (layer : Layer) (fault : Fault) → GivenBack tag state layer fault → IsSpending fault → ⊥
not-spending tag None layer Failed back spending = spending
not-spending tag None layer MissingData back spending = spending
not-spending tag None layer fault back spending = back
not-spending tag (Some s) layer Failed back spending = spending
not-spending tag (Some s) layer MissingData back spending = spending
not-spending tag (Some s) layer ReadOnly back spending = spending
not-spending tag (Some s) layer Foreign back spending = spending
not-spending tag (Some s) layer fault back spending = back

-- A mapping of the layer isn't one of another image.
pub not-foreign : {D St : Type 0} (g : Ghosts D St) (state : Option St) (layer : Layer) → IsMine g state layer → IsForeignTo g.tag state layer → ⊥
not-foreign g None layer mine foreign = foreign
not-foreign g (Some s) layer mine foreign = foreign mine.0
