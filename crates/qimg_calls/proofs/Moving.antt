-- Calls whose answers only say that they succeeded or failed.
use Rattle.std.proofs.Common.{◌≡◌, ap, refl}
use Rattle.std.specs.Prelude.{Result, Ok, Err, OnOk, IfErr, IsErrOf, IsOk, IsFalse, List, ⊤, None}
use Rattle.imago_storage.specs.State.{StorageState}
use Rattle.imago_storage.specs.Steps.{done}
use Rattle.imago_storage.specs.declared.fault.Fault.{Fault}
use Rattle.imago_storage.specs.declared.fault.Fault.TheVariants.{Failed, Memory, MissingData, Storage}
use Rattle.imago_access.specs.declared.driver_model.DriverModel.{Ghosts}
use Rattle.imago_access.specs.ChainCalls.{ChainFails, ChainSteps, ChainStays, UnlessResourceError}
use Rattle.imago_access.specs.Failing.{Fails}
use Rattle.imago_access.specs.Layer.{IsFree, Layer}
use Rattle.imago_access.specs.Parts.{PlainCause}
use Rattle.imago_access.specs.Refusals.{unusable_fault}
use Rattle.imago_access.specs.Stops.{IsCounted, IsWritten}
use Rattle.imago_access.specs.Files.{ImageCause, HadNoResourceError, files, files_of}
use Rattle.imago_access.proofs.ImageCauses.{failed_left}
use Rattle.qimg_calls.specs.declared.call.Call.{Call}
use Rattle.qimg_calls.specs.declared.call.Answer.TheVariants as told
use Rattle.qimg_calls.specs.Calls.{Fits, GoesOn, IfRefused, WasDone, tells_something}
use Rattle.qimg_calls.specs.Held.{ChainWithMapping, disk_call}
use Rattle.qimg_calls.specs.Making.{done_or_refused}
use Rattle.qimg_calls.specs.Moves.{CallEffect, KeepsMapping, Names, Refuses, Leaves, TopStays}
use Rattle.qimg_calls.proofs.Leading.{whole-ok}

-- An answer other than a resource error comes from such a result.
pub not-cut : (result : Result Unit Fault) → GoesOn (done_or_refused result) → HadNoResourceError result
not-cut (Ok unit) on = tt
not-cut (Err fault) on = on

pub nothing-named : (result : Result Unit Fault) → OnOk result ⊤
nothing-named (Ok unit) = tt
nothing-named (Err fault) = tt

pub told-moves : {D St : Type 0} (g : Ghosts D St) (call : Call) (result : Result Unit Fault) (old new : ChainWithMapping D St)
    → KeepsMapping g call (done_or_refused result) old new
    → OnOk result (ChainSteps g (disk_call g old call) done old.drivers new.drivers) → OnOk result (Names g call told.Done old.drivers new.drivers)
    → IfErr result (λ fault. Refuses g call fault old new) → UnlessResourceError result (Leaves g call old new)
    → CallEffect g call (done_or_refused result) old new
told-moves g call (Ok unit) old new keeps steps names refuses leaves = ((done, refl, steps, names), keeps)
told-moves g call (Err fault) old new keeps steps names refuses leaves = (refuses, λ not_resource_error. (leaves not_resource_error, keeps))

-- The answer of a call without data fits it.
pub told-fits : (call : Call) (result : Result Unit Fault) → IsFalse (tells_something call) → Fits call (done_or_refused result)
told-fits call (Ok unit) nothing = nothing
told-fits call (Err fault) nothing = tt

-- An early error is the answer.
pub told-refused : (result : Result Unit Fault) (f : Fault) → IsErrOf result f → done_or_refused result ≡ told.Refused f
told-refused (Ok unit) f is = absurd (cc is)
told-refused (Err fault) f is = ap told.Refused (cc is)

-- A successful call is answered with `Done`.
pub told-idle : (result : Result Unit Fault) → IsOk result → WasDone (done_or_refused result)
told-idle (Ok unit) was = tt
told-idle (Err fault) was = absurd (cc was)

-- A clause on success, from the answer.
pub told-done : (P : Type 0) (result : Result Unit Fault) → WasDone (done_or_refused result) → OnOk result P → P
told-done P (Ok unit) was holds = holds
told-done P (Err fault) was holds = absurd was

-- A clause on the fault, from the answer.
pub told-marks : (P : Fault → Type 0) (result : Result Unit Fault) → IfErr result P → IfRefused (done_or_refused result) P
told-marks P (Ok unit) marks = tt
told-marks P (Err fault) marks = marks

-- An error of the top is an error of the chain.
pub top-failed : {D St : Type 0} (g : Ghosts D St) (old new : D × List D) (fault : Fault) → Fails g old.0 new.0 fault → ChainFails g old new fault
top-failed g old new fault = failed_left (files g old.0) (files g new.0) (files_of g old.1) (files_of g new.1) fault

pub top-refused : {D St : Type 0} (g : Ghosts D St) (old new : D × List D) (result : Result Unit Fault) → IfErr result (Fails g old.0 new.0)
    → IfErr result (ChainFails g old new)
top-refused g old new (Ok unit) failed = tt
top-refused g old new (Err fault) failed = top-failed g old new fault failed

-- An unusable layer or a failed storage is a cause of the image.
plain-fails : (layer : Layer) (olds news : List StorageState) (fault : Fault) → PlainCause layer olds news fault → ImageCause olds news fault
plain-fails layer olds news Failed cause = tt
plain-fails layer olds news MissingData cause = tt
plain-fails layer olds news Memory cause = tt
plain-fails layer olds news Storage cause = cause
plain-fails layer olds news _ cause = absurd cause

pub plainly-refused : {D St : Type 0} (g : Ghosts D St) (old new : D × List D) (result : Result Unit Fault)
    → IfErr result (PlainCause (g.layer old.0) (files g old.0) (files g new.0)) → IfErr result (ChainFails g old new)
plainly-refused g old new (Ok unit) why = tt
plainly-refused g old new (Err fault) why = top-failed g old new fault (plain-fails (g.layer old.0) (files g old.0) (files g new.0) fault why)

-- If the top is usable, a flush only fails with a resource error.
pub refused-stays : {D St : Type 0} (g : Ghosts D St) (old new : D × List D) (olds news : List StorageState) (result : Result Unit Fault) → IfErr result (PlainCause (g.layer old.0) olds news)
    → UnlessResourceError result (unusable_fault (g.layer old.0) ≡ None → ChainStays g old new)
refused-stays g old new olds news (Ok unit) why = tt
refused-stays g old new olds news (Err fault) why = λ not_resource_error usable. absurd (cc (whole-ok {T = Unit} (g.layer old.0) olds news (Err fault) not_resource_error usable why))

pub flush-names : {D St : Type 0} (g : Ghosts D St) (old new : D × List D) (result : Result Unit Fault) → OnOk result (TopStays g old new)
    → (IsFree (g.layer old.0) → OnOk result (IsWritten g new.0)) → (IsFree (g.layer old.0) → OnOk result (IsCounted g new.0))
    → OnOk result (TopStays g old new × (IsFree (g.layer old.0) → IsWritten g new.0 × IsCounted g new.0))
flush-names g old new (Ok unit) same written counted = (same, λ free. (written free, counted free))
flush-names g old new (Err fault) same written counted = tt

-- A fact that always holds also holds on success.
pub on-ok : {P : Type 0} (result : Result Unit Fault) → P → OnOk result P
on-ok (Ok unit) p = p
on-ok (Err fault) p = tt

-- Combines two clauses on success.
pub both-named : (P Q : Type 0) (result : Result Unit Fault) → OnOk result P → OnOk result Q → OnOk result (P × Q)
both-named P Q (Ok unit) p q = (p, q)
both-named P Q (Err fault) p q = tt

pub layer-stays : {D St : Type 0} (g : Ghosts D St) (old new : D × List D) → new.1 ≡ old.1 → g.layer new.0 ≡ g.layer old.0 → ChainStays g old new
layer-stays g old new below same = rw (below, same) (record { size = refl; value = λ p inside. refl; hold = λ p inside. refl })

-- An error that leaves the layer unchanged leaves the disk unchanged.
pub same-stays : {D St : Type 0} (g : Ghosts D St) (old new : D × List D) (result : Result Unit Fault) → new.1 ≡ old.1 → UnlessResourceError result (TopStays g old new)
    → UnlessResourceError result (TopStays g old new × ChainStays g old new)
same-stays g old new (Ok unit) below same = tt
same-stays g old new (Err fault) below same = λ not_resource_error. (same not_resource_error, layer-stays g old new below (same not_resource_error))
