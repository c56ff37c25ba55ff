-- Specifies one call of a list: its effect on a chain (an image and its backing files), and its errors. Earlier flushes don't matter here.
use Rattle.std.specs.Prelude.{◌≡◌, ◌⊎◌, List, [], ◌∷◌, is_some, IsFalse, IsSome, Option, Some, None, MatchOption, Result, Ok, Err}
use Rattle.imago_storage.specs.declared.fault.Fault.{Fault}
use Rattle.imago_storage.specs.declared.fault.Fault.TheVariants.{BadArgument}
use Rattle.imago_access.specs.declared.driver_model.DriverModel.{Ghosts}
use Rattle.imago_access.specs.declared.mapping.PreparedDataMapping.{PreparedDataMapping}
use Rattle.imago_access.specs.ChainCalls.{AllUnchanged, ChainFails, WontDecline}
use Rattle.imago_access.specs.Refusals.{unusable_fault}
use Rattle.imago_access.specs.Running.{IsIntactChain}
use Rattle.qimg_calls.specs.declared.call.Call.{Call}
use Rattle.qimg_calls.specs.declared.call.Call.TheVariants as calls
use Rattle.qimg_calls.specs.declared.call.Answer.{Answer}
use Rattle.qimg_calls.specs.declared.call.Answer.TheVariants as told
use Rattle.qimg_calls.specs.Calls.{Either, Fits, GoesOn, IfRefused, WasDone, is_of_mapping, is_out_of_place}
use Rattle.qimg_calls.specs.Held.{ChainWithMapping, chain_with_mapping, MappingIsPrepared, disk_call}
use Rattle.qimg_calls.specs.Leading.{CallLeaves}
use Rattle.qimg_calls.specs.Marking.{MarksRefusedFailed, StaysFailed}
use Rattle.qimg_calls.specs.Moves.{IsIdle, CallEffect, EndsEarly, RestsOn, refusal_at_once}
use Rattle.qimg_calls.specs.RoomTaken.{LeavesRoomFor, SettlesUnits}

-- The errors of a call on any chain. A commit to the layer below may also have an early error.
abbrev pub CallFails : {D St : Type 0} → Ghosts D St → Call → ChainWithMapping D St → ChainWithMapping D St → Fault → Type 0
CallFails g calls.CommitDown old new fault =
    (refusal_at_once g calls.CommitDown old ≡ Some fault) ⊎ ChainFails g old.drivers new.drivers fault
CallFails g call old new fault = ChainFails g old.drivers new.drivers fault

-- The outcome of one call. If a cause is known before anything is done, the answer is that error. A call with nothing to do succeeds. Such a
-- call makes no request and changes nothing. The call has its specified effect on the disk, allocates and deallocates within its limits,
-- marks failed images, which stay failed, and leaves what the next call relies on. The kept mapping is still the prepared one. On any chain,
-- consistent or not, the fault is one of an image's call, and `Storage` only if a storage has failed. A cancel always succeeds.
pub record CallOutcome {D St : Type 0} (g : Ghosts D St) (call : Call) (answer : Answer) (old new : ChainWithMapping D St) : Type 0 where
  pub fits : Fits call answer
  pub early_outcome : (f : Fault) → refusal_at_once g call old ≡ Some f → answer ≡ told.Refused f
  pub idle : IsIdle g call old → unusable_fault (g.layer old.drivers.0) ≡ None → WasDone answer
  pub untouched : EndsEarly g call old → AllUnchanged g old.drivers new.drivers
  pub stays_kept : IsSome (refusal_at_once g call old) → new.kept_mapping ≡ old.kept_mapping
  pub moves : RestsOn g call old.drivers → CallEffect g call answer old new
  pub room : IsIntactChain g old.drivers → GoesOn answer → LeavesRoomFor g call old.drivers.0 new.drivers.0
  pub units : IsIntactChain g old.drivers → WontDecline g (disk_call g old call) old.drivers → WasDone answer
      → SettlesUnits g call old.drivers.0 new.drivers.0
  pub marks_failed : IfRefused answer (MarksRefusedFailed g call old.drivers new.drivers)
  pub stays_failed : StaysFailed g old.drivers new.drivers
  pub failed : IfRefused answer (CallFails g call old new)
  pub cancels : call ≡ calls.Cancel → WasDone answer × (new.kept_mapping ≡ None)
  pub leads : CallLeaves g call answer old new
  pub mapping_prepared : MappingIsPrepared g old → MappingIsPrepared g new
  pub same : IsFalse (is_of_mapping call) → new.kept_mapping ≡ old.kept_mapping

-- The answer to a call that only succeeds or fails.
abbrev pub done_or_refused : Result Unit Fault → Answer
done_or_refused (Ok unit) = told.Done
done_or_refused (Err fault) = told.Refused fault

-- The outcome of a call that is allowed whether or not a mapping is kept.
abbrev pub MakesBeside : {D St : Type 0} → Ghosts D St → Call → Answer → D × List D → D × List D → Type 0
MakesBeside {D} {St} g call answer old new =
    (kept : Option (PreparedDataMapping St)) → MappingIsPrepared g (chain_with_mapping old kept) → CallOutcome g call answer (chain_with_mapping old kept) (chain_with_mapping new kept)

-- The outcome of a call that is made while no mapping is kept.
abbrev pub MakesAlone : {D St : Type 0} → Ghosts D St → Call → Answer → D × List D → D × List D → Type 0
MakesAlone g call answer old new = CallOutcome g call answer (chain_with_mapping old None) (chain_with_mapping new None)

-- One call of a list. If `is_out_of_place` holds, the call isn't made, and nothing changes.
abbrev pub Answers : {D St : Type 0} → Ghosts D St → Call → Answer → ChainWithMapping D St → ChainWithMapping D St → Type 0
Answers g call answer old new =
    Either (is_out_of_place (is_some old.kept_mapping) call) ((answer ≡ told.Refused BadArgument) × (new ≡ old)) (CallOutcome g call answer old new)

abbrev pub AnswersAll : {D St : Type 0} → Ghosts D St → List Call → List Answer → ChainWithMapping D St → ChainWithMapping D St → Type 0
AnswersAll g [] [] old new = new ≡ old
AnswersAll {D} {St} g (call ∷ calls) (answer ∷ answers) old new =
    (mid : ChainWithMapping D St) × Answers g call answer old mid × AnswersAll g calls answers mid new
AnswersAll g _ _ old new = ⊥

-- The kept mapping is cancelled, without a request to the top's file.
abbrev pub CancelsKept : {D St : Type 0} → Ghosts D St → ChainWithMapping D St → D × List D → Type 0
CancelsKept g h new = MatchOption h.kept_mapping (new ≡ h.drivers)
    (λ m. CallOutcome g calls.Cancel told.Done h (chain_with_mapping new None) × (g.image new.0 ≡ g.image h.drivers.0))

-- A list of calls is made with no mapping kept at first. A mapping that is left at the end is cancelled.
abbrev pub MadeAll : {D St : Type 0} → Ghosts D St → List Call → List Answer → D × List D → D × List D → Type 0
MadeAll {D} {St} g list answers old new =
    (last : ChainWithMapping D St) × AnswersAll g list answers (chain_with_mapping old None) last × CancelsKept g last new

-- A list of calls is made with no mapping kept before and after it.
abbrev pub AnswersAlone : {D St : Type 0} → Ghosts D St → List Call → List Answer → D × List D → D × List D → Type 0
AnswersAlone g list answers old new = AnswersAll g list answers (chain_with_mapping old None) (chain_with_mapping new None)
