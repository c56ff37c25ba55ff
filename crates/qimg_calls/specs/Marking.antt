-- The images that a failed call of a list marks failed (they must be opened again), for formats that do so.
use Rattle.std.specs.Prelude.{⊤, false, List, [], ◌∷◌, map, IsTrue, if◌then◌else◌}
use Rattle.imago_storage.specs.declared.fault.Fault.{Fault}
use Rattle.imago_storage.specs.declared.fault.Fault.TheVariants.{BadArgument, Failed}
use Rattle.imago_access.specs.declared.driver_model.DriverModel.{Ghosts}
use Rattle.imago_access.specs.Committing.{MarksCommitFailed}
use Rattle.imago_access.specs.Layer.{Layer}
use Rattle.imago_access.specs.Going.{MarksFailed, MarksFailedOver, MarksSomeFailed}
use Rattle.imago_access.specs.Layers.{chain}
use Rattle.imago_access.specs.RunCalls.{DriverMarksFailed, MarksTopFailed}
use Rattle.imago_access.specs.Running.{below_ghosts}
use Rattle.imago_access.specs.Spending.{IsSpending}
use Rattle.qimg_calls.specs.Calls.{is_out_of_place}
use Rattle.qimg_calls.specs.declared.call.Answer.{Answer}
use Rattle.qimg_calls.specs.declared.call.Answer.TheVariants as told
use Rattle.qimg_calls.specs.declared.call.Call.{Call}
use Rattle.qimg_calls.specs.declared.call.Call.TheVariants as calls

-- After `Storage`, the image with the failed storage is marked failed. After `Memory`, the top is marked failed, or is unchanged or
-- well-formed. If a failed commit has consumed its mapping, the top is marked failed, in every format.
abbrev pub MarksRefusedFailed : {D St : Type 0} → Ghosts D St → Call → D × List D → D × List D → Fault → Type 0
MarksRefusedFailed g (calls.Read offset n) old new fault = MarksSomeFailed g (chain old) (chain new) fault
MarksRefusedFailed g (calls.GetMapping offset n) old new fault = MarksSomeFailed g (chain old) (chain new) fault
MarksRefusedFailed g (calls.Write offset bytes) old new fault = MarksTopFailed g (below_ghosts g) old new fault
MarksRefusedFailed g (calls.WriteZeroes offset n) old new fault = MarksTopFailed g (below_ghosts g) old new fault
MarksRefusedFailed g (calls.DiscardToZero offset n) old new fault = MarksTopFailed g (below_ghosts g) old new fault
MarksRefusedFailed g (calls.EnsureDataMapping offset n overwrite) old new fault = MarksTopFailed g (below_ghosts g) old new fault
MarksRefusedFailed g (calls.DiscardToAny offset n) old new fault = DriverMarksFailed g old.0 new.0 fault
MarksRefusedFailed g (calls.DiscardToBacking offset n) old new fault = DriverMarksFailed g old.0 new.0 fault
MarksRefusedFailed g calls.RepairLeaks old new fault = DriverMarksFailed g old.0 new.0 fault
MarksRefusedFailed g (calls.PrepareDataMapping offset n overwrite) old new fault = MarksFailedOver g old.0 new.0 fault
MarksRefusedFailed g (calls.ResizeGrow size mode) old new fault = MarksFailedOver g old.0 new.0 fault
MarksRefusedFailed g calls.CommitDown old new fault = MarksCommitFailed g old new fault
MarksRefusedFailed g calls.CommitDataMapping old new fault = IsSpending fault → IsTrue (g.layer new.0).failed
MarksRefusedFailed g call old new fault = MarksFailed g old.0 new.0 fault

-- Each image of these layers that had failed still has.
abbrev pub StayFailed : List Layer → List Layer → Type 0
StayFailed [] [] = ⊤
StayFailed (old ∷ olds) (new ∷ news) = (IsTrue old.failed → IsTrue new.failed) × StayFailed olds news
StayFailed _ _ = ⊥

abbrev pub StaysFailed : {D St : Type 0} → Ghosts D St → D × List D → D × List D → Type 0
StaysFailed g old new = StayFailed (map g.layer (chain old)) (map g.layer (chain new))

-- The answer to a call on a top image that has failed, with no mapping kept.
abbrev pub answer_of_failed : Call → Answer
answer_of_failed call = told.Refused (if is_out_of_place false call then BadArgument else Failed)
