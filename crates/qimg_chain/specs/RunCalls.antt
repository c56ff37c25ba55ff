-- Specifies which call of a chain (an image and its backing chain) a line of a script makes, and how the result of the call becomes the
-- line's answer.
use Rattle.std.specs.Prelude.{◌≡◌, ◌⊎◌, ℕ, Bool, true, false, List, [], ◌∷◌, Option, Some, None, Vec, Result, MatchResult, length}
use Rattle.std.specs.Global.{Global}
use Rattle.imago_storage.specs.declared.fault.Fault.{Fault}
use Rattle.imago_storage.specs.declared.fault.Fault.TheVariants.{Memory}
use Rattle.imago_access.specs.declared.driver_model.DriverModel.{Ghosts}
use Rattle.qimg_calls.specs.Calls.{Fits}
use Rattle.qimg_calls.specs.Making.{AnswersAlone}
use Rattle.qimg_calls.specs.declared.call.Call.{Call}
use Rattle.qimg_calls.specs.declared.call.Call.TheVariants as calls
use Rattle.qimg_calls.specs.declared.call.Answer.{Answer as CallAnswer}
use Rattle.qimg_calls.specs.declared.call.Answer.TheVariants as answers
use Rattle.qimg_chain.specs.declared.script.answer.Answer.{Answer}
use Rattle.qimg_chain.specs.declared.script.answer.Answer.TheVariants as told
use Rattle.qimg_chain.specs.declared.script.line.Line.{Line}
use Rattle.qimg_chain.specs.declared.script.line.Line.TheVariants.{Size, Read, Write, Zero, Discard, DiscardAny, DiscardBacking, Grow, Shrink, Flush, Check, Plain, Save, Repair, Commit}

-- The line makes a call of the chain.
abbrev pub asks_for_call : Line → Bool
asks_for_call Size = false
asks_for_call Check = false
asks_for_call (Plain offset n) = false
asks_for_call line = true

-- `call` is the call of the line.
abbrev pub IsCallOf : Line → Call → Type 0
IsCallOf (Read offset n) call = call ≡ calls.Read offset n
IsCallOf (Write offset bytes) call = (vec : Vec ℕ Global) × (vec.items ≡ bytes) × (call ≡ calls.Write offset vec)
IsCallOf (Zero offset n) call = call ≡ calls.WriteZeroes offset n
IsCallOf (Discard offset n) call = call ≡ calls.DiscardToZero offset n
IsCallOf (DiscardAny offset n) call = call ≡ calls.DiscardToAny offset n
IsCallOf (DiscardBacking offset n) call = call ≡ calls.DiscardToBacking offset n
IsCallOf (Grow size mode) call = call ≡ calls.ResizeGrow size mode
IsCallOf (Shrink size) call = call ≡ calls.ResizeShrink size
IsCallOf Flush call = call ≡ calls.Flush
IsCallOf Save call = call ≡ calls.Flush
IsCallOf Repair call = call ≡ calls.RepairLeaks
IsCallOf Commit call = call ≡ calls.CommitDown
IsCallOf line call = ⊥

abbrev pub IsNoCall : Line → Type 0
IsNoCall line = asks_for_call line ≡ false

-- The answer to a line, from the answer to its call.
abbrev pub told_of : CallAnswer → Option Answer
told_of answers.Done = Some told.Done
told_of (answers.Bytes bytes) = Some (told.Bytes bytes.items)
told_of (answers.Leaks pairs) = Some (told.Number (length pairs.items))
told_of (answers.Refused fault) = Some (told.Refused fault)
told_of answer = None

-- The call is made and answered, or it isn't made because there is no memory for its answer.
abbrev pub MadeOne : {D St : Type 0} → Ghosts D St → Call → Result CallAnswer Fault → D × List D → D × List D → Type 0
MadeOne g call result old new = MatchResult result
    (λ answer. AnswersAlone g (call ∷ []) (answer ∷ []) old new × Fits call answer)
    (λ fault. (fault ≡ Memory) × (new ≡ old))

-- The calls that a line has made, with their answers: one or none.
pub record Turn : Type 0 where
  pub list : List Call
  pub answers : List CallAnswer

-- No call.
abbrev pub unmade : Turn
unmade = record { list = []; answers = [] }

-- One call, with this answer.
abbrev pub one : Call → CallAnswer → Turn
one call answer = record { list = call ∷ []; answers = answer ∷ [] }

-- The call of the line is made, and its answer is the line's. Or it isn't made, because memory runs out.
abbrev pub TellsCall : Line → Turn → Answer → Type 0
TellsCall line turn answer =
    ((call : Call) × (said : CallAnswer) × IsCallOf line call × (turn ≡ one call said) × (told_of said ≡ Some answer))
    ⊎ ((turn ≡ unmade) × (answer ≡ told.Refused Memory))
