-- The calls of lines of a script, and their answers.
use Rattle.std.proofs.Common.{◌≡◌, inl, inr, ℕ, List, [], ◌∷◌, refl, ap}
use Rattle.std.specs.Prelude.{None, Some, IsTrue}
use Rattle.imago_storage.specs.declared.fault.Fault.{Fault}
use Rattle.imago_storage.specs.declared.fault.Fault.TheVariants.{Memory}
use Rattle.imago_access.specs.declared.driver_model.DriverModel.{Ghosts}
use Rattle.qimg_calls.specs.Making.{AnswersAlone}
use Rattle.qimg_calls.specs.declared.call.Call.{Call}
use Rattle.qimg_calls.specs.declared.call.Answer.{Answer as CallAnswer}
use Rattle.qimg_calls.specs.Held.{chain_with_mapping}
use Rattle.qimg_chain.specs.RunAnswers.{Answered, IsShort, TellsLine}
use Rattle.qimg_chain.specs.RunCalls.{IsCallOf, TellsCall, Turn, asks_for_call, one, told_of, unmade}
use Rattle.qimg_chain.specs.declared.script.answer.Answer.{Answer}
use Rattle.qimg_chain.specs.declared.script.answer.Answer.TheVariants as told
use Rattle.qimg_chain.specs.declared.script.line.Line.{Line}
use Rattle.qimg_chain.specs.declared.script.line.Line.TheVariants.{Size, Read, Check, Plain}

-- A line that makes a call, and isn't too long a read, is answered by the call.
pub line-tells : {D St : Type 0} (g : Ghosts D St) (names : D → ℕ → List ℕ) (line : Line) (turn : Turn) (answer : Answer) (c : D × List D) → IsTrue (asks_for_call line) → IsShort line → TellsCall line turn answer → TellsLine g names line turn answer c
line-tells g names Size turn answer c asks short tells = absurd (cc asks)
line-tells g names Check turn answer c asks short tells = absurd (cc asks)
line-tells g names (Plain offset n) turn answer c asks short tells = absurd (cc asks)
line-tells g names (Read offset n) turn answer c asks short tells = inr (short, tells)
line-tells g names line turn answer c asks short tells = tells

-- A line is answered by its call, or the call isn't made because memory runs out.
pub told-line : {D St : Type 0} (g : Ghosts D St) (names : D → ℕ → List ℕ) (line : Line) (call : Call) (said : CallAnswer) (answer : Answer) (old new : D × List D) → IsTrue (asks_for_call line) → IsShort line → IsCallOf line call
    → AnswersAlone g (call ∷ []) (said ∷ []) old new → told_of said ≡ Some answer → Answered g names line answer old new
told-line g names line call said answer old new asks short is made tells = record {
  turn = one call said;
  made = made;
  tells = line-tells g names line (one call said) answer old asks short (inl (call, said, is, refl, tells));
}

pub unmade-line : {D St : Type 0} (g : Ghosts D St) (names : D → ℕ → List ℕ) (line : Line) (answer : Answer) (old new : D × List D) → new ≡ old → TellsLine g names line unmade answer old → Answered g names line answer old new
unmade-line {D} {St} g names line answer old new same tells = record { turn = unmade; made = ap (λ (c : D × List D). chain_with_mapping {St = St} c None) same; tells = tells }

pub no-room : {D St : Type 0} (g : Ghosts D St) (names : D → ℕ → List ℕ) (line : Line) (fault : Fault) (old new : D × List D) → IsTrue (asks_for_call line) → IsShort line → (fault ≡ Memory) × (new ≡ old) → Answered g names line (told.Refused fault) old new
no-room g names line fault old new asks short not_made = unmade-line g names line (told.Refused fault) old new not_made.1
    (line-tells g names line unmade (told.Refused fault) old asks short (inr (refl, ap told.Refused not_made.0)))
