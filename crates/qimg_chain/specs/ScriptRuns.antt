-- Specifies a script (one call a line) that runs over a chain, and the text that answers it.
use Rattle.std.specs.Prelude.{◌≡◌, ◌⊎◌, ⊤, ℕ, List, [], ◌∷◌, ◌++◌, length, map, Option, None, Some, option_map, IfSome, OnOk, Result, Ok, Err, Vec}
use Rattle.std.specs.Global.{Global}
use Rattle.std.specs.Io.KnownBytes.{Appends}
use Rattle.imago_storage.specs.declared.fault.Fault.{Fault}
use Rattle.imago_access.specs.declared.driver_model.DriverModel.{Ghosts}
use Rattle.qimg_calls.specs.Held.{IsReady}
use Rattle.qimg_calls.specs.Making.{AnswersAlone}
use Rattle.qimg_calls.specs.Runs.{Driven, HoldsSince, MayCommit}
use Rattle.qimg_calls.specs.Since.{Since}
use Rattle.qimg_calls.specs.declared.call.Call.{Call}
use Rattle.qimg_calls.specs.declared.call.Answer.{Answer as CallAnswer}
use Rattle.qimg_chain.specs.Saving.{SavedFiles, files_to_save}
use Rattle.qimg_chain.specs.RunAnswers.{KeepsSaved, TellsLine}
use Rattle.qimg_chain.specs.RunCalls.{Turn, unmade}
use Rattle.qimg_chain.specs.Script.{IsLine, NotLine}
use Rattle.qimg_chain.specs.ScriptAnswers.{answer_text}
use Rattle.qimg_chain.specs.ScriptLimits.{AreAnswered, IsAnswerCount}
use Rattle.qimg_chain.specs.declared.run.fault.RunFault.{RunFault}
use Rattle.qimg_chain.specs.declared.run.fault.RunFault.TheVariants as run_fault
use Rattle.qimg_chain.specs.declared.run.saved.Saved.{Saved}
use Rattle.qimg_chain.specs.declared.run.saved.Kept.{Kept}
use Rattle.qimg_chain.specs.declared.run.saved.Kept.TheVariants as kept
use Rattle.qimg_chain.specs.declared.script.answer.Answer.{Answer}
use Rattle.qimg_chain.specs.declared.script.answer.Answer.TheVariants as told
use Rattle.qimg_chain.specs.declared.script.line.Line.{Line}

-- The state of a script: the drivers of the chain, the top first, and the bytes that the last `save` kept.
pub record Standing (D : Type 0) : Type 0 where
  pub drivers : D × List D
  pub saved : Option SavedFiles

abbrev pub standing : {D : Type 0} → D × List D → Option SavedFiles → Standing D
standing drivers saved = record { drivers = drivers; saved = saved }

-- A line that was run: its text, the calls that it made, and its answer.
pub record Reply : Type 0 where
  pub text : List ℕ
  pub turn : Turn
  pub answer : Answer

abbrev pub reply : List ℕ → Turn → Answer → Reply
reply text turn answer = record { text = text; turn = turn; answer = answer }

-- The text is a line, and is run and answered as that line, with these names of further files.
pub record RunsLine {D St : Type 0} (g : Ghosts D St) (names : D → ℕ → List ℕ) (r : Reply) (old new : Standing D) : Type 0 where
  pub line : Line
  pub is_line : IsLine r.text line
  pub tells : TellsLine g names line r.turn r.answer old.drivers
  pub keeps : KeepsSaved line r.answer (files_to_save g new.drivers) old.saved new.saved

-- The text isn't parsed as a line, and nothing is done.
pub record RunsNothing {D St : Type 0} (g : Ghosts D St) (r : Reply) (old new : Standing D) : Type 0 where
  pub fault : Fault
  pub why : NotLine r.text fault
  pub none : r.turn ≡ unmade
  pub answered : r.answer ≡ told.Refused fault
  pub saved_unchanged : new.saved ≡ old.saved

pub record Replies {D St : Type 0} (g : Ghosts D St) (names : D → ℕ → List ℕ) (r : Reply) (old new : Standing D) : Type 0 where
  pub made : AnswersAlone g r.turn.list r.turn.answers old.drivers new.drivers
  pub runs : RunsLine g names r old new ⊎ RunsNothing g r old new

-- The lines are run one after another.
abbrev pub RunsAll : {D St : Type 0} → Ghosts D St → (D → ℕ → List ℕ) → List Reply → Standing D → Standing D → Type 0
RunsAll g names [] old new = new ≡ old
RunsAll {D} g names (r ∷ replies) old new = (mid : Standing D) × Replies g names r old mid × RunsAll g names replies mid new

-- The calls of these lines, their answers, and the text of the answers, one line for each.
abbrev pub calls_of : List Reply → List Call
calls_of [] = []
calls_of (r ∷ replies) = r.turn.list ++ calls_of replies

abbrev pub answers_of : List Reply → List CallAnswer
answers_of [] = []
answers_of (r ∷ replies) = r.turn.answers ++ answers_of replies

abbrev pub text_of : List Reply → List ℕ
text_of [] = []
text_of (r ∷ replies) = (answer_text r.answer ++ 10 ∷ []) ++ text_of replies

-- The faults with which the next line isn't read, and those with which an answer isn't written.
abbrev pub IsReadingFault : RunFault → Type 0
IsReadingFault run_fault.Read = ⊤
IsReadingFault run_fault.Memory = ⊤
IsReadingFault fault = ⊥

abbrev pub IsTellingFault : RunFault → Type 0
IsTellingFault run_fault.Write = ⊤
IsTellingFault run_fault.Memory = ⊤
IsTellingFault fault = ⊥

-- The answers before the last one are written, and nothing of the last one.
pub record IsLastUntold (before after : Option (List ℕ)) (replies : List Reply) : Type 0 where
  pub told : List Reply
  pub last : Reply
  pub are : replies ≡ told ++ last ∷ []
  pub written : Appends before after (text_of told)

-- The answers that are written. If the script ended, the reader failed or there are too many lines, all answers are written. If memory ran
-- out, all answers or all except the last are. If the writer failed, this is unspecified.
abbrev pub AreWritten : Result (Option SavedFiles) RunFault → (before after : Option (List ℕ)) → List Reply → Type 0
AreWritten (Err run_fault.Write) before after replies = ⊤
AreWritten (Err run_fault.Memory) before after replies = Appends before after (text_of replies) ⊎ IsLastUntold before after replies
AreWritten result before after replies = Appends before after (text_of replies)

-- The bytes that a script returns.
abbrev pub saved_of : Saved → SavedFiles
saved_of s = record { top = s.top.items; below = option_map (λ bytes. bytes.items) s.below }

abbrev pub items_of : Option Saved → Option SavedFiles
items_of = option_map saved_of

-- The bytes that the last `save` kept, if `files` are those of the files now.
abbrev pub kept_of : SavedFiles → Kept → Option SavedFiles
kept_of files kept.Nothing = None
kept_of files kept.InFiles = Some files
kept_of files (kept.Apart s) = Some (saved_of s)

-- The end of a script, with the bytes that it returns.
abbrev pub ending : {T : Type 0} → (T → Option SavedFiles) → Result T RunFault → Result (Option SavedFiles) RunFault
ending kept (Ok saved) = Ok (kept saved)
ending kept (Err fault) = Err fault

-- A script that runs over a chain, from the bytes of its reader and its writer, if they are known. Each line makes its call, and all lines
-- together do what the list of these calls does.
pub record Scripted {D St : Type 0} (g : Ghosts D St) (names : D → ℕ → List ℕ) (input before after : Option (List ℕ))
    (result : Result (Option SavedFiles) RunFault) (old new : D × List D) : Type 0 where
  pub replies : List Reply
  pub saved : Option SavedFiles
  pub runs : RunsAll g names replies (standing old None) (standing new saved)
  pub driven : (since : Since) → IsReady g old → MayCommit g (calls_of replies) old → HoldsSince g since old
      → Driven g since (calls_of replies) (answers_of replies) old new
  -- The lines are the first of the reader, within the limit, and all of them if the script ends. The text written is their answers.
  pub count : IsAnswerCount result (length replies)
  pub lines : IfSome input (λ bytes. AreAnswered result bytes (map (λ (r : Reply). r.text) replies))
  pub written : AreWritten result before after replies
  -- If the script runs to its end, it returns the bytes that the last successful `save` kept, if any.
  pub saved_returned : OnOk result (result ≡ Ok saved)

-- Like `Scripted`, for a chain that is dropped at the end.
abbrev pub ScriptedFrom : {D St : Type 0} → Ghosts D St → (D → ℕ → List ℕ) → (input before after : Option (List ℕ))
    → Result (Option SavedFiles) RunFault → D × List D → Type 0
ScriptedFrom {D} g names input before after result old = (last : D × List D) × Scripted g names input before after result old last
