-- Specifies the answers to lines of a script, and their effects on a chain. The chain is given by its drivers before and after, the top
-- first.
use Rattle.std.specs.Prelude.{◌≡◌, ◌≢◌, ⊤, ℕ, ◌<◌, ◌≤◌, ◌⊎◌, List, length, Option, Some, Result, Ok, Err, map}
use Rattle.imago_storage.specs.View.{view_state}
use Rattle.imago_storage.specs.declared.fault.Fault.{Fault}
use Rattle.imago_storage.specs.declared.fault.Fault.TheVariants.{BadArgument, Memory as WantOfMemory, Storage, Unsupported}
use Rattle.imago_storage.specs.declared.view.MemoryView.{MemoryView}
use Rattle.imago_access.specs.declared.driver_model.DriverModel.{Ghosts}
use Rattle.imago_access.specs.Layers.{chain}
use Rattle.imago_access.specs.declared.format.Format.{Format}
use Rattle.imago_access.specs.declared.format.Format.TheVariants.{Qcow2}
use Rattle.qcow2_types.specs.Bytes.{Bytes}
use Rattle.qcow2_types.specs.Consistency.{header, snapshots, external, table, shared_table, false_copied, under_counted, IsVerdict}
use Rattle.qimg_calls.specs.Making.{AnswersAlone}
use Rattle.qimg_core.specs.Check.{IsFinding}
use Rattle.qcow2_metadata.specs.Loading.{file}
use Rattle.qimg_core.specs.declared.plain.ChainFile.{ChainFile}
use Rattle.qimg_core.specs.declared.check.CheckFault.{CheckFault}
use Rattle.qimg_core.specs.declared.check.CheckFault.TheVariants as check_fault
use Rattle.qimg_chain.specs.FileMeanings.{driver_bytes, files_bytes}
use Rattle.qimg_chain.specs.PlainReads.{IsPlainlyRead, NotPlainlyRead}
use Rattle.qimg_chain.specs.Saving.{SavedFiles}
use Rattle.qimg_chain.specs.RunCalls.{Turn, unmade, TellsCall}
use Rattle.qimg_chain.specs.declared.script.answer.Answer.{Answer}
use Rattle.qimg_chain.specs.declared.script.answer.Answer.TheVariants as told
use Rattle.qimg_chain.specs.declared.script.line.Line.{Line}
use Rattle.qimg_chain.specs.declared.script.line.Line.TheVariants.{Size, Read, Check, Plain, Save}

-- The list has `n` bytes, which isn't more than a line may read.
abbrev pub IsLength : ℕ → List ℕ → Type 0
IsLength n bytes = (n ≤ 32768) × (length bytes ≡ n)

-- The reason why a buffer isn't allocated: it is longer than a line may read, or else memory ran out.
abbrev pub WhyNoBuffer : ℕ → Fault → Type 0
WhyNoBuffer n BadArgument = 32768 < n
WhyNoBuffer n WantOfMemory = n ≤ 32768
WhyNoBuffer n fault = ⊥

-- The fault is a finding of the checker for a file, or memory ran out.
abbrev pub IsUnsoundBy : Bytes → CheckFault → Type 0
IsUnsoundBy f check_fault.Header = IsFinding f header
IsUnsoundBy f check_fault.Snapshots = IsFinding f snapshots
IsUnsoundBy f check_fault.External = IsFinding f external
IsUnsoundBy f check_fault.Table = IsFinding f table
IsUnsoundBy f (check_fault.SharedTable c) = IsFinding f (shared_table c)
IsUnsoundBy f (check_fault.FalseCopied c) = IsFinding f (false_copied c)
IsUnsoundBy f (check_fault.UnderCounted c) = IsFinding f (under_counted c)
IsUnsoundBy f check_fault.Memory = ⊤
IsUnsoundBy f check_fault.Storage = ⊥

-- The answer to a check of a layer's file: the number of leaked clusters, or a finding.
abbrev pub Checks : Format → Bytes → Answer → Type 0
Checks format f (told.Number n) = (format ≡ Qcow2) × ((found : List (ℕ × ℕ)) × IsVerdict f (Ok found) × (n ≡ length found))
Checks format f (told.Unsound finding) = (format ≡ Qcow2) × IsUnsoundBy f finding
Checks format f (told.Refused Unsupported) = format ≢ Qcow2
Checks format f answer = ⊥

-- `P` holds for files in memory with the bytes of the chain's files and with the names of its further files.
abbrev pub OfLent : {D St : Type 0} → Ghosts D St → (D → ℕ → List ℕ) → (List (ChainFile MemoryView) → Type 0) → D × List D → Type 0
OfLent g names P c = (lent : List (ChainFile MemoryView)) × (files_bytes view_state lent ≡ map (driver_bytes g names) (chain c)) × P lent

-- The reason why a plain read fails: it is longer than a line may read; or else memory ran out, or the files' bytes can't be read.
abbrev pub NotReadPlainly : {D St : Type 0} → Ghosts D St → (D → ℕ → List ℕ) → ℕ → ℕ → Fault → D × List D → Type 0
NotReadPlainly g names offset n fault c = ((32768 < n) × (fault ≡ BadArgument))
    ⊎ ((n ≤ 32768) × ((fault ≡ WantOfMemory) ⊎ OfLent g names (λ lent. NotPlainlyRead view_state lent offset n fault) c))

-- A plain read of the chain, as one of its files' bytes. The files form a chain, and the end of the range fits 64 bits. The result is the
-- disk that the files mean as they are now. The files are in memory, where no storage fails.
abbrev pub ReadsPlainly : {D St : Type 0} → Ghosts D St → (D → ℕ → List ℕ) → ℕ → ℕ → Result (List ℕ) Fault → D × List D → Type 0
ReadsPlainly g names offset n (Ok bytes) c =
    IsLength n bytes × OfLent g names (λ lent. IsPlainlyRead view_state lent offset n bytes) c
ReadsPlainly g names offset n (Err fault) c = (fault ≢ Storage) × NotReadPlainly g names offset n fault c

-- The answer to a plain read.
abbrev pub bytes_told_of : Result (List ℕ) Fault → Answer
bytes_told_of (Ok bytes) = told.Bytes bytes
bytes_told_of (Err fault) = told.Refused fault

-- The answer is that of a result for which `P` holds.
abbrev pub TellsBytes : (Result (List ℕ) Fault → Type 0) → Answer → Type 0
TellsBytes P answer = (result : Result (List ℕ) Fault) × (answer ≡ bytes_told_of result) × P result

-- The answer to a line, from the call that it makes, or from the files, with these names of further files. A `read` line that is too long
-- makes no call.
abbrev pub TellsLine : {D St : Type 0} → Ghosts D St → (D → ℕ → List ℕ) → Line → Turn → Answer → D × List D → Type 0
TellsLine g names Size turn answer c = (turn ≡ unmade) × (answer ≡ told.Number (g.layer c.0).size)
TellsLine g names (Read offset n) turn answer c = ((32768 < n) × (turn ≡ unmade) × (answer ≡ told.Refused BadArgument))
    ⊎ ((n ≤ 32768) × TellsCall (Read offset n) turn answer)
TellsLine g names Check turn answer c = (turn ≡ unmade) × Checks (g.layer c.0).fixed.format (file (g.image c.0)) answer
TellsLine g names (Plain offset n) turn answer c = (turn ≡ unmade) × TellsBytes (λ result. ReadsPlainly g names offset n result c) answer
TellsLine g names line turn answer c = TellsCall line turn answer

-- The effect of a line, and its answer.
pub record Answered {D St : Type 0} (g : Ghosts D St) (names : D → ℕ → List ℕ) (line : Line) (answer : Answer)
    (old new : D × List D) : Type 0 where
  pub turn : Turn
  pub made : AnswersAlone g turn.list turn.answers old new
  pub tells : TellsLine g names line turn answer old

-- After a `save` that succeeded, the bytes of the files are kept, as they are now. Otherwise the kept bytes are unchanged.
abbrev pub KeepsSaved : Line → Answer → SavedFiles → Option SavedFiles → Option SavedFiles → Type 0
KeepsSaved Save told.Done files old new = new ≡ Some files
KeepsSaved line answer files old new = new ≡ old

-- The line doesn't read more bytes than it may.
abbrev pub IsShort : Line → Type 0
IsShort (Read offset n) = n ≤ 32768
IsShort line = ⊤
