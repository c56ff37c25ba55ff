-- The limits on a script's lines and bytes, and the lines that are run within these limits.
use Rattle.std.specs.Prelude.{◌≡◌, ◌≢◌, ⊤, ℕ, ◌<◌, ◌≤◌, List, [], ◌++◌, length, Option, Result, Ok, Err}
use Rattle.std.specs.Io.BufRead.{take_through}
use Rattle.std.specs.Str.Lines.{lines}
use Rattle.qimg_chain.specs.Saving.{SavedFiles}
use Rattle.qimg_chain.specs.declared.run.fault.RunFault.{RunFault}
use Rattle.qimg_chain.specs.declared.run.fault.RunFault.TheVariants as run_fault

-- The largest number of lines in a script, and the largest number of bytes.
abbrev pub most_lines : ℕ
most_lines = 1048576

abbrev pub most_bytes : ℕ
most_bytes = 137438953472

-- The number of lines that are run. It is at most the limit, exactly the limit if there are too many lines, and not 0 if a write failed.
abbrev pub IsAnswerCount : Result (Option SavedFiles) RunFault → ℕ → Type 0
IsAnswerCount (Err run_fault.Lines) n = n ≡ most_lines
IsAnswerCount (Err run_fault.Write) n = (0 < n) × (n ≤ most_lines)
IsAnswerCount result n = n ≤ most_lines

-- The end of the lines that are run, between the bytes before and after it. It is the end of the script; or, if there are too many lines,
-- it is before one more line, which is within the limit of bytes; or it is anywhere.
abbrev pub EndsBetween : Result (Option SavedFiles) RunFault → List ℕ → List ℕ → Type 0
EndsBetween (Ok saved) before rest = rest ≡ []
EndsBetween (Err run_fault.Lines) before rest = (rest ≢ []) × (length (before ++ take_through 10 rest) ≤ most_bytes)
EndsBetween (Err fault) before rest = ⊤

-- The lines that are run are the first lines of the script. With their ends they have at most as many bytes as a script may have.
pub record AreAnswered (result : Result (Option SavedFiles) RunFault) (bytes : List ℕ) (texts : List (List ℕ)) : Type 0 where
  pub before : List ℕ
  pub remainder : List ℕ
  pub parts : bytes ≡ before ++ remainder
  pub first : lines bytes ≡ texts ++ lines remainder
  pub short : length before ≤ most_bytes
  pub ends : EndsBetween result before remainder
