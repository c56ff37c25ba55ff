-- Specifies how the lines of a script are read from its reader, and parsed.
use Rattle.std.specs.Prelude.{◌≡◌, ◌≢◌, ℕ, ◌+◌, All, Bool, true, false, List, [], ◌∷◌, ◌++◌, length, IfOk, IfErr, IfSome, Option, None, Some, Result}
use Rattle.std.specs.Io.BufRead.{DropsThrough, take_through}
use Rattle.std.specs.Io.KnownBytes.{Consumes, Keeps}
use Rattle.std.specs.Str.Lines.{lines}
use Rattle.imago_storage.specs.declared.fault.Fault.{Fault}
use Rattle.qimg_chain.specs.Script.{IsLine, NotLine}
use Rattle.qimg_chain.specs.declared.script.line.Line.{Line}

-- The next bytes of a reader are appended: some without a line feed, or the rest of the line.
pub record ReadsPart (left rest : Option (List ℕ)) (old new : List ℕ) (ended : Bool) : Type 0 where
  pub part : List ℕ
  pub appended : new ≡ old ++ part
  pub taken : Consumes left rest part
  pub goes_on : ended ≡ false → All (λ b. b ≢ 10) part
  pub ends : ended ≡ true → IfSome left (λ bytes. part ≡ take_through 10 bytes) × DropsThrough left rest 10

-- The result of parsing a text: the line, or the reason why it isn't one.
abbrev pub IsTakenAs : List ℕ → Result Line Fault → Type 0
IsTakenAs text taken = IfOk taken (IsLine text) × IfErr taken (NotLine text)

-- The first line of these bytes is parsed with this result.
pub record IsFirst (bytes : List ℕ) (result : Result Line Fault) : Type 0 where
  pub text : List ℕ
  pub remainder : List ℕ
  pub first : lines bytes ≡ text ∷ lines remainder
  pub taken : IsTakenAs text result

-- The next line of a script, from its bytes: the result of parsing it, or `None` if the bytes have no line.
abbrev pub IsNext : List ℕ → Option (Result Line Fault) → Type 0
IsNext bytes None = lines bytes ≡ []
IsNext bytes (Some taken) = IsFirst bytes taken

-- The next line of a reader is read. Its length with its end is `room - less`.
pub record ReadsNext (left rest : Option (List ℕ)) (room less : ℕ) (result : Option (Result Line Fault)) : Type 0 where
  pub bytes : List ℕ
  pub are : IfSome left (λ all. bytes ≡ take_through 10 all)
  pub drops : DropsThrough left rest 10
  pub fits : length bytes + less ≡ room
  pub next : IsNext bytes result

-- Like `ReadsNext`, or nothing is consumed.
abbrev pub ReadsShown : (left rest : Option (List ℕ)) (room less : ℕ) → Option (Option (Result Line Fault)) → Type 0
ReadsShown left rest room less None = Keeps left rest × (less ≡ room)
ReadsShown left rest room less (Some result) = ReadsNext left rest room less result
