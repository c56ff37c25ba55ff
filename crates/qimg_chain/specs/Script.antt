-- The lines of a script. A line is a command and its arguments, with one space between two of them. Together they are the parts of the
-- line.
use Rattle.std.specs.Prelude.{◌≡◌, ℕ, ◌≤◌, List, [], ◌∷◌, length, Some, IsSome, codes}
use Rattle.std.specs.List.{join_with_byte}
use Rattle.imago_storage.specs.declared.fault.Fault.{Fault}
use Rattle.imago_storage.specs.declared.fault.Fault.TheVariants.{Memory, BadCommand}
use Rattle.imago_access.specs.declared.format.PreallocateMode.{PreallocateMode}
use Rattle.qimg_chain.specs.ScriptWords.{ArePairs, words_of, number_of, bytes_of, mode_word}
use Rattle.qimg_chain.specs.declared.script.line.Line.{Line}
use Rattle.qimg_chain.specs.declared.script.line.Line.TheVariants.{Size, Read, Write, Zero, Discard, DiscardAny, DiscardBacking, Grow, Shrink, Flush, Check, Plain, Save, Repair, Commit}

-- The argument writes a number, which may have leading zeroes.
abbrev pub IsNumber : ℕ → List ℕ → Type 0
IsNumber n word = number_of word ≡ Some n

-- The argument writes bytes, in digits of either case.
abbrev pub IsBytes : List ℕ → List ℕ → Type 0
IsBytes bytes word = bytes_of word ≡ Some bytes

-- The argument is that of a mode of growth.
abbrev pub IsMode : PreallocateMode → List ℕ → Type 0
IsMode mode word = word ≡ mode_word mode

-- The parts are a command and one argument.
pub record HasOne (command : List ℕ) (First : List ℕ → Type 0) (words : List (List ℕ)) : Type 0 where
  pub first : List ℕ
  pub words_are : words ≡ command ∷ first ∷ []
  pub is_first : First first

-- The parts are a command and two arguments.
pub record HasTwo (command : List ℕ) (First Second : List ℕ → Type 0) (words : List (List ℕ)) : Type 0 where
  pub first : List ℕ
  pub second : List ℕ
  pub words_are : words ≡ command ∷ first ∷ second ∷ []
  pub is_first : First first
  pub is_second : Second second

-- These parts write the line.
abbrev pub IsWritten : Line → List (List ℕ) → Type 0
IsWritten Size words = words ≡ codes "size" ∷ []
IsWritten (Read offset count) words = HasTwo (codes "read") (IsNumber offset) (IsNumber count) words
IsWritten (Write offset bytes) words = HasTwo (codes "write") (IsNumber offset) (IsBytes bytes) words
IsWritten (Zero offset count) words = HasTwo (codes "zero") (IsNumber offset) (IsNumber count) words
IsWritten (Discard offset count) words = HasTwo (codes "discard") (IsNumber offset) (IsNumber count) words
IsWritten (DiscardAny offset count) words = HasTwo (codes "discard-any") (IsNumber offset) (IsNumber count) words
IsWritten (DiscardBacking offset count) words = HasTwo (codes "discard-backing") (IsNumber offset) (IsNumber count) words
IsWritten (Grow size mode) words = HasTwo (codes "grow") (IsNumber size) (IsMode mode) words
IsWritten (Shrink size) words = HasOne (codes "shrink") (IsNumber size) words
IsWritten Flush words = words ≡ codes "flush" ∷ []
IsWritten Check words = words ≡ codes "check" ∷ []
IsWritten (Plain offset count) words = HasTwo (codes "plain") (IsNumber offset) (IsNumber count) words
IsWritten Save words = words ≡ codes "save" ∷ []
IsWritten Repair words = words ≡ codes "repair" ∷ []
IsWritten Commit words = words ≡ codes "commit" ∷ []

-- A text of at most 65,536 bytes is the line: its parts with one space between two of them.
pub record IsLine (text : List ℕ) (line : Line) : Type 0 where
  pub short : length text ≤ 65536
  pub words : List (List ℕ)
  pub joined : text ≡ join_with_byte 32 words
  pub written : IsWritten line words

-- The parts are a `write` with a number and with pairs of characters, which may not all be digits.
abbrev pub IsWrite : List (List ℕ) → Type 0
IsWrite words = HasTwo (codes "write") (λ first. IsSome (number_of first)) ArePairs words

-- Memory may run out for this text: it is a `write` that isn't longer than a line.
pub record MayWant (text : List ℕ) : Type 0 where
  pub short : length text ≤ 65536
  pub write : IsWrite (words_of text)

-- The reason why a text isn't parsed as a line: it isn't one, or memory ran out for the bytes of a `write`.
abbrev pub NotLine : List ℕ → Fault → Type 0
NotLine text Memory = MayWant text
NotLine text BadCommand = (line : Line) → ¬ (IsLine text line)
NotLine text fault = ⊥
