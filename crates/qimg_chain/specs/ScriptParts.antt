-- The results of the parts of the line parser.
use Rattle.std.specs.Prelude.{◌≡◌, ℕ, List, [], ◌∷◌, if◌then◌else◌, Option, Some, None, option_map, option_and_then, codes}
use Rattle.std.specs.Str.{bytes_eq}
use Rattle.imago_storage.specs.declared.fault.Fault.{Fault}
use Rattle.imago_storage.specs.declared.fault.Fault.TheVariants.{Memory, BadCommand}
use Rattle.qimg_chain.specs.ScriptWords.{number_of, bytes_of, mode_of}
use Rattle.qimg_chain.specs.Script.{IsWrite}
use Rattle.qimg_chain.specs.declared.script.line.Line.{Line}
use Rattle.qimg_chain.specs.declared.script.line.Line.TheVariants.{Size, Read, Write, Zero, Discard, DiscardAny, DiscardBacking, Grow, Shrink, Flush, Check, Plain, Save, Repair, Commit}

-- The line of a command without arguments.
unfoldable pub lone_line : List ℕ → Option Line
lone_line name = if bytes_eq name (codes "size") then Some Size
    else (if bytes_eq name (codes "flush") then Some Flush
    else (if bytes_eq name (codes "check") then Some Check
    else (if bytes_eq name (codes "save") then Some Save
    else (if bytes_eq name (codes "repair") then Some Repair
    else (if bytes_eq name (codes "commit") then Some Commit else None)))))

-- The line of a command with one argument.
unfoldable pub shrink_line : List ℕ → List ℕ → Option Line
shrink_line name first = if bytes_eq name (codes "shrink") then option_map (λ size. Shrink size) (number_of first) else None

-- The line of a command on a range.
unfoldable pub range_line : List ℕ → ℕ → ℕ → Option Line
range_line name offset count = if bytes_eq name (codes "read") then Some (Read offset count)
    else (if bytes_eq name (codes "zero") then Some (Zero offset count)
    else (if bytes_eq name (codes "discard") then Some (Discard offset count)
    else (if bytes_eq name (codes "discard-any") then Some (DiscardAny offset count)
    else (if bytes_eq name (codes "discard-backing") then Some (DiscardBacking offset count)
    else (if bytes_eq name (codes "plain") then Some (Plain offset count) else None)))))

-- The line of a command with a number and a mode, or with two numbers.
unfoldable pub mode_or_range_line : List ℕ → ℕ → List ℕ → Option Line
mode_or_range_line name start second = if bytes_eq name (codes "grow") then option_map (λ mode. Grow start mode) (mode_of second)
    else option_and_then (λ count. range_line name start count) (number_of second)

-- The line of a command with a number and another argument.
unfoldable pub numbered_line : List ℕ → List ℕ → ℕ → Option Line
numbered_line name second start = if bytes_eq name (codes "write") then option_map (λ bytes. Write start bytes) (bytes_of second)
    else mode_or_range_line name start second

-- The line of a command and its arguments.
unfoldable pub line_of : List (List ℕ) → Option Line
line_of [] = None
line_of (name ∷ []) = lone_line name
line_of (name ∷ first ∷ []) = shrink_line name first
line_of (name ∷ first ∷ second ∷ []) = option_and_then (numbered_line name second) (number_of first)
line_of (name ∷ first ∷ second ∷ third ∷ more) = None

-- The reason why these parts aren't parsed as a line: they aren't one, or memory ran out for the bytes of a `write`.
abbrev pub NotSaid : List (List ℕ) → Fault → Type 0
NotSaid words Memory = IsWrite words
NotSaid words BadCommand = line_of words ≡ None
NotSaid words fault = ⊥
