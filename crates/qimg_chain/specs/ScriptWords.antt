-- The parts of a line of a script: the command and its arguments, and what an argument writes.
use Rattle.std.specs.Prelude.{◌≡◌, ℕ, ◌<◌, ◌%◌, ◌^◌, ◌&&◌, ◌==◌, nat_lt, nat_le, Bool, if◌then◌else◌}
use Rattle.std.specs.Prelude.{List, length, Option, Some, None, codes}
use Rattle.std.specs.List.{list_all, slice_split}
use Rattle.std.specs.Char.{is_ascii_digit}
use Rattle.std.specs.Result.{result_ok}
use Rattle.std.specs.Str.{bytes_eq}
use Rattle.std.specs.Str.Parse.{digits_value}
use Rattle.hex.specs.Hex.{decode_of}
use Rattle.imago_storage.specs.declared.fault.Fault.{Fault}
use Rattle.imago_storage.specs.declared.fault.Fault.TheVariants.{Memory, BadCommand}
use Rattle.imago_access.specs.declared.format.PreallocateMode.{PreallocateMode}
use Rattle.imago_access.specs.declared.format.PreallocateMode.TheVariants as mode

-- The texts between the occurrences of a byte, with the one before the first and the one after the last.
abbrev pub parts_at : ℕ → List ℕ → List (List ℕ)
parts_at byte text = slice_split (λ b. b == byte) text

-- The parts of a text between spaces.
abbrev pub words_of : List ℕ → List (List ℕ)
words_of text = parts_at 32 text

-- The argument is 1 to 20 digits of a number below 2^64.
abbrev pub is_number : List ℕ → Bool
is_number word = list_all is_ascii_digit word
    && (nat_lt 0 (length word) && (nat_le (length word) 20 && nat_lt (digits_value 10 word) (2 ^ 64)))

-- The number that an argument writes in decimal, if any.
unfoldable pub number_of : List ℕ → Option ℕ
number_of word = if is_number word then Some (digits_value 10 word) else None

-- The bytes that an argument writes as pairs of digits of either case, if it has at least one pair.
unfoldable pub bytes_of : List ℕ → Option (List ℕ)
bytes_of word = if nat_lt 0 (length word) then result_ok (decode_of word) else None

-- The argument consists of pairs of characters, at least one pair.
abbrev pub ArePairs : List ℕ → Type 0
ArePairs word = (0 < length word) × (length word % 2 ≡ 0)

-- The reason why an argument isn't decoded as bytes: memory ran out for its pairs, or it isn't pairs of digits.
abbrev pub NoBytes : List ℕ → Fault → Type 0
NoBytes word Memory = ArePairs word
NoBytes word BadCommand = bytes_of word ≡ None
NoBytes word fault = ⊥

-- The argument for a mode of growth.
abbrev pub mode_word : PreallocateMode → List ℕ
mode_word mode.None = codes "none"
mode_word mode.Zero = codes "zero"
mode_word mode.FormatAllocate = codes "format"
mode_word mode.FullAllocate = codes "full"
mode_word mode.WriteData = codes "data"

-- The mode of growth of an argument, if any.
unfoldable pub mode_of : List ℕ → Option PreallocateMode
mode_of word = if bytes_eq word (codes "none") then Some mode.None
    else (if bytes_eq word (codes "zero") then Some mode.Zero
    else (if bytes_eq word (codes "format") then Some mode.FormatAllocate
    else (if bytes_eq word (codes "full") then Some mode.FullAllocate
    else (if bytes_eq word (codes "data") then Some mode.WriteData else None))))
