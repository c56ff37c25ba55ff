-- Lines of text: how they are split at blanks, and their numbers.
use Rattle.std.specs.Prelude.{ℕ, ◌^◌, ◌||◌, ◌&&◌, ◌==◌, nat_lt, not, Bool, if◌then◌else◌, List, length, drop, slice_index, Result, Ok, Err}
use Rattle.std.specs.List.{list_all, position_or_len, before_first}
use Rattle.std.specs.Char.{is_ascii_digit}
use Rattle.std.specs.Str.{bytes_eq}
use Rattle.std.specs.Str.Parse.{digits_value}
use Rattle.imago_storage.specs.declared.fault.Fault.{Fault}
use Rattle.imago_storage.specs.declared.fault.Fault.TheVariants.{DamagedDescriptor}

-- Applies a function to a success. An error is passed on.
infixl 10 ◌>>=◌
abbrev pub ◌>>=◌ : {A B : Type 0} → Result A Fault → (A → Result B Fault) → Result B Fault
(Ok x) >>= f = f x
(Err e) >>= f = Err e

-- The text is empty.
abbrev pub is_empty : List ℕ → Bool
is_empty text = length text == 0

-- The text begins with this byte, which isn't 0.
abbrev pub begins_with : ℕ → List ℕ → Bool
begins_with b text = slice_index text 0 == b

-- Spaces and tabs are blanks.
abbrev pub is_blank : ℕ → Bool
is_blank b = b == 32 || b == 9

-- The text without the blanks at its start.
abbrev pub past_blanks : List ℕ → List ℕ
past_blanks text = drop (position_or_len (λ b. not (is_blank b)) text) text

-- The text before the first blank.
abbrev pub word : List ℕ → List ℕ
word text = before_first is_blank text

-- The text after the first `word` and the blanks that follow it.
abbrev pub past_word : List ℕ → List ℕ
past_word text = past_blanks (drop (position_or_len is_blank text) text)

-- The text is this one `word`, with nothing but blanks after it.
abbrev pub is_word : List ℕ → List ℕ → Bool
is_word one text = bytes_eq (word text) one && is_empty (past_word text)

-- The bytes are at least one digit, and their number is below 2^64.
abbrev pub is_decimal : List ℕ → Bool
is_decimal digits = list_all is_ascii_digit digits && (nat_lt 0 (length digits) && nat_lt (digits_value 10 digits) (2 ^ 64))

-- The value of the digits.
abbrev pub decimal : List ℕ → Result ℕ Fault
decimal digits = if is_decimal digits then Ok (digits_value 10 digits) else Err DamagedDescriptor
