-- The parts of a line have no spaces. So their joined text is split into the same parts.
use Rattle.std.proofs.Common.{◌≡◌, ℕ, Bool, true, false, cond, not, List, [], ◌∷◌, ◌++◌, length, Some, None, Result, Ok, Err, refl, ap, subst, ◌∙◌}
use Rattle.std.specs.Prelude.{codes}
use Rattle.std.specs.List.{All, AllPass, list_all, join_with_byte}
use Rattle.std.specs.Char.{is_ascii_digit}
use Rattle.std.specs.Result.{result_ok}
use Rattle.std.proofs.lemmas.Bool.{and_parts, both_ways, ne_eqb}
use Rattle.std.specs.Str.Parse.{digits_value}
use Rattle.std.proofs.lemmas.Option.{cond_some}
use Rattle.std.proofs.lemmas.List.Elements.{All-weaker}
use Rattle.std.proofs.lemmas.List.Sums.{AllPass-from_list_all}
use Rattle.std.proofs.lemmas.List.Splits.{slice_split_none, slice_split_at}
use Rattle.hex.specs.Hex.{decode_of, is_hex_digit}
use Rattle.hex.specs.declared.error.FromHexError.{FromHexError}
use Rattle.hex.proofs.HexLemmas.{decode_of-ok}
use Rattle.imago_access.specs.declared.format.PreallocateMode.{PreallocateMode}
use Rattle.imago_access.specs.declared.format.PreallocateMode.TheVariants as mode
use Rattle.qimg_chain.specs.ScriptWords.{words_of, is_number, number_of, bytes_of, mode_word}
use Rattle.qimg_chain.specs.Script.{IsNumber, IsBytes, HasOne, HasTwo, IsWritten}
use Rattle.qimg_chain.specs.declared.script.line.Line.{Line}
use Rattle.qimg_chain.specs.declared.script.line.Line.TheVariants.{Size, Read, Write, Zero, Discard, DiscardAny, DiscardBacking, Grow, Shrink, Flush, Check, Plain, Save, Repair, Commit}
use lib.Dec.{eqb, ltb}

abbrev is_space : ℕ → Bool
is_space b = eqb b 32

-- An argument without a space.
abbrev pub IsSpaceless : List ℕ → Type 0
IsSpaceless word = All (λ b. is_space b ≡ false) word

-- An argument whose bytes all pass a test, which a space fails.
passing : (test : ℕ → Bool) → test 32 ≡ false → (word : List ℕ) → AllPass test word → IsSpaceless word
passing test fails word passes = All-weaker (λ b. test b ≡ true) (λ b. is_space b ≡ false)
    (λ b pass. ne_eqb b 32 (λ e. both_ways (test b) (ap test e ∙ fails) pass)) word passes

-- A literal argument.
literal : (word : List ℕ) → list_all (λ b. not (is_space b)) word ≡ true → IsSpaceless word
literal word e = passing (λ b. not (is_space b)) refl word (AllPass-from_list_all (λ b. not (is_space b)) word e)

number_spaceless : (word : List ℕ) (n : ℕ) → IsNumber n word → IsSpaceless word
unfolding number_of
number_spaceless word n e =
    let yes = (cond_some (is_number word) (digits_value 10 word) n e).0 in
    passing is_ascii_digit refl word (AllPass-from_list_all is_ascii_digit word (and_parts (list_all is_ascii_digit word) _ yes).0)

decoded : (r : Result (List ℕ) FromHexError) (bytes : List ℕ) → result_ok r ≡ Some bytes → r ≡ Ok bytes
decoded (Ok x) bytes e = cc
decoded (Err x) bytes e = absurd cc

bytes_spaceless : (word bytes : List ℕ) → IsBytes bytes word → IsSpaceless word
unfolding bytes_of
bytes_spaceless word bytes e = decided (ltb 0 (length word)) e
  where
    decided : (t : Bool) → cond t (result_ok (decode_of word)) None ≡ Some bytes → IsSpaceless word
    decided true h = passing is_hex_digit refl word (decode_of-ok word bytes (decoded (decode_of word) bytes h)).1
    decided false h = absurd cc

mode_plain : (m : PreallocateMode) → list_all (λ b. not (is_space b)) (mode_word m) ≡ true
mode_plain mode.None = refl
mode_plain mode.Zero = refl
mode_plain mode.FormatAllocate = refl
mode_plain mode.FullAllocate = refl
mode_plain mode.WriteData = refl

one_word : (a : List ℕ) → IsSpaceless a → words_of a ≡ a ∷ []
one_word a here = slice_split_none is_space a here

two_words : (a b : List ℕ) → IsSpaceless a → IsSpaceless b → words_of (a ++ 32 ∷ b) ≡ a ∷ b ∷ []
two_words a b here more = slice_split_at is_space a 32 b here refl ∙ ap (λ ws. a ∷ ws) (one_word b more)

three_words : (a b c : List ℕ) → IsSpaceless a → IsSpaceless b → IsSpaceless c →
    words_of (a ++ 32 ∷ (b ++ 32 ∷ c)) ≡ a ∷ b ∷ c ∷ []
three_words a b c here more last =
    slice_split_at is_space a 32 (b ++ 32 ∷ c) here refl ∙ ap (λ ws. a ∷ ws) (two_words b c more last)

-- A command without a space.
abbrev IsCommand : List ℕ → Type 0
IsCommand command = list_all (λ b. not (is_space b)) command ≡ true

lone : (command : List ℕ) (words : List (List ℕ)) → IsCommand command → words ≡ command ∷ [] → words_of (join_with_byte 32 words) ≡ words
lone command words plain e = rw e (one_word command (literal command plain))

with_two : {First Second : List ℕ → Type 0} (command : List ℕ) (words : List (List ℕ)) → IsCommand command →
    ((word : List ℕ) → First word → IsSpaceless word) → ((word : List ℕ) → Second word → IsSpaceless word) →
    HasTwo command First Second words → words_of (join_with_byte 32 words) ≡ words
with_two command words plain first second h =
    rw h.words_are (three_words command h.first h.second (literal command plain) (first h.first h.is_first) (second h.second h.is_second))

with_one : {First : List ℕ → Type 0} (command : List ℕ) (words : List (List ℕ)) → IsCommand command →
    ((word : List ℕ) → First word → IsSpaceless word) → HasOne command First words → words_of (join_with_byte 32 words) ≡ words
with_one command words plain first h = rw h.words_are (two_words command h.first (literal command plain) (first h.first h.is_first))

ranged : (command : List ℕ) (words : List (List ℕ)) (offset count : ℕ) → IsCommand command →
    HasTwo command (IsNumber offset) (IsNumber count) words → words_of (join_with_byte 32 words) ≡ words
ranged command words offset count plain h =
    with_two command words plain (λ word e. number_spaceless word offset e) (λ word e. number_spaceless word count e) h

last_of : {First Second : List ℕ → Type 0} (command name first second : List ℕ) → ((word : List ℕ) → Second word → IsSpaceless word) →
    HasTwo command First Second (name ∷ first ∷ second ∷ []) → words_of second ≡ second ∷ []
last_of command name first second spaceless h =
    let are = h.words_are in
    let same : h.second ≡ second = cc in
    one_word second (subst IsSpaceless same (spaceless h.second h.is_second))

last_ranged : (command name first second : List ℕ) (offset count : ℕ) →
    HasTwo command (IsNumber offset) (IsNumber count) (name ∷ first ∷ second ∷ []) → words_of second ≡ second ∷ []
last_ranged command name first second offset count h = last_of command name first second (λ word e. number_spaceless word count e) h

-- The last of three parts that write a line has no space.
pub last_word : (name first second : List ℕ) (line : Line) → IsWritten line (name ∷ first ∷ second ∷ []) → words_of second ≡ second ∷ []
last_word name first second Size h = absurd cc
last_word name first second (Read offset count) h = last_ranged (codes "read") name first second offset count h
last_word name first second (Write offset bytes) h =
    last_of (codes "write") name first second (λ word e. bytes_spaceless word bytes e) h
last_word name first second (Zero offset count) h = last_ranged (codes "zero") name first second offset count h
last_word name first second (Discard offset count) h = last_ranged (codes "discard") name first second offset count h
last_word name first second (DiscardAny offset count) h = last_ranged (codes "discard-any") name first second offset count h
last_word name first second (DiscardBacking offset count) h = last_ranged (codes "discard-backing") name first second offset count h
last_word name first second (Grow size m) h =
    last_of (codes "grow") name first second (λ word e. rw e (literal (mode_word m) (mode_plain m))) h
last_word name first second (Shrink size) h = let are = h.words_are in absurd cc
last_word name first second Flush h = absurd cc
last_word name first second Check h = absurd cc
last_word name first second (Plain offset count) h = last_ranged (codes "plain") name first second offset count h
last_word name first second Save h = absurd cc
last_word name first second Repair h = absurd cc
last_word name first second Commit h = absurd cc

-- The text of a line is split into the parts that it was written from.
pub words_again : (line : Line) (words : List (List ℕ)) → IsWritten line words → words_of (join_with_byte 32 words) ≡ words
words_again Size words h = lone (codes "size") words refl h
words_again (Read offset count) words h = ranged (codes "read") words offset count refl h
words_again (Write offset bytes) words h =
    with_two (codes "write") words refl (λ word e. number_spaceless word offset e) (λ word e. bytes_spaceless word bytes e) h
words_again (Zero offset count) words h = ranged (codes "zero") words offset count refl h
words_again (Discard offset count) words h = ranged (codes "discard") words offset count refl h
words_again (DiscardAny offset count) words h = ranged (codes "discard-any") words offset count refl h
words_again (DiscardBacking offset count) words h = ranged (codes "discard-backing") words offset count refl h
words_again (Grow size m) words h =
    with_two (codes "grow") words refl (λ word e. number_spaceless word size e) (λ word e. rw e (literal (mode_word m) (mode_plain m))) h
words_again (Shrink size) words h = with_one (codes "shrink") words refl (λ word e. number_spaceless word size e) h
words_again Flush words h = lone (codes "flush") words refl h
words_again Check words h = lone (codes "check") words refl h
words_again (Plain offset count) words h = ranged (codes "plain") words offset count refl h
words_again Save words h = lone (codes "save") words refl h
words_again Repair words h = lone (codes "repair") words refl h
words_again Commit words h = lone (codes "commit") words refl h
