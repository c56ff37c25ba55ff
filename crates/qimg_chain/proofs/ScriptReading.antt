-- Parsing the parts of a line gives the line that they write.
use Rattle.std.proofs.Common.{◌≡◌, ℕ, ◌≤◌, ◌<◌, Bool, true, false, cond, List, [], ◌∷◌, length, Option, Some, None, Result, Ok, Err, refl, sym, ap, ◌∙◌, subst, arith}
use Rattle.std.specs.Prelude.{codes, option_map, option_and_then, IfOk, IfErr}
use Rattle.std.specs.Str.{bytes_eq}
use Rattle.std.proofs.lemmas.Slice.Eq.{bytes_eq-Decides}
use Rattle.std.proofs.lemmas.List.Splits.{join_with_byte-slice_split, length-slice_split}
use Rattle.imago_storage.specs.declared.fault.Fault.{Fault}
use Rattle.imago_storage.specs.declared.fault.Fault.TheVariants.{Memory, BadCommand}
use Rattle.imago_access.specs.declared.format.PreallocateMode.{PreallocateMode}
use Rattle.imago_access.specs.declared.format.PreallocateMode.TheVariants as mode
use lib.Dec.{eqb}
use Rattle.qimg_chain.specs.ScriptWords.{words_of, number_of, bytes_of, mode_of, mode_word}
use Rattle.qimg_chain.specs.ScriptParts.{lone_line, shrink_line, range_line, mode_or_range_line, numbered_line, line_of, NotSaid}
use Rattle.qimg_chain.specs.Script.{IsNumber, HasTwo, IsWritten, IsLine, NotLine}
use Rattle.qimg_chain.proofs.ScriptSpelling.{last_word, words_again}
use Rattle.qimg_chain.specs.declared.script.line.Line.{Line}
use Rattle.qimg_chain.specs.declared.script.line.Line.TheVariants.{Size, Read, Write, Zero, Discard, DiscardAny, DiscardBacking, Grow, Shrink, Flush, Check, Plain, Save, Repair, Commit}

-- One step in a chain of comparisons with names, and its result.
by_word : {A : Type 0} (P : A → Type 0) (name word : List ℕ) (chosen rest : Option A) (y : A) →
    cond (bytes_eq name word) chosen rest ≡ Some y → (name ≡ word → chosen ≡ Some y → P y) → (rest ≡ Some y → P y) → P y
by_word P name word chosen rest y e here more = decided (bytes_eq name word) refl e
  where
    decided : (t : Bool) → bytes_eq name word ≡ t → cond t chosen rest ≡ Some y → P y
    decided true k h = here ((bytes_eq-Decides name word).0 k) h
    decided false k h = more h

-- Like `by_word`, for a result that is a value.
by_name : {A : Type 0} (P : A → Type 0) (name word : List ℕ) (x y : A) (rest : Option A) →
    cond (bytes_eq name word) (Some x) rest ≡ Some y → (name ≡ word → P x) → (rest ≡ Some y → P y) → P y
by_name P name word x y rest e here more =
    by_word P name word (Some x) rest y e (λ n h. let same : x ≡ y = cc in subst P same (here n)) more

none : {A : Type 0} (P : A → Type 0) (y : A) → None ≡ Some y → P y
none P y e = absurd cc

mode_named : (word : List ℕ) (m : PreallocateMode) → mode_of word ≡ Some m → word ≡ mode_word m
unfolding mode_of
mode_named word m e =
    let P : PreallocateMode → Type 0 = λ m. word ≡ mode_word m in
    by_name P word (codes "none") mode.None m _ e (λ n. n) (λ e.
    by_name P word (codes "zero") mode.Zero m _ e (λ n. n) (λ e.
    by_name P word (codes "format") mode.FormatAllocate m _ e (λ n. n) (λ e.
    by_name P word (codes "full") mode.FullAllocate m _ e (λ n. n) (λ e.
    by_name P word (codes "data") mode.WriteData m _ e (λ n. n) (λ e. none P m e)))))

named_mode : (m : PreallocateMode) → mode_of (mode_word m) ≡ Some m
unfolding mode_of
named_mode mode.None = refl
named_mode mode.Zero = refl
named_mode mode.FormatAllocate = refl
named_mode mode.FullAllocate = refl
named_mode mode.WriteData = refl

lone_written : (name : List ℕ) (line : Line) → lone_line name ≡ Some line → IsWritten line (name ∷ [])
unfolding lone_line
lone_written name line e =
    let P : Line → Type 0 = λ l. IsWritten l (name ∷ []) in
    by_name P name (codes "size") Size line _ e (λ n. ap (λ w. w ∷ []) n) (λ e.
    by_name P name (codes "flush") Flush line _ e (λ n. ap (λ w. w ∷ []) n) (λ e.
    by_name P name (codes "check") Check line _ e (λ n. ap (λ w. w ∷ []) n) (λ e.
    by_name P name (codes "save") Save line _ e (λ n. ap (λ w. w ∷ []) n) (λ e.
    by_name P name (codes "repair") Repair line _ e (λ n. ap (λ w. w ∷ []) n) (λ e.
    by_name P name (codes "commit") Commit line _ e (λ n. ap (λ w. w ∷ []) n) (λ e. none P line e))))))

made : {A B : Type 0} (f : A → Option B) (o : Option A) (y : B) → option_and_then f o ≡ Some y → (x : A) × (o ≡ Some x) × (f x ≡ Some y)
made f None y e = absurd cc
made f (Some x) y e = (x, refl, e)

mapped : {A B : Type 0} (f : A → B) (o : Option A) (y : B) → option_map f o ≡ Some y → (x : A) × (o ≡ Some x) × (f x ≡ y)
mapped f None y e = absurd cc
mapped f (Some x) y e = (x, refl, cc)

shrink_written : (name first : List ℕ) (line : Line) → shrink_line name first ≡ Some line → IsWritten line (name ∷ first ∷ [])
unfolding shrink_line
shrink_written name first line e =
    let P : Line → Type 0 = λ l. IsWritten l (name ∷ first ∷ []) in
    by_word P name (codes "shrink") (option_map (λ size. Shrink size) (number_of first)) None line e (λ n h.
    let m = mapped (λ size. Shrink size) (number_of first) line h in
    subst P m.2 (record { first = first; words_are = ap (λ w. w ∷ first ∷ []) n; is_first = m.1 })) (λ h. none P line h)

range_written : (name first second : List ℕ) (offset count : ℕ) (line : Line) → IsNumber offset first → IsNumber count second →
    range_line name offset count ≡ Some line → IsWritten line (name ∷ first ∷ second ∷ [])
unfolding range_line
range_written name first second offset count line is_offset is_count e =
    let P : Line → Type 0 = λ l. IsWritten l (name ∷ first ∷ second ∷ []) in
    by_name P name (codes "read") (Read offset count) line _ e (λ n. two (codes "read") n) (λ e.
    by_name P name (codes "zero") (Zero offset count) line _ e (λ n. two (codes "zero") n) (λ e.
    by_name P name (codes "discard") (Discard offset count) line _ e (λ n. two (codes "discard") n) (λ e.
    by_name P name (codes "discard-any") (DiscardAny offset count) line _ e (λ n. two (codes "discard-any") n) (λ e.
    by_name P name (codes "discard-backing") (DiscardBacking offset count) line _ e (λ n. two (codes "discard-backing") n) (λ e.
    by_name P name (codes "plain") (Plain offset count) line _ e (λ n. two (codes "plain") n) (λ e. none P line e))))))
  where
    two : (command : List ℕ) → name ≡ command → HasTwo command (IsNumber offset) (IsNumber count) (name ∷ first ∷ second ∷ [])
    two command n = record {
      first = first;
      second = second;
      words_are = ap (λ w. w ∷ first ∷ second ∷ []) n;
      is_first = is_offset;
      is_second = is_count;
    }

mode_or_range_written : (name first second : List ℕ) (start : ℕ) (line : Line) → IsNumber start first →
    mode_or_range_line name start second ≡ Some line → IsWritten line (name ∷ first ∷ second ∷ [])
unfolding mode_or_range_line
mode_or_range_written name first second start line is_start e =
    let P : Line → Type 0 = λ l. IsWritten l (name ∷ first ∷ second ∷ []) in
    by_word P name (codes "grow") (option_map (λ m. Grow start m) (mode_of second)) _ line e (λ n h.
    let m = mapped (λ m. Grow start m) (mode_of second) line h in
    subst P m.2 (record {
      first = first;
      second = second;
      words_are = ap (λ w. w ∷ first ∷ second ∷ []) n;
      is_first = is_start;
      is_second = mode_named second m.0 m.1;
    })) (λ h.
    let m = made (λ count. range_line name start count) (number_of second) line h in
    range_written name first second start m.0 line is_start m.1 m.2)

numbered_written : (name first second : List ℕ) (start : ℕ) (line : Line) → IsNumber start first →
    numbered_line name second start ≡ Some line → IsWritten line (name ∷ first ∷ second ∷ [])
unfolding numbered_line
numbered_written name first second start line is_start e =
    let P : Line → Type 0 = λ l. IsWritten l (name ∷ first ∷ second ∷ []) in
    by_word P name (codes "write") (option_map (λ bytes. Write start bytes) (bytes_of second)) _ line e (λ n h.
    let m = mapped (λ bytes. Write start bytes) (bytes_of second) line h in
    subst P m.2 (record {
      first = first;
      second = second;
      words_are = ap (λ w. w ∷ first ∷ second ∷ []) n;
      is_first = is_start;
      is_second = m.1;
    })) (λ h. mode_or_range_written name first second start line is_start h)

line_written : (words : List (List ℕ)) (line : Line) → line_of words ≡ Some line → IsWritten line words
unfolding line_of
line_written [] line e = absurd cc
line_written (name ∷ []) line e = lone_written name line e
line_written (name ∷ first ∷ []) line e = shrink_written name first line e
line_written (name ∷ first ∷ second ∷ []) line e =
    let m = made (numbered_line name second) (number_of first) line e in
    numbered_written name first second m.0 line m.1 m.2
line_written (name ∷ first ∷ second ∷ third ∷ more) line e = absurd cc

-- The last of three parts that are parsed as a line has no space.
pub last_read : (name first second : List ℕ) (line : Line) → line_of (name ∷ first ∷ second ∷ []) ≡ Some line → words_of second ≡ second ∷ []
last_read name first second line e = last_word name first second line (line_written (name ∷ first ∷ second ∷ []) line e)

-- Parts are parsed as the line that they write.
written_line : (line : Line) (words : List (List ℕ)) → IsWritten line words → line_of words ≡ Some line
unfolding line_of lone_line shrink_line range_line mode_or_range_line numbered_line
written_line Size words h = rw h refl
written_line (Read offset count) words h = rw (h.words_are, h.is_first, h.is_second) refl
written_line (Write offset bytes) words h = rw (h.words_are, h.is_first, h.is_second) refl
written_line (Zero offset count) words h = rw (h.words_are, h.is_first, h.is_second) refl
written_line (Discard offset count) words h = rw (h.words_are, h.is_first, h.is_second) refl
written_line (DiscardAny offset count) words h = rw (h.words_are, h.is_first, h.is_second) refl
written_line (DiscardBacking offset count) words h = rw (h.words_are, h.is_first, h.is_second) refl
written_line (Grow size m) words h = rw (h.words_are, h.is_first, h.is_second, named_mode m) refl
written_line (Shrink size) words h = rw (h.words_are, h.is_first) refl
written_line Flush words h = rw h refl
written_line Check words h = rw h refl
written_line (Plain offset count) words h = rw (h.words_are, h.is_first, h.is_second) refl
written_line Save words h = rw h refl
written_line Repair words h = rw h refl
written_line Commit words h = rw h refl

line_again : (text : List ℕ) (line : Line) → IsLine text line → line_of (words_of text) ≡ Some line
line_again text line i =
    ap (λ t. line_of (words_of t)) i.joined ∙ (ap line_of (words_again line i.words i.written) ∙ written_line line i.words i.written)

pub is_line : (text : List ℕ) (line : Line) → length text ≤ 65536 → line_of (words_of text) ≡ Some line → IsLine text line
is_line text line short e = record {
  short = short;
  words = words_of text;
  joined = sym (join_with_byte-slice_split 32 text);
  written = line_written (words_of text) line e;
}

pub no_line : (text : List ℕ) → line_of (words_of text) ≡ None → (line : Line) → ¬ (IsLine text line)
no_line text e line i = let again = line_again text line i in absurd cc

-- A text is at most one line.
pub one_line : (text : List ℕ) (one other : Line) → IsLine text one → IsLine text other → one ≡ other
one_line text one other i j =
    let a = line_again text one i in
    let b = line_again text other j in
    cc

four_words : (name first second : List ℕ) (more : List (List ℕ)) → 0 < length more → line_of (name ∷ first ∷ second ∷ more) ≡ None
unfolding line_of
four_words name first second [] h = absurd (omega arith)
four_words name first second (third ∷ more) h = refl

-- Three parts with more text after them aren't a line.
pub more_words : (name first second rest : List ℕ) → line_of (name ∷ first ∷ second ∷ words_of rest) ≡ None
more_words name first second rest =
    four_words name first second (words_of rest) (let k = length-slice_split (λ b. eqb b 32) rest in omega arith)

-- The result of parsing a text within the limit.
pub read_as : (text : List ℕ) (r : Result Line Fault) → length text ≤ 65536 → IfOk r (λ line. line_of (words_of text) ≡ Some line) →
    IfOk r (λ line. IsLine text line)
read_as text (Ok line) short e = is_line text line short e
read_as text (Err fault) short e = e

-- The reason why a text within the limit isn't parsed.
pub unread : (text : List ℕ) (r : Result Line Fault) → length text ≤ 65536 → IfErr r (NotSaid (words_of text)) → IfErr r (NotLine text)
unread text (Ok line) short h = h
unread text (Err Memory) short h = record {
  short = short;
  write = h;
}
unread text (Err BadCommand) short h = no_line text h
unread text (Err fault) short h = h
