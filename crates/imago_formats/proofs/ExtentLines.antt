-- The form of extent lines agrees with the parser's definitions.
use Rattle.std.proofs.Common.{suc, ◌≡◌, ◌⊎◌, inl, inr, ℕ, ◌+◌, ◌*◌, ◌<◌, ◌^◌, ◌&&◌, ◌||◌, Bool, true, false, not, cond, eqb, ltb, List, [], ◌∷◌, ◌++◌, length, take, drop, get_or, Option, Some, None, Result, Ok, Err, refl, sym, ap, subst, ◌∙◌, add-one, append-nil, length-append, take-append-drop, codes, arith}
use Rattle.std.specs.Prelude.{⊤, IsTrue}
use Rattle.std.specs.List.{list_all, position_or_len, take_while, before_first, after_first}
use Rattle.std.specs.Char.{is_ascii_digit}
use Rattle.std.specs.Str.{bytes_eq, is_utf8}
use Rattle.std.specs.Str.Parse.{digits_value}
use Rattle.std.proofs.lemmas.Grind.{common_steps}
use Rattle.std.proofs.lemmas.Bool.{and_from}
use Rattle.std.proofs.lemmas.Bool.Decides.{nat_tests}
use Rattle.std.proofs.lemmas.List.Sums.{take_while-cons}
use Rattle.std.proofs.lemmas.Slice.Eq.{bytes_eq-Decides}
use borrow.Author.Tests.{lt-ltb, ltb-true, eqb-true, ne_eqb}
use Rattle.imago_storage.specs.declared.fault.Fault.{Fault}
use Rattle.imago_storage.specs.declared.fault.Fault.TheVariants.{DamagedDescriptor, Unsupported}
use Rattle.imago_formats.proofs.WordLemmas.{both}
use Rattle.imago_formats.specs.DescriptorWords.{◌>>=◌, is_blank, past_blanks, word, past_word, is_decimal, decimal, is_empty, begins_with}
use Rattle.imago_formats.specs.Descriptor.{access_of, sector_of, in_file, named, flat_of, zero_of, source_of, extent_of, setting_of, is_carried, is_skipped, said_with, said_by}
use Rattle.imago_formats.specs.DescriptorLines.{AreBlanks, IsGap, AreDigitsOf, access_word, IsSectorText, IsSourceText, IsExtentLine}
use Rattle.imago_formats.specs.WorkedDescriptor.{extent}
use Rattle.imago_formats.specs.declared.vmdk.descriptor.Access.{Access}
use Rattle.imago_formats.specs.declared.vmdk.descriptor.Access.TheVariants.{ReadWrite, ReadOnly, NoAccess}
use Rattle.imago_formats.specs.declared.vmdk.descriptor.Source.{Source}
use Rattle.imago_formats.specs.declared.vmdk.descriptor.Source.TheVariants.{Flat, Zero}
use Rattle.imago_formats.specs.declared.vmdk.descriptor.Extent.{Extent}

-- ---- A text in two parts. The second begins at the first byte that meets a condition.

abbrev pub Meets : (ℕ → Bool) → List ℕ → Type 0
Meets p [] = ⊤
Meets p (b ∷ bs) = p b ≡ true

one_more : (n : ℕ) → 1 + n ≡ suc n
one_more n = omega arith

-- The position of the first byte that meets the condition.
pub first_at : (p : ℕ → Bool) (xs ys : List ℕ) → list_all (λ b. not (p b)) xs ≡ true → Meets p ys → position_or_len p (xs ++ ys) ≡ length xs
first_at p [] [] fails meets = refl
first_at p [] (y ∷ ys) fails meets = ap (λ t. cond (not t) (1 + position_or_len p ys) 0) meets
first_at p (x ∷ xs) ys fails meets =
    let parts = both (not (p x)) (list_all (λ b. not (p b)) xs) fails in
    ap (λ t. cond t (1 + position_or_len p (xs ++ ys)) 0) parts.0
    ∙ ap (λ n. 1 + n) (first_at p xs ys parts.1 meets) ∙ one_more (length xs)

pub take_front : (xs ys : List ℕ) → take (length xs) (xs ++ ys) ≡ xs
take_front [] ys = grind (arith, common_steps)
take_front (x ∷ xs) ys = ap (λ l. x ∷ l) (take_front xs ys)

drop_front : (xs ys : List ℕ) → drop (length xs) (xs ++ ys) ≡ ys
drop_front [] ys = grind (arith, common_steps)
drop_front (x ∷ xs) ys = drop_front xs ys

-- The first bytes that meet the condition, and the rest of the text.
pub front_passes : (q : ℕ → Bool) (xs : List ℕ) → list_all q (take_while q xs) ≡ true
front_passes q [] = refl
front_passes q (x ∷ xs) = ap (λ l. list_all q l) (take_while-cons q x xs) ∙ at_first (q x) refl (front_passes q xs)
  where
    at_first : (t : Bool) → q x ≡ t → list_all q (take_while q xs) ≡ true → list_all q (cond t (x ∷ take_while q xs) []) ≡ true
    at_first true e later = and_from (q x) (list_all q (take_while q xs)) e later
    at_first false e later = refl

pub rest_meets : (p : ℕ → Bool) (xs : List ℕ) → Meets p (drop (position_or_len p xs) xs)
rest_meets p [] = tt
rest_meets p (x ∷ xs) = at_first (p x) refl (rest_meets p xs)
  where
    at_first : (t : Bool) → p x ≡ t → Meets p (drop (position_or_len p xs) xs) → Meets p (drop (cond (not t) (1 + position_or_len p xs) 0) (x ∷ xs))
    at_first true e later = e
    at_first false e later = subst (λ (n : ℕ). Meets p (drop n (x ∷ xs))) (sym (one_more (position_or_len p xs))) later

-- ---- Blanks, and texts without them.

abbrev pub NoBlanks : List ℕ → Type 0
NoBlanks xs = list_all (λ b. not (is_blank b)) xs ≡ true

abbrev pub Ends : List ℕ → Type 0
Ends xs = Meets is_blank xs

abbrev pub Starts : List ℕ → Type 0
Starts xs = Meets (λ b. not (is_blank b)) xs

not_not : (t : Bool) → not (not t) ≡ t
not_not true = refl
not_not false = refl

twice : (xs : List ℕ) → list_all (λ b. not (not (is_blank b))) xs ≡ list_all is_blank xs
twice [] = refl
twice (x ∷ xs) = λ i. not_not (is_blank x) i && twice xs i

pub blanks_end : (xs : List ℕ) → AreBlanks xs → Ends xs
blanks_end [] blanks = tt
blanks_end (x ∷ xs) blanks = (both (is_blank x) (list_all is_blank xs) blanks).0

pub gap_ends : (gap rest : List ℕ) → IsGap gap → Ends (gap ++ rest)
gap_ends [] rest gap = absurd (omega (arith, gap.0))
gap_ends (x ∷ xs) rest gap = (both (is_blank x) (list_all is_blank xs) gap.1).0

-- Blanks at the start are removed.
pub blanks_off : (gap rest : List ℕ) → AreBlanks gap → Starts rest → past_blanks (gap ++ rest) ≡ rest
blanks_off gap rest blanks starts =
    ap (λ n. drop n (gap ++ rest)) (first_at (λ b. not (is_blank b)) gap rest (twice gap ∙ blanks) starts) ∙ drop_front gap rest

pub all_off : (gap : List ℕ) → AreBlanks gap → past_blanks gap ≡ []
all_off gap blanks = ap past_blanks (sym (append-nil gap)) ∙ blanks_off gap [] blanks tt

pub word_is : (one rest : List ℕ) → NoBlanks one → Ends rest → word (one ++ rest) ≡ one
word_is one rest none ends = ap (λ n. take n (one ++ rest)) (first_at is_blank one rest none ends) ∙ take_front one rest

pub behind_word : (one rest : List ℕ) → NoBlanks one → Ends rest → past_word (one ++ rest) ≡ past_blanks rest
behind_word one rest none ends = ap (λ n. past_blanks (drop n (one ++ rest))) (first_at is_blank one rest none ends) ∙ ap past_blanks (drop_front one rest)

-- The text after the first `word` and its gap.
pub next_word : (one gap rest : List ℕ) → NoBlanks one → IsGap gap → Starts rest → past_word (one ++ (gap ++ rest)) ≡ rest
next_word one gap rest none is starts = behind_word one (gap ++ rest) none (gap_ends gap rest is) ∙ blanks_off gap rest is.1 starts

-- A text as its first `word`, a gap, and the rest.
pub record IsSplit (text : List ℕ) : Type 0 where
  pub gap : List ℕ
  pub whole : text ≡ word text ++ (gap ++ past_word text)
  pub blanks : AreBlanks gap
  pub some : 0 < length (past_word text) → 0 < length gap

abbrev pub gap_of : List ℕ → List ℕ
gap_of text = take_while (λ b. not (not (is_blank b))) text

pub gap_blanks : (text : List ℕ) → AreBlanks (gap_of text)
gap_blanks text = sym (twice (gap_of text)) ∙ front_passes (λ b. not (not (is_blank b))) text

pub gap_whole : (text : List ℕ) → text ≡ gap_of text ++ past_blanks text
gap_whole text = sym (take-append-drop (position_or_len (λ b. not (is_blank b)) text) text)

gap_some : (text : List ℕ) → Ends text → 0 < length (past_blanks text) → 0 < length (gap_of text)
gap_some [] ends some = some
gap_some (b ∷ bs) ends some =
    subst (λ (xs : List ℕ). 0 < length xs)
    (sym (take_while-cons (λ x. not (not (is_blank x))) b bs ∙ ap (λ t. cond t (b ∷ gap_of bs) []) (not_not (is_blank b) ∙ ends)))
    (omega arith)

pub split : (text : List ℕ) → IsSplit text
split text =
    let n = position_or_len is_blank text in
    let tail = drop n text in record {
      gap = gap_of tail;
      whole = sym (take-append-drop n text) ∙ ap (λ l. take n text ++ l) (gap_whole tail);
      blanks = gap_blanks tail;
      some = gap_some tail (rest_meets is_blank text);
    }

-- ---- Numbers.

digits_bare : (xs : List ℕ) → list_all is_ascii_digit xs ≡ true → NoBlanks xs
digits_bare [] digits = refl
digits_bare (x ∷ xs) digits =
    let parts = both (is_ascii_digit x) (list_all is_ascii_digit xs) digits in
    and_from (not (is_blank x)) (list_all (λ b. not (is_blank b)) xs) (bare parts.0) (digits_bare xs parts.1)
  where
    bare : is_ascii_digit x ≡ true → not (is_blank x) ≡ true
    bare digit = grind (arith, nat_tests)

pub number_bare : (n : ℕ) (xs : List ℕ) → AreDigitsOf n xs → NoBlanks xs
number_bare n xs number = digits_bare xs (both (list_all is_ascii_digit xs) _ number.0).0

pub number_some : (n : ℕ) (xs : List ℕ) → AreDigitsOf n xs → 0 < length xs
number_some n xs number = ltb-true _ _ (both (ltb 0 (length xs)) _ (both (list_all is_ascii_digit xs) _ number.0).1).0

-- A nonempty text without blanks doesn't begin with a blank.
pub bare_starts : (xs rest : List ℕ) → NoBlanks xs → 0 < length xs → Starts (xs ++ rest)
bare_starts [] rest none some = absurd (omega (arith, some))
bare_starts (x ∷ xs) rest none some = (both (not (is_blank x)) (list_all (λ b. not (is_blank b)) xs) none).0

pub number_read : (n : ℕ) (xs : List ℕ) → AreDigitsOf n xs → decimal xs ≡ Ok n
number_read n xs number =
    ap (λ t. cond t (Ok (digits_value 10 xs)) (Err DamagedDescriptor)) number.0 ∙ ap (λ v. Ok v) (sym number.1)

-- ---- Chains of results.

bind_to : {A B : Type 0} (r : Result A Fault) (f : A → Result B Fault) (a : A) (v : Result B Fault) → r ≡ Ok a → f a ≡ v → (r >>= f) ≡ v
bind_to r f a v is later = ap (λ x. x >>= f) is ∙ later

from_bind : {A B : Type 0} (r : Result A Fault) (f : A → Result B Fault) (v : B) → (r >>= f) ≡ Ok v → (a : A) × (r ≡ Ok a) × (f a ≡ Ok v)
from_bind (Ok a) f v e = (a, refl, e)
from_bind (Err x) f v e = absurd (cc e)

from_test : {A : Type 0} (t : Bool) (r : Result A Fault) (x : Fault) (v : A) → cond t r (Err x) ≡ Ok v → (t ≡ true) × (r ≡ Ok v)
from_test true r x v e = (refl, e)
from_test false r x v e = absurd (cc e)

number_from : (xs : List ℕ) (n : ℕ) → decimal xs ≡ Ok n → AreDigitsOf n xs
number_from xs n e =
    let parts = from_test (is_decimal xs) (Ok (digits_value 10 xs)) DamagedDescriptor n e in
    let same : ◌≡◌ {A = Result ℕ Fault} (Ok n) (Ok (digits_value 10 xs)) = sym parts.1 in
    (parts.0, cc same)

pub empty_is : (xs : List ℕ) → is_empty xs ≡ true → xs ≡ []
empty_is [] e = refl
empty_is (x ∷ xs) e = let none : length (x ∷ xs) ≡ 0 = eqb-true _ _ e in absurd (omega (arith, none))

pub some_byte : (b : ℕ) (bs : List ℕ) → is_empty (b ∷ bs) ≡ false
some_byte b bs = ne_eqb _ _ (omega arith)

pub same_bytes : (xs ys : List ℕ) → bytes_eq xs ys ≡ true → xs ≡ ys
same_bytes xs ys e = (bytes_eq-Decides xs ys).0 e

-- ---- From the form of a line to its meaning.

-- The sector by the text after the blanks, and the name by the position of its closing quote.
abbrev by_rest : List ℕ → List ℕ → Result ℕ Fault
by_rest text rest = cond (is_empty rest) (Ok 0)
    (cond (is_blank (get_or text 0 0) && is_empty (past_word rest)) (decimal (word rest)) (Err DamagedDescriptor))

abbrev by_place : ℕ → List ℕ → ℕ → Result (Source (List ℕ)) Fault
by_place sectors text n =
    cond (ltb n (length text) && is_utf8 (take n text)) (sector_of (drop (n + 1) text) >>= in_file (take n text) sectors) (Err DamagedDescriptor)

sector_read : (sector : ℕ) (text : List ℕ) → (AreBlanks text × (sector ≡ 0)) ⊎ IsSectorText sector text → sector_of text ≡ Ok sector
sector_read sector text (inl none) = sector_none none.0 ∙ ap (λ n. Ok n) (sym none.1)
  where
    sector_none : AreBlanks text → sector_of text ≡ Ok 0
    sector_none blanks = ap (by_rest text) (all_off text blanks)
sector_read sector text (inr s) =
    let bare = number_bare sector s.digits s.digits_are in
    let some = number_some sector s.digits s.digits_are in
    let rest : past_blanks text ≡ s.digits ++ s.end =
    ap past_blanks s.made ∙ blanks_off s.gap (s.digits ++ s.end) s.gap_is.1 (bare_starts s.digits s.end bare some) in
    let ends = blanks_end s.end s.end_is in
    let last : past_word (s.digits ++ s.end) ≡ [] = behind_word s.digits s.end bare ends ∙ all_off s.end s.end_is in
    let first : is_blank (get_or text 0 0) ≡ true = ap (λ t. is_blank (get_or t 0 0)) s.made ∙ at_gap s.gap (s.digits ++ s.end) s.gap_is in
    ap (by_rest text) rest ∙ at_digits s.digits s.end some
    ∙ ap (λ t. cond (t && is_empty (past_word (s.digits ++ s.end))) (decimal (word (s.digits ++ s.end))) (Err DamagedDescriptor)) first
    ∙ ap (λ l. cond (is_empty l) (decimal (word (s.digits ++ s.end))) (Err DamagedDescriptor)) last
    ∙ ap decimal (word_is s.digits s.end bare ends) ∙ number_read sector s.digits s.digits_are
  where
    at_gap : (gap rest : List ℕ) → IsGap gap → is_blank (get_or (gap ++ rest) 0 0) ≡ true
    at_gap [] rest gap = absurd (omega (arith, gap.0))
    at_gap (b ∷ bs) rest gap = (both (is_blank b) (list_all is_blank bs) gap.1).0

    at_digits : (digits end : List ℕ) → 0 < length digits → by_rest text (digits ++ end)
        ≡ cond (is_blank (get_or text 0 0) && is_empty (past_word (digits ++ end))) (decimal (word (digits ++ end))) (Err DamagedDescriptor)
    at_digits [] end some = absurd (omega (arith, some))
    at_digits (d ∷ ds) end some = ap (λ t. cond t (Ok 0) (cond (is_blank (get_or text 0 0) && is_empty (past_word ((d ∷ ds) ++ end)))
        (decimal (word ((d ∷ ds) ++ end))) (Err DamagedDescriptor))) (some_byte d (ds ++ end))

named_read : (sectors : ℕ) (name end : List ℕ) (sector : ℕ) → IsTrue (list_all (λ b. not (eqb b 34)) name) → IsTrue (is_utf8 name) →
    sector_of end ≡ Ok sector → 512 * (sector + sectors) < 2 ^ 64 → named sectors (name ++ 34 ∷ end) ≡ Ok (Flat name sector)
named_read sectors name end sector bare utf8 read fits =
    ap (by_place sectors (name ++ 34 ∷ end)) (first_at (λ b. eqb b 34) name (34 ∷ end) bare refl)
    ∙ ap (λ (l : List ℕ). cond (ltb (length name) (length (name ++ 34 ∷ end)) && is_utf8 l) (sector_of (drop (length name + 1) (name ++ 34 ∷ end)) >>= in_file l sectors) (Err DamagedDescriptor))
    (take_front name (34 ∷ end))
    ∙ ap (λ t. cond t (sector_of (drop (length name + 1) (name ++ 34 ∷ end)) >>= in_file name sectors) (Err DamagedDescriptor))
    (and_from _ _ (lt-ltb _ _ (omega (arith, length-append name (34 ∷ end)))) utf8)
    ∙ bind_to (sector_of (drop (length name + 1) (name ++ 34 ∷ end))) (in_file name sectors) sector (Ok (Flat name sector))
    (ap sector_of (behind name) ∙ read)
    (ap (λ t. cond t (Ok (Flat name sector)) (Err DamagedDescriptor)) (lt-ltb _ _ fits))
  where
    from : (xs : List ℕ) → drop (suc (length xs)) (xs ++ 34 ∷ end) ≡ end
    from [] = refl
    from (x ∷ xs) = from xs

    behind : (xs : List ℕ) → drop (length xs + 1) (xs ++ 34 ∷ end) ≡ end
    behind xs = ap (λ n. drop n (xs ++ 34 ∷ end)) (add-one (length xs)) ∙ from xs

abbrev pub by_type : ℕ → List ℕ → List ℕ → Result (Source (List ℕ)) Fault
by_type sectors one rest = cond (bytes_eq one (codes "FLAT")) (flat_of sectors rest)
    (cond (bytes_eq one (codes "ZERO")) (zero_of rest) (Err (cond (is_empty one) DamagedDescriptor Unsupported)))

source_read : (sectors : ℕ) (source : Source (List ℕ)) (text : List ℕ) → IsSourceText sectors source text → source_of sectors text ≡ Ok source
source_read sectors (Flat name sector) text s =
    let rest : List ℕ = 34 ∷ (name ++ 34 ∷ s.end) in
    let one : word text ≡ codes "FLAT" = ap word s.made ∙ word_is (codes "FLAT") (s.gap ++ rest) refl (gap_ends s.gap rest s.gap_is) in
    let later : past_word text ≡ rest = ap past_word s.made ∙ next_word (codes "FLAT") s.gap rest refl s.gap_is refl in
    (λ i. by_type sectors (one i) (later i))
    ∙ named_read sectors name s.end sector s.no_quote s.is_text (sector_read sector s.end s.sector_is) s.fits
source_read sectors Zero text s =
    let ends = blanks_end s.end s.end_is in
    let one : word text ≡ codes "ZERO" = ap word s.made ∙ word_is (codes "ZERO") s.end refl ends in
    let later : past_word text ≡ [] = ap past_word s.made ∙ behind_word (codes "ZERO") s.end refl ends ∙ all_off s.end s.end_is in
    λ i. by_type sectors (one i) (later i)

source_starts : (sectors : ℕ) (source : Source (List ℕ)) (text : List ℕ) → IsSourceText sectors source text → Starts text
source_starts sectors (Flat name sector) text s = subst (λ (l : List ℕ). Starts l) (sym s.made) refl
source_starts sectors Zero text s = subst (λ (l : List ℕ). Starts l) (sym s.made) refl

abbrev pub said_from : List ℕ → Result (Option (Extent (List ℕ))) Fault
said_from text = cond (is_skipped text) (Ok None) (said_with (access_of (word text)) text)

pub by_access : (access : Access) → NoBlanks (access_word access)
by_access ReadWrite = refl
by_access ReadOnly = refl
by_access NoAccess = refl

pub access_starts : (access : Access) (rest : List ℕ) → Starts (access_word access ++ rest)
access_starts ReadWrite rest = refl
access_starts ReadOnly rest = refl
access_starts NoAccess rest = refl

-- The text begins with a byte that doesn't start a comment.
pub unskipped : (b : ℕ) (bs : List ℕ) → eqb b 35 ≡ false → said_from (b ∷ bs) ≡ said_with (access_of (word (b ∷ bs))) (b ∷ bs)
unskipped b bs other =
    ap (λ t. cond (t || eqb b 35) (Ok None) (said_with (access_of (word (b ∷ bs))) (b ∷ bs))) (some_byte b bs)
    ∙ ap (λ t. cond t (Ok None) (said_with (access_of (word (b ∷ bs))) (b ∷ bs))) other

pub access_said : (access : Access) (rest : List ℕ) → Ends rest → said_from (access_word access ++ rest) ≡ said_with (Some access) (access_word access ++ rest)
access_said ReadWrite rest ends =
    unskipped 82 (codes "W" ++ rest) refl ∙ ap (λ w. said_with (access_of w) (codes "RW" ++ rest)) (word_is (codes "RW") rest refl ends)
access_said ReadOnly rest ends =
    unskipped 82 (codes "DONLY" ++ rest) refl ∙ ap (λ w. said_with (access_of w) (codes "RDONLY" ++ rest)) (word_is (codes "RDONLY") rest refl ends)
access_said NoAccess rest ends =
    unskipped 78 (codes "OACCESS" ++ rest) refl ∙ ap (λ w. said_with (access_of w) (codes "NOACCESS" ++ rest)) (word_is (codes "NOACCESS") rest refl ends)

extent_read : (access : Access) (sectors : ℕ) (source : Source (List ℕ)) (digits gap text : List ℕ) → AreDigitsOf sectors digits → IsGap gap →
    IsSourceText sectors source text → extent_of access (digits ++ (gap ++ text)) ≡ Ok (extent access sectors source)
extent_read access sectors source digits gap text number is told =
    let bare = number_bare sectors digits number in
    let one : word (digits ++ (gap ++ text)) ≡ digits = word_is digits (gap ++ text) bare (gap_ends gap text is) in
    let rest : past_word (digits ++ (gap ++ text)) ≡ text = next_word digits gap text bare is (source_starts sectors source text told) in
    bind_to (decimal (word (digits ++ (gap ++ text))))
    (λ n. source_of n (past_word (digits ++ (gap ++ text))) >>= λ s. Ok (extent access n s))
    sectors (Ok (extent access sectors source))
    (ap decimal one ∙ number_read sectors digits number)
    (bind_to (source_of sectors (past_word (digits ++ (gap ++ text)))) (λ s. Ok (extent access sectors s))
    source (Ok (extent access sectors source))
    (ap (source_of sectors) rest ∙ source_read sectors source text told) refl)

-- An extent line is parsed as its extent.
pub made : (x : Extent (List ℕ)) (line : List ℕ) → IsExtentLine x line → said_by line ≡ Ok (Some x)
made x line l =
    let more : List ℕ = l.digits ++ (l.second_gap ++ l.source) in
    let text : List ℕ = l.gap ++ more in
    let start : past_blanks line ≡ access_word x.access ++ text =
    ap past_blanks l.made ∙ blanks_off l.start (access_word x.access ++ text) l.start_is (access_starts x.access text) in
    let bare = number_bare x.sectors l.digits l.digits_are in
    let rest : past_word (access_word x.access ++ text) ≡ more =
    next_word (access_word x.access) l.gap more (by_access x.access) l.gap_is
    (bare_starts l.digits (l.second_gap ++ l.source) bare (number_some x.sectors l.digits l.digits_are)) in
    ap said_from start ∙ access_said x.access text (gap_ends l.gap more l.gap_is)
    ∙ bind_to (extent_of x.access (past_word (access_word x.access ++ text))) (λ y. Ok (Some y)) x (Ok (Some x))
    (ap (extent_of x.access) rest ∙ extent_read x.access x.sectors x.source l.digits l.second_gap l.source l.digits_are l.second_gap_is l.source_is) refl

-- ---- From the meaning of a line to its form.

sector_made : (text : List ℕ) (sector : ℕ) → sector_of text ≡ Ok sector → (AreBlanks text × (sector ≡ 0)) ⊎ IsSectorText sector text
sector_made text sector e = sector_cases (is_empty (past_blanks text)) refl e
  where
    sector_cases : (t : Bool) → is_empty (past_blanks text) ≡ t →
        cond t (Ok 0) (cond (is_blank (get_or text 0 0) && is_empty (past_word (past_blanks text))) (decimal (word (past_blanks text))) (Err DamagedDescriptor)) ≡ Ok sector →
        (AreBlanks text × (sector ≡ 0)) ⊎ IsSectorText sector text
    sector_cases true none told =
        let rest : past_blanks text ≡ [] = empty_is (past_blanks text) none in
        let whole : text ≡ gap_of text = gap_whole text ∙ ap (λ l. gap_of text ++ l) rest ∙ append-nil (gap_of text) in
        let same : ◌≡◌ {A = Result ℕ Fault} (Ok sector) (Ok 0) = sym told in
        inl (subst (λ (l : List ℕ). AreBlanks l) (sym whole) (gap_blanks text), cc same)
    sector_cases false some told =
        let parts = from_test (is_blank (get_or text 0 0) && is_empty (past_word (past_blanks text))) (decimal (word (past_blanks text))) DamagedDescriptor sector told in
        let tests = both (is_blank (get_or text 0 0)) (is_empty (past_word (past_blanks text))) parts.0 in
        let number = number_from (word (past_blanks text)) sector parts.1 in
        let one = split (past_blanks text) in
        let last : past_word (past_blanks text) ≡ [] = empty_is (past_word (past_blanks text)) tests.1 in
        inr (record {
          gap = gap_of text;
          digits = word (past_blanks text);
          end = one.gap;
          made = gap_whole text ∙ ap (λ l. gap_of text ++ l) (one.whole ∙ ap (λ l. word (past_blanks text) ++ (one.gap ++ l)) last
              ∙ ap (λ l. word (past_blanks text) ++ l) (append-nil one.gap));
          gap_is = (gap_first text tests.0 (is_some (past_blanks text) some), gap_blanks text);
          digits_are = number;
          end_is = one.blanks;
        })
      where
        is_some : (xs : List ℕ) → is_empty xs ≡ false → 0 < length xs
        is_some [] e = absurd (cc e)
        is_some (x ∷ xs) e = omega arith

        gap_first : (xs : List ℕ) → is_blank (get_or xs 0 0) ≡ true → 0 < length (past_blanks xs) → 0 < length (gap_of xs)
        gap_first [] blank some = some
        gap_first (x ∷ xs) blank some = gap_some (x ∷ xs) blank some

named_made : (sectors : ℕ) (text : List ℕ) (source : Source (List ℕ)) → named sectors text ≡ Ok source →
    (name : List ℕ) × (end : List ℕ) × (sector : ℕ) × (source ≡ Flat name sector) × (text ≡ name ++ 34 ∷ end)
    × IsTrue (list_all (λ b. not (eqb b 34)) name) × IsTrue (is_utf8 name) × (sector_of end ≡ Ok sector) × (512 * (sector + sectors) < 2 ^ 64)
named_made sectors text source e =
    let quote : ℕ → Bool = λ b. eqb b 34 in
    let n = position_or_len quote text in
    let name = before_first quote text in
    let end = after_first quote text in
    let parts = from_test (ltb n (length text) && is_utf8 name) (sector_of end >>= in_file name sectors) DamagedDescriptor source e in
    let tests = both (ltb n (length text)) (is_utf8 name) parts.0 in
    let told = from_bind (sector_of end) (in_file name sectors) source parts.1 in
    let fits = from_test (ltb (512 * (told.0 + sectors)) (2 ^ 64)) (Ok (Flat name told.0)) DamagedDescriptor source told.2 in
    let same : ◌≡◌ {A = Result (Source (List ℕ)) Fault} (Ok source) (Ok (Flat name told.0)) = sym fits.1 in
    (name, end, told.0, cc same, at_quote text (ltb-true _ _ tests.0), front_passes (λ b. not (eqb b 34)) text, tests.1, told.1, ltb-true _ _ fits.0)
  where
    at_quote : (xs : List ℕ) → position_or_len (λ b. eqb b 34) xs < length xs →
        xs ≡ before_first (λ b. eqb b 34) xs ++ 34 ∷ after_first (λ b. eqb b 34) xs
    at_quote [] inside = absurd (omega (arith, inside))
    at_quote (x ∷ xs) inside = at_first (eqb x 34) refl inside (λ low. at_quote xs low)
      where
        at_first : (t : Bool) → eqb x 34 ≡ t → cond (not t) (1 + position_or_len (λ b. eqb b 34) xs) 0 < length (x ∷ xs) →
            (position_or_len (λ b. eqb b 34) xs < length xs → xs ≡ before_first (λ b. eqb b 34) xs ++ 34 ∷ after_first (λ b. eqb b 34) xs) →
            x ∷ xs ≡ take (cond (not t) (1 + position_or_len (λ b. eqb b 34) xs) 0) (x ∷ xs)
            ++ 34 ∷ drop (cond (not t) (1 + position_or_len (λ b. eqb b 34) xs) 0 + 1) (x ∷ xs)
        at_first true is low later = ap (λ b. b ∷ xs) (eqb-true x 34 is)
        at_first false is low later =
            let n = position_or_len (λ b. eqb b 34) xs in
            let on : 1 + n ≡ suc n = one_more n in
            let next : suc n + 1 ≡ suc (n + 1) = omega arith in
            subst (λ (m : ℕ). x ∷ xs ≡ take m (x ∷ xs) ++ 34 ∷ drop (m + 1) (x ∷ xs)) (sym on)
            (ap (λ l. x ∷ l) (later (omega (arith, low))) ∙ ap (λ k. x ∷ take n xs ++ 34 ∷ drop k (x ∷ xs)) (sym next))

source_made : (sectors : ℕ) (text : List ℕ) (source : Source (List ℕ)) → source_of sectors text ≡ Ok source → IsSourceText sectors source text
source_made sectors text source e = at_flat (bytes_eq (word text) (codes "FLAT")) refl e
  where
    one : IsSplit text
    one = split text

    at_zero : (t : Bool) → bytes_eq (word text) (codes "ZERO") ≡ t →
        cond t (zero_of (past_word text)) (Err (cond (is_empty (word text)) DamagedDescriptor Unsupported)) ≡ Ok source → IsSourceText sectors source text
    at_zero false is told = absurd (cc told)
    at_zero true is told =
        let parts = from_test (is_empty (past_word text)) (Ok Zero) DamagedDescriptor source told in
        let same : Zero ≡ source = cc parts.1 in
        let last : past_word text ≡ [] = empty_is (past_word text) parts.0 in
        let kind : word text ≡ codes "ZERO" = same_bytes (word text) (codes "ZERO") is in
        subst (λ (s : Source (List ℕ)). IsSourceText sectors s text) same (record {
          end = one.gap;
          made = one.whole ∙ ap (λ l. word text ++ (one.gap ++ l)) last ∙ ap (λ l. word text ++ l) (append-nil one.gap) ∙ ap (λ w. w ++ one.gap) kind;
          end_is = one.blanks;
        })

    at_quote : (t : Bool) → begins_with 34 (past_word text) ≡ t → cond t (named sectors (drop 1 (past_word text))) (Err DamagedDescriptor) ≡ Ok source →
        word text ≡ codes "FLAT" → IsSourceText sectors source text
    at_quote false is told kind = absurd (cc told)
    at_quote true is told kind =
        let n = named_made sectors (drop 1 (past_word text)) source told in
        let rest : past_word text ≡ 34 ∷ (n.0 ++ 34 ∷ n.1) = opened (past_word text) is ∙ ap (λ l. 34 ∷ l) n.4 in
        let some : 0 < length (past_word text) = subst (λ (l : List ℕ). 0 < length l) (sym rest) (omega arith) in
        subst (λ (s : Source (List ℕ)). IsSourceText sectors s text) (sym n.3) (record {
          gap = one.gap;
          end = n.1;
          made = one.whole ∙ (λ i. kind i ++ (one.gap ++ rest i));
          gap_is = (one.some some, one.blanks);
          no_quote = n.5;
          is_text = n.6;
          sector_is = sector_made n.1 n.2 n.7;
          fits = n.8;
        })
      where
        opened : (xs : List ℕ) → begins_with 34 xs ≡ true → xs ≡ 34 ∷ drop 1 xs
        opened [] e = absurd (cc e)
        opened (x ∷ xs) e = ap (λ b. b ∷ xs) (eqb-true x 34 e)

    at_flat : (t : Bool) → bytes_eq (word text) (codes "FLAT") ≡ t → cond t (flat_of sectors (past_word text))
        (cond (bytes_eq (word text) (codes "ZERO")) (zero_of (past_word text)) (Err (cond (is_empty (word text)) DamagedDescriptor Unsupported))) ≡ Ok source →
        IsSourceText sectors source text
    at_flat true is told = at_quote (begins_with 34 (past_word text)) refl told (same_bytes (word text) (codes "FLAT") is)
    at_flat false is told = at_zero (bytes_eq (word text) (codes "ZERO")) refl told

pub access_made : (one : List ℕ) (access : Access) → access_of one ≡ Some access → one ≡ access_word access
access_made one access e = at_first (bytes_eq one (codes "RW")) refl e
  where
    at_third : (t : Bool) → bytes_eq one (codes "NOACCESS") ≡ t → cond t (Some NoAccess) None ≡ Some access → one ≡ access_word access
    at_third true is told = let same : NoAccess ≡ access = cc told in same_bytes one (codes "NOACCESS") is ∙ ap access_word same
    at_third false is told = absurd (cc told)

    at_second : (t : Bool) → bytes_eq one (codes "RDONLY") ≡ t →
        cond t (Some ReadOnly) (cond (bytes_eq one (codes "NOACCESS")) (Some NoAccess) None) ≡ Some access → one ≡ access_word access
    at_second true is told = let same : ReadOnly ≡ access = cc told in same_bytes one (codes "RDONLY") is ∙ ap access_word same
    at_second false is told = at_third (bytes_eq one (codes "NOACCESS")) refl told

    at_first : (t : Bool) → bytes_eq one (codes "RW") ≡ t →
        cond t (Some ReadWrite) (cond (bytes_eq one (codes "RDONLY")) (Some ReadOnly) (cond (bytes_eq one (codes "NOACCESS")) (Some NoAccess) None)) ≡ Some access →
        one ≡ access_word access
    at_first true is told = let same : ReadWrite ≡ access = cc told in same_bytes one (codes "RW") is ∙ ap access_word same
    at_first false is told = at_second (bytes_eq one (codes "RDONLY")) refl told

no_setting : (text : List ℕ) (x : Extent (List ℕ)) → setting_of text ≡ Ok (Some x) → ⊥
no_setting text x e = at_sign (ltb (position_or_len (λ b. eqb b 61) text) (length text)) (is_carried (before_first (λ b. eqb b 61) text) (past_blanks (after_first (λ b. eqb b 61) text))) e
  where
    at_sign : (s t : Bool) → cond s (cond t (Ok None) (Err Unsupported)) (Err DamagedDescriptor) ≡ Ok (Some x) → ⊥
    at_sign false t e = cc e
    at_sign true true e = cc e
    at_sign true false e = cc e

extent_made : (x : Extent (List ℕ)) (line : List ℕ) (access : Access) → word (past_blanks line) ≡ access_word access →
    (extent_of access (past_word (past_blanks line)) >>= λ y. Ok (Some y)) ≡ Ok (Some x) → IsExtentLine x line
extent_made x line access kind e =
    let text = past_blanks line in
    let rest = past_word text in
    let told = from_bind (extent_of access rest) (λ y. Ok (Some y)) (Some x) e in
    let same : told.0 ≡ x = cc told.2 in
    let counted = from_bind (decimal (word rest)) (λ n. source_of n (past_word rest) >>= λ s. Ok (extent access n s)) told.0 told.1 in
    let sourced = from_bind (source_of counted.0 (past_word rest)) (λ s. Ok (extent access counted.0 s)) told.0 counted.2 in
    let is : extent access counted.0 sourced.0 ≡ x = ok_same _ _ sourced.2 ∙ same in
    let number = number_from (word rest) counted.0 counted.1 in
    let first = split text in
    let second = split rest in
    let source = source_made counted.0 (past_word rest) sourced.0 sourced.1 in
    let some_rest : 0 < length rest = longer (word rest) second.gap (past_word rest) rest second.whole (number_some counted.0 (word rest) number) in
    subst (λ (y : Extent (List ℕ)). IsExtentLine y line) is (record {
      start = gap_of line;
      gap = first.gap;
      digits = word rest;
      second_gap = second.gap;
      source = past_word rest;
      made = gap_whole line ∙ ap (λ l. gap_of line ++ l) (first.whole ∙ ap (λ l. word text ++ (first.gap ++ l)) second.whole
          ∙ ap (λ w. w ++ (first.gap ++ (word rest ++ (second.gap ++ past_word rest)))) kind);
      start_is = gap_blanks line;
      gap_is = (first.some some_rest, first.blanks);
      digits_are = number;
      second_gap_is = (second.some (source_some counted.0 sourced.0 (past_word rest) source), second.blanks);
      source_is = source;
    })
  where
    ok_same : (y z : Extent (List ℕ)) → ◌≡◌ {A = Result (Extent (List ℕ)) Fault} (Ok y) (Ok z) → y ≡ z
    ok_same y z e = cc e

    longer : (a b c whole : List ℕ) → whole ≡ a ++ (b ++ c) → 0 < length a → 0 < length whole
    longer a b c whole e some = omega (arith, ap length e, length-append a (b ++ c), some)

    source_some : (sectors : ℕ) (source : Source (List ℕ)) (text : List ℕ) → IsSourceText sectors source text → 0 < length text
    source_some sectors (Flat name sector) text s = subst (λ (l : List ℕ). 0 < length l) (sym s.made) (omega arith)
    source_some sectors Zero text s = subst (λ (l : List ℕ). 0 < length l) (sym s.made) (omega arith)

-- A line that is parsed as an extent has the form of an extent line.
pub read : (x : Extent (List ℕ)) (line : List ℕ) → said_by line ≡ Ok (Some x) → IsExtentLine x line
read x line e = at_skip (is_skipped (past_blanks line)) e
  where
    at_access : (found : Option Access) → access_of (word (past_blanks line)) ≡ found → said_with found (past_blanks line) ≡ Ok (Some x) → IsExtentLine x line
    at_access None is told = absurd (no_setting (past_blanks line) x told)
    at_access (Some access) is told = extent_made x line access (access_made (word (past_blanks line)) access is) told

    at_skip : (t : Bool) → cond t (Ok None) (said_with (access_of (word (past_blanks line))) (past_blanks line)) ≡ Ok (Some x) → IsExtentLine x line
    at_skip true told = absurd (cc told)
    at_skip false told = at_access (access_of (word (past_blanks line))) refl told
