-- Lines that begin with an access keyword and are invalid.
use Rattle.std.proofs.Common.{◌≡◌, ◌⊎◌, inl, inr, ℕ, ◌+◌, ◌*◌, ◌<◌, ◌^◌, ◌&&◌, Bool, true, false, cond, eqb, ltb, List, [], ◌∷◌, ◌++◌, length, drop, get_or, not, Option, Some, Result, Ok, Err, refl, sym, ap, subst, ◌∙◌, length-append, take-append-drop, codes, arith}
use Rattle.std.specs.List.{position_or_len, before_first, after_first}
use Rattle.std.specs.Str.{bytes_eq, is_utf8}
use Rattle.std.specs.Str.Parse.{digits_value}
use Rattle.imago_storage.specs.declared.fault.Fault.{Fault}
use Rattle.imago_storage.specs.declared.fault.Fault.TheVariants.{DamagedDescriptor, Unsupported}
use Rattle.imago_formats.proofs.ExtentLines.{front_passes, rest_meets, Ends, gap_ends, blanks_off, word_is, next_word, split, number_bare, number_some, bare_starts, number_read, empty_is, same_bytes, by_type, said_from, by_access, access_starts, access_said, read}
use Rattle.imago_formats.specs.DescriptorWords.{◌>>=◌, is_blank, past_blanks, word, past_word, is_decimal, decimal, is_empty, begins_with}
use Rattle.imago_formats.specs.Descriptor.{sector_of, in_file, named, flat_of, zero_of, source_of, said_by}
use Rattle.imago_formats.specs.DescriptorLines.{AreBlanks, AreDigitsOf, access_word, IsExtentLine}
use Rattle.imago_formats.specs.RefusedLines.{EndsWord, IsAccessLine, IsOtherType, IsOtherExtent}
use Rattle.imago_formats.specs.WorkedDescriptor.{extent}
use Rattle.imago_formats.specs.declared.vmdk.descriptor.Access.{Access}
use Rattle.imago_formats.specs.declared.vmdk.descriptor.Source.{Source}
use Rattle.imago_formats.specs.declared.vmdk.descriptor.Source.TheVariants.{Flat, Zero}
use Rattle.imago_formats.specs.declared.vmdk.descriptor.Extent.{Extent}

-- `EndsWord` implies the condition that the lemmas on extent lines use.
ends : (rest : List ℕ) → EndsWord rest → Ends rest
ends [] is = tt
ends (b ∷ bs) is = is

ends_word : (rest : List ℕ) → Ends rest → EndsWord rest
ends_word [] is = tt
ends_word (b ∷ bs) is = is

-- The meaning of a line that begins with an access keyword, by its number of sectors.
abbrev by_count : Access → List ℕ → Result ℕ Fault → Result (Option (Extent (List ℕ))) Fault
by_count access rest count = (count >>= λ n. source_of n (past_word rest) >>= λ s. Ok (extent access n s)) >>= λ x. Ok (Some x)

abbrev by_source : Access → ℕ → Result (Source (List ℕ)) Fault → Result (Option (Extent (List ℕ))) Fault
by_source access n source = (source >>= λ s. Ok (extent access n s)) >>= λ x. Ok (Some x)

access_line : (start : List ℕ) (access : Access) (rest line : List ℕ) → line ≡ start ++ (access_word access ++ rest) → AreBlanks start → Ends rest →
    said_by line ≡ by_count access (past_word (access_word access ++ rest)) (decimal (word (past_word (access_word access ++ rest))))
access_line start access rest line made blanks is =
    ap said_from (ap past_blanks made ∙ blanks_off start (access_word access ++ rest) blanks (access_starts access rest)) ∙ access_said access rest is

-- ---- Another type.

other_type : (n : ℕ) (kind rest : List ℕ) → IsOtherType kind → by_type n kind rest ≡ Err Unsupported
other_type n kind rest o = at_flat (bytes_eq kind (codes "FLAT")) refl
  where
    at_none : (t : Bool) → is_empty kind ≡ t → ◌≡◌ {A = Result (Source (List ℕ)) Fault} (Err (cond t DamagedDescriptor Unsupported)) (Err Unsupported)
    at_none true is = let size : length kind ≡ 0 = ap length (empty_is kind is) in absurd (omega (arith, size, o.nonempty))
    at_none false is = refl

    at_zero : (t : Bool) → bytes_eq kind (codes "ZERO") ≡ t →
        cond t (zero_of rest) (Err (cond (is_empty kind) DamagedDescriptor Unsupported)) ≡ Err Unsupported
    at_zero true is = absurd (o.no_zero (same_bytes kind (codes "ZERO") is))
    at_zero false is = at_none (is_empty kind) refl

    at_flat : (t : Bool) → bytes_eq kind (codes "FLAT") ≡ t →
        cond t (flat_of n rest) (cond (bytes_eq kind (codes "ZERO")) (zero_of rest) (Err (cond (is_empty kind) DamagedDescriptor Unsupported))) ≡ Err Unsupported
    at_flat true is = absurd (o.no_flat (same_bytes kind (codes "FLAT") is))
    at_flat false is = at_zero (bytes_eq kind (codes "ZERO")) refl

pub uncarried : (line : List ℕ) → IsOtherExtent line → said_by line ≡ Err Unsupported
uncarried line o =
    let n = digits_value 10 o.digits in
    let number : AreDigitsOf n o.digits = (o.digits_are, refl) in
    let bare = number_bare n o.digits number in
    let kind : List ℕ = o.kind ++ o.remainder in
    let count : List ℕ = o.digits ++ (o.second_gap ++ kind) in
    let behind : past_word (access_word o.access ++ (o.gap ++ count)) ≡ count =
    next_word (access_word o.access) o.gap count (by_access o.access) o.gap_is
    (bare_starts o.digits (o.second_gap ++ kind) bare (number_some n o.digits number)) in
    let later : past_word count ≡ kind =
    next_word o.digits o.second_gap kind bare o.second_gap_is (bare_starts o.kind o.remainder o.kind_is.one_word o.kind_is.nonempty) in
    let read_count : decimal (word count) ≡ Ok n =
    ap decimal (word_is o.digits (o.second_gap ++ kind) bare (gap_ends o.second_gap kind o.second_gap_is)) ∙ number_read n o.digits number in
    let read_kind : source_of n kind ≡ Err Unsupported =
    ap (λ w. by_type n w (past_word kind)) (word_is o.kind o.remainder o.kind_is.one_word (ends o.remainder o.rest_is))
    ∙ other_type n o.kind (past_word kind) o.kind_is in
    access_line o.start o.access (o.gap ++ count) line o.made o.start_is (gap_ends o.gap count o.gap_is)
    ∙ ap (λ l. by_count o.access l (decimal (word l))) behind
    ∙ ap (by_count o.access count) read_count
    ∙ ap (λ l. by_source o.access n (source_of n l)) later
    ∙ ap (by_source o.access n) read_kind

-- ---- Damage.

-- The only possible error is `DamagedDescriptor`.
abbrev OnlyDamage : {A : Type 0} → Result A Fault → Type 0
OnlyDamage r = (fault : Fault) → r ≡ Err fault → fault ≡ DamagedDescriptor

only_ok : {A : Type 0} (v : A) → OnlyDamage (Ok v)
only_ok v fault e = absurd (cc e)

only_test : {A : Type 0} (t : Bool) (r : Result A Fault) → OnlyDamage r → OnlyDamage (cond t r (Err DamagedDescriptor))
only_test true r only fault e = only fault e
only_test false r only fault e = let same : DamagedDescriptor ≡ fault = cc e in sym same

only_bind : {A B : Type 0} (r : Result A Fault) (f : A → Result B Fault) → OnlyDamage r → ((a : A) → OnlyDamage (f a)) → OnlyDamage (r >>= f)
only_bind (Ok a) f first later fault e = later a fault e
only_bind (Err x) f first later fault e = let same : x ≡ fault = cc e in sym same ∙ first x refl

only_decimal : (digits : List ℕ) → OnlyDamage (decimal digits)
only_decimal digits = only_test (is_decimal digits) (Ok (digits_value 10 digits)) (only_ok (digits_value 10 digits))

only_sector : (text : List ℕ) → OnlyDamage (sector_of text)
only_sector text = at_none (is_empty (past_blanks text))
  where
    at_none : (t : Bool) → OnlyDamage (cond t (Ok 0)
        (cond (is_blank (get_or text 0 0) && is_empty (past_word (past_blanks text))) (decimal (word (past_blanks text))) (Err DamagedDescriptor)))
    at_none true = only_ok 0
    at_none false = only_test (is_blank (get_or text 0 0) && is_empty (past_word (past_blanks text))) (decimal (word (past_blanks text)))
        (only_decimal (word (past_blanks text)))

only_named : (sectors : ℕ) (text : List ℕ) → OnlyDamage (named sectors text)
only_named sectors text =
    let name = before_first (λ b. eqb b 34) text in
    let end = after_first (λ b. eqb b 34) text in
    only_test (ltb (position_or_len (λ b. eqb b 34) text) (length text) && is_utf8 name) (sector_of end >>= in_file name sectors)
    (only_bind (sector_of end) (in_file name sectors) (only_sector end)
    (λ sector. only_test (ltb (512 * (sector + sectors)) (2 ^ 64)) (Ok (Flat name sector)) (only_ok (Flat name sector))))

only_flat : (sectors : ℕ) (text : List ℕ) → OnlyDamage (flat_of sectors text)
only_flat sectors text = only_test (begins_with 34 text) (named sectors (drop 1 text)) (only_named sectors (drop 1 text))

only_zero : (text : List ℕ) → OnlyDamage (zero_of text)
only_zero text = only_test (is_empty text) (Ok Zero) (only_ok Zero)

-- An invalid source is damaged, or has another type.
source_refused : (n : ℕ) (text : List ℕ) (fault : Fault) → source_of n text ≡ Err fault → (fault ≡ DamagedDescriptor) ⊎ IsOtherType (word text)
source_refused n text fault e = at_flat (bytes_eq (word text) (codes "FLAT")) refl e
  where
    differs : (one : List ℕ) → bytes_eq one one ≡ true → bytes_eq (word text) one ≡ false → word text ≡ one → ⊥
    differs one same other is = absurd (cc (sym other ∙ ap (λ w. bytes_eq w one) is ∙ same))

    is_some : (xs : List ℕ) → is_empty xs ≡ false → 0 < length xs
    is_some [] none = absurd (cc none)
    is_some (x ∷ xs) none = omega arith

    at_none : (t : Bool) → is_empty (word text) ≡ t → bytes_eq (word text) (codes "FLAT") ≡ false → bytes_eq (word text) (codes "ZERO") ≡ false →
        ◌≡◌ {A = Result (Source (List ℕ)) Fault} (Err (cond t DamagedDescriptor Unsupported)) (Err fault) → (fault ≡ DamagedDescriptor) ⊎ IsOtherType (word text)
    at_none true is no_flat no_zero told = let same : DamagedDescriptor ≡ fault = cc told in inl (sym same)
    at_none false is no_flat no_zero told = inr (record {
      nonempty = is_some (word text) is;
      one_word = front_passes (λ b. not (is_blank b)) text;
      no_flat = differs (codes "FLAT") refl no_flat;
      no_zero = differs (codes "ZERO") refl no_zero;
    })

    at_zero : (t : Bool) → bytes_eq (word text) (codes "ZERO") ≡ t → bytes_eq (word text) (codes "FLAT") ≡ false →
        cond t (zero_of (past_word text)) (Err (cond (is_empty (word text)) DamagedDescriptor Unsupported)) ≡ Err fault →
        (fault ≡ DamagedDescriptor) ⊎ IsOtherType (word text)
    at_zero true is no_flat told = inl (only_zero (past_word text) fault told)
    at_zero false is no_flat told = at_none (is_empty (word text)) refl no_flat is told

    at_flat : (t : Bool) → bytes_eq (word text) (codes "FLAT") ≡ t → cond t (flat_of n (past_word text))
        (cond (bytes_eq (word text) (codes "ZERO")) (zero_of (past_word text)) (Err (cond (is_empty (word text)) DamagedDescriptor Unsupported))) ≡ Err fault →
        (fault ≡ DamagedDescriptor) ⊎ IsOtherType (word text)
    at_flat true is told = inl (only_flat n (past_word text) fault told)
    at_flat false is told = at_zero (bytes_eq (word text) (codes "ZERO")) refl is told

-- A line with another type after its number is an unsupported one.
other_made : (line : List ℕ) (a : IsAccessLine line) (rest : List ℕ) → rest ≡ past_word (access_word a.access ++ a.remainder) → is_decimal (word rest) ≡ true →
    IsOtherType (word (past_word rest)) → IsOtherExtent line
other_made line a rest is digits kind =
    let text : List ℕ = access_word a.access ++ a.remainder in
    let third = past_word rest in
    let place = position_or_len is_blank third in
    let number : AreDigitsOf (digits_value 10 (word rest)) (word rest) = (digits, refl) in
    let first = split text in
    let second = split rest in
    let access : word text ≡ access_word a.access = word_is (access_word a.access) a.remainder (by_access a.access) (ends a.remainder a.rest_is) in
    let whole : third ≡ word third ++ drop place third = sym (take-append-drop place third) in
    let some_rest : 0 < length rest = longer (word rest) (second.gap ++ third) rest second.whole (number_some _ (word rest) number) in
    let some_third : 0 < length third = longer (word third) (drop place third) third whole kind.nonempty in record {
      start = a.start;
      access = a.access;
      gap = first.gap;
      digits = word rest;
      second_gap = second.gap;
      kind = word third;
      remainder = drop place third;
      made = a.made ∙ ap (λ l. a.start ++ l) (first.whole ∙ (λ i. access i ++ (first.gap ++ sym is i))
          ∙ ap (λ l. access_word a.access ++ (first.gap ++ l)) (second.whole ∙ ap (λ l. word rest ++ (second.gap ++ l)) whole));
      start_is = a.start_is;
      gap_is = (first.some (subst (λ (l : List ℕ). 0 < length l) is some_rest), first.blanks);
      digits_are = digits;
      second_gap_is = (second.some some_third, second.blanks);
      kind_is = kind;
      rest_is = ends_word (drop place third) (rest_meets is_blank third);
    }
  where
    longer : (front back whole : List ℕ) → whole ≡ front ++ back → 0 < length front → 0 < length whole
    longer front back whole e some = omega (arith, ap length e, length-append front back, some)

pub damaged : (line : List ℕ) → IsAccessLine line → ((x : Extent (List ℕ)) → IsExtentLine x line → ⊥) → (IsOtherExtent line → ⊥) →
    said_by line ≡ Err DamagedDescriptor
damaged line a no_extent no_type = said ∙ at_count (is_decimal (word rest)) refl
  where
    rest : List ℕ
    rest = past_word (access_word a.access ++ a.remainder)

    said : said_by line ≡ by_count a.access rest (decimal (word rest))
    said = access_line a.start a.access a.remainder line a.made a.start_is (ends a.remainder a.rest_is)

    at_fault : (fault : Fault) → is_decimal (word rest) ≡ true → (fault ≡ DamagedDescriptor) ⊎ IsOtherType (word (past_word rest)) →
        ◌≡◌ {A = Result (Option (Extent (List ℕ))) Fault} (Err fault) (Err DamagedDescriptor)
    at_fault fault digits (inl damage) = ap (λ f. Err f) damage
    at_fault fault digits (inr kind) = absurd (no_type (other_made line a rest refl digits kind))

    at_source : (n : ℕ) (r : Result (Source (List ℕ)) Fault) → is_decimal (word rest) ≡ true → decimal (word rest) ≡ Ok n →
        source_of n (past_word rest) ≡ r → by_source a.access n r ≡ Err DamagedDescriptor
    at_source n (Ok source) digits count is = absurd (no_extent (extent a.access n source) (read (extent a.access n source) line
        (said ∙ ap (by_count a.access rest) count ∙ ap (by_source a.access n) is)))
    at_source n (Err fault) digits count is = at_fault fault digits (source_refused n (past_word rest) fault is)

    at_count : (t : Bool) → is_decimal (word rest) ≡ t →
        by_count a.access rest (cond t (Ok (digits_value 10 (word rest))) (Err DamagedDescriptor)) ≡ Err DamagedDescriptor
    at_count false is = refl
    at_count true is = at_source (digits_value 10 (word rest)) (source_of (digits_value 10 (word rest)) (past_word rest)) is
        (number_read (digits_value 10 (word rest)) (word rest) (is, refl)) refl
