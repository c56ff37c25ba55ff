-- The meaning of lines that describe no extent.
use Rattle.std.proofs.Common.{suc, ◌≡◌, ◌⊎◌, inl, inr, ℕ, ◌+◌, ◌<◌, ◌&&◌, ◌||◌, Bool, true, false, not, cond, eqb, ltb, List, [], ◌∷◌, ◌++◌, length, take, drop, Option, Some, None, Result, Ok, Err, refl, sym, ap, subst, ◌∙◌, add-one, append-nil, length-append, codes, arith}
use Rattle.std.specs.Prelude.{IsTrue}
use Rattle.std.specs.List.{list_all, position_or_len}
use Rattle.std.specs.Str.{bytes_eq, str_eq_ignore_ascii_case}
use borrow.Author.Tests.{lt-ltb, ltb-true}
use Rattle.imago_storage.specs.declared.fault.Fault.{Fault}
use Rattle.imago_storage.specs.declared.fault.Fault.TheVariants.{DamagedDescriptor, Unsupported}
use Rattle.imago_formats.proofs.ExtentLines.{first_at, take_front, front_passes, NoBlanks, Starts, blanks_end, blanks_off, all_off, word_is, behind_word, gap_of, gap_blanks, gap_whole, split, empty_is, some_byte, same_bytes, said_from, unskipped, access_made}
use Rattle.imago_formats.proofs.WordLemmas.{both}
use Rattle.imago_formats.specs.DescriptorWords.{is_blank, is_empty, is_word, past_blanks, past_word, word}
use Rattle.imago_formats.specs.Descriptor.{access_of, is_carried, said_by, said_with, setting_of}
use Rattle.imago_formats.specs.DescriptorLines.{AreBlanks}
use Rattle.imago_formats.specs.SettingLines.{HasNoSign, IsCarriedSetting, IsCarriedVersion, IsNoParent, IsOtherLine, IsPadded, IsSettingLine, IsSilent}
use Rattle.imago_formats.specs.declared.vmdk.descriptor.Access.{Access}
use Rattle.imago_formats.specs.declared.vmdk.descriptor.Extent.{Extent}

-- ---- Text without blanks, padded by blanks.

not_false : (t : Bool) → t ≡ false → not t ≡ true
not_false t e = ap not e

starts_off : (text : List ℕ) → Starts text → past_blanks text ≡ text
starts_off text starts = blanks_off [] text refl starts

-- A padded text, after the blanks at its start.
padded_off : (one text : List ℕ) → NoBlanks one → Starts one → 0 < length one → (p : IsPadded one text) → past_blanks text ≡ one ++ p.end
padded_off [] text none starts some p = absurd (omega (arith, some))
padded_off (b ∷ bs) text none starts some p = ap past_blanks p.made ∙ blanks_off p.start ((b ∷ bs) ++ p.end) p.start_is starts

word_back : (one end : List ℕ) → NoBlanks one → AreBlanks end → (word (one ++ end) ≡ one) × (past_word (one ++ end) ≡ [])
word_back one end none blanks =
    let ends = blanks_end end blanks in
    (word_is one end none ends, behind_word one end none ends ∙ all_off end blanks)

padded_word : (one text : List ℕ) → NoBlanks one → Starts one → 0 < length one → bytes_eq one one ≡ true → IsPadded one text →
    is_word one (past_blanks text) ≡ true
padded_word one text none starts some same p =
    let parts = word_back one p.end none p.end_is in
    ap (is_word one) (padded_off one text none starts some p)
    ∙ (λ i. bytes_eq (parts.0 i) one && is_empty (parts.1 i)) ∙ ap (λ t. t && is_empty []) same

-- The text has one `word`, and blanks around it.
padded_by : (text : List ℕ) → is_empty (past_word (past_blanks text)) ≡ true → IsPadded (word (past_blanks text)) text
padded_by text alone =
    let one = split (past_blanks text) in
    let last : past_word (past_blanks text) ≡ [] = empty_is (past_word (past_blanks text)) alone in record {
      start = gap_of text;
      end = one.gap;
      made = gap_whole text ∙ ap (λ l. gap_of text ++ l) (one.whole ∙ ap (λ l. word (past_blanks text) ++ (one.gap ++ l)) last
          ∙ ap (λ l. word (past_blanks text) ++ l) (append-nil one.gap));
      start_is = gap_blanks text;
      end_is = one.blanks;
    }

word_padded : (one text : List ℕ) → is_word one (past_blanks text) ≡ true → IsPadded one text
word_padded one text is =
    let parts = both (bytes_eq (word (past_blanks text)) one) (is_empty (past_word (past_blanks text))) is in
    subst (λ (w : List ℕ). IsPadded w text) (same_bytes (word (past_blanks text)) one parts.0) (padded_by text parts.1)

-- ---- Values.

from_or : (a b : Bool) → (a || b) ≡ true → (a ≡ true) ⊎ (b ≡ true)
from_or true b e = inl refl
from_or false b e = inr e

or_left : (a b : Bool) → a ≡ true → (a || b) ≡ true
or_left a b e = ap (λ t. t || b) e

or_right : (a b : Bool) → b ≡ true → (a || b) ≡ true
or_right true b e = refl
or_right false b e = e

abbrev is_version : List ℕ → Bool
is_version v = is_word (codes "1") v || (is_word (codes "2") v || is_word (codes "3") v)

abbrev is_no_parent : List ℕ → Bool
is_no_parent v = str_eq_ignore_ascii_case (word v) (codes "ffffffff") && is_empty (past_word v)

version_read : (value : List ℕ) → IsCarriedVersion value → is_version (past_blanks value) ≡ true
version_read value (inl p) = or_left (is_word (codes "1") (past_blanks value)) _ (padded_word (codes "1") value refl refl (omega arith) refl p)
version_read value (inr (inl p)) = or_right (is_word (codes "1") (past_blanks value)) _
    (or_left (is_word (codes "2") (past_blanks value)) _ (padded_word (codes "2") value refl refl (omega arith) refl p))
version_read value (inr (inr p)) = or_right (is_word (codes "1") (past_blanks value)) _
    (or_right (is_word (codes "2") (past_blanks value)) _ (padded_word (codes "3") value refl refl (omega arith) refl p))

version_made : (value : List ℕ) → is_version (past_blanks value) ≡ true → IsCarriedVersion value
version_made value e = at_first (from_or (is_word (codes "1") v) (is_word (codes "2") v || is_word (codes "3") v) e)
  where
    v : List ℕ
    v = past_blanks value

    at_second : (is_word (codes "2") v ≡ true) ⊎ (is_word (codes "3") v ≡ true) → IsCarriedVersion value
    at_second (inl is) = inr (inl (word_padded (codes "2") value is))
    at_second (inr is) = inr (inr (word_padded (codes "3") value is))

    at_first : (is_word (codes "1") v ≡ true) ⊎ ((is_word (codes "2") v || is_word (codes "3") v) ≡ true) → IsCarriedVersion value
    at_first (inl is) = inl (word_padded (codes "1") value is)
    at_first (inr is) = at_second (from_or (is_word (codes "2") v) (is_word (codes "3") v) is)

parent_read : (value : List ℕ) → IsNoParent value → is_no_parent (past_blanks value) ≡ true
parent_read value n = by_id n.id n.padded n.one_word n.same
  where
    by_id : (id : List ℕ) → IsPadded id value → NoBlanks id → IsTrue (str_eq_ignore_ascii_case id (codes "ffffffff")) →
        is_no_parent (past_blanks value) ≡ true
    by_id [] p none is = absurd (cc is)
    by_id (b ∷ bs) p none is =
        let one : List ℕ = b ∷ bs in
        let parts = word_back one p.end none p.end_is in
        let starts = (both (not (is_blank b)) (list_all (λ x. not (is_blank x)) bs) none).0 in
        ap is_no_parent (padded_off one value none starts (omega arith) p)
        ∙ (λ i. str_eq_ignore_ascii_case (parts.0 i) (codes "ffffffff") && is_empty (parts.1 i)) ∙ ap (λ t. t && is_empty []) is

parent_made : (value : List ℕ) → is_no_parent (past_blanks value) ≡ true → IsNoParent value
parent_made value e =
    let v = past_blanks value in
    let parts = both (str_eq_ignore_ascii_case (word v) (codes "ffffffff")) (is_empty (past_word v)) e in record {
      id = word v;
      padded = padded_by value parts.1;
      one_word = front_passes (λ b. not (is_blank b)) v;
      same = parts.0;
    }

-- ---- Settings.

-- For a key without blanks before it, the two ways to compare it agree.
key_read : (one key : List ℕ) → Starts key → NoBlanks one → Starts one → 0 < length one → bytes_eq one one ≡ true → IsPadded one key → is_word one key ≡ true
key_read one key starts none one_starts some same p =
    ap (is_word one) (sym (starts_off key starts)) ∙ padded_word one key none one_starts some same p

key_made : (one key : List ℕ) → Starts key → is_word one key ≡ true → IsPadded one key
key_made one key starts is = word_padded one key (ap (is_word one) (starts_off key starts) ∙ is)

abbrev by_keys : Bool → Bool → List ℕ → Bool
by_keys version parent v = cond version (is_version v) (cond parent (is_no_parent v) true)

carried_read : (key value : List ℕ) → Starts key → IsCarriedSetting key value → is_carried key (past_blanks value) ≡ true
carried_read key value starts c = at_version (is_word (codes "version") key) refl
  where
    at_parent : (t : Bool) → is_word (codes "parentCID") key ≡ t → cond t (is_no_parent (past_blanks value)) true ≡ true
    at_parent true is = parent_read value (c.parent (key_made (codes "parentCID") key starts is))
    at_parent false is = refl

    at_version : (t : Bool) → is_word (codes "version") key ≡ t → by_keys t (is_word (codes "parentCID") key) (past_blanks value) ≡ true
    at_version true is = version_read value (c.version (key_made (codes "version") key starts is))
    at_version false is = at_parent (is_word (codes "parentCID") key) refl

carried_made : (key value : List ℕ) → Starts key → is_carried key (past_blanks value) ≡ true → IsCarriedSetting key value
carried_made key value starts e = record {
  version = λ p. version_made value (sym (ap (λ t. by_keys t (is_word (codes "parentCID") key) (past_blanks value))
      (key_read (codes "version") key starts refl refl (omega arith) refl p)) ∙ e);
  parent = λ p. at_version (is_word (codes "version") key) refl (key_read (codes "parentCID") key starts refl refl (omega arith) refl p) e;
}
  where
    -- A key can't be both.
    not_both : is_word (codes "version") key ≡ true → is_word (codes "parentCID") key ≡ true → ⊥
    not_both one other =
        let first = same_bytes (word key) (codes "version") (both (bytes_eq (word key) (codes "version")) (is_empty (past_word key)) one).0 in
        let second = same_bytes (word key) (codes "parentCID") (both (bytes_eq (word key) (codes "parentCID")) (is_empty (past_word key)) other).0 in
        apart (sym first ∙ second)
      where
        apart : codes "version" ≡ codes "parentCID" → ⊥
        apart same = let sizes : 7 ≡ 9 = ap (λ l. length l) same in absurd (omega (arith, sizes))

    at_version : (t : Bool) → is_word (codes "version") key ≡ t → is_word (codes "parentCID") key ≡ true →
        by_keys t (is_word (codes "parentCID") key) (past_blanks value) ≡ true → IsNoParent value
    at_version true is other told = absurd (not_both is other)
    at_version false is other told = parent_made value (sym (ap (λ t. by_keys false t (past_blanks value)) other) ∙ told)

-- The meaning of a setting, by the position of its equals sign.
abbrev by_sign : List ℕ → ℕ → Result (Option (Extent (List ℕ))) Fault
by_sign text n = cond (ltb n (length text))
    (cond (is_carried (take n text) (past_blanks (drop (n + 1) text))) (Ok None) (Err Unsupported)) (Err DamagedDescriptor)

setting_read : (key value : List ℕ) → HasNoSign key →
    setting_of (key ++ 61 ∷ value) ≡ cond (is_carried key (past_blanks value)) (Ok None) (Err Unsupported)
setting_read key value none =
    ap (by_sign (key ++ 61 ∷ value)) (first_at (λ b. eqb b 61) key (61 ∷ value) none refl)
    ∙ ap (λ t. cond t (cond (is_carried (take (length key) (key ++ 61 ∷ value)) (past_blanks (drop (length key + 1) (key ++ 61 ∷ value)))) (Ok None) (Err Unsupported)) (Err DamagedDescriptor))
    (lt-ltb _ _ (omega (arith, length-append key (61 ∷ value))))
    ∙ (λ i. cond (is_carried (take_front key (61 ∷ value) i) (past_blanks (behind key i))) (Ok None) (Err Unsupported))
  where
    from : (xs : List ℕ) → drop (suc (length xs)) (xs ++ 61 ∷ value) ≡ value
    from [] = refl
    from (x ∷ xs) = from xs

    behind : (xs : List ℕ) → drop (length xs + 1) (xs ++ 61 ∷ value) ≡ value
    behind xs = ap (λ n. drop n (xs ++ 61 ∷ value)) (add-one (length xs)) ∙ from xs

unsigned_read : (text : List ℕ) → HasNoSign text → setting_of text ≡ Err DamagedDescriptor
unsigned_read text none =
    ap (by_sign text) (ap (position_or_len (λ b. eqb b 61)) (sym (append-nil text)) ∙ first_at (λ b. eqb b 61) text [] none tt)
    ∙ ap (λ t. cond t (cond (is_carried (take (length text) text) (past_blanks (drop (length text + 1) text))) (Ok None) (Err Unsupported)) (Err DamagedDescriptor))
    (not_less (length text) (ltb (length text) (length text)) refl)
  where
    not_less : (n : ℕ) (t : Bool) → ltb n n ≡ t → ltb n n ≡ false
    not_less n false e = e
    not_less n true e = let low : n < n = ltb-true n n e in absurd (omega (arith, low))

-- ---- Lines.

other_said : (text line : List ℕ) → IsOtherLine text line → said_by line ≡ setting_of text
other_said text line o =
    ap said_from (ap past_blanks o.made ∙ blanks_off o.start text o.start_is starts)
    ∙ ap said_from o.begins ∙ unskipped o.first o.remainder o.no_comment ∙ ap (λ l. said_with (access_of (word l)) l) (sym o.begins)
    ∙ ap (λ a. said_with a text) (no_access (access_of (word text)) refl)
  where
    starts : Starts text
    starts = subst (λ (l : List ℕ). Starts l) (sym o.begins) (not_false (is_blank o.first) o.no_blank)

    no_access : (found : Option Access) → access_of (word text) ≡ found → access_of (word text) ≡ None
    no_access None is = is
    no_access (Some access) is = absurd (o.no_access access (access_made (word text) access is))

key_starts : (key value line : List ℕ) → IsOtherLine (key ++ 61 ∷ value) line → Starts key
key_starts [] value line o = tt
key_starts (k ∷ ks) value line o =
    let same : k ≡ o.first = cc o.begins in
    ap (λ b. not (is_blank b)) same ∙ not_false (is_blank o.first) o.no_blank

setting_said : (key value line : List ℕ) → IsSettingLine key value line → said_by line ≡ cond (is_carried key (past_blanks value)) (Ok None) (Err Unsupported)
setting_said key value line s = other_said (key ++ 61 ∷ value) line s.other ∙ setting_read key value s.no_sign

pub carried : (key value line : List ℕ) → IsSettingLine key value line → IsCarriedSetting key value → said_by line ≡ Ok None
carried key value line s c = setting_said key value line s
    ∙ ap (λ t. cond t (Ok None) (Err Unsupported)) (carried_read key value (key_starts key value line s.other) c)

pub uncarried : (key value line : List ℕ) → IsSettingLine key value line → (IsCarriedSetting key value → ⊥) → said_by line ≡ Err Unsupported
uncarried key value line s none = setting_said key value line s ∙ at_test (is_carried key (past_blanks value)) refl
  where
    at_test : (t : Bool) → is_carried key (past_blanks value) ≡ t → ◌≡◌ {A = Result (Option (Extent (List ℕ))) Fault} (cond t (Ok None) (Err Unsupported)) (Err Unsupported)
    at_test true is = absurd (none (carried_made key value (key_starts key value line s.other) is))
    at_test false is = refl

pub neither : (text line : List ℕ) → IsOtherLine text line → HasNoSign text → said_by line ≡ Err DamagedDescriptor
neither text line o none = other_said text line o ∙ unsigned_read text none

pub silent : (line : List ℕ) → IsSilent line → said_by line ≡ Ok None
silent line (inl blanks) = ap said_from (all_off line blanks)
silent line (inr c) =
    ap said_from (ap past_blanks c.made ∙ blanks_off c.start (35 ∷ c.text) c.start_is refl)
    ∙ ap (λ t. cond (t || eqb 35 35) (Ok None) (said_with (access_of (word (35 ∷ c.text))) (35 ∷ c.text))) (some_byte 35 c.text)
