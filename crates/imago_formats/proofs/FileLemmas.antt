-- The text of a file, from the bytes at its start.
use Rattle.std.proofs.Common.{suc, ◌≡◌, ◌≢◌, ◌⊎◌, inl, inr, ℕ, ◌+◌, ◌-◌, ◌<◌, ◌≤◌, ◌^◌, ◌&&◌, Bool, true, false, not, cond, List, [], ◌∷◌, length, take, get_or, Result, Ok, Err, refl, sym, ap, subst, IfErr, zero-add, min, ◌∙◌, arith, rules}
use Rattle.std.specs.List.{position_or_len}
use Rattle.std.specs.Str.{bytes_eq}
use Rattle.std.specs.Str.Lines.{lines, strip_carriage_return}
use Rattle.std.proofs.lemmas.Grind.{common_steps}
use Rattle.std.proofs.lemmas.List.{get_or-take, take-take, length-take, length-take-le}
use Rattle.std.proofs.lemmas.List.Sums.{take_while-cons, position_or_len_is, fails_before_first, passes_at_first, prefix_len-le-length}
use Rattle.std.proofs.lemmas.Slice.Eq.{bytes_eq-Decides}
use Rattle.imago_storage.specs.Calls.{Cause, UnchangedButFaults, Reads}
use Rattle.imago_storage.specs.State.{StorageState}
use Rattle.imago_storage.specs.declared.fault.Fault.{Fault}
use Rattle.imago_formats.specs.DescriptorView.{NotRead}
use Rattle.imago_formats.specs.declared.vmdk.descriptor.Extent.{Extent}
use Rattle.imago_storage.specs.declared.fault.Fault.TheVariants.{DamagedDescriptor, Memory}
use Rattle.imago_formats.specs.Descriptor.{text_of, read_from, descriptor_of, is_descriptor, is_signed, signature}
use Rattle.imago_formats.proofs.LineLemmas.{line_here, first_to_end}
use Rattle.std.proofs.lemmas.Bool.{lt-leb, cases_lt}
use Rattle.std.specs.Str.{is_utf8}
use lib.Dec.{eqb}

text_cons : (b : ℕ) (bs : List ℕ) → text_of (b ∷ bs) ≡ cond (not (eqb b 0)) (b ∷ text_of bs) []
text_cons b bs = take_while-cons (λ x. not (eqb x 0)) b bs

take_none : (n : ℕ) → take {A = ℕ} n [] ≡ []
take_none n = grind (arith, common_steps)

-- The text of a prefix of the file is a prefix of the file's text.
pub front_of_text : (bytes buf : List ℕ) → ((k : ℕ) → k < length buf → get_or buf k 0 ≡ get_or bytes k 0) → text_of buf ≡ take (length buf) (text_of bytes)
front_of_text bytes [] r = refl
front_of_text [] (b ∷ bs) r =
    let z : b ≡ 0 = r 0 (omega arith) in
    text_cons b bs ∙ rw z (sym (take_none (length (b ∷ bs))))
front_of_text (c ∷ cs) (b ∷ bs) r =
    let same : b ≡ c = r 0 (omega arith) in
    let later : text_of bs ≡ take (length bs) (text_of cs) = front_of_text cs bs (λ k h. r (suc k) (omega arith)) in
    text_cons b bs ∙ rw same (at_byte (eqb c 0) refl later) ∙ ap (take (length (b ∷ bs))) (sym (text_cons c cs))
  where
    at_byte : (t : Bool) → eqb c 0 ≡ t → text_of bs ≡ take (length bs) (text_of cs) →
        cond (not (eqb c 0)) (c ∷ text_of bs) [] ≡ take (length (b ∷ bs)) (cond (not (eqb c 0)) (c ∷ text_of cs) [])
    at_byte true e later = rw e (sym (take_none (length (b ∷ bs))))
    at_byte false e later = rw e (ap (λ xs. c ∷ xs) later)

one_not : (a b c : Bool) → b ≡ false → (a && (b && c)) ≡ false
one_not true b c e = rw e refl
one_not false b c e = refl

-- A text that is too long is no descriptor.
too_long : (text : List ℕ) → 2 ^ 20 < length text → read_from text ≡ Err DamagedDescriptor
too_long text h = let bad : is_descriptor text ≡ false = one_not (is_utf8 text) _ _ (lt-leb _ _ h) in rw bad refl

-- The first 2^20 + 1 bytes of a file decide its meaning as a descriptor.
pub front_of_descriptor : (bytes buf : List ℕ) → Reads bytes 0 buf → (length bytes ≤ length buf) ⊎ (2 ^ 20 < length buf) → descriptor_of buf ≡ descriptor_of bytes
front_of_descriptor bytes buf r enough =
    let front : text_of buf ≡ take (length buf) (text_of bytes) = front_of_text bytes buf (λ k h. r k h ∙ ap (λ i. get_or bytes i 0) (zero-add k)) in
    let no_longer : length (text_of bytes) ≤ length bytes = search (rules, length-take) in
    ap read_from front ∙ by_length (length buf) (text_of bytes) (elim enough [ inl h ↦ inl (omega arith) | inr h ↦ inr h ])
  where
    by_length : (n : ℕ) (text : List ℕ) → (length text ≤ n) ⊎ (2 ^ 20 < n) → read_from (take n text) ≡ read_from text
    by_length n text enough = elim (cases_lt n (length text)) [
      | inr h ↦ let whole : take n text ≡ text = grind (arith, common_steps) in ap read_from whole
      | inl h ↦ let long : 2 ^ 20 < n = elim enough [ inl k ↦ absurd (omega arith) | inr k ↦ k ] in
          too_long (take n text) (rw (length-take-le n text (omega arith)) long) ∙ sym (too_long text (omega arith))
    ]

not_signature : (line : List ℕ) → length line ≢ 21 → bytes_eq line signature ≡ false
not_signature line h = decided (bytes_eq line signature) refl
  where
    decided : (t : Bool) → bytes_eq line signature ≡ t → bytes_eq line signature ≡ false
    decided false e = e
    decided true e = let same : line ≡ signature = (bytes_eq-Decides line signature).0 e in absurd (h (ap length same))

-- The end of a text's first line.
abbrev newline_at : List ℕ → ℕ
newline_at text = position_or_len (λ b. eqb b 10) text

-- The first line of a text.
abbrev first_of : List ℕ → List ℕ
first_of text = get_or (lines text) 0 []

newline_in_front : (text : List ℕ) (n : ℕ) → n ≤ length text → newline_at (take n text) ≡ min n (newline_at text)
newline_in_front text n h =
    let is_end : ℕ → Bool = λ b. eqb b 10 in
    let size : length (take n text) ≡ n = length-take-le n text h in
    let within : newline_at text ≤ length text = prefix_len-le-length _ text in
    position_or_len_is is_end (take n text) (min n (newline_at text)) 0 (omega arith)
    (λ k below. ap is_end (get_or-take n text k 0 (omega arith)) ∙ fails_before_first is_end text k 0 (omega arith))
    (λ inside. let found : newline_at text < n = omega arith in let here : min n (newline_at text) ≡ newline_at text = omega arith in
    ap (λ k. is_end (get_or (take n text) k 0)) here ∙ ap is_end (get_or-take n text (newline_at text) 0 found)
    ∙ passes_at_first is_end text 0 (omega arith))

first_before : (text : List ℕ) → newline_at text < length text → first_of text ≡ strip_carriage_return (take (newline_at text) text)
first_before text h = ap (λ xs. get_or xs 0 []) (line_here text (newline_at text) refl h)

first_whole : (text : List ℕ) → newline_at text ≡ length text → first_of text ≡ text
first_whole text e = sym (first_to_end text (newline_at text) refl e) ∙ (let whole : take (newline_at text) text ≡ text = grind (arith, common_steps) in whole)

strip_length : (line : List ℕ) → length line ≤ length (strip_carriage_return line) + 1
strip_length line = by_test (eqb (get_or line (length line - 1) 0) 13)
  where
    by_test : (t : Bool) → length line ≤ length (cond t (take (length line - 1) line) line) + 1
    by_test true = rw (length-take-le (length line - 1) line (omega arith)) (omega arith)
    by_test false = omega arith

long_line : (text : List ℕ) → 23 ≤ newline_at text → is_signed text ≡ false
long_line text h =
    let within : newline_at text ≤ length text = prefix_len-le-length _ text in
    elim (cases_lt (newline_at text) (length text)) [
      | inl inside ↦
          let size : length (take (newline_at text) text) ≡ newline_at text = length-take-le (newline_at text) text within in
          let shown : length (first_of text) ≡ length (strip_carriage_return (take (newline_at text) text)) = ap length (first_before text inside) in
          not_signature (first_of text) (omega (arith, strip_length (take (newline_at text) text)))
      | inr past ↦
          let shown : length (first_of text) ≡ length text = ap length (first_whole text (omega arith)) in
          not_signature (first_of text) (omega arith)
    ]

-- The first 23 bytes of a text decide if it begins with the first line of a descriptor.
signed_by_front : (text : List ℕ) → is_signed (take 23 text) ≡ is_signed text
signed_by_front text =
    elim (cases_lt (length text) 23) [
      | inl short ↦ let whole : take 23 text ≡ text = grind (arith, common_steps) in ap is_signed whole
      | inr long ↦
          let size : length (take 23 text) ≡ 23 = length-take-le 23 text long in
          let ends : newline_at (take 23 text) ≡ min 23 (newline_at text) = newline_in_front text 23 long in
          elim (cases_lt (newline_at text) 23) [
            | inl inside ↦
                let same : newline_at (take 23 text) ≡ newline_at text = omega arith in
                let line : take (newline_at (take 23 text)) (take 23 text) ≡ take (newline_at text) text =
                ap (λ n. take n (take 23 text)) same ∙ take-take (newline_at text) 23 text (omega arith) in
                let first : first_of (take 23 text) ≡ first_of text =
                first_before (take 23 text) (omega arith) ∙ ap strip_carriage_return line ∙ sym (first_before text (omega arith)) in
                ap (λ l. bytes_eq l signature) first
            | inr past ↦ long_line (take 23 text) (omega arith) ∙ sym (long_line text past)
          ]
    ]

pub front_is_signed : (bytes buf : List ℕ) → Reads bytes 0 buf → length buf ≡ 23 → is_signed (text_of buf) ≡ is_signed (text_of bytes)
front_is_signed bytes buf r h =
    let front : text_of buf ≡ take (length buf) (text_of bytes) = front_of_text bytes buf (λ k h. r k h ∙ ap (λ i. get_or bytes i 0) (zero-add k)) in
    ap is_signed (front ∙ ap (λ n. take n (text_of bytes)) h) ∙ signed_by_front (text_of bytes)

-- The error of a descriptor, if the storage hasn't failed.
pub not_read : {T : Type 0} (r : Result T Fault) (said : Result (List (Extent (List ℕ))) Fault) (old new : StorageState) → new.faults ≡ old.faults →
    IfErr r (λ e. (e ≡ Memory) ⊎ (said ≡ Err e)) → IfErr r (NotRead said old new)
not_read (Ok x) said old new same why = tt
not_read (Err e) said old new same why = elim why [
  | inl memory ↦ inl (subst (λ (f : Fault). Cause old.faults new.faults f) (sym memory) same)
  | inr told ↦ inr (told, same)
]

-- A storage with an equal fault count and no other change is equal.
pub same_state : (s s' : StorageState) → UnchangedButFaults s s' → s'.faults ≡ s.faults → s' ≡ s
same_state s s' kept faults = λ i. record {
  shape = kept.shape i;
  bytes = kept.bytes i;
  faults = faults i;
  refusals = kept.refusals i;
  crash_image = kept.crash_image i;
  past_crash_images = kept.past_crash_images i;
}
