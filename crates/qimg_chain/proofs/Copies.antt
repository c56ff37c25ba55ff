-- Copies of files with their names.
use Rattle.std.proofs.Common.{◌≡◌, ◌≤◌, ◌∙◌, ◌∷◌, ◌++◌, ◌+◌, [], ℕ, zero, suc, List, ap, arith, length, map, refl, sym, take}
use Rattle.std.specs.declared.string.String.{String}
use Rattle.std.specs.declared.alloc.Global.{Global}
use Rattle.std.proofs.lemmas.List.{map-append, take_all}
use Rattle.imago_storage.specs.State.{StorageState}
use Rattle.imago_access.specs.Files.{IsStorageAt}
use Rattle.imago_access.specs.declared.format.Format.{Format}
use Rattle.qimg_chain.specs.FileMeanings.{FileBytes, extra_bytes, with_names}

pub named_more : (names : ℕ → List ℕ) (k : ℕ) (ss : List StorageState) (i : ℕ) (s : StorageState) → IsStorageAt ss i s
    → take (i + 1) (with_names names k ss) ≡ take i (with_names names k ss) ++ ((names (k + i), s.bytes) ∷ [])
named_more names k [] i s is = absurd is
named_more names k (t ∷ ts) zero s is =
    let same : k ≡ k + 0 = omega arith in
    ap (λ (u : StorageState). (names k, u.bytes) ∷ []) (sym is) ∙ ap (λ j. (names j, s.bytes) ∷ []) same
named_more names k (t ∷ ts) (suc i) s is =
    let more : suc i + 1 ≡ suc (i + 1) = omega arith in
    let same : suc k + i ≡ k + suc i = omega arith in
    ap (λ n. take n (with_names names k (t ∷ ts))) more ∙ ap (λ files. (names k, t.bytes) ∷ files) (named_more names (suc k) ts i s is)
    ∙ ap (λ j. (names k, t.bytes) ∷ (take i (with_names names (suc k) ts) ++ ((names j, s.bytes) ∷ []))) same

-- A copy is appended to the list.
pub pushed : {S : Type 0} (state : S → StorageState) (items : List (String Global × S)) (x : String Global × S) (names : ℕ → List ℕ) (ss : List StorageState) (i : ℕ) (s : StorageState)
    → map (extra_bytes state) items ≡ take i (with_names names 0 ss) → IsStorageAt ss i s → extra_bytes state x ≡ (names i, s.bytes)
    → map (extra_bytes state) (items ++ (x ∷ [])) ≡ take (i + 1) (with_names names 0 ss)
pushed state items x names ss i s so_far there is =
    let same : i ≡ 0 + i = omega arith in
    map-append (extra_bytes state) items (x ∷ []) ∙ (λ j. so_far j ++ (is j ∷ [])) ∙ ap (λ k. take i (with_names names 0 ss) ++ ((names k, s.bytes) ∷ [])) same
    ∙ sym (named_more names 0 ss i s there)

as_many : (names : ℕ → List ℕ) (k : ℕ) (ss : List StorageState) → length (with_names names k ss) ≡ length ss
as_many names k [] = refl
as_many names k (s ∷ ss) = omega (arith, as_many names (suc k) ss)

pub all_named : (names : ℕ → List ℕ) (ss : List StorageState) (i : ℕ) → length ss ≤ i → take i (with_names names 0 ss) ≡ with_names names 0 ss
all_named names ss i past = take_all i (with_names names 0 ss) (omega (arith, past, as_many names 0 ss))

pub same_file : (format format' : Format) (bytes bytes' : List ℕ) (extras extras' : List (List ℕ × List ℕ)) → format ≡ format' → bytes ≡ bytes' → extras ≡ extras'
    → ◌≡◌ {A = FileBytes} (record { format = format; bytes = bytes; extras = extras }) (record { format = format'; bytes = bytes'; extras = extras' })
same_file format format' bytes bytes' extras extras' formats all files = λ i. record { format = formats i; bytes = all i; extras = files i }
