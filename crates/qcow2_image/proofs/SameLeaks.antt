-- Lemmas that files with the same excess refcounts leak the same clusters, also with different headers.
use Rattle.std.proofs.Common.{◌≡◌, ℕ, zero, suc, ◌+◌, ◌-◌, ◌*◌, ◌<◌, ◌≤◌, add-suc, arith, refl, ap, sym, ◌∙◌, inl, inr, [], ◌∷◌, ◌++◌, List, true, false}
use Rattle.std.specs.Prelude.{Bool, Ok, if◌then◌else◌}
use Rattle.std.proofs.lemmas.Bool.{cases_lt, lt-ltb, le-ltb}
use Rattle.std.proofs.lemmas.List.{append-nil}
use Rattle.imago_storage.specs.declared.storage.Storage.{Ghosts}
use Rattle.qcow2_types.specs.Bytes.{Bytes, bytes_of}
use Rattle.qcow2_types.specs.Consistency.{IsConsistent, leak_at, leaks, leaks_below}
use Rattle.qcow2_types.specs.Counts.{count, counters_of_block}
use Rattle.qcow2_types.specs.Header.{Fields, Header, header_of, refcount_table_entries}
use Rattle.qcow2_types.specs.References.{refs}
use Rattle.qcow2_types.proofs.Counting.Consistent.{consistent-shaped, header-reading}
use Rattle.qcow2_types.proofs.Counting.Counters.{some-counters}
use Rattle.qcow2_types.proofs.Counting.Leaks.{count-beyond, no-leak}
use Rattle.qcow2_image.specs.ImageLayer.{qcow2_leaks, excess_refcount_in}
use Rattle.qcow2_image.specs.Leaking.{KeepsLeaks, leaks_of, pending}
use Rattle.qcow2_image.specs.Rooms.{IsWellFormed}
use Rattle.qcow2_image.specs.Seen.{file_of}
use Rattle.qcow2_image.specs.declared.qcow2.Qcow2.{Qcow2}
use Rattle.qcow2_image.proofs.LeaksWithNothingPending.{leaks-alike}

skipped : (f : Bytes) (h : Fields) (n k : ℕ) → ((c : ℕ) → n ≤ c → leak_at f h c ≡ []) → leaks_below f h (n + k) ≡ leaks_below f h n
unfolding leaks_below
skipped f h n zero none = let same : n + 0 ≡ n = omega arith in ap (leaks_below f h) same
skipped f h n (suc k) none =
    let more : n + suc k ≡ suc (n + k) = add-suc n k in
    let here : leak_at f h (n + k) ≡ [] = none (n + k) (omega arith) in
    ap (leaks_below f h) more ∙ (ap (λ r. leaks_below f h (n + k) ++ r) here ∙ (append-nil (leaks_below f h (n + k)) ∙ skipped f h n k none))

module _ (f g : Bytes) (h h' : Fields) (same : (c : ℕ) → count g h' c - refs g h' c ≡ count f h c - refs f h c) where
  leak-same : (c : ℕ) → leak_at g h' c ≡ leak_at f h c
  leak-same c =
      let is : count g h' c - refs g h' c ≡ count f h c - refs f h c = same c in
      elim (cases_lt (refs f h c) (count f h c)) [
        | inl more ↦
            let less : refs g h' c < count g h' c = omega arith in
            ap (λ (b : Bool). if b then (c, count g h' c - refs g h' c) ∷ [] else []) (lt-ltb _ _ less)
            ∙ (ap (λ (n : ℕ). (c, n) ∷ []) is ∙ sym (ap (λ (b : Bool). if b then (c, count f h c - refs f h c) ∷ [] else []) (lt-ltb _ _ more)))
        | inr few ↦
            let none : count g h' c ≤ refs g h' c = omega arith in
            ap (λ (b : Bool). if b then (c, count g h' c - refs g h' c) ∷ [] else []) (le-ltb _ _ none)
            ∙ sym (ap (λ (b : Bool). if b then (c, count f h c - refs f h c) ∷ [] else []) (le-ltb _ _ few))
      ]

  below-same : (n : ℕ) → leaks_below g h' n ≡ leaks_below f h n
  unfolding leaks_below
  below-same zero = refl
  below-same (suc n) = ap (λ r. r ++ leak_at g h' n) (below-same n) ∙ ap (λ r. leaks_below f h n ++ r) (leak-same n)

  abbrev reach : ℕ
  reach = refcount_table_entries h * counters_of_block h

  abbrev reach' : ℕ
  reach' = refcount_table_entries h' * counters_of_block h'

  pub same-leaks : 0 < counters_of_block h → 0 < counters_of_block h' → leaks g h' ≡ leaks f h
  same-leaks some some' = elim (cases_lt reach' reach) [
    | inl less ↦
        let all : reach' + (reach - reach') ≡ reach = omega (arith, less) in
        below-same reach'
        ∙ (sym (skipped f h reach' (reach - reach') (λ c low. sym (leak-same c) ∙ no-leak g h' c (count-beyond g h' c some' low)))
        ∙ ap (leaks_below f h) all)
    | inr le ↦
        let all : reach' ≡ reach + (reach' - reach) = omega (arith, le) in
        ap (leaks_below g h') all
        ∙ (skipped g h' reach (reach' - reach) (λ c low. leak-same c ∙ no-leak f h c (count-beyond f h c some low)) ∙ below-same reach)
  ]

-- Calls that keep the leaks of an image list the same leaks, if nothing is pending.
pub leaks-listed : {S : Type 0} (g : Ghosts S) (old new : Qcow2 S g) → IsWellFormed g old → IsWellFormed g new → KeepsLeaks g old new
    → ((c : ℕ) → pending g old c ≡ 0) → ((c : ℕ) → pending g new c ≡ 0) → leaks_of g new ≡ leaks_of g old
leaks-listed g old new well_formed safe' keeps none none' =
    same-leaks (file_of g old.tables) (file_of g new.tables) old.tables.file.header.fields new.tables.file.header.fields
    (λ c. let all = leaks-alike g old new keeps none none' c in omega (arith, all))
    (some-counters old.tables.file.header.fields (consistent-shaped (file_of g old.tables) old.tables.file.header well_formed.consistent))
    (some-counters new.tables.file.header.fields (consistent-shaped (file_of g new.tables) new.tables.file.header safe'.consistent))

-- Consistent files with the same excess refcounts list the same leaks.
pub files-alike : (one other : List ℕ) (H K : Header) → IsConsistent (bytes_of one) H → IsConsistent (bytes_of other) K
    → ((c : ℕ) → qcow2_leaks other c ≡ qcow2_leaks one c) → leaks (bytes_of other) K.fields ≡ leaks (bytes_of one) H.fields
files-alike one other H K was is same =
    let by = λ (bytes : List ℕ) (L : Header) (loads : header_of true (bytes_of bytes) ≡ Ok L) (c : ℕ).
    ap (λ r. excess_refcount_in (bytes_of bytes) r c) (header-reading (bytes_of bytes) L loads) in
    same-leaks (bytes_of one) (bytes_of other) H.fields K.fields
    (λ c. sym (by other K is.readable.loads c) ∙ (same c ∙ by one H was.readable.loads c))
    (some-counters H.fields (consistent-shaped (bytes_of one) H was)) (some-counters K.fields (consistent-shaped (bytes_of other) K is))
