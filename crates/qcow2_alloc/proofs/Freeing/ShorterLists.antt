-- The free list while an entry gets shorter.
use Rattle.std.proofs.Common.{◌≡◌, ℕ, ◌+◌, ◌-◌, ◌<◌, ◌≤◌, refl, arith, ap, ◌∙◌, List, [], ◌∷◌, length, true, false, zero, suc, inl, inr}
use Rattle.std.specs.Prelude.{slice_set}
use Rattle.std.specs.List.{remove}
use Rattle.std.proofs.lemmas.Bool.{cases_Bool}
use Rattle.std.proofs.lemmas.List.Sums.{sum_by-cons}
use Rattle.qcow2_types.specs.Pending.{FreeEntry}
use Rattle.qcow2_alloc.specs.FreeList.{entry_at, shorter, tail_of, shortened, covers, listed}
use Rattle.qcow2_alloc.specs.GuestView.{metadata_in, one_at}
use Rattle.qcow2_alloc.proofs.Freeing.ClusterOccurrences.{listed-shortened, covers-parts, covers-one}
use Rattle.qcow2_alloc.proofs.GuestView.QuietCounters.{here-one}

listed-cons : (e : FreeEntry) (es : List FreeEntry) (c : ℕ) → listed (e ∷ es) c ≡ covers c e + listed es c
listed-cons e es c = sum_by-cons (covers c) e es

kept-or-not : (e e' : FreeEntry) (rest rest' : List FreeEntry) (c : ℕ) → e'.metadata ≡ e.metadata → covers c e' ≤ covers c e → listed (metadata_in rest') c ≤ listed (metadata_in rest) c → listed (metadata_in (e' ∷ rest')) c ≤ listed (metadata_in (e ∷ rest)) c
kept-or-not e e' rest rest' c kind less behind = elim (cases_Bool e.metadata) [
  | inl on ↦
      let on' : e'.metadata ≡ true = kind ∙ on in
      let own = listed-cons e (metadata_in rest) c in
      let own' = listed-cons e' (metadata_in rest') c in
      rw (on, on') (omega (arith, less, behind, own, own'))
  | inr off ↦ let off' : e'.metadata ≡ false = kind ∙ off in rw (off, off') behind
]

set-less : (es : List FreeEntry) (i c : ℕ) (e' : FreeEntry) → i < length es → e'.metadata ≡ (entry_at es i).metadata → covers c e' ≤ covers c (entry_at es i) → listed (metadata_in (slice_set es i e')) c ≤ listed (metadata_in es) c
set-less [] i c e' inside kind less = absurd (omega (arith, inside))
set-less (e ∷ es) zero c e' inside kind less = kept-or-not e e' es es c kind less (omega arith)
set-less (e ∷ es) (suc i) c e' inside kind less = kept-or-not e e es (slice_set es i e') c refl (omega arith) (set-less es i c e' (omega (arith, inside)) kind less)

metadata-has : (es : List FreeEntry) (i c : ℕ) → i < length es → (entry_at es i).metadata ≡ true → 0 < covers c (entry_at es i) → 0 < listed (metadata_in es) c
metadata-has [] i c inside kind some = absurd (omega (arith, inside))
metadata-has (e ∷ es) zero c inside kind some = let own = listed-cons e (metadata_in es) c in rw kind (omega (arith, own, some))
metadata-has (e ∷ es) (suc i) c inside kind some =
    let rest = metadata-has es i c (omega (arith, inside)) kind some in
    elim (cases_Bool e.metadata) [
      | inl on ↦ let own = listed-cons e (metadata_in es) c in rw on (omega (arith, own, rest))
      | inr off ↦ rw off rest
    ]

module _ (es : List FreeEntry) (i : ℕ) (inside : i < length es) (some : 0 < (entry_at es i).count) where
  -- The last cluster of the entry.
  abbrev pub last : ℕ
  last = (entry_at es i).first + ((entry_at es i).count - 1)

  pub last-off : (d : ℕ) → listed (shortened es i 1) d + one_at last d ≡ listed es d
  last-off d = let one = covers-one d (tail_of (entry_at es i) 1) refl in let all = listed-shortened es i 1 d inside some in omega (arith, one, all)

  pub metadata-less : (d : ℕ) → listed (metadata_in (shortened es i 1)) d ≤ listed (metadata_in es) d
  metadata-less d = let parts = covers-parts (entry_at es i) 1 d some in set-less es i d (shorter (entry_at es i) 1) inside refl (omega (arith, parts))

  pub metadata-last : (entry_at es i).metadata ≡ true → 0 < listed (metadata_in es) last
  metadata-last kind =
      let parts = covers-parts (entry_at es i) 1 last some in
      let one = covers-one last (tail_of (entry_at es i) 1) refl in
      let here : one_at last last ≡ 1 = here-one last in
      metadata-has es i last inside kind (omega (arith, parts, one, here))

pub entry-shortened : (es : List FreeEntry) (i n : ℕ) → i < length es → entry_at (shortened es i n) i ≡ shorter (entry_at es i) n
entry-shortened [] i n inside = absurd (omega (arith, inside))
entry-shortened (e ∷ es) zero n inside = refl
entry-shortened (e ∷ es) (suc i) n inside = entry-shortened es i n (omega (arith, inside))

pub shortened-none : (es : List FreeEntry) (i : ℕ) → i < length es → es ≡ shortened es i 0
shortened-none [] i inside = refl
shortened-none (e ∷ es) zero inside = let same : e.count ≡ e.count - 0 = omega arith in ap (λ k. record { first = e.first; count = k; metadata = e.metadata } ∷ es) same
shortened-none (e ∷ es) (suc i) inside = ap (λ l. e ∷ l) (shortened-none es i (omega (arith, inside)))

pub shortened-more : (es : List FreeEntry) (i n : ℕ) → shortened (shortened es i n) i 1 ≡ shortened es i (n + 1)
shortened-more [] i n = refl
shortened-more (e ∷ es) zero n = let less : e.count - n - 1 ≡ e.count - (n + 1) = omega arith in ap (λ k. record { first = e.first; count = k; metadata = e.metadata } ∷ es) less
shortened-more (e ∷ es) (suc i) n = ap (λ l. e ∷ l) (shortened-more es i n)

pub removed-shortened : (es : List FreeEntry) (i n : ℕ) → i < length es → remove (shortened es i n) i ≡ remove es i
removed-shortened [] i n inside = refl
removed-shortened (e ∷ es) zero n inside = refl
removed-shortened (e ∷ es) (suc i) n inside = ap (λ l. e ∷ l) (removed-shortened es i n (omega (arith, inside)))
