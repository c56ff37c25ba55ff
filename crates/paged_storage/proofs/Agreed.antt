-- Pages that have the bytes of a file: what is shown is what the file holds.
use Rattle.std.proofs.Common.{◌≡◌, refl, sym, ◌∙◌, ap, subst, inl, inr, ℕ, ◌+◌, ◌-◌, ◌*◌, ◌/◌, ◌%◌, ◌<◌, ◌≤◌, List, ◌++◌, length, take, drop, replicate, get_or, arith, length-append, length-drop, Option, Some, None, nat_eq}
use Rattle.imago_storage.specs.Calls.{Reads}
use Rattle.std.specs.Prelude.{Err, Ok, OnErr, OnOk, Result, Vec}
use Rattle.std.specs.Global.{Global}
use Rattle.std.specs.Map.{lookup}
use Rattle.std.proofs.lemmas.Bool.{cases_lt, eqb-true}
use Rattle.std.proofs.lemmas.List.{ext_get_or, get_or_append_left, get_or-append_right, get_or_past, get_or-drop}
use Rattle.lru.proofs.CallerLemmas.{Contains-lookup, Contains-put_entries}
use Rattle.lru.specs.LruCache.{LruCache, lru_cache, put_entries}
use Rattle.imago_storage.specs.Log.{resized}
use Rattle.imago_storage.proofs.Replay.{length-resized, resized_at}
use Rattle.paged_storage.proofs.Shown.{first_values_at, length-shown}
use Rattle.paged_storage.specs.Pages.{Pages, byte_in, byte_at, shown, AreOf, AreWhole, IsAgreed, IsOf, IsWhole}

-- The byte of a page in memory, or of the file, is that of the file.
in_agreed : (pages : Pages) (held : List ℕ) (k : ℕ) (o : Option (Vec ℕ Global)) → AreOf held pages → lookup (nat_eq (k / 65536)) pages ≡ o
    → byte_in o held k ≡ get_or held k 0
in_agreed pages held k None of there = refl
in_agreed pages held k (Some page) of there =
    let found = Contains-lookup (nat_eq (k / 65536)) pages page there in
    let same : k / 65536 ≡ found.0 = eqb-true (k / 65536) found.0 found.2 in
    of found.0 page found.1 (k % 65536) (omega arith) ∙ ap (λ (i : ℕ). get_or held i 0) (omega (arith, same))

pub byte_agreed : (pages : Pages) (held : List ℕ) (k : ℕ) → AreOf held pages → byte_at pages held k ≡ get_or held k 0
byte_agreed pages held k of = in_agreed pages held k (lookup (nat_eq (k / 65536)) pages) of refl

pub shown_at : (size : ℕ) (pages : Pages) (held : List ℕ) (k : ℕ) → k < size → get_or (shown size pages held) k 0 ≡ byte_at pages held k
unfolding shown
shown_at size pages held k below = first_values_at (byte_at pages held) size k below

-- While they agree, what is shown is what the file holds.
pub shown_agreed : (size : ℕ) (pages : Pages) (held : List ℕ) → IsAgreed size pages held → shown size pages held ≡ held
shown_agreed size pages held agrees =
    ext_get_or 0 (shown size pages held) held (length-shown size pages held ∙ agrees.size_is)
    (λ k below. shown_at size pages held k (omega (arith, below, length-shown size pages held)) ∙ byte_agreed pages held k agrees.pages_are)

-- Other pages show the same, if they have the bytes of the file, too.
pub shown_same : (size : ℕ) (old new : Pages) (held held' : List ℕ) → held' ≡ held → IsAgreed size old held → AreOf held new
    → shown size new held' ≡ shown size old held
shown_same size old new held held' is agrees of =
    ap (λ (bytes : List ℕ). shown size new bytes) is ∙ shown_agreed size new held (record { size_is = agrees.size_is; pages_are = of })
    ∙ sym (shown_agreed size old held agrees)

-- A byte of a page in memory.
pub byte_of_page : (pages : Pages) (held : List ℕ) (n k : ℕ) (page : Vec ℕ Global) → lookup (nat_eq n) pages ≡ Some page
    → n * 65536 ≤ k → k < n * 65536 + 65536 → byte_at pages held k ≡ get_or page.items (k - n * 65536) 0
byte_of_page pages held n k page there from to =
    let same : k / 65536 ≡ n = omega arith in
    ap (λ (j : ℕ). byte_in (lookup (nat_eq j) pages) held k) same ∙ ap (λ (o : Option (Vec ℕ Global)). byte_in o held k) there
    ∙ ap (λ (i : ℕ). get_or page.items i 0) (let rest : k % 65536 ≡ k - n * 65536 = omega arith in rest)

pub whole_page : (pages : Pages) (n : ℕ) (page : Vec ℕ Global) → AreWhole pages → lookup (nat_eq n) pages ≡ Some page → IsWhole page
whole_page pages n page whole there = let found = Contains-lookup (nat_eq n) pages page there in whole found.0 page found.1

-- A page that is put among others. `eq` compares their numbers.
module _ (c : LruCache ℕ (Vec ℕ Global)) (number : ℕ) (page : Vec ℕ Global) where
  pub whole_put : AreWhole c.entries → IsWhole page → AreWhole (put_entries nat_eq c number page)
  whole_put whole good = λ k other there. elim (Contains-put_entries nat_eq c number page (k, other) there) [
    | inl was ↦ whole k other was
    | inr put ↦ subst IsWhole (sym put.0) good
  ]

  pub agreed_put : (held : List ℕ) → AreOf held c.entries → IsOf held number page → AreOf held (put_entries nat_eq c number page)
  agreed_put held of good = λ k other there. elim (Contains-put_entries nat_eq c number page (k, other) there) [
    | inl was ↦ of k other was
    | inr put ↦ subst (IsOf held k) (sym put.0) (elim put.1 [
      | inl same ↦ subst (λ (n : ℕ). IsOf held n page) (sym same) good
      | inr found ↦ subst (λ (n : ℕ). IsOf held n page) (eqb-true number k found.2) good
    ])
  ]

  -- `whole_put`, also if memory ran out.
  pub whole_admitted : {T E : Type 0} (r : Result T E) (new : LruCache ℕ (Vec ℕ Global)) → OnOk r (new ≡ lru_cache (put_entries nat_eq c number page) c.cap)
      → OnErr r (new ≡ c) → AreWhole c.entries → IsWhole page → AreWhole new.entries
  whole_admitted (Ok _) new is _ whole good = subst (λ (l : LruCache ℕ (Vec ℕ Global)). AreWhole l.entries) (sym is) (whole_put whole good)
  whole_admitted (Err _) new _ is whole good = subst (λ (l : LruCache ℕ (Vec ℕ Global)). AreWhole l.entries) (sym is) whole

-- A page that is extended with zeroes.
pub padded : (bytes new : List ℕ) (n m : ℕ) → m ≡ length bytes → new ≡ take n bytes ++ replicate (n - m) 0 → length bytes ≤ n
    → (k : ℕ) → get_or new k 0 ≡ get_or bytes k 0
unfolding resized
padded bytes new n m long is fits k = ap (λ (xs : List ℕ). get_or xs k 0) (is ∙ ap (λ (j : ℕ). take n bytes ++ replicate (n - j) 0) long) ∙ elim (cases_lt k n) [
  | inl below ↦ resized_at bytes n k below
  | inr past ↦ get_or_past (resized bytes n) k 0 (omega (arith, length-resized bytes n)) ∙ sym (get_or_past bytes k 0 (omega arith))
]

-- A buffer that is filled up to the end of the file, and is 0 past it.
pub joined : (file front zeroed : List ℕ) (offset there : ℕ) → Reads file offset front → length front ≡ there → there ≤ length zeroed
    → ((k : ℕ) → there ≤ k → k < length zeroed → get_or zeroed k 0 ≡ 0) → (there < length zeroed → length file ≤ offset + there)
    → Reads file offset (front ++ drop there zeroed)
joined file front zeroed offset there reads long fits blank ends k below = elim (cases_lt k there) [
  | inl before ↦ get_or_append_left front (drop there zeroed) 0 k (omega (arith, long, before)) ∙ reads k (omega (arith, long, before))
  | inr past ↦
      let inside : k < length zeroed = omega (arith, below, length-append front (drop there zeroed), length-drop there zeroed, fits, long) in
      get_or-append_right front (drop there zeroed) there k 0 long past
      ∙ get_or-drop there zeroed (k - there) 0
      ∙ ap (λ (i : ℕ). get_or zeroed i 0) (let same : there + (k - there) ≡ k = omega arith in same)
      ∙ blank k past inside ∙ sym (get_or_past file (offset + k) 0 (omega (arith, ends (omega arith), past)))
]
