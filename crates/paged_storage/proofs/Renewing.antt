-- Pages in memory that follow the requests to a file.
use Rattle.std.proofs.Common.{◌≡◌, inl, inr, ℕ, ◌+◌, ◌-◌, ◌*◌, ◌<◌, true, List, length, nat_eq, arith, sym, ◌∙◌, ap, subst}
use Rattle.std.specs.Prelude.{slice_get, slice_index, Contains, Some, Vec, Result, Ok, Err, OnOk, OnErr}
use Rattle.std.specs.Global.{Global}
use Rattle.std.specs.Result.{is_ok, is_err}
use Rattle.std.specs.Vec.{with_items}
use Rattle.std.proofs.lemmas.Bool.{cases_lt, eqb-true, false≢true}
use Rattle.std.proofs.lemmas.List.{get_or_past, with_items_is}
use Rattle.std.proofs.lemmas.Option.{get_or_from_slice_get, slice_get_within}
use Rattle.imago_storage.specs.Calls.{Reads}
use Rattle.lru.specs.LruCache.{LruCache, last_entry, put_entries}
use Rattle.lru.proofs.CallerLemmas.{Contains-put_entries}
use Rattle.paged_storage.specs.Pages.{IsWhole, Pages}

-- A call that returned `Ok`, or an error.
pub at_ok : {T E P : Type 0} (r : Result T E) → is_ok r ≡ true → OnOk r P → P
at_ok (Ok x) is holds = holds
at_ok (Err e) is holds = absurd (false≢true is)

pub at_err : {T E P : Type 0} (r : Result T E) → is_err r ≡ true → OnErr r P → P
at_err (Ok x) is holds = absurd (false≢true is)
at_err (Err e) is holds = holds

-- The last page is one of the pages.
pub last_contained : (pages : Pages) (e : ℕ × Vec ℕ Global) → Some e ≡ last_entry pages → Contains pages e
last_contained pages e is =
    let at : slice_get pages (length pages - 1) ≡ Some e = sym is in
    (length pages - 1, slice_get_within pages (length pages - 1) e at, get_or_from_slice_get pages (length pages - 1) e e at)

-- A property of each page and of the one that is put is one of each page afterwards.
module _ (P : ℕ → Vec ℕ Global → Type 0) (kept : LruCache ℕ (Vec ℕ Global)) (number : ℕ) (page : Vec ℕ Global) where
  pub after_put : ((n : ℕ) (p : Vec ℕ Global) → Contains kept.entries (n, p) → P n p) → P number page
      → (n : ℕ) (p : Vec ℕ Global) → Contains (put_entries nat_eq kept number page) (n, p) → P n p
  after_put before here n p among = elim (Contains-put_entries nat_eq kept number page (n, p) among) [
    | inl was ↦ before n p was
    | inr put ↦
        let same : n ≡ number = elim put.1 [ inl is ↦ is | inr old ↦ sym (eqb-true number n old.2) ] in
        subst (λ (m : ℕ). P m p) (sym same) (subst (P number) (sym put.0) here)
  ]

-- The page after the requests, where `buf` is what they made of its bytes.
module _ (page : Vec ℕ Global) (whole : IsWhole page) (buf : List ℕ) (long : length buf ≡ length page.items) where
  items_are : (with_items page buf).items ≡ buf
  items_are = with_items_is page buf (long ∙ sym page.ok.0)

  -- `bytes` are those of the page.
  pub renewed_whole : (bytes : List ℕ) → bytes ≡ (with_items page buf).items → ((k : ℕ) → k < length bytes → slice_index bytes k < 256) → IsWhole (with_items page buf)
  renewed_whole bytes same small = record {
    size = ap (λ (l : List ℕ). length l) items_are ∙ long ∙ whole.size;
    bytes = λ k. subst (λ (l : List ℕ). slice_index l k < 256) same (elim (cases_lt k (length bytes)) [
      | inl lt ↦ small k lt
      | inr past ↦ omega (arith, get_or_past bytes k 0 past)
    ]);
  }

  pub renewed_of : (held held' : List ℕ) (number : ℕ) → (Reads held (number * 65536) page.items → Reads held' (number * 65536) buf)
      → ((i : ℕ) → i < 65536 → slice_index page.items i ≡ slice_index held (number * 65536 + i))
      → (i : ℕ) → i < 65536 → slice_index (with_items page buf).items i ≡ slice_index held' (number * 65536 + i)
  renewed_of held held' number follows was i lt =
      ap (λ (l : List ℕ). slice_index l i) items_are
      ∙ follows (λ k in_page. was k (omega (arith, in_page, whole.size))) i (omega (arith, lt, long, whole.size))
