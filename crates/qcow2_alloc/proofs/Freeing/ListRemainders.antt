-- The entries that are left when freeing stops, and the write order at that point.
use Rattle.std.proofs.Common.{◌≡◌, ℕ, ◌-◌, ◌<◌, refl, arith, ap, sym, subst, ◌∙◌, List, [], ◌∷◌, Bool, true, false, zero, suc, inl, inr, Result, Ok, Err}
use Rattle.std.specs.Prelude.{◌==◌, OnOk, length, not}
use Rattle.std.specs.List.{AllByRecursion, filter, remove}
use Rattle.std.proofs.lemmas.Bool.{cases_Bool}
use Rattle.imago_storage.specs.declared.fault.Fault.{Fault}
use Rattle.qcow2_types.specs.Pending.{FreeEntry}
use Rattle.qcow2_alloc.specs.declared.cache.CacheDependency.{CacheDependency}
use Rattle.qcow2_alloc.specs.declared.cache.CacheDependency.TheVariants.{RbDependsOnL2}
use Rattle.qcow2_alloc.specs.FreeList.{entry_at, shorter, shortened}
use Rattle.qcow2_alloc.specs.Freeing.{data_in, IsSublist, IsRest, IsRestInTurn, OrdersFreeing}
use Rattle.qcow2_alloc.specs.GuestView.{metadata_in}
use Rattle.qcow2_alloc.proofs.Freeing.FreesInTurn.{filter-takes, filter-drops}
use borrow.Author.Tests.{ne_eqb}

pub sublist-all : (es : List FreeEntry) → IsSublist es es
sublist-all [] = tt
sublist-all (e ∷ es) = inl (refl, sublist-all es)

sublist-more : (xs es : List FreeEntry) (e : FreeEntry) → IsSublist xs es → IsSublist xs (e ∷ es)
sublist-more [] es e some = tt
sublist-more (x ∷ xs) es e some = inr some

pub sublist-then : (xs ys zs : List FreeEntry) → IsSublist xs ys → IsSublist ys zs → IsSublist xs zs
sublist-then [] ys zs first second = tt
sublist-then (x ∷ xs) [] zs first second = absurd first
sublist-then (x ∷ xs) (y ∷ ys) [] first second = absurd second
sublist-then (x ∷ xs) (y ∷ ys) (z ∷ zs) first second = elim second [
  | inl both ↦ elim first [
    | inl own ↦ inl (own.0 ∙ both.0, sublist-then xs ys zs own.1 both.1)
    | inr rest ↦ inr (sublist-then (x ∷ xs) ys zs rest both.1)
  ]
  | inr rest ↦ inr (sublist-then (x ∷ xs) (y ∷ ys) zs first rest)
]

pub sublist-removed : (es : List FreeEntry) (i : ℕ) → IsSublist (remove es i) es
sublist-removed [] zero = tt
sublist-removed [] (suc i) = tt
sublist-removed (e ∷ es) zero = sublist-more es es e (sublist-all es)
sublist-removed (e ∷ es) (suc i) = inl (refl, sublist-removed es i)

sublist-filtered : (test : FreeEntry → Bool) (es : List FreeEntry) → IsSublist (filter test es) es
sublist-filtered test [] = tt
sublist-filtered test (e ∷ es) = elim (cases_Bool (test e)) [
  | inl on ↦ subst (λ l. IsSublist l (e ∷ es)) (sym (filter-takes test e es on)) (inl (refl, sublist-filtered test es))
  | inr off ↦ subst (λ l. IsSublist l (e ∷ es)) (sym (filter-drops test e es off)) (sublist-more (filter test es) es e (sublist-filtered test es))
]

-- An entry of guest data.
abbrev IsData : FreeEntry → Type 0
IsData e = e.metadata ≡ false

data-alone : (es : List FreeEntry) → AllByRecursion IsData (data_in es)
data-alone [] = tt
data-alone (e ∷ es) = elim (cases_Bool e.metadata) [
  | inl on ↦ subst (λ l. AllByRecursion IsData l) (sym (filter-drops (λ (x : FreeEntry). not x.metadata) e es (ap not on))) (data-alone es)
  | inr off ↦ subst (λ l. AllByRecursion IsData l) (sym (filter-takes (λ (x : FreeEntry). not x.metadata) e es (ap not off))) (off, data-alone es)
]

data-sublist : (xs es : List FreeEntry) → IsSublist xs es → AllByRecursion IsData es → AllByRecursion IsData xs
data-sublist [] es some all = tt
data-sublist (x ∷ xs) [] some all = absurd some
data-sublist (x ∷ xs) (e ∷ es) some all = elim some [
  | inl own ↦ (ap (λ (y : FreeEntry). y.metadata) own.0 ∙ all.0, data-sublist xs es own.1 all.1)
  | inr rest ↦ data-sublist (x ∷ xs) es rest all.1
]

data-of-shortened : (es : List FreeEntry) (i n : ℕ) → AllByRecursion IsData es → AllByRecursion IsData (shortened es i n)
data-of-shortened [] i n all = tt
data-of-shortened (e ∷ es) zero n all = all
data-of-shortened (e ∷ es) (suc i) n all = (all.0, data-of-shortened es i n all.1)

no-metadata : (es : List FreeEntry) → AllByRecursion IsData es → metadata_in es ≡ []
no-metadata [] all = refl
no-metadata (e ∷ es) all = filter-drops (λ (x : FreeEntry). x.metadata) e es all.0 ∙ no-metadata es all.1

pub data-not-shortened : (es : List FreeEntry) (i n : ℕ) → (entry_at es i).metadata ≡ true → data_in (shortened es i n) ≡ data_in es
data-not-shortened [] i n is = refl
data-not-shortened (e ∷ es) zero n is = filter-drops (λ (x : FreeEntry). not x.metadata) (shorter e n) es (ap not is) ∙ sym (filter-drops (λ (x : FreeEntry). not x.metadata) e es (ap not is))
data-not-shortened (e ∷ es) (suc i) n is =
    let rest = data-not-shortened es i n is in
    elim (cases_Bool (not e.metadata)) [
      | inl on ↦ filter-takes (λ (x : FreeEntry). not x.metadata) e (shortened es i n) on ∙ ap (λ l. e ∷ l) rest ∙ sym (filter-takes (λ (x : FreeEntry). not x.metadata) e es on)
      | inr off ↦ filter-drops (λ (x : FreeEntry). not x.metadata) e (shortened es i n) off ∙ rest ∙ sym (filter-drops (λ (x : FreeEntry). not x.metadata) e es off)
    ]

shortened-nowhere : (es : List FreeEntry) → es ≡ shortened es 0 0
shortened-nowhere [] = refl
shortened-nowhere (e ∷ es) = let same : e.count ≡ e.count - 0 = omega arith in ap (λ k. record { first = e.first; count = k; metadata = e.metadata } ∷ es) same

pub rest-whole : (old left : List FreeEntry) → IsSublist left old → IsRest old left
rest-whole old left some = record { kept_entries = left; kept_from_old = some; index = 0; done = 0; short = shortened-nowhere left; more = inl refl }

pub rest-shortened : (old kept left : List FreeEntry) (i n : ℕ) → IsSublist kept old → n < (entry_at kept i).count → left ≡ shortened kept i n → IsRest old left
rest-shortened old kept left i n some less is = record { kept_entries = kept; kept_from_old = some; index = i; done = n; short = is; more = inr less }

pub rest-without-metadata : (old left : List FreeEntry) → IsRest (data_in old) left → metadata_in left ≡ []
rest-without-metadata old left rest =
    subst (λ l. metadata_in l ≡ []) (sym rest.short) (no-metadata (shortened rest.kept_entries rest.index rest.done) (data-of-shortened rest.kept_entries rest.index rest.done (data-sublist rest.kept_entries (data_in old) rest.kept_from_old (data-alone old))))

pub rest-of-data : (old left : List FreeEntry) → IsRest (data_in old) left → IsRestInTurn old left
rest-of-data old left rest = record {
  remains = record {
    kept_entries = rest.kept_entries;
    kept_from_old = sublist-then rest.kept_entries (data_in old) old rest.kept_from_old (sublist-filtered (λ (x : FreeEntry). not x.metadata) old);
    index = rest.index;
    done = rest.done;
    short = rest.short;
    more = rest.more;
  };
  first = inl (rest-without-metadata old left rest);
}

pub rest-none : (old : List FreeEntry) → IsRestInTurn old []
rest-none old = record { remains = rest-whole old [] tt; first = inl refl }

pub rest-with-data : (old left : List FreeEntry) → IsRest old left → data_in left ≡ data_in old → IsRestInTurn old left
rest-with-data old left rest same = record { remains = rest; first = inr same }

pub rest-all : (old : List FreeEntry) → IsRestInTurn old old
rest-all old = rest-with-data old old (rest-whole old old (sublist-all old)) refl

-- Once no metadata is left, the order was set, if guest data of this file was on the list.
pub order-announced : (external : Bool) (pending left : List FreeEntry) (old : CacheDependency) (result : Result Unit Fault) (new : CacheDependency) → new ≡ RbDependsOnL2 → external ≡ false → (data_in pending ≡ [] → ⊥) → metadata_in left ≡ [] → OrdersFreeing external pending left old result new
order-announced external pending left old result new turned inside some gone = record {
  either = inr turned;
  order_unchanged = λ why. elim why [ inl outside ↦ absurd (let no = sym outside ∙ inside in cc no) | inr (inl none) ↦ absurd (some none) | inr (inr more) ↦ absurd (more gone) ];
  announced = λ inside some. on-ok result;
}
  where
    on-ok : (r : Result Unit Fault) → OnOk r (new ≡ RbDependsOnL2)
    on-ok (Ok done) = turned
    on-ok (Err fault) = tt

-- The write order stays if no guest data was on the list.
pub order-without-data : (external : Bool) (pending left : List FreeEntry) (old : CacheDependency) (result : Result Unit Fault)
    (new : CacheDependency) → new ≡ old
    → data_in pending ≡ [] → OrdersFreeing external pending left old result new
order-without-data external pending left old result new same none =
    record { either = inl same; order_unchanged = λ why. same; announced = λ inside some. absurd (some none) }

-- The write order stays if guest data is in an external file.
pub order-external : (external : Bool) (pending left : List FreeEntry) (old : CacheDependency) (result : Result Unit Fault)
    (new : CacheDependency) → new ≡ old
    → external ≡ true → OrdersFreeing external pending left old result new
order-external external pending left old result new same outside =
    record { either = inl same; order_unchanged = λ why. same; announced = λ inside some. absurd (let no = sym outside ∙ inside in cc no) }

-- The write order stays if the call fails before the order is set.
pub order-failed : (external : Bool) (pending left : List FreeEntry) (old : CacheDependency) (fault : Fault)
    (new : CacheDependency) → new ≡ old
    → OrdersFreeing external pending left old (Err fault) new
order-failed external pending left old fault new same =
    record { either = inl same; order_unchanged = λ why. same; announced = λ inside some. tt }

-- A list is empty if the test of its length says so.
pub none-listed : (es : List FreeEntry) (empty : Bool) → empty ≡ (length es == 0) → empty ≡ true → es ≡ []
none-listed [] empty is told = refl
none-listed (e ∷ es) empty is told = let other : (length (e ∷ es) == 0) ≡ false = ne_eqb _ _ (omega arith) in absurd (cc (is, other, told))
