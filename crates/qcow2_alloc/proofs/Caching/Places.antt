-- Lookups of entries by their cluster numbers.
use Rattle.std.proofs.Common.{◌≡◌, ℕ, refl, ap, sym, ◌∙◌, List, [], ◌∷◌, ◌++◌, true, false, Option, Some, None, inl, inr}
use Rattle.std.specs.Prelude.{nat_eq}
use Rattle.std.specs.List.{AllByRecursion}
use Rattle.std.specs.Option.{option_map}
use Rattle.std.specs.Map.{keys_of, lookup, lookup_entry, remove_entry, set_value}
use Rattle.std.proofs.lemmas.Bool.{cases_Bool, eqb-true}
use Rattle.qcow2_alloc.specs.declared.async_lru_cache.Slot.{Slot}
use Rattle.qcow2_alloc.specs.Cache.{hit}

-- The position of the entry with this key.
pub record Place {X : Type 0} (key : ℕ) (es : List (ℕ × X)) (x : X) : Type 0 where
  pub front : List (ℕ × X)
  pub back : List (ℕ × X)
  pub is : es ≡ front ++ (key, x) ∷ back
  pub set : (w : X) → set_value (nat_eq key) es w ≡ front ++ (key, w) ∷ back
  pub removed : remove_entry (nat_eq key) es ≡ front ++ back
  pub entry : lookup_entry (nat_eq key) es ≡ Some (key, x)

place-here : {X : Type 0} (key : ℕ) (e : ℕ × X) (es : List (ℕ × X)) (x : X) → nat_eq key e.0 ≡ true → Some e.1 ≡ Some x → Place key (e ∷ es) x
place-here key e es x t same =
    let own : key ≡ e.0 = eqb-true key e.0 t in
    let value : e.1 ≡ x = cc same in
    let pair : e ≡ (key, x) = ap (λ n. (n, e.1)) (sym own) ∙ ap (λ y. (key, y)) value in
    record {
      front = [];
      back = es;
      is = ap (λ y. y ∷ es) pair;
      set = λ w. rw t (ap (λ n. (n, w) ∷ es) (sym own));
      removed = rw t refl;
      entry = rw t (ap (λ y. Some y) pair);
    }

place-later : {X : Type 0} (key : ℕ) (e : ℕ × X) (es : List (ℕ × X)) (x : X) → nat_eq key e.0 ≡ false → Place key es x → Place key (e ∷ es) x
place-later key e es x t p = record {
  front = e ∷ p.front;
  back = p.back;
  is = ap (λ l. e ∷ l) p.is;
  set = λ w. rw t (ap (λ l. e ∷ l) (p.set w));
  removed = rw t (ap (λ l. e ∷ l) p.removed);
  entry = rw t p.entry;
}

pub place-of-key : {X : Type 0} (key : ℕ) (es : List (ℕ × X)) (x : X) → lookup (nat_eq key) es ≡ Some x → Place key es x
place-of-key key [] x there = absurd (cc)
place-of-key key (e ∷ es) x there = elim (cases_Bool (nat_eq key e.0)) [
  | inl t ↦ place-here key e es x t (rw t at there)
  | inr t ↦ place-later key e es x t (place-of-key key es x (rw t at there))
]

-- Using an entry moves it to the front.
pub place-hit : {V : Type 0} (key : ℕ) (es : List (ℕ × Slot V)) (slot : Slot V) (p : Place key es slot) (w : V) → hit (nat_eq key) es w ≡ (key, record slot { value = w }) ∷ p.front ++ p.back
place-hit key es slot p w = rw p.entry (ap (λ l. (key, record slot { value = w }) ∷ l) p.removed)

pub away-of-all : {X : Type 0} (key : ℕ) (es : List (ℕ × X)) → lookup (nat_eq key) es ≡ None → AllByRecursion (λ y. nat_eq key y ≡ false) (keys_of es)
away-of-all key [] none = tt
away-of-all key (e ∷ es) none = elim (cases_Bool (nat_eq key e.0)) [
  | inl t ↦ absurd (let found = rw t at none in cc)
  | inr t ↦ (t, away-of-all key es (rw t at none))
]

pub slot-of : {V : Type 0} (found : Option (Slot V)) (v : V) → option_map (λ s. s.value) found ≡ Some v → (s : Slot V) × (found ≡ Some s) × (s.value ≡ v)
slot-of None v there = absurd (cc)
slot-of (Some s) v there = (s, refl, cc)
