-- Counting the pinned entries of a cache. Calls don't pin more entries.
use Rattle.std.proofs.Common.{◌≡◌, ℕ, ◌+◌, ◌<◌, ◌≤◌, refl, arith, ap, sym, subst, ◌∙◌, List, [], ◌∷◌, ◌++◌, length, Bool, true, false, cond, Option, Some, None, inl, inr, eq-eqb}
use Rattle.std.specs.Prelude.{map, nat_eq, nat_lt, ◌&&◌, IsSomeAnd}
use Rattle.std.specs.List.{AllByRecursion}
use Rattle.std.specs.Map.{lookup, remove_entry, set_value}
use Rattle.std.proofs.lemmas.Bool.{cases_Bool, lt-ltb}
use Rattle.std.proofs.lemmas.List.Sums.{sum_by-append, sum_by-cons}
use Rattle.qcow2_alloc.specs.declared.async_lru_cache.Slot.{Slot}
use Rattle.qcow2_alloc.specs.Cache.{hit}
use Rattle.qcow2_alloc.specs.Finding.{IsPinnedFull, PinsNothing, pinned_among, pinned_in}
use Rattle.qcow2_alloc.proofs.Caching.Entries.{hit_missed}
use Rattle.qcow2_alloc.proofs.Caching.Places.{place-of-key, place-hit}

no-more : {a b : ℕ} → a ≡ b → a ≤ b
no-more same = omega (arith, same)

-- 1 if the key is selected and the entry is pinned, else 0.
abbrev one_where : Bool → ℕ → ℕ
one_where asked pins = cond (asked && nat_lt 0 pins) 1 0

none-where : (asked : Bool) → one_where asked 0 ≡ 0
none-where true = refl
none-where false = refl

one-where : (asked : Bool) (n : ℕ) → asked ≡ true → 0 < n → one_where asked n ≡ 1
one-where asked n is some = ap (λ b. one_where b n) is ∙ ap (λ b. cond b 1 0) (lt-ltb 0 n some)

one-less : (asked : Bool) (n : ℕ) → one_where asked n ≤ one_where true n
one-less true n = omega arith
one-less false n = omega arith

module _ {V : Type 0} (keys : ℕ → Bool) where
  abbrev one_of : ℕ × Slot V → ℕ
  one_of e = one_where (keys e.0) e.1.pins

  pinned-cons : (e : ℕ × Slot V) (es : List (ℕ × Slot V)) → pinned_among keys (e ∷ es) ≡ one_of e + pinned_among keys es
  pinned-cons e es = sum_by-cons one_of e es

  pinned-parts : (front : List (ℕ × Slot V)) (e : ℕ × Slot V) (back : List (ℕ × Slot V)) → pinned_among keys (front ++ e ∷ back) ≡ pinned_among keys front + (one_of e + pinned_among keys back)
  pinned-parts front e back = sum_by-append one_of front (e ∷ back) ∙ ap (λ n. pinned_among keys front + n) (pinned-cons e back)

  -- The pinned count after each change of the list.
  pinned-removed : (test : ℕ → Bool) (es : List (ℕ × Slot V)) → pinned_among keys (remove_entry test es) ≤ pinned_among keys es
  pinned-removed test [] = omega arith
  pinned-removed test (e ∷ es) =
      let own = pinned-cons e es in
      elim (cases_Bool (test e.0)) [
        | inl t ↦ rw t (subst (λ n. pinned_among keys es ≤ n) (sym own) (omega arith))
        | inr t ↦
            let rest = pinned-removed test es in
            let more = pinned-cons e (remove_entry test es) in
            rw t (subst (λ n. pinned_among keys (e ∷ remove_entry test es) ≤ n) (sym own) (subst (λ n. n ≤ one_of e + pinned_among keys es) (sym more) (omega (arith, rest))))
      ]

  pinned-same : {Y : Type 0} (f : ℕ × Slot V → Y) (key pins : Y → ℕ) → ((e : ℕ × Slot V) → (key (f e) ≡ e.0) × (pins (f e) ≡ e.1.pins)) → (xs ys : List (ℕ × Slot V)) → map f xs ≡ map f ys → pinned_among keys xs ≡ pinned_among keys ys
  pinned-same f key pins is [] [] same = refl
  pinned-same f key pins is [] (y ∷ ys) same = absurd (cc)
  pinned-same f key pins is (x ∷ xs) [] same = absurd (cc)
  pinned-same f key pins is (x ∷ xs) (y ∷ ys) same =
      let head : f x ≡ f y = (let e = same in cc) in
      let tail : map f xs ≡ map f ys = (let e = same in cc) in
      let at : x.0 ≡ y.0 = sym (is x).0 ∙ ap key head ∙ (is y).0 in
      let held : x.1.pins ≡ y.1.pins = sym (is x).1 ∙ ap pins head ∙ (is y).1 in
      let own : one_of x ≡ one_of y = ap (λ k. one_where (keys k) x.1.pins) at ∙ ap (λ n. one_where (keys y.0) n) held in
      pinned-cons x xs ∙ ap (λ n. n + pinned_among keys xs) own ∙ ap (λ n. one_of y + n) (pinned-same f key pins is xs ys tail) ∙ sym (pinned-cons y ys)

  pinned-set : (key : ℕ) (es : List (ℕ × Slot V)) (slot w : Slot V) → lookup (nat_eq key) es ≡ Some slot → w.pins ≡ slot.pins → pinned_among keys (set_value (nat_eq key) es w) ≡ pinned_among keys es
  pinned-set key es slot w there same =
      let p = place-of-key key es slot there in
      let own : one_of (key, w) ≡ one_of (key, slot) = ap (λ n. one_where (keys key) n) same in
      ap (λ l. pinned_among keys l) (p.set w) ∙ pinned-parts p.front (key, w) p.back ∙ ap (λ n. pinned_among keys p.front + (n + pinned_among keys p.back)) own ∙ sym (pinned-parts p.front (key, slot) p.back) ∙ ap (λ l. pinned_among keys l) (sym p.is)

  pinned-hit : (key : ℕ) (es : List (ℕ × Slot V)) (value : V) → pinned_among keys (hit (nat_eq key) es value) ≡ pinned_among keys es
  pinned-hit key es value = by-slot (lookup (nat_eq key) es) refl
    where
      by-slot : (o : Option (Slot V)) → lookup (nat_eq key) es ≡ o → pinned_among keys (hit (nat_eq key) es value) ≡ pinned_among keys es
      by-slot None is = ap (λ l. pinned_among keys l) (hit_missed (nat_eq key) es is value)
      by-slot (Some slot) is =
          let p = place-of-key key es slot is in
          let first : ℕ × Slot V = (key, record slot { value = value }) in
          let now : pinned_among keys (hit (nat_eq key) es value) ≡ one_of first + pinned_among keys (p.front ++ p.back) = ap (λ l. pinned_among keys l) (place-hit key es slot p value) ∙ pinned-cons first (p.front ++ p.back) in
          let both = sum_by-append one_of p.front p.back in
          let was : pinned_among keys es ≡ pinned_among keys p.front + (one_of (key, slot) + pinned_among keys p.back) = ap (λ l. pinned_among keys l) p.is ∙ pinned-parts p.front (key, slot) p.back in
          now ∙ ap (λ n. one_of first + n) both ∙ omega arith ∙ sym was

  pinned-new : (key : ℕ) (value : V) (es : List (ℕ × Slot V)) → pinned_among keys ((key, record { value = value; pins = 0 }) ∷ es) ≡ pinned_among keys es
  pinned-new key value es = pinned-cons (key, record { value = value; pins = 0 }) es ∙ ap (λ n. n + pinned_among keys es) (none-where (keys key)) ∙ omega arith

module _ {V : Type 0} where
  all-pinned : (es : List (ℕ × Slot V)) → AllByRecursion (λ (e : ℕ × Slot V). 0 < e.1.pins) es → length es ≤ pinned_in es
  all-pinned [] all = omega arith
  all-pinned (e ∷ es) all =
      let own : one_where true e.1.pins ≡ 1 = one-where true e.1.pins refl all.0 in
      let more = pinned-cons (λ _. true) e es in
      let rest = all-pinned es all.1 in
      subst (λ n. length (e ∷ es) ≤ n) (sym more) (omega (arith, own, rest))

  pub pinned-less : (keys : ℕ → Bool) (es : List (ℕ × Slot V)) → pinned_among keys es ≤ pinned_in es
  pinned-less keys [] = omega arith
  pinned-less keys (e ∷ es) =
      let own = pinned-cons keys e es in
      let all = pinned-cons (λ _. true) e es in
      let rest = pinned-less keys es in
      let one = one-less (keys e.0) e.1.pins in
      subst (λ n. n ≤ pinned_in (e ∷ es)) (sym own) (subst (λ n. one_where (keys e.0) e.1.pins + pinned_among keys es ≤ n) (sym all) (omega (arith, rest, one)))

  pub full-pinned : {cap : ℕ} (es : List (ℕ × Slot V)) → IsPinnedFull cap es → cap ≤ pinned_in es
  full-pinned es full = let le = full.full in let all = all-pinned es full.pinned in omega (arith, le, all)

  pub pinned-there : (key : ℕ) (es : List (ℕ × Slot V)) → IsSomeAnd (lookup (nat_eq key) es) (λ s. 0 < s.pins) → 0 < pinned_among (nat_eq key) es
  pinned-there key es pinned = by-slot (lookup (nat_eq key) es) refl pinned
    where
      by-slot : (o : Option (Slot V)) → lookup (nat_eq key) es ≡ o → IsSomeAnd o (λ s. 0 < s.pins) → 0 < pinned_among (nat_eq key) es
      by-slot None there pinned = absurd pinned
      by-slot (Some slot) there pinned =
          let p = place-of-key key es slot there in
          let was : pinned_among (nat_eq key) es ≡ pinned_among (nat_eq key) p.front + (one_where (nat_eq key key) slot.pins + pinned_among (nat_eq key) p.back) =
          ap (λ l. pinned_among (nat_eq key) l) p.is ∙ pinned-parts (nat_eq key) p.front (key, slot) p.back in
          let one = one-where (nat_eq key key) slot.pins (eq-eqb key key refl) pinned in
          omega (arith, was, one)

  -- `PinsNothing` for each change of the list.
  pub pins-none : (es es' : List (ℕ × Slot V)) → es' ≡ es → PinsNothing es es'
  pins-none es es' same = record { among = λ keys. no-more (ap (λ l. pinned_among keys l) same) }

  pub pins-then : (es es' es'' : List (ℕ × Slot V)) → PinsNothing es es' → PinsNothing es' es'' → PinsNothing es es''
  pins-then es es' es'' one two = record { among = λ keys. let a = one.among keys in let b = two.among keys in omega (arith, a, b) }

  pub pins-removed : (test : ℕ → Bool) (es : List (ℕ × Slot V)) → PinsNothing es (remove_entry test es)
  pins-removed test es = record { among = λ keys. pinned-removed keys test es }

  pub pins-written : {Y : Type 0} (f : ℕ × Slot V → Y) (key pins : Y → ℕ) → ((e : ℕ × Slot V) → (key (f e) ≡ e.0) × (pins (f e) ≡ e.1.pins)) → (es es' : List (ℕ × Slot V)) → map f es' ≡ map f es → PinsNothing es es'
  pins-written f key pins is es es' same = record { among = λ keys. no-more (pinned-same keys f key pins is es' es same) }

  pub pins-set : (key : ℕ) (es : List (ℕ × Slot V)) (slot w : Slot V) → lookup (nat_eq key) es ≡ Some slot → w.pins ≡ slot.pins → PinsNothing es (set_value (nat_eq key) es w)
  pins-set key es slot w there same = record { among = λ keys. no-more (pinned-set keys key es slot w there same) }

  pub pins-hit : (key : ℕ) (es : List (ℕ × Slot V)) (value : V) → PinsNothing es (hit (nat_eq key) es value)
  pins-hit key es value = record { among = λ keys. no-more (pinned-hit keys key es value) }

  pub pins-new : (key : ℕ) (value : V) (es : List (ℕ × Slot V)) → PinsNothing es ((key, record { value = value; pins = 0 }) ∷ es)
  pins-new key value es = record { among = λ keys. no-more (pinned-new keys key value es) }
