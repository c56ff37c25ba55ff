-- Lookups in the list of cached entries.
use Rattle.std.proofs.Common.{◌≡◌, ℕ, Bool, true, false, cond, List, [], ◌∷◌, Some, None, Option, IsSome, ◌⊎◌, ◌==◌, ◌+◌, length, arith, zero, suc, ◌++◌, refl, ap, ◌∙◌}
use Rattle.std.proofs.Common.{inl, inr}
use Rattle.std.proofs.lemmas.Bool.{cases_Bool, ne_eqb}
use Rattle.std.specs.Prelude.{slice_get}
use Rattle.std.specs.Cmp.{IsEquivalence}
use Rattle.std.specs.List.{AllByRecursion, IsDistinct}
use Rattle.std.specs.Map.{keys_of, lookup, lookup_entry, remove_entry, set_value}
use Rattle.lru.specs.LruCache.{promoted}
use Rattle.qcow2_alloc.specs.declared.async_lru_cache.Slot.{Slot}
use Rattle.qcow2_alloc.specs.Cache.{hit, victim, victim_from}

module _ {K X : Type 0} (test : K → Bool) where
  pub record Hit (es : List (K × X)) (x : X) : Type 0 where
    pub key : K
    pub passes : test key ≡ true
    pub entry : lookup_entry test es ≡ Some (key, x)

  same_pair : (e : K × X) (x : X) → e.1 ≡ x → Some e ≡ Some (e.0, x)
  same_pair (k, y) x h = ap (λ (z : X). Some (k, z)) h

  hit_here : (e : K × X) (es : List (K × X)) (x : X) → test e.0 ≡ true → Some e.1 ≡ Some x → Hit (e ∷ es) x
  hit_here e es x t h = record { key = e.0; passes = t; entry = rw t (same_pair e x (cc)) }

  pub found : (es : List (K × X)) (x : X) → lookup test es ≡ Some x → Hit es x
  found [] x h = absurd (cc)
  found (e ∷ es) x h = elim (cases_Bool (test e.0)) [
    | inl t ↦ hit_here e es x t (rw t at h)
    | inr t ↦ let rest = found es x (rw t at h) in record { key = rest.key; passes = rest.passes; entry = rw t rest.entry }
  ]

  pub missed : (es : List (K × X)) → lookup test es ≡ None → lookup_entry test es ≡ None
  missed [] h = refl
  missed (e ∷ es) h = elim (cases_Bool (test e.0)) [
    | inl t ↦ absurd (let k = rw t at h in cc)
    | inr t ↦ rw t (missed es (rw t at h))
  ]

module _ {K V : Type 0} (test : K → Bool) where
  pub promoted_hit : (es : List (K × Slot V)) (s : Slot V) → lookup test es ≡ Some s → (w : V) → set_value test (promoted test es) (record s { value = w }) ≡ hit test es w
  promoted_hit es s h w = let f = found test es s h in rw (f.entry, f.passes) refl

  pub hit_missed : (es : List (K × Slot V)) → lookup test es ≡ None → (w : V) → hit test es w ≡ es
  hit_missed es h w = rw (missed test es h) refl

module _ {K X : Type 0} (test : K → Bool) where
  pub remove_written : (es : List (K × X)) (w : X) → remove_entry test (set_value test es w) ≡ remove_entry test es
  remove_written [] w = refl
  remove_written (e ∷ es) w = elim (cases_Bool (test e.0)) [
    | inl t ↦ rw t (rw t refl)
    | inr t ↦ rw t (rw t (ap (λ l. e ∷ l) (remove_written es w)))
  ]

module _ {K V : Type 0} where
  victim_from_last : (found : Option K) (es : List (K × Slot V)) (e : K × Slot V) → victim_from found (es ++ e ∷ []) ≡ cond (e.1.pins == 0) (Some e.0) (victim_from found es)
  victim_from_last found [] e = refl
  victim_from_last found (x ∷ es) e = victim_from_last (cond (x.1.pins == 0) (Some x.0) found) es e

  victim_last : (es : List (K × Slot V)) (e : K × Slot V) → victim (es ++ e ∷ []) ≡ cond (e.1.pins == 0) (Some e.0) (victim es)
  victim_last = victim_from_last None

  -- The victim is the last entry if it is unpinned, otherwise that of the entries before it.
  pub victim_free : (es : List (K × Slot V)) (e : K × Slot V) → e.1.pins ≡ 0 → victim (es ++ e ∷ []) ≡ Some e.0
  victim_free es e free = victim_last es e ∙ ap (λ (n : ℕ). cond (n == 0) (Some e.0) (victim es)) free

  pub victim_pinned : (es : List (K × Slot V)) (e : K × Slot V) → (e.1.pins ≡ 0 → ⊥) → victim (es ++ e ∷ []) ≡ victim es
  victim_pinned es e pinned = victim_last es e ∙ rw (ne_eqb e.1.pins 0 pinned) refl

none_some : {A : Type 0} (k : A) → None ≡ Some k → ⊥
none_some k h = cc

module _ {K V : Type 0} (eq : K → K → Bool) (same : (k : K) → eq k k ≡ true) where
  lookup_step : (k : K) (e : K × Slot V) (es : List (K × Slot V)) → IsSome (lookup (eq k) es) → IsSome (lookup (eq k) (e ∷ es))
  lookup_step k e es h = elim (cases_Bool (eq k e.0)) [
    | inl t ↦ rw t refl
    | inr t ↦ rw t h
  ]

  lookup_own : (k : K) (e : K × Slot V) (es : List (K × Slot V)) → Some e.0 ≡ Some k → IsSome (lookup (eq k) (e ∷ es))
  lookup_own k e es h = let t : eq k e.0 ≡ true = (let own : e.0 ≡ k = cc in ap (λ (x : K). eq k x) own ∙ same k) in rw t refl

  pub victim_from_there : (k : K) (found : Option K) (es : List (K × Slot V)) → victim_from found es ≡ Some k → (found ≡ Some k) ⊎ IsSome (lookup (eq k) es)
  victim_from_there k found [] h = inl h
  victim_from_there k found (e ∷ es) h = elim (cases_Bool (e.1.pins == 0)) [
    | inl t ↦ elim (victim_from_there k (Some e.0) es (rw t at h)) [
      | inl own ↦ inr (lookup_own k e es own)
      | inr there ↦ inr (lookup_step k e es there)
    ]
    | inr t ↦ elim (victim_from_there k found es (rw t at h)) [
      | inl before ↦ inl before
      | inr there ↦ inr (lookup_step k e es there)
    ]
  ]

  pub victim_there : (k : K) (es : List (K × Slot V)) → victim es ≡ Some k → IsSome (lookup (eq k) es)
  victim_there k es h = elim (victim_from_there k None es h) [
    | inl never ↦ absurd (none_some k never)
    | inr there ↦ there
  ]

-- Removing an entry.
module _ {K X : Type 0} (test : K → Bool) where
  pub remove_shorter : (es : List (K × X)) → IsSome (lookup test es) → length (remove_entry test es) + 1 ≡ length es
  remove_shorter [] h = absurd (cc)
  remove_shorter (e ∷ es) h = elim (cases_Bool (test e.0)) [
    | inl t ↦ rw t (omega arith)
    | inr t ↦ let rest = remove_shorter es (rw t at h) in rw t (omega (arith, rest))
  ]

  pub remove_absent : (other : K → Bool) (es : List (K × X)) → lookup other es ≡ None → lookup other (remove_entry test es) ≡ None
  remove_absent other [] h = refl
  remove_absent other (e ∷ es) h = elim (cases_Bool (other e.0)) [
    | inl o ↦ absurd (let k = rw o at h in cc)
    | inr o ↦ elim (cases_Bool (test e.0)) [
      | inl t ↦ rw t (rw o at h)
      | inr t ↦ rw t (rw o (remove_absent other es (rw o at h)))
    ]
  ]

-- A list, split into its front and its last element.
pub record Split {X : Type 0} (es : List X) (e : X) : Type 0 where
  pub front : List X
  pub split : es ≡ front ++ e ∷ []

split_step : {X : Type 0} (x : X) (es : List X) (e : X) → Split es e → Split (x ∷ es) e
split_step x es e s = record { front = x ∷ s.front; split = ap (λ l. x ∷ l) s.split }

pub split_last : {X : Type 0} (es : List X) (n : ℕ) (e : X) → length es ≡ n + 1 → slice_get es n ≡ Some e → Split es e
split_last [] n e l h = absurd (cc)
split_last (x ∷ []) zero e l h = let own : x ≡ e = cc in record { front = []; split = ap (λ y. y ∷ []) own }
split_last (x ∷ []) (suc n) e l h = absurd (cc)
split_last (x ∷ y ∷ es) zero e l h = absurd (let bad : length (x ∷ y ∷ es) ≡ 1 = l in omega (arith, bad))
split_last (x ∷ y ∷ es) (suc n) e l h = split_step x (y ∷ es) e (split_last (y ∷ es) n e (omega (arith, l)) h)

module _ {K X : Type 0} (eq : K → K → Bool) (laws : IsEquivalence eq) where
  differs : (e : K × X) (k : K) (front : List (K × X)) → AllByRecursion (λ y. eq k y ≡ false) (keys_of (front ++ e ∷ [])) → eq e.0 k ≡ false
  differs e k [] h = laws.symm e.0 k ∙ h.0
  differs e k (x ∷ front) h = differs e k front h.1

  pub last_alone : (e : K × X) (front : List (K × X)) → IsDistinct eq (keys_of (front ++ e ∷ [])) → (lookup_entry (eq e.0) (front ++ e ∷ []) ≡ Some e) × (remove_entry (eq e.0) (front ++ e ∷ []) ≡ front)
  unfolding IsDistinct
  last_alone e [] h = (rw (laws.refl e.0) refl, rw (laws.refl e.0) refl)
  last_alone e (x ∷ front) h = let rest = last_alone e front h.1 in let no = differs e x.0 front h.0 in (rw no rest.0, rw no (ap (λ l. x ∷ l) rest.1))

pub lookup_written : {K X : Type 0} (test : K → Bool) (es : List (K × X)) (w : X) → IsSome (lookup test es) → IsSome (lookup test (set_value test es w))
lookup_written test [] w there = absurd (cc)
lookup_written test (e ∷ es) w there = elim (cases_Bool (test e.0)) [
  | inl t ↦ rw (t, t) refl
  | inr t ↦ rw (t, t) (lookup_written test es w (rw t at there))
]
