-- Making space for one more entry, by evicting one if the cache is full.
use Rattle.std.proofs.Common.{◌≡◌, ℕ, ◌<◌, ◌≤◌, refl, arith, subst, sym, List, [], ◌∷◌, length, Option, Some, None, Result, Ok, Err, Bool, true, false, inl, inr, zero, suc}
use Rattle.std.specs.Prelude.{◌⊎◌, ◌==◌}
use Rattle.std.specs.List.{AllByRecursion}
use Rattle.std.proofs.lemmas.Bool.{cases_Bool, cases_lt}
use Rattle.imago_storage.specs.declared.fault.Fault.{Fault}
use Rattle.imago_storage.specs.declared.fault.Fault.TheVariants.{CacheFull}
use Rattle.qcow2_alloc.specs.declared.async_lru_cache.Admission.{Admission}
use Rattle.qcow2_alloc.specs.declared.async_lru_cache.Admission.TheVariants.{Granted, Denied}
use Rattle.qcow2_alloc.specs.declared.async_lru_cache.Slot.{Slot}
use Rattle.qcow2_alloc.specs.Cache.{CacheKind, Evicted, MadeRoom, victim, victim_from}
use Rattle.qcow2_alloc.specs.Finding.{IsPinnedFull}

-- Without a victim, every entry is pinned.
pub victim-none : {V : Type 0} (es : List (ℕ × Slot V)) (found : Option ℕ) → victim_from found es ≡ None → (found ≡ None) × AllByRecursion (λ (e : ℕ × Slot V). 0 < e.1.pins) es
victim-none [] found none = (none, tt)
victim-none (e ∷ es) found none = elim (cases_Bool (e.1.pins == 0)) [
  | inl t ↦ absurd (let k = (victim-none es (Some e.0) (rw t at none)).0 in cc)
  | inr t ↦ let rest = victim-none es found (rw t at none) in (rest.0, (pins-some e.1.pins t, rest.1))
]
  where
    pins-some : (n : ℕ) → (n == 0) ≡ false → 0 < n
    pins-some zero t = absurd (cc)
    pins-some (suc n) t = omega arith

module _ {V D : Type 0} (kind : CacheKind ℕ V D) (may_flush : Bool) (before : D) (es : List (ℕ × Slot V)) (result : Result Admission Fault) (after : D) (es' : List (ℕ × Slot V)) where
  -- No request was made: the cache has space, flushing isn't permitted, or all entries are pinned.
  pub record IsUnasked : Type 0 where
    pub device : after ≡ before
    pub entries : es' ≡ es
    pub answer : ((made : Admission) × (result ≡ Ok made)) ⊎ ((result ≡ Err CacheFull) × IsPinnedFull kind.cap es)

  pub record HasGone : Type 0 where
    pub key : ℕ
    pub evicted : Evicted kind.eq kind.flushes key before es result after es'

  pub room-way : MadeRoom kind may_flush before es result after es' → IsUnasked ⊎ HasGone
  room-way made = elim (cases_lt (length es) kind.cap) [
    | inl roomy ↦ let r = made.roomy roomy in inl (record { device = r.1; entries = r.2; answer = inl (Granted, r.0) })
    | inr full ↦ elim (cases_Bool may_flush) [
      | inr not ↦ let r = made.full full not in inl (record { device = r.1; entries = r.2; answer = inl (Denied, r.0) })
      | inl may ↦ by-victim (victim es) refl full may
    ]
  ]
    where
      by-victim : (v : Option ℕ) → victim es ≡ v → kind.cap ≤ length es → may_flush ≡ true → IsUnasked ⊎ HasGone
      by-victim None is full may =
          let r = made.pinned full may is in inl (record { device = r.1; entries = r.2; answer = inr (r.0, record { full = full; pinned = (victim-none es None is).1 }) })
      by-victim (Some key) is full may = inr (record { key = key; evicted = made.evicted full may key is })

pub never-denied : {V D : Type 0} (kind : CacheKind ℕ V D) (before : D) (es : List (ℕ × Slot V)) (after : D) (es' : List (ℕ × Slot V)) → MadeRoom kind true before es (Ok Denied) after es' → ⊥
never-denied kind before es after es' made = elim (cases_lt (length es) kind.cap) [
  | inl roomy ↦ let is = (made.roomy roomy).0 in cc
  | inr full ↦ by-victim (victim es) refl full
]
  where
    by-victim : (v : Option ℕ) → victim es ≡ v → kind.cap ≤ length es → ⊥
    by-victim None is full = let no = (made.pinned full refl is).0 in cc
    by-victim (Some k) is full = let no = (made.evicted full refl k is).0 in cc

-- A relation that each flush keeps is kept.
module _ {V D : Type 0} (kind : CacheKind ℕ V D) (R : D → D → Type 0) (R-refl : (a : D) → R a a)
    (flushing : (old new : D) (key : ℕ) (value value' : V) (answer : Result Unit Fault) → kind.flushes old key value answer new value' → R old new) where
  evicted-related : (key : ℕ) (before : D) (es : List (ℕ × Slot V)) (result : Result Admission Fault) (after : D) (es' : List (ℕ × Slot V)) → Evicted kind.eq kind.flushes key before es result after es' → R before after
  evicted-related key before es (Ok made) after es' (is, mid, at, removed) = flushing before after key at.slot.value at.value (Ok tt) at.flush
  evicted-related key before es (Err fault) after es' at = flushing before after key at.slot.value at.value (Err fault) at.flush

  pub room-related : (may_flush : Bool) (before : D) (es : List (ℕ × Slot V)) (result : Result Admission Fault) (after : D) (es' : List (ℕ × Slot V)) → MadeRoom kind may_flush before es result after es' → R before after
  room-related may_flush before es result after es' made = elim (room-way kind may_flush before es result after es' made) [
    | inl same ↦ subst (λ (d : D). R before d) (sym same.device) (R-refl before)
    | inr gone ↦ evicted-related gone.key before es result after es' gone.evicted
  ]
