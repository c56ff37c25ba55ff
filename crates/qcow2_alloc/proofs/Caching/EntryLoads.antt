-- Finding or loading an entry of a cache.
use Rattle.std.proofs.Common.{◌≡◌, ℕ, refl, ap, sym, subst, ◌∙◌, List, ◌∷◌, ◌++◌, length, Option, Some, None, Result, Ok, Err, Bool, true, false, inl, inr}
use Rattle.std.specs.Prelude.{◌⊎◌, nat_eq, ⊤, IsSome}
use Rattle.std.specs.Map.{lookup}
use Rattle.std.proofs.lemmas.Bool.{cases_lt}
use Rattle.imago_storage.specs.declared.fault.Fault.{Fault}
use Rattle.qcow2_types.specs.Header.{Header}
use Rattle.qcow2_alloc.specs.CachedKinds.{CachedKind, loads_of, flushes_of}
use Rattle.qcow2_alloc.specs.declared.async_lru_cache.Admission.{Admission}
use Rattle.qcow2_alloc.specs.declared.async_lru_cache.Admission.TheVariants.{Granted, Denied}
use Rattle.qcow2_alloc.specs.declared.async_lru_cache.Slot.{Slot}
use Rattle.qcow2_alloc.specs.declared.cache.CacheDependency.{CacheDependency}
use Rattle.qcow2_alloc.specs.declared.file.ImageFile.{ImageFile}
use Rattle.qcow2_alloc.specs.Cache.{cache_kind, Evicted, MadeRoom, Loaded, LoadedAfter, Readied}
use Rattle.qcow2_alloc.specs.Going.{WritesBackCached, IsNotResourceError, HadNoResourceError}
use Rattle.qcow2_alloc.specs.Memory.{Cached}
use Rattle.qcow2_alloc.proofs.Caching.Entries.{remove_absent}
use Rattle.qcow2_alloc.proofs.Caching.Places.{place-of-key}
use Rattle.qcow2_alloc.proofs.Caching.Rooms.{room-way, room-related, never-denied}
use Rattle.qcow2_alloc.proofs.Caching.Sides.{SideLaws, Ready, ready-same, leaves-quietly, comes-quietly, asked-quietly}
use Rattle.qcow2_alloc.proofs.Flushing.WriteSequences.{going-none, going-both, going-weaker}

pub is-there : {X : Type 0} (o : Option X) → (IsSome o) ⊎ (o ≡ None)
is-there (Some x) = inl refl
is-there None = inr refl

-- Either no request is made, or the entry is loaded.
module _ {S V W : Type 0} (side : CachedKind S V W) (laws : SideLaws side) (H : Header) (order : CacheDependency) (rest : List (ℕ × Slot W)) (Ready : Cached → Type 0) (ready : (A B : List (ℕ × Slot V)) → Ready (side.cached rest A) → Ready (side.cached rest B)) where
  -- `WritesBackCached` from the entries `es` to the entries `es'`.
  abbrev pub Goes : Type 0 → ImageFile S → List (ℕ × Slot V) → ImageFile S → List (ℕ × Slot V) → Type 0
  Goes ok before es after es' = WritesBackCached H order Ready ok (side.state before.image) (side.cached rest es) (side.state after.image) (side.cached rest es')

  pub goes-then : (ok ok' : Type 0) (before mid after : ImageFile S) (es list es' : List (ℕ × Slot V)) → Goes ok before es mid list → Goes ok' mid list after es' → Goes (ok × ok') before es after es'
  goes-then ok ok' before mid after es list es' = going-both H order Ready ok ok' (side.state before.image) (side.state mid.image) (side.state after.image) (side.cached rest es) (side.cached rest list) (side.cached rest es')

  pub goes-weaker : (ok ok' : Type 0) (before after : ImageFile S) (es es' : List (ℕ × Slot V)) → (ok' → ok) → Goes ok before es after es' → Goes ok' before es after es'
  goes-weaker ok ok' before after es es' = going-weaker H order Ready ok ok' (side.state before.image) (side.state after.image) (side.cached rest es) (side.cached rest es')

  stays : (ok : Type 0) (before : ImageFile S) (es : List (ℕ × Slot V)) (after : ImageFile S) (es' : List (ℕ × Slot V)) → after ≡ before → es' ≡ es → Goes ok before es after es'
  stays ok before es after es' same same' =
      subst (λ (d : ImageFile S). Goes ok before es d es') (sym same)
      (subst (λ (l : List (ℕ × Slot V)). Goes ok before es before l) (sym same') (going-none H order Ready ok (side.state before.image) (side.cached rest es)))

  from-header : (key : ℕ) (before : ImageFile S) (answer : Result V Fault) (after : ImageFile S) → before.header ≡ H → loads_of side before key answer after → side.Loads H.fields key (side.state before.image) answer (side.state after.image)
  from-header key before answer after same load = subst (λ (h : Header). side.Loads h.fields key (side.state before.image) answer (side.state after.image)) same load.1

  loaded : (key : ℕ) (before : ImageFile S) (es : List (ℕ × Slot V)) (result : Result Admission Fault) (after : ImageFile S) (es' : List (ℕ × Slot V)) → lookup (nat_eq key) es ≡ None → before.header ≡ H → Loaded (loads_of side) key before es result after es'
      → Goes (HadNoResourceError result) before es after es'
  loaded key before es (Ok made) after es' none f (is, value, load, entries) =
      subst (λ (l : List (ℕ × Slot V)). Goes ⊤ before es after l) (sym entries) (comes-quietly side laws H order rest Ready ready key value es (side.state before.image) (side.state after.image) (from-header key before (Ok value) after f load) none)
  loaded key before es (Err fault) after es' none f (same, why) =
      subst (λ (l : List (ℕ × Slot V)). Goes (IsNotResourceError fault) before es after l) (sym same)
      (elim why [
        | inl load ↦ asked-quietly side laws H order rest Ready ready key (Err fault) es (side.state before.image) (side.state after.image) (from-header key before (Err fault) after f load)
        | inr full ↦ goes-weaker ⊤ (IsNotResourceError fault) before after es es (λ w. tt) (asked-quietly side laws H order rest Ready ready key (Ok full.1) es (side.state before.image) (side.state after.image) (from-header key before (Ok full.1) after f full.2))
      ])

  -- Without permission to flush, nothing is written.
  pub readied-quietly : (cap : ℕ) (key : ℕ) (before : ImageFile S) (es : List (ℕ × Slot V)) (result : Result Admission Fault) (after : ImageFile S) (es' : List (ℕ × Slot V)) → before.header ≡ H → Readied (cache_kind nat_eq (loads_of side) (flushes_of side) cap) false key before es result after es'
      → Goes (HadNoResourceError result) before es after es'
  readied-quietly cap key before es result after es' f r = elim (is-there (lookup (nat_eq key) es)) [
    | inl there ↦ let found = r.found there in stays (HadNoResourceError result) before es after es' found.1 found.2
    | inr none ↦
        let m = r.missed none in
        elim (cases_lt (length es) cap) [
          | inl roomy ↦ let made = m.made.roomy roomy in by-room none m.room m.mid m.entries made.0 made.1 made.2 m.loaded
          | inr full ↦ let made = m.made.full full refl in no-room m.room m.mid m.entries made.0 made.1 made.2 m.loaded
        ]
  ]
    where
      by-room : lookup (nat_eq key) es ≡ None → (room : Result Admission Fault) (mid : ImageFile S) (entries : List (ℕ × Slot V)) → room ≡ Ok Granted → mid ≡ before → entries ≡ es → LoadedAfter (loads_of side) key mid entries room result after es'
          → Goes (HadNoResourceError result) before es after es'
      by-room none room mid entries is same same' later =
          let load : Loaded (loads_of side) key before es result after es' =
          subst (λ (d : ImageFile S). Loaded (loads_of side) key d es result after es') same (subst (λ (l : List (ℕ × Slot V)). Loaded (loads_of side) key mid l result after es') same' (subst (λ (q : Result Admission Fault). LoadedAfter (loads_of side) key mid entries q result after es') is later)) in
          loaded key before es result after es' none f load

      no-room : (room : Result Admission Fault) (mid : ImageFile S) (entries : List (ℕ × Slot V)) → room ≡ Ok Denied → mid ≡ before → entries ≡ es → LoadedAfter (loads_of side) key mid entries room result after es'
          → Goes (HadNoResourceError result) before es after es'
      no-room room mid entries is same same' later =
          let full : (result ≡ Ok Denied) × (after ≡ mid) × (es' ≡ entries) = subst (λ (q : Result Admission Fault). LoadedAfter (loads_of side) key mid entries q result after es') is later in
          stays (HadNoResourceError result) before es after es' (full.1 ∙ same) (full.2 ∙ same')

-- Evictions add no key.
module _ {V D : Type 0} (loads : D → ℕ → Result V Fault → D → Type 0) (flushes : D → ℕ → V → Result Unit Fault → D → V → Type 0) where
  evicted-absent : (key other : ℕ) (before : D) (es : List (ℕ × Slot V)) (after : D) (es' : List (ℕ × Slot V)) (made : Admission) → Evicted nat_eq flushes key before es (Ok made) after es' → lookup (nat_eq other) es ≡ None → lookup (nat_eq other) es' ≡ None
  evicted-absent key other before es after es' made (is, mid, at, removed) none = ap (λ l. lookup (nat_eq other) l) removed ∙ remove_absent (nat_eq key) (nat_eq other) es none

  pub room-absent : (cap : ℕ) (may_flush : Bool) (key : ℕ) (before : D) (es : List (ℕ × Slot V)) (result : Result Admission Fault) (after : D) (es' : List (ℕ × Slot V)) → MadeRoom (cache_kind nat_eq loads flushes cap) may_flush before es result after es'
      → result ≡ Ok Granted → lookup (nat_eq key) es ≡ None → lookup (nat_eq key) es' ≡ None
  room-absent cap may_flush key before es result after es' made done none = elim (room-way (cache_kind nat_eq loads flushes cap) may_flush before es result after es' made) [
    | inl same ↦ ap (λ l. lookup (nat_eq key) l) same.entries ∙ none
    | inr gone ↦ evicted-absent gone.key key before es after es' Granted (subst (λ (r : Result Admission Fault). Evicted nat_eq flushes gone.key before es r after es') done gone.evicted) none
  ]

-- With evictions: an entry is evicted, then another one is found or loaded.
module _ {S V W : Type 0} (side : CachedKind S V W) (laws : SideLaws side) (H : Header) (order : CacheDependency) (rest : List (ℕ × Slot W)) where
  abbrev Here : Type 0 → ImageFile S → List (ℕ × Slot V) → ImageFile S → List (ℕ × Slot V) → Type 0
  Here = Goes side laws H order rest (Ready side order) (ready-same side laws H order rest)

  -- An entry is flushed, and removed if that succeeds.
  evicted : (key : ℕ) (before : ImageFile S) (es : List (ℕ × Slot V)) (result : Result Admission Fault) (after : ImageFile S) (es' : List (ℕ × Slot V)) → Evicted nat_eq (flushes_of side) key before es result after es'
      → Here (HadNoResourceError result) before es after es'
  evicted key before es (Ok made) after es' (is, mid, at, removed) =
      let p = place-of-key key es at.slot at.slot_found in
      let one : Here ⊤ before es after (p.front ++ (key, record at.slot { value = at.value }) ∷ p.back) =
      subst (λ (l : List (ℕ × Slot V)). Here ⊤ before l after (p.front ++ (key, record at.slot { value = at.value }) ∷ p.back)) (sym p.is)
      (laws.flushed H order rest p.front key at.slot p.back (side.state before.image) (side.state after.image) (Ok tt) at.value at.flush.1) in
      let two = leaves-quietly side laws H order rest (Ready side order) (ready-same side laws H order rest) p.front key (record at.slot { value = at.value }) p.back (side.state after.image) (laws.cleaned key at.slot.value (side.state before.image) (side.state after.image) at.value at.flush.1) in
      subst (λ (l : List (ℕ × Slot V)). Here ⊤ before es after l) (sym (removed ∙ p.removed))
      (goes-weaker side laws H order rest (Ready side order) (ready-same side laws H order rest) (⊤ × ⊤) ⊤ before after es (p.front ++ p.back) (λ w. (tt, tt))
      (goes-then side laws H order rest (Ready side order) (ready-same side laws H order rest) ⊤ ⊤ before after after es (p.front ++ (key, record at.slot { value = at.value }) ∷ p.back) (p.front ++ p.back) one two))
  evicted key before es (Err fault) after es' at =
      let p = place-of-key key es at.slot at.slot_found in
      subst (λ (l : List (ℕ × Slot V)). Here (IsNotResourceError fault) before es after l) (sym (at.entries ∙ p.set (record at.slot { value = at.value })))
      (subst (λ (l : List (ℕ × Slot V)). Here (IsNotResourceError fault) before l after (p.front ++ (key, record at.slot { value = at.value }) ∷ p.back)) (sym p.is)
      (laws.flushed H order rest p.front key at.slot p.back (side.state before.image) (side.state after.image) (Err fault) at.value at.flush.1))

  pub room-made : (cap : ℕ) (may_flush : Bool) (before : ImageFile S) (es : List (ℕ × Slot V)) (result : Result Admission Fault) (after : ImageFile S) (es' : List (ℕ × Slot V)) → MadeRoom (cache_kind nat_eq (loads_of side) (flushes_of side) cap) may_flush before es result after es'
      → Here (HadNoResourceError result) before es after es'
  room-made cap may_flush before es result after es' made = elim (room-way (cache_kind nat_eq (loads_of side) (flushes_of side) cap) may_flush before es result after es' made) [
    | inl same ↦ stays side laws H order rest (Ready side order) (ready-same side laws H order rest) (HadNoResourceError result) before es after es' same.device same.entries
    | inr gone ↦ evicted gone.key before es result after es' gone.evicted
  ]

  room-fits : (cap : ℕ) (may_flush : Bool) (before : ImageFile S) (es : List (ℕ × Slot V)) (result : Result Admission Fault) (after : ImageFile S) (es' : List (ℕ × Slot V)) → MadeRoom (cache_kind nat_eq (loads_of side) (flushes_of side) cap) may_flush before es result after es' → before.header ≡ H → after.header ≡ H
  room-fits cap may_flush before es result after es' = room-related (cache_kind nat_eq (loads_of side) (flushes_of side) cap) (λ a b. a.header ≡ H → b.header ≡ H) (λ a f. f)
      (λ old new key v v' answer flush same. flush.0 ∙ same) may_flush before es result after es'

  pub readied : (cap : ℕ) (may_flush : Bool) (key : ℕ) (before : ImageFile S) (es : List (ℕ × Slot V)) (result : Result Admission Fault) (after : ImageFile S) (es' : List (ℕ × Slot V)) → before.header ≡ H → Readied (cache_kind nat_eq (loads_of side) (flushes_of side) cap) may_flush key before es result after es'
      → Here (HadNoResourceError result) before es after es'
  readied cap may_flush key before es result after es' f r = elim (is-there (lookup (nat_eq key) es)) [
    | inl there ↦ let f = r.found there in stays side laws H order rest (Ready side order) (ready-same side laws H order rest) (HadNoResourceError result) before es after es' f.1 f.2
    | inr none ↦ let m = r.missed none in by-room none m.room m.mid m.entries m.made m.loaded
  ]
    where
      by-room : lookup (nat_eq key) es ≡ None → (room : Result Admission Fault) (mid : ImageFile S) (entries : List (ℕ × Slot V)) → MadeRoom (cache_kind nat_eq (loads_of side) (flushes_of side) cap) may_flush before es room mid entries → LoadedAfter (loads_of side) key mid entries room result after es'
          → Here (HadNoResourceError result) before es after es'
      by-room none (Ok Granted) mid entries made later =
          goes-weaker side laws H order rest (Ready side order) (ready-same side laws H order rest) (⊤ × HadNoResourceError result) (HadNoResourceError result) before after es es' (λ w. (tt, w))
          (goes-then side laws H order rest (Ready side order) (ready-same side laws H order rest) ⊤ (HadNoResourceError result) before mid after es entries es' (room-made cap may_flush before es (Ok Granted) mid entries made)
          (loaded side laws H order rest (Ready side order) (ready-same side laws H order rest) key mid entries result after es' (room-absent (loads_of side) (flushes_of side) cap may_flush key before es (Ok Granted) mid entries made refl none) (room-fits cap may_flush before es (Ok Granted) mid entries made f) later))
      by-room none (Ok Denied) mid entries made later =
          subst (λ (d : ImageFile S). Here (HadNoResourceError result) before es d es') (sym later.1)
          (subst (λ (l : List (ℕ × Slot V)). Here (HadNoResourceError result) before es mid l) (sym later.2)
          (goes-weaker side laws H order rest (Ready side order) (ready-same side laws H order rest) ⊤ (HadNoResourceError result) before mid es entries (λ w. tt) (room-made cap may_flush before es (Ok Denied) mid entries made)))
      by-room none (Err fault) mid entries made later =
          subst (λ (r : Result Admission Fault). Here (HadNoResourceError r) before es after es') (sym later.0)
          (subst (λ (d : ImageFile S). Here (IsNotResourceError fault) before es d es') (sym later.1)
          (subst (λ (l : List (ℕ × Slot V)). Here (IsNotResourceError fault) before es mid l) (sym later.2)
          (room-made cap may_flush before es (Err fault) mid entries made)))

pub never-full : {V D : Type 0} (loads : D → ℕ → Result V Fault → D → Type 0) (flushes : D → ℕ → V → Result Unit Fault → D → V → Type 0) (cap : ℕ) (key : ℕ) (before : D) (es : List (ℕ × Slot V)) (after : D) (es' : List (ℕ × Slot V))
    → Readied (cache_kind nat_eq loads flushes cap) true key before es (Ok Denied) after es' → ⊥
never-full loads flushes cap key before es after es' r = elim (is-there (lookup (nat_eq key) es)) [
  | inl there ↦ let found = (r.found there).0 in cc
  | inr none ↦ let m = r.missed none in by-room m.room m.mid m.entries m.made m.loaded
]
  where
    by-room : (room : Result Admission Fault) (mid : _) (entries : List _) → MadeRoom (cache_kind nat_eq loads flushes cap) true before es room mid entries → LoadedAfter loads key mid entries room (Ok Denied) after es' → ⊥
    by-room (Ok Granted) mid entries made later = let is = later.0 in cc
    by-room (Err fault) mid entries made later = let is = later.0 in cc
    by-room (Ok Denied) mid entries made later = never-denied (cache_kind nat_eq loads flushes cap) before es mid entries made
