-- The cache after a search, and the causes of a failed search.
use Rattle.std.proofs.Common.{◌≡◌, ℕ, ◌<◌, ◌≤◌, refl, arith, ap, sym, subst, ◌∙◌, List, [], ◌∷◌, ◌++◌, length, Option, Some, None, Result, Ok, Err, Bool, true, false, inl, inr}
use Rattle.std.specs.Prelude.{◌⊎◌, map, nat_eq, OnOk, OnErr}
use Rattle.std.specs.Option.{option_map_or}
use Rattle.std.specs.List.{AllByRecursion}
use Rattle.std.specs.Map.{lookup, remove_entry}
use Rattle.std.proofs.lemmas.Bool.{cases_Bool, cases_lt, eqb-true, lt-ltb, le-ltb}
use Rattle.imago_storage.specs.State.{StorageState}
use Rattle.imago_storage.specs.Calls.{UnchangedButFaults}
use Rattle.imago_storage.specs.declared.fault.Fault.{Fault}
use Rattle.imago_storage.specs.declared.fault.Fault.TheVariants.{CacheFull}
use Rattle.qcow2_alloc.specs.declared.async_lru_cache.Admission.{Admission}
use Rattle.qcow2_alloc.specs.declared.async_lru_cache.Admission.TheVariants.{Granted, Denied}
use Rattle.qcow2_alloc.specs.declared.async_lru_cache.Slot.{Slot}
use Rattle.qcow2_alloc.specs.Cache.{cache_kind, Evicted, MadeRoom, Loaded, LoadedAfter, Readied, victim}
use Rattle.qcow2_alloc.specs.Causes.{HasCause, FailsFor}
use Rattle.qcow2_alloc.specs.Finding.{with_room, IsPinnedFull, PinsNothing, Sought, search_causes}
use Rattle.qcow2_alloc.specs.Going.{HadNoResourceError}
use Rattle.qcow2_alloc.proofs.Causes.{Implies, cause-weaker, fails-weaker}
use Rattle.qcow2_alloc.proofs.Flushing.FlushRefusals.{Counted, writing-implies}
use Rattle.qcow2_alloc.proofs.Caching.Pins.{pins-none, pins-then, pins-removed, pins-set, pins-new}
use Rattle.qcow2_alloc.proofs.Caching.Places.{place-of-key}
use Rattle.qcow2_alloc.proofs.Caching.EntryLoads.{is-there}
use Rattle.qcow2_alloc.proofs.Caching.Rooms.{room-way, room-related}

-- The result of a search with permission to flush.
abbrev pub done_of : Result Admission Fault → Result Unit Fault
done_of (Ok found) = Ok tt
done_of (Err fault) = Err fault

pub whole-done : (r : Result Admission Fault) → HadNoResourceError (done_of r) → HadNoResourceError r
whole-done (Ok found) w = tt
whole-done (Err fault) w = w

pub found-there : (r : Result Admission Fault) (P : Type 0) → (r ≡ Ok Denied → ⊥) → (r ≡ Ok Granted → P) → OnOk (done_of r) P
found-there (Ok Granted) P not there = there refl
found-there (Ok Denied) P not there = absurd (not refl)
found-there (Err fault) P not there = tt

-- A fact about all entries.
module _ {X : Type 0} (P : ℕ × X → Type 0) where
  pub all-at : (key : ℕ) (es : List (ℕ × X)) (x : X) → lookup (nat_eq key) es ≡ Some x → AllByRecursion P es → P (key, x)
  all-at key [] x there all = absurd (cc)
  all-at key (e ∷ es) x there all = elim (cases_Bool (nat_eq key e.0)) [
    | inl t ↦
        let own : key ≡ e.0 = eqb-true key e.0 t in
        let value : e.1 ≡ x = (let same = rw t at there in cc) in
        let pair : e ≡ (key, x) = ap (λ n. (n, e.1)) (sym own) ∙ ap (λ y. (key, y)) value in
        subst P pair all.0
    | inr t ↦ all-at key es x (rw t at there) all.1
  ]

  pub all-removed : (test : ℕ → Bool) (es : List (ℕ × X)) → AllByRecursion P es → AllByRecursion P (remove_entry test es)
  all-removed test [] all = tt
  all-removed test (e ∷ es) all = elim (cases_Bool (test e.0)) [
    | inl t ↦ rw t all.1
    | inr t ↦ rw t (all.0, all-removed test es all.1)
  ]

pub mapped-same : {X Y : Type 0} (f : X → Y) (front : List X) (a b : X) (back : List X) → f a ≡ f b → map f (front ++ a ∷ back) ≡ map f (front ++ b ∷ back)
mapped-same f [] a b back same = ap (λ y. y ∷ map f back) same
mapped-same f (x ∷ front) a b back same = ap (λ l. f x ∷ l) (mapped-same f front a b back same)

-- Causes of a step are causes of the search.
pub search-wider : {fine fine' full full' : Type 0} {a b c d : ℕ} → (fine' → fine) → (full → full') → a ≤ b → c ≤ d → Implies (search_causes fine full b c) (search_causes fine' full' a d)
search-wider from to le le' = record { before = le; after = le'; damaged = λ wrong fine. wrong (from fine); counter = absurd; full = to; limit = λ number. absurd }

pub counts-wider : (fine fine' full : Type 0) (a b c : ℕ) (result : Result Unit Fault) → (fine' → fine) → a ≡ b → FailsFor (search_causes fine full a c) result → FailsFor (search_causes fine' full b c) result
counts-wider fine fine' full a b c result from is why = fails-weaker _ _ (search-wider from (λ f. f) (omega (arith, is)) (omega arith)) (λ same. same ∙ is) result why

module _ {V D : Type 0} (loads : D → ℕ → Result V Fault → D → Type 0) (flushes : D → ℕ → V → Result Unit Fault → D → V → Type 0) where
  -- The search returned `Denied`: the cache is full, and nothing changed.
  pub record IsFullNow (cap key : ℕ) (before : D) (es : List (ℕ × Slot V)) (after : D) (es' : List (ℕ × Slot V)) : Type 0 where
    pub absent : lookup (nat_eq key) es ≡ None
    pub full : cap ≤ length es
    pub device : after ≡ before
    pub entries : es' ≡ es

  pub full-stays : (cap key : ℕ) (before : D) (es : List (ℕ × Slot V)) (after : D) (es' : List (ℕ × Slot V)) → Readied (cache_kind nat_eq loads flushes cap) false key before es (Ok Denied) after es' → IsFullNow cap key before es after es'
  full-stays cap key before es after es' r = elim (is-there (lookup (nat_eq key) es)) [
    | inl there ↦ absurd (let no = (r.found there).0 in cc)
    | inr none ↦ let m = r.missed none in elim (cases_lt (length es) cap) [
      | inl roomy ↦ let made = m.made.roomy roomy in absurd (loaded-not m.room m.mid m.entries made.0 m.loaded)
      | inr full ↦
          let made = m.made.full full refl in
          let later : (Ok Denied ≡ Ok Denied) × (after ≡ m.mid) × (es' ≡ m.entries) = subst (λ (q : Result Admission Fault). LoadedAfter loads key m.mid m.entries q (Ok Denied) after es') made.0 m.loaded in
          record { absent = none; full = full; device = later.1 ∙ made.1; entries = later.2 ∙ made.2 }
    ]
  ]
    where
      loaded-not : (room : Result Admission Fault) (mid : D) (entries : List (ℕ × Slot V)) → room ≡ Ok Granted → LoadedAfter loads key mid entries room (Ok Denied) after es' → ⊥
      loaded-not room mid entries is later = let load = subst (λ (q : Result Admission Fault). LoadedAfter loads key mid entries q (Ok Denied) after es') is later in let no = load.0 in cc

  -- The entries, if making space succeeded.
  pub room-list : (cap : ℕ) (may_flush : Bool) (before : D) (es : List (ℕ × Slot V)) (after : D) (es' : List (ℕ × Slot V)) → MadeRoom (cache_kind nat_eq loads flushes cap) may_flush before es (Ok Granted) after es' → es' ≡ with_room cap es
  room-list cap may_flush before es after es' made = elim (cases_lt (length es) cap) [
    | inl roomy ↦ rw (lt-ltb (length es) cap roomy) (made.roomy roomy).2
    | inr full ↦ elim (cases_Bool may_flush) [
      | inr not ↦ absurd (let r = (made.full full not).0 in cc)
      | inl may ↦ by-victim (victim es) refl full may
    ]
  ]
    where
      by-victim : (v : Option ℕ) → victim es ≡ v → cap ≤ length es → may_flush ≡ true → es' ≡ with_room cap es
      by-victim None is full may = absurd (let r = (made.pinned full may is).0 in cc)
      by-victim (Some k) is full may = let e = made.evicted full may k is in rw (le-ltb (length es) cap full, is) e.3

  -- The entries, if making space failed.
  pub room-refused : (written : ℕ × Slot V → ℕ × Slot V)
      (kept : (key : ℕ) (slot : Slot V) (old new : D) (result : Result Unit Fault) (value : V) → flushes old key slot.value result new value → written (key, record slot { value = value }) ≡ written (key, slot))
      (cap : ℕ) (may_flush : Bool) (before : D) (es : List (ℕ × Slot V)) (fault : Fault) (after : D) (es' : List (ℕ × Slot V)) → MadeRoom (cache_kind nat_eq loads flushes cap) may_flush before es (Err fault) after es'
      → (map written es' ≡ map written es) × PinsNothing es es'
  room-refused written kept cap may_flush before es fault after es' made = elim (room-way (cache_kind nat_eq loads flushes cap) may_flush before es (Err fault) after es' made) [
    | inl same ↦ (ap (λ l. map written l) same.entries, pins-none es es' same.entries)
    | inr gone ↦
        let k = gone.key in
        let at = gone.evicted in
        let p = place-of-key k es at.slot at.slot_found in
        let w = record at.slot { value = at.value } in (
          ap (λ l. map written l) (at.entries ∙ p.set w) ∙ mapped-same written p.front (k, w) (k, at.slot) p.back (kept k at.slot before after (Err fault) at.value at.flush) ∙ ap (λ l. map written l) (sym p.is),
          subst (λ l. PinsNothing es l) (sym at.entries) (pins-set k es at.slot w at.slot_found refl),
        )
  ]

  pub pins-room : (cap : ℕ) (es : List (ℕ × Slot V)) → PinsNothing es (with_room cap es)
  pins-room cap es = elim (cases_lt (length es) cap) [
    | inl roomy ↦ rw (lt-ltb (length es) cap roomy) (pins-none es es refl)
    | inr full ↦ rw (le-ltb (length es) cap full) (by-victim (victim es) refl)
  ]
    where
      by-victim : (v : Option ℕ) → victim es ≡ v → PinsNothing es (option_map_or (λ key. remove_entry (nat_eq key) es) v es)
      by-victim None is = pins-none es es refl
      by-victim (Some k) is = pins-removed (nat_eq k) es

  -- The entries after the search.
  pub sought : (written : ℕ × Slot V → ℕ × Slot V)
      (kept : (key : ℕ) (slot : Slot V) (old new : D) (result : Result Unit Fault) (value : V) → flushes old key slot.value result new value → written (key, record slot { value = value }) ≡ written (key, slot))
      (read : V) (cap : ℕ) (may_flush : Bool) (key : ℕ) (before : D) (es : List (ℕ × Slot V)) (result : Result Admission Fault) (after : D) (es' : List (ℕ × Slot V))
      → ((mid : D) (value : V) → loads mid key (Ok value) after → value ≡ read) → (result ≡ Ok Denied → ⊥)
      → Readied (cache_kind nat_eq loads flushes cap) may_flush key before es result after es' → Sought written cap key read es (done_of result) es'
  sought written kept read cap may_flush key before es result after es' reads not r = record {
    unchanged_if_cached = λ there. (r.found there).2;
    loaded = λ none. let m = r.missed none in by-load m.room m.mid m.entries m.made result (λ v l. reads m.mid v l) not m.loaded;
    refused = by-refusal result r;
    pinned = elim (is-there (lookup (nat_eq key) es)) [
      | inl there ↦ pins-none es es' (r.found there).2
      | inr none ↦ let m = r.missed none in by-pins m.room m.mid m.entries m.made result not m.loaded
    ];
  }
    where
      by-load : (room : Result Admission Fault) (mid : D) (entries : List (ℕ × Slot V)) → MadeRoom (cache_kind nat_eq loads flushes cap) may_flush before es room mid entries → (result : Result Admission Fault) → ((value : V) → loads mid key (Ok value) after → value ≡ read) → (result ≡ Ok Denied → ⊥)
          → LoadedAfter loads key mid entries room result after es' → OnOk (done_of result) (es' ≡ (key, record { value = read; pins = 0 }) ∷ with_room cap es)
      by-load room mid entries made (Err fault) reads not later = tt
      by-load (Ok Granted) mid entries made (Ok found) reads not (is, value, load, list) =
          list ∙ ap (λ (v : V). (key, record { value = v; pins = 0 }) ∷ entries) (reads value load) ∙ ap (λ (l : List (ℕ × Slot V)). (key, record { value = read; pins = 0 }) ∷ l) (room-list cap may_flush before es mid entries made)
      by-load (Ok Denied) mid entries made (Ok found) reads not later = absurd (not later.0)
      by-load (Err fault) mid entries made (Ok found) reads not later = absurd (let no = later.0 in cc)

      by-pins : (room : Result Admission Fault) (mid : D) (entries : List (ℕ × Slot V)) → MadeRoom (cache_kind nat_eq loads flushes cap) may_flush before es room mid entries → (result : Result Admission Fault) → (result ≡ Ok Denied → ⊥)
          → LoadedAfter loads key mid entries room result after es' → PinsNothing es es'
      by-pins (Ok Granted) mid entries made (Ok found) not (is, value, load, list) =
          let made-room = room-list cap may_flush before es mid entries made in
          subst (λ l. PinsNothing es l) (sym list) (subst (λ l. PinsNothing es ((key, record { value = value; pins = 0 }) ∷ l)) (sym made-room) (pins-then es (with_room cap es) _ (pins-room cap es) (pins-new key value (with_room cap es))))
      by-pins (Ok Granted) mid entries made (Err fault) not (same, why) = subst (λ l. PinsNothing es l) (sym (same ∙ room-list cap may_flush before es mid entries made)) (pins-room cap es)
      by-pins (Ok Denied) mid entries made result not later = absurd (not later.0)
      by-pins (Err fault) mid entries made result not later = subst (λ l. PinsNothing es l) (sym later.2) (room-refused written kept cap may_flush before es fault mid entries made).1

      by-refused : (room : Result Admission Fault) (mid : D) (entries : List (ℕ × Slot V)) (fault : Fault) → MadeRoom (cache_kind nat_eq loads flushes cap) may_flush before es room mid entries → LoadedAfter loads key mid entries room (Err fault) after es'
          → (map written es' ≡ map written es) ⊎ (es' ≡ with_room cap es)
      by-refused (Ok Granted) mid entries fault made (same, why) = inr (same ∙ room-list cap may_flush before es mid entries made)
      by-refused (Ok Denied) mid entries fault made later = absurd (let no = later.0 in cc)
      by-refused (Err other) mid entries fault made later = inl (ap (λ l. map written l) later.2 ∙ (room-refused written kept cap may_flush before es other mid entries made).0)

      by-refusal : (result : Result Admission Fault) → Readied (cache_kind nat_eq loads flushes cap) may_flush key before es result after es' → OnErr (done_of result) ((map written es' ≡ map written es) ⊎ (es' ≡ with_room cap es))
      by-refusal (Ok found) r = tt
      by-refusal (Err fault) r = elim (is-there (lookup (nat_eq key) es)) [
        | inl there ↦ inl (ap (λ l. map written l) (r.found there).2)
        | inr none ↦ let m = r.missed none in by-refused m.room m.mid m.entries fault m.made m.loaded
      ]

  -- A relation that each load and each flush keeps is kept by the search.
  pub readied-related : (R : D → D → Type 0) (R-refl : (a : D) → R a a) (R-trans : (a b c : D) → R a b → R b c → R a c)
      → ((old new : D) (key : ℕ) (answer : Result V Fault) → loads old key answer new → R old new)
      → ((old new : D) (key : ℕ) (value value' : V) (answer : Result Unit Fault) → flushes old key value answer new value' → R old new)
      → (cap : ℕ) (may_flush : Bool) (key : ℕ) (before : D) (es : List (ℕ × Slot V)) (result : Result Admission Fault) (after : D) (es' : List (ℕ × Slot V)) → Readied (cache_kind nat_eq loads flushes cap) may_flush key before es result after es' → R before after
  readied-related R R-refl R-trans loading flushing cap may_flush key before es result after es' r = elim (is-there (lookup (nat_eq key) es)) [
    | inl there ↦ same before after (r.found there).1
    | inr none ↦ let m = r.missed none in R-trans before m.mid after (room-related (cache_kind nat_eq loads flushes cap) R R-refl flushing may_flush before es m.room m.mid m.entries m.made) (by-room m.room m.mid m.entries m.loaded)
  ]
    where
      same : (a b : D) → b ≡ a → R a b
      same a b is = subst (λ (d : D). R a d) (sym is) (R-refl a)

      by-answer : (mid : D) (entries : List (ℕ × Slot V)) (result : Result Admission Fault) → Loaded loads key mid entries result after es' → R mid after
      by-answer mid entries (Ok made) (is, value, load, list) = loading mid after key (Ok value) load
      by-answer mid entries (Err fault) (is, why) = elim why [ inl load ↦ loading mid after key (Err fault) load | inr short ↦ loading mid after key (Ok short.1) short.2 ]

      by-room : (room : Result Admission Fault) (mid : D) (entries : List (ℕ × Slot V)) → LoadedAfter loads key mid entries room result after es' → R mid after
      by-room (Ok Granted) mid entries later = by-answer mid entries result later
      by-room (Ok Denied) mid entries later = same mid after later.1
      by-room (Err fault) mid entries later = same mid after later.1

  -- If the cache has space, nothing is written.
  pub roomy-kept : (state : D → StorageState) (cap : ℕ) (may_flush : Bool) (key : ℕ) (before : D) (es : List (ℕ × Slot V)) (result : Result Admission Fault) (after : D) (es' : List (ℕ × Slot V))
      → ((old new : D) (answer : Result V Fault) → loads old key answer new → UnchangedButFaults (state old) (state new)) → UnchangedButFaults (state before) (state before)
      → length es < cap → Readied (cache_kind nat_eq loads flushes cap) may_flush key before es result after es' → UnchangedButFaults (state before) (state after)
  roomy-kept state cap may_flush key before es result after es' loading same roomy r = elim (is-there (lookup (nat_eq key) es)) [
    | inl there ↦ subst (λ (d : D). UnchangedButFaults (state before) (state d)) (sym (r.found there).1) same
    | inr none ↦ let m = r.missed none in let made = m.made.roomy roomy in by-room m.room m.mid m.entries made.0 made.1 m.loaded
  ]
    where
      by-answer : (result : Result Admission Fault) (mid : D) (entries : List (ℕ × Slot V)) → Loaded loads key mid entries result after es' → UnchangedButFaults (state mid) (state after)
      by-answer (Ok found) mid entries (is, value, load, list) = loading mid after (Ok value) load
      by-answer (Err fault) mid entries (same, why) = elim why [ inl load ↦ loading mid after (Err fault) load | inr full ↦ loading mid after (Ok full.1) full.2 ]

      by-room : (room : Result Admission Fault) (mid : D) (entries : List (ℕ × Slot V)) → room ≡ Ok Granted → mid ≡ before → LoadedAfter loads key mid entries room result after es' → UnchangedButFaults (state before) (state after)
      by-room room mid entries is same later =
          subst (λ (d : D). UnchangedButFaults (state d) (state after)) same (by-answer result mid entries (subst (λ (q : Result Admission Fault). LoadedAfter loads key mid entries q result after es') is later))

-- The causes of a failed search.
module _ {V D : Type 0} (state : D → StorageState) (loads : D → ℕ → Result V Fault → D → Type 0) (flushes : D → ℕ → V → Result Unit Fault → D → V → Type 0) (Reach : ℕ → V → Type 0)
    (step : (old : D) (key : ℕ) (value : V) (result : Result Unit Fault) (new : D) (value' : V) → flushes old key value result new value' → Counted (Reach key value) (state old) (state new) result) where
  abbrev RoomCounts : ℕ → D → List (ℕ × Slot V) → D → Result Admission Fault → Type 0
  RoomCounts cap before es after r = FailsFor (search_causes (AllByRecursion (λ (e : ℕ × Slot V). Reach e.0 e.1.value) es) (IsPinnedFull cap es) (state before).faults (state after).faults) (done_of r)

  pub room-counted : (cap : ℕ) (may_flush : Bool) (before : D) (es : List (ℕ × Slot V)) (result : Result Admission Fault) (after : D) (es' : List (ℕ × Slot V)) → MadeRoom (cache_kind nat_eq loads flushes cap) may_flush before es result after es'
      → ((state before).faults ≤ (state after).faults) × FailsFor (search_causes (AllByRecursion (λ (e : ℕ × Slot V). Reach e.0 e.1.value) es) (IsPinnedFull cap es) (state before).faults (state after).faults) (done_of result)
  room-counted cap may_flush before es result after es' made = elim (room-way (cache_kind nat_eq loads flushes cap) may_flush before es result after es' made) [
    | inl same ↦ let n = ap (λ (d : D). (state d).faults) same.device in (omega (arith, n), by-answer n same.answer)
    | inr gone ↦ by-eviction gone.key result gone.evicted
  ]
    where
      by-answer : (state after).faults ≡ (state before).faults → ((made : Admission) × (result ≡ Ok made)) ⊎ ((result ≡ Err CacheFull) × IsPinnedFull cap es) → RoomCounts cap before es after result
      by-answer n (inl answered) = subst (RoomCounts cap before es after) (sym answered.1) n
      by-answer n (inr pinned) = subst (RoomCounts cap before es after) (sym pinned.0) pinned.1

      by-eviction : (key : ℕ) (result : Result Admission Fault) → Evicted nat_eq flushes key before es result after es' → ((state before).faults ≤ (state after).faults) × RoomCounts cap before es after result
      by-eviction key (Ok made) (is, mid, at, removed) = let c = step before key at.slot.value (Ok tt) after at.value at.flush in (c.rising, c.counts)
      by-eviction key (Err fault) at =
          let c = step before key at.slot.value (Err fault) after at.value at.flush in (
            c.rising,
            cause-weaker (writing-implies _ (omega arith) (omega arith) (λ far all. far (all-at (λ (e : ℕ × Slot V). Reach e.0 e.1.value) key es at.slot at.slot_found all))) fault c.counts,
          )

  -- The fault counts and causes of the load.
  module _ (fine : D → ℕ → Type 0)
      (loading : (old : D) (key : ℕ) (answer : Result V Fault) (new : D) → loads old key answer new → ((state old).faults ≤ (state new).faults) × FailsFor (search_causes (fine new key) ⊥ (state old).faults (state new).faults) answer) where
    load-counted : (full : Type 0) (key : ℕ) (before : D) (es : List (ℕ × Slot V)) (result : Result Admission Fault) (after : D) (es' : List (ℕ × Slot V)) → Loaded loads key before es result after es'
        → ((state before).faults ≤ (state after).faults) × FailsFor (search_causes (fine after key) full (state before).faults (state after).faults) (done_of result)
    load-counted full key before es (Ok made) after es' (is, value, load, list) = loading before key (Ok value) after load
    load-counted full key before es (Err fault) after es' (same, why) = elim why [
      | inl load ↦ let l = loading before key (Err fault) after load in (l.0, cause-weaker (search-wider (λ f. f) absurd (omega arith) (omega arith)) fault l.1)
      | inr short ↦ let l = loading before key (Ok short.1) after short.2 in (l.0, subst (λ (q : Fault). HasCause (search_causes (fine after key) full (state before).faults (state after).faults) q) (sym short.0) tt)
    ]

    pub readied-counted : (cap : ℕ) (may_flush : Bool) (key : ℕ) (before : D) (es : List (ℕ × Slot V)) (result : Result Admission Fault) (after : D) (es' : List (ℕ × Slot V)) → Readied (cache_kind nat_eq loads flushes cap) may_flush key before es result after es'
        → ((state before).faults ≤ (state after).faults) × FailsFor (search_causes (fine after key × AllByRecursion (λ (e : ℕ × Slot V). Reach e.0 e.1.value) es) (IsPinnedFull cap es) (state before).faults (state after).faults) (done_of result)
    readied-counted cap may_flush key before es result after es' r = elim (is-there (lookup (nat_eq key) es)) [
      | inl there ↦
          let f = r.found there in
          let n = ap (λ (d : D). (state d).faults) f.1 in (
            omega (arith, n),
            subst (λ (q : Result Admission Fault). FailsFor (search_causes (fine after key × AllByRecursion (λ (e : ℕ × Slot V). Reach e.0 e.1.value) es) (IsPinnedFull cap es) (state before).faults (state after).faults) (done_of q)) (sym f.0) n,
          )
      | inr none ↦ let m = r.missed none in by-room m.room m.mid m.entries (room-counted cap may_flush before es m.room m.mid m.entries m.made) m.loaded
    ]
      where
        by-load : (mid : D) (result : Result Admission Fault) → (state mid).faults ≡ (state before).faults → FailsFor (search_causes (fine after key) (IsPinnedFull cap es) (state mid).faults (state after).faults) (done_of result)
            → FailsFor (search_causes (fine after key × AllByRecursion (λ (e : ℕ × Slot V). Reach e.0 e.1.value) es) (IsPinnedFull cap es) (state before).faults (state after).faults) (done_of result)
        by-load mid result same counts = fails-weaker _ _ (search-wider (λ f. f.0) (λ f. f) (omega (arith, same)) (omega arith)) (λ has_no_dirty_data. has_no_dirty_data ∙ same) (done_of result) counts

        by-room : (room : Result Admission Fault) (mid : D) (entries : List (ℕ × Slot V))
            → ((state before).faults ≤ (state mid).faults) × FailsFor (search_causes (AllByRecursion (λ (e : ℕ × Slot V). Reach e.0 e.1.value) es) (IsPinnedFull cap es) (state before).faults (state mid).faults) (done_of room)
            → LoadedAfter loads key mid entries room result after es'
            → ((state before).faults ≤ (state after).faults) × FailsFor (search_causes (fine after key × AllByRecursion (λ (e : ℕ × Slot V). Reach e.0 e.1.value) es) (IsPinnedFull cap es) (state before).faults (state after).faults) (done_of result)
        by-room (Ok Granted) mid entries counted later =
            let l = load-counted (IsPinnedFull cap es) key mid entries result after es' later in
            let same : (state mid).faults ≡ (state before).faults = counted.1 in
            let le = l.0 in (omega (arith, le, same), by-load mid result same l.1)
        by-room (Ok Denied) mid entries counted later =
            let n = ap (λ (d : D). (state d).faults) later.1 in
            let same : (state mid).faults ≡ (state before).faults = counted.1 in (
              omega (arith, n, same),
              subst (λ (q : Result Admission Fault). FailsFor (search_causes (fine after key × AllByRecursion (λ (e : ℕ × Slot V). Reach e.0 e.1.value) es) (IsPinnedFull cap es) (state before).faults (state after).faults) (done_of q)) (sym later.0) (n ∙ same),
            )
        by-room (Err fault) mid entries counted later =
            let n = ap (λ (d : D). (state d).faults) later.1 in
            let le = counted.0 in (
              omega (arith, n, le),
              subst (λ (q : Result Admission Fault). FailsFor (search_causes (fine after key × AllByRecursion (λ (e : ℕ × Slot V). Reach e.0 e.1.value) es) (IsPinnedFull cap es) (state before).faults (state after).faults) (done_of q)) (sym later.0)
                  (cause-weaker (search-wider (λ f. f.1) (λ f. f) (omega arith) (omega (arith, n))) fault counted.1),
            )
