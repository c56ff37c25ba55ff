-- The cache after a put, and the causes of a failed put.
use Rattle.std.proofs.Common.{◌≡◌, ℕ, ◌≤◌, refl, ap, sym, subst, ◌∙◌, List, [], ◌∷◌, ◌++◌, length, Option, Some, None, Result, Ok, Err, Bool, true, false, inl, inr, arith}
use Rattle.std.specs.Prelude.{◌⊎◌, map, nat_eq, ⊤, IsSome, OnOk, MatchResult}
use Rattle.std.specs.List.{AllByRecursion}
use Rattle.std.specs.Map.{lookup, set_value}
use Rattle.std.proofs.lemmas.Bool.{cases_Bool, cases_lt}
use Rattle.imago_storage.specs.State.{StorageState}
use Rattle.imago_storage.specs.Calls.{UnchangedButFaults}
use Rattle.imago_storage.specs.declared.fault.Fault.{Fault}
use Rattle.imago_storage.specs.declared.fault.Fault.TheVariants.{CacheFull}
use Rattle.qcow2_alloc.specs.declared.async_lru_cache.Admission.{Admission}
use Rattle.qcow2_alloc.specs.declared.async_lru_cache.Admission.TheVariants.{Granted, Denied}
use Rattle.qcow2_alloc.specs.declared.async_lru_cache.Slot.{Slot}
use Rattle.qcow2_alloc.specs.Cache.{cache_kind, FlushedAt, Evicted, MadeRoom, PutAfter, Overwritten, Inserted, hit, victim}
use Rattle.qcow2_alloc.specs.Causes.{FailsFor}
use Rattle.qcow2_alloc.specs.Finding.{IsPinnedFull, PinsNothing, with_room, LetsIn, search_causes}
use Rattle.qcow2_alloc.specs.Putting.{refusal_of, PutInto, MakesWay}
use Rattle.qcow2_alloc.proofs.Causes.{cause-weaker}
use Rattle.qcow2_alloc.proofs.Flushing.FlushRefusals.{Counted, writing-implies}
use Rattle.qcow2_alloc.proofs.Caching.Entries.{remove_written}
use Rattle.qcow2_alloc.proofs.Flushing.WriteSequences.{kept-same}
use Rattle.qcow2_alloc.proofs.Caching.Pins.{pins-hit, pins-new, pins-set, pins-then}
use Rattle.qcow2_alloc.proofs.Caching.Places.{Place, place-of-key, place-hit}
use Rattle.qcow2_alloc.proofs.Caching.EntryLoads.{is-there}
use Rattle.qcow2_alloc.proofs.Caching.Rooms.{room-related, never-denied}
use Rattle.qcow2_alloc.proofs.Caching.SearchOutcomes.{all-at, mapped-same, pins-room, room-counted, room-list, room-refused, done_of}

-- The result of a put with permission to flush.
abbrev pub put_of : {V : Type 0} → Result (Option V) (Fault × V) → Result Unit (Fault × V)
put_of (Ok back) = Ok tt
put_of (Err refused) = Err refused

-- A put without permission to flush returned the value.
abbrev pub IsBarred : {V : Type 0} → Result (Option V) (Fault × V) → Type 0
IsBarred (Ok None) = ⊥
IsBarred (Ok (Some back)) = ⊤
IsBarred (Err refused) = ⊥

lookup-set : {X : Type 0} (key : ℕ) (es : List (ℕ × X)) (x w : X) → lookup (nat_eq key) es ≡ Some x → lookup (nat_eq key) (set_value (nat_eq key) es w) ≡ Some w
lookup-set key [] x w there = absurd (cc)
lookup-set key (e ∷ es) x w there = elim (cases_Bool (nat_eq key e.0)) [
  | inl t ↦ rw t (rw t refl)
  | inr t ↦ rw t (rw t (lookup-set key es x w (rw t at there)))
]

-- A value replaces one that was flushed.
pub hit-written : {V : Type 0} (key : ℕ) (es : List (ℕ × Slot V)) (slot w : Slot V) (p : Place key es slot) (v : V) → lookup (nat_eq key) es ≡ Some slot
    → hit (nat_eq key) (set_value (nat_eq key) es w) v ≡ (key, record w { value = v }) ∷ p.front ++ p.back
hit-written key es slot w p v there =
    let q = place-of-key key (set_value (nat_eq key) es w) w (lookup-set key es slot w there) in
    place-hit key (set_value (nat_eq key) es w) w q v
    ∙ ap (λ l. (key, record w { value = v }) ∷ l) (sym q.removed ∙ remove_written (nat_eq key) es w ∙ p.removed)

module _ {V D : Type 0} (loads : D → ℕ → Result V Fault → D → Type 0) (flushes : D → ℕ → V → Result Unit Fault → D → V → Type 0) (written : ℕ × Slot V → ℕ × Slot V)
    (kept : (key : ℕ) (slot : Slot V) (old new : D) (result : Result Unit Fault) (value : V) → flushes old key slot.value result new value → written (key, record slot { value = value }) ≡ written (key, slot))
    (cap : ℕ) (may_flush : Bool) (key : ℕ) (value : V) (before : D) (es : List (ℕ × Slot V)) (after : D) (es' : List (ℕ × Slot V)) where
  over-list : (slot : Slot V) → lookup (nat_eq key) es ≡ Some slot → (mid : List (ℕ × Slot V)) (w : V) → mid ≡ set_value (nat_eq key) es (record slot { value = w }) → es' ≡ hit (nat_eq key) mid value → es' ≡ hit (nat_eq key) es value
  over-list slot there mid w is list =
      let p = place-of-key key es slot there in
      list ∙ ap (λ (l : List (ℕ × Slot V)). hit (nat_eq key) l value) is ∙ hit-written key es slot (record slot { value = w }) p value there ∙ sym (place-hit key es slot p value)

  -- The cache after the put.
  over-put : IsSome (lookup (nat_eq key) es) → (result : Result (Option V) (Fault × V)) → Overwritten nat_eq flushes (key, value) before es result after es' → PutInto written cap key value es (put_of result) es'
  over-put there (Ok back) (none, mid, at, list) =
      let is = over-list at.slot at.slot_found mid at.value at.entries list in
      record {
        over = λ t. is;
        added = λ none. absurd (let no = subst (λ (o : Option (Slot V)). IsSome o) none there in cc);
        refused = tt;
        pinned = subst (λ l. PinsNothing es l) (sym is) (pins-hit key es value);
      }
  over-put there (Err refused) (back, at) =
      let p = place-of-key key es at.slot at.slot_found in
      let w = record at.slot { value = at.value } in
      record {
        over = λ t. tt;
        added = λ none. tt;
        refused = (back, inl (ap (λ l. map written l) (at.entries ∙ p.set w) ∙ mapped-same written p.front (key, w) (key, at.slot) p.back (kept key at.slot before after (Err refused.0) at.value at.flush) ∙ ap (λ l. map written l) (sym p.is)));
        pinned = subst (λ l. PinsNothing es l) (sym at.entries) (pins-set key es at.slot w at.slot_found refl);
      }

  not-there : {X : Type 0} → lookup (nat_eq key) es ≡ None → IsSome (lookup (nat_eq key) es) → X
  not-there none there = absurd (let no = subst (λ (o : Option (Slot V)). IsSome o) none there in cc)

  added-put : lookup (nat_eq key) es ≡ None → (room : Result Admission Fault) (entries : List (ℕ × Slot V)) → MadeRoom (cache_kind nat_eq loads flushes cap) may_flush before es room after entries → (result : Result (Option V) (Fault × V)) → (IsBarred result → ⊥)
      → PutAfter (key, value) entries room result es' → PutInto written cap key value es (put_of result) es'
  added-put none (Ok Granted) entries made result not (inl put) =
      let list = room-list loads flushes cap may_flush before es after entries made in
      let is = put.1 ∙ ap (λ (l : List (ℕ × Slot V)). (key, record { value = value; pins = 0 }) ∷ l) list in
      subst (λ (q : Result (Option V) (Fault × V)). PutInto written cap key value es (put_of q) es') (sym put.0) (record {
        over = not-there none;
        added = λ n. is;
        refused = tt;
        pinned = subst (λ l. PinsNothing es l) (sym is) (pins-then es (with_room cap es) _ (pins-room loads flushes cap es) (pins-new key value (with_room cap es)));
      })
  added-put none (Ok Granted) entries made result not (inr short) =
      let is = short.1 ∙ room-list loads flushes cap may_flush before es after entries made in
      subst (λ (q : Result (Option V) (Fault × V)). PutInto written cap key value es (put_of q) es') (sym short.0) (record {
        over = not-there none;
        added = λ n. tt;
        refused = (refl, inr is);
        pinned = subst (λ l. PinsNothing es l) (sym is) (pins-room loads flushes cap es);
      })
  added-put none (Ok Denied) entries made result not put = absurd (not (subst (λ (q : Result (Option V) (Fault × V)). IsBarred q) (sym put.0) tt))
  added-put none (Err fault) entries made result not put =
      let r = room-refused loads flushes written kept cap may_flush before es fault after entries made in
      subst (λ (q : Result (Option V) (Fault × V)). PutInto written cap key value es (put_of q) es') (sym put.0) (record {
        over = not-there none;
        added = λ n. tt;
        refused = (refl, inl (ap (λ l. map written l) put.1 ∙ r.0));
        pinned = subst (λ l. PinsNothing es l) (sym put.1) r.1;
      })

  pub inserted-put : (result : Result (Option V) (Fault × V)) → (IsBarred result → ⊥) → Inserted (cache_kind nat_eq loads flushes cap) may_flush (key, value) before es result after es' → PutInto written cap key value es (put_of result) es'
  inserted-put result not i = elim (is-there (lookup (nat_eq key) es)) [
    | inr none ↦ let a = i.fresh none in added-put none a.room a.entries a.made result not a.put
    | inl there ↦ elim (cases_Bool may_flush) [
      | inl may ↦ over-put there result (i.over there may)
      | inr off ↦ absurd (not (subst (λ (q : Result (Option V) (Fault × V)). IsBarred q) (sym (i.barred there off).0) tt))
    ]
  ]

-- The causes of a failure.
module _ {V D : Type 0} (state : D → StorageState) (loads : D → ℕ → Result V Fault → D → Type 0) (flushes : D → ℕ → V → Result Unit Fault → D → V → Type 0) (Reach : ℕ → V → Type 0)
    (step : (old : D) (key : ℕ) (value : V) (result : Result Unit Fault) (new : D) (value' : V) → flushes old key value result new value' → Counted (Reach key value) (state old) (state new) result)
    (cap : ℕ) (may_flush : Bool) (key : ℕ) (value : V) (before : D) (es : List (ℕ × Slot V)) (after : D) (es' : List (ℕ × Slot V)) where
  abbrev Counts : Result (Option V) (Fault × V) → Type 0
  Counts result = FailsFor (search_causes (AllByRecursion (λ (e : ℕ × Slot V). Reach e.0 e.1.value) es) (IsPinnedFull cap es) (state before).faults (state after).faults) (refusal_of (put_of result))

  over-counted : (result : Result (Option V) (Fault × V)) → Overwritten nat_eq flushes (key, value) before es result after es' → Counts result
  over-counted (Ok back) (none, mid, at, list) = (step before key at.slot.value (Ok tt) after at.value at.flush).counts
  over-counted (Err refused) (back, at) =
      cause-weaker (writing-implies _ (omega arith) (omega arith) (λ far all. far (all-at (λ (e : ℕ × Slot V). Reach e.0 e.1.value) key es at.slot at.slot_found all))) refused.0 (step before key at.slot.value (Err refused.0) after at.value at.flush).counts

  added-counted : (room : Result Admission Fault) (entries : List (ℕ × Slot V)) → FailsFor (search_causes (AllByRecursion (λ (e : ℕ × Slot V). Reach e.0 e.1.value) es) (IsPinnedFull cap es) (state before).faults (state after).faults) (done_of room)
      → (result : Result (Option V) (Fault × V)) → PutAfter (key, value) entries room result es' → Counts result
  added-counted (Ok Granted) entries same result (inl put) = subst (λ (q : Result (Option V) (Fault × V)). Counts q) (sym put.0) same
  added-counted (Ok Granted) entries same result (inr short) = subst (λ (q : Result (Option V) (Fault × V)). Counts q) (sym short.0) tt
  added-counted (Ok Denied) entries same result put = subst (λ (q : Result (Option V) (Fault × V)). Counts q) (sym put.0) same
  added-counted (Err fault) entries why result put = subst (λ (q : Result (Option V) (Fault × V)). Counts q) (sym put.0) why

  pub inserted-counted : (result : Result (Option V) (Fault × V)) → Inserted (cache_kind nat_eq loads flushes cap) may_flush (key, value) before es result after es' → Counts result
  inserted-counted result i = elim (is-there (lookup (nat_eq key) es)) [
    | inr none ↦ let a = i.fresh none in added-counted a.room a.entries (room-counted state loads flushes Reach step cap may_flush before es a.room after a.entries a.made).1 result a.put
    | inl there ↦ elim (cases_Bool may_flush) [
      | inl may ↦ over-counted result (i.over there may)
      | inr off ↦
          let b = i.barred there off in
          subst (λ (q : Result (Option V) (Fault × V)). Counts q) (sym b.0) (ap (λ (d : D). (state d).faults) b.1)
    ]
  ]

-- With permission to flush, the value is only returned with a fault.
module _ {V D : Type 0} (loads : D → ℕ → Result V Fault → D → Type 0) (flushes : D → ℕ → V → Result Unit Fault → D → V → Type 0) (cap key : ℕ) (value : V) (before : D) (es : List (ℕ × Slot V)) (after : D) (es' : List (ℕ × Slot V)) where
  put-not-barred : (room : Result Admission Fault) (entries : List (ℕ × Slot V)) → MadeRoom (cache_kind nat_eq loads flushes cap) true before es room after entries → (result : Result (Option V) (Fault × V)) → PutAfter (key, value) entries room result es' → IsBarred result → ⊥
  put-not-barred (Ok Granted) entries made result (inl now) barred = subst (λ (q : Result (Option V) (Fault × V)). IsBarred q) now.0 barred
  put-not-barred (Ok Granted) entries made result (inr short) barred = subst (λ (q : Result (Option V) (Fault × V)). IsBarred q) short.0 barred
  put-not-barred (Ok Denied) entries made result put barred = never-denied (cache_kind nat_eq loads flushes cap) before es after entries made
  put-not-barred (Err fault) entries made result put barred = subst (λ (q : Result (Option V) (Fault × V)). IsBarred q) put.0 barred

  over-not-barred : (result : Result (Option V) (Fault × V)) → Overwritten nat_eq flushes (key, value) before es result after es' → IsBarred result → ⊥
  over-not-barred (Ok None) over barred = barred
  over-not-barred (Ok (Some back)) over barred = let no = over.0 in cc
  over-not-barred (Err refused) over barred = barred

  pub never-barred : (result : Result (Option V) (Fault × V)) → Inserted (cache_kind nat_eq loads flushes cap) true (key, value) before es result after es' → IsBarred result → ⊥
  never-barred result i barred = elim (is-there (lookup (nat_eq key) es)) [
    | inr none ↦ let a = i.fresh none in put-not-barred a.room a.entries a.made result a.put barred
    | inl there ↦ over-not-barred result (i.over there refl) barred
  ]

-- A relation that each flush keeps is kept by the put.
module _ {V D : Type 0} (loads : D → ℕ → Result V Fault → D → Type 0) (flushes : D → ℕ → V → Result Unit Fault → D → V → Type 0) (R : D → D → Type 0) (R-refl : (a : D) → R a a)
    (flushing : (old new : D) (key : ℕ) (value value' : V) (answer : Result Unit Fault) → flushes old key value answer new value' → R old new)
    (cap : ℕ) (may_flush : Bool) (key : ℕ) (value : V) (before : D) (es : List (ℕ × Slot V)) (after : D) (es' : List (ℕ × Slot V)) where
  unmoved : after ≡ before → R before after
  unmoved is = subst (λ (d : D). R before d) (sym is) (R-refl before)

  over-moved : (result : Result (Option V) (Fault × V)) → Overwritten nat_eq flushes (key, value) before es result after es' → R before after
  over-moved (Ok back) (none, mid, at, list) = flushing before after key at.slot.value at.value (Ok tt) at.flush
  over-moved (Err refused) (back, at) = flushing before after key at.slot.value at.value (Err refused.0) at.flush

  pub inserted-related : (result : Result (Option V) (Fault × V)) → Inserted (cache_kind nat_eq loads flushes cap) may_flush (key, value) before es result after es' → R before after
  inserted-related result i = elim (is-there (lookup (nat_eq key) es)) [
    | inr none ↦ let a = i.fresh none in room-related (cache_kind nat_eq loads flushes cap) R R-refl flushing may_flush before es a.room after a.entries a.made
    | inl there ↦ elim (cases_Bool may_flush) [
      | inl may ↦ over-moved result (i.over there may)
      | inr off ↦ unmoved (i.barred there off).1
    ]
  ]

-- The evicted entry was flushed.
module _ {V D : Type 0} (loads : D → ℕ → Result V Fault → D → Type 0) (flushes : D → ℕ → V → Result Unit Fault → D → V → Type 0) (cap key : ℕ) (value : V) (before : D) (es : List (ℕ × Slot V)) (after : D) (es' : List (ℕ × Slot V)) where
  abbrev pub Flushes : ℕ → Slot V → Type 0
  Flushes k slot = (left : V) × flushes before k slot.value (Ok tt) after left

  at-flushed : (k : ℕ) (slot : Slot V) → lookup (nat_eq k) es ≡ Some slot → (entries : List (ℕ × Slot V)) → FlushedAt nat_eq flushes k before es (Ok tt) after entries → Flushes k slot
  at-flushed k slot there entries at =
      let same : at.slot ≡ slot = (let e = sym at.slot_found ∙ there in cc) in
      (at.value, subst (λ (s : Slot V). flushes before k s.value (Ok tt) after at.value) same at.flush)

  over-flushed : (slot : Slot V) → lookup (nat_eq key) es ≡ Some slot → (result : Result (Option V) (Fault × V)) → Overwritten nat_eq flushes (key, value) before es result after es' → OnOk (put_of result) (Flushes key slot)
  over-flushed slot there (Ok back) (none, mid, at, list) = at-flushed key slot there mid at
  over-flushed slot there (Err refused) over = tt

  where-ok : {X : Type 0} (result : Result (Option V) (Fault × V)) → X → OnOk (put_of result) X
  where-ok (Ok back) x = x
  where-ok (Err refused) x = tt

  room-flushed : (k : ℕ) (slot : Slot V) → lookup (nat_eq k) es ≡ Some slot → cap ≤ length es → victim es ≡ Some k → (room : Result Admission Fault) (entries : List (ℕ × Slot V)) → MadeRoom (cache_kind nat_eq loads flushes cap) true before es room after entries
      → (result : Result (Option V) (Fault × V)) → PutAfter (key, value) entries room result es' → OnOk (put_of result) (Flushes k slot)
  room-flushed k slot there full is (Ok done) entries made result put =
      let e = made.evicted full refl k is in
      where-ok result (at-flushed k slot there e.1 e.2)
  room-flushed k slot there full is (Err fault) entries made result put = subst (λ (q : Result (Option V) (Fault × V)). OnOk (put_of q) (Flushes k slot)) (sym put.0) tt

  pub way-flushed : (result : Result (Option V) (Fault × V)) → Inserted (cache_kind nat_eq loads flushes cap) true (key, value) before es result after es' → (k : ℕ) (slot : Slot V) → MakesWay cap key es k → lookup (nat_eq k) es ≡ Some slot → OnOk (put_of result) (Flushes k slot)
  way-flushed result i k slot (inl same) there =
      let here = subst (λ (n : ℕ). lookup (nat_eq n) es ≡ Some slot) same there in
      subst (λ (n : ℕ). OnOk (put_of result) (Flushes n slot)) (sym same) (over-flushed slot here result (i.over (subst (λ (o : Option (Slot V)). IsSome o) (sym here) refl) refl))
  way-flushed result i k slot (inr (none, full, is)) there = let a = i.fresh none in room-flushed k slot there full is a.room a.entries a.made result a.put

  -- Without permission to flush, nothing is evicted.
  pub way-barred : (result : Result (Option V) (Fault × V)) → (IsBarred result → ⊥) → Inserted (cache_kind nat_eq loads flushes cap) false (key, value) before es result after es' → (k : ℕ) (slot : Slot V) → MakesWay cap key es k → lookup (nat_eq k) es ≡ Some slot → ⊥
  way-barred result not i k slot (inl same) there =
      let here = subst (λ (n : ℕ). lookup (nat_eq n) es ≡ Some slot) same there in
      not (subst (λ (q : Result (Option V) (Fault × V)). IsBarred q) (sym (i.barred (subst (λ (o : Option (Slot V)). IsSome o) (sym here) refl) refl).0) tt)
  way-barred result not i k slot (inr (none, full, is)) there =
      let a = i.fresh none in
      let barred = subst (λ (q : Result Admission Fault). PutAfter (key, value) a.entries q result es') (a.made.full full refl).0 a.put in
      not (subst (λ (q : Result (Option V) (Fault × V)). IsBarred q) (sym barred.0) tt)

pub put-then : {V X Y : Type 0} (result : Result (Option V) (Fault × V)) → (X → Y) → OnOk (put_of result) X → OnOk (put_of result) Y
put-then (Ok back) f x = f x
put-then (Err refused) f x = tt

-- A value enters a full cache after the evicted entry is flushed.
module _ {V D : Type 0} (state : D → StorageState) (loads : D → ℕ → Result V Fault → D → Type 0) (flushes : D → ℕ → V → Result Unit Fault → D → V → Type 0) (asks : StorageState → ℕ → V → Result Unit Fault → StorageState → V → Type 0)
    (asked : (old new : D) (key : ℕ) (value value' : V) (answer : Result Unit Fault) → flushes old key value answer new value' → asks (state old) key value answer (state new) value')
    (cap key : ℕ) (value : V) (before : D) (es : List (ℕ × Slot V)) (after : D) (es' : List (ℕ × Slot V)) (none : lookup (nat_eq key) es ≡ None) (full : cap ≤ length es) where
  abbrev Refused : Result (Option V) (Fault × V) → Result Unit Fault
  Refused result = refusal_of (put_of result)

  room-lets-in : (room : Result Admission Fault) (entries : List (ℕ × Slot V)) → MadeRoom (cache_kind nat_eq loads flushes cap) true before es room after entries → (result : Result (Option V) (Fault × V)) → PutAfter (key, value) entries room result es'
      → LetsIn asks (state before) es (Refused result) (state after) es'
  room-lets-in room entries made result put = record {
    stuck = λ no. no-room room (made.pinned full refl no) put;
    goes = λ k is. by-room k room (made.evicted full refl k is) put;
  }
    where
      no-room : (room : Result Admission Fault) → (room ≡ Err CacheFull) × (after ≡ before) × (entries ≡ es) → PutAfter (key, value) entries room result es' → (Refused result ≡ Err CacheFull) × (state after ≡ state before) × (es' ≡ es)
      no-room room (is, same, list) put =
          let p : (result ≡ Err (CacheFull, value)) × (es' ≡ entries) = subst (λ (q : Result Admission Fault). PutAfter (key, value) entries q result es') is put in
          (ap Refused p.0, ap state same, p.1 ∙ list)

      by-room : (k : ℕ) (room : Result Admission Fault) → Evicted nat_eq flushes k before es room after entries → PutAfter (key, value) entries room result es'
          → (mid : StorageState) × (answer : Result Unit Fault) × (flushed : List (ℕ × Slot V)) × FlushedAt nat_eq asks k (state before) es answer mid flushed
          × MatchResult answer (λ _. UnchangedButFaults mid (state after)) (λ fault. (Refused result ≡ Err fault) × (state after ≡ mid) × (es' ≡ flushed))
      by-room k (Ok made) (is, flushed, at, removed) put =
          (state after, Ok tt, flushed, record { slot = at.slot; value = at.value; slot_found = at.slot_found; flush = asked before after k at.slot.value at.value (Ok tt) at.flush; entries = at.entries }, kept-same (state after))
      by-room k (Err fault) at put =
          (state after, Err fault, entries, record { slot = at.slot; value = at.value; slot_found = at.slot_found; flush = asked before after k at.slot.value at.value (Err fault) at.flush; entries = at.entries }, (ap Refused put.0, refl, put.1))

  pub inserted-lets-in : (result : Result (Option V) (Fault × V)) → Inserted (cache_kind nat_eq loads flushes cap) true (key, value) before es result after es' → LetsIn asks (state before) es (Refused result) (state after) es'
  inserted-lets-in result i = let a = i.fresh none in room-lets-in a.room a.entries a.made result a.put

  -- Without permission to flush, the value is returned.
  pub inserted-barred : (result : Result (Option V) (Fault × V)) → (IsBarred result → ⊥) → Inserted (cache_kind nat_eq loads flushes cap) false (key, value) before es result after es' → ⊥
  inserted-barred result not i =
      let a = i.fresh none in
      let barred : (result ≡ Ok (Some value)) × (es' ≡ a.entries) = subst (λ (q : Result Admission Fault). PutAfter (key, value) a.entries q result es') (a.made.full full refl).0 a.put in
      not (subst (λ (q : Result (Option V) (Fault × V)). IsBarred q) (sym barred.0) tt)

-- A put that flushes nothing.
module _ {V D : Type 0} (loads : D → ℕ → Result V Fault → D → Type 0) (flushes : D → ℕ → V → Result Unit Fault → D → V → Type 0) (cap key : ℕ) (value : V) (before : D) (es : List (ℕ × Slot V)) (after : D) (es' : List (ℕ × Slot V)) where
  -- The outcome of a put without permission to flush, if the value isn't returned.
  pub record GuestUnchanged (result : Result (Option V) (Fault × V)) : Type 0 where
    pub file : after ≡ before
    pub absent : lookup (nat_eq key) es ≡ None
    pub way : (es' ≡ es) ⊎ ((es' ≡ (key, record { value = value; pins = 0 }) ∷ es) × (result ≡ Ok None))

  quiet-put : lookup (nat_eq key) es ≡ None → (room : Result Admission Fault) (entries : List (ℕ × Slot V)) → MadeRoom (cache_kind nat_eq loads flushes cap) false before es room after entries → (result : Result (Option V) (Fault × V)) → (IsBarred result → ⊥)
      → PutAfter (key, value) entries room result es' → GuestUnchanged result
  quiet-put none room entries made result not later = elim (cases_lt (length es) cap) [
    | inl roomy ↦
        let r = made.roomy roomy in
        elim (subst (λ (q : Result Admission Fault). PutAfter (key, value) entries q result es') r.0 later) [
          | inl now ↦ record { file = r.1; absent = none; way = inr (now.1 ∙ ap (λ (l : List (ℕ × Slot V)). (key, record { value = value; pins = 0 }) ∷ l) r.2, now.0) }
          | inr short ↦ record { file = r.1; absent = none; way = inl (short.1 ∙ r.2) }
        ]
    | inr full ↦
        let r = made.full full refl in
        let barred = subst (λ (q : Result Admission Fault). PutAfter (key, value) entries q result es') r.0 later in
        absurd (not (subst (λ (q : Result (Option V) (Fault × V)). IsBarred q) (sym barred.0) tt))
  ]

  pub guest_unchanged : (result : Result (Option V) (Fault × V)) → (IsBarred result → ⊥) → Inserted (cache_kind nat_eq loads flushes cap) false (key, value) before es result after es' → GuestUnchanged result
  guest_unchanged result not i = elim (is-there (lookup (nat_eq key) es)) [
    | inr none ↦ let added = i.fresh none in quiet-put none added.room added.entries added.made result not added.put
    | inl there ↦ absurd (not (subst (λ (q : Result (Option V) (Fault × V)). IsBarred q) (sym (i.barred there refl).0) tt))
  ]

  -- The value is returned, and nothing changes.
  pub record IsBack (back : V) : Type 0 where
    pub same : back ≡ value
    pub file : after ≡ before
    pub entries : es' ≡ es
    pub full : lookup (nat_eq key) es ≡ None → cap ≤ length es

  pub put-back : (back : V) → Inserted (cache_kind nat_eq loads flushes cap) false (key, value) before es (Ok (Some back)) after es' → IsBack back
  put-back back i = elim (is-there (lookup (nat_eq key) es)) [
    | inl there ↦
        let b = i.barred there refl in
        record { same = (let e = b.0 in cc); file = b.1; entries = b.2; full = λ none. absurd (let no = subst (λ (o : Option (Slot V)). IsSome o) none there in cc) }
    | inr none ↦ let added = i.fresh none in elim (cases_lt (length es) cap) [
      | inl roomy ↦
          let r = added.made.roomy roomy in
          absurd (elim (subst (λ (q : Result Admission Fault). PutAfter (key, value) added.entries q (Ok (Some back)) es') r.0 added.put) [
            | inl now ↦ let no = now.0 in cc
            | inr short ↦ let no = short.0 in cc
          ])
      | inr full ↦
          let r = added.made.full full refl in
          let barred = subst (λ (q : Result Admission Fault). PutAfter (key, value) added.entries q (Ok (Some back)) es') r.0 added.put in
          record { same = (let e = barred.0 in cc); file = r.1; entries = barred.1 ∙ r.2; full = λ none. full }
    ]
  ]
