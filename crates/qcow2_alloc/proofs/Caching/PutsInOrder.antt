-- Putting an entry into its cache, after the writes that must come first.
use Rattle.std.proofs.Common.{◌≡◌, ℕ, refl, ap, sym, subst, ◌∙◌, List, ◌∷◌, ◌++◌, Option, None, Result, Ok, Err, true, inl, inr}
use Rattle.std.specs.Prelude.{◌⊎◌, nat_eq, ⊤}
use Rattle.std.specs.Map.{lookup}
use Rattle.imago_storage.specs.State.{StorageState}
use Rattle.imago_storage.specs.declared.fault.Fault.{Fault}
use Rattle.qcow2_types.specs.Bytes.{bytes_of}
use Rattle.qcow2_types.specs.Header.{Header}
use Rattle.qcow2_alloc.specs.CachedKinds.{CachedKind, loads_of, flushes_of}
use Rattle.qcow2_alloc.specs.declared.async_lru_cache.Admission.{Admission}
use Rattle.qcow2_alloc.specs.declared.async_lru_cache.Admission.TheVariants.{Granted, Denied}
use Rattle.qcow2_alloc.specs.declared.async_lru_cache.Slot.{Slot}
use Rattle.qcow2_alloc.specs.declared.cache.CacheDependency.{CacheDependency}
use Rattle.qcow2_alloc.specs.declared.file.ImageFile.{ImageFile}
use Rattle.qcow2_alloc.specs.Cache.{cache_kind, MadeRoom, PutAfter, Overwritten, Inserted, hit}
use Rattle.qcow2_alloc.specs.Going.{WritesBackCached, Always, IsNotResourceError, HadNoResourceError}
use Rattle.qcow2_alloc.specs.Memory.{Cached, memory}
use Rattle.qcow2_alloc.specs.Putting.{refusal_of}
use Rattle.qcow2_alloc.specs.WellFormedness.{WellFormed, IsCrashImage}
use Rattle.qcow2_alloc.proofs.Caching.PutOutcomes.{put_of, hit-written}
use Rattle.qcow2_alloc.proofs.Caching.Places.{place-of-key}
use Rattle.qcow2_alloc.proofs.Caching.EntryLoads.{is-there, room-made, room-absent}
use Rattle.qcow2_alloc.proofs.Caching.Sides.{SideLaws, Ready, FitsIn, new-comes, new-replaces}
use Rattle.qcow2_alloc.proofs.Flushing.WriteSequences.{going-weaker, going-ready, going-under, going-both-from}

-- The entry is added, or replaces another.
module _ {S V W : Type 0} (side : CachedKind S V W) (laws : SideLaws side) (H : Header) (order : CacheDependency) (rest : List (ℕ × Slot W)) (key : ℕ) (value : V) (a : StorageState) (A : Cached) (P : Type 0)
    (from : WellFormed (bytes_of a.bytes) H A order → P → (b : StorageState) → IsCrashImage (bytes_of a.bytes) (memory (bytes_of a.bytes) H.fields A) H (bytes_of b.bytes) → FitsIn side H key value b) where
  abbrev put : List (ℕ × Slot V) → Cached
  put = side.cached rest

  abbrev state : ImageFile S → StorageState
  state d = side.state d.image

  -- `WritesBackCached` from the start of the call.
  abbrev From : (Cached → Type 0) → Type 0 → StorageState → List (ℕ × Slot V) → Type 0
  From Ready ok b es = WritesBackCached H order Ready ok a A b (put es)

  -- A final change of the entries, after calls that preserve the image.
  last : (b : StorageState) (es es' : List (ℕ × Slot V)) (ok ok' : Type 0) → (ok' → ok) → From Always ok b es
      → WritesBackCached H order (λ _. FitsIn side H key value b) ⊤ b (put es) b (put es') → From (λ _. P) ok' b es'
  last b es es' ok ok' was first second =
      going-weaker H order (λ _. P) (ok × ⊤) ok' a b A (put es') (λ o. (was o, tt))
      (going-both-from H order (λ _. P) (λ _. FitsIn side H key value b) ok ⊤ a b b A (put es) (put es') (λ keeps well_formed p m. from well_formed p b m.left) (λ p. p)
      (going-under H order P ok a b A (put es) first) second)

  halted : (b : StorageState) (es es' : List (ℕ × Slot V)) (ok ok' : Type 0) → (ok' → ok) → es' ≡ es → From Always ok b es → From (λ _. P) ok' b es'
  halted b es es' ok ok' was same first =
      subst (λ (l : List (ℕ × Slot V)). From (λ _. P) ok' b l) (sym same)
      (going-under H order P ok' a b A (put es) (going-weaker H order Always ok ok' a b A (put es) was first))

  -- Without a flush: the entry is added, or nothing changes.
  pub put-quietly : (ok : Type 0) (b : StorageState) (es es' : List (ℕ × Slot V)) (X : Type 0) → From Always ok b es → lookup (nat_eq key) es ≡ None
      → (es' ≡ es) ⊎ ((es' ≡ (key, record { value = value; pins = 0 }) ∷ es) × X) → From (λ _. P) ok b es'
  put-quietly ok b es es' X first absent (inl same) = halted b es es' ok ok (λ o. o) same first
  put-quietly ok b es es' X first absent (inr more) = subst (λ (l : List (ℕ × Slot V)). From (λ _. P) ok b l) (sym more.0) (last b es _ ok ok (λ o. o) first (new-comes side laws H order rest key value b es absent))

  module _ (cap : ℕ) (before : ImageFile S) (es : List (ℕ × Slot V)) (after : ImageFile S) (es' : List (ℕ × Slot V))
      (ok : Type 0) (done : ok) (first : From Always ok (state before) es) (ready : Ready side order (put es)) where
    then-so : (ok' : Type 0) (list : List (ℕ × Slot V)) → WritesBackCached H order (Ready side order) ok' (state before) (put es) (state after) (put list)
        → From Always ok' (state after) list
    then-so ok' list second =
        going-ready H order (Ready side order) ok ok' a (state before) (state after) A (put es) (put list) done ready first second

    abbrev Put : Result (Option V) (Fault × V) → Type 0
    Put result = From (λ _. P) (HadNoResourceError (refusal_of (put_of result))) (state after) es'

    by-put : lookup (nat_eq key) es ≡ None → (room : Result Admission Fault) (entries : List (ℕ × Slot V)) → MadeRoom (cache_kind nat_eq (loads_of side) (flushes_of side) cap) true before es room after entries → (result : Result (Option V) (Fault × V))
        → PutAfter (key, value) entries room result es' → Put result
    by-put none room entries made result later =
        by-room room (room-absent (loads_of side) (flushes_of side) cap true key before es room after entries made) (then-so (HadNoResourceError room) entries (room-made side laws H order rest cap true before es room after entries made)) later
      where
        by-room : (room : Result Admission Fault) → (room ≡ Ok Granted → lookup (nat_eq key) es ≡ None → lookup (nat_eq key) entries ≡ None) → From Always (HadNoResourceError room) (state after) entries
            → PutAfter (key, value) entries room result es' → Put result
        by-room (Ok Granted) absent second (inl now) =
            subst (λ (l : List (ℕ × Slot V)). From (λ _. P) (HadNoResourceError (refusal_of (put_of result))) (state after) l) (sym now.1)
            (last (state after) entries _ ⊤ (HadNoResourceError (refusal_of (put_of result))) (λ w. tt) second (new-comes side laws H order rest key value (state after) entries (absent refl none)))
        by-room (Ok Granted) absent second (inr short) = halted (state after) entries es' ⊤ (HadNoResourceError (refusal_of (put_of result))) (λ w. tt) short.1 second
        by-room (Ok Denied) absent second later = halted (state after) entries es' ⊤ (HadNoResourceError (refusal_of (put_of result))) (λ w. tt) later.1 second
        by-room (Err fault) absent second later =
            halted (state after) entries es' (IsNotResourceError fault) (HadNoResourceError (refusal_of (put_of result))) (λ w. subst (λ (q : Result (Option V) (Fault × V)). HadNoResourceError (refusal_of (put_of q))) later.0 w) later.1 second

    by-over : (result : Result (Option V) (Fault × V)) → Overwritten nat_eq (flushes_of side) (key, value) before es result after es' → Put result
    by-over (Ok back) (none, mid, at, list) =
        let p = place-of-key key es at.slot at.slot_found in
        let w = record at.slot { value = at.value } in
        let flushed = laws.flushed H order rest p.front key at.slot p.back (state before) (state after) (Ok tt) at.value at.flush.1 in
        let second = then-so ⊤ (p.front ++ (key, w) ∷ p.back)
        (subst (λ (l : List (ℕ × Slot V)). WritesBackCached H order (Ready side order) ⊤ (state before) (put l) (state after) (put (p.front ++ (key, w) ∷ p.back))) (sym p.is) flushed) in
        let now : es' ≡ (key, record w { value = value }) ∷ p.front ++ p.back =
        list ∙ ap (λ (l : List (ℕ × Slot V)). hit (nat_eq key) l value) at.entries ∙ hit-written key es at.slot w p value at.slot_found in
        subst (λ (l : List (ℕ × Slot V)). From (λ _. P) ⊤ (state after) l) (sym now)
        (last (state after) (p.front ++ (key, w) ∷ p.back) _ ⊤ ⊤ (λ w. tt) second
        (new-replaces side laws H order rest key value (state after) p.front w p.back (laws.cleaned key at.slot.value (state before) (state after) at.value at.flush.1)))
    by-over (Err refused) (back, at) =
        let p = place-of-key key es at.slot at.slot_found in
        let w = record at.slot { value = at.value } in
        let flushed = laws.flushed H order rest p.front key at.slot p.back (state before) (state after) (Err refused.0) at.value at.flush.1 in
        let second = then-so (IsNotResourceError refused.0) (p.front ++ (key, w) ∷ p.back)
        (subst (λ (l : List (ℕ × Slot V)). WritesBackCached H order (Ready side order) (IsNotResourceError refused.0) (state before) (put l) (state after) (put (p.front ++ (key, w) ∷ p.back))) (sym p.is) flushed) in
        halted (state after) (p.front ++ (key, w) ∷ p.back) es' (IsNotResourceError refused.0) (IsNotResourceError refused.0) (λ w. w) (at.entries ∙ p.set w) second

    -- With a flush of the evicted entry.
    pub put-going : (result : Result (Option V) (Fault × V)) → Inserted (cache_kind nat_eq (loads_of side) (flushes_of side) cap) true (key, value) before es result after es' → Put result
    put-going result i = elim (is-there (lookup (nat_eq key) es)) [
      | inr none ↦ let added = i.fresh none in by-put none added.room added.entries added.made result added.put
      | inl there ↦ by-over result (i.over there refl)
    ]
