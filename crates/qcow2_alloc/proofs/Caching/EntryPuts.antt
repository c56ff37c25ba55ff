-- Putting an entry into one of the two caches.
use Rattle.std.proofs.Common.{◌≡◌, ℕ, ◌<◌, ◌≤◌, refl, arith, ap, sym, subst, ◌∙◌, List, length, Option, None, Some, Result, Ok, Err, Bool, true, false, inl}
use Rattle.std.specs.Prelude.{nat_eq, map}
use Rattle.std.specs.Map.{lookup}
use Rattle.imago_storage.specs.State.{StorageState}
use Rattle.imago_storage.specs.Calls.{UnchangedButFaults}
use Rattle.imago_storage.specs.declared.fault.Fault.{Fault}
use Rattle.qcow2_types.specs.Bytes.{bytes_of}
use Rattle.qcow2_alloc.specs.CachedKinds.{AreInReach, Beside, CachedKind, WritesOther, as_written, cached_of, flushes_of, loads_of}
use Rattle.qcow2_alloc.specs.declared.async_lru_cache.AsyncLruCache.{AsyncLruCache}
use Rattle.qcow2_alloc.specs.declared.async_lru_cache.Slot.{Slot}
use Rattle.qcow2_alloc.specs.declared.file.ImageFile.{ImageFile}
use Rattle.qcow2_alloc.specs.Backends.{Flushed}
use Rattle.qcow2_alloc.specs.Cache.{cache_kind, Inserted, with_entries}
use Rattle.qcow2_alloc.specs.Causes.{FailsFor}
use Rattle.qcow2_alloc.specs.Finding.{IsPinnedFull, LetsEntryIn, search_causes}
use Rattle.qcow2_alloc.specs.Putting.{EntryInserted, IsNew, refusal_of}
use Rattle.qcow2_alloc.specs.Going.{WritesBackCached, Always, HadNoResourceError, IsNotResourceError}
use Rattle.qcow2_alloc.specs.Memory.{memory}
use Rattle.qcow2_alloc.specs.WellFormedness.{WellFormed, IsCrashImage}
use Rattle.qcow2_alloc.proofs.Flushing.FlushRefusals.{writing-implies, never-refused}
use Rattle.qcow2_alloc.proofs.Causes.{cause-weaker}
use Rattle.qcow2_alloc.proofs.Flushing.WriteSequences.{kept-same, going-none, going-under, going-safely}
use Rattle.qcow2_alloc.proofs.Caching.PutOutcomes.{put_of, IsBarred, inserted-put, inserted-counted, inserted-related, never-barred, put-then, way-flushed, way-barred, inserted-lets-in, inserted-barred, guest_unchanged, put-back}
use Rattle.qcow2_alloc.proofs.Caching.PutsInOrder.{put-going, put-quietly}
use Rattle.qcow2_alloc.proofs.Caching.Admission.{behind-done, behind-refused}
use Rattle.qcow2_alloc.proofs.Caching.Pins.{pins-none}
use Rattle.qcow2_alloc.proofs.Caching.SearchOutcomes.{counts-wider}
use Rattle.qcow2_alloc.proofs.Caching.Sides.{SideLaws, WrittenFirst, Reach, FitsIn, first-some}

module _ {S V W A B : Type 0} (side : CachedKind S V W) (laws : SideLaws side) (cluster : ℕ) (value : V) (old : Beside S V W A B) (before : ImageFile S) where
  abbrev Puts : Bool → ImageFile S → Result (Option V) (Fault × V) → ImageFile S → List (ℕ × Slot V) → Type 0
  Puts may_flush between result after es' = Inserted (cache_kind nat_eq (loads_of side) (flushes_of side) old.own.slots.cap) may_flush (cluster, value) between old.own.slots.entries result after es'

  kept-by : (key : ℕ) (slot : Slot V) (a b : ImageFile S) (answer : Result Unit Fault) (v : V) → flushes_of side a key slot.value answer b v → (as_written side.writes) (key, record slot { value = v }) ≡ (as_written side.writes) (key, slot)
  kept-by key slot a b answer v flush = laws.keeps key slot (side.state a.image) answer (side.state b.image) v flush.1

  put-counts : (may_flush : Bool) (between : ImageFile S) (result : Result (Option V) (Fault × V)) (after : ImageFile S) (es' : List (ℕ × Slot V)) (faults : ℕ) → (side.state between.image).faults ≡ faults → Puts may_flush between result after es'
      → FailsFor (search_causes (AreInReach side.writes old.own.slots.entries × AreInReach side.other_writes old.other.slots.entries) (IsPinnedFull old.own.slots.cap old.own.slots.entries) faults (side.state after.image).faults) (refusal_of (put_of result))
  put-counts may_flush between result after es' faults is i =
      counts-wider _ _ _ _ faults _ (refusal_of (put_of result)) (λ f. f.0) is
      (inserted-counted (λ (d : ImageFile S). side.state d.image) (loads_of side) (flushes_of side) (Reach side)
      (λ a key v answer b v' flush. laws.counted key v (side.state a.image) (side.state b.image) answer v' flush.1) old.own.slots.cap may_flush cluster value between old.own.slots.entries after es' result i)

  -- A new entry still fits after calls that preserve the image.
  fresh-stays : WellFormed (bytes_of (side.state before.image).bytes) before.header (cached_of side old) old.order → IsNew side cluster value old before → (b : StorageState)
      → IsCrashImage (bytes_of (side.state before.image).bytes) (memory (bytes_of (side.state before.image).bytes) before.header.fields (cached_of side old)) before.header (bytes_of b.bytes) → FitsIn side before.header cluster value b
  fresh-stays well_formed fresh b left =
      (fresh.clean, laws.stays (bytes_of (side.state before.image).bytes) before.header old.order old.other.slots.entries old.own.slots.entries well_formed (bytes_of b.bytes) left cluster value fresh.free fresh.fits)

  -- A put without permission to flush.
  module _ (new : Beside S V W A B) (after : ImageFile S) (same : new ≡ record old { own = with_entries old.own new.own.slots.entries }) where
    put-quiet : (result : Result (Option V) (Fault × V)) → (IsBarred result → ⊥) → (es' : List (ℕ × Slot V)) → Puts false before result after es'
        → EntryInserted side cluster value old before (put_of result) (record old { own = with_entries old.own es' }) after
    put-quiet result not es' i =
        let es = old.own.slots.entries in
        let cap = old.own.slots.cap in
        let ok = HadNoResourceError (refusal_of (put_of result)) in
        let q = guest_unchanged (loads_of side) (flushes_of side) cap cluster value before es after es' result not i in
        let kept : UnchangedButFaults (side.state before.image) (side.state after.image) = subst (λ (d : ImageFile S). UnchangedButFaults (side.state before.image) (side.state d.image)) (sym q.file) (kept-same (side.state before.image)) in
        record {
          writes_back_cached = subst (λ (d : ImageFile S). WritesBackCached before.header old.order (λ _. IsNew side cluster value old before) ok (side.state before.image) (cached_of side old) (side.state d.image) (side.cached old.other.slots.entries es')) (sym q.file)
              (put-quietly side laws before.header old.order old.other.slots.entries cluster value (side.state before.image) (cached_of side old) _ fresh-stays
              ok (side.state before.image) es es' _ (going-none before.header old.order Always ok (side.state before.image) (cached_of side old)) q.absent q.way);
          put = inserted-put (loads_of side) (flushes_of side) (as_written side.writes) kept-by cap false cluster value before es after es' result not i;
          flushed = λ k slot way there. absurd (way-barred (loads_of side) (flushes_of side) cap cluster value before es after es' result not i k slot way there);
          roomy = λ none room. (kept, refl);
          other_unchanged = refl;
          apart = λ no. refl;
          evicts_when_full = λ none full. absurd (inserted-barred (λ (d : ImageFile S). side.state d.image) (loads_of side) (flushes_of side) (Flushed side.writes) (λ a b key v v' answer flush. flush.1)
              cap cluster value before es after es' none full result not i);
          others = (refl, ap (λ (d : ImageFile S). d.header) q.file);
          room = (refl, refl);
          cause = put-counts false before result after es' (side.state before.image).faults refl i;
        }

    pub put-now : (result : Result (Option V) (Fault × V)) → (IsBarred result → ⊥) → Puts false before result after new.own.slots.entries → EntryInserted side cluster value old before (put_of result) new after
    put-now result not i = subst (λ (c : Beside S V W A B). EntryInserted side cluster value old before (put_of result) c after) (sym same) (put-quiet result not new.own.slots.entries i)

    -- The value is returned, and nothing changes.
    pub record IsUnchanged (back : V) : Type 0 where
      pub caches : new ≡ old
      pub file : after ≡ before
      pub full : lookup (nat_eq cluster) new.own.slots.entries ≡ None → new.own.slots.cap ≤ length new.own.slots.entries
      pub given : back ≡ value

    pub put-unchanged : (back : V) → Puts false before (Ok (Some back)) after new.own.slots.entries → IsUnchanged back
    put-unchanged back i =
        let b = put-back (loads_of side) (flushes_of side) old.own.slots.cap cluster value before old.own.slots.entries after new.own.slots.entries back i in
        let caches = same ∙ ap (λ (l : List (ℕ × Slot V)). record old { own = with_entries old.own l }) b.entries in
        record {
          caches = caches;
          file = b.file;
          full = subst (λ (c : Beside S V W A B). lookup (nat_eq cluster) c.own.slots.entries ≡ None → c.own.slots.cap ≤ length c.own.slots.entries) (sym caches) b.full;
          given = b.same;
        }

  -- With permission: the other cache is written first.
  module _ (full : lookup (nat_eq cluster) old.own.slots.entries ≡ None → old.own.slots.cap ≤ length old.own.slots.entries) (between : ImageFile S) where
    not-roomy : {X : Type 0} → lookup (nat_eq cluster) old.own.slots.entries ≡ None → length old.own.slots.entries < old.own.slots.cap → X
    not-roomy none roomy = let le = full none in absurd (omega (arith, roomy, le))

    put-full : (other : AsyncLruCache ℕ W B (ImageFile S)) → WrittenFirst side old before (Ok tt) (record old { other = other }) between
        → (result : Result (Option V) (Fault × V)) (after : ImageFile S) (es' : List (ℕ × Slot V)) → (IsBarred result → ⊥) → after.header ≡ between.header
        → Puts true between result after es' → EntryInserted side cluster value old before (put_of result) (record old { own = with_entries old.own es'; other = other }) after
    put-full other w result after es' not header i =
        let es = old.own.slots.entries in
        let cap = old.own.slots.cap in
        let mid = record old { other = other } in
        let alone : (old.order ≡ side.first → ⊥) → side.state between.image ≡ side.state before.image = (λ no. ap (λ (d : ImageFile S). side.state d.image) (w.idle no).2) in
        record {
          writes_back_cached = put-going side laws before.header old.order other.slots.entries cluster value (side.state before.image) (cached_of side old) (IsNew side cluster value old before) fresh-stays
              cap between es after es' (Ok tt ≡ Ok tt) refl w.writes_back_cached w.ready result i;
          put = inserted-put (loads_of side) (flushes_of side) (as_written side.writes) kept-by cap true cluster value between es after es' result not i;
          flushed = λ k slot way there. put-then result (λ x. record { mid = side.state between.image; between = cached_of side mid; alone = alone; first = w.did; flush = (x.0, x.1.1) })
              (way-flushed (loads_of side) (flushes_of side) cap cluster value between es after es' result i k slot way there);
          roomy = not-roomy;
          other_unchanged = w.kept;
          apart = λ no. ap (λ (c : Beside S V W A B). c.other) (w.idle no).1;
          evicts_when_full = λ none room. behind-done (old.order ≡ side.first) (WritesOther side) (LetsEntryIn side) (side.state before.image) (side.state between.image) (side.state after.image) (cached_of side old) (cached_of side mid) _ (refusal_of (put_of result))
              (λ no. (alone no, ap (λ (c : Beside S V W A B). cached_of side c) (w.idle no).1)) w.did
              (laws.lets other.slots.entries es es' (side.state between.image) (side.state after.image) (refusal_of (put_of result))
              (inserted-lets-in (λ (d : ImageFile S). side.state d.image) (loads_of side) (flushes_of side) (Flushed side.writes) (λ a b key v v' answer flush. flush.1)
              cap cluster value between es after es' none room result i));
          others = (refl, header ∙ w.header);
          room = (refl, w.room);
          cause = put-counts true between result after es' (side.state before.image).faults w.cause i;
        }

    pub put-behind : (mid : Beside S V W A B) → WrittenFirst side old before (Ok tt) mid between → (result : Result (Option V) (Fault × V)) (after : ImageFile S) (new : Beside S V W A B) → new ≡ record mid { own = with_entries mid.own new.own.slots.entries }
        → Inserted (cache_kind nat_eq (loads_of side) (flushes_of side) mid.own.slots.cap) true (cluster, value) between mid.own.slots.entries result after new.own.slots.entries → EntryInserted side cluster value old before (put_of result) new after
    put-behind mid w result after new is i =
        let es' = new.own.slots.entries in
        let i' : Puts true between result after es' =
        subst (λ (c : Beside S V W A B). Inserted (cache_kind nat_eq (loads_of side) (flushes_of side) c.own.slots.cap) true (cluster, value) between c.own.slots.entries result after es') w.same i in
        subst (λ (c : Beside S V W A B). EntryInserted side cluster value old before (put_of result) c after) (sym (is ∙ ap (λ (c : Beside S V W A B). record c { own = with_entries c.own es' }) w.same))
        (put-full mid.other (subst (λ (c : Beside S V W A B). WrittenFirst side old before (Ok tt) c between) w.same w) result after es'
        (never-barred (loads_of side) (flushes_of side) old.own.slots.cap cluster value between old.own.slots.entries after es' result i')
        (inserted-related (loads_of side) (flushes_of side) (λ a b. b.header ≡ a.header) (λ a. refl) (λ a b key v v' answer f. f.0) old.own.slots.cap true cluster value between old.own.slots.entries after es' result i') i')

    pub put-halted : (mid : Beside S V W A B) (fault : Fault) → WrittenFirst side old before (Err fault) mid between → EntryInserted side cluster value old before (Err (fault, value)) mid between
    put-halted mid fault w =
        let own = ap (λ (c : Beside S V W A B). c.own.slots.entries) w.same in
        let some = first-some side laws old before mid between fault w in
        record {
          writes_back_cached = going-under before.header old.order (IsNew side cluster value old before) (IsNotResourceError fault) (side.state before.image) (side.state between.image) (cached_of side old) (cached_of side mid)
              (going-safely before.header old.order Always (Err fault ≡ Ok tt) (IsNotResourceError fault) _ _ _ _ w.faults (λ well_formed not_resource_error. absurd (never-refused _ _ _ fault (laws.near _ _ _ _ _ well_formed) not_resource_error w.cause)) w.writes_back_cached);
          put = record { over = λ there. tt; added = λ none. tt; refused = (refl, inl (ap (λ l. map (as_written side.writes) l) own)); pinned = pins-none old.own.slots.entries mid.own.slots.entries own };
          flushed = λ k slot way there. tt;
          roomy = not-roomy;
          other_unchanged = w.kept;
          apart = λ no. absurd (some no);
          evicts_when_full = λ none room. behind-refused (old.order ≡ side.first) (WritesOther side) (LetsEntryIn side) (side.state before.image) (side.state between.image) (cached_of side old) (cached_of side mid) fault some w.did;
          others = (ap (λ (c : Beside S V W A B). c.order) w.same, w.header);
          room = (ap (λ (c : Beside S V W A B). c.own.slots.cap) w.same, w.room);
          cause = cause-weaker (writing-implies _ (omega arith) (omega arith) (λ far f. far f.1)) fault w.cause;
        }
