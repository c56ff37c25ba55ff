-- Searching for an entry in one of the two caches.
use Rattle.std.proofs.Common.{◌≡◌, ℕ, ◌≤◌, refl, arith, ap, sym, subst, ◌∙◌, List, length, Option, None, Result, Ok, Err, Bool, true, false, inl}
use Rattle.std.specs.Prelude.{nat_eq, map, IsSome}
use Rattle.std.specs.Map.{lookup}
use Rattle.imago_storage.specs.State.{StorageState}
use Rattle.imago_storage.specs.Calls.{UnchangedButFaults}
use Rattle.imago_storage.specs.declared.fault.Fault.{Fault}
use Rattle.qcow2_types.specs.Bytes.{bytes_of}
use Rattle.qcow2_types.specs.Header.{Header}
use Rattle.qcow2_alloc.specs.CachedKinds.{AreClean, AreInReach, Beside, CachedKind, WritesOther, as_written, cached_of, flushes_of, loads_of}
use Rattle.qcow2_alloc.specs.declared.async_lru_cache.Admission.{Admission}
use Rattle.qcow2_alloc.specs.declared.async_lru_cache.Admission.TheVariants.{Denied}
use Rattle.qcow2_alloc.specs.declared.async_lru_cache.AsyncLruCache.{AsyncLruCache}
use Rattle.qcow2_alloc.specs.declared.async_lru_cache.Slot.{Slot}
use Rattle.qcow2_alloc.specs.declared.file.ImageFile.{ImageFile}
use Rattle.qcow2_alloc.specs.Backends.{Flushed}
use Rattle.qcow2_alloc.specs.Cache.{cache_kind, Readied, with_entries}
use Rattle.qcow2_alloc.specs.Causes.{FailsFor}
use Rattle.qcow2_alloc.specs.Finding.{EntryFound, LetsEntryIn, Sought, IsPinnedFull, search_causes}
use Rattle.qcow2_alloc.specs.Going.{Always, HadNoResourceError}
use Rattle.qcow2_alloc.proofs.Flushing.FlushRefusals.{writing-implies, never-refused}
use Rattle.qcow2_alloc.proofs.Causes.{cause-weaker}
use Rattle.qcow2_alloc.proofs.Flushing.WriteSequences.{kept-same, going-weaker, going-ready, going-safely}
use Rattle.qcow2_alloc.proofs.Caching.Admission.{never-now, lets-in, readied-still, behind-done, behind-refused}
use Rattle.qcow2_alloc.proofs.Caching.Pins.{pins-none}
use Rattle.qcow2_alloc.proofs.Caching.EntryLoads.{readied, readied-quietly, never-full}
use Rattle.qcow2_alloc.proofs.Caching.SearchOutcomes.{done_of, sought, readied-related, readied-counted, full-stays, roomy-kept, counts-wider, whole-done, found-there}
use Rattle.qcow2_alloc.proofs.Caching.Sides.{SideLaws, WrittenFirst, Reach, Ready as Before, first-idle, first-some}

module _ {S V W : Type 0} (side : CachedKind S V W) (laws : SideLaws side) (cluster : ℕ) where
  module _ (may_flush : Bool) (cap : ℕ) (before : ImageFile S) (es : List (ℕ × Slot V)) (result : Result Admission Fault) (after : ImageFile S) (es' : List (ℕ × Slot V))
      (r : Readied (cache_kind nat_eq (loads_of side) (flushes_of side) cap) may_flush cluster before es result after es') where
    header-stays : after.header ≡ before.header
    header-stays =
        readied-related (loads_of side) (flushes_of side) (λ a b. b.header ≡ a.header) (λ a. refl) (λ a b c x y. y ∙ x) (λ old new key answer l. l.0) (λ old new key value value' answer f. f.0)
        cap may_flush cluster before es result after es' r

    module _ (H : Header) (header : after.header ≡ H) where
      side-sought : (result ≡ Ok Denied → ⊥) → Sought (as_written side.writes) cap cluster (side.read (bytes_of (side.state after.image).bytes) H.fields cluster) es (done_of result) es'
      side-sought not =
          subst (λ (h : Header). Sought (as_written side.writes) cap cluster (side.read (bytes_of (side.state after.image).bytes) h.fields cluster) es (done_of result) es') header
          (sought (loads_of side) (flushes_of side) (as_written side.writes) (λ key slot old new answer value flush. laws.keeps key slot (side.state old.image) answer (side.state new.image) value flush.1)
          (side.read (bytes_of (side.state after.image).bytes) after.header.fields cluster) cap may_flush cluster before es result after es'
          (λ mid value load. laws.reads mid.header.fields cluster (side.state mid.image) value (side.state after.image) load.1
          ∙ ap (λ (l : List ℕ). side.read (bytes_of l) mid.header.fields cluster) (sym (laws.kept mid.header.fields cluster (side.state mid.image) (Ok value) (side.state after.image) load.1).bytes)
          ∙ ap (λ (h : Header). side.read (bytes_of (side.state after.image).bytes) h.fields cluster) (sym load.0))
          not r)

      side-counts : (faults : ℕ) → (side.state before.image).faults ≡ faults → (other : Type 0)
          → FailsFor (search_causes (side.Fine (bytes_of (side.state after.image).bytes) H.fields cluster × AreInReach side.writes es × other) (IsPinnedFull cap es) faults (side.state after.image).faults) (done_of result)
      side-counts faults is other =
          counts-wider _ _ _ _ faults _ (done_of result) (λ f. (subst (λ (h : Header). side.Fine (bytes_of (side.state after.image).bytes) h.fields cluster) (sym header) f.0, f.1)) is
          (readied-counted (λ (d : ImageFile S). side.state d.image) (loads_of side) (flushes_of side) (Reach side)
          (λ old key value answer new value' flush. laws.counted key value (side.state old.image) (side.state new.image) answer value' flush.1)
          (λ d key. side.Fine (bytes_of (side.state d.image).bytes) d.header.fields key)
          (λ old key answer new load. subst (λ (h : Header). ((side.state old.image).faults ≤ (side.state new.image).faults)
          × FailsFor (search_causes (side.Fine (bytes_of (side.state new.image).bytes) h.fields key) ⊥ (side.state old.image).faults (side.state new.image).faults) answer) (sym load.0)
          (laws.counts old.header.fields key (side.state old.image) answer (side.state new.image) load.1))
          cap may_flush cluster before es result after es' r).1

    -- If all entries are clean, a search only reads.
    side-still : AreClean side.writes es → UnchangedButFaults (side.state before.image) (side.state after.image) × AreClean side.writes es'
    side-still =
        readied-still (λ (d : ImageFile S). side.state d.image) (loads_of side) (flushes_of side) (λ a b key answer load. laws.kept a.header.fields key (side.state a.image) answer (side.state b.image) load.1)
        (λ v. side.writes.modified v ≡ false) (λ a b key value load. ap side.writes.modified (laws.reads a.header.fields key (side.state a.image) value (side.state b.image) load.1) ∙ laws.clean (bytes_of (side.state a.image).bytes) a.header.fields key)
        (λ a b key value value' answer clean flush. flush.1.clean clean) cap may_flush cluster before es result after es' r

  module _ {A B : Type 0} (old : Beside S V W A B) (before : ImageFile S) where
    abbrev Ready : Bool → ImageFile S → Result Admission Fault → ImageFile S → List (ℕ × Slot V) → Type 0
    Ready may_flush between result after es' = Readied (cache_kind nat_eq (loads_of side) (flushes_of side) old.own.slots.cap) may_flush cluster between old.own.slots.entries result after es'

    -- The entry is found, or loaded without an eviction.
    found-quietly : (result : Result Admission Fault) (after : ImageFile S) (es' : List (ℕ × Slot V)) → (result ≡ Ok Denied → ⊥)
        → Ready false before result after es' → EntryFound side cluster old before (done_of result) (record old { own = with_entries old.own es' }) after
    found-quietly result after es' not r =
        let es = old.own.slots.entries in
        let cap = old.own.slots.cap in
        let header = header-stays false cap before es result after es' r in
        record {
          writes_back_cached = going-weaker before.header old.order Always (HadNoResourceError result) (HadNoResourceError (done_of result)) _ _ _ _ (whole-done result)
              (readied-quietly side laws before.header old.order old.other.slots.entries Always (λ A B r. r) cap cluster before es result after es' refl r);
          hit = λ there. let f = r.found there in (ap done_of f.0, ap (λ (l : List (ℕ × Slot V)). record old { own = with_entries old.own l }) f.2, f.1);
          found_cached = found-there result _ not r.granted_is_cached;
          sought = side-sought false cap before es result after es' r before.header header not;
          roomy = λ roomy. (
            roomy-kept (loads_of side) (flushes_of side) (λ (d : ImageFile S). side.state d.image) cap false cluster before es result after es'
                (λ a b answer load. laws.kept a.header.fields cluster (side.state a.image) answer (side.state b.image) load.1) (kept-same (side.state before.image)) roomy r,
            refl,
          );
          other_unchanged = refl;
          apart = λ no. refl;
          evicts_when_full = λ none full. absurd (not (never-now (λ (d : ImageFile S). side.state d.image) (loads_of side) (flushes_of side)
              (λ a b key answer load. laws.kept a.header.fields key (side.state a.image) answer (side.state b.image) load.1) cap cluster before es result after es' none full r));
          has_no_dirty_data = λ own other. let k = side-still false cap before es result after es' r own in (k.0, k.1, other);
          others = (refl, header);
          room = (refl, refl);
          cause = side-counts false cap before es result after es' r before.header header (side.state before.image).faults refl (AreInReach side.other_writes old.other.slots.entries);
        }

    -- A search without permission to flush.
    module _ (new : Beside S V W A B) (after : ImageFile S) (same : new ≡ record old { own = with_entries old.own new.own.slots.entries }) where
      pub found-now : (result : Result Admission Fault) → (result ≡ Ok Denied → ⊥) → Ready false before result after new.own.slots.entries → EntryFound side cluster old before (done_of result) new after
      found-now result not r = subst (λ (c : Beside S V W A B). EntryFound side cluster old before (done_of result) c after) (sym same) (found-quietly result after new.own.slots.entries not r)

      -- The cache is full and unchanged, and the entry is absent.
      pub record IsStuck : Type 0 where
        pub absent : lookup (nat_eq cluster) new.own.slots.entries ≡ None
        pub full : new.own.slots.cap ≤ length new.own.slots.entries
        pub caches : new ≡ old
        pub file : after ≡ before

      pub found-stuck : Ready false before (Ok Denied) after new.own.slots.entries → IsStuck
      found-stuck r =
          let f = full-stays (loads_of side) (flushes_of side) old.own.slots.cap cluster before old.own.slots.entries after new.own.slots.entries r in
          let caches = same ∙ ap (λ (l : List (ℕ × Slot V)). record old { own = with_entries old.own l }) f.entries in
          record {
            absent = ap (λ (l : List (ℕ × Slot V)). lookup (nat_eq cluster) l) f.entries ∙ f.absent;
            full = subst (λ (c : Beside S V W A B). c.own.slots.cap ≤ length c.own.slots.entries) (sym caches) f.full;
            caches = caches;
            file = f.device;
          }

    -- The entry is loaded into a full cache, after the other cache is written.
    module _ (absent : lookup (nat_eq cluster) old.own.slots.entries ≡ None) (full : old.own.slots.cap ≤ length old.own.slots.entries) (between : ImageFile S) where
      not-there : {X : Type 0} → IsSome (lookup (nat_eq cluster) old.own.slots.entries) → X
      not-there there = absurd (let no = subst (λ (o : Option (Slot V)). IsSome o) absent there in cc)

      found-loading : (other : AsyncLruCache ℕ W B (ImageFile S)) → WrittenFirst side old before (Ok tt) (record old { other = other }) between
          → (result : Result Admission Fault) (after : ImageFile S) (es' : List (ℕ × Slot V)) → (result ≡ Ok Denied → ⊥)
          → Ready true between result after es' → EntryFound side cluster old before (done_of result) (record old { own = with_entries old.own es'; other = other }) after
      found-loading other w result after es' not r =
          let es = old.own.slots.entries in
          let cap = old.own.slots.cap in
          let mid = record old { other = other } in
          let header = header-stays true cap between es result after es' r ∙ w.header in
          record {
            writes_back_cached = going-weaker before.header old.order Always (HadNoResourceError result) (HadNoResourceError (done_of result)) _ _ _ _ (whole-done result)
                (going-ready before.header old.order (Before side old.order) (Ok tt ≡ Ok tt) (HadNoResourceError result) (side.state before.image) (side.state between.image) (side.state after.image)
                (cached_of side old) (cached_of side mid) _ refl w.ready w.writes_back_cached
                (readied side laws before.header old.order other.slots.entries cap true cluster between es result after es' w.header r));
            hit = not-there;
            found_cached = found-there result _ not r.granted_is_cached;
            sought = side-sought true cap between es result after es' r before.header header not;
            roomy = λ roomy. absurd (omega (arith, roomy, full));
            other_unchanged = w.kept;
            apart = λ no. ap (λ (c : Beside S V W A B). c.other) (w.idle no).1;
            evicts_when_full = λ none room. behind-done (old.order ≡ side.first) (WritesOther side) (LetsEntryIn side) (side.state before.image) (side.state between.image) (side.state after.image) (cached_of side old) (cached_of side mid) _ (done_of result)
                (λ no. (ap (λ (f : ImageFile S). side.state f.image) (w.idle no).2, ap (λ (c : Beside S V W A B). cached_of side c) (w.idle no).1)) w.did
                (laws.lets other.slots.entries es es' (side.state between.image) (side.state after.image) (done_of result)
                (lets-in (λ (d : ImageFile S). side.state d.image) (loads_of side) (flushes_of side) (λ a b key answer load. laws.kept a.header.fields key (side.state a.image) answer (side.state b.image) load.1)
                (Flushed side.writes) (λ a b key value value' answer flush. flush.1) cap cluster between es result after es' absent full r));
            has_no_dirty_data = λ own rest.
                let n = first-idle side laws old before mid between (Ok tt) w rest in
                let k = side-still true cap between es result after es' r own in
                (subst (λ (s : StorageState). UnchangedButFaults s (side.state after.image)) n.1 k.0, k.1, subst (λ (l : List (ℕ × Slot W)). AreClean side.other_writes l) (sym n.2) rest);
            others = (refl, header);
            room = (refl, w.room);
            cause = side-counts true cap between es result after es' r before.header header (side.state before.image).faults w.cause (AreInReach side.other_writes old.other.slots.entries);
          }

      pub found-full : (mid : Beside S V W A B) → WrittenFirst side old before (Ok tt) mid between → (result : Result Admission Fault) (after : ImageFile S) (new : Beside S V W A B) → new ≡ record mid { own = with_entries mid.own new.own.slots.entries }
          → Readied (cache_kind nat_eq (loads_of side) (flushes_of side) mid.own.slots.cap) true cluster between mid.own.slots.entries result after new.own.slots.entries → EntryFound side cluster old before (done_of result) new after
      found-full mid w result after new is r =
          let es' = new.own.slots.entries in
          let r' : Ready true between result after es' = subst (λ (c : Beside S V W A B). Readied (cache_kind nat_eq (loads_of side) (flushes_of side) c.own.slots.cap) true cluster between c.own.slots.entries result after es') w.same r in
          subst (λ (c : Beside S V W A B). EntryFound side cluster old before (done_of result) c after) (sym (is ∙ ap (λ (c : Beside S V W A B). record c { own = with_entries c.own es' }) w.same))
          (found-loading mid.other (subst (λ (c : Beside S V W A B). WrittenFirst side old before (Ok tt) c between) w.same w) result after es'
          (λ full. never-full (loads_of side) (flushes_of side) old.own.slots.cap cluster between old.own.slots.entries after es' (subst (λ (q : Result Admission Fault). Ready true between q after es') full r')) r')

      pub found-halted : (mid : Beside S V W A B) (fault : Fault) → WrittenFirst side old before (Err fault) mid between → EntryFound side cluster old before (Err fault) mid between
      found-halted mid fault w =
          let own = ap (λ (c : Beside S V W A B). c.own.slots.entries) w.same in
          let some = first-some side laws old before mid between fault w in
          record {
            writes_back_cached = going-safely before.header old.order Always (Err fault ≡ Ok tt) (HadNoResourceError {T = Unit} (Err fault)) _ _ _ _ w.faults (λ well_formed not_resource_error. absurd (never-refused _ _ _ fault (laws.near _ _ _ _ _ well_formed) not_resource_error w.cause)) w.writes_back_cached;
            hit = not-there;
            found_cached = tt;
            sought = record { unchanged_if_cached = not-there; loaded = λ none. tt; refused = inl (ap (λ l. map (as_written side.writes) l) own); pinned = pins-none old.own.slots.entries mid.own.slots.entries own };
            roomy = λ roomy. absurd (omega (arith, roomy, full));
            other_unchanged = w.kept;
            apart = λ no. absurd (some no);
            evicts_when_full = λ none room. behind-refused (old.order ≡ side.first) (WritesOther side) (LetsEntryIn side) (side.state before.image) (side.state between.image) (cached_of side old) (cached_of side mid) fault some w.did;
            has_no_dirty_data = λ clean rest. absurd (let n = (first-idle side laws old before mid between (Err fault) w rest).0 in cc);
            others = (ap (λ (c : Beside S V W A B). c.order) w.same, w.header);
            room = (ap (λ (c : Beside S V W A B). c.own.slots.cap) w.same, w.room);
            cause = cause-weaker (writing-implies _ (omega arith) (omega arith) (λ far f. far f.2)) fault w.cause;
          }
