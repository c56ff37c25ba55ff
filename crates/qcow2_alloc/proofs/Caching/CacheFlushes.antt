-- Flushing all entries of one of the two caches.
use Rattle.std.proofs.Common.{◌≡◌, ℕ, refl, ap, sym, subst, ◌∙◌, List, ◌∷◌, ◌++◌, Result, Ok, None, false}
use Rattle.std.specs.Prelude.{map, OnOk}
use Rattle.imago_storage.specs.State.{StorageState}
use Rattle.imago_storage.specs.Calls.{IsFaultless}
use Rattle.imago_storage.specs.declared.fault.Fault.{Fault}
use Rattle.qcow2_alloc.specs.CachedKinds.{AreClean, AreInReach, Beside, CachedKind, as_written, cached_of, flushes_of}
use Rattle.qcow2_alloc.specs.declared.async_lru_cache.Slot.{Slot}
use Rattle.qcow2_alloc.specs.declared.file.ImageFile.{ImageFile}
use Rattle.qcow2_alloc.specs.Backends.{Flushed}
use Rattle.qcow2_alloc.specs.Cache.{FlushedEach, fault_of}
use Rattle.qcow2_alloc.specs.Causes.{FailsFor}
use Rattle.qcow2_alloc.specs.Going.{WritesBackCached, HadNoResourceError, writing_causes}
use Rattle.qcow2_alloc.proofs.Caching.Sides.{SideLaws, Reach, Ready}
use Rattle.qcow2_alloc.proofs.Flushing.FlushRefusals.{Counted, each-counted, each-faultless}
use Rattle.qcow2_alloc.proofs.Flushing.WriteSequences.{going-weaker, each-flushed}
use Rattle.qcow2_alloc.proofs.Flushing.Turns.{each-related, each-made, each-kept, each-told}
use Rattle.qcow2_alloc.proofs.Freeing.Lists.{on_ok_from}

-- The outcome of flushing the entries of one side.
pub record AllFlushed {S V W A B : Type 0} (side : CachedKind S V W) (old : Beside S V W A B) (before : ImageFile S) (result : Result Unit Fault) (after : ImageFile S) (es' : List (ℕ × Slot V)) : Type 0 where
  pub writes_back_cached : WritesBackCached before.header old.order (Ready side old.order) (result ≡ Ok tt) (side.state before.image) (cached_of side old) (side.state after.image) (side.cached old.other.slots.entries es')
  pub clean : OnOk result (AreClean side.writes es')
  pub header : after.header ≡ before.header
  pub cause : FailsFor (writing_causes (AreInReach side.writes old.own.slots.entries) (side.state before.image).faults (side.state after.image).faults) result
  pub faults : HadNoResourceError result → IsFaultless (side.state before.image) (side.state after.image)
  pub kept : map (as_written side.writes) es' ≡ map (as_written side.writes) old.own.slots.entries
  pub told : FlushedEach (Flushed side.writes) (side.state before.image) old.own.slots.entries (fault_of result) (side.state after.image) es'

module _ {S V W A B : Type 0} (side : CachedKind S V W) (laws : SideLaws side) (old : Beside S V W A B) (before : ImageFile S) (result : Result Unit Fault) (after : ImageFile S) (es' : List (ℕ × Slot V))
    (did : FlushedEach (flushes_of side) before old.own.slots.entries (fault_of result) after es') where
  abbrev state : ImageFile S → StorageState
  state d = side.state d.image

  counted : (a : ImageFile S) (key : ℕ) (v : V) (answer : Result Unit Fault) (b : ImageFile S) (v' : V) → flushes_of side a key v answer b v' → Counted (Reach side key v) (state a) (state b) answer
  counted a key v answer b v' flush = laws.counted key v (state a) (state b) answer v' flush.1

  each-goes : (front : List (ℕ × Slot V)) (key : ℕ) (slot : Slot V) (back : List (ℕ × Slot V)) (a b : ImageFile S) (answer : Result Unit Fault) (v : V) → flushes_of side a key slot.value answer b v
      → WritesBackCached before.header old.order (Ready side old.order) (answer ≡ Ok tt) (state a) (side.cached old.other.slots.entries (front ++ (key, slot) ∷ back)) (state b) (side.cached old.other.slots.entries (front ++ (key, record slot { value = v }) ∷ back))
  each-goes front key slot back a b answer v flush =
      going-weaker before.header old.order (Ready side old.order) (HadNoResourceError answer) (answer ≡ Ok tt) _ _ _ _ (λ done. subst (λ (r : Result Unit Fault). HadNoResourceError r) (sym done) tt)
      (laws.flushed before.header old.order old.other.slots.entries front key slot back (state a) (state b) answer v flush.1)

  pub all-flushed : AllFlushed side old before result after es'
  all-flushed = record {
    writes_back_cached = going-weaker before.header old.order (Ready side old.order) (fault_of result ≡ None) (result ≡ Ok tt) _ _ _ _ (λ done. ap fault_of done)
        (each-flushed state (flushes_of side) before.header old.order (Ready side old.order) (side.cached old.other.slots.entries) each-goes old.own.slots.entries before (fault_of result) after es' did);
    clean = on_ok_from result (λ done. each-made (flushes_of side) (λ v. side.writes.modified v ≡ false) (λ a key v b v' flush. laws.cleaned key v (state a) (state b) v' flush.1)
        before old.own.slots.entries (fault_of result) after es' did (ap fault_of done));
    header = each-related (flushes_of side) (λ a b. b.header ≡ a.header) (λ d. refl) (λ a b d first second. second ∙ first) (λ a key v answer b v' flush. flush.0) before old.own.slots.entries (fault_of result) after es' did;
    cause = each-counted state (flushes_of side) (Reach side) counted before old.own.slots.entries result after es' did;
    faults = each-faultless state (flushes_of side) (Reach side) counted before old.own.slots.entries result after es' did;
    kept = each-kept (flushes_of side) (as_written side.writes) (λ key slot a answer b v' flush. laws.keeps key slot (state a) answer (state b) v' flush.1) before old.own.slots.entries (fault_of result) after es' did;
    told = each-told state (flushes_of side) (Flushed side.writes) (λ a key v answer b v' flush. flush.1) before old.own.slots.entries (fault_of result) after es' did;
  }
