-- Lemmas on a flush, after the free list was emptied.
use Rattle.std.proofs.Common.{◌≡◌, arith, ap, sym, subst, ◌∙◌, true, false, Result, Ok, Err, inl, inr}
use Rattle.std.specs.Prelude.{⊤, IfErr, OnOk}
use Rattle.std.specs.Borrow.{RattleType}
use Rattle.imago_storage.specs.State.{HasRisen, StorageState}
use Rattle.imago_storage.specs.Calls.{CountsFaults, UnchangedButFaults, CountsNotFallen}
use Rattle.imago_storage.specs.declared.fault.Fault.{Fault}
use Rattle.imago_storage.specs.declared.fault.Fault.TheVariants.{Counter, DamagedTable, Memory, Storage}
use Rattle.imago_storage.specs.declared.storage.Storage.{Ghosts}
use Rattle.imago_access.specs.Failing.{Fails, RefusesFlush}
use Rattle.imago_access.specs.Files.{HadNoResourceError}
use Rattle.imago_access.specs.Going.{MarksFailed, MutatingCall}
use Rattle.imago_access.specs.Layer.{IsFree, KeepsLayerState}
use Rattle.imago_access.specs.Stops.{IsWritten, IsCounted}
use Rattle.imago_access.specs.declared.driver_model.DriverModel.{Ghosts as SeenGhosts}
use Rattle.qcow2_alloc.specs.Causes.{HasCause}
use Rattle.qcow2_alloc.specs.Going.{IsNoShorter}
use Rattle.qcow2_image.specs.Allocating.{FlushesFreed, FreesPending, failed_by_resource_error, waits_in, pending_causes}
use Rattle.qcow2_image.specs.Holding.{mapping_id_held}
use Rattle.qcow2_image.specs.ImageLayer.{qcow2_fixed}
use Rattle.qcow2_image.specs.KeepsDisk.{KeepsDisk}
use Rattle.qcow2_image.specs.Leaking.{KeepsLeaks}
use Rattle.qcow2_image.specs.Rooms.{IsWellFormed, IsCoherent, WasWellFormed, was_well_formed}
use Rattle.qcow2_image.specs.Seen.{layer_of}
use Rattle.qcow2_image.specs.Unspent.{holding_in}
use Rattle.qcow2_image.specs.contracts.qcow2.Qcow2DriverModel.TheImpl.{ghosts}
use Rattle.qcow2_image.specs.declared.qcow2.PreparedMappingState.{PreparedMappingState}
use Rattle.qcow2_image.specs.declared.qcow2.Qcow2.{Qcow2}
use Rattle.qcow2_image.proofs.ClusterSteps.{idle-waits}
use Rattle.qcow2_image.proofs.Leaks.{leaks-both}
use Rattle.qcow2_image.proofs.DiskEffects.{kept-disk, keeps-disk-both, keeps-image-disk}
use Rattle.qcow2_image.proofs.Anew.{on-ok}
use Rattle.qcow2_image.proofs.RequestsWithoutChanges.{asked-keeps, meant, ok-whole}
use Rattle.qcow2_image.proofs.LeaksByFile.{surplus-kept}
use Rattle.qcow2_image.proofs.LeaksWithNothingPending.{counted-idle}

pub safe-again : {S : Type 0} (g : Ghosts S) (d : Qcow2 S g) → d.failed ≡ false → WasWellFormed g d → IsWellFormed g d
safe-again g d runs was = record {
  runs = runs;
  keeps = was.keeps;
  consistent = was.consistent;
  seen = was.seen;
  sound = was.sound;
  searched = was.searched;
  held = was.held;
  writable = was.writable;
}

-- A request that changes nothing, where `Fault::Memory` also sets the image to failed.
module _ {S : Type 0} (g : Ghosts S) (old new : Qcow2 S g) (s' : StorageState) (kept : UnchangedButFaults (g.state old.tables.file.image) s') (later : CountsNotFallen (g.state old.tables.file.image) s')
    (state : g.state new.tables.file.image ≡ s') (header : new.tables.file.header ≡ old.tables.file.header) (l1 : new.tables.l1 ≡ old.tables.l1)
    (caches : new.tables.caches ≡ old.tables.caches) (space : new.tables.space ≡ old.tables.space) (mode : new.mode ≡ old.mode) (number : new.number ≡ old.number)
    (unspent : new.unspent ≡ old.unspent) where
  cut-off : (ok : Type 0) → (ok → ⊥) → new.failed ≡ true → KeepsDisk g ok old new
  cut-off ok never marked =
      kept-disk g ok old new (subst (UnchangedButFaults (g.state old.tables.file.image)) (sym state) kept) (subst (CountsNotFallen (g.state old.tables.file.image)) (sym state) later)
      header mode number unspent (λ was. marked) (λ w. absurd (never w)) (λ w. absurd (never w)) (λ well_formed w. absurd (never w))

  pub requested : (answer : Result Unit Fault) → CountsFaults (g.state old.tables.file.image).faults s'.faults answer → new.failed ≡ failed_by_resource_error answer true old.failed
      → KeepsDisk g (HadNoResourceError answer) old new
  requested (Ok done) counts failed =
      keeps-image-disk {T = Unit} g old new (Ok tt)
      (asked-keeps g old new s' (Ok tt) kept later (λ whole. (counts, kept.refusals)) state header l1 caches space mode number unspent failed)
  requested (Err Memory) counts failed = cut-off ⊥ (λ w. w) failed
  requested (Err Storage) counts failed = cut-off ⊥ (λ w. w) failed
  requested (Err fault) counts failed = absurd counts

-- The free list was emptied, and the file was flushed.
pub flushes-freed : {S : Type 0} (g : Ghosts S) (old mid new : Qcow2 S g) (result : Result Unit Fault) → FreesPending g old (Ok tt) mid
    → KeepsDisk g (HadNoResourceError result) mid new → KeepsLeaks g mid new → CountsFaults (g.state mid.tables.file.image).faults (g.state new.tables.file.image).faults result
    → new.failed ≡ failed_by_resource_error result true mid.failed → new.tables.space ≡ mid.tables.space
    → new.tables.file.header ≡ mid.tables.file.header → IsNoShorter (g.state mid.tables.file.image) (g.state new.tables.file.image) → FlushesFreed g old result new
flushes-freed g old mid new result freed k leaks counts failed space header long = record {
  keeps = keeps-disk-both g ⊤ (HadNoResourceError result) old mid new tt freed.keeps k;
  leaks = λ well_formed whole. leaks-both g old mid new (freed.leaks well_formed tt) leaks;
  marks_failed = failed ∙ ap (failed_by_resource_error result true) freed.marks_failed;
  no_shorter = let first = freed.no_shorter in omega (arith, first, long);
  emptied = on-ok result _ (ap waits_in space ∙ freed.emptied);
  header = header ∙ freed.header;
  cause = from result counts;
} where
  from : (r : Result Unit Fault) → CountsFaults (g.state mid.tables.file.image).faults (g.state new.tables.file.image).faults r → IfErr r (HasCause (pending_causes g old new))
  from (Ok done) counts = tt
  from (Err Memory) counts = tt
  from (Err Storage) counts = subst (λ n. HasRisen n (g.state new.tables.file.image).faults) (freed.keeps.faults tt).0 counts
  from (Err fault) counts = absurd counts

module _ (R : RattleType) (st : Ghosts R.Denot) (sd : mir.Syntax.Dict) (dd : mir.Syntax.Dict) (old new : Qcow2 R.Denot st) where
  abbrev coherent : SeenGhosts (Qcow2 R.Denot st) PreparedMappingState
  coherent = ghosts R st sd dd

  -- A call that keeps the disk is a call as the driver's contract needs it.
  module _ (ok : Type 0) (k : KeepsDisk st ok old new) where
    pub fixed-kept : (layer_of st new).fixed ≡ (layer_of st old).fixed
    fixed-kept = λ i. qcow2_fixed (k.shape i)
        (record old.tables.file.header.fields { version = k.version i; cluster_bits = k.bits i })
        (k.mode i) (k.number i)

    pub like-kept : KeepsLayerState (layer_of st old) (layer_of st new)
    like-kept = record {
      fixed = fixed-kept;
      size = k.size;
      unspent = ap (λ u. mapping_id_held (holding_in st u)) k.unspent;
      failed = k.failed;
    }

    pub went-disk : (IsWellFormed st old → ok → KeepsLeaks st old new) → MutatingCall coherent ok ok old new
    went-disk leaks = record {
      fixed = fixed-kept;
      failed = k.failed;
      counts_not_fallen = ((k.shape, k.counts_not_fallen), tt);
      faults = λ whole. (k.faults whole, tt);
      safely = λ whole well_formed. k.safely well_formed whole;
      stays_stable = λ l. l;
      excess_refcount = λ whole well_formed. surplus-kept st old new (leaks well_formed whole);
    }

-- A flush of an image whose free list wasn't empty.
module _ (R : RattleType) (st : Ghosts R.Denot) (sd : mir.Syntax.Dict) (dd : mir.Syntax.Dict) (old new : Qcow2 R.Denot st) (result : Result Unit Fault)
    (freed : FlushesFreed st old result new) (runs : old.failed ≡ false) (waits : waits_in old.tables.space ≡ true) where
  abbrev driver : SeenGhosts (Qcow2 R.Denot st) PreparedMappingState
  driver = ghosts R st sd dd

  was-safe : IsCoherent st old → IsWellFormed st old
  was-safe seen = elim seen.sure [
    | inl untouched ↦ absurd (cc (sym (idle-waits old.tables.space untouched.1) ∙ waits))
    | inr was ↦ safe-again st old runs was
  ]

  pub freed-sees : IsCoherent st old → OnOk result ((layer_of st new ≡ layer_of st old) × IsCoherent st new)
  freed-sees seen = ok-whole result _ (λ whole.
      let well_formed = was-safe seen in
      let now = freed.keeps.safely well_formed whole in
      (freed.keeps.layer well_formed whole, record { seen = now.seen; sure = inr (was_well_formed st new now) }))

  pub freed-written : IsWellFormed st old → OnOk result (IsWritten driver new)
  freed-written well_formed = ok-whole result _ (λ whole.
      meant st new.tables new.mode new.failed new.number (holding_in st new.unspent) (freed.keeps.safely well_formed whole).seen)

  pub freed-counted : IsWellFormed st old → IsFree (layer_of st old) → OnOk result (IsCounted driver new)
  freed-counted well_formed free = from result freed.emptied (λ ok. freed.keeps.safely well_formed ok) where
    from : (r : Result Unit Fault) → OnOk r (waits_in new.tables.space ≡ false) → (HadNoResourceError r → IsWellFormed st new) → OnOk r (IsCounted driver new)
    from (Ok done) none safely = counted-idle st new (safely tt).seen.loads none (ap (λ u. mapping_id_held (holding_in st u)) freed.keeps.unspent ∙ free)
    from (Err fault) none safely = tt

  pub freed-went : MutatingCall driver (HadNoResourceError result) (HadNoResourceError result) old new
  freed-went = went-disk R st sd dd old new (HadNoResourceError result) freed.keeps freed.leaks

  pub freed-like : KeepsLayerState (layer_of st old) (layer_of st new)
  freed-like = like-kept R st sd dd old new (HadNoResourceError result) freed.keeps

  pub freed-marks : IfErr result (MarksFailed driver old new)
  freed-marks = from result freed.marks_failed where
    from : (r : Result Unit Fault) → new.failed ≡ failed_by_resource_error r true old.failed → IfErr r (MarksFailed driver old new)
    from (Ok done) marked = tt
    from (Err Memory) marked = λ yes. inl marked
    from (Err Storage) marked = λ yes. marked
    from (Err fault) marked = tt

  pub freed-failed : IfErr result (Fails driver old new)
  freed-failed = from result freed.cause where
    from : (r : Result Unit Fault) → IfErr r (HasCause (pending_causes st old new)) → IfErr r (Fails driver old new)
    from (Ok done) why = tt
    from (Err Memory) why = tt
    from (Err Storage) why = inl why
    from (Err DamagedTable) why = tt
    from (Err Counter) why = tt
    from (Err fault) why = absurd why

  pub freed-cause : IsWellFormed st old → IfErr result (RefusesFlush driver old new)
  freed-cause well_formed = from result freed.cause where
    from : (r : Result Unit Fault) → IfErr r (HasCause (pending_causes st old new)) → IfErr r (RefusesFlush driver old new)
    from (Ok done) why = tt
    from (Err Memory) why = tt
    from (Err Storage) why = inl why
    from (Err DamagedTable) why = absurd (why well_formed)
    from (Err Counter) why = absurd (why well_formed)
    from (Err fault) why = absurd why
