-- Lemmas that state a resize by the relations of the driver that growths and shrinks have in common.
use Rattle.std.proofs.Common.{◌≡◌, ℕ, ◌<◌, ◌≤◌, arith, ap, ◌∙◌, inl, inr, None, Result, Ok, Err}
use Rattle.std.specs.Prelude.{IsTrue, IfErr, OnOk}
use Rattle.std.specs.Borrow.{RattleType}
use Rattle.imago_storage.specs.declared.fault.Fault.{Fault}
use Rattle.imago_storage.specs.declared.fault.Fault.TheVariants.{Counter, DamagedTable, Limit, Memory, Storage}
use Rattle.imago_storage.specs.declared.storage.Storage.{Ghosts}
use Rattle.imago_access.specs.Files.{HadNoResourceError, ImageCause, IsLater, Pairs, files}
use Rattle.imago_access.specs.Going.{MarksFailed, MutatingCall}
use Rattle.imago_access.specs.Layer.{IsFree, KeepsLayerState, Layer}
use Rattle.imago_access.specs.Refusals.{unusable_fault}
use Rattle.imago_access.specs.ResizeCalls.{Resizes}
use Rattle.imago_access.specs.declared.driver_model.DriverModel.{Ghosts as SeenGhosts}
use Rattle.qcow2_types.specs.Header.{Fields}
use Rattle.qcow2_alloc.specs.Causes.{HasCause}
use Rattle.qcow2_image.specs.Allocating.{reserving_causes}
use Rattle.qcow2_image.specs.Holding.{mapping_id_held}
use Rattle.qcow2_image.specs.ImageLayer.{qcow2_fixed}
use Rattle.qcow2_image.specs.Preparing.{LeavesMarkedFailed}
use Rattle.qcow2_image.specs.Resizing.{ResizesDisk}
use Rattle.qcow2_image.specs.Seen.{layer_of}
use Rattle.qcow2_image.specs.Unspent.{holding_in}
use Rattle.qcow2_image.specs.contracts.qcow2.Qcow2DriverModel.TheImpl.{ghosts}
use Rattle.qcow2_image.specs.declared.qcow2.PreparedMappingState.{PreparedMappingState}
use Rattle.qcow2_image.specs.declared.qcow2.Qcow2.{Qcow2}
use Rattle.qcow2_image.proofs.CallsWithoutChanges.{busy-early_outcome}
use Rattle.qcow2_image.proofs.LeaksByFile.{surplus-kept}
use Rattle.qcow2_image.proofs.Steps.{marks-kept}

-- Consequences of the clauses of a result.
pub ok-both : {A B C : Type 0} (r : Result Unit Fault) → (A → B → C) → OnOk r A → OnOk r B → OnOk r C
ok-both (Ok done) f one two = f one two
ok-both (Err e) f one two = tt

pub err-map : (r : Result Unit Fault) (P Q : Fault → Type 0) → ((e : Fault) → P e → Q e) → IfErr r P → IfErr r Q
err-map (Ok done) P Q each holds = tt
err-map (Err e) P Q each holds = each e holds

-- The errors of a resize, and the failed state after them.
module _ (R : RattleType) (st : Ghosts R.Denot) (sd : mir.Syntax.Dict) (dd : mir.Syntax.Dict) (full : ℕ → Type 0)
    (old new : Qcow2 R.Denot st) where
  abbrev called : SeenGhosts (Qcow2 R.Denot st) PreparedMappingState
  called = ghosts R st sd dd

  pub resized-failed : (e : Fault) → HasCause (reserving_causes st full old new) e → ImageCause (files called old) (files called new) e
  resized-failed Memory is = tt
  resized-failed Storage is = inl is
  resized-failed (Limit number) is = tt
  resized-failed DamagedTable is = tt
  resized-failed Counter is = tt
  resized-failed e is = absurd is

  pub resized-marks : (e : Fault) → LeavesMarkedFailed st old new e → MarksFailed called old new e
  resized-marks Storage is = λ marks. is
  resized-marks Memory (inl is) = λ marks. inl is
  resized-marks Memory (inr kept) = marks-kept R st sd dd {T = Unit} old new (Err Memory) kept
  resized-marks e is = tt

module _ (R : RattleType) (st : Ghosts R.Denot) (sd : mir.Syntax.Dict) (dd : mir.Syntax.Dict) (cut : ℕ → Type 0) (n : ℕ)
    (full : ℕ → Type 0) (old new : Qcow2 R.Denot st) (result : Result Unit Fault) (r : ResizesDisk st cut n full old result new) where
  abbrev driver : SeenGhosts (Qcow2 R.Denot st) PreparedMappingState
  driver = ghosts R st sd dd

  abbrev h : Fields
  h = old.tables.file.header.fields

  pub resized-fixed : (layer_of st new).fixed ≡ (layer_of st old).fixed
  resized-fixed = λ i. qcow2_fixed (r.shape i) (record h { version = r.version i; cluster_bits = r.bits i }) (r.mode i) (r.number i)

  pub resized-unspent : (layer_of st new).unspent ≡ (layer_of st old).unspent
  resized-unspent = ap (λ u. mapping_id_held (holding_in st u)) r.unspent

  pub resized-later : Pairs IsLater (files driver old) (files driver new)
  resized-later = ((r.shape, r.counts_not_fallen), tt)

  pub resized-mutates : (whole : Type 0) → (whole → HadNoResourceError result) → MutatingCall driver (HadNoResourceError result) whole old new
  resized-mutates whole from = record {
    fixed = resized-fixed;
    failed = r.failed;
    counts_not_fallen = resized-later;
    faults = λ ok. (r.faults ok, tt);
    safely = λ w well_formed. r.well_formed well_formed (from w);
    stays_stable = λ l. l;
    excess_refcount = λ w well_formed. surplus-kept st old new (r.leaks well_formed (from w));
  }

  -- An error that is no resource error leaves the state of the layer.
  pub resized-state : layer_of st new ≡ layer_of st old → KeepsLayerState (layer_of st old) (layer_of st new)
  resized-state same = record {
    fixed = resized-fixed;
    size = ap (λ (l : Layer). l.size) same;
    unspent = resized-unspent;
    failed = r.failed;
  }

  -- The resize has something to do, and no early error.
  pub resized-resizes : (first second : ℕ) → IsFree (layer_of st old) → unusable_fault (layer_of st old) ≡ None → second < first
      → IsTrue old.mode.writable → Resizes driver first second result old new
  resized-resizes first second free runs lt writable = record {
    nothing = λ le. absurd (omega (arith, le, lt));
    free = resized-unspent ∙ free;
    early_outcome = busy-early_outcome driver (unusable_fault (layer_of st old)) (first ≤ second) result old new runs (λ le. omega (arith, le, lt));
    read_only = λ _ _ closed. absurd (cc (closed, writable));
  }
