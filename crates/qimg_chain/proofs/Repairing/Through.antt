-- A repair by the driver of one format is a repair by the driver of an image of any format.
use Rattle.std.proofs.Common.{ℕ, Result}
use Rattle.std.specs.Prelude.{Vec}
use Rattle.std.specs.Global.{Global}
use Rattle.imago_storage.specs.declared.fault.Fault.{Fault}
use Rattle.imago_storage.specs.declared.fault.Fault.TheVariants.{Memory, Storage}
use Rattle.imago_access.specs.declared.driver_model.DriverModel.{Ghosts}
use Rattle.imago_access.specs.Files.{HadNoResourceError}
use Rattle.imago_access.specs.RunCalls.{DriverMarksFailed}
use Rattle.imago_access.specs.Stops.{GivesNone}
use Rattle.qimg_calls.specs.Repairing.{FlushesFirst, RepairsLeaksOf, repair_refusal}
use Rattle.qimg_chain.proofs.Repairing.Steps.{if-err}
use Rattle.qimg_chain.proofs.SeenThrough.{IsKind, anew, early_outcome, stops, through}

module _ {D E St Su : Type 0} {f : D → E} {h : Ghosts E Su} {g : Ghosts D St} (kind : IsKind f h g) (a b : D) where
  marks-alone : (e : Fault) → DriverMarksFailed (through f h g) a b e → DriverMarksFailed h (f a) (f b) e
  marks-alone Memory marked = marked
  marks-alone Storage marked = marked
  marks-alone e marked = tt

  first : FlushesFirst (through f h g) a b → FlushesFirst h (f a) (f b)
  first flushed = record {
    mid = f flushed.mid;
    layer = flushed.layer;
    written = flushed.written;
    counted = flushed.counted;
    excess_refcount = flushed.excess_refcount;
    flush = λ below. stops kind a flushed.mid below (h.layer (f a)).size (h.layer (f a)).size GivesNone (flushed.flush below);
    crash_images = λ below. stops kind flushed.mid b below (h.layer (f flushed.mid)).size (h.layer (f flushed.mid)).size GivesNone (flushed.crash_images below);
  }

  pub repairs : (result : Result (Vec (ℕ × ℕ) Global) Fault) → RepairsLeaksOf (through f h g) a result b → RepairsLeaksOf h (f a) result (f b)
  repairs result r = record {
    listed = r.listed;
    repaired = r.repaired;
    written = r.written;
    counted = r.counted;
    same = r.same;
    crash_images = λ well_formed below. stops kind a b below (h.layer (f a)).size (h.layer (f a)).size GivesNone (r.crash_images well_formed below);
    flushes_first = λ well_formed ok. first (r.flushes_first well_formed ok);
    early_outcome = early_outcome kind a b (repair_refusal (h.layer (f a))) ⊥ result r.early_outcome;
    keeps_layer_state = r.keeps_layer_state;
    reloading_call = anew kind a b (HadNoResourceError result) (HadNoResourceError result) r.reloading_call;
    failed = r.failed;
    marks_failed = if-err result (DriverMarksFailed (through f h g) a b) (DriverMarksFailed h (f a) (f b)) marks-alone r.marks_failed;
    cause = r.cause;
  }
