-- The target after a copy, as later calls rely on it.
use Rattle.std.proofs.Common.{◌≡◌, inl, inr, ℕ, ◌<◌, List, arith, sym, ap, ◌∙◌, false}
use Rattle.std.specs.Prelude.{◌∷◌, Result, map}
use Rattle.imago_storage.specs.Disk.{Value, byte}
use Rattle.imago_storage.specs.Steps.{write}
use Rattle.imago_storage.specs.declared.fault.Fault.{Fault}
use Rattle.imago_access.specs.declared.driver_model.DriverModel.{Ghosts}
use Rattle.imago_access.specs.Chain.{at, Each}
use Rattle.imago_access.specs.Files.{HadNoResourceError}
use Rattle.imago_access.specs.Layers.{chain}
use Rattle.imago_access.specs.Running.{ChainRangeChange, chain_disk}
use Rattle.imago_access.specs.Stops.{GivesBytes, IsCovered, Left}
use Rattle.imago_access.proofs.Stopping.{left_weaker, passes_weaker}
use Rattle.qimg_calls.specs.Flattening.{AreBytesOf, Chains, GivesRead, HoldsAfter}
use Rattle.qimg_calls.proofs.Leading.{ran-leads}
use Rattle.qimg_calls.specs.Runs.{reading_of}
use Rattle.qimg_calls.specs.Since.{begun, IsSince}
use Rattle.qimg_calls.proofs.Lists.{stands-behind, telling-before}
use Rattle.qimg_calls.proofs.Stops.{as-large}

-- A value that a copy gives is also given by a write of the source's bytes.
gives_written : {D St : Type 0} (g : Ghosts D St) (source : D × List D) (bytes : List ℕ) → Each g.coherent (chain source) → AreBytesOf (chain_disk g.layer source) bytes
    → (p : ℕ) (v : Value) → p < (g.layer source.0).size → GivesRead g source p v → GivesBytes 0 bytes p v
gives_written g source bytes see are p v inside gave =
    let b = gave.0.0 in
    let has : (chain_disk g.layer source).value p ≡ byte b = sym (gave.1 see) ∙ gave.0.1 in
    (p, omega (arith, inside, are.long), omega arith, gave.0.1 ∙ ap byte (sym (are.same p b inside has)))

-- A call of a chain only gives values to bytes of its disk.
ran_inside : {D St : Type 0} (g : Ghosts D St) (whole : Type 0) (gives more : ℕ → Value → Type 0) (old new : D × List D) → ((p : ℕ) (v : Value) → p < (g.layer old.0).size → gives p v → more p v)
    → ChainRangeChange g whole gives old new → ChainRangeChange g whole more old new
ran_inside g whole gives more old new weaker ran =
    let below = map g.layer old.1 in
    let layer = g.layer old.0 in
    let file = (g.image old.0).bytes in
    record {
      size = ran.size;
      mutating_call = ran.mutating_call;
      lookup_call = ran.lookup_call;
      intact = ran.intact;
      values = λ w i p inside. elim (ran.values w i p inside) [ inl same ↦ inl same | inr gave ↦ inr (weaker p (at (g.layer new.0 ∷ below) p) inside gave) ];
      crash_images = λ i. passes_weaker (Left below layer file g.sound layer.size layer.size gives) (Left below layer file g.sound layer.size layer.size more) (g.image old.0) (g.image new.0)
          (left_weaker below g.sound layer file layer.size layer.size gives more (λ p v inside gave. inr (inr (weaker p v inside gave)))) (ran.crash_images i);
    }

pub copy_stands : {S P T Q : Type 0} (g : Ghosts S P) (h : Ghosts T Q) (well_formed_is_coherent : (d : T) → h.well_formed d → h.coherent d)
    (well_formed_is_sound : (d : T) → h.well_formed d → IsCovered (h.layer d) h.sound (h.image d).bytes) (well_formed_is_usable : (d : T) → h.well_formed d → (h.layer d).failed ≡ false)
    (result : Result Unit Fault) (old : Chains S T) (new : T × List T) → (h.layer old.1.0).size ≡ (g.layer old.0.0).size → ChainRangeChange h (HadNoResourceError result) (GivesRead g old.0) old.1 new
    → HoldsAfter g h result old new
copy_stands g h well_formed_is_coherent well_formed_is_sound well_formed_is_usable result old new as_long ran since bytes see are ready stands whole =
    let written = ran_inside h (HadNoResourceError result) (GivesRead g old.0) (GivesBytes 0 bytes) old.1 new
    (λ p v inside gave. gives_written g old.0 bytes see are p v (omega (arith, inside, as_long)) gave) ran in
    let leads = ran-leads h old.1 new (HadNoResourceError result) (HadNoResourceError result) (write 0 bytes) well_formed_is_usable (GivesBytes 0 bytes) written (λ w i. w) (λ p v gave. gave) (omega arith) (omega arith) in
    let a = h.image old.1.0 in
    let b = h.image new.0 in
    let next = stands-behind h well_formed_is_coherent well_formed_is_sound (HadNoResourceError result) (write 0 bytes) false old.1 new since leads ready whole stands in (
      leads.ready whole ready,
      λ tells keeps room.
          let stood = telling-before a b ((a.crash_image ≡ a.bytes) × IsSince (reading_of h old.1) a.bytes (chain_disk h.layer old.1) since) leads.counts_not_fallen.0 (leads.faults whole ready).1 stands tells keeps room in
          let now = next tells keeps room in
          (now.0, as-large (reading_of h new) b.bytes (chain_disk h.layer new) (begun since (chain_disk h.layer old.1) (write 0 bytes)) (h.layer new.0).size (omega (arith, stood.1.smallest, ran.size)) now.1),
    )
