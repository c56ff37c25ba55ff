-- Writes of bytes, run by run.
use Rattle.std.proofs.Common.{◌≡◌, ℕ, ◌+◌, ◌-◌, ◌<◌, ◌≤◌, List, ◌∷◌, length, take, drop, slice_index, arith, sym, ◌∙◌, ap, inl, inr}
use Rattle.std.specs.Prelude.{Result, Ok, Err, OnOk, IfErr, None, map}
use Rattle.std.proofs.lemmas.Bool.{cases_lt}
use Rattle.std.proofs.lemmas.Grind.{common_steps}
use Rattle.imago_storage.specs.Disk.{Value, byte}
use Rattle.imago_storage.specs.Steps.{Call, Step, write, done, IsIn, ToBytes}
use Rattle.imago_storage.specs.Causes.{PartlyDone}
use Rattle.imago_storage.specs.declared.fault.Fault.{Fault}
use Rattle.imago_access.specs.Files.{IsNotResourceError, HadNoResourceError}
use Rattle.imago_access.specs.Layer.{Layer, loose, IsFree}
use Rattle.imago_access.specs.Chain.{at}
use Rattle.imago_access.specs.Parts.{IsPartOf}
use Rattle.imago_access.specs.Refusals.{change_refusal}
use Rattle.imago_access.specs.Running.{IsBetween, IsIntactChain, ChainRangeChange, chain_disk, below_of}
use Rattle.imago_access.specs.Stops.{GivesBytes}
use Rattle.imago_access.proofs.Disks.{allowed_inside, disk_step, disk_partly}
use Rattle.imago_access.specs.declared.driver_model.DriverModel.{Ghosts}

-- The bytes after the first `past`, as the code slices them.
abbrev pub rest_of : ℕ → List ℕ → List ℕ
rest_of past bytes = take (length bytes - past) (drop past bytes)

pub rest_long : (past : ℕ) (bytes : List ℕ) → past ≤ length bytes → length (rest_of past bytes) ≡ length bytes - past
rest_long past bytes le = grind (arith, common_steps)

pub rest_index : (past : ℕ) (bytes : List ℕ) (i : ℕ) → past + i < length bytes → slice_index (rest_of past bytes) i ≡ slice_index bytes (past + i)
rest_index past bytes i lt = grind (arith, common_steps)

pub gives_rest : (offset past : ℕ) (bytes : List ℕ) → past ≤ length bytes → (p : ℕ) (v : Value) → GivesBytes (offset + past) (rest_of past bytes) p v → GivesBytes offset bytes p v
gives_rest offset past bytes le p v gives =
    let i = gives.0 in
    let long = rest_long past bytes le in
    let lt : past + i < length bytes = omega (arith, gives.1, long, le) in
    (past + i, lt, omega (arith, gives.2), gives.3 ∙ ap byte (rest_index past bytes i lt))

pub part_rest : (call : Call) (offset past : ℕ) (bytes : List ℕ) → past ≤ length bytes → IsPartOf call offset (length bytes) → IsPartOf call (offset + past) (length (rest_of past bytes))
part_rest call offset past bytes le part =
    let long = rest_long past bytes le in
    record { start = omega (arith, part.start); end = omega (arith, part.end, long, le) }

pub shown_none : (below : List Layer) (layer : Layer) (offset : ℕ) (bytes : List ℕ) (i : ℕ) → i < 0 → at (layer ∷ below) (offset + i) ≡ byte (slice_index bytes i)
shown_none below layer offset bytes i lt = absurd (omega (arith, lt))

-- The bytes that the chain reads after one more run.
pub shown_more : (below : List Layer) (old new : Layer) (offset past n : ℕ) (bytes : List ℕ) → past + n ≤ length bytes → offset + length bytes ≤ old.size → IsBetween (GivesBytes (offset + past) (rest_of past bytes)) below old new
    → ((i : ℕ) → i < past → at (old ∷ below) (offset + i) ≡ byte (slice_index bytes i)) → ((i : ℕ) → i < n → at (new ∷ below) (offset + past + i) ≡ byte (slice_index (rest_of past bytes) i))
    → (i : ℕ) → i < past + n → at (new ∷ below) (offset + i) ≡ byte (slice_index bytes i)
shown_more below old new offset past n bytes fits in_disk between before now i lt = elim (cases_lt i past) [
  | inl low ↦ elim (between (offset + i) (omega (arith, in_disk, lt, fits))) [
    | inl same ↦ same ∙ before i low
    | inr gave ↦ absurd (omega (arith, gave.2, low))
  ]
  | inr high ↦
      let j = i - past in
      let place : offset + past + j ≡ offset + i = omega (arith, high) in
      let index : past + j ≡ i = omega (arith, high) in
      ap (at (new ∷ below)) (sym place) ∙ now j (omega (arith, high, lt)) ∙ ap byte (rest_index past bytes j (omega (arith, index, lt, fits)) ∙ ap (slice_index bytes) index)
]

gives_inside : (offset : ℕ) (bytes : List ℕ) (p : ℕ) (v : Value) → GivesBytes offset bytes p v → IsIn offset (length bytes) p
gives_inside offset bytes p v gives = (omega (arith, gives.2), omega (arith, gives.1, gives.2))

gives_byte : (offset : ℕ) (bytes : List ℕ) (p : ℕ) (was v : Value) → GivesBytes offset bytes p v → ToBytes offset bytes p was v
gives_byte offset bytes p was v gives = let is : gives.0 ≡ p - offset = omega (arith, gives.2) in gives.3 ∙ ap (λ (i : ℕ). byte (slice_index bytes i)) is

module _ {D St T : Type 0} (g : Ghosts D St) (free_loose : (d : D) → IsFree (g.layer d) → (p : ℕ) → (g.layer d).held p ≡ loose) where
  -- A successful write is a step of the disk.
  pub write_ok : (old new : D × List D) (unit offset : ℕ) (bytes : List ℕ) (result : Result T Fault) → IsFree (g.layer old.0) → IsFree (g.layer new.0) → change_refusal unit (g.layer old.0) offset (length bytes) ≡ None
      → (IsIntactChain g old → OnOk result ((i : ℕ) → i < length bytes → at (g.layer new.0 ∷ map g.layer old.1) (offset + i) ≡ byte (slice_index bytes i)))
      → ChainRangeChange g (HadNoResourceError result) (GivesBytes offset bytes) old new
      → IsIntactChain g old → OnOk result (Step (below_of g.layer old) (chain_disk g.layer old) (write offset bytes) done (chain_disk g.layer new))
  write_ok old new unit offset bytes (Ok x) was_free is_free allowed shown ran i =
      disk_step (map g.layer old.1) (map g.layer new.1) (g.layer old.0) (g.layer new.0) (ran.lookup_call.stays tt i.is_coherent).0 ran.size (free_loose old.0 was_free) (free_loose new.0 is_free)
      (GivesBytes offset bytes) (ToBytes offset bytes) offset (length bytes) (allowed_inside unit (g.layer old.0) offset (length bytes) allowed) (gives_inside offset bytes) (ran.values tt i)
      (λ p into.
      let k = p - offset in
      let is : offset + k ≡ p = omega (arith, into.0) in
      ap (at (g.layer new.0 ∷ map g.layer old.1)) (sym is) ∙ shown i k (omega (arith, into.0, into.1)))
  write_ok old new unit offset bytes (Err e) was_free is_free allowed shown ran i = tt

  -- A failed write is done in part.
  pub write_err : (old new : D × List D) (offset : ℕ) (bytes : List ℕ) (result : Result T Fault) → IsFree (g.layer old.0) → IsFree (g.layer new.0)
      → ChainRangeChange g (HadNoResourceError result) (GivesBytes offset bytes) old new
      → IsIntactChain g old → IfErr result (λ e. IsNotResourceError e → PartlyDone (below_of g.layer old) (write offset bytes) (chain_disk g.layer old) (chain_disk g.layer new))
  write_err old new offset bytes (Ok x) was_free is_free ran i = tt
  write_err old new offset bytes (Err e) was_free is_free ran i = λ not_resource_error.
      disk_partly (map g.layer old.1) (map g.layer new.1) (g.layer old.0) (g.layer new.0) (ran.lookup_call.stays not_resource_error i.is_coherent).0 ran.size (free_loose old.0 was_free) (free_loose new.0 is_free)
      (GivesBytes offset bytes) (write offset bytes) (ran.values not_resource_error i) (gives_inside offset bytes) (λ p v gave. gives_byte offset bytes p (at (g.layer old.0 ∷ map g.layer old.1) p) v gave)
