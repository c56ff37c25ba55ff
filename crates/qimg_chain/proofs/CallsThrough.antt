-- Calls of a driver of one format are calls of the driver of an image of any format.
use Rattle.std.proofs.Common.{◌≡◌, ◌+◌, ◌++◌, ◌∙◌, ℕ, List, refl, ap, subst}
use Rattle.std.specs.Prelude.{Result, Ok, Err, Some, None, OnOk, IfOk, IfErr, max}
use Rattle.imago_storage.specs.Steps.{IsIn}
use Rattle.imago_storage.specs.declared.fault.Fault.{Fault}
use Rattle.imago_access.specs.declared.driver_model.DriverModel.{Ghosts}
use Rattle.imago_access.specs.declared.driver_model.LayersBelowModel.{Ghosts as GhostsBelow}
use Rattle.imago_access.specs.declared.format.PreallocateMode.{PreallocateMode}
use Rattle.imago_access.specs.declared.mapping.PreparedDataMapping.{PreparedDataMapping}
use Rattle.imago_access.specs.Chain.{at}
use Rattle.imago_access.specs.Changes.{Asked, Prepared, Run}
use Rattle.imago_access.specs.Files.{HadNoResourceError, files}
use Rattle.imago_access.specs.Parts.{IsPartOf, IsUncutPart, announces, PartCause, DeclinableCause}
use Rattle.imago_access.specs.PartCalls.{IsFor, PartCall, ensures_zero, discards_to_zero, discards_to_any, discards_to_backing, LeavesPart, IsDone, DoesPart, PartGives, PartRefused}
use Rattle.imago_access.specs.PreparingCalls.{Prepares, RunRefused, nowhere, WritesMapped, WritingRefused}
use Rattle.imago_access.specs.ResizeCalls.{Resizes, Grows, GrowthRefused, Shrinks, ShrinkRefused}
use Rattle.imago_access.specs.Room.{IsUncutAt}
use Rattle.imago_access.specs.Refusals.{unusable_fault}
use Rattle.imago_access.specs.Spending.{run_of}
use Rattle.imago_access.specs.Stops.{GivesNone, GivesBytes, GivesPast, GivesBelowPast}
use Rattle.qimg_chain.proofs.SeenThrough.{through, IsKind, began_on_ok, begun, stops, leaves, unchanged, early_outcome, marks, marks_over, mutating_call}

pub on_ok_weaker : {T F : Type 0} (result : Result T F) (P Q : Type 0) → (P → Q) → OnOk result P → OnOk result Q
on_ok_weaker (Ok x) P Q more holds = more holds
on_ok_weaker (Err e) P Q more holds = tt

-- A mapping without state has the same run for both drivers.
pub stateless_run : {D E St Su : Type 0} {f : D → E} {h : Ghosts E Su} {g : Ghosts D St} → IsKind f h g → (m : PreparedDataMapping St) (n : PreparedDataMapping Su)
    → n ≡ record { storage = m.storage; offset = m.offset; length = m.length; state = None } → m.state ≡ None → run_of g m ≡ run_of h n
stateless_run kind m n is none = rw is (rw none refl)

pub stateless_nowhere : {St Su : Type 0} (m : PreparedDataMapping St) (n : PreparedDataMapping Su)
    → n ≡ record { storage = m.storage; offset = m.offset; length = m.length; state = None } → m ≡ nowhere → n ≡ nowhere
stateless_nowhere {St} {Su} m n is none =
    let without : PreparedDataMapping St → PreparedDataMapping Su = λ x. record { storage = x.storage; offset = x.offset; length = x.length; state = None } in
    is ∙ ap without none

-- Two preparations return the same run, or fail with the same fault.
abbrev pub SameRuns : {D E St Su : Type 0} → Ghosts D St → Ghosts E Su → Result (PreparedDataMapping St) Fault → Result (PreparedDataMapping Su) Fault → Type 0
SameRuns g h (Ok m) (Ok n) = run_of g m ≡ run_of h n
SameRuns g h (Err e) (Err e') = e ≡ e'
SameRuns g h result answer = ⊥

pub same_runs : {D E St : Type 0} {f : D → E} {h : Ghosts E St} {g : Ghosts D St} → IsKind f h g → ((m : PreparedDataMapping St) → run_of g m ≡ run_of h m)
    → (result : Result (PreparedDataMapping St) Fault) → SameRuns g h result result
same_runs kind same (Ok m) = same m
same_runs kind same (Err e) = refl

module _ {D E St Su : Type 0} {f : D → E} {h : Ghosts E Su} {g : Ghosts D St} (kind : IsKind f h g) (a b : D) where
  -- ---- Zeroing and discarding.

  leaves_part : (call : PartCall) (offset n : ℕ) → LeavesPart call (through f h g) offset n a b → LeavesPart call h offset n (f a) (f b)
  leaves_part ensures_zero offset n l = leaves kind a b _ _ l
  leaves_part discards_to_zero offset n l = leaves kind a b _ _ l
  leaves_part discards_to_any offset n l = leaves kind a b _ _ l
  leaves_part discards_to_backing offset n l = leaves kind a b _ _ l

  is_done : (call : PartCall) (p : ℕ) → IsDone call (through f h g) b p → IsDone call h (f b) p
  is_done ensures_zero p done = done
  is_done discards_to_zero p done = done
  is_done discards_to_any p done = done
  is_done discards_to_backing p done = done

  given : (call : PartCall) (result : Result (ℕ × ℕ) Fault) → IfOk result (λ r. (p : ℕ) → IsIn r.0 r.1 p → IsDone call (through f h g) b p)
      → IfOk result (λ r. (p : ℕ) → IsIn r.0 r.1 p → IsDone call h (f b) p)
  given call (Ok r) each = λ p there. is_done call p (each p there)
  given call (Err e) each = tt

  pub does : (call : PartCall) (offset n : ℕ) (result : Result (ℕ × ℕ) Fault) → DoesPart call (through f h g) offset n result a b → DoesPart call h offset n result (f a) (f b)
  does call offset n result d = record {
    ok = d.ok;
    err = d.err;
    reach = d.reach;
    given = λ well_formed. given call result (d.given well_formed);
    room = λ well_formed whole. leaves_part call offset n (d.room well_formed whole);
    keeps_layer_state = d.keeps_layer_state;
    mutating_call = mutating_call kind a b (HadNoResourceError result) (HadNoResourceError result) d.mutating_call;
    stays_begun = λ e whole now part by no_change_refused.
        begun kind a b (λ x c. IsPartOf c offset n → IsFor call c → h.began x c (f b)) (λ x c is inside own. d.stays_begun x c is inside own no_change_refused) e whole now part by;
    crash_images = λ well_formed below told. stops kind a b below _ _ (PartGives call below offset n) (d.crash_images well_formed below told);
  }

  pub part_refused : (part : PartCall) (offset n : ℕ) (result : Result (ℕ × ℕ) Fault) → PartRefused part (through f h g) offset n result a b
      → PartRefused part h offset n result (f a) (f b)
  part_refused part offset n result r = record {
    failed = r.failed;
    marks_failed = marks kind a b result r.marks_failed;
    cause = λ well_formed below.
        begun kind a b (λ x call. IsPartOf call offset n → IsFor part call → IfErr result (DeclinableCause below (h.layer (f a)) offset n (h.own_cause x below call) (files h (f a)) (files h (f b))))
        (λ d call now inside is_for. r.cause well_formed below d call now inside is_for);
  }

  -- ---- Mappings.

  pub run_refused : {B T : Type 0} (u : GhostsBelow B) (x y : B) (asked : Asked) (result : Result T Fault) → RunRefused (through f h g) u asked result (a, x) (b, y)
      → RunRefused h u asked result (f a, x) (f b, y)
  run_refused u x y asked result r = record {
    failed = r.failed;
    marks_failed = marks_over kind a b result r.marks_failed;
    cause = λ well_formed coherent.
        begun kind a b (λ e call. IsUncutPart (h.layer (f a)) call asked.offset asked.length → Some asked.overwrite ≡ announces call
        → IfErr result (PartCause (u.layers_below x) (h.layer (f a)) asked.offset asked.length (h.own_cause e (u.layers_below x) call) (files h (f a) ++ u.files_of_layers_below x) (files h (f b) ++ u.files_of_layers_below y)))
        (λ d call now part same. r.cause well_formed coherent d call now part same);
  }

  -- A preparation that fails.
  pub prepares_err : {B : Type 0} (u : GhostsBelow B) (x y : B) (asked : Asked) (e : Fault) → Prepares (through f h g) u asked (Err e) (a, x) (b, y) → Prepares h u asked (Err e) (f a, x) (f b, y)
  prepares_err u x y asked e p = let r = run_refused u x y asked (Err e) p.refused in record {
    ok = λ well_formed coherent. tt;
    err = p.err;
    uncut = λ well_formed coherent. tt;
    no_range_overflow = λ well_formed coherent. tt;
    room = λ well_formed coherent whole. leaves kind a b _ _ (p.room well_formed coherent whole);
    crash_images = λ well_formed coherent. stops kind a b (u.layers_below x) _ _ GivesNone (p.crash_images well_formed coherent);
    mutating_call = mutating_call kind a b _ _ p.mutating_call;
    stays_begun = λ e call now part whole.
        begun kind a b (λ z c. IsPartOf c asked.offset asked.length → h.began z c (f b)) (λ z c is inside. p.stays_begun z c is inside whole) e call now part;
    refused = record { failed = r.failed; marks_failed = r.marks_failed; cause = r.cause };
  }

  -- A preparation that returns the same run.
  pub prepares_ok : {B : Type 0} (u : GhostsBelow B) (x y : B) (asked : Asked) (m : PreparedDataMapping St) (n : PreparedDataMapping Su) → run_of g m ≡ run_of h n
      → Prepares (through f h g) u asked (Ok m) (a, x) (b, y) → Prepares h u asked (Ok n) (f a, x) (f b, y)
  prepares_ok u x y asked m n same p = record {
    ok = λ well_formed coherent. subst (λ (r : Run). Prepared (at (u.layers_below x)) (h.layer (f a)) (h.layer (f b)) asked r) same (p.ok well_formed coherent);
    err = λ well_formed coherent. tt;
    uncut = λ well_formed coherent. subst (λ (r : Run). IsUncutAt (h.layer (f a)).fixed.unit (h.layer (f a)).size asked.offset asked.length (asked.offset + r.length)) same (p.uncut well_formed coherent);
    no_range_overflow = p.no_range_overflow;
    room = λ well_formed coherent whole. leaves kind a b _ _ (p.room well_formed coherent whole);
    crash_images = λ well_formed coherent. stops kind a b (u.layers_below x) _ _ GivesNone (p.crash_images well_formed coherent);
    mutating_call = mutating_call kind a b _ _ p.mutating_call;
    stays_begun = λ e call now part whole.
        begun kind a b (λ z c. IsPartOf c asked.offset asked.length → h.began z c (f b)) (λ z c is inside. p.stays_begun z c is inside whole) e call now part;
    refused = record { failed = tt; marks_failed = tt; cause = λ well_formed coherent e call now part over. tt };
  }

  pub prepares : {B : Type 0} (u : GhostsBelow B) (x y : B) (asked : Asked) (result : Result (PreparedDataMapping St) Fault) (answer : Result (PreparedDataMapping Su) Fault)
      → SameRuns g h result answer → Prepares (through f h g) u asked result (a, x) (b, y) → Prepares h u asked answer (f a, x) (f b, y)
  prepares u x y asked (Ok m) (Ok n) same p = prepares_ok u x y asked m n same p
  prepares u x y asked (Err e) (Err e') same p = subst (λ (k : Fault). Prepares h u asked (Err k) (f a, x) (f b, y)) same (prepares_err u x y asked e p)
  prepares u x y asked (Ok m) (Err e) same p = absurd same
  prepares u x y asked (Err e) (Ok n) same p = absurd same

  pub writes_mapped : (guest place : ℕ) (bytes : List ℕ) (result : Result Unit Fault) → WritesMapped (through f h g) guest place bytes result a b → WritesMapped h guest place bytes result (f a) (f b)
  writes_mapped guest place bytes result w = record {
    mapped = w.mapped;
    empty = w.empty;
    keeps_layer_state = w.keeps_layer_state;
    ok = w.ok;
    err = w.err;
    room = λ well_formed whole. leaves kind a b _ _ (w.room well_formed whole);
    crash_images = λ well_formed below. stops kind a b below _ _ (GivesBytes guest bytes) (w.crash_images well_formed below);
    mutating_call = mutating_call kind a b _ _ w.mutating_call;
    stays_begun = began_on_ok kind a b result w.stays_begun;
  }

  pub writing_refused : (guest place n : ℕ) (result : Result Unit Fault) → WritingRefused (through f h g) guest place n result a b → WritingRefused h guest place n result (f a) (f b)
  writing_refused guest place n result r = record { failed = r.failed; marks_failed = marks kind a b result r.marks_failed; cause = r.cause }

  -- ---- Resizes.

  pub resizes : (first second : ℕ) (result : Result Unit Fault) → Resizes (through f h g) first second result a b → Resizes h first second result (f a) (f b)
  resizes first second result r = record {
    nothing = r.nothing;
    free = r.free;
    early_outcome = early_outcome kind a b (unusable_fault (h.layer (f a))) _ result r.early_outcome;
    read_only = λ can less closed. let is = r.read_only can less closed in (is.0, unchanged kind a b is.1);
  }

  pub grows : {B : Type 0} (u : GhostsBelow B) (x y : B) (size : ℕ) (mode : PreallocateMode) (result : Result Unit Fault) → Grows (through f h g) u size mode result (a, x) (b, y)
      → Grows h u size mode result (f a, x) (f b, y)
  grows u x y size mode result r = record {
    ok = r.ok;
    err = r.err;
    crash_images = λ well_formed coherent. stops kind a b (u.layers_below x) _ (max (h.layer (f a)).size size) (GivesPast (h.layer (f a)).size) (r.crash_images well_formed coherent);
    mutating_call = mutating_call kind a b _ _ r.mutating_call;
  }

  pub growth_refused : {B : Type 0} (u : GhostsBelow B) (x y : B) (size : ℕ) (mode : PreallocateMode) (result : Result Unit Fault) → GrowthRefused (through f h g) u size mode result (a, x) (b, y)
      → GrowthRefused h u size mode result (f a, x) (f b, y)
  growth_refused u x y size mode result r = record { failed = r.failed; marks_failed = marks_over kind a b result r.marks_failed; cause = r.cause }

  pub shrinks : (size : ℕ) (result : Result Unit Fault) → Shrinks (through f h g) size result a b → Shrinks h size result (f a) (f b)
  shrinks size result r = record {
    ok = r.ok;
    err = r.err;
    crash_images = λ well_formed below backed. stops kind a b below size _ (GivesBelowPast below size) (r.crash_images well_formed below backed);
    mutating_call = mutating_call kind a b _ _ r.mutating_call;
  }

  pub shrink_refused : (size : ℕ) (result : Result Unit Fault) → ShrinkRefused (through f h g) size result a b → ShrinkRefused h size result (f a) (f b)
  shrink_refused size result r = record { failed = r.failed; marks_failed = marks kind a b result r.marks_failed; cause = r.cause }
