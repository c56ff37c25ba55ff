-- Lemmas that carry the contracts of one kind of driver over to the enum of several kinds.
use Rattle.std.proofs.Common.{◌≡◌, ℕ, List, ◌++◌, subst, sym, inl, inr}
use Rattle.std.specs.Prelude.{⊤, Result, Ok, Err, Option, OnOk, IfErr, IfOk, Vec}
use Rattle.std.specs.Global.{Global}
use Rattle.imago_storage.specs.Steps.{Call, IsIn, shrink}
use Rattle.imago_storage.specs.declared.fault.Fault.{Fault}
use Rattle.imago_storage.specs.declared.fault.Fault.TheVariants.{Memory, Storage}
use Rattle.imago_access.specs.declared.driver_model.DriverModel.{Ghosts}
use Rattle.imago_access.specs.declared.driver_model.LayersBelowModel.{Ghosts as GhostsBelow}
use Rattle.imago_access.specs.Changes.{Asked}
use Rattle.imago_access.specs.Layer.{Layer}
use Rattle.imago_access.specs.FileReads.{FilesRead}
use Rattle.imago_access.specs.Files.{HadNoResourceError, files}
use Rattle.imago_access.specs.Going.{IsUnchanged, EarlyOutcome, IsLeftUntouched, MarksFailed, MarksFailedOver, MutatingCall}
use Rattle.imago_access.specs.Parts.{PartCause, DeclinableCause, GrowthCause, ShrinkCause}
use Rattle.imago_access.specs.ResizeCalls.{Resizes, GrowthRefused, ShrinkRefused}
use Rattle.imago_access.specs.declared.format.PreallocateMode.{PreallocateMode}
use Rattle.imago_access.specs.Room.{Takes}
use Rattle.imago_access.specs.PreparingCalls.{RunRefused, WritesMapped, WritingRefused}
use Rattle.imago_formats.proofs.RawSteps.{on_ok_always}
use Rattle.qimg_calls.specs.Repairing.{RepairsLeaksOf}
use Rattle.imago_access.specs.PartCalls.{PartCall, ensures_zero, discards_to_zero, discards_to_any, discards_to_backing, LeavesPart, IsDone, DoesPart, PartRefused}

-- The ghosts of one kind of driver, taken from those of the enum.
abbrev pub as_kind : {D E St Su : Type 0} → (D → E) → Ghosts E Su → Ghosts D St → Ghosts D St
as_kind f h g = record {
  layer = λ d. h.layer (f d);
  image = λ d. h.image (f d);
  extras = λ d. h.extras (f d);
  coherent = λ d. h.coherent (f d);
  well_formed = λ d. h.well_formed (f d);
  has_no_dirty_data = λ d. h.has_no_dirty_data (f d);
  stable = λ d. h.stable (f d);
  excess_refcount = λ d. h.excess_refcount (f d);
  unallocated = λ d. h.unallocated (f d);
  has_allocation = λ d. h.has_allocation (f d);
  zeroed = λ d. h.zeroed (f d);
  explicit_zero = λ d. h.explicit_zero (f d);
  mapping_id = g.mapping_id;
  tag = g.tag;
  sound = h.sound;
  began = g.began;
  own_cause = g.own_cause;
  growth_cause = g.growth_cause;
}

pub on_ok_weaker : {T F : Type 0} (result : Result T F) (P Q : Type 0) → (P → Q) → OnOk result P → OnOk result Q
on_ok_weaker (Ok x) P Q more holds = more holds
on_ok_weaker (Err e) P Q more holds = tt

-- A driver of one kind before and after a call. If a larger call had begun for the enum before, it still has after (`on`).
module _ {D E St Su : Type 0} (f : D → E) (h : Ghosts E Su) (g : Ghosts D St) (same : as_kind f h g ≡ g) (a b : D)
    (on : (x : E) (call : Call) → h.began x call (f a) → h.began x call (f b)) where
  takes_in : (spared : ℕ → Type 0) → Takes (as_kind f h g) spared a b → Takes h spared (f a) (f b)
  takes_in spared left = record { stays_allocated = left.stays_allocated; free = left.free; zeroes = left.zeroes }

  unchanged_in : IsUnchanged (as_kind f h g) a b → IsUnchanged h (f a) (f b)
  unchanged_in u = record {
    layer = u.layer;
    unasked = u.unasked;
    seen = u.seen;
    safely = u.safely;
    stilled = u.stilled;
    stays_stable = u.stays_stable;
    excess_refcount = u.excess_refcount;
    room = λ well_formed. takes_in (λ _. ⊤) (u.room well_formed);
    stays_begun = on;
  }

  spared_in : IsLeftUntouched (as_kind f h g) a b → IsLeftUntouched h (f a) (f b)
  spared_in s = record {
    known = record { seen = s.known.seen; safely = s.known.safely };
    unchanged_but_faults = s.unchanged_but_faults;
    stilled = s.stilled;
    room = λ well_formed. takes_in (λ _. ⊤) (s.room well_formed);
    stays_begun = on;
  }

  at_once_in : {T : Type 0} (refusal : Option Fault) (nothing : Type 0) (result : Result T Fault) → EarlyOutcome (as_kind f h g) refusal nothing result a b
      → EarlyOutcome h refusal nothing result (f a) (f b)
  at_once_in refusal nothing result k = record { refused = k.refused; idle = k.idle; unchanged = λ none. unchanged_in (k.unchanged none) }

  -- DEL
  pub unchanged_as : IsUnchanged g a b → IsUnchanged h (f a) (f b)
  unchanged_as unchanged = unchanged_in (subst (λ k. IsUnchanged k a b) (sym same) unchanged)

  -- DEL
  pub at_once_as : {T : Type 0} (refusal : Option Fault) (nothing : Type 0) (result : Result T Fault) → EarlyOutcome g refusal nothing result a b
      → EarlyOutcome h refusal nothing result (f a) (f b)
  at_once_as refusal nothing result once = at_once_in refusal nothing result (subst (λ k. EarlyOutcome k refusal nothing result a b) (sym same) once)

  -- DEL
  pub resizes_as : (first second : ℕ) (result : Result Unit Fault) → Resizes g first second result a b → Resizes h first second result (f a) (f b)
  resizes_as first second result resizes = let k = subst (λ x. Resizes x first second result a b) (sym same) resizes in record {
    nothing = k.nothing;
    free = k.free;
    early_outcome = at_once_in _ _ result k.early_outcome;
    read_only = λ runs alters closed. let r = k.read_only runs alters closed in (r.0, unchanged_in r.1);
  }

  went_as : (ok whole : Type 0) → MutatingCall g ok whole a b → MutatingCall h ok whole (f a) (f b)
  went_as ok whole mutating_call = let w = subst (λ k. MutatingCall k ok whole a b) (sym same) mutating_call in record {
    fixed = w.fixed;
    failed = w.failed;
    counts_not_fallen = w.counts_not_fallen;
    faults = w.faults;
    safely = w.safely;
    stays_stable = w.stays_stable;
    excess_refcount = w.excess_refcount;
  }

  -- DEL
  pub files_read_as : (whole : Type 0) → FilesRead g whole a b → FilesRead h whole (f a) (f b)
  files_read_as whole read = let r = subst (λ k. FilesRead k whole a b) (sym same) read in record {
    layer = r.layer;
    unchanged_but_faults = r.unchanged_but_faults;
    faults = r.faults;
    seen = r.seen;
    safely = r.safely;
    stilled = r.stilled;
    stays_stable = r.stays_stable;
    excess_refcount = r.excess_refcount;
    room = λ well_formed. takes_in (λ _. ⊤) (r.room well_formed);
    stays_begun = on;
  }

  leaves_as : (call : PartCall) (offset n : ℕ) → LeavesPart call (as_kind f h g) offset n a b → LeavesPart call h offset n (f a) (f b)
  leaves_as ensures_zero offset n left = record { stays_allocated = left.stays_allocated; free = left.free; zeroes = left.zeroes }
  leaves_as discards_to_zero offset n left = record { stays_allocated = left.stays_allocated; free = left.free; zeroes = left.zeroes }
  leaves_as discards_to_any offset n left = record { stays_allocated = left.stays_allocated; free = left.free; zeroes = left.zeroes }
  leaves_as discards_to_backing offset n left = record { stays_allocated = left.stays_allocated; free = left.free; zeroes = left.zeroes }

  done_as : (call : PartCall) (p : ℕ) → IsDone call (as_kind f h g) b p → IsDone call h (f b) p
  done_as ensures_zero p done = done
  done_as discards_to_zero p done = done
  done_as discards_to_any p done = done
  done_as discards_to_backing p done = done

  given_as : (call : PartCall) (result : Result (ℕ × ℕ) Fault) → IfOk result (λ r. (p : ℕ) → IsIn r.0 r.1 p → IsDone call (as_kind f h g) b p) → IfOk result (λ r. (p : ℕ) → IsIn r.0 r.1 p → IsDone call h (f b) p)
  given_as call (Ok r) given = λ p there. done_as call p (given p there)
  given_as call (Err e) given = tt

  -- DEL
  pub does_as : (call : PartCall) (offset n : ℕ) (result : Result (ℕ × ℕ) Fault) → DoesPart call g offset n result a b → DoesPart call h offset n result (f a) (f b)
  does_as call offset n result does = let k = subst (λ x. DoesPart call x offset n result a b) (sym same) does in record {
    ok = k.ok;
    err = k.err;
    reach = k.reach;
    given = λ well_formed. given_as call result (k.given well_formed);
    room = λ well_formed whole. leaves_as call offset n (k.room well_formed whole);
    keeps_layer_state = k.keeps_layer_state;
    mutating_call = went_as (HadNoResourceError result) (HadNoResourceError result) does.mutating_call;
    stays_begun = λ x whole begun part kind no_change_refused. on x whole begun;
    crash_images = k.crash_images;
  }

  marks_one : (e : Fault) → MarksFailed (as_kind f h g) a b e → MarksFailed h (f a) (f b) e
  marks_one Memory marks = λ marked. elim (marks marked) [ inl failed ↦ inl failed | inr spared ↦ inr (spared_in spared) ]
  marks_one Storage marks = marks
  marks_one _ marks = tt

  pub marks_as : {T : Type 0} (result : Result T Fault) → IfErr result (MarksFailed g a b) → IfErr result (MarksFailed h (f a) (f b))
  marks_as (Ok x) marks = tt
  marks_as (Err e) marks = marks_one e (subst (λ k. MarksFailed k a b e) (sym same) marks)

  -- For each driver whose call has begun, its own faults are those of some driver of this kind.
  pub refused_as : (call : PartCall) (offset n : ℕ) (result : Result (ℕ × ℕ) Fault)
      → ((below : List Layer) (x : E) (whole : Call) → h.began x whole (f a) → (d : D) × g.began d whole a × (g.own_cause d below whole ≡ h.own_cause x below whole))
      → PartRefused call g offset n result a b → PartRefused call h offset n result (f a) (f b)
  refused_as call offset n result causes refused = let k = subst (λ x. PartRefused call x offset n result a b) (sym same) refused in record {
    failed = k.failed;
    marks_failed = marks_as result refused.marks_failed;
    cause = λ well_formed below x whole begun part is_for.
        let own = causes below x whole begun in
        subst (λ c. IfErr result (DeclinableCause below (h.layer (f a)) offset n c (files h (f a)) (files h (f b)))) own.2 (k.cause well_formed below own.0 whole own.1 part is_for);
  }

  -- DEL
  pub writes_as : (guest place : ℕ) (bytes : List ℕ) (result : Result Unit Fault) → WritesMapped g guest place bytes result a b → WritesMapped h guest place bytes result (f a) (f b)
  writes_as guest place bytes result writes = let k = subst (λ x. WritesMapped x guest place bytes result a b) (sym same) writes in record {
    mapped = k.mapped;
    empty = k.empty;
    keeps_layer_state = k.keeps_layer_state;
    ok = k.ok;
    err = k.err;
    room = λ well_formed whole. let left = k.room well_formed whole in record { stays_allocated = left.stays_allocated; free = left.free; zeroes = left.zeroes };
    crash_images = k.crash_images;
    mutating_call = went_as (HadNoResourceError result) (HadNoResourceError result) writes.mutating_call;
    stays_begun = λ x call begun. on_ok_always result _ (on x call begun);
  }

  pub write_refused_as : (guest place n : ℕ) (result : Result Unit Fault) → WritingRefused g guest place n result a b → WritingRefused h guest place n result (f a) (f b)
  write_refused_as guest place n result refused = let k = subst (λ x. WritingRefused x guest place n result a b) (sym same) refused in record {
    failed = k.failed;
    marks_failed = marks_as result refused.marks_failed;
    cause = k.cause;
  }

  marks_over_one : (e : Fault) → MarksFailedOver (as_kind f h g) a b e → MarksFailedOver h (f a) (f b) e
  marks_over_one Memory marks = marks_one Memory marks
  marks_over_one Storage marks = λ marked. let told = marks marked in (told.0, elim told.1 [ inl failed ↦ inl failed | inr spared ↦ inr (spared_in spared) ])
  marks_over_one _ marks = tt

  marks_over_as : {T : Type 0} (result : Result T Fault) → IfErr result (MarksFailedOver g a b) → IfErr result (MarksFailedOver h (f a) (f b))
  marks_over_as (Ok x) marks = tt
  marks_over_as (Err e) marks = marks_over_one e (subst (λ k. MarksFailedOver k a b e) (sym same) marks)

  -- DEL
  pub run_refused_as : {B T : Type 0} (u : GhostsBelow B) (x y : B) (asked : Asked) (result : Result T Fault)
      → ((below : List Layer) (e : E) (call : Call) → h.began e call (f a) → (d : D) × g.began d call a × (g.own_cause d below call ≡ h.own_cause e below call))
      → RunRefused g u asked result (a, x) (b, y) → RunRefused h u asked result (f a, x) (f b, y)
  run_refused_as u x y asked result causes refused = let k = subst (λ z. RunRefused z u asked result (a, x) (b, y)) (sym same) refused in record {
    failed = k.failed;
    marks_failed = marks_over_as result refused.marks_failed;
    cause = λ well_formed coherent e call begun part announced.
        let own = causes (u.layers_below x) e call begun in
        subst (λ c. IfErr result (PartCause (u.layers_below x) (h.layer (f a)) asked.offset asked.length c (files h (f a) ++ u.files_of_layers_below x) (files h (f b) ++ u.files_of_layers_below y))) own.2
        (k.cause well_formed coherent own.0 call own.1 part announced);
  }

  -- `run_refused_as` for a result of another type.
  pub run_refused_err : {B T U : Type 0} (u : GhostsBelow B) (x y : B) (asked : Asked) (e : Fault)
      → ((below : List Layer) (z : E) (call : Call) → h.began z call (f a) → (d : D) × g.began d call a × (g.own_cause d below call ≡ h.own_cause z below call))
      → RunRefused {T = T} g u asked (Err e) (a, x) (b, y) → RunRefused {T = U} h u asked (Err e) (f a, x) (f b, y)
  run_refused_err u x y asked e causes refused = let k = run_refused_as u x y asked (Err e) causes refused in record {
    failed = k.failed;
    marks_failed = k.marks_failed;
    cause = k.cause;
  }

  -- DEL
  pub shrink_refused_as : (size : ℕ) (result : Result Unit Fault) → ((below : List Layer) (call : Call) → g.own_cause a below call ≡ h.own_cause (f a) below call)
      → ShrinkRefused g size result a b → ShrinkRefused h size result (f a) (f b)
  shrink_refused_as size result causes refused = let k = subst (λ x. ShrinkRefused x size result a b) (sym same) refused in record {
    failed = k.failed;
    marks_failed = marks_as result refused.marks_failed;
    cause = λ well_formed below. subst (λ c. IfErr result (ShrinkCause below (h.layer (f a)) size c (files h (f a)) (files h (f b)))) (causes below (shrink size)) (k.cause well_formed below);
  }

  -- DEL
  pub growth_refused_as : {B : Type 0} (u : GhostsBelow B) (x y : B) (size : ℕ) (mode : PreallocateMode) (result : Result Unit Fault)
      → ((below : List Layer) → g.growth_cause a below size mode ≡ h.growth_cause (f a) below size mode)
      → GrowthRefused g u size mode result (a, x) (b, y) → GrowthRefused h u size mode result (f a, x) (f b, y)
  growth_refused_as u x y size mode result causes refused = let k = subst (λ z. GrowthRefused z u size mode result (a, x) (b, y)) (sym same) refused in record {
    failed = k.failed;
    marks_failed = marks_over_as result refused.marks_failed;
    cause = λ well_formed coherent. subst (λ c. IfErr result (GrowthCause (u.layers_below x) (h.layer (f a)) size c (files h (f a) ++ u.files_of_layers_below x) (files h (f b) ++ u.files_of_layers_below y))) (causes (u.layers_below x))
        (k.cause well_formed coherent);
  }

  -- A repair of leaks.
  pub repairs_as : (result : Result (Vec (ℕ × ℕ) Global) Fault) → RepairsLeaksOf g a result b → RepairsLeaksOf h (f a) result (f b)
  repairs_as result repairs = let k = subst (λ x. RepairsLeaksOf x a result b) (sym same) repairs in record {
    listed = k.listed;
    repaired = k.repaired;
    written = k.written;
    counted = k.counted;
    same = k.same;
    crash_images = k.crash_images;
    flushes_first = λ well_formed ok. let first = k.flushes_first well_formed ok in record {
      mid = f first.mid;
      layer = first.layer;
      written = first.written;
      counted = first.counted;
      excess_refcount = first.excess_refcount;
      flush = first.flush;
      crash_images = first.crash_images;
    };
    early_outcome = at_once_in _ _ result k.early_outcome;
    keeps_layer_state = k.keeps_layer_state;
    reloading_call = record {
      fixed = k.reloading_call.fixed;
      failed = k.reloading_call.failed;
      counts_not_fallen = k.reloading_call.counts_not_fallen;
      faults = k.reloading_call.faults;
      safely = k.reloading_call.safely;
      stays_stable = k.reloading_call.stays_stable;
    };
    failed = k.failed;
    marks_failed = k.marks_failed;
    cause = k.cause;
  }
