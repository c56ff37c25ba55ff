-- The contracts of a driver of one format, seen as those of the driver of an image of any format.
use Rattle.std.proofs.Common.{◌≡◌, ◌⊎◌, ℕ, List, refl, ap, subst, sym, inl, inr}
use Rattle.std.specs.Prelude.{Bool, IsTrue, Option, Result, Ok, Err, OnOk, IfErr, IsOk, IsErrOf}
use Rattle.imago_storage.specs.Disk.{Value}
use Rattle.imago_storage.specs.State.{StorageState}
use Rattle.imago_storage.specs.Steps.{Call}
use Rattle.imago_storage.specs.declared.fault.Fault.{Fault}
use Rattle.imago_storage.specs.declared.fault.Fault.TheVariants.{Memory, Storage}
use Rattle.imago_access.specs.declared.driver_model.DriverModel.{Ghosts}
use Rattle.imago_access.specs.declared.format.Format.{Format}
use Rattle.imago_access.specs.Building.{IsOpened}
use Rattle.imago_access.specs.Layer.{Layer}
use Rattle.imago_access.specs.FileReads.{FilesRead}
use Rattle.imago_access.specs.Going.{EarlyOutcome, IsKnown, IsLeftUntouched, IsMarkedFailed, IsUnchanged, LookupCall, MarksFailed, MarksFailedOver, MutatingCall, ReloadingCall}
use Rattle.imago_access.specs.Room.{LeavesAllocation}
use Rattle.imago_access.specs.Stops.{KeepsCrashImagesTo, Left, GivesNone}
use Rattle.imago_access.proofs.Stopping.{passes_weaker}

-- The view of a driver through `f`. The mappings, and the consistency of files, stay those of the driver's own format.
abbrev pub through : {D E St Su : Type 0} → (D → E) → Ghosts E Su → Ghosts D St → Ghosts D St
through f h g = record {
  layer = λ d. h.layer (f d);
  image = λ d. h.image (f d);
  extras = λ d. h.extras (f d);
  coherent = λ d. h.coherent (f d);
  well_formed = λ d. h.well_formed (f d);
  has_no_dirty_data = λ d. h.has_no_dirty_data (f d);
  stable = λ d. h.stable (f d);
  excess_refcount = λ d. h.excess_refcount (f d);
  unallocated = λ d. h.unallocated (f d);
  has_allocation = λ d. h.has_allocation (f d);
  zeroed = λ d. h.zeroed (f d);
  explicit_zero = λ d. h.explicit_zero (f d);
  mapping_id = g.mapping_id;
  tag = g.tag;
  sound = g.sound;
  began = λ d call now. h.began (f d) call (f now);
  own_cause = λ d. h.own_cause (f d);
  growth_cause = λ d. h.growth_cause (f d);
}

-- A driver of one format among several. The same files are consistent for both, and a call that began in one began in the other.
pub record IsKind {D E St Su : Type 0} (f : D → E) (h : Ghosts E Su) (g : Ghosts D St) : Type 0 where
  pub sound : (d : D) (file : List ℕ) → g.sound (h.layer (f d)).fixed.kind file → h.sound (h.layer (f d)).fixed.kind file
  pub sound_for : (d : D) (file : List ℕ) → h.sound (h.layer (f d)).fixed.kind file → g.sound (h.layer (f d)).fixed.kind file
  pub alike : (e : E) (call : Call) (d : D) → h.began e call (f d) → (from : D) × (e ≡ f from)

module _ {D E St Su : Type 0} {f : D → E} {h : Ghosts E Su} {g : Ghosts D St} (kind : IsKind f h g) (a b : D) where
  -- A property of each call that began in a driver of this format holds for each call that began.
  pub begun : (P : E → Call → Type 0) → ((d : D) (call : Call) → h.began (f d) call (f a) → P (f d) call) → (e : E) (call : Call) → h.began e call (f a) → P e call
  begun P each e call now =
      let is = kind.alike e call a now in
      subst (λ (x : E). P x call) (sym is.1) (each is.0 call (subst (λ (x : E). h.began x call (f a)) is.1 now))

  pub on : ((d : D) (call : Call) → h.began (f d) call (f a) → h.began (f d) call (f b)) → (e : E) (call : Call) → h.began e call (f a) → h.began e call (f b)
  on each = begun (λ e call. h.began e call (f b)) each

  pub began_on_ok : {T F : Type 0} (result : Result T F) → ((d : D) (call : Call) → h.began (f d) call (f a) → OnOk result (h.began (f d) call (f b)))
      → (e : E) (call : Call) → h.began e call (f a) → OnOk result (h.began e call (f b))
  began_on_ok result each = begun (λ e call. OnOk result (h.began e call (f b))) each

  pub began_ok : {T : Type 0} (result : Result T Fault) → OnOk result ((d : D) (call : Call) → h.began (f d) call (f a) → h.began (f d) call (f b))
      → OnOk result ((e : E) (call : Call) → h.began e call (f a) → h.began e call (f b))
  began_ok (Ok x) each = on each
  began_ok (Err e) each = tt

  pub stops : (below : List Layer) (least most : ℕ) (gives : ℕ → Value → Type 0) → KeepsCrashImagesTo (through f h g) below least most gives a b → KeepsCrashImagesTo h below least most gives (f a) (f b)
  stops below least most gives keeps =
      passes_weaker (Left below (h.layer (f a)) (h.image (f a)).bytes g.sound least most gives) (Left below (h.layer (f a)) (h.image (f a)).bytes h.sound least most gives) (h.image (f a)) (h.image (f b))
      (λ file left. record { is_sound = kind.sound a file left.is_sound; backed = left.backed; size = left.size; no_longer = left.no_longer; shows = left.shows })
      keeps

  pub leaves : (left spared : ℕ → Type 0) → LeavesAllocation (through f h g) left spared a b → LeavesAllocation h left spared (f a) (f b)
  leaves left spared l = record { stays_allocated = l.stays_allocated; free = l.free; zeroes = l.zeroes }

  pub known : IsKnown (through f h g) a b → IsKnown h (f a) (f b)
  known k = record { seen = k.seen; safely = k.safely }

  pub unchanged : IsUnchanged (through f h g) a b → IsUnchanged h (f a) (f b)
  unchanged u = record {
    layer = u.layer;
    unasked = u.unasked;
    seen = u.seen;
    safely = u.safely;
    stilled = u.stilled;
    stays_stable = u.stays_stable;
    excess_refcount = u.excess_refcount;
    room = λ well_formed. leaves _ _ (u.room well_formed);
    stays_begun = on u.stays_begun;
  }

  pub spared : IsLeftUntouched (through f h g) a b → IsLeftUntouched h (f a) (f b)
  spared s = record { known = known s.known; unchanged_but_faults = s.unchanged_but_faults; stilled = s.stilled; room = λ well_formed. leaves _ _ (s.room well_formed); stays_begun = on s.stays_begun }

  -- The result may be that of another call, which fails for the same faults and succeeds if this call does.
  pub at_once_as : {T U : Type 0} (refusal : Option Fault) (nothing : Type 0) (result : Result T Fault) (answer : Result U Fault)
      → ((e : Fault) → IsErrOf result e → IsErrOf answer e) → (IsOk result → IsOk answer)
      → EarlyOutcome (through f h g) refusal nothing result a b → EarlyOutcome h refusal nothing answer (f a) (f b)
  at_once_as refusal nothing result answer err ok once = record {
    refused = λ e is. err e (once.refused e is);
    idle = λ none can. ok (once.idle none can);
    unchanged = λ why. unchanged (once.unchanged why);
  }

  pub early_outcome : {T : Type 0} (refusal : Option Fault) (nothing : Type 0) (result : Result T Fault) → EarlyOutcome (through f h g) refusal nothing result a b → EarlyOutcome h refusal nothing result (f a) (f b)
  early_outcome refusal nothing result once = at_once_as refusal nothing result result (λ e is. is) (λ is. is) once

  pub at_once_ok : {T U : Type 0} (refusal : Option Fault) (nothing : Type 0) (m : T) (n : U) → EarlyOutcome (through f h g) refusal nothing (Ok m) a b → EarlyOutcome h refusal nothing (Ok n) (f a) (f b)
  at_once_ok refusal nothing m n once = at_once_as refusal nothing (Ok m) (Ok n) (λ e is. absurd (cc is)) (λ is. refl) once

  pub at_once_err : {T U : Type 0} (refusal : Option Fault) (nothing : Type 0) (e : Fault) → EarlyOutcome {T = T} (through f h g) refusal nothing (Err e) a b → EarlyOutcome {T = U} h refusal nothing (Err e) (f a) (f b)
  at_once_err refusal nothing e once = at_once_as refusal nothing (Err e) (Err e) (λ x is. let same : e ≡ x = cc is in ap Err same) (λ is. absurd (cc is)) once

  spared_or : (P : Type 0) → P ⊎ IsLeftUntouched (through f h g) a b → P ⊎ IsLeftUntouched h (f a) (f b)
  spared_or P (inl p) = inl p
  spared_or P (inr s) = inr (spared s)

  pub marks : {T : Type 0} (result : Result T Fault) → IfErr result (MarksFailed (through f h g) a b) → IfErr result (MarksFailed h (f a) (f b))
  marks (Ok x) m = tt
  marks (Err e) m = one e m where
    one : (e : Fault) → MarksFailed (through f h g) a b e → MarksFailed h (f a) (f b) e
    one Memory m = λ marked. spared_or (IsTrue (h.layer (f b)).failed) (m marked)
    one Storage m = m
    one e m = tt

  pub marks_over : {T : Type 0} (result : Result T Fault) → IfErr result (MarksFailedOver (through f h g) a b) → IfErr result (MarksFailedOver h (f a) (f b))
  marks_over (Ok x) m = tt
  marks_over (Err e) m = one e m where
    one : (e : Fault) → MarksFailedOver (through f h g) a b e → MarksFailedOver h (f a) (f b) e
    one Memory m = λ marked. spared_or (IsTrue (h.layer (f b)).failed) (m marked)
    one Storage m = λ marked. let both = m marked in (both.0, spared_or (IsTrue (h.layer (f b)).failed) both.1)
    one e m = tt

  pub marked_failed : IsMarkedFailed (through f h g) a b → IsMarkedFailed h (f a) (f b)
  marked_failed m = record { layer = m.layer; unasked = m.unasked; seen = m.seen; stilled = m.stilled; stays_stable = m.stays_stable }

  pub looked : (whole : Type 0) → LookupCall (through f h g) whole a b → LookupCall h whole (f a) (f b)
  looked whole l = record {
    keeps_layer_state = l.keeps_layer_state;
    counts_not_fallen = l.counts_not_fallen;
    faults = l.faults;
    stays = l.stays;
    safely = l.safely;
    cut = elim (l.cut) [ inl failed ↦ inl failed | inr k ↦ inr (known k) ];
    stays_stable = l.stays_stable;
    excess_refcount = l.excess_refcount;
    unchanged_but_faults = l.unchanged_but_faults;
    crash_images = λ well_formed below. stops below (h.layer (f a)).size (h.layer (f a)).size GivesNone (l.crash_images well_formed below);
  }

  pub mutating_call : (ok whole : Type 0) → MutatingCall (through f h g) ok whole a b → MutatingCall h ok whole (f a) (f b)
  mutating_call ok whole w = record { fixed = w.fixed; failed = w.failed; counts_not_fallen = w.counts_not_fallen; faults = w.faults; safely = w.safely; stays_stable = w.stays_stable; excess_refcount = w.excess_refcount }

  pub anew : (ok whole : Type 0) → ReloadingCall (through f h g) ok whole a b → ReloadingCall h ok whole (f a) (f b)
  anew ok whole w = record { fixed = w.fixed; failed = w.failed; counts_not_fallen = w.counts_not_fallen; faults = w.faults; safely = w.safely; stays_stable = w.stays_stable }

  pub read : (whole : Type 0) → FilesRead (through f h g) whole a b → FilesRead h whole (f a) (f b)
  read whole r = record {
    layer = r.layer;
    unchanged_but_faults = r.unchanged_but_faults;
    faults = r.faults;
    seen = r.seen;
    safely = r.safely;
    stilled = r.stilled;
    stays_stable = r.stays_stable;
    excess_refcount = r.excess_refcount;
    room = λ well_formed. leaves _ _ (r.room well_formed);
    stays_begun = on r.stays_begun;
  }

-- A driver that was just opened.
pub opened : {D E St Su : Type 0} {f : D → E} {h : Ghosts E Su} {g : Ghosts D St} → IsKind f h g → (format : Format) (writable : Bool) (number : ℕ) (before : StorageState) (d : D)
    → IsOpened (through f h g) format writable number before d → IsOpened h format writable number before (f d)
opened kind format writable number before d o = record {
  format_is = o.format_is;
  writable_is = o.writable_is;
  number_is = o.number_is;
  size_is = o.size_is;
  meant = record { size = o.meant.size; exactly = o.meant.exactly; cell = o.meant.cell };
  counted = o.counted;
  unchanged_but_faults = o.unchanged_but_faults;
  free = o.free;
  usable = o.usable;
  coherent = o.coherent;
  has_no_dirty_data = o.has_no_dirty_data;
  stays_stable = o.stays_stable;
  well_formed = λ keeps sound. o.well_formed keeps (kind.sound_for d _ sound);
}
