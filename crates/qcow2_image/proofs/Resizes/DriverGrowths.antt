-- Lemmas that state a growth whose new bytes read as zeroes by the relations of the driver.
use Rattle.std.proofs.Common.{◌≡◌, ◌≢◌, ℕ, ◌-◌, ◌<◌, ◌≤◌, arith, ap, sym, subst, ◌∙◌, inl, inr, refl, false, List, None, Result, Ok, Err}
use Rattle.std.specs.Prelude.{◌⊎◌, ◌++◌, IfErr, IsTrue, OnErr, OnOk, max, min}
use Rattle.std.specs.Borrow.{RattleType}
use Rattle.imago_storage.specs.State.{StorageState}
use Rattle.imago_storage.specs.Disk.{Value, barred, byte, damaged_place}
use Rattle.imago_storage.specs.Steps.{Growth, IsFilled, zeroes}
use Rattle.imago_storage.specs.declared.fault.Fault.{Fault}
use Rattle.imago_storage.specs.declared.fault.Fault.TheVariants.{Barred, Counter, DamagedTable, Failed, Limit, Memory, MissingData, Storage, Unsupported, VersionLimit}
use Rattle.imago_storage.specs.declared.storage.Storage.{Ghosts}
use Rattle.imago_access.specs.Chain.{at}
use Rattle.imago_access.specs.Changes.{asking}
use Rattle.imago_access.specs.Files.{HadNoResourceError, ImageCause, IsLater, IsNotResourceError, Pairs, files}
use Rattle.imago_access.specs.Going.{MarksFailedOver, MutatingCall}
use Rattle.imago_access.specs.Layer.{IsFree, Layer, through}
use Rattle.imago_access.specs.Parts.{GrowthCause}
use Rattle.imago_access.specs.Refusals.{unusable_fault}
use Rattle.imago_access.specs.ResizeCalls.{GrowthRefused, Grows, IsUngrown, Resizes}
use Rattle.imago_access.specs.Resizes.{Grown, NotGrown, fill_of}
use Rattle.imago_access.specs.Stops.{GivesNone, GivesPast, KeepsCrashImagesTo, Left}
use Rattle.imago_access.specs.declared.driver_model.DriverModel.{Ghosts as SeenGhosts}
use Rattle.imago_access.specs.declared.driver_model.LayersBelowModel.{Ghosts as GhostsBelow}
use Rattle.imago_access.specs.declared.format.PreallocateMode.{PreallocateMode}
use Rattle.imago_access.specs.declared.format.PreallocateMode.TheVariants as ways
use Rattle.imago_access.proofs.FilePairs.{some_rose_right}
use Rattle.imago_access.proofs.ImageCauses.{failed_left, failed_right}
use Rattle.imago_access.proofs.Marking.{over_plain}
use Rattle.imago_access.proofs.Stopping.{left_weaker, passes_weaker}
use Rattle.qcow2_types.specs.Header.{Fields}
use Rattle.qcow2_alloc.specs.Causes.{HasCause}
use Rattle.qcow2_image.specs.Allocating.{reserving_causes}
use Rattle.qcow2_image.specs.Filling.{NeedsShown, RefusesCopy, WhyNotCopied}
use Rattle.qcow2_image.specs.Growing.{GrowsOver, IsUnsupported, LacksRoom, LastHas, WhyUngrown}
use Rattle.qcow2_image.specs.Holding.{mapping_id_held}
use Rattle.qcow2_image.specs.ImageLayer.{qcow2_fixed}
use Rattle.qcow2_image.specs.Preparing.{LeavesMarkedFailed}
use Rattle.qcow2_image.specs.Rooms.{IsWellFormed, is_sound}
use Rattle.qcow2_image.specs.Seen.{layer_of}
use Rattle.qcow2_image.specs.Unspent.{holding_in}
use Rattle.qcow2_image.specs.contracts.qcow2.Qcow2DriverModel.TheImpl.{ghosts}
use Rattle.qcow2_image.specs.declared.qcow2.PreparedMappingState.{PreparedMappingState}
use Rattle.qcow2_image.specs.declared.qcow2.Qcow2.{Qcow2}
use Rattle.qcow2_image.proofs.CallsWithoutChanges.{busy-early_outcome}
use Rattle.qcow2_image.proofs.LeaksByFile.{surplus-kept}
use Rattle.qcow2_image.proofs.Resizes.SizeEffects.{err-map, resized-failed, resized-marks}

-- Every other mode adds zeroes.
fills-zeroes : (m : PreallocateMode) → m ≢ ways.None → fill_of m ≡ zeroes
fills-zeroes ways.None some = absurd (some refl)
fills-zeroes ways.Zero some = refl
fills-zeroes ways.FormatAllocate some = refl
fills-zeroes ways.FullAllocate some = refl
fills-zeroes ways.WriteData some = refl

-- A growth that has something to do, and no early error, isn't one that reads nothing.
pub ungrown-not : {P : Type 0} (layer : Layer) (size : ℕ) → layer.size < size → unusable_fault layer ≡ None → IsTrue layer.fixed.writable
    → IsUngrown layer size → P
ungrown-not layer size lt runs writable (inl idle) = absurd (omega (arith, lt, idle))
ungrown-not layer size lt runs writable (inr (inl some)) = absurd (cc (some, runs))
ungrown-not layer size lt runs writable (inr (inr closed)) = absurd (cc (closed, writable))

module _ (R : RattleType) (st : Ghosts R.Denot) (sd : mir.Syntax.Dict) (dd : mir.Syntax.Dict) {B : Type 0} (u : GhostsBelow B) (n : ℕ)
    (mode : PreallocateMode) (old new : Qcow2 R.Denot st) (x y : B) (result : Result Unit Fault)
    (r : GrowsOver st u n (old, x) result (new, y)) (lt : old.tables.file.header.fields.size < n) where
  abbrev driver : SeenGhosts (Qcow2 R.Denot st) PreparedMappingState
  driver = ghosts R st sd dd

  abbrev below : List Layer
  below = u.layers_below x

  abbrev h : Fields
  h = old.tables.file.header.fields

  over-fixed : (layer_of st new).fixed ≡ (layer_of st old).fixed
  over-fixed = λ i. qcow2_fixed (r.shape i) (record h { version = r.version i; cluster_bits = r.bits i }) (r.mode i) (r.number i)

  over-unspent : (layer_of st new).unspent ≡ (layer_of st old).unspent
  over-unspent = ap (λ o. mapping_id_held (holding_in st o)) r.unspent

  over-later : Pairs IsLater (files driver old) (files driver new)
  over-later = ((r.shape, r.counts_not_fallen), tt)

  over-mutates : MutatingCall driver (HadNoResourceError result) (HadNoResourceError result × u.coherent_below x) old new
  over-mutates = record {
    fixed = over-fixed;
    failed = r.failed;
    counts_not_fallen = over-later;
    faults = λ ok. (r.faults ok, tt);
    safely = λ w well_formed. r.well_formed well_formed w.0;
    stays_stable = λ l. l;
    excess_refcount = λ w well_formed. surplus-kept st old new (r.leaks well_formed w.0);
  }

  -- The growth has something to do, and no early error.
  pub over-resizes : IsFree (layer_of st old) → unusable_fault (layer_of st old) ≡ None → IsTrue old.mode.writable
      → Resizes driver n h.size result old new
  over-resizes free runs writable = record {
    nothing = λ le. absurd (omega (arith, le, lt));
    free = over-unspent ∙ free;
    early_outcome = busy-early_outcome driver (unusable_fault (layer_of st old)) (n ≤ h.size) result old new runs
        (λ le. omega (arith, le, lt));
    read_only = λ _ _ closed. absurd (cc (closed, writable));
  }

  abbrev Unchanged : Type 0
  Unchanged = (p : ℕ) → p < h.size → through ((layer_of st new).cell p) (at below p) ≡ through ((layer_of st old).cell p) (at below p)

  abbrev NewZeroes : Type 0
  NewZeroes = (p : ℕ) → h.size ≤ p → p < n → through ((layer_of st new).cell p) (at below p) ≡ byte 0

  grown-by : mode ≢ ways.None → (q : Result Unit Fault) → OnOk q (new.tables.file.header.fields.size ≡ n)
      → (HadNoResourceError q → Unchanged) → OnOk q NewZeroes → OnOk q (Grown (at below) (layer_of st old) (layer_of st new) n (fill_of mode))
  grown-by some (Err e) size shown zeroed = tt
  grown-by some (Ok done) size shown zeroed = record {
    fixed = over-fixed;
    size = size;
    unspent = over-unspent;
    data_unchanged = shown tt;
    filled = λ p from to. subst (λ (f : Growth). IsFilled f (through ((layer_of st new).cell p) (at below p)))
        (sym (fills-zeroes mode some)) (zeroed p from to);
  }

  not-grown-by : (q : Result Unit Fault) → OnErr q (new.tables.file.header.fields.size ≡ h.size) → (HadNoResourceError q → Unchanged)
      → IfErr q (λ e. IsNotResourceError e → NotGrown (at below) (layer_of st old) (layer_of st new))
  not-grown-by (Ok done) unsized shown = tt
  not-grown-by (Err e) unsized shown = λ not_resource_error. record {
    keeps_layer_state = record { fixed = over-fixed; size = unsized; unspent = over-unspent; failed = r.failed };
    data_unchanged = shown not_resource_error;
  }

  pub over-does : mode ≢ ways.None → Grows driver u n mode result (old, x) (new, y)
  over-does some = record {
    ok = λ well_formed under longer. grown-by some result r.size (r.shown well_formed under) (r.zeroed well_formed under);
    err = λ well_formed under. not-grown-by result r.unsized (r.shown well_formed under);
    crash_images = λ well_formed under.
        let layer = layer_of st old in let s = st.state old.tables.file.image in let s' = st.state new.tables.file.image in
        let least : min layer.size n ≡ layer.size = omega (arith, lt) in
        subst (λ k. KeepsCrashImagesTo driver below k (max layer.size n) (GivesPast layer.size) old new) least
        (passes_weaker (Left below layer s.bytes is_sound (min layer.size n) (max layer.size n) GivesNone)
        (Left below layer s.bytes is_sound (min layer.size n) (max layer.size n) (GivesPast layer.size)) s s'
        (left_weaker below is_sound layer s.bytes (min layer.size n) (max layer.size n) GivesNone (GivesPast layer.size)
        (λ p v low none. absurd none)) (r.crash_images well_formed under));
    mutating_call = over-mutates;
  }

  abbrev olds : List StorageState
  olds = files driver old ++ u.files_of_layers_below x

  abbrev news : List StorageState
  news = files driver new ++ u.files_of_layers_below y

  abbrev Cause : Fault → Type 0
  Cause = GrowthCause below (layer_of st old) n (WhyUngrown st old below n mode) olds news

  own-cause : mode ≢ ways.None → IsWellFormed st old → (e : Fault) → HasCause (reserving_causes st (LacksRoom st old n) old new) e → Cause e
  own-cause some well_formed Memory why = tt
  own-cause some well_formed Storage why = inl why
  own-cause some well_formed (Limit number) why = inr (inr (some, why well_formed))
  own-cause some well_formed DamagedTable why = absurd (why well_formed)
  own-cause some well_formed Counter why = absurd (why well_formed)
  own-cause some well_formed e why = absurd why

  last-has : (v : Value) → NeedsShown st u (asking (h.size - 1) 1 false) (old, x) v → LastHas st old below v
  last-has v which = (which.0, which.1.first.0, which.1.first.1, which.2)

  copy-cause : mode ≢ ways.None → (e : Fault) → WhyNotCopied st u (asking (h.size - 1) 1 false) (old, x) y e → Cause e
  copy-cause some Failed why = inr why
  copy-cause some MissingData why = inr why
  copy-cause some DamagedTable why = (some, last-has damaged_place why)
  copy-cause some Barred why = (some, last-has barred why)
  copy-cause some Memory why = tt
  copy-cause some Storage why =
      some_rose_right (files driver old) (files driver new) (u.files_of_layers_below x) (u.files_of_layers_below y) over-later why
  copy-cause some e why = absurd why

  abbrev Why : Fault → Type 0
  Why e = HasCause (reserving_causes st (LacksRoom st old n) old new) e ⊎ RefusesCopy st u (asking (h.size - 1) 1 false) (old, x) y e

  why-failed : (e : Fault) → Why e → ImageCause olds news e
  why-failed e (inl own) = failed_left (files driver old) (files driver new) (u.files_of_layers_below x) (u.files_of_layers_below y) e
      (resized-failed R st sd dd (LacksRoom st old n) old new e own)
  why-failed e (inr copy) = failed_right (files driver old) (files driver new) (u.files_of_layers_below x) (u.files_of_layers_below y) e
      over-later copy.failed

  why-cause : mode ≢ ways.None → IsWellFormed st old → u.coherent_below x → (e : Fault) → Why e → Cause e
  why-cause some well_formed under e (inl own) = own-cause some well_formed e own
  why-cause some well_formed under e (inr copy) = copy-cause some e (copy.cause well_formed under)

  pub over-refused : mode ≢ ways.None → GrowthRefused driver u n mode result (old, x) (new, y)
  over-refused some = record {
    failed = err-map result Why (ImageCause olds news) why-failed r.cause;
    marks_failed = err-map result (LeavesMarkedFailed st old new) (MarksFailedOver driver old new)
        (λ e is. over_plain driver old new e (resized-marks R st sd dd (LacksRoom st old n) old new e is)) r.marked;
    cause = λ well_formed under. err-map result Why Cause (why-cause some well_formed under) r.cause;
  }

  -- The mode was checked before.
  never-unsupported : IsWellFormed st old → u.coherent_below x → (e : Fault) → Why e → IsUnsupported e → ⊥
  never-unsupported well_formed under Unsupported (inl own) is = own
  never-unsupported well_formed under Unsupported (inr copy) is = copy.cause well_formed under
  never-unsupported well_formed under VersionLimit (inl own) is = own
  never-unsupported well_formed under VersionLimit (inr copy) is = copy.cause well_formed under
  never-unsupported well_formed under e why is = absurd is

  pub over-early : IsWellFormed st old → u.coherent_below x → IfErr result (λ e. IsUnsupported e → (new ≡ old) × (y ≡ x))
  over-early well_formed under = err-map result Why (λ e. IsUnsupported e → (new ≡ old) × (y ≡ x))
      (λ e why is. absurd (never-unsupported well_formed under e why is)) r.cause

-- Without preallocation a growth has no such error.
module _ {S : Type 0} (g : Ghosts S) (full : ℕ → Type 0) (old new : Qcow2 S g) where
  never-plain : (e : Fault) → HasCause (reserving_causes g full old new) e → IsUnsupported e → ⊥
  never-plain Unsupported why is = why
  never-plain VersionLimit why is = why
  never-plain e why is = absurd is

  pub plain-early : (P : Type 0) (result : Result Unit Fault) → IfErr result (HasCause (reserving_causes g full old new))
      → IfErr result (λ e. IsUnsupported e → P)
  plain-early P result = err-map result (HasCause (reserving_causes g full old new)) (λ e. IsUnsupported e → P)
      (λ e why is. absurd (never-plain e why is))
