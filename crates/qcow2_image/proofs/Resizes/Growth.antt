-- Lemmas on growths: the L1 table moves, and then the size changes.
use Rattle.std.proofs.Common.{◌≡◌, ℕ, ◌+◌, ◌-◌, ◌/◌, ◌^◌, ◌<◌, ◌≤◌, arith, ap, sym, subst, inl, inr, Bool, false, List, [], Result, Ok, Err, ◌∙◌}
use Rattle.std.specs.Prelude.{⊤, ◌++◌, IsFalse, is_some, not, max, min, OnOk}
use Rattle.std.specs.Borrow.{RattleType}
use Rattle.imago_storage.specs.State.{HasRisen, StorageState}
use Rattle.imago_storage.specs.Steps.{IsFilled}
use Rattle.imago_storage.specs.declared.fault.Fault.{Fault}
use Rattle.imago_storage.specs.declared.fault.Fault.TheVariants.{Barred, Counter, DamagedTable, Limit, Memory, ReadOnly, Storage, Unsupported, VersionLimit}
use Rattle.imago_storage.specs.declared.storage.Storage.{Ghosts}
use Rattle.imago_access.specs.Chain.{at}
use Rattle.imago_access.specs.Files.{HadNoResourceError, ImageCause, IsNotResourceError, files}
use Rattle.imago_access.specs.Going.{MarksFailedOver}
use Rattle.imago_access.specs.Layer.{Cell, Layer, through}
use Rattle.imago_access.specs.Parts.{GrowthCause}
use Rattle.imago_access.specs.ResizeCalls.{GrowthRefused, Grows}
use Rattle.imago_access.specs.Resizes.{Grown, NotGrown, fill_of}
use Rattle.imago_access.specs.Stops.{GivesPast, KeepsCrashImagesTo, Left}
use Rattle.imago_access.specs.declared.driver_model.DriverModel.{Ghosts as SeenGhosts}
use Rattle.imago_access.specs.declared.driver_model.LayersBelowModel.{Ghosts as GhostsBelow}
use Rattle.imago_access.specs.declared.format.PreallocateMode.{PreallocateMode}
use Rattle.imago_access.specs.declared.format.PreallocateMode.TheVariants as ways
use Rattle.imago_access.proofs.ImageCauses.{failed_left}
use Rattle.imago_access.proofs.Marking.{over_plain}
use Rattle.imago_access.proofs.Stopping.{left_weaker, passes_weaker}
use Rattle.qcow2_types.specs.Header.{cluster_size, Header}
use Rattle.qcow2_alloc.specs.Causes.{HasCause}
use Rattle.qcow2_alloc.specs.Crowding.{space}
use Rattle.qcow2_clusters.specs.Lengthening.{l1_clusters}
use Rattle.qcow2_image.specs.Allocating.{Begins, LoadsSpace, allocation_causes, reserving_causes}
use Rattle.qcow2_image.specs.FreeSpace.{HasNoPlace, enough_for_entry}
use Rattle.qcow2_image.specs.Growing.{RefusesGrowth, WhyUngrown}
use Rattle.qcow2_image.specs.KeepsDisk.{KeepsDisk}
use Rattle.qcow2_image.specs.Preparing.{LeavesMarkedFailed}
use Rattle.qcow2_image.specs.Resizing.{GivesBlank, GrowsDisk, KeepsMappings, LacksL1, MovesL1, SizesImage, last_entry}
use Rattle.qcow2_image.specs.Rooms.{IsWellFormed, is_sound}
use Rattle.qcow2_image.specs.Seen.{layer_of}
use Rattle.qcow2_image.specs.contracts.qcow2.Qcow2DriverModel.TheImpl.{ghosts}
use Rattle.qcow2_image.specs.declared.qcow2.PreparedMappingState.{PreparedMappingState}
use Rattle.qcow2_image.specs.declared.qcow2.Qcow2.{Qcow2}
use Rattle.qcow2_image.proofs.CallStarts.{begins-loaded, begins-marked, begins-then, quiet-marked}
use Rattle.qcow2_image.proofs.DiskEffects.{format-moved, keeps-disk-both}
use Rattle.qcow2_image.proofs.FreeRuns.{full-more, quarter-enough}
use Rattle.qcow2_image.proofs.Leaks.{leaks-both}
use Rattle.qcow2_image.proofs.Preparations.Reservations.{why-loaded}
use Rattle.qcow2_image.proofs.Resizes.SizeChanges.{resize-sized, resize-stopped, unmapped-kept}
use Rattle.qcow2_image.proofs.Resizes.SizeEffects.{err-map, ok-both, resized-failed, resized-fixed, resized-marks, resized-mutates, resized-state, resized-unspent}

module _ {S : Type 0} (g : Ghosts S) (n : ℕ) where
  -- The free space isn't loaded.
  pub grow-unloaded : (old new : Qcow2 S g) (e : Fault) → LoadsSpace g old (Err e) new → GrowsDisk g n old (Err e) new
  grow-unloaded old new e l = resize-stopped g (λ guest. ⊥) n (LacksL1 g old n) old new e
      (unmapped-kept g (λ guest. ⊥) (IsNotResourceError e) old new l.keeps (λ well_formed whole. l.leaks)) l.keeps.layer
      (quiet-marked g {T = Unit} old new e l.same) (why-loaded g (LacksL1 g old n) old new e l.cause l.known_cause)

  -- A quarter of the space is more than is needed.
  lacks-entry : (mid new : Qcow2 S g) (number : ℕ) → IsWellFormed g mid → let h = mid.tables.file.header.fields in let i = last_entry h n in
      HasNoPlace g (λ x. x ≡ l1_clusters h mid.tables.l1 i) i (enough_for_entry mid.tables i) mid.tables new.tables number
      → HasNoPlace g (λ x. x ≡ l1_clusters h mid.tables.l1 i) i (space h / 4) mid.tables new.tables number
  lacks-entry mid new number well_formed (asked, what, inl far) = (asked, what, inl far)
  lacks-entry mid new number well_formed (asked, what, inr (near, lacks)) = (
    asked,
    what,
    inr (
      near,
      (let enough = quarter-enough g mid ((n - 1) / cluster_size mid.tables.file.header.fields) 0 well_formed (omega arith) near in
          full-more g asked (enough_for_entry mid.tables (last_entry mid.tables.file.header.fields n)) (space mid.tables.file.header.fields / 4)
          number mid.tables new.tables (omega (arith, enough)) lacks),
    ),
  )

  -- The L1 table doesn't move.
  module _ (old mid new : Qcow2 S g) (e : Fault) (l : LoadsSpace g old (Ok tt) mid)
      (m : MovesL1 g (last_entry mid.tables.file.header.fields n) mid (Err e) new) where
    lacks-l1 : (number : ℕ) → IsNotResourceError e → IsWellFormed g old → let h = mid.tables.file.header.fields in let i = last_entry h n in
        HasNoPlace g (λ x. x ≡ l1_clusters h mid.tables.l1 i) i (enough_for_entry mid.tables i) mid.tables new.tables number
        → LacksL1 g old n number
    lacks-l1 number not_resource_error well_formed lacks =
        let safe' = l.keeps.safely well_formed tt in record {
          now = mid;
          well_formed = safe';
          same_disk = l.keeps.layer well_formed tt;
          same_leaks = l.leaks;
          left = new;
          left_safe = m.keeps.safely safe' not_resource_error;
          left_disk = m.keeps.layer safe' not_resource_error;
          left_leaks = m.leaks safe' not_resource_error;
          lacks = lacks-entry mid new number safe' lacks;
        }

    abbrev no_place : ℕ → Type 0
    no_place = let h = mid.tables.file.header.fields in let i = last_entry h n in
        HasNoPlace g (λ x. x ≡ l1_clusters h mid.tables.l1 i) i (enough_for_entry mid.tables i) mid.tables new.tables

    why-unmoved : (f : Fault) → (IsNotResourceError f → IsNotResourceError e) → HasCause (allocation_causes g no_place mid new) f
        → HasCause (reserving_causes g (LacksL1 g old n) old new) f
    why-unmoved Memory from is = tt
    why-unmoved Storage from is = subst (λ k. HasRisen k (g.state new.tables.file.image).faults) (l.keeps.faults tt).0 is
    why-unmoved (Limit number) from is = λ well_formed. lacks-l1 number (from tt) well_formed (is (l.keeps.safely well_formed tt))
    why-unmoved DamagedTable from is = λ well_formed. is (l.keeps.safely well_formed tt, l.known)
    why-unmoved Counter from is = λ well_formed. is (l.keeps.safely well_formed tt, l.known)
    why-unmoved f from is = absurd is

    pub grow-unmoved : (begun now : Bool) → is_some old.tables.space ≡ not begun → Begins {T = Unit} g begun mid (Err e) now new
        → GrowsDisk g n old (Err e) new
    grow-unmoved begun now is begins =
        let kept : KeepsDisk g (IsNotResourceError e) old new = keeps-disk-both g ⊤ (IsNotResourceError e) old mid new tt l.keeps m.keeps in
        resize-stopped g (λ guest. ⊥) n (LacksL1 g old n) old new e
        (unmapped-kept g (λ guest. ⊥) (IsNotResourceError e) old new kept
        (λ well_formed whole. leaks-both g old mid new l.leaks (m.leaks (l.keeps.safely well_formed tt) whole)))
        kept.layer
        (begins-marked g {T = Unit} now old new e
        (begins-then g {T = Unit} {U = Unit} false begun now old mid new (Ok tt) (Err e) tt (begins-loaded g old mid begun is l) begins))
        (why-unmoved e (λ not_resource_error. not_resource_error) m.cause)

  -- The L1 table moves, and then the size changes.
  pub grow-sized : (i : ℕ) (old first mid new : Qcow2 S g) (result : Result Unit Fault) → n ≤ 2 ^ 63 - 1 → LoadsSpace g old (Ok tt) first
      → MovesL1 g i first (Ok tt) mid → SizesImage g n mid result new → GrowsDisk g n old result new
  grow-sized i old first mid new result fits l m s = resize-sized g (λ guest. ⊥) n (LacksL1 g old n) old mid new
      (unmapped-kept g (λ guest. ⊥) ⊤ old mid (keeps-disk-both g ⊤ ⊤ old first mid tt l.keeps m.keeps)
      (λ well_formed whole. leaks-both g old first mid l.leaks (m.leaks (l.keeps.safely well_formed tt) tt)))
      (λ well_formed. fits) result s

  -- The L1 table moves, and then the size changes: the format and the meaning of each L2 entry are kept.
  pub mappings-kept : (i : ℕ) (old first mid new : Qcow2 S g) (result : Result Unit Fault) → n ≤ 2 ^ 63 - 1 → LoadsSpace g old (Ok tt) first
      → MovesL1 g i first (Ok tt) mid → SizesImage g n mid result new → OnOk result (KeepsMappings g old new)
  mappings-kept i old first mid new (Err e) fits l m s = tt
  mappings-kept i old first mid new (Ok done) fits l m s =
      let moved = format-moved first.tables.file.header mid.tables.file.header m.header in record {
        format = record {
          cluster_bits = ap (λ (K : Header). K.fields.cluster_bits) s.header ∙ (moved.cluster_bits
              ∙ ap (λ (K : Header). K.fields.cluster_bits) l.top.1);
          refcount_order = ap (λ (K : Header). K.fields.refcount_order) s.header ∙ (moved.refcount_order
              ∙ ap (λ (K : Header). K.fields.refcount_order) l.top.1);
          backing_name = ap (λ (K : Header). K.backing_name) s.header ∙ (moved.backing_name
              ∙ ap (λ (K : Header). K.backing_name) l.top.1);
          backing_format = ap (λ (K : Header). K.backing_format) s.header ∙ (moved.backing_format
              ∙ ap (λ (K : Header). K.backing_format) l.top.1);
        };
        raw_entries = λ well_formed guest.
            let loaded = l.keeps.safely well_formed tt in
            s.raw_entries (m.keeps.safely loaded tt) fits guest
            ∙ (m.keeps.raw_entries loaded tt guest ∙ l.keeps.raw_entries well_formed tt guest);
      }

module _ (R : RattleType) (st : Ghosts R.Denot) (sd : mir.Syntax.Dict) (dd : mir.Syntax.Dict) {B : Type 0} (u : GhostsBelow B) (x : B) (n : ℕ)
    (mode : PreallocateMode) where
  abbrev driver : SeenGhosts (Qcow2 R.Denot st) PreparedMappingState
  driver = ghosts R st sd dd

  abbrev below : List Layer
  below = u.layers_below x

  -- The growth is refused before anything else is done.
  module _ (d : Qcow2 R.Denot st) (lt : d.tables.file.header.fields.size < n) where
    early-failed : (olds news : List StorageState) (e : Fault) → RefusesGrowth st d n mode e → ImageCause olds news e
    early-failed olds news e (inl closed) = subst (ImageCause olds news) (sym closed.0) tt
    early-failed olds news e (inr own) = from e (own.1 []) where
      from : (f : Fault) → WhyUngrown st d [] n mode f → ImageCause olds news f
      from Unsupported why = tt
      from VersionLimit why = tt
      from (Limit number) why = tt
      from DamagedTable why = tt
      from Barred why = tt
      from f why = absurd why

    early-marks : (e : Fault) → RefusesGrowth st d n mode e → MarksFailedOver driver d d e
    early-marks e (inl closed) = subst (MarksFailedOver driver d d) (sym closed.0) tt
    early-marks e (inr own) = from e (own.1 []) where
      from : (f : Fault) → WhyUngrown st d [] n mode f → MarksFailedOver driver d d f
      from Unsupported why = tt
      from VersionLimit why = tt
      from (Limit number) why = tt
      from DamagedTable why = tt
      from Barred why = tt
      from f why = absurd why

    early-cause : (olds news : List StorageState) (e : Fault) → RefusesGrowth st d n mode e
        → GrowthCause below (layer_of st d) n (WhyUngrown st d below n mode) olds news e
    early-cause olds news e (inl closed) =
        subst (GrowthCause below (layer_of st d) n (WhyUngrown st d below n mode) olds news) (sym closed.0) (lt, closed.1)
    early-cause olds news e (inr own) = from e (own.1 below) where
      from : (f : Fault) → WhyUngrown st d below n mode f → GrowthCause below (layer_of st d) n (WhyUngrown st d below n mode) olds news f
      from Unsupported why = why
      from VersionLimit why = why
      from (Limit number) why = why
      from DamagedTable why = why
      from Barred why = why
      from f why = absurd why

    pub growth-early : (e : Fault) → RefusesGrowth st d n mode e → GrowthRefused driver u n mode (Err e) (d, x) (d, x)
    growth-early e why = record {
      failed = early-failed (files driver d ++ u.files_of_layers_below x) (files driver d ++ u.files_of_layers_below x) e why;
      marks_failed = early-marks e why;
      cause = λ well_formed under. early-cause (files driver d ++ u.files_of_layers_below x) (files driver d ++ u.files_of_layers_below x) e why;
    }

    pub early-closed : (e : Fault) → RefusesGrowth st d n mode e → IsFalse d.mode.writable → e ≡ ReadOnly
    early-closed e (inl closed) is = closed.0
    early-closed e (inr own) is = absurd (cc (own.0, is))

  -- The disk grows.
  module _ (old new : Qcow2 R.Denot st) (result : Result Unit Fault) (r : GrowsDisk st n old result new)
      (lt : old.tables.file.header.fields.size < n) (none : mode ≡ ways.None) where
    abbrev full : ℕ → Type 0
    full = LacksL1 st old n

    abbrev cut : ℕ → Type 0
    cut guest = ⊥

    grown : new.tables.file.header.fields.size ≡ n
        → ((p : ℕ) → p < (layer_of st old).size → p < n → (⊥ → ⊥) → (layer_of st new).cell p ≡ (layer_of st old).cell p)
        → Grown (at below) (layer_of st old) (layer_of st new) n (fill_of mode)
    grown size cells = record {
      fixed = resized-fixed R st sd dd cut n full old new result r;
      size = size;
      unspent = resized-unspent R st sd dd cut n full old new result r;
      data_unchanged = λ p low. ap (λ (c : Cell). through c (at below p)) (cells p low (omega (arith, low, lt)) (λ never. never));
      filled = λ p from low. subst (λ m. IsFilled (fill_of m) (through ((layer_of st new).cell p) (at below p))) (sym none) tt;
    }

    not-grown : (e : Fault) → (IsNotResourceError e → layer_of st new ≡ layer_of st old) → IsNotResourceError e
        → NotGrown (at below) (layer_of st old) (layer_of st new)
    not-grown e same not_resource_error = record {
      keeps_layer_state = resized-state R st sd dd cut n full old new result r (same not_resource_error);
      data_unchanged = λ p low. ap (λ (l : Layer). through (l.cell p) (at below p)) (same not_resource_error);
    }

    pub grow-does : Grows driver u n mode result (old, x) (new, x)
    grow-does = record {
      ok = λ well_formed under longer. ok-both result grown r.size (r.cells well_formed);
      err = λ well_formed under. err-map result (λ e. IsNotResourceError e → layer_of st new ≡ layer_of st old)
          (λ e. IsNotResourceError e → NotGrown (at below) (layer_of st old) (layer_of st new)) not-grown (r.kept well_formed);
      crash_images = λ well_formed under.
          let layer = layer_of st old in let s = st.state old.tables.file.image in let s' = st.state new.tables.file.image in
          let least : min layer.size n ≡ layer.size = omega (arith, lt) in
          subst (λ k. KeepsCrashImagesTo driver below k (max layer.size n) (GivesPast layer.size) old new) least
          (passes_weaker (Left below layer s.bytes is_sound (min layer.size n) (max layer.size n) (GivesBlank cut layer below))
          (Left below layer s.bytes is_sound (min layer.size n) (max layer.size n) (GivesPast layer.size)) s s'
          (left_weaker below is_sound layer s.bytes (min layer.size n) (max layer.size n) (GivesBlank cut layer below) (GivesPast layer.size)
          (λ p v low gave. absurd gave.0)) (r.crash_images well_formed below));
      mutating_call = resized-mutates R st sd dd cut n full old new result r (HadNoResourceError result × u.coherent_below x) (λ w. w.0);
    }

    grow-cause : IsWellFormed st old → (e : Fault) → HasCause (reserving_causes st full old new) e
        → GrowthCause below (layer_of st old) n (WhyUngrown st old below n mode) (files driver old ++ u.files_of_layers_below x)
        (files driver new ++ u.files_of_layers_below x) e
    grow-cause well_formed Memory why = tt
    grow-cause well_formed Storage why = inl why
    grow-cause well_formed (Limit number) why = inr (inl (why well_formed))
    grow-cause well_formed DamagedTable why = absurd (why well_formed)
    grow-cause well_formed Counter why = absurd (why well_formed)
    grow-cause well_formed e why = absurd why

    pub grow-refused : GrowthRefused driver u n mode result (old, x) (new, x)
    grow-refused = record {
      failed = err-map result (HasCause (reserving_causes st full old new))
          (ImageCause (files driver old ++ u.files_of_layers_below x) (files driver new ++ u.files_of_layers_below x))
          (λ e why. failed_left (files driver old) (files driver new) (u.files_of_layers_below x) (u.files_of_layers_below x) e
          (resized-failed R st sd dd full old new e why)) r.cause;
      marks_failed = err-map result (LeavesMarkedFailed st old new) (MarksFailedOver driver old new)
          (λ e is. over_plain driver old new e (resized-marks R st sd dd full old new e is)) r.marked;
      cause = λ well_formed under. err-map result (HasCause (reserving_causes st full old new))
          (GrowthCause below (layer_of st old) n (WhyUngrown st old below n mode) (files driver old ++ u.files_of_layers_below x)
          (files driver new ++ u.files_of_layers_below x)) (grow-cause well_formed) r.cause;
    }
