-- Lemmas on shrinks: L2 tables are copied, guest clusters are unmapped, and then the size changes.
use Rattle.std.proofs.Common.{◌≡◌, ℕ, ◌+◌, ◌-◌, ◌*◌, ◌/◌, ◌^◌, ◌<◌, ◌≤◌, arith, ap, sym, subst, ◌∙◌, inl, inr, Bool, false, List, [], ◌∷◌, None, Result, Ok, Err}
use Rattle.std.specs.Prelude.{⊤, ◌⊎◌, IsSome, is_some, not, max, min}
use Rattle.std.specs.Borrow.{RattleType}
use Rattle.std.proofs.Math.Nat.{mul-le-mul_right}
use Rattle.std.proofs.lemmas.Nat.{div-add-mod', div-mul-add, mod_below, pow_pos}
use Rattle.imago_storage.specs.State.{HasRisen}
use Rattle.imago_storage.specs.Disk.{byte}
use Rattle.imago_storage.specs.Steps.{shrink}
use Rattle.imago_storage.specs.declared.fault.Fault.{Fault}
use Rattle.imago_storage.specs.declared.fault.Fault.TheVariants.{Counter, DamagedTable, Limit, Memory, Storage}
use Rattle.imago_storage.specs.declared.storage.Storage.{Ghosts}
use Rattle.imago_access.specs.Chain.{IsBacked, at}
use Rattle.imago_access.specs.Files.{HadNoResourceError, ImageCause, IsNotResourceError, files}
use Rattle.imago_access.specs.Going.{MarksFailed}
use Rattle.imago_access.specs.Layer.{Cell, Layer, own, through, unmapped}
use Rattle.imago_access.specs.Parts.{ShrinkCause}
use Rattle.imago_access.specs.ResizeCalls.{ShrinkRefused, Shrinks}
use Rattle.imago_access.specs.Resizes.{NotShrunk, Shrunk}
use Rattle.imago_access.specs.Stops.{GivesBelowPast, KeepsCrashImagesTo, Left}
use Rattle.imago_access.specs.declared.driver_model.DriverModel.{Ghosts as SeenGhosts}
use Rattle.imago_access.proofs.Stopping.{left_weaker, passes_weaker}
use Rattle.qcow2_types.specs.Header.{Fields, cluster_size}
use Rattle.qcow2_types.proofs.Fields.HeaderLimits.{header-limited}
use Rattle.qcow2_alloc.specs.Causes.{HasCause}
use Rattle.qcow2_alloc.specs.Going.{writing_causes}
use Rattle.qcow2_alloc.proofs.Causes.{cause-weaker}
use Rattle.qcow2_image.specs.Allocating.{Begins, LoadsSpace, reserving_causes}
use Rattle.qcow2_image.specs.FreeSpace.{LacksPlaceForTable}
use Rattle.qcow2_image.specs.Holding.{mapping_id_held}
use Rattle.qcow2_image.specs.ImageLayer.{blanks}
use Rattle.qcow2_image.specs.KeepsDisk.{KeepsDisk}
use Rattle.qcow2_image.specs.Leaking.{KeepsLeaks}
use Rattle.qcow2_image.specs.Preparing.{LeavesMarkedFailed}
use Rattle.qcow2_image.specs.Resizing.{GivesBlank, LacksSomeTable, OwnsTables, ResizesDisk, ShrinksDisk, SizesImage, UnmapsTail}
use Rattle.qcow2_image.specs.Rooms.{IsWellFormed, is_sound}
use Rattle.qcow2_image.specs.Seen.{file_of, layer_of}
use Rattle.qcow2_image.specs.Unspent.{holding_in}
use Rattle.qcow2_image.specs.Writing.{HadNoPlace, begun_itself}
use Rattle.qcow2_image.specs.contracts.qcow2.Qcow2DriverModel.TheImpl.{ghosts}
use Rattle.qcow2_image.specs.declared.qcow2.PreparedMappingState.{PreparedMappingState}
use Rattle.qcow2_image.specs.declared.qcow2.Qcow2.{Qcow2}
use Rattle.qcow2_image.proofs.CallStarts.{begins-loaded, begins-marked, begins-then, quiet-marked}
use Rattle.qcow2_image.proofs.DiskEffects.{keeps-disk-both}
use Rattle.qcow2_image.proofs.Leaks.{leaks-both}
use Rattle.qcow2_image.proofs.Preparations.DriverPreparations.{since-disk}
use Rattle.qcow2_image.proofs.Preparations.Reservations.{allocation-reserves, why-loaded}
use Rattle.qcow2_image.proofs.Resizes.SizeChanges.{resize-sized, resize-stopped, unmapped-kept, unmapped-then}
use Rattle.qcow2_image.proofs.Resizes.SizeEffects.{err-map, ok-both, resized-failed, resized-fixed, resized-marks, resized-mutates, resized-state, resized-unspent}

-- The number of clusters of a size, rounded up, in bytes.
rounded-past : (bits n : ℕ) → n ≤ (n + (2 ^ bits - 1)) / 2 ^ bits * 2 ^ bits
rounded-past bits n =
    let c : ℕ = 2 ^ bits in
    let some : 0 < c = pow_pos bits in
    let parts = div-add-mod' (n + (c - 1)) c in
    let rest = mod_below (n + (c - 1)) c some in
    omega (arith, parts, rest, some)

rounded-inside : (bits n guest : ℕ) → guest < (n + (2 ^ bits - 1)) / 2 ^ bits → guest * 2 ^ bits < n
rounded-inside bits n guest low =
    let c : ℕ = 2 ^ bits in
    let some : 0 < c = pow_pos bits in
    let parts = div-add-mod' (n + (c - 1)) c in
    let high : (guest + 1) * c ≤ (n + (c - 1)) / c * c = mul-le-mul_right c (omega (arith, low)) in
    let next : (guest + 1) * c ≡ guest * c + c = omega arith in
    omega (arith, parts, high, next, some)

module _ {S : Type 0} (g : Ghosts S) (n first last : ℕ) where
  abbrev Cut : ℕ → Type 0
  Cut guest = first ≤ guest

  -- The cluster numbers are those of the sizes.
  module _ (old : Qcow2 S g) (bits size : ℕ) (is-bits : bits ≡ old.tables.file.header.fields.cluster_bits)
      (is-size : size ≡ old.tables.file.header.fields.size) (is-first : first ≡ (n + (2 ^ bits - 1)) / 2 ^ bits)
      (inside-last : last ≤ (size + (2 ^ old.tables.file.header.fields.cluster_bits - 1)) / 2 ^ old.tables.file.header.fields.cluster_bits) where
    pub shrinks-by : (new : Qcow2 S g) (result : Result Unit Fault)
        → ResizesDisk g Cut n (LacksSomeTable g first last old) old result new → ShrinksDisk g n old result new
    shrinks-by new result r = record {
      first = first;
      last = last;
      past = subst (λ b. n ≤ first * 2 ^ b) is-bits (subst (λ k. n ≤ k * 2 ^ bits) (sym is-first) (rounded-past bits n));
      inside = λ guest low. subst (λ k. guest * cluster_size old.tables.file.header.fields < k) is-size
          (rounded-inside old.tables.file.header.fields.cluster_bits size guest (omega (arith, low, inside-last)));
      resizes = r;
    }

  -- The free space isn't loaded.
  pub shrink-unloaded : (old new : Qcow2 S g) (e : Fault) → LoadsSpace g old (Err e) new
      → ResizesDisk g Cut n (LacksSomeTable g first last old) old (Err e) new
  shrink-unloaded old new e l = resize-stopped g Cut n (LacksSomeTable g first last old) old new e
      (unmapped-kept g Cut (IsNotResourceError e) old new l.keeps (λ well_formed whole. l.leaks)) l.keeps.layer
      (quiet-marked g {T = Unit} old new e l.same) (why-loaded g (LacksSomeTable g first last old) old new e l.cause l.known_cause)

  module _ (old mid : Qcow2 S g) (l : LoadsSpace g old (Ok tt) mid) (begun : Bool) (is : is_some old.tables.space ≡ not begun) where
    lacks-before : (number : ℕ) → LacksSomeTable g first last mid number → LacksSomeTable g first last old number
    lacks-before number lacks = record {
      guest = lacks.guest;
      from = lacks.from;
      to = lacks.to;
      before = lacks.before;
      kept = keeps-disk-both g ⊤ ⊤ old mid lacks.before tt l.keeps lacks.kept;
      kept_leaks = leaks-both g old mid lacks.before l.leaks lacks.kept_leaks;
      left = lacks.left;
      left_kept = lacks.left_kept;
      left_leaks = lacks.left_leaks;
      lacks = lacks.lacks;
    }

    -- An L2 table isn't copied.
    pub shrink-unowned : (new : Qcow2 S g) (e : Fault) → OwnsTables g first last mid (Err e) new → (now : Bool)
        → Begins {T = Unit} g begun mid (Err e) now new → ResizesDisk g Cut n (LacksSomeTable g first last old) old (Err e) new
    shrink-unowned new e o now begins =
        let kept : KeepsDisk g (IsNotResourceError e) old new = keeps-disk-both g ⊤ (IsNotResourceError e) old mid new tt l.keeps o.keeps in
        resize-stopped g Cut n (LacksSomeTable g first last old) old new e
        (unmapped-kept g Cut (IsNotResourceError e) old new kept
        (λ well_formed whole. leaks-both g old mid new l.leaks (o.leaks (l.keeps.safely well_formed tt) whole)))
        kept.layer
        (begins-marked g {T = Unit} now old new e
        (begins-then g {T = Unit} {U = Unit} false begun now old mid new (Ok tt) (Err e) tt (begins-loaded g old mid begun is l) begins))
        (cause-weaker (allocation-reserves g old mid new l.keeps l.known (λ number well_formed lacks. lacks-before number lacks)) e o.cause)

    -- The L2 tables are copied.
    module _ (owned : Qcow2 S g) (o : OwnsTables g first last mid (Ok tt) owned) where
      owned-keeps : KeepsDisk g ⊤ old owned
      owned-keeps = keeps-disk-both g ⊤ ⊤ old mid owned tt l.keeps o.keeps

      owned-leaks : IsWellFormed g old → KeepsLeaks g old owned
      owned-leaks well_formed = leaks-both g old mid owned l.leaks (o.leaks (l.keeps.safely well_formed tt) tt)

      owned-known : IsSome owned.tables.space
      owned-known = o.known l.known

      abbrev unmapping_causes : (new : Qcow2 S g) → Fault → Type 0
      unmapping_causes new = HasCause (writing_causes (IsWellFormed g owned × IsSome owned.tables.space)
          (g.state owned.tables.file.image).faults (g.state new.tables.file.image).faults)

      -- Unmapping fails only with a resource error.
      hard-unmapped : (new : Qcow2 S g) (e : Fault) → unmapping_causes new e → IsWellFormed g old → IsNotResourceError e → ⊥
      hard-unmapped new Memory why well_formed no_resource_error = no_resource_error
      hard-unmapped new Storage why well_formed no_resource_error = no_resource_error
      hard-unmapped new DamagedTable why well_formed no_resource_error = why (owned-keeps.safely well_formed tt, owned-known)
      hard-unmapped new e why well_formed no_resource_error = why

      why-unmapped : (new : Qcow2 S g) (e : Fault) → unmapping_causes new e
          → HasCause (reserving_causes g (LacksSomeTable g first last old) old new) e
      why-unmapped new Memory why = tt
      why-unmapped new Storage why = subst (λ k. HasRisen k (g.state new.tables.file.image).faults) (owned-keeps.faults tt).0 why
      why-unmapped new DamagedTable why = λ well_formed. why (owned-keeps.safely well_formed tt, owned-known)
      why-unmapped new e why = absurd why

      -- Some guest clusters may not be unmapped.
      pub shrink-ununmapped : (new : Qcow2 S g) (e : Fault) → UnmapsTail g first last owned (Err e) new → (between now : Bool)
          → Begins {T = Unit} g begun mid (Ok tt) between owned → Begins {T = Unit} g between owned (Err e) now new
          → ResizesDisk g Cut n (LacksSomeTable g first last old) old (Err e) new
      shrink-ununmapped new e t between now own-begins begins = resize-stopped g Cut n (LacksSomeTable g first last old) old new e
          (unmapped-then g first (IsNotResourceError e) old owned new owned-keeps owned-leaks owned-known t.unmaps)
          (λ well_formed no_resource_error. absurd (hard-unmapped new e t.cause well_formed no_resource_error))
          (begins-marked g {T = Unit} now old new e
          (begins-then g {T = Unit} {U = Unit} false between now old owned new (Ok tt) (Err e) tt
          (begins-then g {T = Unit} {U = Unit} false begun between old mid owned (Ok tt) (Ok tt) tt (begins-loaded g old mid begun is l) own-begins)
          begins))
          (why-unmapped new e t.cause)

      -- Otherwise the size changes.
      pub shrink-sized : n < old.tables.file.header.fields.size → (cleared new : Qcow2 S g) (result : Result Unit Fault)
          → UnmapsTail g first last owned (Ok tt) cleared → SizesImage g n cleared result new
          → ResizesDisk g Cut n (LacksSomeTable g first last old) old result new
      shrink-sized less cleared new result t s = resize-sized g Cut n (LacksSomeTable g first last old) old cleared new
          (unmapped-then g first ⊤ old owned cleared owned-keeps owned-leaks owned-known t.unmaps)
          (λ well_formed.
          let limit = (header-limited false (file_of g old.tables) old.tables.file.header well_formed.seen.loads).size in
          omega (arith, limit, less))
          result s

-- An unmapped byte reads as the layers below, if the image is backed by them.
blank-below : (below : List Layer) (layer : Layer) (p : ℕ) → (layer.fixed.blank ≡ unmapped) ⊎ (layer.fixed.blank ≡ own (byte 0))
    → IsBacked below layer → through layer.fixed.blank (at below p) ≡ at below p
blank-below below layer p (inl gap) backed = ap (λ (c : Cell). through c (at below p)) gap
blank-below [] layer p (inr zero) backed = ap (λ (c : Cell). through c (byte 0)) zero
blank-below (next ∷ below) layer p (inr zero) backed = ap (λ (c : Cell). through c (at (next ∷ below) p)) backed

module _ (R : RattleType) (st : Ghosts R.Denot) (sd : mir.Syntax.Dict) (dd : mir.Syntax.Dict) (n : ℕ)
    (old new : Qcow2 R.Denot st) (result : Result Unit Fault) (s : ShrinksDisk st n old result new)
    (less : n < old.tables.file.header.fields.size) where
  abbrev driver : SeenGhosts (Qcow2 R.Denot st) PreparedMappingState
  driver = ghosts R st sd dd

  abbrev h : Fields
  h = old.tables.file.header.fields

  abbrev cut : ℕ → Type 0
  cut guest = s.first ≤ guest

  abbrev full : ℕ → Type 0
  full = LacksSomeTable st s.first s.last old

  -- Guest clusters that are cut are past the new size.
  cut-past : (guest : ℕ) → cut guest → n ≤ guest * cluster_size h
  cut-past guest from =
      let low : s.first * cluster_size h ≤ guest * cluster_size h = mul-le-mul_right (cluster_size h) from in
      let past = s.past in
      omega (arith, low, past)

  byte-past : (p : ℕ) → cut (p / cluster_size h) → n ≤ p
  byte-past p from =
      let past = cut-past (p / cluster_size h) from in
      let parts = div-add-mod' p (cluster_size h) in
      omega (arith, past, parts)

  shrunk : new.tables.file.header.fields.size ≡ n
      → ((p : ℕ) → p < (layer_of st old).size → p < n → (cut (p / cluster_size h) → ⊥) → (layer_of st new).cell p ≡ (layer_of st old).cell p)
      → Shrunk (layer_of st old) (layer_of st new) n
  shrunk size cells = record {
    fixed = resized-fixed R st sd dd cut n full old new result s.resizes;
    size = size;
    unspent = resized-unspent R st sd dd cut n full old new result s.resizes;
    data_unchanged = λ p low. cells p (omega (arith, low, less)) low (λ from. let past = byte-past p from in omega (arith, past, low));
  }

  not-shrunk : (e : Fault) → (IsNotResourceError e → layer_of st new ≡ layer_of st old) → IsNotResourceError e
      → NotShrunk (layer_of st old) (layer_of st new)
  not-shrunk e same not_resource_error = record {
    keeps_layer_state = resized-state R st sd dd cut n full old new result s.resizes (same not_resource_error);
    data_unchanged = λ p low. ap (λ (l : Layer). l.cell p) (same not_resource_error);
  }

  pub shrink-does : Shrinks driver n result old new
  shrink-does = record {
    ok = λ well_formed shorter. ok-both result shrunk s.resizes.size (s.resizes.cells well_formed);
    err = λ well_formed. err-map result (λ e. IsNotResourceError e → layer_of st new ≡ layer_of st old)
        (λ e. IsNotResourceError e → NotShrunk (layer_of st old) (layer_of st new)) not-shrunk (s.resizes.kept well_formed);
    crash_images = λ well_formed below backed.
        let layer = layer_of st old in let s' = st.state old.tables.file.image in let s'' = st.state new.tables.file.image in
        let least : min layer.size n ≡ n = omega (arith, less) in
        let most : max layer.size n ≡ layer.size = omega (arith, less) in
        subst (λ k. KeepsCrashImagesTo driver below k layer.size (GivesBelowPast below n) old new) least
        (subst (λ k. KeepsCrashImagesTo driver below (min layer.size n) k (GivesBelowPast below n) old new) most
        (passes_weaker (Left below layer s'.bytes is_sound (min layer.size n) (max layer.size n) (GivesBlank cut layer below))
        (Left below layer s'.bytes is_sound (min layer.size n) (max layer.size n) (GivesBelowPast below n)) s' s''
        (left_weaker below is_sound layer s'.bytes (min layer.size n) (max layer.size n) (GivesBlank cut layer below) (GivesBelowPast below n)
        (λ p v low gave. inr (inr (byte-past p gave.0, gave.1 ∙ blank-below below layer p (blanks old.mode.backing) backed))))
        (s.resizes.crash_images well_formed below)));
    mutating_call = resized-mutates R st sd dd cut n full old new result s.resizes (HadNoResourceError result) (λ w. w);
  }

  module _ (free : old.unspent ≡ None) (well_formed : IsWellFormed st old) where
    had-no-place : (number : ℕ) (lacks : full number) → HadNoPlace st old (shrink n) (lacks.guest * cluster_size h) number
    had-no-place number lacks =
        let safe' = lacks.kept.safely well_formed tt in
        let at : lacks.guest * cluster_size h ≡ lacks.guest * cluster_size h + 0 = omega arith in
        let its : lacks.guest * cluster_size h / cluster_size h ≡ lacks.guest =
        ap (λ x. x / cluster_size h) at ∙ div-mul-add lacks.guest (cluster_size h) 0 (pow_pos h.cluster_bits) in
        let its-now : lacks.guest * cluster_size h / cluster_size lacks.before.tables.file.header.fields ≡ lacks.guest =
        ap (λ (b : ℕ). lacks.guest * cluster_size h / 2 ^ b) lacks.kept.bits ∙ its in
        record {
          now = lacks.before;
          well_formed = safe';
          since = since-disk R st sd dd old lacks.before ⊤ lacks.kept well_formed tt (ap (λ u. mapping_id_held (holding_in st u)) free)
              lacks.kept_leaks old (shrink n) (begun_itself st old (shrink n) well_formed).1;
          left = lacks.left;
          left_safe = lacks.left_kept.safely safe' tt;
          left_disk = lacks.left_kept.layer safe' tt;
          left_leaks = lacks.left_leaks;
          lacks = inr (inr tt, subst (λ x. LacksPlaceForTable st x lacks.before.tables lacks.left.tables number) (sym its-now) lacks.lacks);
        }

    shrink-cause : (below : List Layer) (e : Fault) → HasCause (reserving_causes st full old new) e
        → ShrinkCause below (layer_of st old) n (driver.own_cause old below (shrink n)) (files driver old) (files driver new) e
    shrink-cause below Memory why = tt
    shrink-cause below Storage why = inl why
    shrink-cause below (Limit number) why = λ was.
        let lacks = why well_formed in (
          lacks.guest * cluster_size h,
          inr (cut-past lacks.guest lacks.from, s.inside lacks.guest lacks.to),
          had-no-place number lacks,
        )
    shrink-cause below DamagedTable why = absurd (why well_formed)
    shrink-cause below Counter why = absurd (why well_formed)
    shrink-cause below e why = absurd why

  pub shrink-refused : old.unspent ≡ None → ShrinkRefused driver n result old new
  shrink-refused free = record {
    failed = err-map result (HasCause (reserving_causes st full old new)) (ImageCause (files driver old) (files driver new))
        (resized-failed R st sd dd full old new) s.resizes.cause;
    marks_failed = err-map result (LeavesMarkedFailed st old new) (MarksFailed driver old new)
        (resized-marks R st sd dd full old new) s.resizes.marked;
    cause = λ well_formed below. err-map result (HasCause (reserving_causes st full old new))
        (ShrinkCause below (layer_of st old) n (driver.own_cause old below (shrink n)) (files driver old) (files driver new))
        (shrink-cause free well_formed below) s.resizes.cause;
  }
