-- Lemmas on a growth that prepares the new guest clusters before the size changes.
use Rattle.std.proofs.Common.{◌≡◌, ℕ, ◌+◌, ◌-◌, ◌*◌, ◌/◌, ◌^◌, ◌<◌, ◌≤◌, arith, ap, sym, subst, ◌∙◌, inl, inr, Bool, false, Result, Ok, Err}
use Rattle.std.specs.Prelude.{⊤, IsSome, IfErr, OnOk, is_some, not}
use Rattle.std.proofs.Math.Nat.{div-lt_iff_lt-mul, div-mul-le_self, lt-div-mul-add}
use Rattle.std.proofs.lemmas.Nat.{le-div, pow_pos}
use Rattle.imago_storage.specs.Disk.{Value}
use Rattle.imago_storage.specs.declared.fault.Fault.{Fault}
use Rattle.imago_storage.specs.declared.storage.Storage.{Ghosts}
use Rattle.imago_access.specs.Files.{HadNoResourceError, IsNotResourceError}
use Rattle.imago_access.specs.Layer.{Layer}
use Rattle.imago_access.specs.Stops.{Left}
use Rattle.imago_access.proofs.Stopping.{left_weaker, passes_weaker}
use Rattle.qcow2_types.specs.Header.{Header, cluster_size}
use Rattle.qcow2_alloc.specs.Causes.{HasCause}
use Rattle.qcow2_alloc.proofs.Causes.{cause-weaker}
use Rattle.qcow2_clusters.specs.Storing.{storing_causes}
use Rattle.qcow2_image.specs.Allocating.{Begins, LoadsSpace, reserving_causes}
use Rattle.qcow2_image.specs.Growing.{AreZeroes, GivesWithin, GivesZero, GrowsZeroed, IsWithin, LacksNewCluster, LacksRoom, PreparesGrowth, SetsEntries, ZeroesRange, clusters_over}
use Rattle.qcow2_image.specs.KeepsDisk.{HasSameFormat, KeepsDisk}
use Rattle.qcow2_image.specs.Leaking.{KeepsLeaks}
use Rattle.qcow2_image.specs.Preparing.{LeavesMarkedFailed}
use Rattle.qcow2_image.specs.Resizing.{GivesBlank, MovesL1, SizesImage, last_entry}
use Rattle.qcow2_image.specs.Rooms.{IsWellFormed, is_sound}
use Rattle.qcow2_image.specs.Seen.{layer_of}
use Rattle.qcow2_image.specs.declared.qcow2.Qcow2.{Qcow2}
use Rattle.qcow2_image.proofs.CallStarts.{begins-loaded, begins-marked, begins-then, quiet-marked}
use Rattle.qcow2_image.proofs.DiskEffects.{keeps-disk-both}
use Rattle.qcow2_image.proofs.Leaks.{leaks-both}
use Rattle.qcow2_image.proofs.Preparations.Reservations.{why-loaded}
use Rattle.qcow2_image.proofs.Resizes.Growth.{grow-unmoved}
use Rattle.qcow2_image.proofs.Resizes.OwnTables.{begins-unfailed}
use Rattle.qcow2_image.proofs.Resizes.SetEntries.{keeps-sets, sets-after-keeps}
use Rattle.qcow2_image.proofs.Resizes.SizeChanges.{Unmapped, resize-sized, resize-stopped}
use Rattle.qcow2_image.proofs.Resizes.SizeEffects.{err-map}
use Rattle.qcow2_image.proofs.Steps.{unmarked}

-- A claim that holds in any case holds on success.
pub ok-always : {P : Type 0} (r : Result Unit Fault) → P → OnOk r P
ok-always (Ok done) holds = holds
ok-always (Err e) holds = tt

-- The size rounded up is no less, and the size rounded down is no more.
pub over-size : (bits size : ℕ) → size ≤ clusters_over (2 ^ bits) size * 2 ^ bits
over-size bits size =
    let some : 0 < 2 ^ bits = pow_pos bits in
    let above : size + (2 ^ bits - 1) < (size + (2 ^ bits - 1)) / 2 ^ bits * 2 ^ bits + 2 ^ bits = lt-div-mul-add some in
    omega (arith, above, some)

pub over-least : (bits size : ℕ) → size / 2 ^ bits ≤ clusters_over (2 ^ bits) size
over-least bits size =
    let low : size / 2 ^ bits * 2 ^ bits ≤ size = div-mul-le_self size (2 ^ bits) in
    le-div (size / 2 ^ bits) (size + (2 ^ bits - 1)) (2 ^ bits) (pow_pos bits) (omega (arith, low))

-- So does one that needs a call without resource errors.
ok-whole : {P : Type 0} (r : Result Unit Fault) → (HadNoResourceError r → P) → OnOk r P
ok-whole (Ok done) holds = holds tt
ok-whole (Err e) holds = tt

module _ {S : Type 0} (g : Ghosts S) where
  -- Loading the free space.
  space-kept : (result : Result Unit Fault) (old new : Qcow2 S g) → LoadsSpace g old result new → IsSome old.tables.space
      → IsSome new.tables.space
  space-kept result old new l some = subst (λ (d : Qcow2 S g). IsSome d.tables.space) (sym (l.stays some)) some

  -- It begins a call, if the free space wasn't loaded before.
  pub begins-load : (old new : Qcow2 S g) (begun : Bool) → is_some old.tables.space ≡ not begun → LoadsSpace g old (Ok tt) new
      → Begins {T = Unit} g begun old (Ok tt) begun new
  begins-load old new begun is l = let b = begins-loaded g old new begun is l in record {
    left_untouched = λ unbegun. (unbegun, (b.left_untouched unbegun).1);
    marked = b.marked;
  }

  -- A resource error of a change leaves the image failed or unchanged.
  all-marked : (old new : Qcow2 S g) (result : Result Unit Fault) (now : Bool) → Begins {T = Unit} g false old result now new
      → IfErr result (LeavesMarkedFailed g old new)
  all-marked old new (Ok done) now begins = tt
  all-marked old new (Err e) now begins = begins-marked g {T = Unit} now old new e begins

module _ {S : Type 0} (g : Ghosts S) (n : ℕ) (old : Qcow2 S g) where
  abbrev c : ℕ
  c = cluster_size old.tables.file.header.fields

  abbrev size : ℕ
  size = old.tables.file.header.fields.size

  -- The guest clusters are those between the sizes, both rounded up.
  pub range-at : (first last : ℕ) (mid new : Qcow2 S g) (result : Result Unit Fault) → first ≡ clusters_over c size
      → last ≡ clusters_over c n → ZeroesRange g first last mid result new
      → ZeroesRange g (clusters_over c size) (clusters_over c n) mid result new
  range-at first last mid new result from to z =
      subst (λ (k : ℕ). ZeroesRange g (clusters_over c size) k mid result new) to
      (subst (λ (k : ℕ). ZeroesRange g k last mid result new) from z)

  -- The free space isn't loaded.
  pub prepare-unloaded : (new : Qcow2 S g) (e : Fault) → LoadsSpace g old (Err e) new → PreparesGrowth g n old (Err e) new
  prepare-unloaded new e l = record {
    sets = keeps-sets g (IsWellFormed g old) (IsWellFormed g old) (IsNotResourceError e) (clusters_over c size) (clusters_over c n)
        GivesZero old new (λ well_formed. well_formed) l.keeps (λ whole. l.same.failed ∙ unmarked {T = Unit} (Err e) old.failed whole)
        (λ well_formed whole. space-kept g (Err e) old new l) (λ well_formed whole. l.leaks);
    known = λ well_formed. tt;
    zeroed = λ well_formed. tt;
    marked = quiet-marked g {T = Unit} old new e l.same;
    cause = why-loaded g (LacksRoom g old n) old new e l.cause l.known_cause;
  }

  module _ (first : Qcow2 S g) (l : LoadsSpace g old (Ok tt) first) (begun between : Bool) (is : is_some old.tables.space ≡ not begun) where
    -- The L1 table doesn't move.
    pub prepare-unmoved : (new : Qcow2 S g) (e : Fault) → MovesL1 g (last_entry first.tables.file.header.fields n) first (Err e) new
        → Begins {T = Unit} g begun first (Err e) between new → PreparesGrowth g n old (Err e) new
    prepare-unmoved new e m begins =
        let grows = grow-unmoved g n old first new e l m begun between is begins in record {
          sets = keeps-sets g (IsWellFormed g old) (IsWellFormed g old) (IsNotResourceError e) (clusters_over c size) (clusters_over c n)
              GivesZero old new (λ well_formed. well_formed) (keeps-disk-both g ⊤ (IsNotResourceError e) old first new tt l.keeps m.keeps)
              (λ whole. begins-unfailed {T = Unit} g begun between first new (Err e) whole begins ∙ l.faults)
              (λ well_formed whole some. m.known l.known)
              (λ well_formed whole. leaks-both g old first new l.leaks (m.leaks (l.keeps.safely well_formed tt) whole));
          known = λ well_formed. tt;
          zeroed = λ well_formed. tt;
          marked = grows.marked;
          cause = cause-weaker (record {
            before = omega arith;
            after = omega arith;
            damaged = λ wrong. wrong;
            counter = λ wrong. wrong;
            full = absurd;
            limit = λ number at well_formed. inl (at well_formed);
          }) e grows.cause;
        }

    -- The L1 table moves, and then the new guest clusters are prepared.
    module _ (i : ℕ) (mid new : Qcow2 S g) (m : MovesL1 g i first (Ok tt) mid) (moved : Begins {T = Unit} g begun first (Ok tt) between mid)
        (result : Result Unit Fault) (now : Bool) (z : ZeroesRange g (clusters_over c size) (clusters_over c n) mid result new)
        (begins : Begins {T = Unit} g between mid result now new) where
      kept : KeepsDisk g ⊤ old mid
      kept = keeps-disk-both g ⊤ ⊤ old first mid tt l.keeps m.keeps

      kept-leaks : IsWellFormed g old → KeepsLeaks g old mid
      kept-leaks well_formed = leaks-both g old first mid l.leaks (m.leaks (l.keeps.safely well_formed tt) tt)

      known : IsSome mid.tables.space
      known = m.known l.known

      abbrev still : Type 0
      still = IsWellFormed g mid × IsSome mid.tables.space

      there : IsWellFormed g old → still
      there well_formed = (kept.safely well_formed tt, known)

      lacks-since : (number : ℕ) → IsWellFormed g old → LacksNewCluster g (clusters_over c size) (clusters_over c n) mid number
          → LacksNewCluster g (size / c) (clusters_over c n) old number
      lacks-since number well_formed lacks = record {
        guest = lacks.guest;
        within = (
          (let least = over-least old.tables.file.header.fields.cluster_bits size in omega (arith, least, lacks.within.0)),
          lacks.within.1,
        );
        now = lacks.now;
        well_formed = lacks.well_formed;
        same_disk = lacks.same_disk ∙ kept.layer well_formed tt;
        same_leaks = leaks-both g old mid lacks.now (kept-leaks well_formed) lacks.same_leaks;
        left = lacks.left;
        left_safe = lacks.left_safe;
        left_disk = lacks.left_disk;
        left_leaks = lacks.left_leaks;
        lacks = lacks.lacks;
      }

      begins-first : Begins {T = Unit} g false old (Ok tt) between mid
      begins-first = begins-then g {T = Unit} {U = Unit} false begun between old first mid (Ok tt) (Ok tt) tt
          (begins-loaded g old first begun is l) moved

      pub prepare-begins : Begins {T = Unit} g begun old result now new
      prepare-begins = begins-then g {T = Unit} {U = Unit} begun between now old mid new (Ok tt) result tt
          (begins-then g {T = Unit} {U = Unit} begun begun between old first mid (Ok tt) (Ok tt) tt (begins-load g old first begun is l)
          moved) begins

      pub prepare-zeroed : PreparesGrowth g n old result new
      prepare-zeroed = record {
        sets = sets-after-keeps g (IsWellFormed g old) (IsWellFormed g old) still (HadNoResourceError result) (clusters_over c size)
            (clusters_over c n) GivesZero old mid new (λ well_formed. well_formed) there
            (begins-unfailed {T = Unit} g begun between first mid (Ok tt) tt moved ∙ l.faults) (λ well_formed some. known) kept kept-leaks
            z.sets;
        known = λ well_formed. ok-whole result (λ whole. z.sets.known (there well_formed) whole known);
        zeroed = λ well_formed. z.zeroed (there well_formed).0 known;
        marked = all-marked g old new result now
            (begins-then g {T = Unit} {U = Unit} false between now old mid new (Ok tt) result tt begins-first begins);
        cause = err-map result
            (HasCause (storing_causes still (LacksNewCluster g (clusters_over c size) (clusters_over c n) mid)
            (g.state mid.tables.file.image).faults (g.state new.tables.file.image).faults))
            (HasCause (reserving_causes g (LacksRoom g old n) old new))
            (λ e why. cause-weaker (let same = (kept.faults tt).0 in record {
              before = omega (arith, same);
              after = omega arith;
              damaged = λ wrong well_formed. wrong (there well_formed);
              counter = λ wrong well_formed. wrong (there well_formed);
              full = absurd;
              limit = λ number at well_formed. inr (lacks-since number well_formed (at (there well_formed)));
            }) e why)
            z.cause;
      }

  -- Entries of guest clusters past the end of the disk don't show, so no guest cluster of the disk is unmapped.
  unmapped-set : (cut : ℕ → Type 0) (ok : Type 0) (first last : ℕ) (given : ℕ → Value → Type 0) (new : Qcow2 S g) → size ≤ first * c
      → SetsEntries g (IsWellFormed g old) ok first last given old new → Unmapped g cut ok old new
  unmapped-set cut ok first last given new past s = record {
    mode = s.mode;
    number = s.number;
    unspent = s.unspent;
    shape = s.shape;
    counts_not_fallen = s.counts_not_fallen;
    failed = s.failed;
    size = s.size;
    bits = s.bits;
    version = s.version;
    faults = s.faults;
    crash_images = λ well_formed below.
        let layer = layer_of g old in let before = g.state old.tables.file.image in let after = g.state new.tables.file.image in
        let gives = GivesBlank cut layer below in
        passes_weaker (Left below layer before.bytes is_sound layer.size layer.size (GivesWithin first last given layer))
        (Left below layer before.bytes is_sound layer.size layer.size gives) before after
        (left_weaker below is_sound layer before.bytes layer.size layer.size (GivesWithin first last given layer) gives
        (λ p v low gave. absurd (unseen p low gave.0.0)))
        (s.crash_images well_formed below);
    well_formed = s.well_formed;
    cells = λ well_formed whole p. inl (ap (λ (l : Layer). l.cell p) (s.layer well_formed whole past));
    leaks = s.leaks;
  } where
    unseen : (p : ℕ) → p < size → first ≤ p / c → ⊥
    unseen p low from =
        let some : 0 < c = pow_pos old.tables.file.header.fields.cluster_bits in
        let before : p / c < first = (div-lt_iff_lt-mul some).1 (omega (arith, low, past)) in
        omega (arith, before, from)

  -- The first of them is past the end of the disk.
  pub past-all : size ≤ clusters_over c size * c
  past-all = over-size old.tables.file.header.fields.cluster_bits size

  -- The new guest clusters can't be prepared.
  pub grow-unprepared : (new : Qcow2 S g) (e : Fault) → PreparesGrowth g n old (Err e) new → GrowsZeroed g n old (Err e) new
  grow-unprepared new e p = record {
    resizes = resize-stopped g (λ guest. ⊥) n (LacksRoom g old n) old new e
        (unmapped-set (λ guest. ⊥) (IsNotResourceError e) (clusters_over c size) (clusters_over c n) GivesZero new past-all p.sets)
        (λ well_formed whole. p.sets.layer well_formed whole past-all) p.marked p.cause;
    format = tt;
    zeroed = λ well_formed. tt;
  }

  -- They are prepared, and then the size changes.
  module _ (mid new : Qcow2 S g) (fits : n ≤ 2 ^ 63 - 1) (p : PreparesGrowth g n old (Ok tt) mid) where
    format-sized : (result : Result Unit Fault) → SizesImage g n mid result new
        → OnOk result (HasSameFormat old.tables.file.header new.tables.file.header)
    format-sized (Err e) s = tt
    format-sized (Ok done) s = record {
      cluster_bits = ap (λ (K : Header). K.fields.cluster_bits) s.header ∙ p.sets.format.cluster_bits;
      refcount_order = ap (λ (K : Header). K.fields.refcount_order) s.header ∙ p.sets.format.refcount_order;
      backing_name = ap (λ (K : Header). K.backing_name) s.header ∙ p.sets.format.backing_name;
      backing_format = ap (λ (K : Header). K.backing_format) s.header ∙ p.sets.format.backing_format;
    }

    zeroed-sized : (result : Result Unit Fault) → SizesImage g n mid result new → IsWellFormed g old
        → OnOk result (AreZeroes g (clusters_over c size) (clusters_over c n) new)
    zeroed-sized (Err e) s well_formed = tt
    zeroed-sized (Ok done) s well_formed = λ q within.
        s.values (p.sets.well_formed well_formed tt) fits q
        ∙ p.zeroed well_formed q (subst (λ (b : ℕ). IsWithin (clusters_over c size) (clusters_over c n) (q / 2 ^ b)) s.bits within)

    pub grow-resized : (result : Result Unit Fault) → SizesImage g n mid result new → GrowsZeroed g n old result new
    grow-resized result s = record {
      resizes = resize-sized g (λ guest. ⊥) n (LacksRoom g old n) old mid new
          (unmapped-set (λ guest. ⊥) ⊤ (clusters_over c size) (clusters_over c n) GivesZero mid past-all p.sets)
          (λ well_formed. fits) result s;
      format = format-sized result s;
      zeroed = zeroed-sized result s;
    }
