-- Lemmas on a resize: what happens before the size changes, and then the change of the size.
use Rattle.std.proofs.Common.{◌≡◌, ◌⊎◌, ℕ, ◌-◌, ◌/◌, ◌^◌, ◌<◌, ◌≤◌, arith, ap, sym, subst, ◌∙◌, inl, inr, true, List, ◌∷◌, Result, Ok, Err}
use Rattle.std.specs.Prelude.{⊤, IsTrue, IsSome, min, max, ltb, if◌then◌else◌}
use Rattle.imago_storage.specs.State.{HasRisen, StorageState}
use Rattle.imago_storage.specs.Calls.{IsFaultless, CountsNotFallen}
use Rattle.imago_storage.specs.Disk.{Value, byte}
use Rattle.imago_storage.specs.Passing.{UnrefusedCrashImages}
use Rattle.imago_storage.specs.declared.fault.Fault.{Fault}
use Rattle.imago_storage.specs.declared.fault.Fault.TheVariants.{DamagedTable, Memory, Storage}
use Rattle.imago_storage.specs.declared.storage.Storage.{Ghosts}
use Rattle.imago_storage.proofs.Composing.{later_both}
use Rattle.imago_access.specs.Chain.{at}
use Rattle.imago_access.specs.Files.{HadNoResourceError, IsNotResourceError}
use Rattle.imago_access.specs.Layer.{Cell, Layer, through}
use Rattle.imago_access.specs.Stops.{GivesNone, Left, May}
use Rattle.imago_access.proofs.Holding.{at_inside}
use Rattle.imago_access.proofs.Stopping.{left_weaker, passes_weaker, then_left}
use Rattle.qcow2_types.specs.Header.{cluster_size}
use Rattle.qcow2_alloc.specs.Causes.{HasCause}
use Rattle.qcow2_alloc.specs.Going.{writing_causes}
use Rattle.qcow2_image.specs.Allocating.{failed_by_resource_error, reserving_causes}
use Rattle.qcow2_image.specs.ImageLayer.{blank_of, qcow2_fixed}
use Rattle.qcow2_image.specs.KeepsDisk.{KeepsDisk}
use Rattle.qcow2_image.specs.Leaking.{KeepsLeaks}
use Rattle.qcow2_image.specs.Preparing.{LeavesMarkedFailed}
use Rattle.qcow2_image.specs.Resizing.{GivesBlank, GivesUnmapped, ResizesDisk, SizesImage, UnmapsFrom}
use Rattle.qcow2_image.specs.Rooms.{IsWellFormed, is_sound}
use Rattle.qcow2_image.specs.Seen.{layer_of}
use Rattle.qcow2_image.specs.declared.mode.OpenMode.{OpenMode}
use Rattle.qcow2_image.specs.declared.qcow2.Qcow2.{Qcow2}
use Rattle.qcow2_image.proofs.CallStarts.{still-cut}
use Rattle.qcow2_image.proofs.Leaks.{leaks-both}

-- Guest clusters that are `cut` may have been unmapped. Other bytes read as before, and the size is the same.
pub record Unmapped {S : Type 0} (g : Ghosts S) (cut : ℕ → Type 0) (ok : Type 0) (old new : Qcow2 S g) : Type 0 where
  pub mode : new.mode ≡ old.mode
  pub number : new.number ≡ old.number
  pub unspent : new.unspent ≡ old.unspent
  pub shape : (g.state new.tables.file.image).shape ≡ (g.state old.tables.file.image).shape
  pub counts_not_fallen : CountsNotFallen (g.state old.tables.file.image) (g.state new.tables.file.image)
  pub failed : IsTrue old.failed → IsTrue new.failed
  pub size : new.tables.file.header.fields.size ≡ old.tables.file.header.fields.size
  pub bits : new.tables.file.header.fields.cluster_bits ≡ old.tables.file.header.fields.cluster_bits
  pub version : new.tables.file.header.fields.version ≡ old.tables.file.header.fields.version
  pub faults : ok → IsFaultless (g.state old.tables.file.image) (g.state new.tables.file.image)
  pub crash_images : IsWellFormed g old → (below : List Layer)
      → UnrefusedCrashImages (Left below (layer_of g old) (g.state old.tables.file.image).bytes is_sound (layer_of g old).size (layer_of g old).size
      (GivesBlank cut (layer_of g old) below)) (g.state old.tables.file.image) (g.state new.tables.file.image)
  pub well_formed : IsWellFormed g old → ok → IsWellFormed g new
  pub cells : IsWellFormed g old → ok → (p : ℕ) → ((layer_of g new).cell p ≡ (layer_of g old).cell p)
      ⊎ (cut (p / cluster_size old.tables.file.header.fields) × (p < (layer_of g old).size)
      × ((layer_of g new).cell p ≡ blank_of old.mode.backing))
  pub leaks : IsWellFormed g old → ok → KeepsLeaks g old new

module _ {S : Type 0} (g : Ghosts S) where
  -- A call that keeps the disk unmaps nothing.
  pub unmapped-kept : (cut : ℕ → Type 0) (ok : Type 0) (old new : Qcow2 S g) → KeepsDisk g ok old new
      → (IsWellFormed g old → ok → KeepsLeaks g old new) → Unmapped g cut ok old new
  unmapped-kept cut ok old new k leaks = record {
    mode = k.mode;
    number = k.number;
    unspent = k.unspent;
    shape = k.shape;
    counts_not_fallen = k.counts_not_fallen;
    failed = k.failed;
    size = k.size;
    bits = k.bits;
    version = k.version;
    faults = k.faults;
    crash_images = λ well_formed below.
        let layer = layer_of g old in let s = g.state old.tables.file.image in let s' = g.state new.tables.file.image in
        let gives = GivesBlank cut layer below in
        passes_weaker (Left below layer s.bytes is_sound layer.size layer.size GivesNone)
        (Left below layer s.bytes is_sound layer.size layer.size gives) s s'
        (left_weaker below is_sound layer s.bytes layer.size layer.size GivesNone gives (λ p v low none. absurd none))
        (k.crash_images well_formed below);
    well_formed = k.safely;
    cells = λ well_formed whole p. inl (ap (λ (l : Layer). l.cell p) (k.layer well_formed whole));
    leaks = leaks;
  }

  -- A call that keeps the disk, and one that unmaps guest clusters.
  module _ (first : ℕ) (ok : Type 0) (old mid new : Qcow2 S g) (k : KeepsDisk g ⊤ old mid) (leaks : IsWellFormed g old → KeepsLeaks g old mid)
      (some : IsSome mid.tables.space) (u : UnmapsFrom g first ok mid new) where
    abbrev before : StorageState
    before = g.state old.tables.file.image

    abbrev between : StorageState
    between = g.state mid.tables.file.image

    abbrev after : StorageState
    after = g.state new.tables.file.image

    abbrev Gives : List Layer → ℕ → Value → Type 0
    Gives below = GivesBlank (λ guest. first ≤ guest) (layer_of g old) below

    then-images : IsWellFormed g old → (below : List Layer)
        → UnrefusedCrashImages (Left below (layer_of g old) before.bytes is_sound (layer_of g old).size (layer_of g old).size (Gives below)) before after
    then-images well_formed below =
        let same : layer_of g mid ≡ layer_of g old = k.layer well_formed tt in
        let size : (layer_of g mid).size ≡ (layer_of g old).size = ap (λ (l : Layer). l.size) same in
        then_left below is_sound (layer_of g old) (layer_of g mid) (layer_of g old).size (layer_of g old).size (Gives below)
        (GivesUnmapped first (layer_of g mid) below) before between after
        (k.shape, k.counts_not_fallen) (u.shape, u.counts_not_fallen) (ap (λ (l : Layer). l.fixed) same) size (omega arith) (omega arith)
        (λ p low. inr (inl (ap (λ (l : Layer). at (l ∷ below) p) same)))
        (λ p v low gave. inr (inr (subst (λ (l : Layer). GivesUnmapped first l below p v) same gave)))
        (passes_weaker (Left below (layer_of g old) before.bytes is_sound (layer_of g old).size (layer_of g old).size GivesNone)
        (Left below (layer_of g old) before.bytes is_sound (layer_of g old).size (layer_of g old).size (Gives below)) before between
        (left_weaker below is_sound (layer_of g old) before.bytes (layer_of g old).size (layer_of g old).size GivesNone (Gives below)
        (λ p v low none. absurd none)) (k.crash_images well_formed below))
        (subst (λ n. UnrefusedCrashImages (Left below (layer_of g mid) between.bytes is_sound n n (GivesUnmapped first (layer_of g mid) below)) between after)
        size (u.crash_images (k.safely well_formed tt) some below))

    pub unmapped-then : Unmapped g (λ guest. first ≤ guest) ok old new
    unmapped-then = record {
      mode = u.mode ∙ k.mode;
      number = u.number ∙ k.number;
      unspent = u.unspent ∙ k.unspent;
      shape = u.shape ∙ k.shape;
      counts_not_fallen = later_both before between after k.counts_not_fallen u.counts_not_fallen;
      failed = λ was. u.failed (k.failed was);
      size = u.size ∙ k.size;
      bits = u.bits ∙ k.bits;
      version = u.version ∙ k.version;
      faults = λ whole. let one = k.faults tt in let two = u.faults whole in (two.0 ∙ one.0, two.1 ∙ one.1);
      crash_images = then-images;
      well_formed = λ well_formed whole. u.well_formed (k.safely well_formed tt) some whole;
      cells = λ well_formed whole p.
          let same = k.layer well_formed tt in
          elim (u.cells (k.safely well_formed tt) some whole p) [
            | inl is ↦ inl (is ∙ ap (λ (l : Layer). l.cell p) same)
            | inr is ↦ inr (
              subst (λ (b : ℕ). first ≤ p / 2 ^ b) k.bits is.0,
              subst (λ (n : ℕ). p < n) k.size is.1,
              is.2 ∙ ap (λ (m : OpenMode). blank_of m.backing) k.mode,
            )
          ];
      leaks = λ well_formed whole. leaks-both g old mid new (leaks well_formed) (u.leaks (k.safely well_formed tt) some whole);
    }

  -- The call failed before the size changed.
  pub resize-stopped : (cut : ℕ → Type 0) (n : ℕ) (full : ℕ → Type 0) (old new : Qcow2 S g) (e : Fault)
      → Unmapped g cut (IsNotResourceError e) old new → (IsWellFormed g old → IsNotResourceError e → layer_of g new ≡ layer_of g old)
      → LeavesMarkedFailed g old new e → HasCause (reserving_causes g full old new) e → ResizesDisk g cut n full old (Err e) new
  resize-stopped cut n full old new e u kept marked cause = record {
    mode = u.mode;
    number = u.number;
    unspent = u.unspent;
    shape = u.shape;
    counts_not_fallen = u.counts_not_fallen;
    failed = u.failed;
    bits = u.bits;
    version = u.version;
    faults = u.faults;
    marked = marked;
    size = tt;
    unsized = u.size;
    crash_images = λ well_formed below.
        let layer = layer_of g old in let s = g.state old.tables.file.image in let s' = g.state new.tables.file.image in
        let gives = GivesBlank cut layer below in
        passes_weaker (Left below layer s.bytes is_sound layer.size layer.size gives)
        (Left below layer s.bytes is_sound (min layer.size n) (max layer.size n) gives) s s'
        (λ f left. record {
          is_sound = left.is_sound;
          backed = left.backed;
          size = omega (arith, left.size);
          no_longer = λ exact. omega (arith, left.no_longer exact);
          shows = left.shows;
        })
        (u.crash_images well_formed below);
    well_formed = u.well_formed;
    cells = λ well_formed. tt;
    kept = kept;
    leaks = u.leaks;
    cause = cause;
  }

  -- A change of the size fails only with a resource error.
  pub hard-sized : (from to : ℕ) (e : Fault) → HasCause (writing_causes ⊤ from to) e → IsNotResourceError e → ⊥
  hard-sized from to Memory why not = not
  hard-sized from to Storage why not = not
  hard-sized from to DamagedTable why not = why tt
  hard-sized from to e why not = why

  -- Guest clusters may have been unmapped, and then the size changes.
  module _ (cut : ℕ → Type 0) (n : ℕ) (full : ℕ → Type 0) (old mid new : Qcow2 S g) (u : Unmapped g cut ⊤ old mid)
      (fits : IsWellFormed g old → n ≤ 2 ^ 63 - 1) where
    abbrev a : StorageState
    a = g.state old.tables.file.image

    abbrev b : StorageState
    b = g.state mid.tables.file.image

    abbrev c : StorageState
    c = g.state new.tables.file.image

    fixed-before : (layer_of g mid).fixed ≡ (layer_of g old).fixed
    fixed-before = λ i. qcow2_fixed (u.shape i) (record old.tables.file.header.fields { version = u.version i; cluster_bits = u.bits i })
        (u.mode i) (u.number i)

    abbrev Shown : List Layer → ℕ → Value → Type 0
    Shown below = GivesBlank cut (layer_of g old) below

    -- Each byte reads as before, or as its guest cluster is unmapped.
    reads-before : IsWellFormed g old → (below : List Layer) (p : ℕ) → p < (layer_of g old).size
        → May below (layer_of g old) a.bytes (Shown below) p (at (layer_of g mid ∷ below) p)
    reads-before well_formed below p low = elim (u.cells well_formed tt p) [
      | inl same ↦ inr (inl (λ i. if ltb p (u.size i) then through (same i) (at below p) else byte 0))
      | inr is ↦ inr (inr (
        is.0,
        at_inside (layer_of g mid) below p (subst (λ (k : ℕ). p < k) (sym u.size) low) ∙ ap (λ (x : Cell). through x (at below p)) is.2,
      ))
    ]

    sized-images : (result : Result Unit Fault) → SizesImage g n mid result new → IsWellFormed g old → (below : List Layer)
        → UnrefusedCrashImages (Left below (layer_of g old) a.bytes is_sound (min (layer_of g old).size n) (max (layer_of g old).size n) (Shown below)) a c
    sized-images result s well_formed below =
        then_left below is_sound (layer_of g old) (layer_of g mid) (min (layer_of g old).size n) (max (layer_of g old).size n) (Shown below) GivesNone a b c
        (u.shape, u.counts_not_fallen) (s.shape, s.counts_not_fallen) fixed-before u.size (omega arith) (omega arith)
        (reads-before well_formed below) (λ p v low none. absurd none) (u.crash_images well_formed below)
        (subst (λ (k : ℕ). UnrefusedCrashImages (Left below (layer_of g mid) b.bytes is_sound (min k n) (max k n) GivesNone) b c) u.size
        (s.crash_images (u.well_formed well_formed tt) (fits well_formed) below))

    sized-faults : (result : Result Unit Fault) → SizesImage g n mid result new → HadNoResourceError result → IsFaultless a c
    sized-faults result s whole = let one = u.faults tt in let two = s.faults whole in (two.0 ∙ one.0, two.1 ∙ one.1)

    sized-failed : (result : Result Unit Fault) → SizesImage g n mid result new → IsTrue old.failed → IsTrue new.failed
    sized-failed result s was = subst IsTrue (sym s.failed) (still-cut result true mid.failed (u.failed was))

    sized-marked : (e : Fault) → new.failed ≡ failed_by_resource_error {T = Unit} (Err e) true mid.failed → LeavesMarkedFailed g old new e
    sized-marked Storage is = is
    sized-marked Memory is = inl is
    sized-marked e is = tt

    sized-cause : (e : Fault) → HasCause (writing_causes ⊤ b.faults c.faults) e → HasCause (reserving_causes g full old new) e
    sized-cause Memory why = tt
    sized-cause Storage why = subst (λ k. HasRisen k c.faults) (u.faults tt).0 why
    sized-cause DamagedTable why = absurd (why tt)
    sized-cause e why = absurd why

    pub resize-sized : (result : Result Unit Fault) → SizesImage g n mid result new → ResizesDisk g cut n full old result new
    resize-sized (Ok done) s = record {
      mode = s.mode ∙ u.mode;
      number = s.number ∙ u.number;
      unspent = s.unspent ∙ u.unspent;
      shape = s.shape ∙ u.shape;
      counts_not_fallen = later_both a b c u.counts_not_fallen s.counts_not_fallen;
      failed = sized-failed (Ok done) s;
      bits = s.bits ∙ u.bits;
      version = s.version ∙ u.version;
      faults = sized-faults (Ok done) s;
      marked = tt;
      size = s.size;
      unsized = tt;
      crash_images = sized-images (Ok done) s;
      well_formed = λ well_formed whole. s.well_formed (u.well_formed well_formed tt) (fits well_formed);
      cells = λ well_formed p low low' uncut.
          s.cells (u.well_formed well_formed tt) (fits well_formed) p (subst (λ (k : ℕ). p < k) (sym u.size) low) low'
          ∙ elim (u.cells well_formed tt p) [ inl same ↦ same | inr is ↦ absurd (uncut is.0) ];
      kept = λ well_formed. tt;
      leaks = λ well_formed whole. leaks-both g old mid new (u.leaks well_formed tt)
          (s.leaks (u.well_formed well_formed tt) (fits well_formed));
      cause = tt;
    }
    resize-sized (Err e) s = record {
      mode = s.mode ∙ u.mode;
      number = s.number ∙ u.number;
      unspent = s.unspent ∙ u.unspent;
      shape = s.shape ∙ u.shape;
      counts_not_fallen = later_both a b c u.counts_not_fallen s.counts_not_fallen;
      failed = sized-failed (Err e) s;
      bits = s.bits ∙ u.bits;
      version = s.version ∙ u.version;
      faults = sized-faults (Err e) s;
      marked = sized-marked e s.failed;
      size = tt;
      unsized = s.unsized ∙ u.size;
      crash_images = sized-images (Err e) s;
      well_formed = λ well_formed not. absurd (hard-sized b.faults c.faults e s.cause not);
      cells = λ well_formed. tt;
      kept = λ well_formed not. absurd (hard-sized b.faults c.faults e s.cause not);
      leaks = λ well_formed not. absurd (hard-sized b.faults c.faults e s.cause not);
      cause = sized-cause e s.cause;
    }
