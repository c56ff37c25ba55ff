-- Lemmas on the last guest cluster of a disk that gets longer: its bytes past the end of the disk read as zeroes.
use Rattle.std.proofs.Common.{◌≡◌, ◌≢◌, ℕ, ◌+◌, ◌-◌, ◌/◌, ◌%◌, ◌<◌, ◌≤◌, arith, ap, sym, subst, ◌∙◌, inl, inr, refl, List, None, Some, Result, Ok, Err}
use Rattle.std.specs.Prelude.{⊤, IsSome, IsTrue, IfErr, OnOk, slice_index}
use Rattle.std.proofs.lemmas.Nat.{pow_pos}
use Rattle.imago_storage.specs.Calls.{CountsNotFallen, IsFaultless}
use Rattle.imago_storage.specs.State.{StorageState}
use Rattle.imago_storage.specs.Disk.{Value, byte}
use Rattle.imago_storage.specs.Passing.{UnrefusedCrashImages}
use Rattle.imago_storage.specs.declared.fault.Fault.{Fault}
use Rattle.imago_storage.specs.declared.storage.Storage.{Ghosts}
use Rattle.imago_access.specs.Chain.{at}
use Rattle.imago_access.specs.Changes.{IsCopied}
use Rattle.imago_access.specs.Files.{HadNoResourceError, IsNotResourceError}
use Rattle.imago_access.specs.Going.{LookupCallBelow}
use Rattle.imago_access.specs.Layer.{Cell, Layer, through}
use Rattle.imago_access.specs.Stops.{GivesNone, Left}
use Rattle.imago_access.specs.declared.driver_model.LayersBelowModel.{Ghosts as GhostsBelow}
use Rattle.imago_access.proofs.Holding.{at_inside}
use Rattle.imago_access.proofs.Stopping.{left_weaker, passes_weaker}
use Rattle.qcow2_types.specs.Bytes.{Bytes}
use Rattle.qcow2_types.specs.Entries.{entry}
use Rattle.qcow2_types.specs.Header.{Fields, cluster_size}
use Rattle.qcow2_alloc.specs.Causes.{HasCause}
use Rattle.qcow2_alloc.proofs.Causes.{cause-weaker}
use Rattle.qcow2_clusters.specs.Storing.{storing_causes}
use Rattle.qcow2_image.specs.Growing.{GivesContent, GivesWithin, IsWithin, ReadsZero, ReplacesCluster, clusters_over, last_guest}
use Rattle.qcow2_image.specs.ImageLayer.{blank_of, cells}
use Rattle.qcow2_image.specs.KeepsDisk.{KeepsDisk, value_in}
use Rattle.qcow2_image.specs.Leaking.{KeepsLeaks}
use Rattle.qcow2_image.specs.Preparing.{LacksPlaceBeside}
use Rattle.qcow2_image.specs.Rooms.{IsWellFormed, is_sound}
use Rattle.qcow2_image.specs.Seen.{file_of, layer_of}
use Rattle.qcow2_image.specs.declared.qcow2.Qcow2.{Qcow2}
use Rattle.qcow2_image.proofs.DiskEffects.{cell-shown, cell_of, keeps-disk-same}
use Rattle.qcow2_image.proofs.Resizes.SizeSteps.{inside-cell}
use Rattle.qcow2_image.proofs.Resizes.TailReads.{last-over, last-row, nonempty}
use Rattle.qcow2_image.proofs.Steps.{memory-is}

-- The cell of a byte of the disk, by the value that the file gives.
pub cell-in : {S : Type 0} (g : Ghosts S) (d : Qcow2 S g) (p : ℕ) → p < d.tables.file.header.fields.size
    → (layer_of g d).cell p ≡ cell_of (blank_of d.mode.backing) (value_in g d.tables p)
cell-in g d p inside =
    let b = blank_of d.mode.backing in
    let h = d.tables.file.header.fields in
    ap (λ (m : Bytes). cells b m (file_of g d.tables) h p) (memory-is g d.tables) ∙ inside-cell b (file_of g d.tables) h p inside

-- The byte reads as 0 over every layer if the file gives it that value.
pub reads-zero : {S : Type 0} (g : Ghosts S) (d : Qcow2 S g) (below : List Layer) (p : ℕ) → value_in g d.tables p ≡ Some (byte 0)
    → ReadsZero g below d p
reads-zero g d below p is =
    let b = blank_of d.mode.backing in
    let f = file_of g d.tables in
    let h = d.tables.file.header.fields in
    ap (λ (k : Cell). through k (at below p)) (cell-shown b f h p (entry f h (p / cluster_size h)) ∙ ap (cell_of b) is)

always : (result : Result Unit Fault) (P : Type 0) → P → IfErr result (λ e. P)
always (Ok done) P holds = tt
always (Err e) P holds = holds

-- The bytes past the end of the disk in its last guest cluster read as zeroes once the disk is longer. The guest cluster gets a new host
-- cluster if needed. The guest reads the same bytes as before. Guest clusters past the end of the disk keep their values. If the disk ends
-- where a cluster does, the call can't fail. The layers below were read before, and `sure` says that the image was well-formed.
pub record ZeroesTail {S B : Type 0} (g : Ghosts S) (u : GhostsBelow B) (sure : Type 0) (old : Qcow2 S g × B) (result : Result Unit Fault)
    (new : Qcow2 S g × B) : Type 0 where
  pub mode : new.0.mode ≡ old.0.mode
  pub number : new.0.number ≡ old.0.number
  pub unspent : new.0.unspent ≡ old.0.unspent
  pub shape : (g.state new.0.tables.file.image).shape ≡ (g.state old.0.tables.file.image).shape
  pub counts_not_fallen : CountsNotFallen (g.state old.0.tables.file.image) (g.state new.0.tables.file.image)
  pub failed : IsTrue old.0.failed → IsTrue new.0.failed
  pub size : new.0.tables.file.header.fields.size ≡ old.0.tables.file.header.fields.size
  pub bits : new.0.tables.file.header.fields.cluster_bits ≡ old.0.tables.file.header.fields.cluster_bits
  pub version : new.0.tables.file.header.fields.version ≡ old.0.tables.file.header.fields.version
  pub faults : HadNoResourceError result → IsFaultless (g.state old.0.tables.file.image) (g.state new.0.tables.file.image)
  pub below : LookupCallBelow u ⊤ old.1 new.1
  pub crash_images : sure → u.coherent_below old.1
      → UnrefusedCrashImages (Left (u.layers_below old.1) (layer_of g old.0) (g.state old.0.tables.file.image).bytes is_sound
      (layer_of g old.0).size (layer_of g old.0).size GivesNone) (g.state old.0.tables.file.image) (g.state new.0.tables.file.image)
  pub well_formed : sure → HadNoResourceError result → IsWellFormed g new.0
  pub shown : sure → u.coherent_below old.1 → HadNoResourceError result → (p : ℕ) → p < (layer_of g old.0).size
      → through ((layer_of g new.0).cell p) (at (u.layers_below old.1) p) ≡ through ((layer_of g old.0).cell p) (at (u.layers_below old.1) p)
  pub kept : sure → IfErr result (λ e. IsNotResourceError e → layer_of g new.0 ≡ layer_of g old.0)
  pub zeroed : sure → u.coherent_below old.1
      → let c = cluster_size old.0.tables.file.header.fields in let size = old.0.tables.file.header.fields.size in
      OnOk result ((p : ℕ) → size ≤ p → p / c < clusters_over c size → ReadsZero g (u.layers_below old.1) new.0 p)
  pub others : sure → HadNoResourceError result
      → let c = cluster_size old.0.tables.file.header.fields in (p : ℕ) → clusters_over c old.0.tables.file.header.fields.size ≤ p / c
      → value_in g new.0.tables p ≡ value_in g old.0.tables p
  pub leaks : sure → HadNoResourceError result → KeepsLeaks g old.0 new.0
  pub ends_inside : IfErr result (λ e. old.0.tables.file.header.fields.size % cluster_size old.0.tables.file.header.fields ≢ 0)
  pub cause : IfErr result (HasCause (storing_causes sure (LacksPlaceBeside g (last_guest g old.0) None old.0.tables new.0.tables)
      (g.state old.0.tables.file.image).faults (g.state new.0.tables.file.image).faults))

-- The bytes of the last guest cluster are stored.
module _ {S B : Type 0} (g : Ghosts S) (u : GhostsBelow B) (sure : Type 0) (old : Qcow2 S g) (x y : B) (safe : sure → IsWellFormed g old)
    (known : sure → IsSome old.tables.space) (looked : LookupCallBelow u ⊤ x y) where
  abbrev h : Fields
  h = old.tables.file.header.fields

  abbrev c : ℕ
  c = cluster_size h

  abbrev guest : ℕ
  guest = last_guest g old

  abbrev below : List Layer
  below = u.layers_below x

  one : 0 < c
  one = pow_pos h.cluster_bits

  abbrev a : StorageState
  a = g.state old.tables.file.image

  -- The guest cluster stays as it is.
  pub tail-kept : (sure → (p : ℕ) → h.size ≤ p → p / c < clusters_over c h.size → ReadsZero g below old p)
      → ZeroesTail g u sure (old, x) (Ok tt) (old, y)
  tail-kept zeroed = let k : KeepsDisk g ⊤ old old = keeps-disk-same g ⊤ old in record {
    mode = refl;
    number = refl;
    unspent = refl;
    shape = refl;
    counts_not_fallen = k.counts_not_fallen;
    failed = λ was. was;
    size = refl;
    bits = refl;
    version = refl;
    faults = k.faults;
    below = looked;
    crash_images = λ is under. k.crash_images (safe is) below;
    well_formed = λ is whole. safe is;
    shown = λ is under whole p low. refl;
    kept = λ is. tt;
    zeroed = λ is under. zeroed is;
    others = λ is whole p past. refl;
    leaks = λ is whole k. refl;
    ends_inside = tt;
    cause = tt;
  }

  -- The guest cluster gets the bytes that it had, and zeroes after the end of the disk.
  module _ (content : List ℕ) (shows : sure → u.coherent_below x → (p : ℕ) → p / c ≡ guest → p < h.size
      → IsCopied (at below) (layer_of g old) p (slice_index content (p % c)))
      (rest : (p : ℕ) → h.size ≤ p → p / c ≡ guest → slice_index content (p % c) ≡ 0) (new : Qcow2 S g) (result : Result Unit Fault)
      (r : ReplacesCluster g guest content old result new) (cut : h.size % c ≢ 0) where
    abbrev e : StorageState
    e = g.state new.tables.file.image

    abbrev Gives : ℕ → Value → Type 0
    Gives = GivesWithin guest (guest + 1) (GivesContent h content) (layer_of g old)

    as-was : sure → u.coherent_below x → (p : ℕ) (v : Value) → p < h.size → IsWithin guest (guest + 1) (p / c) → GivesContent h content p v
        → v ≡ through ((layer_of g old).cell p) (at below p)
    as-was is under p v low within gave = gave ∙ sym (shows is under p (omega (arith, within.0, within.1)) low)

    images : sure → u.coherent_below x
        → UnrefusedCrashImages (Left below (layer_of g old) a.bytes is_sound (layer_of g old).size (layer_of g old).size GivesNone) a e
    images is under =
        passes_weaker (Left below (layer_of g old) a.bytes is_sound (layer_of g old).size (layer_of g old).size Gives)
        (Left below (layer_of g old) a.bytes is_sound (layer_of g old).size (layer_of g old).size GivesNone) a e
        (left_weaker below is_sound (layer_of g old) a.bytes (layer_of g old).size (layer_of g old).size Gives GivesNone
        (λ p v low gave. inr (inl (as-was is under p v low gave.0 gave.1 ∙ sym (at_inside (layer_of g old) below p low)))))
        (r.sets.crash_images (safe is, known is) below)

    shown-now : sure → u.coherent_below x → HadNoResourceError result → (p : ℕ) → p < h.size
        → through ((layer_of g new).cell p) (at below p) ≡ through ((layer_of g old).cell p) (at below p)
    shown-now is under whole p low =
        let here = cell-in g new p (subst (λ (n : ℕ). p < n) (sym r.sets.size) low) in
        elim (r.sets.values (safe is, known is) whole p) [
          | inl same ↦ ap (λ (k : Cell). through k (at below p)) (here ∙ (λ i. cell_of (blank_of (r.sets.mode i).backing) (same i))
              ∙ sym (cell-in g old p low))
          | inr set ↦ ap (λ (k : Cell). through k (at below p)) (here ∙ ap (cell_of (blank_of new.mode.backing)) set.1.1)
              ∙ as-was is under p set.1.0 low set.0 set.1.2
        ]

    zeroed-now : (q : Result Unit Fault) → OnOk q ((p : ℕ) → p / c ≡ guest → value_in g new.tables p ≡ Some (byte (slice_index content (p % c))))
        → OnOk q ((p : ℕ) → h.size ≤ p → p / c < clusters_over c h.size → ReadsZero g below new p)
    zeroed-now (Err fault) mapped = tt
    zeroed-now (Ok done) mapped = λ p past within.
        let row = (last-row c h.size one p past within).1 in
        reads-zero g new below p (mapped p row ∙ ap (λ (v : ℕ). Some (byte v)) (rest p past row))

    others-now : sure → HadNoResourceError result → (p : ℕ) → clusters_over c h.size ≤ p / c
        → value_in g new.tables p ≡ value_in g old.tables p
    others-now is whole p past = elim (r.sets.values (safe is, known is) whole p) [
      | inl same ↦ same
      | inr set ↦
          let there : p / c < guest + 1 = set.0.1 in
          let over = last-over c h.size one (nonempty c h.size cut) in
          absurd (omega (arith, there, over, past))
    ]

    why-now : (q : Result Unit Fault) → IfErr q (HasCause (storing_causes (IsWellFormed g old × IsSome old.tables.space)
        (LacksPlaceBeside g guest None old.tables new.tables) a.faults e.faults))
        → IfErr q (HasCause (storing_causes sure (LacksPlaceBeside g guest None old.tables new.tables) a.faults e.faults))
    why-now (Ok done) why = tt
    why-now (Err fault) why = cause-weaker (record {
      before = omega arith;
      after = omega arith;
      damaged = λ wrong is. wrong (safe is, known is);
      counter = λ wrong is. wrong (safe is, known is);
      full = absurd;
      limit = λ number lacks is. lacks (safe is, known is);
    }) fault why

    -- The guest cluster is replaced.
    pub tail-replaced : ZeroesTail g u sure (old, x) result (new, y)
    tail-replaced = record {
      mode = r.sets.mode;
      number = r.sets.number;
      unspent = r.sets.unspent;
      shape = r.sets.shape;
      counts_not_fallen = r.sets.counts_not_fallen;
      failed = r.sets.failed;
      size = r.sets.size;
      bits = r.sets.bits;
      version = r.sets.version;
      faults = r.sets.faults;
      below = looked;
      crash_images = images;
      well_formed = λ is whole. r.sets.well_formed (safe is, known is) whole;
      shown = shown-now;
      kept = λ is. r.kept (safe is) (known is);
      zeroed = λ is under. zeroed-now result (r.mapped (safe is) (known is));
      others = others-now;
      leaks = λ is whole. r.sets.leaks (safe is, known is) whole;
      ends_inside = always result (h.size % c ≢ 0) cut;
      cause = why-now result r.cause;
    }
