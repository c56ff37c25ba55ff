-- Lemmas on calls that set entries of guest clusters: nothing is set, a call that keeps the disk comes first, and two steps in sequence.
use Rattle.std.proofs.Common.{◌≡◌, ℕ, ◌*◌, ◌/◌, ◌^◌, ◌<◌, ◌≤◌, refl, arith, ap, sym, subst, ◌∙◌, inl, inr, Bool, true, false, List, ◌∷◌, Option, Some, None, Result, Ok, Err}
use Rattle.std.specs.Prelude.{⊤, ◌⊎◌, IsTrue, IsSome, ltb, ◌&&◌, if◌then◌else◌}
use Rattle.std.proofs.Math.Nat.{div-mul-le_self, mul-le-mul_right}
use Rattle.std.proofs.Math.Path.{fun_ext}
use Rattle.std.proofs.lemmas.Bool.{cases_Bool, cases_lt, le-ltb, lt-ltb}
use Rattle.imago_storage.specs.Calls.{CountsNotFallen, IsFaultless}
use Rattle.imago_storage.specs.State.{StorageState}
use Rattle.imago_storage.specs.Disk.{Value, byte}
use Rattle.imago_storage.specs.Passing.{UnrefusedCrashImages}
use Rattle.imago_storage.specs.declared.fault.Fault.{Fault}
use Rattle.imago_storage.specs.declared.fault.Fault.TheVariants.{Memory, Storage}
use Rattle.imago_storage.specs.declared.storage.Storage.{Ghosts}
use Rattle.imago_storage.proofs.Composing.{later_both}
use Rattle.imago_access.specs.Chain.{at}
use Rattle.imago_access.specs.Files.{HadNoResourceError}
use Rattle.imago_access.specs.Layer.{Cell, Fixed, Layer, own, through}
use Rattle.imago_access.specs.Stops.{GivesNone, Left, May}
use Rattle.imago_access.proofs.Stopping.{left_weaker, passes_weaker, then_left}
use Rattle.qcow2_types.specs.Bytes.{Bytes}
use Rattle.qcow2_types.specs.Entries.{entry}
use Rattle.qcow2_types.specs.Header.{Fields, cluster_size}
use Rattle.qcow2_image.specs.Allocating.{Begins, failed_by_resource_error}
use Rattle.qcow2_image.specs.Growing.{GivesWithin, IsWithin, SetsEntries}
use Rattle.qcow2_image.specs.Holding.{held_with, mapping_id_held, writable_locations_with}
use Rattle.qcow2_image.specs.ImageLayer.{blank_of, cells, qcow2_fixed, writable_location_by, writable_locations}
use Rattle.qcow2_image.specs.KeepsDisk.{HasSameFormat, KeepsDiskWhere, value_in}
use Rattle.qcow2_image.specs.Leaking.{KeepsLeaks}
use Rattle.qcow2_image.specs.Rooms.{IsWellFormed, is_sound}
use Rattle.qcow2_image.specs.Seen.{file_of, layer_of, writable_locations_of}
use Rattle.qcow2_image.specs.Unspent.{holding_in}
use Rattle.qcow2_image.specs.declared.mode.OpenMode.{OpenMode}
use Rattle.qcow2_image.specs.declared.qcow2.Qcow2.{Qcow2}
use Rattle.qcow2_image.proofs.DiskEffects.{cell-shown, cell_of, format-both}
use Rattle.qcow2_image.proofs.Leaks.{leaks-both}
use Rattle.qcow2_image.proofs.Steps.{memory-is, unmarked}

-- The cell of a byte of the disk, by the value that its entry gives.
pub cell-by-value : {S : Type 0} (g : Ghosts S) (d : Qcow2 S g) (p : ℕ) → p < d.tables.file.header.fields.size
    → (layer_of g d).cell p ≡ cell_of (blank_of d.mode.backing) (value_in g d.tables p)
cell-by-value g d p low =
    let f : Bytes = file_of g d.tables in
    let h : Fields = d.tables.file.header.fields in
    (λ i. cells (blank_of d.mode.backing) (memory-is g d.tables i) f h p)
    ∙ rw (lt-ltb p h.size low) (cell-shown (blank_of d.mode.backing) f h p (entry f h (p / cluster_size h)))

-- Without a resource error a change that may have begun doesn't set the image to failed.
pub runs-begun : {S T : Type 0} (g : Ghosts S) (was now : Bool) (old new : Qcow2 S g) (result : Result T Fault)
    → Begins g was old result now new → HadNoResourceError result → new.failed ≡ old.failed
runs-begun g was now old new result b whole = elim (cases_Bool now) [
  | inl is ↦ b.marked is ∙ from result old.failed whole
  | inr none ↦ (b.left_untouched none).1.failed ∙ unmarked result old.failed whole
] where
  from : {T : Type 0} (r : Result T Fault) (f : Bool) → HadNoResourceError r → failed_by_resource_error r true f ≡ f
  from (Ok v) f whole = refl
  from (Err Memory) f whole = absurd whole
  from (Err Storage) f whole = absurd whole
  from (Err e) f whole = refl

-- Like `SetsEntries`, but it says nothing of leaks.
pub record SetsValues {S : Type 0} (g : Ghosts S) (sure ok : Type 0) (first last : ℕ) (given : ℕ → Value → Type 0) (old new : Qcow2 S g)
    : Type 0 where
  pub mode : new.mode ≡ old.mode
  pub number : new.number ≡ old.number
  pub unspent : new.unspent ≡ old.unspent
  pub shape : (g.state new.tables.file.image).shape ≡ (g.state old.tables.file.image).shape
  pub counts_not_fallen : CountsNotFallen (g.state old.tables.file.image) (g.state new.tables.file.image)
  pub failed : IsTrue old.failed → IsTrue new.failed
  pub runs : ok → new.failed ≡ old.failed
  pub size : new.tables.file.header.fields.size ≡ old.tables.file.header.fields.size
  pub bits : new.tables.file.header.fields.cluster_bits ≡ old.tables.file.header.fields.cluster_bits
  pub version : new.tables.file.header.fields.version ≡ old.tables.file.header.fields.version
  pub format : HasSameFormat old.tables.file.header new.tables.file.header
  pub faults : ok → IsFaultless (g.state old.tables.file.image) (g.state new.tables.file.image)
  pub known : sure → ok → IsSome old.tables.space → IsSome new.tables.space
  pub crash_images : sure → (below : List Layer)
      → UnrefusedCrashImages (Left below (layer_of g old) (g.state old.tables.file.image).bytes is_sound
      (layer_of g old).size (layer_of g old).size (GivesWithin first last given (layer_of g old)))
      (g.state old.tables.file.image) (g.state new.tables.file.image)
  pub well_formed : sure → ok → IsWellFormed g new
  pub values : sure → ok → (p : ℕ) → (value_in g new.tables p ≡ value_in g old.tables p)
      ⊎ (IsWithin first last (p / cluster_size old.tables.file.header.fields)
      × ((v : Value) × (value_in g new.tables p ≡ Some v) × given p v))
  pub layer : sure → ok → old.tables.file.header.fields.size ≤ first * cluster_size old.tables.file.header.fields
      → layer_of g new ≡ layer_of g old

module _ {S : Type 0} (g : Ghosts S) (sure ok : Type 0) (first last : ℕ) (given : ℕ → Value → Type 0) (old new : Qcow2 S g) where
  pub values-of : SetsEntries g sure ok first last given old new → SetsValues g sure ok first last given old new
  values-of s = record {
    mode = s.mode;
    number = s.number;
    unspent = s.unspent;
    shape = s.shape;
    counts_not_fallen = s.counts_not_fallen;
    failed = s.failed;
    runs = s.runs;
    size = s.size;
    bits = s.bits;
    version = s.version;
    format = s.format;
    faults = s.faults;
    known = s.known;
    crash_images = s.crash_images;
    well_formed = s.well_formed;
    values = s.values;
    layer = s.layer;
  }

  pub with-leaks : SetsValues g sure ok first last given old new → (sure → ok → KeepsLeaks g old new)
      → SetsEntries g sure ok first last given old new
  with-leaks s leaks = record {
    mode = s.mode;
    number = s.number;
    unspent = s.unspent;
    shape = s.shape;
    counts_not_fallen = s.counts_not_fallen;
    failed = s.failed;
    runs = s.runs;
    size = s.size;
    bits = s.bits;
    version = s.version;
    format = s.format;
    faults = s.faults;
    known = s.known;
    crash_images = s.crash_images;
    well_formed = s.well_formed;
    values = s.values;
    layer = s.layer;
    leaks = leaks;
  }

-- A call that keeps the disk sets nothing.
module _ {S : Type 0} (g : Ghosts S) (sure before ok : Type 0) (first last : ℕ) (given : ℕ → Value → Type 0) (old new : Qcow2 S g)
    (now : sure → before) (keeps : KeepsDiskWhere g before ok old new) where
  pub stops-none : sure → (below : List Layer)
      → UnrefusedCrashImages (Left below (layer_of g old) (g.state old.tables.file.image).bytes is_sound
      (layer_of g old).size (layer_of g old).size (GivesWithin first last given (layer_of g old)))
      (g.state old.tables.file.image) (g.state new.tables.file.image)
  stops-none known below =
      let bytes : List ℕ = (g.state old.tables.file.image).bytes in
      let size : ℕ = (layer_of g old).size in
      let more : ℕ → Value → Type 0 = GivesWithin first last given (layer_of g old) in
      passes_weaker (Left below (layer_of g old) bytes is_sound size size GivesNone)
      (Left below (layer_of g old) bytes is_sound size size more)
      (g.state old.tables.file.image) (g.state new.tables.file.image)
      (left_weaker below is_sound (layer_of g old) bytes size size GivesNone more (λ p v low gave. absurd gave))
      (keeps.crash_images (now known) below)

  pub keeps-sets : (ok → new.failed ≡ old.failed) → (sure → ok → IsSome old.tables.space → IsSome new.tables.space)
      → (sure → ok → KeepsLeaks g old new) → SetsEntries g sure ok first last given old new
  keeps-sets runs known leaks = record {
    mode = keeps.mode;
    number = keeps.number;
    unspent = keeps.unspent;
    shape = keeps.shape;
    counts_not_fallen = keeps.counts_not_fallen;
    failed = keeps.failed;
    runs = runs;
    size = keeps.size;
    bits = keeps.bits;
    version = keeps.version;
    format = keeps.format;
    faults = keeps.faults;
    known = known;
    crash_images = stops-none;
    well_formed = λ is whole. keeps.safely (now is) whole;
    values = λ is whole p. inl (keeps.values (now is) whole p);
    layer = λ is whole past. keeps.layer (now is) whole;
    leaks = leaks;
  }

-- A call that keeps the disk and has no resource error, and then entries are set.
module _ {S : Type 0} (g : Ghosts S) (sure before later ok : Type 0) (first last : ℕ) (given : ℕ → Value → Type 0) (a b c : Qcow2 S g)
    (now : sure → before) (next : sure → later) (runs : b.failed ≡ a.failed)
    (known : sure → IsSome a.tables.space → IsSome b.tables.space) (keeps : KeepsDiskWhere g before ⊤ a b) where
  abbrev s : StorageState
  s = g.state a.tables.file.image

  abbrev t : StorageState
  t = g.state b.tables.file.image

  abbrev u : StorageState
  u = g.state c.tables.file.image

  module _ (sets : SetsValues g later ok first last given b c) where
    after-stops : sure → (below : List Layer)
        → UnrefusedCrashImages (Left below (layer_of g a) s.bytes is_sound (layer_of g a).size (layer_of g a).size
        (GivesWithin first last given (layer_of g a))) s u
    after-stops is below =
        let same = keeps.layer (now is) tt in
        let fixed : (layer_of g b).fixed ≡ (layer_of g a).fixed = ap (λ (l : Layer). l.fixed) same in
        let size : (layer_of g b).size ≡ (layer_of g a).size = ap (λ (l : Layer). l.size) same in
        then_left below is_sound (layer_of g a) (layer_of g b) (layer_of g a).size (layer_of g a).size
        (GivesWithin first last given (layer_of g a)) (GivesWithin first last given (layer_of g b)) s t u
        (keeps.shape, keeps.counts_not_fallen) (sets.shape, sets.counts_not_fallen) fixed size (omega arith) (omega arith)
        (λ p low. inr (inl (ap (λ (l : Layer). at (l ∷ below) p) same)))
        (λ p v low gave. inr (inr (subst (λ (x : Fixed). IsWithin first last (p / x.unit)) fixed gave.0, gave.1)))
        (stops-none g sure before ⊤ first last given a b now keeps is below)
        (subst (λ k. UnrefusedCrashImages (Left below (layer_of g b) t.bytes is_sound k k
        (GivesWithin first last given (layer_of g b))) t u) size (sets.crash_images (next is) below))

    after-values : sure → ok → (p : ℕ) → (value_in g c.tables p ≡ value_in g a.tables p)
        ⊎ (IsWithin first last (p / cluster_size a.tables.file.header.fields)
        × ((v : Value) × (value_in g c.tables p ≡ Some v) × given p v))
    after-values is whole p = elim (sets.values (next is) whole p) [
      | inl same ↦ inl (same ∙ keeps.values (now is) tt p)
      | inr set ↦ inr (subst (λ (k : ℕ). IsWithin first last (p / 2 ^ k)) keeps.bits set.0, set.1)
    ]

    after-layer : sure → ok → a.tables.file.header.fields.size ≤ first * cluster_size a.tables.file.header.fields
        → layer_of g c ≡ layer_of g a
    after-layer is whole past =
        let there : b.tables.file.header.fields.size ≤ first * cluster_size b.tables.file.header.fields =
        rw (keeps.size, keeps.bits) past in
        sets.layer (next is) whole there ∙ keeps.layer (now is) tt

    pub values-after-keeps : SetsValues g sure ok first last given a c
    values-after-keeps = record {
      mode = sets.mode ∙ keeps.mode;
      number = sets.number ∙ keeps.number;
      unspent = sets.unspent ∙ keeps.unspent;
      shape = sets.shape ∙ keeps.shape;
      counts_not_fallen = later_both s t u keeps.counts_not_fallen sets.counts_not_fallen;
      failed = λ was. sets.failed (keeps.failed was);
      runs = λ whole. sets.runs whole ∙ runs;
      size = sets.size ∙ keeps.size;
      bits = sets.bits ∙ keeps.bits;
      version = sets.version ∙ keeps.version;
      format = format-both a.tables.file.header b.tables.file.header c.tables.file.header keeps.format sets.format;
      faults = λ whole. ((sets.faults whole).0 ∙ (keeps.faults tt).0, (sets.faults whole).1 ∙ (keeps.faults tt).1);
      known = λ is whole some. sets.known (next is) whole (known is some);
      crash_images = after-stops;
      well_formed = λ is whole. sets.well_formed (next is) whole;
      values = after-values;
      layer = after-layer;
    }

  pub sets-after-keeps : (sure → KeepsLeaks g a b) → SetsEntries g later ok first last given b c
      → SetsEntries g sure ok first last given a c
  sets-after-keeps leaks sets =
      with-leaks g sure ok first last given a c (values-after-keeps (values-of g later ok first last given b c sets))
      (λ is whole. leaks-both g a b c (leaks is) (sets.leaks (next is) whole))

-- Entries are set in two steps. The first had no resource error.
module _ {S : Type 0} (g : Ghosts S) (sure before later ok : Type 0) (first second last : ℕ) (given : ℕ → Value → Type 0)
    (a b c : Qcow2 S g) (low : first ≤ second) (high : second ≤ last) (now : sure → before) (next : sure → later)
    (one : SetsEntries g before ⊤ first second given a b) (two : SetsEntries g later ok second last given b c) where
  abbrev state-a : StorageState
  state-a = g.state a.tables.file.image

  abbrev state-b : StorageState
  state-b = g.state b.tables.file.image

  abbrev state-c : StorageState
  state-c = g.state c.tables.file.image

  fixed-kept : (layer_of g b).fixed ≡ (layer_of g a).fixed
  fixed-kept = λ i. qcow2_fixed (one.shape i) (record a.tables.file.header.fields { version = one.version i; cluster_bits = one.bits i })
      (one.mode i) (one.number i)

  wider-first : (x : ℕ) → IsWithin first second x → IsWithin first last x
  wider-first x is = (is.0, omega (arith, is.1, high))

  wider-second : (x : ℕ) → IsWithin second last x → IsWithin first last x
  wider-second x is = (omega (arith, is.0, low), is.1)

  both-stops : sure → (below : List Layer)
      → UnrefusedCrashImages (Left below (layer_of g a) state-a.bytes is_sound (layer_of g a).size (layer_of g a).size
      (GivesWithin first last given (layer_of g a))) state-a state-c
  both-stops is below =
      then_left below is_sound (layer_of g a) (layer_of g b) (layer_of g a).size (layer_of g a).size
      all (GivesWithin second last given (layer_of g b)) state-a state-b state-c
      (one.shape, one.counts_not_fallen) (two.shape, two.counts_not_fallen) fixed-kept one.size (omega arith) (omega arith)
      disk-between given-then first-stops
      (subst (λ k. UnrefusedCrashImages (Left below (layer_of g b) state-b.bytes is_sound k k
      (GivesWithin second last given (layer_of g b))) state-b state-c) one.size (two.crash_images (next is) below)) where
        all : ℕ → Value → Type 0
        all = GivesWithin first last given (layer_of g a)

        first-stops : UnrefusedCrashImages (Left below (layer_of g a) state-a.bytes is_sound (layer_of g a).size (layer_of g a).size all)
            state-a state-b
        first-stops =
            let few : ℕ → Value → Type 0 = GivesWithin first second given (layer_of g a) in
            let size : ℕ = (layer_of g a).size in
            passes_weaker (Left below (layer_of g a) state-a.bytes is_sound size size few)
            (Left below (layer_of g a) state-a.bytes is_sound size size all) state-a state-b
            (left_weaker below is_sound (layer_of g a) state-a.bytes size size few all
            (λ p v in_disk gave. inr (inr (wider-first (p / (layer_of g a).fixed.unit) gave.0, gave.1))))
            (one.crash_images (now is) below)

        disk-between : (p : ℕ) → p < (layer_of g a).size → May below (layer_of g a) state-a.bytes all p (at (layer_of g b ∷ below) p)
        disk-between p in_disk =
            let still : p < (layer_of g b).size = subst (λ k. p < k) (sym one.size) in_disk in
            let shown : at (layer_of g b ∷ below) p ≡ through ((layer_of g b).cell p) (at below p) =
            rw (lt-ltb p (layer_of g b).size still) refl in
            let was : at (layer_of g a ∷ below) p ≡ through ((layer_of g a).cell p) (at below p) =
            rw (lt-ltb p (layer_of g a).size in_disk) refl in
            let cell : (layer_of g b).cell p ≡ cell_of (blank_of a.mode.backing) (value_in g b.tables p) =
            cell-by-value g b p still ∙ ap (λ (m : OpenMode). cell_of (blank_of m.backing) (value_in g b.tables p)) one.mode in
            elim (one.values (now is) tt p) [
              | inl same ↦
                  let as-was : (layer_of g b).cell p ≡ (layer_of g a).cell p =
                  cell ∙ ap (cell_of (blank_of a.mode.backing)) same ∙ sym (cell-by-value g a p in_disk) in
                  inr (inl (shown ∙ ap (λ (x : Cell). through x (at below p)) as-was ∙ sym was))
              | inr set ↦
                  let value : at (layer_of g b ∷ below) p ≡ set.1.0 =
                  shown ∙ ap (λ (x : Cell). through x (at below p)) (cell ∙ ap (cell_of (blank_of a.mode.backing)) set.1.1) in
                  inr (inr (wider-first (p / (layer_of g a).fixed.unit) set.0, subst (given p) (sym value) set.1.2))
            ]

        given-then : (p : ℕ) (v : Value) → p < (layer_of g a).size → GivesWithin second last given (layer_of g b) p v
            → May below (layer_of g a) state-a.bytes all p v
        given-then p v in_disk gave =
            let there : IsWithin second last (p / (layer_of g a).fixed.unit) =
            subst (λ (x : Fixed). IsWithin second last (p / x.unit)) fixed-kept gave.0 in
            inr (inr (wider-second (p / (layer_of g a).fixed.unit) there, gave.1))

  both-values : sure → ok → (p : ℕ) → (value_in g c.tables p ≡ value_in g a.tables p)
      ⊎ (IsWithin first last (p / cluster_size a.tables.file.header.fields)
      × ((v : Value) × (value_in g c.tables p ≡ Some v) × given p v))
  both-values is whole p = elim (two.values (next is) whole p) [
    | inl same ↦ elim (one.values (now is) tt p) [
      | inl before ↦ inl (same ∙ before)
      | inr set ↦ inr (wider-first (p / cluster_size a.tables.file.header.fields) set.0, (set.1.0, same ∙ set.1.1, set.1.2))
    ]
    | inr set ↦
        let there : IsWithin second last (p / cluster_size a.tables.file.header.fields) =
        subst (λ (k : ℕ). IsWithin second last (p / 2 ^ k)) one.bits set.0 in
        inr (wider-second (p / cluster_size a.tables.file.header.fields) there, set.1)
  ]

  both-layer : sure → ok → a.tables.file.header.fields.size ≤ first * cluster_size a.tables.file.header.fields → layer_of g c ≡ layer_of g a
  both-layer is whole past =
      let more : first * cluster_size a.tables.file.header.fields ≤ second * cluster_size a.tables.file.header.fields =
      mul-le-mul_right (cluster_size a.tables.file.header.fields) low in
      let far : a.tables.file.header.fields.size ≤ second * cluster_size a.tables.file.header.fields = omega (arith, past, more) in
      let there : b.tables.file.header.fields.size ≤ second * cluster_size b.tables.file.header.fields = rw (one.size, one.bits) far in
      two.layer (next is) whole there ∙ one.layer (now is) tt past

  pub sets-both : SetsEntries g sure ok first last given a c
  sets-both = record {
    mode = two.mode ∙ one.mode;
    number = two.number ∙ one.number;
    unspent = two.unspent ∙ one.unspent;
    shape = two.shape ∙ one.shape;
    counts_not_fallen = later_both state-a state-b state-c one.counts_not_fallen two.counts_not_fallen;
    failed = λ was. two.failed (one.failed was);
    runs = λ whole. two.runs whole ∙ one.runs tt;
    size = two.size ∙ one.size;
    bits = two.bits ∙ one.bits;
    version = two.version ∙ one.version;
    format = format-both a.tables.file.header b.tables.file.header c.tables.file.header one.format two.format;
    faults = λ whole. ((two.faults whole).0 ∙ (one.faults tt).0, (two.faults whole).1 ∙ (one.faults tt).1);
    known = λ is whole some. two.known (next is) whole (one.known (now is) tt some);
    crash_images = both-stops;
    well_formed = λ is whole. two.well_formed (next is) whole;
    values = both-values;
    layer = both-layer;
    leaks = λ is whole. leaks-both g a b c (one.leaks (now is) tt) (two.leaks (next is) whole);
  }

-- Only entries past the end of the disk have changed, and no mapping is prepared. The guest sees nothing of it.
module _ {S : Type 0} (g : Ghosts S) (old new : Qcow2 S g)
    (shape : (g.state new.tables.file.image).shape ≡ (g.state old.tables.file.image).shape)
    (fields : new.tables.file.header.fields ≡ old.tables.file.header.fields) (mode : new.mode ≡ old.mode) (number : new.number ≡ old.number)
    (unspent : new.unspent ≡ old.unspent) (free : old.unspent ≡ None) (failed : new.failed ≡ old.failed)
    (words : (x : ℕ) → x * cluster_size old.tables.file.header.fields < old.tables.file.header.fields.size
    → entry (file_of g new.tables) old.tables.file.header.fields x ≡ entry (file_of g old.tables) old.tables.file.header.fields x)
    (values : (p : ℕ) → p < old.tables.file.header.fields.size → value_in g new.tables p ≡ value_in g old.tables p) where
  abbrev h : Fields
  h = old.tables.file.header.fields

  abbrev h' : Fields
  h' = new.tables.file.header.fields

  abbrev f : Bytes
  f = file_of g old.tables

  abbrev f' : Bytes
  f' = file_of g new.tables

  size-same : h'.size ≡ h.size
  size-same = ap (λ (k : Fields). k.size) fields

  cell-same : (p : ℕ) → (layer_of g new).cell p ≡ (layer_of g old).cell p
  cell-same p = elim (cases_lt p h.size) [
    | inl low ↦
        cell-by-value g new p (subst (λ k. p < k) (sym size-same) low)
        ∙ (λ i. cell_of (blank_of (mode i).backing) (values p low i)) ∙ sym (cell-by-value g old p low)
    | inr behind ↦
        let there : h'.size ≤ p = subst (λ k. k ≤ p) (sym size-same) behind in
        let one : (layer_of g new).cell p ≡ own (byte 0) = rw (le-ltb p h'.size there) refl in
        let two : (layer_of g old).cell p ≡ own (byte 0) = rw (le-ltb p h.size behind) refl in
        one ∙ sym two
  ]

  home-same : (p : ℕ) → writable_locations_of g new p ≡ writable_locations_of g old p
  home-same p =
      (λ i. writable_locations (mode i).writable (memory-is g new.tables i) (fields i) p) ∙ elim (cases_lt p h.size) [
        | inl low ↦
            let start : p / cluster_size h * cluster_size h ≤ p = div-mul-le_self p (cluster_size h) in
            ap (λ w. if old.mode.writable && ltb p h.size then writable_location_by h p w else None)
            (words (p / cluster_size h) (omega (arith, start, low)))
        | inr behind ↦ outside old.mode.writable (ltb p h.size) (le-ltb p h.size behind)
            (writable_location_by h p (entry f' h (p / cluster_size h))) (writable_location_by h p (entry f h (p / cluster_size h)))
      ] ∙ sym (λ i. writable_locations old.mode.writable (memory-is g old.tables i) h p) where
        outside : (w b : Bool) → b ≡ false → (x y : Option (ℕ × ℕ)) → (if w && b then x else None) ≡ (if w && b then y else None)
        outside w true is x y = absurd (cc is)
        outside true false is x y = refl
        outside false false is x y = refl

  held-same : (p : ℕ) → (layer_of g new).held p ≡ (layer_of g old).held p
  held-same p =
      ap (λ u. held_with h' f' (holding_in g u) p) (unspent ∙ free) ∙ sym (ap (λ u. held_with h f (holding_in g u) p) free)

  pub layer-past : layer_of g new ≡ layer_of g old
  layer-past = λ i. record {
    fixed = qcow2_fixed (shape i) (fields i) (mode i) (number i);
    size = size-same i;
    failed = failed i;
    cell = fun_ext cell-same i;
    writable_location = writable_locations_with (holding_in g (unspent i)) (fun_ext home-same i);
    held = fun_ext held-same i;
    unspent = mapping_id_held (holding_in g (unspent i));
  }

-- A call that fails has set no entries past the end of the disk, so none within any range.
module _ {S : Type 0} (g : Ghosts S) (sure ok : Type 0) (first last end : ℕ) (given : ℕ → Value → Type 0) (old new : Qcow2 S g)
    (past : old.tables.file.header.fields.size ≤ first * cluster_size old.tables.file.header.fields) (fails : sure → ok → ⊥)
    (sets : SetsValues g sure ok first last given old new) where
  none-within : (p : ℕ) → p < (layer_of g old).size → IsWithin first last (p / cluster_size old.tables.file.header.fields) → ⊥
  none-within p low is =
      let c : ℕ = cluster_size old.tables.file.header.fields in
      let start : p / c * c ≤ p = div-mul-le_self p c in
      let more : first * c ≤ p / c * c = mul-le-mul_right c is.0 in
      omega (arith, past, low, start, more)

  failed-stops : sure → (below : List Layer)
      → UnrefusedCrashImages (Left below (layer_of g old) (g.state old.tables.file.image).bytes is_sound
      (layer_of g old).size (layer_of g old).size (GivesWithin first end given (layer_of g old)))
      (g.state old.tables.file.image) (g.state new.tables.file.image)
  failed-stops is below =
      let bytes : List ℕ = (g.state old.tables.file.image).bytes in
      let size : ℕ = (layer_of g old).size in
      let was : ℕ → Value → Type 0 = GivesWithin first last given (layer_of g old) in
      let more : ℕ → Value → Type 0 = GivesWithin first end given (layer_of g old) in
      passes_weaker (Left below (layer_of g old) bytes is_sound size size was) (Left below (layer_of g old) bytes is_sound size size more)
      (g.state old.tables.file.image) (g.state new.tables.file.image)
      (left_weaker below is_sound (layer_of g old) bytes size size was more (λ p v low gave. absurd (none-within p low gave.0)))
      (sets.crash_images is below)

  pub sets-failed : SetsEntries g sure ok first end given old new
  sets-failed = record {
    mode = sets.mode;
    number = sets.number;
    unspent = sets.unspent;
    shape = sets.shape;
    counts_not_fallen = sets.counts_not_fallen;
    failed = sets.failed;
    runs = sets.runs;
    size = sets.size;
    bits = sets.bits;
    version = sets.version;
    format = sets.format;
    faults = sets.faults;
    known = sets.known;
    crash_images = failed-stops;
    well_formed = sets.well_formed;
    values = λ is whole p. absurd (fails is whole);
    layer = sets.layer;
    leaks = λ is whole. absurd (fails is whole);
  }
