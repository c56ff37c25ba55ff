-- The crash images of one call, after the calls before it.
use Rattle.std.proofs.lemmas.Bool.{cases_lt}
use Rattle.std.proofs.lemmas.Bool.Decides.{nat_tests}
use Rattle.std.proofs.Math.Nat.{min-le_left, min-le_right, min-eq_left, le-max_left, le-max_right}
use Rattle.std.proofs.Common.{◌≡◌, ◌⊎◌, inl, inr, ℕ, ◌<◌, ◌≤◌, ◌∷◌, List, arith, sym, ap, subst, refl, true}
use Rattle.std.specs.Prelude.{Bool, false, if◌then◌else◌, ltb, min, IsTrue}
use Rattle.imago_storage.specs.Disk.{Value, Disk}
use Rattle.imago_storage.specs.Steps.{Call, SameValues, grow}
use Rattle.imago_access.specs.Layer.{Layer, Fixed, through}
use Rattle.imago_access.specs.Chain.{at, disk_of}
use Rattle.imago_access.specs.Stops.{shown, May, Left, IsMeant}
use Rattle.qimg_calls.specs.Since.{Since, Reading, Shows, Begun, least_size, most_size, begun, at_size, flushed, known_to, ReadsSince, LeftSince, IsSince}
use Rattle.qimg_calls.specs.Leading.{ShowsBetween}

-- A value that was allowed before a call begins is still allowed.
more : (below : ℕ → Value) (since : Since) (disk : Disk) (call : Call) (p : ℕ) (v : Value) → Shows below since p v → Shows below (begun since disk call) p v
more below since disk call p v (inl same) = inl same
more below since disk call p v (inr given) = inr (inr given)

-- A file that reads as it may before a call begins still does.
more-reads : (top : Reading) (since : Since) (disk : Disk) (call : Call) (f : List ℕ) → ReadsSince top since f → ReadsSince top (begun since disk call) f
more-reads top since disk call f reads = record {
  backed = reads.backed;
  long = omega (arith, reads.long, min-le_left since.least (least_size disk call));
  short = λ exact. omega (arith, reads.short exact, le-max_left since.most (most_size disk call));
  shows = λ p inside known. more top.below since disk call p _ (reads.shows p inside known);
}

-- A size that isn't smaller changes nothing.
same-size : (since : Since) (n : ℕ) → since.smallest ≤ n → at_size since n ≡ since
same-size since n fits = ap (λ (m : ℕ). record since { smallest = m }) (min-eq_left fits)

pub as-large : (top : Reading) (bytes : List ℕ) (now : Disk) (since : Since) (n : ℕ) → since.smallest ≤ n → IsSince top bytes now (at_size since n) → IsSince top bytes now since
as-large top bytes now since n fits is = subst (IsSince top bytes now) (same-size since n fits) is

-- Another disk with the same values.
pub same-disk : (top : Reading) (bytes : List ℕ) (old new : Disk) (since : Since) → SameValues old new → IsSince top bytes old since → IsSince top bytes new since
same-disk top bytes old new since same is = record {
  smallest = omega (arith, is.smallest, same.size);
  bounded = is.bounded;
  file = is.file;
  disk = λ p inside known. let was : p < old.size = omega (arith, inside, same.size) in
      subst (Shows top.below since p) (sym (same.value p was)) (is.disk p was known);
}

-- A file read as the file of a layer with these properties, over the layers below.
abbrev pub reading_as : List Layer → (ℕ → List ℕ → Type 0) → Fixed → List ℕ → Reading
reading_as below sound fixed file = record {
  below = at below;
  means = fixed.means;
  sound = sound fixed.kind;
  exact = fixed.exact;
  backed = (fixed.means file).backed;
}

abbrev pub reading : List Layer → (ℕ → List ℕ → Type 0) → Layer → List ℕ → Reading
reading below sound layer file = reading_as below sound layer.fixed file

-- The offsets that are known, by whether a file states the size of its disk.
decide : (b : Bool) → IsTrue b ⊎ (b ≡ false)
decide true = inl refl
decide false = inr refl

known-size : (b : Bool) (size smallest p : ℕ) → smallest ≤ size → p < (if b then size else smallest) → p < size
known-size true size smallest p fits known = known
known-size false size smallest p fits known = omega (arith, fits, known)

known-smallest : (b : Bool) (size smallest p : ℕ) → b ≡ false → p < (if b then size else smallest) → p < smallest
known-smallest true size smallest p unstated known = absurd (cc unstated)
known-smallest false size smallest p unstated known = known

known-before : (b : Bool) (size smallest n p : ℕ) → p < (if b then size else min smallest n) → p < (if b then size else smallest)
known-before true size smallest n p known = known
known-before false size smallest n p known = omega (arith, known, min-le_left smallest n)

-- A growth gives any value past the disk's end. No other call changes anything there.
past : (below : ℕ → Value) (disk : Disk) (call : Call) (p : ℕ) (v : Value) → disk.size ≤ p → p < most_size disk call → Begun below disk call p v
past below disk (grow size fill) p v behind inside = behind
past below disk call p v behind inside = absurd (omega (arith, behind, inside))

module _ (below : List Layer) (sound : ℕ → List ℕ → Type 0) (entry : Layer) (file : List ℕ) (since : Since) (call : Call)
    (is : IsSince (reading below sound entry file) file (disk_of below entry) since) (covers : entry.size ≤ (entry.fixed.means file).size) where
  abbrev after : Since
  after = begun since (disk_of below entry) call

  abbrev before : Reading
  before = reading below sound entry file

  shows-below : (p : ℕ) (v : Value) → p < entry.size → p < known_to before since → May below entry file (Begun (at below) (disk_of below entry) call) p v
      → Shows (at below) after p v
  shows-below p v inside known (inl meant) = more (at below) since (disk_of below entry) call p v (subst (Shows (at below) since p) (sym meant) (is.file.shows p (omega (arith, covers, inside)) known))
  shows-below p v inside known (inr (inl value)) = more (at below) since (disk_of below entry) call p v
      (subst (Shows (at below) since p) (sym value) (is.disk p inside (known-size entry.fixed.exact since.size since.smallest p is.bounded known)))
  shows-below p v inside known (inr (inr gave)) = inr (inl gave)

  -- The bytes past the end of the disk are only known if the file states its size. Then a growth gives them.
  shows-past : (p n : ℕ) (v : Value) → entry.size ≤ p → p < n → (IsTrue entry.fixed.exact → n ≤ most_size (disk_of below entry) call) → p < known_to before since
      → Shows (at below) after p v
  shows-past p n v ge inside no_longer known = elim (decide entry.fixed.exact) [
    | inl states ↦ inr (inl (past (at below) (disk_of below entry) call p v ge (omega (arith, inside, no_longer states))))
    | inr unstated ↦ absurd (omega (arith, ge, is.smallest, known-smallest entry.fixed.exact since.size since.smallest p unstated known))
  ]

  -- A crash image of the call, in relation to the last flush.
  pub left-since : (f : List ℕ) → Left below entry file sound (least_size (disk_of below entry) call) (most_size (disk_of below entry) call) (Begun (at below) (disk_of below entry) call) f
      → LeftSince (reading below sound entry file) after f
  left-since f left = record {
    is_sound = left.is_sound;
    reads = record {
      backed = left.backed;
      long = omega (arith, left.size, min-le_right since.least (least_size (disk_of below entry) call));
      short = λ exact. omega (arith, left.no_longer exact, le-max_right since.most (most_size (disk_of below entry) call));
      shows = λ p inside known. elim (cases_lt p entry.size) [
        | inl lt ↦ shows-below p (shown below entry.fixed.means f p) lt known (left.shows p inside lt)
        | inr ge ↦ shows-past p (entry.fixed.means f).size (shown below entry.fixed.means f p) ge inside left.no_longer known
      ];
    };
  }

  -- The file after the call.
  reads-on : (new_file : List ℕ) → (new_file ≡ file) ⊎ LeftSince (reading below sound entry file) after new_file → ReadsSince (reading below sound entry file) after new_file
  reads-on new_file (inl same) = subst (ReadsSince (reading below sound entry file) after) (sym same) (more-reads (reading below sound entry file) since (disk_of below entry) call file is.file)
  reads-on new_file (inr left) = left.reads

  -- The state after the call.
  pub since-on : (new : Layer) (new_file : List ℕ) → new.fixed ≡ entry.fixed → ShowsBetween (Begun (at below) (disk_of below entry) call) below entry new
      → ((new_file ≡ file) ⊎ LeftSince (reading below sound entry file) after new_file) → IsSince (reading below sound new new_file) new_file (disk_of below new) (at_size after new.size)
  since-on new new_file fixed values how = let reads = reads-on new_file how in record {
    smallest = min-le_right since.smallest new.size;
    bounded = omega (arith, is.bounded, min-le_left since.smallest new.size);
    file = record {
      backed = refl;
      long = subst (λ (x : Fixed). after.least ≤ (x.means new_file).size) (sym fixed) reads.long;
      short = subst (λ (x : Fixed). IsTrue x.exact → (x.means new_file).size ≤ after.most) (sym fixed) reads.short;
      shows = λ p inside known.
          let inside' : p < (entry.fixed.means new_file).size = subst (λ (x : Fixed). p < (x.means new_file).size) fixed inside in
          let known' : p < (if entry.fixed.exact then since.size else min since.smallest new.size) =
          subst (λ (x : Fixed). p < (if x.exact then since.size else min since.smallest new.size)) fixed known in
          subst (λ (x : Fixed). Shows (at below) after p (shown below x.means new_file p)) (sym fixed)
          (reads.shows p inside' (known-before entry.fixed.exact since.size since.smallest new.size p known'));
    };
    disk = λ p inside known. elim (values p inside) [
      | inl same ↦ subst (Shows (at below) after p) (sym same.1) (more (at below) since (disk_of below entry) call p (at (entry ∷ below) p) (is.disk p same.0 known))
      | inr gave ↦ inr (inl gave)
    ];
  }

-- The file of a flushed image reads as its disk.
pub through-same : (below : List Layer) (layer : Layer) (bytes : List ℕ) (p : ℕ) → IsMeant layer bytes → p < layer.size → shown below layer.fixed.means bytes p ≡ at (layer ∷ below) p
through-same below layer bytes p meant inside =
    let one : ltb p (layer.fixed.means bytes).size ≡ true = grind (arith, nat_tests, meant.size) in
    let two : ltb p layer.size ≡ true = grind (arith, nat_tests) in
    rw one (rw two (ap (λ c. through c (at below p)) (meant.cell p inside)))

-- The state after a flush whose file reads as the disk.
pub since-read : (below : List Layer) (sound : ℕ → List ℕ → Type 0) (layer : Layer) (bytes : List ℕ) → layer.size ≤ (layer.fixed.means bytes).size → (IsTrue layer.fixed.exact → (layer.fixed.means bytes).size ≤ layer.size)
    → ((p : ℕ) → p < layer.size → shown below layer.fixed.means bytes p ≡ at (layer ∷ below) p) → IsSince (reading below sound layer bytes) bytes (disk_of below layer) (flushed (disk_of below layer))
since-read below sound layer bytes long short shows = record {
  smallest = omega arith;
  bounded = omega arith;
  file = record {
    backed = refl;
    long = long;
    short = short;
    shows = λ p inside known. inl (shows p (known-size layer.fixed.exact layer.size layer.size p (omega arith) known));
  };
  disk = λ p inside known. inl refl;
}

pub since-flushed : (below : List Layer) (sound : ℕ → List ℕ → Type 0) (layer : Layer) (bytes : List ℕ) → IsMeant layer bytes → IsSince (reading below sound layer bytes) bytes (disk_of below layer) (flushed (disk_of below layer))
since-flushed below sound layer bytes meant = since-read below sound layer bytes meant.size (λ exact. omega (arith, meant.exactly exact)) (λ p inside. through-same below layer bytes p meant inside)

-- A file that reads as it may, as the file of a chain with the same properties and the same layers below.
pub reads-before : (sound : ℕ → List ℕ → Type 0) (below below' : List Layer) (x y : Fixed) (file file' : List ℕ) (since : Since) → below ≡ below' → x ≡ y
    → ReadsSince (reading_as below sound x file) since file → (y.means file).backed ≡ (y.means file').backed → ReadsSince (reading_as below' sound y file') since file
reads-before sound below below' x y file file' since layers fixed reads backed = record {
  backed = backed;
  long = subst (λ (z : Fixed). since.least ≤ (z.means file).size) fixed reads.long;
  short = subst (λ (z : Fixed). IsTrue z.exact → (z.means file).size ≤ since.most) fixed reads.short;
  shows = subst (λ (ls : List Layer). (p : ℕ) → p < (y.means file).size → p < (if y.exact then since.size else since.smallest) → Shows (at ls) since p (shown ls y.means file p)) layers
      (subst (λ (z : Fixed). (p : ℕ) → p < (z.means file).size → p < (if z.exact then since.size else since.smallest) → Shows (at below) since p (shown below z.means file p)) fixed
      reads.shows);
}
