-- The top's driver reads its file as the files say.
use Rattle.std.proofs.Common.{◌≡◌, ◌⊎◌, ◌∙◌, ◌<◌, ◌≤◌, ℕ, List, ap, arith, inl, refl, subst, sym}
use Rattle.std.specs.Prelude.{Bool, IsTrue, cond, false, if◌then◌else◌, ltb, true}
use Rattle.imago_storage.specs.Disk.{Disk, Value, byte}
use Rattle.imago_storage.specs.State.{StorageState}
use Rattle.imago_access.specs.Layer.{Fixed, through, unmapped}
use Rattle.qimg_calls.specs.Since.{LeftSince, Reading, Shows, Since, flushed, value_over}
use Rattle.qimg_chain.specs.Chains.{IsSoundAs}
use Rattle.qimg_chain.specs.FileMeanings.{FileBytes, file_meaning}
use Rattle.qimg_chain.specs.FlushedFiles.{with_image}
use Rattle.qimg_chain.specs.OneDisk.{over_values, reading_over, states_size}

-- A layer with these properties reads each file, taken as its own, as the file means. If the layer reads nothing from the layers below, the
-- bytes that the file leaves to them are 0.
pub record IsReadAs (sound : ℕ → List ℕ → Type 0) (x : Fixed) (file : FileBytes) : Type 0 where
  pub size : (f : List ℕ) → (x.means f).size ≡ (file_meaning (with_image file f)).size
  pub cell : (f : List ℕ) (p : ℕ) (below : Value) → (x.blank ≡ unmapped) ⊎ (below ≡ byte 0)
      → through ((x.means f).cell p) below ≡ through ((file_meaning (with_image file f)).cell p) below
  pub backed : (f : List ℕ) → (x.means f).backed ≡ (file_meaning (with_image file f)).backed
  pub is_sound : (f : List ℕ) → sound x.kind f → IsSoundAs file.format f
  pub exact : x.exact ≡ states_size file.format

-- A file as that of a layer with these properties, over layers with these values. `backed` says if the top refers to a backing file.
abbrev pub reading_with : (ℕ → List ℕ → Type 0) → Fixed → (ℕ → Value) → Bool → Reading
reading_with sound x below backed = record { below = below; means = x.means; sound = sound x.kind; exact = x.exact; backed = backed }

-- The size at the last flush and the smallest one since are the same for a disk that was flushed.
same-if : (b : Bool) (n : ℕ) → (if b then n else n) ≡ n
same-if true n = refl
same-if false n = refl

-- A storage whose file is that of a layer with these properties. A crash leaves its bytes, and they are consistent and refer to a backing
-- file exactly if `file` does.
pub record IsStanding (x : Fixed) (file : FileBytes) (s : StorageState) : Type 0 where
  pub told : s.crash_image ≡ s.bytes
  pub is_sound : IsSoundAs file.format s.bytes
  pub backed : (x.means s.bytes).backed ≡ (file_meaning file).backed

module _ (sound : ℕ → List ℕ → Type 0) (x : Fixed) (file : FileBytes) (is : IsReadAs sound x file) where
  -- The value of a byte of the file.
  pub same-value : (below : ℕ → Value) (f : List ℕ) (p : ℕ) → (x.blank ≡ unmapped) ⊎ (below p ≡ byte 0)
      → value_over below (x.means f) p ≡ value_over below (file_meaning (with_image file f)) p
  same-value below f p known =
      let meant = file_meaning (with_image file f) in
      ap (λ n. cond (ltb p n) (through ((x.means f).cell p) (below p)) (byte 0)) (is.size f)
      ∙ ap (λ v. cond (ltb p meant.size) v (byte 0)) (is.cell f p (below p) known)

  -- A crash image as the driver reads it is one as the files say, over any layers below with these values.
  pub left-as : (files : List FileBytes) (below : ℕ → Value) → ((p : ℕ) → (x.blank ≡ unmapped) ⊎ (below p ≡ byte 0)) → (backed : Bool)
      → backed ≡ (file_meaning file).backed → (since : Since) (f : List ℕ) → LeftSince (reading_with sound x below backed) since f
      → LeftSince (over_values (reading_over file files) below) since f
  left-as files below known backed same since f left = record {
    is_sound = is.is_sound f left.is_sound;
    reads = record {
      backed = sym (is.backed f) ∙ left.reads.backed ∙ same;
      long = omega (arith, left.reads.long, is.size f);
      short = λ exact. omega (arith, left.reads.short (subst (λ (b : Bool). IsTrue b) (sym is.exact) exact), is.size f);
      shows = λ p inside in_size. subst (Shows below since p) (same-value below f p (known p))
          (left.reads.shows p (omega (arith, inside, is.size f))
          (subst (λ (b : Bool). p < (if b then since.size else since.smallest)) (sym is.exact) in_size));
    };
  }

  -- A file that reads as a disk that was flushed.
  pub flushed-left : (files : List FileBytes) (below : ℕ → Value) → ((p : ℕ) → (x.blank ≡ unmapped) ⊎ (below p ≡ byte 0)) → (disk : Disk)
      (f : List ℕ) → IsSoundAs file.format f → (x.means f).backed ≡ (file_meaning file).backed → disk.size ≤ (x.means f).size
      → (IsTrue x.exact → (x.means f).size ≤ disk.size) → ((p : ℕ) → p < disk.size → value_over below (x.means f) p ≡ disk.value p)
      → LeftSince (over_values (reading_over file files) below) (flushed disk) f
  flushed-left files below known disk f is_sound backed long short shows = record {
    is_sound = is_sound;
    reads = record {
      backed = sym (is.backed f) ∙ backed;
      long = omega (arith, long, is.size f);
      short = λ exact. omega (arith, short (subst (λ (b : Bool). IsTrue b) (sym is.exact) exact), is.size f);
      shows = λ p inside in_size. inl (sym (same-value below f p (known p))
          ∙ shows p (subst (λ n. p < n) (same-if (states_size file.format) disk.size) in_size));
    };
  }
