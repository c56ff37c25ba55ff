-- Crash images: the files that a crash during a call may leave as the top layer's image file.
use Rattle.std.specs.Prelude.{IsTrue, ◌≡◌, ◌⊎◌, ℕ, ◌+◌, ◌<◌, ◌≤◌, List, ◌∷◌, length, slice_index, if◌then◌else◌, ltb, Bool, true, false, Some, None}
use Rattle.imago_storage.specs.State.{StorageState}
use Rattle.imago_storage.specs.Passing.{UnrefusedCrashImages}
use Rattle.imago_storage.specs.Disk.{Value, byte}
use Rattle.imago_storage.specs.Steps.{IsIn, IsByte}
use Rattle.imago_access.specs.declared.driver_model.DriverModel.{Ghosts}
use Rattle.imago_access.specs.Layer.{Layer, Meaning, Cell, Held, inside, through}
use Rattle.imago_access.specs.Chain.{at}
use Rattle.imago_access.specs.Changes.{CommitsPlace}

-- The value at `p` of file `f` over the layers below.
abbrev pub shown : List Layer → (List ℕ → Meaning) → List ℕ → ℕ → Value
shown below means f p = if ltb p (means f).size then through ((means f).cell p) (at below p) else byte 0

-- The values that a crash image may read at `p`: those of the file or the disk at entry, or one that the call gives.
abbrev pub May : List Layer → Layer → List ℕ → (ℕ → Value → Type 0) → ℕ → Value → Type 0
May below entry entry_file gives p v = (v ≡ shown below entry.fixed.means entry_file p) ⊎ ((v ≡ at (entry ∷ below) p) ⊎ gives p v)

-- A file `f` that a crash during a call may leave. It is consistent, and refers to a backing file exactly if the file at entry did. Its disk
-- has at least the size `least`. If the file states the size, that is at most `most`. Each byte of the old disk reads as the call may leave
-- it.
pub record Left (below : List Layer) (entry : Layer) (entry_file : List ℕ) (sound : ℕ → List ℕ → Type 0) (least most : ℕ)
    (gives : ℕ → Value → Type 0) (f : List ℕ) : Type 0 where
  pub is_sound : sound entry.fixed.kind f
  pub backed : (entry.fixed.means f).backed ≡ (entry.fixed.means entry_file).backed
  pub size : least ≤ (entry.fixed.means f).size
  pub no_longer : IsTrue entry.fixed.exact → (entry.fixed.means f).size ≤ most
  pub shows : (p : ℕ) → p < (entry.fixed.means f).size → p < entry.size
      → May below entry entry_file gives p (shown below entry.fixed.means f p)

-- The crash images of a call, seen from its entry, if the size of the disk stays between `least` and `most`.
abbrev pub KeepsCrashImagesTo : {D St : Type 0} → Ghosts D St → List Layer → (least most : ℕ) → (ℕ → Value → Type 0) → D → D → Type 0
KeepsCrashImagesTo g below least most gives old new =
    UnrefusedCrashImages (Left below (g.layer old) (g.image old).bytes g.sound least most gives) (g.image old) (g.image new)

-- Like `KeepsCrashImagesTo`, for a call that doesn't resize the disk.
abbrev pub KeepsCrashImages : {D St : Type 0} → Ghosts D St → List Layer → (ℕ → Value → Type 0) → D → D → Type 0
KeepsCrashImages g below gives old new = KeepsCrashImagesTo g below (g.layer old).size (g.layer old).size gives old new

-- The call made no request that changes the file: the file and its crash images are unchanged.
abbrev pub MakesNone : StorageState → StorageState → Type 0
MakesNone old new = (new.crash_image ≡ old.crash_image) × (new.past_crash_images ≡ old.past_crash_images) × (new.bytes ≡ old.bytes) × (new.refusals ≡ old.refusals)

-- Values that calls may give to a byte. Here: none.
abbrev pub GivesNone : ℕ → Value → Type 0
GivesNone p v = ⊥

-- The bytes that are written from `offset` on.
abbrev pub GivesBytes : ℕ → List ℕ → ℕ → Value → Type 0
GivesBytes offset bytes p v = (i : ℕ) × (i < length bytes) × (p ≡ offset + i) × (v ≡ byte (slice_index bytes i))

-- Zeroes in a range.
abbrev pub GivesZero : ℕ → ℕ → ℕ → Value → Type 0
GivesZero offset n p v = IsIn offset n p × (v ≡ byte 0)

-- Any byte in a range.
abbrev pub GivesAny : ℕ → ℕ → ℕ → Value → Type 0
GivesAny offset n p v = IsIn offset n p × IsByte v

-- The values of the layers below in a range.
abbrev pub GivesBelow : List Layer → ℕ → ℕ → ℕ → Value → Type 0
GivesBelow below offset n p v = IsIn offset n p × (v ≡ at below p)

-- Any value from offset `size` on.
abbrev pub GivesPast : ℕ → ℕ → Value → Type 0
GivesPast size p v = size ≤ p

-- The values of the layers below from offset `size` on.
abbrev pub GivesBelowPast : List Layer → ℕ → ℕ → Value → Type 0
GivesBelowPast below size p v = (size ≤ p) × (v ≡ at below p)

-- The value of the byte after a commit of the prepared mapping (a run that is written and not yet committed).
abbrev pub GivesSettled : List Layer → Layer → ℕ → Value → Type 0
GivesSettled below layer p v = (c : Cell) × CommitsPlace (layer.held p) (layer.cell p) c × (v ≡ through c (at below p))

-- The byte that was written to a byte of a prepared mapping. If none was written, but the caller promised to write all, any byte.
abbrev pub MayTake : Held → Value → Type 0
MayTake (inside copied (Some b) announced) v = v ≡ byte b
MayTake (inside copied None true) v = IsByte v
MayTake held v = ⊥

abbrev pub GivesHeld : Layer → ℕ → Value → Type 0
GivesHeld layer p v = MayTake (layer.held p) v

-- The values that an ensured mapping may give in its range: any byte if the caller promised to write all, and none otherwise.
abbrev pub GivesAnnounced : Bool → ℕ → ℕ → ℕ → Value → Type 0
GivesAnnounced true offset n = GivesAny offset n
GivesAnnounced false offset n = GivesNone

-- The file by itself says what each byte of the image is. It may be longer than the disk, as writes are padded to whole units, unless the
-- format states the disk's size.
pub record IsMeant (layer : Layer) (f : List ℕ) : Type 0 where
  pub size : layer.size ≤ (layer.fixed.means f).size
  pub exactly : IsTrue layer.fixed.exact → (layer.fixed.means f).size ≡ layer.size
  pub cell : (p : ℕ) → p < layer.size → (layer.fixed.means f).cell p ≡ layer.cell p

-- The image file of a driver by itself says what each byte of the image is.
abbrev pub IsWritten : {D St : Type 0} → Ghosts D St → D → Type 0
IsWritten g d = IsMeant (g.layer d) (g.image d).bytes

-- No cluster is pending (allocated and not yet linked, or on the free list): the excess refcount of each cluster is what leaks in the file.
abbrev pub IsCounted : {D St : Type 0} → Ghosts D St → D → Type 0
IsCounted g d = (c : ℕ) → g.excess_refcount d c ≡ (g.layer d).fixed.leaks (g.image d).bytes c

-- The file is consistent, and not shorter than the disk.
pub record IsCovered (layer : Layer) (sound : ℕ → List ℕ → Type 0) (f : List ℕ) : Type 0 where
  pub is_sound : sound layer.fixed.kind f
  pub size : layer.size ≤ (layer.fixed.means f).size
