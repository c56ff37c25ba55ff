-- The values that a byte of a disk or of its crash image may have: the one at the last flush, and those of calls begun since.
use Rattle.std.specs.Prelude.{◌≡◌, ◌⊎◌, ℕ, ◌<◌, ◌≤◌, Bool, min, max, true, false, Some, None, List, [], ◌∷◌, if◌then◌else◌, ltb, IsTrue}
use Rattle.imago_storage.specs.Disk.{Value, byte, Hold, held, Disk}
use Rattle.imago_storage.specs.declared.fault.Fault.TheVariants.{Memory, Storage}
use Rattle.imago_storage.specs.Steps.{Call, write, write_zeroes, discard_to_zero, discard_to_any, discard_to_backing, commit, ensure, write_mapped, grow, shrink, IsByte, IsIn}
use Rattle.imago_access.specs.Layer.{Meaning, through}
use Rattle.imago_access.specs.Stops.{GivesBytes, GivesZero, GivesAny, GivesPast}
use Rattle.qimg_calls.specs.declared.call.Call.{Call as CallMade}
use Rattle.qimg_calls.specs.declared.call.Call.TheVariants as calls
use Rattle.qimg_calls.specs.declared.call.Answer.{Answer}
use Rattle.qimg_calls.specs.declared.call.Answer.TheVariants as told

-- The way to read a file as the top of a chain: the values of the layers below, the meaning of each file, and the files that are consistent.
-- `exact` says that a file states the size of its disk, and `backed` that the top refers to a backing file.
pub record Reading : Type 1 where
  pub below : ℕ → Value
  pub means : List ℕ → Meaning
  pub sound : List ℕ → Type 0
  pub exact : Bool
  pub backed : Bool

-- The value at offset `p` of a file with this meaning, over layers with these values.
abbrev pub value_over : (ℕ → Value) → Meaning → ℕ → Value
value_over below meaning p = if ltb p meaning.size then through (meaning.cell p) (below p) else byte 0

-- A value that a commit may give to a held byte (one of a prepared mapping): the one written to it, or any byte if a write was announced.
abbrev pub MayTake : Hold → Value → Type 0
MayTake (held (Some b) announced) v = v ≡ byte b
MayTake (held None true) v = IsByte v
MayTake hold v = ⊥

-- The only values that a begun call may give to a byte, from the disk on which it began, over layers with these values. This includes calls
-- that fail. A discard to the backing file, and a shrink past its size, give the values of the layers below. A growth gives any value past
-- the old size.
abbrev pub Begun : (ℕ → Value) → Disk → Call → ℕ → Value → Type 0
Begun below disk (write offset bytes) = GivesBytes offset bytes
Begun below disk (write_mapped offset bytes) = GivesBytes offset bytes
Begun below disk (write_zeroes offset n) = GivesZero offset n
Begun below disk (discard_to_zero offset n) = GivesZero offset n
Begun below disk (discard_to_any offset n) = GivesAny offset n
Begun below disk (discard_to_backing offset n) = λ p v. IsIn offset n p × (v ≡ below p)
Begun below disk (commit state own) = λ p v. MayTake (disk.hold p) v
Begun below disk (ensure offset n true) = GivesAny offset n
Begun below disk (grow size fill) = GivesPast disk.size
Begun below disk (shrink size) = λ p v. (size ≤ p) × (v ≡ below p)
Begun below disk call = λ p v. ⊥

-- The smallest and the greatest size of the disk during the call.
abbrev pub least_size : Disk → Call → ℕ
least_size disk (shrink size) = min disk.size size
least_size disk call = disk.size

abbrev pub most_size : Disk → Call → ℕ
most_size disk (grow size fill) = max disk.size size
most_size disk call = disk.size

-- The disk at the last flush, and the calls begun since, each with the disk on which it began, the newest first. `smallest` is the smallest
-- size that the disk has had since the flush. `least` and `most` bound the sizes that a crash image may have.
pub record Since : Type 0 where
  pub size : ℕ
  pub smallest : ℕ
  pub least : ℕ
  pub most : ℕ
  pub value : ℕ → Value
  pub calls : List (Disk × Call)

-- One of the calls gives the value.
abbrev pub Given : (ℕ → Value) → List (Disk × Call) → ℕ → Value → Type 0
Given below [] p v = ⊥
Given below (b ∷ before) p v = Begun below b.0 b.1 p v ⊎ Given below before p v

-- The byte had the value at the last flush, or a call begun since gives it.
abbrev pub Shows : (ℕ → Value) → Since → ℕ → Value → Type 0
Shows below since p v = (v ≡ since.value p) ⊎ Given below since.calls p v

-- The state after a flush, after a call has begun, and once the disk has this size.
abbrev pub flushed : Disk → Since
flushed disk = record {
  size = disk.size;
  smallest = disk.size;
  least = disk.size;
  most = disk.size;
  value = disk.value;
  calls = [];
}

abbrev pub begun : Since → Disk → Call → Since
begun since disk call = record since {
  least = min since.least (least_size disk call);
  most = max since.most (most_size disk call);
  calls = (disk, call) ∷ since.calls;
}

abbrev pub at_size : Since → ℕ → Since
at_size since n = record since { smallest = min since.smallest n }

-- The state after a call, from the disk before it to the one after it. A successful flush starts again from the disk, unless a mapping with
-- something to commit is prepared. So does a repair of leaks, which ends with a flush. So does a commit to the layer below, which begins
-- with a flush, unless it fails early or with a resource error. `early` says that the call fails before anything is done.
abbrev pub since_next : CallMade → Answer → (prepared early : Bool) → Since → Disk → Call → Disk → Since
since_next calls.Flush told.Done false early since old does new = flushed new
since_next calls.RepairLeaks (told.Leaks pairs) false early since old does new = flushed new
since_next calls.CommitDown (told.Refused Memory) prepared early since old does new = at_size (begun since old does) new.size
since_next calls.CommitDown (told.Refused Storage) prepared early since old does new = at_size (begun since old does) new.size
since_next calls.CommitDown answer prepared false since old does new = flushed new
since_next call answer prepared early since old does new = at_size (begun since old does) new.size

-- A crash image is known below this offset, the size at the last flush. If a file doesn't state the size of its disk, its bytes past the end of
-- the disk are unspecified, so it is known only below the smallest size since.
abbrev pub known_to : Reading → Since → ℕ
known_to top since = if top.exact then since.size else since.smallest

-- A file that reads as it may since the last flush. It refers to a backing file exactly if the top does. Its disk has one of the sizes that
-- it may have; if a file states no size, it may be longer. Each offset below its size that is known reads as at that flush, or as a call
-- begun since gives it.
pub record ReadsSince (top : Reading) (since : Since) (f : List ℕ) : Type 0 where
  pub backed : (top.means f).backed ≡ top.backed
  pub long : since.least ≤ (top.means f).size
  pub short : IsTrue top.exact → (top.means f).size ≤ since.most
  pub shows : (p : ℕ) → p < (top.means f).size → p < known_to top since → Shows top.below since p (value_over top.below (top.means f) p)

-- A valid crash image: it is consistent, and reads as it may.
pub record LeftSince (top : Reading) (since : Since) (f : List ℕ) : Type 0 where
  pub is_sound : top.sound f
  pub reads : ReadsSince top since f

-- The state between two calls: the file and the disk only have values that `Shows` allows.
pub record IsSince (top : Reading) (bytes : List ℕ) (now : Disk) (since : Since) : Type 0 where
  pub smallest : since.smallest ≤ now.size
  pub bounded : since.smallest ≤ since.size
  pub file : ReadsSince top since bytes
  pub disk : (p : ℕ) → p < now.size → p < since.size → Shows top.below since p (now.value p)
