-- Specifies the effect of a call on an image whose storage keeps what is written: the image after it, and the crash
-- images of the call (the file after a crash between two requests).
use Rattle.std.specs.Prelude.{◌≡◌, ◌⊎◌, ◌+◌, ℕ, Option, IsTrue}
use Rattle.imago_storage.specs.State.{StorageState}
use Rattle.imago_storage.specs.Calls.{CountsNotFallen}
use Rattle.imago_storage.specs.Disk.{Value}
use Rattle.imago_storage.specs.Passing.{UnrefusedCrashImages}
use Rattle.qcow2_types.specs.Bytes.{bytes_of}
use Rattle.qcow2_types.specs.Header.{Header}
use Rattle.qcow2_alloc.specs.GuestView.{Metadata, IsSound}
use Rattle.qcow2_steps.specs.Advancing.{Advances, MayBeCrashImage}

-- The allowed effect of a call: the new values of guest bytes, the written bytes, the guest clusters with set entries,
-- and what is added to and taken from the excess refcount of each cluster (refcount minus references and list entries).
pub record Kind : Type 1 where
  pub gives : ℕ → Option Value → Type 0
  pub written : ℕ → Type 0
  pub set : ℕ → Type 0
  pub excess_added : ℕ → ℕ
  pub taken : ℕ → ℕ

-- The kind of a call that changes only excess refcounts. They grow if clusters are allocated, or aren't referenced any
-- more. Clusters are taken if they become referenced, pending or free.
abbrev pub handing : (handed taken : ℕ → ℕ) → Kind
handing handed taken = record { gives = λ p v. ⊥; written = λ q. ⊥; set = λ guest. ⊥; excess_added = handed; taken = taken }

-- The kind of two calls, one after another.
abbrev pub both : Kind → Kind → Kind
both first second = record {
  gives = λ p v. first.gives p v ⊎ second.gives p v;
  written = λ q. first.written q ⊎ second.written q;
  set = λ guest. first.set guest ⊎ second.set guest;
  excess_added = λ c. first.excess_added c + second.excess_added c;
  taken = λ c. first.taken c + second.taken c;
}

-- If `ok` holds, the image changes as this kind allows. Each crash image of the call is one that this kind allows.
pub record Progresses (ok : Type 0) (kind : Kind) (old : StorageState) (m : Metadata) (new : StorageState) (m' : Metadata) : Type 0 where
  pub shape : new.shape ≡ old.shape
  pub counts_not_fallen : CountsNotFallen old new
  pub passes : IsTrue old.shape.keeps → IsSound m → UnrefusedCrashImages (λ x. (H : Header) × MayBeCrashImage kind.gives m (bytes_of x) H) old new
  pub holds : IsTrue old.shape.keeps → IsSound m → ok → Advances kind.gives kind.written kind.set kind.excess_added kind.taken m m'
