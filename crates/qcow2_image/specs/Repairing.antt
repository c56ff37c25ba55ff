-- Specifies how an image lowers refcounts that are too high. Each pair is a cluster and what its refcount is lowered by.
use Rattle.std.specs.Prelude.{◌≡◌, ℕ, ◌+◌, ◌≤◌, [], List, length, take, Result, Err, OnOk, IfErr, IsTrue, IsFalse, IsSome, false, true}
use Rattle.imago_storage.specs.declared.fault.Fault.{Fault}
use Rattle.imago_storage.specs.declared.fault.Fault.TheVariants.{Failed, ReadOnly}
use Rattle.imago_storage.specs.declared.storage.Storage.{Ghosts}
use Rattle.imago_access.specs.Files.{HadNoResourceError}
use Rattle.qcow2_alloc.specs.Causes.{Causes, HasCause}
use Rattle.qcow2_clusters.specs.Freeing.{releasing_causes}
use Rattle.qcow2_clusters.specs.Lowering.{ArePositive, lowered_in}
use Rattle.qcow2_clusters.specs.Storing.{storing_causes}
use Rattle.qcow2_image.specs.Allocating.{failed_by_resource_error}
use Rattle.qcow2_image.specs.KeepsDisk.{KeepsDiskWhere}
use Rattle.qcow2_image.specs.Leaking.{counts_in, excess_refcount_of, leaks_of, names_in, pending}
use Rattle.qcow2_image.specs.Preparing.{LeavesMarkedFailed}
use Rattle.qcow2_image.specs.Rooms.{IsWellFormed, IsUntouched}
use Rattle.qcow2_image.specs.declared.qcow2.Qcow2.{Qcow2}

-- The image is well-formed, and the excess refcount of each cluster is at least what the pairs lower its refcount by.
pub record HasExcessFor {S : Type 0} (g : Ghosts S) (pairs : List (ℕ × ℕ)) (d : Qcow2 S g) : Type 0 where
  pub well_formed : IsWellFormed g d
  pub excess : (c : ℕ) → lowered_in pairs c ≤ excess_refcount_of g d c

-- The refcounts of the pairs are lowered, from the first on. `part` pairs were lowered, which are all on success. If each cluster had the
-- excess, the disk is unchanged, in crash images, too, and each excess refcount falls by what the lowered pairs lower its refcount by. What is
-- pending stays the same in any case.
pub record LowersPairs {S : Type 0} (g : Ghosts S) (pairs : List (ℕ × ℕ)) (old : Qcow2 S g) (result : Result Unit Fault) (new : Qcow2 S g)
    : Type 0 where
  pub part : ℕ
  pub whole : OnOk result (part ≡ length pairs)
  pub keeps : KeepsDiskWhere g (HasExcessFor g pairs old) (HadNoResourceError result) old new
  pub leaks : HasExcessFor g pairs old → HadNoResourceError result → (c : ℕ)
      → counts_in g new c + names_in g old c + pending g old c + lowered_in (take part pairs) c
      ≡ counts_in g old c + names_in g new c + pending g new c
  pub idle : IsUntouched g old → IsUntouched g new
  pub header : new.tables.file.header ≡ old.tables.file.header
  pub marks_failed : new.failed ≡ failed_by_resource_error result true old.failed
  pub cause : IfErr result (HasCause (releasing_causes (HasExcessFor g pairs old × ArePositive pairs × IsSome old.tables.space)
      (g.state old.tables.file.image).faults (g.state new.tables.file.image).faults))

-- The causes for which refcounts aren't lowered. If each cluster has the excess and each pair lowers a refcount, these are resource errors.
abbrev pub lowering_causes : {S : Type 0} (g : Ghosts S) → List (ℕ × ℕ) → Qcow2 S g → Qcow2 S g → Causes
lowering_causes g pairs old new = storing_causes (HasExcessFor g pairs old × ArePositive pairs) (λ number. ⊥)
    (g.state old.tables.file.image).faults (g.state new.tables.file.image).faults

-- The reasons why refcounts aren't lowered: the image has failed or is read-only, or one of `lowering_causes`.
abbrev pub WhyNotLowered : {S : Type 0} (g : Ghosts S) → List (ℕ × ℕ) → Qcow2 S g → Qcow2 S g → Fault → Type 0
WhyNotLowered g pairs old new Failed = IsTrue old.failed
WhyNotLowered g pairs old new ReadOnly = (old.failed ≡ false) × IsFalse old.mode.writable
WhyNotLowered g pairs old new fault = HasCause (lowering_causes g pairs old new) fault

-- Like `LowersPairs`, but the free space is loaded if need be, and a failed or read-only image is refused before anything is done. If the
-- pairs are the leaks of the file and nothing is pending, no cluster leaks after success.
pub record LowersCounts {S : Type 0} (g : Ghosts S) (pairs : List (ℕ × ℕ)) (old : Qcow2 S g) (result : Result Unit Fault) (new : Qcow2 S g)
    : Type 0 where
  pub part : ℕ
  pub whole : OnOk result (part ≡ length pairs)
  pub keeps : KeepsDiskWhere g (HasExcessFor g pairs old) (HadNoResourceError result) old new
  pub excess : HasExcessFor g pairs old → HadNoResourceError result
      → (c : ℕ) → excess_refcount_of g new c + lowered_in (take part pairs) c ≡ excess_refcount_of g old c
  pub repaired : IsWellFormed g old → IsUntouched g old → pairs ≡ leaks_of g old → OnOk result (leaks_of g new ≡ [])
  pub idle : IsUntouched g old → IsUntouched g new
  pub header : new.tables.file.header ≡ old.tables.file.header
  pub failed : IsTrue old.failed → (result ≡ Err Failed) × (new ≡ old)
  pub read_only : old.failed ≡ false → IsFalse old.mode.writable → (result ≡ Err ReadOnly) × (new ≡ old)
  pub marked : IfErr result (LeavesMarkedFailed g old new)
  pub cause : IfErr result (WhyNotLowered g pairs old new)
