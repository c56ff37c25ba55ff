-- Lemmas that no call after a preparation makes the image file shorter.
use Rattle.std.proofs.Common.{◌≡◌, ℕ, arith, ap, inl, inr, List, Result, Option}
use Rattle.imago_storage.specs.State.{StorageState}
use Rattle.imago_storage.specs.Calls.{UnchangedButFaults}
use Rattle.imago_storage.specs.Through.{WriteOutcome}
use Rattle.imago_storage.specs.declared.fault.Fault.{Fault}
use Rattle.imago_storage.specs.declared.storage.Storage.{Ghosts}
use Rattle.imago_access.specs.declared.mapping.PreparedDataMapping.{PreparedDataMapping}
use Rattle.qcow2_alloc.specs.Going.{IsNoShorter}
use Rattle.qcow2_alloc.proofs.Caching.FileLengths.{kept-long, put-long, same-long}
use Rattle.qcow2_image.specs.Committing.{CommitsUnspent}
use Rattle.qcow2_image.specs.Steps.{KeepsImage}
use Rattle.qcow2_image.specs.declared.qcow2.PreparedMappingState.{PreparedMappingState}
use Rattle.qcow2_image.specs.declared.qcow2.Qcow2.{Qcow2}

module _ {S : Type 0} (g : Ghosts S) where
  abbrev IsLong : Qcow2 S g → Qcow2 S g → Type 0
  IsLong old new = IsNoShorter (g.state old.tables.file.image) (g.state new.tables.file.image)

  pub asked-long : (old new : Qcow2 S g) (t : StorageState) → UnchangedButFaults (g.state old.tables.file.image) t → g.state new.tables.file.image ≡ t
      → IsLong old new
  asked-long old new t kept is =
      let first = kept-long (g.state old.tables.file.image) t kept in
      let second = same-long t (g.state new.tables.file.image) is in
      omega (arith, first, second)

  pub looked-long : {T : Type 0} (old new : Qcow2 S g) (result : Result T Fault) → KeepsImage g old result new → IsLong old new
  looked-long old new result k = kept-long (g.state old.tables.file.image) (g.state new.tables.file.image) k.tables.unchanged_but_faults

  -- A write after a lookup doesn't.
  pub written-long : {T : Type 0} (old mid new : Qcow2 S g) (looked : Result T Fault) (place : ℕ) (bytes : List ℕ) (result : Result Unit Fault)
      → KeepsImage g old looked mid → WriteOutcome (g.state mid.tables.file.image) (g.state new.tables.file.image) place bytes result → IsLong old new
  written-long old mid new looked place bytes result k put =
      let first = looked-long old mid looked k in
      let second = put-long (g.state mid.tables.file.image) (g.state new.tables.file.image) place bytes result put in
      omega (arith, first, second)

  pub committed-long : (mapping_id : ℕ) (old : Qcow2 S g) (result : Result Unit (Fault × Option (PreparedDataMapping PreparedMappingState)))
      (new : Qcow2 S g) → CommitsUnspent g mapping_id old result new → IsLong old new
  committed-long mapping_id old result new (inl (other, answer, same)) =
      same-long (g.state old.tables.file.image) (g.state new.tables.file.image) (ap (λ (d : Qcow2 S g). g.state d.tables.file.image) same)
  committed-long mapping_id old result new (inr spends) = spends.names.no_shorter
