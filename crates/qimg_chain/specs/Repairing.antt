-- Specifies how the leaks of a qcow2 image are found before they are repaired.
use Rattle.std.specs.Prelude.{◌≡◌, ℕ, Result, Ok, Vec, IfOk, IfErr, OnOk, true}
use Rattle.std.specs.Global.{Global}
use Rattle.imago_storage.specs.Calls.{UnchangedButFaults}
use Rattle.imago_storage.specs.State.{HasRisen}
use Rattle.imago_storage.specs.declared.fault.Fault.{Fault}
use Rattle.imago_storage.specs.declared.fault.Fault.TheVariants.{DamagedTable, Memory, Storage}
use Rattle.imago_storage.specs.declared.storage.Storage.{Ghosts}
use Rattle.imago_access.specs.Files.{HadNoResourceError}
use Rattle.qcow2_metadata.specs.Loading.{file}
use Rattle.qcow2_types.specs.Consistency.{Consistent, IsVerdict}
use Rattle.qcow2_image.specs.Seen.{layer_of, with_image}
use Rattle.qcow2_image.specs.declared.qcow2.Qcow2.{Qcow2}

-- The reason why the leaks aren't listed: the storage fails and the image is set to failed, the file isn't consistent, or memory runs out.
abbrev pub WhyNotListed : {S : Type 0} (g : Ghosts S) → Qcow2 S g → Qcow2 S g → Fault → Type 0
WhyNotListed g old new Memory = (new ≡ with_image old new.tables.file.image)
    × ((g.state new.tables.file.image).faults ≡ (g.state old.tables.file.image).faults)
WhyNotListed g old new Storage = (layer_of g new ≡ record (layer_of g old) { failed = true })
    × HasRisen (g.state old.tables.file.image).faults (g.state new.tables.file.image).faults
WhyNotListed g old new DamagedTable = (new ≡ with_image old new.tables.file.image)
    × (Consistent (file (g.state old.tables.file.image)) → ⊥)
WhyNotListed g old new fault = ⊥

-- The leaks of the file are listed. Only the storage's fault count changes, and after `Storage` the image has failed. On success the file is
-- consistent, and the pairs are its leaks.
pub record ListsLeaks {S : Type 0} (g : Ghosts S) (old : Qcow2 S g) (result : Result (Vec (ℕ × ℕ) Global) Fault) (new : Qcow2 S g)
    : Type 0 where
  pub rest : OnOk result (new ≡ with_image old new.tables.file.image)
  pub unchanged_but_faults : UnchangedButFaults (g.state old.tables.file.image) (g.state new.tables.file.image)
  pub faults : HadNoResourceError result
      → (g.state new.tables.file.image).faults ≡ (g.state old.tables.file.image).faults
  pub verdict : IfOk result (λ pairs. IsVerdict (file (g.state old.tables.file.image)) (Ok pairs.items))
  pub cause : IfErr result (WhyNotListed g old new)
