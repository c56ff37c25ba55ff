-- Lemmas on reads of the image file itself.
use Rattle.std.proofs.Common.{◌≡◌, refl, Result, Err}
use Rattle.std.specs.Borrow.{RattleType}
use Rattle.imago_storage.specs.Calls.{UnchangedButFaults, CountsNotFallen, IsFaultless}
use Rattle.imago_storage.specs.declared.fault.Fault.{Fault}
use Rattle.imago_storage.specs.declared.fault.Fault.TheVariants.{Memory}
use Rattle.imago_storage.specs.declared.storage.Storage.{Ghosts}
use Rattle.imago_access.specs.FileReads.{FilesRead}
use Rattle.qcow2_image.specs.Steps.{KeepsImage}
use Rattle.qcow2_image.specs.contracts.qcow2.Qcow2DriverModel.TheImpl.{ghosts}
use Rattle.qcow2_image.specs.declared.qcow2.Qcow2.{Qcow2}
use Rattle.qcow2_image.proofs.RequestsWithoutChanges.{asked-keeps}
use Rattle.qcow2_image.proofs.Steps.{layer-same, spared}
use Rattle.qcow2_image.proofs.LeaksByFile.{leaks-kept, surplus-kept}

-- A request that only reads changes only the fault count. It never sets the image to failed.
pub file-read : (R : RattleType) (st : Ghosts R.Denot) (sd : mir.Syntax.Dict) (dd : mir.Syntax.Dict) (old new : Qcow2 R.Denot st) (whole : Type 0)
    → UnchangedButFaults (st.state old.tables.file.image) (st.state new.tables.file.image) → CountsNotFallen (st.state old.tables.file.image) (st.state new.tables.file.image)
    → (whole → IsFaultless (st.state old.tables.file.image) (st.state new.tables.file.image))
    → new.tables.file.header ≡ old.tables.file.header → new.tables.l1 ≡ old.tables.l1 → new.tables.caches ≡ old.tables.caches → new.tables.space ≡ old.tables.space
    → new.mode ≡ old.mode → new.number ≡ old.number → new.unspent ≡ old.unspent → new.failed ≡ old.failed → FilesRead (ghosts R st sd dd) whole old new
file-read R st sd dd old new whole kept later faults header l1 caches space mode number unspent failed =
    let wanting : Result Unit Fault = Err Memory in
    let keeps : KeepsImage st old wanting new = asked-keeps st old new (st.state new.tables.file.image) wanting kept later (λ cut. absurd cut) refl header l1 caches space mode number unspent failed in
    let all = spared R st sd dd {T = Unit} old new wanting keeps failed in
    record {
      layer = layer-same R st sd dd {T = Unit} old new wanting keeps failed;
      unchanged_but_faults = all.unchanged_but_faults;
      faults = λ w. (faults w, tt);
      seen = λ seen. (all.known.seen seen).1;
      safely = all.known.safely;
      stilled = all.stilled;
      stays_stable = λ l. l;
      excess_refcount = λ well_formed. surplus-kept st old new (leaks-kept st {T = Unit} old new wanting keeps);
      room = all.room;
      stays_begun = all.stays_begun;
    }
