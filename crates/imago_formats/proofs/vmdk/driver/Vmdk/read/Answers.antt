use Rattle.std.proofs.Common.{arith, refl}
use Rattle.imago_formats.proofs.VmdkSteps.{kept_back}
use Rattle.imago_formats.proofs.vmdk.driver.Vmdk.read.Goals as goal

pub returns-clause-keeps : goal.returns-clause-keeps
returns-clause-keeps g c =
    let r = c.args.self.now in
    let kept = kept_back g.S.Storage.state r.disk.extents.items r.image c.read_storage.new.image r.files.items c.read_storage.new.files r.files.len
    (omega (arith, c.read_storage.auto.files, c.deref_mut.ensures.len)) (rw c.deref_mut.ensures.value at c.read_storage.ensures.unchanged_but_faults) in record {
      layer = kept.layer;
      unchanged_but_faults = kept.kept;
      coherent = kept.coherent;
      safely = λ well_formed. (kept.keeps well_formed.0, kept.coherent well_formed.1, kept.said well_formed.2);
      stilled = λ s. s;
      stays_stable = λ l. l;
      excess_refcount = λ well_formed c. refl;
    }
