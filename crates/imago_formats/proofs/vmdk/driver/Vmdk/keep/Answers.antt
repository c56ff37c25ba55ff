use Rattle.std.proofs.Common.{◌∷◌, arith, refl}
use Rattle.std.specs.Prelude.{map}
use Rattle.imago_access.proofs.FilePairs.{faultless_all_same}
use Rattle.imago_formats.proofs.Quiet.{at_once_handed, at_once_runs, keeps_same}
use Rattle.imago_formats.proofs.VmdkSteps.{kept_back}
use Rattle.imago_formats.proofs.vmdk.driver.Vmdk.keep.Goals as goal

pub returns-clause-keeps : goal.returns-clause-keeps
returns-clause-keeps g c =
    let r = c.args.self.now in
    let kept = kept_back g.S.Storage.state r.disk.extents.items r.image c.keep_up.new.image r.files.items c.keep_up.new.files r.files.len
    (omega (arith, c.keep_up.auto.files, c.deref_mut.ensures.len)) (rw c.deref_mut.ensures.value at c.keep_up.ensures.unchanged_but_faults) in record {
      layer = kept.layer;
      unchanged_but_faults = kept.kept;
      coherent = kept.coherent;
      safely = λ well_formed. (kept.keeps well_formed.0, kept.coherent well_formed.1, kept.said well_formed.2);
      stilled = λ s. s;
      stays_stable = λ l. l;
      excess_refcount = λ well_formed c. refl;
    }

pub returns-in_err-ready-clause-keeps : goal.returns-in_err-ready-clause-keeps
returns-in_err-ready-clause-keeps g c = keeps_same _ c.args.self.now

pub returns-clause-early_outcome : goal.returns-clause-early_outcome
returns-clause-early_outcome g c = at_once_runs _ ⊥ c.keep_up.result c.args.self.now _ c.in_ok-ready.ensures.ok (λ none. absurd none)

pub returns-in_err-ready-clause-early_outcome : goal.returns-in_err-ready-clause-early_outcome
returns-in_err-ready-clause-early_outcome g c = at_once_handed _ ⊥ c.from_residual.result c.in_err-ready.field-0.0 c.args.self.now c.from_residual.ensures.1 c.in_err-ready.ensures.err

pub returns-in_err-ready-clause-whole : goal.returns-in_err-ready-clause-whole
returns-in_err-ready-clause-whole g c = λ whole. faultless_all_same (g.S.Storage.state c.args.self.now.image ∷ map g.S.Storage.state c.args.self.now.files.items)
