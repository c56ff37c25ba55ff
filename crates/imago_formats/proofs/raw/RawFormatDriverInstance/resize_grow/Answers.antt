use Rattle.std.proofs.Common.{rules, refl}
use Rattle.std.specs.Prelude.{⊤}
use Rattle.imago_access.specs.Files.{HadNoResourceError}
use Rattle.imago_storage.proofs.Composing.{keeps_on}
use Rattle.imago_access.proofs.Answers.{handed_on}
use Rattle.imago_formats.proofs.RawSteps.{ungrown_faultless}
use Rattle.imago_access.proofs.Looking.{looked_under_same}
use Rattle.imago_formats.proofs.raw.RawFormatDriverInstance.resize_grow.Goals as goal

pub returns-then-size-self-clause-below : goal.returns-then-size-self-clause-below
returns-then-size-self-clause-below g c = looked_under_same g.B.LayersBelowModel ⊤ c.args._below.now

pub returns-then-not-self-clause-below : goal.returns-then-not-self-clause-below
returns-then-not-self-clause-below g c = looked_under_same g.B.LayersBelowModel ⊤ c.args._below.now

pub returns-clause-below : goal.returns-clause-below
returns-clause-below g c = looked_under_same g.B.LayersBelowModel ⊤ c.args._below.now

pub returns-in_err-grow_to-clause-below : goal.returns-in_err-grow_to-clause-below
returns-in_err-grow_to-clause-below g c = looked_under_same g.B.LayersBelowModel (HadNoResourceError c.from_residual.result) c.args._below.now

pub returns-in_err-grow_to-clause-grows : goal.returns-in_err-grow_to-clause-grows
returns-in_err-grow_to-clause-grows g c =
    let r = c.args.self.now in
    let old = g.S.Storage.state r.storage in
    let new = g.S.Storage.state c.grow_to.new.self.storage in
    let refused = c.in_err-grow_to.ensures.err in
    rw (handed_on _ _ c.from_residual.ensures.1) (record {
      ok = search rules;
      err = search rules;
      crash_images = search rules;
      mutating_call = record {
        fixed = search rules;
        failed = λ failed. failed;
        counts_not_fallen = ((c.grow_to.ensures.shape, c.grow_to.ensures.counts_not_fallen), tt);
        faults = λ not_resource_error. (ungrown_faultless old new r.size c.in_err-grow_to.field-0.0 refused not_resource_error, tt);
        safely = λ not_resource_error well_formed. (keeps_on old new c.grow_to.ensures.shape well_formed.0, rw c.in_err-grow_to.ensures.same_size_on_error (refused.long well_formed.1));
        stays_stable = λ stable. rw c.in_err-grow_to.ensures.same_size_on_error (refused.long stable);
        excess_refcount = λ whole well_formed c. refl;
      };
    })
