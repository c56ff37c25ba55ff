use Rattle.std.proofs.Common.{sym, subst, ◌∙◌, Option}
use Rattle.imago_access.specs.PreparingCalls.{Commits}
use Rattle.qcow2_image.specs.declared.qcow2.PreparedMappingState.{PreparedMappingState}
use Rattle.qcow2_image.specs.contracts.qcow2.Qcow2DriverModel.TheImpl.{ghosts}
use Rattle.qcow2_image.proofs.Lengths.{committed-long}
use Rattle.qcow2_image.proofs.CommitsAndCancels.{commits-by, refused-by}
use Rattle.qcow2_image.proofs.LeakChanges.CommitLeaks.{commit-leaks}
use Rattle.qcow2_image.proofs.drivers.Qcow2FormatDriverInstance.commit_data_mapping.Goals as goal

pub returns-in-Ok-clause-commits : goal.returns-in-Ok-clause-commits
returns-in-Ok-clause-commits g c =
    subst (λ (o : Option PreparedMappingState). Commits (ghosts g.row.S g.S.Storage g.S.Storage-dict g.S.Destruct-dict) o c.commit_unspent.result
    c.args.self.now c.commit_unspent.new.self) (sym c.in-Some.is ∙ c.into_state.ensures)
    (commits-by g.row.S g.S.Storage g.S.Storage-dict g.S.Destruct-dict c.in-Some.state c.args.self.now c.commit_unspent.new.self c.in-Ok.ensures.own
    c.commit_unspent.result c.commit_unspent.ensures)

pub returns-in-Ok-clause-refused : goal.returns-in-Ok-clause-refused
returns-in-Ok-clause-refused g c =
    refused-by g.row.S g.S.Storage g.S.Storage-dict g.S.Destruct-dict c.in-Some.state c.args.self.now c.commit_unspent.new.self c.in-Ok.ensures.own
    c.args.mapping (sym c.into_state.ensures ∙ c.in-Some.is) c.in-Ok.ensures.ok c.commit_unspent.result c.commit_unspent.ensures

pub returns-in-Ok-clause-leaks : goal.returns-in-Ok-clause-leaks
returns-in-Ok-clause-leaks g c =
    commit-leaks g.S.Storage c.in-Some.state.mapping_id c.args.self.now c.commit_unspent.new.self c.commit_unspent.result c.commit_unspent.ensures

pub returns-in-Ok-clause-no_shorter : goal.returns-in-Ok-clause-no_shorter
returns-in-Ok-clause-no_shorter g c =
    committed-long g.S.Storage c.in-Some.state.mapping_id c.args.self.now c.commit_unspent.result c.commit_unspent.new.self c.commit_unspent.ensures
