use Rattle.std.proofs.Common.{sym, ◌∙◌, arith}
use Rattle.qcow2_image.proofs.CommitsAndCancels.{cancels-by}
use Rattle.qcow2_image.proofs.LeakChanges.CommitLeaks.{cancel-leaks}
use Rattle.qcow2_image.proofs.drivers.Qcow2FormatDriverInstance.cancel_data_mapping.Goals as goal

pub returns-else-state-self : goal.returns-else-state-self
returns-else-state-self g c = record {
  cancels = cancels-by g.row.S g.S.Storage g.S.Storage-dict g.S.Destruct-dict c.args.mapping c.in-Some.state
      (sym c.into_state.ensures ∙ c.in-Some.is) c.args.self.now c.cancel_unspent.new.self (let same = c.if-state-self.false in omega (arith, same))
      c.cancel_unspent.ensures;
  leaks = λ well_formed. cancel-leaks g.S.Storage c.in-Some.state.mapping_id c.args.self.now c.cancel_unspent.new.self c.cancel_unspent.ensures well_formed;
}
