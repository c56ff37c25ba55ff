use Rattle.imago_storage.specs.Log.{log_state}
use Rattle.imago_storage.proofs.Replay.{log_begun}
use Rattle.imago_storage.proofs.log.LogStorage.new.Goals as goal

pub returns-clause-state : goal.returns-clause-state
unfolding log_state
returns-clause-state g c = log_begun _ _ _ _ c.in_ok-base.ensures.same c.in_ok-base.ensures.ok c.new.ensures.items
