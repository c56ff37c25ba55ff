use Rattle.qimg_chain.proofs.FirstCauses.{none_of_chain}
use Rattle.qimg_chain.proofs.laws.a_chain_has_no_cause.Goals as goal

pub returns : goal.returns
returns g c = none_of_chain g.S.Storage.state
