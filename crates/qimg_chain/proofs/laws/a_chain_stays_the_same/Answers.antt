use Rattle.qimg_calls.proofs.SameChains.{same-chain, same-chain-both}
use Rattle.qimg_chain.proofs.laws.a_chain_stays_the_same.Goals as goal

pub returns-clause-same : goal.returns-clause-same
returns-clause-same g c = same-chain g.D.DriverModel

pub returns-clause-again : goal.returns-clause-again
returns-clause-again g c a b d repairs commits repairs_too commits_too =
    same-chain-both g.D.DriverModel repairs commits repairs_too commits_too a b d
