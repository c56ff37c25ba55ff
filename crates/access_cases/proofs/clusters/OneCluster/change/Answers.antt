use Rattle.std.proofs.Common.{refl, arith}
use Rattle.access_cases.specs.Homes.{some_cluster}
use Rattle.access_cases.proofs.Declining.{does_nothing}
use Rattle.access_cases.proofs.clusters.OneCluster.change.Goals as goal

pub returns-in-Err-clause-does : goal.returns-in-Err-clause-does
returns-in-Err-clause-does g c = λ call. does_nothing _ call _ _ c.args.self.now _ (some_cluster c.args.self.now.size) tt

pub returns-then-length-eq0-clause-does : goal.returns-then-length-eq0-clause-does
returns-then-length-eq0-clause-does g c = λ call. does_nothing _ call _ _ c.args.self.now _ (some_cluster c.args.self.now.size) (refl, omega arith)

pub returns-clause-does : goal.returns-clause-does
returns-clause-does g c = λ call. does_nothing _ call _ _ c.args.self.now _ (some_cluster c.args.self.now.size) tt
