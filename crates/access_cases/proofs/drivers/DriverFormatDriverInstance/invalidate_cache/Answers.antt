use Rattle.std.proofs.Common.{refl}
use Rattle.access_cases.specs.declared.drivers.Driver.TheVariants.{Words}
use Rattle.access_cases.specs.contracts.clusters.OneClusterDriverModel.TheImpl as cluster_seen
use Rattle.access_cases.specs.contracts.drivers.DriverDriverModel.TheImpl as driver_seen
use Rattle.access_cases.proofs.SeenAs.{at_once_as, marks_as}
use Rattle.access_cases.proofs.drivers.DriverFormatDriverInstance.invalidate_cache.Goals as goal

pub returns-in-Words-clause-early_outcome : goal.returns-in-Words-clause-early_outcome
returns-in-Words-clause-early_outcome g c = rw (c.in-Words.is) (at_once_as Words _ _ refl _ _ (λ x call begun. begun) _ _ _ c.invalidate_cache-in-Words.ensures.early_outcome)

pub returns-in-Words-clause-marks_failed : goal.returns-in-Words-clause-marks_failed
returns-in-Words-clause-marks_failed g c = rw (c.in-Words.is)
    (marks_as Words (driver_seen.ghosts g.row.S g.S.Storage g.S.Storage-dict g.S.Destruct-dict) (cluster_seen.ghosts g.row.S g.S.Storage g.S.Storage-dict g.S.Destruct-dict) refl
    c.in-Words.words c.invalidate_cache-in-Words.new.self (λ x call begun. begun) c.invalidate_cache-in-Words.result c.invalidate_cache-in-Words.ensures.marks_failed)
