use Rattle.std.proofs.Common.{refl}
use Rattle.imago_access.proofs.Answers.{handed_on}
use Rattle.access_cases.specs.declared.drivers.Driver.TheVariants.{Raw, Words}
use Rattle.access_cases.specs.contracts.clusters.OneClusterDriverModel.TheImpl as cluster_seen
use Rattle.access_cases.specs.contracts.drivers.DriverDriverModel.TheImpl as driver_seen
use Rattle.access_cases.proofs.Repairs.{format_refuses, repair_refused, unusable_refuses}
use Rattle.access_cases.proofs.SeenAs.{repairs_as}
use Rattle.access_cases.proofs.repairing.DriverRepairsLeaks.repair_leaks.Goals as goal

pub returns-in_err-ready-in-Raw : goal.returns-in_err-ready-in-Raw
returns-in_err-ready-in-Raw g c =
    let driver = driver_seen.ghosts g.row.S g.S.Storage g.S.Storage-dict g.S.Destruct-dict in
    let d = Raw c.in-Raw.raw in
    rw (c.in-Raw.is, handed_on c.from_residual.result _ c.from_residual.ensures.1)
    (repair_refused driver d c.in_err-ready-in-Raw.field-0.0 (unusable_refuses (driver.layer d) c.in_err-ready-in-Raw.field-0.0 c.in_err-ready-in-Raw.ensures.err))

pub returns-in_ok-ready-in-Raw : goal.returns-in_ok-ready-in-Raw
returns-in_ok-ready-in-Raw g c =
    let driver = driver_seen.ghosts g.row.S g.S.Storage g.S.Storage-dict g.S.Destruct-dict in
    let d = Raw c.in-Raw.raw in
    rw (c.in-Raw.is) (repair_refused driver d _ (format_refuses (driver.layer d) c.in_ok-ready-in-Raw.ensures.ok refl))

pub returns-in-Words : goal.returns-in-Words
returns-in-Words g c =
    let driver = driver_seen.ghosts g.row.S g.S.Storage g.S.Storage-dict g.S.Destruct-dict in
    let cluster = cluster_seen.ghosts g.row.S g.S.Storage g.S.Storage-dict g.S.Destruct-dict in
    rw (c.in-Words.is)
    (repairs_as Words driver cluster refl c.in-Words.words c.repair_leaks.new.self (λ x call begun. begun) c.repair_leaks.result c.repair_leaks.ensures)
