use Rattle.std.proofs.Common.{refl}
use Rattle.std.proofs.Math.Nat.{le_refl}
use Rattle.imago_access.proofs.Answers.{handed_on}
use Rattle.access_cases.specs.contracts.clusters.OneClusterDriverModel.TheImpl as seen
use Rattle.access_cases.proofs.Repairs.{file_says, none_refuses, reading_refuses, repair_refused, repaired_nothing, unusable_refuses}
use Rattle.access_cases.proofs.repairing.OneClusterRepairsLeaks.repair_leaks.Goals as goal

pub returns-in_err-ready : goal.returns-in_err-ready
returns-in_err-ready g c =
    let driver = seen.ghosts g.row.S g.S.Storage g.S.Storage-dict g.S.Destruct-dict in
    let d = c.args.self.now in
    rw (handed_on c.from_residual.result _ c.from_residual.ensures.1)
    (repair_refused driver d c.in_err-ready.field-0.0 (unusable_refuses (driver.layer d) c.in_err-ready.field-0.0 c.in_err-ready.ensures.err))

pub returns-then-not-self : goal.returns-then-not-self
returns-then-not-self g c =
    let driver = seen.ghosts g.row.S g.S.Storage g.S.Storage-dict g.S.Destruct-dict in
    let d = c.args.self.now in
    repair_refused driver d _ (reading_refuses (driver.layer d) c.in_ok-ready.ensures.ok refl c.if-not-self.true)

pub returns : goal.returns
returns g c =
    let driver = seen.ghosts g.row.S g.S.Storage g.S.Storage-dict g.S.Destruct-dict in
    let d = c.args.self.now in
    repaired_nothing driver d c.new.result c.new.ensures.items (none_refuses (driver.layer d) c.in_ok-ready.ensures.ok refl c.if-not-self.false)
    (λ cluster. refl)
    (λ well_formed. record {
      size = le_refl d.size;
      exactly = λ exact. absurd (cc exact);
      cell = λ p inside. file_says d.content d.size d.backed _ p well_formed.fits inside;
    })
    (λ well_formed cluster. refl)
