use Rattle.std.proofs.Common.{◌∙◌, ap, arith, map}
use Rattle.std.specs.String.{string_bytes}
use Rattle.qimg_chain.proofs.Snapshots.{name_pushed, names_all}
use Rattle.qimg_chain.proofs.chain.snapshots.names_in.Goals as goal

pub loop-index-preserved : goal.loop-index-preserved
loop-index-preserved g c =
    ap (λ items. map string_bytes items) c.in_ok-push.ensures.items
    ∙ name_pushed c.loop-index.names.items c.in_ok-to_string.field-0 (g.D.NamesFiles.names c.args.driver.now) (g.D.DriverModel.extras c.args.driver.now) c.loop-index.index
    c.loop-index.invariant (omega (arith, c.loop-index-test.true, c.extra_count-index-end.ensures)) (c.in_ok-to_string.ensures.ok ∙ c.extra_name.ensures)

pub returns-clause-ok : goal.returns-clause-ok
returns-clause-ok g c =
    let all = c.loop-index.invariant ∙ names_all (g.D.NamesFiles.names c.args.driver.now) (g.D.DriverModel.extras c.args.driver.now) c.loop-index.index
    (omega (arith, c.extra_count-index-end.ensures, c.loop-index-test.false)) in
    λ i. record { format = c.format.ensures i; further = all i }
