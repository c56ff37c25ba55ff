use Rattle.std.proofs.Common.{◌≡◌, true, false}
use Rattle.imago_storage.specs.declared.fault.Fault.TheVariants.{BadArgument, Failed}
use Rattle.qimg_calls.specs.CommittingDown.{next_is_prepared}
use Rattle.std.specs.Prelude.{map}
use Rattle.qimg_calls.proofs.CommittedDown.{commit-makes, early-makes, first-failed, first-prepared, not-early}
use Rattle.qimg_calls.proofs.making.changing.commit_down.Goals as goal

pub returns-then-failed : goal.returns-then-failed
returns-then-failed g c =
    let d = g.D.DriverModel in
    let old = c.args.chain.now in
    let failed : (d.layer old.0).failed ≡ true = cc (c.inner.ensures, c.failed.ensures, c.if-failed.true) in
    early-makes d Failed old (first-failed (d.layer old.0) (map d.layer old.1) failed) (λ is. cc is)

pub returns-then-next_is_prepared : goal.returns-then-next_is_prepared
returns-then-next_is_prepared g c =
    let d = g.D.DriverModel in
    let old = c.args.chain.now in
    let failed : (d.layer old.0).failed ≡ false = cc (c.inner.ensures, c.failed.ensures, c.if-failed.false) in
    let prepared : next_is_prepared (map d.layer old.1) ≡ true = cc (c.next_is_prepared.ensures, c.if-next_is_prepared.true) in
    early-makes d BadArgument old (first-prepared (d.layer old.0) (map d.layer old.1) failed prepared) (λ is. cc is)

pub returns : goal.returns
returns g c =
    let d = g.D.DriverModel in
    let old = c.args.chain.now in
    let new = c.commit_down.new.self in
    let e = c.commit_down.ensures in
    let failed : (d.layer old.0).failed ≡ false = cc (c.inner.ensures, c.failed.ensures, c.if-failed.false) in
    let prepared : next_is_prepared (map d.layer old.1) ≡ false = cc (c.next_is_prepared.ensures, c.if-next_is_prepared.false) in
    rw (c.told.ensures) (commit-makes d g.met.D.FormatDriverInstance.well_formed_is_usable c.commit_down.result old new e.does (not-early (d.layer old.0) (map d.layer old.1) failed prepared) e.early_outcome e.failed e.marks_failed e.cause)
