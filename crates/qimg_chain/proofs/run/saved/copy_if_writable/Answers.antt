use Rattle.std.proofs.Common.{◌∙◌, ap, sym}
use Rattle.imago_storage.specs.State.{StorageState}
use Rattle.qimg_chain.proofs.Sessions.Saved.{none-read-only, some-writable}
use Rattle.qimg_chain.proofs.run.saved.copy_if_writable.Goals as goal

pub returns-then-not-writable-clause-ok : goal.returns-then-not-writable-clause-ok
returns-then-not-writable-clause-ok g c =
    let same = ap (λ d. (g.D.DriverModel.layer d).fixed.writable) (sym c.inner-driver.ensures) in
    none-read-only g.D.DriverModel c.args.chain.now (same ∙ (sym c.writable.ensures ∙ c.if-not-writable.true))

pub returns-clause-ok : goal.returns-clause-ok
returns-clause-ok g c =
    let same = ap (λ d. (g.D.DriverModel.layer d).fixed.writable) (sym c.inner-driver.ensures) in
    let state = ap (λ (s : StorageState). s.bytes) c.image_file.ensures in
    let held = state ∙ ap (λ d. (g.D.DriverModel.image d).bytes) c.inner-driver.ensures in
    some-writable g.D.DriverModel c.args.chain.now c.in_ok-bytes.bytes.items
    (same ∙ (sym c.writable.ensures ∙ c.if-not-writable.false)) (c.in_ok-bytes.ensures.ok ∙ held)
