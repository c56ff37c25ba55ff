use Rattle.std.proofs.Common.{◌∙◌, ap}
use Rattle.imago_storage.specs.State.{StorageState}
use Rattle.qimg_chain.proofs.Sessions.Saved.{saved-files}
use Rattle.qimg_chain.proofs.run.opened.take_files.Goals as goal

pub returns-clause-ok : goal.returns-clause-ok
returns-clause-ok c =
    let state = c.into_image.ensures in
    let held = ap (λ (s : StorageState). s.bytes) (rw (c.into_driver.ensures) at state) in
    saved-files c.in_ok-top.top c.in_ok-below.below _ _ (c.in_ok-top.ensures.ok ∙ held) c.in_ok-below.ensures.ok
