use Rattle.std.proofs.Common.{subst, sym}
use Rattle.qimg_calls.specs.Runs.{AllGoOn}
use Rattle.host_disk.proofs.OnFiles.{on-files}
use Rattle.host_disk.proofs.attempt.attempt.Goals as goal

pub returns : goal.returns
returns g c =
    on-files g.H.HostFile _ _ c.args.writable c.args.number c.args.layers.now c.in-Ok.files.items c.args.calls.now _ c.in-Ok-answers.answers
    c.in-Ok-drive_unchecked.driven.0 c.into_driver.result _ _ c.into_requests.result.items _ _
    c.in-Ok.ensures.ok c.in-Ok-drive_unchecked.ensures.formed.0 c.in-Ok-drive_unchecked.ensures.headline c.in-Ok-answers.is
    (sym c.if-commits_down.ensures) (subst (λ items. AllGoOn items) c.deref.ensures.value c.in_default.ensures)
    c.into_driver.ensures c.into_image-image.ensures c.into_requests.ensures
