use Rattle.imago_access.proofs.Answers.{handed_on}
use Rattle.imago_formats.proofs.FileLemmas.{same_state}
use Rattle.imago_formats.proofs.OpeningLemmas.{unread_unopened}
use Rattle.imago_formats.proofs.vmdk.driver.Vmdk.open_image.Goals as goal

pub returns-clause-image : goal.returns-clause-image
returns-clause-image g c = same_state (g.S.Storage.state c.args.image) (g.S.Storage.state c.read_descriptor.new.image) c.read_descriptor.ensures.unchanged_but_faults c.in_ok-disk.ensures.faults

pub returns-in_err-disk-clause-err : goal.returns-in_err-disk-clause-err
returns-in_err-disk-clause-err g c = rw (handed_on _ _ c.from_residual.ensures.1) (unread_unopened g.S.Storage.state _ c.args.image c.read_descriptor.new.image c.in_err-disk.field-0.0 c.in_err-disk.ensures.err)
