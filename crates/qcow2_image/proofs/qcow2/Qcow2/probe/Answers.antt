use Rattle.std.proofs.Common.{arith, ◌∙◌}
use Rattle.imago_storage.proofs.Once.{read-counted}
use Rattle.qcow2_image.proofs.Probes.{start-begins}
use Rattle.qcow2_alloc.proofs.Faults.{handed-on}
use Rattle.qcow2_image.proofs.qcow2.Qcow2.probe.Goals as goal

pub returns-clause-ok : goal.returns-clause-ok
returns-clause-ok g c = c.begins_image.ensures ∙ start-begins (g.S.Storage.state c.args.image.now).bytes c.read.new.buf
    c.in_ok-read.ensures.ok c.read.auto.buf

pub returns-in_err-read-clause-faults : goal.returns-in_err-read-clause-faults
returns-in_err-read-clause-faults g c = rw (handed-on _ _ c.from_residual.ensures.1) (
    let counted = read-counted c.read.result (g.S.Storage.state c.args.image.now) (g.S.Storage.state c.read.new.self) 0 72 c.read.ensures.unit (omega arith) c.read.ensures.faults c.read.ensures.err in
    rw c.in_err-read.was at counted)
