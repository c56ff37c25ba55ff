use Rattle.qimg_chain.proofs.ImageKinds.{raw_kind, vmdk_kind, qcow2_kind}
use Rattle.qimg_chain.proofs.SeenThrough.{marked_failed}
use Rattle.qimg_chain.proofs.chain.drivers.ImageDriverFormatDriverInstance.mark_failed.Goals as goal

pub returns-in-Raw : goal.returns-in-Raw
returns-in-Raw g c =
    rw (c.in-Raw.is) (marked_failed (raw_kind g.row.S g.S.Storage g.S.Storage-dict g.S.Destruct-dict)
    c.in-Raw.raw c.mark_failed.new.self c.mark_failed.ensures)

pub returns-in-Vmdk : goal.returns-in-Vmdk
returns-in-Vmdk g c =
    rw (c.in-Vmdk.is) (marked_failed (vmdk_kind g.row.S g.S.Storage g.S.Storage-dict g.S.Destruct-dict)
    c.in-Vmdk.vmdk c.mark_failed-in-Vmdk.new.self c.mark_failed-in-Vmdk.ensures)

pub returns-in-Qcow2 : goal.returns-in-Qcow2
returns-in-Qcow2 g c =
    rw (c.in-Qcow2.is) (marked_failed (qcow2_kind g.row.S g.S.Storage g.S.Storage-dict g.S.Destruct-dict)
    c.in-Qcow2.qcow2 c.mark_failed-in-Qcow2.new.self c.mark_failed-in-Qcow2.ensures)
