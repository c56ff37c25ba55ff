use Rattle.qimg_chain.proofs.ImageKinds.{raw_kind, vmdk_kind, qcow2_kind}
use Rattle.qimg_chain.proofs.SeenThrough.{unchanged}
use Rattle.qimg_chain.proofs.chain.drivers.ImageDriverFormatDriverInstance.read_special.Goals as goal

pub returns-in-Raw-clause-unchanged : goal.returns-in-Raw-clause-unchanged
returns-in-Raw-clause-unchanged g c =
    rw (c.in-Raw.is) (unchanged (raw_kind g.row.S g.S.Storage g.S.Storage-dict g.S.Destruct-dict)
    c.in-Raw.raw c.read_special.new.self c.read_special.ensures.unchanged)

pub returns-in-Vmdk-clause-unchanged : goal.returns-in-Vmdk-clause-unchanged
returns-in-Vmdk-clause-unchanged g c =
    rw (c.in-Vmdk.is) (unchanged (vmdk_kind g.row.S g.S.Storage g.S.Storage-dict g.S.Destruct-dict)
    c.in-Vmdk.vmdk c.read_special-in-Vmdk.new.self c.read_special-in-Vmdk.ensures.unchanged)

pub returns-in-Qcow2-clause-unchanged : goal.returns-in-Qcow2-clause-unchanged
returns-in-Qcow2-clause-unchanged g c =
    rw (c.in-Qcow2.is) (unchanged (qcow2_kind g.row.S g.S.Storage g.S.Storage-dict g.S.Destruct-dict)
    c.in-Qcow2.qcow2 c.read_special-in-Qcow2.new.self c.read_special-in-Qcow2.ensures.unchanged)
