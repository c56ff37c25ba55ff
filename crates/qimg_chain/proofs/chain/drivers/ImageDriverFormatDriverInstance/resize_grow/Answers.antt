use Rattle.qimg_chain.proofs.ImageKinds.{raw_kind, vmdk_kind, qcow2_kind}
use Rattle.qimg_chain.proofs.CallsThrough.{grows, growth_refused, resizes}
use Rattle.qimg_chain.proofs.chain.drivers.ImageDriverFormatDriverInstance.resize_grow.Goals as goal

pub returns-in-Raw-clause-resizes : goal.returns-in-Raw-clause-resizes
returns-in-Raw-clause-resizes g c =
    rw (c.in-Raw.is) (resizes (raw_kind g.row.S g.S.Storage g.S.Storage-dict g.S.Destruct-dict)
    c.in-Raw.raw c.resize_grow.new.self _ _ _ c.resize_grow.ensures.resizes)

pub returns-in-Raw-clause-grows : goal.returns-in-Raw-clause-grows
returns-in-Raw-clause-grows g c =
    rw (c.in-Raw.is) (grows (raw_kind g.row.S g.S.Storage g.S.Storage-dict g.S.Destruct-dict)
    c.in-Raw.raw c.resize_grow.new.self g.B.LayersBelowModel _ _ _ _ _ c.resize_grow.ensures.grows)

pub returns-in-Raw-clause-refused : goal.returns-in-Raw-clause-refused
returns-in-Raw-clause-refused g c =
    rw (c.in-Raw.is) (growth_refused (raw_kind g.row.S g.S.Storage g.S.Storage-dict g.S.Destruct-dict)
    c.in-Raw.raw c.resize_grow.new.self g.B.LayersBelowModel _ _ _ _ _ c.resize_grow.ensures.refused)

pub returns-in-Vmdk-clause-resizes : goal.returns-in-Vmdk-clause-resizes
returns-in-Vmdk-clause-resizes g c =
    rw (c.in-Vmdk.is) (resizes (vmdk_kind g.row.S g.S.Storage g.S.Storage-dict g.S.Destruct-dict)
    c.in-Vmdk.vmdk c.resize_grow-in-Vmdk.new.self _ _ _ c.resize_grow-in-Vmdk.ensures.resizes)

pub returns-in-Vmdk-clause-grows : goal.returns-in-Vmdk-clause-grows
returns-in-Vmdk-clause-grows g c =
    rw (c.in-Vmdk.is) (grows (vmdk_kind g.row.S g.S.Storage g.S.Storage-dict g.S.Destruct-dict)
    c.in-Vmdk.vmdk c.resize_grow-in-Vmdk.new.self g.B.LayersBelowModel _ _ _ _ _ c.resize_grow-in-Vmdk.ensures.grows)

pub returns-in-Vmdk-clause-refused : goal.returns-in-Vmdk-clause-refused
returns-in-Vmdk-clause-refused g c =
    rw (c.in-Vmdk.is) (growth_refused (vmdk_kind g.row.S g.S.Storage g.S.Storage-dict g.S.Destruct-dict)
    c.in-Vmdk.vmdk c.resize_grow-in-Vmdk.new.self g.B.LayersBelowModel _ _ _ _ _ c.resize_grow-in-Vmdk.ensures.refused)

pub returns-in-Qcow2-clause-resizes : goal.returns-in-Qcow2-clause-resizes
returns-in-Qcow2-clause-resizes g c =
    rw (c.in-Qcow2.is) (resizes (qcow2_kind g.row.S g.S.Storage g.S.Storage-dict g.S.Destruct-dict)
    c.in-Qcow2.qcow2 c.resize_grow-in-Qcow2.new.self _ _ _ c.resize_grow-in-Qcow2.ensures.resizes)

pub returns-in-Qcow2-clause-grows : goal.returns-in-Qcow2-clause-grows
returns-in-Qcow2-clause-grows g c =
    rw (c.in-Qcow2.is) (grows (qcow2_kind g.row.S g.S.Storage g.S.Storage-dict g.S.Destruct-dict)
    c.in-Qcow2.qcow2 c.resize_grow-in-Qcow2.new.self g.B.LayersBelowModel _ _ _ _ _ c.resize_grow-in-Qcow2.ensures.grows)

pub returns-in-Qcow2-clause-refused : goal.returns-in-Qcow2-clause-refused
returns-in-Qcow2-clause-refused g c =
    rw (c.in-Qcow2.is) (growth_refused (qcow2_kind g.row.S g.S.Storage g.S.Storage-dict g.S.Destruct-dict)
    c.in-Qcow2.qcow2 c.resize_grow-in-Qcow2.new.self g.B.LayersBelowModel _ _ _ _ _ c.resize_grow-in-Qcow2.ensures.refused)
