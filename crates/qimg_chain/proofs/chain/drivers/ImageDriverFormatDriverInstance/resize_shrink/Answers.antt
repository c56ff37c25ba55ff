use Rattle.qimg_chain.proofs.ImageKinds.{raw_kind, vmdk_kind, qcow2_kind}
use Rattle.qimg_chain.proofs.CallsThrough.{resizes, shrink_refused, shrinks}
use Rattle.qimg_chain.proofs.chain.drivers.ImageDriverFormatDriverInstance.resize_shrink.Goals as goal

pub returns-in-Raw-clause-resizes : goal.returns-in-Raw-clause-resizes
returns-in-Raw-clause-resizes g c =
    rw (c.in-Raw.is) (resizes (raw_kind g.row.S g.S.Storage g.S.Storage-dict g.S.Destruct-dict)
    c.in-Raw.raw c.resize_shrink.new.self _ _ _ c.resize_shrink.ensures.resizes)

pub returns-in-Raw-clause-shrinks : goal.returns-in-Raw-clause-shrinks
returns-in-Raw-clause-shrinks g c =
    rw (c.in-Raw.is) (shrinks (raw_kind g.row.S g.S.Storage g.S.Storage-dict g.S.Destruct-dict)
    c.in-Raw.raw c.resize_shrink.new.self _ _ c.resize_shrink.ensures.shrinks)

pub returns-in-Raw-clause-refused : goal.returns-in-Raw-clause-refused
returns-in-Raw-clause-refused g c =
    rw (c.in-Raw.is) (shrink_refused (raw_kind g.row.S g.S.Storage g.S.Storage-dict g.S.Destruct-dict)
    c.in-Raw.raw c.resize_shrink.new.self _ _ c.resize_shrink.ensures.refused)

pub returns-in-Vmdk-clause-resizes : goal.returns-in-Vmdk-clause-resizes
returns-in-Vmdk-clause-resizes g c =
    rw (c.in-Vmdk.is) (resizes (vmdk_kind g.row.S g.S.Storage g.S.Storage-dict g.S.Destruct-dict)
    c.in-Vmdk.vmdk c.resize_shrink-in-Vmdk.new.self _ _ _ c.resize_shrink-in-Vmdk.ensures.resizes)

pub returns-in-Vmdk-clause-shrinks : goal.returns-in-Vmdk-clause-shrinks
returns-in-Vmdk-clause-shrinks g c =
    rw (c.in-Vmdk.is) (shrinks (vmdk_kind g.row.S g.S.Storage g.S.Storage-dict g.S.Destruct-dict)
    c.in-Vmdk.vmdk c.resize_shrink-in-Vmdk.new.self _ _ c.resize_shrink-in-Vmdk.ensures.shrinks)

pub returns-in-Vmdk-clause-refused : goal.returns-in-Vmdk-clause-refused
returns-in-Vmdk-clause-refused g c =
    rw (c.in-Vmdk.is) (shrink_refused (vmdk_kind g.row.S g.S.Storage g.S.Storage-dict g.S.Destruct-dict)
    c.in-Vmdk.vmdk c.resize_shrink-in-Vmdk.new.self _ _ c.resize_shrink-in-Vmdk.ensures.refused)

pub returns-in-Qcow2-clause-resizes : goal.returns-in-Qcow2-clause-resizes
returns-in-Qcow2-clause-resizes g c =
    rw (c.in-Qcow2.is) (resizes (qcow2_kind g.row.S g.S.Storage g.S.Storage-dict g.S.Destruct-dict)
    c.in-Qcow2.qcow2 c.resize_shrink-in-Qcow2.new.self _ _ _ c.resize_shrink-in-Qcow2.ensures.resizes)

pub returns-in-Qcow2-clause-shrinks : goal.returns-in-Qcow2-clause-shrinks
returns-in-Qcow2-clause-shrinks g c =
    rw (c.in-Qcow2.is) (shrinks (qcow2_kind g.row.S g.S.Storage g.S.Storage-dict g.S.Destruct-dict)
    c.in-Qcow2.qcow2 c.resize_shrink-in-Qcow2.new.self _ _ c.resize_shrink-in-Qcow2.ensures.shrinks)

pub returns-in-Qcow2-clause-refused : goal.returns-in-Qcow2-clause-refused
returns-in-Qcow2-clause-refused g c =
    rw (c.in-Qcow2.is) (shrink_refused (qcow2_kind g.row.S g.S.Storage g.S.Storage-dict g.S.Destruct-dict)
    c.in-Qcow2.qcow2 c.resize_shrink-in-Qcow2.new.self _ _ c.resize_shrink-in-Qcow2.ensures.refused)
