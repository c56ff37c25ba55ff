use Rattle.qimg_chain.proofs.ImageKinds.{raw_kind, vmdk_kind, qcow2_kind}
use Rattle.qimg_chain.proofs.SeenThrough.{early_outcome}
use Rattle.qimg_chain.proofs.CallsThrough.{writes_mapped, writing_refused}
use Rattle.qimg_chain.proofs.chain.drivers.ImageDriverFormatDriverInstance.write_mapped.Goals as goal

pub returns-in-Raw-clause-writes : goal.returns-in-Raw-clause-writes
returns-in-Raw-clause-writes g c =
    rw (c.in-Raw.is) (writes_mapped (raw_kind g.row.S g.S.Storage g.S.Storage-dict g.S.Destruct-dict)
    c.in-Raw.raw c.write_mapped.new.self _ _ _ _ c.write_mapped.ensures.writes)

pub returns-in-Raw-clause-early_outcome : goal.returns-in-Raw-clause-early_outcome
returns-in-Raw-clause-early_outcome g c =
    rw (c.in-Raw.is) (early_outcome (raw_kind g.row.S g.S.Storage g.S.Storage-dict g.S.Destruct-dict)
    c.in-Raw.raw c.write_mapped.new.self _ _ _ c.write_mapped.ensures.early_outcome)

pub returns-in-Raw-clause-refused : goal.returns-in-Raw-clause-refused
returns-in-Raw-clause-refused g c =
    rw (c.in-Raw.is) (writing_refused (raw_kind g.row.S g.S.Storage g.S.Storage-dict g.S.Destruct-dict)
    c.in-Raw.raw c.write_mapped.new.self _ _ _ _ c.write_mapped.ensures.refused)

pub returns-in-Vmdk-clause-writes : goal.returns-in-Vmdk-clause-writes
returns-in-Vmdk-clause-writes g c =
    rw (c.in-Vmdk.is) (writes_mapped (vmdk_kind g.row.S g.S.Storage g.S.Storage-dict g.S.Destruct-dict)
    c.in-Vmdk.vmdk c.write_mapped-in-Vmdk.new.self _ _ _ _ c.write_mapped-in-Vmdk.ensures.writes)

pub returns-in-Vmdk-clause-early_outcome : goal.returns-in-Vmdk-clause-early_outcome
returns-in-Vmdk-clause-early_outcome g c =
    rw (c.in-Vmdk.is) (early_outcome (vmdk_kind g.row.S g.S.Storage g.S.Storage-dict g.S.Destruct-dict)
    c.in-Vmdk.vmdk c.write_mapped-in-Vmdk.new.self _ _ _ c.write_mapped-in-Vmdk.ensures.early_outcome)

pub returns-in-Vmdk-clause-refused : goal.returns-in-Vmdk-clause-refused
returns-in-Vmdk-clause-refused g c =
    rw (c.in-Vmdk.is) (writing_refused (vmdk_kind g.row.S g.S.Storage g.S.Storage-dict g.S.Destruct-dict)
    c.in-Vmdk.vmdk c.write_mapped-in-Vmdk.new.self _ _ _ _ c.write_mapped-in-Vmdk.ensures.refused)

pub returns-in-Qcow2-clause-writes : goal.returns-in-Qcow2-clause-writes
returns-in-Qcow2-clause-writes g c =
    rw (c.in-Qcow2.is) (writes_mapped (qcow2_kind g.row.S g.S.Storage g.S.Storage-dict g.S.Destruct-dict)
    c.in-Qcow2.qcow2 c.write_mapped-in-Qcow2.new.self _ _ _ _ c.write_mapped-in-Qcow2.ensures.writes)

pub returns-in-Qcow2-clause-early_outcome : goal.returns-in-Qcow2-clause-early_outcome
returns-in-Qcow2-clause-early_outcome g c =
    rw (c.in-Qcow2.is) (early_outcome (qcow2_kind g.row.S g.S.Storage g.S.Storage-dict g.S.Destruct-dict)
    c.in-Qcow2.qcow2 c.write_mapped-in-Qcow2.new.self _ _ _ c.write_mapped-in-Qcow2.ensures.early_outcome)

pub returns-in-Qcow2-clause-refused : goal.returns-in-Qcow2-clause-refused
returns-in-Qcow2-clause-refused g c =
    rw (c.in-Qcow2.is) (writing_refused (qcow2_kind g.row.S g.S.Storage g.S.Storage-dict g.S.Destruct-dict)
    c.in-Qcow2.qcow2 c.write_mapped-in-Qcow2.new.self _ _ _ _ c.write_mapped-in-Qcow2.ensures.refused)
