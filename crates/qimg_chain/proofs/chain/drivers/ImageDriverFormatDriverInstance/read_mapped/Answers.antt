use Rattle.qimg_chain.proofs.ImageKinds.{raw_kind, vmdk_kind, qcow2_kind}
use Rattle.qimg_chain.proofs.SeenThrough.{early_outcome, began_ok, looked, marks}
use Rattle.qimg_chain.proofs.chain.drivers.ImageDriverFormatDriverInstance.read_mapped.Goals as goal

pub returns-in-Raw-clause-early_outcome : goal.returns-in-Raw-clause-early_outcome
returns-in-Raw-clause-early_outcome g c =
    rw (c.in-Raw.is) (early_outcome (raw_kind g.row.S g.S.Storage g.S.Storage-dict g.S.Destruct-dict)
    c.in-Raw.raw c.read_mapped.new.self _ _ _ c.read_mapped.ensures.early_outcome)

pub returns-in-Raw-clause-lookup_call : goal.returns-in-Raw-clause-lookup_call
returns-in-Raw-clause-lookup_call g c =
    rw (c.in-Raw.is) (looked (raw_kind g.row.S g.S.Storage g.S.Storage-dict g.S.Destruct-dict)
    c.in-Raw.raw c.read_mapped.new.self _ c.read_mapped.ensures.lookup_call)

pub returns-in-Raw-clause-stays_begun : goal.returns-in-Raw-clause-stays_begun
returns-in-Raw-clause-stays_begun g c =
    rw (c.in-Raw.is) (began_ok (raw_kind g.row.S g.S.Storage g.S.Storage-dict g.S.Destruct-dict)
    c.in-Raw.raw c.read_mapped.new.self c.read_mapped.result c.read_mapped.ensures.stays_begun)

pub returns-in-Raw-clause-marks_failed : goal.returns-in-Raw-clause-marks_failed
returns-in-Raw-clause-marks_failed g c =
    rw (c.in-Raw.is) (marks (raw_kind g.row.S g.S.Storage g.S.Storage-dict g.S.Destruct-dict)
    c.in-Raw.raw c.read_mapped.new.self c.read_mapped.result c.read_mapped.ensures.marks_failed)

pub returns-in-Vmdk-clause-early_outcome : goal.returns-in-Vmdk-clause-early_outcome
returns-in-Vmdk-clause-early_outcome g c =
    rw (c.in-Vmdk.is) (early_outcome (vmdk_kind g.row.S g.S.Storage g.S.Storage-dict g.S.Destruct-dict)
    c.in-Vmdk.vmdk c.read_mapped-in-Vmdk.new.self _ _ _ c.read_mapped-in-Vmdk.ensures.early_outcome)

pub returns-in-Vmdk-clause-lookup_call : goal.returns-in-Vmdk-clause-lookup_call
returns-in-Vmdk-clause-lookup_call g c =
    rw (c.in-Vmdk.is) (looked (vmdk_kind g.row.S g.S.Storage g.S.Storage-dict g.S.Destruct-dict)
    c.in-Vmdk.vmdk c.read_mapped-in-Vmdk.new.self _ c.read_mapped-in-Vmdk.ensures.lookup_call)

pub returns-in-Vmdk-clause-stays_begun : goal.returns-in-Vmdk-clause-stays_begun
returns-in-Vmdk-clause-stays_begun g c =
    rw (c.in-Vmdk.is) (began_ok (vmdk_kind g.row.S g.S.Storage g.S.Storage-dict g.S.Destruct-dict)
    c.in-Vmdk.vmdk c.read_mapped-in-Vmdk.new.self c.read_mapped-in-Vmdk.result c.read_mapped-in-Vmdk.ensures.stays_begun)

pub returns-in-Vmdk-clause-marks_failed : goal.returns-in-Vmdk-clause-marks_failed
returns-in-Vmdk-clause-marks_failed g c =
    rw (c.in-Vmdk.is) (marks (vmdk_kind g.row.S g.S.Storage g.S.Storage-dict g.S.Destruct-dict)
    c.in-Vmdk.vmdk c.read_mapped-in-Vmdk.new.self c.read_mapped-in-Vmdk.result c.read_mapped-in-Vmdk.ensures.marks_failed)

pub returns-in-Qcow2-clause-early_outcome : goal.returns-in-Qcow2-clause-early_outcome
returns-in-Qcow2-clause-early_outcome g c =
    rw (c.in-Qcow2.is) (early_outcome (qcow2_kind g.row.S g.S.Storage g.S.Storage-dict g.S.Destruct-dict)
    c.in-Qcow2.qcow2 c.read_mapped-in-Qcow2.new.self _ _ _ c.read_mapped-in-Qcow2.ensures.early_outcome)

pub returns-in-Qcow2-clause-lookup_call : goal.returns-in-Qcow2-clause-lookup_call
returns-in-Qcow2-clause-lookup_call g c =
    rw (c.in-Qcow2.is) (looked (qcow2_kind g.row.S g.S.Storage g.S.Storage-dict g.S.Destruct-dict)
    c.in-Qcow2.qcow2 c.read_mapped-in-Qcow2.new.self _ c.read_mapped-in-Qcow2.ensures.lookup_call)

pub returns-in-Qcow2-clause-stays_begun : goal.returns-in-Qcow2-clause-stays_begun
returns-in-Qcow2-clause-stays_begun g c =
    rw (c.in-Qcow2.is) (began_ok (qcow2_kind g.row.S g.S.Storage g.S.Storage-dict g.S.Destruct-dict)
    c.in-Qcow2.qcow2 c.read_mapped-in-Qcow2.new.self c.read_mapped-in-Qcow2.result c.read_mapped-in-Qcow2.ensures.stays_begun)

pub returns-in-Qcow2-clause-marks_failed : goal.returns-in-Qcow2-clause-marks_failed
returns-in-Qcow2-clause-marks_failed g c =
    rw (c.in-Qcow2.is) (marks (qcow2_kind g.row.S g.S.Storage g.S.Storage-dict g.S.Destruct-dict)
    c.in-Qcow2.qcow2 c.read_mapped-in-Qcow2.new.self c.read_mapped-in-Qcow2.result c.read_mapped-in-Qcow2.ensures.marks_failed)
