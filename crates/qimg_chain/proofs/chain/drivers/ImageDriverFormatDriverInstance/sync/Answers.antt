use Rattle.qimg_chain.proofs.ImageKinds.{raw_kind, vmdk_kind, qcow2_kind}
use Rattle.qimg_chain.proofs.SeenThrough.{early_outcome, marks, mutating_call}
use Rattle.qimg_chain.proofs.chain.drivers.ImageDriverFormatDriverInstance.sync.Goals as goal

pub returns-in-Raw-clause-early_outcome : goal.returns-in-Raw-clause-early_outcome
returns-in-Raw-clause-early_outcome g c =
    rw (c.in-Raw.is) (early_outcome (raw_kind g.row.S g.S.Storage g.S.Storage-dict g.S.Destruct-dict)
    c.in-Raw.raw c.sync.new.self _ _ _ c.sync.ensures.early_outcome)

pub returns-in-Raw-clause-mutating_call : goal.returns-in-Raw-clause-mutating_call
returns-in-Raw-clause-mutating_call g c =
    rw (c.in-Raw.is) (mutating_call (raw_kind g.row.S g.S.Storage g.S.Storage-dict g.S.Destruct-dict)
    c.in-Raw.raw c.sync.new.self _ _ c.sync.ensures.mutating_call)

pub returns-in-Raw-clause-marks_failed : goal.returns-in-Raw-clause-marks_failed
returns-in-Raw-clause-marks_failed g c =
    rw (c.in-Raw.is) (marks (raw_kind g.row.S g.S.Storage g.S.Storage-dict g.S.Destruct-dict)
    c.in-Raw.raw c.sync.new.self c.sync.result c.sync.ensures.marks_failed)

pub returns-in-Vmdk-clause-early_outcome : goal.returns-in-Vmdk-clause-early_outcome
returns-in-Vmdk-clause-early_outcome g c =
    rw (c.in-Vmdk.is) (early_outcome (vmdk_kind g.row.S g.S.Storage g.S.Storage-dict g.S.Destruct-dict)
    c.in-Vmdk.vmdk c.sync-in-Vmdk.new.self _ _ _ c.sync-in-Vmdk.ensures.early_outcome)

pub returns-in-Vmdk-clause-mutating_call : goal.returns-in-Vmdk-clause-mutating_call
returns-in-Vmdk-clause-mutating_call g c =
    rw (c.in-Vmdk.is) (mutating_call (vmdk_kind g.row.S g.S.Storage g.S.Storage-dict g.S.Destruct-dict)
    c.in-Vmdk.vmdk c.sync-in-Vmdk.new.self _ _ c.sync-in-Vmdk.ensures.mutating_call)

pub returns-in-Vmdk-clause-marks_failed : goal.returns-in-Vmdk-clause-marks_failed
returns-in-Vmdk-clause-marks_failed g c =
    rw (c.in-Vmdk.is) (marks (vmdk_kind g.row.S g.S.Storage g.S.Storage-dict g.S.Destruct-dict)
    c.in-Vmdk.vmdk c.sync-in-Vmdk.new.self c.sync-in-Vmdk.result c.sync-in-Vmdk.ensures.marks_failed)

pub returns-in-Qcow2-clause-early_outcome : goal.returns-in-Qcow2-clause-early_outcome
returns-in-Qcow2-clause-early_outcome g c =
    rw (c.in-Qcow2.is) (early_outcome (qcow2_kind g.row.S g.S.Storage g.S.Storage-dict g.S.Destruct-dict)
    c.in-Qcow2.qcow2 c.sync-in-Qcow2.new.self _ _ _ c.sync-in-Qcow2.ensures.early_outcome)

pub returns-in-Qcow2-clause-mutating_call : goal.returns-in-Qcow2-clause-mutating_call
returns-in-Qcow2-clause-mutating_call g c =
    rw (c.in-Qcow2.is) (mutating_call (qcow2_kind g.row.S g.S.Storage g.S.Storage-dict g.S.Destruct-dict)
    c.in-Qcow2.qcow2 c.sync-in-Qcow2.new.self _ _ c.sync-in-Qcow2.ensures.mutating_call)

pub returns-in-Qcow2-clause-marks_failed : goal.returns-in-Qcow2-clause-marks_failed
returns-in-Qcow2-clause-marks_failed g c =
    rw (c.in-Qcow2.is) (marks (qcow2_kind g.row.S g.S.Storage g.S.Storage-dict g.S.Destruct-dict)
    c.in-Qcow2.qcow2 c.sync-in-Qcow2.new.self c.sync-in-Qcow2.result c.sync-in-Qcow2.ensures.marks_failed)
