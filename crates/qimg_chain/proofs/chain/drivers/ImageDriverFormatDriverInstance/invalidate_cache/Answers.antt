use Rattle.qimg_chain.proofs.ImageKinds.{raw_kind, vmdk_kind, qcow2_kind}
use Rattle.qimg_chain.proofs.SeenThrough.{anew, early_outcome, marks}
use Rattle.qimg_chain.proofs.chain.drivers.ImageDriverFormatDriverInstance.invalidate_cache.Goals as goal

pub returns-in-Raw-clause-early_outcome : goal.returns-in-Raw-clause-early_outcome
returns-in-Raw-clause-early_outcome g c =
    rw (c.in-Raw.is) (early_outcome (raw_kind g.row.S g.S.Storage g.S.Storage-dict g.S.Destruct-dict)
    c.in-Raw.raw c.invalidate_cache.new.self _ _ _ c.invalidate_cache.ensures.early_outcome)

pub returns-in-Raw-clause-mutating_call : goal.returns-in-Raw-clause-mutating_call
returns-in-Raw-clause-mutating_call g c =
    rw (c.in-Raw.is) (anew (raw_kind g.row.S g.S.Storage g.S.Storage-dict g.S.Destruct-dict)
    c.in-Raw.raw c.invalidate_cache.new.self _ _ c.invalidate_cache.ensures.mutating_call)

pub returns-in-Raw-clause-marks_failed : goal.returns-in-Raw-clause-marks_failed
returns-in-Raw-clause-marks_failed g c =
    rw (c.in-Raw.is) (marks (raw_kind g.row.S g.S.Storage g.S.Storage-dict g.S.Destruct-dict)
    c.in-Raw.raw c.invalidate_cache.new.self c.invalidate_cache.result c.invalidate_cache.ensures.marks_failed)

pub returns-in-Vmdk-clause-early_outcome : goal.returns-in-Vmdk-clause-early_outcome
returns-in-Vmdk-clause-early_outcome g c =
    rw (c.in-Vmdk.is) (early_outcome (vmdk_kind g.row.S g.S.Storage g.S.Storage-dict g.S.Destruct-dict)
    c.in-Vmdk.vmdk c.invalidate_cache-in-Vmdk.new.self _ _ _ c.invalidate_cache-in-Vmdk.ensures.early_outcome)

pub returns-in-Vmdk-clause-mutating_call : goal.returns-in-Vmdk-clause-mutating_call
returns-in-Vmdk-clause-mutating_call g c =
    rw (c.in-Vmdk.is) (anew (vmdk_kind g.row.S g.S.Storage g.S.Storage-dict g.S.Destruct-dict)
    c.in-Vmdk.vmdk c.invalidate_cache-in-Vmdk.new.self _ _ c.invalidate_cache-in-Vmdk.ensures.mutating_call)

pub returns-in-Vmdk-clause-marks_failed : goal.returns-in-Vmdk-clause-marks_failed
returns-in-Vmdk-clause-marks_failed g c =
    rw (c.in-Vmdk.is) (marks (vmdk_kind g.row.S g.S.Storage g.S.Storage-dict g.S.Destruct-dict)
    c.in-Vmdk.vmdk c.invalidate_cache-in-Vmdk.new.self c.invalidate_cache-in-Vmdk.result c.invalidate_cache-in-Vmdk.ensures.marks_failed)

pub returns-in-Qcow2-clause-early_outcome : goal.returns-in-Qcow2-clause-early_outcome
returns-in-Qcow2-clause-early_outcome g c =
    rw (c.in-Qcow2.is) (early_outcome (qcow2_kind g.row.S g.S.Storage g.S.Storage-dict g.S.Destruct-dict)
    c.in-Qcow2.qcow2 c.invalidate_cache-in-Qcow2.new.self _ _ _ c.invalidate_cache-in-Qcow2.ensures.early_outcome)

pub returns-in-Qcow2-clause-mutating_call : goal.returns-in-Qcow2-clause-mutating_call
returns-in-Qcow2-clause-mutating_call g c =
    rw (c.in-Qcow2.is) (anew (qcow2_kind g.row.S g.S.Storage g.S.Storage-dict g.S.Destruct-dict)
    c.in-Qcow2.qcow2 c.invalidate_cache-in-Qcow2.new.self _ _ c.invalidate_cache-in-Qcow2.ensures.mutating_call)

pub returns-in-Qcow2-clause-marks_failed : goal.returns-in-Qcow2-clause-marks_failed
returns-in-Qcow2-clause-marks_failed g c =
    rw (c.in-Qcow2.is) (marks (qcow2_kind g.row.S g.S.Storage g.S.Storage-dict g.S.Destruct-dict)
    c.in-Qcow2.qcow2 c.invalidate_cache-in-Qcow2.new.self c.invalidate_cache-in-Qcow2.result c.invalidate_cache-in-Qcow2.ensures.marks_failed)

pub returns-in-Vmdk-clause-same : goal.returns-in-Vmdk-clause-same
returns-in-Vmdk-clause-same g c = rw (c.in-Vmdk.is) c.invalidate_cache-in-Vmdk.ensures.same

pub returns-in-Qcow2-clause-same : goal.returns-in-Qcow2-clause-same
returns-in-Qcow2-clause-same g c = rw (c.in-Qcow2.is) c.invalidate_cache-in-Qcow2.ensures.same
