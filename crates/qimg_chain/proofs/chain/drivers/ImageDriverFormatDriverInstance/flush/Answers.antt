use Rattle.imago_access.specs.Stops.{GivesNone}
use Rattle.qimg_chain.proofs.ImageKinds.{raw_kind, vmdk_kind, qcow2_kind}
use Rattle.qimg_chain.proofs.SeenThrough.{early_outcome, marks, stops, mutating_call}
use Rattle.qimg_chain.proofs.chain.drivers.ImageDriverFormatDriverInstance.flush.Goals as goal

pub returns-in-Raw-clause-crash_images : goal.returns-in-Raw-clause-crash_images
returns-in-Raw-clause-crash_images g c =
    rw (c.in-Raw.is) (λ well_formed below. stops (raw_kind g.row.S g.S.Storage g.S.Storage-dict g.S.Destruct-dict)
    c.in-Raw.raw c.flush.new.self below _ _ GivesNone (c.flush.ensures.crash_images well_formed below))

pub returns-in-Raw-clause-early_outcome : goal.returns-in-Raw-clause-early_outcome
returns-in-Raw-clause-early_outcome g c =
    rw (c.in-Raw.is) (early_outcome (raw_kind g.row.S g.S.Storage g.S.Storage-dict g.S.Destruct-dict)
    c.in-Raw.raw c.flush.new.self _ _ _ c.flush.ensures.early_outcome)

pub returns-in-Raw-clause-mutating_call : goal.returns-in-Raw-clause-mutating_call
returns-in-Raw-clause-mutating_call g c =
    rw (c.in-Raw.is) (mutating_call (raw_kind g.row.S g.S.Storage g.S.Storage-dict g.S.Destruct-dict)
    c.in-Raw.raw c.flush.new.self _ _ c.flush.ensures.mutating_call)

pub returns-in-Raw-clause-marks_failed : goal.returns-in-Raw-clause-marks_failed
returns-in-Raw-clause-marks_failed g c =
    rw (c.in-Raw.is) (marks (raw_kind g.row.S g.S.Storage g.S.Storage-dict g.S.Destruct-dict)
    c.in-Raw.raw c.flush.new.self c.flush.result c.flush.ensures.marks_failed)

pub returns-in-Vmdk-clause-crash_images : goal.returns-in-Vmdk-clause-crash_images
returns-in-Vmdk-clause-crash_images g c =
    rw (c.in-Vmdk.is) (λ well_formed below. stops (vmdk_kind g.row.S g.S.Storage g.S.Storage-dict g.S.Destruct-dict)
    c.in-Vmdk.vmdk c.flush-in-Vmdk.new.self below _ _ GivesNone (c.flush-in-Vmdk.ensures.crash_images well_formed below))

pub returns-in-Vmdk-clause-early_outcome : goal.returns-in-Vmdk-clause-early_outcome
returns-in-Vmdk-clause-early_outcome g c =
    rw (c.in-Vmdk.is) (early_outcome (vmdk_kind g.row.S g.S.Storage g.S.Storage-dict g.S.Destruct-dict)
    c.in-Vmdk.vmdk c.flush-in-Vmdk.new.self _ _ _ c.flush-in-Vmdk.ensures.early_outcome)

pub returns-in-Vmdk-clause-mutating_call : goal.returns-in-Vmdk-clause-mutating_call
returns-in-Vmdk-clause-mutating_call g c =
    rw (c.in-Vmdk.is) (mutating_call (vmdk_kind g.row.S g.S.Storage g.S.Storage-dict g.S.Destruct-dict)
    c.in-Vmdk.vmdk c.flush-in-Vmdk.new.self _ _ c.flush-in-Vmdk.ensures.mutating_call)

pub returns-in-Vmdk-clause-marks_failed : goal.returns-in-Vmdk-clause-marks_failed
returns-in-Vmdk-clause-marks_failed g c =
    rw (c.in-Vmdk.is) (marks (vmdk_kind g.row.S g.S.Storage g.S.Storage-dict g.S.Destruct-dict)
    c.in-Vmdk.vmdk c.flush-in-Vmdk.new.self c.flush-in-Vmdk.result c.flush-in-Vmdk.ensures.marks_failed)

pub returns-in-Qcow2-clause-crash_images : goal.returns-in-Qcow2-clause-crash_images
returns-in-Qcow2-clause-crash_images g c =
    rw (c.in-Qcow2.is) (λ well_formed below. stops (qcow2_kind g.row.S g.S.Storage g.S.Storage-dict g.S.Destruct-dict)
    c.in-Qcow2.qcow2 c.flush-in-Qcow2.new.self below _ _ GivesNone (c.flush-in-Qcow2.ensures.crash_images well_formed below))

pub returns-in-Qcow2-clause-early_outcome : goal.returns-in-Qcow2-clause-early_outcome
returns-in-Qcow2-clause-early_outcome g c =
    rw (c.in-Qcow2.is) (early_outcome (qcow2_kind g.row.S g.S.Storage g.S.Storage-dict g.S.Destruct-dict)
    c.in-Qcow2.qcow2 c.flush-in-Qcow2.new.self _ _ _ c.flush-in-Qcow2.ensures.early_outcome)

pub returns-in-Qcow2-clause-mutating_call : goal.returns-in-Qcow2-clause-mutating_call
returns-in-Qcow2-clause-mutating_call g c =
    rw (c.in-Qcow2.is) (mutating_call (qcow2_kind g.row.S g.S.Storage g.S.Storage-dict g.S.Destruct-dict)
    c.in-Qcow2.qcow2 c.flush-in-Qcow2.new.self _ _ c.flush-in-Qcow2.ensures.mutating_call)

pub returns-in-Qcow2-clause-marks_failed : goal.returns-in-Qcow2-clause-marks_failed
returns-in-Qcow2-clause-marks_failed g c =
    rw (c.in-Qcow2.is) (marks (qcow2_kind g.row.S g.S.Storage g.S.Storage-dict g.S.Destruct-dict)
    c.in-Qcow2.qcow2 c.flush-in-Qcow2.new.self c.flush-in-Qcow2.result c.flush-in-Qcow2.ensures.marks_failed)

pub returns-in-Vmdk-clause-coherent : goal.returns-in-Vmdk-clause-coherent
returns-in-Vmdk-clause-coherent g c = rw (c.in-Vmdk.is) c.flush-in-Vmdk.ensures.coherent

pub returns-in-Qcow2-clause-coherent : goal.returns-in-Qcow2-clause-coherent
returns-in-Qcow2-clause-coherent g c = rw (c.in-Qcow2.is) c.flush-in-Qcow2.ensures.coherent
