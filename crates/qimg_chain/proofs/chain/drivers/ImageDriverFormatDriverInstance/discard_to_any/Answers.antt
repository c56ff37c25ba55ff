use Rattle.imago_access.specs.PartCalls.{discards_to_any}
use Rattle.qimg_chain.proofs.ImageKinds.{raw_kind, vmdk_kind, qcow2_kind}
use Rattle.qimg_chain.proofs.SeenThrough.{early_outcome}
use Rattle.qimg_chain.proofs.CallsThrough.{does, part_refused}
use Rattle.qimg_chain.proofs.chain.drivers.ImageDriverFormatDriverInstance.discard_to_any.Goals as goal

pub returns-in-Raw-clause-does : goal.returns-in-Raw-clause-does
returns-in-Raw-clause-does g c =
    rw (c.in-Raw.is) (does (raw_kind g.row.S g.S.Storage g.S.Storage-dict g.S.Destruct-dict)
    c.in-Raw.raw c.discard_to_any.new.self discards_to_any _ _ _ c.discard_to_any.ensures.does)

pub returns-in-Raw-clause-early_outcome : goal.returns-in-Raw-clause-early_outcome
returns-in-Raw-clause-early_outcome g c =
    rw (c.in-Raw.is) (early_outcome (raw_kind g.row.S g.S.Storage g.S.Storage-dict g.S.Destruct-dict)
    c.in-Raw.raw c.discard_to_any.new.self _ _ _ c.discard_to_any.ensures.early_outcome)

pub returns-in-Raw-clause-refused : goal.returns-in-Raw-clause-refused
returns-in-Raw-clause-refused g c =
    rw (c.in-Raw.is) (part_refused (raw_kind g.row.S g.S.Storage g.S.Storage-dict g.S.Destruct-dict)
    c.in-Raw.raw c.discard_to_any.new.self _ _ _ _ c.discard_to_any.ensures.refused)

pub returns-in-Vmdk-clause-does : goal.returns-in-Vmdk-clause-does
returns-in-Vmdk-clause-does g c =
    rw (c.in-Vmdk.is) (does (vmdk_kind g.row.S g.S.Storage g.S.Storage-dict g.S.Destruct-dict)
    c.in-Vmdk.vmdk c.discard_to_any-in-Vmdk.new.self discards_to_any _ _ _ c.discard_to_any-in-Vmdk.ensures.does)

pub returns-in-Vmdk-clause-early_outcome : goal.returns-in-Vmdk-clause-early_outcome
returns-in-Vmdk-clause-early_outcome g c =
    rw (c.in-Vmdk.is) (early_outcome (vmdk_kind g.row.S g.S.Storage g.S.Storage-dict g.S.Destruct-dict)
    c.in-Vmdk.vmdk c.discard_to_any-in-Vmdk.new.self _ _ _ c.discard_to_any-in-Vmdk.ensures.early_outcome)

pub returns-in-Vmdk-clause-refused : goal.returns-in-Vmdk-clause-refused
returns-in-Vmdk-clause-refused g c =
    rw (c.in-Vmdk.is) (part_refused (vmdk_kind g.row.S g.S.Storage g.S.Storage-dict g.S.Destruct-dict)
    c.in-Vmdk.vmdk c.discard_to_any-in-Vmdk.new.self _ _ _ _ c.discard_to_any-in-Vmdk.ensures.refused)

pub returns-in-Qcow2-clause-does : goal.returns-in-Qcow2-clause-does
returns-in-Qcow2-clause-does g c =
    rw (c.in-Qcow2.is) (does (qcow2_kind g.row.S g.S.Storage g.S.Storage-dict g.S.Destruct-dict)
    c.in-Qcow2.qcow2 c.discard_to_any-in-Qcow2.new.self discards_to_any _ _ _ c.discard_to_any-in-Qcow2.ensures.does)

pub returns-in-Qcow2-clause-early_outcome : goal.returns-in-Qcow2-clause-early_outcome
returns-in-Qcow2-clause-early_outcome g c =
    rw (c.in-Qcow2.is) (early_outcome (qcow2_kind g.row.S g.S.Storage g.S.Storage-dict g.S.Destruct-dict)
    c.in-Qcow2.qcow2 c.discard_to_any-in-Qcow2.new.self _ _ _ c.discard_to_any-in-Qcow2.ensures.early_outcome)

pub returns-in-Qcow2-clause-refused : goal.returns-in-Qcow2-clause-refused
returns-in-Qcow2-clause-refused g c =
    rw (c.in-Qcow2.is) (part_refused (qcow2_kind g.row.S g.S.Storage g.S.Storage-dict g.S.Destruct-dict)
    c.in-Qcow2.qcow2 c.discard_to_any-in-Qcow2.new.self _ _ _ _ c.discard_to_any-in-Qcow2.ensures.refused)
