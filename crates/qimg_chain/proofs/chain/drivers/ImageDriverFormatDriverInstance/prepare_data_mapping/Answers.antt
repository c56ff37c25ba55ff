use Rattle.std.proofs.Common.{refl}
use Rattle.imago_access.specs.Changes.{asking}
use Rattle.imago_access.proofs.Answers.{handed_on}
use Rattle.qimg_chain.proofs.ImageKinds.{raw_kind, vmdk_kind, qcow2_kind}
use Rattle.qimg_chain.proofs.SeenThrough.{early_outcome, at_once_ok, at_once_err}
use Rattle.qimg_chain.proofs.CallsThrough.{stateless_run, stateless_nowhere, same_runs, prepares, prepares_ok, prepares_err}
use Rattle.qimg_chain.proofs.chain.drivers.ImageDriverFormatDriverInstance.prepare_data_mapping.Goals as goal

pub returns-in_ok-mapping-in-Raw-clause-does : goal.returns-in_ok-mapping-in-Raw-clause-does
returns-in_ok-mapping-in-Raw-clause-does g c =
    let kind = raw_kind g.row.S g.S.Storage g.S.Storage-dict g.S.Destruct-dict in
    let m = c.in_ok-mapping-in-Raw.mapping in
    rw (c.in-Raw.is) (prepares_ok kind
    c.in-Raw.raw c.prepare_data_mapping.new.self g.B.LayersBelowModel c.args.below.now c.prepare_data_mapping.new._below
    (asking c.args.offset c.args.length c.args.overwrite) m c.stateless.result
    (stateless_run kind m c.stateless.result c.stateless.ensures.value c.stateless.ensures.none)
    c.in_ok-mapping-in-Raw.ensures.does)

pub returns-in_err-mapping-in-Raw-clause-does : goal.returns-in_err-mapping-in-Raw-clause-does
returns-in_err-mapping-in-Raw-clause-does g c =
    let kind = raw_kind g.row.S g.S.Storage g.S.Storage-dict g.S.Destruct-dict in
    rw (c.in-Raw.is, handed_on _ _ c.from_residual.ensures.1) (prepares_err kind
    c.in-Raw.raw c.prepare_data_mapping.new.self g.B.LayersBelowModel c.args.below.now c.prepare_data_mapping.new._below
    (asking c.args.offset c.args.length c.args.overwrite) c.in_err-mapping-in-Raw.field-0.0 c.in_err-mapping-in-Raw.ensures.does)

pub returns-in_ok-mapping-in-Vmdk-clause-does : goal.returns-in_ok-mapping-in-Vmdk-clause-does
returns-in_ok-mapping-in-Vmdk-clause-does g c =
    let kind = vmdk_kind g.row.S g.S.Storage g.S.Storage-dict g.S.Destruct-dict in
    let m = c.in_ok-mapping-in-Vmdk.mapping in
    let plain = c.stateless-in-Vmdk in
    rw (c.in-Vmdk.is) (prepares_ok kind
    c.in-Vmdk.vmdk c.prepare_data_mapping-in-Vmdk.new.self g.B.LayersBelowModel c.args.below.now c.prepare_data_mapping-in-Vmdk.new._below
    (asking c.args.offset c.args.length c.args.overwrite) m plain.result
    (stateless_run kind m plain.result plain.ensures.value plain.ensures.none)
    c.in_ok-mapping-in-Vmdk.ensures.does)

pub returns-in_ok-mapping-in-Vmdk-clause-early_outcome : goal.returns-in_ok-mapping-in-Vmdk-clause-early_outcome
returns-in_ok-mapping-in-Vmdk-clause-early_outcome g c =
    let kind = vmdk_kind g.row.S g.S.Storage g.S.Storage-dict g.S.Destruct-dict in
    rw (c.in-Vmdk.is) (at_once_ok kind
    c.in-Vmdk.vmdk c.prepare_data_mapping-in-Vmdk.new.self _ _ c.in_ok-mapping-in-Vmdk.mapping c.stateless-in-Vmdk.result
    c.in_ok-mapping-in-Vmdk.ensures.early_outcome)

pub returns-in_ok-mapping-in-Vmdk-clause-empty : goal.returns-in_ok-mapping-in-Vmdk-clause-empty
returns-in_ok-mapping-in-Vmdk-clause-empty g c = rw (c.in-Vmdk.is) (λ none.
    let h = c.in_ok-mapping-in-Vmdk.ensures.empty none in (
      stateless_nowhere c.in_ok-mapping-in-Vmdk.mapping c.stateless-in-Vmdk.result c.stateless-in-Vmdk.ensures.value h.0,
      h.1,
    ))

pub returns-in_err-mapping-in-Vmdk-clause-does : goal.returns-in_err-mapping-in-Vmdk-clause-does
returns-in_err-mapping-in-Vmdk-clause-does g c =
    let kind = vmdk_kind g.row.S g.S.Storage g.S.Storage-dict g.S.Destruct-dict in
    rw (c.in-Vmdk.is, handed_on _ _ c.from_residual-in_err-mapping-in-Vmdk.ensures.1) (prepares_err kind
    c.in-Vmdk.vmdk c.prepare_data_mapping-in-Vmdk.new.self g.B.LayersBelowModel c.args.below.now c.prepare_data_mapping-in-Vmdk.new._below
    (asking c.args.offset c.args.length c.args.overwrite) c.in_err-mapping-in-Vmdk.field-0.0 c.in_err-mapping-in-Vmdk.ensures.does)

pub returns-in_err-mapping-in-Vmdk-clause-early_outcome : goal.returns-in_err-mapping-in-Vmdk-clause-early_outcome
returns-in_err-mapping-in-Vmdk-clause-early_outcome g c =
    let kind = vmdk_kind g.row.S g.S.Storage g.S.Storage-dict g.S.Destruct-dict in
    rw (c.in-Vmdk.is, handed_on _ _ c.from_residual-in_err-mapping-in-Vmdk.ensures.1) (at_once_err kind
    c.in-Vmdk.vmdk c.prepare_data_mapping-in-Vmdk.new.self _ _ c.in_err-mapping-in-Vmdk.field-0.0 c.in_err-mapping-in-Vmdk.ensures.early_outcome)

pub returns-in-Qcow2-clause-does : goal.returns-in-Qcow2-clause-does
returns-in-Qcow2-clause-does g c =
    let kind = qcow2_kind g.row.S g.S.Storage g.S.Storage-dict g.S.Destruct-dict in
    rw (c.in-Qcow2.is) (prepares kind
    c.in-Qcow2.qcow2 c.prepare_data_mapping-in-Qcow2.new.self g.B.LayersBelowModel c.args.below.now c.prepare_data_mapping-in-Qcow2.new.below
    (asking c.args.offset c.args.length c.args.overwrite) c.prepare_data_mapping-in-Qcow2.result c.prepare_data_mapping-in-Qcow2.result
    (same_runs kind (λ m. refl) c.prepare_data_mapping-in-Qcow2.result) c.prepare_data_mapping-in-Qcow2.ensures.does)

pub returns-in-Qcow2-clause-early_outcome : goal.returns-in-Qcow2-clause-early_outcome
returns-in-Qcow2-clause-early_outcome g c =
    let kind = qcow2_kind g.row.S g.S.Storage g.S.Storage-dict g.S.Destruct-dict in
    rw (c.in-Qcow2.is) (early_outcome kind
    c.in-Qcow2.qcow2 c.prepare_data_mapping-in-Qcow2.new.self _ _ _ c.prepare_data_mapping-in-Qcow2.ensures.early_outcome)

pub returns-in-Qcow2-clause-empty : goal.returns-in-Qcow2-clause-empty
returns-in-Qcow2-clause-empty g c = rw (c.in-Qcow2.is) c.prepare_data_mapping-in-Qcow2.ensures.empty
