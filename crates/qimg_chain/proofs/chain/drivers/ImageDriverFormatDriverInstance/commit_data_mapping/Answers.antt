use Rattle.std.proofs.Common.{refl}
use Rattle.std.proofs.lemmas.Option.{IfSome_then}
use Rattle.std.proofs.lemmas.Result.{IfErr-weaker}
use Rattle.qimg_chain.specs.declared.chain.image_driver.ImageDriver.TheVariants as variant
use Rattle.qimg_chain.proofs.CallsThrough.{on_ok_weaker}
use Rattle.qimg_chain.proofs.ImageKinds.{qcow2_kind}
use Rattle.qimg_chain.proofs.SeenThrough.{began_on_ok, leaves, stops, unchanged, mutating_call}
use Rattle.qimg_chain.proofs.StatelessDrivers.{commits, commit_refused}
use Rattle.qimg_chain.proofs.chain.drivers.ImageDriverFormatDriverInstance.commit_data_mapping.Goals as goal

pub returns-in-Raw-clause-commits : goal.returns-in-Raw-clause-commits
returns-in-Raw-clause-commits g c =
    rw (c.in-Raw.is) (commits _ (variant.Raw c.in-Raw.raw) c.ready.result c.writable.result
    (record { tags = λ s. refl; numbered = refl; free = refl; writes = c.writable.ensures; can = c.ready.ensures.ok; cannot = c.ready.ensures.err })
    c.args.mapping.state c.commit_stateless.result c.commit_stateless.ensures.ok)

pub returns-in-Raw-clause-refused : goal.returns-in-Raw-clause-refused
returns-in-Raw-clause-refused g c =
    rw (c.in-Raw.is) (commit_refused _ (variant.Raw c.in-Raw.raw) c.ready.result c.writable.result
    (record { tags = λ s. refl; numbered = refl; free = refl; writes = c.writable.ensures; can = c.ready.ensures.ok; cannot = c.ready.ensures.err })
    c.args.mapping c.commit_stateless.result
    c.commit_stateless.ensures.ok c.commit_stateless.ensures.back c.commit_stateless.ensures.cause)

pub returns-in-Vmdk-clause-commits : goal.returns-in-Vmdk-clause-commits
returns-in-Vmdk-clause-commits g c =
    rw (c.in-Vmdk.is) (commits _ (variant.Vmdk c.in-Vmdk.vmdk) c.ready-in-Vmdk.result c.writable-in-Vmdk.result
    (record {
      tags = λ s. refl;
      numbered = refl;
      free = refl;
      writes = c.writable-in-Vmdk.ensures;
      can = c.ready-in-Vmdk.ensures.ok;
      cannot = c.ready-in-Vmdk.ensures.err;
    })
    c.args.mapping.state c.commit_stateless-in-Vmdk.result c.commit_stateless-in-Vmdk.ensures.ok)

pub returns-in-Vmdk-clause-refused : goal.returns-in-Vmdk-clause-refused
returns-in-Vmdk-clause-refused g c =
    rw (c.in-Vmdk.is) (commit_refused _ (variant.Vmdk c.in-Vmdk.vmdk) c.ready-in-Vmdk.result c.writable-in-Vmdk.result
    (record {
      tags = λ s. refl;
      numbered = refl;
      free = refl;
      writes = c.writable-in-Vmdk.ensures;
      can = c.ready-in-Vmdk.ensures.ok;
      cannot = c.ready-in-Vmdk.ensures.err;
    })
    c.args.mapping c.commit_stateless-in-Vmdk.result
    c.commit_stateless-in-Vmdk.ensures.ok c.commit_stateless-in-Vmdk.ensures.back c.commit_stateless-in-Vmdk.ensures.cause)

pub returns-in-Qcow2-clause-commits : goal.returns-in-Qcow2-clause-commits
returns-in-Qcow2-clause-commits g c =
    let kind = qcow2_kind g.row.S g.S.Storage g.S.Storage-dict g.S.Destruct-dict in
    let a = c.in-Qcow2.qcow2 in
    let b = c.commit_data_mapping.new.self in
    let h = c.commit_data_mapping.ensures.commits in
    rw (c.in-Qcow2.is) (record {
      ok = h.ok;
      size = h.size;
      room = λ well_formed mine. on_ok_weaker c.commit_data_mapping.result _ _ (λ left. leaves kind a b _ _ left) (h.room well_formed mine);
      crash_images = λ well_formed mine below. stops kind a b below _ _ _ (h.crash_images well_formed mine below);
      mutating_call = mutating_call kind a b _ _ h.mutating_call;
      coherent = h.coherent;
      stays_begun = λ e call now mine. began_on_ok kind a b c.commit_data_mapping.result (λ d y is. h.stays_begun d y is mine) e call now;
    })

pub returns-in-Qcow2-clause-refused : goal.returns-in-Qcow2-clause-refused
returns-in-Qcow2-clause-refused g c =
    let kind = qcow2_kind g.row.S g.S.Storage g.S.Storage-dict g.S.Destruct-dict in
    let a = c.in-Qcow2.qcow2 in
    let b = c.commit_data_mapping.new.self in
    let h = c.commit_data_mapping.ensures.refused in
    rw (c.in-Qcow2.is) (record {
      early_outcome = h.early_outcome;
      unchanged = λ why. unchanged kind a b (h.unchanged why);
      back = IfErr-weaker c.commit_data_mapping.result _ _ (λ e k. IfSome_then e.1 k (λ m back. (back.0, back.1, unchanged kind a b back.2))) h.back;
      spent = h.spent;
      failed = h.failed;
    })
