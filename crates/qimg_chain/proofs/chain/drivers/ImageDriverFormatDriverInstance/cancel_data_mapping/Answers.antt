use Rattle.std.proofs.Common.{refl}
use Rattle.std.proofs.lemmas.Result.{IfErr-weaker}
use Rattle.qimg_chain.proofs.ImageKinds.{qcow2_kind}
use Rattle.qimg_chain.proofs.SeenThrough.{leaves, on, unchanged}
use Rattle.qimg_chain.proofs.StatelessDrivers.{cancels}
use Rattle.qimg_chain.proofs.chain.drivers.ImageDriverFormatDriverInstance.cancel_data_mapping.Goals as goal

pub returns-in-Raw : goal.returns-in-Raw
returns-in-Raw g c =
    rw (c.in-Raw.is) (record {
      cancels = cancels _ _ c.args.mapping c.cancel_stateless.result
          (λ s. refl) refl refl c.cancel_stateless.ensures.ok c.cancel_stateless.ensures.back;
    })

pub returns-in-Vmdk : goal.returns-in-Vmdk
returns-in-Vmdk g c =
    rw (c.in-Vmdk.is) (record {
      cancels = cancels _ _ c.args.mapping c.cancel_stateless-in-Vmdk.result
          (λ s. refl) refl refl c.cancel_stateless-in-Vmdk.ensures.ok c.cancel_stateless-in-Vmdk.ensures.back;
    })

pub returns-in-Qcow2 : goal.returns-in-Qcow2
returns-in-Qcow2 g c =
    let kind = qcow2_kind g.row.S g.S.Storage g.S.Storage-dict g.S.Destruct-dict in
    let a = c.in-Qcow2.qcow2 in
    let b = c.cancel_data_mapping.new.self in
    let h = c.cancel_data_mapping.ensures.cancels in
    rw (c.in-Qcow2.is) (record {
      cancels = record {
        ok = h.ok;
        back = IfErr-weaker c.cancel_data_mapping.result _ _ (λ e k. (k.0, k.1, k.2, unchanged kind a b k.3)) h.back;
        unchanged = λ none. unchanged kind a b (h.unchanged none);
        fixed = h.fixed;
        size = h.size;
        failed = h.failed;
        none = h.none;
        stable = h.stable;
        excess_refcount = h.excess_refcount;
        coherent = h.coherent;
        well_formed = h.well_formed;
        room = λ well_formed mine. leaves kind a b _ _ (h.room well_formed mine);
        stays_begun = on kind a b h.stays_begun;
      };
    })
