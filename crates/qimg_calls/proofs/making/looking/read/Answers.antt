use Rattle.std.specs.Prelude.{take, drop}
use Rattle.std.proofs.Common.{◌≡◌, ◌++◌, ℕ, List, length, ◌∙◌, ap, arith, refl, subst, sym}
use Rattle.std.proofs.Math.Seq.{take-append_seam}
use Rattle.imago_storage.specs.Steps.{read, bytes_read}
use Rattle.imago_access.specs.ChainLooks.{ChainReads}
use Rattle.qimg_calls.specs.declared.call.Answer.TheVariants as told
use Rattle.qimg_calls.proofs.EarlyEnds.{all-unchanged, look-stays-failed}
use Rattle.qimg_calls.proofs.Leading.{like-kept, look-leads, looked-stays}
use Rattle.qimg_calls.proofs.making.looking.read.Goals as goal

-- A buffer that is filled completely equals the bytes.
filled : (bytes rest : List ℕ) (len : ℕ) {n : ℕ} → length bytes ≡ n → len ≡ n → take len (bytes ++ rest) ≡ bytes
filled bytes rest len same all = rw (all ∙ sym same) (take-append_seam bytes rest)

pub returns-in-Ok-clause-made : goal.returns-in-Ok-clause-made
returns-in-Ok-clause-made g c kept is =
    let d = g.D.DriverModel in
    let m = g.met.D.FormatDriverInstance in
    let old = c.args.chain.now in
    let new = c.read.new.self in
    let e = c.in-Ok.ensures in
    record {
      fits = tt;
      early_outcome = λ f is. absurd (cc ((rw (c.deref_mut.ensures.len ∙ c.in_ok-buf.ensures.len) at e.early_outcome) f is));
      idle = λ nothing usable. tt;
      untouched = λ early. all-unchanged d old new ((rw (c.deref_mut.ensures.len ∙ c.in_ok-buf.ensures.len) at e.untouched) early);
      stays_kept = λ some. refl;
      room = λ intact on. tt;
      units = λ intact may was. tt;
      marks_failed = tt;
      stays_failed = look-stays-failed d old new _ e.lookup_call;
      failed = tt;
      cancels = λ is. absurd (cc is);
      moves = λ coherent. (
        let ok = e.ok coherent in
            let size : length c.deref_mut.result.now ≡ c.args.length = c.deref_mut.ensures.len ∙ c.in_ok-buf.ensures.len in (
              bytes_read _,
              refl,
              subst (λ (bytes : List ℕ). ChainReads d c.args.offset c.args.length bytes old new)
                  (sym (filled c.read.new.buf (drop (length c.read.new.buf) c.in_ok-buf.buf.items) c.in_ok-buf.buf.len (ok.0 ∙ size) c.in_ok-buf.ensures.len))
                  (ok.0 ∙ size, ok.1, ok.2),
              (e.lookup_call.0.stays tt coherent.0).0,
            ),
        refl,
      );
      leads = look-leads d old new _ _ (read c.args.offset c.args.length) m.well_formed_is_coherent e.lookup_call (λ on. tt) (omega arith) (omega arith);
      mapping_prepared = like-kept d old new kept e.lookup_call.0.keeps_layer_state;
      same = λ _. refl;
    }

pub returns-in-Err-clause-made : goal.returns-in-Err-clause-made
returns-in-Err-clause-made g c kept is =
    let d = g.D.DriverModel in
    let m = g.met.D.FormatDriverInstance in
    let old = c.args.chain.now in
    let new = c.read.new.self in
    let e = c.in-Err.ensures in
    record {
      fits = tt;
      early_outcome = λ f is. ap told.Refused (cc ((rw (c.deref_mut.ensures.len ∙ c.in_ok-buf.ensures.len) at e.early_outcome) f is));
      idle = λ nothing usable. absurd (cc ((rw (c.deref_mut.ensures.len ∙ c.in_ok-buf.ensures.len) at e.idle) nothing usable));
      untouched = λ early. all-unchanged d old new ((rw (c.deref_mut.ensures.len ∙ c.in_ok-buf.ensures.len) at e.untouched) early);
      stays_kept = λ some. refl;
      room = λ intact on. tt;
      units = λ intact may was. tt;
      marks_failed = e.marks_failed;
      stays_failed = look-stays-failed d old new _ e.lookup_call;
      failed = e.failed;
      cancels = λ is. absurd (cc is);
      moves = λ coherent. (rw (c.deref_mut.ensures.len ∙ c.in_ok-buf.ensures.len) at e.cause coherent, λ not_resource_error. (((e.lookup_call.0.stays not_resource_error coherent.0).0, looked-stays d old new _ not_resource_error e.lookup_call coherent), refl));
      leads = look-leads d old new _ _ (read c.args.offset c.args.length) m.well_formed_is_coherent e.lookup_call (λ on. on) (omega arith) (omega arith);
      mapping_prepared = like-kept d old new kept e.lookup_call.0.keeps_layer_state;
      same = λ _. refl;
    }
