use Rattle.std.proofs.Common.{refl, ◌∙◌, ap, inl, inr, subst, sym, List, ℕ}
use Rattle.imago_storage.specs.State.{Shape}
use Rattle.imago_storage.proofs.Composing.{keeps_on}
use Rattle.imago_access.proofs.Stopping.{passes_none}
use Rattle.access_cases.specs.Clusters.{cluster_fixed, failed_by, IsHeldIn}
use Rattle.access_cases.proofs.FileWrites.{unread_faultless, marked_or_same, same_layer, failed_on, mild_failed}
use Rattle.access_cases.proofs.clusters.OneClusterFormatDriverInstance.read_mapped.Goals as goal

pub returns-in-Err-clause-lookup_call : goal.returns-in-Err-clause-lookup_call
returns-in-Err-clause-lookup_call g c =
    let d = c.args.self.now in
    let old = g.S.Storage.state d.file in
    let new = g.S.Storage.state c.read.new.self in
    let kept = c.read.ensures.unchanged_but_faults in
    let e = c.in-Err.fault in
    let fits = subst (λ (f : List ℕ). IsHeldIn d.size d.backed f d.content) (sym kept.bytes) in
    rw (c.cut_off.ensures.same, c.cut_off.ensures.marked) (record {
      keeps_layer_state = record { fixed = ap (λ (s : Shape). cluster_fixed s d) kept.shape; size = refl; unspent = refl; failed = failed_on e d.failed };
      counts_not_fallen = ((kept.shape, c.read.ensures.counts_not_fallen), tt);
      faults = λ not_resource_error. (unread_faultless old new c.args.place _ e c.in-Err.ensures.err not_resource_error, tt);
      stays = λ not_resource_error coherent. (same_layer old new d (failed_by e d.failed) kept.shape kept.bytes (mild_failed e d.failed not_resource_error), tt);
      safely = λ not_resource_error well_formed. record { runs = mild_failed e d.failed not_resource_error ∙ well_formed.runs; keeps = keeps_on old new kept.shape well_formed.keeps; fits = fits well_formed.fits };
      cut = elim (marked_or_same e d.failed) [
        | inl failed ↦ inl failed
        | inr same ↦ inr (record {
          seen = λ coherent. (same_layer old new d (failed_by e d.failed) kept.shape kept.bytes same, tt);
          safely = λ well_formed. record { runs = same ∙ well_formed.runs; keeps = keeps_on old new kept.shape well_formed.keeps; fits = fits well_formed.fits };
        })
      ];
      stays_stable = λ l. l;
      excess_refcount = λ w s c. refl;
      unchanged_but_faults = λ has_no_dirty_data. (((kept, c.read.ensures.counts_not_fallen.faults), tt), tt);
      crash_images = λ well_formed below. passes_none _ old new kept.shape (kept.crash_image, kept.past_crash_images, kept.bytes, kept.refusals);
    })
