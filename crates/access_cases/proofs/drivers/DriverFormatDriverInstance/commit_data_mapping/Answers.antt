use Rattle.std.proofs.Common.{refl}
use Rattle.std.proofs.lemmas.Result.{IfErr-weaker}
use Rattle.std.proofs.lemmas.Option.{IfSome_then}
use Rattle.access_cases.specs.declared.drivers.Driver.TheVariants.{Words}
use Rattle.access_cases.proofs.SeenAs.{on_ok_weaker, unchanged_as}
use Rattle.access_cases.proofs.drivers.DriverFormatDriverInstance.commit_data_mapping.Goals as goal

pub returns-in-Words-clause-commits : goal.returns-in-Words-clause-commits
returns-in-Words-clause-commits g c = let h = c.commit_data_mapping.ensures.commits in rw (c.in-Words.is) (record {
  ok = h.ok;
  size = h.size;
  room = λ well_formed mine. on_ok_weaker c.commit_data_mapping.result _ _ (λ left. record { stays_allocated = left.stays_allocated; free = left.free; zeroes = left.zeroes }) (h.room well_formed mine);
  crash_images = h.crash_images;
  mutating_call = record { fixed = h.mutating_call.fixed; failed = h.mutating_call.failed; counts_not_fallen = h.mutating_call.counts_not_fallen; faults = h.mutating_call.faults; safely = h.mutating_call.safely; stays_stable = h.mutating_call.stays_stable; excess_refcount = h.mutating_call.excess_refcount };
  coherent = h.coherent;
  stays_begun = λ x call begun mine. on_ok_weaker c.commit_data_mapping.result _ _ (λ done. begun) (h.ok);
})

pub returns-in-Words-clause-refused : goal.returns-in-Words-clause-refused
returns-in-Words-clause-refused g c = let h = c.commit_data_mapping.ensures.refused in rw (c.in-Words.is) (record {
  early_outcome = h.early_outcome;
  unchanged = λ none. unchanged_as Words _ _ refl _ _ (λ x call begun. begun) (h.unchanged none);
  back = IfErr-weaker c.commit_data_mapping.result _ _ (λ e k. IfSome_then e.1 k (λ m back. (back.0, back.1, unchanged_as Words _ _ refl _ _ (λ x call begun. begun) back.2))) h.back;
  spent = h.spent;
  failed = h.failed;
})
