use Rattle.std.proofs.Common.{refl}
use Rattle.access_cases.specs.declared.drivers.Driver.TheVariants.{Raw, Words}
use Rattle.access_cases.proofs.SeenAs.{run_refused_as, run_refused_err, at_once_as}
use Rattle.access_cases.proofs.OwnCauses.{raw_causes, words_causes}
use Rattle.access_cases.proofs.drivers.DriverFormatDriverInstance.prepare_data_mapping.Goals as goal

pub returns-in-Words-clause-does : goal.returns-in-Words-clause-does
returns-in-Words-clause-does g c = let h = c.prepare_data_mapping-in-Words.ensures.does in rw (c.in-Words.is) (record {
  ok = h.ok;
  err = h.err;
  uncut = h.uncut;
  no_range_overflow = h.no_range_overflow;
  room = λ well_formed coherent whole. let left = h.room well_formed coherent whole in record { stays_allocated = left.stays_allocated; free = left.free; zeroes = left.zeroes };
  crash_images = h.crash_images;
  mutating_call = record { fixed = h.mutating_call.fixed; failed = h.mutating_call.failed; counts_not_fallen = h.mutating_call.counts_not_fallen; faults = h.mutating_call.faults; safely = h.mutating_call.safely; stays_stable = h.mutating_call.stays_stable; excess_refcount = h.mutating_call.excess_refcount };
  stays_begun = λ x call begun part whole. begun;
  refused = run_refused_as Words _ _ refl _ _ (λ x call begun. begun) _ _ _ _ _ (words_causes c.in-Words.words) h.refused;
})

pub returns-in-Err-clause-does : goal.returns-in-Err-clause-does
returns-in-Err-clause-does g c = let h = rw c.in-Err.is at c.prepare_data_mapping.ensures.does in rw (c.in-Raw.is) (record {
  ok = h.ok;
  err = h.err;
  uncut = h.uncut;
  no_range_overflow = h.no_range_overflow;
  room = λ well_formed coherent whole. let left = h.room well_formed coherent whole in record { stays_allocated = left.stays_allocated; free = left.free; zeroes = left.zeroes };
  crash_images = h.crash_images;
  mutating_call = record { fixed = h.mutating_call.fixed; failed = h.mutating_call.failed; counts_not_fallen = h.mutating_call.counts_not_fallen; faults = h.mutating_call.faults; safely = h.mutating_call.safely; stays_stable = h.mutating_call.stays_stable; excess_refcount = h.mutating_call.excess_refcount };
  stays_begun = λ x call begun part whole. begun;
  refused = run_refused_err Raw _ _ refl _ _ (λ x call begun. begun) _ _ _ _ _ (raw_causes c.in-Raw.raw) h.refused;
})

pub returns-in-Ok-clause-does : goal.returns-in-Ok-clause-does
returns-in-Ok-clause-does g c =
    let h = rw c.in-Ok.is at c.prepare_data_mapping.ensures.does in
    let mapping = c.stateless.ensures.value in
    rw (c.in-Raw.is, mapping) (record {
      ok = λ well_formed coherent. rw c.stateless.ensures.none at (h.ok well_formed coherent);
      err = λ well_formed coherent. tt;
      uncut = h.uncut;
      no_range_overflow = h.no_range_overflow;
      room = λ well_formed coherent whole. let left = h.room well_formed coherent whole in record { stays_allocated = left.stays_allocated; free = left.free; zeroes = left.zeroes };
      crash_images = h.crash_images;
      mutating_call = record { fixed = h.mutating_call.fixed; failed = h.mutating_call.failed; counts_not_fallen = h.mutating_call.counts_not_fallen; faults = h.mutating_call.faults; safely = h.mutating_call.safely; stays_stable = h.mutating_call.stays_stable; excess_refcount = h.mutating_call.excess_refcount };
      stays_begun = λ x call begun part whole. begun;
      refused = record { failed = tt; marks_failed = tt; cause = λ well_formed coherent x call begun part same. tt };
    })

pub returns-in-Words-clause-early_outcome : goal.returns-in-Words-clause-early_outcome
returns-in-Words-clause-early_outcome g c = rw (c.in-Words.is) (at_once_as Words _ _ refl _ _ (λ x call begun. begun) _ _ _ c.prepare_data_mapping-in-Words.ensures.early_outcome)
