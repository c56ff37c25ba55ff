use Rattle.std.proofs.Common.{sym, ◌∙◌}
use Rattle.access_cases.proofs.clusters.OneClusterFormatDriverInstance.commit_data_mapping.Goals as goal

pub returns-in-Ok-settle-clause-commits : goal.returns-in-Ok-settle-clause-commits
returns-in-Ok-settle-clause-commits g c =
    let state = sym c.into_state.ensures ∙ c.in-Some.is in
    let done = c.in-Ok-settle.ensures in
    rw state (record {
      ok = (c.in-Ok-check_commit.ensures.own, done.ok);
      size = done.size;
      room = λ well_formed mine. done.room;
      crash_images = λ well_formed mine. done.crash_images well_formed;
      mutating_call = record {
        fixed = done.mutating_call.fixed;
        failed = done.mutating_call.failed;
        counts_not_fallen = done.mutating_call.counts_not_fallen;
        faults = done.mutating_call.faults;
        safely = λ whole well_formed. done.mutating_call.safely (whole.0, whole.1.1) well_formed;
        stays_stable = done.mutating_call.stays_stable;
        excess_refcount = λ whole well_formed. done.mutating_call.excess_refcount (whole.0, whole.1.1) well_formed;
      };
      coherent = λ none coherent. tt;
      stays_begun = λ x call begun mine. tt;
    })

pub returns-in-Err-settle-clause-commits : goal.returns-in-Err-settle-clause-commits
returns-in-Err-settle-clause-commits g c =
    let state = sym c.into_state.ensures ∙ c.in-Some.is in
    let refused = c.in-Err-settle.ensures in
    rw state (record {
      ok = tt;
      size = refused.size;
      room = λ well_formed mine. tt;
      crash_images = λ well_formed mine. refused.crash_images well_formed;
      mutating_call = record {
        fixed = refused.mutating_call.fixed;
        failed = refused.mutating_call.failed;
        counts_not_fallen = refused.mutating_call.counts_not_fallen;
        faults = refused.mutating_call.faults;
        safely = λ whole well_formed. refused.mutating_call.safely (whole.0, whole.1.1) well_formed;
        stays_stable = refused.mutating_call.stays_stable;
        excess_refcount = λ whole well_formed. refused.mutating_call.excess_refcount (whole.0, whole.1.1) well_formed;
      };
      coherent = λ none coherent. tt;
      stays_begun = λ x call begun mine. tt;
    })
