use Rattle.std.proofs.Common.{refl}
use Rattle.std.proofs.lemmas.Result.{IfErr-weaker}
use Rattle.access_cases.specs.declared.drivers.Driver.TheVariants.{Words}
use Rattle.access_cases.proofs.SeenAs.{unchanged_as}
use Rattle.access_cases.proofs.drivers.DriverFormatDriverInstance.cancel_data_mapping.Goals as goal

pub returns-in-Words : goal.returns-in-Words
returns-in-Words g c = let h = c.cancel_data_mapping.ensures.cancels in rw (c.in-Words.is) (record {
  cancels = record {
    ok = h.ok;
    back = IfErr-weaker c.cancel_data_mapping.result _ _ (λ e k. (k.0, k.1, k.2, unchanged_as Words _ _ refl _ _ (λ x call begun. begun) k.3)) h.back;
    unchanged = λ none. unchanged_as Words _ _ refl _ _ (λ x call begun. begun) (h.unchanged none);
    fixed = h.fixed;
    size = h.size;
    failed = h.failed;
    none = h.none;
    stable = h.stable;
    excess_refcount = h.excess_refcount;
    coherent = h.coherent;
    well_formed = h.well_formed;
    room = λ well_formed mine. let left = h.room well_formed mine in record { stays_allocated = left.stays_allocated; free = left.free; zeroes = left.zeroes };
    stays_begun = λ x call begun. begun;
  };
})
