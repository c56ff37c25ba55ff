use Rattle.std.proofs.Common.{refl, sym, ◌∙◌, inr}
use Rattle.access_cases.proofs.PreparedRuns.{room_by}
use Rattle.access_cases.proofs.clusters.OneClusterFormatDriverInstance.cancel_data_mapping.Goals as goal

pub returns-then-run-state : goal.returns-then-run-state
returns-then-run-state g c =
    let d = c.args.self.now in
    let prepared = c.in-Prepared.is in
    let state = sym c.into_state.ensures ∙ c.in-Some.is in
    record {
      cancels = record {
        ok = rw state (c.if-state-self.false, λ mine. record { fixed = rw prepared refl; size = refl; failed = refl; is_free = refl; cell = rw prepared refl });
        back = tt;
        unchanged = λ none. absurd (cc none);
        fixed = rw prepared refl;
        size = refl;
        failed = refl;
        none = (refl, refl);
        stable = λ l. l;
        excess_refcount = λ mine s c. refl;
        coherent = λ s. s;
        well_formed = λ mine well_formed. record { runs = well_formed.runs; keeps = well_formed.keeps; fits = let fits = rw prepared at well_formed.fits in fits.0 };
        room = λ well_formed mine. record { stays_allocated = λ p there room. absurd (room_by d.content _ d.size p prepared room); free = λ p there bare. inr tt; zeroes = λ p there there' bare. inr tt };
        stays_begun = λ x call begun. tt;
      };
    }
