use Rattle.std.proofs.Common.{rules, refl, ◌∙◌, ◌+◌, arith, inl, inr, ⊎_elim}
use Rattle.imago_access.proofs.Stopping.{passes_none}
use Rattle.access_cases.proofs.PreparedRuns.{home_between, takes_byte, stays_held, room_by}
use Rattle.access_cases.proofs.clusters.OneClusterFormatDriverInstance.write_mapped.Goals as goal

pub returns-else-not-takes-clause-writes : goal.returns-else-not-takes-clause-writes
returns-else-not-takes-clause-writes g c =
    let d = c.args.self.now in
    let r = c.in-Prepared.run' in
    let prepared = c.in-Prepared.is in
    let guest = c.args.guest in
    let bytes = c.args.bytes.now in
    let written = c.note.new.written.items in
    let within = c.takes.ensures.yes (search rules) in
    record {
      mapped = λ coherent some. (0, λ i lt. rw (prepared, c.if-place-guest.false) (home_between r.start r.end (guest + i) (omega (arith, within.0)) (omega (arith, lt, within.1))));
      empty = λ none. absurd (omega (arith, none));
      keeps_layer_state = record { fixed = rw prepared refl; size = refl; unspent = rw prepared refl; failed = λ f. f };
      ok = λ well_formed. record {
        keeps_layer_state = record { fixed = rw prepared refl; size = refl; unspent = rw prepared refl; failed = λ f. f };
        writable_location = rw prepared refl;
        range = λ i lt. rw prepared (takes_byte d.size r.start r.end (guest + i) _ r.overwrite r.written.items written _ (omega (arith, within.0)) (omega (arith, lt, within.1)) (c.note.ensures.inside i lt));
        others = λ p out. rw prepared (refl, stays_held d.size r.start r.end p r.overwrite r.written.items written (c.note.ensures.outside p out));
      };
      err = λ well_formed. tt;
      room = λ well_formed whole. record { stays_allocated = λ p there room. absurd (room_by d.content _ d.size p prepared room); free = λ p there bare. inr tt; zeroes = λ p there there' bare. inr tt };
      crash_images = λ well_formed below. passes_none _ _ _ refl (refl, refl, refl, refl);
      mutating_call = record {
        fixed = rw prepared refl;
        failed = λ f. f;
        counts_not_fallen = search rules;
        faults = λ whole. ((refl, refl), tt);
        safely = λ whole well_formed. let fits = rw prepared at well_formed.fits in record {
          runs = well_formed.runs;
          keeps = well_formed.keeps;
          fits = (
            fits.0,
            record {
              all = c.note.ensures.len ∙ fits.1.all;
              inside = fits.1.inside;
              alone = fits.1.alone;
              others = λ p out. c.note.ensures.outside p (⊎_elim (λ before. inl (omega (arith, before, within.0))) (λ behind. inr (omega (arith, behind, within.1))) out) ∙ fits.1.others p out;
            },
          );
        };
        stays_stable = λ l. l;
        excess_refcount = λ w s c. refl;
      };
      stays_begun = λ x call begun. tt;
    }

pub returns-in-Unmapped-clause-refused : goal.returns-in-Unmapped-clause-refused
returns-in-Unmapped-clause-refused g c = record {
  failed = tt;
  marks_failed = tt;
  cause = λ well_formed. (omega arith, λ mapped. let at = rw c.in-Unmapped.is at (mapped.1 0 (omega arith)) in absurd (cc at));
}

pub returns-in-Zeroed-clause-refused : goal.returns-in-Zeroed-clause-refused
returns-in-Zeroed-clause-refused g c = record {
  failed = tt;
  marks_failed = tt;
  cause = λ well_formed. (omega arith, λ mapped. let at = rw c.in-Zeroed.is at (mapped.1 0 (omega arith)) in absurd (cc at));
}

pub returns-in-Barred-clause-refused : goal.returns-in-Barred-clause-refused
returns-in-Barred-clause-refused g c = record {
  failed = tt;
  marks_failed = tt;
  cause = λ well_formed. (omega arith, λ mapped. let at = rw c.in-Barred.is at (mapped.1 0 (omega arith)) in absurd (cc at));
}
