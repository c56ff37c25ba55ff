use Rattle.std.proofs.Common.{rules, ◌≡◌, ◌+◌, ◌∷◌, false, refl, ap, inr, arith}
use Rattle.std.specs.Prelude.{⊤}
use Rattle.imago_access.specs.Files.{IsNotResourceError}
use Rattle.imago_access.specs.Chain.{at}
use Rattle.imago_access.proofs.Stopping.{passes_none}
use Rattle.access_cases.specs.contracts.clusters.OneClusterDriverModel.TheImpl.{ghosts}
use Rattle.access_cases.specs.Clusters.{blank_of, held_in}
use Rattle.access_cases.proofs.PreparedRuns.{run_prepared, apart_loose, run_fits, room_by}
use Rattle.access_cases.proofs.Declining.{mild_marks_over}
use Rattle.imago_access.proofs.FilePairs.{is_later_same}
use Rattle.imago_access.proofs.Looking.{looked_under_same}
use Rattle.imago_access.proofs.Running.{went_same}
use Rattle.access_cases.proofs.clusters.OneClusterFormatDriverInstance.prepare_data_mapping.Goals as goal

pub returns-in-Err-clause-below : goal.returns-in-Err-clause-below
returns-in-Err-clause-below g c = looked_under_same g.B.LayersBelowModel (IsNotResourceError c.in-Err.fault) c.args._below.now

pub returns-then-length-eq0-clause-below : goal.returns-then-length-eq0-clause-below
returns-then-length-eq0-clause-below g c = looked_under_same g.B.LayersBelowModel (⊤) c.args._below.now

pub returns-in-Mapped-clause-below : goal.returns-in-Mapped-clause-below
returns-in-Mapped-clause-below g c = looked_under_same g.B.LayersBelowModel (⊤) c.args._below.now

pub returns-then-self-clause-below : goal.returns-then-self-clause-below
returns-then-self-clause-below g c = looked_under_same g.B.LayersBelowModel (⊤) c.args._below.now

pub returns-in-Err-unwritten-clause-below : goal.returns-in-Err-unwritten-clause-below
returns-in-Err-unwritten-clause-below g c = looked_under_same g.B.LayersBelowModel (⊥) c.args._below.now

pub returns-clause-below : goal.returns-clause-below
returns-clause-below g c = looked_under_same g.B.LayersBelowModel (⊤) c.args._below.now

pub returns-in-Err-clause-does : goal.returns-in-Err-clause-does
returns-in-Err-clause-does g c =
    let d = c.args.self.now in
    let refused = c.in-Err.ensures in
    let files = g.S.Storage.state d.file ∷ g.B.LayersBelowModel.files_of_layers_below c.args._below.now in
    record {
      ok = λ well_formed coherent. tt;
      err = λ well_formed coherent not_resource_error. record { keeps_layer_state = record { fixed = refl; size = refl; unspent = refl; failed = λ f. f }; cell = refl; held = refl };
      uncut = λ well_formed coherent. tt;
      no_range_overflow = λ well_formed coherent. tt;
      room = λ well_formed coherent whole. record { stays_allocated = λ p there is. is; free = λ p there is. is; zeroes = λ p there there' is. is };
      crash_images = λ well_formed coherent. passes_none _ _ _ refl (refl, refl, refl, refl);
      mutating_call = went_same _ _ _ d;
      stays_begun = λ x call begun part whole. tt;
      refused = record {
        failed = refused.failed files files;
        marks_failed = mild_marks_over (ghosts g.row.S g.S.Storage g.S.Storage-dict g.S.Destruct-dict) d d c.in-Err.fault refused.not_resource_error;
        cause = λ well_formed coherent x call begun part same. refused.cause (g.B.LayersBelowModel.layers_below c.args._below.now) files files;
      };
    }

pub returns-clause-does : goal.returns-clause-does
returns-clause-does g c =
    let d = c.args.self.now in
    let start = c.args.offset in
    let n = c.args.length in
    let under = at (g.B.LayersBelowModel.layers_below c.args._below.now) in
    let written = c.in-Ok-unwritten.ensures in
    let alone : d.backed ≡ false = search rules in
    let inside = c.in-Ok.ensures.inside (omega arith) in
    rw c.to_commit.ensures (record {
      ok = λ well_formed coherent. rw c.in-Unmapped.is (run_prepared under _ _ start n d.size _ c.args.overwrite (omega arith) refl refl refl refl (λ p. ap blank_of alone) refl (ap (held_in d.size start (start + n) c.args.overwrite) written));
      err = λ well_formed coherent. tt;
      uncut = λ well_formed coherent u whole. inr whole.end;
      no_range_overflow = λ well_formed coherent p apart. apart_loose d.size start n p c.args.overwrite _ (omega arith) inside apart;
      room = λ well_formed coherent whole. record { stays_allocated = λ p there room. absurd (room_by d.content _ d.size p c.in-Unmapped.is room); free = λ p there bare. inr tt; zeroes = λ p there there' bare. inr tt };
      crash_images = λ well_formed coherent. passes_none _ _ _ refl (refl, refl, refl, refl);
      mutating_call = record {
        fixed = rw c.in-Unmapped.is refl;
        failed = λ f. f;
        counts_not_fallen = (is_later_same (g.S.Storage.state d.file), tt);
        faults = λ whole. ((refl, refl), tt);
        safely = λ whole well_formed. record { runs = well_formed.runs; keeps = well_formed.keeps; fits = let fits = rw c.in-Unmapped.is at well_formed.fits in (fits, run_fits d.size start n d.backed _ written inside alone) };
        stays_stable = λ l. l;
        excess_refcount = λ w s c. refl;
      };
      stays_begun = λ x call begun part whole. tt;
      refused = record { failed = tt; marks_failed = tt; cause = λ well_formed coherent x call begun part same. tt };
    })

pub returns-in-Zeroed-clause-below : goal.returns-in-Zeroed-clause-below
returns-in-Zeroed-clause-below g c = looked_under_same g.B.LayersBelowModel (⊤) c.args._below.now

pub returns-in-Barred-clause-below : goal.returns-in-Barred-clause-below
returns-in-Barred-clause-below g c = looked_under_same g.B.LayersBelowModel (⊤) c.args._below.now
