use Rattle.std.specs.Prelude.{[], None, drop, length, take}
use Rattle.std.proofs.Common.{◌≡◌, ℕ, ◌<◌, zero, suc, refl, arith}
use Rattle.imago_access.specs.Files.{files_of}
use Rattle.imago_access.proofs.Answers.{handed_on}
use Rattle.imago_access.proofs.FilePairs.{kept_all_same}
use Rattle.qimg_calls.specs.Held.{chain_with_mapping}
use Rattle.qimg_calls.specs.Making.{MadeAll}
use Rattle.qimg_calls.proofs.Driven.{driven-made, going-made-all, none-kept, none-taken}
use Rattle.qimg_calls.proofs.Failed.{fails-made, stays-none, stays-made}
use Rattle.qimg_calls.proofs.Lists.{as-many}
use Rattle.qimg_calls.proofs.driving.drive.Goals as goal

some-call : (n : ℕ) → (n ≡ 0 → ⊥) → 0 < n
some-call zero never = absurd (never refl)
some-call (suc n) never = omega arith

pub returns-in-Err-clause-cut_short : goal.returns-in-Err-clause-cut_short
returns-in-Err-clause-cut_short g c =
    let old = c.args.chain.now in
    let m = g.met.D.FormatDriverInstance in
    let made : MadeAll g.D.DriverModel [] [] old old = (chain_with_mapping old None, refl, refl) in
    record {
      count = 0;
      fewer = some-call (length c.args.calls.now) (λ none. absurd (cc (c.in-Err.ensures.succeeds none)));
      answers = [];
      made = made;
      driven = λ since ready may stands. driven-made g.D.DriverModel m.well_formed_is_coherent m.well_formed_is_sound [] [] old old since made c.requires.free ready may stands;
    }

pub returns-in-Err-clause-below : goal.returns-in-Err-clause-below
returns-in-Err-clause-below g c none clean = (kept_all_same (files_of g.D.DriverModel c.args.chain.now.1), clean)

pub returns-in-Err-clause-deeper : goal.returns-in-Err-clause-deeper
returns-in-Err-clause-deeper g c clean = (kept_all_same (files_of g.D.DriverModel (drop 1 c.args.chain.now.1)), clean)

pub returns-clause-made : goal.returns-clause-made
returns-clause-made g c = let r = c.make_all-outcome in (chain_with_mapping r.new.chain r.result.1, rw (c.in_ok-outcome.was) at r.ensures.ok, c.give_up.ensures)

pub returns-clause-headline : goal.returns-clause-headline
returns-clause-headline g c since ready may stands = let m = g.met.D.FormatDriverInstance in
    driven-made g.D.DriverModel m.well_formed_is_coherent m.well_formed_is_sound c.args.calls.now c.make_all-outcome.new.answers.items c.args.chain.now c.give_up.new.chain since (returns-clause-made g c) c.requires.free ready may stands

pub returns-clause-free : goal.returns-clause-free
returns-clause-free g c = none-kept g.D.DriverModel c.args.chain.now c.give_up.new.chain c.requires.free
    (going-made-all g.D.DriverModel c.args.calls.now c.make_all-outcome.new.answers.items c.args.chain.now c.give_up.new.chain (returns-clause-made g c))

pub returns-clause-fixed : goal.returns-clause-fixed
returns-clause-fixed g c =
    (going-made-all g.D.DriverModel c.args.calls.now c.make_all-outcome.new.answers.items c.args.chain.now c.give_up.new.chain (returns-clause-made g c)).fixed

pub returns-clause-below : goal.returns-clause-below
returns-clause-below g c =
    (going-made-all g.D.DriverModel c.args.calls.now c.make_all-outcome.new.answers.items c.args.chain.now c.give_up.new.chain (returns-clause-made g c)).layers_below

pub returns-clause-deeper : goal.returns-clause-deeper
returns-clause-deeper g c =
    (going-made-all g.D.DriverModel c.args.calls.now c.make_all-outcome.new.answers.items c.args.chain.now c.give_up.new.chain (returns-clause-made g c)).deeper

pub returns-in-Err-clause-stays_failed : goal.returns-in-Err-clause-stays_failed
returns-in-Err-clause-stays_failed g c = stays-none g.D.DriverModel c.args.chain.now

pub returns-clause-stays_failed : goal.returns-clause-stays_failed
returns-clause-stays_failed g c = stays-made g.D.DriverModel c.args.calls.now c.make_all-outcome.new.answers.items c.args.chain.now c.give_up.new.chain (returns-clause-made g c)

pub returns-clause-all_fail : goal.returns-clause-all_fail
returns-clause-all_fail g c failed = fails-made g.D.DriverModel c.args.calls.now c.make_all-outcome.new.answers.items c.args.chain.now c.give_up.new.chain (returns-clause-made g c) failed

pub returns-clause-each : goal.returns-clause-each
returns-clause-each g c = let r = c.make_all-outcome in
    as-many g.D.DriverModel c.args.calls.now r.new.answers.items (chain_with_mapping c.args.chain.now None) (chain_with_mapping r.new.chain r.result.1) (rw (c.in_ok-outcome.was) at r.ensures.ok)

pub returns-in_err-outcome-clause-cut_short : goal.returns-in_err-outcome-clause-cut_short
returns-in_err-outcome-clause-cut_short g c = rw (handed_on _ _ c.from_residual.ensures.1) (
    let r = c.make_all-outcome in
    let m = g.met.D.FormatDriverInstance in
    let old = c.args.chain.now in
    let new = c.give_up.new.chain in
    let n = length r.new.answers.items in
    let made : MadeAll g.D.DriverModel (take n c.args.calls.now) r.new.answers.items old new = (chain_with_mapping r.new.chain r.result.1, rw (c.in_err-outcome.was) at r.ensures.err, c.give_up.ensures) in
    record {
      count = n;
      fewer = rw (c.in_err-outcome.was) at r.ensures.fewer;
      answers = r.new.answers.items;
      made = made;
      driven = λ since ready may stands. driven-made g.D.DriverModel m.well_formed_is_coherent m.well_formed_is_sound (take n c.args.calls.now) r.new.answers.items old new since made c.requires.free ready may stands;
    })

pub returns-in_err-outcome-clause-free : goal.returns-in_err-outcome-clause-free
returns-in_err-outcome-clause-free g c = let r = c.make_all-outcome in
    none-kept g.D.DriverModel c.args.chain.now c.give_up.new.chain c.requires.free (going-made-all g.D.DriverModel (take (length r.new.answers.items) c.args.calls.now) r.new.answers.items c.args.chain.now c.give_up.new.chain
    (chain_with_mapping r.new.chain r.result.1, rw (c.in_err-outcome.was) at r.ensures.err, c.give_up.ensures))

pub returns-in_err-outcome-clause-fixed : goal.returns-in_err-outcome-clause-fixed
returns-in_err-outcome-clause-fixed g c = let r = c.make_all-outcome in
    (going-made-all g.D.DriverModel (take (length r.new.answers.items) c.args.calls.now) r.new.answers.items c.args.chain.now c.give_up.new.chain
    (chain_with_mapping r.new.chain r.result.1, rw (c.in_err-outcome.was) at r.ensures.err, c.give_up.ensures)).fixed

pub returns-in_err-outcome-clause-below : goal.returns-in_err-outcome-clause-below
returns-in_err-outcome-clause-below g c none = let r = c.make_all-outcome in
    (going-made-all g.D.DriverModel (take (length r.new.answers.items) c.args.calls.now) r.new.answers.items c.args.chain.now c.give_up.new.chain
    (chain_with_mapping r.new.chain r.result.1, rw (c.in_err-outcome.was) at r.ensures.err, c.give_up.ensures)).layers_below (none-taken (length r.new.answers.items) c.args.calls.now none)

pub returns-in_err-outcome-clause-deeper : goal.returns-in_err-outcome-clause-deeper
returns-in_err-outcome-clause-deeper g c = let r = c.make_all-outcome in
    (going-made-all g.D.DriverModel (take (length r.new.answers.items) c.args.calls.now) r.new.answers.items c.args.chain.now c.give_up.new.chain
    (chain_with_mapping r.new.chain r.result.1, rw (c.in_err-outcome.was) at r.ensures.err, c.give_up.ensures)).deeper

pub returns-in_err-outcome-clause-stays_failed : goal.returns-in_err-outcome-clause-stays_failed
returns-in_err-outcome-clause-stays_failed g c = let r = c.make_all-outcome in
    stays-made g.D.DriverModel (take (length r.new.answers.items) c.args.calls.now) r.new.answers.items c.args.chain.now c.give_up.new.chain
    (chain_with_mapping r.new.chain r.result.1, rw (c.in_err-outcome.was) at r.ensures.err, c.give_up.ensures)
