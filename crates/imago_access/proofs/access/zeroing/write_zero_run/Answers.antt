use Rattle.std.proofs.Common.{ℕ, ◌≡◌, ◌≤◌, [], List, length, take, arith, refl, true, sym, ◌∙◌, subst, ap, ◌+◌}
use Rattle.std.specs.Prelude.{⊤, None, replicate, Err}
use Rattle.std.proofs.lemmas.List.{take-replicate}
use Rattle.imago_access.specs.Layer.{IsFree}
use Rattle.imago_access.specs.Chain.{at}
use Rattle.imago_access.specs.Changes.{asking, run_at, Prepared, Wrote, Committed}
use Rattle.imago_access.specs.Files.{IsNotResourceError, files}
use Rattle.imago_access.specs.Room.{IsApart}
use Rattle.imago_access.specs.Running.{RangeChange}
use Rattle.imago_access.specs.Spending.{mapping_id_of}
use Rattle.imago_access.specs.Stops.{GivesNone, GivesBytes, GivesZero}
use Rattle.imago_access.proofs.Answers.{handed_on}
use Rattle.imago_access.proofs.ChangeCauses.{part_cause_alone, mapped_cause}
use Rattle.imago_access.proofs.FilePairs.{later_all_both}
use Rattle.imago_access.proofs.Holding.{mine_on, spends_more}
use Rattle.imago_access.proofs.HoldingRuns.{ran_mapped, ran_settled, ran_unsettled, ran_abandoned, ran_seen_over, ran_spent, ran_prepared, run_shows}
use Rattle.imago_access.proofs.Room.{takes_run}
use Rattle.imago_access.proofs.Running.{ran_both, ran_gives}
use Rattle.imago_access.proofs.ImageCauses.{failed_alone}
use Rattle.imago_access.proofs.Units.{layer_aligned}
use Rattle.imago_access.proofs.Zeroing.{zeroes_long, zeroes_zero, bytes_zero, zeroes_loose}
use Rattle.imago_access.proofs.Works.{takes_none, takes_none_thrice}
use Rattle.imago_access.proofs.Marking.{top_alone, alone_before}
use Rattle.imago_access.proofs.access.zeroing.write_zero_run.Goals as goal
use Rattle.imago_storage.specs.Disk.{byte}

pub returns-in_ok-commit_or_abandon-in-Ok-clause-does : goal.returns-in_ok-commit_or_abandon-in-Ok-clause-does
returns-in_ok-commit_or_abandon-in-Ok-clause-does g c = record {
  range_change = let d = g.D.DriverModel in let b = g.B.LayersBelowModel in let m = c.in_ok-mapping.mapping in let n = c.length-count.result in let place = c.offset.result in
      let a0 = c.args.driver.now in let a1 = c.prepare_data_mapping.new.self in let a2 = c.write_mapped_zeroes.new.driver in let a3 = c.commit_or_abandon.new.driver in let x0 = c.args.below.now in let x1 = c.prepare_data_mapping.new.below in
      let asked = c.args.n in let bytes = replicate asked 0 in let long : length bytes ≡ asked = zeroes_long asked bytes refl in let run : n ≤ asked = rw c.length-count.ensures c.in_ok-mapping.ensures.run.0.0 in let wrote = c.in-Ok.ensures in
      let first_zeroes : replicate n 0 ≡ take n bytes = sym (take-replicate n asked 0 run) in
      let stateless : m.state ≡ None → IsFree (d.layer a2) = λ none. wrote.keeps_layer_state.unspent ∙ c.in_ok-mapping.ensures.mine.1 none in
      ran_gives d b ⊤ (GivesBytes c.args.offset bytes) (GivesZero c.args.offset asked) a0 a3 x0 x1
      (bytes_zero c.args.offset asked c.args.offset bytes (zeroes_zero asked bytes refl) (omega arith) (omega (arith, long)))
      (ran_spent d b m.state ⊤ a0 a1 a2 a3 x0 x1 c.args.offset asked m.storage place n bytes (omega (arith, run, long))
      (g.met.D.FormatDriverInstance.free_loose a0 c.requires.free) c.in_ok-mapping.ensures.size c.in_ok-mapping.ensures.does.mutating_call c.in_ok-mapping.ensures.below (rw (c.length-count.ensures, c.offset.ensures) c.in_ok-mapping.ensures.does.ok) c.in_ok-mapping.ensures.does.crash_images
      (λ well_formed. subst (Wrote (d.layer a1) (d.layer a2) c.args.offset) first_zeroes (wrote.ok well_formed))
      (subst (λ (z : List ℕ). RangeChange d b ⊤ (GivesBytes c.args.offset z) (a1, x1) (a2, x1)) first_zeroes
      (ran_seen_over d b ⊤ (GivesBytes c.args.offset (replicate n 0)) a1 a2 x1 (wrote.range_change (b.layers_below x1))))
      (ran_settled d b m.state ⊤ a2 a3 x1 g.met.D.FormatDriverInstance.free_loose c.in_ok-commit_or_abandon-in-Ok.ensures.size c.in_ok-commit_or_abandon-in-Ok.ensures.mutating_call
      (mine_on d m.state (d.layer a1) (d.layer a2) wrote.keeps_layer_state c.in_ok-mapping.ensures.mine.0) stateless (c.in_ok-commit_or_abandon-in-Ok.ensures.free stateless)
      (λ w well_formed. spends_more d m.state (d.layer a2) (d.layer a3) (d.well_formed a2 → Committed (d.layer a2) (d.layer a3)) (Committed (d.layer a2) (d.layer a3)) (λ h. h well_formed) c.in_ok-commit_or_abandon-in-Ok.ensures.ok)
      c.in_ok-commit_or_abandon-in-Ok.ensures.crash_images));
  room = λ i not_resource_error. let d = g.D.DriverModel in let b = g.B.LayersBelowModel in
      let a0 = c.args.driver.now in let a1 = c.prepare_data_mapping.new.self in let a2 = c.write_mapped_zeroes.new.driver in let a3 = c.commit_or_abandon.new.driver in let n = c.length-count.result in
      let run : n ≤ c.args.n = rw c.length-count.ensures c.in_ok-mapping.ensures.run.0.0 in
      let safe1 : d.well_formed a1 = c.in_ok-mapping.ensures.does.mutating_call.safely (tt, i.is_coherent) i.is_well_formed in
      let wrote = c.in-Ok.ensures in
      takes_run d (IsApart (d.layer a0).fixed.unit c.args.offset c.args.n) a0 a1 a2 a3 (c.in_ok-mapping.ensures.does.room i.is_well_formed i.is_coherent tt) (wrote.room safe1 tt)
      (zeroes_loose (d.layer a0).fixed.unit c.args.offset c.args.n n (d.layer a1) (d.layer a2) run (c.in_ok-mapping.ensures.does.no_range_overflow i.is_well_formed i.is_coherent) (wrote.ok safe1))
      (c.in_ok-commit_or_abandon-in-Ok.ensures.room ((wrote.range_change []).mutating_call.safely (tt, tt) safe1) tt);
  stays_begun = λ e call begun part kind. c.in_ok-commit_or_abandon-in-Ok.ensures.stays_begun e call (c.in-Ok.ensures.stays_begun e call (c.in_ok-mapping.ensures.does.stays_begun e call begun part tt));
}

pub returns-in_err-commit_or_abandon-in-Ok-clause-does : goal.returns-in_err-commit_or_abandon-in-Ok-clause-does
returns-in_err-commit_or_abandon-in-Ok-clause-does g c = rw (handed_on _ _ c.from_residual-in_err-commit_or_abandon-in-Ok.ensures.1) (record {
  range_change = let d = g.D.DriverModel in let b = g.B.LayersBelowModel in let m = c.in_ok-mapping.mapping in let n = c.length-count.result in let place = c.offset.result in
      let a0 = c.args.driver.now in let a1 = c.prepare_data_mapping.new.self in let a2 = c.write_mapped_zeroes.new.driver in let a3 = c.commit_or_abandon.new.driver in let x0 = c.args.below.now in let x1 = c.prepare_data_mapping.new.below in
      let asked = c.args.n in let bytes = replicate {A = ℕ} asked 0 in let long : length bytes ≡ asked = zeroes_long asked bytes refl in let run : n ≤ asked = rw c.length-count.ensures c.in_ok-mapping.ensures.run.0.0 in let wrote = c.in-Ok.ensures in
      let first_zeroes : replicate {A = ℕ} n 0 ≡ take n bytes = sym (take-replicate n asked 0 run) in
      let stateless : m.state ≡ None → IsFree (d.layer a2) = λ none. wrote.keeps_layer_state.unspent ∙ c.in_ok-mapping.ensures.mine.1 none in
      ran_gives d b (IsNotResourceError c.in_err-commit_or_abandon-in-Ok.field-0.0) (GivesBytes c.args.offset bytes) (GivesZero c.args.offset asked) a0 a3 x0 x1
      (bytes_zero c.args.offset asked c.args.offset bytes (zeroes_zero asked bytes refl) (omega arith) (omega (arith, long)))
      (ran_spent d b m.state (IsNotResourceError c.in_err-commit_or_abandon-in-Ok.field-0.0) a0 a1 a2 a3 x0 x1 c.args.offset asked m.storage place n bytes (omega (arith, run, long))
      (g.met.D.FormatDriverInstance.free_loose a0 c.requires.free) c.in_ok-mapping.ensures.size c.in_ok-mapping.ensures.does.mutating_call c.in_ok-mapping.ensures.below (rw (c.length-count.ensures, c.offset.ensures) c.in_ok-mapping.ensures.does.ok) c.in_ok-mapping.ensures.does.crash_images
      (λ well_formed. subst (Wrote (d.layer a1) (d.layer a2) c.args.offset) first_zeroes (wrote.ok well_formed))
      (subst (λ (z : List ℕ). RangeChange d b ⊤ (GivesBytes c.args.offset z) (a1, x1) (a2, x1)) first_zeroes
      (ran_seen_over d b ⊤ (GivesBytes c.args.offset (replicate n 0)) a1 a2 x1 (wrote.range_change (b.layers_below x1))))
      (ran_unsettled d b m.state (IsNotResourceError c.in_err-commit_or_abandon-in-Ok.field-0.0) a2 a3 x1 g.met.D.FormatDriverInstance.free_loose c.in_err-commit_or_abandon-in-Ok.ensures.size c.in_err-commit_or_abandon-in-Ok.ensures.mutating_call
      (mine_on d m.state (d.layer a1) (d.layer a2) wrote.keeps_layer_state c.in_ok-mapping.ensures.mine.0) (c.in_err-commit_or_abandon-in-Ok.ensures.free stateless) (λ not_resource_error well_formed. c.in_err-commit_or_abandon-in-Ok.ensures.err well_formed not_resource_error) c.in_err-commit_or_abandon-in-Ok.ensures.crash_images));
  room = λ i not_resource_error. let d = g.D.DriverModel in let b = g.B.LayersBelowModel in
      let a0 = c.args.driver.now in let a1 = c.prepare_data_mapping.new.self in let a2 = c.write_mapped_zeroes.new.driver in let a3 = c.commit_or_abandon.new.driver in let n = c.length-count.result in
      let run : n ≤ c.args.n = rw c.length-count.ensures c.in_ok-mapping.ensures.run.0.0 in
      let safe1 : d.well_formed a1 = c.in_ok-mapping.ensures.does.mutating_call.safely (tt, i.is_coherent) i.is_well_formed in
      let wrote = c.in-Ok.ensures in
      takes_run d (IsApart (d.layer a0).fixed.unit c.args.offset c.args.n) a0 a1 a2 a3 (c.in_ok-mapping.ensures.does.room i.is_well_formed i.is_coherent tt) (wrote.room safe1 tt)
      (zeroes_loose (d.layer a0).fixed.unit c.args.offset c.args.n n (d.layer a1) (d.layer a2) run (c.in_ok-mapping.ensures.does.no_range_overflow i.is_well_formed i.is_coherent) (wrote.ok safe1))
      (c.in_err-commit_or_abandon-in-Ok.ensures.room ((wrote.range_change []).mutating_call.safely (tt, tt) safe1) not_resource_error);
  stays_begun = λ e call begun part kind. tt;
})

pub returns-in_err-commit_or_abandon-in-Ok-clause-refused : goal.returns-in_err-commit_or_abandon-in-Ok-clause-refused
returns-in_err-commit_or_abandon-in-Ok-clause-refused g c = rw (handed_on _ _ c.from_residual-in_err-commit_or_abandon-in-Ok.ensures.1) (record {
  failed = let d = g.D.DriverModel in let b = g.B.LayersBelowModel in
      let a0 = c.args.driver.now in let a1 = c.prepare_data_mapping.new.self in let a2 = c.write_mapped_zeroes.new.driver in let a3 = c.commit_or_abandon.new.driver in
      failed_alone (files d a0) (files d a2) (files d a3) (b.files_of_layers_below c.args.below.now) (b.files_of_layers_below c.prepare_data_mapping.new.below) c.in_err-commit_or_abandon-in-Ok.field-0.0
      (later_all_both (files d a0) (files d a1) (files d a2) c.in_ok-mapping.ensures.does.mutating_call.counts_not_fallen (c.in-Ok.ensures.range_change []).mutating_call.counts_not_fallen) c.in_ok-mapping.ensures.below.counts_not_fallen c.in_err-commit_or_abandon-in-Ok.ensures.failed;
  marks_failed = let d = g.D.DriverModel in let b = g.B.LayersBelowModel in let a0 = c.args.driver.now in let a1 = c.prepare_data_mapping.new.self in let x0 = c.args.below.now in let x1 = c.prepare_data_mapping.new.below in
      let a2 = c.write_mapped_zeroes.new.driver in let a3 = c.commit_or_abandon.new.driver in
      top_alone d b a0 a2 a3 x0 x1 c.in_err-commit_or_abandon-in-Ok.field-0.0 (c.in-Ok.ensures.keeps_layer_state.fixed ∙ c.in_ok-mapping.ensures.does.mutating_call.fixed)
      (λ i. (c.in-Ok.ensures.range_change []).mutating_call.safely (tt, tt) (c.in_ok-mapping.ensures.does.mutating_call.safely (tt, i.is_coherent) i.is_well_formed)) c.in_err-commit_or_abandon-in-Ok.ensures.marks_failed;
  cause = λ i e call begun part says. let d = g.D.DriverModel in let b = g.B.LayersBelowModel in
      let a0 = c.args.driver.now in let a1 = c.prepare_data_mapping.new.self in let a2 = c.write_mapped_zeroes.new.driver in let a3 = c.commit_or_abandon.new.driver in let x0 = c.args.below.now in let x1 = c.prepare_data_mapping.new.below in
      let wrote = c.in-Ok.ensures in
      let well_formed : d.well_formed a2 = (wrote.range_change []).mutating_call.safely (tt, tt) (c.in_ok-mapping.ensures.does.mutating_call.safely (tt, i.is_coherent) i.is_well_formed) in
      part_cause_alone (b.layers_below x0) (d.layer a0) (d.layer a2) c.args.offset c.args.n c.args.offset c.args.n (files d a0) (files d a2) (files d a3) (b.files_of_layers_below x0) (b.files_of_layers_below x1)
      (wrote.keeps_layer_state.fixed ∙ c.in_ok-mapping.ensures.does.mutating_call.fixed) (wrote.keeps_layer_state.size ∙ c.in_ok-mapping.ensures.size) (g.met.D.FormatDriverInstance.well_formed_is_usable a0 i.is_well_formed) (g.met.D.FormatDriverInstance.well_formed_is_usable a2 well_formed)
      (layer_aligned d.layer g.met.D.FormatDriverInstance.aligned a0).positive (omega arith) (omega arith)
      (later_all_both (files d a0) (files d a1) (files d a2) c.in_ok-mapping.ensures.does.mutating_call.counts_not_fallen (wrote.range_change []).mutating_call.counts_not_fallen) c.in_ok-mapping.ensures.below.counts_not_fallen
      (d.own_cause e (b.layers_below x0) call) (λ _. ⊥) c.in_err-commit_or_abandon-in-Ok.field-0.0 (λ none. absurd none) (c.in_err-commit_or_abandon-in-Ok.ensures.cause well_formed (b.layers_below x0) c.args.offset c.args.n c.requires.nonempty);
})

pub returns-in-Err-clause-does : goal.returns-in-Err-clause-does
returns-in-Err-clause-does g c = record {
  range_change = let d = g.D.DriverModel in let b = g.B.LayersBelowModel in let m = c.in_ok-mapping.mapping in let n = c.length-count.result in
      let a0 = c.args.driver.now in let a1 = c.prepare_data_mapping.new.self in let a2 = c.write_mapped_zeroes.new.driver in let a3 = c.abandon.new.driver in let x0 = c.args.below.now in let x1 = c.prepare_data_mapping.new.below in
      let asked = c.args.n in let zeroes = replicate n 0 in let long : length zeroes ≡ n = zeroes_long n zeroes refl in
      let run : n ≤ asked = rw c.length-count.ensures c.in_ok-mapping.ensures.run.0.0 in
      let first = ran_mapped d b m.state a0 a1 x0 x1 c.args.offset asked true m.storage m.offset m.length (g.met.D.FormatDriverInstance.free_loose a0 c.requires.free) c.in_ok-mapping.ensures.size c.in_ok-mapping.ensures.does.mutating_call c.in_ok-mapping.ensures.below c.in_ok-mapping.ensures.does.ok c.in_ok-mapping.ensures.does.crash_images in
      let like = c.in-Err.ensures.keeps_layer_state in
      ran_both d b (IsNotResourceError c.in-Err.fault) GivesNone (GivesBytes c.args.offset zeroes) (GivesZero c.args.offset asked) a0 a1 a3 x0 x1 x1 (λ p v none. absurd none)
      (bytes_zero c.args.offset asked c.args.offset zeroes (zeroes_zero n zeroes refl) (omega arith) (omega (arith, long, run))) first
      (ran_abandoned d b m.state (IsNotResourceError c.in-Err.fault) (GivesBytes c.args.offset zeroes) a1 a2 a3 x1 g.met.D.FormatDriverInstance.free_loose
      (mine_on d m.state (d.layer a1) (d.layer a2) like c.in_ok-mapping.ensures.mine.0) (λ none. like.unspent ∙ c.in_ok-mapping.ensures.mine.1 none)
      c.abandon.ensures.ok c.abandon.ensures.well_formed c.abandon.ensures.stable c.abandon.ensures.excess_refcount c.abandon.ensures.none.0 c.abandon.ensures.none.1
      (ran_seen_over d b (IsNotResourceError c.in-Err.fault) (GivesBytes c.args.offset zeroes) a1 a2 x1 (c.in-Err.ensures.range_change (b.layers_below x1))));
  room = λ i not_resource_error. let d = g.D.DriverModel in
      let a0 = c.args.driver.now in let a1 = c.prepare_data_mapping.new.self in let a2 = c.write_mapped_zeroes.new.driver in let a3 = c.abandon.new.driver in
      let safe1 : d.well_formed a1 = c.in_ok-mapping.ensures.does.mutating_call.safely (tt, i.is_coherent) i.is_well_formed in
      let wrote = c.in-Err.ensures in
      takes_none_thrice d (IsApart (d.layer a0).fixed.unit c.args.offset c.args.n) a0 a1 a2 a3 (c.in_ok-mapping.ensures.does.room i.is_well_formed i.is_coherent tt) (wrote.room safe1 not_resource_error) (c.abandon.ensures.room ((wrote.range_change []).mutating_call.safely (not_resource_error, tt) safe1));
  stays_begun = λ e call begun part kind. tt;
}

pub returns-in-Err-clause-refused : goal.returns-in-Err-clause-refused
returns-in-Err-clause-refused g c = record {
  failed = let d = g.D.DriverModel in let b = g.B.LayersBelowModel in
      let a0 = c.args.driver.now in let a1 = c.prepare_data_mapping.new.self in let a2 = c.write_mapped_zeroes.new.driver in
      rw (c.abandon.ensures.none.0, c.abandon.ensures.none.1) (failed_alone (files d a0) (files d a1) (files d a2) (b.files_of_layers_below c.args.below.now) (b.files_of_layers_below c.prepare_data_mapping.new.below) c.in-Err.fault c.in_ok-mapping.ensures.does.mutating_call.counts_not_fallen c.in_ok-mapping.ensures.below.counts_not_fallen c.in-Err.ensures.failed);
  marks_failed = let d = g.D.DriverModel in let b = g.B.LayersBelowModel in let a0 = c.args.driver.now in let a1 = c.prepare_data_mapping.new.self in let x0 = c.args.below.now in let x1 = c.prepare_data_mapping.new.below in
      let a2 = c.write_mapped_zeroes.new.driver in let a3 = c.abandon.new.driver in
      top_alone d b a0 a1 a3 x0 x1 c.in-Err.fault c.in_ok-mapping.ensures.does.mutating_call.fixed (λ i. c.in_ok-mapping.ensures.does.mutating_call.safely (tt, i.is_coherent) i.is_well_formed)
      (alone_before d a1 a2 a3 c.in-Err.fault c.abandon.ensures.failed c.abandon.ensures.well_formed (c.in-Err.ensures.marks_failed));
  cause = λ i e call begun part says. let d = g.D.DriverModel in let b = g.B.LayersBelowModel in let m = c.in_ok-mapping.mapping in let n = c.length-count.result in let place = c.offset.result in
      let a0 = c.args.driver.now in let a1 = c.prepare_data_mapping.new.self in let a2 = c.write_mapped_zeroes.new.driver in let a3 = c.abandon.new.driver in let x0 = c.args.below.now in let x1 = c.prepare_data_mapping.new.below in
      let run : n ≤ c.args.n = rw c.length-count.ensures c.in_ok-mapping.ensures.run.0.0 in
      let made : Prepared (at (b.layers_below x0)) (d.layer a0) (d.layer a1) (asking c.args.offset c.args.n true) (run_at m.storage place n (mapping_id_of d.mapping_id m.state)) = rw (c.length-count.ensures, c.offset.ensures) (c.in_ok-mapping.ensures.does.ok i.is_well_formed i.is_coherent) in
      let well_formed : d.well_formed a1 = c.in_ok-mapping.ensures.does.mutating_call.safely (tt, i.is_coherent) i.is_well_formed in
      let met = mapped_cause (b.layers_below x0) (d.layer a1) c.args.offset place n (files d a1) (files d a2) c.in-Err.fault
      (λ some. (m.storage, made.writable_location)) (c.in-Err.ensures.cause well_formed) in
      rw (c.abandon.ensures.none.0, c.abandon.ensures.none.1)
      (part_cause_alone (b.layers_below x0) (d.layer a0) (d.layer a1) c.args.offset c.args.n c.args.offset n (files d a0) (files d a1) (files d a2) (b.files_of_layers_below x0) (b.files_of_layers_below x1)
      c.in_ok-mapping.ensures.does.mutating_call.fixed c.in_ok-mapping.ensures.size (g.met.D.FormatDriverInstance.well_formed_is_usable a0 i.is_well_formed) (g.met.D.FormatDriverInstance.well_formed_is_usable a1 well_formed)
      (layer_aligned d.layer g.met.D.FormatDriverInstance.aligned a0).positive (omega arith) (omega (arith, run)) c.in_ok-mapping.ensures.does.mutating_call.counts_not_fallen c.in_ok-mapping.ensures.below.counts_not_fallen
      (d.own_cause e (b.layers_below x0) call) (λ _. ⊥) c.in-Err.fault (λ none. absurd none) met);
}

pub returns-in_err-mapping-clause-does : goal.returns-in_err-mapping-clause-does
returns-in_err-mapping-clause-does g c = rw (handed_on _ _ c.from_residual.ensures.1) (record {
  range_change = let d = g.D.DriverModel in let b = g.B.LayersBelowModel in let e = c.in_err-mapping.ensures in
      let a0 = c.args.driver.now in let a1 = c.prepare_data_mapping.new.self in let x0 = c.args.below.now in let x1 = c.prepare_data_mapping.new.below in
      ran_gives d b (IsNotResourceError c.in_err-mapping.field-0.0) GivesNone (GivesZero c.args.offset c.args.n) a0 a1 x0 x1 (λ p v none. absurd none)
      (ran_prepared d b (Err c.in_err-mapping.field-0.0) a0 a1 x0 x1 c.args.offset c.args.n true (g.met.D.FormatDriverInstance.free_loose a0 c.requires.free) e.size e.does.mutating_call e.below e.does.ok e.does.err e.does.crash_images);
  room = λ i whole. takes_none g.D.DriverModel (IsApart (g.D.DriverModel.layer c.args.driver.now).fixed.unit c.args.offset c.args.n) c.args.driver.now c.prepare_data_mapping.new.self (c.in_err-mapping.ensures.does.room i.is_well_formed i.is_coherent whole);
  stays_begun = λ e call begun part kind. tt;
})

pub returns-in_ok-commit_or_abandon-in-Ok-clause-uncut : goal.returns-in_ok-commit_or_abandon-in-Ok-clause-uncut
returns-in_ok-commit_or_abandon-in-Ok-clause-uncut g c = λ i. rw c.length-count.ensures (c.in_ok-mapping.ensures.does.uncut i.is_well_formed i.is_coherent)

pub returns-in_ok-commit_or_abandon-in-Ok-clause-shown : goal.returns-in_ok-commit_or_abandon-in-Ok-clause-shown
returns-in_ok-commit_or_abandon-in-Ok-clause-shown g c = λ i k low. let d = g.D.DriverModel in let b = g.B.LayersBelowModel in let m = c.in_ok-mapping.mapping in let n = c.length-count.result in let place = c.offset.result in
    let a1 = c.prepare_data_mapping.new.self in let a2 = c.write_mapped_zeroes.new.driver in let a3 = c.commit_or_abandon.new.driver in
    let asked = c.args.n in let bytes = replicate asked 0 in let long : length bytes ≡ asked = zeroes_long asked bytes refl in let run : n ≤ asked = rw c.length-count.ensures c.in_ok-mapping.ensures.run.0.0 in
    let wrote = c.in-Ok.ensures in let settled = c.in_ok-commit_or_abandon-in-Ok.ensures in
    let first_zeroes : replicate n 0 ≡ take n bytes = sym (take-replicate n asked 0 run) in
    let safe1 = c.in_ok-mapping.ensures.does.mutating_call.safely (tt, i.is_coherent) i.is_well_formed in
    let in_disk : c.args.offset + n ≤ (d.layer a3).size = rw c.length-count.ensures (omega (arith, c.in_ok-mapping.ensures.run.0.2 c.requires.nonempty, c.in_ok-mapping.ensures.size, wrote.keeps_layer_state.size, settled.size)) in
    run_shows d m.state (b.layers_below c.args.below.now) (d.layer c.args.driver.now) (d.layer a1) (d.layer a2) (d.layer a3) c.args.offset asked true m.storage place n bytes (mapping_id_of d.mapping_id m.state) (omega (arith, run, long)) in_disk
    (rw (c.length-count.ensures, c.offset.ensures) (c.in_ok-mapping.ensures.does.ok i.is_well_formed i.is_coherent)) (subst (Wrote (d.layer a1) (d.layer a2) c.args.offset) first_zeroes (wrote.ok safe1)) (mine_on d m.state (d.layer a1) (d.layer a2) wrote.keeps_layer_state c.in_ok-mapping.ensures.mine.0)
    (λ none. g.met.D.FormatDriverInstance.free_loose a2 (wrote.keeps_layer_state.unspent ∙ c.in_ok-mapping.ensures.mine.1 none))
    (spends_more d m.state (d.layer a2) (d.layer a3) (d.well_formed a2 → Committed (d.layer a2) (d.layer a3)) (Committed (d.layer a2) (d.layer a3)) (λ h. h ((wrote.range_change []).mutating_call.safely (tt, tt) safe1)) settled.ok) k low
    ∙ ap byte (zeroes_zero asked bytes refl k (omega (arith, low, run, long)))
