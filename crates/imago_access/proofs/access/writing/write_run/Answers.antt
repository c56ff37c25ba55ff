use Rattle.std.proofs.Common.{◌≡◌, ◌≤◌, length, take, arith, true, ◌∙◌, ◌+◌}
use Rattle.std.proofs.lemmas.Grind.{common_steps}
use Rattle.std.specs.Prelude.{⊤, None, Err}
use Rattle.imago_access.specs.Layer.{IsFree}
use Rattle.imago_access.specs.Chain.{at}
use Rattle.imago_access.specs.Changes.{asking, run_at, Prepared, Committed}
use Rattle.imago_access.specs.Files.{IsNotResourceError, files}
use Rattle.imago_access.specs.Spending.{mapping_id_of}
use Rattle.imago_access.specs.Stops.{GivesNone, GivesBytes}
use Rattle.imago_access.proofs.Answers.{handed_on}
use Rattle.imago_access.proofs.ChangeCauses.{part_cause_alone, mapped_cause}
use Rattle.imago_access.proofs.FilePairs.{later_all_both}
use Rattle.imago_access.proofs.Holding.{mine_on, spends_more}
use Rattle.imago_access.proofs.HoldingRuns.{gives_prefix, prepared_mapped, ran_mapped, ran_wrote, ran_settled, ran_unsettled, ran_given_up, ran_spent, ran_prepared, run_shows}
use Rattle.imago_access.proofs.Running.{ran_both, ran_gives}
use Rattle.imago_access.proofs.Units.{layer_aligned}
use Rattle.imago_access.proofs.ImageCauses.{failed_alone}
use Rattle.imago_access.specs.Room.{IsApart}
use Rattle.imago_access.proofs.Room.{takes_run, apart_loose}
use Rattle.imago_access.proofs.Works.{takes_none, takes_none_thrice}
use Rattle.imago_access.proofs.Marking.{top_alone, alone_before, alone_plain}
use Rattle.imago_access.proofs.access.writing.write_run.Goals as goal

pub returns-in_ok-commit_or_abandon-in-Ok-clause-does : goal.returns-in_ok-commit_or_abandon-in-Ok-clause-does
returns-in_ok-commit_or_abandon-in-Ok-clause-does g c = record {
  range_change = let d = g.D.DriverModel in let b = g.B.LayersBelowModel in let m = c.in_ok-mapping.mapping in let n = c.length-n.result in let place = c.offset.result in
      let a0 = c.args.driver.now in let a1 = c.prepare_data_mapping.new.self in let a2 = c.write_mapped.new.self in let a3 = c.commit_or_abandon.new.driver in let x0 = c.args.below.now in let x1 = c.prepare_data_mapping.new.below in
      let bytes = c.args.bytes.now in let most : n ≤ length bytes = rw c.length-n.ensures c.in_ok-mapping.ensures.run.0.0 in let wrote = c.in-Ok.ensures.writes in
      let stateless : m.state ≡ None → IsFree (d.layer a2) = λ none. wrote.keeps_layer_state.unspent ∙ c.in_ok-mapping.ensures.mine.1 none in
      ran_spent d b m.state ⊤ a0 a1 a2 a3 x0 x1 c.args.offset (length bytes) m.storage place n bytes most
      (g.met.D.FormatDriverInstance.free_loose a0 c.requires.free) c.in_ok-mapping.ensures.size c.in_ok-mapping.ensures.does.mutating_call c.in_ok-mapping.ensures.below (rw (c.length-n.ensures, c.offset.ensures) c.in_ok-mapping.ensures.does.ok) c.in_ok-mapping.ensures.does.crash_images wrote.ok
      (ran_wrote d b ⊤ a1 a2 x1 c.args.offset place (take n bytes) wrote.keeps_layer_state wrote.mutating_call (λ w well_formed. wrote.mapped (g.met.D.FormatDriverInstance.well_formed_is_coherent a1 well_formed)) (λ w. wrote.ok) wrote.crash_images)
      (ran_settled d b m.state ⊤ a2 a3 x1 g.met.D.FormatDriverInstance.free_loose c.in_ok-commit_or_abandon-in-Ok.ensures.size c.in_ok-commit_or_abandon-in-Ok.ensures.mutating_call
      (mine_on d m.state (d.layer a1) (d.layer a2) wrote.keeps_layer_state c.in_ok-mapping.ensures.mine.0) stateless (c.in_ok-commit_or_abandon-in-Ok.ensures.free stateless)
      (λ w well_formed. spends_more d m.state (d.layer a2) (d.layer a3) (d.well_formed a2 → Committed (d.layer a2) (d.layer a3)) (Committed (d.layer a2) (d.layer a3)) (λ h. h well_formed) c.in_ok-commit_or_abandon-in-Ok.ensures.ok)
      c.in_ok-commit_or_abandon-in-Ok.ensures.crash_images);
  room = λ i not_resource_error. let d = g.D.DriverModel in let b = g.B.LayersBelowModel in
      let a0 = c.args.driver.now in let a1 = c.prepare_data_mapping.new.self in let a2 = c.write_mapped.new.self in let a3 = c.commit_or_abandon.new.driver in let n = c.length-n.result in
      let bytes = c.args.bytes.now in let most : n ≤ length bytes = rw c.length-n.ensures c.in_ok-mapping.ensures.run.0.0 in
      let safe1 : d.well_formed a1 = c.in_ok-mapping.ensures.does.mutating_call.safely (tt, i.is_coherent) i.is_well_formed in
      let wrote = c.in-Ok.ensures.writes in
      takes_run d (IsApart (d.layer a0).fixed.unit c.args.offset (length bytes)) a0 a1 a2 a3 (c.in_ok-mapping.ensures.does.room i.is_well_formed i.is_coherent tt) (wrote.room safe1 tt)
      (apart_loose (d.layer a0).fixed.unit c.args.offset n bytes (d.layer a1) (d.layer a2) most (c.in_ok-mapping.ensures.does.no_range_overflow i.is_well_formed i.is_coherent) (wrote.ok safe1))
      (c.in_ok-commit_or_abandon-in-Ok.ensures.room (wrote.mutating_call.safely tt safe1) tt);
  stays_begun = λ e call begun part kind. c.in_ok-commit_or_abandon-in-Ok.ensures.stays_begun e call (c.in-Ok.ensures.writes.stays_begun e call (c.in_ok-mapping.ensures.does.stays_begun e call begun part tt));
}

pub returns-in_err-commit_or_abandon-in-Ok-clause-does : goal.returns-in_err-commit_or_abandon-in-Ok-clause-does
returns-in_err-commit_or_abandon-in-Ok-clause-does g c = rw (handed_on _ _ c.from_residual-in_err-commit_or_abandon-in-Ok.ensures.1) (record {
  range_change = let d = g.D.DriverModel in let b = g.B.LayersBelowModel in let m = c.in_ok-mapping.mapping in let n = c.length-n.result in let place = c.offset.result in
      let a0 = c.args.driver.now in let a1 = c.prepare_data_mapping.new.self in let a2 = c.write_mapped.new.self in let a3 = c.commit_or_abandon.new.driver in let x0 = c.args.below.now in let x1 = c.prepare_data_mapping.new.below in
      let bytes = c.args.bytes.now in let most : n ≤ length bytes = rw c.length-n.ensures c.in_ok-mapping.ensures.run.0.0 in let wrote = c.in-Ok.ensures.writes in
      let stateless : m.state ≡ None → IsFree (d.layer a2) = λ none. wrote.keeps_layer_state.unspent ∙ c.in_ok-mapping.ensures.mine.1 none in
      ran_spent d b m.state (IsNotResourceError c.in_err-commit_or_abandon-in-Ok.field-0.0) a0 a1 a2 a3 x0 x1 c.args.offset (length bytes) m.storage place n bytes most
      (g.met.D.FormatDriverInstance.free_loose a0 c.requires.free) c.in_ok-mapping.ensures.size c.in_ok-mapping.ensures.does.mutating_call c.in_ok-mapping.ensures.below (rw (c.length-n.ensures, c.offset.ensures) c.in_ok-mapping.ensures.does.ok) c.in_ok-mapping.ensures.does.crash_images wrote.ok
      (ran_wrote d b ⊤ a1 a2 x1 c.args.offset place (take n bytes) wrote.keeps_layer_state wrote.mutating_call (λ w well_formed. wrote.mapped (g.met.D.FormatDriverInstance.well_formed_is_coherent a1 well_formed)) (λ w. wrote.ok) wrote.crash_images)
      (ran_unsettled d b m.state (IsNotResourceError c.in_err-commit_or_abandon-in-Ok.field-0.0) a2 a3 x1 g.met.D.FormatDriverInstance.free_loose c.in_err-commit_or_abandon-in-Ok.ensures.size c.in_err-commit_or_abandon-in-Ok.ensures.mutating_call
      (mine_on d m.state (d.layer a1) (d.layer a2) wrote.keeps_layer_state c.in_ok-mapping.ensures.mine.0) (c.in_err-commit_or_abandon-in-Ok.ensures.free stateless) (λ not_resource_error well_formed. c.in_err-commit_or_abandon-in-Ok.ensures.err well_formed not_resource_error) c.in_err-commit_or_abandon-in-Ok.ensures.crash_images);
  room = λ i not_resource_error. let d = g.D.DriverModel in let b = g.B.LayersBelowModel in
      let a0 = c.args.driver.now in let a1 = c.prepare_data_mapping.new.self in let a2 = c.write_mapped.new.self in let a3 = c.commit_or_abandon.new.driver in let n = c.length-n.result in
      let bytes = c.args.bytes.now in let most : n ≤ length bytes = rw c.length-n.ensures c.in_ok-mapping.ensures.run.0.0 in
      let safe1 : d.well_formed a1 = c.in_ok-mapping.ensures.does.mutating_call.safely (tt, i.is_coherent) i.is_well_formed in
      let wrote = c.in-Ok.ensures.writes in
      takes_run d (IsApart (d.layer a0).fixed.unit c.args.offset (length bytes)) a0 a1 a2 a3 (c.in_ok-mapping.ensures.does.room i.is_well_formed i.is_coherent tt) (wrote.room safe1 tt)
      (apart_loose (d.layer a0).fixed.unit c.args.offset n bytes (d.layer a1) (d.layer a2) most (c.in_ok-mapping.ensures.does.no_range_overflow i.is_well_formed i.is_coherent) (wrote.ok safe1))
      (c.in_err-commit_or_abandon-in-Ok.ensures.room (wrote.mutating_call.safely tt safe1) not_resource_error);
  stays_begun = λ e call begun part kind. tt;
})

pub returns-in_err-commit_or_abandon-in-Ok-clause-refused : goal.returns-in_err-commit_or_abandon-in-Ok-clause-refused
returns-in_err-commit_or_abandon-in-Ok-clause-refused g c = rw (handed_on _ _ c.from_residual-in_err-commit_or_abandon-in-Ok.ensures.1) (record {
  failed = let d = g.D.DriverModel in let b = g.B.LayersBelowModel in
      let a0 = c.args.driver.now in let a1 = c.prepare_data_mapping.new.self in let a2 = c.write_mapped.new.self in let a3 = c.commit_or_abandon.new.driver in
      failed_alone (files d a0) (files d a2) (files d a3) (b.files_of_layers_below c.args.below.now) (b.files_of_layers_below c.prepare_data_mapping.new.below) c.in_err-commit_or_abandon-in-Ok.field-0.0
      (later_all_both (files d a0) (files d a1) (files d a2) c.in_ok-mapping.ensures.does.mutating_call.counts_not_fallen c.in-Ok.ensures.writes.mutating_call.counts_not_fallen) c.in_ok-mapping.ensures.below.counts_not_fallen c.in_err-commit_or_abandon-in-Ok.ensures.failed;
  marks_failed = let d = g.D.DriverModel in let b = g.B.LayersBelowModel in let a0 = c.args.driver.now in let a1 = c.prepare_data_mapping.new.self in let x0 = c.args.below.now in let x1 = c.prepare_data_mapping.new.below in
      let a2 = c.write_mapped.new.self in let a3 = c.commit_or_abandon.new.driver in
      top_alone d b a0 a2 a3 x0 x1 c.in_err-commit_or_abandon-in-Ok.field-0.0 (c.in-Ok.ensures.writes.keeps_layer_state.fixed ∙ c.in_ok-mapping.ensures.does.mutating_call.fixed)
      (λ i. c.in-Ok.ensures.writes.mutating_call.safely tt (c.in_ok-mapping.ensures.does.mutating_call.safely (tt, i.is_coherent) i.is_well_formed)) c.in_err-commit_or_abandon-in-Ok.ensures.marks_failed;
  cause = λ i e call begun part says. let d = g.D.DriverModel in let b = g.B.LayersBelowModel in
      let a0 = c.args.driver.now in let a1 = c.prepare_data_mapping.new.self in let a2 = c.write_mapped.new.self in let a3 = c.commit_or_abandon.new.driver in let x0 = c.args.below.now in let x1 = c.prepare_data_mapping.new.below in
      let bytes = c.args.bytes.now in
      let well_formed : d.well_formed a2 = c.in-Ok.ensures.writes.mutating_call.safely tt (c.in_ok-mapping.ensures.does.mutating_call.safely (tt, i.is_coherent) i.is_well_formed) in
      part_cause_alone (b.layers_below x0) (d.layer a0) (d.layer a2) c.args.offset (length bytes) c.args.offset (length bytes) (files d a0) (files d a2) (files d a3) (b.files_of_layers_below x0) (b.files_of_layers_below x1)
      (c.in-Ok.ensures.writes.keeps_layer_state.fixed ∙ c.in_ok-mapping.ensures.does.mutating_call.fixed) (c.in-Ok.ensures.writes.keeps_layer_state.size ∙ c.in_ok-mapping.ensures.size) (g.met.D.FormatDriverInstance.well_formed_is_usable a0 i.is_well_formed) (g.met.D.FormatDriverInstance.well_formed_is_usable a2 well_formed)
      (layer_aligned d.layer g.met.D.FormatDriverInstance.aligned a0).positive (omega arith) (omega arith)
      (later_all_both (files d a0) (files d a1) (files d a2) c.in_ok-mapping.ensures.does.mutating_call.counts_not_fallen c.in-Ok.ensures.writes.mutating_call.counts_not_fallen) c.in_ok-mapping.ensures.below.counts_not_fallen
      (d.own_cause e (b.layers_below x0) call) (λ _. ⊥) c.in_err-commit_or_abandon-in-Ok.field-0.0 (λ none. absurd none) (c.in_err-commit_or_abandon-in-Ok.ensures.cause well_formed (b.layers_below x0) c.args.offset (length bytes) c.requires.nonempty);
})

pub returns-in-Err-clause-does : goal.returns-in-Err-clause-does
returns-in-Err-clause-does g c = record {
  range_change = let d = g.D.DriverModel in let b = g.B.LayersBelowModel in let m = c.in_ok-mapping.mapping in let n = c.length-n.result in let place = c.offset.result in
      let a0 = c.args.driver.now in let a1 = c.prepare_data_mapping.new.self in let a2 = c.write_mapped.new.self in let a3 = c.abandon.new.driver in let x0 = c.args.below.now in let x1 = c.prepare_data_mapping.new.below in
      let bytes = c.args.bytes.now in let most : n ≤ length bytes = rw c.length-n.ensures c.in_ok-mapping.ensures.run.0.0 in let mapping_id = mapping_id_of d.mapping_id m.state in
      let made : d.well_formed a0 → b.coherent_below x0 → Prepared (at (b.layers_below x0)) (d.layer a0) (d.layer a1) (asking c.args.offset (length bytes) true) (run_at m.storage place n mapping_id) = rw (c.length-n.ensures, c.offset.ensures) c.in_ok-mapping.ensures.does.ok in
      let first = ran_mapped d b m.state a0 a1 x0 x1 c.args.offset (length bytes) true m.storage m.offset m.length (g.met.D.FormatDriverInstance.free_loose a0 c.requires.free) c.in_ok-mapping.ensures.size c.in_ok-mapping.ensures.does.mutating_call c.in_ok-mapping.ensures.below c.in_ok-mapping.ensures.does.ok c.in_ok-mapping.ensures.does.crash_images in
      let like = c.in-Err.ensures.writes.keeps_layer_state in
      let mine = mine_on d m.state (d.layer a1) (d.layer a2) like c.in_ok-mapping.ensures.mine.0 in
      ran_both d b (IsNotResourceError c.in-Err.fault) GivesNone (GivesBytes c.args.offset (take n bytes)) (GivesBytes c.args.offset bytes) a0 a1 a3 x0 x1 x1 (λ p v none. absurd none) (gives_prefix c.args.offset n bytes most) first
      (ran_given_up d b m.state (IsNotResourceError c.in-Err.fault) (GivesBytes c.args.offset (take n bytes)) a1 a2 a3 x1 g.met.D.FormatDriverInstance.free_loose like c.in-Err.ensures.writes.mutating_call mine (λ none. like.unspent ∙ c.in_ok-mapping.ensures.mine.1 none)
      (λ not_resource_error well_formed. c.in-Err.ensures.writes.err well_formed not_resource_error) c.abandon.ensures.ok c.abandon.ensures.well_formed c.abandon.ensures.stable c.abandon.ensures.excess_refcount c.abandon.ensures.none.0 c.abandon.ensures.none.1 c.in-Err.ensures.writes.crash_images);
  room = λ i not_resource_error. let d = g.D.DriverModel in
      let a0 = c.args.driver.now in let a1 = c.prepare_data_mapping.new.self in let a2 = c.write_mapped.new.self in let a3 = c.abandon.new.driver in
      let safe1 : d.well_formed a1 = c.in_ok-mapping.ensures.does.mutating_call.safely (tt, i.is_coherent) i.is_well_formed in
      let wrote = c.in-Err.ensures.writes in
      takes_none_thrice d (IsApart (d.layer a0).fixed.unit c.args.offset (length c.args.bytes.now)) a0 a1 a2 a3 (c.in_ok-mapping.ensures.does.room i.is_well_formed i.is_coherent tt) (wrote.room safe1 not_resource_error) (c.abandon.ensures.room (wrote.mutating_call.safely not_resource_error safe1));
  stays_begun = λ e call begun part kind. tt;
}

pub returns-in-Err-clause-refused : goal.returns-in-Err-clause-refused
returns-in-Err-clause-refused g c = record {
  failed = let d = g.D.DriverModel in let b = g.B.LayersBelowModel in
      let a0 = c.args.driver.now in let a1 = c.prepare_data_mapping.new.self in let a2 = c.write_mapped.new.self in
      rw (c.abandon.ensures.none.0, c.abandon.ensures.none.1) (failed_alone (files d a0) (files d a1) (files d a2) (b.files_of_layers_below c.args.below.now) (b.files_of_layers_below c.prepare_data_mapping.new.below) c.in-Err.fault c.in_ok-mapping.ensures.does.mutating_call.counts_not_fallen c.in_ok-mapping.ensures.below.counts_not_fallen c.in-Err.ensures.refused.failed);
  marks_failed = let d = g.D.DriverModel in let b = g.B.LayersBelowModel in let a0 = c.args.driver.now in let a1 = c.prepare_data_mapping.new.self in let x0 = c.args.below.now in let x1 = c.prepare_data_mapping.new.below in
      let a2 = c.write_mapped.new.self in let a3 = c.abandon.new.driver in
      top_alone d b a0 a1 a3 x0 x1 c.in-Err.fault c.in_ok-mapping.ensures.does.mutating_call.fixed (λ i. c.in_ok-mapping.ensures.does.mutating_call.safely (tt, i.is_coherent) i.is_well_formed)
      (alone_before d a1 a2 a3 c.in-Err.fault c.abandon.ensures.failed c.abandon.ensures.well_formed (alone_plain d a1 a2 c.in-Err.fault c.in-Err.ensures.refused.marks_failed));
  cause = λ i e call begun part says. let d = g.D.DriverModel in let b = g.B.LayersBelowModel in let m = c.in_ok-mapping.mapping in let n = c.length-n.result in let place = c.offset.result in
      let a0 = c.args.driver.now in let a1 = c.prepare_data_mapping.new.self in let a2 = c.write_mapped.new.self in let a3 = c.abandon.new.driver in let x0 = c.args.below.now in let x1 = c.prepare_data_mapping.new.below in
      let bytes = c.args.bytes.now in let most : n ≤ length bytes = rw c.length-n.ensures c.in_ok-mapping.ensures.run.0.0 in let mapping_id = mapping_id_of d.mapping_id m.state in
      let long : length (take n bytes) ≡ n = grind (arith, common_steps) in
      let made : Prepared (at (b.layers_below x0)) (d.layer a0) (d.layer a1) (asking c.args.offset (length bytes) true) (run_at m.storage place n mapping_id) = rw (c.length-n.ensures, c.offset.ensures) (c.in_ok-mapping.ensures.does.ok i.is_well_formed i.is_coherent) in
      let well_formed : d.well_formed a1 = c.in_ok-mapping.ensures.does.mutating_call.safely (tt, i.is_coherent) i.is_well_formed in
      let met = mapped_cause (b.layers_below x0) (d.layer a1) c.args.offset place (length (take n bytes)) (files d a1) (files d a2) c.in-Err.fault
      (λ some. prepared_mapped (at (b.layers_below x0)) (d.layer a0) (d.layer a1) c.args.offset (length bytes) true m.storage place n bytes mapping_id most made) (c.in-Err.ensures.refused.cause well_formed) in
      rw (c.abandon.ensures.none.0, c.abandon.ensures.none.1)
      (part_cause_alone (b.layers_below x0) (d.layer a0) (d.layer a1) c.args.offset (length bytes) c.args.offset (length (take n bytes)) (files d a0) (files d a1) (files d a2) (b.files_of_layers_below x0) (b.files_of_layers_below x1)
      c.in_ok-mapping.ensures.does.mutating_call.fixed c.in_ok-mapping.ensures.size (g.met.D.FormatDriverInstance.well_formed_is_usable a0 i.is_well_formed) (g.met.D.FormatDriverInstance.well_formed_is_usable a1 well_formed)
      (layer_aligned d.layer g.met.D.FormatDriverInstance.aligned a0).positive (omega arith) (omega (arith, long, most)) c.in_ok-mapping.ensures.does.mutating_call.counts_not_fallen c.in_ok-mapping.ensures.below.counts_not_fallen
      (d.own_cause e (b.layers_below x0) call) (λ _. ⊥) c.in-Err.fault (λ none. absurd none) met);
}

pub returns-in_err-mapping-clause-does : goal.returns-in_err-mapping-clause-does
returns-in_err-mapping-clause-does g c = rw (handed_on _ _ c.from_residual.ensures.1) (record {
  range_change = let d = g.D.DriverModel in let b = g.B.LayersBelowModel in let e = c.in_err-mapping.ensures in
      let a0 = c.args.driver.now in let a1 = c.prepare_data_mapping.new.self in let x0 = c.args.below.now in let x1 = c.prepare_data_mapping.new.below in
      ran_gives d b (IsNotResourceError c.in_err-mapping.field-0.0) GivesNone (GivesBytes c.args.offset c.args.bytes.now) a0 a1 x0 x1 (λ p v none. absurd none)
      (ran_prepared d b (Err c.in_err-mapping.field-0.0) a0 a1 x0 x1 c.args.offset (length c.args.bytes.now) true (g.met.D.FormatDriverInstance.free_loose a0 c.requires.free) e.size e.does.mutating_call e.below e.does.ok e.does.err e.does.crash_images);
  room = λ i whole. takes_none g.D.DriverModel (IsApart (g.D.DriverModel.layer c.args.driver.now).fixed.unit c.args.offset (length c.args.bytes.now)) c.args.driver.now c.prepare_data_mapping.new.self (c.in_err-mapping.ensures.does.room i.is_well_formed i.is_coherent whole);
  stays_begun = λ e call begun part kind. tt;
})

pub returns-in_ok-commit_or_abandon-in-Ok-clause-shown : goal.returns-in_ok-commit_or_abandon-in-Ok-clause-shown
returns-in_ok-commit_or_abandon-in-Ok-clause-shown g c = λ i. let d = g.D.DriverModel in let b = g.B.LayersBelowModel in let m = c.in_ok-mapping.mapping in let n = c.length-n.result in let place = c.offset.result in
    let a1 = c.prepare_data_mapping.new.self in let a2 = c.write_mapped.new.self in let a3 = c.commit_or_abandon.new.driver in
    let bytes = c.args.bytes.now in let most : n ≤ length bytes = rw c.length-n.ensures c.in_ok-mapping.ensures.run.0.0 in let wrote = c.in-Ok.ensures.writes in let settled = c.in_ok-commit_or_abandon-in-Ok.ensures in
    let safe1 = c.in_ok-mapping.ensures.does.mutating_call.safely (tt, i.is_coherent) i.is_well_formed in
    let in_disk : c.args.offset + n ≤ (d.layer a3).size = rw c.length-n.ensures (omega (arith, c.in_ok-mapping.ensures.run.0.2 c.requires.nonempty, c.in_ok-mapping.ensures.size, wrote.keeps_layer_state.size, settled.size)) in
    run_shows d m.state (b.layers_below c.args.below.now) (d.layer c.args.driver.now) (d.layer a1) (d.layer a2) (d.layer a3) c.args.offset (length bytes) true m.storage place n bytes (mapping_id_of d.mapping_id m.state) most in_disk
    (rw (c.length-n.ensures, c.offset.ensures) (c.in_ok-mapping.ensures.does.ok i.is_well_formed i.is_coherent)) (wrote.ok safe1) (mine_on d m.state (d.layer a1) (d.layer a2) wrote.keeps_layer_state c.in_ok-mapping.ensures.mine.0)
    (λ none. g.met.D.FormatDriverInstance.free_loose a2 (wrote.keeps_layer_state.unspent ∙ c.in_ok-mapping.ensures.mine.1 none))
    (spends_more d m.state (d.layer a2) (d.layer a3) (d.well_formed a2 → Committed (d.layer a2) (d.layer a3)) (Committed (d.layer a2) (d.layer a3)) (λ h. h (wrote.mutating_call.safely tt safe1)) settled.ok)
