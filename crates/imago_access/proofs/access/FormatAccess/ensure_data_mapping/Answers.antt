use Rattle.std.proofs.Common.{◌≡◌, ◌∷◌, ◌++◌, ◌+◌, refl, arith, None, map, ap, sym, subst, ◌∙◌, inl, inr, ℕ}
use Rattle.std.specs.Prelude.{⊤, Err, is_some}
use Rattle.std.proofs.lemmas.Bool.{cases_lt}
use Rattle.imago_storage.specs.Steps.{ensure}
use Rattle.imago_storage.proofs.Parts.{passed}
use Rattle.imago_access.specs.Layer.{IsFree, hold_of, Cell, through}
use Rattle.imago_access.specs.Layers.{chain, layers}
use Rattle.imago_access.specs.Chain.{at, disk_of, unit_of_chain}
use Rattle.imago_access.specs.Changes.{Committed}
use Rattle.imago_access.specs.Files.{IsNotResourceError, HadNoResourceError, files_of, files}
use Rattle.imago_access.specs.Refusals.{unusable_fault}
use Rattle.imago_access.specs.Spending.{mapping_id_of}
use Rattle.imago_access.specs.Stops.{GivesNone, GivesAnnounced}
use Rattle.imago_access.specs.declared.mapping.PreparedDataMapping.{PreparedDataMapping}
use Rattle.imago_access.proofs.Answers.{handed_on}
use Rattle.imago_access.proofs.ChangeCauses.{change_cause, part_cause_alone}
use Rattle.imago_access.proofs.Ensuring.{unbarred, stays_committed, settled_commits, settled_home, ran_ensured}
use Rattle.imago_access.proofs.Holding.{truly_prepared, spends_more, at_alike, given_up_cell}
use Rattle.imago_access.proofs.HoldingRuns.{ran_mapped, ran_prepared, ran_settled, ran_unsettled}
use Rattle.imago_access.proofs.MappingCalls.{not_prepared_stays, prepared_step, stateless_is, stateful_claims}
use Rattle.imago_access.proofs.Running.{ran_same, ran_seen, ran_gives}
use Rattle.imago_access.proofs.Units.{layer_aligned, overflows_chain}
use Rattle.imago_access.proofs.ImageCauses.{failed_alone}
use Rattle.imago_access.proofs.Uncut.{own_part}
use Rattle.imago_access.proofs.Marking.{top_mild, top_over, top_alone}
use Rattle.imago_access.proofs.Untouched.{unchanged_both}
use Rattle.imago_access.specs.RunCalls.{MarksTopFailed}
use Rattle.imago_access.proofs.access.FormatAccess.ensure_data_mapping.Goals as goal
use Rattle.imago_access.specs.Running.{below_ghosts}
use Rattle.imago_access.proofs.Looking.{seen_by}

pub returns-in_err-check_change-clause-range_change : goal.returns-in_err-check_change-clause-range_change
returns-in_err-check_change-clause-range_change g c = let d = g.D.DriverModel in
    ran_same d (below_ghosts d) (HadNoResourceError c.from_residual.result) (GivesAnnounced c.args.overwrite c.args.offset c.args.length) c.args.self.now.0 c.args.self.now.1

pub returns-in_err-prepared-clause-range_change : goal.returns-in_err-prepared-clause-range_change
returns-in_err-prepared-clause-range_change g c = let d = g.D.DriverModel in
    let laws = g.met.D.FormatDriverInstance in
    let r = c.prepare_data_mapping in
    let a0 = c.self.inside.driver in
    let a1 = r.new.self in
    let x0 = c.self.inside.below in
    let x1 = r.new.below in
    let under = map d.layer (layers x0) in
    let free : IsFree (d.layer a0) = subst (λ (v : _). IsFree (d.layer v.0)) (sym c.self.view_is) c.requires.free in
    let e = c.in_err-prepared.ensures in
    rw (← c.self.view_is, handed_on _ _ c.from_residual-in_err-prepared.ensures.1) (ran_seen layers d (below_ghosts d) (IsNotResourceError c.in_err-prepared.field-0.0) (GivesAnnounced c.args.overwrite c.args.offset c.args.length) a0 a1 x0 x1
    (ran_gives d (seen_by layers (below_ghosts d)) (IsNotResourceError c.in_err-prepared.field-0.0) GivesNone (GivesAnnounced c.args.overwrite c.args.offset c.args.length) a0 a1 x0 x1 (λ p v none. absurd none)
    (ran_prepared d (seen_by layers (below_ghosts d)) (Err c.in_err-prepared.field-0.0) a0 a1 x0 x1 c.args.offset c.args.length c.args.overwrite (laws.free_loose a0 free) e.size e.does.mutating_call e.below e.does.ok e.does.err e.does.crash_images)))

pub returns-in_err-prepared-clause-cause : goal.returns-in_err-prepared-clause-cause
returns-in_err-prepared-clause-cause g c = let d = g.D.DriverModel in
    let laws = g.met.D.FormatDriverInstance in
    let r = c.prepare_data_mapping in
    let a0 = c.self.inside.driver in
    let a1 = r.new.self in
    let x0 = c.self.inside.below in
    let x1 = r.new.below in
    let under = map d.layer (layers x0) in
    let free : IsFree (d.layer a0) = subst (λ (v : _). IsFree (d.layer v.0)) (sym c.self.view_is) c.requires.free in
    let call = ensure c.args.offset c.args.length c.args.overwrite in
    rw (← c.self.view_is, handed_on _ _ c.from_residual-in_err-prepared.ensures.1) (λ intact. change_cause under (d.layer a0) call (d.own_cause a0 under call) (d.image a0 ∷ (d.extras a0 ++ files_of d (layers x0))) (d.image a1 ∷ (d.extras a1 ++ files_of d (layers x1))) (λ some. some) (overflows_chain d.layer laws.aligned a0 (layers x0) c.args.offset c.args.length) c.in_err-prepared.field-0.0
    (c.in_err-prepared.ensures.does.refused.cause intact.is_well_formed intact.is_coherent a0 call (laws.begins a0 call) (own_part (d.layer a0) call) refl))

pub returns-in_err-commit_or_abandon-clause-range_change : goal.returns-in_err-commit_or_abandon-clause-range_change
returns-in_err-commit_or_abandon-clause-range_change g c = let d = g.D.DriverModel in
    let laws = g.met.D.FormatDriverInstance in
    let r = c.prepare_data_mapping in
    let a0 = c.self.inside.driver in
    let a1 = r.new.self in
    let x0 = c.self.inside.below in
    let x1 = r.new.below in
    let under = map d.layer (layers x0) in
    let free : IsFree (d.layer a0) = subst (λ (v : _). IsFree (d.layer v.0)) (sym c.self.view_is) c.requires.free in
    let m = c.in_ok-prepared.prepared in
    let a2 = c.commit_or_abandon.new.driver in
    let mapping_id = mapping_id_of d.mapping_id m.state in
    let stateless = λ (none : m.state ≡ None). laws.free_loose a1 (c.in_ok-prepared.ensures.mine.1 none) in
    let s = c.in_err-commit_or_abandon.ensures in
    rw (← c.self.view_is, handed_on _ _ c.from_residual-in_err-commit_or_abandon.ensures.1) (ran_seen layers d (below_ghosts d) (IsNotResourceError c.in_err-commit_or_abandon.field-0.0) (GivesAnnounced c.args.overwrite c.args.offset c.args.length) a0 a2 x0 x1
    (ran_ensured d (seen_by layers (below_ghosts d)) (IsNotResourceError c.in_err-commit_or_abandon.field-0.0) a0 a1 a2 x0 x1 c.args.offset c.args.length c.args.overwrite m.storage m.offset m.length mapping_id c.in_ok-prepared.ensures.run.0.0 (λ i. c.in_ok-prepared.ensures.does.ok i.is_well_formed i.is_coherent)
    (ran_mapped d (seen_by layers (below_ghosts d)) m.state a0 a1 x0 x1 c.args.offset c.args.length c.args.overwrite m.storage m.offset m.length (laws.free_loose a0 free) c.in_ok-prepared.ensures.size c.in_ok-prepared.ensures.does.mutating_call c.in_ok-prepared.ensures.below c.in_ok-prepared.ensures.does.ok c.in_ok-prepared.ensures.does.crash_images)
    (ran_unsettled d (seen_by layers (below_ghosts d)) m.state (IsNotResourceError c.in_err-commit_or_abandon.field-0.0) a1 a2 x1 laws.free_loose s.size s.mutating_call c.in_ok-prepared.ensures.mine.0 (s.free c.in_ok-prepared.ensures.mine.1) (λ not_resource_error well_formed. s.err well_formed not_resource_error) s.crash_images)))

pub returns-in_err-commit_or_abandon-clause-failed : goal.returns-in_err-commit_or_abandon-clause-failed
returns-in_err-commit_or_abandon-clause-failed g c = let d = g.D.DriverModel in
    let a0 = c.self.inside.driver in let a1 = c.prepare_data_mapping.new.self in let a2 = c.commit_or_abandon.new.driver in
    rw (← c.self.view_is, handed_on _ _ c.from_residual-in_err-commit_or_abandon.ensures.1) (failed_alone (files d a0) (files d a1) (files d a2) (files_of d (layers c.self.inside.below)) (files_of d (layers c.prepare_data_mapping.new.below)) c.in_err-commit_or_abandon.field-0.0 c.in_ok-prepared.ensures.does.mutating_call.counts_not_fallen c.in_ok-prepared.ensures.below.counts_not_fallen c.in_err-commit_or_abandon.ensures.failed)

pub returns-in_err-commit_or_abandon-clause-cause : goal.returns-in_err-commit_or_abandon-clause-cause
returns-in_err-commit_or_abandon-clause-cause g c = let d = g.D.DriverModel in
    let laws = g.met.D.FormatDriverInstance in
    let r = c.prepare_data_mapping in
    let a0 = c.self.inside.driver in
    let a1 = r.new.self in
    let x0 = c.self.inside.below in
    let x1 = r.new.below in
    let under = map d.layer (layers x0) in
    let free : IsFree (d.layer a0) = subst (λ (v : _). IsFree (d.layer v.0)) (sym c.self.view_is) c.requires.free in
    let m = c.in_ok-prepared.prepared in
    let a2 = c.commit_or_abandon.new.driver in
    let mapping_id = mapping_id_of d.mapping_id m.state in
    let stateless = λ (none : m.state ≡ None). laws.free_loose a1 (c.in_ok-prepared.ensures.mine.1 none) in
    let s = c.in_err-commit_or_abandon.ensures in
    let call = ensure c.args.offset c.args.length c.args.overwrite in
    rw (← c.self.view_is, handed_on _ _ c.from_residual-in_err-commit_or_abandon.ensures.1) (λ intact.
    let well_formed : d.well_formed a1 = c.in_ok-prepared.ensures.does.mutating_call.safely (tt, intact.is_coherent) intact.is_well_formed in
    change_cause under (d.layer a0) call (d.own_cause a0 under call) (d.image a0 ∷ (d.extras a0 ++ files_of d (layers x0))) (d.image a2 ∷ (d.extras a2 ++ files_of d (layers x1))) (λ some. some) (overflows_chain d.layer laws.aligned a0 (layers x0) c.args.offset c.args.length) c.in_err-commit_or_abandon.field-0.0
    (part_cause_alone under (d.layer a0) (d.layer a1) c.args.offset c.args.length c.args.offset c.args.length (files d a0) (files d a1) (files d a2) (files_of d (layers x0)) (files_of d (layers x1))
    c.in_ok-prepared.ensures.does.mutating_call.fixed c.in_ok-prepared.ensures.size (laws.well_formed_is_usable a0 intact.is_well_formed) (laws.well_formed_is_usable a1 well_formed) (layer_aligned d.layer laws.aligned a0).positive (omega arith) (omega arith) c.in_ok-prepared.ensures.does.mutating_call.counts_not_fallen c.in_ok-prepared.ensures.below.counts_not_fallen
    (d.own_cause a0 under call) (λ _. ⊥) c.in_err-commit_or_abandon.field-0.0 (λ none. absurd none) (s.cause well_formed under c.args.offset c.args.length (elim (cases_lt 0 c.args.length) [
      | inl some ↦ some
      | inr none ↦
          let zero : c.args.length ≡ 0 = omega (arith, none) in
          let empty = c.in_ok-prepared.ensures.empty zero in
          let unit = unit_of_chain (map d.layer (chain c.args.self.now)) in
          let open_top : unusable_fault (d.layer a0) ≡ None = subst (λ (v : _). unusable_fault (d.layer v.0) ≡ None) (sym c.self.view_is) (unbarred unit (d.layer c.args.self.now.0) c.args.offset c.args.length c.in_ok-check_change.ensures.ok) in
          absurd (cc (s.idle (ap (λ (m' : PreparedDataMapping g.row.D-State.Denot). m'.state) empty.0) (ap unusable_fault empty.1 ∙ open_top)))
    ]))))

pub returns-clause-ok : goal.returns-clause-ok
returns-clause-ok g c = let d = g.D.DriverModel in
    let laws = g.met.D.FormatDriverInstance in
    let r = c.prepare_data_mapping in
    let a0 = c.self.inside.driver in
    let a1 = r.new.self in
    let x0 = c.self.inside.below in
    let x1 = r.new.below in
    let under = map d.layer (layers x0) in
    let free : IsFree (d.layer a0) = subst (λ (v : _). IsFree (d.layer v.0)) (sym c.self.view_is) c.requires.free in
    let m = c.in_ok-prepared.prepared in
    let a2 = c.commit_or_abandon.new.driver in
    let mapping_id = mapping_id_of d.mapping_id m.state in
    let stateless = λ (none : m.state ≡ None). laws.free_loose a1 (c.in_ok-prepared.ensures.mine.1 none) in
    let s = c.in_ok-commit_or_abandon.ensures in
    rw (← c.self.view_is) (λ intact.
    let made = c.in_ok-prepared.ensures.does.ok intact.is_well_formed intact.is_coherent in
    let same = (c.in_ok-prepared.ensures.below.stays tt intact.is_coherent).0 in
    let well_formed : d.well_formed a1 = c.in_ok-prepared.ensures.does.mutating_call.safely (tt, intact.is_coherent) intact.is_well_formed in
    let settles = spends_more d m.state (d.layer a1) (d.layer a2) (d.well_formed a1 → Committed (d.layer a1) (d.layer a2)) (Committed (d.layer a1) (d.layer a2)) (λ h. h well_formed) s.ok in
    let commits = settled_commits d m.state under (map d.layer (layers x1)) (d.layer a1) (d.layer a2) same s.size (truly_prepared (at under) (d.layer a0) (d.layer a1) c.args.offset c.args.length c.args.overwrite m.storage m.offset m.length mapping_id made) c.in_ok-prepared.ensures.mine.0 stateless (laws.free_loose a2 (s.free c.in_ok-prepared.ensures.mine.1)) settles in
    let first = prepared_step under under (d.layer a0) (d.layer a1) c.args.offset c.args.length c.args.overwrite m.storage m.offset m.length mapping_id (is_some m.state) refl (laws.free_loose a0 free) made c.in_ok-prepared.ensures.run.0.0 c.in_ok-prepared.ensures.run.0.1 c.in_ok-prepared.ensures.run.0.2
    (λ none. stateless (stateless_is m.state none)) (stateful_claims d.mapping_id m.state) (λ zero. ap (λ (m' : PreparedDataMapping g.row.D-State.Denot). is_some m'.state) (c.in_ok-prepared.ensures.empty zero).0) in
    rw c.length-length.ensures (elim first [
      | inl idle ↦ inl (idle.0, (stays_committed (disk_of under (d.layer a0)) (disk_of under (d.layer a1)) (disk_of (map d.layer (layers x1)) (d.layer a2)) (λ p low. ap hold_of (stateless (stateless_is m.state idle.1.2) p)) idle.1.0 commits, idle.1.1))
      | inr busy ↦ inr (busy.0, (disk_of under (d.layer a1), is_some m.state, busy.1, commits))
    ]))

pub returns-clause-writable_location : goal.returns-clause-writable_location
returns-clause-writable_location g c = let d = g.D.DriverModel in
    let laws = g.met.D.FormatDriverInstance in
    let r = c.prepare_data_mapping in
    let a0 = c.self.inside.driver in
    let a1 = r.new.self in
    let x0 = c.self.inside.below in
    let x1 = r.new.below in
    let under = map d.layer (layers x0) in
    let free : IsFree (d.layer a0) = subst (λ (v : _). IsFree (d.layer v.0)) (sym c.self.view_is) c.requires.free in
    let m = c.in_ok-prepared.prepared in
    let a2 = c.commit_or_abandon.new.driver in
    let mapping_id = mapping_id_of d.mapping_id m.state in
    let stateless = λ (none : m.state ≡ None). laws.free_loose a1 (c.in_ok-prepared.ensures.mine.1 none) in
    let s = c.in_ok-commit_or_abandon.ensures in
    rw (← c.self.view_is) (λ intact.
    let made = c.in_ok-prepared.ensures.does.ok intact.is_well_formed intact.is_coherent in
    let well_formed : d.well_formed a1 = c.in_ok-prepared.ensures.does.mutating_call.safely (tt, intact.is_coherent) intact.is_well_formed in
    let settles = spends_more d m.state (d.layer a1) (d.layer a2) (d.well_formed a1 → Committed (d.layer a1) (d.layer a2)) (Committed (d.layer a1) (d.layer a2)) (λ h. h well_formed) s.ok in
    rw (c.storage.ensures, c.offset.ensures, c.length-length.ensures) (refl, refl, λ i lt. settled_home d m.state (d.layer a1) (d.layer a2) c.in_ok-prepared.ensures.mine.0 settles (c.args.offset + i) (m.storage, m.offset + i) (made.writable_location i lt)))

pub returns-clause-range_change : goal.returns-clause-range_change
returns-clause-range_change g c = let d = g.D.DriverModel in
    let laws = g.met.D.FormatDriverInstance in
    let r = c.prepare_data_mapping in
    let a0 = c.self.inside.driver in
    let a1 = r.new.self in
    let x0 = c.self.inside.below in
    let x1 = r.new.below in
    let under = map d.layer (layers x0) in
    let free : IsFree (d.layer a0) = subst (λ (v : _). IsFree (d.layer v.0)) (sym c.self.view_is) c.requires.free in
    let m = c.in_ok-prepared.prepared in
    let a2 = c.commit_or_abandon.new.driver in
    let mapping_id = mapping_id_of d.mapping_id m.state in
    let stateless = λ (none : m.state ≡ None). laws.free_loose a1 (c.in_ok-prepared.ensures.mine.1 none) in
    let s = c.in_ok-commit_or_abandon.ensures in
    rw (← c.self.view_is) (ran_seen layers d (below_ghosts d) ⊤ (GivesAnnounced c.args.overwrite c.args.offset c.args.length) a0 a2 x0 x1
    (ran_ensured d (seen_by layers (below_ghosts d)) ⊤ a0 a1 a2 x0 x1 c.args.offset c.args.length c.args.overwrite m.storage m.offset m.length mapping_id c.in_ok-prepared.ensures.run.0.0 (λ i. c.in_ok-prepared.ensures.does.ok i.is_well_formed i.is_coherent)
    (ran_mapped d (seen_by layers (below_ghosts d)) m.state a0 a1 x0 x1 c.args.offset c.args.length c.args.overwrite m.storage m.offset m.length (laws.free_loose a0 free) c.in_ok-prepared.ensures.size c.in_ok-prepared.ensures.does.mutating_call c.in_ok-prepared.ensures.below c.in_ok-prepared.ensures.does.ok c.in_ok-prepared.ensures.does.crash_images)
    (ran_settled d (seen_by layers (below_ghosts d)) m.state ⊤ a1 a2 x1 laws.free_loose s.size s.mutating_call c.in_ok-prepared.ensures.mine.0 c.in_ok-prepared.ensures.mine.1 (s.free c.in_ok-prepared.ensures.mine.1) (λ w well_formed. spends_more d m.state (d.layer a1) (d.layer a2) (d.well_formed a1 → Committed (d.layer a1) (d.layer a2)) (Committed (d.layer a1) (d.layer a2)) (λ h. h well_formed) s.ok) s.crash_images)))

pub returns-clause-unchanged : goal.returns-clause-unchanged
returns-clause-unchanged g c = λ how. let d = g.D.DriverModel in
    let no_change_refused = c.in_ok-check_change.ensures.ok in
    let empty : c.args.length ≡ 0 = elim how [ inl none ↦ none | inr some ↦ absurd (grind (arith, some, no_change_refused)) ] in
    let state : c.in_ok-prepared.prepared.state ≡ None = ap (λ m. m.state) (c.in_ok-prepared.ensures.empty empty).0 in
    let both = unchanged_both d c.self.inside.driver c.prepare_data_mapping.new.self c.commit_or_abandon.new.driver (c.in_ok-prepared.ensures.early_outcome.unchanged (inl empty)) (c.in_ok-commit_or_abandon.ensures.unchanged state) in
    rw (← c.self.view_is) (both, ap layers (c.in_ok-prepared.ensures.unread (inl empty)))

pub returns-in_err-prepared-clause-err : goal.returns-in_err-prepared-clause-err
returns-in_err-prepared-clause-err g c = let d = g.D.DriverModel in
    let r = c.prepare_data_mapping in
    let a0 = c.self.inside.driver in
    let x0 = c.self.inside.below in
    let e = c.in_err-prepared.ensures in
    rw (← c.self.view_is, handed_on _ _ c.from_residual-in_err-prepared.ensures.1) (λ intact not_resource_error.
    not_prepared_stays (map d.layer (layers x0)) (map d.layer (layers r.new.below)) (d.layer a0) (d.layer r.new.self) (e.below.stays not_resource_error intact.is_coherent).0 (e.does.err intact.is_well_formed intact.is_coherent not_resource_error))

pub returns-in_err-commit_or_abandon-clause-err : goal.returns-in_err-commit_or_abandon-clause-err
returns-in_err-commit_or_abandon-clause-err g c = let d = g.D.DriverModel in
    let laws = g.met.D.FormatDriverInstance in
    let r = c.prepare_data_mapping in
    let a0 = c.self.inside.driver in
    let a1 = r.new.self in
    let a2 = c.commit_or_abandon.new.driver in
    let x0 = c.self.inside.below in
    let under = map d.layer (layers x0) in
    let free : IsFree (d.layer a0) = subst (λ (v : _). IsFree (d.layer v.0)) (sym c.self.view_is) c.requires.free in
    let m = c.in_ok-prepared.prepared in
    let s = c.in_err-commit_or_abandon.ensures in
    rw (← c.self.view_is, handed_on _ _ c.from_residual-in_err-commit_or_abandon.ensures.1) (λ intact not_resource_error.
    let made = c.in_ok-prepared.ensures.does.ok intact.is_well_formed intact.is_coherent in
    let same = (c.in_ok-prepared.ensures.below.stays tt intact.is_coherent).0 in
    let well_formed : d.well_formed a1 = c.in_ok-prepared.ensures.does.mutating_call.safely (tt, intact.is_coherent) intact.is_well_formed in
    let spends = s.err well_formed not_resource_error in
    let size : (d.layer a2).size ≡ (d.layer a0).size = s.size ∙ c.in_ok-prepared.ensures.size in
    rw same (record {
      size = size;
      value = λ p low. at_alike (d.layer a0) (d.layer a2) under p size (ap (λ (cell : ℕ → Cell). through (cell p) (at under p)) (given_up_cell d m.state (d.layer a1) (d.layer a2) c.in_ok-prepared.ensures.mine.0 spends ∙ made.cell));
      hold = λ p low. ap hold_of (laws.free_loose a2 (s.free c.in_ok-prepared.ensures.mine.1) p ∙ sym (laws.free_loose a0 free p));
    }))

pub returns-in_err-check_change-clause-marks_failed : goal.returns-in_err-check_change-clause-marks_failed
returns-in_err-check_change-clause-marks_failed g c = let d = g.D.DriverModel in let a = c.args.self.now.0 in let ds = c.args.self.now.1 in
    passed c.from_residual.result (MarksTopFailed d (below_ghosts d) (a, ds) (a, ds)) c.in_err-check_change.field-0.0 c.from_residual.ensures.1 (top_mild d (below_ghosts d) a a ds ds c.in_err-check_change.field-0.0 c.in_err-check_change.ensures.not_resource_error)

pub returns-in_err-prepared-clause-marks_failed : goal.returns-in_err-prepared-clause-marks_failed
returns-in_err-prepared-clause-marks_failed g c = let d = g.D.DriverModel in let r = c.prepare_data_mapping in
    rw (← c.self.view_is, handed_on _ _ c.from_residual-in_err-prepared.ensures.1) (top_over d (below_ghosts d) c.self.inside.driver r.new.self (layers c.self.inside.below) (layers r.new.below) c.in_err-prepared.field-0.0 c.in_err-prepared.ensures.does.refused.marks_failed)

pub returns-in_err-commit_or_abandon-clause-marks_failed : goal.returns-in_err-commit_or_abandon-clause-marks_failed
returns-in_err-commit_or_abandon-clause-marks_failed g c = let d = g.D.DriverModel in let r = c.prepare_data_mapping in
    rw (← c.self.view_is, handed_on _ _ c.from_residual-in_err-commit_or_abandon.ensures.1) (top_alone d (below_ghosts d) c.self.inside.driver r.new.self c.commit_or_abandon.new.driver (layers c.self.inside.below) (layers r.new.below) c.in_err-commit_or_abandon.field-0.0 c.in_ok-prepared.ensures.does.mutating_call.fixed
    (λ i. c.in_ok-prepared.ensures.does.mutating_call.safely (tt, i.is_coherent) i.is_well_formed) c.in_err-commit_or_abandon.ensures.marks_failed)
