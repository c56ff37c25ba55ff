use Rattle.std.proofs.Common.{ap, ◌∙◌}
use Rattle.qcow2_image.specs.Holding.{mapping_id_held}
use Rattle.qcow2_image.specs.Unspent.{holding_in}
use Rattle.qcow2_image.proofs.RequestsWithoutChanges.{anew-marks, anew-same, anew-went, reloads-settled}
use Rattle.qcow2_image.proofs.drivers.Qcow2FormatDriverInstance.invalidate_cache.Goals as goal

pub returns-clause-same : goal.returns-clause-same
returns-clause-same g c = λ keeps seen has_no_dirty_data.
    let all = reloads-settled g.S.Storage c.args.self.now c.mark_reload_fault.new.self c.reload-answer.new.tables c.reload-answer.result c.mark_reload_fault.result c.reload-answer.ensures c.mark_reload_fault.ensures.same c.mark_reload_fault.ensures.marks_failed in
    anew-same g.row.S g.S.Storage g.S.Storage-dict g.S.Destruct-dict c.args.self.now c.mark_reload_fault.new.self c.mark_reload_fault.result all.0 all.1 all.2 all.3 c.requires.free all.4 seen.seen

pub returns-clause-marks_failed : goal.returns-clause-marks_failed
returns-clause-marks_failed g c =
    let all = reloads-settled g.S.Storage c.args.self.now c.mark_reload_fault.new.self c.reload-answer.new.tables c.reload-answer.result c.mark_reload_fault.result c.reload-answer.ensures c.mark_reload_fault.ensures.same c.mark_reload_fault.ensures.marks_failed in
    anew-marks g.row.S g.S.Storage g.S.Storage-dict g.S.Destruct-dict c.args.self.now c.mark_reload_fault.new.self c.mark_reload_fault.result all.0 all.1 all.2 all.3 c.requires.free all.4

pub returns-clause-reloads : goal.returns-clause-reloads
returns-clause-reloads g c = λ runs.
    (reloads-settled g.S.Storage c.args.self.now c.mark_reload_fault.new.self c.reload-answer.new.tables c.reload-answer.result c.mark_reload_fault.result c.reload-answer.ensures c.mark_reload_fault.ensures.same c.mark_reload_fault.ensures.marks_failed).0

pub returns-clause-marked : goal.returns-clause-marked
returns-clause-marked g c =
    (reloads-settled g.S.Storage c.args.self.now c.mark_reload_fault.new.self c.reload-answer.new.tables c.reload-answer.result c.mark_reload_fault.result c.reload-answer.ensures c.mark_reload_fault.ensures.same c.mark_reload_fault.ensures.marks_failed).4

pub returns-clause-free : goal.returns-clause-free
returns-clause-free g c =
    let all = reloads-settled g.S.Storage c.args.self.now c.mark_reload_fault.new.self c.reload-answer.new.tables c.reload-answer.result c.mark_reload_fault.result c.reload-answer.ensures c.mark_reload_fault.ensures.same c.mark_reload_fault.ensures.marks_failed in
    ap (λ u. mapping_id_held (holding_in g.S.Storage u)) all.3 ∙ c.requires.free

pub returns-clause-mutating_call : goal.returns-clause-mutating_call
returns-clause-mutating_call g c =
    let all = reloads-settled g.S.Storage c.args.self.now c.mark_reload_fault.new.self c.reload-answer.new.tables c.reload-answer.result c.mark_reload_fault.result c.reload-answer.ensures c.mark_reload_fault.ensures.same c.mark_reload_fault.ensures.marks_failed in
    anew-went g.row.S g.S.Storage g.S.Storage-dict g.S.Destruct-dict c.args.self.now c.mark_reload_fault.new.self c.mark_reload_fault.result all.0 all.1 all.2 all.3 c.requires.free all.4
