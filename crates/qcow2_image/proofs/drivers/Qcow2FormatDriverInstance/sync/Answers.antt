use Rattle.std.proofs.Common.{ap, sym, subst, ◌∙◌, refl}
use Rattle.imago_access.specs.Files.{HadNoResourceError}
use Rattle.qcow2_image.specs.declared.qcow2.Qcow2.{Qcow2}
use Rattle.qcow2_image.specs.Steps.{KeepsImage, failed_after, failed_by}
use Rattle.qcow2_image.proofs.Leaks.{leaks-asked}
use Rattle.qcow2_image.proofs.RequestsWithoutChanges.{counted-faultless, settled-keeps}
use Rattle.qcow2_image.proofs.Steps.{marks-kept, sees-same}
use Rattle.qcow2_image.proofs.Preparations.RunPreparations.{went-kept}
use Rattle.qcow2_image.proofs.drivers.Qcow2FormatDriverInstance.sync.Goals as goal

pub returns-clause-mutating_call : goal.returns-clause-mutating_call
returns-clause-mutating_call g c =
    let q = c.args.self.now in
    let d = c.mark_fault.new.self in
    let is = c.mark_fault.ensures.marks_failed in
    let same = c.mark_fault.ensures.same in
    let s = g.S.Storage.state q.tables.file.image in
    let t = g.S.Storage.state c.sync-answer.new.self in
    let keeps : KeepsImage {T = Unit} g.S.Storage q c.mark_fault.result d =
    settled-keeps g.S.Storage q d c.sync-answer.result c.mark_fault.result is same (refl, refl, refl, refl) c.sync-answer.ensures.unchanged_but_faults c.sync-answer.ensures.counts_not_fallen
    (counted-faultless s t c.sync-answer.result c.sync-answer.ensures.unchanged_but_faults c.sync-answer.ensures.faults) in
    went-kept g.row.S g.S.Storage g.S.Storage-dict g.S.Destruct-dict q d {T = Unit} c.mark_fault.result keeps _ _ (λ whole. whole) (λ whole. whole)

pub returns-clause-marks_failed : goal.returns-clause-marks_failed
returns-clause-marks_failed g c =
    let q = c.args.self.now in
    let d = c.mark_fault.new.self in
    let is = c.mark_fault.ensures.marks_failed in
    let same = c.mark_fault.ensures.same in
    let s = g.S.Storage.state q.tables.file.image in
    let t = g.S.Storage.state c.sync-answer.new.self in
    let keeps : KeepsImage {T = Unit} g.S.Storage q c.mark_fault.result d =
    settled-keeps g.S.Storage q d c.sync-answer.result c.mark_fault.result is same (refl, refl, refl, refl) c.sync-answer.ensures.unchanged_but_faults c.sync-answer.ensures.counts_not_fallen
    (counted-faultless s t c.sync-answer.result c.sync-answer.ensures.unchanged_but_faults c.sync-answer.ensures.faults) in
    marks-kept g.row.S g.S.Storage g.S.Storage-dict g.S.Destruct-dict {T = Unit} q d c.mark_fault.result keeps

pub returns-clause-coherent : goal.returns-clause-coherent
returns-clause-coherent g c =
    let q = c.args.self.now in
    let d = c.mark_fault.new.self in
    let is = c.mark_fault.ensures.marks_failed in
    let same = c.mark_fault.ensures.same in
    let s = g.S.Storage.state q.tables.file.image in
    let t = g.S.Storage.state c.sync-answer.new.self in
    let keeps : KeepsImage {T = Unit} g.S.Storage q c.mark_fault.result d =
    settled-keeps g.S.Storage q d c.sync-answer.result c.mark_fault.result is same (refl, refl, refl, refl) c.sync-answer.ensures.unchanged_but_faults c.sync-answer.ensures.counts_not_fallen
    (counted-faultless s t c.sync-answer.result c.sync-answer.ensures.unchanged_but_faults c.sync-answer.ensures.faults) in
    λ seen. sees-same g.row.S g.S.Storage g.S.Storage-dict g.S.Destruct-dict {T = Unit} q d c.mark_fault.result keeps seen

pub returns-clause-leaks : goal.returns-clause-leaks
returns-clause-leaks g c =
    let is = c.mark_fault.ensures.marks_failed in
    leaks-asked g.S.Storage c.args.self.now c.mark_fault.new.self (g.S.Storage.state c.sync-answer.new.self) c.sync-answer.ensures.unchanged_but_faults
    (ap (λ (x : Qcow2 g.row.S.Denot g.S.Storage). g.S.Storage.state x.tables.file.image) is) (ap (λ (x : Qcow2 g.row.S.Denot g.S.Storage). x.tables.file.header) is)
    (ap (λ (x : Qcow2 g.row.S.Denot g.S.Storage). x.tables.space) is) (ap (λ (x : Qcow2 g.row.S.Denot g.S.Storage). x.unspent) is)
