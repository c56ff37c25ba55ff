use Rattle.std.proofs.Common.{ap, sym, subst, ◌∙◌, refl}
use Rattle.imago_access.specs.Files.{HadNoResourceError}
use Rattle.qcow2_image.specs.Allocating.{waits_in}
use Rattle.qcow2_image.specs.Holding.{mapping_id_held}
use Rattle.qcow2_image.specs.declared.qcow2.Qcow2.{Qcow2}
use Rattle.qcow2_image.specs.Steps.{KeepsImage, failed_after, failed_by}
use Rattle.qcow2_image.specs.Unspent.{holding_in}
use Rattle.qcow2_image.proofs.ClusterSteps.{idle-waits}
use Rattle.qcow2_image.proofs.ImageFlushes.{freed-cause, freed-counted, freed-failed, freed-like, freed-marks, freed-sees, freed-went, freed-written}
use Rattle.qcow2_image.proofs.Anew.{on-ok}
use Rattle.qcow2_image.proofs.LeaksWithNothingPending.{counted-idle}
use Rattle.qcow2_image.proofs.Leaks.{leaks-asked}
use Rattle.qcow2_image.proofs.Lengths.{asked-long}
use Rattle.qcow2_image.proofs.RequestsWithoutChanges.{counted-faultless, settled-keeps, meant, ok-whole}
use Rattle.qcow2_image.proofs.Steps.{looked-kept, marks-kept}
use Rattle.qcow2_image.proofs.Preparations.RunPreparations.{went-kept}
use Rattle.qcow2_image.proofs.drivers.Qcow2FormatDriverInstance.flush.Goals as goal

pub returns-clause-coherent : goal.returns-clause-coherent
returns-clause-coherent g c =
    let q = c.args.self.now in
    let d = c.mark_fault.new.self in
    let is = c.mark_fault.ensures.marks_failed in
    let same = c.mark_fault.ensures.same in
    let s = g.S.Storage.state q.tables.file.image in
    let t = g.S.Storage.state c.flush-answer.new.self in
    let keeps : KeepsImage {T = Unit} g.S.Storage q c.mark_fault.result d =
    settled-keeps g.S.Storage q d c.flush-answer.result c.mark_fault.result is same (refl, refl, refl, refl) c.flush-answer.ensures.unchanged_but_faults c.flush-answer.ensures.counts_not_fallen
    (counted-faultless s t c.flush-answer.result c.flush-answer.ensures.unchanged_but_faults c.flush-answer.ensures.faults) in
    λ seen. ok-whole c.mark_fault.result _ (λ whole. (looked-kept g.row.S g.S.Storage g.S.Storage-dict g.S.Destruct-dict {T = Unit} q d c.mark_fault.result keeps).stays whole seen)

pub returns-clause-crash_images : goal.returns-clause-crash_images
returns-clause-crash_images g c =
    let q = c.args.self.now in
    let d = c.mark_fault.new.self in
    let is = c.mark_fault.ensures.marks_failed in
    let same = c.mark_fault.ensures.same in
    let s = g.S.Storage.state q.tables.file.image in
    let t = g.S.Storage.state c.flush-answer.new.self in
    let keeps : KeepsImage {T = Unit} g.S.Storage q c.mark_fault.result d =
    settled-keeps g.S.Storage q d c.flush-answer.result c.mark_fault.result is same (refl, refl, refl, refl) c.flush-answer.ensures.unchanged_but_faults c.flush-answer.ensures.counts_not_fallen
    (counted-faultless s t c.flush-answer.result c.flush-answer.ensures.unchanged_but_faults c.flush-answer.ensures.faults) in
    λ well_formed below. (looked-kept g.row.S g.S.Storage g.S.Storage-dict g.S.Destruct-dict {T = Unit} q d c.mark_fault.result keeps).crash_images well_formed below

pub returns-clause-written : goal.returns-clause-written
returns-clause-written g c =
    let q = c.args.self.now in
    let d = c.mark_fault.new.self in
    let is = c.mark_fault.ensures.marks_failed in
    let same = c.mark_fault.ensures.same in
    let s = g.S.Storage.state q.tables.file.image in
    let t = g.S.Storage.state c.flush-answer.new.self in
    let keeps : KeepsImage {T = Unit} g.S.Storage q c.mark_fault.result d =
    settled-keeps g.S.Storage q d c.flush-answer.result c.mark_fault.result is same (refl, refl, refl, refl) c.flush-answer.ensures.unchanged_but_faults c.flush-answer.ensures.counts_not_fallen
    (counted-faultless s t c.flush-answer.result c.flush-answer.ensures.unchanged_but_faults c.flush-answer.ensures.faults) in
    λ well_formed free. ok-whole c.mark_fault.result _ (λ whole. meant g.S.Storage d.tables d.mode d.failed d.number (holding_in g.S.Storage d.unspent) (keeps.tables.seen well_formed.seen))

pub returns-clause-counted : goal.returns-clause-counted
returns-clause-counted g c =
    let q = c.args.self.now in
    let d = c.mark_fault.new.self in
    let is = c.mark_fault.ensures.marks_failed in
    let same = c.mark_fault.ensures.same in
    let s = g.S.Storage.state q.tables.file.image in
    let t = g.S.Storage.state c.flush-answer.new.self in
    let keeps : KeepsImage {T = Unit} g.S.Storage q c.mark_fault.result d =
    settled-keeps g.S.Storage q d c.flush-answer.result c.mark_fault.result is same (refl, refl, refl, refl) c.flush-answer.ensures.unchanged_but_faults c.flush-answer.ensures.counts_not_fallen
    (counted-faultless s t c.flush-answer.result c.flush-answer.ensures.unchanged_but_faults c.flush-answer.ensures.faults) in
    λ well_formed free. ok-whole c.mark_fault.result _ (λ whole. counted-idle g.S.Storage d (keeps.tables.seen well_formed.seen).loads
    (ap (λ (x : Qcow2 g.row.S.Denot g.S.Storage). waits_in x.tables.space) is ∙ (sym c.has_pending_frees.ensures ∙ c.if-has_pending_frees.false))
    (ap (λ (x : Qcow2 g.row.S.Denot g.S.Storage). mapping_id_held (holding_in g.S.Storage x.unspent)) is ∙ free))

pub returns-clause-mutating_call : goal.returns-clause-mutating_call
returns-clause-mutating_call g c =
    let q = c.args.self.now in
    let d = c.mark_fault.new.self in
    let is = c.mark_fault.ensures.marks_failed in
    let same = c.mark_fault.ensures.same in
    let s = g.S.Storage.state q.tables.file.image in
    let t = g.S.Storage.state c.flush-answer.new.self in
    let keeps : KeepsImage {T = Unit} g.S.Storage q c.mark_fault.result d =
    settled-keeps g.S.Storage q d c.flush-answer.result c.mark_fault.result is same (refl, refl, refl, refl) c.flush-answer.ensures.unchanged_but_faults c.flush-answer.ensures.counts_not_fallen
    (counted-faultless s t c.flush-answer.result c.flush-answer.ensures.unchanged_but_faults c.flush-answer.ensures.faults) in
    went-kept g.row.S g.S.Storage g.S.Storage-dict g.S.Destruct-dict q d {T = Unit} c.mark_fault.result keeps _ _ (λ whole. whole) (λ whole. whole)

pub returns-clause-marks_failed : goal.returns-clause-marks_failed
returns-clause-marks_failed g c =
    let q = c.args.self.now in
    let d = c.mark_fault.new.self in
    let is = c.mark_fault.ensures.marks_failed in
    let same = c.mark_fault.ensures.same in
    let s = g.S.Storage.state q.tables.file.image in
    let t = g.S.Storage.state c.flush-answer.new.self in
    let keeps : KeepsImage {T = Unit} g.S.Storage q c.mark_fault.result d =
    settled-keeps g.S.Storage q d c.flush-answer.result c.mark_fault.result is same (refl, refl, refl, refl) c.flush-answer.ensures.unchanged_but_faults c.flush-answer.ensures.counts_not_fallen
    (counted-faultless s t c.flush-answer.result c.flush-answer.ensures.unchanged_but_faults c.flush-answer.ensures.faults) in
    marks-kept g.row.S g.S.Storage g.S.Storage-dict g.S.Destruct-dict {T = Unit} q d c.mark_fault.result keeps

pub returns-clause-freed : goal.returns-clause-freed
returns-clause-freed g c =
    on-ok c.mark_fault.result _
    (ap (λ (x : Qcow2 g.row.S.Denot g.S.Storage). waits_in x.tables.space) c.mark_fault.ensures.marks_failed ∙ (sym c.has_pending_frees.ensures ∙ c.if-has_pending_frees.false))

pub returns-then-has_pending_frees-clause-coherent : goal.returns-then-has_pending_frees-clause-coherent
returns-then-has_pending_frees-clause-coherent g c =
    freed-sees g.row.S g.S.Storage g.S.Storage-dict g.S.Destruct-dict c.args.self.now c.flush_freed.new.self c.flush_freed.result c.flush_freed.ensures c.if-self.false (sym c.has_pending_frees.ensures ∙ c.if-has_pending_frees.true)

pub returns-then-has_pending_frees-clause-written : goal.returns-then-has_pending_frees-clause-written
returns-then-has_pending_frees-clause-written g c =
    λ well_formed free. freed-written g.row.S g.S.Storage g.S.Storage-dict g.S.Destruct-dict c.args.self.now c.flush_freed.new.self c.flush_freed.result c.flush_freed.ensures c.if-self.false (sym c.has_pending_frees.ensures ∙ c.if-has_pending_frees.true) well_formed

pub returns-then-has_pending_frees-clause-counted : goal.returns-then-has_pending_frees-clause-counted
returns-then-has_pending_frees-clause-counted g c =
    λ well_formed free. freed-counted g.row.S g.S.Storage g.S.Storage-dict g.S.Destruct-dict c.args.self.now c.flush_freed.new.self c.flush_freed.result c.flush_freed.ensures c.if-self.false (sym c.has_pending_frees.ensures ∙ c.if-has_pending_frees.true) well_formed free

pub returns-then-has_pending_frees-clause-keeps_layer_state : goal.returns-then-has_pending_frees-clause-keeps_layer_state
returns-then-has_pending_frees-clause-keeps_layer_state g c =
    freed-like g.row.S g.S.Storage g.S.Storage-dict g.S.Destruct-dict c.args.self.now c.flush_freed.new.self c.flush_freed.result c.flush_freed.ensures c.if-self.false (sym c.has_pending_frees.ensures ∙ c.if-has_pending_frees.true)

pub returns-then-has_pending_frees-clause-mutating_call : goal.returns-then-has_pending_frees-clause-mutating_call
returns-then-has_pending_frees-clause-mutating_call g c =
    freed-went g.row.S g.S.Storage g.S.Storage-dict g.S.Destruct-dict c.args.self.now c.flush_freed.new.self c.flush_freed.result c.flush_freed.ensures c.if-self.false (sym c.has_pending_frees.ensures ∙ c.if-has_pending_frees.true)

pub returns-then-has_pending_frees-clause-failed : goal.returns-then-has_pending_frees-clause-failed
returns-then-has_pending_frees-clause-failed g c =
    freed-failed g.row.S g.S.Storage g.S.Storage-dict g.S.Destruct-dict c.args.self.now c.flush_freed.new.self c.flush_freed.result c.flush_freed.ensures c.if-self.false (sym c.has_pending_frees.ensures ∙ c.if-has_pending_frees.true)

pub returns-then-has_pending_frees-clause-marks_failed : goal.returns-then-has_pending_frees-clause-marks_failed
returns-then-has_pending_frees-clause-marks_failed g c =
    freed-marks g.row.S g.S.Storage g.S.Storage-dict g.S.Destruct-dict c.args.self.now c.flush_freed.new.self c.flush_freed.result c.flush_freed.ensures c.if-self.false (sym c.has_pending_frees.ensures ∙ c.if-has_pending_frees.true)

pub returns-then-has_pending_frees-clause-cause : goal.returns-then-has_pending_frees-clause-cause
returns-then-has_pending_frees-clause-cause g c =
    freed-cause g.row.S g.S.Storage g.S.Storage-dict g.S.Destruct-dict c.args.self.now c.flush_freed.new.self c.flush_freed.result c.flush_freed.ensures c.if-self.false (sym c.has_pending_frees.ensures ∙ c.if-has_pending_frees.true)

pub returns-then-has_pending_frees-clause-marked : goal.returns-then-has_pending_frees-clause-marked
returns-then-has_pending_frees-clause-marked g c =
    λ untouched. absurd (cc (sym (idle-waits c.args.self.now.tables.space untouched.1) ∙ (sym c.has_pending_frees.ensures ∙ c.if-has_pending_frees.true)))

pub returns-then-has_pending_frees-clause-freed : goal.returns-then-has_pending_frees-clause-freed
returns-then-has_pending_frees-clause-freed g c = c.flush_freed.ensures.emptied

pub returns-clause-leaks : goal.returns-clause-leaks
returns-clause-leaks g c = λ well_formed whole.
    let is = c.mark_fault.ensures.marks_failed in
    leaks-asked g.S.Storage c.args.self.now c.mark_fault.new.self (g.S.Storage.state c.flush-answer.new.self) c.flush-answer.ensures.unchanged_but_faults
    (ap (λ (x : Qcow2 g.row.S.Denot g.S.Storage). g.S.Storage.state x.tables.file.image) is) (ap (λ (x : Qcow2 g.row.S.Denot g.S.Storage). x.tables.file.header) is)
    (ap (λ (x : Qcow2 g.row.S.Denot g.S.Storage). x.tables.space) is) (ap (λ (x : Qcow2 g.row.S.Denot g.S.Storage). x.unspent) is)

pub returns-then-has_pending_frees-clause-leaks : goal.returns-then-has_pending_frees-clause-leaks
returns-then-has_pending_frees-clause-leaks g c = λ well_formed whole. c.flush_freed.ensures.leaks well_formed whole

pub returns-clause-no_shorter : goal.returns-clause-no_shorter
returns-clause-no_shorter g c =
    let is = c.mark_fault.ensures.marks_failed in
    asked-long g.S.Storage c.args.self.now c.mark_fault.new.self (g.S.Storage.state c.flush-answer.new.self) c.flush-answer.ensures.unchanged_but_faults
    (ap (λ (x : Qcow2 g.row.S.Denot g.S.Storage). g.S.Storage.state x.tables.file.image) is)

pub returns-then-has_pending_frees-clause-no_shorter : goal.returns-then-has_pending_frees-clause-no_shorter
returns-then-has_pending_frees-clause-no_shorter g c = c.flush_freed.ensures.no_shorter
