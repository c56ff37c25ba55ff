use Rattle.std.proofs.Common.{ap, sym, ◌∙◌, length, refl, Result}
use Rattle.std.specs.Prelude.{⊤}
use Rattle.imago_storage.specs.declared.fault.Fault.{Fault}
use Rattle.qcow2_image.specs.declared.qcow2.Qcow2.{Qcow2}
use Rattle.qcow2_image.specs.Steps.{KeepsImage, failed_after, failed_by}
use Rattle.qcow2_image.proofs.Leaks.{leaks-asked}
use Rattle.qcow2_image.proofs.Lengths.{asked-long}
use Rattle.qcow2_image.proofs.RequestsWithoutChanges.{read-faultless, settled-keeps, ok-whole}
use Rattle.qcow2_image.proofs.Steps.{began-kept, looked-kept, marks-kept}
use Rattle.imago_access.proofs.Looking.{looked_same}
use Rattle.qcow2_image.specs.Seen.{layer_of}
use Rattle.qcow2_image.proofs.CallsWithoutChanges.{failed-barrier, failed-runs, runs-barrier, failed-early_outcome, idle-early_outcome, busy-early_outcome, below-empty, told-empty, told-some}
use Rattle.qcow2_image.proofs.drivers.Qcow2FormatDriverInstance.read_mapped.Goals as goal

pub returns-clause-lookup_call : goal.returns-clause-lookup_call
returns-clause-lookup_call g c =
    let q = c.args.self.now in
    let d = c.mark_fault.new.self in
    let is = c.mark_fault.ensures.marks_failed in
    let same = c.mark_fault.ensures.same in
    let s = g.S.Storage.state q.tables.file.image in
    let t = g.S.Storage.state c.read-answer.new.self in
    let keeps : KeepsImage {T = Unit} g.S.Storage q c.mark_fault.result d =
    settled-keeps g.S.Storage q d c.read-answer.result c.mark_fault.result is same (refl, refl, refl, refl) c.read-answer.ensures.unchanged_but_faults c.read-answer.ensures.counts_not_fallen
    (read-faultless s t c.args.place (length c.args.buf.now) c.read-answer.result c.read-answer.ensures.unchanged_but_faults c.read-answer.ensures.faults c.read-answer.ensures.err) in
    looked-kept g.row.S g.S.Storage g.S.Storage-dict g.S.Destruct-dict {T = Unit} q d c.mark_fault.result keeps

pub returns-clause-stays_begun : goal.returns-clause-stays_begun
returns-clause-stays_begun g c =
    let q = c.args.self.now in
    let d = c.mark_fault.new.self in
    let is = c.mark_fault.ensures.marks_failed in
    let same = c.mark_fault.ensures.same in
    let s = g.S.Storage.state q.tables.file.image in
    let t = g.S.Storage.state c.read-answer.new.self in
    let keeps : KeepsImage {T = Unit} g.S.Storage q c.mark_fault.result d =
    settled-keeps g.S.Storage q d c.read-answer.result c.mark_fault.result is same (refl, refl, refl, refl) c.read-answer.ensures.unchanged_but_faults c.read-answer.ensures.counts_not_fallen
    (read-faultless s t c.args.place (length c.args.buf.now) c.read-answer.result c.read-answer.ensures.unchanged_but_faults c.read-answer.ensures.faults c.read-answer.ensures.err) in
    ok-whole c.mark_fault.result _ (began-kept g.row.S g.S.Storage g.S.Storage-dict g.S.Destruct-dict {T = Unit} q d c.mark_fault.result keeps)

pub returns-clause-marks_failed : goal.returns-clause-marks_failed
returns-clause-marks_failed g c =
    let q = c.args.self.now in
    let d = c.mark_fault.new.self in
    let is = c.mark_fault.ensures.marks_failed in
    let same = c.mark_fault.ensures.same in
    let s = g.S.Storage.state q.tables.file.image in
    let t = g.S.Storage.state c.read-answer.new.self in
    let keeps : KeepsImage {T = Unit} g.S.Storage q c.mark_fault.result d =
    settled-keeps g.S.Storage q d c.read-answer.result c.mark_fault.result is same (refl, refl, refl, refl) c.read-answer.ensures.unchanged_but_faults c.read-answer.ensures.counts_not_fallen
    (read-faultless s t c.args.place (length c.args.buf.now) c.read-answer.result c.read-answer.ensures.unchanged_but_faults c.read-answer.ensures.faults c.read-answer.ensures.err) in
    marks-kept g.row.S g.S.Storage g.S.Storage-dict g.S.Destruct-dict {T = Unit} q d c.mark_fault.result keeps

pub returns-clause-leaks : goal.returns-clause-leaks
returns-clause-leaks g c =
    let is = c.mark_fault.ensures.marks_failed in
    leaks-asked g.S.Storage c.args.self.now c.mark_fault.new.self (g.S.Storage.state c.read-answer.new.self) c.read-answer.ensures.unchanged_but_faults
    (ap (λ (x : Qcow2 g.row.S.Denot g.S.Storage). g.S.Storage.state x.tables.file.image) is) (ap (λ (x : Qcow2 g.row.S.Denot g.S.Storage). x.tables.file.header) is)
    (ap (λ (x : Qcow2 g.row.S.Denot g.S.Storage). x.tables.space) is) (ap (λ (x : Qcow2 g.row.S.Denot g.S.Storage). x.unspent) is)

pub returns-clause-no_shorter : goal.returns-clause-no_shorter
returns-clause-no_shorter g c =
    let is = c.mark_fault.ensures.marks_failed in
    asked-long g.S.Storage c.args.self.now c.mark_fault.new.self (g.S.Storage.state c.read-answer.new.self) c.read-answer.ensures.unchanged_but_faults
    (ap (λ (x : Qcow2 g.row.S.Denot g.S.Storage). g.S.Storage.state x.tables.file.image) is)

pub returns-then-self-clause-bytes : goal.returns-then-self-clause-bytes
returns-then-self-clause-bytes g c = tt

pub returns-then-self-clause-early_outcome : goal.returns-then-self-clause-early_outcome
returns-then-self-clause-early_outcome g c =
    failed-early_outcome _ _ _ c.args.self.now (failed-barrier (layer_of g.S.Storage c.args.self.now) c.if-self.true)
    (failed-barrier (layer_of g.S.Storage c.args.self.now) c.if-self.true)

pub returns-then-self-clause-lookup_call : goal.returns-then-self-clause-lookup_call
returns-then-self-clause-lookup_call g c = looked_same _ ⊤ c.args.self.now

pub returns-then-self-clause-stays_begun : goal.returns-then-self-clause-stays_begun
returns-then-self-clause-stays_begun g c = tt

pub returns-then-self-clause-none : goal.returns-then-self-clause-none
returns-then-self-clause-none g c = (refl, refl, refl, refl)

pub returns-then-self-clause-overflow : goal.returns-then-self-clause-overflow
returns-then-self-clause-overflow g c = λ runs _. absurd (failed-runs (layer_of g.S.Storage c.args.self.now) c.if-self.true runs)

pub returns-then-self-clause-marks_failed : goal.returns-then-self-clause-marks_failed
returns-then-self-clause-marks_failed g c = tt

pub returns-then-self-clause-cause : goal.returns-then-self-clause-cause
returns-then-self-clause-cause g c = failed-barrier (layer_of g.S.Storage c.args.self.now) c.if-self.true

pub returns-then-self-clause-leaks : goal.returns-then-self-clause-leaks
returns-then-self-clause-leaks g c = λ _. refl

pub returns-then-self-clause-marked : goal.returns-then-self-clause-marked
returns-then-self-clause-marked g c = refl

pub returns-then-storage-ne0-clause-early_outcome : goal.returns-then-storage-ne0-clause-early_outcome
returns-then-storage-ne0-clause-early_outcome g c =
    idle-early_outcome _ _ _ _ c.args.self.now (runs-barrier (layer_of g.S.Storage c.args.self.now) c.if-self.false refl)

pub returns-then-storage-ne0-clause-lookup_call : goal.returns-then-storage-ne0-clause-lookup_call
returns-then-storage-ne0-clause-lookup_call g c = looked_same _ ⊤ c.args.self.now

pub returns-then-storage-ne0-clause-stays_begun : goal.returns-then-storage-ne0-clause-stays_begun
returns-then-storage-ne0-clause-stays_begun g c = λ e call begun. begun

pub returns-then-storage-ne0-clause-none : goal.returns-then-storage-ne0-clause-none
returns-then-storage-ne0-clause-none g c = (refl, refl, refl, refl)

pub returns-then-storage-ne0-clause-marks_failed : goal.returns-then-storage-ne0-clause-marks_failed
returns-then-storage-ne0-clause-marks_failed g c = tt

pub returns-then-storage-ne0-clause-cause : goal.returns-then-storage-ne0-clause-cause
returns-then-storage-ne0-clause-cause g c = tt

pub returns-then-storage-ne0-clause-leaks : goal.returns-then-storage-ne0-clause-leaks
returns-then-storage-ne0-clause-leaks g c = λ _. refl

pub returns-then-storage-ne0-clause-marked : goal.returns-then-storage-ne0-clause-marked
returns-then-storage-ne0-clause-marked g c = refl

pub returns-then-is_empty-clause-early_outcome : goal.returns-then-is_empty-clause-early_outcome
returns-then-is_empty-clause-early_outcome g c =
    idle-early_outcome _ _ _ _ c.args.self.now (runs-barrier (layer_of g.S.Storage c.args.self.now) c.if-self.false refl)

pub returns-then-is_empty-clause-lookup_call : goal.returns-then-is_empty-clause-lookup_call
returns-then-is_empty-clause-lookup_call g c = looked_same _ ⊤ c.args.self.now

pub returns-then-is_empty-clause-stays_begun : goal.returns-then-is_empty-clause-stays_begun
returns-then-is_empty-clause-stays_begun g c = λ e call begun. begun

pub returns-then-is_empty-clause-none : goal.returns-then-is_empty-clause-none
returns-then-is_empty-clause-none g c = (refl, refl, refl, refl)

pub returns-then-is_empty-clause-marks_failed : goal.returns-then-is_empty-clause-marks_failed
returns-then-is_empty-clause-marks_failed g c = tt

pub returns-then-is_empty-clause-cause : goal.returns-then-is_empty-clause-cause
returns-then-is_empty-clause-cause g c = tt

pub returns-then-is_empty-clause-leaks : goal.returns-then-is_empty-clause-leaks
returns-then-is_empty-clause-leaks g c = λ _. refl

pub returns-then-is_empty-clause-marked : goal.returns-then-is_empty-clause-marked
returns-then-is_empty-clause-marked g c = refl

pub returns-clause-none : goal.returns-clause-none
returns-clause-none g c =
    let k = c.read-answer.ensures.unchanged_but_faults in
    rw (ap (λ (x : Qcow2 g.row.S.Denot g.S.Storage). g.S.Storage.state x.tables.file.image) c.mark_fault.ensures.marks_failed) (k.crash_image, k.past_crash_images, k.bytes, k.refusals)

pub returns-clause-marked : goal.returns-clause-marked
returns-clause-marked g c =
    ap (λ (x : Qcow2 g.row.S.Denot g.S.Storage). x.failed) c.mark_fault.ensures.marks_failed
    ∙ ap (λ (r : Result Unit Fault). failed_after failed_by r c.args.self.now.failed) (sym c.mark_fault.ensures.same)

pub returns-clause-early_outcome : goal.returns-clause-early_outcome
returns-clause-early_outcome g c =
    busy-early_outcome _ _ _ _ c.args.self.now _ (runs-barrier (layer_of g.S.Storage c.args.self.now) c.if-self.false refl) (told-some _ _ c.is_empty.ensures c.if-is_empty.false)

pub returns-then-is_empty-clause-bytes : goal.returns-then-is_empty-clause-bytes
returns-then-is_empty-clause-bytes g c = λ i low. absurd (below-empty low (told-empty _ _ c.is_empty.ensures c.if-is_empty.true))
