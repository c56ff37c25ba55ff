use Rattle.std.proofs.Common.{◌≡◌, ℕ, ◌+◌, ◌-◌, ◌*◌, ◌%◌, ◌^◌, ap, sym, subst, ◌∙◌, length, Result}
use Rattle.std.specs.Prelude.{slice_index}
use Rattle.imago_storage.specs.declared.fault.Fault.{Fault}
use Rattle.qcow2_image.specs.Allocating.{IsShownAddressable}
use Rattle.qcow2_image.specs.Filling.{CopiesShown}
use Rattle.qcow2_image.specs.Holding.{place_in}
use Rattle.qcow2_image.specs.Steps.{KeepsImage}
use Rattle.qcow2_image.specs.declared.allocating.Shown.TheVariants as variant
use Rattle.qcow2_image.specs.declared.qcow2.Qcow2.{Qcow2}
use Rattle.qcow2_image.proofs.Preparations.ContentCopies.{barred-copied, data-copied, zeroes-copied}
use Rattle.qcow2_image.proofs.RequestsWithoutChanges.{asked-keeps, read-faultless}
use Rattle.qcow2_image.proofs.qcow2.Qcow2.read_shown.Goals as goal

pub returns-in-Zeroes : goal.returns-in-Zeroes
returns-in-Zeroes g c = rw c.in-Zeroes.is (zeroes-copied g.S.Storage g.B.LayersBelowModel c.args.first c.args.buf.now c.args.self.now c.args.below.now c.requires.zero)

pub returns-in-Barred : goal.returns-in-Barred
returns-in-Barred g c = rw c.in-Barred.is
    (barred-copied g.S.Storage g.B.LayersBelowModel c.args.first (length c.args.buf.now) c.args.self.now c.args.below.now _ c.requires.nonempty)

pub returns-in-Data : goal.returns-in-Data
returns-in-Data g c =
    let st = g.S.Storage in
    let q = c.args.self.now in
    let d = c.mark_fault-in-Data.new.self in
    let n = length c.args.buf.now in
    let h = q.tables.file.header.fields in
    let s = st.state q.tables.file.image in
    let t = st.state c.read-answer-in-Data.new.self in
    let is = c.mark_fault-in-Data.ensures.marks_failed in
    let same = c.mark_fault-in-Data.ensures.same in
    let bits = c.cluster_bits-cluster_bits.ensures.value in
    let view : c.place.inside.0 ≡ c.relative_offset.result = cc c.place.view_is in
    let place : c.place.inside.0 ≡ place_in h c.in-Data.cluster c.args.first = view ∙ c.relative_offset.ensures
    ∙ ap (λ (b : ℕ). c.in-Data.cluster * 2 ^ b + c.args.first % 2 ^ b) bits in
    let reach : IsShownAddressable h.cluster_bits (variant.Data c.in-Data.cluster) = subst (IsShownAddressable h.cluster_bits) c.in-Data.is c.requires.reach in
    let keeps : KeepsImage {T = Unit} st q c.read-answer-in-Data.result d =
    asked-keeps st q d t c.read-answer-in-Data.result c.read-answer-in-Data.ensures.unchanged_but_faults c.read-answer-in-Data.ensures.counts_not_fallen
    (read-faultless s t c.place.inside.0 n c.read-answer-in-Data.result c.read-answer-in-Data.ensures.unchanged_but_faults c.read-answer-in-Data.ensures.faults c.read-answer-in-Data.ensures.err)
    (ap (λ (x : Qcow2 g.row.S.Denot st). st.state x.tables.file.image) is) (ap (λ (x : Qcow2 g.row.S.Denot st). x.tables.file.header) is)
    (ap (λ (x : Qcow2 g.row.S.Denot st). x.tables.l1) is) (ap (λ (x : Qcow2 g.row.S.Denot st). x.tables.caches) is)
    (ap (λ (x : Qcow2 g.row.S.Denot st). x.tables.space) is) (ap (λ (x : Qcow2 g.row.S.Denot st). x.mode) is)
    (ap (λ (x : Qcow2 g.row.S.Denot st). x.number) is) (ap (λ (x : Qcow2 g.row.S.Denot st). x.unspent) is)
    (ap (λ (x : Qcow2 g.row.S.Denot st). x.failed) is) in
    rw c.in-Data.is (subst (λ (r : Result Unit Fault). CopiesShown st g.B.LayersBelowModel (variant.Data c.in-Data.cluster) (c.args.first, c.args.first + n)
    (q, c.args.below.now) r (d, c.args.below.now) (λ p. slice_index c.read-answer-in-Data.new.buf (p - c.args.first))) (sym same)
    (data-copied st g.B.LayersBelowModel c.in-Data.cluster c.args.first c.place.inside.0 q d c.args.below.now n c.read-answer-in-Data.new.buf
    c.read-answer-in-Data.auto.buf t c.read-answer-in-Data.result place c.requires.row
    c.cluster_bits-cluster_bits.ensures.shaped.high reach c.read-answer-in-Data.ensures.unit keeps c.read-answer-in-Data.ensures.ok (ap (λ (x : Qcow2 g.row.S.Denot st). st.state x.tables.file.image) is) c.read-answer-in-Data.ensures.err))
