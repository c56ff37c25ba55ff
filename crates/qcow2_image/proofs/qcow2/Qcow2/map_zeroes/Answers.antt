use Rattle.std.proofs.Common.{◌≡◌, refl, sym, ap, subst, ◌∙◌, true, ℕ, Result, Ok, Err}
use Rattle.imago_storage.specs.declared.fault.Fault.{Fault}
use Rattle.qcow2_alloc.proofs.Faults.{handed-on}
use Rattle.qcow2_image.specs.Allocating.{failed_by_resource_error}
use Rattle.qcow2_image.specs.FreeSpace.{LacksFreeRun, enough_for_run}
use Rattle.qcow2_image.specs.Growing.{HasTableReady, ZeroesPart}
use Rattle.qcow2_image.specs.declared.allocating.Placed.{Placed}
use Rattle.qcow2_image.specs.declared.qcow2.Qcow2.{Qcow2}
use Rattle.qcow2_image.proofs.CallStarts.{begins-err, cut-same}
use Rattle.qcow2_image.proofs.Resizes.SetEntries.{runs-begun}
use Rattle.qcow2_image.proofs.Resizes.StoredEntries.{begins-linked, mapped-part, unlinked-part, unstored-part}
use Rattle.qcow2_image.proofs.qcow2.Qcow2.map_zeroes.Goals as goal

pub returns-clause-zeroes : goal.returns-clause-zeroes
returns-clause-zeroes g c =
    let old = c.args.self.now in
    let mid = c.store_most_zeroes.new.self in
    let r = c.in_ok-placed.placed in
    subst (λ (d : Qcow2 g.row.S.Denot g.S.Storage). ZeroesPart g.S.Storage (HasTableReady g.S.Storage c.args.guest c.args.table old)
    (LacksFreeRun g.S.Storage 1 (enough_for_run old.tables c.args.count) old.tables d.tables) c.args.guest c.args.count old (Ok r.count) d)
    (sym c.mark_change_fault.ensures.marks_failed)
    (mapped-part g.S.Storage c.args.table c.args.guest c.args.count r old mid _ c.link_host-linked.result true c.in_ok-placed.ensures.stores
    (runs-begun {T = Placed} g.S.Storage c.args.begun.now c.store_most_zeroes.new.begun old mid (Ok r) c.in_ok-placed.ensures.begins tt)
    c.link_host-linked.ensures refl c.requires.row c.requires.free _
    (sym c.mark_change_fault.ensures.same ∙ c.in_ok-mark_change_fault.was))

pub returns-clause-begins : goal.returns-clause-begins
returns-clause-begins g c =
    let old = c.args.self.now in
    let mid = c.store_most_zeroes.new.self in
    let r = c.in_ok-placed.placed in
    let done : c.link_host-linked.result ≡ Ok tt = sym c.mark_change_fault.ensures.same ∙ c.in_ok-mark_change_fault.was in
    begins-linked {T = ℕ} g.S.Storage c.args.begun.now old mid c.mark_change_fault.new.self c.link_host-linked.result (Ok r.count)
    (λ f. ap (λ (x : Result Unit Fault). failed_by_resource_error x true f) done)
    (runs-begun {T = Placed} g.S.Storage c.args.begun.now c.store_most_zeroes.new.begun old mid (Ok r) c.in_ok-placed.ensures.begins tt)
    (ap (λ (d : Qcow2 g.row.S.Denot g.S.Storage). d.failed) c.mark_change_fault.ensures.marks_failed)

pub returns-in_err-placed-clause-zeroes : goal.returns-in_err-placed-clause-zeroes
returns-in_err-placed-clause-zeroes g c = rw (handed-on _ _ c.from_residual.ensures.1)
    (unstored-part g.S.Storage c.args.table c.args.guest c.args.count c.args.self.now c.store_most_zeroes.new.self
    c.in_err-placed.field-0.0 c.in_err-placed.ensures.stores
    (runs-begun {T = Placed} g.S.Storage c.args.begun.now c.store_most_zeroes.new.begun c.args.self.now c.store_most_zeroes.new.self
    (Err c.in_err-placed.field-0.0) c.in_err-placed.ensures.begins))

pub returns-in_err-placed-clause-begins : goal.returns-in_err-placed-clause-begins
returns-in_err-placed-clause-begins g c = rw (handed-on _ _ c.from_residual.ensures.1)
    (begins-err g.S.Storage {T = Placed} c.args.begun.now c.store_most_zeroes.new.begun c.args.self.now c.store_most_zeroes.new.self
    c.in_err-placed.field-0.0 c.in_err-placed.ensures.begins)

pub returns-in_err-mark_change_fault-clause-zeroes : goal.returns-in_err-mark_change_fault-clause-zeroes
returns-in_err-mark_change_fault-clause-zeroes g c = rw (handed-on _ _ c.from_residual-in_err-mark_change_fault.ensures.1) (
    let old = c.args.self.now in
    let mid = c.store_most_zeroes.new.self in
    let r = c.in_ok-placed.placed in
    let e = c.in_err-mark_change_fault.field-0.0 in
    subst (λ (d : Qcow2 g.row.S.Denot g.S.Storage). ZeroesPart g.S.Storage (HasTableReady g.S.Storage c.args.guest c.args.table old)
    (LacksFreeRun g.S.Storage 1 (enough_for_run old.tables c.args.count) old.tables d.tables) c.args.guest c.args.count old (Err e) d)
    (sym c.mark_change_fault.ensures.marks_failed)
    (unlinked-part g.S.Storage c.args.table c.args.guest c.args.count r old mid _ c.link_host-linked.result true
    c.in_ok-placed.ensures.stores
    (runs-begun {T = Placed} g.S.Storage c.args.begun.now c.store_most_zeroes.new.begun old mid (Ok r) c.in_ok-placed.ensures.begins tt)
    c.link_host-linked.ensures refl c.requires.row c.requires.free _ c.requires.past e
    (sym c.mark_change_fault.ensures.same ∙ c.in_err-mark_change_fault.was)))

pub returns-in_err-mark_change_fault-clause-begins : goal.returns-in_err-mark_change_fault-clause-begins
returns-in_err-mark_change_fault-clause-begins g c = rw (handed-on _ _ c.from_residual-in_err-mark_change_fault.ensures.1) (
    let old = c.args.self.now in
    let mid = c.store_most_zeroes.new.self in
    let r = c.in_ok-placed.placed in
    let e = c.in_err-mark_change_fault.field-0.0 in
    let failed : c.link_host-linked.result ≡ Err e = sym c.mark_change_fault.ensures.same ∙ c.in_err-mark_change_fault.was in
    begins-linked {T = ℕ} g.S.Storage c.args.begun.now old mid c.mark_change_fault.new.self c.link_host-linked.result (Err e)
    (λ f. ap (λ (x : Result Unit Fault). failed_by_resource_error x true f) failed ∙ cut-same Unit ℕ e f)
    (runs-begun {T = Placed} g.S.Storage c.args.begun.now c.store_most_zeroes.new.begun old mid (Ok r) c.in_ok-placed.ensures.begins tt)
    (ap (λ (d : Qcow2 g.row.S.Denot g.S.Storage). d.failed) c.mark_change_fault.ensures.marks_failed))
