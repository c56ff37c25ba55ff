use Rattle.std.proofs.Common.{refl, sym, ap, subst, ◌∙◌, true, ℕ, Result, Ok, Err}
use Rattle.imago_storage.specs.declared.fault.Fault.{Fault}
use Rattle.qcow2_alloc.proofs.Faults.{handed-on}
use Rattle.qcow2_image.specs.Allocating.{failed_by_resource_error}
use Rattle.qcow2_image.specs.Growing.{ReplacesCluster}
use Rattle.qcow2_image.specs.declared.qcow2.Qcow2.{Qcow2}
use Rattle.qcow2_image.proofs.CallStarts.{begins-err, begins-then}
use Rattle.qcow2_image.proofs.Resizes.ReplacedClusters.{replaced-done, replaced-tableless, replaced-unstored}
use Rattle.qcow2_image.proofs.Resizes.SetEntries.{runs-begun}
use Rattle.qcow2_image.proofs.Resizes.StoredEntries.{begins-linked}
use Rattle.qcow2_image.proofs.qcow2.Qcow2.replace_cluster.Goals as goal

pub returns-clause-replaces : goal.returns-clause-replaces
returns-clause-replaces g c =
    let old = c.args.self.now in
    let first = c.ensure_table.new.self in
    let mid = c.store_content.new.self in
    let linked = c.link_host-linked.result in
    subst (λ (r : Result Unit Fault). ReplacesCluster g.S.Storage c.args.guest c.args.content.now old r c.mark_change_fault.new.self)
    (sym c.mark_change_fault.ensures.same)
    (subst (λ (d : Qcow2 g.row.S.Denot g.S.Storage). ReplacesCluster g.S.Storage c.args.guest c.args.content.now old linked d)
    (sym c.mark_change_fault.ensures.marks_failed)
    (replaced-done g.S.Storage c.args.guest c.args.content.now old c.in_ok-table.table first c.in_ok-table.ensures.table
    (runs-begun {T = ℕ} g.S.Storage c.args.begun.now c.ensure_table.new.begun old first (Ok c.in_ok-table.table)
    c.in_ok-table.ensures.begins tt)
    c.in_ok-host.host mid _ linked true c.in_ok-host.ensures.stores
    (runs-begun {T = ℕ} g.S.Storage c.ensure_table.new.begun c.store_content.new.begun first mid (Ok c.in_ok-host.host)
    c.in_ok-host.ensures.begins tt)
    c.link_host-linked.ensures refl c.requires.whole c.requires.free))

pub returns-clause-begins : goal.returns-clause-begins
returns-clause-begins g c =
    let old = c.args.self.now in
    let first = c.ensure_table.new.self in
    let mid = c.store_content.new.self in
    begins-linked {T = Unit} g.S.Storage c.args.begun.now old mid c.mark_change_fault.new.self c.link_host-linked.result
    c.mark_change_fault.result
    (λ f. ap (λ (x : Result Unit Fault). failed_by_resource_error x true f) (sym c.mark_change_fault.ensures.same))
    (runs-begun {T = ℕ} g.S.Storage c.ensure_table.new.begun c.store_content.new.begun first mid (Ok c.in_ok-host.host)
    c.in_ok-host.ensures.begins tt
    ∙ runs-begun {T = ℕ} g.S.Storage c.args.begun.now c.ensure_table.new.begun old first (Ok c.in_ok-table.table)
    c.in_ok-table.ensures.begins tt)
    (ap (λ (d : Qcow2 g.row.S.Denot g.S.Storage). d.failed) c.mark_change_fault.ensures.marks_failed)

pub returns-in_err-table-clause-replaces : goal.returns-in_err-table-clause-replaces
returns-in_err-table-clause-replaces g c = rw (handed-on _ _ c.from_residual.ensures.1)
    (replaced-tableless g.S.Storage c.args.guest c.args.content.now c.args.self.now c.ensure_table.new.self c.in_err-table.field-0.0
    c.in_err-table.ensures.table
    (runs-begun {T = ℕ} g.S.Storage c.args.begun.now c.ensure_table.new.begun c.args.self.now c.ensure_table.new.self
    (Err c.in_err-table.field-0.0) c.in_err-table.ensures.begins))

pub returns-in_err-table-clause-begins : goal.returns-in_err-table-clause-begins
returns-in_err-table-clause-begins g c = rw (handed-on _ _ c.from_residual.ensures.1)
    (begins-err g.S.Storage {T = ℕ} c.args.begun.now c.ensure_table.new.begun c.args.self.now c.ensure_table.new.self
    c.in_err-table.field-0.0 c.in_err-table.ensures.begins)

pub returns-in_err-host-clause-replaces : goal.returns-in_err-host-clause-replaces
returns-in_err-host-clause-replaces g c = rw (handed-on _ _ c.from_residual-in_err-host.ensures.1)
    (replaced-unstored g.S.Storage c.args.guest c.args.content.now c.args.self.now c.in_ok-table.table c.ensure_table.new.self
    c.in_ok-table.ensures.table
    (runs-begun {T = ℕ} g.S.Storage c.args.begun.now c.ensure_table.new.begun c.args.self.now c.ensure_table.new.self
    (Ok c.in_ok-table.table) c.in_ok-table.ensures.begins tt)
    c.store_content.new.self c.in_err-host.field-0.0 c.in_err-host.ensures.stores
    (runs-begun {T = ℕ} g.S.Storage c.ensure_table.new.begun c.store_content.new.begun c.ensure_table.new.self c.store_content.new.self
    (Err c.in_err-host.field-0.0) c.in_err-host.ensures.begins))

pub returns-in_err-host-clause-begins : goal.returns-in_err-host-clause-begins
returns-in_err-host-clause-begins g c = rw (handed-on _ _ c.from_residual-in_err-host.ensures.1)
    (begins-err g.S.Storage {T = ℕ} c.args.begun.now c.store_content.new.begun c.args.self.now c.store_content.new.self
    c.in_err-host.field-0.0
    (begins-then g.S.Storage {T = ℕ} {U = ℕ} c.args.begun.now c.ensure_table.new.begun c.store_content.new.begun c.args.self.now
    c.ensure_table.new.self c.store_content.new.self (Ok c.in_ok-table.table) (Err c.in_err-host.field-0.0) tt c.in_ok-table.ensures.begins
    c.in_err-host.ensures.begins))
