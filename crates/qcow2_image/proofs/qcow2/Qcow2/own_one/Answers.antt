use Rattle.std.proofs.Common.{◌∙◌, ap, sym, subst, ℕ, not, Result, Ok}
use Rattle.imago_storage.specs.declared.fault.Fault.{Fault}
use Rattle.qcow2_alloc.proofs.Faults.{handed-on}
use Rattle.qcow2_image.specs.Allocating.{Begins}
use Rattle.qcow2_image.specs.Looking.{place_of_table}
use Rattle.qcow2_image.specs.declared.allocating.Shown.{Shown}
use Rattle.qcow2_image.proofs.CallStarts.{begins-err, begins-ok, begins-then}
use Rattle.qcow2_image.proofs.ClusterSteps.{none-there}
use Rattle.qcow2_image.proofs.Resizes.OwnTables.{begins-after, none-shared, one-owned, owns-one, owns-refused, owns-tableless, owns-unseen, seen-after}
use Rattle.qcow2_image.proofs.qcow2.Qcow2.own_one.Goals as goal

pub returns-in_err-mark_change_fault-clause-owns : goal.returns-in_err-mark_change_fault-clause-owns
returns-in_err-mark_change_fault-clause-owns g c = rw (handed-on _ _ c.from_residual.ensures.1) (
    let shown = c.shown_at-shown in
    let marked = c.in_err-mark_change_fault.ensures in
    owns-unseen g.S.Storage c.args.guest c.args.begun.now c.args.self.now shown.new.self shown.result c.mark_change_fault.new.self marked.marks_failed
    shown.ensures c.in_err-mark_change_fault.field-0.0 (sym marked.same))

pub returns-in_err-mark_change_fault-clause-begins : goal.returns-in_err-mark_change_fault-clause-begins
returns-in_err-mark_change_fault-clause-begins g c = rw (handed-on _ _ c.from_residual.ensures.1) (
    let st = g.S.Storage in
    let shown = c.shown_at-shown in
    let marked = c.in_err-mark_change_fault.ensures in
    let was = c.args.begun.now in
    let new = c.mark_change_fault.new.self in
    let e = c.in_err-mark_change_fault.field-0.0 in
    begins-err st {T = Shown} {U = Unit} was was c.args.self.now new e
    (subst (λ (r : Result Shown Fault). Begins st was c.args.self.now r was new) (sym marked.same)
    (begins-after st c.args.guest was c.args.self.now shown.new.self shown.result new marked.marks_failed shown.ensures)))

pub returns-then-is_none-clause-owns : goal.returns-then-is_none-clause-owns
returns-then-is_none-clause-owns g c =
    let st = g.S.Storage in
    let shown = c.shown_at-shown in
    let marked = c.in_ok-mark_change_fault.ensures in
    let new = c.mark_change_fault.new.self in
    let v = c.in_ok-mark_change_fault.field-0 in
    owns-tableless st c.args.guest c.args.self.now new v
    (seen-after st c.args.guest c.args.begun.now c.args.self.now shown.new.self shown.result new marked.marks_failed shown.ensures v (sym marked.same))

pub returns-then-is_none-clause-begins : goal.returns-then-is_none-clause-begins
returns-then-is_none-clause-begins g c =
    let st = g.S.Storage in
    let shown = c.shown_at-shown in
    let marked = c.in_ok-mark_change_fault.ensures in
    let was = c.args.begun.now in
    let new = c.mark_change_fault.new.self in
    let v = c.in_ok-mark_change_fault.field-0 in
    begins-ok st {T = Shown} {U = Unit} was was c.args.self.now new v tt
    (subst (λ (r : Result Shown Fault). Begins st was c.args.self.now r was new) (sym marked.same)
    (begins-after st c.args.guest was c.args.self.now shown.new.self shown.result new marked.marks_failed shown.ensures))

pub returns-in_err-own_table-clause-owns : goal.returns-in_err-own_table-clause-owns
returns-in_err-own_table-clause-owns g c = rw (handed-on _ _ c.from_residual-in_err-own_table.ensures.1) (
    let st = g.S.Storage in
    let shown = c.shown_at-shown in
    let marked = c.in_ok-mark_change_fault.ensures in
    let mid = c.mark_change_fault.new.self in
    let v = c.in_ok-mark_change_fault.field-0 in
    let told = seen-after st c.args.guest c.args.begun.now c.args.self.now shown.new.self shown.result mid marked.marks_failed shown.ensures v
    (sym marked.same) in
    owns-refused st c.args.guest c.args.self.now mid v told c.in_err-own_table.field-0.0 c.own_table.new.self c.in_err-own_table.ensures.table)

pub returns-clause-owns : goal.returns-clause-owns
returns-clause-owns g c =
    let st = g.S.Storage in
    let shown = c.shown_at-shown in
    let marked = c.in_ok-mark_change_fault.ensures in
    let mid = c.mark_change_fault.new.self in
    let v = c.in_ok-mark_change_fault.field-0 in
    let told = seen-after st c.args.guest c.args.begun.now c.args.self.now shown.new.self shown.result mid marked.marks_failed shown.ensures v
    (sym marked.same) in
    owns-one st c.args.guest c.args.self.now mid v told c.in_ok-own_table.field-0 c.own_table.new.self c.in_ok-own_table.ensures.table

pub returns-clause-begins : goal.returns-clause-begins
returns-clause-begins g c =
    let st = g.S.Storage in
    let shown = c.shown_at-shown in
    let marked = c.in_ok-mark_change_fault.ensures in
    let was = c.args.begun.now in
    let old = c.args.self.now in
    let mid = c.mark_change_fault.new.self in
    let v = c.in_ok-mark_change_fault.field-0 in
    let table = c.in_ok-own_table.field-0 in
    let first = subst (λ (r : Result Shown Fault). Begins st was old r was mid) (sym marked.same)
    (begins-after st c.args.guest was old shown.new.self shown.result mid marked.marks_failed shown.ensures) in
    begins-ok st {T = ℕ} {U = Unit} was c.own_table.new.begun old c.own_table.new.self table tt
    (begins-then st {T = Shown} {U = ℕ} was was c.own_table.new.begun old mid c.own_table.new.self (Ok v) (Ok table) tt first
    c.in_ok-own_table.ensures.begins)

pub returns-in_err-mark_change_fault-clause-own : goal.returns-in_err-mark_change_fault-clause-own
returns-in_err-mark_change_fault-clause-own g c = rw (handed-on _ _ c.from_residual.ensures.1) (λ well_formed some. tt)

pub returns-in_err-own_table-clause-own : goal.returns-in_err-own_table-clause-own
returns-in_err-own_table-clause-own g c = rw (handed-on _ _ c.from_residual-in_err-own_table.ensures.1) (λ well_formed some. tt)

pub returns-then-is_none-clause-own : goal.returns-then-is_none-clause-own
returns-then-is_none-clause-own g c = λ well_formed some.
    let st = g.S.Storage in
    let shown = c.shown_at-shown in
    let marked = c.in_ok-mark_change_fault.ensures in
    let mid = c.mark_change_fault.new.self in
    let v = c.in_ok-mark_change_fault.field-0 in
    let told = seen-after st c.args.guest c.args.begun.now c.args.self.now shown.new.self shown.result mid marked.marks_failed shown.ensures v
    (sym marked.same) in
    let bits = c.cluster_bits-cluster_bits.ensures.value in
    none-shared st c.args.guest c.args.self.now mid v told
    (ap (λ b. place_of_table mid.tables.l1.raw_entries b c.args.guest) (sym bits) ∙ sym c.l2_cluster.ensures
    ∙ none-there _ (c.is_none.ensures ∙ ap not c.if-is_none.true)) well_formed

pub returns-clause-own : goal.returns-clause-own
returns-clause-own g c = λ well_formed some.
    let st = g.S.Storage in
    let shown = c.shown_at-shown in
    let marked = c.in_ok-mark_change_fault.ensures in
    let mid = c.mark_change_fault.new.self in
    let v = c.in_ok-mark_change_fault.field-0 in
    let told = seen-after st c.args.guest c.args.begun.now c.args.self.now shown.new.self shown.result mid marked.marks_failed shown.ensures v
    (sym marked.same) in
    one-owned st c.args.guest c.args.self.now mid v told c.in_ok-own_table.field-0 c.own_table.new.self c.in_ok-own_table.ensures.table
    well_formed some
