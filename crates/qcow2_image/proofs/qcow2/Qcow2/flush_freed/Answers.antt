use Rattle.std.proofs.Common.{true, ◌≡◌, ap, sym, subst, Result}
use Rattle.imago_storage.specs.State.{StorageState}
use Rattle.imago_storage.specs.Calls.{CountsFaults}
use Rattle.imago_storage.specs.declared.fault.Fault.{Fault}
use Rattle.imago_access.specs.Files.{HadNoResourceError}
use Rattle.qcow2_image.specs.Allocating.{FlushesFreed, failed_by_resource_error}
use Rattle.qcow2_image.specs.KeepsDisk.{KeepsDisk}
use Rattle.qcow2_image.specs.declared.qcow2.Qcow2.{Qcow2}
use Rattle.qcow2_image.proofs.ImageFlushes.{flushes-freed, requested}
use Rattle.qcow2_image.proofs.Leaks.{leaks-asked}
use Rattle.qcow2_image.proofs.Lengths.{asked-long}
use Rattle.qcow2_image.proofs.qcow2.Qcow2.flush_freed.Goals as goal

pub returns : goal.returns
returns g c =
    let q = c.args.self.now in
    let m = c.free_pending.new.self in
    let d = c.mark_change_fault.new.self in
    let is = c.mark_change_fault.ensures.marks_failed in
    let same = c.mark_change_fault.ensures.same in
    let t = g.S.Storage.state c.flush-answer.new.self in
    let answer = c.flush-answer.result in
    let failed : d.failed ≡ failed_by_resource_error answer true m.failed = ap (λ (x : Qcow2 g.row.S.Denot g.S.Storage). x.failed) is in
    let state : g.S.Storage.state d.tables.file.image ≡ t = ap (λ (x : Qcow2 g.row.S.Denot g.S.Storage). g.S.Storage.state x.tables.file.image) is in
    let keeps : KeepsDisk g.S.Storage (HadNoResourceError answer) m d =
    requested g.S.Storage m d t c.flush-answer.ensures.unchanged_but_faults c.flush-answer.ensures.counts_not_fallen
    (ap (λ (x : Qcow2 g.row.S.Denot g.S.Storage). g.S.Storage.state x.tables.file.image) is) (ap (λ (x : Qcow2 g.row.S.Denot g.S.Storage). x.tables.file.header) is)
    (ap (λ (x : Qcow2 g.row.S.Denot g.S.Storage). x.tables.l1) is) (ap (λ (x : Qcow2 g.row.S.Denot g.S.Storage). x.tables.caches) is)
    (ap (λ (x : Qcow2 g.row.S.Denot g.S.Storage). x.tables.space) is) (ap (λ (x : Qcow2 g.row.S.Denot g.S.Storage). x.mode) is)
    (ap (λ (x : Qcow2 g.row.S.Denot g.S.Storage). x.number) is) (ap (λ (x : Qcow2 g.row.S.Denot g.S.Storage). x.unspent) is)
    answer c.flush-answer.ensures.faults failed in
    subst (λ (r : Result Unit Fault). FlushesFreed g.S.Storage q r d) (sym same)
    (flushes-freed g.S.Storage q m d answer (rw c.in_ok-free_pending.was at c.free_pending.ensures) keeps
    (leaks-asked g.S.Storage m d t c.flush-answer.ensures.unchanged_but_faults state (ap (λ (x : Qcow2 g.row.S.Denot g.S.Storage). x.tables.file.header) is)
    (ap (λ (x : Qcow2 g.row.S.Denot g.S.Storage). x.tables.space) is) (ap (λ (x : Qcow2 g.row.S.Denot g.S.Storage). x.unspent) is))
    (subst (λ (u : StorageState). CountsFaults (g.S.Storage.state m.tables.file.image).faults u.faults answer) (sym state) c.flush-answer.ensures.faults) failed
    (ap (λ (x : Qcow2 g.row.S.Denot g.S.Storage). x.tables.space) is)
    (ap (λ (x : Qcow2 g.row.S.Denot g.S.Storage). x.tables.file.header) is) (asked-long g.S.Storage m d t c.flush-answer.ensures.unchanged_but_faults state))
