use Rattle.std.proofs.Common.{refl, true, inl, inr, Ok, Err}
use Rattle.std.specs.Prelude.{Bool}
use Rattle.imago_storage.specs.declared.fault.Fault.TheVariants.{Outdated}
use Rattle.qcow2_image.proofs.RangeWrites.{marked-or-kept, noted, spared-looking, spared-unless, spared-writing, told-why, unnoted, unwritten, writes-mapped, writing-refused, written-leaks}
use Rattle.qcow2_image.proofs.Lengths.{looked-long, written-long}
use Rattle.qcow2_image.proofs.Steps.{keeps-as, marks-kept}
use Rattle.qcow2_alloc.proofs.Faults.{handed-on}
use Rattle.imago_storage.proofs.Composing.{same-mixed}
use Rattle.qcow2_image.specs.Seen.{layer_of}
use Rattle.qcow2_image.proofs.CallsWithoutChanges.{failed-barrier, failed-refusal, empty-refusal, failed-early_outcome, idle-early_outcome, refused-early_outcome, busy-early_outcome, writes-nothing, writes-refused, writing-failed, writing-done, writing-outdated, above-none}
use Rattle.qcow2_image.proofs.drivers.Qcow2FormatDriverInstance.write_mapped.Goals as goal
use Rattle.qcow2_image.proofs.LeaksByFile.{leaks-kept}

pub returns-clause-writes : goal.returns-clause-writes
returns-clause-writes g c =
    let st = g.S.Storage in
    let told = c.if-not-branch.false in
    let w = noted st c.args.guest c.args.place c.args.bytes.now c.is_mapped_at.new.self c.write_at.new.self c.note.new.self
    (c.in_ok-write_at.ensures {u = tt}) c.note.ensures.notes c.note.ensures.others in
    writes-mapped g.row.S st g.S.Storage-dict g.S.Destruct-dict c.args.self.now c.is_mapped_at.new.self c.note.new.self c.args.guest c.args.place c.args.bytes.now (Ok tt)
    (rw told at c.in_ok-is_mapped_at.ensures.keeps) w c.in_ok-check_change.ensures.runs c.if-length-eq0.false
    (λ seen. (rw told at (c.in_ok-is_mapped_at.ensures.yes seen)) refl)

pub returns-in_err-write_at-clause-writes : goal.returns-in_err-write_at-clause-writes
returns-in_err-write_at-clause-writes g c = rw (handed-on _ _ c.from_residual-in_err-write_at.ensures.1) (
    let st = g.S.Storage in
    let told = c.if-not-branch.false in
    let e = c.in_err-write_at.field-0.0 in
    elim (marked-or-kept st c.args.place c.args.bytes.now c.args.self.now c.is_mapped_at.new.self c.write_at.new.self e (rw told at c.in_ok-is_mapped_at.ensures.keeps) c.in_err-write_at.ensures c.in_ok-check_change.ensures.runs) [
      | inl failed ↦
          let w = unnoted st c.args.guest c.args.place c.args.bytes.now c.is_mapped_at.new.self c.write_at.new.self e c.in_err-write_at.ensures failed in
          writes-mapped g.row.S st g.S.Storage-dict g.S.Destruct-dict c.args.self.now c.is_mapped_at.new.self c.write_at.new.self c.args.guest c.args.place c.args.bytes.now (Err e)
          (rw told at c.in_ok-is_mapped_at.ensures.keeps) w c.in_ok-check_change.ensures.runs c.if-length-eq0.false (λ seen. (rw told at (c.in_ok-is_mapped_at.ensures.yes seen)) refl)
      | inr kept ↦
          unwritten g.row.S st g.S.Storage-dict g.S.Destruct-dict c.args.self.now c.write_at.new.self c.args.guest c.args.place c.args.bytes.now e kept.1 c.if-length-eq0.false
    ])

pub returns-in_err-write_at-clause-refused : goal.returns-in_err-write_at-clause-refused
returns-in_err-write_at-clause-refused g c = rw (handed-on _ _ c.from_residual-in_err-write_at.ensures.1) (
    let st = g.S.Storage in
    let told = c.if-not-branch.false in
    let e = c.in_err-write_at.field-0.0 in
    elim (marked-or-kept st c.args.place c.args.bytes.now c.args.self.now c.is_mapped_at.new.self c.write_at.new.self e (rw told at c.in_ok-is_mapped_at.ensures.keeps) c.in_err-write_at.ensures c.in_ok-check_change.ensures.runs) [
      | inl failed ↦
          let w = unnoted st c.args.guest c.args.place c.args.bytes.now c.is_mapped_at.new.self c.write_at.new.self e c.in_err-write_at.ensures failed in
          writing-refused g.row.S st g.S.Storage-dict g.S.Destruct-dict c.args.self.now c.is_mapped_at.new.self c.write_at.new.self c.args.guest c.args.place c.args.bytes.now (Err e)
          (rw told at c.in_ok-is_mapped_at.ensures.keeps) w c.in_ok-check_change.ensures.runs c.if-length-eq0.false (λ seen. (rw told at (c.in_ok-is_mapped_at.ensures.yes seen)) refl)
      | inr kept ↦
          spared-writing g.row.S st g.S.Storage-dict g.S.Destruct-dict c.args.self.now c.write_at.new.self c.args.guest c.args.place c.args.bytes.now e kept.1 kept.0
    ])

pub returns-then-not-branch-clause-writes : goal.returns-then-not-branch-clause-writes
returns-then-not-branch-clause-writes g c =
    let st = g.S.Storage in
    unwritten g.row.S st g.S.Storage-dict g.S.Destruct-dict c.args.self.now c.is_mapped_at.new.self c.args.guest c.args.place c.args.bytes.now Outdated
    (keeps-as {T = Bool} {U = Bool} st c.args.self.now c.is_mapped_at.new.self (Ok c.in_ok-is_mapped_at.field-0) (Err Outdated) (λ w. tt)
    (λ f. refl) c.in_ok-is_mapped_at.ensures.keeps)
    c.if-length-eq0.false

pub returns-in_err-is_mapped_at-clause-writes : goal.returns-in_err-is_mapped_at-clause-writes
returns-in_err-is_mapped_at-clause-writes g c = rw (handed-on _ _ c.from_residual-in_err-is_mapped_at.ensures.1) (
    let st = g.S.Storage in
    unwritten g.row.S st g.S.Storage-dict g.S.Destruct-dict c.args.self.now c.is_mapped_at.new.self c.args.guest c.args.place
    c.args.bytes.now c.in_err-is_mapped_at.field-0.0
    c.in_err-is_mapped_at.ensures.keeps c.if-length-eq0.false)

pub returns-in_err-is_mapped_at-clause-refused : goal.returns-in_err-is_mapped_at-clause-refused
returns-in_err-is_mapped_at-clause-refused g c = rw (handed-on _ _ c.from_residual-in_err-is_mapped_at.ensures.1) (
    let st = g.S.Storage in
    let old = c.args.self.now in
    let new = c.is_mapped_at.new.self in
    let e = c.in_err-is_mapped_at.field-0.0 in record {
      failed = c.in_err-is_mapped_at.ensures.failed;
      marks_failed = marks-kept g.row.S st g.S.Storage-dict g.S.Destruct-dict {T = Bool} old new (Err e) c.in_err-is_mapped_at.ensures.keeps;
      cause = told-why g.row.S st g.S.Storage-dict g.S.Destruct-dict old new c.args.guest c.args.place c.args.bytes.now e
          c.in_err-is_mapped_at.ensures.keeps
          (λ well_formed. c.in_err-is_mapped_at.ensures.cause well_formed.seen);
    })

pub returns-clause-leaks : goal.returns-clause-leaks
returns-clause-leaks g c =
    let st = g.S.Storage in
    let told = c.if-not-branch.false in
    let w = noted st c.args.guest c.args.place c.args.bytes.now c.is_mapped_at.new.self c.write_at.new.self c.note.new.self
    (c.in_ok-write_at.ensures {u = tt}) c.note.ensures.notes c.note.ensures.others in
    written-leaks g.row.S st g.S.Storage-dict g.S.Destruct-dict c.args.self.now c.is_mapped_at.new.self c.note.new.self c.args.guest c.args.place c.args.bytes.now (Ok tt)
    (rw told at c.in_ok-is_mapped_at.ensures.keeps) w c.in_ok-check_change.ensures.runs c.if-length-eq0.false
    (λ seen. (rw told at (c.in_ok-is_mapped_at.ensures.yes seen)) refl)

pub returns-in_err-write_at-clause-leaks : goal.returns-in_err-write_at-clause-leaks
returns-in_err-write_at-clause-leaks g c = rw (handed-on _ _ c.from_residual-in_err-write_at.ensures.1) (
    let st = g.S.Storage in
    let told = c.if-not-branch.false in
    let e = c.in_err-write_at.field-0.0 in
    elim (marked-or-kept st c.args.place c.args.bytes.now c.args.self.now c.is_mapped_at.new.self c.write_at.new.self e (rw told at c.in_ok-is_mapped_at.ensures.keeps) c.in_err-write_at.ensures c.in_ok-check_change.ensures.runs) [
      | inl failed ↦
          let w = unnoted st c.args.guest c.args.place c.args.bytes.now c.is_mapped_at.new.self c.write_at.new.self e c.in_err-write_at.ensures failed in
          written-leaks g.row.S st g.S.Storage-dict g.S.Destruct-dict c.args.self.now c.is_mapped_at.new.self c.write_at.new.self c.args.guest c.args.place c.args.bytes.now (Err e)
          (rw told at c.in_ok-is_mapped_at.ensures.keeps) w c.in_ok-check_change.ensures.runs c.if-length-eq0.false (λ seen. (rw told at (c.in_ok-is_mapped_at.ensures.yes seen)) refl)
      | inr kept ↦
          λ well_formed whole. leaks-kept st {T = Bool} c.args.self.now c.write_at.new.self (Err e) kept.1
    ])

pub returns-then-not-branch-clause-leaks : goal.returns-then-not-branch-clause-leaks
returns-then-not-branch-clause-leaks g c =
    λ well_formed whole. leaks-kept g.S.Storage {T = Bool} c.args.self.now c.is_mapped_at.new.self (Ok c.in_ok-is_mapped_at.field-0)
    c.in_ok-is_mapped_at.ensures.keeps

pub returns-in_err-is_mapped_at-clause-leaks : goal.returns-in_err-is_mapped_at-clause-leaks
returns-in_err-is_mapped_at-clause-leaks g c = rw (handed-on _ _ c.from_residual-in_err-is_mapped_at.ensures.1) (
    λ well_formed whole. leaks-kept g.S.Storage {T = Bool} c.args.self.now c.is_mapped_at.new.self (Err c.in_err-is_mapped_at.field-0.0)
    c.in_err-is_mapped_at.ensures.keeps)

pub returns-clause-no_shorter : goal.returns-clause-no_shorter
returns-clause-no_shorter g c =
    let st = g.S.Storage in
    let told = c.if-not-branch.false in
    let w = noted st c.args.guest c.args.place c.args.bytes.now c.is_mapped_at.new.self c.write_at.new.self c.note.new.self (c.in_ok-write_at.ensures {u = tt}) c.note.ensures.notes c.note.ensures.others in
    written-long st {T = Bool} c.args.self.now c.is_mapped_at.new.self c.note.new.self (Ok true) c.args.place c.args.bytes.now (Ok tt)
    (rw told at c.in_ok-is_mapped_at.ensures.keeps) w.put

pub returns-in_err-write_at-clause-no_shorter : goal.returns-in_err-write_at-clause-no_shorter
returns-in_err-write_at-clause-no_shorter g c =
    let told = c.if-not-branch.false in
    written-long g.S.Storage {T = Bool} c.args.self.now c.is_mapped_at.new.self c.write_at.new.self (Ok true) c.args.place c.args.bytes.now
    (Err c.in_err-write_at.field-0.0) (rw told at c.in_ok-is_mapped_at.ensures.keeps) c.in_err-write_at.ensures.put

pub returns-then-not-branch-clause-no_shorter : goal.returns-then-not-branch-clause-no_shorter
returns-then-not-branch-clause-no_shorter g c =
    looked-long g.S.Storage {T = Bool} c.args.self.now c.is_mapped_at.new.self (Ok c.in_ok-is_mapped_at.field-0) c.in_ok-is_mapped_at.ensures.keeps

pub returns-in_err-is_mapped_at-clause-no_shorter : goal.returns-in_err-is_mapped_at-clause-no_shorter
returns-in_err-is_mapped_at-clause-no_shorter g c =
    looked-long g.S.Storage {T = Bool} c.args.self.now c.is_mapped_at.new.self (Err c.in_err-is_mapped_at.field-0.0) c.in_err-is_mapped_at.ensures.keeps

pub returns-in_err-write_at-clause-untouched_unless_begun : goal.returns-in_err-write_at-clause-untouched_unless_begun
returns-in_err-write_at-clause-untouched_unless_begun g c = rw (handed-on _ _ c.from_residual-in_err-write_at.ensures.1) (
    let told = c.if-not-branch.false in
    spared-unless g.S.Storage c.args.place c.args.bytes.now c.args.self.now c.is_mapped_at.new.self c.write_at.new.self c.in_err-write_at.field-0.0
    (rw told at c.in_ok-is_mapped_at.ensures.keeps) c.in_err-write_at.ensures c.in_ok-check_change.ensures.runs)

pub returns-in_err-is_mapped_at-clause-untouched_unless_begun : goal.returns-in_err-is_mapped_at-clause-untouched_unless_begun
returns-in_err-is_mapped_at-clause-untouched_unless_begun g c = rw (handed-on _ _ c.from_residual-in_err-is_mapped_at.ensures.1) (
    spared-looking g.S.Storage c.args.self.now c.is_mapped_at.new.self c.in_err-is_mapped_at.field-0.0 c.in_err-is_mapped_at.ensures.keeps)

pub returns-then-self-clause-writes : goal.returns-then-self-clause-writes
returns-then-self-clause-writes g c = writes-refused _ _ _ _ _ c.args.self.now

pub returns-then-self-clause-early_outcome : goal.returns-then-self-clause-early_outcome
returns-then-self-clause-early_outcome g c =
    failed-early_outcome _ _ _ c.args.self.now (failed-barrier (layer_of g.S.Storage c.args.self.now) c.if-self.true)
    (failed-refusal (layer_of g.S.Storage c.args.self.now) _ _ c.if-self.true)

pub returns-then-self-clause-refused : goal.returns-then-self-clause-refused
returns-then-self-clause-refused g c =
    writing-failed _ _ _ _ c.args.self.now (failed-barrier (layer_of g.S.Storage c.args.self.now) c.if-self.true)

pub returns-then-self-clause-untouched_unless_begun : goal.returns-then-self-clause-untouched_unless_begun
returns-then-self-clause-untouched_unless_begun g c = λ _. inl refl

pub returns-then-self-clause-file : goal.returns-then-self-clause-file
returns-then-self-clause-file g c = λ _. same-mixed _ _ _ _ refl

pub returns-then-self-clause-leaks : goal.returns-then-self-clause-leaks
returns-then-self-clause-leaks g c = λ _ _ _. refl

pub returns-then-length-eq0-clause-writes : goal.returns-then-length-eq0-clause-writes
returns-then-length-eq0-clause-writes g c = writes-nothing _ _ _ _ c.args.self.now c.if-length-eq0.true

pub returns-then-length-eq0-clause-early_outcome : goal.returns-then-length-eq0-clause-early_outcome
returns-then-length-eq0-clause-early_outcome g c =
    idle-early_outcome _ _ _ _ c.args.self.now
    (empty-refusal (layer_of g.S.Storage c.args.self.now) _ _ c.if-self.false refl c.if-length-eq0.true)

pub returns-then-length-eq0-clause-refused : goal.returns-then-length-eq0-clause-refused
returns-then-length-eq0-clause-refused g c = writing-done _ _ _ _ _ _

pub returns-then-length-eq0-clause-untouched_unless_begun : goal.returns-then-length-eq0-clause-untouched_unless_begun
returns-then-length-eq0-clause-untouched_unless_begun g c = tt

pub returns-then-length-eq0-clause-file : goal.returns-then-length-eq0-clause-file
returns-then-length-eq0-clause-file g c = λ _. same-mixed _ _ _ _ refl

pub returns-then-length-eq0-clause-leaks : goal.returns-then-length-eq0-clause-leaks
returns-then-length-eq0-clause-leaks g c = λ _ _ _. refl

pub returns-in_err-check_change-clause-writes : goal.returns-in_err-check_change-clause-writes
returns-in_err-check_change-clause-writes g c =
    rw (handed-on _ _ c.from_residual.ensures.1) (writes-refused _ _ _ _ c.in_err-check_change.field-0.0 c.args.self.now)

pub returns-in_err-check_change-clause-early_outcome : goal.returns-in_err-check_change-clause-early_outcome
returns-in_err-check_change-clause-early_outcome g c = rw (handed-on _ _ c.from_residual.ensures.1) (
    refused-early_outcome _ _ _ c.in_err-check_change.field-0.0 c.args.self.now c.in_err-check_change.ensures.err c.if-length-eq0.false)

pub returns-in_err-check_change-clause-untouched_unless_begun : goal.returns-in_err-check_change-clause-untouched_unless_begun
returns-in_err-check_change-clause-untouched_unless_begun g c = rw (handed-on _ _ c.from_residual.ensures.1) (λ _. inl refl)

pub returns-in_err-check_change-clause-file : goal.returns-in_err-check_change-clause-file
returns-in_err-check_change-clause-file g c = λ _. same-mixed _ _ _ _ refl

pub returns-in_err-check_change-clause-leaks : goal.returns-in_err-check_change-clause-leaks
returns-in_err-check_change-clause-leaks g c = λ _ _ _. refl

pub returns-in_err-is_mapped_at-clause-early_outcome : goal.returns-in_err-is_mapped_at-clause-early_outcome
returns-in_err-is_mapped_at-clause-early_outcome g c =
    busy-early_outcome _ _ _ _ c.args.self.now _ c.in_ok-check_change.ensures.ok c.if-length-eq0.false

pub returns-in_err-is_mapped_at-clause-file : goal.returns-in_err-is_mapped_at-clause-file
returns-in_err-is_mapped_at-clause-file g c = λ _. same-mixed _ _ _ _ c.in_err-is_mapped_at.ensures.keeps.tables.unchanged_but_faults.bytes

pub returns-then-not-branch-clause-early_outcome : goal.returns-then-not-branch-clause-early_outcome
returns-then-not-branch-clause-early_outcome g c = busy-early_outcome _ _ _ _ c.args.self.now _ c.in_ok-check_change.ensures.ok c.if-length-eq0.false

pub returns-then-not-branch-clause-refused : goal.returns-then-not-branch-clause-refused
returns-then-not-branch-clause-refused g c =
    writing-outdated _ _ _ _ c.args.self.now _ (above-none _ c.if-length-eq0.false) (λ well_formed. c.in_ok-is_mapped_at.ensures.no well_formed.seen c.if-not-branch.true)

pub returns-then-not-branch-clause-untouched_unless_begun : goal.returns-then-not-branch-clause-untouched_unless_begun
returns-then-not-branch-clause-untouched_unless_begun g c = λ e. absurd (cc e)

pub returns-then-not-branch-clause-file : goal.returns-then-not-branch-clause-file
returns-then-not-branch-clause-file g c = λ _. same-mixed _ _ _ _ c.in_ok-is_mapped_at.ensures.keeps.tables.unchanged_but_faults.bytes

pub returns-in_err-write_at-clause-early_outcome : goal.returns-in_err-write_at-clause-early_outcome
returns-in_err-write_at-clause-early_outcome g c = busy-early_outcome _ _ _ _ c.args.self.now _ c.in_ok-check_change.ensures.ok c.if-length-eq0.false

pub returns-clause-early_outcome : goal.returns-clause-early_outcome
returns-clause-early_outcome g c = busy-early_outcome _ _ _ _ c.args.self.now _ c.in_ok-check_change.ensures.ok c.if-length-eq0.false

pub returns-clause-refused : goal.returns-clause-refused
returns-clause-refused g c = writing-done _ _ _ _ _ _

pub returns-clause-untouched_unless_begun : goal.returns-clause-untouched_unless_begun
returns-clause-untouched_unless_begun g c = tt
