use Rattle.std.proofs.Common.{arith, subst, ◌≡◌, length, take, ℕ, Ok, Err, ◌∙◌, ap}
use Rattle.std.proofs.lemmas.Grind.{common_steps}
use Rattle.imago_storage.specs.Disk.{byte}
use Rattle.imago_access.specs.Committing.{IsOwnRun}
use Rattle.imago_access.specs.Layer.{own}
use Rattle.imago_access.proofs.Answers.{handed_on}
use Rattle.imago_access.proofs.Committing.{copies_unwritten, copies_written, run_taken, run_through}
use Rattle.imago_access.proofs.access.committing.copy_run.Goals as goal

pub returns-in_err-n-clause-copies : goal.returns-in_err-n-clause-copies
returns-in_err-n-clause-copies g c = rw (handed_on _ _ c.from_residual.ensures.1) (let d = g.D.DriverModel in let e = c.in_err-n.ensures in
    copies_unwritten d (Err c.in_err-n.field-0.0) c.args.driver.now c.read_own_run.new.driver c.args.next.now e.lookup_call e.failed e.cause)

pub returns-in_err-write-clause-copies : goal.returns-in_err-write-clause-copies
returns-in_err-write-clause-copies g c = rw (handed_on _ _ c.from_residual-in_err-write.ensures.1) (let d = g.D.DriverModel in let e = c.in_err-write.ensures in let o = c.in_ok-n.ensures in
    let n = c.in_ok-n.n in let bytes = take n c.read_own_run.new.buf in
    let long : length bytes ≡ n = grind (arith, common_steps) in
    copies_written d (Err c.in_err-write.field-0.0) c.args.driver.now c.read_own_run.new.driver c.args.next.now c.write.new.self c.args.offset bytes o.lookup_call (omega (arith, long, o.run.1, c.requires.inside))
    (λ see i lt. subst (IsOwnRun (d.layer c.args.driver.now) c.args.offset c.read_own_run.new.buf n) c.if-is_own.true (o.own see) i (omega (arith, lt, long)) ∙ ap (λ (b : ℕ). own (byte b)) (grind (arith, common_steps)))
    e.range_change e.keeps_layer_state e.marks_failed e.failed e.cause)

pub returns-in_ok-write-clause-copies : goal.returns-in_ok-write-clause-copies
returns-in_ok-write-clause-copies g c = let d = g.D.DriverModel in let e = c.in_ok-write.ensures in let o = c.in_ok-n.ensures in
    let n = c.in_ok-n.n in let bytes = take n c.read_own_run.new.buf in
    let long : length bytes ≡ n = grind (arith, common_steps) in
    copies_written d (Ok n) c.args.driver.now c.read_own_run.new.driver c.args.next.now c.write.new.self c.args.offset bytes o.lookup_call (omega (arith, long, o.run.1, c.requires.inside))
    (λ see i lt. subst (IsOwnRun (d.layer c.args.driver.now) c.args.offset c.read_own_run.new.buf n) c.if-is_own.true (o.own see) i (omega (arith, lt, long)) ∙ ap (λ (b : ℕ). own (byte b)) (grind (arith, common_steps)))
    e.range_change e.keeps_layer_state tt tt (λ i. tt)

pub returns-in_ok-write-clause-taken : goal.returns-in_ok-write-clause-taken
returns-in_ok-write-clause-taken g c = let d = g.D.DriverModel in let e = c.in_ok-write.ensures in let o = c.in_ok-n.ensures in
    let n = c.in_ok-n.n in let bytes = take n c.read_own_run.new.buf in
    let long : length bytes ≡ n = grind (arith, common_steps) in
    run_taken d n c.args.driver.now c.read_own_run.new.driver c.args.next.now c.write.new.self c.args.offset bytes (returns-in_ok-write-clause-copies g c) long o.run.0 (omega (arith, o.run.1, c.requires.inside))
    (λ see i lt. subst (IsOwnRun (d.layer c.args.driver.now) c.args.offset c.read_own_run.new.buf n) c.if-is_own.true (o.own see) i lt ∙ ap (λ (b : ℕ). own (byte b)) (grind (arith, common_steps)))
    e.ok

pub returns-else-is_own-clause-copies : goal.returns-else-is_own-clause-copies
returns-else-is_own-clause-copies g c = let d = g.D.DriverModel in
    copies_unwritten d (Ok c.in_ok-n.n) c.args.driver.now c.read_own_run.new.driver c.args.next.now c.in_ok-n.ensures.lookup_call tt (λ see. tt)

pub returns-else-is_own-clause-taken : goal.returns-else-is_own-clause-taken
returns-else-is_own-clause-taken g c = let d = g.D.DriverModel in λ may.
    run_through d c.args.driver.now c.args.next.now c.args.offset c.in_ok-n.n
    (subst (IsOwnRun (d.layer c.args.driver.now) c.args.offset c.read_own_run.new.buf c.in_ok-n.n) c.if-is_own.false (c.in_ok-n.ensures.own may.is_coherent)) may
