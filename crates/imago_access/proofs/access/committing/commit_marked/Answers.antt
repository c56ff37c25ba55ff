use Rattle.imago_access.specs.Layers.{chain}
use Rattle.imago_access.proofs.CommitMarks.{commits_after, failed_after_mark, marks_after}
use Rattle.imago_access.proofs.access.committing.commit_marked.Goals as goal

pub returns : goal.returns
returns g c =
    let d = g.D.DriverModel in let e = c.commit_steps-result.ensures in let r = c.commit_steps-result.result in
    let begun = c.commit_steps-result.new.begun in let a = c.args.driver.now in let b = c.commit_steps-result.new.driver in let after = c.mark_after.new.driver in let x = c.args.next.now in let y = c.commit_steps-result.new.next in
    record {
      does = commits_after d r begun (a, chain x) b after (chain y) c.mark_after.ensures e.does;
      usable = e.usable;
      failed = failed_after_mark d r begun (a, chain x) b after (chain y) c.mark_after.ensures e.failed;
      marks_failed = marks_after d r begun (a, chain x) b after (chain y) e.does.mutating_call.fixed c.mark_after.ensures e.spared;
      cause = e.cause;
    }
