use Rattle.std.proofs.Common.{◌≡◌, drop}
use Rattle.qimg_calls.specs.Calls.{any_commit_down}
use Rattle.host_disk.proofs.attempt.commits_down.Given as goal

abbrev pub invariant-loop-call : goal.invariant-loop-call
invariant-loop-call l = any_commit_down l.calls ≡ any_commit_down (drop l.call-index l.calls)
