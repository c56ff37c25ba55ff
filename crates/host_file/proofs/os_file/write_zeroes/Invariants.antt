use Rattle.std.proofs.Common.{◌-◌, ◌≤◌}
use Rattle.host_file.proofs.os_file.write_zeroes.Given as goal

abbrev pub invariant-loop-done : goal.invariant-loop-done
invariant-loop-done l = l.done ≤ l.length

abbrev pub decreases-loop-done : goal.decreases-loop-done
decreases-loop-done l = l.length - l.done
