use Rattle.std.proofs.Common.{◌≡◌, ◌<◌}
use Rattle.qcow2_alloc.specs.Scanning.{Scans}
use Rattle.qcow2_alloc.proofs.allocation.searching.scan.Given as goal

abbrev pub invariant-loop-at : goal.invariant-loop-at
invariant-loop-at l = (l.at ≡ l.fn.index → l.scanned.len < l.fn.count) × Scans l.fn.block.counters l.fn.count l.fn.index l.at l.fn.run l.scanned
