use Rattle.std.proofs.Common.{◌≡◌, Ok}
use Rattle.qcow2_alloc.specs.Caches.{cached_in, KeepsTables}
use Rattle.qcow2_alloc.specs.Finding.{PinsNothing}
use Rattle.qcow2_alloc.specs.MovingTables.{ForgetsRun}
use Rattle.qcow2_alloc.proofs.allocation.moving_table.forget_run.Given as goal

abbrev pub invariant-loop-index : goal.invariant-loop-index
invariant-loop-index g l = ForgetsRun l.fn.first l.index (cached_in l.fn.caches) (Ok tt) (cached_in l.caches)
    × (l.caches.order ≡ l.fn.caches.order)
    × PinsNothing (cached_in l.fn.caches).blocks (cached_in l.caches).blocks
    × KeepsTables l.fn.caches l.caches
