use Rattle.std.proofs.Common.{◌≡◌, ◌-◌, ◌*◌}
use Rattle.qcow2_types.specs.Counts.{counters_of_block}
use Rattle.qcow2_alloc.specs.Allocators.{table_of}
use Rattle.qcow2_alloc.proofs.Searching.FreeClusterSearches.{FreeSearched}
use Rattle.qcow2_alloc.proofs.allocation.Allocator.find_counted.Given as goal

abbrev pub invariant-loop-next : goal.invariant-loop-next
invariant-loop-next g l = (l.file.header ≡ l.fn.file.header) × FreeSearched g.S.Storage.state (table_of l.fn.self) l.fn.from l.fn.caches l.fn.file l.next l.caches l.file

abbrev pub decreases-loop-next : goal.decreases-loop-next
decreases-loop-next g l = l.end * counters_of_block l.fn.file.header.fields - l.next
