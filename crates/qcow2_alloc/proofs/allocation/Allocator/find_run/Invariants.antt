use Rattle.std.proofs.Common.{◌≡◌, ◌-◌, ◌*◌, ◌^◌, ◌<◌, length}
use Rattle.qcow2_types.specs.Counts.{counters_of_block}
use Rattle.qcow2_alloc.specs.Allocators.{table_of}
use Rattle.qcow2_alloc.specs.Caches.{cached_file}
use Rattle.qcow2_alloc.specs.Scanning.{next_of}
use Rattle.qcow2_alloc.proofs.Searching.RunSearches.{RunSearched}
use Rattle.qcow2_alloc.proofs.allocation.Allocator.find_run.Given as goal

abbrev pub invariant-loop-run : goal.invariant-loop-run
invariant-loop-run g l = (next_of l.run < 2 ^ 64) × (l.file.header ≡ l.fn.file.header) × RunSearched g.S.Storage.state (table_of l.fn.self) l.fn.from l.fn.count (cached_file l.fn.caches l.fn.file) l.run (cached_file l.caches l.file)

abbrev pub decreases-loop-run : goal.decreases-loop-run
decreases-loop-run g l = length (table_of l.fn.self).raw_entries * counters_of_block l.fn.file.header.fields - next_of l.run
