use Rattle.std.proofs.Common.{◌≡◌, false, length}
use Rattle.qcow2_alloc.specs.Allocators.{table_of, first_free_of}
use Rattle.qcow2_alloc.specs.State.{seen}
use Rattle.qcow2_alloc.proofs.Handing.RunReadiness.{Readying, Stays, turns_left}
use Rattle.qcow2_alloc.proofs.allocation.Allocator.ready_run.Given as goal

abbrev pub invariant-loop-first : goal.invariant-loop-first
invariant-loop-first g l = Readying g.S.Storage.state (seen l.fn.self l.fn.caches l.fn.file l.fn.list) (seen l.self l.caches l.file l.list) × (first_free_of l.self ≡ first_free_of l.fn.self) × (l.list.held ≡ l.fn.list.held) × (l.entries ≡ length (table_of l.fn.self).raw_entries)
    × Stays g.S.Storage.state (seen l.fn.self l.fn.caches l.fn.file l.fn.list) (first_free_of l.fn.self) l.fn.count (seen l.self l.caches l.file l.list)
    × (l.begun ≡ false → (l.fn.begun ≡ false) × (l.self ≡ l.fn.self) × (l.caches ≡ l.fn.caches) × (l.file ≡ l.fn.file) × (l.list ≡ l.fn.list))

abbrev pub decreases-loop-first : goal.decreases-loop-first
decreases-loop-first g l = turns_left (table_of l.self)
