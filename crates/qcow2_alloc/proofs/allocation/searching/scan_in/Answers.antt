use Rattle.std.proofs.Common.{List, subst}
use Rattle.std.specs.Prelude.{ℕ}
use Rattle.qcow2_types.specs.Counts.{counters_of_block}
use Rattle.qcow2_alloc.specs.declared.allocation.searching.Run.{Run}
use Rattle.qcow2_alloc.specs.Scanning.{ScansSome, Reads}
use Rattle.qcow2_alloc.specs.CachesLending.{of_blocks}
use Rattle.qcow2_alloc.proofs.Caching.EntryLoans.{entry-used}
use Rattle.qcow2_alloc.proofs.allocation.searching.scan_in.Goals as goal

pub returns : goal.returns
returns g c =
    entry-used (of_blocks g.S.Storage.state) c.args.rb_cluster (Reads {T = Run} (counters_of_block c.args.file.now.header.fields) (λ (counters : List ℕ) (now : Run). ScansSome counters c.args.count c.args.index c.args.run now))
    c.args.caches.now c.args.file.now _ c.rb_get_or_insert.new.file c.rb_get_or_insert.result c.in_ok-block.block c.scan_whole.result c.in_ok-block.block.now c.in_ok-block.was (c.rb_get_or_insert.follows.holds c.in_ok-block.block.now)
    (subst (λ k. Reads {T = Run} k (λ (counters : List ℕ) (now : Run). ScansSome counters c.args.count c.args.index c.args.run now) c.in_ok-block.block.now c.scan_whole.result c.in_ok-block.block.now) c.rb_entries-entries.ensures.value c.scan_whole.ensures)
