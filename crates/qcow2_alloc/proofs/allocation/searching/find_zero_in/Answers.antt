use Rattle.std.proofs.Common.{subst}
use Rattle.std.specs.Prelude.{ℕ, Option}
use Rattle.qcow2_types.specs.Counts.{counters_of_block}
use Rattle.qcow2_alloc.specs.Scanning.{FindsZero, Reads}
use Rattle.qcow2_alloc.specs.CachesLending.{of_blocks}
use Rattle.qcow2_alloc.proofs.Caching.EntryLoans.{entry-used}
use Rattle.qcow2_alloc.proofs.allocation.searching.find_zero_in.Goals as goal

pub returns : goal.returns
returns g c =
    entry-used (of_blocks g.S.Storage.state) c.args.rb_cluster (Reads {T = Option ℕ} (counters_of_block c.args.file.now.header.fields) (FindsZero c.args.index))
    c.args.caches.now c.args.file.now _ c.rb_get_or_insert.new.file c.rb_get_or_insert.result c.in_ok-block.block c.find_zero_whole.result c.in_ok-block.block.now c.in_ok-block.was (c.rb_get_or_insert.follows.holds c.in_ok-block.block.now)
    (subst (λ k. Reads {T = Option ℕ} k (FindsZero c.args.index) c.in_ok-block.block.now c.find_zero_whole.result c.in_ok-block.block.now) c.rb_entries-entries.ensures.value c.find_zero_whole.ensures)
