use Rattle.qcow2_alloc.specs.Allocating.{IncrementsCounter}
use Rattle.qcow2_alloc.specs.CachesLending.{of_blocks}
use Rattle.qcow2_alloc.proofs.Caching.EntryLoans.{entry-used}
use Rattle.qcow2_alloc.proofs.allocation.counting.increment_in.Goals as goal

pub returns : goal.returns
returns g c =
    entry-used (of_blocks g.S.Storage.state) c.args.rb_cluster (IncrementsCounter c.args.index) c.args.caches.now c.args.file.now _ c.rb_get_or_insert.new.file c.rb_get_or_insert.result c.in_ok-block.block c.increment_counter.result c.increment_counter.new.block c.in_ok-block.was (c.rb_get_or_insert.follows.holds c.increment_counter.new.block) c.increment_counter.ensures
