use Rattle.qcow2_alloc.specs.Allocators.{DecrementsCounter}
use Rattle.qcow2_alloc.specs.CachesLending.{of_blocks}
use Rattle.qcow2_alloc.proofs.Caching.EntryLoans.{entry-used}
use Rattle.qcow2_alloc.proofs.allocation.counting.decrement_in.Goals as goal

pub returns : goal.returns
returns g c =
    entry-used (of_blocks g.S.Storage.state) c.args.rb_cluster (DecrementsCounter c.args.index) c.args.caches.now c.args.file.now _ c.rb_get_or_insert.new.file c.rb_get_or_insert.result c.in_ok-block.block c.decrement_counter.result c.decrement_counter.new.block c.in_ok-block.was (c.rb_get_or_insert.follows.holds c.decrement_counter.new.block) c.decrement_counter.ensures
