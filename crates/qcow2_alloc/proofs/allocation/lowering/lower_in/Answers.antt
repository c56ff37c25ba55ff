use Rattle.qcow2_alloc.specs.CachesLending.{of_blocks}
use Rattle.qcow2_alloc.specs.Lowering.{LowersCounter}
use Rattle.qcow2_alloc.proofs.Caching.EntryLoans.{entry-used}
use Rattle.qcow2_alloc.proofs.allocation.lowering.lower_in.Goals as goal

pub returns : goal.returns
returns g c =
    entry-used (of_blocks g.S.Storage.state) c.args.rb_cluster (LowersCounter c.args.index c.args.by) c.args.caches.now c.args.file.now _ c.rb_get_or_insert.new.file c.rb_get_or_insert.result c.in_ok-block.block c.lower_in_block.result c.lower_in_block.new.block c.in_ok-block.was (c.rb_get_or_insert.follows.holds c.lower_in_block.new.block) c.lower_in_block.ensures
