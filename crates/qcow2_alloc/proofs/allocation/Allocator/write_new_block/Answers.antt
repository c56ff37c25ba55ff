use Rattle.qcow2_alloc.proofs.Blocks.NewBlockWrites.{placed-written}
use Rattle.qcow2_alloc.proofs.allocation.Allocator.write_new_block.Goals as goal

pub returns-clause-writes : goal.returns-clause-writes
returns-clause-writes g c =
    placed-written c.args.file.now.header c.args.index c.args.run c.args.place c.in_ok-block.block c.set_cluster.new.self c.in_ok-block.ensures.ok c.set_cluster.ensures
    (g.S.Storage.state c.args.file.now.image) (g.S.Storage.state c.write.new.image) c.write.result c.write.ensures.request
