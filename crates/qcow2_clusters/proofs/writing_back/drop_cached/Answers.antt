use Rattle.std.proofs.Common.{ap}
use Rattle.qcow2_clusters.proofs.Settlement.{dropped-empty}
use Rattle.qcow2_clusters.proofs.writing_back.drop_cached.Goals as goal

pub returns-clause-empty : goal.returns-clause-empty
returns-clause-empty g c =
    let tables = c.invalidate_l2-tables in
    let blocks = c.invalidate_rb-blocks in
    dropped-empty c.args.caches.now tables.new.self blocks.new.self c.requires.unpinned tables.ensures.dropped.keeps_pinned
    (ap (λ b. b.slots.entries) tables.ensures.others.0) blocks.ensures.dropped.keeps_pinned (ap (λ t. t.slots.entries) blocks.ensures.others.0)
