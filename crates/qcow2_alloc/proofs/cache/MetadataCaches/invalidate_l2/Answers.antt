use Rattle.qcow2_alloc.proofs.Caching.SingleEntries.{table-kind-laws}
use Rattle.qcow2_alloc.proofs.Caching.EntryDrops.{entries-dropped}
use Rattle.qcow2_alloc.proofs.Memory.EntryKinds.{table_kind}
use Rattle.qcow2_alloc.proofs.cache.MetadataCaches.invalidate_l2.Goals as goal

pub returns-clause-well_formed : goal.returns-clause-well_formed
returns-clause-well_formed g c = λ clean. rw c.invalidate.ensures.keeps_pinned
    (entries-dropped table_kind table-kind-laws c.args.self.now.rb.slots.entries c.args.self.now.l2.slots.entries c.args.self.now.order clean)
