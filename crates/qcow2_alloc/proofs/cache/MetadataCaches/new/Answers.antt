use Rattle.qcow2_alloc.proofs.Caching.EmptyCaches.{empty-safe}
use Rattle.qcow2_alloc.proofs.cache.MetadataCaches.new.Goals as goal

pub returns-clause-well_formed : goal.returns-clause-well_formed
returns-clause-well_formed g c = λ f H was. rw (c.in_ok-new.ensures.empty, c.in_ok-new-2.ensures.empty) (empty-safe f H was)
