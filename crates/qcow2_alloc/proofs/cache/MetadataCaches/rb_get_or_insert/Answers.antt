use Rattle.std.proofs.Common.{rules}
use Rattle.qcow2_alloc.proofs.Faults.{handed-on}
use Rattle.qcow2_alloc.proofs.cache.MetadataCaches.rb_get_or_insert.Goals as goal

pub returns-in_err-rb_ready : goal.returns-in_err-rb_ready
returns-in_err-rb_ready g c = rw (handed-on _ _ c.from_residual.ensures.1) (search rules)
