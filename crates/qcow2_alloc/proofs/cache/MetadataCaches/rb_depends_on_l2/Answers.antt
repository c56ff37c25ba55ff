use Rattle.std.proofs.Common.{subst}
use Rattle.qcow2_alloc.specs.declared.cache.CacheDependency.{CacheDependency}
use Rattle.qcow2_alloc.specs.Caches.{cached_in, order_of}
use Rattle.qcow2_alloc.specs.Going.{ReadyTables}
use Rattle.qcow2_alloc.proofs.Flushing.OrderAnnouncements.{tables-come-first}
use Rattle.qcow2_alloc.proofs.cache.MetadataCaches.rb_depends_on_l2.Goals as goal

pub returns-clause-well_formed : goal.returns-clause-well_formed
returns-clause-well_formed g c = λ f H well_formed.
    let mid = c.before_tables.new.self in
    tables-come-first f H (cached_in mid) (order_of c.args.self.now) (subst (λ (o : CacheDependency). ReadyTables o (cached_in mid)) c.in_ok-before_tables.ensures.others.1 c.in_ok-before_tables.ensures.ready) well_formed
