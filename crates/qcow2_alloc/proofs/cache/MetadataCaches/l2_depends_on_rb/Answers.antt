use Rattle.std.proofs.Common.{ap, subst, Ok, Err}
use Rattle.qcow2_alloc.specs.declared.cache.CacheDependency.{CacheDependency}
use Rattle.qcow2_alloc.specs.Caches.{cached_in, order_of}
use Rattle.qcow2_alloc.specs.Going.{ReadyBlocks}
use Rattle.qcow2_alloc.proofs.Caching.Admission.{tables-still}
use Rattle.qcow2_alloc.proofs.Flushing.OrderAnnouncements.{blocks-come-first}
use Rattle.qcow2_alloc.proofs.cache.MetadataCaches.l2_depends_on_rb.Goals as goal

pub returns-clause-well_formed : goal.returns-clause-well_formed
returns-clause-well_formed g c = λ f H well_formed.
    let mid = c.before_blocks.new.self in
    blocks-come-first f H (cached_in mid) (order_of c.args.self.now) (subst (λ (o : CacheDependency). ReadyBlocks o (cached_in mid)) c.in_ok-before_blocks.ensures.others.1 c.in_ok-before_blocks.ensures.ready) well_formed

pub returns-clause-has_no_dirty_data : goal.returns-clause-has_no_dirty_data
returns-clause-has_no_dirty_data g c = λ tables blocks.
    let state = g.S.Storage.state in
    let mid = c.before_blocks.new in
    let done = c.in_ok-before_blocks.ensures in
    tables-still (order_of c.args.self.now) (state c.args.file.now.image) (state mid.file.image) (cached_in c.args.self.now) (cached_in mid.self) (Ok tt)
    (λ other. let idle = done.idle other in (idle.0, ap (λ f. state f.image) idle.2, ap cached_in idle.1)) done.written tables blocks

pub returns-in_err-before_blocks-clause-has_no_dirty_data : goal.returns-in_err-before_blocks-clause-has_no_dirty_data
returns-in_err-before_blocks-clause-has_no_dirty_data g c = λ tables blocks.
    let state = g.S.Storage.state in
    let mid = c.before_blocks.new in
    let done = c.in_err-before_blocks.ensures in
    tables-still (order_of c.args.self.now) (state c.args.file.now.image) (state mid.file.image) (cached_in c.args.self.now) (cached_in mid.self) (Err c.in_err-before_blocks.field-0.0)
    (λ other. let idle = done.idle other in (idle.0, ap (λ f. state f.image) idle.2, ap cached_in idle.1)) done.written tables blocks
