use Rattle.std.proofs.Common.{ap, subst, ◌∙◌}
use Rattle.qcow2_alloc.specs.Dropping.{Dropped}
use Rattle.qcow2_image.proofs.Anew.{drops-all, drops-ok}
use Rattle.qcow2_image.proofs.reloading.drop_cached.Goals as goal

pub returns-clause-ok : goal.returns-clause-ok
returns-clause-ok g c =
    let old = c.args.caches.now in
    let blocks = ap (λ x. x.slots.entries) c.invalidate_l2.ensures.others.0 in
    drops-ok old.rb.slots.entries _ c.invalidate_rb.result (subst (λ es. Dropped es c.invalidate_rb.result c.invalidate_rb.new.self.rb.slots.entries) blocks c.invalidate_rb.ensures.dropped) c.requires.unpinned.1

pub returns-clause-empty : goal.returns-clause-empty
returns-clause-empty g c =
    let old = c.args.caches.now in
    let a = c.invalidate_l2.ensures in
    let b = c.invalidate_rb.ensures in
    let blocks = ap (λ x. x.slots.entries) a.others.0 in
    let no_tables = ap (λ x. x.slots.entries) b.others.0 ∙ drops-all old.l2.slots.entries _ _ a.dropped c.requires.unpinned.0 in
    let no_blocks = drops-all old.rb.slots.entries _ c.invalidate_rb.result (subst (λ es. Dropped es c.invalidate_rb.result c.invalidate_rb.new.self.rb.slots.entries) blocks b.dropped) c.requires.unpinned.1 in
    λ i. record { tables = no_tables i; blocks = no_blocks i }

pub returns-in_err-invalidate_l2 : goal.returns-in_err-invalidate_l2
returns-in_err-invalidate_l2 g c = absurd (let e = drops-ok c.args.caches.now.l2.slots.entries _ _ c.in_err-invalidate_l2.ensures.dropped
    c.requires.unpinned.0 in cc)
