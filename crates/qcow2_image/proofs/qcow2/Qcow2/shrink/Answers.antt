use Rattle.std.proofs.Common.{ℕ, ◌+◌, ◌*◌, ◌^◌, ◌<◌, sym, subst, ◌∙◌, Err}
use Rattle.qcow2_alloc.proofs.Faults.{handed-on}
use Rattle.qcow2_image.proofs.Resizes.Shrinking.{shrink-sized, shrink-unloaded, shrink-unowned, shrink-ununmapped, shrinks-by}
use Rattle.qcow2_image.proofs.qcow2.Qcow2.shrink.Goals as goal

pub own_tables-requires-clause-fits : goal.own_tables-requires-clause-fits
own_tables-requires-clause-fits g c =
    subst (λ (b : ℕ). c.mapped_end-last.result * 2 ^ b < 2 ^ 64 + 2 ^ b) (sym c.in_ok-load_space.ensures.keeps.bits)
    c.mapped_end-last.ensures.fits

pub own_tables-requires-clause-runs : goal.own_tables-requires-clause-runs
own_tables-requires-clause-runs g c = c.in_ok-load_space.ensures.faults ∙ c.requires.runs

pub returns-in_err-load_space : goal.returns-in_err-load_space
returns-in_err-load_space g c =
    rw (handed-on _ _ c.from_residual.ensures.1)
    (shrinks-by g.S.Storage c.args.size c.first_from-first.result c.mapped_end-last.result c.args.self.now
    c.cluster_bits-cluster_bits.result c.size-old_size.result c.cluster_bits-cluster_bits.ensures.value c.size-old_size.ensures
    c.first_from-first.ensures.value c.mapped_end-last.ensures.inside
    c.load_space.new.self (Err c.in_err-load_space.field-0.0)
    (shrink-unloaded g.S.Storage c.args.size c.first_from-first.result c.mapped_end-last.result c.args.self.now c.load_space.new.self
    c.in_err-load_space.field-0.0 c.in_err-load_space.ensures))

pub returns-in_err-own_tables : goal.returns-in_err-own_tables
returns-in_err-own_tables g c =
    rw (handed-on _ _ c.from_residual-in_err-own_tables.ensures.1)
    (shrinks-by g.S.Storage c.args.size c.first_from-first.result c.mapped_end-last.result c.args.self.now
    c.cluster_bits-cluster_bits.result c.size-old_size.result c.cluster_bits-cluster_bits.ensures.value c.size-old_size.ensures
    c.first_from-first.ensures.value c.mapped_end-last.ensures.inside
    c.own_tables.new.self (Err c.in_err-own_tables.field-0.0)
    (shrink-unowned g.S.Storage c.args.size c.first_from-first.result c.mapped_end-last.result c.args.self.now c.load_space.new.self
    c.in_ok-load_space.ensures c.is_none-begun.result c.is_none-begun.ensures c.own_tables.new.self c.in_err-own_tables.field-0.0
    c.in_err-own_tables.ensures.owns c.own_tables.new.begun c.in_err-own_tables.ensures.begins))

pub returns-in_err-unmap_tail : goal.returns-in_err-unmap_tail
returns-in_err-unmap_tail g c =
    rw (handed-on _ _ c.from_residual-in_err-unmap_tail.ensures.1)
    (shrinks-by g.S.Storage c.args.size c.first_from-first.result c.mapped_end-last.result c.args.self.now
    c.cluster_bits-cluster_bits.result c.size-old_size.result c.cluster_bits-cluster_bits.ensures.value c.size-old_size.ensures
    c.first_from-first.ensures.value c.mapped_end-last.ensures.inside
    c.unmap_tail.new.self (Err c.in_err-unmap_tail.field-0.0)
    (shrink-ununmapped g.S.Storage c.args.size c.first_from-first.result c.mapped_end-last.result c.args.self.now c.load_space.new.self
    c.in_ok-load_space.ensures c.is_none-begun.result c.is_none-begun.ensures c.own_tables.new.self c.in_ok-own_tables.ensures.owns
    c.unmap_tail.new.self c.in_err-unmap_tail.field-0.0 c.in_err-unmap_tail.ensures.unmaps c.own_tables.new.begun c.unmap_tail.new.begun
    c.in_ok-own_tables.ensures.begins c.in_err-unmap_tail.ensures.begins))

pub returns : goal.returns
returns g c =
    shrinks-by g.S.Storage c.args.size c.first_from-first.result c.mapped_end-last.result c.args.self.now
    c.cluster_bits-cluster_bits.result c.size-old_size.result c.cluster_bits-cluster_bits.ensures.value c.size-old_size.ensures
    c.first_from-first.ensures.value c.mapped_end-last.ensures.inside
    c.resize_to.new.self c.resize_to.result
    (shrink-sized g.S.Storage c.args.size c.first_from-first.result c.mapped_end-last.result c.args.self.now c.load_space.new.self
    c.in_ok-load_space.ensures c.is_none-begun.result c.is_none-begun.ensures c.own_tables.new.self c.in_ok-own_tables.ensures.owns
    c.requires.shorter c.unmap_tail.new.self c.resize_to.new.self c.resize_to.result c.in_ok-unmap_tail.ensures.unmaps c.resize_to.ensures)
