use Rattle.std.proofs.Common.{ℕ, ◌-◌, ◌/◌, ◌^◌, ap, sym, subst, ◌∙◌, Err}
use Rattle.qcow2_alloc.proofs.Faults.{handed-on}
use Rattle.qcow2_image.specs.Resizing.{MovesL1}
use Rattle.qcow2_image.proofs.Resizes.Growth.{grow-sized, grow-unloaded, grow-unmoved, mappings-kept}
use Rattle.qcow2_image.proofs.qcow2.Qcow2.grow.Goals as goal

pub returns-in_err-load_space-clause-grows : goal.returns-in_err-load_space-clause-grows
returns-in_err-load_space-clause-grows g c = rw (handed-on _ _ c.from_residual.ensures.1)
    (grow-unloaded g.S.Storage c.args.size c.args.self.now c.load_space.new.self c.in_err-load_space.field-0.0 c.in_err-load_space.ensures)

pub returns-in_err-move_l1-clause-grows : goal.returns-in_err-move_l1-clause-grows
returns-in_err-move_l1-clause-grows g c =
    let bits = c.cluster_bits-cluster_bits.ensures.value in
    let same = bits ∙ sym c.in_ok-load_space.ensures.keeps.bits in
    rw (handed-on _ _ c.from_residual-in_err-move_l1.ensures.1)
    (grow-unmoved g.S.Storage c.args.size c.args.self.now c.load_space.new.self c.move_l1.new.self c.in_err-move_l1.field-0.0
    c.in_ok-load_space.ensures
    (subst (λ i. MovesL1 g.S.Storage i c.load_space.new.self (Err c.in_err-move_l1.field-0.0) c.move_l1.new.self)
    (c.l1_index-index.ensures ∙ ap (λ (b : ℕ). (c.args.size - 1) / 2 ^ b / (2 ^ b / 8)) same) c.in_err-move_l1.ensures.moves)
    c.is_none-begun.result c.move_l1.new.begun c.is_none-begun.ensures c.in_err-move_l1.ensures.begins)

pub returns-clause-grows : goal.returns-clause-grows
returns-clause-grows g c = grow-sized g.S.Storage c.args.size c.l1_index-index.result c.args.self.now c.load_space.new.self c.move_l1.new.self
    c.resize_to.new.self c.resize_to.result c.requires.fits c.in_ok-load_space.ensures c.in_ok-move_l1.ensures.moves c.resize_to.ensures

pub returns-clause-keeps : goal.returns-clause-keeps
returns-clause-keeps g c = mappings-kept g.S.Storage c.args.size c.l1_index-index.result c.args.self.now c.load_space.new.self c.move_l1.new.self
    c.resize_to.new.self c.resize_to.result c.requires.fits c.in_ok-load_space.ensures c.in_ok-move_l1.ensures.moves c.resize_to.ensures
