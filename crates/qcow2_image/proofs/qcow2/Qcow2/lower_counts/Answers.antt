use Rattle.std.proofs.Common.{◌∙◌}
use Rattle.qcow2_alloc.proofs.Faults.{handed-on}
use Rattle.qcow2_image.specs.HeldHomes.{none-held, none-unspent}
use Rattle.qcow2_image.specs.Unspent.{holding_in}
use Rattle.qcow2_image.proofs.LeakChanges.LoweredCounts.{lower-closed, lower-failed, lower-loaded, lower-unloaded}
use Rattle.qcow2_image.proofs.qcow2.Qcow2.lower_counts.Goals as goal

pub returns-then-self : goal.returns-then-self
returns-then-self g c = lower-failed g.S.Storage c.args.leaks.now c.args.self.now c.if-self.true

pub returns-then-not-self : goal.returns-then-not-self
returns-then-not-self g c = lower-closed g.S.Storage c.args.leaks.now c.args.self.now c.if-self.false c.if-not-self.true

pub returns-in_err-load_space : goal.returns-in_err-load_space
returns-in_err-load_space g c = rw (handed-on _ _ c.from_residual.ensures.1)
    (lower-unloaded g.S.Storage c.args.leaks.now c.args.self.now c.if-self.false c.if-not-self.false c.load_space.new.self
    c.in_err-load_space.field-0.0 c.in_err-load_space.ensures)

pub lower_pairs-requires : goal.lower_pairs-requires
lower_pairs-requires g c = record {
  free = c.in_ok-load_space.ensures.keeps.unspent
      ∙ none-unspent g.S.Storage c.args.self.now.unspent (none-held (holding_in g.S.Storage c.args.self.now.unspent) c.requires.free);
}

pub returns : goal.returns
returns g c = lower-loaded g.S.Storage c.args.leaks.now c.args.self.now c.if-self.false c.if-not-self.false c.load_space.new.self c.lower_pairs.new.self
    c.lower_pairs.result c.in_ok-load_space.ensures c.lower_pairs.ensures
