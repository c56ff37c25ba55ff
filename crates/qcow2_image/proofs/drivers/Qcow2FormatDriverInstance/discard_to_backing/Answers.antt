use Rattle.imago_access.specs.PartCalls.{discards_to_backing}
use Rattle.qcow2_image.specs.HeldHomes.{none-held, none-unspent}
use Rattle.qcow2_image.specs.Unspent.{holding_in}
use Rattle.qcow2_image.proofs.Clearings.RangeEffects.{clear-does, clear-early, clear-part, clear-refused}
use Rattle.qcow2_image.proofs.drivers.Qcow2FormatDriverInstance.discard_to_backing.Goals as goal

pub returns-clause-part : goal.returns-clause-part
returns-clause-part g c = clear-part g.row.S g.S.Storage g.S.Storage-dict g.S.Destruct-dict discards_to_backing c.args.offset c.args.length c.args.self.now
    c.clear.new.self c.clear.result c.clear.ensures

pub returns-clause-does : goal.returns-clause-does
returns-clause-does g c = clear-does g.row.S g.S.Storage g.S.Storage-dict g.S.Destruct-dict discards_to_backing c.args.offset c.args.length c.args.self.now
    c.clear.new.self (none-unspent g.S.Storage c.args.self.now.unspent (none-held (holding_in g.S.Storage c.args.self.now.unspent) c.requires.free))
    c.clear.result c.clear.ensures

pub returns-clause-early_outcome : goal.returns-clause-early_outcome
returns-clause-early_outcome g c = clear-early g.row.S g.S.Storage g.S.Storage-dict g.S.Destruct-dict discards_to_backing c.args.offset c.args.length
    c.args.self.now c.clear.new.self c.clear.result c.clear.ensures

pub returns-clause-refused : goal.returns-clause-refused
returns-clause-refused g c = clear-refused g.row.S g.S.Storage g.S.Storage-dict g.S.Destruct-dict discards_to_backing c.args.offset c.args.length
    c.args.self.now c.clear.new.self
    (none-unspent g.S.Storage c.args.self.now.unspent (none-held (holding_in g.S.Storage c.args.self.now.unspent) c.requires.free))
    c.clear.result c.clear.ensures
