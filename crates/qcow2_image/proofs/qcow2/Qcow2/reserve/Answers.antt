use Rattle.std.proofs.Common.{arith}
use Rattle.qcow2_image.proofs.Preparations.Reservations.{reserve-done, reserve-tableless, reserve-unloaded, reserve-unplaced}
use Rattle.qcow2_alloc.proofs.Faults.{handed-on}
use Rattle.qcow2_image.proofs.qcow2.Qcow2.reserve.Goals as goal

pub returns-in_err-load_space : goal.returns-in_err-load_space
returns-in_err-load_space g c = rw (handed-on _ _ c.from_residual.ensures.1)
    (reserve-unloaded g.S.Storage c.args.guest c.args.kept c.args.count c.args.content.now c.args.self.now c.load_space.new.self
    c.in_err-load_space.field-0.0 c.in_err-load_space.ensures)

pub returns-in_err-table : goal.returns-in_err-table
returns-in_err-table g c = rw (handed-on _ _ c.from_residual-in_err-table.ensures.1)
    (reserve-tableless g.S.Storage c.args.guest c.args.kept c.args.count c.args.content.now c.args.self.now c.load_space.new.self
    c.ensure_table.new.self
    c.in_err-table.field-0.0 c.in_ok-load_space.ensures c.in_err-table.ensures.table
    c.is_none-begun.result c.ensure_table.new.begun c.is_none-begun.ensures c.in_err-table.ensures.begins)

pub returns-in_err-placed : goal.returns-in_err-placed
returns-in_err-placed g c = rw (handed-on _ _ c.from_residual-in_err-placed.ensures.1)
    (reserve-unplaced g.S.Storage c.args.guest c.in_ok-table.table c.args.kept c.args.count c.args.content.now c.args.self.now
    c.load_space.new.self
    c.ensure_table.new.self c.place_content.new.self c.in_err-placed.field-0.0 (let row = c.requires.row in omega (arith, row))
    c.in_ok-load_space.ensures c.in_ok-table.ensures.table (c.in_err-placed.ensures.places c.args.guest)
    c.is_none-begun.result c.ensure_table.new.begun c.place_content.new.begun c.is_none-begun.ensures c.in_ok-table.ensures.begins
    c.in_err-placed.ensures.begins)

pub returns : goal.returns
returns g c = reserve-done g.S.Storage c.args.guest c.in_ok-table.table c.in_ok-placed.placed c.args.kept
    c.args.count c.args.content.now c.args.self.now c.load_space.new.self c.ensure_table.new.self c.place_content.new.self c.requires.row
    c.in_ok-load_space.ensures c.in_ok-table.ensures.table
    (c.in_ok-placed.ensures.places c.args.guest)
