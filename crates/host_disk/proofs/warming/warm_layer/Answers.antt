use Rattle.host_disk.proofs.Layering.{only_read-refl, only_read-trans}
use Rattle.host_disk.proofs.warming.warm_layer.Goals as goal

pub returns-then-number-len : goal.returns-then-number-len
returns-then-number-len g c = only_read-refl g.H.HostFile c.args.layers.now.items

pub returns-in_err-warm_table : goal.returns-in_err-warm_table
returns-in_err-warm_table g c =
    only_read-trans g.H.HostFile c.args.layers.now.items c.read_range.new.layers.items c.warm_table.new.layers.items
    c.read_range.ensures c.warm_table.ensures

pub returns : goal.returns
returns g c =
    only_read-trans g.H.HostFile c.args.layers.now.items c.warm_table.new.layers.items c.warm_table-2.new.layers.items
    (only_read-trans g.H.HostFile c.args.layers.now.items c.read_range.new.layers.items c.warm_table.new.layers.items
    c.read_range.ensures c.warm_table.ensures)
    c.warm_table-2.ensures
