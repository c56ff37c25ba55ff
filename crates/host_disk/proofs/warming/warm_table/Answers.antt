use Rattle.host_disk.proofs.Layering.{only_read-refl, only_read-trans}
use Rattle.host_disk.proofs.warming.warm_table.Goals as goal

pub returns-in_err-entries : goal.returns-in_err-entries
returns-in_err-entries g c = only_read-refl g.H.HostFile c.args.layers.now.items

pub returns : goal.returns
returns g c =
    only_read-trans g.H.HostFile c.args.layers.now.items c.read_range.new.layers.items c.fetch_all.new.layers.items
    c.read_range.ensures c.fetch_all.ensures.only_read
