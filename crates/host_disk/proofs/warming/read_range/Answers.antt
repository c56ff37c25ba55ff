use Rattle.host_disk.proofs.Layering.{only_read-refl, only_read-trans}
use Rattle.host_disk.proofs.warming.read_range.Goals as goal

pub loop-init : goal.loop-init
loop-init g c = only_read-refl g.H.HostFile c.args.layers.now.items

pub loop-preserved : goal.loop-preserved
loop-preserved g c =
    only_read-trans g.H.HostFile c.args.layers.now.items c.loop.layers.items c.fetch_all.new.layers.items c.loop.invariant
    c.fetch_all.ensures.only_read

pub returns-in_err-fetch_all : goal.returns-in_err-fetch_all
returns-in_err-fetch_all g c =
    only_read-trans g.H.HostFile c.args.layers.now.items c.loop.layers.items c.fetch_all.new.layers.items c.loop.invariant
    c.fetch_all.ensures.only_read
