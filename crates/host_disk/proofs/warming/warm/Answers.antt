use Rattle.host_disk.proofs.Layering.{only_read-refl, only_read-trans}
use Rattle.host_disk.proofs.warming.warm.Goals as goal

pub loop-number-init : goal.loop-number-init
loop-number-init g c = only_read-refl g.H.HostFile c.args.layers.now.items

pub loop-number-preserved : goal.loop-number-preserved
loop-number-preserved g c =
    only_read-trans g.H.HostFile c.args.layers.now.items c.loop-number.layers.items c.warm_layer.new.layers.items c.loop-number.invariant
    c.warm_layer.ensures

pub returns-in_err-warm_layer : goal.returns-in_err-warm_layer
returns-in_err-warm_layer g c =
    only_read-trans g.H.HostFile c.args.layers.now.items c.loop-number.layers.items c.warm_layer.new.layers.items c.loop-number.invariant
    c.warm_layer.ensures
