use Rattle.std.proofs.Common.{◌<◌, length, rules}
use Rattle.host_disk.proofs.Layering.{only_read-refl, only_read-set, only_read-trans}
use Rattle.host_disk.proofs.warming.trim.Goals as goal

pub loop-number-init : goal.loop-number-init
loop-number-init g c = only_read-refl g.H.HostFile c.args.layers.now.items

pub loop-number-preserved : goal.loop-number-preserved
loop-number-preserved g c =
    let now = c.loop-number.layers.items in
    let below : c.loop-number.number < length now = search rules in
    only_read-trans g.H.HostFile c.args.layers.now.items now _ c.loop-number.invariant
    (only_read-set g.H.HostFile now c.loop-number.number c.index_mut.result.now c.trim_layer.new.layer below
    c.index_mut.ensures.value c.trim_layer.ensures.format c.trim_layer.ensures.only_read)
