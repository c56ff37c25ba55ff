use Rattle.std.proofs.Common.{◌<◌, length, rules}
use Rattle.host_disk.proofs.Layering.{only_read-refl, shown_same, only_read-set}
use Rattle.host_disk.proofs.fetching.fetch_one.Goals as goal

pub returns-else-miss-len-clause-only_read : goal.returns-else-miss-len-clause-only_read
returns-else-miss-len-clause-only_read g c = only_read-refl g.H.HostFile c.args.layers.now.items

pub returns-in_err-fetch_layer-clause-only_read : goal.returns-in_err-fetch_layer-clause-only_read
returns-in_err-fetch_layer-clause-only_read g c =
    let below : c.args.miss.file < length c.args.layers.now.items = search rules in
    only_read-set g.H.HostFile c.args.layers.now.items c.args.miss.file c.index_mut.result.now c.fetch_layer.new.layer below
    c.index_mut.ensures.value c.fetch_layer.ensures.format c.fetch_layer.ensures.only_read

pub returns-in_ok-fetch_layer-clause-only_read : goal.returns-in_ok-fetch_layer-clause-only_read
returns-in_ok-fetch_layer-clause-only_read g c =
    let below : c.args.miss.file < length c.args.layers.now.items = search rules in
    only_read-set g.H.HostFile c.args.layers.now.items c.args.miss.file c.index_mut.result.now c.fetch_layer.new.layer below
    c.index_mut.ensures.value c.fetch_layer.ensures.format c.fetch_layer.ensures.only_read

pub returns-in_err-fetch_layer-clause-shown : goal.returns-in_err-fetch_layer-clause-shown
returns-in_err-fetch_layer-clause-shown g c =
    let below : c.args.miss.file < length c.args.layers.now.items = search rules in
    shown_same g.H.HostFile c.args.layers.now.items _
    (only_read-set g.H.HostFile c.args.layers.now.items c.args.miss.file c.index_mut.result.now c.fetch_layer.new.layer below
    c.index_mut.ensures.value c.fetch_layer.ensures.format c.fetch_layer.ensures.only_read)

pub returns-in_ok-fetch_layer-clause-shown : goal.returns-in_ok-fetch_layer-clause-shown
returns-in_ok-fetch_layer-clause-shown g c =
    let below : c.args.miss.file < length c.args.layers.now.items = search rules in
    shown_same g.H.HostFile c.args.layers.now.items _
    (only_read-set g.H.HostFile c.args.layers.now.items c.args.miss.file c.index_mut.result.now c.fetch_layer.new.layer below
    c.index_mut.ensures.value c.fetch_layer.ensures.format c.fetch_layer.ensures.only_read)
