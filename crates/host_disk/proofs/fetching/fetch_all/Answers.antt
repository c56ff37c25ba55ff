use Rattle.host_disk.proofs.Layering.{only_read-refl, only_read-trans, shown_same}
use Rattle.host_disk.proofs.fetching.fetch_all.Goals as goal

pub loop-miss-init : goal.loop-miss-init
loop-miss-init g c = only_read-refl g.H.HostFile c.args.layers.now.items

pub loop-miss-preserved : goal.loop-miss-preserved
loop-miss-preserved g c =
    only_read-trans g.H.HostFile c.args.layers.now.items c.loop-miss.layers.items c.fetch_one.new.layers.items
    c.loop-miss.invariant c.fetch_one.ensures.only_read

pub returns-in_err-fetch_one-clause-only_read : goal.returns-in_err-fetch_one-clause-only_read
returns-in_err-fetch_one-clause-only_read g c =
    only_read-trans g.H.HostFile c.args.layers.now.items c.loop-miss.layers.items c.fetch_one.new.layers.items
    c.loop-miss.invariant c.fetch_one.ensures.only_read

pub returns-in_err-fetch_one-clause-shown : goal.returns-in_err-fetch_one-clause-shown
returns-in_err-fetch_one-clause-shown g c =
    shown_same g.H.HostFile c.args.layers.now.items c.fetch_one.new.layers.items
    (only_read-trans g.H.HostFile c.args.layers.now.items c.loop-miss.layers.items c.fetch_one.new.layers.items
    c.loop-miss.invariant c.fetch_one.ensures.only_read)

pub returns-clause-shown : goal.returns-clause-shown
returns-clause-shown g c = shown_same g.H.HostFile c.args.layers.now.items c.loop-miss.layers.items c.loop-miss.invariant
