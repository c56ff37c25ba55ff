use Rattle.std.proofs.Common.{List, map, subst}
use Rattle.std.specs.Prelude.{IfOk}
use Rattle.host_disk.specs.Layers.{shown_by}
use Rattle.host_disk.specs.Lists.{OnFiles}
use Rattle.host_disk.specs.declared.layer.HostLayer.{HostLayer}
use Rattle.host_disk.proofs.Layering.{only_read-refl, only_read-trans}
use Rattle.host_disk.proofs.ListsDriven.{settled}
use Rattle.host_disk.proofs.driving.settle.Goals as goal

pub loop-init : goal.loop-init
loop-init g c = only_read-refl g.H.HostFile c.args.layers.now.items

pub loop-preserved : goal.loop-preserved
loop-preserved g c =
    only_read-trans g.H.HostFile c.args.layers.now.items c.loop.layers.items c.fetch_all.new.layers.items c.loop.invariant
    c.fetch_all.ensures.only_read

pub returns-then-is_empty-clause-only_read : goal.returns-then-is_empty-clause-only_read
returns-then-is_empty-clause-only_read g c = c.loop.invariant

pub returns-then-is_empty-clause-ok : goal.returns-then-is_empty-clause-ok
returns-then-is_empty-clause-ok g c =
    let host = g.H.HostFile in
    let told = subst (λ (l : List (HostLayer g.row.H.Denot host)). IfOk c.attempt-outcome.result (λ r. OnFiles (map (shown_by host) l) c.args.calls.now r.0.items r.1.items))
    c.deref.ensures.value c.attempt-outcome.ensures in
    settled host c.attempt-outcome.result (λ l r. OnFiles l c.args.calls.now r.0.items r.1.items) c.args.layers.now.items c.loop.layers.items
    c.loop.invariant told

pub returns-in_err-fetch_all-clause-only_read : goal.returns-in_err-fetch_all-clause-only_read
returns-in_err-fetch_all-clause-only_read g c =
    only_read-trans g.H.HostFile c.args.layers.now.items c.loop.layers.items c.fetch_all.new.layers.items c.loop.invariant
    c.fetch_all.ensures.only_read

pub returns-clause-only_read : goal.returns-clause-only_read
returns-clause-only_read g c = c.loop.invariant
