use Rattle.std.proofs.Common.{◌≡◌, ◌∙◌, List, ap, map, subst}
use Rattle.qimg_chain.specs.FileMeanings.{FileBytes, size_of}
use Rattle.host_disk.specs.Layers.{shown_by}
use Rattle.host_disk.specs.declared.layer.HostLayer.{HostLayer}
use Rattle.host_disk.proofs.Layering.{held_same, only_read-refl, only_read-trans, shown_held}
use Rattle.host_disk.proofs.sizing.size.Goals as goal

pub loop-init : goal.loop-init
loop-init g c = only_read-refl g.H.HostFile c.args.layers.now.items

pub loop-preserved : goal.loop-preserved
loop-preserved g c =
    only_read-trans g.H.HostFile c.args.layers.now.items c.loop.layers.items c.fetch_all.new.layers.items c.loop.invariant
    c.fetch_all.ensures.only_read

pub returns-in_err-fetch_all-clause-only_read : goal.returns-in_err-fetch_all-clause-only_read
returns-in_err-fetch_all-clause-only_read g c =
    only_read-trans g.H.HostFile c.args.layers.now.items c.loop.layers.items c.fetch_all.new.layers.items c.loop.invariant
    c.fetch_all.ensures.only_read

pub returns-in-Ok-clause-size : goal.returns-in-Ok-clause-size
returns-in-Ok-clause-size g c = λ truthful.
    let now = c.loop.layers.items in
    let shown = subst (λ (layers : List (HostLayer g.row.H.Denot g.H.HostFile)). c.in-Ok.size ≡ size_of (map (shown_by g.H.HostFile) layers))
    c.deref.ensures.value c.in-Ok.ensures in
    shown ∙ ap (λ (files : List FileBytes). size_of files)
    (shown_held g.H.HostFile now truthful ∙ held_same g.H.HostFile c.args.layers.now.items now c.loop.invariant)
