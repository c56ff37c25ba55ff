use Rattle.std.proofs.Common.{refl, subst}
use Rattle.std.proofs.lemmas.List.{take_all}
use Rattle.host_disk.specs.Layers.{AreStoragesOf}
use Rattle.host_disk.proofs.Layering.{stores-more}
use Rattle.host_disk.proofs.layer.storages.Goals as goal

pub loop-number-preserved : goal.loop-number-preserved
loop-number-preserved g c =
    let layer = c.index-layers-number.result in
    stores-more g.H.HostFile c.args.layers.now c.loop-number.number layer c.loop-number.files.items c.push.new.self.items layer.format
    c.new.result c.new-in-loop-number.result c.loop-number-test.true c.index-layers-number.is c.loop-number.invariant
    c.in_ok-push.ensures.items refl c.new.ensures c.new-in-loop-number.ensures.items

pub returns-clause-ok : goal.returns-clause-ok
returns-clause-ok g c =
    subst (λ l. AreStoragesOf g.H.HostFile l c.loop-number.files.items)
    (take_all c.loop-number.number c.args.layers.now c.loop-number-test.false) c.loop-number.invariant
