use Rattle.std.proofs.lemmas.Result.{IfErr-weaker, on_ok_weaker}
use Rattle.imago_formats.proofs.Growing.{grown_behind, not_grown_behind}
use Rattle.imago_formats.proofs.raw.grow_storage.Goals as goal

pub returns-clause-ok : goal.returns-clause-ok
returns-clause-ok g c = on_ok_weaker c.resize.result (grown_behind (g.S.Storage.state c.args.storage.now) (g.S.Storage.state c.cut_storage.new.storage) (g.S.Storage.state c.resize.new.self) c.args.from c.args.to c.requires c.in_ok-cut_storage.ensures.ok) c.resize.ensures.ok

pub returns-clause-err : goal.returns-clause-err
returns-clause-err g c = IfErr-weaker c.resize.result _ _ (not_grown_behind (g.S.Storage.state c.args.storage.now) (g.S.Storage.state c.cut_storage.new.storage) (g.S.Storage.state c.resize.new.self) c.args.from c.in_ok-cut_storage.ensures.ok) c.resize.ensures.err
