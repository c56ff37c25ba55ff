use Rattle.std.proofs.lemmas.Result.{IfErr-weaker, on_ok_weaker}
use Rattle.imago_formats.proofs.Growing.{cut_by_resize, not_cut}
use Rattle.imago_formats.proofs.raw.cut_storage.Goals as goal

pub returns-clause-ok : goal.returns-clause-ok
returns-clause-ok g c = on_ok_weaker c.resize.result (cut_by_resize (g.S.Storage.state c.args.storage.now) (g.S.Storage.state c.resize.new.self) c.args.from) c.resize.ensures.ok

pub returns-clause-err : goal.returns-clause-err
returns-clause-err g c = IfErr-weaker c.resize.result _ _ (not_cut (g.S.Storage.state c.args.storage.now) (g.S.Storage.state c.resize.new.self) c.args.from) c.resize.ensures.err
