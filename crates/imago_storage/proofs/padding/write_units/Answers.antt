use Rattle.imago_storage.proofs.Parts.{parts_ok, parts_err, mid_err, head_err}
use Rattle.imago_storage.proofs.padding.write_units.Goals as goal

pub returns-in_err-write_whole-clause-err : goal.returns-in_err-write_whole-clause-err
returns-in_err-write_whole-clause-err g c =
    let s = g.S.Storage.state in
    head_err c.args.unit c.requires.positive (s c.args.storage.now) (s c.write_whole.new.storage) (s c.write_whole.new.storage) (s c.write_whole.new.storage) c.requires.unit c.args.start c.args.first.now c.args.mid.now c.args.last.now
    c.from_residual.result c.in_err-write_whole.field-0.0 c.from_residual.ensures.1 c.in_err-write_whole.ensures.err

pub returns-in_err-write_whole-2-clause-err : goal.returns-in_err-write_whole-2-clause-err
returns-in_err-write_whole-2-clause-err g c =
    let s = g.S.Storage.state in
    mid_err c.args.unit c.requires.positive (s c.args.storage.now) (s c.write_whole.new.storage) (s c.write_whole-2.new.storage) (s c.write_whole-2.new.storage) c.requires.unit c.args.start c.args.first.now c.args.mid.now c.args.last.now
    c.from_residual-in_err-write_whole-2.result c.in_err-write_whole-2.field-0.0 c.from_residual-in_err-write_whole-2.ensures.1 c.in_ok-write_whole.ensures.ok c.in_err-write_whole-2.ensures.err

pub returns-clause-ok : goal.returns-clause-ok
returns-clause-ok g c =
    let s = g.S.Storage.state in
    parts_ok c.args.unit c.requires.positive (s c.args.storage.now) (s c.write_whole.new.storage) (s c.write_whole-2.new.storage) (s c.write_whole-3.new.storage) c.requires.unit c.args.start c.args.first.now c.args.mid.now c.args.last.now
    c.write_whole-3.result c.in_ok-write_whole.ensures.ok c.in_ok-write_whole-2.ensures.ok c.write_whole-3.ensures.ok

pub returns-clause-err : goal.returns-clause-err
returns-clause-err g c =
    let s = g.S.Storage.state in
    parts_err c.args.unit c.requires.positive (s c.args.storage.now) (s c.write_whole.new.storage) (s c.write_whole-2.new.storage) (s c.write_whole-3.new.storage) c.requires.unit c.args.start c.args.first.now c.args.mid.now c.args.last.now
    c.write_whole-3.result c.in_ok-write_whole.ensures.ok c.in_ok-write_whole-2.ensures.ok c.write_whole-3.ensures.err
