-- Writes a unit, pieces of zeroes, and a unit.
use Rattle.std.proofs.lemmas.Result.{on_ok_weaker, IfErr-weaker}
use Rattle.imago_storage.proofs.Parts.{passed}
use Rattle.imago_storage.proofs.ZeroSteps.{edged-through, last-refused, zeroes-refused, first-refused}
use Rattle.imago_storage.proofs.zeroing.write_edged.Goals as goal

pub returns-in_err-write_whole-clause-err : goal.returns-in_err-write_whole-clause-err
returns-in_err-write_whole-clause-err g c =
    let s = g.S.Storage.state in
    passed c.from_residual.result _ c.in_err-write_whole.field-0.0 c.from_residual.ensures.1
    (first-refused c.args.unit c.requires.alignment.positive (s c.args.storage.now) (s c.write_whole.new.storage) (s c.write_whole.new.storage) (s c.write_whole.new.storage) c.requires.unit c.args.start c.args.first.now c.args.n c.args.last.now c.in_err-write_whole.field-0.0 c.in_err-write_whole.ensures.err)

pub returns-in_err-write_pieces-clause-err : goal.returns-in_err-write_pieces-clause-err
returns-in_err-write_pieces-clause-err g c =
    let s = g.S.Storage.state in
    passed c.from_residual-in_err-write_pieces.result _ c.in_err-write_pieces.field-0.0 c.from_residual-in_err-write_pieces.ensures.1
    (zeroes-refused c.args.unit c.requires.alignment.positive (s c.args.storage.now) (s c.write_whole.new.storage) (s c.write_pieces.new.storage) (s c.write_pieces.new.storage) c.requires.unit c.args.start c.args.first.now c.args.n c.args.last.now c.in_err-write_pieces.field-0.0 c.in_ok-write_whole.ensures.ok c.in_err-write_pieces.ensures.err)

pub returns-clause-ok : goal.returns-clause-ok
returns-clause-ok g c =
    let s = g.S.Storage.state in
    on_ok_weaker c.write_whole-2.result
    (edged-through c.args.unit c.requires.alignment.positive (s c.args.storage.now) (s c.write_whole.new.storage) (s c.write_pieces.new.storage) (s c.write_whole-2.new.storage) c.requires.unit c.args.start c.args.first.now c.args.n c.args.last.now c.in_ok-write_whole.ensures.ok c.in_ok-write_pieces.ensures.ok)
    c.write_whole-2.ensures.ok

pub returns-clause-err : goal.returns-clause-err
returns-clause-err g c =
    let s = g.S.Storage.state in
    IfErr-weaker c.write_whole-2.result _ _
    (λ fault. last-refused c.args.unit c.requires.alignment.positive (s c.args.storage.now) (s c.write_whole.new.storage) (s c.write_pieces.new.storage) (s c.write_whole-2.new.storage) c.requires.unit c.args.start c.args.first.now c.args.n c.args.last.now fault c.in_ok-write_whole.ensures.ok c.in_ok-write_pieces.ensures.ok)
    c.write_whole-2.ensures.err
