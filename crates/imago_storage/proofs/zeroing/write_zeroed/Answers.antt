-- The prepared buffers are written in rising order.
use Rattle.std.proofs.Common.{rules}
use Rattle.std.proofs.lemmas.Result.{on_ok_weaker, IfErr-weaker}
use Rattle.imago_storage.specs.Edges.{ZeroesPrepared}
use Rattle.imago_storage.proofs.Composing.{kept_same}
use Rattle.imago_storage.proofs.Laying.{laid-as, laid-through, laid-not}
use Rattle.imago_storage.proofs.zeroing.write_zeroed.Goals as goal

pub returns-clause-ok : goal.returns-clause-ok
returns-clause-ok g c =
    let s = g.S.Storage.state in
    let prepared_zeroes : ZeroesPrepared c.args.unit (s c.args.storage.now).bytes c.args.offset c.args.n c.deref.result.now c.deref-2.result.now c.deref-3.result.now c.in_ok-prepared_zeroes.prepared_zeroes.mid =
    laid-as _ _ _ _ _ _ _ _ _ _ _ (search rules) (search rules) (search rules) c.in_ok-prepared_zeroes.ensures.ok in
    let same = kept_same (s c.args.storage.now) (s c.prepare_zeroes.new.storage) c.in_ok-prepared_zeroes.ensures.unchanged_but_faults c.in_ok-prepared_zeroes.ensures.faults in
    on_ok_weaker c.write_edged.result
    (laid-through c.args.unit c.requires.alignment.positive (s c.args.storage.now) (s c.prepare_zeroes.new.storage) (s c.write_edged.new.storage) same c.args.offset c.args.n c.deref.result.now c.deref-2.result.now c.deref-3.result.now c.in_ok-prepared_zeroes.prepared_zeroes.mid c.requires.nonempty prepared_zeroes)
    c.write_edged.ensures.ok

pub returns-clause-err : goal.returns-clause-err
returns-clause-err g c =
    let s = g.S.Storage.state in
    let prepared_zeroes : ZeroesPrepared c.args.unit (s c.args.storage.now).bytes c.args.offset c.args.n c.deref.result.now c.deref-2.result.now c.deref-3.result.now c.in_ok-prepared_zeroes.prepared_zeroes.mid =
    laid-as _ _ _ _ _ _ _ _ _ _ _ (search rules) (search rules) (search rules) c.in_ok-prepared_zeroes.ensures.ok in
    let same = kept_same (s c.args.storage.now) (s c.prepare_zeroes.new.storage) c.in_ok-prepared_zeroes.ensures.unchanged_but_faults c.in_ok-prepared_zeroes.ensures.faults in
    IfErr-weaker c.write_edged.result _ _
    (laid-not c.args.unit c.requires.alignment.positive (s c.args.storage.now) (s c.prepare_zeroes.new.storage) (s c.write_edged.new.storage) same c.args.offset c.args.n c.deref.result.now c.deref-2.result.now c.deref-3.result.now c.in_ok-prepared_zeroes.prepared_zeroes.mid c.requires.nonempty prepared_zeroes)
    c.write_edged.ensures.err
