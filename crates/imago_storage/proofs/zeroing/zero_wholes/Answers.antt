-- The prepared buffers are written: the whole units first, then the parts around them.
use Rattle.std.proofs.Common.{rules, arith, ◌≡◌, ◌+◌, ◌-◌, ◌%◌, length}
use Rattle.std.proofs.lemmas.Result.{on_ok_weaker, IfErr-weaker}
use Rattle.imago_storage.specs.Edges.{ZeroesPrepared}
use Rattle.imago_storage.proofs.Composing.{kept_same}
use Rattle.imago_storage.proofs.Wholes.{behind-whole}
use Rattle.imago_storage.proofs.Laying.{laid-as, wholes-through, wholes-left}
use Rattle.imago_storage.proofs.zeroing.zero_wholes.Goals as goal

pub zero_around-requires-clause-before : goal.zero_around-requires-clause-before
zero_around-requires-clause-before g c =
    let end = behind-whole c.args.unit c.args.whole.0 c.args.whole.1 c.requires.alignment.positive c.requires.nonempty c.requires.whole in
    let holds = c.in_ok-prepared_zeroes.ensures.ok.holds c.args.whole.0 c.args.whole.1 c.requires.before c.requires.nonempty c.requires.ends_inside c.requires.whole.start end in
    let long : c.len.result ≡ length c.in_ok-prepared_zeroes.prepared_zeroes.first.items = search rules in
    omega (arith, holds.0, long)

pub zero_around-requires-clause-ends_inside : goal.zero_around-requires-clause-ends_inside
zero_around-requires-clause-ends_inside g c =
    let end = behind-whole c.args.unit c.args.whole.0 c.args.whole.1 c.requires.alignment.positive c.requires.nonempty c.requires.whole in
    let holds = c.in_ok-prepared_zeroes.ensures.ok.holds c.args.whole.0 c.args.whole.1 c.requires.before c.requires.nonempty c.requires.ends_inside c.requires.whole.start end in
    let long : c.len.result ≡ length c.in_ok-prepared_zeroes.prepared_zeroes.first.items = search rules in
    omega (arith, holds.1, long)

pub returns-clause-ok : goal.returns-clause-ok
returns-clause-ok g c =
    let s = g.S.Storage.state in
    let start = c.args.offset - c.args.offset % c.args.unit in
    let prepared_zeroes : ZeroesPrepared c.args.unit (s c.args.storage.now).bytes c.args.offset c.args.n c.deref.result.now c.deref-2.result.now c.deref-3.result.now c.in_ok-prepared_zeroes.prepared_zeroes.mid =
    laid-as _ _ _ _ _ _ _ _ _ _ _ (search rules) (search rules) (search rules) c.in_ok-prepared_zeroes.ensures.ok in
    let long : c.len.result ≡ length c.deref.result.now = search rules in
    let same = kept_same (s c.args.storage.now) (s c.prepare_zeroes.new.storage) c.in_ok-prepared_zeroes.ensures.unchanged_but_faults c.in_ok-prepared_zeroes.ensures.faults in
    on_ok_weaker c.zero_around.result
    (wholes-through c.args.unit c.requires.alignment.positive (s c.args.storage.now) (s c.prepare_zeroes.new.storage) (s c.zero_around.new.storage) same c.args.offset c.args.n c.deref.result.now c.deref-2.result.now c.deref-3.result.now c.in_ok-prepared_zeroes.prepared_zeroes.mid (omega (arith, c.requires.before, c.requires.nonempty, c.requires.ends_inside)) prepared_zeroes
    (start + c.len.result) (start + c.len.result + c.in_ok-prepared_zeroes.prepared_zeroes.mid) (omega (arith, long)) (omega arith))
    c.zero_around.ensures.ok

pub returns-clause-err : goal.returns-clause-err
returns-clause-err g c =
    let s = g.S.Storage.state in
    let start = c.args.offset - c.args.offset % c.args.unit in
    let prepared_zeroes : ZeroesPrepared c.args.unit (s c.args.storage.now).bytes c.args.offset c.args.n c.deref.result.now c.deref-2.result.now c.deref-3.result.now c.in_ok-prepared_zeroes.prepared_zeroes.mid =
    laid-as _ _ _ _ _ _ _ _ _ _ _ (search rules) (search rules) (search rules) c.in_ok-prepared_zeroes.ensures.ok in
    let long : c.len.result ≡ length c.deref.result.now = search rules in
    let same = kept_same (s c.args.storage.now) (s c.prepare_zeroes.new.storage) c.in_ok-prepared_zeroes.ensures.unchanged_but_faults c.in_ok-prepared_zeroes.ensures.faults in
    IfErr-weaker c.zero_around.result _ _
    (wholes-left c.args.unit c.requires.alignment.positive (s c.args.storage.now) (s c.prepare_zeroes.new.storage) (s c.zero_around.new.storage) same c.args.offset c.args.n c.deref.result.now c.deref-2.result.now c.deref-3.result.now c.in_ok-prepared_zeroes.prepared_zeroes.mid (omega (arith, c.requires.before, c.requires.nonempty, c.requires.ends_inside)) prepared_zeroes
    (start + c.len.result) (start + c.len.result + c.in_ok-prepared_zeroes.prepared_zeroes.mid) (omega (arith, long)) (omega arith) c.args.zeroing)
    c.zero_around.ensures.err
