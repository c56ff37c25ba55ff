use Rattle.std.proofs.Common.{ℕ, ◌∙◌, arith, sym, subst, Ok, Err}
use Rattle.qcow2_alloc.proofs.Faults.{handed-on}
use Rattle.qcow2_image.specs.Growing.{IsPossibleFor}
use Rattle.qcow2_image.proofs.CallStarts.{begins-err, begins-ok, begins-same, begins-then}
use Rattle.qcow2_image.proofs.Resizes.NewClusters.{past-next, range-ends, range-more, range-none, range-stopped}
use Rattle.qcow2_image.proofs.qcow2.Qcow2.zero_range.Goals as goal

pub loop-next-init : goal.loop-next-init
loop-next-init g c = record {
  from = omega (arith, c.first.view_is);
  inside = omega (arith, c.first.view_is);
  zeroes = range-none g.S.Storage c.args.first _ c.args.self.now (omega (arith, c.first.view_is));
  begins = begins-same g.S.Storage {T = Unit} c.args.begun.now c.args.self.now (Ok tt) tt;
}

pub zero_part-requires-clause-possible : goal.zero_part-requires-clause-possible
zero_part-requires-clause-possible g c =
    subst (λ (version : ℕ). IsPossibleFor c.args.how version) (sym c.loop-next.invariant.zeroes.sets.version) c.requires.possible

pub zero_part-requires-clause-past : goal.zero_part-requires-clause-past
zero_part-requires-clause-past g c =
    let l = c.loop-next in
    past-next g.S.Storage c.args.first l.next c.args.self.now l.self l.invariant.zeroes l.invariant.from c.requires.past

pub zero_part-requires-clause-free : goal.zero_part-requires-clause-free
zero_part-requires-clause-free g c = c.loop-next.invariant.zeroes.sets.unspent ∙ c.requires.free

pub returns-in_err-done-clause-zeroes : goal.returns-in_err-done-clause-zeroes
returns-in_err-done-clause-zeroes g c = rw (handed-on _ _ c.from_residual.ensures.1) (
    let l = c.loop-next in
    range-stopped g.S.Storage c.args.first l.next c.args.self.now l.self l.invariant.zeroes l.invariant.from c.requires.past
    c.row_from-count.result c.zero_part.new.self c.args.last (omega (arith, c.loop-next-test.true, c.last.view_is)) c.in_err-done.field-0.0
    c.in_err-done.ensures.zeroes)

pub returns-in_err-done-clause-begins : goal.returns-in_err-done-clause-begins
returns-in_err-done-clause-begins g c = rw (handed-on _ _ c.from_residual.ensures.1) (
    let l = c.loop-next in
    begins-then g.S.Storage {T = Unit} {U = Unit} c.args.begun.now l.begun c.zero_part.new.begun c.args.self.now l.self c.zero_part.new.self
    (Ok tt) (Err c.in_err-done.field-0.0) tt l.invariant.begins
    (begins-err g.S.Storage {T = ℕ} {U = Unit} l.begun c.zero_part.new.begun l.self c.zero_part.new.self c.in_err-done.field-0.0
    c.in_err-done.ensures.begins))

pub overflow_add-next : goal.overflow_add-next
overflow_add-next g c =
    let many = c.in_ok-done.ensures.zeroes.many in
    omega (arith, many.1, c.row_from-count.ensures.end, c.last.view_is)

pub loop-next-smaller : goal.loop-next-smaller
loop-next-smaller g c =
    let many = c.in_ok-done.ensures.zeroes.many in
    omega (arith, many.0, c.loop-next-test.true)

pub loop-next-preserved : goal.loop-next-preserved
loop-next-preserved g c =
    let l = c.loop-next in
    let new = c.zero_part.new in
    let many = c.in_ok-done.ensures.zeroes.many in
    record {
      from = omega (arith, l.invariant.from);
      inside = omega (arith, many.1, c.row_from-count.ensures.end, c.last.view_is, c.done.view_is);
      zeroes = range-more g.S.Storage c.args.first l.next c.args.self.now l.self l.invariant.zeroes l.invariant.from c.requires.past
          c.row_from-count.result new.self c.in_ok-done.done c.in_ok-done.ensures.zeroes _ (omega (arith, c.done.view_is));
      begins = begins-then g.S.Storage {T = Unit} {U = Unit} c.args.begun.now l.begun new.begun c.args.self.now l.self new.self
          (Ok tt) (Ok tt) tt l.invariant.begins
          (begins-ok g.S.Storage {T = ℕ} {U = Unit} l.begun new.begun l.self new.self c.in_ok-done.done tt c.in_ok-done.ensures.begins);
    }

pub returns-clause-zeroes : goal.returns-clause-zeroes
returns-clause-zeroes g c =
    let l = c.loop-next in
    range-ends g.S.Storage c.args.first l.next c.args.self.now l.self l.invariant.zeroes c.args.last
    (omega (arith, c.loop-next-test.false, c.last.view_is)) l.invariant.inside

pub returns-clause-begins : goal.returns-clause-begins
returns-clause-begins g c = c.loop-next.invariant.begins
