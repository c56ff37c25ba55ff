use Rattle.std.proofs.Common.{◌≡◌, ◌≤◌, inl, inr, ◌+◌, ◌*◌, ◌%◌, ◌/◌, arith, ap, refl, ◌∙◌, take}
use Rattle.std.specs.Prelude.{slice_index}
use Rattle.std.specs.List.{sum_by}
use Rattle.std.proofs.lemmas.Nat.{shl_whole}
use Rattle.std.proofs.lemmas.List.Sums.{sum_by-take-le}
use Rattle.std.proofs.lemmas.Bool.{cases_lt}
use Rattle.qimg_core.specs.Names.{cluster_of, weight_in, weight_of}
use Rattle.qimg_core.proofs.Names.Entries.{sum-start, sum-more, sum-end, weight-few}
use Rattle.qimg_core.proofs.check.entries.weight_from.Goals as goal

pub loop-i-init : goal.loop-i-init
loop-i-init c = (sum-start c.args.list.now c.args.cluster c.args.cut.now c.requires.cut.bound c.requires.cut.before, λ k le lt. absurd (omega arith))

pub returns-then-list-i-clause-value : goal.returns-then-list-i-clause-value
returns-then-list-i-clause-value c =
    let here : c.args.cluster ≤ slice_index c.args.list.now c.loop-i.i / 2048 = c.requires.cut.next_not_after c.loop-i.i c.loop-i.auto.i c.loop-i-test.true in
    sum-end c.args.list.now c.args.cluster c.args.cut.now c.requires.cut.bound c.requires.cut.before c.loop-i.i c.loop-i.sum c.loop-i.auto.i
    (λ k le lt is. c.if-list-i.true (let up = c.requires.rising c.loop-i.i k 0 le lt in omega (arith, up, here, is)))
    c.loop-i.invariant.0

pub returns-then-list-i-clause-weight_bounded : goal.returns-then-list-i-clause-weight_bounded
returns-then-list-i-clause-weight_bounded c = omega (arith, returns-then-list-i-clause-value c, weight-few c.args.cluster c.args.list.now (omega arith))

pub overflow_add-sum : goal.overflow_add-sum
overflow_add-sum c =
    let more = sum-more c.args.list.now c.args.cluster c.args.cut.now c.requires.cut.bound c.requires.cut.before c.loop-i.i c.loop-i.sum _ c.loop-i-test.true refl c.if-list-i.false c.loop-i.invariant.0 in
    let most : sum_by (weight_in c.args.cluster) (take (c.loop-i.i + 1) c.args.list.now) ≤ weight_of c.args.list.now c.args.cluster = sum_by-take-le (weight_in c.args.cluster) c.args.list.now (c.loop-i.i + 1) in
    omega (arith, more, most, shl_whole (slice_index c.args.list.now c.loop-i.i % 256) 8 (8 * (slice_index c.args.list.now c.loop-i.i / 256 % 8)) 128 (omega arith) (omega arith), weight-few c.args.cluster c.args.list.now (omega arith))

pub loop-i-preserved : goal.loop-i-preserved
loop-i-preserved c = (
  ap (λ n. c.loop-i.sum + n) (shl_whole (slice_index c.args.list.now c.loop-i.i % 256) 8 (8 * (slice_index c.args.list.now c.loop-i.i / 256 % 8)) 128 (omega arith) (omega arith)) ∙ sum-more c.args.list.now c.args.cluster c.args.cut.now c.requires.cut.bound c.requires.cut.before c.loop-i.i c.loop-i.sum _ c.loop-i-test.true refl c.if-list-i.false c.loop-i.invariant.0,
  λ k le lt. elim (cases_lt k c.loop-i.i) [ inl less ↦ c.loop-i.invariant.1 k le less | inr ge ↦ ap (λ j. cluster_of (slice_index c.args.list.now j)) (let is : k ≡ c.loop-i.i = omega arith in is) ∙ c.if-list-i.false ],
)

pub returns-clause-value : goal.returns-clause-value
returns-clause-value c =
    sum-end c.args.list.now c.args.cluster c.args.cut.now c.requires.cut.bound c.requires.cut.before c.loop-i.i c.loop-i.sum c.loop-i.auto.i
    (λ k le lt is. absurd (omega (arith, c.loop-i-test.false, le, lt)))
    c.loop-i.invariant.0

pub returns-clause-weight_bounded : goal.returns-clause-weight_bounded
returns-clause-weight_bounded c = omega (arith, returns-clause-value c, weight-few c.args.cluster c.args.list.now (omega arith))
