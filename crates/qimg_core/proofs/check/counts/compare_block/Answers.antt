-- Each refcount is compared. Without a block, the references are searched instead.
use Rattle.std.proofs.Common.{◌≡◌, ◌+◌, ◌-◌, ◌*◌, ◌^◌, ◌≤◌, ℕ, [], ◌∷◌, ◌++◌, refl, arith, ap, sym, subst, ◌∙◌, Vec, Global}
use Rattle.std.specs.Prelude.{Some}
use Rattle.std.proofs.lemmas.Nat.{mul-le}
use Rattle.std.proofs.lemmas.Result.{on_ok_weaker, MatchResult-weaker}
use Rattle.qcow2_types.specs.Counts.{counters_of_block}
use Rattle.qimg_core.specs.Names.{times_at}
use Rattle.qcow2_metadata.specs.Loading.{file}
use Rattle.qimg_core.specs.CheckParts.{HoldsCounters, AreCompared}
use Rattle.qimg_core.specs.Searches.{IsAlong}
use Rattle.qimg_core.proofs.Counts.Comparison.{gap-under, gap-compared, counter-under, counter-leak, counter-equal, uncounted-finding}
use Rattle.qimg_core.proofs.check.counts.compare_block.Goals as goal
use Rattle.qimg_core.proofs.check.counts.compare_block.Goals.{then-references-count+in_ok-push, else-references-count}

pub loop-place-init : goal.loop-place-init
loop-place-init g c = (subst (AreCompared (file (g.S.Storage.state c.args.image.now)) c.args.header.now.fields c.args.leaks.now.items) (let none : c.args.index * counters_of_block c.args.header.now.fields ≡ c.args.index * counters_of_block c.args.header.now.fields + 0 = omega arith in none) c.requires.before, subst (λ low. IsAlong c.args.names.now.others low c.way_from-way.result) (let none : c.first_counted-low.result ≡ c.first_counted-low.result + 0 = omega arith in none) c.way_from-way.ensures)

pub get-count-requires : goal.get-count-requires
get-count-requires g c =
    let holds = subst (HoldsCounters (file (g.S.Storage.state c.args.image.now)) c.args.header.now.fields c.args.index) c.in-Some.is c.in_ok-block.ensures.ok in
    holds.whole c.loop-place.place (omega (arith, c.loop-place-test.true, c.rb_entries-place-end.ensures.value))

pub overflow_add-cluster : goal.overflow_add-cluster
overflow_add-cluster g c =
    let most : c.args.index * counters_of_block c.args.header.now.fields ≤ 2 ^ 20 * 2 ^ 24 = mul-le c.args.index (counters_of_block c.args.header.now.fields) (2 ^ 20) (2 ^ 24) (omega (arith, c.requires.index)) (omega (arith, c.rb_entries-place-end.ensures.value, c.rb_entries-place-end.ensures.bounds.1)) in
    omega (arith, most, c.first_counted-low.ensures, c.loop-place-test.true, c.rb_entries-place-end.ensures.bounds.1)

pub returns-then-count-references-clause-err : goal.returns-then-count-references-clause-err
returns-then-count-references-clause-err g c = (counter-under (file (g.S.Storage.state c.args.image.now)) c.args.header.now.fields c.args.names.now c.requires.told c.loop-place.leaks.items c.args.index c.loop-place.place _ c.get-count.result (times_at c.args.names.now (c.first_counted-low.result + c.loop-place.place)) c.in-Some.block (ap (λ n. n + c.loop-place.place) c.first_counted-low.ensures) (subst (HoldsCounters (file (g.S.Storage.state c.args.image.now)) c.args.header.now.fields c.args.index) c.in-Some.is c.in_ok-block.ensures.ok) (omega (arith, c.loop-place-test.true, c.rb_entries-place-end.ensures.value)) c.get-count.ensures refl c.loop-place.invariant.0 (omega (arith, c.references_along-references.ensures.value, c.if-count-references.true)), c.in_ok-block.ensures.faults)

pub loop-place-preserved : goal.loop-place-preserved
loop-place-preserved g c = (
  elim c.if-references-count.branch [
    | then-references-count+in_ok-push w ↦ counter-leak (file (g.S.Storage.state c.args.image.now)) c.args.header.now.fields c.args.names.now c.requires.told c.loop-place.leaks.items c.args.index c.loop-place.place _ c.get-count.result (times_at c.args.names.now (c.first_counted-low.result + c.loop-place.place)) c.in-Some.block (ap (λ n. n + c.loop-place.place) c.first_counted-low.ensures) (subst (HoldsCounters (file (g.S.Storage.state c.args.image.now)) c.args.header.now.fields c.args.index) c.in-Some.is c.in_ok-block.ensures.ok) (omega (arith, c.loop-place-test.true, c.rb_entries-place-end.ensures.value)) c.get-count.ensures refl c.loop-place.invariant.0 c.if-references-count.leaks.items (omega (arith, c.references_along-references.ensures.value, w.if-references-count.true)) (ap (λ (v : Vec (ℕ × ℕ) Global). v.items) w.leaks-is ∙ w.in_ok-push.ensures.items ∙ ap (λ r. c.loop-place.leaks.items ++ (c.first_counted-low.result + c.loop-place.place, c.get-count.result - r) ∷ []) c.references_along-references.ensures.value)
    | else-references-count w ↦ subst (λ l. AreCompared (file (g.S.Storage.state c.args.image.now)) c.args.header.now.fields l (c.args.index * counters_of_block c.args.header.now.fields + (c.loop-place.place + 1))) (ap (λ (v : Vec (ℕ × ℕ) Global). v.items) (sym w.leaks-is)) (counter-equal (file (g.S.Storage.state c.args.image.now)) c.args.header.now.fields c.args.names.now c.requires.told c.loop-place.leaks.items c.args.index c.loop-place.place _ c.get-count.result (times_at c.args.names.now (c.first_counted-low.result + c.loop-place.place)) c.in-Some.block (ap (λ n. n + c.loop-place.place) c.first_counted-low.ensures) (subst (HoldsCounters (file (g.S.Storage.state c.args.image.now)) c.args.header.now.fields c.args.index) c.in-Some.is c.in_ok-block.ensures.ok) (omega (arith, c.loop-place-test.true, c.rb_entries-place-end.ensures.value)) c.get-count.ensures refl c.loop-place.invariant.0 (omega (arith, c.references_along-references.ensures.value, c.if-count-references.false)) (omega (arith, c.references_along-references.ensures.value, w.if-references-count.false)))
  ],
  subst (λ low. IsAlong c.args.names.now.others low c.references_along-references.new.way) (let one : c.first_counted-low.result + c.loop-place.place + 1 ≡ c.first_counted-low.result + (c.loop-place.place + 1) = omega arith in one) c.references_along-references.ensures.along,
)

pub returns-clause-ok : goal.returns-clause-ok
returns-clause-ok g c = subst (AreCompared (file (g.S.Storage.state c.args.image.now)) c.args.header.now.fields c.loop-place.leaks.items) (let all : c.args.index * counters_of_block c.args.header.now.fields + c.loop-place.place ≡ (c.args.index + 1) * counters_of_block c.args.header.now.fields = omega (arith, c.loop-place-test.false, c.loop-place.auto.place-end, c.rb_entries-place-end.ensures.value) in all) c.loop-place.invariant.0

pub returns-in_default-clause-ok : goal.returns-in_default-clause-ok
returns-in_default-clause-ok g c = on_ok_weaker c.check_unreferenced.result (gap-compared (file (g.S.Storage.state c.args.image.now)) c.args.header.now.fields c.args.names.now c.requires.told c.args.leaks.now.items c.args.index c.first_counted-low.result c.first_counted.result c.first_counted-low.ensures c.first_counted.ensures (subst (HoldsCounters (file (g.S.Storage.state c.args.image.now)) c.args.header.now.fields c.args.index) c.in_default.is c.in_ok-block.ensures.ok) c.requires.before) c.check_unreferenced.ensures.ok

pub returns-in_default-clause-err : goal.returns-in_default-clause-err
returns-in_default-clause-err g c =
    MatchResult-weaker c.check_unreferenced.result c.check_unreferenced.ensures.err (λ x y. y)
    (uncounted-finding (g.S.Storage.state c.args.image.now) (g.S.Storage.state c.block_of.new.image) c.args.header.now.fields c.args.names.now c.first_counted-low.result (Some c.first_counted.result) c.in_ok-block.ensures.faults
    (gap-under (file (g.S.Storage.state c.args.image.now)) c.args.header.now.fields c.args.names.now c.requires.told c.args.leaks.now.items c.args.index c.first_counted-low.result c.first_counted.result c.first_counted-low.ensures c.first_counted.ensures (subst (HoldsCounters (file (g.S.Storage.state c.args.image.now)) c.args.header.now.fields c.args.index) c.in_default.is c.in_ok-block.ensures.ok) c.requires.before))
