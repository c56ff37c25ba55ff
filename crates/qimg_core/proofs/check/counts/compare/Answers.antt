-- The blocks are compared one after another, and then the clusters past the last block.
use Rattle.std.proofs.Common.{◌≡◌, ◌+◌, ◌*◌, ◌≤◌, refl, sym, ap, arith, subst, ◌∙◌, length}
use Rattle.std.specs.Prelude.{None}
use Rattle.std.proofs.lemmas.Result.{err_from_is_err_and}
use Rattle.qcow2_types.specs.Header.{refcount_table_entries}
use Rattle.qcow2_types.specs.Counts.{counters_of_block}
use Rattle.qcow2_types.proofs.Counting.Counters.{some-counters}
use Rattle.qcow2_metadata.specs.Loading.{file}
use Rattle.qimg_core.specs.CheckParts.{Tells, AreCompared}
use Rattle.qimg_core.proofs.Calls.{kept-both, kept-none, kept-file}
use Rattle.qimg_core.proofs.Counts.Comparison.{compared-start, rest-under, rest-counted, rest-leaks, under-since, uncounted-finding}
use Rattle.qimg_core.proofs.check.counts.compare.Goals as goal

pub loop-index-init : goal.loop-index-init
loop-index-init g c = (kept-none (g.S.Storage.state c.args.image.now), refl, compared-start (file (g.S.Storage.state c.args.image.now)) c.args.header.now.fields _ c.new-leaks.ensures.items)

pub compare_block-requires-clause-told : goal.compare_block-requires-clause-told
compare_block-requires-clause-told g c = subst (λ f. Tells f c.args.header.now.fields c.args.names.now) (sym (kept-file _ _ c.loop-index.invariant.0)) c.requires.told

pub compare_block-requires-clause-index : goal.compare_block-requires-clause-index
compare_block-requires-clause-index g c =
    let few : length c.args.blocks.now ≤ refcount_table_entries c.args.header.now.fields = c.requires.blocks.count_bounded in
    omega (arith, c.requires.limited.refcount_entries, few, c.loop-index-test.true)

pub compare_block-requires-clause-before : goal.compare_block-requires-clause-before
compare_block-requires-clause-before g c = subst (λ f. AreCompared f c.args.header.now.fields c.loop-index.leaks.items (c.loop-index.index * counters_of_block c.args.header.now.fields)) (sym (kept-file _ _ c.loop-index.invariant.0)) c.loop-index.invariant.2

pub first_counted-end-requires : goal.first_counted-end-requires
first_counted-end-requires g c =
    let few : length c.args.blocks.now ≤ refcount_table_entries c.args.header.now.fields = c.requires.blocks.count_bounded in
    omega (arith, c.requires.limited.refcount_entries, few)

pub loop-index-preserved : goal.loop-index-preserved
loop-index-preserved g c = (
  kept-both _ (g.S.Storage.state c.loop-index.image) _ c.loop-index.invariant.0 c.in_ok-compare_block.ensures.unchanged_but_faults,
  c.in_ok-compare_block.ensures.faults ∙ c.loop-index.invariant.1,
  subst (λ f. AreCompared f c.args.header.now.fields c.compare_block.new.leaks.items ((c.loop-index.index + 1) * counters_of_block c.args.header.now.fields)) (kept-file _ _ c.loop-index.invariant.0) c.in_ok-compare_block.ensures.ok,
)

pub returns-in_err-compare_block-clause-err : goal.returns-in_err-compare_block-clause-err
returns-in_err-compare_block-clause-err g c =
    let p = err_from_is_err_and c.from_residual.result c.from_residual.ensures.1 in
    rw (p.1, p.2) (under-since (g.S.Storage.state c.args.image.now) (g.S.Storage.state c.loop-index.image) (g.S.Storage.state c.compare_block.new.image) c.args.header.now.fields c.loop-index.invariant.0 c.loop-index.invariant.1 c.in_err-compare_block.field-0.0 c.in_err-compare_block.ensures.err)

pub returns-in_err-check_unreferenced-clause-err : goal.returns-in_err-check_unreferenced-clause-err
returns-in_err-check_unreferenced-clause-err g c =
    let p = err_from_is_err_and c.from_residual-in_err-check_unreferenced.result c.from_residual-in_err-check_unreferenced.ensures.1 in
    let all : c.loop-index.index ≡ length c.args.blocks.now = omega (arith, c.loop-index-test.false, c.loop-index.auto.index-end) in
    rw (p.1, p.2) (uncounted-finding (g.S.Storage.state c.args.image.now) (g.S.Storage.state c.loop-index.image) c.args.header.now.fields c.args.names.now c.first_counted-end.result None c.loop-index.invariant.1
    (rest-under (file (g.S.Storage.state c.args.image.now)) c.args.header.now.fields c.args.names.now c.requires.told c.loop-index.leaks.items c.args.blocks.now c.loop-index.index c.first_counted-end.result c.requires.blocks (some-counters c.args.header.now.fields c.requires.shaped) all (c.first_counted-end.ensures ∙ ap (λ n. n * counters_of_block c.args.header.now.fields) (sym all)) c.loop-index.invariant.2) c.in_err-check_unreferenced.field-0.0 c.in_err-check_unreferenced.ensures.err)

pub returns-clause-ok : goal.returns-clause-ok
returns-clause-ok g c =
    let all : c.loop-index.index ≡ length c.args.blocks.now = omega (arith, c.loop-index-test.false, c.loop-index.auto.index-end) in
    rest-leaks (file (g.S.Storage.state c.args.image.now)) c.args.header.now.fields c.args.names.now c.requires.told c.loop-index.leaks.items c.args.blocks.now c.loop-index.index c.first_counted-end.result c.requires.blocks (some-counters c.args.header.now.fields c.requires.shaped) all (c.first_counted-end.ensures ∙ ap (λ n. n * counters_of_block c.args.header.now.fields) (sym all)) c.loop-index.invariant.2

pub returns-clause-counted : goal.returns-clause-counted
returns-clause-counted g c =
    let all : c.loop-index.index ≡ length c.args.blocks.now = omega (arith, c.loop-index-test.false, c.loop-index.auto.index-end) in
    rest-counted (file (g.S.Storage.state c.args.image.now)) c.args.header.now.fields c.args.names.now c.requires.told c.loop-index.leaks.items c.args.blocks.now c.loop-index.index c.first_counted-end.result c.requires.blocks (some-counters c.args.header.now.fields c.requires.shaped) all (c.first_counted-end.ensures ∙ ap (λ n. n * counters_of_block c.args.header.now.fields) (sym all)) c.loop-index.invariant.2 c.in_ok-check_unreferenced.ensures.ok
