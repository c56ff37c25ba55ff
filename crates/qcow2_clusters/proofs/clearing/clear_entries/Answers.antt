use Rattle.std.proofs.Common.{◌+◌, ℕ, arith, refl, sym, subst, ◌∙◌, inl, inr}
use Rattle.qcow2_alloc.proofs.Faults.{handed-on}
use Rattle.qcow2_types.specs.Words.{Layout}
use Rattle.qcow2_clusters.specs.Clearing.{IsPossible}
use Rattle.qcow2_clusters.specs.Linking.{listing}
use Rattle.qcow2_clusters.proofs.ClearedRuns.{cleared-layout, cleared-length, cleared-more, cleared-none}
use Rattle.qcow2_clusters.proofs.clearing.clear_entries.Goals as goal

pub loop-next-init : goal.loop-next-init
loop-next-init c = (cleared-none c.args.clearing c.args.index (listing c.args.table.now c.args.to_free.now), refl)

pub overflow_add-at : goal.overflow_add-at
overflow_add-at c = let few = c.requires.end_bounded in let less = c.loop-next-test.true in omega (arith, few, less)

pub clear_entry-requires : goal.clear_entry-requires
clear_entry-requires c =
    let l = c.loop-next in
    let old = listing c.args.table.now c.args.to_free.now in
    let same = cleared-length c.args.clearing c.args.index l.next old (listing l.table l.to_free) l.invariant.0 in
    let inside = c.requires.inside in
    let less = c.loop-next-test.true in
    record { inside = omega (arith, same, inside, less) }

pub returns-in_err-clear_entry-clause-err : goal.returns-in_err-clear_entry-clause-err
returns-in_err-clear_entry-clause-err c =
    let l = c.loop-next in
    let old = listing c.args.table.now c.args.to_free.now in
    let same = cleared-layout c.args.clearing c.args.index l.next old (listing l.table l.to_free) l.invariant.0 in
    rw (handed-on _ _ c.from_residual.ensures.1) (elim c.in_err-clear_entry.ensures.err [
      | inl memory ↦ inl memory
      | inr limit ↦ inr (λ possible. limit.1 (subst (λ (x : Layout). IsPossible c.args.clearing x.version) (sym same) possible))
    ])

pub loop-next-preserved : goal.loop-next-preserved
loop-next-preserved c =
    let l = c.loop-next in
    let old = listing c.args.table.now c.args.to_free.now in (
      cleared-more c.args.clearing c.args.index l.next old (listing l.table l.to_free) (listing c.clear_entry.new.table c.clear_entry.new.to_free)
          l.invariant.0 c.in_ok-clear_entry.ensures.ok,
      c.in_ok-clear_entry.ensures.held ∙ l.invariant.1,
    )
