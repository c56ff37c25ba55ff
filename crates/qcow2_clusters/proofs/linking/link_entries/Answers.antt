use Rattle.std.proofs.Common.{◌+◌, ℕ, arith, refl, ap, sym, subst, ◌∙◌}
use Rattle.qcow2_metadata.specs.Places.{IsAddressable}
use Rattle.qcow2_clusters.specs.Linking.{LinksEntry, listing}
use Rattle.qcow2_clusters.proofs.RunNames.{near-each, words-layout, words-length, words-more, words-none}
use Rattle.qcow2_clusters.proofs.linking.link_entries.Goals as goal

pub loop-next-init : goal.loop-next-init
loop-next-init c = (words-none c.args.index c.args.cluster (listing c.args.table.now c.args.to_free.now), refl)

pub overflow_add-at : goal.overflow_add-at
overflow_add-at c = let few = c.requires.end_bounded in let less = c.loop-next-test.true in omega (arith, few, less)

pub link_entry-requires-clause-reach : goal.link_entry-requires-clause-reach
link_entry-requires-clause-reach c =
    let l = c.loop-next in
    let old = listing c.args.table.now c.args.to_free.now in
    let same = words-layout c.args.index c.args.cluster l.next old (listing l.table l.to_free) l.invariant.0 in
    subst (λ b. IsAddressable b (c.cluster.inside.0 + l.next)) (sym (ap (λ x. x.cluster_bits) same))
    (subst (λ (x : ℕ). IsAddressable c.args.table.now.layout.cluster_bits (x + l.next)) (sym c.cluster.view_is)
    (near-each c.args.table.now.layout.cluster_bits c.args.cluster c.args.count c.requires.reach l.next
    (let less = c.loop-next-test.true in let count = c.count.view_is in omega (arith, less, count))))

pub link_entry-requires-clause-inside : goal.link_entry-requires-clause-inside
link_entry-requires-clause-inside c =
    let l = c.loop-next in
    let old = listing c.args.table.now c.args.to_free.now in
    let same = words-length c.args.index c.args.cluster l.next old (listing l.table l.to_free) l.invariant.0 in
    let inside = c.requires.inside in
    let less = c.loop-next-test.true in
    omega (arith, same, inside, less)

pub loop-next-preserved : goal.loop-next-preserved
loop-next-preserved c =
    let l = c.loop-next in
    let old = listing c.args.table.now c.args.to_free.now in (
      words-more c.args.index c.args.cluster l.next old (listing l.table l.to_free) (listing c.link_entry.new.table c.link_entry.new.to_free)
          l.invariant.0 (subst (λ (x : ℕ). LinksEntry (c.args.index + l.next) (x + l.next) (listing l.table l.to_free)
          (listing c.link_entry.new.table c.link_entry.new.to_free)) c.cluster.view_is c.in_ok-link_entry.ensures.ok),
      c.in_ok-link_entry.ensures.held ∙ l.invariant.1,
    )
