use Rattle.std.proofs.Common.{◌≡◌, ◌≤◌, ◌<◌, ◌+◌, ◌*◌, ◌/◌, ◌^◌, ◌∙◌, ℕ, suc, arith, ap, sym, subst, length, Option}
use Rattle.std.specs.Option.{is_some}
use Rattle.std.proofs.lemmas.Nat.{pow_pos}
use Rattle.std.proofs.Math.Nat.{pow-le-pow_right, div-mul-le_self}
use Rattle.qcow2_types.specs.Counts.{counters_of_block}
use Rattle.qcow2_metadata.specs.Blocks.{Block}
use Rattle.qcow2_metadata.specs.Places.{place_of}
use Rattle.qcow2_metadata.specs.Tables.{TableValue, CanBeReferenced, with_raw_entry}
use Rattle.qcow2_alloc.specs.Allocators.{table_of}
use Rattle.qcow2_alloc.specs.MakingRoom.{rank}
use Rattle.qcow2_alloc.proofs.Growth.FirstRooms.{lacking-before, lacking-there, lacking-here, index-near}
use Rattle.qcow2_alloc.proofs.Blocks.RefcountTableWords.{named-some, named-none}
use Rattle.qcow2_alloc.proofs.Blocks.NewBlockNames.{lack, NamesBefore, named-none as names-none, named-over, named-then, named-all, word-inside, place-namable, lack-here, place-inside, lack-inside}
use Rattle.qcow2_alloc.proofs.Blocks.NewBlockWrites.{run-fits}
use Rattle.qcow2_alloc.proofs.allocation.Allocator.link_new_blocks.Goals as goal
use Rattle.qcow2_alloc.proofs.allocation.Allocator.link_new_blocks.Goals.{then-is_none, else-is_none}

some-of : (r k : ℕ) → 2 ^ r ≡ k → 0 < k
some-of r k is = let some = pow_pos r in omega (arith, some, is)

few-of : (r k : ℕ) → 2 ^ r ≡ k → r ≤ 24 → k ≤ 2 ^ 24
few-of r k is le = let few : 2 ^ r ≤ 2 ^ 24 = pow-le-pow_right (omega arith) le in omega (arith, few, is)

-- The first cluster of a block, by the block's index.
first-of : (i r k at : ℕ) → 2 ^ r ≡ k → at ≡ i * 2 ^ r + 0 → at ≡ i * k
first-of i r k at is place = let same : i * 2 ^ r ≡ i * k = ap (λ n. i * n) is in omega (arith, same, place)

pub loop-block-init : goal.loop-block-init
loop-block-init c =
    let h = c.args.header.now.fields in
    let t = table_of c.args.self.now in
    let run = c.args.run in
    let k = counters_of_block c.args.header.now.fields in
    let at : c.rt_index-index.result ≡ run.first / k = c.rt_index-index.ensures ∙ ap (λ n. n / 2 ^ c.rb_bits-rb_bits.result) c.first-2.ensures ∙ ap (λ n. run.first / n) c.rb_bits-rb_bits.ensures.entries in
    let none : rank (lack h t run) c.rt_index-index.result ≡ 0 = ap (rank (lack h t run)) at ∙ lacking-before t k run.first run.len in
    let le : run.first / k * k ≤ run.first = div-mul-le_self run.first k in
    let same : c.rt_index-index.result * k ≡ run.first / k * k = ap (λ n. n * k) at in
    let some = some-of c.rb_bits-rb_bits.result k c.rb_bits-rb_bits.ensures.entries in
    let place : c.place.inside.0 ≡ run.first = c.place.view_is ∙ c.first.ensures in (
      names-none h t run c.rt_index-index.result c.args.table.now none,
      omega (arith, place, none),
      omega (arith, at),
      omega (arith, le, same, some),
      ap (λ (b : Block). b.cluster_bits) c.in_ok-block.ensures.ok,
    )

pub from_ref_indices-requires-clause-fits : goal.from_ref_indices-requires-clause-fits
from_ref_indices-requires-clause-fits c =
    let k = counters_of_block c.args.header.now.fields in
    let same : c.loop-block.index * 2 ^ c.rb_bits-rb_bits.result ≡ c.loop-block.index * k = ap (λ n. c.loop-block.index * n) c.rb_bits-rb_bits.ensures.entries in
    let few = few-of c.rb_bits-rb_bits.result k c.rb_bits-rb_bits.ensures.entries c.rb_bits-rb_bits.ensures.bounds.1 in
    let near = c.loop-block.invariant.3 in
    let fits = run-fits c.args.header.now.fields.cluster_bits c.args.run.first c.args.run.len c.requires.reach in
    omega (arith, same, few, near, fits)

pub enter_refblock-requires-clause-bounds : goal.enter_refblock-requires-clause-bounds
enter_refblock-requires-clause-bounds c =
    let k = counters_of_block c.args.header.now.fields in
    let first = first-of c.loop-block.index c.rb_bits-rb_bits.result k c.from_ref_indices-in-loop-block.inside.0 c.rb_bits-rb_bits.ensures.entries (c.from_ref_indices-in-loop-block.view_is ∙ c.from_ref_indices.ensures) in
    let end : c.end.inside.0 ≡ c.args.run.first + c.args.run.len = c.end.view_is ∙ c.next.ensures in
    let test = c.loop-block-test.true in
    subst (λ n. c.loop-block.index < n) (sym c.loop-block.invariant.0.long)
    (word-inside c.loop-block.index k (length c.args.table.now.raw_entries) (c.args.run.first + c.args.run.len) (some-of c.rb_bits-rb_bits.result k c.rb_bits-rb_bits.ensures.entries) (omega (arith, first, end, test)) c.requires.inside)

pub enter_refblock-requires-clause-can_be_referenced : goal.enter_refblock-requires-clause-can_be_referenced
enter_refblock-requires-clause-can_be_referenced c =
    let h = c.args.header.now.fields in
    let t = table_of c.args.self.now in
    let run = c.args.run in
    let k = counters_of_block c.args.header.now.fields in
    let none = named-none t c.loop-block.index (ap (λ (o : Option ℕ). is_some o) (sym c.block_cluster.ensures) ∙ c.if-is_none.ensures) in
    let first = first-of c.loop-block.index c.rb_bits-rb_bits.result k c.from_ref_indices-in-loop-block.inside.0 c.rb_bits-rb_bits.ensures.entries (c.from_ref_indices-in-loop-block.view_is ∙ c.from_ref_indices.ensures) in
    let end : c.end.inside.0 ≡ run.first + run.len = c.end.view_is ∙ c.next.ensures in
    let test = c.loop-block-test.true in
    let is = lack-here h t run c.loop-block.index none c.loop-block.invariant.2 (omega (arith, first, end, test)) in
    let to = place-inside h t run c.loop-block.index (some-of c.rb_bits-rb_bits.result k c.rb_bits-rb_bits.ensures.entries) is c.requires.room in
    let at = c.loop-block.invariant.1 in
    let bits : c.loop-block.table.layout.cluster_bits ≡ h.cluster_bits = ap (λ l. l.cluster_bits) c.loop-block.invariant.0.layout ∙ c.requires.bits in
    subst (λ (b : ℕ). CanBeReferenced b c.set_cluster.new.self.cluster) (sym bits)
    (subst (λ (b : Block). CanBeReferenced h.cluster_bits b.cluster) (sym c.set_cluster.ensures)
    (place-namable h.cluster_bits run.first run.len c.loop-block.place c.requires.start_nonzero c.requires.reach (omega (arith, at)) (omega (arith, at, to))))

pub overflow_add-place : goal.overflow_add-place
overflow_add-place c =
    let h = c.args.header.now.fields in
    let t = table_of c.args.self.now in
    let run = c.args.run in
    let k = counters_of_block c.args.header.now.fields in
    let none = named-none t c.loop-block.index (ap (λ (o : Option ℕ). is_some o) (sym c.block_cluster.ensures) ∙ c.if-is_none.ensures) in
    let first = first-of c.loop-block.index c.rb_bits-rb_bits.result k c.from_ref_indices-in-loop-block.inside.0 c.rb_bits-rb_bits.ensures.entries (c.from_ref_indices-in-loop-block.view_is ∙ c.from_ref_indices.ensures) in
    let end : c.end.inside.0 ≡ run.first + run.len = c.end.view_is ∙ c.next.ensures in
    let test = c.loop-block-test.true in
    let is = lack-here h t run c.loop-block.index none c.loop-block.invariant.2 (omega (arith, first, end, test)) in
    let to = place-inside h t run c.loop-block.index (some-of c.rb_bits-rb_bits.result k c.rb_bits-rb_bits.ensures.entries) is c.requires.room in
    let at = c.loop-block.invariant.1 in
    let fits = run-fits c.args.header.now.fields.cluster_bits c.args.run.first c.args.run.len c.requires.reach in
    omega (arith, at, to, fits)

pub overflow_add-index : goal.overflow_add-index
overflow_add-index c =
    let k = counters_of_block c.args.header.now.fields in
    let near = index-near c.loop-block.index k (c.args.run.first + c.args.run.len) (some-of c.rb_bits-rb_bits.result k c.rb_bits-rb_bits.ensures.entries) c.loop-block.invariant.3 in
    let fits = run-fits c.args.header.now.fields.cluster_bits c.args.run.first c.args.run.len c.requires.reach in
    omega (arith, near, fits)

pub loop-block-smaller : goal.loop-block-smaller
loop-block-smaller c =
    let k = counters_of_block c.args.header.now.fields in
    let near = index-near c.loop-block.index k (c.args.run.first + c.args.run.len) (some-of c.rb_bits-rb_bits.result k c.rb_bits-rb_bits.ensures.entries) c.loop-block.invariant.3 in
    omega (arith, near)

pub loop-block-preserved : goal.loop-block-preserved
loop-block-preserved c =
    let h = c.args.header.now.fields in
    let t = table_of c.args.self.now in
    let run = c.args.run in
    let k = counters_of_block c.args.header.now.fields in
    let l = c.loop-block in
    let up : rank (lack h t run) (l.index + 1) ≡ rank (lack h t run) (suc l.index) = ap (rank (lack h t run)) (omega arith) in
    let first = first-of l.index c.rb_bits-rb_bits.result k c.from_ref_indices-in-loop-block.inside.0 c.rb_bits-rb_bits.ensures.entries (c.from_ref_indices-in-loop-block.view_is ∙ c.from_ref_indices.ensures) in
    let end : c.end.inside.0 ≡ run.first + run.len = c.end.view_is ∙ c.next.ensures in
    let test = c.loop-block-test.true in
    let next : (l.index + 1) * k ≡ l.index * k + k = omega arith in
    let inside : l.index * k < run.first + run.len = omega (arith, first, end, test) in
    let some = some-of c.rb_bits-rb_bits.result k c.rb_bits-rb_bits.ensures.entries in
    let from = l.invariant.2 in
    let at = l.invariant.1 in
    elim c.if-is_none.branch [
      | then-is_none w ↦
          let none = named-none t l.index (ap (λ (o : Option ℕ). is_some o) (sym c.block_cluster.ensures) ∙ w.if-is_none.ensures) in
          let is = lack-here h t run l.index none from inside in
          let to = place-inside h t run l.index some is c.requires.room in
          let more = lacking-here t k run.first run.len l.index none from inside in
          let raw_entries : l.index < length l.table.raw_entries = subst (λ n. l.index < n) (sym l.invariant.0.long) (word-inside l.index k (length c.args.table.now.raw_entries) (run.first + run.len) some inside c.requires.inside) in
          let namable = place-namable h.cluster_bits run.first run.len l.place c.requires.start_nonzero c.requires.reach (omega (arith, at)) (omega (arith, at, to)) in
          let bits : w.set_cluster.new.self.cluster_bits ≡ h.cluster_bits = ap (λ (b : Block). b.cluster_bits) w.set_cluster.ensures ∙ l.invariant.4 in
          let low : 9 ≤ h.cluster_bits = (let same : w.block.inside.cluster_bits ≡ h.cluster_bits = ap (λ (b : Block). b.cluster_bits) w.block.view_is ∙ bits in let le = w.block.invariant.low in omega (arith, same, le)) in
          let made : w.enter_refblock.new.self ≡ with_raw_entry l.table l.index (l.place * 2 ^ h.cluster_bits) =
          w.enter_refblock.ensures ∙ ap (λ (b : ℕ). with_raw_entry l.table l.index (place_of b w.set_cluster.new.self.cluster)) bits ∙ ap (λ (b : Block). with_raw_entry l.table l.index (place_of h.cluster_bits b.cluster)) w.set_cluster.ensures in
          let now = w.place-is in (
            named-then h t run l.index l.place c.args.table.now l.table c.if-is_none.table low is raw_entries at namable.placed (w.table-is ∙ made) l.invariant.0,
            omega (arith, now, at, up, more),
            omega (arith, from),
            omega (arith, inside, next),
            ap (λ (b : Block). b.cluster_bits) w.block-is ∙ bits,
          )
      | else-is_none w ↦
          let there = named-some t l.index (ap (λ (o : Option ℕ). is_some o) (sym c.block_cluster.ensures) ∙ w.if-is_none.ensures) in
          let same = lacking-there t k run.first run.len l.index there in
          let now = w.place-is in (
            subst (λ (x : TableValue). NamesBefore h t run (l.index + 1) c.args.table.now x) (sym w.table-is) (named-over h t run l.index c.args.table.now l.table same l.invariant.0),
            omega (arith, now, at, up, same),
            omega (arith, from),
            omega (arith, inside, next),
            ap (λ (b : Block). b.cluster_bits) w.block-is ∙ l.invariant.4,
          )
    ]

pub returns-clause-ok : goal.returns-clause-ok
returns-clause-ok c =
    let h = c.args.header.now.fields in
    let t = table_of c.args.self.now in
    let run = c.args.run in
    let k = counters_of_block c.args.header.now.fields in
    let first = first-of c.loop-block.index c.rb_bits-rb_bits.result k c.from_ref_indices-in-loop-block.inside.0 c.rb_bits-rb_bits.ensures.entries (c.from_ref_indices-in-loop-block.view_is ∙ c.from_ref_indices.ensures) in
    let end : c.end.inside.0 ≡ run.first + run.len = c.end.view_is ∙ c.next.ensures in
    let past = c.loop-block-test.false in
    named-all h t run c.loop-block.index c.args.table.now c.loop-block.table (λ i is. lack-inside h t run c.loop-block.index i (omega (arith, first, end, past)) is) c.loop-block.invariant.0

pub next-requires : goal.next-requires
next-requires c = let fits = run-fits c.args.header.now.fields.cluster_bits c.args.run.first c.args.run.len c.requires.reach in omega (arith, fits)
