use Rattle.std.proofs.Common.{◌≡◌, ◌≤◌, ◌<◌, ◌+◌, ◌-◌, ◌*◌, ◌/◌, ◌^◌, ℕ, suc, refl, arith, ap, sym, subst, ◌∙◌, Option, Result, Ok, Err}
use Rattle.std.specs.Prelude.{slice_index}
use Rattle.std.specs.Option.{is_some}
use Rattle.std.proofs.lemmas.Nat.{pow_pos}
use Rattle.std.proofs.Math.Nat.{pow-le-pow_right, div-mul-le_self, mul-le-mul_right}
use Rattle.imago_storage.specs.declared.fault.Fault.{Fault}
use Rattle.qcow2_types.specs.Header.{Header}
use Rattle.qcow2_types.specs.Counts.{counters_of_block}
use Rattle.qcow2_types.specs.Words.{block_offset}
use Rattle.qcow2_metadata.specs.Places.{IsAddressable}
use Rattle.qcow2_metadata.specs.Tables.{TableValue}
use Rattle.qcow2_alloc.specs.declared.allocation.searching.Run.{Run}
use Rattle.qcow2_alloc.specs.declared.file.ImageFile.{ImageFile}
use Rattle.qcow2_alloc.specs.Allocators.{table_of}
use Rattle.qcow2_alloc.specs.Growing.{lacking}
use Rattle.qcow2_alloc.specs.MakingRoom.{rank}
use Rattle.qcow2_alloc.specs.NewBlocks.{WritesLacking}
use Rattle.qcow2_alloc.proofs.Growth.FirstRooms.{lacking-before, lacking-there, lacking-here, index-near}
use Rattle.qcow2_alloc.proofs.Blocks.RefcountTableWords.{named-some, named-none}
use Rattle.qcow2_alloc.proofs.Blocks.NewBlockWrites.{lack, WritesBefore, before-none, before-over, before-then-at, before-few, before-all, room-for, all-before, run-fits}
use Rattle.qcow2_alloc.proofs.Faults.{handed-on}
use Rattle.qcow2_alloc.proofs.allocation.Allocator.write_new_blocks.Goals as goal
use Rattle.qcow2_alloc.proofs.allocation.Allocator.write_new_blocks.Goals.{then-is_none+in_ok-write_new_block, else-is_none}

some-of : (r k : ℕ) → 2 ^ r ≡ k → 0 < k
some-of r k is = let some = pow_pos r in omega (arith, some, is)

few-of : (r k : ℕ) → 2 ^ r ≡ k → r ≤ 24 → k ≤ 2 ^ 24
few-of r k is le = let few : 2 ^ r ≤ 2 ^ 24 = pow-le-pow_right (omega arith) le in omega (arith, few, is)

-- The first cluster of a block, by the block's index.
first-of : (i r k at : ℕ) → 2 ^ r ≡ k → at ≡ i * 2 ^ r + 0 → at ≡ i * k
first-of i r k at is place = let same : i * 2 ^ r ≡ i * k = ap (λ n. i * n) is in omega (arith, same, place)

pub loop-run-init : goal.loop-run-init
loop-run-init g c =
    let h = c.args.file.now.header in
    let t = table_of c.args.self.now in
    let run = c.args.run in
    let k = counters_of_block c.args.file.now.header.fields in
    let at : c.rt_index-index.result ≡ c.args.run.first / counters_of_block c.args.file.now.header.fields =
    c.rt_index-index.ensures ∙ ap (λ n. n / 2 ^ c.rb_bits-rb_bits.result) c.first-3.ensures ∙ ap (λ n. c.args.run.first / n) c.rb_bits-rb_bits.ensures.entries in
    let none : rank (lack h t run) c.rt_index-index.result ≡ 0 = ap (rank (lack h t run)) at ∙ lacking-before t k run.first run.len in
    let le : run.first / k * k ≤ run.first = div-mul-le_self run.first k in
    let same : c.rt_index-index.result * k ≡ run.first / k * k = ap (λ n. n * k) at in
    let some = some-of c.rb_bits-rb_bits.result k c.rb_bits-rb_bits.ensures.entries in
    (refl, before-none h t run c.rt_index-index.result (g.S.Storage.state c.args.file.now.image) none, sym none, omega (arith, at), omega (arith, le, same, some))

pub from_ref_indices-requires-clause-fits : goal.from_ref_indices-requires-clause-fits
from_ref_indices-requires-clause-fits g c =
    let k = counters_of_block c.args.file.now.header.fields in
    let same : c.loop-run.index * 2 ^ c.rb_bits-rb_bits.result ≡ c.loop-run.index * k = ap (λ n. c.loop-run.index * n) c.rb_bits-rb_bits.ensures.entries in
    let few = few-of c.rb_bits-rb_bits.result k c.rb_bits-rb_bits.ensures.entries c.rb_bits-rb_bits.ensures.bounds.1 in
    let near = c.loop-run.invariant.4 in
    let fits = run-fits c.args.file.now.header.fields.cluster_bits c.args.run.first c.args.run.len c.requires.reach in
    omega (arith, same, few, near, fits)

-- If a block is missing, the run has a cluster for it.
room-here : (h : Header) (t : TableValue) (run : Run) (r i written at end : ℕ) → 2 ^ r ≡ counters_of_block h.fields → lacking t (counters_of_block h.fields) run.first run.len ≤ run.len → written ≡ rank (lack h t run) i
    → run.first / counters_of_block h.fields ≤ i → at ≡ i * 2 ^ r + 0 → end ≡ run.first + run.len → at < end → block_offset (slice_index t.raw_entries i) ≡ 0 → (rank (lack h t run) (suc i) ≡ rank (lack h t run) i + 1) × (written + 1 ≤ run.len)
room-here h t run r i written at end entries room is from place stop lt none =
    let first = first-of i r (counters_of_block h.fields) at entries place in
    let inside : i * counters_of_block h.fields < run.first + run.len = omega (arith, first, stop, lt) in
    let more = lacking-here t (counters_of_block h.fields) run.first run.len i none from inside in
    (more, room-for h t run i written (some-of r (counters_of_block h.fields) entries) room is more inside)

pub overflow_add-place : goal.overflow_add-place
overflow_add-place g c =
    let t = table_of c.args.self.now in
    let none = named-none t c.loop-run.index (ap (λ (o : Option ℕ). is_some o) (sym c.block_cluster.ensures) ∙ c.if-is_none.ensures) in
    let room = (room-here c.args.file.now.header t c.args.run c.rb_bits-rb_bits.result c.loop-run.index c.loop-run.written c.from_ref_indices-in-loop-run.inside.0 c.end.inside.0 c.rb_bits-rb_bits.ensures.entries c.requires.room c.loop-run.invariant.2
    c.loop-run.invariant.3 (c.from_ref_indices-in-loop-run.view_is ∙ c.from_ref_indices.ensures) (c.end.view_is ∙ c.next.ensures) c.loop-run-test.true none).1 in
    let first : c.first-2.inside.0 ≡ c.args.run.first = c.first-2.view_is ∙ c.first.ensures in
    let fits = run-fits c.args.file.now.header.fields.cluster_bits c.args.run.first c.args.run.len c.requires.reach in
    omega (arith, room, first, fits)

pub write_new_block-requires-clause-reach : goal.write_new_block-requires-clause-reach
write_new_block-requires-clause-reach g c =
    let t = table_of c.args.self.now in
    let none = named-none t c.loop-run.index (ap (λ (o : Option ℕ). is_some o) (sym c.block_cluster.ensures) ∙ c.if-is_none.ensures) in
    let room = (room-here c.args.file.now.header t c.args.run c.rb_bits-rb_bits.result c.loop-run.index c.loop-run.written c.from_ref_indices-in-loop-run.inside.0 c.end.inside.0 c.rb_bits-rb_bits.ensures.entries c.requires.room c.loop-run.invariant.2
    c.loop-run.invariant.3 (c.from_ref_indices-in-loop-run.view_is ∙ c.from_ref_indices.ensures) (c.end.view_is ∙ c.next.ensures) c.loop-run-test.true none).1 in
    let first : c.first-2.inside.0 ≡ c.args.run.first = c.first-2.view_is ∙ c.first.ensures in
    let bits = c.args.file.now.header.fields.cluster_bits in
    let le : (c.first-2.inside.0 + c.loop-run.written) * 2 ^ bits ≤ (c.args.run.first + (c.args.run.len - 1)) * 2 ^ bits = mul-le-mul_right (2 ^ bits) (omega (arith, room, first)) in
    let reach = c.requires.reach in
    subst (λ (H : Header). IsAddressable H.fields.cluster_bits (c.first-2.inside.0 + c.loop-run.written)) (sym c.loop-run.invariant.0) (omega (arith, le, reach))

pub write_new_block-requires-clause-own : goal.write_new_block-requires-clause-own
write_new_block-requires-clause-own g c =
    let k = counters_of_block c.args.file.now.header.fields in
    let few = few-of c.rb_bits-rb_bits.result k c.rb_bits-rb_bits.ensures.entries c.rb_bits-rb_bits.ensures.bounds.1 in
    let near = c.loop-run.invariant.4 in
    let fits = run-fits c.args.file.now.header.fields.cluster_bits c.args.run.first c.args.run.len c.requires.reach in
    subst (λ (H : Header). (c.loop-run.index + 1) * counters_of_block H.fields < 2 ^ 64) (sym c.loop-run.invariant.0)
    (let next : (c.loop-run.index + 1) * k ≡ c.loop-run.index * k + k = omega arith in omega (arith, few, near, fits, next))

pub overflow_add-written : goal.overflow_add-written
overflow_add-written g c =
    let t = table_of c.args.self.now in
    let none = named-none t c.loop-run.index (ap (λ (o : Option ℕ). is_some o) (sym c.block_cluster.ensures) ∙ c.if-is_none.ensures) in
    let room = (room-here c.args.file.now.header t c.args.run c.rb_bits-rb_bits.result c.loop-run.index c.loop-run.written c.from_ref_indices-in-loop-run.inside.0 c.end.inside.0 c.rb_bits-rb_bits.ensures.entries c.requires.room c.loop-run.invariant.2
    c.loop-run.invariant.3 (c.from_ref_indices-in-loop-run.view_is ∙ c.from_ref_indices.ensures) (c.end.view_is ∙ c.next.ensures) c.loop-run-test.true none).1 in
    let fits = run-fits c.args.file.now.header.fields.cluster_bits c.args.run.first c.args.run.len c.requires.reach in
    omega (arith, room, fits)

pub returns-in_err-write_new_block-clause-writes : goal.returns-in_err-write_new_block-clause-writes
returns-in_err-write_new_block-clause-writes g c = rw (handed-on _ _ c.from_residual.ensures.1) (
    let h = c.args.file.now.header in
    let t = table_of c.args.self.now in
    let run = c.args.run in
    let k = counters_of_block c.args.file.now.header.fields in
    let none = named-none t c.loop-run.index (ap (λ (o : Option ℕ). is_some o) (sym c.block_cluster.ensures) ∙ c.if-is_none.ensures) in
    let room = room-here h t run c.rb_bits-rb_bits.result c.loop-run.index c.loop-run.written c.from_ref_indices-in-loop-run.inside.0 c.end.inside.0 c.rb_bits-rb_bits.ensures.entries c.requires.room c.loop-run.invariant.2
    c.loop-run.invariant.3 (c.from_ref_indices-in-loop-run.view_is ∙ c.from_ref_indices.ensures) (c.end.view_is ∙ c.next.ensures) c.loop-run-test.true none in
    let place : c.first-2.inside.0 + c.loop-run.written ≡ run.first + rank (lack h t run) c.loop-run.index = (let first : c.first-2.inside.0 ≡ c.args.run.first = c.first-2.view_is ∙ c.first.ensures in let is = c.loop-run.invariant.2 in omega (arith, first, is)) in
    let before = before-then-at h t run c.loop-run.index (g.S.Storage.state c.args.file.now.image) (g.S.Storage.state c.loop-run.file.image) c.write_new_block.result (g.S.Storage.state c.write_new_block.new.file.image)
    c.loop-run.file.header (c.first-2.inside.0 + c.loop-run.written) c.loop-run.invariant.0 place room.0 c.loop-run.invariant.1 c.write_new_block.ensures.writes in
    let few : rank (lack h t run) (c.loop-run.index + 1) ≤ run.len =
    (let up : rank (lack h t run) (c.loop-run.index + 1) ≡ rank (lack h t run) (suc c.loop-run.index) = ap (rank (lack h t run)) (omega arith) in
    let more = room.0 in let last = room.1 in let is = c.loop-run.invariant.2 in omega (arith, up, more, last, is)) in
    subst (λ (r : Result Unit Fault). WritesLacking h t run (g.S.Storage.state c.args.file.now.image) r (g.S.Storage.state c.write_new_block.new.file.image)) c.in_err-write_new_block.was
    (before-all h t run (c.loop-run.index + 1) (g.S.Storage.state c.args.file.now.image) c.write_new_block.result (g.S.Storage.state c.write_new_block.new.file.image) few
    (λ done i is. let no : Err c.in_err-write_new_block.field-0.0 ≡ Ok tt = sym c.in_err-write_new_block.was ∙ done in absurd (cc no)) before))

pub loop-run-smaller : goal.loop-run-smaller
loop-run-smaller g c =
    let k = counters_of_block c.args.file.now.header.fields in
    let near = index-near c.loop-run.index k (c.args.run.first + c.args.run.len) (some-of c.rb_bits-rb_bits.result k c.rb_bits-rb_bits.ensures.entries) c.loop-run.invariant.4 in
    omega (arith, near)

pub loop-run-preserved : goal.loop-run-preserved
loop-run-preserved g c =
    let h = c.args.file.now.header in
    let t = table_of c.args.self.now in
    let run = c.args.run in
    let k = counters_of_block c.args.file.now.header.fields in
    let i = c.loop-run.index in
    let up : rank (lack h t run) (c.loop-run.index + 1) ≡ rank (lack h t run) (suc c.loop-run.index) = ap (rank (lack h t run)) (omega arith) in
    let first = first-of c.loop-run.index c.rb_bits-rb_bits.result k c.from_ref_indices-in-loop-run.inside.0 c.rb_bits-rb_bits.ensures.entries (c.from_ref_indices-in-loop-run.view_is ∙ c.from_ref_indices.ensures) in
    let end : c.end.inside.0 ≡ c.args.run.first + c.args.run.len = c.end.view_is ∙ c.next.ensures in
    let test : c.from_ref_indices-in-loop-run.inside.0 < c.end.inside.0 = c.loop-run-test.true in
    let next : (c.loop-run.index + 1) * k ≡ c.loop-run.index * k + k = omega arith in
    let from = c.loop-run.invariant.3 in
    let is = c.loop-run.invariant.2 in
    elim c.if-is_none.branch [
      | then-is_none+in_ok-write_new_block w ↦
          let none = named-none t c.loop-run.index (ap (λ (o : Option ℕ). is_some o) (sym c.block_cluster.ensures) ∙ w.if-is_none.ensures) in
          let room = room-here h t run c.rb_bits-rb_bits.result c.loop-run.index c.loop-run.written c.from_ref_indices-in-loop-run.inside.0 c.end.inside.0 c.rb_bits-rb_bits.ensures.entries c.requires.room c.loop-run.invariant.2
          c.loop-run.invariant.3 (c.from_ref_indices-in-loop-run.view_is ∙ c.from_ref_indices.ensures) (c.end.view_is ∙ c.next.ensures) c.loop-run-test.true none in
          let place : c.first-2.inside.0 + c.loop-run.written ≡ run.first + rank (lack h t run) c.loop-run.index = (let begin : c.first-2.inside.0 ≡ c.args.run.first = c.first-2.view_is ∙ c.first.ensures in omega (arith, begin, is)) in
          let before = before-then-at h t run c.loop-run.index (g.S.Storage.state c.args.file.now.image) (g.S.Storage.state c.loop-run.file.image) w.write_new_block.result (g.S.Storage.state w.write_new_block.new.file.image)
          c.loop-run.file.header (c.first-2.inside.0 + c.loop-run.written) c.loop-run.invariant.0 place room.0 c.loop-run.invariant.1 w.write_new_block.ensures.writes in
          let more = room.0 in
          let now = w.written-is in (
            ap (λ (f : ImageFile _). f.header) w.file-is ∙ w.write_new_block.ensures.header ∙ c.loop-run.invariant.0,
            subst (λ (f : ImageFile _). WritesBefore h t run (c.loop-run.index + 1) (g.S.Storage.state c.args.file.now.image) (Ok tt) (g.S.Storage.state f.image)) (sym w.file-is)
                (subst (λ (r : Result Unit Fault). WritesBefore h t run (c.loop-run.index + 1) (g.S.Storage.state c.args.file.now.image) r (g.S.Storage.state w.write_new_block.new.file.image)) w.in_ok-write_new_block.was before),
            omega (arith, now, is, up, more),
            omega (arith, from),
            omega (arith, first, end, test, next),
          )
      | else-is_none w ↦
          let there = named-some t c.loop-run.index (ap (λ (o : Option ℕ). is_some o) (sym c.block_cluster.ensures) ∙ w.if-is_none.ensures) in
          let same = lacking-there t k run.first run.len c.loop-run.index there in
          let now = w.written-is in (
            ap (λ (f : ImageFile _). f.header) w.file-is ∙ c.loop-run.invariant.0,
            subst (λ (f : ImageFile _). WritesBefore h t run (c.loop-run.index + 1) (g.S.Storage.state c.args.file.now.image) (Ok tt) (g.S.Storage.state f.image)) (sym w.file-is)
                (before-over h t run c.loop-run.index (g.S.Storage.state c.args.file.now.image) (g.S.Storage.state c.loop-run.file.image) same c.loop-run.invariant.1),
            omega (arith, now, is, up, same),
            omega (arith, from),
            omega (arith, first, end, test, next),
          )
    ]

pub returns-clause-writes : goal.returns-clause-writes
returns-clause-writes g c =
    let h = c.args.file.now.header in
    let t = table_of c.args.self.now in
    let run = c.args.run in
    let k = counters_of_block c.args.file.now.header.fields in
    let first = first-of c.loop-run.index c.rb_bits-rb_bits.result k c.from_ref_indices-in-loop-run.inside.0 c.rb_bits-rb_bits.ensures.entries (c.from_ref_indices-in-loop-run.view_is ∙ c.from_ref_indices.ensures) in
    let end : c.end.inside.0 ≡ c.args.run.first + c.args.run.len = c.end.view_is ∙ c.next.ensures in
    let past = c.loop-run-test.false in
    let behind : run.first + run.len ≤ c.loop-run.index * k = omega (arith, first, end, past) in
    before-all h t run c.loop-run.index (g.S.Storage.state c.args.file.now.image) (Ok tt) (g.S.Storage.state c.loop-run.file.image)
    (before-few h t run c.loop-run.index (some-of c.rb_bits-rb_bits.result k c.rb_bits-rb_bits.ensures.entries) c.loop-run.invariant.4 c.requires.room)
    (λ done i is. all-before h t run c.loop-run.index i behind is) c.loop-run.invariant.1
