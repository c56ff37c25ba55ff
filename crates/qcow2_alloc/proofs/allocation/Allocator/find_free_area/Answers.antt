use Rattle.std.proofs.Common.{◌≡◌, ◌≤◌, ◌+◌, ◌*◌, ◌^◌, ℕ, arith, ap, sym, ◌∙◌, length}
use Rattle.std.proofs.Math.Nat.{mul-le-mul, pow-le-pow_right}
use Rattle.qcow2_types.specs.Header.{Header}
use Rattle.qcow2_types.specs.Counts.{counters_of_block}
use Rattle.qcow2_metadata.specs.Tables.{TableValue}
use Rattle.qcow2_alloc.specs.declared.allocation.searching.Run.{Run}
use Rattle.qcow2_alloc.specs.Allocators.{table_of}
use Rattle.qcow2_alloc.specs.Growing.{lacking, needed_for}
use Rattle.qcow2_alloc.proofs.Growth.FirstRooms.{needed-few}
use Rattle.qcow2_alloc.proofs.Growth.RoomSearchProgress.{rooms-first, rooms-found, rooms-not-grown, rooms-then, rooms-fewer}
use Rattle.qcow2_alloc.proofs.Faults.{handed-on}
use Rattle.qcow2_alloc.proofs.allocation.Allocator.find_free_area.Goals as goal

wide : (bits k : ℕ) → 2 ^ bits ≡ k → 6 ≤ bits → 64 ≤ k
wide bits k size least = let le : 2 ^ 6 ≤ 2 ^ bits = pow-le-pow_right (omega arith) least in omega (arith, le, size)

near : (len bits k : ℕ) → 2 ^ bits ≡ k → bits ≤ 24 → len ≤ 2 ^ 20 → len * k ≤ 2 ^ 20 * 2 ^ 24
near len bits k size most few = let le : 2 ^ bits ≤ 2 ^ 24 = pow-le-pow_right (omega arith) most in let small : k ≤ 2 ^ 24 = omega (arith, le, size) in mul-le-mul few small

as-needed : (table : TableValue) (bits k n m : ℕ) (run : Run) → 2 ^ bits ≡ k → m ≡ lacking table (2 ^ bits) run.first run.len → n + m ≡ needed_for table k n run
as-needed table bits k n m run size is = ap (λ x. n + x) (is ∙ ap (λ x. lacking table x run.first run.len) size)

pub overflow_add-needed : goal.overflow_add-needed
overflow_add-needed g c =
    let table = table_of c.args.self.now in
    let k = counters_of_block c.args.file.now.header.fields in
    let bits = c.rb_bits-rb_bits.ensures in
    let run : Run = record { first = c.in_ok-first.first; len = c.args.clusters } in
    let is = as-needed table c.rb_bits-rb_bits.result k c.args.clusters c.lacking_for.result run bits.entries c.lacking_for.ensures in
    let few = needed-few table k (wide c.rb_bits-rb_bits.result k bits.entries bits.bounds.0) c.args.clusters run (omega arith) in
    omega (arith, is, few, c.requires.count_bounded)

pub loop-needed-init : goal.loop-needed-init
loop-needed-init g c =
    let table = table_of c.args.self.now in
    let k = counters_of_block c.args.file.now.header.fields in
    let run : Run = record { first = c.in_ok-first.first; len = c.args.clusters } in (
      rooms-first g.S.Storage.state table c.args.from c.args.clusters c.args.caches.now c.args.file.now c.requires.start_in_space c.in_ok-first.first c.find_run.new.caches c.find_run.new.file c.in_ok-first.ensures,
      as-needed table c.rb_bits-rb_bits.result k c.args.clusters c.lacking_for.result run c.rb_bits-rb_bits.ensures.entries c.lacking_for.ensures,
    )

pub grow_free_area-requires-clause-needed : goal.grow_free_area-requires-clause-needed
grow_free_area-requires-clause-needed g c =
    let l = c.loop-needed in
    l.invariant.1 ∙ ap (λ (h : Header). needed_for (table_of c.args.self.now) (counters_of_block h.fields) c.args.clusters l.room) (sym l.invariant.0.looked.header)

pub returns-in_err-room-clause-looks : goal.returns-in_err-room-clause-looks
returns-in_err-room-clause-looks g c = rw (handed-on _ _ c.from_residual-in_err-room.ensures.1) (
    let state = g.S.Storage.state in
    let table = table_of c.args.self.now in
    let l = c.loop-needed in
    rooms-not-grown state table c.args.from c.args.clusters c.args.caches.now c.args.file.now l.room l.caches l.file l.invariant.0 c.in_err-room.field-0.0 c.grow_free_area.new.caches c.grow_free_area.new.file c.in_err-room.ensures)

pub lacking_for-requires-in-loop-needed-clause-fits : goal.lacking_for-requires-in-loop-needed-clause-fits
lacking_for-requires-in-loop-needed-clause-fits g c =
    let table = table_of c.args.self.now in
    let k = counters_of_block c.args.file.now.header.fields in
    let bits = c.rb_bits-rb_bits.ensures in
    let l = c.loop-needed in
    let now = c.in_ok-room.room in
    let searched = rooms-then g.S.Storage.state table c.args.from c.args.clusters c.args.caches.now c.args.file.now l.room l.caches l.file l.invariant.0 (wide c.rb_bits-rb_bits.result k bits.entries bits.bounds.0) now c.grow_free_area.new.caches c.grow_free_area.new.file
    (omega (arith, c.len.ensures, c.loop-needed-test.true, l.invariant.1)) c.in_ok-room.ensures in
    let far = near (length table.raw_entries) c.rb_bits-rb_bits.result k bits.entries bits.bounds.1 c.args.self.now.table_bounded in
    omega (arith, searched.within, searched.few, c.requires.count_bounded, far)

pub overflow_add-needed-in-loop-needed : goal.overflow_add-needed-in-loop-needed
overflow_add-needed-in-loop-needed g c =
    let table = table_of c.args.self.now in
    let k = counters_of_block c.args.file.now.header.fields in
    let bits = c.rb_bits-rb_bits.ensures in
    let l = c.loop-needed in
    let now = c.in_ok-room.room in
    let searched = rooms-then g.S.Storage.state table c.args.from c.args.clusters c.args.caches.now c.args.file.now l.room l.caches l.file l.invariant.0 (wide c.rb_bits-rb_bits.result k bits.entries bits.bounds.0) now c.grow_free_area.new.caches c.grow_free_area.new.file
    (omega (arith, c.len.ensures, c.loop-needed-test.true, l.invariant.1)) c.in_ok-room.ensures in
    let is = as-needed table c.rb_bits-rb_bits.result k c.args.clusters c.lacking_for-in-loop-needed.result now bits.entries c.lacking_for-in-loop-needed.ensures in
    let few = needed-few table k (wide c.rb_bits-rb_bits.result k bits.entries bits.bounds.0) c.args.clusters now searched.few in
    omega (arith, is, few, c.requires.count_bounded)

pub loop-needed-smaller : goal.loop-needed-smaller
loop-needed-smaller g c =
    let table = table_of c.args.self.now in
    let k = counters_of_block c.args.file.now.header.fields in
    let bits = c.rb_bits-rb_bits.ensures in
    let l = c.loop-needed in
    let now = c.in_ok-room.room in
    rooms-fewer g.S.Storage.state table c.args.from c.args.clusters c.args.caches.now c.args.file.now l.room l.caches l.file l.invariant.0 (wide c.rb_bits-rb_bits.result k bits.entries bits.bounds.0) now c.grow_free_area.new.caches c.grow_free_area.new.file
    (omega (arith, c.len.ensures, c.loop-needed-test.true, l.invariant.1)) c.in_ok-room.ensures

pub loop-needed-preserved : goal.loop-needed-preserved
loop-needed-preserved g c =
    let table = table_of c.args.self.now in
    let k = counters_of_block c.args.file.now.header.fields in
    let bits = c.rb_bits-rb_bits.ensures in
    let l = c.loop-needed in
    let now = c.in_ok-room.room in (
      rooms-then g.S.Storage.state table c.args.from c.args.clusters c.args.caches.now c.args.file.now l.room l.caches l.file l.invariant.0 (wide c.rb_bits-rb_bits.result k bits.entries bits.bounds.0) now c.grow_free_area.new.caches c.grow_free_area.new.file
          (omega (arith, c.len.ensures, c.loop-needed-test.true, l.invariant.1)) c.in_ok-room.ensures,
      as-needed table c.rb_bits-rb_bits.result k c.args.clusters c.lacking_for-in-loop-needed.result now bits.entries c.lacking_for-in-loop-needed.ensures,
    )

pub returns-clause-looks : goal.returns-clause-looks
returns-clause-looks g c =
    let table = table_of c.args.self.now in
    let l = c.loop-needed in
    rooms-found g.S.Storage.state table c.args.from c.args.clusters c.args.caches.now c.args.file.now l.room l.caches l.file l.invariant.0 (omega (arith, c.len.ensures, c.loop-needed-test.false, l.invariant.1))

pub returns-clause-within : goal.returns-clause-within
returns-clause-within g c = let searched = c.loop-needed.invariant.0 in (searched.within, searched.few)

pub returns-clause-enough : goal.returns-clause-enough
returns-clause-enough g c =
    omega (arith, c.len.ensures, c.loop-needed-test.false, c.loop-needed.invariant.1, c.loop-needed.invariant.0.short)
