use Rattle.std.proofs.Common.{◌≡◌, ◌≤◌, ◌<◌, ◌+◌, ◌-◌, ◌^◌, ◌∙◌, ℕ, arith, ap, sym, subst, Ok, Err, []}
use Rattle.std.proofs.lemmas.Nat.{pow_pos}
use Rattle.imago_storage.specs.declared.fault.Fault.TheVariants.{CacheFull}
use Rattle.qcow2_types.specs.Counts.{counters_of_block}
use Rattle.qcow2_types.specs.Header.{Header}
use Rattle.qcow2_metadata.specs.Places.{IsAddressable}
use Rattle.qcow2_metadata.specs.Tables.{TableValue}
use Rattle.qcow2_alloc.specs.declared.allocation.searching.Run.{Run}
use Rattle.qcow2_alloc.specs.Allocators.{table_of}
use Rattle.qcow2_alloc.specs.Caches.{cached_in}
use Rattle.qcow2_alloc.specs.Growing.{lacking}
use Rattle.qcow2_alloc.specs.MovingTables.{ForgetsRun, IsPinnedWithin}
use Rattle.qcow2_alloc.specs.State.{image_state}
use Rattle.qcow2_alloc.proofs.Blocks.NewBlockWrites.{run-fits}
use Rattle.qcow2_alloc.proofs.Growth.RoomAcquisition.{flushed-then, room-not-forgotten, room-taken}
use Rattle.qcow2_alloc.proofs.Faults.{handed-on}
use Rattle.qcow2_alloc.proofs.allocation.Allocator.take_free_area.Goals as goal

pub returns-in_err-flush_rb : goal.returns-in_err-flush_rb
returns-in_err-flush_rb g c = rw (handed-on _ _ c.from_residual-in_err-flush_rb.ensures.1) (λ pending.
    let state = g.S.Storage.state in
    let table = table_of c.args.self.now in
    let C = c.count_referenced.new in
    let D = c.flush_rb.new in
    let e = c.in_err-flush_rb.ensures in
    record {
      counts = flushed-then state (image_state table c.args.caches.now c.args.file.now pending) c.args.room C.caches C.file (c.in_ok-count_referenced.ensures pending) (Err c.in_err-flush_rb.field-0.0) D.self D.file e.writes_back_cached e.written_value_unchanged e.others e.room e.cause e.faults;
      taken = λ order keeps sound zero. tt;
    })

-- The number of missing blocks, by the header now and by the header before.
lacking-so : (table : TableValue) (run : Run) (h h' : Header) (bits n : ℕ) → h' ≡ h → 2 ^ bits ≡ counters_of_block h'.fields → n ≡ lacking table (2 ^ bits) run.first run.len → lacking table (counters_of_block h.fields) run.first run.len ≤ run.len
    → (n ≡ lacking table (counters_of_block h'.fields) run.first run.len) × (n ≤ run.len)
lacking-so table run h h' bits n same size is few =
    let there : n ≡ lacking table (counters_of_block h'.fields) run.first run.len = is ∙ ap (λ k. lacking table k run.first run.len) size in
    let was : n ≡ lacking table (counters_of_block h.fields) run.first run.len = there ∙ ap (λ (H : Header). lacking table (counters_of_block H.fields) run.first run.len) same in
    (there, omega (arith, was, few))

pub forget_run-requires : goal.forget_run-requires
forget_run-requires g c =
    let C = c.count_referenced.new in
    let D = c.flush_rb.new in
    let header = c.in_ok-flush_rb.ensures.others.1 ∙ (c.in_ok-count_referenced.ensures []).header in
    let n = lacking-so (table_of c.args.self.now) c.args.room c.args.file.now.header D.file.header c.rb_bits.result c.lacking_for-blocks.result header c.rb_bits.ensures.entries c.lacking_for-blocks.ensures c.requires.blocks_fit in
    let few = n.1 in
    let first = c.first.ensures in
    let fits = run-fits c.args.file.now.header.fields.cluster_bits c.args.room.first c.args.room.len c.requires.reach in
    record { fits = omega (arith, few, first, fits) }

pub write_new_blocks-requires-clause-reach : goal.write_new_blocks-requires-clause-reach
write_new_blocks-requires-clause-reach g c =
    let header = c.in_ok-flush_rb.ensures.others.1 ∙ (c.in_ok-count_referenced.ensures []).header in
    subst (λ (h : Header). IsAddressable h.fields.cluster_bits (c.args.room.first + (c.args.room.len - 1))) (sym header) c.requires.reach

pub write_new_blocks-requires-clause-room : goal.write_new_blocks-requires-clause-room
write_new_blocks-requires-clause-room g c =
    let header = c.in_ok-flush_rb.ensures.others.1 ∙ (c.in_ok-count_referenced.ensures []).header in
    subst (λ (h : Header). lacking (table_of c.args.self.now) (counters_of_block h.fields) c.args.room.first c.args.room.len ≤ c.args.room.len) (sym header) c.requires.blocks_fit

pub returns : goal.returns
returns g c = λ pending.
    let state = g.S.Storage.state in
    let table = table_of c.args.self.now in
    let C = c.count_referenced.new in
    let D = c.flush_rb.new in
    let e = c.in_ok-flush_rb.ensures in
    let f = c.in_ok-forget_run.ensures in
    let header = e.others.1 ∙ (c.in_ok-count_referenced.ensures []).header in
    let n = lacking-so table c.args.room c.args.file.now.header D.file.header c.rb_bits.result c.lacking_for-blocks.result header c.rb_bits.ensures.entries c.lacking_for-blocks.ensures c.requires.blocks_fit in
    let some : 0 < counters_of_block D.file.header.fields = (let is = c.rb_bits.ensures.entries in let there = pow_pos c.rb_bits.result in omega (arith, is, there)) in
    let forgets : ForgetsRun c.args.room.first c.lacking_for-blocks.result (cached_in D.self) (Ok tt) (cached_in c.forget_run.new.caches) =
    subst (λ (d : ℕ). ForgetsRun d c.lacking_for-blocks.result (cached_in D.self) (Ok tt) (cached_in c.forget_run.new.caches)) c.first.ensures f.forgets in
    room-taken state (image_state table c.args.caches.now c.args.file.now pending) c.args.room C.caches C.file (c.in_ok-count_referenced.ensures pending) D.self D.file e.writes_back_cached e.written_value_unchanged e.others e.room e.cause e.clean c.lacking_for-blocks.result n.1
    c.forget_run.new.caches forgets f.order f.pins f.room n.0 some c.write_new_blocks.result c.write_new_blocks.new.file c.write_new_blocks.ensures.header c.write_new_blocks.ensures.writes

pub returns-in_err-forget_run : goal.returns-in_err-forget_run
returns-in_err-forget_run g c = rw (handed-on _ _ c.from_residual-in_err-forget_run.ensures.1) (λ pending.
    let state = g.S.Storage.state in
    let table = table_of c.args.self.now in
    let C = c.count_referenced.new in
    let D = c.flush_rb.new in
    let e = c.in_ok-flush_rb.ensures in
    let f = c.in_err-forget_run.ensures in
    let header = e.others.1 ∙ (c.in_ok-count_referenced.ensures []).header in
    let n = lacking-so table c.args.room c.args.file.now.header D.file.header c.rb_bits.result c.lacking_for-blocks.result header c.rb_bits.ensures.entries c.lacking_for-blocks.ensures c.requires.blocks_fit in
    let forgets : ForgetsRun c.args.room.first c.lacking_for-blocks.result (cached_in D.self) (Err c.in_err-forget_run.field-0.0) (cached_in c.forget_run.new.caches) =
    subst (λ (d : ℕ). ForgetsRun d c.lacking_for-blocks.result (cached_in D.self) (Err c.in_err-forget_run.field-0.0) (cached_in c.forget_run.new.caches)) c.first.ensures f.forgets in
    room-not-forgotten state (image_state table c.args.caches.now c.args.file.now pending) c.args.room C.caches C.file (c.in_ok-count_referenced.ensures pending) D.self D.file e.writes_back_cached e.written_value_unchanged e.others e.room e.cause e.clean c.lacking_for-blocks.result n.1
    c.in_err-forget_run.field-0.0 c.forget_run.new.caches forgets f.order f.pins f.room (subst (λ (d : ℕ). (c.in_err-forget_run.field-0.0 ≡ CacheFull) × IsPinnedWithin d c.lacking_for-blocks.result D.self) c.first.ensures f.err))
