use Rattle.std.proofs.Common.{arith, ◌≡◌, ◌/◌, ℕ, sym, subst, ◌∙◌, ap, refl}
use Rattle.imago_storage.specs.declared.fault.Fault.{Fault}
use Rattle.qcow2_types.specs.Counts.{counters_of_block}
use Rattle.qcow2_alloc.specs.GrowingTables.{GrowsTable}
use Rattle.qcow2_alloc.specs.State.{allocator_state}
use Rattle.qcow2_alloc.proofs.Freeing.EntryFrees.{failed}
use Rattle.qcow2_alloc.proofs.Blocks.ClusterCounts.{succeeded}
use Rattle.qcow2_alloc.proofs.Blocks.CounterProvision.{word-stands, word-made, word-barred, word-refused, limit-told, limit-untold}
use Rattle.qcow2_alloc.proofs.allocation.Allocator.ensure_entry.Goals as goal

pub returns-then-index-entries-clause-readies : goal.returns-then-index-entries-clause-readies
returns-then-index-entries-clause-readies g c =
    let at : c.rt_index-index.result ≡ c.args.cluster / counters_of_block c.args.file.now.header.fields = c.rt_index-index.ensures ∙ ap (λ n. c.args.cluster / n) c.rb_bits.ensures.entries in
    let below = c.if-index-entries.true in
    let long = c.entries.ensures.value in
    word-stands g.S.Storage.state c.args.cluster (allocator_state c.args.self.now c.args.caches.now c.args.file.now c.args.list.now) (omega (arith, at, below, long))

pub returns-in-Ok-clause-readies : goal.returns-in-Ok-clause-readies
returns-in-Ok-clause-readies g c =
    let s = allocator_state c.args.self.now c.args.caches.now c.args.file.now c.args.list.now in
    let new = c.grow_table.new in
    let s' = allocator_state new.self new.caches new.file new.list in
    let at : c.rt_index-index.result ≡ c.args.cluster / counters_of_block c.args.file.now.header.fields = c.rt_index-index.ensures ∙ ap (λ n. c.args.cluster / n) c.rb_bits.ensures.entries in
    let past = c.if-index-entries.false in
    let long = c.entries.ensures.value in
    word-made g.S.Storage.state c.args.cluster s (omega (arith, at, past, long)) succeeded s'
    (subst (λ (i : ℕ). GrowsTable g.S.Storage.state i s succeeded s') at c.in-Ok.ensures.grows) refl

pub returns-then-is_limit-clause-readies : goal.returns-then-is_limit-clause-readies
returns-then-is_limit-clause-readies g c =
    let s = allocator_state c.args.self.now c.args.caches.now c.args.file.now c.args.list.now in
    let new = c.grow_table.new in
    let s' = allocator_state new.self new.caches new.file new.list in
    let at : c.rt_index-index.result ≡ c.args.cluster / counters_of_block c.args.file.now.header.fields = c.rt_index-index.ensures ∙ ap (λ n. c.args.cluster / n) c.rb_bits.ensures.entries in
    let limit = limit-told c.in-Err.fault (sym c.is_limit.ensures ∙ c.if-is_limit.true) in
    let past = c.if-index-entries.false in
    let long = c.entries.ensures.value in
    word-barred g.S.Storage.state c.args.cluster s (omega (arith, at, past, long)) (failed c.in-Err.fault) s'
    (subst (λ (i : ℕ). GrowsTable g.S.Storage.state i s (failed c.in-Err.fault) s') at c.in-Err.ensures.grows)
    limit.0 (ap (λ (f : Fault). failed f) limit.1)

pub returns-else-is_limit-clause-readies : goal.returns-else-is_limit-clause-readies
returns-else-is_limit-clause-readies g c =
    let s = allocator_state c.args.self.now c.args.caches.now c.args.file.now c.args.list.now in
    let new = c.grow_table.new in
    let s' = allocator_state new.self new.caches new.file new.list in
    let at : c.rt_index-index.result ≡ c.args.cluster / counters_of_block c.args.file.now.header.fields = c.rt_index-index.ensures ∙ ap (λ n. c.args.cluster / n) c.rb_bits.ensures.entries in
    let past = c.if-index-entries.false in
    let long = c.entries.ensures.value in
    word-refused g.S.Storage.state c.args.cluster s (omega (arith, at, past, long)) (failed c.in-Err.fault) s'
    (subst (λ (i : ℕ). GrowsTable g.S.Storage.state i s (failed c.in-Err.fault) s') at c.in-Err.ensures.grows)
    c.in-Err.fault refl (limit-untold c.in-Err.fault (sym c.is_limit.ensures ∙ c.if-is_limit.false))
