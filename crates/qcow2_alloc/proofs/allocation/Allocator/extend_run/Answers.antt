use Rattle.std.proofs.Common.{◌≡◌, ◌-◌, ◌/◌, ◌%◌, ◌<◌, ℕ, arith, ap, sym, subst, ◌∙◌, List, None, Some, Ok}
use Rattle.qcow2_types.specs.Counts.{counters_of_block}
use Rattle.qcow2_alloc.specs.declared.allocation.searching.Run.{Run}
use Rattle.qcow2_alloc.specs.Allocators.{table_of, referenced_block, UsesBlock}
use Rattle.qcow2_alloc.specs.Caches.{cached_file}
use Rattle.qcow2_alloc.specs.Scanning.{next_of, ScansSome, Reads, ExtendsRun}
use Rattle.qcow2_alloc.proofs.Searching.RunSearches.{extends-some, extends-none}
use Rattle.qcow2_alloc.proofs.Searching.RunsInSearch.{indices, longer}
use Rattle.qcow2_alloc.proofs.allocation.Allocator.extend_run.Goals as goal

pub returns-in-Some : goal.returns-in-Some
returns-in-Some g c =
    let k = counters_of_block c.args.file.now.header.fields in
    let table = table_of c.args.self.now in
    let at = indices c.next.result (next_of c.args.run) c.rb_bits.result k c.rt_rb_indices-rt_index.result c.rt_rb_indices-rt_index.ensures c.next.ensures c.rb_bits.ensures.entries in
    let named : referenced_block table (next_of c.args.run / k) ≡ Some c.in-Some.rb_cluster =
    ap (λ n. referenced_block table n) (sym at.0) ∙ sym c.block_cluster.ensures ∙ c.in-Some.is in
    extends-some g.S.Storage.state table c.args.count c.args.run c.args.caches.now c.args.file.now c.in-Some.rb_cluster named c.scan_in.result c.scan_in.new.caches c.scan_in.new.file
    (subst (λ n. UsesBlock g.S.Storage.state c.in-Some.rb_cluster (Reads {T = Run} k (λ (counters : List ℕ) (now : Run). ScansSome counters c.args.count n c.args.run now)) (cached_file c.args.caches.now c.args.file.now) c.scan_in.result (cached_file c.scan_in.new.caches c.scan_in.new.file))
    at.1 c.scan_in.ensures)

pub returns-in-None : goal.returns-in-None
returns-in-None g c =
    let k = counters_of_block c.args.file.now.header.fields in
    let table = table_of c.args.self.now in
    let at = indices c.next.result (next_of c.args.run) c.rb_bits.result k c.rt_rb_indices-rt_index.result c.rt_rb_indices-rt_index.ensures c.next.ensures c.rb_bits.ensures.entries in
    let none : referenced_block table (next_of c.args.run / k) ≡ None = ap (λ n. referenced_block table n) (sym at.0) ∙ sym c.block_cluster.ensures ∙ c.in-None.is in
    let entries = c.rb_entries-entries.ensures in
    let some : 0 < k = (let value = entries.value in let bounds = entries.bounds.0 in omega (arith, value, bounds)) in
    let rest : k - next_of c.args.run % k ≡ c.rb_entries-entries.result - c.rt_rb_indices-rt_index.result.1 = ap (λ n. n - next_of c.args.run % k) (sym entries.value) ∙ ap (λ n. c.rb_entries-entries.result - n) (sym at.1) in
    subst (λ n. ExtendsRun g.S.Storage.state table c.args.count c.args.run (cached_file c.args.caches.now c.args.file.now) (Ok (longer c.args.run n)) (cached_file c.args.caches.now c.args.file.now)) rest
    (extends-none g.S.Storage.state table c.args.count c.args.run c.args.caches.now c.args.file.now some none)
