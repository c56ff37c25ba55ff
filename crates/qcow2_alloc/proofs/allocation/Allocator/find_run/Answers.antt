use Rattle.std.proofs.Common.{◌≡◌, ◌+◌, ◌-◌, ◌*◌, ◌/◌, ◌^◌, ◌<◌, ◌≤◌, arith, ap, sym, subst, ◌∙◌, length, Result, Ok}
use Rattle.std.proofs.Math.Nat.{mul-le-mul}
use Rattle.imago_storage.specs.declared.fault.Fault.{Fault}
use Rattle.qcow2_types.specs.Header.{Header}
use Rattle.qcow2_types.specs.Counts.{counters_of_block}
use Rattle.qcow2_alloc.specs.declared.allocation.searching.Run.{Run}
use Rattle.qcow2_alloc.specs.Allocators.{table_of}
use Rattle.qcow2_alloc.specs.Caches.{cached_file}
use Rattle.qcow2_alloc.specs.Scanning.{next_of, ExtendsRun}
use Rattle.qcow2_alloc.proofs.Searching.RunSearches.{searched-then, searched-refused, searched-long, searched-all}
use Rattle.qcow2_alloc.proofs.Searching.RunsInSearch.{few-clusters}
use Rattle.qcow2_alloc.proofs.Faults.{handed-on}
use Rattle.qcow2_alloc.proofs.allocation.Allocator.find_run.Goals as goal
use Rattle.qcow2_alloc.proofs.allocation.Allocator.find_run.Goals.{then-loop-run-test+else-rt_index-entries, else-loop-run-test}

pub loop-run-preserved : goal.loop-run-preserved
loop-run-preserved g c =
    let state = g.S.Storage.state in
    let table = table_of c.args.self.now in
    let extends : ExtendsRun state table c.args.count c.loop-run.run (cached_file c.loop-run.caches c.loop-run.file) (Ok c.in_ok-run.run') (cached_file c.extend_run.new.caches c.extend_run.new.file) =
    subst (λ (r : Result Run Fault). ExtendsRun state table c.args.count c.loop-run.run (cached_file c.loop-run.caches c.loop-run.file) r (cached_file c.extend_run.new.caches c.extend_run.new.file)) c.in_ok-run.was c.extend_run.ensures in
    let k = counters_of_block c.loop-run.file.header.fields in
    let bits = c.rb_bits-rb_bits.ensures in
    let size : 2 ^ c.rb_bits-rb_bits.result ≡ k = bits.entries ∙ ap (λ (h : Header). counters_of_block h.fields) (sym c.loop-run.invariant.1) in
    let at : c.rt_index.result ≡ next_of c.loop-run.run / k = c.rt_index.ensures ∙ ap (λ n. n / 2 ^ c.rb_bits-rb_bits.result) c.next.ensures ∙ ap (λ n. next_of c.loop-run.run / n) size in
    let test = c.if-rt_index-entries.true in
    let raw_entries = c.entries.ensures.value in
    let inside : next_of c.loop-run.run / counters_of_block c.args.file.now.header.fields < length table.raw_entries = subst (λ (h : Header). next_of c.loop-run.run / counters_of_block h.fields < length table.raw_entries) c.loop-run.invariant.1 (omega (arith, test, raw_entries, at)) in
    let few = few-clusters (next_of c.loop-run.run / k) k (length table.raw_entries) c.rb_bits-rb_bits.result (omega (arith, test, raw_entries, at)) c.entries.ensures.table.long size bits.bounds.1 in (
      let near = extends.end_in_block in omega (arith, near, few),
      extends.looked.header ∙ c.loop-run.invariant.1,
      searched-then state table c.args.from c.args.count c.args.caches.now c.args.file.now c.loop-run.run c.loop-run.caches c.loop-run.file c.loop-run.invariant.2 inside c.in_ok-run.run' c.extend_run.new.caches c.extend_run.new.file extends,
    )

pub returns-in_err-run : goal.returns-in_err-run
returns-in_err-run g c = rw (handed-on _ _ c.from_residual.ensures.1) (
    let state = g.S.Storage.state in
    let table = table_of c.args.self.now in
    searched-refused state table c.args.from c.args.count c.args.caches.now c.args.file.now c.loop-run.run c.loop-run.caches c.loop-run.file c.loop-run.invariant.2 c.in_err-run.field-0.0 c.extend_run.new.caches c.extend_run.new.file
    (subst (λ (r : Result Run Fault). ExtendsRun state table c.args.count c.loop-run.run (cached_file c.loop-run.caches c.loop-run.file) r (cached_file c.extend_run.new.caches c.extend_run.new.file)) c.in_err-run.was c.extend_run.ensures))

pub returns : goal.returns
returns g c =
    let state = g.S.Storage.state in
    let table = table_of c.args.self.now in
    elim c.loop-run-test.branch [
      | then-loop-run-test+else-rt_index-entries w ↦
          searched-all state table c.args.from c.args.count c.args.caches.now c.args.file.now c.loop-run.run c.loop-run.caches c.loop-run.file c.loop-run.invariant.2
          (let at = w.rt_index.ensures ∙ ap (λ n. n / 2 ^ c.rb_bits-rb_bits.result) w.next.ensures ∙ ap (λ n. next_of c.loop-run.run / n) c.rb_bits-rb_bits.ensures.entries in
          let past = w.if-rt_index-entries.false in
          let raw_entries = w.entries.ensures.value in
          omega (arith, at, past, raw_entries))
      | else-loop-run-test w ↦ searched-long state table c.args.from c.args.count c.args.caches.now c.args.file.now c.loop-run.run c.loop-run.caches c.loop-run.file c.loop-run.invariant.2 w.loop-run-test.false
    ]

pub next-requires : goal.next-requires
next-requires g c = c.loop-run.invariant.0

pub rt_index-requires : goal.rt_index-requires
rt_index-requires g c = record { bits = c.rb_bits-rb_bits.ensures.bounds.1 }

pub extend_run-requires-clause-short : goal.extend_run-requires-clause-short
extend_run-requires-clause-short g c = c.loop-run-test.true

pub extend_run-requires-clause-fits : goal.extend_run-requires-clause-fits
extend_run-requires-clause-fits g c = c.loop-run.invariant.0

pub extend_run-requires-clause-inside : goal.extend_run-requires-clause-inside
extend_run-requires-clause-inside g c =
    let k = counters_of_block c.loop-run.file.header.fields in
    let bits = c.rb_bits-rb_bits.ensures in
    let size : 2 ^ c.rb_bits-rb_bits.result ≡ k = bits.entries
    ∙ ap (λ (h : Header). counters_of_block h.fields) (sym c.loop-run.invariant.1) in
    let at : c.rt_index.result ≡ next_of c.loop-run.run / k = c.rt_index.ensures ∙ ap (λ n. n / 2 ^ c.rb_bits-rb_bits.result) c.next.ensures
    ∙ ap (λ n. next_of c.loop-run.run / n) size in
    let test = c.if-rt_index-entries.true in
    let raw_entries = c.entries.ensures.value in
    omega (arith, test, raw_entries, at)

pub loop-run-smaller : goal.loop-run-smaller
loop-run-smaller g c =
    let state = g.S.Storage.state in
    let table = table_of c.args.self.now in
    let k = counters_of_block c.loop-run.file.header.fields in
    let bits = c.rb_bits-rb_bits.ensures in
    let size : 2 ^ c.rb_bits-rb_bits.result ≡ k = bits.entries
    ∙ ap (λ (h : Header). counters_of_block h.fields) (sym c.loop-run.invariant.1) in
    let at : c.rt_index.result ≡ next_of c.loop-run.run / k = c.rt_index.ensures ∙ ap (λ n. n / 2 ^ c.rb_bits-rb_bits.result) c.next.ensures
    ∙ ap (λ n. next_of c.loop-run.run / n) size in
    let test = c.if-rt_index-entries.true in
    let raw_entries = c.entries.ensures.value in
    let extends : ExtendsRun state table c.args.count c.loop-run.run (cached_file c.loop-run.caches c.loop-run.file) (Ok c.in_ok-run.run')
    (cached_file c.extend_run.new.caches c.extend_run.new.file) =
    subst (λ (r : Result Run Fault). ExtendsRun state table c.args.count c.loop-run.run (cached_file c.loop-run.caches c.loop-run.file) r
    (cached_file c.extend_run.new.caches c.extend_run.new.file)) c.in_ok-run.was c.extend_run.ensures in
    let inside : (next_of c.loop-run.run / k + 1) * k ≤ length table.raw_entries * k =
    mul-le-mul (omega (arith, test, raw_entries, at)) (omega arith) in
    let near = extends.end_in_block in
    let more = extends.more in
    subst (λ (h : Header). length table.raw_entries * counters_of_block h.fields - next_of c.in_ok-run.run'
    < length table.raw_entries * counters_of_block h.fields - next_of c.loop-run.run) c.loop-run.invariant.1
    (omega (arith, inside, near, more))
