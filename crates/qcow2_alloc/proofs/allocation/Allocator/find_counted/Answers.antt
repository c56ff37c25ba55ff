use Rattle.std.proofs.Common.{◌≡◌, pow_pos, ◌+◌, ◌*◌, ◌/◌, ◌^◌, ◌-◌, ◌<◌, ◌≤◌, ℕ, arith, ap, sym, subst, ◌∙◌, Ok, Err, Some, None, Result}
use Rattle.std.specs.Prelude.{Option}
use Rattle.imago_storage.specs.declared.fault.Fault.{Fault}
use Rattle.qcow2_types.specs.Header.{Header}
use Rattle.qcow2_types.specs.Counts.{counters_of_block}
use Rattle.qcow2_alloc.specs.Allocators.{table_of}
use Rattle.qcow2_alloc.specs.Caches.{cached_file}
use Rattle.qcow2_alloc.specs.SearchingClusters.{LooksForFree}
use Rattle.qcow2_alloc.proofs.Searching.FreeClusterSearches.{FreeSearched, passed-then, passed-refused, passed-found, passed-all}
use Rattle.qcow2_alloc.proofs.Searching.RunsInSearch.{block-behind, blocks-before}
use Rattle.qcow2_alloc.proofs.allocation.Allocator.find_counted.Given.{Over}
use Rattle.qcow2_alloc.proofs.Faults.{handed-on}
use Rattle.qcow2_alloc.proofs.allocation.Allocator.find_counted.Goals as goal
use Rattle.qcow2_alloc.proofs.allocation.Allocator.find_counted.Goals.{After-find_in_block, After-from_ref_indices-next}

abbrev k : (g : Over) → After-find_in_block g → ℕ
k g c = counters_of_block c.args.file.now.header.fields

-- The end of the next cluster's block.
abbrev end : (g : Over) → After-find_in_block g → ℕ
end g c = (c.loop-next.next / k g c + 1) * k g c

abbrev Looks : (g : Over) (c : After-find_in_block g) → Result (Option ℕ) Fault → Type 0
Looks g c result = LooksForFree g.S.Storage.state (table_of c.args.self.now) c.loop-next.next (end g c) (cached_file c.loop-next.caches c.loop-next.file) result (cached_file c.find_in_block.new.caches c.find_in_block.new.file)

looks : (g : Over) (c : After-find_in_block g) (result : Result (Option ℕ) Fault) → c.find_in_block.result ≡ result → Looks g c result
looks g c result is =
    subst (λ (r : Result (Option ℕ) Fault). Looks g c r) is
    (subst (λ (h : Header). LooksForFree g.S.Storage.state (table_of c.args.self.now) c.loop-next.next ((c.loop-next.next / counters_of_block h.fields + 1) * counters_of_block h.fields) (cached_file c.loop-next.caches c.loop-next.file) c.find_in_block.result (cached_file c.find_in_block.new.caches c.find_in_block.new.file))
    c.loop-next.invariant.0 c.find_in_block.ensures)

behind : (g : Over) (c : After-find_in_block g) → (c.loop-next.next < end g c) × (end g c ≤ c.args.end * k g c)
behind g c =
    let size = c.rb_bits-rb_bits.ensures.entries in
    let at = c.rt_index.ensures ∙ ap (λ n. c.loop-next.next / n) size in
    let test = c.loop-next-test.true in
    block-behind c.loop-next.next c.args.end (k g c) (subst (λ n. 0 < n) size (pow_pos c.rb_bits-rb_bits.result)) (omega (arith, at, test))

next-is : (g : Over) (c : After-from_ref_indices-next g) → c.from_ref_indices-next.result ≡ (c.loop-next.next / counters_of_block c.args.file.now.header.fields + 1) * counters_of_block c.args.file.now.header.fields
next-is g c =
    let size = c.rb_bits-rb_bits.ensures.entries in
    let own : ℕ = counters_of_block c.args.file.now.header.fields in
    let at : c.rt_index-in-loop-next.result ≡ c.loop-next.next / own = c.rt_index-in-loop-next.ensures ∙ ap (λ n. c.loop-next.next / n) size in
    let start = c.from_ref_indices-next.ensures in
    let same : (c.rt_index-in-loop-next.result + 1) * 2 ^ c.rb_bits-rb_bits.result ≡ (c.loop-next.next / own + 1) * own = ap (λ n. (n + 1) * 2 ^ c.rb_bits-rb_bits.result) at ∙ ap (λ n. (c.loop-next.next / own + 1) * n) size in
    omega (arith, start, same)

pub loop-next-smaller : goal.loop-next-smaller
loop-next-smaller g c =
    let d = (goal.at.loop-next-smaller g c).After-find_in_block in
    let is = next-is g c in
    let more = behind g d in
    let less : c.args.end * k g d - c.from_ref_indices-next.result < c.args.end * k g d - c.loop-next.next = omega (arith, is, more.0, more.1) in
    less

pub loop-next-preserved : goal.loop-next-preserved
loop-next-preserved g c =
    let d = (goal.at.loop-next-preserved g c).After-find_in_block in
    let state = g.S.Storage.state in
    let table = table_of c.args.self.now in
    let found = looks g d (Ok None) (c.in_ok-cluster.was ∙ ap (λ (o : Option ℕ). Ok o) c.in_default.is) in
    let more = (behind g d).0 in (
      found.looked.header ∙ c.loop-next.invariant.0,
      subst (λ n. FreeSearched state table c.args.from c.args.caches.now c.args.file.now n c.find_in_block.new.caches c.find_in_block.new.file) (sym (next-is g c))
          (passed-then state table c.args.from c.args.caches.now c.args.file.now c.loop-next.next c.loop-next.caches c.loop-next.file c.loop-next.invariant.1 (end g d) c.find_in_block.new.caches c.find_in_block.new.file (omega (arith, more)) found),
    )

pub returns-in-Some : goal.returns-in-Some
returns-in-Some g c =
    let d = (goal.at.returns-in-Some g c).After-find_in_block in
    passed-found g.S.Storage.state (table_of c.args.self.now) c.args.from c.args.caches.now c.args.file.now c.loop-next.next c.loop-next.caches c.loop-next.file c.loop-next.invariant.1 (end g d) c.find_in_block.new.caches c.find_in_block.new.file
    c.in-Some.cluster (c.args.end * k g d) (behind g d).1 (looks g d (Ok (Some c.in-Some.cluster)) (c.in_ok-cluster.was ∙ ap (λ (o : Option ℕ). Ok o) c.in-Some.is))

pub returns-in_err-cluster : goal.returns-in_err-cluster
returns-in_err-cluster g c = rw (handed-on _ _ c.from_residual.ensures.1) (
    let d = (goal.at.returns-in_err-cluster g c).After-find_in_block in
    passed-refused g.S.Storage.state (table_of c.args.self.now) c.args.from c.args.caches.now c.args.file.now c.loop-next.next c.loop-next.caches c.loop-next.file c.loop-next.invariant.1 (end g d) c.find_in_block.new.caches c.find_in_block.new.file
    c.in_err-cluster.field-0.0 (c.args.end * k g d) (looks g d (Err c.in_err-cluster.field-0.0) c.in_err-cluster.was))

pub returns : goal.returns
returns g c =
    let own : ℕ = counters_of_block c.args.file.now.header.fields in
    let at : c.rt_index.result ≡ c.loop-next.next / own = c.rt_index.ensures ∙ ap (λ n. c.loop-next.next / n) c.rb_bits-rb_bits.ensures.entries in
    let past = c.loop-next-test.false in
    passed-all g.S.Storage.state (table_of c.args.self.now) c.args.from c.args.caches.now c.args.file.now c.loop-next.next c.loop-next.caches c.loop-next.file c.loop-next.invariant.1
    (c.args.end * own) (blocks-before c.loop-next.next c.args.end own (omega (arith, at, past)))
