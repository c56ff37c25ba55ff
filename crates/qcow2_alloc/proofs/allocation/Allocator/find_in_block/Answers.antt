use Rattle.std.proofs.Common.{◌≡◌, ◌+◌, ◌*◌, ◌/◌, ◌%◌, ◌^◌, ◌<◌, ℕ, refl, arith, ap, sym, subst, ◌∙◌, length, None, Some, Ok, Err, Result}
use Rattle.std.specs.Prelude.{Option}
use Rattle.imago_storage.specs.declared.fault.Fault.{Fault}
use Rattle.qcow2_types.specs.Counts.{counters_of_block}
use Rattle.qcow2_alloc.specs.Allocators.{table_of, referenced_block, UsesBlock}
use Rattle.qcow2_alloc.specs.Caches.{cached_file}
use Rattle.qcow2_alloc.specs.Scanning.{FindsZero, Reads}
use Rattle.qcow2_alloc.specs.SearchingClusters.{LooksForFree}
use Rattle.qcow2_alloc.proofs.Searching.FreeClusterSearches.{finds-none, finds-some, finds-inside, located}
use Rattle.qcow2_alloc.proofs.Searching.RunsInSearch.{few-clusters, indices}
use Rattle.qcow2_alloc.proofs.allocation.Allocator.find_in_block.Given.{Over}
use Rattle.qcow2_alloc.proofs.Faults.{handed-on}
use Rattle.qcow2_alloc.proofs.allocation.Allocator.find_in_block.Goals as goal
use Rattle.qcow2_alloc.proofs.allocation.Allocator.find_in_block.Goals.{After-find_zero_in}

abbrev k : (g : Over) → After-find_zero_in g → ℕ
k g c = counters_of_block c.args.file.now.header.fields

at : (g : Over) (c : After-find_zero_in g) → (c.rt_rb_indices-rt_index.result.0 ≡ c.args.from / k g c) × (c.rt_rb_indices-rt_index.result.1 ≡ c.args.from % k g c)
at g c = indices c.args.from c.args.from c.rb_bits-rb_bits.result (k g c) c.rt_rb_indices-rt_index.result c.rt_rb_indices-rt_index.ensures refl c.rb_bits-rb_bits.ensures.entries

named : (g : Over) (c : After-find_zero_in g) → referenced_block (table_of c.args.self.now) (c.args.from / k g c) ≡ Some c.in-Some.rb_cluster
named g c = ap (λ n. referenced_block (table_of c.args.self.now) n) (sym (at g c).0) ∙ sym c.block_cluster.ensures ∙ c.in-Some.is

abbrev Uses : (g : Over) (c : After-find_zero_in g) → Result (Option ℕ) Fault → Type 0
Uses g c result = UsesBlock g.S.Storage.state c.in-Some.rb_cluster (Reads {T = Option ℕ} (k g c) (FindsZero (c.args.from % k g c))) (cached_file c.args.caches.now c.args.file.now) result (cached_file c.find_zero_in.new.caches c.find_zero_in.new.file)

uses : (g : Over) (c : After-find_zero_in g) → Uses g c c.find_zero_in.result
uses g c =
    subst (λ n. UsesBlock g.S.Storage.state c.in-Some.rb_cluster (Reads {T = Option ℕ} (k g c) (FindsZero n)) (cached_file c.args.caches.now c.args.file.now) c.find_zero_in.result (cached_file c.find_zero_in.new.caches c.find_zero_in.new.file))
    (at g c).1 c.find_zero_in.ensures

abbrev Looks : (g : Over) (c : After-find_zero_in g) → Result (Option ℕ) Fault → Type 0
Looks g c result = LooksForFree g.S.Storage.state (table_of c.args.self.now) c.args.from ((c.args.from / k g c + 1) * k g c) (cached_file c.args.caches.now c.args.file.now) result (cached_file c.find_zero_in.new.caches c.find_zero_in.new.file)

looks : (g : Over) (c : After-find_zero_in g) (result : Result (Option ℕ) Fault) → c.find_zero_in.result ≡ result → Looks g c (located (c.args.from / k g c * k g c) result)
looks g c result is =
    subst (λ (r : Result (Option ℕ) Fault). Looks g c (located (c.args.from / k g c * k g c) r)) is
    (finds-some g.S.Storage.state (table_of c.args.self.now) c.args.from c.args.caches.now c.args.file.now c.in-Some.rb_cluster (named g c) c.find_zero_in.new.caches c.find_zero_in.new.file c.find_zero_in.result (uses g c))

inside : (g : Over) (c : After-find_zero_in g) (j : ℕ) → c.find_zero_in.result ≡ Ok (Some j) → j < k g c
inside g c j is =
    finds-inside g.S.Storage.state (table_of c.args.self.now) c.args.from c.args.caches.now c.args.file.now c.in-Some.rb_cluster (named g c) c.find_zero_in.new.caches c.find_zero_in.new.file j
    (subst (λ (r : Result (Option ℕ) Fault). Uses g c r) is (uses g c))

pub returns-in_default : goal.returns-in_default
returns-in_default g c =
    let size = counters_of_block c.args.file.now.header.fields in
    let table = table_of c.args.self.now in
    let own = indices c.args.from c.args.from c.rb_bits-rb_bits.result size c.rt_rb_indices-rt_index.result c.rt_rb_indices-rt_index.ensures refl c.rb_bits-rb_bits.ensures.entries in
    finds-none g.S.Storage.state table c.args.from c.args.caches.now c.args.file.now (ap (λ n. referenced_block table n) (sym own.0) ∙ sym c.block_cluster.ensures ∙ c.in_default.is)

pub from_ref_indices-requires-clause-in_block : goal.from_ref_indices-requires-clause-in_block
from_ref_indices-requires-clause-in_block g c =
    let lt = inside g (goal.at.from_ref_indices-requires-clause-in_block g c).After-find_zero_in c.in-Some-2.index (c.in_ok-index.was ∙ ap (λ (o : Option ℕ). Ok o) c.in-Some-2.is) in
    let size = c.rb_bits-rb_bits.ensures.entries in
    omega (arith, lt, size)

base : (g : Over) (c : After-find_zero_in g) → c.rt_rb_indices-rt_index.result.0 * 2 ^ c.rb_bits-rb_bits.result ≡ c.args.from / k g c * k g c
base g c = ap (λ n. n * 2 ^ c.rb_bits-rb_bits.result) (at g c).0 ∙ ap (λ n. c.args.from / k g c * n) c.rb_bits-rb_bits.ensures.entries

pub from_ref_indices-requires-clause-fits : goal.from_ref_indices-requires-clause-fits
from_ref_indices-requires-clause-fits g c =
    let d = (goal.at.from_ref_indices-requires-clause-fits g c).After-find_zero_in in
    let lt = inside g d c.in-Some-2.index (c.in_ok-index.was ∙ ap (λ (o : Option ℕ). Ok o) c.in-Some-2.is) in
    let start = base g d in
    let bits = c.rb_bits-rb_bits.ensures in
    let few = few-clusters (c.args.from / k g d) (k g d) (length (table_of c.args.self.now).raw_entries) c.rb_bits-rb_bits.result c.requires c.args.self.now.table_bounded bits.entries bits.bounds.1 in
    omega (arith, lt, start, few)

pub returns-in-Some-2 : goal.returns-in-Some-2
returns-in-Some-2 g c =
    let d = (goal.at.returns-in-Some-2 g c).After-find_zero_in in
    let found = looks g d (Ok (Some c.in-Some-2.index)) (c.in_ok-index.was ∙ ap (λ (o : Option ℕ). Ok o) c.in-Some-2.is) in
    subst (λ n. Looks g d (Ok (Some n))) (sym (c.from_ref_indices.ensures ∙ ap (λ n. n + c.in-Some-2.index) (base g d))) found

pub returns-in-None : goal.returns-in-None
returns-in-None g c = looks g (goal.at.returns-in-None g c).After-find_zero_in (Ok None) (c.in_ok-index.was ∙ ap (λ (o : Option ℕ). Ok o) c.in-None.is)

pub returns-in_err-index : goal.returns-in_err-index
returns-in_err-index g c = rw (handed-on _ _ c.from_residual.ensures.1) (looks g (goal.at.returns-in_err-index g c).After-find_zero_in (Err c.in_err-index.field-0.0) c.in_err-index.was)
