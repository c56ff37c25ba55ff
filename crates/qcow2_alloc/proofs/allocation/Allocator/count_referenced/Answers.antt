use Rattle.std.proofs.Common.{◌≡◌, ◌≢◌, ◌+◌, ◌/◌, ◌^◌, ◌∙◌, ℕ, true, false, Option, arith, ap, sym, subst}
use Rattle.std.specs.Prelude.{slice_index}
use Rattle.std.specs.Option.{is_some}
use Rattle.qcow2_types.specs.Counts.{counters_of_block}
use Rattle.qcow2_types.specs.Header.{Header}
use Rattle.qcow2_types.specs.Words.{block_offset}
use Rattle.qcow2_metadata.specs.Tables.{TableValue}
use Rattle.qcow2_alloc.specs.declared.cache.MetadataCaches.{MetadataCaches}
use Rattle.qcow2_alloc.specs.declared.file.ImageFile.{ImageFile}
use Rattle.qcow2_alloc.specs.Allocating.{IncrementsCluster, CountsReferenced}
use Rattle.qcow2_alloc.specs.Allocators.{table_of, referenced_block}
use Rattle.qcow2_alloc.specs.Caches.{cached_file}
use Rattle.qcow2_alloc.specs.State.{image_state}
use Rattle.qcow2_alloc.proofs.Blocks.ClusterCounts.{succeeded, cluster-counted}
use Rattle.qcow2_alloc.proofs.Blocks.RunCounts.{named-run-none, named-run-then, named-run-within, passed-over, counted-named}
use Rattle.qcow2_alloc.proofs.Freeing.EntryFrees.{failed}
use Rattle.qcow2_alloc.proofs.Blocks.RefcountTableWords.{named-some, named-none}
use Rattle.qcow2_alloc.proofs.Faults.{handed-on}
use Rattle.qcow2_alloc.proofs.allocation.Allocator.count_referenced.Goals as goal
use Rattle.qcow2_alloc.proofs.allocation.Allocator.count_referenced.Goals.{then-is_some+in_ok-count_cluster, else-is_some}

-- The entry that the code looks at is the one for the cluster.
word-of : (cluster next bits index : ℕ) (h h' : Header) → index ≡ cluster / 2 ^ bits → cluster ≡ next → 2 ^ bits ≡ counters_of_block h.fields → h' ≡ h → index ≡ next / counters_of_block h'.fields
word-of cluster next bits index h h' is at size same = is ∙ ap (λ n. n / 2 ^ bits) at ∙ ap (λ n. next / n) (size ∙ ap (λ (H : Header). counters_of_block H.fields) (sym same))

-- The entry shows if the cluster has a block.
some-block : (table : TableValue) (index at : ℕ) (o : Option ℕ) → o ≡ referenced_block table index → index ≡ at → true ≡ is_some o → block_offset (slice_index table.raw_entries at) ≢ 0
some-block table index at o is same some = subst (λ n. block_offset (slice_index table.raw_entries n) ≢ 0) same (named-some table index (ap (λ (q : Option ℕ). is_some q) (sym is) ∙ sym some))

no-block : (table : TableValue) (index at : ℕ) (o : Option ℕ) → o ≡ referenced_block table index → index ≡ at → false ≡ is_some o → block_offset (slice_index table.raw_entries at) ≡ 0
no-block table index at o is same none = subst (λ n. block_offset (slice_index table.raw_entries n) ≡ 0) same (named-none table index (ap (λ (q : Option ℕ). is_some q) (sym is) ∙ sym none))

pub loop-index-init : goal.loop-index-init
loop-index-init g c = λ pending. named-run-none g.S.Storage.state (table_of c.args.self.now) pending c.args.run.first c.args.caches.now c.args.file.now

pub returns-in_err-count_cluster : goal.returns-in_err-count_cluster
returns-in_err-count_cluster g c = rw (handed-on _ _ c.from_residual.ensures.1) (λ pending.
    let state = g.S.Storage.state in
    let table = table_of c.args.self.now in
    let l = c.loop-index in
    let new = c.count_cluster.new in
    let run = c.args.run in
    let inside = c.loop-index-test.true in
    let len = c.len-index-end.ensures in
    let at : c.cluster.inside.0 ≡ run.first = c.cluster.view_is ∙ c.first.ensures in
    let raw_entry = word-of (c.cluster.inside.0 + l.index) (run.first + l.index) c.rb_bits-rb_bits.result c.rt_index.result c.args.file.now.header l.file.header c.rt_index.ensures (ap (λ n. n + l.index) at) c.rb_bits-rb_bits.ensures.entries (l.invariant pending).header in
    named-run-within state table pending run.first (l.index + 1) run.len (omega (arith, inside, len)) c.args.caches.now c.args.file.now c.in_err-count_cluster.field-0.0 new.caches new.file
    (named-run-then state table pending run.first l.index c.args.caches.now c.args.file.now l.caches l.file (failed c.in_err-count_cluster.field-0.0) new.caches new.file (l.invariant pending)
    (counted-named state table pending (run.first + l.index) l.caches l.file (failed c.in_err-count_cluster.field-0.0) new.caches new.file (some-block table c.rt_index.result _ c.block_cluster.result c.block_cluster.ensures raw_entry c.if-is_some.ensures)
    (cluster-counted state table pending (run.first + l.index) l.caches l.file (failed c.in_err-count_cluster.field-0.0) new.caches new.file
    (subst (λ (n : ℕ). IncrementsCluster state table (n + l.index) (cached_file l.caches l.file) (failed c.in_err-count_cluster.field-0.0) (cached_file new.caches new.file)) at c.in_err-count_cluster.ensures)))))

pub loop-index-preserved : goal.loop-index-preserved
loop-index-preserved g c = λ pending.
    let state = g.S.Storage.state in
    let table = table_of c.args.self.now in
    let l = c.loop-index in
    let run = c.args.run in
    let at : c.cluster.inside.0 ≡ run.first = c.cluster.view_is ∙ c.first.ensures in
    let raw_entry = word-of (c.cluster.inside.0 + l.index) (run.first + l.index) c.rb_bits-rb_bits.result c.rt_index.result c.args.file.now.header l.file.header c.rt_index.ensures (ap (λ n. n + l.index) at) c.rb_bits-rb_bits.ensures.entries (l.invariant pending).header in
    let then : (new : MetadataCaches g.row.S.Denot) (after : ImageFile g.row.S.Denot) → c.if-is_some.caches ≡ new → c.if-is_some.file ≡ after → CountsReferenced state (run.first + l.index) 1 (image_state table l.caches l.file pending) succeeded (image_state table new after pending)
    → CountsReferenced state run.first (l.index + 1) (image_state table c.args.caches.now c.args.file.now pending) succeeded (image_state table c.if-is_some.caches c.if-is_some.file pending) = λ new after caches file one.
    subst (λ (x : MetadataCaches g.row.S.Denot). CountsReferenced state run.first (l.index + 1) (image_state table c.args.caches.now c.args.file.now pending) succeeded (image_state table x c.if-is_some.file pending)) (sym caches)
    (subst (λ (x : ImageFile g.row.S.Denot). CountsReferenced state run.first (l.index + 1) (image_state table c.args.caches.now c.args.file.now pending) succeeded (image_state table new x pending)) (sym file)
    (named-run-then state table pending run.first l.index c.args.caches.now c.args.file.now l.caches l.file succeeded new after (l.invariant pending) one)) in
    elim c.if-is_some.branch [
      | then-is_some+in_ok-count_cluster w ↦
          let new = w.count_cluster.new in
          then new.caches new.file w.caches-is w.file-is
          (counted-named state table pending (run.first + l.index) l.caches l.file succeeded new.caches new.file (some-block table c.rt_index.result _ c.block_cluster.result c.block_cluster.ensures raw_entry w.if-is_some.ensures)
          (cluster-counted state table pending (run.first + l.index) l.caches l.file succeeded new.caches new.file
          (subst (λ (n : ℕ). IncrementsCluster state table (n + l.index) (cached_file l.caches l.file) succeeded (cached_file new.caches new.file)) at w.in_ok-count_cluster.ensures)))
      | else-is_some w ↦ then l.caches l.file w.caches-is w.file-is
          (passed-over state table pending (run.first + l.index) l.caches l.file (no-block table c.rt_index.result _ c.block_cluster.result c.block_cluster.ensures raw_entry w.if-is_some.ensures))
    ]

pub returns : goal.returns
returns g c = λ pending.
    let l = c.loop-index in
    let past = c.loop-index-test.false in
    let end = l.auto.index-end in
    let len = c.len-index-end.ensures in
    let all : l.index ≡ c.args.run.len = omega (arith, past, end, len) in
    subst (λ (n : ℕ). CountsReferenced g.S.Storage.state c.args.run.first n (image_state (table_of c.args.self.now) c.args.caches.now c.args.file.now pending) succeeded (image_state (table_of c.args.self.now) l.caches l.file pending)) all (l.invariant pending)
