use Rattle.std.proofs.Common.{◌≡◌, ◌+◌, ℕ, arith, subst}
use Rattle.qcow2_alloc.specs.Allocating.{IncrementsCluster, CountsRun}
use Rattle.qcow2_alloc.specs.Allocators.{table_of}
use Rattle.qcow2_alloc.specs.Caches.{cached_file}
use Rattle.qcow2_alloc.specs.State.{image_state}
use Rattle.qcow2_alloc.proofs.Blocks.ClusterCounts.{succeeded, cluster-counted}
use Rattle.qcow2_alloc.proofs.Blocks.RunCounts.{run-none, run-then, run-within}
use Rattle.qcow2_alloc.proofs.Freeing.EntryFrees.{failed}
use Rattle.qcow2_alloc.proofs.Faults.{handed-on}
use Rattle.qcow2_alloc.proofs.allocation.Allocator.count_run.Goals as goal

pub loop-index-init : goal.loop-index-init
loop-index-init g c = λ pending. run-none g.S.Storage.state (table_of c.args.self.now) pending c.args.first c.args.caches.now c.args.file.now

pub returns-in_err-count_cluster : goal.returns-in_err-count_cluster
returns-in_err-count_cluster g c = rw (handed-on _ _ c.from_residual.ensures.1) (λ pending.
    let state = g.S.Storage.state in
    let table = table_of c.args.self.now in
    let l = c.loop-index in
    let new = c.count_cluster.new in
    let inside = c.loop-index-test.true in
    run-within state table pending c.args.first (l.index + 1) c.args.count (omega (arith, inside)) c.args.caches.now c.args.file.now c.in_err-count_cluster.field-0.0 new.caches new.file
    (run-then state table pending c.args.first l.index c.args.caches.now c.args.file.now l.caches l.file (failed c.in_err-count_cluster.field-0.0) new.caches new.file (l.invariant pending)
    (cluster-counted state table pending (c.args.first + l.index) l.caches l.file (failed c.in_err-count_cluster.field-0.0) new.caches new.file
    (subst (λ (n : ℕ). IncrementsCluster state table (n + l.index) (cached_file l.caches l.file) (failed c.in_err-count_cluster.field-0.0) (cached_file new.caches new.file)) c.first.view_is c.in_err-count_cluster.ensures))))

pub loop-index-preserved : goal.loop-index-preserved
loop-index-preserved g c = λ pending.
    let state = g.S.Storage.state in
    let table = table_of c.args.self.now in
    let l = c.loop-index in
    let new = c.count_cluster.new in
    run-then state table pending c.args.first l.index c.args.caches.now c.args.file.now l.caches l.file succeeded new.caches new.file (l.invariant pending)
    (cluster-counted state table pending (c.args.first + l.index) l.caches l.file succeeded new.caches new.file
    (subst (λ (n : ℕ). IncrementsCluster state table (n + l.index) (cached_file l.caches l.file) succeeded (cached_file new.caches new.file)) c.first.view_is c.in_ok-count_cluster.ensures))

pub returns : goal.returns
returns g c = λ pending.
    let l = c.loop-index in
    let past = c.loop-index-test.false in
    let end = l.auto.index-end in
    let all : l.index ≡ c.args.count = omega (arith, past, end) in
    subst (λ (n : ℕ). CountsRun g.S.Storage.state c.args.first n (image_state (table_of c.args.self.now) c.args.caches.now c.args.file.now pending) succeeded (image_state (table_of c.args.self.now) l.caches l.file pending)) all (l.invariant pending)
