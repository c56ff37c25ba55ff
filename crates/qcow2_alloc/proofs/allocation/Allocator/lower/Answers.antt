use Rattle.std.proofs.Common.{Ok, Err, refl, sym, subst}
use Rattle.qcow2_metadata.specs.Tables.{TableValue}
use Rattle.qcow2_alloc.specs.Allocators.{table_of, first_free_of}
use Rattle.qcow2_alloc.specs.Lowering.{Lowers}
use Rattle.qcow2_alloc.specs.State.{image_state, with_first_free}
use Rattle.qcow2_alloc.proofs.Faults.{handed-on}
use Rattle.qcow2_alloc.proofs.Freeing.Lowerings.{cluster-lowered}
use Rattle.qcow2_alloc.proofs.allocation.Allocator.lower.Goals as goal

pub returns-clause-lowers : goal.returns-clause-lowers
returns-clause-lowers g c = λ pending.
    let state = g.S.Storage.state in
    let old = with_first_free (image_state (table_of c.args.self.now) c.args.caches.now c.args.file.now pending) (first_free_of c.args.self.now) in
    let new = c.lower_counter.new in
    let all = cluster-lowered state (table_of c.args.self.now) pending c.args.cluster c.args.by c.args.caches.now c.args.file.now (first_free_of c.args.self.now) (Ok c.in_ok-count.count) new.caches new.file (first_free_of c.lower_hint.new.self) c.in_ok-count.ensures c.lower_hint.ensures.hint tt in
    subst (λ (t : TableValue). Lowers state c.args.cluster c.args.by old (Ok c.in_ok-count.count) (with_first_free (image_state t new.caches new.file pending) (first_free_of c.lower_hint.new.self))) (sym c.lower_hint.ensures.table) all

pub returns-in_err-count-clause-lowers : goal.returns-in_err-count-clause-lowers
returns-in_err-count-clause-lowers g c = rw (handed-on _ _ c.from_residual.ensures.1) (λ pending.
    let new = c.lower_counter.new in
    cluster-lowered g.S.Storage.state (table_of c.args.self.now) pending c.args.cluster c.args.by c.args.caches.now c.args.file.now (first_free_of c.args.self.now) (Err c.in_err-count.field-0.0) new.caches new.file (first_free_of c.args.self.now) c.in_err-count.ensures tt refl)
