use Rattle.std.proofs.Common.{◌≡◌, ℕ, ◌+◌, ◌-◌, ◌≤◌, ◌^◌, List, Ok, Err, ap, sym, subst, ◌∙◌, min}
use Rattle.qcow2_types.specs.Pending.{FreeEntry}
use Rattle.qcow2_metadata.specs.Tables.{TableValue}
use Rattle.qcow2_alloc.specs.Allocators.{table_of, first_free_of, DecrementsCluster}
use Rattle.qcow2_alloc.specs.Caches.{cached_file}
use Rattle.qcow2_alloc.specs.FreeList.{FreeList}
use Rattle.qcow2_alloc.specs.Freeing.{Frees}
use Rattle.qcow2_alloc.specs.State.{image_state, with_first_free, allocator_state}
use Rattle.qcow2_alloc.proofs.Freeing.EntryFrees.{last-freed, far-refused}
use Rattle.qcow2_alloc.proofs.Freeing.ShorterLists.{last}
use Rattle.qcow2_alloc.proofs.Faults.{handed-on}
use Rattle.qcow2_alloc.proofs.allocation.Allocator.free_last.Goals as goal

pub returns-in_default-clause-frees : goal.returns-in_default-clause-frees
returns-in_default-clause-frees g c = λ may.
    far-refused g.S.Storage.state (table_of c.args.self.now) c.args.list.now.entries c.args.index c.requires.inside c.requires.nonempty c.args.caches.now c.args.file.now (first_free_of c.args.self.now)
    (subst (λ (e : FreeEntry). 2 ^ 64 ≤ e.first + (e.count - 1)) c.entry.ensures c.in_default.ensures)

pub returns-clause-frees : goal.returns-clause-frees
returns-clause-frees g c = λ may.
    let state = g.S.Storage.state in
    let table = table_of c.args.self.now in
    let es = c.args.list.now.entries in
    let new = c.free_cluster.new in
    let there : c.in-Some.last ≡ last es c.args.index c.requires.inside c.requires.nonempty = c.in-Some.ensures ∙ ap (λ (e : FreeEntry). e.first + (e.count - 1)) c.entry.ensures in
    let all = last-freed state table es c.args.index c.requires.inside c.requires.nonempty c.args.caches.now c.args.file.now (first_free_of c.args.self.now) (Ok tt) new.caches new.file may
    (subst (λ (n : ℕ). DecrementsCluster state table n (cached_file c.args.caches.now c.args.file.now) (Ok tt) (cached_file new.caches new.file)) there c.in_ok-free_cluster.ensures.lowered) in
    let mark : first_free_of new.self ≡ min (first_free_of c.args.self.now) (last es c.args.index c.requires.inside c.requires.nonempty) = c.in_ok-free_cluster.ensures.marked ∙ ap (λ n. min (first_free_of c.args.self.now) n) there in
    subst (λ (t : TableValue). Frees state (allocator_state c.args.self.now c.args.caches.now c.args.file.now c.args.list.now) (Ok tt) (with_first_free (image_state t new.caches new.file c.shorten.new.self.entries) (first_free_of new.self))) (sym c.free_cluster.ensures.table)
    (subst (λ (n : ℕ). Frees state (allocator_state c.args.self.now c.args.caches.now c.args.file.now c.args.list.now) (Ok tt) (with_first_free (image_state table new.caches new.file c.shorten.new.self.entries) n)) (sym mark)
    (subst (λ (l : List FreeEntry). Frees state (allocator_state c.args.self.now c.args.caches.now c.args.file.now c.args.list.now) (Ok tt) (with_first_free (image_state table new.caches new.file l) (min (first_free_of c.args.self.now) (last es c.args.index c.requires.inside c.requires.nonempty)))) (sym (ap (λ (l : FreeList). l.entries) c.shorten.ensures)) all))

pub returns-in_err-free_cluster-clause-frees : goal.returns-in_err-free_cluster-clause-frees
returns-in_err-free_cluster-clause-frees g c = rw (handed-on _ _ c.from_residual.ensures.1) (λ may.
    let state = g.S.Storage.state in
    let table = table_of c.args.self.now in
    let es = c.args.list.now.entries in
    let new = c.free_cluster.new in
    let there : c.in-Some.last ≡ last es c.args.index c.requires.inside c.requires.nonempty = c.in-Some.ensures ∙ ap (λ (e : FreeEntry). e.first + (e.count - 1)) c.entry.ensures in
    let all = last-freed state table es c.args.index c.requires.inside c.requires.nonempty c.args.caches.now c.args.file.now (first_free_of c.args.self.now) (Err c.in_err-free_cluster.field-0.0) new.caches new.file may
    (subst (λ (n : ℕ). DecrementsCluster state table n (cached_file c.args.caches.now c.args.file.now) (Err c.in_err-free_cluster.field-0.0) (cached_file new.caches new.file)) there c.in_err-free_cluster.ensures.lowered) in
    subst (λ (t : TableValue). Frees state (allocator_state c.args.self.now c.args.caches.now c.args.file.now c.args.list.now) (Err c.in_err-free_cluster.field-0.0) (with_first_free (image_state t new.caches new.file es) (first_free_of new.self))) (sym c.free_cluster.ensures.table)
    (subst (λ (n : ℕ). Frees state (allocator_state c.args.self.now c.args.caches.now c.args.file.now c.args.list.now) (Err c.in_err-free_cluster.field-0.0) (with_first_free (image_state table new.caches new.file es) n)) (sym c.in_err-free_cluster.ensures.stays) all))
