use Rattle.std.proofs.Common.{◌≡◌, ◌-◌, List, length, refl, arith, ap, sym, subst, ◌∙◌}
use Rattle.std.specs.List.{remove}
use Rattle.std.proofs.lemmas.List.{length-set}
use Rattle.qcow2_types.specs.Pending.{FreeEntry}
use Rattle.qcow2_alloc.specs.Caches.{order_of}
use Rattle.qcow2_alloc.specs.FreeList.{FreeList, entry_at, shorter, shortened}
use Rattle.qcow2_alloc.specs.Freeing.{Frees}
use Rattle.qcow2_alloc.specs.State.{image_state, with_first_free, allocator_state}
use Rattle.qcow2_alloc.proofs.Freeing.EntryFrees.{frees-none, frees-then, empty-removed, may-still, freed, failed}
use Rattle.qcow2_alloc.proofs.Freeing.ShorterLists.{entry-shortened, shortened-none, shortened-more, removed-shortened}
use Rattle.qcow2_alloc.proofs.Faults.{handed-on}
use Rattle.qcow2_alloc.proofs.allocation.Allocator.free_entry.Goals as goal

pub loop-init : goal.loop-init
loop-init g c = (shortened-none c.args.list.now.entries c.args.index c.requires.inside, refl, refl, refl, λ may. frees-none g.S.Storage.state (allocator_state c.args.self.now c.args.caches.now c.args.file.now c.args.list.now))

pub free_last-requires-clause-inside : goal.free_last-requires-clause-inside
free_last-requires-clause-inside g c =
    let es = c.args.list.now.entries in
    let same : length c.loop.list.entries ≡ length es = ap (λ (l : List FreeEntry). length l) c.loop.invariant.0 ∙ length-set es c.args.index (shorter (entry_at es c.args.index) c.loop.counter) in
    rw same c.requires.inside

pub free_last-requires-clause-nonempty : goal.free_last-requires-clause-nonempty
free_last-requires-clause-nonempty g c =
    let es = c.args.list.now.entries in
    let left : (entry_at c.loop.list.entries c.args.index).count ≡ (entry_at es c.args.index).count - c.loop.counter = ap (λ (l : List FreeEntry). (entry_at l c.args.index).count) c.loop.invariant.0 ∙ ap (λ (e : FreeEntry). e.count) (entry-shortened es c.args.index c.loop.counter c.requires.inside) in
    let count = c.count-2.view_is ∙ c.count.ensures ∙ ap (λ (e : FreeEntry). e.count) c.entry.ensures in
    let test = c.loop-test.true in
    omega (arith, left, count, test)

pub returns-in_err-free_last-clause-frees : goal.returns-in_err-free_last-clause-frees
returns-in_err-free_last-clause-frees g c = rw (handed-on _ _ c.from_residual.ensures.1) (λ may.
    let same = c.loop.invariant in
    frees-then g.S.Storage.state (allocator_state c.args.self.now c.args.caches.now c.args.file.now c.args.list.now) (allocator_state c.loop.self c.loop.caches c.loop.file c.loop.list) (failed c.in_err-free_last.field-0.0) (allocator_state c.free_last.new.self c.free_last.new.caches c.free_last.new.file c.free_last.new.list)
    (same.4 may) (c.in_err-free_last.ensures.frees (may-still c.args.list.now.entries c.args.index c.loop.counter c.requires.inside c.loop.list.entries (order_of c.args.caches.now) (order_of c.loop.caches) same.0 same.2 may)))

pub returns-in_err-free_last-clause-order : goal.returns-in_err-free_last-clause-order
returns-in_err-free_last-clause-order g c = c.free_last.ensures.order ∙ c.loop.invariant.2

pub returns-in_err-free_last-clause-table : goal.returns-in_err-free_last-clause-table
returns-in_err-free_last-clause-table g c = c.free_last.ensures.table ∙ c.loop.invariant.3

pub returns-in_err-free_last-clause-err : goal.returns-in_err-free_last-clause-err
returns-in_err-free_last-clause-err g c = rw (handed-on _ _ c.from_residual.ensures.1) (
    let count = c.count-2.view_is ∙ c.count.ensures ∙ ap (λ (e : FreeEntry). e.count) c.entry.ensures in
    let test = c.loop-test.true in
    (c.loop.counter, omega (arith, count, test), c.in_err-free_last.ensures.err ∙ c.loop.invariant.0))

pub returns-in_err-free_last-clause-held : goal.returns-in_err-free_last-clause-held
returns-in_err-free_last-clause-held g c = c.free_last.ensures.held ∙ c.loop.invariant.1

pub loop-preserved : goal.loop-preserved
loop-preserved g c =
    let same = c.loop.invariant in
    let es = c.args.list.now.entries in (
      c.in_ok-free_last.ensures.ok ∙ ap (λ (l : List FreeEntry). shortened l c.args.index 1) same.0 ∙ shortened-more es c.args.index c.loop.counter,
      c.free_last.ensures.held ∙ same.1,
      c.free_last.ensures.order ∙ same.2,
      c.free_last.ensures.table ∙ same.3,
      λ may. frees-then g.S.Storage.state (allocator_state c.args.self.now c.args.caches.now c.args.file.now c.args.list.now) (allocator_state c.loop.self c.loop.caches c.loop.file c.loop.list) freed (allocator_state c.free_last.new.self c.free_last.new.caches c.free_last.new.file c.free_last.new.list)
          (same.4 may) (c.in_ok-free_last.ensures.frees (may-still es c.args.index c.loop.counter c.requires.inside c.loop.list.entries (order_of c.args.caches.now) (order_of c.loop.caches) same.0 same.2 may)),
    )

pub remove-requires : goal.remove-requires
remove-requires g c =
    let es = c.args.list.now.entries in
    let same : length c.loop.list.entries ≡ length es = ap (λ (l : List FreeEntry). length l) c.loop.invariant.0 ∙ length-set es c.args.index (shorter (entry_at es c.args.index) c.loop.counter) in
    rw same c.requires.inside

pub returns-clause-frees : goal.returns-clause-frees
returns-clause-frees g c = λ may.
    let state = g.S.Storage.state in
    let s = allocator_state c.args.self.now c.args.caches.now c.args.file.now c.args.list.now in
    let same = c.loop.invariant in
    let es = c.args.list.now.entries in
    let i = c.args.index in
    let long : length c.loop.list.entries ≡ length es = ap (λ (l : List FreeEntry). length l) same.0 ∙ length-set es i (shorter (entry_at es i) c.loop.counter) in
    let left : (entry_at c.loop.list.entries i).count ≡ (entry_at es i).count - c.loop.counter = ap (λ (l : List FreeEntry). (entry_at l i).count) same.0 ∙ ap (λ (e : FreeEntry). e.count) (entry-shortened es i c.loop.counter c.requires.inside) in
    let count = c.count-2.view_is ∙ c.count.ensures ∙ ap (λ (e : FreeEntry). e.count) c.entry.ensures in
    let test = c.loop-test.false in
    let none : (entry_at c.loop.list.entries i).count ≡ 0 = omega (arith, left, count, test) in
    let now = allocator_state c.loop.self c.loop.caches c.loop.file c.loop.list in
    subst (λ (l : List FreeEntry). Frees state s freed (with_first_free (image_state now.table now.caches now.file l) now.mark)) (sym (ap (λ (l : FreeList). l.entries) c.remove.ensures.left))
    (frees-then state s now freed (with_first_free (image_state now.table now.caches now.file (remove now.pending i)) now.mark) (same.4 may) (empty-removed state now i (rw long c.requires.inside) none))

pub returns-clause-order : goal.returns-clause-order
returns-clause-order g c = c.loop.invariant.2

pub returns-clause-table : goal.returns-clause-table
returns-clause-table g c = c.loop.invariant.3

pub returns-clause-ok : goal.returns-clause-ok
returns-clause-ok g c = ap (λ (l : FreeList). l.entries) c.remove.ensures.left ∙ ap (λ (l : List FreeEntry). remove l c.args.index) c.loop.invariant.0 ∙ removed-shortened c.args.list.now.entries c.args.index c.loop.counter c.requires.inside

pub returns-clause-held : goal.returns-clause-held
returns-clause-held g c = ap (λ (l : FreeList). l.held) c.remove.ensures.left ∙ c.loop.invariant.1
