use Rattle.std.proofs.Common.{◌-◌, List, refl, sym, ◌∙◌, subst, inr}
use Rattle.qcow2_types.specs.Pending.{FreeEntry}
use Rattle.qcow2_alloc.specs.Freeing.{IsSublist}
use Rattle.qcow2_alloc.specs.State.{allocator_state}
use Rattle.qcow2_alloc.proofs.Freeing.EntryFrees.{frees-none, frees-then, freed, failed}
use Rattle.qcow2_alloc.proofs.Freeing.ListRemainders.{sublist-all, sublist-then, sublist-removed, rest-whole, rest-shortened}
use Rattle.qcow2_alloc.proofs.Faults.{handed-on}
use Rattle.qcow2_alloc.proofs.allocation.Allocator.free_all.Goals as goal

pub loop-list-init : goal.loop-list-init
loop-list-init g c = (refl, refl, refl, sublist-all c.args.list.now.entries, λ first. frees-none g.S.Storage.state (allocator_state c.args.self.now c.args.caches.now c.args.file.now c.args.list.now))

pub loop-list-preserved : goal.loop-list-preserved
loop-list-preserved g c =
    let same = c.loop-list.invariant in
    let l = c.loop-list in
    let n = c.free_entry.new in (
      c.free_entry.ensures.held ∙ same.0,
      c.free_entry.ensures.order ∙ same.1,
      c.free_entry.ensures.table ∙ same.2,
      sublist-then n.list.entries l.list.entries c.args.list.now.entries (subst (λ (es : List FreeEntry). IsSublist es l.list.entries) (sym c.in_ok-free_entry.ensures.ok) (sublist-removed l.list.entries (c.len-last.result - 1))) same.3,
      λ first. frees-then g.S.Storage.state (allocator_state c.args.self.now c.args.caches.now c.args.file.now c.args.list.now) (allocator_state l.self l.caches l.file l.list) freed (allocator_state n.self n.caches n.file n.list) (same.4 first)
          (c.in_ok-free_entry.ensures.frees (inr (same.1 ∙ first))),
    )

pub returns-in_err-free_entry-clause-frees : goal.returns-in_err-free_entry-clause-frees
returns-in_err-free_entry-clause-frees g c = rw (handed-on _ _ c.from_residual.ensures.1) (λ first.
    let same = c.loop-list.invariant in
    let l = c.loop-list in
    let n = c.free_entry.new in
    frees-then g.S.Storage.state (allocator_state c.args.self.now c.args.caches.now c.args.file.now c.args.list.now) (allocator_state l.self l.caches l.file l.list) (failed c.in_err-free_entry.field-0.0) (allocator_state n.self n.caches n.file n.list) (same.4 first)
    (c.in_err-free_entry.ensures.frees (inr (same.1 ∙ first))))

pub returns-in_err-free_entry-clause-left : goal.returns-in_err-free_entry-clause-left
returns-in_err-free_entry-clause-left g c =
    let cut = c.in_err-free_entry.ensures.err in
    rest-shortened c.args.list.now.entries c.loop-list.list.entries c.free_entry.new.list.entries _ cut.0 c.loop-list.invariant.3 cut.1 cut.2

pub returns-clause-left : goal.returns-clause-left
returns-clause-left g c = rest-whole c.args.list.now.entries c.loop-list.list.entries c.loop-list.invariant.3
