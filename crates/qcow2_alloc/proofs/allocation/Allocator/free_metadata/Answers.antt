use Rattle.std.proofs.Common.{◌≡◌, [], List, refl, sym, ap, ◌∙◌, subst, inl}
use Rattle.qcow2_types.specs.Pending.{FreeEntry}
use Rattle.qcow2_alloc.specs.Freeing.{IsSublist, data_in}
use Rattle.qcow2_alloc.specs.GuestView.{metadata_in}
use Rattle.qcow2_alloc.specs.State.{allocator_state}
use Rattle.qcow2_alloc.proofs.Freeing.EntryFrees.{frees-none, frees-then, freed, failed}
use Rattle.qcow2_alloc.proofs.Freeing.FreesInTurn.{metadata-found, none-found, data-stays, all-data}
use Rattle.qcow2_alloc.proofs.Freeing.ListRemainders.{sublist-all, sublist-then, sublist-removed, data-not-shortened, rest-whole, rest-shortened, rest-with-data}
use Rattle.qcow2_alloc.proofs.Faults.{handed-on}
use Rattle.qcow2_alloc.proofs.allocation.Allocator.free_metadata.Goals as goal

pub loop-index-init : goal.loop-index-init
loop-index-init g c = (refl, refl, refl, refl, sublist-all c.args.list.now.entries, frees-none g.S.Storage.state (allocator_state c.args.self.now c.args.caches.now c.args.file.now c.args.list.now), λ none. (refl, refl, refl, refl))

pub loop-index-preserved : goal.loop-index-preserved
loop-index-preserved g c =
    let same = c.loop-index.invariant in
    let l = c.loop-index in
    let n = c.free_entry.new in
    let found = metadata-found l.list.entries c.in-Some.index (sym c.in-Some.ensures) in (
      c.free_entry.ensures.held ∙ same.0,
      c.free_entry.ensures.order ∙ same.1,
      c.free_entry.ensures.table ∙ same.2,
      ap data_in c.in_ok-free_entry.ensures.ok ∙ data-stays l.list.entries c.in-Some.index found.0 found.1 ∙ same.3,
      sublist-then n.list.entries l.list.entries c.args.list.now.entries (subst (λ (es : List FreeEntry). IsSublist es l.list.entries) (sym c.in_ok-free_entry.ensures.ok) (sublist-removed l.list.entries c.in-Some.index)) same.4,
      frees-then g.S.Storage.state (allocator_state c.args.self.now c.args.caches.now c.args.file.now c.args.list.now) (allocator_state l.self l.caches l.file l.list) freed (allocator_state n.self n.caches n.file n.list) same.5
          (c.in_ok-free_entry.ensures.frees (inl found.1)),
      λ none. absurd (none-found l.list.entries c.in-Some.index found.0 found.1 (subst (λ (es : List FreeEntry). metadata_in es ≡ []) (sym (same.6 none).3) none)),
    )

pub returns-in_err-free_entry-clause-frees : goal.returns-in_err-free_entry-clause-frees
returns-in_err-free_entry-clause-frees g c = rw (handed-on _ _ c.from_residual.ensures.1) (
    let same = c.loop-index.invariant in
    let l = c.loop-index in
    let n = c.free_entry.new in
    let found = metadata-found l.list.entries c.in-Some.index (sym c.in-Some.ensures) in
    frees-then g.S.Storage.state (allocator_state c.args.self.now c.args.caches.now c.args.file.now c.args.list.now) (allocator_state l.self l.caches l.file l.list) (failed c.in_err-free_entry.field-0.0) (allocator_state n.self n.caches n.file n.list) same.5
    (c.in_err-free_entry.ensures.frees (inl found.1)))

pub returns-clause-ok : goal.returns-clause-ok
returns-clause-ok g c = all-data c.loop-index.list.entries (sym c.in_default.ensures) ∙ c.loop-index.invariant.3

pub returns-in_err-free_entry-clause-left : goal.returns-in_err-free_entry-clause-left
returns-in_err-free_entry-clause-left g c =
    let same = c.loop-index.invariant in
    let es = c.loop-index.list.entries in
    let all = c.args.list.now.entries in
    let now = c.free_entry.new.list.entries in
    let found = metadata-found es c.in-Some.index (sym c.in-Some.ensures) in
    let cut = c.in_err-free_entry.ensures.err in
    rest-with-data all now (rest-shortened all es now c.in-Some.index cut.0 same.4 cut.1 cut.2) (ap data_in cut.2 ∙ data-not-shortened es c.in-Some.index cut.0 found.1 ∙ same.3)

pub returns-clause-left : goal.returns-clause-left
returns-clause-left g c =
    let same = c.loop-index.invariant in
    rest-with-data c.args.list.now.entries c.loop-index.list.entries (rest-whole c.args.list.now.entries c.loop-index.list.entries same.4) same.3

pub returns-in_err-free_entry-clause-idle : goal.returns-in_err-free_entry-clause-idle
returns-in_err-free_entry-clause-idle g c = rw (handed-on _ _ c.from_residual.ensures.1) (λ none.
    let l = c.loop-index in
    let found = metadata-found l.list.entries c.in-Some.index (sym c.in-Some.ensures) in
    absurd (none-found l.list.entries c.in-Some.index found.0 found.1 (subst (λ (es : List FreeEntry). metadata_in es ≡ []) (sym (l.invariant.6 none).3) none)))
