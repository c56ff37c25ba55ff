use Rattle.std.proofs.Common.{◌≡◌, ℕ, ◌+◌, ◌-◌, ◌^◌, List, length, arith, ap, refl, sym, subst, ◌∙◌, inl, Err, Ok}
use Rattle.std.specs.Prelude.{min}
use Rattle.qcow2_types.specs.TableBytes.{table_bytes}
use Rattle.qcow2_types.specs.Pending.{FreeEntry}
use Rattle.qcow2_alloc.specs.FreeList.{FreeList}
use Rattle.qcow2_clusters.specs.Lengthening.{IsTooLong, IsTop, LengthensL1, clusters_for}
use Rattle.qcow2_clusters.specs.Flushed.{IsReady, clusters_state}
use Rattle.qcow2_clusters.proofs.EarlyRefusals.{nothing-begun}
use Rattle.qcow2_clusters.proofs.L1Growth.{clusters-taken, grow-refused, l1-named, l1-not-begun, l1-not-named, l1-not-placed, l1-not-stored}
use Rattle.qcow2_alloc.proofs.Faults.{handed-on}
use Rattle.qcow2_clusters.proofs.lengthening.lengthen_l1.Goals as goal

pub returns-in_err-place_l1-clause-lengthens : goal.returns-in_err-place_l1-clause-lengthens
returns-in_err-place_l1-clause-lengthens g c = rw (handed-on _ _ c.from_residual.ensures.1) (
    l1-not-placed g.S.Storage.state c.args.l1.now c.args.index (clusters_state c.args.file.now c.args.caches.now c.args.space.now)
    c.in_err-place_l1.field-0.0 c.place_l1.new.l1 c.requires.caches_empty c.in_err-place_l1.ensures)

pub returns-in_err-grown-clause-lengthens : goal.returns-in_err-grown-clause-lengthens
returns-in_err-grown-clause-lengthens g c = rw (handed-on _ _ c.from_residual-in_err-grown.ensures.1) (
    l1-not-begun g.S.Storage.state c.args.l1.now c.args.index (clusters_state c.args.file.now c.args.caches.now c.args.space.now)
    c.in_err-grown.field-0.0 c.place_l1.new.l1 c.requires.caches_empty
    c.place_l1.ensures.same (λ ready asked long. let e = c.in_err-grown.ensures.limit (omega (arith, long)) in cc e)
    (grow-refused (IsReady g.S.Storage.state (clusters_state c.args.file.now c.args.caches.now c.args.space.now) × IsTop g.S.Storage.state
    c.args.l1.now (clusters_state c.args.file.now c.args.caches.now c.args.space.now))
    (IsTooLong g.S.Storage.state c.args.l1.now c.args.index (clusters_state c.args.file.now c.args.caches.now c.args.space.now)
    (clusters_state c.args.file.now c.args.caches.now c.args.space.now)) c.args.index (min (c.args.index + 1) (2 ^ 64 - 1))
    (g.S.Storage.state c.args.file.now.image).faults c.in_err-grown.field-0.0
    (λ far. c.in_err-grown.ensures.limit (omega (arith, far))) (λ near. c.in_err-grown.ensures.ok_if_small (omega (arith, near)))
    (λ far. inl (far, refl))))

pub returns-in_err-stored-clause-lengthens : goal.returns-in_err-stored-clause-lengthens
returns-in_err-stored-clause-lengthens g c = rw (handed-on _ _ c.from_residual-in_err-stored.ensures.1) (
    let new = c.store_l1.new in
    let ws = c.in_ok-grown.grown.raw_entries in
    l1-not-stored g.S.Storage.state c.args.l1.now c.args.index (clusters_state c.args.file.now c.args.caches.now c.args.space.now) (clusters_for c.args.file.now.header.fields (length ws)) (table_bytes ws)
    c.in_err-stored.field-0.0 c.place_l1.new.l1 (clusters_state new.file new.caches new.space) c.place_l1.ensures.same
    (λ long. let e = c.in_ok-grown.ensures.limit (omega (arith, long)) in absurd (cc e))
    (clusters-taken c.args.file.now.header.fields c.args.l1.now c.place_l1.new.l1 c.in_ok-grown.grown c.args.index
    c.place_l1.ensures.same.raw_entries c.in_ok-grown.ensures.ok) c.in_err-stored.ensures.stores)

abbrev room_for : List FreeEntry → ℕ → FreeList
room_for entries held = record { entries = entries; held = held }

pub returns-in-Ok-clause-lengthens : goal.returns-in-Ok-clause-lengthens
returns-in-Ok-clause-lengthens g c =
    let state = g.S.Storage.state in
    let old = clusters_state c.args.file.now c.args.caches.now c.args.space.now in
    let new = c.store_l1.new in
    let c1 = clusters_state new.file new.caches new.space in
    let file = c.link_l1.new.file in
    let grown = c.in_ok-grown.grown in
    let left : c.give_up_l1.new.to_free ≡ _ = c.give_up_l1.ensures in
    subst (λ (l : FreeList). LengthensL1 state c.args.l1.now c.args.index old (Ok tt) new.table (clusters_state file new.caches (record { allocator = new.space.allocator; to_free = l }))) (sym left)
    (l1-named state c.args.l1.now c.place_l1.new.l1 grown c.args.index old c.in_ok-stored.stored c1 c.in_ok-place_l1.ensures
    c.in_ok-grown.ensures.ok c.in_ok-stored.ensures.stores
    new.table c.in_ok-stored.ensures.stands c.store_l1.ensures.fit (Ok tt) file c.in-Ok.ensures
    (λ long. let e = c.in_ok-grown.ensures.limit (omega (arith, long)) in absurd (cc e)) refl c.in-Ok.ensures.ok
    (new.space.to_free.held - 1)
    (let more = c.in_ok-stored.ensures.stores.held in omega (arith, more)))

pub returns-in-Err-clause-lengthens : goal.returns-in-Err-clause-lengthens
returns-in-Err-clause-lengthens g c =
    let state = g.S.Storage.state in
    let old = clusters_state c.args.file.now c.args.caches.now c.args.space.now in
    let new = c.store_l1.new in
    let c1 = clusters_state new.file new.caches new.space in
    let file = c.link_l1.new.file in
    let grown = c.in_ok-grown.grown in
    let fault = c.in-Err.fault in
    let held : new.space.to_free.held - 1 ≡ c.args.space.now.to_free.held =
    (let more = c.in_ok-stored.ensures.stores.held in omega (arith, more)) in
    let left : c.release.new.self ≡ room_for new.space.to_free.entries c.args.space.now.to_free.held = c.release.ensures ∙ ap (λ (k : ℕ). room_for new.space.to_free.entries k) held in
    subst (λ (l : FreeList). LengthensL1 state c.args.l1.now c.args.index old (Err fault) c.place_l1.new.l1 (clusters_state file new.caches (record { allocator = new.space.allocator; to_free = l }))) (sym left)
    (l1-not-named state c.args.l1.now c.place_l1.new.l1 grown c.args.index old c.in_ok-stored.stored c1 c.in_ok-place_l1.ensures
    c.in_ok-grown.ensures.ok c.in_ok-stored.ensures.stores
    new.table c.in_ok-stored.ensures.stands c.store_l1.ensures.fit (Err fault) file c.in-Err.ensures
    (λ long. let e = c.in_ok-grown.ensures.limit (omega (arith, long)) in absurd (cc e)) fault refl
    (record { allocator = new.space.allocator; to_free = room_for new.space.to_free.entries c.args.space.now.to_free.held }) refl
    c.in-Err.ensures.err)

pub returns-in_err-place_l1-clause-untouched_unless_begun : goal.returns-in_err-place_l1-clause-untouched_unless_begun
returns-in_err-place_l1-clause-untouched_unless_begun g c = rw (handed-on _ _ c.from_residual.ensures.1) (λ not. (
  nothing-begun g.S.Storage.state c.args.begun.now (clusters_state c.args.file.now c.args.caches.now c.args.space.now) c.in_err-place_l1.field-0.0 not,
  c.place_l1.ensures.same,
))

pub returns-in_err-grown-clause-untouched_unless_begun : goal.returns-in_err-grown-clause-untouched_unless_begun
returns-in_err-grown-clause-untouched_unless_begun g c = rw (handed-on _ _ c.from_residual-in_err-grown.ensures.1) (λ not. (
  nothing-begun g.S.Storage.state c.args.begun.now (clusters_state c.args.file.now c.args.caches.now c.args.space.now) c.in_err-grown.field-0.0 not,
  c.place_l1.ensures.same,
))

-- The call has begun once the longer table is stored.
pub returns-in_err-stored-clause-untouched_unless_begun : goal.returns-in_err-stored-clause-untouched_unless_begun
returns-in_err-stored-clause-untouched_unless_begun g c = rw (handed-on _ _ c.from_residual-in_err-stored.ensures.1) (λ not.
    let spared = c.in_err-stored.ensures.untouched_unless_begun not in (
      record { unbegun = spared.unbegun; refused = tt; unchanged_but_faults = spared.unchanged_but_faults; header = spared.header; space = spared.space },
      c.place_l1.ensures.same,
    ))

pub returns-in-Ok-clause-untouched_unless_begun : goal.returns-in-Ok-clause-untouched_unless_begun
returns-in-Ok-clause-untouched_unless_begun g c = λ not. absurd (c.in_ok-stored.ensures.untouched_unless_begun not).refused

pub returns-in-Err-clause-untouched_unless_begun : goal.returns-in-Err-clause-untouched_unless_begun
returns-in-Err-clause-untouched_unless_begun g c = λ not. absurd (c.in_ok-stored.ensures.untouched_unless_begun not).refused
