use Rattle.std.proofs.Common.{◌≡◌, ◌+◌, ◌<◌, ◌∙◌, ℕ, refl, arith, ap, subst}
use Rattle.std.specs.Prelude.{nat_eq, IsSomeAnd}
use Rattle.std.specs.Map.{lookup, remove_entry}
use Rattle.qcow2_alloc.specs.declared.cache.MetadataCaches.{MetadataCaches}
use Rattle.qcow2_alloc.specs.Caches.{cached_in}
use Rattle.qcow2_alloc.specs.CachesLending.{with_blocks}
use Rattle.qcow2_alloc.proofs.Caching.BlockRunDrops.{forgets-none, forgets-then, forgotten-leaves, pinned-within}
use Rattle.qcow2_alloc.proofs.Caching.Pins.{pins-none, pins-then}
use Rattle.qcow2_alloc.proofs.Faults.{handed-on}
use Rattle.qcow2_alloc.proofs.allocation.moving_table.forget_run.Goals as goal

pub loop-index-init : goal.loop-index-init
loop-index-init g c = (forgets-none c.args.first (cached_in c.args.caches.now), refl, pins-none (cached_in c.args.caches.now).blocks (cached_in c.args.caches.now).blocks refl, record { tables = refl; blocks = refl; entries = refl })

pub returns-in_err-rb_forget-clause-err : goal.returns-in_err-rb_forget-clause-err
returns-in_err-rb_forget-clause-err g c = rw (handed-on _ _ c.from_residual.ensures.1) (
    let l = c.loop-index in
    let at = c.in_err-rb_forget.ensures.err in (
      at.0,
      pinned-within c.args.caches.now l.caches c.args.first c.args.count l.index (omega arith) l.invariant.2
          (subst (λ (n : ℕ). IsSomeAnd (lookup (nat_eq (n + l.index)) (cached_in l.caches).blocks) (λ s. 0 < s.pins)) c.first.view_is at.1),
    ))

pub loop-index-preserved : goal.loop-index-preserved
loop-index-preserved g c =
    let l = c.loop-index in
    let new = c.rb_forget.new.self in
    let is : new ≡ with_blocks l.caches (remove_entry (nat_eq (c.args.first + l.index)) (cached_in l.caches).blocks) =
    subst (λ (n : ℕ). new ≡ with_blocks l.caches (remove_entry (nat_eq (n + l.index)) (cached_in l.caches).blocks)) c.first.view_is c.in_ok-rb_forget.ensures.ok in
    let leaves = forgotten-leaves l.caches new (c.args.first + l.index) is in (
      forgets-then c.args.first l.index (cached_in c.args.caches.now) (cached_in l.caches) (cached_in new) (ap (λ (m : MetadataCaches _). cached_in m) is) l.invariant.0,
      leaves.0 ∙ l.invariant.1,
      pins-then (cached_in c.args.caches.now).blocks (cached_in l.caches).blocks (cached_in new).blocks l.invariant.2 leaves.1,
      record { tables = leaves.2.tables ∙ l.invariant.3.tables; blocks = leaves.2.blocks ∙ l.invariant.3.blocks; entries = leaves.2.entries ∙ l.invariant.3.entries },
    )
