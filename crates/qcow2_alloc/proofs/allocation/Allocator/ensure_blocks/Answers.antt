use Rattle.std.proofs.Common.{◌≡◌, ◌+◌, ℕ, List, Option, [], refl, arith, subst, sym, ap, ◌∙◌}
use Rattle.std.specs.Option.{is_some}
use Rattle.qcow2_types.specs.Pending.{FreeEntry}
use Rattle.qcow2_alloc.specs.declared.allocation.readying_runs.Provision.{Provision}
use Rattle.qcow2_alloc.specs.declared.allocation.readying_runs.Provision.TheVariants.{Extended}
use Rattle.qcow2_alloc.specs.declared.allocation.Allocator.{Allocator}
use Rattle.qcow2_alloc.specs.declared.cache.MetadataCaches.{MetadataCaches}
use Rattle.qcow2_alloc.specs.declared.file.ImageFile.{ImageFile}
use Rattle.qcow2_alloc.specs.Allocating.{MakesBlocks}
use Rattle.std.specs.Prelude.{IsTrue}
use Rattle.qcow2_alloc.specs.declared.cache.CacheDependency.TheVariants.{L2DependsOnRb}
use Rattle.qcow2_alloc.specs.Allocators.{metadata_of, table_of, first_free_of}
use Rattle.qcow2_alloc.specs.Caches.{order_of}
use Rattle.qcow2_alloc.specs.FillingBlocks.{FillsFrom, IsBlockPlaced}
use Rattle.qcow2_alloc.specs.GuestView.{IsSound}
use Rattle.qcow2_alloc.specs.State.{image_state}
use Rattle.qcow2_alloc.proofs.Blocks.BlockRowPlaces.{fills-none, fills-there, turn-fills}
use Rattle.qcow2_alloc.proofs.Blocks.BlockRows.{so, blocks-none, blocks-there, blocks-then, blocks-within}
use Rattle.qcow2_alloc.proofs.Freeing.EntryFrees.{failed}
use Rattle.qcow2_alloc.proofs.Blocks.RefcountTableWords.{named-some, named-none}
use Rattle.qcow2_alloc.proofs.Blocks.ClusterCounts.{succeeded}
use Rattle.qcow2_alloc.proofs.Faults.{handed-on}
use Rattle.qcow2_alloc.proofs.allocation.Allocator.ensure_blocks.Goals as goal
use Rattle.qcow2_alloc.proofs.allocation.Allocator.ensure_blocks.Goals.{then-is_none+in_ok-make_block, else-is_none}

pub loop-index-init : goal.loop-index-init
loop-index-init g c = (
  λ pending. blocks-none g.S.Storage.state pending c.args.first (table_of c.args.self.now) c.args.caches.now c.args.file.now,
  refl,
  λ pending order keeps sound. fills-none (first_free_of c.args.self.now) c.args.first (metadata_of g.S.Storage.state c.args.file.now c.args.caches.now (table_of c.args.self.now) pending),
)

pub make_block-requires-clause-inside : goal.make_block-requires-clause-inside
make_block-requires-clause-inside g c =
    let long = (c.loop-index.invariant.0 []).long in
    let inside = c.requires.inside in
    let test = c.loop-index-test.true in
    omega (arith, long, inside, test)

pub returns-in_err-make_block-clause-makes : goal.returns-in_err-make_block-clause-makes
returns-in_err-make_block-clause-makes g c = rw (handed-on _ _ c.from_residual.ensures.1) (λ pending.
    let l = c.loop-index in
    let new = c.make_block.new in
    let inside = c.requires.inside in
    let test = c.loop-index-test.true in
    blocks-within g.S.Storage.state pending c.args.first (l.index + 1) c.args.end (omega (arith, test)) (table_of c.args.self.now) c.args.caches.now c.args.file.now c.in_err-make_block.field-0.0 (table_of new.self) new.caches new.file
    (blocks-then g.S.Storage.state pending c.args.first l.index (table_of c.args.self.now) c.args.caches.now c.args.file.now l.provision (table_of l.self) l.caches l.file (l.invariant.0 pending) (omega (arith, inside, test))
    (named-none (table_of l.self) l.index (ap (λ (o : Option ℕ). is_some o) (sym c.block_cluster.ensures) ∙ c.if-is_none.ensures)) l.auto.index (failed c.in_err-make_block.field-0.0) (table_of new.self) new.caches new.file (c.in_err-make_block.ensures.makes pending)))

pub loop-index-preserved : goal.loop-index-preserved
loop-index-preserved g c = elim c.if-is_none.branch [
  | then-is_none+in_ok-make_block w ↦
      let l = c.loop-index in
      let new = w.make_block.new in
      let inside = c.requires.inside in
      let test = c.loop-index-test.true in
      so_still Extended new.self new.caches new.file w.provision-is w.self-is w.caches-is w.file-is (
        (λ pending. blocks-then g.S.Storage.state pending c.args.first l.index (table_of c.args.self.now) c.args.caches.now c.args.file.now l.provision (table_of l.self) l.caches l.file (l.invariant.0 pending) (omega (arith, inside, test))
            (named-none (table_of l.self) l.index (ap (λ (o : Option ℕ). is_some o) (sym c.block_cluster.ensures) ∙ w.if-is_none.ensures)) l.auto.index succeeded (table_of new.self) new.caches new.file (w.in_ok-make_block.ensures.makes pending)),
        w.in_ok-make_block.ensures.mark ∙ l.invariant.1,
        λ pending order keeps sound.
            turn-fills g.S.Storage.state (first_free_of c.args.self.now) (image_state (table_of c.args.self.now) c.args.caches.now c.args.file.now pending) c.args.first l.index l.provision (table_of l.self) l.caches l.file (l.invariant.0 pending)
            (named-none (table_of l.self) l.index (ap (λ (o : Option ℕ). is_some o) (sym c.block_cluster.ensures) ∙ w.if-is_none.ensures)) l.auto.index (table_of new.self) new.caches new.file (w.in_ok-make_block.ensures.makes pending)
            (subst (λ (m : ℕ). order_of l.caches ≡ L2DependsOnRb → IsTrue (g.S.Storage.state l.file.image).shape.keeps → IsSound (metadata_of g.S.Storage.state l.file l.caches (table_of l.self) pending)
            → IsBlockPlaced m l.index (metadata_of g.S.Storage.state l.file l.caches (table_of l.self) pending) (metadata_of g.S.Storage.state new.file new.caches (table_of new.self) pending)) l.invariant.1 (w.in_ok-make_block.ensures.placed pending))
            order keeps sound (l.invariant.2 pending order keeps sound),
      )
  | else-is_none w ↦
      let l = c.loop-index in
      so_still l.provision l.self l.caches l.file w.provision-is w.self-is w.caches-is w.file-is (
        (λ pending. blocks-there g.S.Storage.state pending c.args.first l.index (table_of c.args.self.now) c.args.caches.now c.args.file.now l.provision (table_of l.self) l.caches l.file (l.invariant.0 pending) (named-some (table_of l.self) l.index (ap (λ (o : Option ℕ). is_some o) (sym c.block_cluster.ensures) ∙ w.if-is_none.ensures))),
        l.invariant.1,
        λ pending order keeps sound. fills-there (first_free_of c.args.self.now) c.args.first (metadata_of g.S.Storage.state c.args.file.now c.args.caches.now (table_of c.args.self.now) pending) l.index (metadata_of g.S.Storage.state l.file l.caches (table_of l.self) pending) (l.invariant.2 pending order keeps sound),
      )
]
  where
    P : Provision → Allocator → MetadataCaches g.row.S.Denot → ImageFile g.row.S.Denot → Type 0
    P b s ca f = ((pending : List FreeEntry) → MakesBlocks g.S.Storage.state c.args.first (c.loop-index.index + 1) (image_state (table_of c.args.self.now) c.args.caches.now c.args.file.now pending) (so b) (image_state (table_of s) ca f pending)) × (first_free_of s ≡ first_free_of c.args.self.now)
        × ((pending : List FreeEntry) → order_of c.args.caches.now ≡ L2DependsOnRb → IsTrue (g.S.Storage.state c.args.file.now.image).shape.keeps → IsSound (metadata_of g.S.Storage.state c.args.file.now c.args.caches.now (table_of c.args.self.now) pending)
        → FillsFrom (first_free_of c.args.self.now) c.args.first (c.loop-index.index + 1) (metadata_of g.S.Storage.state c.args.file.now c.args.caches.now (table_of c.args.self.now) pending) (metadata_of g.S.Storage.state f ca (table_of s) pending))

    so_still : (b : Provision) (s : Allocator) (ca : MetadataCaches g.row.S.Denot) (f : ImageFile g.row.S.Denot) → c.if-is_none.provision ≡ b → c.if-is_none.self ≡ s → c.if-is_none.caches ≡ ca → c.if-is_none.file ≡ f → P b s ca f
        → P c.if-is_none.provision c.if-is_none.self c.if-is_none.caches c.if-is_none.file
    so_still b s ca f made self caches file known =
        subst (λ (x : Provision). P x c.if-is_none.self c.if-is_none.caches c.if-is_none.file) (sym made)
        (subst (λ (x : Allocator). P b x c.if-is_none.caches c.if-is_none.file) (sym self)
        (subst (λ (x : MetadataCaches g.row.S.Denot). P b s x c.if-is_none.file) (sym caches)
        (subst (λ (x : ImageFile g.row.S.Denot). P b s ca x) (sym file) known)))

pub returns-clause-makes : goal.returns-clause-makes
returns-clause-makes g c = λ pending.
    let l = c.loop-index in
    let past = c.loop-index-test.false in
    let end = l.auto.index-end c.requires.order in
    let all : l.index ≡ c.args.end = omega (arith, past, end) in
    subst (λ (n : ℕ). MakesBlocks g.S.Storage.state c.args.first n (image_state (table_of c.args.self.now) c.args.caches.now c.args.file.now pending) (so l.provision) (image_state (table_of l.self) l.caches l.file pending)) all (l.invariant.0 pending)

pub returns-clause-fills : goal.returns-clause-fills
returns-clause-fills g c = λ pending order keeps sound.
    let l = c.loop-index in
    let past = c.loop-index-test.false in
    let end = l.auto.index-end c.requires.order in
    let all : l.index ≡ c.args.end = omega (arith, past, end) in
    subst (λ (n : ℕ). FillsFrom (first_free_of c.args.self.now) c.args.first n (metadata_of g.S.Storage.state c.args.file.now c.args.caches.now (table_of c.args.self.now) pending) (metadata_of g.S.Storage.state l.file l.caches (table_of l.self) pending)) all (l.invariant.2 pending order keeps sound)
