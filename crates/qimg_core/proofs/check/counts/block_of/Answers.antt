-- The block that an entry of the refcount table references.
use Rattle.std.proofs.Common.{◌∙◌, ◌/◌, ◌^◌, ap, arith}
use Rattle.std.specs.Prelude.{slice_index}
use Rattle.qimg_core.proofs.Counts.Blocks.{holds-none, holds-missing, holds-past, holds-loaded}
use Rattle.qimg_core.proofs.check.counts.block_of.Goals as goal
use Rattle.qimg_core.proofs.check.counts.block_of.Goals.{then-index-blocks-via-then-index-blocks, then-index-blocks-via-else-index-blocks+then-blocks-index-eq0, then-index-blocks-via-else-index-blocks+else-blocks-index-eq0+then-size-blocks}

pub returns-then-index-blocks-clause-ok : goal.returns-then-index-blocks-clause-ok
returns-then-index-blocks-clause-ok g c = elim c.then-index-blocks.branch [
  | then-index-blocks-via-then-index-blocks w ↦ holds-missing _ _ c.args.blocks.now c.args.index c.requires.blocks w.if-index-blocks.true
  | then-index-blocks-via-else-index-blocks+then-blocks-index-eq0 w ↦ holds-none _ _ c.args.blocks.now c.args.index c.requires.blocks w.if-blocks-index-eq0.true
  | then-index-blocks-via-else-index-blocks+else-blocks-index-eq0+then-size-blocks w ↦ holds-past (g.S.Storage.state c.args.image.now).bytes _ c.args.blocks.now c.args.index c.requires.blocks w.if-blocks-index-eq0.false (omega (arith, w.size.ensures.bytes, w.if-size-blocks.true))
]

pub returns-in-Ok-clause-ok : goal.returns-in-Ok-clause-ok
returns-in-Ok-clause-ok g c = holds-loaded _ _ c.args.blocks.now c.args.index c.cluster-cluster.result c.in-Ok.block c.requires.blocks c.if-blocks-index-eq0.false (c.cluster-cluster.ensures ∙ ap (λ b. slice_index c.args.blocks.now c.args.index / 2 ^ b) c.cluster_bits.ensures.value) c.in-Ok.ensures.ok
