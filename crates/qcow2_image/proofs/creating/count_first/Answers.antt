use Rattle.std.proofs.Common.{ap, ◌∙◌}
use Rattle.std.specs.Prelude.{slice_index}
use Rattle.qcow2_metadata.specs.Blocks.{Block}
use Rattle.qcow2_image.proofs.Resizes.Creations.{one-fits}
use Rattle.qcow2_image.proofs.creating.count_first.Goals as goal

pub returns-in_err-increment-clause-ok : goal.returns-in_err-increment-clause-ok
returns-in_err-increment-clause-ok c =
    let free = ap (λ (b : Block). slice_index b.counters c.args.index) c.lock_write.ensures.value ∙ c.requires.free in
    absurd (let e = c.in_err-increment.ensures.possible.1 (one-fits c.lock_write.result.block.now.order _ free) in cc)

pub returns-in_err-increment-clause-value : goal.returns-in_err-increment-clause-value
returns-in_err-increment-clause-value c =
    let free = ap (λ (b : Block). slice_index b.counters c.args.index) c.lock_write.ensures.value ∙ c.requires.free in
    absurd (let e = c.in_err-increment.ensures.possible.1 (one-fits c.lock_write.result.block.now.order _ free) in cc)
