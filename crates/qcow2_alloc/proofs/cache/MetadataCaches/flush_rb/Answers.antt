use Rattle.std.proofs.Common.{◌≡◌, refl, Ok}
use Rattle.qcow2_alloc.specs.Going.{ReadyBlocks, WritesTables, WritesBlocks}
use Rattle.qcow2_alloc.proofs.Flushing.FaultlessCalls.{faultless-then}
use Rattle.qcow2_alloc.proofs.Flushing.WriteSequences.{going-next, in-turn-both, in-turn-halted}
use Rattle.qcow2_alloc.proofs.Faults.{handed-on}
use Rattle.qcow2_alloc.proofs.cache.MetadataCaches.flush_rb.Goals as goal

pub returns-clause-writes_back_cached : goal.returns-clause-writes_back_cached
returns-clause-writes_back_cached g c =
    going-next ReadyBlocks c.args.file.now.header _ _ _ (Ok tt ≡ Ok tt) (c.flush_blocks.result ≡ Ok tt) _ _ _ _ _ _ c.in_ok-before_blocks.ensures.others.2 c.in_ok-before_blocks.ensures.others.1 refl c.in_ok-before_blocks.ensures.ready
    c.in_ok-before_blocks.ensures.writes_back_cached c.flush_blocks.ensures.writes_back_cached

pub returns-clause-in_turn : goal.returns-clause-in_turn
returns-clause-in_turn g c = λ order. in-turn-both WritesTables WritesBlocks _ _ _ _ _ _ _ (c.in_ok-before_blocks.ensures.written order) c.flush_blocks.ensures.written

pub returns-in_err-before_blocks-clause-in_turn : goal.returns-in_err-before_blocks-clause-in_turn
returns-in_err-before_blocks-clause-in_turn g c = rw (handed-on _ _ c.from_residual.ensures.1) (λ order. in-turn-halted WritesTables WritesBlocks _ _ _ _ c.in_err-before_blocks.field-0.0 (c.in_err-before_blocks.ensures.written order))

pub returns-clause-faults : goal.returns-clause-faults
returns-clause-faults g c = λ whole. faultless-then (c.in_ok-before_blocks.ensures.faults tt) (c.flush_blocks.ensures.faults whole)
