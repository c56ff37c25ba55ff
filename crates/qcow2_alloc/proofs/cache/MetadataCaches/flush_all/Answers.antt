use Rattle.std.proofs.Common.{◌≡◌, refl, sym, ◌∙◌, Ok}
use Rattle.qcow2_alloc.specs.Going.{ReadyTables, ReadyBlocks, WritesTables, WritesBlocks}
use Rattle.qcow2_alloc.proofs.Flushing.FaultlessCalls.{faultless-then}
use Rattle.qcow2_alloc.proofs.Flushing.WriteSequences.{going-next, in-turn-both, in-turn-halted}
use Rattle.qcow2_alloc.proofs.Faults.{handed-on}
use Rattle.qcow2_alloc.proofs.cache.MetadataCaches.flush_all.Goals as goal

pub returns-then-eq-clause-writes_back_cached : goal.returns-then-eq-clause-writes_back_cached
returns-then-eq-clause-writes_back_cached g c =
    going-next ReadyTables c.args.file.now.header _ _ _ (Ok tt ≡ Ok tt) (c.flush_l2.result ≡ Ok tt) _ _ _ _ _ _ c.in_ok-flush_rb.ensures.others.1 c.in_ok-flush_rb.ensures.others.0 refl (λ first. c.in_ok-flush_rb.ensures.clean)
    c.in_ok-flush_rb.ensures.writes_back_cached c.flush_l2.ensures.writes_back_cached

pub returns-clause-writes_back_cached : goal.returns-clause-writes_back_cached
returns-clause-writes_back_cached g c =
    going-next ReadyBlocks c.args.file.now.header _ _ _ (Ok tt ≡ Ok tt) (c.flush_blocks.result ≡ Ok tt) _ _ _ _ _ _ c.in_ok-flush_tables.ensures.others.1 c.in_ok-flush_tables.ensures.others.0 refl (λ first. c.in_ok-flush_tables.ensures.clean)
    c.in_ok-flush_tables.ensures.writes_back_cached c.flush_blocks.ensures.writes_back_cached

pub returns-then-eq-clause-blocks_first : goal.returns-then-eq-clause-blocks_first
returns-then-eq-clause-blocks_first g c = λ order. in-turn-both WritesBlocks WritesTables _ _ _ _ _ _ _ (c.in_ok-flush_rb.ensures.alone (λ other. let both = sym order ∙ other in cc)) c.flush_l2.ensures.written

pub returns-in_err-flush_rb-clause-blocks_first : goal.returns-in_err-flush_rb-clause-blocks_first
returns-in_err-flush_rb-clause-blocks_first g c = rw (handed-on _ _ c.from_residual.ensures.1) (λ order. in-turn-halted WritesBlocks WritesTables _ _ _ _ c.in_err-flush_rb.field-0.0 (c.in_err-flush_rb.ensures.alone (λ other. let both = sym order ∙ other in cc)))

pub returns-clause-tables_first : goal.returns-clause-tables_first
returns-clause-tables_first g c = λ order. in-turn-both WritesTables WritesBlocks _ _ _ _ _ _ _ (c.in_ok-flush_tables.ensures.alone order) c.flush_blocks.ensures.written

pub returns-in_err-flush_tables-clause-tables_first : goal.returns-in_err-flush_tables-clause-tables_first
returns-in_err-flush_tables-clause-tables_first g c = rw (handed-on _ _ c.from_residual-in_err-flush_tables.ensures.1) (λ order. in-turn-halted WritesTables WritesBlocks _ _ _ _ c.in_err-flush_tables.field-0.0 (c.in_err-flush_tables.ensures.alone order))

pub returns-then-eq-clause-faults : goal.returns-then-eq-clause-faults
returns-then-eq-clause-faults g c = λ whole. faultless-then (c.in_ok-flush_rb.ensures.faults tt) (c.flush_l2.ensures.faults whole)

pub returns-clause-faults : goal.returns-clause-faults
returns-clause-faults g c = λ whole. faultless-then (c.in_ok-flush_tables.ensures.faults tt) (c.flush_blocks.ensures.faults whole)
