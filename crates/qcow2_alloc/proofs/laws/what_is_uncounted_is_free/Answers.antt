use Rattle.qcow2_alloc.proofs.Searching.FreeClusters.{uncounted-free, flushes-count, clean-counts}
use Rattle.qcow2_alloc.proofs.laws.what_is_uncounted_is_free.Goals as goal

pub returns : goal.returns
returns c = record { free = uncounted-free; flushed = flushes-count; clean = clean-counts }
