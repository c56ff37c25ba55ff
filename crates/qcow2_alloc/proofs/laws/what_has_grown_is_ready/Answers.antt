use Rattle.qcow2_alloc.proofs.Growth.LongerReftables.{grown-ready, newly-run, old-counts, new-counts}
use Rattle.qcow2_alloc.proofs.laws.what_has_grown_is_ready.Goals as goal

pub returns : goal.returns
returns c = record { ready = grown-ready; run = newly-run; old = old-counts; new = new-counts }
