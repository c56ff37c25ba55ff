use Rattle.qcow2_alloc.proofs.Faults.{handed-on}
use Rattle.qcow2_image.proofs.Resizes.ZeroedEntries.{failed-part, zeroed-part}
use Rattle.qcow2_image.proofs.qcow2.Qcow2.zero_entries.Goals as goal

pub returns-clause-zeroes : goal.returns-clause-zeroes
returns-clause-zeroes g c =
    zeroed-part g.S.Storage c.args.table c.args.guest c.args.count c.args.self.now c.clear_clusters.new.self c.requires.row c.requires.any
    c.requires.free c.in_ok-clear_clusters.ensures.clears

pub returns-in_err-clear_clusters-clause-zeroes : goal.returns-in_err-clear_clusters-clause-zeroes
returns-in_err-clear_clusters-clause-zeroes g c = rw (handed-on _ _ c.from_residual.ensures.1)
    (failed-part g.S.Storage c.args.table c.args.guest c.args.count c.args.self.now c.clear_clusters.new.self c.requires.row c.requires.any
    c.requires.free c.requires.past c.in_err-clear_clusters.field-0.0 c.in_err-clear_clusters.ensures.clears)
