use Rattle.qcow2_types.proofs.Changes.SlotSteps.{slot-rewritten-spliced, slot-references-spliced}
use Rattle.qcow2_types.proofs.steps.rewriting_an_entry.Goals as goal

pub returns : goal.returns
returns c = record { written = slot-rewritten-spliced; references = slot-references-spliced }
