use Rattle.qcow2_types.proofs.Worked.Steps.{counted, mapped, shown}
use Rattle.qcow2_types.proofs.steps.allocating_in_the_worked_image.Goals as goal

pub returns : goal.returns
returns c = record { counted = counted; mapped = mapped; shown = shown }
