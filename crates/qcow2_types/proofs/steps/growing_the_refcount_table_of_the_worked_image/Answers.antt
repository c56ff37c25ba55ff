use Rattle.qcow2_types.proofs.Worked.Growth.{switched, counts, references}
use Rattle.qcow2_types.proofs.steps.growing_the_refcount_table_of_the_worked_image.Goals as goal

pub returns : goal.returns
returns c = record { switched = switched; counts = counts; references = references }
