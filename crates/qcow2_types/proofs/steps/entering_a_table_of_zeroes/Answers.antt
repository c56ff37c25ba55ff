use Rattle.qcow2_types.proofs.Changes.TableSteps.{table-entered-spliced}
use Rattle.qcow2_types.proofs.steps.entering_a_table_of_zeroes.Goals as goal

pub returns : goal.returns
returns c = table-entered-spliced
