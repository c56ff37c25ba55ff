use Rattle.qcow2_types.proofs.Changes.TableReplaces.{table-replaced-spliced, table-swapped-spliced}
use Rattle.qcow2_types.proofs.steps.linking_another_table.Goals as goal

pub returns : goal.returns
returns c = record { replaced = table-replaced-spliced; swapped = table-swapped-spliced }
