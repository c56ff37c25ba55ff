use Rattle.qcow2_types.proofs.Changes.TableRewrites.{table-written, table-rewritten}
use Rattle.qcow2_types.proofs.steps.writing_into_a_table.Goals as goal

pub returns : goal.returns
returns c = record {
  written = λ f h was i there g. table-written f g h was i there;
  rewritten = λ f h was i there g. table-rewritten f g h was i there;
}
