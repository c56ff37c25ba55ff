use Rattle.qcow2_types.proofs.Counting.Either.{table-after-blocks, table-before-blocks, block-before-tables, block-after-tables, table-without-order, block-without-order}
use Rattle.qcow2_types.proofs.two_versions.writing_in_order.Goals as goal

pub returns : goal.returns
returns c = record {
  table_after_blocks = table-after-blocks;
  block_before_tables = block-before-tables;
  table_before_blocks = table-before-blocks;
  block_after_tables = block-after-tables;
  table_without_order = table-without-order;
  block_without_order = block-without-order;
}
