use Rattle.qcow2_types.proofs.Counting.Either.{blocks-are-written, tables-are-written}
use Rattle.qcow2_types.proofs.two_versions.changing_the_order.Goals as goal

pub returns : goal.returns
returns c = record { tables_first = blocks-are-written; blocks_first = tables-are-written }
