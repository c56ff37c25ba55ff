use Rattle.qcow2_metadata.proofs.WrittenBack.{read_back}
use Rattle.qcow2_metadata.proofs.laws.written_table_is_read_back.Goals as goal

pub returns : goal.returns
returns c = read_back
