use Rattle.qcow2_metadata.proofs.WrittenBack.{written_back}
use Rattle.qcow2_metadata.proofs.laws.loaded_table_is_written_back.Goals as goal

pub returns : goal.returns
returns c = written_back
