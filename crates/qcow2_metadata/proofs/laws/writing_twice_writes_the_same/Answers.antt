use Rattle.qcow2_metadata.proofs.Written.{written-again, bytes-again}
use Rattle.qcow2_metadata.proofs.laws.writing_twice_writes_the_same.Goals as goal

pub returns : goal.returns
returns c = record { bytes = bytes-again; header = written-again }
