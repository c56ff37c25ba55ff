use Rattle.std.proofs.Common.{◌∙◌, sym}
use Rattle.qimg_chain.proofs.BothReads.{both, disk_stays}
use Rattle.qimg_chain.proofs.laws.a_plain_read_and_a_read_agree.Goals as goal

pub returns-clause-agree : goal.returns-clause-agree
returns-clause-agree g c files others old new offset n plain buf same means read long reads =
    both _ _ offset plain buf (rw (same) means) reads.1 read.shows (reads.0 ∙ sym long)

pub returns-clause-again : goal.returns-clause-again
returns-clause-again g c files old new offset n buf means reads = disk_stays g.D.DriverModel.layer _ old new means reads.2
