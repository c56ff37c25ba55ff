use Rattle.qimg_chain.proofs.HandedIn.{handed-mean}
use Rattle.qimg_chain.proofs.laws.files_handed_in_mean_the_disk_too.Goals as goal

pub returns : goal.returns
returns g c = handed-mean g.row.S g.S.Storage g.S.Storage-dict g.S.Destruct-dict _
