use Rattle.qimg_chain.proofs.FitFiles.{raw-fits}
use Rattle.qimg_chain.proofs.laws.a_raw_file_may_be_written.Goals as goal

pub returns : goal.returns
returns c = raw-fits
