use Rattle.qimg_chain.proofs.FitFiles.{image-fits}
use Rattle.qimg_chain.proofs.laws.a_consistent_image_may_be_written.Goals as goal

pub returns : goal.returns
returns c = image-fits
