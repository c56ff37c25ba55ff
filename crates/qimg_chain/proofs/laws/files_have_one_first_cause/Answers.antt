use Rattle.qimg_chain.proofs.FirstCauses.{first_once}
use Rattle.qimg_chain.proofs.laws.files_have_one_first_cause.Goals as goal

pub returns : goal.returns
returns g c = first_once g.S.Storage.state
