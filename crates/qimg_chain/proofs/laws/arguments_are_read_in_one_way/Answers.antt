use Rattle.qimg_chain.proofs.ArgumentLemmas.{asked-once}
use Rattle.qimg_chain.proofs.laws.arguments_are_read_in_one_way.Goals as goal

pub returns : goal.returns
returns c = asked-once
