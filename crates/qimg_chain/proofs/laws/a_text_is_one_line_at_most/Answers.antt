use Rattle.qimg_chain.proofs.ScriptReading.{one_line}
use Rattle.qimg_chain.proofs.laws.a_text_is_one_line_at_most.Goals as goal

pub returns : goal.returns
returns c = one_line
