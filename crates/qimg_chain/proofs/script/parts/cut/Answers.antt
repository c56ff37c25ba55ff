use Rattle.qimg_chain.proofs.ScriptParting.{cut_here, uncut}
use Rattle.qimg_chain.proofs.script.parts.cut.Goals as goal

pub returns-in-Some-clause-parts : goal.returns-in-Some-clause-parts
returns-in-Some-clause-parts c =
    rw (c.split_at.ensures.front, c.split_at-in-Some.ensures.back) (cut_here c.args.byte c.args.text.now c.in-Some.end c.in-Some.ensures)

pub returns-in-None-clause-parts : goal.returns-in-None-clause-parts
returns-in-None-clause-parts c = uncut c.args.byte c.args.text.now c.in-None.ensures
