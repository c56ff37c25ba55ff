use Rattle.qimg_chain.proofs.ScriptParting.{line_here}
use Rattle.qimg_chain.proofs.script.input.split_line.Goals as goal

pub returns-in-Some-clause-lines : goal.returns-in-Some-clause-lines
returns-in-Some-clause-lines c =
    rw c.without_return.ensures (line_here c.args.input.now c.in-Some.line.now c.in-Some.rest.now c.in-Some.ensures.parts)
