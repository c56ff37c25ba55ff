use Rattle.qimg_chain.proofs.PartsRead.{line-read}
use Rattle.qimg_chain.proofs.run.reading.read_line.Goals as goal

pub returns-then-branch-clause-line : goal.returns-then-branch-clause-line
returns-then-branch-clause-line g c = (line-read (g.R.Read.remaining c.args.input.now) (g.R.Read.remaining c.loop.input) (g.R.Read.remaining c.read_part.new.input) c.loop.line.items c.read_part.new.line.items c.in_ok-read_part.field-0 c.if-branch.true c.loop.invariant.0 c.loop.invariant.1 c.in_ok-read_part.ensures.ok).0

pub returns-then-branch-clause-remainder : goal.returns-then-branch-clause-remainder
returns-then-branch-clause-remainder g c = (line-read (g.R.Read.remaining c.args.input.now) (g.R.Read.remaining c.loop.input) (g.R.Read.remaining c.read_part.new.input) c.loop.line.items c.read_part.new.line.items c.in_ok-read_part.field-0 c.if-branch.true c.loop.invariant.0 c.loop.invariant.1 c.in_ok-read_part.ensures.ok).1
