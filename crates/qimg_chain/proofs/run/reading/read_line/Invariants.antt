-- No line feed is read yet.
use Rattle.std.proofs.Common.{◌≢◌, All}
use Rattle.std.specs.Io.KnownBytes.{Consumes}
use Rattle.qimg_chain.proofs.run.reading.read_line.Given as goal

abbrev pub invariant-loop : goal.invariant-loop
invariant-loop g l = Consumes (g.R.Read.remaining l.initial.input) (g.R.Read.remaining l.input) l.line.items × All (λ b. b ≢ 10) l.line.items
