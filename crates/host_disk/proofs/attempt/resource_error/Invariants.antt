use Rattle.std.proofs.Common.{drop}
use Rattle.qimg_calls.specs.Runs.{AllGoOn}
use Rattle.host_disk.proofs.attempt.resource_error.Given as goal

abbrev pub invariant-loop-answer : goal.invariant-loop-answer
invariant-loop-answer l = AllGoOn (drop l.answer-index l.answers) → AllGoOn l.answers
