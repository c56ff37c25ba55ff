use Rattle.std.specs.Prelude.{◌≡◌, ◌≤◌, None, length, take, vec_len, vec_capacity}
use Rattle.qimg_calls.specs.Held.{chain_with_mapping, MappingIsPrepared}
use Rattle.qimg_calls.specs.Making.{AnswersAll}
use Rattle.qimg_calls.proofs.driving.make_all.Given as goal

-- The calls up to here are made, each with its answer. The vector has capacity for the others.
abbrev pub invariant-loop-call : goal.invariant-loop-call
invariant-loop-call g l =
    AnswersAll g.D.DriverModel (take l.call-index l.calls) l.answers.items (chain_with_mapping l.fn.chain None) (chain_with_mapping l.chain l.kept)
    × MappingIsPrepared g.D.DriverModel (chain_with_mapping l.chain l.kept)
    × (vec_len l.answers ≡ l.call-index)
    × (length l.calls ≤ vec_capacity l.answers)
