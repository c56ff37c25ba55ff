-- The further files before this one are parsed.
use Rattle.std.proofs.Common.{◌+◌, ◌-◌, ◌*◌, ◌≤◌, drop, length, map}
use Rattle.qimg_chain.specs.Arguments.{extra_of}
use Rattle.qimg_chain.proofs.ArgumentLemmas.{FilesTaken}
use Rattle.qimg_chain.proofs.arguments.parse_extras.Given as goal

abbrev pub invariant-files : goal.invariant-files
invariant-files l = record {
  inside : l.at + 3 * length l.extras.items ≤ length l.words;
  taken : FilesTaken (map (λ w. w.now) (drop l.at l.words)) (map (λ w. w.now) (drop (l.at + 3 * length l.extras.items) l.words)) (map extra_of l.extras.items);
}

abbrev pub decreases-files : goal.decreases-files
decreases-files l = length l.words - (l.at + 3 * length l.extras.items)
