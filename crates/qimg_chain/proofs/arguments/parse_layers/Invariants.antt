-- The layers before this one are parsed.
use Rattle.std.proofs.Common.{◌-◌, ◌≤◌, drop, length, map}
use Rattle.qimg_chain.specs.Arguments.{layer_of}
use Rattle.qimg_chain.proofs.ArgumentLemmas.{LayersTaken}
use Rattle.qimg_chain.proofs.arguments.parse_layers.Given as goal

abbrev pub invariant-layers : goal.invariant-layers
invariant-layers l = record {
  inside : l.at ≤ length l.words;
  taken : LayersTaken (map (λ w. w.now) (drop l.from l.words)) (map (λ w. w.now) (drop l.at l.words)) (map layer_of l.layers.items);
}

abbrev pub decreases-layers : goal.decreases-layers
decreases-layers l = length l.words - l.at
