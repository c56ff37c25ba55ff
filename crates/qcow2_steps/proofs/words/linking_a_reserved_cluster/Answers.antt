use Rattle.qcow2_steps.proofs.WordSteps.{named-owed, named-reserved, named-sound}
use Rattle.qcow2_steps.proofs.words.linking_a_reserved_cluster.Goals as goal

pub returns : goal.returns
returns c = record {
  sound = λ m i j x old cached' sound. named-sound m i j old cached' sound x;
  owed = λ m i j x old cached' sound. named-owed m i j old cached' sound x;
  reserved = λ m i j x old cached'. named-reserved m i j old cached' x;
}
