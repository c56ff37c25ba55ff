use Rattle.qcow2_steps.proofs.WordSteps.{dropped-owed, dropped-reserved, dropped-sound, waits-sound}
use Rattle.qcow2_steps.proofs.words.dropping_a_reference.Goals as goal

pub returns : goal.returns
returns c = record {
  sound = λ m i j old new cached' sound. dropped-sound m i j old cached' sound new;
  owed = λ m i j old new cached' sound drops. dropped-owed m i j old cached' sound new drops;
  reserved = λ m i j old new cached'. dropped-reserved m i j old cached' new;
  waits = λ m i j old new cached' e sound drops. waits-sound m i j old cached' sound new drops e;
}
