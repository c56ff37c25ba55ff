use Rattle.qcow2_steps.proofs.StepSums.{advances-then, left-then, reserved-still}
use Rattle.qcow2_steps.proofs.advancing.steps_add_up.Goals as goal

pub returns : goal.returns
returns g c = let one = g.First.Step in let two = g.Second.Step in record {
  both = λ handed taken handed' taken' m m1 m2 first. advances-then one.gives two.gives one.written one.set handed taken m m1 first two.written two.set handed' taken' m2;
  crash_images = λ handed taken m m1 x H first. left-then one.gives two.gives one.written one.set handed taken m m1 first x H;
  reserved = λ handed taken. reserved-still one.gives one.written one.set handed taken;
}
