use Rattle.qcow2_steps.proofs.LongerL1.{file-shows-same, longer-advances, longer-sound, memory-shows-same, old-unnamed, words-kept}
use Rattle.qcow2_steps.proofs.longer_l1.switching_to_a_longer_l1_table.Goals as goal

pub returns : goal.returns
returns g = record {
  sound = λ m o more x sound ready by. longer-sound m o more x sound ready by;
  advances = λ m o more x sound ready by. longer-advances m o more x sound ready by;
  file = λ m o more x sound ready by. file-shows-same m o more x sound ready by;
  memory = λ m o more x sound ready by. memory-shows-same m o more x sound ready by;
  raw_entries = λ m o more guest x sound ready by. words-kept m o more x sound ready by guest;
  old = λ m o more d x sound ready by. old-unnamed m o more x sound ready by d;
}
