use Rattle.qcow2_steps.proofs.NewTables.{file-copied, file-elsewhere, file-shows-same, memory-copied, memory-elsewhere, memory-shows-same, old-unnamed, table-advances, table-sound}
use Rattle.qcow2_steps.proofs.new_tables.linking_a_new_table.Goals as goal

pub returns : goal.returns
returns g = record {
  sound = λ m marks i c w sound ready by. table-sound m marks i c w sound ready by;
  advances = λ m marks i c w sound ready by. table-advances m marks i c w sound ready by;
  file = λ m marks i c w sound ready by. file-shows-same m marks i c w sound ready by;
  memory = λ m marks i c w sound ready by. memory-shows-same m marks i c w sound ready by;
  raw_entries = λ m marks i c w guest sound ready by. memory-copied m marks i c w sound ready by guest;
  file_words = λ m marks i c w guest sound ready by. file-copied m marks i c w sound ready by guest;
  other_words = λ m marks i c w guest sound ready by apart. (memory-elsewhere m marks i c w sound ready by guest apart, file-elsewhere m marks i c w sound ready by guest apart);
  old = λ m marks i c w d sound ready by. old-unnamed m marks i c w sound ready by d;
}
