use Rattle.qcow2_types.proofs.Worked.Disk.{unmapped_below, unmapped_alone, zero_above, zero_entry, older_zero, packed_in_two}
use Rattle.qcow2_types.proofs.worked_image.other_words.Goals as goal

pub returns : goal.returns
returns c = record { unmapped = unmapped_below; unmapped_alone = unmapped_alone; zero = zero_above; zero_entry = zero_entry; older_zero = older_zero; compressed = packed_in_two }
