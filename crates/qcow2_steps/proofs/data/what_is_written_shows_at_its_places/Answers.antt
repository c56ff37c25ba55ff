use Rattle.qcow2_steps.proofs.WriteValues.{written-memory, written-stops, written-there}
use Rattle.qcow2_steps.proofs.data.what_is_written_shows_at_its_places.Goals as goal

pub returns : goal.returns
returns g = record { memory = written-memory; crash_images = written-stops; written_bytes_read = written-there }
