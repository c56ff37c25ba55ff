use Rattle.qcow2_metadata.proofs.TableSteps.{table_named, block_named}
use Rattle.qcow2_metadata.proofs.laws.entered_places_are_named.Goals as goal

pub returns : goal.returns
returns c = record { table = table_named; block = block_named }
