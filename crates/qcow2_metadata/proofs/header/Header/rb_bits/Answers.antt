use Rattle.qcow2_metadata.specs.FieldsView.{seen_fields}
use Rattle.qcow2_metadata.proofs.Powers.{power-counters}
use Rattle.qcow2_metadata.proofs.header.Header.rb_bits.Goals as goal

pub returns-clause-entries : goal.returns-clause-entries
returns-clause-entries c = rw (← c.self.view_is) (power-counters (seen_fields c.self.inside.v2 c.self.inside.v3) c.self.invariant.parts.shaped)
