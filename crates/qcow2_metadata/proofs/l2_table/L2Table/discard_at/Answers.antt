use Rattle.std.proofs.Common.{◌≡◌, ◌∙◌, ap}
use Rattle.std.specs.Prelude.{slice_index}
use Rattle.qcow2_types.specs.Words.{mapping_of}
use Rattle.qcow2_metadata.specs.Allocations.{freed, allocation_of}
use Rattle.qcow2_metadata.specs.Tables.{l2_table_kind}
use Rattle.qcow2_metadata.proofs.Conservation.{discard_conserves}
use Rattle.qcow2_metadata.proofs.TableSteps.{zero_sound}
use Rattle.qcow2_metadata.proofs.l2_table.L2Table.discard_at.Goals as goal

pub set_entry-requires-clause-sound : goal.set_entry-requires-clause-sound
set_entry-requires-clause-sound c = rw c.empty.ensures (zero_sound l2_table_kind c.args.self.now.layout)

pub returns-clause-conserved : goal.returns-clause-conserved
returns-clause-conserved c =
    let t = c.args.self.now in
    let back : c.to_free.result ≡ freed (allocation_of t.layout.cluster_bits (mapping_of t.layout (slice_index t.raw_entries c.args.index))) = c.to_free.ensures ∙ ap freed c.allocation_at-old.ensures in
    rw back (discard_conserves t.layout (slice_index t.raw_entries c.args.index))
