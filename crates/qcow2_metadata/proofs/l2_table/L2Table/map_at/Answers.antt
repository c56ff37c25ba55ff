use Rattle.std.proofs.Common.{◌≡◌, ◌+◌, ◌*◌, ◌^◌, ◌∙◌, ap}
use Rattle.std.specs.Prelude.{slice_index}
use Rattle.qcow2_types.specs.Words.{mapping_of}
use Rattle.qcow2_metadata.specs.Allocations.{freed, replaced, allocation_of}
use Rattle.qcow2_metadata.proofs.Conservation.{map_conserves}
use Rattle.qcow2_metadata.proofs.L2Words.{mapped_sound}
use Rattle.qcow2_metadata.proofs.l2_table.L2Table.map_at.Goals as goal

pub set_entry-requires-clause-sound : goal.set_entry-requires-clause-sound
set_entry-requires-clause-sound c =
    let t = c.args.self.now in
    let raw_entry : c.naming.result ≡ 2 ^ 63 + c.args.cluster * 2 ^ t.layout.cluster_bits = c.naming.ensures ∙ ap (λ p. 2 ^ 63 + p) (c.offset-place.ensures ∙ ap (λ b. c.args.cluster * 2 ^ b) c.cluster_bits.ensures.value) in
    rw raw_entry (mapped_sound t.layout c.args.cluster c.cluster_bits.ensures.table.low c.requires.reach)

pub returns-clause-conserved : goal.returns-clause-conserved
returns-clause-conserved c =
    let t = c.args.self.now in
    let back : c.to_free_unless.result ≡ freed (replaced c.args.cluster (allocation_of t.layout.cluster_bits (mapping_of t.layout (slice_index t.raw_entries c.args.index)))) = c.to_free_unless.ensures ∙ ap (λ a. freed (replaced c.args.cluster a)) c.allocation_at-old.ensures in
    rw back (map_conserves t.layout (slice_index t.raw_entries c.args.index) c.args.cluster c.cluster_bits.ensures.table.low c.requires.reach c.requires.cluster_nonzero)
