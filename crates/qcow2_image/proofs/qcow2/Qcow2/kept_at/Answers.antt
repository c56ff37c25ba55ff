use Rattle.std.proofs.Common.{arith, refl}
use Rattle.std.proofs.lemmas.Nat.{mod_below}
use Rattle.qcow2_types.specs.Entries.{l2_entries}
use Rattle.qcow2_image.proofs.Ranges.{high-bits, low-bits, some-words}
use Rattle.qcow2_image.proofs.qcow2.Qcow2.kept_at.Goals as goal

pub look_up-requires-clause-one_table : goal.look_up-requires-clause-one_table
look_up-requires-clause-one_table g c =
    let h = c.args.self.now.tables.file.header.fields in
    let shaped = c.cluster_bits.ensures.shaped in
    let some = some-words h.cluster_bits (low-bits h.cluster_bits h refl shaped) (high-bits h.cluster_bits h refl shaped) in
    let below = mod_below c.args.guest (l2_entries h.cluster_bits) some in
    omega (arith, below)
