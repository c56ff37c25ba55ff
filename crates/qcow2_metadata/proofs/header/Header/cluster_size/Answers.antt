use Rattle.std.proofs.Common.{arith}
use Rattle.std.proofs.lemmas.Nat.{one_shl}
use Rattle.qcow2_metadata.specs.FieldsView.{seen_fields}
use Rattle.qcow2_metadata.proofs.Powers.{cluster-small, cluster-large}
use Rattle.qcow2_metadata.proofs.header.Header.cluster_size.Goals as goal

pub returns-clause-bounds : goal.returns-clause-bounds
returns-clause-bounds c =
    let h = seen_fields c.self.inside.v2 c.self.inside.v3 in
    rw (one_shl c.self.inside.v2.cluster_bits 64 (omega arith)) (cluster-large h c.self.invariant.parts.shaped, cluster-small h c.self.invariant.parts.shaped)
