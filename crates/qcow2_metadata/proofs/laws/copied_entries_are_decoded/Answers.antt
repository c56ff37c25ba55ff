use Rattle.std.proofs.Common.{ap}
use Rattle.std.specs.Prelude.{Bool, if◌then◌else◌}
use Rattle.qcow2_metadata.specs.Tables.{raw_without_copied}
use Rattle.qcow2_metadata.proofs.L2Words.{shared_means}
use Rattle.qcow2_metadata.proofs.laws.copied_entries_are_decoded.Goals as goal

pub returns : goal.returns
returns c = record { inside = shared_means; external = λ layout w external. ap (λ (b : Bool). if b then w else raw_without_copied w) external }
