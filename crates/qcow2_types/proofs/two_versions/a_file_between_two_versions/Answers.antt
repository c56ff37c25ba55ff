use Rattle.qcow2_types.proofs.Counting.Either.{refs-between, named-falls, named-clean}
use Rattle.qcow2_types.proofs.Changes.Stops.{copied-between, apart-falls}
use Rattle.qcow2_types.proofs.Showing.Values.{value-either}
use Rattle.qcow2_types.proofs.two_versions.a_file_between_two_versions.Goals as goal

pub returns : goal.returns
returns c = record { references = refs-between; copied_references = copied-between; falls = named-falls; apart = apart-falls; shows = λ f x g external h. value-either x f g external h; clean = named-clean }
