-- The two kinds of drivers in a test script's chain: a raw image, or a one-cluster image.
use Rattle.std.specs.Prelude.{Bool, true, false}
use Rattle.imago_storage.specs.Steps.{Call}
use Rattle.imago_storage.specs.declared.fault.Fault.{Fault}
use Rattle.imago_formats.specs.RawLayer.{RawCause}
use Rattle.access_cases.specs.Clusters.{cluster_cause}
use Rattle.access_cases.specs.declared.drivers.Driver.{Driver}
use Rattle.access_cases.specs.declared.drivers.Driver.TheVariants.{Raw, Words}

-- The driver is a one-cluster image.
abbrev pub is_words : {S : Type 0} → Driver S → Bool
is_words (Raw raw) = false
is_words (Words words) = true

-- The own faults of a one-cluster image, or of a raw image, for a change.
abbrev pub kind_cause : Bool → Call → Fault → Type 0
kind_cause true call fault = cluster_cause fault
kind_cause false call fault = RawCause call fault
