-- The own faults of one-cluster images and of raw images.
use Rattle.std.proofs.Common.{◌≡◌, List, ap}
use Rattle.std.specs.Prelude.{⊤, Bool, true, false}
use Rattle.imago_storage.specs.Steps.{Call}
use Rattle.imago_storage.specs.declared.fault.Fault.{Fault}
use Rattle.imago_access.specs.Layer.{Layer}
use Rattle.imago_formats.specs.declared.raw.Raw.{Raw}
use Rattle.imago_formats.specs.RawLayer.{RawCause}
use Rattle.access_cases.specs.declared.clusters.OneCluster.{OneCluster}
use Rattle.access_cases.specs.declared.drivers.Driver.{Driver}
use Rattle.access_cases.specs.Clusters.{cluster_cause}
use Rattle.access_cases.specs.Drivers.{is_words, kind_cause}

-- Once a call has begun in a driver of one kind, its faults are those of that kind.
pub raw_causes : {S : Type 0} (raw : Raw S) (below : List Layer) (x : Driver S) (call : Call) → false ≡ is_words x
    → (d : Raw S) × ⊤ × ◌≡◌ {A = Fault → Type 0} (RawCause call) (kind_cause (is_words x) call)
raw_causes raw below x call begun =
    let causes : Bool → Fault → Type 0 = λ words. kind_cause words call in
    (raw, tt, ap {B = Fault → Type 0} causes begun)

pub words_causes : {S : Type 0} (words : OneCluster S) (below : List Layer) (x : Driver S) (call : Call) → true ≡ is_words x
    → (d : OneCluster S) × ⊤ × ◌≡◌ {A = Fault → Type 0} cluster_cause (kind_cause (is_words x) call)
words_causes words below x call begun =
    let causes : Bool → Fault → Type 0 = λ words. kind_cause words call in
    (words, tt, ap {B = Fault → Type 0} causes begun)
