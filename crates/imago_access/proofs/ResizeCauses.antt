-- An error of a driver's resize is an error of the chain's resize.
use Rattle.std.proofs.Common.{List, ◌++◌}
use Rattle.imago_storage.specs.State.{StorageState}
use Rattle.imago_storage.specs.declared.fault.Fault.{Fault}
use Rattle.imago_storage.specs.declared.fault.Fault.TheVariants.{Storage}
use Rattle.imago_access.specs.Layer.{Layer}
use Rattle.imago_access.specs.Parts.{ResizeCause}
use Rattle.imago_access.proofs.FilePairs.{some_rose_left}

-- With more storages.
pub resize_cause_wider : (Alters : Type 0) (below : List Layer) (layer : Layer) (causes : Fault → Type 0) (olds news us vs : List StorageState) (e : Fault)
    → ResizeCause Alters below layer causes olds news e → ResizeCause Alters below layer causes (olds ++ us) (news ++ vs) e
resize_cause_wider Alters below layer causes olds news us vs Storage h = some_rose_left olds news us vs h
resize_cause_wider Alters below layer causes olds news us vs _ h = h
