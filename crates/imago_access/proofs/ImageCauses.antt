-- An error of a part of a call is an error of the whole call.
use Rattle.std.proofs.Common.{ℕ, List, ◌++◌}
use Rattle.imago_storage.specs.State.{StorageState}
use Rattle.imago_storage.specs.declared.fault.Fault.{Fault}
use Rattle.imago_storage.specs.declared.fault.Fault.TheVariants.{Failed, MissingData, RangeOverflow, Memory, Storage}
use Rattle.imago_access.specs.Layer.{Layer}
use Rattle.imago_access.specs.Files.{Pairs, IsLater, ImageCause}
use Rattle.imago_access.specs.Refusals.{ReadMappedCause}
use Rattle.imago_access.proofs.FilePairs.{pairs_append, some_rose_behind, some_rose_left, some_rose_right}

-- After an earlier call.
pub failed_after : (olds mids news : List StorageState) (e : Fault) → Pairs IsLater olds mids → ImageCause mids news e → ImageCause olds news e
failed_after olds mids news Storage later failed = some_rose_behind olds mids news later failed
failed_after olds mids news _ later failed = failed

-- With more storages.
pub failed_left : (olds news us vs : List StorageState) (e : Fault) → ImageCause olds news e → ImageCause (olds ++ us) (news ++ vs) e
failed_left olds news us vs Storage failed = some_rose_left olds news us vs failed
failed_left olds news us vs _ failed = failed

pub failed_right : (olds news us vs : List StorageState) (e : Fault) → Pairs IsLater olds news → ImageCause us vs e → ImageCause (olds ++ us) (news ++ vs) e
failed_right olds news us vs Storage later failed = some_rose_right olds news us vs later failed
failed_right olds news us vs _ later failed = failed

-- After a call on two groups of storages: with both, and with the first only.
pub failed_then : (olds mids news us ws vs : List StorageState) (e : Fault) → Pairs IsLater olds mids → Pairs IsLater us ws → ImageCause (mids ++ ws) (news ++ vs) e → ImageCause (olds ++ us) (news ++ vs) e
failed_then olds mids news us ws vs e later later' = failed_after (olds ++ us) (mids ++ ws) (news ++ vs) e (pairs_append IsLater olds mids us ws later later')

pub failed_alone : (olds mids news us vs : List StorageState) (e : Fault) → Pairs IsLater olds mids → Pairs IsLater us vs → ImageCause mids news e → ImageCause (olds ++ us) (news ++ vs) e
failed_alone olds mids news us vs e later later' failed = failed_then olds mids news us vs vs e later later' (failed_left mids news vs vs e failed)

pub read_mapped_failed : (layer : Layer) (place n : ℕ) (olds news : List StorageState) (e : Fault) → ReadMappedCause layer place n olds news e → ImageCause olds news e
read_mapped_failed layer place n olds news Failed cause = tt
read_mapped_failed layer place n olds news MissingData cause = tt
read_mapped_failed layer place n olds news RangeOverflow cause = tt
read_mapped_failed layer place n olds news Memory cause = tt
read_mapped_failed layer place n olds news Storage cause = cause
read_mapped_failed layer place n olds news _ cause = absurd cause
