-- Specifies what the checker and its parts return: findings about a qcow2 file, or errors.
use Rattle.std.specs.Prelude.{◌≡◌, ℕ, IsTrue, IsFalse, Err, List, Any, Option}
use Rattle.imago_storage.specs.State.{StorageState, HasRisen}
use Rattle.imago_storage.specs.declared.fault.Fault.{Fault}
use Rattle.imago_storage.specs.declared.fault.Fault.TheVariants as fault
use Rattle.qcow2_types.specs.Bytes.{Bytes}
use Rattle.qcow2_types.specs.Header.{Fields}
use Rattle.qcow2_types.specs.Entries.{l2_table_sound}
use Rattle.qcow2_types.specs.Consistency.{Finding, header, snapshots, external, table, shared_table, false_copied, under_counted, IsVerdict, tables_sound, is_under_counted, Nowhere, IsLeast}
use Rattle.qimg_core.specs.Searches.{is_such, IsFirstWithin}
use Rattle.qimg_core.specs.declared.check.names.Tallies.{Tallies}
use Rattle.qimg_core.specs.declared.check.search.Question.TheVariants as question
use Rattle.qimg_core.specs.declared.check.CheckFault.{CheckFault}
use Rattle.qimg_core.specs.declared.check.CheckFault.TheVariants.{Header, Snapshots, External, Table, SharedTable, FalseCopied, UnderCounted, Memory, Storage}

-- The check failed with a finding for which `P` holds, because memory ran out, or because the storage failed.
abbrev pub Found : StorageState → StorageState → (Finding → Type 0) → CheckFault → Type 0
Found old new P Header = P header × (new.faults ≡ old.faults)
Found old new P Snapshots = P snapshots × (new.faults ≡ old.faults)
Found old new P External = P external × (new.faults ≡ old.faults)
Found old new P Table = P table × (new.faults ≡ old.faults)
Found old new P (SharedTable c) = P (shared_table c) × (new.faults ≡ old.faults)
Found old new P (FalseCopied c) = P (false_copied c) × (new.faults ≡ old.faults)
Found old new P (UnderCounted c) = P (under_counted c) × (new.faults ≡ old.faults)
Found old new P Memory = new.faults ≡ old.faults
Found old new P Storage = HasRisen old.faults new.faults

-- `finding` is the verdict on the file.
abbrev pub IsFinding : Bytes → Finding → Type 0
IsFinding f finding = IsVerdict f (Err finding)

-- The finding is a damaged table.
abbrev pub IsUnsound : Bytes → Fields → Finding → Type 0
IsUnsound f h table = IsFalse (tables_sound f h)
IsUnsound f h finding = ⊥

-- No finding satisfies this.
abbrev pub NoFinding : Finding → Type 0
NoFinding finding = ⊥

-- The finding is that the L2 table at `place` is damaged, or one of those at `places`.
abbrev pub IsDamagedTable : Bytes → Fields → ℕ → Finding → Type 0
IsDamagedTable f h place table = IsFalse (l2_table_sound f h place)
IsDamagedTable f h place finding = ⊥

abbrev pub IsOneDamaged : Bytes → Fields → List ℕ → Finding → Type 0
IsOneDamaged f h places table = Any (λ place. IsFalse (l2_table_sound f h place)) places
IsOneDamaged f h places finding = ⊥

-- The finding is the lowest cluster whose refcount is less than the number of its references.
abbrev pub IsUnder : Bytes → Fields → Finding → Type 0
IsUnder f h (under_counted c) = IsLeast (is_under_counted f h) c
IsUnder f h finding = ⊥

-- The fault is the first finding among clusters that are referenced more than once.
abbrev pub SharesFirst : Tallies → CheckFault → Type 0
SharesFirst names (SharedTable c) = IsLeast (is_such question.Shared names) c
SharesFirst names (FalseCopied c) = Nowhere (is_such question.Shared names) × IsLeast (is_such question.FalselyCopied names) c
SharesFirst names fault = ⊥

-- The fault is that of the first referenced cluster between two bounds.
abbrev pub NamesFirst : Tallies → ℕ → Option ℕ → CheckFault → Type 0
NamesFirst names low high (UnderCounted c) = IsFirstWithin (is_such question.AtAll names) low high c
NamesFirst names low high fault = ⊥

-- The checker's fault for a failed load: memory and storage faults keep their kind, and any other becomes `other`.
abbrev pub fault_of_load : CheckFault → Fault → CheckFault
fault_of_load other fault.Memory = Memory
fault_of_load other fault.Storage = Storage
fault_of_load other fault = other
