-- The numbers by which the program reports the checker's findings.
use Rattle.std.specs.Prelude.{ℕ}
use Rattle.qimg_core.specs.declared.check.CheckFault.{CheckFault}
use Rattle.qimg_core.specs.declared.check.CheckFault.TheVariants.{Header, Snapshots, External, Table, SharedTable, FalseCopied, UnderCounted, Memory, Storage}

-- The number of a finding for its text: that of the `Fault` with the same meaning, if any.
abbrev pub check_number : CheckFault → ℕ
check_number Header = 4
check_number Snapshots = 23
check_number External = 24
check_number Table = 5
check_number (SharedTable cluster) = 25
check_number (FalseCopied cluster) = 26
check_number (UnderCounted cluster) = 27
check_number Memory = 20
check_number Storage = 21
