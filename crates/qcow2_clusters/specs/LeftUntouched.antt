-- Specifies a call that fails before its first change: the flag `begun` isn't set, and nothing has changed.
use Rattle.std.specs.Prelude.{◌≡◌, Bool, false, Result, OnOk}
use Rattle.imago_storage.specs.State.{StorageState}
use Rattle.imago_storage.specs.Calls.{UnchangedButFaults}
use Rattle.imago_storage.specs.declared.fault.Fault.{Fault}
use Rattle.qcow2_metadata.specs.Tables.{TableValue}
use Rattle.qcow2_alloc.specs.Caches.{cached_in}
use Rattle.qcow2_alloc.specs.WellFormedness.{AreBlocksClean, AreTablesClean}
use Rattle.qcow2_clusters.specs.MakingTables.{HasEntriesOf}
use Rattle.qcow2_clusters.specs.Flushed.{Clusters, storage}

-- The call failed before it had begun: no byte of the file has changed, and the header and the free space are unchanged.
pub record IsLeftUntouched {S T : Type 0} (state : S → StorageState) (was : Bool) (c : Clusters S) (result : Result T Fault) (c' : Clusters S)
    : Type 0 where
  pub unbegun : was ≡ false
  pub refused : OnOk result ⊥
  pub unchanged_but_faults : UnchangedButFaults (storage state c) (storage state c')
  pub header : c'.file.header ≡ c.file.header
  pub space : c'.space ≡ c.space

-- If the call hasn't begun, it left everything untouched.
abbrev pub LeavesUntouched : {S T : Type 0} → (S → StorageState) → (was : Bool) → Clusters S → Result T Fault → (now : Bool) → Clusters S → Type 0
LeavesUntouched state was c result now c' = now ≡ false → IsLeftUntouched state was c result c'

-- Like `LeavesUntouched`, and the L1 table in memory has the same entries.
abbrev pub LeavesTopUntouched : {S T : Type 0} → (S → StorageState) → (was : Bool) → TableValue → Clusters S → Result T Fault → (now : Bool)
    → TableValue → Clusters S → Type 0
LeavesTopUntouched state was top c result now top' c' = now ≡ false → IsLeftUntouched state was c result c' × HasEntriesOf top top'

-- Like `LeavesUntouched`, while the caches aren't emptied yet: nothing cached is dirty.
abbrev pub LeavesUnsettledUntouched : {S T : Type 0} → (S → StorageState) → (was : Bool) → Clusters S → Result T Fault → (now : Bool) → Clusters S
    → Type 0
LeavesUnsettledUntouched state was c result now c' = now ≡ false
    → IsLeftUntouched state was c result c' × AreTablesClean (cached_in c'.caches) × AreBlocksClean (cached_in c'.caches)
