-- The state of borrowed bytes as a storage.
use Rattle.imago_storage.specs.State.{StorageState, IsAligned}
use Rattle.imago_storage.specs.Null.{one_aligned}
use Rattle.imago_storage.specs.MemStorage.{memory}
use Rattle.imago_storage.specs.declared.view.MemoryView.{MemoryView}

-- The state of a `MemoryView`: a storage in memory of alignment 1.
unfoldable pub view_state : MemoryView → StorageState
view_state v = memory v.bytes.now 1 v.refusals

-- All alignments are 1.
pub view_aligned : (v : MemoryView) → IsAligned (view_state v).shape
unfolding view_state
view_aligned v = record { memory = one_aligned; requests = one_aligned; zeroes = one_aligned; discards = one_aligned }
