-- The state of a storage in memory.
use Rattle.std.specs.Prelude.{◌≡◌, None, [], true, false, ℕ, ◌+◌, ◌<◌, ◌≤◌, List, slice_index}
use Rattle.imago_storage.specs.State.{Shape, StorageState, IsAligned}
use Rattle.imago_storage.specs.declared.memory.MemStorage.{MemStorage}

-- The fixed properties of a storage in memory with this alignment.
abbrev pub mem_shape : ℕ → Shape
mem_shape align = record {
  keeps = true;
  tells = false;
  mem_align = align;
  req_align = align;
  zero_align = align;
  discard_align = align;
  filename = None;
}

-- The state of a storage in memory with these bytes. `refusals` is its count of refused changes, and it counts no faults.
abbrev pub memory : List ℕ → ℕ → ℕ → StorageState
memory bytes align refusals = record {
  shape = mem_shape align;
  bytes = bytes;
  faults = 0;
  refusals = refusals;
  crash_image = [];
  past_crash_images = [];
}

-- The state of a `MemStorage`.
unfoldable pub mem_state : MemStorage → StorageState
mem_state m = memory m.bytes.items m.align m.refusals

-- All alignments are the one that was given to the storage.
pub mem_aligned : (m : MemStorage) → IsAligned (mem_state m).shape
unfolding mem_state
mem_aligned m = record { memory = m.aligned; requests = m.aligned; zeroes = m.aligned; discards = m.aligned }

-- The range reads as 0.
abbrev pub Zeroed : List ℕ → ℕ → ℕ → Type 0
Zeroed bytes at n = (k : ℕ) → at ≤ k → k < at + n → slice_index bytes k ≡ 0
