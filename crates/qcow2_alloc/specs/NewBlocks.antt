-- Specifies how the refcount blocks that are missing for a run of clusters are written to the run's first clusters.
use Rattle.std.specs.Prelude.{◌≡◌, ◌⊎◌, true, ℕ, ◌+◌, ◌*◌, ◌/◌, ◌%◌, ◌<◌, ◌≤◌, IsTrue, Result, Ok, length, slice_index, MatchResult}
use Rattle.imago_storage.specs.State.{StorageState}
use Rattle.imago_storage.specs.Calls.{CountsNotFallen, IsFaultless, Cause}
use Rattle.imago_storage.specs.declared.fault.Fault.{Fault}
use Rattle.qcow2_types.specs.Bytes.{Bytes, bytes_of}
use Rattle.qcow2_types.specs.Header.{Fields, Header, cluster_size}
use Rattle.qcow2_types.specs.Counts.{counter, counters_of_block}
use Rattle.qcow2_metadata.specs.Blocks.{Block}
use Rattle.qcow2_metadata.specs.Tables.{TableValue}
use Rattle.qcow2_alloc.specs.declared.allocation.searching.Run.{Run}
use Rattle.qcow2_alloc.specs.FreeList.{covers}
use Rattle.qcow2_alloc.specs.Going.{HadNoResourceError}
use Rattle.qcow2_alloc.specs.Growing.{lacks}
use Rattle.qcow2_alloc.specs.MakingRoom.{rank, run_of, CountsTheSame}
use Rattle.qcow2_alloc.specs.GuestView.{Metadata, referenced_at_all, IsUsed, IsSound, IsIn, PreservesGuest}

-- A block for this index of the refcount table counts those clusters of a run that belong to it once, and no others.
pub record CountsItsOwn (h : Fields) (index : ℕ) (run : Run) (block : Block) : Type 0 where
  pub cluster_bits : block.cluster_bits ≡ h.cluster_bits
  pub order : block.order ≡ h.refcount_order
  pub long : length block.counters ≡ counters_of_block h
  pub each : (j : ℕ) → j < counters_of_block h → slice_index block.counters j
      ≡ covers (index * counters_of_block h + j) (run_of run.first run.len)

-- A file has in cluster d a block that counts those clusters of a run that belong to it once, and no others.
abbrev pub HasCountedOwn : Bytes → Fields → ℕ → ℕ → Run → Type 0
HasCountedOwn f h d index run = (c : ℕ) → c / counters_of_block h ≡ index
    → counter f h (d * cluster_size h) (c % counters_of_block h) ≡ covers c (run_of run.first run.len)

-- The image with the bytes of a storage as its file.
abbrev pub with_file : Metadata → StorageState → Metadata
with_file m s = record m { file = bytes_of s.bytes }

-- A storage has the file of an image with this header. n of its clusters have no references, and those that are used are taken.
pub record MayWrite (h : Header) (first n : ℕ) (taken : ℕ → ℕ) (s : StorageState) (m : Metadata) : Type 0 where
  pub file : IsIn s m
  pub header : m.header ≡ h
  pub free : IsSound m → (d : ℕ) → first ≤ d → d < first + n → (referenced_at_all m d ≡ 0) × (IsUsed m d → 0 < taken d)

-- n clusters are written, if they may be. The guest, all refcounts and references, and the rest of the file are unchanged. Only resource
-- errors make the write fail.
pub record WritesClusters (h : Header) (first n : ℕ) (old : StorageState) (result : Result Unit Fault) (new : StorageState) : Type 0 where
  pub shape : new.shape ≡ old.shape
  pub counts_not_fallen : CountsNotFallen old new
  pub faults : HadNoResourceError result → IsFaultless old new
  pub whole : HadNoResourceError result → result ≡ Ok tt
  pub cause : MatchResult result (λ _. new.faults ≡ old.faults) (Cause old.faults new.faults)
  pub guest_unchanged : (m : Metadata) (taken : ℕ → ℕ) → MayWrite h first n taken old m
      → PreservesGuest (HadNoResourceError result) taken taken old m new (with_file m new)
  pub counts : (m : Metadata) (taken : ℕ → ℕ) → MayWrite h first n taken old m → IsTrue old.shape.keeps → IsSound m → result ≡ Ok tt
      → CountsTheSame m (with_file m new)
  pub others : IsTrue old.shape.keeps → result ≡ Ok tt → (p : ℕ) → (p < first * cluster_size h.fields)
      ⊎ ((first + n) * cluster_size h.fields ≤ p) → bytes_of new.bytes p ≡ bytes_of old.bytes p

-- A block for an index is written to cluster d. It counts the clusters of a run that belong to it.
pub record WritesBlockTo (h : Header) (index : ℕ) (run : Run) (d : ℕ) (old : StorageState) (result : Result Unit Fault)
    (new : StorageState) : Type 0 where
  pub writes : WritesClusters h d 1 old result new
  pub counters : (m : Metadata) (taken : ℕ → ℕ) → MayWrite h d 1 taken old m → IsTrue old.shape.keeps → IsSound m → result ≡ Ok tt
      → HasCountedOwn (bytes_of new.bytes) h.fields d index run

-- The blocks that are missing for a run are written to its first clusters, in the order of their indices. They count the clusters of the
-- run that belong to them.
pub record WritesLacking (h : Header) (table : TableValue) (run : Run) (old : StorageState) (result : Result Unit Fault)
    (new : StorageState) : Type 0 where
  pub writes : WritesClusters h run.first run.len old result new
  pub counters : (m : Metadata) (taken : ℕ → ℕ) → MayWrite h run.first run.len taken old m → IsTrue old.shape.keeps → IsSound m
      → result ≡ Ok tt → (i : ℕ) → lacks table (counters_of_block h.fields) run.first run.len i ≡ true
      → HasCountedOwn (bytes_of new.bytes) h.fields (run.first + rank (lacks table (counters_of_block h.fields) run.first run.len) i) i run
