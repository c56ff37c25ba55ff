-- Specifies how refcounts that are too high are lowered. Each pair is a cluster and what its refcount is lowered by.
use Rattle.std.specs.Prelude.{◌≡◌, ℕ, ◌+◌, ◌<◌, ◌≤◌, List, length, take, get_or, Result, OnOk, IfErr}
use Rattle.std.specs.List.{sum_by}
use Rattle.imago_storage.specs.State.{StorageState}
use Rattle.imago_storage.specs.Calls.{CountsNotFallen, IsFaultless}
use Rattle.imago_storage.specs.declared.fault.Fault.{Fault}
use Rattle.qcow2_types.specs.Bytes.{bytes_of, raw_entry}
use Rattle.qcow2_alloc.specs.Allocators.{table_of}
use Rattle.qcow2_alloc.specs.Caches.{cached_in, KeepsTables}
use Rattle.qcow2_alloc.specs.Causes.{FailsFor, HasCause}
use Rattle.qcow2_alloc.specs.Finding.{PinsNothing}
use Rattle.qcow2_alloc.specs.Freeing.{HasUnpinnedSlot, NoneFreeBefore, freeing_causes}
use Rattle.qcow2_alloc.specs.Going.{IsNoShorter, HadNoResourceError}
use Rattle.qcow2_alloc.specs.GuestView.{Metadata, counted, many_at, referenced_at_all, waiting}
use Rattle.qcow2_alloc.specs.State.{AllocatorState, metadata, KeepsWritesAndSound, WhereKept}
use Rattle.qcow2_clusters.specs.Flushed.{Clusters, IsReady, KeepsL1, flushed_metadata, storage}
use Rattle.qcow2_clusters.specs.Freeing.{releasing_causes}
use Rattle.qcow2_clusters.specs.Progress.{Progresses, handing}
use Rattle.qcow2_clusters.specs.Room.{KeepsNoneFreeBefore}
use Rattle.qcow2_clusters.specs.Storing.{Rests}

-- The sum of the numbers that the pairs give for a cluster.
abbrev pub lowered_in : List (ℕ × ℕ) → ℕ → ℕ
lowered_in pairs c = sum_by (λ pair. many_at pair.0 pair.1 c) pairs

-- The excess refcount of each cluster is at least what the pairs lower its refcount by.
abbrev pub HaveExcess : Metadata → List (ℕ × ℕ) → Type 0
HaveExcess m pairs = (c : ℕ) → referenced_at_all m c + waiting m c + lowered_in pairs c ≤ counted m c

-- Each pair lowers a refcount.
abbrev pub ArePositive : List (ℕ × ℕ) → Type 0
ArePositive pairs = (i : ℕ) → i < length pairs → 0 < (get_or pairs i (0, 0)).1

-- If the image is consistent, its clusters have the excess.
abbrev pub AreLeaks : {S : Type 0} → (S → StorageState) → List (ℕ × ℕ) → AllocatorState S → Type 0
AreLeaks state pairs s = WhereKept state s.image (HaveExcess (metadata state s.image) pairs)

-- The refcounts of the first n pairs are lowered, while no L2 table is cached.
pub record LowersPart {S : Type 0} (state : S → StorageState) (pairs : List (ℕ × ℕ)) (n : ℕ) (ok : Type 0)
    (s s' : AllocatorState S) : Type 0 where
  pub shape : (state s'.file.image).shape ≡ (state s.file.image).shape
  pub counts_not_fallen : CountsNotFallen (state s.file.image) (state s'.file.image)
  pub faults : ok → IsFaultless (state s.file.image) (state s'.file.image)
  pub progress : AreLeaks state pairs s → Progresses ok (handing (λ _. 0) (lowered_in (take n pairs))) (state s.file.image)
      (metadata state s.image) (state s'.file.image) (metadata state s'.image)
  pub counts : AreLeaks state pairs s → WhereKept state s.image (ok
      → (c : ℕ) → counted (metadata state s'.image) c + lowered_in (take n pairs) c ≡ counted (metadata state s.image) c)
  pub names : AreLeaks state pairs s → WhereKept state s.image (ok
      → (c : ℕ) → referenced_at_all (metadata state s'.image) c ≤ referenced_at_all (metadata state s.image) c)
  pub marked : AreLeaks state pairs s → WhereKept state s.image (ok
      → NoneFreeBefore (metadata state s.image) s.mark → NoneFreeBefore (metadata state s'.image) s'.mark)
  pub l1 : AreLeaks state pairs s → WhereKept state s.image (ok → (i : ℕ) → i < s.file.header.fields.l1_entries
      → raw_entry (bytes_of (state s'.file.image).bytes) s.file.header.fields.l1_offset i
      ≡ raw_entry (bytes_of (state s.file.image).bytes) s.file.header.fields.l1_offset i)
  pub table : s'.table ≡ s.table
  pub pending : s'.pending ≡ s.pending
  pub header : s'.file.header ≡ s.file.header
  pub no_shorter : IsNoShorter (state s.file.image) (state s'.file.image)
  pub pins : PinsNothing (cached_in s.caches).blocks (cached_in s'.caches).blocks
  pub room : KeepsTables s.caches s'.caches

-- The refcounts of the pairs are lowered, from the first on. `part` pairs were lowered, which are all on success.
pub record LowersEach {S : Type 0} (state : S → StorageState) (pairs : List (ℕ × ℕ)) (s : AllocatorState S) (result : Result Unit Fault)
    (s' : AllocatorState S) : Type 0 where
  pub part : ℕ
  pub whole : OnOk result (part ≡ length pairs)
  pub does : LowersPart state pairs part (HadNoResourceError result) s s'
  pub cause : FailsFor (freeing_causes (KeepsWritesAndSound state s.image × AreLeaks state pairs s × ArePositive pairs)
      (HasUnpinnedSlot s.caches) (state s.file.image).faults (state s'.file.image).faults) result

-- The refcounts of the pairs are lowered, from the first on, and the changed blocks are written. `part` pairs were lowered,
-- which are all on success. If each cluster had the excess, a consistent image stays consistent and the guest unchanged, in
-- crash images, too. Each cluster's excess refcount falls by what the lowered pairs lower its refcount by.
pub record LowersLeaks {S : Type 0} (state : S → StorageState) (pairs : List (ℕ × ℕ)) (c : Clusters S) (result : Result Unit Fault)
    (c' : Clusters S) : Type 0 where
  pub part : ℕ
  pub whole : OnOk result (part ≡ length pairs)
  pub progress : (IsReady state c → HaveExcess (flushed_metadata state c) pairs)
      → Progresses (HadNoResourceError result) (handing (λ _. 0) (lowered_in (take part pairs))) (storage state c) (flushed_metadata state c)
      (storage state c') (flushed_metadata state c')
  pub counts : IsReady state c → HaveExcess (flushed_metadata state c) pairs → HadNoResourceError result
      → (d : ℕ) → counted (flushed_metadata state c') d + lowered_in (take part pairs) d ≡ counted (flushed_metadata state c) d
  pub rests : Rests state c result c'
  pub to_free : c'.space.to_free ≡ c.space.to_free
  pub table : table_of c'.space.allocator ≡ table_of c.space.allocator
  pub l1 : HaveExcess (flushed_metadata state c) pairs → KeepsL1 state c result c'
  pub header : c'.file.header ≡ c.file.header
  pub no_shorter : IsNoShorter (storage state c) (storage state c')
  pub marked : HaveExcess (flushed_metadata state c) pairs → KeepsNoneFreeBefore state c result c'
  pub cause : IfErr result (HasCause (releasing_causes (IsReady state c × HaveExcess (flushed_metadata state c) pairs × ArePositive pairs)
      (storage state c).faults (storage state c').faults))
