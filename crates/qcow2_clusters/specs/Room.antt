-- The free clusters of an image: what an allocation leaves of them, and when they aren't enough. `mark` is the
-- first-free hint, where searches for free clusters start.
use Rattle.std.specs.Prelude.{◌≡◌, ◌+◌, ◌<◌, ◌≤◌, ℕ, Result}
use Rattle.imago_storage.specs.State.{StorageState}
use Rattle.imago_storage.specs.declared.fault.Fault.{Fault}
use Rattle.qcow2_alloc.specs.Allocators.{first_free_of}
use Rattle.qcow2_alloc.specs.Crowding.{IsCrowded, space}
use Rattle.qcow2_alloc.specs.GuestView.{Metadata, counted}
use Rattle.qcow2_alloc.specs.ReadyingRuns.{IsRunTold}
use Rattle.qcow2_alloc.specs.Freeing.{NoneFreeBefore}
use Rattle.qcow2_alloc.specs.Going.{HadNoResourceError}
use Rattle.qcow2_clusters.specs.Flushed.{Clusters, IsReady, flushed_metadata}

-- The first-free hint.
abbrev pub first_free_in : {S : Type 0} → Clusters S → ℕ
first_free_in c = first_free_of c.space.allocator

-- If no cluster before the hint was free, none is free before it after the call.
abbrev pub KeepsNoneFreeBefore : {S T : Type 0} → (S → StorageState) → Clusters S → Result T Fault → Clusters S → Type 0
KeepsNoneFreeBefore state c result c' = IsReady state c → HadNoResourceError result
    → NoneFreeBefore (flushed_metadata state c) (first_free_in c) → NoneFreeBefore (flushed_metadata state c') (first_free_in c')

-- `total` consecutive clusters below `end` have refcount 0, at or after `mark`.
pub record HasFree (counts : ℕ → ℕ) (mark end total : ℕ) : Type 0 where
  pub first : ℕ
  pub not_before_start : mark ≤ first
  pub below : first + total ≤ end
  pub free : (c : ℕ) → first ≤ c → c < first + total → counts c ≡ 0

-- The image has `total` consecutive free clusters, of all clusters that it can address.
abbrev pub HasFreeClusters : Metadata → (mark total : ℕ) → Type 0
HasFreeClusters m mark total = HasFree (counted m) mark (space m.header.fields) total

-- If the image had a run of `taken + total` free clusters, it still has one of `total`.
pub record LeavesRoom (taken : ℕ) (m : Metadata) (mark : ℕ) (m' : Metadata) (mark' : ℕ) : Type 0 where
  pub as_large : space m'.header.fields ≡ space m.header.fields
  pub left : (total : ℕ) → 0 < total → HasFreeClusters m mark (taken + total) → HasFreeClusters m' mark' total

-- The image had no long enough run for `n` clusters. `number` says why the first free run after the call can't be
-- allocated.
pub record IsFull (n : ℕ) (m : Metadata) (mark : ℕ) (m' : Metadata) (mark' number : ℕ) : Type 0 where
  pub crowded : IsCrowded m mark n
  pub told : IsRunTold m' mark' n number
