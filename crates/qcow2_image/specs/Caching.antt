-- The sizes of the caches of an image, and their state between calls.
use Rattle.std.specs.Prelude.{◌≡◌, ℕ, ◌<◌, ◌≤◌}
use Rattle.qcow2_alloc.specs.Caches.{cached_in}
use Rattle.qcow2_alloc.specs.Finding.{pinned_in}
use Rattle.qcow2_alloc.specs.Memory.{Cached}
use Rattle.qcow2_alloc.specs.WellFormedness.{AreTablesClean, AreBlocksClean}
use Rattle.qcow2_alloc.specs.declared.cache.MetadataCaches.{MetadataCaches}

-- Each number is from 2 to 65,536.
abbrev pub AreCacheSizes : ℕ → ℕ → Type 0
AreCacheSizes l2_tables refcount_blocks = (2 ≤ l2_tables) × (l2_tables ≤ 65_536) × (2 ≤ refcount_blocks) × (refcount_blocks ≤ 65_536)

-- Nothing that is cached is dirty.
abbrev pub IsClean : Cached → Type 0
IsClean cached = AreTablesClean cached × AreBlocksClean cached

-- Nothing that is cached is pinned (kept from eviction), and the caches have slots. So there is always a slot for one more entry, and
-- everything can be dropped.
abbrev pub IsUnpinned : {S : Type 0} → MetadataCaches S → Type 0
IsUnpinned caches = (pinned_in (cached_in caches).tables ≡ 0) × (pinned_in (cached_in caches).blocks ≡ 0) × (0 < caches.l2.slots.cap)
    × (0 < caches.rb.slots.cap)
