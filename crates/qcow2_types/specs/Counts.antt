-- The refcount of each host cluster, as the refcount table and the refcount blocks have it.
use Rattle.std.specs.Prelude.{ℕ, ◌+◌, ◌*◌, ◌/◌, ◌%◌, ◌^◌, Bool, ◌==◌, nat_lt, nat_le, if◌then◌else◌}
use Rattle.qcow2_types.specs.Bytes.{Bytes, be, raw_entry, all_below}
use Rattle.qcow2_types.specs.Words.{block_offset, reftable_entry_valid}
use Rattle.qcow2_types.specs.Header.{Fields, cluster_size, refcount_table_entries}

-- the refcount width, in bits
abbrev pub counter_bits : Fields → ℕ
counter_bits h = 2 ^ h.refcount_order

-- the number of refcounts in a block, which fills one cluster
abbrev pub counters_of_block : Fields → ℕ
counters_of_block h = cluster_size h * 8 / counter_bits h

-- the offset of the block that refcount table entry i references; 0 if it references none, or if i is past the table's end
abbrev pub block_at : Bytes → Fields → ℕ → ℕ
block_at f h i = if nat_lt i (refcount_table_entries h) then block_offset (raw_entry f h.refcount_table_offset i) else 0

-- Each entry of the refcount table is valid. If one isn't, the whole table is damaged.
unfoldable pub refcount_table_sound : Bytes → Fields → Bool
refcount_table_sound f h = all_below (refcount_table_entries h) (λ i. reftable_entry_valid h.cluster_bits (raw_entry f h.refcount_table_offset i))

-- refcount i of a block with refcounts of 8 bits or more: a big-endian number
abbrev pub wide_counter : Bytes → ℕ → ℕ → ℕ → ℕ
wide_counter f width block i = be f (block + i * (width / 8)) (width / 8)

-- refcount i of a block with narrower refcounts, which share a byte: the lower index has the lower bits
abbrev pub narrow_counter : Bytes → ℕ → ℕ → ℕ → ℕ
narrow_counter f width block i = f (block + i * width / 8) / 2 ^ (i * width % 8) % 2 ^ width

-- refcount i of the block at this offset, for this width in bits
abbrev pub counter_of : Bytes → ℕ → ℕ → ℕ → ℕ
counter_of f width block i = if nat_le 8 width then wide_counter f width block i else narrow_counter f width block i

-- refcount i of the block at this offset, for the header's width
unfoldable pub counter : Bytes → Fields → ℕ → ℕ → ℕ
counter f h block i = counter_of f (counter_bits h) block i

-- the refcount of cluster c: number c mod k of block c / k, with k refcounts to a block; 0 without a block
unfoldable pub count : Bytes → Fields → ℕ → ℕ
count f h c = let k = counters_of_block h in let block = block_at f h (c / k) in if block == 0 then 0 else counter f h block (c % k)
