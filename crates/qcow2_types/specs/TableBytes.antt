-- The bytes of a table's entries, of 64 bits each, and of a block's refcounts, of 2^order bits each.
use Rattle.std.specs.Prelude.{ℕ, ◌<◌, ◌^◌, List, length, slice_index, ◌≡◌, ◌+◌, ◌-◌, ◌*◌, ◌/◌, ◌%◌, map, nat_le, if◌then◌else◌}
use Rattle.std.specs.List.{flat_map, range_with_len}
use Rattle.std.specs.Int.{to_be_bytes, w64}
use Rattle.qcow2_types.specs.Bytes.{bytes_of, sum_below}
use Rattle.qcow2_types.specs.Counts.{counter_of}

-- each raw entry has at most 64 bits
abbrev pub AreFit : List ℕ → Type 0
AreFit raw_entries = (i : ℕ) → i < length raw_entries → slice_index raw_entries i < 2 ^ 64

-- the bytes of raw entries: 8 to an entry, the highest first
abbrev pub table_bytes : List ℕ → List ℕ
table_bytes raw_entries = flat_map (to_be_bytes w64) raw_entries

-- byte k of refcounts of 8 bits or more, which are big-endian numbers
abbrev pub wide_byte : ℕ → List ℕ → ℕ → ℕ
wide_byte width counters k = slice_index counters (k / (width / 8)) / 256 ^ (width / 8 - 1 - k % (width / 8)) % 256

-- byte k of narrower refcounts, which share a byte: the lower index has the lower bits
abbrev pub narrow_byte : ℕ → List ℕ → ℕ → ℕ
narrow_byte width counters k = sum_below (8 / width) (λ j. slice_index counters (k * (8 / width) + j) * 2 ^ (j * width))

-- the bytes of refcounts of 2^order bits
unfoldable pub block_bytes : ℕ → List ℕ → List ℕ
block_bytes order counters = let width = 2 ^ order in map (λ k.
    if nat_le 8 width then wide_byte width counters k else narrow_byte width counters k) (range_with_len 0 (length counters * width / 8))

-- These are the bytes of these refcounts.
pub record Packs (order : ℕ) (counters bytes : List ℕ) : Type 0 where
  pub size : length bytes * 8 ≡ length counters * 2 ^ order
  pub fit : (k : ℕ) → slice_index bytes k < 256
  pub each : (i : ℕ) → i < length counters → counter_of (bytes_of bytes) (2 ^ order) 0 i ≡ slice_index counters i

-- the refcounts fit their width, and fill whole bytes
pub record ArePackable (order : ℕ) (counters : List ℕ) : Type 0 where
  pub fit : (i : ℕ) → i < length counters → slice_index counters i < 2 ^ (2 ^ order)
  pub whole : length counters * 2 ^ order % 8 ≡ 0
