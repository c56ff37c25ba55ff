-- Refcounts of 2 ^ order bits, packed in the bytes of a refcount block.
use Rattle.std.specs.Prelude.{map, ℕ, ◌≡◌, ◌+◌, ◌-◌, ◌*◌, ◌/◌, ◌%◌, ◌^◌, ◌≤◌, List, length, take, drop}
use Rattle.std.specs.List.{range_with_len}
use Rattle.std.specs.Int.Digits.{number_from_digits}

-- The big-endian number in these bytes.
abbrev pub big_endian : List ℕ → ℕ
big_endian bytes = number_from_digits 256 bytes

-- The number of bytes in a cell, and of refcounts in it. A refcount of 8 bits or more fills its cell. Smaller refcounts
-- share a cell of one byte.
abbrev pub cell_bytes : ℕ → ℕ
cell_bytes order = 2 ^ (order - 3)

abbrev pub cell_counters : ℕ → ℕ
cell_counters order = 2 ^ (3 - order)

-- The first byte of the cell of refcount `i`, and the bit of the cell at which the refcount starts.
abbrev pub cell_start : ℕ → ℕ → ℕ
cell_start order i = i / cell_counters order * cell_bytes order

abbrev pub bit_start : ℕ → ℕ → ℕ
bit_start order i = i % cell_counters order * 2 ^ order

abbrev pub cell : ℕ → List ℕ → ℕ → List ℕ
cell order bytes i = take (cell_bytes order) (drop (cell_start order i) bytes)

-- The refcount `i`: a digit in base 2 ^ width of its cell's number, the lowest first.
abbrev pub counter : ℕ → List ℕ → ℕ → ℕ
counter order bytes i = big_endian (cell order bytes i) / 2 ^ bit_start order i % 2 ^ (2 ^ order)

-- The cell of refcount `i` is inside these bytes.
abbrev pub HasCounter : ℕ → List ℕ → ℕ → Type 0
HasCounter order bytes i = cell_start order i + cell_bytes order ≤ length bytes

-- `high` is `low` with refcount `i` raised by `by`, and no other cell differs.
pub record IsRaised (order by : ℕ) (low : List ℕ) (i : ℕ) (high : List ℕ) : Type 0 where
  pub before : take (cell_start order i) high ≡ take (cell_start order i) low
  pub cell_number : big_endian (cell order high i) ≡ big_endian (cell order low i) + by * 2 ^ bit_start order i
  pub after : drop (cell_start order i + cell_bytes order) high ≡ drop (cell_start order i + cell_bytes order) low
  pub same_length : length high ≡ length low

-- The number of refcounts in the whole cells of these bytes.
abbrev pub counter_count : ℕ → List ℕ → ℕ
counter_count order bytes = length bytes / cell_bytes order * cell_counters order

-- The refcounts in the bytes of a block.
abbrev pub counters_of : ℕ → List ℕ → List ℕ
counters_of order bytes = map (counter order bytes) (range_with_len 0 (counter_count order bytes))
