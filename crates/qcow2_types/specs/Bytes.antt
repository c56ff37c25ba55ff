-- A file as a function from offsets to bytes, with the big-endian numbers in it, and writes to it.
use Rattle.std.specs.Prelude.{ℕ, zero, suc, ◌+◌, ◌-◌, ◌*◌, Bool, true, ◌&&◌, List, [], ◌∷◌, length, slice_index, nat_le, nat_lt, if◌then◌else◌}

-- the byte at each offset of a file, 0 past its end
abbrev pub Bytes : Type 0
Bytes = ℕ → ℕ

-- the file with these bytes
abbrev pub bytes_of : List ℕ → Bytes
bytes_of file i = slice_index file i

-- the big-endian number in the n bytes at offset i
unfoldable pub be : Bytes → ℕ → ℕ → ℕ
be f i zero = 0
be f i (suc n) = be f i n * 256 + f (i + n)

-- raw entry i of the table at this offset
unfoldable pub raw_entry : Bytes → ℕ → ℕ → ℕ
raw_entry f offset i = be f (offset + 8 * i) 8

-- the n bytes at offset i
unfoldable pub run : Bytes → ℕ → ℕ → List ℕ
run f i zero = []
run f i (suc n) = f i ∷ run f (i + 1) n

-- the file with these bytes spliced in at offset i
unfoldable pub splice : Bytes → ℕ → List ℕ → Bytes
splice f i bytes p = if nat_le i p && nat_lt p (i + length bytes) then slice_index bytes (p - i) else f p

-- the sum of f over the numbers below n
unfoldable pub sum_below : ℕ → (ℕ → ℕ) → ℕ
sum_below zero f = 0
sum_below (suc n) f = f n + sum_below n f

-- p is true of each number below n
unfoldable pub all_below : ℕ → (ℕ → Bool) → Bool
all_below zero p = true
all_below (suc n) p = p n && all_below n p

-- an offset, and bytes to write there
abbrev pub Patch : Type 0
Patch = ℕ × List ℕ

-- the file with all patches written to it, the first on top
unfoldable pub over : Bytes → List Patch → Bytes
over f [] = f
over f (e ∷ es) = splice (over f es) e.0 e.1
