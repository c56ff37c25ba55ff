-- The list of clusters to free, as contracts use it: its entries, and the number of reserved slots (memory for one entry each).
use Rattle.std.specs.Prelude.{ℕ, ◌+◌, ◌-◌, ◌&&◌, nat_le, nat_lt, if◌then◌else◌, false, List, slice_index_or, slice_set}
use Rattle.std.specs.List.{sum_by}
use Rattle.qcow2_types.specs.Pending.{FreeEntry}

-- The entries in the order in which they came, and the number of reserved slots.
pub record FreeList : Type 0 where
  pub entries : List FreeEntry
  pub held : ℕ

-- The entry at an index. Past the last entry it has no clusters.
abbrev pub entry_at : List FreeEntry → ℕ → FreeEntry
entry_at entries index = slice_index_or entries index (record { first = 0; count = 0; metadata = false })

-- An entry without its last n clusters.
abbrev pub shorter : FreeEntry → ℕ → FreeEntry
shorter e n = record { first = e.first; count = e.count - n; metadata = e.metadata }

-- The last n clusters of an entry.
abbrev pub tail_of : FreeEntry → ℕ → FreeEntry
tail_of e n = record { first = e.first + (e.count - n); count = n; metadata = e.metadata }

-- The entries, with the one at an index without its last n clusters.
abbrev pub shortened : List FreeEntry → ℕ → ℕ → List FreeEntry
shortened entries index n = slice_set entries index (shorter (entry_at entries index) n)

-- 1 if cluster c is one of the entry's, else 0.
abbrev pub covers : ℕ → FreeEntry → ℕ
covers c e = if nat_le e.first c && nat_lt c (e.first + e.count) then 1 else 0

-- The number of entries that have cluster c.
abbrev pub listed : List FreeEntry → ℕ → ℕ
listed entries c = sum_by (covers c) entries
