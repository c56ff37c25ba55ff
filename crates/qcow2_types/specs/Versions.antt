-- Two versions of an image, and the files between them: f is the file, and g is the file with the caches' dirty L2 entries and refcounts
-- written.
use Rattle.std.specs.Prelude.{◌≡◌, ◌≢◌, ℕ, ◌+◌, ◌<◌, ◌≤◌, ◌⊎◌, max}
use Rattle.qcow2_types.specs.Bytes.{Bytes}
use Rattle.qcow2_types.specs.Words.{Mapping}
use Rattle.qcow2_types.specs.Header.{Fields}
use Rattle.qcow2_types.specs.Entries.{l2_table}
use Rattle.qcow2_types.specs.Counts.{block_at, count}
use Rattle.qcow2_types.specs.References.{Weight, structure, of_mapping, of_copied, meets, refs}
use Rattle.qcow2_types.specs.Slots.{slot, Live, over_slots}

-- the greater weight of the two mappings that an entry has in the two versions
abbrev pub of_either : Fields → Weight → Mapping → Mapping → ℕ
of_either h w m n = max (of_mapping h w m) (of_mapping h w n)

-- the references to cluster c from the structure of f, and from entries in either version; an entry counts once for both
unfoldable pub references_in_either : Bytes → Bytes → Fields → ℕ → ℕ
references_in_either f g h c = structure f h (meets h c) + over_slots (l2_table f h) h (λ i j. of_either h (meets h c) (slot f h i j) (slot g h i j))

-- the references to cluster c with the COPIED flag, from entries in either version
unfoldable pub copied : Bytes → Bytes → Fields → ℕ → ℕ
copied f g h c = over_slots (l2_table f h) h (λ i j. max (of_copied h (meets h c) (slot f h i j)) (of_copied h (meets h c) (slot g h i j)))

-- Clusters of the structure and COPIED clusters are referenced once.
abbrev pub ReferencedOnce : Bytes → Bytes → Fields → Type 0
ReferencedOnce f g h = (c : ℕ) → 0 < structure f h (meets h c) + copied f g h c → references_in_either f g h c ≤ 1

-- f and g have their L2 tables and refcount blocks at the same offsets.
pub record SamePlaces (f g : Bytes) (h : Fields) : Type 0 where
  pub l1 : (i : ℕ) → l2_table g h i ≡ l2_table f h i
  pub blocks : (i : ℕ) → block_at g h i ≡ block_at f h i

-- Each L2 entry of x means the same as in f or the same as in g.
pub record IsBetween (f x g : Bytes) (h : Fields) : Type 0 where
  pub places : SamePlaces f x h
  pub slots : (i j : ℕ) → Live (l2_table f h) h i j → (slot x h i j ≡ slot f h i j) ⊎ (slot x h i j ≡ slot g h i j)

-- Each L2 entry of x means the same as in f.
pub record KeepsSlots (f x : Bytes) (h : Fields) : Type 0 where
  pub places : SamePlaces f x h
  pub slots : (i j : ℕ) → Live (l2_table f h) h i j → slot x h i j ≡ slot f h i j

-- From g to g', only entry j of L2 table i changes.
pub record ChangesSlot (f g g' : Bytes) (h : Fields) (i j : ℕ) : Type 0 where
  pub live : Live (l2_table f h) h i j
  pub others : (k m : ℕ) → Live (l2_table f h) h k m → (k ≢ i) ⊎ (m ≢ j) → slot g' h k m ≡ slot g h k m

-- The invariant of the refcounts while tables depend on blocks: blocks are written first.
pub record BlocksFirst (f g : Bytes) (h : Fields) : Type 0 where
  pub cached : (c : ℕ) → references_in_either f g h c ≤ count g h c
  pub file : (c : ℕ) → refs f h c ≤ count f h c

-- The invariant of the refcounts while blocks depend on tables: tables are written first.
pub record TablesFirst (f g : Bytes) (h : Fields) : Type 0 where
  pub file : (c : ℕ) → references_in_either f g h c ≤ count f h c
  pub lowered : (c : ℕ) → count g h c ≤ count f h c
