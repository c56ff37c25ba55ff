-- Defines when an image is consistent (its refcounts cover the references), which clusters leak, and which finding (error) a check reports
-- first.
use Rattle.std.specs.Prelude.{◌≡◌, ℕ, zero, suc, ◌-◌, ◌*◌, ◌<◌, Bool, true, ◌&&◌, ◌||◌, not, ◌==◌, nat_lt, if◌then◌else◌, IsTrue, IsFalse, IsErr, List, [], ◌∷◌, ◌++◌, Result, Ok, Err}
use Rattle.qcow2_types.specs.Bytes.{Bytes, all_below}
use Rattle.qcow2_types.specs.Header.{Fields, Header, header_of, refcount_table_entries, has_external_data}
use Rattle.qcow2_types.specs.Entries.{l1_table_sound, l2_table_sound, l2_table}
use Rattle.qcow2_types.specs.Counts.{refcount_table_sound, count, counters_of_block}
use Rattle.qcow2_types.specs.References.{structure, contents, of_copied, meets, refs}

-- Each L1 entry, refcount table entry and L2 entry of the image is valid.
unfoldable pub tables_sound : Bytes → Fields → Bool
tables_sound f h = l1_table_sound f h && refcount_table_sound f h && all_below h.l1_entries (λ i.
    (l2_table f h i == 0) || l2_table_sound f h (l2_table f h i))

-- Cluster c is part of the structure (header, table or refcount block) and is referenced more than once.
unfoldable pub shares_structure : Bytes → Fields → ℕ → Bool
shares_structure f h c = nat_lt 0 (structure f h (meets h c)) && not (refs f h c == 1)

-- An entry references cluster c with the COPIED flag, and c is referenced more than once.
unfoldable pub is_false_copied : Bytes → Fields → ℕ → Bool
is_false_copied f h c = nat_lt 0 (contents f h (of_copied h (meets h c))) && not (refs f h c == 1)

-- The refcount of cluster c is less than its references.
unfoldable pub is_under_counted : Bytes → Fields → ℕ → Bool
is_under_counted f h c = nat_lt (count f h c) (refs f h c)

-- The test is false at each cluster.
abbrev pub Nowhere : (ℕ → Bool) → Type 0
Nowhere test = (c : ℕ) → IsFalse (test c)

-- The test is true at cluster c, and false at each cluster before c.
abbrev pub IsLeast : (ℕ → Bool) → ℕ → Type 0
IsLeast test c = IsTrue (test c) × ((d : ℕ) → d < c → IsFalse (test d))

-- the checks of an image that come before those of its clusters
pub record IsReadable (f : Bytes) (h : Header) : Type 0 where
  pub loads : header_of true f ≡ Ok h
  pub no_snapshots : h.fields.snapshots ≡ 0
  pub data_inside : IsFalse (has_external_data h.fields)
  pub tables : IsTrue (tables_sound f h.fields)

-- A consistent image. It is readable, clusters of its structure and COPIED clusters are referenced once, and refcounts cover the
-- references.
pub record IsConsistent (f : Bytes) (h : Header) : Type 0 where
  pub readable : IsReadable f h
  pub structure_apart : Nowhere (shares_structure f h.fields)
  pub copied_apart : Nowhere (is_false_copied f h.fields)
  pub counted : Nowhere (is_under_counted f h.fields)

-- The image is consistent with the header that it has.
abbrev pub Consistent : Bytes → Type 0
Consistent f = (h : Header) × IsConsistent f h

-- cluster c and its excess refcount, if it leaks
abbrev pub leak_at : Bytes → Fields → ℕ → List (ℕ × ℕ)
leak_at f h c = if nat_lt (refs f h c) (count f h c) then (c, count f h c - refs f h c) ∷ [] else []

-- the leaks before cluster c
unfoldable pub leaks_below : Bytes → Fields → ℕ → List (ℕ × ℕ)
leaks_below f h zero = []
leaks_below f h (suc c) = leaks_below f h c ++ leak_at f h c

-- the leaks, by increasing cluster; clusters that the refcount table can't index have refcount 0
abbrev pub leaks : Bytes → Fields → List (ℕ × ℕ)
leaks f h = leaks_below f h (refcount_table_entries h * counters_of_block h)

-- the findings of a check, in their order
pub data Finding : Type 0 where
  header : Finding
  snapshots : Finding
  external : Finding
  table : Finding
  shared_table : (c : ℕ) → Finding
  false_copied : (c : ℕ) → Finding
  under_counted : (c : ℕ) → Finding

-- This is the first finding, in the order of `Finding`, of an image whose header has fields h. Its cluster is the first with this
-- finding.
abbrev pub IsFirstFinding : Bytes → Fields → Finding → Type 0
IsFirstFinding f h header = ⊥
IsFirstFinding f h snapshots = 0 < h.snapshots
IsFirstFinding f h external = (h.snapshots ≡ 0) × IsTrue (has_external_data h)
IsFirstFinding f h table = (h.snapshots ≡ 0) × IsFalse (has_external_data h) × IsFalse (tables_sound f h)
IsFirstFinding f h (shared_table c) = (h.snapshots ≡ 0) × IsFalse (has_external_data h) × IsTrue (tables_sound f h)
    × IsLeast (shares_structure f h) c
IsFirstFinding f h (false_copied c) = (h.snapshots ≡ 0) × IsFalse (has_external_data h) × IsTrue (tables_sound f h)
    × Nowhere (shares_structure f h) × IsLeast (is_false_copied f h) c
IsFirstFinding f h (under_counted c) = (h.snapshots ≡ 0) × IsFalse (has_external_data h) × IsTrue (tables_sound f h)
    × Nowhere (shares_structure f h) × Nowhere (is_false_copied f h) × IsLeast (is_under_counted f h) c

-- The result of a check: the leaks of a consistent image, or the first finding.
abbrev pub IsVerdict : Bytes → Result (List (ℕ × ℕ)) Finding → Type 0
IsVerdict f (Ok found) = (h : Header) × IsConsistent f h × (found ≡ leaks f h.fields)
IsVerdict f (Err header) = IsErr (header_of true f)
IsVerdict f (Err finding) = (h : Header) × (header_of true f ≡ Ok h) × IsFirstFinding f h.fields finding
