-- The tallies of the checker: the number of references to each cluster, as the sum of a cell and of items in lists.
use Rattle.std.specs.Prelude.{◌≡◌, ◌≢◌, ℕ, ◌+◌, ◌*◌, ◌/◌, ◌%◌, ◌^◌, ◌<◌, ◌≤◌, ◌&&◌, ◌==◌, nat_lt, nat_le, if◌then◌else◌, List, length, slice_index_or}
use Rattle.std.specs.List.{sum_by}
use Rattle.std.specs.List.Sorted.{IsNonDecreasingBy}
use Rattle.qcow2_types.specs.Header.{Fields}
use Rattle.qcow2_types.specs.References.{Weight, meets}
use Rattle.qimg_core.specs.declared.check.names.Times.{Times}
use Rattle.qimg_core.specs.declared.check.names.FewTimes.{FewTimes}
use Rattle.qimg_core.specs.declared.check.names.AllTimes.{AllTimes}
use Rattle.qimg_core.specs.declared.check.names.Tallies.{Tallies}
use Rattle.qimg_core.specs.declared.check.names.Others.{Others}

-- The parts of a number of references.
abbrev pub structure_part : Times → ℕ
structure_part n = n.structure

abbrev pub mapped_part : Times → ℕ
mapped_part n = n.mapped

abbrev pub copied_part : Times → ℕ
copied_part n = n.copied

-- `AllTimes` as unbounded numbers.
abbrev pub all_times : AllTimes → Times
all_times n = record { structure = n.structure; mapped = n.mapped; copied = n.copied }

-- No references.
abbrev pub no_times : Times
no_times = record { structure = 0; mapped = 0; copied = 0 }

abbrev pub no_few_times : FewTimes
no_few_times = record { mapped = 0; structure = 0; copied = 0 }

-- The cell of cluster `c`, or zeroes if it has no cell.
unfoldable pub cell_at : List FewTimes → ℕ → FewTimes
cell_at cells c = slice_index_or cells c no_few_times

-- The cluster of a list item.
abbrev pub cluster_of : ℕ → ℕ
cluster_of name = name / 2048

-- The number of references that a list item counts: a digit at a position of a number to base 256.
abbrev pub count_of : ℕ → ℕ
count_of name = name % 256 * 2 ^ (8 * (name / 256 % 8))

-- The number of references to cluster `c` that a list item counts.
abbrev pub weight_in : ℕ → ℕ → ℕ
weight_in c name = if cluster_of name == c then count_of name else 0

-- The number of references to cluster `c` in a list.
abbrev pub weight_of : List ℕ → ℕ → ℕ
weight_of list c = sum_by (weight_in c) list

-- The number of references to cluster `c` in the lists, by kind.
unfoldable pub other_at : Others → ℕ → Times
other_at others c = record {
  structure = weight_of others.structure.items c;
  mapped = weight_of others.mapped.items c;
  copied = weight_of others.copied.items c;
}

-- The list is sorted by cluster.
abbrev pub IsRising : List ℕ → Type 0
IsRising list = IsNonDecreasingBy cluster_of list

pub record AreRising (others : Others) : Type 0 where
  pub structure : IsRising others.structure.items
  pub mapped : IsRising others.mapped.items
  pub copied : IsRising others.copied.items

-- The sum of a cell and the lists.
abbrev pub together : FewTimes → Times → Times
together cell entry = record {
  structure = cell.structure + entry.structure;
  mapped = cell.mapped + entry.mapped;
  copied = cell.copied + entry.copied;
}

-- The number of references to cluster `c`.
unfoldable pub times_at : Tallies → ℕ → Times
times_at names c = together (cell_at names.cells.items c) (other_at names.others c)

-- One part of the number of references to cluster `c`.
abbrev pub referenced_by : (Times → ℕ) → ℕ → Tallies → ℕ
referenced_by part c names = part (times_at names c)

-- No cluster is referenced.
abbrev pub TellsNothing : Tallies → Type 0
TellsNothing names = (c : ℕ) → times_at names c ≡ no_times

-- A sum over the ranges that an image references, for a weight of ranges.
abbrev pub Total : Type 0
Total = Weight → ℕ

-- The empty sum.
abbrev pub nothing_referenced : Total
nothing_referenced w = 0

-- The cell of a cluster can hold these numbers.
abbrev pub FitsCell : Times → Type 0
FitsCell n = (n.structure < 2 ^ 8) × (n.mapped < 2 ^ 16) × (n.copied < 2 ^ 8)

-- The lists have no items of a cluster whose references fit its cell.
abbrev pub ListsOnlyOverflow : Tallies → Type 0
ListsOnlyOverflow names = (c : ℕ) → c < length names.cells.items → FitsCell (times_at names c) → other_at names.others c ≡ no_times

-- The number of cells doesn't change.
abbrev pub KeepsCells : Tallies → Tallies → Type 0
KeepsCells old new = length new.cells.items ≡ length old.cells.items

-- `new` is `old` with these sums added for each cluster.
pub record Adds (h : Fields) (old new : Tallies) (of_structure of_mapped of_copies : Total) : Type 0 where
  pub structure : (c : ℕ) → referenced_by structure_part c new ≡ referenced_by structure_part c old + of_structure (meets h c)
  pub mapped : (c : ℕ) → referenced_by mapped_part c new ≡ referenced_by mapped_part c old + of_mapped (meets h c)
  pub copied : (c : ℕ) → referenced_by copied_part c new ≡ referenced_by copied_part c old + of_copies (meets h c)
  pub cells : KeepsCells old new
  pub spares : ListsOnlyOverflow old → ListsOnlyOverflow new

-- 1 for the clusters from `low` up to, but not including, `end`; otherwise 0.
abbrev pub is_between : ℕ → ℕ → ℕ → ℕ
is_between low end c = if nat_le low c && nat_lt c end then 1 else 0

-- `new` is `old` with `times` references added to each cluster from `low` up to, but not including, `end`.
pub record AddsClusters (old new : Tallies) (low end : ℕ) (times : Times) : Type 0 where
  pub structure : (c : ℕ) → referenced_by structure_part c new ≡ referenced_by structure_part c old + times.structure * is_between low end c
  pub mapped : (c : ℕ) → referenced_by mapped_part c new ≡ referenced_by mapped_part c old + times.mapped * is_between low end c
  pub copied : (c : ℕ) → referenced_by copied_part c new ≡ referenced_by copied_part c old + times.copied * is_between low end c
  pub cells : KeepsCells old new
  pub spares : ListsOnlyOverflow old → ListsOnlyOverflow new

-- `sum` is the sum of two numbers of references.
pub record IsSum (one other sum : Times) : Type 0 where
  pub structure : sum.structure ≡ one.structure + other.structure
  pub mapped : sum.mapped ≡ one.mapped + other.mapped
  pub copied : sum.copied ≡ one.copied + other.copied

-- `sum` is a cell plus `more`.
pub record IsFewSum (cell : FewTimes) (more : Times) (sum : FewTimes) : Type 0 where
  pub structure : sum.structure ≡ cell.structure + more.structure
  pub mapped : sum.mapped ≡ cell.mapped + more.mapped
  pub copied : sum.copied ≡ cell.copied + more.copied

-- The cell can hold `more` in addition.
abbrev pub HasRoom : FewTimes → Times → Type 0
HasRoom cell more = FitsCell (together cell more)

-- Cluster `c` has a cell, which can hold `more` in addition.
abbrev pub HasRoomAt : Tallies → ℕ → Times → Type 0
HasRoomAt names c more = (c < length names.cells.items) × HasRoom (cell_at names.cells.items c) more

-- `new` is `old` with `times` references added to cluster `c`. The other clusters' references are unchanged.
pub record AddsWeight (old new : List ℕ) (c times : ℕ) : Type 0 where
  pub here : weight_of new c ≡ weight_of old c + times
  pub others : (d : ℕ) → d ≢ c → weight_of new d ≡ weight_of old d

-- The list grows by no more items than `times` has digits to base 256.
abbrev pub TakesFew : List ℕ → List ℕ → ℕ → Type 0
TakesFew old new times = (n : ℕ) → times < 2 ^ (8 * n) → length new ≤ length old + n

-- Like `AddsWeight`, for the lists of all kinds.
pub record AddsEntry (old new : Others) (c : ℕ) (times : Times) : Type 0 where
  pub here : IsSum (other_at old c) times (other_at new c)
  pub others : (d : ℕ) → d ≢ c → other_at new d ≡ other_at old d
