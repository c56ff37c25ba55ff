-- Searches for the lowest cluster that is referenced in a given way, such as more than once.
use Rattle.std.specs.Prelude.{◌≡◌, ◌⊎◌, ℕ, ◌+◌, ◌<◌, ◌≤◌, ◌^◌, ⊤, Bool, ◌&&◌, ◌||◌, not, ◌==◌, nat_lt, IsTrue, IsFalse, List, Any, length, slice_index, Option, Some, None, IfSome, IsSomeAnd}
use Rattle.qimg_core.specs.declared.check.names.Times.{Times}
use Rattle.qimg_core.specs.declared.check.names.Tallies.{Tallies}
use Rattle.qimg_core.specs.declared.check.names.Others.{Others}
use Rattle.qimg_core.specs.declared.check.search.Question.{Question}
use Rattle.qimg_core.specs.declared.check.search.Way.{Way}
use Rattle.qimg_core.specs.declared.check.search.Question.TheVariants.{Shared, FalselyCopied, Either, AtAll}
use Rattle.qimg_core.specs.Names.{cluster_of, times_at}

-- The test of each question. `Shared`: a cluster of the structure is referenced more than once. `FalselyCopied`: a cluster with the COPIED
-- flag is. `Either`: the test of `Shared` or of `FalselyCopied` holds. `AtAll`: the cluster is referenced.
abbrev pub passes : Question → Times → Bool
passes Shared n = nat_lt 0 n.structure && not (n.structure + n.mapped == 1)
passes FalselyCopied n = nat_lt 0 n.copied && not (n.structure + n.mapped == 1)
passes Either n = (nat_lt 0 n.structure || nat_lt 0 n.copied) && not (n.structure + n.mapped == 1)
passes AtAll n = nat_lt 0 (n.structure + n.mapped)

-- Cluster `c` passes the test of the question.
unfoldable pub is_such : Question → Tallies → ℕ → Bool
is_such question names c = passes question (times_at names c)

-- `c` is below the bound, if any.
abbrev pub IsBelow : Option ℕ → ℕ → Type 0
IsBelow None c = ⊤
IsBelow (Some end) c = c < end

-- No cluster between the bounds passes the test.
pub record NoneWithin (test : ℕ → Bool) (low : ℕ) (high : Option ℕ) : Type 0 where
  pub none : (c : ℕ) → low ≤ c → IsBelow high c → IsFalse (test c)

-- Cluster `c` passes the test, and no cluster before it does, from `low` on.
pub record IsFirstWithin (test : ℕ → Bool) (low : ℕ) (high : Option ℕ) (c : ℕ) : Type 0 where
  pub from : low ≤ c
  pub below : IsBelow high c
  pub is : IsTrue (test c)
  pub before : (d : ℕ) → low ≤ d → d < c → IsFalse (test d)

-- The list has an item of cluster `c`.
abbrev pub IsListed : List ℕ → ℕ → Type 0
IsListed list c = Any (λ name. cluster_of name ≡ c) list

abbrev pub IsEntry : Others → ℕ → Type 0
IsEntry others c = IsListed others.structure.items c ⊎ IsListed others.mapped.items c ⊎ IsListed others.copied.items c

-- The next cluster, if any, isn't before `c`.
abbrev pub IsFrom : ℕ → Option ℕ → Type 0
IsFrom c next = IfSome next (λ n. (c ≤ n) × (n < 2 ^ 53))

-- The list is cut at `index`. The items before it are of clusters before `c`, and those from it on are of `next` or later clusters.
pub record IsCut (list : List ℕ) (c : ℕ) (next : Option ℕ) (index : ℕ) : Type 0 where
  pub bound : index ≤ length list
  pub before : (i : ℕ) → i < index → cluster_of (slice_index list i) < c
  pub next_not_after : (i : ℕ) → index ≤ i → i < length list → IsSomeAnd next (λ n. n ≤ cluster_of (slice_index list i))

-- Each list is cut at cluster `c`.
pub record AreCut (others : Others) (c structure mapped copied : ℕ) : Type 0 where
  pub structure_cut : IsCut others.structure.items c (Some c) structure
  pub mapped_cut : IsCut others.mapped.items c (Some c) mapped
  pub copied_cut : IsCut others.copied.items c (Some c) copied

-- The walk has reached cluster `c`, and knows the next cluster with an item in a list.
pub record IsAlong (others : Others) (c : ℕ) (way : Way) : Type 0 where
  pub structure : IsCut others.structure.items c way.next way.structure
  pub mapped : IsCut others.mapped.items c way.next way.mapped
  pub copied : IsCut others.copied.items c way.next way.copied
  pub from : IsFrom c way.next
  pub named : IfSome way.next (IsEntry others)
