-- Definitions for setting an entry of a cached L2 table: the guest bytes that the entry maps, and the values that they read as.
use Rattle.std.specs.Prelude.{◌≡◌, ◌≢◌, ◌⊎◌, ℕ, ◌/◌, ◌%◌, Option}
use Rattle.imago_storage.specs.Disk.{Value}
use Rattle.qcow2_types.specs.Header.{Fields, cluster_size, entries_of_cluster}
use Rattle.qcow2_types.specs.References.{meets, of_mapping}
use Rattle.qcow2_types.specs.Words.{Mapping}
use Rattle.qcow2_alloc.specs.Changes.{ClusterLinked, ReferencesDropped, EntryChanged, file_with}
use Rattle.qcow2_alloc.specs.Memory.{Cached}
use Rattle.qcow2_alloc.specs.GuestView.{Metadata, IsUsed, referenced_at_all, waiting}
use Rattle.qcow2_steps.specs.Values.{own_value_by}

-- Entry j of L2 table i has the mapping `old` in memory, and `new` with the tables and blocks of `cached'`. Nothing else changes.
abbrev pub ChangesEntry : Metadata → ℕ → ℕ → Mapping → Mapping → Cached → Type 0
ChangesEntry m i j old new cached' = EntryChanged (file_with m.file m.header m.order m.cached) i j old new cached'

-- Like `ChangesEntry`: the new mapping is data in cluster x, with the COPIED flag, and nothing referenced x.
abbrev pub LinksCluster : Metadata → ℕ → ℕ → Mapping → ℕ → Cached → Type 0
LinksCluster m i j old x cached' = ClusterLinked (file_with m.file m.header m.order m.cached) i j old x cached'

-- Like `ChangesEntry`: no cluster has more references than before.
abbrev pub DropsNames : Metadata → ℕ → ℕ → Mapping → Mapping → Cached → Type 0
DropsNames m i j old new cached' = ReferencesDropped (file_with m.file m.header m.order m.cached) i j old new cached'

-- the number of references to cluster c by an entry with this mapping
abbrev pub names_at : Metadata → Mapping → ℕ → ℕ
names_at m mapping c = of_mapping m.header.fields (meets m.header.fields c) mapping

-- the guest cluster of entry j in L2 table i
abbrev pub IsOfEntry : Fields → ℕ → ℕ → ℕ → Type 0
IsOfEntry h i j guest = (guest / entries_of_cluster h ≡ i) × (guest % entries_of_cluster h ≡ j)

-- another guest cluster
abbrev pub IsOfOther : Fields → ℕ → ℕ → ℕ → Type 0
IsOfOther h i j guest = (guest / entries_of_cluster h ≢ i) ⊎ (guest % entries_of_cluster h ≢ j)

-- Cluster c is allocated, and nothing references it. It isn't on the free list, and contains no header, table or block.
pub record IsReserved (m : Metadata) (c : ℕ) : Type 0 where
  pub used : IsUsed m c
  pub not_referenced : referenced_at_all m c ≡ 0
  pub waits : waiting m c ≡ 0

-- A guest byte of this entry reads as the mapping `new` says.
abbrev pub GivesEntry : Metadata → ℕ → ℕ → Mapping → ℕ → Option Value → Type 0
GivesEntry m i j new p v = IsOfEntry m.header.fields i j (p / cluster_size m.header.fields) × (v ≡ own_value_by m.file m.header.fields p new)
