-- Specifies how consecutive guest clusters are cleared: they read as zeroes, or are unmapped.
use Rattle.std.specs.Prelude.{◌≡◌, ⊤, ◌+◌, ◌/◌, ◌%◌, ◌<◌, ◌++◌, ◌∷◌, [], ℕ, zero, suc, List, Option, Some, None, true, false, Result, OnOk, IfErr, ◌⊎◌}
use Rattle.std.specs.Option.{is_some}
use Rattle.imago_storage.specs.declared.fault.Fault.{Fault}
use Rattle.imago_storage.specs.declared.fault.Fault.TheVariants.{Memory}
use Rattle.qcow2_types.specs.Entries.{entry}
use Rattle.qcow2_types.specs.Header.{entries_of_cluster}
use Rattle.qcow2_types.specs.Pending.{FreeEntry}
use Rattle.qcow2_types.specs.Words.{Mapping, mapping_of, unmapped}
use Rattle.qcow2_metadata.specs.Allocations.{Conserves, allocation_of, freed, holds, kept_where, unkept, zeroed_raw_entry}
use Rattle.qcow2_metadata.specs.Tables.{TableValue, mapping_in, with_raw_entry}
use Rattle.qcow2_alloc.specs.Changes.{zeroed}
use Rattle.qcow2_alloc.specs.GuestView.{Metadata}
use Rattle.qcow2_steps.specs.Words.{GivesEntry, IsOfEntry}
use Rattle.qcow2_clusters.specs.Linking.{IsUnder, Listed, listed_of}
use Rattle.qcow2_clusters.specs.Progress.{Kind, both, handing}
use Rattle.qcow2_clusters.specs.Setting.{Setting}
use Rattle.qcow2_clusters.specs.declared.clearing.Clearing.{Clearing}
use Rattle.qcow2_clusters.specs.declared.clearing.Clearing.TheVariants.{Keep, GiveUp, Unmap}

-- An image of this version supports the clearing: zero entries need version 3.
abbrev pub IsPossible : Clearing → ℕ → Type 0
IsPossible Keep version = version ≡ 3
IsPossible GiveUp version = version ≡ 3
IsPossible Unmap version = ⊤

-- The meaning of a cleared entry, from its meaning before.
abbrev pub cleared : Clearing → Mapping → Mapping
cleared Keep old = zeroed (kept_where true old)
cleared GiveUp old = zeroed (kept_where false old)
cleared Unmap old = unmapped

-- The raw entry that is written.
abbrev pub cleared_raw_entry : (cluster_bits : ℕ) → Clearing → Mapping → ℕ
cleared_raw_entry bits Keep old = zeroed_raw_entry bits (kept_where true old)
cleared_raw_entry bits GiveUp old = zeroed_raw_entry bits (kept_where false old)
cleared_raw_entry bits Unmap old = 0

-- The clusters to free.
abbrev pub given_up : (cluster_bits : ℕ) → Clearing → Mapping → Option FreeEntry
given_up bits Keep old = freed (unkept (is_some (kept_where true old)) (allocation_of bits old))
given_up bits GiveUp old = freed (unkept (is_some (kept_where false old)) (allocation_of bits old))
given_up bits Unmap old = freed (allocation_of bits old)

-- The entry at an index is cleared, and `given` is what it no longer references.
pub record ClearsAt (how : Clearing) (index : ℕ) (old : TableValue) (given : Option FreeEntry) (new : TableValue) : Type 0 where
  pub possible : IsPossible how old.layout.version
  pub set : new ≡ with_raw_entry old index (cleared_raw_entry old.layout.cluster_bits how (mapping_in old index))
  pub back : given ≡ given_up old.layout.cluster_bits how (mapping_in old index)
  pub conserved : Conserves old.layout.cluster_bits (mapping_in old index)
      (mapping_of old.layout (cleared_raw_entry old.layout.cluster_bits how (mapping_in old index))) given (λ c. 0)

-- The entry is cleared, and what it no longer references is on the list of clusters to free.
pub record ClearsEntry (how : Clearing) (index : ℕ) (old new : Listed) : Type 0 where
  pub given : Option FreeEntry
  pub clears : ClearsAt how index old.table given new.table
  pub put : new.list ≡ record old.list { entries = old.list.entries ++ listed_of given }

-- The `n` entries from an index on are cleared.
unfoldable pub ClearsEntries : Clearing → (index n : ℕ) → Listed → Listed → Type 0
ClearsEntries how index zero old new = new ≡ old
ClearsEntries how index (suc n) old new = (between : Listed) × ClearsEntries how index n old between × ClearsEntry how (index + n) between new

-- The entries are cleared. Otherwise memory ran out, or the table is for another cluster size, or its version has no
-- zero entries.
pub record ClearsIn (how : Clearing) (bits index n : ℕ) (old : Listed) (result : Result Unit Fault) (new : Listed) : Type 0 where
  pub ok : OnOk result ((old.table.layout.cluster_bits ≡ bits) × ClearsEntries how index n old new)
  pub err : IfErr result (λ fault. (fault ≡ Memory)
      ⊎ (old.table.layout.cluster_bits ≡ bits → IsPossible how old.table.layout.version → ⊥))

-- The entries of `n` consecutive guest clusters are in the L2 table in this cluster.
abbrev pub AreUnder : ℕ → Metadata → (table guest : ℕ) → Type 0
AreUnder n m table guest = (d : ℕ) → d < n → IsUnder m table (guest + d)

-- The meaning of a guest cluster's entry, and the clusters to free when it is cleared.
abbrev pub meant : Metadata → (guest : ℕ) → Mapping
meant m guest = entry m.file m.header.fields guest

abbrev pub given_up_for : Clearing → Metadata → (guest : ℕ) → Option FreeEntry
given_up_for how m guest = given_up m.header.fields.cluster_bits how (meant m guest)

-- The kind of a call that clears one guest cluster. The excess refcount of the clusters to free grows, as the entry no
-- longer references them. They are taken, as they become pending.
abbrev pub clearing : Clearing → Metadata → (guest : ℕ) → Kind
clearing how m guest = let i = guest / entries_of_cluster m.header.fields in let j = guest % entries_of_cluster m.header.fields in record {
  gives = GivesEntry m i j (cleared how (meant m guest));
  written = λ q. ⊥;
  set = IsOfEntry m.header.fields i j;
  excess_added = λ c. holds c (given_up_for how m guest);
  taken = λ c. holds c (given_up_for how m guest);
}

-- The kind of a call that clears `n` consecutive guest clusters.
unfoldable pub clearing_run : Clearing → Metadata → (guest n : ℕ) → Kind
clearing_run how m guest zero = handing (λ _. 0) (λ _. 0)
clearing_run how m guest (suc n) = both (clearing_run how m guest n) (clearing how m (guest + n))

-- The clusters to free of `n` consecutive guest clusters.
unfoldable pub given_up_run : Clearing → Metadata → (guest n : ℕ) → List FreeEntry
given_up_run how m guest zero = []
given_up_run how m guest (suc n) = given_up_run how m guest n ++ listed_of (given_up_for how m (guest + n))

-- The effect of clearing `n` consecutive guest clusters.
abbrev pub clearing_setting : Clearing → Metadata → (guest n : ℕ) → Setting
clearing_setting how m guest n = record {
  kind = clearing_run how m guest n;
  waiting = given_up_run how m guest n;
  means = λ d. cleared how (meant m (guest + d));
}
