-- An entry of a cached table is cleared: it references nothing new, and what it no longer references becomes pending.
use Rattle.std.proofs.Common.{◌≡◌, ◌≢◌, ℕ, ◌+◌, ◌/◌, ◌%◌, ◌<◌, ◌≤◌, refl, arith, ap, sym, subst, ◌∙◌, Some, None, Option, List, length}
use Rattle.std.specs.Prelude.{◌++◌, IfSome, true, false, nat_eq}
use Rattle.std.proofs.lemmas.List.{append-nil, get_or-set_same, length-set}
use Rattle.std.specs.Prelude.{slice_index}
use Rattle.qcow2_types.specs.Header.{Fields, cluster_size, layout_of, entries_of_cluster}
use Rattle.qcow2_types.specs.Pending.{FreeEntry}
use Rattle.qcow2_types.specs.References.{meets, of_mapping}
use Rattle.qcow2_types.specs.Slots.{slot}
use Rattle.qcow2_types.specs.Words.{Mapping, mapping_of}
use Rattle.qcow2_metadata.specs.Allocations.{Conserves, allocation_of, freed, holds}
use Rattle.qcow2_metadata.specs.Tables.{TableValue, mapping_in, with_raw_entry}
use Rattle.qcow2_alloc.specs.declared.cache.CacheDependency.{CacheDependency}
use Rattle.qcow2_alloc.specs.Cache.{hit}
use Rattle.qcow2_alloc.specs.Changes.{SetsEntry}
use Rattle.qcow2_alloc.specs.Memory.{Cached}
use Rattle.qcow2_alloc.specs.GuestView.{IsSound, Metadata, in_memory}
use Rattle.qcow2_alloc.proofs.Memory.NameDrops.{discard-drops, zero-drops}
use Rattle.qcow2_alloc.proofs.Memory.WordChanges.{cached-slot}
use Rattle.qcow2_steps.specs.Words.{DropsNames, GivesEntry, IsOfEntry, names_at}
use Rattle.qcow2_steps.proofs.Steps.{dropped-advances, freed-advances}
use Rattle.qcow2_clusters.specs.Clearing.{IsPossible, cleared, cleared_raw_entry, given_up}
use Rattle.qcow2_clusters.specs.Linking.{listed_of}
use Rattle.qcow2_clusters.specs.Progress.{Kind}
use Rattle.qcow2_clusters.specs.declared.clearing.Clearing.{Clearing}
use Rattle.qcow2_clusters.specs.declared.clearing.Clearing.TheVariants.{Keep, GiveUp, Unmap}
use Rattle.qcow2_clusters.proofs.ClusterNames.{freed-data}
use Rattle.qcow2_clusters.proofs.ProgressSums.{AdvancesBy}

-- The kind of a change of one entry to this meaning that frees these clusters.
abbrev pub dropping : Metadata → (i j : ℕ) → Mapping → Option FreeEntry → Kind
dropping m i j new given = record {
  gives = GivesEntry m i j new;
  written = λ q. ⊥;
  set = IsOfEntry m.header.fields i j;
  excess_added = λ c. holds c given;
  taken = λ c. holds c given;
}

-- The clusters that the entry no longer references can become pending.
pub dropped-waits : (m : Metadata) (i j : ℕ) (old new : Mapping) (given : Option FreeEntry) (cached' : Cached) → IsSound m
    → DropsNames m i j old new cached' → IfSome given (λ e. e.metadata ≡ false)
    → ((c : ℕ) → names_at m new c + holds c given ≡ names_at m old c)
    → AdvancesBy (dropping m i j new given) m (record m { cached = cached'; pending = m.pending ++ listed_of given })
dropped-waits m i j old new None cached' sound drops guest back =
    subst (λ (es : List FreeEntry). AdvancesBy (dropping m i j new None) m (record m { cached = cached'; pending = es })) (sym (append-nil m.pending))
    (dropped-advances m i j old new (λ _. 0) cached' sound drops back)
dropped-waits m i j old new (Some e) cached' sound drops guest back = freed-advances m i j old new e cached' sound drops guest back

-- The clusters to free hold data.
pub given-data : (bits : ℕ) (how : Clearing) (old : Mapping) → IfSome (given_up bits how old) (λ e. e.metadata ≡ false)
given-data bits Keep old = freed-data _
given-data bits GiveUp old = freed-data _
given-data bits Unmap old = freed-data (allocation_of bits old)

-- The entry of a cached L2 table.
module _ (how : Clearing) (m : Metadata) (key i j : ℕ) (cached' : Cached) (sound : IsSound m) (possible : IsPossible how m.header.fields.version)
    (w : ℕ) (sets : SetsEntry m.file m.header.fields m.cached key i j w cached')
    (is : w ≡ cleared_raw_entry m.header.fields.cluster_bits how (mapping_in sets.table j)) where
  abbrev old : Mapping
  old = mapping_in sets.table j

  drops-by : (by : Clearing) → IsPossible by m.header.fields.version → w ≡ cleared_raw_entry m.header.fields.cluster_bits by old
      → DropsNames m i j old (cleared by old) cached'
  drops-by Keep newer w-is =
      zero-drops m.file m.header m.cached cached' m.order key i j sound.well_formed w sets true newer w-is
  drops-by GiveUp newer w-is =
      zero-drops m.file m.header m.cached cached' m.order key i j sound.well_formed w sets false newer w-is
  drops-by Unmap newer w-is =
      discard-drops m.file m.header m.cached cached' m.order key i j sound.well_formed (record {
        table = sets.table;
        caches = sets.caches;
        inside = sets.inside;
        tables = subst (λ v. cached'.tables ≡ hit (nat_eq key) m.cached.tables (with_raw_entry sets.table j v)) w-is sets.tables;
        blocks = sets.blocks;
      })

  pub drops : DropsNames m i j old (cleared how old) cached'
  drops = drops-by how possible is

  -- The entry has the new meaning for its guest cluster.
  pub now-means : slot (in_memory (record m { cached = cached' })) m.header.fields i j ≡ cleared how old
  now-means = drops.changed.written.here

  -- Each cluster that the entry referenced is still referenced, or is to free.
  module _ (given : Option FreeEntry) (data-alone : IfSome given (λ e. e.metadata ≡ false))
      (conserved : Conserves m.header.fields.cluster_bits old (cleared how old) given (λ c. 0)) where
    pub word-cleared : AdvancesBy (dropping m i j (cleared how old) given) m (record m { cached = cached'; pending = m.pending ++ listed_of given })
    word-cleared = dropped-waits m i j old (cleared how old) given cached' sound drops data-alone
        (λ c. let all = conserved m.header.fields refl c in omega (arith, all))
