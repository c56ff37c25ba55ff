-- Specifies lookups of consecutive guest clusters in the L1 and L2 tables: their answers, and that nothing is written.
use Rattle.std.specs.Prelude.{◌≡◌, ◌≢◌, ◌⊎◌, ⊤, ℕ, min, ◌+◌, ◌-◌, ◌/◌, ◌%◌, ◌<◌, ◌≤◌, ◌^◌, ◌==◌, if◌then◌else◌, true, ◌*◌, List, slice_index, Result, IfOk, IfErr, Option, Some, None}
use Rattle.imago_storage.specs.Calls.{UnchangedButFaults, CountsNotFallen, IsFaultless}
use Rattle.imago_storage.specs.declared.fault.Fault.{Fault}
use Rattle.imago_storage.specs.declared.fault.Fault.TheVariants.{DamagedTable}
use Rattle.imago_access.specs.Files.{HadNoResourceError}
use Rattle.qcow2_types.specs.Entries.{entry, l2_entries}
use Rattle.qcow2_types.specs.Header.{Fields, cluster_size, entries_of_cluster}
use Rattle.qcow2_types.specs.Words.{Mapping, data_at, zeroes, packed, damaged, table_offset}
use Rattle.qcow2_types.specs.Words as mappings
use Rattle.qcow2_metadata.specs.Tables.{TableValue, IsTable, l2_table_kind, mapping_in}
use Rattle.qcow2_metadata.specs.MappingView.{mapping_seen, IsHostAddressable}
use Rattle.qcow2_metadata.specs.declared.mapping.L2Mapping.{L2Mapping}
use Rattle.imago_storage.specs.declared.storage.Storage.{Ghosts}
use Rattle.qcow2_image.specs.declared.mode.OpenMode.{OpenMode}
use Rattle.qcow2_image.specs.declared.tables.Tables.{Tables}
use Rattle.qcow2_image.specs.Seen.{IsCacheCoherent, file_of}
use Rattle.qcow2_image.specs.ImageLayer.{shallow_of}
use Rattle.imago_access.specs.declared.mapping.ShallowMapping.{ShallowMapping}
use Rattle.imago_access.specs.declared.mapping.ShallowMapping.TheVariants as shallow
use Rattle.qcow2_alloc.specs.Causes.{HasCause, Causes}

-- The cluster that an L1 entry references, if any.
abbrev pub cluster_named : ℕ → ℕ → Option ℕ
cluster_named cluster_bits raw_entry = if table_offset raw_entry == 0 then None else Some (table_offset raw_entry / 2 ^ cluster_bits)

-- The cluster of the L2 table of a guest cluster, by these L1 entries.
abbrev pub place_of_table : List ℕ → ℕ → ℕ → Option ℕ
place_of_table raw_entries cluster_bits guest = cluster_named cluster_bits (slice_index raw_entries (guest / l2_entries cluster_bits))

-- The mappings of two neighbours are consecutive: both are of one kind, and their clusters, if any, are consecutive and have the same
-- COPIED flag. Compressed and damaged mappings never are.
abbrev pub Follows : Mapping → Mapping → Type 0
Follows (data_at cluster mark) (data_at cluster' mark') = (cluster' ≡ cluster + 1) × (mark' ≡ mark)
Follows (zeroes (Some cluster) mark) (zeroes (Some cluster') mark') = (cluster' ≡ cluster + 1) × (mark' ≡ mark)
Follows (zeroes None mark) (zeroes None mark') = ⊤
Follows mappings.unmapped mappings.unmapped = ⊤
Follows mapping mapping' = ⊥

-- The run from a guest cluster on, of at most `most` clusters: the mapping of the first, and the number of clusters. In it each mapping
-- follows the one before, and the mapping after the run doesn't.
pub record IsRunOf (guest most : ℕ) (mapped : ℕ → Mapping) (run : L2Mapping × ℕ) : Type 0 where
  pub first : mapping_seen run.0 ≡ mapped guest
  pub nonempty : 0 < run.1
  pub length_bounded : run.1 ≤ most
  pub each : (k : ℕ) → k + 1 < run.1 → Follows (mapped (guest + k)) (mapped (guest + k + 1))
  pub ends : run.1 < most → Follows (mapped (guest + run.1 - 1)) (mapped (guest + run.1)) → ⊥

-- A run of bytes ends at the start of a cluster that is in another L2 table, or whose mapping isn't consecutive.
pub record IsCutAt (h : Fields) (mapped : ℕ → Mapping) (at : ℕ) : Type 0 where
  pub cluster : at % cluster_size h ≡ 0
  pub last : (at / cluster_size h % entries_of_cluster h ≡ 0)
      ⊎ (Follows (mapped (at / cluster_size h - 1)) (mapped (at / cluster_size h)) → ⊥)

-- A run of `n` bytes at `offset`: its clusters are in one L2 table, and their mappings are consecutive. It covers all of the range that is
-- on the disk, or ends at a cut.
pub record IsWholeRun (h : Fields) (mapped : ℕ → Mapping) (offset asked n : ℕ) : Type 0 where
  pub each : (g : ℕ) → offset / cluster_size h < g → g * cluster_size h < offset + n
      → (0 < g % entries_of_cluster h) × Follows (mapped (g - 1)) (mapped g)
  pub ends : (n ≡ min asked (h.size - offset)) ⊎ IsCutAt h mapped (offset + n)

-- `IsWholeRun` holds, by the L2 entries of an image.
abbrev pub IsWholeRunIn : {S : Type 0} (g : Ghosts S) → Tables S g → ℕ → ℕ → ℕ → Type 0
IsWholeRunIn g t = IsWholeRun t.file.header.fields (entry (file_of g t) t.file.header.fields)

-- The answer of a lookup for the L2 entry at an offset, of an image with this mode.
abbrev pub answer_at : {S : Type 0} (g : Ghosts S) → Tables S g → OpenMode → ℕ → ShallowMapping
answer_at g t mode offset = let h = t.file.header.fields in
    shallow_of mode h.cluster_bits offset (offset % cluster_size h) (entry (file_of g t) h (offset / cluster_size h))

-- A run in the file ends far below 2^64, as entries have short offsets.
abbrev pub EndsNear : ShallowMapping → ℕ → Type 0
EndsNear (shallow.Raw storage place writable) n = place + n ≤ 2 ^ 60
EndsNear mapping n = ⊤

-- The offset in the file where the run of an answer can be written, if it can.
abbrev pub writable_place_of : ShallowMapping → Option ℕ
writable_place_of (shallow.Raw storage place true) = Some place
writable_place_of mapping = None

-- The run is read from a table, which doesn't change. A table for another cluster size is damaged.
pub record ReadsRun (cluster_bits guest most : ℕ) (table : TableValue) (result : Result (L2Mapping × ℕ) Fault)
    (table' : TableValue) : Type 0 where
  pub same : table' ≡ table
  pub fits : IsTable l2_table_kind table
  pub ok : IfOk result (λ run. IsRunOf guest most (λ g. mapping_in table (g % l2_entries cluster_bits)) run × IsHostAddressable cluster_bits run.0)
  pub err : IfErr result (λ e. (e ≡ DamagedTable) × (table.layout.cluster_bits ≢ cluster_bits))

-- A lookup fails only for a resource error or for a damaged table.
abbrev pub looking_causes : (damage : Type 0) → (before after : ℕ) → Causes
looking_causes damage before after =
    record { damaged = damage; counter = ⊥; full = ⊥; limit = λ number. ⊥; before = before; after = after }

-- A lookup of the run from a guest cluster on, of at most `most` clusters. The answer doesn't depend on what is cached, and nothing is
-- written.
pub record LooksAt {S : Type 0} (g : Ghosts S) (guest most : ℕ) (old : Tables S g) (result : Result (L2Mapping × ℕ) Fault)
    (new : Tables S g) : Type 0 where
  pub unchanged_but_faults : UnchangedButFaults (g.state old.file.image) (g.state new.file.image)
  pub counts_not_fallen : CountsNotFallen (g.state old.file.image) (g.state new.file.image)
  pub faults : HadNoResourceError result → IsFaultless (g.state old.file.image) (g.state new.file.image)
  pub header : new.file.header ≡ old.file.header
  pub l1 : new.l1 ≡ old.l1
  pub space : new.space ≡ old.space
  pub seen : IsCacheCoherent g old → IsCacheCoherent g new
  pub says : IsCacheCoherent g old → IfOk result (IsRunOf guest most (entry (file_of g old) old.file.header.fields))
  pub named : IfOk result (λ run. IsHostAddressable old.file.header.fields.cluster_bits run.0 × (0 < run.1) × (run.1 ≤ most))
  pub failed : IfErr result (HasCause (looking_causes ⊤ (g.state old.file.image).faults (g.state new.file.image).faults))
  pub cause : IsCacheCoherent g old → IfErr result (HasCause (looking_causes (entry (file_of g old) old.file.header.fields guest ≡ damaged)
      (g.state old.file.image).faults (g.state new.file.image).faults))
