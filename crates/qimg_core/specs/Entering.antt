-- Specifies what the parts of an image add to the tallies, which count the references to each cluster.
use Rattle.std.specs.Prelude.{ℕ, ◌*◌, List}
use Rattle.qcow2_types.specs.Bytes.{Bytes}
use Rattle.qcow2_types.specs.Words.{Mapping}
use Rattle.qcow2_types.specs.Header.{Fields}
use Rattle.qcow2_types.specs.References.{of_cluster, of_mapping, of_copied, of_table}
use Rattle.qimg_core.specs.declared.check.names.Times.{Times}
use Rattle.qimg_core.specs.declared.check.names.Tallies.{Tallies}
use Rattle.qimg_core.specs.Names.{Adds, nothing_referenced}
use Rattle.qimg_core.specs.CheckParts.{sum_over, start_over, structure_over, entries_over}

-- Adds `times` references to each cluster of a range of bytes.
abbrev pub AddsRange : Fields → Tallies → Tallies → (first length : ℕ) → Times → Type 0
AddsRange h old new first length times = Adds h old new (λ w. times.structure * w first length) (λ w. times.mapped * w first length) (λ w.
    times.copied * w first length)

-- Adds 1 to the tally of the cluster at each of these offsets, as a part of the structure (header, tables and refcount blocks).
abbrev pub AddsPlaces : Fields → Tallies → Tallies → List ℕ → Type 0
AddsPlaces h old new places = Adds h old new (λ w. sum_over (of_cluster h w) places) nothing_referenced nothing_referenced

-- Adds 1 to the tally of the first cluster, and of each cluster of the L1 table and the refcount table.
abbrev pub AddsStart : Fields → Tallies → Tallies → Type 0
AddsStart h old new = Adds h old new (λ w. start_over h w) nothing_referenced nothing_referenced

-- Adds the first cluster, the L1 table, the refcount table, and the L2 tables and refcount blocks at these offsets: 1 for each of their
-- clusters.
abbrev pub AddsStructure : Fields → Tallies → Tallies → (tables blocks : List ℕ) → Type 0
AddsStructure h old new tables blocks = Adds h old new (λ w. structure_over h tables blocks w) nothing_referenced nothing_referenced

-- Adds what an L2 entry with this mapping references, `times` times.
abbrev pub AddsMapping : Fields → ℕ → Tallies → Tallies → Mapping → Type 0
AddsMapping h times old new mapping = Adds h old new nothing_referenced (λ w. times * of_mapping h w mapping) (λ w.
    times * of_copied h w mapping)

-- Adds what these L2 entries reference, `times` times.
abbrev pub AddsRawEntries : Fields → ℕ → Tallies → Tallies → List ℕ → Type 0
AddsRawEntries h times old new raw_entries = Adds h old new nothing_referenced (λ w. times * entries_over h (of_mapping h w) raw_entries) (λ w.
    times * entries_over h (of_copied h w) raw_entries)

-- Adds what the L2 table at offset `place` references, `times` times.
abbrev pub AddsTable : Bytes → Fields → ℕ → Tallies → Tallies → ℕ → Type 0
AddsTable f h times old new place = Adds h old new nothing_referenced (λ w. times * of_table f h (of_mapping h w) place) (λ w.
    times * of_table f h (of_copied h w) place)

-- Adds what the L2 tables at these offsets reference, once for each time that an offset is listed.
abbrev pub AddsTables : Bytes → Fields → Tallies → Tallies → List ℕ → Type 0
AddsTables f h old new places = Adds h old new nothing_referenced (λ w. sum_over (of_table f h (of_mapping h w)) places) (λ w.
    sum_over (of_table f h (of_copied h w)) places)
