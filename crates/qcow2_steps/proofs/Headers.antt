-- Headers that differ only in the offsets and lengths of the two tables.
use Rattle.std.proofs.Common.{◌≡◌, ℕ, refl, ap, ◌∙◌}
use Rattle.qcow2_types.specs.Header.{Header}
use Rattle.qcow2_types.specs.Switched.{with_l1_table, with_refcount_table}
use Rattle.qcow2_steps.specs.Advancing.{KeepsHeader}

-- `KeepsHeader` is reflexive and transitive, and true of a header with other tables.
pub header-same : (H : Header) → KeepsHeader H H
header-same H = (H.fields.l1_offset, H.fields.l1_entries, H.fields.refcount_table_offset, H.fields.refcount_table_clusters, refl)

pub header-l1 : (H : Header) (offset entries : ℕ) → KeepsHeader H (with_l1_table H offset entries)
header-l1 H offset entries = (offset, entries, H.fields.refcount_table_offset, H.fields.refcount_table_clusters, refl)

pub header-counts : (H H' : Header) → (offset : ℕ) × (clusters : ℕ) × (H' ≡ with_refcount_table H offset clusters) → KeepsHeader H H'
header-counts H H' moved = (H.fields.l1_offset, H.fields.l1_entries, moved.0, moved.1, moved.2)

pub header-then : (H H1 H2 : Header) → KeepsHeader H H1 → KeepsHeader H1 H2 → KeepsHeader H H2
header-then H H1 H2 one two = (two.0, two.1, two.2, two.3, two.4 ∙ ap (λ K. with_refcount_table (with_l1_table K two.0 two.1) two.2 two.3) one.4)

-- The cluster size is the same.
pub header-bits : (H H' : Header) → KeepsHeader H H' → H'.fields.cluster_bits ≡ H.fields.cluster_bits
header-bits H H' keeps = ap (λ (K : Header). K.fields.cluster_bits) keeps.4
