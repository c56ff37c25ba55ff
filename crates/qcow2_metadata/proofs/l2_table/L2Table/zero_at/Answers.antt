use Rattle.std.proofs.Common.{◌≡◌, ◌∙◌, ap, arith}
use Rattle.std.specs.Prelude.{slice_index}
use Rattle.std.specs.Option.{is_some}
use Rattle.qcow2_types.specs.Words.{Layout, mapping_of}
use Rattle.qcow2_metadata.specs.Allocations.{freed, unkept, allocation_of, kept_where, zeroed_raw_entry}
use Rattle.qcow2_metadata.proofs.Conservation.{zero_conserves}
use Rattle.qcow2_metadata.proofs.L2Words.{zeroed_sound}
use Rattle.qcow2_metadata.proofs.l2_table.L2Table.zero_at.Goals as goal

pub set_entry-requires-clause-sound : goal.set_entry-requires-clause-sound
set_entry-requires-clause-sound c =
    let t = c.args.self.now in
    let same : c.layout.result.version ≡ t.layout.version = ap (λ (l : Layout). l.version) c.layout.ensures.value in
    let three : t.layout.version ≡ 3 = omega (arith, same, c.version.ensures) in
    let raw_entry : c.zero_entry.result ≡ zeroed_raw_entry t.layout.cluster_bits c.kept_at-kept.result = c.zero_entry.ensures ∙ ap (λ b. zeroed_raw_entry b c.kept_at-kept.result) c.cluster_bits.ensures.value in
    rw raw_entry (zeroed_sound t.layout c.kept_at-kept.result c.layout.ensures.table.low three c.kept_at-kept.ensures.reach)

pub returns-clause-conserved : goal.returns-clause-conserved
returns-clause-conserved c =
    let t = c.args.self.now in
    let same : c.layout.result.version ≡ t.layout.version = ap (λ (l : Layout). l.version) c.layout.ensures.value in
    let three : t.layout.version ≡ 3 = omega (arith, same, c.version.ensures) in
    let kept = c.kept_at-kept.ensures.kept_host in
    let back : c.to_free_unless_kept.result ≡ freed (unkept (is_some (kept_where c.args.keep_allocation (mapping_of t.layout (slice_index t.raw_entries c.args.index)))) (allocation_of t.layout.cluster_bits (mapping_of t.layout (slice_index t.raw_entries c.args.index)))) =
    c.to_free_unless_kept.ensures ∙ (ap (λ a. freed (unkept c.is_some-is_kept.result a)) c.allocation_at-old.ensures ∙ ap (λ b. freed (unkept b (allocation_of t.layout.cluster_bits (mapping_of t.layout (slice_index t.raw_entries c.args.index))))) (c.is_some-is_kept.ensures ∙ ap is_some kept)) in
    rw back (zero_conserves t.layout (slice_index t.raw_entries c.args.index) c.args.keep_allocation c.layout.ensures.table.low three (rw kept at c.kept_at-kept.ensures.reach))
