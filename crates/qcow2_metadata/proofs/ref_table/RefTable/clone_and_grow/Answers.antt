use Rattle.std.proofs.Common.{sym, subst, ℕ}
use Rattle.std.specs.Prelude.{false}
use Rattle.qcow2_types.specs.Header.{layout_of}
use Rattle.qcow2_metadata.specs.Tables.{AreSound, refcount_table_kind, padded}
use Rattle.qcow2_types.specs.TableBytes.{AreFit}
use Rattle.qcow2_metadata.proofs.TableSteps.{padded_sound, padded_fit}
use Rattle.qcow2_metadata.proofs.ref_table.RefTable.clone_and_grow.Goals as goal

pub from_data-requires-clause-sound : goal.from_data-requires-clause-sound
from_data-requires-clause-sound c =
    let t = c.args.self.now in
    let old = padded_sound refcount_table_kind t.layout t.raw_entries c.in-Some.count c.layout.ensures.table.sound in
    subst (AreSound refcount_table_kind (layout_of c.args.header.now.fields)) (sym c.in_ok-content.ensures.raw_entries)
    (subst (λ (b : ℕ). AreSound refcount_table_kind (record { cluster_bits = b; version = 0; external_data = false }) (padded t.raw_entries c.in-Some.count)) c.requires.bits old)

pub from_data-requires-clause-fit : goal.from_data-requires-clause-fit
from_data-requires-clause-fit c = subst AreFit (sym c.in_ok-content.ensures.raw_entries) (padded_fit c.args.self.now.raw_entries c.in-Some.count c.layout.ensures.table.fit)
