use Rattle.std.proofs.Common.{refl, subst, sym}
use Rattle.std.specs.Prelude.{IsTrue}
use Rattle.qcow2_types.specs.Header.{layout_of}
use Rattle.qcow2_metadata.specs.Tables.{l2_table_kind, raw_entry_valid}
use Rattle.qcow2_metadata.proofs.TableSteps.{zero_sound}
use Rattle.qcow2_metadata.proofs.entries.L2EntryTableEntry.try_from_plain.Goals as goal

-- The entry 0 is valid in every table.
pub returns-then-value-eq0-clause-possible : goal.returns-then-value-eq0-clause-possible
returns-then-value-eq0-clause-possible c =
    let layout = layout_of c.args.header.now.fields in
    (λ yes. subst (λ w. IsTrue (raw_entry_valid l2_table_kind layout w)) (sym c.if-value-eq0.true) (zero_sound l2_table_kind layout), λ sound. refl)
