use Rattle.std.proofs.Common.{◌≡◌, ◌+◌, ◌^◌, ◌∙◌, ap}
use Rattle.qcow2_metadata.specs.Places.{IsPlaced}
use Rattle.qcow2_metadata.specs.Tables.{table_start}
use Rattle.qcow2_metadata.proofs.TableSteps.{l1_word_named}
use Rattle.qcow2_metadata.proofs.l1_table.L1Table.enter_l2_table.Goals as goal

pub set_entry-requires-clause-sound : goal.set_entry-requires-clause-sound
set_entry-requires-clause-sound c =
    let t = c.args.table.now in
    let placed : IsPlaced t.layout.cluster_bits t.cluster = rw c.requires.bits c.requires.can_be_referenced.placed in
    let raw_entry : c.naming.result ≡ 2 ^ 63 + table_start t = c.naming.ensures ∙ ap (λ p. 2 ^ 63 + p) c.first_byte-place.ensures.place in
    rw (← c.requires.bits, raw_entry) (l1_word_named t.layout.cluster_bits t.cluster c.first_byte-place.ensures.table.low placed)
