use Rattle.std.proofs.Common.{◌≡◌, ◌≤◌, ◌∙◌, refl, ap, sym, subst, length, arith}
use Rattle.std.proofs.lemmas.List.{length-replicate}
use Rattle.qcow2_types.specs.Header.{layout_of, entries_of_cluster}
use Rattle.qcow2_metadata.specs.Tables.{l2_table_kind, AreSound, IsLength, max_entries}
use Rattle.qcow2_metadata.proofs.TableFacts.{asked_is_length}
use Rattle.qcow2_metadata.proofs.GrowthLemmas.{cluster_words_bounds}
use Rattle.qcow2_metadata.proofs.L2Words.{cleared_sound}
use Rattle.qcow2_metadata.proofs.l2_table.L2Table.new_cleared.Goals as goal

pub of_raw_entries-requires-clause-long : goal.of_raw_entries-requires-clause-long
of_raw_entries-requires-clause-long c =
    let h = c.args.header.now.fields in
    let end : c.loop-raw_entry._raw_entry ≡ entries_of_cluster h = omega (arith, c.l2_entries-raw_entry-end.ensures) in
    let count : length c.loop-raw_entry.content.items ≡ entries_of_cluster h = ap length c.loop-raw_entry.invariant ∙ length-replicate c.loop-raw_entry._raw_entry 0 ∙ end in
    let few : entries_of_cluster h ≤ max_entries l2_table_kind = (cluster_words_bounds h c.of_header.ensures.shaped).1 in
    rw c.of_header.ensures.value (subst (IsLength l2_table_kind (layout_of h)) (sym count) (asked_is_length l2_table_kind h (entries_of_cluster h) c.of_header.ensures.shaped few refl))

pub of_raw_entries-requires-clause-sound : goal.of_raw_entries-requires-clause-sound
of_raw_entries-requires-clause-sound c = subst (AreSound l2_table_kind c.of_header.result) (sym c.loop-raw_entry.invariant) (cleared_sound c.of_header.result c.loop-raw_entry._raw_entry)
