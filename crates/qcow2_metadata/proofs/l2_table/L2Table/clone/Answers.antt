use Rattle.std.proofs.Common.{◌≡◌, ◌∙◌, ap, sym, subst, map, take, arith}
use Rattle.std.proofs.lemmas.List.{take_all}
use Rattle.qcow2_types.specs.TableBytes.{AreFit}
use Rattle.qcow2_metadata.specs.Tables.{l2_table_kind, shared_raw_entry, AreSound}
use Rattle.qcow2_metadata.proofs.L2Words.{shared_sound, shared_fit}
use Rattle.qcow2_metadata.proofs.l2_table.L2Table.clone.Goals as goal

pub of_raw_entries-requires-clause-sound : goal.of_raw_entries-requires-clause-sound
of_raw_entries-requires-clause-sound c =
    let t = c.args.self.now in
    let all : take c.loop-entry.entry-index c.content-entry-items.result.now ≡ t.raw_entries = take_all c.loop-entry.entry-index c.content-entry-items.result.now (omega arith) ∙ c.content-entry-items.ensures.value in
    let table = c.entries.ensures.table in
    rw c.layout-2.ensures.value (subst (AreSound l2_table_kind t.layout) (sym (c.loop-entry.invariant ∙ ap (map (shared_raw_entry t.layout)) all)) (shared_sound t.layout t.raw_entries table.low table.sound))

pub of_raw_entries-requires-clause-fit : goal.of_raw_entries-requires-clause-fit
of_raw_entries-requires-clause-fit c =
    let t = c.args.self.now in
    let all : take c.loop-entry.entry-index c.content-entry-items.result.now ≡ t.raw_entries = take_all c.loop-entry.entry-index c.content-entry-items.result.now (omega arith) ∙ c.content-entry-items.ensures.value in
    subst AreFit (sym (c.loop-entry.invariant ∙ ap (map (shared_raw_entry t.layout)) all)) (shared_fit t.layout t.raw_entries c.entries.ensures.table.fit)
