use Rattle.std.proofs.Common.{◌≡◌, ap}
use Rattle.std.specs.Prelude.{true, IsTrue}
use Rattle.qcow2_metadata.specs.Tables.{TableValue, with_raw_entry, raw_entry_valid}
use Rattle.qcow2_metadata.proofs.TableSteps.{entered}
use Rattle.qcow2_metadata.proofs.WordLists.{words_set}
use Rattle.qcow2_metadata.proofs.entry_table.EntryTable.set_entry.Goals as goal

pub invariant_of-self : goal.invariant_of-self
invariant_of-self g c =
    let s = c.self.inside in
    let entry = g.E.TableEntry in
    let i = c.args.index in
    let layout : s.layout ≡ c.args.self.now.layout = ap (λ (t : TableValue). t.layout) c.self.view_is in
    let sound : IsTrue (raw_entry_valid entry.kind s.layout (entry.raw_entry c.args.entry)) = rw layout c.requires.sound in
    rw (words_set entry.raw_entry entry.raw_entries g.met.E.TableEntry.each s.content.items i c.args.entry)
    (entered entry.kind s.layout (entry.raw_entries s.content.items) i (entry.raw_entry c.args.entry) s.cluster s.cluster s.modified true c.self.invariant sound c.requires.fits)

pub returns : goal.returns
returns g c =
    let s = c.self.inside in
    let entry = g.E.TableEntry in
    let set = words_set entry.raw_entry entry.raw_entries g.met.E.TableEntry.each s.content.items c.args.index c.args.entry in
    rw set (ap (λ (t : TableValue). with_raw_entry t c.args.index (entry.raw_entry c.args.entry)) c.self.view_is)
