use Rattle.std.proofs.Common.{◌*◌, ◌≤◌, ◌∙◌, ap, sym, subst, refl, length, arith}
use Rattle.qcow2_types.specs.Bytes.{bytes_of}
use Rattle.qcow2_types.specs.Header.{cluster_size, layout_of}
use Rattle.qcow2_metadata.specs.Tables.{max_entries, IsLength}
use Rattle.qcow2_metadata.proofs.TableFacts.{words_long, asked_is_length}
use Rattle.qcow2_metadata.proofs.table.Table.load.Goals as goal

pub returns-then-entries-MAX_ENTRIES-clause-err : goal.returns-then-entries-MAX_ENTRIES-clause-err
returns-then-entries-MAX_ENTRIES-clause-err g c =
    let f = bytes_of (g.S.Storage.state c.args.image.now).bytes in
    let few = g.met.Self.Table.few in
    (sym (words_long f (c.args.cluster * cluster_size c.args.header.now.fields) c.args.entries), omega (arith, few), refl)

pub from_data-table-requires-clause-long : goal.from_data-table-requires-clause-long
from_data-table-requires-clause-long g c =
    let f = bytes_of (g.S.Storage.state c.args.image.now).bytes in
    let few = g.met.Self.Table.few in
    let h = c.args.header.now.fields in
    let kind = g.Self.InternalEntry.TableEntry.kind in
    let most : c.args.entries ≤ max_entries kind = omega (arith, few) in
    let long = ap length c.in_ok-content.ensures.raw_entries ∙ words_long f (c.args.cluster * cluster_size h) c.args.entries in
    subst (IsLength kind (layout_of h)) (sym long) (asked_is_length kind h c.args.entries c.load_entries.ensures.shaped most c.requires.asked)
