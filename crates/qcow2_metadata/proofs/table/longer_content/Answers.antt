use Rattle.std.proofs.Common.{◌≡◌, ◌≤◌, ◌∙◌, ap, sym, map, length, arith}
use Rattle.std.specs.Prelude.{slice_index}
use Rattle.std.specs.List.{range_with_len}
use Rattle.qcow2_metadata.proofs.TableSteps.{copied_words, one_word_more}
use Rattle.qcow2_metadata.proofs.WordLists.{words_pushed}
use Rattle.qcow2_metadata.proofs.table.longer_content.Goals as goal

pub loop-index-preserved : goal.loop-index-preserved
loop-index-preserved g c =
    let raw_entries = (g.T.Table.value c.args.table.now).raw_entries in
    let one = one_word_more raw_entries c.loop-index.index in
    let entry = g.T.InternalEntry.TableEntry in
    let pushed = words_pushed entry.raw_entry entry.raw_entries g.met.T.InternalEntry.TableEntry.each c.loop-index.content.items c.entry_or_empty.result in
    rw c.in_ok-push.ensures.items (pushed ∙ (cc (c.loop-index.invariant, c.entry_or_empty.ensures)) ∙ sym one)

pub returns-clause-raw_entries : goal.returns-clause-raw_entries
returns-clause-raw_entries g c =
    let raw_entries = (g.T.Table.value c.args.table.now).raw_entries in
    let end : c.loop-index.index ≡ c.args.count = omega arith in
    let few : length raw_entries ≤ c.args.count = c.requires in
    c.loop-index.invariant ∙ (ap (λ n. map (λ i. slice_index raw_entries i) (range_with_len 0 n)) end ∙ copied_words raw_entries c.args.count few)
