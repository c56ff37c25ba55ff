use Rattle.std.proofs.Common.{◌≡◌, refl, ◌/◌, ◌∙◌, sym, subst, length, true, false}
use Rattle.std.specs.Prelude.{IsTrue}
use Rattle.imago_storage.proofs.Parts.{passed}
use Rattle.qcow2_types.specs.Bytes.{bytes_of, raw_entry}
use Rattle.qcow2_types.specs.Header.{layout_of}
use Rattle.qcow2_metadata.specs.Tables.{l2_table_kind, raw_entry_valid, raw_entries_in, WhyNotDecoded}
use Rattle.qcow2_metadata.proofs.TableFacts.{word_of_bytes, sound_more, unsound_at}
use Rattle.qcow2_metadata.proofs.stored_table.check_raw_entries.Goals as goal

pub returns-in_err-try_from_plain-clause-refused : goal.returns-in_err-try_from_plain-clause-refused
returns-in_err-try_from_plain-clause-refused c =
    let f = bytes_of c.args.bytes.now in
    let layout = layout_of c.args.header.now.fields in
    let is : c.raw_entry_at.result ≡ raw_entry f 0 c.loop-index.index = c.raw_entry_at.ensures ∙ sym (word_of_bytes f c.loop-index.index) in
    let unsound : IsTrue (raw_entry_valid l2_table_kind layout (raw_entry f 0 c.loop-index.index)) → false ≡ true = λ h. c.in_err-try_from_plain.ensures.possible.1 (subst (λ w. IsTrue (raw_entry_valid l2_table_kind layout w)) (sym is) h) in
    passed c.from_residual.result (WhyNotDecoded l2_table_kind layout (raw_entries_in f 0 (length c.args.bytes.now / 8))) c.in_err-try_from_plain.field-0.0 c.from_residual.ensures.1
    (rw c.in_err-try_from_plain.ensures.refused (unsound_at l2_table_kind layout f 0 (length c.args.bytes.now / 8) c.loop-index.index c.loop-index-test.true unsound))

pub loop-index-preserved : goal.loop-index-preserved
loop-index-preserved c =
    let f = bytes_of c.args.bytes.now in
    let i = c.loop-index.index in
    let layout = layout_of c.args.header.now.fields in
    let is : c.raw_entry_at.result ≡ raw_entry f 0 c.loop-index.index = c.raw_entry_at.ensures ∙ sym (word_of_bytes f i) in
    sound_more l2_table_kind layout f 0 i c.loop-index.invariant (subst (λ w. IsTrue (raw_entry_valid l2_table_kind layout w)) is (c.in_ok-try_from_plain.ensures.possible.0 refl))
