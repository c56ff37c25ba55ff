use Rattle.std.proofs.Common.{◌≡◌, ◌≤◌, ◌++◌, ◌∙◌, ℕ, List, length, ap}
use Rattle.std.proofs.lemmas.Result.{err_from_is_err_and}
use Rattle.qcow2_types.specs.HeaderBytes.{header_bytes, fields_length}
use Rattle.qcow2_metadata.proofs.Written.{name-begins, all-long, all-written, fields-kept, fields-inside, overwritten}
use Rattle.qcow2_metadata.specs.FieldsView.{seen_fields}
use Rattle.qcow2_metadata.proofs.Fitting.{fits-passed, fits-refused}
use Rattle.qcow2_metadata.proofs.header.Header.prepared.Goals as goal

pub check_length-requires : goal.check_length-requires
check_length-requires c =
    let all = c.in_ok-extend_from_slice.ensures.items ∙ ap (λ (xs : List ℕ). c.in_ok-bytes.bytes.items ++ xs) c.name_bytes.ensures in
    c.len.ensures ∙ (c.extend_from_slice.new.self.ok.0 ∙ all-long c.args.self.now _ _ c.in_ok-bytes.ensures all)

pub placed_fields-requires-clause-at : goal.placed_fields-requires-clause-at
placed_fields-requires-clause-at c = c.len-name_at.ensures ∙ (c.in_ok-bytes.bytes.ok.0 ∙ name-begins c.args.self.now _ c.extend_from_slice.new.self.items c.in_ok-bytes.ensures)

pub placed_fields-requires-clause-short : goal.placed_fields-requires-clause-short
placed_fields-requires-clause-short c = (fits-passed c.args.self.now _ c.in_ok-check_length.ensures).1

pub returns-in_err-check_length-clause-err : goal.returns-in_err-check_length-clause-err
returns-in_err-check_length-clause-err c =
    let p = err_from_is_err_and c.from_residual-in_err-check_length.result c.from_residual-in_err-check_length.ensures.1 in
    let all = c.in_ok-extend_from_slice.ensures.items ∙ ap (λ (xs : List ℕ). c.in_ok-bytes.bytes.items ++ xs) c.name_bytes.ensures in
    let long : c.len.result ≡ length (header_bytes c.args.self.now) = c.len.ensures ∙ (c.extend_from_slice.new.self.ok.0 ∙ all-long c.args.self.now _ _ c.in_ok-bytes.ensures all) in
    rw (p.1, p.2) (fits-refused c.args.self.now c.len.result _ long c.in_err-check_length.ensures)

pub put_fields-requires-clause-room : goal.put_fields-requires-clause-room
put_fields-requires-clause-room c =
    let all = c.in_ok-extend_from_slice.ensures.items ∙ ap (λ (xs : List ℕ). c.in_ok-bytes.bytes.items ++ xs) c.name_bytes.ensures in
    let fields : fields_length (seen_fields c.placed_fields.result.0 c.placed_fields.result.1) ≡ fields_length c.args.self.now.fields = fields-kept c.args.self.now _ c.placed_fields.ensures.fields in
    let room : fields_length c.args.self.now.fields ≤ length c.extend_from_slice.new.self.items = fields-inside c.args.self.now _ _ c.in_ok-bytes.ensures all in
    rw (fields, c.deref_mut.ensures.value) room

pub returns-clause-bytes : goal.returns-clause-bytes
returns-clause-bytes c =
    let all = c.in_ok-extend_from_slice.ensures.items ∙ ap (λ (xs : List ℕ). c.in_ok-bytes.bytes.items ++ xs) c.name_bytes.ensures in
    let same : length c.put_fields.new.bytes ≡ length c.extend_from_slice.new.self.items = c.put_fields.auto.bytes ∙ ap length c.deref_mut.ensures.value in
    overwritten c.put_fields.new.bytes c.extend_from_slice.new.self.items c.extend_from_slice.new.self.len c.extend_from_slice.new.self.ok.0 same
    ∙ all-written c.args.self.now _ c.extend_from_slice.new.self.items c.in_ok-bytes.ensures _ _ all c.placed_fields.ensures.fields (rw c.deref_mut.ensures.value at c.put_fields.ensures)

pub returns-clause-fits : goal.returns-clause-fits
returns-clause-fits c = (fits-passed c.args.self.now _ c.in_ok-check_length.ensures).0
