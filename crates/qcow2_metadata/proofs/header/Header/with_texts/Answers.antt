use Rattle.std.proofs.Common.{◌≡◌, ap}
use Rattle.std.specs.Option.{option_copied}
use Rattle.std.proofs.lemmas.Result.{err_from_is_err_and}
use Rattle.qcow2_types.specs.Bytes.{bytes_of}
use Rattle.qcow2_types.specs.Header.{Header as HeaderRecord, text_read, texts_of, backing_name_read}
use Rattle.qcow2_metadata.specs.FieldsView.{seen_fields}
use Rattle.qcow2_metadata.specs.Extensions.{seen_known}
use Rattle.qcow2_metadata.proofs.Texts.{refused-through, refused-as, texts-name, texts-extensions, texts-format, texts-data, texts-all}
use Rattle.qcow2_metadata.proofs.header.Header.with_texts.Goals as goal

pub returns-in_err-backing_filename-clause-err : goal.returns-in_err-backing_filename-clause-err
returns-in_err-backing_filename-clause-err c =
    let p = err_from_is_err_and c.from_residual.result c.from_residual.ensures.1 in
    let f = bytes_of c.args.cluster.now in
    let h = c.args.self.fields in
    rw (p.1, p.2) (refused-through (backing_name_read f h) (texts_of f h) (texts-name f h) _ c.in_err-backing_filename.ensures.err)

pub returns-in_err-known-clause-err : goal.returns-in_err-known-clause-err
returns-in_err-known-clause-err c =
    let p = err_from_is_err_and c.from_residual-in_err-known.result c.from_residual-in_err-known.ensures.1 in
    let f = bytes_of c.args.cluster.now in
    let h = c.args.self.fields in
    rw (p.1, p.2) (refused-as (texts_of f h) _ (texts-extensions f h _ c.in_ok-backing_filename.ensures.ok _ c.in_err-known.ensures.err))

pub returns-in_err-backing_format-clause-err : goal.returns-in_err-backing_format-clause-err
returns-in_err-backing_format-clause-err c =
    let p = err_from_is_err_and c.from_residual-in_err-backing_format.result c.from_residual-in_err-backing_format.ensures.1 in
    let f = bytes_of c.args.cluster.now in
    let h = c.args.self.fields in
    let known = c.in_ok-known.known in
    rw (p.1, p.2) (refused-through (text_read (option_copied known.backing_format)) (texts_of f h)
    (texts-format f h _ c.in_ok-backing_filename.ensures.ok (seen_known known) c.in_ok-known.ensures.ok) _ c.in_err-backing_format.ensures.err)

pub returns-in_err-external_data_filename-clause-err : goal.returns-in_err-external_data_filename-clause-err
returns-in_err-external_data_filename-clause-err c =
    let p = err_from_is_err_and c.from_residual-in_err-external_data_filename.result c.from_residual-in_err-external_data_filename.ensures.1 in
    let f = bytes_of c.args.cluster.now in
    let h = c.args.self.fields in
    let known = c.in_ok-known.known in
    rw (p.1, p.2) (refused-through (text_read (option_copied known.external_data_filename)) (texts_of f h)
    (texts-data f h _ c.in_ok-backing_filename.ensures.ok (seen_known known) c.in_ok-known.ensures.ok _ c.in_ok-backing_format.ensures.ok) _ c.in_err-external_data_filename.ensures.err)

pub returns-clause-ok : goal.returns-clause-ok
returns-clause-ok c =
    let f = bytes_of c.args.cluster.now in
    let h = c.args.self.fields in
    let known = c.in_ok-known.known in
    let same : seen_fields c.self.inside.v2 c.self.inside.v3 ≡ h = ap (λ (r : HeaderRecord). r.fields) c.self.view_is in
    rw (same, c.in_ok-feature_names.ensures.value)
    (texts-all f h _ c.in_ok-backing_filename.ensures.ok (seen_known known) c.in_ok-known.ensures.ok _ c.in_ok-backing_format.ensures.ok _ c.in_ok-external_data_filename.ensures.ok)
