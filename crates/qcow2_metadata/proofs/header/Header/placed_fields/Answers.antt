use Rattle.std.proofs.Common.{◌≡◌, ◌+◌, ◌∙◌, refl, ap, sym, length}
use Rattle.qcow2_types.specs.Header.{Header as HeaderRecord}
use Rattle.qcow2_types.specs.HeaderBytes.{fields_length, written_fields, extensions_bytes, name_bytes, backing_name_offset}
use Rattle.std.specs.String.{string_bytes}
use Rattle.qcow2_metadata.specs.HeaderView.{seen_header}
use Rattle.qcow2_metadata.proofs.Written.{with-place, place-some, place-none}
use Rattle.qcow2_metadata.proofs.header.Header.placed_fields.Goals as goal
use Rattle.qcow2_metadata.proofs.header.Header.placed_fields.Goals.{then-is_some, else-is_some}

pub returns-clause-fields : goal.returns-clause-fields
returns-clause-fields c =
    let h : HeaderRecord = seen_header c.self.inside in
    let same : seen_header c.self.inside ≡ c.args.self.now = c.self.view_is in
    let long : c.fields_length.result ≡ fields_length (seen_header c.self.inside).fields = c.fields_length.ensures ∙ ap (λ (r : HeaderRecord). fields_length r.fields) (sym same) in
    let at : c.args.name_at ≡ fields_length (seen_header c.self.inside).fields + length (extensions_bytes (seen_header c.self.inside)) =
    c.requires.at ∙ ap (λ (r : HeaderRecord). fields_length r.fields + length (extensions_bytes r)) (sym same) in
    let place : c.if-is_some.place ≡ backing_name_offset (seen_header c.self.inside) (seen_header c.self.inside).backing_name =
    elim c.if-is_some.branch [
      | then-is_some w ↦ w.place-is ∙ (at ∙ place-some h string_bytes c.self.inside.backing_filename (sym c.is_some.ensures ∙ w.if-is_some.true))
      | else-is_some w ↦ w.place-is ∙ place-none h string_bytes c.self.inside.backing_filename (sym c.is_some.ensures ∙ w.if-is_some.false)
    ] in
    let name : length c.name_bytes.result.now ≡ length (name_bytes (seen_header c.self.inside).backing_name) = ap length c.name_bytes.ensures ∙ ap (λ (r : HeaderRecord). length (name_bytes r.backing_name)) (sym same) in
    with-place h (seen_header c.self.inside).backing_name _ _ _ refl place name long ∙ ap written_fields same
