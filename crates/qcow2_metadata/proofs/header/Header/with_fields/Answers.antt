use Rattle.std.proofs.Common.{◌≡◌, ◌∙◌, ap, refl}
use Rattle.std.proofs.lemmas.Result.{err_from_is_err_and}
use Rattle.qcow2_types.specs.Bytes.{bytes_of, be}
use Rattle.qcow2_types.specs.Header.{Fields, fields_of}
use Rattle.qcow2_metadata.proofs.RuleLemmas.{kind-passed, shape-passed, fault-kind, fault-shape, fault-sizes}
use Rattle.qcow2_metadata.proofs.header.Header.with_fields.Goals as goal

pub check_kind-requires-clause-version : goal.check_kind-requires-clause-version
unfolding fields_of
check_kind-requires-clause-version c = ap (λ (h : Fields). h.version) c.fields_at_start.ensures.fields

pub returns-in_err-check_kind-clause-fault : goal.returns-in_err-check_kind-clause-fault
returns-in_err-check_kind-clause-fault c =
    let p = err_from_is_err_and c.from_residual.result c.from_residual.ensures.1 in
    rw (p.1, p.2) (fault-kind (bytes_of c.args.start.now) _ c.in_err-check_kind.ensures)

pub returns-in_err-check_shape-clause-fault : goal.returns-in_err-check_shape-clause-fault
returns-in_err-check_shape-clause-fault c =
    let p = err_from_is_err_and c.from_residual-in_err-check_shape.result c.from_residual-in_err-check_shape.ensures.1 in
    rw (p.1, p.2) (fault-shape (bytes_of c.args.start.now) _ _ c.fields_at_start.ensures.fields c.in_ok-check_kind.ensures c.in_err-check_shape.ensures)

pub returns-in_err-check_sizes-clause-fault : goal.returns-in_err-check_sizes-clause-fault
returns-in_err-check_sizes-clause-fault c =
    let p = err_from_is_err_and c.from_residual-in_err-check_sizes.result c.from_residual-in_err-check_sizes.ensures.1 in
    rw (p.1, p.2) (fault-sizes (bytes_of c.args.start.now) _ _ c.fields_at_start.ensures.fields c.in_ok-check_kind.ensures c.in_ok-check_shape.ensures c.in_err-check_sizes.ensures)

pub returns-clause-fault : goal.returns-clause-fault
returns-clause-fault c =
    fault-sizes (bytes_of c.args.start.now) _ _ c.fields_at_start.ensures.fields c.in_ok-check_kind.ensures c.in_ok-check_shape.ensures c.in_ok-check_sizes.ensures

pub invariant_of-result : goal.invariant_of-result
unfolding fields_of
invariant_of-result c =
    let f = bytes_of c.args.start.now in
    let kind = kind-passed f c.in_ok-check_kind.ensures in
    let version : c.fields_at_start.result.0.version ≡ be f 4 4 = ap (λ (h : Fields). h.version) c.fields_at_start.ensures.fields in
    record {
      parts = record {
        magic = c.fields_at_start.ensures.magic ∙ kind.0;
        version = rw version kind.1;
        shaped = shape-passed _ c.in_ok-check_shape.ensures;
        older = c.fields_at_start.ensures.older;
      };
      ordered = rw c.new.ensures.items refl;
    }
