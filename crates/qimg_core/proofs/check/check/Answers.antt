-- The finding of each stage is the first, as the stages before found nothing.
use Rattle.std.proofs.Common.{Ok, Err, [], true, ap, subst, sym, ◌∙◌, ◌≡◌}
use Rattle.std.proofs.lemmas.Result.{err_from_is_err_and, MatchResult-weaker}
use Rattle.std.specs.Prelude.{Result, IfOk, OnOk, IsTrue}
use Rattle.qcow2_types.specs.Header.{Header, Limited}
use Rattle.qcow2_types.proofs.Fields.HeaderLimits.{header-limited}
use Rattle.qcow2_types.specs.Consistency.{leaks, is_under_counted, tables_sound, Nowhere}
use Rattle.qcow2_metadata.specs.Loading.{file}
use Rattle.qimg_core.specs.Check.{Found, IsUnsound, IsUnder}
use Rattle.qimg_core.specs.CheckParts.{HasHeader, Tells}
use Rattle.qimg_core.proofs.Calls.{kept-both, kept-file}
use Rattle.qimg_core.proofs.Counts.Verdicts.{CanCheck, Named, named-since, table-verdict, shared-verdict, under-verdict, sound-verdict}
use Rattle.qimg_core.proofs.check.check.Goals as goal

pub places_of-requires : goal.places_of-requires
places_of-requires g c = record { loads = subst (HasHeader (file (g.S.Storage.state c.readable_header.new.image))) (sym c.forget_feature_names.ensures) (subst (λ f. HasHeader f (record c.in_ok-header.header { features = [] })) (sym (kept-file _ _ c.in_ok-header.ensures.unchanged_but_faults)) (c.in_ok-header.header.features, c.in_ok-header.ensures.loads)) }

pub names_of-requires-clause-limited : goal.names_of-requires-clause-limited
names_of-requires-clause-limited g c = subst (λ (k : Header). Limited k.fields) (sym c.forget_feature_names.ensures) (header-limited true (file (g.S.Storage.state c.args.image.now)) c.in_ok-header.header c.in_ok-header.ensures.loads)

pub compare-requires-clause-limited : goal.compare-requires-clause-limited
compare-requires-clause-limited g c = subst (λ (k : Header). Limited k.fields) (sym c.forget_feature_names.ensures) (header-limited true (file (g.S.Storage.state c.args.image.now)) c.in_ok-header.header c.in_ok-header.ensures.loads)

pub returns-in_err-places-clause-err : goal.returns-in_err-places-clause-err
returns-in_err-places-clause-err g c =
    let p = err_from_is_err_and c.from_residual-in_err-places.result c.from_residual-in_err-places.ensures.1 in
    let can : CanCheck (file (g.S.Storage.state c.args.image.now)) c.in_ok-header.header = record { loads = c.in_ok-header.ensures.loads; no_snapshots = c.in_ok-header.ensures.snapshots; data_inside = c.in_ok-header.ensures.inside } in
    rw (p.1, p.2) (table-verdict (g.S.Storage.state c.args.image.now) c.in_ok-header.header can (g.S.Storage.state c.readable_header.new.image) (g.S.Storage.state c.places_of.new.image) c.in_ok-header.ensures.unchanged_but_faults c.in_ok-header.ensures.faults c.in_err-places.field-0.0 (subst (λ (k : Header). Found (g.S.Storage.state c.readable_header.new.image) (g.S.Storage.state c.places_of.new.image) (IsUnsound (file (g.S.Storage.state c.readable_header.new.image)) k.fields) c.in_err-places.field-0.0) c.forget_feature_names.ensures c.in_err-places.ensures.err))

pub returns-in_err-names-clause-err : goal.returns-in_err-names-clause-err
returns-in_err-names-clause-err g c =
    let p = err_from_is_err_and c.from_residual-in_err-names.result c.from_residual-in_err-names.ensures.1 in
    let can : CanCheck (file (g.S.Storage.state c.args.image.now)) c.in_ok-header.header = record { loads = c.in_ok-header.ensures.loads; no_snapshots = c.in_ok-header.ensures.snapshots; data_inside = c.in_ok-header.ensures.inside } in
    rw (p.1, p.2) (table-verdict (g.S.Storage.state c.args.image.now) c.in_ok-header.header can (g.S.Storage.state c.places_of.new.image) (g.S.Storage.state c.names_of.new.image) (kept-both (g.S.Storage.state c.args.image.now) (g.S.Storage.state c.readable_header.new.image) (g.S.Storage.state c.places_of.new.image) c.in_ok-header.ensures.unchanged_but_faults c.in_ok-places.ensures.unchanged_but_faults) (c.in_ok-places.ensures.faults ∙ c.in_ok-header.ensures.faults) c.in_err-names.field-0.0 (subst (λ (k : Header). Found (g.S.Storage.state c.places_of.new.image) (g.S.Storage.state c.names_of.new.image) (IsUnsound (file (g.S.Storage.state c.places_of.new.image)) k.fields) c.in_err-names.field-0.0) c.forget_feature_names.ensures c.in_err-names.ensures.err))

pub returns-in_err-check_shared-clause-err : goal.returns-in_err-check_shared-clause-err
returns-in_err-check_shared-clause-err g c =
    let p = err_from_is_err_and c.from_residual-in_err-check_shared.result c.from_residual-in_err-check_shared.ensures.1 in
    let can : CanCheck (file (g.S.Storage.state c.args.image.now)) c.in_ok-header.header = record { loads = c.in_ok-header.ensures.loads; no_snapshots = c.in_ok-header.ensures.snapshots; data_inside = c.in_ok-header.ensures.inside } in
    let named : Named (g.S.Storage.state c.args.image.now) (g.S.Storage.state c.names_of.new.image) c.in_ok-header.header c.in_ok-names.names =
    named-since (g.S.Storage.state c.args.image.now) (g.S.Storage.state c.readable_header.new.image) (g.S.Storage.state c.places_of.new.image) (g.S.Storage.state c.names_of.new.image) c.in_ok-header.header c.in_ok-names.names can c.in_ok-header.ensures.unchanged_but_faults c.in_ok-header.ensures.faults c.in_ok-places.ensures.unchanged_but_faults c.in_ok-places.ensures.faults c.in_ok-names.ensures.unchanged_but_faults c.in_ok-names.ensures.faults (subst (λ (k : Header). IsTrue (tables_sound (file (g.S.Storage.state c.places_of.new.image)) k.fields)) c.forget_feature_names.ensures c.in_ok-names.ensures.sound) (subst (λ (k : Header). Tells (file (g.S.Storage.state c.places_of.new.image)) k.fields c.in_ok-names.names) c.forget_feature_names.ensures c.in_ok-names.ensures.told) in
    rw (p.1, p.2) (shared-verdict (g.S.Storage.state c.args.image.now) c.in_ok-header.header can c.in_ok-names.names named.sound named.told (g.S.Storage.state c.names_of.new.image) named.faults c.in_err-check_shared.field-0.0 c.in_err-check_shared.ensures.err)

pub returns-clause-err : goal.returns-clause-err
returns-clause-err g c =
    let can : CanCheck (file (g.S.Storage.state c.args.image.now)) c.in_ok-header.header = record { loads = c.in_ok-header.ensures.loads; no_snapshots = c.in_ok-header.ensures.snapshots; data_inside = c.in_ok-header.ensures.inside } in
    let named : Named (g.S.Storage.state c.args.image.now) (g.S.Storage.state c.names_of.new.image) c.in_ok-header.header c.in_ok-names.names =
    named-since (g.S.Storage.state c.args.image.now) (g.S.Storage.state c.readable_header.new.image) (g.S.Storage.state c.places_of.new.image) (g.S.Storage.state c.names_of.new.image) c.in_ok-header.header c.in_ok-names.names can c.in_ok-header.ensures.unchanged_but_faults c.in_ok-header.ensures.faults c.in_ok-places.ensures.unchanged_but_faults c.in_ok-places.ensures.faults c.in_ok-names.ensures.unchanged_but_faults c.in_ok-names.ensures.faults (subst (λ (k : Header). IsTrue (tables_sound (file (g.S.Storage.state c.places_of.new.image)) k.fields)) c.forget_feature_names.ensures c.in_ok-names.ensures.sound) (subst (λ (k : Header). Tells (file (g.S.Storage.state c.places_of.new.image)) k.fields c.in_ok-names.names) c.forget_feature_names.ensures c.in_ok-names.ensures.told) in
    MatchResult-weaker c.compare.result c.compare.ensures.err (λ found is. is)
    (λ fault found. under-verdict (g.S.Storage.state c.args.image.now) c.in_ok-header.header can c.in_ok-names.names named.sound named.told c.in_ok-check_shared.ensures.shared c.in_ok-check_shared.ensures.copied (g.S.Storage.state c.names_of.new.image) (g.S.Storage.state c.compare.new.image) named.kept named.faults fault (subst (λ (k : Header). Found (g.S.Storage.state c.names_of.new.image) (g.S.Storage.state c.compare.new.image) (IsUnder (file (g.S.Storage.state c.names_of.new.image)) k.fields) fault) c.forget_feature_names.ensures found))

pub returns-clause-ok : goal.returns-clause-ok
returns-clause-ok g c =
    let can : CanCheck (file (g.S.Storage.state c.args.image.now)) c.in_ok-header.header = record { loads = c.in_ok-header.ensures.loads; no_snapshots = c.in_ok-header.ensures.snapshots; data_inside = c.in_ok-header.ensures.inside } in
    let named : Named (g.S.Storage.state c.args.image.now) (g.S.Storage.state c.names_of.new.image) c.in_ok-header.header c.in_ok-names.names =
    named-since (g.S.Storage.state c.args.image.now) (g.S.Storage.state c.readable_header.new.image) (g.S.Storage.state c.places_of.new.image) (g.S.Storage.state c.names_of.new.image) c.in_ok-header.header c.in_ok-names.names can c.in_ok-header.ensures.unchanged_but_faults c.in_ok-header.ensures.faults c.in_ok-places.ensures.unchanged_but_faults c.in_ok-places.ensures.faults c.in_ok-names.ensures.unchanged_but_faults c.in_ok-names.ensures.faults (subst (λ (k : Header). IsTrue (tables_sound (file (g.S.Storage.state c.places_of.new.image)) k.fields)) c.forget_feature_names.ensures c.in_ok-names.ensures.sound) (subst (λ (k : Header). Tells (file (g.S.Storage.state c.places_of.new.image)) k.fields c.in_ok-names.names) c.forget_feature_names.ensures c.in_ok-names.ensures.told) in
    let same : file (g.S.Storage.state c.names_of.new.image) ≡ file (g.S.Storage.state c.args.image.now) = kept-file (g.S.Storage.state c.args.image.now) (g.S.Storage.state c.names_of.new.image) named.kept in
    both c.compare.result (λ found is counted. sound-verdict (g.S.Storage.state c.args.image.now) c.in_ok-header.header can c.in_ok-names.names named.sound named.told c.in_ok-check_shared.ensures.shared c.in_ok-check_shared.ensures.copied (g.S.Storage.state c.names_of.new.image) named.kept (subst (λ (k : Header). Nowhere (is_under_counted (file (g.S.Storage.state c.names_of.new.image)) k.fields)) c.forget_feature_names.ensures counted)
    found.items (is ∙ ap (λ (k : Header). leaks (file (g.S.Storage.state c.names_of.new.image)) k.fields) c.forget_feature_names.ensures ∙ ap (λ f. leaks f c.in_ok-header.header.fields) same)) c.compare.ensures.ok c.compare.ensures.counted
  where
    both : {T E : Type 0} {P R : T → Type 0} {Q : Type 0} (r : Result T E) → ((x : T) → P x → Q → R x) → IfOk r P → OnOk r Q → IfOk r R
    both (Ok x) f p q = f x p q
    both (Err e) f p q = tt
