use Rattle.std.proofs.Common.{false, rules, ◌≡◌, ◌≢◌, Ok, refl, sym, subst, ◌∙◌}
use Rattle.std.specs.Prelude.{IfErr, IfOk, OnOk}
use Rattle.imago_storage.specs.Calls.{UnchangedButFaults}
use Rattle.imago_storage.specs.State.{StorageState}
use Rattle.qcow2_types.specs.Header.{Header, header_of}
use Rattle.qcow2_metadata.specs.Loading.{file}
use Rattle.qcow2_metadata.specs.Updates.{with_places_of}
use Rattle.qcow2_image.specs.Opening.{IsSpaceOpened, WhyNoSpace}
use Rattle.qcow2_image.specs.Steps.{IsFirstFault}
use Rattle.qcow2_image.proofs.Anew.{counts-fine, counts-later, first-counts, never-differs, on-ok, seen-anew, updating-why}
use Rattle.qcow2_image.proofs.OpenRefusals.{none-refused}
use Rattle.qcow2_alloc.proofs.Faults.{handed-on}
use Rattle.qcow2_image.proofs.reloading.reload.Goals as goal

pub reload_free_space-header-requires : goal.reload_free_space-header-requires
reload_free_space-header-requires g c =
    let loaded = c.in_ok-header.ensures in record {
      loads = subst (λ (s : StorageState). header_of false (file s) ≡ Ok c.in_ok-header.header) (sym loaded.same) loaded.loads;
    }

pub returns-in_err-header : goal.returns-in_err-header
returns-in_err-header g c = rw (handed-on _ _ c.from_residual.ensures.1) (
    let old = g.S.Storage.state c.args.tables.now.file.image in record {
      unchanged_but_faults = c.reload_tables.ensures.unchanged_but_faults;
      counts_not_fallen = c.reload_tables.ensures.counts_not_fallen;
      faults = search rules;
      places = search rules;
      anew = search rules;
      empty = search rules;
      room = search rules;
      space = search rules;
      same = search rules;
      left = search rules;
      cause = c.in_err-header.ensures.err c.args.writable;
      known = λ seen sound. c.in_err-header.ensures.known seen.loads
          (none-refused false (file old) c.args.tables.now.file.header seen.loads seen.inside seen.l1.sound (λ w. absurd (cc w)));
    })

pub returns-in-Err : goal.returns-in-Err
returns-in-Err g c =
    let t = c.args.tables.now in
    let old = g.S.Storage.state t.file.image in
    let mid = g.S.Storage.state c.reload_tables.new.image in
    let new = g.S.Storage.state c.reload_free_space-header.new.file.image in
    let loaded = c.in_ok-header.ensures in
    let spaced = c.reload_free_space-header.ensures in
    let H = c.in_ok-header.header in
    let fault = c.in-Err.fault in
    let first = c.first_fault.result in
    let why = subst (λ (s : StorageState). WhyNoSpace (file s) H.fields c.args.writable s.faults new.faults fault) loaded.same
    (subst (λ r. IfErr r (WhyNoSpace (file mid) H.fields c.args.writable mid.faults new.faults)) c.in-Err.is spaced.err) in
    let kept = subst (λ (s : StorageState). UnchangedButFaults s new) loaded.same spaced.unchanged_but_faults in
    let opens = none-refused false (file old) H loaded.loads loaded.inside loaded.l1.sound (λ w. absurd (cc w)) in
    let is = subst (λ (K : Header). IsFirstFault K t.file.header fault first) spaced.back
    (subst (λ (K : Header). IsFirstFault c.reload_free_space-header.result.0 K fault first) spaced.header c.first_fault.ensures) in record {
      unchanged_but_faults = kept;
      counts_not_fallen = counts-later (file old) H c.args.writable old new fault kept why;
      faults = tt;
      places = search rules;
      anew = tt;
      empty = tt;
      room = search rules;
      space = tt;
      same = λ seen. tt;
      left = (spaced.header, refl, refl, refl);
      cause = first-counts c.args.writable (file old) t.file.header H loaded.loads opens old.faults new.faults fault first is why;
      known = λ seen sound. counts-fine (file old) t.file.header H c.args.writable old.faults new.faults fault first seen.loads loaded.loads sound
          is why;
    }

pub returns-in_err-update : goal.returns-in_err-update
returns-in_err-update g c = rw (handed-on _ _ c.from_residual-in_err-update.ensures.1) (
    let t = c.args.tables.now in
    let old = g.S.Storage.state t.file.image in
    let new = g.S.Storage.state c.reload_free_space-header.new.file.image in
    let mid = g.S.Storage.state c.reload_tables.new.image in
    let loaded = c.in_ok-header.ensures in
    let spaced = c.reload_free_space-header.ensures in
    let refused = c.in_err-update.ensures in
    let H = c.in_ok-header.header in
    let same : new ≡ old = subst (λ r. OnOk r (new ≡ mid)) c.in-Ok.is spaced.same ∙ loaded.same in
    let differs : with_places_of H t.file.header ≢ H = λ is.
    let is' = subst (λ (K : Header). with_places_of H K ≡ H) (sym spaced.header) is in
    absurd (let ok = refused.allowed.1 (subst (λ (K : Header). with_places_of K c.reload_free_space-header.new.file.header ≡ K) (sym spaced.back) is') in cc ok) in record {
      unchanged_but_faults = search rules;
      counts_not_fallen = search rules;
      faults = tt;
      places = search rules;
      anew = tt;
      empty = tt;
      room = search rules;
      space = tt;
      same = λ seen. tt;
      left = (refused.err ∙ spaced.header, refl, refl, refl);
      cause = updating-why c.args.writable (file old) t.file.header H old.faults new.faults c.in_err-update.field-0.0 loaded.loads differs
          refused.fault;
      known = λ seen sound. absurd (never-differs (file old) t.file.header H seen.loads loaded.loads differs);
    })

pub returns : goal.returns
returns g c =
    let t = c.args.tables.now in
    let old = g.S.Storage.state t.file.image in
    let new = g.S.Storage.state c.reload_free_space-header.new.file.image in
    let mid = g.S.Storage.state c.reload_tables.new.image in
    let loaded = c.in_ok-header.ensures in
    let spaced = c.reload_free_space-header.ensures in
    let H = c.in_ok-header.header in
    let K = c.update.new.self in
    let same : new ≡ old = subst (λ r. OnOk r (new ≡ mid)) c.in-Ok.is spaced.same ∙ loaded.same in
    let header : K ≡ H = c.in_ok-update.ensures.ok ∙ spaced.back in
    let space : IsSpaceOpened mid H.fields c.args.writable c.in-Ok.space =
    subst (λ r. IfOk r (IsSpaceOpened mid H.fields c.args.writable)) c.in-Ok.is spaced.ok in record {
      unchanged_but_faults = search rules;
      counts_not_fallen = search rules;
      faults = search rules;
      places = search rules;
      anew = on-ok c.drop_cached.result _ (seen-anew g.S.Storage _ old H same header c.drop_cached.ensures.empty loaded.loads loaded.inside loaded.l1);
      empty = search rules;
      room = search rules;
      space = on-ok c.drop_cached.result _ (subst (λ (x : Header). IsSpaceOpened new x.fields c.args.writable c.in-Ok.space) (sym header)
          (subst (λ (s : StorageState). IsSpaceOpened s H.fields c.args.writable c.in-Ok.space)
          (sym (subst (λ r. OnOk r (new ≡ mid)) c.in-Ok.is spaced.same)) space));
      same = search rules;
      left = search rules;
      cause = search rules;
      known = search rules;
    }
