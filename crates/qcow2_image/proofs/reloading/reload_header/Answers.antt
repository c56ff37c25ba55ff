use Rattle.std.proofs.Common.{◌≡◌, subst, Ok}
use Rattle.std.specs.Prelude.{false, IfOk, IfErr, OnOk}
use Rattle.imago_storage.specs.Calls.{UnchangedButFaults}
use Rattle.qcow2_types.specs.Header.{header_of}
use Rattle.qcow2_metadata.specs.Loading.{file, NotLoaded}
use Rattle.qcow2_image.specs.Opening.{header_for}
use Rattle.qcow2_image.proofs.Anew.{same-state, refused-why}
use Rattle.qcow2_alloc.proofs.Faults.{handed-on}
use Rattle.qcow2_image.proofs.reloading.reload_header.Goals as goal

pub returns-clause-loads : goal.returns-clause-loads
returns-clause-loads g c =
    let old = g.S.Storage.state c.args.image.now in
    let same = same-state old _ c.invalidate_cache.ensures.unchanged_but_faults c.in_ok-invalidate_cache.ensures.faults in
    subst (λ s. IfOk c.load_header.result (λ header. header_of false (file s) ≡ Ok header)) same c.load_header.ensures.loads

pub returns-clause-err : goal.returns-clause-err
returns-clause-err g c =
    let old = g.S.Storage.state c.args.image.now in
    let same = same-state old _ c.invalidate_cache.ensures.unchanged_but_faults c.in_ok-invalidate_cache.ensures.faults in
    subst (λ s. IfErr c.load_header.result (NotLoaded (header_for false (file s)) s (g.S.Storage.state c.load_header.new.image))) same c.load_header.ensures.err

pub returns-clause-same : goal.returns-clause-same
returns-clause-same g c =
    let old = g.S.Storage.state c.args.image.now in
    let same = same-state old _ c.invalidate_cache.ensures.unchanged_but_faults c.in_ok-invalidate_cache.ensures.faults in
    subst (λ s. OnOk c.load_header.result (g.S.Storage.state c.load_header.new.image ≡ s)) same c.load_header.ensures.same

pub returns-clause-unchanged_but_faults : goal.returns-clause-unchanged_but_faults
returns-clause-unchanged_but_faults g c =
    let old = g.S.Storage.state c.args.image.now in
    let same = same-state old _ c.invalidate_cache.ensures.unchanged_but_faults c.in_ok-invalidate_cache.ensures.faults in
    subst (λ s. UnchangedButFaults s (g.S.Storage.state c.load_header.new.image)) same c.load_header.ensures.unchanged_but_faults

pub returns-in_err-invalidate_cache-clause-err : goal.returns-in_err-invalidate_cache-clause-err
returns-in_err-invalidate_cache-clause-err g c = rw (handed-on _ _ c.from_residual.ensures.1) (
    let old = g.S.Storage.state c.args.image.now in
    refused-why (header_for false (file old)) old (g.S.Storage.state c.invalidate_cache.new.self) c.in_err-invalidate_cache.field-0.0
    c.in_err-invalidate_cache.ensures.faults)
