use Rattle.std.proofs.Common.{rules, ◌<◌, length}
use Rattle.qimg_chain.proofs.Refusing.{on_err}
use Rattle.qimg_chain.proofs.Sessions.Checked.{all-top-has, on-done, top-checked, top-has}
use Rattle.qimg_chain.specs.TopChecks.{IsRejected}
use Rattle.qimg_chain.proofs.session.check_top.Goals as goal

pub returns-clause-accepted : goal.returns-clause-accepted
returns-clause-accepted g c =
    on-done c.check_file.result (all-top-has _ c.args.files.now.items c.index_mut.result.now c.index_mut.ensures.value)
    c.check_file.ensures.accepted

pub returns-clause-checked : goal.returns-clause-checked
returns-clause-checked g c =
    let some : 0 < length c.args.files.now.items = search rules in
    on-done c.check_file.result (top-checked g.S.Storage.state c.args.files.now.items c.index_mut.result.now c.check_file.new.file some
    c.index_mut.ensures.value) c.check_file.ensures.checked

pub returns-clause-err : goal.returns-clause-err
returns-clause-err g c =
    let some : 0 < length c.args.files.now.items = search rules in
    on_err (λ fault. top-has (IsRejected g.S.Storage.state fault) c.args.files.now.items c.index_mut.result.now some
    c.index_mut.ensures.value) c.check_file.result c.check_file.ensures.err
