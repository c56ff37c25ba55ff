use Rattle.std.proofs.lemmas.Bool.Decides.{nat_tests}
use Rattle.std.proofs.Common.{◌<◌, ◌≤◌, arith, length}
use Rattle.qimg_chain.proofs.Refusing.{on_err}
use Rattle.qimg_chain.proofs.Sessions.Checked.{next-checked, none-checked, on-done, second-has}
use Rattle.qimg_chain.specs.TopChecks.{IsRejected}
use Rattle.qimg_chain.proofs.session.check_next.Goals as goal

pub returns-then-len-lt2-clause-accepted : goal.returns-then-len-lt2-clause-accepted
returns-then-len-lt2-clause-accepted g c two = absurd (grind (arith, nat_tests, c.if-len-lt2.true, c.len.ensures, two))

pub returns-then-len-lt2-clause-checked : goal.returns-then-len-lt2-clause-checked
returns-then-len-lt2-clause-checked g c =
    none-checked g.S.Storage.state c.args.files.now.items (grind (arith, nat_tests, c.if-len-lt2.true, c.len.ensures))

pub returns-clause-accepted : goal.returns-clause-accepted
returns-clause-accepted g c =
    let two : 1 < length c.args.files.now.items = grind (arith, nat_tests, c.if-len-lt2.false, c.len.ensures) in
    on-done c.check_file.result
    (λ has. λ some. second-has _ c.args.files.now.items c.index_mut.result.now two c.index_mut.ensures.value has)
    c.check_file.ensures.accepted

pub returns-clause-checked : goal.returns-clause-checked
returns-clause-checked g c =
    let two : 1 < length c.args.files.now.items = grind (arith, nat_tests, c.if-len-lt2.false, c.len.ensures) in
    on-done c.check_file.result (next-checked g.S.Storage.state c.args.files.now.items c.index_mut.result.now c.check_file.new.file two
    c.index_mut.ensures.value) c.check_file.ensures.checked

pub returns-clause-err : goal.returns-clause-err
returns-clause-err g c =
    let two : 1 < length c.args.files.now.items = grind (arith, nat_tests, c.if-len-lt2.false, c.len.ensures) in
    on_err (λ fault. second-has (IsRejected g.S.Storage.state fault) c.args.files.now.items c.index_mut.result.now two
    c.index_mut.ensures.value) c.check_file.result c.check_file.ensures.err
