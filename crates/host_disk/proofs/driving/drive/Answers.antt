use Rattle.std.proofs.Common.{List, subst}
use Rattle.imago_storage.specs.declared.log.Request.{Request}
use Rattle.host_disk.specs.Lists.{PutInPart, PutOn}
use Rattle.host_disk.proofs.Layering.{truthful-before}
use Rattle.host_disk.proofs.ListsDriven.{at_an_error, driven, stopped_putting, stopped_reading}
use Rattle.host_disk.proofs.driving.drive.Goals as goal

pub returns-in_err-answers-clause-err : goal.returns-in_err-answers-clause-err
returns-in_err-answers-clause-err g c =
    at_an_error c.from_residual.result _
    (λ truthful. stopped_reading g.H.HostFile c.args.calls.now c.args.layers.now.items c.settle.new.layers.items c.settle.ensures.only_read)

pub returns-in_err-answers-clause-truthful : goal.returns-in_err-answers-clause-truthful
returns-in_err-answers-clause-truthful g c =
    truthful-before g.H.HostFile c.args.layers.now.items c.settle.new.layers.items c.settle.ensures.only_read

pub returns-in_err-put-clause-err : goal.returns-in_err-put-clause-err
returns-in_err-put-clause-err g c =
    let host = g.H.HostFile in
    let mids = c.settle.new.layers.items in
    let news = c.put.new.layers.items in
    at_an_error c.from_residual-in_err-put.result _
    (λ truthful. stopped_putting host c.args.calls.now c.in_ok-answers.answers.items c.in_ok-answers.requests.items c.args.layers.now.items mids news
    c.settle.ensures.only_read (c.in_ok-answers.ensures.ok (c.put.ensures.truthful truthful))
    (subst (λ (requests : List Request). PutInPart host requests mids news) c.deref.ensures.value (c.in_err-put.ensures.err truthful)))

pub returns-in_err-put-clause-truthful : goal.returns-in_err-put-clause-truthful
returns-in_err-put-clause-truthful g c =
    λ truthful. truthful-before g.H.HostFile c.args.layers.now.items c.settle.new.layers.items c.settle.ensures.only_read
    (c.put.ensures.truthful truthful)

pub returns-clause-ok : goal.returns-clause-ok
returns-clause-ok g c =
    let host = g.H.HostFile in
    let mids = c.settle.new.layers.items in
    let news = c.put.new.layers.items in
    λ truthful. driven host c.args.calls.now c.in_ok-answers.answers.items c.in_ok-answers.requests.items c.args.layers.now.items mids news
    c.settle.ensures.only_read (c.in_ok-answers.ensures.ok (c.put.ensures.truthful truthful))
    (subst (λ (requests : List Request). PutOn host requests mids news) c.deref.ensures.value (c.in_ok-put.ensures.ok truthful))

pub returns-clause-truthful : goal.returns-clause-truthful
returns-clause-truthful g c =
    λ truthful. truthful-before g.H.HostFile c.args.layers.now.items c.settle.new.layers.items c.settle.ensures.only_read
    (c.put.ensures.truthful truthful)
