use Rattle.qimg_chain.proofs.ScriptReading.{last_read, more_words}
use Rattle.qimg_chain.proofs.script.line.line_with.Goals as goal

pub returns-in-Some-cut-clause-err : goal.returns-in-Some-cut-clause-err
returns-in-Some-cut-clause-err c =
    let rest = c.in-Some-cut.field-0 in
    rw (c.in-Some.ensures.parts, c.in-Some-cut.ensures.parts) (more_words c.args.name.now c.in-Some.first.now rest.0.now rest.1.now)

pub returns-in-Ok-clause-ok : goal.returns-in-Ok-clause-ok
returns-in-Ok-clause-ok c =
    let second = c.in-Some.second.now in
    let one = last_read c.args.name.now c.in-Some.first.now second c.in-Ok.line c.in-Ok.ensures.ok in
    rw (c.in-Some.ensures.parts, one) c.in-Ok.ensures.ok
