use Rattle.qimg_chain.proofs.ScriptReading.{read_as, unread}
use Rattle.qimg_chain.proofs.script.line.parse_line.Goals as goal

pub returns-clause-ok : goal.returns-clause-ok
returns-clause-ok c = read_as c.args.text.now c.line_of.result c.if-text-gt-LONGEST_LINE.false c.line_of.ensures.ok

pub returns-clause-err : goal.returns-clause-err
returns-clause-err c = unread c.args.text.now c.line_of.result c.if-text-gt-LONGEST_LINE.false c.line_of.ensures.err
