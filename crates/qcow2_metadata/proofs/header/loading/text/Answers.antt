use Rattle.qcow2_metadata.proofs.Texts.{text-read, text-refused}
use Rattle.qcow2_metadata.proofs.header.loading.text.Goals as goal

pub returns-in_default-from_utf8-clause-err : goal.returns-in_default-from_utf8-clause-err
returns-in_default-from_utf8-clause-err c = rw c.in-Some.is (text-refused c.in-Some.bytes.now c.in_default-from_utf8.ensures.cases.0)

pub returns-clause-ok : goal.returns-clause-ok
returns-clause-ok c = rw (c.in-Some.is, c.in_ok-from_str.ensures.ok, c.in-Ok.ensures.cases.0) (text-read c.in-Some.bytes.now c.in-Ok.ensures.cases.1)
