use Rattle.paged_storage.proofs.Agreed.{agreed_put, whole_admitted, whole_put}
use Rattle.paged_storage.proofs.paged_file.admit.Goals as goal

pub returns-in-Ok-clause-whole : goal.returns-in-Ok-clause-whole
returns-in-Ok-clause-whole c = rw c.in-Ok.ensures.entries (whole_put c.args.pages.now c.args.number c.args.page c.requires.whole c.requires.page)

pub returns-in-Ok-clause-held : goal.returns-in-Ok-clause-held
returns-in-Ok-clause-held c = λ held of good. rw c.in-Ok.ensures.entries (agreed_put c.args.pages.now c.args.number c.args.page held of good)

pub returns-clause-whole : goal.returns-clause-whole
returns-clause-whole c =
    whole_admitted c.args.pages.now c.args.number c.args.page c.put.result c.put.new.self c.put.ensures.entries c.put.ensures.err c.requires.whole c.requires.page
