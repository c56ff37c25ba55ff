use Rattle.std.proofs.Common.{rules}
use Rattle.paged_storage.proofs.Agreed.{shown_same}
use Rattle.paged_storage.proofs.paged_file.PagedFile.trim.Goals as goal

pub invariant_of-self-clause-whole : goal.invariant_of-self-clause-whole
invariant_of-self-clause-whole g c = λ n page there. c.args.self.now.whole n page (c.shrink.ensures n page (c.shrink-2.ensures n page there))

pub invariant_of-self-clause-agrees : goal.invariant_of-self-clause-agrees
invariant_of-self-clause-agrees g c = λ truthful.
    let agrees = c.args.self.now.agrees truthful in
    record {
      size_is = agrees.size_is;
      pages_are = λ n page there. agrees.pages_are n page (c.shrink.ensures n page (c.shrink-2.ensures n page there));
    }

pub returns-clause-same : goal.returns-clause-same
returns-clause-same g c = λ truthful.
    let agrees = c.args.self.now.agrees truthful in
    shown_same c.args.self.now.size c.args.self.now.pages.entries c.shrink-2.new.pages.entries _ _ (search rules) agrees
    (λ n page there. agrees.pages_are n page (c.shrink.ensures n page (c.shrink-2.ensures n page there)))
