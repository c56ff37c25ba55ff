use Rattle.std.proofs.Common.{rules, ◌∙◌}
use Rattle.paged_storage.specs.Pages.{IsAgreed}
use Rattle.paged_storage.proofs.Agreed.{shown_agreed}
use Rattle.paged_storage.proofs.paged_file.PagedFile.new.Goals as goal

pub returns-clause-shown : goal.returns-clause-shown
returns-clause-shown g c = λ truthful.
    let agrees : IsAgreed c.in_ok-size.size c.in_ok-pages.pages.entries (g.H.HostFile.state c.size.new.self).held = search rules in
    shown_agreed _ _ _ agrees ∙ c.size.ensures.only_read.held
