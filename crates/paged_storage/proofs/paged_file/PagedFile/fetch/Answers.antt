use Rattle.std.proofs.Common.{rules}
use Rattle.paged_storage.specs.Pages.{IsOf}
use Rattle.paged_storage.proofs.Agreed.{shown_same}
use Rattle.paged_storage.proofs.paged_file.PagedFile.fetch.Goals as goal

pub returns-in_err-admit-clause-same : goal.returns-in_err-admit-clause-same
returns-in_err-admit-clause-same g c = λ truthful.
    let agrees = c.args.self.now.agrees (c.read_page.ensures.only_read.truthful truthful) in
    let good : IsOf (g.H.HostFile.state c.args.self.now.file).held c.args.number c.in-Some.page = search rules in
    shown_same c.args.self.now.size c.args.self.now.pages.entries c.admit.new.pages.entries _ _ c.read_page.ensures.only_read.held agrees
    (c.admit.ensures.held (g.H.HostFile.state c.args.self.now.file).held agrees.pages_are good)

pub returns-clause-same : goal.returns-clause-same
returns-clause-same g c = λ truthful.
    let agrees = c.args.self.now.agrees (c.read_page.ensures.only_read.truthful truthful) in
    let good : IsOf (g.H.HostFile.state c.args.self.now.file).held c.args.number c.in-Some.page = search rules in
    shown_same c.args.self.now.size c.args.self.now.pages.entries c.admit.new.pages.entries _ _ c.read_page.ensures.only_read.held agrees
    (c.admit.ensures.held (g.H.HostFile.state c.args.self.now.file).held agrees.pages_are good)
