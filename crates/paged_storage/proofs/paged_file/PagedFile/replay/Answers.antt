use Rattle.std.proofs.Common.{ℕ, List, subst, sym}
use Rattle.std.specs.Prelude.{IsTrue, Vec}
use Rattle.std.specs.Global.{Global}
use Rattle.lru.specs.LruCache.{LruCache}
use Rattle.paged_storage.specs.Pages.{AreOf, AreWhole}
use Rattle.paged_storage.proofs.Agreed.{shown_agreed}
use Rattle.paged_storage.proofs.paged_file.PagedFile.replay.Goals as goal

pub returns-in_err-unbounded-clause-shown : goal.returns-in_err-unbounded-clause-shown
returns-in_err-unbounded-clause-shown g c = λ truthful.
    let f = c.args.self.now in
    shown_agreed f.size f.pages.entries (g.H.HostFile.state f.file).held (f.agrees truthful)

pub returns-in_err-put_all-clause-shown : goal.returns-in_err-put_all-clause-shown
returns-in_err-put_all-clause-shown g c = λ truthful.
    let f = c.put_all.new.self in
    shown_agreed f.size f.pages.entries (g.H.HostFile.state f.file).held (f.agrees truthful)

pub renew-requires-clause-whole : goal.renew-requires-clause-whole
renew-requires-clause-whole g c =
    subst (λ (pages : LruCache ℕ (Vec ℕ Global)). AreWhole pages.entries) (sym c.replace-pages.ensures.value) c.args.self.now.whole

pub returns-clause-shown : goal.returns-clause-shown
returns-clause-shown g c = λ truthful.
    let state = g.H.HostFile.state in
    let old = c.args.self.now in
    let f = c.put_all.new.self in
    let was = old.agrees (subst IsTrue c.put_all.ensures.truthful truthful) in
    let pages = subst (λ (pages : LruCache ℕ (Vec ℕ Global)). AreOf (state old.file).held pages.entries) (sym c.replace-pages.ensures.value) was.pages_are in
    let are = subst (λ (l : List ℕ). AreOf l c.renew.new.kept.entries) (sym (c.in_ok-put_all.ensures.ok truthful).held) (c.renew.ensures.held (state old.file).held pages) in
    shown_agreed f.size c.renew.new.kept.entries (state f.file).held record { size_is = (f.agrees truthful).size_is; pages_are = are }
