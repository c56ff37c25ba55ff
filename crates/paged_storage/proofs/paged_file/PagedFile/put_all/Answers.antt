use Rattle.std.proofs.Common.{◌∙◌, subst}
use Rattle.std.specs.Prelude.{IsTrue}
use Rattle.paged_storage.proofs.Following.{replayed_more}
use Rattle.paged_storage.proofs.paged_file.PagedFile.put_all.Goals as goal

pub loop-request-preserved : goal.loop-request-preserved
loop-request-preserved g c =
    let state = g.H.HostFile.state in
    let was = c.loop-request.invariant in
    record {
      pages = was.pages;
      truthful = c.put.ensures.truthful ∙ was.truthful;
      replayed = λ truthful.
          replayed_more (state c.args.self.now.file) (state c.loop-request.self.file) (state c.put.new.file) c.args.requests.now c.loop-request.request-index c.request-item.result
          c.loop-request-test.true c.request-item.is (was.replayed (subst IsTrue c.put.ensures.truthful truthful)) (c.in_ok-self.ensures.ok truthful).0;
    }
