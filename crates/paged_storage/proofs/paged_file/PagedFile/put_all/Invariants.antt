use Rattle.std.proofs.Common.{◌≡◌, [], take}
use Rattle.std.specs.Prelude.{IsTrue}
use Rattle.paged_storage.specs.Replaying.{IsReplayed}
use Rattle.paged_storage.proofs.paged_file.PagedFile.put_all.Given as goal

abbrev pub invariant-loop-request : goal.invariant-loop-request
invariant-loop-request g l = record {
  pages : l.self.pages.entries ≡ [];
  truthful : (g.H.HostFile.state l.self.file).truthful ≡ (g.H.HostFile.state l.fn.self.file).truthful;
  replayed : IsTrue (g.H.HostFile.state l.self.file).truthful
      → IsReplayed (take l.request-index l.requests) (g.H.HostFile.state l.fn.self.file) (g.H.HostFile.state l.self.file);
}
