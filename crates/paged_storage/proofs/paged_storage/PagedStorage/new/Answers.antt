use Rattle.paged_storage.specs.PagedFiles.{file_shown}
use Rattle.paged_storage.proofs.Shown.{length-shown, shown_are_bytes}
use Rattle.paged_storage.proofs.Requesting.{none_size, none_bytes}
use Rattle.paged_storage.proofs.paged_storage.PagedStorage.new.Goals as goal

pub invariant_of-result : goal.invariant_of-result
invariant_of-result g c =
    let f = c.args.base.now in
    let held = (g.H.HostFile.state f.file).held in
    record {
      sized = none_size (file_shown g.H.HostFile f) c.new.result.items c.new.ensures.items f.size c.size.result c.size.ensures (length-shown f.size f.pages.entries held);
      bytes = none_bytes (file_shown g.H.HostFile f) c.new.result.items c.new.ensures.items (shown_are_bytes f.pages.entries held f.whole (g.H.HostFile.are_bytes f.file) f.size);
    }
