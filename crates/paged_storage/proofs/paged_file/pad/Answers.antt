use Rattle.std.proofs.Common.{rules}
use Rattle.std.specs.Vec.{vec_len}
use Rattle.paged_storage.proofs.Agreed.{padded}
use Rattle.paged_storage.proofs.paged_file.pad.Goals as goal

pub returns-clause-same : goal.returns-clause-same
returns-clause-same c =
    padded c.args.page.now.items c.resize.new.self.items 65536 (vec_len c.args.page.now) (search rules) c.in_ok-resize.ensures.items c.requires
