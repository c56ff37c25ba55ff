use Rattle.std.proofs.Common.{refl, subst, sym}
use Rattle.host_file.specs.FileState.{FileState, IsOnlyRead}
use Rattle.host_disk.specs.Layers.{state_of}
use Rattle.host_disk.proofs.Layering.{only_read-refl, read-refl}
use Rattle.host_disk.proofs.Putting.{only_read-first}
use Rattle.host_disk.proofs.driving.save.Goals as goal

pub returns-then-is_empty : goal.returns-then-is_empty
returns-then-is_empty g c = only_read-refl g.H.HostFile c.args.layers.now.items

pub returns : goal.returns
returns g c =
    only_read-first g.H.HostFile c.args.layers.now.items c.index_mut.result.now
    record { format = c.index_mut.result.now.format; file = c.sync.new.self } c.index_mut.ensures.value refl
    (subst (λ (state : FileState). IsOnlyRead (state_of g.H.HostFile c.index_mut.result.now) state) (sym c.sync.ensures.host)
    (read-refl (state_of g.H.HostFile c.index_mut.result.now)))
