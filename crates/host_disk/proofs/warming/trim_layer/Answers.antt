use Rattle.host_disk.proofs.Layering.{read-refl}
use Rattle.std.proofs.Common.{subst, sym}
use Rattle.host_file.specs.FileState.{FileState, IsOnlyRead}
use Rattle.host_disk.specs.Layers.{state_of}
use Rattle.host_disk.proofs.warming.trim_layer.Goals as goal

pub returns-clause-only_read : goal.returns-clause-only_read
returns-clause-only_read g c =
    let old = state_of g.H.HostFile c.args.layer.now in
    subst (λ (state : FileState). IsOnlyRead old state) (sym c.trim.ensures.host) (read-refl old)
