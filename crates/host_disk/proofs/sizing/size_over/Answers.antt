use Rattle.std.proofs.Common.{◌≡◌, ◌∙◌, List, ap}
use Rattle.qimg_chain.specs.FileMeanings.{FileBytes, size_of}
use Rattle.host_disk.proofs.OnFiles.{all-bytes-shown}
use Rattle.host_disk.proofs.sizing.size_over.Goals as goal

pub returns : goal.returns
returns g c =
    c.size.ensures ∙ c.in_ok-chain.ensures.means.size
    ∙ ap (λ (files : List FileBytes). size_of files) (all-bytes-shown g.H.HostFile c.args.layers.now c.in_ok-files.files.items c.in_ok-files.ensures.ok)
