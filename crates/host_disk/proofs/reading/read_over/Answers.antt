use Rattle.std.proofs.Common.{◌≡◌, List, subst}
use Rattle.imago_storage.specs.Disk.{Shows}
use Rattle.qimg_chain.specs.FileMeanings.{FileBytes, value_of}
use Rattle.host_disk.proofs.OnFiles.{all-bytes-shown}
use Rattle.host_disk.proofs.reading.read_over.Goals as goal

pub returns : goal.returns
returns g c =
    subst (λ (files : List FileBytes). Shows (value_of files) c.args.offset c.plain_read.new.buf)
    (all-bytes-shown g.H.HostFile c.args.layers.now c.in_ok-files.files.items c.in_ok-files.ensures.ok) c.in_ok-plain_read.ensures.ok.shows
