use Rattle.imago_formats.proofs.StorageLemmas.{found_file}
use Rattle.imago_formats.proofs.vmdk.driver.VmdkFormatDriverInstance.extra_file.Goals as goal

pub returns : goal.returns
returns g c = found_file g.S.Storage.state c.args.self.now.files.items c.args.index c.get.result (rw c.deref.ensures.value at c.get.ensures.lookup)
