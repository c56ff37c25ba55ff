use Rattle.qcow2_image.proofs.SameLeaks.{files-alike}
use Rattle.qcow2_image.proofs.laws.consistent_files_leak_alike.Goals as goal

pub returns : goal.returns
returns c = files-alike
