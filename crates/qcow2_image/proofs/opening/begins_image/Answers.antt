use Rattle.std.proofs.Common.{arith}
use Rattle.std.proofs.lemmas.Bool.Decides.{nat_tests}
use Rattle.qcow2_image.proofs.Probes.{fields-begin}
use Rattle.qcow2_image.proofs.opening.begins_image.Goals as goal

pub returns-then-header-eq2 : goal.returns-then-header-eq2
returns-then-header-eq2 c =
    let says = fields-begin c.args.start.now c.from_bytes-header.result c.from_bytes-header.ensures (omega arith) (omega arith) in
    rw says (grind (arith, nat_tests))

pub returns-else-header-eq2 : goal.returns-else-header-eq2
returns-else-header-eq2 c =
    let says = fields-begin c.args.start.now c.from_bytes-header.result c.from_bytes-header.ensures (omega arith) (omega arith) in
    rw says (grind (arith, nat_tests))

pub returns-else-header-eq-MAGIC : goal.returns-else-header-eq-MAGIC
returns-else-header-eq-MAGIC c =
    let says = fields-begin c.args.start.now c.from_bytes-header.result c.from_bytes-header.ensures (omega arith) (omega arith) in
    rw says (grind (arith, nat_tests))
