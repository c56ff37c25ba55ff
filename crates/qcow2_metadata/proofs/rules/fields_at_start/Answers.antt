use Rattle.std.proofs.Common.{arith, sym, ◌∙◌}
use Rattle.std.proofs.lemmas.Bool.Decides.{nat_tests}
use Rattle.std.proofs.lemmas.List.{length-take-le}
use Rattle.qcow2_metadata.proofs.PartLemmas.{be-take, rest-taken, v2-at-start, newer-fields, older-fields}
use Rattle.qcow2_metadata.proofs.rules.fields_at_start.Goals as goal

pub slice_bounds-v2_part-end : goal.slice_bounds-v2_part-end
slice_bounds-v2_part-end c = sym (length-take-le 72 c.args.start.now (omega arith))

pub returns-then-v2-eq3-clause-fields : goal.returns-then-v2-eq3-clause-fields
returns-then-v2-eq3-clause-fields c = newer-fields c.args.start.now c.v2_part-v2.result c.v3_part-v3.result (v2-at-start c.args.start.now c.v2_part-v2.result c.v2_part-v2.ensures) (rw rest-taken at c.v3_part-v3.ensures) c.if-v2-eq3.true

pub returns-then-v2-eq3-clause-magic : goal.returns-then-v2-eq3-clause-magic
returns-then-v2-eq3-clause-magic c = c.v2_part-v2.ensures.magic ∙ be-take c.args.start.now 72 0 4 (omega arith)

pub returns-else-v2-eq3-clause-fields : goal.returns-else-v2-eq3-clause-fields
returns-else-v2-eq3-clause-fields c = older-fields c.args.start.now c.v2_part-v2.result (v2-at-start c.args.start.now c.v2_part-v2.result c.v2_part-v2.ensures) (grind (arith, nat_tests))

pub returns-else-v2-eq3-clause-magic : goal.returns-else-v2-eq3-clause-magic
returns-else-v2-eq3-clause-magic c = c.v2_part-v2.ensures.magic ∙ be-take c.args.start.now 72 0 4 (omega arith)
