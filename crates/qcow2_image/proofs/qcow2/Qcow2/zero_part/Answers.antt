use Rattle.std.proofs.Common.{ℕ, ◌+◌, ◌*◌, ◌/◌, ◌%◌, ◌^◌, ◌≤◌, ◌∙◌, arith, sym, subst, Ok}
use Rattle.qcow2_types.specs.Header.{entries_of_cluster}
use Rattle.qcow2_alloc.proofs.Faults.{handed-on}
use Rattle.qcow2_image.specs.FreeSpace.{LacksFreeRun, enough_for_run}
use Rattle.qcow2_image.specs.Growing.{IsPossibleFor}
use Rattle.qcow2_image.proofs.CallStarts.{begins-then}
use Rattle.qcow2_image.proofs.Resizes.NewClusters.{part-full, part-tableless, part-then}
use Rattle.qcow2_image.proofs.qcow2.Qcow2.zero_part.Goals as goal

pub returns-in_err-table-clause-zeroes : goal.returns-in_err-table-clause-zeroes
returns-in_err-table-clause-zeroes g c = rw (handed-on _ _ c.from_residual.ensures.1)
    (part-tableless g.S.Storage c.args.guest c.args.count c.args.self.now c.ensure_table.new.self c.in_err-table.field-0.0
    c.args.begun.now c.ensure_table.new.begun c.in_err-table.ensures.table c.in_err-table.ensures.begins)

pub returns-in_err-table-clause-begins : goal.returns-in_err-table-clause-begins
returns-in_err-table-clause-begins g c = rw (handed-on _ _ c.from_residual.ensures.1) c.in_err-table.ensures.begins

pub zero_entries-requires-clause-version : goal.zero_entries-requires-clause-version
zero_entries-requires-clause-version g c = c.in_ok-table.ensures.table.keeps.version
    ∙ subst (λ how. IsPossibleFor how c.args.self.now.tables.file.header.fields.version) c.in-Zero.is c.requires.possible

pub zero_entries-requires-clause-row : goal.zero_entries-requires-clause-row
zero_entries-requires-clause-row g c =
    subst (λ (b : ℕ). c.args.guest % (2 ^ b / 8) + c.args.count ≤ 2 ^ b / 8) (sym c.in_ok-table.ensures.table.keeps.bits) c.requires.row

pub zero_entries-requires-clause-past : goal.zero_entries-requires-clause-past
zero_entries-requires-clause-past g c =
    let k = c.in_ok-table.ensures.table.keeps in
    subst (λ (b : ℕ). c.ensure_table.new.self.tables.file.header.fields.size ≤ c.args.guest * 2 ^ b) (sym k.bits)
    (subst (λ (n : ℕ). n ≤ c.args.guest * 2 ^ c.args.self.now.tables.file.header.fields.cluster_bits) (sym k.size) c.requires.past)

pub zero_entries-requires-clause-free : goal.zero_entries-requires-clause-free
zero_entries-requires-clause-free g c = c.in_ok-table.ensures.table.keeps.unspent ∙ c.requires.free

pub map_zeroes-requires-clause-row : goal.map_zeroes-requires-clause-row
map_zeroes-requires-clause-row g c =
    subst (λ (b : ℕ). c.args.guest % (2 ^ b / 8) + c.args.count ≤ 2 ^ b / 8) (sym c.in_ok-table.ensures.table.keeps.bits) c.requires.row

pub map_zeroes-requires-clause-past : goal.map_zeroes-requires-clause-past
map_zeroes-requires-clause-past g c =
    let k = c.in_ok-table.ensures.table.keeps in
    subst (λ (b : ℕ). c.ensure_table.new.self.tables.file.header.fields.size ≤ c.args.guest * 2 ^ b) (sym k.bits)
    (subst (λ (n : ℕ). n ≤ c.args.guest * 2 ^ c.args.self.now.tables.file.header.fields.cluster_bits) (sym k.size) c.requires.past)

pub map_zeroes-requires-clause-free : goal.map_zeroes-requires-clause-free
map_zeroes-requires-clause-free g c = c.in_ok-table.ensures.table.keeps.unspent ∙ c.requires.free

pub returns-in-Zero-clause-zeroes : goal.returns-in-Zero-clause-zeroes
returns-in-Zero-clause-zeroes g c =
    part-then g.S.Storage c.args.guest c.args.count c.args.self.now c.ensure_table.new.self c.in_ok-table.table c.in_ok-table.ensures.table
    c.args.begun.now c.ensure_table.new.begun c.in_ok-table.ensures.begins (λ number. ⊥) c.zero_entries.new.self c.zero_entries.result
    (λ number known none. absurd none) c.zero_entries.ensures.zeroes

pub returns-in-Zero-clause-begins : goal.returns-in-Zero-clause-begins
returns-in-Zero-clause-begins g c =
    begins-then g.S.Storage {T = ℕ} {U = ℕ} c.args.begun.now c.ensure_table.new.begun c.zero_entries.new.begun c.args.self.now
    c.ensure_table.new.self c.zero_entries.new.self (Ok c.in_ok-table.table) c.zero_entries.result tt c.in_ok-table.ensures.begins
    c.zero_entries.ensures.begins

pub returns-in-Data-clause-zeroes : goal.returns-in-Data-clause-zeroes
returns-in-Data-clause-zeroes g c =
    let mid = c.ensure_table.new.self in
    let few : c.args.count ≤ entries_of_cluster c.args.self.now.tables.file.header.fields = omega (arith, c.requires.row) in
    part-then g.S.Storage c.args.guest c.args.count c.args.self.now mid c.in_ok-table.table c.in_ok-table.ensures.table
    c.args.begun.now c.ensure_table.new.begun c.in_ok-table.ensures.begins
    (LacksFreeRun g.S.Storage 1 (enough_for_run mid.tables c.args.count) mid.tables c.map_zeroes.new.self.tables)
    c.map_zeroes.new.self c.map_zeroes.result
    (part-full g.S.Storage c.args.guest c.args.count c.args.self.now mid c.in_ok-table.table c.in_ok-table.ensures.table
    c.args.begun.now c.ensure_table.new.begun c.in_ok-table.ensures.begins few c.map_zeroes.new.self) c.map_zeroes.ensures.zeroes

pub returns-in-Data-clause-begins : goal.returns-in-Data-clause-begins
returns-in-Data-clause-begins g c =
    begins-then g.S.Storage {T = ℕ} {U = ℕ} c.args.begun.now c.ensure_table.new.begun c.map_zeroes.new.begun c.args.self.now
    c.ensure_table.new.self c.map_zeroes.new.self (Ok c.in_ok-table.table) c.map_zeroes.result tt c.in_ok-table.ensures.begins
    c.map_zeroes.ensures.begins
