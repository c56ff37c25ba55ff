use Rattle.std.proofs.Common.{ℕ, ◌+◌, ◌-◌, ◌*◌, ◌/◌, ◌^◌, ◌≤◌, ◌∙◌, ap, sym, subst, Err}
use Rattle.qcow2_alloc.proofs.Faults.{handed-on}
use Rattle.qcow2_image.specs.Growing.{IsPossibleFor}
use Rattle.qcow2_image.specs.Resizing.{MovesL1}
use Rattle.qcow2_image.proofs.Resizes.ZeroedGrowth.{ok-always, past-all, prepare-begins, prepare-unloaded, prepare-unmoved, prepare-zeroed, range-at}
use Rattle.qcow2_image.proofs.qcow2.Qcow2.prepare_growth.Goals as goal

pub returns-in_err-load_space-clause-prepares : goal.returns-in_err-load_space-clause-prepares
returns-in_err-load_space-clause-prepares g c = rw (handed-on _ _ c.from_residual.ensures.1)
    (prepare-unloaded g.S.Storage c.args.size c.args.self.now c.load_space.new.self c.in_err-load_space.field-0.0
    c.in_err-load_space.ensures)

pub returns-in_err-load_space-clause-begins : goal.returns-in_err-load_space-clause-begins
returns-in_err-load_space-clause-begins g c = rw (handed-on _ _ c.from_residual.ensures.1) tt

pub returns-in_err-move_l1-clause-prepares : goal.returns-in_err-move_l1-clause-prepares
returns-in_err-move_l1-clause-prepares g c =
    let bits = c.cluster_bits-cluster_bits.ensures.value in
    let same = bits ∙ sym c.in_ok-load_space.ensures.keeps.bits in
    rw (handed-on _ _ c.from_residual-in_err-move_l1.ensures.1)
    (prepare-unmoved g.S.Storage c.args.size c.args.self.now c.load_space.new.self c.in_ok-load_space.ensures c.args.begun.now
    c.move_l1.new.begun c.requires.begun c.move_l1.new.self c.in_err-move_l1.field-0.0
    (subst (λ i. MovesL1 g.S.Storage i c.load_space.new.self (Err c.in_err-move_l1.field-0.0) c.move_l1.new.self)
    (c.l1_index-index.ensures ∙ ap (λ (b : ℕ). (c.args.size - 1) / 2 ^ b / (2 ^ b / 8)) same) c.in_err-move_l1.ensures.moves)
    c.in_err-move_l1.ensures.begins)

pub returns-in_err-move_l1-clause-begins : goal.returns-in_err-move_l1-clause-begins
returns-in_err-move_l1-clause-begins g c = rw (handed-on _ _ c.from_residual-in_err-move_l1.ensures.1) tt

pub zero_range-requires-clause-possible : goal.zero_range-requires-clause-possible
zero_range-requires-clause-possible g c =
    subst (λ (version : ℕ). IsPossibleFor c.args.how version)
    (sym (c.in_ok-move_l1.ensures.moves.keeps.version ∙ c.in_ok-load_space.ensures.keeps.version)) c.requires.possible

pub zero_range-requires-clause-past : goal.zero_range-requires-clause-past
zero_range-requires-clause-past g c =
    let bits = c.cluster_bits-cluster_bits.ensures.value in
    let first = c.first_from-first.ensures.value ∙ (λ i. (c.size.ensures i + (2 ^ bits i - 1)) / 2 ^ bits i) in
    let same = c.in_ok-move_l1.ensures.moves.keeps.bits ∙ c.in_ok-load_space.ensures.keeps.bits in
    let size = c.in_ok-move_l1.ensures.moves.keeps.size ∙ c.in_ok-load_space.ensures.keeps.size in
    subst (λ (b : ℕ). c.move_l1.new.self.tables.file.header.fields.size ≤ c.first_from-first.result * 2 ^ b) (sym same)
    (subst (λ (n : ℕ). n ≤ c.first_from-first.result * 2 ^ c.args.self.now.tables.file.header.fields.cluster_bits) (sym size)
    (subst (λ (k : ℕ). c.args.self.now.tables.file.header.fields.size ≤ k * 2 ^ c.args.self.now.tables.file.header.fields.cluster_bits)
    (sym first)
    (past-all g.S.Storage c.args.size c.args.self.now)))

pub zero_range-requires-clause-free : goal.zero_range-requires-clause-free
zero_range-requires-clause-free g c =
    c.in_ok-move_l1.ensures.moves.keeps.unspent ∙ c.in_ok-load_space.ensures.keeps.unspent ∙ c.requires.free

pub returns-clause-prepares : goal.returns-clause-prepares
returns-clause-prepares g c =
    let bits = c.cluster_bits-cluster_bits.ensures.value in
    let old = c.args.self.now in
    let mid = c.move_l1.new.self in
    let new = c.zero_range.new.self in
    let first = c.first_from-first.ensures.value ∙ (λ i. (c.size.ensures i + (2 ^ bits i - 1)) / 2 ^ bits i) in
    let last = c.first_from-last.ensures.value ∙ ap (λ (b : ℕ). (c.args.size + (2 ^ b - 1)) / 2 ^ b) bits in
    prepare-zeroed g.S.Storage c.args.size old c.load_space.new.self c.in_ok-load_space.ensures c.args.begun.now c.move_l1.new.begun
    c.requires.begun c.l1_index-index.result mid new c.in_ok-move_l1.ensures.moves c.in_ok-move_l1.ensures.begins c.zero_range.result
    c.zero_range.new.begun
    (range-at g.S.Storage c.args.size old c.first_from-first.result c.first_from-last.result mid new c.zero_range.result first last
    c.zero_range.ensures.zeroes)
    c.zero_range.ensures.begins

pub returns-clause-begins : goal.returns-clause-begins
returns-clause-begins g c =
    let bits = c.cluster_bits-cluster_bits.ensures.value in
    let old = c.args.self.now in
    let mid = c.move_l1.new.self in
    let new = c.zero_range.new.self in
    let first = c.first_from-first.ensures.value ∙ (λ i. (c.size.ensures i + (2 ^ bits i - 1)) / 2 ^ bits i) in
    let last = c.first_from-last.ensures.value ∙ ap (λ (b : ℕ). (c.args.size + (2 ^ b - 1)) / 2 ^ b) bits in
    ok-always c.zero_range.result (prepare-begins g.S.Storage c.args.size old c.load_space.new.self c.in_ok-load_space.ensures
    c.args.begun.now c.move_l1.new.begun c.requires.begun c.l1_index-index.result mid new c.in_ok-move_l1.ensures.moves
    c.in_ok-move_l1.ensures.begins c.zero_range.result c.zero_range.new.begun
    (range-at g.S.Storage c.args.size old c.first_from-first.result c.first_from-last.result mid new c.zero_range.result first last
    c.zero_range.ensures.zeroes) c.zero_range.ensures.begins)
