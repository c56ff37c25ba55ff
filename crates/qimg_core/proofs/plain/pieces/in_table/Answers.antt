use Rattle.std.proofs.Common.{◌≡◌, ℕ, ◌-◌, ◌*◌, ◌%◌, ◌<◌, ◌^◌, ◌≤◌, arith}
use Rattle.std.proofs.lemmas.Nat.{mod_below, pow_pos}
use Rattle.qcow2_types.specs.Entries.{l2_entries}
use Rattle.qcow2_types.proofs.Counting.TableSizes.{mapped_power}
use Rattle.qimg_core.proofs.plain.pieces.in_table.Goals as goal

some-mapped : (bits : ℕ) → 9 ≤ bits → 0 < l2_entries bits * 2 ^ bits
some-mapped bits low = let power : l2_entries bits * 2 ^ bits ≡ 2 ^ (2 * bits - 3) = mapped_power bits low in let some : 0 < 2 ^ (2 * bits - 3) = pow_pos (2 * bits - 3) in omega arith

pub returns-clause-one_table : goal.returns-clause-one_table
returns-clause-one_table c =
    let mapped : ℕ = l2_entries c.args.cluster_bits * 2 ^ c.args.cluster_bits in
    let less : c.args.at % mapped < mapped = mod_below c.args.at mapped (some-mapped c.args.cluster_bits c.requires.bits.0) in
    omega (arith, c.remaining_in_l2_table.ensures, c.min.ensures)

pub returns-clause-nonempty : goal.returns-clause-nonempty
returns-clause-nonempty c =
    let mapped : ℕ = l2_entries c.args.cluster_bits * 2 ^ c.args.cluster_bits in
    let less : c.args.at % mapped < mapped = mod_below c.args.at mapped (some-mapped c.args.cluster_bits c.requires.bits.0) in
    omega (arith, c.remaining_in_l2_table.ensures, c.min.ensures)

pub returns-clause-whole : goal.returns-clause-whole
returns-clause-whole c less_than_left =
    let mapped : ℕ = l2_entries c.args.cluster_bits * 2 ^ c.args.cluster_bits in
    let less : c.args.at % mapped < mapped = mod_below c.args.at mapped (some-mapped c.args.cluster_bits c.requires.bits.0) in
    omega (arith, c.remaining_in_l2_table.ensures, c.min.ensures)
