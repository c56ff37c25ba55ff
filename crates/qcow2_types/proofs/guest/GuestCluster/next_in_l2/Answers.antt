-- A cluster has a next one in its table if its index isn't the last.
use Rattle.std.proofs.Common.{◌≡◌, ℕ, ◌+◌, ◌-◌, ◌*◌, ◌%◌, ◌^◌, ◌<◌, ◌≤◌, arith, ap, ◌∙◌}
use Rattle.std.proofs.lemmas.Nat.{one_shl, mod_below, pow_pos, pow_below}
use Rattle.qcow2_types.specs.Entries.{l2_entries}
use Rattle.qcow2_types.proofs.Counting.TableSizes.{entries_power, next_below}
use Rattle.qcow2_types.proofs.guest.GuestCluster.next_in_l2.Goals as goal

-- the index, with the number of entries as a power of 2
index : (self b i : ℕ) → 9 ≤ b → i ≡ self % l2_entries b → i ≡ self % 2 ^ (b - 3)
index self b i low e = e ∙ ap (λ n. self % n) (entries_power b low)

pub overflow_add-l2_index : goal.overflow_add-l2_index
overflow_add-l2_index c =
    let k : ℕ = c.args.cluster_bits - 3 in
    let inside : c.args.self % 2 ^ k < 2 ^ k = mod_below c.args.self (2 ^ k) (pow_pos k) in
    let few : 2 ^ k < 2 ^ 20 = pow_below k 20 (omega arith) in
    let is : c.l2_index.result ≡ c.args.self % 2 ^ k = index c.args.self c.args.cluster_bits c.l2_index.result c.requires.bits.0 c.l2_index.ensures in
    omega arith

pub overflow_add-result : goal.overflow_add-result
overflow_add-result c =
    let k : ℕ = c.args.cluster_bits - 3 in
    let shifted : 1 * 2 ^ k % 2 ^ 64 ≡ 2 ^ k = one_shl k 64 (omega arith) in
    let is : c.l2_index.result ≡ c.args.self % 2 ^ k = index c.args.self c.args.cluster_bits c.l2_index.result c.requires.bits.0 c.l2_index.ensures in
    let same : c.self.inside.0 ≡ c.args.self = c.self.view_is in
    let whole : c.args.self < 2 ^ 64 = omega arith in
    let next : c.args.self + 1 < 2 ^ 64 = next_below c.args.self k (64 - k) 64 (omega arith) whole (omega arith) in
    omega arith

pub returns-else-l2_index-table_entries : goal.returns-else-l2_index-table_entries
returns-else-l2_index-table_entries c =
    let k : ℕ = c.args.cluster_bits - 3 in
    let shifted : 1 * 2 ^ k % 2 ^ 64 ≡ 2 ^ k = one_shl k 64 (omega arith) in
    let entries : l2_entries c.args.cluster_bits ≡ 2 ^ k = entries_power c.args.cluster_bits c.requires.bits.0 in
    λ more. omega arith
