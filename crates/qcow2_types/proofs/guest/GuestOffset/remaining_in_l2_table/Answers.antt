-- A table maps a power of 2 bytes, which the shift computes.
use Rattle.std.proofs.Common.{◌≡◌, ℕ, ◌-◌, ◌*◌, ◌%◌, ◌^◌, arith, refl}
use Rattle.std.proofs.lemmas.Nat.{one_shl}
use Rattle.qcow2_types.specs.Entries.{l2_entries}
use Rattle.qcow2_types.proofs.Counting.TableSizes.{mapped_power}
use Rattle.qcow2_types.proofs.guest.GuestOffset.remaining_in_l2_table.Goals as goal

pub returns : goal.returns
returns c =
    let k : ℕ = 2 * c.args.cluster_bits - 3 in
    let shifted : 1 * 2 ^ k % 2 ^ 64 ≡ 2 ^ k = one_shl k 64 (omega arith) in
    let mapped : l2_entries c.args.cluster_bits * 2 ^ c.args.cluster_bits ≡ 2 ^ k = mapped_power c.args.cluster_bits c.requires.bits.0 in
    rw (shifted, mapped, c.low_bits.ensures, ← c.self.view_is) refl
