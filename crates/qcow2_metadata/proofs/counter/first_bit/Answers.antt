-- The bit fits its type: a cell has at most 64 bits.
use Rattle.std.proofs.Common.{◌+◌, ◌*◌, ◌≤◌, ◌%◌, ◌^◌, arith}
use Rattle.std.proofs.Math.Nat.{mod-eq_of_lt}
use Rattle.qcow2_metadata.specs.Cells.{bit_start, cell_bytes}
use Rattle.qcow2_metadata.proofs.Widths.{bit_start_below, bit_start_inside}
use Rattle.qcow2_metadata.proofs.counter.first_bit.Goals as goal

pub returns-clause-bit : goal.returns-clause-bit
returns-clause-bit c =
    let below = bit_start_below c.args.order c.args.index c.requires in
    rw (c.low_bits.ensures, c.saturating_sub.ensures) (mod-eq_of_lt (omega (arith, below)))

pub returns-clause-inside : goal.returns-clause-inside
returns-clause-inside c =
    let below = bit_start_below c.args.order c.args.index c.requires in
    let fits : bit_start c.args.order c.args.index % 2 ^ 32 + 2 ^ c.args.order ≤ 8 * cell_bytes c.args.order =
    rw (mod-eq_of_lt {n = bit_start c.args.order c.args.index} {m = 2 ^ 32} (omega (arith, below)))
    (bit_start_inside c.args.order c.args.index c.requires)
    in rw (c.low_bits.ensures, c.saturating_sub.ensures) fits
