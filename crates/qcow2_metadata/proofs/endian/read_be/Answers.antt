use Rattle.std.proofs.Common.{◌≡◌, arith}
use Rattle.std.proofs.lemmas.Grind.{common_steps}
use Rattle.qcow2_metadata.specs.Cells.{big_endian}
use Rattle.qcow2_metadata.proofs.BigEndian.{big_endian_below, first_bytes_small}
use Rattle.qcow2_metadata.proofs.endian.read_be.Goals as goal

pub overflow_mul-value : goal.overflow_mul-value
overflow_mul-value c =
    let small = first_bytes_small c.args.bytes.now c.loop-byte.byte-index (λ k. (c.type_inv.bytes k).fits) c.requires c.loop-byte-test.true in
    omega (arith, small, c.loop-byte.invariant)

pub overflow_add-value : goal.overflow_add-value
overflow_add-value c =
    let small = first_bytes_small c.args.bytes.now c.loop-byte.byte-index (λ k. (c.type_inv.bytes k).fits) c.requires c.loop-byte-test.true in
    omega (arith, small, c.loop-byte.invariant)

pub returns-clause-below : goal.returns-clause-below
returns-clause-below c =
    let below = big_endian_below c.args.bytes.now (λ k. (c.type_inv.bytes k).fits) in
    let value : c.loop-byte.value ≡ big_endian c.args.bytes.now = grind (arith, common_steps) in
    rw value below
