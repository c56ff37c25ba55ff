use Rattle.std.proofs.Common.{◌+◌, ◌-◌, ◌/◌, ◌^◌, ◌<◌, ◌≤◌, ℕ, arith}
use Rattle.std.proofs.Math.Nat.{le-div_iff_mul-le}
use Rattle.std.proofs.Math.Pow.{pow_mono}
use Rattle.std.proofs.lemmas.Nat.{mod_below, pow_pos}
use Rattle.std.proofs.lemmas.Bool.{leb-true, le-leb}
use Rattle.qcow2_types.specs.Entries.{l2_entries}
use Rattle.qcow2_image.proofs.committing.is_linkable.Goals as goal

some-words : (bits : ℕ) → 9 ≤ bits → 0 < l2_entries bits
some-words bits low = let le : 2 ^ 9 ≤ 2 ^ bits = pow_mono low in omega (arith, le)

pub overflow_sub-row : goal.overflow_sub-row
overflow_sub-row c =
    let at = c.l2_index.ensures in
    let entries = c.requires.entries in
    let rest = mod_below c.args.guest (l2_entries c.args.cluster_bits) (some-words c.args.cluster_bits c.requires.bits.0) in
    omega (arith, at, entries, rest)

pub returns : goal.returns
returns c =
    let bits = c.args.cluster_bits in
    let x = c.args.host in
    let n = c.args.count in
    let at = c.l2_index.ensures in
    let entries = c.requires.entries in
    let rest = mod_below c.args.guest (l2_entries bits) (some-words bits c.requires.bits.0) in
    let host = c.host.view_is in
    let count = c.count.view_is in
    let host-some = c.if-host-eq0.false in
    let count-some = c.if-count-eq0.false in
    let few = c.if-count-row.false in
    let near = c.if-host-most.false in
    let reach = le-div_iff_mul-le {k = 2 ^ bits} {x = x + (n - 1)} {y = 72057594037927424} (pow_pos bits) in (
      λ h.
          let low = leb-true (c.count.inside.0 - 1) (72057594037927424 / 2 ^ bits - c.host.inside.0) h in record {
            cluster_nonzero = omega (arith, host, host-some);
            any = omega (arith, count, count-some);
            reach = reach.0 (omega (arith, low, host, count, near, count-some));
            row = omega (arith, few, count, at, entries, rest);
          },
      λ is.
          let low = reach.1 is.reach in
          le-leb (c.count.inside.0 - 1) (72057594037927424 / 2 ^ bits - c.host.inside.0) (omega (arith, low, host, count, near, count-some)),
    )
