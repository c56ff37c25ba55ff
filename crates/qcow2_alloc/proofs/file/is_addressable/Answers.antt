use Rattle.std.proofs.Common.{◌/◌, ◌^◌, ℕ, sym, subst}
use Rattle.std.proofs.Math.Nat.{le-div_iff_mul-le}
use Rattle.std.proofs.lemmas.Nat.{pow_pos}
use Rattle.std.proofs.lemmas.Bool.{leb-true, le-leb}
use Rattle.qcow2_metadata.specs.Places.{IsAddressable}
use Rattle.qcow2_alloc.proofs.file.is_addressable.Goals as goal

pub returns : goal.returns
returns c =
    let bits = c.args.cluster_bits in
    let both = le-div_iff_mul-le {k = 2 ^ bits} {x = c.cluster.inside.0} {y = 72057594037927424} (pow_pos bits) in (
      (λ h. subst (λ (n : ℕ). IsAddressable bits n) c.cluster.view_is (both.0 (leb-true c.cluster.inside.0 (72057594037927424 / 2 ^ bits) h))),
      (λ h. le-leb c.cluster.inside.0 (72057594037927424 / 2 ^ bits) (both.1 (subst (λ (n : ℕ). IsAddressable bits n) (sym c.cluster.view_is) h))),
    )
