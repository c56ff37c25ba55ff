use Rattle.std.proofs.Common.{◌≡◌, ◌+◌, ◌-◌, ◌*◌, ◌/◌, ◌%◌, ◌^◌, ◌<◌, ◌≤◌, ℕ, arith, ap, ◌∙◌}
use Rattle.std.specs.Prelude.{min}
use Rattle.std.proofs.Math.Pow.{pow_mono}
use Rattle.std.proofs.lemmas.Nat.{mod_below}
use Rattle.qcow2_types.specs.Header.{cluster_size, entries_of_cluster}
use Rattle.qcow2_image.proofs.Clearings.WholeParts.{is-whole-part}
use Rattle.qcow2_image.proofs.clearing.whole_part.Goals as goal

pub returns : goal.returns
returns c =
    let h = c.args.header.now.fields in
    let first = c.guest.inside.0 in
    let end = c.args.offset + c.args.length in
    let bits = c.cluster_bits-cluster_bits.ensures.value in
    let size = c.cluster_size-cluster_size.ensures.value in
    let low : 2 ^ 9 ≤ 2 ^ h.cluster_bits = pow_mono c.cluster_bits-cluster_bits.ensures.shaped.low in
    let given : c.from_byte_size.result ≡ (c.args.offset + (cluster_size h - 1)) / cluster_size h = c.from_byte_size.ensures
    ∙ ap (λ (b : ℕ). (c.args.offset + (2 ^ b - 1)) / 2 ^ b) bits in
    let view = c.guest.view_is in
    let view' = c.guest-2.view_is in
    let guest : first ≡ (c.args.offset + (cluster_size h - 1)) / cluster_size h = omega (arith, given, view) in
    let again : c.guest-2.inside.0 ≡ first = omega (arith, view') in
    let index : c.l2_index.result ≡ first % entries_of_cluster h = c.l2_index.ensures ∙ ap (λ (b : ℕ). first % (2 ^ b / 8)) bits in
    let rest-below = mod_below first (entries_of_cluster h) (omega (arith, low)) in
    let entries = c.l2_entries.ensures in
    let whole = c.saturating_sub-whole.ensures in
    let count = c.min-count.ensures in
    let many : c.saturating_sub-whole.result ≡ c.whole_end.result - first = omega (arith, whole, again) in
    let wide : c.saturating_mul.result ≡ min ((c.whole_end.result - first) * cluster_size h) (2 ^ 64 - 1) = c.saturating_mul.ensures
    ∙ ap (λ (k : ℕ). min (c.saturating_sub-whole.result * k) (2 ^ 64 - 1)) size ∙ ap (λ (k : ℕ). min (k * cluster_size h) (2 ^ 64 - 1)) many in
    let left = c.saturating_sub-left.ensures in
    let rest = c.min-rest.ensures in
    let fits = c.requires.fits in
    is-whole-part h c.args.offset c.args.length c.saturating_mul-start.result first c.min-count.result c.min-length.result c.min-rest.result
    c.whole_end.result (c.l2_entries.result - c.l2_index.result) c.requires.inside c.requires.fits guest c.whole_end.ensures
    (omega (arith, index, rest-below, entries))
    (omega (arith, whole, count, again))
    (c.saturating_mul-start.ensures ∙ ap (λ (k : ℕ). min (c.guest-2.inside.0 * k) (2 ^ 64 - 1)) size
    ∙ ap (λ (k : ℕ). min (k * cluster_size h) (2 ^ 64 - 1)) again)
    (c.min-length.ensures ∙ ap (λ (k : ℕ). min k (c.min-count.result * c.cluster_size-cluster_size.result)) c.saturating_sub-left.ensures
    ∙ ap (λ (k : ℕ). min (end - c.saturating_mul-start.result) (c.min-count.result * k)) size)
    (omega (arith, rest, left, wide, fits))
