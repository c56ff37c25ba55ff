use Rattle.std.proofs.Common.{◌≡◌, ◌+◌, ◌/◌, ◌%◌, ◌^◌, ◌<◌, ◌≤◌, ℕ, arith, ap, ◌∙◌, inl, inr}
use Rattle.std.proofs.Math.Pow.{pow_mono}
use Rattle.std.proofs.lemmas.Bool.{cases_eq}
use Rattle.std.proofs.lemmas.Nat.{mod_below}
use Rattle.qcow2_types.specs.Header.{cluster_size, entries_of_cluster}
use Rattle.qcow2_image.proofs.Preparations.RangeRuns.{covers-most}
use Rattle.qcow2_image.proofs.mappings.most_covered.Goals as goal

pub overflow_sub-row : goal.overflow_sub-row
overflow_sub-row c =
    let h = c.args.header.now.fields in
    let low : 2 ^ 9 ≤ 2 ^ h.cluster_bits = pow_mono c.cluster_bits-cluster_bits.ensures.shaped.low in
    let index : c.l2_index.result ≡ c.cluster-guest.result % entries_of_cluster h =
    c.l2_index.ensures ∙ ap (λ (b : ℕ). c.cluster-guest.result % (2 ^ b / 8)) c.cluster_bits-cluster_bits.ensures.value in
    let rest = mod_below c.cluster-guest.result (entries_of_cluster h) (omega (arith, low)) in
    let row = c.l2_entries.ensures in
    omega (arith, index, rest, row)

pub returns : goal.returns
returns c =
    let h = c.args.header.now.fields in
    let low : 2 ^ 9 ≤ 2 ^ h.cluster_bits = pow_mono c.cluster_bits-cluster_bits.ensures.shaped.low in
    let raw_entries : 0 < entries_of_cluster h = omega (arith, low) in
    let bits = c.cluster_bits-cluster_bits.ensures.value in
    let guest : c.cluster-guest.result ≡ c.args.offset / cluster_size h = c.cluster-guest.ensures
    ∙ ap (λ (b : ℕ). c.args.offset / 2 ^ b) bits in
    let index : c.l2_index.result ≡ c.args.offset / cluster_size h % entries_of_cluster h =
    c.l2_index.ensures ∙ ap (λ (b : ℕ). c.cluster-guest.result % (2 ^ b / 8)) bits ∙ ap (λ (x : ℕ). x % entries_of_cluster h) guest in
    let view = c.guest.view_is in
    let row = c.l2_entries.ensures in
    let most = c.max.ensures in
    let least = c.min.ensures in
    let behind : c.cluster-behind.result ≡ (c.args.offset + c.args.length) / cluster_size h = c.cluster-behind.ensures
    ∙ ap (λ (b : ℕ). (c.args.offset + c.args.length) / 2 ^ b) bits in
    let view' = c.behind.view_is in
    let rest = c.saturating_sub.ensures in
    covers-most h c.args.offset c.args.length c.max.result c.requires.inside c.requires.nonempty raw_entries (omega (arith, most))
    (elim (cases_eq c.max.result 1) [
      | inl one ↦ inl one
      | inr other ↦ inr (
        omega (arith, most, least, rest, other, view, guest, behind, view'),
        omega (arith, most, least, row, index, other),
      )
    ])
