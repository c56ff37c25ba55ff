use Rattle.std.proofs.Common.{◌≡◌, ◌%◌, ◌∙◌, ap, arith, refl}
use Rattle.std.proofs.lemmas.Nat.{mod_below}
use Rattle.qcow2_types.specs.Entries.{l2_entries}
use Rattle.qcow2_image.proofs.Ranges.{high-bits, low-bits, some-words}
use Rattle.qcow2_image.proofs.resizing.row_from.Goals as goal

pub overflow_sub-row : goal.overflow_sub-row
overflow_sub-row c =
    let h = c.args.header.now.fields in
    let shaped = c.cluster_bits.ensures.shaped in
    let some = some-words h.cluster_bits (low-bits h.cluster_bits h refl shaped) (high-bits h.cluster_bits h refl shaped) in
    let rest = mod_below c.args.guest (l2_entries h.cluster_bits) some in
    let index : c.l2_index.result ≡ c.args.guest % l2_entries h.cluster_bits =
    c.l2_index.ensures ∙ ap (λ b. c.args.guest % l2_entries b) c.cluster_bits.ensures.value in
    omega (arith, index, rest, c.l2_entries.ensures)

pub returns-clause-any : goal.returns-clause-any
returns-clause-any c =
    let h = c.args.header.now.fields in
    let shaped = c.cluster_bits.ensures.shaped in
    let some = some-words h.cluster_bits (low-bits h.cluster_bits h refl shaped) (high-bits h.cluster_bits h refl shaped) in
    let rest = mod_below c.args.guest (l2_entries h.cluster_bits) some in
    let index : c.l2_index.result ≡ c.args.guest % l2_entries h.cluster_bits =
    c.l2_index.ensures ∙ ap (λ b. c.args.guest % l2_entries b) c.cluster_bits.ensures.value in
    omega (arith, index, rest, c.l2_entries.ensures, c.min.ensures, c.guest.view_is, c.last.view_is, c.requires.any)

pub returns-clause-row : goal.returns-clause-row
returns-clause-row c =
    let h = c.args.header.now.fields in
    let shaped = c.cluster_bits.ensures.shaped in
    let some = some-words h.cluster_bits (low-bits h.cluster_bits h refl shaped) (high-bits h.cluster_bits h refl shaped) in
    let rest = mod_below c.args.guest (l2_entries h.cluster_bits) some in
    let index : c.l2_index.result ≡ c.args.guest % l2_entries h.cluster_bits =
    c.l2_index.ensures ∙ ap (λ b. c.args.guest % l2_entries b) c.cluster_bits.ensures.value in
    omega (arith, index, rest, c.l2_entries.ensures, c.min.ensures)
