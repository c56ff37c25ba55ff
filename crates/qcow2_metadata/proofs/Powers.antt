-- Powers of two.
use Rattle.std.proofs.Common.{◌≡◌, ◌+◌, ◌-◌, ◌*◌, ◌/◌, ◌^◌, ◌<◌, ◌≤◌, arith, sym, ap, ◌∙◌}
use Rattle.std.proofs.lemmas.Nat.{pow_pos, pow-add}
use Rattle.std.proofs.Math.Nat.{mul-div_cancel, pow-le-pow_right}
use Rattle.qcow2_types.specs.Header.{Fields, Shaped, cluster_size}
use Rattle.qcow2_types.specs.Counts.{counters_of_block}

-- The number of refcounts of a block as a power of two.
pub power-counters : (h : Fields) → Shaped h → 2 ^ (h.cluster_bits + 3 - h.refcount_order) ≡ counters_of_block h
power-counters h shaped =
    let some : 0 < 2 ^ h.refcount_order = pow_pos h.refcount_order in
    let order : h.refcount_order ≤ 6 = shaped.order in
    let low : 9 ≤ h.cluster_bits = shaped.low in
    let split : h.cluster_bits + 3 - h.refcount_order + h.refcount_order ≡ h.cluster_bits + 3 = omega arith in
    let product : 2 ^ (h.cluster_bits + 3 - h.refcount_order) * 2 ^ h.refcount_order ≡ 2 ^ h.cluster_bits * 8 =
    sym (pow-add 2 (h.cluster_bits + 3 - h.refcount_order) h.refcount_order) ∙ (ap (λ n. 2 ^ n) split ∙ pow-add 2 h.cluster_bits 3) in
    sym (mul-div_cancel (2 ^ (h.cluster_bits + 3 - h.refcount_order)) some) ∙ ap (λ n. n / 2 ^ h.refcount_order) product

-- The maximum size of a cluster.
pub cluster-small : (h : Fields) → Shaped h → cluster_size h ≤ 2_097_152
cluster-small h shaped = let le : 2 ^ h.cluster_bits ≤ 2 ^ 21 = pow-le-pow_right (omega arith) shaped.high in omega arith

-- The minimum size.
pub cluster-large : (h : Fields) → Shaped h → 512 ≤ cluster_size h
cluster-large h shaped = let le : 2 ^ 9 ≤ 2 ^ h.cluster_bits = pow-le-pow_right (omega arith) shaped.low in omega arith
