-- Lemmas on where the runs of lookups end.
use Rattle.std.proofs.Common.{◌≡◌, ◌⊎◌, ℕ, ◌+◌, ◌*◌, ◌/◌, ◌%◌, ◌<◌, ◌≤◌, arith, ap, subst, ◌∙◌, sym, inl, inr}
use Rattle.std.specs.Prelude.{min, ◌-◌}
use Rattle.std.proofs.lemmas.Nat.{div-add-mod', div-mul-add}
use Rattle.std.proofs.Math.Nat.{mul-mod_left, mul-add-mod_self_right, mod-eq_of_lt, lt_of_mul-lt-mul_right}
use Rattle.qcow2_types.specs.Header.{Fields, cluster_size, entries_of_cluster}
use Rattle.qcow2_types.specs.Words.{Mapping}
use Rattle.qcow2_metadata.specs.declared.mapping.L2Mapping.{L2Mapping}
use Rattle.qcow2_image.specs.Looking.{Follows, IsRunOf, IsCutAt}

at-cluster : (at k c : ℕ) → 0 < c → at ≡ k * c → (at % c ≡ 0) × (at / c ≡ k)
at-cluster at k c some is =
    let more : at ≡ k * c + 0 = omega (arith, is) in
    (ap (λ x. x % c) is ∙ mul-mod_left k c, ap (λ x. x / c) more ∙ div-mul-add k c 0 some)

pub long-run : (h : Fields) (mapped : ℕ → Mapping) (offset asked n most : ℕ) (run : L2Mapping × ℕ) → 0 < cluster_size h → IsRunOf (offset / cluster_size h) most mapped run
    → (n ≡ min asked (h.size - offset)) ⊎ ((offset % (entries_of_cluster h * cluster_size h) + n ≡ entries_of_cluster h * cluster_size h) ⊎ ((run.1 < most) × (offset + n ≡ (offset / cluster_size h + run.1) * cluster_size h)))
    → (n ≡ min asked (h.size - offset)) ⊎ IsCutAt h mapped (offset + n)
long-run h mapped offset asked n most run some is (inl all) = inl all
long-run h mapped offset asked n most run some is (inr (inl table)) =
    let c : ℕ = cluster_size h in
    let e : ℕ = entries_of_cluster h in
    let k : ℕ = offset / (e * c) in
    let place : k * (e * c) + offset % (e * c) ≡ offset = div-add-mod' offset (e * c) in
    let end : offset + n ≡ (k + 1) * e * c = let product : (k + 1) * e * c ≡ k * (e * c) + e * c = omega arith in omega (arith, place, table, product) in
    let cut = at-cluster (offset + n) ((k + 1) * e) c some end in
    inr (record { cluster = cut.0; last = inl (ap (λ x. x % e) cut.1 ∙ mul-mod_left (k + 1) e) })
long-run h mapped offset asked n most run some is (inr (inr stop)) =
    let cut = at-cluster (offset + n) (offset / cluster_size h + run.1) (cluster_size h) some stop.1 in
    inr (record { cluster = cut.0; last = inr (subst (λ x. Follows (mapped (x - 1)) (mapped x) → ⊥) (sym cut.1) (is.ends stop.0)) })

-- The clusters of a run that was found in one L2 table.
pub run-goes-on : (h : Fields) (mapped : ℕ → Mapping) (offset n most : ℕ) (run : L2Mapping × ℕ) → 0 < cluster_size h → 0 < entries_of_cluster h
    → IsRunOf (offset / cluster_size h) most mapped run → offset / cluster_size h % entries_of_cluster h + most ≤ entries_of_cluster h
    → offset + n ≤ (offset / cluster_size h + run.1) * cluster_size h
    → (g : ℕ) → offset / cluster_size h < g → g * cluster_size h < offset + n → (0 < g % entries_of_cluster h) × Follows (mapped (g - 1)) (mapped g)
run-goes-on h mapped offset n most run some rows is one near g behind inside =
    let c : ℕ = cluster_size h in
    let e : ℕ = entries_of_cluster h in
    let guest : ℕ = offset / c in
    let few : g * c < (guest + run.1) * c = omega (arith, near, inside) in
    let less : g < guest + run.1 = lt_of_mul-lt-mul_right c few in
    let k : ℕ = g - 1 - guest in
    let at : g ≡ guest + k + 1 = omega (arith, behind) in
    let before : g - 1 ≡ guest + k = omega (arith, behind) in
    let next : k + 1 < run.1 = omega (arith, at, less) in
    let most-at : run.1 ≤ most = is.length_bounded in
    let place : guest / e * e + guest % e ≡ guest = div-add-mod' guest e in
    let split : g ≡ guest / e * e + (guest % e + k + 1) = omega (arith, place, at) in
    let small : guest % e + k + 1 < e = omega (arith, next, most-at, one) in
    let raw_entry : g % e ≡ guest % e + k + 1 = ap (λ x. x % e) split ∙ mul-add-mod_self_right (guest / e) e (guest % e + k + 1) ∙ mod-eq_of_lt small in
    (omega (arith, raw_entry), subst (λ x. Follows (mapped x) (mapped g)) (sym before) (subst (λ x. Follows (mapped (guest + k)) (mapped x)) (sym at) (is.each k next)))
