-- The clusters that a range of bytes meets.
use Rattle.std.proofs.Common.{◌≡◌, ℕ, ◌+◌, ◌-◌, ◌*◌, ◌/◌, ◌^◌, ◌<◌, ◌≤◌, refl, arith, ap, sym, ◌∙◌, inl, inr}
use Rattle.std.specs.Prelude.{Bool, true, false, ◌&&◌, nat_lt, if◌then◌else◌}
use Rattle.std.proofs.lemmas.Bool.{cases_lt, lt-ltb, le-ltb, le-leb, lt-leb}
use Rattle.std.proofs.Math.Nat.{div-mul-le_self, lt-div-mul-add, pow-le-pow_right, mul-le-mul_left}
use Rattle.std.proofs.lemmas.Nat.{pow_pos, mul-le, div-mul-add}
use Rattle.qcow2_types.specs.Header.{Fields, cluster_size}
use Rattle.qcow2_types.specs.Words.{data_at}
use Rattle.qcow2_types.specs.References.{Weight, meets, of_copied}
use Rattle.qimg_core.specs.declared.check.names.Tallies.{Tallies}
use Rattle.qimg_core.specs.declared.check.names.Times.{Times}
use Rattle.qimg_core.specs.Names.{referenced_by, structure_part, mapped_part, copied_part, is_between, AddsClusters}
use Rattle.qimg_core.specs.Entering.{AddsRange, AddsMapping}

-- With clusters of `s` bytes, a range meets the clusters from the one of its first byte to the one of its last byte.
between : (s c first length : ℕ) → 0 < s → 0 < length
    → (if nat_lt 0 length && nat_lt first ((c + 1) * s) && nat_lt (c * s) (first + length) then 1 else 0) ≡ is_between (first / s) ((first + (length - 1)) / s + 1) c
between s c first length some long = elim (cases_lt c (first / s)) [
  | inl early ↦
      let a : (c + 1) * s ≤ first / s * s = mul-le (c + 1) s (first / s) s (omega arith) (omega arith) in
      let b : first / s * s ≤ first = div-mul-le_self first s in
      rw (lt-ltb 0 length long, le-ltb first ((c + 1) * s) (omega arith), lt-leb (first / s) c early) refl
  | inr from ↦
      let a : first / s * s ≤ c * s = mul-le (first / s) s c s from (omega arith) in
      let b : first < first / s * s + s = lt-div-mul-add some in
      let d : c * s + s ≡ (c + 1) * s = grind arith in
      let inside : first < (c + 1) * s = omega arith in
      elim (cases_lt ((first + (length - 1)) / s) c) [
        | inl late ↦
            let e : ((first + (length - 1)) / s + 1) * s ≤ c * s = mul-le ((first + (length - 1)) / s + 1) s c s (omega arith) (omega arith) in
            let k : first + (length - 1) < (first + (length - 1)) / s * s + s = lt-div-mul-add some in
            let m : (first + (length - 1)) / s * s + s ≡ ((first + (length - 1)) / s + 1) * s = grind arith in
            rw (lt-ltb 0 length long, lt-ltb first ((c + 1) * s) inside, le-ltb (c * s) (first + length) (omega arith), le-leb (first / s) c from, le-ltb c ((first + (length - 1)) / s + 1) (omega arith)) refl
        | inr til ↦
            let e : c * s ≤ (first + (length - 1)) / s * s = mul-le c s ((first + (length - 1)) / s) s til (omega arith) in
            let k : (first + (length - 1)) / s * s ≤ first + (length - 1) = div-mul-le_self (first + (length - 1)) s in
            rw (lt-ltb 0 length long, lt-ltb first ((c + 1) * s) inside, lt-ltb (c * s) (first + length) (omega arith), le-leb (first / s) c from, lt-ltb c ((first + (length - 1)) / s + 1) (omega arith)) refl
      ]
]

-- Like `between`, for an image.
pub meets-between : (h : Fields) (c first length : ℕ) → 0 < length → meets h c first length ≡ is_between (first / cluster_size h) ((first + (length - 1)) / cluster_size h + 1) c
meets-between h c first length long = between (2 ^ h.cluster_bits) c first length (pow_pos h.cluster_bits) long

-- Adding the clusters of a range adds the range.
pub adds-range : (h : Fields) (old new : Tallies) (first length low high : ℕ) (times : Times) → 0 < length → low ≡ first / cluster_size h → high ≡ (first + (length - 1)) / cluster_size h
    → AddsClusters old new low (high + 1) times
    → AddsRange h old new first length times
adds-range h old new first length low high times long at til adds = record {
  structure = λ c. adds.structure c ∙ ap (λ n. referenced_by structure_part c old + times.structure * n) (sym (same c));
  mapped = λ c. adds.mapped c ∙ ap (λ n. referenced_by mapped_part c old + times.mapped * n) (sym (same c));
  copied = λ c. adds.copied c ∙ ap (λ n. referenced_by copied_part c old + times.copied * n) (sym (same c));
  cells = adds.cells;
  spares = adds.spares;
}
  where
    same : (c : ℕ) → meets h c first length ≡ is_between low (high + 1) c
    same c = meets-between h c first length long ∙ ap (λ a. is_between a ((first + (length - 1)) / cluster_size h + 1) c) (sym at) ∙ ap (λ b. is_between low (b + 1) c) (sym til)

-- Adding a host cluster adds the mapping of its L2 entry.
pub adds-data : (old new : Tallies) (cluster times marked : ℕ) (copied : Bool) → marked ≡ (if copied then times else 0)
    → AddsClusters old new cluster (cluster + 1) (record { structure = 0; mapped = times; copied = marked }) → (h : Fields) → AddsMapping h times old new (data_at cluster copied)
adds-data old new cluster times marked copied marks entered h = record {
  structure = λ c. none _ _ _ (adds.structure c);
  mapped = adds.mapped;
  copied = λ c. adds.copied c ∙ ap (λ n. referenced_by copied_part c old + n) (ap (λ n. n * meets h c (cluster * cluster_size h) (cluster_size h)) marks ∙ by-mark copied (meets h c));
  cells = adds.cells;
  spares = adds.spares;
}
  where
    some : 0 < cluster_size h
    some = pow_pos h.cluster_bits

    low : cluster ≡ cluster * cluster_size h / cluster_size h
    low = sym (ap (λ n. n / cluster_size h) (let e : cluster * cluster_size h ≡ cluster * cluster_size h + 0 = omega arith in e) ∙ div-mul-add cluster (cluster_size h) 0 some)

    high : cluster ≡ (cluster * cluster_size h + (cluster_size h - 1)) / cluster_size h
    high = sym (div-mul-add cluster (cluster_size h) (cluster_size h - 1) (omega (arith, some)))

    adds : AddsRange h old new (cluster * cluster_size h) (cluster_size h) (record { structure = 0; mapped = times; copied = marked })
    adds = adds-range h old new (cluster * cluster_size h) (cluster_size h) cluster cluster (record { structure = 0; mapped = times; copied = marked }) some low high entered

    none : (a b x : ℕ) → a ≡ b + 0 * x → a ≡ b + 0
    none a b x p = omega (arith, p)

    by-mark : (mark : Bool) (w : Weight) → (if mark then times else 0) * w (cluster * cluster_size h) (cluster_size h) ≡ times * of_copied h w (data_at cluster mark)
    by-mark true w = refl
    by-mark false w = omega arith

pub named-small : (cluster k : ℕ) → 9 ≤ k → cluster * 2 ^ k < 2 ^ 57 → cluster < 2 ^ 53
named-small cluster k low lt =
    let least : 2 ^ 9 ≤ 2 ^ k = pow-le-pow_right (omega arith) low in
    let less : cluster * 2 ^ 9 ≤ cluster * 2 ^ k = mul-le-mul_left cluster least in
    omega (arith, less, lt)

-- A list item has space for the cluster, a digit and its position in 64 bits.
pub cluster-small : (n k : ℕ) → 9 ≤ k → n < 2 ^ 62 → n / 2 ^ k + 1 ≤ 2 ^ 53
cluster-small n k low lt =
    let least : 2 ^ 9 ≤ 2 ^ k = pow-le-pow_right (omega arith) low in
    let less : n / 2 ^ k * 2 ^ 9 ≤ n / 2 ^ k * 2 ^ k = mul-le-mul_left (n / 2 ^ k) least in
    omega (arith, less, div-mul-le_self n (2 ^ k), lt)
