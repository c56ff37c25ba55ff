-- Lemmas on runs of guest clusters in a table.
use Rattle.std.proofs.Common.{◌≡◌, ℕ, ◌+◌, ◌-◌, ◌*◌, ◌^◌, ◌<◌, refl, arith, ap, sym, subst, ◌∙◌, true, false, Some, None, inl, inr}
use Rattle.std.specs.Prelude.{Bool, ◌&&◌, ◌==◌}
use Rattle.std.proofs.lemmas.Bool.{cases_lt, and_parts, and_from, eqb-true, eq-eqb}
use Rattle.qcow2_types.specs.Words.{Mapping}
use Rattle.qcow2_metadata.specs.MappingView.{mapping_seen, BacksAt, follows, same_copied}
use Rattle.qcow2_metadata.specs.declared.mapping.L2Mapping.{L2Mapping}
use Rattle.qcow2_metadata.specs.declared.mapping.L2Mapping.TheVariants.{DataFile, Backing, Zero, Compressed}
use Rattle.qcow2_image.specs.Looking.{Follows, IsRunOf}

same-marks : (a b : Bool) → same_copied a b ≡ true → b ≡ a
same-marks true true is = refl
same-marks true false is = absurd (cc is)
same-marks false true is = absurd (cc is)
same-marks false false is = refl

marks-same : (a b : Bool) → b ≡ a → same_copied a b ≡ true
marks-same true true is = refl
marks-same true false is = absurd (cc is)
marks-same false true is = absurd (cc is)
marks-same false false is = refl

next-mark : (a b : ℕ) (x y : Bool) → ((b == a + 1) && same_copied x y) ≡ true → (b ≡ a + 1) × (y ≡ x)
next-mark a b x y is =
    let parts = and_parts (b == a + 1) (same_copied x y) is in
    (eqb-true b (a + 1) parts.0, same-marks x y parts.1)

mark-next : (a b : ℕ) (x y : Bool) → (b ≡ a + 1) × (y ≡ x) → ((b == a + 1) && same_copied x y) ≡ true
mark-next a b x y is = and_from (b == a + 1) (same_copied x y) (eq-eqb b (a + 1) is.0) (marks-same x y is.1)

-- Mappings that the code finds consecutive follow each other.
pub goes-on : (bits : ℕ) (a b : L2Mapping) → follows bits a b ≡ true → Follows (mapping_seen a) (mapping_seen b)
goes-on bits (DataFile a x) (DataFile b y) is = next-mark a b x y is
goes-on bits (Backing a) (Backing b) is = tt
goes-on bits (Zero None x) (Zero None y) is = tt
goes-on bits (Zero (Some a) x) (Zero (Some b) y) is = next-mark a b x y is
goes-on bits (DataFile a x) (Backing b) is = absurd (cc is)
goes-on bits (DataFile a x) (Zero b y) is = absurd (cc is)
goes-on bits (DataFile a x) (Compressed b y) is = absurd (cc is)
goes-on bits (Backing a) (DataFile b y) is = absurd (cc is)
goes-on bits (Backing a) (Zero b y) is = absurd (cc is)
goes-on bits (Backing a) (Compressed b y) is = absurd (cc is)
goes-on bits (Zero None x) (Zero (Some b) y) is = absurd (cc is)
goes-on bits (Zero (Some a) x) (Zero None y) is = absurd (cc is)
goes-on bits (Zero None x) (DataFile b y) is = absurd (cc is)
goes-on bits (Zero (Some a) x) (DataFile b y) is = absurd (cc is)
goes-on bits (Zero None x) (Backing b) is = absurd (cc is)
goes-on bits (Zero (Some a) x) (Backing b) is = absurd (cc is)
goes-on bits (Zero None x) (Compressed b y) is = absurd (cc is)
goes-on bits (Zero (Some a) x) (Compressed b y) is = absurd (cc is)
goes-on bits (Compressed a x) b is = absurd (cc is)

-- Other mappings don't.
pub stops-there : (bits place : ℕ) (a b : L2Mapping) → BacksAt place a → BacksAt (place + 2 ^ bits) b → follows bits a b ≡ false → Follows (mapping_seen a) (mapping_seen b) → ⊥
stops-there bits place (DataFile a x) (DataFile b y) at at' is on = let yes = mark-next a b x y on in cc (sym yes ∙ is)
stops-there bits place (Backing a) (Backing b) at at' is on =
    let next : b ≡ a + 2 ^ bits = omega (arith, at, at') in
    let yes : (b == a + 2 ^ bits) ≡ true = eq-eqb b (a + 2 ^ bits) next in
    cc (sym yes ∙ is)
stops-there bits place (Zero None x) (Zero None y) at at' is on = cc is
stops-there bits place (Zero (Some a) x) (Zero (Some b) y) at at' is on = let yes = mark-next a b x y on in cc (sym yes ∙ is)
stops-there bits place a b at at' is on = absurd on

pub run-same : (guest most : ℕ) (a b : ℕ → Mapping) (r : L2Mapping × ℕ) → ((k : ℕ) → k < most → a (guest + k) ≡ b (guest + k)) → IsRunOf guest most a r → IsRunOf guest most b r
run-same guest most a b r same run =
    let one : a guest ≡ b guest = subst (λ x. a x ≡ b x) (omega arith) (same 0 (omega (arith, run.nonempty, run.length_bounded))) in
    record {
      first = run.first ∙ one;
      nonempty = run.nonempty;
      length_bounded = run.length_bounded;
      each = λ k lt.
          let here = same k (omega (arith, lt, run.length_bounded)) in
          let next : a (guest + k + 1) ≡ b (guest + k + 1) = subst (λ x. a x ≡ b x) (omega arith) (same (k + 1) (omega (arith, lt, run.length_bounded))) in
          subst (λ m. Follows m (b (guest + k + 1))) here (subst (λ m. Follows (a (guest + k)) m) next (run.each k lt));
      ends = λ lt on.
          let last : a (guest + r.1 - 1) ≡ b (guest + r.1 - 1) = subst (λ x. a x ≡ b x) (omega (arith, run.nonempty)) (same (r.1 - 1) (omega (arith, lt, run.nonempty))) in
          let behind = same r.1 lt in
          run.ends lt (subst (λ m. Follows m (a (guest + r.1))) (sym last) (subst (λ m. Follows (b (guest + r.1 - 1)) m) (sym behind) on));
    }

-- A run that is longer by one cluster.
pub run-more : (guest next : ℕ) (mapped : ℕ → Mapping) → 0 < next → ((k : ℕ) → k + 1 < next → Follows (mapped (guest + k)) (mapped (guest + k + 1))) → Follows (mapped (guest + next - 1)) (mapped (guest + next))
    → (k : ℕ) → k + 1 < next + 1 → Follows (mapped (guest + k)) (mapped (guest + k + 1))
run-more guest next mapped some each last k lt = elim (cases_lt (k + 1) next) [
  | inl inside ↦ each k inside
  | inr behind ↦
      let here : k ≡ next - 1 = omega (arith, lt, behind) in
      let one : guest + next - 1 ≡ guest + k = omega (arith, here, some) in
      let two : guest + next ≡ guest + k + 1 = omega (arith, here, some) in
      subst (λ x. Follows (mapped (guest + k)) (mapped x)) two (subst (λ x. Follows (mapped x) (mapped (guest + next))) one last)
]

-- A cluster of a range that ends within 64 bits starts within 64 bits.
pub within-word : (g n m p : ℕ) → n < m → (g + m) * p < 2 ^ 64 + p → (g + n) * p < 2 ^ 64
within-word g n m p lt fits =
    let d : ℕ = m - n - 1 in
    let split : g + m ≡ g + n + 1 + d = omega (arith, lt) in
    let product : (g + m) * p ≡ (g + n) * p + p + d * p = ap (λ x. x * p) split ∙ omega arith in
    omega (arith, product, fits)

-- So its number has at most 64 bits.
pub number-word : (g p : ℕ) → 0 < p → g * p < 2 ^ 64 → g < 2 ^ 64
number-word g p some fits =
    let q : ℕ = p - 1 in
    let is : p ≡ q + 1 = omega (arith, some) in
    let product : g * p ≡ g * q + g = ap (λ x. g * x) is ∙ omega arith in
    omega (arith, product, fits)
