-- Lemmas on the guest clusters that a range covers, and on what a lookup finds of them.
use Rattle.std.proofs.Common.{◌≡◌, ◌⊎◌, inl, inr, ap, sym, subst, arith, ℕ, zero, suc, ◌+◌, ◌-◌, ◌*◌, ◌/◌, ◌%◌, ◌<◌, ◌≤◌, true, false, None, Some}
use Rattle.std.specs.Prelude.{IsTrue, min}
use Rattle.std.proofs.Math.Nat.{add-mul, mul-le-mul_right}
use Rattle.std.proofs.lemmas.Nat.{div-add-mod', mod_below, pow_pos}
use Rattle.imago_storage.specs.declared.storage.Storage.{Ghosts}
use Rattle.imago_access.specs.Changes.{Asked}
use Rattle.qcow2_types.specs.Entries.{entry}
use Rattle.qcow2_types.specs.Header.{Fields, cluster_size, entries_of_cluster}
use Rattle.qcow2_types.specs.Words.{Mapping, damaged, data_at, packed, zeroes}
use Rattle.qcow2_types.specs.Words as mappings
use Rattle.qcow2_image.specs.Holding.{IsUncopied}
use Rattle.qcow2_image.specs.Looking.{Follows}
use Rattle.qcow2_image.specs.Preparing.{CoversMost, IsRun, first_run, run_in}
use Rattle.qcow2_image.specs.Seen.{IsCacheCoherent, file_of}
use Rattle.qcow2_image.specs.declared.qcow2.Qcow2.{Qcow2}

-- A mapping that follows one without a writable location has none either.
follows-uncopied : (a b : Mapping) → Follows a b → IsUncopied a → IsUncopied b
follows-uncopied a (zeroes cluster mark) on is = tt
follows-uncopied a (packed offset length) on is = tt
follows-uncopied a mappings.unmapped on is = tt
follows-uncopied a damaged on is = tt
follows-uncopied (data_at cluster true) (data_at next mark) on is = absurd is
follows-uncopied (data_at cluster false) (data_at next mark) on is = subst (λ m. IsUncopied (data_at next m)) (sym on.1) tt
follows-uncopied (zeroes None mark') (data_at next mark) on is = absurd on
follows-uncopied (zeroes (Some cluster) mark') (data_at next mark) on is = absurd on
follows-uncopied (packed offset length) (data_at next mark) on is = absurd on
follows-uncopied mappings.unmapped (data_at next mark) on is = absurd on
follows-uncopied damaged (data_at next mark) on is = absurd on

run-uncopied : (mapped : ℕ → Mapping) (guest n : ℕ) → ((k : ℕ) → k + 1 < n → Follows (mapped (guest + k)) (mapped (guest + k + 1)))
    → IsUncopied (mapped guest) → (i : ℕ) → i < n → IsUncopied (mapped (guest + i))
run-uncopied mapped guest n each first zero less =
    let same : guest ≡ guest + 0 = omega arith in subst (λ g. IsUncopied (mapped g)) same first
run-uncopied mapped guest n each first (suc i) less =
    let same : guest + i + 1 ≡ guest + suc i = omega arith in
    subst (λ g. IsUncopied (mapped g)) same
    (follows-uncopied (mapped (guest + i)) (mapped (guest + i + 1)) (each i (omega (arith, less)))
    (run-uncopied mapped guest n each first i (omega (arith, less))))

-- A range covers its guest clusters up to the start of the last one.
module _ (h : Fields) (offset length n : ℕ) (inside : offset + length ≤ h.size) (some : 0 < length) (raw_entries : 0 < entries_of_cluster h) (any : 0 < n)
    (most : (n ≡ 1) ⊎ ((offset / cluster_size h + n ≤ (offset + length) / cluster_size h)
    × (offset / cluster_size h % entries_of_cluster h + n ≤ entries_of_cluster h))) where
  abbrev c : ℕ
  c = cluster_size h

  abbrev guest : ℕ
  guest = offset / c

  abbrev end : ℕ
  end = offset + length

  one : 0 < c
  one = pow_pos h.cluster_bits

  pub covers-most : CoversMost h offset length n
  covers-most = record {
    any = any;
    row = elim most [
      | inl single ↦ let below = mod_below guest (entries_of_cluster h) raw_entries in omega (arith, single, below)
      | inr several ↦ several.1
    ];
    inside = elim most [
      | inl single ↦
          let product : (guest + n) * c ≡ guest * c + n * c = add-mul guest n c in
          let once : n * c ≡ 1 * c = subst (λ k. k * c ≡ 1 * c) (sym single) (omega arith) in
          omega (arith, product, once, div-add-mod' offset c, inside, some)
      | inr several ↦
          let le : (guest + n) * c ≤ end / c * c = mul-le-mul_right c several.0 in
          omega (arith, le, div-add-mod' end c, inside, one)
    ];
    all = λ i low high p at. elim most [
      | inl single ↦ absurd (omega (arith, single, low, high))
      | inr several ↦
          let from : (guest + 1) * c ≤ p / c * c = mul-le-mul_right c (omega (arith, at, low)) in
          let product : (guest + 1) * c ≡ guest * c + c = omega arith in
          let rest = mod_below offset c one in
          let to : (p / c + 1) * c ≤ end / c * c = mul-le-mul_right c (omega (arith, at, high, several.0)) in
          let product' : (p / c + 1) * c ≡ p / c * c + c = omega arith in
          let rest' = mod_below p c one in (
            omega (arith, from, product, div-add-mod' p c, div-add-mod' offset c, rest),
            omega (arith, to, product', div-add-mod' p c, rest', div-add-mod' end c),
          )
    ];
  }

pub one-cluster : (h : Fields) (offset length : ℕ) → run_in h 1 offset length ≡ first_run h offset length
one-cluster h offset length =
    let same : 1 * cluster_size h ≡ cluster_size h = omega arith in ap (λ c. min length (c - offset % cluster_size h)) same

-- A run of the clusters that are covered, and a run of one.
module _ {S : Type 0} (g : Ghosts S) (asked : Asked) (d : Qcow2 S g) (most : ℕ) (covers : CoversMost d.tables.file.header.fields asked.offset asked.length most) where
  abbrev first : ℕ
  first = asked.offset / cluster_size d.tables.file.header.fields

  pub run-one : IsRun g asked 1 d
  run-one = record {
    any = omega arith;
    row = let fits = covers.row in let any = covers.any in omega (arith, fits, any);
    covered = λ i low high. absurd (omega (arith, low, high));
    uncopied = λ seen is i less.
        let same : first ≡ first + i = omega (arith, less) in
        subst (λ x. IsUncopied (entry (file_of g d.tables) d.tables.file.header.fields x)) same is;
  }

  pub run-found : IsTrue asked.overwrite → (n : ℕ) → 0 < n → n ≤ most
      → (IsCacheCoherent g d.tables → (k : ℕ) → k + 1 < n → Follows (entry (file_of g d.tables) d.tables.file.header.fields (first + k))
      (entry (file_of g d.tables) d.tables.file.header.fields (first + k + 1))) → IsRun g asked n d
  run-found over n any few each = record {
    any = any;
    row = let fits = covers.row in omega (arith, fits, few);
    covered = λ i low high. record { overwrite = over; all = covers.all i low (omega (arith, high, few)) };
    uncopied = λ seen is. run-uncopied (entry (file_of g d.tables) d.tables.file.header.fields) first n (each seen) is;
  }
