-- The number of occurrences of a cluster on a free list, as the list changes.
use Rattle.std.proofs.Common.{◌≡◌, ℕ, ◌+◌, ◌*◌, ◌<◌, ◌≤◌, arith, inl, inr, List, [], ◌∷◌, ◌++◌, length}
use Rattle.std.specs.Prelude.{◌==◌, if◌then◌else◌}
use Rattle.std.specs.List.{remove}
use Rattle.std.proofs.lemmas.Bool.{cases_lt}
use Rattle.std.proofs.lemmas.Bool.Decides.{nat_tests}
use Rattle.std.proofs.lemmas.List.Sums.{sum_by_push, sum_by-remove, sum_by-set}
use Rattle.std.proofs.lemmas.Nat.{pow_pos}
use Rattle.std.proofs.Math.Nat.{mul-le-mul_right, mul-lt-mul_of_pos_right}
use Rattle.qcow2_types.specs.Header.{Fields, cluster_size}
use Rattle.qcow2_types.specs.References.{meets}
use Rattle.qcow2_types.specs.Pending.{FreeEntry}
use Rattle.qcow2_alloc.specs.FreeList.{entry_at, shorter, tail_of, shortened, covers, listed}

pub listed_push : (entries : List FreeEntry) (e : FreeEntry) (c : ℕ) → listed (entries ++ e ∷ []) c ≡ listed entries c + covers c e
listed_push entries e c = sum_by_push (covers c) entries e

pub listed-remove : (entries : List FreeEntry) (index c : ℕ) → index < length entries → listed (remove entries index) c + covers c (entry_at entries index) ≡ listed entries c
listed-remove entries index c inside = sum_by-remove (covers c) entries index _ inside

pub covers-none : (c : ℕ) (e : FreeEntry) → e.count ≡ 0 → covers c e ≡ 0
covers-none c e none = grind (arith, nat_tests)

pub covers-one : (c : ℕ) (e : FreeEntry) → e.count ≡ 1 → covers c e ≡ (if c == e.first then 1 else 0)
covers-one c e one = grind (arith, nat_tests)

pub covers-parts : (e : FreeEntry) (n c : ℕ) → n ≤ e.count → covers c (shorter e n) + covers c (tail_of e n) ≡ covers c e
covers-parts e n c enough = grind (arith, nat_tests)

pub listed-shortened : (entries : List FreeEntry) (index n c : ℕ) → index < length entries → n ≤ (entry_at entries index).count → listed (shortened entries index n) c + covers c (tail_of (entry_at entries index) n) ≡ listed entries c
listed-shortened entries index n c inside enough =
    let whole = entry_at entries index in
    let set : listed (shortened entries index n) c + covers c whole ≡ listed entries c + covers c (shorter whole n) = sum_by-set (covers c) entries index (shorter whole n) _ inside in
    let parts : covers c (shorter whole n) + covers c (tail_of whole n) ≡ covers c whole = covers-parts whole n c enough in
    omega (arith, set, parts)

pub covers-meets : (h : Fields) (c : ℕ) (e : FreeEntry) → covers c e ≡ meets h c (e.first * cluster_size h) (e.count * cluster_size h)
covers-meets h c e =
    let some : 0 < cluster_size h = pow_pos h.cluster_bits in
    elim (cases_lt c e.first) [
      | inl before ↦
          let next : c + 1 ≤ e.first = omega arith in
          let far : (c + 1) * cluster_size h ≤ e.first * cluster_size h = mul-le-mul_right (cluster_size h) next in
          grind (arith, nat_tests)
      | inr from ↦ elim (cases_lt c (e.first + e.count)) [
        | inl inside ↦
            let first : e.first * cluster_size h ≤ c * cluster_size h = mul-le-mul_right (cluster_size h) from in
            let last : c * cluster_size h < (e.first + e.count) * cluster_size h = mul-lt-mul_of_pos_right inside some in
            grind (arith, nat_tests)
        | inr behind ↦
            let far : (e.first + e.count) * cluster_size h ≤ c * cluster_size h = mul-le-mul_right (cluster_size h) behind in
            grind (arith, nat_tests)
      ]
    ]
