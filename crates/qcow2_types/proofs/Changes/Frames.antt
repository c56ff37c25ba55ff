-- The parts of an image that are the same after a change of some bytes.
use Rattle.std.proofs.Common.{◌≡◌, ◌≢◌, ℕ, ◌+◌, ◌*◌, ◌<◌, ◌≤◌, refl, arith, ap, List, length, inl, inr}
use Rattle.std.specs.Prelude.{false, cond, nat_lt}
use Rattle.std.proofs.lemmas.Bool.{cases_lt, le-ltb}
use Rattle.std.proofs.lemmas.Bool.Decides.{nat_tests}
use Rattle.std.proofs.Math.Nat.{div-mul-le_self, mul-le-mul_right}
use Rattle.qcow2_types.specs.Bytes.{Bytes, raw_entry, splice, sum_below}
use Rattle.qcow2_types.specs.Words.{table_offset, block_offset}
use Rattle.qcow2_types.specs.Header.{Fields, cluster_size, entries_of_cluster, refcount_table_entries}
use Rattle.qcow2_types.specs.Entries.{l2_table}
use Rattle.qcow2_types.specs.Counts.{block_at}
use Rattle.qcow2_types.specs.References.{Weight, structure, of_cluster, meets}
use Rattle.qcow2_types.proofs.Numbers.Sums.{term-le-sum}
use Rattle.qcow2_types.proofs.Numbers.Splices.{splice-outside, be-same}
use Rattle.qcow2_types.specs.Frames.{touches, Same, Outside}

-- a splice changes only its own bytes
pub splice-is-outside : (f : Bytes) (at : ℕ) (bytes : List ℕ) → Outside f (splice f at bytes) at (length bytes)
splice-is-outside f at bytes p = splice-outside f at bytes p

-- a range that isn't touched is the same
pub untouched : (f g : Bytes) (at n first length : ℕ) → Outside f g at n → touches at n first length ≡ 0 → Same f g first length
unfolding touches
untouched f g at n first length out none k lt = elim (cases_lt first (at + n)) [
  | inl before ↦ elim (cases_lt at (first + length)) [
    | inl after ↦ absurd (grind (arith, nat_tests))
    | inr le ↦ out (first + k) (inl (omega arith))
  ]
  | inr le ↦ out (first + k) (inr (omega arith))
]

-- the bytes inside cluster c touch only ranges that have a byte in c
pub touches-cluster : (h : Fields) (c at n : ℕ) → c * cluster_size h ≤ at → at + n ≤ (c + 1) * cluster_size h → (first length : ℕ) → touches at n first length ≤ meets h c first length
unfolding touches
touches-cluster h c at n low high first length = grind (arith, nat_tests)

-- The weight of the cluster at an offset other than 0.
of_cluster-there : (h : Fields) (w : Weight) (offset : ℕ) → offset ≢ 0 → of_cluster h w offset ≡ w offset (cluster_size h)
of_cluster-there h w offset there = grind (arith, nat_tests)

-- the header's weight, and likewise that of each other part, is at most the structure's
pub header-part : (f : Bytes) (h : Fields) (w : Weight) → w 0 (cluster_size h) ≤ structure f h w
unfolding structure
header-part f h w = omega arith

pub l1-part : (f : Bytes) (h : Fields) (w : Weight) → w h.l1_offset (h.l1_entries * 8) ≤ structure f h w
unfolding structure
l1-part f h w = omega arith

pub refcount_table-part : (f : Bytes) (h : Fields) (w : Weight) → w h.refcount_table_offset (h.refcount_table_clusters * cluster_size h) ≤ structure f h w
unfolding structure
refcount_table-part f h w = omega arith

pub block-part : (f : Bytes) (h : Fields) (w : Weight) (i : ℕ) → i < refcount_table_entries h → block_at f h i ≢ 0 → w (block_at f h i) (cluster_size h) ≤ structure f h w
unfolding structure
block-part f h w i lt there =
    let here : of_cluster h w (block_at f h i) ≡ w (block_at f h i) (cluster_size h) = of_cluster-there h w (block_at f h i) there in
    let term : of_cluster h w (block_at f h i) ≤ sum_below (refcount_table_entries h) (λ k. of_cluster h w (block_at f h k)) = term-le-sum _ i (λ k. of_cluster h w (block_at f h k)) lt in
    omega arith

pub l2-part : (f : Bytes) (h : Fields) (w : Weight) (i : ℕ) → i < h.l1_entries → l2_table f h i ≢ 0 → w (l2_table f h i) (cluster_size h) ≤ structure f h w
unfolding structure
l2-part f h w i lt there =
    let here : of_cluster h w (l2_table f h i) ≡ w (l2_table f h i) (cluster_size h) = of_cluster-there h w (l2_table f h i) there in
    let term : of_cluster h w (l2_table f h i) ≤ sum_below h.l1_entries (λ k. of_cluster h w (l2_table f h k)) = term-le-sum _ i (λ k. of_cluster h w (l2_table f h k)) lt in
    omega arith

-- the entries in equal bytes are equal
pub word-same : (f g : Bytes) (table size i : ℕ) → Same f g table size → 8 * i + 8 ≤ size → raw_entry g table i ≡ raw_entry f table i
unfolding raw_entry
word-same f g table size i same fits = be-same g f (table + 8 * i) (table + 8 * i) 8 (λ k lt. let place : table + (8 * i + k) ≡ table + 8 * i + k = omega arith in rw place at (same (8 * i + k) (omega arith)))

-- equal L1 tables reference the same L2 tables
pub l2_table-same : (f g : Bytes) (h : Fields) → Same f g h.l1_offset (h.l1_entries * 8) → (i : ℕ) → l2_table g h i ≡ l2_table f h i
l2_table-same f g h same i = elim (cases_lt i h.l1_entries) [
  | inl lt ↦ ap (λ w. cond (nat_lt i h.l1_entries) (table_offset w) 0) (word-same f g h.l1_offset (h.l1_entries * 8) i same (omega arith))
  | inr le ↦ let past : nat_lt i h.l1_entries ≡ false = le-ltb _ _ le in rw past refl
]

-- a refcount table entry is inside the table
pub entries-fit : (h : Fields) (i : ℕ) → i < refcount_table_entries h → 8 * i + 8 ≤ h.refcount_table_clusters * cluster_size h
entries-fit h i lt =
    let whole : entries_of_cluster h * 8 ≤ cluster_size h = div-mul-le_self (cluster_size h) 8 in
    let all : entries_of_cluster h * 8 * h.refcount_table_clusters ≤ cluster_size h * h.refcount_table_clusters = mul-le-mul_right h.refcount_table_clusters whole in
    omega arith

-- equal refcount tables reference the same blocks
pub block_at-same : (f g : Bytes) (h : Fields) → Same f g h.refcount_table_offset (h.refcount_table_clusters * cluster_size h) → (i : ℕ) → block_at g h i ≡ block_at f h i
block_at-same f g h same i = elim (cases_lt i (refcount_table_entries h)) [
  | inl lt ↦ ap (λ w. cond (nat_lt i (refcount_table_entries h)) (block_offset w) 0) (word-same f g h.refcount_table_offset (h.refcount_table_clusters * cluster_size h) i same (entries-fit h i lt))
  | inr le ↦ let past : nat_lt i (refcount_table_entries h) ≡ false = le-ltb _ _ le in rw past refl
]
