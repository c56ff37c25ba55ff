-- The references of both versions, with the cached entries given by a function; and changes that cover several clusters.
use Rattle.std.proofs.Common.{◌≡◌, ℕ, zero, suc, ◌+◌, ◌*◌, ◌≤◌, refl, arith, ap, ◌∙◌}
use Rattle.std.specs.Prelude.{Bool, true, false, cond, ◌==◌}
use Rattle.std.proofs.lemmas.Bool.Decides.{nat_tests}
use Rattle.qcow2_types.specs.Bytes.{Bytes, sum_below}
use Rattle.qcow2_types.specs.Words.{Mapping}
use Rattle.qcow2_types.specs.Header.{Fields, cluster_size, refcount_table_entries}
use Rattle.qcow2_types.specs.Entries.{l2_table}
use Rattle.qcow2_types.specs.Counts.{block_at}
use Rattle.qcow2_types.specs.References.{Weight, structure, of_cluster, meets}
use Rattle.qcow2_types.proofs.Counting.Named.{structure-mono}
use Rattle.qcow2_types.proofs.Numbers.Sums.{sum-same}
use Rattle.qcow2_types.proofs.Changes.Frames.{touches-cluster}
use Rattle.qcow2_types.specs.Frames.{touches}
use Rattle.qcow2_types.specs.Slots.{slot, over_slots}
use Rattle.qcow2_types.specs.Versions.{of_either}

-- `references_in_either`, with the cached mappings by table and entry
unfoldable pub named_by : Bytes → (ℕ → ℕ → Mapping) → Fields → ℕ → ℕ
named_by f cached h c = structure f h (meets h c) + over_slots (l2_table f h) h (λ i j. of_either h (meets h c) (slot f h i j) (cached i j))

sum-plus : (n : ℕ) (f g : ℕ → ℕ) → sum_below n (λ i. f i + g i) ≡ sum_below n f + sum_below n g
unfolding sum_below
sum-plus zero f g = refl
sum-plus (suc n) f g = let below : sum_below n (λ i. f i + g i) ≡ sum_below n f + sum_below n g = sum-plus n f g in omega arith

of_cluster-plus : (h : Fields) (w v : Weight) (offset : ℕ) → of_cluster h (λ a l. w a l + v a l) offset ≡ of_cluster h w offset + of_cluster h v offset
of_cluster-plus h w v offset = split (offset == 0) _ _
  where
    split : (b : Bool) (x y : ℕ) → cond b 0 (x + y) ≡ cond b 0 x + cond b 0 y
    split true x y = refl
    split false x y = refl

pub structure-plus : (f : Bytes) (h : Fields) (w v : Weight) → structure f h (λ a l. w a l + v a l) ≡ structure f h w + structure f h v
unfolding structure
structure-plus f h w v =
    let blocks : sum_below (refcount_table_entries h) (λ i. of_cluster h (λ a l. w a l + v a l) (block_at f h i)) ≡ sum_below (refcount_table_entries h) (λ i. of_cluster h w (block_at f h i) + of_cluster h v (block_at f h i)) =
    sum-same _ _ _ (λ i lt. of_cluster-plus h w v (block_at f h i)) in
    let tables : sum_below h.l1_entries (λ i. of_cluster h (λ a l. w a l + v a l) (l2_table f h i)) ≡ sum_below h.l1_entries (λ i. of_cluster h w (l2_table f h i) + of_cluster h v (l2_table f h i)) =
    sum-same _ _ _ (λ i lt. of_cluster-plus h w v (l2_table f h i)) in
    let b : sum_below (refcount_table_entries h) (λ i. of_cluster h w (block_at f h i) + of_cluster h v (block_at f h i)) ≡ sum_below (refcount_table_entries h) (λ i. of_cluster h w (block_at f h i)) + sum_below (refcount_table_entries h) (λ i. of_cluster h v (block_at f h i)) = sum-plus _ _ _ in
    let t : sum_below h.l1_entries (λ i. of_cluster h w (l2_table f h i) + of_cluster h v (l2_table f h i)) ≡ sum_below h.l1_entries (λ i. of_cluster h w (l2_table f h i)) + sum_below h.l1_entries (λ i. of_cluster h v (l2_table f h i)) = sum-plus _ _ _ in
    omega arith

-- a range that is touched is touched in the first n bytes or in the rest
touches-split : (at n m first length : ℕ) → touches at (n + m) first length ≤ touches at n first length + touches (at + n) m first length
unfolding touches
touches-split at n m first length = grind (arith, nat_tests)

-- a cluster without structure touches no part
touches-empty : (f : Bytes) (h : Fields) (c : ℕ) → structure f h (meets h c) ≡ 0 → structure f h (touches (c * cluster_size h) (cluster_size h)) ≡ 0
touches-empty f h c none =
    let le : structure f h (touches (c * cluster_size h) (cluster_size h)) ≤ structure f h (meets h c) = structure-mono f h _ _ (touches-cluster h c (c * cluster_size h) (cluster_size h) (omega arith) (omega arith)) in
    omega arith

-- A run of k + 1 clusters without a header, a table or a block touches no part.
pub run-untouched : (f : Bytes) (h : Fields) (c k : ℕ) → ((d : ℕ) → c ≤ d → d ≤ c + k → structure f h (meets h d) ≡ 0) → structure f h (touches (c * cluster_size h) ((k + 1) * cluster_size h)) ≡ 0
run-untouched f h c zero none = let one : (0 + 1) * cluster_size h ≡ cluster_size h = omega arith in rw one (touches-empty f h c (none c (omega arith) (omega arith)))
run-untouched f h c (suc k) none =
    let s : ℕ = cluster_size h in
    let front : structure f h (touches (c * cluster_size h) ((k + 1) * cluster_size h)) ≡ 0 = run-untouched f h c k (λ d low high. none d low (omega arith)) in
    let last : structure f h (touches ((c + k + 1) * cluster_size h) (cluster_size h)) ≡ 0 = touches-empty f h (c + k + 1) (none (c + k + 1) (omega arith) (omega arith)) in
    let place : c * cluster_size h + (k + 1) * cluster_size h ≡ (c + k + 1) * cluster_size h = omega arith in
    let size : (k + 1) * cluster_size h + cluster_size h ≡ (suc k + 1) * cluster_size h = omega arith in
    let le : structure f h (touches (c * cluster_size h) ((k + 1) * cluster_size h + cluster_size h)) ≤ structure f h (λ a l. touches (c * cluster_size h) ((k + 1) * cluster_size h) a l + touches (c * cluster_size h + (k + 1) * cluster_size h) (cluster_size h) a l) =
    structure-mono f h _ _ (touches-split (c * cluster_size h) ((k + 1) * cluster_size h) (cluster_size h)) in
    let e = structure-plus f h (touches (c * cluster_size h) ((k + 1) * cluster_size h)) (touches (c * cluster_size h + (k + 1) * cluster_size h) (cluster_size h)) in
    let last' : structure f h (touches (c * cluster_size h + (k + 1) * cluster_size h) (cluster_size h)) ≡ 0 = ap (λ p. structure f h (touches p (cluster_size h))) place ∙ last in
    let all : structure f h (touches (c * cluster_size h) ((k + 1) * cluster_size h + cluster_size h)) ≡ 0 = omega arith in
    rw size at all
