-- Sums over the ranges that an image references, and the clusters after all of them.
use Rattle.std.proofs.Common.{◌≡◌, ℕ, ◌+◌, ◌*◌, ◌≤◌, arith}
use Rattle.std.specs.Prelude.{Bool, true, false, cond, nat_lt, ◌==◌, if◌then◌else◌, Some, None}
use Rattle.std.proofs.Math.Nat.{mul-le-mul_right}
use Rattle.std.proofs.lemmas.Bool.Decides.{nat_tests}
use Rattle.qcow2_types.specs.Bytes.{Bytes, sum_below}
use Rattle.qcow2_types.specs.Words.{Mapping, data_at, zeroes, packed, unmapped, damaged}
use Rattle.qcow2_types.specs.Header.{Fields, cluster_size, refcount_table_entries}
use Rattle.qcow2_types.specs.Entries.{l2_table, l2_mapping}
use Rattle.qcow2_types.specs.Counts.{block_at}
use Rattle.qcow2_types.specs.References.{Weight, of_cluster, structure, of_table, contents, of_mapping, of_copied, meets, refs}
use Rattle.qcow2_types.proofs.Numbers.Sums.{sum-mono}

-- 1 if the range ends after this offset, otherwise 0
unfoldable pub past : ℕ → Weight
past end first length = if nat_lt end (first + length) then 1 else 0

cond-mono : (b : Bool) (x y : ℕ) → x ≤ y → cond b 0 x ≤ cond b 0 y
cond-mono true x y h = omega arith
cond-mono false x y h = h

-- sums are monotonic in the weight: over the structure, over all mappings, and for one mapping
pub structure-mono : (f : Bytes) (h : Fields) (w v : Weight) → ((a l : ℕ) → w a l ≤ v a l) → structure f h w ≤ structure f h v
unfolding structure
structure-mono f h w v le =
    let first : w 0 (cluster_size h) ≤ v 0 (cluster_size h) = le _ _ in
    let l1 : w h.l1_offset (h.l1_entries * 8) ≤ v h.l1_offset (h.l1_entries * 8) = le _ _ in
    let table : w h.refcount_table_offset (h.refcount_table_clusters * cluster_size h) ≤ v h.refcount_table_offset (h.refcount_table_clusters * cluster_size h) = le _ _ in
    let blocks : sum_below (refcount_table_entries h) (λ i. of_cluster h w (block_at f h i)) ≤ sum_below (refcount_table_entries h) (λ i. of_cluster h v (block_at f h i)) =
    sum-mono _ _ _ (λ i lt. cond-mono (block_at f h i == 0) _ _ (le _ _)) in
    let tables : sum_below h.l1_entries (λ i. of_cluster h w (l2_table f h i)) ≤ sum_below h.l1_entries (λ i. of_cluster h v (l2_table f h i)) =
    sum-mono _ _ _ (λ i lt. cond-mono (l2_table f h i == 0) _ _ (le _ _)) in
    omega arith

pub contents-mono : (f : Bytes) (h : Fields) (of of' : Mapping → ℕ) → ((m : Mapping) → of m ≤ of' m) → contents f h of ≤ contents f h of'
unfolding contents of_table
contents-mono f h of of' le = sum-mono _ _ _ (λ i lt. cond-mono (l2_table f h i == 0) _ _ (sum-mono _ _ _ (λ j less. le (l2_mapping f h (l2_table f h i) j))))

pub of_mapping-mono : (h : Fields) (w v : Weight) → ((a l : ℕ) → w a l ≤ v a l) → (m : Mapping) → of_mapping h w m ≤ of_mapping h v m
of_mapping-mono h w v le (data_at cluster copied) = le _ _
of_mapping-mono h w v le (zeroes (Some cluster) copied) = le _ _
of_mapping-mono h w v le (zeroes None copied) = omega arith
of_mapping-mono h w v le (packed offset length) = le _ _
of_mapping-mono h w v le unmapped = omega arith
of_mapping-mono h w v le damaged = omega arith

-- a range referenced with the COPIED flag is referenced
pub copied-named : (h : Fields) (w : Weight) (m : Mapping) → of_copied h w m ≤ of_mapping h w m
copied-named h w (data_at cluster true) = omega arith
copied-named h w (data_at cluster false) = omega arith
copied-named h w (zeroes (Some cluster) true) = omega arith
copied-named h w (zeroes (Some cluster) false) = omega arith
copied-named h w (zeroes None true) = omega arith
copied-named h w (zeroes None false) = omega arith
copied-named h w (packed offset length) = omega arith
copied-named h w unmapped = omega arith
copied-named h w damaged = omega arith

-- a range that meets a cluster from b on ends after the start of b
meets-past : (h : Fields) (b c : ℕ) → b ≤ c → (a l : ℕ) → meets h c a l ≤ past (b * cluster_size h) a l
unfolding past
meets-past h b c le a l =
    let low : b * cluster_size h ≤ c * cluster_size h = mul-le-mul_right (cluster_size h) le in
    grind (arith, nat_tests)

-- the number of referenced ranges that end after the first b clusters
unfoldable pub reaching : Bytes → Fields → ℕ → ℕ
reaching f h b = structure f h (past (b * cluster_size h)) + contents f h (of_mapping h (past (b * cluster_size h)))

-- if no range does, no cluster from b on is referenced
pub refs-beyond : (f : Bytes) (h : Fields) (b : ℕ) → reaching f h b ≡ 0 → (c : ℕ) → b ≤ c → refs f h c ≡ 0
unfolding refs reaching
refs-beyond f h b none c le =
    let s : structure f h (meets h c) ≤ structure f h (past (b * cluster_size h)) = structure-mono f h (meets h c) (past (b * cluster_size h)) (meets-past h b c le) in
    let t : contents f h (of_mapping h (meets h c)) ≤ contents f h (of_mapping h (past (b * cluster_size h))) =
    contents-mono f h _ _ (of_mapping-mono h (meets h c) (past (b * cluster_size h)) (meets-past h b c le)) in
    omega arith

-- the structure's references and the COPIED references are among all references
pub structure-le-refs : (f : Bytes) (h : Fields) (c : ℕ) → structure f h (meets h c) ≤ refs f h c
unfolding refs
structure-le-refs f h c = omega arith

pub copied-le-refs : (f : Bytes) (h : Fields) (c : ℕ) → contents f h (of_copied h (meets h c)) ≤ refs f h c
unfolding refs
copied-le-refs f h c =
    let t : contents f h (of_copied h (meets h c)) ≤ contents f h (of_mapping h (meets h c)) = contents-mono f h _ _ (copied-named h (meets h c)) in
    omega arith
