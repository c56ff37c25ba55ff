-- Each range that an image references ends at or before byte 2^57, so only finitely many clusters are referenced.
use Rattle.std.proofs.Common.{◌≡◌, ℕ, zero, suc, ◌+◌, ◌-◌, ◌*◌, ◌/◌, ◌%◌, ◌^◌, ◌<◌, ◌≤◌, refl, arith, Some, None, Ok}
use Rattle.std.specs.Prelude.{Bool, true, false, cond, ◌||◌, not, nat_lt, nat_le, ◌==◌, ⊤}
use Rattle.std.proofs.Math.Nat.{div-mul-le_self, pow-le-pow_right}
use Rattle.std.proofs.lemmas.Nat.{mod_below, pow_pos}
use Rattle.std.proofs.lemmas.Bool.{le-ltb, lt-ltb}
use Rattle.std.proofs.lemmas.Bool.Decides.{nat_tests}
use Rattle.qcow2_types.specs.Bytes.{Bytes, raw_entry, sum_below}
use Rattle.qcow2_types.specs.Words.{Layout, Mapping, data_at, zeroes, packed, unmapped, damaged, mapping_of, has_bit, table_offset, reftable_entry_valid, max_offset, compressed_offset, compressed_sectors, compressed_end, names_cluster, standard_entry_valid, is_cluster_offset}
use Rattle.qcow2_types.specs.Header.{Header, Shaped, Limited, header_of, Fields, cluster_size, refcount_table_entries, layout_of}
use Rattle.qcow2_types.specs.Entries.{l2_table, l2_mapping}
use Rattle.qcow2_types.specs.Counts.{block_at, refcount_table_sound}
use Rattle.qcow2_types.specs.References.{of_cluster, structure, of_table, contents, of_mapping, meets, refs}
use Rattle.qcow2_types.proofs.Counting.Bounded.{all-below}
use Rattle.qcow2_types.proofs.Counting.Counters.{whole}
use Rattle.qcow2_types.proofs.Fields.HeaderLimits.{fields-shaped, header-limited}
use Rattle.qcow2_types.proofs.Numbers.Reach.{sectors_fit}

-- a property of both branches
choose : (P : Mapping → Type 0) (b : Bool) (x y : Mapping) → (b ≡ true → P x) → (b ≡ false → P y) → P (cond b x y)
choose P true x y p q = p refl
choose P false x y p q = q refl

pub sum-zero : (n : ℕ) (f : ℕ → ℕ) → ((i : ℕ) → i < n → f i ≡ 0) → sum_below n f ≡ 0
unfolding sum_below
sum-zero zero f none = refl
sum-zero (suc n) f none =
    let here : f n ≡ 0 = none n (omega arith) in
    let below : sum_below n f ≡ 0 = sum-zero n f (λ i lt. none i (omega arith)) in
    omega arith

-- the host range of a mapping ends at or before 2^57
abbrev pub Within : ℕ → Mapping → Type 0
Within cluster_bits (data_at cluster copied) = cluster * 2 ^ cluster_bits + 2 ^ cluster_bits ≤ 2 ^ 57
Within cluster_bits (zeroes (Some cluster) copied) = cluster * 2 ^ cluster_bits + 2 ^ cluster_bits ≤ 2 ^ 57
Within cluster_bits (zeroes None copied) = ⊤
Within cluster_bits (packed offset length) = offset + length ≤ 2 ^ 57
Within cluster_bits unmapped = ⊤
Within cluster_bits damaged = ⊤

-- the offset of an entry is below 2^56
table-below : (w : ℕ) → table_offset w < 2 ^ 56
table-below w = let few : w / 2 ^ 9 % 2 ^ 47 < 2 ^ 47 = mod_below (w / 2 ^ 9) (2 ^ 47) (pow_pos 47) in omega arith

-- a cluster has at most 2^21 bytes
size-below : (k : ℕ) → k ≤ 21 → 2 ^ k ≤ 2 ^ 21
size-below k few = pow-le-pow_right (omega arith) few

-- the cluster of a standard entry
standard-within : (w k : ℕ) → k ≤ 21 → table_offset w / 2 ^ k * 2 ^ k + 2 ^ k ≤ 2 ^ 57
standard-within w k few =
    let low : table_offset w / 2 ^ k * 2 ^ k ≤ table_offset w = div-mul-le_self (table_offset w) (2 ^ k) in
    let high : table_offset w < 2 ^ 56 = table-below w in
    let size : 2 ^ k ≤ 2 ^ 21 = size-below k few in
    omega arith

-- a preallocated zero cluster
zeroes-within : (w k : ℕ) (b copied : Bool) → k ≤ 21 → Within k (zeroes (cond b (Some (table_offset w / 2 ^ k)) None) copied)
zeroes-within w k true copied few = standard-within w k few
zeroes-within w k false copied few = tt

-- the range of a compressed entry
packed-within : (w k : ℕ) → k ≤ 21 → compressed_offset k w < 2 ^ 56 → compressed_offset k w + (compressed_end k w - compressed_offset k w) ≤ 2 ^ 57
packed-within w k few low =
    let sectors : compressed_sectors k w < 2 ^ 13 = sectors_fit w (70 - k) k few in
    omega arith

-- the range that an entry references ends at or before 2^57
pub mapping-within : (layout : Layout) (w : ℕ) → layout.cluster_bits ≤ 21 → Within layout.cluster_bits (mapping_of layout w)
unfolding mapping_of
mapping-within layout w few =
    let P : Mapping → Type 0 = Within layout.cluster_bits in
    choose P (has_bit w 62) _ _
    (λ _. choose P (has_bit w 63 || nat_le (2 ^ 56) (compressed_offset layout.cluster_bits w)) _ _ (λ _. tt)
    (λ sound. packed-within w layout.cluster_bits few (grind (arith, nat_tests))))
    (λ _. choose P (not (standard_entry_valid layout w)) _ _ (λ _. tt)
    (λ _. choose P (has_bit w 0) _ _ (λ _. zeroes-within w layout.cluster_bits (names_cluster layout w) _ few)
    (λ _. choose P (names_cluster layout w) _ _ (λ _. standard-within w layout.cluster_bits few) (λ _. tt))))

module _ (f : Bytes) (h : Fields) (c : ℕ) (few : h.cluster_bits ≤ 21) (far : 2 ^ 57 ≤ c * cluster_size h) where
  -- a range that ends at or before 2^57 doesn't meet c
  apart : (first length : ℕ) → first + length ≤ 2 ^ 57 → meets h c first length ≡ 0
  apart first length near = let past : nat_lt (c * cluster_size h) (first + length) ≡ false = le-ltb _ _ (omega arith) in grind (arith, nat_tests)

  -- the range of a mapping doesn't meet c
  mapping-apart : (m : Mapping) → Within h.cluster_bits m → of_mapping h (meets h c) m ≡ 0
  mapping-apart (data_at cluster copied) near = apart (cluster * cluster_size h) (cluster_size h) near
  mapping-apart (zeroes (Some cluster) copied) near = apart (cluster * cluster_size h) (cluster_size h) near
  mapping-apart (zeroes None copied) near = refl
  mapping-apart (packed offset length) near = apart offset length near
  mapping-apart unmapped near = refl
  mapping-apart damaged near = refl

  or-zero : (b : Bool) (x : ℕ) → x ≡ 0 → cond b 0 x ≡ 0
  or-zero true x e = refl
  or-zero false x e = e

  -- no mapping references c
  pub contents-apart : contents f h (of_mapping h (meets h c)) ≡ 0
  unfolding contents of_table
  contents-apart = sum-zero _ _ (λ i lt. or-zero (l2_table f h i == 0) _ (sum-zero _ _ (λ j less. mapping-apart (l2_mapping f h (l2_table f h i) j) (mapping-within (layout_of h) (raw_entry f (l2_table f h i) j) few))))

  -- no cluster at a valid offset meets c
  cluster-apart : (offset : ℕ) → offset ≤ max_offset → of_cluster h (meets h c) offset ≡ 0
  cluster-apart offset near = let size : 2 ^ h.cluster_bits ≤ 2 ^ 21 = size-below h.cluster_bits few in or-zero (offset == 0) _ (apart offset (cluster_size h) (omega arith))

  -- L2 tables are at valid offsets
  l2-near : (i : ℕ) → l2_table f h i ≤ max_offset
  l2-near i =
      let few' : raw_entry f h.l1_offset i / 2 ^ 9 % 2 ^ 47 < 2 ^ 47 = mod_below _ (2 ^ 47) (pow_pos 47) in
      pick (nat_lt i h.l1_entries) (table_offset (raw_entry f h.l1_offset i)) (omega arith)
    where
      pick : (b : Bool) (x : ℕ) → x ≤ max_offset → cond b x 0 ≤ max_offset
      pick true x le = le
      pick false x le = omega arith

  -- no part of the structure meets c
  pub structure-apart : h.l1_entries ≤ 2 ^ 22 → h.l1_offset ≤ max_offset → h.refcount_table_offset ≤ max_offset → h.refcount_table_clusters * cluster_size h ≤ 2 ^ 23
      → ((i : ℕ) → i < refcount_table_entries h → block_at f h i ≤ max_offset) → structure f h (meets h c) ≡ 0
  unfolding structure
  structure-apart entries l1 table clusters blocks =
      let size : 2 ^ h.cluster_bits ≤ 2 ^ 21 = size-below h.cluster_bits few in
      let a : meets h c 0 (cluster_size h) ≡ 0 = apart 0 (cluster_size h) (omega arith) in
      let b : meets h c h.l1_offset (h.l1_entries * 8) ≡ 0 = apart h.l1_offset (h.l1_entries * 8) (omega arith) in
      let d : meets h c h.refcount_table_offset (h.refcount_table_clusters * cluster_size h) ≡ 0 = apart h.refcount_table_offset (h.refcount_table_clusters * cluster_size h) (omega arith) in
      let e : sum_below (refcount_table_entries h) (λ i. of_cluster h (meets h c) (block_at f h i)) ≡ 0 = sum-zero _ _ (λ i lt. cluster-apart (block_at f h i) (blocks i lt)) in
      let g : sum_below h.l1_entries (λ i. of_cluster h (meets h c) (l2_table f h i)) ≡ 0 = sum-zero _ _ (λ i lt. cluster-apart (l2_table f h i) (l2-near i)) in
      omega arith

-- the blocks of a valid refcount table are at valid offsets
pub blocks-near : (f : Bytes) (h : Fields) → refcount_table_sound f h ≡ true → (i : ℕ) → i < refcount_table_entries h → block_at f h i ≤ max_offset
unfolding refcount_table_sound
blocks-near f h sound i lt =
    let here : reftable_entry_valid h.cluster_bits (raw_entry f h.refcount_table_offset i) ≡ true = all-below (refcount_table_entries h) (λ j. reftable_entry_valid h.cluster_bits (raw_entry f h.refcount_table_offset j)) sound i lt in
    let within : nat_lt i (refcount_table_entries h) ≡ true = lt-ltb _ _ lt in
    rw within (grind (arith, nat_tests))

-- No cluster at or after byte 2^57 is referenced.
pub refs-limit : (f : Bytes) (h : Fields) (c : ℕ) → h.cluster_bits ≤ 21 → 2 ^ 57 ≤ c * cluster_size h → h.l1_entries ≤ 2 ^ 22 → h.l1_offset ≤ max_offset → h.refcount_table_offset ≤ max_offset
    → h.refcount_table_clusters * cluster_size h ≤ 2 ^ 23 → refcount_table_sound f h ≡ true → refs f h c ≡ 0
unfolding refs
refs-limit f h c few far entries l1 table clusters sound =
    let s : structure f h (meets h c) ≡ 0 = structure-apart f h c few far entries l1 table clusters (blocks-near f h sound) in
    let t : contents f h (of_mapping h (meets h c)) ≡ 0 = contents-apart f h c few far in
    omega arith
