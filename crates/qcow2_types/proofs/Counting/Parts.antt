-- The parts of an image's structure, and the parts that are the same after a change inside one of them.
use Rattle.std.proofs.Common.{◌≡◌, ◌≢◌, ℕ, zero, suc, ◌+◌, ◌*◌, ◌/◌, ◌<◌, ◌≤◌, refl, arith, ap, sym, ◌∙◌, inl, inr}
use Rattle.std.specs.Prelude.{false, cond, nat_lt, ◌⊎◌, ⊤, IsFalse}
use Rattle.std.proofs.lemmas.Bool.{cases_lt, cases_eq, le-ltb}
use Rattle.std.proofs.lemmas.Bool.Decides.{nat_tests}
use Rattle.std.proofs.Math.Nat.{div-mul-le_self}
use Rattle.qcow2_types.specs.Bytes.{Bytes, raw_entry, sum_below}
use Rattle.qcow2_types.specs.Words.{table_offset, block_offset, mapping_of}
use Rattle.qcow2_types.specs.Header.{Fields, cluster_size, entries_of_cluster, refcount_table_entries, layout_of, Shaped}
use Rattle.qcow2_types.specs.Entries.{l2_table}
use Rattle.qcow2_types.specs.Counts.{block_at, count, counters_of_block}
use Rattle.qcow2_types.specs.References.{Weight, structure, of_cluster, meets, refs}
use Rattle.qcow2_types.specs.Consistency.{shares_structure}
use Rattle.qcow2_types.proofs.Numbers.Sums.{term-le-sum}
use Rattle.qcow2_types.proofs.Counting.Named.{structure-le-refs, structure-mono}
use Rattle.qcow2_types.proofs.Numbers.Splices.{be-same}
use Rattle.qcow2_types.proofs.Changes.Frames.{untouched, touches-cluster, word-same, entries-fit}
use Rattle.qcow2_types.specs.Frames.{Same, Outside, touches, Skipped, nothing, first_cluster, l1_word, block_word, block, table, SameStructureOutside}
use Rattle.qcow2_types.proofs.Counting.Counters.{count-same}
use Rattle.qcow2_types.specs.Slots.{Live, slot}

-- two terms are at most the sum
pub sum-two : (n i k : ℕ) (f : ℕ → ℕ) → i < n → k < n → i ≢ k → f i + f k ≤ sum_below n f
unfolding sum_below
sum-two zero i k f lt lt' apart = absurd (omega arith)
sum-two (suc n) i k f lt lt' apart = elim (cases_eq n i) [
  | inl e ↦
      let here : f n ≡ f i = ap f e in
      let below : f k ≤ sum_below n f = term-le-sum n k f (omega arith) in
      omega arith
  | inr other ↦ elim (cases_eq n k) [
    | inl e ↦
        let here : f n ≡ f k = ap f e in
        let below : f i ≤ sum_below n f = term-le-sum n i f (omega arith) in
        omega arith
    | inr other' ↦
        let n-i : n ≢ i = other in
        let n-k : n ≢ k = other' in
        let below : f i + f k ≤ sum_below n f = sum-two n i k f (omega arith) (omega arith) apart in
        omega arith
  ]
]

-- the parts of an image's structure
pub data Part : Type 0 where
  header : Part
  l1_table : Part
  refcount_table : Part
  block_of : (i : ℕ) → Part
  table_of : (i : ℕ) → Part

abbrev pub part_weight : Bytes → Fields → Weight → Part → ℕ
part_weight f h w header = w 0 (cluster_size h)
part_weight f h w l1_table = w h.l1_offset (h.l1_entries * 8)
part_weight f h w refcount_table = w h.refcount_table_offset (h.refcount_table_clusters * cluster_size h)
part_weight f h w (block_of i) = of_cluster h w (block_at f h i)
part_weight f h w (table_of i) = of_cluster h w (l2_table f h i)

-- the part exists
abbrev pub IsPart : Fields → Part → Type 0
IsPart h header = ⊤
IsPart h l1_table = ⊤
IsPart h refcount_table = ⊤
IsPart h (block_of i) = i < refcount_table_entries h
IsPart h (table_of i) = i < h.l1_entries

module _ (f : Bytes) (h : Fields) (w : Weight) where
  -- the weight of one part, or of two, is at most that of the structure
  pub one-part : (p : Part) → IsPart h p → part_weight f h w p ≤ structure f h w
  unfolding structure
  one-part header inside = omega arith
  one-part l1_table inside = omega arith
  one-part refcount_table inside = omega arith
  one-part (block_of i) inside = let one : of_cluster h w (block_at f h i) ≤ sum_below (refcount_table_entries h) (λ r. of_cluster h w (block_at f h r)) = term-le-sum _ i (λ r. of_cluster h w (block_at f h r)) inside in omega arith
  one-part (table_of i) inside = let one : of_cluster h w (l2_table f h i) ≤ sum_below h.l1_entries (λ r. of_cluster h w (l2_table f h r)) = term-le-sum _ i (λ r. of_cluster h w (l2_table f h r)) inside in omega arith

  pub two-parts : (p q : Part) → IsPart h p → IsPart h q → p ≢ q → part_weight f h w p + part_weight f h w q ≤ structure f h w
  unfolding structure
  two-parts header header inside inside' apart = absurd (apart refl)
  two-parts header l1_table inside inside' apart = omega arith
  two-parts header refcount_table inside inside' apart = omega arith
  two-parts header (block_of k) inside inside' apart = let other : of_cluster h w (block_at f h k) ≤ sum_below (refcount_table_entries h) (λ r. of_cluster h w (block_at f h r)) = term-le-sum _ k (λ r. of_cluster h w (block_at f h r)) inside' in omega arith
  two-parts header (table_of k) inside inside' apart = let other : of_cluster h w (l2_table f h k) ≤ sum_below h.l1_entries (λ r. of_cluster h w (l2_table f h r)) = term-le-sum _ k (λ r. of_cluster h w (l2_table f h r)) inside' in omega arith
  two-parts l1_table header inside inside' apart = omega arith
  two-parts l1_table l1_table inside inside' apart = absurd (apart refl)
  two-parts l1_table refcount_table inside inside' apart = omega arith
  two-parts l1_table (block_of k) inside inside' apart = let other : of_cluster h w (block_at f h k) ≤ sum_below (refcount_table_entries h) (λ r. of_cluster h w (block_at f h r)) = term-le-sum _ k (λ r. of_cluster h w (block_at f h r)) inside' in omega arith
  two-parts l1_table (table_of k) inside inside' apart = let other : of_cluster h w (l2_table f h k) ≤ sum_below h.l1_entries (λ r. of_cluster h w (l2_table f h r)) = term-le-sum _ k (λ r. of_cluster h w (l2_table f h r)) inside' in omega arith
  two-parts refcount_table header inside inside' apart = omega arith
  two-parts refcount_table l1_table inside inside' apart = omega arith
  two-parts refcount_table refcount_table inside inside' apart = absurd (apart refl)
  two-parts refcount_table (block_of k) inside inside' apart = let other : of_cluster h w (block_at f h k) ≤ sum_below (refcount_table_entries h) (λ r. of_cluster h w (block_at f h r)) = term-le-sum _ k (λ r. of_cluster h w (block_at f h r)) inside' in omega arith
  two-parts refcount_table (table_of k) inside inside' apart = let other : of_cluster h w (l2_table f h k) ≤ sum_below h.l1_entries (λ r. of_cluster h w (l2_table f h r)) = term-le-sum _ k (λ r. of_cluster h w (l2_table f h r)) inside' in omega arith
  two-parts (block_of i) header inside inside' apart = let one : of_cluster h w (block_at f h i) ≤ sum_below (refcount_table_entries h) (λ r. of_cluster h w (block_at f h r)) = term-le-sum _ i (λ r. of_cluster h w (block_at f h r)) inside in omega arith
  two-parts (block_of i) l1_table inside inside' apart = let one : of_cluster h w (block_at f h i) ≤ sum_below (refcount_table_entries h) (λ r. of_cluster h w (block_at f h r)) = term-le-sum _ i (λ r. of_cluster h w (block_at f h r)) inside in omega arith
  two-parts (block_of i) refcount_table inside inside' apart = let one : of_cluster h w (block_at f h i) ≤ sum_below (refcount_table_entries h) (λ r. of_cluster h w (block_at f h r)) = term-le-sum _ i (λ r. of_cluster h w (block_at f h r)) inside in omega arith
  two-parts (block_of i) (block_of k) inside inside' apart = let both : of_cluster h w (block_at f h i) + of_cluster h w (block_at f h k) ≤ sum_below (refcount_table_entries h) (λ r. of_cluster h w (block_at f h r)) = sum-two _ i k (λ r. of_cluster h w (block_at f h r)) inside inside' (λ e. apart (ap block_of e)) in omega arith
  two-parts (block_of i) (table_of k) inside inside' apart = let one : of_cluster h w (block_at f h i) ≤ sum_below (refcount_table_entries h) (λ r. of_cluster h w (block_at f h r)) = term-le-sum _ i (λ r. of_cluster h w (block_at f h r)) inside in let other : of_cluster h w (l2_table f h k) ≤ sum_below h.l1_entries (λ r. of_cluster h w (l2_table f h r)) = term-le-sum _ k (λ r. of_cluster h w (l2_table f h r)) inside' in omega arith
  two-parts (table_of i) header inside inside' apart = let one : of_cluster h w (l2_table f h i) ≤ sum_below h.l1_entries (λ r. of_cluster h w (l2_table f h r)) = term-le-sum _ i (λ r. of_cluster h w (l2_table f h r)) inside in omega arith
  two-parts (table_of i) l1_table inside inside' apart = let one : of_cluster h w (l2_table f h i) ≤ sum_below h.l1_entries (λ r. of_cluster h w (l2_table f h r)) = term-le-sum _ i (λ r. of_cluster h w (l2_table f h r)) inside in omega arith
  two-parts (table_of i) refcount_table inside inside' apart = let one : of_cluster h w (l2_table f h i) ≤ sum_below h.l1_entries (λ r. of_cluster h w (l2_table f h r)) = term-le-sum _ i (λ r. of_cluster h w (l2_table f h r)) inside in omega arith
  two-parts (table_of i) (block_of k) inside inside' apart = let one : of_cluster h w (l2_table f h i) ≤ sum_below h.l1_entries (λ r. of_cluster h w (l2_table f h r)) = term-le-sum _ i (λ r. of_cluster h w (l2_table f h r)) inside in let other : of_cluster h w (block_at f h k) ≤ sum_below (refcount_table_entries h) (λ r. of_cluster h w (block_at f h r)) = term-le-sum _ k (λ r. of_cluster h w (block_at f h r)) inside' in omega arith
  two-parts (table_of i) (table_of k) inside inside' apart = let both : of_cluster h w (l2_table f h i) + of_cluster h w (l2_table f h k) ≤ sum_below h.l1_entries (λ r. of_cluster h w (l2_table f h r)) = sum-two _ i k (λ r. of_cluster h w (l2_table f h r)) inside inside' (λ e. apart (ap table_of e)) in omega arith

  -- if the structure's weight is at most 1 and one part has weight, every other part has weight 0
  pub other-part : (p q : Part) → IsPart h p → IsPart h q → p ≢ q → structure f h w ≤ 1 → 1 ≤ part_weight f h w p → part_weight f h w q ≡ 0
  other-part p q inside inside' apart once here = let both : part_weight f h w p + part_weight f h w q ≤ structure f h w = two-parts p q inside inside' apart in omega arith

-- in a consistent image a cluster is in at most one part of the structure
pub structure-once : (f : Bytes) (h : Fields) (c : ℕ) → IsFalse (shares_structure f h c) → structure f h (meets h c) ≤ 1
unfolding shares_structure
structure-once f h c apart =
    let le : structure f h (meets h c) ≤ refs f h c = structure-le-refs f h c in
    grind (arith, nat_tests)

-- so a change inside one cluster touches at most one part of the structure
pub touches-once : (f : Bytes) (h : Fields) (c at n : ℕ) → IsFalse (shares_structure f h c) → c * cluster_size h ≤ at → at + n ≤ (c + 1) * cluster_size h → structure f h (touches at n) ≤ 1
touches-once f h c at n apart low high =
    let le : structure f h (touches at n) ≤ structure f h (meets h c) = structure-mono f h (touches at n) (meets h c) (touches-cluster h c at n low high) in
    let once : structure f h (meets h c) ≤ 1 = structure-once f h c apart in
    omega arith

-- a change inside a cluster without structure touches no part
pub touches-none : (f : Bytes) (h : Fields) (c at n : ℕ) → structure f h (meets h c) ≡ 0 → c * cluster_size h ≤ at → at + n ≤ (c + 1) * cluster_size h → structure f h (touches at n) ≡ 0
touches-none f h c at n none low high =
    let le : structure f h (touches at n) ≤ structure f h (meets h c) = structure-mono f h (touches at n) (meets h c) (touches-cluster h c at n low high) in
    omega arith

-- a change that isn't empty touches the range that it is in
pub touches-inside : (at n first length : ℕ) → 0 < n → first ≤ at → at + n ≤ first + length → touches at n first length ≡ 1
unfolding touches
touches-inside at n first length some low high = grind (arith, nat_tests)

-- the skipped part for a change in this part
abbrev pub skip_of : Part → Skipped
skip_of header = first_cluster
skip_of l1_table = nothing
skip_of refcount_table = nothing
skip_of (block_of i) = block i
skip_of (table_of i) = table i

-- the weight of a cluster at an offset other than 0
of_there : (h : Fields) (w : Weight) (offset : ℕ) → offset ≢ 0 → of_cluster h w offset ≡ w offset (cluster_size h)
of_there h w offset there = grind (arith, nat_tests)

-- the entry is inside the cluster of its table
pub words-fit : (h : Fields) (j : ℕ) → j < entries_of_cluster h → 8 * j + 8 ≤ cluster_size h
words-fit h j lt = let whole : entries_of_cluster h * 8 ≤ cluster_size h = div-mul-le_self (cluster_size h) 8 in omega arith

module _ (f g : Bytes) (h : Fields) (at n : ℕ) (out : Outside f g at n) where
  -- The part `header`, and likewise each other part, is the same if the change doesn't touch it.
  start-same : part_weight f h (touches at n) header ≡ 0 → Same f g 0 (cluster_size h)
  start-same none = untouched f g at n 0 (cluster_size h) out none

  l1-same : part_weight f h (touches at n) l1_table ≡ 0 → (i : ℕ) → i < h.l1_entries → raw_entry g h.l1_offset i ≡ raw_entry f h.l1_offset i
  l1-same none i lt = word-same f g h.l1_offset (h.l1_entries * 8) i (untouched f g at n _ _ out none) (omega arith)

  blocks-same : part_weight f h (touches at n) refcount_table ≡ 0 → (i : ℕ) → i < refcount_table_entries h → raw_entry g h.refcount_table_offset i ≡ raw_entry f h.refcount_table_offset i
  blocks-same none i lt = word-same f g h.refcount_table_offset (h.refcount_table_clusters * cluster_size h) i (untouched f g at n _ _ out none) (entries-fit h i lt)

  counters-same : (i : ℕ) → block_at f h i ≢ 0 → part_weight f h (touches at n) (block_of i) ≡ 0 → Same f g (block_at f h i) (cluster_size h)
  counters-same i there none = untouched f g at n _ _ out (sym (of_there h (touches at n) (block_at f h i) there) ∙ none)

  words-same : (i j : ℕ) → Live (l2_table f h) h i j → part_weight f h (touches at n) (table_of i) ≡ 0 → raw_entry g (l2_table f h i) j ≡ raw_entry f (l2_table f h i) j
  words-same i j live none =
      word-same f g (l2_table f h i) (cluster_size h) j (untouched f g at n _ _ out (sym (of_there h (touches at n) (l2_table f h i) live.is_there) ∙ none)) (words-fit h j live.in_table)

  -- a change that touches no part
  pub kept-all : structure f h (touches at n) ≡ 0 → SameStructureOutside f g h nothing
  kept-all none = record {
    start = λ _. start-same (zero-part header tt);
    l1 = λ i lt _. l1-same (zero-part l1_table tt) i lt;
    blocks = λ i lt _. blocks-same (zero-part refcount_table tt) i lt;
    counters = λ i lt there _. counters-same i there (zero-part (block_of i) lt);
    raw_entries = λ i j live _. words-same i j live (zero-part (table_of i) live.in_l1);
  }
    where
      zero-part : (p : Part) → IsPart h p → part_weight f h (touches at n) p ≡ 0
      zero-part p inside = let le : part_weight f h (touches at n) p ≤ structure f h (touches at n) = one-part f h (touches at n) p inside in omega arith

  module _ (some : 0 < n) (once : structure f h (touches at n) ≤ 1) where
    -- a change inside one L2 table
    pub kept-table : (i : ℕ) → i < h.l1_entries → l2_table f h i ≢ 0 → l2_table f h i ≤ at → at + n ≤ l2_table f h i + cluster_size h → SameStructureOutside f g h (table i)
    kept-table i lt there low high =
        let here : touches at n (l2_table f h i) (cluster_size h) ≡ 1 = touches-inside at n _ _ some low high in
        let weighed : part_weight f h (touches at n) (table_of i) ≡ 1 = of_there h (touches at n) (l2_table f h i) there ∙ here in
        let other : (q : Part) → IsPart h q → table_of i ≢ q → part_weight f h (touches at n) q ≡ 0 = (λ q inside apart. other-part f h (touches at n) (table_of i) q lt inside apart once (omega arith)) in
        record {
          start = λ _. start-same (other header tt (λ e. cc));
          l1 = λ k less _. l1-same (other l1_table tt (λ e. cc)) k less;
          blocks = λ k less _. blocks-same (other refcount_table tt (λ e. cc)) k less;
          counters = λ k less is _. counters-same k is (other (block_of k) less (λ e. cc));
          raw_entries = λ k m live apart. words-same k m live (other (table_of k) live.in_l1 (λ e. apart (ap skip_of e)));
        }

    -- a change inside one block
    pub kept-block : (i : ℕ) → i < refcount_table_entries h → block_at f h i ≢ 0 → block_at f h i ≤ at → at + n ≤ block_at f h i + cluster_size h → SameStructureOutside f g h (block i)
    kept-block i lt there low high =
        let here : touches at n (block_at f h i) (cluster_size h) ≡ 1 = touches-inside at n _ _ some low high in
        let weighed : part_weight f h (touches at n) (block_of i) ≡ 1 = of_there h (touches at n) (block_at f h i) there ∙ here in
        let other : (q : Part) → IsPart h q → block_of i ≢ q → part_weight f h (touches at n) q ≡ 0 = (λ q inside apart. other-part f h (touches at n) (block_of i) q lt inside apart once (omega arith)) in
        record {
          start = λ _. start-same (other header tt (λ e. cc));
          l1 = λ k less _. l1-same (other l1_table tt (λ e. cc)) k less;
          blocks = λ k less _. blocks-same (other refcount_table tt (λ e. cc)) k less;
          counters = λ k less is apart. counters-same k is (other (block_of k) less (λ e. apart (ap skip_of e)));
          raw_entries = λ k m live _. words-same k m live (other (table_of k) live.in_l1 (λ e. cc));
        }

    -- a change inside the first cluster
    pub kept-start : at + n ≤ cluster_size h → SameStructureOutside f g h first_cluster
    kept-start high =
        let weighed : part_weight f h (touches at n) header ≡ 1 = touches-inside at n 0 (cluster_size h) some (omega arith) (omega arith) in
        let other : (q : Part) → IsPart h q → header ≢ q → part_weight f h (touches at n) q ≡ 0 = (λ q inside apart. other-part f h (touches at n) header q tt inside apart once (omega arith)) in
        record {
          start = λ apart. absurd (apart refl);
          l1 = λ k less _. l1-same (other l1_table tt (λ e. cc)) k less;
          blocks = λ k less _. blocks-same (other refcount_table tt (λ e. cc)) k less;
          counters = λ k less is _. counters-same k is (other (block_of k) less (λ e. cc));
          raw_entries = λ k m live _. words-same k m live (other (table_of k) live.in_l1 (λ e. cc));
        }

-- another entry of the same table
pub other-word : (f g : Bytes) (t i k : ℕ) → Outside f g (t + 8 * i) 8 → i ≢ k → raw_entry g t k ≡ raw_entry f t k
unfolding raw_entry
other-word f g t i k out apart = be-same g f (t + 8 * k) (t + 8 * k) 8 (λ m lt. out (t + 8 * k + m) (beside m lt (cases_lt k i)))
  where
    beside : (m : ℕ) → m < 8 → (k < i) ⊎ (i ≤ k) → (t + 8 * k + m < t + 8 * i) ⊎ (t + 8 * i + 8 ≤ t + 8 * k + m)
    beside m lt (inl less) = inl (omega arith)
    beside m lt (inr le) = inr (omega arith)

-- a change of one L1 entry
pub kept-l1 : (f g : Bytes) (h : Fields) (i : ℕ) → Outside f g (h.l1_offset + 8 * i) 8 → structure f h (touches (h.l1_offset + 8 * i) 8) ≤ 1 → i < h.l1_entries → SameStructureOutside f g h (l1_word i)
kept-l1 f g h i out once lt =
    let at : ℕ = h.l1_offset + 8 * i in
    let here : part_weight f h (touches at 8) l1_table ≡ 1 = touches-inside at 8 _ _ (omega arith) (omega arith) (omega arith) in
    let other : (q : Part) → IsPart h q → l1_table ≢ q → part_weight f h (touches at 8) q ≡ 0 = (λ q inside apart. other-part f h (touches at 8) l1_table q tt inside apart once (omega arith)) in
    record {
      start = λ _. start-same f g h at 8 out (other header tt (λ e. cc));
      l1 = λ k less apart. other-word f g h.l1_offset i k out (λ e. apart (ap l1_word e));
      blocks = λ k less _. blocks-same f g h at 8 out (other refcount_table tt (λ e. cc)) k less;
      counters = λ k less is _. counters-same f g h at 8 out k is (other (block_of k) less (λ e. cc));
      raw_entries = λ k m live _. words-same f g h at 8 out k m live (other (table_of k) live.in_l1 (λ e. cc));
    }

-- A change of one refcount table entry.
pub kept-block_word : (f g : Bytes) (h : Fields) (i : ℕ) → Outside f g (h.refcount_table_offset + 8 * i) 8 → structure f h (touches (h.refcount_table_offset + 8 * i) 8) ≤ 1 → i < refcount_table_entries h → SameStructureOutside f g h (block_word i)
kept-block_word f g h i out once lt =
    let at : ℕ = h.refcount_table_offset + 8 * i in
    let fits : 8 * i + 8 ≤ h.refcount_table_clusters * cluster_size h = entries-fit h i lt in
    let here : part_weight f h (touches at 8) refcount_table ≡ 1 = touches-inside at 8 _ _ (omega arith) (omega arith) (omega arith) in
    let other : (q : Part) → IsPart h q → refcount_table ≢ q → part_weight f h (touches at 8) q ≡ 0 = (λ q inside apart. other-part f h (touches at 8) refcount_table q tt inside apart once (omega arith)) in
    record {
      start = λ _. start-same f g h at 8 out (other header tt (λ e. cc));
      l1 = λ k less _. l1-same f g h at 8 out (other l1_table tt (λ e. cc)) k less;
      blocks = λ k less apart. other-word f g h.refcount_table_offset i k out (λ e. apart (ap block_word e));
      counters = λ k less is _. counters-same f g h at 8 out k is (other (block_of k) less (λ e. cc));
      raw_entries = λ k m live _. words-same f g h at 8 out k m live (other (table_of k) live.in_l1 (λ e. cc));
    }

-- only an entry inside the refcount table references a block
pub block-inside : (f : Bytes) (h : Fields) (b : ℕ) → block_at f h b ≢ 0 → b < refcount_table_entries h
block-inside f h b there = elim (cases_lt b (refcount_table_entries h)) [
  | inl lt ↦ lt
  | inr le ↦ let past : nat_lt b (refcount_table_entries h) ≡ false = le-ltb _ _ le in absurd (there (rw past refl))
]

-- Tables, refcounts and mappings outside the skipped part are the same.
module _ (f g : Bytes) (h : Fields) (skip : Skipped) (kept : SameStructureOutside f g h skip) where
  pub l2_table-kept : (i : ℕ) → skip ≢ l1_word i → l2_table g h i ≡ l2_table f h i
  l2_table-kept i apart = elim (cases_lt i h.l1_entries) [
    | inl lt ↦ ap (λ w. cond (nat_lt i h.l1_entries) (table_offset w) 0) (kept.l1 i lt apart)
    | inr le ↦ let past : nat_lt i h.l1_entries ≡ false = le-ltb _ _ le in rw past refl
  ]

  pub block_at-kept : (i : ℕ) → skip ≢ block_word i → block_at g h i ≡ block_at f h i
  block_at-kept i apart = elim (cases_lt i (refcount_table_entries h)) [
    | inl lt ↦ ap (λ w. cond (nat_lt i (refcount_table_entries h)) (block_offset w) 0) (kept.blocks i lt apart)
    | inr le ↦ let past : nat_lt i (refcount_table_entries h) ≡ false = le-ltb _ _ le in rw past refl
  ]

  pub count-kept : (c : ℕ) → Shaped h → skip ≢ block_word (c / counters_of_block h) → skip ≢ block (c / counters_of_block h) → count g h c ≡ count f h c
  count-kept c shaped word-apart apart =
      count-same f g h c shaped (block_at-kept (c / counters_of_block h) word-apart) (λ there. kept.counters (c / counters_of_block h) (block-inside f h _ there) there apart)

  pub slot-kept : (i j : ℕ) → Live (l2_table f h) h i j → skip ≢ l1_word i → skip ≢ table i → slot g h i j ≡ slot f h i j
  slot-kept i j live word-apart apart =
      ap (λ t. mapping_of (layout_of h) (raw_entry g t j)) (l2_table-kept i word-apart) ∙ ap (mapping_of (layout_of h)) (kept.raw_entries i j live apart)
