-- The header is switched to another refcount table. Its entries reference the blocks of the old table, and may reference new ones.
use Rattle.std.proofs.Common.{◌≡◌, ◌≢◌, ℕ, ◌+◌, ◌*◌, ◌/◌, ◌%◌, ◌<◌, ◌≤◌, refl, arith, sym, ◌∙◌, ap, inl, inr}
use Rattle.std.specs.Prelude.{true, false, ◌⊎◌, ◌==◌, nat_lt, if◌then◌else◌, IsTrue, Ok}
use Rattle.std.proofs.lemmas.Bool.{cases_eq, cases_lt, lt-ltb, le-ltb}
use Rattle.std.proofs.lemmas.Bool.Decides.{nat_tests}
use Rattle.qcow2_types.specs.Bytes.{Bytes, raw_entry, sum_below}
use Rattle.qcow2_types.specs.Words.{Mapping, is_damaged, is_cluster_offset, l1_entry_valid, reftable_entry_valid, block_offset}
use Rattle.qcow2_types.specs.Header.{Fields, Header, Shaped, header_of, cluster_size, entries_of_cluster, refcount_table_entries}
use Rattle.qcow2_types.specs.Entries.{l2_table, entry}
use Rattle.qcow2_types.specs.Counts.{block_at, count, counter, counter_of, counter_bits, counters_of_block}
use Rattle.qcow2_types.specs.Slots.{slot, Live, over_slots, or_none, guest_slot, ValidEntries}
use Rattle.qcow2_types.specs.Frames.{Same, Outside, SameStructureOutside, first_cluster}
use Rattle.qcow2_types.specs.References.{Weight, structure, of_cluster, contents, of_mapping, of_copied, meets, refs}
use Rattle.qcow2_types.specs.Consistency.{IsConsistent}
use Rattle.qcow2_types.specs.Switched.{with_reftable, with_refcount_table, newly_referenced, RefcountTableSwitched}
use Rattle.qcow2_types.proofs.Counting.Consistent.{some-words, consistent-shaped, structure-named-once, copied-named-once, named-counted, consistent-from}
use Rattle.qcow2_types.proofs.Counting.Counters.{whole, count-same}
use Rattle.qcow2_types.proofs.Counting.Leaks.{count-no-block}
use Rattle.qcow2_types.proofs.Counting.Parts.{l2_table-kept, slot-kept}
use Rattle.qcow2_types.proofs.Showing.Shows.{guest-live, guest-slot-there, guest-slot-none}
use Rattle.qcow2_types.proofs.Counting.Slots.{contents-slots}
use Rattle.qcow2_types.proofs.Counting.Sound.{sound-words}
use Rattle.qcow2_types.proofs.Numbers.Splices.{be-same}
use Rattle.qcow2_types.proofs.Numbers.Sums.{sum-same, sum-both}
use Rattle.qcow2_types.proofs.Switching.Switches.{sum-longer, cluster-long, first-named, start-kept, start-free, start-mapped, start-values}
use Rattle.qcow2_types.proofs.Showing.Values.{entry-slot}
use Rattle.qcow2_types.proofs.Changes.WriteBack.{place-whole}
use Rattle.std.proofs.Math.Nat.{mul-le-mul_right}

module _ (f g : Bytes) (H : Header) (was : IsConsistent f H) (o m : ℕ) (loads : header_of true g ≡ Ok (with_refcount_table H o m)) (out : Outside f g 0 64)
    (new_sound : (i : ℕ) → i < m * entries_of_cluster H.fields → IsTrue (reftable_entry_valid H.fields.cluster_bits (raw_entry f o i)))
    (old_blocks : (i : ℕ) → block_at f H.fields i ≢ 0 → block_at f (with_reftable H.fields o m) i ≡ block_at f H.fields i)
    (apart : (d : ℕ) → newly_referenced f H.fields o m (meets H.fields d) ≤ 1)
    (free : (d : ℕ) → 0 < newly_referenced f H.fields o m (meets H.fields d) → (refs f H.fields d ≡ 0) × (1 ≤ count f (with_reftable H.fields o m) d)) where
  abbrev new : Fields
  new = with_reftable H.fields o m

  new-shaped : Shaped (with_reftable H.fields o m)
  new-shaped = let shaped : Shaped H.fields = consistent-shaped f H was in record { order = shaped.order; low = shaped.low; high = shaped.high }

  size : 512 ≤ cluster_size H.fields
  size = cluster-long f H was

  words-of : entries_of_cluster H.fields * 8 ≡ cluster_size H.fields
  words-of = let s : 512 ≤ cluster_size H.fields = size in whole H.fields.cluster_bits (omega arith)

  -- the structure outside the header is the same
  kept : SameStructureOutside f g H.fields first_cluster
  kept = start-kept f g H was out

  -- a new table with entries is after the first cluster
  behind : 0 < m * cluster_size H.fields → cluster_size H.fields ≤ o
  behind some = elim (cases_lt o (cluster_size H.fields)) [
    | inr le ↦ le
    | inl lt ↦
        let s : 512 ≤ cluster_size H.fields = size in
        let met : meets H.fields 0 o (m * cluster_size H.fields) ≡ 1 = grind (arith, nat_tests) in
        let all : 0 < newly_referenced f H.fields o m (meets H.fields 0) = omega arith in
        let none : refs f H.fields 0 ≡ 0 = (free 0 all).0 in
        let one : 1 ≤ refs f H.fields 0 = first-named f H was in
        absurd (omega arith)
  ]

  -- the new table's length in bytes, by its entries
  new-bytes : m * entries_of_cluster H.fields * 8 ≡ m * cluster_size H.fields
  new-bytes =
      let w : entries_of_cluster H.fields * 8 ≡ cluster_size H.fields = words-of in
      let a : m * (entries_of_cluster H.fields * 8) ≡ m * cluster_size H.fields = ap (λ x. m * x) w in
      omega arith

  -- the new table has the same entries in both files
  words-there : (i : ℕ) → i < m * entries_of_cluster H.fields → raw_entry g o i ≡ raw_entry f o i
  unfolding raw_entry
  words-there i lt =
      let s : 512 ≤ cluster_size H.fields = size in
      let b : m * entries_of_cluster H.fields * 8 ≡ m * cluster_size H.fields = new-bytes in
      let far : cluster_size H.fields ≤ o = behind (omega arith) in
      be-same g f (o + 8 * i) (o + 8 * i) 8 (λ k less. out (o + 8 * i + k) (inr (omega arith)))

  -- past the end of the new table no block is referenced
  none-past : (x : Bytes) (i : ℕ) → m * entries_of_cluster H.fields ≤ i → block_at x (with_reftable H.fields o m) i ≡ 0
  none-past x i le = let past : nat_lt i (m * entries_of_cluster H.fields) ≡ false = le-ltb _ _ le in rw past refl

  -- The blocks, the L2 tables and the L2 entries are the same.
  pub switched-blocks : (i : ℕ) → block_at g (with_reftable H.fields o m) i ≡ block_at f (with_reftable H.fields o m) i
  switched-blocks i = elim (cases_lt i (m * entries_of_cluster H.fields)) [
    | inl lt ↦ ap (λ w. if nat_lt i (m * entries_of_cluster H.fields) then block_offset w else 0) (words-there i lt)
    | inr le ↦ none-past g i le ∙ sym (none-past f i le)
  ]

  pub switched-tables : (i : ℕ) → l2_table g (with_reftable H.fields o m) i ≡ l2_table f H.fields i
  switched-tables i = l2_table-kept f g H.fields first_cluster kept i (λ e. cc)

  pub switched-slots : (i j : ℕ) → Live (l2_table f H.fields) H.fields i j → slot g (with_reftable H.fields o m) i j ≡ slot f H.fields i j
  switched-slots i j live = slot-kept f g H.fields first_cluster kept i j live (λ e. cc) (λ e. cc)

  -- a block is after the first cluster
  block-behind : (i : ℕ) → block_at f (with_reftable H.fields o m) i ≢ 0 → cluster_size H.fields ≤ block_at f (with_reftable H.fields o m) i
  block-behind i there = elim (cases_lt i (m * entries_of_cluster H.fields)) [
    | inr le ↦ absurd (there (none-past f i le))
    | inl lt ↦
        let within : nat_lt i (m * entries_of_cluster H.fields) ≡ true = lt-ltb _ _ lt in
        let sane : reftable_entry_valid H.fields.cluster_bits (raw_entry f o i) ≡ true = new_sound i lt in
        let names : block_at f (with_reftable H.fields o m) i ≡ block_offset (raw_entry f o i) = rw within refl in
        let some : block_offset (raw_entry f o i) ≢ 0 = λ e. there (names ∙ e) in
        let place : is_cluster_offset H.fields.cluster_bits (block_offset (raw_entry f o i)) ≡ true = grind (arith, nat_tests) in
        let begin : block_offset (raw_entry f o i) / cluster_size H.fields * cluster_size H.fields ≡ block_offset (raw_entry f o i) = place-whole H.fields.cluster_bits (block_offset (raw_entry f o i)) place in
        let far : cluster_size H.fields ≤ block_offset (raw_entry f o i) = no-less (cluster_size H.fields) (block_offset (raw_entry f o i)) begin some in
        omega arith
  ]
    where
      no-less : (s p : ℕ) → p / s * s ≡ p → p ≢ 0 → s ≤ p
      no-less s p begin some = elim (cases_eq (p / s) 0) [
        | inl e ↦ let z : 0 * s ≡ p = rw e at begin in absurd (some (omega arith))
        | inr is ↦
            let more : p / s ≢ 0 = is in
            let least : 1 * s ≤ p / s * s = mul-le-mul_right s (omega arith) in
            omega arith
      ]

  -- the refcounts by the new table are the same in both files
  pub switched-counts : (d : ℕ) → count g (with_reftable H.fields o m) d ≡ count f (with_reftable H.fields o m) d
  switched-counts d = count-same f g (with_reftable H.fields o m) d new-shaped (switched-blocks (d / counters_of_block H.fields)) (λ there. bytes there)
    where
      bytes : block_at f (with_reftable H.fields o m) (d / counters_of_block H.fields) ≢ 0 → Same f g (block_at f (with_reftable H.fields o m) (d / counters_of_block H.fields)) (cluster_size H.fields)
      bytes there k less =
          let s : 512 ≤ cluster_size H.fields = size in
          let far : cluster_size H.fields ≤ block_at f (with_reftable H.fields o m) (d / counters_of_block H.fields) = block-behind (d / counters_of_block H.fields) there in
          out _ (inr (omega arith))

  -- the refcounts in the old blocks are the same
  pub switched-old-counts : (d : ℕ) → block_at f H.fields (d / counters_of_block H.fields) ≢ 0 → count g (with_reftable H.fields o m) d ≡ count f H.fields d
  unfolding count counter
  switched-old-counts d there = switched-counts d ∙ ap (λ p. if p == 0 then 0 else counter_of f (counter_bits H.fields) p (d % counters_of_block H.fields)) (old_blocks (d / counters_of_block H.fields) there)

  -- Each refcount still covers the references by the old header: a cluster without an old block has none.
  switched-counted : (d : ℕ) → refs f H.fields d ≤ count g (with_reftable H.fields o m) d
  switched-counted d =
      let le : refs f H.fields d ≤ count f H.fields d = named-counted f H was d in
      elim (cases_eq (block_at f H.fields (d / counters_of_block H.fields)) 0) [
        | inl e ↦ let none : count f H.fields d ≡ 0 = count-no-block f H.fields d e in omega arith
        | inr there ↦ let same : count g (with_reftable H.fields o m) d ≡ count f H.fields d = switched-old-counts d there in omega arith
      ]

  -- the weight of block i if it is new
  abbrev new-block : Weight → ℕ → ℕ
  new-block v i = if block_at f H.fields i == 0 then of_cluster H.fields v (block_at f (with_reftable H.fields o m) i) else 0

  -- the sum over the blocks splits into the old and the new ones
  blocks-sum : (v : Weight) → sum_below (m * entries_of_cluster H.fields) (λ i. of_cluster H.fields v (block_at g (with_reftable H.fields o m) i))
      ≡ sum_below (refcount_table_entries H.fields) (λ i. of_cluster H.fields v (block_at f H.fields i)) + sum_below (m * entries_of_cluster H.fields) (new-block v)
  blocks-sum v =
      let n : ℕ = m * entries_of_cluster H.fields in
      let e : ℕ = refcount_table_entries H.fields in
      let all : sum_below (n + e) (λ i. of_cluster H.fields v (block_at g (with_reftable H.fields o m) i)) ≡ sum_below n (λ i. of_cluster H.fields v (block_at g (with_reftable H.fields o m) i)) =
      sum-longer n e _ (λ i le. rw (none-past g i le) refl) in
      let olds : sum_below (e + n) (λ i. of_cluster H.fields v (block_at f H.fields i)) ≡ sum_below e (λ i. of_cluster H.fields v (block_at f H.fields i)) =
      sum-longer e n _ (λ i le. none-old i le) in
      let news : sum_below (n + e) (new-block v) ≡ sum_below n (new-block v) = sum-longer n e _ (λ i le. none-new i le) in
      let split : sum_below (n + e) (λ i. of_cluster H.fields v (block_at g (with_reftable H.fields o m) i)) ≡ sum_below (n + e) (λ i. of_cluster H.fields v (block_at f H.fields i)) + sum_below (n + e) (new-block v) =
      sum-same _ _ _ (λ i less. term i) ∙ sum-both (n + e) (λ i. of_cluster H.fields v (block_at f H.fields i)) (new-block v) in
      let swap : sum_below (n + e) (λ i. of_cluster H.fields v (block_at f H.fields i)) ≡ sum_below (e + n) (λ i. of_cluster H.fields v (block_at f H.fields i)) =
      ap (λ k. sum_below k (λ i. of_cluster H.fields v (block_at f H.fields i))) (omega arith) in
      omega arith
    where
      none-old : (i : ℕ) → refcount_table_entries H.fields ≤ i → of_cluster H.fields v (block_at f H.fields i) ≡ 0
      none-old i le = let past : nat_lt i (refcount_table_entries H.fields) ≡ false = le-ltb _ _ le in rw past refl

      none-new : (i : ℕ) → m * entries_of_cluster H.fields ≤ i → new-block v i ≡ 0
      none-new i le = elim (cases_eq (block_at f H.fields i) 0) [
        | inl e ↦ rw (e, none-past f i le) refl
        | inr there ↦ let off : (block_at f H.fields i == 0) ≡ false = grind (arith, nat_tests) in rw off refl
      ]

      term : (i : ℕ) → of_cluster H.fields v (block_at g (with_reftable H.fields o m) i) ≡ of_cluster H.fields v (block_at f H.fields i) + new-block v i
      term i = elim (cases_eq (block_at f H.fields i) 0) [
        | inl e ↦ rw (e, switched-blocks i) (omega arith)
        | inr there ↦
            let off : (block_at f H.fields i == 0) ≡ false = grind (arith, nat_tests) in
            rw (switched-blocks i, old_blocks i there, off) (omega arith)
      ]

  -- the structure, with the old table replaced by the new one and the new blocks
  switched-structure : (v : Weight) → structure g (with_reftable H.fields o m) v + v H.fields.refcount_table_offset (H.fields.refcount_table_clusters * cluster_size H.fields) ≡ structure f H.fields v + newly_referenced f H.fields o m v
  unfolding structure
  switched-structure v =
      let tables : sum_below H.fields.l1_entries (λ k. of_cluster H.fields v (l2_table g (with_reftable H.fields o m) k)) ≡ sum_below H.fields.l1_entries (λ k. of_cluster H.fields v (l2_table f H.fields k)) =
      sum-same _ _ _ (λ k less. ap (of_cluster H.fields v) (switched-tables k)) in
      let blocks : sum_below (m * entries_of_cluster H.fields) (λ i. of_cluster H.fields v (block_at g (with_reftable H.fields o m) i))
      ≡ sum_below (refcount_table_entries H.fields) (λ i. of_cluster H.fields v (block_at f H.fields i)) + sum_below (m * entries_of_cluster H.fields) (λ i. if block_at f H.fields i == 0 then of_cluster H.fields v (block_at f (with_reftable H.fields o m) i) else 0) = blocks-sum v in
      omega arith

  switched-contents : (of : Mapping → ℕ) → contents g (with_reftable H.fields o m) of ≡ contents f H.fields of
  unfolding over_slots
  switched-contents of =
      contents-slots g (with_reftable H.fields o m) of ∙ (sum-same _ _ _ (λ k less. row k less) ∙ sym (contents-slots f H.fields of))
    where
      row : (k : ℕ) → k < H.fields.l1_entries → or_none (l2_table g (with_reftable H.fields o m) k) (sum_below (entries_of_cluster H.fields) (λ j. of (slot g (with_reftable H.fields o m) k j)))
          ≡ or_none (l2_table f H.fields k) (sum_below (entries_of_cluster H.fields) (λ j. of (slot f H.fields k j)))
      row k less = elim (cases_eq (l2_table f H.fields k) 0) [
        | inl e ↦ rw (switched-tables k, e) refl
        | inr is ↦
            ap (λ p. or_none p (sum_below (entries_of_cluster H.fields) (λ j. of (slot g (with_reftable H.fields o m) k j)))) (switched-tables k)
            ∙ ap (or_none (l2_table f H.fields k)) (sum-same _ _ _ (λ j few. ap of (switched-slots k j record { in_l1 = less; is_there = is; in_table = few })))
      ]

  -- The references: those of the new table and the new blocks are added, and those of the old table removed.
  pub switched-references : (d : ℕ) → refs g (with_reftable H.fields o m) d + meets H.fields d H.fields.refcount_table_offset (H.fields.refcount_table_clusters * cluster_size H.fields) ≡ refs f H.fields d + newly_referenced f H.fields o m (meets H.fields d)
  unfolding refs
  switched-references d =
      let base : structure g (with_reftable H.fields o m) (meets H.fields d) + meets H.fields d H.fields.refcount_table_offset (H.fields.refcount_table_clusters * cluster_size H.fields) ≡ structure f H.fields (meets H.fields d) + newly_referenced f H.fields o m (meets H.fields d) = switched-structure (meets H.fields d) in
      let rest : contents g (with_reftable H.fields o m) (of_mapping H.fields (meets H.fields d)) ≡ contents f H.fields (of_mapping H.fields (meets H.fields d)) = switched-contents (of_mapping H.fields (meets H.fields d)) in
      omega arith

  -- all entries stay valid
  switched-sound : ValidEntries g (with_reftable H.fields o m)
  switched-sound =
      let sound : ValidEntries f H.fields = sound-words f H.fields was.readable.tables in
      record {
        l1 = λ i lt. ap (l1_entry_valid H.fields.cluster_bits) (kept.l1 i lt (λ e. cc)) ∙ sound.l1 i lt;
        blocks = λ i lt. ap (reftable_entry_valid H.fields.cluster_bits) (words-there i lt) ∙ new_sound i lt;
        slots = λ i j live.
            let old : Live (l2_table f H.fields) H.fields i j = record { in_l1 = live.in_l1; is_there = (λ z. live.is_there (switched-tables i ∙ z)); in_table = live.in_table } in
            ap is_damaged (switched-slots i j old) ∙ sound.slots i j old;
      }

  pub switched-consistent : IsConsistent g (with_refcount_table H o m)
  switched-consistent = consistent-from g (with_refcount_table H o m) loads was.readable.no_snapshots was.readable.data_inside switched-sound alone single covered
    where
      -- either the new table and blocks reference a cluster once, or its references don't increase
      once : (d : ℕ) → (0 < newly_referenced f H.fields o m (meets H.fields d)) ⊎ (refs f H.fields d ≤ 1) → refs g (with_reftable H.fields o m) d ≤ 1
      once d which =
          let sum : refs g (with_reftable H.fields o m) d + meets H.fields d H.fields.refcount_table_offset (H.fields.refcount_table_clusters * cluster_size H.fields) ≡ refs f H.fields d + newly_referenced f H.fields o m (meets H.fields d) = switched-references d in
          let most : newly_referenced f H.fields o m (meets H.fields d) ≤ 1 = apart d in
          elim (cases_eq (newly_referenced f H.fields o m (meets H.fields d)) 0) [
            | inr some ↦
                let is : newly_referenced f H.fields o m (meets H.fields d) ≢ 0 = some in
                let none : refs f H.fields d ≡ 0 = (free d (omega arith)).0 in
                omega arith
            | inl none ↦ elim which [ inl met ↦ absurd (omega (arith, met)) | inr le ↦ omega (arith, le) ]
          ]

      alone : (d : ℕ) → 0 < structure g (with_reftable H.fields o m) (meets H.fields d) → refs g (with_reftable H.fields o m) d ≤ 1
      alone d some = elim (cases_eq (newly_referenced f H.fields o m (meets H.fields d)) 0) [
        | inr met ↦ let is : newly_referenced f H.fields o m (meets H.fields d) ≢ 0 = met in once d (inl (omega arith))
        | inl none ↦
            let base : structure g (with_reftable H.fields o m) (meets H.fields d) + meets H.fields d H.fields.refcount_table_offset (H.fields.refcount_table_clusters * cluster_size H.fields) ≡ structure f H.fields (meets H.fields d) + newly_referenced f H.fields o m (meets H.fields d) = switched-structure (meets H.fields d) in
            let one : refs f H.fields d ≡ 1 = structure-named-once f H was d (omega arith) in
            once d (inr (omega arith))
      ]

      single : (d : ℕ) → 0 < contents g (with_reftable H.fields o m) (of_copied H.fields (meets H.fields d)) → refs g (with_reftable H.fields o m) d ≤ 1
      single d some =
          let rest : contents g (with_reftable H.fields o m) (of_copied H.fields (meets H.fields d)) ≡ contents f H.fields (of_copied H.fields (meets H.fields d)) = switched-contents (of_copied H.fields (meets H.fields d)) in
          let one : refs f H.fields d ≡ 1 = copied-named-once f H was d (omega arith) in
          once d (inr (omega arith))

      covered : (d : ℕ) → refs g (with_reftable H.fields o m) d ≤ count g (with_reftable H.fields o m) d
      covered d =
          let sum : refs g (with_reftable H.fields o m) d + meets H.fields d H.fields.refcount_table_offset (H.fields.refcount_table_clusters * cluster_size H.fields) ≡ refs f H.fields d + newly_referenced f H.fields o m (meets H.fields d) = switched-references d in
          let most : newly_referenced f H.fields o m (meets H.fields d) ≤ 1 = apart d in
          elim (cases_eq (newly_referenced f H.fields o m (meets H.fields d)) 0) [
            | inl none ↦ let le : refs f H.fields d ≤ count g (with_reftable H.fields o m) d = switched-counted d in omega arith
            | inr met ↦
                let is : newly_referenced f H.fields o m (meets H.fields d) ≢ 0 = met in
                let there = free d (omega arith) in
                let none : refs f H.fields d ≡ 0 = there.0 in
                let some : 1 ≤ count f (with_reftable H.fields o m) d = there.1 in
                let same : count g (with_reftable H.fields o m) d ≡ count f (with_reftable H.fields o m) d = switched-counts d in
                omega arith
          ]

  -- The mapping of each guest cluster is the same.
  pub switched-entry : (guest : ℕ) → entry g (with_reftable H.fields o m) guest ≡ entry f H.fields guest
  switched-entry guest =
      let raw_entries : 0 < entries_of_cluster H.fields = some-words H.fields (consistent-shaped f H was) in
      entry-slot g (with_reftable H.fields o m) guest switched-consistent.readable.tables
      ∙ (same raw_entries ∙ sym (entry-slot f H.fields guest was.readable.tables))
    where
      same : 0 < entries_of_cluster H.fields → guest_slot g (with_reftable H.fields o m) guest ≡ guest_slot f H.fields guest
      same raw_entries = elim (cases_eq (l2_table f H.fields (guest / entries_of_cluster H.fields)) 0) [
        | inl z ↦ guest-slot-none g (with_reftable H.fields o m) guest (switched-tables (guest / entries_of_cluster H.fields) ∙ z) ∙ sym (guest-slot-none f H.fields guest z)
        | inr is ↦
            guest-slot-there g (with_reftable H.fields o m) guest (λ z. is (sym (switched-tables (guest / entries_of_cluster H.fields)) ∙ z))
            ∙ (switched-slots (guest / entries_of_cluster H.fields) (guest % entries_of_cluster H.fields) (guest-live f H.fields guest raw_entries is) ∙ sym (guest-slot-there f H.fields guest is))
      ]

  pub refcount-table-switched : RefcountTableSwitched f g H o m
  refcount-table-switched = record {
    consistent = switched-consistent;
    same_structure_outside = kept;
    raw_entries = words-there;
    tables = switched-tables;
    slots = switched-slots;
    blocks = switched-blocks;
    counts = switched-counts;
    old_counts = switched-old-counts;
    structure = switched-structure;
    contents = switched-contents;
    references = switched-references;
    entries = switched-entry;
    shows = start-values f g H (with_reftable H.fields o m) was out refl refl switched-entry;
    free = start-free f g H was out;
    mapped = start-mapped f g H was out;
  }
