-- A write to a refcount block.
use Rattle.std.proofs.Common.{◌≡◌, ◌≢◌, ℕ, suc, ◌+◌, ◌*◌, ◌/◌, ◌%◌, ◌^◌, ◌<◌, ◌≤◌, refl, arith, sym, subst, ◌∙◌, ap, List, [], ◌∷◌, length, inl, inr}
use Rattle.std.specs.Prelude.{true, ◌==◌, nat_lt, nat_le, ◌⊎◌, IsTrue, if◌then◌else◌}
use Rattle.std.proofs.lemmas.Bool.{cases_eq, cases_lt, lt-ltb}
use Rattle.std.proofs.lemmas.Bool.Decides.{nat_tests}
use Rattle.std.proofs.lemmas.Nat.{mod_below, pow_pos}
use Rattle.std.proofs.Math.Nat.{div-mul-le_self, mul-le-mul_right, div-add-mod}
use Rattle.qcow2_types.specs.Bytes.{Bytes, be, raw_entry, splice, bytes_of}
use Rattle.qcow2_types.specs.Words.{reftable_entry_valid, is_cluster_offset}
use Rattle.qcow2_types.specs.Header.{Fields, Header, Shaped, cluster_size, refcount_table_entries}
use Rattle.qcow2_types.specs.Counts.{block_at, count, counter, counter_of, counter_bits, counters_of_block, wide_counter}
use Rattle.qcow2_types.specs.Slots.{ValidEntries}
use Rattle.qcow2_types.specs.Frames.{Outside, touches, SameStructureOutside, Skipped, block}
use Rattle.qcow2_types.specs.References.{structure, meets, refs}
use Rattle.qcow2_types.specs.Consistency.{IsConsistent}
use Rattle.qcow2_types.specs.Steps.{BlockWritten, CounterWritten}
use Rattle.qcow2_types.proofs.Counting.Consistent.{meets-own, consistent-shaped, structure-unmapped, named-counted}
use Rattle.qcow2_types.proofs.Counting.Counters.{some-counters, whole, counter-moved}
use Rattle.qcow2_types.proofs.Changes.DataSteps.{kept-keeps, kept-references, kept-consistent, kept-shows, free-stays, data-stays}
use Rattle.qcow2_types.proofs.Changes.Frames.{block-part, splice-is-outside}
use Rattle.qcow2_types.proofs.Counting.Parts.{block-inside, kept-block, touches-once, count-kept, block_at-kept}
use Rattle.qcow2_types.proofs.Counting.Sound.{sound-words}
use Rattle.qcow2_types.proofs.Numbers.Splices.{be-splice-same, be-splice-apart, splice-inside}
use Rattle.qcow2_types.proofs.Changes.WriteBack.{place-whole}

-- the offset of a block is one of a cluster
pub block-place : (f : Bytes) (h : Fields) (b : ℕ) → ValidEntries f h → b < refcount_table_entries h → IsTrue (is_cluster_offset h.cluster_bits (block_at f h b))
block-place f h b sound lt =
    let within : nat_lt b (refcount_table_entries h) ≡ true = lt-ltb _ _ lt in
    let here : reftable_entry_valid h.cluster_bits (raw_entry f h.refcount_table_offset b) ≡ true = sound.blocks b lt in
    rw within (grind (arith, nat_tests))

module _ (f : Bytes) (H : Header) (was : IsConsistent f H) (b : ℕ) (there : block_at f H.fields b ≢ 0) where
  block-begin : block_at f H.fields b / cluster_size H.fields * cluster_size H.fields ≡ block_at f H.fields b
  block-begin = place-whole H.fields.cluster_bits (block_at f H.fields b) (block-place f H.fields b (sound-words f H.fields was.readable.tables) (block-inside f H.fields b there))

  -- the structure has weight in the block's cluster
  block-weighs : 1 ≤ structure f H.fields (meets H.fields (block_at f H.fields b / cluster_size H.fields))
  block-weighs =
      let part : meets H.fields (block_at f H.fields b / cluster_size H.fields) (block_at f H.fields b) (cluster_size H.fields) ≤ structure f H.fields (meets H.fields (block_at f H.fields b / cluster_size H.fields)) =
      block-part f H.fields (meets H.fields (block_at f H.fields b / cluster_size H.fields)) b (block-inside f H.fields b there) there in
      let own : meets H.fields (block_at f H.fields b / cluster_size H.fields) (block_at f H.fields b / cluster_size H.fields * cluster_size H.fields) (cluster_size H.fields) ≡ 1 =
      meets-own H.fields (block_at f H.fields b / cluster_size H.fields) in
      let here : meets H.fields (block_at f H.fields b / cluster_size H.fields) (block_at f H.fields b) (cluster_size H.fields) ≡ 1 =
      ap (λ p. meets H.fields (block_at f H.fields b / cluster_size H.fields) p (cluster_size H.fields)) (sym block-begin) ∙ own in
      omega arith

  module _ (g : Bytes) where
    -- a write to the block changes no other part of the structure
    pub block-kept : (at n : ℕ) → 0 < n → Outside f g at n → block_at f H.fields b ≤ at → at + n ≤ block_at f H.fields b + cluster_size H.fields → SameStructureOutside f g H.fields (block b)
    block-kept at n some out low high =
        let begin : block_at f H.fields b / cluster_size H.fields * cluster_size H.fields ≡ block_at f H.fields b = block-begin in
        let once : structure f H.fields (touches at n) ≤ 1 = touches-once f H.fields (block_at f H.fields b / cluster_size H.fields) at n (was.structure_apart _) (omega arith) (omega arith) in
        kept-block f g H.fields at n out some once b (block-inside f H.fields b there) there low high

    -- a write of at least one byte
    some-written : (at n : ℕ) → 0 < n → Outside f g at n → block_at f H.fields b ≤ at → at + n ≤ block_at f H.fields b + cluster_size H.fields
        → ((c : ℕ) → c / counters_of_block H.fields ≡ b → refs f H.fields c ≤ count g H.fields c) → BlockWritten f g H b
    some-written at n some out low high covered =
        let begin : block_at f H.fields b / cluster_size H.fields * cluster_size H.fields ≡ block_at f H.fields b = block-begin in
        let kept : SameStructureOutside f g H.fields (block b) = block-kept at n some out low high in
        let counts : (c : ℕ) → c / counters_of_block H.fields ≢ b → count g H.fields c ≡ count f H.fields c =
        (λ c apart. count-kept f g H.fields (block b) kept c (consistent-shaped f H was) (λ e. cc) (λ e. apart (sym (ap number e)))) in
        let after : IsConsistent g H = kept-consistent f g H was (block b) kept (λ i e. cc) (λ i e. cc) (λ i e. cc) (λ e. cc) (all counts) in
        record {
          consistent = after;
          same_structure_outside = kept;
          keeps = kept-keeps f g H was (block b) kept (λ i e. cc) (λ i e. cc) (λ i e. cc);
          references = kept-references f g H was (block b) kept (λ i e. cc) (λ i e. cc) (λ i e. cc);
          counts = counts;
          shows = kept-shows f g H was (block b) kept (λ i e. cc) (λ i e. cc) (λ i e. cc) after (block_at f H.fields b / cluster_size H.fields) at n out (omega arith) (omega arith) (structure-unmapped f H was _ block-weighs);
          free = free-stays f g H (block_at f H.fields b / cluster_size H.fields) at n out (omega arith) (omega arith) block-weighs;
          mapped = data-stays f g H was (block_at f H.fields b / cluster_size H.fields) at n out (omega arith) (omega arith) block-weighs;
        }
      where
        number : Skipped → ℕ
        number (block m) = m
        number _ = b

        all : ((c : ℕ) → c / counters_of_block H.fields ≢ b → count g H.fields c ≡ count f H.fields c) → (c : ℕ) → refs f H.fields c ≤ count g H.fields c
        all counts c = elim (cases_eq (c / counters_of_block H.fields) b) [
          | inl e ↦ covered c e
          | inr apart ↦
              let same : count g H.fields c ≡ count f H.fields c = counts c apart in
              let le : refs f H.fields c ≤ count f H.fields c = named-counted f H was c in
              omega arith
        ]

    -- A write to the block after which its refcounts cover the references.
    pub block-written : (at n : ℕ) → Outside f g at n → block_at f H.fields b ≤ at → at + n ≤ block_at f H.fields b + cluster_size H.fields
        → ((c : ℕ) → c / counters_of_block H.fields ≡ b → refs f H.fields c ≤ count g H.fields c) → BlockWritten f g H b
    block-written at n out low high covered = elim (cases_lt 0 n) [
      | inl some ↦ some-written at n some out low high covered
      | inr none ↦
          let size : 0 < cluster_size H.fields = pow_pos H.fields.cluster_bits in
          some-written (block_at f H.fields b) 1 (omega arith) (λ p apart. out p (anywhere none p)) (omega arith) (omega arith) covered
    ]
      where
        anywhere : n ≤ 0 → (p : ℕ) → (p < at) ⊎ (at + n ≤ p)
        anywhere none p = elim (cases_lt p at) [ inl lt ↦ inl lt | inr le ↦ inr (omega arith) ]

-- Refcounts of 8 bits or more: one is written, and each other one is the same.
module _ (f : Bytes) (h : Fields) (block i : ℕ) (bytes : List ℕ) (wide : 8 ≤ counter_bits h) (size : length bytes ≡ counter_bits h / 8) where
  abbrev counted : Bytes
  counted = splice f (block + i * (counter_bits h / 8)) bytes

  -- a refcount of 8 bits or more is a big-endian number
  wide-counter-is : (x : Bytes) (k : ℕ) → counter x h block k ≡ wide_counter x (counter_bits h) block k
  unfolding counter
  wide-counter-is x k = let test : nat_le 8 (counter_bits h) ≡ true = grind (arith, nat_tests) in rw test refl

  pub counter-written : counter counted h block i ≡ be (bytes_of bytes) 0 (length bytes)
  counter-written = wide-counter-is counted i ∙ (ap (be counted (block + i * (counter_bits h / 8))) (sym size) ∙ be-splice-same f (block + i * (counter_bits h / 8)) bytes)

  pub counter-other : (k : ℕ) → k ≢ i → counter counted h block k ≡ counter f h block k
  counter-other k apart = wide-counter-is counted k ∙ (be-splice-apart f (block + i * (counter_bits h / 8)) bytes (block + k * (counter_bits h / 8)) (counter_bits h / 8) (beside (cases_lt k i)) ∙ sym (wide-counter-is f k))
    where
      beside : (k < i) ⊎ (i ≤ k) → (block + k * (counter_bits h / 8) + counter_bits h / 8 ≤ block + i * (counter_bits h / 8)) ⊎ (block + i * (counter_bits h / 8) + length bytes ≤ block + k * (counter_bits h / 8))
      beside (inl lt) = let lt' : k + 1 ≤ i = omega arith in let le : (k + 1) * (counter_bits h / 8) ≤ i * (counter_bits h / 8) = mul-le-mul_right (counter_bits h / 8) lt' in inl (omega arith)
      beside (inr ge) = let lt' : i + 1 ≤ k = omega arith in let le : (i + 1) * (counter_bits h / 8) ≤ k * (counter_bits h / 8) = mul-le-mul_right (counter_bits h / 8) lt' in inr (omega arith)

-- the refcount of a cluster whose block exists
pub count-there : (f : Bytes) (h : Fields) (c : ℕ) → block_at f h (c / counters_of_block h) ≢ 0 → count f h c ≡ counter f h (block_at f h (c / counters_of_block h)) (c % counters_of_block h)
unfolding count
count-there f h c there = choose (block_at f h (c / counters_of_block h)) _ there
  where
    choose : (t x : ℕ) → t ≢ 0 → (if t == 0 then 0 else x) ≡ x
    choose t x apart = grind (arith, nat_tests)

-- The bytes of a block were written at an offset: the refcounts there are those in the bytes.
pub counters-written : (f : Bytes) (h : Fields) (place : ℕ) (bytes : List ℕ) → length bytes ≡ cluster_size h → (i : ℕ) → i < counters_of_block h → counter (splice f place bytes) h place i ≡ counter_of (bytes_of bytes) (counter_bits h) 0 i
unfolding counter
counters-written f h place bytes long i lt =
    let a : suc i * counter_bits h ≤ counters_of_block h * counter_bits h = mul-le-mul_right (counter_bits h) lt in
    let all : counters_of_block h * counter_bits h ≤ cluster_size h * 8 = div-mul-le_self (cluster_size h * 8) (counter_bits h) in
    let room : i * 2 ^ h.refcount_order + 2 ^ h.refcount_order ≤ length bytes * 8 = omega arith in
    counter-moved (bytes_of bytes) (splice f place bytes) h.refcount_order 0 place (length bytes) i room (λ k less.
    let zeroth : 0 + k ≡ k = omega arith in
    splice-inside f place bytes k less ∙ ap (bytes_of bytes) (sym zeroth))

-- A whole block was written: its clusters have the refcounts in the bytes.
pub block-counts : (f : Bytes) (H : Header) → IsConsistent f H → (b : ℕ) → block_at f H.fields b ≢ 0 → (bytes : List ℕ) → length bytes ≡ cluster_size H.fields → (c : ℕ) → c / counters_of_block H.fields ≡ b
    → count (splice f (block_at f H.fields b) bytes) H.fields c ≡ counter_of (bytes_of bytes) (counter_bits H.fields) 0 (c % counters_of_block H.fields)
block-counts f H was b there bytes long c e =
    let g : Bytes = splice f (block_at f H.fields b) bytes in
    let size : 0 < cluster_size H.fields = pow_pos H.fields.cluster_bits in
    let shaped : Shaped H.fields = consistent-shaped f H was in
    let out : Outside f g (block_at f H.fields b) (length bytes) = splice-is-outside f (block_at f H.fields b) bytes in
    let kept : SameStructureOutside f g H.fields (block b) = block-kept f H was b there g (block_at f H.fields b) (length bytes) (omega arith) out (omega arith) (omega arith) in
    let at : block_at g H.fields (c / counters_of_block H.fields) ≡ block_at f H.fields b = ap (block_at g H.fields) e ∙ block_at-kept f g H.fields (block b) kept b (λ e. cc) in
    let is : block_at g H.fields (c / counters_of_block H.fields) ≢ 0 = λ z. there (sym at ∙ z) in
    count-there g H.fields c is
    ∙ (ap (λ p. counter g H.fields p (c % counters_of_block H.fields)) at
    ∙ counters-written f H.fields (block_at f H.fields b) bytes long (c % counters_of_block H.fields) (mod_below c (counters_of_block H.fields) (some-counters H.fields shaped)))

-- a refcount of 8 bits or more is inside its block
pub counter-room : (h : Fields) (i : ℕ) → i < counters_of_block h → 8 ≤ counter_bits h → i * (counter_bits h / 8) + counter_bits h / 8 ≤ cluster_size h
counter-room h i lt wide =
    let a : suc i * counter_bits h ≤ counters_of_block h * counter_bits h = mul-le-mul_right (counter_bits h) lt in
    let b : counters_of_block h * counter_bits h ≤ cluster_size h * 8 = div-mul-le_self (cluster_size h * 8) (counter_bits h) in
    let room : i * counter_bits h + counter_bits h ≤ cluster_size h * 8 = omega arith in
    let w : 2 ^ h.refcount_order / 8 * 8 ≡ 2 ^ h.refcount_order = whole h.refcount_order wide in
    let d : ℕ = 2 ^ h.refcount_order / 8 in
    let all : i * (d * 8) + d * 8 ≤ cluster_size h * 8 = rw w room in
    omega arith

-- The refcount of cluster c is set to a number.
module _ (f : Bytes) (H : Header) (was : IsConsistent f H) (c : ℕ) (there : block_at f H.fields (c / counters_of_block H.fields) ≢ 0) (bytes : List ℕ)
    (wide : 8 ≤ counter_bits H.fields) (size : length bytes ≡ counter_bits H.fields / 8) where
  abbrev set : Bytes
  set = splice f (block_at f H.fields (c / counters_of_block H.fields) + c % counters_of_block H.fields * (counter_bits H.fields / 8)) bytes

  -- the refcount is inside its block
  inside : c % counters_of_block H.fields * (counter_bits H.fields / 8) + length bytes ≤ cluster_size H.fields
  inside =
      let below : c % counters_of_block H.fields < counters_of_block H.fields = mod_below c (counters_of_block H.fields) (some-counters H.fields (consistent-shaped f H was)) in
      let room : c % counters_of_block H.fields * (counter_bits H.fields / 8) + counter_bits H.fields / 8 ≤ cluster_size H.fields = counter-room H.fields (c % counters_of_block H.fields) below wide in
      omega arith

  -- the rest of the structure is the same
  set-kept : SameStructureOutside f set H.fields (block (c / counters_of_block H.fields))
  set-kept = block-kept f H was (c / counters_of_block H.fields) there set _ (length bytes) (omega arith) (splice-is-outside f _ bytes) (omega arith) (omega (arith, inside))

  -- and so are the offsets of all blocks
  set-block : (b : ℕ) → block_at set H.fields b ≡ block_at f H.fields b
  set-block b = block_at-kept f set H.fields (block (c / counters_of_block H.fields)) set-kept b (λ e. cc)

  -- the refcount of a cluster of the same block, after the write
  set-count : (d : ℕ) → d / counters_of_block H.fields ≡ c / counters_of_block H.fields
      → count set H.fields d ≡ counter set H.fields (block_at f H.fields (c / counters_of_block H.fields)) (d % counters_of_block H.fields)
  set-count d same =
      count-there set H.fields d (λ e. there (sym (ap (block_at f H.fields) same) ∙ (sym (set-block (d / counters_of_block H.fields)) ∙ e)))
      ∙ ap (λ b. counter set H.fields b (d % counters_of_block H.fields)) (set-block (d / counters_of_block H.fields) ∙ ap (block_at f H.fields) same)

  -- and before the write
  was-count : (d : ℕ) → d / counters_of_block H.fields ≡ c / counters_of_block H.fields
      → count f H.fields d ≡ counter f H.fields (block_at f H.fields (c / counters_of_block H.fields)) (d % counters_of_block H.fields)
  was-count d same =
      count-there f H.fields d (λ e. there (sym (ap (block_at f H.fields) same) ∙ e))
      ∙ ap (λ b. counter f H.fields b (d % counters_of_block H.fields)) (ap (block_at f H.fields) same)

  pub count-written : count set H.fields c ≡ be (bytes_of bytes) 0 (length bytes)
  count-written = set-count c refl ∙ counter-written f H.fields (block_at f H.fields (c / counters_of_block H.fields)) (c % counters_of_block H.fields) bytes wide size

  pub count-other : (d : ℕ) → d ≢ c → count set H.fields d ≡ count f H.fields d
  count-other d apart = elim (cases_eq (d / counters_of_block H.fields) (c / counters_of_block H.fields)) [
    | inl same ↦ set-count d same ∙ (counter-other f H.fields (block_at f H.fields (c / counters_of_block H.fields)) (c % counters_of_block H.fields) bytes wide size (d % counters_of_block H.fields) (λ e. apart (whole-of same e)) ∙ sym (was-count d same))
    | inr other ↦ count-kept f set H.fields (block (c / counters_of_block H.fields)) set-kept d (consistent-shaped f H was) (λ e. cc) (λ e. other (sym (ap number e)))
  ]
    where
      number : Skipped → ℕ
      number (block m) = m
      number _ = 0

      whole-of : d / counters_of_block H.fields ≡ c / counters_of_block H.fields → d % counters_of_block H.fields ≡ c % counters_of_block H.fields → d ≡ c
      whole-of q r = sym (div-add-mod d (counters_of_block H.fields)) ∙ (ap (λ x. counters_of_block H.fields * x + d % counters_of_block H.fields) q ∙ (ap (λ x. counters_of_block H.fields * (c / counters_of_block H.fields) + x) r ∙ div-add-mod c (counters_of_block H.fields)))

  -- The image stays consistent if the number covers the references of c.
  pub counter-set : refs f H.fields c ≤ be (bytes_of bytes) 0 (length bytes) → CounterWritten f set H c (be (bytes_of bytes) 0 (length bytes))
  counter-set covered = record {
    block = block-written f H was (c / counters_of_block H.fields) there set _ (length bytes) (splice-is-outside f _ bytes) (omega arith) (omega (arith, inside)) (λ d same. all d);
    here = count-written;
    others = count-other;
  }
    where
      all : (d : ℕ) → refs f H.fields d ≤ count set H.fields d
      all d = elim (cases_eq d c) [
        | inl e ↦ subst (λ x. refs f H.fields x ≤ count set H.fields x) (sym e) (let here : count set H.fields c ≡ be (bytes_of bytes) 0 (length bytes) = count-written in omega arith)
        | inr apart ↦ let same : count set H.fields d ≡ count f H.fields d = count-other d apart in let le : refs f H.fields d ≤ count f H.fields d = named-counted f H was d in omega arith
      ]

-- A refcount of 16 bits that is 0 is set to 1.
pub counter-raised : (f : Bytes) (H : Header) → IsConsistent f H → (c : ℕ) → H.fields.refcount_order ≡ 4 → block_at f H.fields (c / counters_of_block H.fields) ≢ 0 → count f H.fields c ≡ 0
    → CounterWritten f (splice f (block_at f H.fields (c / counters_of_block H.fields) + c % counters_of_block H.fields * 2) (0 ∷ 1 ∷ [])) H c 1
unfolding be
counter-raised f H was c order there none =
    let width : counter_bits H.fields ≡ 16 = ap (λ o. 2 ^ o) order in
    let bytes : counter_bits H.fields / 8 ≡ 2 = ap (λ o. 2 ^ o / 8) order in
    let le : refs f H.fields c ≤ count f H.fields c = named-counted f H was c in
    subst (λ n. CounterWritten f (splice f (block_at f H.fields (c / counters_of_block H.fields) + c % counters_of_block H.fields * n) (0 ∷ 1 ∷ [])) H c 1) bytes
    (counter-set f H was c there (0 ∷ 1 ∷ []) (omega arith) (sym bytes) (omega arith))
