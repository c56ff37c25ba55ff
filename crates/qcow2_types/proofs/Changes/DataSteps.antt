-- A write to a data cluster, or to clusters that nothing references.
use Rattle.std.proofs.Common.{◌≡◌, ◌≢◌, ℕ, ◌+◌, ◌*◌, ◌<◌, ◌≤◌, refl, arith, sym, ◌∙◌, ap, inl, inr}
use Rattle.std.specs.Prelude.{◌/◌, ◌%◌, Bool, true, Some, ◌⊎◌}
use Rattle.std.proofs.lemmas.Bool.{cases_eq, cases_lt}
use Rattle.qcow2_types.specs.Bytes.{Bytes}
use Rattle.qcow2_types.specs.Words.{Mapping, data_at, zeroes, unmapped, is_damaged, l1_entry_valid, reftable_entry_valid}
use Rattle.qcow2_types.specs.Header.{Fields, Header, cluster_size, entries_of_cluster}
use Rattle.qcow2_types.specs.Entries.{entry, l2_table}
use Rattle.qcow2_types.specs.Counts.{count}
use Rattle.qcow2_types.specs.Slots.{slot, Live, over_slots, ValidEntries}
use Rattle.qcow2_types.specs.Frames.{Same, Outside, touches, SameStructureOutside, Skipped, nothing, first_cluster, l1_word, block_word, table, ShowsAs}
use Rattle.qcow2_types.specs.Versions.{KeepsSlots, references_in_either}
use Rattle.qcow2_types.specs.References.{structure, contents, of_mapping, of_copied, meets, refs}
use Rattle.qcow2_types.specs.Consistency.{IsConsistent}
use Rattle.qcow2_types.specs.Steps.{DataWritten, FreeWritten, RunWritten}
use Rattle.qcow2_types.proofs.Counting.Consistent.{header-kept, some-words, meets-own, meets-other, consistent-shaped, structure-named-once, structure-unmapped, copied-named-once, named-counted, consistent-from}
use Rattle.qcow2_types.proofs.Counting.Slots.{contents-slots, slots-same, slot-le}
use Rattle.qcow2_types.proofs.Counting.Either.{structure-same, tables-same, refs-kept, named-clean}
use Rattle.qcow2_types.proofs.Counting.Parts.{kept-all, touches-none, count-kept}
use Rattle.qcow2_types.proofs.Counting.Sound.{sound-words}
use Rattle.qcow2_types.proofs.Changes.WriteBack.{keeps-slots}
use Rattle.qcow2_types.proofs.Changes.DataWrites.{data-write-elsewhere}
use Rattle.qcow2_types.proofs.Showing.Shows.{guest-kept, guest-live, guest-slot-there, guest-slot-none, entries-same, shows-outside, shows-by}
use Rattle.qcow2_types.proofs.Showing.Values.{entry-slot}
use Rattle.qcow2_types.proofs.Counting.Named.{structure-le-refs, copied-named}
use Rattle.qcow2_types.proofs.Changes.Frames.{untouched, touches-cluster}
use Rattle.qcow2_types.proofs.Counting.Views.{run-untouched}
use Rattle.std.proofs.Math.Nat.{mul-le-mul_right}

-- sums over the same mappings are the same
pub contents-kept : (f x : Bytes) (h : Fields) (of : Mapping → ℕ) → KeepsSlots f x h → contents x h of ≡ contents f h of
contents-kept f x h of keeps =
    contents-slots x h of
    ∙ (tables-same (l2_table f h) (l2_table x h) h _ keeps.places.l1
    ∙ (slots-same (l2_table f h) h _ _ (λ i j live. ap of (keeps.slots i j live)) ∙ sym (contents-slots f h of)))

-- If no table entry and no mapping changes, and the refcounts cover the references, the image stays consistent.
module _ (f g : Bytes) (H : Header) (was : IsConsistent f H) (skip : Skipped) (kept : SameStructureOutside f g H.fields skip) (no_l1 : (i : ℕ) → skip ≢ l1_word i) (no_block : (i : ℕ) → skip ≢ block_word i)
    (no_table : (i : ℕ) → skip ≢ table i) where
  pub kept-keeps : KeepsSlots f g H.fields
  kept-keeps = keeps-slots f g H.fields skip kept no_l1 no_block no_table

  pub kept-references : (c : ℕ) → refs g H.fields c ≡ refs f H.fields c
  kept-references c = refs-kept f g H.fields c kept-keeps

  pub kept-sound : ValidEntries g H.fields
  kept-sound =
      let sound : ValidEntries f H.fields = sound-words f H.fields was.readable.tables in
      record {
        l1 = λ i lt. ap (l1_entry_valid H.fields.cluster_bits) (kept.l1 i lt (no_l1 i)) ∙ sound.l1 i lt;
        blocks = λ i lt. ap (reftable_entry_valid H.fields.cluster_bits) (kept.blocks i lt (no_block i)) ∙ sound.blocks i lt;
        slots = λ i j live.
            let live' : Live (l2_table f H.fields) H.fields i j = record { in_l1 = live.in_l1; is_there = (λ e. live.is_there (kept-keeps.places.l1 i ∙ e)); in_table = live.in_table } in
            ap is_damaged (kept-keeps.slots i j live') ∙ sound.slots i j live';
      }

  pub kept-consistent : skip ≢ first_cluster → ((c : ℕ) → refs f H.fields c ≤ count g H.fields c) → IsConsistent g H
  kept-consistent no_start counted = consistent-from g H (header-kept true f g H was.readable.loads (kept.start no_start)) was.readable.no_snapshots was.readable.data_inside kept-sound
      (λ c some.
      let same : structure g H.fields (meets H.fields c) ≡ structure f H.fields (meets H.fields c) = structure-same f g H.fields kept-keeps.places (meets H.fields c) in
      let once : refs f H.fields c ≡ 1 = structure-named-once f H was c (omega arith) in
      let r : refs g H.fields c ≡ refs f H.fields c = kept-references c in
      omega arith)
      (λ c some.
      let same : contents g H.fields (of_copied H.fields (meets H.fields c)) ≡ contents f H.fields (of_copied H.fields (meets H.fields c)) = contents-kept f g H.fields (of_copied H.fields (meets H.fields c)) kept-keeps in
      let once : refs f H.fields c ≡ 1 = copied-named-once f H was c (omega arith) in
      let r : refs g H.fields c ≡ refs f H.fields c = kept-references c in
      omega arith)
      (λ c.
      let r : refs g H.fields c ≡ refs f H.fields c = kept-references c in
      let le : refs f H.fields c ≤ count g H.fields c = counted c in
      omega arith)

  -- a write to a cluster that no mapping references changes nothing for the guest
  pub kept-shows : IsConsistent g H → (c at n : ℕ) → Outside f g at n → c * cluster_size H.fields ≤ at → at + n ≤ (c + 1) * cluster_size H.fields
      → contents f H.fields (of_mapping H.fields (meets H.fields c)) ≡ 0 → (guest : ℕ) → ShowsAs g f H.fields guest
  kept-shows after c at n out low high none guest =
      let some : 0 < entries_of_cluster H.fields = some-words H.fields (consistent-shaped f H was) in
      shows-outside f g H.fields was.readable.tables after.readable.tables some guest (guest-kept f g H.fields kept-keeps some guest) c at n out low high none

-- The write touches no part of the structure.
module _ (f g : Bytes) (H : Header) (was : IsConsistent f H) (kept : SameStructureOutside f g H.fields nothing) where
  pub untouched-keeps : KeepsSlots f g H.fields
  untouched-keeps = kept-keeps f g H was nothing kept (λ i e. cc) (λ i e. cc) (λ i e. cc)

  pub untouched-references : (c : ℕ) → refs g H.fields c ≡ refs f H.fields c
  untouched-references = kept-references f g H was nothing kept (λ i e. cc) (λ i e. cc) (λ i e. cc)

  pub untouched-counts : (c : ℕ) → count g H.fields c ≡ count f H.fields c
  untouched-counts c = count-kept f g H.fields nothing kept c (consistent-shaped f H was) (λ e. cc) (λ e. cc)

  pub untouched-consistent : IsConsistent g H
  untouched-consistent = kept-consistent f g H was nothing kept (λ i e. cc) (λ i e. cc) (λ i e. cc) (λ e. cc)
      (λ c.
      let covered : refs f H.fields c ≤ count f H.fields c = named-counted f H was c in
      let same : count g H.fields c ≡ count f H.fields c = untouched-counts c in
      omega arith)

-- A COPIED cluster is referenced only by its own L2 entry.
module _ (f : Bytes) (H : Header) (was : IsConsistent f H) (c i j : ℕ) (live : Live (l2_table f H.fields) H.fields i j) (marked : of_copied H.fields (meets H.fields c) (slot f H.fields i j) ≡ 1) where
  pub marked-named-once : refs f H.fields c ≡ 1
  marked-named-once =
      let one : of_copied H.fields (meets H.fields c) (slot f H.fields i j) ≤ over_slots (l2_table f H.fields) H.fields (λ k m. of_copied H.fields (meets H.fields c) (slot f H.fields k m)) =
      slot-le (l2_table f H.fields) H.fields (λ k m. of_copied H.fields (meets H.fields c) (slot f H.fields k m)) i j live in
      let all : contents f H.fields (of_copied H.fields (meets H.fields c)) ≡ over_slots (l2_table f H.fields) H.fields (λ k m. of_copied H.fields (meets H.fields c) (slot f H.fields k m)) =
      contents-slots f H.fields (of_copied H.fields (meets H.fields c)) in
      copied-named-once f H was c (omega arith)

  marked-weighs : 1 ≤ of_mapping H.fields (meets H.fields c) (slot f H.fields i j)
  marked-weighs = omega (arith, copied-named H.fields (meets H.fields c) (slot f H.fields i j))

  -- so it contains no header, table or block
  pub marked-apart-from-structure : structure f H.fields (meets H.fields c) ≡ 0
  unfolding refs
  marked-apart-from-structure =
      let one : of_mapping H.fields (meets H.fields c) (slot f H.fields i j) ≤ over_slots (l2_table f H.fields) H.fields (λ k m. of_mapping H.fields (meets H.fields c) (slot f H.fields k m)) =
      slot-le (l2_table f H.fields) H.fields (λ k m. of_mapping H.fields (meets H.fields c) (slot f H.fields k m)) i j live in
      let all : contents f H.fields (of_mapping H.fields (meets H.fields c)) ≡ over_slots (l2_table f H.fields) H.fields (λ k m. of_mapping H.fields (meets H.fields c) (slot f H.fields k m)) =
      contents-slots f H.fields (of_mapping H.fields (meets H.fields c)) in
      let once : structure f H.fields (meets H.fields c) + contents f H.fields (of_mapping H.fields (meets H.fields c)) ≡ 1 = marked-named-once in
      omega (arith, marked-weighs)

  -- A write to this cluster.
  pub marked-written : (g : Bytes) (at n : ℕ) → Outside f g at n → c * cluster_size H.fields ≤ at → at + n ≤ (c + 1) * cluster_size H.fields → DataWritten f g H i j
  marked-written g at n out low high =
      let kept : SameStructureOutside f g H.fields nothing = kept-all f g H.fields at n out (touches-none f H.fields c at n marked-apart-from-structure low high) in
      let keeps : KeepsSlots f g H.fields = untouched-keeps f g H was kept in
      let after : IsConsistent g H = untouched-consistent f g H was kept in
      let some : 0 < entries_of_cluster H.fields = some-words H.fields (consistent-shaped f H was) in
      let clean : references_in_either f f H.fields c ≡ refs f H.fields c = named-clean f f H.fields c (λ k m live'. refl) in
      let once : refs f H.fields c ≡ 1 = marked-named-once in
      let weighs : 1 ≤ of_mapping H.fields (meets H.fields c) (slot f H.fields i j) = marked-weighs in
      record {
        consistent = after;
        same_structure_outside = kept;
        keeps = keeps;
        references = untouched-references f g H was kept;
        counts = untouched-counts f g H was kept;
        entries = λ guest. entries-same f g H.fields was.readable.tables after.readable.tables some guest (guest-kept f g H.fields keeps some guest);
        elsewhere = λ guest apart. data-write-elsewhere f f g H.fields c i j at n (omega arith) live (omega arith) out low high was.readable.tables after.readable.tables some guest apart (guest-kept f g H.fields keeps some);
      }

-- The entry references the cluster as data.
pub data-written : (f : Bytes) (H : Header) → IsConsistent f H → (c i j : ℕ) → Live (l2_table f H.fields) H.fields i j → slot f H.fields i j ≡ data_at c true
    → (g : Bytes) (at n : ℕ) → Outside f g at n → c * cluster_size H.fields ≤ at → at + n ≤ (c + 1) * cluster_size H.fields → DataWritten f g H i j
data-written f H was c i j live names = marked-written f H was c i j live (ap (of_copied H.fields (meets H.fields c)) names ∙ meets-own H.fields c)

-- The entry keeps the cluster as a preallocated zero cluster: the write changes nothing for the guest.
pub kept-zero-written : (f : Bytes) (H : Header) → IsConsistent f H → (c i j : ℕ) → Live (l2_table f H.fields) H.fields i j → slot f H.fields i j ≡ zeroes (Some c) true
    → (g : Bytes) (at n : ℕ) → Outside f g at n → c * cluster_size H.fields ≤ at → at + n ≤ (c + 1) * cluster_size H.fields → FreeWritten f g H
kept-zero-written f H was c i j live names g at n out low high =
    let all : DataWritten f g H i j = marked-written f H was c i j live (ap (of_copied H.fields (meets H.fields c)) names ∙ meets-own H.fields c) g at n out low high in
    record {
      consistent = all.consistent;
      same_structure_outside = all.same_structure_outside;
      keeps = all.keeps;
      references = all.references;
      counts = all.counts;
      shows = λ guest. by all guest (cases_eq (guest / entries_of_cluster H.fields) i) (cases_eq (guest % entries_of_cluster H.fields) j);
    }
  where
    by : DataWritten f g H i j → (guest : ℕ) → (guest / entries_of_cluster H.fields ≡ i) ⊎ (guest / entries_of_cluster H.fields ≢ i) → (guest % entries_of_cluster H.fields ≡ j) ⊎ (guest % entries_of_cluster H.fields ≢ j) → ShowsAs g f H.fields guest
    by all guest (inr row) which = all.elsewhere guest (inl row)
    by all guest (inl row) (inr column) = all.elsewhere guest (inr column)
    by all guest (inl row) (inl column) =
        let some : 0 < entries_of_cluster H.fields = some-words H.fields (consistent-shaped f H was) in
        shows-by f g H.fields was.readable.tables all.consistent.readable.tables some guest (guest-kept f g H.fields all.keeps some guest)
        (λ here d copied is.
        let bad : zeroes (Some c) true ≡ data_at d copied = sym names ∙ (sym (ap (λ k. slot f H.fields k j) row) ∙ (sym (ap (slot f H.fields (guest / entries_of_cluster H.fields)) column) ∙ is)) in
        absurd cc)

-- A cluster that nothing references.
module _ (f : Bytes) (H : Header) (was : IsConsistent f H) (c : ℕ) (not_referenced : refs f H.fields c ≡ 0) where
  -- it contains no header, table or block, and no mapping references it
  pub free-apart-from-structure : structure f H.fields (meets H.fields c) ≡ 0
  unfolding refs
  free-apart-from-structure = let none : structure f H.fields (meets H.fields c) + contents f H.fields (of_mapping H.fields (meets H.fields c)) ≡ 0 = not_referenced in omega arith

  pub free-unmapped : contents f H.fields (of_mapping H.fields (meets H.fields c)) ≡ 0
  unfolding refs
  free-unmapped = let none : structure f H.fields (meets H.fields c) + contents f H.fields (of_mapping H.fields (meets H.fields c)) ≡ 0 = not_referenced in omega arith

  -- A write to this cluster.
  pub free-written : (g : Bytes) (at n : ℕ) → Outside f g at n → c * cluster_size H.fields ≤ at → at + n ≤ (c + 1) * cluster_size H.fields → FreeWritten f g H
  free-written g at n out low high =
      let kept : SameStructureOutside f g H.fields nothing = kept-all f g H.fields at n out (touches-none f H.fields c at n free-apart-from-structure low high) in
      let after : IsConsistent g H = untouched-consistent f g H was kept in
      record {
        consistent = after;
        same_structure_outside = kept;
        keeps = untouched-keeps f g H was kept;
        references = untouched-references f g H was kept;
        counts = untouched-counts f g H was kept;
        shows = kept-shows f g H was nothing kept (λ i e. cc) (λ i e. cc) (λ i e. cc) after c at n out low high free-unmapped;
      }

-- A write to one cluster doesn't change the bytes of the others.
pub other-stays : (f g : Bytes) (h : Fields) (d at n : ℕ) → Outside f g at n → d * cluster_size h ≤ at → at + n ≤ (d + 1) * cluster_size h → (c : ℕ) → c ≢ d → Same f g (c * cluster_size h) (cluster_size h)
other-stays f g h d at n out low high c apart = untouched f g at n (c * cluster_size h) (cluster_size h) out off
  where
    off : touches at n (c * cluster_size h) (cluster_size h) ≡ 0
    off =
        let le : touches at n (c * cluster_size h) (cluster_size h) ≤ meets h d (c * cluster_size h) (cluster_size h) = touches-cluster h d at n low high (c * cluster_size h) (cluster_size h) in
        let none : meets h d (c * cluster_size h) (cluster_size h) ≡ 0 = meets-other h d c apart in
        omega arith

-- A write to a cluster of the structure doesn't change clusters that nothing references,
pub free-stays : (f g : Bytes) (H : Header) (d at n : ℕ) → Outside f g at n → d * cluster_size H.fields ≤ at → at + n ≤ (d + 1) * cluster_size H.fields → 1 ≤ structure f H.fields (meets H.fields d)
    → (c : ℕ) → refs f H.fields c ≡ 0 → Same f g (c * cluster_size H.fields) (cluster_size H.fields)
free-stays f g H d at n out low high weighs c not_referenced = other-stays f g H.fields d at n out low high c apart
  where
    apart : c ≢ d
    apart e =
        let none : refs f H.fields d ≡ 0 = sym (ap (refs f H.fields) e) ∙ not_referenced in
        let le : structure f H.fields (meets H.fields d) ≤ refs f H.fields d = structure-le-refs f H.fields d in
        absurd (omega arith)

-- or clusters that a mapping references
pub data-stays : (f g : Bytes) (H : Header) → IsConsistent f H → (d at n : ℕ) → Outside f g at n → d * cluster_size H.fields ≤ at → at + n ≤ (d + 1) * cluster_size H.fields → 1 ≤ structure f H.fields (meets H.fields d)
    → (c : ℕ) → 0 < contents f H.fields (of_mapping H.fields (meets H.fields c)) → Same f g (c * cluster_size H.fields) (cluster_size H.fields)
data-stays f g H was d at n out low high weighs c references_in_either = other-stays f g H.fields d at n out low high c apart
  where
    apart : c ≢ d
    apart e =
        let none : contents f H.fields (of_mapping H.fields (meets H.fields d)) ≡ 0 = structure-unmapped f H was d weighs in
        let same : contents f H.fields (of_mapping H.fields (meets H.fields c)) ≡ 0 = ap (λ k. contents f H.fields (of_mapping H.fields (meets H.fields k))) e ∙ none in
        absurd (omega arith)

-- A write to clusters c to c + k, which contain no header, table or block.
module _ (f : Bytes) (H : Header) (was : IsConsistent f H) (c k : ℕ) (apart : (d : ℕ) → c ≤ d → d ≤ c + k → structure f H.fields (meets H.fields d) ≡ 0) (g : Bytes) (at n : ℕ) (out : Outside f g at n)
    (low : c * cluster_size H.fields ≤ at) (high : at + n ≤ (c + k + 1) * cluster_size H.fields) where
  -- the write is inside the run
  run-out : Outside f g (c * cluster_size H.fields) ((k + 1) * cluster_size H.fields)
  run-out p (inl before) = out p (inl (omega arith))
  run-out p (inr behind) = out p (inr (omega arith))

  -- the write touches no part of the structure
  run-kept : SameStructureOutside f g H.fields nothing
  run-kept = kept-all f g H.fields (c * cluster_size H.fields) ((k + 1) * cluster_size H.fields) run-out (run-untouched f H.fields c k apart)

  -- a cluster outside the run keeps its bytes
  run-apart : (d : ℕ) → (d < c) ⊎ (c + k < d) → Same f g (d * cluster_size H.fields) (cluster_size H.fields)
  run-apart d (inl lt) =
      let lt' : d + 1 ≤ c = omega arith in
      let below : (d + 1) * cluster_size H.fields ≤ c * cluster_size H.fields = mul-le-mul_right (cluster_size H.fields) lt' in
      λ m less. out (d * cluster_size H.fields + m) (inl (omega arith))
  run-apart d (inr lt) =
      let lt' : c + k + 1 ≤ d = omega arith in
      let above : (c + k + 1) * cluster_size H.fields ≤ d * cluster_size H.fields = mul-le-mul_right (cluster_size H.fields) lt' in
      λ m less. out (d * cluster_size H.fields + m) (inr (omega arith))

  -- The image stays consistent, and guest clusters with other data clusters read as before.
  pub run-written : RunWritten f g H c k
  run-written =
      let after : IsConsistent g H = untouched-consistent f g H was run-kept in
      let keeps : KeepsSlots f g H.fields = untouched-keeps f g H was run-kept in
      let some : 0 < entries_of_cluster H.fields = some-words H.fields (consistent-shaped f H was) in
      record {
        consistent = after;
        same_structure_outside = run-kept;
        keeps = keeps;
        references = untouched-references f g H was run-kept;
        counts = untouched-counts f g H was run-kept;
        entries = λ guest. entries-same f g H.fields was.readable.tables after.readable.tables some guest (guest-kept f g H.fields keeps some guest);
        elsewhere = λ guest off.
            shows-by f g H.fields was.readable.tables after.readable.tables some guest (guest-kept f g H.fields keeps some guest)
            (λ live d copied names. run-apart d (off d copied (entry-slot f H.fields guest was.readable.tables ∙ (guest-slot-there f H.fields guest live.is_there ∙ names))));
      }

-- The data cluster of a guest cluster is referenced by an L2 entry.
pub data-named : (f : Bytes) (H : Header) → IsConsistent f H → (guest d : ℕ) (copied : Bool) → entry f H.fields guest ≡ data_at d copied → 1 ≤ contents f H.fields (of_mapping H.fields (meets H.fields d))
data-named f H was guest d copied is = elim (cases_eq (l2_table f H.fields (guest / entries_of_cluster H.fields)) 0) [
  | inl none ↦ let bad : unmapped ≡ data_at d copied = sym (guest-slot-none f H.fields guest none) ∙ (sym (entry-slot f H.fields guest was.readable.tables) ∙ is) in absurd cc
  | inr there ↦
      let live : Live (l2_table f H.fields) H.fields (guest / entries_of_cluster H.fields) (guest % entries_of_cluster H.fields) = guest-live f H.fields guest (some-words H.fields (consistent-shaped f H was)) there in
      let names : slot f H.fields (guest / entries_of_cluster H.fields) (guest % entries_of_cluster H.fields) ≡ data_at d copied = sym (guest-slot-there f H.fields guest there) ∙ (sym (entry-slot f H.fields guest was.readable.tables) ∙ is) in
      let all : contents f H.fields (of_mapping H.fields (meets H.fields d)) ≡ over_slots (l2_table f H.fields) H.fields (λ r m. of_mapping H.fields (meets H.fields d) (slot f H.fields r m)) = contents-slots f H.fields (of_mapping H.fields (meets H.fields d)) in
      let one : of_mapping H.fields (meets H.fields d) (slot f H.fields (guest / entries_of_cluster H.fields) (guest % entries_of_cluster H.fields)) ≤ over_slots (l2_table f H.fields) H.fields (λ r m. of_mapping H.fields (meets H.fields d) (slot f H.fields r m)) =
      slot-le (l2_table f H.fields) H.fields (λ r m. of_mapping H.fields (meets H.fields d) (slot f H.fields r m)) (guest / entries_of_cluster H.fields) (guest % entries_of_cluster H.fields) live in
      let here : of_mapping H.fields (meets H.fields d) (slot f H.fields (guest / entries_of_cluster H.fields) (guest % entries_of_cluster H.fields)) ≡ 1 = ap (of_mapping H.fields (meets H.fields d)) names ∙ meets-own H.fields d in
      omega arith
]

-- A write to clusters c to c + k, which nothing references.
pub free-run-written : (f : Bytes) (H : Header) → IsConsistent f H → (c k : ℕ) → ((d : ℕ) → c ≤ d → d ≤ c + k → refs f H.fields d ≡ 0) → (g : Bytes) (at n : ℕ) → Outside f g at n
    → c * cluster_size H.fields ≤ at → at + n ≤ (c + k + 1) * cluster_size H.fields → FreeWritten f g H
free-run-written f H was c k not_referenced g at n out low high =
    let all : RunWritten f g H c k = run-written f H was c k (λ d from upto. free-apart-from-structure f H was d (not_referenced d from upto)) g at n out low high in
    record {
      consistent = all.consistent;
      same_structure_outside = all.same_structure_outside;
      keeps = all.keeps;
      references = all.references;
      counts = all.counts;
      shows = λ guest. all.elsewhere guest (λ d copied is. elim (cases_lt d c) [
        | inl lt ↦ inl lt
        | inr from ↦ elim (cases_lt (c + k) d) [
          | inl lt ↦ inr lt
          | inr upto ↦
              let none : contents f H.fields (of_mapping H.fields (meets H.fields d)) ≡ 0 = free-unmapped f H was d (not_referenced d from upto) in
              let references_in_either : 1 ≤ contents f H.fields (of_mapping H.fields (meets H.fields d)) = data-named f H was guest d copied is in
              absurd (omega arith)
        ]
      ]);
    }
