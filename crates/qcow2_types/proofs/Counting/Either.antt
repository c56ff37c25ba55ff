-- The references of a file and of the dirty tables to be written to it, where an entry counts once for both versions.
use Rattle.std.proofs.Common.{◌≡◌, ℕ, ◌+◌, ◌≤◌, refl, arith, ap, sym, ◌∙◌, inl, inr}
use Rattle.std.specs.Prelude.{◌⊎◌}
use Rattle.std.proofs.Math.Nat.{le-max_left, le-max_right, max-le}
use Rattle.qcow2_types.specs.Bytes.{Bytes, sum_below}
use Rattle.qcow2_types.specs.Words.{Mapping}
use Rattle.qcow2_types.specs.Header.{Fields, entries_of_cluster, refcount_table_entries}
use Rattle.qcow2_types.specs.Entries.{l2_table}
use Rattle.qcow2_types.specs.Counts.{block_at, count}
use Rattle.qcow2_types.specs.References.{Weight, structure, of_cluster, contents, of_mapping, meets, refs}
use Rattle.qcow2_types.proofs.Numbers.Sums.{sum-same}
use Rattle.qcow2_types.proofs.Counting.Slots.{contents-slots, slots-mono, slots-same, slots-change}
use Rattle.qcow2_types.specs.Slots.{slot, Live, over_slots, or_none}
use Rattle.qcow2_types.specs.Versions.{of_either, references_in_either, SamePlaces, IsBetween, BlocksFirst, TablesFirst, KeepsSlots, ChangesSlot}

-- the weight of the structure is the same if tables and blocks are at the same offsets
pub structure-same : (f g : Bytes) (h : Fields) → SamePlaces f g h → (w : Weight) → structure g h w ≡ structure f h w
unfolding structure
structure-same f g h places w =
    let blocks : sum_below (refcount_table_entries h) (λ k. of_cluster h w (block_at g h k)) ≡ sum_below (refcount_table_entries h) (λ k. of_cluster h w (block_at f h k)) =
    sum-same _ _ _ (λ k lt. ap (of_cluster h w) (places.blocks k)) in
    let tables : sum_below h.l1_entries (λ k. of_cluster h w (l2_table g h k)) ≡ sum_below h.l1_entries (λ k. of_cluster h w (l2_table f h k)) =
    sum-same _ _ _ (λ k lt. ap (of_cluster h w) (places.l1 k)) in
    omega arith

-- sums over the entries of the same tables
pub tables-same : (s t : ℕ → ℕ) (h : Fields) (p : ℕ → ℕ → ℕ) → ((i : ℕ) → t i ≡ s i) → over_slots t h p ≡ over_slots s h p
unfolding over_slots
tables-same s t h p same = sum-same _ _ _ (λ i lt. ap (λ x. or_none x (sum_below (entries_of_cluster h) (λ j. p i j))) (same i))

-- the weight of an entry in one version is at most its weight in both
one-of : (h : Fields) (w : Weight) (m n x : Mapping) → (x ≡ m) ⊎ (x ≡ n) → of_mapping h w x ≤ of_either h w m n
one-of h w m n x (inl e) = rw e (le-max_left (of_mapping h w m) (of_mapping h w n))
one-of h w m n x (inr e) = rw e (le-max_right (of_mapping h w m) (of_mapping h w n))

-- Whichever tables have been written, no cluster has more references.
pub refs-between : (f x g : Bytes) (h : Fields) (c : ℕ) → IsBetween f x g h → refs x h c ≤ references_in_either f g h c
unfolding refs references_in_either
refs-between f x g h c between =
    let w : Weight = meets h c in
    let base : structure x h (meets h c) ≡ structure f h (meets h c) = structure-same f x h between.places (meets h c) in
    let e : contents x h (of_mapping h (meets h c)) ≡ over_slots (l2_table f h) h (λ i j. of_mapping h (meets h c) (slot x h i j)) =
    contents-slots x h (of_mapping h (meets h c)) ∙ tables-same (l2_table f h) (l2_table x h) h _ between.places.l1 in
    let le : over_slots (l2_table f h) h (λ i j. of_mapping h (meets h c) (slot x h i j)) ≤ over_slots (l2_table f h) h (λ i j. of_either h (meets h c) (slot f h i j) (slot g h i j)) =
    slots-mono (l2_table f h) h _ _ (λ i j live. one-of h (meets h c) (slot f h i j) (slot g h i j) (slot x h i j) (between.slots i j live)) in
    omega arith

pub places-refl : (f : Bytes) (h : Fields) → SamePlaces f f h
places-refl f h = record { l1 = λ i. refl; blocks = λ i. refl }

-- the references of the file are at most those of both versions
pub refs-file : (f g : Bytes) (h : Fields) (c : ℕ) → refs f h c ≤ references_in_either f g h c
refs-file f g h c = refs-between f f g h c record { places = places-refl f h; slots = λ i j live. inl refl }

-- and so are those of the dirty version
pub refs-cached : (f g : Bytes) (h : Fields) (c : ℕ) → SamePlaces f g h → refs g h c ≤ references_in_either f g h c
refs-cached f g h c places = refs-between f g g h c record { places = places; slots = λ i j live. inr refl }

-- writing tables back never increases the references of both versions
pub named-falls : (f x g : Bytes) (h : Fields) (c : ℕ) → IsBetween f x g h → references_in_either x g h c ≤ references_in_either f g h c
unfolding references_in_either
named-falls f x g h c between =
    let base : structure x h (meets h c) ≡ structure f h (meets h c) = structure-same f x h between.places (meets h c) in
    let e : over_slots (l2_table x h) h (λ i j. of_either h (meets h c) (slot x h i j) (slot g h i j)) ≡ over_slots (l2_table f h) h (λ i j. of_either h (meets h c) (slot x h i j) (slot g h i j)) =
    tables-same (l2_table f h) (l2_table x h) h _ between.places.l1 in
    let le : over_slots (l2_table f h) h (λ i j. of_either h (meets h c) (slot x h i j) (slot g h i j)) ≤ over_slots (l2_table f h) h (λ i j. of_either h (meets h c) (slot f h i j) (slot g h i j)) =
    slots-mono (l2_table f h) h _ _ (λ i j live. max-le (one-of h (meets h c) (slot f h i j) (slot g h i j) (slot x h i j) (between.slots i j live)) (le-max_right _ _)) in
    omega arith

-- if one dirty entry changes, the references of both versions change by that entry
pub named-change : (f g g' : Bytes) (h : Fields) (i j c : ℕ) → ChangesSlot f g g' h i j
    → references_in_either f g' h c + of_either h (meets h c) (slot f h i j) (slot g h i j) ≡ references_in_either f g h c + of_either h (meets h c) (slot f h i j) (slot g' h i j)
unfolding references_in_either
named-change f g g' h i j c step =
    let all : over_slots (l2_table f h) h (λ k m. of_either h (meets h c) (slot f h k m) (slot g' h k m)) + of_either h (meets h c) (slot f h i j) (slot g h i j)
    ≡ over_slots (l2_table f h) h (λ k m. of_either h (meets h c) (slot f h k m) (slot g h k m)) + of_either h (meets h c) (slot f h i j) (slot g' h i j) =
    slots-change (l2_table f h) h _ _ i j step.live (λ k m live apart. ap (of_either h (meets h c) (slot f h k m)) (step.others k m live apart)) in
    omega arith

-- if one entry changes, the references change by its old and new mappings
pub refs-change : (f g g' : Bytes) (h : Fields) (i j c : ℕ) → SamePlaces f g h → SamePlaces f g' h → ChangesSlot f g g' h i j
    → refs g' h c + of_mapping h (meets h c) (slot g h i j) ≡ refs g h c + of_mapping h (meets h c) (slot g' h i j)
unfolding refs
refs-change f g g' h i j c places places' step =
    let base : structure g h (meets h c) ≡ structure f h (meets h c) = structure-same f g h places (meets h c) in
    let base' : structure g' h (meets h c) ≡ structure f h (meets h c) = structure-same f g' h places' (meets h c) in
    let e : contents g h (of_mapping h (meets h c)) ≡ over_slots (l2_table f h) h (λ k m. of_mapping h (meets h c) (slot g h k m)) =
    contents-slots g h (of_mapping h (meets h c)) ∙ tables-same (l2_table f h) (l2_table g h) h _ places.l1 in
    let e' : contents g' h (of_mapping h (meets h c)) ≡ over_slots (l2_table f h) h (λ k m. of_mapping h (meets h c) (slot g' h k m)) =
    contents-slots g' h (of_mapping h (meets h c)) ∙ tables-same (l2_table f h) (l2_table g' h) h _ places'.l1 in
    let all : over_slots (l2_table f h) h (λ k m. of_mapping h (meets h c) (slot g' h k m)) + of_mapping h (meets h c) (slot g h i j)
    ≡ over_slots (l2_table f h) h (λ k m. of_mapping h (meets h c) (slot g h k m)) + of_mapping h (meets h c) (slot g' h i j) =
    slots-change (l2_table f h) h _ _ i j step.live (λ k m live apart. ap (of_mapping h (meets h c)) (step.others k m live apart)) in
    omega arith

-- A table is written while tables depend on blocks: no block is dirty then.
pub table-after-blocks : (f x g : Bytes) (h : Fields) → BlocksFirst f g h → ((c : ℕ) → count g h c ≡ count f h c) → IsBetween f x g h → ((c : ℕ) → count x h c ≡ count f h c) → BlocksFirst x g h
table-after-blocks f x g h well_formed clean between counts = record {
  cached = λ c. let le : references_in_either x g h c ≤ references_in_either f g h c = named-falls f x g h c between in let ok : references_in_either f g h c ≤ count g h c = well_formed.cached c in omega arith;
  file = λ c.
      let le : refs x h c ≤ references_in_either f g h c = refs-between f x g h c between in
      let ok : references_in_either f g h c ≤ count g h c = well_formed.cached c in
      let e : count g h c ≡ count f h c = clean c in
      let e' : count x h c ≡ count f h c = counts c in
      omega arith;
}

-- A table is written while blocks depend on tables.
pub table-before-blocks : (f x g : Bytes) (h : Fields) → TablesFirst f g h → IsBetween f x g h → ((c : ℕ) → count x h c ≡ count f h c) → TablesFirst x g h
table-before-blocks f x g h well_formed between counts = record {
  file = λ c.
      let le : references_in_either x g h c ≤ references_in_either f g h c = named-falls f x g h c between in
      let ok : references_in_either f g h c ≤ count f h c = well_formed.file c in
      let e' : count x h c ≡ count f h c = counts c in
      omega arith;
  lowered = λ c. let ok : count g h c ≤ count f h c = well_formed.lowered c in let e' : count x h c ≡ count f h c = counts c in omega arith;
}

-- a file with the same mappings is between the two versions
pub between-kept : (f x g : Bytes) (h : Fields) → KeepsSlots f x h → IsBetween f x g h
between-kept f x g h keeps = record { places = keeps.places; slots = λ i j live. inl (keeps.slots i j live) }

-- the same mappings give the same references
pub refs-kept : (f x : Bytes) (h : Fields) (c : ℕ) → KeepsSlots f x h → refs x h c ≡ refs f h c
unfolding refs
refs-kept f x h c keeps =
    let base : structure x h (meets h c) ≡ structure f h (meets h c) = structure-same f x h keeps.places (meets h c) in
    let e : contents x h (of_mapping h (meets h c)) ≡ over_slots (l2_table f h) h (λ k m. of_mapping h (meets h c) (slot x h k m)) =
    contents-slots x h (of_mapping h (meets h c)) ∙ tables-same (l2_table f h) (l2_table x h) h _ keeps.places.l1 in
    let e' : over_slots (l2_table f h) h (λ k m. of_mapping h (meets h c) (slot x h k m)) ≡ contents f h (of_mapping h (meets h c)) =
    slots-same (l2_table f h) h _ _ (λ i j live. ap (of_mapping h (meets h c)) (keeps.slots i j live)) ∙ sym (contents-slots f h (of_mapping h (meets h c))) in
    omega arith

-- A block is written while tables depend on blocks.
pub block-before-tables : (f x g : Bytes) (h : Fields) → BlocksFirst f g h → KeepsSlots f x h → ((c : ℕ) → (count x h c ≡ count f h c) ⊎ (count x h c ≡ count g h c)) → BlocksFirst x g h
block-before-tables f x g h well_formed keeps counts = record {
  cached = λ c. let le : references_in_either x g h c ≤ references_in_either f g h c = named-falls f x g h c (between-kept f x g h keeps) in let ok : references_in_either f g h c ≤ count g h c = well_formed.cached c in omega arith;
  file = λ c.
      let same : refs x h c ≡ refs f h c = refs-kept f x h c keeps in
      let le : refs f h c ≤ references_in_either f g h c = refs-file f g h c in
      let ok : references_in_either f g h c ≤ count g h c = well_formed.cached c in
      let ok' : refs f h c ≤ count f h c = well_formed.file c in
      elim (counts c) [
        | inl e ↦ omega arith
        | inr e ↦ omega arith
      ];
}

-- if no table is dirty, the references of both versions are those of the file
pub named-clean : (f g : Bytes) (h : Fields) (c : ℕ) → ((i j : ℕ) → Live (l2_table f h) h i j → slot g h i j ≡ slot f h i j) → references_in_either f g h c ≡ refs f h c
unfolding references_in_either refs
named-clean f g h c clean =
    let e : contents f h (of_mapping h (meets h c)) ≡ over_slots (l2_table f h) h (λ k m. of_mapping h (meets h c) (slot f h k m)) = contents-slots f h (of_mapping h (meets h c)) in
    let e' : over_slots (l2_table f h) h (λ i j. of_either h (meets h c) (slot f h i j) (slot g h i j)) ≡ over_slots (l2_table f h) h (λ k m. of_mapping h (meets h c) (slot f h k m)) =
    slots-same (l2_table f h) h _ _ (λ i j live. rw (clean i j live) (omega arith)) in
    omega arith

-- A block is written while blocks depend on tables: no table is dirty then.
pub block-after-tables : (f x g : Bytes) (h : Fields) → TablesFirst f g h → KeepsSlots f g h → ((c : ℕ) → refs g h c ≤ count g h c) → KeepsSlots f x h
    → ((c : ℕ) → (count x h c ≡ count f h c) ⊎ (count x h c ≡ count g h c)) → TablesFirst x g h
block-after-tables f x g h well_formed clean law keeps counts = record {
  file = λ c.
      let le : references_in_either x g h c ≤ references_in_either f g h c = named-falls f x g h c (between-kept f x g h keeps) in
      let ok : references_in_either f g h c ≤ count f h c = well_formed.file c in
      let n : references_in_either f g h c ≡ refs f h c = named-clean f g h c clean.slots in
      let r : refs g h c ≡ refs f h c = refs-kept f g h c clean in
      let ok' : refs g h c ≤ count g h c = law c in
      elim (counts c) [
        | inl e ↦ omega arith
        | inr e ↦ omega arith
      ];
  lowered = λ c.
      let ok : count g h c ≤ count f h c = well_formed.lowered c in
      elim (counts c) [
        | inl e ↦ omega arith
        | inr e ↦ omega arith
      ];
}

-- Without a dependency both invariants hold, and a table or a block can be written.
pub table-without-order : (f x g : Bytes) (h : Fields) → BlocksFirst f g h → TablesFirst f g h → IsBetween f x g h → ((c : ℕ) → count x h c ≡ count f h c) → BlocksFirst x g h
table-without-order f x g h blocks tables between counts = record {
  cached = λ c. let le : references_in_either x g h c ≤ references_in_either f g h c = named-falls f x g h c between in let ok : references_in_either f g h c ≤ count g h c = blocks.cached c in omega arith;
  file = λ c.
      let le : refs x h c ≤ references_in_either f g h c = refs-between f x g h c between in
      let ok : references_in_either f g h c ≤ count f h c = tables.file c in
      let e : count x h c ≡ count f h c = counts c in
      omega arith;
}

pub block-without-order : (f x g : Bytes) (h : Fields) → BlocksFirst f g h → TablesFirst f g h → KeepsSlots f x h → ((c : ℕ) → (count x h c ≡ count f h c) ⊎ (count x h c ≡ count g h c)) → TablesFirst x g h
block-without-order f x g h blocks tables keeps counts = record {
  file = λ c.
      let le : references_in_either x g h c ≤ references_in_either f g h c = named-falls f x g h c (between-kept f x g h keeps) in
      let ok : references_in_either f g h c ≤ count g h c = blocks.cached c in
      let ok' : references_in_either f g h c ≤ count f h c = tables.file c in
      elim (counts c) [
        | inl e ↦ omega arith
        | inr e ↦ omega arith
      ];
  lowered = λ c.
      let ok : count g h c ≤ count f h c = tables.lowered c in
      elim (counts c) [
        | inl e ↦ omega arith
        | inr e ↦ omega arith
      ];
}

-- The dependency can be reversed if no block is dirty, or if no table is dirty.
pub blocks-are-written : (f g : Bytes) (h : Fields) → BlocksFirst f g h → ((c : ℕ) → count g h c ≡ count f h c) → TablesFirst f g h
blocks-are-written f g h well_formed clean = record {
  file = λ c. let ok : references_in_either f g h c ≤ count g h c = well_formed.cached c in let e : count g h c ≡ count f h c = clean c in omega arith;
  lowered = λ c. let e : count g h c ≡ count f h c = clean c in omega arith;
}

pub tables-are-written : (f g : Bytes) (h : Fields) → TablesFirst f g h → KeepsSlots f g h → ((c : ℕ) → refs g h c ≤ count g h c) → BlocksFirst f g h
tables-are-written f g h well_formed clean law = record {
  cached = λ c.
      let n : references_in_either f g h c ≡ refs f h c = named-clean f g h c clean.slots in
      let r : refs g h c ≡ refs f h c = refs-kept f g h c clean in
      let ok : refs g h c ≤ count g h c = law c in
      omega arith;
  file = λ c. let le : refs f h c ≤ references_in_either f g h c = refs-file f g h c in let ok : references_in_either f g h c ≤ count f h c = well_formed.file c in omega arith;
}
