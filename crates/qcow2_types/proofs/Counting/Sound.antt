-- A file between two versions with valid entries has valid entries. It is consistent if its refcounts cover the references.
use Rattle.std.proofs.Common.{◌≡◌, ◌≢◌, ℕ, zero, suc, ◌<◌, ◌≤◌, refl, arith, ap, sym, ◌∙◌, inl, inr, Ok}
use Rattle.std.specs.Prelude.{Bool, true, false, ◌&&◌, ◌||◌, not, ◌==◌, IsTrue, IsFalse}
use Rattle.std.proofs.lemmas.Bool.{cases_eq}
use Rattle.std.proofs.lemmas.Bool.Decides.{nat_tests}
use Rattle.qcow2_types.specs.Bytes.{Bytes, raw_entry, all_below}
use Rattle.qcow2_types.specs.Words.{is_damaged, l1_entry_valid, reftable_entry_valid}
use Rattle.qcow2_types.specs.Header.{Fields, Header, header_of, entries_of_cluster, refcount_table_entries}
use Rattle.qcow2_types.specs.Entries.{l2_table, l2_table_sound, l1_table_sound}
use Rattle.qcow2_types.specs.Counts.{refcount_table_sound, count}
use Rattle.qcow2_types.specs.References.{refs}
use Rattle.qcow2_types.specs.Consistency.{tables_sound, IsConsistent}
use Rattle.qcow2_types.proofs.Counting.Bounded.{all-below}
use Rattle.qcow2_types.specs.Slots.{Live, slot, ValidEntries}
use Rattle.qcow2_types.specs.Versions.{IsBetween, ReferencedOnce}
use Rattle.qcow2_types.proofs.Changes.Stops.{stop-structure, stop-copied, stop-counted}

-- a test that is true of each number below n
pub all-below-holds : (n : ℕ) (p : ℕ → Bool) → ((k : ℕ) → k < n → p k ≡ true) → all_below n p ≡ true
unfolding all_below
all-below-holds zero p holds = refl
all-below-holds (suc n) p holds =
    let here : p n ≡ true = holds n (omega arith) in
    let below : all_below n p ≡ true = all-below-holds n p (λ k lt. holds k (omega arith)) in
    rw (here, below) refl

both : (a b c : Bool) → (a && b && c) ≡ true → (a ≡ true) × (b ≡ true) × (c ≡ true)
both true true true e = (refl, refl, refl)
both true true false e = absurd cc
both true false c e = absurd cc
both false b c e = absurd cc

-- The tables are valid if and only if each entry is.
pub sound-words : (f : Bytes) (h : Fields) → IsTrue (tables_sound f h) → ValidEntries f h
unfolding tables_sound l1_table_sound refcount_table_sound l2_table_sound
sound-words f h sound =
    let parts = both _ _ _ sound in
    record {
      l1 = all-below h.l1_entries _ parts.0;
      blocks = all-below (refcount_table_entries h) _ parts.1;
      slots = λ i j live.
          let here = all-below h.l1_entries _ parts.2 i live.in_l1 in
          let row : all_below (entries_of_cluster h) (λ k. not (is_damaged (slot f h i k))) ≡ true = there _ _ (none (l2_table f h i) live.is_there) here in
          not-damaged _ (all-below (entries_of_cluster h) _ row j live.in_table);
    }
  where
    there : (a b : Bool) → a ≡ false → (a || b) ≡ true → b ≡ true
    there true b e e' = absurd cc
    there false b e e' = e'

    none : (t : ℕ) → t ≢ 0 → (t == 0) ≡ false
    none t apart = grind (arith, nat_tests)

    not-damaged : (b : Bool) → not b ≡ true → b ≡ false
    not-damaged true e = sym e
    not-damaged false e = refl

pub words-sound : (f : Bytes) (h : Fields) → ValidEntries f h → IsTrue (tables_sound f h)
unfolding tables_sound l1_table_sound refcount_table_sound l2_table_sound
words-sound f h sound =
    let l1 : all_below h.l1_entries (λ i. l1_entry_valid h.cluster_bits (raw_entry f h.l1_offset i)) ≡ true = all-below-holds _ _ sound.l1 in
    let blocks : all_below (refcount_table_entries h) (λ i. reftable_entry_valid h.cluster_bits (raw_entry f h.refcount_table_offset i)) ≡ true = all-below-holds _ _ sound.blocks in
    let tables : all_below h.l1_entries (λ i. (l2_table f h i == 0) || all_below (entries_of_cluster h) (λ j. not (is_damaged (slot f h i j)))) ≡ true =
    all-below-holds _ _ (λ i lt. elim (cases_eq (l2_table f h i) 0) [
      | inl e ↦ rw e refl
      | inr apart ↦ also _ _ (all-below-holds _ _ (λ j less. ap not (sound.slots i j record { in_l1 = lt; is_there = apart; in_table = less })))
    ]) in
    rw (l1, blocks, tables) refl
  where
    also : (a b : Bool) → b ≡ true → (a || b) ≡ true
    also true b e = refl
    also false b e = e

-- x has the raw entries of f in the L1 table and in the refcount table.
pub record SameWords (f x : Bytes) (h : Fields) : Type 0 where
  pub l1 : (i : ℕ) → i < h.l1_entries → raw_entry x h.l1_offset i ≡ raw_entry f h.l1_offset i
  pub blocks : (i : ℕ) → i < refcount_table_entries h → raw_entry x h.refcount_table_offset i ≡ raw_entry f h.refcount_table_offset i

module _ (f x g : Bytes) (h : Fields) (raw_entries : SameWords f x h) (between : IsBetween f x g h) where
  -- A file between two versions with valid entries has valid entries.
  pub sound-between : ValidEntries f h → ((i j : ℕ) → Live (l2_table f h) h i j → IsFalse (is_damaged (slot g h i j))) → ValidEntries x h
  sound-between sound cached = record {
    l1 = λ i lt. ap (l1_entry_valid h.cluster_bits) (raw_entries.l1 i lt) ∙ sound.l1 i lt;
    blocks = λ i lt. ap (reftable_entry_valid h.cluster_bits) (raw_entries.blocks i lt) ∙ sound.blocks i lt;
    slots = λ i j live.
        let live' : Live (l2_table f h) h i j = record { in_l1 = live.in_l1; is_there = (λ e. live.is_there (between.places.l1 i ∙ e)); in_table = live.in_table } in
        elim (between.slots i j live') [
          | inl e ↦ ap is_damaged e ∙ sound.slots i j live'
          | inr e ↦ ap is_damaged e ∙ cached i j live'
        ];
  }

-- A crash image between two versions of the tables is consistent.
pub stop-consistent : (f x g : Bytes) (H : Header) → IsConsistent f H → header_of true x ≡ Ok H → SameWords f x H.fields → IsBetween f x g H.fields
    → ((i j : ℕ) → Live (l2_table f H.fields) H.fields i j → IsFalse (is_damaged (slot g H.fields i j))) → ReferencedOnce f g H.fields → ((c : ℕ) → refs x H.fields c ≤ count x H.fields c) → IsConsistent x H
stop-consistent f x g H was loads raw_entries between cached apart counted = record {
  readable = record {
    loads = loads;
    no_snapshots = was.readable.no_snapshots;
    data_inside = was.readable.data_inside;
    tables = words-sound x H.fields (sound-between f x g H.fields raw_entries between (sound-words f H.fields was.readable.tables) cached);
  };
  structure_apart = stop-structure f x g H.fields between apart;
  copied_apart = stop-copied f x g H.fields between apart;
  counted = stop-counted x g H.fields counted;
}
