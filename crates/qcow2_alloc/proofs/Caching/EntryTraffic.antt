-- Entries enter and leave the caches, and are used. The caches stay well-formed, and memory doesn't change.
use Rattle.std.proofs.Common.{◌≡◌, ℕ, refl, ap, sym, ◌∙◌, List, [], ◌∷◌, ◌++◌, false, inl, inr}
use Rattle.std.specs.Prelude.{nat_eq}
use Rattle.std.specs.List.{AllByRecursion, IsDistinct}
use Rattle.std.specs.Map.{keys_of}
use Rattle.std.proofs.lemmas.Bool.{cases_Bool, ne_eqb, eqb-false}
use Rattle.qcow2_types.specs.Bytes.{Bytes}
use Rattle.qcow2_types.specs.Header.{Header}
use Rattle.qcow2_alloc.specs.declared.async_lru_cache.Slot.{Slot}
use Rattle.qcow2_alloc.specs.declared.cache.CacheDependency.{CacheDependency}
use Rattle.qcow2_alloc.specs.Memory.{memory}
use Rattle.qcow2_alloc.specs.WellFormedness.{WellFormed}
use Rattle.qcow2_alloc.proofs.Caching.SingleEntries.{EntryLaws, are-safe, entry-fits, entry-leaves, entry-over, others-safe, over-rest, safe-with}
use Rattle.qcow2_alloc.proofs.Memory.EntryKinds.{EntryKind, AreEntries}
use Rattle.qcow2_alloc.proofs.Memory.Patches.{all-append, all-front, all-back}

-- Keys stay distinct.
module _ {V : Type 0} where
  all-without : (P : ℕ → Type 0) (front : List (ℕ × V)) (key : ℕ) (v : V) (back : List (ℕ × V)) → AllByRecursion P (keys_of (front ++ (key, v) ∷ back)) → AllByRecursion P (keys_of (front ++ back))
  all-without P [] key v back all = all.1
  all-without P (e ∷ front) key v back all = (all.0, all-without P front key v back all.1)

  all-here : (P : ℕ → Type 0) (front : List (ℕ × V)) (key : ℕ) (v : V) (back : List (ℕ × V)) → AllByRecursion P (keys_of (front ++ (key, v) ∷ back)) → P key
  all-here P [] key v back all = all.0
  all-here P (e ∷ front) key v back all = all-here P front key v back all.1

  pub distinct-without : (front : List (ℕ × V)) (key : ℕ) (v : V) (back : List (ℕ × V)) → IsDistinct nat_eq (keys_of (front ++ (key, v) ∷ back)) → IsDistinct nat_eq (keys_of (front ++ back))
  unfolding IsDistinct
  distinct-without [] key v back apart = apart.1
  distinct-without (e ∷ front) key v back apart = (all-without (λ y. nat_eq e.0 y ≡ false) front key v back apart.0, distinct-without front key v back apart.1)

  pub away-of : (front : List (ℕ × V)) (key : ℕ) (v : V) (back : List (ℕ × V)) → IsDistinct nat_eq (keys_of (front ++ (key, v) ∷ back)) → AllByRecursion (λ y. nat_eq key y ≡ false) (keys_of (front ++ back))
  unfolding IsDistinct
  away-of [] key v back apart = apart.0
  away-of (e ∷ front) key v back apart =
      (ne_eqb key e.0 (λ same. eqb-false e.0 key (all-here (λ y. nat_eq e.0 y ≡ false) front key v back apart.0) (sym same)), away-of front key v back apart.1)

  pub distinct-first : (front : List (ℕ × V)) (key : ℕ) (v : V) (back : List (ℕ × V)) → IsDistinct nat_eq (keys_of (front ++ (key, v) ∷ back)) → IsDistinct nat_eq (keys_of ((key, v) ∷ front ++ back))
  unfolding IsDistinct
  distinct-first front key v back apart = (away-of front key v back apart, distinct-without front key v back apart)

pub keys-with : {V : Type 0} (front : List (ℕ × V)) (key : ℕ) (v w : V) (back : List (ℕ × V)) → keys_of (front ++ (key, v) ∷ back) ≡ keys_of (front ++ (key, w) ∷ back)
keys-with [] key v w back = refl
keys-with (e ∷ front) key v w back = ap (λ l. e.0 ∷ l) (keys-with front key v w back)

-- An entry is removed, or moved to the front.
module _ {V : Type 0} (Fits : ℕ → V → Type 0) (front : List (ℕ × Slot V)) (key : ℕ) (slot : Slot V) (back : List (ℕ × Slot V))
    (are : AreEntries Fits (front ++ (key, slot) ∷ back)) where
  pub entries-left : AreEntries Fits (front ++ back)
  entries-left = record {
    apart = distinct-without front key slot back are.apart;
    fit = all-append _ front back (all-front _ front ((key, slot) ∷ back) are.fit) (all-back _ front ((key, slot) ∷ back) are.fit).1;
  }

  pub entries-first : (new : Slot V) → Fits key new.value → AreEntries Fits ((key, new) ∷ front ++ back)
  entries-first new fits = record { apart = distinct-first front key slot back are.apart; fit = (fits, entries-left.fit) }

module _ {V W : Type 0} (kind : EntryKind V W) (laws : EntryLaws kind) (f : Bytes) (H : Header) (order : CacheDependency)
    (rest : List (ℕ × Slot W)) (front : List (ℕ × Slot V)) (key : ℕ) (slot : Slot V) (back : List (ℕ × Slot V)) where
  -- A clean entry is removed.
  pub leaves-safe : kind.writes.modified slot.value ≡ false → WellFormed f H (kind.put rest (front ++ (key, slot) ∷ back)) order
      → WellFormed f H (kind.put rest (front ++ back)) order
  leaves-safe clean well_formed = safe-with kind laws f H order rest (front ++ (key, slot) ∷ back) (front ++ back) well_formed
      (entry-leaves kind laws f H rest front key slot back clean)
      (entries-left (kind.Fits f H.fields) front key slot back (are-safe kind laws f H rest front key slot back order well_formed))

  -- A clean entry is added.
  pub comes-safe : (es : List (ℕ × Slot V)) → kind.writes.modified slot.value ≡ false → AllByRecursion (λ y. nat_eq key y ≡ false) (keys_of es)
      → kind.Fits f H.fields key slot.value → WellFormed f H (kind.put rest es) order → WellFormed f H (kind.put rest ((key, slot) ∷ es)) order
  unfolding IsDistinct
  comes-safe es clean away fits well_formed =
      let are = laws.own f H order rest es well_formed in
      safe-with kind laws f H order rest es ((key, slot) ∷ es) well_formed (sym (entry-leaves kind laws f H rest [] key slot es clean))
      (record { apart = (away, are.apart); fit = (fits, are.fit) })

  -- Any entry is moved to the front.
  module _ (well_formed : WellFormed f H (kind.put rest (front ++ (key, slot) ∷ back)) order) where
    pub entry-first : memory f H.fields (kind.put rest ((key, slot) ∷ front ++ back)) ≡ memory f H.fields (kind.put rest (front ++ (key, slot) ∷ back))
    entry-first = elim (cases_Bool (kind.writes.modified slot.value)) [
      | inr clean ↦ sym (entry-leaves kind laws f H rest [] key slot (front ++ back) clean) ∙ entry-leaves kind laws f H rest front key slot back clean
      | inl modified ↦
          entry-over kind laws f H rest [] key slot (front ++ back) well_formed.consistent (entry-fits kind laws f H rest front key slot back order well_formed) modified
          (others-safe kind laws f H rest front key slot back order well_formed).fit tt tt
          ∙ sym (over-rest kind laws f H rest front key slot back order well_formed modified)
    ]

    pub first-safe : WellFormed f H (kind.put rest ((key, slot) ∷ front ++ back)) order
    first-safe = safe-with kind laws f H order rest (front ++ (key, slot) ∷ back) ((key, slot) ∷ front ++ back) well_formed entry-first
        (entries-first (kind.Fits f H.fields) front key slot back (are-safe kind laws f H rest front key slot back order well_formed) slot
        (entry-fits kind laws f H rest front key slot back order well_formed))
