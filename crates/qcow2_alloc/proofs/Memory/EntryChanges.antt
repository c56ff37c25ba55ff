-- Setting a cached entry: memory changes only in its cluster. If that memory allows it, the caches stay well-formed.
use Rattle.std.proofs.Common.{◌≡◌, ◌≢◌, ℕ, ◌+◌, ◌-◌, ◌*◌, arith, ap, sym, subst, ◌∙◌, List, [], ◌∷◌, ◌++◌, length, true, false, inl, inr}
use Rattle.std.specs.List.{AllByRecursion}
use Rattle.std.proofs.lemmas.Bool.{cases_Bool, cases_lt}
use Rattle.std.proofs.lemmas.Nat.{pow_pos}
use Rattle.std.proofs.Math.Path.{fun_ext}
use Rattle.qcow2_types.specs.Bytes.{Bytes, splice}
use Rattle.qcow2_types.specs.Header.{Header, cluster_size}
use Rattle.qcow2_types.proofs.Numbers.Splices.{splice-inside, splice-outside}
use Rattle.qcow2_alloc.specs.declared.async_lru_cache.Slot.{Slot}
use Rattle.qcow2_alloc.specs.declared.cache.CacheDependency.{CacheDependency}
use Rattle.qcow2_alloc.specs.Memory.{memory}
use Rattle.qcow2_alloc.specs.WellFormedness.{WellFormed}
use Rattle.qcow2_alloc.proofs.Caching.SingleEntries.{EntryLaws, are-safe, entry-fits, entry-leaves, entry-over, others-safe, over-rest}
use Rattle.qcow2_alloc.proofs.Caching.EntryTraffic.{entries-first}
use Rattle.qcow2_alloc.proofs.Memory.EntryKinds.{EntryKind, IsSafeMemory}
use Rattle.qcow2_alloc.proofs.Memory.Patches.{all-append, all-weaker, others-before, others-behind, places-differ}

splice-again : (f : Bytes) (at : ℕ) (a b : List ℕ) → length a ≡ length b → splice (splice f at a) at b ≡ splice f at b
splice-again f at a b same = fun_ext (λ p. elim (cases_lt p at) [
  | inl lt ↦ splice-outside (splice f at a) at b p (inl lt) ∙ splice-outside f at a p (inl lt) ∙ sym (splice-outside f at b p (inl lt))
  | inr le ↦ elim (cases_lt p (at + length b)) [
    | inl lt ↦
        let place : at + (p - at) ≡ p = omega (arith, le) in
        rw place at (splice-inside (splice f at a) at b (p - at) (omega (arith, le, lt)) ∙ sym (splice-inside f at b (p - at) (omega (arith, le, lt))))
    | inr past ↦ splice-outside (splice f at a) at b p (inr past) ∙ splice-outside f at a p (inr (omega (arith, past, same))) ∙ sym (splice-outside f at b p (inr past))
  ]
])

module _ {V W : Type 0} (kind : EntryKind V W) (laws : EntryLaws kind) (f : Bytes) (H : Header) (order : CacheDependency)
    (rest : List (ℕ × Slot W)) (front : List (ℕ × Slot V)) (key : ℕ) (slot : Slot V) (back : List (ℕ × Slot V))
    (well_formed : WellFormed f H (kind.put rest (front ++ (key, slot) ∷ back)) order) where
  -- A clean entry has no patch at its cluster.
  pub none-there : kind.writes.modified slot.value ≡ false → (place : ℕ) → place ≡ key * cluster_size H.fields
      → AllByRecursion (λ e. kind.writes.modified e.1.value ≡ true → e.0 * cluster_size H.fields ≢ place) (front ++ (key, slot) ∷ back)
  none-there clean place at =
      let are = are-safe kind laws f H rest front key slot back order well_formed in
      all-append _ front ((key, slot) ∷ back) (elsewhere front (others-before key slot front back are.apart))
      ((λ m. absurd (let both = sym clean ∙ m in cc)), elsewhere back (others-behind key slot front back are.apart))
    where
      elsewhere : (es : List (ℕ × Slot V)) → AllByRecursion (λ e. key ≢ e.0) es → AllByRecursion (λ e. kind.writes.modified e.1.value ≡ true → e.0 * cluster_size H.fields ≢ place) es
      elsewhere es apart = all-weaker _ _ (λ e other m same. places-differ (cluster_size H.fields) key e.0 (pow_pos H.fields.cluster_bits) other (sym at ∙ sym same)) es apart

  module _ (new : Slot V) (fits : kind.Fits f H.fields key new.value) (modified : kind.writes.modified new.value ≡ true) where
    abbrev x : Bytes
    x = splice (memory f H.fields (kind.put rest (front ++ (key, slot) ∷ back))) (key * cluster_size H.fields) (kind.bytes new.value)

    pub entry-put : memory f H.fields (kind.put rest ((key, new) ∷ front ++ back)) ≡ x
    entry-put =
        let was = entry-fits kind laws f H rest front key slot back order well_formed in
        entry-over kind laws f H rest [] key new (front ++ back) well_formed.consistent fits modified (others-safe kind laws f H rest front key slot back order well_formed).fit tt tt
        ∙ (elim (cases_Bool (kind.writes.modified slot.value)) [
          | inl on ↦
              sym (splice-again (memory f H.fields (kind.put rest (front ++ back))) (key * cluster_size H.fields) (kind.bytes slot.value) (kind.bytes new.value)
              ((laws.is_patch f H well_formed.consistent key slot.value was on).long ∙ sym (laws.is_patch f H well_formed.consistent key new.value fits modified).long))
              ∙ ap (λ (b : Bytes). splice b (key * cluster_size H.fields) (kind.bytes new.value)) (sym (over-rest kind laws f H rest front key slot back order well_formed on))
          | inr clean ↦ ap (λ (b : Bytes). splice b (key * cluster_size H.fields) (kind.bytes new.value)) (entry-leaves kind laws f H rest front key slot back clean)
        ])

    pub put-safe : IsSafeMemory f x H order → WellFormed f H (kind.put rest ((key, new) ∷ front ++ back)) order
    put-safe m =
        laws.well_formed f H order rest ((key, new) ∷ front ++ back) well_formed.consistent
        (entries-first (kind.Fits f H.fields) front key slot back (are-safe kind laws f H rest front key slot back order well_formed) new fits)
        (others-safe kind laws f H rest front key slot back order well_formed) (subst (λ (b : Bytes). IsSafeMemory f b H order) (sym entry-put) m)
