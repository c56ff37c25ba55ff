-- Dropping all unpinned entries.
use Rattle.std.proofs.Common.{◌≡◌, ℕ, ap, sym, ◌∙◌, List, [], ◌∷◌, ◌++◌, false, inl, inr}
use Rattle.std.specs.Prelude.{nat_eq, nat_lt}
use Rattle.std.specs.List.{AllByRecursion, IsDistinct}
use Rattle.std.specs.Map.{keys_of}
use Rattle.std.proofs.lemmas.Bool.{cases_Bool}
use Rattle.qcow2_types.specs.Bytes.{Bytes, Patch, over}
use Rattle.qcow2_types.specs.Header.{Header, cluster_size}
use Rattle.qcow2_alloc.specs.declared.async_lru_cache.Slot.{Slot}
use Rattle.qcow2_alloc.specs.declared.cache.CacheDependency.{CacheDependency}
use Rattle.qcow2_alloc.specs.Cache.{kept_pinned}
use Rattle.qcow2_alloc.specs.Dropping.{StaysWellFormed}
use Rattle.qcow2_alloc.specs.Memory.{memory}
use Rattle.qcow2_alloc.proofs.Caching.SingleEntries.{EntryLaws, safe-with}
use Rattle.qcow2_alloc.proofs.Memory.EntryKinds.{EntryKind, no-patches}

module _ {V : Type 0} where
  all-kept : (P : ℕ × Slot V → Type 0) (es : List (ℕ × Slot V)) → AllByRecursion P es → AllByRecursion P (kept_pinned es)
  all-kept P [] all = tt
  all-kept P (e ∷ es) all = elim (cases_Bool (nat_lt 0 e.1.pins)) [
    | inl t ↦ rw t (all.0, all-kept P es all.1)
    | inr t ↦ rw t (all-kept P es all.1)
  ]

  keys-kept : (P : ℕ → Type 0) (es : List (ℕ × Slot V)) → AllByRecursion P (keys_of es) → AllByRecursion P (keys_of (kept_pinned es))
  keys-kept P [] all = tt
  keys-kept P (e ∷ es) all = elim (cases_Bool (nat_lt 0 e.1.pins)) [
    | inl t ↦ rw t (all.0, keys-kept P es all.1)
    | inr t ↦ rw t (keys-kept P es all.1)
  ]

  distinct-kept : (es : List (ℕ × Slot V)) → IsDistinct nat_eq (keys_of es) → IsDistinct nat_eq (keys_of (kept_pinned es))
  unfolding IsDistinct
  distinct-kept [] apart = tt
  distinct-kept (e ∷ es) apart = elim (cases_Bool (nat_lt 0 e.1.pins)) [
    | inl t ↦ rw t (keys-kept (λ y. nat_eq e.0 y ≡ false) es apart.0, distinct-kept es apart.1)
    | inr t ↦ rw t (distinct-kept es apart.1)
  ]

-- Dropping clean unpinned entries keeps the caches well-formed.
pub entries-dropped : {V W : Type 0} (kind : EntryKind V W) (laws : EntryLaws kind) (rest : List (ℕ × Slot W)) (es : List (ℕ × Slot V)) (order : CacheDependency)
    → AllByRecursion (λ e. kind.writes.modified e.1.value ≡ false) es → StaysWellFormed (kind.put rest es) (kind.put rest (kept_pinned es)) order
entries-dropped kind laws rest es order clean = record {
  memory_same = same;
  well_formed = λ f H well_formed. let are = laws.own f H order rest es well_formed in
      safe-with kind laws f H order rest es (kept_pinned es) well_formed (same f H) (record { apart = distinct-kept es are.apart; fit = all-kept _ es are.fit });
}
  where
    same : (f : Bytes) (H : Header) → memory f H.fields (kind.put rest (kept_pinned es)) ≡ memory f H.fields (kind.put rest es)
    same f H =
        ap (λ (l : List Patch). over f l) (laws.written H.fields rest (kept_pinned es)
        ∙ ap (λ (l : List Patch). kind.ahead (cluster_size H.fields) rest ++ (l ++ kind.behind (cluster_size H.fields) rest))
        (no-patches kind (cluster_size H.fields) (kept_pinned es) (all-kept _ es clean) ∙ sym (no-patches kind (cluster_size H.fields) es clean))
        ∙ sym (laws.written H.fields rest es))
