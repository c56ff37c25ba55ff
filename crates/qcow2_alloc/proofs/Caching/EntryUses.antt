-- Using a cached table or block moves its entry to the front, and changes nothing else.
use Rattle.std.proofs.Common.{◌≡◌, ℕ, ap, sym, subst, ◌∙◌, List, [], ◌∷◌, ◌++◌, Some}
use Rattle.std.specs.Prelude.{nat_eq}
use Rattle.std.specs.Option.{option_map}
use Rattle.std.specs.List.{AllByRecursion}
use Rattle.std.specs.Map.{lookup}
use Rattle.qcow2_types.specs.Bytes.{Bytes}
use Rattle.qcow2_types.specs.Header.{Header}
use Rattle.qcow2_metadata.specs.Tables.{TableValue}
use Rattle.qcow2_metadata.specs.Blocks.{Block}
use Rattle.qcow2_alloc.specs.declared.async_lru_cache.Slot.{Slot}
use Rattle.qcow2_alloc.specs.declared.cache.CacheDependency.{CacheDependency}
use Rattle.qcow2_alloc.specs.Cache.{hit}
use Rattle.qcow2_alloc.specs.Changes.{StaysAsItIs}
use Rattle.qcow2_alloc.specs.Memory.{Cached, memory}
use Rattle.qcow2_alloc.specs.WellFormedness.{WellFormed}
use Rattle.qcow2_alloc.proofs.Caching.SingleEntries.{EntryLaws, table-kind-laws, block-kind-laws}
use Rattle.qcow2_alloc.proofs.Caching.EntryTraffic.{entry-first, first-safe}
use Rattle.qcow2_alloc.proofs.Caching.Places.{Place, place-of-key, place-hit, slot-of}
use Rattle.qcow2_alloc.proofs.Memory.EntryKinds.{EntryKind, table_kind, block_kind}

module _ {V : Type 0} (key : ℕ) (es : List (ℕ × Slot V)) (value : V) (there : option_map (λ s. s.value) (lookup (nat_eq key) es) ≡ Some value) where
  pub found : (s : Slot V) × (lookup (nat_eq key) es ≡ Some s) × (s.value ≡ value)
  found = slot-of (lookup (nat_eq key) es) value there

  pub place-found : Place key es found.0
  place-found = place-of-key key es found.0 found.1

  pub used : hit (nat_eq key) es value ≡ (key, found.0) ∷ place-found.front ++ place-found.back
  used = ap (λ (v : V). hit (nat_eq key) es v) (sym found.2) ∙ place-hit key es found.0 place-found found.0.value

module _ {V W : Type 0} (kind : EntryKind V W) (laws : EntryLaws kind) (f : Bytes) (H : Header) (order : CacheDependency) (key : ℕ) (rest : List (ℕ × Slot W)) (es : List (ℕ × Slot V)) where
  entry-used : WellFormed f H (kind.put rest es) order → (value : V) → option_map (λ s. s.value) (lookup (nat_eq key) es) ≡ Some value
      → StaysAsItIs f H (kind.put rest es) order (kind.put rest (hit (nat_eq key) es value))
  entry-used well_formed value there =
      let p = place-found key es value there in
      let s = (found key es value there).0 in
      let safe' = subst (λ (l : List (ℕ × Slot V)). WellFormed f H (kind.put rest l) order) p.is well_formed in
      subst (λ (l : List (ℕ × Slot V)). StaysAsItIs f H (kind.put rest es) order (kind.put rest l)) (sym (used key es value there)) (record {
        well_formed = first-safe kind laws f H order rest p.front key s p.back safe';
        memory_same = entry-first kind laws f H order rest p.front key s p.back safe' ∙ ap (λ (l : List (ℕ × Slot V)). memory f H.fields (kind.put rest l)) (sym p.is);
      })

all-there : {X : Type 0} (Q : X → Type 0) (front : List X) (e : X) (back : List X) → AllByRecursion Q (front ++ e ∷ back) → Q e × AllByRecursion Q (front ++ back)
all-there Q [] e back all = all
all-there Q (x ∷ front) e back all = let rest = all-there Q front e back all.1 in (rest.0, (all.0, rest.1))

pub all-hit : {V : Type 0} (P : V → Type 0) (key : ℕ) (es : List (ℕ × Slot V)) (value : V) → option_map (λ s. s.value) (lookup (nat_eq key) es) ≡ Some value → AllByRecursion (λ (e : ℕ × Slot V). P e.1.value) es
    → AllByRecursion (λ (e : ℕ × Slot V). P e.1.value) (hit (nat_eq key) es value)
all-hit {V} P key es value there all =
    let s = (found key es value there).0 in
    let p = place-found key es value there in
    subst (λ (l : List (ℕ × Slot V)). AllByRecursion (λ (e : ℕ × Slot V). P e.1.value) l) (sym (used key es value there))
    (all-there (λ (e : ℕ × Slot V). P e.1.value) p.front (key, s) p.back (subst (λ (l : List (ℕ × Slot V)). AllByRecursion (λ (e : ℕ × Slot V). P e.1.value) l) p.is all))

module _ (f : Bytes) (H : Header) (cached : Cached) (order : CacheDependency) (key : ℕ) (well_formed : WellFormed f H cached order) where
  pub table-used : (table : TableValue) → option_map (λ s. s.value) (lookup (nat_eq key) cached.tables) ≡ Some table → StaysAsItIs f H cached order (record cached { tables = hit (nat_eq key) cached.tables table })
  table-used = entry-used table_kind table-kind-laws f H order key cached.blocks cached.tables well_formed

  pub block-used : (block : Block) → option_map (λ s. s.value) (lookup (nat_eq key) cached.blocks) ≡ Some block → StaysAsItIs f H cached order (record cached { blocks = hit (nat_eq key) cached.blocks block })
  block-used = entry-used block_kind block-kind-laws f H order key cached.tables cached.blocks well_formed
