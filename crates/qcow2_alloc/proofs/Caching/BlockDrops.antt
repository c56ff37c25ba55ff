-- Dropping the cached block of an unreferenced cluster.
use Rattle.std.proofs.Common.{◌≡◌, ◌≢◌, refl, ℕ, ◌*◌, ◌<◌, arith, ap, sym, subst, ◌∙◌, List, [], ◌∷◌, ◌++◌, false, inl, inr, None, Some, Option}
use Rattle.std.specs.Prelude.{nat_eq}
use Rattle.std.specs.List.{AllByRecursion, IsDistinct, filter_map}
use Rattle.std.specs.Map.{keys_of, lookup, remove_entry}
use Rattle.std.proofs.lemmas.Bool.{cases_Bool, eqb-true}
use Rattle.qcow2_types.specs.Bytes.{Bytes, Patch, over}
use Rattle.qcow2_types.specs.Header.{cluster_size, refcount_table_entries}
use Rattle.qcow2_types.specs.TableBytes.{block_bytes}
use Rattle.qcow2_types.specs.Counts.{block_at, count}
use Rattle.qcow2_types.specs.References.{meets}
use Rattle.qcow2_types.proofs.Counting.Consistent.{meets-own}
use Rattle.qcow2_types.proofs.Changes.Frames.{block-part}
use Rattle.qcow2_types.proofs.Counting.Parts.{block-inside}
use Rattle.qcow2_metadata.specs.Blocks.{Block}
use Rattle.qcow2_alloc.specs.declared.async_lru_cache.Slot.{Slot}
use Rattle.qcow2_alloc.specs.Changes.{StaysAsItIs}
use Rattle.qcow2_alloc.specs.Freeing.{ReferencesBlock}
use Rattle.qcow2_alloc.specs.Memory.{Cached, table_patch, block_patch, memory}
use Rattle.qcow2_alloc.specs.GuestView.{Metadata, IsSound, GuestUnchanged, in_memory, counted, referenced_at_all}
use Rattle.qcow2_alloc.proofs.Caching.SingleEntries.{block-kind-laws, safe-with}
use Rattle.qcow2_alloc.proofs.Caching.EntryTraffic.{distinct-without, away-of}
use Rattle.qcow2_alloc.proofs.Memory.EntryKinds.{block_kind}
use Rattle.qcow2_alloc.proofs.Blocks.TableBlocks.{named-block}
use Rattle.qcow2_alloc.proofs.Memory.Patches.{all-weaker, place-there}
use Rattle.qcow2_alloc.proofs.Caching.Places.{Place, place-of-key}
use Rattle.qcow2_alloc.proofs.GuestView.QuietFlushes.{used-quiet}
use Rattle.qcow2_alloc.proofs.Caching.SearchOutcomes.{all-removed}
use Rattle.qcow2_alloc.proofs.Memory.KeptWords.{structure-named}
use Rattle.std.proofs.lemmas.Nat.{pow_pos}

module _ {V : Type 0} (key : ℕ) where
  pub none-found : (es : List (ℕ × V)) → AllByRecursion (λ y. nat_eq key y ≡ false) (keys_of es) → lookup (nat_eq key) es ≡ None
  none-found [] away = refl
  none-found (e ∷ es) away = rw away.0 (none-found es away.1)

  same-without : (es : List (ℕ × V)) → lookup (nat_eq key) es ≡ None → remove_entry (nat_eq key) es ≡ es
  same-without [] none = refl
  same-without (e ∷ es) none = elim (cases_Bool (nat_eq key e.0)) [
    | inl t ↦ absurd (let found = rw t at none in cc)
    | inr t ↦ rw t (ap (λ l. e ∷ l) (same-without es (rw t at none)))
  ]

  pub removed-apart : (es : List (ℕ × V)) → IsDistinct nat_eq (keys_of es) → (lookup (nat_eq key) (remove_entry (nat_eq key) es) ≡ None) × IsDistinct nat_eq (keys_of (remove_entry (nat_eq key) es))
  removed-apart es apart = by-found (lookup (nat_eq key) es) refl
    where
      by-found : (o : Option V) → lookup (nat_eq key) es ≡ o → (lookup (nat_eq key) (remove_entry (nat_eq key) es) ≡ None) × IsDistinct nat_eq (keys_of (remove_entry (nat_eq key) es))
      by-found None is = subst (λ (l : List (ℕ × V)). (lookup (nat_eq key) l ≡ None) × IsDistinct nat_eq (keys_of l)) (sym (same-without es is)) (is, apart)
      by-found (Some v) is =
          let p : Place key es v = place-of-key key es v is in
          let there : IsDistinct nat_eq (keys_of (p.front ++ (key, v) ∷ p.back)) = subst (λ (l : List (ℕ × V)). IsDistinct nat_eq (keys_of l)) p.is apart in
          subst (λ (l : List (ℕ × V)). (lookup (nat_eq key) l ≡ None) × IsDistinct nat_eq (keys_of l)) (sym p.removed)
          (none-found (p.front ++ p.back) (away-of p.front key v p.back there), distinct-without p.front key v p.back there)

-- A clean block is no patch, so removing it removes none.
patches-removed : (size key : ℕ) (es : List (ℕ × Slot Block)) → AllByRecursion (λ e. e.0 ≡ key → e.1.value.modified ≡ false) es → filter_map (block_patch size) (remove_entry (nat_eq key) es) ≡ filter_map (block_patch size) es
patches-removed size key [] clean = refl
patches-removed size key (e ∷ es) clean = elim (cases_Bool (nat_eq key e.0)) [
  | inl t ↦ let off : e.1.value.modified ≡ false = clean.0 (sym (eqb-true key e.0 t)) in rw t (rw off refl)
  | inr t ↦ rw t (elim (cases_Bool e.1.value.modified) [
    | inl on ↦ rw on (ap (λ (l : List Patch). (e.0 * size, block_bytes e.1.value.order e.1.value.counters) ∷ l) (patches-removed size key es clean.1))
    | inr off ↦ rw off (patches-removed size key es clean.1)
  ])
]

pub block-names : (m : Metadata) (i key : ℕ) → i < refcount_table_entries m.header.fields → block_at m.file m.header.fields i ≡ key * cluster_size m.header.fields → key ≢ 0 → 0 < referenced_at_all m key
block-names m i key inside place some =
    let part = block-part m.file m.header.fields (meets m.header.fields key) i inside (λ none. place-there (cluster_size m.header.fields) key (pow_pos m.header.fields.cluster_bits) some (sym place ∙ none)) in
    let one : meets m.header.fields key (block_at m.file m.header.fields i) (cluster_size m.header.fields) ≡ 1 = ap (λ n. meets m.header.fields key n (cluster_size m.header.fields)) place ∙ meets-own m.header.fields key in
    let all = structure-named m.file (in_memory m) m.header.fields key in
    omega (arith, part, one, all)

pub never-unnamed : (m : Metadata) → IsSound m → (key : ℕ) → referenced_at_all m key ≡ 0 → ReferencesBlock m.table key → ⊥
never-unnamed m sound key none (i, named) =
    let n = named-block m.file m.header m.table i sound.table key sound.well_formed.consistent named in
    let inside = block-inside m.file m.header.fields i (λ empty. place-there (cluster_size m.header.fields) key (pow_pos m.header.fields.cluster_bits) n.some (sym n.place ∙ empty)) in
    let some = block-names m i key inside n.place n.some in
    omega (arith, none, some)

module _ (m : Metadata) (key : ℕ) (sound : IsSound m) (not_referenced : referenced_at_all m key ≡ 0) where
  pub unnamed-clean : AllByRecursion (λ e. e.0 ≡ key → e.1.value.modified ≡ false) m.cached.blocks
  unnamed-clean = all-weaker _ _ (λ e is here. elim (cases_Bool e.1.value.modified) [
    | inr off ↦ off
    | inl on ↦
        let live = is.modified on in
        let some = block-names m live.0 e.0 live.1 live.2 live.3 in
        let none : referenced_at_all m e.0 ≡ 0 = subst (λ n. referenced_at_all m n ≡ 0) (sym here) not_referenced in
        absurd (omega (arith, some, none))
  ]) m.cached.blocks sound.well_formed.blocks

  abbrev pub forgotten : Cached
  forgotten = record m.cached { blocks = remove_entry (nat_eq key) m.cached.blocks }

  pub forgotten-stays : StaysAsItIs m.file m.header m.cached m.order forgotten
  forgotten-stays =
      let same : memory m.file m.header.fields forgotten ≡ in_memory m =
      ap (λ (l : List Patch). over m.file (filter_map (table_patch (cluster_size m.header.fields)) m.cached.tables ++ l)) (patches-removed (cluster_size m.header.fields) key m.cached.blocks unnamed-clean) in
      record {
        well_formed = safe-with block_kind block-kind-laws m.file m.header m.order m.cached.tables m.cached.blocks (remove_entry (nat_eq key) m.cached.blocks) sound.well_formed same
            (record { apart = (removed-apart key m.cached.blocks sound.well_formed.blocks_apart).1; fit = all-removed _ (nat_eq key) m.cached.blocks sound.well_formed.blocks });
        memory_same = same;
      }

  -- Dropping the block leaves the guest unchanged.
  pub forgotten-quiet : IsSound (record m { cached = forgotten }) × GuestUnchanged (λ _. 0) (λ _. 0) m (record m { cached = forgotten })
  forgotten-quiet = used-quiet m forgotten sound forgotten-stays

  pub forgotten-counts : (c : ℕ) → counted (record m { cached = forgotten }) c ≡ counted m c
  forgotten-counts c = ap (λ (g : Bytes). count g m.header.fields c) forgotten-stays.memory_same
