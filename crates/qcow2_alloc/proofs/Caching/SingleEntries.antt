-- A single cached entry: its bytes in memory, and the patches without it.
use Rattle.std.proofs.Common.{◌≡◌, ◌≢◌, ℕ, ◌+◌, ◌*◌, ◌<◌, refl, ap, sym, subst, ◌∙◌, append-nil, List, [], ◌∷◌, ◌++◌, length, true, false}
use Rattle.std.specs.Prelude.{slice_index}
use Rattle.std.specs.List.{AllByRecursion, filter_map}
use Rattle.std.proofs.lemmas.List.{append_assoc}
use Rattle.std.proofs.lemmas.List.Elements.{filter_map-append}
use Rattle.std.proofs.lemmas.Nat.{pow_pos}
use Rattle.qcow2_types.specs.Bytes.{Bytes, splice, Patch, over}
use Rattle.qcow2_types.specs.Header.{Fields, Header, cluster_size}
use Rattle.qcow2_types.specs.Consistency.{IsConsistent}
use Rattle.qcow2_types.proofs.Changes.Over.{IsClear, over-first, over-settled, over-shows}
use Rattle.qcow2_types.proofs.Changes.Patches.{IsPatch, clear-apart}
use Rattle.qcow2_alloc.specs.declared.async_lru_cache.Slot.{Slot}
use Rattle.qcow2_alloc.specs.declared.cache.CacheDependency.{CacheDependency}
use Rattle.qcow2_alloc.specs.Memory.{table_patch, block_patch, patches, memory}
use Rattle.qcow2_alloc.specs.WellFormedness.{WellFormed}
use Rattle.qcow2_alloc.proofs.Memory.EntryKinds.{EntryKind, AreEntries, IsSafeMemory, table_kind, block_kind, patch_of, patches-all, safe-in-memory, safe-of}
use Rattle.qcow2_alloc.proofs.Memory.Patches.{all-append, all-front, all-back, all-weaker, all-both, others-before, others-behind, places-differ, table-is-patch, block-is-patch, table-clear-of-block, block-clear-of-table}

-- The laws of an entry kind: its patches, their distance from the other kind's bytes, and well-formedness.
pub record EntryLaws {V W : Type 0} (kind : EntryKind V W) : Type 0 where
  pub written : (h : Fields) (rest : List (ℕ × Slot W)) (es : List (ℕ × Slot V)) → patches h (kind.put rest es)
      ≡ kind.ahead (cluster_size h) rest ++ (filter_map (patch_of kind (cluster_size h)) es ++ kind.behind (cluster_size h) rest)
  pub is_patch : (f : Bytes) (H : Header) → IsConsistent f H → (key : ℕ) (v : V) → kind.Fits f H.fields key v → kind.writes.modified v ≡ true
      → IsPatch f H.fields (key * cluster_size H.fields, kind.bytes v)
  pub clear : (f : Bytes) (H : Header) → IsConsistent f H → (key : ℕ) (v : V) → kind.Fits f H.fields key v → kind.writes.modified v ≡ true
      → (rest : List (ℕ × Slot W)) → AllByRecursion (λ (e : ℕ × Slot W). kind.OtherFits f H.fields e.0 e.1.value) rest
      → AllByRecursion (IsClear (key * cluster_size H.fields) (length (kind.bytes v))) (kind.ahead (cluster_size H.fields) rest)
      × AllByRecursion (IsClear (key * cluster_size H.fields) (length (kind.bytes v))) (kind.behind (cluster_size H.fields) rest)
  pub own : (f : Bytes) (H : Header) (order : CacheDependency) (rest : List (ℕ × Slot W)) (es : List (ℕ × Slot V))
      → WellFormed f H (kind.put rest es) order → AreEntries (kind.Fits f H.fields) es
  pub others : (f : Bytes) (H : Header) (order : CacheDependency) (rest : List (ℕ × Slot W)) (es : List (ℕ × Slot V))
      → WellFormed f H (kind.put rest es) order → AreEntries (kind.OtherFits f H.fields) rest
  pub well_formed : (f : Bytes) (H : Header) (order : CacheDependency) (rest : List (ℕ × Slot W)) (es : List (ℕ × Slot V)) → IsConsistent f H
      → AreEntries (kind.Fits f H.fields) es → AreEntries (kind.OtherFits f H.fields) rest
      → IsSafeMemory f (memory f H.fields (kind.put rest es)) H order → WellFormed f H (kind.put rest es) order

pub table-kind-laws : EntryLaws table_kind
table-kind-laws = record {
  written = λ h blocks es. refl;
  is_patch = λ f H was key t is modified. table-is-patch f H was key t is modified;
  clear = λ f H was key t is modified blocks are. (
    tt,
    patches-all block_kind _ (cluster_size H.fields) blocks
        (all-weaker _ _ (λ e it m. table-clear-of-block f H was key t is modified e.0 e.1.value it m) blocks are),
  );
  own = λ f H order blocks es well_formed. record { apart = well_formed.tables_apart; fit = well_formed.tables };
  others = λ f H order blocks es well_formed. record { apart = well_formed.blocks_apart; fit = well_formed.blocks };
  well_formed = λ f H order blocks es was own others m. safe-of f H order (record { tables = es; blocks = blocks }) was own others m;
}

pub block-kind-laws : EntryLaws block_kind
block-kind-laws = record {
  written = λ h tables es.
      ap (λ (l : List Patch). filter_map (table_patch (cluster_size h)) tables ++ l) (sym (append-nil (filter_map (block_patch (cluster_size h)) es)));
  is_patch = λ f H was key b is modified. block-is-patch f H was key b is modified;
  clear = λ f H was key b is modified tables are. (
    patches-all table_kind _ (cluster_size H.fields) tables
        (all-weaker _ _ (λ e it m. block-clear-of-table f H was key b is modified e.0 e.1.value it m) tables are),
    tt,
  );
  own = λ f H order tables es well_formed. record { apart = well_formed.blocks_apart; fit = well_formed.blocks };
  others = λ f H order tables es well_formed. record { apart = well_formed.tables_apart; fit = well_formed.tables };
  well_formed = λ f H order tables es was own others m. safe-of f H order (record { tables = tables; blocks = es }) was others own m;
}

module _ {V W : Type 0} (kind : EntryKind V W) (laws : EntryLaws kind) where
  module _ (f : Bytes) (H : Header) (rest : List (ℕ × Slot W)) (front : List (ℕ × Slot V)) (key : ℕ) (slot : Slot V) (back : List (ℕ × Slot V)) where
    abbrev patched : List (ℕ × Slot V) → List Patch
    patched es = filter_map (patch_of kind (cluster_size H.fields)) es

    abbrev before : List Patch
    before = kind.ahead (cluster_size H.fields) rest ++ filter_map (patch_of kind (cluster_size H.fields)) front

    abbrev after : List Patch
    after = filter_map (patch_of kind (cluster_size H.fields)) back ++ kind.behind (cluster_size H.fields) rest

    abbrev own : Patch
    own = (key * cluster_size H.fields, kind.bytes slot.value)

    abbrev g : Bytes
    g = memory f H.fields (kind.put rest (front ++ (key, slot) ∷ back))

    -- The patches, with those of this entry between those of the entries around it.
    around : (es : List (ℕ × Slot V)) (middle : List Patch) → patched es ≡ patched front ++ (middle ++ patched back)
        → patches H.fields (kind.put rest es) ≡ before ++ (middle ++ after)
    around es middle is =
        let ahead : List Patch = kind.ahead (cluster_size H.fields) rest in
        let behind : List Patch = kind.behind (cluster_size H.fields) rest in
        laws.written H.fields rest es ∙ ap (λ (l : List Patch). ahead ++ (l ++ behind)) is
        ∙ ap (λ (l : List Patch). ahead ++ l) (append_assoc (patched front) (middle ++ patched back) behind
        ∙ ap (λ (l : List Patch). patched front ++ l) (append_assoc middle (patched back) behind))
        ∙ sym (append_assoc ahead (patched front) (middle ++ after))

    with-it : (s : Slot V) (middle : List Patch) → patched ((key, s) ∷ back) ≡ middle ++ patched back
        → patches H.fields (kind.put rest (front ++ (key, s) ∷ back)) ≡ before ++ (middle ++ after)
    with-it s middle here = around (front ++ (key, s) ∷ back) middle
        (filter_map-append (patch_of kind (cluster_size H.fields)) front ((key, s) ∷ back) ∙ ap (λ (l : List Patch). patched front ++ l) here)

    -- A dirty entry has one patch.
    patches-with : kind.writes.modified slot.value ≡ true → patches H.fields (kind.put rest (front ++ (key, slot) ∷ back)) ≡ before ++ (own ∷ after)
    patches-with modified = with-it slot (own ∷ []) (rw modified refl)

    -- A clean entry has none.
    patches-without : (s : Slot V) → kind.writes.modified s.value ≡ false → patches H.fields (kind.put rest (front ++ (key, s) ∷ back)) ≡ before ++ after
    patches-without s clean = with-it s [] (rw clean refl)

    patches-left : patches H.fields (kind.put rest (front ++ back)) ≡ before ++ after
    patches-left = around (front ++ back) [] (filter_map-append (patch_of kind (cluster_size H.fields)) front back)

    pub entry-leaves : kind.writes.modified slot.value ≡ false → memory f H.fields (kind.put rest (front ++ back)) ≡ g
    entry-leaves clean = ap (λ (ps : List Patch). over f ps) (patches-left ∙ sym (patches-without slot clean))

    abbrev IsAway : Patch → Type 0
    IsAway = IsClear (key * cluster_size H.fields) (length (kind.bytes slot.value))

    -- A dirty entry.
    module _ (was : IsConsistent f H) (fits : kind.Fits f H.fields key slot.value) (modified : kind.writes.modified slot.value ≡ true)
        (others : AllByRecursion (λ (e : ℕ × Slot W). kind.OtherFits f H.fields e.0 e.1.value) rest) where
      clear-own : (es : List (ℕ × Slot V)) → AllByRecursion (λ e. key ≢ e.0) es
          → AllByRecursion (λ (e : ℕ × Slot V). kind.Fits f H.fields e.0 e.1.value) es → AllByRecursion IsAway (patched es)
      clear-own es apart are = patches-all kind IsAway (cluster_size H.fields) es (all-weaker _ _ (λ e both m.
          clear-apart f H was own (e.0 * cluster_size H.fields, kind.bytes e.1.value)
          (laws.is_patch f H was key slot.value fits modified) (laws.is_patch f H was e.0 e.1.value both.1 m)
          (places-differ (cluster_size H.fields) key e.0 (pow_pos H.fields.cluster_bits) both.0)) es (all-both _ _ es apart are))

      module _ (apart : AllByRecursion (λ e. key ≢ e.0) front) (are : AllByRecursion (λ (e : ℕ × Slot V). kind.Fits f H.fields e.0 e.1.value) front) where
        clear-before : AllByRecursion IsAway before
        clear-before = all-append _ _ _ (laws.clear f H was key slot.value fits modified rest others).0 (clear-own front apart are)

        shows : (k : ℕ) → k < length (kind.bytes slot.value) → g (key * cluster_size H.fields + k) ≡ slice_index (kind.bytes slot.value) k
        shows k lt = ap (λ (ps : List Patch). over f ps (key * cluster_size H.fields + k)) (patches-with modified) ∙ over-shows f before own after clear-before k lt

        -- Memory is that of the other entries, with this entry spliced in.
        pub entry-over : g ≡ splice (memory f H.fields (kind.put rest (front ++ back))) (key * cluster_size H.fields) (kind.bytes slot.value)
        unfolding over
        entry-over =
            ap (λ (ps : List Patch). over f ps) (patches-with modified) ∙ over-first f before own after clear-before
            ∙ ap (λ (ps : List Patch). splice (over f ps) (key * cluster_size H.fields) (kind.bytes slot.value)) (sym patches-left)

    -- The same facts, from `WellFormed`.
    module _ (order : CacheDependency) (well_formed : WellFormed f H (kind.put rest (front ++ (key, slot) ∷ back)) order) where
      pub are-safe : AreEntries (kind.Fits f H.fields) (front ++ (key, slot) ∷ back)
      are-safe = laws.own f H order rest (front ++ (key, slot) ∷ back) well_formed

      pub others-safe : AreEntries (kind.OtherFits f H.fields) rest
      others-safe = laws.others f H order rest (front ++ (key, slot) ∷ back) well_formed

      front-fit : AllByRecursion (λ (e : ℕ × Slot V). kind.Fits f H.fields e.0 e.1.value) front
      front-fit = all-front _ front ((key, slot) ∷ back) are-safe.fit

      back-fit : AllByRecursion (λ (e : ℕ × Slot V). kind.Fits f H.fields e.0 e.1.value) ((key, slot) ∷ back)
      back-fit = all-back _ front ((key, slot) ∷ back) are-safe.fit

      pub entry-fits : kind.Fits f H.fields key slot.value
      entry-fits = back-fit.0

      module _ (modified : kind.writes.modified slot.value ≡ true) where
        pub entry-shows : (k : ℕ) → k < length (kind.bytes slot.value) → g (key * cluster_size H.fields + k) ≡ slice_index (kind.bytes slot.value) k
        entry-shows = shows well_formed.consistent entry-fits modified others-safe.fit (others-before key slot front back are-safe.apart) front-fit

        pub over-rest : g ≡ splice (memory f H.fields (kind.put rest (front ++ back))) (key * cluster_size H.fields) (kind.bytes slot.value)
        over-rest = entry-over well_formed.consistent entry-fits modified others-safe.fit (others-before key slot front back are-safe.apart) front-fit

        clear-after : AllByRecursion IsAway after
        clear-after = all-append _ _ _
            (clear-own well_formed.consistent entry-fits modified others-safe.fit back (others-behind key slot front back are-safe.apart) back-fit.1)
            (laws.clear f H well_formed.consistent key slot.value entry-fits modified rest others-safe.fit).1

        -- Writing the entry and making it clean doesn't change memory.
        pub entry-settled : (settled : Slot V) → kind.writes.modified settled.value ≡ false
            → memory (splice f (key * cluster_size H.fields) (kind.bytes slot.value)) H.fields (kind.put rest (front ++ (key, settled) ∷ back)) ≡ g
        entry-settled settled clean =
            ap (λ (ps : List Patch). over (splice f (key * cluster_size H.fields) (kind.bytes slot.value)) ps) (patches-without settled clean)
            ∙ over-settled f before own after clear-after ∙ ap (λ (ps : List Patch). over f ps) (sym (patches-with modified))

  -- Replacing entries keeps `WellFormed` if memory doesn't change.
  pub safe-with : (f : Bytes) (H : Header) (order : CacheDependency) (rest : List (ℕ × Slot W)) (old new : List (ℕ × Slot V)) → WellFormed f H (kind.put rest old) order
      → memory f H.fields (kind.put rest new) ≡ memory f H.fields (kind.put rest old) → AreEntries (kind.Fits f H.fields) new → WellFormed f H (kind.put rest new) order
  safe-with f H order rest old new well_formed same are = laws.well_formed f H order rest new well_formed.consistent are (laws.others f H order rest old well_formed)
      (subst (λ (b : Bytes). IsSafeMemory f b H order) (sym same) (safe-in-memory f H (kind.put rest old) order well_formed))
