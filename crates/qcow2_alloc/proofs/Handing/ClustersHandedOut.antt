-- No version of an entry references an allocated cluster, and it isn't on the free list.
use Rattle.std.proofs.Common.{◌≡◌, ℕ, ◌<◌, ◌≤◌, refl, arith, sym, subst, inl, inr, Bool, true, false, List, [], ◌∷◌, ◌++◌}
use Rattle.std.specs.Prelude.{◌⊎◌, ◌==◌, max, if◌then◌else◌}
use Rattle.std.proofs.lemmas.List.{append-nil}
use Rattle.qcow2_types.specs.Bytes.{Bytes}
use Rattle.qcow2_types.specs.Header.{Fields, Header}
use Rattle.qcow2_types.specs.Entries.{l2_table}
use Rattle.qcow2_types.specs.Pending.{FreeEntry}
use Rattle.qcow2_types.specs.References.{structure, of_mapping, meets, refs}
use Rattle.qcow2_types.specs.Slots.{slot, Live, over_slots}
use Rattle.qcow2_types.specs.Switched.{with_reftable}
use Rattle.qcow2_types.specs.Versions.{BlocksFirst, references_in_either, of_either}
use Rattle.qcow2_types.specs.Words.{Mapping}
use Rattle.qcow2_types.proofs.Counting.Either.{structure-same, tables-same}
use Rattle.qcow2_types.proofs.Changes.Frames.{refcount_table-part}
use Rattle.qcow2_types.proofs.Counting.Slots.{slots-mono}
use Rattle.qcow2_alloc.specs.declared.cache.CacheDependency.{CacheDependency}
use Rattle.qcow2_alloc.specs.declared.cache.CacheDependency.TheVariants.{L2DependsOnRb}
use Rattle.qcow2_alloc.specs.FreeList.{covers, listed}
use Rattle.qcow2_alloc.specs.GrowingTables.{IsLengthenedByTable}
use Rattle.qcow2_alloc.specs.GuestView.{Metadata, in_memory, counted, referenced, referenced_at_all, waiting, IsUsed, IsSound, GuestUnchanged}
use Rattle.qcow2_alloc.specs.WellFormedness.{IsOrdered}
use Rattle.qcow2_alloc.proofs.Freeing.ClusterOccurrences.{listed_push}
use Rattle.qcow2_alloc.proofs.Memory.MemoryWords.{places-in-memory}
use Rattle.qcow2_alloc.proofs.GuestView.QuietSequences.{contents-then, of-moved, structure-in-memory}
use Rattle.qcow2_alloc.proofs.Growth.RoomSwitches.{old_run, old-run-is}

either-one : (w : Mapping → ℕ) (a b x y : Mapping) → (x ≡ a) ⊎ (x ≡ b) → y ≡ b → max (w x) (w y) ≤ max (w a) (w b)
either-one w a b x y (inl first) second = rw (first, second) (omega arith)
either-one w a b x y (inr first) second = rw (first, second) (omega arith)

-- If L2 entries keep their meaning, in the file or in memory, references don't increase, under any refcount table.
module _ (f g x y : Bytes) (h : Fields) (offset clusters c : ℕ) (tables : (i : ℕ) → l2_table x (with_reftable h offset clusters) i ≡ l2_table f h i)
    (raw_entries : (i j : ℕ) → Live (l2_table f h) h i j → (slot x (with_reftable h offset clusters) i j ≡ slot f h i j) ⊎ (slot x (with_reftable h offset clusters) i j ≡ slot g h i j))
    (memory : (i j : ℕ) → Live (l2_table f h) h i j → slot y (with_reftable h offset clusters) i j ≡ slot g h i j) where
  abbrev h' : Fields
  h' = with_reftable h offset clusters

  slots-moved : over_slots (l2_table x h') h' (λ i j. of_either h' (meets h' c) (slot x h' i j) (slot y h' i j)) ≡ over_slots (l2_table x h') h (λ i j. of_either h' (meets h' c) (slot x h' i j) (slot y h' i j))
  unfolding over_slots
  slots-moved = refl

  pub named-no-more : structure x h' (meets h' c) ≡ 0 → references_in_either x y h' c ≤ references_in_either f g h c
  unfolding references_in_either
  named-no-more none =
      let there : over_slots (l2_table x h') h (λ i j. of_either h' (meets h' c) (slot x h' i j) (slot y h' i j)) ≡ over_slots (l2_table f h) h (λ i j. of_either h' (meets h' c) (slot x h' i j) (slot y h' i j)) = tables-same (l2_table f h) (l2_table x h') h _ tables in
      let le : over_slots (l2_table f h) h (λ i j. of_either h' (meets h' c) (slot x h' i j) (slot y h' i j)) ≤ over_slots (l2_table f h) h (λ i j. of_either h (meets h c) (slot f h i j) (slot g h i j)) =
      slots-mono (l2_table f h) h _ _ (λ i j live.
      let moved-x = of-moved h h' refl (meets h c) (slot x h' i j) in
      let moved-y = of-moved h h' refl (meets h c) (slot y h' i j) in
      let one = either-one (of_mapping h (meets h c)) (slot f h i j) (slot g h i j) (slot x h' i j) (slot y h' i j) (raw_entries i j live) (memory i j live) in
      rw (moved-x, moved-y) one) in
      let same = slots-moved in
      omega (arith, none, same, there, le)

-- So a call that leaves the guest unchanged adds no reference to a cluster outside the structure.
pub quiet-names-no-more : (m m' : Metadata) (handed taken : ℕ → ℕ) → GuestUnchanged handed taken m m' → (c : ℕ) → structure m'.file m'.header.fields (meets m'.header.fields c) ≡ 0 → referenced_at_all m' c ≤ referenced_at_all m c
quiet-names-no-more m m' handed taken guest_unchanged c =
    subst (λ (H : Header). ((i : ℕ) → l2_table m'.file H.fields i ≡ l2_table m.file m.header.fields i)
    → ((i j : ℕ) → Live (l2_table m.file m.header.fields) m.header.fields i j → (slot m'.file H.fields i j ≡ slot m.file m.header.fields i j) ⊎ (slot m'.file H.fields i j ≡ slot (in_memory m) m.header.fields i j))
    → ((i j : ℕ) → Live (l2_table m.file m.header.fields) m.header.fields i j → slot (in_memory m') H.fields i j ≡ slot (in_memory m) m.header.fields i j)
    → structure m'.file H.fields (meets H.fields c) ≡ 0 → references_in_either m'.file (in_memory m') H.fields c ≤ references_in_either m.file (in_memory m) m.header.fields c)
    (sym guest_unchanged.shows.moved.2) (named-no-more m.file (in_memory m) m'.file (in_memory m') m.header.fields guest_unchanged.shows.moved.0 guest_unchanged.shows.moved.1 c) guest_unchanged.shows.tables guest_unchanged.shows.raw_entries guest_unchanged.raw_entries

pub unnamed-used : (m : Metadata) (c : ℕ) → waiting m c < counted m c → referenced_at_all m c ≡ 0 → IsUsed m c
unfolding references_in_either
unnamed-used m c more none = record { apart = omega (arith, none); taken = more }

-- A cluster with a refcount that rose from 0 by its allocation has no other use.
module _ (m m' : Metadata) (handed : ℕ → ℕ) (c : ℕ) (sound : IsSound m) (sound' : IsSound m') (order : m.order ≡ L2DependsOnRb) (guest_unchanged : GuestUnchanged handed (λ _. 0) m m') (zero : counted m c ≡ 0) (one : counted m' c ≡ 1) (given : handed c ≡ 1) where
  unreferenced : (referenced m' c ≡ 0) × (waiting m' c ≡ 0)
  unreferenced = let law = guest_unchanged.law c in let covers = sound.covered c in (omega (arith, law, covers, zero, one, given), omega (arith, law, covers, zero, one, given))

  structure-none : structure m'.file m'.header.fields (meets m'.header.fields c) ≡ 0
  unfolding refs
  structure-none =
      let none = unreferenced.0 in
      let same : structure (in_memory m') m'.header.fields (meets m'.header.fields c) ≡ structure m'.file m'.header.fields (meets m'.header.fields c) =
      structure-same m'.file (in_memory m') m'.header.fields (places-in-memory m'.file m'.header sound'.well_formed.consistent m'.cached sound'.well_formed.tables sound'.well_formed.blocks) (meets m'.header.fields c) in
      omega (arith, none, same)

  unnamed-before : referenced_at_all m c ≡ 0
  unnamed-before =
      let ordered : BlocksFirst m.file (in_memory m) m.header.fields = subst (λ (o : CacheDependency). IsOrdered o m.file (in_memory m) m.header.fields) order sound.well_formed.ordered in
      let le = ordered.cached c in
      omega (arith, le, zero)

  pub handed-unnamed : (referenced_at_all m' c ≡ 0) × (waiting m' c ≡ 0)
  handed-unnamed =
      let le = quiet-names-no-more m m' handed (λ _. 0) guest_unchanged c structure-none in
      let none = unnamed-before in
      (omega (arith, le, none), unreferenced.1)

listed-run : (b : Bool) (l : List FreeEntry) (e : FreeEntry) (c : ℕ) → listed l c ≡ 0 → covers c e ≡ 0 → listed (l ++ (if b then [] else e ∷ [])) c ≡ 0
listed-run true l e c none away = subst (λ (es : List FreeEntry). listed es c ≡ 0) (sym (append-nil l)) none
listed-run false l e c none away = let push = listed_push l e c in omega (arith, push, none, away)

-- A newly counted cluster that wasn't allocated now holds a table or a block.
module _ (m m' : Metadata) (handed : ℕ → ℕ) (c : ℕ) (sound : IsSound m) (sound' : IsSound m') (guest_unchanged : GuestUnchanged handed (λ _. 0) m m') (list : IsLengthenedByTable m.header.fields m.table m'.table m.pending m'.pending) (zero : counted m c ≡ 0) (kept : handed c ≡ 0) where
  nothing-named : (referenced m c ≡ 0) × (waiting m c ≡ 0)
  nothing-named = let covers = sound.covered c in (omega (arith, covers, zero), omega (arith, covers, zero))

  -- The old refcount table was counted, so this cluster isn't in it.
  not-of-table : covers c (old_run m) ≡ 0
  unfolding refs
  not-of-table =
      let none = nothing-named.0 in
      let is = old-run-is m sound c in
      let part = refcount_table-part m.file m.header.fields (meets m.header.fields c) in
      let same = structure-in-memory m sound (meets m.header.fields c) in
      omega (arith, none, is, part, same)

  waits-not : waiting m' c ≡ 0
  waits-not = elim list [
    | inl same ↦ subst (λ (es : List FreeEntry). listed es c ≡ 0) (sym same) nothing-named.1
    | inr more ↦ subst (λ (es : List FreeEntry). listed es c ≡ 0) (sym more.1) (listed-run (m.header.fields.refcount_table_clusters == 0) m.pending (old_run m) c nothing-named.1 not-of-table)
  ]

  pub stands-there : 0 < counted m' c → 0 < structure m'.file m'.header.fields (meets m'.header.fields c)
  unfolding refs
  stands-there some =
      let none = nothing-named.0 in
      let free = nothing-named.1 in
      let has_no_dirty_data = waits-not in
      let law = guest_unchanged.law c in
      let raw_entries = contents-then m m' handed (λ _. 0) guest_unchanged sound sound' c in
      let same = structure-in-memory m' sound' (meets m'.header.fields c) in
      omega (arith, none, free, has_no_dirty_data, law, raw_entries, same, some, kept)
