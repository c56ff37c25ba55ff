-- Setting an entry of a cached L2 table: the effect on memory, and why the caches stay well-formed.
use Rattle.std.proofs.Common.{◌≡◌, ◌≢◌, ℕ, ◌+◌, ◌*◌, ◌/◌, ◌%◌, ◌^◌, ◌<◌, ◌≤◌, refl, arith, ap, sym, subst, ◌∙◌, List, ◌∷◌, ◌++◌, length, Some, true, false, inl, inr}
use Rattle.std.specs.Prelude.{◌⊎◌, nat_eq, slice_index, slice_set, max, IsTrue, IsFalse}
use Rattle.std.specs.Map.{lookup}
use Rattle.std.proofs.lemmas.Bool.{cases_Bool, cases_eq, cases_lt, not-true}
use Rattle.std.proofs.lemmas.List.{get_or-set_same, get_or-set_other}
use Rattle.std.proofs.lemmas.Nat.{mod_below, pow_pos}
use Rattle.qcow2_types.specs.Bytes.{Bytes, splice, raw_entry}
use Rattle.qcow2_types.specs.Words.{Layout, Mapping, data_at, mapping_of, is_damaged}
use Rattle.qcow2_types.specs.Header.{Fields, Header, Shaped, cluster_size, entries_of_cluster, layout_of}
use Rattle.qcow2_types.specs.Entries.{l2_table}
use Rattle.qcow2_types.specs.Counts.{count}
use Rattle.qcow2_types.specs.References.{structure, contents, of_mapping, of_copied, meets, refs}
use Rattle.qcow2_types.specs.Slots.{Live, over_slots, slot as slot_in}
use Rattle.qcow2_types.specs.TableBytes.{table_bytes}
use Rattle.qcow2_types.specs.Consistency.{IsConsistent}
use Rattle.qcow2_types.specs.Frames.{Same, Outside}
use Rattle.qcow2_types.specs.Steps.{SlotWritten, TableWritten, TableRewritten}
use Rattle.qcow2_types.specs.Versions.{SamePlaces, IsBetween, ChangesSlot, of_either, references_in_either, copied, ReferencedOnce, BlocksFirst, TablesFirst}
use Rattle.qcow2_types.proofs.Counting.Consistent.{meets-own, meets-other, some-words}
use Rattle.qcow2_types.proofs.Counting.Either.{structure-same, refs-cached, refs-change, named-change}
use Rattle.qcow2_types.proofs.Changes.Frames.{word-same, splice-is-outside}
use Rattle.qcow2_types.proofs.Changes.Over.{table-over}
use Rattle.qcow2_types.proofs.Counting.Parts.{words-fit}
use Rattle.qcow2_types.proofs.Counting.Slots.{slots-change, slot-le}
use Rattle.qcow2_types.proofs.Numbers.Splices.{be-same}
use Rattle.qcow2_types.proofs.Changes.Stops.{copied-between}
use Rattle.qcow2_types.proofs.Changes.TableRewrites.{table-written, table-rewritten}
use Rattle.qcow2_metadata.specs.Places.{IsAddressable}
use Rattle.qcow2_metadata.specs.Tables.{TableValue, l2_table_kind, raw_entry_valid, with_raw_entry, mapping_in}
use Rattle.qcow2_metadata.specs.Blocks.{Block}
use Rattle.qcow2_metadata.proofs.Conservation.{mapped_means}
use Rattle.qcow2_metadata.proofs.L2Words.{mapped_fits}
use Rattle.qcow2_metadata.proofs.TableFacts.{words_at}
use Rattle.qcow2_metadata.proofs.TableSteps.{entered}
use Rattle.qcow2_alloc.specs.declared.async_lru_cache.Slot.{Slot}
use Rattle.qcow2_alloc.specs.declared.cache.CacheDependency.{CacheDependency}
use Rattle.qcow2_alloc.specs.declared.cache.CacheDependency.TheVariants.{Unset, L2DependsOnRb, RbDependsOnL2}
use Rattle.qcow2_alloc.specs.Cache.{hit}
use Rattle.qcow2_alloc.specs.Changes.{CachesTable, SetsEntry, EntryChanged, ReferencesNoMore, ReferencesDropped, ClusterLinked, file_with}
use Rattle.qcow2_alloc.specs.Memory.{Cached, memory}
use Rattle.qcow2_alloc.specs.WellFormedness.{IsCachedTable, IsOrdered, WellFormed}
use Rattle.qcow2_alloc.proofs.Caching.SingleEntries.{table-kind-laws, entry-fits}
use Rattle.qcow2_alloc.proofs.Memory.EntryChanges.{entry-put, none-there, put-safe}
use Rattle.qcow2_alloc.proofs.Memory.EntryKinds.{table_kind, tables_with}
use Rattle.qcow2_alloc.proofs.Memory.MemoryImage.{safe-memory}
use Rattle.qcow2_alloc.proofs.Memory.MemoryWords.{places-in-memory, table-same}
use Rattle.qcow2_alloc.proofs.Memory.Patches.{place-there, table-long, shaped-in}
use Rattle.qcow2_alloc.proofs.Caching.Places.{Place, place-of-key, place-hit, slot-of}
use Rattle.qcow2_alloc.proofs.Flushing.TableWriteBacks.{word-here}

-- The change that one entry makes to the references in the file or in memory.
module _ (f g x : Bytes) (h : Fields) (i j : ℕ) (step : ChangesSlot f g x h i j) where
  -- COPIED references change by those of the entry.
  copied-change : (c : ℕ) → copied f x h c + max (of_copied h (meets h c) (slot_in f h i j)) (of_copied h (meets h c) (slot_in g h i j))
      ≡ copied f g h c + max (of_copied h (meets h c) (slot_in f h i j)) (of_copied h (meets h c) (slot_in x h i j))
  unfolding copied
  copied-change c = slots-change (l2_table f h) h _ _ i j step.live (λ k m live apart. ap (λ n. max (of_copied h (meets h c) (slot_in f h k m)) (of_copied h (meets h c) n)) (step.others k m live apart))

  pub copied-stays : (c : ℕ) → of_copied h (meets h c) (slot_in x h i j) ≤ of_copied h (meets h c) (slot_in g h i j) → copied f x h c ≤ copied f g h c
  copied-stays c less = let e = copied-change c in omega (arith, e, less)

  pub names-stay : (c : ℕ) → of_mapping h (meets h c) (slot_in x h i j) ≤ of_mapping h (meets h c) (slot_in g h i j) → references_in_either f x h c ≤ references_in_either f g h c
  names-stay c less = let e = named-change f g x h i j c step in omega (arith, e, less)

  -- The entry's references are among all references.
  word-named : (c : ℕ) → of_either h (meets h c) (slot_in f h i j) (slot_in g h i j) ≤ references_in_either f g h c
  unfolding references_in_either
  word-named c =
      let le : of_either h (meets h c) (slot_in f h i j) (slot_in g h i j) ≤ over_slots (l2_table f h) h (λ k m. of_either h (meets h c) (slot_in f h k m) (slot_in g h k m)) =
      slot-le (l2_table f h) h (λ k m. of_either h (meets h c) (slot_in f h k m) (slot_in g h k m)) i j step.live in
      omega (arith, le)

  -- A cluster that nothing referenced, and that the entry references now, is referenced once.
  pub named-first : (c : ℕ) → references_in_either f g h c ≡ 0 → of_mapping h (meets h c) (slot_in x h i j) ≡ 1 → references_in_either f x h c ≡ 1
  named-first c none one = let le = word-named c in let e = named-change f g x h i j c step in omega (arith, le, e, none, one)

  pub refs-first : SamePlaces f g h → SamePlaces f x h → (c : ℕ) → references_in_either f g h c ≡ 0 → of_mapping h (meets h c) (slot_in x h i j) ≡ 1 → refs x h c ≡ 1
  refs-first places places' c none one =
      let le = word-named c in
      let few = refs-cached f g h c places in
      let e = refs-change f g x h i j c places places' step in
      omega (arith, le, few, e, none, one)

-- Cluster `c` has no new references.
pub record NoMore (f g x : Bytes) (h : Fields) (c : ℕ) : Type 0 where
  pub references : refs x h c ≤ refs g h c
  pub names : references_in_either f x h c ≤ references_in_either f g h c
  pub copies : copied f x h c ≤ copied f g h c

-- Each cluster has no new references, or is counted and referenced at most once.
abbrev pub AreFew : Bytes → Bytes → Bytes → Fields → Type 0
AreFew f g x h = (c : ℕ) → NoMore f g x h c ⊎ ((references_in_either f x h c ≤ 1) × (1 ≤ count g h c))

-- So the caches stay well-formed, if refcounts and offsets are unchanged.
module _ (f g x : Bytes) (h : Fields) (few : AreFew f g x h) (counts : (c : ℕ) → count x h c ≡ count g h c) (places : SamePlaces f x h) where
  pub few-apart : ReferencedOnce f g h → ReferencedOnce f x h
  few-apart apart c some = elim (few c) [
    | inr once ↦ once.0
    | inl same ↦ let le = same.copies in let one = apart c (omega (arith, le, some)) in let le' = same.names in omega (arith, one, le')
  ]

  few-blocks : BlocksFirst f g h → BlocksFirst f x h
  few-blocks first = record {
    cached = λ c. let e = counts c in elim (few c) [
      | inr once ↦ omega (arith, once.0, once.1, e)
      | inl same ↦ let le = same.names in let ok = first.cached c in omega (arith, le, ok, e)
    ];
    file = first.file;
  }

  few-tables : TablesFirst f g h → TablesFirst f x h
  few-tables first = record {
    file = λ c. elim (few c) [
      | inr once ↦ let le = first.lowered c in omega (arith, once.0, once.1, le)
      | inl same ↦ let le = same.names in let ok = first.file c in omega (arith, le, ok)
    ];
    lowered = λ c. let e = counts c in let le = first.lowered c in omega (arith, e, le);
  }

  pub few-ordered : (o : CacheDependency) → IsOrdered o f g h → IsOrdered o f x h
  few-ordered Unset both = (few-blocks both.0, few-tables both.1)
  few-ordered L2DependsOnRb first = few-blocks first
  few-ordered RbDependsOnL2 first = few-tables first

  pub few-covered : ((c : ℕ) → refs g h c ≤ count g h c) → (c : ℕ) → refs x h c ≤ count x h c
  few-covered covered c = let e = counts c in elim (few c) [
    | inr once ↦ let le = refs-cached f x h c places in omega (arith, once.0, once.1, le, e)
    | inl same ↦ let le = same.references in let ok = covered c in omega (arith, le, ok, e)
  ]

  -- The structure and COPIED clusters are referenced once.
  pub few-alone : ReferencedOnce f g h → (c : ℕ) → 0 < structure f h (meets h c) + contents x h (of_copied h (meets h c)) → refs x h c ≤ 1
  few-alone apart c some =
      let between : IsBetween f x x h = record { places = places; slots = λ i j live. inr refl } in
      let le = copied-between f x x h between c in
      let one = few-apart apart c (omega (arith, le, some)) in
      let few' = refs-cached f x h c places in
      omega (arith, one, few')

-- The cached table with one entry set.
abbrev word_set : Slot TableValue → ℕ → ℕ → Slot TableValue
word_set slot j w = record slot { value = with_raw_entry slot.value j w }

module _ (f : Bytes) (H : Header) (order : CacheDependency) (front : List (ℕ × Slot TableValue)) (key : ℕ) (slot : Slot TableValue) (back : List (ℕ × Slot TableValue)) (blocks : List (ℕ × Slot Block))
    (well_formed : WellFormed f H (tables_with front key slot back blocks) order) (i : ℕ) (in_l1 : i < H.fields.l1_entries) (place : l2_table f H.fields i ≡ key * cluster_size H.fields) (some : key ≢ 0) where
  abbrev old : Cached
  old = tables_with front key slot back blocks

  abbrev g : Bytes
  g = memory f H.fields (tables_with front key slot back blocks)

  this : IsCachedTable f H.fields key slot.value
  this = entry-fits table_kind table-kind-laws f H blocks front key slot back order well_formed

  there : l2_table f H.fields i ≢ 0
  there none = place-there (cluster_size H.fields) key (pow_pos H.fields.cluster_bits) some (sym place ∙ none)

  places : SamePlaces f g H.fields
  places = places-in-memory f H well_formed.consistent (tables_with front key slot back blocks) well_formed.tables well_formed.blocks

  at_key : l2_table g H.fields i ≡ key * cluster_size H.fields
  at_key = places.l1 i ∙ place

  full : (s : Slot TableValue) → IsCachedTable f H.fields key s.value → length (table_bytes s.value.raw_entries) ≡ cluster_size H.fields
  full s is = table-long f H well_formed.consistent s.value is.fits is.layout

  whole : (s : Slot TableValue) → IsCachedTable f H.fields key s.value → length s.value.raw_entries * 8 ≡ cluster_size H.fields
  whole s is = is.fits.long ∙ ap (λ (l : Layout). 2 ^ l.cluster_bits) is.layout

  within : (s : Slot TableValue) → IsCachedTable f H.fields key s.value → (m : ℕ) → m < entries_of_cluster H.fields → m < length s.value.raw_entries
  within s is m less = let all = whole s is in let fits = words-fit H.fields m less in omega (arith, all, fits)

  clean-memory : slot.value.modified ≡ false → Same f g (key * cluster_size H.fields) (cluster_size H.fields)
  clean-memory clean = subst (λ t. Same f g t (cluster_size H.fields)) place
      (table-same f H well_formed.consistent (tables_with front key slot back blocks) well_formed.tables well_formed.blocks i in_l1 there
      (none-there table_kind table-kind-laws f H order blocks front key slot back well_formed clean (l2_table f H.fields i) place))

  pub word-in-memory : (m : ℕ) → m < entries_of_cluster H.fields → raw_entry g (key * cluster_size H.fields) m ≡ slice_index slot.value.raw_entries m
  word-in-memory m less = elim (cases_Bool slot.value.modified) [
    | inl modified ↦ word-here f H order front key slot back blocks well_formed modified m less
    | inr clean ↦
        word-same f g (key * cluster_size H.fields) (cluster_size H.fields) m (clean-memory clean) (words-fit H.fields m less)
        ∙ sym (words_at f (key * cluster_size H.fields) (entries_of_cluster H.fields) m less)
        ∙ ap (λ (l : List ℕ). slice_index l m) (sym (this.clean clean (i, in_l1, place, some)))
  ]

  pub slot-in-memory : (m : ℕ) → m < entries_of_cluster H.fields → slot_in g H.fields i m ≡ mapping_in slot.value m
  slot-in-memory m less =
      ap (λ t. mapping_of (layout_of H.fields) (raw_entry g t m)) at_key ∙ ap (mapping_of (layout_of H.fields)) (word-in-memory m less)
      ∙ ap (λ (l : Layout). mapping_of l (slice_index slot.value.raw_entries m)) (sym this.layout)

  was : IsConsistent g H
  was = safe-memory f H old order well_formed

  there_in_memory : l2_table g H.fields i ≢ 0
  there_in_memory none = there (sym (places.l1 i) ∙ none)

  -- Entry `j` is set to `w`.
  module _ (j w : ℕ) (in_table : j < entries_of_cluster H.fields) (fits : w < 2 ^ 64) (sane : IsFalse (is_damaged (mapping_of (layout_of H.fields) w))) where
    abbrev new : Slot TableValue
    new = word_set slot j w

    abbrev cached' : Cached
    cached' = record { tables = (key, word_set slot j w) ∷ front ++ back; blocks = blocks }

    new-is : IsCachedTable f H.fields key new.value
    new-is = record {
      fits = entered l2_table_kind slot.value.layout slot.value.raw_entries j w slot.value.cluster slot.value.cluster slot.value.modified true this.fits (sound (rw this.layout sane)) fits;
      placed = this.placed;
      layout = this.layout;
      modified = λ m. (i, in_l1, place, some);
      clean = λ off. absurd (cc);
    }
      where
        sound : is_damaged (mapping_of slot.value.layout w) ≡ false → IsTrue (raw_entry_valid l2_table_kind slot.value.layout w)
        sound clear = rw clear refl

    abbrev new_bytes : List ℕ
    new_bytes = table_bytes (slice_set slot.value.raw_entries j w)

    abbrev x : Bytes
    x = splice g (key * cluster_size H.fields) new_bytes

    -- Memory changes only in the table's cluster.
    pub word-put : memory f H.fields cached' ≡ x
    word-put = entry-put table_kind table-kind-laws f H order blocks front key slot back well_formed new new-is refl

    outside : Outside g x (key * cluster_size H.fields) (length new_bytes)
    outside = splice-is-outside g (key * cluster_size H.fields) new_bytes

    low : l2_table g H.fields i ≤ key * cluster_size H.fields
    low = omega (arith, at_key)

    high : key * cluster_size H.fields + length new_bytes ≤ l2_table g H.fields i + cluster_size H.fields
    high = omega (arith, at_key, full new new-is)

    table-changed : TableWritten g x H i
    table-changed = table-written g x H was i there_in_memory (key * cluster_size H.fields) (length new_bytes) outside low high

    places' : SamePlaces f x H.fields
    places' = record { l1 = λ k. table-changed.places.l1 k ∙ places.l1 k; blocks = λ k. table-changed.places.blocks k ∙ places.blocks k }

    new-word : (m : ℕ) → m < entries_of_cluster H.fields → raw_entry x (key * cluster_size H.fields) m ≡ slice_index (slice_set slot.value.raw_entries j w) m
    new-word m less = table-over g (key * cluster_size H.fields) (slice_set slot.value.raw_entries j w) m new-is.fits.fit (within new new-is m less)

    here : slot_in x H.fields i j ≡ mapping_of (layout_of H.fields) w
    here =
        ap (λ t. mapping_of (layout_of H.fields) (raw_entry x t j)) (table-changed.places.l1 i ∙ at_key)
        ∙ ap (mapping_of (layout_of H.fields)) (new-word j in_table ∙ get_or-set_same slot.value.raw_entries j w 0 (within slot this j in_table))

    -- Each other entry is unchanged, also past the table.
    row : (m : ℕ) → m ≢ j → raw_entry x (key * cluster_size H.fields) m ≡ raw_entry g (key * cluster_size H.fields) m
    unfolding raw_entry
    row m apart = elim (cases_lt m (entries_of_cluster H.fields)) [
      | inl less ↦ in-table less
      | inr past ↦
          let all = whole new new-is in
          be-same x g (key * cluster_size H.fields + 8 * m) (key * cluster_size H.fields + 8 * m) 8 (λ k lt. outside (key * cluster_size H.fields + 8 * m + k) (inr (omega (arith, past, all, full new new-is))))
    ]
      where
        in-table : m < entries_of_cluster H.fields → raw_entry x (key * cluster_size H.fields) m ≡ raw_entry g (key * cluster_size H.fields) m
        in-table less = new-word m less ∙ get_or-set_other slot.value.raw_entries j m w 0 apart ∙ sym (word-in-memory m less)

    others : (k m : ℕ) → Live (l2_table g H.fields) H.fields k m → (k ≢ i) ⊎ (m ≢ j) → slot_in x H.fields k m ≡ slot_in g H.fields k m
    others k m live (inl apart) = table-changed.others k m live apart
    others k m live (inr apart) = elim (cases_eq k i) [
      | inr other ↦ table-changed.others k m live other
      | inl e ↦ subst (λ q. slot_in x H.fields q m ≡ slot_in g H.fields q m) (sym e)
          (ap (λ t. mapping_of (layout_of H.fields) (raw_entry x t m)) (table-changed.places.l1 i ∙ at_key)
          ∙ ap (mapping_of (layout_of H.fields)) (row m apart)
          ∙ ap (λ t. mapping_of (layout_of H.fields) (raw_entry g t m)) (sym at_key))
    ]

    pub changes : ChangesSlot f g x H.fields i j
    changes = record {
      live = record { in_l1 = in_l1; is_there = there; in_table = in_table };
      others = λ k m live apart. others k m (record { in_l1 = live.in_l1; is_there = (λ z. live.is_there (sym (places.l1 k) ∙ z)); in_table = live.in_table }) apart;
    }

    module _ (few : AreFew f g x H.fields) where
      each-sane : (m : ℕ) → m < entries_of_cluster H.fields → IsFalse (is_damaged (mapping_of (layout_of H.fields) (raw_entry x (l2_table g H.fields i) m)))
      each-sane m less =
          ap (λ t. is_damaged (mapping_of (layout_of H.fields) (raw_entry x t m))) at_key ∙ ap (λ v. is_damaged (mapping_of (layout_of H.fields) v)) (new-word m less)
          ∙ subst (λ (l : Layout). is_damaged (mapping_of l (slice_index (slice_set slot.value.raw_entries j w) m)) ≡ false) this.layout (not-true _ (new-is.fits.sound m (within new new-is m less)))

      covered : (c : ℕ) → refs x H.fields c ≤ count x H.fields c
      covered = few-covered f g x H.fields few table-changed.counts places' well_formed.covered

      rewritten : TableRewritten g x H i
      rewritten = table-rewritten g x H was i there_in_memory (key * cluster_size H.fields) (length new_bytes) outside low high each-sane
          (λ c. let le = covered c in let e = table-changed.counts c in omega (arith, le, e))
          (λ c more. let e = structure-same f g H.fields places (meets H.fields c) in few-alone f g x H.fields few table-changed.counts places' well_formed.apart c (omega (arith, e, more)))

      written : SlotWritten g x H i j (mapping_of (layout_of H.fields) w)
      written = record {
        consistent = rewritten.consistent;
        same_structure_outside = table-changed.same_structure_outside;
        places = table-changed.places;
        here = here;
        row = λ m apart. subst (λ t. raw_entry x t m ≡ raw_entry g t m) (sym at_key) (row m apart);
        others = others;
        counts = table-changed.counts;
        entries = λ guest own column. rewritten.entries guest own ∙ ap (slot_in x H.fields i) column ∙ here;
        elsewhere = λ guest off. rewritten.elsewhere guest (away guest off);
        free = table-changed.free;
        mapped = table-changed.mapped;
      }
        where
          away : (guest : ℕ) → (guest / entries_of_cluster H.fields ≢ i) ⊎ (guest % entries_of_cluster H.fields ≢ j)
              → (guest / entries_of_cluster H.fields ≢ i) ⊎ (slot_in x H.fields i (guest % entries_of_cluster H.fields) ≡ slot_in g H.fields i (guest % entries_of_cluster H.fields))
          away guest (inl other) = inl other
          away guest (inr other) =
              let some_words : 0 < entries_of_cluster H.fields = some-words H.fields (shaped-in f H well_formed.consistent) in
              inr (others i (guest % entries_of_cluster H.fields) (record { in_l1 = in_l1; is_there = there_in_memory; in_table = mod_below guest (entries_of_cluster H.fields) some_words }) (inr other))

      -- The caches stay well-formed.
      pub word-changed : EntryChanged (file_with f H order old) i j (mapping_in slot.value j) (mapping_of (layout_of H.fields) w) cached'
      word-changed = record {
        well_formed = put-safe table_kind table-kind-laws f H order blocks front key slot back well_formed new new-is refl (record {
          apart = few-apart f g x H.fields few table-changed.counts places' well_formed.apart;
          ordered = few-ordered f g x H.fields few table-changed.counts places' order well_formed.ordered;
          covered = covered;
        });
        was = slot-in-memory j in_table;
        written = subst (λ (m : Bytes). SlotWritten g m H i j (mapping_of (layout_of H.fields) w)) (sym word-put) written;
        references = subst (λ (m : Bytes). (c : ℕ) → refs m H.fields c + of_mapping H.fields (meets H.fields c) (mapping_in slot.value j) ≡ refs g H.fields c + of_mapping H.fields (meets H.fields c) (mapping_of (layout_of H.fields) w)) (sym word-put)
            (λ c. ap (λ (m : Mapping). refs x H.fields c + of_mapping H.fields (meets H.fields c) m) (sym (slot-in-memory j in_table))
            ∙ refs-change f g x H.fields i j c places places' changes
            ∙ ap (λ (m : Mapping). refs g H.fields c + of_mapping H.fields (meets H.fields c) m) here);
      }

    -- The entry references no more than before.
    module _ (fewer : ReferencesNoMore H.fields (mapping_in slot.value j) (mapping_of (layout_of H.fields) w)) where
      no-more : (c : ℕ) → NoMore f g x H.fields c
      no-more c =
          let less : of_mapping H.fields (meets H.fields c) (slot_in x H.fields i j) ≤ of_mapping H.fields (meets H.fields c) (slot_in g H.fields i j) = rw (here, slot-in-memory j in_table) (fewer c).0 in
          let less' : of_copied H.fields (meets H.fields c) (slot_in x H.fields i j) ≤ of_copied H.fields (meets H.fields c) (slot_in g H.fields i j) = rw (here, slot-in-memory j in_table) (fewer c).1 in
          record {
            references = let e = refs-change f g x H.fields i j c places places' changes in omega (arith, e, less);
            names = names-stay f g x H.fields i j changes c less;
            copies = copied-stays f g x H.fields i j changes c less';
          }

      pub names-dropped : ReferencesDropped (file_with f H order old) i j (mapping_in slot.value j) (mapping_of (layout_of H.fields) w) cached'
      names-dropped = record {
        changed = word-changed (λ c. inl (no-more c));
        references = subst (λ (m : Bytes). (c : ℕ) → refs m H.fields c ≤ refs g H.fields c) (sym word-put) (λ c. (no-more c).references);
        names = subst (λ (m : Bytes). (c : ℕ) → references_in_either f m H.fields c ≤ references_in_either f g H.fields c) (sym word-put) (λ c. (no-more c).names);
      }

    -- The entry references a data cluster that nothing referenced and that is counted.
    module _ (n : ℕ) (means : mapping_of (layout_of H.fields) w ≡ data_at n true) (not_referenced : references_in_either f g H.fields n ≡ 0) (counted : 1 ≤ count g H.fields n) where
      own : of_mapping H.fields (meets H.fields n) (slot_in x H.fields i j) ≡ 1
      own = ap (of_mapping H.fields (meets H.fields n)) (here ∙ means) ∙ meets-own H.fields n

      no-other : (c : ℕ) → c ≢ n → NoMore f g x H.fields c
      no-other c apart =
          let none : meets H.fields c (n * cluster_size H.fields) (cluster_size H.fields) ≡ 0 = meets-other H.fields c n (λ e. apart (sym e)) in
          let less : of_mapping H.fields (meets H.fields c) (slot_in x H.fields i j) ≡ 0 = ap (of_mapping H.fields (meets H.fields c)) (here ∙ means) ∙ none in
          let less' : of_copied H.fields (meets H.fields c) (slot_in x H.fields i j) ≡ 0 = ap (of_copied H.fields (meets H.fields c)) (here ∙ means) ∙ none in
          record {
            references = let e = refs-change f g x H.fields i j c places places' changes in omega (arith, e, less);
            names = names-stay f g x H.fields i j changes c (omega (arith, less));
            copies = copied-stays f g x H.fields i j changes c (omega (arith, less'));
          }

      once : references_in_either f x H.fields n ≡ 1
      once = named-first f g x H.fields i j changes n not_referenced own

      few-names : AreFew f g x H.fields
      few-names c = elim (cases_eq c n) [
        | inl e ↦ inr (subst (λ k. (references_in_either f x H.fields k ≤ 1) × (1 ≤ count g H.fields k)) (sym e) (omega (arith, once), counted))
        | inr apart ↦ inl (no-other c apart)
      ]

      pub cluster-named : ClusterLinked (file_with f H order old) i j (mapping_in slot.value j) n cached'
      cluster-named = record {
        changed = subst (λ (m : Mapping). EntryChanged (file_with f H order old) i j (mapping_in slot.value j) m cached') means (word-changed few-names);
        references = subst (λ (m : Bytes). refs m H.fields n ≡ 1) (sym word-put) (refs-first f g x H.fields i j changes places places' n not_referenced own);
        names = subst (λ (m : Bytes). references_in_either f m H.fields n ≡ 1) (sym word-put) once;
        others = subst (λ (m : Bytes). (c : ℕ) → c ≢ n → references_in_either f m H.fields c ≤ references_in_either f g H.fields c) (sym word-put) (λ c apart. (no-other c apart).names);
      }

-- An entry in memory means what it means in the cached table.
module _ (f : Bytes) (H : Header) (cached : Cached) (order : CacheDependency) (key i : ℕ) (value : TableValue) (well_formed : WellFormed f H cached order) (caches : CachesTable f H.fields cached key i value) where
  found : (s : Slot TableValue) × (lookup (nat_eq key) cached.tables ≡ Some s) × (s.value ≡ value)
  found = slot-of (lookup (nat_eq key) cached.tables) value caches.table_cached

  p : Place key cached.tables found.0
  p = place-of-key key cached.tables found.0 found.1

  as-was : cached ≡ tables_with p.front key found.0 p.back cached.blocks
  as-was = ap (λ (ts : List (ℕ × Slot TableValue)). record { tables = ts; blocks = cached.blocks }) p.is

  safe' : WellFormed f H (tables_with p.front key found.0 p.back cached.blocks) order
  safe' = subst (λ (o : Cached). WellFormed f H o order) as-was well_formed

  pub cached-layout : value.layout ≡ layout_of H.fields
  cached-layout = ap (λ (t : TableValue). t.layout) (sym found.2) ∙ (this f H order p.front key found.0 p.back cached.blocks safe' i caches.inside caches.place caches.cluster_nonzero).layout

  pub cached-slot : (j : ℕ) → j < entries_of_cluster H.fields → slot_in (memory f H.fields cached) H.fields i j ≡ mapping_in value j
  cached-slot j less =
      subst (λ (o : Cached). slot_in (memory f H.fields o) H.fields i j ≡ mapping_in found.0.value j) (sym as-was)
      (slot-in-memory f H order p.front key found.0 p.back cached.blocks safe' i caches.inside caches.place caches.cluster_nonzero j less)
      ∙ ap (λ (t : TableValue). mapping_in t j) found.2

-- The entry is set in the cached table.
module _ (f : Bytes) (H : Header) (cached cached' : Cached) (order : CacheDependency) (key i j w : ℕ) (well_formed : WellFormed f H cached order) (sets : SetsEntry f H.fields cached key i j w cached') where
  abbrev s : Slot TableValue
  s = (found f H cached order key i sets.table well_formed sets.caches).0

  same : s.value ≡ sets.table
  same = (found f H cached order key i sets.table well_formed sets.caches).2

  abbrev q : Place key cached.tables s
  q = p f H cached order key i sets.table well_formed sets.caches

  was-so : cached ≡ tables_with q.front key s q.back cached.blocks
  was-so = as-was f H cached order key i sets.table well_formed sets.caches

  as-is : cached' ≡ record { tables = (key, word_set s j w) ∷ q.front ++ q.back; blocks = cached.blocks }
  as-is =
      ap (λ (bs : List (ℕ × Slot Block)). record { tables = cached'.tables; blocks = bs }) sets.blocks
      ∙ ap (λ (ts : List (ℕ × Slot TableValue)). record { tables = ts; blocks = cached.blocks })
      (sets.tables ∙ ap (λ (t : TableValue). hit (nat_eq key) cached.tables (with_raw_entry t j w)) (sym same) ∙ place-hit key cached.tables s q (with_raw_entry s.value j w))

  -- Moves a fact about the split list to the caches themselves.
  of-entry : (P : Cached → Mapping → Cached → Type 0) → P (tables_with q.front key s q.back cached.blocks) (mapping_in s.value j) (record { tables = (key, word_set s j w) ∷ q.front ++ q.back; blocks = cached.blocks }) → P cached (mapping_in sets.table j) cached'
  of-entry P is = subst (λ (k : Cached). P cached (mapping_in sets.table j) k) (sym as-is)
      (subst (λ (t : TableValue). P cached (mapping_in t j) (record { tables = (key, word_set s j w) ∷ q.front ++ q.back; blocks = cached.blocks })) same
      (subst (λ (o : Cached). P o (mapping_in s.value j) (record { tables = (key, word_set s j w) ∷ q.front ++ q.back; blocks = cached.blocks })) (sym was-so) is))

  abbrev means : Mapping
  means = mapping_of (layout_of H.fields) w

  pub word-drops : w < 2 ^ 64 → IsFalse (is_damaged means) → ReferencesNoMore H.fields (mapping_in sets.table j) means → ReferencesDropped (file_with f H order cached) i j (mapping_in sets.table j) means cached'
  word-drops fits sane fewer = of-entry (λ o m k. ReferencesDropped (file_with f H order o) i j m (mapping_of (layout_of H.fields) w) k)
      (names-dropped f H order q.front key s q.back cached.blocks (safe' f H cached order key i sets.table well_formed sets.caches) i sets.caches.inside sets.caches.place sets.caches.cluster_nonzero j w sets.inside fits sane
      (subst (λ (t : TableValue). ReferencesNoMore H.fields (mapping_in t j) (mapping_of (layout_of H.fields) w)) (sym same) fewer))

  pub word-names : (n : ℕ) → w < 2 ^ 64 → means ≡ data_at n true → references_in_either f (memory f H.fields cached) H.fields n ≡ 0 → 1 ≤ count (memory f H.fields cached) H.fields n → ClusterLinked (file_with f H order cached) i j (mapping_in sets.table j) n cached'
  word-names n fits is not_referenced counted = of-entry (λ o m k. ClusterLinked (file_with f H order o) i j m n k)
      (cluster-named f H order q.front key s q.back cached.blocks (safe' f H cached order key i sets.table well_formed sets.caches) i sets.caches.inside sets.caches.place sets.caches.cluster_nonzero j w sets.inside fits (ap is_damaged is) n is
      (subst (λ (o : Cached). references_in_either f (memory f H.fields o) H.fields n ≡ 0) was-so not_referenced) (subst (λ (o : Cached). 1 ≤ count (memory f H.fields o) H.fields n) was-so counted))

-- The raw entry of a data cluster with its COPIED flag.
pub cluster-mapped : (f : Bytes) (H : Header) (cached cached' : Cached) (order : CacheDependency) (key i j n : ℕ) → WellFormed f H cached order → (sets : SetsEntry f H.fields cached key i j (2 ^ 63 + n * cluster_size H.fields) cached')
    → n ≢ 0 → IsAddressable H.fields.cluster_bits n → references_in_either f (memory f H.fields cached) H.fields n ≡ 0 → 1 ≤ count (memory f H.fields cached) H.fields n
    → ClusterLinked (file_with f H order cached) i j (mapping_in sets.table j) n cached'
cluster-mapped f H cached cached' order key i j n well_formed sets some near not_referenced counted =
    let shaped : Shaped H.fields = shaped-in f H well_formed.consistent in
    word-names f H cached cached' order key i j (2 ^ 63 + n * cluster_size H.fields) well_formed sets n (mapped_fits H.fields.cluster_bits n near)
    (mapped_means (layout_of H.fields) n shaped.low near (inl (omega (arith, some)))) not_referenced counted
