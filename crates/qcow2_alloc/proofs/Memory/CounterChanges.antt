-- Setting a counter of a cached block: the effect on memory, and why the caches stay well-formed.
use Rattle.std.proofs.Common.{◌≡◌, ◌≢◌, ℕ, ◌+◌, ◌-◌, ◌*◌, ◌/◌, ◌%◌, ◌^◌, ◌<◌, ◌≤◌, refl, arith, ap, sym, subst, ◌∙◌, List, ◌∷◌, ◌++◌, length, Some, true, false, inl, inr}
use Rattle.std.specs.Prelude.{nat_eq, slice_index, slice_set, max}
use Rattle.std.specs.Map.{lookup}
use Rattle.std.proofs.lemmas.Bool.{cases_Bool, cases_eq}
use Rattle.std.proofs.lemmas.List.{get_or-set_same, get_or-set_other, length-set}
use Rattle.std.proofs.lemmas.List.FromFn.{get_or-map-range_with_len}
use Rattle.std.proofs.lemmas.Nat.{mod_below, pow_pos, pow-add}
use Rattle.std.proofs.Math.Nat.{div-add-mod, pow-le-pow_right}
use Rattle.qcow2_types.specs.Bytes.{Bytes, bytes_of, splice}
use Rattle.qcow2_types.specs.Header.{Fields, Header, Shaped, cluster_size, refcount_table_entries}
use Rattle.qcow2_types.specs.Entries.{l2_table}
use Rattle.qcow2_types.specs.Counts.{block_at, count, counter, counter_of, counter_bits, counters_of_block}
use Rattle.qcow2_types.specs.References.{structure, of_copied, meets, refs}
use Rattle.qcow2_types.specs.Slots.{slot as slot_in}
use Rattle.qcow2_types.specs.TableBytes.{block_bytes, Packs}
use Rattle.qcow2_types.specs.Consistency.{IsConsistent}
use Rattle.qcow2_types.specs.Frames.{Same, Outside, SameStructureOutside, block}
use Rattle.qcow2_types.specs.Steps.{BlockWritten, CounterWritten}
use Rattle.qcow2_types.specs.Versions.{SamePlaces, KeepsSlots, of_either, references_in_either, copied, ReferencedOnce, BlocksFirst, TablesFirst}
use Rattle.qcow2_types.proofs.Numbers.BlockBytes.{bytes-pack}
use Rattle.qcow2_types.proofs.Changes.BlockSteps.{block-kept, block-written, count-there, counters-written}
use Rattle.qcow2_types.proofs.Counting.Counters.{some-counters, count-same}
use Rattle.qcow2_types.proofs.Counting.Either.{refs-cached}
use Rattle.qcow2_types.proofs.Changes.Frames.{splice-is-outside}
use Rattle.qcow2_types.proofs.Counting.Parts.{block-inside, block_at-kept}
use Rattle.qcow2_types.proofs.Counting.Slots.{slots-same}
use Rattle.qcow2_metadata.specs.Tables.{TableValue}
use Rattle.qcow2_metadata.specs.Blocks.{Block, with_counter}
use Rattle.qcow2_metadata.proofs.Powers.{power-counters}
use Rattle.qcow2_alloc.specs.declared.async_lru_cache.Slot.{Slot}
use Rattle.qcow2_alloc.specs.declared.cache.CacheDependency.{CacheDependency}
use Rattle.qcow2_alloc.specs.declared.cache.CacheDependency.TheVariants.{Unset, L2DependsOnRb, RbDependsOnL2}
use Rattle.qcow2_alloc.specs.Cache.{hit}
use Rattle.qcow2_alloc.specs.Changes.{CachesBlock, SetsCounter, CounterChanged, IsStillCovered}
use Rattle.qcow2_alloc.specs.Memory.{Cached, memory}
use Rattle.qcow2_alloc.specs.WellFormedness.{IsCachedBlock, IsOrdered, WellFormed}
use Rattle.qcow2_alloc.proofs.Caching.SingleEntries.{block-kind-laws, entry-fits, over-rest}
use Rattle.qcow2_alloc.proofs.Memory.EntryChanges.{entry-put, none-there, put-safe}
use Rattle.qcow2_alloc.proofs.Memory.EntryKinds.{block_kind, blocks_with}
use Rattle.qcow2_alloc.proofs.Memory.MemoryImage.{safe-memory}
use Rattle.qcow2_alloc.proofs.Memory.MemoryWords.{block-same, places-in-memory}
use Rattle.qcow2_alloc.proofs.Memory.Patches.{place-there, block-length, shaped-in}
use Rattle.qcow2_alloc.proofs.Caching.Places.{Place, place-of-key, place-hit, slot-of}

-- If `g'` has the L2 entries of `g`, the references in the file or in memory are the same.
module _ (f g g' : Bytes) (h : Fields) (places : SamePlaces f g h) (keeps : KeepsSlots g g' h) where
  pub named-kept : (c : ℕ) → references_in_either f g' h c ≡ references_in_either f g h c
  unfolding references_in_either
  named-kept c = ap (λ n. structure f h (meets h c) + n)
      (slots-same (l2_table f h) h _ _ (λ i j live. ap (of_either h (meets h c) (slot_in f h i j))
      (keeps.slots i j (record { in_l1 = live.in_l1; is_there = (λ z. live.is_there (sym (places.l1 i) ∙ z)); in_table = live.in_table }))))

  copied-kept : (c : ℕ) → copied f g' h c ≡ copied f g h c
  unfolding copied
  copied-kept c = slots-same (l2_table f h) h _ _ (λ i j live. ap (λ m. max (of_copied h (meets h c) (slot_in f h i j)) (of_copied h (meets h c) m))
      (keeps.slots i j (record { in_l1 = live.in_l1; is_there = (λ z. live.is_there (sym (places.l1 i) ∙ z)); in_table = live.in_table })))

  pub apart-kept : ReferencedOnce f g h → ReferencedOnce f g' h
  apart-kept apart c some =
      let same : copied f g' h c ≡ copied f g h c = copied-kept c in
      let once : references_in_either f g h c ≤ 1 = apart c (omega (arith, same, some)) in
      omega (arith, once, named-kept c)

-- The write order allows refcount `n` for cluster `c`, over file `f` and memory `g`: `n` covers the references (if tables come first, only
-- those in memory). Unless blocks come first, `n` isn't above the refcount in the file.
abbrev pub AllowsCount : CacheDependency → Bytes → Bytes → Fields → ℕ → ℕ → Type 0
AllowsCount Unset f g h c n = (references_in_either f g h c ≤ n) × (n ≤ count f h c)
AllowsCount L2DependsOnRb f g h c n = references_in_either f g h c ≤ n
AllowsCount RbDependsOnL2 f g h c n = (refs g h c ≤ n) × (n ≤ count f h c)

-- The cached block with one counter set.
abbrev counter_set : Slot Block → ℕ → ℕ → Slot Block
counter_set slot i n = record slot { value = with_counter slot.value i n }

module _ (f : Bytes) (H : Header) (order : CacheDependency) (tables : List (ℕ × Slot TableValue)) (front : List (ℕ × Slot Block)) (key : ℕ) (slot : Slot Block) (back : List (ℕ × Slot Block))
    (well_formed : WellFormed f H (blocks_with tables front key slot back) order) (c : ℕ) (counts_it : block_at f H.fields (c / counters_of_block H.fields) ≡ key * cluster_size H.fields) (some : key ≢ 0) where
  abbrev old : Cached
  old = blocks_with tables front key slot back

  abbrev g : Bytes
  g = memory f H.fields (blocks_with tables front key slot back)

  abbrev r : ℕ
  r = c / counters_of_block H.fields

  abbrev i : ℕ
  i = c % counters_of_block H.fields

  shaped : Shaped H.fields
  shaped = shaped-in f H well_formed.consistent

  this : IsCachedBlock f H.fields key slot.value
  this = entry-fits block_kind block-kind-laws f H tables front key slot back order well_formed

  there : block_at f H.fields r ≢ 0
  there none = place-there (cluster_size H.fields) key (pow_pos H.fields.cluster_bits) some (sym counts_it ∙ none)

  lt : r < refcount_table_entries H.fields
  lt = block-inside f H.fields r there

  places : SamePlaces f g H.fields
  places = places-in-memory f H well_formed.consistent (blocks_with tables front key slot back) well_formed.tables well_formed.blocks

  at_key : block_at g H.fields r ≡ key * cluster_size H.fields
  at_key = places.blocks r ∙ counts_it

  inside : (d : ℕ) → d % counters_of_block H.fields < counters_of_block H.fields
  inside d = mod_below d (counters_of_block H.fields) (some-counters H.fields shaped)

  whole-bits : (s : Slot Block) → IsCachedBlock f H.fields key s.value → length s.value.counters * 2 ^ s.value.order ≡ 2 ^ H.fields.cluster_bits * 8
  whole-bits s is =
      let bits : H.fields.cluster_bits + 3 - H.fields.refcount_order + H.fields.refcount_order ≡ H.fields.cluster_bits + 3 = omega (arith, shaped.low, shaped.order) in
      ap (λ n. n * 2 ^ s.value.order) (is.long ∙ sym (power-counters H.fields shaped)) ∙ ap (λ o. 2 ^ (H.fields.cluster_bits + 3 - H.fields.refcount_order) * 2 ^ o) is.order
      ∙ sym (pow-add 2 (H.fields.cluster_bits + 3 - H.fields.refcount_order) H.fields.refcount_order) ∙ ap (λ e. 2 ^ e) bits ∙ pow-add 2 H.fields.cluster_bits 3

  packs : (s : Slot Block) → IsCachedBlock f H.fields key s.value → Packs s.value.order s.value.counters (block_bytes s.value.order s.value.counters)
  packs s is = bytes-pack s.value.order s.value.counters (record { fit = λ k less. is.fit k; whole = let bits = whole-bits s is in omega (arith, bits) })

  full : (s : Slot Block) → IsCachedBlock f H.fields key s.value → length (block_bytes s.value.order s.value.counters) ≡ cluster_size H.fields
  full s is = block-length H.fields shaped s.value.order s.value.counters is.order is.long

  -- With these bytes in the file, the clusters of the block have its counters as refcounts.
  counted-by : (base : Bytes) (s : Slot Block) (is : IsCachedBlock f H.fields key s.value) → block_at (splice base (key * cluster_size H.fields) (block_bytes s.value.order s.value.counters)) H.fields r ≡ key * cluster_size H.fields
      → (d : ℕ) → d / counters_of_block H.fields ≡ r → count (splice base (key * cluster_size H.fields) (block_bytes s.value.order s.value.counters)) H.fields d ≡ slice_index s.value.counters (d % counters_of_block H.fields)
  counted-by base s is stands d own =
      let x : Bytes = splice base (key * cluster_size H.fields) (block_bytes s.value.order s.value.counters) in
      let place : block_at (splice base (key * cluster_size H.fields) (block_bytes s.value.order s.value.counters)) H.fields (d / counters_of_block H.fields) ≡ key * cluster_size H.fields =
      ap (block_at (splice base (key * cluster_size H.fields) (block_bytes s.value.order s.value.counters)) H.fields) own ∙ stands in
      count-there x H.fields d (λ z. place-there (cluster_size H.fields) key (pow_pos H.fields.cluster_bits) some (sym place ∙ z))
      ∙ ap (λ p. counter x H.fields p (d % counters_of_block H.fields)) place
      ∙ counters-written base H.fields (key * cluster_size H.fields) (block_bytes s.value.order s.value.counters) (full s is) (d % counters_of_block H.fields) (inside d)
      ∙ ap (λ o. counter_of (bytes_of (block_bytes s.value.order s.value.counters)) (2 ^ o) 0 (d % counters_of_block H.fields)) (sym is.order)
      ∙ (packs s is).each (d % counters_of_block H.fields) (omega (arith, inside d, is.long))

  -- Memory without this block.
  abbrev base : Bytes
  base = memory f H.fields (record { tables = tables; blocks = front ++ back })

  abbrev bytes : List ℕ
  bytes = block_bytes slot.value.order slot.value.counters

  modified-memory : slot.value.modified ≡ true → g ≡ splice base (key * cluster_size H.fields) bytes
  modified-memory = over-rest block_kind block-kind-laws f H tables front key slot back order well_formed

  clean-memory : slot.value.modified ≡ false → Same f g (block_at f H.fields r) (cluster_size H.fields)
  clean-memory clean = block-same f H well_formed.consistent old well_formed.tables well_formed.blocks r lt there
      (none-there block_kind block-kind-laws f H order tables front key slot back well_formed clean (block_at f H.fields r) counts_it)

  -- In memory, the clusters of the block have its counters as refcounts.
  pub counted-in-memory : (d : ℕ) → d / counters_of_block H.fields ≡ r → count g H.fields d ≡ slice_index slot.value.counters (d % counters_of_block H.fields)
  counted-in-memory d own = elim (cases_Bool slot.value.modified) [
    | inl modified ↦
        subst (λ (x : Bytes). count x H.fields d ≡ slice_index slot.value.counters (d % counters_of_block H.fields)) (sym (modified-memory modified))
        (counted-by base slot this (subst (λ (x : Bytes). block_at x H.fields r ≡ key * cluster_size H.fields) (modified-memory modified) at_key) d own)
    | inr clean ↦
        let place : block_at f H.fields (d / counters_of_block H.fields) ≡ key * cluster_size H.fields = ap (block_at f H.fields) own ∙ counts_it in
        let stays : Same f g (block_at f H.fields (d / counters_of_block H.fields)) (cluster_size H.fields) = subst (λ q. Same f g (block_at f H.fields q) (cluster_size H.fields)) (sym own) (clean-memory clean) in
        count-same f g H.fields d shaped (places.blocks (d / counters_of_block H.fields)) (λ z. stays)
        ∙ count-there f H.fields d (λ z. place-there (cluster_size H.fields) key (pow_pos H.fields.cluster_bits) some (sym place ∙ z))
        ∙ ap (λ p. counter f H.fields p (d % counters_of_block H.fields)) place
        ∙ sym (get_or-map-range_with_len (counter f H.fields (key * cluster_size H.fields)) 0 (counters_of_block H.fields) (d % counters_of_block H.fields) (d % counters_of_block H.fields) 0 (inside d) (omega arith))
        ∙ ap (λ (l : List ℕ). slice_index l (d % counters_of_block H.fields)) (sym (this.clean clean (r, lt, counts_it, some)))
  ]

  was : IsConsistent g H
  was = safe-memory f H old order well_formed

  there_in_memory : block_at g H.fields r ≢ 0
  there_in_memory none = there (sym (places.blocks r) ∙ none)

  -- The counter of cluster `c` is set to `n`.
  module _ (n : ℕ) (fits : n < 2 ^ counter_bits H.fields) where
    abbrev new : Slot Block
    new = counter_set slot i n

    abbrev cached' : Cached
    cached' = record { tables = tables; blocks = (key, counter_set slot i n) ∷ front ++ back }

    in_block : i < length slot.value.counters
    in_block = omega (arith, inside c, this.long)

    new-fit : (j : ℕ) → slice_index (slice_set slot.value.counters i n) j < 2 ^ 2 ^ slot.value.order
    new-fit j = elim (cases_eq j i) [
      | inl e ↦ subst (λ k. slice_index (slice_set slot.value.counters i n) k < 2 ^ 2 ^ slot.value.order) (sym e)
          (rw (get_or-set_same slot.value.counters i n 0 in_block) (rw this.order fits))
      | inr other ↦ rw (get_or-set_other slot.value.counters i j n 0 other) (this.fit j)
    ]

    new-is : IsCachedBlock f H.fields key new.value
    new-is = record {
      placed = this.placed;
      cluster_bits = this.cluster_bits;
      order = this.order;
      long = length-set slot.value.counters i n ∙ this.long;
      fit = new-fit;
      modified = λ m. (r, lt, counts_it, some);
      clean = λ off. absurd (cc);
    }

    abbrev new_bytes : List ℕ
    new_bytes = block_bytes slot.value.order (slice_set slot.value.counters i n)

    abbrev x : Bytes
    x = splice g (key * cluster_size H.fields) new_bytes

    -- Memory changes only in the block's cluster.
    pub counter-put : memory f H.fields cached' ≡ x
    counter-put = entry-put block_kind block-kind-laws f H order tables front key slot back well_formed new new-is refl

    outside : Outside g x (key * cluster_size H.fields) (length new_bytes)
    outside = splice-is-outside g (key * cluster_size H.fields) new_bytes

    low : block_at g H.fields r ≤ key * cluster_size H.fields
    low = omega (arith, at_key)

    high : key * cluster_size H.fields + length new_bytes ≤ block_at g H.fields r + cluster_size H.fields
    high = omega (arith, at_key, full new new-is)

    keeps-block : SameStructureOutside g x H.fields (block r)
    keeps-block =
        let size : 0 < cluster_size H.fields = pow_pos H.fields.cluster_bits in
        block-kept g H was r there_in_memory x (key * cluster_size H.fields) (length new_bytes) (omega (arith, size, full new new-is)) outside low high

    stands : block_at x H.fields r ≡ key * cluster_size H.fields
    stands = block_at-kept g x H.fields (block r) keeps-block r (λ e. cc) ∙ at_key

    here : count x H.fields c ≡ n
    here = counted-by g new new-is stands c refl ∙ get_or-set_same slot.value.counters i n 0 in_block

    beside : (d : ℕ) → d ≢ c → d / counters_of_block H.fields ≡ r → count x H.fields d ≡ count g H.fields d
    beside d apart own =
        let other : d % counters_of_block H.fields ≢ i = (λ e. apart (sym (div-add-mod d (counters_of_block H.fields)) ∙ (ap (λ q. counters_of_block H.fields * q + d % counters_of_block H.fields) own ∙ (ap (λ m. counters_of_block H.fields * r + m) e ∙ div-add-mod c (counters_of_block H.fields))))) in
        counted-by g new new-is stands d own ∙ get_or-set_other slot.value.counters i (d % counters_of_block H.fields) n 0 other ∙ sym (counted-in-memory d own)

    module _ (covers : refs g H.fields c ≤ n) where
      covered-there : (d : ℕ) → d / counters_of_block H.fields ≡ r → refs g H.fields d ≤ count x H.fields d
      covered-there d own = elim (cases_eq d c) [
        | inl e ↦ subst (λ k. refs g H.fields k ≤ count x H.fields k) (sym e) (omega (arith, here, covers))
        | inr apart ↦ let le = well_formed.covered d in omega (arith, le, beside d apart own)
      ]

      block-changed : BlockWritten g x H r
      block-changed = block-written g H was r there_in_memory x (key * cluster_size H.fields) (length new_bytes) outside low high covered-there

      others : (d : ℕ) → d ≢ c → count x H.fields d ≡ count g H.fields d
      others d apart = elim (cases_eq (d / counters_of_block H.fields) r) [
        | inl own ↦ beside d apart own
        | inr away ↦ block-changed.counts d away
      ]

      written : CounterWritten g x H c n
      written = record { block = block-changed; here = here; others = others }

      covered : (d : ℕ) → refs x H.fields d ≤ count x H.fields d
      covered d = let same = block-changed.references d in elim (cases_eq d c) [
        | inl e ↦ subst (λ k. refs x H.fields k ≤ count x H.fields k) (sym e) (let same' = block-changed.references c in omega (arith, here, covers, same'))
        | inr apart ↦ let le = well_formed.covered d in omega (arith, le, same, others d apart)
      ]

      names : (d : ℕ) → references_in_either f x H.fields d ≡ references_in_either f g H.fields d
      names = named-kept f g x H.fields places block-changed.keeps

      blocks-first : references_in_either f g H.fields c ≤ n → BlocksFirst f g H.fields → BlocksFirst f x H.fields
      blocks-first enough was' = record {
        cached = λ d. elim (cases_eq d c) [
          | inl e ↦ subst (λ k. references_in_either f x H.fields k ≤ count x H.fields k) (sym e) (omega (arith, enough, here, names c))
          | inr apart ↦ let le = was'.cached d in omega (arith, le, names d, others d apart)
        ];
        file = was'.file;
      }

      tables-first : n ≤ count f H.fields c → TablesFirst f g H.fields → TablesFirst f x H.fields
      tables-first most was' = record {
        file = λ d. let le = was'.file d in omega (arith, le, names d);
        lowered = λ d. elim (cases_eq d c) [
          | inl e ↦ subst (λ k. count x H.fields k ≤ count f H.fields k) (sym e) (omega (arith, most, here))
          | inr apart ↦ let le = was'.lowered d in omega (arith, le, others d apart)
        ];
      }

      ordered : (o : CacheDependency) → AllowsCount o f g H.fields c n → IsOrdered o f g H.fields → IsOrdered o f x H.fields
      ordered Unset allows both = (blocks-first allows.0 both.0, tables-first allows.1 both.1)
      ordered L2DependsOnRb allows first = blocks-first allows first
      ordered RbDependsOnL2 allows first = tables-first allows.1 first

      -- The caches stay well-formed.
      pub counter-changed : AllowsCount order f g H.fields c n → CounterChanged f H order old c n cached'
      counter-changed allows = record {
        well_formed = put-safe block_kind block-kind-laws f H order tables front key slot back well_formed new new-is refl (record {
          apart = apart-kept f g x H.fields places block-changed.keeps well_formed.apart;
          ordered = ordered order allows well_formed.ordered;
          covered = covered;
        });
        written = subst (λ (m : Bytes). CounterWritten g m H c n) (sym counter-put) written;
        names = subst (λ (m : Bytes). (d : ℕ) → references_in_either f m H.fields d ≡ references_in_either f g H.fields d) (sym counter-put) names;
      }

-- The refcount of a cluster in memory is the counter in its cached block.
module _ (f : Bytes) (H : Header) (cached : Cached) (order : CacheDependency) (key c : ℕ) (value : Block) (well_formed : WellFormed f H cached order) (caches : CachesBlock f H.fields cached key c value) where
  found : (s : Slot Block) × (lookup (nat_eq key) cached.blocks ≡ Some s) × (s.value ≡ value)
  found = slot-of (lookup (nat_eq key) cached.blocks) value caches.block_cached

  p : Place key cached.blocks found.0
  p = place-of-key key cached.blocks found.0 found.1

  as-was : cached ≡ blocks_with cached.tables p.front key found.0 p.back
  as-was = ap (λ (bs : List (ℕ × Slot Block)). record { tables = cached.tables; blocks = bs }) p.is

  safe' : WellFormed f H (blocks_with cached.tables p.front key found.0 p.back) order
  safe' = subst (λ (o : Cached). WellFormed f H o order) as-was well_formed

  pub cached-count : count (memory f H.fields cached) H.fields c ≡ slice_index value.counters (c % counters_of_block H.fields)
  cached-count =
      subst (λ (o : Cached). count (memory f H.fields o) H.fields c ≡ slice_index found.0.value.counters (c % counters_of_block H.fields)) (sym as-was)
      (counted-in-memory f H order cached.tables p.front key found.0 p.back safe' c caches.counts caches.cluster_nonzero c refl)
      ∙ ap (λ (b : Block). slice_index b.counters (c % counters_of_block H.fields)) found.2

  pub count-fits : count (memory f H.fields cached) H.fields c < 2 ^ counter_bits H.fields
  count-fits =
      let is = this f H order cached.tables p.front key found.0 p.back safe' c caches.counts caches.cluster_nonzero in
      rw (cached-count, sym (ap (λ (b : Block). slice_index b.counters (c % counters_of_block H.fields)) found.2))
      (subst (λ o. slice_index found.0.value.counters (c % counters_of_block H.fields) < 2 ^ 2 ^ o) is.order (is.fit (c % counters_of_block H.fields)))

-- The counter is set in the cached block.
module _ (f : Bytes) (H : Header) (cached cached' : Cached) (order : CacheDependency) (key c n : ℕ) (well_formed : WellFormed f H cached order) (sets : SetsCounter f H.fields cached key c n cached') where
  abbrev s : Slot Block
  s = (found f H cached order key c sets.block well_formed sets.caches).0

  abbrev q : Place key cached.blocks s
  q = p f H cached order key c sets.block well_formed sets.caches

  as-is : cached' ≡ record { tables = cached.tables; blocks = (key, counter_set s (c % counters_of_block H.fields) n) ∷ q.front ++ q.back }
  as-is =
      ap (λ (ts : List (ℕ × Slot TableValue)). record { tables = ts; blocks = cached'.blocks }) sets.tables
      ∙ ap (λ (bs : List (ℕ × Slot Block)). record { tables = cached.tables; blocks = bs })
      (sets.blocks ∙ ap (λ (b : Block). hit (nat_eq key) cached.blocks (with_counter b (c % counters_of_block H.fields) n)) (sym (found f H cached order key c sets.block well_formed sets.caches).2)
      ∙ place-hit key cached.blocks s q (with_counter s.value (c % counters_of_block H.fields) n))

  covers-by : (o : CacheDependency) → SamePlaces f (memory f H.fields cached) H.fields → AllowsCount o f (memory f H.fields cached) H.fields c n → refs (memory f H.fields cached) H.fields c ≤ n
  covers-by Unset places allows = let le = refs-cached f (memory f H.fields cached) H.fields c places in omega (arith, le, allows.0)
  covers-by L2DependsOnRb places allows = let le = refs-cached f (memory f H.fields cached) H.fields c places in omega (arith, le, allows)
  covers-by RbDependsOnL2 places allows = allows.0

  pub counter-sets : n < 2 ^ counter_bits H.fields → AllowsCount order f (memory f H.fields cached) H.fields c n → CounterChanged f H order cached c n cached'
  counter-sets fits allows =
      let was = as-was f H cached order key c sets.block well_formed sets.caches in
      let covers = covers-by order (places-in-memory f H well_formed.consistent cached well_formed.tables well_formed.blocks) allows in
      subst (λ (k : Cached). CounterChanged f H order cached c n k) (sym as-is)
      (subst (λ (o : Cached). CounterChanged f H order o c n (record { tables = cached.tables; blocks = (key, counter_set s (c % counters_of_block H.fields) n) ∷ q.front ++ q.back })) (sym was)
      (counter-changed f H order cached.tables q.front key s q.back (safe' f H cached order key c sets.block well_formed sets.caches) c sets.caches.counts sets.caches.cluster_nonzero n fits
      (subst (λ (o : Cached). refs (memory f H.fields o) H.fields c ≤ n) was covers) (subst (λ (o : Cached). AllowsCount order f (memory f H.fields o) H.fields c n) was allows)))

-- A counter rises from 0 while blocks are written first: nothing references the cluster, in the file or in memory.
pub counter-raised : (f : Bytes) (H : Header) (cached cached' : Cached) (key c : ℕ) → WellFormed f H cached L2DependsOnRb → SetsCounter f H.fields cached key c 1 cached' → count (memory f H.fields cached) H.fields c ≡ 0
    → CounterChanged f H L2DependsOnRb cached c 1 cached' × (references_in_either f (memory f H.fields cached) H.fields c ≡ 0)
counter-raised f H cached cached' key c well_formed sets none =
    let le = well_formed.ordered.cached c in
    let not_referenced : references_in_either f (memory f H.fields cached) H.fields c ≡ 0 = omega (arith, le, none) in
    let bits : 0 < counter_bits H.fields = pow_pos H.fields.refcount_order in
    let room : 2 ^ 1 ≤ 2 ^ counter_bits H.fields = pow-le-pow_right (omega arith) bits in
    (counter-sets f H cached cached' L2DependsOnRb key c 1 well_formed sets (omega (arith, room)) (omega (arith, not_referenced)), not_referenced)

-- A counter falls as long as it covers the remaining references.
pub counter-lowered : (f : Bytes) (H : Header) (cached cached' : Cached) (order : CacheDependency) (key c n : ℕ) → WellFormed f H cached order → SetsCounter f H.fields cached key c n cached' → count (memory f H.fields cached) H.fields c ≡ n + 1
    → IsStillCovered order f (memory f H.fields cached) H.fields c n → CounterChanged f H order cached c n cached'
counter-lowered f H cached cached' order key c n well_formed sets more covers =
    let fits = count-fits f H cached order key c sets.block well_formed sets.caches in
    counter-sets f H cached cached' order key c n well_formed sets (omega (arith, fits, more)) (allows order covers well_formed.ordered)
  where
    allows : (o : CacheDependency) → IsStillCovered o f (memory f H.fields cached) H.fields c n → IsOrdered o f (memory f H.fields cached) H.fields → AllowsCount o f (memory f H.fields cached) H.fields c n
    allows Unset enough both = (enough, let le = both.1.lowered c in omega (arith, le, more))
    allows L2DependsOnRb enough first = enough
    allows RbDependsOnL2 enough first = (enough, let le = first.lowered c in omega (arith, le, more))

-- Like `counter-lowered`, but to any number that isn't above the refcount.
pub counter-lowered-to : (f : Bytes) (H : Header) (cached cached' : Cached) (order : CacheDependency) (key c n : ℕ) → WellFormed f H cached order → SetsCounter f H.fields cached key c n cached' → n ≤ count (memory f H.fields cached) H.fields c
    → IsStillCovered order f (memory f H.fields cached) H.fields c n → CounterChanged f H order cached c n cached'
counter-lowered-to f H cached cached' order key c n well_formed sets less covers =
    let fits = count-fits f H cached order key c sets.block well_formed sets.caches in
    counter-sets f H cached cached' order key c n well_formed sets (omega (arith, fits, less)) (allows order covers well_formed.ordered)
  where
    allows : (o : CacheDependency) → IsStillCovered o f (memory f H.fields cached) H.fields c n → IsOrdered o f (memory f H.fields cached) H.fields → AllowsCount o f (memory f H.fields cached) H.fields c n
    allows Unset enough both = (enough, let le = both.1.lowered c in omega (arith, le, less))
    allows L2DependsOnRb enough first = enough
    allows RbDependsOnL2 enough first = (enough, let le = first.lowered c in omega (arith, le, less))
