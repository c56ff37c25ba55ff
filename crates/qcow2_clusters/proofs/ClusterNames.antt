-- The effect on the metadata of a flushed image when an entry of its only cached table is linked to a reserved or
-- preallocated cluster.
use Rattle.std.proofs.Common.{◌≡◌, ◌≢◌, ℕ, ◌+◌, ◌*◌, ◌/◌, ◌%◌, ◌^◌, ◌<◌, ◌≤◌, eq-eqb, refl, arith, ap, sym, subst, ◌∙◌, inl, inr, true, Some, None, Option, List}
use Rattle.std.specs.Prelude.{Bool, false, nat_eq, not, ◌&&◌, ◌==◌, ◌++◌, IfSome, if◌then◌else◌}
use Rattle.std.specs.Option.{option_map}
use Rattle.std.specs.Map.{lookup}
use Rattle.std.proofs.Math.Nat.{mul-pos}
use Rattle.std.proofs.lemmas.Bool.{cases_Bool}
use Rattle.std.proofs.lemmas.List.{append-nil}
use Rattle.std.proofs.lemmas.Nat.{mod_below, pow_pos}
use Rattle.qcow2_types.specs.Bytes.{Bytes}
use Rattle.qcow2_types.specs.Entries.{entry, l2_mapping, l2_table}
use Rattle.qcow2_types.specs.Header.{Fields, cluster_size, layout_of, entries_of_cluster}
use Rattle.qcow2_types.specs.Pending.{FreeEntry}
use Rattle.qcow2_types.specs.References.{meets, of_mapping, refs}
use Rattle.qcow2_types.specs.Slots.{slot}
use Rattle.qcow2_types.specs.Words.{Mapping, data_at, is_damaged, mapping_of, max_offset, zeroes}
use Rattle.qcow2_types.proofs.Counting.Consistent.{consistent-shaped, meets-other, meets-own, some-words}
use Rattle.qcow2_types.proofs.Counting.Either.{refs-cached}
use Rattle.qcow2_types.proofs.Showing.Shows.{guest-slot-there}
use Rattle.qcow2_types.proofs.Counting.Sound.{sound-words}
use Rattle.qcow2_types.proofs.Showing.Values.{entry-slot}
use Rattle.qcow2_types.proofs.Numbers.WordLemmas.{fresh-word}
use Rattle.qcow2_types.proofs.Changes.WriteBack.{place-near, table-place}
use Rattle.qcow2_metadata.specs.Allocations.{Conserves, allocation_of, freed, holds, is_just, newly, replaced}
use Rattle.qcow2_metadata.specs.Places.{IsAddressable}
use Rattle.qcow2_metadata.specs.Tables.{TableValue, l2_table_kind, mapping_in, table_in, with_raw_entry, raw_entry_valid}
use Rattle.qcow2_metadata.proofs.TableFacts.{words_at, words_long}
use Rattle.qcow2_alloc.specs.declared.cache.CacheDependency.{CacheDependency}
use Rattle.qcow2_alloc.specs.Cache.{hit}
use Rattle.qcow2_alloc.specs.Changes.{SetsEntry}
use Rattle.qcow2_alloc.specs.CachedKinds.{IsTableFine}
use Rattle.qcow2_alloc.specs.Memory.{Cached}
use Rattle.qcow2_alloc.specs.GuestView.{GuestUnchanged, IsSound, IsUsed, Metadata, counted, covers_metadata, in_memory, referenced_at_all, one_at, referenced, waiting}
use Rattle.qcow2_alloc.proofs.Memory.WordChanges.{cluster-mapped}
use Rattle.qcow2_alloc.proofs.Memory.NameDrops.{data-drops}
use Rattle.qcow2_steps.specs.Data.{IsKeptFor}
use Rattle.qcow2_steps.specs.Values.{own_value_by}
use Rattle.qcow2_steps.specs.Words.{DropsNames, GivesEntry, IsOfEntry, IsReserved, LinksCluster, names_at}
use Rattle.qcow2_steps.proofs.StepSums.{advances-weaker, reserved-still}
use Rattle.qcow2_steps.proofs.Headers.{header-same}
use Rattle.qcow2_steps.proofs.InvisibleClusters.{kept-used}
use Rattle.qcow2_steps.proofs.QuietValues.{quiet-entries}
use Rattle.qcow2_steps.proofs.Steps.{dropped-advances, meets-one, named-advances, put-off-advances, quiet-advances}
use Rattle.qcow2_steps.proofs.Values.{places-there}
use Rattle.qcow2_steps.proofs.WordSteps.{named-owed, used-after}
use Rattle.qcow2_clusters.specs.Linking.{CanBeLinked, listed_of, linking}
use Rattle.qcow2_clusters.specs.Progress.{Kind, handing}
use Rattle.qcow2_clusters.proofs.ProgressSums.{AdvancesBy, IsWider}

-- The flushed image, and the guest cluster's table as the file has it.
module _ (m : Metadata) (table guest x : ℕ) (sound : IsSound m) (able : CanBeLinked m table guest x) where
  abbrev h : Fields
  h = m.header.fields

  abbrev i : ℕ
  i = guest / entries_of_cluster h

  abbrev j : ℕ
  j = guest % entries_of_cluster h

  row : j < entries_of_cluster h
  row = mod_below guest (entries_of_cluster h) (some-words h (consistent-shaped m.file m.header sound.well_formed.consistent))

  is-there : l2_table m.file h i ≢ 0
  is-there none =
      let long : 0 < cluster_size h = pow_pos h.cluster_bits in
      let some = mul-pos {m = table} (let apart = able.in_table.table_nonzero in omega (arith, apart)) long in
      let place = able.in_table.table_linked in
      omega (arith, some, place, none)

  pub table-near : IsAddressable h.cluster_bits table
  table-near = subst (λ n. n ≤ max_offset) able.in_table.table_linked
      (place-near h.cluster_bits (l2_table m.file h i) (table-place m.file h i (sound-words m.file h sound.well_formed.consistent.readable.tables) able.in_table.inside))

  -- Each of its entries is valid.
  word-fine : (k : ℕ) → k < entries_of_cluster h → is_damaged (l2_mapping m.file h (table * cluster_size h) k) ≡ false
  word-fine k lt =
      subst (λ p. is_damaged (l2_mapping m.file h p k) ≡ false) able.in_table.table_linked
      ((sound-words m.file h sound.well_formed.consistent.readable.tables).slots i k (record { in_l1 = able.in_table.inside; is_there = is-there; in_table = lt }))

  pub table-fine : (f : Bytes) → f ≡ m.file → IsTableFine f h table
  table-fine f same = record {
    reach = table-near;
    sound = λ unsound.
        let k = unsound.0 in
        let long = words_long f (table * cluster_size h) (entries_of_cluster h) in
        let lt : k < entries_of_cluster h = let inside = unsound.1 in omega (arith, long, inside) in
        let fine = ap not (ap (λ (b : Bytes). is_damaged (l2_mapping b h (table * cluster_size h) k)) same ∙ word-fine k lt) in
        let not-fine = subst (λ (w : ℕ). raw_entry_valid l2_table_kind (layout_of h) w ≡ false) (words_at f (table * cluster_size h) (entries_of_cluster h) k lt) unsound.2 in
        cc (sym fine ∙ not-fine);
  }

  module _ (t : TableValue) (is : t ≡ table_in m.file h table (entries_of_cluster h)) where
    -- The entry's meaning before,
    pub old-slot : mapping_in t j ≡ slot m.file h i j
    old-slot =
        ap (λ (x : TableValue). mapping_in x j) is
        ∙ ap (mapping_of (layout_of h)) (words_at m.file (table * cluster_size h) (entries_of_cluster h) j row)
        ∙ ap (λ p. l2_mapping m.file h p j) (sym able.in_table.table_linked)

    -- as in the file.
    pub old-entry : mapping_in t j ≡ entry m.file h guest
    old-entry = old-slot ∙ sym (entry-slot m.file h guest sound.well_formed.consistent.readable.tables ∙ guest-slot-there m.file h guest is-there)

-- Each reference of the old entry is freed. The new cluster is taken, unless the entry referenced it before.
module _ (h : Fields) (x : ℕ) (old new : Mapping) (before : Option FreeEntry) (means : new ≡ data_at x true)
    (conserved : Conserves h.cluster_bits old new before (newly x (allocation_of h.cluster_bits old))) (not_referenced : of_mapping h (meets h x) old ≡ 0) where
  total : (c : ℕ) → one_at x c + holds c before ≡ of_mapping h (meets h c) old + newly x (allocation_of h.cluster_bits old) c
  total c = ap (λ (n : ℕ). n + holds c before) (sym (meets-one h x c) ∙ ap (of_mapping h (meets h c)) (sym means)) ∙ conserved h refl c

  one-own : one_at x x ≡ 1
  one-own = sym (meets-one h x x) ∙ meets-own h x

  apart : is_just x (allocation_of h.cluster_bits old) ≡ false
  apart = elim (cases_Bool (is_just x (allocation_of h.cluster_bits old))) [
    | inr other ↦ other
    | inl just ↦
        let none : newly x (allocation_of h.cluster_bits old) x ≡ 0 = rw just (if-same (x == x)) in
        absurd (omega (arith, total x, one-own, none, not_referenced))
  ] where
    if-same : (b : Bool) → ◌≡◌ {A = ℕ} (if b && not true then 1 else 0) 0
    if-same true = refl
    if-same false = refl

  pub newly-one : (c : ℕ) → newly x (allocation_of h.cluster_bits old) c ≡ one_at x c
  newly-one c = rw apart (if-and (c == x)) where
    if-and : (b : Bool) → ◌≡◌ {A = ℕ} (if b && not false then 1 else 0) (if b then 1 else 0)
    if-and true = refl
    if-and false = refl

  pub back-named : (c : ℕ) → holds c before ≡ of_mapping h (meets h c) old
  back-named c = let new-one = newly-one c in omega (arith, total c, new-one)

-- If the entry kept the cluster, nothing is freed and nothing is taken.
own-just : (x : ℕ) → is_just x (Some (x, 1)) ≡ true
own-just x = rw (eq-eqb x x refl) refl

pub kept-back : (x : ℕ) → freed (replaced x (Some (x, 1))) ≡ None
kept-back x = rw (own-just x) refl

pub kept-newly : (x c : ℕ) → newly x (Some (x, 1)) c ≡ 0
kept-newly x c = rw (own-just x) (none (c == x)) where
  none : (b : Bool) → ◌≡◌ {A = ℕ} (if b && not true then 1 else 0) 0
  none true = refl
  none false = refl

-- A call that does nothing.
pub idle : (m : Metadata) → IsSound m → AdvancesBy (handing (λ _. 0) (λ _. 0)) m m
idle m sound = record {
  sound = sound;
  header = header-same m.header;
  file = record { consistent = sound.well_formed.consistent; header = header-same m.header; shows = λ p. inl refl };
  memory = λ p. inl refl;
  raw_entries = λ guest. inl refl;
  used = λ c used none. used;
  waits = λ c used none. omega arith;
  names = λ c used none. omega arith;
  used_bytes_unchanged = λ p used none. inr refl;
  law = λ c. omega arith;
}

-- The clusters that the entry referenced, if any, can become pending.
pub put-advances : (m : Metadata) (before : Option FreeEntry) → IsSound m → ((c : ℕ) → referenced m c + waiting m c + holds c before ≤ counted m c)
    → IfSome before (λ e. e.metadata ≡ false) → AdvancesBy (handing (λ _. 0) (λ c. holds c before)) m (record m { pending = m.pending ++ listed_of before })
put-advances m None sound enough guest =
    subst (λ (es : List FreeEntry). AdvancesBy (handing (λ _. 0) (λ _. 0)) m (record m { pending = es })) (sym (append-nil m.pending)) (idle m sound)
put-advances m (Some e) sound enough guest = put-off-advances m e sound enough (λ c less. absurd (no-metadata c less)) where
  no-metadata : (c : ℕ) → 0 < covers_metadata c e → ⊥
  no-metadata c less = let none : covers_metadata c e ≡ 0 = rw guest refl in omega (arith, less, none)

pub freed-data : (clusters : Option (ℕ × ℕ)) → IfSome (freed clusters) (λ e. e.metadata ≡ false)
freed-data None = tt
freed-data (Some clusters) = refl

-- An entry that references a cluster means its data.
pub names-data : (m : Metadata) (x : ℕ) → IsSound m → x ≢ 0 → IsAddressable m.header.fields.cluster_bits x
    → mapping_of (layout_of m.header.fields) (2 ^ 63 + x * cluster_size m.header.fields) ≡ data_at x true
names-data m x sound some near = fresh-word m.header.fields x (consistent-shaped m.file m.header sound.well_formed.consistent).low (omega (arith, some)) near

-- The kind of this one step.
abbrev pub stepping : Metadata → (i j x : ℕ) → Mapping → Option FreeEntry → Kind
stepping m i j x old before = record {
  gives = GivesEntry m i j (data_at x true);
  written = λ q. ⊥;
  set = IsOfEntry m.header.fields i j;
  excess_added = λ c. holds c before;
  taken = newly x (allocation_of m.header.fields.cluster_bits old);
}

-- The entry is linked. What it referenced still has its refcount, so it can become pending, and so has the new cluster.
pub record WordNamed (m : Metadata) (guest x : ℕ) (old : Mapping) (before : Option FreeEntry) (found set : Metadata) : Type 0 where
  pub step : AdvancesBy (stepping found (guest / entries_of_cluster m.header.fields) (guest % entries_of_cluster m.header.fields) x old before) found set
  pub named : entry (in_memory set) m.header.fields guest ≡ data_at x true
  pub wider : IsWider (stepping found (guest / entries_of_cluster m.header.fields) (guest % entries_of_cluster m.header.fields) x old before) (linking m guest x)
  pub used : IsUsed set x
  pub owed : (c : ℕ) → referenced set c + waiting set c + holds c before ≤ counted set c
  pub left_untouched : holds x before ≡ 0
  pub untouched_unless_begun : (c : ℕ) → c ≢ x → referenced_at_all found c ≡ 0 → holds c before ≡ 0

-- The table is found, the file is the same, and the entry is linked to the cluster.
module _ (m : Metadata) (table guest x : ℕ) (sound : IsSound m) (able : CanBeLinked m table guest x) (some : x ≢ 0) (near : IsAddressable m.header.fields.cluster_bits x)
    (y : Bytes) (cached : Cached) (order : CacheDependency) (same : y ≡ m.file) where
  abbrev found : Metadata
  found = record m { file = y; cached = cached; order = order }

  abbrev i' : ℕ
  i' = guest / entries_of_cluster m.header.fields

  abbrev j' : ℕ
  j' = guest % entries_of_cluster m.header.fields

  module _ (sound' : IsSound found) (guest_unchanged : GuestUnchanged (λ _. 0) (λ _. 0) m found) (t : TableValue)
      (there : option_map (λ s. s.value) (lookup (nat_eq table) cached.tables) ≡ Some t) (cached' : Cached)
      (tables : cached'.tables ≡ hit (nat_eq table) cached.tables (with_raw_entry t j' (2 ^ 63 + x * cluster_size m.header.fields))) (blocks : cached'.blocks ≡ cached.blocks) where
    abbrev sets : SetsEntry y m.header.fields cached table i' j' (2 ^ 63 + x * cluster_size m.header.fields) cached'
    sets = record {
      table = t;
      caches = record { table_cached = there; inside = able.in_table.inside; place = ap (λ (b : Bytes). l2_table b m.header.fields i') same ∙ able.in_table.table_linked; cluster_nonzero = able.in_table.table_nonzero };
      inside = row m table guest x sound able;
      tables = tables;
      blocks = blocks;
    }

    abbrev set : Metadata
    set = record found { cached = cached' }

    named-wider : (old : Mapping) (before : Option FreeEntry) → IsWider (stepping found i' j' x old before) (linking m guest x)
    named-wider old before = record {
      gives = λ p v given. (given.0, given.1 ∙ ap (λ (b : Bytes). own_value_by b m.header.fields p (data_at x true)) same);
      written = λ q none. none;
      set = λ g is. is;
    }

    -- The cluster was reserved.
    module _ (before : Option FreeEntry) (mapping : Mapping) (means : mapping ≡ data_at x true)
        (conserved : Conserves m.header.fields.cluster_bits (mapping_in t j') mapping before (newly x (allocation_of m.header.fields.cluster_bits (mapping_in t j'))))
        (was : IsReserved m x) where
      reserved : IsReserved found x
      reserved =
          reserved-still (λ p v. ⊥) (λ q. ⊥) (λ g. ⊥) (λ _. 0) (λ _. 0) m found
          (quiet-advances m found (λ _. 0) (λ _. 0) sound sound' guest_unchanged (λ c named. refl)) x was refl

      names : LinksCluster found i' j' (mapping_in t j') x cached'
      names =
          cluster-mapped y m.header cached cached' order table i' j' x sound'.well_formed sets some near reserved.not_referenced (let taken = reserved.used.taken in omega (arith, taken))

      -- The entry didn't reference it.
      not_referenced : names_at found (mapping_in t j') x ≡ 0
      not_referenced =
          let now = names.changed.references x in
          let own : of_mapping m.header.fields (meets m.header.fields x) (data_at x true) ≡ 1 = meets-own m.header.fields x in
          let least : refs (in_memory found) m.header.fields x ≤ referenced_at_all found x = refs-cached y (in_memory found) m.header.fields x (places-there found sound') in
          let none = reserved.not_referenced in
          let once = names.references in
          omega (arith, now, own, least, none, once)

      back : (c : ℕ) → holds c before ≡ names_at found (mapping_in t j') c
      back = back-named m.header.fields x (mapping_in t j') mapping before means conserved not_referenced

      anew : (c : ℕ) → newly x (allocation_of m.header.fields.cluster_bits (mapping_in t j')) c ≡ one_at x c
      anew = newly-one m.header.fields x (mapping_in t j') mapping before means conserved not_referenced

      named-step : AdvancesBy (stepping found i' j' x (mapping_in t j') before) found set
      named-step = advances-weaker (GivesEntry found i' j' (data_at x true)) (GivesEntry found i' j' (data_at x true)) (λ q. ⊥) (λ q. ⊥)
          (IsOfEntry m.header.fields i' j') (IsOfEntry m.header.fields i' j') (names_at found (mapping_in t j')) (one_at x) (λ c. holds c before)
          (newly x (allocation_of m.header.fields.cluster_bits (mapping_in t j'))) found set (λ p v given. given) (λ q none. none) (λ g is. is)
          (λ c. let all = back c in let one = anew c in omega (arith, all, one)) (λ c used none. let one = anew c in omega (arith, one, none))
          (named-advances found i' j' x (mapping_in t j') cached' sound' names reserved)

      pub reserved-named : WordNamed m guest x (mapping_in t j') before found set
      reserved-named = record {
        step = named-step;
        named = names.changed.written.entries guest refl refl;
        wider = named-wider (mapping_in t j') before;
        used = record {
          apart = reserved.used.apart;
          taken =
              let covered = named-step.sound.covered x in
              let once = names.references in
              let none = reserved.waits in
              omega (arith, covered, once, none);
        };
        owed = λ c.
            let owed = named-owed found i' j' (mapping_in t j') cached' sound' x names reserved c in
            let all = back c in
            let counts = names.changed.written.counts c in
            omega (arith, owed, all, counts);
        left_untouched = back x ∙ not_referenced;
        untouched_unless_begun = λ c apart none.
            let all = back c in
            let moved = names.changed.references c in
            let other : of_mapping m.header.fields (meets m.header.fields c) (data_at x true) ≡ 0 = meets-other m.header.fields c x (λ e. apart (sym e)) in
            let least : refs (in_memory found) m.header.fields c ≤ referenced_at_all found c = refs-cached y (in_memory found) m.header.fields c (places-there found sound') in
            omega (arith, all, moved, other, least, none);
      }

    -- The guest cluster had it as its preallocated cluster.
    module _ (was : IsKeptFor m guest x) (meant : mapping_in t j' ≡ entry m.file m.header.fields guest) where
      kept : IsKeptFor found guest x
      kept = record {
        file = ap (λ (b : Bytes). entry b m.header.fields guest) same ∙ was.file;
        memory = quiet-entries m found (λ _. 0) (λ _. 0) sound sound' guest_unchanged guest ∙ was.memory;
      }

      drops : DropsNames found i' j' (zeroes (Some x) true) (data_at x true) cached'
      drops = data-drops y m.header cached cached' order table i' j' sound'.well_formed x sets some near (meant ∙ was.file)

      kept-step : AdvancesBy (stepping found i' j' x (zeroes (Some x) true) None) found set
      kept-step = advances-weaker (GivesEntry found i' j' (data_at x true)) (GivesEntry found i' j' (data_at x true)) (λ q. ⊥) (λ q. ⊥)
          (IsOfEntry m.header.fields i' j') (IsOfEntry m.header.fields i' j') (λ _. 0) (λ _. 0) (λ c. 0)
          (newly x (Some (x, 1))) found set (λ p v given. given) (λ q none. none) (λ g is. is)
          (λ c. let none = kept-newly x c in omega (arith, none)) (λ c used none. refl)
          (dropped-advances found i' j' (zeroes (Some x) true) (data_at x true) (λ _. 0) cached' sound' drops (λ c. omega arith))

      kept-named : WordNamed m guest x (zeroes (Some x) true) None found set
      kept-named = record {
        step = kept-step;
        named = drops.changed.written.entries guest refl refl;
        wider = named-wider (zeroes (Some x) true) None;
        used = used-after found i' j' (zeroes (Some x) true) cached' (data_at x true) drops.changed x (kept-used found guest x sound' kept);
        owed = λ c. let covered = kept-step.sound.covered c in omega (arith, covered);
        left_untouched = refl;
        untouched_unless_begun = λ c apart none. refl;
      }

      pub kept-named-by : (before : Option FreeEntry) → before ≡ freed (replaced x (allocation_of m.header.fields.cluster_bits (mapping_in t j')))
          → WordNamed m guest x (mapping_in t j') before found set
      kept-named-by before back =
          let is = meant ∙ was.file in
          let none : None ≡ before = sym (back ∙ ap (λ (w : Mapping). freed (replaced x (allocation_of m.header.fields.cluster_bits w))) is ∙ kept-back x) in
          subst (λ (b : Option FreeEntry). WordNamed m guest x (mapping_in t j') b found set) none
          (subst (λ (w : Mapping). WordNamed m guest x w None found set) (sym is) kept-named)

    -- Both cases.
    pub word-named : (before : Option FreeEntry) → before ≡ freed (replaced x (allocation_of m.header.fields.cluster_bits (mapping_in t j')))
        → (mapping : Mapping) → mapping ≡ data_at x true
        → Conserves m.header.fields.cluster_bits (mapping_in t j') mapping before (newly x (allocation_of m.header.fields.cluster_bits (mapping_in t j')))
        → mapping_in t j' ≡ entry m.file m.header.fields guest → WordNamed m guest x (mapping_in t j') before found set
    word-named before back mapping means conserved meant = elim able.own [
      | inl reserved ↦ reserved-named before mapping means conserved reserved
      | inr kept ↦ kept-named-by kept meant before back
    ]
