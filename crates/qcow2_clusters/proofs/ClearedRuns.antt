-- The effect on the metadata of a flushed image when entries of its only cached table are cleared, one after another.
use Rattle.std.proofs.Common.{◌≡◌, ◌≢◌, ℕ, zero, suc, ◌+◌, ◌-◌, ◌*◌, ◌/◌, ◌%◌, ◌^◌, ◌<◌, ◌≤◌, eq-eqb, refl, arith, ap, sym, subst, ◌∙◌, inl, inr, true, false, Some, Option, length}
use Rattle.std.specs.Prelude.{◌++◌, nat_eq, IfSome}
use Rattle.std.specs.Option.{option_map}
use Rattle.std.specs.Map.{lookup}
use Rattle.std.proofs.lemmas.Bool.{cases_eq}
use Rattle.std.proofs.lemmas.List.{append-nil, append_assoc, get_or-set_other, get_or-set_same, length-set}
use Rattle.std.proofs.Math.Nat.{mul-pos}
use Rattle.std.proofs.lemmas.Nat.{div-add-mod', div-mul-add, mod-mul-add, pow_pos}
use Rattle.qcow2_types.proofs.Showing.Shows.{guest-slot-there}
use Rattle.qcow2_types.proofs.Showing.Values.{entry-slot}
use Rattle.imago_storage.specs.Disk.{Value}
use Rattle.qcow2_types.specs.Entries.{entry, l2_mapping, l2_table}
use Rattle.qcow2_types.specs.Header.{Fields, cluster_size, layout_of, entries_of_cluster}
use Rattle.qcow2_types.specs.Pending.{FreeEntry}
use Rattle.qcow2_types.specs.Slots.{slot}
use Rattle.qcow2_types.specs.Words.{Layout, Mapping, mapping_of}
use Rattle.qcow2_metadata.specs.Allocations.{Conserves, allocation_of, freed, holds}
use Rattle.qcow2_metadata.specs.Tables.{TableValue, mapping_in, table_in, with_raw_entry}
use Rattle.qcow2_metadata.proofs.TableFacts.{words_at, words_long}
use Rattle.qcow2_alloc.specs.declared.cache.CacheDependency.{CacheDependency}
use Rattle.qcow2_alloc.specs.Cache.{hit}
use Rattle.qcow2_alloc.specs.Changes.{CachesTable, SetsEntry}
use Rattle.qcow2_alloc.specs.FreeList.{FreeList}
use Rattle.qcow2_alloc.specs.GuestView.{GuestUnchanged, IsSound, Metadata, in_memory}
use Rattle.qcow2_alloc.proofs.Memory.WordChanges.{cached-slot}
use Rattle.qcow2_steps.specs.Advancing.{Advances}
use Rattle.qcow2_steps.proofs.StepSums.{advances-then, advances-weaker}
use Rattle.qcow2_clusters.specs.Clearing.{AreUnder, ClearsAt, ClearsEntry, ClearsEntries, IsPossible, cleared, cleared_raw_entry, clearing, clearing_run, given_up, given_up_for, given_up_run, meant}
use Rattle.qcow2_clusters.specs.Linking.{IsUnder, Listed, listed_of, listing}
use Rattle.qcow2_clusters.specs.Progress.{Kind, both, handing}
use Rattle.qcow2_clusters.specs.Setting.{cached_alone}
use Rattle.qcow2_clusters.specs.declared.clearing.Clearing.{Clearing}
use Rattle.qcow2_clusters.proofs.ProgressSums.{AdvancesBy}
use Rattle.qcow2_clusters.proofs.LoneTables.{lone-hit, lone_table}
use Rattle.qcow2_clusters.proofs.ClusterNames.{idle}
use Rattle.qcow2_clusters.proofs.ClearedWords.{drops, dropping, given-data, now-means, word-cleared}

-- Clearing entries keeps the table's layout and length.
pub cleared-layout : (how : Clearing) (index n : ℕ) (old new : Listed) → ClearsEntries how index n old new → new.table.layout ≡ old.table.layout
unfolding ClearsEntries
cleared-layout how index zero old new is = ap (λ (l : Listed). l.table.layout) is
cleared-layout how index (suc n) old new is = ap (λ (t : TableValue). t.layout) is.2.clears.set ∙ cleared-layout how index n old is.0 is.1

pub cleared-length : (how : Clearing) (index n : ℕ) (old new : Listed) → ClearsEntries how index n old new
    → length new.table.raw_entries ≡ length old.table.raw_entries
unfolding ClearsEntries
cleared-length how index zero old new is = ap (λ (l : Listed). length l.table.raw_entries) is
cleared-length how index (suc n) old new is =
    ap (λ (t : TableValue). length t.raw_entries) is.2.clears.set ∙ length-set is.0.table.raw_entries _ _ ∙ cleared-length how index n old is.0 is.1

-- The other entries of the table keep their meanings.
other-mapping : (t : TableValue) (a b w : ℕ) → b ≢ a → mapping_in (with_raw_entry t a w) b ≡ mapping_in t b
other-mapping t a b w apart = ap (mapping_of t.layout) (get_or-set_other t.raw_entries a b w 0 apart)

-- The flushed image, and the L2 table as the file has it.
module _ (how : Clearing) (m : Metadata) (table guest n : ℕ) (sound : IsSound m) (possible : IsPossible how m.header.fields.version)
    (under : AreUnder n m table guest) (order : CacheDependency) (t0 : TableValue)
    (is : t0 ≡ table_in m.file m.header.fields table (entries_of_cluster m.header.fields)) (list0 : FreeList)
    (fits : guest % entries_of_cluster m.header.fields + n ≤ entries_of_cluster m.header.fields) where
  abbrev h : Fields
  h = m.header.fields

  abbrev i : ℕ
  i = guest / entries_of_cluster h

  abbrev j : ℕ
  j = guest % entries_of_cluster h

  abbrev image : Listed → Metadata
  image s = cached_alone m order table s

  abbrev found : Metadata
  found = image (listing t0 list0)

  parts : (d : ℕ) → guest + d ≡ i * entries_of_cluster h + (j + d)
  parts d = let whole = div-add-mod' guest (entries_of_cluster h) in omega (arith, whole)

  row-of : (d : ℕ) → j + d < entries_of_cluster h → (guest + d) / entries_of_cluster h ≡ i
  row-of d less = ap (λ g. g / entries_of_cluster h) (parts d) ∙ div-mul-add i (entries_of_cluster h) (j + d) less

  column-of : (d : ℕ) → j + d < entries_of_cluster h → (guest + d) % entries_of_cluster h ≡ j + d
  column-of d less = ap (λ g. g % entries_of_cluster h) (parts d) ∙ mod-mul-add i (entries_of_cluster h) (j + d) less

  -- The table has the meanings of the file.
  pub first-words-of : (d : ℕ) → d < n → mapping_in t0 (j + d) ≡ meant m (guest + d)
  first-words-of d to =
      let g : ℕ = guest + d in
      let here : j + d < entries_of_cluster h = omega (arith, to, fits) in
      let column : g % entries_of_cluster h ≡ j + d = column-of d here in
      let there = (under d to).table_linked in
      let is-there : l2_table m.file h (g / entries_of_cluster h) ≢ 0 = λ none.
      let long : 0 < cluster_size h = pow_pos h.cluster_bits in
      let apart = (under d to).table_nonzero in
      let some = mul-pos {m = table} (omega (arith, apart)) long in
      omega (arith, some, there, none) in
      ap (λ (x : TableValue). mapping_in x (j + d)) is
      ∙ ap (mapping_of (layout_of h)) (words_at m.file (table * cluster_size h) (entries_of_cluster h) (j + d) here)
      ∙ ap (λ p. l2_mapping m.file h p (j + d)) (sym there)
      ∙ ap (λ c. l2_mapping m.file h (l2_table m.file h (g / entries_of_cluster h)) c) (sym column)
      ∙ sym (entry-slot m.file h g sound.well_formed.consistent.readable.tables ∙ guest-slot-there m.file h g is-there)

  -- The first `k` entries are cleared.
  pub record Standing (k : ℕ) (s : Listed) : Type 0 where
    pub step : AdvancesBy (clearing_run how m guest k) found (image s)
    pub waits : s.list.entries ≡ list0.entries ++ given_up_run how m guest k
    pub set : (d : ℕ) → d < k → entry (in_memory (image s)) h (guest + d) ≡ cleared how (meant m (guest + d))
    pub raw_entries : (d : ℕ) → k ≤ d → d < n → mapping_in s.table (j + d) ≡ meant m (guest + d)
    pub layout : s.table.layout ≡ layout_of h
    pub long : length s.table.raw_entries ≡ entries_of_cluster h

  module _ (start : IsSound found) (first-words : (d : ℕ) → d < n → mapping_in t0 (j + d) ≡ meant m (guest + d)) where
    begun : Standing 0 (listing t0 list0)
    unfolding clearing_run given_up_run
    begun = record {
      step = idle found start;
      waits = sym (append-nil list0.entries);
      set = λ d less. absurd (omega (arith, less));
      raw_entries = λ d from to. first-words d to;
      layout = ap (λ (t : TableValue). t.layout) is;
      long = ap (λ (t : TableValue). length t.raw_entries) is ∙ words_long m.file (table * cluster_size h) (entries_of_cluster h);
    }

    -- One more entry is cleared.
    module _ (k : ℕ) (less : k < n) (s s' : Listed) (was : Standing k s) (one : ClearsEntry how (j + k) s s') where
      abbrev g : ℕ
      g = guest + k

      here : j + k < entries_of_cluster h
      here = omega (arith, less, fits)

      row : g / entries_of_cluster h ≡ i
      row = row-of k here

      column : g % entries_of_cluster h ≡ j + k
      column = column-of k here

      abbrev old : Mapping
      old = mapping_in s.table (j + k)

      meant-now : old ≡ meant m g
      meant-now = was.raw_entries k (omega arith) less

      abbrev w : ℕ
      w = cleared_raw_entry h.cluster_bits how old

      bits : s.table.layout.cluster_bits ≡ h.cluster_bits
      bits = ap (λ (l : Layout). l.cluster_bits) was.layout

      set-table : s'.table ≡ with_raw_entry s.table (j + k) w
      set-table = one.clears.set ∙ ap (λ b. with_raw_entry s.table (j + k) (cleared_raw_entry b how old)) bits

      caches : (t : TableValue) → CachesTable m.file h (lone_table table t) table i t
      caches t = record {
        table_cached = rw (eq-eqb table table refl) refl;
        inside = subst (λ r. r < h.l1_entries) row (under k less).inside;
        place = subst (λ r. l2_table m.file h r ≡ table * cluster_size h) row (under k less).table_linked;
        cluster_nonzero = (under k less).table_nonzero;
      }

      abbrev sets : SetsEntry m.file h (lone_table table s.table) table i (j + k) w (lone_table table s'.table)
      sets = record {
        table = s.table;
        caches = caches s.table;
        inside = here;
        tables = ap (λ (t : TableValue). (lone_table table t).tables) set-table ∙ sym (lone-hit table (record { value = s.table; pins = 0 }) _);
        blocks = refl;
      }

      -- The written entry has the requested meaning.
      word-means : mapping_of s.table.layout w ≡ cleared how old
      word-means =
          ap (mapping_of s.table.layout) (sym (get_or-set_same s.table.raw_entries (j + k) w 0 (let long = was.long in omega (arith, long, here))))
          ∙ ap (λ (t : TableValue). mapping_in t (j + k)) (sym set-table)
          ∙ sym (cached-slot m.file m.header (lone_table table s'.table) order table i s'.table
          (drops how (image s) table i (j + k) (lone_table table s'.table) was.step.sound possible w sets refl).changed.well_formed (caches s'.table) (j + k) here)
          ∙ now-means how (image s) table i (j + k) (lone_table table s'.table) was.step.sound possible w sets refl

      gives-up : one.given ≡ given_up_for how m g
      gives-up = one.clears.back ∙ ap (λ b. given_up b how old) bits ∙ ap (given_up h.cluster_bits how) meant-now

      data-alone : IfSome one.given (λ e. e.metadata ≡ false)
      data-alone = subst (λ o. IfSome o (λ e. e.metadata ≡ false)) (sym gives-up) (given-data h.cluster_bits how (meant m g))

      conserved : Conserves h.cluster_bits old (cleared how old) one.given (λ c. 0)
      conserved = subst (λ x. Conserves h.cluster_bits old x one.given (λ c. 0)) word-means
          (subst (λ b. Conserves b old (mapping_of s.table.layout (cleared_raw_entry b how old)) one.given (λ c. 0)) bits one.clears.conserved)

      abbrev put-image : Metadata
      put-image = record (image s) { cached = lone_table table s'.table; pending = s.list.entries ++ listed_of one.given }

      same-image : put-image ≡ image s'
      same-image = ap (λ (l : FreeList). record (image s) { cached = lone_table table s'.table; pending = l.entries }) (sym one.put)

      one-step : AdvancesBy (dropping (image s) i (j + k) (cleared how old) one.given) (image s) (image s')
      one-step = subst (λ (z : Metadata). AdvancesBy (dropping (image s) i (j + k) (cleared how old) one.given) (image s) z) same-image
          (word-cleared how (image s) table i (j + k) (lone_table table s'.table) was.step.sound possible w sets refl one.given data-alone conserved)

      abbrev DropsAt : ℕ → ℕ → Mapping → Option FreeEntry → Type 0
      DropsAt a b x given = AdvancesBy (dropping m a b (cleared how x) given) (image s) (image s')

      -- The same step, stated of the flushed image.
      second : AdvancesBy (clearing how m g) (image s) (image s')
      second = subst (λ a. DropsAt a (g % entries_of_cluster h) (meant m g) (given_up_for how m g)) (sym row)
          (subst (λ b. DropsAt i b (meant m g) (given_up_for how m g)) (sym column)
          (subst (λ x. DropsAt i (j + k) x (given_up_for how m g)) meant-now (subst (DropsAt i (j + k) old) gives-up one-step)))

      next : AdvancesBy (clearing_run how m guest (suc k)) found (image s')
      unfolding clearing_run
      next =
          let first = clearing_run how m guest k in
          let last = clearing how m g in
          advances-then first.gives last.gives first.written first.set first.excess_added first.taken found (image s) was.step
          last.written last.set last.excess_added last.taken (image s') second

      -- Another entry of the run is unchanged.
      word-stays : (d : ℕ) → d < n → d ≢ k → entry (in_memory (image s')) h (guest + d) ≡ entry (in_memory (image s)) h (guest + d)
      word-stays d to other = elim (second.raw_entries (guest + d)) [
        | inl same ↦ same
        | inr set ↦ absurd (other (let a = column-of d (omega (arith, to, fits)) in let b = column in let c = set.1 in omega (arith, a, b, c)))
      ]

      word-set : entry (in_memory (image s')) h g ≡ cleared how (meant m g)
      word-set =
          (drops how (image s) table i (j + k) (lone_table table s'.table) was.step.sound possible w sets refl).changed.written.entries g row column
          ∙ ap (cleared how) meant-now

      pub stands-next : Standing (suc k) s'
      unfolding given_up_run
      stands-next = record {
        step = next;
        waits = ap (λ (l : FreeList). l.entries) one.put ∙ ap (λ es. es ++ listed_of one.given) was.waits
            ∙ append_assoc list0.entries (given_up_run how m guest k) (listed_of one.given)
            ∙ ap (λ b. list0.entries ++ (given_up_run how m guest k ++ listed_of b)) gives-up;
        set = λ d lt. elim (cases_eq d k) [
          | inl this ↦ subst (λ e. entry (in_memory (image s')) h (guest + e) ≡ cleared how (meant m (guest + e))) (sym this) word-set
          | inr other ↦ word-stays d (omega (arith, lt, less)) other ∙ was.set d (omega (arith, lt, other))
        ];
        raw_entries = λ d from to.
            ap (λ (t : TableValue). mapping_in t (j + d)) set-table
            ∙ other-mapping s.table (j + k) (j + d) _ (λ same. omega (arith, same, from))
            ∙ was.raw_entries d (omega (arith, from)) to;
        layout = ap (λ (t : TableValue). t.layout) set-table ∙ was.layout;
        long = ap (λ (t : TableValue). length t.raw_entries) set-table ∙ length-set s.table.raw_entries _ _ ∙ was.long;
      }

    pub stands : (k : ℕ) → k ≤ n → (s : Listed) → ClearsEntries how j k (listing t0 list0) s → Standing k s
    unfolding ClearsEntries
    stands zero most s at = subst (Standing 0) (sym at) begun
    stands (suc k) most s at = stands-next k (omega (arith, most)) at.0 s (stands k (omega (arith, most)) at.0 at.1) at.2

-- No entries are cleared at first, and then one more.
pub cleared-none : (how : Clearing) (index : ℕ) (old : Listed) → ClearsEntries how index 0 old old
unfolding ClearsEntries
cleared-none how index old = refl

pub cleared-more : (how : Clearing) (index n : ℕ) (old between new : Listed) → ClearsEntries how index n old between
    → ClearsEntry how (index + n) between new → ClearsEntries how index (n + 1) old new
unfolding ClearsEntries
cleared-more how index n old between new so one =
    let more : suc n ≡ n + 1 = omega arith in subst (λ k. ClearsEntries how index k old new) more (between, so, one)
