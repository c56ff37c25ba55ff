-- The effect on the metadata of a flushed image when entries of its only cached table are linked to consecutive
-- clusters.
use Rattle.std.proofs.Common.{◌≡◌, ◌≢◌, ℕ, zero, suc, ◌+◌, ◌-◌, ◌*◌, ◌/◌, ◌%◌, ◌^◌, ◌<◌, ◌≤◌, eq-eqb, refl, arith, ap, sym, subst, ◌∙◌, inl, inr, true, Some, Option, length}
use Rattle.std.specs.Prelude.{◌++◌, nat_eq}
use Rattle.std.specs.Option.{option_map}
use Rattle.std.specs.Map.{lookup}
use Rattle.std.proofs.Math.Nat.{mul-le-mul_right}
use Rattle.std.proofs.lemmas.Bool.{cases_eq, ne_eqb}
use Rattle.std.proofs.lemmas.List.{append-nil, append_assoc, get_or-set_other, length-set}
use Rattle.std.proofs.lemmas.Nat.{div-add-mod', div-mul-add, mod-mul-add}
use Rattle.imago_storage.specs.Disk.{Value}
use Rattle.qcow2_types.specs.Entries.{entry}
use Rattle.qcow2_types.specs.Header.{Fields, cluster_size, layout_of, entries_of_cluster}
use Rattle.qcow2_types.specs.Pending.{FreeEntry}
use Rattle.qcow2_types.specs.Words.{Mapping, data_at, mapping_of}
use Rattle.qcow2_metadata.specs.Allocations.{Conserves, allocation_of, freed, holds, newly, replaced}
use Rattle.qcow2_metadata.specs.Places.{IsAddressable}
use Rattle.qcow2_metadata.specs.Tables.{TableValue, mapping_in, table_in, with_raw_entry}
use Rattle.qcow2_alloc.specs.declared.cache.CacheDependency.{CacheDependency}
use Rattle.qcow2_alloc.specs.Cache.{hit}
use Rattle.qcow2_alloc.specs.FreeList.{FreeList}
use Rattle.qcow2_alloc.specs.GuestView.{GuestUnchanged, IsSound, Metadata, in_memory}
use Rattle.qcow2_alloc.proofs.GuestView.QuietFlushes.{quiet-none}
use Rattle.qcow2_steps.proofs.StepSums.{advances-then, advances-weaker, reserved-still}
use Rattle.qcow2_steps.proofs.QuietValues.{quiet-entries}
use Rattle.qcow2_steps.proofs.Steps.{quiet-advances}
use Rattle.qcow2_clusters.specs.Linking.{CanAllBeLinked, CanBeLinked, IsUnder, Listed, LinksEntry, LinksEntries, given_for, given_for_run, given_in, listed_of, listing, linking, linking_run}
use Rattle.qcow2_clusters.specs.Progress.{Kind, both, handing}
use Rattle.qcow2_clusters.proofs.ProgressSums.{AdvancesBy, IsWider, wider-both, wider-handing}
use Rattle.qcow2_clusters.proofs.LoneTables.{lone-hit, lone_table}
use Rattle.qcow2_clusters.proofs.ClusterNames.{WordNamed, freed-data, idle, names-data, old-entry, put-advances, stepping, word-named}

-- The table keeps its layout and its length, and the list its reserved slots.
pub words-layout : (index x n : ℕ) (old new : Listed) → LinksEntries index x n old new → new.table.layout ≡ old.table.layout
unfolding LinksEntries
words-layout index x zero old new is = ap (λ (l : Listed). l.table.layout) is
words-layout index x (suc n) old new is = ap (λ (t : TableValue). t.layout) is.2.set ∙ words-layout index x n old is.0 is.1

pub words-length : (index x n : ℕ) (old new : Listed) → LinksEntries index x n old new → length new.table.raw_entries ≡ length old.table.raw_entries
unfolding LinksEntries
words-length index x zero old new is = ap (λ (l : Listed). length l.table.raw_entries) is
words-length index x (suc n) old new is =
    ap (λ (t : TableValue). length t.raw_entries) is.2.set ∙ length-set is.0.table.raw_entries _ _ ∙ words-length index x n old is.0 is.1

-- If the last of consecutive clusters is addressable, each is.
pub near-each : (bits x n : ℕ) → IsAddressable bits (x + (n - 1)) → (d : ℕ) → d < n → IsAddressable bits (x + d)
near-each bits x n last d less =
    let le : (x + d) * 2 ^ bits ≤ (x + (n - 1)) * 2 ^ bits = mul-le-mul_right (2 ^ bits) (omega (arith, less)) in
    omega (arith, le, last)

-- No entries are linked at first, and then one more.
pub words-none : (index x : ℕ) (old : Listed) → LinksEntries index x 0 old old
unfolding LinksEntries
words-none index x old = refl

pub words-more : (index x n : ℕ) (old between new : Listed) → LinksEntries index x n old between → LinksEntry (index + n) (x + n) between new
    → LinksEntries index x (n + 1) old new
unfolding LinksEntries
words-more index x n old between new first last =
    let more : suc n ≡ n + 1 = omega arith in subst (λ k. LinksEntries index x k old new) more (between, first, last)

-- Only the linked cluster can be newly referenced.
newly-apart : (x c : ℕ) (taken : Option (ℕ × ℕ)) → c ≢ x → newly x taken c ≡ 0
newly-apart x c taken apart = rw (ne_eqb c x apart) refl

-- A value or setting of the run is one of its guest clusters.
pub run-gives : (m : Metadata) (guest x n p : ℕ) (v : Option Value) → (linking_run m guest x n).gives p v
    → (d : ℕ) × (d < n) × (linking m (guest + d) (x + d)).gives p v
unfolding linking_run
run-gives m guest x zero p v none = absurd none
run-gives m guest x (suc n) p v gave = elim gave [
  | inl before ↦ let one = run-gives m guest x n p v before in (one.0, omega (arith, one.1), one.2)
  | inr here ↦ (n, omega arith, here)
]

pub run-sets : (m : Metadata) (guest x n g : ℕ) → (linking_run m guest x n).set g → (d : ℕ) × (d < n) × (linking m (guest + d) (x + d)).set g
unfolding linking_run
run-sets m guest x zero g none = absurd none
run-sets m guest x (suc n) g set = elim set [
  | inl before ↦ let one = run-sets m guest x n g before in (one.0, omega (arith, one.1), one.2)
  | inr here ↦ (n, omega arith, here)
]

-- The other entries of the table keep their meanings.
other-mapping : (t : TableValue) (a b w : ℕ) → b ≢ a → mapping_in (with_raw_entry t a w) b ≡ mapping_in t b
other-mapping t a b w apart = ap (mapping_of t.layout) (get_or-set_other t.raw_entries a b w 0 apart)

-- The flushed image, and the L2 table as the file has it.
module _ (m : Metadata) (table guest x : ℕ) (sound : IsSound m) (some : x ≢ 0) (order : CacheDependency) (t0 : TableValue)
    (is : t0 ≡ table_in m.file m.header.fields table (entries_of_cluster m.header.fields)) (list0 : FreeList) where
  abbrev h : Fields
  h = m.header.fields

  abbrev i : ℕ
  i = guest / entries_of_cluster h

  abbrev j : ℕ
  j = guest % entries_of_cluster h

  -- The image with only this table cached, and with this free list.
  abbrev pub image : Listed → Metadata
  image s = record m { cached = lone_table table s.table; order = order; pending = s.list.entries }

  abbrev pub found : Metadata
  found = image (listing t0 list0)

  parts : (d : ℕ) → guest + d ≡ i * entries_of_cluster h + (j + d)
  parts d = let whole = div-add-mod' guest (entries_of_cluster h) in omega (arith, whole)

  pub row-of : (d : ℕ) → j + d < entries_of_cluster h → (guest + d) / entries_of_cluster h ≡ i
  row-of d less = ap (λ g. g / entries_of_cluster h) (parts d) ∙ div-mul-add i (entries_of_cluster h) (j + d) less

  pub column-of : (d : ℕ) → j + d < entries_of_cluster h → (guest + d) % entries_of_cluster h ≡ j + d
  column-of d less = ap (λ g. g % entries_of_cluster h) (parts d) ∙ mod-mul-add i (entries_of_cluster h) (j + d) less

  under-still : (x : Metadata) (g : ℕ) → x.file ≡ m.file → x.header ≡ m.header → IsUnder m table g → IsUnder x table g
  under-still x g file header under = record {
    inside = rw header under.inside;
    table_linked = rw (file, header) under.table_linked;
    table_nonzero = under.table_nonzero;
  }

  -- The first `k` of `n` entries are linked, and the others can be.
  pub record Standing (n k : ℕ) (s : Listed) : Type 0 where
    pub step : AdvancesBy (linking_run m guest x k) found (image s)
    pub waits : s.list.entries ≡ list0.entries ++ given_for_run m guest x k
    pub named : (d : ℕ) → d < k → entry (in_memory (image s)) h (guest + d) ≡ data_at (x + d) true
    pub able : (d : ℕ) → k ≤ d → d < n → CanBeLinked (image s) table (guest + d) (x + d)
    pub raw_entries : (d : ℕ) → k ≤ d → d < n → mapping_in s.table (j + d) ≡ entry m.file h (guest + d)
    pub layout : s.table.layout ≡ layout_of h

  module _ (start : IsSound found) (guest_unchanged : GuestUnchanged (λ _. 0) (λ _. 0) m found) (n : ℕ) (able : CanAllBeLinked n m table guest x)
      (near : (d : ℕ) → d < n → IsAddressable h.cluster_bits (x + d)) (fits : j + n ≤ entries_of_cluster h) where
    -- No entry is linked yet.
    able-found : (d : ℕ) → d < n → CanBeLinked found table (guest + d) (x + d)
    able-found d to = record {
      in_table = under-still found (guest + d) refl refl (able d to).in_table;
      own = elim (able d to).own [
        | inl reserved ↦ inl (reserved-still (λ p v. ⊥) (λ q. ⊥) (λ g. ⊥) (λ _. 0) (λ _. 0) m found
            (quiet-advances m found (λ _. 0) (λ _. 0) sound start guest_unchanged (λ c named. refl)) (x + d) reserved refl)
        | inr kept ↦ inr (record {
          file = kept.file;
          memory = quiet-entries m found (λ _. 0) (λ _. 0) sound start guest_unchanged (guest + d) ∙ kept.memory;
        })
      ];
    }

    begun : Standing n 0 (listing t0 list0)
    unfolding linking_run given_for_run
    begun = record {
      step = idle found start;
      waits = sym (append-nil list0.entries);
      named = λ d less. absurd (omega (arith, less));
      able = λ d from to. able-found d to;
      raw_entries = λ d from to.
          ap (mapping_in t0) (sym (column-of d (omega (arith, to, fits)))) ∙ old-entry m table (guest + d) (x + d) sound (able d to) t0 is;
      layout = ap (λ (t : TableValue). t.layout) is;
    }

    -- One more entry is linked.
    module _ (k : ℕ) (less : k < n) (s s' : Listed) (was : Standing n k s) (one : LinksEntry (j + k) (x + k) s s') where
      abbrev g : ℕ
      g = guest + k

      abbrev y : ℕ
      y = x + k

      abbrev before : Option FreeEntry
      before = given_in s.table (j + k) y

      abbrev mapping : Mapping
      mapping = mapping_of s.table.layout (2 ^ 63 + y * 2 ^ s.table.layout.cluster_bits)

      abbrev old : Mapping
      old = mapping_in s.table (g % entries_of_cluster h)

      abbrev set : Metadata
      set = record (image s) { cached = lone_table table s'.table }

      abbrev put-image : Metadata
      put-image = record set { pending = s.list.entries ++ listed_of before }

      here : j + k < entries_of_cluster h
      here = omega (arith, less, fits)

      column : j + k ≡ g % entries_of_cluster h
      column = sym (column-of k here)

      bits : s.table.layout.cluster_bits ≡ h.cluster_bits
      bits = ap (λ l. l.cluster_bits) was.layout

      abbrev Set : ℕ → ℕ → Type 0
      Set b c = (s'.table ≡ with_raw_entry s.table c (2 ^ 63 + y * 2 ^ b))
          × (before ≡ freed (replaced y (allocation_of b (mapping_in s.table c))))
          × Conserves b (mapping_in s.table c) mapping before (newly y (allocation_of b (mapping_in s.table c)))

      facts : Set h.cluster_bits (g % entries_of_cluster h)
      facts = subst (λ b. Set b (g % entries_of_cluster h)) bits
          (subst (λ c. Set s.table.layout.cluster_bits c) column (one.set, refl, one.conserved))

      means : mapping ≡ data_at y true
      means = ap (λ l. mapping_of l (2 ^ 63 + y * 2 ^ l.cluster_bits)) was.layout
          ∙ names-data m y sound (λ none. some (omega (arith, none))) (near k less)

      meant : old ≡ entry m.file h g
      meant = ap (mapping_in s.table) (sym column) ∙ was.raw_entries k (omega arith) less

      tables : (lone_table table s'.table).tables
          ≡ hit (nat_eq table) (lone_table table s.table).tables (with_raw_entry s.table (g % entries_of_cluster h) (2 ^ 63 + y * cluster_size h))
      tables = ap (λ (t : TableValue). (lone_table table t).tables) facts.0 ∙ sym (lone-hit table (record { value = s.table; pins = 0 }) _)

      there : option_map (λ e. e.value) (lookup (nat_eq table) (lone_table table s.table).tables) ≡ Some s.table
      there = rw (eq-eqb table table refl) refl

      able-now : CanBeLinked (image s) table g y
      able-now = was.able k (omega arith) less

      word-set : WordNamed (image s) g y old before (image s) set
      word-set =
          word-named (image s) table g y was.step.sound able-now (λ none. some (omega (arith, none))) (near k less) m.file (lone_table table s.table) order refl
          was.step.sound (quiet-none (image s) was.step.sound) s.table there (lone_table table s'.table) tables refl before facts.1 mapping means facts.2 meant

      abbrev step-kind : Kind
      step-kind = stepping (image s) (g / entries_of_cluster h) (g % entries_of_cluster h) y old before

      abbrev put-kind : Kind
      put-kind = handing (λ _. 0) (λ c. holds c before)

      put-step : AdvancesBy put-kind set put-image
      put-step = put-advances set before word-set.step.sound word-set.owed
          (freed-data (replaced y (allocation_of s.table.layout.cluster_bits (mapping_in s.table (j + k)))))

      same-image : put-image ≡ image s'
      same-image = ap (λ (l : FreeList). record set { pending = l.entries }) (sym one.put)

      gives-up : before ≡ given_for m g y
      gives-up = facts.1 ∙ ap (λ (w : Mapping). freed (replaced y (allocation_of h.cluster_bits w))) meant

      wider : IsWider (both step-kind put-kind) (linking m g y)
      wider = wider-both step-kind put-kind (linking m g y) word-set.wider (wider-handing (λ _. 0) (λ c. holds c before) (linking m g y))

      given-same : (c : ℕ) → holds c (given_for m g y) ≡ holds c before
      given-same c = ap (holds c) (sym gives-up)

      newly-same : (c : ℕ) → newly y (allocation_of h.cluster_bits (entry m.file h g)) c ≡ newly y (allocation_of h.cluster_bits old) c
      newly-same c = ap (λ (w : Mapping). newly y (allocation_of h.cluster_bits w) c) (sym meant)

      second : AdvancesBy (linking m g y) (image s) (image s')
      second = subst (λ (z : Metadata). AdvancesBy (linking m g y) (image s) z) same-image
          (advances-weaker (both step-kind put-kind).gives (linking m g y).gives (both step-kind put-kind).written (linking m g y).written
          (both step-kind put-kind).set (linking m g y).set (both step-kind put-kind).excess_added (both step-kind put-kind).taken
          (linking m g y).excess_added (linking m g y).taken (image s) put-image wider.gives wider.written wider.set
          (λ c. let same = given-same c in let anew = newly-same c in omega (arith, same, anew))
          (λ c used none. let same = given-same c in let anew = newly-same c in omega (arith, same, anew, none))
          (advances-then step-kind.gives put-kind.gives step-kind.written step-kind.set step-kind.excess_added step-kind.taken (image s) set word-set.step
          put-kind.written put-kind.set put-kind.excess_added put-kind.taken put-image put-step))

      next : AdvancesBy (linking_run m guest x (suc k)) found (image s')
      unfolding linking_run
      next =
          let first = linking_run m guest x k in
          advances-then first.gives (linking m g y).gives first.written first.set first.excess_added first.taken found (image s) was.step
          (linking m g y).written (linking m g y).set (linking m g y).excess_added (linking m g y).taken (image s') second

      -- Another entry of the run is unchanged.
      word-stays : (d : ℕ) → d < n → d ≢ k → entry (in_memory (image s')) h (guest + d) ≡ entry (in_memory (image s)) h (guest + d)
      word-stays d to other = elim (second.raw_entries (guest + d)) [
        | inl same ↦ same
        | inr set ↦ absurd (other (let a = column-of d (omega (arith, to, fits)) in let b = column-of k here in let c = set.1 in omega (arith, a, b, c)))
      ]

      able-next : (d : ℕ) → suc k ≤ d → d < n → CanBeLinked (image s') table (guest + d) (x + d)
      able-next d from to = record {
        in_table = under-still (image s') (guest + d) refl refl (able d to).in_table;
        own = elim (was.able d (omega (arith, from)) to).own [
          | inl reserved ↦ inl (reserved-still (linking m g y).gives (linking m g y).written (linking m g y).set (linking m g y).excess_added
              (linking m g y).taken (image s) (image s') second (x + d) reserved (
              let apart : x + d ≢ y = λ same. omega (arith, same, from) in
              let none = newly-apart y (x + d) (allocation_of h.cluster_bits (entry m.file h g)) apart in
              let same = given-same (x + d) in
              let spared = word-set.untouched_unless_begun (x + d) apart reserved.not_referenced in
              omega (arith, none, same, spared)))
          | inr kept ↦ inr (record {
            file = kept.file;
            memory = word-stays d to (λ same. omega (arith, same, from)) ∙ kept.memory;
          })
        ];
      }

      pub stands-next : Standing n (suc k) s'
      unfolding given_for_run
      stands-next = record {
        step = next;
        waits = ap (λ (l : FreeList). l.entries) one.put ∙ ap (λ es. es ++ listed_of before) was.waits
            ∙ append_assoc list0.entries (given_for_run m guest x k) (listed_of before)
            ∙ ap (λ b. list0.entries ++ (given_for_run m guest x k ++ listed_of b)) gives-up;
        named = λ d lt. elim (cases_eq d k) [
          | inl this ↦ subst (λ e. entry (in_memory (image s')) h (guest + e) ≡ data_at (x + e) true) (sym this) word-set.named
          | inr other ↦ word-stays d (omega (arith, lt, less)) other ∙ was.named d (omega (arith, lt, other))
        ];
        able = able-next;
        raw_entries = λ d from to.
            ap (λ (t : TableValue). mapping_in t (j + d)) one.set
            ∙ other-mapping s.table (j + k) (j + d) _ (λ same. omega (arith, same, from))
            ∙ was.raw_entries d (omega (arith, from)) to;
        layout = ap (λ (t : TableValue). t.layout) one.set ∙ was.layout;
      }

    pub stands : (k : ℕ) → k ≤ n → (s : Listed) → LinksEntries j x k (listing t0 list0) s → Standing n k s
    unfolding LinksEntries
    stands zero most s is = subst (Standing n 0) (sym is) begun
    stands (suc k) most s is = stands-next k (omega (arith, most)) is.0 s (stands k (omega (arith, most)) is.0 is.1) is.2
