-- An L1 entry is linked to a table with the same meanings as the old one. Without an old table, nothing is mapped.
use Rattle.std.proofs.Common.{◌≡◌, ◌≢◌, ℕ, ◌+◌, ◌*◌, ◌/◌, ◌^◌, ◌<◌, ◌≤◌, arith, ap, sym, subst, ◌∙◌, inl, inr, length, List}
use Rattle.std.specs.Prelude.{◌%◌, IsTrue, slice_index, slice_set, true}
use Rattle.std.specs.Int.{w64, to_be_bytes}
use Rattle.std.proofs.lemmas.Bool.{cases_eq, lt-ltb}
use Rattle.std.proofs.lemmas.List.{ext_get_or, get_or-set_same, get_or-set_other, length-set}
use Rattle.std.proofs.lemmas.Nat.{div-mul-add, mod-mul-add}
use Rattle.qcow2_types.specs.Bytes.{Bytes, bytes_of, splice, raw_entry}
use Rattle.qcow2_types.specs.Consistency.{tables_sound}
use Rattle.qcow2_types.specs.Counts.{count}
use Rattle.qcow2_types.specs.Entries.{entry, l1_table_sound, l2_mapping, l2_table}
use Rattle.qcow2_types.specs.Header.{Fields, Header, cluster_size, layout_of, entries_of_cluster}
use Rattle.qcow2_types.specs.Slots.{guest_slot}
use Rattle.qcow2_types.specs.Switched.{with_refcount_table, with_reftable}
use Rattle.qcow2_types.specs.Words.{unmapped, is_copied, l1_entry_valid, mapping_of, table_offset}
use Rattle.qcow2_types.proofs.Counting.Consistent.{consistent-shaped}
use Rattle.qcow2_types.proofs.Changes.Frames.{splice-is-outside}
use Rattle.qcow2_types.proofs.Counting.Parts.{other-word, words-fit}
use Rattle.qcow2_types.proofs.Counting.Sound.{all-below-holds, sound-words}
use Rattle.qcow2_types.proofs.Numbers.Splices.{be-same, be-zeroes, word-written}
use Rattle.qcow2_types.proofs.Showing.Values.{entry-slot}
use Rattle.qcow2_types.proofs.Numbers.WordLemmas.{fresh-below, fresh-copied, fresh-l1-word, fresh-offset, zero-word}
use Rattle.qcow2_metadata.specs.Places.{IsAddressable}
use Rattle.qcow2_metadata.specs.Tables.{TableValue, raw_entries_in}
use Rattle.qcow2_metadata.proofs.TableFacts.{words_at, words_long}
use Rattle.qcow2_alloc.specs.Memory.{memory}
use Rattle.qcow2_alloc.specs.Opening.{IsL1Of}
use Rattle.qcow2_alloc.specs.GuestView.{Metadata, IsSound, counted, in_memory, referenced_at_all, one_at, waiting}
use Rattle.qcow2_alloc.proofs.Memory.SafeLaws.{clean-memory}
use Rattle.qcow2_steps.specs.NewTables.{IsReadyL2Table, NamesTable, old_table, slot_or_none, with_l1_entry}
use Rattle.qcow2_steps.specs.Words.{IsReserved}
use Rattle.qcow2_steps.proofs.NewTables.{counts-there, old-unnamed, table-advances, table-sound}
use Rattle.qcow2_clusters.specs.Progress.{handing}
use Rattle.qcow2_clusters.specs.Flushed.{nothing_cached}
use Rattle.qcow2_clusters.proofs.ProgressSums.{AdvancesBy}

-- The entries of the L1 table in memory are the file's.
module _ (f : Bytes) (h : Fields) (l1 : TableValue) (of : IsL1Of f h l1) where
  pub l1-long : length l1.raw_entries ≡ h.l1_entries
  l1-long = ap length of.raw_entries ∙ words_long f h.l1_offset h.l1_entries

  pub l1-word : (i : ℕ) → i < h.l1_entries → slice_index l1.raw_entries i ≡ raw_entry f h.l1_offset i
  l1-word i inside = ap (λ (ws : List ℕ). slice_index ws i) of.raw_entries ∙ words_at f h.l1_offset h.l1_entries i inside

  pub l1-table : (i : ℕ) → i < h.l1_entries → l2_table f h i ≡ table_offset (slice_index l1.raw_entries i)
  l1-table i inside = rw (lt-ltb i h.l1_entries inside) (ap table_offset (sym (l1-word i inside)))

-- So are those of each table with the same entries, also if the refcount table has moved.
pub l1-same : (f : Bytes) (h : Fields) (l1 l1' : TableValue) → l1'.layout ≡ l1.layout → l1'.raw_entries ≡ l1.raw_entries → IsL1Of f h l1
    → IsL1Of f h l1'
l1-same f h l1 l1' layout raw_entries of = record { layout = layout ∙ of.layout; raw_entries = raw_entries ∙ of.raw_entries; sound = of.sound }

pub l1-moved : (f : Bytes) (H H' : Header) (offset clusters : ℕ) (l1 : TableValue) → H' ≡ with_refcount_table H offset clusters
    → IsL1Of f H'.fields l1 → IsL1Of f H.fields l1
unfolding l1_table_sound
l1-moved f H H' offset clusters l1 moved of =
    let there : IsL1Of f (with_reftable H.fields offset clusters) l1 = subst (λ (X : Header). IsL1Of f X.fields l1) moved of in
    record { layout = there.layout; raw_entries = there.raw_entries; sound = there.sound }

-- If all tables are valid, the L1 table is.
pub l1-sound : (f : Bytes) (h : Fields) → IsTrue (tables_sound f h) → IsTrue (l1_table_sound f h)
unfolding l1_table_sound
l1-sound f h sound = all-below-holds h.l1_entries (λ i. l1_entry_valid h.cluster_bits (raw_entry f h.l1_offset i)) (sound-words f h sound).l1

-- An entry that is set in memory is written.
pub l1-entered : (f : Bytes) (h : Fields) (l1 l1' : TableValue) (i w : ℕ) → IsL1Of f h l1 → i < h.l1_entries → w < 2 ^ 64
    → l1'.layout ≡ l1.layout → l1'.raw_entries ≡ slice_set l1.raw_entries i w
    → IsTrue (tables_sound (splice f (h.l1_offset + 8 * i) (to_be_bytes w64 w)) h)
    → IsL1Of (splice f (h.l1_offset + 8 * i) (to_be_bytes w64 w)) h l1'
l1-entered f h l1 l1' i w of inside fits layout raw_entries sound = record {
  layout = layout ∙ of.layout;
  raw_entries = raw_entries ∙ ext_get_or 0 (slice_set l1.raw_entries i w) _ long each;
  sound = l1-sound _ h sound;
} where
  x : Bytes
  x = splice f (h.l1_offset + 8 * i) (to_be_bytes w64 w)

  long : length (slice_set l1.raw_entries i w) ≡ length (raw_entries_in x h.l1_offset h.l1_entries)
  long = length-set l1.raw_entries i w ∙ l1-long f h l1 of ∙ sym (words_long x h.l1_offset h.l1_entries)

  each : (k : ℕ) → k < length (slice_set l1.raw_entries i w)
      → slice_index (slice_set l1.raw_entries i w) k ≡ slice_index (raw_entries_in x h.l1_offset h.l1_entries) k
  each k less =
      let within : k < h.l1_entries = omega (arith, less, length-set l1.raw_entries i w, l1-long f h l1 of) in
      elim (cases_eq k i) [
        | inl same ↦
            subst (λ k. slice_index (slice_set l1.raw_entries i w) k ≡ slice_index (raw_entries_in x h.l1_offset h.l1_entries) k) (sym same)
            (get_or-set_same l1.raw_entries i w 0 (omega (arith, inside, l1-long f h l1 of))
            ∙ sym (words_at x h.l1_offset h.l1_entries i inside ∙ word-written f h.l1_offset i w fits))
        | inr apart ↦
            get_or-set_other l1.raw_entries i k w 0 apart ∙ l1-word f h l1 of k within
            ∙ sym (words_at x h.l1_offset h.l1_entries k within
            ∙ other-word f x h.l1_offset i k (splice-is-outside f (h.l1_offset + 8 * i) (to_be_bytes w64 w)) (λ e. apart (sym e)))
      ]

-- Entries of the same bytes have the same meanings at any offset.
pub bytes-mean : (f g : Bytes) (h : Fields) (at place : ℕ) → ((k : ℕ) → k < cluster_size h → f (at + k) ≡ g (place + k))
    → (j : ℕ) → j < entries_of_cluster h → l2_mapping f h at j ≡ l2_mapping g h place j
unfolding raw_entry
bytes-mean f g h at place same j less = ap (mapping_of (layout_of h)) (be-same f g (at + 8 * j) (place + 8 * j) 8 (λ k lt.
    let fits = words-fit h j less in
    let left : at + (8 * j + k) ≡ at + 8 * j + k = omega arith in
    let right : place + (8 * j + k) ≡ place + 8 * j + k = omega arith in
    ap f (sym left) ∙ same (8 * j + k) (omega (arith, fits, lt)) ∙ ap g right))

-- The bytes of a list as a file start at 0.
pub from-zero : (content : List ℕ) (k : ℕ) → bytes_of content (0 + k) ≡ slice_index content k
from-zero content k = ap (slice_index content) (omega arith)

-- An entry of 0 maps nothing.
pub zeroes-map : (f : Bytes) (h : Fields) (place : ℕ) → ((k : ℕ) → k < cluster_size h → f (place + k) ≡ 0)
    → (j : ℕ) → j < entries_of_cluster h → l2_mapping f h place j ≡ unmapped
unfolding raw_entry
zeroes-map f h place zeroes j less =
    let zero : raw_entry f place j ≡ 0 = be-zeroes f (place + 8 * j) 8 (λ k lt.
    let fits = words-fit h j less in
    let at : place + (8 * j + k) ≡ place + 8 * j + k = omega arith in
    subst (λ p. f p ≡ 0) at (zeroes (8 * j + k) (omega (arith, fits, lt)))) in
    ap (mapping_of (layout_of h)) zero ∙ zero-word (layout_of h)

-- The raw entry that references a table, with the COPIED flag.
abbrev pub naming_word : Fields → ℕ → ℕ
naming_word h t = 2 ^ 63 + t * cluster_size h

-- A flushed image. Cluster `t` is reserved, and its entries have the meanings of the table of L1 entry `i`.
pub record IsReplacement (m : Metadata) (i t : ℕ) : Type 0 where
  pub rest : m.cached ≡ nothing_cached
  pub inside : i < m.header.fields.l1_entries
  pub some : t ≢ 0
  pub reach : IsAddressable m.header.fields.cluster_bits t
  pub reserved : IsReserved m t
  pub raw_entries : (j : ℕ) → j < entries_of_cluster m.header.fields
      → l2_mapping m.file m.header.fields (t * cluster_size m.header.fields) j ≡ slot_or_none m.file m.header.fields i j

-- In a flushed image the metadata in memory is that of the file.
pub resting-memory : (m : Metadata) → m.cached ≡ nothing_cached → in_memory m ≡ m.file
resting-memory m rest =
    subst (λ c. memory m.file m.header.fields c ≡ m.file) (sym rest) (clean-memory m.file m.header.fields nothing_cached tt tt)

module _ (m : Metadata) (i t : ℕ) (sound : IsSound m) (new : IsReplacement m i t) where
  abbrev h : Fields
  h = m.header.fields

  abbrev w : ℕ
  w = naming_word m.header.fields t

  low : 9 ≤ h.cluster_bits
  low = (consistent-shaped m.file m.header sound.well_formed.consistent).low

  pub names : NamesTable h t w
  names = record {
    fits = fresh-below h.cluster_bits t low new.reach;
    sane = fresh-l1-word h.cluster_bits t low new.reach;
    names = fresh-offset h.cluster_bits t low new.reach;
  }

  ready : IsReadyL2Table m true i t
  ready = record {
    inside = new.inside;
    cluster_nonzero = new.some;
    reserved = new.reserved;
    counts =
        let less = subst (λ (g : Bytes). waiting m t < count g h t) (resting-memory m new.rest) new.reserved.used.taken in
        omega (arith, less);
    raw_entries = new.raw_entries;
    settled = rw new.rest tt;
    cached = rw new.rest tt;
  }

  -- No entry changes its meaning.
  pub replaced-advances : AdvancesBy (handing (old_table m i) (one_at t)) m (with_l1_entry m i w)
  replaced-advances = table-advances m true i t w sound ready names

  -- The entry references the table,
  pub replaced-named : l2_table (with_l1_entry m i w).file h i ≡ t * cluster_size h
  replaced-named = rw (lt-ltb i h.l1_entries new.inside) (ap table_offset (word-written m.file h.l1_offset i w names.fits) ∙ names.names)

  -- with the COPIED flag,
  pub replaced-copied : is_copied (raw_entry (with_l1_entry m i w).file h.l1_offset i) ≡ true
  replaced-copied = ap is_copied (word-written m.file h.l1_offset i w names.fits) ∙ fresh-copied h.cluster_bits t low new.reach

  -- also in memory.
  pub replaced-entered : (l1 l1' : TableValue) → IsL1Of m.file h l1 → l1'.layout ≡ l1.layout → l1'.raw_entries ≡ slice_set l1.raw_entries i w
      → IsL1Of (with_l1_entry m i w).file h l1'
  replaced-entered l1 l1' of layout raw_entries =
      l1-entered m.file h l1 l1' i w of new.inside names.fits layout raw_entries
      (table-sound m true i t w sound ready names).well_formed.consistent.readable.tables

  -- The refcounts are the same.
  pub replaced-counts : (d : ℕ) → counted (with_l1_entry m i w) d ≡ counted m d
  replaced-counts d = counts-there m true i t w sound ready names d

  -- Nothing references the old table.
  pub replaced-unnamed : (d : ℕ) → d ≢ 0 → l2_table m.file h i ≡ d * cluster_size h → referenced_at_all (with_l1_entry m i w) d ≡ 0
  replaced-unnamed d some place = old-unnamed m true i t w sound ready names d some place

-- If the entries of guest clusters keep their meanings, so do those of the tables.
pub slots-kept : (f x : Bytes) (h h' : Fields) (i : ℕ) → IsTrue (tables_sound f h) → IsTrue (tables_sound x h')
    → entries_of_cluster h' ≡ entries_of_cluster h → ((guest : ℕ) → entry x h' guest ≡ entry f h guest)
    → (j : ℕ) → j < entries_of_cluster h' → slot_or_none x h' i j ≡ slot_or_none f h i j
slots-kept f x h h' i sound has_no_dirty_data long same j less =
    let guest : ℕ = i * entries_of_cluster h' + j in
    let row : (i * entries_of_cluster h' + j) / entries_of_cluster h' ≡ i = div-mul-add i (entries_of_cluster h') j less in
    let column : (i * entries_of_cluster h' + j) % entries_of_cluster h' ≡ j = mod-mul-add i (entries_of_cluster h') j less in
    sym (at-guest x h' guest row column) ∙ sym (entry-slot x h' guest has_no_dirty_data) ∙ same guest ∙ entry-slot f h guest sound
    ∙ at-guest f h guest (ap (λ n. guest / n) (sym long) ∙ row) (ap (λ n. guest % n) (sym long) ∙ column)
  where
    at-guest : (y : Bytes) (k : Fields) (guest : ℕ) → guest / entries_of_cluster k ≡ i → guest % entries_of_cluster k ≡ j
        → guest_slot y k guest ≡ slot_or_none y k i j
    at-guest y k guest row column = ap (λ r. slot_or_none y k r (guest % entries_of_cluster k)) row ∙ ap (slot_or_none y k i) column
