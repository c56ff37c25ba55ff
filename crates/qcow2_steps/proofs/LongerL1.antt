-- The header is switched to a longer L1 table that is ready for it: the image stays consistent, and each guest byte reads as before.
use Rattle.std.proofs.Common.{◌≡◌, ◌≢◌, ℕ, ◌+◌, ◌*◌, ◌/◌, ◌%◌, ◌<◌, ◌≤◌, refl, arith, ap, sym, subst, ◌∙◌, true, Ok, inl, inr}
use Rattle.std.specs.Prelude.{◌⊎◌, Bool, false, max, nat_lt}
use Rattle.std.specs.List.{AllByRecursion}
use Rattle.std.proofs.lemmas.Bool.{cases_eq, cases_lt, le-ltb}
use Rattle.std.proofs.lemmas.Bool.Decides.{nat_tests}
use Rattle.std.proofs.lemmas.Nat.{mod_below, pow_pos}
use Rattle.std.proofs.Math.Nat.{div-mul-le_self, lt-div-mul-add}
use Rattle.qcow2_types.specs.Bytes.{Bytes, sum_below, raw_entry}
use Rattle.qcow2_types.specs.Counts.{block_at, count, counter}
use Rattle.qcow2_types.specs.Entries.{entry, l2_table}
use Rattle.qcow2_types.specs.Frames.{Outside, Same, touches}
use Rattle.qcow2_types.specs.Header.{Fields, Header, cluster_size, header_of, entries_of_cluster}
use Rattle.qcow2_types.specs.References.{meets, of_copied, of_mapping, structure}
use Rattle.qcow2_types.specs.Slots.{Live, or_none, over_slots, slot}
use Rattle.qcow2_types.specs.Switched.{L1Switched, with_l1, with_l1_table}
use Rattle.qcow2_types.specs.Versions.{SamePlaces, copied}
use Rattle.qcow2_types.specs.Words.{data_at}
use Rattle.qcow2_types.proofs.Counting.Consistent.{header-kept, meets-own, named-counted}
use Rattle.qcow2_types.proofs.Counting.Either.{refs-cached, refs-file}
use Rattle.qcow2_types.proofs.Changes.Frames.{l1-part, touches-cluster, word-same}
use Rattle.qcow2_types.proofs.Switching.L1Switch.{l1-table-switched}
use Rattle.qcow2_types.proofs.Counting.Parts.{header, l1_table, one-part, touches-inside}
use Rattle.qcow2_types.proofs.Showing.Shows.{table-inside}
use Rattle.qcow2_types.proofs.Numbers.Sums.{sum-same}
use Rattle.qcow2_types.proofs.Switching.Switches.{cluster-long, l1-switched, sum-longer}
use Rattle.qcow2_metadata.specs.Blocks.{Block}
use Rattle.qcow2_metadata.specs.Tables.{TableValue}
use Rattle.qcow2_alloc.specs.Memory.{memory, patches}
use Rattle.qcow2_alloc.specs.GuestView.{Metadata, IsSound, counted, in_memory, referenced_at_all, referenced, waiting}
use Rattle.qcow2_alloc.specs.WellFormedness.{IsCachedBlock, IsCachedTable, WellFormed}
use Rattle.qcow2_alloc.proofs.Freeing.Lists.{map-same}
use Rattle.qcow2_alloc.proofs.Memory.FreeClusterWrites.{over-agrees}
use Rattle.qcow2_alloc.proofs.Memory.MemoryImage.{range-stays}
use Rattle.qcow2_alloc.proofs.Memory.Patches.{all-weaker, patches-are, place-there}
use Rattle.qcow2_alloc.proofs.Memory.StructureWrites.{memory-start, unmet-stays}
use Rattle.qcow2_alloc.proofs.Memory.FittingWords.{counters-same}
use Rattle.qcow2_alloc.proofs.Memory.KeptWords.{ordered-still}
use Rattle.qcow2_alloc.proofs.GuestView.QuietEntries.{metadata-among}
use Rattle.qcow2_alloc.proofs.GuestView.ShownDisks.{in-cluster, memory-same, named-apart}
use Rattle.qcow2_steps.specs.Advancing.{Advances}
use Rattle.qcow2_steps.specs.LongerL1.{IsReadyL1Table, NamesL1Table, new_l1, old_l1, with_longer_l1}
use Rattle.qcow2_steps.specs.Values.{file_value, memory_value, own_value_by}
use Rattle.qcow2_steps.proofs.Headers.{header-l1}
use Rattle.qcow2_steps.proofs.QuietValues.{data-used}
use Rattle.qcow2_steps.proofs.Values.{places-there, value-same, within}
use Rattle.qcow2_steps.proofs.WriteValues.{data-slot}

-- A range meets the cluster of each of its bytes.
inside-meets : (h : Fields) (p first long : ℕ) → first ≤ p → p < first + long → 0 < meets h (p / cluster_size h) first long
inside-meets h p first long from to =
    let low : p / cluster_size h * cluster_size h ≤ p = div-mul-le_self p (cluster_size h) in
    let below : p < p / cluster_size h * cluster_size h + cluster_size h = lt-div-mul-add (pow_pos h.cluster_bits) in
    let high : p + 1 ≤ (p / cluster_size h + 1) * cluster_size h = omega (arith, below) in
    let one : touches p 1 first long ≡ 1 = touches-inside p 1 first long (omega arith) from (omega (arith, to)) in
    let le : touches p 1 first long ≤ meets h (p / cluster_size h) first long = touches-cluster h (p / cluster_size h) p 1 low high first long in
    omega (arith, one, le)

meets-most : (h : Fields) (d first long : ℕ) → meets h d first long ≤ 1
meets-most h d first long = grind (arith, nat_tests)

-- A sum over the entries of L2 tables is the same if the L1 table is longer.
slots-longer : (s t : ℕ → ℕ) (h : Fields) (o more : ℕ) (p q : ℕ → ℕ → ℕ) → ((i : ℕ) → t i ≡ s i) → ((i : ℕ) → h.l1_entries ≤ i → s i ≡ 0) → ((i j : ℕ) → Live s h i j → q i j ≡ p i j)
    → over_slots t (with_l1 h o (h.l1_entries + more)) q ≡ over_slots s h p
unfolding over_slots
slots-longer s t h o more p q same past raw_entries =
    sum-longer h.l1_entries more (λ i. or_none (t i) (sum_below (entries_of_cluster h) (λ j. q i j))) (λ i le. rw (same i, past i le) refl)
    ∙ sum-same h.l1_entries _ _ (λ k lt. elim (cases_eq (s k) 0) [
      | inl e ↦ rw (same k, e) refl
      | inr there ↦
          ap (λ z. or_none z (sum_below (entries_of_cluster h) (λ j. q k j))) (same k)
          ∙ ap (or_none (s k)) (sum-same (entries_of_cluster h) _ _ (λ j less. raw_entries k j (record { in_l1 = lt; is_there = there; in_table = less })))
    ])

module _ (m : Metadata) (o more : ℕ) (x : Bytes) (sound : IsSound m) (ready : IsReadyL1Table m o more) (by : NamesL1Table m o more x) where
  abbrev f : Bytes
  f = m.file

  abbrev g : Bytes
  g = in_memory m

  abbrev h : Fields
  h = m.header.fields

  abbrev new : Fields
  new = with_l1 m.header.fields o (m.header.fields.l1_entries + more)

  abbrev H' : Header
  H' = with_l1_table m.header o (m.header.fields.l1_entries + more)

  abbrev long : ℕ
  long = (m.header.fields.l1_entries + more) * 8

  abbrev later : Metadata
  later = with_longer_l1 m o more x

  abbrev y : Bytes
  y = memory x (with_l1 m.header.fields o (m.header.fields.l1_entries + more)) m.cached

  places : SamePlaces f g h
  places = places-there m sound

  in-file : L1Switched f x m.header o more
  in-file = l1-table-switched f x m.header sound.well_formed.consistent o more by.loads by.outside ready.raw_entries ready.zeroes
      (λ d met. let r = ready.reserved d met in let none = r.0.not_referenced in let le = refs-file f g h d in (omega (arith, none, le), r.1))

  -- Clusters without structure keep their bytes.
  kept-there : (d : ℕ) → structure f h (meets h d) ≡ 0 → Same f x (d * cluster_size h) (cluster_size h)
  kept-there d none =
      let part : meets h d 0 (cluster_size h) ≤ structure f h (meets h d) = one-part f h (meets h d) header tt in
      let size = cluster-long f m.header sound.well_formed.consistent in
      unmet-stays f x h d 0 (cluster_size h) 0 64 (omega (arith, part, none)) (omega arith) (omega (arith, size)) by.outside

  -- The cached tables and blocks are still valid for the new file.
  table-still : (cluster : ℕ) (v : TableValue) → IsCachedTable f h cluster v → IsCachedTable x new cluster v
  table-still cluster v is = record {
    fits = is.fits;
    placed = is.placed;
    layout = is.layout;
    modified = λ on. let live = is.modified on in (live.0, (let less = live.1 in omega (arith, less)), in-file.tables live.0 ∙ live.2, live.3);
    clean = λ off live.
        let place : l2_table f h live.0 ≡ cluster * cluster_size h = sym (in-file.tables live.0) ∙ live.2 in
        let some : l2_table f h live.0 ≢ 0 = λ none. place-there (cluster_size h) cluster (pow_pos h.cluster_bits) live.3 (sym place ∙ none) in
        let inside : live.0 < h.l1_entries = table-inside f h live.0 some in
        is.clean off (live.0, inside, place, live.3)
        ∙ sym (map-same (raw_entry x (cluster * cluster_size h)) (raw_entry f (cluster * cluster_size h)) (entries_of_cluster h)
        (λ j less. subst (λ p. raw_entry x p j ≡ raw_entry f p j) place (in-file.same_structure_outside.raw_entries live.0 j (record { in_l1 = inside; is_there = some; in_table = less }) (λ e. cc))));
  }

  block-still : (cluster : ℕ) (b : Block) → IsCachedBlock f h cluster b → IsCachedBlock x new cluster b
  unfolding counter
  block-still cluster b is = record {
    placed = is.placed;
    cluster_bits = is.cluster_bits;
    order = is.order;
    long = is.long;
    fit = is.fit;
    modified = λ on. let live = is.modified on in (live.0, live.1, in-file.blocks live.0 ∙ live.2, live.3);
    clean = λ off live.
        let place : block_at f h live.0 ≡ cluster * cluster_size h = sym (in-file.blocks live.0) ∙ live.2 in
        let some : block_at f h live.0 ≢ 0 = λ none. place-there (cluster_size h) cluster (pow_pos h.cluster_bits) live.3 (sym place ∙ none) in
        is.clean off (live.0, live.1, place, live.3)
        ∙ sym (counters-same f x h (cluster * cluster_size h) (subst (λ p. Same f x p (cluster_size h)) place (in-file.same_structure_outside.counters live.0 live.1 some (λ e. cc))));
  }

  tables-fit : AllByRecursion (λ e. IsCachedTable x new e.0 e.1.value) m.cached.tables
  tables-fit = all-weaker _ _ (λ e is. table-still e.0 e.1.value is) m.cached.tables sound.well_formed.tables

  blocks-fit : AllByRecursion (λ e. IsCachedBlock x new e.0 e.1.value) m.cached.blocks
  blocks-fit = all-weaker _ _ (λ e is. block-still e.0 e.1.value is) m.cached.blocks sound.well_formed.blocks

  -- In memory the header is switched, too.
  loads-there : header_of true y ≡ Ok H'
  loads-there = header-kept true x y H' by.loads (memory-start x H' in-file.consistent m.cached tables-fit blocks-fit)

  outside-there : Outside g y 0 64
  outside-there p off = over-agrees x f (patches h m.cached) p (by.outside p off)

  -- The new table in memory is that of the file.
  table-there : Same f g o long
  table-there k less =
      let met = inside-meets h (o + k) o long (omega arith) (omega (arith, less)) in
      in-cluster h f g (o + k) (memory-same f m.header ((o + k) / cluster_size h) (ready.reserved ((o + k) / cluster_size h) met).0.used.apart sound.well_formed.consistent m.cached m.order sound.well_formed)

  old-there : (i : ℕ) → i < h.l1_entries → raw_entry g h.l1_offset i ≡ raw_entry f h.l1_offset i
  old-there i less = word-same f g h.l1_offset (h.l1_entries * 8) i
      (range-stays f m.header sound.well_formed.consistent l1_table tt refl h.l1_offset (h.l1_entries * 8) (λ w. refl) (patches h m.cached) (patches-are f m.header sound.well_formed.consistent m.cached sound.well_formed.tables sound.well_formed.blocks))
      (omega (arith, less))

  new-there : (i : ℕ) → i < h.l1_entries + more → raw_entry g o i ≡ raw_entry f o i
  new-there i less = word-same f g o long i table-there (omega (arith, less))

  over-there : L1Switched g y m.header o more
  over-there = l1-table-switched g y m.header (within m sound) o more loads-there outside-there
      (λ i less. new-there i (omega (arith, less)) ∙ ready.raw_entries i less ∙ sym (old-there i less))
      (λ i from less. new-there i less ∙ ready.zeroes i from less)
      (λ d met.
      let r = ready.reserved d met in
      let none = r.0.not_referenced in
      let le = refs-cached f g h d places in
      let taken = r.0.used.taken in
      (omega (arith, none, le), omega (arith, taken)))

  live-there : (i j : ℕ) → Live (l2_table f h) h i j → Live (l2_table g h) h i j
  live-there i j live = record { in_l1 = live.in_l1; is_there = λ none. live.is_there (sym (places.l1 i) ∙ none); in_table = live.in_table }

  names : (d : ℕ) → referenced_at_all later d + old_l1 m d ≡ referenced_at_all m d + new_l1 m o more d
  names d = l1-switched f g x y h o more d in-file.blocks in-file.tables (λ i j live. (in-file.same_structure_outside.raw_entries i j live (λ e. cc), over-there.slots i j (live-there i j live)))

  no-table : (i : ℕ) → h.l1_entries ≤ i → l2_table f h i ≡ 0
  no-table i le = let past : nat_lt i h.l1_entries ≡ false = le-ltb _ _ le in rw past refl

  marks : (d : ℕ) → copied x y new d ≡ copied f g h d
  unfolding copied
  marks d = slots-longer (l2_table f h) (l2_table x new) h o more (λ i j. max (of_copied h (meets h d) (slot f h i j)) (of_copied h (meets h d) (slot g h i j)))
      (λ i j. max (of_copied h (meets h d) (slot x new i j)) (of_copied h (meets h d) (slot y new i j))) in-file.tables no-table
      (λ i j live.
      ap (λ n. max (of_copied h (meets h d) n) (of_copied h (meets h d) (slot y new i j))) (in-file.slots i j live)
      ∙ ap (λ n. max (of_copied h (meets h d) (slot f h i j)) (of_copied h (meets h d) n)) (over-there.slots i j (live-there i j live)))

  base : (d : ℕ) → structure x new (meets h d) + old_l1 m d ≡ structure f h (meets h d) + new_l1 m o more d
  base d = in-file.structure (meets h d)

  file-counts : (d : ℕ) → count x new d ≡ count f h d
  file-counts = in-file.counts

  pub counts-there : (d : ℕ) → counted later d ≡ counted m d
  counts-there = over-there.counts

  references-there : (d : ℕ) → referenced later d + old_l1 m d ≡ referenced m d + new_l1 m o more d
  references-there = over-there.references

  -- A cluster either has no part of the new table, or was reserved.
  which : (d : ℕ) → (new_l1 m o more d ≡ 0) ⊎ ((new_l1 m o more d ≡ 1) × (referenced_at_all m d ≡ 0) × (waiting m d ≡ 0) × (1 ≤ count f h d) × (1 ≤ counted m d))
  which d =
      let most = meets-most h d o long in
      elim (cases_lt 0 (new_l1 m o more d)) [
        | inl met ↦ let r = ready.reserved d met in let taken = r.0.used.taken in inr (omega (arith, met, most), r.0.not_referenced, r.0.waits, r.1, omega (arith, taken))
        | inr none ↦ inl (omega (arith, none))
      ]

  safe-still : WellFormed x H' m.cached m.order
  safe-still = record {
    consistent = in-file.consistent;
    tables_apart = sound.well_formed.tables_apart;
    blocks_apart = sound.well_formed.blocks_apart;
    tables = tables-fit;
    blocks = blocks-fit;
    apart = λ d some.
        let all = names d in
        let same = marks d in
        let stands = base d in
        elim (which d) [
          | inl none ↦ let one = sound.well_formed.apart d (omega (arith, same, stands, none, some)) in omega (arith, all, none, one)
          | inr at ↦ omega (arith, all, at.0, at.1)
        ];
    ordered = ordered-still f g x y h new
        (λ d le. let all = names d in let counts = counts-there d in elim (which d) [
          | inl none ↦ omega (arith, all, counts, none, le)
          | inr at ↦ omega (arith, all, counts, at.0, at.1, at.4)
        ])
        (λ d le. let all = names d in let counts = file-counts d in elim (which d) [
          | inl none ↦ omega (arith, all, counts, none, le)
          | inr at ↦ omega (arith, all, counts, at.0, at.1, at.3)
        ])
        (λ d. named-counted x H' in-file.consistent d)
        (λ d le. let file = file-counts d in let cached = counts-there d in omega (arith, file, cached, le))
        m.order sound.well_formed.ordered;
    covered = λ d. named-counted y H' over-there.consistent d;
  }

  pub longer-sound : IsSound later
  longer-sound = record {
    well_formed = safe-still;
    table = record { layout = sound.table.layout; long = sound.table.long; placed = sound.table.placed; names = λ i less. sound.table.names i less ∙ sym (in-file.blocks i) };
    covered = λ d.
        let was = sound.covered d in
        let all = references-there d in
        let counts = counts-there d in
        elim (which d) [
          | inl none ↦ omega (arith, was, all, counts, none)
          | inr at ↦ let le = refs-cached f g h d places in omega (arith, all, counts, at.0, at.1, at.2, at.4, le)
        ];
    not_referenced = λ d some.
        let none = sound.not_referenced d some in
        let all = names d in
        elim (which d) [
          | inl away ↦ omega (arith, none, all, away)
          | inr at ↦ let le = metadata-among d m.pending in absurd (omega (arith, le, some, at.2))
        ];
  }

  byte-kept : (p d : ℕ) → structure f h (meets h d) ≡ 0 → x (d * cluster_size h + p % cluster_size h) ≡ f (d * cluster_size h + p % cluster_size h)
  byte-kept p d none = kept-there d none (p % cluster_size h) (mod_below p (cluster_size h) (pow_pos h.cluster_bits))

  file-apart : (guest d : ℕ) (k : Bool) → entry f h guest ≡ data_at d k → structure f h (meets h d) ≡ 0
  file-apart guest d k is =
      let there = data-slot f m.header sound.well_formed.consistent guest d k is in
      let one = ap (of_mapping h (meets h d)) there.1 ∙ meets-own h d in
      named-apart f g h d (guest / entries_of_cluster h) (guest % entries_of_cluster h) (slot f h (guest / entries_of_cluster h) (guest % entries_of_cluster h)) sound.well_formed.apart there.0 (inl refl) (omega (arith, one))

  -- The mapping of each guest cluster is the same.
  pub words-kept : (guest : ℕ) → (entry y new guest ≡ entry g h guest) × (entry x new guest ≡ entry f h guest)
  words-kept guest = (over-there.entries guest, in-file.entries guest)

  -- Each guest byte reads as before, in the file and in memory.
  pub file-shows-same : (p : ℕ) → file_value later p ≡ file_value m p
  file-shows-same p =
      ap (own_value_by x h p) (in-file.entries (p / cluster_size h)) ∙ value-same f x h p (entry f h (p / cluster_size h)) (λ d k is. byte-kept p d (file-apart (p / cluster_size h) d k is))

  pub memory-shows-same : (p : ℕ) → memory_value later p ≡ memory_value m p
  memory-shows-same p =
      ap (own_value_by x h p) (over-there.entries (p / cluster_size h))
      ∙ value-same f x h p (entry g h (p / cluster_size h)) (λ d k is. byte-kept p d (data-used m sound (p / cluster_size h) d k is).apart)

  pub longer-advances : Advances (λ p v. ⊥) (λ q. ⊥) (λ guest. ⊥) (old_l1 m) (new_l1 m o more) m later
  longer-advances = record {
    sound = longer-sound;
    header = header-l1 m.header o (m.header.fields.l1_entries + more);
    file = record { consistent = in-file.consistent; header = header-l1 m.header o (m.header.fields.l1_entries + more); shows = λ p. inl (file-shows-same p) };
    memory = λ p. inl (memory-shows-same p);
    raw_entries = λ guest. inl (over-there.entries guest);
    used = λ d used none. record {
      apart = let stands = base d in let was = used.apart in omega (arith, stands, was, none);
      taken = let counts = counts-there d in let taken = used.taken in omega (arith, counts, taken);
    };
    waits = λ d used none. omega arith;
    names = λ d used none. let all = names d in omega (arith, all, none);
    used_bytes_unchanged = λ p used none. inr (in-cluster h f x p (kept-there (p / cluster_size h) used.apart));
    law = λ d. let counts = counts-there d in let all = references-there d in omega (arith, counts, all);
  }

  -- Nothing references the clusters of the old table any more.
  pub old-unnamed : (d : ℕ) → old_l1 m d ≡ 1 → referenced_at_all later d ≡ 0
  old-unnamed d own =
      let le = l1-part f h (meets h d) in
      let one = sound.well_formed.apart d (omega (arith, le, own)) in
      let all = names d in
      elim (which d) [
        | inl none ↦ omega (arith, one, all, none, own)
        | inr at ↦ omega (arith, all, at.0, at.1, own)
      ]
