-- Steps that don't change what the guest sees keep the value of each guest byte.
use Rattle.std.proofs.Common.{◌≡◌, ◌≢◌, ℕ, ◌+◌, ◌*◌, ◌/◌, ◌%◌, ◌<◌, ◌≤◌, refl, arith, ap, sym, subst, ◌∙◌, Bool, Option, inl, inr}
use Rattle.std.specs.Prelude.{◌⊎◌, if◌then◌else◌, ◌==◌}
use Rattle.imago_storage.specs.Disk.{Value}
use Rattle.std.proofs.lemmas.Bool.{cases_eq}
use Rattle.std.proofs.lemmas.Nat.{mod_below, pow_pos}
use Rattle.qcow2_types.specs.Bytes.{Bytes}
use Rattle.qcow2_types.specs.Consistency.{IsConsistent}
use Rattle.qcow2_types.specs.Entries.{entry, l2_table}
use Rattle.qcow2_types.specs.Frames.{touches}
use Rattle.qcow2_types.specs.Header.{Fields, Header, cluster_size, entries_of_cluster}
use Rattle.qcow2_types.specs.References.{meets, of_mapping, refs}
use Rattle.qcow2_types.specs.Slots.{Live, slot}
use Rattle.qcow2_types.specs.Switched.{with_refcount_table, with_reftable}
use Rattle.qcow2_types.specs.Words.{Mapping, data_at, unmapped}
use Rattle.qcow2_types.proofs.Counting.Consistent.{consistent-shaped, meets-own, some-words}
use Rattle.qcow2_types.proofs.Counting.Parts.{touches-inside}
use Rattle.qcow2_types.proofs.Showing.Shows.{guest-live}
use Rattle.qcow2_types.proofs.Showing.Values.{entry-slot}
use Rattle.qcow2_alloc.specs.GuestView.{Metadata, GuestUnchanged, IsSound, IsUsed, ShowsEither, in_memory, referenced}
use Rattle.qcow2_alloc.proofs.Memory.KeptWords.{word-contents}
use Rattle.qcow2_alloc.proofs.GuestView.ShownDisks.{named-apart}
use Rattle.qcow2_steps.specs.Advancing.{MayBeCrashImage}
use Rattle.qcow2_steps.specs.Values.{file_value, memory_value, own_value, own_value_by}
use Rattle.qcow2_steps.proofs.Headers.{header-counts}
use Rattle.qcow2_steps.proofs.Values.{places-there, value-same, within}
use Rattle.qcow2_steps.proofs.WriteValues.{data-slot}

-- The mapping of a guest cluster is the same if its table's offset and its one L2 entry are.
slot-same : (a b : ℕ) (x y : Mapping) → b ≡ a → (a ≢ 0 → y ≡ x) → (if b == 0 then unmapped else y) ≡ (if a == 0 then unmapped else x)
slot-same a b x y same raw_entry = elim (cases_eq a 0) [
  | inl none ↦ rw (same, none) refl
  | inr some ↦ ap (λ t. if t == 0 then unmapped else y) same ∙ ap (λ w. if a == 0 then unmapped else w) (raw_entry some)
]

-- The mappings of g with header H are those of y with another refcount table.
module _ (g y : Bytes) (H : Header) (o n : ℕ) (was : IsConsistent g H) (is : IsConsistent y (with_refcount_table H o n)) (tables : (i : ℕ) → l2_table y (with_reftable H.fields o n) i ≡ l2_table g H.fields i) where
  pub entry-kept : (guest : ℕ)
      → (Live (l2_table g H.fields) H.fields (guest / entries_of_cluster H.fields) (guest % entries_of_cluster H.fields)
      → slot y (with_reftable H.fields o n) (guest / entries_of_cluster H.fields) (guest % entries_of_cluster H.fields) ≡ slot g H.fields (guest / entries_of_cluster H.fields) (guest % entries_of_cluster H.fields))
      → entry y (with_reftable H.fields o n) guest ≡ entry g H.fields guest
  entry-kept guest raw_entry =
      entry-slot y (with_reftable H.fields o n) guest is.readable.tables
      ∙ slot-same (l2_table g H.fields (guest / entries_of_cluster H.fields)) (l2_table y (with_reftable H.fields o n) (guest / entries_of_cluster H.fields))
      (slot g H.fields (guest / entries_of_cluster H.fields) (guest % entries_of_cluster H.fields)) (slot y (with_reftable H.fields o n) (guest / entries_of_cluster H.fields) (guest % entries_of_cluster H.fields))
      (tables (guest / entries_of_cluster H.fields))
      (λ there. raw_entry (guest-live g H.fields guest (some-words H.fields (consistent-shaped g H was)) there))
      ∙ sym (entry-slot g H.fields guest was.readable.tables)

-- A data cluster by the entries in memory is in use.
module _ (m : Metadata) (sound : IsSound m) (guest d : ℕ) (copied : Bool) (is : entry (in_memory m) m.header.fields guest ≡ data_at d copied) where
  weighs : 1 ≤ of_mapping m.header.fields (meets m.header.fields d) (slot (in_memory m) m.header.fields (guest / entries_of_cluster m.header.fields) (guest % entries_of_cluster m.header.fields))
  weighs = let one = ap (of_mapping m.header.fields (meets m.header.fields d)) (data-slot (in_memory m) m.header (within m sound) guest d copied is).1 ∙ meets-own m.header.fields d in omega (arith, one)

  live-in-memory : Live (l2_table (in_memory m) m.header.fields) m.header.fields (guest / entries_of_cluster m.header.fields) (guest % entries_of_cluster m.header.fields)
  live-in-memory = (data-slot (in_memory m) m.header (within m sound) guest d copied is).0

  live-in-file : Live (l2_table m.file m.header.fields) m.header.fields (guest / entries_of_cluster m.header.fields) (guest % entries_of_cluster m.header.fields)
  live-in-file = record {
    in_l1 = live-in-memory.in_l1;
    is_there = λ none. live-in-memory.is_there ((places-there m sound).l1 (guest / entries_of_cluster m.header.fields) ∙ none);
    in_table = live-in-memory.in_table;
  }

  pub data-named : 0 < referenced m d
  unfolding refs
  data-named = let le = word-contents (in_memory m) m.header.fields d (guest / entries_of_cluster m.header.fields) (guest % entries_of_cluster m.header.fields) live-in-memory in omega (arith, le, weighs)

  pub data-used : IsUsed m d
  data-used = record {
    apart = named-apart m.file (in_memory m) m.header.fields d (guest / entries_of_cluster m.header.fields) (guest % entries_of_cluster m.header.fields)
        (slot (in_memory m) m.header.fields (guest / entries_of_cluster m.header.fields) (guest % entries_of_cluster m.header.fields)) sound.well_formed.apart live-in-file (inr refl) (omega (arith, weighs));
    taken = let covers = sound.covered d in let named = data-named in omega (arith, covers, named);
  }

module _ (m m' : Metadata) (handed taken : ℕ → ℕ) (sound : IsSound m) (sound' : IsSound m') (guest_unchanged : GuestUnchanged handed taken m m') where
  abbrev o : ℕ
  o = guest_unchanged.shows.moved.0

  abbrev n : ℕ
  n = guest_unchanged.shows.moved.1

  within' : IsConsistent (in_memory m') (with_refcount_table m.header o n)
  within' = subst (IsConsistent (in_memory m')) guest_unchanged.shows.moved.2 (within m' sound')

  tables : (i : ℕ) → l2_table (in_memory m') (with_reftable m.header.fields o n) i ≡ l2_table (in_memory m) m.header.fields i
  tables i = ap (λ (H : Header). l2_table (in_memory m') H.fields i) (sym guest_unchanged.shows.moved.2) ∙ (places-there m' sound').l1 i ∙ guest_unchanged.shows.tables i ∙ sym ((places-there m sound).l1 i)

  -- The mapping of each guest cluster is the same.
  pub quiet-entries : (guest : ℕ) → entry (in_memory m') m'.header.fields guest ≡ entry (in_memory m) m.header.fields guest
  quiet-entries guest =
      ap (λ (H : Header). entry (in_memory m') H.fields guest) guest_unchanged.shows.moved.2
      ∙ entry-kept (in_memory m) (in_memory m') m.header o n (within m sound) within' tables guest (λ live.
      ap (λ (H : Header). slot (in_memory m') H.fields (guest / entries_of_cluster m.header.fields) (guest % entries_of_cluster m.header.fields)) (sym guest_unchanged.shows.moved.2)
      ∙ guest_unchanged.raw_entries (guest / entries_of_cluster m.header.fields) (guest % entries_of_cluster m.header.fields)
      (record { in_l1 = live.in_l1; is_there = λ none. live.is_there ((places-there m sound).l1 (guest / entries_of_cluster m.header.fields) ∙ none); in_table = live.in_table }))

  -- Its data cluster keeps its bytes.
  pub quiet-values : ((c : ℕ) → 0 < referenced m c → taken c ≡ 0) → (p : ℕ) → memory_value m' p ≡ memory_value m p
  quiet-values spared p =
      ap (own_value_by m'.file m'.header.fields p) (ap (λ s. entry (in_memory m') m'.header.fields (p / s)) (ap (λ (H : Header). cluster_size H.fields) guest_unchanged.shows.moved.2) ∙ quiet-entries (p / cluster_size m.header.fields))
      ∙ ap (λ (H : Header). own_value_by m'.file H.fields p (entry (in_memory m) m.header.fields (p / cluster_size m.header.fields))) guest_unchanged.shows.moved.2
      ∙ value-same m.file m'.file m.header.fields p (entry (in_memory m) m.header.fields (p / cluster_size m.header.fields)) (λ d copied is.
      guest_unchanged.used_bytes_unchanged d (data-used m sound (p / cluster_size m.header.fields) d copied is) (spared d (data-named m sound (p / cluster_size m.header.fields) d copied is))
      (p % cluster_size m.header.fields) (mod_below p (cluster_size m.header.fields) (pow_pos m.header.fields.cluster_bits)))

-- A file that reads as the image does is a crash image of a step that gives nothing.
module _ (m : Metadata) (sound : IsSound m) (x : Bytes) (o n : ℕ) (shows : ShowsEither m x (with_refcount_table m.header o n)) (p : ℕ) where
  abbrev h : Fields
  h = m.header.fields

  abbrev guest : ℕ
  guest = p / cluster_size h

  abbrev Live-here : Type 0
  Live-here = Live (l2_table m.file h) h (guest / entries_of_cluster h) (guest % entries_of_cluster h)

  entry-as : (g : Bytes) → IsConsistent g m.header → ((i : ℕ) → l2_table g h i ≡ l2_table m.file h i)
      → (Live-here → slot x (with_reftable h o n) (guest / entries_of_cluster h) (guest % entries_of_cluster h) ≡ slot g h (guest / entries_of_cluster h) (guest % entries_of_cluster h))
      → entry x (with_reftable h o n) guest ≡ entry g h guest
  entry-as g was there raw_entry = entry-kept g x m.header o n was shows.consistent (λ i. shows.tables i ∙ sym (there i)) guest
      (λ live. raw_entry (record { in_l1 = live.in_l1; is_there = λ none. live.is_there (there (guest / entries_of_cluster h) ∙ none); in_table = live.in_table }))

  byte-there : (d : ℕ) (copied : Bool) → entry x (with_reftable h o n) guest ≡ data_at d copied → x (d * cluster_size h + p % cluster_size h) ≡ m.file (d * cluster_size h + p % cluster_size h)
  byte-there d copied is =
      let there = data-slot x (with_refcount_table m.header o n) shows.consistent guest d copied is in
      let less : p % cluster_size h < cluster_size h = mod_below p (cluster_size h) (pow_pos h.cluster_bits) in
      let touched : of_mapping h (touches (d * cluster_size h + p % cluster_size h) 1) (data_at d copied) ≡ 1 = touches-one (d * cluster_size h) (p % cluster_size h) (cluster_size h) less in
      shows.contents (guest / entries_of_cluster h) (guest % entries_of_cluster h)
      (record { in_l1 = there.0.in_l1; is_there = λ none. there.0.is_there (shows.tables (guest / entries_of_cluster h) ∙ none); in_table = there.0.in_table })
      (d * cluster_size h + p % cluster_size h)
      (subst (λ (w : Mapping). 0 < of_mapping h (touches (d * cluster_size h + p % cluster_size h) 1) w) (sym there.1) (omega (arith, touched)))
    where
      touches-one : (first r long : ℕ) → r < long → touches (first + r) 1 first long ≡ 1
      touches-one first r long less = touches-inside (first + r) 1 first long (omega arith) (omega arith) (omega (arith, less))

  value-as : (g : Bytes) → entry x (with_reftable h o n) guest ≡ entry g h guest → own_value x x (with_reftable h o n) p ≡ own_value g m.file h p
  value-as g same = value-same m.file x h p (entry x (with_reftable h o n) guest) byte-there ∙ ap (own_value_by m.file h p) same

  pub left-value : (own_value x x (with_reftable h o n) p ≡ file_value m p) ⊎ (own_value x x (with_reftable h o n) p ≡ memory_value m p)
  left-value = elim (cases_eq (l2_table m.file h (guest / entries_of_cluster h)) 0) [
    | inl none ↦ inl (value-as m.file (entry-as m.file sound.well_formed.consistent (λ i. refl) (λ live. absurd (live.is_there none))))
    | inr there ↦ elim (shows.raw_entries (guest / entries_of_cluster h) (guest % entries_of_cluster h) (guest-live m.file h guest (some-words h (consistent-shaped m.file m.header sound.well_formed.consistent)) there)) [
      | inl file ↦ inl (value-as m.file (entry-as m.file sound.well_formed.consistent (λ i. refl) (λ live. file)))
      | inr memory ↦ inr (value-as (in_memory m) (entry-as (in_memory m) (within m sound) (places-there m sound).l1 (λ live. memory)))
    ]
  ]

pub quiet-left : (gives : ℕ → Option Value → Type 0) (m : Metadata) (x : Bytes) (H : Header) → IsSound m → ShowsEither m x H → MayBeCrashImage gives m x H
quiet-left gives m x H sound shows = subst (MayBeCrashImage gives m x) (sym shows.moved.2) (by shows.moved.0 shows.moved.1 (subst (ShowsEither m x) shows.moved.2 shows))
  where
    by : (o n : ℕ) → ShowsEither m x (with_refcount_table m.header o n) → MayBeCrashImage gives m x (with_refcount_table m.header o n)
    by o n shows' = record {
      consistent = shows'.consistent;
      header = header-counts m.header (with_refcount_table m.header o n) (o, n, refl);
      shows = λ p. elim (left-value m sound x o n shows' p) [
        | inl file ↦ inl file
        | inr memory ↦ inr (inl memory)
      ];
    }

-- If no entry is dirty, data clusters keep their bytes, even if they were taken.
module _ (m m' : Metadata) (handed taken : ℕ → ℕ) (sound : IsSound m) (sound' : IsSound m') (guest_unchanged : GuestUnchanged handed taken m m')
    (clean : (guest : ℕ) → entry m'.file m'.header.fields guest ≡ entry (in_memory m') m'.header.fields guest) where
  file-entry : (guest : ℕ) → entry m'.file (with_reftable m.header.fields guest_unchanged.shows.moved.0 guest_unchanged.shows.moved.1) guest ≡ entry (in_memory m) m.header.fields guest
  file-entry guest =
      ap (λ (H : Header). entry m'.file H.fields guest) (sym guest_unchanged.shows.moved.2) ∙ clean guest ∙ quiet-entries m m' handed taken sound sound' guest_unchanged guest

  pub clean-values : (p : ℕ) → memory_value m' p ≡ memory_value m p
  clean-values p =
      ap (own_value_by m'.file m'.header.fields p) (ap (λ s. entry (in_memory m') m'.header.fields (p / s)) (ap (λ (H : Header). cluster_size H.fields) guest_unchanged.shows.moved.2) ∙ quiet-entries m m' handed taken sound sound' guest_unchanged (p / cluster_size m.header.fields))
      ∙ ap (λ (H : Header). own_value_by m'.file H.fields p (entry (in_memory m) m.header.fields (p / cluster_size m.header.fields))) guest_unchanged.shows.moved.2
      ∙ value-same m.file m'.file m.header.fields p (entry (in_memory m) m.header.fields (p / cluster_size m.header.fields)) (λ d copied is.
      byte-there m sound m'.file guest_unchanged.shows.moved.0 guest_unchanged.shows.moved.1 (subst (ShowsEither m m'.file) guest_unchanged.shows.moved.2 guest_unchanged.shows) p d copied
      (file-entry (p / cluster_size m.header.fields) ∙ is))
