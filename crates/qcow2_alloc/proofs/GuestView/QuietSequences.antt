-- Sequences of calls that leave the guest unchanged.
use Rattle.std.proofs.Common.{◌≡◌, ℕ, ◌+◌, ◌*◌, ◌/◌, ◌<◌, ◌≤◌, refl, arith, ap, sym, subst, ◌∙◌, inl, inr, slice_index}
use Rattle.std.specs.Prelude.{◌⊎◌, IsTrue, Some, None}
use Rattle.std.proofs.lemmas.Bool.{cases_lt, le-ltb}
use Rattle.imago_storage.specs.State.{StorageState, HasRisen, Shape}
use Rattle.imago_storage.specs.Calls.{CountsNotFallen}
use Rattle.imago_storage.proofs.Composing.{keeps_on, stops_both, later_both, rose_before, rose_behind}
use Rattle.qcow2_types.specs.Bytes.{Bytes, bytes_of, raw_entry}
use Rattle.qcow2_types.specs.Words.{Mapping, block_offset, data_at, zeroes, packed, unmapped, damaged}
use Rattle.qcow2_types.specs.Header.{Fields, Header, cluster_size, refcount_table_entries, entries_of_cluster}
use Rattle.qcow2_types.specs.Counts.{block_at}
use Rattle.qcow2_types.specs.Entries.{l2_table}
use Rattle.qcow2_types.specs.Frames.{Same, touches}
use Rattle.qcow2_types.specs.References.{Weight, structure, contents, of_mapping, meets, refs}
use Rattle.qcow2_types.specs.Slots.{slot, Live, over_slots}
use Rattle.qcow2_types.specs.Switched.{with_reftable, with_refcount_table}
use Rattle.qcow2_types.specs.Versions.{SamePlaces}
use Rattle.qcow2_types.proofs.Counting.Either.{structure-same, tables-same}
use Rattle.qcow2_types.proofs.Counting.Slots.{contents-slots, slots-same, slot-le}
use Rattle.qcow2_alloc.specs.Memory.{memory}
use Rattle.qcow2_metadata.specs.Tables.{TableValue}
use Rattle.qcow2_alloc.specs.GuestView.{Metadata, counted, in_memory, referenced, waiting, IsUsed, IsSound, ShowsEither, GuestUnchanged, PreservesGuest}
use Rattle.qcow2_alloc.specs.WellFormedness.{NoChangeRefused}
use Rattle.qcow2_alloc.proofs.Memory.MemoryWords.{places-in-memory}
use Rattle.qcow2_alloc.proofs.GuestView.ShownDisks.{mapping-meets, in-cluster, named-apart}

-- A mapping references the same clusters under any refcount table.
pub of-moved : (h h' : Fields) → cluster_size h' ≡ cluster_size h → (w : Weight) (m : Mapping) → of_mapping h' w m ≡ of_mapping h w m
of-moved h h' same w (data_at cluster copied) = ap (λ s. w (cluster * s) s) same
of-moved h h' same w (zeroes (Some cluster) copied) = ap (λ s. w (cluster * s) s) same
of-moved h h' same w (zeroes None copied) = refl
of-moved h h' same w (packed offset length) = refl
of-moved h h' same w unmapped = refl
of-moved h h' same w damaged = refl

-- All L2 entries together reference the same clusters under any refcount table, if each means the same.
module _ (f g : Bytes) (h : Fields) (offset clusters c : ℕ) (tables : (i : ℕ) → l2_table g (with_reftable h offset clusters) i ≡ l2_table f h i)
    (raw_entries : (i j : ℕ) → Live (l2_table f h) h i j → slot g (with_reftable h offset clusters) i j ≡ slot f h i j) where
  abbrev h' : Fields
  h' = with_reftable h offset clusters

  slots-moved : over_slots (l2_table g h') h' (λ i j. of_mapping h' (meets h' c) (slot g h' i j)) ≡ over_slots (l2_table g h') h (λ i j. of_mapping h' (meets h' c) (slot g h' i j))
  unfolding over_slots
  slots-moved = refl

  contents-moved : contents g h' (of_mapping h' (meets h' c)) ≡ contents f h (of_mapping h (meets h c))
  contents-moved =
      contents-slots g h' (of_mapping h' (meets h' c)) ∙ slots-moved
      ∙ tables-same (l2_table f h) (l2_table g h') h (λ i j. of_mapping h' (meets h' c) (slot g h' i j)) tables
      ∙ slots-same (l2_table f h) h _ _ (λ i j live. of-moved h h' refl (meets h c) (slot g h' i j) ∙ ap (of_mapping h (meets h c)) (raw_entries i j live))
      ∙ sym (contents-slots f h (of_mapping h (meets h c)))

pub structure-in-memory : (m : Metadata) → IsSound m → (w : Weight) → structure (in_memory m) m.header.fields w ≡ structure m.file m.header.fields w
structure-in-memory m sound w = structure-same m.file (in_memory m) m.header.fields (places-in-memory m.file m.header sound.well_formed.consistent m.cached sound.well_formed.tables sound.well_formed.blocks) w

word-refers : (m : Metadata) → IsSound m → (c i j : ℕ) → Live (l2_table m.file m.header.fields) m.header.fields i j → of_mapping m.header.fields (meets m.header.fields c) (slot (in_memory m) m.header.fields i j) ≤ referenced m c
unfolding refs
word-refers m sound c i j live =
    let places = places-in-memory m.file m.header sound.well_formed.consistent m.cached sound.well_formed.tables sound.well_formed.blocks in
    let all : contents (in_memory m) m.header.fields (of_mapping m.header.fields (meets m.header.fields c)) ≡ over_slots (l2_table m.file m.header.fields) m.header.fields (λ k n. of_mapping m.header.fields (meets m.header.fields c) (slot (in_memory m) m.header.fields k n)) =
    contents-slots (in_memory m) m.header.fields (of_mapping m.header.fields (meets m.header.fields c)) ∙ tables-same (l2_table m.file m.header.fields) (l2_table (in_memory m) m.header.fields) m.header.fields _ places.l1 in
    let one = slot-le (l2_table m.file m.header.fields) m.header.fields (λ k n. of_mapping m.header.fields (meets m.header.fields c) (slot (in_memory m) m.header.fields k n)) i j live in
    omega (arith, all, one)

named-used : (m : Metadata) → IsSound m → (c i j : ℕ) → Live (l2_table m.file m.header.fields) m.header.fields i j → 0 < of_mapping m.header.fields (meets m.header.fields c) (slot (in_memory m) m.header.fields i j) → IsUsed m c
named-used m sound c i j live some = record {
  apart = named-apart m.file (in_memory m) m.header.fields c i j (slot (in_memory m) m.header.fields i j) sound.well_formed.apart live (inr refl) some;
  taken = let covers = sound.covered c in let one = word-refers m sound c i j live in omega (arith, covers, one, some);
}

-- Two images, where the second has the guest of the first.
module _ (m m1 : Metadata) (handed taken : ℕ → ℕ) (guest_unchanged : GuestUnchanged handed taken m m1) where
  size : cluster_size m1.header.fields ≡ cluster_size m.header.fields
  size = ap (λ (H : Header). cluster_size H.fields) guest_unchanged.shows.moved.2

  live-there : (i j : ℕ) → Live (l2_table m.file m.header.fields) m.header.fields i j → Live (l2_table m1.file m1.header.fields) m1.header.fields i j
  live-there i j live = record {
    in_l1 = subst (λ (H : Header). i < H.fields.l1_entries) (sym guest_unchanged.shows.moved.2) live.in_l1;
    is_there = λ none. live.is_there (sym (guest_unchanged.shows.tables i) ∙ none);
    in_table = subst (λ (H : Header). j < entries_of_cluster H.fields) (sym guest_unchanged.shows.moved.2) live.in_table;
  }

  -- The L1 table is at the same offset.
  l1-then : (x : Bytes) → ((i : ℕ) → i < m1.header.fields.l1_entries → raw_entry x m1.header.fields.l1_offset i ≡ raw_entry m1.file m1.header.fields.l1_offset i)
      → (i : ℕ) → i < m.header.fields.l1_entries → raw_entry x m.header.fields.l1_offset i ≡ raw_entry m1.file m.header.fields.l1_offset i
  l1-then x same = subst (λ (H : Header). (i : ℕ) → i < H.fields.l1_entries → raw_entry x H.fields.l1_offset i ≡ raw_entry m1.file H.fields.l1_offset i) guest_unchanged.shows.moved.2 same

  module _ (sound : IsSound m) (named_kept : (c : ℕ) → 0 < referenced m c → taken c ≡ 0) where
    -- Clusters that L2 entries reference in memory keep their bytes.
    kept-there : (i j : ℕ) → Live (l2_table m.file m.header.fields) m.header.fields i j → (p : ℕ) → 0 < of_mapping m.header.fields (touches p 1) (slot (in_memory m) m.header.fields i j) → m1.file p ≡ m.file p
    kept-there i j live p some =
        let le = mapping-meets m.header.fields p (slot (in_memory m) m.header.fields i j) in
        let used = named-used m sound (p / cluster_size m.header.fields) i j live (omega (arith, le, some)) in
        let one = word-refers m sound (p / cluster_size m.header.fields) i j live in
        in-cluster m.header.fields m.file m1.file p (guest_unchanged.used_bytes_unchanged (p / cluster_size m.header.fields) used (named_kept (p / cluster_size m.header.fields) (omega (arith, le, one, some))))

    -- A file that shows the second image shows the first one.
    pub shows-then : (x : Bytes) (H : Header) → ShowsEither m1 x H → ShowsEither m x H
    shows-then x H second = record {
      consistent = second.consistent;
      moved = (second.moved.0, second.moved.1, second.moved.2 ∙ ap (λ (K : Header). with_refcount_table K second.moved.0 second.moved.1) guest_unchanged.shows.moved.2);
      header_tail_unchanged = λ p from lt. second.header_tail_unchanged p from (subst (λ n. p < n) (sym size) lt) ∙ guest_unchanged.shows.header_tail_unchanged p from lt;
      l1 = λ i lt. l1-then x second.l1 i lt ∙ guest_unchanged.shows.l1 i lt;
      tables = λ i. second.tables i ∙ guest_unchanged.shows.tables i;
      raw_entries = λ i j live. elim (second.raw_entries i j (live-there i j live)) [
        | inl file ↦ elim (guest_unchanged.shows.raw_entries i j live) [ inl was ↦ inl (file ∙ was) | inr now ↦ inr (file ∙ now) ]
        | inr memory ↦ inr (memory ∙ guest_unchanged.raw_entries i j live)
      ];
      contents = λ i j live p some.
          let there = of-moved m.header.fields m1.header.fields size (touches p 1) (slot x H.fields i j) in
          second.contents i j (live-there i j live) p (omega (arith, there, some)) ∙ elim (second.raw_entries i j (live-there i j live)) [
            | inl file ↦ guest_unchanged.shows.contents i j live p (subst (λ (n : Mapping). 0 < of_mapping m.header.fields (touches p 1) n) file some)
            | inr memory ↦ kept-there i j live p (subst (λ (n : Mapping). 0 < of_mapping m.header.fields (touches p 1) n) (memory ∙ guest_unchanged.raw_entries i j live) some)
          ];
    }

  module _ (sound : IsSound m) (sound1 : IsSound m1) where
    -- L2 entries reference a cluster outside the structure as often as before.
    pub contents-then : (c : ℕ) → contents (in_memory m1) m1.header.fields (of_mapping m1.header.fields (meets m1.header.fields c)) ≡ contents (in_memory m) m.header.fields (of_mapping m.header.fields (meets m.header.fields c))
    contents-then c =
        subst (λ (K : Header). ((i : ℕ) → l2_table (in_memory m1) K.fields i ≡ l2_table (in_memory m) m.header.fields i)
        → ((i j : ℕ) → Live (l2_table (in_memory m) m.header.fields) m.header.fields i j → slot (in_memory m1) K.fields i j ≡ slot (in_memory m) m.header.fields i j)
        → contents (in_memory m1) K.fields (of_mapping K.fields (meets K.fields c)) ≡ contents (in_memory m) m.header.fields (of_mapping m.header.fields (meets m.header.fields c)))
        (sym guest_unchanged.shows.moved.2) (contents-moved (in_memory m) (in_memory m1) m.header.fields guest_unchanged.shows.moved.0 guest_unchanged.shows.moved.1 c)
        (λ i. places1.l1 i ∙ guest_unchanged.shows.tables i ∙ sym (places.l1 i))
        (λ i j live. guest_unchanged.raw_entries i j (record { in_l1 = live.in_l1; is_there = (λ none. live.is_there (places.l1 i ∙ none)); in_table = live.in_table }))
      where
        places : SamePlaces m.file (in_memory m) m.header.fields
        places = places-in-memory m.file m.header sound.well_formed.consistent m.cached sound.well_formed.tables sound.well_formed.blocks

        places1 : SamePlaces m1.file (in_memory m1) m1.header.fields
        places1 = places-in-memory m1.file m1.header sound1.well_formed.consistent m1.cached sound1.well_formed.tables sound1.well_formed.blocks

    references-then : (c : ℕ) → structure m.file m.header.fields (meets m.header.fields c) ≡ 0 → structure m1.file m1.header.fields (meets m1.header.fields c) ≡ 0 → referenced m1 c ≡ referenced m c
    unfolding refs
    references-then c none none1 =
        let s = structure-in-memory m sound (meets m.header.fields c) in
        let s1 = structure-in-memory m1 sound1 (meets m1.header.fields c) in
        let same = contents-then c in
        omega (arith, none, none1, s, s1, same)

    -- With the same header and refcount table, tables and blocks are at the same offsets.
    places-stay : m1.header ≡ m.header → m1.table ≡ m.table → SamePlaces m.file m1.file m.header.fields
    places-stay same table = record {
      l1 = subst (λ (H : Header). (i : ℕ) → l2_table m1.file H.fields i ≡ l2_table m.file m.header.fields i) same guest_unchanged.shows.tables;
      blocks = λ i. elim (cases_lt i (refcount_table_entries m.header.fields)) [
        | inl inside ↦ sym (named1 i inside) ∙ ap (λ (t : TableValue). block_offset (slice_index t.raw_entries i)) table ∙ sound.table.names i inside
        | inr past ↦ no-block m1.file i past ∙ sym (no-block m.file i past)
      ];
    }
      where
        named1 : (i : ℕ) → i < refcount_table_entries m.header.fields → block_offset (slice_index m1.table.raw_entries i) ≡ block_at m1.file m.header.fields i
        named1 = subst (λ (H : Header). (i : ℕ) → i < refcount_table_entries H.fields → block_offset (slice_index m1.table.raw_entries i) ≡ block_at m1.file H.fields i) same sound1.table.names

        no-block : (f : Bytes) (i : ℕ) → refcount_table_entries m.header.fields ≤ i → block_at f m.header.fields i ≡ 0
        no-block f i past = rw (le-ltb i (refcount_table_entries m.header.fields) past) refl

    pub references-stay : m1.header ≡ m.header → m1.table ≡ m.table → (c : ℕ) → referenced m1 c ≡ referenced m c
    unfolding refs
    references-stay same table c =
        let s = structure-in-memory m sound (meets m.header.fields c) in
        let s1 = structure-in-memory m1 sound1 (meets m1.header.fields c) in
        let stands : structure m1.file m1.header.fields (meets m1.header.fields c) ≡ structure m.file m.header.fields (meets m.header.fields c) =
        subst (λ (H : Header). structure m1.file H.fields (meets H.fields c) ≡ structure m.file m.header.fields (meets m.header.fields c)) (sym same) (structure-same m.file m1.file m.header.fields (places-stay same table) (meets m.header.fields c)) in
        let contained = contents-then c in
        omega (arith, s, s1, stands, contained)

    -- Without an allocation or a new entry of the free list, no refcount rises.
    pub fewer-counted : m1.header ≡ m.header → m1.table ≡ m.table → ((c : ℕ) → handed c ≡ 0) → ((c : ℕ) → waiting m1 c ≤ waiting m c) → (c : ℕ) → counted m1 c ≤ counted m c
    fewer-counted same table none less c =
        let references = references-stay same table c in
        let law = guest_unchanged.law c in
        let zero = none c in
        let le = less c in
        omega (arith, references, law, zero, le)

    -- A used cluster that wasn't taken is still used.
    pub used-then : (c : ℕ) → IsUsed m c → taken c ≡ 0 → IsUsed m1 c
    used-then c used none = record {
      apart = guest_unchanged.apart c used none;
      taken = let same = references-then c used.apart (guest_unchanged.apart c used none) in let law = guest_unchanged.law c in omega (arith, same, law, used.taken, none);
    }

-- Allocated and taken clusters add up.
pub quiet-then : (m m1 m2 : Metadata) (h1 t1 h2 t2 : ℕ → ℕ) → IsSound m → IsSound m1 → ((c : ℕ) → 0 < referenced m c → t1 c ≡ 0) → GuestUnchanged h1 t1 m m1 → GuestUnchanged h2 t2 m1 m2
    → GuestUnchanged (λ c. h1 c + h2 c) (λ c. t1 c + t2 c) m m2
quiet-then m m1 m2 h1 t1 h2 t2 sound sound1 named_kept first second = record {
  shows = shows-then m m1 h1 t1 first sound named_kept m2.file m2.header second.shows;
  raw_entries = λ i j live. second.raw_entries i j (live-there m m1 h1 t1 first i j live) ∙ first.raw_entries i j live;
  used_bytes_unchanged = λ c used none.
      let used1 = used-then m m1 h1 t1 first sound sound1 c used (omega (arith, none)) in
      let same : Same m1.file m2.file (c * cluster_size m.header.fields) (cluster_size m.header.fields) =
      subst (λ n. Same m1.file m2.file (c * n) n) (size m m1 h1 t1 first) (second.used_bytes_unchanged c used1 (omega (arith, none))) in
      λ k lt. same k lt ∙ first.used_bytes_unchanged c used (omega (arith, none)) k lt;
  apart = λ c used none. second.apart c (used-then m m1 h1 t1 first sound sound1 c used (omega (arith, none))) (omega (arith, none));
  waits = λ c used none.
      let before = first.waits c used (omega (arith, none)) in
      let behind = second.waits c (used-then m m1 h1 t1 first sound sound1 c used (omega (arith, none))) (omega (arith, none)) in
      omega (arith, before, behind);
  law = λ c. let one = first.law c in let two = second.law c in omega (arith, one, two);
}

-- The allocated and taken clusters may be exchanged for others with the same balance.
pub quiet-otherwise : (m m' : Metadata) (handed taken h t : ℕ → ℕ) → ((c : ℕ) → handed c + t c ≡ h c + taken c) → ((c : ℕ) → IsUsed m c → t c ≡ 0 → taken c ≡ 0) → GuestUnchanged handed taken m m' → GuestUnchanged h t m m'
quiet-otherwise m m' handed taken h t same kept guest_unchanged = record {
  shows = guest_unchanged.shows;
  raw_entries = guest_unchanged.raw_entries;
  used_bytes_unchanged = λ c used none. guest_unchanged.used_bytes_unchanged c used (kept c used none);
  apart = λ c used none. guest_unchanged.apart c used (kept c used none);
  waits = λ c used none. guest_unchanged.waits c used (kept c used none);
  law = λ c. let law = guest_unchanged.law c in omega (arith, law, same c);
}

-- Clusters that are first allocated and then taken cancel out, if they weren't used before.
pub quiet-cancel : (m m' : Metadata) (h t k : ℕ → ℕ) → ((c : ℕ) → IsUsed m c → k c ≡ 0) → GuestUnchanged (λ c. h c + k c) (λ c. t c + k c) m m' → GuestUnchanged h t m m'
quiet-cancel m m' h t k unused guest_unchanged =
    quiet-otherwise m m' (λ c. h c + k c) (λ c. t c + k c) h t (λ c. omega arith) (λ c used none. let free = unused c used in omega (arith, none, free)) guest_unchanged

-- Two calls, where the first one met its success condition.
pub quietly-then : (ok1 ok2 : Type 0) (h1 t1 h2 t2 : ℕ → ℕ) (s : StorageState) (m : Metadata) (s1 : StorageState) (m1 : Metadata) (s2 : StorageState) (m2 : Metadata) → ok1 → (IsSound m → (c : ℕ) → 0 < referenced m c → t1 c ≡ 0)
    → PreservesGuest ok1 h1 t1 s m s1 m1 → PreservesGuest ok2 h2 t2 s1 m1 s2 m2 → PreservesGuest ok2 (λ c. h1 c + h2 c) (λ c. t1 c + t2 c) s m s2 m2
quietly-then ok1 ok2 h1 t1 h2 t2 s m s1 m1 s2 m2 done named_kept first second = record {
  shape = second.shape ∙ first.shape;
  counts_not_fallen = later_both s s1 s2 first.counts_not_fallen second.counts_not_fallen;
  passes = λ keeps sound no_change_refused.
      let calm-first : HasRisen s.refusals s1.refusals → ⊥ = λ r. no_change_refused (rose_before s.refusals s1.refusals s2.refusals r second.counts_not_fallen.refusals) in
      let calm-second : HasRisen s1.refusals s2.refusals → ⊥ = λ r. no_change_refused (rose_behind s.refusals s1.refusals s2.refusals first.counts_not_fallen.refusals r) in
      let mid = first.holds keeps sound done in
      let one = first.passes keeps sound calm-first in
      let two = second.passes (keeps_on s s1 first.shape keeps) mid.0 calm-second in (
        λ same. two.0 (one.0 same),
        stops_both (λ x. (H : Header) × ShowsEither m (bytes_of x) H) (λ x. (H : Header) × ShowsEither m1 (bytes_of x) H) (λ x. (H : Header) × ShowsEither m (bytes_of x) H) s s1 s2 first.shape one.0
            (λ _ x shows. shows) (λ _ x shows. (shows.0, shows-then m m1 h1 t1 mid.1 sound (named_kept sound) (bytes_of x) shows.0 shows.1)) one.1 two.1,
      );
  holds = λ keeps sound done2.
      let mid = first.holds keeps sound done in
      let last = second.holds (keeps_on s s1 first.shape keeps) mid.0 done2 in
      (last.0, quiet-then m m1 m2 h1 t1 h2 t2 sound mid.0 (named_kept sound) mid.1 last.1);
}

-- `NoChangeRefused` over both calls gives it for the second.
pub calm-behind : (ok : Type 0) (handed taken : ℕ → ℕ) (s : StorageState) (m : Metadata) (s1 : StorageState) (m1 : Metadata) (s2 : StorageState) → IsTrue s.shape.keeps → IsSound m → PreservesGuest ok handed taken s m s1 m1 → CountsNotFallen s1 s2 → NoChangeRefused s s2 → NoChangeRefused s1 s2
calm-behind ok handed taken s m s1 m1 s2 keeps sound first later no_change_refused = record {
  no_change_refused = λ r. no_change_refused.no_change_refused (rose_behind s.refusals s1.refusals s2.refusals first.counts_not_fallen.refusals r);
  crash_image_is_bytes = (first.passes keeps sound (λ r. no_change_refused.no_change_refused (rose_before s.refusals s1.refusals s2.refusals r later.refusals))).0 no_change_refused.crash_image_is_bytes;
  tells = subst (λ (a : Shape). IsTrue a.tells) (sym first.shape) no_change_refused.tells;
}

-- The second call may also fail, if no change was refused.
pub calmly-then : (ok1 ok2 : Type 0) (h1 t1 h2 t2 : ℕ → ℕ) (s : StorageState) (m : Metadata) (s1 : StorageState) (m1 : Metadata) (s2 : StorageState) (m2 : Metadata) → ok1 → (IsSound m → (c : ℕ) → 0 < referenced m c → t1 c ≡ 0)
    → PreservesGuest ok1 h1 t1 s m s1 m1 → PreservesGuest (ok2 ⊎ NoChangeRefused s1 s2) h2 t2 s1 m1 s2 m2 → PreservesGuest (ok2 ⊎ NoChangeRefused s s2) (λ c. h1 c + h2 c) (λ c. t1 c + t2 c) s m s2 m2
calmly-then ok1 ok2 h1 t1 h2 t2 s m s1 m1 s2 m2 done named_kept first second =
    let both = quietly-then ok1 (ok2 ⊎ NoChangeRefused s1 s2) h1 t1 h2 t2 s m s1 m1 s2 m2 done named_kept first second in
    record {
      shape = both.shape;
      counts_not_fallen = both.counts_not_fallen;
      passes = both.passes;
      holds = λ keeps sound why. both.holds keeps sound (elim why [ inl whole ↦ inl whole | inr no_change_refused ↦ inr (calm-behind ok1 h1 t1 s m s1 m1 s2 keeps sound first second.counts_not_fallen no_change_refused) ]);
    }

-- Like `quiet-otherwise`, for calls.
pub quietly-otherwise : (ok : Type 0) (handed taken h t : ℕ → ℕ) (s : StorageState) (m : Metadata) (s' : StorageState) (m' : Metadata) → (IsSound m → (c : ℕ) → handed c + t c ≡ h c + taken c) → (IsSound m → (c : ℕ) → IsUsed m c → t c ≡ 0 → taken c ≡ 0)
    → PreservesGuest ok handed taken s m s' m' → PreservesGuest ok h t s m s' m'
quietly-otherwise ok handed taken h t s m s' m' same kept quietly = record {
  shape = quietly.shape;
  counts_not_fallen = quietly.counts_not_fallen;
  passes = quietly.passes;
  holds = λ keeps sound done. let both = quietly.holds keeps sound done in (both.0, quiet-otherwise m m' handed taken h t (same sound) (kept sound) both.1);
}
