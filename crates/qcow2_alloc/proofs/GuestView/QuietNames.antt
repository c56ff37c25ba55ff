-- A call that leaves the guest, the header and the refcount table unchanged adds no reference.
use Rattle.std.proofs.Common.{◌≡◌, ℕ, ◌≤◌, arith, ap, sym, subst, ◌∙◌, inl, inr, false}
use Rattle.std.specs.Prelude.{◌⊎◌, nat_lt, slice_index}
use Rattle.std.proofs.lemmas.Bool.{cases_lt, le-ltb}
use Rattle.std.proofs.lemmas.List.{get_or_past}
use Rattle.qcow2_types.specs.Bytes.{Bytes}
use Rattle.qcow2_types.specs.Counts.{block_at}
use Rattle.qcow2_types.specs.Entries.{l2_table}
use Rattle.qcow2_types.specs.Header.{Fields, Header, refcount_table_entries}
use Rattle.qcow2_types.specs.References.{meets}
use Rattle.qcow2_types.specs.Slots.{slot, Live}
use Rattle.qcow2_types.specs.Versions.{references_in_either, of_either, IsBetween}
use Rattle.qcow2_types.specs.Words.{Mapping, block_offset}
use Rattle.qcow2_types.proofs.Counting.Either.{named-falls}
use Rattle.qcow2_types.proofs.Counting.Slots.{slots-same}
use Rattle.qcow2_metadata.specs.Tables.{TableValue}
use Rattle.qcow2_alloc.specs.GuestView.{Metadata, in_memory, referenced_at_all, IsSound, GuestUnchanged}

pub table-names : (m : Metadata) → IsSound m → (i : ℕ) → block_at m.file m.header.fields i ≡ block_offset (slice_index m.table.raw_entries i)
table-names m sound i = elim (cases_lt i (refcount_table_entries m.header.fields)) [
  | inl lt ↦ sym (sound.table.names i lt)
  | inr le ↦
      let past : nat_lt i (refcount_table_entries m.header.fields) ≡ false = le-ltb _ _ le in
      rw past (sym (ap block_offset (get_or_past m.table.raw_entries i 0 (omega (arith, le, sound.table.long)))))
]

words-same : (x y g : Bytes) (h : Fields) (c : ℕ) → ((i j : ℕ) → Live (l2_table x h) h i j → slot y h i j ≡ slot g h i j) → references_in_either x y h c ≡ references_in_either x g h c
unfolding references_in_either
words-same x y g h c same =
    let raw_entries = slots-same (l2_table x h) h (λ i j. of_either h (meets h c) (slot x h i j) (slot y h i j)) (λ i j. of_either h (meets h c) (slot x h i j) (slot g h i j))
    (λ i j live. ap (λ (n : Mapping). of_either h (meets h c) (slot x h i j) n) (same i j live)) in
    omega (arith, raw_entries)

words-fall : (f x g y : Bytes) (h : Fields) (c : ℕ) → IsBetween f x g h → ((i j : ℕ) → Live (l2_table f h) h i j → slot y h i j ≡ slot g h i j) → references_in_either x y h c ≤ references_in_either f g h c
words-fall f x g y h c between same =
    let falls = named-falls f x g h c between in
    let raw_entries = words-same x y g h c (λ i j live. same i j (record { in_l1 = live.in_l1; is_there = (λ none. live.is_there (between.places.l1 i ∙ none)); in_table = live.in_table })) in
    omega (arith, falls, raw_entries)

pub quiet-names : (m m1 : Metadata) (handed taken : ℕ → ℕ) → IsSound m → IsSound m1 → GuestUnchanged handed taken m m1 → m1.header ≡ m.header → m1.table ≡ m.table → (c : ℕ) → referenced_at_all m1 c ≤ referenced_at_all m c
quiet-names m m1 handed taken sound sound1 guest_unchanged header table c =
    subst (λ (H : Header). ((i : ℕ) → l2_table m1.file H.fields i ≡ l2_table m.file m.header.fields i) → ((i : ℕ) → block_at m1.file H.fields i ≡ block_at m.file m.header.fields i)
    → ((i j : ℕ) → Live (l2_table m.file m.header.fields) m.header.fields i j → (slot m1.file H.fields i j ≡ slot m.file m.header.fields i j) ⊎ (slot m1.file H.fields i j ≡ slot (in_memory m) m.header.fields i j))
    → ((i j : ℕ) → Live (l2_table m.file m.header.fields) m.header.fields i j → slot (in_memory m1) H.fields i j ≡ slot (in_memory m) m.header.fields i j)
    → references_in_either m1.file (in_memory m1) H.fields c ≤ references_in_either m.file (in_memory m) m.header.fields c) (sym header)
    (λ tables blocks raw_entries memory. words-fall m.file m1.file (in_memory m) (in_memory m1) m.header.fields c (record { places = record { l1 = tables; blocks = blocks }; slots = raw_entries }) memory)
    guest_unchanged.shows.tables
    (λ i. table-names m1 sound1 i ∙ ap (λ (t : TableValue). block_offset (slice_index t.raw_entries i)) table ∙ sym (table-names m sound i))
    guest_unchanged.shows.raw_entries
    guest_unchanged.raw_entries
