-- A guest cluster reads as before if a write doesn't touch its host cluster.
use Rattle.std.proofs.Common.{◌≡◌, ◌≢◌, ℕ, ◌+◌, ◌*◌, ◌/◌, ◌%◌, ◌<◌, ◌≤◌, refl, arith, ap, sym, ◌∙◌, inl, inr}
use Rattle.std.specs.Prelude.{Bool, false, ◌==◌, nat_lt, IsTrue, if◌then◌else◌}
use Rattle.std.proofs.lemmas.Bool.{cases_eq, cases_lt, le-ltb}
use Rattle.std.proofs.lemmas.Bool.Decides.{nat_tests}
use Rattle.std.proofs.lemmas.Nat.{mod_below}
use Rattle.qcow2_types.specs.Bytes.{Bytes}
use Rattle.qcow2_types.specs.Words.{Mapping, data_at, unmapped, mapping_without_copied}
use Rattle.qcow2_types.specs.Header.{Fields, cluster_size, entries_of_cluster}
use Rattle.qcow2_types.specs.Entries.{entry, l2_table}
use Rattle.imago_storage.specs.Disk.{Value}
use Rattle.qcow2_types.specs.Disk.{shown, shown_by, host_byte}
use Rattle.qcow2_types.specs.Slots.{slot, Live, over_slots, guest_slot}
use Rattle.qcow2_types.specs.Frames.{Same, Outside, ShowsAs}
use Rattle.qcow2_types.specs.Versions.{KeepsSlots}
use Rattle.qcow2_types.specs.References.{contents, of_mapping, meets}
use Rattle.qcow2_types.specs.Consistency.{tables_sound}
use Rattle.qcow2_types.proofs.Counting.Slots.{contents-slots, slot-le}
use Rattle.qcow2_types.proofs.Showing.Values.{entry-slot, same-value, unmarked-value}
use Rattle.qcow2_types.proofs.Changes.DataWrites.{data-apart}

-- only an entry inside the L1 table references a table
pub table-inside : (f : Bytes) (h : Fields) (i : ℕ) → l2_table f h i ≢ 0 → i < h.l1_entries
table-inside f h i there = elim (cases_lt i h.l1_entries) [
  | inl lt ↦ lt
  | inr le ↦ let past : nat_lt i h.l1_entries ≡ false = le-ltb _ _ le in absurd (there (rw past refl))
]

choose-there : (t : ℕ) (a b : Mapping) → t ≢ 0 → (if t == 0 then a else b) ≡ b
choose-there t a b there = grind (arith, nat_tests)

-- the L2 entry of a guest cluster, with an L2 table and without
pub guest-slot-there : (f : Bytes) (h : Fields) (guest : ℕ) → l2_table f h (guest / entries_of_cluster h) ≢ 0 → guest_slot f h guest ≡ slot f h (guest / entries_of_cluster h) (guest % entries_of_cluster h)
guest-slot-there f h guest there = choose-there (l2_table f h (guest / entries_of_cluster h)) unmapped _ there

pub guest-slot-none : (f : Bytes) (h : Fields) (guest : ℕ) → l2_table f h (guest / entries_of_cluster h) ≡ 0 → guest_slot f h guest ≡ unmapped
guest-slot-none f h guest none = rw none refl

-- the L2 entry of a guest cluster exists if its table does
pub guest-live : (f : Bytes) (h : Fields) (guest : ℕ) → 0 < entries_of_cluster h → l2_table f h (guest / entries_of_cluster h) ≢ 0 → Live (l2_table f h) h (guest / entries_of_cluster h) (guest % entries_of_cluster h)
guest-live f h guest some there = record { in_l1 = table-inside f h (guest / entries_of_cluster h) there; is_there = there; in_table = mod_below guest (entries_of_cluster h) some }

-- if all L2 entries are the same, so are the mappings of guest clusters
pub guest-kept : (f x : Bytes) (h : Fields) → KeepsSlots f x h → 0 < entries_of_cluster h → (guest : ℕ) → guest_slot x h guest ≡ guest_slot f h guest
guest-kept f x h keeps some guest = elim (cases_eq (l2_table f h (guest / entries_of_cluster h)) 0) [
  | inl e ↦ guest-slot-none x h guest (keeps.places.l1 (guest / entries_of_cluster h) ∙ e) ∙ sym (guest-slot-none f h guest e)
  | inr there ↦
      guest-slot-there x h guest (λ e. there (sym (keeps.places.l1 (guest / entries_of_cluster h)) ∙ e))
      ∙ (keeps.slots (guest / entries_of_cluster h) (guest % entries_of_cluster h) (guest-live f h guest some there) ∙ sym (guest-slot-there f h guest there))
]

-- The write is inside a cluster that no mapping references.
module _ (f x : Bytes) (h : Fields) (sound : IsTrue (tables_sound f h)) (some : 0 < entries_of_cluster h) (c at n : ℕ) (out : Outside f x at n) (low : c * cluster_size h ≤ at) (high : at + n ≤ (c + 1) * cluster_size h)
    (none : contents f h (of_mapping h (meets h c)) ≡ 0) where
  -- the data cluster of a guest cluster keeps its bytes
  data-kept : (guest d : ℕ) (copied : Bool) → entry f h guest ≡ data_at d copied → Same f x (d * cluster_size h) (cluster_size h)
  data-kept guest d copied is = elim (cases_eq (l2_table f h (guest / entries_of_cluster h)) 0) [
    | inl empty ↦ let bad : unmapped ≡ data_at d copied = sym (guest-slot-none f h guest empty) ∙ (sym (entry-slot f h guest sound) ∙ is) in absurd cc
    | inr there ↦
        let live : Live (l2_table f h) h (guest / entries_of_cluster h) (guest % entries_of_cluster h) = guest-live f h guest some there in
        let all : over_slots (l2_table f h) h (λ i j. of_mapping h (meets h c) (slot f h i j)) ≡ 0 = sym (contents-slots f h (of_mapping h (meets h c))) ∙ none in
        let one : of_mapping h (meets h c) (slot f h (guest / entries_of_cluster h) (guest % entries_of_cluster h)) ≤ over_slots (l2_table f h) h (λ i j. of_mapping h (meets h c) (slot f h i j)) =
        slot-le (l2_table f h) h (λ i j. of_mapping h (meets h c) (slot f h i j)) (guest / entries_of_cluster h) (guest % entries_of_cluster h) live in
        data-apart f x h c at n out low high (slot f h (guest / entries_of_cluster h) (guest % entries_of_cluster h)) (omega arith) d copied (sym (guest-slot-there f h guest there) ∙ (sym (entry-slot f h guest sound) ∙ is))
  ]

  -- A guest byte with the same mapping, apart from the COPIED flag, reads as before.
  pub values-kept : (external : Bytes) (p : ℕ) (below : Value) → mapping_without_copied (entry x h (p / cluster_size h)) ≡ mapping_without_copied (entry f h (p / cluster_size h)) → shown x external h p below ≡ shown f external h p below
  values-kept external p below same =
      unmarked-value (entry x h (p / cluster_size h)) (host_byte x external h p) below
      ∙ (ap (λ m. shown_by m (host_byte x external h p) below) same
      ∙ (sym (unmarked-value (entry f h (p / cluster_size h)) (host_byte x external h p) below)
      ∙ same-value x f external h p below (entry f h (p / cluster_size h)) (data-kept (p / cluster_size h))))

module _ (f x : Bytes) (h : Fields) (sound : IsTrue (tables_sound f h)) (sound' : IsTrue (tables_sound x h)) (some : 0 < entries_of_cluster h)
    (guest : ℕ) (same : guest_slot x h guest ≡ guest_slot f h guest) where
  -- the same L2 entry gives the same mapping
  pub entries-same : entry x h guest ≡ entry f h guest
  entries-same = entry-slot x h guest sound' ∙ (same ∙ sym (entry-slot f h guest sound))

  -- a guest cluster reads as before if its data cluster keeps its bytes
  pub shows-by : (Live (l2_table f h) h (guest / entries_of_cluster h) (guest % entries_of_cluster h) → (d : ℕ) (copied : Bool) → slot f h (guest / entries_of_cluster h) (guest % entries_of_cluster h) ≡ data_at d copied → Same f x (d * cluster_size h) (cluster_size h))
      → ShowsAs x f h guest
  shows-by bytes = record {
    mapping = entries-same;
    bytes = λ d copied e. elim (cases_eq (l2_table f h (guest / entries_of_cluster h)) 0) [
      | inl none ↦ let bad : unmapped ≡ data_at d copied = sym (guest-slot-none f h guest none) ∙ (sym (entry-slot f h guest sound) ∙ (sym entries-same ∙ e)) in absurd cc
      | inr there ↦ bytes (guest-live f h guest some there) d copied (sym (guest-slot-there f h guest there) ∙ (sym (entry-slot f h guest sound) ∙ (sym entries-same ∙ e)))
    ];
  }

  -- so it does if the write is inside a cluster that no mapping references
  pub shows-outside : (c at n : ℕ) → Outside f x at n → c * cluster_size h ≤ at → at + n ≤ (c + 1) * cluster_size h → contents f h (of_mapping h (meets h c)) ≡ 0 → ShowsAs x f h guest
  shows-outside c at n out low high none = record { mapping = entries-same; bytes = λ d copied e. data-kept f x h sound some c at n out low high none guest d copied (sym entries-same ∙ e) }
