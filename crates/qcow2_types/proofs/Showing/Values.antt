-- The values that the guest reads from files with the same header, by the mappings of its clusters.
use Rattle.std.proofs.Common.{◌≡◌, ℕ, ◌+◌, ◌*◌, ◌/◌, ◌%◌, ◌<◌, refl, arith, ap, ◌∙◌, inl, inr}
use Rattle.std.specs.Prelude.{Bool, true, false, cond, ◌||◌, ◌==◌, nat_lt, if◌then◌else◌, ◌⊎◌, IsTrue}
use Rattle.std.proofs.lemmas.Bool.{cases_lt, le-ltb}
use Rattle.std.proofs.lemmas.Bool.Decides.{nat_tests}
use Rattle.std.proofs.lemmas.Nat.{mod_below, pow_pos}
use Rattle.qcow2_types.specs.Bytes.{Bytes, all_below}
use Rattle.qcow2_types.specs.Words.{Mapping, data_at, zeroes, packed, unmapped, damaged, mapping_without_copied}
use Rattle.qcow2_types.specs.Header.{Fields, cluster_size, entries_of_cluster, has_external_data}
use Rattle.qcow2_types.specs.Entries.{entry, l2_table, l2_table_sound, l1_table_sound}
use Rattle.qcow2_types.specs.Disk.{shown_by, host_byte, shown}
use Rattle.imago_storage.specs.Disk.{Value, byte}
use Rattle.qcow2_types.specs.Consistency.{tables_sound}
use Rattle.qcow2_types.proofs.Counting.Bounded.{all-below}
use Rattle.qcow2_types.specs.Frames.{Same, ShowsAs}
use Rattle.qcow2_types.specs.Slots.{guest_slot}

-- the COPIED flag doesn't affect the value
pub unmarked-value : (m : Mapping) (host : ℕ → Value) (below : Value) → shown_by m host below ≡ shown_by (mapping_without_copied m) host below
unmarked-value (data_at n copied) host below = refl
unmarked-value (zeroes n copied) host below = refl
unmarked-value (packed offset length) host below = refl
unmarked-value unmapped host below = refl
unmarked-value damaged host below = refl

-- the value of one mapping is the same if its data cluster keeps its bytes
pub same-value : (x f e : Bytes) (h : Fields) (p : ℕ) (below : Value) (m : Mapping) → ((n : ℕ) (copied : Bool) → m ≡ data_at n copied → Same f x (n * cluster_size h) (cluster_size h))
    → shown_by m (host_byte x e h p) below ≡ shown_by m (host_byte f e h p) below
same-value x f e h p below (data_at n copied) same =
    let inside : p % cluster_size h < cluster_size h = mod_below p (cluster_size h) (pow_pos h.cluster_bits) in
    pick (has_external_data h) (same n copied refl (p % cluster_size h) inside)
  where
    pick : (b : Bool) → x (n * cluster_size h + p % cluster_size h) ≡ f (n * cluster_size h + p % cluster_size h)
        → byte ((if b then e else x) (n * cluster_size h + p % cluster_size h)) ≡ byte ((if b then e else f) (n * cluster_size h + p % cluster_size h))
    pick true e' = refl
    pick false e' = ap byte e'
same-value x f e h p below (zeroes n copied) same = refl
same-value x f e h p below (packed offset length) same = refl
same-value x f e h p below unmapped same = refl
same-value x f e h p below damaged same = refl

-- If a guest cluster reads the same, so does each of its bytes.
pub value-same : (x f external : Bytes) (h : Fields) (p : ℕ) (below : Value) → ShowsAs x f h (p / cluster_size h) → shown x external h p below ≡ shown f external h p below
value-same x f external h p below like =
    same-value x f external h p below (entry x h (p / cluster_size h)) like.bytes
    ∙ ap (λ m. shown_by m (host_byte f external h p) below) like.mapping

-- Each guest byte of a file between two versions reads as in one of them.
pub value-either : (x f g external : Bytes) (h : Fields) → ((guest : ℕ) → ShowsAs x f h guest ⊎ ShowsAs x g h guest) → (p : ℕ) (below : Value)
    → (shown x external h p below ≡ shown f external h p below) ⊎ (shown x external h p below ≡ shown g external h p below)
value-either x f g external h like p below = elim (like (p / cluster_size h)) [
  | inl a ↦ inl (value-same x f external h p below a)
  | inr a ↦ inr (value-same x g external h p below a)
]

-- If no table is damaged, a mapping depends on one L2 entry only.
pub entry-slot : (f : Bytes) (h : Fields) (guest : ℕ) → IsTrue (tables_sound f h) → entry f h guest ≡ guest_slot f h guest
unfolding entry tables_sound
entry-slot f h guest sound =
    let i : ℕ = guest / entries_of_cluster h in
    let l1 : l1_table_sound f h ≡ true = grind (arith, nat_tests) in
    let all : all_below h.l1_entries (λ k. (l2_table f h k == 0) || l2_table_sound f h (l2_table f h k)) ≡ true = grind (arith, nat_tests) in
    elim (cases_lt i h.l1_entries) [
      | inl lt ↦
          let here : ((l2_table f h i == 0) || l2_table_sound f h (l2_table f h i)) ≡ true = all-below h.l1_entries (λ k. (l2_table f h k == 0) || l2_table_sound f h (l2_table f h k)) all i lt in
          rw l1 (through (l2_table f h i == 0) (l2_table_sound f h (l2_table f h i)) _ here)
      | inr le ↦ let past : nat_lt i h.l1_entries ≡ false = le-ltb _ _ le in rw (l1, past) refl
    ]
  where
    through : (a b : Bool) (m : Mapping) → (a || b) ≡ true → cond a unmapped (cond b m damaged) ≡ cond a unmapped m
    through true b m e = refl
    through false true m e = refl
    through false false m e = cc
