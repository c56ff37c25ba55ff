-- A table is replaced: an L1 entry is set to another table, or the header is switched.
use Rattle.std.proofs.Common.{◌≡◌, ◌≢◌, ℕ, zero, suc, ◌+◌, ◌*◌, ◌^◌, ◌<◌, ◌≤◌, refl, arith, ap, sym, ◌∙◌, inl, inr}
use Rattle.std.specs.Prelude.{◌/◌, false, nat_lt, IsTrue}
use Rattle.imago_storage.specs.Disk.{Value}
use Rattle.std.proofs.lemmas.Bool.{cases_eq, le-ltb}
use Rattle.qcow2_types.specs.Bytes.{Bytes, raw_entry, sum_below}
use Rattle.qcow2_types.specs.Words.{Mapping, mapping_of}
use Rattle.std.proofs.Math.Nat.{pow-le-pow_right}
use Rattle.qcow2_types.specs.Header.{Fields, Header, Shaped, cluster_size, entries_of_cluster, refcount_table_entries, layout_of}
use Rattle.qcow2_types.specs.Entries.{entry, l2_table, l2_mapping}
use Rattle.qcow2_types.specs.Disk.{shown, shown_by, host_byte}
use Rattle.qcow2_types.specs.Counts.{block_at}
use Rattle.qcow2_types.specs.References.{Weight, structure, contents, of_cluster, of_mapping, meets, refs}
use Rattle.qcow2_types.specs.Consistency.{IsConsistent, tables_sound}
use Rattle.qcow2_types.specs.Frames.{Same, Outside, touches, SameStructureOutside, ShowsAs, first_cluster}
use Rattle.qcow2_types.proofs.Counting.Consistent.{some-words, consistent-shaped, structure-unmapped, meets-own}
use Rattle.qcow2_types.proofs.Changes.DataSteps.{free-stays, data-stays, kept-keeps, kept-sound}
use Rattle.qcow2_types.proofs.Changes.Frames.{header-part}
use Rattle.qcow2_types.proofs.Counting.Named.{structure-le-refs}
use Rattle.qcow2_types.proofs.Counting.Parts.{kept-start, touches-once}
use Rattle.qcow2_types.proofs.Showing.Shows.{guest-kept, shows-outside}
use Rattle.qcow2_types.proofs.Counting.Sound.{words-sound}
use Rattle.qcow2_types.proofs.Showing.Values.{value-same}
use Rattle.qcow2_types.proofs.Numbers.Sums.{sum-same, sum-change}
use Rattle.qcow2_types.specs.Slots.{slot, Live, over_slots, or_none, guest_slot}
use Rattle.qcow2_types.specs.Versions.{references_in_either, of_either}
use Rattle.qcow2_types.specs.Switched.{with_l1}

module _ (f : Bytes) (H : Header) (was : IsConsistent f H) where
  pub cluster-long : 512 ≤ cluster_size H.fields
  cluster-long = let shaped : Shaped H.fields = consistent-shaped f H was in let low : 2 ^ 9 ≤ 2 ^ H.fields.cluster_bits = pow-le-pow_right (omega arith) shaped.low in omega arith

  -- the header fills the first cluster, so that cluster is referenced
  pub first-weighs : 1 ≤ structure f H.fields (meets H.fields 0)
  first-weighs =
      let own : meets H.fields 0 (0 * cluster_size H.fields) (cluster_size H.fields) ≡ 1 = meets-own H.fields 0 in
      let zeroth : 0 * cluster_size H.fields ≡ 0 = omega arith in
      let own' : meets H.fields 0 0 (cluster_size H.fields) ≡ 1 = ap (λ p. meets H.fields 0 p (cluster_size H.fields)) (sym zeroth) ∙ own in
      let part : meets H.fields 0 0 (cluster_size H.fields) ≤ structure f H.fields (meets H.fields 0) = header-part f H.fields (meets H.fields 0) in
      omega arith

  pub first-named : 1 ≤ refs f H.fields 0
  first-named =
      let some : 1 ≤ structure f H.fields (meets H.fields 0) = first-weighs in
      let all : structure f H.fields (meets H.fields 0) ≤ refs f H.fields 0 = structure-le-refs f H.fields 0 in
      omega arith

-- If the first 64 bytes of a header change, the structure outside the header is the same.
pub start-kept : (f g : Bytes) (H : Header) → IsConsistent f H → Outside f g 0 64 → SameStructureOutside f g H.fields first_cluster
start-kept f g H was out =
    let s : 512 ≤ cluster_size H.fields = cluster-long f H was in
    let once : structure f H.fields (touches 0 64) ≤ 1 = touches-once f H.fields 0 0 64 (was.structure_apart 0) (omega arith) (omega arith) in
    kept-start f g H.fields 0 64 out (omega arith) once (omega arith)

-- Clusters that nothing references keep their bytes, and so do clusters that L2 entries reference.
pub start-free : (f g : Bytes) (H : Header) → IsConsistent f H → Outside f g 0 64 → (c : ℕ) → refs f H.fields c ≡ 0 → Same f g (c * cluster_size H.fields) (cluster_size H.fields)
start-free f g H was out =
    let s : 512 ≤ cluster_size H.fields = cluster-long f H was in
    free-stays f g H 0 0 64 out (omega arith) (omega arith) (first-weighs f H was)

pub start-mapped : (f g : Bytes) (H : Header) → IsConsistent f H → Outside f g 0 64 → (c : ℕ) → 0 < contents f H.fields (of_mapping H.fields (meets H.fields c)) → Same f g (c * cluster_size H.fields) (cluster_size H.fields)
start-mapped f g H was out =
    let s : 512 ≤ cluster_size H.fields = cluster-long f H was in
    data-stays f g H was 0 0 64 out (omega arith) (omega arith) (first-weighs f H was)

-- Each guest cluster reads as before with the old fields.
pub start-shows : (f g : Bytes) (H : Header) → IsConsistent f H → Outside f g 0 64 → (guest : ℕ) → ShowsAs g f H.fields guest
start-shows f g H was out guest =
    let kept : SameStructureOutside f g H.fields first_cluster = start-kept f g H was out in
    let s : 512 ≤ cluster_size H.fields = cluster-long f H was in
    let some : 0 < entries_of_cluster H.fields = some-words H.fields (consistent-shaped f H was) in
    let sound : IsTrue (tables_sound g H.fields) = words-sound g H.fields (kept-sound f g H was first_cluster kept (λ i e. cc) (λ i e. cc) (λ i e. cc)) in
    let same : guest_slot g H.fields guest ≡ guest_slot f H.fields guest = guest-kept f g H.fields (kept-keeps f g H was first_cluster kept (λ i e. cc) (λ i e. cc) (λ i e. cc)) some guest in
    shows-outside f g H.fields was.readable.tables sound some guest same 0 0 64 out (omega arith) (omega arith) (structure-unmapped f H was 0 (first-weighs f H was))

-- and with other fields, if these give the same mappings
pub start-values : (f g : Bytes) (H : Header) (new : Fields) → IsConsistent f H → Outside f g 0 64 → new.cluster_bits ≡ H.fields.cluster_bits → new.incompatible ≡ H.fields.incompatible
    → ((guest : ℕ) → entry g new guest ≡ entry f H.fields guest) → (external : Bytes) (p : ℕ) (below : Value) → shown g external new p below ≡ shown f external H.fields p below
start-values f g H new was out size features entries external p below =
    let like : ShowsAs g f H.fields (p / cluster_size H.fields) = start-shows f g H was out (p / cluster_size H.fields) in
    let guest : p / cluster_size new ≡ p / cluster_size H.fields = ap (λ k. p / 2 ^ k) size in
    let mapping : entry g new (p / cluster_size new) ≡ entry g H.fields (p / cluster_size H.fields) = ap (entry g new) guest ∙ (entries (p / cluster_size H.fields) ∙ sym like.mapping) in
    let byte : host_byte g external new p ≡ host_byte g external H.fields p = rw (size, features) refl in
    ap (λ m. shown_by m (host_byte g external new p) below) mapping
    ∙ (ap (λ b. shown_by (entry g H.fields (p / cluster_size H.fields)) b below) byte ∙ value-same g f external H.fields p below like)

-- the weight of table i in both versions
row : Bytes → Bytes → Fields → ℕ → ℕ → ℕ
row f g h c i = or_none (l2_table f h i) (sum_below (entries_of_cluster h) (λ j. of_either h (meets h c) (slot f h i j) (slot g h i j)))

-- L1 entry i is set to another table with the mappings of the old one; everything else is the same.
pub record SwitchesTable (f g f' g' : Bytes) (h : Fields) (i c : ℕ) : Type 0 where
  pub in_l1 : i < h.l1_entries
  pub blocks : (k : ℕ) → block_at f' h k ≡ block_at f h k
  pub l1 : (k : ℕ) → k < h.l1_entries → k ≢ i → l2_table f' h k ≡ l2_table f h k
  pub rows : (k : ℕ) → k < h.l1_entries → or_none (l2_table f' h k) (sum_below (entries_of_cluster h) (λ j. of_either h (meets h c) (slot f' h k j) (slot g' h k j))) ≡ or_none (l2_table f h k) (sum_below (entries_of_cluster h) (λ j. of_either h (meets h c) (slot f h k j) (slot g h k j)))

-- the references change by the old table and the new one
pub table-switched : (f g f' g' : Bytes) (h : Fields) (i c : ℕ) → SwitchesTable f g f' g' h i c
    → references_in_either f' g' h c + of_cluster h (meets h c) (l2_table f h i) ≡ references_in_either f g h c + of_cluster h (meets h c) (l2_table f' h i)
unfolding references_in_either structure over_slots
table-switched f g f' g' h i c step =
    let w : Weight = meets h c in
    let blocks : sum_below (refcount_table_entries h) (λ k. of_cluster h (meets h c) (block_at f' h k)) ≡ sum_below (refcount_table_entries h) (λ k. of_cluster h (meets h c) (block_at f h k)) =
    sum-same _ _ _ (λ k lt. ap (of_cluster h (meets h c)) (step.blocks k)) in
    let tables : sum_below h.l1_entries (λ k. of_cluster h (meets h c) (l2_table f' h k)) + of_cluster h (meets h c) (l2_table f h i) ≡ sum_below h.l1_entries (λ k. of_cluster h (meets h c) (l2_table f h k)) + of_cluster h (meets h c) (l2_table f' h i) =
    sum-change _ i (λ k. of_cluster h (meets h c) (l2_table f' h k)) (λ k. of_cluster h (meets h c) (l2_table f h k)) step.in_l1 (λ k lt apart. ap (of_cluster h (meets h c)) (step.l1 k lt apart)) in
    let rows : sum_below h.l1_entries (λ k. or_none (l2_table f' h k) (sum_below (entries_of_cluster h) (λ j. of_either h (meets h c) (slot f' h k j) (slot g' h k j))))
    ≡ sum_below h.l1_entries (λ k. or_none (l2_table f h k) (sum_below (entries_of_cluster h) (λ j. of_either h (meets h c) (slot f h k j) (slot g h k j)))) =
    sum-same _ _ _ step.rows in
    omega arith

-- terms of 0 add nothing
pub sum-longer : (n k : ℕ) (f : ℕ → ℕ) → ((i : ℕ) → n ≤ i → f i ≡ 0) → sum_below (n + k) f ≡ sum_below n f
unfolding sum_below
sum-longer n zero f none = let same : n + 0 ≡ n = omega arith in ap (λ m. sum_below m f) same
sum-longer n (suc k) f none =
    let here : f (n + k) ≡ 0 = none (n + k) (omega arith) in
    let below : sum_below (n + k) f ≡ sum_below n f = sum-longer n k f none in
    let more : n + suc k ≡ suc (n + k) = omega arith in
    let step : sum_below (n + suc k) f ≡ f (n + k) + sum_below (n + k) f = ap (λ m. sum_below m f) more in
    omega arith

-- The entries of the new L1 table are those of the old one, followed by entries of 0.
pub l1-switched : (f g f' g' : Bytes) (h : Fields) (offset more c : ℕ)
    → ((i : ℕ) → block_at f' h i ≡ block_at f h i)
    → ((i : ℕ) → l2_table f' (with_l1 h offset (h.l1_entries + more)) i ≡ l2_table f h i)
    → ((i j : ℕ) → Live (l2_table f h) h i j → (raw_entry f' (l2_table f h i) j ≡ raw_entry f (l2_table f h i) j) × (slot g' (with_l1 h offset (h.l1_entries + more)) i j ≡ slot g h i j))
    → references_in_either f' g' (with_l1 h offset (h.l1_entries + more)) c + meets h c h.l1_offset (h.l1_entries * 8) ≡ references_in_either f g h c + meets h c offset ((h.l1_entries + more) * 8)
unfolding references_in_either structure over_slots
l1-switched f g f' g' h offset more c blocks l1 slots =
    let blocks' : sum_below (refcount_table_entries h) (λ k. of_cluster h (meets h c) (block_at f' h k)) ≡ sum_below (refcount_table_entries h) (λ k. of_cluster h (meets h c) (block_at f h k)) =
    sum-same _ _ _ (λ k lt. ap (of_cluster h (meets h c)) (blocks k)) in
    let t : ℕ → ℕ = l2_table f' (with_l1 h offset (h.l1_entries + more)) in
    let none : (i : ℕ) → h.l1_entries ≤ i → l2_table f h i ≡ 0 = (λ i le. let past : nat_lt i h.l1_entries ≡ false = le-ltb _ _ le in rw past refl) in
    let none' : (i : ℕ) → h.l1_entries ≤ i → l2_table f' (with_l1 h offset (h.l1_entries + more)) i ≡ 0 = (λ i le. l1 i ∙ none i le) in
    let tables : sum_below (h.l1_entries + more) (λ k. of_cluster h (meets h c) (l2_table f' (with_l1 h offset (h.l1_entries + more)) k)) ≡ sum_below h.l1_entries (λ k. of_cluster h (meets h c) (l2_table f h k)) =
    sum-longer h.l1_entries more _ (λ i le. rw (none' i le) refl) ∙ sum-same _ _ _ (λ k lt. ap (of_cluster h (meets h c)) (l1 k)) in
    let rows : sum_below (h.l1_entries + more) (λ k. or_none (l2_table f' (with_l1 h offset (h.l1_entries + more)) k) (sum_below (entries_of_cluster h) (λ j. of_either h (meets h c) (slot f' (with_l1 h offset (h.l1_entries + more)) k j) (slot g' (with_l1 h offset (h.l1_entries + more)) k j))))
    ≡ sum_below h.l1_entries (λ k. or_none (l2_table f h k) (sum_below (entries_of_cluster h) (λ j. of_either h (meets h c) (slot f h k j) (slot g h k j)))) =
    sum-longer h.l1_entries more _ (λ i le. rw (none' i le) refl)
    ∙ sum-same _ _ _ (λ k lt. elim (cases_eq (l2_table f h k) 0) [
      | inl e ↦ rw (l1 k, e) refl
      | inr there ↦
          ap (λ z. or_none z (sum_below (entries_of_cluster h) (λ j. of_either h (meets h c) (slot f' (with_l1 h offset (h.l1_entries + more)) k j) (slot g' (with_l1 h offset (h.l1_entries + more)) k j)))) (l1 k)
          ∙ ap (or_none (l2_table f h k)) (sum-same _ _ _ (λ j less.
          let live : Live (l2_table f h) h k j = record { in_l1 = lt; is_there = there; in_table = less } in
          let same : slot f' (with_l1 h offset (h.l1_entries + more)) k j ≡ slot f h k j =
          ap (λ z. l2_mapping f' h z j) (l1 k) ∙ ap (λ (v : ℕ). of_word h v) (slots k j live).0 in
          rw (same, (slots k j live).1) refl))
    ]) in
    omega arith
  where
    of_word : Fields → ℕ → Mapping
    of_word b v = mapping_of (layout_of b) v
