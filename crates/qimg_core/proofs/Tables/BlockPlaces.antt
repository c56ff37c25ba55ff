-- The offsets of the refcount blocks, if only the refcount table entries before the end of the file are loaded.
use Rattle.std.proofs.Common.{◌≡◌, ℕ, ◌+◌, ◌*◌, ◌/◌, ◌^◌, ◌<◌, ◌≤◌, refl, arith, ap, sym, ◌∙◌, List, [], ◌∷◌, ◌++◌, length, inl, inr}
use Rattle.std.specs.Prelude.{Bool, true, false, cond, ◌&&◌, nat_lt, slice_index, Ok, IsTrue}
use Rattle.std.proofs.lemmas.Bool.{cases_lt, le-ltb}
use Rattle.std.proofs.lemmas.Bool.Decides.{nat_tests}
use Rattle.std.proofs.lemmas.List.{get_or_past, get_or_push, get_or_append_left, length-append}
use Rattle.imago_storage.specs.State.{StorageState}
use Rattle.imago_storage.specs.declared.fault.Fault.{Fault}
use Rattle.imago_storage.specs.declared.fault.Fault.TheVariants.{Memory, Storage, Limit, DamagedTable}
use Rattle.qcow2_types.specs.Bytes.{Bytes, bytes_of, raw_entry}
use Rattle.qcow2_types.specs.Words.{max_offset, is_cluster_offset, block_offset, reftable_entry_valid}
use Rattle.qcow2_types.specs.Header.{Fields, Header, header_of, cluster_size, layout_of, refcount_table_entries, Limited}
use Rattle.qcow2_types.specs.Counts.{block_at, refcount_table_sound}
use Rattle.qcow2_types.specs.Entries.{l1_table_sound}
use Rattle.qcow2_types.specs.Consistency.{tables_sound}
use Rattle.qcow2_types.proofs.Counting.Bounded.{all-below}
use Rattle.qcow2_types.proofs.Fields.HeaderLimits.{header-limited}
use Rattle.qcow2_types.proofs.Counting.Sound.{all-below-holds}
use Rattle.qcow2_metadata.specs.Tables.{AreSound, HasUnsound, WhyNotLoaded, raw_entries_in, refcount_table_kind}
use Rattle.qcow2_metadata.proofs.TableFacts.{words_long, words_at}
use Rattle.qimg_core.specs.declared.check.CheckFault.TheVariants.{Table}
use Rattle.qcow2_metadata.specs.Loading.{file}
use Rattle.qcow2_types.proofs.Numbers.WordLemmas.{zero-place}
use Rattle.qimg_core.specs.Check.{IsUnsound, fault_of_load, Found}
use Rattle.qimg_core.specs.CheckParts.{IsBlocks}
use Rattle.qimg_core.proofs.Tables.FewerWords.{past-word}
use Rattle.qcow2_types.proofs.Changes.WriteBack.{place-whole, place-near}
use Rattle.qimg_core.proofs.Tables.Tests.{tests-miss}

blocks-damaged : (f : Bytes) (h : Fields) → refcount_table_sound f h ≡ false → tables_sound f h ≡ false
unfolding tables_sound
blocks-damaged f h broken = rw broken (either (l1_table_sound f h) _)
  where
    either : (a b : Bool) → (a && false && b) ≡ false
    either true b = refl
    either false b = refl

module _ (f : Bytes) (H : Header) (loads : header_of true f ≡ Ok H) (cluster : ℕ) (is : cluster ≡ H.fields.refcount_table_offset / 2 ^ H.fields.cluster_bits) where
  -- The refcount table is at an addressable cluster.
  pub blocks-place : (cluster * 2 ^ H.fields.cluster_bits ≡ H.fields.refcount_table_offset) × (cluster * 2 ^ H.fields.cluster_bits ≤ max_offset)
  blocks-place =
      let limited : Limited H.fields = header-limited true f H loads in
      let whole = place-whole H.fields.cluster_bits H.fields.refcount_table_offset limited.refcount_place in
      let near = place-near H.fields.cluster_bits H.fields.refcount_table_offset limited.refcount_place in
      let at : cluster * 2 ^ H.fields.cluster_bits ≡ H.fields.refcount_table_offset = ap (λ c. c * 2 ^ H.fields.cluster_bits) is ∙ whole in
      (at, omega (arith, near))

  -- Entry `i` of the refcount table is the loaded one.
  word-loaded : (n i : ℕ) → i < n → slice_index (raw_entries_in f (cluster * cluster_size H.fields) n) i ≡ raw_entry f H.fields.refcount_table_offset i
  word-loaded n i lt = words_at f _ _ i lt ∙ ap (λ p. raw_entry f p i) blocks-place.0

  pub block-loaded : (n i : ℕ) → n ≤ refcount_table_entries H.fields → i < n → block_at f H.fields i ≡ block_offset (slice_index (raw_entries_in f (cluster * cluster_size H.fields) n) i)
  block-loaded n i few lt =
      let inside : nat_lt i (refcount_table_entries H.fields) ≡ true = grind (arith, nat_tests) in
      ap (λ b. cond b (block_offset (raw_entry f H.fields.refcount_table_offset i)) 0) inside ∙ ap block_offset (sym (word-loaded n i lt))

  -- If a loaded entry is invalid, the refcount table is damaged.
  blocks-unsound : (n : ℕ) → n ≤ refcount_table_entries H.fields → HasUnsound refcount_table_kind (layout_of H.fields) (raw_entries_in f (cluster * cluster_size H.fields) n) → refcount_table_sound f H.fields ≡ false
  unfolding refcount_table_sound
  blocks-unsound n few unsound =
      let lt : unsound.0 < n = let inside = unsound.1 in omega (arith, inside, words_long f (cluster * cluster_size H.fields) n) in
      tests-miss (refcount_table_entries H.fields) unsound.0 (λ k. reftable_entry_valid H.fields.cluster_bits (raw_entry f H.fields.refcount_table_offset k)) (omega (arith, lt, few))
      (ap (reftable_entry_valid H.fields.cluster_bits) (sym (word-loaded n unsound.0 lt)) ∙ unsound.2)

-- If the refcount table isn't loaded because it is damaged, that is the finding.
pub blocks-finding : (old new : StorageState) (H : Header) → header_of true (file old) ≡ Ok H → (cluster n : ℕ) → cluster ≡ H.fields.refcount_table_offset / 2 ^ H.fields.cluster_bits → n ≤ refcount_table_entries H.fields → (fault : Fault)
    → WhyNotLoaded refcount_table_kind (layout_of H.fields) (raw_entries_in (file old) (cluster * cluster_size H.fields) n) old.faults new.faults fault → Found old new (IsUnsound (file old) H.fields) (fault_of_load Table fault)
blocks-finding old new H loads cluster n is few Memory why = why
blocks-finding old new H loads cluster n is few Storage why = why
blocks-finding old new H loads cluster n is few DamagedTable why = (blocks-damaged (file old) H.fields (blocks-unsound (file old) H loads cluster is n few why.0), why.1)
blocks-finding old new H loads cluster n is few (Limit m) why =
    let limited : Limited H.fields = header-limited true (file old) H loads in
    absurd (omega (arith, why.0, why.1, words_long (file old) (cluster * cluster_size H.fields) n, limited.refcount_entries, few))
blocks-finding old new H loads cluster n is few fault why = absurd why

-- All entries past the end of the file are 0. So the refcount table is valid if its first `n` entries are.
pub blocks-sound-by-first : (bytes : List ℕ) (H : Header) → header_of true (bytes_of bytes) ≡ Ok H → (cluster n : ℕ) → cluster ≡ H.fields.refcount_table_offset / 2 ^ H.fields.cluster_bits
    → AreSound refcount_table_kind (layout_of H.fields) (raw_entries_in (bytes_of bytes) (cluster * cluster_size H.fields) n) → ((i : ℕ) → n ≤ i → i < refcount_table_entries H.fields → length bytes ≤ H.fields.refcount_table_offset + 8 * i)
    → refcount_table_sound (bytes_of bytes) H.fields ≡ true
unfolding refcount_table_sound
blocks-sound-by-first bytes H loads cluster n is sound past = all-below-holds (refcount_table_entries H.fields) (λ i. reftable_entry_valid H.fields.cluster_bits (raw_entry (bytes_of bytes) H.fields.refcount_table_offset i)) (λ i lt. elim (cases_lt i n) [
  | inl less ↦
      let inside : i < length (raw_entries_in (bytes_of bytes) (cluster * cluster_size H.fields) n) = omega (arith, words_long (bytes_of bytes) (cluster * cluster_size H.fields) n, less) in
      ap (reftable_entry_valid H.fields.cluster_bits) (sym (word-loaded (bytes_of bytes) H loads cluster is n i less)) ∙ sound i inside
  | inr ge ↦ ap (reftable_entry_valid H.fields.cluster_bits) (past-word bytes H.fields.refcount_table_offset i (past i ge lt)) ∙ zero-place H.fields.cluster_bits
])

-- `blocks` are the offsets in the first `n` entries, with 0 for an empty entry.
pub record BlocksTo (f : Bytes) (h : Fields) (n : ℕ) (blocks : List ℕ) : Type 0 where
  pub long : length blocks ≡ n
  pub each : (i : ℕ) → i < n → slice_index blocks i ≡ block_at f h i

pub blocks-more : (f : Bytes) (h : Fields) (n place : ℕ) (before now : List ℕ) → BlocksTo f h n before → now ≡ before ++ place ∷ [] → block_at f h n ≡ place → BlocksTo f h (n + 1) now
blocks-more f h n place before now to is here = record {
  long = ap length is ∙ length-append before (place ∷ []) ∙ ap (λ k. k + 1) to.long;
  each = λ i lt. elim (cases_lt i n) [
    | inl less ↦ ap (λ items. slice_index items i) is ∙ get_or_append_left before (place ∷ []) 0 i (omega (arith, to.long)) ∙ to.each i less
    | inr le ↦
        let last : n ≡ i = omega arith in
        ap (λ items. slice_index items i) is ∙ get_or_push before place 0 i (to.long ∙ last) ∙ sym here ∙ ap (block_at f h) last
  ];
}

block-placed : (f : Bytes) (h : Fields) (i : ℕ) → IsTrue (refcount_table_sound f h) → is_cluster_offset h.cluster_bits (block_at f h i) ≡ true
unfolding refcount_table_sound
block-placed f h i sound = elim (cases_lt i (refcount_table_entries h)) [
  | inl lt ↦
      let inside : nat_lt i (refcount_table_entries h) ≡ true = grind (arith, nat_tests) in
      let here : reftable_entry_valid h.cluster_bits (raw_entry f h.refcount_table_offset i) ≡ true = all-below (refcount_table_entries h) (λ k. reftable_entry_valid h.cluster_bits (raw_entry f h.refcount_table_offset k)) sound i lt in
      ap (λ b. is_cluster_offset h.cluster_bits (cond b (block_offset (raw_entry f h.refcount_table_offset i)) 0)) inside ∙ last _ _ here
  | inr le ↦
      let past : nat_lt i (refcount_table_entries h) ≡ false = le-ltb _ _ le in
      ap (λ b. is_cluster_offset h.cluster_bits (cond b (block_offset (raw_entry f h.refcount_table_offset i)) 0)) past ∙ zero-place h.cluster_bits
]
  where
    last : (a b : Bool) → (a && b) ≡ true → b ≡ true
    last true b e = e
    last false b e = absurd cc

-- An entry past the end of the file references no block.
block-past : (bytes : List ℕ) (h : Fields) (n i : ℕ) → n ≤ i → ((k : ℕ) → n ≤ k → k < refcount_table_entries h → length bytes ≤ h.refcount_table_offset + 8 * k) → block_at (bytes_of bytes) h i ≡ 0
block-past bytes h n i le past = elim (cases_lt i (refcount_table_entries h)) [
  | inl lt ↦
      let inside : nat_lt i (refcount_table_entries h) ≡ true = grind (arith, nat_tests) in
      ap (λ b. cond b (block_offset (raw_entry (bytes_of bytes) h.refcount_table_offset i)) 0) inside ∙ ap block_offset (past-word bytes h.refcount_table_offset i (past i le lt))
  | inr beyond ↦
      let outside : nat_lt i (refcount_table_entries h) ≡ false = le-ltb _ _ beyond in
      ap (λ b. cond b (block_offset (raw_entry (bytes_of bytes) h.refcount_table_offset i)) 0) outside
]

-- If the other entries are past the end of the file, the first `n` entries give all blocks.
pub blocks-all : (bytes : List ℕ) (h : Fields) (n : ℕ) (blocks : List ℕ) → n ≤ refcount_table_entries h → IsTrue (refcount_table_sound (bytes_of bytes) h)
    → ((i : ℕ) → n ≤ i → i < refcount_table_entries h → length bytes ≤ h.refcount_table_offset + 8 * i) → BlocksTo (bytes_of bytes) h n blocks → IsBlocks (bytes_of bytes) h blocks
blocks-all bytes h n blocks few sound past to = record {
  each = each;
  count_bounded = omega (arith, to.long, few);
  placed = λ i. ap (is_cluster_offset h.cluster_bits) (each i) ∙ block-placed (bytes_of bytes) h i sound;
}
  where
    each : (i : ℕ) → slice_index blocks i ≡ block_at (bytes_of bytes) h i
    each i = elim (cases_lt i n) [
      | inl lt ↦ to.each i lt
      | inr le ↦ get_or_past blocks i 0 (omega (arith, to.long, le)) ∙ sym (block-past bytes h n i le past)
    ]
