-- Tables whose entries past the end of the file aren't loaded.
use Rattle.std.proofs.Common.{◌≡◌, ℕ, ◌+◌, ◌*◌, ◌/◌, ◌^◌, ◌<◌, ◌≤◌, refl, arith, ap, sym, ◌∙◌, List, length, inl, inr}
use Rattle.std.proofs.lemmas.Bool.{cases_lt}
use Rattle.std.specs.Prelude.{true, false, slice_index, Result, Ok, Err, OnOk, IfErr}
use Rattle.imago_storage.specs.State.{StorageState}
use Rattle.imago_storage.specs.declared.fault.Fault.{Fault}
use Rattle.imago_storage.specs.declared.fault.Fault.TheVariants.{Memory, Storage, Limit, DamagedTable}
use Rattle.qcow2_types.specs.Bytes.{Bytes, bytes_of, raw_entry}
use Rattle.qcow2_types.specs.Words.{l1_entry_valid}
use Rattle.qcow2_types.specs.Header.{Fields, Header, header_of, cluster_size, layout_of, Limited}
use Rattle.qcow2_types.specs.Entries.{l1_table_sound}
use Rattle.qcow2_types.specs.Consistency.{tables_sound}
use Rattle.qcow2_types.proofs.Fields.HeaderLimits.{header-limited}
use Rattle.qcow2_types.proofs.Counting.Sound.{all-below-holds}
use Rattle.qcow2_types.proofs.Numbers.Splices.{be-zeroes}
use Rattle.qcow2_types.proofs.Numbers.WordLemmas.{zero-l1-word}
use Rattle.qcow2_metadata.specs.Tables.{TableValue, AreSound, HasUnsound, WhyNotLoaded, raw_entries_in, table_in, l1_table_kind}
use Rattle.qcow2_metadata.proofs.TableFacts.{words_long, words_at}
use Rattle.qcow2_metadata.proofs.TableSteps.{past_end}
use Rattle.qimg_core.specs.declared.check.CheckFault.TheVariants.{Table}
use Rattle.qcow2_metadata.specs.Loading.{file}
use Rattle.qimg_core.specs.Check.{IsUnsound, fault_of_load, Found}
use Rattle.qimg_core.specs.Plain.{NoL1}
use Rattle.qimg_core.proofs.Tables.Places.{l1-place}
use Rattle.qimg_core.proofs.Tables.Tests.{tests-miss}

pub cluster-at : (cluster place bits place' bits' : ℕ) → cluster ≡ place / 2 ^ bits → place ≡ place' → bits ≡ bits' → cluster ≡ place' / 2 ^ bits'
cluster-at cluster place bits place' bits' is same same' = is ∙ (ap (λ p. p / 2 ^ bits) same ∙ ap (λ b. place' / 2 ^ b) same')

pub loaded-count : (f : Bytes) (h : Fields) (cluster n entries : ℕ) (t : TableValue) → t ≡ table_in f h cluster n → entries ≡ length t.raw_entries → entries ≡ n
loaded-count f h cluster n entries t is count = count ∙ (ap (λ v. length v.raw_entries) is ∙ words_long f (cluster * cluster_size h) n)

pub loaded-word : (f : Bytes) (h : Fields) (cluster n i word' : ℕ) (t : TableValue) → t ≡ table_in f h cluster n → word' ≡ slice_index t.raw_entries i → slice_index (raw_entries_in f (cluster * cluster_size h) n) i ≡ word'
loaded-word f h cluster n i word' t is read = sym (read ∙ ap (λ v. slice_index v.raw_entries i) is)

l1-damaged : (f : Bytes) (h : Fields) → l1_table_sound f h ≡ false → tables_sound f h ≡ false
unfolding tables_sound
l1-damaged f h broken = rw broken refl

-- If one of the first `n` L1 entries is invalid, the L1 table is damaged.
l1-unsound : (f : Bytes) (H : Header) → header_of false f ≡ Ok H → (cluster n : ℕ) → cluster ≡ H.fields.l1_offset / 2 ^ H.fields.cluster_bits → n ≤ H.fields.l1_entries
    → HasUnsound l1_table_kind (layout_of H.fields) (raw_entries_in f (cluster * cluster_size H.fields) n) → l1_table_sound f H.fields ≡ false
unfolding l1_table_sound
l1-unsound f H loads cluster n is few unsound =
    let i : ℕ = unsound.0 in
    let lt : unsound.0 < n = let inside = unsound.1 in omega (arith, inside, words_long f (cluster * cluster_size H.fields) n) in
    let same : slice_index (raw_entries_in f (cluster * cluster_size H.fields) n) unsound.0 ≡ raw_entry f H.fields.l1_offset unsound.0 = words_at f _ _ unsound.0 lt ∙ ap (λ p. raw_entry f p unsound.0) (l1-place f H loads cluster is).0 in
    tests-miss H.fields.l1_entries unsound.0 (λ k. l1_entry_valid H.fields.cluster_bits (raw_entry f H.fields.l1_offset k)) (omega (arith, lt, few)) (ap (l1_entry_valid H.fields.cluster_bits) (sym same) ∙ unsound.2)

-- If the L1 table isn't loaded because it is damaged, that is the finding.
pub l1-finding : (old new : StorageState) (H : Header) → header_of false (file old) ≡ Ok H → (cluster n : ℕ) → cluster ≡ H.fields.l1_offset / 2 ^ H.fields.cluster_bits → n ≤ H.fields.l1_entries → (fault : Fault)
    → WhyNotLoaded l1_table_kind (layout_of H.fields) (raw_entries_in (file old) (cluster * cluster_size H.fields) n) old.faults new.faults fault → Found old new (IsUnsound (file old) H.fields) (fault_of_load Table fault)
l1-finding old new H loads cluster n is few Memory why = why
l1-finding old new H loads cluster n is few Storage why = why
l1-finding old new H loads cluster n is few DamagedTable why = (l1-damaged (file old) H.fields (l1-unsound (file old) H loads cluster n is few why.0), why.1)
l1-finding old new H loads cluster n is few (Limit m) why =
    let limited : Limited H.fields = header-limited false (file old) H loads in
    absurd (omega (arith, why.0, why.1, words_long (file old) (cluster * cluster_size H.fields) n, limited.l1_entries, few))
l1-finding old new H loads cluster n is few fault why = absurd why

-- Like `l1-finding`, for a plain read.
l1-why : (old new : StorageState) (H : Header) → header_of false (file old) ≡ Ok H → (cluster n : ℕ) → cluster ≡ H.fields.l1_offset / 2 ^ H.fields.cluster_bits → n ≤ H.fields.l1_entries → (fault : Fault)
    → WhyNotLoaded l1_table_kind (layout_of H.fields) (raw_entries_in (file old) (cluster * cluster_size H.fields) n) old.faults new.faults fault → NoL1 old new H.fields fault
l1-why old new H loads cluster n is few Memory why = why
l1-why old new H loads cluster n is few Storage why = why
l1-why old new H loads cluster n is few DamagedTable why = (l1-unsound (file old) H loads cluster n is few why.0, why.1)
l1-why old new H loads cluster n is few (Limit m) why =
    let limited : Limited H.fields = header-limited false (file old) H loads in
    absurd (omega (arith, why.0, why.1, words_long (file old) (cluster * cluster_size H.fields) n, limited.l1_entries, few))
l1-why old new H loads cluster n is few fault why = absurd why

pub l1-refused : (result : Result TableValue Fault) (old new : StorageState) (H : Header) → header_of false (file old) ≡ Ok H → (cluster n : ℕ) → cluster ≡ H.fields.l1_offset / 2 ^ H.fields.cluster_bits → n ≤ H.fields.l1_entries
    → IfErr result (WhyNotLoaded l1_table_kind (layout_of H.fields) (raw_entries_in (file old) (cluster * cluster_size H.fields) n) old.faults new.faults) → IfErr result (NoL1 old new H.fields)
l1-refused (Ok _) old new H loads cluster n is few why = tt
l1-refused (Err fault) old new H loads cluster n is few why = l1-why old new H loads cluster n is few fault why

pub past-word : (bytes : List ℕ) (place i : ℕ) → length bytes ≤ place + 8 * i → raw_entry (bytes_of bytes) place i ≡ 0
unfolding raw_entry
past-word bytes place i past = be-zeroes (bytes_of bytes) (place + 8 * i) 8 (λ k lt. past_end bytes (place + 8 * i + k) (omega arith))

-- All entries past the end of the file are 0. So the L1 table is valid if its first `n` entries are.
pub l1-sound-by-first : (bytes : List ℕ) (H : Header) → header_of false (bytes_of bytes) ≡ Ok H → (cluster n : ℕ) → cluster ≡ H.fields.l1_offset / 2 ^ H.fields.cluster_bits
    → AreSound l1_table_kind (layout_of H.fields) (raw_entries_in (bytes_of bytes) (cluster * cluster_size H.fields) n) → ((i : ℕ) → n ≤ i → i < H.fields.l1_entries → length bytes ≤ H.fields.l1_offset + 8 * i)
    → l1_table_sound (bytes_of bytes) H.fields ≡ true
unfolding l1_table_sound
l1-sound-by-first bytes H loads cluster n is sound past = all-below-holds H.fields.l1_entries (λ i. l1_entry_valid H.fields.cluster_bits (raw_entry (bytes_of bytes) H.fields.l1_offset i)) (λ i lt. elim (cases_lt i n) [
  | inl less ↦
      let same : slice_index (raw_entries_in (bytes_of bytes) (cluster * cluster_size H.fields) n) i ≡ raw_entry (bytes_of bytes) H.fields.l1_offset i = words_at (bytes_of bytes) _ _ i less ∙ ap (λ p. raw_entry (bytes_of bytes) p i) (l1-place (bytes_of bytes) H loads cluster is).0 in
      let inside : i < length (raw_entries_in (bytes_of bytes) (cluster * cluster_size H.fields) n) = omega (arith, words_long (bytes_of bytes) (cluster * cluster_size H.fields) n, less) in
      ap (l1_entry_valid H.fields.cluster_bits) (sym same) ∙ sound i inside
  | inr ge ↦ ap (l1_entry_valid H.fields.cluster_bits) (past-word bytes H.fields.l1_offset i (past i ge lt)) ∙ zero-l1-word H.fields.cluster_bits
])

pub l1-sound : (result : Result TableValue Fault) (bytes : List ℕ) (H : Header) → header_of false (bytes_of bytes) ≡ Ok H → (cluster n : ℕ) → cluster ≡ H.fields.l1_offset / 2 ^ H.fields.cluster_bits
    → OnOk result (AreSound l1_table_kind (layout_of H.fields) (raw_entries_in (bytes_of bytes) (cluster * cluster_size H.fields) n)) → ((i : ℕ) → n ≤ i → i < H.fields.l1_entries → length bytes ≤ H.fields.l1_offset + 8 * i)
    → OnOk result (l1_table_sound (bytes_of bytes) H.fields ≡ true)
l1-sound (Err _) bytes H loads cluster n is sound past = tt
l1-sound (Ok _) bytes H loads cluster n is sound past = l1-sound-by-first bytes H loads cluster n is sound past
