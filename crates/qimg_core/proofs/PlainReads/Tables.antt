-- The values of a disk, from the tables that are loaded.
use Rattle.std.proofs.Common.{◌≡◌, ◌≢◌, ℕ, ◌+◌, ◌-◌, ◌*◌, ◌/◌, ◌%◌, ◌^◌, ◌<◌, ◌≤◌, refl, arith, ap, sym, ◌∙◌, List, [], length}
use Rattle.std.specs.Prelude.{true, false, cond, ◌==◌, slice_index, IsTrue, IsFalse, Result, Ok, Err, OnOk, IfErr, Some, None}
use Rattle.std.proofs.lemmas.Bool.Decides.{nat_tests}
use Rattle.std.proofs.lemmas.Nat.{mod_below, pow_pos}
use Rattle.std.proofs.Math.Nat.{div-div-eq-div-mul, pow-le-pow_right}
use Rattle.imago_storage.specs.State.{StorageState}
use Rattle.imago_storage.specs.Calls.{UnchangedButFaults}
use Rattle.imago_storage.specs.Disk.{Value, byte, damaged_place, Shows}
use Rattle.imago_storage.specs.declared.fault.Fault.{Fault}
use Rattle.imago_storage.specs.declared.fault.Fault.TheVariants.{Memory, Storage, Limit, DamagedTable}
use Rattle.qcow2_types.specs.Bytes.{Bytes, raw_entry}
use Rattle.qcow2_types.specs.Words.{Mapping, data_at, zeroes, packed, unmapped, damaged, max_offset, mapping_of, table_offset}
use Rattle.qcow2_types.specs.Header.{Fields, cluster_size, entries_of_cluster, layout_of, has_external_data}
use Rattle.qcow2_types.specs.Entries.{entry, entry_through, l2_table, l1_table_sound, l2_table_sound, l2_entries}
use Rattle.qcow2_types.specs.Disk.{shown_by, host_byte}
use Rattle.qcow2_types.proofs.Counting.TableSizes.{entries_power}
use Rattle.qcow2_metadata.specs.Tables.{TableValue, AreSound, HasUnsound, WhyNotLoaded, raw_entries_in, table_in, offset_or_none, l2_table_kind}
use Rattle.qcow2_metadata.proofs.TableFacts.{words_long}
use Rattle.qimg_core.specs.Plain.{IsFirstFault, NotShown, NamesTables, mapped_value, table_value, image_value, value_fault}
use Rattle.qimg_core.proofs.Tables.Places.{none-place, some-place, l2-place}
use Rattle.qimg_core.proofs.Tables.L2Words.{l2-word, l2-sound, l2-unsound}
use Rattle.qimg_core.proofs.PlainReads.Pieces.{ShownSoFar, shown-short, div-near}

-- The value by the mapping, if the image has no external data file.
by-mapping : (f : Bytes) (h : Fields) (p : ℕ) (m : Mapping) → has_external_data h ≡ false → shown_by m (host_byte f (λ _. 0) h p) (byte 0) ≡ mapped_value f h.cluster_bits m p
by-mapping f h p (data_at c copied) inside = rw inside refl
by-mapping f h p (zeroes c copied) inside = refl
by-mapping f h p (packed o l) inside = refl
by-mapping f h p unmapped inside = refl
by-mapping f h p damaged inside = refl

module _ (f : Bytes) (h : Fields) (sound : IsTrue (l1_table_sound f h)) (inside : IsFalse (has_external_data h)) (p : ℕ) where
  -- The value by the entry of the guest cluster.
  by-entry : (m : Mapping) → entry_through f h (l2_table f h (p / cluster_size h / entries_of_cluster h)) (p / cluster_size h % entries_of_cluster h) ≡ m → image_value f h p ≡ mapped_value f h.cluster_bits m p
  unfolding image_value entry
  by-entry m is =
      let here : entry f h (p / cluster_size h) ≡ m = ap (λ b. cond b (entry_through f h (l2_table f h (p / cluster_size h / entries_of_cluster h)) (p / cluster_size h % entries_of_cluster h)) damaged) sound ∙ is in
      ap (λ x. shown_by x (host_byte f (λ _. 0) h p) (byte 0)) here ∙ by-mapping f h p m (inside)

  -- The L2 table doesn't exist.
  pub value-none : l2_table f h (p / cluster_size h / entries_of_cluster h) ≡ 0 → image_value f h p ≡ byte 0
  value-none none = by-entry unmapped (through (l2_table f h (p / cluster_size h / entries_of_cluster h)) none)
    where
      through : (t : ℕ) → t ≡ 0 → entry_through f h t (p / cluster_size h % entries_of_cluster h) ≡ unmapped
      through t e = rw e refl

  -- The L2 table is valid.
  pub value-there : (t : ℕ) → l2_table f h (p / cluster_size h / entries_of_cluster h) ≡ t → t ≢ 0 → l2_table_sound f h t ≡ true → image_value f h p ≡ mapped_value f h.cluster_bits (mapping_of (layout_of h) (raw_entry f t (p / cluster_size h % entries_of_cluster h))) p
  value-there t is there sound' =
      let some : (t == 0) ≡ false = grind (arith, nat_tests) in
      by-entry (mapping_of (layout_of h) (raw_entry f t (p / cluster_size h % entries_of_cluster h)))
      (ap (λ k. entry_through f h k (p / cluster_size h % entries_of_cluster h)) is ∙ (rw (some, sound') refl))

  -- The L2 table is damaged.
  pub value-damaged : (t : ℕ) → l2_table f h (p / cluster_size h / entries_of_cluster h) ≡ t → t ≢ 0 → l2_table_sound f h t ≡ false → image_value f h p ≡ damaged_place
  value-damaged t is there unsound =
      let some : (t == 0) ≡ false = grind (arith, nat_tests) in
      by-entry damaged (ap (λ k. entry_through f h k (p / cluster_size h % entries_of_cluster h)) is ∙ (rw (some, unsound) refl))

-- Nearby offsets are mapped by the same L2 table.
pub same-table : (bits at i : ℕ) → let mapped = l2_entries bits * 2 ^ bits in at % mapped + i < mapped → (at + i) / 2 ^ bits / l2_entries bits ≡ at / 2 ^ bits / l2_entries bits
same-table bits at i near =
    let turned : 2 ^ bits * l2_entries bits ≡ l2_entries bits * 2 ^ bits = omega arith in
    div-div-eq-div-mul (at + i) (2 ^ bits) (l2_entries bits)
    ∙ (ap (λ n. (at + i) / n) turned ∙ (div-near at i (l2_entries bits * 2 ^ bits) near ∙ (ap (λ n. at / n) (sym turned) ∙ sym (div-div-eq-div-mul at (2 ^ bits) (l2_entries bits)))))

-- The two table indices of an offset, as the code computes them.
module _ (f : Bytes) (h : Fields) (sound : IsTrue (l1_table_sound f h)) (inside : IsFalse (has_external_data h)) (raw_entries : List ℕ) (are : NamesTables f h raw_entries)
    (at n index : ℕ) (is : index ≡ at / 2 ^ h.cluster_bits / l2_entries h.cluster_bits) (one : at % (l2_entries h.cluster_bits * 2 ^ h.cluster_bits) + n ≤ l2_entries h.cluster_bits * 2 ^ h.cluster_bits) where
  -- Each byte of the range has the same L2 table.
  its-table : (i : ℕ) → i < n → l2_table f h ((at + i) / cluster_size h / entries_of_cluster h) ≡ table_offset (slice_index raw_entries index)
  its-table i lt =
      let near : (at + i) / 2 ^ h.cluster_bits / l2_entries h.cluster_bits ≡ at / 2 ^ h.cluster_bits / l2_entries h.cluster_bits = same-table h.cluster_bits at i (omega arith) in
      ap (l2_table f h) (near ∙ sym is) ∙ are.each index

  -- Without an L2 table the range reads as zeroes.
  pub none-shown : None ≡ offset_or_none (table_offset (slice_index raw_entries index)) → (buffer : List ℕ) → length buffer ≡ n → ((i : ℕ) → slice_index buffer i ≡ 0) → Shows (image_value f h) at buffer
  none-shown none buffer long blank i lt =
      let less : i < n = omega arith in
      value-none f h sound inside (at + i) (its-table i less ∙ none-place (table_offset (slice_index raw_entries index)) none) ∙ ap byte (sym (blank i))

  -- The offset of the L2 table.
  pub table-place : (place : ℕ) → Some place ≡ offset_or_none (table_offset (slice_index raw_entries index)) → (place / 2 ^ h.cluster_bits * 2 ^ h.cluster_bits ≡ place) × (place ≤ max_offset)
  table-place place some =
      let there = some-place (table_offset (slice_index raw_entries index)) place some in
      let named : l2_table f h index ≡ place = are.each index ∙ sym there.0 in
      let whole = l2-place f h index sound (λ e. there.1 (sym (are.each index) ∙ e)) in
      (ap (λ p. p / 2 ^ h.cluster_bits * 2 ^ h.cluster_bits) (sym named) ∙ (whole.0 ∙ named), omega (arith, whole.1))

  module _ (place cluster : ℕ) (some : Some place ≡ offset_or_none (table_offset (slice_index raw_entries index))) (begins : cluster ≡ place / 2 ^ h.cluster_bits) where
    begin : cluster * cluster_size h ≡ place
    begin = ap (λ k. k * 2 ^ h.cluster_bits) begins ∙ (table-place place some).0

    there : place ≢ 0
    there e =
        let found = some-place (table_offset (slice_index raw_entries index)) place some in
        found.1 (sym found.0 ∙ e)

    named-here : (i : ℕ) → i < n → l2_table f h ((at + i) / cluster_size h / entries_of_cluster h) ≡ place
    named-here i lt = its-table i lt ∙ sym (some-place (table_offset (slice_index raw_entries index)) place some).0

    -- The values by the loaded table are those of the image.
    pub loaded-values : 9 ≤ h.cluster_bits → (g : Bytes) (table : TableValue) → g ≡ f → table ≡ table_in f h cluster (entries_of_cluster h) → AreSound l2_table_kind (layout_of h) (raw_entries_in f (cluster * cluster_size h) (entries_of_cluster h))
        → (i : ℕ) → i < n → image_value f h (at + i) ≡ table_value g table (at + i)
    loaded-values low g table same loaded sound' i lt =
        let j : ℕ = (at + i) / cluster_size h % entries_of_cluster h in
        let some' : 0 < entries_of_cluster h = rw (entries_power h.cluster_bits low) (pow_pos (h.cluster_bits - 3)) in
        let less : j < entries_of_cluster h = mod_below ((at + i) / cluster_size h) (entries_of_cluster h) some' in
        let own : slice_index (raw_entries_in f (cluster * cluster_size h) (entries_of_cluster h)) j ≡ raw_entry f place j = l2-word f h place cluster begin j less in
        value-there f h sound inside (at + i) place (named-here i lt) there (l2-sound f h place cluster begin sound')
        ∙ (ap (λ w. mapped_value f h.cluster_bits (mapping_of (layout_of h) w) (at + i)) (sym own)
        ∙ (ap (λ t. table_value f t (at + i)) (sym loaded) ∙ ap (λ (x : Bytes). table_value x table (at + i)) (sym same)))

    -- If the table is damaged, the first byte of the range is the first that can't be read.
    pub damaged-first : 0 < n → HasUnsound l2_table_kind (layout_of h) (raw_entries_in f (cluster * cluster_size h) (entries_of_cluster h)) → IsFirstFault (image_value f h) at n DamagedTable
    damaged-first some' unsound = record {
      place = 0;
      inside = some';
      faulty = ap value_fault (value-damaged f h sound inside (at + 0) place (named-here 0 some') there (l2-unsound f h place cluster begin unsound));
      before = λ i less. absurd (omega arith);
    }

    -- If the table isn't loaded, the range isn't read, for the same reason.
    pub table-refused : (old new : StorageState) → h.cluster_bits ≤ 21 → 0 < n → (fault : Fault) → WhyNotLoaded l2_table_kind (layout_of h) (raw_entries_in f (cluster * cluster_size h) (entries_of_cluster h)) old.faults new.faults fault → NotShown (image_value f h) old new at n fault
    table-refused old new high some' Memory why = why
    table-refused old new high some' Storage why = why
    table-refused old new high some' DamagedTable why = (damaged-first some' why.0, why.1)
    table-refused old new high some' (Limit k) why =
        let most : 2 ^ h.cluster_bits ≤ 2 ^ 21 = pow-le-pow_right (omega arith) high in
        absurd (omega (arith, why.0, why.1, words_long f (cluster * cluster_size h) (entries_of_cluster h)))
    table-refused old new high some' fault why = absurd why

pub shown-none : (value : ℕ → Value) (old now : StorageState) (offset : ℕ) (buffer : List ℕ) → UnchangedButFaults old now → now.faults ≡ old.faults → ShownSoFar value old now offset 0 buffer
shown-none value old now offset buffer kept faults = record { kept = kept; faults = faults; most = omega arith; read = λ i lt. absurd (omega arith) }

pub shown-as : (result : Result (Unit {0}) Fault) (value value' : ℕ → Value) (at : ℕ) (buffer : List ℕ) → ((i : ℕ) → i < length buffer → value (at + i) ≡ value' (at + i)) → OnOk result (Shows value' at buffer) → OnOk result (Shows value at buffer)
shown-as (Err _) value value' at buffer same shows = tt
shown-as (Ok _) value value' at buffer same shows = λ i lt. same i lt ∙ shows i lt

pub unshown-as : (result : Result (Unit {0}) Fault) (value value' : ℕ → Value) (old now new : StorageState) (at n : ℕ) → UnchangedButFaults old now → now.faults ≡ old.faults → ((i : ℕ) → i < n → value (at + i) ≡ value' (at + i)) → IfErr result (NotShown value' now new at n)
    → IfErr result (NotShown value old new at n)
unshown-as (Ok _) value value' old now new at n kept faults same why = tt
unshown-as (Err fault) value value' old now new at n kept faults same why = shown-short value value' old now new at 0 n at n [] fault (shown-none value old now at [] kept faults) (omega arith) (omega arith) same why
