-- Lemmas on the rule that keeps a file from being opened, and on what is loaded if none does.
use Rattle.std.proofs.Common.{◌≡◌, ◌≢◌, ℕ, ◌*◌, ◌/◌, ◌<◌, ◌≤◌, refl, arith, ap, sym, subst, ◌∙◌, Bool, true, false, Result, Ok, Err, List, [], ◌∷◌, length, inl, inr}
use Rattle.std.specs.Prelude.{⊤, not, ◌&&◌, slice_index, IfOk, OnOk}
use Rattle.std.proofs.Math.Nat.{div-add-mod}
use Rattle.std.proofs.lemmas.Bool.{cases_Bool}
use Rattle.imago_storage.specs.State.{StorageState}
use Rattle.imago_storage.specs.declared.fault.Fault.{Fault}
use Rattle.imago_storage.specs.declared.fault.Fault.TheVariants.{Memory, Storage, Unsupported, DamagedTable, Limit}
use Rattle.imago_storage.proofs.Failing.{may-fail}
use Rattle.qcow2_types.specs.Bytes.{Bytes, all_below, bytes_of, raw_entry}
use Rattle.qcow2_types.specs.Words.{Layout, l1_entry_valid, max_offset}
use Rattle.qcow2_types.specs.Counts.{refcount_table_sound}
use Rattle.qcow2_types.specs.Header.{Header, Limited, refcount_table_entries, first_fault, header_of, has_external_data, cluster_size, layout_of, ◌and-then◌, ◌>>=◌}
use Rattle.qcow2_types.specs.Entries.{l1_table_sound}
use Rattle.qcow2_types.proofs.Counting.Bounded.{all-below}
use Rattle.qcow2_types.proofs.Counting.Consistent.{header-reading}
use Rattle.qcow2_types.proofs.Fields.HeaderLimits.{header-limited}
use Rattle.qcow2_types.proofs.Counting.Sound.{all-below-holds}
use Rattle.qcow2_types.proofs.Changes.WriteBack.{place-near, place-whole}
use Rattle.qcow2_metadata.specs.Loading.{NotLoaded}
use Rattle.qcow2_metadata.specs.Places.{IsAddressable}
use Rattle.qcow2_metadata.specs.Tables.{TableValue, Kind, AreSound, HasUnsound, WhyNotLoaded, refcount_table_kind, l1_table_kind, table_in, raw_entry_valid, raw_entries_in}
use Rattle.qcow2_metadata.proofs.Refusals.{IsRefusal, header-refusal}
use Rattle.qcow2_metadata.proofs.TableFacts.{words_long, words_at}
use Rattle.qcow2_alloc.specs.Allocators.{IsTablePlaced, LoadsAllocator}
use Rattle.qcow2_alloc.specs.Opening.{IsL1Of}
use Rattle.qcow2_alloc.specs.declared.allocation.Allocator.{Allocator}
use Rattle.qcow2_image.specs.Opening.{WhyNotOpened, WhyNoSpace, header_for, rules_of_opening}

-- The errors of a header by its bytes, and of an L1 table.
abbrev pub IsReadingRefusal : Fault → Type 0
IsReadingRefusal DamagedTable = ⊤
IsReadingRefusal fault = IsRefusal fault

abbrev OnlyReading : Result Header Fault → Type 0
OnlyReading (Ok H) = ⊤
OnlyReading (Err fault) = IsReadingRefusal fault

one-of : (fault : Fault) → IsRefusal fault → IsReadingRefusal fault
one-of DamagedTable is = tt
one-of fault is = is

only-reading : (writable : Bool) (f : Bytes) (r : Result Header Fault) → ((fault : Fault) → r ≡ Err fault → IsRefusal fault)
    → OnlyReading (r >>= λ H. first_fault (rules_of_opening writable f H.fields) and-then Ok H)
only-reading writable f (Err fault) only = one-of fault (only fault refl)
only-reading writable f (Ok H) only =
    from (has_external_data H.fields) (l1_table_sound f H.fields) (writable && not (refcount_table_sound f H.fields)) where
      from : (external sound bad : Bool)
          → OnlyReading (first_fault ((external, Unsupported) ∷ (not sound, DamagedTable) ∷ (bad, DamagedTable) ∷ []) and-then Ok H)
      from true sound bad = tt
      from false false bad = tt
      from false true true = tt
      from false true false = tt

pub reading-refusal : (writable : Bool) (f : Bytes) (fault : Fault) → header_for writable f ≡ Err fault → IsReadingRefusal fault
unfolding header_for
reading-refusal writable f fault is =
    subst OnlyReading is (only-reading writable f (header_of writable f) (λ why same. header-refusal writable f why same))

pub reads-too : (writable : Bool) (f : Bytes) (H : Header) → header_of writable f ≡ Ok H → header_of false f ≡ Ok H
reads-too true f H loads = header-reading f H loads
reads-too false f H loads = loads

-- An invalid entry damages the whole table.
module _ (f : Bytes) (kind : Kind) (layout : Layout) (place n : ℕ) where
  abbrev are-sound : Bool
  are-sound = all_below n (λ i. raw_entry_valid kind layout (raw_entry f place i))

  long-so : length (raw_entries_in f place n) ≡ n
  long-so = words_long f place n

  damaged-word : HasUnsound kind layout (raw_entries_in f place n) → are-sound ≡ false
  damaged-word bad = elim (cases_Bool are-sound) [
    | inr broken ↦ broken
    | inl fine ↦
        let inside : bad.0 < n = let lt = bad.1 in omega (arith, lt, long-so) in
        let good = all-below n (λ i. raw_entry_valid kind layout (raw_entry f place i)) fine bad.0 inside in
        let no = subst (λ w. raw_entry_valid kind layout w ≡ false) (words_at f place n bad.0 inside) bad.2 in
        absurd (let e = sym good ∙ no in cc)
  ]

  -- Without one the table isn't damaged.
  sound-table : AreSound kind layout (raw_entries_in f place n) → are-sound ≡ true
  sound-table sound = all-below-holds n (λ i. raw_entry_valid kind layout (raw_entry f place i))
      (λ i inside. subst (λ w. raw_entry_valid kind layout w ≡ true) (words_at f place n i inside) (sound i (omega (arith, long-so, inside))))

module _ (writable : Bool) (f : Bytes) where
  -- If the file breaks a rule, that is the error. Otherwise it is a resource error.
  pub not-opened : {S : Type 0} (state : S → StorageState) (old new : S) (fault : Fault)
      → NotLoaded (header_for writable f) (state old) (state new) fault → WhyNotOpened state writable f fault
  not-opened state old new Memory why = tt
  not-opened state old new Storage why = may-fail state old new why
  not-opened state old new fault why = why.0

  -- The header's rules come first.
  pub header-refused : (old new : StorageState) (fault : Fault) → NotLoaded (header_of writable f) old new fault → NotLoaded (header_for writable f) old new fault
  unfolding header_for
  header-refused old new Memory why = why
  header-refused old new Storage why = why
  header-refused old new fault why = (rw why.0 refl, why.1)

  -- They don't depend on the L1 table.
  pub before-table : (old new : StorageState) (fault : Fault) → NotLoaded (header_of writable f) old new fault → fault ≢ DamagedTable
  before-table old new fault why is = absurd (header-refusal writable f DamagedTable (subst (NotLoaded (header_of writable f) old new) is why).0)

  module _ (H : Header) (loads : header_of writable f ≡ Ok H) where
    -- Then the external data file is checked.
    pub external-refused : has_external_data H.fields ≡ true → header_for writable f ≡ Err Unsupported
    unfolding header_for
    external-refused is = rw (loads, is) refl

    limited : Limited H.fields
    limited = header-limited writable f H loads

    -- The refcount table is in addressable clusters.
    counts-placed : IsTablePlaced H.fields
    counts-placed = record {
      aligned =
          let whole = place-whole H.fields.cluster_bits H.fields.refcount_table_offset limited.refcount_place in
          omega (arith, div-add-mod H.fields.refcount_table_offset (cluster_size H.fields), whole);
      reach = place-near H.fields.cluster_bits H.fields.refcount_table_offset limited.refcount_place;
    }

    module _ (old new : StorageState) (same : bytes_of old.bytes ≡ f) where
      -- If the refcount table is loaded, each entry is valid.
      pub space-sound : (a : Allocator) → LoadsAllocator old H.fields (Ok a) new → refcount_table_sound f H.fields ≡ true
      unfolding refcount_table_sound
      space-sound a loaded = sound-table f refcount_table_kind (layout_of H.fields) H.fields.refcount_table_offset (refcount_table_entries H.fields)
          (subst (λ (x : Bytes). AreSound refcount_table_kind (layout_of H.fields) (raw_entries_in x H.fields.refcount_table_offset (refcount_table_entries H.fields)))
          same loaded.sound)

      module _ (written : Bool) (is : written ≡ true) where
        counts-why : (fault : Fault) → WhyNotLoaded refcount_table_kind (layout_of H.fields)
            (raw_entries_in f H.fields.refcount_table_offset (refcount_table_entries H.fields)) old.faults new.faults fault
            → WhyNoSpace f H.fields written old.faults new.faults fault
        unfolding refcount_table_sound
        counts-why Memory why = why
        counts-why Storage why = why
        counts-why DamagedTable why = (
          is,
          damaged-word f refcount_table_kind (layout_of H.fields) H.fields.refcount_table_offset (refcount_table_entries H.fields) why.0,
          why.1,
        )
        counts-why (Limit n) why =
            let same = why.0 in
            let more = why.1 in
            let few = limited.refcount_entries in
            let long = words_long f H.fields.refcount_table_offset (refcount_table_entries H.fields) in
            absurd (omega (arith, same, more, few, long))
        counts-why fault why = absurd why

        -- Otherwise an invalid entry or a resource error is the cause.
        pub space-not-loaded : (fault : Fault) → LoadsAllocator old H.fields (Err fault) new
            → WhyNoSpace f H.fields written old.faults new.faults fault
        space-not-loaded fault loaded = counts-why fault
            (subst (λ (x : Bytes). WhyNotLoaded refcount_table_kind (layout_of H.fields)
            (raw_entries_in x H.fields.refcount_table_offset (refcount_table_entries H.fields)) old.faults new.faults fault) same (loaded.err counts-placed))

    module _ (inside : has_external_data H.fields ≡ false) where
      -- Then the L1 table is checked.
      pub table-refused : l1_table_sound f H.fields ≡ false → header_for writable f ≡ Err DamagedTable
      unfolding header_for
      table-refused bad = rw (loads, inside, bad) refl

      -- If the L1 table is valid, and for writing the refcount table too, the file opens.
      pub none-refused : l1_table_sound f H.fields ≡ true → (writable ≡ true → refcount_table_sound f H.fields ≡ true)
          → header_for writable f ≡ Ok H
      unfolding header_for
      none-refused sound counts = elim (cases_Bool writable) [
        | inl is ↦ let fine = counts is in rw (loads, inside, sound, is, fine) refl
        | inr not ↦ rw (loads, inside, sound, not) refl
      ]

      -- For writing the refcount table is checked last.
      counts-refused : l1_table_sound f H.fields ≡ true → writable ≡ true → refcount_table_sound f H.fields ≡ false
          → header_for writable f ≡ Err DamagedTable
      unfolding header_for
      counts-refused sound is bad = rw (loads, inside, sound, is, bad) refl

      whole : H.fields.l1_offset / cluster_size H.fields * cluster_size H.fields ≡ H.fields.l1_offset
      whole = place-whole H.fields.cluster_bits H.fields.l1_offset limited.l1_place

      module _ (cluster : ℕ) (at : cluster ≡ H.fields.l1_offset / cluster_size H.fields) where
        place : cluster * cluster_size H.fields ≡ H.fields.l1_offset
        place = ap (λ k. k * cluster_size H.fields) at ∙ whole

        -- The L1 table is in addressable clusters.
        pub table-in-reach : IsAddressable H.fields.cluster_bits cluster
        table-in-reach = subst (λ (p : ℕ). p ≤ max_offset) (sym place) (place-near H.fields.cluster_bits H.fields.l1_offset limited.l1_place)

        abbrev raw_entries : List ℕ
        raw_entries = raw_entries_in f (cluster * cluster_size H.fields) H.fields.l1_entries

        word-of : (i : ℕ) → i < H.fields.l1_entries → slice_index raw_entries i ≡ raw_entry f H.fields.l1_offset i
        word-of i inside = words_at f (cluster * cluster_size H.fields) H.fields.l1_entries i inside ∙ ap (λ p. raw_entry f p i) place

        long : length raw_entries ≡ H.fields.l1_entries
        long = words_long f (cluster * cluster_size H.fields) H.fields.l1_entries

        -- The loaded L1 table is the file's.
        pub table-loaded : (r : Result TableValue Fault) → IfOk r (λ table. table ≡ table_in f H.fields cluster H.fields.l1_entries)
            → OnOk r (AreSound l1_table_kind (layout_of H.fields) raw_entries) → IfOk r (IsL1Of f H.fields)
        unfolding l1_table_sound
        table-loaded (Ok table) is sound = record {
          layout = ap (λ (t : TableValue). t.layout) is;
          raw_entries = ap (λ (t : TableValue). t.raw_entries) is ∙ ap (λ p. raw_entries_in f p H.fields.l1_entries) place;
          sound = all-below-holds H.fields.l1_entries (λ i. l1_entry_valid H.fields.cluster_bits (raw_entry f H.fields.l1_offset i))
              (λ i inside. subst (λ w. l1_entry_valid H.fields.cluster_bits w ≡ true) (word-of i inside) (sound i (omega (arith, long, inside))));
        }
        table-loaded (Err fault) is sound = tt

        unsound : HasUnsound l1_table_kind (layout_of H.fields) raw_entries → l1_table_sound f H.fields ≡ false
        unfolding l1_table_sound
        unsound bad = damaged-word f l1_table_kind (layout_of H.fields) H.fields.l1_offset H.fields.l1_entries
            (subst (λ p. HasUnsound l1_table_kind (layout_of H.fields) (raw_entries_in f p H.fields.l1_entries)) place bad)

        pub table-not-loaded : (old new : StorageState) (fault : Fault) → WhyNotLoaded l1_table_kind (layout_of H.fields) raw_entries old.faults new.faults fault
            → NotLoaded (header_for writable f) old new fault
        table-not-loaded old new Memory why = why
        table-not-loaded old new Storage why = why
        table-not-loaded old new DamagedTable why = (table-refused (unsound why.0), why.1)
        table-not-loaded old new (Limit n) why = let same = why.0 in let more = why.1 in let few = limited.l1_entries in absurd (omega (arith, same, more, few, long))
        table-not-loaded old new fault why = absurd why

      -- An error of loading the free space is an error of opening the file.
      pub space-refused : l1_table_sound f H.fields ≡ true → (old new : StorageState) (fault : Fault)
          → WhyNoSpace f H.fields writable old.faults new.faults fault → NotLoaded (header_for writable f) old new fault
      space-refused sound old new Memory why = why
      space-refused sound old new Storage why = why
      space-refused sound old new DamagedTable why = (counts-refused sound why.0 why.1, why.2)
      space-refused sound old new fault why = absurd why
