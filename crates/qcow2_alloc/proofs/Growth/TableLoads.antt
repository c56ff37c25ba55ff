-- The loaded refcount table is that of the file. An image that `check` accepts then has `IsSound`.
use Rattle.std.proofs.Common.{◌≡◌, ℕ, ◌*◌, ◌/◌, ◌%◌, ◌^◌, ◌<◌, ◌≤◌, refl, arith, ap, sym, subst, ◌∙◌, List, [], Bool, Some, Result, Ok, Err, true, false, inl, inr}
use Rattle.std.specs.Prelude.{IsTrue, nat_lt, slice_index}
use Rattle.std.proofs.lemmas.Bool.{cases_eq, ne_eqb, lt-ltb}
use Rattle.std.proofs.lemmas.List.FromFn.{length-map-range_with_len, get_or-map-range_with_len}
use Rattle.std.proofs.Math.Nat.{div-add-mod}
use Rattle.imago_storage.specs.State.{StorageState}
use Rattle.imago_storage.specs.Calls.{UnchangedButFaults, Cause}
use Rattle.imago_storage.specs.declared.fault.Fault.{Fault}
use Rattle.imago_storage.specs.declared.fault.Fault.TheVariants.{DamagedTable, Limit}
use Rattle.qcow2_types.specs.Bytes.{Bytes, bytes_of, raw_entry}
use Rattle.qcow2_types.specs.Words.{block_offset, l1_entry_valid, max_offset}
use Rattle.qcow2_types.specs.Header.{Fields, Header, Limited, header_of, cluster_size, refcount_table_entries, layout_of}
use Rattle.qcow2_types.specs.Entries.{l1_table_sound}
use Rattle.qcow2_types.specs.References.{meets}
use Rattle.qcow2_types.specs.Slots.{ValidEntries}
use Rattle.qcow2_types.specs.Consistency.{IsConsistent, IsVerdict}
use Rattle.qcow2_types.proofs.Counting.Consistent.{header-reading, meets-own, named-counted}
use Rattle.qcow2_types.proofs.Counting.Counters.{some-counters}
use Rattle.qcow2_types.proofs.Changes.Frames.{header-part}
use Rattle.qcow2_types.proofs.Fields.HeaderLimits.{header-limited}
use Rattle.qcow2_types.proofs.Counting.Leaks.{count-beyond}
use Rattle.qcow2_types.proofs.Counting.Named.{structure-le-refs}
use Rattle.qcow2_types.proofs.Counting.Sound.{all-below-holds, sound-words}
use Rattle.qcow2_types.proofs.Changes.WriteBack.{place-near, place-whole}
use Rattle.qcow2_metadata.specs.Places.{IsAddressable}
use Rattle.qcow2_metadata.specs.Tables.{TableValue, AreSound, Kind, table_in, raw_entries_in, max_entries, raw_entry_valid, WhyNotLoaded, refcount_table_kind, l1_table_kind}
use Rattle.qcow2_alloc.specs.declared.allocation.Allocator.{Allocator}
use Rattle.qcow2_alloc.specs.declared.cache.CacheDependency.TheVariants.{Unset}
use Rattle.qcow2_alloc.specs.Allocators.{IsTablePlaced, LoadsAllocator, table_of, first_free_of}
use Rattle.qcow2_alloc.specs.Opening.{IsL1Of, opened}
use Rattle.qcow2_alloc.specs.GuestView.{IsSound, IsTableOf}
use Rattle.qcow2_alloc.proofs.Caching.EmptyCaches.{empty-safe}
use Rattle.qcow2_alloc.proofs.Caching.TableSide.{load-counted}
use Rattle.qcow2_alloc.proofs.Memory.Patches.{shaped-in}
use Rattle.qcow2_alloc.proofs.GuestView.QuietEntries.{safe-sound}

pub placed-whole : (h : Fields) → h.refcount_table_offset % cluster_size h ≡ 0 → h.refcount_table_offset / cluster_size h * cluster_size h ≡ h.refcount_table_offset
placed-whole h aligned = omega (arith, div-add-mod h.refcount_table_offset (cluster_size h), aligned)

pub placed-here : (h : Fields) → h.refcount_table_offset % cluster_size h ≡ 0 → IsAddressable h.cluster_bits (h.refcount_table_offset / cluster_size h) → IsTablePlaced h
placed-here h aligned reach = record { aligned = aligned; reach = subst (λ n. n ≤ max_offset) (placed-whole h aligned) reach }

pub table-of-file : (f : Bytes) (h : Fields) → IsTablePlaced h → 0 < refcount_table_entries h → IsTableOf f h (table_in f h (h.refcount_table_offset / cluster_size h) (refcount_table_entries h))
table-of-file f h placed some = record {
  layout = refl;
  long = length-map-range_with_len _ 0 (refcount_table_entries h);
  placed = by-entries (refcount_table_entries h) some;
  names = λ i lt.
      let read : slice_index (raw_entries_in f (h.refcount_table_offset / cluster_size h * cluster_size h) (refcount_table_entries h)) i ≡ raw_entry f (h.refcount_table_offset / cluster_size h * cluster_size h) i = get_or-map-range_with_len (raw_entry f (h.refcount_table_offset / cluster_size h * cluster_size h)) 0 (refcount_table_entries h) i i 0 lt (omega arith) in
      let inside : nat_lt i (refcount_table_entries h) ≡ true = lt-ltb i (refcount_table_entries h) lt in
      ap block_offset (read ∙ ap (λ p. raw_entry f p i) (placed-whole h placed.aligned)) ∙ rw inside refl;
}
  where
    by-entries : (n : ℕ) → 0 < n → (table_in f h (h.refcount_table_offset / cluster_size h) n).cluster ≡ Some (h.refcount_table_offset / cluster_size h)
    by-entries n some = rw (ne_eqb n 0 (λ none. omega (arith, none, some))) refl

pub why-placed : (f : Bytes) (h : Fields) (before after : ℕ) (fault : Fault) → h.refcount_table_offset % cluster_size h ≡ 0 → WhyNotLoaded refcount_table_kind (layout_of h) (raw_entries_in f (h.refcount_table_offset / cluster_size h * cluster_size h) (refcount_table_entries h)) before after fault
    → WhyNotLoaded refcount_table_kind (layout_of h) (raw_entries_in f h.refcount_table_offset (refcount_table_entries h)) before after fault
why-placed f h before after fault aligned why = subst (λ n. WhyNotLoaded refcount_table_kind (layout_of h) (raw_entries_in f n (refcount_table_entries h)) before after fault) (placed-whole h aligned) why

-- The range that is loaded.
pub record IsLoadedFrom (h : Fields) (cluster entries : ℕ) : Type 0 where
  pub placed : IsTablePlaced h
  pub cluster_is : cluster ≡ h.refcount_table_offset / cluster_size h
  pub entries_are : entries ≡ refcount_table_entries h

pub loaded-from : (h : Fields) (offset bits cluster entries : ℕ) → offset ≡ h.refcount_table_offset → bits ≡ h.cluster_bits → entries ≡ refcount_table_entries h → offset % 2 ^ bits ≡ 0 → cluster ≡ offset / 2 ^ bits → IsAddressable bits cluster → IsLoadedFrom h cluster entries
loaded-from h offset bits cluster entries at same many aligned place reach =
    let here : cluster ≡ h.refcount_table_offset / cluster_size h = place ∙ ap (λ n. n / 2 ^ bits) at ∙ ap (λ b. h.refcount_table_offset / 2 ^ b) same in
    let aligned' : h.refcount_table_offset % cluster_size h ≡ 0 = subst (λ b. h.refcount_table_offset % 2 ^ b ≡ 0) same (subst (λ n. n % 2 ^ bits ≡ 0) at aligned) in
    record { placed = placed-here h aligned' (subst (λ b. IsAddressable b (h.refcount_table_offset / cluster_size h)) same (subst (λ n. IsAddressable bits n) here reach)); cluster_is = here; entries_are = many }

from-words : (f : Bytes) (h : Fields) (cluster entries : ℕ) → IsLoadedFrom h cluster entries
    → raw_entries_in f (cluster * cluster_size h) entries ≡ raw_entries_in f h.refcount_table_offset (refcount_table_entries h)
from-words f h cluster entries from =
    ap (λ n. raw_entries_in f (n * cluster_size h) entries) from.cluster_is ∙ ap (λ p. raw_entries_in f p entries) (placed-whole h from.placed.aligned)
    ∙ ap (λ n. raw_entries_in f h.refcount_table_offset n) from.entries_are

pub table-loaded : (old : StorageState) (h : Fields) (cluster entries : ℕ) (a : Allocator) (table : TableValue) (new : StorageState)
    → IsLoadedFrom h cluster entries → table ≡ table_in (bytes_of old.bytes) h cluster entries
    → AreSound refcount_table_kind (layout_of h) (raw_entries_in (bytes_of old.bytes) (cluster * cluster_size h) entries)
    → table_of a ≡ table → first_free_of a ≡ 0 → UnchangedButFaults old new → new.faults ≡ old.faults → LoadsAllocator old h (Ok a) new
table-loaded old h cluster entries a table new from is sound same mark kept faults =
    let whole : table_of a ≡ table_in (bytes_of old.bytes) h (h.refcount_table_offset / cluster_size h) (refcount_table_entries h) = same ∙ is ∙ ap (λ n. table_in (bytes_of old.bytes) h n entries) from.cluster_is ∙ ap (λ n. table_in (bytes_of old.bytes) h (h.refcount_table_offset / cluster_size h) n) from.entries_are in
    record {
      ok = (from.placed, whole, mark);
      sound = subst (AreSound refcount_table_kind (layout_of h)) (from-words (bytes_of old.bytes) h cluster entries from) sound;
      table = λ some. subst (λ (t : TableValue). IsTableOf (bytes_of old.bytes) h t) (sym whole) (table-of-file (bytes_of old.bytes) h from.placed some);
      out = λ no. absurd (no from.placed);
      err = λ placed. tt;
      unchanged_but_faults = kept;
      faults = λ whole. (faults, kept.refusals);
    }

pub table-not-loaded : (old : StorageState) (h : Fields) (cluster entries : ℕ) (fault : Fault) (new : StorageState) → IsLoadedFrom h cluster entries → WhyNotLoaded refcount_table_kind (layout_of h) (raw_entries_in (bytes_of old.bytes) (cluster * cluster_size h) entries) old.faults new.faults fault → UnchangedButFaults old new
    → LoadsAllocator old h (Err fault) new
table-not-loaded old h cluster entries fault new from why kept = record {
  ok = tt;
  sound = tt;
  table = tt;
  out = λ no. absurd (no from.placed);
  err = λ placed. why-placed (bytes_of old.bytes) h old.faults new.faults fault from.placed.aligned
      (subst (λ n. WhyNotLoaded refcount_table_kind (layout_of h) (raw_entries_in (bytes_of old.bytes) (h.refcount_table_offset / cluster_size h * cluster_size h) n) old.faults new.faults fault) from.entries_are
      (subst (λ n. WhyNotLoaded refcount_table_kind (layout_of h) (raw_entries_in (bytes_of old.bytes) (n * cluster_size h) entries) old.faults new.faults fault) from.cluster_is why));
  unchanged_but_faults = kept;
  faults = λ not_resource_error. (load-counted refcount_table_kind (layout_of h) (raw_entries_in (bytes_of old.bytes) (cluster * cluster_size h) entries) old.faults new.faults fault why not_resource_error, kept.refusals);
}

-- A file that `check` accepts is consistent, with any header that loads from it.
pub verdict-consistent : (f : Bytes) (found : List (ℕ × ℕ)) (writing : Bool) (H : Header) → IsVerdict f (Ok found) → header_of writing f ≡ Ok H → IsConsistent f H
verdict-consistent f found writing H verdict loads = subst (λ (K : Header). IsConsistent f K) (same (header_of writing f) verdict.0 H (by-kind writing) loads) verdict.1
  where
    by-kind : (kind : Bool) → header_of kind f ≡ Ok verdict.0
    by-kind true = verdict.1.readable.loads
    by-kind false = header-reading f verdict.0 verdict.1.readable.loads

    same : (r : Result Header Fault) (a b : Header) → r ≡ Ok a → r ≡ Ok b → a ≡ b
    same r a b one other = let e = sym one ∙ other in cc

module _ (f : Bytes) (H : Header) (consistent : IsConsistent f H) where
  limited : Limited H.fields
  limited = header-limited true f H consistent.readable.loads

  meanings : ValidEntries f H.fields
  meanings = sound-words f H.fields consistent.readable.tables

  -- The header's cluster is counted, so the refcount table has entries.
  some-words : 0 < refcount_table_entries H.fields
  some-words = elim (cases_eq (refcount_table_entries H.fields) 0) [
    | inr some ↦ omega (arith, some)
    | inl none ↦
        let none-counted = count-beyond f H.fields 0 (some-counters H.fields (shaped-in f H consistent)) (rw none (omega arith)) in
        let part = header-part f H.fields (meets H.fields 0) in
        let at : 0 ≡ 0 * cluster_size H.fields = omega arith in
        let one : meets H.fields 0 0 (cluster_size H.fields) ≡ 1 = ap (λ n. meets H.fields 0 n (cluster_size H.fields)) at ∙ meets-own H.fields 0 in
        let le = structure-le-refs f H.fields 0 in
        let covers = named-counted f H consistent 0 in
        absurd (omega (arith, none-counted, part, one, le, covers))
  ]

  -- The refcount table is aligned and addressable, like the L1 table.
  reftable-placed : IsTablePlaced H.fields
  reftable-placed = record {
    aligned = let whole = place-whole H.fields.cluster_bits H.fields.refcount_table_offset limited.refcount_place in omega (arith, div-add-mod H.fields.refcount_table_offset (cluster_size H.fields), whole);
    reach = place-near H.fields.cluster_bits H.fields.refcount_table_offset limited.refcount_place;
  }

  l1-whole : H.fields.l1_offset / cluster_size H.fields * cluster_size H.fields ≡ H.fields.l1_offset
  l1-whole = place-whole H.fields.cluster_bits H.fields.l1_offset limited.l1_place

  -- Loading a table with valid entries fails only if memory runs out or the storage fails.
  loads-but : (kind : Kind) (place n : ℕ) → ((i : ℕ) → i < n → IsTrue (raw_entry_valid kind (layout_of H.fields) (raw_entry f place i))) → n ≤ max_entries kind
      → (before after : ℕ) (fault : Fault) → WhyNotLoaded kind (layout_of H.fields) (raw_entries_in f place n) before after fault → Cause before after fault
  loads-but kind place n sound few before after (Limit number) why =
      let same = why.0 in
      let more = why.1 in
      let long = length-map-range_with_len (raw_entry f place) 0 n in
      absurd (omega (arith, few, same, more, long))
  loads-but kind place n sound few before after DamagedTable why =
      let bad = why.0 in
      let inside : bad.0 < n = let lt = bad.1 in let long = length-map-range_with_len (raw_entry f place) 0 n in omega (arith, lt, long) in
      let read : slice_index (raw_entries_in f place n) bad.0 ≡ raw_entry f place bad.0 = get_or-map-range_with_len (raw_entry f place) 0 n bad.0 bad.0 0 inside (omega arith) in
      let good = sound bad.0 inside in
      let no : raw_entry_valid kind (layout_of H.fields) (raw_entry f place bad.0) ≡ false = subst (λ w. raw_entry_valid kind (layout_of H.fields) w ≡ false) read bad.2 in
      absurd (let e = sym good ∙ no in cc)
  loads-but kind place n sound few before after fault why = why

  pub allocator-refused : (s s' : StorageState) (fault : Fault) → bytes_of s.bytes ≡ f → LoadsAllocator s H.fields (Err fault) s' → Cause s.faults s'.faults fault
  allocator-refused s s' fault is loads =
      loads-but refcount_table_kind H.fields.refcount_table_offset (refcount_table_entries H.fields) meanings.blocks limited.refcount_entries s.faults s'.faults fault
      (subst (λ (g : Bytes). WhyNotLoaded refcount_table_kind (layout_of H.fields) (raw_entries_in g H.fields.refcount_table_offset (refcount_table_entries H.fields)) s.faults s'.faults fault) is (loads.err reftable-placed))

  pub l1-refused : (before after : ℕ) (fault : Fault) → WhyNotLoaded l1_table_kind (layout_of H.fields) (raw_entries_in f (H.fields.l1_offset / cluster_size H.fields * cluster_size H.fields) H.fields.l1_entries) before after fault → Cause before after fault
  l1-refused before after fault why =
      loads-but l1_table_kind H.fields.l1_offset H.fields.l1_entries meanings.l1 limited.l1_entries before after fault
      (subst (λ p. WhyNotLoaded l1_table_kind (layout_of H.fields) (raw_entries_in f p H.fields.l1_entries) before after fault) l1-whole why)

  pub l1-loaded : IsL1Of f H.fields (table_in f H.fields (H.fields.l1_offset / cluster_size H.fields) H.fields.l1_entries)
  unfolding l1_table_sound
  l1-loaded = record {
    layout = refl;
    raw_entries = ap (λ p. raw_entries_in f p H.fields.l1_entries) l1-whole;
    sound = all-below-holds H.fields.l1_entries (λ i. l1_entry_valid H.fields.cluster_bits (raw_entry f H.fields.l1_offset i)) meanings.l1;
  }

  pub opened-sound : (s s' : StorageState) (allocator : Allocator) → bytes_of s.bytes ≡ f → LoadsAllocator s H.fields (Ok allocator) s' → IsSound (opened (bytes_of s'.bytes) H (table_of allocator))
  opened-sound s s' allocator is loads =
      subst (λ (g : Bytes). IsSound (opened g H (table_of allocator))) (sym (ap bytes_of loads.unchanged_but_faults.bytes ∙ is))
      (safe-sound f H (record { tables = []; blocks = [] }) Unset (table_of allocator) (empty-safe f H consistent)
      (subst (λ (g : Bytes). IsTableOf g H.fields (table_of allocator)) is (loads.table some-words)))
