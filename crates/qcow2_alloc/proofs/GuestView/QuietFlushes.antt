-- Flushes, changes of the order and uses of the caches leave the guest unchanged.
use Rattle.std.proofs.Common.{◌≡◌, ℕ, ◌+◌, ◌≤◌, refl, arith, ap, sym, subst, ◌∙◌, List, inl}
use Rattle.std.specs.Prelude.{◌⊎◌}
use Rattle.imago_storage.specs.State.{StorageState}
use Rattle.imago_storage.proofs.Composing.{no_stops, stops_weaker, later_same}
use Rattle.qcow2_types.specs.Bytes.{Bytes, bytes_of}
use Rattle.qcow2_types.specs.Header.{Fields}
use Rattle.qcow2_types.specs.Counts.{block_at, count}
use Rattle.qcow2_types.specs.References.{meets, refs}
use Rattle.qcow2_types.specs.Slots.{slot}
use Rattle.qcow2_types.specs.Versions.{references_in_either}
use Rattle.qcow2_types.proofs.Counting.Either.{structure-same, named-falls}
use Rattle.qcow2_metadata.specs.Tables.{TableValue}
use Rattle.qcow2_alloc.specs.declared.cache.CacheDependency.{CacheDependency}
use Rattle.qcow2_alloc.specs.Memory.{Cached, memory}
use Rattle.qcow2_alloc.specs.WellFormedness.{WellFormed, IsCrashImage, NoChangeRefused, IsSettled}
use Rattle.qcow2_alloc.specs.Changes.{StaysAsItIs}
use Rattle.qcow2_alloc.specs.Going.{WritesBackCached, Always}
use Rattle.qcow2_alloc.specs.GuestView.{IsTableOf, Metadata, in_memory, counted, referenced, waiting, IsSound, GuestUnchanged, IsIn, PreservesGuest}
use Rattle.qcow2_alloc.proofs.Flushing.WriteSequences.{left-same}
use Rattle.qcow2_alloc.proofs.GuestView.ShownDisks.{left-shows, left-same-there}

pub still-table : (f x : Bytes) (h : Fields) (table : TableValue) → ((i : ℕ) → block_at x h i ≡ block_at f h i) → IsTableOf f h table → IsTableOf x h table
still-table f x h table same is = record { layout = is.layout; long = is.long; placed = is.placed; names = λ i lt. is.names i lt ∙ sym (same i) }

-- Memory is unchanged, and the file is a crash image of a flush.
module _ (m : Metadata) (x : Bytes) (cached' : Cached) (order' : CacheDependency) (sound : IsSound m) (well_formed : WellFormed x m.header cached' order') (same : memory x m.header.fields cached' ≡ in_memory m) (left : IsCrashImage m.file (in_memory m) m.header x) where
  names-no-more : (c : ℕ) → references_in_either x (memory x m.header.fields cached') m.header.fields c ≤ references_in_either m.file (in_memory m) m.header.fields c
  names-no-more c =
      subst (λ (g : Bytes). references_in_either x g m.header.fields c ≤ references_in_either m.file (in_memory m) m.header.fields c) (sym same) (named-falls m.file x (in_memory m) m.header.fields c left.raw_entries)

  still-sound : IsSound (record m { file = x; cached = cached'; order = order' })
  still-sound = record {
    well_formed = well_formed;
    table = still-table m.file x m.header.fields m.table left.raw_entries.places.blocks sound.table;
    covered = λ c. subst (λ (g : Bytes). refs g m.header.fields c + waiting m c ≤ count g m.header.fields c) (sym same) (sound.covered c);
    not_referenced = λ c some. let none = sound.not_referenced c some in omega (arith, none, names-no-more c);
  }

  still-quiet : GuestUnchanged (λ _. 0) (λ _. 0) m (record m { file = x; cached = cached'; order = order' })
  still-quiet = record {
    shows = left-shows m x sound left;
    raw_entries = λ i j live. ap (λ (g : Bytes). slot g m.header.fields i j) same;
    used_bytes_unchanged = λ c used none. left-same-there m.file m.header m.cached m.order sound.well_formed x left c used.apart;
    apart = λ c used none. structure-same m.file x m.header.fields left.raw_entries.places (meets m.header.fields c) ∙ used.apart;
    waits = λ c used none. omega arith;
    law = λ c.
        let counts : count (memory x m.header.fields cached') m.header.fields c ≡ counted m c = ap (λ (g : Bytes). count g m.header.fields c) same in
        let references : refs (memory x m.header.fields cached') m.header.fields c ≡ referenced m c = ap (λ (g : Bytes). refs g m.header.fields c) same in
        omega (arith, counts, references);
  }

  pub stays-quiet : IsSound (record m { file = x; cached = cached'; order = order' }) × GuestUnchanged (λ _. 0) (λ _. 0) m (record m { file = x; cached = cached'; order = order' })
  stays-quiet = (still-sound, still-quiet)

pub quiet-none : (m : Metadata) → IsSound m → GuestUnchanged (λ _. 0) (λ _. 0) m m
quiet-none m sound = still-quiet m m.file m.cached m.order sound sound.well_formed refl (left-same m.file (in_memory m) m.header sound.well_formed.consistent)

pub used-quiet : (m : Metadata) (cached' : Cached) → IsSound m → StaysAsItIs m.file m.header m.cached m.order cached' → IsSound (record m { cached = cached' }) × GuestUnchanged (λ _. 0) (λ _. 0) m (record m { cached = cached' })
used-quiet m cached' sound stays = stays-quiet m m.file cached' m.order sound stays.well_formed stays.memory_same (left-same m.file (in_memory m) m.header sound.well_formed.consistent)

pub order-quiet : (m : Metadata) (order' : CacheDependency) → IsSound m → WellFormed m.file m.header m.cached order' → IsSound (record m { order = order' }) × GuestUnchanged (λ _. 0) (λ _. 0) m (record m { order = order' })
order-quiet m order' sound well_formed = stays-quiet m m.file m.cached order' sound well_formed refl (left-same m.file (in_memory m) m.header sound.well_formed.consistent)

pub settled-quiet : (m : Metadata) (old new : List ℕ) (cached' : Cached) → m.file ≡ bytes_of old → IsSound m → IsSettled m.header m.order old m.cached new cached'
    → IsSound (record m { file = bytes_of new; cached = cached' }) × GuestUnchanged (λ _. 0) (λ _. 0) m (record m { file = bytes_of new; cached = cached' })
settled-quiet m old new cached' at sound settled =
    stays-quiet m (bytes_of new) cached' m.order sound settled.well_formed
    (settled.memory_same ∙ sym (ap (λ (f : Bytes). memory f m.header.fields m.cached) at))
    (subst (λ (f : Bytes). IsCrashImage f (memory f m.header.fields m.cached) m.header (bytes_of new)) (sym at) settled.left)

-- Flushes preserve the guest. `IsSound` holds even after a failed flush, if a storage that exposes its crash images refused no change.
pub flushes-quietly : (m : Metadata) (ok : Type 0) (old new : StorageState) (cached' : Cached) → IsIn old m → WritesBackCached m.header m.order Always ok old m.cached new cached'
    → PreservesGuest (ok ⊎ NoChangeRefused old new) (λ _. 0) (λ _. 0) old m new (record m { file = bytes_of new.bytes; cached = cached' })
flushes-quietly m ok old new cached' at going = record {
  shape = going.shape;
  counts_not_fallen = going.counts_not_fallen;
  passes = λ keeps sound no_change_refused.
      let told = going.passes keeps (safe-there sound) tt no_change_refused in
      (told.0, stops_weaker _ _ old new (λ _ x left. (m.header, left-shows m (bytes_of x) sound (left-there x left))) told.1);
  holds = λ keeps sound why. settled-quiet m old.bytes new.bytes cached' at sound (going.holds keeps (safe-there sound) tt why);
}
  where
    safe-there : IsSound m → WellFormed (bytes_of old.bytes) m.header m.cached m.order
    safe-there sound = subst (λ (f : Bytes). WellFormed f m.header m.cached m.order) at sound.well_formed

    left-there : (x : List ℕ) → IsCrashImage (bytes_of old.bytes) (memory (bytes_of old.bytes) m.header.fields m.cached) m.header (bytes_of x) → IsCrashImage m.file (in_memory m) m.header (bytes_of x)
    left-there x left = subst (λ (f : Bytes). IsCrashImage f (memory f m.header.fields m.cached) m.header (bytes_of x)) (sym at) left

-- The success condition may be replaced by a stronger one.
pub quietly-weaker : (ok ok' : Type 0) (handed taken : ℕ → ℕ) (s : StorageState) (m : Metadata) (s' : StorageState) (m' : Metadata) → (IsSound m → ok' → ok) → PreservesGuest ok handed taken s m s' m' → PreservesGuest ok' handed taken s m s' m'
quietly-weaker ok ok' handed taken s m s' m' from quietly = record {
  shape = quietly.shape;
  counts_not_fallen = quietly.counts_not_fallen;
  passes = quietly.passes;
  holds = λ keeps sound done. quietly.holds keeps sound (from sound done);
}

pub going-quietly : (m : Metadata) (ok : Type 0) (old new : StorageState) (cached' : Cached) → IsIn old m → WritesBackCached m.header m.order Always ok old m.cached new cached'
    → PreservesGuest ok (λ _. 0) (λ _. 0) old m new (record m { file = bytes_of new.bytes; cached = cached' })
going-quietly m ok old new cached' at going =
    quietly-weaker (ok ⊎ NoChangeRefused old new) ok (λ _. 0) (λ _. 0) old m new (record m { file = bytes_of new.bytes; cached = cached' }) (λ sound done. inl done) (flushes-quietly m ok old new cached' at going)

-- A change in memory makes no request.
pub memory-quietly : (ok : Type 0) (handed taken : ℕ → ℕ) (s : StorageState) (m m' : Metadata) → (IsSound m → ok → IsSound m' × GuestUnchanged handed taken m m') → PreservesGuest ok handed taken s m s m'
memory-quietly ok handed taken s m m' guest_unchanged = record {
  shape = refl;
  counts_not_fallen = later_same s;
  passes = λ keeps sound no_change_refused. (λ same. same, no_stops _ s s refl refl);
  holds = λ keeps sound done. guest_unchanged sound done;
}
