-- The capacity and the pins after calls of the caches.
use Rattle.std.proofs.Common.{◌≡◌, ◌≢◌, ℕ, ◌/◌, ◌^◌, refl, arith, ap, sym, subst, ◌∙◌, Option, None, Some, Result, Ok, Err, true, inl, inr, Bool, false, ◌<◌}
use Rattle.std.specs.Prelude.{MatchOption, map, nat_eq, slice_index, ◌==◌, if◌then◌else◌}
use Rattle.std.proofs.lemmas.Bool.{cases_eq}
use Rattle.imago_storage.specs.State.{StorageState}
use Rattle.imago_storage.specs.declared.fault.Fault.{Fault}
use Rattle.qcow2_types.specs.Words.{block_offset}
use Rattle.qcow2_metadata.specs.Blocks.{Block}
use Rattle.qcow2_metadata.specs.Tables.{TableValue}
use Rattle.qcow2_alloc.specs.declared.cache.MetadataCaches.{MetadataCaches}
use Rattle.qcow2_alloc.specs.declared.file.ImageFile.{ImageFile}
use Rattle.qcow2_alloc.specs.Allocators.{UsesBlock, BlockUsed, referenced_block}
use Rattle.qcow2_alloc.specs.Caches.{cached_in, HasRoomOf, KeepsTables, cached_file}
use Rattle.qcow2_alloc.specs.Finding.{BlockFound, IsPinnedFull, PinsNothing, pinned_in}
use Rattle.qcow2_alloc.specs.Freeing.{HasUnpinnedSlot, HasUnpinnedRoom}
use Rattle.qcow2_alloc.specs.Memory.{Cached, written, written_table}
use Rattle.qcow2_alloc.proofs.Caching.Pins.{full-pinned, pinned-less, pins-hit, pins-none, pins-then}

-- `HasUnpinnedSlot` and `HasUnpinnedRoom` are kept if nothing more is pinned and the capacity is the same.
pub spare-on : {S : Type 0} (old new : MetadataCaches S) → PinsNothing (cached_in old).blocks (cached_in new).blocks → new.rb.slots.cap ≡ old.rb.slots.cap → HasUnpinnedSlot old → HasUnpinnedSlot new
spare-on old new pins room spare = let le = pins.among (λ _. true) in omega (arith, le, room, spare)

pub loose-on : {S : Type 0} (table : TableValue) (old new : MetadataCaches S) → PinsNothing (cached_in old).blocks (cached_in new).blocks → new.rb.slots.cap ≡ old.rb.slots.cap → (any : Bool) → HasUnpinnedRoom table old any → HasUnpinnedRoom table new any
loose-on table old new pins room any loose = record {
  room = spare-on old new pins room loose.room;
  named = λ key some. loose.named key (let le = pins.among (nat_eq key) in omega (arith, le, some));
}

-- `HasUnpinnedRoom` also holds for a table that references at least the same blocks.
pub loose-named : {S : Type 0} (table table' : TableValue) (caches : MetadataCaches S) → ((i key : ℕ) → referenced_block table i ≡ Some key → referenced_block table' i ≡ Some key) → (any : Bool) → HasUnpinnedRoom table caches any → HasUnpinnedRoom table' caches any
loose-named table table' caches kept any loose = record {
  room = loose.room;
  named = λ key some. let there = loose.named key some in (there.0, (there.1.0, kept there.1.0 key there.1.1));
}

abbrev named_by : ℕ → ℕ → Option ℕ
named_by raw_entry bits = if raw_entry == 0 then None else Some (raw_entry / 2 ^ bits)

pub name-kept : (table table' : TableValue) (i key : ℕ) → table'.layout.cluster_bits ≡ table.layout.cluster_bits → (block_offset (slice_index table.raw_entries i) ≢ 0 → block_offset (slice_index table'.raw_entries i) ≡ block_offset (slice_index table.raw_entries i))
    → referenced_block table i ≡ Some key → referenced_block table' i ≡ Some key
name-kept table table' i key bits has_no_dirty_data named = elim (cases_eq (block_offset (slice_index table.raw_entries i)) 0) [
  | inl none ↦ absurd (let no : None ≡ Some key = sym (rw none refl) ∙ named in cc)
  | inr some ↦ ap (λ w. named_by w table'.layout.cluster_bits) (has_no_dirty_data some) ∙ ap (λ b. named_by (block_offset (slice_index table.raw_entries i)) b) bits ∙ named
]

-- If nothing is pinned, no pin bars a new block, even without `IsSound`.
pub loose-none : {S : Type 0} (table : TableValue) (caches : MetadataCaches S) → pinned_in (cached_in caches).blocks ≡ 0 → 0 < caches.rb.slots.cap → HasUnpinnedRoom table caches false
loose-none table caches none some = record {
  room = omega (arith, none, some);
  named = λ key is. absurd (let le = pinned-less (nat_eq key) (cached_in caches).blocks in omega (arith, le, none, is));
}

pub loose-all : {S : Type 0} (table : TableValue) (caches : MetadataCaches S) (any : Bool) → HasUnpinnedRoom table caches any → HasUnpinnedRoom table caches true
loose-all table caches any loose = record { room = loose.room; named = λ key some. (refl, (loose.named key some).1) }

pub loose-never : {S : Type 0} (table : TableValue) (caches : MetadataCaches S) (any : Bool) → HasUnpinnedRoom table caches any → IsPinnedFull caches.rb.slots.cap (cached_in caches).blocks → ⊥
loose-never table caches any loose full = let all = full-pinned (cached_in caches).blocks full in let spare = loose.room in omega (arith, all, spare)

-- Flushes keep the L2 tables.
pub kept-tables : {S : Type 0} (old new : MetadataCaches S) → written (cached_in new) ≡ written (cached_in old) → HasRoomOf old new → KeepsTables old new
kept-tables old new kept room = record { tables = room.tables; blocks = room.blocks; entries = ap (λ (c : Cached). c.tables) kept }

-- The header, the order, the capacities and the L2 tables are unchanged, and nothing more is pinned.
pub record KeepsPins {S : Type 0} (old : MetadataCaches S) (before : ImageFile S) (new : MetadataCaches S) (after : ImageFile S) : Type 0 where
  pub header : after.header ≡ before.header
  pub order : new.order ≡ old.order
  pub pins : PinsNothing (cached_in old).blocks (cached_in new).blocks
  pub room : KeepsTables old new

-- Like `KeepsPins`, but of the pins only `HasUnpinnedRoom` is known.
pub record StaysLoose {S : Type 0} (table : TableValue) (old : MetadataCaches S) (before : ImageFile S) (new : MetadataCaches S) (after : ImageFile S) : Type 0 where
  pub header : after.header ≡ before.header
  pub order : new.order ≡ old.order
  pub loose : (any : Bool) → HasUnpinnedRoom table old any → HasUnpinnedRoom table new any
  pub room : KeepsTables old new

pub stays-loose : {S : Type 0} (table : TableValue) (old : MetadataCaches S) (before : ImageFile S) (new : MetadataCaches S) (after : ImageFile S) → KeepsPins old before new after → StaysLoose table old before new after
stays-loose table old before new after keeps = record { header = keeps.header; order = keeps.order; loose = loose-on table old new keeps.pins keeps.room.blocks; room = keeps.room }

module _ {S : Type 0} (state : S → StorageState) where
  pub found-keeps : (key : ℕ) (old : MetadataCaches S) (before : ImageFile S) (answer : Result Unit Fault) (new : MetadataCaches S) (after : ImageFile S) → BlockFound state key old before answer new after → KeepsPins old before new after
  found-keeps key old before answer new after found = record {
    header = found.others.1;
    order = found.others.0;
    pins = found.sought.pinned;
    room = record { tables = found.room.1; blocks = found.room.0; entries = found.other_unchanged };
  }

  pub found-stays : (table : TableValue) (key : ℕ) (old : MetadataCaches S) (before : ImageFile S) (answer : Result Unit Fault) (new : MetadataCaches S) (after : ImageFile S) → BlockFound state key old before answer new after → StaysLoose table old before new after
  found-stays table key old before answer new after found = stays-loose table old before new after (found-keeps key old before answer new after found)

  pub used-keeps : {T : Type 0} (key : ℕ) (does : Block → Result T Fault → Block → Type 0) (old : MetadataCaches S) (before : ImageFile S) (result : Result T Fault) (new : MetadataCaches S) (after : ImageFile S)
      → BlockUsed state key does (cached_file old before) result (cached_file new after) → KeepsPins old before new after
  used-keeps key does old before result new after u =
      let mid = found-keeps key old before (Ok tt) u.mid after u.found in
      let room : KeepsTables old new = record {
        tables = ap (λ (m : MetadataCaches S). m.l2.slots.cap) u.left ∙ mid.room.tables;
        blocks = ap (λ (m : MetadataCaches S). m.rb.slots.cap) u.left ∙ mid.room.blocks;
        entries = ap (λ (m : MetadataCaches S). map written_table (cached_in m).tables) u.left ∙ mid.room.entries;
      } in
      let pins : PinsNothing (cached_in old).blocks (cached_in new).blocks = subst (λ (m : MetadataCaches S). PinsNothing (cached_in old).blocks (cached_in m).blocks) (sym u.left)
      (pins-then (cached_in old).blocks (cached_in u.mid).blocks _ mid.pins (pins-hit key (cached_in u.mid).blocks u.value')) in
      record {
        header = mid.header;
        order = ap (λ (m : MetadataCaches S). m.order) u.left ∙ mid.order;
        pins = pins;
        room = room;
      }

  pub used-stays : {T : Type 0} (table : TableValue) (key : ℕ) (does : Block → Result T Fault → Block → Type 0) (old : MetadataCaches S) (before : ImageFile S) (result : Result T Fault) (new : MetadataCaches S) (after : ImageFile S)
      → BlockUsed state key does (cached_file old before) result (cached_file new after) → StaysLoose table old before new after
  used-stays table key does old before result new after u = stays-loose table old before new after (used-keeps key does old before result new after u)

  pub uses-keeps : {T : Type 0} (key : ℕ) (does : Block → Result T Fault → Block → Type 0) (old : MetadataCaches S) (before : ImageFile S) (result : Result T Fault) (new : MetadataCaches S) (after : ImageFile S)
      → UsesBlock state key does (cached_file old before) result (cached_file new after) → KeepsPins old before new after
  uses-keeps key does old before result new after (inl (fault, is, found)) = found-keeps key old before (Err fault) new after found
  uses-keeps key does old before result new after (inr u) = used-keeps key does old before result new after u

  -- A block is used, if the refcount table references one.
  pub named-keeps : {T : Type 0} (o : Option ℕ) (does : Block → Result T Fault → Block → Type 0) (Refused : Type 0) (old : MetadataCaches S) (before : ImageFile S) (result : Result T Fault) (new : MetadataCaches S) (after : ImageFile S)
      → MatchOption o (Refused × (new ≡ old) × (after ≡ before)) (λ key. UsesBlock state key does (cached_file old before) result (cached_file new after)) → KeepsPins old before new after
  named-keeps None does Refused old before result new after (is, same, same') = record {
    header = ap (λ (f : ImageFile S). f.header) same';
    order = ap (λ (m : MetadataCaches S). m.order) same;
    pins = pins-none (cached_in old).blocks (cached_in new).blocks (ap (λ (m : MetadataCaches S). (cached_in m).blocks) same);
    room = record {
      tables = ap (λ (m : MetadataCaches S). m.l2.slots.cap) same;
      blocks = ap (λ (m : MetadataCaches S). m.rb.slots.cap) same;
      entries = ap (λ (m : MetadataCaches S). map written_table (cached_in m).tables) same;
    };
  }
  named-keeps (Some key) does Refused old before result new after uses = uses-keeps key does old before result new after uses
