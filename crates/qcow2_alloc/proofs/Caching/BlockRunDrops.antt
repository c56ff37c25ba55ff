-- Dropping the cached blocks of a run of unreferenced clusters, in order.
use Rattle.std.proofs.Common.{◌≡◌, ℕ, ◌+◌, ◌<◌, refl, arith, ap, sym, subst, ◌∙◌, Ok, None, inl, inr}
use Rattle.std.specs.Prelude.{nat_eq, IsSomeAnd}
use Rattle.std.specs.Map.{lookup, remove_entry}
use Rattle.std.proofs.lemmas.Bool.{cases_eq}
use Rattle.qcow2_types.specs.Bytes.{Bytes}
use Rattle.qcow2_types.specs.Counts.{count}
use Rattle.qcow2_types.specs.Versions.{references_in_either}
use Rattle.qcow2_alloc.specs.declared.cache.MetadataCaches.{MetadataCaches}
use Rattle.qcow2_alloc.specs.Caches.{cached_in, KeepsTables}
use Rattle.qcow2_alloc.specs.CachesLending.{with_blocks}
use Rattle.qcow2_alloc.specs.Finding.{PinsNothing}
use Rattle.qcow2_alloc.specs.Memory.{Cached}
use Rattle.qcow2_alloc.specs.MovingTables.{StaysInMemory, ForgetsRun, IsPinnedWithin, with_cached}
use Rattle.qcow2_alloc.specs.GuestView.{Metadata, counted, referenced_at_all, IsSound}
use Rattle.qcow2_alloc.proofs.Caching.Entries.{remove_absent}
use Rattle.qcow2_alloc.proofs.Caching.BlockDrops.{forgotten-quiet, forgotten-stays, removed-apart}
use Rattle.qcow2_alloc.proofs.GuestView.QuietFlushes.{quiet-none}
use Rattle.qcow2_alloc.proofs.Caching.Pins.{pinned-there, pins-removed}
use Rattle.qcow2_alloc.proofs.GuestView.QuietSequences.{quiet-then, quiet-otherwise}

pub memory-counts : (m : Metadata) (cached' : Cached) → StaysInMemory m (with_cached m cached') → (c : ℕ) → counted (with_cached m cached') c ≡ counted m c
memory-counts m cached' stays c = ap (λ (g : Bytes). count g m.header.fields c) stays.memory_same

pub memory-names : (m : Metadata) (cached' : Cached) → StaysInMemory m (with_cached m cached') → (c : ℕ) → referenced_at_all (with_cached m cached') c ≡ referenced_at_all m c
memory-names m cached' stays c = ap (λ (g : Bytes). references_in_either m.file g m.header.fields c) stays.memory_same

stays-then : (m m1 m2 : Metadata) → IsSound m → StaysInMemory m m1 → StaysInMemory m1 m2 → StaysInMemory m m2
stays-then m m1 m2 sound one two = record {
  sound = two.sound;
  guest_unchanged = quiet-otherwise m m2 (λ c. 0 + 0) (λ c. 0 + 0) (λ _. 0) (λ _. 0) (λ c. refl) (λ c used none. refl)
      (quiet-then m m1 m2 (λ _. 0) (λ _. 0) (λ _. 0) (λ _. 0) sound one.sound (λ c some. refl) one.guest_unchanged two.guest_unchanged);
  memory_same = two.memory_same ∙ one.memory_same;
}

pub forgets-none : (first : ℕ) (cached : Cached) → ForgetsRun first 0 cached (Ok tt) cached
forgets-none first cached = record {
  stays = λ m sound free. (record { sound = sound; guest_unchanged = quiet-none (with_cached m cached) sound; memory_same = refl }, λ d from to. absurd (omega (arith, from, to)));
}

pub forgets-then : (first n : ℕ) (old mid new : Cached) → new ≡ record mid { blocks = remove_entry (nat_eq (first + n)) mid.blocks } → ForgetsRun first n old (Ok tt) mid → ForgetsRun first (n + 1) old (Ok tt) new
forgets-then first n old mid new is one = subst (λ (c : Cached). ForgetsRun first (n + 1) old (Ok tt) c) (sym is) (record {
  stays = λ m sound free.
      let was = one.stays m sound (λ d from to. free d from (omega (arith, to))) in
      let not_referenced : referenced_at_all (with_cached m mid) (first + n) ≡ 0 = memory-names (with_cached m old) mid was.0 (first + n) ∙ free (first + n) (omega arith) (omega arith) in
      let forgotten = forgotten-quiet (with_cached m mid) (first + n) was.0.sound not_referenced in
      let next : StaysInMemory (with_cached m mid) (with_cached m (record mid { blocks = remove_entry (nat_eq (first + n)) mid.blocks })) =
      record { sound = forgotten.0; guest_unchanged = forgotten.1; memory_same = (forgotten-stays (with_cached m mid) (first + n) was.0.sound not_referenced).memory_same } in (
        stays-then (with_cached m old) (with_cached m mid) (with_cached m (record mid { blocks = remove_entry (nat_eq (first + n)) mid.blocks })) sound was.0 next,
        λ d from to. elim (cases_eq d (first + n)) [
          | inl here ↦ subst (λ (k : ℕ). lookup (nat_eq k) (remove_entry (nat_eq (first + n)) mid.blocks) ≡ None) (sym here) (removed-apart (first + n) mid.blocks was.0.sound.well_formed.blocks_apart).0
          | inr away ↦ remove_absent (nat_eq (first + n)) (nat_eq d) mid.blocks (was.1 d from (omega (arith, to, away)))
        ],
      );
})

-- Dropping a block keeps the write order and the L2 tables, and pins nothing.
pub forgotten-leaves : {S : Type 0} (mid new : MetadataCaches S) (key : ℕ) → new ≡ with_blocks mid (remove_entry (nat_eq key) (cached_in mid).blocks) → (new.order ≡ mid.order) × PinsNothing (cached_in mid).blocks (cached_in new).blocks × KeepsTables mid new
forgotten-leaves {S} mid new key is = subst (λ (c : MetadataCaches S). (c.order ≡ mid.order) × PinsNothing (cached_in mid).blocks (cached_in c).blocks × KeepsTables mid c) (sym is) (
  refl,
  pins-removed (nat_eq key) (cached_in mid).blocks,
  record { tables = refl; blocks = refl; entries = refl },
)

-- If dropping fails, a block of the run is pinned.
pub pinned-within : {S : Type 0} (old mid : MetadataCaches S) (first n index : ℕ) → index < n → PinsNothing (cached_in old).blocks (cached_in mid).blocks → IsSomeAnd (lookup (nat_eq (first + index)) (cached_in mid).blocks) (λ s. 0 < s.pins) → IsPinnedWithin first n old
pinned-within old mid first n index inside pins pinned = (
  first + index,
  omega arith,
  omega (arith, inside),
  (let some = pinned-there (first + index) (cached_in mid).blocks pinned in let le = pins.among (nat_eq (first + index)) in omega (arith, some, le)),
)
