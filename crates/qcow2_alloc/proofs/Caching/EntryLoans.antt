-- Using a table or block that was found in its cache.
use Rattle.std.proofs.Common.{◌≡◌, ℕ, refl, subst, Some, Result, Ok, inr}
use Rattle.std.specs.Prelude.{IsOk, IfOk, nat_eq}
use Rattle.std.specs.Option.{option_map}
use Rattle.std.specs.Map.{lookup}
use Rattle.std.specs.Borrow.{MutBor}
use Rattle.imago_storage.specs.declared.fault.Fault.{Fault}
use Rattle.qcow2_alloc.specs.declared.cache.MetadataCaches.{MetadataCaches}
use Rattle.qcow2_alloc.specs.declared.file.ImageFile.{ImageFile}
use Rattle.qcow2_alloc.specs.Allocators.{UsesEntry}
use Rattle.qcow2_alloc.specs.Cache.{hit}
use Rattle.qcow2_alloc.specs.Caches.{cached_file}
use Rattle.qcow2_alloc.specs.CachesLending.{OneCache}
use Rattle.qcow2_alloc.specs.Finding.{EntryFound}

module _ {S V W A B T : Type 0} (cache : OneCache S V W A B) (cluster : ℕ) (does : V → Result T Fault → V → Type 0)
    (old : MetadataCaches S) (before : ImageFile S) (new : MetadataCaches S) (after : ImageFile S) where
  abbrev Left : Result (MutBor V) Fault → V → Type 0
  Left lent value' = IsOk lent
      → (mid : MetadataCaches S) × EntryFound cache.kind cluster (cache.see old) before (Ok tt) (cache.see mid) after
      × IfOk lent (λ v. option_map (λ s. s.value) (lookup (nat_eq cluster) (cache.see mid).own.slots.entries) ≡ Some v.now)
      × (new ≡ cache.put mid (hit (nat_eq cluster) (cache.see mid).own.slots.entries value'))

  pub entry-used : (lent : Result (MutBor V) Fault) (entry : MutBor V) (result : Result T Fault) (value' : V) → lent ≡ Ok entry
      → Left lent value' → does entry.now result value'
      → UsesEntry cache cluster does (cached_file old before) result (cached_file new after)
  entry-used lent entry result value' is holds used =
      let h = subst (λ r. Left r value') is holds refl in
      inr (record { mid = h.0; found = h.1; value = entry.now; value' = value'; value_cached = h.2; used = used; left = h.3 })
