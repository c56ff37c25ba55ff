-- Cached tables and blocks after a flush.
use Rattle.std.proofs.Common.{◌≡◌, ℕ, refl, ap, ◌∙◌, Bool, true, false, ◌*◌, ◌^◌, arith, Result, Ok, Err, inl, inr}
use Rattle.std.proofs.lemmas.Bool.{cases_Bool, cases_lt}
use Rattle.imago_storage.specs.State.{StorageState}
use Rattle.imago_storage.specs.declared.fault.Fault.{Fault}
use Rattle.qcow2_types.specs.Words.{max_offset}
use Rattle.qcow2_metadata.specs.Places.{IsAddressable}
use Rattle.qcow2_metadata.specs.Tables.{TableValue}
use Rattle.qcow2_metadata.specs.Blocks.{Block}
use Rattle.qcow2_alloc.specs.declared.async_lru_cache.Slot.{Slot}
use Rattle.qcow2_alloc.specs.Backends.{Flushed, WrittenKind, TableFlushed, BlockFlushed, written_tables, written_blocks}
use Rattle.qcow2_alloc.specs.Memory.{written_table, written_block}

-- For any entry kind, if `written` ignores the dirty flag.
entry-kept : {V : Type 0} (kind : WrittenKind V) (written : ℕ × Slot V → ℕ × Slot V) → ((key : ℕ) (slot : Slot V) (modified : Bool) → written (key, record slot { value = kind.marked slot.value key modified }) ≡ written (key, slot))
    → (key : ℕ) (slot : Slot V) (old : StorageState) (result : Result Unit Fault) (new : StorageState) (v' : V) → Flushed kind old key slot.value result new v' → written (key, record slot { value = v' }) ≡ written (key, slot)
entry-kept kind written marks key slot old result new v' flushed = elim (cases_Bool (kind.modified slot.value)) [
  | inr clean ↦ as-one slot.value (flushed.clean clean).2 refl
  | inl modified ↦ elim (cases_lt max_offset (key * 2 ^ kind.cluster_bits slot.value)) [
    | inl far ↦ as-one slot.value (flushed.out modified (λ reach. omega (arith, far, reach))).2 refl
    | inr reach ↦ by-answer result flushed modified reach
  ]
]
  where
    as-one : (v : _) → v' ≡ v → written (key, record slot { value = v }) ≡ written (key, slot) → written (key, record slot { value = v' }) ≡ written (key, slot)
    as-one v same is = ap (λ (w : _). written (key, record slot { value = w })) same ∙ is

    by-answer : (result : Result Unit Fault) → Flushed kind old key slot.value result new v' → kind.modified slot.value ≡ true → IsAddressable (kind.cluster_bits slot.value) key
        → written (key, record slot { value = v' }) ≡ written (key, slot)
    by-answer (Ok done) flushed modified reach = as-one (kind.marked slot.value key false) (flushed.ok modified) (marks key slot false)
    by-answer (Err fault) flushed modified reach = as-one (kind.marked slot.value key true) (flushed.err modified reach) (marks key slot true)

pub table-kept : (key : ℕ) (slot : Slot TableValue) (old : StorageState) (result : Result Unit Fault) (new : StorageState) (t' : TableValue) → TableFlushed old key slot.value result new t'
    → written_table (key, record slot { value = t' }) ≡ written_table (key, slot)
table-kept = entry-kept written_tables written_table (λ key slot modified. refl)

pub block-kept : (key : ℕ) (slot : Slot Block) (old : StorageState) (result : Result Unit Fault) (new : StorageState) (b' : Block) → BlockFlushed old key slot.value result new b'
    → written_block (key, record slot { value = b' }) ≡ written_block (key, slot)
block-kept = entry-kept written_blocks written_block (λ key slot modified. refl)
