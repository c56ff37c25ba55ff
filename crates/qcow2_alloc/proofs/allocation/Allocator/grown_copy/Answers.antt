use Rattle.std.proofs.Common.{◌≡◌, ◌+◌, ◌^◌, ◌<◌, ◌≤◌, ◌∙◌, ℕ, sym, length, Result, Ok, Err, None, true, inl, inr}
use Rattle.std.specs.Prelude.{IfOk, IfErr, IsErrOf, IsOkUnless}
use Rattle.std.proofs.lemmas.Bool.{cases_lt}
use Rattle.imago_storage.specs.declared.fault.Fault.{Fault}
use Rattle.imago_storage.specs.declared.fault.Fault.TheVariants.{Limit, Memory}
use Rattle.qcow2_types.specs.Counts.{counters_of_block}
use Rattle.qcow2_types.specs.Header.{Fields, layout_of, entries_of_cluster}
use Rattle.qcow2_metadata.specs.Tables.{IsEnough, IsGrownLength, TableValue, padded}
use Rattle.qcow2_alloc.specs.Allocators.{table_of}
use Rattle.qcow2_alloc.specs.Causes.{HasCause}
use Rattle.qcow2_alloc.specs.MovingTables.{IsGrownFor, growing_causes}
use Rattle.qcow2_alloc.proofs.allocation.Allocator.grown_copy.Goals as goal

module _ (h : Fields) (table : TableValue) (at : ℕ) where
  grown-so : (r : Result TableValue Fault) → table.layout.cluster_bits ≡ h.cluster_bits
      → IfOk r (λ copy. copy ≡ record { layout = layout_of h; raw_entries = padded table.raw_entries (length copy.raw_entries); cluster = None; modified = true })
      → IfOk r (λ copy. IsGrownLength (entries_of_cluster h) (counters_of_block h) at (length copy.raw_entries)) → IfOk r (IsGrownFor h table at)
  grown-so (Ok copy) bits copied long = record { copied = copied; long = long; bits = bits }
  grown-so (Err fault) bits copied long = tt

  too-long : (fault : Fault) → (fault ≡ Memory → ⊥) → ((n : ℕ) → IsEnough (entries_of_cluster h) (counters_of_block h) at n → n ≤ 2 ^ 20 → fault ≡ Memory)
      → (n : ℕ) → IsEnough (entries_of_cluster h) (counters_of_block h) at n → 2 ^ 20 < n
  too-long fault other few n enough = elim (cases_lt (2 ^ 20) n) [
    | inl more ↦ more
    | inr less ↦ absurd (other (few n enough less))
  ]

  -- An error other than `Fault::Memory` means that the table would be too long.
  why-not : (r : Result TableValue Fault) → (((n : ℕ) → IsEnough (entries_of_cluster h) (counters_of_block h) at n → 2 ^ 20 < n) → IsErrOf r (Limit (2 ^ 20 + entries_of_cluster h)))
      → ((n : ℕ) → IsEnough (entries_of_cluster h) (counters_of_block h) at n → n ≤ 2 ^ 20 → IsOkUnless r Memory) → IfErr r (HasCause (growing_causes h table at))
  why-not (Ok copy) limit few = tt
  why-not (Err Memory) limit few = tt
  why-not (Err (Limit number)) limit few = let long = too-long (Limit number) (λ same. cc same) few in (long, let is = limit long in cc is)
  why-not (Err fault) limit few = let is = limit (too-long fault (λ same. cc same) few) in absurd (cc is)

pub returns-clause-ok : goal.returns-clause-ok
returns-clause-ok c = grown-so c.args.header.now.fields (table_of c.args.self.now) c.args.at c.clone_and_grow.result (sym c.cluster_bits.ensures.value ∙ c.if-cluster_bits.false ∙ c.cluster_bits-2.ensures.value) c.clone_and_grow.ensures.ok c.clone_and_grow.ensures.length

pub returns-clause-err : goal.returns-clause-err
returns-clause-err c = why-not c.args.header.now.fields (table_of c.args.self.now) c.args.at c.clone_and_grow.result c.clone_and_grow.ensures.limit c.clone_and_grow.ensures.ok_if_small
