-- Lemmas on the leaks of an image whose file doesn't change.
use Rattle.std.proofs.Common.{◌≡◌, ℕ, ◌+◌, arith, ap, Result}
use Rattle.imago_storage.specs.declared.fault.Fault.{Fault}
use Rattle.imago_storage.specs.declared.storage.Storage.{Ghosts}
use Rattle.qcow2_types.specs.Bytes.{bytes_of}
use Rattle.qcow2_types.specs.Counts.{count}
use Rattle.qcow2_types.specs.References.{refs}
use Rattle.qcow2_image.specs.Leaking.{KeepsLeaks, counts_in, names_in, pending, reserved_in, excess_refcount_of, waiting_in}
use Rattle.qcow2_image.specs.Seen.{file_of}
use Rattle.qcow2_image.specs.Steps.{KeepsImage}
use Rattle.qcow2_image.specs.Unspent.{holding_in}
use Rattle.qcow2_image.specs.declared.qcow2.Qcow2.{Qcow2}

module _ {S : Type 0} (g : Ghosts S) where
  -- If leaks are kept, the excess refcount of each cluster is the same.
  pub surplus-kept : (old new : Qcow2 S g) → KeepsLeaks g old new → (c : ℕ) → excess_refcount_of g new c ≡ excess_refcount_of g old c
  surplus-kept old new keeps c = let one = keeps c in omega (arith, one)

  pub leaks-same : (old new : Qcow2 S g) → file_of g new.tables ≡ file_of g old.tables → new.tables.file.header ≡ old.tables.file.header
      → ((c : ℕ) → pending g new c ≡ pending g old c) → KeepsLeaks g old new
  leaks-same old new file header same c =
      let counts : counts_in g new c ≡ counts_in g old c = λ i. count (file i) (header i).fields c in
      let names : names_in g new c ≡ names_in g old c = λ i. refs (file i) (header i).fields c in
      let more = same c in
      omega (arith, counts, names, more)

  pub leaks-kept : {T : Type 0} (old new : Qcow2 S g) (result : Result T Fault) → KeepsImage g old result new → KeepsLeaks g old new
  leaks-kept old new result k = leaks-same old new (ap bytes_of k.tables.unchanged_but_faults.bytes) k.tables.header
      (λ c. λ i. waiting_in (k.tables.space i) c + reserved_in (holding_in g (k.unspent i)) c)
