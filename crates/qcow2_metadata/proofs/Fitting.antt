-- The test that a header fits the first cluster, and its fault if it doesn't.
use Rattle.std.proofs.Common.{◌≡◌, ◌≤◌, ℕ, refl, arith, length, Some, None}
use Rattle.std.specs.Prelude.{Bool, true, false, ◌&&◌, nat_le, IsTrue, if◌then◌else◌, Option}
use Rattle.std.proofs.lemmas.Bool.Decides.{nat_tests}
use Rattle.imago_storage.specs.declared.fault.Fault.{Fault}
use Rattle.imago_storage.specs.declared.fault.Fault.TheVariants.{Limit}
use Rattle.qcow2_types.specs.Header.{Header, cluster_size}
use Rattle.qcow2_types.specs.HeaderBytes.{header_bytes, name_bytes, fits_first_cluster}
use Rattle.qcow2_metadata.specs.Writing.{IsUnfit}

-- The fault of a failed test.
abbrev refusal : Bool → ℕ → Option Fault
refusal fits n = if fits then None else Some (Limit n)

passed : (b : Bool) (n : ℕ) → None ≡ refusal b n → b ≡ true
passed true n e = refl
passed false n e = absurd cc

pub fits-passed : (H : Header) (n : ℕ) → None ≡ refusal (fits_first_cluster H) n → IsTrue (fits_first_cluster H) × (length (name_bytes H.backing_name) ≤ 1023)
fits-passed H n none =
    let fits : fits_first_cluster H ≡ true = passed (fits_first_cluster H) n none in
    (fits, short (nat_le (length (header_bytes H)) (cluster_size H.fields)) (length (name_bytes H.backing_name)) fits)
  where
    short : (a : Bool) (k : ℕ) → (a && nat_le k 1023) ≡ true → k ≤ 1023
    short true k e = grind (arith, nat_tests)
    short false k e = absurd cc

pub fits-refused : (H : Header) (n : ℕ) (fault : Fault) → n ≡ length (header_bytes H) → Some fault ≡ refusal (fits_first_cluster H) n → IsUnfit H fault
fits-refused H n fault count some = split (fits_first_cluster H) refl some
  where
    split : (b : Bool) → fits_first_cluster H ≡ b → Some fault ≡ refusal b n → IsUnfit H fault
    split true is e = absurd cc
    split false is e = let same : fault ≡ Limit n = cc in rw same (count, is)
