-- Lemmas on `probe`: the first 72 bytes of a file say if it starts as an image does.
use Rattle.std.proofs.Common.{◌≡◌, ℕ, ◌+◌, ◌<◌, ◌≤◌, ◌^◌, refl, arith, subst, List, [], length, true, false, None, Ok}
use Rattle.std.specs.Prelude.{◌&&◌, ◌||◌, ◌==◌, not, slice_index}
use Rattle.std.proofs.lemmas.Bool.Decides.{nat_tests}
use Rattle.imago_storage.specs.Calls.{Reads}
use Rattle.imago_storage.specs.declared.fault.Fault.TheVariants.{DamagedHeader, Unsupported}
use Rattle.qcow2_types.specs.Bytes.{Bytes, be, bytes_of}
use Rattle.qcow2_types.specs.Header.{Header, header_of, first_fault, rules_of_kind}
use Rattle.qcow2_types.specs.OnDisk.{v2_bytes}
use Rattle.qcow2_types.specs.declared.on_disk.V2Header.{V2Header}
use Rattle.qcow2_types.proofs.Fields.HeaderFields.{holds-same, v2-magic, v2-version}
use Rattle.qcow2_types.proofs.Numbers.Splices.{be-same}
use Rattle.qcow2_types.proofs.Fields.HeaderFrame.{and-then-none, two-passed}
use Rattle.qcow2_image.specs.Opening.{is_qcow2}

module _ (file start : List ℕ) (reads : Reads file 0 start) (long : length start ≡ 72) where
  same-number : (i n : ℕ) → i + n ≤ 72 → be (bytes_of start) i n ≡ be (bytes_of file) i n
  same-number i n inside = be-same (bytes_of start) (bytes_of file) i i n (λ k lt. let none : 0 + (i + k) ≡ i + k = omega arith in
      subst (λ (p : ℕ). slice_index start (i + k) ≡ slice_index file p) none (reads (i + k) (omega arith)))

  pub start-begins : is_qcow2 (bytes_of start) ≡ is_qcow2 (bytes_of file)
  start-begins = rw (same-number 0 4 (omega arith), same-number 4 4 (omega arith)) refl

-- The fields in the 72 bytes give the answer.
pub fields-begin : (bytes : List ℕ) (h : V2Header) → v2_bytes h ≡ bytes → h.magic < 2 ^ 32 → h.version < 2 ^ 32
    → is_qcow2 (bytes_of bytes) ≡ ((h.magic == 0x5146_49fb) && ((h.version == 2) || (h.version == 3)))
fields-begin bytes h is magic version =
    let held = holds-same bytes (v2_bytes h) is in
    rw (v2-magic (bytes_of bytes) h held magic, v2-version (bytes_of bytes) h held version) refl

pub header-begins : (f : Bytes) (H : Header) → header_of false f ≡ Ok H → is_qcow2 f ≡ true
unfolding header_of
header-begins f H loads =
    let passed : first_fault (rules_of_kind f) ≡ None = and-then-none (first_fault (rules_of_kind f)) _ H loads in
    let tests = two-passed (not (be f 0 4 == 0x5146_49fb)) (not ((be f 4 4 == 2) || (be f 4 4 == 3))) DamagedHeader Unsupported [] passed in
    let magic : not (be f 0 4 == 0x5146_49fb) ≡ false = tests.0 in
    let version : not ((be f 4 4 == 2) || (be f 4 4 == 3)) ≡ false = tests.1 in
    grind (arith, nat_tests)
