-- A range of a power of two bytes, at a multiple of it, consists of whole units or is inside one. So it is one request.
use Rattle.std.proofs.Common.{◌≡◌, inl, inr, ℕ, ◌+◌, ◌-◌, ◌*◌, ◌/◌, ◌%◌, ◌^◌, ◌<◌, ◌≤◌, arith, sym, ◌∙◌, ap, subst}
use Rattle.std.proofs.lemmas.Nat.{div-add-mod', mod_below, mod-mul-add, pow-add, pow_pos, div_below, mul-le}
use Rattle.std.proofs.Math.Nat.{div-mul-le_self}
use Rattle.std.proofs.lemmas.Bool.{cases_lt}
use Rattle.std.specs.Prelude.{List, length, Result, Ok, Err, OnOk, IfErr}
use Rattle.imago_storage.specs.State.{StorageState, IsAlignment, unit_of}
use Rattle.imago_storage.specs.Calls.{OldOrNewBytes, CountsNotFallen, Cause, CountsFaults}
use Rattle.imago_storage.specs.Through.{round_up, Overflows, FitsOneRequest, EachCrashImage, UnlessOverflow, WriteSucceeded, NotBegun, PaddedWriteRefused, WriteFailed, WriteRefused, RequestsOnce, NotRead, WriteOutcome, AtomicWriteOutcome}
use Rattle.imago_storage.specs.declared.fault.Fault.{Fault}
use Rattle.imago_storage.specs.declared.fault.Fault.TheVariants.{RangeOverflow}
use Rattle.imago_storage.specs.declared.padding.WriteFault.TheVariants.{Before}
use Rattle.imago_storage.proofs.Powers.{alignment_power}

-- A multiple of a multiple of `unit` is a multiple of `unit`.
multiple-of : (k m unit n : ℕ) → 0 < unit → n ≡ k * (m * unit) → n % unit ≡ 0
multiple-of k m unit n some is =
    let flat : n ≡ k * m * unit + 0 = omega (arith, is) in
    ap (λ (x : ℕ). x % unit) flat ∙ mod-mul-add (k * m) unit 0 some

-- A multiple of `part` is at least `part` below the next multiple of `m * part`.
room-for : (m part at : ℕ) → 0 < part → 0 < m → at % part ≡ 0 → at % (m * part) + part ≤ m * part
room-for m part at some units whole =
    let unit : ℕ = m * part in
    let r : ℕ = at % (m * part) in
    let positive : 0 < m * part = mul-le 1 1 m part units some in
    let below : at % (m * part) < m * part = mod_below at (m * part) positive in
    let q : ℕ = at / (m * part) in
    let a : at ≡ at / (m * part) * (m * part) + at % (m * part) = omega (arith, div-add-mod' at (m * part)) in
    let split : at ≡ (at / (m * part) * m + at % (m * part) / part) * part + at % (m * part) % part = omega (arith, a, div-add-mod' (at % (m * part)) part) in
    let low : at % (m * part) % part < part = mod_below (at % (m * part)) part some in
    let same : at % part ≡ at % (m * part) % part = ap (λ (x : ℕ). x % part) split ∙ mod-mul-add (at / (m * part) * m + at % (m * part) / part) part (at % (m * part) % part) low in
    let none : at % (m * part) % part ≡ 0 = sym same ∙ whole in
    let rows : at % (m * part) ≡ at % (m * part) / part * part = omega (arith, div-add-mod' (at % (m * part)) part, none) in
    let row : at % (m * part) / part < m = div_below (at % (m * part)) part m some below in
    let top : (at % (m * part) / part + 1) * part ≤ m * part = mul-le (at % (m * part) / part + 1) part m part (omega arith) (omega arith) in
    omega (arith, rows, top)

-- A range of `2 ^ b` bytes at a multiple of it is one request, whichever the alignment is.
pub power-at-once : (unit at b : ℕ) → IsAlignment unit → at % 2 ^ b ≡ 0 → FitsOneRequest unit at (2 ^ b)
power-at-once unit at b alignment whole =
    let power = alignment_power unit alignment in
    elim (cases_lt b power.0) [
      | inl lt ↦
          let split : power.0 ≡ power.0 - b + b = omega arith in
          let product : unit ≡ 2 ^ (power.0 - b) * 2 ^ b = power.1 ∙ (ap (λ (n : ℕ). 2 ^ n) split ∙ pow-add 2 (power.0 - b) b) in
          inr (subst (λ (u : ℕ). at % u + 2 ^ b ≤ u) (sym product) (room-for (2 ^ (power.0 - b)) (2 ^ b) at (pow_pos b) (pow_pos (power.0 - b)) whole))
      | inr ge ↦
          let split : b ≡ b - power.0 + power.0 = omega arith in
          let product : 2 ^ b ≡ 2 ^ (b - power.0) * unit = ap (λ (n : ℕ). 2 ^ n) split ∙ (pow-add 2 (b - power.0) power.0 ∙ ap (λ (n : ℕ). 2 ^ (b - power.0) * n) (sym power.1)) in
          let rows : at ≡ at / 2 ^ b * (2 ^ (b - power.0) * unit) = omega (arith, div-add-mod' at (2 ^ b), whole, ap (λ (n : ℕ). at / 2 ^ b * n) product) in
          inl (multiple-of (at / 2 ^ b) (2 ^ (b - power.0)) unit at alignment.positive rows, multiple-of 1 (2 ^ (b - power.0)) unit (2 ^ b) alignment.positive (omega (arith, product)))
    ]

-- A range that ends by 2^63 doesn't overflow when it is padded.
pub overflows-not : (unit at n : ℕ) → IsAlignment unit → at + n ≤ 2 ^ 63 → Overflows unit at n → ⊥
unfolding round_up
overflows-not unit at n alignment low passes =
    let small : unit ≤ 2 ^ 20 = alignment.small in
    let up : (at + n + (unit - 1)) / unit * unit ≤ at + n + (unit - 1) = div-mul-le_self (at + n + (unit - 1)) unit in
    let high : 2 ^ 64 ≤ (at + n + (unit - 1)) / unit * unit = passes.1 in
    omega arith

-- The fault isn't an overflow.
pub unless-overflow : (P : Type 0) (old new : StorageState) (Q R : Fault → Type 0) → (P → ⊥) → ((fault : Fault) → Q fault → R fault) → (fault : Fault) → UnlessOverflow P old new Q fault → R fault
unless-overflow P old new Q R never give RangeOverflow h = absurd (never h.0)
unless-overflow P old new Q R never give fault h = give fault h

-- A write with such a range failed before it had begun.
pub not-begun-below : (old new : StorageState) (at : ℕ) (bytes : List ℕ) (fault : Fault) → IsAlignment (unit_of old.shape) → at + length bytes ≤ 2 ^ 63
    → WriteRefused old new at bytes (Before fault) → NotBegun old new fault
not-begun-below old new at bytes fault alignment low refused =
    unless-overflow _ old new (NotBegun old new) (NotBegun old new) (overflows-not (unit_of old.shape) at (length bytes) alignment low) (λ e n. n) fault refused

-- The outcome of `write` for a range that ends by 2^63.
pub put-below : (result : Result (Unit {0}) Fault) (old new : StorageState) (at : ℕ) (bytes : List ℕ) → IsAlignment (unit_of old.shape) → at + length bytes ≤ 2 ^ 63 → OnOk result (WriteSucceeded old new at bytes) → IfErr result (WriteFailed old new at bytes)
    → EachCrashImage (OldOrNewBytes old.bytes at bytes) old new → new.shape ≡ old.shape → CountsNotFallen old new → WriteOutcome old new at bytes result
put-below (Ok u) old new at bytes alignment low ok err stops shape later = record { answer = ok; crash_images = stops; shape = shape; counts_not_fallen = later }
put-below (Err fault) old new at bytes alignment low ok err stops shape later = record {
  answer = unless-overflow _ old new _ (PaddedWriteRefused (unit_of old.shape) old new at bytes) (overflows-not (unit_of old.shape) at (length bytes) alignment low) (λ e n. n) fault err;
  crash_images = stops;
  shape = shape;
  counts_not_fallen = later;
}

-- The outcome of `write` for a range of `2 ^ b` bytes at a multiple of it.
pub put-at-once : (result : Result (Unit {0}) Fault) (old new : StorageState) (at b : ℕ) (bytes : List ℕ) → IsAlignment (unit_of old.shape) → at + length bytes ≤ 2 ^ 63 → length bytes ≡ 2 ^ b → at % 2 ^ b ≡ 0 → OnOk result (WriteSucceeded old new at bytes)
    → IfErr result (WriteFailed old new at bytes) → (FitsOneRequest (unit_of old.shape) at (length bytes) → RequestsOnce old new (length bytes) result) → EachCrashImage (OldOrNewBytes old.bytes at bytes) old new → new.shape ≡ old.shape → CountsNotFallen old new → AtomicWriteOutcome old new at bytes result
put-at-once result old new at b bytes alignment low long whole ok err once stops shape later = record {
  put = put-below result old new at bytes alignment low ok err stops shape later;
  single_request = once (subst (FitsOneRequest (unit_of old.shape) at) (sym long) (power-at-once (unit_of old.shape) at b alignment whole));
}

-- The cause of a failed read of a range that ends by 2^63.
pub read-below : (old new : StorageState) (at n : ℕ) (fault : Fault) → IsAlignment (unit_of old.shape) → at + n ≤ 2 ^ 63 → NotRead old new at n fault → Cause old.faults new.faults fault
read-below old new at n fault alignment low why = unless-overflow _ old new (Cause old.faults new.faults) (Cause old.faults new.faults) (overflows-not (unit_of old.shape) at n alignment low) (λ e cause. cause) fault why

-- The fault count after such a read.
pub read-counted : (result : Result (Unit {0}) Fault) (old new : StorageState) (at n : ℕ) → IsAlignment (unit_of old.shape) → at + n ≤ 2 ^ 63 → OnOk result (new.faults ≡ old.faults) → IfErr result (NotRead old new at n) → CountsFaults old.faults new.faults result
read-counted (Ok u) old new at n alignment low same why = same
read-counted (Err fault) old new at n alignment low same why = read-below old new at n fault alignment low why
