-- Parts of a call whose ends aren't inside a unit that the call covers completely.
use Rattle.std.proofs.Common.{◌≡◌, inl, inr, ℕ, ◌+◌, ◌-◌, ◌≤◌, arith, sym, subst}
use Rattle.imago_storage.specs.Steps.{Call}
use Rattle.imago_storage.specs.Causes.{offset_of, length_of}
use Rattle.imago_access.specs.Layer.{Layer, Fixed}
use Rattle.imago_access.specs.Room.{IsUncutAt}
use Rattle.imago_access.specs.Parts.{IsUncutPart}
use Rattle.imago_access.proofs.Room.{whole_rest}

module _ (unit size offset n : ℕ) where
  pub uncut_start : IsUncutAt unit size offset n offset
  uncut_start u whole = inl whole.start

  pub uncut_end : (at : ℕ) → offset + n ≤ at → IsUncutAt unit size offset n at
  uncut_end at over u whole = inr (omega (arith, whole.end, over))

  pub uncut_both : (at next : ℕ) → at ≤ next → IsUncutAt unit size offset n at → IsUncutAt unit size at (offset + n - at) next → IsUncutAt unit size offset n next
  uncut_both at next further first second u whole = elim (first u whole) [
    | inl from ↦ second u (whole_rest unit size offset n at u whole from)
    | inr done ↦ inr (omega (arith, done, further))
  ]

  pub uncut_within : (start m at : ℕ) → start ≤ at → at ≤ start + m → IsUncutAt unit size offset n start → IsUncutAt unit size offset n (start + m) → IsUncutAt unit size start m at → IsUncutAt unit size offset n at
  uncut_within start m at from to begin end inner u whole = elim (begin u whole) [
    | inl behind ↦ elim (end u whole) [
      | inl past ↦ inl (omega (arith, to, past))
      | inr ended ↦ inner u (record { start = behind; on_disk = whole.on_disk; end = ended })
    ]
    | inr done ↦ inr (omega (arith, done, from))
  ]

pub own_part : (layer : Layer) (call : Call) → IsUncutPart layer call (offset_of call) (length_of call)
own_part layer call = record {
  part = record { start = omega arith; end = omega arith };
  start = uncut_start layer.fixed.unit layer.size (offset_of call) (length_of call);
  end = uncut_end layer.fixed.unit layer.size (offset_of call) (length_of call) (offset_of call + length_of call) (omega arith);
}

-- A part of a part, at a later moment.
pub part_within : (entry mid : Layer) (call : Call) (offset n start m : ℕ) → mid.fixed ≡ entry.fixed → mid.size ≡ entry.size → offset ≤ start → start + m ≤ offset + n
    → IsUncutAt entry.fixed.unit entry.size offset n start → IsUncutAt entry.fixed.unit entry.size offset n (start + m) → IsUncutPart entry call offset n → IsUncutPart mid call start m
part_within entry mid call offset n start m fixed size from to begin end whole =
    let within = uncut_within entry.fixed.unit entry.size (offset_of call) (length_of call) offset n in
    let on : (at : ℕ) → IsUncutAt entry.fixed.unit entry.size (offset_of call) (length_of call) at → IsUncutAt mid.fixed.unit mid.size (offset_of call) (length_of call) at = λ at h.
    subst (λ (f : Fixed). IsUncutAt f.unit mid.size (offset_of call) (length_of call) at) (sym fixed) (subst (λ (z : ℕ). IsUncutAt entry.fixed.unit z (offset_of call) (length_of call) at) (sym size) h) in
    record {
      part = record { start = omega (arith, from, whole.part.start); end = omega (arith, to, whole.part.end) };
      start = on start (within start from (omega (arith, to)) whole.start whole.end begin);
      end = on (start + m) (within (start + m) (omega (arith, from)) to whole.start whole.end end);
    }

pub uncut_later : (entry mid : Layer) (offset n at next : ℕ) → mid.fixed ≡ entry.fixed → mid.size ≡ entry.size → at ≤ next
    → IsUncutAt entry.fixed.unit entry.size offset n at → IsUncutAt mid.fixed.unit mid.size at (offset + n - at) next → IsUncutAt entry.fixed.unit entry.size offset n next
uncut_later entry mid offset n at next fixed size further first second = uncut_both entry.fixed.unit entry.size offset n at next further first
    (subst (λ (f : Fixed). IsUncutAt f.unit entry.size at (offset + n - at) next) fixed (subst (λ (z : ℕ). IsUncutAt mid.fixed.unit z at (offset + n - at) next) size second))
