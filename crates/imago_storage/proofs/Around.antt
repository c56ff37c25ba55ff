-- Writes of a range as whole units, after its first and last unit are read.
use Rattle.std.proofs.Common.{◌≡◌, ℕ, ◌+◌, ◌-◌, ◌%◌, ◌<◌, List, ◌++◌, append_assoc, length, take, drop, arith, sym, ◌∙◌, ap, subst, length-append}
use Rattle.std.proofs.lemmas.List.{take-append-drop}
use Rattle.imago_storage.specs.State.{StorageState}
use Rattle.imago_storage.specs.Through.{round_up, PaddedWrite, PaddedWriteFailed, Parts}
use Rattle.imago_storage.specs.Edges.{IsEdge, IsPaddedPart}
use Rattle.imago_storage.specs.declared.fault.Fault.{Fault}
use Rattle.imago_storage.proofs.Pads.{through-narrow, halted-narrow}
use Rattle.imago_storage.proofs.Edges.{end-is, edges-pad}

module _ (unit : ℕ) (positive : 0 < unit) (s a b : StorageState) (same : a ≡ s) (at behind : ℕ) (head mid tail first last bytes : List ℕ)
    (some : 0 < length head + length mid + length tail) (parts : Parts unit at (length head + length mid + length tail) (length head) (length mid))
    (is-first : IsEdge unit (length head) (length first)) (is-last : IsEdge unit (length tail) (length last))
    (is : head ++ mid ++ tail ≡ bytes) (is-behind : behind ≡ at + length head + length mid)
    (pads-first : 0 < length head → IsPaddedPart s.bytes at head (at - at % unit) first) (pads-last : 0 < length tail → IsPaddedPart s.bytes behind tail (behind - behind % unit) last) where
  long : length bytes ≡ length head + length mid + length tail
  long = ap (λ (l : List ℕ). length l) (sym is) ∙ omega (arith, length-append (head ++ mid) tail, length-append head mid)

  pads-all : IsPaddedPart a.bytes at bytes (at - at % unit) (first ++ mid ++ last)
  pads-all = subst (λ (f : StorageState). IsPaddedPart f.bytes at bytes (at - at % unit) (first ++ mid ++ last)) (sym same)
      (subst (λ (l : List ℕ). IsPaddedPart s.bytes at l (at - at % unit) (first ++ mid ++ last)) is
      (edges-pad unit s.bytes at head mid tail first last positive some parts is-first is-last pads-first
      (subst (λ (p : ℕ). 0 < length tail → IsPaddedPart s.bytes p tail (p - p % unit) last) is-behind pads-last)))

  end : at - at % unit + length (first ++ mid ++ last) ≡ round_up unit (at + length bytes)
  end =
      let sum : at - at % unit + length (first ++ mid ++ last) ≡ at - at % unit + length first + length mid + length last = omega (arith, length-append (first ++ mid) last, length-append first mid) in
      sum ∙ (end-is unit at (length head) (length mid) (length tail) (length first) (length last) positive some parts is-first is-last ∙ ap (λ (n : ℕ). round_up unit (at + n)) (sym long))

  pub around-through : PaddedWrite unit a b (at - at % unit) (first ++ mid ++ last) → PaddedWrite unit s b at bytes
  around-through through =
      subst (λ (f : StorageState). PaddedWrite unit f b at bytes) same
      (through-narrow unit positive a b at bytes (at - at % unit) (first ++ mid ++ last) pads-all (omega (arith, long, some)) end through)

  pub around-halted : (fault : Fault) → PaddedWriteFailed unit a b (at - at % unit) (first ++ mid ++ last) fault → PaddedWriteFailed unit s b at bytes fault
  around-halted fault halted =
      subst (λ (f : StorageState). PaddedWriteFailed unit f b at bytes fault) same
      (halted-narrow unit positive a b at bytes (at - at % unit) (first ++ mid ++ last) pads-all (omega (arith, long, some)) end fault halted)

-- The parts of a list that is split twice.
pub split-twice : (bytes rest head mid tail : List ℕ) (i j : ℕ) → head ≡ take i bytes → rest ≡ drop i bytes → mid ≡ take j rest → tail ≡ drop j rest → head ++ mid ++ tail ≡ bytes
split-twice bytes rest head mid tail i j a b c d =
    let behind : mid ++ tail ≡ rest = ap (λ (l : List ℕ). l ++ tail) c ∙ (ap (λ (l : List ℕ). take j rest ++ l) d ∙ take-append-drop j rest) in
    append_assoc head mid tail ∙ (ap (λ (l : List ℕ). head ++ l) behind ∙ (ap (λ (l : List ℕ). l ++ rest) a ∙ (ap (λ (l : List ℕ). take i bytes ++ l) b ∙ take-append-drop i bytes)))
