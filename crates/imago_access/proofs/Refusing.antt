-- An early error of a change is one of its listed errors.
use Rattle.std.proofs.Common.{◌≡◌, ◌⊎◌, refl, inl, inr, ℕ, ◌+◌, ◌<◌, ◌^◌, List, ◌∷◌, arith, subst, sym}
use Rattle.std.specs.Prelude.{Bool, true, false, Option, Some, None, if◌then◌else◌, eqb, leb, ltb, not, IsFalse}
use Rattle.std.proofs.lemmas.Bool.{cases_lt, ne_eqb}
use Rattle.std.proofs.lemmas.Bool.Decides.{nat_tests}
use Rattle.imago_storage.specs.State.{StorageState}
use Rattle.imago_storage.specs.Steps.{Call}
use Rattle.imago_storage.specs.Causes.{offset_of, length_of, Alters}
use Rattle.imago_storage.specs.Through.{round_up}
use Rattle.imago_storage.specs.declared.fault.Fault.{Fault}
use Rattle.imago_storage.specs.declared.fault.Fault.TheVariants.{ReadOnly, PastEnd, RangeOverflow, MissingData, Failed}
use Rattle.imago_access.specs.Chain.{disk_of, unit_of_chain}
use Rattle.imago_access.specs.Layer.{Layer}
use Rattle.imago_access.specs.Files.{ImageCause, IsNotResourceError}
use Rattle.imago_access.specs.Refusals.{change_refusal, range_refusal, unusable_fault, ChangeCause}

first_cause : (b : Bool) (fault e : Fault) (rest : Option Fault) → (if b then Some fault else rest) ≡ Some e → ((b ≡ true) × (fault ≡ e)) ⊎ ((b ≡ false) × (rest ≡ Some e))
first_cause true fault e rest h = inl (refl, cc h)
first_cause false fault e rest h = inr (refl, h)

not_true : (b : Bool) → not b ≡ true → IsFalse b
not_true true h = absurd (cc h)
not_true false h = refl

some_range : (n : ℕ) (e : Fault) (rest : Option Fault) → (if eqb n 0 then None else rest) ≡ Some e → (0 < n) × (rest ≡ Some e)
some_range n e rest h = elim (cases_lt 0 n) [
  | inl some ↦ (some, let other : eqb n 0 ≡ false = ne_eqb n 0 (λ is. omega (arith, is, some)) in rw other at h)
  | inr none ↦ let is : eqb n 0 ≡ true = grind (arith, nat_tests) in let bad : None ≡ Some e = rw is at h in absurd (cc bad)
]

pub refusal_cause : (below : List Layer) (layer : Layer) (call : Call) (causes : Fault → Type 0) (olds news : List StorageState) (e : Fault) → (0 < length_of call → Alters (disk_of below layer) call)
    → change_refusal (unit_of_chain (layer ∷ below)) layer (offset_of call) (length_of call) ≡ Some e → ChangeCause below layer call causes olds news e
refusal_cause below layer call causes olds news e alters h =
    let offset = offset_of call in
    let n = length_of call in
    let past_end = if ltb layer.size (offset + n) then Some PastEnd else None in
    let too_far = if leb (2 ^ 64) (round_up (unit_of_chain (layer ∷ below)) (offset + n)) then Some RangeOverflow else past_end in
    let changing = if not layer.fixed.writable then Some ReadOnly else too_far in
    let running = if eqb n 0 then None else changing in
    let Cause = ChangeCause below layer call causes olds news in
    elim (first_cause layer.failed Failed e (if layer.fixed.missing then Some MissingData else running) h) [
      | inl failed ↦ subst Cause failed.1 (inl (rw failed.0 refl))
      | inr one ↦ elim (first_cause layer.fixed.missing MissingData e running one.1) [
        | inl missing ↦ subst Cause missing.1 (inl (rw (one.0, missing.0) refl))
        | inr two ↦
            let three = some_range n e changing two.1 in
            elim (first_cause (not layer.fixed.writable) ReadOnly e too_far three.1) [
              | inl read_only ↦ subst Cause read_only.1 (alters three.0, not_true layer.fixed.writable read_only.0)
              | inr four ↦ elim (first_cause (leb (2 ^ 64) (round_up (unit_of_chain (layer ∷ below)) (offset + n))) RangeOverflow e past_end four.1) [
                | inl far ↦ subst Cause far.1 (three.0, let test = far.0 in grind (arith, nat_tests))
                | inr five ↦ elim (first_cause (ltb layer.size (offset + n)) PastEnd e None five.1) [
                  | inl past ↦ subst Cause past.1 (alters three.0, let test = past.0 in grind (arith, nat_tests))
                  | inr none ↦ let bad = none.1 in absurd (cc bad)
                ]
              ]
            ]
      ]
    ]

-- The early error of a usable image, and of one that can't be used.
abbrev guarded : Bool → Bool → Option Fault → Option Fault
guarded failed missing rest = if failed then Some Failed else if missing then Some MissingData else rest

guarded_none : (failed missing : Bool) (rest : Option Fault) → guarded failed missing None ≡ None → guarded failed missing rest ≡ rest
guarded_none true missing rest is = absurd (cc is)
guarded_none false true rest is = absurd (cc is)
guarded_none false false rest is = refl

guarded_some : (failed missing : Bool) (rest : Option Fault) (e : Fault) → guarded failed missing None ≡ Some e
    → guarded failed missing rest ≡ Some e
guarded_some true missing rest e is = is
guarded_some false true rest e is = is
guarded_some false false rest e is = absurd (cc is)

abbrev IsMild : Fault → Type 0
IsMild e = IsNotResourceError e × ((olds news : List StorageState) → ImageCause olds news e)

guarded_mild : (failed missing : Bool) (e : Fault) → guarded failed missing None ≡ Some e → IsMild e
guarded_mild true missing e is = let same : Failed ≡ e = cc is in subst IsMild same (tt, λ olds news. tt)
guarded_mild false true e is = let same : MissingData ≡ e = cc is in subst IsMild same (tt, λ olds news. tt)
guarded_mild false false e is = absurd (cc is)

module _ (layer : Layer) (unit offset n : ℕ) where
  pub usable_refusal : (writable : Bool) (unit' size : ℕ) → unusable_fault layer ≡ None → writable ≡ layer.fixed.writable → unit' ≡ unit
      → size ≡ layer.size → range_refusal writable unit' size offset n ≡ change_refusal unit layer offset n
  usable_refusal writable unit' size usable same same_unit same_size = rw (same, same_unit, same_size) (sym
      (guarded_none layer.failed layer.fixed.missing (range_refusal layer.fixed.writable unit layer.size offset n) usable))

  pub unusable_refusal : (e : Fault) → unusable_fault layer ≡ Some e → change_refusal unit layer offset n ≡ Some e
  unusable_refusal e =
      guarded_some layer.failed layer.fixed.missing (range_refusal layer.fixed.writable unit layer.size offset n) e

pub unusable_cause : (layer : Layer) (e : Fault) → unusable_fault layer ≡ Some e
    → IsNotResourceError e × ((olds news : List StorageState) → ImageCause olds news e)
unusable_cause layer e = guarded_mild layer.failed layer.fixed.missing e
