-- From the effect of a call on the bytes of a layer to what a chain reads.
use Rattle.std.proofs.Common.{◌≡◌, ◌⊎◌, inl, inr, ℕ, ◌+◌, ◌<◌, ◌≤◌, List, [], ◌∷◌, arith, sym, ◌∙◌, ap, subst}
use Rattle.std.specs.Prelude.{Result, Ok, Err, IfOk, IfErr}
use Rattle.std.proofs.lemmas.Bool.{cases_lt, lt-ltb}
use Rattle.imago_storage.specs.Disk.{Value, byte}
use Rattle.imago_storage.specs.Steps.{IsIn, IsByte}
use Rattle.imago_storage.specs.declared.fault.Fault.{Fault}
use Rattle.imago_access.specs.Layer.{Cell, own, unmapped, through, Layer}
use Rattle.imago_access.specs.Chain.{at, IsBacked}
use Rattle.imago_access.specs.Files.{IsNotResourceError, HadNoResourceError}
use Rattle.imago_access.specs.Changes.{Rewrites, PartRewrites, ToAny, ToBelow}
use Rattle.imago_access.specs.Running.{IsBetween}
use Rattle.imago_access.specs.Stops.{GivesAny, GivesBelow}
use Rattle.imago_access.specs.PartCalls.{IsPart}

pub at_inside : (layer : Layer) (below : List Layer) (p : ℕ) → p < layer.size → at (layer ∷ below) p ≡ through (layer.cell p) (at below p)
at_inside layer below p inside = rw (lt-ltb p layer.size inside)

-- A byte that the call allows in its range reads as before, or as a value that the call gives.
module _ (Q : ℕ → Cell → Cell → Type 0) (gives : ℕ → Value → Type 0) (below : List Layer) (old new : Layer) (offset n : ℕ)
    (shows : (p : ℕ) (was is : Cell) → IsIn offset n p → Q p was is → (is ≡ was) ⊎ gives p (through is (at below p))) where
  shown : new.size ≡ old.size → (p : ℕ) → p < old.size → (new.cell p ≡ old.cell p) ⊎ gives p (through (new.cell p) (at below p)) → (at (new ∷ below) p ≡ at (old ∷ below) p) ⊎ gives p (at (new ∷ below) p)
  shown size p inside how =
      let is : at (new ∷ below) p ≡ through (new.cell p) (at below p) = at_inside new below p (omega (arith, size, inside)) in
      elim how [
        | inl same ↦ inl (is ∙ ap (λ (c : Cell). through c (at below p)) same ∙ sym (at_inside old below p inside))
        | inr gave ↦ inr (subst (gives p) (sym is) gave)
      ]

  -- A part of the range was done.
  pub whole_between : (start done : ℕ) → offset ≤ start → (done ≡ 0) ⊎ (start + done ≤ offset + n) → Rewrites Q old new start done → IsBetween gives below old new
  whole_between start done from to h p inside = shown h.keeps_layer_state.size p inside (elim (cases_lt p start) [
    | inl before ↦ inl (h.others p (inl before))
    | inr ge ↦ elim (cases_lt p (start + done)) [
      | inl lt ↦ shows p (old.cell p) (new.cell p) (omega (arith, from, ge), omega (arith, to, ge, lt)) (h.range p (ge, lt))
      | inr past ↦ inl (h.others p (inr past))
    ]
  ])

  pub part_between : PartRewrites Q old new offset n → IsBetween gives below old new
  part_between h p inside = shown h.keeps_layer_state.size p inside (elim (cases_lt p offset) [
    | inl before ↦ inl (h.others p (inl before))
    | inr ge ↦ elim (cases_lt p (offset + n)) [
      | inl lt ↦ elim (h.range p (ge, lt)) [ inl same ↦ inl same | inr new_one ↦ shows p (old.cell p) (new.cell p) (ge, lt) new_one ]
      | inr past ↦ inl (h.others p (inr past))
    ]
  ])

  -- For every result of the call.
  pub result_between : (result : Result (ℕ × ℕ) Fault) → IfOk result (IsPart offset n)
      → IfOk result (λ r. Rewrites Q old new r.0 r.1) → IfErr result (λ e. IsNotResourceError e → PartRewrites Q old new offset n) → HadNoResourceError result → IsBetween gives below old new
  result_between (Ok r) part ok err whole = whole_between r.0 r.1 part.inside.0 part.inside.1 ok
  result_between (Err e) part ok err whole = part_between (err whole)

pub any_shows : (below : List Layer) (offset n p : ℕ) (was is : Cell) → IsIn offset n p → ToAny p was is → (is ≡ was) ⊎ GivesAny offset n p (through is (at below p))
any_shows below offset n p was is there how = elim how [
  | inl same ↦ inl same
  | inr given ↦ inr (there, subst (λ (c : Cell). IsByte (through c (at below p))) (sym given.2) given.1)
]

blank_shows : (below : List Layer) (layer : Layer) (p : ℕ) → (layer.fixed.blank ≡ unmapped) ⊎ (layer.fixed.blank ≡ own (byte 0)) → IsBacked below layer → through layer.fixed.blank (at below p) ≡ at below p
blank_shows [] layer p how backed = elim how [
  | inl is ↦ ap (λ (c : Cell). through c (byte 0)) is
  | inr is ↦ ap (λ (c : Cell). through c (byte 0)) is
]
blank_shows (next ∷ below) layer p how backed = ap (λ (c : Cell). through c (at (next ∷ below) p)) backed

pub below_shows : (below : List Layer) (layer : Layer) (offset n : ℕ) → (layer.fixed.blank ≡ unmapped) ⊎ (layer.fixed.blank ≡ own (byte 0)) → IsBacked below layer
    → (p : ℕ) (was is : Cell) → IsIn offset n p → ToBelow layer.fixed.blank p was is → (is ≡ was) ⊎ GivesBelow below offset n p (through is (at below p))
below_shows below layer offset n blanks backed p was is there how = elim how [
  | inl same ↦ inl same
  | inr given ↦ inr (there, ap (λ (c : Cell). through c (at below p)) given ∙ blank_shows below layer p blanks backed)
]
