-- The effect of a change of a range on the disk of a chain.
use Rattle.std.proofs.Common.{◌≡◌, refl, inl, inr, ℕ, ◌+◌, ◌<◌, ◌≤◌, List, ◌∷◌, arith, ◌∙◌, ap, sym}
use Rattle.std.specs.Prelude.{None, Result, Ok, Err, OnOk}
use Rattle.std.proofs.lemmas.Bool.{cases_lt}
use Rattle.imago_storage.specs.Disk.{Value}
use Rattle.imago_storage.specs.Steps.{Call, Growth, IsIn, IsOut, Stays, Step, Changes, Unless, grow, done}
use Rattle.imago_storage.specs.Causes.{offset_of, length_of, Gives, PartlyDone}
use Rattle.imago_access.specs.Layer.{Layer, through, loose, hold_of}
use Rattle.imago_access.specs.Chain.{at, disk_of}
use Rattle.imago_access.specs.Refusals.{change_refusal}
use Rattle.imago_access.specs.Files.{HadNoResourceError}
use Rattle.imago_access.specs.Running.{IsBetween}
use Rattle.imago_access.proofs.Holding.{out_or_in, at_inside}
use Rattle.imago_access.specs.Resizes.{Grown}
use Rattle.imago_storage.specs.declared.fault.Fault.{Fault}

pub allowed_inside : (unit : ℕ) (layer : Layer) (offset n : ℕ) → change_refusal unit layer offset n ≡ None → 0 < n → offset + n ≤ layer.size
allowed_inside unit layer offset n allowed some = grind (arith)

pub unless_empty : (n : ℕ) (P Q : Type 0) → (n ≡ 0 → P) → (0 < n → Q) → Unless (n ≡ 0) P Q
unless_empty n P Q empty some = elim (cases_lt 0 n) [
  | inl lt ↦ inr (λ none. omega (arith, lt, none), some lt)
  | inr le ↦ let none : n ≡ 0 = omega (arith, le) in inl (none, empty none)
]

pub others_same : (gives : ℕ → Value → Type 0) (below : List Layer) (old new : Layer) (offset n : ℕ) → ((p : ℕ) (v : Value) → gives p v → IsIn offset n p) → IsBetween gives below old new
    → (p : ℕ) → p < old.size → IsOut offset n p → at (new ∷ below) p ≡ at (old ∷ below) p
others_same gives below old new offset n within between p lt out = elim (between p lt) [
  | inl same ↦ same
  | inr gave ↦
      let into = within p (at (new ∷ below) p) gave in
      elim out [ inl low ↦ absurd (omega (arith, low, into.0)) | inr past ↦ absurd (omega (arith, past, into.1)) ]
]

-- A call that leaves the layers below unchanged, with no byte held before or after it.
module _ (below below' : List Layer) (old new : Layer) (same : below' ≡ below) (size : new.size ≡ old.size) (was_loose : (p : ℕ) → old.held p ≡ loose) (is_loose : (p : ℕ) → new.held p ≡ loose) where
  hold_same : (p : ℕ) → hold_of (new.held p) ≡ hold_of (old.held p)
  hold_same p = rw (was_loose p, is_loose p) refl

  value_on : (p : ℕ) → at (new ∷ below') p ≡ at (new ∷ below) p
  value_on p = ap (λ (ls : List Layer). at (new ∷ ls) p) same

  pub disk_stays : ((p : ℕ) → p < old.size → at (new ∷ below) p ≡ at (old ∷ below) p) → Stays (disk_of below old) (disk_of below' new)
  disk_stays each = record { size = size; value = λ p lt. value_on p ∙ each p lt; hold = λ p lt. hold_same p }

  pub disk_changes : (Becomes : ℕ → Value → Value → Type 0) (offset n : ℕ) → offset + n ≤ old.size → ((p : ℕ) → IsIn offset n p → Becomes p (at (old ∷ below) p) (at (new ∷ below) p))
      → ((p : ℕ) → p < old.size → IsOut offset n p → at (new ∷ below) p ≡ at (old ∷ below) p) → Changes Becomes (disk_of below old) (disk_of below' new) offset n
  disk_changes Becomes offset n inside range others = record {
    inside = inside;
    size = size;
    range = λ p into. rw (value_on p) (range p into);
    others = λ p lt out. value_on p ∙ others p lt out;
    hold = λ p lt. hold_same p;
  }

  -- If the range is empty the disk is unchanged. Otherwise its bytes become what the call makes of them.
  pub disk_step : (gives : ℕ → Value → Type 0) (Becomes : ℕ → Value → Value → Type 0) (offset n : ℕ) → (0 < n → offset + n ≤ old.size) → ((p : ℕ) (v : Value) → gives p v → IsIn offset n p) → IsBetween gives below old new
      → ((p : ℕ) → IsIn offset n p → Becomes p (at (old ∷ below) p) (at (new ∷ below) p))
      → Unless (n ≡ 0) (Stays (disk_of below old) (disk_of below' new)) (Changes Becomes (disk_of below old) (disk_of below' new) offset n)
  disk_step gives Becomes offset n inside within between range =
      let others = others_same gives below old new offset n within between in
      unless_empty n (Stays (disk_of below old) (disk_of below' new)) (Changes Becomes (disk_of below old) (disk_of below' new) offset n)
      (λ none. disk_stays (λ p lt. others p lt (elim (out_or_in offset n p) [ inl out ↦ out | inr into ↦ absurd (omega (arith, into.0, into.1, none)) ])))
      (λ some. disk_changes Becomes offset n (inside some) range others)

  -- A call that failed.
  pub disk_partly : (gives : ℕ → Value → Type 0) (call : Call) → IsBetween gives below old new → ((p : ℕ) (v : Value) → gives p v → IsIn (offset_of call) (length_of call) p)
      → ((p : ℕ) (v : Value) → gives p v → Gives (at below) call p (at (old ∷ below) p) v) → PartlyDone (at below) call (disk_of below old) (disk_of below' new)
  disk_partly gives call between within given = record {
    size = size;
    value = λ p lt. rw (value_on p) (elim (between p lt) [ inl stays ↦ inl stays | inr gave ↦ inr (given p (at (new ∷ below) p) gave) ]);
    others = λ p lt out. value_on p ∙ others_same gives below old new (offset_of call) (length_of call) within between p lt out;
    hold = λ p lt. hold_same p;
  }

-- A byte of the old disk after a growth.
pub shows_grown : (old new : Layer) (below : List Layer) (p : ℕ) → p < old.size → p < new.size → through (new.cell p) (at below p) ≡ through (old.cell p) (at below p)
    → at (new ∷ below) p ≡ at (old ∷ below) p
shows_grown old new below p was is same = at_inside new below p is ∙ same ∙ sym (at_inside old below p was)

-- A driver's growth is one of the disk, if the layers below are unchanged.
pub grown_step : (under later : List Layer) (old new : Layer) (size : ℕ) (fill : Growth) (r : Result Unit Fault) → ((p : ℕ) → new.held p ≡ loose)
    → (size ≤ old.size → OnOk r (new ≡ old)) → (old.size < size → OnOk r (Grown (at under) old new size fill)) → (HadNoResourceError r → later ≡ under)
    → OnOk r (Step (at under) (disk_of under old) (grow size fill) done (disk_of later new))
grown_step under later old new size fill (Err e) is_free nothing grown stays = tt
grown_step under later old new size fill (Ok v) is_free nothing grown stays = rw (stays tt) (elim (cases_lt old.size size) [
  | inl large ↦ let g = grown large in let longer : old.size < new.size = omega (arith, large, g.size) in inr (
    λ small. omega (arith, small, large),
    record {
      new_size = g.size;
      prefix_unchanged = λ p low. shows_grown old new under p low (omega (arith, longer, low)) (g.data_unchanged p low);
      filled = λ p from to. rw (at_inside new under p (omega (arith, to, g.size))) (g.filled p from to);
      is_free = λ p low. ap hold_of (is_free p);
    },
  )
  | inr small ↦ inl (
    small,
    record {
      size = ap (λ (l : Layer). l.size) (nothing small);
      value = λ p low. ap (λ (l : Layer). at (l ∷ under) p) (nothing small);
      hold = λ p low. ap (λ (l : Layer). hold_of (l.held p)) (nothing small);
    },
  )
])
