-- Values that the pairs of files show which a crash in a commit may leave, and the conditions of a commit.
use Rattle.std.proofs.Common.{◌≡◌, ◌⊎◌, refl, inl, inr, ℕ, ◌<◌, ◌≤◌, List, ◌∷◌, arith, sym, ◌∙◌, ap}
use Rattle.std.specs.Prelude.{Bool, true, false, not, ◌||◌, if◌then◌else◌, ltb, Option, Some, None, IsTrue}
use Rattle.std.proofs.lemmas.Bool.{cases_lt, lt-ltb}
use Rattle.imago_storage.specs.Disk.{Value, byte}
use Rattle.imago_storage.specs.declared.fault.Fault.{Fault}
use Rattle.imago_storage.specs.declared.fault.Fault.TheVariants.{ReadOnly, BadArgument}
use Rattle.imago_access.specs.Layer.{Layer, Cell, own, through}
use Rattle.imago_access.specs.Chain.{at}
use Rattle.imago_access.specs.Committing.{first_fault, pair_refusal, shown_over}
use Rattle.imago_access.specs.Refusals.{unusable_fault}
use Rattle.imago_access.specs.Stops.{shown, IsMeant, Left, GivesBelow}
use Rattle.imago_access.proofs.Committing.{through_stays}
use Rattle.imago_access.proofs.Holding.{at_inside}

-- The early errors of the two layers.
pub if_none : (test : Bool) (fault : Fault) (rest : Option Fault) → (if test then Some fault else rest) ≡ None → (test ≡ false) × (rest ≡ None)
if_none true fault rest none = absurd (cc none)
if_none false fault rest none = (refl, none)

first_none : (first other : Option Fault) → first_fault first other ≡ None → (first ≡ None) × (other ≡ None)
first_none None other none = (refl, none)
first_none (Some fault) other none = absurd (cc none)

both_true : (a b : Bool) → not a || not b ≡ false → a ≡ true
both_true true b is = refl
both_true false b is = absurd (cc is)

no_smaller : (small large : ℕ) → ltb large small ≡ false → small ≤ large
no_smaller small large is = elim (cases_lt large small) [ inl lt ↦ absurd (cc (sym (lt-ltb large small lt) ∙ is)) | inr le ↦ le ]

module _ (top next : Layer) (allowed : pair_refusal top next ≡ None) where
  after_writable : (not top.fixed.writable || not next.fixed.writable ≡ false) × ((if ltb next.size top.size then Some BadArgument else first_fault (unusable_fault top) (unusable_fault next)) ≡ None)
  after_writable = if_none (not top.fixed.writable || not next.fixed.writable) ReadOnly (if ltb next.size top.size then Some BadArgument else first_fault (unusable_fault top) (unusable_fault next)) allowed

  after_size : (ltb next.size top.size ≡ false) × (first_fault (unusable_fault top) (unusable_fault next) ≡ None)
  after_size = if_none (ltb next.size top.size) BadArgument (first_fault (unusable_fault top) (unusable_fault next)) after_writable.1

  pub allowed_writable : IsTrue top.fixed.writable
  allowed_writable = both_true top.fixed.writable next.fixed.writable after_writable.0

  pub allowed_size : top.size ≤ next.size
  allowed_size = no_smaller top.size next.size after_size.0

  pub allowed_top : unusable_fault top ≡ None
  allowed_top = (first_none (unusable_fault top) (unusable_fault next) after_size.1).0

  pub allowed_usable : unusable_fault next ≡ None
  allowed_usable = (first_none (unusable_fault top) (unusable_fault next) after_size.1).1

-- A file that means a layer shows the layer.
pub over_meant : (layer : Layer) (file : List ℕ) (under : ℕ → Value) (p : ℕ) → IsMeant layer file → p < layer.size → shown_over under layer.fixed.means file p ≡ through (layer.cell p) (under p)
over_meant layer file under p meant inside =
    let in_file : p < (layer.fixed.means file).size = omega (arith, inside, meant.size) in
    ap (λ (t : Bool). if t then through ((layer.fixed.means file).cell p) (under p) else byte 0) (lt-ltb p (layer.fixed.means file).size in_file) ∙ ap (λ (c : Cell). through c (under p)) (meant.cell p inside)

pub shown_meant : (layer : Layer) (file : List ℕ) (below : List Layer) (p : ℕ) → IsMeant layer file → p < layer.size → shown below layer.fixed.means file p ≡ at (layer ∷ below) p
shown_meant layer file below p meant inside = over_meant layer file (at below) p meant inside ∙ sym (at_inside layer below p inside)

-- The top's file over a crash image of the next layer's file shows the disk.
pub pair_shows : (top next : Layer) (rest : List Layer) (file next_file : List ℕ) (sound : ℕ → List ℕ → Type 0) (gives : ℕ → Value → Type 0) (f : List ℕ) → IsMeant top file → IsMeant next next_file → top.size ≤ next.size
    → ((p : ℕ) (v : Value) → gives p v → top.cell p ≡ own v) → Left rest next next_file sound next.size next.size gives f
    → (p : ℕ) → p < top.size → shown_over (shown rest next.fixed.means f) top.fixed.means file p ≡ at (top ∷ (next ∷ rest)) p
pair_shows top next rest file next_file sound gives f meant next_meant size given left p inside =
    let in_next : p < next.size = omega (arith, inside, size) in
    let how : (shown rest next.fixed.means f p ≡ at (next ∷ rest) p) ⊎ (top.cell p ≡ own (shown rest next.fixed.means f p)) = elim (left.shows p (omega (arith, in_next, left.size)) in_next) [
      | inl was ↦ inl (was ∙ shown_meant next next_file rest p next_meant in_next)
      | inr more ↦ elim more [ inl value ↦ inl value | inr gave ↦ inr (given p (shown rest next.fixed.means f p) gave) ]
    ] in
    over_meant top file (shown rest next.fixed.means f) p meant inside ∙ through_stays (top.cell p) (shown rest next.fixed.means f p) (at (next ∷ rest) p) how ∙ sym (at_inside top (next ∷ rest) p inside)

-- A crash image of the emptied top's file over layers that show the disk shows the disk.
pub above_shows : (top : Layer) (below : List Layer) (file : List ℕ) (sound : ℕ → List ℕ → Type 0) (disk : ℕ → Value) (f : List ℕ) → IsMeant top file → ((p : ℕ) → p < top.size → at (top ∷ below) p ≡ disk p) → ((p : ℕ) → p < top.size → at below p ≡ disk p)
    → Left below top file sound top.size top.size (GivesBelow below 0 top.size) f → (p : ℕ) → p < top.size → shown below top.fixed.means f p ≡ disk p
above_shows top below file sound disk f meant over under left p inside = elim (left.shows p (omega (arith, inside, left.size)) inside) [
  | inl was ↦ was ∙ shown_meant top file below p meant inside ∙ over p inside
  | inr more ↦ elim more [ inl value ↦ value ∙ over p inside | inr gave ↦ gave.1 ∙ under p inside ]
]
