-- A mapping that is prepared and committed by one call.
use Rattle.std.proofs.Common.{◌≡◌, refl, inl, inr, ℕ, ◌<◌, ◌≤◌, Bool, true, false, Option, Some, None, List, ◌∷◌, arith, sym, ◌∙◌, ap, subst}
use Rattle.std.specs.Prelude.{⊤, if◌then◌else◌}
use Rattle.imago_storage.specs.Disk.{Value, Hold, Disk, IsFree}
use Rattle.imago_storage.specs.declared.fault.Fault.{Fault}
use Rattle.imago_storage.specs.declared.fault.Fault.TheVariants.{MissingData, Failed}
use Rattle.imago_storage.specs.Steps.{Stays, Commits, IsIn, IsByte, CommitsValue as SettlesValue}
use Rattle.imago_access.specs.Layer.{Layer, Cell, through, Held, loose, beside, inside, hold_of}
use Rattle.imago_access.specs.Chain.{at, disk_of}
use Rattle.imago_access.specs.Changes.{asking, run_at, IsHolding, Prepared, CommitsPlace, Committed}
use Rattle.imago_access.specs.Refusals.{unusable_fault, change_refusal}
use Rattle.imago_access.specs.Running.{IsTruly, HoldsTrue, IsIntact, RangeChange}
use Rattle.imago_access.specs.Spending.{IsMine, Spends}
use Rattle.imago_access.specs.Stops.{MayTake, GivesNone, GivesHeld, GivesAny, GivesAnnounced}
use Rattle.imago_access.proofs.Holding.{at_inside, spent_settles}
use Rattle.imago_access.proofs.Running.{ran_both, ran_gives_intact}
use Rattle.imago_access.specs.declared.driver_model.DriverModel.{Ghosts}
use Rattle.imago_access.specs.declared.driver_model.LayersBelowModel.{Ghosts as GhostsBelow}

-- The value of a committed byte.
value_settles : (below : ℕ → Value) (layer : Layer) (p : ℕ) (h : Held) (c : Cell) → IsTruly below layer p h → CommitsPlace h (layer.cell p) c → SettlesValue (hold_of h) (through (layer.cell p) (below p)) (through c (below p))
value_settles below layer p loose c truly settles = ap (λ (x : Cell). through x (below p)) settles
value_settles below layer p (beside b) c truly settles = ap (λ (x : Cell). through x (below p)) settles ∙ sym truly.0
value_settles below layer p (inside copied (Some b) announced) c truly settles = ap (λ (x : Cell). through x (below p)) settles
value_settles below layer p (inside (Some b) None true) c truly settles = inl (ap (λ (x : Cell). through x (below p)) settles ∙ sym truly)
value_settles below layer p (inside (Some b) None false) c truly settles = ap (λ (x : Cell). through x (below p)) settles ∙ sym truly
value_settles below layer p (inside None None true) c truly settles = elim settles [
  | inl same ↦ inl (ap (λ (x : Cell). through x (below p)) same)
  | inr became ↦ inr (subst (λ (x : Cell). IsByte (through x (below p))) (sym became.2) became.1)
]
value_settles below layer p (inside None None false) c truly settles = ap (λ (x : Cell). through x (below p)) settles

pub settled_commits : {D St : Type 0} (g : Ghosts D St) (state : Option St) (below below' : List Layer) (mid new : Layer) → below' ≡ below → new.size ≡ mid.size → HoldsTrue (at below) mid → IsMine g state mid
    → (state ≡ None → (p : ℕ) → mid.held p ≡ loose) → ((p : ℕ) → new.held p ≡ loose) → Spends g state mid new (Committed mid new) → Commits (disk_of below mid) (disk_of below' new)
settled_commits g state below below' mid new same size truly mine stateless is_loose spends = rw same (record {
  size = size;
  value = λ p low.
      let shown = value_settles (at below) mid p (mid.held p) (new.cell p) (truly p) (spent_settles g state mid new mine stateless spends p) in
      subst (λ (v : Value). SettlesValue (hold_of (mid.held p)) v (at (new ∷ below) p)) (sym (at_inside mid below p low))
      (subst (λ (v : Value). SettlesValue (hold_of (mid.held p)) (through (mid.cell p) (at below p)) v) (sym (at_inside new below p (rw size low))) shown);
  is_free = λ p low. ap hold_of (is_loose p);
})

pub settled_home : {D St : Type 0} (g : Ghosts D St) (state : Option St) (mid new : Layer) → IsMine g state mid → Spends g state mid new (Committed mid new) → (p : ℕ) (place : ℕ × ℕ) → mid.writable_location p ≡ Some place → new.writable_location p ≡ Some place
settled_home g None mid new mine spends p place home = rw spends home
settled_home g (Some s) mid new mine spends p place home = (spends.1 mine.1).writable_location p place home

-- A byte that the commit of a fresh mapping may give was promised.
may_announced : (below : ℕ → Value) (layer : Layer) (offset n : ℕ) (overwrite : Bool) (p : ℕ) (h : Held) (v : Value) → IsHolding below layer offset n overwrite p h → MayTake h v → IsIn offset n p × (overwrite ≡ true) × IsByte v
may_announced below layer offset n overwrite p loose v holding may = absurd may
may_announced below layer offset n overwrite p (beside b) v holding may = absurd may
may_announced below layer offset n overwrite p (inside (Some b) (Some w) announced) v holding may = absurd (cc holding.1)
may_announced below layer offset n overwrite p (inside None (Some w) announced) v holding may = absurd (cc holding.1)
may_announced below layer offset n overwrite p (inside (Some b) None true) v holding may = (holding.0, sym holding.2, may)
may_announced below layer offset n overwrite p (inside None None true) v holding may = (holding.0, sym holding.2, may)
may_announced below layer offset n overwrite p (inside (Some b) None false) v holding may = absurd may
may_announced below layer offset n overwrite p (inside None None false) v holding may = absurd may

announced_gives : (overwrite : Bool) (offset n : ℕ) (p : ℕ) (v : Value) → overwrite ≡ true → GivesAny offset n p v → GivesAnnounced overwrite offset n p v
announced_gives overwrite offset n p v is gives = rw is gives

module _ {D St B : Type 0} (g : Ghosts D St) (u : GhostsBelow B) where
  -- The mapping is prepared, and then spent.
  pub ran_ensured : (whole : Type 0) (a b c : D) (x y : B) (offset asked : ℕ) (overwrite : Bool) (storage place n : ℕ) (mapping_id : Option ℕ) → n ≤ asked
      → (IsIntact g u a x → Prepared (at (u.layers_below x)) (g.layer a) (g.layer b) (asking offset asked overwrite) (run_at storage place n mapping_id))
      → RangeChange g u ⊤ GivesNone (a, x) (b, y) → RangeChange g u whole (GivesHeld (g.layer b)) (b, y) (c, y)
      → RangeChange g u whole (GivesAnnounced overwrite offset asked) (a, x) (c, y)
  ran_ensured whole a b c x y offset asked overwrite storage place n mapping_id most prepared first second =
      ran_gives_intact g u whole (GivesHeld (g.layer b)) (GivesAnnounced overwrite offset asked) a c x y
      (λ i p v may.
      let it = may_announced (at (u.layers_below x)) (g.layer b) offset n overwrite p ((g.layer b).held p) v ((prepared i).holds p) may in
      announced_gives overwrite offset asked p v it.1 ((it.0.0, omega (arith, it.0.1, most)), it.2))
      (ran_both g u whole GivesNone (GivesHeld (g.layer b)) (GivesHeld (g.layer b)) a b c x y y (λ p v none. absurd none) (λ p v may. may) first second)

pub stays_committed : (a b c : Disk) → IsFree b → Stays a b → Commits b c → Stays a c
stays_committed a b c is_free stays commits = record {
  size = commits.size ∙ stays.size;
  value = λ p low.
      let low' : p < b.size = rw stays.size low in
      subst (λ (h : Hold). SettlesValue h (b.value p) (c.value p)) (is_free p low') (commits.value p low') ∙ stays.value p low;
  hold = λ p low.
      let low' : p < b.size = rw stays.size low in
      commits.is_free p (rw commits.size low') ∙ sym (is_free p low') ∙ stays.hold p low;
}

-- A failed image and a missing file are checked first.
barrier_first : (failed missing : Bool) (rest : Option Fault) → (if failed then Some Failed else if missing then Some MissingData else rest) ≡ None → (if failed then Some Failed else if missing then Some MissingData else None) ≡ None
barrier_first true missing rest h = absurd (cc h)
barrier_first false true rest h = absurd (cc h)
barrier_first false false rest h = refl

pub unbarred : (unit : ℕ) (layer : Layer) (offset n : ℕ) → change_refusal unit layer offset n ≡ None → unusable_fault layer ≡ None
unbarred unit layer offset n h = barrier_first layer.failed layer.fixed.missing _ h
