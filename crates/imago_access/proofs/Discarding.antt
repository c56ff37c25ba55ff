-- Consecutive discards of parts of a range.
use Rattle.std.proofs.Common.{◌≡◌, ◌∙◌, ◌⊎◌, inl, inr, refl, ℕ, ◌+◌, ◌^◌, ◌<◌, ◌≤◌, List, ◌∷◌, arith, sym, subst, map}
use Rattle.std.specs.Prelude.{⊤, Result, Ok, Err, OnOk, IfErr, None}
use Rattle.std.proofs.lemmas.Bool.{cases_lt}
use Rattle.std.proofs.lemmas.Result.{IfErr-weaker}
use Rattle.imago_storage.specs.State.{StorageState, IsAlignment}
use Rattle.imago_storage.specs.Disk.{Value}
use Rattle.imago_storage.specs.Steps.{Call, Stays, Changes, Unless, IsIn}
use Rattle.imago_storage.specs.Causes.{Gives, PartlyDone, offset_of, length_of, Alters}
use Rattle.imago_storage.specs.declared.fault.Fault.{Fault}
use Rattle.imago_storage.specs.declared.fault.Fault.TheVariants.{Unsupported, VersionLimit}
use Rattle.imago_storage.proofs.Rounding.{le_round_up}
use Rattle.imago_access.specs.Layer.{Layer, IsFree, KeepsLayerState, loose}
use Rattle.imago_access.specs.Chain.{at, IsBacked}
use Rattle.imago_access.specs.RangeCalls.{GivesDiscarded}
use Rattle.imago_access.specs.Files.{IsNotResourceError, IsDeclined, HadNoResourceError, files_of, files}
use Rattle.imago_access.specs.Going.{MutatingCall}
use Rattle.imago_access.specs.Parts.{PartCause, DeclinableCause}
use Rattle.imago_access.specs.Room.{IsUndeclined}
use Rattle.imago_access.specs.Refusals.{change_refusal, ChangeCause}
use Rattle.imago_access.specs.Running.{IsIntact, IsBetween, ChainRangeChange, IsIntactChain, chain_disk, DriverRangeChange, below_ghosts, alone_ghosts}
use Rattle.imago_access.specs.Stops.{KeepsCrashImages}
use Rattle.imago_access.specs.declared.access.discarding.Discarding.{Discarding}
use Rattle.imago_access.specs.declared.access.discarding.Discarding.TheVariants.{ToAny, ToBacking}
use Rattle.imago_access.proofs.ChangeCauses.{part_cause_left, change_cause}
use Rattle.imago_access.proofs.Disks.{allowed_inside, disk_step, disk_partly}
use Rattle.imago_access.proofs.Running.{holds_loose, ran_driver, ran_both, went_weaker}
use Rattle.imago_access.proofs.Units.{overflows_chain}
use Rattle.imago_access.specs.declared.driver_model.DriverModel.{Ghosts}

pub discarded_wider : (discarding : Discarding) (below : List Layer) (offset n start m : ℕ) → offset ≤ start → start + m ≤ offset + n
    → (p : ℕ) (v : Value) → GivesDiscarded discarding below start m p v → GivesDiscarded discarding below offset n p v
discarded_wider ToAny below offset n start m from to p v gave = ((omega (arith, from, gave.0.0), omega (arith, to, gave.0.1)), gave.1)
discarded_wider ToBacking below offset n start m from to p v gave = ((omega (arith, from, gave.0.0), omega (arith, to, gave.0.1)), gave.1)

discarded_there : (discarding : Discarding) (below : List Layer) (offset n p : ℕ) (v : Value) → GivesDiscarded discarding below offset n p v → IsIn offset n p
discarded_there ToAny below offset n p v gave = gave.0
discarded_there ToBacking below offset n p v gave = gave.0

pub like_both : (a b c : Layer) → KeepsLayerState a b → KeepsLayerState b c → KeepsLayerState a c
like_both a b c first second = record { fixed = second.fixed ∙ first.fixed; size = second.size ∙ first.size; unspent = second.unspent ∙ first.unspent; failed = λ f. second.failed (first.failed f) }

pub declined_mild : (e : Fault) → IsDeclined e → IsNotResourceError e
declined_mild Unsupported h = tt
declined_mild VersionLimit h = tt
declined_mild _ h = absurd h

pub undeclined : (below : List Layer) (layer : Layer) (offset n : ℕ) (causes : Fault → Type 0) (olds news : List StorageState) (e : Fault) → IsUndeclined causes → IsDeclined e → DeclinableCause below layer offset n causes olds news e → ⊥
undeclined below layer offset n causes olds news Unsupported none declined h = none.0 h
undeclined below layer offset n causes olds news VersionLimit none declined h = none.1 h
undeclined below layer offset n causes olds news _ none declined h = absurd declined

module _ {D St : Type 0} (g : Ghosts D St) (free_loose : (d : D) → IsFree (g.layer d) → (p : ℕ) → (g.layer d).held p ≡ loose) where
  -- The effect of a driver's call on an image without a prepared mapping, which reads through to the layers below.
  pub ran_alone : (whole : Type 0) (gives : ℕ → Value → Type 0) (below : List Layer) (a b : D) → IsFree (g.layer a) → KeepsLayerState (g.layer a) (g.layer b) → MutatingCall g whole whole a b
      → (g.well_formed a → IsBacked below (g.layer a) → whole → IsBetween gives below (g.layer a) (g.layer b))
      → (g.well_formed a → IsBacked below (g.layer a) → KeepsCrashImages g below gives a b)
      → DriverRangeChange g whole gives below a b
  ran_alone whole gives below a b free like mutating_call values stops = ran_driver {B = List Layer} g alone_ghosts whole gives a b below like.size mutating_call
      (λ w i. holds_loose (at below) (g.layer b) (free_loose b (like.unspent ∙ free)))
      (λ w i. values i.is_well_formed i.backed w)
      (λ i. stops i.is_well_formed i.backed)

  pub intact_alone : (below : List Layer) (a : D) → IsFree (g.layer a) → g.well_formed a → IsBacked below (g.layer a) → IsIntact g alone_ghosts a below
  intact_alone below a free is_well_formed backed = record { is_well_formed = is_well_formed; is_coherent = tt; backed = backed; held = holds_loose (at below) (g.layer a) (free_loose a free) }

  pub went_alone : (whole : Type 0) (gives : ℕ → Value → Type 0) (below : List Layer) (a b : D) → DriverRangeChange g whole gives below a b → MutatingCall g whole whole a b
  went_alone whole gives below a b h = went_weaker g whole (whole × ⊤) whole whole a b (λ x. x) (λ x. (x, tt)) h.mutating_call

  -- The discard of one more part.
  pub then_discarded : (whole : Type 0) (discarding : Discarding) (below : List Layer) (offset n start m : ℕ) (a b c : D) → offset ≤ start → start + m ≤ offset + n → IsFree (g.layer b)
      → DriverRangeChange g ⊤ (GivesDiscarded discarding below offset n) below a b → KeepsLayerState (g.layer b) (g.layer c) → MutatingCall g whole whole b c
      → (g.well_formed b → (under : List Layer) → IsBacked under (g.layer b) → whole → IsBetween (GivesDiscarded discarding under start m) under (g.layer b) (g.layer c))
      → (g.well_formed b → (under : List Layer) → IsBacked under (g.layer b) → KeepsCrashImages g under (GivesDiscarded discarding under start m) b c)
      → DriverRangeChange g whole (GivesDiscarded discarding below offset n) below a c
  then_discarded whole discarding below offset n start m a b c from to free first like mutating_call values stops =
      ran_both {B = List Layer} g alone_ghosts whole (GivesDiscarded discarding below offset n) (GivesDiscarded discarding below start m) (GivesDiscarded discarding below offset n) a b c below below below
      (λ p v gave. gave) (discarded_wider discarding below offset n start m from to) first
      (ran_alone whole (GivesDiscarded discarding below start m) below b c free like mutating_call (λ s backed w. values s below backed w) (λ s backed. stops s below backed))

pub allowed_fits : (unit : ℕ) (layer : Layer) (offset n : ℕ) → 0 < unit → offset < 2 ^ 64 → change_refusal unit layer offset n ≡ None → offset + n < 2 ^ 64
allowed_fits unit layer offset n positive low allowed = let up = le_round_up unit (offset + n) positive in elim (cases_lt 0 n) [ inl some ↦ grind (arith) | inr none ↦ omega (arith, none, low) ]

-- The effect on a chain of a discard of the whole range.
module _ {D St : Type 0} (g : Ghosts D St) (free_loose : (d : D) → IsFree (g.layer d) → (p : ℕ) → (g.layer d).held p ≡ loose)
    (d d' : D) (ds : List D) (discarding : Discarding) (offset n : ℕ) (is_free : IsFree (g.layer d)) (like : KeepsLayerState (g.layer d) (g.layer d')) where
  was_loose : (p : ℕ) → (g.layer d).held p ≡ loose
  was_loose = free_loose d is_free

  is_loose : (p : ℕ) → (g.layer d').held p ≡ loose
  is_loose = free_loose d' (like.unspent ∙ is_free)

  pub chain_ran : (result : Result (Unit {0}) Fault) → (g.well_formed d → (below : List Layer) → IsBacked below (g.layer d) → HadNoResourceError result → IsBetween (GivesDiscarded discarding below offset n) below (g.layer d) (g.layer d'))
      → MutatingCall g (HadNoResourceError result) (HadNoResourceError result) d d'
      → (g.well_formed d → (below : List Layer) → IsBacked below (g.layer d) → KeepsCrashImages g below (GivesDiscarded discarding below offset n) d d')
      → ChainRangeChange g (HadNoResourceError result) (GivesDiscarded discarding (map g.layer ds) offset n) (d, ds) (d', ds)
  chain_ran result values mutating_call stops = ran_driver {B = List D} g (below_ghosts g) (HadNoResourceError result) (GivesDiscarded discarding (map g.layer ds) offset n) d d' ds like.size mutating_call
      (λ w i. holds_loose (at (map g.layer ds)) (g.layer d') is_loose)
      (λ w i. values i.is_well_formed (map g.layer ds) i.backed w)
      (λ i. stops i.is_well_formed (map g.layer ds) i.backed)

  pub chain_done : (result : Result (Unit {0}) Fault) → (g.well_formed d → (below : List Layer) → IsBacked below (g.layer d) → HadNoResourceError result → IsBetween (GivesDiscarded discarding below offset n) below (g.layer d) (g.layer d'))
      → (Becomes : ℕ → Value → Value → Type 0) → ((p : ℕ) (was v : Value) → (v ≡ was) ⊎ GivesDiscarded discarding (map g.layer ds) offset n p v → Becomes p was v)
      → (unit : ℕ) → change_refusal unit (g.layer d) offset n ≡ None → IsIntactChain g (d, ds)
      → OnOk result (Unless (n ≡ 0) (Stays (chain_disk g.layer (d, ds)) (chain_disk g.layer (d', ds))) (Changes Becomes (chain_disk g.layer (d, ds)) (chain_disk g.layer (d', ds)) offset n))
  chain_done (Ok x) values Becomes becomes unit allowed i =
      let between = values i.is_well_formed (map g.layer ds) i.backed tt in
      let inside = allowed_inside unit (g.layer d) offset n allowed in
      disk_step (map g.layer ds) (map g.layer ds) (g.layer d) (g.layer d') refl like.size was_loose is_loose (GivesDiscarded discarding (map g.layer ds) offset n) Becomes offset n inside (discarded_there discarding (map g.layer ds) offset n) between
      (λ p there. becomes p (at (map g.layer (d ∷ ds)) p) (at (map g.layer (d' ∷ ds)) p) (between p (omega (arith, there.0, there.1, inside (omega (arith, there.0, there.1))))))
  chain_done (Err e) values Becomes becomes unit allowed i = tt

  pub chain_partly : (result : Result (Unit {0}) Fault) → (g.well_formed d → (below : List Layer) → IsBacked below (g.layer d) → HadNoResourceError result → IsBetween (GivesDiscarded discarding below offset n) below (g.layer d) (g.layer d'))
      → (call : Call) → offset_of call ≡ offset → length_of call ≡ n → ((p : ℕ) (was v : Value) → GivesDiscarded discarding (map g.layer ds) offset n p v → Gives (at (map g.layer ds)) call p was v)
      → IsIntactChain g (d, ds) → IfErr result (λ e. IsNotResourceError e → PartlyDone (at (map g.layer ds)) call (chain_disk g.layer (d, ds)) (chain_disk g.layer (d', ds)))
  chain_partly (Ok x) values call from long given i = tt
  chain_partly (Err e) values call from long given i = λ not_resource_error.
      disk_partly (map g.layer ds) (map g.layer ds) (g.layer d) (g.layer d') refl like.size was_loose is_loose (GivesDiscarded discarding (map g.layer ds) offset n) call (values i.is_well_formed (map g.layer ds) i.backed not_resource_error)
      (λ p v gave. subst (λ (o : ℕ). IsIn o (length_of call) p) (sym from) (subst (λ (m : ℕ). IsIn offset m p) (sym long) (discarded_there discarding (map g.layer ds) offset n p v gave)))
      (λ p v. given p (at (map g.layer (d ∷ ds)) p) v)

pub chain_cause : {D St : Type 0} (g : Ghosts D St) (aligned : (d : D) → IsAlignment (g.layer d).fixed.req_align × IsAlignment (g.layer d).fixed.mem_align) (d d' : D) (ds : List D) (result : Result (Unit {0}) Fault) (call : Call) (causes : Fault → Type 0)
    → (0 < length_of call → Alters (chain_disk g.layer (d, ds)) call)
    → IfErr result (PartCause (map g.layer ds) (g.layer d) (offset_of call) (length_of call) causes (files g d) (files g d'))
    → IfErr result (ChangeCause (map g.layer ds) (g.layer d) call causes (files_of g (d ∷ ds)) (files_of g (d' ∷ ds)))
chain_cause g aligned d d' ds result call causes alters = IfErr-weaker result (PartCause (map g.layer ds) (g.layer d) (offset_of call) (length_of call) causes (files g d) (files g d'))
    (ChangeCause (map g.layer ds) (g.layer d) call causes (files_of g (d ∷ ds)) (files_of g (d' ∷ ds)))
    (λ e h. change_cause (map g.layer ds) (g.layer d) call causes (files_of g (d ∷ ds)) (files_of g (d' ∷ ds)) alters (overflows_chain g.layer aligned d ds (offset_of call) (length_of call)) e
    (part_cause_left (map g.layer ds) (g.layer d) (offset_of call) (length_of call) causes (files g d) (files g d') (files_of g ds) (files_of g ds) e h))
