-- Calls that end early change nothing. An image that has failed stays failed.
use Rattle.std.proofs.Common.{◌≡◌, List, [], ◌∷◌, refl, subst, sym}
use Rattle.std.specs.Prelude.{Option, Some, None, IsSome, IsTrue, map}
use Rattle.imago_access.specs.declared.driver_model.DriverModel.{Ghosts}
use Rattle.imago_access.specs.Chain.{KeepLayerStates}
use Rattle.imago_access.specs.ChainCalls.{AllUnchanged}
use Rattle.imago_access.specs.Files.{Pairs}
use Rattle.imago_access.specs.Going.{LookupCall}
use Rattle.imago_access.specs.Layer.{Layer}
use Rattle.imago_access.specs.Layers.{chain}
use Rattle.imago_access.proofs.Looking.{chain_like}
use Rattle.imago_access.proofs.Units.{likes_same}
use Rattle.imago_access.proofs.Untouched.{unchanged_same}
use Rattle.qimg_calls.specs.Marking.{StayFailed, StaysFailed}

-- The value of an option that has one.
pub value-of : {A : Type 0} (option : Option A) → IsSome option → (a : A) × (option ≡ Some a)
value-of None some = absurd (cc some)
value-of (Some a) some = (a, refl)

-- Layers that keep their state stay failed.
pub states-stay-failed : (olds news : List Layer) → KeepLayerStates olds news → StayFailed olds news
states-stay-failed [] [] like = tt
states-stay-failed (old ∷ olds) (new ∷ news) like = (like.0.failed, states-stay-failed olds news like.1)
states-stay-failed [] (new ∷ news) like = absurd like
states-stay-failed (old ∷ olds) [] like = absurd like

module _ {D St : Type 0} (g : Ghosts D St) (old new : D × List D) where
  -- Nothing has changed in equal chains.
  pub all-unchanged : new ≡ old → AllUnchanged g old new
  all-unchanged same = subst (AllUnchanged g old) (sym same) (unchanged_same g old.0, refl)

  -- The top stays failed, and the layers below keep their state.
  pub stays-failed : (IsTrue (g.layer old.0).failed → IsTrue (g.layer new.0).failed) → KeepLayerStates (map g.layer old.1) (map g.layer new.1) → StaysFailed g old new
  stays-failed top below = (top, states-stay-failed (map g.layer old.1) (map g.layer new.1) below)

  -- The top stays failed, and the layers below are unchanged.
  pub top-stays-failed : (IsTrue (g.layer old.0).failed → IsTrue (g.layer new.0).failed) → new.1 ≡ old.1 → StaysFailed g old new
  top-stays-failed top same = stays-failed top (subst (λ ds. KeepLayerStates (map g.layer old.1) (map g.layer ds)) (sym same) (likes_same (map g.layer old.1)))

  -- After a read or a lookup through the chain.
  pub look-stays-failed : (whole : Type 0) → Pairs (LookupCall g whole) (chain old) (chain new) → StaysFailed g old new
  look-stays-failed whole looked = states-stay-failed (map g.layer (chain old)) (map g.layer (chain new)) (chain_like g whole (chain old) (chain new) looked)
