-- The errors of a commit.
use Rattle.std.proofs.Common.{◌≡◌, ◌⊎◌, refl, List, ◌++◌, inl, inr}
use Rattle.std.specs.Prelude.{Option, Some, None, IfSome, IsSome, IsTrue, is_some}
use Rattle.std.proofs.lemmas.Bool.Decides.{eqb_tells}
use Rattle.imago_storage.specs.State.{StorageState}
use Rattle.imago_storage.specs.Steps.{commit}
use Rattle.imago_storage.specs.declared.fault.Fault.{Fault}
use Rattle.imago_storage.specs.declared.fault.Fault.TheVariants.{ReadOnly, Foreign, MissingData, Failed, Memory, Storage}
use Rattle.imago_access.specs.Layer.{Layer, IsFree}
use Rattle.imago_access.specs.Files.{IsNotResourceError, ImageCause}
use Rattle.imago_access.specs.Spending.{IsSpending, IsMine, IsForeignTo, is_own, Spends, GivenBack}
use Rattle.imago_access.specs.Refusals.{ChangeCause}
use Rattle.imago_access.proofs.FilePairs.{some_rose_left}
use Rattle.imago_access.specs.declared.driver_model.DriverModel.{Ghosts}

module _ {D St : Type 0} (g : Ghosts D St) (layer new : Layer) (below : List Layer) (olds news us vs : List StorageState) where
  abbrev pub Cause : Option St → Fault → Type 0
  Cause state e = ChangeCause below layer (commit (is_some state) (is_own g.tag state layer)) (λ _. ⊥) (olds ++ us) (news ++ vs) e

  -- The mapping was returned.
  pub back_cause : (state : Option St) (e : Fault) → GivenBack g.tag state layer e → Cause state e
  back_cause state Failed h = inl h
  back_cause state MissingData h = inl h
  back_cause (Some s) ReadOnly h = (refl, h)
  back_cause (Some s) Foreign h = elim (eqb_tells (g.tag s) layer.fixed.number) [ inl same ↦ absurd (h same.1) | inr other ↦ other.0 ]
  back_cause (Some s) _ h = absurd h
  back_cause None _ h = absurd h

  -- The mapping was spent.
  pub spent_cause : (state : Option St) (e : Fault) → IsMine g state layer ⊎ IsForeignTo g.tag state layer → IsSome state → Spends g state layer new (IsFree new × (IsNotResourceError e → ⊥)) → ImageCause olds news e → Cause state e
  spent_cause None e whose some spends rose = absurd (cc some)
  spent_cause (Some s) Memory whose some spends rose = tt
  spent_cause (Some s) Storage whose some spends rose = some_rose_left olds news us vs rose
  spent_cause (Some s) _ whose some spends rose = elim whose [ inl mine ↦ absurd ((spends.1 mine.1).1 tt) | inr other ↦ absurd (other spends.0) ]

  fewer : (state : Option St) (e : Fault) (well_formed : Type 0) → well_formed → Spends g state layer new (IsFree new × (well_formed → IsNotResourceError e → ⊥)) → Spends g state layer new (IsFree new × (IsNotResourceError e → ⊥))
  fewer None e well_formed s h = h
  fewer (Some x) e well_formed s h = (h.0, λ mine. ((h.1 mine).0, (h.1 mine).1 s))

  pub commit_cause : {M : Type 0} (state : Option St) (given : Option M) (well_formed : Type 0) (e : Fault) → IsMine g state layer ⊎ IsForeignTo g.tag state layer → well_formed
      → IfSome given (λ m. GivenBack g.tag state layer e) → (given ≡ None → IsSome state × IsTrue new.failed × IsSpending e × Spends g state layer new (IsFree new × (well_formed → IsNotResourceError e → ⊥))) → ImageCause olds news e → Cause state e
  commit_cause state (Some m) well_formed e whose s back spent rose = back_cause state e back
  commit_cause state None well_formed e whose s back spent rose = let told = spent refl in spent_cause state e whose told.0 (fewer state e well_formed s told.3) rose
