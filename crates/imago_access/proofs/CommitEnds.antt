-- Commits that end before anything is done.
use Rattle.std.proofs.Common.{◌≡◌, refl, inr, List, [], ◌∷◌, false, true, map}
use Rattle.std.specs.Prelude.{Bool, not, ◌||◌, ltb, if◌then◌else◌, Option, Some, None, Err}
use Rattle.imago_storage.specs.Passing.{UnrefusedCrashImages}
use Rattle.imago_storage.specs.declared.fault.Fault.{Fault}
use Rattle.imago_storage.specs.declared.fault.Fault.TheVariants.{ReadOnly, BadArgument, MissingBelow, Failed, Storage}
use Rattle.imago_access.specs.declared.driver_model.DriverModel.{Ghosts}
use Rattle.imago_access.specs.Layer.{Layer, KeepsLayerState}
use Rattle.imago_access.specs.Committing.{CommitMoments, CommitsDown, GivesOwn, IsFailedOrSound, IsPairAbove, IsPairBelow, MarksCommitFailed, NextPair, commit_down_refusal, first_fault, next_refusal, pair_refusal, some_failed}
use Rattle.imago_access.specs.Files.{IsNotResourceError, files}
use Rattle.imago_access.specs.Refusals.{unusable_fault}
use Rattle.imago_access.specs.Running.{ChainRangeChange, below_ghosts}
use Rattle.imago_access.specs.Stops.{GivesNone, Left}
use Rattle.imago_access.proofs.Committing.{like_same}
use Rattle.imago_access.proofs.CommitValues.{if_none}
use Rattle.imago_access.proofs.FilePairs.{is_later_same, kept_all_same}
use Rattle.imago_access.proofs.Marking.{unusable_by_none}
use Rattle.imago_access.proofs.Running.{ran_same, went_same}
use Rattle.imago_access.proofs.Stopping.{passes_none}

pub next_same : {D : Type 0} (R : D × List D → D × List D → Type 0) → ((z : D × List D) → R z z) → (xs : List D) → NextPair R xs xs
next_same R same [] = tt
next_same R same (x ∷ xs) = same (x, xs)

-- No early error is `Storage`.
if_storage : (test : Bool) (fault : Fault) (rest : Option Fault) → (fault ≡ Storage → ⊥) → (rest ≡ Some Storage → ⊥) → (if test then Some fault else rest) ≡ Some Storage → ⊥
if_storage true fault rest other none is = other (cc is)
if_storage false fault rest other none is = none is

first_storage : (first other : Option Fault) → (first ≡ Some Storage → ⊥) → (other ≡ Some Storage → ⊥) → first_fault first other ≡ Some Storage → ⊥
first_storage None other none none' is = none' is
first_storage (Some fault) other none none' is = none is

pair_storage : (top next : Layer) → pair_refusal top next ≡ Some Storage → ⊥
pair_storage top next =
    let usable = first_fault (unusable_fault top) (unusable_fault next) in
    if_storage (not top.fixed.writable || not next.fixed.writable) ReadOnly (if ltb next.size top.size then Some BadArgument else usable) (λ is. cc is)
    (if_storage (ltb next.size top.size) BadArgument usable (λ is. cc is)
    (first_storage (unusable_fault top) (unusable_fault next) (λ is. unusable_by_none top Storage is refl) (λ is. unusable_by_none next Storage is refl)))

next_storage : (top : Layer) (below : List Layer) → next_refusal top below ≡ Some Storage → ⊥
next_storage top [] is = cc is
next_storage top (next ∷ rest) is = pair_storage top next is

pub commit_storage : (top : Layer) (below : List Layer) → commit_down_refusal top below ≡ Some Storage → ⊥
commit_storage top below = if_storage (some_failed (top ∷ below)) Failed (next_refusal top below) (λ is. cc is) (next_storage top below)

pub commit_allowed : (top next : Layer) (rest : List Layer) → commit_down_refusal top (next ∷ rest) ≡ None → pair_refusal top next ≡ None
commit_allowed top next rest none = (if_none (some_failed (top ∷ (next ∷ rest))) Failed (pair_refusal top next) none).1

pub no_next : (top : Layer) → commit_down_refusal top [] ≡ None → ⊥
no_next top none = cc ((if_none (some_failed (top ∷ [])) Failed (Some MissingBelow) none).1)

module _ {D St : Type 0} (g : Ghosts D St) where
  pub moments_same : (c : D × List D) → CommitMoments g c c c.0 c
  moments_same c = record {
    flush = passes_none (Left (map g.layer c.1) (g.layer c.0) (g.image c.0).bytes g.sound (g.layer c.0).size (g.layer c.0).size GivesNone) (g.image c.0) (g.image c.0) refl (refl, refl, refl, refl);
    top_kept = kept_all_same (files g c.0);
    next = next_same (λ n m. UnrefusedCrashImages (IsPairBelow g c (g.image c.0).bytes n) (g.image n.0) (g.image m.0)) (λ z. passes_none (IsPairBelow g c (g.image c.0).bytes z) (g.image z.0) (g.image z.0) refl (refl, refl, refl, refl)) c.1;
    below_kept = refl;
    settled = inr (refl, refl, refl, refl);
    top = passes_none (IsPairAbove g c c) (g.image c.0) (g.image c.0) refl (refl, refl, refl, refl);
    counts_before = is_later_same (g.image c.0);
    counts_after = is_later_same (g.image c.0);
    order = record {
      fills = inr refl;
      empties = inr (refl, refl, refl, refl);
      keeps_layer_state = next_same (λ n m. KeepsLayerState (g.layer n.0) (g.layer m.0)) (λ z. like_same (g.layer z.0)) c.1;
    };
  }

  pub commits_same : (e : Fault) (c : D × List D) → (commit_down_refusal (g.layer c.0) (map g.layer c.1) ≡ None → IsNotResourceError e → ⊥) → CommitsDown g (Err e) c c
  commits_same e c early = record {
    disk = λ i whole. record { size = refl; value = λ p lt. refl; hold = λ p lt. refl };
    below = λ i. tt;
    moments = λ i. (c.0, c, moments_same c, tt, λ none whole. absurd (early none whole));
    top = like_same (g.layer c.0);
    mutating_call = went_same g (IsNotResourceError e) (IsNotResourceError e) c.0;
    next = next_same (ChainRangeChange g (IsNotResourceError e) (GivesOwn g c.0)) (λ z. ran_same g (below_ghosts g) (IsNotResourceError e) (GivesOwn g c.0) z.0 z.1) c.1;
    next_keeps_layer_state = next_same (λ n m. KeepsLayerState (g.layer n.0) (g.layer m.0)) (λ z. like_same (g.layer z.0)) c.1;
    committable = λ i whole. i;
    below_is_clean = λ i whole clean. clean;
    flushed = λ i. tt;
  }

  pub usable_same : (xs : List D) → NextPair (IsFailedOrSound g) xs xs
  usable_same xs = next_same (IsFailedOrSound g) (λ z marks. inr (λ i. i.is_well_formed)) xs

  pub marks_same : (e : Fault) (c : D × List D) → (e ≡ Storage → ⊥) → MarksCommitFailed g c c e
  marks_same e c none = record { storage = λ is. absurd (none is); memory = λ is marks. inr (refl, λ w. (w, refl)) }
