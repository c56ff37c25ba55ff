-- Calls without a failed request or a refused change.
use Rattle.std.proofs.Common.{◌≡◌, ℕ, refl, ap, sym, subst, ◌∙◌, inl, inr, List, Option, Some, None, Result, Ok, Err, Bool, true, false}
use Rattle.std.specs.Prelude.{IfSome, MatchOption, not, cond, ◌&&◌}
use Rattle.imago_storage.specs.State.{StorageState}
use Rattle.imago_storage.specs.Calls.{Cause, IsFaultless}
use Rattle.imago_storage.specs.Through.{WriteOutcome}
use Rattle.imago_storage.specs.declared.fault.Fault.{Fault}
use Rattle.imago_storage.specs.declared.fault.Fault.TheVariants.{Memory, Storage}
use Rattle.qcow2_metadata.specs.Blocks.{Block}
use Rattle.qcow2_alloc.specs.declared.cache.MetadataCaches.{MetadataCaches}
use Rattle.qcow2_alloc.specs.declared.file.ImageFile.{ImageFile}
use Rattle.qcow2_alloc.specs.Allocators.{UsesBlock}
use Rattle.qcow2_alloc.specs.Caches.{cached_file}
use Rattle.qcow2_alloc.specs.Cache.{is_not_resource_error, latest}
use Rattle.qcow2_alloc.specs.Going.{IsNotResourceError, HadNoResourceError}

pub faultless-same : (old new : StorageState) → new ≡ old → IsFaultless old new
faultless-same old new same = (ap (λ (s : StorageState). s.faults) same, ap (λ (s : StorageState). s.refusals) same)

-- Two calls in sequence, by their counts of faults and refusals.
pub faultless-then : {a b c r s t : ℕ} → (b ≡ a) × (s ≡ r) → (c ≡ b) × (t ≡ s) → (c ≡ a) × (t ≡ r)
faultless-then first second = (second.0 ∙ first.0, second.1 ∙ first.1)

-- A failure of the storage is a resource error.
pub never-mild : (old new : ℕ) (fault : Fault) → Cause old new fault → IsNotResourceError fault → ⊥
never-mild old new Memory cause not_resource_error = not_resource_error
never-mild old new Storage cause not_resource_error = not_resource_error
never-mild old new fault cause not_resource_error = cause

pub put-faultless : (old new : StorageState) (at : ℕ) (bytes : List ℕ) (result : Result Unit Fault) → WriteOutcome old new at bytes result → HadNoResourceError result → IsFaultless old new
put-faultless old new at bytes (Ok done) put whole = (put.answer.faults, put.answer.refusals)
put-faultless old new at bytes (Err fault) put whole = absurd (never-mild old.faults new.faults fault put.answer.cause whole)

mild-tested : (fault : Fault) → IsNotResourceError fault → is_not_resource_error fault ≡ true
mild-tested Memory not_resource_error = absurd not_resource_error
mild-tested Storage not_resource_error = absurd not_resource_error
mild-tested fault not_resource_error = refl

tested-mild : (fault : Fault) → is_not_resource_error fault ≡ true → IsNotResourceError fault
tested-mild Memory is = absurd (cc is)
tested-mild Storage is = absurd (cc is)
tested-mild fault is = tt

-- The fault that is reported of several is no resource error only if none of them is.
pub mild-later : (first : Option Fault) (result : Result Unit Fault) → IfSome (latest first result) IsNotResourceError → IfSome first IsNotResourceError × HadNoResourceError result
mild-later first (Ok done) not_resource_error = (not_resource_error, tt)
mild-later None (Err fault) not_resource_error = (tt, not_resource_error)
mild-later (Some earlier) (Err fault) not_resource_error = by-test (is_not_resource_error earlier) (is_not_resource_error fault) refl refl not_resource_error
  where
    by-test : (one two : Bool) → is_not_resource_error earlier ≡ one → is_not_resource_error fault ≡ two → IsNotResourceError (cond (not one && two) earlier fault) → IsNotResourceError earlier × IsNotResourceError fault
    by-test true two is is' told = (tested-mild earlier is, told)
    by-test false true is is' told = absurd (let no = sym is ∙ mild-tested earlier told in cc)
    by-test false false is is' told = absurd (let no = sym is' ∙ mild-tested fault told in cc)

module _ {S T : Type 0} (state : S → StorageState) (does : Block → Result T Fault → Block → Type 0) (old : MetadataCaches S) (before : ImageFile S) (result : Result T Fault) (new : MetadataCaches S) (after : ImageFile S) where
  uses-faultless : (key : ℕ) → UsesBlock state key does (cached_file old before) result (cached_file new after) → HadNoResourceError result → IsFaultless (state before.image) (state after.image)
  uses-faultless key (inl (fault, is, found)) whole = found.writes_back_cached.faults (subst (λ (r : Result T Fault). HadNoResourceError r) is whole)
  uses-faultless key (inr used) whole = used.found.writes_back_cached.faults tt

  pub named-faultless : (o : Option ℕ) (Refused : Type 0) → MatchOption o (Refused × (new ≡ old) × (after ≡ before)) (λ key. UsesBlock state key does (cached_file old before) result (cached_file new after)) → HadNoResourceError result → IsFaultless (state before.image) (state after.image)
  named-faultless None Refused refused whole = faultless-same (state before.image) (state after.image) (ap (λ (f : ImageFile S). state f.image) refused.2)
  named-faultless (Some key) Refused uses whole = uses-faultless key uses whole
