-- The reasons why lines of a script fail, and the findings of the checker.
use Rattle.std.proofs.Common.{◌≡◌, refl, ap, arith, subst, ℕ, zero, suc, ◌+◌, ◌<◌, ◌^◌, List, [], ◌∷◌, ◌++◌, length, take}
use Rattle.imago_storage.specs.State.{StorageState}
use Rattle.qcow2_types.specs.Bytes.{Bytes}
use Rattle.qcow2_types.specs.Consistency.{Finding, header, snapshots, external, table, shared_table, false_copied, under_counted}
use Rattle.qimg_core.specs.Check.{Found, IsFinding}
use Rattle.qcow2_metadata.specs.Loading.{file}
use Rattle.qimg_core.specs.declared.check.CheckFault.{CheckFault}
use Rattle.qimg_core.specs.declared.check.CheckFault.TheVariants as found
use Rattle.qimg_chain.specs.RunAnswers.{IsUnsoundBy}

same-finding : (f e : Bytes) (finding : Finding) → f ≡ e → IsFinding f finding → IsFinding e finding
same-finding f e finding same is = subst (λ bytes. IsFinding bytes finding) same is

-- A finding in a copy that can't fail is a finding in the file.
pub unsound : (copy after image : StorageState) (finding : CheckFault) → file copy ≡ file image → copy.faults ≡ 0 → after.faults ≡ 0
    → Found copy after (IsFinding (file copy)) finding → IsUnsoundBy (file image) finding
unsound copy after image found.Header same none has_no_dirty_data is = same-finding _ _ header same is.0
unsound copy after image found.Snapshots same none has_no_dirty_data is = same-finding _ _ snapshots same is.0
unsound copy after image found.External same none has_no_dirty_data is = same-finding _ _ external same is.0
unsound copy after image found.Table same none has_no_dirty_data is = same-finding _ _ table same is.0
unsound copy after image (found.SharedTable c) same none has_no_dirty_data is = same-finding _ _ (shared_table c) same is.0
unsound copy after image (found.FalseCopied c) same none has_no_dirty_data is = same-finding _ _ (false_copied c) same is.0
unsound copy after image (found.UnderCounted c) same none has_no_dirty_data is = same-finding _ _ (under_counted c) same is.0
unsound copy after image found.Memory same none has_no_dirty_data is = tt
unsound copy after image found.Storage same none has_no_dirty_data is =
    let more : after.faults + 1 < 2 ^ 64 = omega (arith, has_no_dirty_data) in
    let rose : copy.faults < after.faults = is.rose more in
    absurd (omega (arith, none, has_no_dirty_data, rose))

pub front_of : (n : ℕ) (xs ys : List ℕ) → n ≡ length xs → take n (xs ++ ys) ≡ xs
front_of zero [] ys same = refl
front_of zero (x ∷ xs) ys same = absurd (omega (arith, same))
front_of (suc n) [] ys same = absurd (omega (arith, same))
front_of (suc n) (x ∷ xs) ys same = ap (λ zs. x ∷ zs) (front_of n xs ys (omega (arith, same)))
