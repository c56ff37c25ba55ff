-- After a flush a qcow2 top has the leaks that it had when its chain was opened, or none after a repair of leaks.
use Rattle.std.proofs.Common.{◌≡◌, ◌∙◌, ◌-◌, ◌≤◌, [], ℕ, List, ap, arith, false, refl, subst, sym, true}
use Rattle.std.specs.Prelude.{Bool, if◌then◌else◌}
use Rattle.std.specs.Borrow.{RattleType}
use Rattle.imago_storage.specs.declared.storage.Storage.{Ghosts}
use Rattle.imago_access.specs.Layer.{Fixed}
use Rattle.imago_access.specs.declared.format.Format.TheVariants as format
use Rattle.qcow2_types.specs.Bytes.{bytes_of}
use Rattle.qcow2_types.specs.Consistency.{IsConsistent, leaks}
use Rattle.qcow2_types.specs.Header.{Header}
use Rattle.qcow2_types.proofs.Counting.Consistent.{header-reading}
use Rattle.qcow2_image.specs.ImageLayer.{excess_refcount_in, qcow2_leaks}
use Rattle.qcow2_image.proofs.LeakChanges.ListedLeaks.{none-listed}
use Rattle.qcow2_image.proofs.SameLeaks.{files-alike}
use Rattle.qimg_chain.specs.FlushedFiles.{LeaksSince, LeaksWhatItDid}
use Rattle.qimg_chain.specs.contracts.chain.image_driver.ImageDriverDriverModel.TheImpl as image_seen
use Rattle.qimg_chain.specs.declared.chain.image_driver.ImageDriver.{ImageDriver}
use Rattle.qimg_chain.specs.declared.chain.image_driver.ImageDriver.TheVariants as variant

sub-none : (a b : ℕ) → a - b ≡ 0 → a ≤ b
sub-none a b none = omega (arith, none)

-- A consistent file lists no leaks if no cluster leaks.
none-left : (bytes : List ℕ) (K : Header) → IsConsistent (bytes_of bytes) K → ((c : ℕ) → qcow2_leaks bytes c ≡ 0) → leaks (bytes_of bytes) K.fields ≡ []
none-left bytes K is none =
    let by = λ (c : ℕ). ap (λ r. excess_refcount_in (bytes_of bytes) r c) (header-reading (bytes_of bytes) K is.readable.loads) in
    none-listed (bytes_of bytes) K.fields (λ c. sub-none _ _ (sym (by c) ∙ none c))

-- The leaks of two consistent files. The second file has those of the first, or none after a repair of leaks.
files-since : (repaired : Bool) (one other : List ℕ) (H K : Header) → IsConsistent (bytes_of one) H → IsConsistent (bytes_of other) K
    → LeaksSince repaired (qcow2_leaks one) (qcow2_leaks other)
    → leaks (bytes_of other) K.fields ≡ if repaired then [] else leaks (bytes_of one) H.fields
files-since true one other H K was is none = none-left other K is none
files-since false one other H K was is same = files-alike one other H K was is same

module _ (R : RattleType) (st : Ghosts R.Denot) (sd : mir.Syntax.Dict) (dd : mir.Syntax.Dict) where
  -- The leaks of a qcow2 image are those of its file.
  told-leaks : (d : ImageDriver R.Denot st) → ((image_seen.ghosts R st sd dd).layer d).fixed.format ≡ format.Qcow2
      → ((image_seen.ghosts R st sd dd).layer d).fixed.leaks ≡ qcow2_leaks
  told-leaks (variant.Qcow2 d) is = refl
  told-leaks (variant.Raw d) is = absurd (cc is)
  told-leaks (variant.Vmdk d) is = absurd (cc is)

  pub leaks-what-it-did : (names : ImageDriver R.Denot st → ℕ → List ℕ) → LeaksWhatItDid (image_seen.ghosts R st sd dd) names
  leaks-what-it-did names opened now H K means is was left =
      let g = image_seen.ghosts R st sd dd in
      let top = opened.drivers.0 in
      let one : (g.layer top).fixed.leaks ≡ qcow2_leaks = told-leaks top is in
      let two : (g.layer now.0).fixed.leaks ≡ qcow2_leaks = ap (λ (x : Fixed). x.leaks) means.fixed ∙ one in
      files-since opened.repaired (g.image top).bytes (g.image now.0).bytes H K was left
      (subst (λ (l : List ℕ → ℕ → ℕ). LeaksSince opened.repaired (qcow2_leaks (g.image top).bytes) (l (g.image now.0).bytes)) two
      (subst (λ (l : List ℕ → ℕ → ℕ). LeaksSince opened.repaired (l (g.image top).bytes) ((g.layer now.0).fixed.leaks (g.image now.0).bytes)) one
      means.leaks))
