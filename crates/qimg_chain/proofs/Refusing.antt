-- The reasons why files aren't opened as layers.
use Rattle.std.proofs.Common.{◌≡◌, ◌<◌, ◌≤◌, ◌⊎◌, ◌∷◌, [], ℕ, List, ap, arith, get_or, inl, inr, length, refl, subst, sym}
use Rattle.std.specs.Prelude.{◌↔◌, ◌≢◌, Bool, Err, IfErr, IsTrue, is_some, None, Ok, Result, Some, false, true}
use Rattle.std.specs.declared.string.String.{String}
use Rattle.std.specs.declared.alloc.Global.{Global}
use Rattle.imago_storage.specs.State.{StorageState}
use Rattle.imago_storage.specs.declared.fault.Fault.{Fault}
use Rattle.imago_storage.specs.declared.fault.Fault.TheVariants.{ExtraLayer, Limit, Memory, MissingBelow, Storage, Unsupported}
use Rattle.imago_access.specs.Layer.{Cell, own, unmapped}
use Rattle.imago_access.specs.declared.format.Format.TheVariants.{Qcow2, Vmdk}
use Rattle.imago_formats.specs.Descriptor.{descriptor_of}
use Rattle.imago_formats.specs.VmdkOpening.{NotBuilt, Unread}
use Rattle.imago_formats.specs.declared.vmdk.descriptor.Extent.{Extent}
use Rattle.qcow2_types.specs.Bytes.{bytes_of}
use Rattle.qcow2_image.specs.Opening.{WhyNotOpened}
use Rattle.qimg_core.specs.declared.plain.ChainFile.{ChainFile}
use Rattle.qimg_chain.specs.Chains.{OfSecond}
use Rattle.qimg_chain.specs.FileLayers.{IsLayer, WhyNotAs, asked_of, is_unmapped, said_of}
use Rattle.qimg_chain.specs.Refusals.{FirstCause, FirstCommitCause, HadResourceError, WhyNotCommitLayers, WhyNotLayers, misplaced}
use Rattle.qimg_chain.specs.declared.chain.extras.Extras.{Extras}
use Rattle.qimg_chain.proofs.FurtherTaken.{Answers, lacks_files}

pub on_err : {T E : Type 0} {P Q : E → Type 0} → ((e : E) → P e → Q e) → (result : Result T E) → IfErr result P → IfErr result Q
on_err follows (Ok x) p = tt
on_err follows (Err e) p = follows e p

-- The layer reports whether it shows the layers below.
pub shown_so : (shows : Bool) (blank : Cell) → (IsTrue shows ↔ (blank ≡ unmapped)) → is_unmapped blank ≡ shows
shown_so true blank is = rw (is.0 refl) refl
shown_so false unmapped is = absurd (cc (is.1 refl))
shown_so false (own value) is = refl

-- ---- The bytes of a VMDK image, and the reasons why it isn't opened.

pub vmdk_said : (writable : Bool) (bytes : List ℕ) (extents : List (Extent (List ℕ))) → writable ≡ false → descriptor_of bytes ≡ Ok extents
    → said_of Vmdk writable bytes ≡ Ok false
vmdk_said true bytes extents closed means = absurd (cc closed)
vmdk_said false bytes extents closed means = ap (asked_of (λ (xs : List (Extent (List ℕ))). false)) means

module _ {S : Type 0} (state : S → StorageState) where
  vmdk_unread : (writable : Bool) (image : StorageState) (handed : List (String Global × S)) (e : Fault) → Unread state writable (descriptor_of image.bytes) e
      → HadResourceError state e ⊎ WhyNotAs state Vmdk writable image handed e
  vmdk_unread true image handed e why = inr (inl (ap Err (sym why)))
  vmdk_unread false image handed e (inl memory) = inl (inl memory)
  vmdk_unread false image handed e (inr (inl failed)) = inl (inr failed)
  vmdk_unread false image handed e (inr (inr said)) = inr (inl (ap (asked_of (λ (xs : List (Extent (List ℕ))). false)) said))

  pub vmdk_refused : (writable : Bool) (image : StorageState) (handed left : Extras S) (e : Fault) → NotBuilt state Answers writable image handed left e
      → HadResourceError state e ⊎ WhyNotAs state Vmdk writable image handed.files.items e
  vmdk_refused writable image handed left e (inl unread) = vmdk_unread writable image handed.files.items e unread.1
  vmdk_refused writable image handed left e (inr why) = elim (lacks_files state image handed left e why.1) [
    | inl memory ↦ inl (inl memory)
    | inr lacking ↦ inr (inr ((false, vmdk_said writable image.bytes lacking.0 why.0 lacking.1), lacking))
  ]

-- ---- The files of a chain.

module _ {S : Type 0} (state : S → StorageState) (writable : Bool) (file : ChainFile S) (below : List (ChainFile S)) where
  -- The position of the first file isn't valid, or a file below it isn't opened.
  pub at_place : (e : Fault) (named : Bool) (further : List StorageState) → IsLayer state writable file named further → misplaced named below ≡ Some e
      → HadResourceError state e ⊎ WhyNotLayers state writable (file ∷ below) e
  at_place e named further is out = inr (inr (inl (named, further, is, out)))

  pub at_below : (e : Fault) (named : Bool) (further : List StorageState) → IsLayer state writable file named further → misplaced named below ≡ None
      → HadResourceError state e ⊎ WhyNotLayers state false below e → HadResourceError state e ⊎ WhyNotLayers state writable (file ∷ below) e
  at_below e named further is here (inl cut) = inl cut
  at_below e named further is here (inr why) = inr (inr (inr ((named, further, is, here), why)))

  pub first_of : length (file ∷ below) ≤ 64 → (e : Fault) → HadResourceError state e ⊎ WhyNotLayers state writable (file ∷ below) e
      → HadResourceError state e ⊎ FirstCause state writable (file ∷ below) e
  first_of few e (inl cut) = inl cut
  first_of few e (inr why) = inr (inr (few, why))

-- ---- The files of a chain that takes commits.

module _ {S : Type 0} (state : S → StorageState) (top : ChainFile S) (below : List (ChainFile S)) where
  -- The position of the first file isn't valid, or a file below it isn't opened.
  pub at_commit_place : (e : Fault) (named : Bool) (further : List StorageState) → IsLayer state true top named further
      → misplaced named below ≡ Some e → HadResourceError state e ⊎ WhyNotCommitLayers state (top ∷ below) e
  at_commit_place e named further is out = inr (inr (inl (named, further, is, out)))

  pub at_commit_below : (e : Fault) (named : Bool) (further : List StorageState) → IsLayer state true top named further
      → misplaced named below ≡ None → HadResourceError state e ⊎ WhyNotLayers state true below e
      → HadResourceError state e ⊎ WhyNotCommitLayers state (top ∷ below) e
  at_commit_below e named further is here (inl cut) = inl cut
  at_commit_below e named further is here (inr why) = inr (inr (inr ((named, further, is, here), why)))

module _ {S : Type 0} (state : S → StorageState) (number below_number : ℕ) (apart : number ≢ below_number) where
  -- The numbers differ, and there are fewer than two files.
  pub alone : (files : List (ChainFile S)) → length files < 2 → FirstCommitCause state number below_number files MissingBelow
  alone [] few = inr (apart, refl)
  alone (top ∷ []) few = inr (apart, refl)
  alone (top ∷ (next ∷ below)) few = absurd (omega (arith, few))

  -- The second file is a VMDK image.
  pub unsupported : (files : List (ChainFile S)) (next : ChainFile S) → 1 < length files → next ≡ get_or files 1 next → next.format ≡ Vmdk
      → FirstCommitCause state number below_number files Unsupported
  unsupported [] next two is vmdk = absurd (omega (arith, two))
  unsupported (top ∷ []) next two is vmdk = absurd (omega (arith, two))
  unsupported (top ∷ (file ∷ below)) next two is vmdk =
      inr (apart, inl (subst (λ (f : ChainFile S). f.format ≡ Vmdk) is vmdk, refl))

  -- There are too many files, or the first cause from the top down.
  pub too_many : (files : List (ChainFile S)) → 1 < length files → OfSecond (λ (file : ChainFile S). file.format ≢ Vmdk) files
      → 64 < length files
      → FirstCommitCause state number below_number files (Limit (length files))
  too_many [] two other many = absurd (omega (arith, two))
  too_many (top ∷ []) two other many = absurd (omega (arith, two))
  too_many (top ∷ (next ∷ below)) two other many = inr (apart, inr (other, inl (many, refl)))

  pub first_commit_of : (files : List (ChainFile S)) → 1 < length files → OfSecond (λ (file : ChainFile S). file.format ≢ Vmdk) files
      → length files ≤ 64 → (e : Fault) → HadResourceError state e ⊎ WhyNotCommitLayers state files e
      → HadResourceError state e ⊎ FirstCommitCause state number below_number files e
  first_commit_of files two other few e (inl cut) = inl cut
  first_commit_of [] two other few e (inr why) = absurd why
  first_commit_of (top ∷ []) two other few e (inr why) = absurd (omega (arith, two))
  first_commit_of (top ∷ (next ∷ below)) two other few e (inr why) = inr (inr (apart, inr (other, inr (few, why))))

-- If a file above another one refers to no layer below, its fault is `ExtraLayer`.
pub upper_misplaced : {F : Type 0} (named : Bool) (next : F) (below : List F) → named ≡ false → misplaced named (next ∷ below) ≡ Some ExtraLayer
upper_misplaced named next below names = rw names refl

pub upper_placed : {F : Type 0} (named : Bool) (next : F) (below : List F) → named ≡ true → misplaced named (next ∷ below) ≡ None
upper_placed named next below names = rw names refl

-- ---- The reasons why a qcow2 image isn't opened.

pub qcow2_refused : {S : Type 0} (state : S → StorageState) (writable : Bool) (image : StorageState) (handed : List (String Global × S)) (e : Fault)
    → WhyNotOpened state writable (bytes_of image.bytes) e → HadResourceError state e ⊎ WhyNotAs state Qcow2 writable image handed e
qcow2_refused state writable image handed Memory why = inl (inl refl)
qcow2_refused state writable image handed Storage why = inl (inr (refl, why))
qcow2_refused state writable image handed e why = inr (inl (ap (asked_of (λ H. is_some H.backing_name)) why))
