-- The check of the first file or the first two, and what it doesn't change: whether the files form a chain, and the first cause why they
-- don't.
use Rattle.std.proofs.Common.{◌≡◌, ◌∙◌, ◌∷◌, ◌<◌, ◌≤◌, [], ℕ, List, ap, arith, get_or, inl, inr, length, refl, subst, sym}
use Rattle.std.specs.Prelude.{◌≢◌, ◌⊎◌, Bool, Err, IfErr, IsErrAnd, None, Ok, OnOk, Option, Result, Some, false, slice_set, true}
use Rattle.std.specs.declared.string.String.{String}
use Rattle.std.specs.declared.alloc.Global.{Global}
use Rattle.imago_storage.specs.Calls.{UnchangedButFaults}
use Rattle.imago_storage.specs.State.{StorageState}
use Rattle.imago_storage.specs.declared.fault.Fault.{Fault}
use Rattle.imago_access.specs.declared.format.Format.{Format}
use Rattle.imago_access.specs.declared.format.Format.TheVariants.{Qcow2, Raw, Vmdk}
use Rattle.qimg_core.specs.declared.plain.ChainFile.{ChainFile}
use Rattle.qimg_chain.specs.Chains.{AllOfTop, IsSoundAs, OfSecond, OfTop, OpenMode}
use Rattle.qimg_chain.specs.FileLayers.{IsLayer, IsLayerAs, WhyNotAs, WhyNotLayer, said_of}
use Rattle.qimg_chain.specs.Refusals.{CommitCauseOf, FirstCause, FirstCommitCause, FormChain, FormCommitChain, HadResourceError}
use Rattle.qimg_chain.specs.Refusals.{IsPlacedLayer, WhyNotCommitLayers, WhyNotFormed, WhyNotLayers, misplaced}
use Rattle.qimg_chain.specs.TopChecks.{AreChecked, AreCheckedBelow, IsChecked, WhyNotDriven}
use Rattle.qimg_chain.specs.declared.session.NotDriven.{NotDriven}
use Rattle.qimg_chain.specs.declared.session.NotDriven.TheVariants.{Opening}

-- A file is a qcow2 file, or not.
qcow2-or-not : (f : Format) → (f ≡ Qcow2) ⊎ (f ≢ Qcow2)
qcow2-or-not Raw = inr (λ e. cc e)
qcow2-or-not Qcow2 = inl refl
qcow2-or-not Vmdk = inr (λ e. cc e)

-- The bytes of a qcow2 file say if it can be a layer, and the reason if it can't.
layer-by : {S : Type 0} (state : S → StorageState) (writable named : Bool) (further : List StorageState) (f g : Format) (old new : StorageState)
    (olds news : List (String Global × S)) → f ≡ Qcow2 → g ≡ f → new.bytes ≡ old.bytes
    → IsLayerAs state g writable new news named further → IsLayerAs state f writable old olds named further
layer-by state writable named further Raw g old new olds news is same bytes layer = absurd (cc is)
layer-by state writable named further Vmdk g old new olds news is same bytes layer = absurd (cc is)
layer-by state writable named further Qcow2 Raw old new olds news is same bytes layer = absurd (cc same)
layer-by state writable named further Qcow2 Vmdk old new olds news is same bytes layer = absurd (cc same)
layer-by state writable named further Qcow2 Qcow2 old new olds news is same bytes layer = record {
  says = ap (λ b. said_of Qcow2 writable b) (sym bytes) ∙ layer.says;
  has = layer.has;
}

refused-by : {S : Type 0} (state : S → StorageState) (writable : Bool) (fault : Fault) (f g : Format) (old new : StorageState)
    (olds news : List (String Global × S)) → f ≡ Qcow2 → g ≡ f → new.bytes ≡ old.bytes
    → WhyNotAs state g writable new news fault → WhyNotAs state f writable old olds fault
refused-by state writable fault Raw g old new olds news is same bytes why = absurd (cc is)
refused-by state writable fault Vmdk g old new olds news is same bytes why = absurd (cc is)
refused-by state writable fault Qcow2 Raw old new olds news is same bytes why = absurd (cc same)
refused-by state writable fault Qcow2 Vmdk old new olds news is same bytes why = absurd (cc same)
refused-by state writable fault Qcow2 Qcow2 old new olds news is same bytes (inl said) = inl (ap (λ b. said_of Qcow2 writable b) (sym bytes) ∙ said)
refused-by state writable fault Qcow2 Qcow2 old new olds news is same bytes (inr further) = absurd further.1

module _ {S : Type 0} (state : S → StorageState) where
  -- ---- One file.

  -- It is a layer after the check only if it was one before, and isn't one for the same reasons.
  checked-layer : (writable named : Bool) (further : List StorageState) (old new : ChainFile S) → IsChecked state old new
      → IsLayer state writable new named further → IsLayer state writable old named further
  checked-layer writable named further old new checked layer = elim (qcow2-or-not old.format) [
    | inl is ↦ layer-by state writable named further old.format new.format (state old.image) (state new.image) old.extras.items new.extras.items
        is checked.format (ap (λ (s : StorageState). s.bytes) checked.image) layer
    | inr other ↦ subst (λ (file : ChainFile S). IsLayer state writable file named further) (checked.others other) layer
  ]

  checked-refused : (writable : Bool) (fault : Fault) (old new : ChainFile S) → IsChecked state old new
      → WhyNotLayer state writable new fault → WhyNotLayer state writable old fault
  checked-refused writable fault old new checked why = elim (qcow2-or-not old.format) [
    | inl is ↦ refused-by state writable fault old.format new.format (state old.image) (state new.image) old.extras.items new.extras.items
        is checked.format (ap (λ (s : StorageState). s.bytes) checked.image) why
    | inr other ↦ subst (λ (file : ChainFile S). WhyNotLayer state writable file fault) (checked.others other) why
  ]

  checked-placed : (writable : Bool) (why : Option Fault) (old new : ChainFile S) (below : List (ChainFile S)) → IsChecked state old new
      → IsPlacedLayer state writable new below why → IsPlacedLayer state writable old below why
  checked-placed writable why old new below checked placed =
      (placed.0, placed.1, checked-layer writable placed.0 placed.1 old new checked placed.2, placed.3)

  -- ---- The files of a chain.

  -- Checked files form a chain only if the files did.
  pub formed-before : (writable : Bool) (olds news : List (ChainFile S)) → AreChecked state olds news → FormChain state writable news
      → FormChain state writable olds
  formed-before writable [] news checked formed = subst (λ files. FormChain state writable files) checked formed
  formed-before writable (old ∷ olds) news checked formed =
      let now = subst (λ files. FormChain state writable files) checked.1 formed in
      (now.0, now.1, (checked-placed writable None old checked.0 olds checked.2 now.2.0, now.2.1))

  layers-before : (writable : Bool) (fault : Fault) (old new : ChainFile S) (below : List (ChainFile S)) → IsChecked state old new
      → WhyNotLayers state writable (new ∷ below) fault → WhyNotLayers state writable (old ∷ below) fault
  layers-before writable fault old new below checked (inl why) = inl (checked-refused writable fault old new checked why)
  layers-before writable fault old new below checked (inr (inl placed)) =
      inr (inl (checked-placed writable (Some fault) old new below checked placed))
  layers-before writable fault old new below checked (inr (inr later)) =
      inr (inr (checked-placed writable None old new below checked later.0, later.1))

  cause-of : (writable : Bool) (fault : Fault) (old new : ChainFile S) (below : List (ChainFile S)) → IsChecked state old new
      → FirstCause state writable (new ∷ below) fault → FirstCause state writable (old ∷ below) fault
  cause-of writable fault old new below checked (inl many) = inl many
  cause-of writable fault old new below checked (inr few) = inr (few.0, layers-before writable fault old new below checked few.1)

  -- A first cause why checked files don't form a chain is one why the files don't.
  pub cause-before : (writable : Bool) (fault : Fault) (olds news : List (ChainFile S)) → AreChecked state olds news
      → FirstCause state writable news fault → FirstCause state writable olds fault
  cause-before writable fault [] news checked why = subst (λ files. FirstCause state writable files fault) checked why
  cause-before writable fault (old ∷ olds) news checked why =
      cause-of writable fault old checked.0 olds checked.2 (subst (λ files. FirstCause state writable files fault) checked.1 why)

  -- ---- The files of a chain that takes commits.

  -- The position of the top is the same over another next file.
  same-place : (named : Bool) (a b : ChainFile S) (below : List (ChainFile S)) → misplaced named (a ∷ below) ≡ misplaced named (b ∷ below)
  same-place true a b below = refl
  same-place false a b below = refl

  placed-over : (top old new : ChainFile S) (below : List (ChainFile S)) (why : Option Fault)
      → IsPlacedLayer state true top (new ∷ below) why → IsPlacedLayer state true top (old ∷ below) why
  placed-over top old new below why placed = (placed.0, placed.1, placed.2, same-place placed.0 old new below ∙ placed.3)

  commit-formed-top : (olds news : List (ChainFile S)) → AreChecked state olds news → FormCommitChain state news
      → FormCommitChain state olds
  commit-formed-top [] news checked formed = subst (λ files. FormCommitChain state files) checked formed
  commit-formed-top (old ∷ []) news checked formed = subst (λ files. FormCommitChain state files) checked.1 formed
  commit-formed-top (old ∷ (next ∷ below)) news checked formed =
      let now = subst (λ files. FormCommitChain state files) checked.1 formed in
      (now.0, now.1, checked-placed true None old checked.0 (next ∷ below) checked.2 now.2, now.3)

  commit-formed-pair : (top old new : ChainFile S) (below : List (ChainFile S)) → IsChecked state old new
      → FormCommitChain state (top ∷ (new ∷ below)) → FormCommitChain state (top ∷ (old ∷ below))
  commit-formed-pair top old new below checked formed = (
    formed.0,
    subst (λ (f : Format). f ≢ Vmdk) checked.format formed.1,
    placed-over top old new below None formed.2,
    (checked-placed true None old new below checked formed.3.0, formed.3.1),
  )

  commit-formed-next : (olds news : List (ChainFile S)) → AreCheckedBelow state olds news → FormCommitChain state news
      → FormCommitChain state olds
  commit-formed-next [] news checked formed = subst (λ files. FormCommitChain state files) checked formed
  commit-formed-next (top ∷ []) news checked formed =
      subst (λ below. FormCommitChain state (top ∷ below)) checked.2 (subst (λ files. FormCommitChain state files) checked.1 formed)
  commit-formed-next (top ∷ (next ∷ below)) news checked formed =
      let now = subst (λ files. FormCommitChain state files) checked.1 formed in
      let pair = checked.2 in
      commit-formed-pair top next pair.0 below pair.2 (subst (λ files. FormCommitChain state (top ∷ files)) pair.1 now)

  -- Files whose first two were checked form a chain that takes commits only if the files did.
  pub commit-formed-before : (olds mids news : List (ChainFile S)) → AreChecked state olds mids → AreCheckedBelow state mids news
      → FormCommitChain state news → FormCommitChain state olds
  commit-formed-before olds mids news top next formed = commit-formed-top olds mids top (commit-formed-next mids news next formed)

  commit-layers-top : (fault : Fault) (old new : ChainFile S) (below : List (ChainFile S)) → IsChecked state old new
      → WhyNotCommitLayers state (new ∷ below) fault → WhyNotCommitLayers state (old ∷ below) fault
  commit-layers-top fault old new below checked (inl why) = inl (checked-refused true fault old new checked why)
  commit-layers-top fault old new below checked (inr (inl placed)) =
      inr (inl (checked-placed true (Some fault) old new below checked placed))
  commit-layers-top fault old new below checked (inr (inr later)) =
      inr (inr (checked-placed true None old new below checked later.0, later.1))

  commit-layers-next : (fault : Fault) (top old new : ChainFile S) (below : List (ChainFile S)) → IsChecked state old new
      → WhyNotCommitLayers state (top ∷ (new ∷ below)) fault → WhyNotCommitLayers state (top ∷ (old ∷ below)) fault
  commit-layers-next fault top old new below checked (inl why) = inl why
  commit-layers-next fault top old new below checked (inr (inl placed)) = inr (inl (placed-over top old new below (Some fault) placed))
  commit-layers-next fault top old new below checked (inr (inr later)) =
      inr (inr (placed-over top old new below None later.0, layers-before true fault old new below checked later.1))

  commit-pair-top : (fault : Fault) (old new next : ChainFile S) (below : List (ChainFile S)) → IsChecked state old new
      → CommitCauseOf state (new ∷ (next ∷ below)) fault → CommitCauseOf state (old ∷ (next ∷ below)) fault
  commit-pair-top fault old new next below checked (inl vmdk) = inl vmdk
  commit-pair-top fault old new next below checked (inr (other, inl many)) = inr (other, inl many)
  commit-pair-top fault old new next below checked (inr (other, inr few)) =
      inr (other, inr (few.0, commit-layers-top fault old new (next ∷ below) checked few.1))

  commit-pair-next : (fault : Fault) (top old new : ChainFile S) (below : List (ChainFile S)) → IsChecked state old new
      → CommitCauseOf state (top ∷ (new ∷ below)) fault → CommitCauseOf state (top ∷ (old ∷ below)) fault
  commit-pair-next fault top old new below checked (inl vmdk) = inl (sym checked.format ∙ vmdk.0, vmdk.1)
  commit-pair-next fault top old new below checked (inr (other, inl many)) =
      inr (subst (λ (f : Format). f ≢ Vmdk) checked.format other, inl many)
  commit-pair-next fault top old new below checked (inr (other, inr few)) =
      inr (subst (λ (f : Format). f ≢ Vmdk) checked.format other, inr (few.0, commit-layers-next fault top old new below checked few.1))

  commit-cause-top : (fault : Fault) (olds news : List (ChainFile S)) → AreChecked state olds news → CommitCauseOf state news fault
      → CommitCauseOf state olds fault
  commit-cause-top fault [] news checked why = subst (λ files. CommitCauseOf state files fault) checked why
  commit-cause-top fault (old ∷ []) news checked why = subst (λ files. CommitCauseOf state files fault) checked.1 why
  commit-cause-top fault (old ∷ (next ∷ below)) news checked why =
      commit-pair-top fault old checked.0 next below checked.2 (subst (λ files. CommitCauseOf state files fault) checked.1 why)

  commit-cause-next : (fault : Fault) (olds news : List (ChainFile S)) → AreCheckedBelow state olds news → CommitCauseOf state news fault
      → CommitCauseOf state olds fault
  commit-cause-next fault [] news checked why = subst (λ files. CommitCauseOf state files fault) checked why
  commit-cause-next fault (top ∷ []) news checked why =
      subst (λ below. CommitCauseOf state (top ∷ below) fault) checked.2 (subst (λ files. CommitCauseOf state files fault) checked.1 why)
  commit-cause-next fault (top ∷ (next ∷ below)) news checked why =
      let now = subst (λ files. CommitCauseOf state files fault) checked.1 why in
      let pair = checked.2 in
      commit-pair-next fault top next pair.0 below pair.2 (subst (λ files. CommitCauseOf state (top ∷ files) fault) pair.1 now)

  -- A first cause why files whose first two were checked aren't opened for commits is one why the files aren't.
  pub commit-cause-before : (number below_number : ℕ) (fault : Fault) (olds mids news : List (ChainFile S)) → AreChecked state olds mids
      → AreCheckedBelow state mids news → FirstCommitCause state number below_number news fault
      → FirstCommitCause state number below_number olds fault
  commit-cause-before number below_number fault olds mids news top next (inl same) = inl same
  commit-cause-before number below_number fault olds mids news top next (inr apart) =
      inr (apart.0, commit-cause-top fault olds mids top (commit-cause-next fault mids news next apart.1))

-- ---- The check of a file.

pub on-done : {T E P Q : Type 0} (result : Result T E) → (P → Q) → OnOk result P → OnOk result Q
on-done (Ok x) follows p = follows p
on-done (Err e) follows p = tt

-- A file of another format than qcow2 is accepted.
pub accepted-other : (f : Format) → f ≢ Qcow2 → (bytes : List ℕ) → IsSoundAs f bytes
accepted-other Raw other bytes = tt
accepted-other Qcow2 other bytes = absurd (other refl)
accepted-other Vmdk other bytes = tt

-- A storage in which nothing has changed.
pub same-state : (a b : StorageState) → UnchangedButFaults a b → b.faults ≡ a.faults → b ≡ a
same-state a b same faults = λ i. record {
  shape = same.shape i;
  bytes = same.bytes i;
  faults = faults i;
  refusals = same.refusals i;
  crash_image = same.crash_image i;
  past_crash_images = same.past_crash_images i;
}

module _ {S : Type 0} (state : S → StorageState) where
  -- The file with its storage after the check.
  pub file-checked : (file : ChainFile S) (image : S) → file.format ≡ Qcow2 → state image ≡ state file.image
      → IsChecked state file (record { format = file.format; image = image; extras = file.extras })
  file-checked file image qcow2 kept = record {
    format = refl;
    extras = refl;
    image = kept;
    others = λ other. absurd (other qcow2);
  }

  pub file-unread : (file : ChainFile S) → IsChecked state file file
  file-unread file = record { format = refl; extras = refl; image = refl; others = λ other. refl }

  -- ---- The check of the top and of the next file.

  pub top-checked : (files : List (ChainFile S)) (old new : ChainFile S) → 0 < length files → old ≡ get_or files 0 old
      → IsChecked state old new → AreChecked state files (slice_set files 0 new)
  top-checked [] old new some is checked = absurd (omega (arith, some))
  top-checked (top ∷ below) old new some is checked =
      (new, refl, subst (λ (file : ChainFile S). IsChecked state file new) is checked)

  pub next-checked : (files : List (ChainFile S)) (old new : ChainFile S) → 1 < length files → old ≡ get_or files 1 old
      → IsChecked state old new → AreCheckedBelow state files (slice_set files 1 new)
  next-checked [] old new two is checked = absurd (omega (arith, two))
  next-checked (top ∷ []) old new two is checked = absurd (omega (arith, two))
  next-checked (top ∷ (next ∷ below)) old new two is checked =
      (new ∷ below, refl, (new, refl, subst (λ (file : ChainFile S). IsChecked state file new) is checked))

  -- Without a second file there is nothing to check.
  pub none-checked : (files : List (ChainFile S)) → length files < 2 → AreCheckedBelow state files files
  none-checked [] few = refl
  none-checked (top ∷ []) few = ([], refl, refl)
  none-checked (top ∷ (next ∷ below)) few = absurd (omega (arith, few))

module _ {S : Type 0} (P : ChainFile S → Type 0) where
  pub top-has : (files : List (ChainFile S)) (file : ChainFile S) → 0 < length files → file ≡ get_or files 0 file → P file → OfTop P files
  top-has [] file some is has = absurd (omega (arith, some))
  top-has (top ∷ below) file some is has = subst P is has

  pub all-top-has : (files : List (ChainFile S)) (file : ChainFile S) → file ≡ get_or files 0 file → P file → AllOfTop P files
  all-top-has [] file is has = tt
  all-top-has (top ∷ below) file is has = subst P is has

  pub second-has : (files : List (ChainFile S)) (file : ChainFile S) → 1 < length files → file ≡ get_or files 1 file → P file
      → OfSecond P files
  second-has [] file two is has = absurd (omega (arith, two))
  second-has (top ∷ []) file two is has = absurd (omega (arith, two))
  second-has (top ∷ (next ∷ below)) file two is has = subst P is has

  -- Files that form a chain have a top.
  pub has-top : (files : List (ChainFile S)) → 0 < length files → AllOfTop P files → OfTop P files
  has-top [] some all = absurd (omega (arith, some))
  has-top (file ∷ below) some all = all

  -- Files that form a chain for commits have a top and a second file. The check of the top doesn't change the second one.
  pub has-both : (state : S → StorageState) (olds news : List (ChainFile S)) → FormCommitChain state olds → AllOfTop P olds
      → AreChecked state olds news → (2 ≤ length news → OfSecond P news) → OfTop P olds × OfSecond P olds
  has-both state [] news formed all checked second = absurd formed
  has-both state (top ∷ []) news formed all checked second = absurd formed
  has-both state (top ∷ (next ∷ below)) news formed all checked second =
      (all, subst (λ files. 2 ≤ length files → OfSecond P files) checked.1 second (omega arith))

  pub second-before : (state : S → StorageState) (olds news : List (ChainFile S)) → AreChecked state olds news → OfSecond P news
      → OfSecond P olds
  second-before state [] news checked has = subst (λ files. OfSecond P files) checked has
  second-before state (old ∷ olds) news checked has = subst (λ files. OfSecond P files) checked.1 has

-- The reason why the checked files aren't opened.
pub refused-before : {S T : Type 0} (state : S → StorageState) (m : OpenMode) (olds news : List (ChainFile S)) (result : Result T NotDriven)
    (fault : Fault) → (WhyNotFormed state m news fault → WhyNotFormed state m olds fault) → IsErrAnd result (λ e. e ≡ Opening fault)
    → HadResourceError state fault ⊎ WhyNotFormed state m news fault → IfErr result (WhyNotDriven state m olds)
refused-before state m olds news (Ok x) fault before gives why = tt
refused-before state m olds news (Err e) fault before gives (inl resource) = subst (WhyNotDriven state m olds) (sym gives) (inl resource)
refused-before state m olds news (Err e) fault before gives (inr cause) =
    subst (WhyNotDriven state m olds) (sym gives) (inr (before cause))
