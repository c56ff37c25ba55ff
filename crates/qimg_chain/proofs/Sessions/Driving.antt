-- A list of calls on files that were checked and opened: what their contracts say is a session.
use Rattle.std.proofs.Common.{◌≡◌, ◌≤◌, ◌∙◌, ◌∷◌, [], ℕ, suc, List, ap, arith, length, refl, subst, sym, take, take_all, length-take-le}
use Rattle.std.specs.Prelude.{All, Bool, Err, IfErr, IfOk, IsFalse, IsSome, IsTrue, Ok, Result, Vec, map}
use Rattle.std.specs.Borrow.{RattleType}
use Rattle.std.specs.Global.{Global}
use Rattle.std.specs.declared.string.String.{String}
use Rattle.imago_storage.specs.State.{CrashImageIsBytes, StorageState}
use Rattle.imago_storage.specs.declared.fault.Fault.{Fault}
use Rattle.imago_storage.specs.declared.fault.Fault.TheVariants.{Memory}
use Rattle.imago_storage.specs.declared.storage.Storage.{Ghosts}
use Rattle.imago_access.specs.Building.{IsOpened}
use Rattle.imago_access.specs.Chain.{Each}
use Rattle.imago_access.specs.Committing.{IsCommittable}
use Rattle.imago_access.specs.Layer.{IsFree}
use Rattle.imago_access.specs.declared.format.Format.{Format}
use Rattle.imago_access.specs.Files.{Pairs, UnchangedButMoreFaults, files_of}
use Rattle.imago_access.specs.Layers.{chain}
use Rattle.imago_access.specs.Running.{chain_disk}
use Rattle.imago_access.specs.declared.driver_model.DriverModel.{Ghosts as DriverGhosts}
use Rattle.qimg_calls.specs.Calls.{any_commit_down}
use Rattle.qimg_calls.specs.Held.{ChainWithMapping, IsReady}
use Rattle.qimg_calls.specs.Making.{AnswersAll, MadeAll}
use Rattle.qimg_calls.specs.Runs.{CutShort, Driven, HoldsSince, MayCommit}
use Rattle.qimg_calls.specs.Since.{Since, flushed}
use Rattle.qimg_calls.specs.declared.call.Answer.{Answer}
use Rattle.qimg_calls.specs.declared.call.Call.{Call}
use Rattle.qimg_core.specs.declared.plain.ChainFile.{ChainFile}
use Rattle.qimg_chain.specs.Chains.{AllOfTop, AreInPlace, AreLayers, IsFit, IsLayerOf, IsSoundAs, OfSecond, OfTop, OpenMode}
use Rattle.qimg_chain.specs.Chains.{for_commit, mode, mode_below, number_for}
use Rattle.qimg_chain.specs.FileMeanings.{FileBytes, FindsByNames, IsDiskOf, extra_bytes, file_bytes, files_bytes}
use Rattle.qimg_chain.specs.FileLayers.{IsLayerAs, shows_below}
use Rattle.qimg_chain.specs.OneDisk.{AreTold}
use Rattle.qimg_chain.specs.Refusals.{FormCommitChain}
use Rattle.qimg_chain.specs.Sessions.{CanBeTop, Session, opening}
use Rattle.qimg_chain.specs.TopChecks.{AreChecked, AreCheckedBelow, IsAccepted, IsChecked}
use Rattle.qimg_chain.specs.contracts.chain.image_driver.ImageDriverDriverModel.TheImpl as image_seen
use Rattle.qimg_chain.specs.declared.chain.image_driver.ImageDriver.{ImageDriver}
use Rattle.qimg_chain.proofs.Sessions.Closed.{opened-for-commits}
use Rattle.qimg_chain.proofs.Sessions.FilesBelow.{below-kept}
use Rattle.qimg_chain.proofs.Sessions.Whole.{session}

abbrev file-of : Format → List ℕ → List (List ℕ × List ℕ) → FileBytes
file-of f bytes extras = record { format = f; bytes = bytes; extras = extras }

-- ---- The answers of a list.

-- As many calls have answers.
as-many : {D St : Type 0} (g : DriverGhosts D St) (list : List Call) (answers : List Answer) (old new : ChainWithMapping D St)
    → AnswersAll g list answers old new → length answers ≡ length list
as-many g [] [] old new made = refl
as-many g [] (answer ∷ answers) old new made = absurd made
as-many g (call ∷ calls) [] old new made = absurd made
as-many g (call ∷ calls) (answer ∷ answers) old new made = ap suc (as-many g calls answers made.0 new made.2)

-- ---- Files that were checked.

-- An accepted file that can be a top is fit for calls that change it.
fit-so : {S : Type 0} (state : S → StorageState) (file : ChainFile S) → CanBeTop state file → IsAccepted state file → IsFit state file
fit-so state file can accepted = record { sound = accepted; keeps = can.keeps; others = can.others }

fit-next : {S : Type 0} (state : S → StorageState) (below : List (ChainFile S)) → OfTop (CanBeTop state) below
    → OfTop (IsAccepted state) below
    → OfTop (IsFit state) below
fit-next state [] can accepted = absurd can
fit-next state (file ∷ files) can accepted = fit-so state file can accepted

module _ {S : Type 0} (state : S → StorageState) (old new : ChainFile S) (checked : IsChecked state old new) where
  -- A fit file is fit after the check.
  fit-checked : IsFit state old → IsFit state new
  fit-checked fit = record {
    sound = subst (λ f. IsSoundAs f (state new.image).bytes) (sym checked.format)
        (subst (λ (s : StorageState). IsSoundAs old.format s.bytes) (sym checked.image) fit.sound);
    keeps = subst (λ (s : StorageState). IsTrue s.shape.keeps) (sym checked.image) fit.keeps;
    others = subst (λ (extras : Vec (String Global × S) Global). All (λ other. IsTrue (state other.1).shape.keeps) extras.items)
        (sym checked.extras) fit.others;
  }

  -- A crash right after the check leaves the bytes of the file.
  left-checked : CrashImageIsBytes (state old.image) → CrashImageIsBytes (state new.image)
  left-checked left = subst CrashImageIsBytes (sym checked.image) left

  -- A layer over the checked file is one over the file.
  layer-before : {D St : Type 0} (g : DriverGhosts D St) (writable : Bool) (number : ℕ) (d : D) → IsLayerOf g state writable number new d
      → IsLayerOf g state writable number old d
  layer-before g writable number d is = record {
    opened = subst (λ f. IsOpened g f writable (number_for f number) (state old.image) d) checked.format
        (subst (λ s. IsOpened g new.format writable (number_for new.format number) s d) checked.image is.opened);
    layer = subst (λ f. IsLayerAs state f writable (state old.image) old.extras.items (shows_below (g.layer d)) (g.extras d)) checked.format
        (subst (λ s. IsLayerAs state new.format writable s old.extras.items (shows_below (g.layer d)) (g.extras d)) checked.image
        (subst (λ (extras : Vec (String Global × S) Global).
        IsLayerAs state new.format writable (state new.image) extras.items (shows_below (g.layer d))
        (g.extras d)) checked.extras is.layer));
  }

  layers-before : {D St : Type 0} (g : DriverGhosts D St) (m : OpenMode) (files : List (ChainFile S)) (ds : List D)
      → AreLayers g state m (new ∷ files) ds → AreLayers g state m (old ∷ files) ds
  layers-before g m files [] are = absurd are
  layers-before g m files (d ∷ ds) are = (layer-before g m.writable m.number d are.0, are.1)

  -- The checked file has the bytes of the file.
  bytes-checked : file_bytes state new ≡ file_bytes state old
  bytes-checked =
      ap (λ f. file-of f (state new.image).bytes (map (extra_bytes state) new.extras.items)) checked.format
      ∙ ap (λ (s : StorageState). file-of old.format s.bytes (map (extra_bytes state) new.extras.items)) checked.image
      ∙ ap (λ (extras : Vec (String Global × S) Global). file-of old.format (state old.image).bytes (map (extra_bytes state) extras.items))
      checked.extras

module _ {S : Type 0} (state : S → StorageState) where
  -- The second file isn't changed by the check of the first.
  pub second-accepted : (files now : List (ChainFile S)) → AreChecked state files now → OfSecond (IsAccepted state) now
      → OfSecond (IsAccepted state) files
  second-accepted [] now checked accepted = subst (OfSecond (IsAccepted state)) checked accepted
  second-accepted (top ∷ below) now checked accepted = subst (OfSecond (IsAccepted state)) checked.1 accepted

  -- A chain that takes commits has two files or more, also before the check.
  pub two-files : (olds news : List (ChainFile S)) → AreCheckedBelow state olds news → FormCommitChain state news → 2 ≤ length olds
  two-files [] news checked formed = absurd (subst (λ files. FormCommitChain state files) checked formed)
  two-files (top ∷ []) news checked formed =
      absurd (subst (λ below. FormCommitChain state (top ∷ below)) checked.2 (subst
      (λ files. FormCommitChain state files) checked.1 formed))
  two-files (top ∷ (next ∷ below)) news checked formed = omega arith

-- ---- The whole.

module _ (R : RattleType) (st : Ghosts R.Denot) (sd : mir.Syntax.Dict) (dd : mir.Syntax.Dict) (names : ImageDriver R.Denot st → ℕ → List ℕ) where
  -- Opening and driving files.
  pub record IsDrivenOver (m : OpenMode) (files : List (ChainFile R.Denot)) (list : List Call) (outcome : Result (Vec Answer Global) Fault)
      (c new : ImageDriver R.Denot st × List (ImageDriver R.Denot st)) : Type 0 where
    pub layers : AreLayers (image_seen.ghosts R st sd dd) st.state m files (chain c)
    pub places : AreInPlace (map (image_seen.ghosts R st sd dd).layer (chain c))
    pub named : Each (FindsByNames (image_seen.ghosts R st sd dd) names) (chain c)
    pub means : IsDiskOf (chain_disk (image_seen.ghosts R st sd dd).layer c) (files_bytes st.state files)
    pub ready : OfTop (IsFit st.state) files → IsReady (image_seen.ghosts R st sd dd) c
    pub committable : IsSome m.next → OfTop (IsFit st.state) files → OfSecond (IsFit st.state) files
        → IsCommittable (image_seen.ghosts R st sd dd) c
    pub stands : OfTop (λ file. CrashImageIsBytes (st.state file.image)) files
        → HoldsSince (image_seen.ghosts R st sd dd) (flushed (chain_disk (image_seen.ghosts R st sd dd).layer c)) c
    pub below : IsFalse (any_commit_down list)
        → Pairs UnchangedButMoreFaults (files_of (image_seen.ghosts R st sd dd) c.1) (files_of (image_seen.ghosts R st sd dd) new.1)
    pub free : IsFree ((image_seen.ghosts R st sd dd).layer new.0)
    pub made : IfOk outcome (λ answers. MadeAll (image_seen.ghosts R st sd dd) list answers.items c new)
    pub whole : (since : Since) → IsReady (image_seen.ghosts R st sd dd) c → MayCommit (image_seen.ghosts R st sd dd) list c
        → HoldsSince (image_seen.ghosts R st sd dd) since c
        → IfOk outcome (λ answers. Driven (image_seen.ghosts R st sd dd) since list answers.items c new)
    pub each : IfOk outcome (λ answers. length answers.items ≡ length list)
    pub cut : IfErr outcome (λ fault. CutShort (image_seen.ghosts R st sd dd) list c new)
    pub refused : IfErr outcome (λ fault. fault ≡ Memory)

  -- The calls that were made, with their answers.
  record AreMade (list : List Call) (outcome : Result (Vec Answer Global) Fault) (c new : ImageDriver R.Denot st × List (ImageDriver R.Denot st)) : Type 0 where
    answers : List Answer
    told : AreTold outcome list answers
    made : MadeAll (image_seen.ghosts R st sd dd) (take (length answers) list) answers c new
    whole : (since : Since) → IsReady (image_seen.ghosts R st sd dd) c
        → MayCommit (image_seen.ghosts R st sd dd) (take (length answers) list) c → HoldsSince (image_seen.ghosts R st sd dd) since c
        → Driven (image_seen.ghosts R st sd dd) since (take (length answers) list) answers c new

  are-made : (m : OpenMode) (files : List (ChainFile R.Denot)) (list : List Call) (outcome : Result (Vec Answer Global) Fault)
      (c new : ImageDriver R.Denot st × List (ImageDriver R.Denot st)) → IsDrivenOver m files list outcome c new
      → AreMade list outcome c new
  are-made m files list (Ok answers) c new over =
      let g = image_seen.ghosts R st sd dd in
      let many : length answers.items ≡ length list = over.each in
      let all : list ≡ take (length answers.items) list = sym (take_all (length answers.items) list (omega (arith, many))) in
      record {
        answers = answers.items;
        told = (refl, many);
        made = subst (λ calls. MadeAll g calls answers.items c new) all over.made;
        whole = λ since ready may stands. subst (λ calls. Driven g since calls answers.items c new) all
            (over.whole since ready (subst (λ calls. MayCommit g calls c) (sym all) may) stands);
      }
  are-made m files list (Err fault) c new over =
      let g = image_seen.ghosts R st sd dd in
      let cut = over.cut in
      let fewer = cut.fewer in
      let taken = length-take-le cut.count list (omega (arith, fewer)) in
      let many : length cut.answers ≡ cut.count = as-many g (take cut.count list) cut.answers _ _ cut.made.1 ∙ taken in
      let all : take cut.count list ≡ take (length cut.answers) list = ap (λ n. take n list) (sym many) in
      record {
        answers = cut.answers;
        told = (over.refused, omega (arith, fewer, many));
        made = subst (λ calls. MadeAll g calls cut.answers c new) all cut.made;
        whole = λ since ready may stands. subst (λ calls. Driven g since calls cut.answers c new) all
            (cut.driven since ready (subst (λ calls. MayCommit g calls c) (sym all) may) stands);
      }

  -- ---- The files before the check.

  top-before : (m : OpenMode) (old now : ChainFile R.Denot) (below : List (ChainFile R.Denot)) (list : List Call)
      (outcome : Result (Vec Answer Global) Fault) (c new : ImageDriver R.Denot st × List (ImageDriver R.Denot st))
      → IsChecked st.state old now → IsDrivenOver m (now ∷ below) list outcome c new → IsDrivenOver m (old ∷ below) list outcome c new
  top-before m old now below list outcome c new checked over =
      let g = image_seen.ghosts R st sd dd in
      record {
        layers = layers-before st.state old now checked g m below (chain c) over.layers;
        places = over.places;
        named = over.named;
        means = subst (λ (f : FileBytes). IsDiskOf (chain_disk g.layer c) (f ∷ files_bytes st.state below))
            (bytes-checked st.state old now checked)
            over.means;
        ready = λ fit. over.ready (fit-checked st.state old now checked fit);
        committable = λ some fit next. over.committable some (fit-checked st.state old now checked fit) next;
        stands = λ left. over.stands (left-checked st.state old now checked left);
        below = over.below;
        free = over.free;
        made = over.made;
        whole = over.whole;
        each = over.each;
        cut = over.cut;
        refused = over.refused;
      }

  next-before : (m : OpenMode) (top old now : ChainFile R.Denot) (below : List (ChainFile R.Denot)) (list : List Call)
      (outcome : Result (Vec Answer Global) Fault) (c new : ImageDriver R.Denot st × List (ImageDriver R.Denot st))
      → IsChecked st.state old now → IsDrivenOver m (top ∷ (now ∷ below)) list outcome c new
      → IsDrivenOver m (top ∷ (old ∷ below)) list outcome c new
  next-before m top old now below list outcome c new checked over =
      let g = image_seen.ghosts R st sd dd in
      record {
        layers = (over.layers.0, layers-before st.state old now checked g (mode_below m) below c.1 over.layers.1);
        places = over.places;
        named = over.named;
        means = subst (λ (f : FileBytes). IsDiskOf (chain_disk g.layer c) (file_bytes st.state top ∷ (f ∷ files_bytes st.state below)))
            (bytes-checked st.state old now checked) over.means;
        ready = over.ready;
        committable = λ some fit next. over.committable some fit (fit-checked st.state old now checked next);
        stands = over.stands;
        below = over.below;
        free = over.free;
        made = over.made;
        whole = over.whole;
        each = over.each;
        cut = over.cut;
        refused = over.refused;
      }

  driven-before : (m : OpenMode) (files now : List (ChainFile R.Denot)) (list : List Call) (outcome : Result (Vec Answer Global) Fault)
      (c new : ImageDriver R.Denot st × List (ImageDriver R.Denot st)) → AreChecked st.state files now
      → IsDrivenOver m now list outcome c new → IsDrivenOver m files list outcome c new
  driven-before m [] now list outcome c new checked over = subst (λ files. IsDrivenOver m files list outcome c new) checked over
  driven-before m (old ∷ below) now list outcome c new checked over =
      top-before m old checked.0 below list outcome c new checked.2 (subst
      (λ files. IsDrivenOver m files list outcome c new) checked.1 over)

  driven-before-next : (m : OpenMode) (files now : List (ChainFile R.Denot)) (list : List Call) (outcome : Result (Vec Answer Global) Fault)
      (c new : ImageDriver R.Denot st × List (ImageDriver R.Denot st)) → AreCheckedBelow st.state files now
      → IsDrivenOver m now list outcome c new → IsDrivenOver m files list outcome c new
  driven-before-next m [] now list outcome c new checked over = subst (λ files. IsDrivenOver m files list outcome c new) checked over
  driven-before-next m (top ∷ []) now list outcome c new checked over =
      subst (λ below. IsDrivenOver m (top ∷ below) list outcome c new) checked.2
      (subst (λ files. IsDrivenOver m files list outcome c new) checked.1 over)
  driven-before-next m (top ∷ (old ∷ below)) now list outcome c new checked over =
      next-before m top old checked.2.0 below list outcome c new checked.2.2
      (subst (λ files. IsDrivenOver m (top ∷ files) list outcome c new) checked.2.1
      (subst (λ files. IsDrivenOver m files list outcome c new) checked.1 over))

  -- ---- The session.

  may-so : (m : OpenMode) (top : ChainFile R.Denot) (below : List (ChainFile R.Denot)) (list : List Call)
      (outcome : Result (Vec Answer Global) Fault) (c new : ImageDriver R.Denot st × List (ImageDriver R.Denot st))
      → IsDrivenOver m (top ∷ below) list outcome c new → IsFit st.state top → (IsSome m.next → OfTop (IsFit st.state) below)
      → (made : List Call) → MayCommit (image_seen.ghosts R st sd dd) made c
  may-so m top below list outcome c new over fit fit_next made asks takes =
      let some = opened-for-commits (image_seen.ghosts R st sd dd) st.state m (top ∷ below) c.0 c.1 over.layers takes in
      over.committable some fit (fit_next some)

  one-session : (m : OpenMode) (top : ChainFile R.Denot) (below : List (ChainFile R.Denot)) (list : List Call)
      (outcome : Result (Vec Answer Global) Fault) (c new : ImageDriver R.Denot st × List (ImageDriver R.Denot st)) → IsAccepted st.state top
      → (IsSome m.next → OfTop (IsAccepted st.state) below) → IsDrivenOver m (top ∷ below) list outcome c new
      → Session (image_seen.ghosts R st sd dd) names st.state (opening (top ∷ below) m) list outcome new
  one-session m top below list outcome c new accepted accepted_next over =
      let g = image_seen.ghosts R st sd dd in
      let calls = are-made m (top ∷ below) list outcome c new over in
      record {
        opened = c;
        chain = record { layers = over.layers; places = over.places; named = over.named };
        answers = calls.answers;
        told = calls.told;
        made = calls.made;
        files_below = over.below;
        bytes_below = λ none. below-kept g st.state (mode_below m) below c.1 new.1 over.layers.1 (over.below none);
        free = over.free;
        one_disk = λ can can_next.
            let fit = fit-so st.state top can accepted in
            let ready = over.ready fit in
            let may = may-so m top below list outcome c new over fit (λ some. fit-next st.state below (can_next some) (accepted_next some))
            (take (length calls.answers) list) in
            session R st sd dd m top below (take (length calls.answers) list) calls.answers c new accepted can can_next over.layers
            over.places
            over.means ready (calls.whole _ ready may (over.stands can.crash_image));
      }

  all-session : (m : OpenMode) (files : List (ChainFile R.Denot)) (list : List Call)
      (outcome : Result (Vec Answer Global) Fault) (c new : ImageDriver R.Denot st × List (ImageDriver R.Denot st))
      → AllOfTop (IsAccepted st.state) files → (IsSome m.next → OfSecond (IsAccepted st.state) files)
      → IsDrivenOver m files list outcome c new → Session (image_seen.ghosts R st sd dd) names st.state (opening files m) list outcome new
  all-session m [] list outcome c new accepted accepted_next over = absurd over.layers
  all-session m (top ∷ below) list outcome c new accepted accepted_next over =
      one-session m top below list outcome c new accepted accepted_next over

  -- The first file was checked.
  pub list-session : (writable : Bool) (number : ℕ) (files now : List (ChainFile R.Denot)) (list : List Call)
      (outcome : Result (Vec Answer Global) Fault) (c new : ImageDriver R.Denot st × List (ImageDriver R.Denot st))
      → AllOfTop (IsAccepted st.state) files → AreChecked st.state files now → IsDrivenOver (mode writable number) now list outcome c new
      → Session (image_seen.ghosts R st sd dd) names st.state (opening files (mode writable number)) list outcome new
  list-session writable number files now list outcome c new accepted checked over =
      all-session (mode writable number) files list outcome c new accepted (λ some. absurd (cc some))
      (driven-before (mode writable number) files now list outcome c new checked over)

  -- The first two files were checked.
  pub commit-session : (number below_number : ℕ) (files mids now : List (ChainFile R.Denot)) (list : List Call)
      (outcome : Result (Vec Answer Global) Fault) (c new : ImageDriver R.Denot st × List (ImageDriver R.Denot st))
      → AllOfTop (IsAccepted st.state) files → AreChecked st.state files mids
      → (2 ≤ length mids → OfSecond (IsAccepted st.state) mids) → AreCheckedBelow st.state mids now → FormCommitChain st.state now
      → IsDrivenOver (for_commit number below_number) now list outcome c new
      → Session (image_seen.ghosts R st sd dd) names st.state (opening files (for_commit number below_number)) list outcome new
  commit-session number below_number files mids now list outcome c new accepted checked accepted_next checked_next formed over =
      let m = for_commit number below_number in
      all-session m files list outcome c new accepted
      (λ some. second-accepted st.state files mids checked (accepted_next (two-files st.state mids now checked_next formed)))
      (driven-before m files mids list outcome c new checked (driven-before-next m mids now list outcome c new checked_next over))
