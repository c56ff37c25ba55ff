-- Files that are opened as a chain, and a list of calls on it, as calls of the disk that the files mean.
use Rattle.std.proofs.Common.{◌≡◌, ◌⊎◌, ◌∙◌, ◌∷◌, ◌<◌, [], ℕ, List, ap, arith, refl, subst, sym}
use Rattle.std.specs.Prelude.{◌≢◌, Bool, Err, IsTrue, MatchOption, None, Ok, Option, Result, Some, is_some, map, true, false}
use Rattle.std.specs.Borrow.{RattleType}
use Rattle.imago_storage.specs.Disk.{Disk, IsFree as IsFreeDisk, Value, byte}
use Rattle.imago_storage.specs.State.{Shape, StorageState}
use Rattle.imago_storage.specs.Steps.{SameValues, Step, cancel, done}
use Rattle.imago_storage.specs.declared.fault.Fault.{Fault}
use Rattle.imago_storage.specs.declared.storage.Storage.{Ghosts}
use Rattle.imago_access.specs.Chain.{at}
use Rattle.imago_access.specs.ChainCalls.{ChainCancels}
use Rattle.imago_access.specs.Layer.{Fixed, IsFree, Layer, hold_of, loose, unmapped}
use Rattle.imago_access.specs.Layers.{chain}
use Rattle.imago_access.specs.Running.{below_of, chain_disk}
use Rattle.imago_access.specs.Spending.{is_own}
use Rattle.imago_access.specs.declared.driver_model.DriverModel.{Ghosts as DriverGhosts}
use Rattle.imago_access.specs.declared.format.Format.{Format}
use Rattle.imago_access.specs.declared.format.Format.TheVariants as format
use Rattle.imago_access.specs.declared.mapping.PreparedDataMapping.{PreparedDataMapping}
use Rattle.qimg_calls.specs.CommittingDown.{takes_commits}
use Rattle.qimg_calls.specs.Held.{IsReady, chain_with_mapping, state_of}
use Rattle.qimg_calls.specs.Runs.{Driven, moment}
use Rattle.qimg_calls.specs.Since.{LeftSince, flushed}
use Rattle.qimg_calls.specs.declared.call.Answer.{Answer}
use Rattle.qimg_calls.specs.declared.call.Call.{Call}
use Rattle.qcow2_image.specs.ImageLayer.{blank_of}
use Rattle.qcow2_image.specs.ImageLayer as image_layer
use Rattle.qcow2_types.specs.Bytes.{Bytes, bytes_of}
use Rattle.qcow2_types.specs.Header.{Header, header_of}
use Rattle.qimg_core.specs.declared.plain.ChainFile.{ChainFile}
use Rattle.qimg_chain.specs.Chains.{AreInPlace, AreLayers, IsSoundAs, OfTop, OpenMode, mode_below}
use Rattle.qimg_chain.specs.FileMeanings.{IsDiskOf, extra_bytes, file_bytes, file_meaning, files_bytes, value_of}
use Rattle.qimg_chain.specs.FilesByName.{qcow2_through, sized}
use Rattle.qimg_chain.specs.FlushedFiles.{with_image}
use Rattle.qimg_chain.specs.OneDisk.{over_values, reading_over}
use Rattle.qimg_chain.specs.OpenedAgain.{ReadsAsFiles}
use Rattle.qimg_chain.specs.Sessions.{CanBeTop, CanTakeCommits, NextStarts, OnOneDisk, next_image}
use Rattle.qimg_chain.specs.TopChecks.{IsAccepted}
use Rattle.qimg_chain.specs.contracts.chain.image_driver.ImageDriverDriverModel.TheImpl as image_seen
use Rattle.qimg_chain.specs.declared.chain.image_driver.ImageDriver.{ImageDriver}
use Rattle.qimg_chain.specs.declared.chain.image_driver.ImageDriver.TheVariants as variant
use Rattle.qimg_chain.proofs.FlushedFiles.{shows-below}
use Rattle.qimg_chain.proofs.HandedIn.{images-shown}
use Rattle.qimg_chain.proofs.ImageKinds.{none_held}
use Rattle.qimg_chain.proofs.Sessions.Closed.{opened-for-commits}
use Rattle.qimg_chain.proofs.Sessions.Committed.{ReadsNext, fixed-same}
use Rattle.qimg_chain.proofs.Sessions.Flat.{IsSinceOpened, last-as, runs}
use Rattle.qimg_chain.proofs.Sessions.Moments.{flat, kept_of}
use Rattle.qimg_chain.proofs.Sessions.Readings.{IsReadAs, left-as}

-- ---- The end of a list.

-- A cancel changes no value.
cancel-same : (under : ℕ → Value) (state own : Bool) (old new : Disk) → Step under old (cancel state own) done new → SameValues old new
cancel-same under true own old new step = step.1.values
cancel-same under false own old new step = record { size = step.size; value = step.value }

-- After a cancel no byte is held.
cancel-free : {St : Type 0} (under : ℕ → Value) (state : Option St) (own : Bool) (old new : Disk) → (state ≡ None → IsFreeDisk old)
    → Step under old (cancel (is_some state) own) done new → IsFreeDisk new
cancel-free under None own old new free step = λ p inside. let was : p < old.size = omega (arith, inside, step.size) in step.hold p was ∙ free refl p was
cancel-free under (Some s) own old new free step = step.1.is_free

module _ {D St : Type 0} (g : DriverGhosts D St) (free_loose : (d : D) → IsFree (g.layer d) → (p : ℕ) → (g.layer d).held p ≡ loose) where
  free-disk : (c : D × List D) → IsFree (g.layer c.0) → IsFreeDisk (chain_disk g.layer c)
  free-disk c free p inside = ap hold_of (free_loose c.0 free p)

  ended : (kept : Option (PreparedDataMapping St)) (drivers new : D × List D) → (state_of kept ≡ None → IsFree (g.layer drivers.0))
      → MatchOption kept (new ≡ drivers) (λ m. ChainCancels g m.state drivers new × (g.image new.0 ≡ g.image drivers.0))
      → SameValues (chain_disk g.layer drivers) (chain_disk g.layer new) × IsFreeDisk (chain_disk g.layer new) × (g.image new.0 ≡ g.image drivers.0)
      × (kept_of kept ≡ None → new ≡ drivers)
  ended None drivers new free same = (
    record { size = ap (λ (c : D × List D). (g.layer c.0).size) same; value = λ p inside. ap (λ (c : D × List D). (chain_disk g.layer c).value p) same },
    free-disk new (subst (λ (c : D × List D). IsFree (g.layer c.0)) (sym same) (free refl)),
    ap (λ (c : D × List D). g.image c.0) same,
    λ none. same,
  )
  ended (Some m) drivers new free up = (
    cancel-same (below_of g.layer drivers) (is_some m.state) (is_own g.tag m.state (g.layer drivers.0)) (chain_disk g.layer drivers) (chain_disk g.layer new) up.0,
    cancel-free (below_of g.layer drivers) m.state (is_own g.tag m.state (g.layer drivers.0)) (chain_disk g.layer drivers) (chain_disk g.layer new) (λ none. free-disk drivers (free none)) up.0,
    up.1,
    λ none. absurd (cc none),
  )

-- At the opening, the storage of the next layer's file is that of its file.
next-starts : {S D St : Type 0} (g : DriverGhosts D St) (state : S → StorageState) (m : OpenMode) (files : List (ChainFile S)) (ds : List D)
    → AreLayers g state m files ds → NextStarts state files (next_image g ds)
next-starts g state m [] [] are = refl
next-starts g state m [] (d ∷ ds) are = absurd are
next-starts g state m (file ∷ files) [] are = absurd are
next-starts g state m (file ∷ files) (d ∷ ds) are = (g.image d, refl, are.0.opened.unchanged_but_faults.0)

-- ---- Image drivers.

backed-so : (backed : Bool) (f : Bytes) (said : Result Header Fault)
    → (image_layer.meaning_of (blank_of backed) f said).backed ≡ (image_layer.meaning_of unmapped f said).backed
backed-so backed f (Ok H) = refl
backed-so backed f (Err fault) = refl

module _ (R : RattleType) (st : Ghosts R.Denot) (sd : mir.Syntax.Dict) (dd : mir.Syntax.Dict) where
  -- A raw or qcow2 image reads each file as the file means.
  image-read : (f : Format) → f ≢ format.Vmdk → (d : ImageDriver R.Denot st) → ((image_seen.ghosts R st sd dd).layer d).fixed.format ≡ f
      → (bytes : List ℕ) (extras : List (List ℕ × List ℕ))
      → IsReadAs (image_seen.ghosts R st sd dd).sound ((image_seen.ghosts R st sd dd).layer d).fixed (record { format = f; bytes = bytes; extras = extras })
  image-read format.Raw differs (variant.Raw d) is bytes extras =
      record { size = λ f. refl; cell = λ f p below known. refl; backed = λ f. refl; is_sound = λ f sound. tt; exact = refl }
  image-read format.Qcow2 differs (variant.Qcow2 d) is bytes extras = record {
    size = λ f. sized d.mode.backing (bytes_of f) (header_of false (bytes_of f));
    cell = λ f p below known. qcow2_through d.mode.backing f p below known;
    backed = λ f. backed-so d.mode.backing (bytes_of f) (header_of false (bytes_of f));
    is_sound = λ f sound. sound;
    exact = refl;
  }
  image-read format.Vmdk differs d is bytes extras = absurd (differs refl)
  image-read format.Raw differs (variant.Qcow2 d) is bytes extras = absurd (cc is)
  image-read format.Raw differs (variant.Vmdk d) is bytes extras = absurd (cc is)
  image-read format.Qcow2 differs (variant.Raw d) is bytes extras = absurd (cc is)
  image-read format.Qcow2 differs (variant.Vmdk d) is bytes extras = absurd (cc is)

  -- ---- The whole list.

  -- The top's driver reads its file as the file says.
  pub top-read : (m : OpenMode) (top : ChainFile R.Denot) (below : List (ChainFile R.Denot)) (d : ImageDriver R.Denot st)
      (ds : List (ImageDriver R.Denot st)) → top.format ≢ format.Vmdk
      → AreLayers (image_seen.ghosts R st sd dd) st.state m (top ∷ below) (d ∷ ds)
      → IsReadAs (image_seen.ghosts R st sd dd).sound ((image_seen.ghosts R st sd dd).layer d).fixed (file_bytes st.state top)
  top-read m top below d ds differs are =
      image-read top.format differs d are.0.opened.format_is (st.state top.image).bytes (map (extra_bytes st.state) top.extras.items)

  top-backed : (m : OpenMode) (top : ChainFile R.Denot) (below : List (ChainFile R.Denot)) (d : ImageDriver R.Denot st)
      (ds : List (ImageDriver R.Denot st)) → top.format ≢ format.Vmdk
      → AreLayers (image_seen.ghosts R st sd dd) st.state m (top ∷ below) (d ∷ ds)
      → (((image_seen.ghosts R st sd dd).layer d).fixed.means ((image_seen.ghosts R st sd dd).image d).bytes).backed
      ≡ (file_meaning (file_bytes st.state top)).backed
  top-backed m top below d ds differs are =
      (top-read m top below d ds differs are).backed ((image_seen.ghosts R st sd dd).image d).bytes
      ∙ ap (λ bytes. (file_meaning (with_image (file_bytes st.state top) bytes)).backed) are.0.opened.unchanged_but_faults.0.bytes

  -- A crash image as the drivers read it is one as the files say.
  pub reads-as-files : (names : ImageDriver R.Denot st → ℕ → List ℕ) → ReadsAsFiles (image_seen.ghosts R st sd dd) names st.state
  reads-as-files names m top below opened now repaired differs is same backed since f left =
      let g = image_seen.ghosts R st sd dd in
      let x = (g.layer now.0).fixed in
      let bytes = (g.image now.0).bytes in
      let files = files_bytes st.state below in
      let values = images-shown R st sd dd (mode_below m) below opened.1 is.layers.1 is.places.1 in
      let shows = shows-below (map g.layer opened.1) (g.layer opened.0) (g.layer opened.0) is.places.0 refl in
      let below_is : below_of g.layer now ≡ value_of files = ap (λ (layers : List Layer). at layers) (same.below refl)
      ∙ (λ i p. values p i) in
      let over = left-as g.sound x (file_bytes st.state top)
      (subst (λ (y : Fixed). IsReadAs g.sound y (file_bytes st.state top)) (sym same.fixed)
      (top-read m top below opened.0 opened.1 differs is.layers))
      files (below_of g.layer now)
      (subst (λ (y : Fixed). (p : ℕ) → (y.blank ≡ unmapped) ⊎ (at (map g.layer now.1) p ≡ byte 0)) (sym same.fixed)
      (subst (λ (layers : List Layer). (p : ℕ) → ((g.layer opened.0).fixed.blank ≡ unmapped) ⊎ (at layers p ≡ byte 0)) (sym (same.below refl)) shows))
      (x.means bytes).backed
      (ap (λ (y : Fixed). (y.means bytes).backed) same.fixed ∙ backed
      ∙ top-backed m top below opened.0 opened.1 differs is.layers) since f left in
      subst (λ (v : ℕ → Value). LeftSince (over_values (reading_over (file_bytes st.state top) files) v) since f) below_is over

  -- The next layer's driver reads its file as the file says, if that layer was opened for writing.
  next-read : (m : OpenMode) (top : ChainFile R.Denot) (below : List (ChainFile R.Denot)) (d : ImageDriver R.Denot st)
      (ds : List (ImageDriver R.Denot st)) → AreLayers (image_seen.ghosts R st sd dd) st.state m (top ∷ below) (d ∷ ds)
      → AreInPlace (map (image_seen.ghosts R st sd dd).layer (d ∷ ds)) → CanTakeCommits st.state m below
      → takes_commits (map (image_seen.ghosts R st sd dd).layer (d ∷ ds)) ≡ true
      → ReadsNext (image_seen.ghosts R st sd dd) ds (files_bytes st.state below)
  next-read m top [] d [] are places can takes = absurd (cc takes)
  next-read m top [] d (next ∷ ds) are places can takes = absurd are.1
  next-read m top (file ∷ files) d [] are places can takes = absurd are.1
  next-read m top (file ∷ files) d (next ∷ ds) are places can takes =
      let g = image_seen.ghosts R st sd dd in
      let one : OfTop (CanBeTop st.state) (file ∷ files) = can (opened-for-commits g st.state m (top ∷ (file ∷ files)) d
      (next ∷ ds) are takes) in
      record {
        is_read = top-read (mode_below m) file files next ds one.format are.1;
        values = images-shown R st sd dd (mode_below (mode_below m)) files ds are.1.1 places.1.1;
        shows = shows-below (map g.layer ds) (g.layer next) (g.layer next) places.1.0 refl;
      }

  -- A list of calls on a chain that was opened over these files.
  pub session : (m : OpenMode) (top : ChainFile R.Denot) (below : List (ChainFile R.Denot)) (list : List Call)
      (answers : List Answer) (c new : ImageDriver R.Denot st × List (ImageDriver R.Denot st))
      → IsAccepted st.state top → CanBeTop st.state top → CanTakeCommits st.state m below
      → AreLayers (image_seen.ghosts R st sd dd) st.state m (top ∷ below) (chain c)
      → AreInPlace (map (image_seen.ghosts R st sd dd).layer (chain c))
      → IsDiskOf (chain_disk (image_seen.ghosts R st sd dd).layer c) (files_bytes st.state (top ∷ below))
      → IsReady (image_seen.ghosts R st sd dd) c
      → Driven (image_seen.ghosts R st sd dd) (flushed (chain_disk (image_seen.ghosts R st sd dd).layer c)) list answers c new
      → OnOneDisk (image_seen.ghosts R st sd dd) st.state top below list answers c new
  session m top below list answers c new accepted can can_next are places means ready driven =
      let g = image_seen.ghosts R st sd dd in
      let opened = are.0.opened in
      let top_bytes = file_bytes st.state top in
      let files = files_bytes st.state below in
      let is_read = top-read m top below c.0 c.1 can.format are in
      let reads_next = next-read m top below c.0 c.1 are places can_next in
      let same = opened.unchanged_but_faults.0 in
      let start = moment (chain_with_mapping c None) (flushed (chain_disk g.layer c)) in
      let alike : IsSinceOpened g c top_bytes start = record {
        fixed = refl;
        next_fixed = fixed-same g c.1 c.1 refl;
        deeper = refl;
        stands = λ tells keeps room. record {
          told = same.crash_image
              ∙ can.crash_image (subst (λ (s : Shape). IsTrue s.tells) same.shape tells)
              (subst (λ (s : Shape). IsTrue s.keeps) same.shape keeps)
              ∙ sym same.bytes;
          is_sound = subst (IsSoundAs top.format) (sym same.bytes) accepted;
          backed = top-backed m top below c.0 c.1 can.format are;
        };
        ready = ready;
        prepared = record { mine = tt; free = λ none. opened.free };
      } in
      let values = images-shown R st sd dd (mode_below m) below c.1 are.1 places.1 in
      record {
        start = flat g start;
        last = flat g driven.last;
        starts = record {
          means = means;
          is_free = free-disk g (none_held R st sd dd) c opened.free;
          none = refl;
          flushed = refl;
          top_is = same;
          below_is = λ i p. values p i;
          next_is = next-starts g st.state (mode_below m) below c.1 are.1;
        };
        run = runs g c top_bytes files is_read reads_next list answers start driven.last alike driven.run;
        ends = λ on.
            let last = last-as g c top_bytes files is_read reads_next list answers start driven.last alike driven.run on in
            let end = ended g (none_held R st sd dd) driven.last.now.kept_mapping driven.last.now.drivers new last.prepared.free (driven.ends on) in
            record {
              values = end.0;
              is_free = end.1;
              below_is = λ none. ap (below_of g.layer) (end.3 none);
              top_is = end.2;
              next_is = λ none. ap (λ (c : ImageDriver R.Denot st × List (ImageDriver R.Denot st)). next_image g c.1) (end.3 none);
            };
        ready = driven.ready;
        stands = driven.stands;
        driven = driven;
      }
