-- A chain that was just opened is ready for calls.
use Rattle.std.proofs.Common.{◌≡◌, ◌∷◌, ◌++◌, ◌<◌, ◌≤◌, ◌∙◌, [], ℕ, List, arith, drop, get_or, length, refl, subst, sym, take, true}
use Rattle.std.specs.Prelude.{◌&&◌, ◌≢◌, All, Bool, IfOk, IsTrue, Err, None, Ok, Result, false, map}
use Rattle.std.specs.declared.string.String.{String}
use Rattle.std.specs.declared.alloc.Global.{Global}
use Rattle.std.proofs.lemmas.List.{drop_at, take_at}
use Rattle.std.proofs.lemmas.List.Elements.{All-append, All-drop, All-head, All-same, All-tail, All-take}
use Rattle.imago_storage.specs.State.{CrashImageIsBytes, Shape, StorageState}
use Rattle.imago_access.specs.declared.format.Format.{Format}
use Rattle.imago_access.specs.declared.format.Format.TheVariants.{Qcow2, Raw, Vmdk}
use Rattle.imago_access.specs.declared.driver_model.DriverModel.{Ghosts}
use Rattle.imago_access.specs.Building.{IsOpened}
use Rattle.imago_access.specs.Chain.{Each, IsBacked, at}
use Rattle.imago_access.specs.Committing.{IsCommittable}
use Rattle.imago_access.specs.Files.{keep_all}
use Rattle.imago_access.specs.Layer.{Cell, IsFree, Layer, loose, own, unmapped}
use Rattle.imago_access.specs.Layers.{chain}
use Rattle.imago_access.specs.Refusals.{unusable_fault}
use Rattle.imago_access.specs.Running.{IsIntactChain, chain_disk}
use Rattle.imago_access.proofs.Running.{intact_free}
use Rattle.qimg_calls.specs.Held.{IsReady}
use Rattle.qimg_calls.specs.Runs.{HoldsSince}
use Rattle.qimg_calls.specs.Since.{flushed}
use Rattle.qimg_calls.proofs.Stops.{since-flushed}
use Rattle.qimg_core.specs.declared.plain.ChainFile.{ChainFile}
use Rattle.qimg_chain.specs.Chains.{AreInPlace, AreLayers, IsFit, IsInPlace, IsLayerOf, IsSoundAs, OfSecond, OfTop, OpenMode}
use Rattle.qimg_chain.specs.Chains.{for_commit, mode, mode_below, number_for}
use Rattle.qimg_chain.specs.Extras.{TakesEach, TakesFirst}
use Rattle.qimg_chain.specs.FileLayers.{is_unmapped}
use Rattle.qimg_chain.specs.FurtherFiles.{HasFurther}
use Rattle.qimg_chain.specs.Refusals.{ArePlaced, FormChain, FormCommitChain, misplaced}

pub on_ok : {T E : Type 0} {P Q : T → Type 0} → ((x : T) → P x → Q x) → (result : Result T E) → IfOk result P → IfOk result Q
on_ok follows (Ok x) p = follows x p
on_ok follows (Err e) p = tt

pub on_ok_both : {T E : Type 0} {P Q R : T → Type 0} → ((x : T) → P x → Q x → R x) → (result : Result T E) → IfOk result P → IfOk result Q → IfOk result R
on_ok_both follows (Ok x) p q = follows x p q
on_ok_both follows (Err e) p q = tt

backed : (below : List Layer) (layer : Layer) → IsInPlace below layer → IsBacked below layer
backed [] layer place = tt
backed (next ∷ below) layer place = place

-- ---- Storages that keep what is written.

both_true : (a b : Bool) → IsTrue a → IsTrue b → IsTrue (a && b)
both_true true b first second = second
both_true false b first second = absurd (cc first)

module _ {S : Type 0} (P : S → Type 0) where
  -- A property of all supplied files holds for the one that is taken and for those that are left.
  taken_has : (files left : List (String Global × S)) (name : List ℕ) (taken : S) → All (λ f. P f.1) files → TakesFirst files name taken left
      → P taken × All (λ (f : String Global × S). P f.1) left
  taken_has files left name taken all t =
      let Q = λ (f : String Global × S). P f.1 in
      let behind = (t.given, taken) ∷ t.files_after in
      let parted : All Q (t.before ++ behind) = All-same Q (t.before ++ behind) files (sym t.where_is) all in
      let first : All Q t.before = All-same Q t.before (take (length t.before) (t.before ++ behind))
      (sym (take_at t.before behind (length t.before) refl)) (All-take Q (length t.before) (t.before ++ behind) parted) in
      let last : All Q behind = All-same Q behind (drop (length t.before) (t.before ++ behind))
      (sym (drop_at t.before behind (length t.before) refl)) (All-drop Q (length t.before) (t.before ++ behind) parted) in (
        All-head Q (t.given, taken) t.files_after last,
        All-same Q left (t.before ++ t.files_after) t.others_left (All-append Q t.before t.files_after first (All-tail Q (t.given, taken) t.files_after last)),
      )

module _ {S : Type 0} (state : S → StorageState) where
  each_keeps : (names : List (List ℕ)) (files : List (String Global × S)) (ones : List S) (s : StorageState)
      → All (λ f. IsTrue (state f.1).shape.keeps) files → TakesEach files names ones → IsTrue s.shape.keeps → IsTrue (keep_all s (map state ones))
  each_keeps [] files [] s all t keeps = keeps
  each_keeps [] files (x ∷ xs) s all t keeps = absurd t
  each_keeps (name ∷ names) files [] s all t keeps = absurd t
  each_keeps (name ∷ names) files (x ∷ xs) s all t keeps =
      let has = taken_has (λ (x : S). IsTrue (state x).shape.keeps) files t.0 name x all t.1 in
      both_true s.shape.keeps (keep_all (state x) (map state xs)) keeps (each_keeps names t.0 xs (state x) has.1 t.2 has.0)

  further_keep : (format : Format) (image s : StorageState) (handed : List (String Global × S)) (further : List StorageState)
      → All (λ f. IsTrue (state f.1).shape.keeps) handed → HasFurther state format image handed further → IsTrue s.shape.keeps → IsTrue (keep_all s further)
  further_keep Raw image s handed further all has keeps = subst (λ (ts : List StorageState). IsTrue (keep_all s ts)) (sym has) keeps
  further_keep Qcow2 image s handed further all has keeps = subst (λ (ts : List StorageState). IsTrue (keep_all s ts)) (sym has) keeps
  further_keep Vmdk image s handed further all has keeps =
      subst (λ (ts : List StorageState). IsTrue (keep_all s ts)) (sym has.2.2) (each_keeps _ handed has.2.0 s all has.2.1.taken keeps)

-- ---- Files are at valid positions if their layers are.

last_in_place : (F : Type 0) (blank : Cell) → blank ≢ unmapped → misplaced {F = F} (is_unmapped blank) [] ≡ None
last_in_place F (own value) shows = refl
last_in_place F unmapped shows = absurd (shows refl)

upper_in_place : {F : Type 0} (blank : Cell) (next : F) (below : List F) → blank ≡ unmapped → misplaced (is_unmapped blank) (next ∷ below) ≡ None
upper_in_place (own value) next below shows = absurd (cc shows)
upper_in_place unmapped next below shows = refl

-- The second file, if the one at index 1 isn't a VMDK image.
pub second_other : {S : Type 0} (files : List (ChainFile S)) (next : ChainFile S) → 1 < length files → next ≡ get_or files 1 next
    → next.format ≢ Vmdk
    → OfSecond (λ (file : ChainFile S). file.format ≢ Vmdk) files
second_other [] next two is other = absurd (omega (arith, two))
second_other (top ∷ []) next two is other = absurd (omega (arith, two))
second_other {S} (top ∷ (file ∷ below)) next two is other = subst (λ (f : ChainFile S). f.format ≢ Vmdk) is other

module _ {S D St : Type 0} (g : Ghosts D St) (state : S → StorageState) where
  in_place : (m : OpenMode) (files : List (ChainFile S)) (ds : List D) (d : D) → AreLayers g state m files ds
      → IsInPlace (map g.layer ds) (g.layer d)
      → misplaced (is_unmapped (g.layer d).fixed.blank) files ≡ None
  in_place m [] [] d are place = last_in_place (ChainFile S) (g.layer d).fixed.blank place
  in_place m (file ∷ files) (e ∷ ds) d are place = upper_in_place (g.layer d).fixed.blank file files place
  in_place m [] (e ∷ ds) d are place = absurd are
  in_place m (file ∷ files) [] d are place = absurd are

  placed : (writable : Bool) (number : ℕ) (files : List (ChainFile S)) (ds : List D) → AreLayers g state (mode writable number) files ds
      → AreInPlace (map g.layer ds) → ArePlaced state writable files
  placed writable number [] [] are places = tt
  placed writable number (file ∷ files) (d ∷ ds) are places = (
    (is_unmapped (g.layer d).fixed.blank, g.extras d, are.0.layer, in_place (mode false 0) files ds d are.1 places.0),
    placed false 0 files ds are.1 places.1,
  )
  placed writable number [] (d ∷ ds) are places = absurd are
  placed writable number (file ∷ files) [] are places = absurd are

  pub formed : (writable : Bool) (number : ℕ) (file : ChainFile S) (files : List (ChainFile S)) → length (file ∷ files) ≤ 64 → (c : D × List D)
      → AreLayers g state (mode writable number) (file ∷ files) (chain c) → AreInPlace (map g.layer (chain c)) → FormChain state writable (file ∷ files)
  formed writable number file files few c are places = (omega arith, few, placed writable number (file ∷ files) (chain c) are places)

  pub formed_for_commit : (number below_number : ℕ) (files : List (ChainFile S)) → 1 < length files → length files ≤ 64
      → OfSecond (λ (file : ChainFile S). file.format ≢ Vmdk) files → (c : D × List D)
      → AreLayers g state (for_commit number below_number) files (chain c) → AreInPlace (map g.layer (chain c))
      → FormCommitChain state files
  formed_for_commit number below_number [] two few other c are places = absurd (omega (arith, two))
  formed_for_commit number below_number (top ∷ []) two few other c are places = absurd (omega (arith, two))
  formed_for_commit number below_number (top ∷ (next ∷ below)) two few other c are places = (
    few,
    other,
    (
      is_unmapped (g.layer c.0).fixed.blank,
      g.extras c.0,
      are.0.layer,
      in_place (mode true below_number) (next ∷ below) c.1 c.0 are.1 places.0,
    ),
    placed true below_number (next ∷ below) c.1 are.1 places.1,
  )

  -- ---- The preconditions of calls.

  -- A property of each driver that was just opened holds for each layer.
  each : (P : D → Type 0)
      → ((format : Format) (writable : Bool) (number : ℕ) (before : StorageState) (d : D) → IsOpened g format writable number before d
      → P d)
      → (m : OpenMode) (files : List (ChainFile S)) (ds : List D) → AreLayers g state m files ds → Each P ds
  each P has m [] [] are = tt
  each P has m (file ∷ files) (d ∷ ds) are = (
    has file.format m.writable (number_for file.format m.number) (state file.image) d are.0.opened,
    each P has (mode_below m) files ds are.1,
  )
  each P has m [] (d ∷ ds) are = absurd are
  each P has m (file ∷ files) [] are = absurd are

  usable : (ds : List D) → Each (λ d. unusable_fault (g.layer d) ≡ None) ds → Each (λ l. unusable_fault l ≡ None) (map g.layer ds)
  usable [] can = tt
  usable (d ∷ ds) can = (can.0, usable ds can.1)

  as_many : (m : OpenMode) (files : List (ChainFile S)) (ds : List D) → AreLayers g state m files ds
      → length (map g.layer ds) ≡ length files
  as_many m [] [] are = refl
  as_many m (file ∷ files) (d ∷ ds) are = omega (arith, as_many (mode_below m) files ds are.1)
  as_many m [] (d ∷ ds) are = absurd are
  as_many m (file ∷ files) [] are = absurd are

  pub free : (m : OpenMode) (file : ChainFile S) (files : List (ChainFile S)) (c : D × List D)
      → AreLayers g state m (file ∷ files) (chain c)
      → IsFree (g.layer c.0)
  free m file files c are = are.0.opened.free

  pub has_no_dirty_data : (m : OpenMode) (file : ChainFile S) (files : List (ChainFile S)) (c : D × List D)
      → AreLayers g state m (file ∷ files) (chain c) → Each g.has_no_dirty_data c.1
  has_no_dirty_data m file files c are = each g.has_no_dirty_data (λ f w n b d o. o.has_no_dirty_data) (mode_below m) files c.1 are.1

  pub stands : (m : OpenMode) (file : ChainFile S) (files : List (ChainFile S)) (c : D × List D)
      → AreLayers g state m (file ∷ files) (chain c) → OfTop (λ f. CrashImageIsBytes (state f.image)) (file ∷ files)
      → HoldsSince g (flushed (chain_disk g.layer c)) c
  stands m file files c are step tells keeps room =
      let kept = are.0.opened.unchanged_but_faults.0 in
      let same = step (subst (λ (s : Shape). IsTrue s.tells) kept.shape tells) (subst (λ (s : Shape). IsTrue s.keeps) kept.shape keeps) in (
        kept.crash_image ∙ same ∙ sym kept.bytes,
        since-flushed (map g.layer c.1) g.sound (g.layer c.0) (g.image c.0).bytes are.0.opened.meant,
      )

  module _ (free_loose : (d : D) → IsFree (g.layer d) → (p : ℕ) → (g.layer d).held p ≡ loose)
      (keeps_so : (d : D) → (g.layer d).fixed.keeps ≡ keep_all (g.image d) (g.extras d))
      (sound_so : (d : D) (f : List ℕ) → IsSoundAs (g.layer d).fixed.format f → g.sound (g.layer d).fixed.kind f) where
    -- The driver of a file that can be the top is well-formed.
    well_formed : (writable : Bool) (number : ℕ) (file : ChainFile S) (d : D) → IsLayerOf g state writable number file d
        → IsFit state file → g.well_formed d
    well_formed writable number file d is fit =
        let kept = is.opened.unchanged_but_faults.0 in
        let own_keeps : IsTrue (g.image d).shape.keeps = subst (λ (s : Shape). IsTrue s.keeps) (sym kept.shape) fit.keeps in
        let keeps = further_keep state file.format (state file.image) (g.image d) file.extras.items (g.extras d) fit.others is.layer.has
        own_keeps in
        let sound : IsSoundAs (g.layer d).fixed.format (g.image d).bytes =
        subst (λ (f : Format). IsSoundAs f (g.image d).bytes) (sym is.opened.format_is)
        (subst (λ (f : List ℕ). IsSoundAs file.format f) (sym kept.bytes) fit.sound) in
        is.opened.well_formed (subst (λ (b : Bool). IsTrue b) (sym (keeps_so d)) keeps) (sound_so d (g.image d).bytes sound)

    -- The chain is well-formed.
    intact : (m : OpenMode) (file : ChainFile S) (files : List (ChainFile S)) (c : D × List D)
        → AreLayers g state m (file ∷ files) (chain c)
        → AreInPlace (map g.layer (chain c)) → IsFit state file → IsIntactChain g c
    intact m file files c are places fit = record {
      is_well_formed = well_formed m.writable m.number file c.0 are.0 fit;
      is_coherent = each g.coherent (λ f w n b d o. o.coherent) (mode_below m) files c.1 are.1;
      backed = backed (map g.layer c.1) (g.layer c.0) places.0;
      held = intact_free g.layer free_loose (at (map g.layer c.1)) c.0 are.0.opened.free;
    }

    pub ready : (m : OpenMode) (file : ChainFile S) (files : List (ChainFile S)) → length (file ∷ files) ≤ 64
        → (c : D × List D) → AreLayers g state m (file ∷ files) (chain c) → AreInPlace (map g.layer (chain c))
        → OfTop (IsFit state) (file ∷ files) → IsReady g c
    ready m file files few c are places fit = record {
      intact = intact m file files c are places fit;
      usable = (
        are.0.opened.usable,
        usable c.1 (each (λ d. unusable_fault (g.layer d) ≡ None) (λ f w n b d o. o.usable) (mode_below m) files c.1 are.1),
      );
      has_no_dirty_data = has_no_dirty_data m file files c are;
      layers_bounded = omega (arith, few, as_many (mode_below m) files c.1 are.1);
    }

    -- The chain and that of the next layer are well-formed, and the next layer's file says what its disk is.
    pub committable : (m : OpenMode) (files : List (ChainFile S)) (c : D × List D) → AreLayers g state m files (chain c)
        → AreInPlace (map g.layer (chain c))
        → OfTop (IsFit state) files → OfSecond (IsFit state) files → IsCommittable g c
    committable m [] c are places fit next_fit = absurd fit
    committable m (file ∷ []) c are places fit next_fit = absurd next_fit
    committable m (file ∷ (next ∷ files)) (d, []) are places fit next_fit = absurd are.1
    committable m (file ∷ (next ∷ files)) (d, e ∷ ds) are places fit next_fit = record {
      chain = intact m file (next ∷ files) (d, e ∷ ds) are places fit;
      next = (intact (mode_below m) next files (e, ds) are.1 places.1 next_fit, are.1.0.opened.meant);
    }
