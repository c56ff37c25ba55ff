-- An image whose storage has just begun to expose its crash images opens as a chain that exposes them.
use Rattle.std.proofs.Common.{◌≡◌, ◌≤◌, ◌∙◌, ℕ, List, [], ◌∷◌, arith, length, refl, sym, subst, ap}
use Rattle.std.specs.Prelude.{IsTrue, MatchOption, None, Option, Some}
use Rattle.imago_storage.specs.State.{Shape, StorageState}
use Rattle.imago_access.specs.declared.format.Format.TheVariants.{Qcow2}
use Rattle.imago_access.specs.declared.driver_model.DriverModel.{Ghosts}
use Rattle.imago_access.specs.Files.{keep_all}
use Rattle.imago_access.specs.Layer.{IsFree, loose}
use Rattle.imago_access.specs.Running.{chain_disk}
use Rattle.qcow2_types.specs.Bytes.{bytes_of}
use Rattle.qcow2_types.specs.Consistency.{Consistent}
use Rattle.qimg_calls.specs.Since.{flushed}
use Rattle.qimg_core.specs.declared.plain.ChainFile.{ChainFile}
use Rattle.qimg_chain.specs.Chains.{IsSoundAs, OpenMode}
use Rattle.qimg_chain.specs.Refusals.{AreFormed, FormChain, FormCommitChain}
use Rattle.qimg_chain.specs.ToldStops.{AreLoggedFiles, OpensTelling, CrashImagesConsistent}
use Rattle.qimg_chain.proofs.FitFiles.{logged-fits, logged-step}
use Rattle.qimg_chain.proofs.Opened.{ready, stands}
use Rattle.qimg_chain.proofs.ToldStops.{stops-in, stops-told}

module _ {S D St : Type 0} (g : Ghosts D St) (state : S → StorageState)
    (free_loose : (d : D) → IsFree (g.layer d) → (p : ℕ) → (g.layer d).held p ≡ loose)
    (keeps_so : (d : D) → (g.layer d).fixed.keeps ≡ keep_all (g.image d) (g.extras d))
    (sound_so : (d : D) (f : List ℕ) → IsSoundAs (g.layer d).fixed.format f → g.sound (g.layer d).fixed.kind f) where
  few-for-commit : (files : List (ChainFile S)) → FormCommitChain state files → length files ≤ 64
  few-for-commit [] are = absurd are
  few-for-commit (top ∷ []) are = absurd are
  few-for-commit (top ∷ (next ∷ below)) are = are.0

  few-by : (next : Option ℕ) (P : Type 0) (files : List (ChainFile S)) → (P → length files ≤ 64)
      → MatchOption next P (λ _. FormCommitChain state files) → length files ≤ 64
  few-by None P files few are = few are
  few-by (Some number) P files few are = few-for-commit files are

  -- A chain has at most 64 layers.
  few : (m : OpenMode) (files : List (ChainFile S)) → AreFormed state m files → length files ≤ 64
  few m files are = few-by m.next (FormChain state m.writable files) files (λ formed. formed.1) are

  pub opens-telling : (m : OpenMode) (files : List (ChainFile S)) → AreLoggedFiles state m files → OpensTelling g state m files
  opens-telling m [] are c opened = absurd are.1
  opens-telling m (file ∷ below) are c opened =
      let is = are.1 in
      let kept = opened.layers.0.opened.unchanged_but_faults.0 in
      let shape = kept.shape ∙ ap (λ (s : StorageState). s.shape) is.logged in
      let refusals = kept.refusals ∙ ap (λ (s : StorageState). s.refusals) is.logged in
      record {
        ready = ready g state free_loose keeps_so sound_so m file below (few m (file ∷ below) are.0) c opened.layers opened.places
            (logged-fits state file is);
        stands = stands g state m file below c opened.layers (logged-step state file is);
        tells = subst (λ (s : Shape). IsTrue s.tells) (sym shape) refl;
        keeps = subst (λ (s : Shape). IsTrue s.keeps) (sym shape) refl;
        room = omega (arith, refusals);
      }

  pub stops-consistent :
      ((d : D) (f : List ℕ) → (g.layer d).fixed.format ≡ Qcow2 → g.sound (g.layer d).fixed.kind f → Consistent (bytes_of f))
      → (m : OpenMode) (files : List (ChainFile S)) → AreLoggedFiles state m files → CrashImagesConsistent g state m files
  stops-consistent consistent_so m [] are list answers c new opened driven on = absurd are.1
  stops-consistent consistent_so m (file ∷ below) are list answers c new opened driven on =
      let since = flushed (chain_disk g.layer c) in
      let format = opened.layers.0.opened.format_is ∙ are.1.format in
      stops-in _ (λ f. Consistent (bytes_of f)) (g.image c.0) (g.image new.0) (λ f left. consistent_so c.0 f format left.1)
      (stops-told g since list answers c new
      (record { telling = opens-telling m (file ∷ below) are c opened; driven = driven; on = on }))
