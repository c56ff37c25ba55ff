-- A read of opened files returns what the files mean, or fails for the same reason.
use Rattle.std.proofs.Common.{◌≡◌, ◌⊎◌, ◌∙◌, ◌∷◌, ◌<◌, ◌≤◌, ◌+◌, ◌-◌, ◌^◌, [], ℕ, List, ap, arith, inl, inr, length, map, refl, sym}
use Rattle.std.specs.Prelude.{Bool, IfErr, OnOk, Result, Err, Ok, false, min, slice_index}
use Rattle.std.proofs.lemmas.Bool.{cases_lt, le-ltb}
use Rattle.imago_storage.specs.Disk.{Disk, Shows, Value, byte}
use Rattle.imago_storage.specs.State.{MayFail, StorageState}
use Rattle.imago_storage.specs.declared.fault.Fault.{Fault}
use Rattle.imago_storage.specs.declared.fault.Fault.TheVariants.{Memory, RangeOverflow, Storage}
use Rattle.imago_access.specs.Chain.{Each}
use Rattle.imago_access.specs.Refusals.{SomeUnusable}
use Rattle.imago_access.specs.declared.driver_model.DriverModel.{Ghosts}
use Rattle.qimg_core.specs.Plain.{IsFirstFault, value_fault}
use Rattle.qimg_core.specs.declared.plain.ChainFile.{ChainFile}
use Rattle.qimg_chain.specs.Chains.{AreLayers, mode}
use Rattle.qimg_chain.specs.FileMeanings.{FileBytes, IsDiskOf, files_bytes, size_of, value_of}
use Rattle.qimg_chain.specs.PlainReads.{IsOutOfReach, IsPlainlyRead, NotPlainlyRead, NotReadInOrder, SomeFileMayFail}
use Rattle.qimg_chain.specs.Refusals.{FormChain, HadResourceError}

module _ {S D St : Type 0} (g : Ghosts D St) (state : S → StorageState) where
  -- Each layer that was just opened is coherent.
  pub seen : (writable : Bool) (number : ℕ) (files : List (ChainFile S)) (ds : List D) → AreLayers g state (mode writable number) files ds → Each g.coherent ds
  seen writable number [] [] are = tt
  seen writable number (file ∷ files) (d ∷ ds) are = (are.0.opened.coherent, seen false 0 files ds are.1)
  seen writable number [] (d ∷ ds) are = absurd are
  seen writable number (file ∷ files) [] are = absurd are

  -- Each layer can be used.
  pub usable : (writable : Bool) (number : ℕ) (files : List (ChainFile S)) (ds : List D) → AreLayers g state (mode writable number) files ds
      → (f : Fault) → SomeUnusable (map g.layer ds) f → ⊥
  usable writable number [] [] are f bad = bad
  usable writable number (file ∷ files) (d ∷ ds) are f (inl bad) = cc (sym are.0.opened.usable ∙ bad)
  usable writable number (file ∷ files) (d ∷ ds) are f (inr bad) = usable false 0 files ds are.1 f bad
  usable writable number [] (d ∷ ds) are f bad = are
  usable writable number (file ∷ files) [] are f bad = are

pub past_size : (files : List FileBytes) (p : ℕ) → size_of files ≤ p → value_of files p ≡ byte 0
past_size [] p past = refl
past_size (file ∷ below) p past = rw (le-ltb p (size_of (file ∷ below)) past) refl

-- The buffer was filled with zeroes, and its start was read, up to the size of the disk.
filled : (disk : Disk) (files : List FileBytes) (offset inside n : ℕ) (part whole : List ℕ) → length whole ≡ n → IsDiskOf disk files → inside ≡ min (size_of files - offset) n
    → length part ≡ inside → Shows disk.value offset part → ((i : ℕ) → i < inside → slice_index whole i ≡ slice_index part i)
    → ((i : ℕ) → inside ≤ i → slice_index whole i ≡ 0) → Shows (value_of files) offset whole
filled disk files offset inside n part whole all means is long shows front rest i less = elim (cases_lt i inside) [
  | inl within ↦ sym (means.value (offset + i)) ∙ shows i (omega (arith, within, long)) ∙ ap byte (sym (front i within))
  | inr behind ↦ past_size files (offset + i) (omega (arith, behind, is, less, all)) ∙ ap byte (sym (rest i behind))
]

module _ {S : Type 0} (state : S → StorageState) (files : List (ChainFile S)) (offset : ℕ) where
  -- The start of the buffer was read.
  pub read_plainly : {E : Type 0} (result : Result Unit E) (disk : Disk) (inside n : ℕ) (part whole : List ℕ) → FormChain state false files → offset + n < 2 ^ 64
      → length whole ≡ n → IsDiskOf disk (files_bytes state files) → inside ≡ min (size_of (files_bytes state files) - offset) n → length part ≡ inside
      → ((i : ℕ) → i < inside → slice_index whole i ≡ slice_index part i) → ((i : ℕ) → inside ≤ i → slice_index whole i ≡ 0)
      → OnOk result (Shows disk.value offset part) → OnOk result (IsPlainlyRead state files offset n whole)
  read_plainly (Ok done) disk inside n part whole formed fits all means is long front rest shows = record {
    formed = formed;
    fits = fits;
    shows = filled disk (files_bytes state files) offset inside n part whole all means is long shows front rest;
  }
  read_plainly (Err e) disk inside n part whole formed fits all means is long front rest shows = tt

  first_in : (value : ℕ → Value) (inside n : ℕ) (fault : Fault) → ((p : ℕ) → value p ≡ value_of (files_bytes state files) p) → inside ≤ n
      → IsFirstFault value offset inside fault → IsFirstFault (value_of (files_bytes state files)) offset n fault
  first_in value inside n fault same most first = record {
    place = first.place;
    inside = omega (arith, first.inside, most);
    faulty = ap value_fault (sym (same (offset + first.place))) ∙ first.faulty;
    before = λ i less. ap value_fault (sym (same (offset + i))) ∙ first.before i less;
  }

  refused_range : {D St : Type 0} (g : Ghosts D St) → (SomeFileMayFail g → MayFail state) → (disk : Disk) (inside n : ℕ) (fault : Fault) → IsDiskOf disk (files_bytes state files) → inside ≡ min (size_of (files_bytes state files) - offset) n
      → NotReadInOrder g disk.value offset inside fault
      → HadResourceError state fault ⊎ (IsFirstFault (value_of (files_bytes state files)) offset n fault ⊎ (IsOutOfReach (files_bytes state files) offset n × (fault ≡ RangeOverflow)))
  refused_range g fails disk inside n Memory means is why = inl (inl refl)
  refused_range g fails disk inside n Storage means is why = inl (inr (refl, fails why))
  refused_range g fails disk inside n RangeOverflow means is why = inr (inr ((omega (arith, is, why.0), omega (arith, is, why.0), omega (arith, is, why.0, why.1)), refl))
  refused_range g fails disk inside n fault means is why = inr (inl (first_in disk.value inside n fault means.value (omega (arith, is)) why))

  -- The reason why the start isn't read is the reason why the range isn't.
  pub not_read : {T D St : Type 0} (g : Ghosts D St) → (SomeFileMayFail g → MayFail state) → (result : Result T Fault) (disk : Disk) (inside n : ℕ) → FormChain state false files → offset + n < 2 ^ 64 → IsDiskOf disk (files_bytes state files)
      → inside ≡ min (size_of (files_bytes state files) - offset) n → IfErr result (NotReadInOrder g disk.value offset inside) → IfErr result (NotPlainlyRead state files offset n)
  not_read g fails (Ok done) disk inside n formed fits means is why = tt
  not_read g fails (Err fault) disk inside n formed fits means is why = elim (refused_range g fails disk inside n fault means is why) [
    | inl cut ↦ inl cut
    | inr first ↦ inr (inr (formed, inr (fits, first)))
  ]
