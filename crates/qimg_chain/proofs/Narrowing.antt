-- The first value of a range that can't be read is found by reads of its parts.
use Rattle.std.proofs.Common.{◌≡◌, ◌∙◌, ◌<◌, ◌≤◌, ◌+◌, ◌-◌, ◌%◌, ◌^◌, ℕ, List, ap, arith, inl, inr, length, subst, sym}
use Rattle.std.specs.Prelude.{None, Some}
use Rattle.std.proofs.lemmas.Bool.{cases_lt}
use Rattle.imago_storage.specs.Disk.{Shows, Value, barred, byte, damaged_place}
use Rattle.imago_storage.specs.State.{IsAlignment, StorageState}
use Rattle.imago_storage.specs.Through.{round_up}
use Rattle.imago_storage.specs.declared.fault.Fault.{Fault}
use Rattle.imago_storage.proofs.Rounding.{round_up_part, round_up_whole}
use Rattle.imago_storage.specs.declared.fault.Fault.TheVariants.{Barred, DamagedTable, Failed, Memory, MissingData, RangeOverflow, Storage}
use Rattle.imago_access.specs.Chain.{at, unit_of_chain}
use Rattle.imago_access.specs.Files.{IsNotResourceError, SomeRose}
use Rattle.imago_access.specs.Layer.{Layer}
use Rattle.imago_access.specs.Refusals.{ReadCause, SomeUnusable}
use Rattle.imago_access.specs.declared.driver_model.DriverModel.{Ghosts}
use Rattle.qimg_core.specs.Plain.{IsFirstFault, value_fault}
use Rattle.qimg_chain.specs.PlainReads.{HasFault, IsNarrowed, IsOfPlace, NotReadInOrder, SomeFileMayFail}

-- A value that can't be read has no other fault.
pub not_of_value : (v : Value) (fault : Fault) → (IsOfPlace fault → ⊥) → value_fault v ≡ Some fault → ⊥
not_of_value (byte n) fault other is = cc is
not_of_value barred fault other is = let same : Barred ≡ fault = cc is in other (subst IsOfPlace same tt)
not_of_value damaged_place fault other is = let same : DamagedTable ≡ fault = cc is in other (subst IsOfPlace same tt)

-- The first value that can't be read is the reason why no later one is read.
pub in_order : {D St : Type 0} (g : Ghosts D St) (value : ℕ → Value) (offset n : ℕ) (fault : Fault) → IsFirstFault value offset n fault
    → NotReadInOrder g value offset n fault
in_order g value offset n Memory first = tt
in_order g value offset n Storage first = absurd (not_of_value (value (offset + first.place)) Storage (λ place. place) first.faulty)
in_order g value offset n RangeOverflow first = absurd (not_of_value (value (offset + first.place)) RangeOverflow (λ place. place) first.faulty)
in_order g value offset n fault first = first

-- If the end of a padded range doesn't fit 64 bits, the end is within 2^20 bytes of 2^64.
near_end : (unit k : ℕ) → IsAlignment unit → 2 ^ 64 ≤ round_up unit k → 2 ^ 64 ≤ k + 2 ^ 20
near_end unit k aligned high = elim (cases_lt 0 (k % unit)) [
  | inl part ↦ let is = round_up_part unit k aligned.positive part in omega (arith, is, high, aligned.small)
  | inr whole ↦ let is = round_up_whole unit k aligned.positive (omega (arith, whole)) in omega (arith, is, high)
]

-- Such a fault isn't a resource error.
pub not_resource_error : (fault : Fault) → IsOfPlace fault → IsNotResourceError fault
not_resource_error Barred place = tt
not_resource_error DamagedTable place = tt
not_resource_error fault place = absurd place

-- The cause of an error, by equal layers.
pub moved : (ls layers : List Layer) (begin m : ℕ) (olds news : List StorageState) (fault : Fault) → ls ≡ layers
    → ReadCause ls (at ls) (unit_of_chain ls) begin m olds news fault → ReadCause layers (at layers) (unit_of_chain layers) begin m olds news fault
moved ls layers begin m olds news fault same why = subst (λ (ys : List Layer). ReadCause ys (at ys) (unit_of_chain ys) begin m olds news fault) same why

module _ (layers : List Layer) (value : ℕ → Value) (unit : ℕ) (usable : (f : Fault) → SomeUnusable layers f → ⊥) (olds news : List StorageState) where
  -- A read that fails because of a value has met such a value.
  pub met : (begin m : ℕ) (fault : Fault) → IsOfPlace fault → ReadCause layers value unit begin m olds news fault → HasFault value begin m fault
  met begin m Barred place why = (why.0, why.1, ap value_fault why.2)
  met begin m DamagedTable place why = (why.0, why.1, ap value_fault why.2)
  met begin m fault place why = absurd place

  -- If the read of a part fails for another reason, that is the reason why the whole range isn't read.
  pub otherwise : {D St : Type 0} (g : Ghosts D St) → (SomeRose olds news → SomeFileMayFail g) → IsAlignment unit → (offset n begin m : ℕ) (fault : Fault)
      → offset ≤ begin → begin + m ≤ offset + n → (IsOfPlace fault → ⊥) → ReadCause layers value unit begin m olds news fault
      → NotReadInOrder g value offset n fault
  otherwise g fails aligned offset n begin m Failed low most place why = absurd (usable Failed why)
  otherwise g fails aligned offset n begin m MissingData low most place why = absurd (usable MissingData why)
  otherwise g fails aligned offset n begin m RangeOverflow low most place why =
      (omega (arith, why.0, low, most), omega (arith, near_end unit (begin + m) aligned why.1, most))
  otherwise g fails aligned offset n begin m DamagedTable low most place why = absurd (place tt)
  otherwise g fails aligned offset n begin m Barred low most place why = absurd (place tt)
  otherwise g fails aligned offset n begin m Memory low most place why = tt
  otherwise g fails aligned offset n begin m Storage low most place why = fails why
  otherwise g fails aligned offset n begin m fault low most place why = absurd why

module _ (value : ℕ → Value) (offset n : ℕ) where
  -- At the start it is only known that one value can't be read.
  pub begun : (fault : Fault) → HasFault value offset n fault → IsNarrowed value offset n 0 n fault
  begun fault has = record {
    most = omega arith;
    before = λ i none. absurd (omega (arith, none));
    faulty = (has.0, omega arith, has.1, has.2);
  }

  byte_at : (good : ℕ) (bytes : List ℕ) → Shows value (offset + good) bytes → (i : ℕ) → good ≤ i → i < good + length bytes → value_fault (value (offset + i)) ≡ None
  byte_at good bytes shows i low high =
      let same : offset + i ≡ offset + good + (i - good) = omega (arith, low) in
      ap (λ p. value_fault (value p)) same ∙ ap value_fault (shows (i - good) (omega (arith, low, high)))

  -- The part is read, so the value is after it.
  pub passed : (good end middle : ℕ) (bytes : List ℕ) (fault : Fault) → IsNarrowed value offset n good end fault → middle ≡ good + length bytes
      → Shows value (offset + good) bytes → IsNarrowed value offset n middle end fault
  passed good end middle bytes fault so_far is shows = record {
    most = so_far.most;
    before = λ i less. elim (cases_lt i good) [
      | inl low ↦ so_far.before i low
      | inr high ↦ byte_at good bytes shows i high (omega (arith, less, is))
    ];
    faulty = elim (cases_lt so_far.faulty.0 middle) [
      | inl low ↦ absurd (cc (sym (byte_at good bytes shows so_far.faulty.0 so_far.faulty.1 (omega (arith, low, is))) ∙ so_far.faulty.3))
      | inr high ↦ (so_far.faulty.0, high, so_far.faulty.2, so_far.faulty.3)
    ];
  }

  -- The part isn't read, so a value in it can't be read.
  pub found : (good end middle m : ℕ) (before fault : Fault) → IsNarrowed value offset n good end before → middle ≡ good + m → middle ≤ end
      → HasFault value (offset + good) m fault → IsNarrowed value offset n good middle fault
  found good end middle m before fault so_far is le has =
      let same : offset + good + has.0 ≡ offset + (good + has.0) = omega arith in
      record {
        most = omega (arith, so_far.most, le);
        before = so_far.before;
        faulty = (good + has.0, omega arith, omega (arith, has.1, is), ap (λ p. value_fault (value p)) (sym same) ∙ has.2);
      }

  -- If only one value is left, it is the first.
  pub alone : (good end : ℕ) (fault : Fault) → IsNarrowed value offset n good end fault → end - good ≤ 1 → IsFirstFault value offset n fault
  alone good end fault so_far one = record {
    place = so_far.faulty.0;
    inside = omega (arith, so_far.faulty.2, so_far.most);
    faulty = so_far.faulty.3;
    before = λ i less. so_far.before i (omega (arith, less, so_far.faulty.1, so_far.faulty.2, one));
  }
