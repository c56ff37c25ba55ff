-- The results of reading the pieces of a range, from the entries that map them.
use Rattle.std.proofs.Common.{◌≡◌, ℕ, ◌+◌, ◌-◌, ◌*◌, ◌/◌, ◌%◌, ◌^◌, ◌<◌, ◌≤◌, arith, ap, sym, ◌∙◌, List, ◌++◌, length, take, drop, get_or, inl, inr, length-take, length-drop, length-append}
use Rattle.std.specs.Prelude.{Bool, slice_index, Result, Ok, Err, OnOk, IfErr}
use Rattle.std.proofs.lemmas.Bool.{cases_lt}
use Rattle.std.proofs.lemmas.List.{get_or-take, get_or_append_left, get_or-append_right}
use Rattle.std.proofs.Math.Nat.{div-add-mod}
use Rattle.std.proofs.lemmas.Nat.{mod-mul-add, div-mul-add}
use Rattle.std.proofs.lemmas.Slice.{take-put_mid}
use borrow.Rule.Slice.PartMut.{put_mid}
use Rattle.imago_storage.specs.State.{StorageState}
use Rattle.imago_storage.specs.Calls.{UnchangedButFaults, Reads, CountsFaults}
use Rattle.imago_storage.specs.Disk.{Value, byte, Shows}
use Rattle.imago_storage.specs.declared.fault.Fault.{Fault}
use Rattle.imago_storage.specs.declared.fault.Fault.TheVariants.{Memory, Storage}
use Rattle.qcow2_types.specs.Bytes.{bytes_of}
use Rattle.qcow2_types.specs.Words.{data_at}
use Rattle.qimg_core.specs.Plain.{IsFirstFault, NotShown, mapped_value, value_fault}
use Rattle.qimg_core.proofs.Calls.{kept-both}

pub mod-near : (at i unit : ℕ) → at % unit + i < unit → (at + i) % unit ≡ at % unit + i
mod-near at i unit near =
    let split : at / unit * unit + (at % unit + i) ≡ at + i = omega (arith, apart at unit) in
    ap (λ n. n % unit) (sym split) ∙ mod-mul-add (at / unit) unit (at % unit + i) near
  where
    apart : (n k : ℕ) → n / k * k + n % k ≡ n
    apart n k = omega (arith, div-add-mod n k)

pub div-near : (at i unit : ℕ) → at % unit + i < unit → (at + i) / unit ≡ at / unit
div-near at i unit near =
    let split : at / unit * unit + (at % unit + i) ≡ at + i = omega (arith, apart at unit) in
    ap (λ n. n / unit) (sym split) ∙ div-mul-add (at / unit) unit (at % unit + i) near
  where
    apart : (n k : ℕ) → n / k * k + n % k ≡ n
    apart n k = omega (arith, div-add-mod n k)

-- Data that is read from its host cluster.
pub data-shown : (result : Result (Unit {0}) Fault) (bytes : List ℕ) (bits cluster place at : ℕ) (copied : Bool) (buffer : List ℕ) → place ≡ cluster * 2 ^ bits + at % 2 ^ bits → at % 2 ^ bits + length buffer ≤ 2 ^ bits → OnOk result (Reads bytes place buffer)
    → OnOk result (Shows (mapped_value (bytes_of bytes) bits (data_at cluster copied)) at buffer)
data-shown (Err _) bytes bits cluster place at copied buffer is fits reads = tt
data-shown (Ok _) bytes bits cluster place at copied buffer is fits reads = λ i lt.
    let near : (at + i) % 2 ^ bits ≡ at % 2 ^ bits + i = mod-near at i (2 ^ bits) (omega arith) in
    let spot : cluster * 2 ^ bits + (at + i) % 2 ^ bits ≡ place + i = omega arith in
    ap byte (ap (bytes_of bytes) spot ∙ sym (reads i lt))

pub counts-unshown : (result : Result (Unit {0}) Fault) (value : ℕ → Value) (old new : StorageState) (at n : ℕ) → CountsFaults old.faults new.faults result → IfErr result (NotShown value old new at n)
counts-unshown (Ok _) value old new at n counts = tt
counts-unshown (Err Memory) value old new at n counts = counts
counts-unshown (Err Storage) value old new at n counts = counts
counts-unshown (Err fault) value old new at n counts = absurd counts

pub counts-same : (result : Result (Unit {0}) Fault) (old new : StorageState) → CountsFaults old.faults new.faults result → OnOk result (new.faults ≡ old.faults)
counts-same (Ok _) old new counts = counts
counts-same (Err _) old new counts = tt

-- The invariant of a loop over pieces: the bytes before this offset are read.
pub record ShownSoFar (value : ℕ → Value) (old now : StorageState) (offset done : ℕ) (buffer : List ℕ) : Type 0 where
  pub kept : UnchangedButFaults old now
  pub faults : now.faults ≡ old.faults
  pub most : done ≤ length buffer
  pub read : (i : ℕ) → i < done → value (offset + i) ≡ byte (slice_index buffer i)

pub shown-more : (value value' : ℕ → Value) (old now new : StorageState) (offset done n at k : ℕ) (buffer piece : List ℕ) → ShownSoFar value old now offset done buffer → k ≡ n → length piece ≡ n → done + n ≤ length buffer → at ≡ offset + done
    → ((i : ℕ) → i < n → value (at + i) ≡ value' (at + i)) → Shows value' at piece → UnchangedButFaults now new → new.faults ≡ now.faults → ShownSoFar value old new offset (done + n) (put_mid done k buffer piece)
shown-more value value' old now new offset done n at k buffer piece so is long fits place same shows kept faults =
    let whole : take (done + n) (put_mid done k buffer piece) ≡ take done buffer ++ piece = take-put_mid done k buffer piece (done + n) (omega arith) (omega arith) in
    let room : done + n ≤ length (put_mid done k buffer piece) = rw (is-length) fits in
    record {
      kept = kept-both old now new so.kept kept;
      faults = faults ∙ so.faults;
      most = room;
      read = λ i lt. elim (cases_lt i done) [
        | inl less ↦ so.read i less ∙ ap byte (sym (here whole i lt ∙ (get_or_append_left (take done buffer) piece 0 i (omega (arith, length-take done buffer, so.most)) ∙ get_or-take done buffer i 0 less)))
        | inr more ↦
            let spot : at + (i - done) ≡ offset + i = omega arith in
            let front : length (take done buffer) ≡ done = omega (arith, length-take done buffer, so.most) in
            ap value (sym spot)
            ∙ (same (i - done) (omega arith)
            ∙ (shows (i - done) (omega arith) ∙ ap byte (sym (here whole i lt ∙ (get_or-append_right (take done buffer) piece done i 0 front more)))))
      ];
    }
  where
    is-length : length (put_mid done k buffer piece) ≡ length buffer
    is-length = omega (arith, length-append (take done buffer) (piece ++ drop k (drop done buffer)), length-append piece (drop k (drop done buffer)), length-take done buffer, length-drop k (drop done buffer), length-drop done buffer, so.most)

    here : take (done + n) (put_mid done k buffer piece) ≡ take done buffer ++ piece → (i : ℕ) → i < done + n → get_or (put_mid done k buffer piece) i 0 ≡ get_or (take done buffer ++ piece) i 0
    here whole i lt = sym (get_or-take (done + n) (put_mid done k buffer piece) i 0 lt) ∙ ap (λ xs. get_or xs i 0) whole

-- The first value that can't be read is in this piece, as all before it were read.
fault-later : (value value' : ℕ → Value) (old now : StorageState) (offset done n at length_ : ℕ) (buffer : List ℕ) (fault : Fault) → ShownSoFar value old now offset done buffer → done + n ≤ length_ → at ≡ offset + done
    → ((i : ℕ) → i < n → value (at + i) ≡ value' (at + i)) → IsFirstFault value' at n fault → IsFirstFault value offset length_ fault
fault-later value value' old now offset done n at length_ buffer fault so fits place same first = record {
  place = done + first.place;
  inside = omega (arith, first.inside);
  faulty =
      let spot : offset + (done + first.place) ≡ at + first.place = omega arith in
      ap (λ p. value_fault (value p)) spot ∙ (ap value_fault (same first.place first.inside) ∙ first.faulty);
  before = λ i lt. elim (cases_lt i done) [
    | inl less ↦ ap value_fault (so.read i less)
    | inr more ↦
        let spot : offset + i ≡ at + (i - done) = omega arith in
        let less : i - done < first.place = omega arith in
        let within : i - done < n = omega (arith, first.inside) in
        ap (λ p. value_fault (value p)) spot ∙ (ap value_fault (same (i - done) within) ∙ first.before (i - done) less)
  ];
}

-- Reading a piece failed.
pub shown-short : (value value' : ℕ → Value) (old now new : StorageState) (offset done n at length_ : ℕ) (buffer : List ℕ) (fault : Fault) → ShownSoFar value old now offset done buffer → done + n ≤ length_ → at ≡ offset + done
    → ((i : ℕ) → i < n → value (at + i) ≡ value' (at + i)) → NotShown value' now new at n fault → NotShown value old new offset length_ fault
shown-short value value' old now new offset done n at length_ buffer Memory so fits place same why = why ∙ so.faults
shown-short value value' old now new offset done n at length_ buffer Storage so fits place same why =
    let same : now.faults ≡ old.faults = so.faults in record { not_fallen = omega (arith, why.not_fallen); rose = λ few. omega (arith, why.rose few) }
shown-short value value' old now new offset done n at length_ buffer fault so fits place same why = (fault-later value value' old now offset done n at length_ buffer fault so fits place same why.0, why.1 ∙ so.faults)
